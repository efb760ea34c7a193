-- What one more record adds to a field.
use Rattle.std.proofs.Common.{◌≡◌, ℕ, List, [], ◌∷◌, ◌++◌, Option, Some, None, refl, sym, ap, ◌∙◌, map}
use Rattle.std.specs.Prelude.{option_map, unwrap_or}
use Rattle.std.specs.List.{filter_map, flat_map, cons_option}
use Rattle.std.specs.Option.{option_to_list}
use Rattle.std.proofs.lemmas.List.{append-nil, map-append}
use Rattle.std.proofs.lemmas.List.Elements.{filter_map-append}
use Rattle.std.proofs.lemmas.Grind.{flat_map-append}
use Rattle.pb_wire.specs.Records.{Entry}
use Rattle.pb_wire.specs.Walk.{entries}
use Rattle.ext_msgs.specs.Fields.{span_at, varint_at, spans, varints, last_or, bytes_of, number_of, inside, if_any}
use Rattle.ext_msgs.specs.Parts.{filled, filled_if, pushed}
use Rattle.ext_msgs.proofs.Fold.{AddsOne, fold_from, fold_all}

consed : {Y : Type 0} (o : Option Y) → cons_option o [] ≡ option_to_list o
consed None = refl
consed (Some y) = refl

listed : {X Y : Type 0} (h : X → Option Y) (x : X) → filter_map h (x ∷ []) ≡ option_to_list (h x)
listed h x = consed (h x)

-- the occurrences, with those in one more record
found_push : {X Y : Type 0} (h : X → Option Y) (xs : List X) (x : X) → filter_map h (xs ++ x ∷ []) ≡ filter_map h xs ++ option_to_list (h x)
found_push h xs x = filter_map-append h xs (x ∷ []) ∙ ap (λ ys. filter_map h xs ++ ys) (listed h x)

last_push : {A : Type 0} (d : A) (xs : List A) (o : Option A) → last_or d (xs ++ option_to_list o) ≡ unwrap_or o (last_or d xs)
last_push d [] None = refl
last_push d [] (Some y) = refl
last_push d (x ∷ xs) o = last_push x xs o

pub bytes_push : (n : ℕ) (es : List Entry) (e : Entry) → bytes_of n (es ++ e ∷ []) ≡ unwrap_or (span_at n e) (bytes_of n es)
bytes_push n es e = ap (last_or []) (found_push (span_at n) es e) ∙ last_push [] (spans n es) (span_at n e)

pub number_push : (n : ℕ) (es : List Entry) (e : Entry) → number_of n (es ++ e ∷ []) ≡ unwrap_or (varint_at n e) (number_of n es)
number_push n es e = ap (last_or 0) (found_push (varint_at n) es e) ∙ last_push 0 (varints n es) (varint_at n e)

-- a number that is seen by f
pub seen_push : {A : Type 0} (f : ℕ → A) (n : ℕ) (es : List Entry) (e : Entry) → unwrap_or (option_map f (varint_at n e)) (f (number_of n es)) ≡ f (number_of n (es ++ e ∷ []))
seen_push f n es e = through (varint_at n e) (number_of n es) ∙ ap f (sym (number_push n es e))
  where
    through : (o : Option ℕ) (d : ℕ) → unwrap_or (option_map f o) (f d) ≡ f (unwrap_or o d)
    through None d = refl
    through (Some y) d = refl

inside_with : (bs : List (List ℕ)) (o : Option (List ℕ)) → flat_map entries (bs ++ option_to_list o) ≡ flat_map entries bs ++ flat_map entries (option_to_list o)
inside_with bs o = flat_map-append entries bs (option_to_list o)

module _ {S : Type 0} (add : S → Entry → S) (value : List Entry → S) (one : AddsOne add value) where
  filled_with : (es : List Entry) (o : Option (List ℕ)) → filled add (value es) o ≡ value (es ++ flat_map entries (option_to_list o))
  filled_with es None = ap value (sym (append-nil es))
  filled_with es (Some bytes) = fold_from add value one es (entries bytes) ∙ ap (λ m. value (es ++ m)) (sym (append-nil (entries bytes)))

  -- an embedded message
  pub inside_push : (n : ℕ) (es : List Entry) (e : Entry) → filled add (value (inside n es)) (span_at n e) ≡ value (inside n (es ++ e ∷ []))
  inside_push n es e = filled_with (inside n es) (span_at n e) ∙ ap value (sym (ap (flat_map entries) (found_push (span_at n) es e) ∙ inside_with (spans n es) (span_at n e)))

  -- an embedded message that may be absent
  any_with : (bs : List (List ℕ)) (o : Option (List ℕ)) → filled_if add (value []) (if_any bs (value (flat_map entries bs))) o ≡ if_any (bs ++ option_to_list o) (value (flat_map entries (bs ++ option_to_list o)))
  any_with [] None = refl
  any_with [] (Some b) = ap Some (fold_all add value one (entries b) ∙ ap value (sym (append-nil (entries b))))
  any_with (c ∷ bs) None = ap (λ ds. if_any (c ∷ ds) (value (flat_map entries (c ∷ ds)))) (sym (append-nil bs))
  any_with (c ∷ bs) (Some b) = ap Some (filled_with (flat_map entries (c ∷ bs)) (Some b) ∙ ap value (sym (inside_with (c ∷ bs) (Some b))))

  pub any_push : (n : ℕ) (es : List Entry) (e : Entry) → filled_if add (value []) (if_any (spans n es) (value (inside n es))) (span_at n e) ≡ if_any (spans n (es ++ e ∷ [])) (value (inside n (es ++ e ∷ [])))
  any_push n es e = any_with (spans n es) (span_at n e) ∙ ap (λ bs. if_any bs (value (flat_map entries bs))) (sym (found_push (span_at n) es e))

-- a repeated field
pushed_with : {X : Type 0} (f g : List ℕ → X) → ((b : List ℕ) → g b ≡ f b) → (bs : List (List ℕ)) (o : Option (List ℕ)) → pushed (map f bs) g o ≡ map f (bs ++ option_to_list o)
pushed_with f g same bs None = ap (map f) (sym (append-nil bs))
pushed_with f g same bs (Some b) = ap (λ x. map f bs ++ x ∷ []) (same b) ∙ sym (map-append f bs (b ∷ []))

pub repeated_push : {X : Type 0} (f g : List ℕ → X) → ((b : List ℕ) → g b ≡ f b) → (n : ℕ) (es : List Entry) (e : Entry) → pushed (map f (spans n es)) g (span_at n e) ≡ map f (spans n (es ++ e ∷ []))
repeated_push f g same n es e = pushed_with f g same (spans n es) (span_at n e) ∙ ap (map f) (sym (found_push (span_at n) es e))

spans_with : (bs : List (List ℕ)) (o : Option (List ℕ)) → pushed bs (λ b. b) o ≡ bs ++ option_to_list o
spans_with bs None = sym (append-nil bs)
spans_with bs (Some b) = refl

-- the same where each occurrence stands for itself
pub spans_push : (n : ℕ) (es : List Entry) (e : Entry) → pushed (spans n es) (λ b. b) (span_at n e) ≡ spans n (es ++ e ∷ [])
spans_push n es e = spans_with (spans n es) (span_at n e) ∙ sym (found_push (span_at n) es e)

mapped_push : {A : Type 0} (f : ℕ → A) (d : A) (vs : List ℕ) (o : Option ℕ) → last_or d (map f (vs ++ option_to_list o)) ≡ unwrap_or (option_map f o) (last_or d (map f vs))
mapped_push f d [] None = refl
mapped_push f d [] (Some v) = refl
mapped_push f d (x ∷ vs) o = mapped_push f (f x) vs o

-- a number that is seen by f, with a default of its own
pub optional_push : {A : Type 0} (f : ℕ → A) (d : A) (n : ℕ) (es : List Entry) (e : Entry) → unwrap_or (option_map f (varint_at n e)) (last_or d (map f (varints n es))) ≡ last_or d (map f (varints n (es ++ e ∷ [])))
optional_push f d n es e = sym (ap (λ vs. last_or d (map f vs)) (found_push (varint_at n) es e) ∙ mapped_push f d (varints n es) (varint_at n e))
