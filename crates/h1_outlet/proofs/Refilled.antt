-- Where nothing written is left, what goes next is written, and the bytes that are left stay the same.
use Rattle.std.proofs.Common.{refl, sym, ◌∙◌, ap, arith, append-nil}
use Rattle.std.specs.Prelude.{ℕ, ◌≡◌, ◌+◌, ◌-◌, ◌<◌, min, Bool, true, false, List, [], ◌∷◌, ◌++◌, length}
use Rattle.http_model.specs.Bytes.{is_empty}
use Rattle.http_model.specs.Wire.{interim}
use Rattle.http_model.specs.declared.types.Out.TheVariants as part
use Rattle.filter_model.specs.Given.{data_at}
use Rattle.h1_outlet.specs.Parts.{unwritten, has_bytes, written_way}
use Rattle.h1_outlet.specs.Outlets.{Flowed, body_in, left_of, body_of, refilled, refilled_with, ready_at, readied}
use Rattle.h1_outlet.specs.Stands.{StandsFor}
use Rattle.h1_outlet.specs.Ways.{Way}
use Rattle.h1_outlet.specs.declared.outlet.Outlet.{Outlet}
use Rattle.h1_outlet.proofs.PartBytes.{WayFits, clash, data_written, no_bytes, no_data, some_bytes, written_fits, written_left}

pub none_owed : interim false ≡ []
unfolding interim
none_owed = refl

pub interim_some : 0 < length (interim true)
unfolding interim
interim_some = omega arith

-- the same bytes are left, and the same body bytes among them
pub record Alike (x y : Outlet) : Type 0 where
  pub direction : y.direction ≡ x.direction
  pub framing : y.framing ≡ x.framing
  pub trailers : y.trailers ≡ x.trailers
  pub left : left_of y ≡ left_of x
  pub reply : x.reply ≡ [] → y.reply ≡ []
  pub fits : WayFits y.going
  pub body : (n : ℕ) → body_of y n ≡ body_of x n

alike_stands : (f : Flowed) (x y : Outlet) → Alike x y → StandsFor f x → StandsFor f y
alike_stands f x y a s = record {
  direction = a.direction ∙ s.direction;
  framing = a.framing ∙ s.framing;
  trailers = a.trailers ∙ s.trailers;
  within = s.within;
  left = a.left ∙ s.left;
  reply = λ e. a.reply (s.reply e);
  fits = a.fits;
  body = λ n. s.body n ∙ ap (λ k. body_in f f.given + k) (sym (a.body n));
}

-- where no written byte is left, none of a body is
pub none_left : (w : Way) (n : ℕ) → w.left ≡ [] → WayFits w → min (n - w.skip) w.body ≡ 0
none_left w n e h = let k : length w.left ≡ 0 = ap length e in omega (arith, h, k)

none_plain : (n : ℕ) → min (n - 0) 0 ≡ 0
none_plain n = omega arith

-- the interim response
owed_alike : (x : Outlet) → x.going.left ≡ [] → WayFits x.going → x.interim ≡ true → (some : Bool) → Alike x (refilled_with true some x)
owed_alike x e h i some = record {
  direction = refl;
  framing = refl;
  trailers = refl;
  left = ap (λ l. l ++ unwritten x.direction x.framing x.trailers x.next ++ x.reply) same;
  reply = λ z. z;
  fits = omega arith;
  body = λ n. plus (none_plain n ∙ sym (none_left x.going n e h)) (ap (λ l. data_at x.framing (n - length l) x.next) same);
}
  where
    same : interim true ++ interim false ≡ x.going.left ++ interim x.interim
    same = ap (λ l. interim true ++ l) none_owed ∙ append-nil (interim true) ∙ ap interim (sym i) ∙ ap (λ l. l ++ interim x.interim) (sym e)

    plus : {a b c d : ℕ} → a ≡ b → c ≡ d → a + c ≡ b + d
    plus e f = cc

-- the part that was put last
part_alike : (x : Outlet) → x.going.left ≡ [] → WayFits x.going → x.interim ≡ false → has_bytes x.framing x.trailers x.next ≡ true → Alike x (refilled_with false true x)
part_alike x e h i b = record {
  direction = refl;
  framing = refl;
  trailers = refl;
  left =
      ap (λ l. w.left ++ l ++ [] ++ x.reply) owed
      ∙ ap (λ l. l ++ x.reply) (append-nil (w.left ++ []) ∙ append-nil w.left ∙ written_left x.direction x.framing x.trailers x.next b)
      ∙ ap (λ l. l ++ unwritten x.direction x.framing x.trailers x.next ++ x.reply) (sym nothing);
  reply = λ z. z;
  fits = written_fits x.direction x.framing x.trailers x.next;
  body = λ n.
      ap (λ k. min (n - w.skip) w.body + k) (no_data x.framing x.trailers part.Nothing (n - length (w.left ++ interim x.interim)) refl)
      ∙ plus_none _ ∙ data_written x.direction x.framing x.trailers x.next n b
      ∙ ap (λ k. data_at x.framing k x.next) (minus n (length (x.going.left ++ interim x.interim)) (ap length nothing))
      ∙ none_plus _ _ (none_left x.going n e h);
}
  where
    w : Way
    w = written_way x.direction x.framing x.trailers x.next

    owed : interim x.interim ≡ []
    owed = ap interim i ∙ none_owed

    nothing : x.going.left ++ interim x.interim ≡ []
    nothing = ap (λ l. l ++ interim x.interim) e ∙ owed

    plus_none : (k : ℕ) → k + 0 ≡ k
    plus_none k = omega arith

    minus : (n k : ℕ) → k ≡ 0 → n ≡ n - k
    minus n k e = omega arith

    none_plus : (a b : ℕ) → a ≡ 0 → b ≡ a + b
    none_plus a b e = omega arith

-- the reply
reply_alike : (x : Outlet) → x.going.left ≡ [] → WayFits x.going → x.interim ≡ false → has_bytes x.framing x.trailers x.next ≡ false → Alike x (refilled_with false false x)
reply_alike x e h i b = record {
  direction = refl;
  framing = refl;
  trailers = refl;
  left =
      append-nil (x.reply ++ interim x.interim ++ []) ∙ append-nil (x.reply ++ interim x.interim) ∙ ap (λ l. x.reply ++ l) owed ∙ append-nil x.reply
      ∙ ap (λ l. l ++ x.reply) (sym (ap (λ l. l ++ unwritten x.direction x.framing x.trailers x.next) nothing ∙ no_bytes x.direction x.framing x.trailers x.next b));
  reply = λ z. refl;
  fits = omega arith;
  body = λ n. plus (none_plain n ∙ sym (none_left x.going n e h))
      (no_data x.framing x.trailers part.Nothing (n - length (x.reply ++ interim x.interim)) refl
      ∙ sym (no_data x.framing x.trailers x.next (n - length (x.going.left ++ interim x.interim)) b));
}
  where
    owed : interim x.interim ≡ []
    owed = ap interim i ∙ none_owed

    nothing : x.going.left ++ interim x.interim ≡ []
    nothing = ap (λ l. l ++ interim x.interim) e ∙ owed

    plus : {a b c d : ℕ} → a ≡ b → c ≡ d → a + c ≡ b + d
    plus e f = cc

refilled_alike : (x : Outlet) → x.going.left ≡ [] → WayFits x.going → Alike x (refilled x)
refilled_alike x e h = by x.interim (has_bytes x.framing x.trailers x.next) refl refl
  where
    by : (a b : Bool) → x.interim ≡ a → has_bytes x.framing x.trailers x.next ≡ b → Alike x (refilled_with a b x)
    by true b i j = owed_alike x e h i b
    by false true i j = part_alike x e h i j
    by false false i j = reply_alike x e h i j

pub empty_list : (l : List ℕ) → is_empty l ≡ true → l ≡ []
empty_list [] e = refl
empty_list (x ∷ l) e = absurd (clash (sym e))

pub ready_stands : (f : Flowed) (x : Outlet) → StandsFor f x → StandsFor f (readied x)
ready_stands f x s = by (is_empty x.going.left) refl
  where
    by : (b : Bool) → is_empty x.going.left ≡ b → StandsFor f (ready_at b x)
    by true e = alike_stands f x (refilled x) (refilled_alike x (empty_list x.going.left e) s.fits) s
    by false e = s

-- where none is written then, none is left

pub some_length : (l : List ℕ) → 0 < length l → l ≡ [] → ⊥
some_length l h e = let k : length l ≡ 0 = ap length e in omega arith

refilled_none : (x : Outlet) → (refilled x).going.left ≡ [] → left_of (refilled x) ≡ []
refilled_none x = by x.interim (has_bytes x.framing x.trailers x.next) refl refl
  where
    by : (a b : Bool) → x.interim ≡ a → has_bytes x.framing x.trailers x.next ≡ b → (refilled_with a b x).going.left ≡ [] → left_of (refilled_with a b x) ≡ []
    by true b i j e = absurd (some_length (interim true) interim_some e)
    by false true i j e =
        absurd (some_length (unwritten x.direction x.framing x.trailers x.next) (some_bytes x.direction x.framing x.trailers x.next j)
        (sym (written_left x.direction x.framing x.trailers x.next j) ∙ e))
    by false false i j e =
        append-nil (x.reply ++ interim x.interim ++ []) ∙ append-nil (x.reply ++ interim x.interim) ∙ ap (λ l. l ++ interim x.interim) e ∙ ap interim i ∙ none_owed

pub ready_none : (x : Outlet) → (readied x).going.left ≡ [] → left_of (readied x) ≡ []
ready_none x = by (is_empty x.going.left) refl
  where
    empty_true : (l : List ℕ) → l ≡ [] → is_empty l ≡ true
    empty_true l e = ap is_empty e

    by : (b : Bool) → is_empty x.going.left ≡ b → (ready_at b x).going.left ≡ [] → left_of (ready_at b x) ≡ []
    by true i e = refilled_none x e
    by false i e = absurd (clash (sym (empty_true x.going.left e) ∙ i))
