-- Where nothing ends a head or makes it bad, it goes on.
use Rattle.std.proofs.Common.{inl, inr, sym, ◌∙◌, ap, subst, refl, arith, append_assoc, append-nil}
use Rattle.std.specs.Prelude.{ℕ, ◌≡◌, ◌⊎◌, ◌<◌, Bool, true, false, ◌&&◌, ◌||◌, if◌then◌else◌, List, [], ◌∷◌, ◌++◌, length, drop, ◌==◌, Option, Some, None}
use Rattle.std.proofs.lemmas.Bool.Decides.{nat_tests}
use Rattle.ext_msgs.specs.declared.lists.Field.{Field}
use Rattle.http_model.specs.Reading.{Reading, Whole, Partial, BadHead, LongHead, onward, limited, Stays}
use Rattle.http_model.specs.Lines.{line, before, first_line, begins_with_lf, without_cr}
use Rattle.http_model.specs.Heads.{head_limit, field_limit, fields_behind, head_lines, request_line, status_line, message_head, head_so_far}
use Rattle.http_model.specs.declared.types.Direction.{Direction}
use Rattle.http_model.specs.declared.types.Direction.TheVariants.{Request, Response}
use Rattle.http_model.proofs.LinesStable.{first_line-stays}
use Rattle.h1_read.specs.declared.place.Shape.TheVariants.{Start}
use Rattle.h1_read.specs.declared.place.Place.{Place}
use Rattle.h1_read.specs.declared.place.Place.TheVariants.{Before, BeforeCr, FirstLine, FirstEnd, Fields, Ended}
use Rattle.h1_read.specs.Places.{place_on, empty_on, places, is_stop, is_quiet}
use Rattle.h1_read.specs.Steps.{IsOpen, IsLeft}
use Rattle.h1_read.proofs.PlaceLines.{IsIn, by_kind, section_goes_on, quiet_parts}
use Rattle.h1_read.specs.Limits.{is_empty_end}
use Rattle.h1_read.proofs.HeadLaw.{not_empty}
use Rattle.h1_read.proofs.ByLimit.{limited_short}
use Rattle.h1_read.proofs.Kept.{partial_short}
use Rattle.h1_read.proofs.TurnLaw.{run_starts, run_waits, request_left}

pub places-append : (p : Place) (a b : List ℕ) → places p (a ++ b) ≡ places (places p a) b
places-append p [] b = refl
places-append p (x ∷ a) b = places-append (place_on p x) a b

-- First lines

abbrev IsAhead : Place → Type 0
IsAhead Before = Unit {0}
IsAhead BeforeCr = Unit {0}
IsAhead FirstLine = Unit {0}
IsAhead _ = ⊥

record IsBehind (r : Reading (List ℕ)) (p : Place) : Type 0 where
  first : List ℕ
  rest : List ℕ
  reads : r ≡ Whole first rest
  same : p ≡ places FirstEnd rest

-- the place says whether the first line is read
abbrev Tells : Reading (List ℕ) → Place → Type 0
Tells r p = ((r ≡ Partial) × IsAhead p) ⊎ IsBehind r p

one_before : (b : ℕ) (r : Reading (List ℕ)) (p : Place) → Tells r p → Tells (before b r) p
one_before b r p (inl w) = inl (ap (before b) w.0, w.1)
one_before b r p (inr w) = inr (record { first = b ∷ w.first; rest = w.rest; reads = ap (before b) w.reads; same = w.same })

in_line : (bytes : List ℕ) → Tells (line bytes) (places FirstLine bytes)
in_line [] = inl (refl, tt)
in_line (b ∷ bytes) = by (b == 10) (in_line bytes)
  where
    by : (t : Bool) → Tells (line bytes) (places FirstLine bytes)
        → Tells (elim t [ true ↦ Whole [] bytes | false ↦ before b (line bytes) ]) (places (if t then FirstEnd else FirstLine) bytes)
    by true k = inr (record { first = []; rest = bytes; reads = refl; same = refl })
    by false k = one_before b (line bytes) (places FirstLine bytes) k

record Told (bytes : List ℕ) : Type 0 where
  here : Tells (first_line bytes) (places Before bytes)
  behind_cr : Tells (first_line (13 ∷ bytes)) (places BeforeCr bytes)

is_that : (b c : ℕ) → (b == c) ≡ true → b ≡ c
is_that b c e = grind (arith, nat_tests, e)

line_other : (b : ℕ) (bytes : List ℕ) → (b == 10) ≡ false → line (b ∷ bytes) ≡ before b (line bytes)
line_other b bytes e = ap (λ t. elim t [ true ↦ Whole [] bytes | false ↦ before b (line bytes) ]) e

after_empty : (b : ℕ) (bytes : List ℕ) → is_empty_end b bytes ≡ true → first_line (b ∷ bytes) ≡ first_line bytes
after_empty b bytes e = ap (λ t. elim t [ true ↦ first_line bytes | false ↦ line (b ∷ bytes) ]) e

both : (r s : Reading (List ℕ)) (p q : Place) → r ≡ s → p ≡ q → Tells s q → Tells r p
both r s p q e f k = subst (λ x. Tells x p) (sym e) (subst (λ x. Tells s x) (sym f) k)

told : (bytes : List ℕ) → Told bytes
told [] = record { here = inl (refl, tt); behind_cr = inl (refl, tt) }
told (b ∷ bytes) = record { here = here (b == 13) (b == 10) refl refl (told bytes); behind_cr = behind_cr (b == 10) refl (told bytes) }
  where
    from : Bool → Place
    from t = places (if t then Before else FirstLine) bytes

    from_either : Bool → Place
    from_either t = places (if t then BeforeCr else empty_on b) bytes

    other : (b == 10) ≡ false → Tells (before b (line bytes)) (places FirstLine bytes)
    other e = one_before b (line bytes) (places FirstLine bytes) (in_line bytes)

    here : (t u : Bool) → (b == 13) ≡ t → (b == 10) ≡ u → Told bytes → Tells (first_line (b ∷ bytes)) (places (place_on Before b) bytes)
    here true u e f k =
        both (first_line (b ∷ bytes)) (first_line (13 ∷ bytes)) (places (place_on Before b) bytes) (places BeforeCr bytes)
        (ap (λ c. first_line (c ∷ bytes)) (is_that b 13 e)) (ap from_either e) k.behind_cr
    here false true e f k =
        both (first_line (b ∷ bytes)) (first_line bytes) (places (place_on Before b) bytes) (places Before bytes)
        (after_empty b bytes (ap (λ t. t || (b == 13 && begins_with_lf bytes)) f)) (ap from_either e ∙ ap from f) k.here
    here false false e f k =
        both (first_line (b ∷ bytes)) (before b (line bytes)) (places (place_on Before b) bytes) (places FirstLine bytes)
        (not_empty b bytes (ap (λ t. t || (b == 13 && begins_with_lf bytes)) f ∙ ap (λ t. t && begins_with_lf bytes) e) ∙ line_other b bytes f)
        (ap from_either e ∙ ap from f) (other f)

    behind_cr : (u : Bool) → (b == 10) ≡ u → Told bytes → Tells (first_line (13 ∷ b ∷ bytes)) (places (place_on BeforeCr b) bytes)
    behind_cr true f k =
        both (first_line (13 ∷ b ∷ bytes)) (first_line bytes) (places (place_on BeforeCr b) bytes) (places Before bytes)
        (after_empty 13 (b ∷ bytes) f ∙ after_empty b bytes (ap (λ t. t || (b == 13 && begins_with_lf bytes)) f)) (ap from f) k.here
    behind_cr false f k =
        both (first_line (13 ∷ b ∷ bytes)) (before 13 (before b (line bytes))) (places (place_on BeforeCr b) bytes) (places FirstLine bytes)
        (not_empty 13 (b ∷ bytes) f ∙ ap (before 13) (line_other b bytes f)) (ap from f) (one_before 13 (before b (line bytes)) (places FirstLine bytes) (other f))

-- One byte more

ahead_still : (p : Place) (b : ℕ) → IsAhead p → IsIn (place_on p b) → ⊥
ahead_still Before b a h = by (b == 13) (b == 10) h
  where
    by : (t u : Bool) → IsIn (if t then BeforeCr else (if u then Before else FirstLine)) → ⊥
    by true u h = h
    by false true h = h
    by false false h = h
ahead_still BeforeCr b a h = by (b == 10) h
  where
    by : (u : Bool) → IsIn (if u then Before else FirstLine) → ⊥
    by true h = h
    by false h = h
ahead_still FirstLine b a h = by (b == 10) h
  where
    by : (u : Bool) → IsIn (if u then FirstEnd else FirstLine) → ⊥
    by true h = h
    by false h = h
ahead_still FirstEnd b a h = a
ahead_still (Fields left s) b a h = a
ahead_still Ended b a h = a

inside : (rest : List ℕ) → is_stop (places FirstEnd rest) ≡ false → IsIn (places (Fields field_limit Start) rest)
inside [] e = absurd cc
inside (b ∷ rest) e = by (by_kind field_limit Start (b ∷ rest))
  where
    by : IsIn (places (Fields field_limit Start) (b ∷ rest)) ⊎ (places (Fields field_limit Start) (b ∷ rest) ≡ Ended) → IsIn (places (Fields field_limit Start) (b ∷ rest))
    by (inl h) = h
    by (inr h) =
        let both : true ≡ false = ap is_stop (sym h) ∙ e in
        absurd cc

-- the first line was read well
record IsRead {A : Type 0} (o : Option A) : Type 0 where
  value : A
  is : o ≡ Some value

read_well : {A : Type 0} (o : Option A) (rest : List ℕ) → fields_behind o rest ≡ Partial → IsRead o
read_well None rest e = absurd cc
read_well (Some a) rest e = record { value = a; is = refl }

same_first : (a b r s : List ℕ) → ◌≡◌ {A = Reading (List ℕ)} (Whole a r) (Whole b s) → a ≡ b
same_first a b r s e = cc

byte_goes_on : {A : Type 0} (parse : List ℕ → Option A) (kept : List ℕ) (b : ℕ) → head_lines parse kept ≡ Partial → is_stop (place_on (places Before kept) b) ≡ false
    → head_lines parse (kept ++ b ∷ []) ≡ Partial
byte_goes_on {A} parse kept b e quiet = by ((told (kept ++ b ∷ [])).here)
  where
    next : List ℕ → List ℕ → Reading (A × List Field)
    next l rest = fields_behind (parse (without_cr l)) rest

    at : places Before (kept ++ b ∷ []) ≡ place_on (places Before kept) b
    at = places-append Before kept (b ∷ [])

    read : (w : IsBehind (first_line (kept ++ b ∷ [])) (places Before (kept ++ b ∷ []))) → IsIn (places Before (kept ++ b ∷ []))
        → Tells (first_line kept) (places Before kept) → IsRead (parse (without_cr w.first))
    read w h (inl k) = absurd (ahead_still (places Before kept) b k.1 (subst IsIn at h))
    read w h (inr k) =
        let more : first_line (kept ++ b ∷ []) ≡ Whole k.first (k.rest ++ b ∷ []) =
        subst (λ r. Stays r (b ∷ []) (first_line (kept ++ b ∷ []))) k.reads (first_line-stays kept (b ∷ [])) in
        let same : k.first ≡ w.first = same_first k.first w.first (k.rest ++ b ∷ []) w.rest (sym more ∙ w.reads) in
        subst (λ l. IsRead (parse (without_cr l))) same (read_well (parse (without_cr k.first)) k.rest (sym (ap (λ r. onward r next) k.reads) ∙ e))

    by : Tells (first_line (kept ++ b ∷ [])) (places Before (kept ++ b ∷ [])) → head_lines parse (kept ++ b ∷ []) ≡ Partial
    by (inl w) = ap (λ r. onward r next) w.0
    by (inr w) =
        let still : is_stop (places FirstEnd w.rest) ≡ false = ap is_stop (sym w.same ∙ at) ∙ quiet in
        let h : IsIn (places (Fields field_limit Start) w.rest) = inside w.rest still in
        let here : IsIn (places Before (kept ++ b ∷ [])) = subst IsIn (sym (w.same ∙ behind_first w.rest still)) h in
        let good = read w here (told kept).here in
        ap (λ r. onward r next) w.reads ∙ ap (λ o. fields_behind o w.rest) good.is
        ∙ ap (λ r. onward r (λ fields more. Whole (good.value, fields) more)) (section_goes_on BadHead field_limit w.rest h)
      where
        behind_first : (rest : List ℕ) → is_stop (places FirstEnd rest) ≡ false → places FirstEnd rest ≡ places (Fields field_limit Start) rest
        behind_first [] e = absurd cc
        behind_first (c ∷ rest) e = refl

-- Bytes in which the parser has nothing to read

lines_go_on : {A : Type 0} (parse : List ℕ → Option A) (kept more : List ℕ) → head_lines parse kept ≡ Partial → is_quiet (places Before kept) more ≡ true
    → head_lines parse (kept ++ more) ≡ Partial
lines_go_on parse kept [] e q = ap (head_lines parse) (append-nil kept) ∙ e
lines_go_on parse kept (b ∷ more) e q =
    let parts = quiet_parts (is_stop (place_on (places Before kept) b)) (is_quiet (place_on (places Before kept) b) more) q in
    ap (head_lines parse) (sym (append_assoc kept (b ∷ []) more))
    ∙ lines_go_on parse (kept ++ b ∷ []) more (byte_goes_on parse kept b e parts.0)
    (ap (λ p. is_quiet p more) (places-append Before kept (b ∷ [])) ∙ parts.1)

within_goes_on : {A : Type 0} (parse : List ℕ → Option A) (kept more : List ℕ) → limited head_limit LongHead (head_lines parse) kept ≡ Partial
    → length (kept ++ more) < head_limit → is_quiet (places Before kept) more ≡ true → limited head_limit LongHead (head_lines parse) (kept ++ more) ≡ Partial
within_goes_on parse kept more e h q =
    limited_short head_limit LongHead (head_lines parse) (kept ++ more) h
    ∙ lines_go_on parse kept more (sym (limited_short head_limit LongHead (head_lines parse) kept (partial_short head_limit LongHead (head_lines parse) kept e)) ∙ e) q

pub open_goes_on : (d : Direction) (kept more : List ℕ) → IsOpen d kept → length (kept ++ more) < head_limit → is_quiet (places Before kept) more ≡ true
    → IsOpen d (kept ++ more)
open_goes_on Request kept more e h q = within_goes_on request_line kept more e h q
open_goes_on Response kept more e h q = within_goes_on status_line kept more e h q

-- An open head is all that counts of its bytes

pub record IsStill (d : Direction) (to_head : Bool) (bytes : List ℕ) : Type 0 where
  pub message : message_head d to_head bytes ≡ Partial
  pub left : head_so_far d bytes ≡ bytes

pub open_still : (d : Direction) (to_head : Bool) (bytes : List ℕ) → IsOpen d bytes → IsStill d to_head bytes
open_still Request to_head bytes e = let w : IsLeft Request to_head bytes 0 = request_left to_head bytes e in record { message = w.message; left = refl }
open_still Response to_head bytes e =
    let w : IsLeft Response to_head bytes 0 = run_waits to_head bytes 0 0 (run_starts to_head bytes) (subst (λ b. IsOpen Response b) (none_off bytes) e) in
    record { message = w.message; left = w.left ∙ sym (none_off bytes) }
  where
    none_off : (bytes : List ℕ) → bytes ≡ drop 0 bytes
    none_off [] = refl
    none_off (b ∷ bytes) = refl
