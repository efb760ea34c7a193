-- Where nothing ends a section or makes it bad, it goes on.
use Rattle.std.proofs.Common.{inl, inr, sym, ◌∙◌, ap, subst, refl, arith}
use Rattle.std.specs.Prelude.{ℕ, zero, suc, ◌≡◌, ◌⊎◌, ◌-◌, Bool, true, false, List, [], ◌∷◌, ◌==◌, if◌then◌else◌}
use Rattle.std.proofs.lemmas.Bool.Decides.{nat_tests}
use Rattle.ext_msgs.specs.declared.lists.Field.{Field}
use Rattle.http_model.specs.Bytes.{is_token_byte, is_value_byte}
use Rattle.http_model.specs.Reading.{Reading, Whole, Partial, Bad, Fault, LongHead}
use Rattle.http_model.specs.Lines as lines
use Rattle.http_model.specs.Lines.{line, before, FieldShape, field_shape, field_shape_on, by_line, by_part, section_at, begins_field, section, with_field}
use Rattle.h1_read.specs.declared.place.Shape.{Shape}
use Rattle.h1_read.specs.declared.place.Shape.TheVariants.{Start, InName, InValue, AtEmptyEnd, AtEnd}
use Rattle.h1_read.specs.declared.place.Place.{Place}
use Rattle.h1_read.specs.declared.place.Place.TheVariants.{Fields, Ended}
use Rattle.h1_read.specs.Places.{place_on, line_on, end_on, places, is_stop, is_quiet}

abbrev shape_of : Shape → FieldShape
shape_of Start = lines.AtStart
shape_of InName = lines.InName
shape_of InValue = lines.InValue
shape_of AtEmptyEnd = lines.AtEmptyEnd
shape_of AtEnd = lines.AtEnd

-- not a stop
abbrev pub IsIn : Place → Type 0
IsIn (Fields left s) = Unit {0}
IsIn _ = ⊥

ended : (bytes : List ℕ) → places Ended bytes ≡ Ended
ended [] = refl
ended (b ∷ bytes) = ended bytes

pub never_in : (bytes : List ℕ) → IsIn (places Ended bytes) → ⊥
never_in bytes h = subst IsIn (ended bytes) h

-- One byte of a line

abbrev IsFieldEnd : FieldShape → Type 0
IsFieldEnd lines.InValue = Unit {0}
IsFieldEnd lines.AtEnd = Unit {0}
IsFieldEnd _ = ⊥

-- what a byte makes of a line: it goes on, ends as a field, or the section needs the parser
data Moves (left : ℕ) (s : Shape) (b : ℕ) : Type 0 where
  GoesOn : (t : Shape) → (b == 10) ≡ false → line_on left s b ≡ Fields left t → field_shape_on (shape_of s) b ≡ shape_of t → Moves left s b
  EndsField : (m : ℕ) → (b == 10) ≡ true → line_on left s b ≡ Fields m Start → left ≡ suc m → IsFieldEnd (shape_of s) → Moves left s b
  Stops : line_on left s b ≡ Ended → Moves left s b

pub not_lf : (test : ℕ → Bool) → test 10 ≡ false → (b : ℕ) → test b ≡ true → (b == 10) ≡ false
not_lf test fails b passes = by (b == 10) refl
  where
    by : (t : Bool) → (b == 10) ≡ t → t ≡ false
    by false e = refl
    by true e =
        let same : b ≡ 10 = grind (arith, nat_tests, e) in
        let both : true ≡ false = sym passes ∙ ap test same ∙ fails in
        absurd cc

pub other_lf : (b c : ℕ) → (c == 10) ≡ false → (b == c) ≡ true → (b == 10) ≡ false
other_lf b c e f = by (b == 10) refl
  where
    by : (t : Bool) → (b == 10) ≡ t → t ≡ false
    by false g = refl
    by true g =
        let same : b ≡ 10 = grind (arith, nat_tests, g) in
        let that : b ≡ c = grind (arith, nat_tests, f) in
        let both : true ≡ false = sym g ∙ ap (λ n. n == 10) that ∙ e in
        absurd cc

one_less : (m : ℕ) → suc m - 1 ≡ m
one_less m = omega arith

not_none : (m : ℕ) → (suc m == 0) ≡ false
not_none m = grind (arith, nat_tests)

end_moves : (left : ℕ) (s : Shape) (b : ℕ) → IsFieldEnd (shape_of s) → line_on left s b ≡ end_on left b → Moves left s b
end_moves zero s b x e = Stops e
end_moves (suc m) s b x e = by (b == 10) refl
  where
    by : (t : Bool) → (b == 10) ≡ t → Moves (suc m) s b
    by true f = EndsField m f (e ∙ rw (not_none m, f) (ap (λ k. Fields k Start) (one_less m))) refl x
    by false f = Stops (e ∙ rw (not_none m, f) refl)

start_moves : (left b : ℕ) → Moves left Start b
start_moves left b = by (is_token_byte b) (left == 0) (b == 13) refl refl refl
  where
    by : (t u v : Bool) → is_token_byte b ≡ t → (left == 0) ≡ u → (b == 13) ≡ v → Moves left Start b
    by true true v e f g = Stops (rw (e, f) refl)
    by true false v e f g = GoesOn InName (not_lf is_token_byte refl b e) (rw (e, f) refl) (rw e refl)
    by false u true e f g = GoesOn AtEmptyEnd (other_lf b 13 refl g) (rw (e, g) refl) (rw (e, g) refl)
    by false u false e f g = Stops (rw (e, g) refl)

name_moves : (left b : ℕ) → Moves left InName b
name_moves left b = by (is_token_byte b) (b == 58) refl refl
  where
    by : (t u : Bool) → is_token_byte b ≡ t → (b == 58) ≡ u → Moves left InName b
    by true u e f = GoesOn InName (not_lf is_token_byte refl b e) (rw e refl) (rw e refl)
    by false true e f = GoesOn InValue (other_lf b 58 refl f) (rw (e, f) refl) (rw (e, f) refl)
    by false false e f = Stops (rw (e, f) refl)

value_moves : (left b : ℕ) → Moves left InValue b
value_moves left b = by (is_value_byte b) (b == 13) refl refl
  where
    by : (t u : Bool) → is_value_byte b ≡ t → (b == 13) ≡ u → Moves left InValue b
    by true u e f = GoesOn InValue (not_lf is_value_byte refl b e) (rw e refl) (rw e refl)
    by false true e f = GoesOn AtEnd (other_lf b 13 refl f) (rw (e, f) refl) (rw (e, f) refl)
    by false false e f = end_moves left InValue b tt (rw (e, f) refl)

moves : (left : ℕ) (s : Shape) (b : ℕ) → Moves left s b
moves left Start b = start_moves left b
moves left InName b = name_moves left b
moves left InValue b = value_moves left b
moves left AtEmptyEnd b = Stops refl
moves left AtEnd b = end_moves left AtEnd b tt refl

-- in a section a place is in a line, or the section is ended
pub by_kind : (left : ℕ) (s : Shape) (bytes : List ℕ) → IsIn (places (Fields left s) bytes) ⊎ (places (Fields left s) bytes ≡ Ended)
by_kind left s [] = inl tt
by_kind left s (b ∷ bytes) = by (λ t. by_kind left t bytes) (λ m. by_kind m Start bytes) (moves left s b)
  where
    Kind : Place → Type 0
    Kind p = IsIn (places p bytes) ⊎ (places p bytes ≡ Ended)

    by : ((t : Shape) → Kind (Fields left t)) → ((m : ℕ) → Kind (Fields m Start)) → Moves left s b → Kind (line_on left s b)
    by k l (GoesOn t e f g) = subst Kind (sym f) (k t)
    by k l (EndsField m e f g x) = subst Kind (sym f) (l m)
    by k l (Stops e) = subst Kind (sym e) (inr (ended bytes))

-- Lines

record IsPart (left : ℕ) (s : Shape) (bytes : List ℕ) : Type 0 where
  now : Shape
  unended : line bytes ≡ Partial
  shape : field_shape (shape_of s) bytes ≡ shape_of now

record IsField (left : ℕ) (s : Shape) (bytes : List ℕ) : Type 0 where
  first : List ℕ
  rest : List ℕ
  others : ℕ
  reads : line bytes ≡ Whole first rest
  ends : IsFieldEnd (field_shape (shape_of s) first)
  one : left ≡ suc others
  goes_on : places (Fields left s) bytes ≡ places (Fields others Start) rest

by_lines : (left : ℕ) (s : Shape) (bytes : List ℕ) → IsIn (places (Fields left s) bytes) → IsPart left s bytes ⊎ IsField left s bytes
by_lines left s [] h = inl (record { now = s; unended = refl; shape = refl })
by_lines left s (b ∷ bytes) h = by (λ t. by_lines left t bytes) (moves left s b)
  where
    choose : (t : Bool) → Reading (List ℕ)
    choose t = elim t [ true ↦ Whole [] bytes | false ↦ before b (line bytes) ]

    further : (t : Shape) → (b == 10) ≡ false → line_on left s b ≡ Fields left t → field_shape_on (shape_of s) b ≡ shape_of t
        → IsPart left t bytes ⊎ IsField left t bytes → IsPart left s (b ∷ bytes) ⊎ IsField left s (b ∷ bytes)
    further t e f g (inl w) = inl (record {
      now = w.now;
      unended = ap choose e ∙ ap (before b) w.unended;
      shape = ap (λ x. field_shape x bytes) g ∙ w.shape;
    })
    further t e f g (inr w) = inr (record {
      first = b ∷ w.first;
      rest = w.rest;
      others = w.others;
      reads = ap choose e ∙ ap (before b) w.reads;
      ends = subst (λ x. IsFieldEnd (field_shape x w.first)) (sym g) w.ends;
      one = w.one;
      goes_on = ap (λ p. places p bytes) f ∙ w.goes_on;
    })

    by : ((t : Shape) → IsIn (places (Fields left t) bytes) → IsPart left t bytes ⊎ IsField left t bytes) → Moves left s b
        → IsPart left s (b ∷ bytes) ⊎ IsField left s (b ∷ bytes)
    by k (GoesOn t e f g) = further t e f g (k t (subst (λ p. IsIn (places p bytes)) f h))
    by k (EndsField m e f g x) =
        inr (record { first = []; rest = bytes; others = m; reads = ap choose e; ends = x; one = g; goes_on = ap (λ p. places p bytes) f })
    by k (Stops e) = absurd (never_in bytes (subst (λ p. IsIn (places p bytes)) e h))

-- Sections

part_goes_on : (bad : Fault) (s : Shape) → by_part bad (shape_of s) ≡ Partial
part_goes_on bad Start = refl
part_goes_on bad InName = refl
part_goes_on bad InValue = refl
part_goes_on bad AtEmptyEnd = refl
part_goes_on bad AtEnd = refl

field_goes_on : (bad : Fault) (s : FieldShape) (l rest : List ℕ) (next : List ℕ → Reading (List Field)) → IsFieldEnd s → next rest ≡ Partial → by_line bad s l rest next ≡ Partial
field_goes_on bad lines.InValue l rest next x e = ap (with_field _) e
field_goes_on bad lines.AtEnd l rest next x e = ap (with_field _) e
field_goes_on bad lines.AtStart l rest next x e = absurd x
field_goes_on bad lines.InName l rest next x e = absurd x
field_goes_on bad lines.AtEmptyEnd l rest next x e = absurd x
field_goes_on bad lines.NoField l rest next x e = absurd x

line_goes_on : (bad : Fault) (left : ℕ) (bytes : List ℕ) (next : List ℕ → Reading (List Field))
    → ((w : IsField left Start bytes) → next w.rest ≡ Partial)
    → IsPart left Start bytes ⊎ IsField left Start bytes → section_at bad bytes (line bytes) next ≡ Partial
line_goes_on bad left bytes next k (inl w) =
    ap (λ r. section_at bad bytes r next) w.unended ∙ ap (by_part bad) w.shape ∙ part_goes_on bad w.now
line_goes_on bad left bytes next k (inr w) =
    ap (λ r. section_at bad bytes r next) w.reads ∙ field_goes_on bad (field_shape lines.AtStart w.first) w.first w.rest next w.ends (k w)

-- where no field may begin none does
none_begins : (bytes : List ℕ) → IsIn (places (Fields zero Start) bytes) → begins_field bytes ≡ false
none_begins [] h = refl
none_begins (b ∷ bytes) h = by (moves zero Start b)
  where
    by : Moves zero Start b → begins_field (b ∷ bytes) ≡ false
    by (Stops e) = absurd (never_in bytes (subst (λ p. IsIn (places p bytes)) e h))
    by (EndsField m e f g x) = absurd x
    by (GoesOn t e f g) = cr (is_token_byte b) (b == 13) refl refl
      where
        cr : (t u : Bool) → is_token_byte b ≡ t → (b == 13) ≡ u → begins_field (b ∷ bytes) ≡ false
        cr true u x y = absurd (never_in bytes (subst (λ p. IsIn (places p bytes)) (rw x refl) h))
        cr false true x y = rw y refl
        cr false false x y = absurd (never_in bytes (subst (λ p. IsIn (places p bytes)) (rw (x, y) refl) h))

pub section_goes_on : (bad : Fault) (left : ℕ) (bytes : List ℕ) → IsIn (places (Fields left Start) bytes) → section bad left bytes ≡ Partial
unfolding section
section_goes_on bad zero bytes h = ap choose (none_begins bytes h) ∙ line_goes_on bad zero bytes (λ rest. Bad LongHead) (λ w. none w.one) (by_lines zero Start bytes h)
  where
    choose : Bool → Reading (List Field)
    choose b = elim b [ true ↦ Bad LongHead | false ↦ section_at bad bytes (line bytes) (λ rest. Bad LongHead) ]

    none : {n : ℕ} {P : Type 0} → zero ≡ suc n → P
    none e = absurd (omega (arith, e))
section_goes_on bad (suc left) bytes h =
    line_goes_on bad (suc left) bytes (section bad left) (λ w. section_goes_on bad left w.rest (inside w)) (by_lines (suc left) Start bytes h)
  where
    same : (n m : ℕ) → suc n ≡ suc m → n ≡ m
    same n m e = omega (arith, e)

    inside : (w : IsField (suc left) Start bytes) → IsIn (places (Fields left Start) w.rest)
    inside w = subst (λ n. IsIn (places (Fields n Start) w.rest)) (sym (same left w.others w.one)) (subst IsIn w.goes_on h)

-- Trailer sections

pub quiet_parts : (t q : Bool) → (if t then false else q) ≡ true → (t ≡ false) × (q ≡ true)
quiet_parts true q e = absurd cc
quiet_parts false q e = (refl, e)

pub quiet_end : (p : Place) (b : ℕ) (more : List ℕ) → is_quiet p (b ∷ more) ≡ true → is_stop (places p (b ∷ more)) ≡ false
quiet_end p b [] q = (quiet_parts (is_stop (place_on p b)) true q).0
quiet_end p b (c ∷ more) q =
    quiet_end (place_on p b) c more (quiet_parts (is_stop (place_on p b)) (is_quiet (place_on p b) (c ∷ more)) q).1

pub is_in : (left : ℕ) (s : Shape) (bytes : List ℕ) → is_stop (places (Fields left s) bytes) ≡ false → IsIn (places (Fields left s) bytes)
is_in left s bytes e = by (by_kind left s bytes)
  where
    by : IsIn (places (Fields left s) bytes) ⊎ (places (Fields left s) bytes ≡ Ended) → IsIn (places (Fields left s) bytes)
    by (inl h) = h
    by (inr h) =
        let both : true ≡ false = ap is_stop (sym h) ∙ e in
        absurd cc
