-- Before the byte that begins a field too many, a section is as it is by itself.
use Rattle.std.proofs.Common.{inl, inr, sym, ◌∙◌, ap, subst, refl, arith, append_assoc, append-nil, take_all}
use Rattle.std.proofs.lemmas.List.{drop_all, take-append-drop}
use Rattle.std.specs.Prelude.{ℕ, zero, suc, ◌≡◌, ◌⊎◌, ◌+◌, Bool, true, false, if◌then◌else◌, List, [], ◌∷◌, ◌++◌, length, take, drop}
use Rattle.std.proofs.Math.Seq.{take-append-add, drop-append-add}
use Rattle.http_model.specs.Reading.{Reading, Whole, Partial, Bad, Fault, LongHead}
use Rattle.http_model.specs.Lines.{line, FieldShape, AtStart, InName, InValue, AtEmptyEnd, AtEnd, NoField, field_shape, field_of, with_field, by_line, by_part, section_at, begins_field, section}
use Rattle.http_model.specs.Heads.{field_limit}
use Rattle.ext_msgs.specs.declared.lists.Field as model
use Rattle.httparse.specs.Grammar.{LineEnd, crlf, lf}
use Rattle.h1_read.specs.Limits.{lines_len, is_crowded, section_seen, Only}
use Rattle.h1_read.proofs.LineParts.{Lacks, line_at, line_open, FirstOf, by_line_feed}
use Rattle.h1_read.proofs.LineShape.{Says, says, IsText, text_of}
use Rattle.h1_read.proofs.SectionLaw.{text_begins}

-- Where lines end

pub lines_none : (s : List ℕ) → lines_len zero s ≡ 0
unfolding lines_len
lines_none [] = refl
lines_none (b ∷ s) = refl

pub lines_one : (n : ℕ) (l rest : List ℕ) → Lacks 10 l → lines_len (suc n) (l ++ 10 ∷ rest) ≡ length (l ++ 10 ∷ []) + lines_len n rest
unfolding lines_len
lines_one n [] rest x = omega arith
lines_one n (b ∷ l) rest x =
    ap (λ t. suc (lines_len (if t then n else suc n) (l ++ 10 ∷ rest))) x.0 ∙ ap suc (lines_one n l rest x.1) ∙ one (length (l ++ 10 ∷ [])) (lines_len n rest)
  where
    one : (m k : ℕ) → suc (m + k) ≡ suc m + k
    one m k = omega arith

pub lines_all : (n : ℕ) (s : List ℕ) → Lacks 10 s → lines_len (suc n) s ≡ length s
unfolding lines_len
lines_all n [] x = refl
lines_all n (b ∷ s) x = ap (λ t. suc (lines_len (if t then n else suc n) s)) x.0 ∙ ap suc (lines_all n s x.1)

parted : (l rest : List ℕ) → l ++ 10 ∷ rest ≡ (l ++ 10 ∷ []) ++ rest
parted l rest = sym (append_assoc l (10 ∷ []) rest)

take_lines : (n : ℕ) (l rest : List ℕ) → Lacks 10 l → take (lines_len (suc n) (l ++ 10 ∷ rest)) (l ++ 10 ∷ rest) ≡ l ++ 10 ∷ take (lines_len n rest) rest
take_lines n l rest x =
    ap (λ k. take k (l ++ 10 ∷ rest)) (lines_one n l rest x)
    ∙ ap (take (length (l ++ 10 ∷ []) + lines_len n rest)) (parted l rest)
    ∙ take-append-add (l ++ 10 ∷ []) rest (lines_len n rest)
    ∙ append_assoc l (10 ∷ []) (take (lines_len n rest) rest)

drop_lines : (n : ℕ) (l rest : List ℕ) → Lacks 10 l → drop (lines_len (suc n) (l ++ 10 ∷ rest)) (l ++ 10 ∷ rest) ≡ drop (lines_len n rest) rest
drop_lines n l rest x =
    ap (λ k. drop k (l ++ 10 ∷ rest)) (lines_one n l rest x)
    ∙ ap (drop (length (l ++ 10 ∷ []) + lines_len n rest)) (parted l rest)
    ∙ drop-append-add (l ++ 10 ∷ []) rest (lines_len n rest)

take_open : (n : ℕ) (s : List ℕ) → Lacks 10 s → take (lines_len (suc n) s) s ≡ s
take_open n s x = ap (λ k. take k s) (lines_all n s x) ∙ take_all (length s) s (omega arith)

drop_open : (n : ℕ) (s : List ℕ) → Lacks 10 s → drop (lines_len (suc n) s) s ≡ []
drop_open n s x = ap (λ k. drop k s) (lines_all n s x) ∙ drop_all (length s) s (omega arith)

-- No fault but one

with_field-only : (bad : Fault) (f : model.Field) (r : Reading (List model.Field)) → Only bad r → Only bad (with_field f r)
with_field-only bad f (Whole fields rest) x = tt
with_field-only bad f Partial x = tt
with_field-only bad f (Bad g) x = x

only_line : (bad : Fault) (s : FieldShape) (l rest : List ℕ) (next : List ℕ → Reading (List model.Field)) → Only bad (next rest) → Only bad (by_line bad s l rest next)
only_line bad AtStart l rest next x = tt
only_line bad AtEmptyEnd l rest next x = tt
only_line bad InValue l rest next x = with_field-only bad (field_of l) (next rest) x
only_line bad AtEnd l rest next x = with_field-only bad (field_of l) (next rest) x
only_line bad InName l rest next x = refl
only_line bad NoField l rest next x = refl

only_part : (bad : Fault) (s : FieldShape) → Only bad (by_part bad s)
only_part bad AtStart = tt
only_part bad AtEmptyEnd = tt
only_part bad InValue = tt
only_part bad AtEnd = tt
only_part bad InName = tt
only_part bad NoField = refl

whole_only : (bad : Fault) (l rest : List ℕ) (next : List ℕ → Reading (List model.Field)) → Lacks 10 l → Only bad (next rest)
    → Only bad (section_at bad (l ++ 10 ∷ rest) (line (l ++ 10 ∷ rest)) next)
whole_only bad l rest next x k =
    subst (λ r. Only bad (section_at bad (l ++ 10 ∷ rest) r next)) (sym (line_at l rest x)) (only_line bad (field_shape AtStart l) l rest next k)

open_only : (bad : Fault) (s : List ℕ) (next : List ℕ → Reading (List model.Field)) → Lacks 10 s → Only bad (section_at bad s (line s) next)
open_only bad s next x =
    subst (λ r. Only bad (section_at bad s r next)) (sym (line_open s x)) (only_part bad (field_shape AtStart s))

-- where no field too many begins

no_more : (bad : Fault) (s : List ℕ) → begins_field s ≡ false → FirstOf s ⊎ Lacks 10 s → Only bad (section_at bad s (line s) (λ rest. Bad LongHead))
no_more bad s e (inr x) = open_only bad s (λ rest. Bad LongHead) x
no_more bad s e (inl w) =
    subst (λ r. Only bad (section_at bad s r (λ rest. Bad LongHead))) (sym (ap line w.joined ∙ line_at w.first w.rest w.lacks)) (by (field_shape AtStart w.first) (says w.first))
  where
    begins : (end : LineEnd) → IsText w.first end → ⊥
    begins end t =
        let both : true ≡ false =
        sym (text_begins t.field (10 ∷ w.rest) t.valid)
        ∙ ap begins_field (ap (λ l. l ++ 10 ∷ w.rest) (sym t.joined) ∙ sym w.joined) ∙ e in
        absurd cc

    by : (shape : FieldShape) → Says shape w.first → Only bad (by_line bad shape w.first w.rest (λ rest. Bad LongHead))
    by AtStart x = tt
    by AtEmptyEnd x = tt
    by InValue x = absurd (begins lf (text_of w.first lf x))
    by AtEnd x = absurd (begins crlf (text_of w.first crlf x))
    by InName x = refl
    by NoField x = refl

pub never_long : (bad : Fault) (n : ℕ) (s : List ℕ) → begins_field (drop (lines_len n s) s) ≡ false → Only bad (section bad n s)
unfolding section
never_long bad zero s e = by (begins_field s) refl
  where
    there : begins_field s ≡ false
    there = ap (λ k. begins_field (drop k s)) (sym (lines_none s)) ∙ e

    by : (b : Bool) → begins_field s ≡ b → Only bad (elim b [ true ↦ Bad LongHead | false ↦ section_at bad s (line s) (λ rest. Bad LongHead) ])
    by true f = absurd (let both : true ≡ false = sym f ∙ there in cc)
    by false f = no_more bad s f (by_line_feed s)
never_long bad (suc n) s e = by (never_long bad n) (by_line_feed s)
  where
    by : ((rest : List ℕ) → begins_field (drop (lines_len n rest) rest) ≡ false → Only bad (section bad n rest))
        → FirstOf s ⊎ Lacks 10 s → Only bad (section_at bad s (line s) (section bad n))
    by k (inl w) =
        let more : Only bad (section bad n w.rest) =
        k w.rest (ap begins_field (sym (drop_lines n w.first w.rest w.lacks) ∙ ap (λ t. drop (lines_len (suc n) t) t) (sym w.joined)) ∙ e) in
        subst (λ t. Only bad (section_at bad t (line t) (section bad n))) (sym w.joined) (whole_only bad w.first w.rest (section bad n) w.lacks more)
    by k (inr x) = open_only bad s (section bad n) x

pub cut_only : (bad : Fault) (n : ℕ) (s : List ℕ) → Only bad (section bad n (take (lines_len n s) s))
unfolding section
cut_only bad zero s = subst (λ k. Only bad (section bad zero (take k s))) (sym (lines_none s)) tt
cut_only bad (suc n) s = by (cut_only bad n) (by_line_feed s)
  where
    by : ((rest : List ℕ) → Only bad (section bad n (take (lines_len n rest) rest)))
        → FirstOf s ⊎ Lacks 10 s → Only bad (section bad (suc n) (take (lines_len (suc n) s) s))
    by k (inl w) =
        subst (λ t. Only bad (section bad (suc n) t)) (sym (ap (λ t. take (lines_len (suc n) t) t) w.joined ∙ take_lines n w.first w.rest w.lacks))
        (whole_only bad w.first (take (lines_len n w.rest) w.rest) (section bad n) w.lacks (k w.rest))
    by k (inr x) =
        subst (λ t. Only bad (section bad (suc n) t)) (sym (take_open n s x)) (open_only bad s (section bad n) x)

-- where one begins

abbrev LongBehind : Reading (List model.Field) → Reading (List model.Field) → Type 0
LongBehind r r' = r ≡ Partial → r' ≡ Bad LongHead

with_field-long : (f : model.Field) (r r' : Reading (List model.Field)) → LongBehind r r' → LongBehind (with_field f r) (with_field f r')
with_field-long f (Whole fields rest) r' k e = absurd cc
with_field-long f Partial r' k e = ap (with_field f) (k refl)
with_field-long f (Bad g) r' k e = absurd cc

long_line : (bad : Fault) (s : FieldShape) (l rest rest' : List ℕ) (next : List ℕ → Reading (List model.Field)) → LongBehind (next rest) (next rest')
    → LongBehind (by_line bad s l rest next) (by_line bad s l rest' next)
long_line bad AtStart l rest rest' next k e = absurd cc
long_line bad AtEmptyEnd l rest rest' next k e = absurd cc
long_line bad InValue l rest rest' next k e = with_field-long (field_of l) (next rest) (next rest') k e
long_line bad AtEnd l rest rest' next k e = with_field-long (field_of l) (next rest) (next rest') k e
long_line bad InName l rest rest' next k e = absurd cc
long_line bad NoField l rest rest' next k e = absurd cc

pub cut_long : (bad : Fault) (n : ℕ) (s : List ℕ) → begins_field (drop (lines_len n s) s) ≡ true
    → section bad n (take (lines_len n s) s) ≡ Partial → section bad n s ≡ Bad LongHead
unfolding section
cut_long bad zero s e p = ap choose (ap (λ k. begins_field (drop k s)) (sym (lines_none s)) ∙ e)
  where
    choose : Bool → Reading (List model.Field)
    choose b = elim b [ true ↦ Bad LongHead | false ↦ section_at bad s (line s) (λ rest. Bad LongHead) ]
cut_long bad (suc n) s e p = by (cut_long bad n) (by_line_feed s)
  where
    at : (l rest : List ℕ) → Lacks 10 l → section_at bad (l ++ 10 ∷ rest) (line (l ++ 10 ∷ rest)) (section bad n) ≡ by_line bad (field_shape AtStart l) l rest (section bad n)
    at l rest x = ap (λ r. section_at bad (l ++ 10 ∷ rest) r (section bad n)) (line_at l rest x)

    by : ((rest : List ℕ) → begins_field (drop (lines_len n rest) rest) ≡ true → LongBehind (section bad n (take (lines_len n rest) rest)) (section bad n rest))
        → FirstOf s ⊎ Lacks 10 s → section_at bad s (line s) (section bad n) ≡ Bad LongHead
    by k (inl w) =
        let cut = take (lines_len n w.rest) w.rest in
        let more : LongBehind (section bad n cut) (section bad n w.rest) =
        k w.rest (ap begins_field (sym (drop_lines n w.first w.rest w.lacks) ∙ ap (λ t. drop (lines_len (suc n) t) t) (sym w.joined)) ∙ e) in
        let partial : by_line bad (field_shape AtStart w.first) w.first cut (section bad n) ≡ Partial =
        sym (at w.first cut w.lacks)
        ∙ ap (section bad (suc n)) (sym (ap (λ t. take (lines_len (suc n) t) t) w.joined ∙ take_lines n w.first w.rest w.lacks)) ∙ p in
        ap (section bad (suc n)) w.joined ∙ at w.first w.rest w.lacks
        ∙ long_line bad (field_shape AtStart w.first) w.first cut w.rest (section bad n) more partial
    by k (inr x) =
        let both : true ≡ false = sym e ∙ ap begins_field (drop_open n s x) in
        absurd cc

-- What is looked at

pub seen_only : (bad : Fault) (s : List ℕ) → Only bad (section bad field_limit (section_seen s))
unfolding section_seen is_crowded
seen_only bad s = by (begins_field (drop (lines_len field_limit s) s)) refl
  where
    by : (t : Bool) → begins_field (drop (lines_len field_limit s) s) ≡ t → Only bad (section bad field_limit (if t then take (lines_len field_limit s) s else s))
    by true e = cut_only bad field_limit s
    by false e = never_long bad field_limit s e

pub crowded_long : (bad : Fault) (s : List ℕ) → is_crowded s ≡ true → section bad field_limit (section_seen s) ≡ Partial → section bad field_limit s ≡ Bad LongHead
unfolding section_seen is_crowded
crowded_long bad s = by (begins_field (drop (lines_len field_limit s) s)) refl
  where
    by : (t : Bool) → begins_field (drop (lines_len field_limit s) s) ≡ t → t ≡ true
        → section bad field_limit (if t then take (lines_len field_limit s) s else s) ≡ Partial → section bad field_limit s ≡ Bad LongHead
    by true e f g = cut_long bad field_limit s e g
    by false e f g = absurd cc

pub uncrowded_seen : (s : List ℕ) → is_crowded s ≡ false → section_seen s ≡ s
unfolding section_seen
uncrowded_seen s e = ap (λ t. if t then take (lines_len field_limit s) s else s) e

-- with what stands behind
pub record IsSeen (s : List ℕ) : Type 0 where
  pub others : List ℕ
  pub joined : s ≡ section_seen s ++ others

pub seen_joined : (s : List ℕ) → IsSeen s
unfolding section_seen
seen_joined s = by (is_crowded s) refl
  where
    by : (t : Bool) → is_crowded s ≡ t → IsSeen s
    by true e = record {
      others = drop (lines_len field_limit s) s;
      joined = sym (take-append-drop (lines_len field_limit s) s)
          ∙ ap (λ l. l ++ drop (lines_len field_limit s) s) (sym (ap (λ u. if u then take (lines_len field_limit s) s else s) e));
    }
    by false e = record { others = []; joined = sym (append-nil s) ∙ ap (λ l. l ++ []) (sym (ap (λ u. if u then take (lines_len field_limit s) s else s) e)) }
