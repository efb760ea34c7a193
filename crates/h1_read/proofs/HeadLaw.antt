-- A head is empty lines, a first line and a section.
use Rattle.std.proofs.Common.{inl, inr, sym, ◌∙◌, ap, subst, refl, arith, append_assoc, eqb-true}
use Rattle.std.specs.Prelude.{ℕ, ◌≡◌, ◌⊎◌, ◌<◌, Bool, true, false, not, ◌&&◌, ◌||◌, List, [], ◌∷◌, ◌++◌, length, Option, Some, ◌==◌, bytes_eq}
use Rattle.std.specs.List.{list_all, AllByRecursion}
use Rattle.http_model.specs.Bytes.{is_empty}
use Rattle.http_model.specs.Reading.{Reading, Whole, Partial, BadHead, onward}
use Rattle.http_model.specs.Lines.{line, first_line, begins_with_lf, without_cr, section}
use Rattle.http_model.specs.Heads.{field_limit, fields_behind, head_lines}
use Rattle.ext_msgs.specs.declared.lists.Field as model
use Rattle.httparse.specs.Grammar.{LineEnd, crlf, lf, print_end, print_blank}
use Rattle.httparse.specs.Pieces.{Stops, is_newline}
use Rattle.h1_read.proofs.LineParts.{Lacks, Lacks-append, line_at, line_open, FirstOf, by_line_feed, cr_of, end_is, cr_lacks, without_cr-end, Ended, ended}

-- Tests

pub and_first : (a b : Bool) → (a && b) ≡ true → a ≡ true
and_first true b e = refl
and_first false b e = absurd cc

pub and_second : (a b : Bool) → (a && b) ≡ true → b ≡ true
and_second true b e = e
and_second false b e = absurd cc

pub and_both : (a b : Bool) → a ≡ true → b ≡ true → (a && b) ≡ true
and_both true b e f = f
and_both false b e f = absurd cc

pub bytes_same : (xs ys : List ℕ) → bytes_eq xs ys ≡ true → xs ≡ ys
bytes_same [] [] e = refl
bytes_same [] (y ∷ ys) e = absurd cc
bytes_same (x ∷ xs) [] e = absurd cc
bytes_same (x ∷ xs) (y ∷ ys) e =
    ap (λ n. n ∷ xs) (eqb-true x y (and_first (x == y) (bytes_eq xs ys) e)) ∙ ap (λ l. y ∷ l) (bytes_same xs ys (and_second (x == y) (bytes_eq xs ys) e))

pub all_true : (test : ℕ → Bool) (s : List ℕ) → AllByRecursion (λ b. test b ≡ true) s → list_all test s ≡ true
all_true test [] x = refl
all_true test (b ∷ s) x = and_both (test b) (list_all test s) x.0 (all_true test s x.1)

pub from_all_true : (test : ℕ → Bool) (s : List ℕ) → list_all test s ≡ true → AllByRecursion (λ b. test b ≡ true) s
from_all_true test [] e = tt
from_all_true test (b ∷ s) e = (and_first (test b) (list_all test s) e, from_all_true test s (and_second (test b) (list_all test s) e))

pub some_byte : (s : List ℕ) → 0 < length s → not (is_empty s) ≡ true
some_byte [] h = absurd (omega arith)
some_byte (b ∷ s) h = refl

pub from_some_byte : (s : List ℕ) → not (is_empty s) ≡ true → 0 < length s
from_some_byte [] e = absurd cc
from_some_byte (b ∷ s) e = omega arith

-- The first line

pub behind_blank : (blank : List LineEnd) (s : List ℕ) → first_line (print_blank blank ++ s) ≡ first_line s
behind_blank [] s = refl
behind_blank (crlf ∷ blank) s = behind_blank blank s
behind_blank (lf ∷ blank) s = behind_blank blank s

pub no_blank : (b : ℕ) (s : List ℕ) → is_newline b ≡ false → (b == 10 || (b == 13 && begins_with_lf s)) ≡ false
no_blank b s e = by (b == 13) (b == 10) e
  where
    by : (x y : Bool) → (x || y) ≡ false → (y || (x && begins_with_lf s)) ≡ false
    by true y f = absurd cc
    by false true f = absurd cc
    by false false f = refl

pub starts_line : (s : List ℕ) → Stops is_newline s → first_line s ≡ line s
starts_line [] x = absurd x
starts_line (b ∷ s) x = by (b == 10 || (b == 13 && begins_with_lf s)) (no_blank b s x)
  where
    by : (t : Bool) → t ≡ false → ◌≡◌ {A = Reading (List ℕ)} (elim t [ true ↦ first_line s | false ↦ line (b ∷ s) ]) (line (b ∷ s))
    by true e = absurd cc
    by false e = refl

pub record HasFirst (bytes : List ℕ) : Type 0 where
  pub blank : List LineEnd
  pub first : List ℕ
  pub rest : List ℕ
  pub joined : bytes ≡ print_blank blank ++ (first ++ 10 ∷ rest)
  pub again : (s : List ℕ) → first_line (print_blank blank ++ (first ++ 10 ∷ s)) ≡ Whole first s

one_blank : (e : LineEnd) (bytes : List ℕ) → HasFirst bytes ⊎ (first_line bytes ≡ Partial) → HasFirst (print_end e ++ bytes) ⊎ (first_line (print_end e ++ bytes) ≡ Partial)
one_blank crlf bytes (inl w) = inl (record { blank = crlf ∷ w.blank; first = w.first; rest = w.rest; joined = ap (λ s. 13 ∷ 10 ∷ s) w.joined; again = w.again })
one_blank lf bytes (inl w) = inl (record { blank = lf ∷ w.blank; first = w.first; rest = w.rest; joined = ap (λ s. 10 ∷ s) w.joined; again = w.again })
one_blank crlf bytes (inr e) = inr e
one_blank lf bytes (inr e) = inr e

pub not_empty : (b : ℕ) (s : List ℕ) → (b == 10 || (b == 13 && begins_with_lf s)) ≡ false → first_line (b ∷ s) ≡ line (b ∷ s)
not_empty b s e = by (b == 10 || (b == 13 && begins_with_lf s)) e
  where
    by : (t : Bool) → t ≡ false → ◌≡◌ {A = Reading (List ℕ)} (elim t [ true ↦ first_line s | false ↦ line (b ∷ s) ]) (line (b ∷ s))
    by true f = absurd cc
    by false f = refl

this_line : (b : ℕ) (s : List ℕ) → (b == 10 || (b == 13 && begins_with_lf s)) ≡ false → FirstOf (b ∷ s) ⊎ Lacks 10 (b ∷ s) → HasFirst (b ∷ s) ⊎ (first_line (b ∷ s) ≡ Partial)
this_line b s e (inr w) = inr (not_empty b s e ∙ line_open (b ∷ s) w)
this_line b s e (inl w) = inl (record { blank = []; first = w.first; rest = w.rest; joined = w.joined; again = λ more. again w.first w.rest more w.joined w.lacks })
  where
    head : List ℕ → ℕ
    head [] = 0
    head (c ∷ l) = c

    tail : List ℕ → List ℕ
    tail [] = []
    tail (c ∷ l) = l

    begins : (l r r' : List ℕ) → begins_with_lf (l ++ 10 ∷ r) ≡ begins_with_lf (l ++ 10 ∷ r')
    begins [] r r' = refl
    begins (c ∷ l) r r' = refl

    again : (first rest more : List ℕ) → b ∷ s ≡ first ++ 10 ∷ rest → Lacks 10 first → first_line (first ++ 10 ∷ more) ≡ Whole first more
    again [] rest more j x =
        let same : b ≡ 10 = ap head j in
        let both : true ≡ false = sym (ap (λ c. c == 10 || (c == 13 && begins_with_lf s)) same) ∙ e in
        absurd cc
    again (c ∷ l) rest more j x =
        let same : b ≡ c = ap head j in
        let more_same : begins_with_lf s ≡ begins_with_lf (l ++ 10 ∷ more) = ap begins_with_lf (ap tail j) ∙ begins l rest more in
        not_empty c (l ++ 10 ∷ more) (ap (λ t. c == 10 || (c == 13 && t)) (sym more_same) ∙ ap (λ d. d == 10 || (d == 13 && begins_with_lf s)) (sym same) ∙ e)
        ∙ line_at (c ∷ l) more x

pub by_first_line : (bytes : List ℕ) → HasFirst bytes ⊎ (first_line bytes ≡ Partial)
by_first_line [] = inr refl
by_first_line (b ∷ []) = by (b == 10) (b == 13) refl
  where
    is_that : (b == 10) ≡ true → b ≡ 10
    is_that e = eqb-true b 10 e

    by : (x y : Bool) → (b == 10) ≡ x → HasFirst (b ∷ []) ⊎ (first_line (b ∷ []) ≡ Partial)
    by true y e = subst (λ c. HasFirst (c ∷ []) ⊎ (first_line (c ∷ []) ≡ Partial)) (sym (is_that e)) (inr refl)
    by false y e = this_line b [] (ap (λ x. x || (b == 13 && false)) e ∙ never (b == 13)) (by_line_feed (b ∷ []))
      where
        never : (z : Bool) → (z && false) ≡ false
        never true = refl
        never false = refl
by_first_line (b ∷ c ∷ bytes) = by (b == 10) (b == 13) (c == 10) refl refl refl (by_first_line (c ∷ bytes)) (by_first_line bytes)
  where
    by : (x y z : Bool) → (b == 10) ≡ x → (b == 13) ≡ y → (c == 10) ≡ z
        → HasFirst (c ∷ bytes) ⊎ (first_line (c ∷ bytes) ≡ Partial) → HasFirst bytes ⊎ (first_line bytes ≡ Partial)
        → HasFirst (b ∷ c ∷ bytes) ⊎ (first_line (b ∷ c ∷ bytes) ≡ Partial)
    by true y z e f g one two = subst (λ d. HasFirst (d ∷ c ∷ bytes) ⊎ (first_line (d ∷ c ∷ bytes) ≡ Partial)) (sym (eqb-true b 10 e)) (one_blank lf (c ∷ bytes) one)
    by false true true e f g one two =
        subst (λ d. HasFirst (d ∷ c ∷ bytes) ⊎ (first_line (d ∷ c ∷ bytes) ≡ Partial)) (sym (eqb-true b 13 f))
        (subst (λ d. HasFirst (13 ∷ d ∷ bytes) ⊎ (first_line (13 ∷ d ∷ bytes) ≡ Partial)) (sym (eqb-true c 10 g)) (one_blank crlf bytes two))
    by false true false e f g one two =
        this_line b (c ∷ bytes) (ap (λ x. x || (b == 13 && c == 10)) e ∙ ap (λ y. y && c == 10) f ∙ g) (by_line_feed (b ∷ c ∷ bytes))
    by false false z e f g one two =
        this_line b (c ∷ bytes) (ap (λ x. x || (b == 13 && c == 10)) e ∙ ap (λ y. y && c == 10) f) (by_line_feed (b ∷ c ∷ bytes))

-- Heads

abbrev pub with_first : {A : Type 0} → A → List ℕ → Reading (A × List model.Field)
with_first a rest = onward (section BadHead field_limit rest) (λ fields more. Whole (a, fields) more)

-- a text that a first line can be
pub record IsFirst (text : List ℕ) : Type 0 where
  pub starts : (s : List ℕ) → Stops is_newline (text ++ s)
  pub no_lf : Lacks 10 text
  pub no_cr : Lacks 13 text

-- what is read of a first line, and of what stands behind it
pub first_parsed : {A : Type 0} (parse : List ℕ → Option A) (blank : List LineEnd) (text : List ℕ) (e : LineEnd) (rest : List ℕ)
    → IsFirst text → head_lines parse (print_blank blank ++ (text ++ (print_end e ++ rest))) ≡ fields_behind (parse text) rest
first_parsed {A} parse blank text e rest x =
    let ended_so : text ++ (print_end e ++ rest) ≡ (text ++ cr_of e) ++ 10 ∷ rest =
    ap (λ s. text ++ (s ++ rest)) (end_is e) ∙ ap (λ s. text ++ s) (append_assoc (cr_of e) (10 ∷ []) rest) ∙ sym (append_assoc text (cr_of e) (10 ∷ rest)) in
    let first : first_line (print_blank blank ++ (text ++ (print_end e ++ rest))) ≡ Whole (text ++ cr_of e) rest =
    behind_blank blank (text ++ (print_end e ++ rest))
    ∙ starts_line (text ++ (print_end e ++ rest)) (x.starts (print_end e ++ rest))
    ∙ ap line ended_so
    ∙ line_at (text ++ cr_of e) rest (Lacks-append 10 text (cr_of e) x.no_lf (cr_lacks e)) in
    ap next first ∙ ap (λ t. fields_behind (parse t) rest) (without_cr-end text e x.no_cr)
  where
    next : Reading (List ℕ) → Reading (A × List model.Field)
    next r = onward r (λ l more. fields_behind (parse (without_cr l)) more)

pub head_read : {A : Type 0} (parse : List ℕ → Option A) (a : A) (blank : List LineEnd) (text : List ℕ) (e : LineEnd) (rest : List ℕ)
    → IsFirst text → parse text ≡ Some a → head_lines parse (print_blank blank ++ (text ++ (print_end e ++ rest))) ≡ with_first a rest
head_read parse a blank text e rest x p = first_parsed parse blank text e rest x ∙ ap (λ o. fields_behind o rest) p

-- a head by its first line
pub record HasLine {A : Type 0} (parse : List ℕ → Option A) (bytes : List ℕ) : Type 0 where
  pub blank : List LineEnd
  pub text : List ℕ
  pub end : LineEnd
  pub rest : List ℕ
  pub joined : bytes ≡ print_blank blank ++ (text ++ (print_end end ++ rest))
  pub read : head_lines parse bytes ≡ fields_behind (parse text) rest

pub by_head_line : {A : Type 0} (parse : List ℕ → Option A) (bytes : List ℕ) → HasLine parse bytes ⊎ ((first_line bytes ≡ Partial) × (head_lines parse bytes ≡ Partial))
by_head_line {A} parse bytes = by (by_first_line bytes)
  where
    next : Reading (List ℕ) → Reading (A × List model.Field)
    next r = onward r (λ l more. fields_behind (parse (without_cr l)) more)

    ends : (first rest : List ℕ) (w : Ended first) → first ++ 10 ∷ rest ≡ without_cr first ++ (print_end w.end ++ rest)
    ends first rest w =
        ap (λ s. s ++ 10 ∷ rest) w.joined
        ∙ append_assoc (without_cr first) (cr_of w.end) (10 ∷ rest)
        ∙ ap (λ s. without_cr first ++ s) (sym (ap (λ s. s ++ rest) (end_is w.end) ∙ append_assoc (cr_of w.end) (10 ∷ []) rest))

    by : HasFirst bytes ⊎ (first_line bytes ≡ Partial) → HasLine parse bytes ⊎ ((first_line bytes ≡ Partial) × (head_lines parse bytes ≡ Partial))
    by (inl w) = inl (record {
      blank = w.blank;
      text = without_cr w.first;
      end = (ended w.first).end;
      rest = w.rest;
      joined = w.joined ∙ ap (λ s. print_blank w.blank ++ s) (ends w.first w.rest (ended w.first));
      read = ap next (ap first_line w.joined ∙ w.again w.rest);
    })
    by (inr e) = inr (e, ap next e)

-- What was read stays read
