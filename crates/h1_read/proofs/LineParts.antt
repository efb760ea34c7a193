-- Lines by their line feeds, and what a line holds before its end.
use Rattle.std.proofs.Common.{inl, inr, sym, ◌∙◌, ap, refl, arith}
use Rattle.std.specs.Prelude.{ℕ, ◌≡◌, ◌⊎◌, Bool, true, false, List, [], ◌∷◌, ◌++◌, ◌==◌}
use Rattle.std.specs.List.{AllByRecursion}
use Rattle.std.proofs.lemmas.List.Elements.{recursion_from_All}
use Rattle.std.proofs.lemmas.Bool.Decides.{nat_tests}
use Rattle.http_model.specs.Bytes.{is_empty, split_at}
use Rattle.http_model.specs.Reading.{Whole, Partial}
use Rattle.http_model.specs.Lines.{line, before, without_cr}
use Rattle.httparse.specs.Grammar.{AllPass, LineEnd, crlf, lf, print_end}

-- Bytes that aren't some byte

abbrev pub Lacks : ℕ → List ℕ → Type 0
Lacks c s = AllByRecursion (λ b. (b == c) ≡ false) s

pub Lacks-append : (c : ℕ) (a b : List ℕ) → Lacks c a → Lacks c b → Lacks c (a ++ b)
Lacks-append c [] b x y = y
Lacks-append c (d ∷ a) b x y = (x.0, Lacks-append c a b x.1 y)

differs : (test : ℕ → Bool) (c : ℕ) → test c ≡ false → (b : ℕ) → test b ≡ true → (t : Bool) → (b == c) ≡ t → t ≡ false
differs test c fails b passes false e = refl
differs test c fails b passes true e =
    let same : b ≡ c = grind (arith, nat_tests, e) in
    let both : true ≡ false = sym passes ∙ ap test same ∙ fails in
    absurd cc

-- where a test fails at a byte, what passes it lacks that byte
pub Lacks-pass : (test : ℕ → Bool) (c : ℕ) → test c ≡ false → (a : List ℕ) → AllByRecursion (λ b. test b ≡ true) a → Lacks c a
Lacks-pass test c fails [] x = tt
Lacks-pass test c fails (b ∷ a) x = (differs test c fails b x.0 (b == c) refl, Lacks-pass test c fails a x.1)

pub passing : (test : ℕ → Bool) (a : List ℕ) → AllPass test a → AllByRecursion (λ b. test b ≡ true) a
passing test a x = recursion_from_All (λ b. test b ≡ true) a x

-- Lines

pub line_at : (l rest : List ℕ) → Lacks 10 l → line (l ++ 10 ∷ rest) ≡ Whole l rest
line_at [] rest x = refl
line_at (b ∷ l) rest x = rw (x.0, line) (ap (before b) (line_at l rest x.1))

pub line_open : (s : List ℕ) → Lacks 10 s → line s ≡ Partial
line_open [] x = refl
line_open (b ∷ s) x = rw (x.0, line) (ap (before b) (line_open s x.1))

pub record FirstOf (bytes : List ℕ) : Type 0 where
  pub first : List ℕ
  pub rest : List ℕ
  pub joined : bytes ≡ first ++ 10 ∷ rest
  pub lacks : Lacks 10 first

-- the bytes up to the first line feed, or there is none
pub by_line_feed : (bytes : List ℕ) → FirstOf bytes ⊎ Lacks 10 bytes
by_line_feed [] = inr tt
by_line_feed (b ∷ bytes) = by (b == 10) refl (by_line_feed bytes)
  where
    by : (t : Bool) → (b == 10) ≡ t → FirstOf bytes ⊎ Lacks 10 bytes → FirstOf (b ∷ bytes) ⊎ Lacks 10 (b ∷ bytes)
    by true e more =
        let same : b ≡ 10 = grind (arith, nat_tests, e) in
        inl (record { first = []; rest = bytes; joined = ap (λ c. c ∷ bytes) same; lacks = tt })
    by false e (inl w) = inl (record { first = b ∷ w.first; rest = w.rest; joined = ap (λ s. b ∷ s) w.joined; lacks = (e, w.lacks) })
    by false e (inr w) = inr (e, w)

-- Line ends

abbrev pub cr_of : LineEnd → List ℕ
cr_of crlf = 13 ∷ []
cr_of lf = []

pub end_is : (e : LineEnd) → print_end e ≡ cr_of e ++ 10 ∷ []
end_is crlf = refl
end_is lf = refl

pub cr_lacks : (e : LineEnd) → Lacks 10 (cr_of e)
cr_lacks crlf = (refl, tt)
cr_lacks lf = tt

-- a text without CR, before a line end
pub without_cr-end : (text : List ℕ) (e : LineEnd) → Lacks 13 text → without_cr (text ++ cr_of e) ≡ text
without_cr-end [] crlf x = refl
without_cr-end [] lf x = refl
without_cr-end (b ∷ text) e x = rw (x.0, without_cr) (ap (λ s. b ∷ s) (without_cr-end text e x.1))

-- what stands before the end of a line
pub record Ended (l : List ℕ) : Type 0 where
  pub end : LineEnd
  pub joined : l ≡ without_cr l ++ cr_of end

last_cr : (b : ℕ) (l : List ℕ) → (b == 13) ≡ true → is_empty l ≡ true → without_cr (b ∷ l) ≡ []
last_cr b l e f = rw (e, f, without_cr) refl

inner_cr : (b : ℕ) (l : List ℕ) → (b == 13) ≡ true → is_empty l ≡ false → without_cr (b ∷ l) ≡ b ∷ without_cr l
inner_cr b l e f = rw (e, f, without_cr) refl

other_byte : (b : ℕ) (l : List ℕ) → (b == 13) ≡ false → without_cr (b ∷ l) ≡ b ∷ without_cr l
other_byte b l e = rw (e, without_cr) refl

pub ended : (l : List ℕ) → Ended l
ended [] = record { end = lf; joined = refl }
ended (b ∷ l) = by (b == 13) (is_empty l) refl refl (ended l)
  where
    nothing : (s : List ℕ) → is_empty s ≡ true → s ≡ []
    nothing [] e = refl
    nothing (c ∷ s) e = absurd cc

    by : (x y : Bool) → (b == 13) ≡ x → is_empty l ≡ y → Ended l → Ended (b ∷ l)
    by true true e f w =
        let same : b ≡ 13 = grind (arith, nat_tests, e) in
        let none : l ≡ [] = nothing l f in
        record { end = crlf; joined = ap (λ c. c ∷ l) same ∙ ap (λ s. 13 ∷ s) none ∙ ap (λ s. s ++ 13 ∷ []) (sym (last_cr b l e f)) }
    by true false e f w = record { end = w.end; joined = ap (λ s. b ∷ s) w.joined ∙ ap (λ s. s ++ cr_of w.end) (sym (inner_cr b l e f)) }
    by false y e f w = record { end = w.end; joined = ap (λ s. b ∷ s) w.joined ∙ ap (λ s. s ++ cr_of w.end) (sym (other_byte b l e)) }

-- Words

pub split_at-first : (c : ℕ) (a s : List ℕ) → Lacks c a → split_at c (a ++ c ∷ s) ≡ (a, s)
split_at-first c [] s x = rw (same c) refl
  where
    same : (c : ℕ) → (c == c) ≡ true
    same c = grind (arith, nat_tests)
split_at-first c (b ∷ a) s x = rw (x.0, split_at-first c a s x.1) refl

-- the parts with the byte between them, or nothing behind it
pub split_at-joined : (c : ℕ) (s : List ℕ) → (s ≡ (split_at c s).0 ++ c ∷ (split_at c s).1) ⊎ ((split_at c s).1 ≡ [])
split_at-joined c [] = inr refl
split_at-joined c (b ∷ s) = by (b == c) refl (split_at-joined c s)
  where
    by : (t : Bool) → (b == c) ≡ t → (s ≡ (split_at c s).0 ++ c ∷ (split_at c s).1) ⊎ ((split_at c s).1 ≡ [])
        → (b ∷ s ≡ (split_at c (b ∷ s)).0 ++ c ∷ (split_at c (b ∷ s)).1) ⊎ ((split_at c (b ∷ s)).1 ≡ [])
    by true e more =
        let same : b ≡ c = grind (arith, nat_tests, e) in
        inl (rw e (ap (λ d. d ∷ s) same))
    by false e (inl w) = inl (rw e (ap (λ t. b ∷ t) w))
    by false e (inr w) = inr (rw e w)
