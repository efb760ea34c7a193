-- What the bytes of a client's preface do.
use Rattle.std.proofs.Common.{◌≡◌, ◌≢◌, ℕ, ◌+◌, ◌<◌, Bool, true, false, List, [], ◌∷◌, ◌++◌, length, take, get_or, slice_index, bytes_eq, if◌then◌else◌, refl, sym, ◌∙◌, ap, arith, length-append, length-take-le, take_all}
use Rattle.std.proofs.Math.Seq.{get_or-append_seam}
use Rattle.std.proofs.lemmas.List.{take_more}
use Rattle.std.proofs.lemmas.Slice.Eq.{bytes_eq-Decides}
use Rattle.h2_model.specs.Codes.{protocol_error}
use Rattle.h2_model.specs.Account.{Account}
use Rattle.h2_model.specs.History.{preface, violated, with_greeting, with_byte}
use Rattle.h2_model.specs.Calls.{is_stopped}
use Rattle.h2_laws_log.specs.Feeding.{ReadsPreface}

pub preface-goes-on : (k : ℕ) (a : Account) → ReadsPreface k a → is_stopped a ≡ false
preface-goes-on k a r = rw (r.quiet, r.sound) refl

-- Tests of bytes

same-bytes : (xs ys : List ℕ) → xs ≡ ys → bytes_eq xs ys ≡ true
same-bytes xs ys e = (bytes_eq-Decides xs ys).1 e

other-bytes : (xs ys : List ℕ) → xs ≢ ys → bytes_eq xs ys ≡ false
other-bytes xs ys n = by (bytes_eq xs ys) refl
  where
    by : (b : Bool) → bytes_eq xs ys ≡ b → bytes_eq xs ys ≡ false
    by true e = absurd (n ((bytes_eq-Decides xs ys).0 e))
    by false e = e

-- what the two tests of a greeting choose
abbrev pub greets : Bool → Bool → List ℕ → Account → Account
greets whole part rest a =
    if whole then record a { greeted = true; rest = [] }
    else if part then record a { rest = rest }
    else violated protocol_error a

pub greeting-is : (whole part : Bool) (rest : List ℕ) (a : Account) → bytes_eq rest preface ≡ whole → bytes_eq rest (take (length rest) preface) ≡ part
    → with_greeting rest a ≡ greets whole part rest a
greeting-is whole part rest a e t =
    ap {B = Account} (λ (x : Bool). greets x (bytes_eq rest (take (length rest) preface)) rest a) e
    ∙ ap {B = Account} (λ (x : Bool). greets whole x rest a) t

byte-greets : (b : ℕ) (a : Account) (k : ℕ) → ReadsPreface k a → with_byte b a ≡ with_greeting (a.rest ++ b ∷ []) a
unfolding with_byte
byte-greets b a k r = rw (r.sound, r.greeted) refl

-- One more byte of a text

grown-count : (p rest : List ℕ) (k b : ℕ) → rest ≡ take k p → k < length p → length (rest ++ b ∷ []) ≡ k + 1
grown-count p rest k b is l =
    length-append rest (b ∷ []) ∙ ap (λ n. n + 1) (ap length is ∙ length-take-le k p (omega arith))

grown-right : (p rest : List ℕ) (k b : ℕ) → rest ≡ take k p → k < length p → b ≡ slice_index p k → rest ++ b ∷ [] ≡ take (k + 1) p
grown-right p rest k b is l e =
    ap (λ xs. xs ++ b ∷ []) is ∙ ap (λ x. take k p ++ x ∷ []) e ∙ sym (take_more p k 0 l)

grown-wrong : (p rest : List ℕ) (k b : ℕ) → rest ≡ take k p → k < length p → rest ++ b ∷ [] ≡ take (k + 1) p → b ≡ slice_index p k
grown-wrong p rest k b is l e =
    let both : take k p ++ b ∷ [] ≡ take k p ++ get_or p k 0 ∷ [] = ap (λ xs. xs ++ b ∷ []) (sym is) ∙ e ∙ take_more p k 0 l in
    sym (get_or-append_seam (take k p) b [] 0) ∙ ap (λ xs. get_or xs (length (take k p)) 0) both ∙ get_or-append_seam (take k p) (get_or p k 0) [] 0

preface-count : length preface ≡ 24
preface-count = refl

in-preface : (k : ℕ) → k < 24 → k < length preface
in-preface k l = l

pub part-comes : (k b : ℕ) (a : Account) → ReadsPreface k a → b ≡ slice_index preface k → k + 1 < 24
    → with_byte b a ≡ record a { rest = take (k + 1) preface }
part-comes k b a r e l =
    let rest : List ℕ = a.rest ++ b ∷ [] in
    let count : length rest ≡ k + 1 = grown-count preface a.rest k b r.rest (in-preface k r.short) in
    let right : rest ≡ take (k + 1) preface = grown-right preface a.rest k b r.rest (in-preface k r.short) e in
    let part : bytes_eq rest preface ≡ false =
    other-bytes rest preface (λ w. let all : length rest ≡ 24 = ap length w ∙ preface-count in omega arith) in
    byte-greets b a k r
    ∙ greeting-is false true rest a part (same-bytes rest (take (length rest) preface) (right ∙ ap (λ n. take n preface) (sym count)))
    ∙ ap {B = Account} (λ (x : List ℕ). record a { rest = x }) right

pub preface-ends : (k b : ℕ) (a : Account) → ReadsPreface k a → b ≡ slice_index preface k → k + 1 ≡ 24
    → with_byte b a ≡ record a { greeted = true; rest = [] }
preface-ends k b a r e l =
    let rest : List ℕ = a.rest ++ b ∷ [] in
    let right : rest ≡ take (k + 1) preface = grown-right preface a.rest k b r.rest (in-preface k r.short) e in
    let whole : rest ≡ preface = right ∙ take_all (k + 1) preface (omega (arith, l, preface-count)) in
    byte-greets b a k r ∙ greeting-is true _ rest a (same-bytes rest preface whole) refl

pub other-comes : (k b : ℕ) (a : Account) → ReadsPreface k a → b ≢ slice_index preface k → with_byte b a ≡ violated 1 a
other-comes k b a r n =
    let rest : List ℕ = a.rest ++ b ∷ [] in
    let count : length rest ≡ k + 1 = grown-count preface a.rest k b r.rest (in-preface k r.short) in
    let wrong : rest ≢ take (k + 1) preface = λ e. n (grown-wrong preface a.rest k b r.rest (in-preface k r.short) e) in
    let part : bytes_eq rest (take (length rest) preface) ≡ false =
    other-bytes rest (take (length rest) preface) (λ e. wrong (e ∙ ap (λ m. take m preface) count)) in
    let whole : bytes_eq rest preface ≡ false =
    other-bytes rest preface (λ e. wrong (e ∙ sym (take_all (k + 1) preface (omega (arith, sym (ap length e) ∙ count))))) in
    byte-greets b a k r ∙ greeting-is false false rest a whole part
