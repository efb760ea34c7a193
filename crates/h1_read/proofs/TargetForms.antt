-- Targets byte by byte.
use Rattle.std.proofs.Common.{◌≡◌, ℕ, ◌+◌, ◌<◌, ◌≤◌, ◌==◌, ◌&&◌, Bool, true, false, if◌then◌else◌, List, [], ◌∷◌, ◌++◌, length, get_or, take, drop, refl, sym, ap, ◌∙◌, arith, bytes_eq, append_assoc, append-nil}
use Rattle.std.proofs.lemmas.List.{drop_more, drop_all, take_more, take_all}
use Rattle.http_model.specs.Bytes.{lower, lower_byte, begins_with}
use Rattle.http_model.specs.Heads.{span}
use Rattle.h1_read.proofs.ShownFields.{nat_eq_sym}

pub too_short : (text prefix : List ℕ) → length text < length prefix → begins_with prefix (lower text) ≡ false
too_short text [] h = absurd (omega arith)
too_short [] (x ∷ prefix) h = refl
too_short (y ∷ text) (x ∷ prefix) h = ap (λ t. x == lower_byte y && t) (too_short text prefix (omega arith)) ∙ never (x == lower_byte y)
  where
    never : (t : Bool) → (t && false) ≡ false
    never true = refl
    never false = refl

pub begins_lower : (text prefix : List ℕ) → length prefix ≤ length text → begins_with prefix (lower text) ≡ bytes_eq (lower (take (length prefix) text)) prefix
begins_lower text [] h = none text
  where
    none : (text : List ℕ) → true ≡ bytes_eq (lower (take 0 text)) []
    none [] = refl
    none (b ∷ text) = refl
begins_lower [] (x ∷ prefix) h = absurd (omega arith)
begins_lower (y ∷ text) (x ∷ prefix) h =
    ap (λ t. x == lower_byte y && t) (begins_lower text prefix (omega arith)) ∙ ap (λ t. t && bytes_eq (lower (take (length prefix) text)) prefix) (nat_eq_sym x (lower_byte y))

-- The bytes at the front that pass a test

pub record Splits (test : ℕ → Bool) (s : List ℕ) (i : ℕ) : Type 0 where
  pub joined : span test s ≡ (take i s ++ (span test (drop i s)).0, (span test (drop i s)).1)

pub starts : (test : ℕ → Bool) (s : List ℕ) → Splits test s 0
starts test [] = record { joined = refl }
starts test (b ∷ s) = record { joined = refl }

pub span_next : (test : ℕ → Bool) (s : List ℕ) (i : ℕ) → i < length s → test (get_or s i 0) ≡ true → Splits test s i → Splits test s (i + 1)
span_next test s i h e w =
    let here : span test (drop i s) ≡ (get_or s i 0 ∷ (span test (drop (i + 1) s)).0, (span test (drop (i + 1) s)).1) =
    ap (span test) (drop_more s i 0 h)
    ∙ ap (λ t. if t then (get_or s i 0 ∷ (span test (drop (i + 1) s)).0, (span test (drop (i + 1) s)).1) else ([], get_or s i 0 ∷ drop (i + 1) s)) e in
    record {
      joined = w.joined
          ∙ ap (λ (p : List ℕ × List ℕ). (take i s ++ p.0, p.1)) here
          ∙ ap (λ (l : List ℕ). (l, (span test (drop (i + 1) s)).1))
          (sym (append_assoc (take i s) (get_or s i 0 ∷ []) (span test (drop (i + 1) s)).0) ∙ ap (λ l. l ++ (span test (drop (i + 1) s)).0) (sym (take_more s i 0 h)));
    }

pub span_here : (test : ℕ → Bool) (s : List ℕ) (i : ℕ) → i < length s → test (get_or s i 0) ≡ false → Splits test s i → span test s ≡ (take i s, drop i s)
span_here test s i h e w =
    let here : span test (drop i s) ≡ ([], drop i s) =
    ap (span test) (drop_more s i 0 h)
    ∙ ap (λ t. if t then (get_or s i 0 ∷ (span test (drop (i + 1) s)).0, (span test (drop (i + 1) s)).1) else ([], get_or s i 0 ∷ drop (i + 1) s)) e
    ∙ ap (λ (l : List ℕ). ([], l)) (sym (drop_more s i 0 h)) in
    w.joined ∙ ap (λ (p : List ℕ × List ℕ). (take i s ++ p.0, p.1)) here ∙ ap (λ (l : List ℕ). (l, drop i s)) (append-nil (take i s))

pub span_none : (test : ℕ → Bool) (s : List ℕ) (i : ℕ) → length s ≤ i → Splits test s i → span test s ≡ (take (length s) s, drop (length s) s)
span_none test s i h w =
    let here : span test (drop i s) ≡ ([], []) = ap (span test) (drop_all i s h) in
    w.joined ∙ ap (λ (p : List ℕ × List ℕ). (take i s ++ p.0, p.1)) here
    ∙ ap (λ (l : List ℕ). (l, [])) (append-nil (take i s) ∙ take_all i s h ∙ sym (take_all (length s) s (omega arith)))
    ∙ ap (λ (l : List ℕ). (take (length s) s, l)) (sym (drop_all (length s) s (omega arith)))
