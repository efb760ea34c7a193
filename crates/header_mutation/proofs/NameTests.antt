-- Facts on the tests of names.
use Rattle.std.proofs.Common.{◌≡◌, ℕ, Bool, true, false, ◌&&◌, List, [], ◌∷◌, length, take, refl, sym, ◌∙◌, ap, arith, nat_eq, bytes_eq, IsTrue, ◌↔◌, nat_lt, codes, if◌then◌else◌}
use Rattle.std.proofs.lemmas.List.{take-map}
use Rattle.std.proofs.lemmas.Bool.Decides.{Decides-by_and, Decides-and, Decides-ltb, same_from_decides, nat_tests}
use Rattle.std.specs.List.{list_all, starts_with}
use Rattle.std.specs.Char.{to_ascii_lowercase}
use Rattle.http_header.specs.Token.{lowercase, token_test, is_token_byte, IsToken}
use Rattle.header_mutation.specs.Names.{folded, is_pseudo}

nat_eq_sym : (x y : ℕ) → nat_eq x y ≡ nat_eq y x
nat_eq_sym x y = grind (arith, nat_tests)

-- texts are compared from either side
bytes_eq_sym : (a b : List ℕ) → bytes_eq a b ≡ bytes_eq b a
bytes_eq_sym [] [] = refl
bytes_eq_sym [] (y ∷ b) = refl
bytes_eq_sym (x ∷ a) [] = refl
bytes_eq_sym (x ∷ a) (y ∷ b) = rw (nat_eq_sym x y, bytes_eq_sym a b) refl

-- a name begins with a text where as many bytes of it are that text
pub begins_as_compared : (name text : List ℕ)
    → bytes_eq (lowercase (take (length text) name)) text ≡ starts_with nat_eq (lowercase name) text
begins_as_compared name text =
    bytes_eq_sym (lowercase (take (length text) name)) text
    ∙ ap (λ (front : List ℕ). bytes_eq text front) (sym (take-map to_ascii_lowercase (length text) name))

-- the test of a token, as one that computes
pub token_is_tested : (r : Bool) (bytes : List ℕ) → (IsTrue r ↔ IsToken bytes)
    → r ≡ (nat_lt 0 (length bytes) && list_all token_test bytes)
unfolding is_token_byte
token_is_tested r bytes h =
    same_from_decides r (nat_lt 0 (length bytes) && list_all token_test bytes) h
    (Decides-and (nat_lt 0 (length bytes)) (list_all token_test bytes) (Decides-ltb 0 (length bytes))
    (Decides-by_and token_test (λ b. IsTrue (is_token_byte b)) (list_all token_test) (λ b. (λ h. h, λ h. h)) refl (λ _ _. refl) bytes))

-- `:authority` stands as it is
pub folded_authority : folded (codes ":authority") ≡ codes ":authority"
unfolding folded is_pseudo
folded_authority = refl

lowered_colon : (b : ℕ) → nat_eq (to_ascii_lowercase b) 58 ≡ nat_eq b 58
lowered_colon b = grind (arith, nat_tests)

-- a name begins with `:` in lower case where it does as it is written
pub is_pseudo_folded : (name : List ℕ) → is_pseudo (folded name) ≡ is_pseudo name
unfolding folded is_pseudo
is_pseudo_folded [] = refl
is_pseudo_folded (b ∷ name) = by_first (nat_eq b 58) refl
  where
    by_first : (t : Bool) → nat_eq b 58 ≡ t → is_pseudo (if t then b ∷ name else lowercase (b ∷ name)) ≡ nat_eq b 58
    by_first true h = refl
    by_first false h = lowered_colon b
