-- In every history the asks that `next` gave are the first of the asks made.
use Rattle.std.proofs.Common.{sym, ◌∙◌, ap, subst}
use Rattle.std.proofs.lemmas.List.{map-append, reverse-append, length-reverse}
use Rattle.std.specs.Prelude.{ℕ, ◌≡◌, Bool, true, false, List, [], ◌∷◌, ◌++◌, length, Option, Some, None, refl, map, reverse, filter_map, slice_get, unwrap_or}
use Rattle.ext_msgs.specs.Spelling.{ask}
use Rattle.http_model.specs.Bytes.{IsPrefix}
use Rattle.filter_model.specs.Config.{FilterConfig}
use Rattle.filter_model.specs.Account.{ExchangeAccount}
use Rattle.filter_model.specs.Step.{after, step}
use Rattle.filter_model.specs.View.{ViewEntry, Given}
use Rattle.filter_model.specs.Right.{Call, Stepped, Took, Nexted, Failed, IsHistory, account, ask_given, ask_due, end_due, due}
use Rattle.filter_model.specs.declared.calls.Next.{Next}
use Rattle.filter_model.specs.declared.calls.Next.TheVariants as next
use Rattle.filter_model.specs.declared.calls.Taken.TheVariants.{Piece}
use Rattle.filter_model.proofs.Kept.{step-made}
use Rattle.http_model.proofs.BodiesGrow.{onward}

get_behind : {A : Type 0} (xs rest : List A) → slice_get (xs ++ rest) (length xs) ≡ slice_get rest 0
get_behind [] rest = refl
get_behind (x ∷ xs) rest = get_behind xs rest

none_is_not_some : {A : Type 0} {y : A} → None ≡ Some y → ⊥
none_is_not_some e = cc

first_of_rest : {A : Type 0} (rest : List A) (y : A) → slice_get rest 0 ≡ Some y → (more : List A) × (rest ≡ y ∷ more)
first_of_rest [] y e = absurd (none_is_not_some e)
first_of_rest (x ∷ more) y e = (more, ap (λ o. unwrap_or o x ∷ more) e)

-- a prefix goes on with the element at its length
longer : {A : Type 0} (xs ys : List A) (y : A) → IsPrefix xs ys → slice_get ys (length xs) ≡ Some y → IsPrefix (xs ++ y ∷ []) ys
longer xs ys y p e =
    let at : slice_get p.rest 0 ≡ Some y = sym (get_behind xs p.rest) ∙ ap (λ l. slice_get l (length xs)) p.whole ∙ e in
    let first : (more : List _) × (p.rest ≡ y ∷ more) = first_of_rest p.rest y at in
    record { rest = first.0; whole = append_one xs y first.0 ∙ ap (λ l. xs ++ l) (sym first.1) ∙ p.whole }
  where
    append_one : {A : Type 0} (xs : List A) (y : A) (more : List A) → (xs ++ y ∷ []) ++ more ≡ xs ++ y ∷ more
    append_one [] y more = refl
    append_one (x ∷ xs) y more = ap (λ l. x ∷ l) (append_one xs y more)

grown : (c : FilterConfig) (e : ViewEntry) (a : ExchangeAccount) → IsPrefix (map ask a.made) (map ask (step c e a).made)
grown c e a =
    let p : IsPrefix a.made (step c e a).made = step-made c e a in
    record { rest = map ask p.rest; whole = sym (map-append ask a.made p.rest) ∙ ap (map ask) p.whole }

ask_of_due : (x : Option (List ℕ)) (y : Option Bool) (bytes : List ℕ) → next.Ask bytes ≡ due x y → x ≡ Some bytes
ask_of_due (Some b) y bytes e = ap (λ n. asked_by n) (sym e)
  where
    asked_by : Next → Option (List ℕ)
    asked_by (next.Ask b) = Some b
    asked_by _ = None
ask_of_due None (Some true) bytes e = absurd cc
ask_of_due None (Some false) bytes e = absurd cc
ask_of_due None None bytes e = absurd cc

one_more : (c : FilterConfig) (h : List Call) (bytes : List ℕ) → IsPrefix (reverse (filter_map ask_given h)) (map ask (account c h).made)
    → ask_due c h ≡ Some bytes → IsPrefix (reverse (bytes ∷ filter_map ask_given h)) (map ask (account c h).made)
one_more c h bytes p e =
    let asks : List (List ℕ) = filter_map ask_given h in
    let ys : List (List ℕ) = map ask (account c h).made in
    let at : slice_get ys (length (reverse asks)) ≡ Some bytes = ap (λ n. slice_get ys n) (length-reverse asks) ∙ e in
    subst (λ l. IsPrefix l ys) (sym (reverse-append (bytes ∷ []) asks)) (longer (reverse asks) ys bytes p at)

pub asks_right : (c : FilterConfig) (h : List Call) → IsHistory c h → IsPrefix (reverse (filter_map ask_given h)) (map ask (account c h).made)
unfolding after
asks_right c [] s = record { rest = []; whole = refl }
asks_right c (Stepped e ∷ h) s = onward (asks_right c h s.0) (grown c e (account c h))
asks_right c (Took side (Piece bytes) ∷ h) s = onward (asks_right c h s.0) (grown c (Given side bytes) (account c h))
asks_right c (Took side _ ∷ h) s = asks_right c h s.0
asks_right c (Nexted (next.Ask bytes) ∷ h) s = one_more c h bytes (asks_right c h s.0) (ask_of_due (ask_due c h) (end_due c h) bytes s.1)
asks_right c (Nexted _ ∷ h) s = asks_right c h s.0
asks_right c (Failed ∷ h) s = asks_right c h s.0
