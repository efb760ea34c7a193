-- In every history at most one end was given, and it is the one that was due.
use Rattle.std.proofs.Common.{inl, inr, ◌∙◌, ap, refl}
use Rattle.std.specs.Prelude.{◌≡◌, Bool, true, false, ◌||◌, List, [], ◌∷◌, Option, Some, None, filter_map, if◌then◌else◌, is_some}
use Rattle.http_model.specs.Bytes.{is_empty}
use Rattle.filter_model.specs.Config.{FilterConfig}
use Rattle.filter_model.specs.Account.{ExchangeAccount, gathered}
use Rattle.filter_model.specs.Step.{rules, step, step_if, after, after_end, still_counts, under_departure, is_departure, is_live, with_ending}
use Rattle.filter_model.specs.View.{ViewEntry, Given}
use Rattle.filter_model.specs.Right.{Call, Stepped, Took, Nexted, Failed, IsHistory, account, ask_due, end_given, end_due, due, EndsRight}
use Rattle.filter_model.specs.declared.calls.Next.TheVariants as next
use Rattle.filter_model.specs.declared.calls.Taken.TheVariants.{Piece}
use Rattle.filter_model.proofs.Kept.{departure_kept, gathered-ending}

after_end-ending : (e : ViewEntry) (a : ExchangeAccount) (b : Bool) → (after_end e a b).ending ≡ a.ending
after_end-ending e a true = gathered-ending e a
after_end-ending e a false = refl

kept_ending : (x : Option Bool) (b : Bool) (z : Option Bool) (q p : Bool) → x ≡ Some b → (if is_some x || p || q then x else z) ≡ Some b
kept_ending (Some v) b z q p e = e
kept_ending None b z q p e = absurd cc

with_ending-kept : (c : FilterConfig) (a : ExchangeAccount) (b : Bool) → a.ending ≡ Some b → (with_ending c a).ending ≡ Some b
unfolding with_ending
with_ending-kept c a b e = kept_ending a.ending b _ a.unopened (is_empty a.made) e

step_if-ending : (c : FilterConfig) (e : ViewEntry) (a : ExchangeAccount) (live b : Bool) → a.ending ≡ Some b → (step_if c e a live).ending ≡ Some b
unfolding rules
step_if-ending c e a true b p =
    let g : ExchangeAccount = gathered e a in
    with_ending-kept c (under_departure c e g (is_departure e g)) b ((departure_kept c e g (is_departure e g)).ending ∙ gathered-ending e a ∙ p)
step_if-ending c e a false b p = after_end-ending e a (still_counts e) ∙ p

step-ending : (c : FilterConfig) (e : ViewEntry) (a : ExchangeAccount) (b : Bool) → a.ending ≡ Some b → (step c e a).ending ≡ Some b
unfolding step
step-ending c e a b p = step_if-ending c e a (is_live a.fate) b p

stepped : (c : FilterConfig) (e : ViewEntry) (a : ExchangeAccount) (given : List Bool) → EndsRight given a.ending → EndsRight given (step c e a).ending
stepped c e a given (inl p) = inl p
stepped c e a given (inr (inl (p, q))) = inr (inl (step-ending c e a true p, q))
stepped c e a given (inr (inr (p, q))) = inr (inr (step-ending c e a false p, q))

end_of_due : (x : Option (List _)) (y : Option Bool) → next.Finish ≡ due x y → y ≡ Some true
end_of_due (Some b) y e = absurd cc
end_of_due None (Some true) e = refl
end_of_due None (Some false) e = absurd cc
end_of_due None None e = absurd cc

reset_of_due : (x : Option (List _)) (y : Option Bool) → next.Reset ≡ due x y → y ≡ Some false
reset_of_due (Some b) y e = absurd cc
reset_of_due None (Some true) e = absurd cc
reset_of_due None (Some false) e = refl
reset_of_due None None e = absurd cc

first_end : (given : List Bool) (ending : Option Bool) (b : Bool) → (if is_empty given then ending else None) ≡ Some b → (given ≡ []) × (ending ≡ Some b)
first_end [] ending b e = (refl, e)
first_end (x ∷ xs) ending b e = absurd cc

pub ends_right : (c : FilterConfig) (h : List Call) → IsHistory c h → EndsRight (filter_map end_given h) (account c h).ending
unfolding after
ends_right c [] s = inl refl
ends_right c (Stepped e ∷ h) s = stepped c e (account c h) (filter_map end_given h) (ends_right c h s.0)
ends_right c (Took side (Piece bytes) ∷ h) s = stepped c (Given side bytes) (account c h) (filter_map end_given h) (ends_right c h s.0)
ends_right c (Took side _ ∷ h) s = ends_right c h s.0
ends_right c (Nexted next.Finish ∷ h) s =
    let p = first_end (filter_map end_given h) (account c h).ending true (end_of_due (ask_due c h) (end_due c h) s.1) in
    inr (inl (p.1, ap (λ l. true ∷ l) p.0))
ends_right c (Nexted next.Reset ∷ h) s =
    let p = first_end (filter_map end_given h) (account c h).ending false (reset_of_due (ask_due c h) (end_due c h) s.1) in
    inr (inr (p.1, ap (λ l. false ∷ l) p.0))
ends_right c (Nexted _ ∷ h) s = ends_right c h s.0
ends_right c (Failed ∷ h) s = ends_right c h s.0
