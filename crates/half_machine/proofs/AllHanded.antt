-- A half knows when every byte of an ended message was handed out.
use Rattle.std.proofs.Common.{refl, sym, ◌∙◌, ap, subst, arith}
use Rattle.std.proofs.lemmas.Bool.{eq-eqb, eqb-true}
use Rattle.std.specs.Prelude.{ℕ, ◌≡◌, ◌+◌, ◌==◌, Bool, true, false, not, ◌&&◌, ◌||◌, length, Option, Some, None, option_map, if◌then◌else◌}
use Rattle.http_model.specs.declared.types.Framing.{Framing}
use Rattle.http_model.specs.declared.types.Framing.TheVariants.{NoField, Length, Chunked}
use Rattle.filter_model.specs.AllGiven.{is_all_handed, is_tail_handed, is_tail_at}
use Rattle.filter_model.specs.Course.{Changed, Outgoing, body_of, changed, changed_at, replacement}
use Rattle.filter_model.specs.Half.{Past, Taken, becomes, progress, course}
use Rattle.half_machine.specs.Asking.{passes}
use Rattle.half_machine.specs.Giving.{is_body_handed, is_handed_in, is_tail_in}
use Rattle.half_machine.specs.Stands.{StandsFor, flow}
use Rattle.half_machine.specs.declared.half.Half.{Half}
use Rattle.half_machine.proofs.GivingBehind.{end_of}
use Rattle.half_machine.proofs.GivingParts.{Framed, framed, head_of}
use Rattle.half_machine.proofs.Permit.{changed_flow, left_over}

-- n of all are handed out exactly where none is left
both_are : (x y z : Bool) → (x ≡ true → y ≡ true → z ≡ true) → (z ≡ true → (x ≡ true) × (y ≡ true)) → (x && y) ≡ z
both_are true true z f g = sym (f refl refl)
both_are true false false f g = refl
both_are true false true f g = (g refl).1
both_are false y false f g = refl
both_are false y true f g = (g refl).0

none_left : (n out hand all : ℕ) (b : Bool) → n + (out + (if b then hand else 0)) ≡ all → ((out == 0) && (not b || (hand == 0))) ≡ (n == all)
none_left n out hand all true e = both_are (out == 0) (hand == 0) (n == all)
    (λ i j. let u = eqb-true out 0 i in let v = eqb-true hand 0 j in eq-eqb n all (omega (arith, u, v, e)))
    (λ i. let u = eqb-true n all i in (eq-eqb out 0 (omega (arith, u, e)), eq-eqb hand 0 (omega (arith, u, e))))
none_left n out hand all false e = both_are (out == 0) true (n == all)
    (λ i j. let u = eqb-true out 0 i in eq-eqb n all (omega (arith, u, e)))
    (λ i. let u = eqb-true n all i in (eq-eqb out 0 (omega (arith, u, e)), refl))

tail_is : (p : Past) (x : Half) (framing : Framing) → StandsFor p x → is_tail_in x framing ≡ is_tail_handed framing (progress p).taken
tail_is p x Chunked s = ap (λ b. b || x.gone.ended) s.ties.gone.trailers ∙ ap (λ b. (progress p).taken.trailers || b) s.ties.gone.ended
tail_is p x NoField s = refl
tail_is p x (Length n) s = refl

pub all_handed : (p : Past) (x : Half) (framing : Framing) → StandsFor p x → x.gone.framing ≡ Some framing
    → is_handed_in x framing ≡ is_all_handed (becomes p) (progress p).taken
all_handed p x framing s e =
    let f : Framed (course p) framing = framed p x framing s e in
    let t : Taken = (progress p).taken in
    let m : Changed = becomes p in
    let b : is_body_handed x ≡ (t.body == length (body_of m)) =
    none_left t.body (length x.hold.out) (length x.hold.hand) (length (flow p.config p.direction (course p))) (passes x) (left_over p.config p.direction (progress p) x s.ties)
    ∙ ap (λ l. t.body == length l) (sym (changed_flow p.config p.direction (course p) f.head f.chosen)) in
    let h : is_tail_handed framing t ≡ is_tail_at m.head t =
    ap (λ g. is_tail_handed g t) (sym f.same) ∙ ap (λ o. is_tail_at o t) (sym (head_of p.config p.direction (course p) (Some f.head) f.chosen)) in
    ap (λ b. b && x.gone.head && is_body_handed x && is_tail_in x framing) (sym (end_of p x f.head s f.chosen).ends)
    ∙ ap (λ b. m.ended && b && is_body_handed x && is_tail_in x framing) s.ties.gone.head
    ∙ ap (λ b. m.ended && t.head && b && is_tail_in x framing) b
    ∙ ap (λ b. m.ended && t.head && (t.body == length (body_of m)) && b) (tail_is p x framing s ∙ h)

-- before its head nothing ends
pub none_handed : (p : Past) (x : Half) → StandsFor p x → x.gone.framing ≡ None → is_all_handed (becomes p) (progress p).taken ≡ false
unfolding changed
none_handed p x s e = by (course p).head refl
  where
    by : (o : Option Outgoing) → (course p).head ≡ o → is_all_handed (becomes p) (progress p).taken ≡ false
    by None i = ap (λ o. is_all_handed (changed_at p.config (course p) o (replacement p.direction (course p))) (progress p).taken) i
    by (Some o) i = absurd (differs (sym e ∙ s.ties.gone.framing ∙ ap (option_map (λ (o : Outgoing). o.framing)) i))
      where
        differs : None ≡ Some o.framing → ⊥
        differs e = cc
