-- An exchange of a hub is whole where its two ports answered without a piece, since an exchange by itself is.
use Rattle.std.proofs.Common.{sym, ◌∙◌, ap, subst, arith}
use Rattle.std.specs.Prelude.{◌≡◌, Bool, true, false, List, ◌∷◌, length, Option, Some, None, refl, map, filter_map}
use Rattle.std.proofs.lemmas.Option.{slice_get_past}
use Rattle.std.proofs.lemmas.List.{length-map}
use Rattle.ext_msgs.specs.Spelling.{ask}
use Rattle.filter_model.specs.Config.{FilterConfig}
use Rattle.filter_model.specs.View.{ViewEntry}
use Rattle.filter_model.specs.Account.{ExchangeAccount}
use Rattle.filter_model.specs.Step.{after}
use Rattle.filter_model.specs.Right.{Call, Took, Nexted, IsHistory, MayTake, account, view_of, ask_given, ask_due, end_due, due, is_quiet, AllArrived, GivenWhole}
use Rattle.filter_model.specs.declared.calls.Next.TheVariants as next
use Rattle.filter_model.specs.declared.calls.Side.{Side}
use Rattle.filter_model.specs.declared.calls.Side.TheVariants.{Client, Upstream}
use Rattle.filter_model.specs.declared.calls.Taken.{Taken}
use Rattle.filter_model.specs.declared.calls.Taken.TheVariants.{Piece, Nothing, Done, Abort, Gone}
use Rattle.filter_model.proofs.WholeAlong.{whole_along}
use Rattle.hub_model.proofs.Backed.{Backed}

-- an answer of a live exchange's `take` that gives nothing
abbrev pub Idle : Taken → Type 0
Idle (Piece bytes) = ⊥
Idle Gone = ⊥
Idle _ = Unit {0}

-- every ask and every end was given, and `next` has nothing more
record Drained (c : FilterConfig) (v : List ViewEntry) : Type 0 where
  calls : List Call
  history : IsHistory c calls
  same : view_of calls ≡ v
  no_ask : ask_due c calls ≡ None
  no_end : end_due c calls ≡ None

no_ask_due : (c : FilterConfig) (g : List Call) → length (filter_map ask_given g) ≡ length (account c g).made → ask_due c g ≡ None
no_ask_due c g e =
    let n : length (map ask (account c g).made) ≡ length (account c g).made = length-map (account c g).made ask in
    slice_get_past (map ask (account c g).made) (length (filter_map ask_given g)) (omega arith)

drain_end : (c : FilterConfig) (g : List Call) (e : Option Bool) → end_due c g ≡ e → IsHistory c g → ask_due c g ≡ None → Drained c (view_of g)
drain_end c g None is s a = record { calls = g; history = s; same = refl; no_ask = a; no_end = is }
drain_end c g (Some true) is s a = record {
  calls = Nexted next.Finish ∷ g;
  history = (s, ap (λ o. due o (Some true)) (sym a) ∙ ap (due (ask_due c g)) (sym is));
  same = refl;
  no_ask = a;
  no_end = refl;
}
drain_end c g (Some false) is s a = record {
  calls = Nexted next.Reset ∷ g;
  history = (s, ap (λ o. due o (Some false)) (sym a) ∙ ap (due (ask_due c g)) (sym is));
  same = refl;
  no_ask = a;
  no_end = refl;
}

drained : (c : FilterConfig) (v : List ViewEntry) → Backed c v → Drained c v
drained c v b =
    let a : ask_due c b.calls ≡ None = no_ask_due c b.calls (b.caught_up ∙ ap (λ u. length (after c u).made) (sym b.same)) in
    subst (Drained c) b.same (drain_end c b.calls (end_due c b.calls) refl b.history a)

quiet : (g : List Call) (t u : Taken) → Idle t → Idle u → is_quiet (Took Client t ∷ Took Upstream u ∷ Nexted next.Nothing ∷ g) ≡ true
quiet g (Piece bytes) u i k = absurd i
quiet g Gone u i k = absurd i
quiet g Nothing (Piece bytes) i k = absurd k
quiet g Nothing Gone i k = absurd k
quiet g Nothing Nothing i k = refl
quiet g Nothing Done i k = refl
quiet g Nothing Abort i k = refl
quiet g Done (Piece bytes) i k = absurd k
quiet g Done Gone i k = absurd k
quiet g Done Nothing i k = refl
quiet g Done Done i k = refl
quiet g Done Abort i k = refl
quiet g Abort (Piece bytes) i k = absurd k
quiet g Abort Gone i k = absurd k
quiet g Abort Nothing i k = refl
quiet g Abort Done i k = refl
quiet g Abort Abort i k = refl

-- a take that gives no piece changes no account
idle_same : (c : FilterConfig) (g : List Call) (side : Side) (t : Taken) → Idle t → account c (Took side t ∷ g) ≡ account c g
idle_same c g side (Piece bytes) i = absurd i
idle_same c g side Gone i = absurd i
idle_same c g side Nothing i = refl
idle_same c g side Done i = refl
idle_same c g side Abort i = refl

pub whole_from : (c : FilterConfig) (v : List ViewEntry) → Backed c v → (t u : Taken) → Idle t → Idle u
    → MayTake c (after c v) Client t → MayTake c (after c v) Upstream u → AllArrived (after c v) → GivenWhole c (after c v)
whole_from c v b t u it iu mt mu arrived =
    let d : Drained c v = drained c v b in
    let to : (w : List ViewEntry) → w ≡ v → (P : ExchangeAccount → Type 0) → P (after c v) → P (after c w) = λ w e P p. subst (λ x. P (after c x)) (sym e) p in
    let g0 : List Call = Nexted next.Nothing ∷ d.calls in
    let s0 : IsHistory c g0 = (d.history, ap (λ o. due o None) (sym d.no_ask) ∙ ap (due (ask_due c d.calls)) (sym d.no_end)) in
    let g1 : List Call = Took Upstream u ∷ g0 in
    let s1 : IsHistory c g1 = (s0, to (view_of d.calls) d.same (λ a. MayTake c a Upstream u) mu) in
    let e1 : account c g1 ≡ account c d.calls = idle_same c g0 Upstream u iu in
    let g2 : List Call = Took Client t ∷ g1 in
    let s2 : IsHistory c g2 = (s1, subst (λ a. MayTake c a Client t) (sym e1) (to (view_of d.calls) d.same (λ a. MayTake c a Client t) mt)) in
    let e2 : account c g2 ≡ after c v = idle_same c g1 Client t it ∙ e1 ∙ ap (after c) d.same in
    subst (GivenWhole c) e2 (whole_along c g2 s2 (quiet d.calls t u it iu) (subst AllArrived (sym e2) arrived))
