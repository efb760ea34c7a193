-- A view that some history of an exchange by itself has.
use Rattle.std.proofs.Common.{sym, ◌∙◌, ap, subst, arith, length-append}
use Rattle.std.specs.Prelude.{ℕ, suc, zero, ◌+◌, ◌-◌, ◌≡◌, ◌≤◌, ◌<◌, List, [], ◌∷◌, length, Some, refl, map, filter_map, slice_index_or}
use Rattle.std.proofs.lemmas.Option.{slice_get-get_or}
use Rattle.std.proofs.lemmas.List.{length-map}
use Rattle.ext_msgs.specs.Spelling.{ask}
use Rattle.http_model.specs.Bytes.{IsPrefix}
use Rattle.filter_model.specs.Config.{FilterConfig}
use Rattle.filter_model.specs.View.{ViewEntry, Bytes, End, Lost, Answered, TooLong, Closed, NoStream, Tick, Starved, Sent, Given}
use Rattle.filter_model.specs.Step.{after, room}
use Rattle.filter_model.specs.Right.{Call, Stepped, Took, Nexted, IsHistory, May, MayTake, account, view_of, ask_given, ask_due, end_due, due}
use Rattle.filter_model.specs.declared.calls.Next.TheVariants as next
use Rattle.filter_model.specs.declared.calls.Side.{Side}
use Rattle.filter_model.specs.declared.calls.Taken.TheVariants.{Piece}
use Rattle.filter_model.proofs.Kept.{step-made}

-- with every ask given, so that each may be sent
pub record Backed (c : FilterConfig) (v : List ViewEntry) : Type 0 where
  pub calls : List Call
  pub history : IsHistory c calls
  pub same : view_of calls ≡ v
  pub caught_up : length (filter_map ask_given calls) ≡ length (after c v).made

pub backed_nil : (c : FilterConfig) → Backed c []
unfolding after
backed_nil c = record { calls = []; history = tt; same = refl; caught_up = refl }

due_ask : (c : FilterConfig) (g : List Call) → length (filter_map ask_given g) < length (account c g).made
    → ask_due c g ≡ Some (slice_index_or (map ask (account c g).made) (length (filter_map ask_given g)) [])
due_ask c g h =
    let asks : List (List ℕ) = map ask (account c g).made in
    let n : ℕ = length (filter_map ask_given g) in
    let e : length asks ≡ length (account c g).made = length-map (account c g).made ask in
    slice_get-get_or asks n [] (subst (λ m. n < m) (sym e) h)

-- the asks that weren't given are given
catch_up : (n : ℕ) (c : FilterConfig) (g : List Call) → IsHistory c g → length (filter_map ask_given g) + n ≡ length (account c g).made
    → Backed c (view_of g)
catch_up zero c g s e = record { calls = g; history = s; same = refl; caught_up = omega arith }
catch_up (suc n) c g s e =
    let m : ℕ = length (filter_map ask_given g) in
    let bytes : List ℕ = slice_index_or (map ask (account c g).made) m [] in
    let few : m < length (account c g).made = omega arith in
    let is : ask_due c g ≡ Some bytes = due_ask c g few in
    catch_up n c (Nexted (next.Ask bytes) ∷ g) (s, ap (λ o. due o (end_due c g)) (sym is)) (omega arith)

pub is_longer : {A : Type 0} {xs ys : List A} → IsPrefix xs ys → length xs ≤ length ys
is_longer {xs = xs} {ys = ys} p =
    let e : length xs + length p.rest ≡ length ys = sym (length-append xs p.rest) ∙ ap length p.whole in omega arith

grows : (c : FilterConfig) (e : ViewEntry) (v : List ViewEntry) → length (after c v).made ≤ length (after c (e ∷ v)).made
unfolding after
grows c e v = is_longer (step-made c e (after c v))

-- what an entry has to meet
abbrev pub Enters : FilterConfig → List ViewEntry → ViewEntry → Type 0
Enters c v (Bytes s bytes) = length bytes ≤ room c (after c v) s
Enters c v (Given s bytes) = MayTake c (after c v) s (Piece bytes)
Enters c v Sent = (after c v).sent < length (after c v).made
Enters c v _ = Unit {0}

by_step : (c : FilterConfig) (g : List Call) (e : ViewEntry) → IsHistory c g → length (filter_map ask_given g) ≡ length (account c g).made
    → May c (Stepped e) g → Backed c (e ∷ view_of g)
by_step c g e s k m =
    let up : length (account c g).made ≤ length (after c (e ∷ view_of g)).made = grows c e (view_of g) in
    catch_up (length (after c (e ∷ view_of g)).made - length (account c g).made) c (Stepped e ∷ g) (s, m) (omega arith)

by_take : (c : FilterConfig) (g : List Call) (side : Side) (bytes : List ℕ) → IsHistory c g → length (filter_map ask_given g) ≡ length (account c g).made
    → MayTake c (account c g) side (Piece bytes) → Backed c (Given side bytes ∷ view_of g)
by_take c g side bytes s k m =
    let up : length (account c g).made ≤ length (after c (Given side bytes ∷ view_of g)).made = grows c (Given side bytes) (view_of g) in
    catch_up (length (after c (Given side bytes ∷ view_of g)).made - length (account c g).made) c (Took side (Piece bytes) ∷ g) (s, m) (omega arith)

enter_calls : (c : FilterConfig) (g : List Call) (e : ViewEntry) → IsHistory c g → length (filter_map ask_given g) ≡ length (account c g).made
    → Enters c (view_of g) e → Backed c (e ∷ view_of g)
enter_calls c g (Bytes side bytes) s k m = by_step c g (Bytes side bytes) s k m
enter_calls c g (Given side bytes) s k m = by_take c g side bytes s k m
enter_calls c g Sent s k m = by_step c g Sent s k (subst (λ n. (account c g).sent < n) (sym k) m)
enter_calls c g (End side) s k m = by_step c g (End side) s k tt
enter_calls c g (Lost side how) s k m = by_step c g (Lost side how) s k tt
enter_calls c g (Answered a) s k m = by_step c g (Answered a) s k tt
enter_calls c g TooLong s k m = by_step c g TooLong s k tt
enter_calls c g (Closed clean) s k m = by_step c g (Closed clean) s k tt
enter_calls c g NoStream s k m = by_step c g NoStream s k tt
enter_calls c g (Tick now) s k m = by_step c g (Tick now) s k tt
enter_calls c g Starved s k m = by_step c g Starved s k tt

-- a view goes on by an entry that it may have
pub enter : (c : FilterConfig) (v : List ViewEntry) (e : ViewEntry) → Backed c v → Enters c v e → Backed c (e ∷ v)
enter c v e b m =
    let P : List ViewEntry → Type 0 = λ u. length (filter_map ask_given b.calls) ≡ length (after c u).made → Enters c u e → Backed c (e ∷ u) in
    subst P b.same (enter_calls c b.calls e b.history) b.caught_up m
