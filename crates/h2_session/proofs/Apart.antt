-- The decoder's table and the events that are unreported stand apart from what else a frame moves.
use Rattle.std.proofs.Common.{◌≡◌, ℕ, zero, suc, Bool, true, false, List, [], ◌∷◌, ◌++◌, refl, sym, ◌∙◌, ap, map}
use Rattle.std.proofs.lemmas.List.{append-nil, append_assoc}
use Rattle.hpack_core.specs.Tables as hpack
use Rattle.h2_frames.specs.declared.frame.Frame.{Frame}
use Rattle.h2_frames.specs.declared.frame.Frame.TheVariants as frame
use Rattle.h2_model.specs.declared.answers.Event.{Event}
use Rattle.h2_model.specs.declared.answers.Event.TheVariants as event
use Rattle.h2_model.specs.Log.{stream_of}
use Rattle.h2_model.specs.State.{State}
use Rattle.h2_model.specs.Moves.{charged, opening, owing_frame, receiving, reported, resetting, telling_all}
use Rattle.h2_laws_log.specs.Steps.{opening_by, opening_for, owing_frames}
use Rattle.h2_session.specs.Refused.{refused}
use Rattle.h2_session.specs.Steps.{resetting_all}

-- The table

opening-by-table : (known full : Bool) (id : ℕ) (t : hpack.TableState) (s : State)
    → opening_by known full id (record s { table = t }) ≡ record (opening_by known full id s) { table = t }
unfolding opening owing_frame charged resetting
opening-by-table true full id t s = refl
opening-by-table false true id t s = refl
opening-by-table false false id t s = refl

pub opening-table : (known : ℕ → Bool) (f : Frame) (t : hpack.TableState) (s : State)
    → opening_for known f (record s { table = t }) ≡ record (opening_for known f s) { table = t }
opening-table known (frame.Headers id part last ends) t s = opening-by-table (known id) _ id t s
opening-table known f t s = refl

pub opening-keeps : (known : ℕ → Bool) (f : Frame) (s : State) → (opening_for known f s).table ≡ s.table
opening-keeps known f s = ap (λ (x : State). x.table) (opening-table known f s.table s)

pub receiving-table : (f : Frame) (t : hpack.TableState) (s : State) → receiving f (record s { table = t }) ≡ record (receiving f s) { table = t }
unfolding receiving
receiving-table (frame.Window zero n) t s = refl
receiving-table (frame.Window (suc id) n) t s = refl
receiving-table f t s = refl

pub receiving-keeps : (f : Frame) (s : State) → (receiving f s).table ≡ s.table
receiving-keeps f s = ap (λ (x : State). x.table) (receiving-table f s.table s)

opening-by-begun : (known full : Bool) (id : ℕ) (s : State) → (opening_by known full id s).block ≡ s.block
unfolding opening owing_frame charged resetting
opening-by-begun true full id s = refl
opening-by-begun false true id s = refl
opening-by-begun false false id s = refl

-- the block that was begun stays
pub opening-begun : (known : ℕ → Bool) (f : Frame) (s : State) → (opening_for known f s).block ≡ s.block
opening-begun known (frame.Headers id part last ends) s = opening-by-begun (known id) _ id s
opening-begun known f s = refl

-- Events

opening-by-quiet : (known full : Bool) (id : ℕ) (s : State) → (opening_by known full id s).unreported ≡ s.unreported
unfolding opening owing_frame charged resetting
opening-by-quiet true full id s = refl
opening-by-quiet false true id s = refl
opening-by-quiet false false id s = refl

pub opening-quiet : (known : ℕ → Bool) (f : Frame) (s : State) → (opening_for known f s).unreported ≡ s.unreported
opening-quiet known (frame.Headers id part last ends) s = opening-by-quiet (known id) _ id s
opening-quiet known f s = refl

pub receiving-quiet : (f : Frame) (s : State) → (receiving f s).unreported ≡ s.unreported
unfolding receiving
receiving-quiet (frame.Window zero n) s = refl
receiving-quiet (frame.Window (suc id) n) s = refl
receiving-quiet f s = refl

reported-aside : (e : Event) (us : List Event) (s : State) → reported e (record s { unreported = us }) ≡ record (reported e s) { unreported = us }
unfolding reported resetting
reported-aside (event.Head id fields last) us s = refl
reported-aside (event.Reset id code) us s = refl
reported-aside e us s = refl

owing-aside : (headless : Bool) (f : Frame) (us : List Event) (s : State)
    → owing_frame headless f (record s { unreported = us }) ≡ record (owing_frame headless f s) { unreported = us }
unfolding owing_frame charged resetting
owing-aside true f us s = refl
owing-aside false (frame.Window zero n) us s = refl
owing-aside false (frame.Window (suc id) n) us s = refl
owing-aside false f us s = refl

pub owing-all-aside : (headless : ℕ → Bool) (fs : List Frame) (us : List Event) (s : State)
    → owing_frames headless fs (record s { unreported = us }) ≡ record (owing_frames headless fs s) { unreported = us }
owing-all-aside headless [] us s = refl
owing-all-aside headless (f ∷ fs) us s =
    ap (owing_frames headless fs) (owing-aside (headless (stream_of f)) f us s) ∙ owing-all-aside headless fs us (owing_frame (headless (stream_of f)) f s)

-- streams that are refused are told one by one
tells-refused : (ids : List ℕ) (us : List Event) (s : State)
    → telling_all (map refused ids) (record s { unreported = us }) ≡ record (resetting_all ids s) { unreported = us ++ map refused ids }
unfolding reported resetting
tells-refused [] us s = ap (λ (x : List Event). record s { unreported = x }) (sym (append-nil us))
tells-refused (id ∷ ids) us s =
    tells-refused ids (us ++ refused id ∷ []) (resetting id s)
    ∙ ap (λ (x : List Event). record (resetting_all ids (resetting id s)) { unreported = x }) (append_assoc us (refused id ∷ []) (map refused ids))

-- an event is told, and behind it the streams that it refuses
pub tells-first : (e : Event) (ids : List ℕ) (s : State) → s.unreported ≡ []
    → telling_all (e ∷ map refused ids) s ≡ record (resetting_all ids (reported e s)) { unreported = e ∷ map refused ids }
tells-first e ids s q =
    ap (telling_all (map refused ids)) (ap (λ (us : List Event). record (reported e s) { unreported = us ++ e ∷ [] }) (stays ∙ q))
    ∙ tells-refused ids (e ∷ []) (reported e s)
  where
    stays : (reported e s).unreported ≡ s.unreported
    stays = ap (λ (x : State). x.unreported) (reported-aside e s.unreported s)
