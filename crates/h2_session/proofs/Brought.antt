-- What a frame brings: the event that is told, and behind it the streams that are refused.
use Rattle.std.proofs.Common.{◌≡◌, ◌≢◌, inl, inr, ℕ, Bool, true, false, if◌then◌else◌, List, [], ◌∷◌, Option, Some, None, refl, sym, ◌∙◌, ap, map, filter, nat_lt}
use Rattle.std.proofs.lemmas.Simd.{map-map}
use Rattle.ext_msgs.specs.declared.lists.Field.{Field}
use Rattle.h2_frames.specs.declared.frame.Frame.{Frame}
use Rattle.h2_frames.specs.declared.frame.Frame.TheVariants as frame
use Rattle.h2_model.specs.declared.answers.Event.{Event}
use Rattle.h2_model.specs.declared.answers.Event.TheVariants as event
use Rattle.h2_model.specs.declared.stream.Stream.{Stream}
use Rattle.h2_model.specs.Account.{Account}
use Rattle.h2_model.specs.Blocks.{decoded_with, fields_or_none, whole_block}
use Rattle.h2_model.specs.Calls.{event_or_nothing}
use Rattle.h2_model.specs.Duties.{events_by, events_of, faultless_events, head_event, reset_by_goaway}
use Rattle.h2_model.specs.State.{seen, streams}
use Rattle.h2_model.specs.StreamFaults.{stream_fault}
use Rattle.h2_model.specs.Streams.{is_live}
use Rattle.h2_laws_log.proofs.Answered.{reset-above}
use Rattle.h2_session.specs.Refused.{refused}
use Rattle.h2_session.specs.Steps.{IsTold, IsWhole, event_by, faultless_event, head_of, if_live, is_live_whole, is_on_live, refused_ids}
use Rattle.h2_session.specs.declared.judging.Whole.{Whole}

-- Events one by one

if-live-tells : (live : Bool) (e : Event) → e ≢ event.Nothing → IsTold (if_live live e) [] (if live then e ∷ [] else [])
if-live-tells true e n = inr (n, refl)
if-live-tells false e n = inl (refl, refl, refl)

head-tells : (b : Account) (f : Frame) (w : Option Whole) → IsWhole b f w
    → IsTold (if_live (is_live_whole b w) (head_of w)) [] (head_event b (fields_or_none (decoded_with b.log f)) (whole_block b.log f))
head-tells b f None h = inl (refl, refl, ap (head_event b (fields_or_none (decoded_with b.log f))) h)
head-tells b f (Some w) h = by (is_live w.stream b.log) refl
  where
    same : head_event b (fields_or_none (decoded_with b.log f)) (whole_block b.log f)
        ≡ (if is_live w.stream b.log then event.Head w.stream w.fields w.last ∷ [] else [])
    same = ap (head_event b (fields_or_none (decoded_with b.log f))) h.whole
        ∙ ap (λ (x : List Field). if is_live w.stream b.log then event.Head w.stream x w.last ∷ [] else []) h.fields

    by : (c : Bool) → is_live w.stream b.log ≡ c
        → IsTold (if c then event.Head w.stream w.fields w.last else event.Nothing) []
        (head_event b (fields_or_none (decoded_with b.log f)) (whole_block b.log f))
    by true e = inr ((λ q. absurd cc), same ∙ rw e refl)
    by false e = inl (refl, refl, same ∙ rw e refl)

-- a stream error comes before all else
tells-by : (b : Account) (f : Frame) (w : Option Whole) (live : Bool) → IsTold (faultless_event f w live) [] (faultless_events b f)
    → IsTold (event_by f w (stream_fault b f) live) [] (events_of b f)
unfolding events_of
tells-by b f w live h = by (stream_fault b f)
  where
    by : (s : Option (ℕ × ℕ)) → IsTold (event_by f w s live) [] (events_by b f s)
    by None = h
    by (Some s) = inr ((λ q. absurd cc), refl)

-- Streams that GOAWAY refuses

refuses : (b : Account) (last code : ℕ) → reset_by_goaway b last ≡ map refused (refused_ids b.client (frame.GoAway last code) (streams b))
unfolding seen
refuses b last code = reset-above b last ∙ by b.client
  where
    above : List Stream
    above = filter (λ t. nat_lt last t.id) (streams b)

    by : (c : Bool) → (if c then map (λ t. refused t.id) above else []) ≡ map refused (if c then map (λ t. t.id) above else [])
    by true = sym (map-map refused (λ t. t.id) above)
    by false = refl

goaway-tells : (b : Account) (last code : ℕ) (w : Option Whole) (live : Bool)
    → IsTold (event_by (frame.GoAway last code) w (stream_fault b (frame.GoAway last code)) live)
    (refused_ids b.client (frame.GoAway last code) (streams b)) (events_of b (frame.GoAway last code))
unfolding events_of stream_fault
goaway-tells b last code w live = inr ((λ q. absurd cc), ap (λ x. event.GoAway last code ∷ x) (refuses b last code))

-- what a frame tells is what the account says
pub tells : (b : Account) (f : Frame) (w : Option Whole) → IsWhole b f w
    → IsTold (event_by f w (stream_fault b f) (is_on_live b f w)) (refused_ids b.client f (streams b)) (events_of b f)
tells b (frame.GoAway last code) w h = goaway-tells b last code w _
tells b (frame.Data id bytes last size) w h =
    tells-by b (frame.Data id bytes last size) w (is_live id b.log) (if-live-tells (is_live id b.log) (event.Data id bytes last) (λ q. absurd cc))
tells b (frame.Reset id code) w h =
    tells-by b (frame.Reset id code) w (is_live id b.log) (if-live-tells (is_live id b.log) (event.Reset id code) (λ q. absurd cc))
tells b f w h = tells-by b f w (is_live_whole b w) (head-tells b f w h)

pub told-first : (e : Event) (ids : List ℕ) (es : List Event) → IsTold e ids es → e ≡ event_or_nothing es
told-first e ids es (inl t) = t.0 ∙ sym (ap event_or_nothing t.2)
told-first e ids es (inr t) = sym (ap event_or_nothing t.1)

-- where nothing is told nothing is left to tell
pub told-nothing : (e : Event) (ids : List ℕ) (es : List Event) → IsTold e ids es → e ≡ event.Nothing → es ≡ []
told-nothing e ids es (inl t) q = t.2
told-nothing e ids es (inr t) q = absurd (t.0 q)
