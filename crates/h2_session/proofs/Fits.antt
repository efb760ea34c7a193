-- A frame that is no connection error fits what is kept: it counts without leaving its types.
use Rattle.std.proofs.Common.{◌≡◌, ℕ, zero, suc, ◌+◌, ◌-◌, ◌≤◌, ◌<◌, ◌^◌, Bool, true, false, not, ◌&&◌, Option, Some, None, if◌then◌else◌, nat_lt, refl, sym, ◌∙◌, ap, subst, arith, true≢false, ◌==◌, ℤ, pos, ◌+ℤ◌, ◌≤ℤ◌}
use Rattle.std.proofs.lemmas.Bool.{ltb-false, or_parts}
use Rattle.std.proofs.lemmas.Int.{ints}
use Rattle.h2_frames.specs.declared.frame.Frame.{Frame}
use Rattle.h2_frames.specs.declared.frame.Frame.TheVariants as frame
use Rattle.h2_model.specs.declared.answers.Event.TheVariants as event
use Rattle.h2_model.specs.declared.stream.Stream.{Stream}
use Rattle.h2_model.specs.Account.{Account}
use Rattle.h2_model.specs.Blocks.{block_with, open_block}
use Rattle.h2_model.specs.Codes.{first_row, flow_control_error, protocol_error}
use Rattle.h2_model.specs.History.{with_opening}
use Rattle.h2_model.specs.Moves.{receiving, reported, resetting}
use Rattle.h2_model.specs.Settings.{initial_window}
use Rattle.h2_model.specs.State.{State, stream_of_log, streams}
use Rattle.h2_model.specs.StreamFaults.{stream_fault, update_rows, with_stream}
use Rattle.h2_model.specs.Streams.{is_live}
use Rattle.h2_model.specs.Valid.{Valid, updates_in}
use Rattle.h2_model.specs.Violations.{breaks_block, exceeds_window, has_bad_setting, has_wide_setting, is_empty_update, is_first, is_long, is_on_unopened, is_push, is_settings, violation_of, widens_connection}
use Rattle.h2_model.specs.Windows.{connection_window, is_too_wide, receiving_window, unreturned, window_from}
use Rattle.h2_streams.specs.Rows.{early_rows, late_rows}
use Rattle.h2_streams.proofs.Rows.{or_row, violation-parts}
use Rattle.h2_streams.proofs.Accounted.{connection, credited, increased}
use Rattle.h2_session.specs.Steps.{CanCount, CanTake, IsAbsorbed, IsWhole, ending, event_by}
use Rattle.h2_session.specs.declared.judging.Whole.{Whole}
use Rattle.h2_session.proofs.Judged.{its-stream, its-unreturned, some}
use Rattle.h2_laws_log.proofs.Arrives.{row}

-- The rows that don't hold

pub record Passes (a : Account) (f : Frame) : Type 0 where
  pub widens : widens_connection a f ≡ false
  pub short : is_long (block_with a.log f) ≡ false

pub passes : (a : Account) (f : Frame) → first_row (early_rows a f) ≡ None → Passes a f
unfolding early_rows
passes a f e =
    let r1 = row (is_first a && not (is_settings f)) _ _ e in
    let r2 = row (breaks_block (open_block a.log) f) _ _ r1.1 in
    let r3 = row (is_push f) _ _ r2.1 in
    let r4 = row (is_on_unopened a f) _ _ r3.1 in
    let r5 = row (has_bad_setting a f) _ _ r4.1 in
    let r6 = row (has_wide_setting a f) _ _ r5.1 in
    let r7 = row (is_empty_update f) _ _ r6.1 in
    let r8 = row (widens_connection a f) _ _ r7.1 in
    let r9 = row (exceeds_window a f) _ _ r8.1 in
    let r10 = row (is_long (block_with a.log f)) _ _ r9.1 in
    record { widens = r8.0; short = r10.0 }

pub early-passes : (a : Account) (f : Frame) → violation_of a f ≡ None → first_row (early_rows a f) ≡ None
early-passes a f v = by (first_row (early_rows a f)) (sym (violation-parts a f) ∙ v)
  where
    by : (o : Option ℕ) → or_row o (late_rows a f) ≡ None → o ≡ None
    by None e = refl
    by (Some code) e = absurd cc

-- no opening changes the connection's window
pub widens-still : (a : Account) (f : Frame) → widens_connection (with_opening f a) f ≡ widens_connection a f
widens-still a (frame.Headers id part last ends) = refl
widens-still a f = refl

-- DATA

-- what came since the last update, and what still may come, are a window together
sums : (received owed given waiting size : ℕ) → received ≤ 65535 + given → given + waiting ≤ owed → owed ≤ received
    → size ≤ 65535 + given - received → received - owed + size < 2 ^ 32
sums received owed given waiting size a b c d = omega (arith, a, b, c, d)

live-within : (l : Bool) (n size : ℕ) → (l && nat_lt n size) ≡ false → l ≡ true → size ≤ n
live-within true n size e q = ltb-false n size e
live-within false n size e q = absurd (true≢false (sym q))

pub can-count : (s : State) (b : Account) (f : Frame) → Valid b → exceeds_window b f ≡ false → s.streams ≡ streams b → s.unreturned ≡ unreturned 0 b.log
    → CanCount f s
can-count s b (frame.Data id bytes last size) v x e u = (
  subst (λ n. n + size < 2 ^ 32) (sym u) (sums _ _ _ (updates_in 0 b.waiting) size v.received (v.updates 0) (v.returned 0) (ltb-false (receiving_window 0 b.log) size n.0)),
  λ t found_t.
      let l = its-stream s.streams b id t e (sym found_t) in
      subst (λ k. k + size < 2 ^ 32) (sym (its-unreturned t id b l.1))
      (sums _ _ _ (updates_in id b.waiting) size (v.received_on id l.0) (v.updates id) (v.returned id)
      (live-within (is_live id b.log) (receiving_window id b.log) size n.1 l.0)),
)
  where
    n : (nat_lt (receiving_window 0 b.log) size ≡ false) × ((is_live id b.log && nat_lt (receiving_window id b.log) size) ≡ false)
    n = or_parts (nat_lt (receiving_window 0 b.log) size) (is_live id b.log && nat_lt (receiving_window id b.log) size) x
can-count s b f v x e u = tt

-- WINDOW_UPDATE

not-wide : (w : ℤ) → is_too_wide w ≡ false → w ≤ℤ pos 2147483647
not-wide w e = omega (arith, ints, e)

widened-below : (w : ℤ) (i n : ℕ) (c : ℤ) → ((pos i +ℤ c) +ℤ pos n) ≤ℤ pos 2147483647 → (c +ℤ pos n) ≤ℤ pos (2 ^ 33)
widened-below w i n c l = omega (arith, ints, l)

no-fault : (l : Bool) (id : ℕ) (r : Option ℕ) → (if l then with_stream id r else None) ≡ None → l ≡ true → r ≡ None
no-fault true id None e q = refl
no-fault true id (Some code) e q = absurd cc
no-fault false id r e q = absurd (true≢false (sym q))

second : (x y : Bool) → (if x then Some protocol_error else (if y then Some flow_control_error else None)) ≡ None → y ≡ false
second true y e = absurd cc
second false true e = absurd cc
second false false e = refl

updated : (t : Stream) (n id : ℕ) (a : Account) → t ≡ stream_of_log id a
    → window_from (initial_window a.log + n) id a ≡ (pos (initial_window a.log) +ℤ t.credit) +ℤ pos n
updated t n id a e =
    increased (initial_window a.log) n id a
    ∙ ap (λ w. w +ℤ pos n) (credited (initial_window a.log) id a ∙ ap (λ (s : Stream). pos (initial_window a.log) +ℤ s.credit) (sym e))

-- an increment that is no stream error fits the stream's window
can-take-on : (s : State) (b : Account) (id n : ℕ) → s.streams ≡ streams b → stream_fault b (frame.Window (suc id) n) ≡ None
    → CanTake (frame.Window (suc id) n) s
unfolding stream_fault
can-take-on s b id n e q = λ t found_t.
    let l = its-stream s.streams b (suc id) t e (sym found_t) in
    let r : first_row (update_rows b (suc id) n) ≡ None = no-fault (is_live (suc id) b.log) (suc id) (first_row (update_rows b (suc id) n)) q l.0 in
    widened-below (window_from (initial_window b.log + n) (suc id) b) (initial_window b.log) n t.credit
    (subst (λ w. w ≤ℤ pos 2147483647) (updated t n (suc id) b l.1)
    (not-wide (window_from (initial_window b.log + n) (suc id) b) (second (n == 0) (is_too_wide (window_from (initial_window b.log + n) (suc id) b)) r)))

can-take : (s : State) (a : Account) (n : ℕ) → s.window ≡ connection_window a → widens_connection a (frame.Window 0 n) ≡ false
    → CanTake (frame.Window 0 n) s
can-take s a n e w = subst (λ x. (x +ℤ pos n) ≤ℤ pos 2147483647) (sym e)
    (subst (λ x. x ≤ℤ pos 2147483647) (connection n a) (not-wide (window_from (65535 + n) 0 a) w))

-- A frame counts, whether or not it is a stream error

fault-id : (l : Bool) (id : ℕ) (r : Option ℕ) (s : ℕ × ℕ) → (if l then with_stream id r else None) ≡ Some s → s.0 ≡ id
fault-id true id None s e = absurd cc
fault-id true id (Some code) s e = ap (λ x. x.0) (sym (some e))
fault-id false id r s e = absurd cc

reset-is : (s : ℕ × ℕ) (t : State) → reported (event.Reset s.0 s.1) t ≡ resetting s.0 t
unfolding reported
reset-is s t = refl

-- of an increment that is a stream error only the reset is left
update-told : (b : Account) (id n : ℕ) (w : Option Whole) (live : Bool) (s t : State)
    → (CanTake (frame.Window (suc id) n) s → t ≡ receiving (frame.Window (suc id) n) s)
    → resetting (suc id) t ≡ resetting (suc id) (receiving (frame.Window (suc id) n) s) → s.streams ≡ streams b
    → IsWhole b (frame.Window (suc id) n) w
    → reported (event_by (frame.Window (suc id) n) w (stream_fault b (frame.Window (suc id) n)) live) (ending w t)
    ≡ reported (event_by (frame.Window (suc id) n) w (stream_fault b (frame.Window (suc id) n)) live) (ending w (receiving (frame.Window (suc id) n) s))
unfolding stream_fault
update-told b id n (Some x) live s t h g e p = absurd (some-none p.whole)
  where
    some-none : {A : Type 0} {x : A} → None ≡ Some x → ⊥
    some-none e = cc
update-told b id n None live s t h g e p = by (stream_fault b f) refl
  where
    f : Frame
    f = frame.Window (suc id) n

    by : (x : Option (ℕ × ℕ)) → stream_fault b f ≡ x → reported (event_by f None x live) t ≡ reported (event_by f None x live) (receiving f s)
    by None q = ap (reported (event_by f None None live)) (h (can-take-on s b id n e q))
    by (Some x) q =
        let own : x.0 ≡ suc id = fault-id (is_live (suc id) b.log) (suc id) (first_row (update_rows b (suc id) n)) x q in
        reset-is x t ∙ ap (λ i. resetting i t) own ∙ g ∙ ap (λ i. resetting i (receiving f s)) (sym own) ∙ sym (reset-is x (receiving f s))

pub told-alike : (b : Account) (f : Frame) (w : Option Whole) (live : Bool) (s t : State) → (CanTake f s → t ≡ receiving f s) → IsAbsorbed f s t
    → s.streams ≡ streams b → s.window ≡ connection_window b → widens_connection b f ≡ false → IsWhole b f w
    → reported (event_by f w (stream_fault b f) live) (ending w t) ≡ reported (event_by f w (stream_fault b f) live) (ending w (receiving f s))
told-alike b (frame.Window (suc id) n) w live s t h g e o x p = update-told b id n w live s t h g e p
told-alike b (frame.Window zero n) w live s t h g e o x p =
    ap (λ y. reported (event_by (frame.Window 0 n) w (stream_fault b (frame.Window 0 n)) live) (ending w y)) (h (can-take s b n o x))
told-alike b f w live s t h g e o x p = ap (λ y. reported (event_by f w (stream_fault b f) live) (ending w y)) (h tt)
