-- What answers read of the parts is what the account says.
use Rattle.std.proofs.Common.{◌≡◌, ℕ, ◌+◌, min, true, not, ◌&&◌, ◌||◌, ◌==◌, Some, refl, sym, ◌∙◌, ap, if◌then◌else◌, length, sum_by, arith, pos, ◌+ℤ◌, ◌-ℤ◌}
use Rattle.std.specs.List.{list_any}
use Rattle.std.proofs.lemmas.Int.{ints}
use Rattle.h2_model.specs.declared.stream.Stream.{Stream}
use Rattle.h2_model.specs.Log.{stream_of, total}
use Rattle.h2_model.specs.Streams.{is_live}
use Rattle.h2_model.specs.Settings.{initial_window}
use Rattle.h2_model.specs.Queue.{is_data, bytes_of, control_bytes, unsent, flow}
use Rattle.h2_model.specs.Account.{Account}
use Rattle.h2_model.specs.Windows.{increment, data_sent, window_from, connection_window, stream_window, held_data}
use Rattle.h2_model.specs.Calls.{positive_part, sendable, control, unsent_bytes, waits, is_window}
use Rattle.h2_model.specs.History.{frame_in, is_of}
use Rattle.h2_model.specs.State.{seen, stream_of_log, found}
use Rattle.h2_laws_kept.specs.Kept.{Kept}
use Rattle.h2_laws_kept.specs.StandsFor.{Holds}
use Rattle.h2_laws_kept.proofs.Handing.{stream-found}

-- Windows

widened : (i n s : ℕ) → pos (i + n) -ℤ pos s ≡ pos i +ℤ (pos n -ℤ pos s)
widened i n s = omega (arith, ints)

log-window : (id : ℕ) (a : Account) → stream_window id a ≡ pos (initial_window a.log) +ℤ (stream_of_log id a).credit
unfolding stream_window window_from stream_of_log
log-window id a = widened (initial_window a.log) (total (increment id) a.log) (data_sent id a)

seen-initial : (a : Account) → (seen a).initial ≡ initial_window a.log
unfolding seen
seen-initial a = refl

seen-window : (a : Account) → (seen a).window ≡ connection_window a
unfolding seen
seen-window a = refl

pub window-is : (k : Kept) (a : Account) → Holds k a → connection_window a ≡ k.state.window
window-is k a h = sym (seen-window a) ∙ ap (λ s. s.window) (sym h.state)

pub stream-window-is : (k : Kept) (a : Account) → Holds k a → (id : ℕ) → is_live id a.log ≡ true → (t : Stream)
    → found id k.state.streams ≡ Some t → stream_window id a ≡ pos k.state.initial +ℤ t.credit
stream-window-is k a h id l t e =
    let s : stream_of_log id a ≡ t = same (sym (stream-found k a h id l) ∙ e) in
    log-window id a ∙ (λ i. pos (initial i) +ℤ (s i).credit)
  where
    same : Some (stream_of_log id a) ≡ Some t → stream_of_log id a ≡ t
    same q = cc

    initial : initial_window a.log ≡ k.state.initial
    initial = sym (seen-initial a) ∙ ap (λ s. s.initial) (sym h.state)

pub sendable-is : (k : Kept) (a : Account) → Holds k a → (id n : ℕ) → is_live id a.log ≡ true → (t : Stream)
    → found id k.state.streams ≡ Some t
    → sendable id n a
    ≡ min (min n 16384) (min (positive_part k.state.window) (positive_part (pos k.state.initial +ℤ t.credit)))
unfolding sendable
sendable-is k a h id n l t e = λ i. min (min n 16384)
    (min (positive_part (window-is k a h i)) (positive_part (stream-window-is k a h id l t e i)))

-- What waits and is held

pub control-is : (k : Kept) (a : Account) → Holds k a
    → control a ≡ control_bytes k.state.waiting
    + sum_by (λ e. if is_data (frame_in e) then 0 else length (bytes_of (frame_in e))) k.state.held
unfolding control seen
control-is k a h = λ i. control_bytes (sym h.state i).waiting
    + sum_by (λ e. if is_data (frame_in e) then 0 else length (bytes_of (frame_in e))) (sym h.state i).held

pub unsent-is : (k : Kept) (a : Account) → Holds k a → (id : ℕ)
    → unsent_bytes id a ≡ (if id == 0 then 0 else unsent id k.state.waiting + held_data id k.state.held)
unfolding unsent_bytes seen
unsent-is k a h id = λ i. if id == 0 then 0 else unsent id (sym h.state i).waiting + held_data id (sym h.state i).held

pub waits-is : (k : Kept) (a : Account) → Holds k a → (id : ℕ)
    → waits id a
    ≡ (not (id == 0) && (list_any (λ w. (stream_of w.frame == id) && not (is_window w.frame)) k.state.waiting
    || list_any (is_of id) k.state.held))
unfolding waits seen
waits-is k a h id = λ i. not (id == 0)
    && (list_any (λ w. (stream_of w.frame == id) && not (is_window w.frame)) (sym h.state i).waiting
    || list_any (is_of id) (sym h.state i).held)

pub flow-is : (k : Kept) (a : Account) → Holds k a → flow a.waiting ≡ flow k.state.waiting
unfolding seen
flow-is k a h = λ i. flow (sym h.state i).waiting
