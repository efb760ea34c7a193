-- Frames that are held for a stream enter the queue one by one.
use Rattle.std.proofs.Common.{arith, ◌≡◌, ◌≤◌, ◌+◌, ◌^◌, ℕ, true, not, List, [], ◌∷◌, ◌++◌, length, refl, sym, ap, ◌∙◌, filter}
use Rattle.h2_laws_log.proofs.Queues.{queued-entered, held-append}
use Rattle.h2_laws_log.specs.Calling.{all_entered}
use Rattle.h2_frames.specs.declared.frame.Frame.{Frame}
use Rattle.h2_model.specs.Log.{LogEntry}
use Rattle.h2_model.specs.History.{frame_in, is_of}
use Rattle.h2_model.specs.Queue.{queued, data_in, entered}
use Rattle.h2_model.specs.Windows.{held_data}
use Rattle.h2_sender.specs.Queue.{Queue}

-- of what was held before, `front` stays, and `rest` wasn't looked at
pub record IsReleasing (id : ℕ) (before : List LogEntry) (start : Queue) (front rest : List LogEntry) (now : Queue) : Type 0 where
  pub waiting : all_entered (filter (is_of id) rest) now.frames ≡ all_entered (filter (is_of id) before) start.frames
  pub kept : front ++ filter (λ e. not (is_of id e)) rest ≡ filter (λ e. not (is_of id e)) before
  pub room : length (filter (is_of id) rest) ≤ now.room
  pub spent : start.room + length (filter (is_of id) rest) ≤ now.room + length (filter (is_of id) before)
  pub summed : queued 0 now.frames + held_data 0 (front ++ rest) ≡ queued 0 start.frames + held_data 0 before

-- the next one is of the stream, and enters
pub taken : (id : ℕ) (before : List LogEntry) (start : Queue) (front : List LogEntry) (x : LogEntry) (rest : List LogEntry) (now next : Queue)
    (f : Frame)
    → IsReleasing id before start front (x ∷ rest) now → is_of id x ≡ true → f ≡ frame_in x → data_in 0 f ≡ held_data 0 (x ∷ [])
    → next.frames ≡ entered f now.frames → now.room ≤ next.room + 1
    → IsReleasing id before start front rest next
taken id before start front x rest now next f h own same bytes enters room =
    let found : filter (is_of id) (x ∷ rest) ≡ x ∷ filter (is_of id) rest = rw own refl in
    let count : length (filter (is_of id) (x ∷ rest)) ≡ length (filter (is_of id) rest) + 1 = ap length found ∙ omega arith in
    let other : filter (λ e. not (is_of id e)) (x ∷ rest) ≡ filter (λ e. not (is_of id e)) rest = rw own refl in
    let queue : next.frames ≡ entered (frame_in x) now.frames = enters ∙ ap (λ g. entered g now.frames) same in
    let more : queued 0 next.frames ≡ data_in 0 f + queued 0 now.frames = ap (queued 0) enters ∙ queued-entered 0 f now.frames in
    let whole : held_data 0 (front ++ x ∷ rest) ≡ held_data 0 front + held_data 0 (x ∷ rest) = held-append 0 front (x ∷ rest) in
    let parts : held_data 0 (x ∷ rest) ≡ held_data 0 (x ∷ []) + held_data 0 rest = held-append 0 (x ∷ []) rest in
    let less : held_data 0 (front ++ rest) ≡ held_data 0 front + held_data 0 rest = held-append 0 front rest in
    let summed : queued 0 now.frames + held_data 0 (front ++ x ∷ rest) ≡ queued 0 start.frames + held_data 0 before = h.summed in
    let roomy : length (filter (is_of id) (x ∷ rest)) ≤ now.room = h.room in
    let spent : start.room + length (filter (is_of id) (x ∷ rest)) ≤ now.room + length (filter (is_of id) before) = h.spent in
    record {
      waiting = ap (all_entered (filter (is_of id) rest)) queue
          ∙ ap (λ es. all_entered es now.frames) (sym found) ∙ h.waiting;
      kept = ap (λ es. front ++ es) (sym other) ∙ h.kept;
      room = omega arith;
      spent = omega arith;
      summed = omega arith;
    }

-- the queue takes it
pub fits : (id : ℕ) (before : List LogEntry) (start : Queue) (front : List LogEntry) (x : LogEntry) (rest : List LogEntry) (now : Queue) (f : Frame)
    → IsReleasing id before start front (x ∷ rest) now → data_in 0 f ≡ held_data 0 (x ∷ [])
    → queued 0 start.frames + held_data 0 before ≤ 2 ^ 40 → queued 0 now.frames + data_in 0 f ≤ 2 ^ 40
fits id before start front x rest now f h bytes bound =
    let whole : held_data 0 (front ++ x ∷ rest) ≡ held_data 0 front + held_data 0 (x ∷ rest) = held-append 0 front (x ∷ rest) in
    let parts : held_data 0 (x ∷ rest) ≡ held_data 0 (x ∷ []) + held_data 0 rest = held-append 0 (x ∷ []) rest in
    let summed : queued 0 now.frames + held_data 0 (front ++ x ∷ rest) ≡ queued 0 start.frames + held_data 0 before = h.summed in
    omega arith
