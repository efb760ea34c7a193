-- The DATA that waits and is held, as frames come and go.
use Rattle.std.proofs.Common.{arith, ◌≡◌, ◌≤◌, ◌<◌, ◌+◌, ◌-◌, ℕ, Bool, true, false, List, [], ◌∷◌, ◌++◌, length, get_or, take, drop, refl, sym, ap, ◌∙◌, filter, if◌then◌else◌, ◌==◌, nat_lt}
use Rattle.std.proofs.lemmas.List.{take_more, take-append-drop}
use Rattle.h2_laws_log.proofs.Queues.{held-append, held-split, queued-cons, queued-split}
use Rattle.h2_frames.specs.declared.frame.Frame.{Frame}
use Rattle.h2_frames.specs.declared.frame.Frame.TheVariants as frame
use Rattle.h2_model.specs.Log.{LogEntry, Handed}
use Rattle.h2_model.specs.Moves.{is_dropped_entry, kept_held}
use Rattle.h2_model.specs.Queue.{Waiting, is_data, queued, data_in, behind}
use Rattle.h2_model.specs.Windows.{held_data}
use Rattle.h2_sender.specs.Sending.{entry_of, IsHeld, IsGoaway}
use Rattle.h2_sender.proofs.Totals.{data_of_one}

-- an entry is what its frame is

pub data_is : (id : ℕ) (owed : Bool) (f : Frame) → IsHeld owed f → data_in id f ≡ held_data id (entry_of owed f ∷ [])
data_is id true f h =
    let none : data_in 0 f ≡ 0 = h.handed refl in
    let less = data_of_one id f in
    omega arith
data_is id false f h = omega arith

-- sums over the first entries

pub held-next : (id : ℕ) (held : List LogEntry) (i : ℕ) (x : LogEntry) → i < length held → x ≡ get_or held i x
    → held_data id (take (i + 1) held) ≡ held_data id (take i held) + held_data id (x ∷ [])
held-next id held i x h e =
    ap (held_data id) (take_more held i x h) ∙ held-append id (take i held) (get_or held i x ∷ [])
    ∙ ap (λ y. held_data id (take i held) + held_data id (y ∷ [])) (sym e)

pub held-part : (id : ℕ) (held : List LogEntry) (i : ℕ) → held_data id (take i held) ≤ held_data id held
held-part id held i =
    let both : held_data id (take i held ++ drop i held) ≡ held_data id (take i held) + held_data id (drop i held) = held-append id (take i held) (drop i held) in
    let whole : held_data id (take i held ++ drop i held) ≡ held_data id held = ap (held_data id) (take-append-drop i held) in
    omega arith

-- one stream has no more than all
pub held-of-one : (id : ℕ) (held : List LogEntry) → held_data id held ≤ held_data 0 held
held-of-one id [] = omega arith
held-of-one id (Handed f ∷ held) = omega (arith, data_of_one id f, held-of-one id held)
held-of-one id (e ∷ held) = held-of-one id held

-- what goes leaves less

pub held-less : (id : ℕ) (held : List LogEntry) → held_data 0 (kept_held id held) ≤ held_data 0 held
held-less id held = omega (arith, held-split 0 (is_dropped_entry id) held)

pub queued-less : (p : Waiting → Bool) (queue : List Waiting) → queued 0 (filter p queue) ≤ queued 0 queue
queued-less p queue = omega (arith, queued-split 0 p queue)

pub queued-behind : (n : ℕ) (queue : List Waiting) → queued 0 (behind n queue) ≤ queued 0 queue
queued-behind n [] = omega arith
queued-behind n (w ∷ queue) = by_test (n == 0) (nat_lt n (length w.left)) (queued-behind (n - length w.left) queue) where
  by_test : (none some : Bool) → queued 0 (behind (n - length w.left) queue) ≤ queued 0 queue
      → queued 0 (if none then w ∷ queue else if some then record w { left = drop n w.left; fixed = true } ∷ queue else behind (n - length w.left) queue)
      ≤ queued 0 (w ∷ queue)
  by_test true some h = omega arith
  by_test false true h =
      let old = queued-cons 0 w queue in
      let new = queued-cons 0 (record w { left = drop n w.left; fixed = true }) queue in
      omega arith
  by_test false false h = omega (arith, queued-cons 0 w queue)

-- GOAWAY is no DATA

is_goaway : (P : Frame → Type 0) → ((last code : ℕ) → P (frame.GoAway last code)) → (f : Frame) → IsGoaway f → P f
is_goaway P of_goaway (frame.GoAway last code) h = of_goaway last code
is_goaway P of_goaway (frame.Data _ _ _ _) h = elim h [ ]
is_goaway P of_goaway (frame.Headers _ _ _ _) h = elim h [ ]
is_goaway P of_goaway (frame.Priority _) h = elim h [ ]
is_goaway P of_goaway (frame.Reset _ _) h = elim h [ ]
is_goaway P of_goaway (frame.Settings _) h = elim h [ ]
is_goaway P of_goaway frame.SettingsAck h = elim h [ ]
is_goaway P of_goaway (frame.Push _) h = elim h [ ]
is_goaway P of_goaway (frame.Ping _ _) h = elim h [ ]
is_goaway P of_goaway (frame.Window _ _) h = elim h [ ]
is_goaway P of_goaway (frame.Continuation _ _ _) h = elim h [ ]
is_goaway P of_goaway (frame.Unknown _) h = elim h [ ]

pub goaway_no_data : (f : Frame) → IsGoaway f → data_in 0 f ≡ 0
goaway_no_data = is_goaway (λ f. data_in 0 f ≡ 0) (λ last code. refl)

pub goaway_control : (f : Frame) → IsGoaway f → is_data f ≡ false
goaway_control = is_goaway (λ f. is_data f ≡ false) (λ last code. refl)
