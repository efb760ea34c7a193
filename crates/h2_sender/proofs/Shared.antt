-- What waits of each stream, as the queue changes.
use Rattle.std.proofs.Common.{arith, rules, ◌≡◌, ◌≤◌, ◌<◌, ◌+◌, ◌-◌, ℕ, zero, suc, take, Bool, true, false, not, ◌&&◌, ◌||◌, List, [], ◌∷◌, length, cond, min, nat_lt, ◌==◌, refl, ap, sym, ◌∙◌}
use Rattle.std.specs.List.{All, list_any, sum_by}
use Rattle.std.proofs.lemmas.List.Elements.{All-head, All-tail}
use Rattle.std.proofs.lemmas.List.Sums.{sum_by-cons, sum_by-le-sum_by}
use Rattle.std.proofs.lemmas.Bool.{eqb-true}
use Rattle.h2_frames.specs.declared.frame.Frame.{Frame}
use Rattle.h2_frames.specs.declared.frame.Frame.TheVariants as frame
use Rattle.h2_model.specs.Calls.{is_window}
use Rattle.h2_model.specs.Log.{stream_of}
use Rattle.h2_model.specs.Moves.{is_dropped}
use Rattle.h2_model.specs.Queue.{Waiting, fresh, entered, data_in, queued, unsent}
use Rattle.h2_laws_log.proofs.Queues.{sum-entered}
use Rattle.h2_sender.specs.Queue.{HasLeft, waits_for}
use Rattle.h2_sender.specs.Shares.{AreInOrder, AreShared, frames_of, bytes_of, all_frames, counted, counted_for, bytes_left, bytes_for, gone_whole}
use Rattle.h2_sender.specs.declared.shares.Share.{Share}

-- Bounds

bytes_few : (id : ℕ) (w : Waiting) → bytes_for id w ≤ data_in 0 w.frame
bytes_few id w = by (stream_of w.frame == id)
  where
    by : (c : Bool) → cond c (bytes_left w) 0 ≤ data_in 0 w.frame
    by true = omega arith
    by false = omega arith

pub bytes_within : (id : ℕ) (queue : List Waiting) → sum_by (bytes_for id) queue ≤ queued 0 queue
bytes_within id queue = sum_by-le-sum_by (bytes_for id) (λ (w : Waiting). data_in 0 w.frame) queue (bytes_few id)

pub counted_within : (queue : List Waiting) → sum_by counted queue ≤ length queue
counted_within [] = omega arith
counted_within (w ∷ queue) =
    let rest = counted_within queue in
    let whole = sum_by-cons counted w queue in
    let here : counted w ≤ 1 = one (is_window w.frame) in
    omega arith
  where
    one : (c : Bool) → cond c 0 1 ≤ 1
    one true = omega arith
    one false = omega arith

pub take_few : (n : ℕ) (queue : List Waiting) → length (take n queue) ≤ n
take_few zero queue = omega arith
take_few (suc n) [] = omega arith
take_few (suc n) (w ∷ queue) = let rest = take_few n queue in omega arith

-- A frame enters

pub shared_entered : (f : Frame) (queue : List Waiting) (shares next : List Share) → AreShared queue shares → AreInOrder next
    → ((n : ℕ) → frames_of n next ≡ frames_of n shares + counted_for n (fresh f)) → ((n : ℕ) → bytes_of n next ≡ bytes_of n shares + bytes_for n (fresh f))
    → all_frames next ≡ all_frames shares + counted (fresh f) → AreShared (entered f queue) next
shared_entered f queue shares next s order frames bytes all = record {
  order = order;
  frames = λ n.
      let more : sum_by (counted_for n) (entered f queue) ≡ counted_for n (fresh f) + sum_by (counted_for n) queue = sum-entered (counted_for n) (λ w. refl) f queue in
      let old : frames_of n shares ≡ sum_by (counted_for n) queue = s.frames n in
      let new : frames_of n next ≡ frames_of n shares + counted_for n (fresh f) = frames n in
      omega arith;
  bytes = λ n.
      let more : sum_by (bytes_for n) (entered f queue) ≡ bytes_for n (fresh f) + sum_by (bytes_for n) queue = sum-entered (bytes_for n) (λ w. refl) f queue in
      let old : bytes_of n shares ≡ sum_by (bytes_for n) queue = s.bytes n in
      let new : bytes_of n next ≡ bytes_of n shares + bytes_for n (fresh f) = bytes n in
      omega arith;
  all =
      let more : sum_by counted (entered f queue) ≡ counted (fresh f) + sum_by counted queue = sum-entered counted (λ w. refl) f queue in
      let old : all_frames shares ≡ sum_by counted queue = s.all in
      omega arith;
}

-- The first frame is given, in part or whole

no_bytes : (id : ℕ) (w : Waiting) → counted_for id w ≡ 0 → bytes_for id w ≡ 0
no_bytes id w e = by (stream_of w.frame == id) e
  where
    none : (f : Frame) (left : List ℕ) → cond {A = ℕ} (is_window f) 0 1 ≡ 0 → min (data_in 0 f) (length left) ≡ 0
    none (frame.Data n bytes last size) left e = absurd (omega (arith, e))
    none (frame.Headers n block last ends) left e = omega arith
    none (frame.Priority n) left e = omega arith
    none (frame.Reset n code) left e = omega arith
    none (frame.Settings list) left e = omega arith
    none frame.SettingsAck left e = omega arith
    none (frame.Push n) left e = omega arith
    none (frame.Ping ack bytes) left e = omega arith
    none (frame.GoAway last code) left e = omega arith
    none (frame.Window n m) left e = omega arith
    none (frame.Continuation n part ends) left e = omega arith
    none (frame.Unknown kind) left e = omega arith

    by : (c : Bool) → cond c (counted w) 0 ≡ 0 → cond c (bytes_left w) 0 ≡ 0
    by true e = none w.frame w.left e
    by false e = refl

pub none_no_bytes : (id : ℕ) (queue : List Waiting) → sum_by (counted_for id) queue ≡ 0 → sum_by (bytes_for id) queue ≡ 0
none_no_bytes id [] e = refl
none_no_bytes id (w ∷ queue) e =
    let frames = sum_by-cons (counted_for id) w queue in
    let bytes = sum_by-cons (bytes_for id) w queue in
    let here : bytes_for id w ≡ 0 = no_bytes id w (omega arith) in
    let rest : sum_by (bytes_for id) queue ≡ 0 = none_no_bytes id queue (omega arith) in
    omega arith

-- the first frame, given so far, and what it had
pub record GivesFirst (whole : Bool) (gone : ℕ) (first next : Waiting) : Type 0 where
  pub frame : next.frame ≡ first.frame
  pub bytes : gone + bytes_left next ≡ bytes_left first
  pub all : whole ≡ true → bytes_left next ≡ 0

pub gives_first : (whole : Bool) (had has : ℕ) (first next : Waiting) → next.frame ≡ first.frame → length next.left ≤ length first.left
    → had ≡ min (data_in 0 first.frame) (length first.left) → has ≡ min (data_in 0 next.frame) (length next.left) → (whole ≡ true → length next.left ≡ 0)
    → GivesFirst whole (had - has) first next
gives_first whole had has first next e l h k z =
    let same : data_in 0 next.frame ≡ data_in 0 first.frame = ap (data_in 0) e in
    record { frame = e; bytes = omega arith; all = λ w. let none : length next.left ≡ 0 = z w in omega arith }

pub ended : (left n : ℕ) → left ≡ n → (left == 0) ≡ true → n ≡ 0
ended left n e z = sym e ∙ eqb-true left 0 z

own : (a n k : ℕ) → a ≡ n → cond (a == n) k 0 ≡ k
own a n k e = search (rules, e)

pub own_bytes : (w : Waiting) → bytes_for (stream_of w.frame) w ≡ bytes_left w
own_bytes w = own (stream_of w.frame) (stream_of w.frame) (bytes_left w) refl

-- with a stream's last frame its last bytes go
pub first_last : (whole : Bool) (less : ℕ) (first next : Waiting) (rest : List Waiting) (shares : List Share) → GivesFirst whole less first next → AreShared (first ∷ rest) shares
    → frames_of (stream_of next.frame) shares ≡ gone_whole whole next → bytes_of (stream_of next.frame) shares ≡ less
first_last whole less first next rest shares g s e =
    let id : ℕ = stream_of next.frame in
    let frames : frames_of id shares ≡ sum_by (counted_for id) (first ∷ rest) = s.frames id in
    let bytes : bytes_of id shares ≡ sum_by (bytes_for id) (first ∷ rest) = s.bytes id in
    let frames_cons : sum_by (counted_for id) (first ∷ rest) ≡ counted_for id first + sum_by (counted_for id) rest = sum_by-cons (counted_for id) first rest in
    let bytes_cons : sum_by (bytes_for id) (first ∷ rest) ≡ bytes_for id first + sum_by (bytes_for id) rest = sum_by-cons (bytes_for id) first rest in
    let frames_here : counted_for id first ≡ counted first = own (stream_of first.frame) id (counted first) (ap stream_of (sym g.frame)) in
    let bytes_here : bytes_for id first ≡ bytes_left first = own (stream_of first.frame) id (bytes_left first) (ap stream_of (sym g.frame)) in
    let same : counted next ≡ counted first = ap (λ f. cond (is_window f) 0 1) g.frame in
    let gone : less + bytes_left next ≡ bytes_left first = g.bytes in
    by whole refl e frames bytes frames_cons bytes_cons frames_here bytes_here same gone
  where
    by : (c : Bool) → whole ≡ c → frames_of (stream_of next.frame) shares ≡ cond c (counted next) 0
        → frames_of (stream_of next.frame) shares ≡ sum_by (counted_for (stream_of next.frame)) (first ∷ rest)
        → bytes_of (stream_of next.frame) shares ≡ sum_by (bytes_for (stream_of next.frame)) (first ∷ rest)
        → sum_by (counted_for (stream_of next.frame)) (first ∷ rest) ≡ counted_for (stream_of next.frame) first + sum_by (counted_for (stream_of next.frame)) rest
        → sum_by (bytes_for (stream_of next.frame)) (first ∷ rest) ≡ bytes_for (stream_of next.frame) first + sum_by (bytes_for (stream_of next.frame)) rest
        → counted_for (stream_of next.frame) first ≡ counted first → bytes_for (stream_of next.frame) first ≡ bytes_left first
        → counted next ≡ counted first → less + bytes_left next ≡ bytes_left first → bytes_of (stream_of next.frame) shares ≡ less
    by true w e f b fc bc fh bh s l =
        let rest_none : sum_by (bytes_for (stream_of next.frame)) rest ≡ 0 = none_no_bytes (stream_of next.frame) rest (omega arith) in
        let all : bytes_left next ≡ 0 = g.all w in
        omega arith
    by false w e f b fc bc fh bh s l =
        let none : sum_by (bytes_for (stream_of next.frame)) (first ∷ rest) ≡ 0 = none_no_bytes (stream_of next.frame) (first ∷ rest) (omega arith) in
        omega arith

-- the shares behind it
pub record Uncounted (whole : Bool) (gone : ℕ) (next : Waiting) (old new : List Share) : Type 0 where
  pub order : AreInOrder new
  pub frames : (n : ℕ) → frames_of n new + cond (stream_of next.frame == n) (gone_whole whole next) 0 ≡ frames_of n old
  pub bytes : (n : ℕ) → bytes_of n new + cond (stream_of next.frame == n) gone 0 ≡ bytes_of n old
  pub all : all_frames new + gone_whole whole next ≡ all_frames old

pub shared_begun : (less : ℕ) (first next : Waiting) (rest : List Waiting) (old new : List Share) → GivesFirst false less first next → AreShared (first ∷ rest) old
    → Uncounted false less next old new → AreShared (next ∷ rest) new
shared_begun less first next rest old new g s u = record {
  order = u.order;
  frames = λ n.
      let was : frames_of n old ≡ sum_by (counted_for n) (first ∷ rest) = s.frames n in
      let is : frames_of n new ≡ frames_of n old = sym (both (frames_of n new) (stream_of next.frame == n)) ∙ u.frames n in
      let before = sum_by-cons (counted_for n) first rest in
      let behind = sum_by-cons (counted_for n) next rest in
      let same : counted_for n next ≡ counted_for n first = ap (λ f. cond (stream_of f == n) (cond (is_window f) 0 1) 0) g.frame in
      omega arith;
  bytes = λ n.
      let was : bytes_of n old ≡ sum_by (bytes_for n) (first ∷ rest) = s.bytes n in
      let is : bytes_of n new + cond (stream_of next.frame == n) less 0 ≡ bytes_of n old = u.bytes n in
      let before = sum_by-cons (bytes_for n) first rest in
      let behind = sum_by-cons (bytes_for n) next rest in
      let split : cond (stream_of next.frame == n) less 0 + bytes_for n next ≡ bytes_for n first = part n in
      omega arith;
  all =
      let was : all_frames old ≡ sum_by counted (first ∷ rest) = s.all in
      let is : all_frames new + 0 ≡ all_frames old = u.all in
      let before = sum_by-cons counted first rest in
      let behind = sum_by-cons counted next rest in
      let same : counted next ≡ counted first = ap (λ f. cond (is_window f) 0 1) g.frame in
      omega arith;
}
  where
    both : (a : ℕ) (c : Bool) → a + cond {A = ℕ} c 0 0 ≡ a
    both a true = omega arith
    both a false = omega arith

    part : (n : ℕ) → cond (stream_of next.frame == n) less 0 + bytes_for n next ≡ bytes_for n first
    part n = by (stream_of next.frame == n) ∙ ap (λ f. cond (stream_of f == n) (bytes_left first) 0) g.frame
      where
        by : (c : Bool) → cond c less 0 + cond c (bytes_left next) 0 ≡ cond c (bytes_left first) 0
        by true = g.bytes
        by false = refl

pub shared_given : (less : ℕ) (first next : Waiting) (rest : List Waiting) (old new : List Share) → GivesFirst true less first next → AreShared (first ∷ rest) old
    → Uncounted true less next old new → AreShared rest new
shared_given less first next rest old new g s u = record {
  order = u.order;
  frames = λ n.
      let was : frames_of n old ≡ sum_by (counted_for n) (first ∷ rest) = s.frames n in
      let is : frames_of n new + cond (stream_of next.frame == n) (counted next) 0 ≡ frames_of n old = u.frames n in
      let before = sum_by-cons (counted_for n) first rest in
      let same : counted_for n next ≡ counted_for n first = ap (λ f. cond (stream_of f == n) (cond (is_window f) 0 1) 0) g.frame in
      omega arith;
  bytes = λ n.
      let was : bytes_of n old ≡ sum_by (bytes_for n) (first ∷ rest) = s.bytes n in
      let is : bytes_of n new + cond (stream_of next.frame == n) less 0 ≡ bytes_of n old = u.bytes n in
      let before = sum_by-cons (bytes_for n) first rest in
      let whole : less ≡ bytes_left first = let l = g.bytes in let a = g.all refl in omega arith in
      let same : cond (stream_of next.frame == n) less 0 ≡ bytes_for n first =
      ap (λ k. cond (stream_of next.frame == n) k 0) whole ∙ ap (λ f. cond (stream_of f == n) (bytes_left first) 0) g.frame in
      omega arith;
  all =
      let was : all_frames old ≡ sum_by counted (first ∷ rest) = s.all in
      let is : all_frames new + counted next ≡ all_frames old = u.all in
      let before = sum_by-cons counted first rest in
      let same : counted next ≡ counted first = ap (λ f. cond (is_window f) 0 1) g.frame in
      omega arith;
}

-- Where no bytes of a stream wait, none are dropped with it

some_wait : (c : Bool) (n : ℕ) (left : List ℕ) → 0 < length left → cond c (min (suc n) (length left)) 0 ≡ 0 → c ≡ false
some_wait true n left l e = absurd (omega (arith, l, e))
some_wait false n left l e = refl

not_dropped : (id : ℕ) (f : Frame) (left : List ℕ) (fixed : Bool) → 0 < length left → cond (stream_of f == id) (min (data_in 0 f) (length left)) 0 ≡ 0
    → is_dropped id (record { frame = f; left = left; fixed = fixed }) ≡ false
not_dropped id (frame.Data n [] last size) left true l e = refl
not_dropped id (frame.Data n [] last size) left false l e = refl
not_dropped id (frame.Data n (b ∷ bytes) last size) left true l e = refl
not_dropped id (frame.Data n (b ∷ bytes) last size) left false l e = some_wait (n == id) (length bytes) left l e
not_dropped id (frame.Headers n block last ends) left fixed l e = refl
not_dropped id (frame.Priority n) left fixed l e = refl
not_dropped id (frame.Reset n code) left fixed l e = refl
not_dropped id (frame.Settings list) left fixed l e = refl
not_dropped id frame.SettingsAck left fixed l e = refl
not_dropped id (frame.Push n) left fixed l e = refl
not_dropped id (frame.Ping ack bytes) left fixed l e = refl
not_dropped id (frame.GoAway last code) left fixed l e = refl
not_dropped id (frame.Window n m) left fixed l e = refl
not_dropped id (frame.Continuation n part ends) left fixed l e = refl
not_dropped id (frame.Unknown kind) left fixed l e = refl

pub none_dropped : (id : ℕ) (queue : List Waiting) → All HasLeft queue → sum_by (bytes_for id) queue ≡ 0 → list_any (is_dropped id) queue ≡ false
none_dropped id [] all e = refl
none_dropped id (w ∷ queue) all e =
    let whole = sum_by-cons (bytes_for id) w queue in
    let here : is_dropped id w ≡ false = not_dropped id w.frame w.left w.fixed (All-head HasLeft w queue all) (omega arith) in
    rw here (none_dropped id queue (All-tail HasLeft w queue all) (omega arith))

-- What is asked of a stream

unsent_is : (id : ℕ) (w : Waiting) → 0 < id → bytes_for id w ≡ min (data_in id w.frame) (length w.left)
unsent_is id w p = by w.frame w.left
  where
    nothing : (c : Bool) (k : ℕ) → cond c (min 0 k) 0 ≡ min 0 k
    nothing true k = refl
    nothing false k = omega arith

    apart : (id == 0) ≡ false
    apart = search (rules, p)

    its : (z c : Bool) (n k : ℕ) → z ≡ false → cond c (min n k) 0 ≡ min (cond (z || c) n 0) k
    its true c n k e = absurd cc
    its false true n k e = refl
    its false false n k e = omega arith

    by : (f : Frame) (left : List ℕ) → cond (stream_of f == id) (min (data_in 0 f) (length left)) 0 ≡ min (data_in id f) (length left)
    by (frame.Data n bytes last size) left = its (id == 0) (n == id) (length bytes) (length left) apart
    by (frame.Headers n block last ends) left = nothing (stream_of (frame.Headers n block last ends) == id) (length left)
    by (frame.Priority n) left = nothing (stream_of (frame.Priority n) == id) (length left)
    by (frame.Reset n code) left = nothing (stream_of (frame.Reset n code) == id) (length left)
    by (frame.Settings list) left = nothing (stream_of (frame.Settings list) == id) (length left)
    by frame.SettingsAck left = nothing (stream_of frame.SettingsAck == id) (length left)
    by (frame.Push n) left = nothing (stream_of (frame.Push n) == id) (length left)
    by (frame.Ping ack bytes) left = nothing (stream_of (frame.Ping ack bytes) == id) (length left)
    by (frame.GoAway last code) left = nothing (stream_of (frame.GoAway last code) == id) (length left)
    by (frame.Window n m) left = nothing (stream_of (frame.Window n m) == id) (length left)
    by (frame.Continuation n part ends) left = nothing (stream_of (frame.Continuation n part ends) == id) (length left)
    by (frame.Unknown kind) left = nothing (stream_of (frame.Unknown kind) == id) (length left)

pub unsent_shared : (id : ℕ) (queue : List Waiting) → 0 < id → sum_by (bytes_for id) queue ≡ unsent id queue
unsent_shared id [] p = refl
unsent_shared id (w ∷ queue) p =
    let rest = unsent_shared id queue p in
    let here = unsent_is id w p in
    let mine = sum_by-cons (bytes_for id) w queue in
    let theirs = sum_by-cons (λ (v : Waiting). min (data_in id v.frame) (length v.left)) w queue in
    omega arith

pub waits_shared : (id : ℕ) (queue : List Waiting) → nat_lt 0 (sum_by (counted_for id) queue) ≡ list_any (waits_for id) queue
waits_shared id [] = refl
waits_shared id (w ∷ queue) =
    ap (nat_lt 0) (sum_by-cons (counted_for id) w queue)
    ∙ by (stream_of w.frame == id) (is_window w.frame) (waits_shared id queue)
  where
    by_zero : (k : ℕ) → 0 + k ≡ k
    by_zero k = omega arith

    by : (c d : Bool) → nat_lt 0 (sum_by (counted_for id) queue) ≡ list_any (waits_for id) queue
        → nat_lt 0 (cond c (cond {A = ℕ} d 0 1) 0 + sum_by (counted_for id) queue) ≡ ((c && not d) || list_any (waits_for id) queue)
    by true true e = ap (nat_lt 0) (by_zero (sum_by (counted_for id) queue)) ∙ e
    by true false e = search rules
    by false true e = ap (nat_lt 0) (by_zero (sum_by (counted_for id) queue)) ∙ e
    by false false e = ap (nat_lt 0) (by_zero (sum_by (counted_for id) queue)) ∙ e
