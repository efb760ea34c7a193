-- What becomes of a session's state, part by part.
use Rattle.std.proofs.Common.{◌≡◌, ℕ, zero, suc, ◌+◌, ◌≤◌, ◌<◌, ◌&&◌, ◌^◌, Bool, true, false, not, List, [], ◌∷◌, ◌++◌, Some, None, nat_le, length, filter, map, refl, sym, ◌∙◌, ap, arith, ℤ, pos, ◌+ℤ◌, ◌-ℤ◌, negsuc, ◌≤ℤ◌, ◌<ℤ◌, min, to_z, of_z, w64}
use Rattle.std.proofs.lemmas.Int.{ints, int_min_is}
use Rattle.std.proofs.Math.IntN.{nat_abs}
use Rattle.std.specs.Int.{int_min}
use Rattle.std.specs.Int.Signed.{le_z, mag}
use Rattle.hpack_core.specs.Tables as hpack
use Rattle.h2_model.specs.Calls.{positive_part}
use Rattle.h2_frames.specs.declared.frame.Frame.TheVariants as frame
use Rattle.h2_model.specs.declared.stream.Stream.{Stream}
use Rattle.h2_model.specs.Log.{LogEntry, Handed}
use Rattle.h2_model.specs.Queue.{Waiting, entered}
use Rattle.h2_model.specs.History.{is_of, start}
use Rattle.h2_model.specs.Blocks.{table_after}
use Rattle.h2_model.specs.State.{State, found}
use Rattle.h2_model.specs.Moves.{adjusted, is_dropped, is_dropped_entry, kept_waiting, kept_held, dropped_bytes, resetting, handing, sending, giving, opening, new_stream, with_sent}
use Rattle.h2_laws_log.specs.Calling.{all_entered, heading, starting}
use Rattle.h2_laws_log.proofs.Lists.{both-left}
use Rattle.h2_model.specs.Numbers.{has}
use Rattle.h2_streams.specs.Changes.{changed, Allows, Counts}
use Rattle.h2_streams.specs.declared.changes.Change.TheVariants.{BlockSent, DataSent, Reset, UpdateGiven}
use Rattle.h2_session.specs.Refused.{refused}
use Rattle.h2_session.specs.Keeping.{CanGive, heading_as}
use Rattle.h2_laws_kept.specs.Kept.{Kept, IsSame, lacks_head}
use Rattle.h2_laws_kept.specs.Rooms.{KeepsCapacity}
use Rattle.h2_laws_kept.proofs.Sums.{length-filtered}

-- the part of a call that a head's lack decides
pub lacks-same : (k l : Kept) → IsSame k l → (id : ℕ) → lacks_head id l ≡ lacks_head id k
lacks-same k l s id = rw (s.client, s.headless, s.numbers) refl

-- A reset

pub over-is : (id : ℕ) (s : State) (window : ℤ) (streams : List Stream) (waiting : List Waiting) (held : List LogEntry)
    → window ≡ s.window +ℤ pos (dropped_bytes id s) → streams ≡ adjusted id (changed Reset) s.streams
    → waiting ≡ kept_waiting id s.waiting → held ≡ kept_held id s.held
    → record s { window = window; streams = streams; waiting = waiting; held = held } ≡ resetting id s
unfolding resetting changed
over-is id s window streams waiting held w t q h = λ i. record s { window = w i; streams = t i; waiting = q i; held = h i }

pub over-room : (k l : Kept) (id : ℕ) → KeepsCapacity k l → l.state ≡ resetting id k.state
    → (k.room ≤ l.room) × (k.held_room ≤ l.held_room)
unfolding resetting
over-room k l id c e = (
  omega (arith, c.queue, length-filtered (λ w. not (is_dropped id w)) k.state.waiting, ap (λ s. length s.waiting) e),
  omega (arith, c.held, length-filtered (λ x. not (is_dropped_entry id x)) k.state.held, ap (λ s. length s.held) e),
)

-- A frame is handed over

pub lacks-client : (id : ℕ) (k : Kept) → lacks_head id k ≡ true → k.client ≡ true
lacks-client id k e = both-left k.client (nat_le k.headless id) (both-left (k.client && nat_le k.headless id) (has id k.numbers) e)

nothing-taken : (w : ℤ) → w -ℤ pos 0 ≡ w
nothing-taken w = omega (arith, ints)

pub reset-held : (id code : ℕ) (s : State) (window : ℤ) (waiting : List Waiting) (held : List LogEntry) (c : Bool) → c ≡ true
    → window ≡ (resetting id s).window -ℤ pos 0 → waiting ≡ (resetting id s).waiting
    → held ≡ (resetting id s).held ++ Handed (frame.Reset id code) ∷ []
    → record (resetting id s) { window = window; waiting = waiting; held = held } ≡ handing c (frame.Reset id code) s
unfolding handing sending
reset-held id code s window waiting held c e w q h =
    (λ i. record (resetting id s) { window = (w ∙ nothing-taken (resetting id s).window) i; waiting = q i; held = h i })
    ∙ ap (λ b. handing b (frame.Reset id code) s) (sym e)

pub reset-queued : (id code : ℕ) (s : State) (window : ℤ) (waiting : List Waiting) (held : List LogEntry) (c : Bool) → c ≡ false
    → window ≡ (resetting id s).window -ℤ pos 0 → waiting ≡ entered (frame.Reset id code) (resetting id s).waiting
    → held ≡ (resetting id s).held
    → record (resetting id s) { window = window; waiting = waiting; held = held } ≡ handing c (frame.Reset id code) s
unfolding handing sending
reset-queued id code s window waiting held c e w q h =
    (λ i. record (resetting id s) { window = (w ∙ nothing-taken (resetting id s).window) i; waiting = q i; held = h i })
    ∙ ap (λ b. handing b (frame.Reset id code) s) (sym e)

pub data-held : (id : ℕ) (bytes : List ℕ) (last : Bool) (n : ℕ) (s : State) (window : ℤ) (streams : List Stream)
    (waiting : List Waiting) (held : List LogEntry) (c : Bool) → c ≡ true → n ≡ length bytes → window ≡ s.window -ℤ pos (length bytes)
    → streams ≡ adjusted id (changed (DataSent last n)) s.streams → waiting ≡ s.waiting
    → held ≡ s.held ++ Handed (frame.Data id bytes last n) ∷ []
    → record s { window = window; streams = streams; waiting = waiting; held = held }
    ≡ handing c (frame.Data id bytes last (length bytes)) s
unfolding handing sending changed
data-held id bytes last n s window streams waiting held c e m w t q h =
    (λ i. record s {
      window = w i;
      streams = (t ∙ ap (λ z. adjusted id (with_sent last z) s.streams) m) i;
      waiting = q i;
      held = (h ∙ ap (λ z. s.held ++ Handed (frame.Data id bytes last z) ∷ []) m) i;
    })
    ∙ ap (λ b. handing b (frame.Data id bytes last (length bytes)) s) (sym e)

pub data-queued : (id : ℕ) (bytes : List ℕ) (last : Bool) (n : ℕ) (s : State) (window : ℤ) (streams : List Stream)
    (waiting : List Waiting) (held : List LogEntry) (c : Bool) → c ≡ false → n ≡ length bytes → window ≡ s.window -ℤ pos (length bytes)
    → streams ≡ adjusted id (changed (DataSent last n)) s.streams
    → waiting ≡ entered (frame.Data id bytes last n) s.waiting → held ≡ s.held
    → record s { window = window; streams = streams; waiting = waiting; held = held }
    ≡ handing c (frame.Data id bytes last (length bytes)) s
unfolding handing sending changed
data-queued id bytes last n s window streams waiting held c e m w t q h =
    (λ i. record s {
      window = w i;
      streams = (t ∙ ap (λ z. adjusted id (with_sent last z) s.streams) m) i;
      waiting = (q ∙ ap (λ z. entered (frame.Data id bytes last z) s.waiting) m) i;
      held = h i;
    })
    ∙ ap (λ b. handing b (frame.Data id bytes last (length bytes)) s) (sym e)

-- A head

pub head-first : (id : ℕ) (block : List ℕ) (last : Bool) (s : State) (window : ℤ) (streams : List Stream)
    (waiting : List Waiting) (held : List LogEntry) (c : Bool) → c ≡ true → s.known ≡ s.limit
    → window ≡ s.window -ℤ pos 0 → streams ≡ adjusted id (changed (BlockSent last)) s.streams
    → waiting ≡ all_entered (filter (is_of id) s.held) (entered (frame.Headers id block last true) s.waiting)
    → held ≡ filter (λ e. not (is_of id e)) s.held
    → record s { window = window; streams = streams; waiting = waiting; held = held }
    ≡ heading_as c id (frame.Headers id block last true) s
unfolding heading sending changed
head-first id block last s window streams waiting held c e k w t q h =
    (λ i. record s {
      known = k i;
      window = (w ∙ nothing-taken s.window) i;
      streams = t i;
      waiting = q i;
      held = h i;
    })
    ∙ ap (λ b. heading_as b id (frame.Headers id block last true) s) (sym e)

pub head-later : (id : ℕ) (block : List ℕ) (last : Bool) (s : State) (window : ℤ) (streams : List Stream)
    (waiting : List Waiting) (held : List LogEntry) (c : Bool) → c ≡ false → s.known ≡ s.limit → window ≡ s.window -ℤ pos 0
    → streams ≡ adjusted id (changed (BlockSent last)) s.streams
    → waiting ≡ entered (frame.Headers id block last true) s.waiting → held ≡ s.held
    → record s { window = window; streams = streams; waiting = waiting; held = held }
    ≡ heading_as c id (frame.Headers id block last true) s
unfolding heading sending changed
head-later id block last s window streams waiting held c e k w t q h =
    (λ i. record s { known = k i; window = (w ∙ nothing-taken s.window) i; streams = t i; waiting = q i; held = h i })
    ∙ ap (λ b. heading_as b id (frame.Headers id block last true) s) (sym e)

-- A stream

pub opening-is : (id : ℕ) (s : State) (streams : List Stream) → streams ≡ s.streams ++ new_stream id ∷ []
    → record s { streams = streams } ≡ opening id s
unfolding opening
opening-is id s streams t = λ i. record s { streams = t i }

-- A window update

pub given-connection : (id n : ℕ) (s : State) (receive : ℕ) → id ≡ 0 → receive ≡ s.receive + n
    → record s { receive = receive } ≡ giving (frame.Window id n) s
unfolding giving
given-connection id n s receive z e =
    (λ i. record s { receive = e i }) ∙ ap (λ j. giving (frame.Window j n) s) (sym z)

pub given-stream : (id n : ℕ) (s : State) (streams : List Stream) → (id ≡ 0 → ⊥)
    → streams ≡ adjusted id (changed (UpdateGiven n)) s.streams → record s { streams = streams } ≡ giving (frame.Window id n) s
unfolding giving changed
given-stream zero n s streams z t = absurd (z refl)
given-stream (suc id) n s streams z t = λ i. record s { streams = t i }

pub counts : (id n : ℕ) (s : State) → (id ≡ 0 → ⊥) → CanGive id n s → (t : Stream) → found id s.streams ≡ Some t
    → Counts (UpdateGiven n) t
counts zero n s z h = absurd (z refl)
counts (suc id) n s z h = h

-- what is held enters the queue

-- Credit

pub allows-sent : (last : Bool) (n : ℕ) (t : Stream) → negsuc (2 ^ 33) ≤ℤ (t.credit -ℤ pos n) → Allows (DataSent last n) t
allows-sent last zero t h = tt
allows-sent last (suc n) t h = h

-- Numbers of 64 bits

pub unwrapped : (z : ℤ) → mag z < 2 ^ 63 → to_z w64 (of_z w64 z) ≡ z
unwrapped z h = omega (arith, ints, h)

-- The lesser of two windows

pub positive : (m : ℤ) → le_z m (pos 0) ≡ false → pos 0 <ℤ m
positive (pos zero) e = absurd cc
positive (pos (suc n)) e = omega (arith, ints)
positive (negsuc n) e = absurd cc

pub not-positive : (m : ℤ) → le_z m (pos 0) ≡ true → m ≤ℤ pos 0
not-positive (pos zero) e = omega (arith, ints)
not-positive (pos (suc n)) e = omega (arith, ints, e)
not-positive (negsuc n) e = omega (arith, ints)

pub least-none : (s w m : ℤ) → m ≡ int_min s w → m ≤ℤ pos 0 → min (positive_part w) (positive_part s) ≡ 0
least-none (pos s) (pos w) m e l = omega (arith, ints, e, l, int_min_is (pos s) (pos w))
least-none (negsuc s) (pos w) m e l = omega arith
least-none (pos s) (negsuc w) m e l = omega arith
least-none (negsuc s) (negsuc w) m e l = omega arith

both-positive : (s w : ℕ) → int_min (pos s) (pos w) ≡ pos (min w s)
both-positive s w = omega (arith, ints, int_min_is (pos s) (pos w))

pub least-some : (s w m : ℤ) → m ≡ int_min s w → pos 0 <ℤ m → nat_abs m ≡ min (positive_part w) (positive_part s)
least-some (pos s) (pos w) m e l = ap nat_abs (e ∙ both-positive s w)
least-some (negsuc s) (pos w) m e l = absurd (omega (arith, ints, e, l, int_min_is (negsuc s) (pos w)))
least-some (pos s) (negsuc w) m e l = absurd (omega (arith, ints, e, l, int_min_is (pos s) (negsuc w)))
least-some (negsuc s) (negsuc w) m e l = absurd (omega (arith, ints, e, l, int_min_is (negsuc s) (negsuc w)))

pub within-window : (n : ℕ) (m s : ℤ) → n ≤ nat_abs m → pos 0 <ℤ m → m ≤ℤ s → pos n ≤ℤ s
within-window n (pos k) s h l b = omega (arith, ints, h, l, b)
within-window n (negsuc k) s h l b = absurd (omega (arith, ints, l))

-- The encoder's table stays empty

pub resized-empty : (limit : ℕ) (t : hpack.TableState) → t.entries ≡ [] → (hpack.resized limit t).entries ≡ t.entries
unfolding hpack.cut
resized-empty limit t e = rw e refl

-- A session begins

pub new-state : (client : Bool) (table : hpack.TableState) (known limit : ℕ) (window : ℤ) (streams : List Stream) (waiting : List Waiting)
    (held : List LogEntry) (unreported : List ℕ) → table.entries ≡ [] → table.limit ≡ 4096 → known ≡ 4096 → limit ≡ 4096
    → window ≡ pos 65535 → streams ≡ [] → waiting ≡ (start client).waiting → held ≡ [] → unreported ≡ []
    → (let s : State = record {
      first = true;
      block = None;
      table = table;
      known = known;
      limit = limit;
      initial = 65535;
      most = 4294967295;
      goaway = false;
      violation = None;
      window = window;
      receive = 65535;
      unreturned = 0;
      streams = streams;
      waiting = waiting;
      held = held;
      unreported = map refused unreported;
    } in s) ≡ starting client
unfolding starting start table_after
new-state client table known limit window streams waiting held unreported e l k m w t q h u = λ i. record (starting client) {
  table = record { entries = e i; limit = l i };
  known = k i;
  limit = m i;
  window = w i;
  streams = t i;
  waiting = q i;
  held = h i;
  unreported = map refused (u i);
}
