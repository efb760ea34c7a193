-- A stream of which nothing changes, and the one that a move changes.
use Rattle.std.proofs.Common.{◌≡◌, ℕ, ◌+◌, ◌<◌, Bool, true, false, not, ◌&&◌, ◌||◌, ◌==◌, List, [], ◌∷◌, Option, Some, None, refl, sym, ◌∙◌, ap, subst, if◌then◌else◌, arith, pos, ◌-ℤ◌, ◌+ℤ◌, ◌-◌, eqb-true}
use Rattle.std.specs.List.{list_any, list_all}
use Rattle.ext_msgs.specs.declared.lists.Field.{Field}
use Rattle.h2_model.specs.declared.stream.Stream.{Stream}
use Rattle.h2_model.specs.Log.{total}
use Rattle.h2_model.specs.Streams.{opened, is_opened, is_live, is_reset, is_ended_by_peer, is_ended_here, heads_got}
use Rattle.h2_model.specs.Account.{Account}
use Rattle.h2_model.specs.Windows.{increment, data_sent, data_received, increment_given, increment_owed, connection_window, window_from}
use Rattle.h2_model.specs.StreamFaults.{is_interim}
use Rattle.h2_model.specs.State.{live, streams, stream_of_log}
use Rattle.h2_model.specs.Moves.{adjust, adjusted}
use Rattle.h2_model.specs.Valid.{Valid, Untouched, Descends}
use Rattle.h2_model.proofs.Lives.{bound, streams-moved, streams-same, not-opened}
use Rattle.h2_laws_log.proofs.Lists.{same-number, less-more, given-back}

pub record Same (n : ℕ) (a b : Account) : Type 0 where
  pub opened : is_opened n b.log ≡ is_opened n a.log
  pub reset : is_reset n b.log ≡ is_reset n a.log
  pub peer_ended : is_ended_by_peer n b.log ≡ is_ended_by_peer n a.log
  pub here_ended : is_ended_here n b.log ≡ is_ended_here n a.log
  pub heads : heads_got n b.log ≡ heads_got n a.log
  pub increments : total (increment n) b.log ≡ total (increment n) a.log
  pub sent : data_sent n b ≡ data_sent n a
  pub received : total (data_received n) b.log ≡ total (data_received n) a.log
  pub given : total (increment_given n) b.log ≡ total (increment_given n) a.log
  pub owed : total (increment_owed n) b.log ≡ total (increment_owed n) a.log

-- a live stream by what is known of it
abbrev pub live_by : (n : ℕ) (o r p h : Bool) → List (List Field) → (inc sent rec giv owe : ℕ) → Option Stream
live_by n o r p h heads inc sent rec giv owe =
    if o && not r && not (p && h) then Some (record {
      id = n;
      peer_ended = p;
      here_ended = h;
      interim = list_all is_interim heads;
      credit = pos inc -ℤ pos sent;
      receive = 65535 + giv - rec;
      unreturned = rec - owe;
    }) else None

pub live-is : (n : ℕ) (a : Account)
    → live n a ≡ live_by n (is_opened n a.log) (is_reset n a.log) (is_ended_by_peer n a.log) (is_ended_here n a.log)
    (heads_got n a.log) (total (increment n) a.log) (data_sent n a) (total (data_received n) a.log)
    (total (increment_given n) a.log) (total (increment_owed n) a.log)
unfolding live stream_of_log
live-is n a = refl

pub same-live : (n : ℕ) (a b : Account) → Same n a b → live n b ≡ live n a
unfolding live stream_of_log
same-live n a b s = λ i. live_by n (s.opened i) (s.reset i) (s.peer_ended i) (s.here_ended i) (s.heads i) (s.increments i)
    (s.sent i) (s.received i) (s.given i) (s.owed i)

pub same-untouched : (n : ℕ) (a b : Account) → Same n a b → Untouched n a → Untouched n b
same-untouched n a b s u = record {
  reset = s.reset ∙ u.reset;
  peer_ended = s.peer_ended ∙ u.peer_ended;
  here_ended = s.here_ended ∙ u.here_ended;
  heads = s.heads ∙ u.heads;
  increments = s.increments ∙ u.increments;
  sent = s.sent ∙ u.sent;
  received = s.received ∙ u.received;
  given = s.given ∙ u.given;
  owed = s.owed ∙ u.owed;
}

-- The connection's window

pub window-less : (a b : Account) (n : ℕ) → total (increment 0) b.log ≡ total (increment 0) a.log → data_sent 0 b
    ≡ data_sent 0 a + n
    → connection_window b ≡ connection_window a -ℤ pos n
unfolding connection_window window_from
window-less a b n i s = (λ k. pos (65535 + i k) -ℤ pos (s k))
    ∙ less-more (65535 + total (increment 0) a.log) (data_sent 0 a) n

pub window-more : (a b : Account) (n : ℕ) → total (increment 0) b.log ≡ total (increment 0) a.log → data_sent 0 a
    ≡ data_sent 0 b + n
    → connection_window b ≡ connection_window a +ℤ pos n
unfolding connection_window window_from
window-more a b n i s =
    given-back (65535 + total (increment 0) b.log) (data_sent 0 b) n
    ∙ (λ k. (pos (65535 + i k) -ℤ pos (sym s k)) +ℤ pos n)

-- Number 0 is no stream

pub none-among : (ns : List ℕ) → Descends ns → list_any (λ n. n == 0) ns ≡ false
none-among [] d = refl
none-among (m ∷ ns) d = by (m == 0) refl (none-among ns d.2)
  where
    by : (c : Bool) → (m == 0) ≡ c → list_any (λ n. n == 0) ns ≡ false → (c || list_any (λ n. n == 0) ns) ≡ false
    by true e ih = let z : m ≡ 0 = eqb-true m 0 e in let l : 0 < m = d.0 in absurd (omega arith)
    by false e ih = ih

pub zero-unopened : (a : Account) → Valid a → is_opened 0 a.log ≡ false
zero-unopened a v = none-among (opened a.log) v.descends

-- The stream that changes, and the others

other-if : (s : Stream) (id : ℕ) (g : Stream → Option Stream) (c : Bool) → (s.id == id) ≡ false
    → (if c then Some s else None) ≡ bound (if c then Some s else None) (adjust id g)
other-if s id g true e = rw e refl
other-if s id g false e = refl

pub other-live : (n id : ℕ) (g : Stream → Option Stream) (a : Account) → (n == id) ≡ false
    → live n a ≡ bound (live n a) (adjust id g)
unfolding live stream_of_log
other-live n id g a e = other-if (stream_of_log n a) id g (is_live n a.log) e

own-over : (s : Stream) (id : ℕ) (c : Bool) → s.id ≡ id → None ≡ bound (if c then Some s else None) (adjust id (λ t. None))
own-over s id true e = rw (e, same-number id) refl
own-over s id false e = refl

-- a stream that is reset isn't live any more
pub over-live : (id : ℕ) (a : Account) → None ≡ bound (live id a) (adjust id (λ t. None))
unfolding live stream_of_log
over-live id a = own-over (stream_of_log id a) id (is_live id a.log) refl

-- all streams, of which one changes
pub one-moved : (a b : Account) (id : ℕ) (g : Stream → Option Stream) → Valid a → opened b.log ≡ opened a.log
    → ((n : ℕ) → 0 < n → (n == id) ≡ false → Same n a b) → live id b ≡ bound (live id a) (adjust id g)
    → streams b ≡ adjusted id g (streams a)
one-moved a b id g v o s own = streams-moved a b (adjust id g) o λ n. by n (n == id) refl (n == 0) refl
  where
    by : (n : ℕ) (x : Bool) → (n == id) ≡ x → (z : Bool) → (n == 0) ≡ z → live n b ≡ bound (live n a) (adjust id g)
    by n true e z k = subst (λ m. live m b ≡ bound (live m a) (adjust id g)) (sym (eqb-true n id e)) own
    by n false e false k = same-live n a b (s n (grind (arith, k)) e) ∙ other-live n id g a e
    by n false e true k = subst (λ m. live m b ≡ bound (live m a) (adjust id g)) (sym (eqb-true n 0 k))
        (rw (not-opened 0 a (zero-unopened a v)) (not-opened 0 b (ap (list_any (λ m. m == 0)) o ∙ zero-unopened a v)))

-- all streams, of which none changes
pub none-moved : (a b : Account) → Valid a → opened b.log ≡ opened a.log → ((n : ℕ) → 0 < n → Same n a b) → streams b
    ≡ streams a
none-moved a b v o s = streams-same a b o λ n. by n (n == 0) refl
  where
    by : (n : ℕ) (z : Bool) → (n == 0) ≡ z → live n b ≡ live n a
    by n false k = same-live n a b (s n (grind (arith, k)))
    by n true k = subst (λ m. live m b ≡ live m a) (sym (eqb-true n 0 k))
        (not-opened 0 b (ap (list_any (λ m. m == 0)) o ∙ zero-unopened a v)
        ∙ sym (not-opened 0 a (zero-unopened a v)))
