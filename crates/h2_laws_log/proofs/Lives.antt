-- One live stream by its parts, and how a change of one stream moves the list of them.
use Rattle.std.proofs.Common.{◌≡◌, ℕ, Bool, true, false, Option, Some, None, refl, sym, ◌∙◌, ap, subst, if◌then◌else◌, ◌==◌, ◌&&◌, ◌||◌, not}
use Rattle.std.specs.Prelude.{ℤ}
use Rattle.std.specs.List.{list_any, list_all}
use Rattle.std.proofs.lemmas.Bool.{eqb-true, eq-eqb}
use Rattle.h2_model.specs.declared.stream.Stream.{Stream}
use Rattle.h2_model.specs.Log.{total}
use Rattle.h2_model.specs.Streams.{opened, is_opened, is_live, is_reset, is_ended_by_peer, is_ended_here, heads_got}
use Rattle.h2_model.specs.StreamFaults.{is_interim}
use Rattle.h2_model.specs.Account.{Account}
use Rattle.h2_model.specs.Windows.{increment, data_sent, data_received, increment_given, increment_owed}
use Rattle.h2_model.specs.State.{live, streams, stream_of_log}
use Rattle.h2_model.specs.Moves.{adjust, adjusted, unless_over}
use Rattle.h2_model.specs.Valid.{Descends, Untouched}
use Rattle.h2_model.proofs.Lives.{bound, streams-moved, streams-same, not-opened}
use Rattle.h2_laws_log.proofs.Same.{none-among}

-- a stream, by: is it opened, is it reset, did the peer end it, did this end
abbrev pub kept_by : Bool → Bool → Bool → Bool → Stream → Option Stream
kept_by o r p h s = if o && not r && not (p && h) then Some s else None

pub live-parts : (id : ℕ) (a : Account)
    → live id a ≡ kept_by (is_opened id a.log) (is_reset id a.log) (is_ended_by_peer id a.log) (is_ended_here id a.log) (stream_of_log id a)
unfolding live
live-parts id a = refl

abbrev made : ℕ → Bool → Bool → Bool → ℤ → ℕ → ℕ → Stream
made i p h n c r u = record { id = i; peer_ended = p; here_ended = h; interim = n; credit = c; receive = r; unreturned = u }

built : {i i' : ℕ} {p p' h h' n n' : Bool} {c c' : ℤ} {r r' u u' : ℕ} → i' ≡ i → p' ≡ p → h' ≡ h → n' ≡ n → c' ≡ c → r' ≡ r → u' ≡ u
    → made i' p' h' n' c' r' u' ≡ made i p h n c r u
built i p h n c r u = cc

pub same-stream : (s t : Stream) → t.id ≡ s.id → t.peer_ended ≡ s.peer_ended → t.here_ended ≡ s.here_ended
    → t.interim ≡ s.interim → t.credit ≡ s.credit → t.receive ≡ s.receive → t.unreturned ≡ s.unreturned → t ≡ s
same-stream s t i p h n c r u = built i p h n c r u

-- the sums of a number are the same
pub record SameSums (id : ℕ) (a b : Account) : Type 0 where
  pub increments : total (increment id) b.log ≡ total (increment id) a.log
  pub sent : data_sent id b ≡ data_sent id a
  pub received : total (data_received id) b.log ≡ total (data_received id) a.log
  pub given : total (increment_given id) b.log ≡ total (increment_given id) a.log
  pub owed : total (increment_owed id) b.log ≡ total (increment_owed id) a.log

-- and the marks of a stream
pub record SameMarks (id : ℕ) (a b : Account) : Type 0 where
  pub opened : is_opened id b.log ≡ is_opened id a.log
  pub reset : is_reset id b.log ≡ is_reset id a.log
  pub peer_ended : is_ended_by_peer id b.log ≡ is_ended_by_peer id a.log
  pub here_ended : is_ended_here id b.log ≡ is_ended_here id a.log
  pub heads : heads_got id b.log ≡ heads_got id a.log

pub record Same (id : ℕ) (a b : Account) : Type 0 where
  pub sums : SameSums id a b
  pub marks : SameMarks id a b

pub same-live : (id : ℕ) (a b : Account) → Same id a b → live id b ≡ live id a
unfolding live stream_of_log
same-live id a b s =
    rw (s.marks.opened, s.marks.reset, s.marks.peer_ended, s.marks.here_ended, s.marks.heads, s.sums.increments, s.sums.sent, s.sums.received, s.sums.given, s.sums.owed)

pub same-untouched : (id : ℕ) (a b : Account) → Same id a b → Untouched id a → Untouched id b
same-untouched id a b s u = record {
  reset = s.marks.reset ∙ u.reset;
  peer_ended = s.marks.peer_ended ∙ u.peer_ended;
  here_ended = s.marks.here_ended ∙ u.here_ended;
  heads = s.marks.heads ∙ u.heads;
  increments = s.sums.increments ∙ u.increments;
  sent = s.sums.sent ∙ u.sent;
  received = s.sums.received ∙ u.received;
  given = s.sums.given ∙ u.given;
  owed = s.sums.owed ∙ u.owed;
}

pub no-zero : (a : Account) → Descends (opened a.log) → is_opened 0 a.log ≡ false
no-zero a d = none-among (opened a.log) d

adjust-id : (k id : ℕ) (f : Stream → Option Stream) (a : Account)
    → bound (live id a) (adjust k f) ≡ bound (live id a) (λ s. if id == k then f s else Some s)
unfolding live stream_of_log
adjust-id k id f a = by (is_live id a.log)
  where
    by : (x : Bool) → bound (if x then Some (stream_of_log id a) else None) (adjust k f) ≡ bound (if x then Some (stream_of_log id a) else None) (λ s. if id == k then f s else Some s)
    by true = refl
    by false = refl

bound-some : (o : Option Stream) → o ≡ bound o (λ s. Some s)
bound-some None = refl
bound-some (Some s) = refl

-- a move that opens none, and changes no stream but k
pub stream-moved : (k : ℕ) (f : Stream → Option Stream) (a b : Account) → Descends (opened a.log) → opened b.log ≡ opened a.log
    → ((id : ℕ) → (id == 0) ≡ false → (id == k) ≡ false → Same id a b)
    → (is_opened k a.log ≡ true → live k b ≡ bound (live k a) f)
    → streams b ≡ adjusted k f (streams a)
stream-moved k f a b d o others this = streams-moved a b (adjust k f) o (λ id. at id)
  where
    dead : (id : ℕ) → is_opened id a.log ≡ false → live id b ≡ bound (live id a) (adjust k f)
    dead id e =
        let e' : is_opened id b.log ≡ false = ap (λ ns. list_any (λ n. n == id) ns) o ∙ e in
        rw (not-opened id a e, not-opened id b e') refl

    alive : (id : ℕ) (same : Bool) → (id == k) ≡ same → is_opened id a.log ≡ true → (id == 0) ≡ false → live id b ≡ bound (live id a) (adjust k f)
    alive id true s l z = subst (λ (n : ℕ). is_opened n a.log ≡ true → live n b ≡ bound (live n a) (adjust k f)) (sym (eqb-true id k s))
        (λ l. this l ∙ sym (adjust-id k k f a ∙ rw (eq-eqb k k refl) refl)) l
    alive id false s l z = same-live id a b (others id z s) ∙ bound-some (live id a) ∙ sym (adjust-id k id f a ∙ rw s refl)

    zero : (id : ℕ) → (id == 0) ≡ true → is_opened id a.log ≡ false
    zero id z = rw (eqb-true id 0 z) (no-zero a d)

    by : (id : ℕ) (l z : Bool) → is_opened id a.log ≡ l → (id == 0) ≡ z → live id b ≡ bound (live id a) (adjust k f)
    by id false z e ez = dead id e
    by id true true e ez = dead id (zero id ez)
    by id true false e ez = alive id (id == k) refl e ez

    at : (id : ℕ) → live id b ≡ bound (live id a) (adjust k f)
    at id = by id (is_opened id a.log) (id == 0) refl refl

-- a move that opens none and changes none
pub streams-stay : (a b : Account) → Descends (opened a.log) → opened b.log ≡ opened a.log
    → ((id : ℕ) → (id == 0) ≡ false → Same id a b) → streams b ≡ streams a
streams-stay a b d o others = streams-same a b o (λ id. by id (id == 0) refl)
  where
    dead : (id : ℕ) → is_opened id a.log ≡ false → live id b ≡ live id a
    dead id e =
        let e' : is_opened id b.log ≡ false = ap (λ ns. list_any (λ n. n == id) ns) o ∙ e in
        not-opened id b e' ∙ sym (not-opened id a e)

    by : (id : ℕ) (z : Bool) → (id == 0) ≡ z → live id b ≡ live id a
    by id true z = dead id (rw (eqb-true id 0 z) (no-zero a d))
    by id false z = same-live id a b (others id z)

-- a stream that one end may have ended
over-moves : (o r p h last : Bool) (s t : Stream) (f : Stream → Option Stream)
    → t.peer_ended ≡ (last || p) → t.here_ended ≡ h → f s ≡ unless_over t
    → kept_by o r (last || p) h t ≡ bound (kept_by o r p h s) f
over-moves false r p h last s t f tp th e = refl
over-moves true true p h last s t f tp th e = refl
over-moves true false true true true s t f tp th e = refl
over-moves true false true true false s t f tp th e = refl
over-moves true false true false true s t f tp th e = sym (e ∙ rw (tp, th) refl)
over-moves true false true false false s t f tp th e = sym (e ∙ rw (tp, th) refl)
over-moves true false false h true s t f tp th e = by h th
  where
    by : (h : Bool) → t.here_ended ≡ h → kept_by true false true h t ≡ f s
    by true th = sym (e ∙ rw (tp, th) refl)
    by false th = sym (e ∙ rw (tp, th) refl)
over-moves true false false h false s t f tp th e = sym (e ∙ rw (tp, th) refl)

-- one that stays
stays : (o r p h : Bool) (s t : Stream) (f : Stream → Option Stream) → f s ≡ Some t → kept_by o r p h t ≡ bound (kept_by o r p h s) f
stays o r p h s t f e = by (o && not r && not (p && h))
  where
    by : (x : Bool) → (if x then Some t else None) ≡ bound (if x then Some s else None) f
    by true = sym e
    by false = refl

same-kept : (o o' r r' p p' h h' : Bool) (s : Stream) → o' ≡ o → r' ≡ r → p' ≡ p → h' ≡ h → kept_by o' r' p' h' s ≡ kept_by o r p h s
same-kept o o' r r' p p' h h' s eo er ep eh = rw (eo, er, ep, eh) refl

-- a move that may end a stream
pub moved-over : (k : ℕ) (a b : Account) (last : Bool) (f : Stream → Option Stream) → is_opened k b.log ≡ is_opened k a.log → is_reset k b.log ≡ is_reset k a.log
    → is_ended_by_peer k b.log ≡ (last || is_ended_by_peer k a.log) → is_ended_here k b.log ≡ is_ended_here k a.log
    → f (stream_of_log k a) ≡ unless_over (stream_of_log k b) → live k b ≡ bound (live k a) f
unfolding stream_of_log
moved-over k a b last f o r p h e = live-parts k b
    ∙ same-kept (is_opened k a.log) _ (is_reset k a.log) _ (last || is_ended_by_peer k a.log) _ (is_ended_here k a.log) _ (stream_of_log k b) o r p h
    ∙ over-moves (is_opened k a.log) (is_reset k a.log) (is_ended_by_peer k a.log) (is_ended_here k a.log) last (stream_of_log k a) (stream_of_log k b) f p h e
    ∙ ap (λ x. bound x f) (sym (live-parts k a))

-- one that changes a stream, and one that resets it
pub moved-on : (k : ℕ) (a b : Account) (f : Stream → Option Stream) → is_opened k b.log ≡ is_opened k a.log → is_reset k b.log ≡ is_reset k a.log
    → is_ended_by_peer k b.log ≡ is_ended_by_peer k a.log → is_ended_here k b.log ≡ is_ended_here k a.log → f (stream_of_log k a) ≡ Some (stream_of_log k b) → live k b ≡ bound (live k a) f
moved-on k a b f o r p h e = live-parts k b
    ∙ same-kept (is_opened k a.log) _ (is_reset k a.log) _ (is_ended_by_peer k a.log) _ (is_ended_here k a.log) _ (stream_of_log k b) o r p h
    ∙ stays (is_opened k a.log) (is_reset k a.log) (is_ended_by_peer k a.log) (is_ended_here k a.log) (stream_of_log k a) (stream_of_log k b) f e
    ∙ ap (λ o. bound o f) (sym (live-parts k a))

abbrev gone : Stream → Option Stream
gone s = None

none-left : (o : Option Stream) → bound o gone ≡ None
none-left None = refl
none-left (Some s) = refl

reset-dead : (o r p h : Bool) (s : Stream) → r ≡ true → kept_by o r p h s ≡ None
reset-dead true r p h s e = rw e refl
reset-dead false r p h s e = refl

pub moved-off : (k : ℕ) (a b : Account) → is_reset k b.log ≡ true → live k b ≡ bound (live k a) (λ s. None)
moved-off k a b e = live-parts k b ∙ reset-dead (is_opened k b.log) (is_reset k b.log) (is_ended_by_peer k b.log) (is_ended_here k b.log) (stream_of_log k b) e ∙ sym (none-left (live k a))

-- where the sums of a stream stay
pub stream-marked : (k : ℕ) (a b : Account) → SameSums k a b
    → stream_of_log k b ≡ record (stream_of_log k a) { peer_ended = is_ended_by_peer k b.log; here_ended = is_ended_here k b.log; interim = list_all is_interim (heads_got k b.log) }
unfolding stream_of_log
stream-marked k a b s =
    same-stream (record (stream_of_log k a) { peer_ended = is_ended_by_peer k b.log; here_ended = is_ended_here k b.log; interim = list_all is_interim (heads_got k b.log) })
    (stream_of_log k b) refl refl refl refl (rw (s.increments, s.sent) refl) (rw (s.given, s.received) refl) (rw (s.received, s.owed) refl)
