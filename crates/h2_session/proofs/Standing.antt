-- A session stands for one more call, by what the code leaves.
use Rattle.std.proofs.Common.{◌≡◌, ℕ, ℤ, zero, suc, ◌+◌, ◌≤◌, ◌<◌, min, Bool, true, false, ◌||◌, List, [], ◌∷◌, length, take, Option, Some, None, refl, sym, ◌∙◌, ap, subst, if◌then◌else◌, is_some, arith, le_refl, length-take}
use Rattle.std.proofs.Math.Bool.{or-true}
use Rattle.ext_msgs.specs.declared.lists.Field.{Field}
use Rattle.hpack_core.specs.Writing.{BlockWritten}
use Rattle.h2_frames.specs.declared.frame.Frame.TheVariants as frame
use Rattle.h2_model.specs.Log.{is_empty}
use Rattle.h2_model.specs.Streams.{is_live}
use Rattle.h2_model.specs.Settings.{known_limit, table_limit}
use Rattle.h2_model.specs.Account.{Account}
use Rattle.h2_model.specs.Calls.{MayHead, Role, is_open_here, kept_streams, now, positive_part, sendable}
use Rattle.h2_model.specs.History.{Call, Open, Head, Send, Finish, Reset, Take, is_violated}
use Rattle.h2_model.specs.Queue.{flow}
use Rattle.h2_model.specs.Windows.{connection_window, stream_window}
use Rattle.h2_model.specs.State.{State}
use Rattle.h2_model.specs.Moves.{handing, opening, sending}
use Rattle.h2_laws_log.specs.Calling.{taking, heading}
use Rattle.h2_session.specs.Keeping.{KeepsRooms, heading_as, leaves_a_stream}
use Rattle.h2_session.proofs.Agreeing.{live-same, open-same, head-same, kept-same}
use Rattle.h2_session.proofs.Seen.{seen-known, seen-limit}
use Rattle.h2_laws_kept.specs.Kept.{Kept, IsSame, IsBeside, lacks_head}
use Rattle.h2_laws_kept.specs.Rooms.{HasSpare, KeepsCapacity}
use Rattle.h2_laws_kept.specs.StandsFor.{StandsFor, Stands}
use Rattle.h2_laws_kept.proofs.Answers.{flow-is}
use Rattle.h2_laws_kept.proofs.Finishes.{finish-held}
use Rattle.h2_laws_kept.proofs.Heads.{head-held, head-idle}
use Rattle.h2_laws_kept.proofs.Histories.{one-more, one-idle, none-more, role-is}
use Rattle.h2_laws_kept.proofs.Holding.{violation-kept}
use Rattle.h2_laws_kept.proofs.Opens.{can-open-is, open-held}
use Rattle.h2_laws_kept.proofs.Resets.{reset-held}
use Rattle.h2_laws_kept.proofs.Sends.{send-held, send-idle}
use Rattle.h2_laws_kept.proofs.Takes.{take-held}

-- What a requirement says of one history it says of each that the session stands for

pub asked-live : (k : Kept) (id : ℕ) → Stands k (λ r h. is_live id (now r h).log ≡ true) → (r : Role) (h : List Call)
    → StandsFor r k h → is_live id (now r h).log ≡ true
asked-live k id q r h s = live-same k (now q.0 q.1) (now r h) q.2.holds s.holds id ∙ q.3

pub asked-open : (k : Kept) (id : ℕ) → Stands k (λ r h. is_open_here id (now r h) ≡ true) → (r : Role) (h : List Call)
    → StandsFor r k h → is_open_here id (now r h) ≡ true
asked-open k id q r h s = open-same k (now q.0 q.1) (now r h) q.2.holds s.holds id ∙ q.3

pub asked-head : (k : Kept) (id : ℕ) → Stands k (λ r h. MayHead id (now r h)) → (r : Role) (h : List Call)
    → StandsFor r k h → MayHead id (now r h)
asked-head k id q r h s = head-same k (now q.0 q.1) (now r h) q.2.holds s.holds id q.3

pub asked-client : (k : Kept) → Stands k (λ r h. (r.client ≡ true) × (length (kept_streams (now r h)) < r.streams))
    → (r : Role) (h : List Call) → StandsFor r k h → ((now r h).client ≡ true) × (length (kept_streams (now r h)) < k.streams)
asked-client k q r h s = (
  role-is r k h s ∙ sym s.role ∙ q.2.role ∙ q.3.0,
  rw (kept-same k (now q.0 q.1) (now r h) q.2.holds s.holds, q.2.reserved) q.3.1,
)

-- What stays

pub same-itself : (k : Kept) → IsSame k k
same-itself k = record {
  client = refl;
  streams = refl;
  greeted = refl;
  reader = refl;
  numbers = refl;
  headless = refl;
  fault = refl;
  entries = refl;
}

pub capacity-itself : (k : Kept) → KeepsCapacity k k
capacity-itself k = record {
  queue = le_refl (k.room + length k.state.waiting);
  held = le_refl (k.held_room + length k.state.held);
  table = le_refl (k.table_room + length k.state.streams);
}

pub roomier : (r : Role) (k l : Kept) (h : List Call) → StandsFor r k h → l.state ≡ k.state → IsSame k l → KeepsRooms k l
    → StandsFor r l h
roomier r k l h s e same n = none-more r k l h s e same n.queue n.held n.table

violated-is : (r : Role) (k : Kept) (h : List Call) → StandsFor r k h → is_violated (now r h) ≡ is_some k.state.violation
violated-is r k h s = ap (λ (o : Option ℕ). is_some o) (sym (violation-kept k (now r h) s.holds))

unviolated : (o : Option ℕ) → is_some o ≡ false → o ≡ None
unviolated None e = refl
unviolated (Some x) e = absurd cc

-- A frame is handed over

pub finish-stands : (r : Role) (k l : Kept) (h : List Call) (id : ℕ) → StandsFor r k h → is_open_here id (now r h) ≡ true
    → IsSame k l → KeepsCapacity k l
    → l.state ≡ (if is_some k.state.violation then k.state else handing (lacks_head id k) (frame.Data id [] true 0) k.state)
    → StandsFor r l (Finish id ∷ h)
finish-stands r k l h id s o same c e =
    one-more r k l (Finish id) h s o same.client same.streams (finish-held k l id (now r h) s.holds o same c e)

pub reset-stands : (r : Role) (k l : Kept) (h : List Call) (id code : ℕ) → StandsFor r k h → is_live id (now r h).log ≡ true
    → IsSame k l → KeepsCapacity k l
    → l.state ≡ (if is_some k.state.violation then k.state else handing (lacks_head id k) (frame.Reset id code) k.state)
    → StandsFor r l (Reset id code ∷ h)
reset-stands r k l h id code s o same c e =
    one-more r k l (Reset id code) h s o same.client same.streams (reset-held k l id code (now r h) s.holds o same c e)

pub sendable-by : (id n : ℕ) (a : Account) (s w : ℤ) → stream_window id a ≡ s → connection_window a ≡ w
    → sendable id n a ≡ min (min n 16384) (min (positive_part w) (positive_part s))
unfolding sendable
sendable-by id n a s w e f = λ i. min (min n 16384) (min (positive_part (f i)) (positive_part (e i)))

take-least : (n m w : ℕ) → n ≡ min (min m 16384) w → n ≤ min (min n 16384) w
take-least n m w e = omega (arith, e)

-- as many bytes as may be sent
may-send : (id n : ℕ) (bytes : List ℕ) (a : Account) → n ≤ length bytes → n ≡ sendable id (length bytes) a → is_open_here id a ≡ true
    → (is_open_here id a ≡ true) × (length (take n bytes) ≤ sendable id (length (take n bytes)) a)
unfolding sendable
may-send id n bytes a l e o = (o, subst (λ m. m ≤ sendable id m a) (sym count) (take-least n (length bytes) _ e))
  where
    count : length (take n bytes) ≡ n
    count = omega (arith, length-take n bytes, l)

pub send-nothing : (r : Role) (k : Kept) (h : List Call) (id n : ℕ) (bytes : List ℕ) → StandsFor r k h
    → is_open_here id (now r h) ≡ true → n ≤ length bytes → n ≡ sendable id (length bytes) (now r h)
    → (is_empty (take n bytes) || is_some k.state.violation) ≡ true → StandsFor r k (Send id (take n bytes) ∷ h)
send-nothing r k h id n bytes s o m e v =
    one-idle r k k (Send id (take n bytes)) h s (may-send id n bytes (now r h) m e o)
    (send-idle id (take n bytes) (now r h) (ap (λ c. is_empty (take n bytes) || c) (violated-is r k h s) ∙ v)) refl refl s.holds

pub send-violated : (r : Role) (k : Kept) (h : List Call) (id n : ℕ) (bytes : List ℕ) → StandsFor r k h
    → is_open_here id (now r h) ≡ true → n ≤ length bytes → n ≡ sendable id (length bytes) (now r h)
    → is_some k.state.violation ≡ true → StandsFor r k (Send id (take n bytes) ∷ h)
send-violated r k h id n bytes s o m e v =
    send-nothing r k h id n bytes s o m e (ap (λ c. is_empty (take n bytes) || c) v ∙ or-true (is_empty (take n bytes)))

pub some-taken : (n : ℕ) (bytes : List ℕ) → (n ≡ 0 → ⊥) → n ≤ length bytes → is_empty (take n bytes) ≡ false
some-taken zero bytes z m = absurd (z refl)
some-taken (suc n) [] z m = absurd (omega (arith, m))
some-taken (suc n) (x ∷ bytes) z m = refl

pub send-stands : (r : Role) (k l : Kept) (h : List Call) (id n : ℕ) (bytes : List ℕ) → StandsFor r k h
    → is_open_here id (now r h) ≡ true → n ≤ length bytes → n ≡ sendable id (length bytes) (now r h) → is_empty (take n bytes) ≡ false
    → is_some k.state.violation ≡ false → HasSpare 1 k → IsSame k l → KeepsCapacity k l
    → l.state ≡ handing (lacks_head id k) (frame.Data id (take n bytes) false (length (take n bytes))) k.state
    → StandsFor r l (Send id (take n bytes) ∷ h)
send-stands r k l h id n bytes s o m e some v spare same c st =
    one-more r k l (Send id (take n bytes)) h s (may-send id n bytes (now r h) m e o) same.client same.streams
    (send-held k l id (take n bytes) (now r h) s.holds o some (unviolated k.state.violation v) spare same c st)

-- Bytes go out

pub take-stands : (r : Role) (k l : Kept) (h : List Call) (n : ℕ) → StandsFor r k h → n ≤ length (flow k.state.waiting)
    → IsSame k l → KeepsCapacity k l → l.state ≡ taking n k.state → StandsFor r l (Take n ∷ h)
take-stands r k l h n s m same c e =
    one-more r k l (Take n) h s (rw (flow-is k (now r h) s.holds) m) same.client same.streams
    (take-held k l n (now r h) s.holds same c e)

-- A stream is opened

pub open-stands : (r : Role) (k l : Kept) (h : List Call) → StandsFor r k h
    → ((now r h).client ≡ true) × (length (kept_streams (now r h)) < k.streams) → leaves_a_stream k ≡ true → IsBeside k l
    → l.headless ≡ k.headless → l.numbers ≡ record k.numbers { next = k.numbers.next + 2 }
    → l.state ≡ opening k.numbers.next k.state → KeepsCapacity k l → StandsFor r l (Open ∷ h)
open-stands r k l h s q t b e n st c =
    one-more r k l Open h s (q.0, can-open-is k (now r h) s.holds q.0 ∙ t, subst (λ m. length (kept_streams (now r h)) < m) s.reserved q.1)
    b.client b.streams (open-held k l (now r h) s.holds q.0 q.1 b e n st c)

-- A block is handed over

pub head-violated : (r : Role) (k : Kept) (h : List Call) (id : ℕ) (fields : List Field) (block : List ℕ) (last : Bool)
    → StandsFor r k h → MayHead id (now r h) → is_some k.state.violation ≡ true → StandsFor r k (Head id fields block last ∷ h)
head-violated r k h id fields block last s m v =
    let e : is_violated (now r h) ≡ true = violated-is r k h s ∙ v in
    one-idle r k k (Head id fields block last) h s (m, λ f. absurd (differ (sym e ∙ f)))
    (head-idle id fields block last (now r h) e) refl refl s.holds
  where
    differ : true ≡ false → ⊥
    differ q = cc

-- a block's table size is the limit, whatever was known before
as-known : (c : Bool) (id : ℕ) (block : List ℕ) (last : Bool) (s : State)
    → heading_as c id (frame.Headers id block last true) (record s { known = s.limit })
    ≡ heading_as c id (frame.Headers id block last true) s
unfolding heading sending
as-known true id block last s = refl
as-known false id block last s = refl

-- the encoder wrote the block: it knows of the limit from then on
pub head-stands : (r : Role) (k m l : Kept) (h : List Call) (id : ℕ) (fields : List Field) (block : List ℕ) (last : Bool)
    → StandsFor r k h → MayHead id (now r h) → is_some k.state.violation ≡ false
    → BlockWritten k.state.known k.state.limit fields block → HasSpare (length k.state.held + 1) k
    → m ≡ record k { state = record k.state { known = k.state.limit } }
    → l.state ≡ heading_as (lacks_head id m) id (frame.Headers id block last true) m.state
    → l.headless ≡ (if lacks_head id m then id + 2 else m.headless) → IsBeside m l → l.numbers ≡ m.numbers → KeepsCapacity m l
    → StandsFor r l (Head id fields block last ∷ h)
head-stands r k m l h id fields block last s may v w spare is st he b n c =
    one-more r k l (Head id fields block last) h s (may, λ f. written) besides.client besides.streams
    (head-held k l id fields block last (now r h) s.holds may (unviolated k.state.violation v) spare
    capacity besides (n ∙ ap (λ j. j.numbers) is)
    (he ∙ ap (λ j. if lacks_head id j then id + 2 else j.headless) is)
    (st ∙ ap (λ j. heading_as (lacks_head id j) id (frame.Headers id block last true) j.state) is ∙ as-known (lacks_head id k) id block last k.state))
  where
    besides : IsBeside k l
    besides = record {
      client = b.client ∙ ap (λ j. j.client) is;
      streams = b.streams ∙ ap (λ j. j.streams) is;
      greeted = b.greeted ∙ ap (λ j. j.greeted) is;
      reader = b.reader ∙ ap (λ j. j.reader) is;
      fault = b.fault ∙ ap (λ j. j.fault) is;
      entries = b.entries ∙ ap (λ j. j.entries) is;
    }

    capacity : KeepsCapacity k l
    capacity =
        let d : KeepsCapacity (record k { state = record k.state { known = k.state.limit } }) l = subst (λ j. KeepsCapacity j l) is c in
        record { queue = d.queue; held = d.held; table = d.table }

    written : BlockWritten (known_limit (now r h).log) (table_limit (now r h).log) fields block
    written = subst (λ z. BlockWritten z (table_limit (now r h).log) fields block) (ap (λ z. z.known) s.holds.state ∙ seen-known (now r h))
        (subst (λ z. BlockWritten k.state.known z fields block) (ap (λ z. z.limit) s.holds.state ∙ seen-limit (now r h)) w)
