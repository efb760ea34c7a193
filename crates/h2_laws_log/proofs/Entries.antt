-- What an entry of the log changes: which bytes it drops, and of which streams it says nothing.
use Rattle.std.proofs.Common.{◌≡◌, ℕ, ◌+◌, ◌≤◌, ◌<◌, Bool, true, false, List, ◌∷◌, Option, Some, None, refl, sym, ◌∙◌, ap, subst, ◌==◌, ◌&&◌, ◌||◌, not, filter, arith}
use Rattle.std.specs.List.{list_any, filter_map, cons_option}
use Rattle.std.proofs.lemmas.Bool.{eqb-true, ne_eqb, true≢false, not-true}
use Rattle.std.proofs.lemmas.List.Sums.{sum_by-cons}
use Rattle.std.proofs.lemmas.List.Elements.{All-filter, All-weaker, filter_passes}
use Rattle.h2_frames.specs.declared.frame.Frame.TheVariants as frame
use Rattle.h2_model.specs.declared.answers.Event.{Event}
use Rattle.h2_model.specs.declared.answers.Event.TheVariants as event
use Rattle.h2_model.specs.Log.{LogEntry, Log, Received, Block, Handed, Owed, Given, Reported, stream_of, event_in, events, total}
use Rattle.h2_model.specs.Streams.{opening, opened, is_opened, resets, ends_from_peer, ends_from_here, head_of, is_reset, is_live, is_ended_by_peer, is_ended_here}
use Rattle.h2_model.specs.Queue.{Waiting, is_free, has_bytes, queued}
use Rattle.h2_model.specs.Account.{Account}
use Rattle.h2_model.specs.Windows.{increment, data_given, held_data, data_received, increment_given, increment_owed}
use Rattle.h2_model.specs.History.{noted, frame_in}
use Rattle.h2_model.specs.Moves.{is_dropped, is_dropped_entry}
use Rattle.h2_model.specs.Valid.{Valid, Descends, is_lost, is_lost_entry, is_of_opened, is_update_owed, updates_in}
use Rattle.h2_laws_log.specs.Steps.{reset_by, about, without_waiting, without_held}
use Rattle.h2_laws_log.proofs.Drops.{filter-whole, queued-kept, held-kept}
use Rattle.h2_laws_log.proofs.Lives.{Same, SameSums, same-untouched}
use Rattle.h2_laws_log.proofs.Queues.{updates-kept}
use Rattle.h2_laws_log.proofs.Lists.{number-swapped, same-filter}

-- What a reset drops

abbrev hits : Option ℕ → ℕ → Bool
hits None k = false
hits (Some n) k = n == k

resets-is : (e : LogEntry) (k : ℕ) → resets k e ≡ hits (reset_by e) k
resets-is (Reported (event.Reset n code)) k = refl
resets-is (Handed (frame.Reset n code)) k = refl
resets-is (Owed (frame.Reset n code)) k = refl
resets-is _ k = refl

loses-nothing : (f b r l : Bool) → r ≡ false → (f && b && l) ≡ false → not (f && b && (r || l)) ≡ true
loses-nothing true true r l e k = rw (e, k) refl
loses-nothing true false r l e k = refl
loses-nothing false b r l e k = refl

loses-one : (f b r l x : Bool) → r ≡ x → (f && b && l) ≡ false → not (f && b && (r || l)) ≡ not (f && b && x)
loses-one true true true l x e k = rw (sym e) refl
loses-one true true false l x e k = rw (sym e, k) refl
loses-one true false r l x e k = refl
loses-one false b r l x e k = refl

keeps-nothing-held : (b r l : Bool) → r ≡ false → (b && l) ≡ false → not (b && (r || l)) ≡ true
keeps-nothing-held true r l e k = rw (e, k) refl
keeps-nothing-held false r l e k = refl

loses-one-held : (b r l x : Bool) → r ≡ x → (b && l) ≡ false → not (b && (r || l)) ≡ not (b && x)
loses-one-held true true l x e k = rw (sym e) refl
loses-one-held true false l x e k = rw (sym e, k) refl
loses-one-held false r l x e k = refl

waiting-left : (o : Option ℕ) (e : LogEntry) (a : Account) → reset_by e ≡ o → Valid a
    → filter (λ w. not (is_free w && has_bytes w.frame && is_reset (stream_of w.frame) (e ∷ a.log))) a.waiting ≡ without_waiting o a.waiting
waiting-left None e a r v = filter-whole _ a.waiting (All-weaker (λ w. is_lost a.log w ≡ false) (λ w. not (is_lost (e ∷ a.log) w) ≡ true) (λ w k.
    loses-nothing (is_free w) (has_bytes w.frame) (resets (stream_of w.frame) e) (is_reset (stream_of w.frame) a.log)
    (resets-is e (stream_of w.frame) ∙ ap (λ o. hits o (stream_of w.frame)) r) k) a.waiting v.waiting_kept)
waiting-left (Some n) e a r v = same-filter _ _ a.waiting (All-weaker (λ w. is_lost a.log w ≡ false) (λ w. not (is_lost (e ∷ a.log) w) ≡ not (is_dropped n w)) (λ w k.
    loses-one (is_free w) (has_bytes w.frame) (resets (stream_of w.frame) e) (is_reset (stream_of w.frame) a.log) (stream_of w.frame == n)
    (resets-is e (stream_of w.frame) ∙ ap (λ o. hits o (stream_of w.frame)) r ∙ number-swapped n (stream_of w.frame)) k) a.waiting v.waiting_kept)

held-left : (o : Option ℕ) (e : LogEntry) (a : Account) → reset_by e ≡ o → Valid a
    → filter (λ h. not (has_bytes (frame_in h) && is_reset (stream_of (frame_in h)) (e ∷ a.log))) a.held ≡ without_held o a.held
held-left None e a r v = filter-whole _ a.held (All-weaker (λ h. is_lost_entry a.log h ≡ false) (λ h. not (is_lost_entry (e ∷ a.log) h) ≡ true) (λ h k.
    keeps-nothing-held (has_bytes (frame_in h)) (resets (stream_of (frame_in h)) e) (is_reset (stream_of (frame_in h)) a.log)
    (resets-is e (stream_of (frame_in h)) ∙ ap (λ o. hits o (stream_of (frame_in h))) r) k) a.held v.held_kept)
held-left (Some n) e a r v = same-filter _ _ a.held (All-weaker (λ h. is_lost_entry a.log h ≡ false) (λ h. not (is_lost_entry (e ∷ a.log) h) ≡ not (is_dropped_entry n h)) (λ h k.
    loses-one-held (has_bytes (frame_in h)) (resets (stream_of (frame_in h)) e) (is_reset (stream_of (frame_in h)) a.log) (stream_of (frame_in h) == n)
    (resets-is e (stream_of (frame_in h)) ∙ ap (λ o. hits o (stream_of (frame_in h))) r ∙ number-swapped n (stream_of (frame_in h))) k) a.held v.held_kept)

-- the account with one more entry, and with these frames
abbrev pub with_entry : LogEntry → Account → List Waiting → List LogEntry → Account
with_entry e a waiting held = record a { log = e ∷ a.log; waiting = waiting; held = held }

with-both : {w w' : List Waiting} {h h' : List LogEntry} (e : LogEntry) (a : Account) → w ≡ w' → h ≡ h' → with_entry e a w h ≡ with_entry e a w' h'
with-both {w} {w'} {h} {h'} e a p q = ap (λ x. with_entry e a x h) p ∙ ap (λ x. with_entry e a w' x) q

-- an entry drops the bytes of the stream that it resets, and nothing else
pub noted-is : (e : LogEntry) (a : Account) → Valid a → noted e a ≡ with_entry e a (without_waiting (reset_by e) a.waiting) (without_held (reset_by e) a.held)
unfolding noted
noted-is e a v = with-both e a (waiting-left (reset_by e) e a refl v) (held-left (reset_by e) e a refl v)

-- Of which streams an entry says nothing

pub record Apart (id : ℕ) (e : LogEntry) : Type 0 where
  pub reset : resets id e ≡ false
  pub peer_ended : ends_from_peer id e ≡ false
  pub here_ended : ends_from_here id e ≡ false
  pub heads : (es : List Event) → filter_map (head_of id) (cons_option (event_in e) es) ≡ filter_map (head_of id) es
  pub increments : increment id e ≡ 0
  pub sent : data_given id e ≡ 0
  pub received : data_received id e ≡ 0
  pub given : increment_given id e ≡ 0
  pub owed : increment_owed id e ≡ 0

reset-apart : (id : ℕ) (e : LogEntry) → (about e == id) ≡ false → resets id e ≡ false
reset-apart id (Reported (event.Reset n code)) s = s
reset-apart id (Handed (frame.Reset n code)) s = s
reset-apart id (Owed (frame.Reset n code)) s = s
reset-apart id _ s = refl

peer-apart : (id : ℕ) (e : LogEntry) → (about e == id) ≡ false → ends_from_peer id e ≡ false
peer-apart id (Received (frame.Data n bytes last size)) s = rw s refl
peer-apart id (Block n bytes last) s = rw s refl
peer-apart id _ s = refl

here-apart : (id : ℕ) (e : LogEntry) → (about e == id) ≡ false → ends_from_here id e ≡ false
here-apart id (Handed (frame.Data n bytes last size)) s = rw s refl
here-apart id (Handed (frame.Headers n block last ends)) s = rw s refl
here-apart id _ s = refl

heads-apart : (id : ℕ) (e : LogEntry) → (about e == id) ≡ false → (es : List Event) → filter_map (head_of id) (cons_option (event_in e) es) ≡ filter_map (head_of id) es
heads-apart id (Reported (event.Head n fields last)) s es = rw s refl
heads-apart id (Reported _) s es = refl
heads-apart id _ s es = refl

increment-apart : (id : ℕ) (e : LogEntry) → (about e == id) ≡ false → increment id e ≡ 0
increment-apart id (Received (frame.Window n k)) s = rw s refl
increment-apart id _ s = refl

sent-apart : (id : ℕ) (e : LogEntry) → (id == 0) ≡ false → (about e == id) ≡ false → data_given id e ≡ 0
sent-apart id (Given (frame.Data n bytes last size)) z s = rw (z, s) refl
sent-apart id _ z s = refl

received-apart : (id : ℕ) (e : LogEntry) → (id == 0) ≡ false → (about e == id) ≡ false → data_received id e ≡ 0
received-apart id (Received (frame.Data n bytes last size)) z s = rw (z, s) refl
received-apart id _ z s = refl

given-apart : (id : ℕ) (e : LogEntry) → (about e == id) ≡ false → increment_given id e ≡ 0
given-apart id (Given (frame.Window n k)) s = rw s refl
given-apart id _ s = refl

owed-apart : (id : ℕ) (e : LogEntry) → (about e == id) ≡ false → increment_owed id e ≡ 0
owed-apart id (Owed (frame.Window n k)) s = rw s refl
owed-apart id _ s = refl

pub apart : (id : ℕ) (e : LogEntry) → (id == 0) ≡ false → (about e == id) ≡ false → Apart id e
apart id e z s = record {
  reset = reset-apart id e s;
  peer_ended = peer-apart id e s;
  here_ended = here-apart id e s;
  heads = heads-apart id e s;
  increments = increment-apart id e s;
  sent = sent-apart id e z s;
  received = received-apart id e z s;
  given = given-apart id e s;
  owed = owed-apart id e s;
}

pub same-opened : (e : LogEntry) (log : Log) → opening e ≡ None → opened (e ∷ log) ≡ opened log
same-opened e log o = rw o refl

pub nothing-more : (f : LogEntry → ℕ) (e : LogEntry) (log : Log) → f e ≡ 0 → total f (e ∷ log) ≡ total f log
nothing-more f e log z = rw (sum_by-cons f e log) (omega arith)

pub same-sent : (n n' q q' h h' l : ℕ) → n' ≡ n → q' ≡ q → h' ≡ h → n' + q' + h' + l ≡ n + q + h + l
same-sent n n' q q' h h' l e eq eh = omega arith

-- an entry adds nothing to the sums of a number
pub record Silent (id : ℕ) (e : LogEntry) : Type 0 where
  pub increments : increment id e ≡ 0
  pub sent : data_given id e ≡ 0
  pub received : data_received id e ≡ 0
  pub given : increment_given id e ≡ 0
  pub owed : increment_owed id e ≡ 0

pub same-sums : (id : ℕ) (e : LogEntry) (a : Account) (w : List Waiting) (h : List LogEntry) → Silent id e
    → queued id w ≡ queued id a.waiting → held_data id h ≡ held_data id a.held → SameSums id a (with_entry e a w h)
same-sums id e a w h p qw qh = record {
  increments = nothing-more (increment id) e a.log p.increments;
  sent = same-sent (total (data_given id) a.log) (total (data_given id) (e ∷ a.log)) (queued id a.waiting) (queued id w) (held_data id a.held) (held_data id h) (held_data id a.lost)
      (nothing-more (data_given id) e a.log p.sent) qw qh;
  received = nothing-more (data_received id) e a.log p.received;
  given = nothing-more (increment_given id) e a.log p.given;
  owed = nothing-more (increment_owed id) e a.log p.owed;
}

pub same-entry : (id : ℕ) (e : LogEntry) (a : Account) (w : List Waiting) (h : List LogEntry) → opening e ≡ None → Apart id e
    → queued id w ≡ queued id a.waiting → held_data id h ≡ held_data id a.held → Same id a (with_entry e a w h)
same-entry id e a w h o p qw qh = record {
  sums = same-sums id e a w h (record { increments = p.increments; sent = p.sent; received = p.received; given = p.given; owed = p.owed }) qw qh;
  marks = record {
    opened = ap (λ ns. list_any (λ n. n == id) ns) (same-opened e a.log o);
    reset = rw p.reset refl;
    peer_ended = rw p.peer_ended refl;
    here_ended = rw p.here_ended refl;
    heads = p.heads (events a.log);
  };
}

reset-about : (e : LogEntry) (n : ℕ) → reset_by e ≡ Some n → about e ≡ n
reset-about (Reported (event.Reset m code)) n r = cc
reset-about (Handed (frame.Reset m code)) n r = cc
reset-about (Owed (frame.Reset m code)) n r = cc
reset-about _ n r = cc

left-queued : (id : ℕ) (o : Option ℕ) (q : List Waiting) → (id == 0) ≡ false → ((n : ℕ) → o ≡ Some n → (n == id) ≡ false) → queued id (without_waiting o q) ≡ queued id q
left-queued id None q z s = refl
left-queued id (Some n) q z s = queued-kept id n q z (s n refl)

left-held : (id : ℕ) (o : Option ℕ) (h : List LogEntry) → (id == 0) ≡ false → ((n : ℕ) → o ≡ Some n → (n == id) ≡ false) → held_data id (without_held o h) ≡ held_data id h
left-held id None h z s = refl
left-held id (Some n) h z s = held-kept id n h z (s n refl)

-- an entry leaves the streams as they are of which it doesn't speak
pub same-left : (id : ℕ) (e : LogEntry) (a : Account) → opening e ≡ None → (id == 0) ≡ false → (about e == id) ≡ false
    → Same id a (with_entry e a (without_waiting (reset_by e) a.waiting) (without_held (reset_by e) a.held))
same-left id e a o z s =
    let other : (n : ℕ) → reset_by e ≡ Some n → (n == id) ≡ false = λ n r. rw (sym (reset-about e n r)) s in
    same-entry id e a _ _ o (apart id e z s) (left-queued id (reset_by e) a.waiting z other) (left-held id (reset_by e) a.held z other)

pub same-noted : (id : ℕ) (e : LogEntry) (a : Account) → Valid a → opening e ≡ None → (id == 0) ≡ false → (about e == id) ≡ false → Same id a (noted e a)
same-noted id e a v o z s = subst (λ b. Same id a b) (sym (noted-is e a v)) (same-left id e a o z s)

-- What stays valid

-- an entry keeps to the windows
pub record Fits (e : LogEntry) (a : Account) : Type 0 where
  pub received : total (data_received 0) (e ∷ a.log) ≤ 65535 + total (increment_given 0) (e ∷ a.log)
  pub received_on : (id : ℕ) → is_live id a.log ≡ true → total (data_received id) (e ∷ a.log) ≤ 65535 + total (increment_given id) (e ∷ a.log)
  pub returned : (id : ℕ) → total (increment_owed id) (e ∷ a.log) ≤ total (data_received id) (e ∷ a.log)

more-given : (id : ℕ) (e : LogEntry) (log : Log) → data_received id e ≡ 0 → total (data_received id) log ≤ 65535 + total (increment_given id) log
    → total (data_received id) (e ∷ log) ≤ 65535 + total (increment_given id) (e ∷ log)
more-given id e log z l = rw (sum_by-cons (data_received id) e log, sum_by-cons (increment_given id) e log) (omega arith)

no-more-owed : (id : ℕ) (e : LogEntry) (log : Log) → increment_owed id e ≡ 0 → total (increment_owed id) log ≤ total (data_received id) log
    → total (increment_owed id) (e ∷ log) ≤ total (data_received id) (e ∷ log)
no-more-owed id e log z l = rw (sum_by-cons (increment_owed id) e log, sum_by-cons (data_received id) e log) (omega arith)

pub fits : (e : LogEntry) (a : Account) → Valid a → ((id : ℕ) → data_received id e ≡ 0) → ((id : ℕ) → increment_owed id e ≡ 0) → Fits e a
fits e a v r o = record {
  received = more-given 0 e a.log (r 0) v.received;
  received_on = λ id l. more-given id e a.log (r id) (v.received_on id l);
  returned = λ id. no-more-owed id e a.log (o id) (v.returned id);
}

was-live-by : (o x r y p z h : Bool) → (o && not (x || r) && not ((y || p) && (z || h))) ≡ true → (o && not r && not (p && h)) ≡ true
was-live-by true false false true true true true e = e
was-live-by true false false y false z h e = refl
was-live-by true false false true true true false e = refl
was-live-by true false false true true false true e = e
was-live-by true false false true true false false e = refl
was-live-by true false false false true true true e = e
was-live-by true false false false true true false e = refl
was-live-by true false false false true false true e = e
was-live-by true false false false true false false e = refl
was-live-by true false true y p z h e = e
was-live-by true true r y p z h e = absurd (true≢false (sym e))
was-live-by false x r y p z h e = e

pub was-live : (id : ℕ) (e : LogEntry) (log : Log) → opening e ≡ None → is_live id (e ∷ log) ≡ true → is_live id log ≡ true
was-live id e log o l = was-live-by (is_opened id log) (resets id e) (is_reset id log) (ends_from_peer id e) (is_ended_by_peer id log) (ends_from_here id e) (is_ended_here id log)
    (subst (λ (ns : List ℕ). (list_any (λ n. n == id) ns && not (is_reset id (e ∷ log)) && not (is_ended_by_peer id (e ∷ log) && is_ended_here id (e ∷ log))) ≡ true) (same-opened e log o) l)

pub not-about : (log : Log) (n id : ℕ) → is_of_opened log n ≡ true → 0 < id → is_opened id log ≡ false → (n == id) ≡ false
not-about log n id o p u = by (n == id) refl
  where
    by : (x : Bool) → (n == id) ≡ x → x ≡ false
    by false e = refl
    by true e =
        let o' : is_of_opened log id ≡ true = subst (λ (m : ℕ). is_of_opened log m ≡ true) (eqb-true n id e) o in
        let z : (id == 0) ≡ false = ne_eqb id 0 (λ z. omega (arith, z, p)) in
        absurd (true≢false (sym o' ∙ rw z u))

pub of-opened-same : (e : LogEntry) (log : Log) (id : ℕ) → opening e ≡ None → is_of_opened log id ≡ true → is_of_opened (e ∷ log) id ≡ true
of-opened-same e log id o h = ap (λ ns. (id == 0) || list_any (λ n. n == id) ns) (same-opened e log o) ∙ h

updates-noted : (id : ℕ) (e : LogEntry) (a : Account) → increment_given id e ≡ 0
    → total (increment_given id) a.log + updates_in id a.waiting ≤ total (increment_owed id) a.log
    → total (increment_given id) (e ∷ a.log) + updates_in id (noted e a).waiting ≤ total (increment_owed id) (e ∷ a.log)
unfolding noted
updates-noted id e a g l =
    let less : updates_in id (filter (λ w. not (is_lost (e ∷ a.log) w)) a.waiting) ≤ updates_in id a.waiting = updates-kept id (λ w. not (is_lost (e ∷ a.log) w)) a.waiting in
    rw (sum_by-cons (increment_given id) e a.log, sum_by-cons (increment_owed id) e a.log) (omega arith)

-- an entry on the connection or on an opened stream, which keeps to the windows, leaves the account valid
pub valid-noted : (e : LogEntry) (a : Account) → Valid a → opening e ≡ None → is_of_opened a.log (about e) ≡ true
    → ((id : ℕ) → increment_given id e ≡ 0) → Fits e a → Valid (noted e a)
unfolding noted
valid-noted e a v o s g f = record {
  descends = subst (λ ns. Descends ns) (sym (same-opened e a.log o)) v.descends;
  untouched = λ id p u.
      let u' : is_opened id a.log ≡ false = ap (λ ns. list_any (λ n. n == id) ns) (sym (same-opened e a.log o)) ∙ u in
      same-untouched id a (noted e a) (same-noted id e a v o (ne_eqb id 0 (λ z. omega (arith, z, p))) (not-about a.log (about e) id s p u')) (v.untouched id p u');
  waiting = All-filter _ (λ w. is_of_opened (e ∷ a.log) (stream_of w.frame) ≡ true) a.waiting
      (All-weaker (λ w. is_of_opened a.log (stream_of w.frame) ≡ true) (λ w. is_of_opened (e ∷ a.log) (stream_of w.frame) ≡ true) (λ w. of-opened-same e a.log (stream_of w.frame) o) a.waiting v.waiting);
  held = All-filter _ (λ h. is_of_opened (e ∷ a.log) (stream_of (frame_in h)) ≡ true) a.held
      (All-weaker (λ h. is_of_opened a.log (stream_of (frame_in h)) ≡ true) (λ h. is_of_opened (e ∷ a.log) (stream_of (frame_in h)) ≡ true) (λ h. of-opened-same e a.log (stream_of (frame_in h)) o) a.held v.held);
  waiting_kept = All-weaker (λ w. not (is_lost (e ∷ a.log) w) ≡ true) (λ w. is_lost (e ∷ a.log) w ≡ false) (λ w. not-true (is_lost (e ∷ a.log) w)) _
      (filter_passes (λ w. not (is_lost (e ∷ a.log) w)) a.waiting);
  held_kept = All-weaker (λ h. not (is_lost_entry (e ∷ a.log) h) ≡ true) (λ h. is_lost_entry (e ∷ a.log) h ≡ false) (λ h. not-true (is_lost_entry (e ∷ a.log) h)) _
      (filter_passes (λ h. not (is_lost_entry (e ∷ a.log) h)) a.held);
  held_owed = All-filter _ (λ h. is_update_owed h ≡ false) a.held v.held_owed;
  received = f.received;
  received_on = λ id l. f.received_on id (was-live id e a.log o l);
  updates = λ id. updates-noted id e a (g id) (v.updates id);
  returned = f.returned;
}
