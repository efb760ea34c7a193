-- A frame that is no violation comes in: how what is kept changes, and that the account stays sound.
use Rattle.std.proofs.Common.{◌≡◌, ℕ, zero, suc, ◌+◌, ◌≤◌, ◌<◌, Bool, true, false, List, [], ◌∷◌, Option, Some, None, refl, sym, ◌∙◌, ap, subst, if◌then◌else◌, ◌==◌, ◌&&◌, ◌||◌, not, length, nat_le, nat_lt, ◌%◌}
use Rattle.std.proofs.lemmas.Bool.{or_right, ltb-true, not-false, true≢false}
use Rattle.h2_frames.specs.declared.frame.Frame.{Frame}
use Rattle.h2_frames.specs.declared.frame.Frame.TheVariants as frame
use Rattle.h2_model.specs.declared.answers.Event.{Event}
use Rattle.h2_model.specs.Log.{Opened, Received, stream_of, total}
use Rattle.h2_model.specs.Streams.{opened, is_opened, greatest, live_streams, has_head}
use Rattle.h2_model.specs.Blocks.{OpenBlock, open_block, more_of, whole_block}
use Rattle.h2_model.specs.Account.{Account, is_headless}
use Rattle.h2_model.specs.Windows.{data_received, increment_owed}
use Rattle.h2_model.specs.Violations.{violation_of, is_first, is_settings, breaks_block, is_push, is_on_unopened, has_bad_setting, has_wide_setting, is_empty_update, widens_connection, exceeds_window, may_open}
use Rattle.h2_model.specs.Duties.{owed_for, events_of}
use Rattle.h2_model.specs.History.{noted, with_block, reporting_all, owing_all, with_opening, opened_by, accepted, arrived, arrived_by}
use Rattle.h2_model.specs.State.{State, seen}
use Rattle.h2_model.specs.Moves.{receiving, decoding, telling_all}
use Rattle.h2_model.specs.Valid.{Valid, is_of_opened}
use Rattle.h2_laws_log.specs.Steps.{opening_by, opening_for, arriving, owing_frames, with_frame, is_block_opened, FramesSound}
use Rattle.h2_laws_log.proofs.Entries.{nothing-more}
use Rattle.std.proofs.lemmas.List.Sums.{sum_by-cons}
use Rattle.h2_laws_log.proofs.Receives.{receives, receives-valid}
use Rattle.h2_laws_log.proofs.Reports.{Keeps, block-ends, block-valid, block-keeps, is_of_opened_block, AreOnOpened, Told, tells-all, valid-aside}
use Rattle.h2_laws_log.proofs.Owes.{AllMayBeOwed, still-may-all, OwedAll, owes-all, increments_of}
use Rattle.h2_laws_log.proofs.Opens.{Begun, opens-by, opens-valid, streams-count}
use Rattle.h2_laws_log.proofs.Brings.{events-opened, owed-may, owed-payable}

-- What no violation says

pub row : (x : Bool) (c : ℕ) (rest : Option ℕ) → (if x then Some c else rest) ≡ None → (x ≡ false) × (rest ≡ None)
row true c rest e = absurd cc
row false c rest e = (refl, e)

pub record Accepted (a : Account) (f : Frame) : Type 0 where
  pub on_opened : is_on_unopened a f ≡ false
  pub within : exceeds_window a f ≡ false

pub no-violation : (a : Account) (f : Frame) → violation_of a f ≡ None → Accepted a f
unfolding violation_of
no-violation a f e =
    let r1 = row (is_first a && not (is_settings f)) _ _ e in
    let r2 = row (breaks_block (open_block a.log) f) _ _ r1.1 in
    let r3 = row (is_push f) _ _ r2.1 in
    let r4 = row (is_on_unopened a f) _ _ r3.1 in
    let r5 = row (has_bad_setting a f) _ _ r4.1 in
    let r6 = row (has_wide_setting a f) _ _ r5.1 in
    let r7 = row (is_empty_update f) _ _ r6.1 in
    let r8 = row (widens_connection a f) _ _ r7.1 in
    let r9 = row (exceeds_window a f) _ _ r8.1 in
    record { on_opened = r4.0; within = r9.0 }

-- The opening

-- a frame that may be noted
pub record Ready (f : Frame) (a b : Account) (s : State) : Type 0 where
  pub state : seen b ≡ s
  pub valid : Valid b
  pub stream : is_of_opened b.log (stream_of f) ≡ true
  pub on_opened : is_on_unopened b f ≡ false
  pub within : exceeds_window b f ≡ false
  pub whole : is_of_opened_block b.log (whole_block b.log f) ≡ true
  pub block : is_block_opened b (open_block (Received f ∷ b.log)) ≡ true

may-open-parts : (a : Account) (id : ℕ) → may_open a id ≡ true → (a.client ≡ false) × (greatest (opened a.log) < id)
may-open-parts a id m = by a.client refl ((id % 2) == 1) (nat_lt (greatest (opened a.log)) id) refl m
  where
    by : (c : Bool) → a.client ≡ c → (o l : Bool) → nat_lt (greatest (opened a.log)) id ≡ l → (not c && o && l) ≡ true → (a.client ≡ false) × (greatest (opened a.log) < id)
    by false e true true l m = (e, ltb-true (greatest (opened a.log)) id l)
    by false e true false l m = absurd (true≢false (sym m))
    by false e false x l m = absurd (true≢false (sym m))
    by true e o x l m = absurd (true≢false (sym m))

pub one-of : (o m : Bool) → (not o && not m) ≡ false → o ≡ false → m ≡ true
one-of o true e z = refl
one-of o false e z = absurd (true≢false (sym (rw z refl) ∙ e))

opened-fits : (o m : Bool) → o ≡ true → (not o && m) ≡ false
opened-fits o m e = rw e refl

-- HEADERS
headers-ready : (id : ℕ) (part : List ℕ) (last ends : Bool) (a : Account) → Valid a → Accepted a (frame.Headers id part last ends)
    → Ready (frame.Headers id part last ends) a (with_opening (frame.Headers id part last ends) a) (opening_for (λ n. is_opened n a.log) (frame.Headers id part last ends) (seen a))
unfolding seen
headers-ready id part last ends a v x =
    let full : Bool = nat_le 256 (length (live_streams a.log)) in
    let g : Begun id a (opened_by (is_opened id a.log) full id a) (opening_by (is_opened id a.log) full id (seen a)) =
    opens-by (is_opened id a.log) full id a v refl (λ u. may-open-parts a id (one-of (is_opened id a.log) (may_open a id) x.on_opened u)) in
    let b : Account = opened_by (is_opened id a.log) full id a in
    let o : is_of_opened b.log id ≡ true = or_right (id == 0) (is_opened id b.log) g.opened in
    record {
      state = g.state ∙ ap (λ n. opening_by (is_opened id a.log) (nat_le 256 n) id (seen a)) (sym (streams-count a));
      valid = g.valid;
      stream = o;
      on_opened = opened-fits (is_opened id b.log) (not (may_open b id)) g.opened;
      within = refl;
      whole = whole b ends o;
      block = next b ends g.opened;
    }
  where
    whole : (b : Account) (x : Bool) → is_of_opened b.log id ≡ true → is_of_opened_block b.log (if x then Some (record { stream = id; bytes = part; last = last }) else None) ≡ true
    whole b true o = o
    whole b false o = refl

    next : (b : Account) (x : Bool) → is_opened id b.log ≡ true → is_block_opened b (if x then None else Some (record { stream = id; bytes = part; last = last })) ≡ true
    next b true o = refl
    next b false o = o

-- CONTINUATION
more-opened : (a : Account) (part : List ℕ) (o : Option OpenBlock) → is_block_opened a o ≡ true → is_block_opened a (more_of part o) ≡ true
more-opened a part None e = refl
more-opened a part (Some b) e = e

block-of-opened : (a : Account) (o : Option OpenBlock) → is_block_opened a o ≡ true → is_of_opened_block a.log o ≡ true
block-of-opened a None e = refl
block-of-opened a (Some b) e = or_right (b.stream == 0) (is_opened b.stream a.log) e

continuation-ready : (id : ℕ) (part : List ℕ) (ends : Bool) (a : Account) → FramesSound a → Accepted a (frame.Continuation id part ends) → Ready (frame.Continuation id part ends) a a (seen a)
continuation-ready id part ends a s x =
    let m : is_block_opened a (more_of part (open_block a.log)) ≡ true = more-opened a part (open_block a.log) s.block in
    record { state = refl; valid = s.valid; stream = refl; on_opened = refl; within = refl; whole = whole ends m; block = next ends m }
  where
    whole : (x : Bool) → is_block_opened a (more_of part (open_block a.log)) ≡ true → is_of_opened_block a.log (if x then more_of part (open_block a.log) else None) ≡ true
    whole true m = block-of-opened a (more_of part (open_block a.log)) m
    whole false m = refl

    next : (x : Bool) → is_block_opened a (more_of part (open_block a.log)) ≡ true → is_block_opened a (if x then None else more_of part (open_block a.log)) ≡ true
    next true m = refl
    next false m = m

on-opened : (o z : Bool) → not o ≡ false → (z || o) ≡ true
on-opened o z e = or_right z o (not-false o e)

pub ready : (f : Frame) (a : Account) → FramesSound a → Accepted a f → Ready f a (with_opening f a) (opening_for (λ n. is_opened n a.log) f (seen a))
ready (frame.Headers id part last ends) a s x = headers-ready id part last ends a s.valid x
ready (frame.Continuation id part ends) a s x = continuation-ready id part ends a s x
ready (frame.Data id bytes last size) a s x =
    record { state = refl; valid = s.valid; stream = on-opened (is_opened id a.log) (id == 0) x.on_opened; on_opened = x.on_opened; within = x.within; whole = refl; block = s.block }
ready (frame.Reset id code) a s x =
    record { state = refl; valid = s.valid; stream = on-opened (is_opened id a.log) (id == 0) x.on_opened; on_opened = x.on_opened; within = x.within; whole = refl; block = s.block }
ready (frame.Window zero n) a s x =
    record { state = refl; valid = s.valid; stream = refl; on_opened = x.on_opened; within = x.within; whole = refl; block = s.block }
ready (frame.Window (suc id) n) a s x =
    record { state = refl; valid = s.valid; stream = on-opened (is_opened (suc id) a.log) (suc id == 0) x.on_opened; on_opened = x.on_opened; within = x.within; whole = refl; block = s.block }
ready f a s x = record { state = refl; valid = s.valid; stream = refl; on_opened = x.on_opened; within = x.within; whole = refl; block = s.block }

-- The rest

-- a frame that was noted changes no opening, no head and no debt
pub record Noted (f : Frame) (b c : Account) : Type 0 where
  pub client : c.client ≡ b.client
  pub opened : opened c.log ≡ opened b.log
  pub heads : (id : ℕ) → has_head id c.log ≡ has_head id b.log
  pub received : (id : ℕ) → total (data_received id) c.log ≡ data_received id (Received f) + total (data_received id) b.log
  pub owed : (id : ℕ) → total (increment_owed id) c.log ≡ total (increment_owed id) b.log
  pub block : open_block c.log ≡ open_block (Received f ∷ b.log)

frame-noted : (f : Frame) (b : Account) → Noted f b (noted (Received f) b)
unfolding noted
frame-noted f b = record {
  client = refl;
  opened = refl;
  heads = λ id. refl;
  received = λ id. sum_by-cons (data_received id) (Received f) b.log;
  owed = λ id. nothing-more (increment_owed id) (Received f) b.log refl;
  block = refl;
}

noted-kept : (f : Frame) (b c d : Account) → Noted f b c → Keeps c d → Noted f b d
noted-kept f b c d n k = record {
  client = k.client ∙ n.client;
  opened = k.opened ∙ n.opened;
  heads = λ id. k.heads id ∙ n.heads id;
  received = λ id. k.received id ∙ n.received id;
  owed = λ id. k.owed id ∙ n.owed id;
  block = k.block ∙ n.block;
}

stays-noted : (f : Frame) (b c : Account) → Noted f b c → (id : ℕ) → is_headless c id ≡ is_headless b id
stays-noted f b c n id = rw (n.client, n.opened, n.heads id) refl

pub same-block : (a b : Account) (o : Option OpenBlock) → opened b.log ≡ opened a.log → is_block_opened a o ≡ true → is_block_opened b o ≡ true
same-block a b None e h = refl
same-block a b (Some x) e h = rw e h

same-of-block : (a b : Account) (o : Option OpenBlock) → opened b.log ≡ opened a.log → is_of_opened_block a.log o ≡ true → is_of_opened_block b.log o ≡ true
same-of-block a b None e h = refl
same-of-block a b (Some x) e h = rw e h

same-events : (a b : Account) (es : List Event) → opened b.log ≡ opened a.log → AreOnOpened a.log es → AreOnOpened b.log es
same-events a b [] e h = tt
same-events a b (x ∷ es) e h = (rw e h.0, same-events a b es e h.1)

-- what holds after a frame
pub record Arrived (s : State) (b : Account) : Type 0 where
  pub state : seen b ≡ s
  pub sound : FramesSound b

pub accepts : (f : Frame) (a b : Account) (s : State) → Ready f a b s → Arrived (arriving (is_headless b) f (owed_for b f) (events_of b f) (whole_block b.log f) s) (accepted f b)
unfolding accepted
accepts f a b s g =
    let whole : Option OpenBlock = whole_block b.log f in
    let a1 : Account = noted (Received f) b in
    let v1 : Valid a1 = receives-valid f b g.valid g.stream g.within in
    let n1 : Noted f b a1 = frame-noted f b in
    let a2 : Account = with_block whole a1 in
    let v2 : Valid a2 = block-valid whole a1 v1 (same-of-block b a1 whole n1.opened g.whole) in
    let n2 : Noted f b a2 = noted-kept f b a1 a2 n1 (block-keeps whole a1) in
    let t : Told (events_of b f) a2 = tells-all (events_of b f) a2 v2 (same-events b a2 (events_of b f) n2.opened (events-opened b f)) in
    let a3 : Account = reporting_all (events_of b f) a2 in
    let n3 : Noted f b a3 = noted-kept f b a2 a3 n2 t.keeps in
    let o : OwedAll (owed_for b f) (is_headless b) a3 = owes-all (owed_for b f) (is_headless b) a3 t.valid (may a3 n3) (payable a3 n3) (stays-noted f b a3 n3) in
    record {
      state = o.state ∙ ap (owing_frames (is_headless b) (owed_for b f)) (t.state ∙ ap (telling_all (events_of b f)) (block-ends whole a1 v1 ∙ ap (decoding whole) (receives f b g.valid ∙ ap (receiving f) g.state)));
      sound = record {
        valid = o.valid;
        block = rw (o.stays.block ∙ n3.block) (same-block b (owing_all (owed_for b f) a3) (open_block (Received f ∷ b.log)) (o.stays.opened ∙ n3.opened) g.block);
      };
    }
  where
    may : (c : Account) → Noted f b c → AllMayBeOwed c (owed_for b f)
    may c n = still-may-all (owed_for b f) b c (record { client = n.client; opened = n.opened; heads = n.heads }) (owed-may b f g.valid)

    payable : (c : Account) → Noted f b c → (id : ℕ) → increments_of id (owed_for b f) + total (increment_owed id) c.log ≤ total (data_received id) c.log
    payable c n id = rw (n.owed id, n.received id) (owed-payable b f g.valid g.on_opened id)

-- the law of a frame that comes in
pub arrives : (f : Frame) (a : Account) → FramesSound a → violation_of a f ≡ None → Arrived (with_frame f a) (arrived f a)
unfolding arrived
arrives f a s e =
    let b : Account = with_opening f a in
    let g : Ready f a b (opening_for (λ n. is_opened n a.log) f (seen a)) = ready f a s (no-violation a f e) in
    subst (λ (o : Option ℕ). Arrived (with_frame f a) (arrived_by o f a)) (sym e) (accepts f a b _ g)

-- the law of its opening
pub begins : (f : Frame) (a : Account) → FramesSound a → violation_of a f ≡ None → (seen (with_opening f a) ≡ opening_for (λ id. is_opened id a.log) f (seen a)) × Valid (with_opening f a)
begins f a s e = let g : Ready f a (with_opening f a) (opening_for (λ n. is_opened n a.log) f (seen a)) = ready f a s (no-violation a f e) in (g.state, g.valid)

-- the law of a stream that is opened
block-same : (n : ℕ) (a : Account) → is_block_opened a (open_block a.log) ≡ true → is_block_opened (noted (Opened n) a) (open_block (noted (Opened n) a).log) ≡ true
unfolding noted
block-same n a h = by (open_block a.log) h
  where
    by : (o : Option OpenBlock) → is_block_opened a o ≡ true → is_block_opened (noted (Opened n) a) o ≡ true
    by None e = refl
    by (Some b) e = or_right (n == b.stream) (is_opened b.stream a.log) e

pub opens-sound : (n : ℕ) (a : Account) → FramesSound a → greatest (opened a.log) < n → FramesSound (noted (Opened n) a)
opens-sound n a s l = record { valid = opens-valid n a s.valid l; block = block-same n a s.block }

-- what is no entry leaves an account sound
pub sound-aside : (greeted : Bool) (rest : List ℕ) (us : List Event) (a : Account) → FramesSound a → FramesSound (record a { greeted = greeted; rest = rest; unreported = us })
sound-aside greeted rest us a s = record { valid = valid-aside greeted rest us a s.valid; block = by (open_block a.log) s.block }
  where
    by : (o : Option OpenBlock) → is_block_opened a o ≡ true → is_block_opened (record a { greeted = greeted; rest = rest; unreported = us }) o ≡ true
    by None e = refl
    by (Some b) e = e
