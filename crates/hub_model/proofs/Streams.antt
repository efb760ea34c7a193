-- In every history of a hub each stream is of one exchange, and carries what is due of it.
use Rattle.std.proofs.Common.{sym, ◌∙◌, ap, subst, arith, inl, inr, ◌⊎◌, append_assoc, append-nil, length-append}
use Rattle.std.specs.Prelude.{ℕ, suc, zero, ◌+◌, ◌≡◌, ◌≤◌, ◌<◌, ◌&&◌, ◌||◌, ◌==◌, Bool, true, false, not, List, [], ◌∷◌, ◌++◌, length, flat_map, Option, Some, None, is_none, is_some, find, reverse, refl, if◌then◌else◌}
use Rattle.std.specs.List.{cons_option, list_any}
use Rattle.std.proofs.lemmas.Bool.{and_parts, eqb-true, ne_eqb, not-true}
use Rattle.std.proofs.lemmas.Grind.{flat_map-append}
use Rattle.std.proofs.lemmas.List.Elements.{filter_map-append}
use Rattle.ext_msgs.specs.declared.ask.Ask.{Ask}
use Rattle.h2_frames.specs.declared.frame.Frame.{Frame}
use Rattle.h2_frames.specs.declared.frame.Frame.TheVariants as frame
use Rattle.h2_model.specs.declared.answers.Event.{Event}
use Rattle.h2_model.specs.Account.{Account, is_headless}
use Rattle.h2_model.specs.Calls.{is_open_here, next_head}
use Rattle.h2_model.specs.History.{noted, Call, Feed, Open, Finish, Reset, Take, called, is_violated, next_number, with_byte, with_bytes}
use Rattle.h2_model.specs.Settings.{known_limit, table_limit}
use Rattle.h2_model.specs.Log.{LogEntry, Log, Handed, stream_of}
use Rattle.h2_model.specs.Streams.{ends_from_here, has_head, is_block_of, is_ended_by_peer, is_ended_here, is_live, is_opened, is_reset, resets}
use Rattle.h2_model.specs.Streams as stream
use Rattle.h2_model.specs.History as session
use Rattle.h2_model.proofs.Grows.{grown}
use Rattle.http_model.specs.Bytes.{IsPrefix}
use Rattle.filter_model.specs.View.{ViewEntry}
use Rattle.filter_model.specs.Step.{after, step}
use Rattle.filter_model.specs.declared.calls.Side.{Side}
use Rattle.filter_model.specs.declared.calls.Side.TheVariants.{Client, Upstream}
use Rattle.filter_model.proofs.Kept.{step-made}
use Rattle.hub_model.specs.HubCalls.{HubCall, HubConfig, Handing, HandsHead, HandsData}
use Rattle.hub_model.specs.World.{EndedStream, World, Line, no_line, line, put, account_of, is_over, start}
use Rattle.hub_model.specs.Meeting.{cancel, end_due, entered, is_before, opening, placed}
use Rattle.hub_model.specs.Hearing.{told, with_heard}
use Rattle.hub_model.specs.Sending.{asks_of, framed_ask, frames_handed, joined_data, session_call}
use Rattle.hub_model.specs.Happens.{close, closed_for, new_line, opened, world}
use Rattle.hub_model.specs.Allowed.{IsHubHistory, MayHand}
use Rattle.hub_model.specs.HubRight.{AreEnds, EndDue, IsOneHead, StreamRight, StreamsRight, blocks_on, end_on, ends_on}
use Rattle.hub_model.proofs.Places.{append_or_same, or_false, same_true, set_at}
use Rattle.hub_model.proofs.Handed.{byte-same, open-same, finish-frames, hands-frames, reset-frames, take-same}
use Rattle.hub_model.proofs.Along.{IsDue, Keeps, along}

-- Prefixes

onward : {A : Type 0} (xs ys zs : List A) → IsPrefix xs ys → IsPrefix ys zs → IsPrefix xs zs
onward xs ys zs p q = record { rest = p.rest ++ q.rest; whole = sym (append_assoc xs p.rest q.rest) ∙ ap (λ l. l ++ q.rest) p.whole ∙ q.whole }

spelled : (xs ys : List Ask) → IsPrefix xs ys → IsPrefix (flat_map framed_ask xs) (flat_map framed_ask ys)
spelled xs ys p = record { rest = flat_map framed_ask p.rest; whole = sym (flat_map-append framed_ask xs p.rest) ∙ ap (flat_map framed_ask) p.whole }

-- A stream's line meets one more entry

due-on : (c : HubConfig) (l : Line) (e : ViewEntry) (finish : Bool) → EndDue c l finish → EndDue c (record l { view = e ∷ l.view }) finish
due-on c l e finish d = record { later = e ∷ d.later; entry = d.entry; earlier = d.earlier; view = ap (λ v. e ∷ v) d.view; due = d.due }

ends-on : (c : HubConfig) (l : Line) (e : ViewEntry) (es : List (Option ℕ)) → AreEnds c l es → AreEnds c (record l { view = e ∷ l.view }) es
ends-on c l e [] h = h
ends-on c l e (None ∷ []) h = due-on c l e true h
ends-on c l e (Some code ∷ []) h = (h.0, due-on c l e false h.1)
ends-on c l e (Some code ∷ None ∷ []) h = (h.0, due-on c l e true h.1)
ends-on c l e (None ∷ x ∷ xs) h = absurd h
ends-on c l e (Some code ∷ Some x ∷ xs) h = absurd h
ends-on c l e (Some code ∷ None ∷ x ∷ xs) h = absurd h

right-on : (c : HubConfig) (l : Line) (e : ViewEntry) (id : ℕ) (frames : List Frame) → StreamRight c l id frames
    → StreamRight c (record l { view = e ∷ l.view }) id frames
unfolding after
right-on c l e id frames r = record {
  head = r.head;
  asks = onward (joined_data id frames) (asks_of c l) (asks_of c (record l { view = e ∷ l.view })) r.asks
      (spelled (account_of c l).made (step c.filter e (account_of c l)).made (step-made c.filter e (account_of c l)));
  ends = ends-on c l e (ends_on id frames) r.ends;
}

-- One more frame on another stream

blocks-apart : (id : ℕ) (f : Frame) (frames : List Frame) → (stream_of f == id) ≡ false → blocks_on id (f ∷ frames) ≡ blocks_on id frames
blocks-apart id (frame.Headers n block last ends) frames o = ap (λ (b : Bool). cons_option (if b then Some block else None) (blocks_on id frames)) o
blocks-apart id f frames o = refl

data-apart : (id : ℕ) (f : Frame) (frames : List Frame) → (stream_of f == id) ≡ false → joined_data id (f ∷ frames) ≡ joined_data id frames
data-apart id (frame.Data n bytes last size) frames o =
    ap (λ (b : Bool). joined_data id frames ++ (if b then bytes else [])) o ∙ append-nil (joined_data id frames)
data-apart id f frames o = append-nil (joined_data id frames)

ends-apart : (id : ℕ) (f : Frame) (frames : List Frame) → (stream_of f == id) ≡ false → ends_on id (f ∷ frames) ≡ ends_on id frames
ends-apart id (frame.Data n bytes true size) frames o = ap (λ (b : Bool). cons_option (if b then Some None else None) (ends_on id frames)) o
ends-apart id (frame.Reset n code) frames o = ap (λ (b : Bool). cons_option (if b then Some (Some code) else None) (ends_on id frames)) o
ends-apart id f frames o = refl

right-apart : (c : HubConfig) (l : Line) (id : ℕ) (f : Frame) (frames : List Frame) → (stream_of f == id) ≡ false → StreamRight c l id frames
    → StreamRight c l id (f ∷ frames)
right-apart c l id f frames o r = record {
  head = subst (IsOneHead c) (sym (blocks-apart id f frames o)) r.head;
  asks = subst (λ d. IsPrefix d (asks_of c l)) (sym (data-apart id f frames o)) r.asks;
  ends = subst (AreEnds c l) (sym (ends-apart id f frames o)) r.ends;
}

-- No frame on a stream

abbrev pub has_frame : ℕ → List Frame → Bool
has_frame id frames = list_any (λ (f : Frame). stream_of f == id) frames

right-none : (c : HubConfig) (l : Line) (id : ℕ) (frames : List Frame) → has_frame id frames ≡ false → StreamRight c l id frames
right-none c l id [] h = record { head = tt; asks = record { rest = asks_of c l; whole = refl }; ends = tt }
right-none c l id (f ∷ frames) h =
    let both = or_false (stream_of f == id) (has_frame id frames) h in
    right-apart c l id f frames both.0 (right-none c l id frames both.1)

-- What the log says of the frames that were handed over

no_reset : (id : ℕ) (log : Log) → is_reset id log ≡ false → list_any is_some (ends_on id (frames_handed log)) ≡ false
no_reset id [] h = refl
no_reset id (e ∷ log) h = let p = or_false (resets id e) (is_reset id log) h in by e p.0 (no_reset id log p.1)
  where
    by : (e : LogEntry) → resets id e ≡ false → list_any is_some (ends_on id (frames_handed log)) ≡ false
        → list_any is_some (ends_on id (frames_handed (e ∷ log))) ≡ false
    by (Handed (frame.Reset n code)) p rest =
        ap (λ (b : Bool). list_any is_some (cons_option (if b then Some (Some code) else None) (ends_on id (frames_handed log)))) p ∙ rest
    by (Handed (frame.Data n bytes true size)) p rest = at_end (n == id)
      where
        at_end : (b : Bool) → list_any is_some (cons_option (if b then Some None else None) (ends_on id (frames_handed log))) ≡ false
        at_end true = rest
        at_end false = rest
    by (Handed (frame.Data n bytes false size)) p rest = rest
    by (Handed f) p rest = rest
    by e p rest = rest

no_end : (id : ℕ) (log : Log) → is_ended_here id log ≡ false → list_any is_none (ends_on id (frames_handed log)) ≡ false
no_end id [] h = refl
no_end id (e ∷ log) h = let p = or_false (ends_from_here id e) (is_ended_here id log) h in by e p.0 (no_end id log p.1)
  where
    by : (e : LogEntry) → ends_from_here id e ≡ false → list_any is_none (ends_on id (frames_handed log)) ≡ false
        → list_any is_none (ends_on id (frames_handed (e ∷ log))) ≡ false
    by (Handed (frame.Reset n code)) p rest = at_reset (n == id)
      where
        at_reset : (b : Bool) → list_any is_none (cons_option (if b then Some (Some code) else None) (ends_on id (frames_handed log))) ≡ false
        at_reset true = rest
        at_reset false = rest
    by (Handed (frame.Data n bytes true size)) p rest = at_end (n == id) p
      where
        at_end : (b : Bool) → (b && true) ≡ false → list_any is_none (cons_option (if b then Some None else None) (ends_on id (frames_handed log))) ≡ false
        at_end true q = absurd cc
        at_end false q = rest
    by (Handed (frame.Data n bytes false size)) p rest = rest
    by (Handed f) p rest = rest
    by e p rest = rest

no_block : (id : ℕ) (log : Log) → has_head id log ≡ false → blocks_on id (frames_handed log) ≡ []
no_block id [] h = refl
no_block id (e ∷ log) h = let p = or_false (is_block_of id e) (has_head id log) h in by e p.0 (no_block id log p.1)
  where
    by : (e : LogEntry) → is_block_of id e ≡ false → blocks_on id (frames_handed log) ≡ [] → blocks_on id (frames_handed (e ∷ log)) ≡ []
    by (Handed (frame.Headers n block last ends)) p rest =
        ap (λ (b : Bool). cons_option (if b then Some block else None) (blocks_on id (frames_handed log))) p ∙ rest
    by (Handed f) p rest = rest
    by e p rest = rest

live-unreset : (id : ℕ) (log : Log) → is_live id log ≡ true → is_reset id log ≡ false
live-unreset id log l =
    let front = and_parts (is_opened id log && not (is_reset id log)) (not (is_ended_by_peer id log && is_ended_here id log)) l in
    not-true (is_reset id log) (and_parts (is_opened id log) (not (is_reset id log)) front.0).1

no_ends : (es : List (Option ℕ)) → list_any is_some es ≡ false → list_any is_none es ≡ false → es ≡ []
no_ends [] s n = refl
no_ends (None ∷ es) s n = absurd cc
no_ends (Some x ∷ es) s n = absurd cc

-- of a stream that is open here neither an end nor a reset was handed over
open-ends : (id : ℕ) (a : Account) → is_open_here id a ≡ true → ends_on id (frames_handed a.log) ≡ []
open-ends id a h =
    let both = and_parts (is_live id a.log) (not (is_ended_here id a.log)) h in
    no_ends (ends_on id (frames_handed a.log)) (no_reset id a.log (live-unreset id a.log both.0)) (no_end id a.log (not-true (is_ended_here id a.log) both.1))

-- The hub's streams

pub record Streams (c : HubConfig) (w : World) : Type 0 where
  pub apart : (j k id : ℕ) → (line j w).stream ≡ Some id → (line k w).stream ≡ Some id → j ≡ k
  pub right : (k id : ℕ) → (line k w).stream ≡ Some id → StreamRight c (line k w) id (frames_handed w.session.log)
  pub there : (k id : ℕ) → (line k w).stream ≡ Some id → 0 < id
  pub below : (k id : ℕ) → (line k w).stream ≡ Some id → id < next_number w.session
  pub fresh : (id : ℕ) → next_number w.session ≤ id → has_frame id (frames_handed w.session.log) ≡ false
  pub finished : (id : ℕ) → list_any (λ (x : EndedStream). x.stream == id) w.ended ≡ true → list_any is_none (ends_on id (frames_handed w.session.log)) ≡ true

-- A line changes, and keeps its stream

put-stream : (j k : ℕ) (l : Line) (w : World) → l.stream ≡ (line k w).stream → (line j (put k l w)).stream ≡ (line j w).stream
put-stream j k l w s = elim (set_at w.lines k j l no_line) [
  | inl e ↦ ap (λ (x : Line). x.stream) e.1 ∙ s ∙ ap (λ n. (line n w).stream) (sym e.0)
  | inr e ↦ ap (λ (x : Line). x.stream) e
]

put-right : (c : HubConfig) (k : ℕ) (l : Line) (w : World) → l.stream ≡ (line k w).stream
    → ((id : ℕ) → StreamRight c (line k w) id (frames_handed w.session.log) → StreamRight c l id (frames_handed w.session.log))
    → Streams c w → Streams c (put k l w)
put-right c k l w same f s = record {
  apart = λ j m id a b. s.apart j m id (sym (put-stream j k l w same) ∙ a) (sym (put-stream m k l w same) ∙ b);
  right = λ j id o. elim (set_at w.lines k j l no_line) [
    | inl e ↦ subst (λ (x : Line). StreamRight c x id (frames_handed w.session.log)) (sym e.1)
        (f id (s.right k id (sym same ∙ (ap (λ (x : Line). x.stream) (sym e.1) ∙ o))))
    | inr e ↦ subst (λ (x : Line). StreamRight c x id (frames_handed w.session.log)) (sym e) (s.right j id (ap (λ (x : Line). x.stream) (sym e) ∙ o))
  ];
  there = λ j id o. s.there j id (sym (put-stream j k l w same) ∙ o);
  below = λ j id o. s.below j id (sym (put-stream j k l w same) ∙ o);
  fresh = s.fresh;
  finished = s.finished;
}

view-right : (c : HubConfig) (l m : Line) (id : ℕ) (frames : List Frame) → m.view ≡ l.view → StreamRight c l id frames → StreamRight c m id frames
view-right c l m id frames e r = record {
  head = r.head;
  asks = subst (λ v. IsPrefix (joined_data id frames) (flat_map framed_ask (after c.filter v).made)) (sym e) r.asks;
  ends = by (ends_on id frames) r.ends;
}
  where
    due : (finish : Bool) → EndDue c l finish → EndDue c m finish
    due finish d = record { later = d.later; entry = d.entry; earlier = d.earlier; view = e ∙ d.view; due = d.due }

    by : (es : List (Option ℕ)) → AreEnds c l es → AreEnds c m es
    by [] h = h
    by (None ∷ []) h = due true h
    by (Some code ∷ []) h = (h.0, due false h.1)
    by (Some code ∷ None ∷ []) h = (h.0, due true h.1)
    by (None ∷ x ∷ xs) h = absurd h
    by (Some code ∷ Some x ∷ xs) h = absurd h
    by (Some code ∷ None ∷ x ∷ xs) h = absurd h

closed-view : (side : Side) (l : Line) → (closed_for side l).view ≡ l.view
closed-view Client l = refl
closed-view Upstream l = refl

closed-stream : (side : Side) (l : Line) → (closed_for side l).stream ≡ l.stream
closed-stream Client l = refl
closed-stream Upstream l = refl

-- The session goes on

numbers-grow : (a b : Account) (more : Log) → b.log ≡ more ++ a.log → next_number a ≤ next_number b
numbers-grow a b more e =
    let n : length (stream.opened b.log) ≡ length (stream.opened more) + length (stream.opened a.log) =
    ap (λ log. length (stream.opened log)) e ∙ ap length (filter_map-append stream.opening more a.log) ∙ length-append (stream.opened more) (stream.opened a.log) in
    omega arith

call-grows : (x : Call) (a : Account) → next_number a ≤ next_number (called x a)
call-grows x a = let g = grown x a in numbers-grow a (called x a) g.0 g.1

byte-grows : (b : ℕ) (a : Account) → next_number a ≤ next_number (told (with_byte b a))
unfolding called
byte-grows b a = call-grows (Feed (b ∷ [])) a

-- nothing more is handed over
same-frames : (c : HubConfig) (a : Account) (w : World) → frames_handed a.log ≡ frames_handed w.session.log → next_number w.session ≤ next_number a
    → Streams c w → Streams c (record w { session = a })
same-frames c a w e n s = record {
  apart = s.apart;
  right = λ k id o. subst (StreamRight c (line k w) id) (sym e) (s.right k id o);
  there = s.there;
  below = λ k id o. let b = s.below k id o in omega arith;
  fresh = λ id l. ap (has_frame id) e ∙ s.fresh id (omega arith);
  finished = λ id h. ap (λ fs. list_any is_none (ends_on id fs)) e ∙ s.finished id h;
}

-- one frame more is handed over
record Adds (c : HubConfig) (f : Frame) (a : Account) (ended : List EndedStream) (w : World) : Type 0 where
  frames : frames_handed a.log ≡ f ∷ frames_handed w.session.log
  numbers : next_number w.session ≤ next_number a
  known : stream_of f < next_number w.session
  right : (k : ℕ) → (line k w).stream ≡ Some (stream_of f) → StreamRight c (line k w) (stream_of f) (f ∷ frames_handed w.session.log)
  finished : (id : ℕ) → list_any (λ (x : EndedStream). x.stream == id) ended ≡ true → list_any is_none (ends_on id (f ∷ frames_handed w.session.log)) ≡ true

other_number : (n id m : ℕ) → n < m → m ≤ id → (n == id) ≡ false
other_number n id m l g = ne_eqb n id (λ e. beyond (subst (λ x. x < m) e l))
  where
    beyond : id < m → ⊥
    beyond h = omega arith

adds : (c : HubConfig) (f : Frame) (a : Account) (ended : List EndedStream) (w : World) → Adds c f a ended w → Streams c w
    → Streams c (record w { session = a; ended = ended })
adds c f a ended w d s = record {
  apart = s.apart;
  right = λ k id o. subst (StreamRight c (line k w) id) (sym d.frames) (by k id o (stream_of f == id) refl);
  there = s.there;
  below = λ k id o. let b = s.below k id o in let n = d.numbers in omega arith;
  fresh = λ id l. ap (has_frame id) d.frames ∙ none id l;
  finished = λ id h. ap (λ fs. list_any is_none (ends_on id fs)) d.frames ∙ d.finished id h;
}
  where
    by : (k id : ℕ) → (line k w).stream ≡ Some id → (b : Bool) → (stream_of f == id) ≡ b → StreamRight c (line k w) id (f ∷ frames_handed w.session.log)
    by k id o true e =
        let same : stream_of f ≡ id = eqb-true (stream_of f) id e in
        subst (λ n. StreamRight c (line k w) n (f ∷ frames_handed w.session.log)) same (d.right k (o ∙ ap Some (sym same)))
    by k id o false e = right-apart c (line k w) id f (frames_handed w.session.log) e (s.right k id o)

    none : (id : ℕ) → next_number a ≤ id → has_frame id (f ∷ frames_handed w.session.log) ≡ false
    none id l =
        let n = d.numbers in
        let rest : has_frame id (frames_handed w.session.log) ≡ false = s.fresh id (omega arith) in
        ap (λ b. b || has_frame id (frames_handed w.session.log)) (other_number (stream_of f) id (next_number w.session) d.known (omega arith)) ∙ rest

-- A head, and bytes of asks

some_same : (x y : ℕ) → Some x ≡ Some y → x ≡ y
some_same x y e = cc

found-it : (p : ℕ → Bool) (xs : List ℕ) (x : ℕ) → find p xs ≡ Some x → p x ≡ true
found-it p [] x e = absurd cc
found-it p (y ∷ ys) x e = by (p y) refl e (λ q. found-it p ys x q)
  where
    by : (b : Bool) → p y ≡ b → (if b then Some y else find p ys) ≡ Some x → (find p ys ≡ Some x → p x ≡ true) → p x ≡ true
    by true h q rest = subst (λ z. p z ≡ true) (some_same y x q) h
    by false h q rest = rest q

pub next-headless : (id : ℕ) (a : Account) → next_head a ≡ Some id → has_head id a.log ≡ false
next-headless id a e =
    let h : is_headless a id ≡ true = found-it (λ n. is_headless a n) (reverse (stream.opened a.log)) id e in
    not-true (has_head id a.log) (and_parts (a.client && is_opened id a.log) (not (has_head id a.log)) h).1

-- The moves

own-place : (c : HubConfig) (w : World) → Streams c w → (P : Line → Type 0) (j k id : ℕ) → (line j w).stream ≡ Some id → (line k w).stream ≡ Some id
    → P (line k w) → P (line j w)
own-place c w s P j k id a b p = subst (λ n. P (line n w)) (sym (s.apart j k id a b)) p

begins-right : (c : HubConfig) → Streams c start
unfolding start session.start
begins-right c = record {
  apart = λ j k id a b. absurd (none j id a);
  right = λ k id o. absurd (none k id o);
  there = λ k id o. absurd (none k id o);
  below = λ k id o. absurd (none k id o);
  fresh = λ id l. refl;
  finished = λ id h. absurd cc;
}
  where
    none : (k id : ℕ) → (line k start).stream ≡ Some id → ⊥
    none zero id e = absurd cc
    none (suc k) id e = absurd cc

enters-right : (c : HubConfig) (k : ℕ) (e : ViewEntry) (w : World) → Streams c w → Streams c (entered k e w)
enters-right c k e w s =
    put-right c k (record (line k w) { view = e ∷ (line k w).view }) w refl (λ id r. right-on c (line k w) e id (frames_handed w.session.log) r) s

hears-right : (c : HubConfig) (e : Event) (k : ℕ) (w : World) → Streams c w → Streams c (put k (with_heard e (line k w)) w)
hears-right c e k w s =
    put-right c k (with_heard e (line k w)) w refl (λ id r. view-right c (line k w) (with_heard e (line k w)) id (frames_handed w.session.log) refl r) s

closes-right : (c : HubConfig) (side : Side) (k : ℕ) (w : World) → Streams c w → Streams c (close side k w)
closes-right c side k w s =
    put-right c k (closed_for side (line k w)) w (closed-stream side (line k w))
    (λ id r. view-right c (line k w) (closed_for side (line k w)) id (frames_handed w.session.log) (closed-view side (line k w)) r) s

-- a stream is opened, with a number that no other has
opens-number : (a : Account) → next_number (called Open a) ≡ next_number a + 2
unfolding called noted
opens-number a = omega arith

first_number : (a : Account) → 0 < next_number a
first_number a = omega arith

opening-right : (c : HubConfig) (k : ℕ) (w : World) → Streams c w → Streams c (opening k w true)
opening-right c k w s = record {
  apart = λ j m id a b. elim (set_at w.lines k j l no_line) [
    | inl e ↦ elim (set_at w.lines k m l no_line) [
      | inl f ↦ e.0 ∙ sym f.0
      | inr f ↦ absurd (older m id (ap (λ (x : Line). x.stream) (sym f) ∙ b) (newest id (ap (λ (x : Line). x.stream) (sym e.1) ∙ a)))
    ]
    | inr e ↦ elim (set_at w.lines k m l no_line) [
      | inl f ↦ absurd (older j id (ap (λ (x : Line). x.stream) (sym e) ∙ a) (newest id (ap (λ (x : Line). x.stream) (sym f.1) ∙ b)))
      | inr f ↦ s.apart j m id (ap (λ (x : Line). x.stream) (sym e) ∙ a) (ap (λ (x : Line). x.stream) (sym f) ∙ b)
    ]
  ];
  right = λ j id o. subst (StreamRight c (line j (opening k w true)) id) (sym (open-same w.session)) (elim (set_at w.lines k j l no_line) [
    | inl e ↦ right-none c (line j (opening k w true)) id (frames_handed w.session.log)
        (s.fresh id (same_le (newest id (ap (λ (x : Line). x.stream) (sym e.1) ∙ o))))
    | inr e ↦ subst (λ (x : Line). StreamRight c x id (frames_handed w.session.log)) (sym e) (s.right j id (ap (λ (x : Line). x.stream) (sym e) ∙ o))
  ]);
  there = λ j id o. elim (set_at w.lines k j l no_line) [
    | inl e ↦ (let n = newest id (ap (λ (x : Line). x.stream) (sym e.1) ∙ o) in above (next_number w.session) id (first_number w.session) n)
    | inr e ↦ s.there j id (ap (λ (x : Line). x.stream) (sym e) ∙ o)
  ];
  below = λ j id o. elim (set_at w.lines k j l no_line) [
    | inl e ↦ (let n = newest id (ap (λ (x : Line). x.stream) (sym e.1) ∙ o) in let m = opens-number w.session in omega arith)
    | inr e ↦ (let n = s.below j id (ap (λ (x : Line). x.stream) (sym e) ∙ o) in let m = opens-number w.session in omega arith)
  ];
  fresh = λ id h. ap (has_frame id) (open-same w.session) ∙ s.fresh id (let m = opens-number w.session in omega arith);
  finished = λ id h. ap (λ fs. list_any is_none (ends_on id fs)) (open-same w.session) ∙ s.finished id h;
}
  where
    l : Line
    l = record (line k w) { stream = Some (next_number w.session) }

    newest : (id : ℕ) → Some (next_number w.session) ≡ Some id → next_number w.session ≡ id
    newest id e = some_same (next_number w.session) id e

    older : (j id : ℕ) → (line j w).stream ≡ Some id → next_number w.session ≡ id → ⊥
    older j id o e = let b = s.below j id o in beyond (omega arith)
      where
        beyond : id < id → ⊥
        beyond h = omega arith

    above : (n m : ℕ) → 0 < n → n ≡ m → 0 < m
    above n m p e = omega arith

    same_le : {n m : ℕ} → n ≡ m → n ≤ m
    same_le e = omega arith

opens-right : (c : HubConfig) (w : World) → Streams c w → Streams c (opened w)
opens-right c w s = record {
  apart = λ j m id a b. s.apart j m id (own j id a) (own m id b);
  right = λ j id o. subst (λ (x : Line). StreamRight c x id (frames_handed w.session.log)) (sym (old j id o)) (s.right j id (own j id o));
  there = λ j id o. s.there j id (own j id o);
  below = λ j id o. s.below j id (own j id o);
  fresh = s.fresh;
  finished = s.finished;
}
  where
    old : (j id : ℕ) → (line j (opened w)).stream ≡ Some id → line j (opened w) ≡ line j w
    old j id o = elim (append_or_same w.lines j (new_line w) no_line) [
      | inl e ↦ absurd (none id (ap (λ (x : Line). x.stream) (sym e) ∙ o))
      | inr e ↦ e
    ]
      where
        none : (id : ℕ) → None ≡ Some id → ⊥
        none id e = absurd cc

    own : (j id : ℕ) → (line j (opened w)).stream ≡ Some id → (line j w).stream ≡ Some id
    own j id o = ap (λ (x : Line). x.stream) (sym (old j id o)) ∙ o

-- An end, or a reset, of a stream that is open here

own-end : (c : HubConfig) (l : Line) (id : ℕ) (f : Frame) (frames : List Frame) (x : Option ℕ) → ends_on id frames ≡ [] → StreamRight c l id frames
    → blocks_on id (f ∷ frames) ≡ blocks_on id frames → joined_data id (f ∷ frames) ≡ joined_data id frames
    → ends_on id (f ∷ frames) ≡ x ∷ ends_on id frames → AreEnds c l (x ∷ []) → StreamRight c l id (f ∷ frames)
own-end c l id f frames x none r blocks bytes ends h = record {
  head = subst (IsOneHead c) (sym blocks) r.head;
  asks = subst (λ d. IsPrefix d (asks_of c l)) (sym bytes) r.asks;
  ends = subst (AreEnds c l) (sym (ends ∙ ap (λ es. x ∷ es) none)) h;
}

is-due : (c : HubConfig) (k id : ℕ) (e : ViewEntry) (finish : Bool) (w : World) → IsDue c k id e finish w → EndDue c (line k w) finish
is-due c k id e finish w d = record {
  later = [];
  entry = e;
  earlier = d.earlier;
  view = d.view;
  due = subst (λ v. end_due e (after c.filter v) ≡ Some finish) d.view d.due;
}

sound-on : (w : World) → is_over w ≡ false → is_violated w.session ≡ false
sound-on w o = (or_false w.broken (is_violated w.session) o).1

end-data : (id : ℕ) (frames : List Frame) (b : Bool) → (joined_data id frames ++ (if b then [] else [])) ≡ joined_data id frames
end-data id frames true = append-nil (joined_data id frames)
end-data id frames false = append-nil (joined_data id frames)

end-there : (id : ℕ) (frames : List Frame) → ends_on id (frame.Data id [] true 0 ∷ frames) ≡ None ∷ ends_on id frames
end-there id frames = ap (λ (b : Bool). cons_option (if b then Some None else None) (ends_on id frames)) (same_true id)

reset-there : (id code : ℕ) (frames : List Frame) → ends_on id (frame.Reset id code ∷ frames) ≡ Some code ∷ ends_on id frames
reset-there id code frames = ap (λ (b : Bool). cons_option (if b then Some (Some code) else None) (ends_on id frames)) (same_true id)

placed-any : (p : EndedStream → Bool) (x : EndedStream) (xs : List EndedStream) → list_any p (placed x xs) ≡ true → (p x ≡ true) ⊎ (list_any p xs ≡ true)
placed-any p x [] h = by (p x) h
  where
    by : (b : Bool) → (b || false) ≡ true → (b ≡ true) ⊎ (false ≡ true)
    by true h = inl refl
    by false h = absurd cc
placed-any p x (y ∷ ys) h = by (is_before x y) h (λ q. placed-any p x ys q)
  where
    two : (a b : Bool) → (a || b) ≡ true → (a ≡ true) ⊎ (b ≡ true)
    two true b h = inl refl
    two false b h = inr h

    further : (a b : Bool) → b ≡ true → (a || b) ≡ true
    further true b h = refl
    further false b h = h

    here : (a b : Bool) → a ≡ true → (a || b) ≡ true
    here true b h = refl
    here false b h = absurd cc

    by : (b : Bool) → list_any p (if b then x ∷ y ∷ ys else y ∷ placed x ys) ≡ true → (list_any p (placed x ys) ≡ true → (p x ≡ true) ⊎ (list_any p ys ≡ true))
        → (p x ≡ true) ⊎ ((p y || list_any p ys) ≡ true)
    by true h rest = two (p x) (p y || list_any p ys) h
    by false h rest = elim (two (p y) (list_any p (placed x ys)) h) [
      | inl q ↦ inr (here (p y) (list_any p ys) q)
      | inr q ↦ elim (rest q) [ inl r ↦ inl r | inr r ↦ inr (further (p y) (list_any p ys) r) ]
    ]

-- an end that was handed over stays among the ends
still-ended : (id : ℕ) (f : Frame) (frames : List Frame) → list_any is_none (ends_on id frames) ≡ true → list_any is_none (ends_on id (f ∷ frames)) ≡ true
still-ended id f frames h = by (end_on id f)
  where
    by : (o : Option (Option ℕ)) → list_any is_none (cons_option o (ends_on id frames)) ≡ true
    by None = h
    by (Some None) = refl
    by (Some (Some code)) = h

finishes-right : (c : HubConfig) (k id : ℕ) (e : ViewEntry) (w : World) → IsDue c k id e true w → Streams c w
    → Streams c (record w { session = called (Finish id) w.session; ended = placed (record { call = w.calls; stream = id }) w.ended })
finishes-right c k id e w d s =
    adds c f (called (Finish id) w.session) (placed x w.ended) w (record {
      frames = finish-frames id w.session (sound-on w d.goes_on);
      numbers = call-grows (Finish id) w.session;
      known = s.below k id d.own;
      right = λ j o. own-place c w s (λ (l : Line). StreamRight c l id (f ∷ frames)) j k id o d.own
          (own-end c (line k w) id f frames None none (s.right k id d.own) refl (end-data id frames (id == id)) (end-there id frames) (is-due c k id e true w d));
      finished = λ n h. elim (placed-any (λ (y : EndedStream). y.stream == n) x w.ended h) [
        | inl q ↦ subst (λ m. list_any is_none (ends_on m (f ∷ frames)) ≡ true) (eqb-true id n q) (ap (list_any is_none) (end-there id frames))
        | inr q ↦ still-ended n f frames (s.finished n q)
      ];
    }) s
  where
    f : Frame
    f = frame.Data id [] true 0

    frames : List Frame
    frames = frames_handed w.session.log

    x : EndedStream
    x = record { call = w.calls; stream = id }

    none : ends_on id frames ≡ []
    none = open-ends id w.session d.here

resets-right : (c : HubConfig) (k id : ℕ) (e : ViewEntry) (w : World) → IsDue c k id e false w → Streams c w
    → Streams c (record w { session = called (Reset id cancel) w.session })
resets-right c k id e w d s =
    adds c f (called (Reset id cancel) w.session) w.ended w (record {
      frames = reset-frames id cancel w.session (sound-on w d.goes_on);
      numbers = call-grows (Reset id cancel) w.session;
      known = s.below k id d.own;
      right = λ j o. own-place c w s (λ (l : Line). StreamRight c l id (f ∷ frames)) j k id o d.own
          (own-end c (line k w) id f frames (Some cancel) none (s.right k id d.own) refl (append-nil (joined_data id frames)) (reset-there id cancel frames)
          (refl, is-due c k id e false w d));
      finished = λ n h. still-ended n f frames (s.finished n h);
    }) s
  where
    f : Frame
    f = frame.Reset id cancel

    frames : List Frame
    frames = frames_handed w.session.log

    none : ends_on id frames ≡ []
    none = open-ends id w.session d.here

-- a stream that was ended here, and that lives, is reset
trimmed : (c : HubConfig) (l : Line) (es : List (Option ℕ)) → AreEnds c l es → list_any is_some es ≡ false → list_any is_none es ≡ true
    → AreEnds c l (Some cancel ∷ es)
trimmed c l [] h s n = absurd cc
trimmed c l (None ∷ []) h s n = (refl, h)
trimmed c l (None ∷ x ∷ es) h s n = absurd h
trimmed c l (Some x ∷ es) h s n = absurd cc

no_frame : (id : ℕ) (frames : List Frame) → has_frame id frames ≡ false → ends_on id frames ≡ []
no_frame id [] h = refl
no_frame id (f ∷ frames) h =
    let both = or_false (stream_of f == id) (has_frame id frames) h in ends-apart id f frames both.0 ∙ no_frame id frames both.1

below-or : (a b : ℕ) → (a < b) ⊎ (b ≤ a)
below-or zero zero = inr (omega arith)
below-or zero (suc b) = inl (omega arith)
below-or (suc a) zero = inr (omega arith)
below-or (suc a) (suc b) = elim (below-or a b) [ inl l ↦ inl (omega arith) | inr l ↦ inr (omega arith) ]

trims-right : (c : HubConfig) (id : ℕ) (w : World) → list_any (λ (x : EndedStream). x.stream == id) w.ended ≡ true → is_live id w.session.log ≡ true
    → is_over w ≡ false → Streams c w → Streams c (record w { session = called (Reset id cancel) w.session })
trims-right c id w there live o s =
    adds c f (called (Reset id cancel) w.session) w.ended w (record {
      frames = reset-frames id cancel w.session (sound-on w o);
      numbers = call-grows (Reset id cancel) w.session;
      known = elim (below-or id (next_number w.session)) [
        | inl l ↦ l
        | inr g ↦ absurd (never (sym (ap (list_any is_none) (no_frame id frames (s.fresh id g))) ∙ ended))
      ];
      right = λ j own. let r = s.right j id own in record {
        head = r.head;
        asks = subst (λ d. IsPrefix d (asks_of c (line j w))) (sym (append-nil (joined_data id frames))) r.asks;
        ends = subst (AreEnds c (line j w)) (sym (reset-there id cancel frames))
            (trimmed c (line j w) (ends_on id frames) r.ends (no_reset id w.session.log (live-unreset id w.session.log live)) ended);
      };
      finished = λ n h. still-ended n f frames (s.finished n h);
    }) s
  where
    f : Frame
    f = frame.Reset id cancel

    frames : List Frame
    frames = frames_handed w.session.log

    ended : list_any is_none (ends_on id frames) ≡ true
    ended = s.finished id there

    never : false ≡ true → ⊥
    never e = absurd cc

-- A head, and bytes of asks

hands-right : (c : HubConfig) (x : Handing) (w : World) → MayHand c w x w.session → is_over w ≡ false → Streams c w
    → Streams c (record w { session = called (session_call c x) w.session })
hands-right c (HandsHead id block) w h o s =
    adds c f (called (session_call c (HandsHead id block)) w.session) w.ended w (record {
      frames = hands-frames c (HandsHead id block) w.session tt (sound-on w o);
      numbers = call-grows (session_call c (HandsHead id block)) w.session;
      known = s.below h.place id h.own;
      right = λ j own. let r = s.right j id own in record {
        head = subst (IsOneHead c) (sym one) (known_limit w.session.log, table_limit w.session.log, h.written);
        asks = subst (λ d. IsPrefix d (asks_of c (line j w))) (sym (append-nil (joined_data id frames))) r.asks;
        ends = r.ends;
      };
      finished = s.finished;
    }) s
  where
    f : Frame
    f = frame.Headers id block false true

    frames : List Frame
    frames = frames_handed w.session.log

    one : blocks_on id (f ∷ frames) ≡ block ∷ []
    one = ap (λ (b : Bool). cons_option (if b then Some block else None) (blocks_on id frames)) (same_true id)
        ∙ ap (λ bs. block ∷ bs) (no_block id w.session.log (next-headless id w.session h.next))
hands-right c (HandsData id bytes) w h o s =
    adds c f (called (session_call c (HandsData id bytes)) w.session) w.ended w (record {
      frames = hands-frames c (HandsData id bytes) w.session h.some (sound-on w o);
      numbers = call-grows (session_call c (HandsData id bytes)) w.session;
      known = s.below h.place id h.own;
      right = λ j own. let r = s.right j id own in record {
        head = r.head;
        asks = subst (λ d. IsPrefix d (asks_of c (line j w))) (sym more) (own-place c w s (λ (l : Line). IsPrefix (joined_data id frames ++ bytes) (asks_of c l)) j h.place id own h.own h.first);
        ends = r.ends;
      };
      finished = s.finished;
    }) s
  where
    f : Frame
    f = frame.Data id bytes false (length bytes)

    frames : List Frame
    frames = frames_handed w.session.log

    more : joined_data id (f ∷ frames) ≡ joined_data id frames ++ bytes
    more = ap (λ (b : Bool). joined_data id frames ++ (if b then bytes else [])) (same_true id)

keeps-right : (c : HubConfig) → Keeps c (Streams c)
keeps-right c = record {
  begins = begins-right c;
  enters = λ k e w g s. enters-right c k e w s;
  streams = λ k w wanted can s. opening-right c k w s;
  finishes = λ k id e w d s. finishes-right c k id e w d s;
  resets = λ k id e w d s. resets-right c k id e w d s;
  trims = λ id w there live o s. trims-right c id w there live o s;
  hears = λ e k w s. hears-right c e k w s;
  byte = λ b w s. same-frames c (told (with_byte b w.session)) w (byte-same b w.session) (byte-grows b w.session) s;
  hands = λ x w h o s. hands-right c x w h o s;
  gives = λ n w h s. same-frames c (called (Take n) w.session) w (take-same n w.session) (call-grows (Take n) w.session) s;
  breaks = λ w s. with_broken c w s;
  counts = λ w s. record { apart = s.apart; right = s.right; there = s.there; below = s.below; fresh = s.fresh; finished = s.finished };
  ticks = λ now w s. record { apart = s.apart; right = s.right; there = s.there; below = s.below; fresh = s.fresh; finished = s.finished };
  opens = λ w s. opens-right c w s;
  closes = λ side k w s. closes-right c side k w s;
}
  where
    with_broken : (c : HubConfig) (w : World) → Streams c w → Streams c (record w { broken = true })
    with_broken c w s = record { apart = s.apart; right = s.right; there = s.there; below = s.below; fresh = s.fresh; finished = s.finished }

pub streams : (c : HubConfig) (h : List HubCall) → IsHubHistory c h → Streams c (world c h)
streams c h i = along c (Streams c) (keeps-right c) h i

pub streams_right : (c : HubConfig) (h : List HubCall) → IsHubHistory c h → StreamsRight c (world c h)
streams_right c h i = let s = streams c h i in record { apart = s.apart; right = s.right }
