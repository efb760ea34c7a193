-- What every move of a hub keeps holds in every history.
use Rattle.std.proofs.Common.{sym, ◌∙◌, ap, subst, arith, inl, inr, ◌⊎◌}
use Rattle.std.specs.Prelude.{ℕ, suc, zero, ◌+◌, ◌-◌, ◌≡◌, ◌≤◌, ◌<◌, ◌&&◌, ◌||◌, ◌==◌, Bool, true, false, not, List, [], ◌∷◌, length, take, min, map, replicate, Option, Some, None, refl, if◌then◌else◌, nat_le, nat_lt, is_none, filter, cond, slice_index_or}
use Rattle.std.proofs.lemmas.List.{get_or-set_same, length-set, length-take}
use Rattle.std.specs.List.{list_any}
use Rattle.ext_msgs.specs.declared.ask.Ask.{Ask}
use Rattle.h2_model.specs.declared.answers.Event.{Event}
use Rattle.h2_model.specs.Account.{Account}
use Rattle.h2_model.specs.Calls.{is_open_here}
use Rattle.h2_model.specs.History.{Finish, Reset, Take, called, is_violated, with_byte}
use Rattle.h2_model.specs.Queue.{flow}
use Rattle.h2_model.specs.Streams.{is_live}
use Rattle.http_model.specs.Bytes.{is_empty}
use Rattle.filter_model.specs.Config.{FilterConfig}
use Rattle.filter_model.specs.Account.{ExchangeAccount}
use Rattle.filter_model.specs.View.{ViewEntry, Bytes, End, Lost, Answered, TooLong, Closed, NoStream, Tick, Starved, Sent, Given}
use Rattle.filter_model.specs.Step.{after, step, room}
use Rattle.filter_model.specs.declared.calls.Side.{Side}
use Rattle.filter_model.specs.declared.calls.Taken.{Taken}
use Rattle.filter_model.specs.declared.calls.Taken.TheVariants.{Piece, Nothing, Done, Abort, Gone}
use Rattle.filter_model.proofs.EachStep.{sent_at_most_one}
use Rattle.filter_model.proofs.Kept.{step-made}
use Rattle.grpc_call.specs.Items.{Item}
use Rattle.grpc_call.specs.Items as item
use Rattle.hub_model.specs.HubCalls.{HubCall, HubConfig, Handing, HandsHead, HandsData, Opened, NotOpened, Fed, Ended, PortLost, Ticked, Took, Gave, Failed, port_of, side_of}
use Rattle.hub_model.specs.World.{EndedStream, World, Line, no_line, line, put, account_of, is_live_at, is_over, start}
use Rattle.hub_model.specs.Meeting.{at_each, can_begin, cancel, end_due, ending, ending_on, entered, kept, meet, meet_all, meet_if, opening, opening_if, placed, reset_first, wants_stream, with_end, with_stream}
use Rattle.hub_model.specs.Hearing.{broke, came, came_all, close_at, close_if, entry_of, grown, hear, hear_if, is_fatal, is_live_on, is_on, reset_of, tell, tell_all, tell_at, told, with_heard}
use Rattle.hub_model.specs.Sending.{after_giving, data_sent, framed_ask, gave, handed_over, newly_sent, session_call, tell_sent, whole_asks}
use Rattle.hub_model.specs.Happens.{close, counted, happens, happens_at, opened, took, world}
use Rattle.hub_model.specs.Allowed.{IsHubHistory, MayAt, MaySend, MayHand, MayHandAll, MayHandIf, MayTakeAt, MayTakeIf, room_at}
use Rattle.hub_model.proofs.Backed.{Enters, is_longer}
use Rattle.hub_model.proofs.Places.{live_there, or_false, same_true, set_at, with_end-lines}
use Rattle.hub_model.proofs.Handed.{finish-violated, hands-violated}

-- the end that is due after an entry, on a stream that lives, while the connection does
pub record IsDue (c : HubConfig) (k id : ℕ) (e : ViewEntry) (finish : Bool) (w : World) : Type 0 where
  pub own : (line k w).stream ≡ Some id
  pub due : end_due e (account_of c (line k w)) ≡ Some finish
  pub earlier : List ViewEntry
  pub view : (line k w).view ≡ e ∷ earlier
  pub here : is_open_here id w.session ≡ true
  pub goes_on : is_over w ≡ false

-- one lemma for each move
pub record Keeps (c : HubConfig) (P : World → Type 0) : Type 0 where
  pub begins : P start
  pub enters : (k : ℕ) (e : ViewEntry) (w : World) → Enters c.filter (line k w).view e → P w → P (entered k e w)
  pub streams : (k : ℕ) (w : World) → wants_stream c (line k w) ≡ true → can_begin c w ≡ true → P w → P (opening k w true)
  pub finishes : (k id : ℕ) (e : ViewEntry) (w : World) → IsDue c k id e true w → P w
      → P (record w { session = called (Finish id) w.session; ended = placed (record { call = w.calls; stream = id }) w.ended })
  pub resets : (k id : ℕ) (e : ViewEntry) (w : World) → IsDue c k id e false w → P w → P (record w { session = called (Reset id cancel) w.session })
  pub trims : (id : ℕ) (w : World) → list_any (λ (x : EndedStream). x.stream == id) w.ended ≡ true → is_live id w.session.log ≡ true → is_over w ≡ false → P w
      → P (record w { session = called (Reset id cancel) w.session })
  pub hears : (e : Event) (k : ℕ) (w : World) → P w → P (put k (with_heard e (line k w)) w)
  pub byte : (b : ℕ) (w : World) → P w → P (record w { session = told (with_byte b w.session) })
  pub hands : (x : Handing) (w : World) → MayHand c w x w.session → is_over w ≡ false → P w → P (record w { session = called (session_call c x) w.session })
  pub gives : (n : ℕ) (w : World) → n ≤ length (flow w.session.waiting) → P w → P (record w { session = called (Take n) w.session })
  pub breaks : (w : World) → P w → P (record w { broken = true })
  pub counts : (w : World) → P w → P (counted w)
  pub ticks : (now : ℕ) (w : World) → P w → P (record w { ticks = now ∷ w.ticks })
  pub opens : (w : World) → P w → P (opened w)
  pub closes : (s : Side) (k : ℕ) (w : World) → P w → P (close s k w)

-- Entries that may always come

abbrev IsFree : ViewEntry → Type 0
IsFree (Bytes s bytes) = ⊥
IsFree (Given s bytes) = ⊥
IsFree Sent = ⊥
IsFree _ = Unit {0}

free-enters : (c : FilterConfig) (v : List ViewEntry) (e : ViewEntry) → IsFree e → Enters c v e
free-enters c v (Bytes s bytes) f = absurd f
free-enters c v (Given s bytes) f = absurd f
free-enters c v Sent f = absurd f
free-enters c v (End s) f = tt
free-enters c v (Lost s how) f = tt
free-enters c v (Answered a) f = tt
free-enters c v TooLong f = tt
free-enters c v (Closed clean) f = tt
free-enters c v NoStream f = tt
free-enters c v (Tick now) f = tt
free-enters c v Starved f = tt

entry_of-free : (i : Item) → IsFree (entry_of i)
entry_of-free (item.Message bytes) = tt
entry_of-free (item.LongMessage size) = tt
entry_of-free (item.Closed clean) = tt

-- `Sent` comes as often as there are asks that were made and not sent

-- an exchange that has a stream, after an entry
same_or_entered : (c : HubConfig) (k : ℕ) (e : ViewEntry) (w : World) (id : ℕ) → (line k w).stream ≡ Some id
    → (line k (meet c k e w) ≡ line k w) ⊎ (line k (meet c k e w) ≡ record (line k w) { view = e ∷ (line k w).view })
unfolding meet with_stream
same_or_entered c k e w id s = by (is_live_at k w)
  where
    v : World
    v = entered k e w

    entry : Line
    entry = record (line k w) { view = e ∷ (line k w).view }

    there : (line k v ≡ line k w) ⊎ (line k v ≡ entry)
    there = elim (set_at w.lines k k entry no_line) [ inl p ↦ inr p.1 | inr p ↦ inl p ]

    has : (line k v).stream ≡ Some id
    has = elim there [ inl p ↦ ap (λ (l : Line). l.stream) p ∙ s | inr p ↦ ap (λ (l : Line). l.stream) p ∙ s ]

    not_wanted : (o : Option ℕ) (a b : Bool) → o ≡ Some id → (is_none o && a && b) ≡ false
    not_wanted None a b h = absurd cc
    not_wanted (Some n) a b h = refl

    not_opened : (b : Bool) → b ≡ false → opening_if c k v b ≡ v
    not_opened true h = absurd cc
    not_opened false h = refl

    met : line k (with_end c k e (with_stream c k v)) ≡ line k v
    met = ap (λ ls. slice_index_or ls k no_line) (with_end-lines c k e (with_stream c k v)) ∙ ap (line k) (not_opened (wants_stream c (line k v)) (not_wanted (line k v).stream _ _ has))

    by : (b : Bool) → (line k (meet_if c k e w b) ≡ line k w) ⊎ (line k (meet_if c k e w b) ≡ entry)
    by true = elim there [ inl p ↦ inl (met ∙ p) | inr p ↦ inr (met ∙ p) ]
    by false = inl refl

-- one more was sent at most, and those made stay made
record Counts (c : HubConfig) (l l' : Line) : Type 0 where
  stream : l'.stream ≡ l.stream
  sent : (account_of c l').sent ≤ suc (account_of c l).sent
  made : length (account_of c l).made ≤ length (account_of c l').made

counts : (c : HubConfig) (k : ℕ) (w : World) (id : ℕ) → (line k w).stream ≡ Some id → Counts c (line k w) (line k (meet c k Sent w))
unfolding after
counts c k w id s = elim (same_or_entered c k Sent w id s) [
  | inl p ↦ subst (λ (l : Line). Counts c (line k w) l) (sym p) (record { stream = refl; sent = omega arith; made = omega arith })
  | inr p ↦ subst (λ (l : Line). Counts c (line k w) l) (sym p) (record {
    stream = refl;
    sent = let most = sent_at_most_one c.filter Sent (account_of c (line k w)) in
        let up : (step c.filter Sent (account_of c (line k w))).sent ≤ (account_of c (line k w)).sent + 1 = most.1 in omega arith;
    made = is_longer (step-made c.filter Sent (account_of c (line k w)));
  })
]

one_more_few : (b : Bool) (m n : ℕ) → m ≤ n → (if b then suc m else 0) ≤ suc n
one_more_few true m n h = omega arith
one_more_few false m n h = omega arith

whole_asks-few : (asks : List Ask) (n : ℕ) → whole_asks asks n ≤ length asks
whole_asks-few [] n = omega arith
whole_asks-few (x ∷ asks) n =
    one_more_few (nat_le (length (framed_ask x)) n) (whole_asks asks (n - length (framed_ask x))) (length asks) (whole_asks-few asks (n - length (framed_ask x)))

le_or_ge : (a b : ℕ) → (a ≤ b) ⊎ (b ≤ a)
le_or_ge zero b = inl (omega arith)
le_or_ge (suc a) zero = inr (omega arith)
le_or_ge (suc a) (suc b) = elim (le_or_ge a b) [ inl l ↦ inl (omega arith) | inr l ↦ inr (omega arith) ]

rest_few : (a b m : ℕ) → a ≤ m → (a - b ≡ 0) ⊎ (a - b + b ≤ m)
rest_few a b m h = elim (le_or_ge a b) [ inl l ↦ inl (omega arith) | inr l ↦ inr (omega arith) ]

and_true : (a b : Bool) → (a && b) ≡ true → (a ≡ true) × (b ≡ true)
and_true true b h = (refl, h)
and_true false b h = absurd cc

not_true : (b : Bool) → not b ≡ true → b ≡ false
not_true true h = absurd cc
not_true false h = refl

or_true : (a b : Bool) → b ≡ true → (a || b) ≡ true
or_true true b h = refl
or_true false b h = h

here_true : (a b : Bool) → a ≡ true → (a || b) ≡ true
here_true true b h = refl
here_true false b h = absurd cc

or_other : (a : Bool) → a ≡ false → (a || false) ≡ false
or_other true h = absurd cc
or_other false h = refl

-- what stands at a place newest
pub record Newest (e : ViewEntry) (v : List ViewEntry) : Type 0 where
  pub earlier : List ViewEntry
  pub view : v ≡ e ∷ earlier

some_none : (s : Option ℕ) (id : ℕ) → is_none s ≡ true → s ≡ Some id → ⊥
some_none None id n e = absurd cc
some_none (Some x) id n e = absurd cc

wants_none : (c : HubConfig) (l : Line) → wants_stream c l ≡ true → is_none l.stream ≡ true
wants_none c l h =
    let a : ExchangeAccount = account_of c l in
    (and_true (is_none l.stream) (not a.unopened) (and_true (is_none l.stream && not a.unopened) (not (is_empty a.made)) h).0).0

-- where the exchange has a stream the entry stands newest
met-newest : (c : HubConfig) (k id : ℕ) (e : ViewEntry) (w : World) → k < length w.lines → (line k (with_stream c k (entered k e w))).stream ≡ Some id
    → Newest e (line k (with_stream c k (entered k e w))).view
unfolding with_stream
met-newest c k id e w h own = opened_by (wants_stream c (line k v)) refl own
  where
    v : World
    v = entered k e w

    long : k < length v.lines
    long = subst (λ n. k < n) (sym (length-set w.lines k _)) h

    there : (line k v).view ≡ e ∷ (line k w).view
    there = ap (λ (l : Line). l.view) (get_or-set_same w.lines k _ no_line h)

    begun : (b : Bool) → is_none (line k v).stream ≡ true → (line k (opening k v b)).stream ≡ Some id → Newest e (line k (opening k v b)).view
    begun true n o = record { earlier = (line k w).view; view = ap (λ (l : Line). l.view) (get_or-set_same v.lines k _ no_line long) ∙ there }
    begun false n o =
        absurd (some_none (line k v).stream id n (sym (ap (λ (l : Line). l.stream) (get_or-set_same v.lines k _ no_line long)) ∙ o))

    opened_by : (b : Bool) → wants_stream c (line k v) ≡ b → (line k (opening_if c k v b)).stream ≡ Some id → Newest e (line k (opening_if c k v b)).view
    opened_by true wanted o = begun (can_begin c v) (wants_none c (line k v) wanted) o
    opened_by false wanted o = record { earlier = (line k w).view; view = there }

-- ending a stream here is no connection error
still_on : (id : ℕ) (w : World) → is_over w ≡ false → is_over (record w { session = called (Finish id) w.session }) ≡ false
still_on id w o =
    let both = or_false w.broken (is_violated w.session) o in
    ap (λ b. w.broken || b) (finish-violated id w.session both.1) ∙ or_other w.broken both.0

-- bytes that were taken fit into the room
room_fits : (c : HubConfig) (w : World) (side : Side) (k : ℕ) (bytes : List ℕ) (n : ℕ) → n ≡ min (length bytes) (room_at c side k w)
    → is_live_at k w ≡ true → Enters c.filter (line k w).view (Bytes side (take n bytes))
room_fits c w side k bytes n e o =
    let r : ℕ = room c.filter (account_of c (line k w)) side in
    let at : room_at c side k w ≡ r = ap (λ b. if b then r else 0) o in
    let k : length (take n bytes) ≡ min n (length bytes) = length-take n bytes in
    omega arith

module _ (c : HubConfig) (P : World → Type 0) (m : Keeps c P) where
  -- The end of a stream

  first_kept : (w : World) (xs : List EndedStream) → ((id : ℕ) → list_any (λ (x : EndedStream). x.stream == id) xs ≡ true → list_any (λ (x : EndedStream). x.stream == id) w.ended ≡ true)
      → is_over w ≡ false → P w → P (reset_first w (filter (λ (x : EndedStream). is_live x.stream w.session.log) xs))
  first_kept w [] all o p = p
  first_kept w (x ∷ xs) all o p =
      by (is_live x.stream w.session.log) refl (first_kept w xs (λ id h. all id (or_true (x.stream == id) (list_any (λ (y : EndedStream). y.stream == id) xs) h)) o p)
    where
      rest : List EndedStream
      rest = filter (λ (x : EndedStream). is_live x.stream w.session.log) xs

      is_there : list_any (λ (y : EndedStream). y.stream == x.stream) w.ended ≡ true
      is_there = all x.stream (here_true (x.stream == x.stream) _ (same_true x.stream))

      by : (b : Bool) → is_live x.stream w.session.log ≡ b → P (reset_first w rest) → P (reset_first w (cond b (x ∷ rest) rest))
      by true l q = m.trims x.stream w is_there l o p
      by false l q = q

  within_if : (w : World) (b : Bool) → is_over w ≡ false → P w → P (if b then reset_first w (kept w) else w)
  within_if w true o p = first_kept w w.ended (λ id h. h) o p
  within_if w false o p = p

  ending-keeps : (k id : ℕ) (e : ViewEntry) (w : World) (finish : Bool) → IsDue c k id e finish w → P w → P (ending c id w finish)
  ending-keeps k id e w true d p =
      let v : World = record w { session = called (Finish id) w.session; ended = placed (record { call = w.calls; stream = id }) w.ended } in
      within_if v (nat_lt c.max_ended (length (kept v))) (still_on id w d.goes_on) (m.finishes k id e w d p)
  ending-keeps k id e w false d p = m.resets k id e w d p

  ending_if : (k id : ℕ) (e : ViewEntry) (w : World) (finish b : Bool) → (is_open_here id w.session && not (is_over w)) ≡ b → (line k w).stream ≡ Some id
      → end_due e (account_of c (line k w)) ≡ Some finish → Newest e (line k w).view → P w → P (if b then ending c id w finish else w)
  ending_if k id e w finish true l s d f p =
      let both = and_true (is_open_here id w.session) (not (is_over w)) l in
      ending-keeps k id e w finish (record { own = s; due = d; earlier = f.earlier; view = f.view; here = both.0; goes_on = not_true (is_over w) both.1 }) p
  ending_if k id e w finish false l s d f p = p

  ending_on-keeps : (k : ℕ) (e : ViewEntry) (s : Option ℕ) (o : Option Bool) (w : World) → (line k w).stream ≡ s → end_due e (account_of c (line k w)) ≡ o
      → ((id : ℕ) → (line k w).stream ≡ Some id → Newest e (line k w).view) → P w → P (ending_on c s o w)
  ending_on-keeps k e (Some id) (Some finish) w s d f p = ending_if k id e w finish (is_open_here id w.session && not (is_over w)) refl s d (f id s) p
  ending_on-keeps k e (Some id) None w s d f p = p
  ending_on-keeps k e None o w s d f p = p

  -- An entry

  opening-keeps : (k : ℕ) (w : World) (b : Bool) → can_begin c w ≡ b → wants_stream c (line k w) ≡ true → P w → P (opening k w b)
  opening-keeps k w true e l p = m.streams k w l e p
  opening-keeps k w false e l p = m.enters k NoStream w tt p

  opening_if-keeps : (k : ℕ) (w : World) (b : Bool) → wants_stream c (line k w) ≡ b → P w → P (opening_if c k w b)
  opening_if-keeps k w true l p = opening-keeps k w (can_begin c w) refl l p
  opening_if-keeps k w false l p = p

  meet_if-keeps : (k : ℕ) (e : ViewEntry) (w : World) (b : Bool) → is_live_at k w ≡ b → (is_live_at k w ≡ true → Enters c.filter (line k w).view e) → P w
      → P (meet_if c k e w b)
  unfolding with_stream with_end
  meet_if-keeps k e w true l g p =
      let v : World = entered k e w in
      let u : World = with_stream c k v in
      ending_on-keeps k e (line k u).stream (end_due e (account_of c (line k u))) u refl refl (λ id o. met-newest c k id e w (live_there k w l) o)
      (opening_if-keeps k v (wants_stream c (line k v)) refl (m.enters k e w (g l) p))
  meet_if-keeps k e w false l g p = p

  meet-keeps : (k : ℕ) (e : ViewEntry) (w : World) → (is_live_at k w ≡ true → Enters c.filter (line k w).view e) → P w → P (meet c k e w)
  unfolding meet
  meet-keeps k e w g p = meet_if-keeps k e w (is_live_at k w) refl g p

  free-keeps : (k : ℕ) (e : ViewEntry) (w : World) → IsFree e → P w → P (meet c k e w)
  free-keeps k e w f p = meet-keeps k e w (λ l. free-enters c.filter (line k w).view e f) p

  items-keep : (k : ℕ) (is : List Item) (w : World) → P w → P (meet_all c k (map entry_of is) w)
  items-keep k [] w p = p
  items-keep k (i ∷ is) w p = items-keep k is (meet c k (entry_of i) w) (free-keeps k (entry_of i) w (entry_of-free i) p)

  sents-keep : (n : ℕ) (k : ℕ) (w : World) (id : ℕ) → (line k w).stream ≡ Some id
      → (n ≡ 0) ⊎ (n + (account_of c (line k w)).sent ≤ length (account_of c (line k w)).made) → P w → P (meet_all c k (replicate n Sent) w)
  sents-keep zero k w id s e p = p
  sents-keep (suc n) k w id s (inl e) p = absurd cc
  sents-keep (suc n) k w id s (inr e) p =
      let few : (account_of c (line k w)).sent < length (account_of c (line k w)).made = omega arith in
      let t : Counts c (line k w) (line k (meet c k Sent w)) = counts c k w id s in
      let a : (account_of c (line k (meet c k Sent w))).sent ≤ suc (account_of c (line k w)).sent = t.sent in
      let b : length (account_of c (line k w)).made ≤ length (account_of c (line k (meet c k Sent w))).made = t.made in
      sents-keep n k (meet c k Sent w) id (t.stream ∙ s) (inr (omega arith)) (meet-keeps k Sent w (λ o. few) p)

  -- Each exchange in turn

  at_each-keeps : (n : ℕ) (f : ℕ → World → World) → ((k : ℕ) (w : World) → P w → P (f k w)) → (w : World) → P w → P (at_each n f w)
  at_each-keeps zero f keeps w p = p
  at_each-keeps (suc n) f keeps w p = keeps n (at_each n f w) (at_each-keeps n f keeps w p)

  hear_if-keeps : (e : Event) (k : ℕ) (w : World) (b : Bool) → P w → P (hear_if c e k w b)
  unfolding hear
  hear_if-keeps e k w true p = items-keep k (grown c e (line k w)) (put k (with_heard e (line k w)) w) (m.hears e k w p)
  hear_if-keeps e k w false p = p

  tell_all-keeps : (es : List Event) (w : World) → P w → P (tell_all c es w)
  tell_all-keeps [] w p = p
  tell_all-keeps (e ∷ es) w p =
      tell_all-keeps es (tell c e w) (at_each-keeps (length w.lines) (tell_at c e) (λ k v. hear_if-keeps e k v (is_on _ (line k v).stream)) w p)

  close_if-keeps : (w : World) (b : Bool) → P w → P (close_if c w b)
  close_if-keeps w true p =
      at_each-keeps (length w.lines) (close_at c) (λ k v. hear_if-keeps (reset_of (line k v).stream) k v (is_live_on (line k v).stream v.session)) w p
  close_if-keeps w false p = p

  came_all-keeps : (bytes : List ℕ) (w : World) → P w → P (came_all c bytes w)
  unfolding came_all
  came_all-keeps [] w p = p
  came_all-keeps (b ∷ bytes) w p =
      let a : Account = with_byte b w.session in
      let v : World = record w { session = told a } in
      came_all-keeps bytes (came c b w) (close_if-keeps (tell_all c a.unreported v) (is_fatal b w.session) (tell_all-keeps a.unreported v (m.byte b w p)))

  broke-keeps : (w : World) → P w → P (broke c w)
  unfolding broke
  broke-keeps w p = close_if-keeps (record w { broken = true }) (not (is_over w)) (m.breaks w p)

  sent_on : (k : ℕ) (w : World) (s : Option ℕ) → (line k w).stream ≡ s → P w → P (meet_all c k (replicate (newly_sent c (line k w) s w.session) Sent) w)
  sent_on k w None e p = p
  sent_on k w (Some id) e p =
      let a = account_of c (line k w) in
      let n : ℕ = whole_asks a.made (data_sent id w.session) in
      sents-keep (n - a.sent) k w id e (rest_few n a.sent (length a.made) (whole_asks-few a.made (data_sent id w.session))) p

  hand_on : (x : Handing) (w : World) (a b : Account) → MayHand c w x a → MayHand c (record w { session = b }) x a
  hand_on (HandsHead id block) w a b h = record { place = h.place; own = h.own; next = h.next; written = h.written }
  hand_on (HandsData id bytes) w a b h = record { place = h.place; own = h.own; here = h.here; some = h.some; fits = h.fits; first = h.first }

  handed-keeps : (xs : List Handing) (w : World) (a : Account) → MayHandAll c w xs a → is_over (record w { session = a }) ≡ false → P (record w { session = a })
      → P (record w { session = handed_over c xs a })
  handed-keeps [] w a h o p = p
  handed-keeps (x ∷ xs) w a h o p =
      handed-keeps xs w (called (session_call c x) a) h.1 (over_stays x w a o) (m.hands x (record w { session = a }) (hand_on x w a a h.0) o p)
    where
      over_stays : (x : Handing) (w : World) (a : Account) → is_over (record w { session = a }) ≡ false → is_over (record w { session = called (session_call c x) a }) ≡ false
      over_stays x w a o =
          ap (λ b. w.broken || b) (hands-violated c x a (or_false w.broken (is_violated a) o).1) ∙ or_other w.broken (or_false w.broken (is_violated a) o).0

  handed_if-keeps : (xs : List Handing) (w : World) (b : Bool) → is_over w ≡ b → MayHandIf c w xs b → P w → P (record w { session = handed_over c xs w.session })
  handed_if-keeps xs w true o h p = subst (λ ys. P (record w { session = handed_over c ys w.session })) (sym h) p
  handed_if-keeps xs w false o h p = handed-keeps xs w w.session h o p

  gave-keeps : (xs : List Handing) (t : Taken) (w : World) → MayHandIf c w xs (is_over w) → MaySend c w t (handed_over c xs w.session) → P w → P (gave c xs t w)
  unfolding gave
  gave-keeps xs (Piece bytes) w h g p =
      let u : World = record w { session = handed_over c xs w.session } in
      at_each-keeps (length w.lines) (tell_sent c) (λ k v. sent_on k v (line k v).stream refl) (after_giving c xs (length bytes) w)
      (m.gives (length bytes) u (is_longer g.2) (handed_if-keeps xs w (is_over w) refl h p))
  gave-keeps xs Nothing w h g p = handed_if-keeps xs w (is_over w) refl h p
  gave-keeps xs Done w h g p = absurd g
  gave-keeps xs Abort w h g p = handed_if-keeps xs w (is_over w) refl h p
  gave-keeps xs Gone w h g p = absurd g

  -- All calls

  took-keeps : (s : Side) (k : ℕ) (t : Taken) (w : World) → MayTakeAt c s k t w → P w → P (took c s k t w)
  took-keeps s k (Piece bytes) w h p = meet-keeps k (Given s bytes) w (λ o. subst (MayTakeIf c s k (Piece bytes) w) o h) p
  took-keeps s k Nothing w h p = p
  took-keeps s k Done w h p = m.closes s k w p
  took-keeps s k Abort w h p = m.closes s k w p
  took-keeps s k Gone w h p = p

  happens_at-keeps : (x : HubCall) (p : Option (Side × ℕ)) (w : World) → MayAt c x p w → P w → P (happens_at c x p w)
  happens_at-keeps (Opened x) p w h q = m.opens w q
  happens_at-keeps (NotOpened fault) p w h q = q
  happens_at-keeps (Ticked now) p w h q =
      at_each-keeps (length w.lines) (λ k. meet c k (Tick now)) (λ k v. free-keeps k (Tick now) v tt) (record w { ticks = now ∷ w.ticks }) (m.ticks now w q)
  happens_at-keeps (Gave xs t) p w h q = gave-keeps xs t w h.0 h.1 q
  happens_at-keeps (Fed port bytes n) (Some p) w h q = meet-keeps p.1 (Bytes p.0 (take n bytes)) w (room_fits c w p.0 p.1 bytes n h) q
  happens_at-keeps (Ended port) (Some p) w h q = free-keeps p.1 (End p.0) w tt q
  happens_at-keeps (PortLost port how) (Some p) w h q = m.closes p.0 p.1 (meet c p.1 (Lost p.0 how) w) (free-keeps p.1 (Lost p.0 how) w tt q)
  happens_at-keeps (Took port t) (Some p) w h q = took-keeps p.0 p.1 t w h q
  happens_at-keeps (Failed port) (Some p) w h q = free-keeps p.1 Starved w tt q
  happens_at-keeps (Fed port bytes n) None w h q = came_all-keeps (take n bytes) w q
  happens_at-keeps (Ended port) None w h q = broke-keeps w q
  happens_at-keeps (PortLost port how) None w h q = broke-keeps w q
  happens_at-keeps (Took port t) None w h q = absurd h
  happens_at-keeps (Failed port) None w h q = absurd h

  pub along : (h : List HubCall) → IsHubHistory c h → P (world c h)
  unfolding happens world
  along [] i = m.begins
  along (x ∷ h) i = let w : World = world c h in m.counts (happens_at c x (side_of (port_of x)) w) (happens_at-keeps x (side_of (port_of x)) w i.1 (along h i.0))
