-- How much a side may bring: while an exchange lives no head that it reads is bad.
use Rattle.std.proofs.Common.{inl, inr, refl, sym, ◌∙◌, ap, subst}
use Rattle.std.proofs.lemmas.Bool.{true≢false}
use Rattle.std.specs.Prelude.{ℕ, ◌≡◌, ◌⊎◌, ◌-◌, min, Bool, true, false, not, ◌&&◌, ◌||◌, List, ◌∷◌, [], Option, Some, None, length, if◌then◌else◌, is_some, option_map}
use Rattle.http_model.specs.Heads.{Head, head_so_far}
use Rattle.http_model.specs.Reader.{Extends}
use Rattle.http_model.specs.Reading.{Fault, Partial, Reading, Bad, Whole, status_of}
use Rattle.http_model.specs.Reads.{Original, read_by, reads}
use Rattle.http_model.specs.declared.types.Direction.{Direction}
use Rattle.http_model.specs.declared.types.Direction.TheVariants.{Request, Response}
use Rattle.http_model.proofs.ReadsOn.{reads_is_reader}
use Rattle.filter_model.specs.Config.{FilterConfig}
use Rattle.filter_model.specs.Course.{body_room, changed, is_over}
use Rattle.filter_model.specs.Account.{Aborted, ExchangeAccount, course, flow, from, gathered, brought, front, is_finished, is_given, is_given_at, is_to_head, settled}
use Rattle.filter_model.specs.Cut.{Cut, Peer, fault_cut}
use Rattle.filter_model.specs.Half as half
use Rattle.filter_model.specs.Right.{Call, Failed, IsHistory, Nexted, Stepped, Took, account}
use Rattle.filter_model.specs.Sides.{IsReadOf, read_cut}
use Rattle.filter_model.specs.Step.{after, by_reply, cut, fate_under, head_room, is_awaited, is_departure, is_live, is_over_for, lets_pass, reply_to, room, step}
use Rattle.filter_model.specs.View.{ViewEntry, Answered, Bytes, Closed, End, Given, Lost, NoStream, Sent, Starved, Tick, TooLong}
use Rattle.filter_model.specs.declared.calls.Side.{Side}
use Rattle.filter_model.specs.declared.calls.Side.TheVariants.{Client, Upstream}
use Rattle.filter_model.specs.declared.calls.Taken.TheVariants as taken
use Rattle.h1_message.specs.Source.{original}
use Rattle.h1_message.specs.Stages.{reading_of}
use Rattle.exchange.specs.Flows.{IsReadable, Story, room_of}
use Rattle.exchange.specs.Settings.{HasSizes}
use Rattle.exchange.specs.Stands.{FlowTies, source_of}
use Rattle.exchange.specs.declared.flow.Flow.{Flow}
use Rattle.filter_model.proofs.AtRest.{Steady, steady}
use Rattle.filter_model.proofs.EachStep.{by_reply_ends, fate_stays}
use Rattle.filter_model.proofs.GivenRight.{fits}
use Rattle.filter_model.proofs.ReadAlong.{Read, reads_on}
use Rattle.filter_model.proofs.RestStays.{cut_fate, left_fate, rest_stays}
use Rattle.filter_model.proofs.SideCuts.{side_cut}
use Rattle.filter_model.proofs.ToldEntry.{extends_in, sound_in}

-- While it lives

live_before : (c : FilterConfig) (e : ViewEntry) (a : ExchangeAccount) → is_live (step c e a).fate ≡ true → is_live a.fate ≡ true
live_before c e a l = by (is_live a.fate) refl
  where
    by : (b : Bool) → is_live a.fate ≡ b → is_live a.fate ≡ true
    by true i = i
    by false i = absurd (true≢false (sym l ∙ ap is_live (fate_stays c e a i) ∙ i))

pub ends_live : (c : FilterConfig) (k : Cut) (x : ExchangeAccount) → lets_pass c k ≡ false → is_live (fate_under c k x) ≡ false
ends_live c k x n = ap (λ b. is_live (if b then x.fate else if is_some x.response.course.head then Aborted else by_reply (reply_to k (is_to_head x)))) n ∙ by (is_some x.response.course.head)
  where
    by : (b : Bool) → is_live (if b then Aborted else by_reply (reply_to k (is_to_head x))) ≡ false
    by true = refl
    by false = by_reply_ends (reply_to k (is_to_head x))

fault_passes : (c : FilterConfig) (d : Direction) (a : ExchangeAccount) (k : Cut) → fault_cut a d ≡ Some k → lets_pass c k ≡ false
fault_passes c Request a k e = by a.request.course.original.fault e
  where
    by : (o : Option Fault) → option_map (λ f. Peer (status_of f)) o ≡ Some k → lets_pass c k ≡ false
    by None e = absurd cc
    by (Some f) e = ap (λ o. passes o) (sym e)
      where
        passes : Option Cut → Bool
        passes None = false
        passes (Some x) = lets_pass c x
fault_passes c Response a k e = by a.response.course.original.fault e
  where
    by : (o : Option Fault) → option_map (λ f. Peer 502) o ≡ Some k → lets_pass c k ≡ false
    by None e = absurd cc
    by (Some f) e = ap (λ o. passes o) (sym e)
      where
        passes : Option Cut → Bool
        passes None = false
        passes (Some x) = lets_pass c x

-- no cut of a side lets the rest pass
pub side_ends : (c : FilterConfig) (d : Direction) (a : ExchangeAccount) (f o : Bool) (k : Cut) → read_cut f o d (fault_cut a d) ≡ Some k → lets_pass c k ≡ false
side_ends c d a true o k e = absurd cc
side_ends c d a false true k e = ap (λ o. passes o) (sym e)
  where
    passes : Option Cut → Bool
    passes None = false
    passes (Some x) = lets_pass c x
side_ends c d a false false k e = fault_passes c d a k e

no_fault : (d : Direction) (a : ExchangeAccount) → fault_cut a d ≡ None → (course d a).original.fault ≡ None
no_fault Request a e = by a.request.course.original.fault e
  where
    by : (o : Option Fault) → option_map (λ f. Peer (status_of f)) o ≡ None → o ≡ None
    by None e = refl
    by (Some f) e = absurd cc
no_fault Response a e = by a.response.course.original.fault e
  where
    by : (o : Option Fault) → option_map (λ f. Peer 502) o ≡ None → o ≡ None
    by None e = refl
    by (Some f) e = absurd cc

unread_before : (o o' : Original) → Extends o o' → o'.head ≡ None → o.head ≡ None
unread_before o o' (inl e) n = sym (ap (λ x. x.head) e) ∙ n
unread_before o o' (inr (inl e)) n = e
unread_before o o' (inr (inr l)) n = sym l.head ∙ n

unread_given : (c : FilterConfig) (d : Direction) (a : ExchangeAccount) → Steady c a → (course d a).original.head ≡ None → is_finished c a ≡ false
unfolding is_finished is_given
unread_given c d a s n = of d ((sound_in d c a s.along.held).head_read n).0
  where
    and_false : (b : Bool) → (b && false) ≡ false
    and_false true = refl
    and_false false = refl

    of : (d : Direction) → (course d a).head ≡ None → is_finished c a ≡ false
    of Request e = ap (λ o. is_given_at Request o (changed c.course Request a.request.course) (front Request a) a.request.given && is_given c a Response) e
    of Response e =
        ap (λ o. is_given c a Request && is_given_at Response o (changed c.course Response a.response.course) (front Response a) a.response.given) e
        ∙ and_false (is_given c a Request)

none_left : (f o : Bool) (d : Direction) (k : Option Cut) → f ≡ false → read_cut f o d k ≡ None → k ≡ None
none_left true o d k e n = absurd (true≢false e)
none_left false true d k e n = absurd cc
none_left false false d k e n = n

abbrev pub Unbroken : Original → Type 0
Unbroken o = o.head ≡ None → o.fault ≡ None

-- an entry of the side leaves it without a fault, or ends the exchange
side_unbroken : (c : FilterConfig) (h : List Call) (s : Side) (e : ViewEntry) → IsHistory c (Stepped e ∷ h) → IsReadOf s e → is_live (step c e (account c h)).fate ≡ true
    → Unbroken (course (from s) (gathered e (account c h))).original
side_unbroken c h s e y r l n = no_fault (from s) g (none_left (is_finished c a) (is_over c.course (course (from s) g)) (from s) (fault_cut g (from s)) unfinished none)
  where
    a : ExchangeAccount
    a = account c h

    g : ExchangeAccount
    g = gathered e a

    t : Steady c a
    t = steady c h y.0

    live : is_live a.fate ≡ true
    live = live_before c e a l

    unfinished : is_finished c a ≡ false
    unfinished =
        unread_given c (from s) a t (unread_before (course (from s) a).original (course (from s) g).original
        (extends_in (from s) e a (reads_on c e a t.along.read t.along.held (fits c h e y.1))) n)

    stays : is_departure e g ≡ false
    stays = by (is_departure e g) refl
      where
        by : (b : Bool) → is_departure e g ≡ b → is_departure e g ≡ false
        by false i = i
        by true i = absurd (true≢false (sym l ∙ ap is_live (left_fate c e a live i)))

    is : cut c e g ≡ read_cut (is_finished c a) (is_over c.course (course (from s) g)) (from s) (fault_cut g (from s))
    is = side_cut c h s e y r live

    none : read_cut (is_finished c a) (is_over c.course (course (from s) g)) (from s) (fault_cut g (from s)) ≡ None
    none = by (cut c e g) refl
      where
        by : (o : Option Cut) → cut c e g ≡ o → read_cut (is_finished c a) (is_over c.course (course (from s) g)) (from s) (fault_cut g (from s)) ≡ None
        by None i = sym is ∙ i
        by (Some k) i =
            absurd (true≢false (sym l ∙ ap is_live (cut_fate c e a k live stays i) ∙ ends_live c k (settled c g) (side_ends c (from s) g (is_finished c a) (is_over c.course (course (from s) g)) k (sym is ∙ i))))

-- it brings more of this direction, or nothing
nothing_new : (d : Direction) (e : ViewEntry) (a : ExchangeAccount) → ((s : Side) × IsReadOf s e × (from s ≡ d)) ⊎ ((course d (gathered e a)).original ≡ (course d a).original)
unfolding gathered brought
nothing_new Request (Bytes Client bytes) a = inl (Client, tt, refl)
nothing_new Request (End Client) a = inl (Client, tt, refl)
nothing_new Response (Bytes Upstream bytes) a = inl (Upstream, tt, refl)
nothing_new Response (End Upstream) a = inl (Upstream, tt, refl)
nothing_new Response (Bytes Client bytes) a = inr refl
nothing_new Response (End Client) a = inr refl
nothing_new Request (Bytes Upstream bytes) a = inr refl
nothing_new Request (End Upstream) a = inr refl
nothing_new Request (Lost Client how) a = inr refl
nothing_new Request (Lost Upstream how) a = inr refl
nothing_new Response (Lost Client how) a = inr refl
nothing_new Response (Lost Upstream how) a = inr refl
nothing_new Request (Given Client bytes) a = inr refl
nothing_new Request (Given Upstream bytes) a = inr refl
nothing_new Response (Given Client bytes) a = inr refl
nothing_new Response (Given Upstream bytes) a = inr refl
nothing_new Request (Answered x) a = inr refl
nothing_new Response (Answered x) a = inr refl
nothing_new Request TooLong a = inr refl
nothing_new Response TooLong a = inr refl
nothing_new Request (Closed clean) a = inr refl
nothing_new Response (Closed clean) a = inr refl
nothing_new Request NoStream a = inr refl
nothing_new Response NoStream a = inr refl
nothing_new Request (Tick n) a = inr refl
nothing_new Response (Tick n) a = inr refl
nothing_new Request Starved a = inr refl
nothing_new Response Starved a = inr refl
nothing_new Request Sent a = inr refl
nothing_new Response Sent a = inr refl

given_nothing : (s : Side) (d : Direction) (bytes : List ℕ) (a : ExchangeAccount) → (course d (gathered (Given s bytes) a)).original ≡ (course d a).original
unfolding gathered
given_nothing Client Request bytes a = refl
given_nothing Client Response bytes a = refl
given_nothing Upstream Request bytes a = refl
given_nothing Upstream Response bytes a = refl

original_next : (c : FilterConfig) (d : Direction) (e : ViewEntry) (a : ExchangeAccount) → is_live a.fate ≡ true → (course d (step c e a)).original ≡ (course d (gathered e a)).original
original_next c Request e a l = (rest_stays c e a l).request.original
original_next c Response e a l = (rest_stays c e a l).response.original

pub unbroken : (c : FilterConfig) (h : List Call) → IsHistory c h → is_live (account c h).fate ≡ true → (d : Direction) → Unbroken (course d (account c h)).original
unfolding after
unbroken c [] y l Request n = refl
unbroken c [] y l Response n = refl
unbroken c (Stepped e ∷ h) y l d n =
    let live = live_before c e (account c h) l in
    let i = original_next c d e (account c h) live in
    ap (λ o. o.fault) i ∙ by (unbroken c h y.0 live d) (nothing_new d e (account c h)) (sym (ap (λ o. o.head) i) ∙ n)
  where
    by : Unbroken (course d (account c h)).original → ((s : Side) × IsReadOf s e × (from s ≡ d)) ⊎ ((course d (gathered e (account c h))).original ≡ (course d (account c h)).original)
        → Unbroken (course d (gathered e (account c h))).original
    by u (inl (s, r, k)) m = subst (λ x. Unbroken (course x (gathered e (account c h))).original) k (side_unbroken c h s e y r l) m
    by u (inr k) m = ap (λ o. o.fault) k ∙ u (sym (ap (λ o. o.head) k) ∙ m)
unbroken c (Took s (taken.Piece bytes) ∷ h) y l d n =
    let e : ViewEntry = Given s bytes in
    let live = live_before c e (account c h) l in
    let i = original_next c d e (account c h) live ∙ given_nothing s d bytes (account c h) in
    ap (λ o. o.fault) i ∙ unbroken c h y.0 live d (sym (ap (λ o. o.head) i) ∙ n)
unbroken c (Took s taken.Nothing ∷ h) y l d n = unbroken c h y.0 l d n
unbroken c (Took s taken.Done ∷ h) y l d n = unbroken c h y.0 l d n
unbroken c (Took s taken.Abort ∷ h) y l d n = unbroken c h y.0 l d n
unbroken c (Took s taken.Gone ∷ h) y l d n = unbroken c h y.0 l d n
unbroken c (Nexted x ∷ h) y l d n = unbroken c h y.0 l d n
unbroken c (Failed ∷ h) y l d n = unbroken c h y.0 l d n

-- What the reader of a direction has read

pub original_of : (d : Direction) (a : ExchangeAccount) → Read a → original (source_of d a) ≡ (course d a).original
original_of Request a r = reads_is_reader.request false (is_to_head a) a.request.brought a.request.ended ∙ sym r.request
original_of Response a r = sym r.response

pub tied_original : (c : FilterConfig) (d : Direction) (g a : ExchangeAccount) (n : ℕ) (w : Option ℕ) (x : Flow) (t : FlowTies c d g a n w x) → Read g → original t.story.source ≡ (course d g).original
tied_original c d g a n w x t r = ap original t.source ∙ original_of d g r

-- no head is bad
readable : (d : Direction) (bytes : List ℕ) (e : Bool) (r : Reading Head) → (read_by d bytes e r).head ≡ None → (read_by d bytes e r).fault ≡ None → r ≡ Partial
readable d bytes e (Whole h rest) n f = absurd cc
readable d bytes e Partial n f = refl
readable d bytes e (Bad x) n f = absurd cc

pub is_readable : (s : Story) → Unbroken (original s.source) → IsReadable s
unfolding reads
is_readable s u n = readable s.source.direction s.source.brought s.source.ended (reading_of s.source) n (u n)

pub dead_room : (c : FilterConfig) (a : ExchangeAccount) (s : Side) → is_live a.fate ≡ false → room c a s ≡ 0
unfolding room
dead_room c a s e =
    ap (λ b. if not b || (course (from s) a).original.whole || not (is_awaited s a) then 0
    else if is_some (course (from s) a).original.head then body_room c.course (from s) (course (from s) a) else head_room c.course.piece (from s) (flow (from s) a).brought) e

pub unawaited_room : (c : FilterConfig) (a : ExchangeAccount) (s : Side) → is_awaited s a ≡ false → room c a s ≡ 0
unfolding room
unawaited_room c a s e =
    ap (λ b. if not (is_live a.fate) || (course (from s) a).original.whole || not b then 0
    else if is_some (course (from s) a).original.head then body_room c.course (from s) (course (from s) a) else head_room c.course.piece (from s) (flow (from s) a).brought) e
    ∙ by (not (is_live a.fate) || (course (from s) a).original.whole)
  where
    by : (b : Bool) → (if b || true then 0 else if is_some (course (from s) a).original.head then body_room c.course (from s) (course (from s) a) else head_room c.course.piece (from s) (flow (from s) a).brought) ≡ 0
    by true = refl
    by false = refl

abbrev pub room_by : Bool → Bool → ℕ → ℕ → ℕ
room_by whole read body head = if whole then 0 else if read then body else head

pub live_room : (c : FilterConfig) (a : ExchangeAccount) (s : Side) → is_live a.fate ≡ true → is_awaited s a ≡ true
    → room c a s ≡ room_by (course (from s) a).original.whole (is_some (course (from s) a).original.head) (body_room c.course (from s) (course (from s) a)) (head_room c.course.piece (from s) (flow (from s) a).brought)
unfolding room
live_room c a s l w =
    ap (λ b. if not b || (course (from s) a).original.whole || not (is_awaited s a) then 0 else R) l
    ∙ ap (λ b. if (course (from s) a).original.whole || not b then 0 else R) w
    ∙ by (course (from s) a).original.whole
  where
    R : ℕ
    R = if is_some (course (from s) a).original.head then body_room c.course (from s) (course (from s) a) else head_room c.course.piece (from s) (flow (from s) a).brought

    by : (b : Bool) → (if b || false then 0 else R) ≡ (if b then 0 else R)
    by true = refl
    by false = refl

-- of a flow that stands as in the account
pub flow_room : (c : FilterConfig) (a : ExchangeAccount) (d : Direction) (n : ℕ) (w : Option ℕ) (x : Flow) (t : FlowTies c d a a n w x) → Read a → HasSizes c → is_live a.fate ≡ true
    → room_of t.story ≡ room_by (course d a).original.whole (is_some (course d a).original.head) (body_room c.course d (course d a)) (head_room c.course.piece d (flow d a).brought)
unfolding body_room
flow_room c a d n w x t r z l =
    let i : original t.story.source ≡ (course d a).original = tied_original c d a a n w x t r in
    let s : Story = t.story in
    ap (λ o. room_by o.whole (is_some o.head) (body_room s.past.config s.past.direction (half.course s.past)) (min 16_384 (32_768 - length (head_so_far s.source.direction s.source.brought)))) i
    ∙ ap (λ k. room_by (course d a).original.whole (is_some (course d a).original.head) (body_room k s.past.direction (half.course s.past)) (min 16_384 (32_768 - length (head_so_far s.source.direction s.source.brought)))) t.config
    ∙ ap (λ k. room_by (course d a).original.whole (is_some (course d a).original.head) (body_room c.course k (half.course s.past)) (min 16_384 (32_768 - length (head_so_far s.source.direction s.source.brought)))) t.way
    ∙ ap (λ k. room_by (course d a).original.whole (is_some (course d a).original.head) (body_room c.course d k) (min 16_384 (32_768 - length (head_so_far s.source.direction s.source.brought)))) (t.told l)
    ∙ ap (λ k. room_by (course d a).original.whole (is_some (course d a).original.head) (body_room c.course d (course d a)) (min 16_384 (32_768 - length (head_so_far k.direction k.brought)))) t.source
    ∙ ap (λ k. room_by (course d a).original.whole (is_some (course d a).original.head) (body_room c.course d (course d a)) (min k (32_768 - length (head_so_far d (flow d a).brought)))) (sym z.piece)

-- a side that brings nothing more
pub over_is : (c : FilterConfig) (a : ExchangeAccount) (s : Side) (n : ℕ) (w : Option ℕ) (x : Flow) (t : FlowTies c (from s) a a n w x) → Read a → is_live a.fate ≡ true
    → ((original t.story.source).whole || t.story.source.ended || x.lost) ≡ is_over_for a s
over_is c a s n w x t r l =
    ap (λ o. o.whole || t.story.source.ended || x.lost) (tied_original c (from s) a a n w x t r)
    ∙ ap (λ k. (course (from s) a).original.whole || k.ended || x.lost) t.source
    ∙ ap (λ b. (course (from s) a).original.whole || (flow (from s) a).ended || b) t.lost
    ∙ sym (ap (λ b. not b || (course (from s) a).original.whole || (flow (from s) a).ended || (flow (from s) a).lost) l)

pub flow_readable : (c : FilterConfig) (h : List Call) (d : Direction) (n : ℕ) (w : Option ℕ) (x : Flow) (t : FlowTies c d (account c h) (account c h) n w x) → IsHistory c h
    → is_live (account c h).fate ≡ true → IsReadable t.story
flow_readable c h d n w x t y l =
    is_readable t.story (subst Unbroken (sym (tied_original c d (account c h) (account c h) n w x t (steady c h y).along.read)) (unbroken c h y l d))
