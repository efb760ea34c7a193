-- What the bytes or the end of a side come to in an exchange.
use Rattle.std.proofs.Common.{refl, sym, ◌∙◌, ap, subst, arith}
use Rattle.std.proofs.lemmas.List.{length-drop}
use Rattle.std.specs.Prelude.{ℕ, ◌+◌, ◌≡◌, ◌≤◌, Bool, true, false, not, ◌||◌, List, [], ◌++◌, Option, Some, None, length, map, drop, if◌then◌else◌, is_some, slice_get, filter_map, option_map}
use Rattle.http_model.specs.Bytes.{is_empty}
use Rattle.http_model.specs.Wire.{local_reply}
use Rattle.http_model.specs.declared.types.Direction.{Direction}
use Rattle.http_model.specs.declared.types.Direction.TheVariants.{Request, Response}
use Rattle.http_model.proofs.ReadsOn.{reads_is_reader}
use Rattle.filter_model.specs.Account as account
use Rattle.filter_model.specs.Account.{ExchangeAccount, Aborted, Live, Replied, brought, course, direction_of, flow, front, from, gathered, is_finished, is_given, is_head_request, is_out_in, is_to_head, settled, to}
use Rattle.filter_model.specs.Config.{FilterConfig}
use Rattle.filter_model.specs.Course.{body_room}
use Rattle.filter_model.specs.Cut.{Cut, Over, Peer, fault_cut}
use Rattle.filter_model.specs.Right.{Call, account, ask_given, end_given}
use Rattle.filter_model.specs.Sides.{IsReadOf, read_cut}
use Rattle.filter_model.specs.Step.{after, by_reply, cut, fate_under, is_live, lets_pass, reply_to, step}
use Rattle.filter_model.specs.Told.{IsOfSides}
use Rattle.filter_model.specs.ToldMore.{Arrives, SameRest}
use Rattle.filter_model.specs.View.{ViewEntry, Bytes, End}
use Rattle.filter_model.specs.declared.calls.Side.{Side}
use Rattle.filter_model.specs.declared.calls.Side.TheVariants.{Client, Upstream}
use Rattle.filter_model.proofs.AtRest.{steady}
use Rattle.filter_model.proofs.EndsUntold.{ends_given, ends_made}
use Rattle.filter_model.proofs.EntryFits.{grown_within, is_short}
use Rattle.filter_model.proofs.GivenRight.{fits}
use Rattle.filter_model.proofs.RestStays.{cut_fate, rest_stays}
use Rattle.filter_model.proofs.ToldEntry.{arrives_on}
use Rattle.h1_message.specs.Source.{IsNews, original}
use Rattle.h1_message.specs.declared.news.News.{News}
use Rattle.exchange.specs.Answering.{unsettled}
use Rattle.exchange.specs.Moves.{replied_in}
use Rattle.exchange.specs.Reading.{IsBefore, IsTaking, MayLearn, status_in}
use Rattle.exchange.specs.Stands.{AtRest, FlowTies, IsFate, IsGivenBy, ExchangeTies, handed_out, source_of, written_reply}
use Rattle.exchange.specs.declared.exchange.Exchange.{Exchange}
use Rattle.exchange.specs.declared.fate.Fate.TheVariants as fates
use Rattle.exchange.specs.declared.fate.GivenWhole.{GivenWhole}
use Rattle.exchange.specs.declared.flow.Flow.{Flow}
use Rattle.exchange.proofs.ReadingRests.{FlowLeft, ties_of_left}
use Rattle.exchange.proofs.ReadingRoom.{ends_live}
use Rattle.exchange.proofs.TimingTies.{none_waits}
use Rattle.exchange.proofs.GivingReplied.{early_head}

-- What the bytes or the end of a side leave

pub of_sides : (s : Side) (e : ViewEntry) → IsReadOf s e → IsOfSides e
of_sides Client (Bytes Client bytes) r = tt
of_sides Client (End Client) r = tt
of_sides Upstream (Bytes Upstream bytes) r = tt
of_sides Upstream (End Upstream) r = tt
of_sides _ _ r = absurd r

-- it brings nothing to the other direction
pub other_same : (s : Side) (e : ViewEntry) (a : ExchangeAccount) → IsReadOf s e → course (to s) (gathered e a) ≡ course (to s) a
unfolding gathered brought
other_same Client (Bytes Client bytes) a r = refl
other_same Client (End Client) a r = refl
other_same Upstream (Bytes Upstream bytes) a r = refl
other_same Upstream (End Upstream) a r = refl
other_same _ _ a r = absurd r

-- all but what the side brought is as before
pub record BroughtBoth (a g : ExchangeAccount) : Type 0 where
  pub request : a.request.given ≡ g.request.given
  pub response : a.response.given ≡ g.response.given
  pub made : g.made ≡ a.made
  pub sent : g.sent ≡ a.sent
  pub now : g.now ≡ a.now
  pub unopened : g.unopened ≡ a.unopened
  pub closed : g.closed ≡ a.closed

pub both_brought : (s : Side) (e : ViewEntry) (a : ExchangeAccount) → IsReadOf s e → BroughtBoth a (gathered e a)
unfolding gathered brought
both_brought Client (Bytes Client bytes) a r = record { request = refl; response = refl; made = refl; sent = refl; now = refl; unopened = refl; closed = refl }
both_brought Client (End Client) a r = record { request = refl; response = refl; made = refl; sent = refl; now = refl; unopened = refl; closed = refl }
both_brought Upstream (Bytes Upstream bytes) a r = record { request = refl; response = refl; made = refl; sent = refl; now = refl; unopened = refl; closed = refl }
both_brought Upstream (End Upstream) a r = record { request = refl; response = refl; made = refl; sent = refl; now = refl; unopened = refl; closed = refl }
both_brought _ _ a r = absurd r

-- its ties are those of the account whose stream's end isn't settled

pub request_unsettled : (c : FilterConfig) (e : ViewEntry) (a : ExchangeAccount) (n : ℕ) (w : Option ℕ) (x : Flow) → FlowTies c Request (step c e a) (step c e a) n w x → FlowTies c Request (unsettled c e a) (unsettled c e a) n w x
request_unsettled c e a n w x t = record {
  story = t.story;
  stands = t.stands;
  config = t.config;
  way = t.way;
  source = t.source;
  front = t.front;
  given = t.given;
  reply = t.reply;
  handed_on = t.handed_on;
  told = t.told;
  asks = t.asks;
  lost = t.lost;
  timer = t.timer;
  extended = t.extended;
}

pub response_unsettled : (c : FilterConfig) (e : ViewEntry) (a : ExchangeAccount) (n : ℕ) (w : Option ℕ) (x : Flow) → FlowTies c Response (step c e a) (step c e a) n w x → FlowTies c Response (unsettled c e a) (unsettled c e a) n w x
response_unsettled c e a n w x t = record {
  story = t.story;
  stands = t.stands;
  config = t.config;
  way = t.way;
  source = t.source;
  front = t.front;
  given = t.given;
  reply = t.reply;
  handed_on = t.handed_on;
  told = t.told;
  asks = t.asks;
  lost = t.lost;
  timer = t.timer;
  extended = t.extended;
}

-- What its half is told

pub side_original : (s : Side) (e : ViewEntry) (a : ExchangeAccount) → IsReadOf s e → original (source_of (from s) (gathered e a)) ≡ (course (from s) (gathered e a)).original
unfolding gathered brought
side_original Client (Bytes Client bytes) a r = reads_is_reader.request false (is_to_head a) (a.request.brought ++ bytes) (a.request.ended || false)
side_original Client (End Client) a r = reads_is_reader.request false (is_to_head a) (a.request.brought ++ []) (a.request.ended || true)
side_original Upstream (Bytes Upstream bytes) a r = refl
side_original Upstream (End Upstream) a r = refl
side_original _ _ a r = absurd r

pub may_learn : (c : FilterConfig) (h : List Call) (s : Side) (e : ViewEntry) (n : News) (r : ExchangeAccount) (x : Exchange) (w : Option ℕ) (m : ℕ) (f : Flow) → IsTaking c h s e n r x
    → (t : FlowTies c (from s) (gathered e (account c h)) (account c h) m w f) → MayLearn t.story n
may_learn c h s e n r x w m f y t =
    let a : ExchangeAccount = account c h in
    let d : Direction = from s in
    let g : ExchangeAccount = gathered e a in
    let sizes : c.course.piece ≤ c.course.mark = omega (arith, y.made.sizes.piece, y.made.sizes.mark) in
    let i : original t.story.source ≡ (course d g).original = ap original t.source ∙ side_original s e a y.reads in
    record {
      before = course d a;
      told = t.told y.live;
      arrives = subst (λ o. Arrives t.story.past.config t.story.past.direction (course d a) o) (sym i)
          (subst (λ q. Arrives t.story.past.config q (course d a) (course d g).original) (sym t.way)
          (subst (λ q. Arrives q d (course d a) (course d g).original) (sym t.config) (arrives_on c h e y.right (of_sides s e y.reads) y.live sizes d (is_short c h e y.right (of_sides s e y.reads) d))));
      is_news = subst (λ o. IsNews (course d a).original o n) (sym i) y.is_news;
      fits = λ k. room k;
    }
  where
    room : is_some (course (from s) (account c h)).original.head ≡ true → length n.body ≤ body_room t.story.past.config t.story.past.direction (course (from s) (account c h))
    room k =
        let a : ExchangeAccount = account c h in
        let d : Direction = from s in
        let g : ExchangeAccount = gathered e a in
        let grown = grown_within c e a d (steady c h y.right.0).along.read (fits c h e y.right.1) (of_sides s e y.reads) k in
        let body : length n.body ≡ length (drop (length (course d a).original.body) (course d g).original.body) = ap length y.is_news.body in
        let size = length-drop (length (course d a).original.body) (course d g).original.body in
        subst (λ q. length n.body ≤ body_room q t.story.past.direction (course d a)) (sym t.config)
        (subst (λ q. length n.body ≤ body_room c.course q (course d a)) (sym t.way) (omega (arith, grown, body, size)))

-- An entry that is a cut

no_reply : (d : Direction) (w : Option ℕ) → written_reply d w Aborted ≡ []
no_reply Request w = refl
no_reply Response None = refl
no_reply Response (Some n) = refl

reply_waits : (d : Direction) (n : ℕ) (f : account.Fate) → written_reply d (Some n) f ≡ []
reply_waits Request n f = refl
reply_waits Response n f = refl

-- the fate that a cut leaves, where it calls for a reply of this status
cut_leaves : (c : FilterConfig) (k : Cut) (g : ExchangeAccount) (status : ℕ) (committed : Bool) → lets_pass c k ≡ false → ((t : Bool) → reply_to k t ≡ Some (local_reply status))
    → committed ≡ is_some g.response.course.head → fate_under c k g ≡ (if committed then Aborted else Replied (local_reply status))
cut_leaves c k g status committed n r e =
    ap (λ b. if b then g.fate else if is_some g.response.course.head then Aborted else by_reply (reply_to k (is_to_head g))) n
    ∙ ap (λ b. if b then Aborted else by_reply (reply_to k (is_to_head g))) (sym e)
    ∙ ap (λ o. if committed then Aborted else by_reply o) (r (is_to_head g))

-- all but the fate of an exchange that an entry ends
pub ended_rests : (c : FilterConfig) (h : List Call) (e : ViewEntry) (x : Exchange) (p q : Flow) (v r : ExchangeAccount) (u : Option ℕ) (new : fates.the_data) → is_live (account c h).fate ≡ true
    → BroughtBoth (account c h) (gathered e (account c h)) → ExchangeTies c v r (account c h) (length (filter_map ask_given h)) (filter_map end_given h) x → x.to_head ≡ is_to_head (gathered e (account c h))
    → FlowLeft c Request (gathered e (account c h)) (account c h) (handed_out (length (filter_map ask_given h)) x.ready) p
    → FlowLeft c Response (gathered e (account c h)) (account c h) (handed_out (length (filter_map ask_given h)) x.ready) q
    → is_live (step c e (account c h)).fate ≡ false → ((d : Direction) → written_reply d u (step c e (account c h)).fate ≡ [])
    → IsFate c (unsettled c e (account c h)) (step c e (account c h)).fate new → ((status : ℕ) → u ≡ Some status → (step c e (account c h)).fate ≡ Replied (local_reply status))
    → AtRest c (unsettled c e (account c h)) (length (filter_map ask_given h)) (filter_map end_given h) (record x { request = p; response = q; fate = new; waiting = u })
ended_rests c h e x p q v r u new live kept ties head b d dead reply fate waits =
    let a : ExchangeAccount = account c h in
    let z : ExchangeAccount = step c e a in
    let m : ℕ = length (filter_map ask_given h) in
    let left : SameRest (gathered e a) z = rest_stays c e a live in
    let made : z.made ≡ a.made = ends_made c e a live dead in
    let sent : z.sent ≡ a.sent = left.sent ∙ kept.sent in
    record {
      request = request_unsettled c e a (handed_out m x.ready) u p (ties_of_left c Request (gathered e a) a z (handed_out m x.ready) u p left (sym kept.request) made dead (reply Request) b);
      response = response_unsettled c e a (handed_out m x.ready) u q (ties_of_left c Response (gathered e a) a z (handed_out m x.ready) u q left (sym kept.response) made dead (reply Response) d);
      order = ties.order ∙ sym (ap (λ n. map direction_of (drop n z.made)) sent ∙ ap (λ l. map direction_of (drop a.sent l)) made);
      unsent = ap (λ n. n + x.unsent) sent ∙ ties.unsent;
      within = subst (λ l. m ≤ length l) (sym made) ties.within;
      ready = λ ask j. ap (λ l. slice_get l m) made ∙ ties.ready ask j;
      now = ties.now ∙ sym (left.now ∙ kept.now);
      to_head = head ∙ sym (ap (λ o. is_head_request o.head) left.request.original);
      fate = fate;
      waiting = waits;
      stream = record {
        asked = ties.stream.asked ∙ sym (ap (λ l. not (is_empty l)) made);
        unopened = ties.stream.unopened ∙ sym (left.unopened ∙ kept.unopened);
        closed = ties.stream.closed ∙ sym (left.closed ∙ kept.closed);
        ending = ties.stream.ending;
        ended = ties.stream.ended;
      };
      alone = λ r. d.stands.outlet.framing ∙ d.alone (early_head c e a live r);
    }

pub cut_rests : (c : FilterConfig) (h : List Call) (s : Side) (e : ViewEntry) (n : News) (x : Exchange) (p q : Flow) (k : Cut) (status : ℕ) (finished committed : Bool) (given : GivenWhole)
    → (y : IsTaking c h s e n (gathered e (account c h)) x) → IsBefore c h e finished committed given
    → FlowLeft c Request (gathered e (account c h)) (account c h) (handed_out (length (filter_map ask_given h)) x.ready) p
    → FlowLeft c Response (gathered e (account c h)) (account c h) (handed_out (length (filter_map ask_given h)) x.ready) q
    → cut c e (gathered e (account c h)) ≡ Some k → lets_pass c k ≡ false → ((t : Bool) → reply_to k t ≡ Some (local_reply status))
    → AtRest c (unsettled c e (account c h)) (length (filter_map ask_given h)) (filter_map end_given h) (replied_in status committed given (record x { request = p; response = q }))
unfolding after is_given
cut_rests c h s e n x p q k status finished committed given y b v w i o r = by committed fate
  where
    a : ExchangeAccount
    a = account c h

    g : ExchangeAccount
    g = gathered e a

    z : ExchangeAccount
    z = step c e a

    m : ℕ
    m = length (filter_map ask_given h)

    fate : z.fate ≡ (if committed then Aborted else Replied (local_reply status))
    fate = cut_fate c e a k y.live y.stays i ∙ cut_leaves c k (settled c g) status committed o r b.chosen

    dead : is_live z.fate ≡ false
    dead = ap is_live (cut_fate c e a k y.live y.stays i) ∙ ends_live c k (settled c g) o

    both : IsGivenBy c (unsettled c e a) given
    both = record {
      request = b.each.request ∙ sym (ends_given c h e y.right y.live dead Request);
      response = b.each.response ∙ sym (ends_given c h e y.right y.live dead Response);
    }

    rests : (u : Option ℕ) (new : fates.the_data) → ((d : Direction) → written_reply d u z.fate ≡ []) → IsFate c (unsettled c e a) z.fate new
        → ((status : ℕ) → u ≡ Some status → z.fate ≡ Replied (local_reply status))
        → AtRest c (unsettled c e a) m (filter_map end_given h) (record x { request = p; response = q; fate = new; waiting = u })
    rests u new l t waits = ended_rests c h e x p q g g u new y.live (both_brought s e a y.reads) y.ties y.ties.to_head v w dead l t waits

    by : (b : Bool) → z.fate ≡ (if b then Aborted else Replied (local_reply status))
        → AtRest c (unsettled c e a) m (filter_map end_given h) (replied_in status b given (record x { request = p; response = q }))
    by true j =
        rests x.waiting (fates.Aborted given) (λ d. ap (written_reply d x.waiting) j ∙ no_reply d x.waiting) (subst (λ f. IsFate c (unsettled c e a) f (fates.Aborted given)) (sym j) both)
        (λ code u. absurd (none_waits a.fate (local_reply code) y.live (y.ties.waiting code u)))
    by false j =
        rests (Some status) (fates.Replied given) (λ d. reply_waits d status z.fate) (subst (λ f. IsFate c (unsettled c e a) f (fates.Replied given)) (sym j) both)
        (λ code u. j ∙ ap Replied (ap local_reply (some_is u)))
      where
        some_is : {code : ℕ} → Some status ≡ Some code → status ≡ code
        some_is u = cc

-- which cut it is, by the status of its reply
pub status_cut : (c : FilterConfig) (d : Direction) (g : ExchangeAccount) (finished over : Bool) (limit status : ℕ) (fault : Option ℕ)
    → ((t : Bool) → reply_to (Over d) t ≡ Some (local_reply limit)) → fault_cut g d ≡ option_map Peer fault → status_in finished over limit fault ≡ Some status
    → (k : Cut) × (read_cut finished over d (fault_cut g d) ≡ Some k) × ((t : Bool) → reply_to k t ≡ Some (local_reply status))
status_cut c d g true over limit status fault r f e = absurd cc
status_cut c d g false true limit status fault r f e = (Over d, refl, λ t. r t ∙ ap (λ n. Some (local_reply n)) (some_is e))
  where
    some_is : Some limit ≡ Some status → limit ≡ status
    some_is u = cc
status_cut c d g false false limit status fault r f e = (Peer status, f ∙ ap (option_map Peer) e, λ t. refl)

pub no_status : (d : Direction) (g : ExchangeAccount) (finished over : Bool) (limit : ℕ) (fault : Option ℕ) → fault_cut g d ≡ option_map Peer fault → status_in finished over limit fault ≡ None
    → read_cut finished over d (fault_cut g d) ≡ None
no_status d g true over limit fault f e = refl
no_status d g false true limit fault f e = absurd cc
no_status d g false false limit fault f e = f ∙ ap (option_map Peer) e

-- what the upstream brings changes nothing of the front
pub upstream_front : (e : ViewEntry) (a : ExchangeAccount) → IsReadOf Upstream e → front Response (gathered e a) ≡ front Response a
unfolding gathered brought
upstream_front (Bytes Upstream bytes) a r = refl
upstream_front (End Upstream) a r = refl
upstream_front _ a r = absurd r
