-- What is owed before the response once the request's head is read: nothing was handed out of the response yet.
use Rattle.std.proofs.Common.{inl, inr, refl, sym, ◌∙◌, ap, subst, arith}
use Rattle.std.proofs.lemmas.Bool.{true≢false}
use Rattle.std.specs.Prelude.{◌≡◌, Bool, true, false, List, [], ◌∷◌, ◌++◌, Option, Some, None, length, take, filter_map, is_some}
use Rattle.ext_msgs.specs.declared.modes.PartModes.{PartModes}
use Rattle.http_model.specs.declared.types.Direction.{Direction}
use Rattle.http_model.specs.declared.types.Out.{Out}
use Rattle.http_model.specs.declared.types.Out.TheVariants as part
use Rattle.filter_model.specs.Config.{CourseConfig}
use Rattle.filter_model.specs.Course.{Course, asked, committed, one_asked}
use Rattle.filter_model.specs.Half.{Answer, Asked, Bytes, End, Gave, Given, HalfCall, HalfStep, Head, Release, Sent, Settle, Told, called, one_more, parts, progress_of}
use Rattle.filter_model.specs.HalfRight.{AreSteps, has_trailers, framing_in, part_bytes, written_parts}
use Rattle.filter_model.proofs.Kept.{was_none}
use Rattle.filter_model.proofs.CourseGrows.{changed_none}
use Rattle.std.specs.Option.{option_map as mapped}
use Rattle.ext_msgs.specs.declared.lists.Field.{Field}
use Rattle.http_model.specs.Reader.{Extends}
use Rattle.http_model.specs.Reads.{Original}
use Rattle.http_model.specs.Wire.{interim}
use Rattle.http_model.specs.declared.types.Direction.TheVariants.{Request, Response}
use Rattle.filter_model.specs.Account.{ExchangeAccount, brought, course, flow, gathered, is_head_request, is_to_head}
use Rattle.filter_model.specs.Config.{FilterConfig}
use Rattle.filter_model.specs.Right.{Call, account, ask_given}
use Rattle.filter_model.specs.Sides.{IsReadOf}
use Rattle.filter_model.specs.Told.{ReadWell}
use Rattle.filter_model.specs.ToldMore.{Arrives}
use Rattle.filter_model.specs.View as view
use Rattle.filter_model.specs.View.{ViewEntry}
use Rattle.filter_model.specs.declared.calls.Side.TheVariants.{Client}
use Rattle.filter_model.proofs.AtRest.{steady}
use Rattle.filter_model.proofs.EntryFits.{is_short}
use Rattle.filter_model.proofs.GivenRight.{silent}
use Rattle.filter_model.proofs.ToldEntry.{arrives_on}
use Rattle.h1_read.specs.declared.message.Message.{Message}
use Rattle.h1_message.specs.Source.{told_to_head}
use Rattle.h1_message.specs.Stages as reads
use Rattle.h1_message.specs.declared.news.News.{News}
use Rattle.h1_message.specs.declared.reader.MessageReader.{MessageReader}
use Rattle.h1_outlet.specs.Outlets.{Flowed, all}
use Rattle.h1_outlet.specs.Stands as out
use Rattle.h1_outlet.specs.Stands.{AreNone, MayOwe}
use Rattle.h1_outlet.specs.declared.outlet.Outlet.{Outlet}
use Rattle.exchange.specs.Reading.{IsTaking, owed_flow}
use Rattle.exchange.specs.Stands.{FlowTies, handed_out, source_of}
use Rattle.exchange.specs.declared.exchange.Exchange.{Exchange}
use Rattle.exchange.proofs.Wholly.{no_reply}
use Rattle.exchange.proofs.ReadingSides.{of_sides}
use Rattle.exchange.proofs.GivingReplied.{unreplied}

call_head : (call : HalfCall) (w : Course) → (called call w).head ≡ w.head
call_head (Settle modes) w = refl
call_head (Head fields n) w = refl
call_head (Bytes bytes) w = refl
call_head (End bytes trailers) w = refl
call_head (Answer a) w = refl
call_head Release w = refl
call_head Sent w = refl
call_head (Given n) w = refl

-- a head that isn't chosen wasn't before
told_none : (c : CourseConfig) (d : Direction) (call : HalfCall) (w : Course) → (asked c d (committed c d (called call w))).head ≡ None → w.head ≡ None
unfolding asked one_asked committed
told_none c d call w e = sym (call_head call w) ∙ was_none (called call w).head _ _ e

some_none : {A : Type 0} (x : A) (o : Option A) → o ≡ Some x → o ≡ None → ⊥
some_none x None e f = cc
some_none x (Some y) e f = cc

-- before its head goes nothing is handed out
pub none_handed : (c : CourseConfig) (d : Direction) (m : PartModes) (steps : List HalfStep) → AreSteps c d m steps → (progress_of c d m steps).course.head ≡ None
    → AreNone (parts steps) × ((progress_of c d m steps).taken.head ≡ false)
unfolding progress_of one_more
none_handed c d m [] y e = (tt, refl)
none_handed c d m (Told call ∷ steps) y e = none_handed c d m steps y.0 (told_none c d call (progress_of c d m steps).course e)
none_handed c d m (Asked ∷ steps) y e = none_handed c d m steps y.0 e
none_handed c d m (Gave part.Nothing ∷ steps) y e = none_handed c d m steps y.0 e
none_handed c d m (Gave (part.Head fields framing) ∷ steps) y e = absurd (some_none _ _ y.1.1 (changed_none c d (progress_of c d m steps).course e))
none_handed c d m (Gave (part.Data bytes) ∷ steps) y e = absurd (true≢false (sym y.1.0 ∙ (none_handed c d m steps y.0 e).1))
none_handed c d m (Gave (part.Trailers fields) ∷ steps) y e = absurd (true≢false (sym y.1.0.head ∙ (none_handed c d m steps y.0 e).1))
none_handed c d m (Gave part.End ∷ steps) y e = absurd (true≢false (sym y.1.0.head ∙ (none_handed c d m steps y.0 e).1))

pub none_written : (d : Direction) (outs : List Out) → AreNone outs → (framing_in outs ≡ None) × (written_parts d outs ≡ [])
none_written d [] m = (refl, refl)
none_written d (part.Nothing ∷ outs) m =
    let k = none_written d outs m in (
      k.0,
      ap (λ l. l ++ part_bytes d (framing_in outs) (has_trailers outs) part.Nothing) k.1 ∙ ap (λ o. part_bytes d o (has_trailers outs) part.Nothing) k.0,
    )
none_written d (part.Head fields own ∷ outs) m = absurd m
none_written d (part.Data bytes ∷ outs) m = absurd m
none_written d (part.Trailers fields ∷ outs) m = absurd m
none_written d (part.End ∷ outs) m = absurd m

-- The request's head comes

taking_arrives : (c : FilterConfig) (h : List Call) (e : ViewEntry) (n : News) (r : ExchangeAccount) (x : Exchange) → IsTaking c h Client e n r x
    → Arrives c.course Request (course Request (account c h)) (course Request (gathered e (account c h))).original
taking_arrives c h e n r x y =
    arrives_on c h e y.right (of_sides Client e y.reads) y.live (omega (arith, y.made.sizes.piece, y.made.sizes.mark)) Request (is_short c h e y.right (of_sides Client e y.reads) Request)

none_read : (c : FilterConfig) (h : List Call) (e : ViewEntry) (n : News) (r : ExchangeAccount) (x : Exchange) (m : Message) → IsTaking c h Client e n r x → n.head ≡ Some m → (account c h).request.course.original.head ≡ None
none_read c h e n r x m y k = by (account c h).request.course.original.head refl
  where
    by : (o : Option (List Field)) → (account c h).request.course.original.head ≡ o → (account c h).request.course.original.head ≡ None
    by None i = i
    by (Some v) i = absurd (some_none m n.head k (y.is_news.once (ap is_some i)))

pub none_brought : (c : FilterConfig) (h : List Call) (e : ViewEntry) (n : News) (x : Exchange) (m : Message) → (y : IsTaking c h Client e n (account c h) x) → n.head ≡ Some m → y.ties.response.story.source.brought ≡ []
none_brought c h e n x m y k =
    let s = (steady c h y.right.0).along in
    ap (λ q. q.brought) y.ties.response.source ∙ s.read.later (s.held.request.head_read (none_read c h e n (account c h) x m y k)).0

headless : (c : FilterConfig) (h : List Call) (e : ViewEntry) (n : News) (x : Exchange) (m : Message) → IsTaking c h Client e n (account c h) x → n.head ≡ Some m → (account c h).response.course.head ≡ None
headless c h e n x m y k =
    let s = (steady c h y.right.0).along in
    (s.held.response.head_read (s.held.later (s.held.request.head_read (none_read c h e n (account c h) x m y k)).0)).0

pub may_owe : (c : FilterConfig) (h : List Call) (e : ViewEntry) (n : News) (x : Exchange) (m : Message) → (y : IsTaking c h Client e n (account c h) x) → n.head ≡ Some m → MayOwe y.ties.response.story.flowed
may_owe c h e n x m y k =
    let t = y.ties.response in
    let s = (steady c h y.right.0).along in
    let f = t.story.flowed in
    let none : AreNone (parts t.story.past.steps) =
    (none_handed t.story.past.config t.story.past.direction t.story.past.modes t.story.past.steps t.stands.is_past (ap (λ w. w.head) (t.told y.live) ∙ headless c h e n x m y k)).0 in
    let none_out : AreNone f.parts = subst AreNone (sym t.stands.parts) none in
    let front : f.front ≡ [] = t.front ∙ silent (account c h) s.read (none_read c h e n (account c h) x m y k) in
    let reply : f.reply ≡ [] = t.reply ∙ no_reply Response x.waiting (account c h).fate y.live in
    let all_none : all f ≡ [] =
    ap (λ l. l ++ written_parts f.direction f.parts ++ f.reply) front ∙ ap (λ l. [] ++ l ++ f.reply) (none_written f.direction f.parts none_out).1 ∙ reply in
    record { front = front; parts = none_out; reply = reply; given = omega (arith, t.stands.outlet.within, ap length all_none) }

response_source : (e : ViewEntry) (a : ExchangeAccount) (b : Bool) → IsReadOf Client e → b ≡ is_to_head (gathered e a) → told_to_head b (source_of Response a) ≡ source_of Response (gathered e a)
unfolding gathered brought
response_source (view.Bytes Client bytes) a b r e = ap (λ q. told_to_head q (source_of Response a)) e
response_source (view.End Client) a b r e = ap (λ q. told_to_head q (source_of Response a)) e
response_source _ a b r e = absurd r

pub response_lost : (e : ViewEntry) (a : ExchangeAccount) → IsReadOf Client e → (flow Response (gathered e a)).lost ≡ (flow Response a).lost
unfolding gathered brought
response_lost (view.Bytes Client bytes) a r = refl
response_lost (view.End Client) a r = refl
response_lost _ a r = absurd r

owed_front : (b : Bool) (f : Flowed) (expects : Bool) → f.front ≡ [] → b ≡ expects → (owed_flow b f).front ≡ interim expects
unfolding interim
owed_front true f expects e i = ap interim i
owed_front false f expects e i = e ∙ ap interim i

owed_outlet : (b : Bool) (f : Flowed) → ((owed_flow b f).parts ≡ f.parts) × ((owed_flow b f).direction ≡ f.direction) × ((owed_flow b f).reply ≡ f.reply) × ((owed_flow b f).given ≡ f.given)
owed_outlet true f = (refl, refl, refl, refl)
owed_outlet false f = (refl, refl, refl, refl)

pub owed : (c : FilterConfig) (h : List Call) (e : ViewEntry) (n : News) (x : Exchange) (m : Message) (b : Bool) (reader : MessageReader) (outlet : Outlet) (y : IsTaking c h Client e n (account c h) x) → n.head ≡ Some m
    → b ≡ is_head_request (Some m.head) → reads.StandsFor (told_to_head b y.ties.response.story.source) reader → out.StandsFor (owed_flow m.expects y.ties.response.story.flowed) outlet
    → IsTaking c h Client e n (gathered e (account c h)) (record x { to_head = b; response = record x.response { reader = reader; outlet = outlet } })
owed c h e n x m b reader outlet y k i r o = record {
  right = y.right;
  made = record { sizes = y.made.sizes; settings = y.made.settings };
  live = y.live;
  reads = y.reads;
  stays = y.stays;
  is_news = y.is_news;
  ties = record {
    request = y.ties.request;
    response = flow_owed;
    order = y.ties.order;
    unsent = y.ties.unsent;
    within = y.ties.within;
    ready = y.ties.ready;
    now = y.ties.now;
    to_head = to_head;
    fate = y.ties.fate;
    waiting = y.ties.waiting;
    stream = y.ties.stream;
    alone = λ q. absurd (unreplied a.fate y.live q);
  };
}
  where
    a : ExchangeAccount
    a = account c h

    t : FlowTies c Response a a (handed_out (length (filter_map ask_given h)) x.ready) x.waiting x.response
    t = y.ties.response

    to_head : b ≡ is_to_head (gathered e a)
    to_head = i ∙ ap is_head_request (sym (ap (mapped (λ (v : Message). v.head)) k) ∙ y.is_news.head (none_read c h e n a x m y k))

    may : MayOwe y.ties.response.story.flowed
    may = may_owe c h e n x m y k

    kept : ((owed_flow m.expects t.story.flowed).parts ≡ t.story.flowed.parts) × ((owed_flow m.expects t.story.flowed).direction ≡ t.story.flowed.direction)
        × ((owed_flow m.expects t.story.flowed).reply ≡ t.story.flowed.reply) × ((owed_flow m.expects t.story.flowed).given ≡ t.story.flowed.given)
    kept = owed_outlet m.expects t.story.flowed

    flow_owed : FlowTies c Response (gathered e a) a (handed_out (length (filter_map ask_given h)) x.ready) x.waiting (record x.response { reader = reader; outlet = outlet })
    flow_owed = record {
      story = record { source = told_to_head b t.story.source; past = t.story.past; flowed = owed_flow m.expects t.story.flowed };
      stands = record { reader = r; half = t.stands.half; outlet = o; is_past = t.stands.is_past; parts = kept.0 ∙ t.stands.parts; way = kept.1 ∙ t.stands.way };
      config = t.config;
      way = t.way;
      source = ap (told_to_head b) t.source ∙ response_source e a b y.reads to_head;
      front = owed_front m.expects t.story.flowed (gathered e a).request.course.original.expects may.front (y.is_news.stated m k).1;
      given = t.given ∙ ap (λ q. take q (all t.story.flowed)) may.given ∙ sym (ap (λ q. take q (all (owed_flow m.expects t.story.flowed))) (kept.3 ∙ may.given));
      reply = kept.2 ∙ t.reply;
      handed_on = t.handed_on;
      told = t.told;
      asks = t.asks;
      lost = t.lost ∙ sym (response_lost e a y.reads);
      timer = t.timer;
      extended = t.extended;
    }

-- No head comes

-- what is owed, and whether the request is a HEAD, stay
pub same_request : (o o' : Original) → ReadWell o → ReadWell o' → Extends o o' → (o.head ≡ None → o'.head ≡ None) → (is_head_request o'.head ≡ is_head_request o.head) × (interim o'.expects ≡ interim o.expects)
same_request o o' r r' (inl e) k = (ap (λ q. is_head_request q.head) e, ap (λ q. interim q.expects) e)
same_request o o' r r' (inr (inl n)) k =
    let u = r.unread n in
    let v = r'.unread (k n) in
    (ap is_head_request (k n ∙ sym n), ap (λ q. interim q.expects) v.1 ∙ sym (ap (λ q. interim q.expects) u.1))
same_request o o' r r' (inr (inr l)) k = (ap is_head_request l.head, ap interim l.expects)

pub same_source : (e : ViewEntry) (a : ExchangeAccount) → IsReadOf Client e → is_to_head (gathered e a) ≡ is_to_head a → source_of Response a ≡ source_of Response (gathered e a)
unfolding gathered brought
same_source (view.Bytes Client bytes) a r e = ap (λ q. told_to_head q (source_of Response a)) (sym e)
same_source (view.End Client) a r e = ap (λ q. told_to_head q (source_of Response a)) (sym e)
same_source _ a r e = absurd r

pub none_owed : (c : FilterConfig) (h : List Call) (e : ViewEntry) (n : News) (x : Exchange) → IsTaking c h Client e n (account c h) x → n.head ≡ None → IsTaking c h Client e n (gathered e (account c h)) x
none_owed c h e n x y k = record {
  right = y.right;
  made = y.made;
  live = y.live;
  reads = y.reads;
  stays = y.stays;
  is_news = y.is_news;
  ties = record {
    request = y.ties.request;
    response = record {
      story = t.story;
      stands = t.stands;
      config = t.config;
      way = t.way;
      source = t.source ∙ same_source e a y.reads same.0;
      front = t.front ∙ sym same.1;
      given = t.given;
      reply = t.reply;
      handed_on = t.handed_on;
      told = t.told;
      asks = t.asks;
      lost = t.lost ∙ sym (response_lost e a y.reads);
      timer = t.timer;
      extended = t.extended;
    };
    order = y.ties.order;
    unsent = y.ties.unsent;
    within = y.ties.within;
    ready = y.ties.ready;
    now = y.ties.now;
    to_head = y.ties.to_head ∙ sym same.0;
    fate = y.ties.fate;
    waiting = y.ties.waiting;
    stream = y.ties.stream;
    alone = y.ties.alone;
  };
}
  where
    a : ExchangeAccount
    a = account c h

    t : FlowTies c Response a a (handed_out (length (filter_map ask_given h)) x.ready) x.waiting x.response
    t = y.ties.response

    arrives : Arrives c.course Request (course Request a) (course Request (gathered e a)).original
    arrives = taking_arrives c h e n a x y

    same : (is_to_head (gathered e a) ≡ is_to_head a) × (interim (gathered e a).request.course.original.expects ≡ interim a.request.course.original.expects)
    same =
        same_request (course Request a).original (course Request (gathered e a)).original arrives.before arrives.after arrives.extends
        (λ i. sym (y.is_news.head i) ∙ ap (mapped (λ (v : Message). v.head)) k)
