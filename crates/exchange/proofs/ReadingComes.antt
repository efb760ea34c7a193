-- The bytes or the end of a side come: its reader is ahead.
use Rattle.std.proofs.Common.{refl, sym, ◌∙◌, ap, subst, arith}
use Rattle.std.proofs.lemmas.List.{append-nil, length-take}
use Rattle.std.specs.Prelude.{ℕ, ◌≡◌, ◌≤◌, not, min, take, Result, Ok, Err, OnErr, ◌||◌, Bool, true, false, List, [], ◌∷◌, ◌++◌, Option, None, length}
use Rattle.http_model.specs.Bytes.{is_empty}
use Rattle.http_model.specs.Reads.{reads}
use Rattle.http_model.specs.declared.types.Direction.{Direction}
use Rattle.http_model.specs.declared.types.Direction.TheVariants.{Request, Response}
use Rattle.filter_model.specs.Account.{ExchangeAccount, brought, course, flow, from, front, gathered, is_to_head}
use Rattle.filter_model.specs.Config.{FilterConfig}
use Rattle.filter_model.specs.Right.{Call, Failed, IsHistory, May, Stepped, account}
use Rattle.filter_model.specs.Sides.{IsReadOf}
use Rattle.filter_model.specs.Step.{is_departure, is_live}
use Rattle.filter_model.specs.View.{ViewEntry, Bytes, End}
use Rattle.filter_model.specs.declared.calls.Side.{Side}
use Rattle.filter_model.specs.declared.calls.Side.TheVariants.{Client, Upstream}
use Rattle.filter_model.proofs.AtRest.{steady}
use Rattle.filter_model.proofs.ReadAlong.{Read}
use Rattle.http_model.proofs.ReadsOn.{reads_is_reader}
use Rattle.h1_message.specs.Source.{IsNews, Source, original}
use Rattle.h1_message.specs.Stages as stages
use Rattle.h1_message.specs.declared.news.News.{News}
use Rattle.h1_message.specs.declared.reader.MessageReader.{MessageReader}
use Rattle.exchange.specs.Reading.{IsTaking}
use Rattle.exchange.specs.Stands.{FlowTies, IsAfter, source_of}
use Rattle.exchange.specs.declared.exchange.Exchange.{Exchange}
use Rattle.exchange.specs.declared.flow.Flow.{Flow}
use Rattle.exchange.proofs.ReadingRoom.{original_of}
use Rattle.exchange.proofs.ReadingSides.{side_original, upstream_front}

pub failed_step : (c : FilterConfig) (h : List Call) (x : Exchange) → IsAfter c h x → IsAfter c (Failed ∷ h) x
failed_step c h x s = record { right = (s.right, tt); made = s.made; ties = s.ties }

-- a direction whose reader goes ahead
pub flow_comes : (c : FilterConfig) (d : Direction) (g a : ExchangeAccount) (n : ℕ) (w : Option ℕ) (f : Flow) (z : Source) (reader : MessageReader) (t : FlowTies c d a a n w f) → z ≡ source_of d g
    → front d g ≡ front d a → (flow d g).lost ≡ (flow d a).lost → stages.StandsFor z reader → FlowTies c d g a n w (record f { reader = reader })
flow_comes c d g a n w f z reader t e v l r = record {
  story = record t.story { source = z };
  stands = record { reader = r; half = t.stands.half; outlet = t.stands.outlet; is_past = t.stands.is_past; parts = t.stands.parts; way = t.stands.way };
  config = t.config;
  way = t.way;
  source = e;
  front = t.front ∙ sym v;
  given = t.given;
  reply = t.reply;
  handed_on = t.handed_on;
  told = t.told;
  asks = t.asks;
  lost = t.lost ∙ sym l;
  timer = t.timer;
  extended = t.extended;
}

-- as `gathered` has it
abbrev pub came : Side → ViewEntry → ExchangeAccount → Source
came s (Bytes t bytes) a = record (source_of (from s) a) { brought = (source_of (from s) a).brought ++ bytes }
came s e a = record (source_of (from s) a) { ended = true }

or_false : (b : Bool) → b ≡ (b || false)
or_false true = refl
or_false false = refl

or_true : (b : Bool) → true ≡ (b || true)
or_true true = refl
or_true false = refl

pub came_is : (s : Side) (e : ViewEntry) (a : ExchangeAccount) → IsReadOf s e → came s e a ≡ source_of (from s) (gathered e a)
unfolding gathered brought
came_is Client (Bytes Client bytes) a r = ap (λ b. record (source_of Request a) { brought = a.request.brought ++ bytes; ended = b }) (or_false a.request.ended)
came_is Client (End Client) a r =
    ap (λ l. record (source_of Request a) { brought = l; ended = true }) (sym (append-nil a.request.brought)) ∙ ap (λ b. record (source_of Request a) { brought = a.request.brought ++ []; ended = b }) (or_true a.request.ended)
came_is Upstream (Bytes Upstream bytes) a r = ap (λ b. record (source_of Response a) { brought = a.response.brought ++ bytes; ended = b }) (or_false a.response.ended)
came_is Upstream (End Upstream) a r =
    ap (λ l. record (source_of Response a) { brought = l; ended = true }) (sym (append-nil a.response.brought)) ∙ ap (λ b. record (source_of Response a) { brought = a.response.brought ++ []; ended = b }) (or_true a.response.ended)
came_is _ _ a r = absurd r

pub lost_same : (s : Side) (e : ViewEntry) (a : ExchangeAccount) → IsReadOf s e → (flow (from s) (gathered e a)).lost ≡ (flow (from s) a).lost
unfolding gathered brought
lost_same Client (Bytes Client bytes) a r = refl
lost_same Client (End Client) a r = refl
lost_same Upstream (Bytes Upstream bytes) a r = refl
lost_same Upstream (End Upstream) a r = refl
lost_same _ _ a r = absurd r

news_are : (c : FilterConfig) (h : List Call) (s : Side) (e : ViewEntry) (n : News) (z : Source) → IsHistory c h → IsReadOf s e → z ≡ source_of (from s) (gathered e (account c h))
    → IsNews (original (source_of (from s) (account c h))) (original z) n → IsNews (course (from s) (account c h)).original (course (from s) (gathered e (account c h))).original n
news_are c h s e n z y r i w =
    subst (λ o. IsNews o (course (from s) (gathered e (account c h))).original n) (original_of (from s) (account c h) (steady c h y).along.read)
    (subst (λ o. IsNews (original (source_of (from s) (account c h))) o n) (ap original i ∙ side_original s e (account c h) r) w)

pub client_comes : (c : FilterConfig) (h : List Call) (e : ViewEntry) (n : News) (x : Exchange) (reader : MessageReader) → (s : IsAfter c h x) → May c (Stepped e) h → is_live (account c h).fate ≡ true
    → IsReadOf Client e → is_departure e (gathered e (account c h)) ≡ false → stages.StandsFor (came Client e (account c h)) reader → IsNews (original (source_of Request (account c h))) (original (came Client e (account c h))) n
    → IsTaking c h Client e n (account c h) (record x { request = record x.request { reader = reader } })
client_comes c h e n x reader s m l r k v w = record {
  right = (s.right, m);
  made = record { sizes = s.made.sizes; settings = s.made.settings };
  live = l;
  reads = r;
  stays = k;
  is_news = news_are c h Client e n (came Client e (account c h)) s.right r (came_is Client e (account c h) r) w;
  ties = record {
    request = flow_comes c Request (gathered e (account c h)) (account c h) _ x.waiting x.request (came Client e (account c h)) reader s.ties.request (came_is Client e (account c h) r) refl (lost_same Client e (account c h) r) v;
    response = s.ties.response;
    order = s.ties.order;
    unsent = s.ties.unsent;
    within = s.ties.within;
    ready = s.ties.ready;
    now = s.ties.now;
    to_head = s.ties.to_head;
    fate = s.ties.fate;
    waiting = s.ties.waiting;
    stream = s.ties.stream;
    alone = s.ties.alone;
  };
}

-- the upstream's bytes say nothing of the request
request_same : (e : ViewEntry) (a : ExchangeAccount) → IsReadOf Upstream e → (source_of Request a ≡ source_of Request (gathered e a)) × ((flow Request (gathered e a)).lost ≡ a.request.lost) × (is_to_head (gathered e a) ≡ is_to_head a)
unfolding gathered brought
request_same (Bytes Upstream bytes) a r = (refl, refl, refl)
request_same (End Upstream) a r = (refl, refl, refl)
request_same _ a r = absurd r

pub upstream_comes : (c : FilterConfig) (h : List Call) (e : ViewEntry) (n : News) (x : Exchange) (reader : MessageReader) → (s : IsAfter c h x) → May c (Stepped e) h → is_live (account c h).fate ≡ true
    → IsReadOf Upstream e → is_departure e (gathered e (account c h)) ≡ false → stages.StandsFor (came Upstream e (account c h)) reader → IsNews (original (source_of Response (account c h))) (original (came Upstream e (account c h))) n
    → IsTaking c h Upstream e n (gathered e (account c h)) (record x { response = record x.response { reader = reader } })
upstream_comes c h e n x reader s m l r k v w =
    let a : ExchangeAccount = account c h in
    let q = request_same e a r in
    let t = s.ties.request in
    record {
      right = (s.right, m);
      made = record { sizes = s.made.sizes; settings = s.made.settings };
      live = l;
      reads = r;
      stays = k;
      is_news = news_are c h Upstream e n (came Upstream e a) s.right r (came_is Upstream e a r) w;
      ties = record {
        request = flow_comes c Request (gathered e a) a _ x.waiting x.request t.story.source x.request.reader t (t.source ∙ q.0) refl q.1 t.stands.reader;
        response = flow_comes c Response (gathered e a) a _ x.waiting x.response (came Upstream e a) reader s.ties.response (came_is Upstream e a r) (upstream_front e a r) (lost_same Upstream e a r) v;
        order = s.ties.order;
        unsent = s.ties.unsent;
        within = s.ties.within;
        ready = s.ties.ready;
        now = s.ties.now;
        to_head = s.ties.to_head ∙ sym q.2;
        fate = s.ties.fate;
        waiting = s.ties.waiting;
        stream = s.ties.stream;
        alone = s.ties.alone;
      };
    }

-- as many bytes come as there is room for
pub as_many : (bytes first : List ℕ) (n room there : ℕ) → first ≡ take n bytes → n ≡ min (length bytes) there → there ≡ room → length first ≤ room
as_many bytes first n room there e m r = let k : length first ≡ length (take n bytes) = ap length e in omega (arith, k, length-take n bytes, m, r)

pub on_err : {A E P : Type 0} (r : Result A E) → P → OnErr r P
on_err (Ok v) p = tt
on_err (Err v) p = p

-- a client that brought a byte doesn't leave
pub stays_begun : (a : ExchangeAccount) (b : Bool) → b ≡ not (is_empty a.request.brought) → b ≡ true → is_departure (End Client) (gathered (End Client) a) ≡ false
unfolding gathered brought
stays_begun a b e n = ap is_empty (append-nil a.request.brought) ∙ by (is_empty a.request.brought) (sym e ∙ n)
  where
    by : (x : Bool) → not x ≡ true → x ≡ false
    by true k = absurd cc
    by false k = refl

-- The client leaves

none_brought : (bytes : List ℕ) → is_empty (bytes ++ []) ≡ true → bytes ++ [] ≡ []
none_brought [] e = refl
none_brought (b ∷ bytes) e = absurd cc

-- nothing is read of it
pub leaves : (a : ExchangeAccount) → Read a → is_departure (End Client) (gathered (End Client) a) ≡ true → (a.request.course.original.head ≡ None) × ((gathered (End Client) a).request.course.original.head ≡ None)
unfolding gathered brought
leaves a r k =
    let n = none_brought a.request.brought k in (
      ap (λ o. o.head) r.request ∙ ap (λ l. (reads Request (is_to_head a) l a.request.ended).head) (sym (append-nil a.request.brought) ∙ n) ∙ reads_is_reader.early Request (is_to_head a) a.request.ended,
      ap (λ l. (reads Request (is_to_head a) l (a.request.ended || true)).head) n ∙ reads_is_reader.early Request (is_to_head a) (a.request.ended || true),
    )

pub has_left : (a : ExchangeAccount) (b : Bool) → b ≡ not (is_empty a.request.brought) → b ≡ false → is_departure (End Client) (gathered (End Client) a) ≡ true
unfolding gathered brought
has_left a b e n = ap is_empty (append-nil a.request.brought) ∙ by (is_empty a.request.brought) (sym e ∙ n)
  where
    by : (x : Bool) → not x ≡ false → x ≡ true
    by true k = refl
    by false k = absurd cc
