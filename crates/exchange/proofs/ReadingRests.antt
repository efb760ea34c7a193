-- What an entry of a side leaves of the ties of a direction, by what its half was told.
use Rattle.std.proofs.Common.{sym, ◌∙◌, ap, subst}
use Rattle.std.proofs.lemmas.List.{append-nil, map-append}
use Rattle.std.proofs.lemmas.Bool.{true≢false}
use Rattle.std.specs.Prelude.{ℕ, ◌≡◌, ◌≤◌, true, false, List, [], ◌++◌, Option, None, length, map, take}
use Rattle.ext_msgs.specs.declared.ask.Ask.{Ask}
use Rattle.http_model.specs.Bytes.{IsPrefix}
use Rattle.http_model.specs.declared.types.Direction.{Direction}
use Rattle.http_model.proofs.BodiesGrow.{onward}
use Rattle.filter_model.specs.Account.{ExchangeAccount, course, flow, front, is_out_in}
use Rattle.filter_model.specs.Answers.{ask_of}
use Rattle.filter_model.specs.Config.{FilterConfig}
use Rattle.filter_model.specs.Course.{is_over}
use Rattle.filter_model.specs.Half.{HalfCall, progress}
use Rattle.filter_model.specs.Half as half
use Rattle.filter_model.specs.InTurn.{asks_in}
use Rattle.filter_model.specs.HalfRight.{framing_in}
use Rattle.filter_model.specs.InTurn as turn
use Rattle.filter_model.specs.Right.{Call, account}
use Rattle.filter_model.specs.Step.{is_live}
use Rattle.filter_model.specs.Told.{known, told}
use Rattle.filter_model.specs.ToldMore.{SameRest}
use Rattle.h1_outlet.specs.Outlets.{Flowed, all}
use Rattle.exchange.specs.Flows.{FlowStands, Story, SameMarks}
use Rattle.exchange.specs.Reading.{HasHeard}
use Rattle.exchange.specs.Stands.{FlowTies, in_64, source_of, written_reply}
use Rattle.exchange.specs.declared.flow.Flow.{Flow}
use Rattle.exchange.proofs.GivingHeadless.{no_head}
use Rattle.exchange.proofs.Next.{front_next, given_next, handed_next, lost_next, source_next}
use Rattle.exchange.proofs.Wholly.{no_reply}

-- Prefixes

map_prefix : {A B : Type 0} (f : A → B) (xs ys : List A) → IsPrefix xs ys → IsPrefix (map f xs) (map f ys)
map_prefix f xs ys p = record { rest = map f p.rest; whole = sym (map-append f xs p.rest) ∙ ap (map f) p.whole }

-- What a direction keeps of its ties once the exchange ends

pub record FlowLeft (c : FilterConfig) (d : Direction) (g a : ExchangeAccount) (handed : ℕ) (x : Flow) : Type 0 where
  pub story : Story
  pub stands : FlowStands story x
  pub config : story.past.config ≡ c.course
  pub way : story.past.direction ≡ d
  pub source : story.source ≡ source_of d g
  pub front : story.flowed.front ≡ front d g
  pub given : (flow d a).given ≡ take story.flowed.given (all story.flowed)
  pub reply : story.flowed.reply ≡ []
  pub alone : (course d a).head ≡ None → framing_in story.flowed.parts ≡ None
  pub handed_on : (progress story.past).handed ≡ length (asks_in d (take handed a.made))
  pub asks : IsPrefix (asks_in d a.made) (map (ask_of d) (half.course story.past).asks)
  pub lost : x.lost ≡ (flow d g).lost

pub left_of : (c : FilterConfig) (d : Direction) (g a : ExchangeAccount) (n : ℕ) (w : Option ℕ) (x : Flow) → is_live a.fate ≡ true → FlowTies c d g a n w x → FlowLeft c d g a n x
left_of c d g a n w x l t = record {
  story = t.story;
  stands = t.stands;
  config = t.config;
  way = t.way;
  source = t.source;
  front = t.front;
  given = t.given;
  reply = t.reply ∙ no_reply d w a.fate l;
  alone = λ e. no_head c d g a n w x t l e;
  handed_on = t.handed_on;
  asks = t.asks;
  lost = t.lost;
}

pub left_heard : (c : FilterConfig) (d : Direction) (g a : ExchangeAccount) (n : ℕ) (w : Option ℕ) (x y : Flow) (calls : List HalfCall) → is_live a.fate ≡ true → (t : FlowTies c d g a n w x) (s : Story)
    → HasHeard calls t.story s → FlowStands s y → SameMarks x y → FlowLeft c d g a n y
left_heard c d g a n w x y calls l t s h f m = record {
  story = s;
  stands = f;
  config = h.config.0 ∙ t.config;
  way = h.config.1 ∙ t.way;
  source = h.source ∙ t.source;
  front = ap (λ (q : Flowed). q.front) h.flowed ∙ t.front;
  given = t.given ∙ sym (ap (λ q. take q.given (all q)) h.flowed);
  reply = ap (λ (q : Flowed). q.reply) h.flowed ∙ t.reply ∙ no_reply d w a.fate l;
  alone = λ e. ap (λ (q : Flowed). framing_in q.parts) h.flowed ∙ no_head c d g a n w x t l e;
  handed_on = h.handed ∙ t.handed_on;
  asks = onward t.asks (map_prefix (ask_of d) _ _ h.asks);
  lost = m.lost ∙ t.lost;
}

-- of an exchange that ended
pub ties_of_left : (c : FilterConfig) (d : Direction) (g a b : ExchangeAccount) (n : ℕ) (w : Option ℕ) (x : Flow) → SameRest g b → (flow d g).given ≡ (flow d a).given → b.made ≡ a.made
    → is_live b.fate ≡ false → written_reply d w b.fate ≡ [] → FlowLeft c d g a n x → FlowTies c d b b n w x
ties_of_left c d g a b n w x s v m e r t = record {
  story = t.story;
  stands = t.stands;
  config = t.config;
  way = t.way;
  source = t.source ∙ sym (source_next d g b s);
  front = t.front ∙ sym (front_next d g b s);
  given = given_next d g b s ∙ v ∙ t.given;
  reply = t.reply ∙ sym r;
  handed_on = t.handed_on ∙ sym (ap (λ l. length (asks_in d (take n l))) m);
  told = λ i. absurd (true≢false (sym i ∙ e));
  asks = subst (λ l. IsPrefix (asks_in d l) (map (ask_of d) (half.course t.story.past).asks)) (sym m) t.asks;
  lost = t.lost ∙ sym (lost_next d g b s);
  timer = λ i o. absurd (true≢false (sym i ∙ e));
  extended = λ i. absurd (true≢false (sym i ∙ e));
}

-- What it keeps while the exchange lives

-- what is told takes its course to that of the next account
pub record FlowGoes (c : FilterConfig) (d : Direction) (g a b : ExchangeAccount) (calls : List HalfCall) : Type 0 where
  pub rest : SameRest g b
  pub given : (flow d g).given ≡ (flow d a).given
  pub becomes : known (course d b) ≡ told c.course d calls (known (course d a))
  pub within : is_over c.course (told c.course d calls (known (course d a))) ≡ false
  pub more : List Ask
  pub made : b.made ≡ a.made ++ more
  pub in_turn : asks_in d b.made ≡ map (ask_of d) (course d b).asks
  pub fate : b.fate ≡ a.fate
  pub extended : (flow d b).extended ≡ (flow d a).extended

pub ties_of_goes : (c : FilterConfig) (d : Direction) (g a b : ExchangeAccount) (n : ℕ) (w : Option ℕ) (x y : Flow) (calls : List HalfCall) (t : FlowTies c d g a n w x) (s : Story) → FlowGoes c d g a b calls
    → is_live a.fate ≡ true → n ≤ length a.made → HasHeard calls t.story s → FlowStands s y → y.lost ≡ x.lost → y.extended ≡ x.extended
    → (is_out_in b d ≡ true → y.deadline ≡ in_64 (flow d b).deadline) → FlowTies c d b b n w y
ties_of_goes c d g a b n w x y calls t s k l o h f z u v = record {
  story = s;
  stands = f;
  config = h.config.0 ∙ t.config;
  way = h.config.1 ∙ t.way;
  source = h.source ∙ t.source ∙ sym (source_next d g b k.rest);
  front = ap (λ (q : Flowed). q.front) h.flowed ∙ t.front ∙ sym (front_next d g b k.rest);
  given = given_next d g b k.rest ∙ k.given ∙ t.given ∙ sym (ap (λ q. take q.given (all q)) h.flowed);
  reply = ap (λ (q : Flowed). q.reply) h.flowed ∙ t.reply ∙ sym (ap (written_reply d w) k.fate);
  handed_on = h.handed ∙ t.handed_on ∙ sym (ap (λ m. length (asks_in d (take n m))) k.made ∙ handed_next d n a.made k.more o);
  told = λ i. now;
  asks = record { rest = []; whole = append-nil (asks_in d b.made) ∙ k.in_turn ∙ sym (ap (λ q. map (ask_of d) q.asks) now) };
  lost = z ∙ t.lost ∙ sym (lost_next d g b k.rest);
  timer = λ i. v;
  extended = λ i. u ∙ t.extended l ∙ sym k.extended;
}
  where
    is : told t.story.past.config t.story.past.direction calls (half.course t.story.past) ≡ told c.course d calls (known (course d a))
    is =
        ap (λ q. told q t.story.past.direction calls (half.course t.story.past)) t.config
        ∙ ap (λ q. told c.course q calls (half.course t.story.past)) t.way
        ∙ ap (told c.course d calls) (t.told l)

    now : half.course s.past ≡ known (course d b)
    now = h.goes (ap (λ q. is_over q (told t.story.past.config t.story.past.direction calls (half.course t.story.past))) t.config ∙ ap (is_over c.course) is ∙ k.within) ∙ is ∙ sym k.becomes
