-- What a release leaves of the ties of an exchange.
use Rattle.std.proofs.Common.{refl, sym, ◌∙◌, ap, subst}
use Rattle.std.specs.Prelude.{ℕ, ◌≡◌, ◌+◌, ◌≤◌, slice_get, Bool, true, not, List, [], ◌∷◌, length, take, drop, map, Option}
use Rattle.http_model.specs.Bytes.{IsPrefix, is_empty}
use Rattle.http_model.specs.Reads.{Original}
use Rattle.http_model.specs.declared.types.Direction.{Direction}
use Rattle.http_model.specs.declared.types.Direction.TheVariants.{Request, Response}
use Rattle.filter_model.specs.Config.{CourseConfig, FilterConfig}
use Rattle.filter_model.specs.Course.{Course, committed, out}
use Rattle.filter_model.specs.Account.{ExchangeAccount, Fate, Live, Left, Replied, Aborted, course, direction_of, is_head_request, is_out_in}
use Rattle.filter_model.specs.Answers.{ask_of}
use Rattle.filter_model.specs.Half.{HalfCall, Release, Told, after_step, half_rules, progress}
use Rattle.filter_model.specs.Half as half
use Rattle.filter_model.specs.Step.{is_live}
use Rattle.filter_model.specs.Told.{known, told}
use Rattle.filter_model.proofs.AtRest.{none_due, released_next}
use Rattle.filter_model.proofs.ToldSame.{asked_none}
use Rattle.half_machine.specs.Stands as halves
use Rattle.half_machine.specs.declared.half.Half.{Half}
use Rattle.exchange.specs.Flows.{with_call}
use Rattle.filter_model.specs.InTurn.{asks_in}
use Rattle.exchange.specs.Passing.{PassesTo}
use Rattle.exchange.specs.Stands.{AtRest, FlowTies, IsFate, IsReplied, in_64, written_reply}
use Rattle.exchange.specs.declared.fate.Fate.{Fate as FateNow}
use Rattle.exchange.specs.declared.fate.Fate.TheVariants as fate
use Rattle.exchange.specs.declared.flow.Flow.{Flow}
use Rattle.exchange.specs.declared.exchange.Exchange.{Exchange}
use Rattle.exchange.proofs.Next.{front_next, given_next, lost_next, source_next}

-- no ask is made behind it
release_is : (c : CourseConfig) (d : Direction) (w : Course) → told c d (Release ∷ []) w ≡ committed c d (record w { released = true })
unfolding committed
release_is c d w =
    let v : Course = committed c d (record w { released = true }) in
    asked_none c d v (none_due c d v (released_next c v refl))

same_asks : (c : CourseConfig) (d : Direction) (w : Course) → (told c d (Release ∷ []) w).asks ≡ w.asks
unfolding committed
same_asks c d w = ap (λ (v : Course). v.asks) (release_is c d w)

abbrev is_waiting : Course → Bool
is_waiting w = not (is_empty (out w))

same_out : (c : CourseConfig) (d : Direction) (w : Course) → is_waiting (told c d (Release ∷ []) w) ≡ is_waiting w
unfolding committed
same_out c d w = ap is_waiting (release_is c d w)

out_is : (c : FilterConfig) (d : Direction) (a b : ExchangeAccount) → PassesTo c a b → is_out_in b d ≡ is_out_in a d
out_is c d a b p = ap is_waiting (p.told d) ∙ same_out c.course d (known (course d a))

flow_passes : (c : FilterConfig) (d : Direction) (a b : ExchangeAccount) (k : ℕ) (w : Option ℕ) (x : Flow) (h : Half) → PassesTo c a b → (t : FlowTies c d a a k w x)
    → halves.StandsFor (after_step (Told Release) t.story.past) h → FlowTies c d b b k w (record x { half = h })
unfolding half_rules
flow_passes c d a b k w x h p t s =
    let live : is_live a.fate ≡ true = p.live in
    let past : half.course t.story.past ≡ known (course d a) = t.told live in
    let now : half.course (with_call Release t.story).past ≡ told c.course d (Release ∷ []) (half.course t.story.past) =
    ap (λ e. told e t.story.past.direction (Release ∷ []) (half.course t.story.past)) t.config ∙ ap (λ e. told c.course e (Release ∷ []) (half.course t.story.past)) t.way in
    record {
      story = with_call Release t.story;
      stands = record { reader = t.stands.reader; half = s; outlet = t.stands.outlet; is_past = (t.stands.is_past, tt); parts = t.stands.parts; way = t.stands.way };
      config = t.config;
      way = t.way;
      source = t.source ∙ sym (source_next d a b p.rest);
      front = t.front ∙ sym (front_next d a b p.rest);
      given = given_next d a b p.rest ∙ t.given;
      reply = t.reply ∙ ap (written_reply d w) (sym p.fate);
      handed_on = t.handed_on ∙ ap (λ m. length (asks_in d (take k m))) (sym p.made);
      told = λ l. now ∙ ap (told c.course d (Release ∷ [])) past ∙ sym (p.told d);
      asks = subst (λ m. IsPrefix (asks_in d m) (map (ask_of d) (half.course (with_call Release t.story).past).asks)) (sym p.made)
          (subst (λ l. IsPrefix (asks_in d a.made) (map (ask_of d) l)) (sym (ap (λ (v : Course). v.asks) now ∙ same_asks c.course d (half.course t.story.past))) t.asks);
      lost = t.lost ∙ sym (lost_next d a b p.rest);
      timer = λ l o. t.timer live (sym (out_is c d a b p) ∙ o) ∙ ap in_64 (sym (p.timer d).0);
      extended = λ l. t.extended live ∙ sym (p.timer d).1;
    }

-- what lives is the same for every account
pub living_fate : (c : FilterConfig) (a b : ExchangeAccount) (f : Fate) (x : FateNow) → is_live f ≡ true → IsFate c a f x → IsFate c b f x
living_fate c a b Live fate.Live l t = t
living_fate c a b Live fate.Left l t = t
living_fate c a b Live (fate.Replied g) l t = t
living_fate c a b Live (fate.Aborted g) l t = t
living_fate c a b Left x l t = absurd cc
living_fate c a b (Replied r) x l t = absurd cc
living_fate c a b Aborted x l t = absurd cc

pub passes : (c : FilterConfig) (a b : ExchangeAccount) (n : ℕ) (ends : List Bool) (x : Exchange) (q r : Half) → PassesTo c a b → (t : AtRest c a n ends x)
    → halves.StandsFor (after_step (Told Release) t.request.story.past) q → halves.StandsFor (after_step (Told Release) t.response.story.past) r
    → AtRest c b n ends (record x { request = record x.request { half = q }; response = record x.response { half = r } })
passes c a b n ends x q r p t s u = record {
  request = flow_passes c Request a b _ x.waiting x.request q p t.request s;
  response = flow_passes c Response a b _ x.waiting x.response r p t.response u;
  order = t.order ∙ ap (λ m. map direction_of (drop a.sent m)) (sym p.made) ∙ ap (λ n. map direction_of (drop n b.made)) (sym p.rest.sent);
  unsent = ap (λ m. m + x.unsent) p.rest.sent ∙ t.unsent;
  within = subst (λ m. n ≤ length m) (sym p.made) t.within;
  ready = λ ask e. ap (λ m. slice_get m n) p.made ∙ t.ready ask e;
  now = t.now ∙ sym p.rest.now;
  to_head = t.to_head ∙ sym (ap (λ (o : Original). is_head_request o.head) p.rest.request.original);
  fate = subst (λ f. IsFate c b f x.fate) (sym p.fate) (living_fate c a b a.fate x.fate p.live t.fate);
  waiting = λ status e. p.fate ∙ t.waiting status e;
  stream = record {
    asked = t.stream.asked ∙ ap (λ m. not (is_empty m)) (sym p.made);
    unopened = t.stream.unopened ∙ sym p.rest.unopened;
    closed = t.stream.closed ∙ sym p.rest.closed;
    ending = t.stream.ending ∙ sym p.ending;
    ended = t.stream.ended;
  };
  alone = λ e. t.alone (subst IsReplied p.fate e);
}
