-- Which cut an entry of a side is, by what its half says that was told it; and how many asks were made.
use Rattle.std.proofs.Common.{refl, sym, ◌∙◌, ap, arith, eqb-true}
use Rattle.std.proofs.lemmas.List.{length-append}
use Rattle.std.specs.Prelude.{ℕ, suc, ◌+◌, ◌-◌, ◌≡◌, ◌≤◌, ◌==◌, Bool, true, false, not, List, [], ◌∷◌, Option, Some, None, length, option_map}
use Rattle.http_model.specs.Bytes.{is_empty}
use Rattle.http_model.specs.Reading.{Fault, status_of}
use Rattle.http_model.specs.Reads.{Original}
use Rattle.http_model.specs.Wire.{local_reply}
use Rattle.http_model.specs.declared.types.Direction.{Direction}
use Rattle.http_model.specs.declared.types.Direction.TheVariants.{Request, Response}
use Rattle.filter_model.specs.Account.{ExchangeAccount, course, from, gathered, is_finished, is_out_in}
use Rattle.filter_model.specs.Config.{FilterConfig}
use Rattle.filter_model.specs.Course.{is_over, out}
use Rattle.filter_model.specs.Cut.{Cut, Over, Peer, fault_cut}
use Rattle.filter_model.specs.Half.{progress}
use Rattle.filter_model.specs.Half as half
use Rattle.filter_model.specs.Right.{Call, account}
use Rattle.filter_model.specs.Sides.{read_cut}
use Rattle.filter_model.specs.Step.{cut, lets_pass, reply_to, step}
use Rattle.filter_model.specs.Told.{IsNoCut, known, told}
use Rattle.filter_model.specs.View.{ViewEntry}
use Rattle.filter_model.specs.declared.calls.Side.{Side}
use Rattle.filter_model.proofs.OverTold.{entry_over}
use Rattle.filter_model.proofs.SideCuts.{side_cut}
use Rattle.h1_message.specs.Source.{original}
use Rattle.h1_message.specs.declared.news.News.{News}
use Rattle.exchange.specs.Flows.{Story}
use Rattle.exchange.specs.Moves.{replied_in}
use Rattle.exchange.specs.Reading.{HasHeard, HasLearnt, IsTaking, status_in}
use Rattle.exchange.specs.Stands.{FlowTies}
use Rattle.exchange.specs.declared.exchange.Exchange.{Exchange}
use Rattle.exchange.specs.declared.fate.GivenWhole.{GivenWhole}
use Rattle.exchange.specs.declared.flow.Flow.{Flow}
use Rattle.exchange.proofs.ReadingGoes.{calls_in, goes_in, heard_as}
use Rattle.exchange.proofs.ReadingRoom.{side_ends}
use Rattle.exchange.proofs.ReadingSides.{no_status, of_sides, side_original, status_cut}

pub replied_settings : (status : ℕ) (b : Bool) (given : GivenWhole) (x : Exchange) → (replied_in status b given x).settings ≡ x.settings
replied_settings status true given x = refl
replied_settings status false given x = refl

-- The faults

pub request_faults : (g : ExchangeAccount) (f : Option ℕ) → f ≡ option_map status_of g.request.course.original.fault → fault_cut g Request ≡ option_map Peer f
request_faults g f e = by g.request.course.original.fault ∙ sym (ap (option_map Peer) e)
  where
    by : (o : Option Fault) → option_map (λ f. Peer (status_of f)) o ≡ option_map Peer (option_map status_of o)
    by None = refl
    by (Some x) = refl

pub response_faults : (g : ExchangeAccount) (f : Option ℕ) → f ≡ option_map (λ (x : Fault). 502) g.response.course.original.fault → fault_cut g Response ≡ option_map Peer f
response_faults g f e = by g.response.course.original.fault ∙ sym (ap (option_map Peer) e)
  where
    by : (o : Option Fault) → option_map (λ f. Peer 502) o ≡ option_map Peer (option_map (λ (x : Fault). 502) o)
    by None = refl
    by (Some x) = refl

-- What a half says

told_as : (c : FilterConfig) (h : List Call) (s : Side) (e : ViewEntry) (n : News) (x : Exchange) (f : Flow) (m : ℕ) (w : Option ℕ) → IsTaking c h s e n (gathered e (account c h)) x
    → (t : FlowTies c (from s) (gathered e (account c h)) (account c h) m w f)
    → told t.story.past.config t.story.past.direction (calls_in c (from s) (gathered e (account c h)) (account c h)) (half.course t.story.past)
    ≡ told c.course (from s) (calls_in c (from s) (gathered e (account c h)) (account c h)) (known (course (from s) (account c h)))
told_as c h s e n x f m w y t =
    ap (λ q. told q t.story.past.direction (calls_in c (from s) (gathered e (account c h)) (account c h)) (half.course t.story.past)) t.config
    ∙ ap (λ q. told c.course q (calls_in c (from s) (gathered e (account c h)) (account c h)) (half.course t.story.past)) t.way
    ∙ ap (told c.course (from s) (calls_in c (from s) (gathered e (account c h)) (account c h))) (t.told y.live)

heard_of : (c : FilterConfig) (h : List Call) (s : Side) (e : ViewEntry) (n : News) (x : Exchange) (f : Flow) (m : ℕ) (w : Option ℕ) (y : IsTaking c h s e n (gathered e (account c h)) x)
    → (t : FlowTies c (from s) (gathered e (account c h)) (account c h) m w f) (r : Story) → HasLearnt t.story (original t.story.source) r
    → HasHeard (calls_in c (from s) (gathered e (account c h)) (account c h)) t.story r
heard_of c h s e n x f m w y t r l =
    heard_as c (from s) (gathered e (account c h)) (account c h) m w f t r y.live (ap original t.source ∙ side_original s e (account c h) y.reads) l

-- whether the body is past its limit
pub over_as : (c : FilterConfig) (h : List Call) (s : Side) (e : ViewEntry) (n : News) (x : Exchange) (f : Flow) (m : ℕ) (w : Option ℕ) (y : IsTaking c h s e n (gathered e (account c h)) x)
    → (t : FlowTies c (from s) (gathered e (account c h)) (account c h) m w f) (r : Story) → HasLearnt t.story (original t.story.source) r → (over : Bool) → over ≡ is_over r.past.config (half.course r.past)
    → over ≡ is_over c.course (course (from s) (gathered e (account c h)))
over_as c h s e n x f m w y t r l over o =
    let k = heard_of c h s e n x f m w y t r l in
    o ∙ ap (λ q. is_over q (half.course r.past)) k.config.0 ∙ k.over
    ∙ ap (is_over t.story.past.config) (told_as c h s e n x f m w y t)
    ∙ ap (λ q. is_over q (told c.course (from s) (calls_in c (from s) (gathered e (account c h)) (account c h)) (known (course (from s) (account c h))))) t.config
    ∙ entry_over c h e y.right (of_sides s e y.reads) y.live (omega (arith, y.made.sizes.piece, y.made.sizes.mark)) (from s)

-- its course, of an entry that is no cut
pub course_as : (c : FilterConfig) (h : List Call) (s : Side) (e : ViewEntry) (n : News) (x : Exchange) (f : Flow) (m : ℕ) (w : Option ℕ) (y : IsTaking c h s e n (gathered e (account c h)) x)
    → (t : FlowTies c (from s) (gathered e (account c h)) (account c h) m w f) (r : Story) → HasLearnt t.story (original t.story.source) r → IsNoCut c e (account c h)
    → half.course r.past ≡ known (course (from s) (step c e (account c h)))
course_as c h s e n x f m w y t r l k =
    let i = told_as c h s e n x f m w y t in
    let g = goes_in c h s e n (gathered e (account c h)) x (from s) y k in
    let calls = calls_in c (from s) (gathered e (account c h)) (account c h) in
    (heard_of c h s e n x f m w y t r l).goes
    (ap (λ q. is_over q (told t.story.past.config t.story.past.direction calls (half.course t.story.past))) t.config ∙ ap (is_over c.course) i ∙ g.within)
    ∙ i ∙ sym g.becomes

-- how many asks it made
pub made_as : (c : FilterConfig) (h : List Call) (s : Side) (e : ViewEntry) (n : News) (x : Exchange) (f : Flow) (m : ℕ) (w : Option ℕ) (y : IsTaking c h s e n (gathered e (account c h)) x)
    → (t : FlowTies c (from s) (gathered e (account c h)) (account c h) m w f) (r : Story) → HasLearnt t.story (original t.story.source) r → IsNoCut c e (account c h) → (before after : ℕ)
    → before + (progress t.story.past).handed ≡ length (half.course t.story.past).asks → after + (progress r.past).handed ≡ length (half.course r.past).asks
    → after - before ≡ length (course (from s) (step c e (account c h))).asks - length (course (from s) (account c h)).asks
made_as c h s e n x f m w y t r l k before after u v =
    let i : length (half.course t.story.past).asks ≡ length (course (from s) (account c h)).asks = ap (λ q. length q.asks) (t.told y.live) in
    let j : length (half.course r.past).asks ≡ length (course (from s) (step c e (account c h))).asks = ap (λ q. length q.asks) (course_as c h s e n x f m w y t r l k) in
    omega (arith, u, v, i, j, l.handed)

-- whether no ask was out
pub idle_as : (c : FilterConfig) (d : Direction) (g a : ExchangeAccount) (m : ℕ) (w : Option ℕ) (f : Flow) (t : FlowTies c d g a m w f) (o : ℕ) → half.course t.story.past ≡ known (course d a)
    → o ≡ length (out (half.course t.story.past)) → (o == 0) ≡ not (is_out_in a d)
idle_as c d g a m w f t o i e =
    ap (λ q. q == 0) (e ∙ ap (λ q. length (out q)) i) ∙ none (out (course d a)) ∙ not_not (is_empty (out (course d a)))
  where
    none : {A : Type 0} (l : List A) → (length l == 0) ≡ is_empty l
    none [] = refl
    none (x ∷ l) = by (length (x ∷ l) == 0) refl
      where
        some : (n : ℕ) → suc n ≡ 0 → ⊥
        some n e = omega (arith, e)

        by : (b : Bool) → (length (x ∷ l) == 0) ≡ b → (length (x ∷ l) == 0) ≡ false
        by false k = k
        by true k = absurd (some (length l) (eqb-true (length (x ∷ l)) 0 k))

    not_not : (b : Bool) → b ≡ not (not b)
    not_not true = refl
    not_not false = refl

-- Which cut it is

pub record IsCutBy (c : FilterConfig) (h : List Call) (e : ViewEntry) (status : ℕ) : Type 0 where
  pub which : Cut
  pub is : cut c e (gathered e (account c h)) ≡ Some which
  pub ends : lets_pass c which ≡ false
  pub reply : (t : Bool) → reply_to which t ≡ Some (local_reply status)

same_cut : (c : FilterConfig) (h : List Call) (s : Side) (e : ViewEntry) (n : News) (x : Exchange) (finished over : Bool) → IsTaking c h s e n (gathered e (account c h)) x
    → finished ≡ is_finished c (account c h) → over ≡ is_over c.course (course (from s) (gathered e (account c h)))
    → cut c e (gathered e (account c h)) ≡ read_cut finished over (from s) (fault_cut (gathered e (account c h)) (from s))
same_cut c h s e n x finished over y f o =
    side_cut c h s e y.right y.reads y.live
    ∙ ap (λ b. read_cut b (is_over c.course (course (from s) (gathered e (account c h)))) (from s) (fault_cut (gathered e (account c h)) (from s))) (sym f)
    ∙ ap (λ b. read_cut finished b (from s) (fault_cut (gathered e (account c h)) (from s))) (sym o)

pub cut_by : (c : FilterConfig) (h : List Call) (s : Side) (e : ViewEntry) (n : News) (x : Exchange) (finished over : Bool) (limit status : ℕ) (fault : Option ℕ) → IsTaking c h s e n (gathered e (account c h)) x
    → finished ≡ is_finished c (account c h) → over ≡ is_over c.course (course (from s) (gathered e (account c h))) → ((t : Bool) → reply_to (Over (from s)) t ≡ Some (local_reply limit))
    → fault_cut (gathered e (account c h)) (from s) ≡ option_map Peer fault → status_in finished over limit fault ≡ Some status → IsCutBy c h e status
cut_by c h s e n x finished over limit status fault y f o r j i =
    let k = status_cut c (from s) (gathered e (account c h)) finished over limit status fault r j i in
    record {
      which = k.0;
      is = same_cut c h s e n x finished over y f o ∙ k.1;
      ends = side_ends c (from s) (gathered e (account c h)) finished over k.0 k.1;
      reply = k.2;
    }

pub no_cut_by : (c : FilterConfig) (h : List Call) (s : Side) (e : ViewEntry) (n : News) (x : Exchange) (finished over : Bool) (limit : ℕ) (fault : Option ℕ) → IsTaking c h s e n (gathered e (account c h)) x
    → finished ≡ is_finished c (account c h) → over ≡ is_over c.course (course (from s) (gathered e (account c h)))
    → fault_cut (gathered e (account c h)) (from s) ≡ option_map Peer fault → status_in finished over limit fault ≡ None → IsNoCut c e (account c h)
no_cut_by c h s e n x finished over limit fault y f o j i = record {
  live = y.live;
  stays = y.stays;
  none = same_cut c h s e n x finished over y f o ∙ no_status (from s) (gathered e (account c h)) finished over limit fault j i;
}

-- no ask is taken back
pub not_fewer : (s r : Story) (now : Original) → HasLearnt s now r → (before after : ℕ) → before + (progress s.past).handed ≡ length (half.course s.past).asks
    → after + (progress r.past).handed ≡ length (half.course r.past).asks → before ≤ after
not_fewer s r now l before after u v =
    let p : length (half.course s.past).asks + length l.asks.rest ≡ length (half.course r.past).asks =
    sym (length-append (half.course s.past).asks l.asks.rest) ∙ ap length l.asks.whole in
    omega (arith, u, v, p, l.handed)
