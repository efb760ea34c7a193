-- What is given of a reply of the proxy's own, behind an interim response that was owed.
use Rattle.std.proofs.Common.{refl, sym, ◌∙◌, ap, arith, subst, append-nil}
use Rattle.std.proofs.Math.Seq.{take-add}
use Rattle.std.proofs.lemmas.List.{length-drop, length-take, length-take-le, take-append-drop, take_all}
use Rattle.std.proofs.lemmas.Slice.Eq.{bytes_eq-Decides}
use Rattle.std.specs.Prelude.{ℕ, ◌≡◌, ◌+◌, ◌<◌, ◌≤◌, Bool, true, false, List, [], ◌∷◌, ◌++◌, length, take, drop, map, filter_map, Option, Some, None, bytes_eq}
use Rattle.http_model.specs.Bytes.{IsPrefix}
use Rattle.http_model.specs.Wire.{local_reply}
use Rattle.http_model.specs.declared.types.Direction.{Direction}
use Rattle.http_model.specs.declared.types.Direction.TheVariants.{Request, Response}
use Rattle.http_model.specs.declared.types.Out.{Out}
use Rattle.http_model.specs.declared.types.Out.TheVariants as part
use Rattle.filter_model.specs.Account.{ExchangeAccount, Fate, Live, Left, Replied, Aborted, direction_of, front, gathered, is_given, is_given_at, course, account_rules}
use Rattle.filter_model.specs.Answers.{ask_of}
use Rattle.filter_model.specs.Config.{FilterConfig}
use Rattle.filter_model.specs.Course.{changed}
use Rattle.filter_model.specs.Half.{Past, becomes, parts, progress}
use Rattle.filter_model.specs.Half as half
use Rattle.filter_model.specs.HalfRight.{framing_in, has_trailers, part_bytes, written_parts}
use Rattle.filter_model.specs.Right.{Call, Took, Failed, IsFor, IsForClientAt, MayTake, account, ask_given, end_given, given_to, is_aborted_at, is_done, is_done_at}
use Rattle.filter_model.specs.Step.{is_live}
use Rattle.filter_model.specs.View.{Given}
use Rattle.filter_model.specs.declared.calls.Side.TheVariants.{Client}
use Rattle.filter_model.specs.declared.calls.Taken.TheVariants.{Piece, Done}
use Rattle.h1_outlet.specs.Outlets.{Flowed, after_give, all, with_reply}
use Rattle.h1_outlet.specs.Stands.{IsGiven, IsNext}
use Rattle.h1_outlet.specs.Stands as outlet
use Rattle.h1_outlet.specs.declared.going.Gave.{Gave}
use Rattle.h1_outlet.specs.declared.outlet.Outlet.{Outlet}
use Rattle.filter_model.specs.InTurn.{asks_in}
use Rattle.exchange.specs.Stands.{AtRest, FlowTies, IsAfter, IsReplied, handed_out, written_reply}
use Rattle.exchange.specs.declared.exchange.Exchange.{Exchange}
use Rattle.exchange.specs.declared.flow.Flow.{Flow}
use Rattle.exchange.proofs.AnsweringEnds.{same_given}
use Rattle.exchange.proofs.AskingOver.{IsOver, account_over, over_live, ties_over}
use Rattle.exchange.proofs.GivingReplied.{replied_head}
use Rattle.exchange.proofs.GivingTo.{other_request, response_kept}
use Rattle.exchange.proofs.Onward.{account_given, unread_given}

-- No part stands before a reply

none_written : (d : Direction) (outs : List Out) → framing_in outs ≡ None → written_parts d outs ≡ []
none_written d [] e = refl
none_written d (part.Head fields framing ∷ outs) e = absurd cc
none_written d (part.Data bytes ∷ outs) e =
    ap (λ l. l ++ part_bytes d (framing_in outs) (has_trailers outs) (part.Data bytes)) (none_written d outs e) ∙ ap (λ o. part_bytes d o (has_trailers outs) (part.Data bytes)) e
none_written d (part.Trailers fields ∷ outs) e =
    ap (λ l. l ++ part_bytes d (framing_in outs) (has_trailers outs) (part.Trailers fields)) (none_written d outs e) ∙ ap (λ o. part_bytes d o (has_trailers outs) (part.Trailers fields)) e
none_written d (part.End ∷ outs) e =
    ap (λ l. l ++ part_bytes d (framing_in outs) (has_trailers outs) part.End) (none_written d outs e) ∙ ap (λ o. part_bytes d o (has_trailers outs) part.End) e
none_written d (part.Nothing ∷ outs) e =
    ap (λ l. l ++ part_bytes d (framing_in outs) (has_trailers outs) part.Nothing) (none_written d outs e) ∙ ap (λ o. part_bytes d o (has_trailers outs) part.Nothing) e

abbrev reply_of : Fate → List ℕ
reply_of (Replied reply) = reply
reply_of _ = []

replied_is : (f : Fate) → IsReplied f → f ≡ Replied (reply_of f)
replied_is Live r = absurd r
replied_is Left r = absurd r
replied_is Aborted r = absurd r
replied_is (Replied reply) r = refl

-- all that goes out
all_is : (c : FilterConfig) (a : ExchangeAccount) (n : ℕ) (w : Option ℕ) (x : Flow) (t : FlowTies c Response a a n w x) → IsReplied a.fate → w ≡ None → x.outlet.framing ≡ None
    → all t.story.flowed ≡ front Response a ++ reply_of a.fate
all_is c a n w x t r i e =
    let f : Flowed = t.story.flowed in
    let k : written_parts f.direction f.parts ≡ [] = none_written f.direction f.parts (sym t.stands.outlet.framing ∙ e) in
    ap (λ l. f.front ++ l ++ f.reply) k ∙ ap (λ l. l ++ f.reply) (append-nil f.front) ∙ ap (λ l. l ++ f.reply) t.front
    ∙ ap (λ l. front Response a ++ l) (t.reply ∙ ap (λ o. written_reply Response o a.fate) i ∙ ap (written_reply Response None) (replied_is a.fate r))

for_client : (c : FilterConfig) (a : ExchangeAccount) (bytes : List ℕ) → IsReplied a.fate → bytes ≡ front Response a ++ reply_of a.fate → IsFor c a Client bytes
for_client c a bytes r e = by a.fate r e
  where
    by : (f : Fate) → IsReplied f → bytes ≡ front Response a ++ reply_of f → IsForClientAt c a f bytes
    by Live r e = absurd r
    by Left r e = absurd r
    by Aborted r e = absurd r
    by (Replied reply) r e = e

done_where : (c : FilterConfig) (a : ExchangeAccount) → IsReplied a.fate → is_done c a Client ≡ bytes_eq (given_to Client a) (front Response a ++ reply_of a.fate)
done_where c a r = ap (is_done_at c a Client) (replied_is a.fate r)

-- once all was given the client is done

pub reply_done : (c : FilterConfig) (a : ExchangeAccount) (n max : ℕ) (w : Option ℕ) (x : Flow) (o : Option Gave) → (t : FlowTies c Response a a n w x) → IsReplied a.fate → w ≡ None → x.outlet.framing ≡ None
    → IsGiven max t.story.flowed o → o ≡ None → is_done c a Client ≡ true
reply_done c a n max w x o t r i e g k =
    let f : Flowed = t.story.flowed in
    let m : f.given ≡ length (all f) = subst (IsGiven max f) k g in
    let l : length (all f) ≤ f.given = omega (arith, m) in
    done_where c a r ∙ (bytes_eq-Decides (given_to Client a) (front Response a ++ reply_of a.fate)).1
    (t.given ∙ take_all f.given (all f) l ∙ all_is c a n w x t r i e)

-- and before it is given the next bytes

some_left : (n : ℕ) (xs bytes : List ℕ) → n ≤ length xs → bytes ≡ take (length bytes) (drop n xs) → 1 ≤ length bytes → n < length xs
some_left n xs bytes l e m =
    let i = length-drop n xs in
    let j : length bytes ≡ length (take (length bytes) (drop n xs)) = ap length e in
    let k = length-take (length bytes) (drop n xs) in
    omega (arith, l, m, i, j, k)

not_all : (n : ℕ) (xs ys : List ℕ) → n < length xs → xs ≡ ys → bytes_eq (take n xs) ys ≡ false
not_all n xs ys l e = by (bytes_eq (take n xs) ys) refl
  where
    by : (b : Bool) → bytes_eq (take n xs) ys ≡ b → bytes_eq (take n xs) ys ≡ false
    by false k = k
    by true k =
        let i : take n xs ≡ ys = (bytes_eq-Decides (take n xs) ys).0 k in
        let j : length (take n xs) ≡ length xs = ap length (i ∙ sym e) in
        let m : length (take n xs) ≡ n = length-take-le n xs (omega (arith, l)) in
        absurd (omega (arith, j, m, l))

pub reply_piece : (c : FilterConfig) (a : ExchangeAccount) (n max : ℕ) (w : Option ℕ) (x : Flow) (gave : Gave) → (t : FlowTies c Response a a n w x) → IsReplied a.fate → w ≡ None → x.outlet.framing ≡ None
    → IsNext max t.story.flowed gave → MayTake c a Client (Piece gave.bytes)
reply_piece c a n max w x gave t r i e g =
    let f : Flowed = t.story.flowed in
    let k = all_is c a n w x t r i e in (
      done_where c a r ∙ ap (λ l. bytes_eq l (front Response a ++ reply_of a.fate)) t.given
          ∙ not_all f.given (all f) (front Response a ++ reply_of a.fate) (some_left f.given (all f) gave.bytes t.stands.outlet.within g.bytes g.least) k,
      ap (is_aborted_at Client) (replied_is a.fate r),
      g.least,
      all f,
      for_client c a (all f) r k,
      record {
        rest = drop (f.given + length gave.bytes) (all f);
        whole = ap (λ l. (l ++ gave.bytes) ++ drop (f.given + length gave.bytes) (all f)) t.given
            ∙ ap (λ l. (take f.given (all f) ++ l) ++ drop (f.given + length gave.bytes) (all f)) g.bytes
            ∙ ap (λ l. l ++ drop (f.given + length gave.bytes) (all f)) (sym (take-add f.given (length gave.bytes) (all f)))
            ∙ take-append-drop (f.given + length gave.bytes) (all f);
      },
    )

-- What it leaves

given_same : (c : FilterConfig) (bytes : List ℕ) (a : ExchangeAccount) → (course Response a).head ≡ None → (d : Direction) → is_given c (gathered (Given Client bytes) a) d ≡ is_given c a d
unfolding account_rules
given_same c bytes a e Request = refl
given_same c bytes a e Response =
    ap (λ o. is_given_at Response o (changed c.course Response (course Response a)) (front Response a) (a.response.given ++ bytes)) e
    ∙ sym (ap (λ o. is_given_at Response o (changed c.course Response (course Response a)) (front Response a) a.response.given) e)

reply_over : (c : FilterConfig) (bytes : List ℕ) (a : ExchangeAccount) → is_live a.fate ≡ false → (course Response a).head ≡ None → IsOver c a (gathered (Given Client bytes) a)
unfolding gathered
reply_over c bytes a l e = record {
  ended = l;
  unread = unread_given Client bytes a;
  fate = refl;
  made = refl;
  ending = refl;
  given = given_same c bytes a e;
}

same_order : (bytes : List ℕ) (a : ExchangeAccount) → ((gathered (Given Client bytes) a).sent ≡ a.sent) × ((gathered (Given Client bytes) a).made ≡ a.made) × ((gathered (Given Client bytes) a).response.given ≡ a.response.given ++ bytes)
unfolding gathered
same_order bytes a = (refl, refl, refl)

over_of : (f : Fate) → IsReplied f → is_live f ≡ false
over_of Live r = absurd r
over_of Left r = absurd r
over_of Aborted r = absurd r
over_of (Replied reply) r = refl

-- the flow of the response with these bytes given
flow_gives : (c : FilterConfig) (a g : ExchangeAccount) (n max : ℕ) (w : Option ℕ) (x : Flow) (gave : Gave) (y : Outlet) → (t : FlowTies c Response a a n w x) → IsOver c a g
    → g.response.given ≡ a.response.given ++ gave.bytes → IsNext max t.story.flowed gave → outlet.StandsFor (after_give (Some gave) t.story.flowed) y → FlowTies c Response g g n w (record x { outlet = y })
flow_gives c a g n max w x gave y t o i m z =
    let f : Flowed = t.story.flowed in
    record {
      story = record t.story { flowed = record f { given = f.given + length gave.bytes } };
      stands = record { reader = t.stands.reader; half = t.stands.half; outlet = z; is_past = t.stands.is_past; parts = t.stands.parts; way = t.stands.way };
      config = t.config;
      way = t.way;
      source = t.source ∙ sym (o.unread.source Response);
      front = t.front ∙ sym (o.unread.front Response);
      given = i ∙ ap (λ l. l ++ gave.bytes) t.given ∙ ap (λ l. take f.given (all f) ++ l) m.bytes ∙ sym (take-add f.given (length gave.bytes) (all f));
      reply = t.reply ∙ ap (written_reply Response w) (sym o.fate);
      handed_on = t.handed_on ∙ ap (λ m. length (asks_in Response (take n m))) (sym o.made);
      told = λ l. over_live c a g o l;
      asks = subst (λ m. IsPrefix (asks_in Response m) (map (ask_of Response) (half.course t.story.past).asks)) (sym o.made) t.asks;
      lost = t.lost ∙ sym (o.unread.lost Response);
      timer = λ l k. over_live c a g o l;
      extended = λ l. over_live c a g o l;
    }

-- with an outlet that stands for the same
flow_same : (c : FilterConfig) (a : ExchangeAccount) (n : ℕ) (w : Option ℕ) (x : Flow) (y : Outlet) → (t : FlowTies c Response a a n w x) → outlet.StandsFor t.story.flowed y
    → FlowTies c Response a a n w (record x { outlet = y })
flow_same c a n w x y t z = record {
  story = t.story;
  stands = record { reader = t.stands.reader; half = t.stands.half; outlet = z; is_past = t.stands.is_past; parts = t.stands.parts; way = t.stands.way };
  config = t.config;
  way = t.way;
  source = t.source;
  front = t.front;
  given = t.given;
  reply = t.reply;
  handed_on = t.handed_on;
  told = t.told;
  asks = t.asks;
  lost = t.lost;
  timer = t.timer;
  extended = t.extended;
}

abbrev with_outlet : Outlet → Exchange → Exchange
with_outlet y x = record x { response = record x.response { outlet = y } }

same_ties : (c : FilterConfig) (a : ExchangeAccount) (n : ℕ) (ends : List Bool) (x : Exchange) (y : Outlet) → (t : AtRest c a n ends x) → outlet.StandsFor t.response.story.flowed y
    → AtRest c a n ends (with_outlet y x)
same_ties c a n ends x y t z = response_kept c a n ends x (record x.response { outlet = y }) t (flow_same c a _ x.waiting x.response y t.response z)
    (λ r. z.framing ∙ sym t.response.stands.outlet.framing ∙ t.alone r)

-- out of memory nothing changes
pub reply_failed : (c : FilterConfig) (h : List Call) (x : Exchange) (y : Outlet) → (s : IsAfter c h x) → outlet.StandsFor s.ties.response.story.flowed y → IsAfter c (Failed ∷ h) (with_outlet y x)
reply_failed c h x y s z = record {
  right = (s.right, tt);
  made = record { sizes = s.made.sizes; settings = s.made.settings };
  ties = same_ties c (account c h) (length (filter_map ask_given h)) (filter_map end_given h) x y s.ties z;
}

pub reply_ends : (c : FilterConfig) (h : List Call) (x : Exchange) (y : Outlet) → (s : IsAfter c h x) → is_done c (account c h) Client ≡ true → outlet.StandsFor s.ties.response.story.flowed y
    → IsAfter c (Took Client Done ∷ h) (with_outlet y x)
reply_ends c h x y s d z = record {
  right = (s.right, d);
  made = record { sizes = s.made.sizes; settings = s.made.settings };
  ties = same_ties c (account c h) (length (filter_map ask_given h)) (filter_map end_given h) x y s.ties z;
}

pub reply_gives : (c : FilterConfig) (h : List Call) (max : ℕ) (x : Exchange) (gave : Gave) (y : Outlet) → (s : IsAfter c h x) → IsReplied (account c h).fate → MayTake c (account c h) Client (Piece gave.bytes)
    → IsNext max s.ties.response.story.flowed gave → outlet.StandsFor (after_give (Some gave) s.ties.response.story.flowed) y → IsAfter c (Took Client (Piece gave.bytes) ∷ h) (with_outlet y x)
reply_gives c h max x gave y s r m k z =
    let a : ExchangeAccount = account c h in
    let g : ExchangeAccount = gathered (Given Client gave.bytes) a in
    let n : ℕ = length (filter_map ask_given h) in
    let l = over_of a.fate r in
    let i = account_given c h Client gave.bytes ∙ account_over c (Given Client gave.bytes) a l in
    let o = reply_over c gave.bytes a l (replied_head c h r) in
    let q = same_order gave.bytes a in
    record {
      right = (s.right, m);
      made = record { sizes = s.made.sizes; settings = s.made.settings };
      ties = subst (λ b. AtRest c b n (filter_map end_given h) (with_outlet y x)) (sym i)
          (ties_over c a g n (filter_map end_given h) x (record x.response { outlet = y }) x.order x.unsent o s.ties (sym (other_request gave.bytes a))
          (flow_gives c a g _ max x.waiting x.response gave y s.ties.response o q.2 k z)
          (s.ties.order ∙ ap (λ j. map direction_of (drop j a.made)) (sym q.0) ∙ ap (λ j. map direction_of (drop g.sent j)) (sym q.1))
          (ap (λ j. j + x.unsent) q.0 ∙ s.ties.unsent) (λ e. z.framing ∙ sym s.ties.response.stands.outlet.framing ∙ s.ties.alone r));
    }

-- The reply of a status is written

request_written : (c : FilterConfig) (a : ExchangeAccount) (n : ℕ) (w : Option ℕ) (x : Flow) → FlowTies c Request a a n w x → FlowTies c Request a a n None x
request_written c a n w x t = record {
  story = t.story;
  stands = t.stands;
  config = t.config;
  way = t.way;
  source = t.source;
  front = t.front;
  given = t.given;
  reply = t.reply;
  handed_on = t.handed_on;
  told = t.told;
  asks = t.asks;
  lost = t.lost;
  timer = t.timer;
  extended = t.extended;
}

response_written : (c : FilterConfig) (a : ExchangeAccount) (n status : ℕ) (x : Flow) (bytes : List ℕ) (y : Outlet) → (t : FlowTies c Response a a n (Some status) x) → a.fate ≡ Replied (local_reply status)
    → bytes ≡ local_reply status → outlet.StandsFor (with_reply bytes t.story.flowed) y → FlowTies c Response a a n None (record x { outlet = y })
response_written c a n status x bytes y t e k z = record {
  story = record t.story { flowed = with_reply bytes t.story.flowed };
  stands = record { reader = t.stands.reader; half = t.stands.half; outlet = z; is_past = t.stands.is_past; parts = t.stands.parts; way = t.stands.way };
  config = t.config;
  way = t.way;
  source = t.source;
  front = t.front;
  given = t.given ∙ same_given bytes t.story.flowed x.outlet t.stands.outlet t.reply;
  reply = k ∙ sym (ap (written_reply Response None) e);
  handed_on = t.handed_on;
  told = t.told;
  asks = t.asks;
  lost = t.lost;
  timer = t.timer;
  extended = t.extended;
}

pub reply_written : (c : FilterConfig) (h : List Call) (x : Exchange) (status : ℕ) (bytes : List ℕ) (y : Outlet) → IsAfter c h x → x.waiting ≡ Some status → bytes ≡ local_reply status
    → ((f : Flowed) → outlet.StandsFor f x.response.outlet → f.reply ≡ [] → outlet.StandsFor (with_reply bytes f) y)
    → IsAfter c h (record x { response = record x.response { outlet = y }; waiting = None })
reply_written c h x status bytes y s e k z =
    let a : ExchangeAccount = account c h in
    let n : ℕ = handed_out (length (filter_map ask_given h)) x.ready in
    let t = subst (λ w. FlowTies c Response a a n w x.response) e s.ties.response in
    let o = z t.story.flowed t.stands.outlet t.reply in
    record {
      right = s.right;
      made = record { sizes = s.made.sizes; settings = s.made.settings };
      ties = record {
        request = request_written c a n x.waiting x.request s.ties.request;
        response = response_written c a n status x.response bytes y t (s.ties.waiting status e) k o;
        order = s.ties.order;
        unsent = s.ties.unsent;
        within = s.ties.within;
        ready = s.ties.ready;
        now = s.ties.now;
        to_head = s.ties.to_head;
        fate = s.ties.fate;
        waiting = λ i j. absurd cc;
        stream = s.ties.stream;
        alone = λ r. o.framing ∙ sym t.stands.outlet.framing ∙ s.ties.alone r;
      };
    }
