-- Bytes that a live exchange gives to a side.
use Rattle.std.proofs.Common.{refl, sym, ◌∙◌, ap, arith, subst, append-nil, length-append}
use Rattle.std.proofs.lemmas.Bool.{eqb-true}
use Rattle.std.proofs.lemmas.List.{append_assoc, length-drop, take-append-drop}
use Rattle.std.specs.Prelude.{ℕ, ◌≡◌, ◌==◌, ◌+◌, ◌-◌, ◌≤◌, Bool, true, false, not, List, [], ◌∷◌, ◌++◌, length, take, drop, map, filter_map, Option, Some, None}
use Rattle.http_model.specs.Bytes.{is_empty, IsPrefix}
use Rattle.http_model.specs.declared.types.Direction.{Direction}
use Rattle.http_model.specs.declared.types.Direction.TheVariants.{Request, Response}
use Rattle.filter_model.specs.Account.{ExchangeAccount, Fate, Live, course, direction_of, flow, front, gathered, given_count, is_given, is_out_in, to}
use Rattle.filter_model.specs.Answers.{ask_of}
use Rattle.filter_model.specs.Config.{FilterConfig}
use Rattle.filter_model.specs.Course.{AskedPart, Changed, Course, changed, out}
use Rattle.filter_model.specs.Half.{Given as SoManyGiven, becomes, progress}
use Rattle.filter_model.specs.Half as half
use Rattle.filter_model.specs.HalfRight.{written_parts}
use Rattle.filter_model.specs.Outgoing.{IsWire}
use Rattle.filter_model.specs.Right.{Call, Took, IsFor, IsForClientAt, IsHistory, IsWireOf, MayTake, account, ask_given, end_given, given_to, is_aborted, is_aborted_at, is_done, is_done_at}
use Rattle.filter_model.specs.Step.{after, is_live, with_ending}
use Rattle.filter_model.specs.Told.{asks_behind, known, more_given, told}
use Rattle.filter_model.specs.View.{Given}
use Rattle.filter_model.specs.declared.calls.Side.{Side}
use Rattle.filter_model.specs.declared.calls.Side.TheVariants.{Client, Upstream}
use Rattle.filter_model.specs.declared.calls.Taken.TheVariants.{Piece, Nothing}
use Rattle.filter_model.proofs.StillAtRest.{given_rests}
use Rattle.filter_model.proofs.Ended.{changed-head}
use Rattle.filter_model.proofs.HalfWritten.{not_true}
use Rattle.filter_model.proofs.FewAsks.{asks_turn, sent_bound}
use Rattle.filter_model.proofs.NeverOver.{given_no_cut}
use Rattle.filter_model.proofs.ToldOthers.{given_told}
use Rattle.half_machine.specs.Stands as machine
use Rattle.half_machine.specs.declared.half.Half.{Half}
use Rattle.h1_outlet.specs.Outlets.{all}
use Rattle.exchange.specs.Answering.{unsettled}
use Rattle.exchange.specs.Flows.{Story, FlowStands, Gone, IsUnfinished, NothingWaits, SameStory, Took as HasTaken, SameMarks, counted}
use Rattle.filter_model.specs.InTurn.{asks_in}
use Rattle.exchange.specs.Settings.{OfSettings}
use Rattle.exchange.specs.Stands.{AtRest, FlowTies, IsAfter, IsReplied, handed_out}
use Rattle.exchange.specs.declared.exchange.Exchange.{Exchange}
use Rattle.exchange.specs.declared.flow.Flow.{Flow}
use Rattle.exchange.proofs.Moving.{Own, Waits}
use Rattle.exchange.proofs.Next.{given_next}
use Rattle.exchange.proofs.Onward.{Onward, account_given, onward_given, settled_is}
use Rattle.exchange.proofs.Turns.{in_append}
use Rattle.exchange.proofs.Wholly.{becomes_known, given_of_story, is_whole_given, no_reply, says_given}

live_of : (f : Fate) → f ≡ Live → is_live f ≡ true
live_of f e = ap is_live e

abbrev count_by : Direction → Changed → List ℕ → List ℕ → ℕ
count_by d m front given = given_count d m.head front given

-- how the story counts body bytes is how the account does
counts_as : (c : FilterConfig) (d : Direction) (a : ExchangeAccount) (n : ℕ) (w : Option ℕ) (x : Flow) (t : FlowTies c d a a n w x) → is_live a.fate ≡ true → (bytes : List ℕ)
    → given_count t.story.past.direction (becomes t.story.past).head t.story.flowed.front bytes ≡ given_count d (course d a).head (front d a) bytes
counts_as c d a n w x t l bytes =
    let s : Story = t.story in
    ap (λ y. count_by y (becomes s.past) s.flowed.front bytes) t.way
    ∙ ap (λ y. count_by d y s.flowed.front bytes) (becomes_known c d a a n w x t l)
    ∙ ap (λ y. count_by d (changed c.course d (course d a)) y bytes) t.front
    ∙ ap (λ y. given_count d y (front d a) bytes) (sym (changed-head c.course d (course d a)))

-- the body bytes given so far are counted
pub counted_live : (c : FilterConfig) (h : List Call) (d : Direction) (n : ℕ) (w : Option ℕ) (x : Flow) → IsHistory c h → (t : FlowTies c d (account c h) (account c h) n w x)
    → is_live (account c h).fate ≡ true → (half.course t.story.past).given ≡ counted t.story
counted_live c h d n w x r t l =
    let a : ExchangeAccount = account c h in
    let s : Story = t.story in
    ap (λ (v : Course). v.given) (t.told l) ∙ given_rests c h r l d ∙ ap (given_count d (course d a).head (front d a)) t.given
    ∙ sym (counts_as c d a n w x t l (take s.flowed.given (all s.flowed)))

pub open_is : (c : FilterConfig) (h : List Call) (d : Direction) (n : ℕ) (w : Option ℕ) (x : Flow) → IsHistory c h → (t : FlowTies c d (account c h) (account c h) n w x)
    → (account c h).fate ≡ Live → is_given c (account c h) d ≡ false → IsUnfinished t.story
open_is c h d n w x r t e g =
    let a : ExchangeAccount = account c h in
    let l = live_of a.fate e in
    record {
      reply = t.reply ∙ no_reply d w a.fate l;
      unfinished = given_of_story c d a a n w x t l refl ∙ g;
      counts = counted_live c h d n w x r t l;
    }

-- What may be taken

for_live : (c : FilterConfig) (a : ExchangeAccount) (s : Side) (bytes wire : List ℕ) → a.fate ≡ Live → IsWireOf c a (to s) wire → bytes ≡ front (to s) a ++ wire → IsFor c a s bytes
for_live c a Client bytes wire e k i = subst (λ f. IsForClientAt c a f bytes) (sym e) (wire, k, i)
for_live c a Upstream bytes wire e k i = subst (IsWireOf c a Request) (sym i) k

not_done : (c : FilterConfig) (a : ExchangeAccount) (s : Side) → a.fate ≡ Live → is_given c a (to s) ≡ false → is_done c a s ≡ false
not_done c a s e g = ap (is_done_at c a s) e ∙ g

not_aborted : (a : ExchangeAccount) (s : Side) → a.fate ≡ Live → is_aborted a s ≡ false
not_aborted a s e = ap (is_aborted_at s) e

pub done_is : (c : FilterConfig) (a : ExchangeAccount) (s : Side) → a.fate ≡ Live → is_given c a (to s) ≡ true → is_done c a s ≡ true
done_is c a s e g = ap (is_done_at c a s) e ∙ g

-- all that was handed out goes behind the front
all_of : (s : Story) → s.flowed.reply ≡ [] → all s.flowed ≡ s.flowed.front ++ written_parts s.flowed.direction s.flowed.parts
all_of s e = ap (λ r. s.flowed.front ++ written_parts s.flowed.direction s.flowed.parts ++ r) e ∙ append-nil (s.flowed.front ++ written_parts s.flowed.direction s.flowed.parts)

wire_of : (c : FilterConfig) (d : Direction) (a : ExchangeAccount) (n : ℕ) (w : Option ℕ) (x : Flow) (t : FlowTies c d a a n w x) → is_live a.fate ≡ true → (wire : List ℕ)
    → IsWire t.story.past.direction (becomes t.story.past) wire → IsWireOf c a d wire
wire_of c d a n w x t l wire k =
    subst (λ m. IsWire d m wire) (becomes_known c d a a n w x t l) (subst (λ y. IsWire y (becomes t.story.past) wire) t.way k)

pub nothing_may : (c : FilterConfig) (h : List Call) (s : Side) (n : ℕ) (w : Option ℕ) (x : Flow) → IsHistory c h → (t : FlowTies c (to s) (account c h) (account c h) n w x)
    → (account c h).fate ≡ Live → is_given c (account c h) (to s) ≡ false → NothingWaits t.story → MayTake c (account c h) s Nothing
nothing_may c h s n w x r t e g k =
    let a : ExchangeAccount = account c h in
    let y : Story = t.story in
    let l = live_of a.fate e in
    let wire : List ℕ = written_parts y.past.direction y.flowed.parts in (
      not_done c a s e g,
      not_aborted a s e,
      for_live c a s (given_to s a) wire e (wire_of c (to s) a n w x t l wire k.wire)
          (t.given ∙ k.given ∙ all_of y (t.reply ∙ no_reply (to s) w a.fate l) ∙ ap (λ f. f ++ written_parts y.flowed.direction y.flowed.parts) t.front
          ∙ ap (λ d. front (to s) a ++ written_parts d y.flowed.parts) t.stands.way),
    )

first_of : (n : ℕ) (xs front written wire : List ℕ) → xs ≡ front ++ written → IsPrefix written wire → IsPrefix (take n xs) (front ++ wire)
first_of n xs front written wire e p = record {
  rest = drop n xs ++ p.rest;
  whole = sym (append_assoc (take n xs) (drop n xs) p.rest) ∙ ap (λ l. l ++ p.rest) (take-append-drop n xs ∙ e) ∙ append_assoc front written p.rest ∙ ap (λ l. front ++ l) p.whole;
}

pub piece_may : (c : FilterConfig) (h : List Call) (s : Side) (n max : ℕ) (w : Option ℕ) (x y : Flow) (bytes : List ℕ) (s' : Story) → IsHistory c h
    → (t : FlowTies c (to s) (account c h) (account c h) n w x) → (account c h).fate ≡ Live → is_given c (account c h) (to s) ≡ false → FlowStands s' y → Gone max t.story bytes s'
    → MayTake c (account c h) s (Piece bytes)
piece_may c h s n max w x y bytes s' r t e g z k =
    let a : ExchangeAccount = account c h in
    let l = live_of a.fate e in
    let (wire, m, p) = k.wire in (
      not_done c a s e g,
      not_aborted a s e,
      k.some,
      front (to s) a ++ wire,
      for_live c a s (front (to s) a ++ wire) wire e (wire_of c (to s) a n w x t l wire m) refl,
      subst (λ q. IsPrefix q (front (to s) a ++ wire)) (k.next ∙ ap (λ q. q ++ bytes) (sym t.given))
          (first_of s'.flowed.given (all s'.flowed) (front (to s) a) (written_parts s'.flowed.direction s'.flowed.parts) wire
          (all_of s' k.reply ∙ ap (λ q. q ++ written_parts s'.flowed.direction s'.flowed.parts) (k.front ∙ t.front))
          (subst (λ d. IsPrefix (written_parts d s'.flowed.parts) wire) (sym (z.way ∙ k.config.1)) p)),
    )

-- What is given

given_counted : (c : FilterConfig) (h : List Call) (s : Side) (n max : ℕ) (w : Option ℕ) (x y : Flow) (bytes : List ℕ) (s' : Story)
    → (t : FlowTies c (to s) (account c h) (account c h) n w x) → is_live (account c h).fate ≡ true → Gone max t.story bytes s'
    → half.course s'.past ≡ told c.course (to s) (SoManyGiven (more_given s bytes (account c h)) ∷ []) (known (course (to s) (account c h)))
given_counted c h s n max w x y bytes s' t l k =
    let a : ExchangeAccount = account c h in
    let p : half.Past = t.story.past in
    let given : List ℕ = take s'.flowed.given (all s'.flowed) in
    let m : ℕ = given_count p.direction (becomes p).head t.story.flowed.front given - (half.course p).given in
    k.told
    ∙ ap (λ v. told v p.direction (SoManyGiven m ∷ []) (half.course p)) t.config ∙ ap (λ v. told c.course v (SoManyGiven m ∷ []) (half.course p)) t.way
    ∙ ap (told c.course (to s) (SoManyGiven m ∷ [])) (t.told l)
    ∙ ap (λ v. told c.course (to s) (SoManyGiven v ∷ []) (known (course (to s) a)))
    (ap (λ v. v - (half.course p).given) (counts_as c (to s) a n w x t l given) ∙ ap (λ (v : Course). given_count (to s) (course (to s) a).head (front (to s) a) given - v.given) (t.told l)
    ∙ ap (λ v. given_count (to s) (course (to s) a).head (front (to s) a) v - (course (to s) a).given) (k.next ∙ ap (λ q. q ++ bytes) (sym t.given)))

given_more : (s : Side) (bytes : List ℕ) (a : ExchangeAccount) → (flow (to s) (gathered (Given s bytes) a)).given ≡ (flow (to s) a).given ++ bytes
unfolding gathered
given_more Client bytes a = refl
given_more Upstream bytes a = refl

course_unsettled : (c : FilterConfig) (h : List Call) (s : Side) (bytes : List ℕ) (d : Direction) → course d (unsettled c (Given s bytes) (account c h)) ≡ course d (account c (Took s (Piece bytes) ∷ h))
unfolding after
course_unsettled c h s bytes Request = refl
course_unsettled c h s bytes Response = refl

pub none_out : (k : ℕ) (d : Direction) (a : ExchangeAccount) → k ≡ length (out (course d a)) → (k == 0) ≡ not (is_out_in a d)
none_out k d a e = ap (λ n. n == 0) e ∙ by (out (course d a))
  where
    by : (xs : List AskedPart) → (length xs == 0) ≡ not (not (is_empty xs))
    by [] = refl
    by (x ∷ xs) = not_zero (length xs) (eqb-true (ℕ.suc (length xs)) 0)
      where
        differs : (n : ℕ) → ℕ.suc n ≡ 0 → ⊥
        differs n e = omega (arith, e)

        not_zero : (n : ℕ) → ((ℕ.suc n == 0) ≡ true → ℕ.suc n ≡ 0) → (ℕ.suc n == 0) ≡ false
        not_zero n f = not_true (ℕ.suc n == 0) (λ e. differs n (f e))

-- how many asks a direction made, by those that its half hasn't handed out
pub made_is : (before after handed handed' : ℕ) (xs ys : List AskedPart) → before + handed ≡ length xs → after + handed' ≡ length ys → handed' ≡ handed → length xs ≤ length ys
    → after - before ≡ length (drop (length xs) ys)
made_is before after handed handed' xs ys e f g l = let k = length-drop (length xs) ys in omega (arith, e, f, g, l, k)

-- a direction's asks stay
pub asks_grow : (c : FilterConfig) (h : List Call) (d : Direction) (g b : ExchangeAccount) → Onward c d g (account c h) b → length (course d (account c h)).asks ≤ length (course d b).asks
asks_grow c h d g b o =
    let a : ExchangeAccount = account c h in
    let more = asks_behind d (course d a) (course d b) in
    let e : length (asks_in d b.made) ≡ length (asks_in d a.made) + length (asks_in d more) = ap (λ l. length (asks_in d l)) o.made ∙ ap length (in_append d a.made more) ∙ length-append (asks_in d a.made) (asks_in d more) in
    let i : length (asks_in d b.made) ≡ length (course d b).asks = ap length (o.asks d) ∙ long (course d b).asks in
    let j : length (asks_in d a.made) ≡ length (course d a).asks = ap length (asks_turn c h d) ∙ long (course d a).asks in
    omega (arith, e, i, j)
  where
    long : (ps : List AskedPart) → length (map (ask_of d) ps) ≡ length ps
    long [] = refl
    long (p ∷ ps) = ap ℕ.suc (long ps)

-- what a half says of the asks that it hasn't handed out, and of those that are out
abbrev pub SaysUnhanded : ℕ → Half → Type 0
SaysUnhanded n x = (p : half.Past) → machine.StandsFor p x → n + (progress p).handed ≡ length (half.course p).asks

abbrev pub SaysOut : ℕ → Half → Type 0
SaysOut n x = (p : half.Past) → machine.StandsFor p x → n ≡ length (out (half.course p))

pub record Gives (c : FilterConfig) (h : List Call) (s : Side) (bytes : List ℕ) (y : Story) (x x' : Flow) (before now max : ℕ) (idle : Bool) : Type 0 where
  pub may : MayTake c (account c h) s (Piece bytes)
  pub onward : Onward c (to s) (gathered (Given s bytes) (account c h)) (account c h) (unsettled c (Given s bytes) (account c h))
  pub less : before ≤ now
  pub most : length bytes ≤ max
  pub own : Own c (to s) (account c h) (unsettled c (Given s bytes) (account c h)) y x x' (now - before) idle

pub gives : (c : FilterConfig) (h : List Call) (s : Side) (n max : ℕ) (w : Option ℕ) (x y : Flow) (bytes : List ℕ) (before now outs : ℕ) → IsHistory c h
    → (t : FlowTies c (to s) (account c h) (account c h) n w x) → (account c h).fate ≡ Live → is_given c (account c h) (to s) ≡ false → HasTaken max t.story (Some bytes) y → SameMarks x y
    → SaysUnhanded before x.half → SaysUnhanded now y.half → SaysOut outs x.half → Gives c h s bytes t.story x y before now max (outs == 0)
gives c h s n max w x y bytes before now outs r t e g (s', z, k) marks u u' v =
    let a : ExchangeAccount = account c h in
    let b : ExchangeAccount = unsettled c (Given s bytes) a in
    let l = live_of a.fate e in
    let m = piece_may c h s n max w x y bytes s' r t e g z k in
    let o = onward_given c h s bytes (r, m) l in
    let told : half.course s'.past ≡ known (course (to s) b) =
    given_counted c h s n max w x y bytes s' t l k ∙ sym (given_told c h s bytes (r, m) (given_no_cut c h s bytes r l)) ∙ ap known (sym (course_unsettled c h s bytes (to s))) in
    let i : before + (progress t.story.past).handed ≡ length (course (to s) a).asks = u t.story.past t.stands.half ∙ ap (λ (q : Course). length q.asks) (t.told l) in
    let j : now + (progress s'.past).handed ≡ length (course (to s) b).asks = u' s'.past z.half ∙ ap (λ (q : Course). length q.asks) told in
    let q = asks_grow c h (to s) _ b o in
    let f = k.handed in
    record {
      may = m;
      onward = o;
      less = omega (arith, i, j, q, f);
      most = k.most;
      own = record {
        story = s';
        stands = z;
        moved = record { source = k.source; config = k.config; handed = k.handed; front = k.front; reply = k.reply };
        told = told;
        given = given_next (to s) (gathered (Given s bytes) a) b o.rest ∙ given_more s bytes a ∙ ap (λ p. p ++ bytes) t.given ∙ sym k.next;
        marks = marks;
        rested = none_out outs (to s) a (v t.story.past t.stands.half ∙ ap (λ (p : Course). length (out p)) (t.told l));
        grown = made_is before now (progress t.story.past).handed (progress s'.past).handed (course (to s) a).asks (course (to s) b).asks i j k.handed q;
      };
    }

-- What the calls of `take` leave

pub flow_says : (c : FilterConfig) (d : Direction) (a : ExchangeAccount) (n : ℕ) (w : Option ℕ) (x : Flow) → FlowTies c d a a n w x → a.fate ≡ Live → (b : Bool)
    → ((s : Story) → FlowStands s x → s.flowed.reply ≡ [] → b ≡ is_whole_given s) → b ≡ is_given c a d
flow_says c d a n w x t e b k = says_given c d a a n w x t (live_of a.fate e) refl b k

-- out of memory a part may have been handed out
pub flow_kept : (c : FilterConfig) (d : Direction) (a : ExchangeAccount) (n : ℕ) (w : Option ℕ) (x y : Flow) (t : FlowTies c d a a n w x) (s : Story) → FlowStands s y → SameStory t.story s
    → SameMarks x y → FlowTies c d a a n w y
flow_kept c d a n w x y t s z k m = record {
  story = s;
  stands = z;
  config = k.config.0 ∙ t.config;
  way = k.config.1 ∙ t.way;
  source = k.source ∙ t.source;
  front = k.front ∙ t.front;
  given = t.given ∙ sym (ap (λ i. take i (all s.flowed)) k.given ∙ k.first);
  reply = k.reply ∙ t.reply;
  handed_on = k.handed ∙ t.handed_on;
  told = λ l. k.course ∙ t.told l;
  asks = subst (λ (v : Course). IsPrefix (asks_in d a.made) (map (ask_of d) v.asks)) (sym k.course) t.asks;
  lost = m.lost ∙ t.lost;
  timer = λ l o. m.deadline ∙ t.timer l o;
  extended = λ l. m.extended ∙ t.extended l;
}

pub took_none : (max : ℕ) (s : Story) (o : Option (List ℕ)) (x : Flow) → ((bytes : List ℕ) → o ≡ Some bytes → ⊥) → HasTaken max s o x → NothingWaits s × FlowStands s x
took_none max s None x n k = k
took_none max s (Some bytes) x n k = absurd (n bytes refl)

pub took_some : (max : ℕ) (s : Story) (o : Option (List ℕ)) (bytes : List ℕ) (x : Flow) → o ≡ Some bytes → HasTaken max s o x → HasTaken max s (Some bytes) x
took_some max s o bytes x e k = subst (λ p. HasTaken max s p x) e k

same_sent : (s : Side) (bytes : List ℕ) (a : ExchangeAccount) → (gathered (Given s bytes) a).sent ≡ a.sent
unfolding gathered
same_sent s bytes a = refl

pub other_request : (bytes : List ℕ) (a : ExchangeAccount) → (gathered (Given Client bytes) a).request.given ≡ a.request.given
unfolding gathered
other_request bytes a = refl

pub other_response : (bytes : List ℕ) (a : ExchangeAccount) → (gathered (Given Upstream bytes) a).response.given ≡ a.response.given
unfolding gathered
other_response bytes a = refl

pub waits_given : (c : FilterConfig) (h : List Call) (s : Side) (bytes : List ℕ) (n : ℕ) (ends : List Bool) (x : Exchange) → AtRest c (account c h) n ends x
    → Onward c (to s) (gathered (Given s bytes) (account c h)) (account c h) (unsettled c (Given s bytes) (account c h))
    → Waits (account c h) (unsettled c (Given s bytes) (account c h)) n x.order x.unsent
waits_given c h s bytes n ends x t o =
    let e : (unsettled c (Given s bytes) (account c h)).sent ≡ (account c h).sent = o.rest.sent ∙ same_sent s bytes (account c h) in
    let b = sent_bound c h in
    record {
      ways = t.order ∙ ap (λ k. map direction_of (drop k (account c h).made)) (sym e);
      counts = ap (λ k. k + x.unsent) e ∙ t.unsent;
      bound = omega (arith, b, e);
    }

pub stands_given : (c : FilterConfig) (h : List Call) (s : Side) (bytes : List ℕ) (x z : Exchange) → IsAfter c h x → (account c h).fate ≡ Live → MayTake c (account c h) s (Piece bytes)
    → AtRest c (with_ending c (unsettled c (Given s bytes) (account c h))) (length (filter_map ask_given h)) (filter_map end_given h) z → z.settings ≡ x.settings
    → IsAfter c (Took s (Piece bytes) ∷ h) z
stands_given c h s bytes x z k e m t i = record {
  right = (k.right, m);
  made = record { sizes = k.made.sizes; settings = subst (OfSettings c) (sym i) k.made.settings };
  ties = subst (λ b. AtRest c b (length (filter_map ask_given h)) (filter_map end_given h) z)
      (settled_is c (Given s bytes) (account c h) (live_of (account c h).fate e) ∙ sym (account_given c h s bytes)) t;
}

-- a direction's flow alone changes

pub request_kept : (c : FilterConfig) (a : ExchangeAccount) (n : ℕ) (ends : List Bool) (x : Exchange) (y : Flow) → AtRest c a n ends x
    → FlowTies c Request a a (handed_out n x.ready) x.waiting y → AtRest c a n ends (record x { request = y })
request_kept c a n ends x y t k = record {
  request = k;
  response = t.response;
  order = t.order;
  unsent = t.unsent;
  within = t.within;
  ready = t.ready;
  now = t.now;
  to_head = t.to_head;
  fate = t.fate;
  waiting = t.waiting;
  stream = t.stream;
  alone = t.alone;
}

pub response_kept : (c : FilterConfig) (a : ExchangeAccount) (n : ℕ) (ends : List Bool) (x : Exchange) (y : Flow) → AtRest c a n ends x
    → FlowTies c Response a a (handed_out n x.ready) x.waiting y → (IsReplied a.fate → y.outlet.framing ≡ None) → AtRest c a n ends (record x { response = y })
response_kept c a n ends x y t k v = record {
  request = t.request;
  response = k;
  order = t.order;
  unsent = t.unsent;
  within = t.within;
  ready = t.ready;
  now = t.now;
  to_head = t.to_head;
  fate = t.fate;
  waiting = t.waiting;
  stream = t.stream;
  alone = v;
}
