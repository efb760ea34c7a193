-- Whether an answer to a part is a cut, and what its direction is told where it is none.
use Rattle.std.proofs.Common.{refl, sym, ◌∙◌, ap, arith, subst, le-ltb}
use Rattle.std.specs.Prelude.{ℕ, ◌≡◌, Bool, true, false, not, ◌&&◌, List, [], ◌∷◌, length, Option, Some, None, is_some, if◌then◌else◌, nat_lt, filter_map, unwrap_or}
use Rattle.std.specs.List.{list_any}
use Rattle.ext_msgs.specs.declared.answer.Answer.{Answer}
use Rattle.ext_msgs.specs.declared.answer.Common.{Common}
use Rattle.ext_msgs.specs.declared.answer.Member.{Member}
use Rattle.ext_msgs.specs.declared.answer.Member.TheVariants as member
use Rattle.ext_msgs.specs.declared.answer.ModeNumbers.{ModeNumbers}
use Rattle.ext_msgs.specs.declared.answer.PartAnswer.{PartAnswer as Told}
use Rattle.ext_msgs.specs.declared.modes.PartModes.{PartModes}
use Rattle.header_mutation.specs.declared.setup.HalfFault.{HalfFault}
use Rattle.header_mutation.specs.declared.setup.HalfFault.TheVariants as fault
use Rattle.http_model.specs.Bytes.{is_empty}
use Rattle.http_model.specs.Wire.{local_reply}
use Rattle.http_model.specs.declared.types.Direction.{Direction}
use Rattle.http_model.specs.declared.types.Direction.TheVariants.{Request, Response}
use Rattle.filter_model.specs.Account as account
use Rattle.filter_model.specs.Account.{Aborted, ExchangeAccount, Replied, course, gathered, is_out_in, is_released, is_to_head, settled}
use Rattle.filter_model.specs.Answers.{answered, override_of}
use Rattle.filter_model.specs.Config.{CourseConfig, FilterConfig}
use Rattle.filter_model.specs.Course.{AskedPart, Course, is_buffered, is_headers, is_over, is_settled, is_spurious_at, is_streamed_back, mode, out, outcome_of}
use Rattle.filter_model.specs.Cut.{AnswerKind, Cut, Malformed, Over, PartAnswer, Refused, Spurious, kind_of, member_cut, over_cut, part_answer, part_cut, part_cut_of, peer_cut, processor_cut}
use Rattle.filter_model.specs.Half.{Answer as Answers, HalfCall, Settle, called, kind_numbered, refusal}
use Rattle.filter_model.specs.Half as half
use Rattle.filter_model.specs.Right.{Call, IsHistory, account, ask_given, end_given}
use Rattle.filter_model.specs.Step.{cut, cut_at, first_of, is_live, reply_to}
use Rattle.filter_model.specs.Told.{IsNoCut, known, told}
use Rattle.filter_model.specs.ToldMore.{IsAnswerTo, across, cut_for, modes_for, other_calls, own_calls}
use Rattle.filter_model.specs.View.{Answered}
use Rattle.filter_model.proofs.AnswerTold.{headers_answered, judged, no_response_yet, not_refused}
use Rattle.filter_model.proofs.Known.{over_known, refusal_known}
use Rattle.filter_model.proofs.NeverOver.{never_over}
use Rattle.filter_model.proofs.OverTold.{other_over, own_over}
use Rattle.filter_model.proofs.StillAtRest.{released_both}
use Rattle.filter_model.proofs.ToldAnswer.{settle_early}
use Rattle.half_machine.specs.Answering.{MayAnswer}
use Rattle.half_machine.specs.Judging.{IsCause}
use Rattle.exchange.specs.Answering.{EndsBy, IsToPart, RefusedTo, fate_by, modes_in, to_part, unsettled}
use Rattle.exchange.specs.Flows.{FlowStands, Story, answer_calls}
use Rattle.exchange.specs.Reading.{HasHeard}
use Rattle.exchange.specs.Moves.{replied_in}
use Rattle.exchange.specs.Stands.{AtRest, FlowTies, IsFate, IsGivenBy, handed_out, written_reply}
use Rattle.exchange.specs.declared.exchange.Exchange.{Exchange}
use Rattle.exchange.specs.declared.fate.Fate.{Fate}
use Rattle.exchange.specs.declared.fate.Fate.TheVariants as fates
use Rattle.exchange.specs.declared.fate.GivenWhole.{GivenWhole}
use Rattle.exchange.specs.declared.flow.Flow.{Flow}
use Rattle.exchange.proofs.ReadingRests.{FlowLeft}
use Rattle.exchange.proofs.ReadingSides.{ended_rests}
use Rattle.exchange.proofs.TimingTies.{given_by, none_waits}
use Rattle.exchange.proofs.AnsweringSizes.{change_fits}
use Rattle.exchange.proofs.AnsweringHeard.{fails_by, member_cut_is, replies_by}
use Rattle.exchange.proofs.TimingSteps.{ends_replied}

-- A refusal

part_of_member : (c : FilterConfig) (a : ExchangeAccount) (m : Member) (p : PartAnswer) → part_answer m ≡ Some p → member_cut c a m ≡ part_cut c a p
part_of_member c a (member.RequestHeaders y) p e = ap (part_cut_of c a) e
part_of_member c a (member.ResponseHeaders y) p e = ap (part_cut_of c a) e
part_of_member c a (member.RequestBody y) p e = ap (part_cut_of c a) e
part_of_member c a (member.ResponseBody y) p e = ap (part_cut_of c a) e
part_of_member c a (member.RequestTrailers y) p e = ap (part_cut_of c a) e
part_of_member c a (member.ResponseTrailers y) p e = ap (part_cut_of c a) e
part_of_member c a member.Unset p e = absurd cc
part_of_member c a (member.Immediate i) p e = absurd cc

-- the processor's cut is that of the part
part_is_cut : (c : FilterConfig) (x : Answer) (p : PartAnswer) (a : ExchangeAccount) → IsAnswerTo c x p a
    → processor_cut c a (Answered (Some x)) ≡ part_cut c a p
part_is_cut c x p a k = member_cut_is c x a k.untimed ∙ part_of_member c a x.member p k.part

-- a half judges as the account does
judged_as : (c : FilterConfig) (d : Direction) (a : ExchangeAccount) (n : ℕ) (w : Option ℕ) (f : Flow) (t : FlowTies c d a a n w f) → is_live a.fate ≡ true → (kind : AnswerKind) (y : Common)
    → refusal t.story.past.config t.story.past.direction (half.course t.story.past) kind y ≡ refusal c.course d (course d a) kind y
judged_as c d a n w f t l kind y =
    ap (λ q. refusal q t.story.past.direction (half.course t.story.past) kind y) t.config
    ∙ ap (λ q. refusal c.course q (half.course t.story.past) kind y) t.way
    ∙ ap (λ q. refusal c.course d q kind y) (t.told l)
    ∙ refusal_known c.course d (course d a) kind y

unreleased_in : (c : FilterConfig) (h : List Call) (d : Direction) → IsHistory c h → is_released (account c h) ≡ false → (course d (account c h)).released ≡ false
unreleased_in c h Request r u = u
unreleased_in c h Response r u = released_both c h r ∙ u

-- its half isn't released either
pub story_unreleased : (c : FilterConfig) (h : List Call) (d : Direction) (n : ℕ) (w : Option ℕ) (f : Flow) (t : FlowTies c d (account c h) (account c h) n w f) → IsHistory c h
    → is_live (account c h).fate ≡ true → is_released (account c h) ≡ false → (half.course t.story.past).released ≡ false
story_unreleased c h d n w f t r l u = ap (λ (v : Course). v.released) (t.told l) ∙ unreleased_in c h d r u

pub refused_to : (c : FilterConfig) (h : List Call) (x : Answer) (d : Direction) (part : Told) (numbers : Option ModeNumbers) (n : ℕ) (w : Option ℕ) (f : Flow) (y : HalfFault) → IsHistory c h
    → IsToPart c h x d part numbers → (t : FlowTies c d (account c h) (account c h) n w f)
    → IsCause (refusal t.story.past.config t.story.past.direction (half.course t.story.past) (kind_numbered part.part) part.common) y
    → RefusedTo c y (account c h) (unsettled c (Answered (Some x)) (account c h))
refused_to c h x d part numbers n w f y r k t i =
    by y (subst (λ q. IsCause q y) (judged_as c d (account c h) n w f t k.heard.live (kind_numbered part.part) part.common) i)
  where
    is : (y : HalfFault) → refusal c.course d (course d (account c h)) (kind_numbered part.part) part.common ≡ Some y → processor_cut c (account c h) (Answered (Some x)) ≡ cut_for (Some y)
    is y e = part_is_cut c x (to_part d part) (account c h) k.to ∙ judged c (to_part d part) (account c h) ∙ ap cut_for e

    by : (y : HalfFault) → IsCause (refusal c.course d (course d (account c h)) (kind_numbered part.part) part.common) y → RefusedTo c y (account c h) (unsettled c (Answered (Some x)) (account c h))
    by fault.Spurious e = fails_by c h x Spurious r k.heard (is fault.Spurious e) refl (λ b. refl)
    by (fault.Malformed place) e = fails_by c h x Malformed r k.heard (is (fault.Malformed place) e) refl (λ b. refl)
    by (fault.Disallowed place) e = replies_by c h x Refused (local_reply 500) r k.heard (is (fault.Disallowed place) e) refl refl
    by fault.Memory e = tt

-- its body change may be told
pub may_answer : (c : FilterConfig) (h : List Call) (x : Answer) (d : Direction) (part : Told) (numbers : Option ModeNumbers) (n : ℕ) (w : Option ℕ) (f : Flow) → IsToPart c h x d part numbers
    → (t : FlowTies c d (account c h) (account c h) n w f) → MayAnswer t.story.past part.common
may_answer c h x d part numbers n w f k t =
    let l = change_fits k.heard.bytes x (to_part d part) k.heard.read k.to.part in
    let i : t.story.past.config.answer_limit ≡ c.course.answer_limit = ap (λ (q : CourseConfig). q.answer_limit) t.config in
    let m = k.heard.within in
    record { fits = omega (arith, l, i, m) }

-- What is told

-- the modes that it brings
abbrev pub brought_by : FilterConfig → Answer → Told → Option (PartModes × PartModes)
brought_by c x part = override_of c (kind_numbered part.part) x.modes

-- it isn't refused
abbrev pub IsAccepted : FilterConfig → ExchangeAccount → Direction → Told → Type 0
IsAccepted c a d part = part_cut c a (to_part d part) ≡ None

accepted_by : (c : FilterConfig) (h : List Call) (x : Answer) (d : Direction) (part : Told) (numbers : Option ModeNumbers) (n : ℕ) (w : Option ℕ) (f : Flow)
    → IsToPart c h x d part numbers → (t : FlowTies c d (account c h) (account c h) n w f)
    → refusal t.story.past.config t.story.past.direction (half.course t.story.past) (kind_numbered part.part) part.common ≡ None → IsAccepted c (account c h) d part
accepted_by c h x d part numbers n w f k t e =
    judged c (to_part d part) (account c h)
    ∙ ap cut_for (sym (judged_as c d (account c h) n w f t k.heard.live (kind_numbered part.part) part.common) ∙ e)

own_as : (d : Direction) (o : Option (PartModes × PartModes)) (y : Common) (b : Bool) → (is_some o ≡ true → b ≡ true) → answer_calls b (modes_in d o) y ≡ own_calls d o y
own_as d None y true i = refl
own_as d None y false i = refl
own_as d (Some m) y b i = ap (λ z. answer_calls z (Some (modes_for d m)) y) (i refl)

-- its direction's course
abbrev pub calls_to : FilterConfig → Direction → Answer → Told → Story → List HalfCall
calls_to c d x part s = answer_calls (list_any is_headers (out (half.course s.past))) (modes_in d (brought_by c x part)) part.common

-- its half took it
pub record HasTaken (c : FilterConfig) (h : List Call) (x : Answer) (d : Direction) (part : Told) (s : Story) (f : Flow) : Type 0 where
  pub accepted : IsAccepted c (account c h) d part
  pub story : Story
  pub stands : FlowStands story f
  pub heard : HasHeard (calls_to c d x part s) s story

pub modes_are : (c : FilterConfig) (h : List Call) (x : Answer) (d : Direction) (part : Told) (numbers : Option ModeNumbers) (both : Option (PartModes × PartModes)) (m : Option PartModes)
    → IsToPart c h x d part numbers → both ≡ override_of c (kind_numbered part.part) numbers → (way : Direction) → m ≡ modes_in way both → m ≡ modes_in way (brought_by c x part)
modes_are c h x d part numbers both m k e way i = i ∙ ap (modes_in way) (e ∙ ap (override_of c (kind_numbered part.part)) k.brings)

pub took : (c : FilterConfig) (h : List Call) (x : Answer) (d : Direction) (part : Told) (numbers : Option ModeNumbers) (n : ℕ) (w : Option ℕ) (f g : Flow) (m : Option PartModes)
    → IsToPart c h x d part numbers → (t : FlowTies c d (account c h) (account c h) n w f) → m ≡ modes_in d (brought_by c x part)
    → refusal t.story.past.config t.story.past.direction (half.course t.story.past) (kind_numbered part.part) part.common ≡ None
    → (s : Story) × FlowStands s g × HasHeard (answer_calls (list_any is_headers (out (half.course t.story.past))) m part.common) t.story s → HasTaken c h x d part t.story g
took c h x d part numbers n w f g m k t i e (s, z, y) = record {
  accepted = accepted_by c h x d part numbers n w f k t e;
  story = s;
  stands = z;
  heard = subst (λ q. HasHeard (answer_calls (list_any is_headers (out (half.course t.story.past))) q part.common) t.story s) i y;
}

told_own : (c : FilterConfig) (h : List Call) (x : Answer) (d : Direction) (part : Told) (numbers : Option ModeNumbers) (n : ℕ) (w : Option ℕ) (f : Flow)
    → IsToPart c h x d part numbers → (t : FlowTies c d (account c h) (account c h) n w f) → IsAccepted c (account c h) d part
    → told t.story.past.config t.story.past.direction (calls_to c d x part t.story) (half.course t.story.past)
    ≡ told c.course d (own_calls d (brought_by c x part) part.common) (known (course d (account c h)))
told_own c h x d part numbers n w f k t e =
    let o : Option (PartModes × PartModes) = brought_by c x part in
    let v : Course = half.course t.story.past in
    ap (λ q. told q t.story.past.direction (calls_to c d x part t.story) v) t.config
    ∙ ap (λ q. told c.course q (calls_to c d x part t.story) v) t.way
    ∙ ap (λ (q : Course). told c.course d (answer_calls (list_any is_headers (out q)) (modes_in d o) part.common) q) (t.told k.heard.live)
    ∙ ap (λ q. told c.course d q (known (course d (account c h))))
    (own_as d o part.common (list_any is_headers (out (course d (account c h)))) (λ i. headers_answered c (to_part d part) x.modes (account c h) e i))

-- The other direction

-- an override for the response comes before its head, and before its body
pub early : (c : FilterConfig) (h : List Call) (x : Answer) (part : Told) (numbers : Option ModeNumbers) → IsHistory c h → IsToPart c h x Request part numbers → IsAccepted c (account c h) Request part
    → is_some (brought_by c x part) ≡ true → (course Response (account c h)).original.head ≡ None
early c h x part numbers r k e i = no_response_yet c h (to_part Request part) x.modes r k.to.unreleased e refl i

abbrev pub settled_course : Option (PartModes × PartModes) → Course → Course
settled_course None w = w
settled_course (Some m) w = called (Settle m.1) w

pub settled_early : (c : FilterConfig) (o : Option (PartModes × PartModes)) (w : Course) → (is_some o ≡ true → w.original.head ≡ None)
    → told c.course Response (other_calls Request o) w ≡ settled_course o w
settled_early c None w i = refl
settled_early c (Some m) w i = settle_early c.course Response w m.1 (i refl)

never_long : (x y z : Bool) → z ≡ false → (x && y && z) ≡ false
never_long true true z e = e
never_long true false z e = refl
never_long false y z e = refl

empty_within : (c : CourseConfig) (w : Course) → w.original.body ≡ [] → is_over c w ≡ false
empty_within c w e =
    never_long (is_settled w) (is_buffered (mode w)) (nat_lt c.buffer_limit (length w.original.body))
    (ap (λ b. nat_lt c.buffer_limit (length b)) e ∙ le-ltb c.buffer_limit 0 (omega arith))

-- before its head nothing of a body was read
no_body : (c : FilterConfig) (d : Direction) (a : ExchangeAccount) (n : ℕ) (w : Option ℕ) (f : Flow) → FlowTies c d a a n w f → is_live a.fate ≡ true → (course d a).original.head ≡ None
    → (course d a).original.body ≡ []
no_body c d a n w f t l e =
    let u = t.stands.half.ties.arrived.unread (ap (λ (v : Course). v.original.head) (t.told l) ∙ e) in
    sym (ap (λ (v : Course). v.original.body) (t.told l)) ∙ u.1

settled_within : (c : CourseConfig) (o : Option (PartModes × PartModes)) (w : Course) → is_over c w ≡ false → (is_some o ≡ true → w.original.body ≡ []) → is_over c (settled_course o w) ≡ false
settled_within c None w e i = e
settled_within c (Some m) w e i = empty_within c (called (Settle m.1) w) (i refl)

-- no body of the other direction is past its limit
other_within : (c : FilterConfig) (h : List Call) (x : Answer) (d : Direction) (part : Told) (numbers : Option ModeNumbers) (n : ℕ) (w : Option ℕ) (f : Flow)
    → IsHistory c h → IsToPart c h x d part numbers → FlowTies c (across d) (account c h) (account c h) n w f → IsAccepted c (account c h) d part
    → is_over c.course (course (across d) (answered c (Answered (Some x)) (account c h))) ≡ false
other_within c h x Request part numbers n w f r k t e =
    let a : ExchangeAccount = account c h in
    let o : Option (PartModes × PartModes) = brought_by c x part in
    sym (other_over c h x (to_part Request part) r k.heard.live k.to e)
    ∙ ap (is_over c.course) (settled_early c o (known (course Response a)) (λ i. early c h x part numbers r k e i))
    ∙ settled_within c.course o (known (course Response a)) (over_known c.course (course Response a) ∙ never_over c h r k.heard.live Response)
    (λ i. no_body c Response a n w f t k.heard.live (early c h x part numbers r k e i))
other_within c h x Response part numbers n w f r k t e =
    sym (other_over c h x (to_part Response part) r k.heard.live k.to e) ∙ over_known c.course (course Request (account c h)) ∙ never_over c h r k.heard.live Request

-- Past its limit

over_in : (c : FilterConfig) (d : Direction) (y : ExchangeAccount) → is_over c.course (course d y) ≡ true → is_over c.course (course (across d) y) ≡ false → over_cut c y ≡ Some (Over d)
unfolding over_cut
over_in c Request y i j = ap (λ b. if b then Some (Over Request) else if is_over c.course y.response.course then Some (Over Response) else None) i
over_in c Response y i j =
    ap (λ b. if b then Some (Over Request) else if is_over c.course y.response.course then Some (Over Response) else None) j
    ∙ ap (λ b. if b then Some (Over Response) else None) i

none_over : (c : FilterConfig) (d : Direction) (y : ExchangeAccount) → is_over c.course (course d y) ≡ false → is_over c.course (course (across d) y) ≡ false → over_cut c y ≡ None
unfolding over_cut
none_over c Request y i j =
    ap (λ b. if b then Some (Over Request) else if is_over c.course y.response.course then Some (Over Response) else None) i
    ∙ ap (λ b. if b then Some (Over Response) else None) j
none_over c Response y i j =
    ap (λ b. if b then Some (Over Request) else if is_over c.course y.response.course then Some (Over Response) else None) j
    ∙ ap (λ b. if b then Some (Over Response) else None) i

first_alone : (o : Option Cut) → first_of o None ≡ o
first_alone None = refl
first_alone (Some k) = refl

-- an answer that isn't refused is a cut only by a body that is past its limit
cut_of_taken : (c : FilterConfig) (x : Answer) (p : PartAnswer) (a : ExchangeAccount) → IsAnswerTo c x p a → part_cut c a p ≡ None
    → cut c (Answered (Some x)) (gathered (Answered (Some x)) a) ≡ over_cut c (answered c (Answered (Some x)) a)
unfolding cut gathered peer_cut
cut_of_taken c x p a k e =
    let o : Option Cut = over_cut c (answered c (Answered (Some x)) a) in
    let q : Option Cut = processor_cut c a (Answered (Some x)) in
    ap (λ b. cut_at b (is_released a) q o None) k.unfinished
    ∙ ap (λ b. cut_at false b q o None) k.unreleased
    ∙ ap (λ z. cut_at false false z o None) (part_is_cut c x p a k ∙ e)
    ∙ first_alone o

-- its half says so
pub over_as : (c : FilterConfig) (h : List Call) (x : Answer) (d : Direction) (part : Told) (numbers : Option ModeNumbers) (n : ℕ) (w : Option ℕ) (f : Flow) → IsHistory c h
    → IsToPart c h x d part numbers → (t : FlowTies c d (account c h) (account c h) n w f) → IsAccepted c (account c h) d part → (s : Story) → HasHeard (calls_to c d x part t.story) t.story s
    → is_over s.past.config (half.course s.past) ≡ is_over c.course (course d (answered c (Answered (Some x)) (account c h)))
over_as c h x d part numbers n w f r k t e s y =
    ap (λ q. is_over q (half.course s.past)) y.config.0 ∙ y.over
    ∙ ap (is_over t.story.past.config) (told_own c h x d part numbers n w f k t e)
    ∙ ap (λ q. is_over q (told c.course d (own_calls d (brought_by c x part) part.common) (known (course d (account c h))))) t.config
    ∙ own_over c h x (to_part d part) r k.heard.live k.to e

abbrev pub limit_status : Direction → ℕ
limit_status Request = 413
limit_status Response = 500

limit_reply : (d : Direction) (b : Bool) → reply_to (Over d) b ≡ Some (local_reply (limit_status d))
limit_reply Request b = refl
limit_reply Response b = refl

pub ends_over : (c : FilterConfig) (h : List Call) (x : Answer) (d : Direction) (part : Told) (numbers : Option ModeNumbers) (n : ℕ) (w : Option ℕ) (f g : Flow) → IsHistory c h
    → IsToPart c h x d part numbers → (t : FlowTies c d (account c h) (account c h) n w f) → FlowTies c (across d) (account c h) (account c h) n w g → IsAccepted c (account c h) d part
    → (s : Story) → HasHeard (calls_to c d x part t.story) t.story s → is_over s.past.config (half.course s.past) ≡ true
    → EndsBy c (local_reply (limit_status d)) (account c h) (unsettled c (Answered (Some x)) (account c h))
unfolding gathered
ends_over c h x d part numbers n w f g r k t v e s y o =
    ends_replied c h (Answered (Some x)) (Over d) (local_reply (limit_status d)) (r, tt) tt k.heard.live refl
    (cut_of_taken c x (to_part d part) (account c h) k.to e
    ∙ over_in c d (answered c (Answered (Some x)) (account c h)) (sym (over_as c h x d part numbers n w f r k t e s y) ∙ o) (other_within c h x d part numbers n w g r k v e))
    refl (limit_reply d (is_to_head (settled c (account c h))))

-- and else it is no cut
pub no_cut_so : (c : FilterConfig) (h : List Call) (x : Answer) (d : Direction) (part : Told) (numbers : Option ModeNumbers) (n : ℕ) (w : Option ℕ) (f g : Flow) → IsHistory c h
    → IsToPart c h x d part numbers → (t : FlowTies c d (account c h) (account c h) n w f) → FlowTies c (across d) (account c h) (account c h) n w g → IsAccepted c (account c h) d part
    → (s : Story) → HasHeard (calls_to c d x part t.story) t.story s → is_over s.past.config (half.course s.past) ≡ false → IsNoCut c (Answered (Some x)) (account c h)
no_cut_so c h x d part numbers n w f g r k t v e s y o = record {
  live = k.heard.live;
  stays = refl;
  none = cut_of_taken c x (to_part d part) (account c h) k.to e
      ∙ none_over c d (answered c (Answered (Some x)) (account c h)) (sym (over_as c h x d part numbers n w f r k t e s y) ∙ o) (other_within c h x d part numbers n w g r k v e);
}

-- What its half has come to
pub course_as : (c : FilterConfig) (h : List Call) (x : Answer) (d : Direction) (part : Told) (numbers : Option ModeNumbers) (n : ℕ) (w : Option ℕ) (f : Flow)
    → IsToPart c h x d part numbers → (t : FlowTies c d (account c h) (account c h) n w f) → IsAccepted c (account c h) d part
    → (s : Story) → HasHeard (calls_to c d x part t.story) t.story s → is_over s.past.config (half.course s.past) ≡ false
    → half.course s.past ≡ told c.course d (own_calls d (brought_by c x part) part.common) (known (course d (account c h)))
course_as c h x d part numbers n w f k t e s y o =
    y.goes (sym y.over ∙ ap (λ q. is_over q (half.course s.past)) (sym y.config.0) ∙ o) ∙ told_own c h x d part numbers n w f k t e

-- the ask that it answers is out
pub is_asked : (c : FilterConfig) (d : Direction) (a : ExchangeAccount) (part : Told) → IsAccepted c a d part → is_out_in a d ≡ true
is_asked c d a part e = by (out (course d a)) (not_refused c (to_part d part) a e)
  where
    by : (l : List AskedPart) → (if is_spurious_at (kind_of (kind_numbered part.part)) (is_streamed_back part.common.body) l then Some fault.Spurious else half.fault_of (outcome_of c.course d (course d a) part.common.headers l)) ≡ None
        → not (is_empty l) ≡ true
    by [] i = absurd cc
    by (q ∷ l) i = refl

-- An exchange that a reply of a status ends, or an abort, whatever the halves were told

pub over_rests : (c : FilterConfig) (h : List Call) (x : Answer) (y : Exchange) (p q : Flow) (status : ℕ) (committed : Bool) (given : GivenWhole) → is_live (account c h).fate ≡ true
    → AtRest c (account c h) (length (filter_map ask_given h)) (filter_map end_given h) y → committed ≡ is_some (course Response (account c h)).head → IsGivenBy c (account c h) given
    → FlowLeft c Request (account c h) (account c h) (handed_out (length (filter_map ask_given h)) y.ready) p
    → FlowLeft c Response (account c h) (account c h) (handed_out (length (filter_map ask_given h)) y.ready) q
    → EndsBy c (local_reply status) (account c h) (unsettled c (Answered (Some x)) (account c h))
    → AtRest c (unsettled c (Answered (Some x)) (account c h)) (length (filter_map ask_given h)) (filter_map end_given h) (replied_in status committed given (record y { request = p; response = q }))
unfolding gathered
over_rests c h x y p q status committed given l t i g u v s = by committed (s.fate ∙ ap (λ b. fate_by b (local_reply status)) (sym i))
  where
    a : ExchangeAccount
    a = account c h

    z : ExchangeAccount
    z = unsettled c (Answered (Some x)) (account c h)

    none : (d : Direction) (w : Option ℕ) → written_reply d w Aborted ≡ []
    none Request w = refl
    none Response None = refl
    none Response (Some n) = refl

    -- that of a status isn't written yet
    late : (d : Direction) (f : account.Fate) → written_reply d (Some status) f ≡ []
    late Request f = refl
    late Response f = refl

    rests : (w : Option ℕ) (new : Fate) → ((d : Direction) → written_reply d w z.fate ≡ []) → IsFate c z z.fate new → ((code : ℕ) → w ≡ Some code → z.fate ≡ Replied (local_reply code))
        → AtRest c z (length (filter_map ask_given h)) (filter_map end_given h) (record y { request = p; response = q; fate = new; waiting = w })
    rests w new o f k =
        ended_rests c h (Answered (Some x)) y p q a a w new l (record { request = refl; response = refl; made = refl; sent = refl; now = refl; unopened = refl; closed = refl }) t t.to_head u v
        (ap is_live s.fate ∙ s.ends) o f k

    by : (b : Bool) → z.fate ≡ fate_by b (local_reply status) → AtRest c z (length (filter_map ask_given h)) (filter_map end_given h) (replied_in status b given (record y { request = p; response = q }))
    by true j =
        rests y.waiting (fates.Aborted given) (λ d. ap (written_reply d y.waiting) j ∙ none d y.waiting)
        (subst (λ o. IsFate c z o (fates.Aborted given)) (sym j) (given_by c a z given s.given g)) (λ code k. absurd (none_waits a.fate (local_reply code) l (t.waiting code k)))
    by false j =
        rests (Some status) (fates.Replied given) (λ d. late d z.fate)
        (subst (λ o. IsFate c z o (fates.Replied given)) (sym j) (given_by c a z given s.given g)) (λ code k. j ∙ ap (λ o. Replied (local_reply (unwrap_or o 0))) k)
