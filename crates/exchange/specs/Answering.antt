-- What the halves are told of an answer, and what an exchange comes to by what the processor does.
use Rattle.std.specs.Prelude.{ℕ, ◌≡◌, ◌⊎◌, ◌+◌, ◌&&◌, ◌||◌, not, unwrap_or, Bool, true, false, List, Option, None, Some, is_some, length, ◌≤◌, Ok, if◌then◌else◌}
use Rattle.ext_msgs.specs.declared.answer.Span.{Span}
use Rattle.ext_msgs.specs.declared.modes.PartModes.{PartModes}
use Rattle.ext_msgs.specs.Messages.{answer_of}
use Rattle.ext_msgs.specs.declared.answer.Answer.{Answer}
use Rattle.ext_msgs.specs.declared.answer.Immediate.{Immediate}
use Rattle.ext_msgs.specs.declared.answer.ModeNumbers.{ModeNumbers}
use Rattle.ext_msgs.specs.declared.answer.PartAnswer.{PartAnswer as Told}
use Rattle.header_mutation.specs.Mutated.{first_bad, items}
use Rattle.header_mutation.specs.declared.setup.HalfFault.{HalfFault}
use Rattle.header_mutation.specs.declared.setup.HalfFault.TheVariants as fault
use Rattle.http_model.specs.Wire.{local_reply}
use Rattle.http_model.specs.declared.types.Direction.{Direction}
use Rattle.http_model.specs.declared.types.Direction.TheVariants.{Response}
use Rattle.filter_model.specs.Account.{ExchangeAccount, Fate, Replied, Aborted, course, flow, is_finished, is_given, is_out_in, is_released, is_to_head}
use Rattle.filter_model.specs.Answers.{extended_by}
use Rattle.filter_model.specs.Config.{FilterConfig}
use Rattle.filter_model.specs.Course.{head_kind}
use Rattle.filter_model.specs.Cut.{PartAnswer}
use Rattle.filter_model.specs.Half.{Settle, kind_numbered}
use Rattle.filter_model.specs.Outgoing.{immediate_reply}
use Rattle.filter_model.specs.Right.{Call, account}
use Rattle.filter_model.specs.Step.{is_live, step}
use Rattle.filter_model.specs.Told.{known}
use Rattle.filter_model.specs.ToldMore.{IsAnswerTo, SameRest, modes_for}
use Rattle.filter_model.specs.View.{ViewEntry}
use Rattle.exchange.specs.Flows.{Story, with_call}
use Rattle.exchange.specs.Passing.{PassesTo}
use Rattle.exchange.specs.Stands.{IsConfigured, IsReplied, in_64}
use Rattle.exchange.specs.declared.exchange.Exchange.{Exchange}
use Rattle.exchange.specs.declared.flow.Flow.{Flow}

-- the modes that an answer brings are told while the ask of the headers is out
abbrev pub settled_with : Bool → Option PartModes → Story → Story
settled_with true (Some modes) s = with_call (Settle modes) s
settled_with _ _ s = s

-- an account before how the stream ends is settled
abbrev pub unsettled : FilterConfig → ViewEntry → ExchangeAccount → ExchangeAccount
unsettled c e a = record (step c e a) { ending = a.ending }

-- The halves are told nothing, and the exchange lives on

pub record StaysTo (c : FilterConfig) (a b : ExchangeAccount) : Type 0 where
  pub live : is_live a.fate ≡ true
  pub told : (d : Direction) → known (course d b) ≡ known (course d a)
  pub timer : (d : Direction) → is_out_in a d ≡ true → (flow d b).deadline ≡ (flow d a).deadline
  pub extended : (d : Direction) → (flow d b).extended ≡ (flow d a).extended
  pub rest : SameRest a b
  pub made : b.made ≡ a.made
  pub fate : b.fate ≡ a.fate
  pub ending : b.ending ≡ a.ending

-- The exchange ends

pub record EndsTo (c : FilterConfig) (to : Fate) (a b : ExchangeAccount) : Type 0 where
  pub live : is_live a.fate ≡ true
  pub ends : is_live to ≡ false
  pub fate : b.fate ≡ to
  pub rest : SameRest a b
  pub made : b.made ≡ a.made
  pub given : (d : Direction) → is_given c b d ≡ is_given c a d
  pub ending : b.ending ≡ a.ending
  -- by a reply only before the response's head
  pub early : IsReplied to → (course Response a).head ≡ None

-- by this reply, or an abort where the response's head can go
abbrev pub fate_by : Bool → List ℕ → Fate
fate_by committed reply = if committed then Aborted else Replied reply

abbrev pub EndsBy : FilterConfig → List ℕ → ExchangeAccount → ExchangeAccount → Type 0
EndsBy c reply a b = EndsTo c (fate_by (is_some (course Response a).head) reply) a b

-- The processor fails: the rest passes, or a reply of this status ends the exchange

pub record FailsTo (c : FilterConfig) (status : ℕ) (a b : ExchangeAccount) : Type 0 where
  pub passes : c.failure_allow ≡ true → PassesTo c a b
  pub ends : c.failure_allow ≡ false → EndsBy c (local_reply status) a b

-- where it is heard
pub record FailsIfHeard (c : FilterConfig) (status : ℕ) (a b : ExchangeAccount) : Type 0 where
  pub live : is_live a.fate ≡ true
  pub heard : is_finished c a ≡ false → is_released a ≡ false → FailsTo c status a b
  pub idle : (is_released a ≡ true) ⊎ (is_finished c a ≡ true) → StaysTo c a b

-- An answer is refused

-- what a rule forbids ends the exchange whatever the failure mode is
abbrev pub RefusedTo : FilterConfig → HalfFault → ExchangeAccount → ExchangeAccount → Type 0
RefusedTo c fault.Spurious a b = FailsTo c 500 a b
RefusedTo c (fault.Malformed place) a b = FailsTo c 500 a b
RefusedTo c (fault.Disallowed place) a b = EndsBy c (local_reply 500) a b
RefusedTo c fault.Memory a b = Unit {0}

-- An immediate response: one that isn't allowed, or whose mutation is invalid, is a failure

abbrev pub is_invalid : Immediate → Bool
is_invalid i = is_some (first_bad (items (head_kind Response) i.headers))

pub record ImmediatelyTo (c : FilterConfig) (i : Immediate) (a b : ExchangeAccount) : Type 0 where
  pub denied : c.no_immediate ≡ true → FailsTo c 500 a b
  pub invalid : c.no_immediate ≡ false → is_invalid i ≡ true → FailsTo c 500 a b
  pub replied : c.no_immediate ≡ false → is_invalid i ≡ false → EndsBy c (immediate_reply (is_to_head a) i) a b

-- Another time for the oldest ask out

-- once for each ask, and where it is in its range
abbrev pub extended_in : ℕ → Option ℕ → Flow → Flow
extended_in clock ms f = record f {
  deadline = if not f.extended && is_some ms then in_64 (clock + unwrap_or ms 0) else f.deadline;
  extended = not f.extended && is_some ms || f.extended;
}

-- the halves are told nothing, and the timers are those of the override
pub record ExtendsTo (c : FilterConfig) (t : Span) (a b : ExchangeAccount) : Type 0 where
  pub live : is_live a.fate ≡ true
  pub told : (d : Direction) → known (course d b) ≡ known (course d a)
  pub timer : (d : Direction) → is_out_in a d ≡ true → (flow d b).deadline ≡ (flow d (extended_by c t a)).deadline
  pub extended : (d : Direction) → (flow d b).extended ≡ (flow d (extended_by c t a)).extended
  pub rest : SameRest a b
  pub made : b.made ≡ a.made
  pub fate : b.fate ≡ a.fate
  pub ending : b.ending ≡ a.ending

-- of an exchange that lives
abbrev pub HasConfig : Exchange → Type 0
HasConfig x = (c : FilterConfig) × IsConfigured c x

-- An answer counts

-- it was read of a message within the limit, and the processor is still heard
pub record CanHear (c : FilterConfig) (h : List Call) (x : Answer) : Type 0 where
  pub live : is_live (account c h).fate ≡ true
  pub unfinished : is_finished c (account c h) ≡ false
  pub unreleased : is_released (account c h) ≡ false
  pub bytes : List ℕ
  pub read : answer_of bytes ≡ Ok x
  pub within : length bytes ≤ c.course.answer_limit

-- One to a part

-- the modes of a direction among those of both
abbrev pub modes_in : Direction → Option (PartModes × PartModes) → Option PartModes
modes_in d None = None
modes_in d (Some both) = Some (modes_for d both)

abbrev pub to_part : Direction → Told → PartAnswer
to_part d part = record { direction = d; kind = kind_numbered part.part; common = part.common }

-- an answer says this of a part, and brings these modes
pub record IsToPart (c : FilterConfig) (h : List Call) (x : Answer) (d : Direction) (part : Told) (numbers : Option ModeNumbers) : Type 0 where
  pub heard : CanHear c h x
  pub to : IsAnswerTo c x (to_part d part) (account c h)
  pub brings : numbers ≡ x.modes
