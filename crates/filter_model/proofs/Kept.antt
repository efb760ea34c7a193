-- What a step leaves as it was: bytes brought and given, what was read, the end of the stream; and the asks that were made.
use Rattle.std.proofs.Common.{sym, ◌∙◌, append-nil}
use Rattle.std.specs.Prelude.{◌≡◌, ◌&&◌, ◌||◌, Bool, true, false, List, [], Option, Some, None, refl, map, drop, length, is_none, if◌then◌else◌}
use Rattle.ext_msgs.specs.declared.answer.Answer.{Answer}
use Rattle.ext_msgs.specs.declared.answer.ModeNumbers.{ModeNumbers}
use Rattle.ext_msgs.specs.declared.answer.Span.{Span}
use Rattle.ext_msgs.specs.declared.ask.Ask.{Ask}
use Rattle.ext_msgs.specs.declared.modes.PartModes.{PartModes}
use Rattle.http_model.specs.Bytes.{IsPrefix}
use Rattle.http_model.specs.declared.types.Direction.{Direction}
use Rattle.http_model.specs.declared.types.Direction.TheVariants.{Request, Response}
use Rattle.filter_model.specs.Config.{FilterConfig}
use Rattle.filter_model.specs.Course.{asked}
use Rattle.filter_model.specs.Account.{ExchangeAccount, Flow, course, gathered, settled, account_rules, is_released, is_finished}
use Rattle.filter_model.specs.Cut.{Cut, PartAnswer, part_answer}
use Rattle.filter_model.specs.Answers.{answered, answered_by, part_answered, overridden, override_of, joined, asked_in, ask_of}
use Rattle.filter_model.specs.Step.{rules, accepted, no_cut, under_cut, under_departure, step_if, step, after_end, still_counts, cut, is_departure, is_live, effect}
use Rattle.filter_model.specs.View.{ViewEntry, Bytes, End, Lost, Answered, TooLong, Closed, NoStream, Tick, Starved, Sent, Given}
use Rattle.http_model.proofs.BodiesGrow.{itself, onward}

-- Prefixes

-- What stays

pub record FlowKept (f f' : Flow) : Type 0 where
  pub brought : f'.brought ≡ f.brought
  pub ended : f'.ended ≡ f.ended
  pub given : f'.given ≡ f.given
  pub original : f'.course.original ≡ f.course.original
  -- a head that was chosen stays
  pub unchosen : f'.course.head ≡ None → f.course.head ≡ None

pub record Kept (a a' : ExchangeAccount) : Type 0 where
  pub request : FlowKept a.request a'.request
  pub response : FlowKept a.response a'.response
  pub ending : a'.ending ≡ a.ending
  pub sent : a'.sent ≡ a.sent

-- and what only a cut or an ask changes
pub record AllKept (a a' : ExchangeAccount) : Type 0 where
  pub kept : Kept a a'
  pub made : a'.made ≡ a.made
  pub fate : a'.fate ≡ a.fate

flow_itself : (f : Flow) → FlowKept f f
flow_itself f = record { brought = refl; ended = refl; given = refl; original = refl; unchosen = λ n. n }

flow_then : (f g h : Flow) → FlowKept f g → FlowKept g h → FlowKept f h
flow_then f g h x y = record {
  brought = y.brought ∙ x.brought;
  ended = y.ended ∙ x.ended;
  given = y.given ∙ x.given;
  original = y.original ∙ x.original;
  unchosen = λ n. x.unchosen (y.unchosen n);
}

kept_itself : (a : ExchangeAccount) → Kept a a
kept_itself a = record { request = flow_itself a.request; response = flow_itself a.response; ending = refl; sent = refl }

pub kept_then : (a b d : ExchangeAccount) → Kept a b → Kept b d → Kept a d
kept_then a b d x y = record {
  request = flow_then a.request b.request d.request x.request y.request;
  response = flow_then a.response b.response d.response x.response y.response;
  ending = y.ending ∙ x.ending;
  sent = y.sent ∙ x.sent;
}

all_itself : (a : ExchangeAccount) → AllKept a a
all_itself a = record { kept = kept_itself a; made = refl; fate = refl }

-- Answers

joined_kept : (c : FilterConfig) (x : PartAnswer) (d : Direction) (m : Option (PartModes × PartModes)) (a : ExchangeAccount)
    → AllKept a (overridden d m (joined c (record x { direction = d }) a))
joined_kept c x Request m a = record {
  kept = record {
    request = record { brought = refl; ended = refl; given = refl; original = refl; unchosen = λ n. n };
    response = record { brought = refl; ended = refl; given = refl; original = refl; unchosen = λ n. n };
    ending = refl;
    sent = refl;
  };
  made = refl;
  fate = refl;
}
joined_kept c x Response m a = record {
  kept = record {
    request = record { brought = refl; ended = refl; given = refl; original = refl; unchosen = λ n. n };
    response = record { brought = refl; ended = refl; given = refl; original = refl; unchosen = λ n. n };
    ending = refl;
    sent = refl;
  };
  made = refl;
  fate = refl;
}

part_kept : (c : FilterConfig) (modes : Option ModeNumbers) (a : ExchangeAccount) (p : Option PartAnswer) → AllKept a (part_answered c modes a p)
part_kept c modes a None = all_itself a
part_kept c modes a (Some p) = joined_kept c p p.direction (override_of c p.kind modes) a

answered_by_kept : (c : FilterConfig) (x : Answer) (a : ExchangeAccount) (t : Option Span) → AllKept a (answered_by c x a t)
answered_by_kept c x a (Some t) = record {
  kept = record {
    request = record { brought = refl; ended = refl; given = refl; original = refl; unchosen = λ n. n };
    response = record { brought = refl; ended = refl; given = refl; original = refl; unchosen = λ n. n };
    ending = refl;
    sent = refl;
  };
  made = refl;
  fate = refl;
}
answered_by_kept c x a None = part_kept c x.modes a (part_answer x.member)

pub answered_kept : (c : FilterConfig) (e : ViewEntry) (a : ExchangeAccount) → AllKept a (answered c e a)
unfolding answered
answered_kept c (Answered (Some x)) a = answered_by_kept c x a x.timeout
answered_kept c _ a = all_itself a

pub accepted_kept : (c : FilterConfig) (e : ViewEntry) (a : ExchangeAccount) (b : Bool) → AllKept a (accepted c e a b)
accepted_kept c e a true = all_itself a
accepted_kept c e a false = answered_kept c e a

-- Heads, asks, effects

pub was_none : {A : Type 0} (x y : Option A) (b : Bool) → (if is_none x && b then y else x) ≡ None → x ≡ None
was_none None y b e = refl
was_none (Some z) y b e = e

pub settled_kept : (c : FilterConfig) (a : ExchangeAccount) → AllKept a (settled c a)
unfolding rules
settled_kept c a = record {
  kept = record {
    request = record { brought = refl; ended = refl; given = refl; original = refl; unchosen = was_none a.request.course.head _ _ };
    response = record { brought = refl; ended = refl; given = refl; original = refl; unchosen = was_none a.response.course.head _ _ };
    ending = refl;
    sent = refl;
  };
  made = refl;
  fate = refl;
}

effect_kept : (c : FilterConfig) (k : Cut) (a : ExchangeAccount) → Kept a (effect c k a)
unfolding rules
effect_kept c k a = record {
  request = record { brought = refl; ended = refl; given = refl; original = refl; unchosen = λ n. n };
  response = record { brought = refl; ended = refl; given = refl; original = refl; unchosen = λ n. n };
  ending = refl;
  sent = refl;
}

asked_kept : (c : FilterConfig) (d : Direction) (a : ExchangeAccount) → Kept a (asked_in c d a)
unfolding rules
asked_kept c Request a = record {
  request = record { brought = refl; ended = refl; given = refl; original = refl; unchosen = λ n. n };
  response = flow_itself a.response;
  ending = refl;
  sent = refl;
}
asked_kept c Response a = record {
  request = flow_itself a.request;
  response = record { brought = refl; ended = refl; given = refl; original = refl; unchosen = λ n. n };
  ending = refl;
  sent = refl;
}

asked-fate : (c : FilterConfig) (d : Direction) (a : ExchangeAccount) → (asked_in c d a).fate ≡ a.fate
unfolding asked_in
asked-fate c d a = refl

asked-made : (c : FilterConfig) (d : Direction) (a : ExchangeAccount) → IsPrefix a.made (asked_in c d a).made
unfolding asked_in
asked-made c d a = record { rest = map (ask_of d) (drop (length (course d a).asks) (asked c.course d (course d a)).asks); whole = refl }

at : {xs ys : List Ask} → xs ≡ ys → IsPrefix ys xs
at {ys = ys} e = record { rest = []; whole = append-nil ys ∙ sym e }

-- An entry that is no cut

-- without a cut the fate stays, and asks are only added
pub record NoCutKept (a a' : ExchangeAccount) : Type 0 where
  pub kept : Kept a a'
  pub made : IsPrefix a.made a'.made
  pub fate : a'.fate ≡ a.fate

pub no_cut_kept : (c : FilterConfig) (e : ViewEntry) (a : ExchangeAccount) → NoCutKept a (no_cut c e a)
unfolding no_cut
no_cut_kept c e a =
    let x : ExchangeAccount = accepted c e a (is_released a || is_finished c a) in
    let y : ExchangeAccount = settled c x in
    let z : ExchangeAccount = asked_in c Request y in
    let k : AllKept a x = accepted_kept c e a (is_released a || is_finished c a) in
    let l : AllKept x y = settled_kept c x in
    record {
      kept = kept_then a x (asked_in c Response z) k.kept (kept_then x y (asked_in c Response z) l.kept
          (kept_then y z (asked_in c Response z) (asked_kept c Request y) (asked_kept c Response z)));
      made = onward (at (l.made ∙ k.made)) (onward (asked-made c Request y) (asked-made c Response z));
      fate = asked-fate c Response z ∙ asked-fate c Request y ∙ l.fate ∙ k.fate;
    }

under_cut_kept : (c : FilterConfig) (e : ViewEntry) (a : ExchangeAccount) (k : Option Cut) → Kept a (under_cut c e a k)
unfolding under_cut
under_cut_kept c e a (Some k) =
    let x : ExchangeAccount = settled c a in
    let y : ExchangeAccount = effect c k x in
    kept_then a x (settled c y) (settled_kept c a).kept (kept_then x y (settled c y) (effect_kept c k x) (settled_kept c y).kept)
under_cut_kept c e a None = (no_cut_kept c e a).kept

under_cut-made : (c : FilterConfig) (e : ViewEntry) (a : ExchangeAccount) (k : Option Cut) → IsPrefix a.made (under_cut c e a k).made
unfolding rules
under_cut-made c e a (Some k) = itself a.made
under_cut-made c e a None = (no_cut_kept c e a).made

pub departure_kept : (c : FilterConfig) (e : ViewEntry) (a : ExchangeAccount) (b : Bool) → Kept a (under_departure c e a b)
departure_kept c e a true = record { request = flow_itself a.request; response = flow_itself a.response; ending = refl; sent = refl }
departure_kept c e a false = under_cut_kept c e a (cut c e a)

departure-made : (c : FilterConfig) (e : ViewEntry) (a : ExchangeAccount) (b : Bool) → IsPrefix a.made (under_departure c e a b).made
departure-made c e a true = itself a.made
departure-made c e a false = under_cut-made c e a (cut c e a)

-- What an entry brings

pub gathered-made : (e : ViewEntry) (a : ExchangeAccount) → (gathered e a).made ≡ a.made
unfolding account_rules
gathered-made (Bytes s bytes) a = refl
gathered-made (End s) a = refl
gathered-made (Lost s how) a = refl
gathered-made (Answered x) a = refl
gathered-made TooLong a = refl
gathered-made (Closed b) a = refl
gathered-made NoStream a = refl
gathered-made (Tick n) a = refl
gathered-made Starved a = refl
gathered-made Sent a = refl
gathered-made (Given s bytes) a = refl

pub gathered-ending : (e : ViewEntry) (a : ExchangeAccount) → (gathered e a).ending ≡ a.ending
unfolding account_rules
gathered-ending (Bytes s bytes) a = refl
gathered-ending (End s) a = refl
gathered-ending (Lost s how) a = refl
gathered-ending (Answered x) a = refl
gathered-ending TooLong a = refl
gathered-ending (Closed b) a = refl
gathered-ending NoStream a = refl
gathered-ending (Tick n) a = refl
gathered-ending Starved a = refl
gathered-ending Sent a = refl
gathered-ending (Given s bytes) a = refl

pub gathered-fate : (e : ViewEntry) (a : ExchangeAccount) → (gathered e a).fate ≡ a.fate
unfolding account_rules
gathered-fate (Bytes s bytes) a = refl
gathered-fate (End s) a = refl
gathered-fate (Lost s how) a = refl
gathered-fate (Answered x) a = refl
gathered-fate TooLong a = refl
gathered-fate (Closed b) a = refl
gathered-fate NoStream a = refl
gathered-fate (Tick n) a = refl
gathered-fate Starved a = refl
gathered-fate Sent a = refl
gathered-fate (Given s bytes) a = refl

-- Asks that were made stay made

after_end-made : (e : ViewEntry) (a : ExchangeAccount) (b : Bool) → IsPrefix a.made (after_end e a b).made
after_end-made e a true = at (gathered-made e a)
after_end-made e a false = itself a.made

step_if-made : (c : FilterConfig) (e : ViewEntry) (a : ExchangeAccount) (b : Bool) → IsPrefix a.made (step_if c e a b).made
unfolding rules
step_if-made c e a true =
    let g : ExchangeAccount = gathered e a in
    onward (at (gathered-made e a)) (departure-made c e g (is_departure e g))
step_if-made c e a false = after_end-made e a (still_counts e)

-- whatever comes, the asks that were made stay the first
pub step-made : (c : FilterConfig) (e : ViewEntry) (a : ExchangeAccount) → IsPrefix a.made (step c e a).made
unfolding step
step-made c e a = step_if-made c e a (is_live a.fate)
