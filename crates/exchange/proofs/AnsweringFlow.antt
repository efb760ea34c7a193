-- A flow whose half is told modes, and an answer.
use Rattle.std.proofs.Common.{refl, sym, ◌∙◌, ap, subst, inr}
use Rattle.std.proofs.lemmas.Bool.{true≢false}
use Rattle.std.specs.Prelude.{ℕ, zero, suc, ◌≡◌, drop, length, Bool, true, false, List, [], ◌∷◌, take, Option, Some, None, is_some}
use Rattle.std.specs.List.{list_any}
use Rattle.ext_msgs.specs.declared.answer.Common.{Common}
use Rattle.ext_msgs.specs.declared.lists.Field.{Field}
use Rattle.ext_msgs.specs.declared.modes.PartModes.{PartModes}
use Rattle.http_model.specs.declared.types.Direction.{Direction}
use Rattle.filter_model.specs.Config.{CourseConfig}
use Rattle.filter_model.specs.Course.{AskedPart, Course, Outgoing, asked, committed, is_headers, out}
use Rattle.filter_model.specs.Cut.{AnswerKind}
use Rattle.filter_model.specs.Half.{HalfCall, Settle, Answer, Past, Told, after_step, called, course, progress, half_rules, refusal, settled_modes}
use Rattle.filter_model.specs.Sound.{Sound}
use Rattle.filter_model.proofs.AtRest.{none_due, released_next}
use Rattle.filter_model.proofs.ToldSame.{asked_none}
use Rattle.filter_model.proofs.ToldAnswer.{settle_waits}
use Rattle.half_machine.specs.Answering.{MayAnswer}
use Rattle.half_machine.specs.Calls.{MaySettle}
use Rattle.half_machine.specs.declared.half.Half.{Half}
use Rattle.half_machine.specs.Stands as half
use Rattle.filter_model.specs.Told.{told}
use Rattle.h1_outlet.specs.Outlets.{all}
use Rattle.exchange.specs.Answering.{settled_with}
use Rattle.exchange.specs.Flows.{Story, FlowStands, SameStory, answer_calls, with_call}
use Rattle.exchange.specs.Reading.{HasHeard}
use Rattle.exchange.specs.declared.flow.Flow.{Flow}
use Rattle.exchange.proofs.Telling.{all_heard}

-- the course behind a call
course_behind : (p : Past) (call : HalfCall) → course (after_step (Told call) p) ≡ asked p.config p.direction (committed p.config p.direction (called call (course p)))
unfolding half_rules
course_behind p call = refl

handed_behind : (p : Past) (call : HalfCall) → (progress (after_step (Told call) p)).handed ≡ (progress p).handed
unfolding half_rules
handed_behind p call = refl

-- Modes, while the ask of the headers is out

none_of : (asks : List AskedPart) (n : ℕ) → asks ≡ [] → list_any is_headers (drop n asks) ≡ false
none_of [] zero e = refl
none_of [] (suc n) e = refl
none_of (q ∷ asks) n e = absurd cc

head_there : (c : CourseConfig) (w : Course) → Sound c w → list_any is_headers (out w) ≡ true → is_some w.original.head ≡ true
head_there c w s e = by w.original.head refl
  where
    by : (o : Option (List Field)) → w.original.head ≡ o → is_some w.original.head ≡ true
    by (Some h) m = ap is_some m
    by None m = absurd (true≢false (sym e ∙ none_of w.asks (length w.answers) (s.head_read m).1))

-- but for a head that is chosen once the rest passes they change nothing else
abbrev Aside : CourseConfig → Direction → PartModes → Course → Type 0
Aside c d m w = (h : Option Outgoing) × (asked c d (committed c d (called (Settle m) w)) ≡ record (called (Settle m) w) { head = h })

aside : (c : CourseConfig) (d : Direction) (m : PartModes) (w : Course) → Sound c w → list_any is_headers (out w) ≡ true → Aside c d m w
unfolding committed
aside c d m w s e = by w.released refl
  where
    by : (b : Bool) → w.released ≡ b → Aside c d m w
    by true r =
        let x : Course = committed c d (called (Settle m) w) in
        (x.head, asked_none c d x (none_due c d x (released_next c x r)))
    by false r = (w.head, settle_waits c d w m s r (head_there c w s e) e)

sound_in : (s : Story) (x : Flow) → FlowStands s x → Sound s.past.config (course s.past)
sound_in s x t = t.half.ties.sound

out_settled : (s : Story) (x : Flow) (m : PartModes) → FlowStands s x → list_any is_headers (out (course s.past)) ≡ true
    → out (course (with_call (Settle m) s).past) ≡ out (course s.past)
out_settled s x m t e = ap out (course_behind s.past (Settle m) ∙ (aside s.past.config s.past.direction m (course s.past) (sound_in s x t) e).1)

refusal_settled : (s : Story) (x : Flow) (m : PartModes) (kind : AnswerKind) (a : Common) → FlowStands s x → list_any is_headers (out (course s.past)) ≡ true
    → refusal s.past.config s.past.direction (course (with_call (Settle m) s).past) kind a ≡ refusal s.past.config s.past.direction (course s.past) kind a
refusal_settled s x m kind a t e =
    ap (λ w. refusal s.past.config s.past.direction w kind a) (course_behind s.past (Settle m) ∙ (aside s.past.config s.past.direction m (course s.past) (sound_in s x t) e).1)

-- The same, as the code tells them

abbrev Waits : Bool → Story → Type 0
Waits awaits s = awaits ≡ list_any is_headers (out (course s.past))

pub may_settle : (awaits : Bool) (s : Story) → Waits awaits s → awaits ≡ true → MaySettle s.past
may_settle awaits s e t = record { early = inr (sym e ∙ t) }

pub still_waits : (awaits : Bool) (m : Option PartModes) (s : Story) (x : Flow) → FlowStands s x → Waits awaits s → Waits awaits (settled_with awaits m s)
still_waits true (Some m) s x t e = e ∙ sym (ap (list_any is_headers) (out_settled s x m t (sym e)))
still_waits true None s x t e = e
still_waits false (Some m) s x t e = e
still_waits false None s x t e = e

pub still_may : (awaits : Bool) (m : Option PartModes) (s : Story) (a : Common) → MayAnswer s.past a → MayAnswer (settled_with awaits m s).past a
still_may true (Some m) s a y = record { fits = y.fits }
still_may true None s a y = y
still_may false (Some m) s a y = y
still_may false None s a y = y

pub same_refusal : (awaits : Bool) (m : Option PartModes) (s : Story) (x : Flow) (kind : AnswerKind) (a : Common) → FlowStands s x → Waits awaits s
    → refusal (settled_with awaits m s).past.config (settled_with awaits m s).past.direction (course (settled_with awaits m s).past) kind a
    ≡ refusal s.past.config s.past.direction (course s.past) kind a
same_refusal true (Some m) s x kind a t e = refusal_settled s x m kind a t (sym e)
same_refusal true None s x kind a t e = refl
same_refusal false (Some m) s x kind a t e = refl
same_refusal false None s x kind a t e = refl

-- an answer behind them
pub answered_so : (awaits : Bool) (m : Option PartModes) (s : Story) (a : Common) → Waits awaits s
    → HasHeard (answer_calls (list_any is_headers (out (course s.past))) m a) s (with_call (Answer a) (settled_with awaits m s))
answered_so awaits m s a e = subst (λ b. HasHeard (answer_calls b m a) s (with_call (Answer a) (settled_with awaits m s))) e (by awaits m)
  where
    by : (b : Bool) (m : Option PartModes) → HasHeard (answer_calls b m a) s (with_call (Answer a) (settled_with b m s))
    by true (Some n) = all_heard (Settle n ∷ Answer a ∷ []) s
    by true None = all_heard (Answer a ∷ []) s
    by false (Some n) = all_heard (Answer a ∷ []) s
    by false None = all_heard (Answer a ∷ []) s

-- Modes, and the old ones again

modes_back : (w : Course) (m old : PartModes) → old ≡ w.modes → called (Settle old) (called (Settle m) w) ≡ w
modes_back w m old e = by w.original.head
  where
    by : (o : Option (List Field)) → record w { modes = settled_modes o (settled_modes o w.modes m) old } ≡ w
    by None = ap (λ x. record w { modes = x }) e
    by (Some h) = ap (λ (x : PartModes). record w { modes = record { headers = w.modes.headers; body = x.body; trailers = x.trailers } }) e

modes_same : (w : Course) (old : PartModes) → old ≡ w.modes → called (Settle old) w ≡ w
modes_same w old e = by w.original.head
  where
    by : (o : Option (List Field)) → record w { modes = settled_modes o w.modes old } ≡ w
    by None = ap (λ x. record w { modes = x }) e
    by (Some h) = ap (λ (x : PartModes). record w { modes = record { headers = w.modes.headers; body = x.body; trailers = x.trailers } }) e

settled_to : (s : Story) (x : Flow) (m : PartModes) → FlowStands s x → (course s.past).released ≡ false → list_any is_headers (out (course s.past)) ≡ true
    → course (with_call (Settle m) s).past ≡ called (Settle m) (course s.past)
settled_to s x m t r e =
    course_behind s.past (Settle m)
    ∙ settle_waits s.past.config s.past.direction (course s.past) m (sound_in s x t) r (head_there s.past.config (course s.past) (sound_in s x t) e) e

same_but : (s s' : Story) → s'.source ≡ s.source → s'.flowed ≡ s.flowed → (s'.past.config ≡ s.past.config) × (s'.past.direction ≡ s.past.direction)
    → (progress s'.past).handed ≡ (progress s.past).handed → course s'.past ≡ course s.past → SameStory s s'
same_but s s' o f c h w = record {
  source = o;
  config = c;
  course = w;
  handed = h;
  front = ap (λ g. g.front) f;
  reply = ap (λ g. g.reply) f;
  given = ap (λ g. g.given) f;
  first = ap (λ g. take s.flowed.given (all g)) f;
}

pub settled_back : (awaits : Bool) (m : Option PartModes) (old : PartModes) (s : Story) (x y : Flow) → FlowStands s x → FlowStands (settled_with awaits m s) y
    → Waits awaits s → (course s.past).released ≡ false → old ≡ (course s.past).modes → SameStory s (settled_with awaits (Some old) (settled_with awaits m s))
settled_back true None old s x y t u e r o =
    same_but s (with_call (Settle old) s) refl refl (refl, refl) (handed_behind s.past (Settle old))
    (settled_to s x old t r (sym e) ∙ modes_same (course s.past) old o)
settled_back true (Some m) old s x y t u e r o =
    let s1 : Story = with_call (Settle m) s in
    let w : course s1.past ≡ called (Settle m) (course s.past) = settled_to s x m t r (sym e) in
    same_but s (with_call (Settle old) s1) refl refl (refl, refl) (handed_behind s1.past (Settle old) ∙ handed_behind s.past (Settle m))
    (settled_to s1 y old u (ap (λ v. v.released) w ∙ r) (ap (λ v. list_any is_headers (out v)) w ∙ sym e)
    ∙ ap (called (Settle old)) w ∙ modes_back (course s.past) m old o)
settled_back false m old s x y t u e r o = by m
  where
    by : (m : Option PartModes) → SameStory s (settled_with false (Some old) (settled_with false m s))
    by (Some n) = same_but s s refl refl (refl, refl) refl refl
    by None = same_but s s refl refl (refl, refl) refl refl
