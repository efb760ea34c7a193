-- While an exchange lives each step ends at rest: heads that can go were chosen, given bytes were counted, and no ask is due and
-- permitted.
use Rattle.std.proofs.Common.{sym, ◌∙◌, ap, refl}
use Rattle.std.specs.Prelude.{ℕ, ◌≡◌, Bool, true, false, ◌&&◌, ◌||◌, List, [], ◌∷◌, Option, Some, None, if◌then◌else◌, is_some, is_none, option_map, option_to_list}
use Rattle.std.specs.List.{list_any}
use Rattle.ext_msgs.specs.declared.lists.Field.{Field}
use Rattle.http_model.specs.Bytes.{is_empty}
use Rattle.http_model.specs.Heads.{is_bodiless}
use Rattle.http_model.specs.declared.types.Direction.{Direction}
use Rattle.http_model.specs.declared.types.Direction.TheVariants.{Request, Response}
use Rattle.filter_model.specs.Config.{CourseConfig, FilterConfig}
use Rattle.filter_model.specs.Course.{Course, AskedPart, outgoing, head_may_go, committed, next, next_at, next_body, next_trailers, due, is_permitted, is_headers, is_stopped, out, one_asked, asked}
use Rattle.filter_model.specs.Account.{ExchangeAccount, Fate, Live, Aborted, front, gathered, settled, counted_course, given_count, start, is_released, is_finished, is_to_head}
use Rattle.filter_model.specs.Cut.{Cut}
use Rattle.filter_model.specs.Answers.{asked_in}
use Rattle.filter_model.specs.Step.{step, step_if, after, after_end, still_counts, under_cut, under_departure, no_cut, cut, is_departure, is_live, accepted, with_ending, on, effect, lets_pass, by_reply, reply_to}
use Rattle.filter_model.specs.View.{ViewEntry, Given}
use Rattle.filter_model.specs.Right.{Call, Stepped, Took, Nexted, Failed, IsHistory, account}
use Rattle.filter_model.specs.declared.calls.Taken.TheVariants.{Piece}
use Rattle.filter_model.proofs.Kept.{gathered-fate}
use Rattle.filter_model.specs.Sound.{Sound}
use Rattle.filter_model.proofs.StepGrows.{Held, settled_goes, accepted_goes, gathered_goes}
use Rattle.filter_model.proofs.ReadAlong.{Fits, reads_on}
use Rattle.filter_model.proofs.GivenRight.{Along, along, fits}
use Rattle.filter_model.proofs.Firm.{asked_all, asked-go}
use Rattle.filter_model.proofs.Counts.{Counts, counts_first, step_counts}
use Rattle.filter_model.proofs.Steady.{Firms, step_firm}
use Rattle.filter_model.proofs.EachStep.{by_reply_ends}

pub record Rested (c : CourseConfig) (d : Direction) (w : Course) (front given : List ℕ) : Type 0 where
  pub chosen : w.head ≡ None → head_may_go w ≡ true → w.original.head ≡ None
  pub counted : w.given ≡ given_count d w.head front given
  pub asked : due c d w ≡ []

abbrev pub AtRest : FilterConfig → ExchangeAccount → Type 0
AtRest c a =
    Rested c.course Request a.request.course (front Request a) a.request.given
    × Rested c.course Response a.response.course (front Response a) a.response.given

-- Heads are chosen

pub record Chosen (d : Direction) (w : Course) (front given : List ℕ) : Type 0 where
  pub chosen : w.head ≡ None → head_may_go w ≡ true → w.original.head ≡ None
  pub counted : w.given ≡ given_count d w.head front given

none_chosen : {A B : Type 0} (x : Option B) (b : Bool) (f : A → B) (o : Option A) → (if is_none x && b then option_map f o else x) ≡ None → b ≡ true → o ≡ None
none_chosen (Some y) b f o e i = absurd cc
none_chosen None true f None e i = refl
none_chosen None true f (Some x) e i = absurd cc
none_chosen None false f o e i = absurd cc

choose_one : (c : CourseConfig) (d : Direction) (w : Course) (front given : List ℕ) → Chosen d (counted_course d front given (committed c d w)) front given
unfolding committed
choose_one c d w front given = record {
  chosen = λ n i. none_chosen w.head (head_may_go w) (outgoing c d w) w.original.head n i;
  counted = refl;
}

-- None is due

nothing_released : (head : Option (List Field)) (bodiless first o s : Bool) (b t : Option AskedPart) → next_at head bodiless true first o s b t ≡ None
nothing_released None bodiless first o s b t = refl
nothing_released (Some l) bodiless first o s b t = refl

pub none_due : (c : CourseConfig) (d : Direction) (w : Course) → next c w ≡ None → due c d w ≡ []
none_due c d w e = by (is_permitted c d w)
  where
    by : (b : Bool) → (if b then option_to_list (next c w) else []) ≡ []
    by true = ap option_to_list e
    by false = refl

pub released_next : (c : CourseConfig) (w : Course) → w.released ≡ true → next c w ≡ None
unfolding next
released_next c w e =
    ap (λ r. next_at w.original.head (is_bodiless w.original.length) r (w.modes.headers && is_empty w.asks) (list_any is_headers (out w)) (is_stopped w) (next_body c w) (next_trailers w)) e
    ∙ nothing_released w.original.head _ _ _ _ _ _

-- Asks are made

-- asks leave the rest of a course alone
asked-original : (c : CourseConfig) (d : Direction) (w : Course) → (asked c d w).original ≡ w.original
unfolding asked one_asked
asked-original c d w = refl

pub asked-head : (c : CourseConfig) (d : Direction) (w : Course) → (asked c d w).head ≡ w.head
unfolding asked one_asked
asked-head c d w = refl

asked-given : (c : CourseConfig) (d : Direction) (w : Course) → (asked c d w).given ≡ w.given
unfolding asked one_asked
asked-given c d w = refl

asked_rest : (c : CourseConfig) (d : Direction) (w : Course) (front given : List ℕ) → Sound c w → Chosen d w front given → Rested c d (asked c d w) front given
asked_rest c d w front given s k = record {
  chosen = λ n i. ap (λ o. o.head) (asked-original c d w) ∙ k.chosen (sym (asked-head c d w) ∙ n) (sym (asked-go c d w s) ∙ i);
  counted = asked-given c d w ∙ k.counted ∙ ap (λ o. given_count d o front given) (sym (asked-head c d w));
  asked = asked_all c d w s.counts;
}

both_asked : (c : FilterConfig) (a : ExchangeAccount) → Held c (settled c a) → AtRest c (asked_in c Response (asked_in c Request (settled c a)))
unfolding asked_in settled asked one_asked committed
both_asked c a h = (
  asked_rest c.course Request (settled c a).request.course (front Request a) a.request.given h.request (choose_one c.course Request a.request.course (front Request a) a.request.given),
  asked_rest c.course Response (settled c a).response.course (front Response a) a.response.given h.response (choose_one c.course Response a.response.course (front Response a) a.response.given),
)

-- The rest passes

clash : true ≡ false → ⊥
clash e = cc

pub passes : (b : Bool) (f : Fate) (gone : Bool) (o : Option (List ℕ)) → (if b then f else if gone then Aborted else by_reply o) ≡ Live → b ≡ true
passes true f gone o e = refl
passes false f true o e = absurd cc
passes false f false o e = absurd (clash (sym (ap is_live e) ∙ by_reply_ends o))

or_true : (x y : Bool) → y ≡ true → (x || y) ≡ true
or_true true y e = refl
or_true false y e = e

passed_rest : (c : CourseConfig) (d : Direction) (w : Course) (front given : List ℕ) → w.released ≡ true → Chosen d w front given → Rested c d w front given
passed_rest c d w front given e k = record { chosen = k.chosen; counted = k.counted; asked = none_due c d w (released_next c w e) }

cut_rest : (c : FilterConfig) (k : Cut) (a : ExchangeAccount) → (settled c (effect c k a)).fate ≡ Live → AtRest c (settled c (effect c k a))
unfolding settled effect committed
cut_rest c k a e =
    let p : lets_pass c k ≡ true = passes (lets_pass c k) a.fate (is_some a.response.course.head) (reply_to k (is_to_head a)) e in
    let x : ExchangeAccount = effect c k a in (
      passed_rest c.course Request (settled c x).request.course (front Request x) x.request.given (or_true a.request.course.released (lets_pass c k) p)
          (choose_one c.course Request x.request.course (front Request x) x.request.given),
      passed_rest c.course Response (settled c x).response.course (front Response x) x.response.given (or_true a.response.course.released (lets_pass c k) p)
          (choose_one c.course Response x.response.course (front Response x) x.response.given),
    )

-- Each step

no_cut_rest : (c : FilterConfig) (e : ViewEntry) (a : ExchangeAccount) → Held c a → cut c e a ≡ None → AtRest c (no_cut c e a)
unfolding no_cut
no_cut_rest c e a h n =
    let x : ExchangeAccount = accepted c e a (is_released a || is_finished c a) in
    both_asked c x (settled_goes c x (accepted_goes c e a h n (is_released a || is_finished c a) refl).held).held

under_cut_rest : (c : FilterConfig) (e : ViewEntry) (a : ExchangeAccount) (k : Option Cut) → k ≡ cut c e a → Held c a → (under_cut c e a k).fate ≡ Live → AtRest c (under_cut c e a k)
unfolding under_cut
under_cut_rest c e a (Some k) i h l = cut_rest c k (settled c a) l
under_cut_rest c e a None i h l = no_cut_rest c e a h (sym i)

departure_rest : (c : FilterConfig) (e : ViewEntry) (a : ExchangeAccount) (b : Bool) → Held c a → (under_departure c e a b).fate ≡ Live → AtRest c (under_departure c e a b)
departure_rest c e a true h l = absurd (clash (sym (ap is_live l)))
departure_rest c e a false h l = under_cut_rest c e a (cut c e a) refl h l

if_rest : (c : FilterConfig) (e : ViewEntry) (a : ExchangeAccount) (live : Bool) → live ≡ is_live a.fate → Held c (gathered e a) → (step_if c e a live).fate ≡ Live → AtRest c (step_if c e a live)
unfolding on with_ending
if_rest c e a true i h l =
    let x : AtRest c (under_departure c e (gathered e a) (is_departure e (gathered e a))) = departure_rest c e (gathered e a) (is_departure e (gathered e a)) h l in
    (record { chosen = x.0.chosen; counted = x.0.counted; asked = x.0.asked }, record { chosen = x.1.chosen; counted = x.1.counted; asked = x.1.asked })
if_rest c e a false i h l = absurd (clash (sym (ap is_live (fate_as (still_counts e) l)) ∙ sym i))
  where
    fate_as : (b : Bool) → (after_end e a b).fate ≡ Live → a.fate ≡ Live
    fate_as true l = sym (gathered-fate e a) ∙ l
    fate_as false l = l

step_rest : (c : FilterConfig) (e : ViewEntry) (a : ExchangeAccount) → Along c a → Fits c a e → (step c e a).fate ≡ Live → AtRest c (step c e a)
unfolding step
step_rest c e a l f = if_rest c e a (is_live a.fate) refl (gathered_goes c e a l.held (reads_on c e a l.read l.held f)).held

-- Along a history

pub record Steady (c : FilterConfig) (a : ExchangeAccount) : Type 0 where
  pub along : Along c a
  pub firms : Firms a
  pub counts : Counts a
  pub rest : a.fate ≡ Live → AtRest c a

rest_first : (c : FilterConfig) → AtRest c (start c)
unfolding next
rest_first c = (
  record { chosen = λ n i. refl; counted = refl; asked = none_due c.course Request (start c).request.course refl },
  record { chosen = λ n i. refl; counted = refl; asked = none_due c.course Response (start c).response.course refl },
)

firms_first : (c : FilterConfig) → Firms (start c)
firms_first c = record {
  request = record { first = λ h n. absurd cc; stops = λ e. absurd cc };
  response = record { first = λ h n. absurd cc; stops = λ e. absurd cc };
}

steady_step : (c : FilterConfig) (e : ViewEntry) (a : ExchangeAccount) → Along c (step c e a) → Steady c a → Fits c a e → Steady c (step c e a)
steady_step c e a l s f = record {
  along = l;
  firms = step_firm c e a s.along f s.firms;
  counts = step_counts c e a s.counts;
  rest = step_rest c e a s.along f;
}

pub steady : (c : FilterConfig) (h : List Call) → IsHistory c h → Steady c (account c h)
unfolding after
steady c [] s = record { along = along c [] s; firms = firms_first c; counts = counts_first c; rest = λ e. rest_first c }
steady c (Stepped e ∷ h) s = steady_step c e (account c h) (along c (Stepped e ∷ h) s) (steady c h s.0) (fits c h e s.1)
steady c (Took side (Piece bytes) ∷ h) s = steady_step c (Given side bytes) (account c h) (along c (Took side (Piece bytes) ∷ h) s) (steady c h s.0) tt
steady c (Took side _ ∷ h) s = steady c h s.0
steady c (Nexted n ∷ h) s = steady c h s.0
steady c (Failed ∷ h) s = steady c h s.0
