-- What a flow stands for once its half was told calls.
use Rattle.std.proofs.Common.{refl, sym, ◌∙◌, ap, subst}
use Rattle.std.proofs.lemmas.List.{append_assoc}
use Rattle.std.specs.Prelude.{◌≡◌, true, false, List, [], ◌∷◌, ◌++◌}
use Rattle.http_model.specs.Bytes.{IsPrefix}
use Rattle.http_model.specs.declared.types.Direction.{Direction}
use Rattle.http_model.proofs.BodiesGrow.{itself, onward}
use Rattle.filter_model.specs.Config.{CourseConfig}
use Rattle.filter_model.specs.Course.{Course, asked, committed, due, is_over, one_asked}
use Rattle.filter_model.specs.Half.{HalfCall, Settle, Head, Bytes, End, Answer, Release, Sent, Given, Told, after_step, called, course, one_more, progress, progress_of}
use Rattle.filter_model.specs.HalfRight.{MayTell}
use Rattle.filter_model.specs.Told.{told}
use Rattle.half_machine.specs.Stands as half
use Rattle.half_machine.specs.declared.half.Half.{Half}
use Rattle.exchange.specs.Flows.{FlowStands, Story, with_call}
use Rattle.exchange.specs.Reading.{HasHeard, with_calls}
use Rattle.exchange.specs.declared.flow.Flow.{Flow}

-- One call

pub one_told : (s : Story) (x : Flow) (y : Half) (call : HalfCall) → FlowStands s x → MayTell s.past.config s.past.direction (progress s.past) call → half.StandsFor (after_step (Told call) s.past) y
    → FlowStands (with_call call s) (record x { half = y })
one_told s x y call f m h = record {
  reader = f.reader;
  half = h;
  outlet = f.outlet;
  is_past = (f.is_past, m);
  parts = f.parts;
  way = f.way;
}

pub course_told : (s : Story) (call : HalfCall) → course (with_call call s).past ≡ told s.past.config s.past.direction (call ∷ []) (course s.past)
unfolding one_more progress_of
course_told s call = refl

handed_told : (s : Story) (call : HalfCall) → (progress (with_call call s).past).handed ≡ (progress s.past).handed
unfolding one_more progress_of
handed_told s call = refl

-- the asks that were made stay the first

prefix_append : {A : Type 0} (xs ys zs : List A) → IsPrefix xs ys → IsPrefix xs (ys ++ zs)
prefix_append xs ys zs p = record { rest = p.rest ++ zs; whole = sym (append_assoc xs p.rest zs) ∙ ap (λ l. l ++ zs) p.whole }

asks_stay : (c : CourseConfig) (d : Direction) (w : Course) → IsPrefix w.asks (asked c d w).asks
unfolding asked one_asked
asks_stay c d w =
    let w1 : Course = one_asked c d w in
    let w2 : Course = one_asked c d w1 in
    let w3 : Course = one_asked c d w2 in
    prefix_append w.asks w3.asks (due c d w3) (prefix_append w.asks w2.asks (due c d w2) (prefix_append w.asks w1.asks (due c d w1) (prefix_append w.asks w.asks (due c d w) (itself w.asks))))

call_asks : (call : HalfCall) (w : Course) → (called call w).asks ≡ w.asks
call_asks (Settle modes) w = refl
call_asks (Head fields n) w = refl
call_asks (Bytes bytes) w = refl
call_asks (End bytes trailers) w = refl
call_asks (Answer a) w = refl
call_asks Release w = refl
call_asks Sent w = refl
call_asks (Given n) w = refl

told_asks : (c : CourseConfig) (d : Direction) (call : HalfCall) (w : Course) → IsPrefix w.asks (asked c d (committed c d (called call w))).asks
unfolding committed
told_asks c d call w =
    subst (λ l. IsPrefix l (asked c d (committed c d (called call w))).asks) (call_asks call w) (asks_stay c d (committed c d (called call w)))

-- Several calls, or the first of them

pub none_heard : (s : Story) → HasHeard [] s s
none_heard s = record {
  source = refl;
  flowed = refl;
  config = (refl, refl);
  handed = refl;
  goes = λ e. refl;
  over = refl;
  asks = itself (course s.past).asks;
}

-- what was heard behind a call
pub more_heard : (call : HalfCall) (calls : List HalfCall) (s s' : Story) → HasHeard calls (with_call call s) s' → HasHeard (call ∷ calls) s s'
more_heard call calls s s' y =
    let c : CourseConfig = s.past.config in
    let d : Direction = s.past.direction in
    let e : told c d calls (course (with_call call s).past) ≡ told c d (call ∷ calls) (course s.past) = ap (told c d calls) (course_told s call) in
    record {
      source = y.source;
      flowed = y.flowed;
      config = y.config;
      handed = y.handed ∙ handed_told s call;
      goes = λ n. y.goes (ap (is_over c) e ∙ n) ∙ e;
      over = y.over ∙ ap (is_over c) e;
      asks = onward (subst (λ w. IsPrefix (course s.past).asks w.asks) (sym (course_told s call)) (told_asks c d call (course s.past))) y.asks;
    }

pub all_heard : (calls : List HalfCall) (s : Story) → HasHeard calls s (with_calls calls s)
all_heard [] s = none_heard s
all_heard (call ∷ calls) s = more_heard call calls s (with_calls calls (with_call call s)) (all_heard calls (with_call call s))

-- behind the first call the body is past its limit, and stays so whatever of them follows
pub first_heard : (call : HalfCall) (calls : List HalfCall) (s : Story) → let c = s.past.config in let d = s.past.direction in
    is_over c (course (with_call call s).past) ≡ true → is_over c (told c d (call ∷ calls) (course s.past)) ≡ true → HasHeard (call ∷ calls) s (with_call call s)
first_heard call calls s o n =
    let c : CourseConfig = s.past.config in
    let d : Direction = s.past.direction in
    let y : HasHeard (call ∷ []) s (with_call call s) = all_heard (call ∷ []) s in
    record {
      source = y.source;
      flowed = y.flowed;
      config = y.config;
      handed = y.handed;
      goes = λ e. clash (sym n ∙ e);
      over = o ∙ sym n;
      asks = y.asks;
    }
  where
    clash : {A : Type 0} → true ≡ false → A
    clash e = absurd cc
