-- A frame that brings nothing is followed by the next; whatever else comes ends the call.
use Rattle.std.proofs.Common.{length-drop, drop, arith, refl, sym, ◌∙◌, ap, subst, Ok, Err}
use Rattle.h2_frames.specs.Reading.{Feeds}
use Rattle.h2_frames.specs.declared.reader.Step.TheVariants.{More, Got}
use Rattle.h2_frames.specs.declared.fault.FrameFault.TheVariants.{Code}
use Rattle.h2_laws_kept.specs.Arriving.{IfCode}
use Rattle.h2_session.specs.Feeding.{Greets, RefusesBytes}
use Rattle.h2_session.proofs.Endings.{if-code}
use Rattle.h2_session.proofs.Reading.{all-read, feeds-as, part-waits, reader-same, frame-faulty, frame-held, frame-goes-on, frame-told, frame-breaks, handed-on}
use Rattle.h2_session.proofs.session.Session.read.Goals as goal

pub returns-in-Ok-More-clause-told : goal.returns-in-Ok-More-clause-told
returns-in-Ok-More-clause-told c a h =
    let g = subst (λ x. Greets x a c.args.bytes.now c.loop-used.used) (sym c.self.view_is) (c.loop-used.invariant.1 a h) in
    let e : Feeds c.self.inside.reader (drop c.loop-used.used c.args.bytes.now) (Ok More) c.feed.new.self =
    feeds-as c.self.inside.reader c.feed.new.self c.split_at.ensures.back (ap Ok c.in-Ok-More.field-0-is) c.in-Ok-More.ensures in
    part-waits _ a _ _ g c.loop-used-test.true c.feed.new.self e.0 e.1 _ refl refl

pub returns-in_err-event-in-Ok-Got-clause-refuses : goal.returns-in_err-event-in-Ok-Got-clause-refuses
returns-in_err-event-in-Ok-Got-clause-refuses c a h =
    let g = subst (λ x. Greets x a c.args.bytes.now c.loop-used.used) (sym c.self.view_is) (c.loop-used.invariant.1 a h) in
    let f = c.in-Ok-Got.frame in
    let fault = c.in_err-event-in-Ok-Got.field-0.0 in
    let e : Feeds c.self.inside.reader (drop c.loop-used.used c.args.bytes.now) (Ok (Got f c.in-Ok-Got.n)) c.feed.new.self =
    feeds-as c.self.inside.reader c.feed.new.self c.split_at.ensures.back (ap Ok c.in-Ok-Got.field-0-is) c.in-Ok-Got.ensures in
    handed-on (IfCode (RefusesBytes c.arrive.new.self a c.args.bytes.now)) c.from_residual.result fault c.from_residual.ensures.1
    (if-code (frame-breaks _ a _ _ g c.loop-used-test.true f c.in-Ok-Got.n e.0 e.1 e.2 c.arrive.new.self) fault
    (c.in_err-event-in-Ok-Got.ensures.breaks _ (frame-held _ a _ _ g c.loop-used-test.true c.feed.new.self e.3)
    g.runs.sound g.runs.quiet))

pub returns-then-not-is_nothing-clause-told : goal.returns-then-not-is_nothing-clause-told
returns-then-not-is_nothing-clause-told c a h =
    let g = subst (λ x. Greets x a c.args.bytes.now c.loop-used.used) (sym c.self.view_is) (c.loop-used.invariant.1 a h) in
    let f = c.in-Ok-Got.frame in
    let e : Feeds c.self.inside.reader (drop c.loop-used.used c.args.bytes.now) (Ok (Got f c.in-Ok-Got.n)) c.feed.new.self =
    feeds-as c.self.inside.reader c.feed.new.self c.split_at.ensures.back (ap Ok c.in-Ok-Got.field-0-is) c.in-Ok-Got.ensures in
    frame-told _ a _ _ g c.loop-used-test.true f c.in-Ok-Got.n e.0 e.1 e.2 c.arrive.new.self c.in_ok-event-in-Ok-Got.event
    (c.in_ok-event-in-Ok-Got.ensures.brings _ (frame-held _ a _ _ g c.loop-used-test.true c.feed.new.self e.3)
    g.runs.sound g.runs.quiet)
    c.if-not-is_nothing.ensures _ refl refl

pub loop-used-preserved : goal.loop-used-preserved
loop-used-preserved c =
    let f = c.in-Ok-Got.frame in
    let e : Feeds c.self.inside.reader (drop c.loop-used.used c.args.bytes.now) (Ok (Got f c.in-Ok-Got.n)) c.feed.new.self =
    feeds-as c.self.inside.reader c.feed.new.self c.split_at.ensures.back (ap Ok c.in-Ok-Got.field-0-is) c.in-Ok-Got.ensures in (
      omega (arith, e.2, length-drop c.loop-used.used c.args.bytes.now, c.loop-used.invariant.0),
      (λ a h.
          let g = subst (λ x. Greets x a c.args.bytes.now c.loop-used.used) (sym c.self.view_is) (c.loop-used.invariant.1 a h) in
          frame-goes-on _ a _ _ g c.loop-used-test.true f c.in-Ok-Got.n e.0 e.1 e.2 c.arrive.new.self c.in_ok-event-in-Ok-Got.event
          (c.in_ok-event-in-Ok-Got.ensures.brings _ (frame-held _ a _ _ g c.loop-used-test.true c.feed.new.self e.3)
          g.runs.sound g.runs.quiet)
          c.if-not-is_nothing.ensures),
      record {
        client = c.arrive.ensures.role.client ∙ ap (λ x. x.client) c.self.view_is ∙ c.loop-used.invariant.2.client;
        streams = c.arrive.ensures.role.streams ∙ ap (λ x. x.streams) c.self.view_is ∙ c.loop-used.invariant.2.streams;
      },
    )

pub returns-in-Err-Code-clause-refuses : goal.returns-in-Err-Code-clause-refuses
returns-in-Err-Code-clause-refuses c a h =
    let g = subst (λ x. Greets x a c.args.bytes.now c.loop-used.used) (sym c.self.view_is) (c.loop-used.invariant.1 a h) in
    let e : Feeds c.self.inside.reader (drop c.loop-used.used c.args.bytes.now) (Err (Code c.in-Err-Code.code)) c.feed.new.self =
    feeds-as c.self.inside.reader c.feed.new.self c.split_at.ensures.back (ap Err c.in-Err-Code.field-0-is) c.in-Err-Code.ensures in
    if-code (λ code p. subst (RefusesBytes c.fail.new.self a c.args.bytes.now) (sym p.0)
    (frame-faulty _ a _ _ g c.loop-used-test.true c.in-Err-Code.code e.0 c.fail.new.self p.1)) c.fail.result
    (c.fail.ensures.fails g.reached (reader-same _ a _ _ g c.loop-used-test.true c.feed.new.self e.1) g.runs.sound)

pub returns-clause-told : goal.returns-clause-told
returns-clause-told c a h =
    let g = c.loop-used.invariant.1 a h in
    all-read c.loop-used.self a g.reached c.args.bytes.now c.loop-used.used g.runs
    (omega (arith, c.loop-used.invariant.0, c.loop-used-test.false)) _ refl refl
