-- A code is answered again, what waits is told, and else bytes are read.
use Rattle.std.proofs.Common.{◌∷◌, refl, sym, subst}
use Rattle.std.proofs.lemmas.Result.{IfOk-weaker, IfErr-weaker}
use Rattle.h2_model.specs.Calls.{IsFault, IsFed, now, used_bytes}
use Rattle.h2_model.specs.History.{Feed}
use Rattle.h2_laws_kept.specs.Arriving.{IfCode}
use Rattle.h2_laws_kept.specs.StandsFor.{StandsFor}
use Rattle.h2_session.specs.Feeding.{Told, RefusesBytes}
use Rattle.h2_session.proofs.Answers.{refused-again, stays-refused, told-first, stays-told, begins, goes-on, fault-of, fault-stands, then-kept}
use Rattle.h2_session.proofs.Reading.{handed-on}
use Rattle.h2_session.proofs.session.Session.feed.Goals as goal

pub returns-in-Some-clause-fault : goal.returns-in-Some-clause-fault
returns-in-Some-clause-fault c r h s =
    let held = subst (λ x. StandsFor r x h) (sym c.self.view_is) s in
    refused-again r _ h held c.args.bytes.now _ _ refl c.pop_front-refused.ensures.rest c.in-Some.code c.in-Some.is

pub returns-in-Some-clause-refused : goal.returns-in-Some-clause-refused
returns-in-Some-clause-refused c r h s =
    let held = subst (λ x. StandsFor r x h) (sym c.self.view_is) s in
    stays-refused r _ h held c.args.bytes.now _ _ refl c.pop_front-refused.ensures.rest c.in-Some.code c.in-Some.is

pub returns-in-Some-refused-clause-fed : goal.returns-in-Some-refused-clause-fed
returns-in-Some-refused-clause-fed c r h s =
    let held = subst (λ x. StandsFor r x h) (sym c.self.view_is) s in
    let e = c.in-Some-refused.ensures in
    told-first r _ h held c.args.bytes.now _ _ refl e.rest c.in-Some-refused.id e.items c.in_default.is _ refl refl

pub returns-in-Some-refused-clause-stands : goal.returns-in-Some-refused-clause-stands
returns-in-Some-refused-clause-stands c r h s =
    let held = subst (λ x. StandsFor r x h) (sym c.self.view_is) s in
    let e = c.in-Some-refused.ensures in
    stays-told r _ h held c.args.bytes.now _ _ refl e.rest c.in-Some-refused.id e.items

pub returns-in_err-greeted-clause-fault : goal.returns-in_err-greeted-clause-fault
returns-in_err-greeted-clause-fault c r h s =
    let held = subst (λ x. StandsFor r x h) (sym c.self.view_is) s in
    let e = c.in_default-refused.ensures in
    let b = begins r _ h held c.args.bytes.now _ _ refl e.rest c.in_default.is e.items in
    handed-on (IsFault (now r h) c.args.bytes.now) c.from_residual.result c.in_err-greeted.field-0.0 c.from_residual.ensures.1
    (fault-of c.greet.new.self (now r h) c.args.bytes.now c.in_err-greeted.field-0.0 (c.in_err-greeted.ensures.refuses (now r h) b))

pub returns-in_err-greeted-clause-refused : goal.returns-in_err-greeted-clause-refused
returns-in_err-greeted-clause-refused c r h s =
    let held = subst (λ x. StandsFor r x h) (sym c.self.view_is) s in
    let e = c.in_default-refused.ensures in
    let b = begins r _ h held c.args.bytes.now _ _ refl e.rest c.in_default.is e.items in
    handed-on (IfCode (λ code. StandsFor r c.greet.new.self (Feed (used_bytes c.args.bytes.now (now r h)) ∷ h)))
    c.from_residual.result c.in_err-greeted.field-0.0 c.from_residual.ensures.1
    (fault-stands r _ h held c.args.bytes.now _ _ refl e.rest c.greet.new.self c.in_err-greeted.ensures.role
    c.in_err-greeted.field-0.0 (c.in_err-greeted.ensures.refuses (now r h) b))

pub returns-clause-fed : goal.returns-clause-fed
returns-clause-fed c r h s =
    let held = subst (λ x. StandsFor r x h) (sym c.self.view_is) s in
    let e = c.in_default-refused.ensures in
    let b = begins r _ h held c.args.bytes.now _ _ refl e.rest c.in_default.is e.items in
    IfOk-weaker c.read.result (Told c.read.new.self (now r h) c.args.bytes.now) (IsFed (now r h) c.args.bytes.now) (λ f t. t.fed)
    (c.read.ensures.told (now r h) (c.in_ok-greeted.ensures.greets (now r h) b))

pub returns-clause-fault : goal.returns-clause-fault
returns-clause-fault c r h s =
    let held = subst (λ x. StandsFor r x h) (sym c.self.view_is) s in
    let e = c.in_default-refused.ensures in
    let b = begins r _ h held c.args.bytes.now _ _ refl e.rest c.in_default.is e.items in
    IfErr-weaker c.read.result (IfCode (RefusesBytes c.read.new.self (now r h) c.args.bytes.now)) (IsFault (now r h) c.args.bytes.now)
    (fault-of c.read.new.self (now r h) c.args.bytes.now)
    (c.read.ensures.refuses (now r h) (c.in_ok-greeted.ensures.greets (now r h) b))

pub returns-clause-stands : goal.returns-clause-stands
returns-clause-stands c r h s =
    let held = subst (λ x. StandsFor r x h) (sym c.self.view_is) s in
    let e = c.in_default-refused.ensures in
    let b = begins r _ h held c.args.bytes.now _ _ refl e.rest c.in_default.is e.items in
    IfOk-weaker c.read.result (Told c.read.new.self (now r h) c.args.bytes.now)
    (λ f. StandsFor r c.read.new.self (Feed (used_bytes c.args.bytes.now (now r h)) ∷ h))
    (λ f t. goes-on r _ h held c.args.bytes.now _ _ refl e.rest c.read.new.self
    (then-kept c.in_ok-greeted.ensures.role c.read.ensures.role) t.holds)
    (c.read.ensures.told (now r h) (c.in_ok-greeted.ensures.greets (now r h) b))

pub returns-clause-refused : goal.returns-clause-refused
returns-clause-refused c r h s =
    let held = subst (λ x. StandsFor r x h) (sym c.self.view_is) s in
    let e = c.in_default-refused.ensures in
    let b = begins r _ h held c.args.bytes.now _ _ refl e.rest c.in_default.is e.items in
    IfErr-weaker c.read.result (IfCode (RefusesBytes c.read.new.self (now r h) c.args.bytes.now))
    (IfCode (λ code. StandsFor r c.read.new.self (Feed (used_bytes c.args.bytes.now (now r h)) ∷ h)))
    (fault-stands r _ h held c.args.bytes.now _ _ refl e.rest c.read.new.self
    (then-kept c.in_ok-greeted.ensures.role c.read.ensures.role))
    (c.read.ensures.refuses (now r h) (c.in_ok-greeted.ensures.greets (now r h) b))
