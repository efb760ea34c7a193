-- A call of `feed`, by what the session stands for: what waits is answered first, and the history goes on.
use Rattle.std.proofs.Common.{◌≡◌, ℕ, true, not, ◌||◌, List, [], ◌∷◌, drop, map, Option, Some, None, is_some, refl, sym, ◌∙◌, ap, subst, length, arith}
use Rattle.std.proofs.lemmas.List.{drop-map}
use Rattle.h2_model.specs.declared.answers.Event.{Event}
use Rattle.h2_model.specs.declared.answers.Fed.{Fed}
use Rattle.h2_model.specs.declared.answers.SessionFault.TheVariants.{Code, Memory}
use Rattle.h2_model.specs.declared.answers.SessionFault.{SessionFault}
use Rattle.h2_model.specs.Log.{is_empty, violation}
use Rattle.h2_model.specs.Account.{Account}
use Rattle.h2_model.specs.History.{Call, Feed, answered, called}
use Rattle.h2_model.specs.Calls.{IsFault, IsFed, Role, event_or_nothing, now, used_bytes}
use Rattle.h2_laws_log.specs.Feeding.{EndsAt}
use Rattle.h2_laws_log.proofs.Steps.{starts, ends-stopped, answers, refuses, leaves}
use Rattle.h2_laws_log.proofs.Uses.{used-whole}
use Rattle.h2_laws_kept.specs.Kept.{Kept}
use Rattle.h2_laws_kept.specs.Arriving.{IfCode}
use Rattle.h2_laws_kept.specs.StandsFor.{Holds, StandsFor}
use Rattle.h2_laws_kept.proofs.Holding.{violation-kept}
use Rattle.h2_laws_kept.proofs.Histories.{one-more}
use Rattle.h2_session.specs.Feeding.{KeepsRole, Runs, RefusesBytes}
use Rattle.h2_session.proofs.Endings.{if-code}
use Rattle.h2_session.proofs.Seen.{seen-unreported}
use Rattle.h2_session.specs.Refused.{refused}
use Rattle.h2_session.proofs.Aside.{event-aside, answered-none}

some-stops : (us : List Event) (v : Option ℕ) (code : ℕ) → v ≡ Some code → (not (is_empty us) || is_some v) ≡ true
some-stops [] v code e = ap is_some e
some-stops (u ∷ us) v code e = refl

none-left : (ids : List ℕ) → ids ≡ drop 1 ids → ids ≡ []
none-left [] e = refl
none-left (id ∷ ids) e = absurd (omega (arith, ap length e))

pub fault-of : (l : Kept) (a : Account) (bytes : List ℕ) (e : SessionFault) → IfCode (RefusesBytes l a bytes) e → IsFault a bytes e
fault-of l a bytes (Code code) p = p.fault
fault-of l a bytes Memory p = tt

-- in two steps
pub then-kept : {k l m : Kept} → KeepsRole k l → KeepsRole l m → KeepsRole k m
then-kept p q = record { client = q.client ∙ p.client; streams = q.streams ∙ p.streams }

-- the session with the refused streams that it hasn't told
abbrev pub telling : List ℕ → Kept → Kept
telling ids k = record k { state = record k.state { unreported = map refused ids } }

module _ (r : Role) (k : Kept) (h : List Call) (s : StandsFor r k h) (bytes : List ℕ) (old new : List ℕ)
    (e : k.state.unreported ≡ map refused old) (n : new ≡ drop 1 old) where
  abbrev a : Account
  a = now r h

  unreported-kept : k.state.unreported ≡ a.unreported
  unreported-kept = ap (λ x. x.unreported) s.holds.state ∙ seen-unreported a

  violation-is : violation a.log ≡ k.state.violation
  violation-is = sym (violation-kept k a s.holds)

  -- the oldest that waits was taken out
  popped : Holds (telling new k) (answered a)
  popped = event-aside k a s.holds (map refused new)
      (ap (map refused) n ∙ sym (drop-map refused 1 old) ∙ ap (drop 1) (sym e ∙ unreported-kept))

  pub goes-on : (l : Kept) → KeepsRole (telling new k) l → Holds l (called (Feed (used_bytes bytes a)) a)
      → StandsFor r l (Feed (used_bytes bytes a) ∷ h)
  goes-on l q x = one-more r k l (Feed (used_bytes bytes a)) h s (used-whole bytes a) q.client q.streams x

  -- where nothing is read
  stays : EndsAt a bytes 0 a → StandsFor r (telling new k) (Feed (used_bytes bytes a) ∷ h)
  stays t = goes-on (telling new k) (record { client = refl; streams = refl })
      (subst (Holds (telling new k)) (sym (leaves a bytes 0 a t)) popped)

  -- After a violation

  module _ (code : ℕ) (v : k.state.violation ≡ Some code) where
    stopped : EndsAt a bytes 0 a
    stopped = ends-stopped a bytes 0 a (starts bytes a) (some-stops a.unreported (violation a.log) code (violation-is ∙ v))

    pub refused-again : IsFault a bytes (Code code)
    refused-again = refuses a bytes 0 a stopped code (violation-is ∙ v)

    pub stays-refused : StandsFor r (telling new k) (Feed (used_bytes bytes a) ∷ h)
    stays-refused = stays stopped

  -- Where a stream waits to be told

  module _ (id : ℕ) (o : old ≡ id ∷ new) where
    first-waits : a.unreported ≡ map refused (id ∷ new)
    first-waits = sym unreported-kept ∙ e ∙ ap (map refused) o

    waiting : EndsAt a bytes 0 a
    waiting = ends-stopped a bytes 0 a (starts bytes a)
        (ap (λ us. not (is_empty us) || is_some (violation a.log)) first-waits)

    pub told-first : k.state.violation ≡ None → (f : Fed) → f.used ≡ 0 → f.event ≡ refused id → IsFed a bytes f
    told-first v f u t = answers a bytes 0 a waiting f u (t ∙ sym (ap event_or_nothing first-waits)) (violation-is ∙ v)

    pub stays-told : StandsFor r (telling new k) (Feed (used_bytes bytes a) ∷ h)
    stays-told = stays waiting

  -- Else bytes are read

  module _ (v : k.state.violation ≡ None) (o : old ≡ new) where
    quiet : a.unreported ≡ []
    quiet = sym unreported-kept ∙ e ∙ ap (map refused) (none-left old (o ∙ n))

    pub begins : Runs (telling new k) a a bytes 0
    begins = record {
      part = s.holds.sound.part;
      read = starts bytes a;
      holds = subst (Holds (telling new k)) (answered-none a quiet) popped;
      quiet = quiet;
      sound = violation-is ∙ v;
    }

  pub fault-stands : (l : Kept) → KeepsRole (telling new k) l → (f : SessionFault) → IfCode (RefusesBytes l a bytes) f
      → IfCode (λ code. StandsFor r l (Feed (used_bytes bytes a) ∷ h)) f
  fault-stands l q f p = if-code (λ code t. goes-on l q t.holds) f p
