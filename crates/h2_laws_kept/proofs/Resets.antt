-- `reset` leaves what the account after it says.
use Rattle.std.proofs.Common.{◌≡◌, ℕ, true, refl, sym, ◌∙◌, subst, if◌then◌else◌, is_some}
use Rattle.h2_frames.specs.declared.frame.Frame.TheVariants as frame
use Rattle.h2_model.specs.Streams.{opened, is_live}
use Rattle.h2_model.specs.Account.{Account, is_headless}
use Rattle.h2_model.specs.History.{called, Reset}
use Rattle.h2_model.specs.State.{seen, stream_of_log}
use Rattle.h2_model.specs.Moves.{handing}
use Rattle.h2_laws_log.specs.Becomes.{Becomes}
use Rattle.h2_laws_log.proofs.Unless.{reset-call-seen, reset-call-valid, reset-call-sound, reset-opened, reset-headless, reset-keeps}
use Rattle.h2_laws_log.specs.Rooms.{Counted}
use Rattle.h2_laws_log.proofs.RoomCalls.{reset-counted}
use Rattle.h2_laws_kept.specs.Kept.{Kept, IsSame, lacks_head}
use Rattle.h2_laws_kept.specs.Rooms.{KeepsCapacity}
use Rattle.h2_laws_kept.specs.StandsFor.{IsSound, Holds}
use Rattle.h2_laws_kept.proofs.Holding.{Leaves, holding}
use Rattle.h2_laws_kept.proofs.Roominess.{Pays, pays-unless, pays-roomy}
use Rattle.h2_laws_kept.proofs.Handing.{Alike, same-alike, handed-alike, leaves, handing_unless, unless-spares, handing-is, stream-found, reset-pays}

reset-becomes : (id code : ℕ) (a : Account) → IsSound a → is_live id a.log ≡ true
    → Becomes (called (Reset id code) a) (opened a.log) (is_headless a)
    (handing_unless (is_headless a id) (frame.Reset id code) (seen a))
unfolding seen
reset-becomes id code a s l = record {
  state = reset-call-seen id code a s.valid;
  valid = reset-call-valid id code a s.valid l;
  sound = reset-call-sound id code a s.calls;
  numbers = reset-opened id code a;
  headless = reset-headless id code a;
}

reset-leaves : (id code : ℕ) (a : Account) → IsSound a → is_live id a.log ≡ true → Leaves a (called (Reset id code) a)
reset-leaves id code a s o =
    leaves (Reset id code) a s refl (reset-keeps Counted id code a s.counted (reset-counted id code a s.valid o s.counted))
    (reset-keeps (Alike a) id code a (same-alike a s.heads) (handed-alike (frame.Reset id code) a refl s.heads))

pub reset-held : (k l : Kept) (id code : ℕ) (a : Account) → Holds k a → is_live id a.log ≡ true → IsSame k l
    → KeepsCapacity k l
    → l.state ≡ (if is_some k.state.violation then k.state else handing (lacks_head id k) (frame.Reset id code) k.state)
    → Holds l (called (Reset id code) a)
reset-held k l id code a h o s c e =
    holding k l a (called (Reset id code) a) (handing_unless (is_headless a id) (frame.Reset id code))
    (unless-spares (is_headless a id) (frame.Reset id code)) h
    (reset-becomes id code a h.sound o)
    (e ∙ handing-is k a h id (frame.Reset id code)) s (reset-leaves id code a h.sound o) (pays-roomy k l h.room pays s c)
  where
    pays : Pays k.state l.state
    pays = subst (Pays k.state) (sym e)
        (pays-unless (is_some k.state.violation) k.state (handing (lacks_head id k) (frame.Reset id code) k.state)
        (reset-pays (lacks_head id k) id code (stream_of_log id a) k.state (stream-found k a h id o)))
