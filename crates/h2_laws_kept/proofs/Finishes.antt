-- `finish` leaves what the account after it says.
use Rattle.std.proofs.Common.{◌≡◌, ℕ, true, false, not, [], refl, sym, ◌∙◌, subst, if◌then◌else◌, is_some}
use borrow.Author.Tests.{not-true}
use Rattle.h2_frames.specs.declared.frame.Frame.TheVariants as frame
use Rattle.h2_model.specs.Streams.{opened, is_live, is_ended_here}
use Rattle.h2_model.specs.Account.{Account, is_headless}
use Rattle.h2_model.specs.Calls.{is_open_here}
use Rattle.h2_model.specs.History.{called, Finish}
use Rattle.h2_model.specs.State.{seen, stream_of_log}
use Rattle.h2_model.specs.Moves.{handing}
use Rattle.h2_laws_log.specs.Becomes.{Becomes}
use Rattle.h2_laws_log.proofs.Lists.{both-left, both-right}
use Rattle.h2_laws_log.proofs.Unless.{finish-seen, finish-valid, finish-sound, finish-opened, finish-headless, finish-keeps}
use Rattle.h2_laws_log.specs.Rooms.{Counted}
use Rattle.h2_laws_log.proofs.RoomCalls.{finish-counted}
use Rattle.h2_laws_kept.specs.Kept.{Kept, IsSame, lacks_head}
use Rattle.h2_laws_kept.specs.Rooms.{KeepsCapacity}
use Rattle.h2_laws_kept.specs.StandsFor.{IsSound, Holds}
use Rattle.h2_laws_kept.proofs.Holding.{Leaves, holding}
use Rattle.h2_laws_kept.proofs.Roominess.{Pays, pays-unless, pays-roomy}
use Rattle.h2_laws_kept.proofs.Handing.{Alike, same-alike, handed-alike, leaves, handing_unless, unless-spares, handing-is, stream-found, stream-open, finish-pays}

pub open-here-live : (id : ℕ) (a : Account) → is_open_here id a ≡ true → is_live id a.log ≡ true
open-here-live id a o = both-left (is_live id a.log) (not (is_ended_here id a.log)) o

open-here-open : (id : ℕ) (a : Account) → is_open_here id a ≡ true → is_ended_here id a.log ≡ false
open-here-open id a o = not-true (is_ended_here id a.log) (both-right (is_live id a.log) (not (is_ended_here id a.log)) o)

finish-becomes : (id : ℕ) (a : Account) → IsSound a → is_open_here id a ≡ true
    → Becomes (called (Finish id) a) (opened a.log) (is_headless a)
    (handing_unless (is_headless a id) (frame.Data id [] true 0) (seen a))
unfolding seen
finish-becomes id a s o = record {
  state = finish-seen id a s.valid;
  valid = finish-valid id a s.valid (open-here-live id a o);
  sound = finish-sound id a s.calls;
  numbers = finish-opened id a;
  headless = finish-headless id a;
}

finish-leaves : (id : ℕ) (a : Account) → IsSound a → is_open_here id a ≡ true → Leaves a (called (Finish id) a)
finish-leaves id a s o =
    leaves (Finish id) a s refl (finish-keeps Counted id a s.counted (finish-counted id a s.valid o s.counted))
    (finish-keeps (Alike a) id a (same-alike a s.heads) (handed-alike (frame.Data id [] true 0) a refl s.heads))

pub finish-held : (k l : Kept) (id : ℕ) (a : Account) → Holds k a → is_open_here id a ≡ true → IsSame k l → KeepsCapacity k l
    → l.state ≡ (if is_some k.state.violation then k.state else handing (lacks_head id k) (frame.Data id [] true 0) k.state)
    → Holds l (called (Finish id) a)
finish-held k l id a h o s c e =
    holding k l a (called (Finish id) a) (handing_unless (is_headless a id) (frame.Data id [] true 0))
    (unless-spares (is_headless a id) (frame.Data id [] true 0)) h
    (finish-becomes id a h.sound o)
    (e ∙ handing-is k a h id (frame.Data id [] true 0)) s (finish-leaves id a h.sound o) (pays-roomy k l h.room pays s c)
  where
    pays : Pays k.state l.state
    pays = subst (Pays k.state) (sym e)
        (pays-unless (is_some k.state.violation) k.state (handing (lacks_head id k) (frame.Data id [] true 0) k.state)
        (finish-pays (lacks_head id k) id (stream_of_log id a) k.state (stream-found k a h id (open-here-live id a o))
        (stream-open id a (open-here-open id a o))))
