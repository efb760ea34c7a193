-- `send` leaves what the account after it says.
use Rattle.std.proofs.Common.{◌≡◌, ℕ, Bool, true, false, ◌||◌, List, length, None, refl, sym, ◌∙◌, subst, if◌then◌else◌}
use Rattle.h2_frames.specs.declared.frame.Frame.{Frame}
use Rattle.h2_frames.specs.declared.frame.Frame.TheVariants as frame
use Rattle.h2_model.specs.Log.{is_empty}
use Rattle.h2_model.specs.Streams.{opened, is_live}
use Rattle.h2_model.specs.Account.{Account, is_headless}
use Rattle.h2_model.specs.Calls.{is_open_here}
use Rattle.h2_model.specs.History.{called, Send, handed, is_violated}
use Rattle.h2_model.specs.State.{seen}
use Rattle.h2_model.specs.Moves.{handing}
use Rattle.h2_laws_log.specs.Becomes.{Becomes}
use Rattle.h2_laws_log.proofs.Unless.{send-seen, send-valid, send-sound, send-opened, send-headless, send-keeps}
use Rattle.h2_laws_log.specs.Rooms.{Counted}
use Rattle.h2_laws_log.proofs.RoomCalls.{data-counted}
use Rattle.h2_laws_kept.specs.Kept.{Kept, IsSame, lacks_head}
use Rattle.h2_laws_kept.specs.Rooms.{KeepsCapacity, HasSpare}
use Rattle.h2_laws_kept.specs.StandsFor.{IsSound, Holds}
use Rattle.h2_laws_kept.proofs.Holding.{Leaves, holding}
use Rattle.h2_laws_kept.proofs.Roominess.{Comes, spare-roomy}
use Rattle.h2_laws_kept.proofs.Handing.{Alike, same-alike, handed-alike, leaves, handing_unless, unless-spares, handing-is, send-comes}
use Rattle.h2_laws_kept.proofs.Finishes.{open-here-live}

-- no bytes, and bytes after a violation, change nothing
pub send-idle : (id : ℕ) (bytes : List ℕ) (a : Account) → (is_empty bytes || is_violated a) ≡ true → called (Send id bytes) a ≡ a
unfolding called
send-idle id bytes a e = by (is_empty bytes) (is_violated a) e
  where
    by : (x y : Bool) → (x || y) ≡ true
        → (if x then a else if y then a else handed (frame.Data id bytes false (length bytes)) a) ≡ a
    by true y e = refl
    by false true e = refl
    by false false e = absurd cc

send-becomes : (id : ℕ) (bytes : List ℕ) (a : Account) → IsSound a → is_live id a.log ≡ true → is_empty bytes ≡ false
    → Becomes (called (Send id bytes) a) (opened a.log) (is_headless a)
    (handing_unless (is_headless a id) (frame.Data id bytes false (length bytes)) (seen a))
unfolding seen
send-becomes id bytes a s l n = record {
  state = send-seen id bytes a s.valid ∙ rw n refl;
  valid = send-valid id bytes a s.valid l;
  sound = send-sound id bytes a s.calls;
  numbers = send-opened id bytes a;
  headless = send-headless id bytes a;
}

send-leaves : (id : ℕ) (bytes : List ℕ) (a : Account) → IsSound a → Leaves a (called (Send id bytes) a)
send-leaves id bytes a s =
    leaves (Send id bytes) a s refl (send-keeps Counted id bytes a s.counted (data-counted id (length bytes) bytes a s.counted))
    (send-keeps (Alike a) id bytes a (same-alike a s.heads)
    (handed-alike (frame.Data id bytes false (length bytes)) a refl s.heads))

pub send-held : (k l : Kept) (id : ℕ) (bytes : List ℕ) (a : Account) → Holds k a → is_open_here id a ≡ true
    → is_empty bytes ≡ false → k.state.violation ≡ None → HasSpare 1 k → IsSame k l → KeepsCapacity k l
    → l.state ≡ handing (lacks_head id k) (frame.Data id bytes false (length bytes)) k.state
    → Holds l (called (Send id bytes) a)
send-held k l id bytes a h o n v p s c e =
    holding k l a (called (Send id bytes) a) (handing_unless (is_headless a id) f) (unless-spares (is_headless a id) f) h
    (send-becomes id bytes a h.sound (open-here-live id a o) n) (e ∙ sym (kept v) ∙ handing-is k a h id f) s
    (send-leaves id bytes a h.sound)
    (spare-roomy 1 k l h.room
    (subst (Comes 1 k.state) (sym e) (send-comes (lacks_head id k) id bytes k.state)) p s.client s.streams c)
  where
    f : Frame
    f = frame.Data id bytes false (length bytes)

    kept : k.state.violation ≡ None → handing_unless (lacks_head id k) f k.state ≡ handing (lacks_head id k) f k.state
    kept v = rw v refl
