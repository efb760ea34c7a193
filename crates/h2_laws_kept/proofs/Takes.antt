-- `take` leaves what the account after it says.
use Rattle.std.proofs.Common.{◌≡◌, ℕ, zero, suc, ◌+◌, ◌≤◌, List, [], ◌∷◌, length, refl, sym, ◌∙◌, ap, subst, arith, le_refl}
use Rattle.h2_frames.specs.declared.frame.Frame.{Frame}
use Rattle.h2_frames.specs.declared.frame.Frame.TheVariants as frame
use Rattle.h2_model.specs.Log.{violation}
use Rattle.h2_model.specs.Streams.{opened}
use Rattle.h2_model.specs.Blocks.{open_block}
use Rattle.h2_model.specs.Queue.{behind, whole_within}
use Rattle.h2_model.specs.Account.{Account, is_headless}
use Rattle.h2_model.specs.History.{called, Take}
use Rattle.h2_model.specs.State.{State, seen}
use Rattle.h2_model.specs.Moves.{giving, giving_all, with_room}
use Rattle.h2_laws_log.specs.Becomes.{Becomes}
use Rattle.h2_laws_log.specs.Calling.{taking}
use Rattle.h2_laws_log.proofs.Take.{take-seen, take-valid, take-opened, take-headless, given-same}
use Rattle.h2_laws_log.proofs.Sounds.{take-sound}
use Rattle.h2_laws_log.specs.Rooms.{credit, credits, closings_held}
use Rattle.h2_laws_log.proofs.RoomCalls.{take-counted}
use Rattle.h2_laws_kept.specs.Kept.{Kept, IsSame}
use Rattle.h2_laws_kept.specs.Rooms.{KeepsCapacity}
use Rattle.h2_laws_kept.specs.StandsFor.{IsSound, Holds}
use Rattle.h2_laws_kept.proofs.Sums.{length-behind, closings-behind, credits-adjusted}
use Rattle.h2_laws_kept.proofs.Heading.{take-heads}
use Rattle.h2_laws_kept.proofs.Holding.{Leaves, SparesTable, holding}
use Rattle.h2_laws_kept.proofs.Roominess.{Pays, pays-roomy}
use Rattle.h2_laws_kept.proofs.Handing.{Alike, leaves}

-- A window update that went out changes no credit

one-given : (f : Frame) (s : State) → credits (giving f s).streams ≤ credits s.streams
unfolding giving
one-given (frame.Window zero n) s = le_refl (credits s.streams)
one-given (frame.Window (suc id) n) s = credits-adjusted (suc id) (with_room n) (λ t. le_refl (credit t)) s.streams
one-given f s = le_refl (credits s.streams)

all-given : (fs : List Frame) (s : State) → credits (giving_all fs s).streams ≤ credits s.streams
all-given [] s = le_refl (credits s.streams)
all-given (f ∷ fs) s = omega (arith, all-given fs (giving f s), one-given f s)

one-held : (f : Frame) (s : State) → (giving f s).held ≡ s.held
unfolding giving
one-held (frame.Window zero n) s = refl
one-held (frame.Window (suc id) n) s = refl
one-held f s = refl

all-held : (fs : List Frame) (s : State) → (giving_all fs s).held ≡ s.held
all-held [] s = refl
all-held (f ∷ fs) s = all-held fs (giving f s) ∙ one-held f s

take-pays : (n : ℕ) (s : State) → Pays s (taking n s)
unfolding taking
take-pays n s = record {
  queued = omega (arith, all-given (whole_within n s.waiting) s, length-behind n s.waiting);
  kept = rw (all-held (whole_within n s.waiting) s) (omega (arith, all-given (whole_within n s.waiting) s));
  closings = closings-behind n s.waiting;
  closings_kept = rw (all-held (whole_within n s.waiting) s) (le_refl (closings_held s.held + length s.held));
}

-- The decoder's table

one-spares : (f : Frame) → SparesTable (giving f)
unfolding giving
one-spares (frame.Window zero n) t s = refl
one-spares (frame.Window (suc id) n) t s = refl
one-spares f t s = refl

all-spares : (fs : List Frame) → SparesTable (giving_all fs)
all-spares [] t s = refl
all-spares (f ∷ fs) t s = ap (giving_all fs) (one-spares f t s) ∙ all-spares fs t (giving f s)

taking-spares : (n : ℕ) → SparesTable (taking n)
unfolding taking
taking-spares n t s = λ i. record (all-spares (whole_within n s.waiting) t s i) { waiting = behind n s.waiting }

-- The call

take-becomes : (n : ℕ) (a : Account) → IsSound a → Becomes (called (Take n) a) (opened a.log) (is_headless a) (taking n (seen a))
take-becomes n a s = record {
  state = take-seen n a s.valid s.calls;
  valid = take-valid n a s.valid s.calls;
  sound = take-sound n a s.calls;
  numbers = take-opened n a;
  headless = take-headless n a;
}

take-alike : (n : ℕ) (a : Account) → IsSound a → Alike a (called (Take n) a)
unfolding called
take-alike n a s = record {
  client = refl;
  block = given-same open_block (λ f log. refl) (whole_within n a.waiting) a.log;
  violation = given-same violation (λ f log. refl) (whole_within n a.waiting) a.log;
  heads = take-heads n a s.heads;
}

take-leaves : (n : ℕ) (a : Account) → IsSound a → Leaves a (called (Take n) a)
take-leaves n a s = leaves (Take n) a s refl (take-counted n a s.counted) (take-alike n a s)

pub take-held : (k l : Kept) (n : ℕ) (a : Account) → Holds k a → IsSame k l → KeepsCapacity k l → l.state ≡ taking n k.state
    → Holds l (called (Take n) a)
take-held k l n a h s c e =
    holding k l a (called (Take n) a) (taking n) (taking-spares n) h (take-becomes n a h.sound) e s (take-leaves n a h.sound)
    (pays-roomy k l h.room (subst (Pays k.state) (sym e) (take-pays n k.state)) s c)
