-- What each command does with its source and its sink.
use Rattle.std.specs.Prelude.{ℕ, ◌≡◌, List, Option, Some}
use Rattle.std.specs.Io.KnownBytes.{Keeps}
use Rattle.ext_top.specs.declared.words.Command.{Command}
use Rattle.ext_top.specs.declared.words.Command.TheVariants as command
use Rattle.ext_top.specs.declared.status.Status.{Status}
use Rattle.ext_top.specs.declared.status.Status.TheVariants as status
use Rattle.ext_top.specs.Decided.{Decides}
use Rattle.ext_top.specs.Plays.{EndsReplay, IsVerdict}
use Rattle.ext_top.specs.Shows.{Shows}
use Rattle.ext_top.specs.declared.show.Kind.TheVariants as kind

-- nothing was read or written
abbrev pub IsRefused : Status → Option (List ℕ) → Option (List ℕ) → Option (List ℕ) → Option (List ℕ) → Type 0
IsRefused s left left' written written' = (s ≡ status.Usage) × Keeps left left' × Keeps written written'

-- A replay ends as its status says. Where the bytes of the trace are known they decide it, but for a fault of the source
-- or of the sink and for want of memory.
pub record Replays (s : Status) (left left' written written' : Option (List ℕ)) : Type 0 where
  pub ends : EndsReplay s left left' written written'
  pub decided : (bytes : List ℕ) (t : Status) → left ≡ Some bytes → IsVerdict s → Decides bytes t → s ≡ t

-- What a command reads and writes, and how it ends. The words of a command that isn't built yet are none.
abbrev pub RunsAs : Option Command → Status → Option (List ℕ) → Option (List ℕ) → Option (List ℕ) → Option (List ℕ) → Type 0
RunsAs (Some command.Replay) s left left' written written' = Replays s left left' written written'
RunsAs (Some command.ShowAnswer) s left left' written written' = Shows kind.Answer s left left' written written'
RunsAs (Some command.ShowAsk) s left left' written written' = Shows kind.Ask s left left' written written'
RunsAs (Some command.ShowH2) s left left' written written' = Shows kind.Frames s left left' written written'
RunsAs other s left left' written written' = IsRefused s left left' written written'

-- a command that is built
abbrev pub IsBuilt : Option Command → Type 0
IsBuilt (Some command.Replay) = Unit {0}
IsBuilt (Some command.ShowAnswer) = Unit {0}
IsBuilt (Some command.ShowAsk) = Unit {0}
IsBuilt (Some command.ShowH2) = Unit {0}
IsBuilt other = ⊥
