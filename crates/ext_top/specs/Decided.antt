-- How the bytes of a trace decide the status of its replay: by what its lines are, whatever the exchanges do.
use Rattle.std.specs.Prelude.{ℕ, ◌≡◌, ◌+◌, ◌⊎◌, Bool, true, false, List, [], ◌∷◌, ◌++◌, length}
use Rattle.trace_model.specs.Verdicts.{AtEnd, AtFirst, Faulty, Refused, Shape, Stands, Unbuilt, Verdict, judged}
use Rattle.trace_model.specs.Verdicts.{shape_after}
use Rattle.ext_top.specs.declared.status.Status.{Status}
use Rattle.ext_top.specs.declared.status.Status.TheVariants as status
use Rattle.ext_top.specs.Moves.{room, IsLine, IsShortLine}
use Rattle.ext_top.specs.Plays.{joined}

-- Behind so many bytes of the trace each of these lines may stand where it stands, and they lead to this shape.
abbrev pub LinesStand : ℕ → Shape → List (List ℕ) → Shape → Type 0
LinesStand before s [] next = next ≡ s
LinesStand before s (line ∷ lines) next =
    IsShortLine (room before) line × (judged s line ≡ Stands)
    × LinesStand (before + (length line + 1)) (shape_after s line) lines next

-- no line may follow
abbrev pub is_over : Shape → Bool
is_over AtEnd = true
is_over _ = false

-- The bytes behind so many begin with a line, of which this is said.
pub record NextIs (before : ℕ) (s : Shape) (v : Verdict) (rest : List ℕ) : Type 0 where
  pub unended : is_over s ≡ false
  pub line : List ℕ
  pub more : List ℕ
  pub parts : rest ≡ line ++ 10 ∷ more
  pub is_line : IsShortLine (room before) line
  pub comes_to : judged s line ≡ v

-- They begin with none, or with one that is too long or ends behind the greatest length of a trace.
pub record NextLacks (before : ℕ) (s : Shape) (rest : List ℕ) : Type 0 where
  pub unended : is_over s ≡ false
  pub bytes : List ℕ
  pub more : List ℕ
  pub parts : rest ≡ bytes ++ more
  pub plain : IsLine bytes
  pub why : (more ≡ []) ⊎ (length bytes ≡ room before)

-- A status behind so many lines of so many bytes, which lead to a shape, by what follows them.
abbrev pub DecidedAt : Status → ℕ → ℕ → Shape → List ℕ → Type 0
DecidedAt status.Done count before s rest = s ≡ AtEnd
DecidedAt (status.TraceFault n) count before s rest =
    (n ≡ count + 1) × (NextIs before s Faulty rest ⊎ NextLacks before s rest)
DecidedAt (status.ConfigFault fault) count before s rest = NextIs before s (Refused fault) rest
DecidedAt status.NotBuilt count before s rest = NextIs before s Unbuilt rest
DecidedAt other count before s rest = ⊥

pub record Decides (bytes : List ℕ) (s : Status) : Type 0 where
  pub lines : List (List ℕ)
  pub at : Shape
  pub rest : List ℕ
  pub stand : LinesStand 0 AtFirst lines at
  pub parts : bytes ≡ joined lines ++ rest
  pub decided : DecidedAt s (length lines) (length (joined lines)) at rest
