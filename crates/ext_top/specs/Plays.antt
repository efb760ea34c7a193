-- A trace that is played line by line, and how a run ends.
use Rattle.std.specs.Prelude.{ℕ, ◌≡◌, ◌+◌, ◌⊎◌, List, [], ◌∷◌, ◌++◌, length, take, Option, Some, Bool, true, false}
use Rattle.std.specs.Io.KnownBytes.{Appends, Consumes, Keeps}
use Rattle.trace_format.specs.Lines.{line_of}
use Rattle.trace_format.specs.declared.line.TraceLine.TheVariants.{First}
use Rattle.trace_format.specs.declared.out.OutLine.{OutLine}
use Rattle.trace_model.specs.Lines.{text_of_lines}
use Rattle.trace_model.specs.Places.{Place}
use Rattle.trace_model.specs.Places as place
use Rattle.trace_model.specs.Verdicts.{Faulty, Refused, TextLeads, Verdict, judged, shape_of}
use Rattle.ext_top.specs.declared.status.Status.{Status}
use Rattle.ext_top.specs.declared.status.Status.TheVariants as status
use Rattle.ext_top.specs.Moves.{room, IsShortLine, ReadsLine, ReadsNone}

-- Behind so many bytes of the trace, these lines lead from a place to another and bring this text.
abbrev pub LinesLead : ℕ → Place → List (List ℕ) → List ℕ → Place → Type 0
LinesLead before p [] text next = (text ≡ []) × (next ≡ p)
LinesLead before p (line ∷ lines) text next =
    (first : List OutLine) × (mid : Place) × (more : List ℕ) × IsShortLine (room before) line × TextLeads p line first mid
    × LinesLead (before + (length line + 1)) mid lines more next × (text ≡ text_of_lines first ++ more)

-- the bytes of lines
abbrev pub joined : List (List ℕ) → List ℕ
joined [] = []
joined (line ∷ lines) = line ++ 10 ∷ joined lines

-- So many lines of so many bytes were read, which lead to this place, and all that they bring was written.
pub record Played (count size : ℕ) (left left' written written' : Option (List ℕ)) (s : Place) : Type 0 where
  pub lines : List (List ℕ)
  pub text : List ℕ
  pub counted : length lines ≡ count
  pub sized : length (joined lines) ≡ size
  pub steps : LinesLead 0 place.First lines text s
  pub read : Consumes left left' (joined lines)
  pub wrote : Appends written written' text

-- the trace is at its end
abbrev pub is_end : Place → Bool
is_end place.First = false
is_end place.Second = false
is_end (place.Events s) = false
is_end place.Ended = true

-- So many lines were played, and the next one comes to this.
pub record StopsAt (v : Verdict) (count : ℕ) (left left' written written' : Option (List ℕ)) : Type 0 where
  pub at : Place
  pub size : ℕ
  pub before : Option (List ℕ)
  pub played : Played count size left before written written' at
  pub unended : is_end at ≡ false
  pub line : List ℕ
  pub read : ReadsLine (room size) before left' line
  pub comes_to : judged (shape_of at) line ≡ v

-- So many lines were played, and no further one is there, or one that is too long or ends behind the greatest length of a trace.
pub record Lacks (count : ℕ) (left left' written written' : Option (List ℕ)) : Type 0 where
  pub at : Place
  pub size : ℕ
  pub before : Option (List ℕ)
  pub played : Played count size left before written written' at
  pub unended : is_end at ≡ false
  pub none : ReadsNone (room size) before left'

-- The first line begins a trace of bytes, which isn't played yet.
pub record BeginsBytes (left left' written written' : Option (List ℕ)) : Type 0 where
  pub line : List ℕ
  pub read : ReadsLine (room 0) left left' line
  pub begins : line_of line ≡ Some (First true)
  pub nothing : Keeps written written'

-- What was written is the front of what the lines that were read bring.
pub record Halted (left left' written written' : Option (List ℕ)) : Type 0 where
  pub lines : List (List ℕ)
  pub text : List ℕ
  pub at : Place
  pub steps : LinesLead 0 place.First lines text at
  pub bytes : List ℕ
  pub read : Consumes left left' (joined lines ++ bytes)
  pub count : ℕ
  pub wrote : Appends written written' (take count text)

-- The line of this number is the first that is faulty or missing.
abbrev pub FailsAt : ℕ → Option (List ℕ) → Option (List ℕ) → Option (List ℕ) → Option (List ℕ) → Type 0
FailsAt n left left' written written' =
    (count : ℕ) × (n ≡ count + 1) × (StopsAt Faulty count left left' written written' ⊎ Lacks count left left' written written')

-- what each status says of what a replay read and wrote
abbrev pub EndsReplay : Status → Option (List ℕ) → Option (List ℕ) → Option (List ℕ) → Option (List ℕ) → Type 0
EndsReplay status.Done left left' written written' = (count : ℕ) × (size : ℕ) × Played count size left left' written written' place.Ended
EndsReplay (status.TraceFault n) left left' written written' = FailsAt n left left' written written'
EndsReplay (status.ConfigFault fault) left left' written written' = (count : ℕ) × StopsAt (Refused fault) count left left' written written'
EndsReplay status.NotBuilt left left' written written' = BeginsBytes left left' written written'
EndsReplay status.ReadFault left left' written written' = Halted left left' written written'
EndsReplay status.WriteFault left left' written written' = Halted left left' written written'
EndsReplay status.Memory left left' written written' = Halted left left' written written'
EndsReplay status.Usage left left' written written' = Keeps left left' × Keeps written written'

-- a status that the bytes of the trace decide
abbrev pub IsVerdict : Status → Type 0
IsVerdict status.Done = Unit {0}
IsVerdict (status.TraceFault n) = Unit {0}
IsVerdict (status.ConfigFault fault) = Unit {0}
IsVerdict status.NotBuilt = Unit {0}
IsVerdict status.ReadFault = ⊥
IsVerdict status.WriteFault = ⊥
IsVerdict status.Memory = ⊥
IsVerdict status.Usage = ⊥
