-- What a line of hexadecimal digits is shown as: a message, or frames.
use Rattle.std.specs.Prelude.{ℕ, ◌≡◌, ◌⊎◌, List, [], ◌∷◌, ◌++◌, codes, Option, Some, None, Result, Ok, Err}
use Rattle.std.specs.Fmt.{decimal}
use Rattle.std.specs.Io.KnownBytes.{Appends, Keeps}
use Rattle.hex.specs.Hex.{encode_lower}
use Rattle.pb_wire.specs.declared.fault.WireFault.{WireFault}
use Rattle.pb_wire.specs.declared.fault.WireFault.TheVariants as wire
use Rattle.ext_msgs.specs.declared.answer.Answer.{Answer}
use Rattle.ext_msgs.specs.declared.ask.Ask.{Ask}
use Rattle.ext_msgs.specs.declared.fault.MsgFault.{MsgFault}
use Rattle.ext_msgs.specs.declared.fault.MsgFault.TheVariants as fault
use Rattle.ext_msgs.specs.Messages.{answer_of, ask_of}
use Rattle.ext_msgs.specs.Spelling.{answer, ask}
use Rattle.trace_format.specs.Lines.{bytes_of}
use Rattle.ext_top.specs.declared.status.Status.{Status}
use Rattle.ext_top.specs.declared.status.Status.TheVariants as status
use Rattle.ext_top.specs.declared.show.Kind.{Kind}
use Rattle.ext_top.specs.declared.show.Kind.TheVariants as kind
use Rattle.ext_top.specs.ShownFrames.{shown_h2}
use Rattle.ext_top.specs.Moves.{line_limit, ReadsLine, ReadsNone, ReadsSome, WritesSome}

-- a fault, and the place of the record that has it
abbrev pub refused_at : List ℕ → ℕ → List ℕ
refused_at name place = codes "refused " ++ (name ++ (32 ∷ decimal place))

abbrev pub refused_wire : WireFault → List ℕ
refused_wire (wire.Truncated place) = refused_at (codes "truncated") place
refused_wire (wire.LongVarint place) = refused_at (codes "longvarint") place
refused_wire (wire.BadTag place) = refused_at (codes "badtag") place
refused_wire (wire.Group place) = refused_at (codes "group") place

abbrev pub refused : MsgFault → List ℕ
refused (fault.Wire f) = refused_wire f
refused (fault.Utf8 place) = refused_at (codes "utf8") place
refused (fault.BadNumber place) = refused_at (codes "badnumber") place
refused fault.NoMember = codes "refused nomember"
refused fault.Memory = []

-- the canonical spelling of what was read
abbrev pub canonical : List ℕ → List ℕ
canonical bytes = codes "canonical " ++ encode_lower bytes

abbrev pub answer_text : Result Answer MsgFault → List ℕ
answer_text (Ok a) = canonical (answer a)
answer_text (Err f) = refused f

abbrev pub ask_text : Result Ask MsgFault → List ℕ
ask_text (Ok a) = canonical (ask a)
ask_text (Err f) = refused f

-- the text for the bytes of an answer, and of an ask
unfoldable pub shown_answer : List ℕ → List ℕ
shown_answer bytes = answer_text (answer_of bytes)

unfoldable pub shown_ask : List ℕ → List ℕ
shown_ask bytes = ask_text (ask_of bytes)

abbrev pub shown : Kind → List ℕ → List ℕ
shown kind.Answer bytes = shown_answer bytes
shown kind.Ask bytes = shown_ask bytes
shown kind.Frames bytes = shown_h2 bytes

-- ---- a run

-- A line was read, and it is digits of these bytes.
pub record Given (left left' : Option (List ℕ)) (bytes : List ℕ) : Type 0 where
  pub line : List ℕ
  pub read : ReadsLine line_limit left left' line
  pub digits : bytes_of line ≡ Some bytes

-- No line was read, or one that isn't such digits.
pub record NotGiven (left left' : Option (List ℕ)) : Type 0 where
  pub line : List ℕ
  pub read : ReadsLine line_limit left left' line
  pub no_digits : bytes_of line ≡ None

-- what each status says of what a show read and wrote
abbrev pub Shows : Kind → Status → Option (List ℕ) → Option (List ℕ) → Option (List ℕ) → Option (List ℕ) → Type 0
Shows k status.Done left left' written written' = (bytes : List ℕ) × Given left left' bytes × Appends written written' (shown k bytes ++ 10 ∷ [])
Shows k (status.TraceFault n) left left' written written' = (n ≡ 1) × Keeps written written' × (ReadsNone line_limit left left' ⊎ NotGiven left left')
Shows k status.ReadFault left left' written written' = ReadsSome left left' × Keeps written written'
Shows k status.WriteFault left left' written written' = (bytes : List ℕ) × Given left left' bytes × WritesSome written written' (shown k bytes ++ 10 ∷ [])
Shows k status.Memory left left' written written' = ReadsSome left left' × Keeps written written'
Shows k (status.ConfigFault f) left left' written written' = ⊥
Shows k status.NotBuilt left left' written written' = ⊥
Shows k status.Usage left left' written written' = ⊥
