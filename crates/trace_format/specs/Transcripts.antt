-- The lines of a transcript.
use Rattle.std.specs.Prelude.{ℕ, List, ◌∷◌, ◌++◌, codes}
use Rattle.std.specs.Fmt.{decimal}
use Rattle.hex.specs.Hex.{encode_lower}
use Rattle.trace_format.specs.declared.out.OutLine.{OutLine}
use Rattle.trace_format.specs.declared.out.OutLine.TheVariants as out

-- a word with its space, and the number of an exchange
abbrev pub numbered : List ℕ → ℕ → List ℕ
numbered word x = word ++ decimal x

-- and bytes in lower-case hexadecimal digits behind a space
abbrev pub with_bytes : List ℕ → ℕ → List ℕ → List ℕ
with_bytes word x bytes = word ++ (decimal x ++ 32 ∷ encode_lower bytes)

-- the text of a line, without its line feed
abbrev pub text_of : OutLine → List ℕ
text_of (out.ToClient x bytes) = with_bytes (codes "to-client ") x bytes
text_of (out.ToUp x bytes) = with_bytes (codes "to-up ") x bytes
text_of (out.Ask x bytes) = with_bytes (codes "ask ") x bytes
text_of (out.Finish x) = numbered (codes "finish ") x
text_of (out.Reset x) = numbered (codes "reset ") x
text_of (out.DoneClient x) = numbered (codes "done client ") x
text_of (out.AbortClient x) = numbered (codes "abort client ") x
text_of (out.DoneUp x) = numbered (codes "done up ") x
text_of (out.AbortUp x) = numbered (codes "abort up ") x
text_of (out.ToExt bytes) = codes "to-ext " ++ encode_lower bytes
text_of out.AbortExt = codes "abort ext"
text_of out.Full = codes "full"
text_of out.End = codes "end"
