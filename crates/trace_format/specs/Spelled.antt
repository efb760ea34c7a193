-- How the lines of a trace are written.
use Rattle.std.specs.Prelude.{ℕ, ◌<◌, ◌^◌, ◌≡◌, ◌==◌, Bool, true, false, List, [], ◌∷◌, ◌++◌, length, codes}
use Rattle.std.specs.List.{list_any}
use Rattle.std.specs.Fmt.{decimal}
use Rattle.hex.specs.Hex.{IsBytes, encode_lower}
use Rattle.trace_format.specs.declared.line.TraceLine.{TraceLine}
use Rattle.trace_format.specs.declared.line.TraceLine.TheVariants as line
use Rattle.trace_format.specs.Transcripts.{numbered, with_bytes}

-- the words of a close
abbrev pub ending_word : Bool → List ℕ
ending_word true = codes "clean"
ending_word false = codes "error"

abbrev pub kind_word : Bool → List ℕ
kind_word true = codes "trace 1 bytes"
kind_word false = codes "trace 1 messages"

-- an answer without bytes is a dash
abbrev pub answer_text : List ℕ → List ℕ
answer_text [] = codes "-"
answer_text (b ∷ bytes) = encode_lower (b ∷ bytes)

-- a line, with digits in lower case
abbrev pub spelling : TraceLine → List ℕ
spelling (line.First bytes) = kind_word bytes
spelling (line.Config text) = codes "config " ++ text
spelling line.Open = codes "open"
spelling (line.Client x bytes) = with_bytes (codes "client ") x bytes
spelling (line.Up x bytes) = with_bytes (codes "up ") x bytes
spelling (line.ClientEnd x) = numbered (codes "client-end ") x
spelling (line.UpEnd x) = numbered (codes "up-end ") x
spelling (line.ClientLost x) = numbered (codes "client-lost ") x
spelling (line.UpLost x) = numbered (codes "up-lost ") x
spelling (line.UpNoDial x) = numbered (codes "up-nodial ") x
spelling (line.Answer x bytes) = codes "answer " ++ (decimal x ++ 32 ∷ answer_text bytes)
spelling (line.Close x clean) = codes "close " ++ (decimal x ++ 32 ∷ ending_word clean)
spelling (line.Ext bytes) = codes "ext " ++ encode_lower bytes
spelling line.ExtEnd = codes "ext-end"
spelling line.ExtLost = codes "ext-lost"
spelling (line.Tick n) = numbered (codes "tick ") n
spelling (line.HoldClient x) = numbered (codes "hold client ") x
spelling (line.HoldUp x) = numbered (codes "hold up ") x
spelling line.HoldExt = codes "hold ext"
spelling (line.FreeClient x) = numbered (codes "free client ") x
spelling (line.FreeUp x) = numbered (codes "free up ") x
spelling line.FreeExt = codes "free ext"
spelling line.Stop = codes "stop"

abbrev pub IsExchange : ℕ → Type 0
IsExchange x = x < 2 ^ 32

abbrev pub SomeBytes : List ℕ → Type 0
SomeBytes bytes = (0 < length bytes) × IsBytes bytes

-- What can stand in a line: a number of an exchange below 2^32, a time below 2^64, bytes, and a configuration without
-- line feed.
abbrev pub CanStand : TraceLine → Type 0
CanStand (line.First bytes) = Unit {0}
CanStand (line.Config text) = list_any (λ b. b == 10) text ≡ false
CanStand line.Open = Unit {0}
CanStand (line.Client x bytes) = IsExchange x × SomeBytes bytes
CanStand (line.Up x bytes) = IsExchange x × SomeBytes bytes
CanStand (line.ClientEnd x) = IsExchange x
CanStand (line.UpEnd x) = IsExchange x
CanStand (line.ClientLost x) = IsExchange x
CanStand (line.UpLost x) = IsExchange x
CanStand (line.UpNoDial x) = IsExchange x
CanStand (line.Answer x bytes) = IsExchange x × IsBytes bytes
CanStand (line.Close x clean) = IsExchange x
CanStand (line.Ext bytes) = SomeBytes bytes
CanStand line.ExtEnd = Unit {0}
CanStand line.ExtLost = Unit {0}
CanStand (line.Tick n) = n < 2 ^ 64
CanStand (line.HoldClient x) = IsExchange x
CanStand (line.HoldUp x) = IsExchange x
CanStand line.HoldExt = Unit {0}
CanStand (line.FreeClient x) = IsExchange x
CanStand (line.FreeUp x) = IsExchange x
CanStand line.FreeExt = Unit {0}
CanStand line.Stop = Unit {0}
