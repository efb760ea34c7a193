-- The lines of a trace, read from left to right.
use Rattle.std.specs.Prelude.{ℕ, Bool, true, false, ◌-◌, ◌^◌, ◌&&◌, ◌==◌, not, nat_le, List, [], ◌∷◌, codes, Option, Some, None, Result, Ok, Err, option_map, if◌then◌else◌}
use Rattle.std.specs.Char.{is_ascii_digit}
use Rattle.std.specs.Str.{all_ascii_digits, bytes_eq}
use Rattle.std.specs.Str.Parse.{digits_value}
use Rattle.std.specs.List.{list_any}
use Rattle.hex.specs.Hex.{decode_of}
use Rattle.hex.specs.declared.FromHexError.{FromHexError}
use Rattle.trace_format.specs.declared.line.TraceLine.{TraceLine}
use Rattle.trace_format.specs.declared.line.TraceLine.TheVariants as line
use Rattle.trace_format.specs.declared.forms.Port.{Port}
use Rattle.trace_format.specs.declared.forms.Port.TheVariants as port
use Rattle.trace_format.specs.declared.word.Word.{Word}
use Rattle.trace_format.specs.declared.word.Word.TheVariants as word

-- what stands before the first space, and what follows it where there is one
abbrev pub parted : List ℕ → List ℕ × Option (List ℕ)
parted [] = ([], None)
parted (b ∷ bs) = if b == 32 then ([], Some bs) else (b ∷ (parted bs).0, (parted bs).1)

-- ---- numbers

-- digits, and no zero before another
abbrev pub is_decimal : List ℕ → Bool
is_decimal [] = false
is_decimal (c ∷ []) = is_ascii_digit c
is_decimal (c ∷ d ∷ ds) = not (c == 48) && all_ascii_digits (c ∷ d ∷ ds)

-- a decimal number of at most this
unfoldable pub number_of : ℕ → List ℕ → Option ℕ
number_of most text = if is_decimal text && nat_le (digits_value 10 text) most then Some (digits_value 10 text) else None

abbrev pub exchange_of : List ℕ → Option ℕ
exchange_of text = number_of (2 ^ 32 - 1) text

-- ---- bytes

abbrev pub decoded : Result (List ℕ) FromHexError → Option (List ℕ)
decoded (Ok bytes) = Some bytes
decoded (Err e) = None

-- the bytes of hexadecimal digits, of which there are some
unfoldable pub bytes_of : List ℕ → Option (List ℕ)
bytes_of [] = None
bytes_of (d ∷ ds) = decoded (decode_of (d ∷ ds))

-- ---- lines

-- the word that this text is
unfoldable pub word_of : List ℕ → Option Word
word_of text =
    if bytes_eq text (codes "trace") then Some word.Trace else (
    if bytes_eq text (codes "config") then Some word.Config else (
    if bytes_eq text (codes "open") then Some word.Open else (
    if bytes_eq text (codes "client") then Some word.Client else (
    if bytes_eq text (codes "up") then Some word.Up else (
    if bytes_eq text (codes "client-end") then Some word.ClientEnd else (
    if bytes_eq text (codes "up-end") then Some word.UpEnd else (
    if bytes_eq text (codes "client-lost") then Some word.ClientLost else (
    if bytes_eq text (codes "up-lost") then Some word.UpLost else (
    if bytes_eq text (codes "up-nodial") then Some word.UpNoDial else (
    if bytes_eq text (codes "answer") then Some word.Answer else (
    if bytes_eq text (codes "close") then Some word.Close else (
    if bytes_eq text (codes "ext") then Some word.Ext else (
    if bytes_eq text (codes "ext-end") then Some word.ExtEnd else (
    if bytes_eq text (codes "ext-lost") then Some word.ExtLost else (
    if bytes_eq text (codes "tick") then Some word.Tick else (
    if bytes_eq text (codes "hold") then Some word.Hold else (
    if bytes_eq text (codes "free") then Some word.Free else (
    if bytes_eq text (codes "stop") then Some word.Stop else (
    None)))))))))))))))))))

-- a word alone
abbrev pub alone : TraceLine → Option (List ℕ) → Option TraceLine
alone line None = Some line
alone line (Some rest) = None

-- one more word
abbrev pub one_more : {A : Type 0} → (List ℕ → Option A) → Option (List ℕ) → Option A
one_more read None = None
one_more read (Some rest) = read rest

-- two more words
abbrev pub both_of : {A B : Type 0} → Option A → Option B → Option (A × B)
both_of (Some a) (Some b) = Some (a, b)
both_of (Some a) None = None
both_of None b = None

abbrev pub two_more : {A B : Type 0} → (List ℕ → Option A) → (List ℕ → Option B) → Option (List ℕ) → Option (A × B)
two_more first second None = None
two_more first second (Some rest) = both_of (first (parted rest).0) (one_more second (parted rest).1)

-- the words that stand behind the first
abbrev pub kind_of : List ℕ → Option TraceLine
kind_of rest = if bytes_eq rest (codes "1 messages") then Some (line.First false) else (if bytes_eq rest (codes "1 bytes") then Some (line.First true) else None)

abbrev pub config_of : List ℕ → Option TraceLine
config_of rest = if list_any (λ b. b == 10) rest then None else Some (line.Config rest)

abbrev pub answer_of : List ℕ → Option (List ℕ)
answer_of rest = if bytes_eq rest (codes "-") then Some [] else bytes_of rest

abbrev pub ending_of : List ℕ → Option Bool
ending_of rest = if bytes_eq rest (codes "clean") then Some true else (if bytes_eq rest (codes "error") then Some false else None)

-- a port: the processor's, or an exchange's client's or upstream's
abbrev pub alone_ext : Option (List ℕ) → Option Port
alone_ext None = Some port.Ext
alone_ext (Some rest) = None

abbrev pub port_by : List ℕ → Option (List ℕ) → Option Port
port_by first rest =
    if bytes_eq first (codes "client") then option_map port.Client (one_more exchange_of rest)
    else (if bytes_eq first (codes "up") then option_map port.Up (one_more exchange_of rest)
    else (if bytes_eq first (codes "ext") then alone_ext rest else None))

abbrev pub port_behind : Option (List ℕ) → Option Port
port_behind None = None
port_behind (Some rest) = port_by (parted rest).0 (parted rest).1

abbrev pub held : Port → TraceLine
held (port.Client x) = line.HoldClient x
held (port.Up x) = line.HoldUp x
held port.Ext = line.HoldExt

abbrev pub freed : Port → TraceLine
freed (port.Client x) = line.FreeClient x
freed (port.Up x) = line.FreeUp x
freed port.Ext = line.FreeExt

-- a line by its first word and what follows it
unfoldable pub line_by : Word → Option (List ℕ) → Option TraceLine
line_by word.Trace rest = one_more kind_of rest
line_by word.Config rest = one_more config_of rest
line_by word.Open rest = alone line.Open rest
line_by word.Client rest = option_map (λ p. line.Client p.0 p.1) (two_more exchange_of bytes_of rest)
line_by word.Up rest = option_map (λ p. line.Up p.0 p.1) (two_more exchange_of bytes_of rest)
line_by word.ClientEnd rest = option_map line.ClientEnd (one_more exchange_of rest)
line_by word.UpEnd rest = option_map line.UpEnd (one_more exchange_of rest)
line_by word.ClientLost rest = option_map line.ClientLost (one_more exchange_of rest)
line_by word.UpLost rest = option_map line.UpLost (one_more exchange_of rest)
line_by word.UpNoDial rest = option_map line.UpNoDial (one_more exchange_of rest)
line_by word.Answer rest = option_map (λ p. line.Answer p.0 p.1) (two_more exchange_of answer_of rest)
line_by word.Close rest = option_map (λ p. line.Close p.0 p.1) (two_more exchange_of ending_of rest)
line_by word.Ext rest = option_map line.Ext (one_more bytes_of rest)
line_by word.ExtEnd rest = alone line.ExtEnd rest
line_by word.ExtLost rest = alone line.ExtLost rest
line_by word.Tick rest = option_map line.Tick (one_more (number_of (2 ^ 64 - 1)) rest)
line_by word.Hold rest = option_map held (port_behind rest)
line_by word.Free rest = option_map freed (port_behind rest)
line_by word.Stop rest = alone line.Stop rest

abbrev pub known_line : Option Word → Option (List ℕ) → Option TraceLine
known_line None rest = None
known_line (Some first) rest = line_by first rest

-- what a line says, without its line feed
unfoldable pub line_of : List ℕ → Option TraceLine
line_of text = known_line (word_of (parted text).0) (parted text).1
