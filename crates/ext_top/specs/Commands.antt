-- The words of the command line.
use Rattle.std.specs.Prelude.{ℕ, ◌-◌, ◌^◌, Bool, true, false, List, [], ◌∷◌, codes, Option, Some, None, option_map, nat_lt, bytes_eq, if◌then◌else◌}
use Rattle.trace_format.specs.Lines.{number_of, both_of}
use Rattle.ext_top.specs.Scan.{stripped}
use Rattle.ext_top.specs.declared.words.Address.{Address}
use Rattle.ext_top.specs.declared.words.Command.{Command}
use Rattle.ext_top.specs.declared.words.Command.TheVariants as command

abbrev pub above_zero : Option ℕ → Option ℕ
above_zero None = None
above_zero (Some n) = if nat_lt 0 n then Some n else None

-- a decimal number from 1 to a limit
abbrev pub within : ℕ → List ℕ → Option ℕ
within most text = above_zero (number_of most text)

abbrev pub count_of : List ℕ → Option ℕ
count_of text = within 100000 text

abbrev pub at_port : Bool → Option (List ℕ) → Option Address
at_port named None = None
at_port named (Some digits) = option_map (λ port. record { named = named; port = port }) (within 65535 digits)

abbrev pub or_address : Option Address → Option Address → Option Address
or_address (Some a) b = Some a
or_address None b = b

-- the port behind the number or the name of this machine
abbrev pub address_of : List ℕ → Option Address
address_of text = or_address (at_port false (stripped (codes "127.0.0.1:") text)) (at_port true (stripped (codes "localhost:") text))

abbrev pub one_word : List ℕ → Option Command
one_word word = if bytes_eq word (codes "replay") then Some command.Replay else None

abbrev pub shown : List ℕ → Option Command
shown word =
    if bytes_eq word (codes "answer") then Some command.ShowAnswer
    else (if bytes_eq word (codes "ask") then Some command.ShowAsk
    else (if bytes_eq word (codes "h2") then Some command.ShowH2 else None))

abbrev pub two_words : List ℕ → List ℕ → Option Command
two_words word what = if bytes_eq word (codes "show") then shown what else None

abbrev pub loaded : List ℕ → List ℕ → Option Command
loaded seed count = option_map (λ p. command.Load p.0 p.1) (both_of (number_of (2 ^ 64 - 1) seed) (count_of count))

abbrev pub processing : List ℕ → List ℕ → Option Command
processing listen count = option_map (λ p. command.Processor p.0 p.1) (both_of (address_of listen) (count_of count))

abbrev pub proxying : List ℕ → List ℕ → List ℕ → List ℕ → Option Command
proxying listen upstream processor count =
    option_map (λ p. command.Proxy p.0 p.1.0 p.1.1.0 p.1.1.1) (both_of (address_of listen) (both_of (address_of upstream) (both_of (address_of processor) (count_of count))))

abbrev pub three_words : List ℕ → List ℕ → List ℕ → Option Command
three_words word a count =
    if bytes_eq word (codes "load") then loaded a count
    else (if bytes_eq word (codes "processor") then processing a count else None)

abbrev pub five_words : List ℕ → List ℕ → List ℕ → List ℕ → List ℕ → Option Command
five_words word listen upstream processor count = if bytes_eq word (codes "proxy") then proxying listen upstream processor count else None

-- what the words ask for
unfoldable pub command_of : List (List ℕ) → Option Command
command_of (word ∷ []) = one_word word
command_of (word ∷ a ∷ []) = two_words word a
command_of (word ∷ a ∷ b ∷ []) = three_words word a b
command_of (word ∷ a ∷ b ∷ c ∷ d ∷ []) = five_words word a b c d
command_of words = None
