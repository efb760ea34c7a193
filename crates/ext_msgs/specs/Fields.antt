-- The fields of a message, each by all records of the message.
use Rattle.std.specs.Prelude.{ℕ, ℤ, ◌%◌, ◌^◌, Bool, List, [], ◌∷◌, Option, Some, None, option_map, ◌==◌, not, reverse, filter, if◌then◌else◌}
use Rattle.std.specs.List.{filter_map, flat_map}
use Rattle.std.specs.Int.{w32, w64, cast_signed}
use Rattle.pb_wire.specs.Records.{Content, varint, span, Entry}
use Rattle.pb_wire.specs.Cursor.{Placed}
use Rattle.pb_wire.specs.Walk.{placed, entries}

abbrev pub bytes_in : Content → Option (List ℕ)
bytes_in (span bytes) = Some bytes
bytes_in other = None

abbrev pub number_in : Content → Option ℕ
number_in (varint n) = Some n
number_in other = None

-- what a record says as field n of this type: another number or type says nothing
abbrev pub span_at : ℕ → Entry → Option (List ℕ)
span_at n e = if e.number == n then bytes_in e.content else None

abbrev pub varint_at : ℕ → Entry → Option ℕ
varint_at n e = if e.number == n then number_in e.content else None

-- all occurrences of a field, in order
abbrev pub spans : ℕ → List Entry → List (List ℕ)
spans n es = filter_map (span_at n) es

abbrev pub varints : ℕ → List Entry → List ℕ
varints n es = filter_map (varint_at n) es

abbrev pub last_or : {A : Type 0} → A → List A → A
last_or d [] = d
last_or d (x ∷ xs) = last_or x xs

-- bytes, text or a number: the last occurrence, or the default
abbrev pub bytes_of : ℕ → List Entry → List ℕ
bytes_of n es = last_or [] (spans n es)

abbrev pub number_of : ℕ → List Entry → ℕ
number_of n es = last_or 0 (varints n es)

-- an embedded message: the joined records of its occurrences
abbrev pub inside : ℕ → List Entry → List Entry
inside n es = flat_map entries (spans n es)

-- there where the field occurs
abbrev pub if_any : {A : Type 0} → List (List ℕ) → A → Option A
if_any [] x = None
if_any (b ∷ bs) x = Some x

-- a bool is true where its number isn't 0
abbrev pub is_set : ℕ → Bool
is_set n = not (n == 0)

-- a number of 32 bits is the low ones
abbrev pub low : ℕ → ℕ
low n = n % 2 ^ 32

-- as two's complement
abbrev pub int32 : ℕ → ℤ
int32 n = cast_signed w32 (low n)

abbrev pub int64 : ℕ → ℤ
int64 n = cast_signed w64 n

-- ---- oneofs. A test gives the number of the member that a record sets, or 0.

-- the front that passes
abbrev pub front_while : {X : Type 0} → (X → Bool) → List X → List X
front_while p [] = []
front_while p (x ∷ xs) = if p x then x ∷ front_while p xs else []

-- the member set last, and its occurrences since a different one was set
abbrev pub latest_in : (Entry → ℕ) → List Entry → ℕ × List Entry
latest_in member [] = (0, [])
latest_in member (e ∷ es) = (member e, reverse (e ∷ front_while (λ other. member other == member e) es))

abbrev pub latest : (Entry → ℕ) → List Entry → ℕ × List Entry
latest member es = latest_in member (reverse (filter (λ e. not (member e == 0)) es))

-- ---- places

abbrev pub place_at : ℕ → Placed → Option ℕ
place_at n p = option_map (λ bytes. p.place) (span_at n p.entry)

-- the place of the last record that is field n, or 0, among bytes that end at end
abbrev pub last_place : ℕ → ℕ → List ℕ → ℕ
last_place n end bytes = last_or 0 (filter_map (place_at n) (placed end bytes))
