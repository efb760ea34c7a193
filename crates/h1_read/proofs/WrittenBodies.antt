-- Chunks and trailers that were written are read back.
use Rattle.std.proofs.Common.{sym, ◌∙◌, ap, subst, refl, arith, append_assoc, length-append, take_all, inl, inr, eqb-true, le-ltb, ltb-true, ltb-false, le-leb}
use Rattle.std.proofs.lemmas.Bool.{eqb-false}
use Rattle.std.proofs.lemmas.Nat.{div_below}
use Rattle.std.proofs.lemmas.Fmt.{digits_is_IsNumeral}
use Rattle.std.proofs.lemmas.List.{take-append-le, take-append-drop, drop-append-le, drop_all}
use Rattle.std.specs.Prelude.{ℕ, zero, suc, ◌≡◌, ◌+◌, ◌-◌, ◌/◌, ◌%◌, ◌^◌, ◌<◌, ◌≤◌, ◌⊎◌, Bool, true, false, cond, if◌then◌else◌, List, [], ◌∷◌, ◌++◌, length, take, drop, map, flat_map, ◌==◌, nat_lt, None}
use Rattle.std.specs.List.{list_all, AllByRecursion}
use Rattle.std.specs.Char.{is_ascii_hexdigit, digit_value}
use Rattle.std.specs.Str.Parse.{AllDigits, digits_value}
use Rattle.std.specs.Fmt.{digits}
use Rattle.ext_msgs.specs.declared.lists.Field.{Field}
use Rattle.http_model.specs.Bytes.{crlf, without, owned_names}
use Rattle.http_model.specs.Reading.{Reading, Whole, Partial, Bad, Fault, BadChunk, LongHead, limited, Stays}
use Rattle.http_model.specs.Lines.{chunk_line, chunk_line_at, chunk_line_limit, line, section}
use Rattle.http_model.specs.Heads.{head_limit, field_limit}
use Rattle.http_model.specs.Bodies.{Body, Chunk, Piece, Last, Begun, behind, chunk_end, chunk_data, chunk_behind, chunk, chunks_from, chunked, trailers_read, trailers_behind, whole_body}
use Rattle.http_model.specs.Wire.{hex, hex_onto, hex_digit, chunk_bytes, last_bytes, field_lines}
use Rattle.http_model.proofs.Hexadecimal.{hex_is_digits}
use Rattle.http_model.proofs.LinesStable.{section-stays}
use Rattle.http_model.proofs.Stable.{IsStable}
use Rattle.h1_read.specs.Written.{given, is_writable, is_readable, IsPiece}
use Rattle.h1_read.proofs.WrittenSections.{section_written, written_given, written_whole}
use Rattle.h1_read.proofs.ByLimit.{lt-leb, limited_short, limited_long, at_limit, below_or_not}
use Rattle.h1_read.proofs.Kept.{Found, found_within}
use Rattle.h1_read.proofs.BodyMoves.{behind_both, next_chunk}
use Rattle.h1_read.proofs.ChunkLines.{parts_read, end_of}

-- The size of a chunk

hex_len : (k m n : ℕ) (acc : List ℕ) → n < 16 ^ suc k → length (hex_onto m n acc) ≤ suc k + length acc
hex_len k zero n acc h = omega arith
hex_len zero (suc m) n acc h = by (n / 16 == 0) refl
  where
    none : n / 16 ≡ 0
    none = omega (arith, h)

    by : (b : Bool) → (n / 16 == 0) ≡ b → length {A = ℕ} (elim b [ true ↦ hex_digit n ∷ acc | false ↦ hex_onto m (n / 16) (hex_digit (n % 16) ∷ acc) ]) ≤ 1 + length acc
    by true e = omega arith
    by false e = absurd (eqb-false (n / 16) 0 e none)
hex_len (suc k) (suc m) n acc h = by (n / 16 == 0) (hex_len k m (n / 16) (hex_digit (n % 16) ∷ acc) (div_below n 16 (16 ^ suc k) (omega arith) (omega (arith, h))))
  where
    by : (b : Bool) → length (hex_onto m (n / 16) (hex_digit (n % 16) ∷ acc)) ≤ suc k + length (hex_digit (n % 16) ∷ acc)
        → length {A = ℕ} (elim b [ true ↦ hex_digit n ∷ acc | false ↦ hex_onto m (n / 16) (hex_digit (n % 16) ∷ acc) ]) ≤ suc (suc k) + length acc
    by true e = omega arith
    by false e = omega (arith, e)

hex_short : (n : ℕ) → n < 2 ^ 64 → length (hex n) ≤ 16
unfolding hex
hex_short n h = omega (arith, hex_len 15 (suc n) n [] (omega (arith, h)))

is_hex : (c : ℕ) → digit_value c < 16 → is_ascii_hexdigit c ≡ true
is_hex c h = by (nat_lt c 48) refl (nat_lt c 58) refl (nat_lt c 65) refl (nat_lt c 91) refl (nat_lt c 97) refl (nat_lt c 123) refl h
  where
    large : 36 < 16 → ⊥
    large h = omega (arith, h)

    decimal_digit : 48 ≤ c → c < 58 → is_ascii_hexdigit c ≡ true
    decimal_digit f g = rw (le-leb 48 c f, le-leb c 57 (omega (arith, g))) refl

    capital : 65 ≤ c → c - 55 < 16 → is_ascii_hexdigit c ≡ true
    capital f g = rw (le-leb 48 c (omega (arith, f)), lt-leb 57 c (omega (arith, f)), le-leb 65 c f, le-leb c 70 (omega (arith, f, g))) refl

    small : 97 ≤ c → c - 87 < 16 → is_ascii_hexdigit c ≡ true
    small f g =
        rw (le-leb 48 c (omega (arith, f)), lt-leb 57 c (omega (arith, f)), le-leb 65 c (omega (arith, f)), lt-leb 70 c (omega (arith, f)), le-leb 97 c f, le-leb c 102 (omega (arith, f, g))) refl

    by : (x : Bool) → nat_lt c 48 ≡ x → (y : Bool) → nat_lt c 58 ≡ y → (z : Bool) → nat_lt c 65 ≡ z → (u : Bool) → nat_lt c 91 ≡ u → (v : Bool) → nat_lt c 97 ≡ v
        → (w : Bool) → nat_lt c 123 ≡ w
        → cond x 36 (cond y (c - 48) (cond z 36 (cond u (c - 55) (cond v 36 (cond w (c - 87) 36))))) < 16 → is_ascii_hexdigit c ≡ true
    by true e0 y e1 z e2 u e3 v e4 w e5 h = absurd (large h)
    by false e0 true e1 z e2 u e3 v e4 w e5 h = decimal_digit (ltb-false c 48 e0) (ltb-true c 58 e1)
    by false e0 false e1 true e2 u e3 v e4 w e5 h = absurd (large h)
    by false e0 false e1 false e2 true e3 v e4 w e5 h = capital (ltb-false c 65 e2) h
    by false e0 false e1 false e2 false e3 true e4 w e5 h = absurd (large h)
    by false e0 false e1 false e2 false e3 false e4 true e5 h = small (ltb-false c 97 e4) h
    by false e0 false e1 false e2 false e3 false e4 false e5 h = absurd (large h)

all_hex : (ds : List ℕ) → AllDigits 16 ds → list_all is_ascii_hexdigit ds ≡ true
all_hex [] x = refl
all_hex (c ∷ ds) x = rw (is_hex c x.0, all_hex ds x.1) refl

-- The line of a chunk

size_line : (n : ℕ) → n < 2 ^ 64 → Found chunk_line_limit (λ front. chunk_line_at front (line front)) (hex n ++ crlf) n
size_line n h =
    let numeral = digits_is_IsNumeral 16 false (omega arith) (omega arith) n (omega (arith, h)) in
    let same : hex n ≡ digits 16 false n = hex_is_digits n h in
    record {
      short = omega (arith, hex_short n h, length-append (hex n) crlf);
      always = λ zs.
          ap (λ b. chunk_line_at b (line b)) (regroup (hex n) zs)
          ∙ parts_read (hex n) [] None zs (omega (arith, numeral.0.0, ap length same)) (hex_short n h) (subst (λ d. list_all is_ascii_hexdigit d ≡ true) (sym same) (all_hex (digits 16 false n) numeral.0.1)) refl refl
          ∙ ap (λ k. Whole k zs) (ap (digits_value 16) same ∙ numeral.1);
    }
  where
    regroup : (d zs : List ℕ) → (d ++ crlf) ++ zs ≡ (d ++ end_of [] None) ++ 10 ∷ zs
    regroup d zs = simp append_assoc

pub line_read : (n : ℕ) (rest : List ℕ) → n < 2 ^ 64 → chunk_line ((hex n ++ crlf) ++ rest) ≡ Whole n rest
unfolding chunk_line
line_read n rest h = found_within chunk_line_limit BadChunk (λ front. chunk_line_at front (line front)) (hex n ++ crlf) rest n (size_line n h)

-- Chunks

pub chunk_read : (piece more : List ℕ) → (length piece ≡ 0 → ⊥) → length piece < 2 ^ 64 → chunk (chunk_bytes piece ++ more) ≡ Piece piece more
unfolding chunk chunk_bytes
chunk_read piece more some h =
    ap (λ b. chunk_behind (chunk_line b)) (regroup (hex (length piece)) piece more)
    ∙ ap chunk_behind (line_read (length piece) (piece ++ 13 ∷ 10 ∷ more) h)
    ∙ by (length piece == 0) refl
  where
    regroup : (d p m : List ℕ) → (d ++ crlf ++ p ++ crlf) ++ m ≡ (d ++ crlf) ++ (p ++ 13 ∷ 10 ∷ m)
    regroup d p m = simp append_assoc

    taken : take (length piece) (piece ++ 13 ∷ 10 ∷ more) ≡ piece
    taken = take-append-le (length piece) piece (13 ∷ 10 ∷ more) (omega arith) ∙ take_all (length piece) piece (omega arith)

    left : drop (length piece) (piece ++ 13 ∷ 10 ∷ more) ≡ 13 ∷ 10 ∷ more
    left = drop-append-le (length piece) piece (13 ∷ 10 ∷ more) (omega arith) ∙ ap (λ l. l ++ 13 ∷ 10 ∷ more) (drop_all (length piece) piece (omega arith))

    whole : chunk_data (length piece) (piece ++ 13 ∷ 10 ∷ more) ≡ Piece piece more
    whole =
        ap (λ c. if c then Begun (piece ++ 13 ∷ 10 ∷ more) else chunk_end (take (length piece) (piece ++ 13 ∷ 10 ∷ more)) (drop (length piece) (piece ++ 13 ∷ 10 ∷ more)))
        (le-ltb (length (piece ++ 13 ∷ 10 ∷ more)) (length piece) (omega (arith, length-append piece (13 ∷ 10 ∷ more))))
        ∙ ap (λ t. chunk_end t (drop (length piece) (piece ++ 13 ∷ 10 ∷ more))) taken
        ∙ ap (chunk_end piece) left

    by : (b : Bool) → (length piece == 0) ≡ b
        → ◌≡◌ {A = Chunk} (elim b [ true ↦ Last (piece ++ 13 ∷ 10 ∷ more) | false ↦ chunk_data (length piece) (piece ++ 13 ∷ 10 ∷ more) ]) (Piece piece more)
    by true e = absurd (some (eqb-true (length piece) 0 e))
    by false e = whole

pub last_read : (trailers : List Field) (rest : List ℕ) → chunk (last_bytes trailers ++ rest) ≡ Last (field_lines trailers ++ (crlf ++ rest))
unfolding chunk last_bytes hex
last_read trailers rest =
    ap (λ b. chunk_behind (chunk_line b)) (regroup (field_lines trailers) rest)
    ∙ ap chunk_behind (line_read 0 (field_lines trailers ++ (crlf ++ rest)) (omega arith))
  where
    regroup : (f r : List ℕ) → ((48 ∷ 13 ∷ 10 ∷ []) ++ f ++ crlf) ++ r ≡ (hex 0 ++ crlf) ++ (f ++ (crlf ++ r))
    regroup f r = simp append_assoc

-- A body in chunks

pub chunks_read : (pieces : List (List ℕ)) (trailers : List Field) (rest : List ℕ) → AllByRecursion IsPiece pieces
    → chunked (flat_map chunk_bytes pieces ++ (last_bytes trailers ++ rest)) ≡ behind (flat_map (λ p. p) pieces) (trailers_behind (field_lines trailers ++ (crlf ++ rest)))
chunks_read [] trailers rest x =
    next_chunk (last_bytes trailers ++ rest) ∙ ap (λ c. chunks_from c chunked) (last_read trailers rest)
chunks_read (piece ∷ pieces) trailers rest x =
    let more : List ℕ = flat_map chunk_bytes pieces ++ (last_bytes trailers ++ rest) in
    let left : Body = trailers_behind (field_lines trailers ++ (crlf ++ rest)) in
    ap chunked (append_assoc (chunk_bytes piece) (flat_map chunk_bytes pieces) (last_bytes trailers ++ rest))
    ∙ next_chunk (chunk_bytes piece ++ more)
    ∙ ap (λ c. chunks_from c chunked) (chunk_read piece more x.0.some x.0.fits)
    ∙ ap (behind piece) (chunks_read pieces trailers rest x.1)
    ∙ behind_both piece (flat_map (λ p. p) pieces) left

-- Trailers

pub limited_whole : {A : Type 0} (n : ℕ) (long : Fault) (read : List ℕ → Reading A) → IsStable read → (bytes : List ℕ) (a : A) (rest : List ℕ)
    → limited n long read bytes ≡ Whole a rest → read bytes ≡ Whole a rest
limited_whole {A} n long read stays bytes a rest e = by (below_or_not n (length bytes))
  where
    long_by : (r : Reading A) → read (take n bytes) ≡ r → at_limit long (drop n bytes) r ≡ Whole a rest → read bytes ≡ Whole a rest
    long_by (Whole b others) g h =
        ap read (sym (take-append-drop n bytes))
        ∙ subst (λ r. Stays r (drop n bytes) (read (take n bytes ++ drop n bytes))) g (stays (take n bytes) (drop n bytes)) ∙ h
    long_by Partial g h = absurd cc
    long_by (Bad f) g h = absurd cc

    by : (length bytes < n) ⊎ (n ≤ length bytes) → read bytes ≡ Whole a rest
    by (inl h) = sym (limited_short n long read bytes h) ∙ e
    by (inr h) = long_by (read (take n bytes)) refl (sym (limited_long n long read bytes h) ∙ e)

-- where they are read, they are given back
pub trailers_given : (trailers : List Field) (rest : List ℕ) → list_all is_writable trailers ≡ true
    → (trailers_behind (field_lines trailers ++ (crlf ++ rest))).whole ≡ true
    → trailers_behind (field_lines trailers ++ (crlf ++ rest)) ≡ whole_body [] (without owned_names (map given trailers)) rest
unfolding trailers_behind
trailers_given trailers rest e w = by (limited head_limit LongHead (section BadChunk field_limit) text) refl w
  where
    text : List ℕ
    text = field_lines trailers ++ (crlf ++ rest)

    by : (r : Reading (List Field)) → limited head_limit LongHead (section BadChunk field_limit) text ≡ r → (trailers_read r).whole ≡ true
        → trailers_read (limited head_limit LongHead (section BadChunk field_limit) text) ≡ whole_body [] (without owned_names (map given trailers)) rest
    by (Whole fields others) g w =
        let same = written_given BadChunk field_limit trailers rest fields others
        (sym (section_written BadChunk field_limit trailers rest e) ∙ limited_whole head_limit LongHead (section BadChunk field_limit) (section-stays BadChunk field_limit) text fields others g) in
        ap trailers_read g ∙ ap (λ l. whole_body [] (without owned_names l) others) (sym same.0) ∙ ap (whole_body [] (without owned_names (map given trailers))) (sym same.1)
    by Partial g w = absurd cc
    by (Bad f) g w = absurd cc

-- within the limits they are read
pub trailers_whole : (trailers : List Field) (rest : List ℕ) → list_all is_writable trailers ≡ true → list_all is_readable trailers ≡ true
    → length trailers ≤ field_limit → length (field_lines trailers ++ crlf) ≤ head_limit
    → trailers_behind (field_lines trailers ++ (crlf ++ rest)) ≡ whole_body [] (without owned_names (map given trailers)) rest
unfolding trailers_behind
trailers_whole trailers rest e r few short =
    ap (λ l. trailers_read (limited head_limit LongHead (section BadChunk field_limit) l)) (sym (append_assoc (field_lines trailers) crlf rest))
    ∙ ap trailers_read (found_within head_limit LongHead (section BadChunk field_limit) (field_lines trailers ++ crlf) rest (map given trailers) found)
  where
    found : Found head_limit (section BadChunk field_limit) (field_lines trailers ++ crlf) (map given trailers)
    found = record {
      short = short;
      always = λ zs.
          ap (section BadChunk field_limit) (append_assoc (field_lines trailers) crlf zs)
          ∙ section_written BadChunk field_limit trailers zs e ∙ written_whole BadChunk field_limit trailers zs r few;
    }
