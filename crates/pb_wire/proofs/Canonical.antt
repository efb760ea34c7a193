-- The canonical spelling of a record spells it.
use Rattle.std.proofs.Common.{◌≡◌, ℕ, zero, suc, ◌+◌, ◌*◌, ◌/◌, ◌%◌, ◌^◌, ◌<◌, ◌≤◌, List, [], ◌∷◌, ◌++◌, length, get_or, refl, sym, ap, subst, ◌∙◌, arith, inl, inr}
use Rattle.std.specs.Int.{w32, w64, to_le_bytes}
use Rattle.std.proofs.lemmas.Bool.{cases_lt}
use Rattle.std.proofs.lemmas.Nat.{div_below, from_le_bytes-to_le_bytes_4, from_le_bytes-to_le_bytes_8}
use Rattle.std.proofs.lemmas.Grind.{pow_more}
use Rattle.pb_wire.specs.Records.{Content, varint, fixed64, span, fixed32, Entry, SpellsNumber, IsVarint, Spells}
use Rattle.pb_wire.specs.Canonical.{shortest, number_record, bytes_record, content_record, record_spelling, ContentFits, IsSpellable}
use Rattle.pb_wire.proofs.Shortest.{shortest_last, shortest_more}

-- at most j groups more, and the last of these at most 1
record Short (j n : ℕ) : Type 0 where
  pub spells : SpellsNumber (shortest n) n
  pub len : length (shortest n) ≤ suc j
  pub last : get_or (shortest n) j 0 ≤ 1

spells_more : (b : ℕ) (front : List ℕ) (n high : ℕ) → 128 ≤ b → n + 128 ≡ b + 128 * high → SpellsNumber front high → SpellsNumber (b ∷ front) n
spells_more b [] n high le e h = absurd h
spells_more b (c ∷ front) n high le e h = (le, high, e, h)

short : (j n : ℕ) → n < 2 * 128 ^ j → Short j n
short zero n lt = let e = shortest_last n (omega arith) in record { spells = rw e (omega arith, refl); len = rw e (omega arith); last = rw e (omega arith) }
short (suc j) n lt =
    elim (cases_lt n 128) [
      | inl low ↦ let e = shortest_last n low in record { spells = rw e (low, refl); len = rw e (omega arith); last = rw e (omega arith) }
      | inr le ↦
          let q : suc j ≡ j + 1 = omega arith in
          let power : 128 ^ suc j ≡ 128 ^ j * 128 = ap (λ (k : ℕ). 128 ^ k) q ∙ pow_more 128 j in
          let bound : n < 2 * 128 ^ j * 128 = omega (arith, power) in
          let s = short j (n / 128) (div_below n 128 (2 * 128 ^ j) (omega arith) bound) in
          let e = shortest_more n le in
          record {
            spells = rw e (spells_more (n % 128 + 128) (shortest (n / 128)) n (n / 128) (omega arith) (omega arith) s.spells);
            len = rw e (omega (arith, s.len));
            last = rw e s.last;
          }
    ]

pub shortest_is : (n : ℕ) → n < 2 ^ 64 → IsVarint (shortest n) n
shortest_is n lt = let s = short 9 n lt in record { spells = s.spells; short = omega (arith, s.len); tenth = s.last }

-- ---- records

-- the shortest varint of a tag
tag_is : (number kind : ℕ) → number < 2 ^ 29 → kind < 8 → IsVarint (shortest (8 * number + kind)) (8 * number + kind)
tag_is number kind high small = shortest_is (8 * number + kind) (omega arith)

record_spells : (number : ℕ) (c : Content) → 0 < number → number < 2 ^ 29 → ContentFits c → Spells (content_record number c) (record { number = number; content = c })
unfolding content_record number_record bytes_record
record_spells number (varint n) low high h =
    let none : 8 * number + 0 ≡ 8 * number = omega arith in
    record { tag = shortest (8 * number); behind = shortest n; is_tag = subst (λ k. IsVarint (shortest k) (8 * number + 0)) none (tag_is number 0 high (omega arith)); is_behind = shortest_is n h; low = low; high = high; joined = refl }
record_spells number (fixed64 n) low high h =
    record { tag = shortest (8 * number + 1); behind = to_le_bytes w64 n; is_tag = tag_is number 1 high (omega arith); is_behind = (refl, sym (from_le_bytes-to_le_bytes_8 n h)); low = low; high = high; joined = refl }
record_spells number (span bytes) low high h =
    record { tag = shortest (8 * number + 2); behind = shortest (length bytes) ++ bytes; is_tag = tag_is number 2 high (omega arith); is_behind = (shortest (length bytes), shortest_is (length bytes) h, refl); low = low; high = high; joined = refl }
record_spells number (fixed32 n) low high h =
    record { tag = shortest (8 * number + 5); behind = to_le_bytes w32 n; is_tag = tag_is number 5 high (omega arith); is_behind = (refl, sym (from_le_bytes-to_le_bytes_4 n h)); low = low; high = high; joined = refl }

pub entry_spells : (e : Entry) → IsSpellable e → Spells (record_spelling e) e
entry_spells e h = record_spells e.number e.content h.low h.high h.content
