-- The first fault of a record, both ways.
use Rattle.std.proofs.Common.{◌≡◌, ℕ, zero, suc, ◌+◌, ◌-◌, ◌*◌, ◌/◌, ◌%◌, ◌^◌, ◌<◌, ◌≤◌, Bool, true, false, cond, ltb, eqb, ◌||◌, List, [], ◌∷◌, ◌++◌, length, take, drop, Result, Ok, Err, refl, sym, ap, subst, ◌∙◌, arith, inl, inr, ◌⊎◌}
use Rattle.std.specs.Int.{Width, w32, w64, byte_len, from_le_bytes}
use Rattle.std.proofs.lemmas.Bool.{ltb-true, ltb-false, le-ltb, lt-ltb, eqb-true, eqb-false, eq-eqb, ne_eqb, or_cases, or_parts, or_left, or_right}
use Rattle.pb_wire.specs.declared.fault.Cause.{Cause}
use Rattle.pb_wire.specs.declared.fault.Cause.TheVariants.{Truncated, LongVarint, BadTag, Group}
use Rattle.pb_wire.specs.Records.{varint, fixed64, span, fixed32, IsVarint, AllHigh, IsCut, IsLong, TagAt, IsNumber, EndsWithin, FirstFault}
use Rattle.pb_wire.specs.Reading.{◌>>=◌, groups_at, varint_at, fixed_at, tag_of, content_at, entry_at}
use Rattle.pb_wire.proofs.Spelled.{varint_takes, varint_again, tag_takes, tag_again, chosen}

abbrev failed : {A : Type 0} → Cause → Result A Cause
failed c = Err c

err_is : {A : Type 0} (c d : Cause) → failed {A = A} c ≡ failed d → c ≡ d
err_is c d e = cc

-- a step that failed, or the next one
bind_err : {A B : Type 0} (r : Result A Cause) (f : A → Result B Cause) (c : Cause) → (r >>= f) ≡ Err c → (r ≡ Err c) ⊎ ((x : A) × (r ≡ Ok x) × (f x ≡ Err c))
bind_err (Ok x) f c e = inr (x, refl, e)
bind_err {A} {B} (Err d) f c e = inl (ap failed (err_is {A = B} d c e))

-- ---- varints

pub record LongIn (j : ℕ) (bytes : List ℕ) : Type 0 where
  pub front : List ℕ
  pub last : ℕ
  pub rest : List ℕ
  pub parts : bytes ≡ front ++ last ∷ rest
  pub len : length front ≡ j
  pub high : AllHigh front
  pub above : 1 < last

cut_again : (j : ℕ) (bytes : List ℕ) → length bytes ≤ j → AllHigh bytes → groups_at (suc j) bytes ≡ Err Truncated
unfolding groups_at
cut_again j [] h a = refl
cut_again zero (b ∷ bytes) h a = absurd (omega arith)
cut_again (suc j) (b ∷ bytes) h a = rw (le-ltb b 128 a.0, cut_again j bytes (omega arith) a.1) refl

long_again : (j : ℕ) (front : List ℕ) (b : ℕ) (rest : List ℕ) → length front ≡ j → AllHigh front → 1 < b → groups_at (suc j) (front ++ b ∷ rest) ≡ Err LongVarint
unfolding groups_at
long_again zero [] b rest e a lt = rw (lt-ltb 1 b lt) refl
long_again (suc j) [] b rest e a lt = absurd (omega arith)
long_again zero (f ∷ front) b rest e a lt = absurd (omega arith)
long_again (suc j) (f ∷ front) b rest e a lt = rw (le-ltb f 128 a.0, long_again j front b rest (omega arith) a.1 lt) refl

-- how a varint fails
abbrev pub HowVarint : ℕ → List ℕ → Cause → Type 0
HowVarint j bytes c = ((c ≡ Truncated) × (length bytes ≤ j) × AllHigh bytes) ⊎ ((c ≡ LongVarint) × LongIn j bytes)

how_more : (j b : ℕ) (bytes : List ℕ) (c : Cause) → 128 ≤ b → HowVarint j bytes c → HowVarint (suc j) (b ∷ bytes) c
how_more j b bytes c le (inl h) = inl (h.0, omega (arith, h.1), (le, h.2))
how_more j b bytes c le (inr h) = inr (h.0, record { front = b ∷ h.1.front; last = h.1.last; rest = h.1.rest; parts = ap (λ (s : List ℕ). b ∷ s) h.1.parts; len = omega (arith, h.1.len); high = (le, h.1.high); above = h.1.above })

groups_fault : (j : ℕ) (bytes : List ℕ) (c : Cause) → groups_at (suc j) bytes ≡ Err c → HowVarint j bytes c
unfolding groups_at
groups_fault j [] c e = inl (sym (err_is Truncated c e), omega arith, tt)
groups_fault zero (b ∷ bytes) c e =
    elim (chosen (ltb 1 b) (Err LongVarint) (Ok (b, bytes)) (failed c) e) [
      | inl p ↦ inr (sym (err_is LongVarint c p.1), record { front = []; last = b; rest = bytes; parts = refl; len = refl; high = tt; above = ltb-true 1 b p.0 })
      | inr p ↦ let no = p.1 in absurd cc
    ]
groups_fault (suc j) (b ∷ bytes) c e =
    elim (chosen (ltb b 128) (Ok (b, bytes)) (groups_at (suc j) bytes >>= λ high. Ok (b - 128 + 128 * high.0, high.1)) (failed c) e) [
      | inl p ↦ let no = p.1 in absurd cc
      | inr p ↦ elim (bind_err (groups_at (suc j) bytes) (λ high. Ok (b - 128 + 128 * high.0, high.1)) c p.1) [
        | inl q ↦ how_more j b bytes c (ltb-false b 128 p.0) (groups_fault j bytes c q)
        | inr q ↦ let no = q.2 in absurd cc
      ]
    ]

is_long : (bytes : List ℕ) → LongIn 9 bytes → IsLong bytes
is_long bytes h = record { front = h.front; tenth = h.last; rest = h.rest; parts = h.parts; nine = h.len; high = h.high; above = h.above }

-- a varint fails as one of these two
varint_fault : (bytes : List ℕ) (c : Cause) → varint_at bytes ≡ Err c → ((c ≡ Truncated) × IsCut bytes) ⊎ ((c ≡ LongVarint) × IsLong bytes)
varint_fault bytes c e = elim (groups_fault 9 bytes c e) [ inl h ↦ inl (h.0, (omega (arith, h.1), h.2)) | inr h ↦ inr (h.0, is_long bytes h.1) ]

cut_fault : (bytes : List ℕ) → IsCut bytes → varint_at bytes ≡ Err Truncated
cut_fault bytes h = cut_again 9 bytes (omega (arith, h.0)) h.1

long_fault : (bytes : List ℕ) → IsLong bytes → varint_at bytes ≡ Err LongVarint
long_fault bytes h = rw h.parts (long_again 9 h.front h.tenth h.rest h.nine h.high h.above)

-- ---- tags

tag_fault : (number kind : ℕ) (c : Cause) → kind < 8 → tag_of (8 * number + kind) ≡ Err c → ((c ≡ BadTag) × ((number ≡ 0) ⊎ ((2 ^ 29 ≤ number) ⊎ (6 ≤ kind)))) ⊎ ((c ≡ Group) × IsNumber number × ((kind ≡ 3) ⊎ (kind ≡ 4)))
unfolding tag_of
tag_fault number kind c below e =
    let q : (8 * number + kind) / 8 ≡ number = omega arith in
    let r : (8 * number + kind) % 8 ≡ kind = omega arith in
    let at = rw (q, r) at e in
    elim (chosen (eqb number 0 || ltb (2 ^ 29 - 1) number || ltb 5 kind) (failed {A = ℕ × ℕ} BadTag) (cond (eqb kind 3 || eqb kind 4) (Err Group) (Ok (number, kind))) (failed c) at) [
      | inl p ↦ inl (
        sym (err_is BadTag c p.1),
        elim (or_cases (eqb number 0 || ltb (2 ^ 29 - 1) number) (ltb 5 kind) p.0) [
          | inl h ↦ elim (or_cases (eqb number 0) (ltb (2 ^ 29 - 1) number) h) [
            | inl z ↦ inl (eqb-true number 0 z)
            | inr w ↦ let big = ltb-true (2 ^ 29 - 1) number w in inr (inl (omega arith))
          ]
          | inr h ↦ let big = ltb-true 5 kind h in inr (inr (omega arith))
        ],
      )
      | inr p ↦
          let parts = or_parts (eqb number 0 || ltb (2 ^ 29 - 1) number) (ltb 5 kind) p.0 in
          let two = or_parts (eqb number 0) (ltb (2 ^ 29 - 1) number) parts.0 in
          let some = eqb-false number 0 two.0 in
          let high = ltb-false (2 ^ 29 - 1) number two.1 in
          elim (chosen (eqb kind 3 || eqb kind 4) (failed {A = ℕ × ℕ} Group) (Ok (number, kind)) (failed c) p.1) [
            | inl g ↦ inr (sym (err_is Group c g.1), (omega arith, omega arith), elim (or_cases (eqb kind 3) (eqb kind 4) g.0) [ inl k ↦ inl (eqb-true kind 3 k) | inr k ↦ inr (eqb-true kind 4 k) ])
            | inr g ↦ let no = g.1 in absurd cc
          ]
    ]

-- ---- what stands behind a tag

fixed_fault : (w : Width) (bytes : List ℕ) (c : Cause) → fixed_at w bytes ≡ Err c → (c ≡ Truncated) × (length bytes < byte_len w)
fixed_fault w bytes c e =
    elim (chosen (ltb (length bytes) (byte_len w)) (Err Truncated) (Ok (from_le_bytes w (take (byte_len w) bytes), drop (byte_len w) bytes)) (failed c) e) [
      | inl p ↦ (sym (err_is Truncated c p.1), ltb-true _ _ p.0)
      | inr p ↦ let no = p.1 in absurd cc
    ]

abbrev HowContent : ℕ → List ℕ → Cause → Type 0
HowContent kind bytes c = ((c ≡ Truncated) × EndsWithin kind bytes) ⊎ ((c ≡ LongVarint) × ((kind ≡ 0) ⊎ (kind ≡ 2)) × IsLong bytes)

zero_fault : (bytes : List ℕ) (c : Cause) → content_at 0 bytes ≡ Err c → HowContent 0 bytes c
unfolding content_at
zero_fault bytes c e =
    elim (bind_err (varint_at bytes) (λ n. Ok (varint n.0, n.1)) c e) [
      | inl q ↦ elim (varint_fault bytes c q) [ inl h ↦ inl (h.0, inl (refl, h.1)) | inr h ↦ inr (h.0, inl refl, h.1) ]
      | inr q ↦ let no = q.2 in absurd cc
    ]

one_fault : (bytes : List ℕ) (c : Cause) → content_at 1 bytes ≡ Err c → HowContent 1 bytes c
unfolding content_at
one_fault bytes c e =
    elim (bind_err (fixed_at w64 bytes) (λ n. Ok (fixed64 n.0, n.1)) c e) [
      | inl q ↦ let h = fixed_fault w64 bytes c q in inl (h.0, inr (inl (refl, h.1)))
      | inr q ↦ let no = q.2 in absurd cc
    ]

two_fault : (bytes : List ℕ) (c : Cause) → content_at 2 bytes ≡ Err c → HowContent 2 bytes c
unfolding content_at
two_fault bytes c e =
    elim (bind_err (varint_at bytes) (λ n. cond (ltb (length n.1) n.0) (Err Truncated) (Ok (span (take n.0 n.1), drop n.0 n.1))) c e) [
      | inl q ↦ elim (varint_fault bytes c q) [ inl h ↦ inl (h.0, inr (inr (inl (refl, h.1)))) | inr h ↦ inr (h.0, inr refl, h.1) ]
      | inr q ↦ elim (chosen (ltb (length q.0.1) q.0.0) (Err Truncated) (Ok (span (take q.0.0 q.0.1), drop q.0.0 q.0.1)) (failed c) q.2) [
        | inl p ↦ let t = varint_takes bytes q.0 q.1 in inl (sym (err_is Truncated c p.1), inr (inr (inr (inl (refl, t.0, q.0.1, q.0.0, t.1, t.2, ltb-true _ _ p.0)))))
        | inr p ↦ let no = p.1 in absurd cc
      ]
    ]

five_fault : (bytes : List ℕ) (c : Cause) → content_at 5 bytes ≡ Err c → HowContent 5 bytes c
unfolding content_at
five_fault bytes c e =
    elim (bind_err (fixed_at w32 bytes) (λ n. Ok (fixed32 n.0, n.1)) c e) [
      | inl q ↦ let h = fixed_fault w32 bytes c q in inl (h.0, inr (inr (inr (inr (refl, h.1)))))
      | inr q ↦ let no = q.2 in absurd cc
    ]

content_fault : (kind : ℕ) (bytes : List ℕ) (c : Cause) → (kind ≡ 0) ⊎ ((kind ≡ 1) ⊎ ((kind ≡ 2) ⊎ (kind ≡ 5))) → content_at kind bytes ≡ Err c → HowContent kind bytes c
content_fault kind bytes c known e =
    let P : ℕ → Type 0 = λ k. content_at k bytes ≡ Err c → HowContent k bytes c in
    elim known [
      | inl k ↦ subst P (sym k) (zero_fault bytes c) e
      | inr o ↦ elim o [
        | inl k ↦ subst P (sym k) (one_fault bytes c) e
        | inr o ↦ elim o [ inl k ↦ subst P (sym k) (two_fault bytes c) e | inr k ↦ subst P (sym k) (five_fault bytes c) e ]
      ]
    ]

-- ---- records

tag_at : (bytes : List ℕ) (x : ℕ × List ℕ) → varint_at bytes ≡ Ok x → (number kind : ℕ) → x.0 ≡ 8 * number + kind → kind < 8 → TagAt bytes number kind x.1
tag_at bytes x e number kind is below = let t = varint_takes bytes x e in record { tag = t.0; is_tag = subst (IsVarint t.0) is t.1; below = below; joined = t.2 }

by_content : (bytes : List ℕ) (number kind : ℕ) (rest : List ℕ) (c : Cause) → TagAt bytes number kind rest → IsNumber number → HowContent kind rest c → FirstFault bytes c
by_content bytes number kind rest c t n (inl h) = subst (FirstFault bytes) (sym h.0) (inr (number, kind, rest, t, n, h.1))
by_content bytes number kind rest c t n (inr h) = subst (FirstFault bytes) (sym h.0) (inr (number, kind, rest, t, n, h.1, h.2))

pub entry_fault : (bytes : List ℕ) (c : Cause) → entry_at bytes ≡ Err c → FirstFault bytes c
unfolding entry_at
entry_fault bytes c e =
    elim (bind_err (varint_at bytes) (λ tag. tag_of tag.0 >>= λ kind. content_at kind.1 tag.1 >>= λ content. Ok (record { number = kind.0; content = content.0 }, content.1)) c e) [
      | inl q ↦ elim (varint_fault bytes c q) [ inl h ↦ subst (FirstFault bytes) (sym h.0) (inl h.1) | inr h ↦ subst (FirstFault bytes) (sym h.0) (inl h.1) ]
      | inr q ↦
          let tag = q.0 in
          let split : tag.0 ≡ 8 * (tag.0 / 8) + tag.0 % 8 = omega arith in
          let below : tag.0 % 8 < 8 = omega arith in
          elim (bind_err (tag_of tag.0) (λ kind. content_at kind.1 tag.1 >>= λ content. Ok (record { number = kind.0; content = content.0 }, content.1)) c q.2) [
            | inl r ↦
                let t = tag_at bytes tag q.1 (tag.0 / 8) (tag.0 % 8) split below in
                elim (tag_fault (tag.0 / 8) (tag.0 % 8) c below (ap tag_of (sym split) ∙ r)) [
                  | inl h ↦ subst (FirstFault bytes) (sym h.0) (tag.0 / 8, tag.0 % 8, tag.1, t, h.1)
                  | inr h ↦ subst (FirstFault bytes) (sym h.0) (tag.0 / 8, tag.0 % 8, tag.1, t, h.1, h.2)
                ]
            | inr r ↦
                let k = tag_takes tag.0 r.0 r.1 in
                let small : r.0.1 < 8 = elim k.known [ inl z ↦ omega arith | inr o ↦ elim o [ inl z ↦ omega arith | inr o ↦ elim o [ inl z ↦ omega arith | inr z ↦ omega arith ] ] ] in
                let t = tag_at bytes tag q.1 r.0.0 r.0.1 k.joined small in
                elim (bind_err (content_at r.0.1 tag.1) (λ content. Ok (record { number = r.0.0; content = content.0 }, content.1)) c r.2) [
                  | inl s ↦ by_content bytes r.0.0 r.0.1 tag.1 c t (k.low, k.high) (content_fault r.0.1 tag.1 c k.known s)
                  | inr s ↦ let no = s.2 in absurd cc
                ]
          ]
    ]

-- ---- and each such fault is answered

abbrev pub Known : ℕ → Type 0
Known kind = (kind ≡ 0) ⊎ ((kind ≡ 1) ⊎ ((kind ≡ 2) ⊎ (kind ≡ 5)))

fixed_short : (w : Width) (bytes : List ℕ) → length bytes < byte_len w → fixed_at w bytes ≡ Err Truncated
fixed_short w bytes lt = rw (lt-ltb (length bytes) (byte_len w) lt) refl

ends_again : (kind : ℕ) (rest : List ℕ) → EndsWithin kind rest → Known kind × (content_at kind rest ≡ Err Truncated)
unfolding content_at
ends_again kind rest (inl h) = (inl h.0, subst (λ (k : ℕ). content_at k rest ≡ Err Truncated) (sym h.0) (rw (cut_fault rest h.1) refl))
ends_again kind rest (inr (inl h)) = (inr (inl h.0), subst (λ (k : ℕ). content_at k rest ≡ Err Truncated) (sym h.0) (rw (fixed_short w64 rest h.1) refl))
ends_again kind rest (inr (inr (inl h))) = (inr (inr (inl h.0)), subst (λ (k : ℕ). content_at k rest ≡ Err Truncated) (sym h.0) (rw (cut_fault rest h.1) refl))
ends_again kind rest (inr (inr (inr (inl h)))) = (inr (inr (inl h.0)), subst (λ (k : ℕ). content_at k rest ≡ Err Truncated) (sym h.0) (ap (content_at 2) h.5 ∙ rw (varint_again h.1 h.2 h.3 h.4, lt-ltb (length h.2) h.3 h.6) refl))
ends_again kind rest (inr (inr (inr (inr h)))) = (inr (inr (inr h.0)), subst (λ (k : ℕ). content_at k rest ≡ Err Truncated) (sym h.0) (rw (fixed_short w32 rest h.1) refl))

long_behind : (kind : ℕ) (rest : List ℕ) → (kind ≡ 0) ⊎ (kind ≡ 2) → IsLong rest → Known kind × (content_at kind rest ≡ Err LongVarint)
unfolding content_at
long_behind kind rest (inl k) h = (inl k, subst (λ (k : ℕ). content_at k rest ≡ Err LongVarint) (sym k) (rw (long_fault rest h) refl))
long_behind kind rest (inr k) h = (inr (inr (inl k)), subst (λ (k : ℕ). content_at k rest ≡ Err LongVarint) (sym k) (rw (long_fault rest h) refl))

bad_tag : (number kind : ℕ) → kind < 8 → (number ≡ 0) ⊎ ((2 ^ 29 ≤ number) ⊎ (6 ≤ kind)) → tag_of (8 * number + kind) ≡ Err BadTag
unfolding tag_of
bad_tag number kind below h =
    let q : (8 * number + kind) / 8 ≡ number = omega arith in
    let r : (8 * number + kind) % 8 ≡ kind = omega arith in
    let bad : (eqb number 0 || ltb (2 ^ 29 - 1) number || ltb 5 kind) ≡ true = elim h [
      | inl z ↦ rw (eq-eqb number 0 z) refl
      | inr o ↦ elim o [
        | inl big ↦ or_left _ _ (or_right _ _ (lt-ltb (2 ^ 29 - 1) number (omega arith)))
        | inr six ↦ or_right _ _ (lt-ltb 5 kind (omega arith))
      ]
    ] in
    rw (q, r, bad) refl

group_tag : (number kind : ℕ) → kind < 8 → IsNumber number → (kind ≡ 3) ⊎ (kind ≡ 4) → tag_of (8 * number + kind) ≡ Err Group
unfolding tag_of
group_tag number kind below n h =
    let q : (8 * number + kind) / 8 ≡ number = omega arith in
    let r : (8 * number + kind) % 8 ≡ kind = omega arith in
    let some : eqb number 0 ≡ false = ne_eqb number 0 (omega arith) in
    let within : ltb (2 ^ 29 - 1) number ≡ false = le-ltb (2 ^ 29 - 1) number (omega arith) in
    rw (q, r, some, within) (elim h [ inl k ↦ rw k refl | inr k ↦ rw k refl ])

-- an entry whose tag is read
behind_tag : (bytes : List ℕ) (number kind : ℕ) (rest : List ℕ) (c : Cause) → TagAt bytes number kind rest → IsNumber number → Known kind × (content_at kind rest ≡ Err c) → entry_at bytes ≡ Err c
unfolding entry_at
behind_tag bytes number kind rest c t n h = ap entry_at t.joined ∙ rw (varint_again t.tag rest (8 * number + kind) t.is_tag, tag_again number kind n.0 n.1 h.0, h.1) refl

at_tag : (bytes : List ℕ) (number kind : ℕ) (rest : List ℕ) (c : Cause) → TagAt bytes number kind rest → tag_of (8 * number + kind) ≡ Err c → entry_at bytes ≡ Err c
unfolding entry_at
at_tag bytes number kind rest c t h = ap entry_at t.joined ∙ rw (varint_again t.tag rest (8 * number + kind) t.is_tag, h) refl

in_tag : (bytes : List ℕ) (c : Cause) → varint_at bytes ≡ Err c → entry_at bytes ≡ Err c
unfolding entry_at
in_tag bytes c h = rw h refl

pub fault_again : (bytes : List ℕ) (c : Cause) → FirstFault bytes c → entry_at bytes ≡ Err c
fault_again bytes Truncated (inl h) = in_tag bytes Truncated (cut_fault bytes h)
fault_again bytes Truncated (inr h) = behind_tag bytes h.0 h.1 h.2 Truncated h.3 h.4 (ends_again h.1 h.2 h.5)
fault_again bytes LongVarint (inl h) = in_tag bytes LongVarint (long_fault bytes h)
fault_again bytes LongVarint (inr h) = behind_tag bytes h.0 h.1 h.2 LongVarint h.3 h.4 (long_behind h.1 h.2 h.5 h.6)
fault_again bytes BadTag h = at_tag bytes h.0 h.1 h.2 BadTag h.3 (bad_tag h.0 h.1 h.3.below h.4)
fault_again bytes Group h = at_tag bytes h.0 h.1 h.2 Group h.3 (group_tag h.0 h.1 h.3.below h.4 h.5)
