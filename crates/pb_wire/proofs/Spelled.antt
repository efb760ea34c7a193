-- What is read is spelled so, and what is spelled so is read.
use Rattle.std.proofs.Common.{◌≡◌, ℕ, zero, suc, ◌+◌, ◌-◌, ◌*◌, ◌/◌, ◌%◌, ◌^◌, ◌<◌, ◌≤◌, Bool, true, false, cond, ltb, eqb, ◌||◌, List, [], ◌∷◌, ◌++◌, length, get_or, take, drop, Result, Ok, Err, refl, sym, ap, subst, ◌∙◌, arith, append_assoc, inl, inr, ◌⊎◌}
use Rattle.std.specs.Int.{Width, w32, w64, byte_len, from_le_bytes}
use Rattle.std.proofs.lemmas.Bool.{ltb-true, ltb-false, le-ltb, lt-ltb, eqb-false, ne_eqb, or_parts}
use Rattle.std.proofs.lemmas.List.{take_at, drop_at, take-append-drop, length-append, length-take}
use Rattle.pb_wire.specs.declared.fault.Cause.{Cause}
use Rattle.pb_wire.specs.declared.fault.Cause.TheVariants.{Truncated, LongVarint, BadTag, Group}
use Rattle.pb_wire.specs.Records.{Content, varint, fixed64, span, fixed32, Entry, SpellsNumber, IsVarint, kind_of, SpellsContent, Spells}
use Rattle.pb_wire.specs.Reading.{◌>>=◌, groups_at, varint_at, fixed_at, tag_of, content_at, entry_at}

-- the value of a step that did not fail
pub bind_ok : {A B : Type 0} (r : Result A Cause) (f : A → Result B Cause) (y : B) → (r >>= f) ≡ Ok y → (x : A) × (r ≡ Ok x) × (f x ≡ Ok y)
bind_ok (Ok x) f y e = (x, refl, e)
bind_ok (Err d) f y e = absurd cc

-- a test that did not fail
pub guard_ok : {A : Type 0} (b : Bool) (d : Cause) (r : Result A Cause) (y : A) → cond b (Err d) r ≡ Ok y → (b ≡ false) × (r ≡ Ok y)
guard_ok true d r y e = absurd cc
guard_ok false d r y e = (refl, e)

pub chosen : {Z : Type 0} (b : Bool) (x y z : Z) → cond b x y ≡ z → ((b ≡ true) × (x ≡ z)) ⊎ ((b ≡ false) × (y ≡ z))
chosen true x y z e = inl (refl, e)
chosen false x y z e = inr (refl, e)

abbrev done : {A : Type 0} → A → Result A Cause
done x = Ok x

pub ok_is : {A : Type 0} (x y : A) → done x ≡ done y → x ≡ y
ok_is x y e = cc

-- ---- varints

pub record Takes (j : ℕ) (bytes front : List ℕ) (x : ℕ × List ℕ) : Type 0 where
  pub parts : bytes ≡ front ++ x.1
  pub spells : SpellsNumber front x.0
  pub short : length front ≤ suc j
  pub last : get_or front j 0 ≤ 1
  pub some : 0 < length front

spells_more : (b : ℕ) (front : List ℕ) (n : ℕ) → 128 ≤ b → SpellsNumber front n → SpellsNumber (b ∷ front) (b - 128 + 128 * n)
spells_more b [] n le h = absurd h
spells_more b (c ∷ front) n le h = (le, n, omega arith, h)

groups_takes : (j : ℕ) (bytes : List ℕ) (x : ℕ × List ℕ) → groups_at (suc j) bytes ≡ Ok x → (front : List ℕ) × Takes j bytes front x
unfolding groups_at
groups_takes j [] x e = absurd cc
groups_takes zero (b ∷ bytes) x e =
    let g = guard_ok (ltb 1 b) LongVarint (Ok (b, bytes)) x e in
    let h : b ≤ 1 = ltb-false 1 b g.0 in
    subst (λ (y : ℕ × List ℕ). (front : List ℕ) × Takes 0 (b ∷ bytes) front y) (ok_is (b, bytes) x g.1) (b ∷ [], record { parts = refl; spells = (omega arith, refl); short = omega arith; last = h; some = omega arith })
groups_takes (suc j) (b ∷ bytes) x e =
    elim (chosen (ltb b 128) (done (b, bytes)) (groups_at (suc j) bytes >>= λ high. Ok (b - 128 + 128 * high.0, high.1)) (Ok x) e) [
      | inl p ↦ subst (λ (y : ℕ × List ℕ). (front : List ℕ) × Takes (suc j) (b ∷ bytes) front y) (ok_is (b, bytes) x p.1) (b ∷ [], record { parts = refl; spells = (ltb-true b 128 p.0, refl); short = omega arith; last = omega arith; some = omega arith })
      | inr p ↦
          let r = bind_ok (groups_at (suc j) bytes) (λ high. Ok (b - 128 + 128 * high.0, high.1)) x p.1 in
          let t = groups_takes j bytes r.0 r.1 in
          subst (λ (y : ℕ × List ℕ). (front : List ℕ) × Takes (suc j) (b ∷ bytes) front y) (ok_is (b - 128 + 128 * r.0.0, r.0.1) x r.2)
          (b ∷ t.0, record { parts = ap (λ (s : List ℕ). b ∷ s) t.1.parts; spells = spells_more b t.0 r.0.0 (ltb-false b 128 p.0) t.1.spells; short = omega (arith, t.1.short); last = t.1.last; some = omega arith })
    ]

groups_again : (j : ℕ) (front rest : List ℕ) (n : ℕ) → SpellsNumber front n → length front ≤ suc j → get_or front j 0 ≤ 1 → groups_at (suc j) (front ++ rest) ≡ Ok (n, rest)
unfolding groups_at
groups_again j [] rest n h short last = absurd h
groups_again zero (b ∷ []) rest n h short last = rw (le-ltb 1 b last, h.1) refl
groups_again (suc j) (b ∷ []) rest n h short last = rw (lt-ltb b 128 h.0, h.1) refl
groups_again zero (b ∷ c ∷ front) rest n h short last = absurd (omega arith)
groups_again (suc j) (b ∷ c ∷ front) rest n h short last =
    let more = groups_again j (c ∷ front) rest h.1 h.3 (omega arith) last in
    let sum : b - 128 + 128 * h.1 ≡ n = omega (arith, h.0, h.2) in
    rw (le-ltb b 128 h.0, more, sum) refl

pub varint_takes : (bytes : List ℕ) (x : ℕ × List ℕ) → varint_at bytes ≡ Ok x → (front : List ℕ) × IsVarint front x.0 × (bytes ≡ front ++ x.1) × (0 < length front)
varint_takes bytes x e =
    let t = groups_takes 9 bytes x e in
    (t.0, record { spells = t.1.spells; short = omega (arith, t.1.short); tenth = t.1.last }, t.1.parts, t.1.some)

pub varint_again : (front rest : List ℕ) (n : ℕ) → IsVarint front n → varint_at (front ++ rest) ≡ Ok (n, rest)
varint_again front rest n h = groups_again 9 front rest n h.spells (omega (arith, h.short)) h.tenth

-- ---- tags

pub record IsTag (tag number kind : ℕ) : Type 0 where
  pub joined : tag ≡ 8 * number + kind
  pub low : 0 < number
  pub high : number < 2 ^ 29
  pub known : (kind ≡ 0) ⊎ ((kind ≡ 1) ⊎ ((kind ≡ 2) ⊎ (kind ≡ 5)))

known_kind : (k : ℕ) → k ≤ 5 → (k ≡ 3 → ⊥) → (k ≡ 4 → ⊥) → (k ≡ 0) ⊎ ((k ≡ 1) ⊎ ((k ≡ 2) ⊎ (k ≡ 5)))
known_kind zero h a b = inl refl
known_kind (suc zero) h a b = inr (inl refl)
known_kind (suc (suc zero)) h a b = inr (inr (inl refl))
known_kind (suc (suc (suc k))) h a b = inr (inr (inr (omega arith)))

pub tag_takes : (tag : ℕ) (y : ℕ × ℕ) → tag_of tag ≡ Ok y → IsTag tag y.0 y.1
unfolding tag_of
tag_takes tag y e =
    let g = guard_ok (eqb (tag / 8) 0 || ltb (2 ^ 29 - 1) (tag / 8) || ltb 5 (tag % 8)) BadTag (cond (eqb (tag % 8) 3 || eqb (tag % 8) 4) (Err Group) (Ok (tag / 8, tag % 8))) y e in
    let h = guard_ok (eqb (tag % 8) 3 || eqb (tag % 8) 4) Group (Ok (tag / 8, tag % 8)) y g.1 in
    let p = or_parts (eqb (tag / 8) 0 || ltb (2 ^ 29 - 1) (tag / 8)) (ltb 5 (tag % 8)) g.0 in
    let q = or_parts (eqb (tag / 8) 0) (ltb (2 ^ 29 - 1) (tag / 8)) p.0 in
    let r = or_parts (eqb (tag % 8) 3) (eqb (tag % 8) 4) h.0 in
    let some : tag / 8 ≡ 0 → ⊥ = eqb-false (tag / 8) 0 q.0 in
    let high : tag / 8 ≤ 2 ^ 29 - 1 = ltb-false (2 ^ 29 - 1) (tag / 8) q.1 in
    let kind : tag % 8 ≤ 5 = ltb-false 5 (tag % 8) p.1 in
    subst (λ (z : ℕ × ℕ). IsTag tag z.0 z.1) (ok_is (tag / 8, tag % 8) y h.1)
    (record { joined = omega arith; low = omega arith; high = omega arith; known = known_kind (tag % 8) kind (eqb-false (tag % 8) 3 r.0) (eqb-false (tag % 8) 4 r.1) })

pub tag_again : (number kind : ℕ) → 0 < number → number < 2 ^ 29 → (kind ≡ 0) ⊎ ((kind ≡ 1) ⊎ ((kind ≡ 2) ⊎ (kind ≡ 5))) → tag_of (8 * number + kind) ≡ Ok (number, kind)
unfolding tag_of
tag_again number kind low high known =
    let small : kind < 8 = elim known [ inl e ↦ omega arith | inr k ↦ elim k [ inl e ↦ omega arith | inr k ↦ elim k [ inl e ↦ omega arith | inr e ↦ omega arith ] ] ] in
    let q : (8 * number + kind) / 8 ≡ number = omega arith in
    let r : (8 * number + kind) % 8 ≡ kind = omega arith in
    let some : eqb number 0 ≡ false = ne_eqb number 0 (omega arith) in
    let within : ltb (2 ^ 29 - 1) number ≡ false = le-ltb (2 ^ 29 - 1) number (omega arith) in
    rw (q, r, some, within) (elim known [
      | inl e ↦ rw e refl
      | inr k ↦ elim k [ inl e ↦ rw e refl | inr k ↦ elim k [ inl e ↦ rw e refl | inr e ↦ rw e refl ] ]
    ])

-- ---- what stands behind a tag

pub fixed_takes : (w : Width) (bytes : List ℕ) (x : ℕ × List ℕ) → fixed_at w bytes ≡ Ok x → (front : List ℕ) × (length front ≡ byte_len w) × (x.0 ≡ from_le_bytes w front) × (bytes ≡ front ++ x.1)
fixed_takes w bytes x e =
    let n = byte_len w in
    let g = guard_ok (ltb (length bytes) n) Truncated (Ok (from_le_bytes w (take n bytes), drop n bytes)) x e in
    let long : n ≤ length bytes = ltb-false _ _ g.0 in
    subst (λ (y : ℕ × List ℕ). (front : List ℕ) × (length front ≡ n) × (y.0 ≡ from_le_bytes w front) × (bytes ≡ front ++ y.1)) (ok_is (from_le_bytes w (take n bytes), drop n bytes) x g.1)
    (take n bytes, omega (arith, length-take n bytes), refl, sym (take-append-drop n bytes))

fixed_again : (w : Width) (front rest : List ℕ) → length front ≡ byte_len w → fixed_at w (front ++ rest) ≡ Ok (from_le_bytes w front, rest)
fixed_again w front rest len =
    let long : ltb (length (front ++ rest)) (byte_len w) ≡ false = le-ltb _ _ (omega (arith, length-append front rest)) in
    rw (long, take_at front rest (byte_len w) len, drop_at front rest (byte_len w) len) refl

pub record Behind (kind : ℕ) (bytes : List ℕ) (x : Content × List ℕ) (front : List ℕ) : Type 0 where
  pub spells : SpellsContent front x.0
  pub kind_is : kind_of x.0 ≡ kind
  pub parts : bytes ≡ front ++ x.1

zero_takes : (bytes : List ℕ) (x : Content × List ℕ) → content_at 0 bytes ≡ Ok x → (front : List ℕ) × Behind 0 bytes x front
unfolding content_at
zero_takes bytes x e =
    let b = bind_ok (varint_at bytes) (λ n. Ok (varint n.0, n.1)) x e in
    let t = varint_takes bytes b.0 b.1 in
    subst (λ (y : Content × List ℕ). (front : List ℕ) × Behind 0 bytes y front) (ok_is (varint b.0.0, b.0.1) x b.2) (t.0, record { spells = t.1; kind_is = refl; parts = t.2 })

one_takes : (bytes : List ℕ) (x : Content × List ℕ) → content_at 1 bytes ≡ Ok x → (front : List ℕ) × Behind 1 bytes x front
unfolding content_at
one_takes bytes x e =
    let b = bind_ok (fixed_at w64 bytes) (λ n. Ok (fixed64 n.0, n.1)) x e in
    let t = fixed_takes w64 bytes b.0 b.1 in
    subst (λ (y : Content × List ℕ). (front : List ℕ) × Behind 1 bytes y front) (ok_is (fixed64 b.0.0, b.0.1) x b.2) (t.0, record { spells = (t.1, t.2); kind_is = refl; parts = t.3 })

two_takes : (bytes : List ℕ) (x : Content × List ℕ) → content_at 2 bytes ≡ Ok x → (front : List ℕ) × Behind 2 bytes x front
unfolding content_at
two_takes bytes x e =
    let b = bind_ok (varint_at bytes) (λ n. cond (ltb (length n.1) n.0) (Err Truncated) (Ok (span (take n.0 n.1), drop n.0 n.1))) x e in
    let n = b.0 in
    let t = varint_takes bytes n b.1 in
    let g = guard_ok (ltb (length n.1) n.0) Truncated (Ok (span (take n.0 n.1), drop n.0 n.1)) x b.2 in
    let long : n.0 ≤ length n.1 = ltb-false _ _ g.0 in
    let len : n.0 ≡ length (take n.0 n.1) = omega (arith, length-take n.0 n.1) in
    let whole : bytes ≡ (t.0 ++ take n.0 n.1) ++ drop n.0 n.1 = t.2 ∙ ap (λ (s : List ℕ). t.0 ++ s) (sym (take-append-drop n.0 n.1)) ∙ sym (append_assoc t.0 (take n.0 n.1) (drop n.0 n.1)) in
    subst (λ (y : Content × List ℕ). (front : List ℕ) × Behind 2 bytes y front) (ok_is (span (take n.0 n.1), drop n.0 n.1) x g.1)
    (t.0 ++ take n.0 n.1, record { spells = (t.0, subst (IsVarint t.0) len t.1, refl); kind_is = refl; parts = whole })

five_takes : (bytes : List ℕ) (x : Content × List ℕ) → content_at 5 bytes ≡ Ok x → (front : List ℕ) × Behind 5 bytes x front
unfolding content_at
five_takes bytes x e =
    let b = bind_ok (fixed_at w32 bytes) (λ n. Ok (fixed32 n.0, n.1)) x e in
    let t = fixed_takes w32 bytes b.0 b.1 in
    subst (λ (y : Content × List ℕ). (front : List ℕ) × Behind 5 bytes y front) (ok_is (fixed32 b.0.0, b.0.1) x b.2) (t.0, record { spells = (t.1, t.2); kind_is = refl; parts = t.3 })

content_takes : (kind : ℕ) (bytes : List ℕ) (x : Content × List ℕ) → (kind ≡ 0) ⊎ ((kind ≡ 1) ⊎ ((kind ≡ 2) ⊎ (kind ≡ 5))) → content_at kind bytes ≡ Ok x → (front : List ℕ) × Behind kind bytes x front
content_takes kind bytes x known e =
    let P : ℕ → Type 0 = λ k. content_at k bytes ≡ Ok x → (front : List ℕ) × Behind k bytes x front in
    elim known [
      | inl k ↦ subst P (sym k) (zero_takes bytes x) e
      | inr o ↦ elim o [
        | inl k ↦ subst P (sym k) (one_takes bytes x) e
        | inr o ↦ elim o [
          | inl k ↦ subst P (sym k) (two_takes bytes x) e
          | inr k ↦ subst P (sym k) (five_takes bytes x) e
        ]
      ]
    ]

content_again : (content : Content) (front rest : List ℕ) → SpellsContent front content → content_at (kind_of content) (front ++ rest) ≡ Ok (content, rest)
unfolding content_at
content_again (varint n) front rest h = rw (varint_again front rest n h) refl
content_again (fixed64 n) front rest h = rw (fixed_again w64 front rest h.0, ← h.1) refl
content_again (span inner) front rest h =
    let regrouped : front ++ rest ≡ h.0 ++ (inner ++ rest) = ap (λ (s : List ℕ). s ++ rest) h.2 ∙ append_assoc h.0 inner rest in
    let long : ltb (length (inner ++ rest)) (length inner) ≡ false = le-ltb _ _ (omega (arith, length-append inner rest)) in
    ap (content_at 2) regrouped ∙ rw (varint_again h.0 (inner ++ rest) (length inner) h.1, long, take_at inner rest (length inner) refl, drop_at inner rest (length inner) refl) refl
content_again (fixed32 n) front rest h = rw (fixed_again w32 front rest h.0, ← h.1) refl

-- ---- records

pub entry_takes : (bytes : List ℕ) (x : Entry × List ℕ) → entry_at bytes ≡ Ok x → (front : List ℕ) × Spells front x.0 × (bytes ≡ front ++ x.1) × (0 < length front)
unfolding entry_at
entry_takes bytes x e =
    let a = bind_ok (varint_at bytes) (λ tag. tag_of tag.0 >>= λ kind. content_at kind.1 tag.1 >>= λ content. Ok (record { number = kind.0; content = content.0 }, content.1)) x e in
    let b = bind_ok (tag_of a.0.0) (λ kind. content_at kind.1 a.0.1 >>= λ content. Ok (record { number = kind.0; content = content.0 }, content.1)) x a.2 in
    let c = bind_ok (content_at b.0.1 a.0.1) (λ content. Ok (record { number = b.0.0; content = content.0 }, content.1)) x b.2 in
    let t = varint_takes bytes a.0 a.1 in
    let k = tag_takes a.0.0 b.0 b.1 in
    let s = content_takes b.0.1 a.0.1 c.0 k.known c.1 in
    let made : Entry × List ℕ = (record { number = b.0.0; content = c.0.0 }, c.0.1) in
    let tag : a.0.0 ≡ 8 * b.0.0 + kind_of c.0.0 = rw s.1.kind_is k.joined in
    let whole : bytes ≡ (t.0 ++ s.0) ++ c.0.1 = t.2 ∙ ap (λ (r : List ℕ). t.0 ++ r) s.1.parts ∙ sym (append_assoc t.0 s.0 c.0.1) in
    subst (λ (y : Entry × List ℕ). (front : List ℕ) × Spells front y.0 × (bytes ≡ front ++ y.1) × (0 < length front)) (ok_is made x c.2)
    (t.0 ++ s.0, record { tag = t.0; behind = s.0; is_tag = subst (IsVarint t.0) tag t.1; is_behind = s.1.spells; low = k.low; high = k.high; joined = refl }, whole, omega (arith, length-append t.0 s.0, t.3))

known_kind_of : (content : Content) → (kind_of content ≡ 0) ⊎ ((kind_of content ≡ 1) ⊎ ((kind_of content ≡ 2) ⊎ (kind_of content ≡ 5)))
known_kind_of (varint n) = inl refl
known_kind_of (fixed64 n) = inr (inl refl)
known_kind_of (span n) = inr (inr (inl refl))
known_kind_of (fixed32 n) = inr (inr (inr refl))

pub entry_again : (front rest : List ℕ) (e : Entry) → Spells front e → entry_at (front ++ rest) ≡ Ok (e, rest)
unfolding entry_at
entry_again front rest e h =
    let regrouped : front ++ rest ≡ h.tag ++ (h.behind ++ rest) = ap (λ (s : List ℕ). s ++ rest) h.joined ∙ append_assoc h.tag h.behind rest in
    ap entry_at regrouped ∙ rw (varint_again h.tag (h.behind ++ rest) (8 * e.number + kind_of e.content) h.is_tag, tag_again e.number (kind_of e.content) h.low h.high (known_kind_of e.content), content_again e.content h.behind rest h.is_behind) refl
