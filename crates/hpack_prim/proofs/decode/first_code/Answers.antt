use Rattle.std.proofs.Common.{◌≡◌, ℕ, ◌+◌, ◌-◌, ◌/◌, ◌^◌, ◌≤◌, ◌<◌, arith, subst, ap, sym}
use Rattle.hpack_prim.specs.Decoding.{Begins, entry_8, entry_15, entry_22, entry_24, entry_28, entry_30}
use Rattle.hpack_prim.specs.Huffman.{bits}
use Rattle.hpack_prim.proofs.CodeTables.{Entry, code_8_is, code_15_is, code_22_is, code_24_is, code_28_is, code_30_is}
use Rattle.hpack_prim.proofs.Windows.{begins_front}
use Rattle.hpack_prim.proofs.decode.first_code.Goals as goal

-- an entry that says a code, as the front of the window
found : (k j end window : ℕ) (e r : ℕ × ℕ) → k + j ≡ 30 → Entry (bits k (window / 2 ^ j)) end (window / 2 ^ j) e → r ≡ e → 0 < r.0 → Begins (bits 30 window) r.0 r.1
found k j end window e r sum i is some =
    subst (λ (p : ℕ × ℕ). Begins (bits 30 window) p.0 p.1) (sym is) (begins_front k j window e.0 e.1 sum (i.begins (subst (λ (p : ℕ × ℕ). 0 < p.0) is some)))

-- an entry that says none
longer : (k j end window : ℕ) (e r : ℕ × ℕ) → Entry (bits k (window / 2 ^ j)) end (window / 2 ^ j) e → r ≡ e → r.0 ≤ 0 → end ≤ window / 2 ^ j
longer k j end window e r i is none = let z : r.0 ≡ e.0 = ap (λ (p : ℕ × ℕ). p.0) is in i.ends (omega arith)

-- what is left of the windows, table by table
behind_8 : (w : ℕ) (r : ℕ × ℕ) → w < 2 ^ 30 → r ≡ entry_8 (w / 2 ^ 22) → r.0 ≤ 0 → 0xfe ≤ w / 2 ^ 22
behind_8 w r small is none = longer 8 22 0xfe w (entry_8 (w / 2 ^ 22)) r (code_8_is (w / 2 ^ 22) (w / 2 ^ 22) (omega arith) (omega arith)) is none

behind_15 : (w : ℕ) (r : ℕ × ℕ) → w < 2 ^ 30 → 0xfe ≤ w / 2 ^ 22 → r ≡ entry_15 (w / 2 ^ 15 - 0x7f00) → r.0 ≤ 0 → 0x7fff ≤ w / 2 ^ 15
behind_15 w r small before is none = longer 15 15 0x7fff w (entry_15 (w / 2 ^ 15 - 0x7f00)) r (code_15_is (w / 2 ^ 15) (w / 2 ^ 15 - 0x7f00) (omega arith) (omega arith)) is none

behind_22 : (w : ℕ) (r : ℕ × ℕ) → w < 2 ^ 30 → 0x7fff ≤ w / 2 ^ 15 → r ≡ entry_22 (w / 2 ^ 8 - 0x3fff80) → r.0 ≤ 0 → 0x3fffec ≤ w / 2 ^ 8
behind_22 w r small before is none = longer 22 8 0x3fffec w (entry_22 (w / 2 ^ 8 - 0x3fff80)) r (code_22_is (w / 2 ^ 8) (w / 2 ^ 8 - 0x3fff80) (omega arith) (omega arith)) is none

behind_24 : (w : ℕ) (r : ℕ × ℕ) → w < 2 ^ 30 → 0x3fffec ≤ w / 2 ^ 8 → r ≡ entry_24 (w / 2 ^ 6 - 0xffffb0) → r.0 ≤ 0 → 0xfffff6 ≤ w / 2 ^ 6
behind_24 w r small before is none = longer 24 6 0xfffff6 w (entry_24 (w / 2 ^ 6 - 0xffffb0)) r (code_24_is (w / 2 ^ 6) (w / 2 ^ 6 - 0xffffb0) (omega arith) (omega arith)) is none

behind_28 : (w : ℕ) (r : ℕ × ℕ) → w < 2 ^ 30 → 0xfffff6 ≤ w / 2 ^ 6 → r ≡ entry_28 (w / 2 ^ 2 - 0xfffff60) → r.0 ≤ 0 → 0xfffffff ≤ w / 2 ^ 2
behind_28 w r small before is none = longer 28 2 0xfffffff w (entry_28 (w / 2 ^ 2 - 0xfffff60)) r (code_28_is (w / 2 ^ 2) (w / 2 ^ 2 - 0xfffff60) (omega arith) (omega arith)) is none

by_8 : (w : ℕ) (r : ℕ × ℕ) → w < 2 ^ 30 → r ≡ entry_8 (w / 2 ^ 22) → 0 < r.0 → Begins (bits 30 w) r.0 r.1
by_8 w r small is some = found 8 22 0xfe w (entry_8 (w / 2 ^ 22)) r (omega arith) (code_8_is (w / 2 ^ 22) (w / 2 ^ 22) (omega arith) (omega arith)) is some

by_15 : (w : ℕ) (r : ℕ × ℕ) → w < 2 ^ 30 → 0xfe ≤ w / 2 ^ 22 → r ≡ entry_15 (w / 2 ^ 15 - 0x7f00) → 0 < r.0 → Begins (bits 30 w) r.0 r.1
by_15 w r small before is some = found 15 15 0x7fff w (entry_15 (w / 2 ^ 15 - 0x7f00)) r (omega arith) (code_15_is (w / 2 ^ 15) (w / 2 ^ 15 - 0x7f00) (omega arith) (omega arith)) is some

by_22 : (w : ℕ) (r : ℕ × ℕ) → w < 2 ^ 30 → 0x7fff ≤ w / 2 ^ 15 → r ≡ entry_22 (w / 2 ^ 8 - 0x3fff80) → 0 < r.0 → Begins (bits 30 w) r.0 r.1
by_22 w r small before is some = found 22 8 0x3fffec w (entry_22 (w / 2 ^ 8 - 0x3fff80)) r (omega arith) (code_22_is (w / 2 ^ 8) (w / 2 ^ 8 - 0x3fff80) (omega arith) (omega arith)) is some

by_24 : (w : ℕ) (r : ℕ × ℕ) → w < 2 ^ 30 → 0x3fffec ≤ w / 2 ^ 8 → r ≡ entry_24 (w / 2 ^ 6 - 0xffffb0) → 0 < r.0 → Begins (bits 30 w) r.0 r.1
by_24 w r small before is some = found 24 6 0xfffff6 w (entry_24 (w / 2 ^ 6 - 0xffffb0)) r (omega arith) (code_24_is (w / 2 ^ 6) (w / 2 ^ 6 - 0xffffb0) (omega arith) (omega arith)) is some

by_28 : (w : ℕ) (r : ℕ × ℕ) → w < 2 ^ 30 → 0xfffff6 ≤ w / 2 ^ 6 → r ≡ entry_28 (w / 2 ^ 2 - 0xfffff60) → 0 < r.0 → Begins (bits 30 w) r.0 r.1
by_28 w r small before is some = found 28 2 0xfffffff w (entry_28 (w / 2 ^ 2 - 0xfffff60)) r (omega arith) (code_28_is (w / 2 ^ 2) (w / 2 ^ 2 - 0xfffff60) (omega arith) (omega arith)) is some

-- the last tables say a code always
positive : (e : ℕ × ℕ) (w : ℕ) → Entry (bits 30 w) 0x40000000 w e → w < 2 ^ 30 → 0 < e.0
positive e w i small = grind (arith, i.ends)

by_30 : (w : ℕ) (r : ℕ × ℕ) → w < 2 ^ 30 → 0xfffffff ≤ w / 2 ^ 2 → r ≡ entry_30 (w - 0x3ffffffc) → Begins (bits 30 w) r.0 r.1
by_30 w r small before is =
    let e = entry_30 (w - 0x3ffffffc) in let i = code_30_is w (w - 0x3ffffffc) (omega arith) (omega arith) in
    subst (λ (p : ℕ × ℕ). Begins (bits 30 w) p.0 p.1) (sym is) (i.begins (positive e w i small))

pub returns-then-by_8-gt0 : goal.returns-then-by_8-gt0
returns-then-by_8-gt0 c =
    let w = c.args.front in let small : w < 2 ^ 30 = omega arith in
    by_8 w c.code_8-by_8.result small c.code_8-by_8.ensures c.if-by_8-gt0.true

pub overflow_sub-front : goal.overflow_sub-front
overflow_sub-front c =
    let w = c.args.front in let small : w < 2 ^ 30 = omega arith in
    let b8 = behind_8 w c.code_8-by_8.result small c.code_8-by_8.ensures c.if-by_8-gt0.false in
    omega (arith, b8)

pub returns-then-by_15-gt0 : goal.returns-then-by_15-gt0
returns-then-by_15-gt0 c =
    let w = c.args.front in let small : w < 2 ^ 30 = omega arith in
    let b8 = behind_8 w c.code_8-by_8.result small c.code_8-by_8.ensures c.if-by_8-gt0.false in
    by_15 w c.code_15-by_15.result small b8 c.code_15-by_15.ensures c.if-by_15-gt0.true

pub overflow_sub-front-2 : goal.overflow_sub-front-2
overflow_sub-front-2 c =
    let w = c.args.front in let small : w < 2 ^ 30 = omega arith in
    let b8 = behind_8 w c.code_8-by_8.result small c.code_8-by_8.ensures c.if-by_8-gt0.false in
    let b15 = behind_15 w c.code_15-by_15.result small b8 c.code_15-by_15.ensures c.if-by_15-gt0.false in
    omega (arith, b15)

pub returns-then-by_22-gt0 : goal.returns-then-by_22-gt0
returns-then-by_22-gt0 c =
    let w = c.args.front in let small : w < 2 ^ 30 = omega arith in
    let b8 = behind_8 w c.code_8-by_8.result small c.code_8-by_8.ensures c.if-by_8-gt0.false in
    let b15 = behind_15 w c.code_15-by_15.result small b8 c.code_15-by_15.ensures c.if-by_15-gt0.false in
    by_22 w c.code_22-by_22.result small b15 c.code_22-by_22.ensures c.if-by_22-gt0.true

pub overflow_sub-front-3 : goal.overflow_sub-front-3
overflow_sub-front-3 c =
    let w = c.args.front in let small : w < 2 ^ 30 = omega arith in
    let b8 = behind_8 w c.code_8-by_8.result small c.code_8-by_8.ensures c.if-by_8-gt0.false in
    let b15 = behind_15 w c.code_15-by_15.result small b8 c.code_15-by_15.ensures c.if-by_15-gt0.false in
    let b22 = behind_22 w c.code_22-by_22.result small b15 c.code_22-by_22.ensures c.if-by_22-gt0.false in
    omega (arith, b22)

pub returns-then-by_24-gt0 : goal.returns-then-by_24-gt0
returns-then-by_24-gt0 c =
    let w = c.args.front in let small : w < 2 ^ 30 = omega arith in
    let b8 = behind_8 w c.code_8-by_8.result small c.code_8-by_8.ensures c.if-by_8-gt0.false in
    let b15 = behind_15 w c.code_15-by_15.result small b8 c.code_15-by_15.ensures c.if-by_15-gt0.false in
    let b22 = behind_22 w c.code_22-by_22.result small b15 c.code_22-by_22.ensures c.if-by_22-gt0.false in
    by_24 w c.code_24-by_24.result small b22 c.code_24-by_24.ensures c.if-by_24-gt0.true

pub overflow_sub-front-4 : goal.overflow_sub-front-4
overflow_sub-front-4 c =
    let w = c.args.front in let small : w < 2 ^ 30 = omega arith in
    let b8 = behind_8 w c.code_8-by_8.result small c.code_8-by_8.ensures c.if-by_8-gt0.false in
    let b15 = behind_15 w c.code_15-by_15.result small b8 c.code_15-by_15.ensures c.if-by_15-gt0.false in
    let b22 = behind_22 w c.code_22-by_22.result small b15 c.code_22-by_22.ensures c.if-by_22-gt0.false in
    let b24 = behind_24 w c.code_24-by_24.result small b22 c.code_24-by_24.ensures c.if-by_24-gt0.false in
    omega (arith, b24)

pub returns-then-by_28-gt0 : goal.returns-then-by_28-gt0
returns-then-by_28-gt0 c =
    let w = c.args.front in let small : w < 2 ^ 30 = omega arith in
    let b8 = behind_8 w c.code_8-by_8.result small c.code_8-by_8.ensures c.if-by_8-gt0.false in
    let b15 = behind_15 w c.code_15-by_15.result small b8 c.code_15-by_15.ensures c.if-by_15-gt0.false in
    let b22 = behind_22 w c.code_22-by_22.result small b15 c.code_22-by_22.ensures c.if-by_22-gt0.false in
    let b24 = behind_24 w c.code_24-by_24.result small b22 c.code_24-by_24.ensures c.if-by_24-gt0.false in
    by_28 w c.code_28-by_28.result small b24 c.code_28-by_28.ensures c.if-by_28-gt0.true

pub overflow_sub-front-5 : goal.overflow_sub-front-5
overflow_sub-front-5 c =
    let w = c.args.front in let small : w < 2 ^ 30 = omega arith in
    let b8 = behind_8 w c.code_8-by_8.result small c.code_8-by_8.ensures c.if-by_8-gt0.false in
    let b15 = behind_15 w c.code_15-by_15.result small b8 c.code_15-by_15.ensures c.if-by_15-gt0.false in
    let b22 = behind_22 w c.code_22-by_22.result small b15 c.code_22-by_22.ensures c.if-by_22-gt0.false in
    let b24 = behind_24 w c.code_24-by_24.result small b22 c.code_24-by_24.ensures c.if-by_24-gt0.false in
    let b28 = behind_28 w c.code_28-by_28.result small b24 c.code_28-by_28.ensures c.if-by_28-gt0.false in
    omega (arith, b28)

pub returns : goal.returns
returns c =
    let w = c.args.front in let small : w < 2 ^ 30 = omega arith in
    let b8 = behind_8 w c.code_8-by_8.result small c.code_8-by_8.ensures c.if-by_8-gt0.false in
    let b15 = behind_15 w c.code_15-by_15.result small b8 c.code_15-by_15.ensures c.if-by_15-gt0.false in
    let b22 = behind_22 w c.code_22-by_22.result small b15 c.code_22-by_22.ensures c.if-by_22-gt0.false in
    let b24 = behind_24 w c.code_24-by_24.result small b22 c.code_24-by_24.ensures c.if-by_24-gt0.false in
    let b28 = behind_28 w c.code_28-by_28.result small b24 c.code_28-by_28.ensures c.if-by_28-gt0.false in
    by_30 w c.code_30.result small b28 c.code_30.ensures
