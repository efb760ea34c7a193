use Rattle.std.proofs.Common.{rules, arith, sym, ◌∙◌, subst, ◌≡◌, ◌<◌, ◌≤◌, ℕ, true, false, Some, None}
use Rattle.http_model.specs.declared.types.Out.{Out}
use Rattle.http_model.specs.declared.types.Out.TheVariants as part
use Rattle.filter_model.specs.Half.{Past, Gave, MayGive, after_step, becomes, progress}
use Rattle.half_machine.specs.Stands.{StandsFor}
use Rattle.half_machine.specs.Giving.{out_size, hand_size, out_given, hand_given, head_given, behind_of, given_behind}
use Rattle.half_machine.specs.declared.half.Half.{Half}
use Rattle.half_machine.proofs.GivingParts.{framed, nothing_yet, nothing_stands, head_may, head_stands, out_may, out_stands, hand_may, hand_stands, body_taken}
use Rattle.half_machine.proofs.GivingBehind.{behind_may, behind_stands, nothing_given}
use Rattle.half_machine.proofs.half.Half.next_out.Goals as goal

left : (p : Past) (out : Out) (x y : Half) → x ≡ y → StandsFor (after_step (Gave out) p) y → StandsFor (after_step (Gave out) p) x
left p out x y e s = subst (λ z. StandsFor (after_step (Gave out) p) z) (sym e) s

none : (n : ℕ) → n ≤ 0 → n ≡ 0
none n f = omega arith

pub returns-in_default-clause-gives : goal.returns-in_default-clause-gives
returns-in_default-clause-gives c p s =
    let x = c.args.self.now in
    let e : x.gone.framing ≡ None = search rules in
    nothing_yet p x s e

pub returns-in_default-clause-stands : goal.returns-in_default-clause-stands
returns-in_default-clause-stands c p s = nothing_stands p c.args.self.now s

pub returns-then-not-self-clause-gives : goal.returns-then-not-self-clause-gives
returns-then-not-self-clause-gives c p s =
    let x = c.args.self.now in
    let e : x.gone.framing ≡ Some c.in-Some.framing = search rules in
    let z : x.gone.head ≡ false = search rules in
    subst (λ q. MayGive c.args.max (becomes p) (progress p).taken q) (sym c.in_ok-out.ensures.gives) (head_may p x c.in-Some.framing c.args.max s e z)

pub returns-then-not-self-clause-stands : goal.returns-then-not-self-clause-stands
returns-then-not-self-clause-stands c p s =
    let x = c.args.self.now in
    left p c.in_ok-out.out c.give_head.new.self (head_given x) c.in_ok-out.ensures.left
    (subst (λ q. StandsFor (after_step (Gave q) p) (head_given x)) (sym c.in_ok-out.ensures.gives) (head_stands p x _ c.in-Some.framing s))

pub returns-then-n-gt0-clause-gives : goal.returns-then-n-gt0-clause-gives
returns-then-n-gt0-clause-gives c p s =
    let x = c.args.self.now in
    let e : x.gone.framing ≡ Some c.in-Some.framing = search rules in
    let z : x.gone.head ≡ true = search rules in
    let y : 0 < c.out_size-n.result = search rules in
    out_may p x c.in-Some.framing c.args.max c.out_size-n.result c.in_ok-bytes.bytes s e z c.out_size-n.ensures y c.in_ok-bytes.ensures.gives

pub returns-then-n-gt0-clause-stands : goal.returns-then-n-gt0-clause-stands
returns-then-n-gt0-clause-stands c p s =
    let x = c.args.self.now in
    let e : x.gone.framing ≡ Some c.in-Some.framing = search rules in
    let y : 0 < c.out_size-n.result = search rules in
    let u : c.out_size-n.result ≤ 4_294_967_295 = search rules in
    left p (part.Data c.in_ok-bytes.bytes) c.give_out.new.self (out_given c.out_size-n.result x) c.in_ok-bytes.ensures.left
    (out_stands p x c.in-Some.framing c.args.max c.out_size-n.result c.in_ok-bytes.bytes s e c.out_size-n.ensures y u c.in_ok-bytes.ensures.gives)

pub returns-then-n-gt0-2-clause-gives : goal.returns-then-n-gt0-2-clause-gives
returns-then-n-gt0-2-clause-gives c p s =
    let x = c.args.self.now in
    let e : x.gone.framing ≡ Some c.in-Some.framing = search rules in
    let z : x.gone.head ≡ true = search rules in
    let q : out_size c.args.max x ≡ 0 = sym c.out_size-n.ensures ∙ none c.out_size-n.result c.if-n-gt0.false in
    let y : 0 < c.hand_size-n.result = search rules in
    hand_may p x c.in-Some.framing c.args.max c.hand_size-n.result c.in_ok-bytes-2.bytes s c.requires e z q c.hand_size-n.ensures y c.in_ok-bytes-2.ensures.gives

pub returns-then-n-gt0-2-clause-stands : goal.returns-then-n-gt0-2-clause-stands
returns-then-n-gt0-2-clause-stands c p s =
    let x = c.args.self.now in
    let e : x.gone.framing ≡ Some c.in-Some.framing = search rules in
    let q : out_size c.args.max x ≡ 0 = sym c.out_size-n.ensures ∙ none c.out_size-n.result c.if-n-gt0.false in
    let y : 0 < c.hand_size-n.result = search rules in
    let u : c.hand_size-n.result ≤ 4_294_967_295 = search rules in
    left p (part.Data c.in_ok-bytes-2.bytes) c.give_hand.new.self (hand_given c.hand_size-n.result x) c.in_ok-bytes-2.ensures.left
    (hand_stands p x c.in-Some.framing c.args.max c.hand_size-n.result c.in_ok-bytes-2.bytes s c.requires e q c.hand_size-n.ensures y u c.in_ok-bytes-2.ensures.gives)

pub returns-clause-gives : goal.returns-clause-gives
returns-clause-gives c p s =
    let x = c.args.self.now in
    let e : x.gone.framing ≡ Some c.in-Some.framing = search rules in
    let z : x.gone.head ≡ true = search rules in
    let q : out_size c.args.max x ≡ 0 = sym c.out_size-n.ensures ∙ none c.out_size-n.result c.if-n-gt0.false in
    let h : hand_size c.args.max x ≡ 0 = sym c.hand_size-n.ensures ∙ none c.hand_size-n.result c.if-n-gt0-2.false in
    let f = framed p x c.in-Some.framing s e in
    subst (λ q. MayGive c.args.max (becomes p) (progress p).taken q) (sym c.in_ok-out-2.ensures.gives)
    (behind_may p x f.head c.args.max s f.chosen z (body_taken p x c.in-Some.framing c.args.max s c.requires e q h))

pub returns-clause-stands : goal.returns-clause-stands
returns-clause-stands c p s =
    let x = c.args.self.now in
    left p c.in_ok-out-2.out c.give_behind.new.self (given_behind (behind_of x) x) c.in_ok-out-2.ensures.left
    (subst (λ q. StandsFor (after_step (Gave q) p) (given_behind (behind_of x) x)) (sym c.in_ok-out-2.ensures.gives) (behind_stands p x x.trailers (behind_of x) s))

pub returns-clause-still : goal.returns-clause-still
returns-clause-still c z =
    let x = c.args.self.now in
    c.in_ok-out-2.ensures.left ∙ nothing_given x x.trailers (behind_of x) (sym c.in_ok-out-2.ensures.gives ∙ z)
