use Rattle.std.proofs.Common.{arith, rules, ◌≡◌, ◌∙◌, ◌-◌, ◌+◌, ◌≤◌, ◌<◌, sym, ap, refl, subst, Bool, true, if◌then◌else◌, List, ℕ, [], ◌++◌, length, drop, take}
use Rattle.grpc_call.specs.Framed.{Beginning, first, Whole}
use Rattle.grpc_call.specs.Reading.{Response, Gives, Fails, taken, taken_by}
use Rattle.grpc_call.specs.declared.fault.CallFault.TheVariants.{Head}
use Rattle.grpc_call.specs.Keeping.{IsKept}
use Rattle.grpc_call.proofs.First.{nothing_kept}
use Rattle.grpc_call.proofs.Cuts.{message_size}
use Rattle.grpc_call.proofs.Messages.{message_short, not_before, Ended, ended}
use Rattle.grpc_call.proofs.reader.CallReader.data.Goals as goal

pub start_of-requires-clause-kept : goal.start_of-requires-clause-kept
start_of-requires-clause-kept c =
    let short = message_short c.self.inside.limit c.self.inside.prefix.items c.self.inside.message.items c.self.invariant in search rules

-- the same over the lists that the fields are
there : (limit size : ℕ) (prefix message bytes p m : List ℕ) → IsKept limit prefix message → p ≡ prefix → m ≡ message
    → (first limit (p ++ m ++ bytes) ≡ Whole (take size (drop 5 (p ++ m ++ bytes)))) × (5 + size ≤ length (p ++ m ++ bytes))
    → Ended limit size (5 + size - length prefix - length message) prefix message bytes
there limit size prefix message bytes p m kept e f w = ended limit size _ prefix message bytes kept (rw (sym e, sym f) w.0) (rw (sym e, sym f) w.1) refl

pub overflow_sub-used-in-Whole : goal.overflow_sub-used-in-Whole
overflow_sub-used-in-Whole c =
    let e = there c.self.inside.limit c.in-Whole.size c.self.inside.prefix.items c.self.inside.message.items c.args.bytes.now _ _ c.self.invariant c.as_slice.ensures.value c.as_slice-2.ensures.value c.in-Whole.ensures in
    let before = e.before in
    omega (arith, c.len.ensures, c.len-in-Whole.ensures)

pub invariant_of-self-in-Whole : goal.invariant_of-self-in-Whole
invariant_of-self-in-Whole c = nothing_kept c.self.inside.limit c.finish.new.prefix.items c.finish.new.message.items c.in_ok-message-in-Whole.ensures.1 c.in_ok-message-in-Whole.ensures.2

gives : (limit used : ℕ) (headed ends : Bool) (prefix message bytes last whole : List ℕ) (size : ℕ) (e : Ended limit size used prefix message bytes)
    → headed ≡ true → last ≡ take used bytes → whole ≡ drop 5 (prefix ++ message ++ last)
    → taken (record { limit = limit; headed = headed; rest = prefix ++ message }) bytes ends ≡ Gives whole used
gives limit used headed ends prefix message bytes last whole size e h f is =
    let same : whole ≡ drop 5 (prefix ++ message ++ take used bytes) = is ∙ ap (λ (b : List ℕ). drop 5 (prefix ++ message ++ b)) f in
    let r : Response = record { limit = limit; headed = headed; rest = prefix ++ message } in
    ap (λ (b : Bool). if b then taken_by (first limit (prefix ++ message ++ bytes)) r bytes ends else Fails Head) h
    ∙ ap (λ (x : Beginning). taken_by x r bytes ends) (e.whole ∙ ap Whole (sym same))
    ∙ ap (λ n. Gives whole n) (ap (λ (b : List ℕ). 5 + length b - length (prefix ++ message)) same ∙ sym e.used_is)

some_used : (limit size used : ℕ) (prefix message bytes : List ℕ) → IsKept limit prefix message → Ended limit size used prefix message bytes → 0 < used
some_used limit size used prefix message bytes kept e =
    let whole : List ℕ = drop 5 (prefix ++ message ++ take used bytes) in
    let before = not_before limit (prefix ++ message) bytes whole kept.waits e.whole in
    let long = message_size limit (prefix ++ message ++ bytes) whole e.whole in
    let count = e.used_is in
    omega arith

pub returns-in_ok-message-in-Whole : goal.returns-in_ok-message-in-Whole
returns-in_ok-message-in-Whole c =
    let used : 5 + c.in-Whole.size - c.len.result - c.len-in-Whole.result ≡ 5 + c.in-Whole.size - length c.self.inside.prefix.items - length c.self.inside.message.items =
    omega (arith, c.len.ensures, c.len-in-Whole.ensures) in
    let e = subst (λ n. Ended c.self.inside.limit c.in-Whole.size n c.self.inside.prefix.items c.self.inside.message.items c.args.bytes.now) (sym used)
    (there c.self.inside.limit c.in-Whole.size c.self.inside.prefix.items c.self.inside.message.items c.args.bytes.now _ _ c.self.invariant c.as_slice.ensures.value c.as_slice-2.ensures.value c.in-Whole.ensures) in
    let got = gives c.self.inside.limit _ c.self.inside.headed c.args.ends c.self.inside.prefix.items c.self.inside.message.items c.args.bytes.now
    c.split_at.result.0.now c.in_ok-message-in-Whole.message c.in-Whole.size e c.if-not-self.false c.split_at.ensures.front c.in_ok-message-in-Whole.ensures.0 in
    let empty : c.finish.new.prefix.items ++ c.finish.new.message.items ≡ [] = rw (c.in_ok-message-in-Whole.ensures.1, c.in_ok-message-in-Whole.ensures.2) refl in
    let limit = ap (λ (r : Response). r.limit) c.self.view_is in
    let headed = ap (λ (r : Response). r.headed) c.self.view_is in
    record {
      told = (subst (λ (r : Response). taken r c.args.bytes.now c.args.ends ≡ Gives c.in_ok-message-in-Whole.message (5 + c.in-Whole.size - c.len.result - c.len-in-Whole.result)) c.self.view_is got, e.enough, λ i. record { limit = limit i; headed = headed i; rest = empty i });
      some = some_used _ _ _ _ _ _ c.self.invariant e;
    }
