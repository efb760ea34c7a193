-- A message that is all of the bytes.
use Rattle.std.proofs.Common.{◌≡◌, ℕ, ◌+◌, List, [], Option, Result, Ok, Err, None, length, subst, fold, ap, ◌∙◌, refl, sym, arith}
use Rattle.std.proofs.lemmas.List.{take_all}
use Rattle.pb_wire.specs.Records.{Entry}
use Rattle.pb_wire.specs.Cursor.{Placed, part}
use Rattle.pb_wire.specs.Walk.{entries}
use Rattle.ext_msgs.specs.declared.fault.MsgFault.{MsgFault}
use Rattle.ext_msgs.specs.MessageFault.{first_fault}
use Rattle.ext_msgs.specs.declared.fault.MsgFault.TheVariants.{Wire, Utf8, BadNumber, NoMember, Memory}
use Rattle.ext_msgs.specs.Messages.{unless, IsRead}
use Rattle.ext_msgs.specs.Parts.{Refuses, Reads}
use Rattle.ext_msgs.proofs.Fold.{AddsOne, fold_all}

pub reads_all : {S : Type 0} (fault : Placed → Option MsgFault) (add : S → Entry → S) (value : List Entry → S) → AddsOne add value → (bytes : List ℕ) (r : Result S MsgFault)
    → Reads fault (fold add (value []) (entries (part bytes 0 (length bytes)))) (0 + length bytes) (part bytes 0 (length bytes)) r → Reads fault (value (entries bytes)) (length bytes) bytes r
reads_all fault add value one bytes r h =
    let end : 0 + length bytes ≡ length bytes = omega arith in
    let all : part bytes 0 (length bytes) ≡ bytes = take_all (length bytes) bytes (omega arith) in
    let a = subst (λ n. Reads fault (fold add (value []) (entries (part bytes 0 (length bytes)))) n (part bytes 0 (length bytes)) r) end h in
    let b = subst (λ bs. Reads fault (fold add (value []) (entries bs)) (length bytes) bs r) all a in
    subst (λ v. Reads fault v (length bytes) bytes r) (fold_all add value one (entries bytes)) b

pub reads_ok : {S : Type 0} (fault : Placed → Option MsgFault) (add : S → Entry → S) (value : List Entry → S) → AddsOne add value → (bytes : List ℕ) (s : S)
    → (first_fault fault (0 + length bytes) (part bytes 0 (length bytes)) ≡ None) × (s ≡ fold add (value []) (entries (part bytes 0 (length bytes)))) → (first_fault fault (length bytes) bytes ≡ None) × (s ≡ value (entries bytes))
reads_ok fault add value one bytes s h = reads_all fault add value one bytes (Ok s) h

-- ---- what the reader of a whole message answers

told : {X : Type 0} (r : Result X MsgFault) → IsRead r r
told (Ok x) = refl
told (Err Memory) = tt
told (Err (Wire f)) = refl
told (Err (Utf8 place)) = refl
told (Err (BadNumber place)) = refl
told (Err NoMember) = refl

-- a message without a fault is its value
pub is_read : {X : Type 0} (found : Option MsgFault) (value r : Result X MsgFault) → found ≡ None → r ≡ value → IsRead r (unless found value)
is_read found value r none e = subst (IsRead r) (e ∙ sym (ap (λ f. unless f value) none)) (told r)
