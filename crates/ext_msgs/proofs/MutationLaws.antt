-- The values of all records are those that reading adds up.
use Rattle.std.proofs.Common.{◌≡◌, ℕ, List, [], ◌∷◌, refl, ap, ◌∙◌, fold}
use Rattle.pb_wire.specs.Records.{Entry}
use Rattle.pb_wire.specs.Walk.{entries}
use Rattle.ext_msgs.specs.declared.flag.FlagParts.{FlagParts}
use Rattle.ext_msgs.specs.Fields.{spans, number_of, inside, if_any, is_set, low}
use Rattle.ext_msgs.specs.MessageValue.{field, action_of, set_field, mutation}
use Rattle.ext_msgs.specs.Parts.{header_parts, header_add, flag_parts, flag_add, set_parts, set_add, action_with, finished_set, mutation_add}
use Rattle.ext_msgs.proofs.Fold.{AddsOne, fold_all}
use Rattle.ext_msgs.proofs.FieldLaws.{bytes_push, seen_push, inside_push, any_push, repeated_push, spans_push}

pub header_one : AddsOne header_add header_parts
header_one es e = rw (bytes_push 1 es e, bytes_push 2 es e, bytes_push 3 es e) refl

pub flag_one : AddsOne flag_add flag_parts
flag_one es e = rw (seen_push is_set 1 es e) refl

pub set_one : AddsOne set_add set_parts
set_one es e = rw (inside_push header_add header_parts header_one 1 es e, any_push flag_add flag_parts flag_one 2 es e, seen_push low 3 es e) refl

action_is : (bs : List (List ℕ)) (append : FlagParts) (action : ℕ) → action_with (if_any bs append) action ≡ action_of bs append.value action
action_is [] append action = refl
action_is (b ∷ bs) append action = refl

-- what a reader keeps of all records makes the field
set_is : (es : List Entry) → finished_set (set_parts es) ≡ set_field es
set_is es = ap (λ (a : ℕ). record { name = (field (inside 1 es)).name; value = (field (inside 1 es)).value; action = a }) (action_is (spans 2 es) (flag_parts (inside 2 es)) (low (number_of 3 es)))

pub mutation_one : AddsOne mutation_add mutation
mutation_one es e =
    let each : (b : List ℕ) → finished_set (fold set_add (set_parts []) (entries b)) ≡ set_field (entries b) = λ b. ap finished_set (fold_all set_add set_parts set_one (entries b)) ∙ set_is (entries b) in
    rw (repeated_push (λ b. set_field (entries b)) (λ b. finished_set (fold set_add (set_parts []) (entries b))) each 1 es e, spans_push 2 es e) refl
