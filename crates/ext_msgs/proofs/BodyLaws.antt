-- The body change of all records is the one that reading adds up.
use Rattle.std.proofs.Common.{◌≡◌, ℕ, zero, suc, List, [], ◌∷◌, ◌++◌, Option, Some, None, refl, sym, ap, ◌∙◌}
use Rattle.std.specs.Prelude.{unwrap_or}
use Rattle.pb_wire.specs.Records.{Entry}
use Rattle.ext_msgs.specs.declared.answer.BodyChange.TheVariants.{Bytes, Clear}
use Rattle.ext_msgs.specs.Fields.{span_at, varint_at, is_set, inside}
use Rattle.ext_msgs.specs.MessageValue.{body_member, body_by, body_change}
use Rattle.ext_msgs.specs.Parts.{filled, stream_parts, stream_add, finished_stream, body_add, stream_before, or_keep}
use Rattle.ext_msgs.proofs.Fold.{AddsOne}
use Rattle.ext_msgs.proofs.FieldLaws.{bytes_push, number_push, seen_push, inside_push}
use Rattle.ext_msgs.proofs.Oneof.{oneof_one}

pub stream_one : AddsOne stream_add stream_parts
stream_one es e = rw (bytes_push 1 es e, seen_push is_set 2 es e) refl

-- a body change of another member begins a stream anew
other_stream : (n : ℕ) (run : List Entry) → (n ≡ 3 → ⊥) → stream_before (body_by n run) ≡ stream_parts []
other_stream (suc (suc (suc zero))) run ne = absurd (ne refl)
other_stream _ run ne = refl

module _ (e : Entry) where
  keeps : (n : ℕ) (run : List Entry) (o1 : Option (List ℕ)) (o2 : Option ℕ) (o3 : Option (List ℕ)) → span_at 1 e ≡ o1 → varint_at 2 e ≡ o2 → span_at 3 e ≡ o3 → body_member e ≡ 0 → body_add (body_by n run) e ≡ body_by n run
  keeps n run None None None p1 p2 p3 h = rw (p1, p2, p3) refl
  keeps n run (Some b) o2 o3 p1 p2 p3 h = absurd cc
  keeps n run None (Some v) o3 p1 p2 p3 h = absurd cc
  keeps n run None None (Some b) p1 p2 p3 h = absurd cc

  joins : (run : List Entry) (o1 : Option (List ℕ)) (o2 : Option ℕ) (o3 : Option (List ℕ)) → span_at 1 e ≡ o1 → varint_at 2 e ≡ o2 → span_at 3 e ≡ o3 → (body_member e ≡ 0 → ⊥) → body_add (body_by (body_member e) run) e ≡ body_by (body_member e) (run ++ e ∷ [])
  joins run (Some b) o2 o3 p1 p2 p3 h = rw (p1, bytes_push 1 run e, p1) refl
  joins run None (Some v) o3 p1 p2 p3 h = rw (p1, p2, number_push 2 run e, p2) refl
  joins run None None (Some b) p1 p2 p3 h = rw (p1, p2, p3) (ap finished_stream (ap (filled stream_add (stream_parts (inside 3 run))) (sym p3) ∙ inside_push stream_add stream_parts stream_one 3 run e))
  joins run None None None p1 p2 p3 h = absurd (h (rw (p1, p2, p3) refl))

  starts : (n : ℕ) (run : List Entry) (o1 : Option (List ℕ)) (o2 : Option ℕ) (o3 : Option (List ℕ)) → span_at 1 e ≡ o1 → varint_at 2 e ≡ o2 → span_at 3 e ≡ o3 → (body_member e ≡ 0 → ⊥) → (n ≡ body_member e → ⊥) → body_add (body_by n run) e ≡ body_by (body_member e) (e ∷ [])
  starts n run (Some b) o2 o3 p1 p2 p3 h ne = rw p1 (ap Bytes (sym (bytes_push 1 [] e ∙ ap (λ o. unwrap_or o []) p1)))
  starts n run None (Some v) o3 p1 p2 p3 h ne = rw (p1, p2) (ap (λ m. Clear (is_set m)) (sym (number_push 2 [] e ∙ ap (λ o. unwrap_or o 0) p2)))
  starts n run None None (Some b) p1 p2 p3 h ne =
      let is : body_member e ≡ 3 = rw (p1, p2, p3) refl in
      let before : stream_before (body_by n run) ≡ stream_parts [] = other_stream n run (λ q. ne (q ∙ sym is)) in
      ap (λ c. or_keep Bytes (or_keep (λ v. Clear (is_set v)) (or_keep (λ bytes. finished_stream (filled stream_add c (Some bytes))) (body_by n run) (span_at 3 e)) (varint_at 2 e)) (span_at 1 e)) before
      ∙ rw (p1, p2, p3) (ap finished_stream (ap (filled stream_add (stream_parts [])) (sym p3) ∙ inside_push stream_add stream_parts stream_one 3 [] e))
  starts n run None None None p1 p2 p3 h ne = absurd (h (rw (p1, p2, p3) refl))

pub body_one : AddsOne body_add body_change
body_one = oneof_one body_member body_by body_add
    (λ n run e h. keeps e n run (span_at 1 e) (varint_at 2 e) (span_at 3 e) refl refl refl h)
    (λ run e h. joins e run (span_at 1 e) (varint_at 2 e) (span_at 3 e) refl refl refl h)
    (λ n run e h ne. starts e n run (span_at 1 e) (varint_at 2 e) (span_at 3 e) refl refl refl h ne)
