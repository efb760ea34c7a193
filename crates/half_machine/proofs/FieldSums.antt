-- Sizes of fields, one by one.
use Rattle.std.proofs.Common.{add-one, drop-cons, slice_index_or}
use Rattle.std.proofs.lemmas.List.Sums.{sum_by-cons}
use Rattle.std.specs.Prelude.{ℕ, suc, ◌≡◌, ◌+◌, ◌<◌, List, length, drop}
use Rattle.ext_msgs.specs.declared.lists.Field.{Field}
use Rattle.filter_model.specs.Held.{field_bytes}

pub size_at : (fields : List Field) (i : ℕ) (d : Field) → i < length fields
    → field_bytes (drop i fields) ≡ length (slice_index_or fields i d).name + length (slice_index_or fields i d).value + field_bytes (drop (i + 1) fields)
size_at fields i d h = rw (add-one, drop-cons fields i d) (sum_by-cons (λ (f : Field). length f.name + length f.value) (slice_index_or fields i d) (drop (suc i) fields))
