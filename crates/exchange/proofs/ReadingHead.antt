-- The method that a head states, field by field.
use Rattle.std.proofs.Common.{◌≡◌, ℕ, ◌+◌, ◌<◌, true, false, Some, List, length, drop, add-one, drop-cons, slice_index_or, codes}
use Rattle.std.specs.Prelude.{bytes_eq}
use Rattle.ext_msgs.specs.declared.lists.Field.{Field}
use Rattle.http_model.specs.Bytes.{is_named}
use Rattle.filter_model.specs.Account.{is_head_request}

pub method_at : (fields : List Field) (i : ℕ) (d : Field) → i < length fields → is_named (codes ":method") (slice_index_or fields i d) ≡ true
    → is_head_request (Some (drop i fields)) ≡ bytes_eq (slice_index_or fields i d).value (codes "HEAD")
method_at fields i d h e = rw (drop-cons fields i d, e)

pub method_behind : (fields : List Field) (i : ℕ) (d : Field) → i < length fields → is_named (codes ":method") (slice_index_or fields i d) ≡ false
    → is_head_request (Some (drop i fields)) ≡ is_head_request (Some (drop (i + 1) fields))
method_behind fields i d h e = rw (add-one, drop-cons fields i d, e)
