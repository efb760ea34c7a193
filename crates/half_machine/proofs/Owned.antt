-- The framing that a head states, field by field.
use Rattle.std.proofs.Common.{◌≡◌, ℕ, ◌+◌, ◌<◌, true, false, List, [], length, drop, refl, add-one, drop-cons, slice_index_or, codes}
use Rattle.std.specs.Prelude.{min, bytes_eq}
use Rattle.ext_msgs.specs.declared.lists.Field.{Field}
use Rattle.http_model.specs.Bytes.{is_named, decimal_value}
use Rattle.http_model.specs.declared.types.Framing.TheVariants.{NoField, Length as OfLength}
use Rattle.filter_model.specs.Course.{own_length, has_status}

pub length_at : (fields : List Field) (i : ℕ) (d : Field) → i < length fields → is_named (codes "content-length") (slice_index_or fields i d) ≡ true
    → own_length (drop i fields) ≡ OfLength (min (decimal_value (slice_index_or fields i d).value) 18_446_744_073_709_551_615)
length_at fields i d h e = rw (drop-cons fields i d, e)

pub length_behind : (fields : List Field) (i : ℕ) (d : Field) → i < length fields → is_named (codes "content-length") (slice_index_or fields i d) ≡ false
    → own_length (drop i fields) ≡ own_length (drop (i + 1) fields)
length_behind fields i d h e = rw (add-one, drop-cons fields i d, e)

pub no_length : own_length [] ≡ NoField
no_length = refl

pub status_at : (fields : List Field) (i : ℕ) (d : Field) → i < length fields → is_named (codes ":status") (slice_index_or fields i d) ≡ true
    → has_status (codes "204") (drop i fields) ≡ bytes_eq (slice_index_or fields i d).value (codes "204")
status_at fields i d h e = rw (drop-cons fields i d, e)

pub status_behind : (fields : List Field) (i : ℕ) (d : Field) → i < length fields → is_named (codes ":status") (slice_index_or fields i d) ≡ false
    → has_status (codes "204") (drop i fields) ≡ has_status (codes "204") (drop (i + 1) fields)
status_behind fields i d h e = rw (add-one, drop-cons fields i d, e)
