-- The fields that are left, one by one.
use Rattle.std.proofs.Common.{◌≡◌, ℕ, ◌+◌, ◌<◌, Bool, true, false, List, [], ◌∷◌, ◌++◌, length, drop, filter, refl, ap, sym, ◌∙◌, arith, add-one, drop-cons, slice_index_or}
use Rattle.ext_msgs.specs.declared.lists.Field.{Field}
use Rattle.http_model.specs.Bytes.{is_named, value_of}
use Rattle.http_model.specs.Wire.{field_line, field_lines, is_written_as_is}

pub field_lines_at : (fields : List Field) (i : ℕ) (d : Field) → i < length fields
    → field_lines (drop i fields) ≡ field_line (slice_index_or fields i d).name (slice_index_or fields i d).value ++ field_lines (drop (i + 1) fields)
field_lines_at fields i d h = rw (add-one, drop-cons fields i d)

pub kept_at : (fields : List Field) (i : ℕ) (d : Field) → i < length fields → is_written_as_is (slice_index_or fields i d) ≡ true
    → field_lines (filter is_written_as_is (drop i fields)) ≡ field_line (slice_index_or fields i d).name (slice_index_or fields i d).value ++ field_lines (filter is_written_as_is (drop (i + 1) fields))
kept_at fields i d h e = rw (add-one, drop-cons fields i d, e)

pub left_out_at : (fields : List Field) (i : ℕ) (d : Field) → i < length fields → is_written_as_is (slice_index_or fields i d) ≡ false
    → field_lines (filter is_written_as_is (drop i fields)) ≡ field_lines (filter is_written_as_is (drop (i + 1) fields))
left_out_at fields i d h e = rw (add-one, drop-cons fields i d, e)

-- the first field of a name gives the value
pub value_at : (name : List ℕ) (fields : List Field) (i : ℕ) (d : Field) → i < length fields → is_named name (slice_index_or fields i d) ≡ true
    → value_of name (drop i fields) ≡ (slice_index_or fields i d).value
value_at name fields i d h e = rw (drop-cons fields i d, e)

pub value_behind : (name : List ℕ) (fields : List Field) (i : ℕ) (d : Field) → i < length fields → is_named name (slice_index_or fields i d) ≡ false
    → value_of name (drop i fields) ≡ value_of name (drop (i + 1) fields)
value_behind name fields i d h e = rw (add-one, drop-cons fields i d, e)
