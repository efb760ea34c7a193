-- The list of a mutation's items, place by place.
use Rattle.std.proofs.Common.{◌≡◌, ℕ, ◌+◌, ◌-◌, ◌<◌, ◌≤◌, List, [], ◌∷◌, length, drop, get_or, map, refl, arith, add-one}
use Rattle.std.proofs.Math.Seq.{drop-cons}
use Rattle.std.proofs.lemmas.List.{length-append, length-map, get_or_append_left, get_or-append_right, get_or-map, drop_all}
use Rattle.ext_msgs.specs.declared.lists.SetField.{SetField}
use Rattle.ext_msgs.specs.declared.answer.HeaderMutation.{HeaderMutation}
use Rattle.header_mutation.specs.declared.rules.PartKind.{PartKind}
use Rattle.header_mutation.specs.Mutated.{items, removal, setting}

-- how many items there are
pub length-items : (part : PartKind) (m : HeaderMutation) → length (items part m) ≡ length m.remove + length m.set
unfolding items
length-items part m = rw (length-append, length-map, length-map) refl

-- a removal, and the items after it
pub drop_items_removal : (part : PartKind) (m : HeaderMutation) (i : ℕ) (d : List ℕ) → i < length m.remove
    → drop i (items part m) ≡ removal part (get_or m.remove i d) ∷ drop (i + 1) (items part m)
unfolding items
drop_items_removal part m i d h =
    let count = length-items part m in
    let inside : i < length (items part m) = omega arith in
    rw (
      drop-cons (items part m) i (removal part d) inside,
      get_or_append_left (map (removal part) m.remove) (map (setting part) m.set) (removal part d) i (rw length-map h),
      get_or-map (removal part) m.remove i d (removal part d) h,
      add-one,
    ) refl

-- a setting, and the items after it
pub drop_items_setting : (part : PartKind) (m : HeaderMutation) (i : ℕ) (d : SetField) → length m.remove ≤ i
    → i < length m.remove + length m.set
    → drop i (items part m) ≡ setting part (get_or m.set (i - length m.remove) d) ∷ drop (i + 1) (items part m)
unfolding items
drop_items_setting part m i d low high =
    let count = length-items part m in
    let inside : i < length (items part m) = omega arith in
    let within : i - length m.remove < length m.set = omega arith in
    rw (
      drop-cons (items part m) i (setting part d) inside,
      get_or-append_right (map (removal part) m.remove) (map (setting part) m.set) (length m.remove) i (setting part d)
          (length-map m.remove (removal part)) low,
      get_or-map (setting part) m.set (i - length m.remove) d (setting part d) within,
      add-one,
    ) refl

-- after the last item there is none
pub drop_items_end : (part : PartKind) (m : HeaderMutation) (i : ℕ) → i ≡ length m.remove + length m.set
    → drop i (items part m) ≡ []
drop_items_end part m i h = let count = length-items part m in drop_all i (items part m) (omega arith)
