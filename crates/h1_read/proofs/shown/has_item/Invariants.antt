use Rattle.std.proofs.Common.{◌≡◌, ◌≤◌, ◌-◌, take, drop, map}
use Rattle.http_model.specs.Bytes.{lower, list_items, is_one_of}
use Rattle.h1_read.proofs.LineParts.{Lacks}
use Rattle.h1_read.proofs.shown.has_item.Given as goal

abbrev pub invariant-loop-i : goal.invariant-loop-i
invariant-loop-i l = record {
  order : l.start ≤ l.i;
  lacks : Lacks 44 (take (l.i - l.start) (drop l.start l.list));
  same : is_one_of (map lower (list_items l.list)) l.name ≡ is_one_of (map lower (list_items (drop l.start l.list))) l.name;
}
