use Rattle.std.proofs.Common.{◌≡◌, drop}
use Rattle.serde_json.specs.View.{items_view}
use Rattle.ext_config.specs.Keys.{texts}
use Rattle.ext_config.proofs.Texts.{after}
use Rattle.ext_config.proofs.values.texts.Given as goal

abbrev pub invariant-loop-item : goal.invariant-loop-item
invariant-loop-item l = texts (items_view l.items.items) ≡ after l.names (texts (items_view (drop l.item-index l.items.items)))
