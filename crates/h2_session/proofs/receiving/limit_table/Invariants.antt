-- The least size among the settings so far.
use Rattle.std.proofs.Common.{◌≡◌, drop}
use Rattle.h2_model.specs.Settings.{least_in}
use Rattle.h2_session.proofs.receiving.limit_table.Given as goal

abbrev pub invariant-loop-setting : goal.invariant-loop-setting
invariant-loop-setting l = record {
  limit : least_in l.list l.initial.encoder.limit ≡ least_in (drop l.setting-index l.list) l.encoder.limit;
  table : l.encoder.table ≡ l.initial.encoder.table;
}
