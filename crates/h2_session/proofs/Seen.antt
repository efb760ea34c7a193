-- What is seen of an account, part by part.
use Rattle.std.proofs.Common.{◌≡◌, refl}
use Rattle.h2_model.specs.Account.{Account}
use Rattle.h2_model.specs.Blocks.{blocks, open_block, table_after}
use Rattle.h2_model.specs.Settings.{known_limit, table_limit}
use Rattle.h2_model.specs.State.{seen}
use Rattle.h2_model.specs.Windows.{receiving_window}

pub seen-block : (a : Account) → (seen a).block ≡ open_block a.log
unfolding seen
seen-block a = refl

pub seen-table : (a : Account) → (seen a).table ≡ table_after (blocks a.log)
unfolding seen
seen-table a = refl

pub seen-known : (a : Account) → (seen a).known ≡ known_limit a.log
unfolding seen
seen-known a = refl

pub seen-limit : (a : Account) → (seen a).limit ≡ table_limit a.log
unfolding seen
seen-limit a = refl

pub seen-receive : (a : Account) → (seen a).receive ≡ receiving_window 0 a.log
unfolding seen
seen-receive a = refl

pub seen-waiting : (a : Account) → (seen a).waiting ≡ a.waiting
unfolding seen
seen-waiting a = refl

pub seen-unreported : (a : Account) → (seen a).unreported ≡ a.unreported
unfolding seen
seen-unreported a = refl
