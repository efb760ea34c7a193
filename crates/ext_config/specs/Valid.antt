-- A configuration that the key table lets through.
use Rattle.std.specs.Prelude.{ℕ, ◌≡◌, ◌≤◌, true}
use Rattle.ext_config.specs.declared.config.Config.{Config}
use Rattle.ext_config.specs.Keys.{are_prefixes, is_authority}

abbrev pub IsBetween : ℕ → ℕ → ℕ → Type 0
IsBetween low high n = (low ≤ n) × (n ≤ high)

-- each number, text and list is in its range; modes and truth values always are
pub record IsValid (config : Config) : Type 0 where
  pub timeout : IsBetween 1 3600000 config.timeout_ms
  pub max_timeout : IsBetween 0 3600000 config.max_timeout_ms
  pub disallow_prefixes : are_prefixes config.rules.disallow_prefixes ≡ true
  pub allow_prefixes : are_prefixes config.rules.allow_prefixes ≡ true
  pub buffer_limit : IsBetween 1 1048576 config.buffer_limit
  pub answer_limit : IsBetween 1024 2097152 config.answer_limit
  pub max_exchanges : IsBetween 1 64 config.max_exchanges
  pub authority : is_authority config.authority ≡ true
