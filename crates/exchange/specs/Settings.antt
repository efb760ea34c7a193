-- What an exchange is made with.
use Rattle.std.specs.Prelude.{◌≡◌, ◌≤◌, true, false}
use Rattle.filter_model.specs.Config.{FilterConfig}
use Rattle.ext_config.specs.declared.config.Config.{Config}
use Rattle.header_mutation.specs.declared.setup.HalfSetup.{HalfSetup}
use Rattle.exchange.specs.declared.settings.Settings.{Settings}

-- the sizes of the product
pub record HasSizes (c : FilterConfig) : Type 0 where
  pub piece : c.course.piece ≡ 16_384
  pub mark : c.course.mark ≡ 65_536
  pub buffer_least : 1 ≤ c.course.buffer_limit
  pub buffer_most : c.course.buffer_limit ≤ 1_048_576
  pub answer_least : 1_024 ≤ c.course.answer_limit
  pub answer_most : c.course.answer_limit ≤ 2_097_152

-- what an exchange keeps of its configuration
pub record OfSettings (c : FilterConfig) (x : Settings) : Type 0 where
  pub failure_allow : x.failure_allow ≡ c.failure_allow
  pub timeout_ms : x.timeout_ms ≡ c.timeout_ms
  pub max_timeout_ms : x.max_timeout_ms ≡ c.max_timeout_ms
  pub few_ms : c.max_timeout_ms ≤ 3_600_000
  pub allow_override : x.allow_override ≡ c.allow_override
  pub no_immediate : x.no_immediate ≡ c.no_immediate

-- the definitions' view of a configuration
pub record FitsConfig (c : FilterConfig) (config : Config) : Type 0 where
  pub piece : c.course.piece ≡ 16_384
  pub mark : c.course.mark ≡ 65_536
  pub rules : c.course.rules ≡ config.rules
  pub buffer_limit : c.course.buffer_limit ≡ config.buffer_limit
  pub answer_limit : c.course.answer_limit ≡ config.answer_limit
  pub failure_allow : c.failure_allow ≡ config.failure_allow
  pub timeout_ms : c.timeout_ms ≡ config.timeout_ms
  pub max_timeout_ms : c.max_timeout_ms ≡ config.max_timeout_ms
  pub allow_override : c.allow_override ≡ config.allow_override
  pub no_immediate : c.no_immediate ≡ config.no_immediate
  pub request : c.request ≡ config.request
  pub response : c.response ≡ config.response

-- What is made of it

abbrev pub settings_of : Config → Settings
settings_of x = record {
  failure_allow = x.failure_allow;
  timeout_ms = x.timeout_ms;
  max_timeout_ms = x.max_timeout_ms;
  allow_override = x.allow_override;
  no_immediate = x.no_immediate;
}

abbrev pub request_setup : Config → HalfSetup
request_setup x = record {
  response = false;
  modes = x.request;
  rules = x.rules;
  buffer_limit = x.buffer_limit;
  answer_limit = x.answer_limit;
}

abbrev pub response_setup : Config → HalfSetup
response_setup x = record {
  response = true;
  modes = x.response;
  rules = x.rules;
  buffer_limit = x.buffer_limit;
  answer_limit = x.answer_limit;
}
