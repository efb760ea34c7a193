-- What the definitions read of a configuration.
use Rattle.std.specs.Prelude.{ℕ, Bool}
use Rattle.ext_msgs.specs.declared.modes.PartModes.{PartModes}
use Rattle.header_mutation.specs.declared.rules.Rules.{Rules}

-- what one direction depends on; the product has pieces of 16,384 bytes and a mark of 65,536
pub record CourseConfig : Type 0 where
  pub rules : Rules
  pub buffer_limit : ℕ  -- how many body bytes are kept for one ask
  pub answer_limit : ℕ  -- the greatest answer in bytes
  pub piece : ℕ  -- the greatest piece of a streamed body, and of what is read at once
  pub mark : ℕ  -- with more bytes than that waiting to be given, no ask is made

pub record FilterConfig : Type 0 where
  pub course : CourseConfig
  pub failure_allow : Bool  -- failure_mode_allow
  pub timeout_ms : ℕ  -- message_timeout
  pub max_timeout_ms : ℕ  -- max_message_timeout
  pub allow_override : Bool  -- allow_mode_override
  pub no_immediate : Bool  -- disable_immediate_response
  pub request : PartModes  -- processing_mode
  pub response : PartModes
