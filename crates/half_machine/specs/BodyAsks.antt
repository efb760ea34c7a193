-- What is known of the asks of a body, as long as nothing is released.
use Rattle.std.specs.Prelude.{◌≡◌, ◌⊎◌, true, false, Some, is_some}
use Rattle.std.specs.List.{list_any}
use Rattle.http_model.specs.Heads.{is_bodiless}
use Rattle.filter_model.specs.Course.{Course, Outgoing, is_body, is_buffered, is_headers, answer_to, replaces}
use Rattle.filter_model.specs.Sound.{once}

pub record BodyAsks (w : Course) : Type 0 where
  -- what is asked whole is asked once
  pub single : is_buffered w.modes.body ≡ true → once is_body w.asks ≡ true
  -- of a message without a body nothing is asked
  pub there : is_bodiless w.original.length ≡ true → list_any is_body w.asks ≡ false
  -- nor of one that passes behind its headers answer
  pub going : list_any is_body w.asks ≡ true → replaces (answer_to is_headers w) ≡ false
  -- the head waits for the body that is asked whole
  pub waits : (o : Outgoing) → w.head ≡ Some o → w.released ≡ false → is_buffered w.modes.body ≡ true
      → (is_bodiless w.original.length ≡ true) ⊎ ((replaces (answer_to is_headers w) ≡ true) ⊎ (is_some (answer_to is_body w) ≡ true))
