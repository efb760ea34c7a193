-- The streams that GOAWAY refused and that weren't told.
use Rattle.std.specs.Prelude.{ℕ}
use Rattle.h2_model.specs.declared.answers.Event.{Event}
use Rattle.h2_model.specs.declared.answers.Event.TheVariants.{Reset}
use Rattle.h2_model.specs.Codes.{refused_stream}

abbrev pub refused : ℕ → Event
refused id = Reset id refused_stream
