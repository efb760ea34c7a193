-- When all that has bytes of a message was handed out: once those bytes were given, a side has all of it.
use Rattle.std.specs.Prelude.{◌==◌, Bool, true, false, ◌&&◌, ◌||◌, length, Option, Some, None}
use Rattle.http_model.specs.declared.types.Framing.{Framing}
use Rattle.http_model.specs.declared.types.Framing.TheVariants.{NoField, Length, Chunked}
use Rattle.http_model.specs.declared.types.Out.{Out}
use Rattle.http_model.specs.declared.types.Out.TheVariants as part
use Rattle.filter_model.specs.Course.{Changed, Outgoing, body_of}
use Rattle.filter_model.specs.Half.{Taken}

-- the last chunk goes out with the trailers or with the end; in another framing neither has bytes
abbrev pub is_tail_handed : Framing → Taken → Bool
is_tail_handed Chunked t = t.trailers || t.ended
is_tail_handed NoField t = true
is_tail_handed (Length n) t = true

abbrev pub is_tail_at : Option Outgoing → Taken → Bool
is_tail_at None t = false
is_tail_at (Some head) t = is_tail_handed head.framing t

-- every byte that goes out of a message that has ended was handed out
abbrev pub is_all_handed : Changed → Taken → Bool
is_all_handed m t = m.ended && t.head && (t.body == length (body_of m)) && is_tail_at m.head t

abbrev pub is_nothing : Out → Bool
is_nothing part.Nothing = true
is_nothing _ = false
