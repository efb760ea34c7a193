-- What an outlet was handed and gave, and what it still has.
use Rattle.std.specs.Prelude.{ℕ, ◌+◌, ◌-◌, min, Bool, true, false, not, ◌&&◌, List, [], ◌∷◌, ◌++◌, length, Option, Some, None}
use Rattle.http_model.specs.Bytes.{is_empty}
use Rattle.http_model.specs.Wire.{interim}
use Rattle.http_model.specs.declared.types.Direction.{Direction}
use Rattle.http_model.specs.declared.types.Out.{Out}
use Rattle.http_model.specs.declared.types.Out.TheVariants as part
use Rattle.filter_model.specs.HalfRight.{written_parts}
use Rattle.filter_model.specs.Given.{data_in, data_at}
use Rattle.h1_outlet.specs.Parts.{framing_with, trailers_with, part_size, unwritten, has_bytes, written_way}
use Rattle.h1_outlet.specs.Ways.{plain}
use Rattle.h1_outlet.specs.declared.going.Gave.{Gave}
use Rattle.h1_outlet.specs.declared.outlet.Outlet.{Outlet}

-- what an outlet was handed, and how much of it was given
pub record Flowed : Type 0 where
  pub direction : Direction
  pub front : List ℕ  -- an interim response, or none
  pub parts : List Out  -- newest first
  pub reply : List ℕ  -- of the proxy's own, behind all else
  pub given : ℕ  -- so many bytes of all

abbrev pub all : Flowed → List ℕ
all f = f.front ++ written_parts f.direction f.parts ++ f.reply

-- how many body bytes the first n have
abbrev pub body_in : Flowed → ℕ → ℕ
body_in f n = data_in f.direction f.parts (n - length f.front)

-- One call more

abbrev pub with_interim : Flowed → Flowed
with_interim f = record f { front = interim true }

abbrev pub with_part : Out → Flowed → Flowed
with_part out f = record f { parts = out ∷ f.parts }

abbrev pub with_reply : List ℕ → Flowed → Flowed
with_reply bytes f = record f { reply = bytes }

abbrev pub after_give : Option Gave → Flowed → Flowed
after_give None f = f
after_give (Some gave) f = record f { given = f.given + length gave.bytes }

-- What an outlet has

-- the bytes that are left
abbrev pub left_of : Outlet → List ℕ
left_of x = x.going.left ++ interim x.interim ++ unwritten x.direction x.framing x.trailers x.next ++ x.reply

-- how many body bytes the first n of them have
abbrev pub body_of : Outlet → ℕ → ℕ
body_of x n =
    min (n - x.going.skip) x.going.body
    + data_at x.framing (n - length (x.going.left ++ interim x.interim)) x.next

abbrev pub is_idle : Outlet → Bool
is_idle x =
    is_empty x.going.left && not x.interim && not (has_bytes x.framing x.trailers x.next) && is_empty x.reply

-- so much is kept that wasn't given
abbrev pub held : Outlet → ℕ
held x = length x.going.left + part_size x.next + length x.reply

-- the bytes that are given next are the interim response, the part that was put last, or the reply
abbrev pub refilled_with : Bool → Bool → Outlet → Outlet
refilled_with true some x = record x { going = plain (interim true); interim = false }
refilled_with false true x = record x {
  going = written_way x.direction x.framing x.trailers x.next;
  next = part.Nothing;
}
refilled_with false false x = record x { going = plain x.reply; next = part.Nothing; reply = [] }

abbrev pub refilled : Outlet → Outlet
refilled x = refilled_with x.interim (has_bytes x.framing x.trailers x.next) x

abbrev pub ready_at : Bool → Outlet → Outlet
ready_at true x = refilled x
ready_at false x = x

abbrev pub readied : Outlet → Outlet
readied x = ready_at (is_empty x.going.left) x

abbrev pub holding : Out → Outlet → Outlet
holding out x = record x {
  framing = framing_with x.framing out;
  trailers = trailers_with x.trailers out;
  next = out;
}
