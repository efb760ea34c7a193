-- What an outlet stands for, what may be put, and what is given.
use Rattle.std.specs.Prelude.{ℕ, ◌+◌, ◌-◌, ◌≡◌, ◌≤◌, List, [], ◌∷◌, length, take, drop, Option, Some, None}
use Rattle.http_model.specs.declared.types.Direction.{Direction}
use Rattle.http_model.specs.declared.types.Out.{Out}
use Rattle.http_model.specs.declared.types.Out.TheVariants as part
use Rattle.filter_model.specs.HalfRight.{framing_in, has_trailers}
use Rattle.h1_outlet.specs.Outlets.{Flowed, all, body_in, left_of, body_of}
use Rattle.h1_outlet.specs.declared.going.Gave.{Gave}
use Rattle.h1_outlet.specs.declared.outlet.Outlet.{Outlet}

pub record StandsFor (f : Flowed) (x : Outlet) : Type 0 where
  pub direction : x.direction ≡ f.direction
  pub framing : x.framing ≡ framing_in f.parts
  pub trailers : x.trailers ≡ has_trailers f.parts
  pub within : f.given ≤ length (all f)
  pub left : left_of x ≡ drop f.given (all f)
  pub reply : f.reply ≡ [] → x.reply ≡ []
  pub fits : x.going.skip + x.going.body ≤ length x.going.left
  pub body : (n : ℕ) → body_in f (f.given + n) ≡ body_in f f.given + body_of x n

abbrev pub fresh : Direction → Flowed
fresh d = record { direction = d; front = []; parts = []; reply = []; given = 0 }

-- no part but that nothing may go yet
abbrev pub AreNone : List Out → Type 0
AreNone [] = Unit {0}
AreNone (part.Nothing ∷ parts) = AreNone parts
AreNone (out ∷ parts) = ⊥

-- nothing was handed
pub record MayOwe (f : Flowed) : Type 0 where
  pub front : f.front ≡ []
  pub parts : AreNone f.parts
  pub reply : f.reply ≡ []
  pub given : f.given ≡ 0

-- a head comes once
abbrev pub IsPlaced : Flowed → Out → Type 0
IsPlaced f (part.Head fields framing) = framing_in f.parts ≡ None
IsPlaced f _ = Unit {0}

-- a part comes once all before it was given
pub record MayPut (f : Flowed) (out : Out) : Type 0 where
  pub idle : f.given ≡ length (all f)
  pub reply : f.reply ≡ []
  pub placed : IsPlaced f out

-- the next bytes, from 1 to max, and how many of them are of the body
pub record IsNext (max : ℕ) (f : Flowed) (gave : Gave) : Type 0 where
  pub least : 1 ≤ length gave.bytes
  pub most : length gave.bytes ≤ max
  pub bytes : gave.bytes ≡ take (length gave.bytes) (drop f.given (all f))
  pub body : gave.body ≡ body_in f (f.given + length gave.bytes) - body_in f f.given

-- none where nothing waits
abbrev pub IsGiven : ℕ → Flowed → Option Gave → Type 0
IsGiven max f None = f.given ≡ length (all f)
IsGiven max f (Some gave) = IsNext max f gave
