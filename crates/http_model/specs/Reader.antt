-- What everything above needs of a reader: reading on extends what was read.
use Rattle.std.specs.Prelude.{◌≡◌, ◌⊎◌, ℕ, Bool, true, false, ◌||◌, List, [], ◌++◌, None}
use Rattle.http_model.specs.Bytes.{IsPrefix}
use Rattle.http_model.specs.Heads.{is_bodiless}
use Rattle.http_model.specs.Reads.{Original}
use Rattle.http_model.specs.declared.types.Direction.{Direction}
use Rattle.http_model.specs.declared.types.Direction.TheVariants.{Request, Response}

-- a message that wasn't whole goes on
pub record Longer (o o' : Original) : Type 0 where
  pub unfinished : o.whole ≡ false
  pub trailers : o.trailers ≡ []
  pub head : o'.head ≡ o.head
  pub length : o'.length ≡ o.length
  pub expects : o'.expects ≡ o.expects
  pub body : IsPrefix o.body o'.body

-- nothing changed, or the head wasn't read, or the body goes on
abbrev pub Extends : Original → Original → Type 0
Extends o o' = (o' ≡ o) ⊎ ((o.head ≡ None) ⊎ Longer o o')

pub record IsReader (read : Direction → Bool → List ℕ → Bool → Original) : Type 0 where
  -- more bytes come to a message that isn't whole; an end stays
  pub extends : (d : Direction) (to_head : Bool) (bytes more : List ℕ) (e e' : Bool) → ((read d to_head bytes e).whole ≡ true → more ≡ [])
      → Extends (read d to_head bytes e) (read d to_head (bytes ++ more) (e || e'))
  -- a message whose head says that it has no body has none
  pub bodiless : (d : Direction) (to_head : Bool) (bytes : List ℕ) (e : Bool) → is_bodiless (read d to_head bytes e).length ≡ true
      → (read d to_head bytes e).body ≡ []
  -- what is whole has a head, and before its head nothing is owed
  pub headed : (d : Direction) (to_head : Bool) (bytes : List ℕ) (e : Bool) → (read d to_head bytes e).head ≡ None
      → ((read d to_head bytes e).whole ≡ false) × ((read d to_head bytes e).expects ≡ false)
  -- no byte, no head
  pub early : (d : Direction) (to_head e : Bool) → (read d to_head [] e).head ≡ None
  -- the method of the request counts for a response alone, and not before its first byte
  pub request : (x y : Bool) (bytes : List ℕ) (e : Bool) → read Request x bytes e ≡ read Request y bytes e
  pub response : (x y e : Bool) → read Response x [] e ≡ read Response y [] e
