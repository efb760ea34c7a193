-- What a message has become only grows.
use Rattle.std.specs.Prelude.{◌≡◌, ◌⊎◌, false, [], None}
use Rattle.http_model.specs.Bytes.{IsPrefix}
use Rattle.filter_model.specs.Course.{Changed}

-- pieces are added while nothing passes yet, or passing bytes behind the same pieces
abbrev pub BodyGoesOn : Changed → Changed → Type 0
BodyGoesOn m m' = ((m.passing ≡ []) × IsPrefix m.pieces m'.pieces) ⊎ ((m'.pieces ≡ m.pieces) × IsPrefix m.passing m'.passing)

pub record GoesOn (m m' : Changed) : Type 0 where
  pub head : m'.head ≡ m.head
  pub unended : m.ended ≡ false
  pub body : BodyGoesOn m m'

-- there was no head yet, or nothing changed, or a message that hadn't ended goes on behind the same head
abbrev pub Grown : Changed → Changed → Type 0
Grown m m' = (m.head ≡ None) ⊎ ((m' ≡ m) ⊎ GoesOn m m')
