-- What a driver knows of the half that it drives.
use Rattle.std.specs.Prelude.{ℕ, ◌+◌, ◌≡◌, ◌≤◌, Bool, true, false, length, None, is_some}
use Rattle.http_model.specs.Heads.{is_bodiless}
use Rattle.filter_model.specs.Half.{Past, course, progress}
use Rattle.http_model.specs.declared.types.Out.{Out}
use Rattle.http_model.specs.declared.types.Out.TheVariants as part
use Rattle.half_machine.specs.Stands.{StandsFor}
use Rattle.half_machine.specs.declared.half.Half.{Half}

pub record Follows (read unfinished : Bool) (unsent waiting : ℕ) (p : Past) : Type 0 where
  pub unread : read ≡ false → (course p).original.head ≡ None
  -- body bytes may come
  pub reads : unfinished ≡ true
      → (is_some (course p).original.head ≡ true) × (is_bodiless (course p).original.length ≡ false) × ((course p).original.whole ≡ false)
  -- so many asks were handed out and not sent, and so many body bytes handed out and not given
  pub sends : (course p).sent + unsent ≤ (progress p).handed
  pub gives : (course p).given + waiting ≤ (progress p).taken.body

abbrev pub Driving : Half → Bool → Bool → ℕ → ℕ → ℕ → Type 0
Driving x read unfinished unsent waiting answer_limit =
    (p : Past) × StandsFor p x × Follows read unfinished unsent waiting p × (p.config.answer_limit ≡ answer_limit)

abbrev pub size_of : Out → ℕ
size_of (part.Data bytes) = length bytes
size_of _ = 0
