-- What may be handed out in pieces of a size may be so in greater ones.
use Rattle.std.proofs.Common.{arith}
use Rattle.std.specs.Prelude.{ℕ, ◌≡◌, ◌-◌, ◌≤◌, Bool, true, false, List, [], ◌∷◌, length, drop, nat_lt}
use Rattle.http_model.specs.declared.types.Out.{Out}
use Rattle.http_model.specs.declared.types.Out.TheVariants as part
use Rattle.filter_model.specs.Course.{Changed}
use Rattle.filter_model.specs.Half.{Taken, IsNextData, MayGive}

abbrev Next : ℕ → List ℕ → List (List ℕ) → List ℕ → ℕ → List ℕ → Bool → Type 0
Next max p ps passing n b q = elim q [ true ↦ b ≡ drop n p | false ↦ IsNextData max ps passing (n - length p) b ]

more_data : (max more : ℕ) (pieces : List (List ℕ)) (passing : List ℕ) (n : ℕ) (b : List ℕ) → max ≤ more → IsNextData max pieces passing n b → IsNextData more pieces passing n b
more_data max more [] passing n b l k = (k.0, (let e = k.1 in omega arith), k.2)
more_data max more (p ∷ ps) passing n b l k = by (nat_lt n (length p)) (more_data max more ps passing (n - length p) b l) k
  where
    by : (q : Bool) → (IsNextData max ps passing (n - length p) b → IsNextData more ps passing (n - length p) b) → Next max p ps passing n b q → Next more p ps passing n b q
    by true f k = k
    by false f k = f k

pub wider : (max more : ℕ) (m : Changed) (t : Taken) (out : Out) → max ≤ more → MayGive max m t out → MayGive more m t out
wider max more m t (part.Head fields framing) l k = k
wider max more m t (part.Data bytes) l k = (k.0, more_data max more m.pieces m.passing t.body bytes l k.1)
wider max more m t (part.Trailers fields) l k = k
wider max more m t part.End l k = k
wider max more m t part.Nothing l k = k
