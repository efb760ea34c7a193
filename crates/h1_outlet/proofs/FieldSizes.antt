-- Sizes of fields, one by one, and of parts.
use Rattle.std.proofs.Common.{sym, ◌∙◌, ap, arith, add-one, drop-cons, slice_index_or}
use Rattle.std.proofs.lemmas.List.Sums.{sum_by-cons}
use Rattle.std.specs.Prelude.{ℕ, suc, ◌≡◌, ◌+◌, ◌-◌, ◌<◌, ◌≤◌, List, ◌++◌, length, drop, Option, Some, None}
use Rattle.ext_msgs.specs.declared.lists.Field.{Field}
use Rattle.http_model.specs.Wire.{interim}
use Rattle.http_model.specs.declared.types.Framing.{Framing}
use Rattle.http_model.specs.declared.types.Framing.TheVariants.{NoField, Length, Chunked}
use Rattle.http_model.specs.declared.types.Out.{Out}
use Rattle.http_model.specs.declared.types.Out.TheVariants as part
use Rattle.filter_model.specs.Given.{data_at}
use Rattle.filter_model.specs.Held.{field_bytes}
use Rattle.h1_outlet.specs.Parts.{part_size}
use Rattle.h1_outlet.specs.Outlets.{Flowed, all, body_in, body_of, held}
use Rattle.h1_outlet.specs.Stands.{StandsFor}
use Rattle.h1_outlet.specs.declared.outlet.Outlet.{Outlet}

pub size_at : (fields : List Field) (i : ℕ) (d : Field) → i < length fields
    → field_bytes (drop i fields) ≡ length (slice_index_or fields i d).name + length (slice_index_or fields i d).value + field_bytes (drop (i + 1) fields)
size_at fields i d h = rw (add-one, drop-cons fields i d) (sum_by-cons (λ (f : Field). length f.name + length f.value) (slice_index_or fields i d) (drop (suc i) fields))

-- A part has no more body bytes than that

data_most : (framing : Option Framing) (n : ℕ) (out : Out) → data_at framing n out ≤ part_size out
data_most None n out = omega arith
data_most (Some NoField) n (part.Data bytes) = omega arith
data_most (Some (Length m)) n (part.Data bytes) = omega arith
data_most (Some Chunked) n (part.Data bytes) = omega arith
data_most (Some NoField) n (part.Head fields own) = omega arith
data_most (Some (Length m)) n (part.Head fields own) = omega arith
data_most (Some Chunked) n (part.Head fields own) = omega arith
data_most (Some NoField) n (part.Trailers fields) = omega arith
data_most (Some (Length m)) n (part.Trailers fields) = omega arith
data_most (Some Chunked) n (part.Trailers fields) = omega arith
data_most (Some NoField) n part.End = omega arith
data_most (Some (Length m)) n part.End = omega arith
data_most (Some Chunked) n part.End = omega arith
data_most (Some NoField) n part.Nothing = omega arith
data_most (Some (Length m)) n part.Nothing = omega arith
data_most (Some Chunked) n part.Nothing = omega arith

pub waits_held : (f : Flowed) (x : Outlet) → StandsFor f x → body_in f (length (all f)) - body_in f f.given ≤ held x
waits_held f x s =
    let rest : ℕ = length (all f) - f.given in
    let w = s.within in
    let whole : f.given + rest ≡ length (all f) = omega arith in
    let count : body_in f (length (all f)) ≡ body_in f f.given + body_of x rest = ap (body_in f) (sym whole) ∙ s.body rest in
    let most = data_most x.framing (rest - length (x.going.left ++ interim x.interim)) x.next in
    let fits = s.fits in
    omega (arith, count, most, fits)
