-- A value of all records is the same, added up record by record.
use Rattle.std.proofs.Common.{◌≡◌, List, [], ◌∷◌, ◌++◌, sym, ap, ◌∙◌, append_assoc, fold}
use Rattle.std.proofs.lemmas.List.{append-nil}
use Rattle.pb_wire.specs.Records.{Entry}

abbrev pub AddsOne : {S : Type 0} → (S → Entry → S) → (List Entry → S) → Type 0
AddsOne add value = (es : List Entry) (e : Entry) → add (value es) e ≡ value (es ++ e ∷ [])

pub fold_from : {S : Type 0} (add : S → Entry → S) (value : List Entry → S) → AddsOne add value → (before more : List Entry) → fold add (value before) more ≡ value (before ++ more)
fold_from add value one before [] = ap value (sym (append-nil before))
fold_from add value one before (e ∷ more) =
    ap (λ s. fold add s more) (one before e) ∙ fold_from add value one (before ++ e ∷ []) more ∙ ap value (append_assoc before (e ∷ []) more)

pub fold_all : {S : Type 0} (add : S → Entry → S) (value : List Entry → S) → AddsOne add value → (es : List Entry) → fold add (value []) es ≡ value es
fold_all add value one es = fold_from add value one [] es
