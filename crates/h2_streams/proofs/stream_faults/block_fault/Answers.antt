-- The rows are what is kept of the stream, and the tests of the fields.
use Rattle.std.proofs.Common.{◌≡◌, ◌&&◌, ◌||◌, not, true, false, refl, sym, ◌∙◌, ap}
use Rattle.std.specs.List.{list_any}
use Rattle.h2_model.specs.StreamFaults.{has_upper_case, has_late_pseudo}
use Rattle.h2_streams.proofs.Accounted.{block-row}
use Rattle.h2_streams.proofs.stream_faults.block_fault.Goals as goal

pub returns-then-stream : goal.returns-then-stream
returns-then-stream c = λ a b e f. sym (block-row c.args.stream.now c.args.last a b c.args.fields.now e f ∙ rw c.if-stream.true refl)

pub returns-then-is_second : goal.returns-then-is_second
returns-then-is_second c = λ a b e f.
    let second : (not c.args.last && not c.args.stream.now.interim) ≡ true = sym c.is_second.ensures ∙ c.if-is_second.true in
    sym (block-row c.args.stream.now c.args.last a b c.args.fields.now e f ∙ rw c.if-stream.false (rw second refl))

pub returns-then-is_malformed : goal.returns-then-is_malformed
returns-then-is_malformed c = λ a b e f.
    let first : (not c.args.last && not c.args.stream.now.interim) ≡ false = sym c.is_second.ensures ∙ c.if-is_second.false in
    let malformed : (list_any has_upper_case c.args.fields.now || has_late_pseudo c.args.fields.now) ≡ true =
    ap (λ fields. list_any has_upper_case fields || has_late_pseudo fields) (sym c.as_slice.ensures) ∙ sym c.is_malformed.ensures ∙ c.if-is_malformed.true in
    sym (block-row c.args.stream.now c.args.last a b c.args.fields.now e f ∙ rw c.if-stream.false (rw first (rw malformed refl)))

pub returns : goal.returns
returns c = λ a b e f.
    let first : (not c.args.last && not c.args.stream.now.interim) ≡ false = sym c.is_second.ensures ∙ c.if-is_second.false in
    let well_formed : (list_any has_upper_case c.args.fields.now || has_late_pseudo c.args.fields.now) ≡ false =
    ap (λ fields. list_any has_upper_case fields || has_late_pseudo fields) (sym c.as_slice.ensures) ∙ sym c.is_malformed.ensures ∙ c.if-is_malformed.false in
    sym (block-row c.args.stream.now c.args.last a b c.args.fields.now e f ∙ rw c.if-stream.false (rw first (rw well_formed refl)))
