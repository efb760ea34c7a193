-- A table stays one.
use Rattle.std.proofs.Common.{◌≡◌, ℕ, ◌<◌, Bool, true, false, nat_eq, List, ◌++◌, length, take, drop, slice_index_or, slice_set, Some, None, suc, subst, refl, sym, ◌∙◌, ap, option_to_list, arith}
use Rattle.std.specs.List.{remove}
use Rattle.std.proofs.lemmas.List.Elements.{All-set}
use Rattle.std.proofs.lemmas.Bool.{eqb-true}
use Rattle.std.proofs.lemmas.Grind.{get_or-set_at}
use Rattle.std.proofs.lemmas.List.{get_or-set_other, length-set, set_split, get_or_default}
use Rattle.h2_model.specs.declared.stream.Stream.{Stream}
use Rattle.h2_model.specs.State.{found}
use Rattle.h2_model.specs.Moves.{adjusted}
use Rattle.h2_streams.specs.declared.changes.Change.{Change}
use Rattle.h2_streams.specs.Changes.{changed, Same}
use Rattle.h2_streams.specs.Tables.{HasCreditInRange, IsStreamTable}
use Rattle.h2_streams.proofs.Places.{adjusted-here, found-here}

apart_from : (k at : ℕ) → nat_eq k at ≡ false → k ≡ at → ⊥
apart_from k at q h = grind (arith, q, h)

ids-set : (xs : List Stream) (at k : ℕ) (s d : Stream) → at < length xs → ((d : Stream) → s.id ≡ (slice_index_or xs at d).id)
    → (slice_index_or (slice_set xs at s) k d).id ≡ (slice_index_or xs k d).id
ids-set xs at k s d l e = by (nat_eq k at) refl
  where
    by : (c : Bool) → nat_eq k at ≡ c → (slice_index_or (slice_set xs at s) k d).id ≡ (slice_index_or xs k d).id
    by true q =
        let h : k ≡ at = eqb-true k at q in
        ap (λ x. x.id) (get_or-set_at xs at k s d h l) ∙ e d ∙ ap (λ i. (slice_index_or xs i d).id) (sym h)
    by false q = ap (λ x. x.id) (get_or-set_other xs at k s d (λ h. absurd (apart_from k at q h)))

pub table-set : (xs : List Stream) (at : ℕ) (s : Stream) → at < length xs → ((d : Stream) → s.id ≡ (slice_index_or xs at d).id) → HasCreditInRange s → IsStreamTable xs → IsStreamTable (slice_set xs at s)
table-set xs at s l e r t = record {
  order = λ i j d m n. subst (λ a. a < (slice_index_or (slice_set xs at s) j d).id) (sym (ids-set xs at i s d l e))
      (subst (λ b. (slice_index_or xs i d).id < b) (sym (ids-set xs at j s d l e)) (t.order i j d m (subst (λ k. j < k) (length-set xs at s) n)));
  range = All-set HasCreditInRange xs at s r t.range;
}

-- The stream at a place that has a number

own-place : (xs : List Stream) (at : ℕ) (s : Stream) → s ≡ slice_index_or xs at s → at < length xs → (d : Stream) → slice_index_or xs at d ≡ s
own-place xs at s e l d = get_or_default xs at d s l ∙ sym e

pub its-change : (xs : List Stream) (id at : ℕ) (s : Stream) → IsStreamTable xs → at < length xs → ((d : Stream) → (slice_index_or xs at d).id ≡ id)
    → s ≡ slice_index_or xs at s → found id xs ≡ Some s
its-change xs id at s t l own e = found-here xs id at t.order l own s ∙ ap (λ x. Some x) (sym e)

pub stored : (xs : List Stream) (id at : ℕ) (change : Change) (s next : Stream) → IsStreamTable xs → at < length xs → ((d : Stream) → (slice_index_or xs at d).id ≡ id)
    → s ≡ slice_index_or xs at s → Some next ≡ changed change s → slice_set xs at next ≡ adjusted id (changed change) xs
stored xs id at change s next t l own e c =
    set_split xs at next l
    ∙ ap (λ o. take at xs ++ (option_to_list o ++ drop (suc at) xs)) (c ∙ ap (changed change) e)
    ∙ sym (adjusted-here xs id at (changed change) t.order l own s)

pub stays-table : (xs : List Stream) (at : ℕ) (s next : Stream) → IsStreamTable xs → at < length xs → s ≡ slice_index_or xs at s → Same s next → IsStreamTable (slice_set xs at next)
stays-table xs at s next t l e k = table-set xs at next l (λ d. k.id ∙ ap (λ x. x.id) (sym (own-place xs at s e l d))) k.range t

pub removed : (xs : List Stream) (id at : ℕ) (change : Change) (s : Stream) → IsStreamTable xs → at < length xs → ((d : Stream) → (slice_index_or xs at d).id ≡ id)
    → s ≡ slice_index_or xs at s → None ≡ changed change s → remove xs at ≡ adjusted id (changed change) xs
removed xs id at change s t l own e c =
    ap (λ o. take at xs ++ (option_to_list o ++ drop (suc at) xs)) (c ∙ ap (changed change) e)
    ∙ sym (adjusted-here xs id at (changed change) t.order l own s)
