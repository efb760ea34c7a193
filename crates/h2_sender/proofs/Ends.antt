-- The ends of a stream that is reset, placed anew one by one, the last of them at last.
use Rattle.std.proofs.Common.{arith, ◌≡◌, ◌<◌, ◌+◌, Bool, true, false, not, List, [], ◌∷◌, ◌++◌, length, get_or, take, drop, map, cond, ℕ, suc, refl, ap, sym, ◌∙◌, append-nil}
use Rattle.std.specs.List.{filter, remove}
use Rattle.std.proofs.lemmas.List.{drop_more, map_push, take-append-drop}
use Rattle.std.proofs.lemmas.List.Elements.{filter-append}
use Rattle.h2_model.specs.Queue.{Waiting, placed, all_placed, is_free_of, with_place, with_end_placed}

all_placed_push : (xs : List Waiting) (x : Waiting) (queue : List Waiting) → all_placed (xs ++ x ∷ []) queue ≡ placed x (all_placed xs queue)
all_placed_push [] x queue = refl
all_placed_push (y ∷ xs) x queue = all_placed_push xs x (placed y queue)

abbrev others : ℕ → List Waiting → List Waiting
others id queue = filter (λ w. not (is_free_of id w)) queue

none_free : (id : ℕ) (queue : List Waiting) → filter (is_free_of id) queue ≡ [] → others id queue ≡ queue
none_free id [] none = refl
none_free id (w ∷ queue) none = by_test (is_free_of id w) none (none_free id queue) where
  by_test : (free : Bool) → cond free (w ∷ filter (is_free_of id) queue) (filter (is_free_of id) queue) ≡ [] → (filter (is_free_of id) queue ≡ [] → others id queue ≡ queue) → cond (not free) (w ∷ others id queue) (others id queue) ≡ w ∷ queue
  by_test true e ih = cc
  by_test false e ih = ap (λ (q : List Waiting). w ∷ q) (ih e)

pub no_ends : (id : ℕ) (queue : List Waiting) → filter (is_free_of id) queue ≡ [] → with_end_placed id queue ≡ queue
no_ends id queue none = ap (λ (ends : List Waiting). all_placed (map with_place ends) (others id queue)) none ∙ none_free id queue none

ends_in : (id : ℕ) (front back : List Waiting) (w : Waiting) → is_free_of id w ≡ true → filter (is_free_of id) back ≡ [] → with_end_placed id (front ++ w ∷ back) ≡ placed (with_place w) (with_end_placed id (front ++ back))
ends_in id front back w free none =
    let here : filter (is_free_of id) (w ∷ back) ≡ w ∷ [] = rw free (ap (λ (q : List Waiting). w ∷ q) none) in
    let ends : filter (is_free_of id) (front ++ w ∷ back) ≡ filter (is_free_of id) front ++ w ∷ [] = filter-append (is_free_of id) front (w ∷ back) ∙ ap (λ (q : List Waiting). filter (is_free_of id) front ++ q) here in
    let before : filter (is_free_of id) (front ++ back) ≡ filter (is_free_of id) front = filter-append (is_free_of id) front back ∙ ap (λ (q : List Waiting). filter (is_free_of id) front ++ q) none ∙ append-nil (filter (is_free_of id) front) in
    let skipped : others id (w ∷ back) ≡ others id back = rw free refl in
    let rest : others id (front ++ w ∷ back) ≡ others id (front ++ back) = filter-append (λ (x : Waiting). not (is_free_of id x)) front (w ∷ back) ∙ ap (λ (q : List Waiting). others id front ++ q) skipped ∙ sym (filter-append (λ (x : Waiting). not (is_free_of id x)) front back) in
    ap (λ (q : List Waiting). all_placed (map with_place q) (others id (front ++ w ∷ back))) ends
    ∙ ap (λ (q : List Waiting). all_placed (map with_place (filter (is_free_of id) front ++ w ∷ [])) q) rest
    ∙ ap (λ (q : List Waiting). all_placed q (others id (front ++ back))) (map_push with_place (filter (is_free_of id) front) w)
    ∙ all_placed_push (map with_place (filter (is_free_of id) front)) (with_place w) (others id (front ++ back))
    ∙ ap (λ (q : List Waiting). placed (with_place w) (all_placed (map with_place q) (others id (front ++ back)))) (sym before)

-- the last one is placed behind the others
pub last_end : (id : ℕ) (queue : List Waiting) (i : ℕ) (w : Waiting) → i < length queue → w ≡ get_or queue i w → is_free_of id w ≡ true → filter (is_free_of id) (drop (suc i) queue) ≡ [] → with_end_placed id queue ≡ placed (with_place w) (with_end_placed id (remove queue i))
last_end id queue i w h e free none =
    let one : i + 1 ≡ suc i = omega arith in
    let behind : drop i queue ≡ w ∷ drop (suc i) queue = drop_more queue i w h ∙ ap (λ (x : Waiting). x ∷ drop (i + 1) queue) (sym e) ∙ ap (λ (n : ℕ). w ∷ drop n queue) one in
    let whole : queue ≡ take i queue ++ w ∷ drop (suc i) queue = sym (take-append-drop i queue) ∙ ap (λ (q : List Waiting). take i queue ++ q) behind in
    ap (with_end_placed id) whole ∙ ends_in id (take i queue) (drop (suc i) queue) w free none
