-- The asks of one direction, among those of both in the order in which they were made.
use Rattle.std.proofs.Common.{refl, sym, ◌∙◌, ap, arith, length-append}
use Rattle.std.specs.Prelude.{ℕ, ◌≡◌, ◌+◌, ◌<◌, Bool, true, false, List, [], ◌∷◌, ◌++◌, length, take, map, Option, Some, None, slice_get}
use Rattle.ext_msgs.specs.declared.ask.Ask.{Ask}
use Rattle.http_model.specs.declared.types.Direction.{Direction}
use Rattle.http_model.specs.declared.types.Direction.TheVariants.{Request, Response}
use Rattle.filter_model.specs.Account.{direction_of, is_in}
use Rattle.filter_model.specs.Answers.{ask_of}
use Rattle.filter_model.specs.Course.{AskedPart, Headers, Body, Trailers}
use Rattle.filter_model.specs.InTurn.{asks_if, asks_in}
use Rattle.exchange.specs.Order.{so_many}

-- one ask more

pub in_append : (d : Direction) (xs ys : List Ask) → asks_in d (xs ++ ys) ≡ asks_in d xs ++ asks_in d ys
in_append d [] ys = refl
in_append d (x ∷ xs) ys = by (is_in d (Some (direction_of x))) (in_append d xs ys)
  where
    by : (b : Bool) → asks_in d (xs ++ ys) ≡ asks_in d xs ++ asks_in d ys → asks_if b x (asks_in d (xs ++ ys)) ≡ asks_if b x (asks_in d xs) ++ asks_in d ys
    by true e = ap (λ l. x ∷ l) e
    by false e = e

-- the place of an element

pub place_of : (n : ℕ) (xs : List Ask) (x : Ask) → slice_get xs n ≡ Some x → (more : List Ask) × (xs ≡ take n xs ++ x ∷ more) × (take (n + 1) xs ≡ take n xs ++ x ∷ []) × (n < length xs) × (length (take n xs) ≡ n)
place_of n [] x e = absurd cc
place_of ℕ.zero (y ∷ xs) x e = (xs, ap (λ o. by o) e, ap (λ o. first o) e, omega arith, refl)
  where
    by : Option Ask → List Ask
    by None = []
    by (Some z) = z ∷ xs

    first : Option Ask → List Ask
    first None = []
    first (Some z) = z ∷ []
place_of (ℕ.suc n) (y ∷ xs) x e =
    let (more, k, m, l, i) = place_of n xs x e in
    let j : n + 1 ≡ ℕ.suc n = omega arith in
    let j' : ℕ.suc n + 1 ≡ ℕ.suc (ℕ.suc n) = omega arith in
    (more, ap (λ ys. y ∷ ys) k, ap (λ r. take r (y ∷ xs)) j' ∙ ap (λ r. y ∷ take r xs) (sym j) ∙ ap (λ ys. y ∷ ys) m, omega (arith, l), ap ℕ.suc i)

pub get_first : (n : ℕ) (xs ys : List Ask) (x : Ask) → slice_get xs n ≡ Some x → slice_get (xs ++ ys) n ≡ Some x
get_first n [] ys x e = absurd cc
get_first ℕ.zero (y ∷ xs) ys x e = e
get_first (ℕ.suc n) (y ∷ xs) ys x e = get_first n xs ys x e

pub get_within : (n : ℕ) (xs : List Ask) (x : Ask) → slice_get xs n ≡ Some x → n < length xs
get_within n [] x e = absurd cc
get_within ℕ.zero (y ∷ xs) x e = omega arith
get_within (ℕ.suc n) (y ∷ xs) x e = let l = get_within n xs x e in omega (arith, l)

get_behind : {A : Type 0} (xs : List A) (x : A) (more : List A) → slice_get (xs ++ x ∷ more) (length xs) ≡ Some x
get_behind [] x more = refl
get_behind (y ∷ xs) x more = get_behind xs x more

pub is_own : (d : Direction) → is_in d (Some d) ≡ true
is_own Request = refl
is_own Response = refl

-- the ask of this direction at a place is its own at the place by which so many of its own come before
pub own_place : (d : Direction) (n : ℕ) (xs : List Ask) (x : Ask) → slice_get xs n ≡ Some x → direction_of x ≡ d
    → (slice_get (asks_in d xs) (length (asks_in d (take n xs))) ≡ Some x) × (length (asks_in d (take (n + 1) xs)) ≡ length (asks_in d (take n xs)) + 1)
own_place d n xs x e k =
    let (more, p, q, l, i) = place_of n xs x e in (
      ap (λ ys. slice_get (asks_in d ys) (length (asks_in d (take n xs)))) p
          ∙ ap (λ ys. slice_get ys (length (asks_in d (take n xs)))) (in_append d (take n xs) (x ∷ more) ∙ ap (λ ys. asks_in d (take n xs) ++ ys) (own more))
          ∙ get_behind (asks_in d (take n xs)) x (asks_in d more),
      ap (λ ys. length (asks_in d ys)) q ∙ ap length (in_append d (take n xs) (x ∷ []) ∙ ap (λ ys. asks_in d (take n xs) ++ ys) (own [])) ∙ length-append (asks_in d (take n xs)) (x ∷ []),
    )
  where
    own : (more : List Ask) → asks_in d (x ∷ more) ≡ x ∷ asks_in d more
    own more = ap (λ b. asks_if b x (asks_in d more)) (ap (λ e. is_in d (Some e)) k ∙ is_own d)

-- that of the other direction isn't its own
pub other_place : (d d' : Direction) (n : ℕ) (xs : List Ask) (x : Ask) → slice_get xs n ≡ Some x → direction_of x ≡ d' → is_in d (Some d') ≡ false
    → length (asks_in d (take (n + 1) xs)) ≡ length (asks_in d (take n xs))
other_place d d' n xs x e k f =
    let (more, p, q, l, i) = place_of n xs x e in
    ap (λ ys. length (asks_in d ys)) q ∙ ap length (in_append d (take n xs) (x ∷ []) ∙ ap (λ ys. asks_in d (take n xs) ++ ys) none) ∙ length-append (asks_in d (take n xs)) [] ∙ zero (length (asks_in d (take n xs)))
  where
    none : asks_in d (x ∷ []) ≡ []
    none = ap (λ b. asks_if b x []) (ap (λ e. is_in d (Some e)) k ∙ f)

    zero : (n : ℕ) → n + 0 ≡ n
    zero n = omega arith

-- Directions of asks

pub way_of : (d : Direction) (p : AskedPart) → direction_of (ask_of d p) ≡ d
way_of Request (Headers fields last) = refl
way_of Request (Body bytes last) = refl
way_of Request (Trailers fields) = refl
way_of Response (Headers fields last) = refl
way_of Response (Body bytes last) = refl
way_of Response (Trailers fields) = refl

pub ways_of : (d : Direction) (ps : List AskedPart) → map direction_of (map (ask_of d) ps) ≡ so_many (length ps) d
ways_of d [] = refl
ways_of d (p ∷ ps) = ap (λ x. x ∷ map direction_of (map (ask_of d) ps)) (way_of d p) ∙ ap (λ l. d ∷ l) (ways_of d ps)
