-- The front of a queue, as frames enter and leave it.
use Rattle.std.proofs.Common.{arith, ◌≡◌, ◌≤◌, ◌<◌, ◌+◌, ◌-◌, Bool, true, false, not, ◌&&◌, ◌||◌, ◌==◌, List, [], ◌∷◌, ◌++◌, length, cond, get_or, drop, zero, suc, ℕ, refl, ap, sym, subst}
use Rattle.std.specs.List.{list_any, filter, insert, remove}
use Rattle.h2_model.specs.Log.{stream_of}
use Rattle.h2_model.specs.Moves.{is_dropped}
use Rattle.h2_model.specs.Queue.{Waiting, goes_last, is_data, is_free, is_free_content, is_free_of, stays_behind}
use Rattle.h2_sender.specs.Places.{place_of, IsFront}
use Rattle.h2_sender.proofs.Placed.{is_passed}

pub front_within : (n : ℕ) (queue : List Waiting) → IsFront n queue → n ≤ length queue
front_within zero queue h = omega arith
front_within (suc n) [] h = absurd h
front_within (suc n) (w ∷ queue) h = let rest = front_within n queue h.1 in omega arith

-- the place of a frame isn't in the front
pub place_behind : (x : Waiting) (n : ℕ) (queue : List Waiting) → IsFront n queue → place_of x queue ≡ n + place_of x (drop n queue)
place_behind x zero queue h = omega arith
place_behind x (suc n) [] h = absurd h
place_behind x (suc n) (w ∷ queue) h =
    let passed : is_passed x w queue ≡ true = rw h.0 (either (goes_last x) (list_any (stays_behind x.frame) (w ∷ queue))) in
    let rest = place_behind x n queue h.1 in
    rw passed (omega arith)
  where
    either : (b c : Bool) → ((b || true) || c) ≡ true
    either true c = refl
    either false c = refl

pub front_entered : (n at : ℕ) (x : Waiting) (queue : List Waiting) → IsFront n queue → n ≤ at → IsFront n (insert queue at x)
front_entered zero at x queue h l = tt
front_entered (suc n) at x [] h l = absurd h
front_entered (suc n) zero x (w ∷ queue) h l = absurd (omega arith)
front_entered (suc n) (suc at) x (w ∷ queue) h l = (h.0, front_entered n at x queue h.1 (omega arith))

pub front_before : (n : ℕ) (queue more : List Waiting) → IsFront n queue → IsFront n (queue ++ more)
front_before zero queue more h = tt
front_before (suc n) [] more h = absurd h
front_before (suc n) (w ∷ queue) more h = (h.0, front_before n queue more h.1)

pub front_joined : (n at : ℕ) (x : Waiting) (queue : List Waiting) → IsFront n queue → at ≡ n → is_free x ≡ false → IsFront (n + 1) (insert queue at x)
front_joined n at x queue h e free =
    let next : suc n ≡ n + 1 = omega arith in
    subst (λ k. IsFront k (insert queue at x)) next (subst (λ k. IsFront (suc n) (insert queue k x)) (sym e) (here n queue h))
  where
    here : (n : ℕ) (queue : List Waiting) → IsFront n queue → IsFront (suc n) (insert queue n x)
    here zero queue h = (free, tt)
    here (suc n) [] h = absurd h
    here (suc n) (w ∷ queue) h = (h.0, here n queue h.1)

pub front_more : (n : ℕ) (queue : List Waiting) (d : Waiting) → IsFront n queue → n < length queue → is_free (get_or queue n d) ≡ false → IsFront (n + 1) queue
front_more n queue d h l e =
    let next : suc n ≡ n + 1 = omega arith in
    subst (λ k. IsFront k queue) next (more n queue h l e)
  where
    more : (n : ℕ) (queue : List Waiting) → IsFront n queue → n < length queue → is_free (get_or queue n d) ≡ false → IsFront (suc n) queue
    more zero [] h l e = absurd (omega arith)
    more zero (w ∷ queue) h l e = (e, tt)
    more (suc n) [] h l e = absurd h
    more (suc n) (w ∷ queue) h l e = (h.0, more n queue h.1 (omega arith) e)

-- a frame that others may pass isn't in the front
pub front_left : (n i : ℕ) (queue : List Waiting) (d : Waiting) → IsFront n queue → i < length queue → is_free (get_or queue i d) ≡ true → IsFront n (remove queue i)
front_left zero i queue d h l e = tt
front_left (suc n) i [] d h l e = absurd h
front_left (suc n) zero (w ∷ queue) d h l e = absurd (both (is_free w) h.0 e)
  where
    both : (b : Bool) → b ≡ false → b ≡ true → ⊥
    both true f t = absurd (grind (arith, f))
    both false f t = absurd (grind (arith, t))
front_left (suc n) (suc i) (w ∷ queue) d h l e = (h.0, front_left n i queue d h.1 (omega arith) e)

pub free_is : (id : ℕ) (w : Waiting) → is_free_of id w ≡ true → is_free w ≡ true
free_is id w e = by (is_free w) e
  where
    by : (c : Bool) → (c && (stream_of w.frame == id)) ≡ true → c ≡ true
    by true e = refl
    by false e = e

-- what is kept of a queue keeps its front
pub front_kept : (p : Waiting → Bool) → ((w : Waiting) → is_free w ≡ false → p w ≡ true) → (n : ℕ) (queue : List Waiting) → IsFront n queue → IsFront n (filter p queue)
front_kept p keeps zero queue h = tt
front_kept p keeps (suc n) [] h = absurd h
front_kept p keeps (suc n) (w ∷ queue) h = rw (keeps w h.0) (h.0, front_kept p keeps n queue h.1)

-- the first frame was begun, or given whole

pub begun_stays : (w : Waiting) (bytes : List ℕ) → is_free (record w { left = bytes; fixed = true }) ≡ false
begun_stays w bytes = by (is_data w.frame)
  where
    by : (c : Bool) → (c && false) ≡ false
    by true = refl
    by false = refl

pub front_begun : (n : ℕ) (w next : Waiting) (queue : List Waiting) → IsFront n (w ∷ queue) → is_free next ≡ false → IsFront n (next ∷ queue)
front_begun zero w next queue h e = tt
front_begun (suc n) w next queue h e = (e, h.1)

pub front_given : (n : ℕ) (w : Waiting) (queue : List Waiting) → IsFront n (w ∷ queue) → IsFront (n - 1) queue
front_given zero w queue h = tt
front_given (suc n) w queue h =
    let rest : n ≡ suc n - 1 = omega arith in
    subst (λ k. IsFront k queue) rest h.1

-- Searches of the frames behind the front

pub none_behind : (n : ℕ) (queue : List Waiting) → n ≡ length queue → drop n queue ≡ []
none_behind n queue e = subst (λ k. drop k queue ≡ []) (sym e) (all queue)
  where
    all : (queue : List Waiting) → drop (length queue) queue ≡ []
    all [] = refl
    all (w ∷ queue) = all queue

free_of_none : (id : ℕ) (w : Waiting) → is_free w ≡ false → is_free_of id w ≡ false
free_of_none id w e = rw e refl

dropped_none : (id : ℕ) (w : Waiting) → is_free w ≡ false → is_dropped id w ≡ false
dropped_none id w e = rw e refl

pub kept_unless_free_content : (w : Waiting) → is_free w ≡ false → not (is_free_content w) ≡ true
kept_unless_free_content w e = rw e refl

pub kept_unless_dropped : (id : ℕ) (w : Waiting) → is_free w ≡ false → not (is_dropped id w) ≡ true
kept_unless_dropped id w e = rw (dropped_none id w e) refl

pub no_free_in : (id n : ℕ) (queue : List Waiting) → IsFront n queue → filter (is_free_of id) (drop n queue) ≡ [] → filter (is_free_of id) queue ≡ []
no_free_in id zero queue h e = e
no_free_in id (suc n) [] h e = absurd h
no_free_in id (suc n) (w ∷ queue) h e = rw (free_of_none id w h.0) (no_free_in id n queue h.1 e)

-- where no frame is dropped, all stay
pub all_kept : (p : Waiting → Bool) (queue : List Waiting) → list_any p queue ≡ false → filter (λ w. not (p w)) queue ≡ queue
all_kept p [] e = refl
all_kept p (w ∷ queue) e = by (p w) e (all_kept p queue)
  where
    by : (c : Bool) → (c || list_any p queue) ≡ false → (list_any p queue ≡ false → filter (λ v. not (p v)) queue ≡ queue) → cond (not c) (w ∷ filter (λ v. not (p v)) queue) (filter (λ v. not (p v)) queue) ≡ w ∷ queue
    by true e ih = absurd (grind (arith, e))
    by false e ih = ap (λ q. w ∷ q) (ih e)
