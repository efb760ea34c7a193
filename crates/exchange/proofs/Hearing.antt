-- What a flow stands for once its half was told what came: body bytes in one piece or in two.
use Rattle.std.proofs.Common.{refl, sym, ◌∙◌, ap, subst, arith, le-ltb, ltb-false}
use Rattle.std.proofs.Math.Seq.{take-length}
use Rattle.std.proofs.lemmas.List.{length-drop}
use Rattle.std.specs.Prelude.{ℕ, ◌≡◌, ◌≤◌, ◌<◌, ◌==◌, min, Bool, true, false, not, ◌&&◌, List, [], ◌∷◌, length, take, drop, if◌then◌else◌, nat_lt}
use Rattle.ext_msgs.specs.declared.lists.Field.{Field}
use Rattle.http_model.specs.Bytes.{is_empty}
use Rattle.http_model.specs.declared.types.Direction.{Direction}
use Rattle.filter_model.specs.Config.{CourseConfig}
use Rattle.filter_model.specs.Course.{body_room, is_over}
use Rattle.filter_model.specs.Half.{Bytes, Past, Told, after_step, course}
use Rattle.filter_model.specs.HalfRight.{MayRead}
use Rattle.filter_model.specs.Told.{more, told}
use Rattle.filter_model.specs.ToldMore.{AllFit, CallFits, FitUntilOver}
use Rattle.half_machine.specs.Calls.{MayBytes}
use Rattle.half_machine.specs.Stands as half
use Rattle.half_machine.specs.declared.half.Half.{Half}
use Rattle.exchange.specs.Flows.{FlowStands, Story, with_call}
use Rattle.exchange.specs.Reading.{FitsBehindHead, HasHeard, RestFits, calls_behind, ends_with, piece_calls, rest_calls, with_calls}
use Rattle.exchange.specs.declared.flow.Flow.{Flow}
use Rattle.exchange.proofs.Telling.{all_heard, course_told, first_heard, none_heard, one_told}

pub some_there : (bytes : List ℕ) → false ≡ (length bytes == 0) → is_empty bytes ≡ false
some_there [] e = absurd cc
some_there (b ∷ bytes) e = refl

pub bytes_fit : (p : Past) (bytes : List ℕ) → MayRead (course p) → length bytes ≤ body_room p.config p.direction (course p) → MayBytes p bytes
bytes_fit p bytes m l = record { read = m.read; has_body = m.has_body; unfinished = m.unfinished; fits = l }

may_read : (p : Past) (bytes : List ℕ) → MayBytes p bytes → MayRead (course p)
may_read p bytes m = record { read = m.read; has_body = m.has_body; unfinished = m.unfinished }

-- The rest, in one call

-- where bytes came, or the end
rest_is : (w : Bool) (t : List Field) (bytes : List ℕ) → is_empty bytes ≡ false → rest_calls w t bytes ≡ more (ends_with w t) bytes ∷ []
rest_is w t bytes e = ap (λ b. if not w && b then [] else more (ends_with w t) bytes ∷ []) e ∙ by w
  where
    by : (x : Bool) → (if not x && false then [] else more (ends_with w t) bytes ∷ []) ≡ more (ends_with w t) bytes ∷ []
    by true = refl
    by false = refl

one_piece : (w : Bool) (t : List Field) (bytes : List ℕ) → w ≡ false → is_empty bytes ≡ false → rest_calls w t bytes ≡ Bytes bytes ∷ []
one_piece w t bytes u e = rest_is w t bytes e ∙ ap (λ x. more (ends_with x t) bytes ∷ []) u

pub first_may : (s : Story) (w : Bool) (t : List Field) (bytes : List ℕ) → RestFits s w t bytes → w ≡ false → is_empty bytes ≡ false → MayBytes s.past bytes
first_may s w t bytes r u e =
    let f : AllFit s.past.config s.past.direction (Bytes bytes ∷ []) (course s.past) =
    subst (λ l. AllFit s.past.config s.past.direction l (course s.past)) (one_piece w t bytes u e) r in
    bytes_fit s.past bytes f.0.0 f.0.1

pub data_told : (s : Story) (x : Flow) (y : Half) (w : Bool) (t : List Field) (bytes : List ℕ) → FlowStands s x → RestFits s w t bytes → w ≡ false → is_empty bytes ≡ false
    → half.StandsFor (after_step (Told (Bytes bytes)) s.past) y → FlowStands (with_calls (rest_calls w t bytes) s) (record x { half = y })
data_told s x y w t bytes f r u e h =
    let i : rest_calls w t bytes ≡ Bytes bytes ∷ [] = one_piece w t bytes u e in
    subst (λ l. FlowStands (with_calls l s) (record x { half = y })) (sym i)
    (one_told s x y (Bytes bytes) f (may_read s.past bytes (first_may s w t bytes r u e)) h)

-- What came behind the head

pub whole_heard : (s : Story) (w : Bool) (t : List Field) (bytes : List ℕ) → (course s.past).original.whole ≡ true → HasHeard (calls_behind s w t bytes) s s
whole_heard s w t bytes e =
    let room : ℕ = body_room s.past.config s.past.direction (course s.past) in
    subst (λ b. HasHeard (if b then [] else piece_calls room w t bytes) s s) (sym e) (none_heard s)

behind_is : (s : Story) (w : Bool) (t : List Field) (bytes : List ℕ) → (course s.past).original.whole ≡ false
    → calls_behind s w t bytes ≡ piece_calls (body_room s.past.config s.past.direction (course s.past)) w t bytes
behind_is s w t bytes e = ap (λ b. if b then [] else piece_calls (body_room s.past.config s.past.direction (course s.past)) w t bytes) e

-- the first of them is as long as there is room
pub record IsCut (room : ℕ) (bytes first rest : List ℕ) : Type 0 where
  pub n : ℕ
  pub least : n ≡ min (length bytes) room
  pub front : first ≡ take n bytes
  pub back : rest ≡ drop n bytes

all_cut : (room : ℕ) (bytes first rest : List ℕ) → IsCut room bytes first rest → rest ≡ [] → (first ≡ bytes) × (nat_lt room (length bytes) ≡ false)
all_cut room bytes first rest k e =
    let z : length (drop k.n bytes) ≡ 0 = sym (ap length k.back) ∙ ap length e in
    let n : k.n ≡ length bytes = omega (arith, k.least, z, length-drop k.n bytes) in (
      k.front ∙ ap (λ m. take m bytes) n ∙ take-length bytes,
      le-ltb room (length bytes) (omega (arith, n, k.least)),
    )

two_cut : (room : ℕ) (bytes first rest : List ℕ) → IsCut room bytes first rest → is_empty rest ≡ false → (first ≡ take room bytes) × (rest ≡ drop room bytes) × (nat_lt room (length bytes) ≡ true)
two_cut room bytes first rest k e =
    let z : 1 ≤ length rest = some rest e in
    let r : length rest ≡ length (drop k.n bytes) = ap length k.back in
    let n : k.n ≡ room = omega (arith, k.least, z, r, length-drop k.n bytes) in (
      k.front ∙ ap (λ m. take m bytes) n,
      k.back ∙ ap (λ m. drop m bytes) n,
      by (nat_lt room (length bytes)) refl (omega (arith, n, k.least, z, r, length-drop k.n bytes)),
    )
  where
    some : (l : List ℕ) → is_empty l ≡ false → 1 ≤ length l
    some [] e = absurd cc
    some (b ∷ l) e = omega arith

    by : (b : Bool) → nat_lt room (length bytes) ≡ b → room < length bytes → nat_lt room (length bytes) ≡ true
    by true i l = i
    by false i l = let m = ltb-false room (length bytes) i in absurd (omega (arith, l, m))

-- no byte is left behind the first piece
pub all_at_once : (s : Story) (w : Bool) (t : List Field) (bytes first rest : List ℕ) → (course s.past).original.whole ≡ false
    → IsCut (body_room s.past.config s.past.direction (course s.past)) bytes first rest → rest ≡ [] → calls_behind s w t bytes ≡ rest_calls w t first
all_at_once s w t bytes first rest u k e =
    let room : ℕ = body_room s.past.config s.past.direction (course s.past) in
    let p = all_cut room bytes first rest k e in
    behind_is s w t bytes u
    ∙ ap (λ b. if b then Bytes (take room bytes) ∷ more (ends_with w t) (drop room bytes) ∷ [] else rest_calls w t bytes) p.1
    ∙ ap (rest_calls w t) (sym p.0)

pub in_two : (s : Story) (w : Bool) (t : List Field) (bytes first rest : List ℕ) → (course s.past).original.whole ≡ false
    → IsCut (body_room s.past.config s.past.direction (course s.past)) bytes first rest → is_empty rest ≡ false → calls_behind s w t bytes ≡ Bytes first ∷ more (ends_with w t) rest ∷ []
in_two s w t bytes first rest u k e =
    let room : ℕ = body_room s.past.config s.past.direction (course s.past) in
    let p = two_cut room bytes first rest k e in
    behind_is s w t bytes u
    ∙ ap (λ b. if b then Bytes (take room bytes) ∷ more (ends_with w t) (drop room bytes) ∷ [] else rest_calls w t bytes) p.2
    ∙ ap (λ l. Bytes l ∷ more (ends_with w t) (drop room bytes) ∷ []) (sym p.0)
    ∙ ap (λ l. Bytes first ∷ more (ends_with w t) l ∷ []) (sym p.1)

pub once_fits : (s : Story) (w : Bool) (t : List Field) (bytes first rest : List ℕ) → FitsBehindHead s w t bytes → (course s.past).original.whole ≡ false
    → IsCut (body_room s.past.config s.past.direction (course s.past)) bytes first rest → rest ≡ [] → RestFits s w t first
once_fits s w t bytes first rest f u k e =
    let c : CourseConfig = s.past.config in
    let d : Direction = s.past.direction in
    by (not w && is_empty first) (subst (λ l. FitUntilOver c d l (course s.past)) (all_at_once s w t bytes first rest u k e) f)
  where
    by : (b : Bool) → FitUntilOver s.past.config s.past.direction (if b then [] else more (ends_with w t) first ∷ []) (course s.past)
        → AllFit s.past.config s.past.direction (if b then [] else more (ends_with w t) first ∷ []) (course s.past)
    by true y = tt
    by false y = (y.0, tt)

-- the calls in two pieces fit until the first takes the body past its limit
pub two_fit : (s : Story) (w : Bool) (t : List Field) (bytes first rest : List ℕ) → FitsBehindHead s w t bytes → (course s.past).original.whole ≡ false
    → IsCut (body_room s.past.config s.past.direction (course s.past)) bytes first rest → is_empty rest ≡ false
    → FitUntilOver s.past.config s.past.direction (Bytes first ∷ more (ends_with w t) rest ∷ []) (course s.past)
two_fit s w t bytes first rest f u k e =
    subst (λ l. FitUntilOver s.past.config s.past.direction l (course s.past)) (in_two s w t bytes first rest u k e) f

pub over_heard : (s : Story) (w : Bool) (t : List Field) (bytes first rest : List ℕ) → FitsBehindHead s w t bytes → (course s.past).original.whole ≡ false
    → IsCut (body_room s.past.config s.past.direction (course s.past)) bytes first rest → is_empty rest ≡ false → is_over s.past.config (course (with_call (Bytes first) s).past) ≡ true
    → HasHeard (calls_behind s w t bytes) s (with_call (Bytes first) s)
over_heard s w t bytes first rest f u k e o =
    let c : CourseConfig = s.past.config in
    let d : Direction = s.past.direction in
    let y = two_fit s w t bytes first rest f u k e in
    let i : course (with_call (Bytes first) s).past ≡ told c d (Bytes first ∷ []) (course s.past) = course_told s (Bytes first) in
    subst (λ l. HasHeard l s (with_call (Bytes first) s)) (sym (in_two s w t bytes first rest u k e))
    (first_heard (Bytes first) (more (ends_with w t) rest ∷ []) s o (y.1 (sym (ap (is_over c) i) ∙ o)))

pub rest_fits : (s : Story) (w : Bool) (t : List Field) (bytes first rest : List ℕ) → FitsBehindHead s w t bytes → (course s.past).original.whole ≡ false
    → IsCut (body_room s.past.config s.past.direction (course s.past)) bytes first rest → is_empty rest ≡ false → is_over s.past.config (course (with_call (Bytes first) s).past) ≡ false
    → RestFits (with_call (Bytes first) s) w t rest
rest_fits s w t bytes first rest f u k e o =
    let c : CourseConfig = s.past.config in
    let d : Direction = s.past.direction in
    let y = two_fit s w t bytes first rest f u k e in
    let i : course (with_call (Bytes first) s).past ≡ told c d (Bytes first ∷ []) (course s.past) = course_told s (Bytes first) in
    subst (λ l. AllFit c d l (course (with_call (Bytes first) s).past)) (sym (rest_is w t rest e))
    ((subst (λ v. CallFits c d v (more (ends_with w t) rest)) (sym i) (y.2 (sym (ap (is_over c) i) ∙ o)).0), tt)

pub two_heard : (s : Story) (w : Bool) (t : List Field) (bytes first rest : List ℕ) → (course s.past).original.whole ≡ false
    → IsCut (body_room s.past.config s.past.direction (course s.past)) bytes first rest → is_empty rest ≡ false
    → HasHeard (calls_behind s w t bytes) s (with_calls (rest_calls w t rest) (with_call (Bytes first) s))
two_heard s w t bytes first rest u k e =
    subst (λ l. HasHeard l s (with_calls (rest_calls w t rest) (with_call (Bytes first) s))) (sym (in_two s w t bytes first rest u k e))
    (subst (λ l. HasHeard (Bytes first ∷ more (ends_with w t) rest ∷ []) s (with_calls l (with_call (Bytes first) s))) (sym (rest_is w t rest e))
    (all_heard (Bytes first ∷ more (ends_with w t) rest ∷ []) s))
