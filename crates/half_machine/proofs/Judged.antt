-- A half refuses the answers that the definitions refuse.
use Rattle.std.proofs.Common.{refl, sym, ◌∙◌, ap, subst, rules}
use Rattle.std.specs.Prelude.{ℕ, zero, suc, ◌≡◌, Bool, true, false, not, ◌&&◌, ◌||◌, List, ◌∷◌, Some, None, [], length, drop, map, Option, option_map, unwrap_or, if◌then◌else◌, ◌==◌, nat_lt}
use Rattle.ext_msgs.specs.declared.lists.Field.{Field}
use Rattle.ext_msgs.specs.declared.answer.Common.{Common}
use Rattle.ext_msgs.specs.declared.answer.HeaderMutation.{HeaderMutation}
use Rattle.header_mutation.specs.Mutated.{mutated}
use Rattle.header_mutation.specs.declared.rules.PartKind.TheVariants.{Trailers as TrailerPart}
use Rattle.header_mutation.specs.declared.setup.HalfFault.TheVariants as fault
use Rattle.http_model.specs.declared.types.Direction.{Direction}
use Rattle.filter_model.specs.Config.{CourseConfig}
use Rattle.filter_model.specs.Course.{AskedPart, Headers, Body, Trailers, changed_head, head_after_headers, head_kind, under, is_buffered, is_body, is_trailers, is_streamed_back, is_spurious_at, out, outcome_of, outcome_at, answer_to}
use Rattle.filter_model.specs.Cut.{OfHeaders, OfBody, OfTrailers, kind_of}
use Rattle.filter_model.specs.Half.{Past, Progress, progress, course, kind_numbered, fault_of, refusal}
use Rattle.half_machine.specs.Judging.{is_of_part, answered_mark, head_outcome, outcome_in, cause_in}
use Rattle.half_machine.specs.Marks.{mark_of}
use Rattle.half_machine.specs.Stands.{MadeWith, Ties, StandsFor, AreKept}
use Rattle.half_machine.specs.declared.marks.Mark.{Mark}
use Rattle.half_machine.specs.declared.half.Half.{Half}
use Rattle.half_machine.proofs.Joining.{unanswered_out}

-- The head that a mutation is judged on

drop_none : (k : ℕ) → drop {A = AskedPart} k [] ≡ []
drop_none zero = refl
drop_none (suc k) = refl

-- an ask is out only behind a head
pub head_read : (c : CourseConfig) (d : Direction) (p : Progress) (x : Half) (q : AskedPart) (more : List AskedPart) → Ties c d p x → out p.course ≡ q ∷ more
    → p.course.original.head ≡ Some (unwrap_or p.course.original.head [])
head_read c d p x q more t o = by p.course.original.head refl
  where
    not_none : [] ≡ q ∷ more → ⊥
    not_none e = cc

    by : (h : Option (List Field)) → p.course.original.head ≡ h → h ≡ Some (unwrap_or h [])
    by (Some f) e = refl
    by None e = absurd (not_none (sym (ap (drop (length p.course.answers)) (t.sound.head_read e).1 ∙ drop_none (length p.course.answers)) ∙ o))

pub head_before : (c : CourseConfig) (d : Direction) (p : Progress) (x : Half) (bytes : List ℕ) (last : Bool) (more : List AskedPart) → Ties c d p x → out p.course ≡ Body bytes last ∷ more
    → x.head ≡ Some (head_after_headers c d p.course (unwrap_or p.course.original.head []))
head_before c d p x bytes last more t o =
    t.head ∙ ap (option_map (changed_head c d p.course)) (head_read c d p x (Body bytes last) more t o)
    ∙ ap Some (by (is_buffered p.course.modes.body) refl)
  where
    first : List Field
    first = head_after_headers c d p.course (unwrap_or p.course.original.head [])

    by : (b : Bool) → is_buffered p.course.modes.body ≡ b → (if b then under c (head_kind d) first (answer_to is_body p.course) else first) ≡ first
    by true e = ap (under c (head_kind d) first) (unanswered_out is_body p.course (Body bytes last) more (t.body_asks.single e) o refl)
    by false e = refl

-- What it comes to

-- what the oldest ask out is about is kept
abbrev IsKeptFirst : Half → AskedPart → Type 0
IsKeptFirst x (Headers f l) = x.head ≡ Some f
IsKeptFirst x (Body b l) = Unit {0}
IsKeptFirst x (Trailers f) = x.trailers ≡ f

kept_first : (c : CourseConfig) (d : Direction) (p : Progress) (x : Half) (q : AskedPart) (more : List AskedPart) → Ties c d p x → out p.course ≡ q ∷ more → IsKeptFirst x q
kept_first c d p x (Headers f l) more t o = (subst (AreKept x.head x.arrived.framed x.trailers) o t.parts).0.0
kept_first c d p x (Body b l) more t o = tt
kept_first c d p x (Trailers f) more t o = (subst (AreKept x.head x.arrived.framed x.trailers) o t.parts).0

pub ruled : (c : CourseConfig) (d : Direction) (x : Half) (head : List Field) (m : HeaderMutation) → MadeWith c d x → mutated x.rules (head_kind x.direction) head m ≡ mutated c.rules (head_kind d) head m
ruled c d x head m s = ap (λ r. mutated r (head_kind x.direction) head m) (sym s.rules) ∙ ap (λ q. mutated c.rules (head_kind q) head m) (sym s.direction)

pub outcome_is : (c : CourseConfig) (d : Direction) (p : Progress) (x : Half) (q : AskedPart) (more : List AskedPart) (m : HeaderMutation) → MadeWith c d x → Ties c d p x → out p.course ≡ q ∷ more
    → outcome_in x m (mark_of q) ≡ outcome_at c d p.course m q
outcome_is c d p x (Headers f l) more m s t o = ap (head_outcome x m) (kept_first c d p x (Headers f l) more t o) ∙ ruled c d x f m s
outcome_is c d p x (Body b l) more m s t o =
    ap (head_outcome x m) (head_before c d p x b l more t o) ∙ ruled c d x (head_after_headers c d p.course (unwrap_or p.course.original.head [])) m s
outcome_is c d p x (Trailers f) more m s t o =
    ap (λ l. mutated x.rules TrailerPart l m) (kept_first c d p x (Trailers f) more t o) ∙ ap (λ r. mutated r TrailerPart f m) (sym s.rules)

-- The part

not_zero : (n : ℕ) → (suc (suc n) == 0) ≡ false
not_zero n = search rules

not_one : (n : ℕ) → (suc (suc n) == 1) ≡ false
not_one n = search rules

above_one : (n : ℕ) → nat_lt 1 (suc (suc n)) ≡ true
above_one n = search rules

part_is : (q : AskedPart) (n : ℕ) → kind_of (kind_numbered n) q ≡ is_of_part (mark_of q) n
part_is (Headers f l) zero = refl
part_is (Headers f l) (suc zero) = refl
part_is (Body b l) zero = refl
part_is (Body b l) (suc zero) = refl
part_is (Trailers f) zero = refl
part_is (Trailers f) (suc zero) = refl
part_is q (suc (suc n)) =
    ap (λ b. kind_of (if b then OfHeaders else (if suc (suc n) == 1 then OfBody else OfTrailers)) q) (not_zero n)
    ∙ ap (λ b. kind_of (if b then OfBody else OfTrailers) q) (not_one n) ∙ by q
  where
    by : (q : AskedPart) → is_trailers q ≡ is_of_part (mark_of q) (suc (suc n))
    by (Headers f l) = sym (not_zero n)
    by (Body b l) = sym (not_one n)
    by (Trailers f) = sym (above_one n)

pub not_taken : (p : Past) (x : Half) (n : ℕ) (a : Common) → StandsFor p x → answered_mark x.marks n a.body ≡ None
    → refusal p.config p.direction (course p) (kind_numbered n) a ≡ Some fault.Spurious
not_taken p x n a s e = by (out (course p)) refl
  where
    spurious : List AskedPart → Bool
    spurious l = is_spurious_at (kind_of (kind_numbered n)) (is_streamed_back a.body) l

    of_first : (q : AskedPart) (b t : Bool) → (if b && not t then Some (mark_of q) else None) ≡ None → (not b || t) ≡ true
    of_first q true true f = refl
    of_first q true false f = absurd cc
    of_first q false t f = refl

    by : (l : List AskedPart) → out (course p) ≡ l → refusal p.config p.direction (course p) (kind_numbered n) a ≡ Some fault.Spurious
    by [] o = ap (λ l. if spurious l then Some fault.Spurious else fault_of (outcome_of p.config p.direction (course p) a.headers (out (course p)))) o
    by (q ∷ more) o =
        ap (λ l. if spurious l then Some fault.Spurious else fault_of (outcome_of p.config p.direction (course p) a.headers (out (course p)))) o
        ∙ ap (λ b. if not b || is_streamed_back a.body then Some fault.Spurious else fault_of (outcome_of p.config p.direction (course p) a.headers (out (course p)))) (part_is q n)
        ∙ ap (λ b. if b then Some fault.Spurious else fault_of (outcome_of p.config p.direction (course p) a.headers (out (course p))))
        (of_first q (is_of_part (mark_of q) n) (is_streamed_back a.body) (sym (ap (λ l. answered_mark l n a.body) (s.ties.marks ∙ ap (map mark_of) o)) ∙ e))

-- the oldest ask out is the one that it answers
pub record Taken (p : Past) (x : Half) (m : Mark) (n : ℕ) (a : Common) : Type 0 where
  pub oldest : AskedPart
  pub more : List AskedPart
  pub out : out (course p) ≡ oldest ∷ more
  pub mark : mark_of oldest ≡ m
  pub refusal : refusal p.config p.direction (course p) (kind_numbered n) a ≡ cause_in x a.headers m

pub taken : (p : Past) (x : Half) (m : Mark) (n : ℕ) (a : Common) → StandsFor p x → answered_mark x.marks n a.body ≡ Some m → Taken p x m n a
taken p x m n a s e = by (out (course p)) refl
  where
    spurious : List AskedPart → Bool
    spurious l = is_spurious_at (kind_of (kind_numbered n)) (is_streamed_back a.body) l

    marked : (l : List AskedPart) → out (course p) ≡ l → answered_mark (map mark_of l) n a.body ≡ Some m
    marked l o = sym (ap (λ l. answered_mark l n a.body) (s.ties.marks ∙ ap (map mark_of) o)) ∙ e

    of_first : (q : AskedPart) (b t : Bool) → (if b && not t then Some (mark_of q) else None) ≡ Some m → ((not b || t) ≡ false) × (mark_of q ≡ m)
    of_first q true true f = absurd cc
    of_first q true false f = (refl, ap (λ o. elim o [ Some k ↦ k | None ↦ m ]) f)
    of_first q false t f = absurd cc

    by : (l : List AskedPart) → out (course p) ≡ l → Taken p x m n a
    by [] o = absurd (none (marked [] o))
      where
        none : None ≡ Some m → ⊥
        none f = cc
    by (q ∷ more) o =
        let f = of_first q (is_of_part (mark_of q) n) (is_streamed_back a.body) (marked (q ∷ more) o) in
        record {
          oldest = q;
          more = more;
          out = o;
          mark = f.1;
          refusal =
              ap (λ l. if spurious l then Some fault.Spurious else fault_of (outcome_of p.config p.direction (course p) a.headers l)) o
              ∙ ap (λ b. if not b || is_streamed_back a.body then Some fault.Spurious else fault_of (outcome_at p.config p.direction (course p) a.headers q)) (part_is q n)
              ∙ ap (λ b. if b then Some fault.Spurious else fault_of (outcome_at p.config p.direction (course p) a.headers q)) f.0
              ∙ ap fault_of (sym (outcome_is p.config p.direction (progress p) x q more a.headers s.made s.ties o))
              ∙ ap (cause_in x a.headers) f.1;
        }
