-- What an outlet stands for once it was handed something more; and when all was given.
use Rattle.std.proofs.Common.{refl, sym, ◌∙◌, ap, subst, arith, append-nil, append_assoc, length-append}
use Rattle.std.proofs.lemmas.Bool.{eq-eqb, eqb-true}
use Rattle.std.proofs.lemmas.List.{drop_at, length-drop}
use Rattle.std.specs.Prelude.{ℕ, ◌≡◌, ◌≤◌, ◌==◌, ◌+◌, ◌-◌, min, Bool, true, false, not, ◌&&◌, List, [], ◌∷◌, ◌++◌, length, drop, Option, Some, None}
use Rattle.http_model.specs.Bytes.{is_empty}
use Rattle.http_model.specs.Wire.{interim}
use Rattle.http_model.specs.declared.types.Direction.{Direction}
use Rattle.http_model.specs.declared.types.Framing.{Framing}
use Rattle.http_model.specs.declared.types.Framing.TheVariants.{Chunked, Length, NoField}
use Rattle.http_model.specs.declared.types.Out.{Out}
use Rattle.http_model.specs.declared.types.Out.TheVariants as part
use Rattle.filter_model.specs.HalfRight.{framing_in, has_trailers, part_bytes, written_parts}
use Rattle.filter_model.specs.Given.{data_at, data_in}
use Rattle.h1_outlet.specs.Parts.{framing_with, trailers_with, unwritten, has_bytes}
use Rattle.h1_outlet.specs.Outlets.{Flowed, all, body_in, left_of, body_of, holding, is_idle, readied, with_interim, with_part}
use Rattle.h1_outlet.specs.Stands.{StandsFor, AreNone, MayOwe, MayPut, IsPlaced, fresh}
use Rattle.h1_outlet.specs.Ways.{Way, plain}
use Rattle.h1_outlet.specs.declared.outlet.Outlet.{Outlet}
use Rattle.h1_outlet.proofs.PartBytes.{WayFits, clash, head_data, no_bytes, no_data, some_bytes, zero_data}
use Rattle.h1_outlet.proofs.Refilled.{empty_list, interim_some, none_owed, none_left, ready_none, ready_stands, some_length}

-- Nothing waits

-- nothing is left of any of its bytes
pub record Idle (x : Outlet) : Type 0 where
  pub going : x.going.left ≡ []
  pub interim : x.interim ≡ false
  pub next : has_bytes x.framing x.trailers x.next ≡ false
  pub reply : x.reply ≡ []

first_empty : (xs ys : List ℕ) → xs ++ ys ≡ [] → (xs ≡ []) × (ys ≡ [])
first_empty [] ys e = (refl, e)
first_empty (x ∷ xs) ys e = absurd cc

not_true : (b : Bool) → (b ≡ true → ⊥) → b ≡ false
not_true true f = absurd (f refl)
not_true false f = refl

not_owed : (b : Bool) → interim b ≡ [] → b ≡ false
not_owed b e = not_true b (λ i. some_length (interim true) interim_some (ap interim (sym i) ∙ e))

idle_by : (x : Outlet) → left_of x ≡ [] → Idle x
idle_by x e =
    let a = first_empty (x.going.left ++ interim x.interim ++ unwritten x.direction x.framing x.trailers x.next) x.reply e in
    let b = first_empty (x.going.left ++ interim x.interim) (unwritten x.direction x.framing x.trailers x.next) a.0 in
    let c = first_empty x.going.left (interim x.interim) b.0 in
    record {
      going = c.0;
      interim = not_owed x.interim c.1;
      next = not_true _ (λ i. some_length (unwritten x.direction x.framing x.trailers x.next) (some_bytes x.direction x.framing x.trailers x.next i) b.1);
      reply = a.1;
    }

empty_by : (xs : List ℕ) → length xs ≡ 0 → xs ≡ []
empty_by [] e = refl
empty_by (x ∷ xs) e = absurd (omega (arith, e))

drop_all : (f : Flowed) → f.given ≡ length (all f) → drop f.given (all f) ≡ []
drop_all f e = empty_by (drop f.given (all f)) (length-drop f.given (all f) ∙ less f.given (length (all f)) e)
  where
    less : (a b : ℕ) → a ≡ b → b - a ≡ 0
    less a b e = omega arith

given_all : (f : Flowed) (x : Outlet) → StandsFor f x → left_of x ≡ [] → f.given ≡ length (all f)
given_all f x s e =
    let a : length (all f) - f.given ≡ 0 = sym (length-drop f.given (all f)) ∙ ap length (sym s.left ∙ e) in
    let b = s.within in
    omega arith

-- where nothing is written although what goes next was to be, all was given
pub none_given : (f : Flowed) (x y : Outlet) → y ≡ readied x → length y.going.left ≡ 0 → StandsFor f x → f.given ≡ length (all f)
none_given f x y e z s = given_all f (readied x) (ready_stands f x s) (ready_none x (empty_by (readied x).going.left (ap (λ (o : Outlet). length o.going.left) (sym e) ∙ z)))

-- no body byte is left either
idle_body : (x : Outlet) (n : ℕ) → Idle x → WayFits x.going → body_of x n ≡ 0
idle_body x n i h =
    plus (none_left x.going n i.going h) (no_data x.framing x.trailers x.next (n - length (x.going.left ++ interim x.interim)) i.next)
  where
    plus : {a b : ℕ} → a ≡ 0 → b ≡ 0 → a + b ≡ 0
    plus e f = cc

-- Whether nothing waits

idle_test : (a b c d : Bool) → a ≡ true → b ≡ false → c ≡ false → d ≡ true → (a && not b && not c && d) ≡ true
idle_test a b c d e f g h = cc

empty_true : (l : List ℕ) → l ≡ [] → is_empty l ≡ true
empty_true l e = ap is_empty e

idle_true : (x : Outlet) → Idle x → is_idle x ≡ true
idle_true x i = idle_test (is_empty x.going.left) x.interim (has_bytes x.framing x.trailers x.next) (is_empty x.reply) (empty_true x.going.left i.going) i.interim i.next (empty_true x.reply i.reply)

record AllTrue (a b c d : Bool) : Type 0 where
  first : a ≡ true
  second : b ≡ false
  third : c ≡ false
  fourth : d ≡ true

idle_parts : (a b c d : Bool) → (a && not b && not c && d) ≡ true → AllTrue a b c d
idle_parts true false false true e = record { first = refl; second = refl; third = refl; fourth = refl }
idle_parts true false false false e = absurd (clash (sym e))
idle_parts true false true d e = absurd (clash (sym e))
idle_parts true true c d e = absurd (clash (sym e))
idle_parts false b c d e = absurd (clash (sym e))

idle_of : (x : Outlet) → is_idle x ≡ true → left_of x ≡ []
idle_of x e =
    let t = idle_parts (is_empty x.going.left) x.interim (has_bytes x.framing x.trailers x.next) (is_empty x.reply) e in
    ap (λ l. l ++ x.reply)
    (ap (λ l. l ++ unwritten x.direction x.framing x.trailers x.next) (ap (λ l. l ++ interim x.interim) (empty_list x.going.left t.first) ∙ ap interim t.second ∙ none_owed)
    ∙ no_bytes x.direction x.framing x.trailers x.next t.third)
    ∙ empty_list x.reply t.fourth

pub idle_is : (f : Flowed) (x : Outlet) → StandsFor f x → is_idle x ≡ (f.given == length (all f))
idle_is f x s = same (is_idle x) (f.given == length (all f))
    (λ e. eq-eqb f.given (length (all f)) (given_all f x s (idle_of x e)))
    (λ e. idle_true x (idle_by x (s.left ∙ drop_all f (eqb-true f.given (length (all f)) e))))
  where
    same : (a b : Bool) → (a ≡ true → b ≡ true) → (b ≡ true → a ≡ true) → a ≡ b
    same true b f g = sym (f refl)
    same false true f g = g refl
    same false false f g = refl

-- A part is put

framing_is : (outs : List Out) (out : Out) → framing_with (framing_in outs) out ≡ framing_in (out ∷ outs)
framing_is outs (part.Head fields own) = refl
framing_is outs (part.Data bytes) = refl
framing_is outs (part.Trailers fields) = refl
framing_is outs part.End = refl
framing_is outs part.Nothing = refl

trailers_is : (outs : List Out) (out : Out) → trailers_with (has_trailers outs) out ≡ has_trailers (out ∷ outs)
trailers_is outs (part.Head fields own) = refl
trailers_is outs (part.Data bytes) = refl
trailers_is outs (part.Trailers fields) = refl
trailers_is outs part.End = refl
trailers_is outs part.Nothing = refl

part_is : (f : Flowed) (out : Out) → IsPlaced f out
    → unwritten f.direction (framing_with (framing_in f.parts) out) (trailers_with (has_trailers f.parts) out) out ≡ part_bytes f.direction (framing_in f.parts) (has_trailers f.parts) out
part_is f (part.Head fields own) k = ap (λ o. part_bytes f.direction o (has_trailers f.parts) (part.Head fields own)) (sym k)
part_is f (part.Data bytes) k = refl
part_is f (part.Trailers fields) k = by (framing_in f.parts)
  where
    by : (o : Option Framing) → part_bytes f.direction o true (part.Trailers fields) ≡ part_bytes f.direction o (has_trailers f.parts) (part.Trailers fields)
    by None = refl
    by (Some own) = refl
part_is f part.End k = refl
part_is f part.Nothing k = by (framing_in f.parts)
  where
    by : (o : Option Framing) → [] ≡ part_bytes f.direction o (has_trailers f.parts) part.Nothing
    by None = refl
    by (Some own) = refl

data_is : (o : Option Framing) (out : Out) (n : ℕ) → data_at (framing_with o out) n out ≡ data_at o n out
data_is o (part.Head fields own) n = head_data (Some own) fields own n ∙ sym (head_data o fields own n)
data_is o (part.Data bytes) n = refl
data_is o (part.Trailers fields) n = refl
data_is o part.End n = refl
data_is o part.Nothing n = refl

-- all of it, where there is no reply
all_plain : (f : Flowed) → f.reply ≡ [] → all f ≡ f.front ++ written_parts f.direction f.parts
all_plain f e = ap (λ l. f.front ++ written_parts f.direction f.parts ++ l) e ∙ append-nil (f.front ++ written_parts f.direction f.parts)

abbrev bytes_of : Flowed → Out → List ℕ
bytes_of f out = part_bytes f.direction (framing_in f.parts) (has_trailers f.parts) out

all_put : (f : Flowed) (out : Out) → f.reply ≡ [] → all (with_part out f) ≡ all f ++ bytes_of f out
all_put f out e =
    all_plain (with_part out f) e ∙ sym (append_assoc f.front (written_parts f.direction f.parts) (bytes_of f out)) ∙ ap (λ l. l ++ bytes_of f out) (sym (all_plain f e))

-- behind what was put before, the body bytes are those of this part
body_put : (f : Flowed) (out : Out) (n : ℕ) → MayPut f out → body_in (with_part out f) (f.given + n) ≡ body_in f (f.given + n) + data_at (framing_in f.parts) n out
body_put f out n m =
    let written : List ℕ = written_parts f.direction f.parts in
    let a : length (all f) ≡ length f.front + length written = ap length (all_plain f m.reply) ∙ length-append f.front written in
    let i = m.idle in
    let place : ((f.given + n) - length f.front) - length written ≡ n = omega arith in
    ap (λ k. body_in f (f.given + n) + data_at (framing_in f.parts) k out) place

put_body : (f : Flowed) (x : Outlet) (out : Out) (n : ℕ) → StandsFor f x → MayPut f out → Idle x
    → body_in (with_part out f) (f.given + n) ≡ body_in (with_part out f) f.given + body_of (holding out x) n
put_body f x out n s m i =
    let zero : f.given + 0 ≡ f.given = omega arith in
    let before : body_in (with_part out f) f.given ≡ body_in f f.given =
    ap (body_in (with_part out f)) (sym zero) ∙ body_put f out 0 m ∙ plus (ap (body_in f) zero) (zero_data (framing_in f.parts) out) ∙ plus_none (body_in f f.given) in
    let now : body_of (holding out x) n ≡ data_at (framing_in f.parts) n out =
    ap (λ k. min (n - x.going.skip) x.going.body + data_at (framing_with x.framing out) k out) place
    ∙ plus (none_left x.going n i.going s.fits) (ap (λ o. data_at (framing_with o out) n out) s.framing ∙ data_is (framing_in f.parts) out n)
    ∙ none_plus (data_at (framing_in f.parts) n out) in
    body_put f out n m
    ∙ plus (s.body n ∙ plus refl (idle_body x n i s.fits) ∙ plus_none (body_in f f.given) ∙ sym before) (sym now)
  where
    plus : {a b c d : ℕ} → a ≡ b → c ≡ d → a + c ≡ b + d
    plus e f = cc

    plus_none : (k : ℕ) → k + 0 ≡ k
    plus_none k = omega arith

    none_plus : (k : ℕ) → 0 + k ≡ k
    none_plus k = omega arith

    none : x.going.left ++ interim x.interim ≡ []
    none = ap (λ l. l ++ interim x.interim) i.going ∙ ap interim i.interim ∙ none_owed

    place : n - length (x.going.left ++ interim x.interim) ≡ n
    place = let k : length (x.going.left ++ interim x.interim) ≡ 0 = ap length none in omega arith

put_left : (f : Flowed) (x : Outlet) (out : Out) → StandsFor f x → MayPut f out → Idle x → left_of (holding out x) ≡ drop f.given (all (with_part out f))
put_left f x out s m i =
    ap (λ l. l ++ x.reply)
    (ap (λ l. l ++ unwritten x.direction (framing_with x.framing out) (trailers_with x.trailers out) out) (ap (λ l. l ++ interim x.interim) i.going ∙ ap interim i.interim ∙ none_owed))
    ∙ ap (λ l. unwritten x.direction (framing_with x.framing out) (trailers_with x.trailers out) out ++ l) i.reply
    ∙ append-nil (unwritten x.direction (framing_with x.framing out) (trailers_with x.trailers out) out)
    ∙ ap (λ d. unwritten d (framing_with x.framing out) (trailers_with x.trailers out) out) s.direction
    ∙ ap (λ o. unwritten f.direction (framing_with o out) (trailers_with x.trailers out) out) s.framing
    ∙ ap (λ b. unwritten f.direction (framing_with (framing_in f.parts) out) (trailers_with b out) out) s.trailers
    ∙ part_is f out m.placed
    ∙ sym (ap (drop f.given) (all_put f out m.reply) ∙ drop_at (all f) (bytes_of f out) f.given (sym m.idle))

pub put_stands : (f : Flowed) (x : Outlet) (out : Out) → StandsFor f x → MayPut f out → StandsFor (with_part out f) (holding out x)
put_stands f x out s m =
    let i : Idle x = idle_by x (s.left ∙ drop_all f m.idle) in
    record {
      direction = s.direction;
      framing = ap (λ o. framing_with o out) s.framing ∙ framing_is f.parts out;
      trailers = ap (λ b. trailers_with b out) s.trailers ∙ trailers_is f.parts out;
      within =
          let k : length (all (with_part out f)) ≡ length (all f) + length (bytes_of f out) = ap length (all_put f out m.reply) ∙ length-append (all f) (bytes_of f out) in
          let w = s.within in
          omega (arith, k, w);
      left = put_left f x out s m i;
      reply = s.reply;
      fits = s.fits;
      body = λ n. put_body f x out n s m i;
    }

-- The rest

pub fresh_stands : (x : Outlet) (d : Direction) → x.direction ≡ d → x.framing ≡ None → x.trailers ≡ false → x.going ≡ plain [] → x.interim ≡ false → x.next ≡ part.Nothing → x.reply ≡ []
    → StandsFor (fresh d) x
fresh_stands x d way framing trailers going owed next reply = record {
  direction = way;
  framing = framing;
  trailers = trailers;
  within = omega arith;
  left = idle_of x (idle_true x i);
  reply = λ e. reply;
  fits = fits;
  body = λ n. none_plus (body_of x n) (idle_body x n i fits);
}
  where
    none_plus : (k : ℕ) → k ≡ 0 → 0 ≡ 0 + k
    none_plus k e = omega arith

    i : Idle x
    i = record {
      going = ap (λ (w : Way). w.left) going;
      interim = owed;
      next = ap (has_bytes x.framing x.trailers) next;
      reply = reply;
    }

    fits : WayFits x.going
    fits = subst WayFits (sym going) (omega arith)

-- The interim response

-- an outlet that was handed nothing
owed_fresh : (d : Direction) (x : Outlet) → StandsFor (fresh d) x → StandsFor (with_interim (fresh d)) (record x { interim = true })
owed_fresh d x s = record {
  direction = s.direction;
  framing = s.framing;
  trailers = s.trailers;
  within = omega arith;
  left =
      ap (λ l. l ++ interim true ++ unwritten x.direction x.framing x.trailers x.next ++ x.reply) i.going
      ∙ ap (λ l. interim true ++ l ++ x.reply) (no_bytes x.direction x.framing x.trailers x.next i.next) ∙ ap (λ l. interim true ++ [] ++ l) i.reply;
  reply = s.reply;
  fits = s.fits;
  body = λ n. plus (none_left x.going n i.going s.fits) (no_data x.framing x.trailers x.next (n - length (x.going.left ++ interim true)) i.next);
}
  where
    i : Idle x
    i = idle_by x s.left

    plus : {a b : ℕ} → a ≡ 0 → b ≡ 0 → 0 ≡ 0 + (a + b)
    plus e f = omega (arith, e, f)

-- parts that are none write nothing
none_parts : (d : Direction) (parts : List Out) → AreNone parts → (framing_in parts ≡ None) × (has_trailers parts ≡ false) × (written_parts d parts ≡ []) × ((n : ℕ) → data_in d parts n ≡ 0)
none_parts d [] m = (refl, refl, refl, λ n. refl)
none_parts d (part.Nothing ∷ parts) m =
    let k = none_parts d parts m in (
      k.0,
      k.1,
      ap (λ l. l ++ part_bytes d (framing_in parts) (has_trailers parts) part.Nothing) k.2 ∙ nothing_bytes d (framing_in parts) (has_trailers parts),
      λ n. sum (data_in d parts n) (data_at (framing_in parts) (n - length (written_parts d parts)) part.Nothing) (k.3 n) (nothing_data (framing_in parts) (n - length (written_parts d parts))),
    )
  where
    nothing_bytes : (d : Direction) (o : Option Framing) (t : Bool) → part_bytes d o t part.Nothing ≡ []
    nothing_bytes d None t = refl
    nothing_bytes d (Some x) t = refl

    nothing_data : (o : Option Framing) (n : ℕ) → data_at o n part.Nothing ≡ 0
    nothing_data None n = refl
    nothing_data (Some Chunked) n = refl
    nothing_data (Some NoField) n = refl
    nothing_data (Some (Length k)) n = refl

    sum : (a b : ℕ) → a ≡ 0 → b ≡ 0 → a + b ≡ 0
    sum a b e f = omega (arith, e, f)
none_parts d (part.Head fields own ∷ parts) m = absurd m
none_parts d (part.Data bytes ∷ parts) m = absurd m
none_parts d (part.Trailers fields ∷ parts) m = absurd m
none_parts d (part.End ∷ parts) m = absurd m

-- with other parts that are written alike
other_parts : (f : Flowed) (parts : List Out) (x : Outlet) → framing_in parts ≡ framing_in f.parts → has_trailers parts ≡ has_trailers f.parts → written_parts f.direction parts ≡ written_parts f.direction f.parts
    → ((n : ℕ) → data_in f.direction parts n ≡ data_in f.direction f.parts n) → StandsFor f x → StandsFor (record f { parts = parts }) x
other_parts f parts x a b d e s =
    let same : all (record f { parts = parts }) ≡ all f = ap (λ l. f.front ++ l ++ f.reply) d in
    record {
      direction = s.direction;
      framing = s.framing ∙ sym a;
      trailers = s.trailers ∙ sym b;
      within = subst (λ l. f.given ≤ length l) (sym same) s.within;
      left = s.left ∙ ap (drop f.given) (sym same);
      reply = s.reply;
      fits = s.fits;
      body = λ n. e (f.given + n - length f.front) ∙ s.body n ∙ ap (λ k. k + body_of x n) (sym (e (f.given - length f.front)));
    }

pub owed_stands : (f : Flowed) (x : Outlet) → StandsFor f x → MayOwe f → StandsFor (with_interim f) (record x { interim = true })
owed_stands f x s m =
    let k = none_parts f.direction f.parts m.parts in
    other_parts (with_interim (record f { parts = [] })) f.parts (record x { interim = true }) k.0 k.1 k.2 k.3
    (subst (λ g. StandsFor (with_interim g) (record x { interim = true })) (sym same)
    (owed_fresh f.direction x (subst (λ g. StandsFor g x) same (other_parts f [] x (sym k.0) (sym k.1) (sym k.2) (λ n. sym (k.3 n)) s))))
  where
    same : record f { parts = [] } ≡ fresh f.direction
    same =
        ap (λ l. record f { front = l; parts = [] }) m.front
        ∙ ap (λ l. record f { front = []; parts = []; reply = l }) m.reply ∙ ap (λ n. record f { front = []; parts = []; reply = []; given = n }) m.given
