-- What was handed out of one direction, written, is the first of a wire of its message, and all of one where no part may go.
use Rattle.std.proofs.Common.{inl, inr, refl, sym, ◌∙◌, ap, subst, arith, rules, append-nil, append_assoc, length-append}
use Rattle.std.proofs.lemmas.Grind.{flat_map-append}
use Rattle.std.proofs.lemmas.List.{drop_at, take-append-drop}
use Rattle.std.specs.Prelude.{ℕ, ◌≡◌, ◌⊎◌, ◌+◌, ◌-◌, ◌<◌, ◌≤◌, Bool, true, false, ◌&&◌, ◌||◌, List, [], ◌∷◌, ◌++◌, length, take, drop, flat_map, Option, Some, None, is_some, unwrap_or, if◌then◌else◌, nat_lt}
use Rattle.ext_msgs.specs.declared.lists.Field.{Field}
use Rattle.ext_msgs.specs.declared.answer.Common.{Common}
use Rattle.ext_msgs.specs.declared.modes.PartModes.{PartModes}
use Rattle.http_model.specs.Bytes.{IsPrefix, is_empty}
use Rattle.http_model.specs.Wire.{head_bytes}
use Rattle.http_model.specs.declared.types.Direction.{Direction}
use Rattle.http_model.specs.declared.types.Framing.{Framing}
use Rattle.http_model.specs.declared.types.Framing.TheVariants.{NoField, Length, Chunked}
use Rattle.http_model.specs.declared.types.Out.{Out}
use Rattle.http_model.specs.declared.types.Out.TheVariants as part
use Rattle.filter_model.specs.Config.{CourseConfig}
use Rattle.filter_model.specs.Course.{Course, Changed, Outgoing, changed, changed_at, body_of, replacement, trailers_at, is_body_done}
use Rattle.filter_model.specs.Outgoing.{IsWire, body_bytes, end_bytes, written, written_at, passing_limit}
use Rattle.filter_model.specs.Grown.{BodyGoesOn, Grown}
use Rattle.filter_model.specs.Half.{HalfStep, Told, Asked, Gave, Past, Progress, Taken, IsNextData, MayGive, NothingDue, trailers_left, after_out, becomes, parts, progress, progress_of, half_rules}
use Rattle.filter_model.specs.HalfRight.{AreSteps, IsPast, framing_in, has_trailers, part_behind, part_bytes, written_parts}
use Rattle.filter_model.proofs.Growing.{Sizes, singles, any_wire, body_bytes-append, body_bytes-prefix, singles-whole, singles-sizes, sizes-append, no_cuts}
use Rattle.filter_model.proofs.HalfGrows.{Keeps, keeps_fresh, told_goes}
use Rattle.http_model.proofs.BodiesGrow.{before_both, is_first, itself, none_first, onward}

clash : true ≡ false → ⊥
clash e = cc

abbrev pub joined : List (List ℕ) → List ℕ
joined ps = flat_map (λ p. p) ps

-- The next bytes of a body

-- a piece, behind empty ones
pub record PieceNext (left : List (List ℕ)) (b : List ℕ) : Type 0 where
  pub front : List (List ℕ)
  pub back : List (List ℕ)
  pub whole : left ≡ front ++ b ∷ back
  pub empty : joined front ≡ []
  pub some : 0 < length b

-- bytes that pass, where no piece has any
pub record PassNext (left : List (List ℕ)) (rest : List ℕ) (most : ℕ) (b : List ℕ) : Type 0 where
  pub empty : joined left ≡ []
  pub some : 0 < length b
  pub few : length b ≤ most
  pub more : List ℕ
  pub whole : rest ≡ b ++ more

below : (n m : ℕ) → nat_lt n m ≡ true → n < m
below n m e = search rules

not_below : (n m : ℕ) → nat_lt n m ≡ false → m ≤ n
not_below n m e = search rules

empty_first : (p ps : List ℕ) → p ++ ps ≡ [] → (p ≡ []) × (ps ≡ [])
empty_first [] ps e = (refl, e)
empty_first (b ∷ p) ps e = absurd cc

abbrev Next : ℕ → List ℕ → List (List ℕ) → List ℕ → ℕ → List ℕ → Bool → Type 0
Next max p ps passing n b q = elim q [ true ↦ b ≡ drop n p | false ↦ IsNextData max ps passing (n - length p) b ]

from_gone : (max : ℕ) (gone left : List (List ℕ)) (passing : List ℕ) (n : ℕ) (b : List ℕ) → IsNextData max (gone ++ left) passing (length (joined gone) + n) b → IsNextData max left passing n b
from_gone max [] left passing n b k = subst (λ i. IsNextData max left passing i b) (none_plus n) k
  where
    none_plus : (n : ℕ) → 0 + n ≡ n
    none_plus n = omega arith
from_gone max (p ∷ gone) left passing n b k =
    let s : length (joined (p ∷ gone)) ≡ length p + length (joined gone) = length-append p (joined gone) in
    let m : (length (joined (p ∷ gone)) + n) - length p ≡ length (joined gone) + n = omega arith in
    from_gone max gone left passing n b
    (subst (λ i. IsNextData max (gone ++ left) passing i b) m (by (nat_lt (length (joined (p ∷ gone)) + n) (length p)) refl k))
  where
    by : (q : Bool) → nat_lt (length (joined (p ∷ gone)) + n) (length p) ≡ q → Next max p (gone ++ left) passing (length (joined (p ∷ gone)) + n) b q
        → IsNextData max (gone ++ left) passing ((length (joined (p ∷ gone)) + n) - length p) b
    by true e k =
        let s : length (joined (p ∷ gone)) ≡ length p + length (joined gone) = length-append p (joined gone) in
        let l : length (joined (p ∷ gone)) + n < length p = below (length (joined (p ∷ gone)) + n) (length p) e in
        absurd (omega arith)
    by false e k = k

from_empty : (max : ℕ) (left : List (List ℕ)) (passing : List ℕ) (n : ℕ) (b : List ℕ) → joined left ≡ [] → IsNextData max left passing n b → IsNextData max [] passing n b
from_empty max [] passing n b e k = k
from_empty max ((a ∷ p) ∷ left) passing n b e k = absurd cc
from_empty max ([] ∷ left) passing n b e k =
    from_empty max left passing n b e (subst (λ i. IsNextData max left passing i b) (minus_none n) (by (nat_lt n 0) refl k))
  where
    minus_none : (n : ℕ) → n - 0 ≡ n
    minus_none n = omega arith

    by : (q : Bool) → nat_lt n 0 ≡ q → Next max [] left passing n b q → IsNextData max left passing (n - 0) b
    by true e k = let l : n < 0 = below n 0 e in absurd (omega arith)
    by false e k = k

passes_next : (max : ℕ) (left : List (List ℕ)) (before rest b : List ℕ) → joined left ≡ [] → IsNextData max [] (before ++ rest) (length before) b → PassNext left rest max b
passes_next max left before rest b e k = record {
  empty = e;
  some = k.0;
  few = k.1;
  more = drop (length b) rest;
  whole = sym (take-append-drop (length b) rest) ∙ ap (λ l. l ++ drop (length b) rest) (sym (k.2 ∙ ap (take (length b)) (drop_at before rest (length before) refl)));
}

found : (max : ℕ) (left : List (List ℕ)) (rest b : List ℕ) → IsNextData max left rest 0 b → PieceNext left b ⊎ PassNext left rest max b
found max [] rest b k = inr (passes_next max [] [] rest b refl k)
found max ([] ∷ left) rest b k = by (found max left rest b k)
  where
    by : PieceNext left b ⊎ PassNext left rest max b → PieceNext ([] ∷ left) b ⊎ PassNext ([] ∷ left) rest max b
    by (inl n) = inl (record { front = [] ∷ n.front; back = n.back; whole = ap (λ l. [] ∷ l) n.whole; empty = n.empty; some = n.some })
    by (inr n) = inr (record { empty = n.empty; some = n.some; few = n.few; more = n.more; whole = n.whole })
found max ((a ∷ p) ∷ left) rest b k = inl (by (nat_lt 0 (length (a ∷ p))) refl k)
  where
    by : (q : Bool) → nat_lt 0 (length (a ∷ p)) ≡ q → Next max (a ∷ p) left rest 0 b q → PieceNext ((a ∷ p) ∷ left) b
    by true e k = record { front = []; back = left; whole = ap (λ l. l ∷ left) (sym k); empty = refl; some = let l : length b ≡ length (a ∷ p) = ap length k in omega arith }
    by false e k = let l : length (a ∷ p) ≤ 0 = not_below 0 (length (a ∷ p)) e in absurd (omega arith)

-- Empty pieces aren't written

empty_bytes : (f : Framing) (ps : List (List ℕ)) → joined ps ≡ [] → body_bytes f ps ≡ []
empty_bytes NoField ps e = e
empty_bytes (Length n) ps e = e
empty_bytes Chunked [] e = refl
empty_bytes Chunked ([] ∷ ps) e = empty_bytes Chunked ps e
empty_bytes Chunked ((a ∷ p) ∷ ps) e = absurd cc

without : (f : Framing) (xs es ys : List (List ℕ)) → joined es ≡ [] → body_bytes f ((xs ++ es) ++ ys) ≡ body_bytes f (xs ++ ys)
without f xs es ys e =
    body_bytes-append f (xs ++ es) ys
    ∙ ap (λ l. l ++ body_bytes f ys) (body_bytes-append f xs es ∙ ap (λ l. body_bytes f xs ++ l) (empty_bytes f es e) ∙ append-nil (body_bytes f xs))
    ∙ sym (body_bytes-append f xs ys)

-- What was handed out

pub record Untouched (t : Taken) (outs : List Out) : Type 0 where
  pub head : t.head ≡ false
  pub body : t.body ≡ 0
  pub trailers : t.trailers ≡ false
  pub ended : t.ended ≡ false
  pub shown : has_trailers outs ≡ false
  pub framing : framing_in outs ≡ None

pub record IsDone (m : Changed) (t : Taken) (f : Framing) (tail : List ℕ) : Type 0 where
  pub ended : m.ended ≡ true
  pub body : t.body ≡ length (body_of m)
  pub last : tail ≡ end_bytes f (unwrap_or m.trailers [])

-- what of the body was handed out: some pieces, and then bytes that pass
pub record Shown (m : Changed) (t : Taken) : Type 0 where
  pub gone : List (List ℕ)
  pub left : List (List ℕ)
  pub cuts : List (List ℕ)
  pub rest : List ℕ
  pub pieces : m.pieces ≡ gone ++ left
  pub passing : m.passing ≡ joined cuts ++ rest
  pub sizes : Sizes cuts
  pub order : (cuts ≡ []) ⊎ (joined left ≡ [])
  pub body : t.body ≡ length (joined gone) + length (joined cuts)

pub record Gone (d : Direction) (m : Changed) (t : Taken) (outs : List Out) : Type 0 where
  pub head : t.head ≡ true
  pub out : Outgoing
  pub chosen : m.head ≡ Some out
  pub framing : framing_in outs ≡ Some out.framing
  pub trailers : has_trailers outs ≡ t.trailers
  pub shown : Shown m t
  pub tail : List ℕ
  pub none : t.trailers ≡ false → t.ended ≡ false → tail ≡ []
  pub done : (t.trailers ≡ true) ⊎ (t.ended ≡ true) → IsDone m t out.framing tail
  pub last : t.ended ≡ true → t.trailers ≡ false → m.trailers ≡ None
  pub bytes : written_parts d outs ≡ head_bytes d out.fields out.framing ++ (body_bytes out.framing (shown.gone ++ shown.cuts) ++ tail)

abbrev pub IsGone : Direction → Changed → Taken → List Out → Type 0
IsGone d m t outs = (Untouched t outs × (written_parts d outs ≡ [])) ⊎ Gone d m t outs

pub body_length : (m : Changed) (t : Taken) (s : Shown m t) → length (body_of m) ≡ t.body + (length (joined s.left) + length s.rest)
body_length m t s =
    let a : length (body_of m) ≡ length (joined m.pieces) + length m.passing = length-append (joined m.pieces) m.passing in
    let b : length (joined m.pieces) ≡ length (joined s.gone) + length (joined s.left) =
    ap (λ l. length (joined l)) s.pieces ∙ ap length (flat_map-append (λ p. p) s.gone s.left) ∙ length-append (joined s.gone) (joined s.left) in
    let c : length m.passing ≡ length (joined s.cuts) + length s.rest = ap length s.passing ∙ length-append (joined s.cuts) s.rest in
    let e = s.body in
    omega arith

-- The message grows

shown_on : (m m' : Changed) (t : Taken) → BodyGoesOn m m' → (s : Shown m t)
    → (n : Shown m' t) × (n.gone ≡ s.gone) × (n.cuts ≡ s.cuts)
shown_on m m' t (inl (e, p)) s =
    let none : s.cuts ≡ [] = no_cuts s.cuts s.sizes (empty_first (joined s.cuts) s.rest (sym s.passing ∙ e)).0 in (
      record {
        gone = s.gone;
        left = s.left ++ p.rest;
        cuts = s.cuts;
        rest = m'.passing;
        pieces = sym p.whole ∙ ap (λ l. l ++ p.rest) s.pieces ∙ append_assoc s.gone s.left p.rest;
        passing = ap (λ l. joined l ++ m'.passing) (sym none);
        sizes = s.sizes;
        order = inl none;
        body = s.body;
      },
      refl,
      refl,
    )
shown_on m m' t (inr (e, p)) s = (
  record {
    gone = s.gone;
    left = s.left;
    cuts = s.cuts;
    rest = s.rest ++ p.rest;
    pieces = e ∙ s.pieces;
    passing = sym p.whole ∙ ap (λ l. l ++ p.rest) s.passing ∙ append_assoc (joined s.cuts) s.rest p.rest;
    sizes = s.sizes;
    order = s.order;
    body = s.body;
  },
  refl,
  refl,
)

grown_gone : (d : Direction) (m m' : Changed) (t : Taken) (outs : List Out) → Grown m m' → Gone d m t outs → Gone d m' t outs
grown_gone d m m' t outs (inl e) g = absurd (differs (sym e ∙ g.chosen))
  where
    differs : None ≡ Some g.out → ⊥
    differs e = cc
grown_gone d m m' t outs (inr (inl e)) g = subst (λ x. Gone d x t outs) (sym e) g
grown_gone d m m' t outs (inr (inr k)) g =
    let s = shown_on m m' t k.body g.shown in
    record {
      head = g.head;
      out = g.out;
      chosen = k.head ∙ g.chosen;
      framing = g.framing;
      trailers = g.trailers;
      shown = s.0;
      tail = g.tail;
      none = g.none;
      done = λ z. absurd (clash (sym (g.done z).ended ∙ k.unended));
      last = λ z e. absurd (clash (sym (g.done (inr z)).ended ∙ k.unended));
      bytes = g.bytes ∙ ap (λ l. head_bytes d g.out.fields g.out.framing ++ (body_bytes g.out.framing l ++ g.tail))
          (sym (ap (λ l. l ++ s.0.cuts) s.1 ∙ ap (λ l. g.shown.gone ++ l) s.2));
    }

grown_is_gone : (d : Direction) (m m' : Changed) (t : Taken) (outs : List Out) → Grown m m' → IsGone d m t outs → IsGone d m' t outs
grown_is_gone d m m' t outs k (inl u) = inl u
grown_is_gone d m m' t outs k (inr g) = inr (grown_gone d m m' t outs k g)

-- The head

head_gone : (d : Direction) (m : Changed) (t : Taken) (outs : List Out) (fields : List Field) (framing : Framing) → IsGone d m t outs → MayGive passing_limit m t (part.Head fields framing)
    → IsGone d m (after_out (part.Head fields framing) t) (part.Head fields framing ∷ outs)
head_gone d m t outs fields framing (inr g) k = absurd (clash (sym g.head ∙ k.0))
head_gone d m t outs fields framing (inl (u, e)) k = inr (record {
  head = refl;
  out = record { fields = fields; framing = framing };
  chosen = k.1;
  framing = refl;
  trailers = u.shown ∙ sym u.trailers;
  shown = record { gone = []; left = m.pieces; cuts = []; rest = m.passing; pieces = refl; passing = refl; sizes = tt; order = inl refl; body = u.body };
  tail = [];
  none = λ z f. refl;
  done = untouched;
  last = λ z f. absurd (clash (sym z ∙ u.ended));
  bytes = ap (λ l. l ++ part_bytes d (framing_in outs) (has_trailers outs) (part.Head fields framing)) e
      ∙ ap (λ o. part_bytes d o (has_trailers outs) (part.Head fields framing)) u.framing ∙ sym (none_behind framing (head_bytes d fields framing));
})
  where
    untouched : (t.trailers ≡ true) ⊎ (t.ended ≡ true) → IsDone m (after_out (part.Head fields framing) t) framing []
    untouched (inl z) = absurd (clash (sym z ∙ u.trailers))
    untouched (inr z) = absurd (clash (sym z ∙ u.ended))

    none_behind : (f : Framing) (head : List ℕ) → head ++ (body_bytes f [] ++ []) ≡ head
    none_behind NoField head = append-nil head
    none_behind (Length n) head = append-nil head
    none_behind Chunked head = append-nil head

-- Body bytes

pub next_is : (m : Changed) (t : Taken) (s : Shown m t) (max : ℕ) (b : List ℕ) → IsNextData max m.pieces m.passing t.body b → (PieceNext s.left b × (s.cuts ≡ [])) ⊎ PassNext s.left s.rest max b
next_is m t s max b k = by s.order
  where
    at : IsNextData max (s.gone ++ s.left) (joined s.cuts ++ s.rest) (length (joined s.gone) + length (joined s.cuts)) b
    at =
        subst (λ n. IsNextData max (s.gone ++ s.left) (joined s.cuts ++ s.rest) n b) s.body
        (subst (λ l. IsNextData max (s.gone ++ s.left) l t.body b) s.passing (subst (λ l. IsNextData max l m.passing t.body b) s.pieces k))

    within : IsNextData max s.left (joined s.cuts ++ s.rest) (length (joined s.cuts)) b
    within = from_gone max s.gone s.left (joined s.cuts ++ s.rest) (length (joined s.cuts)) b at

    with_cuts : (s.cuts ≡ []) → PieceNext s.left b ⊎ PassNext s.left s.rest max b → (PieceNext s.left b × (s.cuts ≡ [])) ⊎ PassNext s.left s.rest max b
    with_cuts e (inl n) = inl (n, e)
    with_cuts e (inr n) = inr n

    by : (s.cuts ≡ []) ⊎ (joined s.left ≡ []) → (PieceNext s.left b × (s.cuts ≡ [])) ⊎ PassNext s.left s.rest max b
    by (inl e) = with_cuts e (found max s.left s.rest b (subst (λ l. IsNextData max s.left (joined l ++ s.rest) (length (joined l)) b) e within))
    by (inr e) = inr (passes_next max s.left (joined s.cuts) s.rest b e (from_empty max s.left (joined s.cuts ++ s.rest) (length (joined s.cuts)) b e within))

-- some of the body was left
pub some_left : (m : Changed) (t : Taken) (s : Shown m t) (b : List ℕ) → (PieceNext s.left b × (s.cuts ≡ [])) ⊎ PassNext s.left s.rest passing_limit b → t.body < length (body_of m)
some_left m t s b (inl (n, e)) =
    let l : length (body_of m) ≡ t.body + (length (joined s.left) + length s.rest) = body_length m t s in
    let k : length (joined s.left) ≡ length (joined n.front) + length (joined (b ∷ n.back)) =
    ap (λ l. length (joined l)) n.whole ∙ ap length (flat_map-append (λ p. p) n.front (b ∷ n.back)) ∙ length-append (joined n.front) (joined (b ∷ n.back)) in
    let i : length (joined (b ∷ n.back)) ≡ length b + length (joined n.back) = length-append b (joined n.back) in
    let y = n.some in
    omega arith
some_left m t s b (inr n) =
    let l : length (body_of m) ≡ t.body + (length (joined s.left) + length s.rest) = body_length m t s in
    let k : length s.rest ≡ length b + length n.more = ap length n.whole ∙ length-append b n.more in
    let y = n.some in
    omega arith

-- with one more piece written behind those that were
abbrev MoreShown : Changed → Taken → List ℕ → List (List ℕ) → Type 0
MoreShown m t b pieces = (n : Shown m (after_out (part.Data b) t)) × ((f : Framing) → body_bytes f (n.gone ++ n.cuts) ≡ body_bytes f pieces ++ body_bytes f (b ∷ []))

more_shown : (m : Changed) (t : Taken) (s : Shown m t) (b : List ℕ) → (PieceNext s.left b × (s.cuts ≡ [])) ⊎ PassNext s.left s.rest passing_limit b → MoreShown m t b (s.gone ++ s.cuts)
more_shown m t s b (inl (n, e)) = (
  record {
    gone = (s.gone ++ n.front) ++ b ∷ [];
    left = n.back;
    cuts = s.cuts;
    rest = s.rest;
    pieces = s.pieces ∙ ap (λ l. s.gone ++ l) n.whole ∙ sym (append_assoc s.gone n.front (b ∷ n.back)) ∙ sym (append_assoc (s.gone ++ n.front) (b ∷ []) n.back);
    passing = s.passing;
    sizes = s.sizes;
    order = inl e;
    body = size;
  },
  λ f.
      ap (λ l. body_bytes f (((s.gone ++ n.front) ++ b ∷ []) ++ l)) e ∙ ap (body_bytes f) (append-nil ((s.gone ++ n.front) ++ b ∷ []))
      ∙ without f s.gone n.front (b ∷ []) n.empty ∙ body_bytes-append f s.gone (b ∷ [])
      ∙ ap (λ l. body_bytes f l ++ body_bytes f (b ∷ [])) (sym (append-nil s.gone) ∙ ap (λ l. s.gone ++ l) (sym e)),
)
  where
    size : t.body + length b ≡ length (joined ((s.gone ++ n.front) ++ b ∷ [])) + length (joined s.cuts)
    size =
        let a : length (joined ((s.gone ++ n.front) ++ b ∷ [])) ≡ length (joined (s.gone ++ n.front)) + length (joined (b ∷ [])) =
        ap length (flat_map-append (λ p. p) (s.gone ++ n.front) (b ∷ [])) ∙ length-append (joined (s.gone ++ n.front)) (joined (b ∷ [])) in
        let c : length (joined (s.gone ++ n.front)) ≡ length (joined s.gone) + length (joined n.front) =
        ap length (flat_map-append (λ p. p) s.gone n.front) ∙ length-append (joined s.gone) (joined n.front) in
        let i : length (joined n.front) ≡ 0 = ap length n.empty in
        let j : length (joined (b ∷ [])) ≡ length b = ap length (append-nil b) in
        let k = s.body in
        omega arith
more_shown m t s b (inr n) = (
  record {
    gone = s.gone;
    left = s.left;
    cuts = s.cuts ++ b ∷ [];
    rest = n.more;
    pieces = s.pieces;
    passing = s.passing ∙ ap (λ l. joined s.cuts ++ l) n.whole ∙ sym (append_assoc (joined s.cuts) b n.more)
        ∙ ap (λ l. l ++ n.more) (sym (flat_map-append (λ p. p) s.cuts (b ∷ []) ∙ ap (λ l. joined s.cuts ++ l) (append-nil b)));
    sizes = sizes-append s.cuts (b ∷ []) s.sizes ((n.some, n.few), tt);
    order = inr n.empty;
    body = size;
  },
  λ f. ap (body_bytes f) (sym (append_assoc s.gone s.cuts (b ∷ []))) ∙ body_bytes-append f (s.gone ++ s.cuts) (b ∷ []),
)
  where
    size : t.body + length b ≡ length (joined s.gone) + length (joined (s.cuts ++ b ∷ []))
    size =
        let a : length (joined (s.cuts ++ b ∷ [])) ≡ length (joined s.cuts) + length (joined (b ∷ [])) =
        ap length (flat_map-append (λ p. p) s.cuts (b ∷ [])) ∙ length-append (joined s.cuts) (joined (b ∷ [])) in
        let j : length (joined (b ∷ [])) ≡ length b = ap length (append-nil b) in
        let k = s.body in
        omega arith

-- one more part behind the head
behind_bytes : (d : Direction) (outs : List Out) (f : Framing) (out : Out) → framing_in outs ≡ Some f → written_parts d (out ∷ outs) ≡ written_parts d outs ++ part_behind f (has_trailers outs) out
behind_bytes d outs f out e = ap (λ o. written_parts d outs ++ part_bytes d o (has_trailers outs) out) e

longer : (head body tail more : List ℕ) → (head ++ (body ++ tail)) ++ more ≡ head ++ (body ++ (tail ++ more))
longer head body tail more = append_assoc head (body ++ tail) more ∙ ap (λ l. head ++ l) (append_assoc body tail more)

pub not_true : (b : Bool) → (b ≡ true → ⊥) → b ≡ false
not_true true f = absurd (f refl)
not_true false f = refl

data_gone : (d : Direction) (m : Changed) (t : Taken) (outs : List Out) (b : List ℕ) → IsGone d m t outs → MayGive passing_limit m t (part.Data b) → IsGone d m (after_out (part.Data b) t) (part.Data b ∷ outs)
data_gone d m t outs b (inl (u, e)) k = absurd (clash (sym k.0 ∙ u.head))
data_gone d m t outs b (inr g) k =
    let n = next_is m t g.shown passing_limit b k.1 in
    let s : MoreShown m t b (g.shown.gone ++ g.shown.cuts) = more_shown m t g.shown b n in
    let l : t.body < length (body_of m) = some_left m t g.shown b n in
    let open_trailers : t.trailers ≡ false = not_true t.trailers (λ z. full (g.done (inl z)) l) in
    let open_end : t.ended ≡ false = not_true t.ended (λ z. full (g.done (inr z)) l) in
    let no_tail : g.tail ≡ [] = g.none open_trailers open_end in
    inr (record {
      head = g.head;
      out = g.out;
      chosen = g.chosen;
      framing = g.framing;
      trailers = g.trailers;
      shown = s.0;
      tail = [];
      none = λ z f. refl;
      done = done open_trailers open_end;
      last = λ z f. absurd (clash (sym z ∙ open_end));
      bytes = behind_bytes d outs g.out.framing (part.Data b) g.framing
          ∙ ap (λ l. l ++ body_bytes g.out.framing (b ∷ [])) (g.bytes ∙ ap (λ l. head_bytes d g.out.fields g.out.framing ++ (body_bytes g.out.framing (g.shown.gone ++ g.shown.cuts) ++ l)) no_tail)
          ∙ longer (head_bytes d g.out.fields g.out.framing) (body_bytes g.out.framing (g.shown.gone ++ g.shown.cuts)) [] (body_bytes g.out.framing (b ∷ []))
          ∙ ap (λ l. head_bytes d g.out.fields g.out.framing ++ l) (sym (s.1 g.out.framing) ∙ sym (append-nil (body_bytes g.out.framing (s.0.gone ++ s.0.cuts))));
    })
  where
    full : {tail : List ℕ} → IsDone m t g.out.framing tail → t.body < length (body_of m) → ⊥
    full x l = let e = x.body in omega arith

    done : t.trailers ≡ false → t.ended ≡ false → (t.trailers ≡ true) ⊎ (t.ended ≡ true) → IsDone m (after_out (part.Data b) t) g.out.framing []
    done e f (inl z) = absurd (clash (sym z ∙ e))
    done e f (inr z) = absurd (clash (sym z ∙ f))

-- The trailers and the end

abbrev still_shown : (m : Changed) (t t' : Taken) → t'.body ≡ t.body → Shown m t → Shown m t'
still_shown m t t' e s = record {
  gone = s.gone;
  left = s.left;
  cuts = s.cuts;
  rest = s.rest;
  pieces = s.pieces;
  passing = s.passing;
  sizes = s.sizes;
  order = s.order;
  body = e ∙ s.body;
}

pub left_of : (m : Changed) (b : Bool) (fields : List Field) → trailers_left m b ≡ Some fields → (b ≡ false) × (m.trailers ≡ Some fields)
left_of m true fields e = absurd cc
left_of m false fields e = (refl, e)

-- what ends is said by the message itself
abbrev pub ShownEnds : Changed → Type 0
ShownEnds m = (fields : List Field) → m.trailers ≡ Some fields → m.ended ≡ true

trailers_gone : (d : Direction) (m : Changed) (t : Taken) (outs : List Out) (fields : List Field) → ShownEnds m → IsGone d m t outs → MayGive passing_limit m t (part.Trailers fields)
    → IsGone d m (after_out (part.Trailers fields) t) (part.Trailers fields ∷ outs)
trailers_gone d m t outs fields y (inl (u, e)) k = absurd (clash (sym k.0.head ∙ u.head))
trailers_gone d m t outs fields y (inr g) k =
    let l = left_of m t.trailers fields k.1 in
    let open_end : t.ended ≡ false = not_true t.ended (λ z. differs (sym l.1 ∙ g.last z l.0)) in
    let no_tail : g.tail ≡ [] = g.none l.0 open_end in
    inr (record {
      head = g.head;
      out = g.out;
      chosen = g.chosen;
      framing = g.framing;
      trailers = refl;
      shown = still_shown m t (after_out (part.Trailers fields) t) refl g.shown;
      tail = end_bytes g.out.framing fields;
      none = λ z f. absurd (clash z);
      done = λ z. record { ended = y fields l.1; body = k.0.body; last = ap (λ o. end_bytes g.out.framing (unwrap_or o [])) (sym l.1) };
      last = λ z f. absurd (clash f);
      bytes = behind_bytes d outs g.out.framing (part.Trailers fields) g.framing
          ∙ ap (λ l. l ++ end_bytes g.out.framing fields) (g.bytes ∙ ap (λ l. head_bytes d g.out.fields g.out.framing ++ (body_bytes g.out.framing (g.shown.gone ++ g.shown.cuts) ++ l)) no_tail)
          ∙ longer (head_bytes d g.out.fields g.out.framing) (body_bytes g.out.framing (g.shown.gone ++ g.shown.cuts)) [] (end_bytes g.out.framing fields);
    })
  where
    differs : Some fields ≡ None → ⊥
    differs e = cc

end_gone : (d : Direction) (m : Changed) (t : Taken) (outs : List Out) → IsGone d m t outs → MayGive passing_limit m t part.End → IsGone d m (after_out part.End t) (part.End ∷ outs)
end_gone d m t outs (inl (u, e)) k = absurd (clash (sym k.0.head ∙ u.head))
end_gone d m t outs (inr g) k = inr (by t.trailers refl)
  where
    left : (b : Bool) → t.trailers ≡ b → b ≡ false → m.trailers ≡ None
    left true e f = absurd (clash f)
    left false e f = ap (trailers_left m) (sym e) ∙ k.1

    bytes_with : (b : Bool) → t.trailers ≡ b → written_parts d (part.End ∷ outs)
        ≡ head_bytes d g.out.fields g.out.framing ++ (body_bytes g.out.framing (g.shown.gone ++ g.shown.cuts) ++ (g.tail ++ (if b then [] else end_bytes g.out.framing [])))
    bytes_with b e =
        behind_bytes d outs g.out.framing part.End g.framing
        ∙ ap (λ b. written_parts d outs ++ (if b then [] else end_bytes g.out.framing [])) (g.trailers ∙ e)
        ∙ ap (λ l. l ++ (if b then [] else end_bytes g.out.framing [])) g.bytes
        ∙ longer (head_bytes d g.out.fields g.out.framing) (body_bytes g.out.framing (g.shown.gone ++ g.shown.cuts)) g.tail (if b then [] else end_bytes g.out.framing [])

    by : (b : Bool) → t.trailers ≡ b → Gone d m (after_out part.End t) (part.End ∷ outs)
    by true e = record {
      head = g.head;
      out = g.out;
      chosen = g.chosen;
      framing = g.framing;
      trailers = g.trailers;
      shown = still_shown m t (after_out part.End t) refl g.shown;
      tail = g.tail ++ [];
      none = λ z f. absurd (clash (sym e ∙ z));
      done = λ z. record { ended = k.3; body = k.0.body; last = append-nil g.tail ∙ (g.done (inl e)).last };
      last = λ z f. absurd (clash (sym e ∙ f));
      bytes = bytes_with true e;
    }
    by false e =
        let none : m.trailers ≡ None = left false e refl in
        record {
          head = g.head;
          out = g.out;
          chosen = g.chosen;
          framing = g.framing;
          trailers = g.trailers;
          shown = still_shown m t (after_out part.End t) refl g.shown;
          tail = g.tail ++ end_bytes g.out.framing [];
          none = λ z f. absurd (clash f);
          done = λ z. record {
            ended = k.3;
            body = k.0.body;
            last = ap (λ l. l ++ end_bytes g.out.framing []) (g.none e k.2) ∙ ap (λ o. end_bytes g.out.framing (unwrap_or o [])) (sym none);
          };
          last = λ z f. none;
          bytes = bytes_with false e;
        }

nothing_gone : (d : Direction) (m : Changed) (t : Taken) (outs : List Out) → IsGone d m t outs → IsGone d m t (part.Nothing ∷ outs)
nothing_gone d m t outs (inl (u, e)) = inl (
  record { head = u.head; body = u.body; trailers = u.trailers; ended = u.ended; shown = u.shown; framing = u.framing },
  ap (λ l. l ++ part_bytes d (framing_in outs) (has_trailers outs) part.Nothing) e ∙ none (framing_in outs),
)
  where
    none : (o : Option Framing) → part_bytes d o (has_trailers outs) part.Nothing ≡ []
    none None = refl
    none (Some f) = refl
nothing_gone d m t outs (inr g) = inr (record {
  head = g.head;
  out = g.out;
  chosen = g.chosen;
  framing = g.framing;
  trailers = g.trailers;
  shown = g.shown;
  tail = g.tail;
  none = g.none;
  done = g.done;
  last = g.last;
  bytes = behind_bytes d outs g.out.framing part.Nothing g.framing ∙ append-nil (written_parts d outs) ∙ g.bytes;
})

-- Along a past

pub shown_ends : (c : CourseConfig) (d : Direction) (w : Course) → ShownEnds (changed c d w)
unfolding changed
shown_ends c d w fields = by w.head (replacement d w)
  where
    shown : (empty done pass : Bool) (answer : Option Common) (change : Common → List Field) (own fields : List Field) → trailers_at empty done answer change pass own ≡ Some fields
        → (done && (empty || is_some (trailers_at empty done answer change pass own))) ≡ true
    shown true done pass answer change own fields e = absurd cc
    shown false false pass answer change own fields e = absurd cc
    shown false true pass answer change own fields e = ap is_some e

    by : (o : Option Outgoing) (r : Option (List ℕ)) → (changed_at c w o r).trailers ≡ Some fields → (changed_at c w o r).ended ≡ true
    by None r e = absurd cc
    by (Some h) (Some b) e = refl
    by (Some h) None e = shown (is_empty w.original.trailers) (is_body_done c w) _ _ _ w.original.trailers fields e

part_gone : (c : CourseConfig) (d : Direction) (w : Course) (t : Taken) (outs : List Out) (out : Out) → IsGone d (changed c d w) t outs → MayGive passing_limit (changed c d w) t out
    → IsGone d (changed c d w) (after_out out t) (out ∷ outs)
part_gone c d w t outs (part.Head fields framing) g k = head_gone d (changed c d w) t outs fields framing g k
part_gone c d w t outs (part.Data b) g k = data_gone d (changed c d w) t outs b g k
part_gone c d w t outs (part.Trailers fields) g k = trailers_gone d (changed c d w) t outs fields (shown_ends c d w) g k
part_gone c d w t outs part.End g k = end_gone d (changed c d w) t outs g k
part_gone c d w t outs part.Nothing g k = nothing_gone d (changed c d w) t outs g

pub along : (c : CourseConfig) (d : Direction) (modes : PartModes) (steps : List HalfStep) → AreSteps c d modes steps
    → Keeps c (progress_of c d modes steps).course × IsGone d (changed c d (progress_of c d modes steps).course) (progress_of c d modes steps).taken (parts steps)
unfolding half_rules
along c d modes [] y = (keeps_fresh c modes, inl (record { head = refl; body = refl; trailers = refl; ended = refl; shown = refl; framing = refl }, refl))
along c d modes (Told call ∷ steps) (y, m) =
    let k = along c d modes steps y in
    let p : Progress = progress_of c d modes steps in
    let g = told_goes c d p call k.0 m in
    (g.1, grown_is_gone d (changed c d p.course) _ p.taken (parts steps) g.0 k.1)
along c d modes (Asked ∷ steps) (y, m) = along c d modes steps y
along c d modes (Gave out ∷ steps) (y, m) =
    let k = along c d modes steps y in
    let p : Progress = progress_of c d modes steps in
    (k.0, part_gone c d p.course p.taken (parts steps) out k.1 m)

-- The first of a wire, and all of one

written_at_head : (d : Direction) (m : Changed) (out : Outgoing) (cuts : List (List ℕ)) → m.head ≡ Some out
    → written d m cuts ≡ head_bytes d out.fields out.framing ++ (body_bytes out.framing (m.pieces ++ cuts) ++ (if m.ended then end_bytes out.framing (unwrap_or m.trailers []) else []))
written_at_head d m out cuts e = ap (λ o. written_at d o m cuts) e

length_none : (l : List ℕ) → length l ≡ 0 → l ≡ []
length_none [] e = refl
length_none (x ∷ l) e = absurd cc

-- where all of the body was handed out, the cuts are those of the message
whole_wire : (d : Direction) (m : Changed) (t : Taken) (outs : List Out) (g : Gone d m t outs) → t.body ≡ length (body_of m)
    → g.tail ≡ (if m.ended then end_bytes g.out.framing (unwrap_or m.trailers []) else []) → IsWire d m (written_parts d outs)
whole_wire d m t outs g e f =
    let l : length (body_of m) ≡ t.body + (length (joined g.shown.left) + length g.shown.rest) = body_length m t g.shown in
    let no_rest : g.shown.rest ≡ [] = length_none g.shown.rest (omega arith) in
    let no_left : joined g.shown.left ≡ [] = length_none (joined g.shown.left) (omega arith) in
    record {
      cuts = g.shown.cuts;
      whole = sym (g.shown.passing ∙ ap (λ l. joined g.shown.cuts ++ l) no_rest ∙ append-nil (joined g.shown.cuts));
      sizes = g.shown.sizes;
      spelled = g.bytes
          ∙ ap (λ l. head_bytes d g.out.fields g.out.framing ++ (body_bytes g.out.framing (g.shown.gone ++ g.shown.cuts) ++ l)) f
          ∙ ap (λ l. head_bytes d g.out.fields g.out.framing ++ (l ++ (if m.ended then end_bytes g.out.framing (unwrap_or m.trailers []) else [])))
          (sym (ap (λ l. body_bytes g.out.framing (l ++ g.shown.cuts)) g.shown.pieces ∙ without g.out.framing g.shown.gone g.shown.left g.shown.cuts no_left))
          ∙ sym (written_at_head d m g.out g.shown.cuts g.chosen);
    }

-- before the end, the rest may still follow
first_wire : (d : Direction) (m : Changed) (t : Taken) (outs : List Out) (g : Gone d m t outs) → g.tail ≡ [] → (wire : List ℕ) × IsWire d m wire × IsPrefix (written_parts d outs) wire
first_wire d m t outs g e = (
  written d m (g.shown.cuts ++ singles g.shown.rest),
  record {
    cuts = g.shown.cuts ++ singles g.shown.rest;
    whole = flat_map-append (λ p. p) g.shown.cuts (singles g.shown.rest) ∙ ap (λ l. joined g.shown.cuts ++ l) (singles-whole g.shown.rest) ∙ sym g.shown.passing;
    sizes = sizes-append g.shown.cuts (singles g.shown.rest) g.shown.sizes (singles-sizes g.shown.rest);
    spelled = refl;
  },
  subst (λ l. IsPrefix l (written d m (g.shown.cuts ++ singles g.shown.rest))) (sym shown_bytes)
      (subst (λ l. IsPrefix (head_bytes d g.out.fields g.out.framing ++ body_bytes g.out.framing (g.shown.gone ++ g.shown.cuts)) l)
      (sym (written_at_head d m g.out (g.shown.cuts ++ singles g.shown.rest) g.chosen))
      (before_both (head_bytes d g.out.fields g.out.framing) (body_bytes g.out.framing (g.shown.gone ++ g.shown.cuts)) _ (onward (body_first g.shown.order) (is_first _ _)))),
)
  where
    shown_bytes : written_parts d outs ≡ head_bytes d g.out.fields g.out.framing ++ body_bytes g.out.framing (g.shown.gone ++ g.shown.cuts)
    shown_bytes =
        g.bytes ∙ ap (λ l. head_bytes d g.out.fields g.out.framing ++ (body_bytes g.out.framing (g.shown.gone ++ g.shown.cuts) ++ l)) e
        ∙ ap (λ l. head_bytes d g.out.fields g.out.framing ++ l) (append-nil (body_bytes g.out.framing (g.shown.gone ++ g.shown.cuts)))

    body_first : (g.shown.cuts ≡ []) ⊎ (joined g.shown.left ≡ [])
        → IsPrefix (body_bytes g.out.framing (g.shown.gone ++ g.shown.cuts)) (body_bytes g.out.framing (m.pieces ++ (g.shown.cuts ++ singles g.shown.rest)))
    body_first (inl z) =
        subst (λ l. IsPrefix (body_bytes g.out.framing (g.shown.gone ++ l)) (body_bytes g.out.framing (m.pieces ++ (g.shown.cuts ++ singles g.shown.rest)))) (sym z)
        (body_bytes-prefix g.out.framing (g.shown.gone ++ []) (m.pieces ++ (g.shown.cuts ++ singles g.shown.rest))
        (subst (λ l. IsPrefix l (m.pieces ++ (g.shown.cuts ++ singles g.shown.rest))) (sym (append-nil g.shown.gone))
        (onward (subst (λ l. IsPrefix g.shown.gone l) (sym g.shown.pieces) (is_first g.shown.gone g.shown.left)) (is_first m.pieces (g.shown.cuts ++ singles g.shown.rest)))))
    body_first (inr z) =
        subst (λ l. IsPrefix (body_bytes g.out.framing (g.shown.gone ++ g.shown.cuts)) l)
        (sym (ap (λ l. body_bytes g.out.framing (l ++ (g.shown.cuts ++ singles g.shown.rest))) g.shown.pieces
        ∙ without g.out.framing g.shown.gone g.shown.left (g.shown.cuts ++ singles g.shown.rest) z))
        (body_bytes-prefix g.out.framing (g.shown.gone ++ g.shown.cuts) (g.shown.gone ++ (g.shown.cuts ++ singles g.shown.rest))
        (before_both g.shown.gone g.shown.cuts (g.shown.cuts ++ singles g.shown.rest) (is_first g.shown.cuts (singles g.shown.rest))))

pub is_first_of_wire : (p : Past) → IsPast p → (wire : List ℕ) × IsWire p.direction (becomes p) wire × IsPrefix (written_parts p.direction (parts p.steps)) wire
is_first_of_wire p y = by (along p.config p.direction p.modes p.steps y).1
  where
    done : (g : Gone p.direction (becomes p) (progress p).taken (parts p.steps)) → IsDone (becomes p) (progress p).taken g.out.framing g.tail
        → (wire : List ℕ) × IsWire p.direction (becomes p) wire × IsPrefix (written_parts p.direction (parts p.steps)) wire
    done g k = (
      written_parts p.direction (parts p.steps),
      whole_wire p.direction (becomes p) (progress p).taken (parts p.steps) g k.body
          (k.last ∙ ap (λ b. if b then end_bytes g.out.framing (unwrap_or (becomes p).trailers []) else []) (sym k.ended)),
      itself (written_parts p.direction (parts p.steps)),
    )

    at : (g : Gone p.direction (becomes p) (progress p).taken (parts p.steps)) (b e : Bool) → (progress p).taken.trailers ≡ b → (progress p).taken.ended ≡ e
        → (wire : List ℕ) × IsWire p.direction (becomes p) wire × IsPrefix (written_parts p.direction (parts p.steps)) wire
    at g true e i j = done g (g.done (inl i))
    at g false true i j = done g (g.done (inr j))
    at g false false i j = first_wire p.direction (becomes p) (progress p).taken (parts p.steps) g (g.none i j)

    by : IsGone p.direction (becomes p) (progress p).taken (parts p.steps) → (wire : List ℕ) × IsWire p.direction (becomes p) wire × IsPrefix (written_parts p.direction (parts p.steps)) wire
    by (inl (u, e)) = (
      written p.direction (becomes p) (singles (becomes p).passing),
      any_wire p.direction (becomes p),
      subst (λ l. IsPrefix l (written p.direction (becomes p) (singles (becomes p).passing))) (sym e) (none_first _),
    )
    by (inr g) = at g (progress p).taken.trailers (progress p).taken.ended refl refl

pub is_all_of_wire : (p : Past) → IsPast p → NothingDue (becomes p) (progress p).taken → IsWire p.direction (becomes p) (written_parts p.direction (parts p.steps))
is_all_of_wire p y n = by (along p.config p.direction p.modes p.steps y).1
  where
    done : (g : Gone p.direction (becomes p) (progress p).taken (parts p.steps)) → IsDone (becomes p) (progress p).taken g.out.framing g.tail
        → g.tail ≡ (if (becomes p).ended then end_bytes g.out.framing (unwrap_or (becomes p).trailers []) else [])
    done g k = k.last ∙ ap (λ b. if b then end_bytes g.out.framing (unwrap_or (becomes p).trailers []) else []) (sym k.ended)

    tail : (g : Gone p.direction (becomes p) (progress p).taken (parts p.steps)) (b e : Bool) → (progress p).taken.trailers ≡ b → (progress p).taken.ended ≡ e
        → g.tail ≡ (if (becomes p).ended then end_bytes g.out.framing (unwrap_or (becomes p).trailers []) else [])
    tail g true e i j = done g (g.done (inl i))
    tail g false true i j = done g (g.done (inr j))
    tail g false false i j =
        g.none i j ∙ ap (λ b. if b then end_bytes g.out.framing (unwrap_or (becomes p).trailers []) else []) (sym (n.ended g.head j))

    by : IsGone p.direction (becomes p) (progress p).taken (parts p.steps) → IsWire p.direction (becomes p) (written_parts p.direction (parts p.steps))
    by (inl (u, e)) =
        let none : (becomes p).head ≡ None = n.head u.head in
        subst (λ l. IsWire p.direction (becomes p) l) (ap (λ o. written_at p.direction o (becomes p) (singles (becomes p).passing)) none ∙ sym e) (any_wire p.direction (becomes p))
    by (inr g) =
        whole_wire p.direction (becomes p) (progress p).taken (parts p.steps) g (n.body g.head)
        (tail g (progress p).taken.trailers (progress p).taken.ended refl refl)
