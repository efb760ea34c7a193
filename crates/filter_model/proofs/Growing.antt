-- What a message becomes only grows: each wire of the earlier one has a wire of the later one with the same prefix.
use Rattle.std.proofs.Common.{inl, inr, sym, ◌∙◌, ap, subst, append-nil, refl, arith}
use Rattle.std.proofs.lemmas.Grind.{flat_map-append}
use Rattle.std.proofs.lemmas.List.Elements.{filter-append}
use Rattle.std.specs.List.{AllByRecursion}
use Rattle.std.specs.Prelude.{ℕ, ◌≡◌, ◌<◌, ◌≤◌, Bool, true, false, not, List, [], ◌∷◌, ◌++◌, length, Option, Some, None, if◌then◌else◌, flat_map, filter, unwrap_or}
use Rattle.http_model.specs.Bytes.{IsPrefix, is_empty}
use Rattle.http_model.specs.Wire.{head_bytes, chunk_bytes}
use Rattle.http_model.specs.declared.types.Direction.{Direction}
use Rattle.http_model.specs.declared.types.Framing.{Framing}
use Rattle.http_model.specs.declared.types.Framing.TheVariants.{NoField, Length, Chunked}
use Rattle.filter_model.specs.Course.{Changed, Outgoing}
use Rattle.filter_model.specs.Outgoing.{IsWire, body_bytes, end_bytes, written, written_at, written_behind, passing_limit}
use Rattle.filter_model.specs.Grown.{BodyGoesOn, GoesOn, Grown}
use Rattle.http_model.proofs.BodiesGrow.{before_both, is_first, onward}

cons_is_not_none : {A : Type 0} (x : A) (xs : List A) → x ∷ xs ≡ [] → ⊥
cons_is_not_none x xs e = cc

pub prefix_of_none : {A : Type 0} (xs : List A) → IsPrefix xs [] → xs ≡ []
prefix_of_none [] p = refl
prefix_of_none (x ∷ xs) p = absurd (cons_is_not_none x (xs ++ p.rest) p.whole)

body_then : (m m' m'' : Changed) → BodyGoesOn m m' → BodyGoesOn m' m'' → BodyGoesOn m m''
body_then m m' m'' (inl (e, p)) (inl (f, q)) = inl (e, onward p q)
body_then m m' m'' (inl (e, p)) (inr (f, q)) = inl (e, subst (λ l. IsPrefix m.pieces l) (sym f) p)
body_then m m' m'' (inr (e, p)) (inl (f, q)) =
    inl (prefix_of_none m.passing (subst (λ l. IsPrefix m.passing l) f p), subst (λ l. IsPrefix l m''.pieces) e q)
body_then m m' m'' (inr (e, p)) (inr (f, q)) = inr (f ∙ e, onward p q)

pub grown_then : (m m' m'' : Changed) → Grown m m' → Grown m' m'' → Grown m m''
grown_then m m' m'' (inl e) q = inl e
grown_then m m' m'' (inr (inl e)) q = subst (λ x. Grown x m'') e q
grown_then m m' m'' (inr (inr g)) (inl e) = inl (sym g.head ∙ e)
grown_then m m' m'' (inr (inr g)) (inr (inl e)) = inr (inr (subst (λ x. GoesOn m x) (sym e) g))
grown_then m m' m'' (inr (inr g)) (inr (inr k)) =
    inr (inr (record { head = k.head ∙ g.head; unended = g.unended; body = body_then m m' m'' g.body k.body }))

pub grown_same : (m m' : Changed) → m' ≡ m → Grown m m'
grown_same m m' e = inr (inl e)

-- Prefixes

pub body_bytes-append : (f : Framing) (xs ys : List (List ℕ)) → body_bytes f (xs ++ ys) ≡ body_bytes f xs ++ body_bytes f ys
body_bytes-append NoField xs ys = flat_map-append (λ p. p) xs ys
body_bytes-append (Length n) xs ys = flat_map-append (λ p. p) xs ys
body_bytes-append Chunked xs ys =
    ap (flat_map chunk_bytes) (filter-append (λ p. not (is_empty p)) xs ys)
    ∙ flat_map-append chunk_bytes (filter (λ p. not (is_empty p)) xs) (filter (λ p. not (is_empty p)) ys)

pub body_bytes-prefix : (f : Framing) (xs ys : List (List ℕ)) → IsPrefix xs ys → IsPrefix (body_bytes f xs) (body_bytes f ys)
body_bytes-prefix f xs ys p = record { rest = body_bytes f p.rest; whole = sym (body_bytes-append f xs p.rest) ∙ ap (body_bytes f) p.whole }

-- Cuts

abbrev pub Sizes : List (List ℕ) → Type 0
Sizes cuts = AllByRecursion (λ p. (0 < length p) × (length p ≤ passing_limit)) cuts

abbrev pub singles : List ℕ → List (List ℕ)
singles [] = []
singles (x ∷ xs) = (x ∷ []) ∷ singles xs

pub singles-whole : (xs : List ℕ) → flat_map (λ p. p) (singles xs) ≡ xs
singles-whole [] = refl
singles-whole (x ∷ xs) = ap (λ l. x ∷ l) (singles-whole xs)

pub singles-sizes : (xs : List ℕ) → Sizes (singles xs)
singles-sizes [] = tt
singles-sizes (x ∷ xs) = (((omega arith), (omega arith)), singles-sizes xs)

pub sizes-append : (xs ys : List (List ℕ)) → Sizes xs → Sizes ys → Sizes (xs ++ ys)
sizes-append [] ys p q = q
sizes-append (x ∷ xs) ys p q = (p.0, sizes-append xs ys p.1 q)

pub no_cuts : (cuts : List (List ℕ)) → Sizes cuts → flat_map (λ p. p) cuts ≡ [] → cuts ≡ []
no_cuts [] s e = refl
no_cuts ([] ∷ cuts) s e = absurd (omega (arith, s.0.0))
no_cuts ((x ∷ xs) ∷ cuts) s e = absurd (cons_is_not_none x (xs ++ flat_map (λ p. p) cuts) e)

pub any_wire : (d : Direction) (m : Changed) → IsWire d m (written d m (singles m.passing))
any_wire d m = record { cuts = singles m.passing; whole = singles-whole m.passing; sizes = singles-sizes m.passing; spelled = refl }

-- Wires

tails : (body body' : List ℕ) (e : Bool) (end end' : List ℕ) → e ≡ false → IsPrefix body body'
    → IsPrefix (body ++ (if e then end else [])) (body' ++ end')
tails body body' true end end' u p = absurd cc
tails body body' false end end' u p =
    subst (λ l. IsPrefix l (body' ++ end')) (sym (append-nil body)) (onward p (is_first body' end'))

behind-prefix : (f : Framing) (m m' : Changed) (cuts cuts' : List (List ℕ)) → m.ended ≡ false
    → IsPrefix (m.pieces ++ cuts) (m'.pieces ++ cuts') → IsPrefix (written_behind f m cuts) (written_behind f m' cuts')
behind-prefix f m m' cuts cuts' u p =
    tails (body_bytes f (m.pieces ++ cuts)) (body_bytes f (m'.pieces ++ cuts')) m.ended (end_bytes f (unwrap_or m.trailers []))
    (if m'.ended then end_bytes f (unwrap_or m'.trailers []) else []) u (body_bytes-prefix f (m.pieces ++ cuts) (m'.pieces ++ cuts') p)

written-prefix : (d : Direction) (o : Option Outgoing) (m m' : Changed) (cuts cuts' : List (List ℕ)) → m.ended ≡ false
    → IsPrefix (m.pieces ++ cuts) (m'.pieces ++ cuts') → IsPrefix (written_at d o m cuts) (written_at d o m' cuts')
written-prefix d None m m' cuts cuts' u p = record { rest = []; whole = refl }
written-prefix d (Some head) m m' cuts cuts' u p =
    before_both (head_bytes d head.fields head.framing) (written_behind head.framing m cuts) (written_behind head.framing m' cuts') (behind-prefix head.framing m m' cuts cuts' u p)

-- the cuts of a message that goes on
pub cuts_on : (m m' : Changed) → BodyGoesOn m m' → (cuts : List (List ℕ)) → Sizes cuts → flat_map (λ p. p) cuts ≡ m.passing
    → (cuts' : List (List ℕ)) × Sizes cuts' × (flat_map (λ p. p) cuts' ≡ m'.passing) × IsPrefix (m.pieces ++ cuts) (m'.pieces ++ cuts')
cuts_on m m' (inl (e, p)) cuts s w = (
  singles m'.passing,
  singles-sizes m'.passing,
  singles-whole m'.passing,
  onward (subst (λ l. IsPrefix l m'.pieces) (sym (ap (λ l. m.pieces ++ l) (no_cuts cuts s (w ∙ e)) ∙ append-nil m.pieces)) p)
      (is_first m'.pieces (singles m'.passing)),
)
cuts_on m m' (inr (e, p)) cuts s w = (
  cuts ++ singles p.rest,
  sizes-append cuts (singles p.rest) s (singles-sizes p.rest),
  flat_map-append (λ p. p) cuts (singles p.rest) ∙ ap (λ l. l ++ flat_map (λ p. p) (singles p.rest)) w
      ∙ ap (λ l. m.passing ++ l) (singles-whole p.rest) ∙ p.whole,
  subst (λ l. IsPrefix (m.pieces ++ cuts) (l ++ (cuts ++ singles p.rest))) (sym e)
      (before_both m.pieces cuts (cuts ++ singles p.rest) (is_first cuts (singles p.rest))),
)

pub wire_none : (d : Direction) (m : Changed) (wire : List ℕ) → m.head ≡ None → IsWire d m wire → wire ≡ []
wire_none d m wire e w = w.spelled ∙ ap (λ o. written_at d o m w.cuts) e

-- what may have gone out of a message still may, when it has grown
pub still_goes : (d : Direction) (m m' : Changed) → Grown m m' → (bytes wire : List ℕ) → IsWire d m wire → IsPrefix bytes wire
    → (wire' : List ℕ) × IsWire d m' wire' × IsPrefix bytes wire'
still_goes d m m' (inl e) bytes wire w p =
    let none : bytes ≡ [] = prefix_of_none bytes (subst (λ l. IsPrefix bytes l) (w.spelled ∙ ap (λ o. written_at d o m w.cuts) e) p) in
    (written d m' (singles m'.passing), any_wire d m', record { rest = written d m' (singles m'.passing); whole = ap (λ l. l ++ written d m' (singles m'.passing)) none })
still_goes d m m' (inr (inl e)) bytes wire w p = (wire, subst (λ x. IsWire d x wire) (sym e) w, p)
still_goes d m m' (inr (inr g)) bytes wire w p =
    let k = cuts_on m m' g.body w.cuts w.sizes w.whole in (
      written d m' k.0,
      record { cuts = k.0; whole = k.2; sizes = k.1; spelled = refl },
      onward (subst (λ l. IsPrefix bytes l) w.spelled p)
          (subst (λ o. IsPrefix (written_at d m.head m w.cuts) (written_at d o m' k.0)) (sym g.head)
          (written-prefix d m.head m m' w.cuts k.0 g.unended k.3)),
    )
