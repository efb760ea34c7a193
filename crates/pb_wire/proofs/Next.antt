-- A step of a reader, from what reading a list gives.
use Rattle.std.proofs.Common.{◌≡◌, ℕ, ◌+◌, ◌-◌, ◌<◌, ◌≤◌, List, [], ◌∷◌, ◌++◌, length, take, drop, Some, None, Ok, Err, refl, sym, ap, ◌∙◌, arith, append_assoc}
use Rattle.std.proofs.lemmas.List.{take_at, drop_at, take-append-drop, length-append, length-take, length-drop, append-nil}
use Rattle.pb_wire.specs.declared.fault.Cause.{Cause}
use Rattle.pb_wire.specs.declared.reader.Raw.{Raw}
use Rattle.pb_wire.specs.declared.reader.Raw.TheVariants as raw
use Rattle.pb_wire.specs.Records.{Content, varint, fixed64, span, fixed32, Entry, Spells}
use Rattle.pb_wire.specs.Reading.{entry_at, raw_content, fault_at}
use Rattle.pb_wire.specs.Cursor.{part, Placed, placed_at, next_at, some_of, shown, inner_len, payload_before, IsInside, start_before}
use Rattle.pb_wire.proofs.Spelled.{entry_takes}

-- the bytes in a content
abbrev pub inner_of : Content → List ℕ
inner_of (varint n) = []
inner_of (fixed64 n) = []
inner_of (span bytes) = bytes
inner_of (fixed32 n) = []

inner-of-len : (content : Content) → length (inner_of content) ≡ inner_len content
inner-of-len (varint n) = refl
inner-of-len (fixed64 n) = refl
inner-of-len (span bytes) = refl
inner-of-len (fixed32 n) = refl

-- a content's bytes stand at the end of its record
inner_last : (front : List ℕ) (number : ℕ) (content : Content) → Spells front (record { number = number; content = content }) → (before : List ℕ) × (front ≡ before ++ inner_of content)
inner_last front number (varint n) h = (front, sym (append-nil front))
inner_last front number (fixed64 n) h = (front, sym (append-nil front))
inner_last front number (span bytes) h = (h.tag ++ h.is_behind.0, h.joined ∙ ap (λ (s : List ℕ). h.tag ++ s) h.is_behind.2 ∙ sym (append_assoc h.tag h.is_behind.0 bytes))
inner_last front number (fixed32 n) h = (front, sym (append-nil front))

-- a record has a byte
pub shorter : (bytes : List ℕ) (x : Entry × List ℕ) → entry_at bytes ≡ Ok x → length x.1 < length bytes
shorter bytes x e = let t = entry_takes bytes x e in omega (arith, t.3, ap length t.2, length-append t.0 x.1)

-- a record's parts within all of the bytes
pub record Lies (whole : List ℕ) (end : ℕ) (inner rest : List ℕ) : Type 0 where
  pub short : length rest + length inner ≤ end
  pub rest_is : part whole (end - length rest) (end - (end - length rest)) ≡ rest
  pub inner_is : part whole (end - length rest - length inner) (length inner) ≡ inner

middle : (a m b : List ℕ) (i n : ℕ) → i ≡ length a → n ≡ length m → part (a ++ (m ++ b)) i n ≡ m
middle a m b i n ei en = rw (drop_at a (m ++ b) i (sym ei), take_at m b n (sym en)) refl

-- for bytes that are a part of the whole
pub parted : (whole : List ℕ) (at end : ℕ) → at ≤ end → end ≤ length whole → (length (part whole at (end - at)) ≡ end - at) × (whole ≡ take at whole ++ (part whole at (end - at) ++ drop (end - at) (drop at whole)))
parted whole at end h k = (
  omega (arith, length-take (end - at) (drop at whole), length-drop at whole),
  sym (ap (λ (s : List ℕ). take at whole ++ s) (take-append-drop (end - at) (drop at whole)) ∙ take-append-drop at whole),
)

lies : (whole : List ℕ) (at end : ℕ) → at ≤ end → end ≤ length whole → (before inner rest : List ℕ) → part whole at (end - at) ≡ (before ++ inner) ++ rest → Lies whole end inner rest
lies whole at end h k before inner rest e =
    let p = parted whole at end h k in
    let a = take at whole in
    let z = drop (end - at) (drop at whole) in
    let la : length a ≡ at = omega (arith, length-take at whole) in
    let len : length before + length inner + length rest ≡ end - at = omega (arith, ap length e, p.0, length-append (before ++ inner) rest, length-append before inner) in
    let first : whole ≡ (a ++ (before ++ inner)) ++ (rest ++ z) =
    p.1 ∙ ap (λ (s : List ℕ). a ++ (s ++ z)) e ∙ ap (λ (s : List ℕ). a ++ s) (append_assoc (before ++ inner) rest z) ∙ sym (append_assoc a (before ++ inner) (rest ++ z)) in
    let second : whole ≡ (a ++ before) ++ (inner ++ (rest ++ z)) =
    first ∙ ap (λ (s : List ℕ). s ++ (rest ++ z)) (sym (append_assoc a before inner)) ∙ append_assoc (a ++ before) inner (rest ++ z) in
    let l1 : end - length rest ≡ length (a ++ (before ++ inner)) = omega (arith, length-append a (before ++ inner), length-append before inner) in
    let l2 : end - length rest - length inner ≡ length (a ++ before) = omega (arith, length-append a before) in
    record {
      short = omega arith;
      rest_is = ap (λ w. part w (end - length rest) (end - (end - length rest))) first ∙ middle (a ++ (before ++ inner)) rest z (end - length rest) (end - (end - length rest)) l1 (omega arith);
      inner_is = ap (λ w. part w (end - length rest - length inner) (length inner)) second ∙ middle (a ++ before) inner (rest ++ z) (end - length rest - length inner) (length inner) l2 refl;
    }

pub entry_lies : (whole : List ℕ) (at end : ℕ) → at ≤ end → end ≤ length whole → (x : Entry × List ℕ) → entry_at (part whole at (end - at)) ≡ Ok x → Lies whole end (inner_of x.0.content) x.1
entry_lies whole at end h k x e =
    let t = entry_takes (part whole at (end - at)) x e in
    let b = inner_last t.0 x.0.number x.0.content t.1 in
    lies whole at end h k b.0 (inner_of x.0.content) x.1 (t.2 ∙ ap (λ (s : List ℕ). s ++ x.1) b.1)

-- what stands at some bytes
pub next_some : (end : ℕ) (bytes : List ℕ) → 0 < length bytes → next_at end bytes ≡ some_of (placed_at end bytes (entry_at bytes))
unfolding next_at
next_some end [] h = absurd (omega arith)
next_some end (b ∷ bytes) h = refl

pub step_fails : (whole : List ℕ) (at end : ℕ) (cause : Cause) → at < end → end ≤ length whole → entry_at (part whole at (end - at)) ≡ Err cause → next_at end (part whole at (end - at)) ≡ Err (fault_at at cause)
step_fails whole at end cause h k e =
    let p = parted whole at end (omega arith) k in
    let place : end - length (part whole at (end - at)) ≡ at = omega (arith, p.0) in
    next_some end (part whole at (end - at)) (omega (arith, p.0)) ∙ rw (e, place) refl

abbrev placed : ℕ → ℕ → ℕ → Content → List ℕ → Placed × List ℕ
placed p s number content rest = (record { place = p; start = s; entry = record { number = number; content = content } }, rest)

same_placed : (p q s t number : ℕ) (c d : Content) (a b : List ℕ) → p ≡ q → s ≡ t → c ≡ d → a ≡ b → placed p s number c a ≡ placed q t number d b
same_placed p q s t number c d a b e1 e2 e3 e4 = ap (λ x. placed x s number c a) e1 ∙ ap (λ x. placed q x number c a) e2 ∙ ap (λ x. placed q t number x a) e3 ∙ ap (λ x. placed q t number d x) e4

shows : (whole : List ℕ) (end at p number : ℕ) (r : Raw) (rest : List ℕ) → p ≡ at → Lies whole end (inner_of (raw_content r)) rest
    → placed p (start_before (end - length rest) (raw_content r)) number (raw_content r) rest ≡ (shown whole (record { place = at; number = number; payload = payload_before (end - length rest) r }), part whole (end - length rest) (end - (end - length rest)))
shows whole end at p number (raw.Varint n) rest e l = same_placed p at 0 0 number (varint n) (varint n) rest _ e refl refl (sym l.rest_is)
shows whole end at p number (raw.Fixed64 n) rest e l = same_placed p at 0 0 number (fixed64 n) (fixed64 n) rest _ e refl refl (sym l.rest_is)
shows whole end at p number (raw.Bytes inner) rest e l = same_placed p at (end - length rest - length inner.now) (end - length rest - length inner.now) number (span inner.now) (span (part whole (end - length rest - length inner.now) (length inner.now))) rest _ e refl (ap span (sym l.inner_is)) (sym l.rest_is)
shows whole end at p number (raw.Fixed32 n) rest e l = same_placed p at 0 0 number (fixed32 n) (fixed32 n) rest _ e refl refl (sym l.rest_is)

stays_inside : (next : ℕ) (r : Raw) → inner_len (raw_content r) ≤ next → IsInside (payload_before next r) next
stays_inside next (raw.Varint n) h = tt
stays_inside next (raw.Fixed64 n) h = tt
stays_inside next (raw.Bytes inner) h = omega arith
stays_inside next (raw.Fixed32 n) h = tt

-- what a step gives where a record was read
pub record Shows (whole : List ℕ) (at end number : ℕ) (r : Raw) (rest : List ℕ) : Type 0 where
  pub given : next_at end (part whole at (end - at)) ≡ Ok (Some (shown whole (record { place = at; number = number; payload = payload_before (end - length rest) r }), part whole (end - length rest) (end - (end - length rest))))
  pub ahead : at < end - length rest
  pub room : length rest + inner_len (raw_content r) ≤ end
  pub stays : IsInside (payload_before (end - length rest) r) (end - length rest)

pub step_shows : (whole : List ℕ) (at end number : ℕ) (r : Raw) (rest : List ℕ) → at < end → end ≤ length whole → entry_at (part whole at (end - at)) ≡ Ok (record { number = number; content = raw_content r }, rest) → Shows whole at end number r rest
step_shows whole at end number r rest h k e =
    let p = parted whole at end (omega arith) k in
    let place : end - length (part whole at (end - at)) ≡ at = omega (arith, p.0) in
    let l = entry_lies whole at end (omega arith) k (record { number = number; content = raw_content r }, rest) e in
    let len = inner-of-len (raw_content r) in
    record {
      given = next_some end (part whole at (end - at)) (omega (arith, p.0)) ∙ ap (λ x. some_of (placed_at end (part whole at (end - at)) x)) e
          ∙ ap (λ x. Ok (Some x)) (shows whole end at (end - length (part whole at (end - at))) number r rest place l);
      ahead = omega (arith, shorter (part whole at (end - at)) _ e, p.0);
      room = omega (arith, l.short);
      stays = stays_inside (end - length rest) r (omega (arith, l.short));
    }

pub next_none : (whole : List ℕ) (at end : ℕ) → at ≡ end → next_at end (part whole at (end - at)) ≡ Ok None
unfolding next_at
next_none whole at end e = let z : end - at ≡ 0 = omega arith in rw z refl
