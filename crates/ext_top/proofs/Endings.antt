-- The bytes of a trace decide how its replay ends, in one way.
use Rattle.std.proofs.Common.{◌≡◌, ◌≢◌, ℕ, suc, zero-add, add-zero, ◌+◌, ◌<◌, ◌⊎◌, inl, inr, false, List, [], ◌∷◌, ◌++◌, None, Some, Option, refl, sym, ap, ◌∙◌, append_assoc, length, length-append, arith, subst}
use Rattle.std.specs.List.{AllByRecursion}
use Rattle.std.proofs.lemmas.List.{append_cancel_left}
use Rattle.std.proofs.lemmas.List.Elements.{recursion_from_All}
use Rattle.trace_format.specs.Lines.{line_of}
use Rattle.trace_format.specs.declared.line.TraceLine.{TraceLine}
use Rattle.trace_model.specs.Places.{First, Place}
use Rattle.trace_model.specs.Places as place
use Rattle.trace_model.specs.Verdicts.{AtEnd, AtFirst, Faulty, Refused, Shape, Stands, Unbuilt, Verdict, judged, shape_after, shape_of, verdict, verdict_of}
use Rattle.ext_config.specs.declared.config.ConfigFault.{ConfigFault}
use Rattle.ext_top.specs.declared.status.Status.{Status}
use Rattle.ext_top.specs.declared.status.Status.TheVariants as status
use Rattle.ext_top.specs.Decided.{Decides, LinesStand, NextIs, NextLacks, is_over}
use Rattle.ext_top.specs.Moves.{room, IsLine, IsShortLine, ReadsLine, ReadsNone}
use Rattle.ext_top.specs.Plays.{joined, Played, is_end, EndsReplay, IsVerdict}
use Rattle.ext_top.proofs.Firsts.{bytes_unbuilt, stand_of}

-- ---- the next line

abbrev Free : List ℕ → Type 0
Free xs = AllByRecursion (λ b. b ≢ 10) xs

free : (line : List ℕ) → IsLine line → Free line
free line i = recursion_from_All (λ b. b ≢ 10) line i

-- the first line is the only one
same_line : (xs r ys s : List ℕ) → Free xs → Free ys → xs ++ 10 ∷ r ≡ ys ++ 10 ∷ s → xs ≡ ys
same_line [] r [] s a b e = refl
same_line [] r (y ∷ ys) s a b e = let h : y ≡ 10 = cc in absurd (b.0 h)
same_line (x ∷ xs) r [] s a b e = let h : x ≡ 10 = cc in absurd (a.0 h)
same_line (x ∷ xs) r (y ∷ ys) s a b e =
    let head : x ≡ y = cc in let tail : xs ++ 10 ∷ r ≡ ys ++ 10 ∷ s = cc in
    let rest : xs ≡ ys = same_line xs r ys s a.1 b.1 tail in (cc)

-- bytes without a line feed that are longer than a line, or all that there are, aren't before one
no_line : (bytes more line rest : List ℕ) → Free bytes → bytes ++ more ≡ line ++ 10 ∷ rest → (more ≡ []) ⊎ (length line < length bytes) → ⊥
no_line [] more [] rest a e (inl n) = (cc)
no_line [] more (x ∷ line) rest a e (inl n) = (cc)
no_line [] more line rest a e (inr l) = omega arith
no_line (b ∷ bytes) more [] rest a e w = let h : b ≡ 10 = cc in a.0 h
no_line (b ∷ bytes) more (x ∷ line) rest a e (inl n) = let t : bytes ++ more ≡ line ++ 10 ∷ rest = cc in no_line bytes more line rest a.1 t (inl n)
no_line (b ∷ bytes) more (x ∷ line) rest a e (inr l) = let t : bytes ++ more ≡ line ++ 10 ∷ rest = cc in no_line bytes more line rest a.1 t (inr (omega arith))

-- ---- what stands behind the lines that may stand

-- nothing, a line that isn't played, or no line
data Final : Type 0 where
  played : Final
  met : Verdict → Final
  none : Final

abbrev IsStop : Verdict → Type 0
IsStop Stands = ⊥
IsStop Faulty = Unit {0}
IsStop (Refused fault) = Unit {0}
IsStop Unbuilt = Unit {0}

-- behind so many bytes of the trace
abbrev Holds : ℕ → Final → Shape → List ℕ → Type 0
Holds n played s rest = s ≡ AtEnd
Holds n (met m) s rest = IsStop m × NextIs n s m rest
Holds n none s rest = NextLacks n s rest

abbrev status_of : Final → ℕ → Status
status_of played n = status.Done
status_of (met Stands) n = status.Usage
status_of (met Faulty) n = status.TraceFault (n + 1)
status_of (met (Refused fault)) n = status.ConfigFault fault
status_of (met Unbuilt) n = status.NotBuilt
status_of none n = status.TraceFault (n + 1)

end_faulty : (o : Option TraceLine) → verdict_of AtEnd o ≡ Faulty
unfolding verdict
end_faulty None = refl
end_faulty (Some l) = refl

end_judged : (line : List ℕ) → judged AtEnd line ≡ Faulty
unfolding judged
end_judged line = end_faulty (line_of line)

not_ended : (s : Shape) → s ≡ AtEnd → is_over s ≡ false → ⊥
not_ended s e o = let t : is_over AtEnd ≡ false = subst (λ (x : Shape). is_over x ≡ false) e o in (cc)

-- the same line stands next
next_same : (z : ℕ) (m n : Verdict) (s : Shape) (rest : List ℕ) → NextIs z s m rest → NextIs z s n rest → m ≡ n
next_same z m n s rest a b =
    let same : a.line ≡ b.line = same_line a.line a.more b.line b.more (free a.line a.is_line.plain) (free b.line b.is_line.plain) (sym a.parts ∙ b.parts) in
    sym a.comes_to ∙ ap (judged s) same ∙ b.comes_to

-- where a line stands, none lacks
next_there : (z : ℕ) (s : Shape) (rest line more : List ℕ) → rest ≡ line ++ 10 ∷ more → IsShortLine (room z) line → NextLacks z s rest → ⊥
next_there z s rest line more parts is b = no_line b.bytes b.more line more (free b.bytes b.plain) (sym b.parts ∙ parts) (longer b.why)
  where
    longer : (b.more ≡ []) ⊎ (length b.bytes ≡ room z) → (b.more ≡ []) ⊎ (length line < length b.bytes)
    longer (inl e) = inl e
    longer (inr e) = inr (omega (arith, is.short))

-- what stands next decides the status
final_same : (z : ℕ) (f g : Final) (s : Shape) (rest : List ℕ) → Holds z f s rest → Holds z g s rest → (n : ℕ) → status_of f n ≡ status_of g n
final_same z played played s rest a b n = refl
final_same z played (met m) s rest a b n = absurd (not_ended s a b.1.unended)
final_same z played none s rest a b n = absurd (not_ended s a b.unended)
final_same z (met m) played s rest a b n = absurd (not_ended s b a.1.unended)
final_same z (met m) (met k) s rest a b n = ap (λ (x : Verdict). status_of (met x) n) (next_same z m k s rest a.1 b.1)
final_same z (met m) none s rest a b n = absurd (next_there z s rest a.1.line a.1.more a.1.parts a.1.is_line b)
final_same z none played s rest a b n = absurd (not_ended s b a.unended)
final_same z none (met m) s rest a b n = absurd (next_there z s rest b.1.line b.1.more b.1.parts b.1.is_line a)
final_same z none none s rest a b n = refl

-- where a line may stand next, nothing ends
stands_stop : (m : Verdict) → IsStop m → m ≡ Stands → ⊥
stands_stop Stands h e = h
stands_stop Faulty h e = (cc)
stands_stop (Refused fault) h e = (cc)
stands_stop Unbuilt h e = (cc)

-- a line that may stand next
record MayFollow (n : ℕ) (s : Shape) (rest : List ℕ) : Type 0 where
  line : List ℕ
  more : List ℕ
  parts : rest ≡ line ++ 10 ∷ more
  is_line : IsShortLine (room n) line
  stands : judged s line ≡ Stands

follows_same : (z : ℕ) (m : Verdict) (s : Shape) (rest : List ℕ) → NextIs z s m rest → MayFollow z s rest → m ≡ Stands
follows_same z m s rest a b =
    let same : a.line ≡ b.line = same_line a.line a.more b.line b.more (free a.line a.is_line.plain) (free b.line b.is_line.plain) (sym a.parts ∙ b.parts) in
    sym a.comes_to ∙ ap (judged s) same ∙ b.stands

goes_on : (z : ℕ) (f : Final) (s : Shape) (rest : List ℕ) → Holds z f s rest → MayFollow z s rest → ⊥
goes_on z played s rest a b =
    let e : Faulty ≡ Stands = sym (end_judged b.line) ∙ subst (λ (x : Shape). judged x b.line ≡ Stands) a b.stands in (cc)
goes_on z (met m) s rest a b = stands_stop m a.0 (follows_same z m s rest a.1 b)
goes_on z none s rest a b = next_there z s rest b.line b.more b.parts b.is_line a

next_line : (z : ℕ) (s : Shape) (l : List ℕ) (lines : List (List ℕ)) (rest bytes : List ℕ) → IsShortLine (room z) l → judged s l ≡ Stands
    → bytes ≡ joined (l ∷ lines) ++ rest → MayFollow z s bytes
next_line z s l lines rest bytes i m e = record { line = l; more = joined lines ++ rest; parts = e ∙ append_assoc l (10 ∷ joined lines) rest; is_line = i; stands = m }

-- the bytes behind the first line
size_behind : (n : ℕ) (l : List ℕ) (lines : List (List ℕ)) → n + length (joined (l ∷ lines)) ≡ n + (length l + 1) + length (joined lines)
size_behind n l lines = rw (length-append l (10 ∷ joined lines)) (omega arith)

-- two plays of the same bytes
same_plays : (f g : Final) (n : ℕ) (s : Shape) (lines : List (List ℕ)) (at : Shape) (rest : List ℕ) (others : List (List ℕ)) (to : Shape) (left : List ℕ)
    → LinesStand n s lines at → LinesStand n s others to → joined lines ++ rest ≡ joined others ++ left
    → Holds (n + length (joined lines)) f at rest → Holds (n + length (joined others)) g to left
    → ((n : ℕ) → status_of f n ≡ status_of g n) × (length lines ≡ length others)
same_plays f g n s [] at rest [] to left a b e p q =
    let first = subst (λ (x : Shape). Holds n f x rest) a (rw (add-zero n) at p) in
    let second = subst (λ (x : Shape). Holds n g x left) b (rw (add-zero n) at q) in
    (final_same n f g s rest first (subst (λ (x : List ℕ). Holds n g s x) (sym e) second), refl)
same_plays f g n s [] at rest (l ∷ others) to left a b e p q =
    absurd (goes_on n f s rest (subst (λ (x : Shape). Holds n f x rest) a (rw (add-zero n) at p)) (next_line n s l others left rest b.0 b.1 e))
same_plays f g n s (l ∷ lines) at rest [] to left a b e p q =
    absurd (goes_on n g s left (subst (λ (x : Shape). Holds n g x left) b (rw (add-zero n) at q)) (next_line n s l lines rest left a.0 a.1 (sym e)))
same_plays f g n s (l ∷ lines) at rest (k ∷ others) to left a b e p q =
    let both : l ++ 10 ∷ (joined lines ++ rest) ≡ k ++ 10 ∷ (joined others ++ left) = sym (append_assoc l (10 ∷ joined lines) rest) ∙ e ∙ append_assoc k (10 ∷ joined others) left in
    let same : l ≡ k = same_line l _ k _ (free l a.0.plain) (free k b.0.plain) both in
    let behind : 10 ∷ (joined lines ++ rest) ≡ 10 ∷ (joined others ++ left) = append_cancel_left l _ _ (both ∙ ap (λ (x : List ℕ). x ++ 10 ∷ (joined others ++ left)) (sym same)) in
    let more : joined lines ++ rest ≡ joined others ++ left = cc in
    let here : n + (length k + 1) ≡ n + (length l + 1) = ap (λ (x : List ℕ). n + (length x + 1)) (sym same) in
    let steps = subst (λ (x : List ℕ). LinesStand (n + (length x + 1)) (shape_after s x) others to) (sym same) b.2 in
    let first = subst (λ (i : ℕ). Holds i f at rest) (size_behind n l lines) p in
    let second = subst (λ (i : ℕ). Holds i g to left) (size_behind n k others ∙ ap (λ (i : ℕ). i + length (joined others)) here) q in
    let below = same_plays f g (n + (length l + 1)) (shape_after s l) lines at rest others to left a.2 steps more first second in
    (below.0, ap suc below.1)

-- ---- what decides a status

at_none : (n : ℕ) (f : Final) (s : Shape) (rest : List ℕ) → Holds n f s rest → Holds (0 + n) f s rest
at_none n f s rest h = subst (λ (k : ℕ). Holds k f s rest) (sym (zero-add n)) h

record Decided (bytes : List ℕ) (s : Status) : Type 0 where
  lines : List (List ℕ)
  at : Shape
  rest : List ℕ
  final : Final
  stand : LinesStand 0 AtFirst lines at
  parts : bytes ≡ joined lines ++ rest
  holds : Holds (0 + length (joined lines)) final at rest
  told : s ≡ status_of final (length lines)

decided_by : (bytes : List ℕ) (s : Status) (f : Final) (lines : List (List ℕ)) (at : Shape) (rest : List ℕ) → LinesStand 0 AtFirst lines at
    → bytes ≡ joined lines ++ rest → Holds (length (joined lines)) f at rest → s ≡ status_of f (length lines) → Decided bytes s
decided_by bytes s f lines at rest a e h t =
    record { lines = lines; at = at; rest = rest; final = f; stand = a; parts = e; holds = at_none (length (joined lines)) f at rest h; told = t }

decided : (bytes : List ℕ) (s : Status) → Decides bytes s → Decided bytes s
decided bytes status.Done d = decided_by bytes status.Done played d.lines d.at d.rest d.stand d.parts d.decided refl
decided bytes (status.TraceFault n) d = elim d.decided.1 [
  | inl is ↦ decided_by bytes (status.TraceFault n) (met Faulty) d.lines d.at d.rest d.stand d.parts (tt, is) (ap (λ (k : ℕ). status.TraceFault k) d.decided.0)
  | inr lacks ↦ decided_by bytes (status.TraceFault n) none d.lines d.at d.rest d.stand d.parts lacks (ap (λ (k : ℕ). status.TraceFault k) d.decided.0)
]
decided bytes (status.ConfigFault fault) d = decided_by bytes (status.ConfigFault fault) (met (Refused fault)) d.lines d.at d.rest d.stand d.parts (tt, d.decided) refl
decided bytes status.NotBuilt d = decided_by bytes status.NotBuilt (met Unbuilt) d.lines d.at d.rest d.stand d.parts (tt, d.decided) refl
decided bytes status.ReadFault d = absurd d.decided
decided bytes status.WriteFault d = absurd d.decided
decided bytes status.Memory d = absurd d.decided
decided bytes status.Usage d = absurd d.decided

pub one_decided : (bytes : List ℕ) (s t : Status) → Decides bytes s → Decides bytes t → s ≡ t
one_decided bytes s t a b =
    let x : Decided bytes s = decided bytes s a in
    let y : Decided bytes t = decided bytes t b in
    let same = same_plays x.final y.final 0 AtFirst x.lines x.at x.rest y.lines y.at y.rest x.stand y.stand (sym x.parts ∙ y.parts) x.holds y.holds in
    x.told ∙ same.0 (length x.lines) ∙ ap (status_of y.final) same.1 ∙ sym y.told

-- ---- how a replay ended

over_of : (p : Place) → is_over (shape_of p) ≡ is_end p
over_of place.First = refl
over_of place.Second = refl
over_of (place.Events s) = refl
over_of place.Ended = refl

-- Where a trace was played so far

record PlayedKnown (bytes : List ℕ) (n z : ℕ) (left : List ℕ) (at : Place) : Type 0 where
  lines : List (List ℕ)
  stand : LinesStand 0 AtFirst lines (shape_of at)
  counted : length lines ≡ n
  sized : length (joined lines) ≡ z
  parts : bytes ≡ joined lines ++ left

known : (bytes : List ℕ) (n z : ℕ) (left : List ℕ) (w0 w1 : Option (List ℕ)) (at : Place) → Played n z (Some bytes) (Some left) w0 w1 at → PlayedKnown bytes n z left at
known bytes n z left w0 w1 at p = record { lines = p.lines; stand = stand_of 0 First p.lines p.text at p.steps; counted = p.counted; sized = p.sized; parts = p.read }

next_is : (z : ℕ) (at : Place) (v : Verdict) (rest : List ℕ) (l : Option (List ℕ)) (line : List ℕ) → is_end at ≡ false → ReadsLine (room z) (Some rest) l line
    → judged (shape_of at) line ≡ v → NextIs z (shape_of at) v rest
next_is z at v rest None line o r e = absurd r.read
next_is z at v rest (Some left) line o r e =
    record { unended = over_of at ∙ o; line = line; more = left; parts = r.read ∙ append_assoc line (10 ∷ []) left; is_line = r.is_line; comes_to = e }

next_lacks : (z : ℕ) (at : Place) (rest : List ℕ) (l : Option (List ℕ)) → is_end at ≡ false → ReadsNone (room z) (Some rest) l → NextLacks z (shape_of at) rest
next_lacks z at rest None o r = absurd r.read
next_lacks z at rest (Some left) o r = record { unended = over_of at ∙ o; bytes = r.bytes; more = left; parts = r.read; plain = r.plain; why = r.why }

fault_number : (n count k : ℕ) → n ≡ count + 1 → k ≡ count → n ≡ k + 1
fault_number n count k e i = omega (arith, e, i)

by_done : (bytes : List ℕ) (n z : ℕ) (l w0 w1 : Option (List ℕ)) → Played n z (Some bytes) l w0 w1 place.Ended → Decides bytes status.Done
by_done bytes n z None w0 w1 p = absurd p.read
by_done bytes n z (Some rest) w0 w1 p =
    let k = known bytes n z rest w0 w1 place.Ended p in
    record { lines = k.lines; at = AtEnd; rest = rest; stand = k.stand; parts = k.parts; decided = refl }

by_fault : (bytes : List ℕ) (n : ℕ) (count z : ℕ) (b l w0 w1 : Option (List ℕ)) (at : Place) → n ≡ count + 1 → Played count z (Some bytes) b w0 w1 at → is_end at ≡ false
    → (line : List ℕ) → ReadsLine (room z) b l line → judged (shape_of at) line ≡ Faulty → Decides bytes (status.TraceFault n)
by_fault bytes n count z None l w0 w1 at i p o line r e = absurd p.read
by_fault bytes n count z (Some rest) l w0 w1 at i p o line r e =
    let k = known bytes count z rest w0 w1 at p in
    record {
      lines = k.lines;
      at = shape_of at;
      rest = rest;
      stand = k.stand;
      parts = k.parts;
      decided = (fault_number n count (length k.lines) i k.counted, inl (subst (λ (m : ℕ). NextIs m (shape_of at) Faulty rest) (sym k.sized) (next_is z at Faulty rest l line o r e)));
    }

by_lack : (bytes : List ℕ) (n : ℕ) (count z : ℕ) (b l w0 w1 : Option (List ℕ)) (at : Place) → n ≡ count + 1 → Played count z (Some bytes) b w0 w1 at → is_end at ≡ false
    → ReadsNone (room z) b l → Decides bytes (status.TraceFault n)
by_lack bytes n count z None l w0 w1 at i p o r = absurd p.read
by_lack bytes n count z (Some rest) l w0 w1 at i p o r =
    let k = known bytes count z rest w0 w1 at p in
    record {
      lines = k.lines;
      at = shape_of at;
      rest = rest;
      stand = k.stand;
      parts = k.parts;
      decided = (fault_number n count (length k.lines) i k.counted, inr (subst (λ (m : ℕ). NextLacks m (shape_of at) rest) (sym k.sized) (next_lacks z at rest l o r)));
    }

by_config : (bytes : List ℕ) (fault : ConfigFault) (count z : ℕ) (b l w0 w1 : Option (List ℕ)) (at : Place) → Played count z (Some bytes) b w0 w1 at → is_end at ≡ false
    → (line : List ℕ) → ReadsLine (room z) b l line → judged (shape_of at) line ≡ Refused fault → Decides bytes (status.ConfigFault fault)
by_config bytes fault count z None l w0 w1 at p o line r e = absurd p.read
by_config bytes fault count z (Some rest) l w0 w1 at p o line r e =
    let k = known bytes count z rest w0 w1 at p in
    record {
      lines = k.lines;
      at = shape_of at;
      rest = rest;
      stand = k.stand;
      parts = k.parts;
      decided = subst (λ (m : ℕ). NextIs m (shape_of at) (Refused fault) rest) (sym k.sized) (next_is z at (Refused fault) rest l line o r e);
    }

pub decides : (bytes : List ℕ) (s : Status) (l w0 w1 : Option (List ℕ)) → IsVerdict s → EndsReplay s (Some bytes) l w0 w1 → Decides bytes s
decides bytes status.Done l w0 w1 v e = by_done bytes e.0 e.1 l w0 w1 e.2
decides bytes (status.TraceFault n) l w0 w1 v e = elim e.2 [
  | inl stops ↦ by_fault bytes n e.0 stops.size stops.before l w0 w1 stops.at e.1 stops.played stops.unended stops.line stops.read stops.comes_to
  | inr lacks ↦ by_lack bytes n e.0 lacks.size lacks.before l w0 w1 lacks.at e.1 lacks.played lacks.unended lacks.none
]
decides bytes (status.ConfigFault fault) l w0 w1 v e = by_config bytes fault e.0 e.1.size e.1.before l w0 w1 e.1.at e.1.played e.1.unended e.1.line e.1.read e.1.comes_to
decides bytes status.NotBuilt l w0 w1 v e = record {
  lines = [];
  at = AtFirst;
  rest = bytes;
  stand = refl;
  parts = refl;
  decided = next_is 0 First Unbuilt bytes l e.line refl e.read (bytes_unbuilt e.line e.begins);
}
decides bytes status.ReadFault l w0 w1 v e = absurd v
decides bytes status.WriteFault l w0 w1 v e = absurd v
decides bytes status.Memory l w0 w1 v e = absurd v
decides bytes status.Usage l w0 w1 v e = absurd v

-- a replay that told of the trace told what the trace decides
pub told_as_decided : (left left' w0 w1 : Option (List ℕ)) (s : Status) → EndsReplay s left left' w0 w1 → (bytes : List ℕ) (t : Status) → left ≡ Some bytes → IsVerdict s → Decides bytes t → s ≡ t
told_as_decided left left' w0 w1 s e bytes t i v d =
    one_decided bytes s t (decides bytes s left' w0 w1 v (subst (λ (x : Option (List ℕ)). EndsReplay s x left' w0 w1) i e)) d
