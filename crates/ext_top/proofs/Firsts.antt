-- A trace of bytes begins at its first line alone.
use Rattle.std.proofs.Common.{◌≡◌, ℕ, ◌+◌, Bool, true, false, List, [], ◌∷◌, ◌++◌, Option, None, Some, Result, Ok, Err, length, refl, sym, ap, ◌∙◌, append-nil, subst}
use Rattle.ext_config.specs.declared.config.Config.{Config}
use Rattle.ext_config.specs.declared.config.ConfigFault.{ConfigFault}
use Rattle.ext_config.specs.Configured.{configured}
use Rattle.trace_format.specs.Lines.{line_of}
use Rattle.trace_format.specs.declared.line.TraceLine.{TraceLine}
use Rattle.trace_format.specs.declared.line.TraceLine.TheVariants as line
use Rattle.trace_model.specs.Verdicts.{AtEnd, AtEvents, AtFirst, AtSecond, Shape, Stands, Unbuilt, by_config, first_verdict, is_in_place, judged, next_shape, second_verdict, shape_after, shape_by, shape_by_config, shape_of, verdict, verdict_if, verdict_of}
use Rattle.trace_model.specs.Places.{First, Place}
use Rattle.trace_model.proofs.Shapes.{text_follows}
use Rattle.std.specs.Io.KnownBytes.{Appends, Consumes, Keeps}
use Rattle.ext_top.specs.Decided.{LinesStand}
use Rattle.ext_top.specs.Moves.{room, IsShortLine, ReadsLine}
use Rattle.ext_top.specs.Plays.{BeginsBytes, LinesLead, Played, joined}
use Rattle.px_edge.proofs.Moved.{consumes_more}

abbrev is_first : Shape → Bool
is_first AtFirst = true
is_first _ = false

-- ---- nothing leads back to the first line

config_on : (r : Result Config ConfigFault) → is_first (shape_by_config r) ≡ false
config_on (Ok config) = refl
config_on (Err fault) = refl

second_on : (l : TraceLine) → is_first (next_shape AtSecond l) ≡ false
unfolding next_shape
second_on (line.First bytes) = refl
second_on (line.Config text) = config_on (configured text)
second_on line.Open = refl
second_on (line.Client n bytes) = refl
second_on (line.Up n bytes) = refl
second_on (line.ClientEnd n) = refl
second_on (line.UpEnd n) = refl
second_on (line.ClientLost n) = refl
second_on (line.UpLost n) = refl
second_on (line.UpNoDial n) = refl
second_on (line.Answer n bytes) = refl
second_on (line.Close n clean) = refl
second_on (line.Ext bytes) = refl
second_on line.ExtEnd = refl
second_on line.ExtLost = refl
second_on (line.Tick n) = refl
second_on (line.HoldClient n) = refl
second_on (line.HoldUp n) = refl
second_on line.HoldExt = refl
second_on (line.FreeClient n) = refl
second_on (line.FreeUp n) = refl
second_on line.FreeExt = refl
second_on line.Stop = refl

event_on : (most : ℕ) (xs : List Bool) (l : TraceLine) → is_first (next_shape (AtEvents most xs) l) ≡ false
unfolding next_shape
event_on most xs (line.First bytes) = refl
event_on most xs (line.Config text) = refl
event_on most xs line.Open = refl
event_on most xs (line.Client n bytes) = refl
event_on most xs (line.Up n bytes) = refl
event_on most xs (line.ClientEnd n) = refl
event_on most xs (line.UpEnd n) = refl
event_on most xs (line.ClientLost n) = refl
event_on most xs (line.UpLost n) = refl
event_on most xs (line.UpNoDial n) = refl
event_on most xs (line.Answer n bytes) = refl
event_on most xs (line.Close n clean) = refl
event_on most xs (line.Ext bytes) = refl
event_on most xs line.ExtEnd = refl
event_on most xs line.ExtLost = refl
event_on most xs (line.Tick n) = refl
event_on most xs (line.HoldClient n) = refl
event_on most xs (line.HoldUp n) = refl
event_on most xs line.HoldExt = refl
event_on most xs (line.FreeClient n) = refl
event_on most xs (line.FreeUp n) = refl
event_on most xs line.FreeExt = refl
event_on most xs line.Stop = refl

leads_on : (s : Shape) (l : TraceLine) → is_first (next_shape s l) ≡ false
unfolding next_shape
leads_on AtFirst l = refl
leads_on AtSecond l = second_on l
leads_on (AtEvents most xs) l = event_on most xs l
leads_on AtEnd l = refl

text_on : (o : Option TraceLine) (s : Shape) → verdict_of s o ≡ Stands → is_first (shape_by o s) ≡ false
text_on None s e = absurd cc
text_on (Some l) s e = leads_on s l

stays_on : (n : ℕ) (s : Shape) (lines : List (List ℕ)) (q : Shape) → LinesStand n s lines q → is_first s ≡ false → is_first q ≡ false
unfolding judged shape_after
stays_on n s [] q a o = ap is_first a ∙ o
stays_on n s (l ∷ lines) q a o = stays_on (n + (length l + 1)) (shape_after s l) lines q a.2 (text_on (line_of l) s a.1)

-- the lines that lead to the first one are none
pub none_before : (n : ℕ) (s : Shape) (lines : List (List ℕ)) → LinesStand n s lines AtFirst → lines ≡ []
unfolding judged shape_after
none_before n s [] a = refl
none_before n s (l ∷ lines) a = absurd (first_not (stays_on (n + (length l + 1)) (shape_after s l) lines AtFirst a.2 (text_on (line_of l) s a.1)))
  where
    first_not : true ≡ false → ⊥
    first_not e = (cc)

-- ---- what isn't built is the line that begins a trace of bytes

abbrev IsBytes : Shape → TraceLine → Type 0
IsBytes s l = (s ≡ AtFirst) × (l ≡ line.First true)

if_unbuilt : (b : Bool) → verdict_if b ≡ Unbuilt → ⊥
if_unbuilt true e = (cc)
if_unbuilt false e = (cc)

config_unbuilt : (r : Result Config ConfigFault) → by_config r ≡ Unbuilt → ⊥
config_unbuilt (Ok config) e = (cc)
config_unbuilt (Err fault) e = (cc)

first_unbuilt : (l : TraceLine) → first_verdict l ≡ Unbuilt → l ≡ line.First true
first_unbuilt (line.First true) e = refl
first_unbuilt (line.First false) e = absurd cc
first_unbuilt (line.Config text) e = absurd cc
first_unbuilt line.Open e = absurd cc
first_unbuilt (line.Client n bytes) e = absurd cc
first_unbuilt (line.Up n bytes) e = absurd cc
first_unbuilt (line.ClientEnd n) e = absurd cc
first_unbuilt (line.UpEnd n) e = absurd cc
first_unbuilt (line.ClientLost n) e = absurd cc
first_unbuilt (line.UpLost n) e = absurd cc
first_unbuilt (line.UpNoDial n) e = absurd cc
first_unbuilt (line.Answer n bytes) e = absurd cc
first_unbuilt (line.Close n clean) e = absurd cc
first_unbuilt (line.Ext bytes) e = absurd cc
first_unbuilt line.ExtEnd e = absurd cc
first_unbuilt line.ExtLost e = absurd cc
first_unbuilt (line.Tick n) e = absurd cc
first_unbuilt (line.HoldClient n) e = absurd cc
first_unbuilt (line.HoldUp n) e = absurd cc
first_unbuilt line.HoldExt e = absurd cc
first_unbuilt (line.FreeClient n) e = absurd cc
first_unbuilt (line.FreeUp n) e = absurd cc
first_unbuilt line.FreeExt e = absurd cc
first_unbuilt line.Stop e = absurd cc

second_unbuilt : (l : TraceLine) → second_verdict l ≡ Unbuilt → ⊥
second_unbuilt (line.First bytes) e = (cc)
second_unbuilt (line.Config text) e = config_unbuilt (configured text) e
second_unbuilt line.Open e = (cc)
second_unbuilt (line.Client n bytes) e = (cc)
second_unbuilt (line.Up n bytes) e = (cc)
second_unbuilt (line.ClientEnd n) e = (cc)
second_unbuilt (line.UpEnd n) e = (cc)
second_unbuilt (line.ClientLost n) e = (cc)
second_unbuilt (line.UpLost n) e = (cc)
second_unbuilt (line.UpNoDial n) e = (cc)
second_unbuilt (line.Answer n bytes) e = (cc)
second_unbuilt (line.Close n clean) e = (cc)
second_unbuilt (line.Ext bytes) e = (cc)
second_unbuilt line.ExtEnd e = (cc)
second_unbuilt line.ExtLost e = (cc)
second_unbuilt (line.Tick n) e = (cc)
second_unbuilt (line.HoldClient n) e = (cc)
second_unbuilt (line.HoldUp n) e = (cc)
second_unbuilt line.HoldExt e = (cc)
second_unbuilt (line.FreeClient n) e = (cc)
second_unbuilt (line.FreeUp n) e = (cc)
second_unbuilt line.FreeExt e = (cc)
second_unbuilt line.Stop e = (cc)

line_unbuilt : (s : Shape) (l : TraceLine) → verdict s l ≡ Unbuilt → IsBytes s l
unfolding verdict
line_unbuilt AtFirst l e = (refl, first_unbuilt l e)
line_unbuilt AtSecond l e = absurd (second_unbuilt l e)
line_unbuilt (AtEvents most xs) l e = absurd (if_unbuilt (is_in_place xs l) e)
line_unbuilt AtEnd l e = absurd cc

text_unbuilt : (s : Shape) (o : Option TraceLine) → verdict_of s o ≡ Unbuilt → (s ≡ AtFirst) × (o ≡ Some (line.First true))
text_unbuilt s None e = absurd cc
text_unbuilt s (Some l) e = let x = line_unbuilt s l e in (x.0, ap (λ (z : TraceLine). Some z) x.1)

pub unbuilt : (s : Shape) (text : List ℕ) → judged s text ≡ Unbuilt → (s ≡ AtFirst) × (line_of text ≡ Some (line.First true))
unfolding judged
unbuilt s text e = text_unbuilt s (line_of text) e

-- and that line isn't
pub bytes_unbuilt : (text : List ℕ) → line_of text ≡ Some (line.First true) → judged AtFirst text ≡ Unbuilt
unfolding judged verdict
bytes_unbuilt text e = ap (verdict_of AtFirst) e

-- ---- a trace of bytes stops before anything is played

-- the lines of a play may all stand where they stand
pub stand_of : (n : ℕ) (p : Place) (lines : List (List ℕ)) (text : List ℕ) (q : Place) → LinesLead n p lines text q → LinesStand n (shape_of p) lines (shape_of q)
stand_of n p [] text q a = ap shape_of a.1
stand_of n p (l ∷ lines) text q a = (
  a.3,
  a.4.stands,
  subst (λ (s : Shape). LinesStand (n + (length l + 1)) s lines (shape_of q)) (text_follows p a.1 l a.0 a.4) (stand_of (n + (length l + 1)) a.1 lines a.2 q a.5),
)

kept_text : (w0 w1 : Option (List ℕ)) → Appends w0 w1 [] → Keeps w0 w1
kept_text None w1 a = tt
kept_text (Some xs) None a = absurd a
kept_text (Some xs) (Some ys) a = a ∙ append-nil xs

begins_by : (z : ℕ) (l0 l1 l2 w0 w1 : Option (List ℕ)) (p : Place) (bytes : List ℕ) (lines : List (List ℕ)) (text : List ℕ) → lines ≡ [] → LinesLead 0 First lines text p
    → length (joined lines) ≡ z → Consumes l0 l1 (joined lines) → Appends w0 w1 text → ReadsLine (room z) l1 l2 bytes → line_of bytes ≡ Some (line.First true) → BeginsBytes l0 l2 w0 w1
begins_by z l0 l1 l2 w0 w1 p bytes [] text e a s c w r b = record {
  line = bytes;
  read = record { read = consumes_more l0 l1 l2 [] (bytes ++ 10 ∷ []) c r.read; is_line = subst (λ (k : ℕ). IsShortLine (room k) bytes) (sym s) r.is_line };
  begins = b;
  nothing = kept_text w0 w1 (subst (λ (t : List ℕ). Appends w0 w1 t) a.0 w);
}
begins_by z l0 l1 l2 w0 w1 p bytes (l ∷ lines) text e a s c w r b = absurd cc

pub begins : (n z : ℕ) (l0 l1 l2 w0 w1 : Option (List ℕ)) (p : Place) (bytes : List ℕ) → Played n z l0 l1 w0 w1 p → ReadsLine (room z) l1 l2 bytes → judged (shape_of p) bytes ≡ Unbuilt
    → BeginsBytes l0 l2 w0 w1
begins n z l0 l1 l2 w0 w1 p bytes played r e =
    let u : (shape_of p ≡ AtFirst) × (line_of bytes ≡ Some (line.First true)) = unbuilt (shape_of p) bytes e in
    let stand : LinesStand 0 AtFirst played.lines AtFirst = subst (λ (s : Shape). LinesStand 0 AtFirst played.lines s) u.0 (stand_of 0 First played.lines played.text p played.steps) in
    begins_by z l0 l1 l2 w0 w1 p bytes played.lines played.text (none_before 0 AtFirst played.lines stand) played.steps played.sized played.read played.wrote r u.1
