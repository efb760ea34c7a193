-- A play goes on by a line, is stopped, or halts.
use Rattle.std.proofs.Common.{◌≡◌, ℕ, suc-add, zero-add, add-zero, ◌+◌, List, [], ◌∷◌, ◌++◌, Option, refl, sym, ap, ◌∙◌, append_assoc, append-nil, length, length-append, take, arith, subst}
use Rattle.std.proofs.lemmas.Grind.{common_steps}
use Rattle.std.specs.Io.KnownBytes.{Appends, Consumes}
use Rattle.trace_format.specs.declared.out.OutLine.{OutLine}
use Rattle.trace_model.specs.Lines.{text_of_lines}
use Rattle.trace_model.specs.Places.{First, Place}
use Rattle.trace_model.specs.Verdicts.{TextLeads}
use Rattle.ext_top.specs.Moves.{room, IsShortLine, ReadsLine, WritesSome}
use Rattle.ext_top.specs.Plays.{LinesLead, joined, Played, Halted}
use Rattle.px_edge.proofs.Moved.{consumes_more, appends_more}

-- the bytes behind the first line
size_behind : (n : ℕ) (l : List ℕ) (lines : List (List ℕ)) → n + (length l + 1) + length (joined lines) ≡ n + length (joined (l ∷ lines))
size_behind n l lines = rw (length-append l (10 ∷ joined lines)) (omega arith)

steps_more : (n : ℕ) (p : Place) (lines : List (List ℕ)) (out : List ℕ) (mid : Place) (line : List ℕ) (own : List OutLine) (next : Place)
    → LinesLead n p lines out mid → IsShortLine (room (n + length (joined lines))) line → TextLeads mid line own next → LinesLead n p (lines ++ line ∷ []) (out ++ text_of_lines own) next
steps_more n p [] out mid line own next a i b =
    (own, next, [], subst (λ (k : ℕ). IsShortLine (room k) line) (add-zero n) i, subst (λ (x : Place). TextLeads x line own next) a.1 b, (refl, refl), ap (λ (o : List ℕ). o ++ text_of_lines own) a.0 ∙ sym (append-nil (text_of_lines own)))
steps_more n p (l ∷ lines) out mid line own next a i b =
    let fits = subst (λ (k : ℕ). IsShortLine (room k) line) (sym (size_behind n l lines)) i in
    (a.0, a.1, a.2 ++ text_of_lines own, a.3, a.4, steps_more (n + (length l + 1)) a.1 lines a.2 mid line own next a.5 fits b, ap (λ (o : List ℕ). o ++ text_of_lines own) a.6 ∙ append_assoc (text_of_lines a.0) a.2 (text_of_lines own))

joined_more : (lines : List (List ℕ)) (line : List ℕ) → joined (lines ++ line ∷ []) ≡ joined lines ++ (line ++ 10 ∷ [])
joined_more [] line = refl
joined_more (l ∷ lines) line = ap (λ (x : List ℕ). l ++ 10 ∷ x) (joined_more lines line) ∙ sym (append_assoc l (10 ∷ joined lines) (line ++ 10 ∷ []))

sized_more : (lines : List (List ℕ)) (line : List ℕ) (z y : ℕ) → length (joined lines) ≡ z → y ≡ length line → length (joined (lines ++ line ∷ [])) ≡ z + (y + 1)
sized_more lines line z y e f = rw (joined_more lines line, length-append (joined lines) (line ++ 10 ∷ []), length-append line (10 ∷ [])) (omega (arith, e, f))

-- a line behind the played ones fits
fits_behind : (lines : List (List ℕ)) (line : List ℕ) (z : ℕ) → length (joined lines) ≡ z → IsShortLine (room z) line → IsShortLine (room (0 + length (joined lines))) line
fits_behind lines line z e i = subst (λ (k : ℕ). IsShortLine (room k) line) (sym e ∙ sym (zero-add (length (joined lines)))) i

pub played_more : (n z y : ℕ) (l0 l1 l2 w0 w1 w2 : Option (List ℕ)) (s next : Place) (line : List ℕ) (own : List OutLine)
    → Played n z l0 l1 w0 w1 s → ReadsLine (room z) l1 l2 line → y ≡ length line → TextLeads s line own next → Appends w1 w2 (text_of_lines own) → Played (n + 1) (z + (y + 1)) l0 l2 w0 w2 next
played_more n z y l0 l1 l2 w0 w1 w2 s next line own p r e m a = record {
  lines = p.lines ++ line ∷ [];
  text = p.text ++ text_of_lines own;
  counted = length-append p.lines (line ∷ []) ∙ ap (λ (k : ℕ). k + 1) p.counted;
  sized = sized_more p.lines line z y p.sized e;
  steps = steps_more 0 First p.lines p.text s line own next p.steps (fits_behind p.lines line z p.sized r.is_line) m;
  read = subst (λ (x : List ℕ). Consumes l0 l2 x) (sym (joined_more p.lines line)) (consumes_more l0 l1 l2 (joined p.lines) (line ++ 10 ∷ []) p.read r.read);
  wrote = appends_more w0 w1 w2 p.text (text_of_lines own) p.wrote a;
}

all_taken : (xs : List ℕ) → take (length xs) xs ≡ xs
all_taken xs = grind (arith, common_steps)

pub halted_read : (n z : ℕ) (l0 l1 l2 w0 w1 : Option (List ℕ)) (s : Place) (bytes : List ℕ) → Played n z l0 l1 w0 w1 s → Consumes l1 l2 bytes → Halted l0 l2 w0 w1
halted_read n z l0 l1 l2 w0 w1 s bytes p c = record {
  lines = p.lines;
  text = p.text;
  at = s;
  steps = p.steps;
  bytes = bytes;
  read = consumes_more l0 l1 l2 (joined p.lines) bytes p.read c;
  count = length p.text;
  wrote = subst (λ (x : List ℕ). Appends w0 w1 x) (sym (all_taken p.text)) p.wrote;
}

front_taken : (xs ys : List ℕ) (n : ℕ) → xs ++ take n ys ≡ take (length xs + n) (xs ++ ys)
front_taken [] ys n = rw (zero-add n) refl
front_taken (x ∷ xs) ys n = rw (suc-add (length xs) n) (ap (λ (l : List ℕ). x ∷ l) (front_taken xs ys n))

pub halted_write : (n z : ℕ) (l0 l1 l2 w0 w1 w2 : Option (List ℕ)) (s next : Place) (line : List ℕ) (own : List OutLine)
    → Played n z l0 l1 w0 w1 s → ReadsLine (room z) l1 l2 line → TextLeads s line own next → WritesSome w1 w2 (text_of_lines own) → Halted l0 l2 w0 w2
halted_write n z l0 l1 l2 w0 w1 w2 s next line own p r m w = record {
  lines = p.lines ++ line ∷ [];
  text = p.text ++ text_of_lines own;
  at = next;
  steps = steps_more 0 First p.lines p.text s line own next p.steps (fits_behind p.lines line z p.sized r.is_line) m;
  bytes = [];
  read = subst (λ (x : List ℕ). Consumes l0 l2 x) (sym (joined_more p.lines line) ∙ sym (append-nil _)) (consumes_more l0 l1 l2 (joined p.lines) (line ++ 10 ∷ []) p.read r.read);
  count = length p.text + w.0;
  wrote = subst (λ (x : List ℕ). Appends w0 w2 x) (front_taken p.text (text_of_lines own) w.0) (appends_more w0 w1 w2 p.text (take w.0 (text_of_lines own)) p.wrote w.1);
}
