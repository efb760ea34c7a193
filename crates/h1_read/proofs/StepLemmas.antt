-- BodySteps of a body reader, one behind another.
use Rattle.std.proofs.Common.{sym, ◌∙◌, ap, subst, arith, append_assoc, append-nil, length-drop, drop-drop}
use Rattle.std.specs.Prelude.{ℕ, ◌≡◌, ◌+◌, ◌-◌, ◌≤◌, false, List, [], ◌++◌, length, take, drop, slice_range, Err}
use Rattle.ext_msgs.specs.declared.lists.Field.{Field}
use Rattle.http_model.specs.Bytes.{without, owned_names}
use Rattle.http_model.specs.Reading.{Whole, Partial, Bad, Fault, BadChunk, LongHead, Stays}
use Rattle.http_model.specs.Lines.{section}
use Rattle.http_model.specs.Heads.{head_limit, field_limit}
use Rattle.http_model.specs.Bodies.{Body, part, faulty, whole_body, behind, trailers_read, trailers_behind}
use Rattle.http_model.proofs.LinesStable.{section-stays}
use Rattle.http_model.proofs.Stable.{limited-stays}
use Rattle.h1_read.specs.Remaining.{Rest, remaining, GivesContent, Ends, FedPiece}
use Rattle.h1_read.specs.Remaining as rest
use Rattle.h1_read.specs.Stages.{BodySteps, StartsWithin, shifted_piece}
use Rattle.h1_read.specs.declared.piece.Piece.{Piece}
use Rattle.h1_read.specs.declared.piece.Piece.TheVariants as piece
use Rattle.h1_read.specs.declared.body_stage.Stop.{Stop}
use Rattle.h1_read.specs.declared.body_stage.Stop.TheVariants as stop
use Rattle.h1_read.proofs.BodyMoves.{then_gives, none_left}
use Rattle.h1_read.specs.Sections.{trailer_section}

pub starts_within : (before after : Rest) (bytes : List ℕ) (p : Piece) (used : ℕ) → FedPiece before bytes after p used → StartsWithin p used
starts_within before after bytes piece.More used f = tt
starts_within before after bytes (piece.Data start len) used f = omega (arith, f.1)
starts_within before after bytes (piece.End trailers) used f = tt

pub used_within : (before after : Rest) (bytes : List ℕ) (p : Piece) (used : ℕ) → FedPiece before bytes after p used → used ≤ length bytes
used_within before after bytes piece.More used f = omega (arith, f.0)
used_within before after bytes (piece.Data start len) used f = f.2
used_within before after bytes (piece.End trailers) used f = f.0.inside

slice_behind : (bytes : List ℕ) (at start end : ℕ) → slice_range (drop at bytes) start end ≡ slice_range bytes (at + start) (at + end)
slice_behind bytes at start end =
    ap (λ l. take (end - start) l) (drop-drop start at bytes) ∙ ap (λ n. take n (drop (at + start) bytes)) (same at start end)
  where
    same : (a s e : ℕ) → e - s ≡ (a + e) - (a + s)
    same a s e = omega arith

-- what is read behind so many bytes that gave nothing
behind_front : (before mid : Rest) (bytes : List ℕ) (at : ℕ) (b : Body) → GivesContent before bytes at [] mid → remaining mid false (drop at bytes) ≡ b
    → remaining before false bytes ≡ behind [] b
behind_front before mid bytes at b g e =
    ap (remaining before false) (sym (append-nil bytes)) ∙ g false [] ∙ ap (λ l. behind [] (remaining mid false l)) (append-nil (drop at bytes)) ∙ ap (behind []) e

pub then_fed : (before mid after : Rest) (bytes : List ℕ) (at : ℕ) (p : Piece) (used : ℕ) → at ≤ length bytes → GivesContent before bytes at [] mid
    → FedPiece mid (drop at bytes) after p used → FedPiece before bytes after (shifted_piece at p) (at + used)
then_fed before mid after bytes at piece.More used h g f =
    (omega (arith, h, f.0, length-drop at bytes), then_gives before mid after bytes [] at used h g f.1, behind_front before mid bytes at (part []) g f.2)
then_fed before mid after bytes at (piece.Data start len) used h g f = (
  f.0,
  omega (arith, f.1),
  omega (arith, h, f.2, length-drop at bytes),
  subst (λ l. GivesContent before bytes (at + used) l after) (slice_behind bytes at start used) (then_gives before mid after bytes (slice_range (drop at bytes) start used) at used h g f.3),
)
then_fed before mid after bytes at (piece.End trailers) used h g f = (
  record {
    inside = omega (arith, h, f.0.inside, length-drop at bytes);
    whole = λ ended more. g ended more ∙ ap (behind []) (f.0.whole ended more) ∙ ap (λ l. whole_body [] trailers (l ++ more)) (drop-drop used at bytes);
  },
  f.1,
)

pub then_steps : (before mid : Rest) (bytes new : List ℕ) (at : ℕ) (s : Stop) → GivesContent before bytes at [] mid
    → BodySteps mid (drop at bytes) new (Err s) → BodySteps before bytes new (Err s)
then_steps before mid bytes new at stop.Bad g e = behind_front before mid bytes at (faulty [] BadChunk) g e
then_steps before mid bytes new at stop.Long g e = behind_front before mid bytes at (faulty [] LongHead) g e
then_steps before mid bytes new at stop.Memory g e = tt

-- The trailer section

pub section_ends : (kept bytes : List ℕ) (trailers fields : List Field) (used : ℕ) → used ≤ length bytes → trailers ≡ without owned_names fields
    → trailer_section (kept ++ bytes) ≡ Whole fields (drop used bytes) → Ends (rest.Trailers kept) bytes used trailers
unfolding trailers_behind
section_ends kept bytes trailers fields used h shown e = record {
  inside = h;
  whole = λ ended more.
      ap (λ l. trailers_read (trailer_section l)) (sym (append_assoc kept bytes more))
      ∙ ap trailers_read (subst (λ r. Stays r more (trailer_section ((kept ++ bytes) ++ more))) e
      (limited-stays head_limit LongHead (section BadChunk field_limit) (section-stays BadChunk field_limit) (kept ++ bytes) more))
      ∙ ap (λ l. whole_body [] l (drop used bytes ++ more)) (sym shown);
}

pub section_partial : (kept bytes : List ℕ) → trailer_section (kept ++ bytes) ≡ Partial → remaining (rest.Trailers kept) false bytes ≡ part []
unfolding trailers_behind
section_partial kept bytes e = ap trailers_read e

pub section_bad : (kept bytes : List ℕ) (f : Fault) → trailer_section (kept ++ bytes) ≡ Bad f → remaining (rest.Trailers kept) false bytes ≡ faulty [] f
unfolding trailers_behind
section_bad kept bytes f e = ap trailers_read e

pub section_goes_on : (kept bytes : List ℕ) → GivesContent (rest.Trailers kept) bytes (length bytes) [] (rest.Trailers (kept ++ bytes))
section_goes_on kept bytes ended more =
    ap trailers_behind (sym (append_assoc kept bytes more) ∙ ap (λ l. (kept ++ bytes) ++ (l ++ more)) (sym (none_left bytes)))
