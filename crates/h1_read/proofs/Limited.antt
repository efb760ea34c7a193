-- What is read of the bytes that are looked at is what is read within the limit.
use Rattle.std.proofs.Common.{sym, ◌∙◌, ap, subst, arith, append_assoc, length-append, length-take, le-leb}
use Rattle.std.specs.Prelude.{ℕ, ◌≡◌, ◌^◌, ◌<◌, ◌≤◌, true, false, List, ◌++◌, length, take, drop, nat_le, if◌then◌else◌}
use Rattle.std.proofs.lemmas.List.{take-append-drop, drop-append-le}
use Rattle.std.proofs.lemmas.Bool.Decides.{nat_tests}
use Rattle.http_model.specs.Bytes.{without, owned_names}
use Rattle.http_model.specs.Reading.{Reading, Whole, Partial, Bad, Fault, BadChunk, LongHead, within, Stays}
use Rattle.http_model.specs.Lines.{section}
use Rattle.http_model.specs.Heads.{head_limit, field_limit}
use Rattle.http_model.proofs.Stable.{IsStable}
use Rattle.http_model.proofs.LinesStable.{section-stays}
use Rattle.ext_msgs.specs.declared.lists.Field as model
use Rattle.httparse.specs.declared.spans.HeaderSpan.{HeaderSpan}
use Rattle.h1_read.specs.Limits.{is_crowded, section_seen, Only}
use Rattle.h1_read.specs.Parsed.{span_fields, IsSectionFound}
use Rattle.h1_read.specs.Sections.{trailer_section, IsWholeSection}
use Rattle.h1_read.proofs.WholeBehind.{within_limit, section_past}
use Rattle.h1_read.proofs.LineCount.{seen_only, crowded_long, uncrowded_seen, seen_joined}

-- the bytes that are looked at, at the front of those within the limit
pub record IsFront (bytes seen : List ℕ) : Type 0 where
  pub others : List ℕ
  pub joined : take head_limit bytes ≡ seen ++ others

pub limited_whole : {A : Type 0} (read : List ℕ → Reading A) → IsStable read → (bytes seen : List ℕ) → IsFront bytes seen
    → (a : A) (len : ℕ) → len ≤ length seen → read seen ≡ Whole a (drop len seen) → within_limit read bytes ≡ Whole a (drop len bytes)
limited_whole read stable bytes seen w a len fits e =
    let more : read (take head_limit bytes) ≡ Whole a (drop len seen ++ w.others) =
    ap read w.joined ∙ subst (λ r. Stays r w.others (read (seen ++ w.others))) e (stable seen w.others) in
    let whole : bytes ≡ seen ++ (w.others ++ drop head_limit bytes) =
    sym (take-append-drop head_limit bytes) ∙ ap (λ s. s ++ drop head_limit bytes) w.joined ∙ append_assoc seen w.others (drop head_limit bytes) in
    ap (within head_limit LongHead bytes) more
    ∙ ap (Whole a) (append_assoc (drop len seen) w.others (drop head_limit bytes) ∙ sym (drop-append-le len seen (w.others ++ drop head_limit bytes) fits) ∙ ap (drop len) (sym whole))

pub limited_bad : {A : Type 0} (read : List ℕ → Reading A) → IsStable read → (bytes seen : List ℕ) → IsFront bytes seen
    → (f : Fault) → read seen ≡ Bad f → within_limit read bytes ≡ Bad f
limited_bad read stable bytes seen w f e =
    ap (within head_limit LongHead bytes) (ap read w.joined ∙ subst (λ r. Stays r w.others (read (seen ++ w.others))) e (stable seen w.others))

pub limited_long : {A : Type 0} (read : List ℕ → Reading A) (bytes : List ℕ) → read (take head_limit bytes) ≡ Bad LongHead → within_limit read bytes ≡ Bad LongHead
limited_long read bytes e = ap (within head_limit LongHead bytes) e

pub limited_partial : {A : Type 0} (read : List ℕ → Reading A) (bytes : List ℕ) → read (take head_limit bytes) ≡ Partial → length bytes < head_limit → within_limit read bytes ≡ Partial
limited_partial {A} read bytes e h = ap (within head_limit LongHead bytes) e ∙ ap (λ t. if t then Bad LongHead else Partial) short
  where
    short : nat_le head_limit (length bytes) ≡ false
    short = grind (arith, nat_tests)

pub limited_over : {A : Type 0} (read : List ℕ → Reading A) (bytes : List ℕ) → read (take head_limit bytes) ≡ Partial → head_limit ≤ length bytes → within_limit read bytes ≡ Bad LongHead
limited_over {A} read bytes e h = ap (within head_limit LongHead bytes) e ∙ ap (λ t. if t then Bad LongHead else Partial) (le-leb head_limit (length bytes) h)

-- Trailer sections

front_seen : (bytes front seen : List ℕ) → front ≡ take head_limit bytes → seen ≡ section_seen front → IsFront bytes seen
front_seen bytes front seen e f =
    record { others = (seen_joined front).others; joined = sym e ∙ (seen_joined front).joined ∙ ap (λ s. s ++ (seen_joined front).others) (sym f) }

pub room_in : (front seen : List ℕ) → seen ≡ section_seen front → Only BadChunk (section BadChunk field_limit seen)
room_in front seen f = subst (λ s. Only BadChunk (section BadChunk field_limit s)) (sym f) (seen_only BadChunk front)

pub whole_section : (bytes front seen : List ℕ) (spans : List HeaderSpan) (len count : ℕ) (trailers : List model.Field) → front ≡ take head_limit bytes → seen ≡ section_seen front
    → IsSectionFound seen spans len count → trailers ≡ without owned_names (span_fields seen spans count) → IsWholeSection bytes trailers len
whole_section bytes front seen spans len count trailers e f w g =
    let joined = front_seen bytes front seen e f in
    let fits : len ≤ length bytes = omega (arith, w.within.len_fits, ap length joined.joined, length-append seen joined.others, length-take head_limit bytes) in
    let reads : trailer_section bytes ≡ Whole (span_fields seen spans count) (drop len bytes) =
    limited_whole (section BadChunk field_limit) (section-stays BadChunk field_limit) bytes seen joined (span_fields seen spans count) len w.within.len_fits w.reads in
    record { in_range = fits; fields = span_fields seen spans count; shown = g; reads = reads; past = section_past bytes (span_fields seen spans count) len fits reads }

pub small : (bytes front seen : List ℕ) (len : ℕ) → front ≡ take head_limit bytes → seen ≡ section_seen front → len ≤ length seen → len < 2 ^ 32
small bytes front seen len e f h =
    let joined = front_seen bytes front seen e f in
    omega (arith, h, ap length joined.joined, length-append seen joined.others, length-take head_limit bytes)

pub bad_section : (bytes front seen : List ℕ) → front ≡ take head_limit bytes → seen ≡ section_seen front
    → section BadChunk field_limit seen ≡ Bad BadChunk → trailer_section bytes ≡ Bad BadChunk
bad_section bytes front seen e f w =
    limited_bad (section BadChunk field_limit) (section-stays BadChunk field_limit) bytes seen (front_seen bytes front seen e f) BadChunk w

pub crowded_section : (bytes front seen : List ℕ) → front ≡ take head_limit bytes → seen ≡ section_seen front → is_crowded front ≡ true
    → section BadChunk field_limit seen ≡ Partial → trailer_section bytes ≡ Bad LongHead
crowded_section bytes front seen e f c w =
    limited_long (section BadChunk field_limit) bytes
    (ap (section BadChunk field_limit) (sym e) ∙ crowded_long BadChunk front c (ap (section BadChunk field_limit) (sym f) ∙ w))

uncrowded : (bytes front seen : List ℕ) → front ≡ take head_limit bytes → seen ≡ section_seen front → is_crowded front ≡ false
    → section BadChunk field_limit seen ≡ Partial → section BadChunk field_limit (take head_limit bytes) ≡ Partial
uncrowded bytes front seen e f c w = ap (section BadChunk field_limit) (sym (f ∙ uncrowded_seen front c ∙ e)) ∙ w

pub over_section : (bytes front seen : List ℕ) → front ≡ take head_limit bytes → seen ≡ section_seen front → is_crowded front ≡ false → 32768 ≤ length bytes
    → section BadChunk field_limit seen ≡ Partial → trailer_section bytes ≡ Bad LongHead
over_section bytes front seen e f c h w = limited_over (section BadChunk field_limit) bytes (uncrowded bytes front seen e f c w) h

pub open_section : (bytes front seen : List ℕ) → front ≡ take head_limit bytes → seen ≡ section_seen front → is_crowded front ≡ false → length bytes < 32768
    → section BadChunk field_limit seen ≡ Partial → trailer_section bytes ≡ Partial
open_section bytes front seen e f c h w = limited_partial (section BadChunk field_limit) bytes (uncrowded bytes front seen e f c w) h
