-- What is read of the bytes of a head that are looked at is what is read within its limits.
use Rattle.std.proofs.Common.{inl, inr, sym, ◌∙◌, ap, subst, refl, arith, append_assoc, length-append, length-take, length-drop}
use Rattle.std.specs.Prelude.{ℕ, ◌≡◌, ◌⊎◌, ◌+◌, ◌<◌, ◌≤◌, true, false, List, [], ◌∷◌, ◌++◌, length, take, drop, Option, Some, None}
use Rattle.std.proofs.lemmas.List.{take-append-drop, append_cancel_right}
use Rattle.std.proofs.Math.Seq.{take-append_seam}
use Rattle.http_model.specs.Reading.{Reading, Whole, Partial, Bad, BadHead, LongHead, onward}
use Rattle.http_model.specs.Lines.{first_line, without_cr, section}
use Rattle.http_model.specs.Heads.{head_limit, field_limit, fields_behind, head_lines, RequestLine, request_line, StatusLine, status_line}
use Rattle.ext_msgs.specs.declared.lists.Field as model
use Rattle.httparse.specs.declared.spans.HeaderSpan.{HeaderSpan}
use Rattle.httparse.specs.declared.spans.RequestSpans.{RequestSpans}
use Rattle.httparse.specs.declared.spans.ResponseSpans.{ResponseSpans}
use Rattle.httparse.specs.Grammar.{print_blank}
use Rattle.httparse.specs.Spans.{span_bytes}
use Rattle.h1_read.specs.declared.head.RequestParts.{RequestParts}
use Rattle.h1_read.specs.declared.head.ResponseParts.{ResponseParts}
use Rattle.h1_read.specs.Parsed.{span_request, span_response, span_fields, digits_of, IsRequestFound, IsResponseFound}
use Rattle.h1_read.specs.HeadParts.{line_of_parts, status_of_parts, IsWholeRequest, IsWholeResponse}
use Rattle.h1_read.specs.Limits.{is_crowded, section_seen, IsFirstLineEnd, Only}
use Rattle.h1_read.proofs.LineCount.{seen_only, crowded_long, uncrowded_seen, seen_joined}
use Rattle.h1_read.proofs.HeadLaw.{HasFirst, by_first_line}
use Rattle.h1_read.proofs.WholeBehind.{within_limit}
use Rattle.h1_read.proofs.Limited.{IsFront, limited_whole, limited_bad, limited_long, limited_partial, limited_over}
use Rattle.http_model.proofs.HeadsStable.{head_lines-stays}

-- The first line stands before its end

same_whole : (l l' r r' : List ℕ) → ◌≡◌ {A = Reading (List ℕ)} (Whole l r) (Whole l' r') → (l ≡ l') × (r ≡ r')
same_whole l l' r r' e = (ap first e, ap rest e)
  where
    first : Reading (List ℕ) → List ℕ
    first (Whole a b) = a
    first Partial = []
    first (Bad f) = []

    rest : Reading (List ℕ) → List ℕ
    rest (Whole a b) = b
    rest Partial = []
    rest (Bad f) = []

pub again : (front : List ℕ) (at : ℕ) (w : IsFirstLineEnd front at) (s : List ℕ) → first_line (take at front ++ s) ≡ Whole w.first s
again front at w s = by (by_first_line front)
  where
    by : HasFirst front ⊎ (first_line front ≡ Partial) → first_line (take at front ++ s) ≡ Whole w.first s
    by (inr e) = absurd (let both : Partial ≡ Whole w.first (drop at front) = sym e ∙ w.reads in cc)
    by (inl h) =
        let here : first_line front ≡ Whole h.first h.rest = ap first_line h.joined ∙ h.again h.rest in
        let same = same_whole h.first w.first h.rest (drop at front) (sym here ∙ w.reads) in
        let pre : List ℕ = print_blank h.blank ++ (h.first ++ 10 ∷ []) in
        let regroup : (t : List ℕ) → print_blank h.blank ++ (h.first ++ 10 ∷ t) ≡ pre ++ t =
        λ t. ap (λ u. print_blank h.blank ++ u) (sym (append_assoc h.first (10 ∷ []) t)) ∙ sym (append_assoc (print_blank h.blank) (h.first ++ 10 ∷ []) t) in
        let taken : take at front ≡ pre =
        append_cancel_right (take at front) pre (drop at front) (take-append-drop at front ∙ h.joined ∙ regroup h.rest ∙ ap (λ t. pre ++ t) same.1) in
        ap (λ t. first_line (t ++ s)) taken ∙ ap first_line (sym (regroup s)) ∙ h.again s ∙ ap (λ l. Whole l s) same.0

lines_at : {A : Type 0} (parse : List ℕ → Option A) (front : List ℕ) (at : ℕ) (w : IsFirstLineEnd front at) (s : List ℕ)
    → head_lines parse (take at front ++ s) ≡ fields_behind (parse (without_cr w.first)) s
lines_at {A} parse front at w s = ap next (again front at w s)
  where
    next : Reading (List ℕ) → Reading (A × List model.Field)
    next r = onward r (λ l more. fields_behind (parse (without_cr l)) more)

lines_front : {A : Type 0} (parse : List ℕ → Option A) (front : List ℕ) (at : ℕ) (w : IsFirstLineEnd front at)
    → head_lines parse front ≡ fields_behind (parse (without_cr w.first)) (drop at front)
lines_front parse front at w = ap (head_lines parse) (sym (take-append-drop at front)) ∙ lines_at parse front at w (drop at front)

-- What is looked at

pub section_seen_fits : (front : List ℕ) (at : ℕ) → at ≤ length front → at + length (section_seen (drop at front)) ≤ length front
section_seen_fits front at h =
    let s = seen_joined (drop at front) in
    omega (arith, h, ap length s.joined, length-append (section_seen (drop at front)) s.others, length-drop at front)

pub seen_taken : (front : List ℕ) (at : ℕ) → at ≤ length front → take (at + length (section_seen (drop at front))) front ≡ take at front ++ section_seen (drop at front)
seen_taken front at h =
    let s = seen_joined (drop at front) in
    let pre : List ℕ = take at front ++ section_seen (drop at front) in
    let whole : front ≡ pre ++ s.others =
    sym (take-append-drop at front) ∙ ap (λ t. take at front ++ t) s.joined ∙ sym (append_assoc (take at front) (section_seen (drop at front)) s.others) in
    let size : at + length (section_seen (drop at front)) ≡ length pre =
    omega (arith, h, length-append (take at front) (section_seen (drop at front)), length-take at front) in
    ap (λ n. take n front) size ∙ ap (take (length pre)) whole ∙ take-append_seam pre s.others

abbrev pub IsHeadSeen : List ℕ → ℕ → List ℕ → Type 0
IsHeadSeen front at seen = seen ≡ take at front ++ section_seen (drop at front)

pub begun : (front : List ℕ) (at : ℕ) (seen : List ℕ) → IsFirstLineEnd front at → IsHeadSeen front at seen → ¬ (first_line seen ≡ Partial)
begun front at seen w f e =
    let both : Partial ≡ Whole w.first (section_seen (drop at front)) = sym e ∙ ap first_line f ∙ again front at w (section_seen (drop at front)) in
    absurd cc

pub room : {A : Type 0} (parse : List ℕ → Option A) (front : List ℕ) (at : ℕ) (seen : List ℕ) → IsFirstLineEnd front at → IsHeadSeen front at seen → Only BadHead (head_lines parse seen)
room {A} parse front at seen w f =
    subst (Only BadHead) (sym (ap (head_lines parse) f ∙ lines_at parse front at w (section_seen (drop at front))))
    (by (parse (without_cr w.first)))
  where
    after : (a : A) (r : Reading (List model.Field)) → Only BadHead r → Only {A = A × List model.Field} BadHead (onward r (λ fields more. Whole (a, fields) more))
    after a (Whole fields rest) o = tt
    after a Partial o = tt
    after a (Bad g) o = o

    by : (o : Option A) → Only {A = A × List model.Field} BadHead (fields_behind o (section_seen (drop at front)))
    by None = refl
    by (Some a) = after a (section BadHead field_limit (section_seen (drop at front))) (seen_only BadHead (drop at front))

seen_front : (bytes front : List ℕ) (at : ℕ) (seen : List ℕ) → front ≡ take head_limit bytes → IsHeadSeen front at seen → IsFront bytes seen
seen_front bytes front at seen e f =
    let s = seen_joined (drop at front) in
    record {
      others = s.others;
      joined = sym e ∙ sym (take-append-drop at front) ∙ ap (λ t. take at front ++ t) s.joined
          ∙ sym (append_assoc (take at front) (section_seen (drop at front)) s.others) ∙ ap (λ t. t ++ s.others) (sym f);
    }

crowded_head : {A : Type 0} (parse : List ℕ → Option A) (front : List ℕ) (at : ℕ) (seen : List ℕ) → IsFirstLineEnd front at → IsHeadSeen front at seen
    → is_crowded (drop at front) ≡ true → head_lines parse seen ≡ Partial → head_lines parse front ≡ Bad LongHead
crowded_head {A} parse front at seen w f c p =
    lines_front parse front at w
    ∙ by (parse (without_cr w.first)) (sym (ap (head_lines parse) f ∙ lines_at parse front at w (section_seen (drop at front))) ∙ p)
  where
    next : A → Reading (List model.Field) → Reading (A × List model.Field)
    next a r = onward r (λ fields more. Whole (a, fields) more)

    after : (a : A) (r : Reading (List model.Field)) → ◌≡◌ {A = Reading (A × List model.Field)} (onward r (λ fields more. Whole (a, fields) more)) Partial → r ≡ Partial
    after a (Whole fields rest) e = absurd cc
    after a Partial e = refl
    after a (Bad g) e = absurd cc

    by : (o : Option A) → ◌≡◌ {A = Reading (A × List model.Field)} (fields_behind o (section_seen (drop at front))) Partial → ◌≡◌ {A = Reading (A × List model.Field)} (fields_behind o (drop at front)) (Bad LongHead)
    by None e = absurd cc
    by (Some a) e =
        ap (next a)
        (crowded_long BadHead (drop at front) c (after a (section BadHead field_limit (section_seen (drop at front))) e))

-- Within the limit

pub whole_head : {A : Type 0} (parse : List ℕ → Option A) (bytes front : List ℕ) (at : ℕ) (seen : List ℕ) (a : A × List model.Field) (len : ℕ)
    → front ≡ take head_limit bytes → IsHeadSeen front at seen → len ≤ length seen → head_lines parse seen ≡ Whole a (drop len seen)
    → within_limit (head_lines parse) bytes ≡ Whole a (drop len bytes)
whole_head parse bytes front at seen a len e f h r =
    limited_whole (head_lines parse) (head_lines-stays parse) bytes seen (seen_front bytes front at seen e f) a len h r

pub in_bytes : (bytes front : List ℕ) (at : ℕ) (seen : List ℕ) (len : ℕ) → front ≡ take head_limit bytes → IsHeadSeen front at seen → len ≤ length seen → len ≤ length bytes
in_bytes bytes front at seen len e f h =
    let w = seen_front bytes front at seen e f in
    omega (arith, h, ap length w.joined, length-append seen w.others, length-take head_limit bytes)

pub bad_head : {A : Type 0} (parse : List ℕ → Option A) (bytes front : List ℕ) (at : ℕ) (seen : List ℕ)
    → front ≡ take head_limit bytes → IsHeadSeen front at seen → head_lines parse seen ≡ Bad BadHead → within_limit (head_lines parse) bytes ≡ Bad BadHead
bad_head parse bytes front at seen e f r = limited_bad (head_lines parse) (head_lines-stays parse) bytes seen (seen_front bytes front at seen e f) BadHead r

pub long_head : {A : Type 0} (parse : List ℕ → Option A) (bytes front : List ℕ) (at : ℕ) (seen : List ℕ)
    → front ≡ take head_limit bytes → IsFirstLineEnd front at → IsHeadSeen front at seen → is_crowded (drop at front) ≡ true → head_lines parse seen ≡ Partial
    → within_limit (head_lines parse) bytes ≡ Bad LongHead
long_head parse bytes front at seen e w f c p = limited_long (head_lines parse) bytes (ap (head_lines parse) (sym e) ∙ crowded_head parse front at seen w f c p)

uncrowded : {A : Type 0} (parse : List ℕ → Option A) (bytes front : List ℕ) (at : ℕ) (seen : List ℕ)
    → front ≡ take head_limit bytes → IsHeadSeen front at seen → is_crowded (drop at front) ≡ false → head_lines parse seen ≡ Partial
    → head_lines parse (take head_limit bytes) ≡ Partial
uncrowded parse bytes front at seen e f c p =
    ap (head_lines parse) (sym (f ∙ ap (λ t. take at front ++ t) (uncrowded_seen (drop at front) c) ∙ take-append-drop at front ∙ e)) ∙ p

pub open_head : {A : Type 0} (parse : List ℕ → Option A) (bytes front : List ℕ) (at : ℕ) (seen : List ℕ)
    → front ≡ take head_limit bytes → IsHeadSeen front at seen → is_crowded (drop at front) ≡ false → length bytes < 32768 → head_lines parse seen ≡ Partial
    → within_limit (head_lines parse) bytes ≡ Partial
open_head parse bytes front at seen e f c h p = limited_partial (head_lines parse) bytes (uncrowded parse bytes front at seen e f c p) h

pub over_head : {A : Type 0} (parse : List ℕ → Option A) (bytes front : List ℕ) (at : ℕ) (seen : List ℕ)
    → front ≡ take head_limit bytes → IsHeadSeen front at seen → is_crowded (drop at front) ≡ false → 32768 ≤ length bytes → head_lines parse seen ≡ Partial
    → within_limit (head_lines parse) bytes ≡ Bad LongHead
over_head parse bytes front at seen e f c h p = limited_over (head_lines parse) bytes (uncrowded parse bytes front at seen e f c p) h

-- The parts

pub whole_request : (bytes front : List ℕ) (at : ℕ) (seen : List ℕ) (spans : List HeaderSpan) (r : RequestSpans) (p : RequestParts)
    → front ≡ take head_limit bytes → IsHeadSeen front at seen → IsRequestFound seen spans r
    → p.method ≡ span_bytes seen r.method → p.target ≡ span_bytes seen r.path → p.minor ≡ r.version → p.fields.items ≡ span_fields seen spans r.headers
    → IsWholeRequest bytes p r.len
whole_request bytes front at seen spans r p e f w m t v g =
    let fits = w.within.section.len_fits in
    record {
      in_range = in_bytes bytes front at seen r.len e f fits;
      reads = whole_head request_line bytes front at seen (line_of_parts p, p.fields.items) r.len e f fits
          (w.reads ∙ ap (λ (l : RequestLine). Whole (l, span_fields seen spans r.headers) (drop r.len seen)) (same_line (span_request seen r) (line_of_parts p) (sym m) (sym t) (sym v))
          ∙ ap (λ (fields : List model.Field). Whole (line_of_parts p, fields) (drop r.len seen)) (sym g));
    }
  where
    same_line : (a b : RequestLine) → a.method ≡ b.method → a.target ≡ b.target → a.minor ≡ b.minor → a ≡ b
    same_line a b e f g = λ i. record { method = e i; target = f i; minor = g i }

pub whole_response : (bytes front : List ℕ) (at : ℕ) (seen : List ℕ) (spans : List HeaderSpan) (r : ResponseSpans) (p : ResponseParts)
    → front ≡ take head_limit bytes → IsHeadSeen front at seen → IsResponseFound seen spans r
    → p.status ≡ digits_of r.code → p.minor ≡ r.version → p.fields.items ≡ span_fields seen spans r.headers
    → IsWholeResponse bytes p r.len
whole_response bytes front at seen spans r p e f w d v g =
    let fits = w.within.section.len_fits in
    record {
      in_range = in_bytes bytes front at seen r.len e f fits;
      reads = whole_head status_line bytes front at seen (status_of_parts p, p.fields.items) r.len e f fits
          (w.reads ∙ ap (λ (l : StatusLine). Whole (l, span_fields seen spans r.headers) (drop r.len seen)) (same_line (span_response r) (status_of_parts p) (sym d) (sym v))
          ∙ ap (λ (fields : List model.Field). Whole (status_of_parts p, fields) (drop r.len seen)) (sym g));
    }
  where
    same_line : (a b : StatusLine) → a.status ≡ b.status → a.minor ≡ b.minor → a ≡ b
    same_line a b e f = λ i. record { status = e i; minor = f i }
