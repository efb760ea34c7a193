-- From what httparse promises of its answers to what the model reads.
use Rattle.std.proofs.Common.{inl, inr, sym, ◌∙◌, ap, subst, refl, arith, append_assoc, append-nil, length-take}
use Rattle.std.specs.Prelude.{ℕ, ◌≡◌, ◌+◌, ◌-◌, ◌*◌, ◌/◌, ◌%◌, ◌≤◌, true, List, [], ◌∷◌, ◌++◌, length, take, drop, map}
use Rattle.std.specs.List.{flat_map}
use Rattle.std.specs.Char.{is_ascii_digit, digit_value}
use Rattle.std.specs.Str.Parse.{digits_value}
use Rattle.std.proofs.lemmas.Bool.Decides.{nat_tests}
use Rattle.std.proofs.lemmas.Str.{digit_value_digit}
use Rattle.std.proofs.lemmas.List.{length-map, append_cancel_right}
use Rattle.http_model.specs.Bytes.{is_token_byte, lower, field}
use Rattle.http_model.specs.Reading.{Reading, Whole, Partial, Bad, BadHead, BadChunk, LongHead, onward}
use Rattle.http_model.specs.Lines.{first_line, section}
use Rattle.http_model.specs.Heads.{field_limit, head_lines, RequestLine, request_line, StatusLine, status_line}
use Rattle.ext_msgs.specs.declared.lists.Field as model
use Rattle.httparse.specs.declared.spans.HeaderSpan.{HeaderSpan}
use Rattle.httparse.specs.declared.spans.RequestSpans.{RequestSpans}
use Rattle.httparse.specs.declared.spans.ResponseSpans.{ResponseSpans}
use Rattle.httparse.specs.Grammar.{is_uri_byte, AllPass, LineEnd, lf, print_end, print_blank, Field, print_field, print_section, ReadsSection, HasNoSection, NeverHasSection, MayBecomeSection, RequestHead, ReadsRequest, HasNoRequest, NeverHasRequest, MayBecomeRequest, EndsInTarget, ResponseHead, ReadsResponse, HasNoResponse, NeverHasResponse, MayBecomeResponse}
use Rattle.httparse.specs.Spans.{header_bytes, name_and_value, AreFieldsAt, IsSectionWithin, IsSectionOf, SectionExceeds, IsRequestWithin, IsRequestOf, RequestExceeds, IsResponseWithin, IsResponseOf, ResponseExceeds}
use Rattle.httparse.proofs.PieceLemmas.{Stops_token}
use Rattle.h1_read.specs.Agreement.{field_of_line, line_of_request, line_of_response}
use Rattle.h1_read.specs.Limits.{Only}
use Rattle.h1_read.specs.Parsed.{span_field, span_fields, span_request, span_response, digits_of, IsSectionFound, IsRequestFound, IsResponseFound}
use Rattle.h1_read.proofs.LineParts.{Lacks, Lacks-append, Lacks-pass, passing, line_open, cr_of, end_is}
use Rattle.h1_read.proofs.FieldText.{tokens_of}
use Rattle.h1_read.proofs.SectionLaw.{section_found, section_tells, section_never, fields_exceed, Tells}
use Rattle.h1_read.proofs.HeadLaw.{behind_blank, starts_line, head_read}
use Rattle.h1_read.proofs.RequestLaw as requests
use Rattle.h1_read.proofs.ResponseLaw as responses
use Rattle.h1_read.proofs.RequestLaw.{RequestTells, request_found, request_exceeds, request_tells, request_never}
use Rattle.h1_read.proofs.ResponseLaw.{ResponseTells, response_found, response_exceeds, response_tells, response_never}

-- Fields

few : (spans : List HeaderSpan) (count : ℕ) (buf : List ℕ) (fields : List Field) → length spans ≤ 100 → AreFieldsAt buf spans count fields → length fields ≤ 100
few spans count buf fields room at =
    omega (arith, ap length at, length-map (take count spans) (header_bytes buf), length-map fields name_and_value, length-take count spans)

abbrev of_pair : List ℕ × List ℕ → model.Field
of_pair p = field (lower p.0) p.1

pairs_of_spans : (buf : List ℕ) (spans : List HeaderSpan) → map of_pair (map (header_bytes buf) spans) ≡ map (span_field buf) spans
pairs_of_spans buf [] = refl
pairs_of_spans buf (s ∷ spans) = ap (λ l. span_field buf s ∷ l) (pairs_of_spans buf spans)

pairs_of_fields : (fields : List Field) → map of_pair (map name_and_value fields) ≡ map field_of_line fields
pairs_of_fields [] = refl
pairs_of_fields (f ∷ fields) = ap (λ l. field_of_line f ∷ l) (pairs_of_fields fields)

same_fields : (buf : List ℕ) (spans : List HeaderSpan) (count : ℕ) (fields : List Field) → AreFieldsAt buf spans count fields
    → map field_of_line fields ≡ span_fields buf spans count
same_fields buf spans count fields at = sym (pairs_of_fields fields) ∙ ap (map of_pair) (sym at) ∙ pairs_of_spans buf (take count spans)

-- Sections

pub section_whole : (buf : List ℕ) (spans : List HeaderSpan) (len count : ℕ) → length spans ≤ 100
    → IsSectionWithin buf spans len count → IsSectionOf buf 0 spans (len, count) → IsSectionFound buf spans len count
section_whole buf spans len count room within x = record {
  within = within;
  reads = section_found BadChunk field_limit buf x.0 x.1 (drop len buf) x.2.reads (few spans count buf x.0 room x.2.fields_are)
      ∙ ap (λ fields. Whole fields (drop len buf)) (same_fields buf spans count x.0 x.2.fields_are);
}

pub section_open : (buf : List ℕ) → Only BadChunk (section BadChunk field_limit buf) → HasNoSection buf → MayBecomeSection buf → section BadChunk field_limit buf ≡ Partial
section_open buf only none may = by (section BadChunk field_limit buf) refl only (section_tells BadChunk field_limit buf)
  where
    by : (r : Reading (List model.Field)) → section BadChunk field_limit buf ≡ r → Only BadChunk r → Tells buf r → r ≡ Partial
    by (Whole fields rest) e o t = absurd (none t.fields t.last rest t.reads)
    by Partial e o t = refl
    by (Bad f) e o t = absurd (section_never BadChunk field_limit buf (λ i. absurd cc) (e ∙ ap Bad o) may.0 may.1 may.2 [] may.3)

pub section_bad : (buf : List ℕ) → Only BadChunk (section BadChunk field_limit buf) → NeverHasSection buf → section BadChunk field_limit buf ≡ Bad BadChunk
section_bad buf only never = by (section BadChunk field_limit buf) only (section_tells BadChunk field_limit buf)
  where
    by : (r : Reading (List model.Field)) → Only BadChunk r → Tells buf r → r ≡ Bad BadChunk
    by (Whole fields rest) o t = absurd (never [] t.fields t.last rest (subst (λ b. ReadsSection b t.fields t.last rest) (sym (append-nil buf)) t.reads))
    by Partial o t = absurd (never t.0 t.1 t.2 [] t.3)
    by (Bad f) o t = ap Bad o

pub section_exceeded : (buf : List ℕ) (n : ℕ) → 100 ≤ n → Only BadChunk (section BadChunk field_limit buf) → SectionExceeds n buf → section BadChunk field_limit buf ≡ Bad BadChunk
section_exceeded buf n room only x = by (section BadChunk field_limit buf) only long
  where
    long : section BadChunk field_limit buf ≡ Bad LongHead
    long = ap (section BadChunk field_limit) (x.2 ∙ ap (λ s. s ++ x.1) (append_cancel_right x.0 _ (print_end lf) (x.4.1 ∙ append-nil _)))
        ∙ fields_exceed BadChunk field_limit x.3 x.1 x.4.0 (omega (arith, room, x.5))

    by : (r : Reading (List model.Field)) → Only BadChunk r → r ≡ Bad LongHead → r ≡ Bad BadChunk
    by (Whole fields rest) o e = absurd cc
    by Partial o e = absurd cc
    by (Bad f) o e = ap Bad o

-- what stands before the last line feed of a section
last_feed : (pre : List ℕ) (fields : List Field) (last : LineEnd) (front : List ℕ) → front ++ print_end lf ≡ pre ++ (print_section fields last ++ [])
    → front ≡ pre ++ (flat_map print_field fields ++ cr_of last)
last_feed pre fields last front e =
    append_cancel_right front (pre ++ (flat_map print_field fields ++ cr_of last)) (10 ∷ [])
    (e ∙ ap (λ s. pre ++ s) (append-nil (print_section fields last) ∙ ap (λ s. flat_map print_field fields ++ s) (end_is last) ∙ sym (append_assoc (flat_map print_field fields) (cr_of last) (10 ∷ [])))
    ∙ sym (append_assoc pre (flat_map print_field fields ++ cr_of last) (10 ∷ [])))

-- Requests

ends_in_target : (buf : List ℕ) → EndsInTarget buf → first_line buf ≡ Partial
ends_in_target buf x =
    let rest : List ℕ = x.1 ++ 32 ∷ x.2 in
    let lacks : Lacks 10 rest = Lacks-append 10 x.1 (32 ∷ x.2) (Lacks-pass is_token_byte 10 refl x.1 (tokens_of x.1 x.3.1)) (refl, Lacks-pass is_uri_byte 10 refl x.2 (passing is_uri_byte x.2 x.4)) in
    ap first_line (x.5 ∙ append_assoc (print_blank x.0) x.1 (32 ∷ x.2))
    ∙ behind_blank x.0 rest
    ∙ starts_line rest (Stops_token x.1 (32 ∷ x.2) x.3.0 x.3.1)
    ∙ line_open rest lacks

pub request_whole : (buf : List ℕ) (spans : List HeaderSpan) (r : RequestSpans) → length spans ≤ 100
    → IsRequestWithin buf spans r → IsRequestOf buf spans r → IsRequestFound buf spans r
request_whole buf spans r room within x = record {
  within = within;
  reads = request_found buf x.0 (drop r.len buf) x.1.reads (few spans r.headers buf x.0.fields room x.1.fields)
      ∙ ap (λ l. Whole (l, map field_of_line x.0.fields) (drop r.len buf)) (same_line (line_of_request x.0) (span_request buf r) (sym x.1.method) (sym x.1.path) (sym x.1.version))
      ∙ ap (λ fields. Whole (span_request buf r, fields) (drop r.len buf)) (same_fields buf spans r.headers x.0.fields x.1.fields);
}
  where
    same_line : (a b : RequestLine) → a.method ≡ b.method → a.target ≡ b.target → a.minor ≡ b.minor → a ≡ b
    same_line a b e f g = λ i. record { method = e i; target = f i; minor = g i }

pub request_open : (buf : List ℕ) → ¬ (first_line buf ≡ Partial) → Only BadHead (head_lines request_line buf) → HasNoRequest buf → MayBecomeRequest buf → head_lines request_line buf ≡ Partial
request_open buf begun only none (inr w) = absurd (begun (ends_in_target buf w))
request_open buf begun only none (inl w) = by (head_lines request_line buf) refl only (request_tells buf)
  where
    by : (r : Reading (RequestLine × List model.Field)) → head_lines request_line buf ≡ r → Only BadHead r → RequestTells buf r → r ≡ Partial
    by (Whole h rest) e o t = absurd (none t.head rest t.reads)
    by Partial e o t = refl
    by (Bad f) e o t = absurd (request_never buf (e ∙ ap Bad o) w.0 w.1 [] w.2)

pub request_bad : (buf : List ℕ) → ¬ (first_line buf ≡ Partial) → Only BadHead (head_lines request_line buf) → NeverHasRequest buf → head_lines request_line buf ≡ Bad BadHead
request_bad buf begun only never = by (head_lines request_line buf) only (request_tells buf)
  where
    by : (r : Reading (RequestLine × List model.Field)) → Only BadHead r → RequestTells buf r → r ≡ Bad BadHead
    by (Whole h rest) o t = absurd (never [] t.head rest (subst (λ b. ReadsRequest b t.head rest) (sym (append-nil buf)) t.reads))
    by Partial o (inl w) = absurd (begun w)
    by Partial o (inr w) = absurd (never w.0 w.1 [] w.2)
    by (Bad f) o t = ap Bad o

pub request_exceeded : (buf : List ℕ) (n : ℕ) → 100 ≤ n → Only BadHead (head_lines request_line buf) → RequestExceeds n buf → head_lines request_line buf ≡ Bad BadHead
request_exceeded buf n room only x = by (head_lines request_line buf) only long
  where
    long : head_lines request_line buf ≡ Bad LongHead
    long =
        let h : RequestHead = x.3 in
        let text = requests.request_text h.method h.target h.minor in
        let pre : List ℕ = print_blank h.blank ++ (text ++ print_end h.line_end) in
        let regroup : (s : List ℕ) → print_blank h.blank ++ (text ++ (print_end h.line_end ++ s)) ≡ pre ++ s =
        λ s. ap (λ t. print_blank h.blank ++ t) (sym (append_assoc text (print_end h.line_end) s)) ∙ sym (append_assoc (print_blank h.blank) (text ++ print_end h.line_end) s) in
        let front_is : x.0 ≡ pre ++ (flat_map print_field h.fields ++ cr_of h.last) =
        last_feed pre h.fields h.last x.0 (x.4.1 ∙ requests.printed h [] ∙ regroup (print_section h.fields h.last ++ [])) in
        let buf_is : buf ≡ print_blank h.blank ++ (text ++ (print_end h.line_end ++ (flat_map print_field h.fields ++ (cr_of h.last ++ x.1)))) =
        x.2 ∙ ap (λ s. s ++ x.1) front_is ∙ append_assoc pre (flat_map print_field h.fields ++ cr_of h.last) x.1
        ∙ ap (λ s. pre ++ s) (append_assoc (flat_map print_field h.fields) (cr_of h.last) x.1)
        ∙ sym (regroup (flat_map print_field h.fields ++ (cr_of h.last ++ x.1))) in
        ap (head_lines request_line) buf_is
        ∙ head_read request_line (line_of_request h) h.blank text h.line_end (flat_map print_field h.fields ++ (cr_of h.last ++ x.1)) (requests.is_first h x.4.0) (requests.line_read h x.4.0)
        ∙ ap (λ r. onward r (λ fields more. Whole (line_of_request h, fields) more)) (fields_exceed BadHead field_limit h.fields (cr_of h.last ++ x.1) x.4.0.fields (omega (arith, room, x.5)))

    by : (r : Reading (RequestLine × List model.Field)) → Only BadHead r → r ≡ Bad LongHead → r ≡ Bad BadHead
    by (Whole h rest) o e = absurd cc
    by Partial o e = absurd cc
    by (Bad f) o e = ap Bad o

-- Responses

bounds : (d : ℕ) → is_ascii_digit d ≡ true → (48 ≤ d) × (d ≤ 57)
bounds d e = grind (arith, nat_tests, e)

three : (a b c n : ℕ) → (48 ≤ a) × (a ≤ 57) → (48 ≤ b) × (b ≤ 57) → (48 ≤ c) × (c ≤ 57)
    → n ≡ (((a - 48) * 10 + (b - 48)) * 10 + (c - 48)) → digits_of n ≡ a ∷ b ∷ c ∷ []
three a b c n ra rb rc e =
    let ea : 48 + n / 100 ≡ a = omega (arith, ra.0, ra.1, rb.0, rb.1, rc.0, rc.1, e) in
    let eb : 48 + n / 10 % 10 ≡ b = omega (arith, ra.0, ra.1, rb.0, rb.1, rc.0, rc.1, e) in
    let ec : 48 + n % 10 ≡ c = omega (arith, ra.0, ra.1, rb.0, rb.1, rc.0, rc.1, e) in
    cc

value_is : (d : ℕ) → (48 ≤ d) × (d ≤ 57) → digit_value d ≡ d - 48
value_is d r = omega (arith, digit_value_digit d r)

of_value : (ds : List ℕ) → length ds ≡ 3 → AllPass is_ascii_digit ds → digits_of (digits_value 10 ds) ≡ ds
of_value [] e x = absurd (omega arith)
of_value (a ∷ []) e x = absurd (omega arith)
of_value (a ∷ b ∷ []) e x = absurd (omega arith)
of_value (a ∷ b ∷ c ∷ []) e x =
    let ra = bounds a (x 0 0 (omega arith)) in
    let rb = bounds b (x 1 0 (omega arith)) in
    let rc = bounds c (x 2 0 (omega arith)) in
    three a b c _ ra rb rc (omega (arith, value_is a ra, value_is b rb, value_is c rc))
of_value (a ∷ b ∷ c ∷ d ∷ ds) e x = absurd (omega arith)

pub response_whole : (buf : List ℕ) (spans : List HeaderSpan) (r : ResponseSpans) → length spans ≤ 100
    → IsResponseWithin buf spans r → IsResponseOf buf spans r → IsResponseFound buf spans r
response_whole buf spans r room within x = record {
  within = within;
  reads = response_found buf x.0 (drop r.len buf) x.1.reads (few spans r.headers buf x.0.fields room x.1.fields)
      ∙ ap (λ l. Whole (l, map field_of_line x.0.fields) (drop r.len buf))
      (same_line (line_of_response x.0) (span_response r) (sym (ap digits_of x.1.code ∙ of_value x.0.digits x.1.reads.0.digits.0 x.1.reads.0.digits.1)) (sym x.1.version))
      ∙ ap (λ fields. Whole (span_response r, fields) (drop r.len buf)) (same_fields buf spans r.headers x.0.fields x.1.fields);
}
  where
    same_line : (a b : StatusLine) → a.status ≡ b.status → a.minor ≡ b.minor → a ≡ b
    same_line a b e f = λ i. record { status = e i; minor = f i }

pub response_open : (buf : List ℕ) → Only BadHead (head_lines status_line buf) → HasNoResponse buf → MayBecomeResponse buf → head_lines status_line buf ≡ Partial
response_open buf only none w = by (head_lines status_line buf) refl only (response_tells buf)
  where
    by : (r : Reading (StatusLine × List model.Field)) → head_lines status_line buf ≡ r → Only BadHead r → ResponseTells buf r → r ≡ Partial
    by (Whole h rest) e o t = absurd (none t.head rest t.reads)
    by Partial e o t = refl
    by (Bad f) e o t = absurd (response_never buf (e ∙ ap Bad o) w.0 w.1 [] w.2)

pub response_bad : (buf : List ℕ) → ¬ (first_line buf ≡ Partial) → Only BadHead (head_lines status_line buf) → NeverHasResponse buf → head_lines status_line buf ≡ Bad BadHead
response_bad buf begun only never = by (head_lines status_line buf) only (response_tells buf)
  where
    by : (r : Reading (StatusLine × List model.Field)) → Only BadHead r → ResponseTells buf r → r ≡ Bad BadHead
    by (Whole h rest) o t = absurd (never [] t.head rest (subst (λ b. ReadsResponse b t.head rest) (sym (append-nil buf)) t.reads))
    by Partial o (inl w) = absurd (begun w)
    by Partial o (inr w) = absurd (never w.0 w.1 [] w.2)
    by (Bad f) o t = ap Bad o

pub response_exceeded : (buf : List ℕ) (n : ℕ) → 100 ≤ n → Only BadHead (head_lines status_line buf) → ResponseExceeds n buf → head_lines status_line buf ≡ Bad BadHead
response_exceeded buf n room only x = by (head_lines status_line buf) only long
  where
    long : head_lines status_line buf ≡ Bad LongHead
    long =
        let h : ResponseHead = x.3 in
        let text = responses.status_text h.minor h.digits h.reason in
        let pre : List ℕ = print_blank h.blank ++ (text ++ print_end h.line_end) in
        let regroup : (s : List ℕ) → print_blank h.blank ++ (text ++ (print_end h.line_end ++ s)) ≡ pre ++ s =
        λ s. ap (λ t. print_blank h.blank ++ t) (sym (append_assoc text (print_end h.line_end) s)) ∙ sym (append_assoc (print_blank h.blank) (text ++ print_end h.line_end) s) in
        let front_is : x.0 ≡ pre ++ (flat_map print_field h.fields ++ cr_of h.last) =
        last_feed pre h.fields h.last x.0 (x.4.1 ∙ responses.printed h [] ∙ regroup (print_section h.fields h.last ++ [])) in
        let buf_is : buf ≡ print_blank h.blank ++ (text ++ (print_end h.line_end ++ (flat_map print_field h.fields ++ (cr_of h.last ++ x.1)))) =
        x.2 ∙ ap (λ s. s ++ x.1) front_is ∙ append_assoc pre (flat_map print_field h.fields ++ cr_of h.last) x.1
        ∙ ap (λ s. pre ++ s) (append_assoc (flat_map print_field h.fields) (cr_of h.last) x.1)
        ∙ sym (regroup (flat_map print_field h.fields ++ (cr_of h.last ++ x.1))) in
        ap (head_lines status_line) buf_is
        ∙ head_read status_line (line_of_response h) h.blank text h.line_end (flat_map print_field h.fields ++ (cr_of h.last ++ x.1)) (responses.is_first h x.4.0) (responses.line_read h x.4.0)
        ∙ ap (λ r. onward r (λ fields more. Whole (line_of_response h, fields) more)) (fields_exceed BadHead field_limit h.fields (cr_of h.last ++ x.1) x.4.0.fields (omega (arith, room, x.5)))

    by : (r : Reading (StatusLine × List model.Field)) → Only BadHead r → r ≡ Bad LongHead → r ≡ Bad BadHead
    by (Whole h rest) o e = absurd cc
    by Partial o e = absurd cc
    by (Bad f) o e = ap Bad o
