-- One response after another.
use Rattle.std.proofs.Common.{inl, inr, sym, ◌∙◌, subst, arith, length-drop}
use Rattle.std.specs.Prelude.{ℕ, ◌≡◌, ◌⊎◌, ◌<◌, ◌≤◌, List, ◌++◌, length, drop, Option, map}
use Rattle.http_model.specs.Reading.{Reading, Whole, Partial, Bad, LongHead}
use Rattle.http_model.specs.Heads.{head_limit, field_limit, head_lines, RequestLine, request_line, StatusLine, status_line}
use Rattle.http_model.proofs.Stable.{LeavesUnder, limited-leaves}
use Rattle.ext_msgs.specs.declared.lists.Field as model
use Rattle.httparse.specs.Grammar.{RequestHead, print_request, ReadsRequest, ResponseHead, print_response, ReadsResponse}
use Rattle.h1_read.specs.Agreement.{field_of_line, line_of_request, line_of_response}
use Rattle.h1_read.specs.HeadParts.{request_lines, response_lines}
use Rattle.h1_read.proofs.WholeBehind.{within_limit, IsLocal, covers, past, le_or_lt}
use Rattle.h1_read.proofs.RequestLaw.{RequestTells, request_found, request_exceeds, request_tells}
use Rattle.h1_read.proofs.ResponseLaw.{ResponseTells, response_found, response_exceeds, response_tells}
use Rattle.http_model.proofs.HeadsStable.{head_lines-leaves}

-- A head takes at least one byte

pub some_used : {A : Type 0} (parse : List ℕ → Option A) (bytes : List ℕ) (a : A × List model.Field) (used : ℕ) → used ≤ length bytes
    → within_limit (head_lines parse) bytes ≡ Whole a (drop used bytes) → 0 < used
some_used {A} parse bytes a used fits e =
    let less : length (drop used bytes) < length bytes =
    subst (LeavesUnder {A = A × List model.Field} (length bytes)) e (limited-leaves head_limit LongHead (head_lines parse) (head_lines-leaves parse) bytes) in
    omega (arith, less, fits, length-drop used bytes)

-- A head that was open is whole behind what was there

requests_local : IsLocal (head_lines request_line)
requests_local kept more rest a unfinished whole = by (subst (RequestTells (kept ++ more)) whole (request_tells (kept ++ more))) (le_or_lt (length rest) (length more))
  where
    use_head : (h : RequestHead) (left : List ℕ) → ReadsRequest kept h left → (length h.fields ≤ field_limit) ⊎ (field_limit < length h.fields) → ⊥
    use_head h left x (inl few) =
        let both : ◌≡◌ {A = Reading (RequestLine × List model.Field)} Partial (Whole (line_of_request h, map field_of_line h.fields) left) = sym unfinished ∙ request_found kept h left x few in
        absurd cc
    use_head h left x (inr many) =
        let both : ◌≡◌ {A = Reading (RequestLine × List model.Field)} Partial (Bad LongHead) = sym unfinished ∙ request_exceeds kept h left x many in
        absurd cc

    by : RequestTells (kept ++ more) (Whole a rest) → (length rest ≤ length more) ⊎ (length more < length rest) → length rest ≤ length more
    by t (inl h) = h
    by t (inr h) =
        let c = covers kept more (print_request t.head) rest t.reads.1 h in
        absurd (use_head t.head c.left (t.reads.0, c.joined) (le_or_lt (length t.head.fields) field_limit))

responses_local : IsLocal (head_lines status_line)
responses_local kept more rest a unfinished whole = by (subst (ResponseTells (kept ++ more)) whole (response_tells (kept ++ more))) (le_or_lt (length rest) (length more))
  where
    use_head : (h : ResponseHead) (left : List ℕ) → ReadsResponse kept h left → (length h.fields ≤ field_limit) ⊎ (field_limit < length h.fields) → ⊥
    use_head h left x (inl few) =
        let both : ◌≡◌ {A = Reading (StatusLine × List model.Field)} Partial (Whole (line_of_response h, map field_of_line h.fields) left) = sym unfinished ∙ response_found kept h left x few in
        absurd cc
    use_head h left x (inr many) =
        let both : ◌≡◌ {A = Reading (StatusLine × List model.Field)} Partial (Bad LongHead) = sym unfinished ∙ response_exceeds kept h left x many in
        absurd cc

    by : ResponseTells (kept ++ more) (Whole a rest) → (length rest ≤ length more) ⊎ (length more < length rest) → length rest ≤ length more
    by t (inl h) = h
    by t (inr h) =
        let c = covers kept more (print_response t.head) rest t.reads.1 h in
        absurd (use_head t.head c.left (t.reads.0, c.joined) (le_or_lt (length t.head.fields) field_limit))

pub request_past : (bytes : List ℕ) (a : RequestLine × List model.Field) (used : ℕ) → used ≤ length bytes → request_lines bytes ≡ Whole a (drop used bytes)
    → (kept more : List ℕ) → bytes ≡ kept ++ more → request_lines kept ≡ Partial → length kept ≤ used
request_past = past (head_lines request_line) requests_local

pub response_past : (bytes : List ℕ) (a : StatusLine × List model.Field) (used : ℕ) → used ≤ length bytes → response_lines bytes ≡ Whole a (drop used bytes)
    → (kept more : List ℕ) → bytes ≡ kept ++ more → response_lines kept ≡ Partial → length kept ≤ used
response_past = past (head_lines status_line) responses_local
