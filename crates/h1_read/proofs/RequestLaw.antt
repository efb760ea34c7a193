-- The request heads of the model are those of httparse's grammar.
use Rattle.std.proofs.Common.{inl, inr, sym, ◌∙◌, ap, subst, refl, arith, append_assoc, append-nil, ltb-true}
use Rattle.std.specs.Prelude.{ℕ, zero, suc, ◌≡◌, ◌⊎◌, ◌<◌, ◌≤◌, Bool, true, false, ◌&&◌, ◌||◌, not, if◌then◌else◌, List, [], ◌∷◌, ◌++◌, length, map, Option, Some, None, codes, bytes_eq, IsUtf8, ◌==◌}
use Rattle.std.specs.List.{list_all, AllByRecursion}
use Rattle.std.specs.Str.{is_utf8}
use Rattle.std.specs.Char.{is_ascii}
use Rattle.std.proofs.lemmas.Str.{IsUtf8-from_ascii, IsUtf8-from_is_utf8, is_utf8-from_IsUtf8}
use Rattle.std.proofs.lemmas.Str.Ascii.{IsAscii-from_all}
use Rattle.std.proofs.lemmas.List.Elements.{All-from_recursion}
use Rattle.http_model.specs.Bytes.{is_empty, is_token_byte, is_target_byte, is_token, split_at}
use Rattle.http_model.specs.Reading.{Reading, Whole, Partial, Bad, Fault, BadHead, LongHead, onward, Stays}
use Rattle.http_model.specs.Lines.{first_line, section}
use Rattle.http_model.specs.Heads.{field_limit, fields_behind, head_lines, RequestLine, minor_of, is_target, request_line_of, request_line}
use Rattle.ext_msgs.specs.declared.lists.Field as model
use Rattle.httparse.specs.Grammar.{is_uri_byte, AllPass, LineEnd, print_end, print_blank, print_version, print_section, ReadsSection, MayBecomeSection, RequestHead, IsRequestHead, print_request, ReadsRequest, NeverHasRequest}
use Rattle.httparse.specs.Grammar as grammar
use Rattle.httparse.specs.Spans.{RequestOverflows}
use Rattle.httparse.specs.Pieces.{Stops, is_newline}
use Rattle.httparse.proofs.PieceLemmas.{Stops_token}
use Rattle.httparse.proofs.GrammarLemmas.{print_request-append}
use Rattle.h1_read.specs.Agreement.{field_of_line, line_of_request, IsRequest, CompletesRequest, AgreesOnRequests}
use Rattle.h1_read.proofs.LineParts.{Lacks, Lacks-append, Lacks-pass, passing, split_at-first, split_at-joined}
use Rattle.h1_read.proofs.FieldText.{Tokens, tokens_of, all_tokens}
use Rattle.h1_read.proofs.SectionLaw.{section_found, section_exceeds, section_tells, Tells, few_or_many}
use Rattle.h1_read.proofs.HeadLaw.{and_first, and_second, and_both, bytes_same, all_true, from_all_true, some_byte, from_some_byte, with_first, IsFirst, head_read, HasLine, by_head_line}
use Rattle.http_model.proofs.HeadsStable.{head_lines-stays}

-- Versions

pub version_lacks : (c : ℕ) → Lacks c (print_version 0) → Lacks c (print_version 1) → (minor : ℕ) → minor ≤ 1 → Lacks c (print_version minor)
version_lacks c x y zero h = x
version_lacks c x y (suc zero) h = y
version_lacks c x y (suc (suc n)) h = absurd (omega arith)

pub minor_of-version : (minor : ℕ) → minor ≤ 1 → minor_of (print_version minor) ≡ Some minor
minor_of-version zero h = refl
minor_of-version (suc zero) h = refl
minor_of-version (suc (suc n)) h = absurd (omega arith)

pub version_back : (v : List ℕ) (k : ℕ) → minor_of v ≡ Some k → (v ≡ print_version k) × (k ≤ 1)
version_back v k = by (bytes_eq v (codes "HTTP/1.1")) (bytes_eq v (codes "HTTP/1.0")) refl refl
  where
    same : (n : ℕ) → ◌≡◌ {A = Option ℕ} (Some n) (Some k) → n ≡ k
    same n e = cc

    by : (x y : Bool) → bytes_eq v (codes "HTTP/1.1") ≡ x → bytes_eq v (codes "HTTP/1.0") ≡ y
        → ◌≡◌ {A = Option ℕ} (if x then Some 1 else (if y then Some 0 else None)) (Some k) → (v ≡ print_version k) × (k ≤ 1)
    by true y e f g = let h : 1 ≡ k = same 1 g in (bytes_same v (codes "HTTP/1.1") e ∙ ap print_version h, omega arith)
    by false true e f g = let h : 0 ≡ k = same 0 g in (bytes_same v (codes "HTTP/1.0") f ∙ ap print_version h, omega arith)
    by false false e f g = absurd cc

-- Request lines

abbrev pub request_text : List ℕ → List ℕ → ℕ → List ℕ
request_text method target minor = method ++ 32 ∷ (target ++ 32 ∷ print_version minor)

tokens_true : (s : List ℕ) → 0 < length s → Tokens s → is_token s ≡ true
tokens_true s h x = and_both (not (is_empty s)) (list_all is_token_byte s) (some_byte s h) (all_true is_token_byte s x)

or_second : (a b : Bool) → b ≡ true → (a || b) ≡ true
or_second true b e = refl
or_second false b e = e

target_true : (s : List ℕ) → 0 < length s → AllByRecursion (λ b. is_target_byte b ≡ true) s → IsUtf8 s → is_target s ≡ true
target_true s h x u =
    and_both (not (is_empty s) && list_all is_target_byte s) (list_all is_ascii s || is_utf8 s)
    (and_both (not (is_empty s)) (list_all is_target_byte s) (some_byte s h) (all_true is_target_byte s x))
    (or_second (list_all is_ascii s) (is_utf8 s) (is_utf8-from_IsUtf8 s u))

below : (s : List ℕ) → AllByRecursion (λ b. is_ascii b ≡ true) s → AllByRecursion (λ b. b < 128) s
below [] x = tt
below (b ∷ s) x = (ltb-true b 128 x.0, below s x.1)

text_utf8 : (s : List ℕ) → (list_all is_ascii s || is_utf8 s) ≡ true → IsUtf8 s
text_utf8 s e = by (list_all is_ascii s) (is_utf8 s) refl refl e
  where
    by : (x y : Bool) → list_all is_ascii s ≡ x → is_utf8 s ≡ y → (x || y) ≡ true → IsUtf8 s
    by true y f g h = IsUtf8-from_ascii s (IsAscii-from_all s (All-from_recursion (λ b. b < 128) s (below s (from_all_true is_ascii s f))))
    by false true f g h = IsUtf8-from_is_utf8 s g
    by false false f g h = absurd cc

target_lacks : (c : ℕ) → is_target_byte c ≡ false → (s : List ℕ) → AllPass is_uri_byte s → Lacks c s
target_lacks c e s x = Lacks-pass is_target_byte c e s (passing is_uri_byte s x)

pub line_read : (h : RequestHead) → IsRequestHead h → request_line (request_text h.method h.target h.minor) ≡ Some (line_of_request h)
unfolding request_line
line_read h x =
    ap by_words (split_at-first 32 h.method (h.target ++ 32 ∷ print_version h.minor) (Lacks-pass is_token_byte 32 refl h.method (tokens_of h.method x.method.1)))
    ∙ ap (by_others h.method) (split_at-first 32 h.target (print_version h.minor) (target_lacks 32 refl h.target x.target.1))
    ∙ ap (request_line_of h.method h.target) (minor_of-version h.minor x.minor)
    ∙ ap (λ t. if t then Some (line_of_request h) else None)
    (and_both (is_token h.method) (is_target h.target)
    (tokens_true h.method x.method.0 (tokens_of h.method x.method.1))
    (target_true h.target x.target.0 (passing is_uri_byte h.target x.target.1) x.target_text))
  where
    by_others : List ℕ → List ℕ × List ℕ → Option RequestLine
    by_others method others = request_line_of method others.0 (minor_of others.1)

    by_words : List ℕ × List ℕ → Option RequestLine
    by_words words = by_others words.0 (split_at 32 words.1)

-- what a line that is read holds
pub record IsRequestText (t : List ℕ) (l : RequestLine) : Type 0 where
  pub joined : t ≡ request_text l.method l.target l.minor
  pub some_method : 0 < length l.method
  pub method : Tokens l.method
  pub some_target : 0 < length l.target
  pub target : AllByRecursion (λ b. is_target_byte b ≡ true) l.target
  pub target_text : IsUtf8 l.target
  pub minor : l.minor ≤ 1

record IsOf (m t : List ℕ) (v : Option ℕ) (l : RequestLine) : Type 0 where
  method : m ≡ l.method
  target : t ≡ l.target
  version : v ≡ Some l.minor
  is_method : is_token m ≡ true
  is_path : is_target t ≡ true

of_parts : (m t : List ℕ) (v : Option ℕ) (l : RequestLine) → request_line_of m t v ≡ Some l → IsOf m t v l
of_parts m t None l e = absurd cc
of_parts m t (Some minor) l e = by (is_token m && is_target t) refl e
  where
    same : (a b : RequestLine) → ◌≡◌ {A = Option RequestLine} (Some a) (Some b) → a ≡ b
    same a b e = cc

    by : (b : Bool) → (is_token m && is_target t) ≡ b → ◌≡◌ {A = Option RequestLine} (if b then Some (record { method = m; target = t; minor = minor }) else None) (Some l) → IsOf m t (Some minor) l
    by true f g =
        let is : record { method = m; target = t; minor = minor } ≡ l = same (record { method = m; target = t; minor = minor }) l g in
        record {
          method = ap (λ (r : RequestLine). r.method) is;
          target = ap (λ (r : RequestLine). r.target) is;
          version = ap (λ (r : RequestLine). Some r.minor) is;
          is_method = and_first (is_token m) (is_target t) f;
          is_path = and_second (is_token m) (is_target t) f;
        }
    by false f g = absurd cc

some_version : (minor : ℕ) → print_version minor ≡ [] → ⊥
some_version minor e = cc

pub line_back : (t : List ℕ) (l : RequestLine) → request_line t ≡ Some l → IsRequestText t l
unfolding request_line
line_back t l e =
    let w : IsOf (split_at 32 t).0 (split_at 32 (split_at 32 t).1).0 (minor_of (split_at 32 (split_at 32 t).1).1) l =
    of_parts (split_at 32 t).0 (split_at 32 (split_at 32 t).1).0 (minor_of (split_at 32 (split_at 32 t).1).1) l e in
    let v = version_back (split_at 32 (split_at 32 t).1).1 l.minor w.version in
    let method_ok : is_token l.method ≡ true = ap is_token (sym w.method) ∙ w.is_method in
    let path_ok : is_target l.target ≡ true = ap is_target (sym w.target) ∙ w.is_path in
    let path_bytes = and_first (not (is_empty l.target) && list_all is_target_byte l.target) (list_all is_ascii l.target || is_utf8 l.target) path_ok in
    record {
      joined = joined (split_at 32 t).0 (split_at 32 t).1 w v.0 (split_at-joined 32 t) (split_at-joined 32 (split_at 32 t).1);
      some_method = from_some_byte l.method (and_first (not (is_empty l.method)) (list_all is_token_byte l.method) method_ok);
      method = from_all_true is_token_byte l.method (and_second (not (is_empty l.method)) (list_all is_token_byte l.method) method_ok);
      some_target = from_some_byte l.target (and_first (not (is_empty l.target)) (list_all is_target_byte l.target) path_bytes);
      target = from_all_true is_target_byte l.target (and_second (not (is_empty l.target)) (list_all is_target_byte l.target) path_bytes);
      target_text = text_utf8 l.target (and_second (not (is_empty l.target) && list_all is_target_byte l.target) (list_all is_ascii l.target || is_utf8 l.target) path_ok);
      minor = v.1;
    }
  where
    joined : (m behind : List ℕ) → IsOf m (split_at 32 behind).0 (minor_of (split_at 32 behind).1) l → (split_at 32 behind).1 ≡ print_version l.minor
        → (t ≡ m ++ 32 ∷ behind) ⊎ (behind ≡ []) → (behind ≡ (split_at 32 behind).0 ++ 32 ∷ (split_at 32 behind).1) ⊎ ((split_at 32 behind).1 ≡ [])
        → t ≡ request_text l.method l.target l.minor
    joined m behind w v first (inr f) = absurd (some_version l.minor (sym v ∙ f))
    joined m behind w v (inr e) (inl f) = absurd (some_version l.minor (sym v ∙ ap (λ s. (split_at 32 s).1) e))
    joined m behind w v (inl e) (inl f) =
        e ∙ ap (λ s. m ++ 32 ∷ s) f
        ∙ ap (λ s. s ++ 32 ∷ ((split_at 32 behind).0 ++ 32 ∷ (split_at 32 behind).1)) w.method
        ∙ ap (λ s. l.method ++ 32 ∷ (s ++ 32 ∷ (split_at 32 behind).1)) w.target
        ∙ ap (λ s. l.method ++ 32 ∷ (l.target ++ 32 ∷ s)) v

-- The whole

pub printed : (h : RequestHead) (rest : List ℕ) → print_request h ++ rest
    ≡ print_blank h.blank ++ (request_text h.method h.target h.minor ++ (print_end h.line_end ++ (print_section h.fields h.last ++ rest)))
printed h rest =
    print_request-append h rest
    ∙ ap (λ s. print_blank h.blank ++ s) (regroup h.method h.target (print_version h.minor) (print_end h.line_end ++ (print_section h.fields h.last ++ rest)))
  where
    cons-append : (x : ℕ) (a b : List ℕ) → (x ∷ a) ++ b ≡ x ∷ (a ++ b)
    cons-append x a b = refl

    regroup : (m t v s : List ℕ) → m ++ 32 ∷ (t ++ 32 ∷ (v ++ s)) ≡ (m ++ 32 ∷ (t ++ 32 ∷ v)) ++ s
    regroup m t v s = simp (append_assoc, cons-append) refl

pub is_first : (h : RequestHead) → IsRequestHead h → IsFirst (request_text h.method h.target h.minor)
is_first h x = record {
  starts = λ s. subst (Stops is_newline) (sym (append_assoc h.method (32 ∷ (h.target ++ 32 ∷ print_version h.minor)) s))
      (Stops_token h.method ((32 ∷ (h.target ++ 32 ∷ print_version h.minor)) ++ s) x.method.0 x.method.1);
  no_lf = lacks 10 refl refl (refl) (version_lacks 10 (refl, (refl, (refl, (refl, (refl, (refl, (refl, (refl, tt)))))))) (refl, (refl, (refl, (refl, (refl, (refl, (refl, (refl, tt)))))))) h.minor x.minor);
  no_cr = lacks 13 refl refl (refl) (version_lacks 13 (refl, (refl, (refl, (refl, (refl, (refl, (refl, (refl, tt)))))))) (refl, (refl, (refl, (refl, (refl, (refl, (refl, (refl, tt)))))))) h.minor x.minor);
}
  where
    lacks : (c : ℕ) → is_token_byte c ≡ false → is_target_byte c ≡ false → (32 == c) ≡ false → Lacks c (print_version h.minor) → Lacks c (request_text h.method h.target h.minor)
    lacks c e f g v =
        Lacks-append c h.method (32 ∷ (h.target ++ 32 ∷ print_version h.minor)) (Lacks-pass is_token_byte c e h.method (tokens_of h.method x.method.1))
        (g, Lacks-append c h.target (32 ∷ print_version h.minor) (target_lacks c f h.target x.target.1) (g, v))

head_at : (bytes : List ℕ) (h : RequestHead) (rest : List ℕ) → ReadsRequest bytes h rest
    → head_lines request_line bytes ≡ with_first (line_of_request h) (print_section h.fields h.last ++ rest)
head_at bytes h rest x =
    ap (head_lines request_line) (x.1 ∙ printed h rest)
    ∙ head_read request_line (line_of_request h) h.blank (request_text h.method h.target h.minor) h.line_end (print_section h.fields h.last ++ rest) (is_first h x.0) (line_read h x.0)

pub request_found : (bytes : List ℕ) (h : RequestHead) (rest : List ℕ) → ReadsRequest bytes h rest → length h.fields ≤ field_limit
    → head_lines request_line bytes ≡ Whole (line_of_request h, map field_of_line h.fields) rest
request_found bytes h rest x few =
    head_at bytes h rest x
    ∙ ap (λ r. onward r (λ fields more. Whole (line_of_request h, fields) more))
    (section_found BadHead field_limit (print_section h.fields h.last ++ rest) h.fields h.last rest (x.0.fields, refl) few)

pub request_exceeds : (bytes : List ℕ) (h : RequestHead) (rest : List ℕ) → ReadsRequest bytes h rest → field_limit < length h.fields
    → head_lines request_line bytes ≡ Bad LongHead
request_exceeds bytes h rest x many =
    head_at bytes h rest x
    ∙ ap (λ r. onward r (λ fields more. Whole (line_of_request h, fields) more))
    (section_exceeds BadHead field_limit (print_section h.fields h.last ++ rest) h.fields h.last rest (x.0.fields, refl) many)

abbrev pub RequestTells : List ℕ → Reading (RequestLine × List model.Field) → Type 0
RequestTells bytes (Whole h rest) = IsRequest bytes h.0 h.1 rest
RequestTells bytes Partial = (first_line bytes ≡ Partial) ⊎ CompletesRequest bytes
RequestTells bytes (Bad f) = Unit {0}

-- a head of these parts
abbrev head_of : List LineEnd → RequestLine → LineEnd → List grammar.Field → LineEnd → RequestHead
head_of blank l end fields last =
    record { blank = blank; method = l.method; target = l.target; minor = l.minor; line_end = end; fields = fields; last = last }

pub request_tells : (bytes : List ℕ) → RequestTells bytes (head_lines request_line bytes)
request_tells bytes = by (by_head_line request_line bytes)
  where
    reads : (t more rest : List ℕ) (w : HasLine request_line bytes) (l : RequestLine) → IsRequestText w.text l → (fields : List grammar.Field) (last : LineEnd)
        → ReadsSection (w.rest ++ more) fields last rest → ReadsRequest (bytes ++ more) (head_of w.blank l w.end fields last) rest
    reads t more rest w l x fields last s = (
      record {
        method = (x.some_method, all_tokens l.method x.method);
        target = (x.some_target, All-from_recursion (λ b. is_target_byte b ≡ true) l.target x.target);
        target_text = x.target_text;
        minor = x.minor;
        fields = s.0;
      },
      ap (λ b. b ++ more) w.joined
          ∙ append_assoc (print_blank w.blank) (w.text ++ (print_end w.end ++ w.rest)) more
          ∙ ap (λ b. print_blank w.blank ++ b) (append_assoc w.text (print_end w.end ++ w.rest) more)
          ∙ ap (λ b. print_blank w.blank ++ (w.text ++ b)) (append_assoc (print_end w.end) w.rest more)
          ∙ ap (λ b. print_blank w.blank ++ (w.text ++ (print_end w.end ++ b))) s.1
          ∙ ap (λ b. print_blank w.blank ++ (b ++ (print_end w.end ++ (print_section fields last ++ rest)))) x.joined
          ∙ sym (printed (head_of w.blank l w.end fields last) rest),
    )

    by_section : (w : HasLine request_line bytes) (l : RequestLine) → IsRequestText w.text l → (r : Reading (List model.Field)) → Tells w.rest r
        → RequestTells bytes (onward r (λ fields more. Whole (l, fields) more))
    by_section w l x (Whole fields rest) s = record {
      head = head_of w.blank l w.end s.fields s.last;
      reads = subst (λ b. ReadsRequest b (head_of w.blank l w.end s.fields s.last) rest) (append-nil bytes)
          (reads bytes [] rest w l x s.fields s.last (subst (λ b. ReadsSection b s.fields s.last rest) (sym (append-nil w.rest)) s.reads));
      first = refl;
      same = s.same;
    }
    by_section w l x Partial s = inr (s.0, head_of w.blank l w.end s.1 s.2, reads bytes s.0 [] w l x s.1 s.2 s.3)
    by_section w l x (Bad f) s = tt

    by_line : (w : HasLine request_line bytes) (o : Option RequestLine) → request_line w.text ≡ o → RequestTells bytes (fields_behind o w.rest)
    by_line w None e = tt
    by_line w (Some l) e = by_section w l (line_back w.text l e) (section BadHead field_limit w.rest) (section_tells BadHead field_limit w.rest)

    by : HasLine request_line bytes ⊎ ((first_line bytes ≡ Partial) × (head_lines request_line bytes ≡ Partial)) → RequestTells bytes (head_lines request_line bytes)
    by (inl w) = subst (RequestTells bytes) (sym w.read) (by_line w (request_line w.text) refl)
    by (inr w) = subst (RequestTells bytes) (sym w.1) (inl w.0)

stays_bad : (bytes more : List ℕ) (f : Fault) → head_lines request_line bytes ≡ Bad f → head_lines request_line (bytes ++ more) ≡ Bad f
stays_bad bytes more f e = subst (λ r. Stays r more (head_lines request_line (bytes ++ more))) e (head_lines-stays request_line bytes more)

pub request_never : (bytes : List ℕ) → head_lines request_line bytes ≡ Bad BadHead → NeverHasRequest bytes
request_never bytes e more h rest x = by (few_or_many field_limit (length h.fields))
  where
    by : (length h.fields ≤ field_limit) ⊎ (field_limit < length h.fields) → ⊥
    by (inl few) =
        let both : ◌≡◌ {A = Reading (RequestLine × List model.Field)} (Bad BadHead) (Whole (line_of_request h, map field_of_line h.fields) rest) = sym (stays_bad bytes more BadHead e) ∙ request_found (bytes ++ more) h rest x few in
        absurd cc
    by (inr many) =
        let both : ◌≡◌ {A = Reading (RequestLine × List model.Field)} (Bad BadHead) (Bad LongHead) = sym (stays_bad bytes more BadHead e) ∙ request_exceeds (bytes ++ more) h rest x many in
        absurd cc

pub request_long : (bytes : List ℕ) → head_lines request_line bytes ≡ Bad LongHead → RequestOverflows field_limit bytes
request_long bytes e more h rest x = by (few_or_many field_limit (length h.fields))
  where
    by : (length h.fields ≤ field_limit) ⊎ (field_limit < length h.fields) → field_limit < length h.fields
    by (inl few) =
        let both : ◌≡◌ {A = Reading (RequestLine × List model.Field)} (Bad LongHead) (Whole (line_of_request h, map field_of_line h.fields) rest) = sym (stays_bad bytes more LongHead e) ∙ request_found (bytes ++ more) h rest x few in
        absurd cc
    by (inr many) = many

pub requests_agree : AgreesOnRequests
requests_agree = record {
  found = request_found;
  whole = λ bytes line shown rest e. subst (RequestTells bytes) e (request_tells bytes);
  partial = λ bytes e. subst (RequestTells bytes) e (request_tells bytes);
  never = request_never;
  long = request_long;
}
