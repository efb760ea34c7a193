-- The head of a request that was written is read back.
use Rattle.std.proofs.Common.{sym, ◌∙◌, ap, subst, refl, arith, append_assoc, append-nil, eqb-true, lt-ltb, leb-true, le-leb, ne_eqb}
use Rattle.std.specs.Prelude.{ℕ, ◌≡◌, ◌^◌, ◌<◌, ◌≤◌, Bool, true, false, not, ◌&&◌, ◌||◌, if◌then◌else◌, List, [], ◌∷◌, ◌++◌, length, map, ◌==◌, nat_lt, nat_le, Option, Some, None, is_none, codes, bytes_eq, decimal}
use Rattle.std.specs.List.{list_all, list_any, AllByRecursion}
use Rattle.std.specs.Char.{is_ascii_digit}
use Rattle.ext_msgs.specs.declared.lists.Field.{Field}
use Rattle.httparse.specs.Grammar as grammar
use Rattle.httparse.specs.Pieces.{Stops, is_newline}
use Rattle.http_model.specs.Bytes.{is_empty, is_token_byte, is_value_byte, is_visible, crlf, lower, begins_with, split_at, field, values_of, without}
use Rattle.http_model.specs.Reading.{Reading, Whole, Partial, Bad, Fault, BadHead, LongHead, BadLength, Version, Method, onward, limited}
use Rattle.http_model.specs.Lines.{section}
use Rattle.http_model.specs.Heads.{head_limit, field_limit, fields_behind, head_lines, RequestLine, request_line, request_line_of, minor_of, is_target, target_parts, has_one_host, request_parts, first_fault, request_fault, stated_length, Head, or_none, first_part, second_part, is_owed_interim, is_bodiless, request_head, unless, request_of, request_message, shown_fields}
use Rattle.http_model.specs.Wire.{field_line, field_lines, framing_field, head_bytes}
use Rattle.http_model.specs.declared.types.Direction.TheVariants.{Request}
use Rattle.http_model.specs.declared.types.Framing.{Framing}
use Rattle.http_model.specs.declared.types.Framing.TheVariants as framing
use Rattle.http_model.specs.declared.types.Length.{Length}
use Rattle.http_model.specs.declared.types.Length.TheVariants as length
use Rattle.h1_read.specs.Written.{given, is_writable, is_readable, is_other, is_high, others, method_of, path_of, authority_of, IsRequestHead, IsAcceptedRequest, IsLength, request_fields, Fits, framing_fields, common_fields, given_length, request_length, given_request}
use Rattle.h1_read.proofs.LineParts.{Lacks, Lacks-append, Lacks-pass, split_at-first}
use Rattle.h1_read.proofs.HeadLaw.{IsFirst, and_first, and_second, and_both, from_all_true, from_some_byte, first_parsed, bytes_same}
use Rattle.h1_read.proofs.Kept.{Found, found_within}
use Rattle.h1_read.proofs.WrittenSections.{section_written, written_given, written_whole}
use Rattle.h1_read.proofs.WrittenBodies.{limited_whole}
use Rattle.h1_read.proofs.WrittenFields.{Owns, others_own, others_writable, behind_fields, behind_given, map-append, weaker, decimal_digits, high_kept, framed_length, stated, request_shown, expectations, hosts}
use Rattle.http_model.proofs.HeadsStable.{head_lines-stays}

-- The bytes of the head

pub field_lines-append : (xs ys : List Field) → field_lines (xs ++ ys) ≡ field_lines xs ++ field_lines ys
field_lines-append [] ys = refl
field_lines-append (f ∷ xs) ys = ap (λ l. field_line f.name f.value ++ l) (field_lines-append xs ys) ∙ sym (append_assoc (field_line f.name f.value) (field_lines xs) (field_lines ys))

framing_lines : (f : Framing) → framing_field f ≡ field_lines (framing_fields f)
framing_lines framing.NoField = refl
framing_lines (framing.Length n) = sym (append-nil (framing_field (framing.Length n)))
framing_lines framing.Chunked = refl

pub common_lines : (head : List Field) (f : Framing)
    → field_lines (common_fields head f) ≡ field_lines (others head) ++ (framing_field f ++ field_line (codes "connection") (codes "close"))
common_lines head f =
    field_lines-append (others head) (framing_fields f ++ field (codes "connection") (codes "close") ∷ [])
    ∙ ap (λ l. field_lines (others head) ++ l) (field_lines-append (framing_fields f) (field (codes "connection") (codes "close") ∷ []))
    ∙ ap (λ l. field_lines (others head) ++ (l ++ field_line (codes "connection") (codes "close"))) (sym (framing_lines f))

abbrev line_text : List ℕ → List ℕ → List ℕ
line_text method path = method ++ 32 ∷ (path ++ 32 ∷ codes "HTTP/1.1")

parted : (head : List Field) (f : Framing) (rest : List ℕ)
    → head_bytes Request head f ++ rest ≡ line_text (method_of head) (path_of head) ++ (13 ∷ 10 ∷ (field_lines (request_fields head f) ++ (crlf ++ rest)))
unfolding head_bytes
parted head f rest =
    regroup (method_of head) (32 ∷ []) (path_of head) (32 ∷ codes "HTTP/1.1") (field_line (codes "host") (authority_of head)) (field_lines (others head))
    (framing_field f) (field_line (codes "connection") (codes "close")) rest
    ∙ ap (λ l. line_text (method_of head) (path_of head) ++ (13 ∷ 10 ∷ ((field_line (codes "host") (authority_of head) ++ l) ++ (crlf ++ rest)))) (sym (common_lines head f))
  where
    regroup : (m sp p t l o g c r : List ℕ)
        → ((m ++ sp ++ p ++ (t ++ crlf) ++ l) ++ o ++ g ++ c ++ crlf) ++ r ≡ (m ++ (sp ++ (p ++ t))) ++ (crlf ++ ((l ++ (o ++ (g ++ c))) ++ (crlf ++ r)))
    regroup m sp p t l o g c r = simp append_assoc

-- The first line

high_lacks : (c : ℕ) → nat_lt 32 c ≡ false → (v : List ℕ) → is_high v ≡ true → Lacks c v
high_lacks c e v h = Lacks-pass (nat_lt 32) c e v (from_all_true (nat_lt 32) v h)

module _ (head : List Field) (x : IsRequestHead head) where
  tokens : AllByRecursion (λ b. is_token_byte b ≡ true) (method_of head)
  tokens = from_all_true is_token_byte (method_of head) (and_second (not (is_empty (method_of head))) (list_all is_token_byte (method_of head)) x.method)

  text_lacks : (c : ℕ) → is_token_byte c ≡ false → (32 == c) ≡ false → nat_lt 32 c ≡ false → Lacks c (codes "HTTP/1.1") → Lacks c (line_text (method_of head) (path_of head))
  text_lacks c e g h v =
      Lacks-append c (method_of head) (32 ∷ (path_of head ++ 32 ∷ codes "HTTP/1.1")) (Lacks-pass is_token_byte c e (method_of head) tokens)
      (g, Lacks-append c (path_of head) (32 ∷ codes "HTTP/1.1") (high_lacks c h (path_of head) x.high_path) (g, v))

  first : IsFirst (line_text (method_of head) (path_of head))
  first = record {
    starts = λ s. starts_so (method_of head) (from_some_byte (method_of head) (and_first (not (is_empty (method_of head))) (list_all is_token_byte (method_of head)) x.method)) tokens s;
    no_lf = text_lacks 10 refl refl refl (refl, (refl, (refl, (refl, (refl, (refl, (refl, (refl, tt))))))));
    no_cr = text_lacks 13 refl refl refl (refl, (refl, (refl, (refl, (refl, (refl, (refl, (refl, tt))))))));
  }
    where
      starts_so : (m : List ℕ) → 0 < length m → AllByRecursion (λ b. is_token_byte b ≡ true) m → (s : List ℕ) → Stops is_newline ((m ++ 32 ∷ (path_of head ++ 32 ∷ codes "HTTP/1.1")) ++ s)
      starts_so [] h y s = absurd (none h)
        where
          none : 0 < 0 → ⊥
          none h = omega (arith, h)
      starts_so (b ∷ m) h y s = by (b == 13) (b == 10) (Lacks-pass is_token_byte 13 refl (b ∷ []) (y.0, tt)).0 (Lacks-pass is_token_byte 10 refl (b ∷ []) (y.0, tt)).0
        where
          by : (u v : Bool) → u ≡ false → v ≡ false → (u || v) ≡ false
          by true v e f = absurd cc
          by false true e f = absurd cc
          by false false e f = refl

  line_is : request_line (line_text (method_of head) (path_of head)) ≡ request_line_of (method_of head) (path_of head) (Some 1)
  unfolding request_line
  line_is =
      ap (λ w. request_line_of w.0 (split_at 32 w.1).0 (minor_of (split_at 32 w.1).1))
      (split_at-first 32 (method_of head) (path_of head ++ 32 ∷ codes "HTTP/1.1") (Lacks-pass is_token_byte 32 refl (method_of head) tokens))
      ∙ ap (λ w. request_line_of (method_of head) w.0 (minor_of w.1))
      (split_at-first 32 (path_of head) (codes "HTTP/1.1") (high_lacks 32 refl (path_of head) x.high_path))

-- What is read of the head

abbrev the_line : List Field → RequestLine
the_line head = record { method = method_of head; target = path_of head; minor = 1 }

read_head : (head : List Field) → IsRequestHead head → (f : Framing) (rest : List ℕ)
    → head_lines request_line (head_bytes Request head f ++ rest)
    ≡ fields_behind (if is_target (path_of head) then Some (the_line head) else None) (field_lines (request_fields head f) ++ (crlf ++ rest))
read_head head x f rest =
    let behind : List ℕ = field_lines (request_fields head f) ++ (crlf ++ rest) in
    ap (head_lines request_line) (parted head f rest)
    ∙ first_parsed request_line [] (line_text (method_of head) (path_of head)) grammar.crlf behind (first head x)
    ∙ ap (λ o. fields_behind o behind) (line_is head x)
    ∙ ap (λ c. fields_behind (if c && is_target (path_of head) then Some (the_line head) else None) behind) x.method

-- the fields of what was written, as they are read
abbrev the_fields : List Field → Framing → List Field
the_fields head f = field (codes "host") (authority_of head) ∷ (map given (others head) ++ behind_fields f)

fields_are : (head : List Field) → IsRequestHead head → (f : Framing) → Fits f → map given (request_fields head f) ≡ the_fields head f
fields_are head x f h =
    ap (λ v. field (codes "host") v ∷ map given (common_fields head f)) (high_kept (authority_of head) x.high_authority)
    ∙ ap (λ l. field (codes "host") (authority_of head) ∷ l) (map-append given (others head) (behind_fields f) ∙ ap (λ l. map given (others head) ++ l) (behind_given f h))

-- where a test fails at CR and LF, what passes it is on one line
no_line_byte : (test : ℕ → Bool) → test 13 ≡ false → test 10 ≡ false → (b : ℕ) → test b ≡ true → not (b == 13 || b == 10) ≡ true
no_line_byte test cr lf b e = by (b == 13) refl (b == 10) refl
  where
    apart : ◌≡◌ {A = Bool} true false → ⊥
    apart e = cc

    by : (u : Bool) → (b == 13) ≡ u → (v : Bool) → (b == 10) ≡ v → not (u || v) ≡ true
    by true g v k = absurd (apart (sym e ∙ ap test (eqb-true b 13 g) ∙ cr))
    by false g true k = absurd (apart (sym e ∙ ap test (eqb-true b 10 k) ∙ lf))
    by false g false k = refl

host_writable : (a : List ℕ) → is_high a ≡ true → is_writable (field (codes "host") a) ≡ true
host_writable a e = weaker (nat_lt 32) (λ b. not (b == 13 || b == 10)) (no_line_byte (nat_lt 32) refl refl) a e

behind_writable : (f : Framing) → Fits f → list_all is_writable (behind_fields f) ≡ true
behind_writable framing.NoField h = refl
behind_writable (framing.Length n) h =
    ap (λ c. c && true) (weaker is_ascii_digit (λ b. not (b == 13 || b == 10)) (no_line_byte is_ascii_digit refl refl) (decimal n) (decimal_digits n h))
behind_writable framing.Chunked h = refl

all-append : (p : Field → Bool) (xs ys : List Field) → list_all p xs ≡ true → list_all p ys ≡ true → list_all p (xs ++ ys) ≡ true
all-append p [] ys e g = g
all-append p (x ∷ xs) ys e g = and_both (p x) (list_all p (xs ++ ys)) (and_first (p x) (list_all p xs) e) (all-append p xs ys (and_second (p x) (list_all p xs) e) g)

pub common_writable : (head : List Field) (f : Framing) → Fits f → list_all is_other (others head) ≡ true → list_all is_writable (common_fields head f) ≡ true
common_writable head f h e = all-append is_writable (others head) (behind_fields f) (others_writable (others head) e) (behind_writable f h)

-- what is read, where it is
record ReadHead (head : List Field) (f : Framing) (line : RequestLine) (fields : List Field) (rest others : List ℕ) : Type 0 where
  line_same : line ≡ the_line head
  fields_same : fields ≡ the_fields head f
  rest_same : others ≡ rest

head_given : (head : List Field) → IsRequestHead head → (f : Framing) → Fits f → (rest : List ℕ) (line : RequestLine) (fields : List Field) (others : List ℕ)
    → head_lines request_line (head_bytes Request head f ++ rest) ≡ Whole (line, fields) others → ReadHead head f line fields rest others
head_given head x f h rest line fields more e = by (is_target (path_of head)) (sym (read_head head x f rest) ∙ e)
  where
    writable : list_all is_writable (request_fields head f) ≡ true
    writable = and_both (is_writable (field (codes "host") (authority_of head))) (list_all is_writable (common_fields head f))
        (host_writable (authority_of head) x.high_authority) (common_writable head f h x.others)

    behind : List ℕ
    behind = field_lines (request_fields head f) ++ (crlf ++ rest)

    in_section : (r : Reading (List Field)) → section BadHead field_limit behind ≡ r
        → onward {B = RequestLine × List Field} r (λ fs left. Whole (the_line head, fs) left) ≡ Whole (line, fields) more → ReadHead head f line fields rest more
    in_section (Whole fs left) g k =
        let same = written_given BadHead field_limit (request_fields head f) rest fs left (sym (section_written BadHead field_limit (request_fields head f) rest writable) ∙ g) in
        let lines : the_line head ≡ line = ap (λ r. line_of r) k in
        let shown : fs ≡ fields = ap (λ r. fields_of r) k in
        let others_same : left ≡ more = ap (λ r. rest_of r) k in
        record {
          line_same = sym lines;
          fields_same = sym shown ∙ sym same.0 ∙ fields_are head x f h;
          rest_same = sym others_same ∙ sym same.1;
        }
      where
        line_of : Reading (RequestLine × List Field) → RequestLine
        line_of (Whole p l) = p.0
        line_of Partial = line
        line_of (Bad b) = line

        fields_of : Reading (RequestLine × List Field) → List Field
        fields_of (Whole p l) = p.1
        fields_of Partial = fields
        fields_of (Bad b) = fields

        rest_of : Reading (RequestLine × List Field) → List ℕ
        rest_of (Whole p l) = l
        rest_of Partial = more
        rest_of (Bad b) = more
    in_section Partial g k = absurd cc
    in_section (Bad b) g k = absurd cc

    by : (c : Bool) → fields_behind (if c then Some (the_line head) else None) behind ≡ Whole (line, fields) more → ReadHead head f line fields rest more
    by true k = in_section (section BadHead field_limit behind) refl k
    by false k = absurd cc

-- What the head says

-- each test fails
no_fault : (tests : List (Bool × Fault)) → first_fault tests ≡ None → AllByRecursion (λ (t : Bool × Fault). t.0 ≡ false) tests
no_fault [] e = tt
no_fault (t ∷ tests) e = by t.0 refl (no_fault tests) e
  where
    by : (c : Bool) → t.0 ≡ c → (first_fault tests ≡ None → AllByRecursion (λ (s : Bool × Fault). s.0 ≡ false) tests)
        → ◌≡◌ {A = Option Fault} (if c then Some t.1 else first_fault tests) None → (t.0 ≡ false) × AllByRecursion (λ (s : Bool × Fault). s.0 ≡ false) tests
    by true g k e = absurd cc
    by false g k e = (g, k e)

-- and the other way round
pub faultless : (tests : List (Bool × Fault)) → AllByRecursion (λ (t : Bool × Fault). t.0 ≡ false) tests → first_fault tests ≡ None
faultless [] x = refl
faultless (t ∷ tests) x = ap (λ c. if c then Some t.1 else first_fault tests) x.0 ∙ faultless tests x.1

-- a path, or `*`
known_target : (method host path : List ℕ) → (begins_with (codes "/") path || bytes_eq path (codes "*")) ≡ true
    → target_parts method host path ≡ (if begins_with (codes "/") path || bytes_eq method (codes "OPTIONS") then Some (host, path) else None)
unfolding target_parts
known_target method host [] e = absurd cc
known_target method host (b ∷ path) e = by (47 == b) refl e
  where
    slash : target_parts method host (47 ∷ path) ≡ Some (host, 47 ∷ path)
    slash = refl

    star : (p : List ℕ) → p ≡ codes "*" → target_parts method host p ≡ (if begins_with (codes "/") p || bytes_eq method (codes "OPTIONS") then Some (host, p) else None)
    star p e = subst (λ q. target_parts method host q ≡ (if begins_with (codes "/") q || bytes_eq method (codes "OPTIONS") then Some (host, q) else None)) (sym e) refl

    by : (c : Bool) → (47 == b) ≡ c → ((c && true) || bytes_eq (b ∷ path) (codes "*")) ≡ true
        → target_parts method host (b ∷ path) ≡ (if (47 == b && true) || bytes_eq method (codes "OPTIONS") then Some (host, b ∷ path) else None)
    by true g k = subst (λ d. target_parts method host (d ∷ path) ≡ (if (47 == d && true) || bytes_eq method (codes "OPTIONS") then Some (host, d ∷ path) else None)) (eqb-true 47 b g) slash
    by false g k = star (b ∷ path) (bytes_same (b ∷ path) (codes "*") k)

-- the tests of the head, in their order
abbrev tests_of : List Field → Framing → List (Bool × Fault)
tests_of head f =
    (false, Version)
    ∷ (bytes_eq (method_of head) (codes "CONNECT"), Method)
    ∷ (not (has_one_host (values_of (codes "host") (the_fields head f))), BadHead)
    ∷ (is_none (request_parts (the_line head) (the_fields head f)), BadHead)
    ∷ (is_none (stated_length Request 1 (the_fields head f)), BadLength)
    ∷ []

-- a length that is there
pub framed_some : (f : Framing) → is_none (framed_length Request f) ≡ false → framed_length Request f ≡ Some (request_length f)
framed_some framing.NoField e = refl
framed_some (framing.Length n) e = by (nat_lt n (2 ^ 63)) e
  where
    by : (c : Bool) → is_none (if c then Some (length.Known n) else None) ≡ false → ◌≡◌ {A = Option Length} (if c then Some (length.Known n) else None) (Some (length.Known n))
    by true e = refl
    by false e = absurd cc
framed_some framing.Chunked e = refl

module _ (head : List Field) (x : IsRequestHead head) (f : Framing) (h : Fits f) where
  own : Owns (map given (others head))
  own = others_own (others head) x.others

  parts_are : request_parts (the_line head) (the_fields head f)
      ≡ (if begins_with (codes "/") (path_of head) || bytes_eq (method_of head) (codes "OPTIONS") then Some (authority_of head, path_of head) else None)
  parts_are = known_target (method_of head) (authority_of head) (path_of head) x.path

  stated_is : stated_length Request 1 (the_fields head f) ≡ framed_length Request f
  stated_is = stated Request (map given (others head)) own f h

  none_owed : (n : Length) → is_owed_interim (the_fields head f) n ≡ false
  none_owed n = ap (λ l. not (is_bodiless n) && list_any (λ v. bytes_eq (lower v) (codes "100-continue")) l) (expectations (map given (others head)) own f) ∙ by (not (is_bodiless n))
    where
      by : (c : Bool) → (c && false) ≡ false
      by true = refl
      by false = refl

  some_parts : is_none (request_parts (the_line head) (the_fields head f)) ≡ false → request_parts (the_line head) (the_fields head f) ≡ Some (authority_of head, path_of head)
  some_parts e = parts_are ∙ by (begins_with (codes "/") (path_of head) || bytes_eq (method_of head) (codes "OPTIONS")) (ap is_none (sym parts_are) ∙ e)
    where
      by : (c : Bool) → is_none {T = List ℕ × List ℕ} (if c then Some (authority_of head, path_of head) else None) ≡ false
          → ◌≡◌ {A = Option (List ℕ × List ℕ)} (if c then Some (authority_of head, path_of head) else None) (Some (authority_of head, path_of head))
      by true e = refl
      by false e = absurd cc

  head_is : request_parts (the_line head) (the_fields head f) ≡ Some (authority_of head, path_of head) → stated_length Request 1 (the_fields head f) ≡ Some (request_length f)
      → request_head (the_line head) (the_fields head f) ≡ given_request head f
  unfolding request_head
  head_is parts stated_so =
      ap (λ o. made (first_part o) (second_part o) (without (codes "host" ∷ []) (shown_fields (the_fields head f))) (or_none (stated_length Request 1 (the_fields head f)))
      (is_owed_interim (the_fields head f) (or_none (stated_length Request 1 (the_fields head f))))) parts
      ∙ ap (λ o. made (authority_of head) (path_of head) (without (codes "host" ∷ []) (shown_fields (the_fields head f))) (or_none o) (is_owed_interim (the_fields head f) (or_none o))) stated_so
      ∙ ap (λ l. made (authority_of head) (path_of head) l (request_length f) (is_owed_interim (the_fields head f) (request_length f))) (request_shown (map given (others head)) own f (authority_of head))
      ∙ ap (made (authority_of head) (path_of head) (map given (others head) ++ given_length f) (request_length f)) (none_owed (request_length f))
    where
      made : List ℕ → List ℕ → List Field → Length → Bool → Head
      made a p fields n owed = record {
        fields = field (codes ":method") (method_of head) ∷ field (codes ":scheme") (codes "http") ∷ field (codes ":authority") a ∷ field (codes ":path") p ∷ fields;
        length = n;
        expects = owed;
      }

  -- where it is accepted
  accepted_is : request_fault (the_line head) (the_fields head f) ≡ None → request_head (the_line head) (the_fields head f) ≡ given_request head f
  unfolding request_fault
  accepted_is e =
      let tests = no_fault (tests_of head f) e in
      head_is (some_parts tests.1.1.1.0) (stated_is ∙ framed_some f (ap is_none (sym stated_is) ∙ tests.1.1.1.1.0))

-- The head of a request, where it is accepted

pub request_given : (head : List Field) → IsRequestHead head → (f : Framing) → Fits f → (rest : List ℕ) (h : Head) (r : List ℕ)
    → request_message (head_bytes Request head f ++ rest) ≡ Whole h r → (h ≡ given_request head f) × (r ≡ rest)
unfolding request_message
request_given head x f fits rest h r e =
    by (limited head_limit LongHead (head_lines request_line) (head_bytes Request head f ++ rest)) refl e
  where
    in_head : (line : RequestLine) (fields : List Field) (others : List ℕ) → ReadHead head f line fields rest others → request_of (line, fields) others ≡ Whole h r
        → (h ≡ given_request head f) × (r ≡ rest)
    in_head line fields more k e = by_fault (request_fault (the_line head) (the_fields head f)) refl
        (ap (λ p. request_of p rest) (ap (λ l. (l, the_fields head f)) (sym k.line_same) ∙ ap (λ l. (line, l)) (sym k.fields_same)) ∙ ap (request_of (line, fields)) (sym k.rest_same) ∙ e)
      where
        by_fault : (o : Option Fault) → request_fault (the_line head) (the_fields head f) ≡ o → unless o (request_head (the_line head) (the_fields head f)) rest ≡ Whole h r
            → (h ≡ given_request head f) × (r ≡ rest)
        by_fault None g k =
            let same : request_head (the_line head) (the_fields head f) ≡ h = cc in
            let rests : rest ≡ r = cc in
            (sym same ∙ accepted_is head x f fits g, sym rests)
        by_fault (Some b) g k = absurd cc

    by : (q : Reading (RequestLine × List Field)) → limited head_limit LongHead (head_lines request_line) (head_bytes Request head f ++ rest) ≡ q → onward q request_of ≡ Whole h r
        → (h ≡ given_request head f) × (r ≡ rest)
    by (Whole p more) g k =
        in_head p.0 p.1 more
        (head_given head x f fits rest p.0 p.1 more
        (limited_whole head_limit LongHead (head_lines request_line) (head_lines-stays request_line) (head_bytes Request head f ++ rest) p more g)) k
    by Partial g k = absurd cc
    by (Bad b) g k = absurd cc

-- and where it is

text_byte : (b : ℕ) → 32 ≤ b → b < 127 → is_value_byte b ≡ true
text_byte b h k = rw (le-leb 32 b h, ne_eqb b 127 other) (by (b == 9))
  where
    other : b ≡ 127 → ⊥
    other e = omega (arith, k, e)

    by : (c : Bool) → (c || true) ≡ true
    by true = refl
    by false = refl

behind_readable : (f : Framing) → Fits f → list_all is_readable (behind_fields f) ≡ true
behind_readable framing.NoField h = refl
behind_readable (framing.Length n) h = ap (λ c. c && true) (weaker is_ascii_digit is_value_byte digit_value_byte (decimal n) (decimal_digits n h))
  where
    digit_value_byte : (b : ℕ) → is_ascii_digit b ≡ true → is_value_byte b ≡ true
    digit_value_byte b e =
        text_byte b (omega (arith, leb-true 48 b (and_first (nat_le 48 b) (nat_le b 57) e))) (omega (arith, leb-true b 57 (and_second (nat_le 48 b) (nat_le b 57) e)))
behind_readable framing.Chunked h = refl

pub common_readable : (head : List Field) (f : Framing) → Fits f → list_all is_readable (others head) ≡ true → list_all is_readable (common_fields head f) ≡ true
common_readable head f h e = all-append is_readable (others head) (behind_fields f) e (behind_readable f h)

visible_value : (b : ℕ) → is_visible b ≡ true → is_value_byte b ≡ true
visible_value b e = text_byte b (omega (arith, leb-true 33 b (and_first (nat_le 33 b) (nat_le b 126) e))) (omega (arith, leb-true b 126 (and_second (nat_le 33 b) (nat_le b 126) e)))

pub accepted_some : (f : Framing) → IsLength f → framed_length Request f ≡ Some (request_length f)
accepted_some framing.NoField e = refl
accepted_some (framing.Length n) e = ap (λ c. if c then Some (length.Known n) else None) (lt-ltb n (2 ^ 63) e)
accepted_some framing.Chunked e = refl

pub request_accepted : (head : List Field) → IsRequestHead head → (f : Framing) → Fits f → IsAcceptedRequest head f → (rest : List ℕ)
    → request_message (head_bytes Request head f ++ rest) ≡ Whole (given_request head f) rest
unfolding request_message request_fault
request_accepted head x f h y rest =
    ap (λ q. onward q request_of) (found_within head_limit LongHead (head_lines request_line) (head_bytes Request head f) rest (the_line head, the_fields head f) found)
    ∙ ap (λ o. unless o (request_head (the_line head) (the_fields head f)) rest) (faultless (tests_of head f) tests)
    ∙ ap (λ g. Whole g rest) (head_is head x f h parts stated_so)
  where
    parts : request_parts (the_line head) (the_fields head f) ≡ Some (authority_of head, path_of head)
    parts = parts_are head x f h ∙ ap (λ c. if c then Some (authority_of head, path_of head) else None) y.asterisk

    stated_so : stated_length Request 1 (the_fields head f) ≡ Some (request_length f)
    stated_so = stated_is head x f h ∙ accepted_some f y.length_fits

    one_host : has_one_host (values_of (codes "host") (the_fields head f)) ≡ true
    one_host = ap (λ l. has_one_host (authority_of head ∷ l)) (hosts (map given (others head)) (others_own (others head) x.others) f) ∙ y.host

    tests : AllByRecursion (λ (t : Bool × Fault). t.0 ≡ false) (tests_of head f)
    tests = (refl, (y.no_tunnel, (ap not one_host, (ap is_none parts, (ap is_none stated_so, tt)))))

    writable : list_all is_writable (request_fields head f) ≡ true
    writable = and_both (is_writable (field (codes "host") (authority_of head))) (list_all is_writable (common_fields head f))
        (host_writable (authority_of head) x.high_authority) (common_writable head f h x.others)

    readable : list_all is_readable (request_fields head f) ≡ true
    readable = and_both (list_all is_value_byte (authority_of head)) (list_all is_readable (common_fields head f))
        (weaker is_visible is_value_byte visible_value (authority_of head) (and_second (not (is_empty (authority_of head))) (list_all is_visible (authority_of head)) y.host))
        (common_readable head f h y.values)

    found : Found head_limit (head_lines request_line) (head_bytes Request head f) (the_line head, the_fields head f)
    found = record {
      short = y.short;
      always = λ zs.
          read_head head x f zs
          ∙ ap (λ c. fields_behind (if c then Some (the_line head) else None) (field_lines (request_fields head f) ++ (crlf ++ zs))) y.target
          ∙ ap (λ r. onward {B = RequestLine × List Field} r (λ fields more. Whole (the_line head, fields) more))
          (section_written BadHead field_limit (request_fields head f) zs writable ∙ written_whole BadHead field_limit (request_fields head f) zs readable y.few)
          ∙ ap (λ l. Whole (the_line head, l) zs) (fields_are head x f h);
    }
