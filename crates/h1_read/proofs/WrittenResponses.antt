-- The head of a response that was written is read back.
use Rattle.std.proofs.Common.{sym, ◌∙◌, ap, refl, arith, append_assoc, eqb-true, take_all, lt-ltb}
use Rattle.std.proofs.lemmas.List.{take-append-le, drop-append-le, drop_all}
use Rattle.std.specs.Prelude.{ℕ, ◌≡◌, ◌^◌, Bool, true, false, ◌&&◌, if◌then◌else◌, List, [], ◌∷◌, ◌++◌, length, take, drop, map, ◌==◌, nat_lt, Option, Some, None, is_none, codes, bytes_eq}
use Rattle.std.specs.List.{list_all, AllByRecursion}
use Rattle.std.specs.Char.{is_ascii_digit}
use Rattle.ext_msgs.specs.declared.lists.Field.{Field}
use Rattle.httparse.specs.Grammar as grammar
use Rattle.http_model.specs.Bytes.{is_value_byte, crlf, decimal_value, field}
use Rattle.http_model.specs.Reading.{Reading, Whole, Partial, Bad, BadHead, LongHead, BadLength, onward}
use Rattle.http_model.specs.Lines.{section}
use Rattle.http_model.specs.Heads.{head_limit, field_limit, fields_behind, head_lines, StatusLine, status_line, status_line_of, minor_of, is_status, is_reason, stated_length, Head, or_none, is_bare, response_head, unless, response_lines, is_interim, final_of, response_message_in, response_message}
use Rattle.http_model.specs.Wire.{reasons, reason_in, reason, field_line, field_lines, framing_field, head_bytes}
use Rattle.http_model.specs.declared.types.Direction.TheVariants.{Response}
use Rattle.http_model.specs.declared.types.Framing.{Framing}
use Rattle.http_model.specs.declared.types.Framing.TheVariants as framing
use Rattle.http_model.specs.declared.types.Length.{Length}
use Rattle.http_model.specs.declared.types.Length.TheVariants as length
use Rattle.h1_read.specs.Written.{given, others, status_of, IsResponseHead, IsAcceptedResponse, IsLength, Fits, common_fields, given_length, response_length, given_response}
use Rattle.h1_read.proofs.LineParts.{Lacks, Lacks-append, Lacks-pass, split_at-first}
use Rattle.h1_read.proofs.HeadLaw.{IsFirst, and_first, and_second, and_both, from_all_true, first_parsed}
use Rattle.h1_read.proofs.Kept.{Found, found_within}
use Rattle.h1_read.proofs.WrittenSections.{section_written, written_given, written_whole}
use Rattle.h1_read.proofs.WrittenBodies.{limited_whole}
use Rattle.h1_read.proofs.WrittenFields.{others_own, behind_fields, behind_given, map-append, framed_length, stated, response_shown}
use Rattle.h1_read.proofs.WrittenRequests.{common_lines, common_writable, common_readable}
use Rattle.http_model.proofs.HeadsStable.{head_lines-stays}

-- The phrases

all_phrases : (table : List (ℕ × List ℕ)) → list_all (λ (r : ℕ × List ℕ). list_all is_value_byte r.1) table ≡ true → (code : ℕ) → list_all is_value_byte (reason_in code table) ≡ true
all_phrases [] e code = refl
all_phrases (r ∷ table) e code =
    by (r.0 == code) (and_first (list_all is_value_byte r.1) (list_all (λ (s : ℕ × List ℕ). list_all is_value_byte s.1) table) e)
    (all_phrases table (and_second (list_all is_value_byte r.1) (list_all (λ (s : ℕ × List ℕ). list_all is_value_byte s.1) table) e) code)
  where
    by : (c : Bool) → list_all is_value_byte r.1 ≡ true → list_all is_value_byte (reason_in code table) ≡ true
        → list_all is_value_byte (elim c [ true ↦ r.1 | false ↦ reason_in code table ]) ≡ true
    by true g k = g
    by false g k = k

phrase_clean : (code : ℕ) → list_all is_value_byte (reason code) ≡ true
phrase_clean code = all_phrases reasons refl code

-- The first line

abbrev phrase_of : List Field → List ℕ
phrase_of head = reason (decimal_value (status_of head))

abbrev line_text : List ℕ → List ℕ → List ℕ
line_text status phrase = codes "HTTP/1.1" ++ 32 ∷ (status ++ 32 ∷ phrase)

parted : (head : List Field) (f : Framing) (rest : List ℕ)
    → head_bytes Response head f ++ rest ≡ line_text (status_of head) (phrase_of head) ++ (13 ∷ 10 ∷ (field_lines (common_fields head f) ++ (crlf ++ rest)))
unfolding head_bytes
parted head f rest =
    regroup (codes "HTTP/1.1") (32 ∷ []) (status_of head) (phrase_of head) (field_lines (others head)) (framing_field f) (field_line (codes "connection") (codes "close")) rest
    ∙ ap (λ l. line_text (status_of head) (phrase_of head) ++ (13 ∷ 10 ∷ (l ++ (crlf ++ rest)))) (sym (common_lines head f))
  where
    regroup : (v sp s p o g c r : List ℕ)
        → (((v ++ sp) ++ s ++ sp ++ p ++ crlf) ++ o ++ g ++ c ++ crlf) ++ r ≡ (v ++ (sp ++ (s ++ (sp ++ p)))) ++ (crlf ++ ((o ++ (g ++ c)) ++ (crlf ++ r)))
    regroup v sp s p o g c r = simp append_assoc

module _ (head : List Field) (x : IsResponseHead head) where
  three : length (status_of head) ≡ 3
  three = eqb-true (length (status_of head)) 3 (and_first (length (status_of head) == 3) (list_all is_ascii_digit (status_of head)) x.status)

  digits : AllByRecursion (λ b. is_ascii_digit b ≡ true) (status_of head)
  digits = from_all_true is_ascii_digit (status_of head) (and_second (length (status_of head) == 3) (list_all is_ascii_digit (status_of head)) x.status)

  behind_version : (c : ℕ) → (32 == c) ≡ false → is_ascii_digit c ≡ false → is_value_byte c ≡ false → Lacks c (32 ∷ (status_of head ++ 32 ∷ phrase_of head))
  behind_version c e g h = (
    e,
    Lacks-append c (status_of head) (32 ∷ phrase_of head) (Lacks-pass is_ascii_digit c g (status_of head) digits)
        (e, Lacks-pass is_value_byte c h (phrase_of head) (from_all_true is_value_byte (phrase_of head) (phrase_clean (decimal_value (status_of head))))),
  )

  first : IsFirst (line_text (status_of head) (phrase_of head))
  first = record {
    starts = λ s. refl;
    no_lf = (refl, (refl, (refl, (refl, (refl, (refl, (refl, (refl, behind_version 10 refl refl refl))))))));
    no_cr = (refl, (refl, (refl, (refl, (refl, (refl, (refl, (refl, behind_version 13 refl refl refl))))))));
  }

  taken : take 3 (status_of head ++ 32 ∷ phrase_of head) ≡ status_of head
  taken = take-append-le 3 (status_of head) (32 ∷ phrase_of head) (omega (arith, three)) ∙ take_all 3 (status_of head) (omega (arith, three))

  left : drop 3 (status_of head ++ 32 ∷ phrase_of head) ≡ 32 ∷ phrase_of head
  left = drop-append-le 3 (status_of head) (32 ∷ phrase_of head) (omega (arith, three)) ∙ ap (λ l. l ++ 32 ∷ phrase_of head) (drop_all 3 (status_of head) (omega (arith, three)))

  line_is : status_line (line_text (status_of head) (phrase_of head)) ≡ Some (record { status = status_of head; minor = 1 })
  unfolding status_line
  line_is =
      ap (λ w. status_line_of (minor_of w.0) w.1) (split_at-first 32 (codes "HTTP/1.1") (status_of head ++ 32 ∷ phrase_of head) (refl, (refl, (refl, (refl, (refl, (refl, (refl, (refl, tt)))))))))
      ∙ ap (λ l. made l (is_status l && is_reason (drop 3 (status_of head ++ 32 ∷ phrase_of head)))) taken
      ∙ ap (λ l. made (status_of head) (is_status (status_of head) && is_reason l)) left
      ∙ ap (made (status_of head)) (and_both (is_status (status_of head)) (is_reason (32 ∷ phrase_of head)) x.status (phrase_clean (decimal_value (status_of head))))
    where
      made : List ℕ → Bool → Option StatusLine
      made s c = if c then Some (record { status = s; minor = 1 }) else None

-- What is read of the head

abbrev the_line : List Field → StatusLine
the_line head = record { status = status_of head; minor = 1 }

read_head : (head : List Field) → IsResponseHead head → (f : Framing) (rest : List ℕ)
    → head_lines status_line (head_bytes Response head f ++ rest)
    ≡ onward {B = StatusLine × List Field} (section BadHead field_limit (field_lines (common_fields head f) ++ (crlf ++ rest))) (λ fields more. Whole (the_line head, fields) more)
read_head head x f rest =
    let behind : List ℕ = field_lines (common_fields head f) ++ (crlf ++ rest) in
    ap (head_lines status_line) (parted head f rest)
    ∙ first_parsed status_line [] (line_text (status_of head) (phrase_of head)) grammar.crlf behind (first head x)
    ∙ ap (λ o. fields_behind o behind) (line_is head x)

abbrev the_fields : List Field → Framing → List Field
the_fields head f = map given (others head) ++ behind_fields f

fields_are : (head : List Field) (f : Framing) → Fits f → map given (common_fields head f) ≡ the_fields head f
fields_are head f h = map-append given (others head) (behind_fields f) ∙ ap (λ l. map given (others head) ++ l) (behind_given f h)

framed_some : (f : Framing) → is_none (framed_length Response f) ≡ false → framed_length Response f ≡ Some (response_length f)
framed_some framing.NoField e = refl
framed_some (framing.Length n) e = by (nat_lt n (2 ^ 63)) e
  where
    by : (c : Bool) → is_none (if c then Some (length.Known n) else None) ≡ false → ◌≡◌ {A = Option Length} (if c then Some (length.Known n) else None) (Some (length.Known n))
    by true e = refl
    by false e = absurd cc
framed_some framing.Chunked e = refl

accepted_some : (f : Framing) → IsLength f → framed_length Response f ≡ Some (response_length f)
accepted_some framing.NoField e = refl
accepted_some (framing.Length n) e = ap (λ c. if c then Some (length.Known n) else None) (lt-ltb n (2 ^ 63) e)
accepted_some framing.Chunked e = refl

module _ (head : List Field) (x : IsResponseHead head) (f : Framing) (h : Fits f) (to_head : Bool) where
  stated_is : stated_length Response 1 (the_fields head f) ≡ framed_length Response f
  stated_is = stated Response (map given (others head)) (others_own (others head) x.others) f h

  head_is : stated_length Response 1 (the_fields head f) ≡ Some (response_length f) → response_head to_head (the_line head) (the_fields head f) ≡ given_response to_head head f
  unfolding response_head
  head_is stated_so =
      ap (λ l. made l (or_none (stated_length Response 1 (the_fields head f)))) (response_shown (map given (others head)) (others_own (others head) x.others) f)
      ∙ ap (λ o. made (map given (others head) ++ given_length f) (or_none o)) stated_so
    where
      made : List Field → Length → Head
      made fields n = record {
        fields = field (codes ":status") (status_of head) ∷ fields;
        length = if is_bare to_head (status_of head) then length.NoBody else n;
        expects = false;
      }

  -- of a head without a fault
  ends : List Field → List ℕ → Option Length → Reading Head
  ends fields rest o = unless (if is_none o then Some BadLength else None) (response_head to_head (the_line head) fields) rest

  final_is : (rest : List ℕ) (h' : Head) (r : List ℕ) → final_of to_head (the_line head, the_fields head f) rest ≡ Whole h' r → (h' ≡ given_response to_head head f) × (r ≡ rest)
  final_is rest h' r e = by (is_none (stated_length Response 1 (the_fields head f))) refl e
    where
      by : (c : Bool) → is_none (stated_length Response 1 (the_fields head f)) ≡ c
          → unless (if c then Some BadLength else None) (response_head to_head (the_line head) (the_fields head f)) rest ≡ Whole h' r
          → (h' ≡ given_response to_head head f) × (r ≡ rest)
      by true g k = absurd cc
      by false g k =
          let same : response_head to_head (the_line head) (the_fields head f) ≡ h' = cc in
          let rests : rest ≡ r = cc in
          (sym same ∙ head_is (stated_is ∙ framed_some f (ap is_none (sym stated_is) ∙ g)), sym rests)

-- The head of a response, where it is accepted

abbrev behind_head : Bool → ℕ → StatusLine × List Field → List ℕ → Reading Head
behind_head to_head n h rest = elim (is_interim h.0) [
  | true ↦ elim (bytes_eq h.0.status (codes "101")) [ true ↦ Bad BadHead | false ↦ response_message_in n to_head rest ]
  | false ↦ final_of to_head h rest
]

pub response_given : (to_head : Bool) (head : List Field) → IsResponseHead head → (f : Framing) → Fits f → (rest : List ℕ) (h : Head) (r : List ℕ)
    → response_message to_head (head_bytes Response head f ++ rest) ≡ Whole h r → (h ≡ given_response to_head head f) × (r ≡ rest)
unfolding response_message response_message_in
response_given to_head head x f fits rest h r e = by (response_lines bytes) refl e
  where
    bytes : List ℕ
    bytes = head_bytes Response head f ++ rest

    count : ℕ
    count = length bytes

    behind : List ℕ
    behind = field_lines (common_fields head f) ++ (crlf ++ rest)

    final : behind_head to_head count (the_line head, the_fields head f) rest ≡ Whole h r → (h ≡ given_response to_head head f) × (r ≡ rest)
    final k = final_is head x f fits to_head rest h r (ap choose (sym x.final) ∙ k)
      where
        choose : Bool → Reading Head
        choose c = elim c [
          | true ↦ elim (bytes_eq (status_of head) (codes "101")) [ true ↦ Bad BadHead | false ↦ response_message_in count to_head rest ]
          | false ↦ final_of to_head (the_line head, the_fields head f) rest
        ]

    in_section : (line : StatusLine × List Field) (more : List ℕ) (q : Reading (List Field)) → section BadHead field_limit behind ≡ q
        → onward {B = StatusLine × List Field} q (λ fields left. Whole (the_line head, fields) left) ≡ Whole line more
        → behind_head to_head count line more ≡ Whole h r → (h ≡ given_response to_head head f) × (r ≡ rest)
    in_section line more (Whole fields left) g k j =
        let same = written_given BadHead field_limit (common_fields head f) rest fields left
        (sym (section_written BadHead field_limit (common_fields head f) rest (common_writable head f fits x.others)) ∙ g) in
        let line_same : (the_line head, fields) ≡ line = ap pair_of k in
        let more_same : left ≡ more = ap rest_of k in
        final (ap (λ p. behind_head to_head count p rest) (ap (λ l. (the_line head, l)) (sym (fields_are head f fits) ∙ same.0) ∙ line_same)
        ∙ ap (behind_head to_head count line) (same.1 ∙ more_same) ∙ j)
      where
        pair_of : Reading (StatusLine × List Field) → StatusLine × List Field
        pair_of (Whole p l) = p
        pair_of Partial = line
        pair_of (Bad b) = line

        rest_of : Reading (StatusLine × List Field) → List ℕ
        rest_of (Whole p l) = l
        rest_of Partial = more
        rest_of (Bad b) = more
    in_section line more Partial g k j = absurd cc
    in_section line more (Bad b) g k j = absurd cc

    by : (q : Reading (StatusLine × List Field)) → response_lines bytes ≡ q → onward q (behind_head to_head count) ≡ Whole h r
        → (h ≡ given_response to_head head f) × (r ≡ rest)
    by (Whole p more) g k =
        in_section p more (section BadHead field_limit behind) refl
        (sym (read_head head x f rest) ∙ limited_whole head_limit LongHead (head_lines status_line) (head_lines-stays status_line) bytes p more g) k
    by Partial g k = absurd cc
    by (Bad b) g k = absurd cc

-- and where it is

pub response_accepted : (to_head : Bool) (head : List Field) → IsResponseHead head → (f : Framing) → Fits f → IsAcceptedResponse head f → (rest : List ℕ)
    → response_message to_head (head_bytes Response head f ++ rest) ≡ Whole (given_response to_head head f) rest
unfolding response_message response_message_in
response_accepted to_head head x f h y rest =
    ap (λ q. onward q (behind_head to_head count)) (found_within head_limit LongHead (head_lines status_line) (head_bytes Response head f) rest (the_line head, the_fields head f) found)
    ∙ ap choose x.final
    ∙ ap (λ o. unless (if is_none o then Some BadLength else None) (response_head to_head (the_line head) (the_fields head f)) rest) stated_so
    ∙ ap (λ g. Whole g rest) (head_is head x f h to_head stated_so)
  where
    count : ℕ
    count = length (head_bytes Response head f ++ rest)

    choose : Bool → Reading Head
    choose c = elim c [
      | true ↦ elim (bytes_eq (status_of head) (codes "101")) [ true ↦ Bad BadHead | false ↦ response_message_in count to_head rest ]
      | false ↦ final_of to_head (the_line head, the_fields head f) rest
    ]

    stated_so : stated_length Response 1 (the_fields head f) ≡ Some (response_length f)
    stated_so = stated_is head x f h to_head ∙ accepted_some f y.length_fits

    found : Found head_limit (head_lines status_line) (head_bytes Response head f) (the_line head, the_fields head f)
    found = record {
      short = y.short;
      always = λ zs.
          read_head head x f zs
          ∙ ap (λ r. onward {B = StatusLine × List Field} r (λ fields more. Whole (the_line head, fields) more))
          (section_written BadHead field_limit (common_fields head f) zs (common_writable head f h x.others)
          ∙ written_whole BadHead field_limit (common_fields head f) zs (common_readable head f h y.values) y.few)
          ∙ ap (λ l. Whole (the_line head, l) zs) (fields_are head f h);
    }
