-- The response heads of the model are those of httparse's grammar.
use Rattle.std.proofs.Common.{inl, inr, sym, ◌∙◌, ap, subst, refl, append_assoc, append-nil, eqb-true}
use Rattle.std.specs.Prelude.{ℕ, ◌≡◌, ◌⊎◌, ◌<◌, ◌≤◌, Bool, true, false, ◌&&◌, if◌then◌else◌, List, [], ◌∷◌, ◌++◌, length, take, drop, map, Option, Some, None, ◌==◌}
use Rattle.std.specs.List.{list_all, AllByRecursion}
use Rattle.std.specs.Char.{is_ascii_digit}
use Rattle.std.proofs.Math.Seq.{take-append_seam, drop-append_seam}
use Rattle.std.proofs.lemmas.List.{take-append-drop}
use Rattle.std.proofs.lemmas.List.Elements.{All-from_recursion}
use Rattle.http_model.specs.Bytes.{is_value_byte, split_at}
use Rattle.http_model.specs.Reading.{Reading, Whole, Partial, Bad, Fault, BadHead, LongHead, onward, Stays}
use Rattle.http_model.specs.Lines.{first_line, section}
use Rattle.http_model.specs.Heads.{field_limit, fields_behind, head_lines, StatusLine, minor_of, is_reason, is_status, status_line_of, status_line}
use Rattle.ext_msgs.specs.declared.lists.Field as model
use Rattle.httparse.specs.Grammar.{AllPass, LineEnd, print_end, print_blank, print_version, print_reason, reason_phrase, print_section, ReadsSection, ResponseHead, IsResponseHead, print_response, ReadsResponse, NeverHasResponse, MayBecomeResponse}
use Rattle.httparse.specs.Grammar as grammar
use Rattle.httparse.specs.Spans.{ResponseOverflows}
use Rattle.httparse.proofs.GrammarLemmas.{print_response-append}
use Rattle.h1_read.specs.Agreement.{field_of_line, line_of_response, IsResponse, AgreesOnResponses}
use Rattle.h1_read.proofs.LineParts.{Lacks, Lacks-append, Lacks-pass, passing, split_at-first, split_at-joined}
use Rattle.h1_read.proofs.FieldText.{Values}
use Rattle.h1_read.proofs.SectionLaw.{section_found, section_exceeds, section_tells, Tells, few_or_many}
use Rattle.h1_read.proofs.HeadLaw.{and_first, and_second, and_both, all_true, from_all_true, with_first, IsFirst, head_read, HasLine, by_head_line}
use Rattle.h1_read.proofs.RequestLaw.{version_lacks, minor_of-version, version_back}
use Rattle.http_model.proofs.HeadsStable.{head_lines-stays}

-- Status lines

abbrev pub status_text : ℕ → List ℕ → Option (List ℕ) → List ℕ
status_text minor digits reason = print_version minor ++ 32 ∷ (digits ++ print_reason reason)

reason_true : (reason : Option (List ℕ)) → AllPass is_value_byte (reason_phrase reason) → is_reason (print_reason reason) ≡ true
reason_true None x = refl
reason_true (Some phrase) x = all_true is_value_byte phrase (passing is_value_byte phrase x)

status_true : (digits : List ℕ) → length digits ≡ 3 → AllPass is_ascii_digit digits → is_status digits ≡ true
status_true digits e x =
    and_both (length digits == 3) (list_all is_ascii_digit digits) (ap (λ n. n == 3) e) (all_true is_ascii_digit digits (passing is_ascii_digit digits x))

take_three : (digits s : List ℕ) → length digits ≡ 3 → take 3 (digits ++ s) ≡ digits
take_three digits s e = ap (λ n. take n (digits ++ s)) (sym e) ∙ take-append_seam digits s

drop_three : (digits s : List ℕ) → length digits ≡ 3 → drop 3 (digits ++ s) ≡ s
drop_three digits s e = ap (λ n. drop n (digits ++ s)) (sym e) ∙ drop-append_seam digits s

choose : ℕ → List ℕ → List ℕ → Option StatusLine
choose minor digits phrase = if is_status digits && is_reason phrase then Some (record { status = digits; minor = minor }) else None

choose_parts : (minor : ℕ) (rest : List ℕ) → status_line_of (Some minor) rest ≡ choose minor (take 3 rest) (drop 3 rest)
unfolding choose
choose_parts minor rest = refl

choose_true : (minor : ℕ) (digits phrase : List ℕ) → (is_status digits && is_reason phrase) ≡ true → choose minor digits phrase ≡ Some (record { status = digits; minor = minor })
unfolding choose
choose_true minor digits phrase e = ap (λ t. if t then Some (record { status = digits; minor = minor }) else None) e

pub line_read : (h : ResponseHead) → IsResponseHead h → status_line (status_text h.minor h.digits h.reason) ≡ Some (line_of_response h)
unfolding status_line
line_read h x =
    ap by_words (split_at-first 32 (print_version h.minor) (h.digits ++ print_reason h.reason)
    (version_lacks 32 (refl, (refl, (refl, (refl, (refl, (refl, (refl, (refl, tt)))))))) (refl, (refl, (refl, (refl, (refl, (refl, (refl, (refl, tt)))))))) h.minor x.minor))
    ∙ ap (λ v. status_line_of v (h.digits ++ print_reason h.reason)) (minor_of-version h.minor x.minor)
    ∙ choose_parts h.minor (h.digits ++ print_reason h.reason)
    ∙ ap (λ d. choose h.minor d (drop 3 (h.digits ++ print_reason h.reason))) (take_three h.digits (print_reason h.reason) x.digits.0)
    ∙ ap (choose h.minor h.digits) (drop_three h.digits (print_reason h.reason) x.digits.0)
    ∙ choose_true h.minor h.digits (print_reason h.reason)
    (and_both (is_status h.digits) (is_reason (print_reason h.reason)) (status_true h.digits x.digits.0 x.digits.1) (reason_true h.reason x.reason))
  where
    by_words : List ℕ × List ℕ → Option StatusLine
    by_words words = status_line_of (minor_of words.0) words.1

record IsOf (v : Option ℕ) (rest : List ℕ) (l : StatusLine) : Type 0 where
  version : v ≡ Some l.minor
  status : take 3 rest ≡ l.status
  is_code : is_status (take 3 rest) ≡ true
  is_phrase : is_reason (drop 3 rest) ≡ true

of_parts : (v : Option ℕ) (rest : List ℕ) (l : StatusLine) → status_line_of v rest ≡ Some l → IsOf v rest l
of_parts None rest l e = absurd cc
of_parts (Some minor) rest l e = by (is_status (take 3 rest) && is_reason (drop 3 rest)) refl e
  where
    same : (a b : StatusLine) → ◌≡◌ {A = Option StatusLine} (Some a) (Some b) → a ≡ b
    same a b e = cc

    by : (b : Bool) → (is_status (take 3 rest) && is_reason (drop 3 rest)) ≡ b
        → ◌≡◌ {A = Option StatusLine} (if b then Some (record { status = take 3 rest; minor = minor }) else None) (Some l) → IsOf (Some minor) rest l
    by true f g =
        let is : record { status = take 3 rest; minor = minor } ≡ l = same (record { status = take 3 rest; minor = minor }) l g in
        record {
          version = ap (λ (r : StatusLine). Some r.minor) is;
          status = ap (λ (r : StatusLine). r.status) is;
          is_code = and_first (is_status (take 3 rest)) (is_reason (drop 3 rest)) f;
          is_phrase = and_second (is_status (take 3 rest)) (is_reason (drop 3 rest)) f;
        }
    by false f g = absurd cc

record HasReason (s : List ℕ) : Type 0 where
  reason : Option (List ℕ)
  joined : s ≡ print_reason reason
  values : Values (reason_phrase reason)

reason_back : (s : List ℕ) → is_reason s ≡ true → HasReason s
reason_back [] e = record { reason = None; joined = refl; values = tt }
reason_back (b ∷ phrase) e = record {
  reason = Some phrase;
  joined = ap (λ c. c ∷ phrase) (eqb-true b 32 (and_first (b == 32) (list_all is_value_byte phrase) e));
  values = from_all_true is_value_byte phrase (and_second (b == 32) (list_all is_value_byte phrase) e);
}

-- what a line that is read holds
pub record IsStatusText (t : List ℕ) (l : StatusLine) : Type 0 where
  pub reason : Option (List ℕ)
  pub joined : t ≡ status_text l.minor l.status reason
  pub three : length l.status ≡ 3
  pub digits : AllByRecursion (λ b. is_ascii_digit b ≡ true) l.status
  pub values : Values (reason_phrase reason)
  pub minor : l.minor ≤ 1

pub line_back : (t : List ℕ) (l : StatusLine) → status_line t ≡ Some l → IsStatusText t l
unfolding status_line
line_back t l e =
    let w : IsOf (minor_of (split_at 32 t).0) (split_at 32 t).1 l = of_parts (minor_of (split_at 32 t).0) (split_at 32 t).1 l e in
    let v = version_back (split_at 32 t).0 l.minor w.version in
    let r = reason_back (drop 3 (split_at 32 t).1) w.is_phrase in
    let code : is_status l.status ≡ true = ap is_status (sym w.status) ∙ w.is_code in
    record {
      reason = r.reason;
      joined = joined r.reason (split_at 32 t).0 (split_at 32 t).1 v.0 (sym (take-append-drop 3 (split_at 32 t).1) ∙ ap (λ s. s ++ drop 3 (split_at 32 t).1) w.status ∙ ap (λ s. l.status ++ s) r.joined)
          w.is_code (split_at-joined 32 t);
      three = eqb-true (length l.status) 3 (and_first (length l.status == 3) (list_all is_ascii_digit l.status) code);
      digits = from_all_true is_ascii_digit l.status (and_second (length l.status == 3) (list_all is_ascii_digit l.status) code);
      values = r.values;
      minor = v.1;
    }
  where
    joined : (reason : Option (List ℕ)) (m behind : List ℕ) → m ≡ print_version l.minor → behind ≡ l.status ++ print_reason reason → is_status (take 3 behind) ≡ true
        → (t ≡ m ++ 32 ∷ behind) ⊎ (behind ≡ []) → t ≡ status_text l.minor l.status reason
    joined reason m behind v b c (inl f) = f ∙ ap (λ s. s ++ 32 ∷ behind) v ∙ ap (λ s. print_version l.minor ++ 32 ∷ s) b
    joined reason m behind v b c (inr f) =
        let both : true ≡ false = sym c ∙ ap (λ s. is_status (take 3 s)) f in
        absurd cc

-- The whole

pub printed : (h : ResponseHead) (rest : List ℕ) → print_response h ++ rest
    ≡ print_blank h.blank ++ (status_text h.minor h.digits h.reason ++ (print_end h.line_end ++ (print_section h.fields h.last ++ rest)))
printed h rest =
    print_response-append h rest
    ∙ ap (λ s. print_blank h.blank ++ s) (regroup (print_version h.minor) h.digits (print_reason h.reason) (print_end h.line_end ++ (print_section h.fields h.last ++ rest)))
  where
    cons-append : (x : ℕ) (a b : List ℕ) → (x ∷ a) ++ b ≡ x ∷ (a ++ b)
    cons-append x a b = refl

    regroup : (v d r s : List ℕ) → v ++ 32 ∷ (d ++ (r ++ s)) ≡ (v ++ 32 ∷ (d ++ r)) ++ s
    regroup v d r s = simp (append_assoc, cons-append) refl

pub is_first : (h : ResponseHead) → IsResponseHead h → IsFirst (status_text h.minor h.digits h.reason)
is_first h x = record {
  starts = λ s. refl;
  no_lf = lacks 10 refl refl refl (version_lacks 10 (refl, (refl, (refl, (refl, (refl, (refl, (refl, (refl, tt)))))))) (refl, (refl, (refl, (refl, (refl, (refl, (refl, (refl, tt)))))))) h.minor x.minor);
  no_cr = lacks 13 refl refl refl (version_lacks 13 (refl, (refl, (refl, (refl, (refl, (refl, (refl, (refl, tt)))))))) (refl, (refl, (refl, (refl, (refl, (refl, (refl, (refl, tt)))))))) h.minor x.minor);
}
  where
    reason_lacks : (c : ℕ) → is_value_byte c ≡ false → (32 == c) ≡ false → (reason : Option (List ℕ)) → AllPass is_value_byte (reason_phrase reason) → Lacks c (print_reason reason)
    reason_lacks c e g None y = tt
    reason_lacks c e g (Some phrase) y = (g, Lacks-pass is_value_byte c e phrase (passing is_value_byte phrase y))

    lacks : (c : ℕ) → is_ascii_digit c ≡ false → is_value_byte c ≡ false → (32 == c) ≡ false → Lacks c (print_version h.minor) → Lacks c (status_text h.minor h.digits h.reason)
    lacks c e f g v =
        Lacks-append c (print_version h.minor) (32 ∷ (h.digits ++ print_reason h.reason)) v
        (g, Lacks-append c h.digits (print_reason h.reason) (Lacks-pass is_ascii_digit c e h.digits (passing is_ascii_digit h.digits x.digits.1)) (reason_lacks c f g h.reason x.reason))

head_at : (bytes : List ℕ) (h : ResponseHead) (rest : List ℕ) → ReadsResponse bytes h rest
    → head_lines status_line bytes ≡ with_first (line_of_response h) (print_section h.fields h.last ++ rest)
head_at bytes h rest x =
    ap (head_lines status_line) (x.1 ∙ printed h rest)
    ∙ head_read status_line (line_of_response h) h.blank (status_text h.minor h.digits h.reason) h.line_end (print_section h.fields h.last ++ rest) (is_first h x.0) (line_read h x.0)

pub response_found : (bytes : List ℕ) (h : ResponseHead) (rest : List ℕ) → ReadsResponse bytes h rest → length h.fields ≤ field_limit
    → head_lines status_line bytes ≡ Whole (line_of_response h, map field_of_line h.fields) rest
response_found bytes h rest x few =
    head_at bytes h rest x
    ∙ ap (λ r. onward r (λ fields more. Whole (line_of_response h, fields) more))
    (section_found BadHead field_limit (print_section h.fields h.last ++ rest) h.fields h.last rest (x.0.fields, refl) few)

pub response_exceeds : (bytes : List ℕ) (h : ResponseHead) (rest : List ℕ) → ReadsResponse bytes h rest → field_limit < length h.fields
    → head_lines status_line bytes ≡ Bad LongHead
response_exceeds bytes h rest x many =
    head_at bytes h rest x
    ∙ ap (λ r. onward r (λ fields more. Whole (line_of_response h, fields) more))
    (section_exceeds BadHead field_limit (print_section h.fields h.last ++ rest) h.fields h.last rest (x.0.fields, refl) many)

abbrev pub ResponseTells : List ℕ → Reading (StatusLine × List model.Field) → Type 0
ResponseTells bytes (Whole h rest) = IsResponse bytes h.0 h.1 rest
ResponseTells bytes Partial = (first_line bytes ≡ Partial) ⊎ MayBecomeResponse bytes
ResponseTells bytes (Bad f) = Unit {0}

-- a head of these parts
abbrev head_of : List LineEnd → StatusLine → Option (List ℕ) → LineEnd → List grammar.Field → LineEnd → ResponseHead
head_of blank l reason end fields last =
    record { blank = blank; minor = l.minor; digits = l.status; reason = reason; line_end = end; fields = fields; last = last }

pub response_tells : (bytes : List ℕ) → ResponseTells bytes (head_lines status_line bytes)
response_tells bytes = by (by_head_line status_line bytes)
  where
    reads : (t more rest : List ℕ) (w : HasLine status_line bytes) (l : StatusLine) (x : IsStatusText w.text l) (fields : List grammar.Field) (last : LineEnd)
        → ReadsSection (w.rest ++ more) fields last rest → ReadsResponse (bytes ++ more) (head_of w.blank l x.reason w.end fields last) rest
    reads t more rest w l x fields last s = (
      record {
        minor = x.minor;
        digits = (x.three, All-from_recursion (λ b. is_ascii_digit b ≡ true) l.status x.digits);
        reason = All-from_recursion (λ b. is_value_byte b ≡ true) (reason_phrase x.reason) x.values;
        fields = s.0;
      },
      ap (λ b. b ++ more) w.joined
          ∙ append_assoc (print_blank w.blank) (w.text ++ (print_end w.end ++ w.rest)) more
          ∙ ap (λ b. print_blank w.blank ++ b) (append_assoc w.text (print_end w.end ++ w.rest) more)
          ∙ ap (λ b. print_blank w.blank ++ (w.text ++ b)) (append_assoc (print_end w.end) w.rest more)
          ∙ ap (λ b. print_blank w.blank ++ (w.text ++ (print_end w.end ++ b))) s.1
          ∙ ap (λ b. print_blank w.blank ++ (b ++ (print_end w.end ++ (print_section fields last ++ rest)))) x.joined
          ∙ sym (printed (head_of w.blank l x.reason w.end fields last) rest),
    )

    by_section : (w : HasLine status_line bytes) (l : StatusLine) (x : IsStatusText w.text l) (r : Reading (List model.Field)) → Tells w.rest r
        → ResponseTells bytes (onward r (λ fields more. Whole (l, fields) more))
    by_section w l x (Whole fields rest) s = record {
      head = head_of w.blank l x.reason w.end s.fields s.last;
      reads = subst (λ b. ReadsResponse b (head_of w.blank l x.reason w.end s.fields s.last) rest) (append-nil bytes)
          (reads bytes [] rest w l x s.fields s.last (subst (λ b. ReadsSection b s.fields s.last rest) (sym (append-nil w.rest)) s.reads));
      first = refl;
      same = s.same;
    }
    by_section w l x Partial s = inr (s.0, head_of w.blank l x.reason w.end s.1 s.2, reads bytes s.0 [] w l x s.1 s.2 s.3)
    by_section w l x (Bad f) s = tt

    by_line : (w : HasLine status_line bytes) (o : Option StatusLine) → status_line w.text ≡ o → ResponseTells bytes (fields_behind o w.rest)
    by_line w None e = tt
    by_line w (Some l) e = by_section w l (line_back w.text l e) (section BadHead field_limit w.rest) (section_tells BadHead field_limit w.rest)

    by : HasLine status_line bytes ⊎ ((first_line bytes ≡ Partial) × (head_lines status_line bytes ≡ Partial)) → ResponseTells bytes (head_lines status_line bytes)
    by (inl w) = subst (ResponseTells bytes) (sym w.read) (by_line w (status_line w.text) refl)
    by (inr w) = subst (ResponseTells bytes) (sym w.1) (inl w.0)

stays_bad : (bytes more : List ℕ) (f : Fault) → head_lines status_line bytes ≡ Bad f → head_lines status_line (bytes ++ more) ≡ Bad f
stays_bad bytes more f e = subst (λ r. Stays r more (head_lines status_line (bytes ++ more))) e (head_lines-stays status_line bytes more)

pub response_never : (bytes : List ℕ) → head_lines status_line bytes ≡ Bad BadHead → NeverHasResponse bytes
response_never bytes e more h rest x = by (few_or_many field_limit (length h.fields))
  where
    by : (length h.fields ≤ field_limit) ⊎ (field_limit < length h.fields) → ⊥
    by (inl few) =
        let both : ◌≡◌ {A = Reading (StatusLine × List model.Field)} (Bad BadHead) (Whole (line_of_response h, map field_of_line h.fields) rest) = sym (stays_bad bytes more BadHead e) ∙ response_found (bytes ++ more) h rest x few in
        absurd cc
    by (inr many) =
        let both : ◌≡◌ {A = Reading (StatusLine × List model.Field)} (Bad BadHead) (Bad LongHead) = sym (stays_bad bytes more BadHead e) ∙ response_exceeds (bytes ++ more) h rest x many in
        absurd cc

pub response_long : (bytes : List ℕ) → head_lines status_line bytes ≡ Bad LongHead → ResponseOverflows field_limit bytes
response_long bytes e more h rest x = by (few_or_many field_limit (length h.fields))
  where
    by : (length h.fields ≤ field_limit) ⊎ (field_limit < length h.fields) → field_limit < length h.fields
    by (inl few) =
        let both : ◌≡◌ {A = Reading (StatusLine × List model.Field)} (Bad LongHead) (Whole (line_of_response h, map field_of_line h.fields) rest) = sym (stays_bad bytes more LongHead e) ∙ response_found (bytes ++ more) h rest x few in
        absurd cc
    by (inr many) = many

pub responses_agree : AgreesOnResponses
responses_agree = record {
  found = response_found;
  whole = λ bytes line shown rest e. subst (ResponseTells bytes) e (response_tells bytes);
  partial = λ bytes e. subst (ResponseTells bytes) e (response_tells bytes);
  never = response_never;
  long = response_long;
}
