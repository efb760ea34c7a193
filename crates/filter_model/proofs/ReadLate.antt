-- What comes to be read only with the bytes that follow has no more behind it than they are.
use Rattle.std.proofs.Common.{inl, inr, sym, ap, subst, arith, le-leb, length-append}
use Rattle.std.specs.Prelude.{ℕ, zero, suc, ◌≡◌, ◌⊎◌, ◌<◌, ◌≤◌, Bool, true, false, ◌&&◌, ◌||◌, List, [], ◌∷◌, ◌++◌, length, take, drop, Option, Some, None, ◌==◌, bytes_eq, codes, if◌then◌else◌, nat_le}
use Rattle.ext_msgs.specs.declared.lists.Field.{Field}
use Rattle.http_model.specs.Heads.{Head, StatusLine, field_limit, fields_behind, final_of, head_limit, head_lines, is_interim, message_head, request_fault, request_head, request_line, request_message, request_of, response_lines, response_message, response_message_in, status_line, unless}
use Rattle.http_model.specs.Lines.{AtEmptyEnd, AtEnd, AtStart, FieldShape, InName, InValue, NoField, before, begins_field, begins_with_lf, by_line, by_part, field_of, field_shape, first_line, line, section, section_at, with_field, without_cr}
use Rattle.http_model.specs.Reading.{Bad, BadHead, Fault, LongHead, Partial, Reading, Stays, Whole, limited, onward, within}
use Rattle.http_model.specs.declared.types.Direction.{Direction}
use Rattle.http_model.specs.declared.types.Direction.TheVariants.{Request, Response}
use Rattle.http_model.proofs.HeadsStable.{fields_behind-leaves, head_lines-stays, response_lines-leaves}
use Rattle.http_model.proofs.LinesStable.{first_line-leaves, first_line-stays, line-leaves, line-stays, section-leaves, section-stays}
use Rattle.http_model.proofs.Stable.{LeavesUnder, Reaches, Within, at_limit, limited-stays}

abbrev AtMost : {A : Type 0} → ℕ → Reading A → Type 0
AtMost n (Whole a rest) = length rest ≤ n
AtMost n Partial = Unit {0}
AtMost n (Bad f) = Unit {0}

-- what wasn't there is there with so many bytes more
abbrev pub Late : {A B : Type 0} → Reading A → ℕ → Reading B → Type 0
Late (Whole a rest) n later = Unit {0}
Late Partial n later = AtMost n later
Late (Bad f) n later = Unit {0}

abbrev IsLate : {A : Type 0} → (List ℕ → Reading A) → Type 0
IsLate read = (bytes more : List ℕ) → Late (read bytes) (length more) (read (bytes ++ more))

pub late_at : {A : Type 0} (r r' : Reading A) (n : ℕ) (a : A) (rest : List ℕ) → r ≡ Partial → r' ≡ Whole a rest → Late r n r' → length rest ≤ n
late_at {A} r r' n a rest e f l = subst (λ (x : Reading A). AtMost n x) f (subst (λ (x : Reading A). Late x n r') e l)

under : {A : Type 0} (n m : ℕ) (r : Reading A) → n ≤ suc m → LeavesUnder n r → AtMost m r
under n m (Whole a rest) h l = omega (arith, h, l)
under n m Partial h l = tt
under n m (Bad f) h l = tt

-- Lines

before_most : (n b : ℕ) (r : Reading (List ℕ)) → AtMost n r → AtMost n (before b r)
before_most n b (Whole l rest) h = h
before_most n b Partial h = tt
before_most n b (Bad f) h = tt

before-late : (n b : ℕ) (r r' : Reading (List ℕ)) → Late r n r' → Late (before b r) n (before b r')
before-late n b (Whole l rest) r' h = tt
before-late n b Partial r' h = before_most n b r' h
before-late n b (Bad f) r' h = tt

abbrev line_if : ℕ → List ℕ → Bool → Reading (List ℕ)
line_if b bytes x = elim x [ true ↦ Whole [] bytes | false ↦ before b (line bytes) ]

pub line-late : IsLate line
line-late [] more = under (length more) (length more) (line more) (omega arith) (line-leaves more)
line-late (b ∷ bytes) more = by (line-late bytes more) (b == 10)
  where
    by : Late (line bytes) (length more) (line (bytes ++ more)) → (x : Bool) → Late (line_if b bytes x) (length more) (line_if b (bytes ++ more) x)
    by k true = tt
    by k false = before-late (length more) b (line bytes) (line (bytes ++ more)) k

abbrev first_if : ℕ → List ℕ → Bool → Reading (List ℕ)
first_if b bytes x = elim x [ true ↦ first_line bytes | false ↦ line (b ∷ bytes) ]

first_most : (b : ℕ) (more : List ℕ) (x y : Bool) → AtMost (length more) (elim y [ true ↦ first_line more | false ↦ line_if b more x ])
first_most b more x true = under (length more) (length more) (first_line more) (omega arith) (first_line-leaves more)
first_most b more true false = omega arith
first_most b more false false = before_most (length more) b (line more) (under (length more) (length more) (line more) (omega arith) (line-leaves more))

first_line-late : IsLate first_line
first_line-late [] more = under (length more) (length more) (first_line more) (omega arith) (first_line-leaves more)
first_line-late (b ∷ []) more = by (b == 10) (b == 13)
  where
    by : (x y : Bool) → Late {A = List ℕ} {B = List ℕ} (elim (x || (y && false)) [ true ↦ Partial | false ↦ elim x [ true ↦ Whole [] [] | false ↦ Partial ] ]) (length more)
        (elim (x || (y && begins_with_lf more)) [ true ↦ first_line more | false ↦ line_if b more x ])
    by true y = first_most b more true true
    by false true = first_most b more false (begins_with_lf more)
    by false false = first_most b more false false
first_line-late (b ∷ c ∷ bytes) more = by (first_line-late (c ∷ bytes) more) (b == 10 || (b == 13 && c == 10))
  where
    by : Late (first_line (c ∷ bytes)) (length more) (first_line (c ∷ (bytes ++ more))) → (x : Bool) → Late (first_if b (c ∷ bytes) x) (length more) (first_if b (c ∷ (bytes ++ more)) x)
    by k true = k
    by k false = line-late (b ∷ c ∷ bytes) more

-- Sections

field_most : (n : ℕ) (f : Field) (r : Reading (List Field)) → AtMost n r → AtMost n (with_field f r)
field_most n f (Whole fields rest) h = h
field_most n f Partial h = tt
field_most n f (Bad b) h = tt

field-late : (n : ℕ) (f : Field) (r r' : Reading (List Field)) → Late r n r' → Late (with_field f r) n (with_field f r')
field-late n f (Whole fields rest) r' h = tt
field-late n f Partial r' h = field_most n f r' h
field-late n f (Bad b) r' h = tt

by_line-late : (bad : Fault) (n : ℕ) (s : FieldShape) (l rest rest' : List ℕ) (next : List ℕ → Reading (List Field)) → Late (next rest) n (next rest')
    → Late (by_line bad s l rest next) n (by_line bad s l rest' next)
by_line-late bad n AtStart l rest rest' next k = tt
by_line-late bad n AtEmptyEnd l rest rest' next k = tt
by_line-late bad n InValue l rest rest' next k = field-late n (field_of l) (next rest) (next rest') k
by_line-late bad n AtEnd l rest rest' next k = field-late n (field_of l) (next rest) (next rest') k
by_line-late bad n InName l rest rest' next k = tt
by_line-late bad n NoField l rest rest' next k = tt

by_line_most : (bad : Fault) (n : ℕ) (s : FieldShape) (l rest : List ℕ) (next : List ℕ → Reading (List Field)) → length rest ≤ n → AtMost n (next rest) → AtMost n (by_line bad s l rest next)
by_line_most bad n AtStart l rest next h k = h
by_line_most bad n AtEmptyEnd l rest next h k = h
by_line_most bad n InValue l rest next h k = field_most n (field_of l) (next rest) k
by_line_most bad n AtEnd l rest next h k = field_most n (field_of l) (next rest) k
by_line_most bad n InName l rest next h k = tt
by_line_most bad n NoField l rest next h k = tt

by_part_most : (bad : Fault) (n : ℕ) (s : FieldShape) → AtMost n (by_part bad s)
by_part_most bad n AtStart = tt
by_part_most bad n InName = tt
by_part_most bad n InValue = tt
by_part_most bad n AtEmptyEnd = tt
by_part_most bad n AtEnd = tt
by_part_most bad n NoField = tt

by_part-late : (bad : Fault) (n : ℕ) (s : FieldShape) (r' : Reading (List Field)) → AtMost n r' → Late (by_part bad s) n r'
by_part-late bad n AtStart r' h = h
by_part-late bad n InName r' h = h
by_part-late bad n InValue r' h = h
by_part-late bad n AtEmptyEnd r' h = h
by_part-late bad n AtEnd r' h = h
by_part-late bad n NoField r' h = tt

abbrev Leaves : (List ℕ → Reading (List Field)) → Type 0
Leaves next = (bytes : List ℕ) → LeavesUnder (suc (length bytes)) (next bytes)

next_most : (n : ℕ) (next : List ℕ → Reading (List Field)) (rest : List ℕ) → Leaves next → length rest ≤ n → AtMost n (next rest)
next_most n next rest k h = under (suc (length rest)) n (next rest) (omega (arith, h)) (k rest)

section_at_most : (bad : Fault) (n : ℕ) (bytes : List ℕ) (r : Reading (List ℕ)) (next : List ℕ → Reading (List Field)) → Leaves next → AtMost n r → AtMost n (section_at bad bytes r next)
section_at_most bad n bytes (Whole l rest) next k h = by_line_most bad n (field_shape AtStart l) l rest next h (next_most n next rest k h)
section_at_most bad n bytes Partial next k h = by_part_most bad n (field_shape AtStart bytes)
section_at_most bad n bytes (Bad f) next k h = tt

section_at-late : (bad : Fault) (bytes more : List ℕ) (next : List ℕ → Reading (List Field)) → IsLate next → Leaves next
    → Late (section_at bad bytes (line bytes) next) (length more) (section_at bad (bytes ++ more) (line (bytes ++ more)) next)
section_at-late bad bytes more next i k = by (line bytes) (line (bytes ++ more)) (line-stays bytes more) (line-late bytes more)
  where
    by : (r r' : Reading (List ℕ)) → Stays r more r' → Late r (length more) r' → Late (section_at bad bytes r next) (length more) (section_at bad (bytes ++ more) r' next)
    by (Whole l rest) r' s h =
        subst (λ x. Late (by_line bad (field_shape AtStart l) l rest next) (length more) (section_at bad (bytes ++ more) x next)) (sym s)
        (by_line-late bad (length more) (field_shape AtStart l) l rest (rest ++ more) next (i rest more))
    by Partial r' s h =
        by_part-late bad (length more) (field_shape AtStart bytes) (section_at bad (bytes ++ more) r' next) (section_at_most bad (length more) (bytes ++ more) r' next k h)
    by (Bad f) r' s h = tt

abbrev section_if : Fault → List ℕ → Bool → Reading (List Field)
section_if bad bytes x = elim x [ true ↦ Bad LongHead | false ↦ section_at bad bytes (line bytes) (λ rest. Bad LongHead) ]

section-late : (bad : Fault) (n : ℕ) → IsLate (section bad n)
unfolding section
section-late bad zero [] more = under (suc (length more)) (length more) (section bad zero more) (omega arith) (section-leaves bad zero more)
section-late bad zero (b ∷ bytes) more = by (begins_field (b ∷ bytes))
  where
    by : (x : Bool) → Late (section_if bad (b ∷ bytes) x) (length more) (section_if bad (b ∷ (bytes ++ more)) x)
    by true = tt
    by false = section_at-late bad (b ∷ bytes) more (λ rest. Bad LongHead) (λ x y. tt) (λ x. tt)
section-late bad (suc n) bytes more = section_at-late bad bytes more (section bad n) (section-late bad n) (section-leaves bad n)

-- One thing behind another, and limits

onward-late : {A B : Type 0} (r r' : Reading A) (more : List ℕ) (next : A → List ℕ → Reading B) → Stays r more r' → Late r (length more) r'
    → ((a : A) (rest : List ℕ) → Late (next a rest) (length more) (next a (rest ++ more))) → ((a : A) (rest : List ℕ) → length rest ≤ length more → AtMost (length more) (next a rest))
    → Late (onward r next) (length more) (onward r' next)
onward-late (Whole a rest) r' more next s l i k = subst (λ x. Late (next a rest) (length more) (onward x next)) (sym s) (i a rest)
onward-late Partial (Whole a rest) more next s l i k = k a rest l
onward-late Partial Partial more next s l i k = tt
onward-late Partial (Bad f) more next s l i k = tt
onward-late (Bad f) r' more next s l i k = tt

limited-late : {A : Type 0} (n : ℕ) (long : Fault) (read : List ℕ → Reading A) → IsLate read → IsLate (limited n long read)
limited-late {A} n long read k bytes more = by (at_limit n bytes more)
  where
    too_long : (b : Bool) (r' : Reading A) → b ≡ true → Late {A = A} (if b then Bad long else Partial) (length more) r'
    too_long true r' e = tt
    too_long false r' e = absurd cc

    reached : (r r' : Reading A) → nat_le n (length bytes) ≡ true → Late (within n long bytes r) (length more) r'
    reached (Whole a rest) r' e = tt
    reached Partial r' e = too_long (nat_le n (length bytes)) r' e
    reached (Bad f) r' e = tt

    awaits : (b : Bool) (r' : Reading A) → AtMost (length more) r' → Late {A = A} (if b then Bad long else Partial) (length more) r'
    awaits true r' h = tt
    awaits false r' h = h

    none : (b : Bool) → AtMost {A = A} (length more) (if b then Bad long else Partial)
    none true = tt
    none false = tt

    later : (w : Within n bytes more) (r' : Reading A) → AtMost (length w.next) r' → AtMost (length more) (within n long (bytes ++ more) r')
    later w (Whole a rest) h =
        let e : length (w.next ++ w.others) ≡ length more = ap length w.joined in
        let f : length (rest ++ drop n (bytes ++ more)) ≡ length (rest ++ w.others) = ap (λ l. length (rest ++ l)) w.dropped_more in
        omega (arith, h, e, f, length-append rest w.others, length-append w.next w.others)
    later w Partial h = none (nat_le n (length (bytes ++ more)))
    later w (Bad f) h = tt

    within_it : (w : Within n bytes more) (r r' : Reading A) → Late r (length w.next) r' → Late (within n long bytes r) (length more) (within n long (bytes ++ more) r')
    within_it w (Whole a rest) r' h = tt
    within_it w Partial r' h = awaits (nat_le n (length bytes)) (within n long (bytes ++ more) r') (later w r' h)
    within_it w (Bad f) r' h = tt

    by : Reaches n bytes more ⊎ Within n bytes more → Late (limited n long read bytes) (length more) (limited n long read (bytes ++ more))
    by (inl w) = reached (read (take n bytes)) (limited n long read (bytes ++ more)) (le-leb n (length bytes) w.long)
    by (inr w) = within_it w (read (take n bytes)) (read (take n (bytes ++ more)))
        (subst (λ l. Late (read l) (length w.next) (read (take n (bytes ++ more)))) (sym w.taken)
        (subst (λ l. Late (read bytes) (length w.next) (read l)) (sym w.taken_more) (k bytes w.next)))

-- Heads

fields_behind-late : {A : Type 0} (o : Option A) → IsLate (fields_behind o)
fields_behind-late None bytes more = tt
fields_behind-late (Some first) bytes more =
    onward-late (section BadHead field_limit bytes) (section BadHead field_limit (bytes ++ more)) more (λ fields rest. Whole (first, fields) rest)
    (section-stays BadHead field_limit bytes more) (section-late BadHead field_limit bytes more) (λ fields rest. tt) (λ fields rest h. h)

head_lines-late : {A : Type 0} (parse : List ℕ → Option A) → IsLate (head_lines parse)
head_lines-late parse bytes more =
    onward-late (first_line bytes) (first_line (bytes ++ more)) more (λ l rest. fields_behind (parse (without_cr l)) rest)
    (first_line-stays bytes more) (first_line-late bytes more) (λ l rest. fields_behind-late (parse (without_cr l)) rest more)
    (λ l rest h. under (suc (length more)) (length more) (fields_behind (parse (without_cr l)) rest) (omega arith)
    (fields_behind-leaves (suc (length more)) (parse (without_cr l)) rest (omega (arith, h))))

unless-late : {A : Type 0} (o : Option Fault) (a : A) (rest rest' : List ℕ) (n : ℕ) → Late (unless o a rest) n (unless o a rest')
unless-late None a rest rest' n = tt
unless-late (Some f) a rest rest' n = tt

unless_most : {A : Type 0} (o : Option Fault) (a : A) (rest : List ℕ) (n : ℕ) → length rest ≤ n → AtMost n (unless o a rest)
unless_most None a rest n h = h
unless_most (Some f) a rest n h = tt

request_message-late : IsLate request_message
unfolding request_message
request_message-late bytes more =
    onward-late (limited head_limit LongHead (head_lines request_line) bytes) (limited head_limit LongHead (head_lines request_line) (bytes ++ more)) more request_of
    (limited-stays head_limit LongHead (head_lines request_line) (head_lines-stays request_line) bytes more)
    (limited-late head_limit LongHead (head_lines request_line) (head_lines-late request_line) bytes more)
    (λ h rest. unless-late (request_fault h.0 h.1) (request_head h.0 h.1) rest (rest ++ more) (length more))
    (λ h rest l. unless_most (request_fault h.0 h.1) (request_head h.0 h.1) rest (length more) l)

-- behind interim responses

abbrev Behind : ℕ → Bool → StatusLine × List Field → List ℕ → Reading Head
Behind n to_head x rest = elim (is_interim x.0) [
  | true ↦ elim (bytes_eq x.0.status (codes "101")) [ true ↦ Bad BadHead | false ↦ response_message_in n to_head rest ]
  | false ↦ final_of to_head x rest
]

-- by what the status says
abbrev behind_by : ℕ → Bool → StatusLine × List Field → List ℕ → Bool → Bool → Reading Head
behind_by n to_head x rest b c = elim b [ true ↦ elim c [ true ↦ Bad BadHead | false ↦ response_message_in n to_head rest ] | false ↦ final_of to_head x rest ]

behind_most : (n m : ℕ) (to_head : Bool) (x : StatusLine × List Field) (rest : List ℕ) → length rest ≤ m → AtMost m (response_message_in n to_head rest) → (b c : Bool) → AtMost m (behind_by n to_head x rest b c)
behind_most n m to_head x rest h k true true = tt
behind_most n m to_head x rest h k true false = k
behind_most n m to_head x rest h k false c = unless_most _ _ rest m h

response_in_most : (n m : ℕ) (to_head : Bool) (bytes : List ℕ) → length bytes ≤ m → AtMost m (response_message_in n to_head bytes)
unfolding response_message_in
response_in_most zero m to_head bytes h = tt
response_in_most (suc n) m to_head bytes h = by (response_lines bytes) (response_lines-leaves bytes) (λ rest. response_in_most n m to_head rest)
  where
    by : (r : Reading (StatusLine × List Field)) → LeavesUnder (length bytes) r → ((rest : List ℕ) → length rest ≤ m → AtMost m (response_message_in n to_head rest)) → AtMost m (onward r (Behind n to_head))
    by (Whole x rest) l k =
        let s : length rest ≤ m = omega (arith, l, h) in
        behind_most n m to_head x rest s (k rest s) (is_interim x.0) (bytes_eq x.0.status (codes "101"))
    by Partial l k = tt
    by (Bad f) l k = tt

response_in-late : (n m : ℕ) (to_head : Bool) (bytes more : List ℕ) → length bytes < n → length (bytes ++ more) < m
    → Late (response_message_in n to_head bytes) (length more) (response_message_in m to_head (bytes ++ more))
unfolding response_message_in
response_in-late zero m to_head bytes more h k = absurd (omega (arith, h))
response_in-late (suc n) zero to_head bytes more h k = absurd (omega (arith, k))
response_in-late (suc n) (suc m) to_head bytes more h k =
    by (response_lines bytes) (response_lines (bytes ++ more)) (response_lines-leaves bytes) (response_lines-leaves (bytes ++ more))
    (limited-stays head_limit LongHead (head_lines status_line) (head_lines-stays status_line) bytes more)
    (limited-late head_limit LongHead (head_lines status_line) (head_lines-late status_line) bytes more)
    (λ rest. response_in-late n m to_head rest more)
  where
    next : (x : StatusLine × List Field) (rest : List ℕ) → Late (response_message_in n to_head rest) (length more) (response_message_in m to_head (rest ++ more)) → (b c : Bool)
        → Late (behind_by n to_head x rest b c) (length more) (behind_by m to_head x (rest ++ more) b c)
    next x rest i true true = tt
    next x rest i true false = i
    next x rest i false c = unless-late _ _ rest (rest ++ more) (length more)

    by : (r r' : Reading (StatusLine × List Field)) → LeavesUnder (length bytes) r → LeavesUnder (length (bytes ++ more)) r' → Stays r more r' → Late r (length more) r'
        → ((rest : List ℕ) → length rest < n → length (rest ++ more) < m → Late (response_message_in n to_head rest) (length more) (response_message_in m to_head (rest ++ more)))
        → Late (onward r (Behind n to_head)) (length more) (onward r' (Behind m to_head))
    by (Whole x rest) r' p q s l i =
        let small : length (rest ++ more) < length (bytes ++ more) = subst (LeavesUnder (length (bytes ++ more))) s q in
        subst (λ y. Late (Behind n to_head x rest) (length more) (onward y (Behind m to_head))) (sym s)
        (next x rest (i rest (omega (arith, h, p)) (omega (arith, k, small))) (is_interim x.0) (bytes_eq x.0.status (codes "101")))
    by Partial (Whole x rest) p q s l i =
        behind_most m (length more) to_head x rest l (response_in_most m (length more) to_head rest l) (is_interim x.0) (bytes_eq x.0.status (codes "101"))
    by Partial Partial p q s l i = tt
    by Partial (Bad f) p q s l i = tt
    by (Bad f) r' p q s l i = tt

pub message_head-late : (d : Direction) (to_head : Bool) → IsLate (message_head d to_head)
unfolding response_message
message_head-late Request to_head bytes more = request_message-late bytes more
message_head-late Response to_head bytes more =
    response_in-late (suc (length bytes)) (suc (length (bytes ++ more))) to_head bytes more (omega arith) (omega arith)
