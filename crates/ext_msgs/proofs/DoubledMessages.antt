-- What is written of an ask or an answer that was read is at most twice as long as what it was read from.
use Rattle.std.proofs.Common.{◌≡◌, ℕ, zero, suc, ◌+◌, ◌*◌, ◌<◌, ◌≤◌, Bool, true, false, cond, List, [], ◌∷◌, ◌++◌, length, map, is_some, Option, Some, None, Result, Ok, Err, refl, sym, ap, subst, ◌∙◌, arith, inl, inr, ◌⊎◌}
use Rattle.std.proofs.lemmas.Bool.{cases_eq, eq-eqb, ne_eqb}
use Rattle.pb_wire.specs.Records.{Entry}
use Rattle.ext_msgs.specs.declared.fault.MsgFault.{MsgFault}
use Rattle.ext_msgs.specs.declared.fault.MsgFault.TheVariants.{NoMember, BadNumber}
use Rattle.ext_msgs.specs.declared.ask.Ask.{Ask}
use Rattle.ext_msgs.specs.declared.ask.Ask.TheVariants as asks
use Rattle.ext_msgs.specs.declared.answer.HeaderMutation.{HeaderMutation}
use Rattle.ext_msgs.specs.declared.answer.Common.{Common}
use Rattle.ext_msgs.specs.declared.answer.Immediate.{Immediate}
use Rattle.ext_msgs.specs.declared.answer.ModeNumbers.{ModeNumbers}
use Rattle.ext_msgs.specs.declared.answer.Span.{Span}
use Rattle.ext_msgs.specs.declared.answer.Member.{Member}
use Rattle.ext_msgs.specs.declared.answer.Member.TheVariants as members
use Rattle.ext_msgs.specs.declared.answer.Answer.{Answer}
use Rattle.ext_msgs.specs.Fields.{bytes_in, span_at, spans, varints, last_or, bytes_of, number_of, inside, if_any, is_set, low, latest}
use Rattle.ext_msgs.specs.MessageValue.{fields, mutation, Part, no_part, heads, bodies, tails, part_of, known_part, ask_member, headers_ask, body_ask, trailers_ask, ask_by, ask_value, status_code, code, immediate, modes, duration, Kind, no_kind, answers, trails, ends, kind_of, known_kind, answer_member, response, trailers, member_by, answer_modes, answer_timeout, with_member, answer_value}
use Rattle.ext_msgs.specs.Spelling.{filled, some_number, embedded, some_embedded, headers_records, body_records, trailers_records, ask_record, mutation_records, response_records, trailers_response_records, immediate_records, member_records, numbered, mode_records, duration_records, timeout_records, answer_records}
use Rattle.ext_msgs.proofs.Lengths.{size, mono_size}
use Rattle.ext_msgs.proofs.Sizes.{ContentBytes, total, total_nil, total_cons, total_append, HaveBytes, inside_bytes}
use Rattle.ext_msgs.proofs.Weights.{number_weight, at, ats_most, bytes_most, some_lengths, inside_most, sum_of, number_size, varints_at, some_embedded_twice, embedded_twice, embedded_more, embedded_once, Found, found, spans_some, run_all}
use Rattle.ext_msgs.proofs.Doubled.{headers_most, http_trailers_most, body_most, mutation_twice, response_twice, trailers_twice, modes_twice, duration_twice}

abbrev done : {X : Type 0} → X → Result X MsgFault
done x = Ok x

pub same_done : {X : Type 0} (x y : X) → done x ≡ done y → x ≡ y
same_done x y e = cc

pub not_done : {X : Type 0} (f : MsgFault) (x : X) → Err f ≡ done x → ⊥
not_done f x e = cc

-- ---- ProcessingRequest

part_known : (k : Part) (n : ℕ) → (known_part k n ≡ 0) ⊎ (known_part k n ≡ n)
part_known no_part n = inl refl
part_known heads n = inr refl
part_known bodies n = inr refl
part_known tails n = inr refl

-- what sets a member has bytes as this field
pub ask_span : (e : Entry) (n : ℕ) → ask_member e ≡ n → (n ≡ 0 → ⊥) → (b : List ℕ) × (span_at n e ≡ Some b)
ask_span e n is some = by_bytes (bytes_in e.content) refl
  where
    by_bytes : (o : Option (List ℕ)) → bytes_in e.content ≡ o → (b : List ℕ) × (span_at n e ≡ Some b)
    by_bytes None q = let no : 0 ≡ n = rw q at is in absurd (some (sym no))
    by_bytes (Some b) q = let known : known_part (part_of e.number) e.number ≡ n = rw q at is in elim (part_known (part_of e.number) e.number) [
      | inl none ↦ absurd (some (sym known ∙ none))
      | inr same ↦ (b, rw (eq-eqb e.number n (sym same ∙ known)) q)
    ]

module _ (es run : List Entry) (n : ℕ) (f : Found ask_member es n run) (h : HaveBytes run) (positive : n ≡ 0 → ⊥) where
  asked_some : 0 < length (spans n run)
  asked_some = let s = ask_span f.last n f.is positive in subst (λ r. 0 < length (spans n r)) (sym f.whole) (spans_some n f.front f.last s.0 s.1)

  -- a member with these records
  asked_twice : (out : List Entry) → n < 15 → total out ≤ total (inside n run) + 2 → total (embedded n out ∷ []) ≤ 2 * total es
  asked_twice out low le = omega (arith, total_cons (embedded n out) [], total_nil, embedded_more n run out low h asked_some le, f.some n, ats_most n [] es tt)

pub unset_ask : (n : ℕ) (run : List Entry) → 8 ≤ n → ask_by n run ≡ Err NoMember
unset_ask n run le = rw (ne_eqb n 2 (omega arith), ne_eqb n 3 (omega arith), ne_eqb n 4 (omega arith), ne_eqb n 5 (omega arith), ne_eqb n 6 (omega arith), ne_eqb n 7 (omega arith)) refl

abbrev AskTwice : List Entry → Ask → Type 0
AskTwice es a = total (ask_record a ∷ []) ≤ 2 * total es

by_ask : (es : List Entry) (n : ℕ) (run : List Entry) (a : Ask) → Found ask_member es n run → HaveBytes run → (n ≡ 0 → ⊥) → ask_by n run ≡ Ok a → AskTwice es a
by_ask es zero run a f h some e = absurd (some refl)
by_ask es (suc zero) run a f h some e = absurd (not_done NoMember a e)
by_ask es (suc (suc zero)) run a f h some e =
    subst (AskTwice es) (same_done (headers_ask asks.RequestHeaders (inside 2 run)) a e) (asked_twice es run 2 f h some (headers_records (fields (inside 1 (inside 2 run))) (is_set (number_of 3 (inside 2 run)))) (omega arith) (headers_most (inside 2 run) (inside_bytes 2 run h)))
by_ask es (suc (suc (suc zero))) run a f h some e =
    subst (AskTwice es) (same_done (headers_ask asks.ResponseHeaders (inside 3 run)) a e) (asked_twice es run 3 f h some (headers_records (fields (inside 1 (inside 3 run))) (is_set (number_of 3 (inside 3 run)))) (omega arith) (headers_most (inside 3 run) (inside_bytes 3 run h)))
by_ask es (suc (suc (suc (suc zero)))) run a f h some e =
    subst (AskTwice es) (same_done (body_ask asks.RequestBody (inside 4 run)) a e) (asked_twice es run 4 f h some (body_records (bytes_of 1 (inside 4 run)) (is_set (number_of 2 (inside 4 run)))) (omega arith) (omega (arith, body_most (inside 4 run))))
by_ask es (suc (suc (suc (suc (suc zero))))) run a f h some e =
    subst (AskTwice es) (same_done (body_ask asks.ResponseBody (inside 5 run)) a e) (asked_twice es run 5 f h some (body_records (bytes_of 1 (inside 5 run)) (is_set (number_of 2 (inside 5 run)))) (omega arith) (omega (arith, body_most (inside 5 run))))
by_ask es (suc (suc (suc (suc (suc (suc zero)))))) run a f h some e =
    subst (AskTwice es) (same_done (trailers_ask asks.RequestTrailers (inside 6 run)) a e) (asked_twice es run 6 f h some (trailers_records (fields (inside 1 (inside 6 run)))) (omega arith) (http_trailers_most (inside 6 run) (inside_bytes 6 run h)))
by_ask es (suc (suc (suc (suc (suc (suc (suc zero))))))) run a f h some e =
    subst (AskTwice es) (same_done (trailers_ask asks.ResponseTrailers (inside 7 run)) a e) (asked_twice es run 7 f h some (trailers_records (fields (inside 1 (inside 7 run)))) (omega arith) (http_trailers_most (inside 7 run) (inside_bytes 7 run h)))
by_ask es (suc (suc (suc (suc (suc (suc (suc (suc n)))))))) run a f h some e =
    absurd (not_done NoMember a (sym (unset_ask (suc (suc (suc (suc (suc (suc (suc (suc n)))))))) run (omega arith)) ∙ e))

pub ask_twice : (es : List Entry) (a : Ask) → HaveBytes es → ask_value es ≡ Ok a → total (ask_record a ∷ []) ≤ 2 * total es
ask_twice es a h e =
    let run = latest ask_member es in
    elim (cases_eq run.0 0) [
      | inl none ↦ absurd (not_done NoMember a (sym (ap (λ (n : ℕ). ask_by n run.1) none) ∙ e))
      | inr set ↦ by_ask es run.0 run.1 a (found ask_member es set) (run_all (λ e. ContentBytes e.content) ask_member es h) set e
    ]

-- ---- the members of ProcessingResponse

kind_known : (k : Kind) (n : ℕ) → (known_kind k n ≡ 0) ⊎ (known_kind k n ≡ n)
kind_known no_kind n = inl refl
kind_known answers n = inr refl
kind_known trails n = inr refl
kind_known ends n = inr refl

pub answer_span : (e : Entry) (n : ℕ) → answer_member e ≡ n → (n ≡ 0 → ⊥) → (b : List ℕ) × (span_at n e ≡ Some b)
answer_span e n is some = by_bytes (bytes_in e.content) refl
  where
    by_bytes : (o : Option (List ℕ)) → bytes_in e.content ≡ o → (b : List ℕ) × (span_at n e ≡ Some b)
    by_bytes None q = let no : 0 ≡ n = rw q at is in absurd (some (sym no))
    by_bytes (Some b) q = let known : known_kind (kind_of e.number) e.number ≡ n = rw q at is in elim (kind_known (kind_of e.number) e.number) [
      | inl none ↦ absurd (some (sym known ∙ none))
      | inr same ↦ (b, rw (eq-eqb e.number n (sym same ∙ known)) q)
    ]

-- the code of a status takes no more than its records do
status_most : (status : ℕ) (d : Option ℕ) (vs : List ℕ) → last_or d (map (λ v. Some (low v)) vs) ≡ Some status → (d ≡ Some status) ⊎ (number_size status ≤ sum_of number_size vs)
status_most status d [] e = inl e
status_most status d (v ∷ vs) e = elim (status_most status (Some (low v)) vs e) [
  | inl last ↦ let is : low v ≡ status = cc in inr (omega (arith, ap size (sym is), mono_size (low v) v (omega arith)))
  | inr more ↦ inr (omega (arith, more))
]

code_most : (es : List Entry) (status : ℕ) → status_code es ≡ Some status → number_size status ≤ total es
code_most es status e = elim (status_most status None (varints 1 es) e) [
  | inl none ↦ absurd cc
  | inr le ↦ omega (arith, le, varints_at 1 es (omega arith), ats_most 1 [] es tt)
]

abbrev reply : ℕ → List Entry → Immediate
reply status es = record { code = status; headers = mutation (inside 2 es); body = bytes_of 3 es }

immediate_twice : (es : List Entry) (status : ℕ) → HaveBytes es → code es ≡ Some status → total (immediate_records (reply status es)) ≤ 2 * total es
immediate_twice es status h e =
    let ss = some_number 1 status in
    let ms = mutation_records (mutation (inside 2 es)) in
    let least = code_most (inside 1 es) status e in
    let inner = inside_most 1 es h in
    let some = some_lengths (spans 1 es) (omega (arith, least, inner)) in
    omega (
      arith,
      total_cons (embedded 1 ss) (some_embedded 2 ms ++ filled 3 (bytes_of 3 es)),
      total_append (some_embedded 2 ms) (filled 3 (bytes_of 3 es)),
      embedded_once 1 es ss (omega arith) h some (omega (arith, number_weight 1 status (omega arith), least)),
      some_embedded_twice 2 es ms (omega arith) h (mutation_twice (inside 2 es) (inside_bytes 2 es h)),
      bytes_most 3 3 es (omega arith) (omega arith),
      ats_most 1 (2 ∷ 3 ∷ []) es (omega arith, (omega arith, tt)),
    )

-- a member takes at most twice what the records of one number below 9 take
pub record MemberTwice (es : List Entry) (m : Member) : Type 0 where
  pub number : ℕ
  pub low : number < 9
  pub twice : total (member_records m) ≤ 2 * at number es

none_twice : (es : List Entry) (m : Member) → members.Unset ≡ m → MemberTwice es m
none_twice es m e = subst (MemberTwice es) e (record { number = 0; low = omega arith; twice = omega (arith, total_nil) })

module _ (es run : List Entry) (n : ℕ) (f : Found answer_member es n run) (h : HaveBytes run) (positive : n ≡ 0 → ⊥) where
  answered_some : 0 < length (spans n run)
  answered_some = let s = answer_span f.last n f.is positive in subst (λ r. 0 < length (spans n r)) (sym f.whole) (spans_some n f.front f.last s.0 s.1)

  answered_twice : (out : List Entry) → n < 9 → total out ≤ 2 * total (inside n run) → total (embedded n out ∷ []) ≤ 2 * at n es
  answered_twice out low le = omega (arith, total_cons (embedded n out) [], total_nil, embedded_twice n run out (omega arith) h answered_some le, f.some n)

abbrev reading : ℕ → Option ℕ → List Entry → Result Member MsgFault
reading place o es = immediate place o es

by_code : (es run : List Entry) (place : ℕ) (m : Member) (o : Option ℕ) → Found answer_member es 7 run → HaveBytes run → code (inside 7 run) ≡ o → reading place o (inside 7 run) ≡ Ok m → MemberTwice es m
by_code es run place m None f h c e = absurd (not_done (BadNumber place) m e)
by_code es run place m (Some status) f h c e =
    subst (MemberTwice es) (same_done (members.Immediate (reply status (inside 7 run))) m e)
    (record { number = 7; low = omega arith; twice = answered_twice es run 7 f h (omega arith) (immediate_records (reply status (inside 7 run))) (omega arith) (immediate_twice (inside 7 run) status (inside_bytes 7 run h) c) })

timed_unset : (timed : Bool) (m : Member) → cond timed (done members.Unset) (Err NoMember) ≡ Ok m → members.Unset ≡ m
timed_unset true m e = same_done members.Unset m e
timed_unset false m e = absurd (not_done NoMember m e)

pub unset_member : (place : ℕ) (timed : Bool) (n : ℕ) (run : List Entry) → 8 ≤ n → member_by place timed n run ≡ cond timed (Ok members.Unset) (Err NoMember)
unset_member place timed n run le =
    rw (ne_eqb n 1 (omega arith), ne_eqb n 2 (omega arith), ne_eqb n 3 (omega arith), ne_eqb n 4 (omega arith), ne_eqb n 5 (omega arith), ne_eqb n 6 (omega arith), ne_eqb n 7 (omega arith)) refl

module _ (es : List Entry) (place : ℕ) (timed : Bool) (m : Member) where
  responded : (n : ℕ) (run : List Entry) (make : Common → Member) → n < 9 → ((c : Common) → member_records (make c) ≡ embedded n (response_records c) ∷ []) → Found answer_member es n run → HaveBytes run → (n ≡ 0 → ⊥) → done (make (response (inside n run))) ≡ Ok m → MemberTwice es m
  responded n run make low is f h some e =
      subst (MemberTwice es) (same_done (make (response (inside n run))) m e)
      (record { number = n; low = low; twice = omega (arith, ap total (is (response (inside n run))), answered_twice es run n f h some (response_records (response (inside n run))) low (response_twice (inside n run) (inside_bytes n run h))) })

  trailed : (n : ℕ) (run : List Entry) (make : HeaderMutation → Member) → n < 9 → ((c : HeaderMutation) → member_records (make c) ≡ embedded n (trailers_response_records c) ∷ []) → Found answer_member es n run → HaveBytes run → (n ≡ 0 → ⊥) → done (make (trailers (inside n run))) ≡ Ok m → MemberTwice es m
  trailed n run make low is f h some e =
      subst (MemberTwice es) (same_done (make (trailers (inside n run))) m e)
      (record { number = n; low = low; twice = omega (arith, ap total (is (trailers (inside n run))), answered_twice es run n f h some (trailers_response_records (trailers (inside n run))) low (trailers_twice (inside n run) (inside_bytes n run h))) })

  by_member : (n : ℕ) (run : List Entry) → Found answer_member es n run → HaveBytes run → (n ≡ 0 → ⊥) → member_by place timed n run ≡ Ok m → MemberTwice es m
  by_member zero run f h some e = absurd (some refl)
  by_member (suc zero) run f h some e = responded 1 run members.RequestHeaders (omega arith) (λ c. refl) f h some e
  by_member (suc (suc zero)) run f h some e = responded 2 run members.ResponseHeaders (omega arith) (λ c. refl) f h some e
  by_member (suc (suc (suc zero))) run f h some e = responded 3 run members.RequestBody (omega arith) (λ c. refl) f h some e
  by_member (suc (suc (suc (suc zero)))) run f h some e = responded 4 run members.ResponseBody (omega arith) (λ c. refl) f h some e
  by_member (suc (suc (suc (suc (suc zero))))) run f h some e = trailed 5 run members.RequestTrailers (omega arith) (λ c. refl) f h some e
  by_member (suc (suc (suc (suc (suc (suc zero)))))) run f h some e = trailed 6 run members.ResponseTrailers (omega arith) (λ c. refl) f h some e
  by_member (suc (suc (suc (suc (suc (suc (suc zero))))))) run f h some e = by_code es run place m (code (inside 7 run)) f h refl e
  by_member (suc (suc (suc (suc (suc (suc (suc (suc n)))))))) run f h some e =
      none_twice es m (timed_unset timed m (sym (unset_member place timed (suc (suc (suc (suc (suc (suc (suc (suc n)))))))) run (omega arith)) ∙ e))

  member_twice : HaveBytes es → member_by place timed (latest answer_member es).0 (latest answer_member es).1 ≡ Ok m → MemberTwice es m
  member_twice h e =
      let run = latest answer_member es in
      elim (cases_eq run.0 0) [
        | inl none ↦ none_twice es m (timed_unset timed m (sym (ap (λ (n : ℕ). member_by place timed n run.1) none) ∙ e))
        | inr set ↦ by_member run.0 run.1 (found answer_member es set) (run_all (λ e. ContentBytes e.content) answer_member es h) set e
      ]

-- ---- ProcessingResponse

modes_at : (es : List Entry) → HaveBytes es → total (mode_records (answer_modes es)) ≤ 2 * at 9 es
modes_at es h = by_spans (spans 9 es) refl
  where
    by_spans : (bs : List (List ℕ)) → spans 9 es ≡ bs → total (mode_records (if_any bs (modes (inside 9 es)))) ≤ 2 * at 9 es
    by_spans [] q = omega (arith, total_nil)
    by_spans (b ∷ bs) q =
        let out = numbered 1 (modes (inside 9 es)).numbers in
        omega (arith, total_cons (embedded 9 out) [], total_nil, embedded_twice 9 es out (omega arith) h (omega (arith, ap length q)) (modes_twice (inside 9 es)))

timeout_at : (es : List Entry) → HaveBytes es → total (timeout_records (answer_timeout es)) ≤ 2 * at 10 es
timeout_at es h = by_spans (spans 10 es) refl
  where
    by_spans : (bs : List (List ℕ)) → spans 10 es ≡ bs → total (timeout_records (if_any bs (duration (inside 10 es)))) ≤ 2 * at 10 es
    by_spans [] q = omega (arith, total_nil)
    by_spans (b ∷ bs) q =
        let out = duration_records (duration (inside 10 es)) in
        omega (arith, total_cons (embedded 10 out) [], total_nil, embedded_twice 10 es out (omega arith) h (omega (arith, ap length q)) (duration_twice (inside 10 es)))

-- an answer that was read has a member that was read
pub answer_parts : (modes : Option ModeNumbers) (timeout : Option Span) (r : Result Member MsgFault) (a : Answer) → with_member modes timeout r ≡ Ok a → (m : Member) × (r ≡ Ok m) × (record { member = m; modes = modes; timeout = timeout } ≡ a)
answer_parts modes timeout (Ok m) a e = (m, refl, same_done (record { member = m; modes = modes; timeout = timeout }) a e)
answer_parts modes timeout (Err f) a e = absurd (not_done f a e)

pub answer_twice : (place : ℕ) (es : List Entry) (a : Answer) → HaveBytes es → answer_value place es ≡ Ok a → total (answer_records a) ≤ 2 * total es
answer_twice place es a h e =
    let timed = is_some (answer_timeout es) in
    let p = answer_parts (answer_modes es) (answer_timeout es) (member_by place timed (latest answer_member es).0 (latest answer_member es).1) a e in
    let t = member_twice es place timed p.0 h p.1 in
    subst (λ (x : Answer). total (answer_records x) ≤ 2 * total es) p.2
    (omega (
      arith,
      total_append (member_records p.0) (mode_records (answer_modes es) ++ timeout_records (answer_timeout es)),
      total_append (mode_records (answer_modes es)) (timeout_records (answer_timeout es)),
      t.twice,
      modes_at es h,
      timeout_at es h,
      ats_most t.number (9 ∷ 10 ∷ []) es (omega (arith, t.low), (omega arith, tt)),
    ))
