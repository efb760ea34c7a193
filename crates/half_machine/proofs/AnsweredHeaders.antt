-- A half whose oldest ask out was that of the headers, and was answered.
use Rattle.std.proofs.Common.{inr, refl, sym, ◌∙◌, ap, subst, arith, append-nil, length-append}
use Rattle.std.specs.Prelude.{ℕ, ◌≡◌, ◌+◌, ◌-◌, ◌≤◌, Bool, true, false, not, ◌&&◌, ◌||◌, List, ◌∷◌, ◌++◌, Some, None, [], length, drop, map, filter, flat_map, Option, is_some, option_map, unwrap_or, if◌then◌else◌}
use Rattle.std.specs.List.{list_any}
use Rattle.ext_msgs.specs.declared.answer.BodyChange.{BodyChange}
use Rattle.ext_msgs.specs.declared.answer.BodyChange.TheVariants.{Absent, Bytes, Clear, Streamed as StreamedBack}
use Rattle.ext_msgs.specs.declared.answer.Common.{Common}
use Rattle.ext_msgs.specs.declared.lists.Field.{Field}
use Rattle.header_mutation.specs.Mutated.{mutated}
use Rattle.header_mutation.specs.declared.rules.PartKind.TheVariants.{Trailers as TrailerPart}
use Rattle.http_model.specs.declared.types.Direction.{Direction}
use Rattle.http_model.specs.declared.types.Framing.TheVariants.{NoField}
use Rattle.body_hold.specs.Steps.{hand_replaced}
use Rattle.filter_model.specs.Config.{CourseConfig}
use Rattle.filter_model.specs.Course.{Course, AskedPart, Headers, Outgoing, changed_at, changed_head, body_of, head_kind, fields_or, under, is_bare, is_buffered, is_body, is_headers, is_trailers, is_passing, out, pairs, bytes_in, asked_bytes, answered_bytes, answered_pieces, answer_to, new_piece, replaces, replacement, replacement_at, unasked}
use Rattle.filter_model.specs.Half.{Progress}
use Rattle.filter_model.proofs.CourseGrows.{with_answer, answer_kept, drop_more, none_of_kind, no_bytes}
use Rattle.half_machine.specs.Answering.{brings_other, change_bytes, new_bytes, other_size, ready_with, with_other, with_headers_answer}
use Rattle.half_machine.specs.Judging.{head_under}
use Rattle.half_machine.specs.Pieces.{OfPieces, pieces_of, pieces_by, lengths_of, unless_none}
use Rattle.half_machine.specs.Room.{most_back}
use Rattle.half_machine.specs.Stands.{AreKept, MadeWith, OfAnswers, OfHold, Ties, flow, left_hand, piece_bytes}
use Rattle.half_machine.specs.declared.half.Half.{Half}
use Rattle.half_machine.specs.declared.marks.Mark.TheVariants as mark
use Rattle.half_machine.proofs.Answered.{joined as answered, assemble, lent_out}
use Rattle.half_machine.proofs.AnsweredBody.{other_head, lengths_more}
use Rattle.half_machine.proofs.AskedBody.{no_pieces}
use Rattle.half_machine.proofs.AtHand.{flow_kept}
use Rattle.half_machine.proofs.Coming.{answered_were_asked}
use Rattle.half_machine.proofs.Early.{unreplaced_at, same_head}
use Rattle.half_machine.proofs.Joining.{answer_first, once_past, unanswered_out, stopped_by, same_answered, same_pieces}
use Rattle.half_machine.proofs.Judged.{head_read, ruled}
use Rattle.half_machine.proofs.Lending.{hand_kept, left_kept, no_bodies, none_out, unasked_kept}

clash : true ≡ false → ⊥
clash e = cc

-- What is known while the headers are out
pub record HeadersOut (d : Direction) (p : Progress) (x : Half) (a : Common) : Type 0 where
  pub none : answer_to is_headers p.course ≡ None
  pub no_body : answer_to is_body p.course ≡ None
  pub kept : is_some (replacement d p.course) ≡ false
  pub head : p.course.head ≡ None
  pub taken : p.taken.body ≡ 0
  pub out : x.hold.out ≡ []
  pub lent : x.hold.lent ≡ []
  pub no_pieces : answered_pieces p.course ≡ []
  pub no_bytes : asked_bytes p.course.asks ≡ 0
  pub bytes : piece_bytes (with_answer a p.course) ≡ piece_bytes p.course
  pub answer : answer_to is_headers (with_answer a p.course) ≡ Some a
  pub hand : x.hold.hand ≡ p.course.original.body

pub headers_out : (c : CourseConfig) (d : Direction) (p : Progress) (x : Half) (a : Common) (f : List Field) (l : Bool) (more : List AskedPart) → Ties c d p x → out p.course ≡ Headers f l ∷ more
    → p.course.released ≡ false → HeadersOut d p x a
headers_out c d p x a f l more t o r =
    let w : Course = p.course in
    let unasked : list_any is_body w.asks ≡ false = t.sound.in_turn (ap (list_any is_headers) o) in
    let none : answer_to is_headers w ≡ None = unanswered_out is_headers w (Headers f l) more t.sound.once_headers o refl in
    let kept : is_some (replacement d w) ≡ false = unreplaced_at (is_bare d w.original.length) (answer_to is_headers w) none in
    let head : w.head ≡ None = gone w.head refl in
    let taken : p.taken.body ≡ 0 = t.gone.early head in
    let out : x.hold.out ≡ [] = t.hold.idle unasked kept in
    let size : length x.hold.out ≡ 0 = ap length out in
    let bytes : asked_bytes w.asks ≡ 0 = no_bytes w.asks unasked in
    let at : ℕ = p.taken.body + length x.hold.out in
    let left : left_hand w at ≡ asked_bytes w.asks + (at - piece_bytes w) = left_kept w at r in
    let all : left_hand w at ≡ 0 = omega arith in
    record {
      none = none;
      no_body = ap (option_map (λ (q : AskedPart × Common). q.1)) (none_of_kind is_body w.asks w.answers unasked);
      kept = kept;
      head = head;
      taken = taken;
      out = out;
      lent = t.hold.lent ∙ ap (map bytes_in) (no_bodies (out_of w) (none_out w unasked));
      no_pieces = no_pieces w.asks w.answers unasked;
      no_bytes = bytes;
      bytes = ap (λ z. length (flat_map (λ p. p) z)) (same_pieces w a (Headers f l) more o refl);
      answer = answer_first is_headers w a (Headers f l) more o refl none;
      hand = t.hold.hand ∙ hand_kept d w at kept ∙ ap (λ n. drop n w.original.body) all;
    }
  where
    out_of : Course → List AskedPart
    out_of w = drop (length w.answers) w.asks

    gone : (h : Option Outgoing) → p.course.head ≡ h → p.course.head ≡ None
    gone None e = e
    gone (Some h) e = absurd (clash (ap (list_any is_headers) (sym o) ∙ t.sound.no_headers h e r))

-- Another body

other_is : (bare replace : Bool) (o : Option (List ℕ)) → (not bare && replace && is_some o) ≡ is_some (if bare then None else (if replace then o else None))
other_is true replace o = refl
other_is false true o = refl
other_is false false o = refl

other_bytes : (bare replace : Bool) (o : Option (List ℕ)) → (not bare && replace && is_some o) ≡ true → (if bare then None else (if replace then o else None)) ≡ Some (unwrap_or o [])
other_bytes true replace o e = absurd (clash (sym e))
other_bytes false true (Some b) e = refl
other_bytes false true None e = absurd (clash (sym e))
other_bytes false false o e = absurd (clash (sym e))

pub new_few : (change : BodyChange) (n : ℕ) → length (change_bytes change) ≤ n → length (new_bytes change) ≤ n
new_few Absent n e = omega arith
new_few (Bytes b) n e = omega arith
new_few (Clear true) n e = omega arith
new_few (Clear false) n e = omega arith
new_few (StreamedBack b last) n e = omega arith

bare_is : (c : CourseConfig) (d : Direction) (p : Progress) (x : Half) → MadeWith c d x → Ties c d p x → is_bare x.direction x.arrived.framed ≡ is_bare d p.course.original.length
bare_is c d p x m t = ap (λ z. is_bare z x.arrived.framed) (sym m.direction) ∙ ap (is_bare d) t.arrived.framed

replaced_is : (d : Direction) (p : Progress) (x : Half) (a : Common) → HeadersOut d p x a
    → replacement d (with_answer a p.course) ≡ replacement_at (is_bare d p.course.original.length) (Some a)
replaced_is d p x a k = ap (replacement_at (is_bare d p.course.original.length)) k.answer

brings_is : (c : CourseConfig) (d : Direction) (p : Progress) (x : Half) (a : Common) → MadeWith c d x → Ties c d p x → HeadersOut d p x a
    → brings_other x a ≡ is_some (replacement d (with_answer a p.course))
brings_is c d p x a m t k =
    ap (λ b. not b && a.replace && is_some (new_piece a.body)) (bare_is c d p x m t)
    ∙ other_is (is_bare d p.course.original.length) a.replace (new_piece a.body) ∙ ap is_some (sym (replaced_is d p x a k))

brings_bytes : (c : CourseConfig) (d : Direction) (p : Progress) (x : Half) (a : Common) → MadeWith c d x → Ties c d p x → HeadersOut d p x a → brings_other x a ≡ true
    → replacement d (with_answer a p.course) ≡ Some (new_bytes a.body)
brings_bytes c d p x a m t k e =
    replaced_is d p x a k
    ∙ other_bytes (is_bare d p.course.original.length) a.replace (new_piece a.body)
    (sym (ap (λ b. not b && a.replace && is_some (new_piece a.body)) (bare_is c d p x m t)) ∙ e)

-- The bytes where the body stays

hold_stays : (c : CourseConfig) (d : Direction) (p : Progress) (x : Half) (a : Common) (f : List Field) (l : Bool) (more : List AskedPart) → Ties c d p x → out p.course ≡ Headers f l ∷ more
    → p.course.released ≡ false → HeadersOut d p x a → is_some (replacement d (with_answer a p.course)) ≡ false → OfHold x.hold c d (with_answer a p.course) p.taken.body
hold_stays c d p x a f l more t o r k e =
    let w : Course = p.course in
    let s : OfHold x.hold c d w p.taken.body = t.hold in
    let at : ℕ = p.taken.body + length x.hold.out in
    let bytes : piece_bytes (with_answer a w) ≡ piece_bytes w = k.bytes in
    let left : left_hand (with_answer a w) at ≡ left_hand w at =
    left_kept (with_answer a w) at r ∙ ap (λ n. asked_bytes w.asks + (at - n)) bytes ∙ sym (left_kept w at r) in
    let taken = k.taken in
    record {
      lent = lent_out c d p x (Headers f l) more t o ∙ ap (λ z. map bytes_in (filter is_body z)) (sym (drop_more w.asks w.answers (Headers f l) more a o));
      hand = s.hand ∙ hand_kept d w at k.kept ∙ ap (λ n. drop n w.original.body) (sym left) ∙ sym (hand_kept d (with_answer a w) at e);
      out = ap (λ z. z ++ (if is_passing (with_answer a w) then x.hold.hand else [])) k.out
          ∙ ap (λ z. if is_passing (with_answer a w) then z else []) k.hand
          ∙ sym flow_is ∙ ap (λ n. drop n (flow c d (with_answer a w))) (sym k.taken);
      pieces_first = λ z. let n = s.pieces_first k.kept in omega arith;
      within = λ z. let n = s.within k.kept in omega arith;
      there = omega arith;
      idle = λ z u. k.out;
      hand_fits = s.hand_fits;
      lent_fits = s.lent_fits;
    }
  where
    none : answered_bytes (pairs (with_answer a p.course)) ≡ 0
    none =
        same_answered p.course a (Headers f l) more o refl
        ∙ (let n : answered_bytes (pairs p.course) ≤ asked_bytes p.course.asks = answered_were_asked p.course.asks p.course.answers in let z = k.no_bytes in omega arith)

    flow_is : flow c d (with_answer a p.course) ≡ (if is_passing (with_answer a p.course) then p.course.original.body else [])
    flow_is =
        flow_kept c d (with_answer a p.course) e
        ∙ ap (λ z. flat_map (λ p. p) z ++ (if is_passing (with_answer a p.course) then drop (answered_bytes (pairs (with_answer a p.course))) p.course.original.body else []))
        (same_pieces p.course a (Headers f l) more o refl ∙ k.no_pieces)
        ∙ ap (λ n. if is_passing (with_answer a p.course) then drop n p.course.original.body else []) none

-- The bytes where another body takes its place

either : (q : Bool) (l : List ℕ) → (if q then l else l) ≡ l
either true l = refl
either false l = refl

hold_other : (c : CourseConfig) (d : Direction) (p : Progress) (x : Half) (a : Common) (b : List ℕ) (f : List Field) (l : Bool) (more : List AskedPart) → Ties c d p x → out p.course ≡ Headers f l ∷ more
    → HeadersOut d p x a → replacement d (with_answer a p.course) ≡ Some b → OfHold (hand_replaced b x.hold) c d (with_answer a p.course) p.taken.body
hold_other c d p x a b f l more t o k e =
    let w : Course = p.course in
    let s : OfHold x.hold c d w p.taken.body = t.hold in
    let some : is_some (replacement d (with_answer a w)) ≡ true = ap is_some e in
    let taken = k.taken in
    record {
      lent = lent_out c d p x (Headers f l) more t o ∙ ap (λ z. map bytes_in (filter is_body z)) (sym (drop_more w.asks w.answers (Headers f l) more a o));
      hand = sym (ap (λ q. if q then [] else drop (left_hand (with_answer a w) (p.taken.body + length (x.hold.out ++ b))) w.original.body) some);
      out = ap (λ z. (z ++ b) ++ (if is_passing (with_answer a w) then [] else [])) k.out ∙ ap (λ z. b ++ z) (either (is_passing (with_answer a w)) [])
          ∙ append-nil b ∙ sym flow_is ∙ ap (λ n. drop n (flow c d (with_answer a w))) (sym k.taken);
      pieces_first = λ z. absurd (clash (sym some ∙ z));
      within = λ z. absurd (clash (sym some ∙ z));
      there = omega arith;
      idle = λ z u. absurd (clash (sym some ∙ u));
      hand_fits = omega arith;
      lent_fits = s.lent_fits;
    }
  where
    flow_is : flow c d (with_answer a p.course) ≡ b
    flow_is =
        ap (λ r. body_of (changed_at c (with_answer a p.course) (Some (record { fields = []; framing = NoField })) r)) e
        ∙ append-nil (b ++ []) ∙ append-nil b

nothing_left : {A : Type 0} (gone left : List A) → [] ≡ gone ++ left → left ≡ []
nothing_left [] left e = sym e
nothing_left (g ∷ gone) left e = absurd cc

no_lengths_left : (d : Direction) (p : Progress) (x : Half) (a : Common) → OfPieces x.pieces (pieces_of d p.course) p.taken.body → HeadersOut d p x a → x.pieces ≡ []
no_lengths_left d p x a s k = s.lengths ∙ ap lengths_of (nothing_left s.gone s.left (sym (none (replacement d p.course) k.kept) ∙ s.whole))
  where
    none : (r : Option (List ℕ)) → is_some r ≡ false → pieces_by r (answered_pieces p.course) ≡ []
    none None e = k.no_pieces
    none (Some b) e = absurd (clash e)

pieces_other : (d : Direction) (p : Progress) (x : Half) (a : Common) (b : List ℕ) → OfPieces x.pieces (pieces_of d p.course) p.taken.body → HeadersOut d p x a
    → replacement d (with_answer a p.course) ≡ Some b → OfPieces (x.pieces ++ unless_none (length b)) (pieces_of d (with_answer a p.course)) p.taken.body
pieces_other d p x a b s k e =
    let taken = k.taken in
    record {
      gone = [];
      left = b ∷ [];
      whole = ap (λ r. pieces_by r (answered_pieces (with_answer a p.course))) e;
      lengths = ap (λ z. z ++ unless_none (length b)) (no_lengths_left d p x a s k) ∙ sym (lengths_more [] b);
      least = omega arith;
      ends = inr k.taken;
    }

pieces_stay : (d : Direction) (p : Progress) (x : Half) (a : Common) (f : List Field) (l : Bool) (more : List AskedPart) → OfPieces x.pieces (pieces_of d p.course) p.taken.body → out p.course ≡ Headers f l ∷ more
    → HeadersOut d p x a → is_some (replacement d (with_answer a p.course)) ≡ false → OfPieces (x.pieces ++ []) (pieces_of d (with_answer a p.course)) p.taken.body
pieces_stay d p x a f l more s o k e =
    subst (λ z. OfPieces z (pieces_of d (with_answer a p.course)) p.taken.body) (sym (append-nil x.pieces))
    (subst (λ z. OfPieces x.pieces z p.taken.body)
    (by (replacement d p.course) k.kept ∙ sym (same_pieces p.course a (Headers f l) more o refl) ∙ sym (by' (replacement d (with_answer a p.course)) e)) s)
  where
    by : (r : Option (List ℕ)) → is_some r ≡ false → pieces_by r (answered_pieces p.course) ≡ answered_pieces p.course
    by None e = refl
    by (Some b) e = absurd (clash e)

    by' : (r : Option (List ℕ)) → is_some r ≡ false → pieces_by r (answered_pieces (with_answer a p.course)) ≡ answered_pieces (with_answer a p.course)
    by' None e = refl
    by' (Some b) e = absurd (clash e)

-- The head

head_changed : (c : CourseConfig) (d : Direction) (p : Progress) (x : Half) (a : Common) (f : List Field) (l : Bool) (more : List AskedPart) → MadeWith c d x → Ties c d p x → out p.course ≡ Headers f l ∷ more
    → HeadersOut d p x a → head_under x a.headers ≡ option_map (changed_head c d (with_answer a p.course)) p.course.original.head
head_changed c d p x a f l more m t o k =
    ap (option_map (λ h. fields_or h (mutated x.rules (head_kind x.direction) h a.headers))) before
    ∙ ap (λ z. Some (fields_or head z)) (ruled c d x head a.headers m)
    ∙ sym (ap (option_map (changed_head c d (with_answer a p.course))) (head_read c d p x (Headers f l) more t o)
    ∙ ap (λ (z : Option Common). Some (both z (answer_to is_body (with_answer a p.course)))) k.answer
    ∙ ap (λ (z : Option Common). Some (both (Some a) z)) (answer_kept is_body p.course a (Headers f l) more o refl ∙ k.no_body)
    ∙ ap Some (same (is_buffered p.course.modes.body)))
  where
    head : List Field
    head = unwrap_or p.course.original.head []

    both : Option Common → Option Common → List Field
    both headers body = if is_buffered p.course.modes.body then under c (head_kind d) (under c (head_kind d) head headers) body else under c (head_kind d) head headers

    same : (q : Bool) → (if q then under c (head_kind d) head (Some a) else under c (head_kind d) head (Some a)) ≡ under c (head_kind d) head (Some a)
    same true = refl
    same false = refl

    before : x.head ≡ Some head
    before =
        t.head ∙ ap (option_map (changed_head c d p.course)) (head_read c d p x (Headers f l) more t o)
        ∙ ap Some (sym (same_head c d p.course head k.none k.no_body))

-- All of a half

abbrev headers_by : Bool → Common → Half → Half
headers_by q a x = with_other q (new_bytes a.body) (record x {
  rule = record x.rule { stopped = x.rule.stopped || a.replace; passes = a.replace; headers_answered = true };
  pieces = x.pieces ++ unless_none (other_size q (new_bytes a.body));
  marks = drop 1 x.marks;
  ready = ready_with mark.Headers x;
  head = head_under x a.headers;
})

same_rule : (d : Direction) (p : Progress) (x : Half) (a : Common) (f : List Field) (l : Bool) (more : List AskedPart) (q : Bool) → OfAnswers x.rule d p.course → out p.course ≡ Headers f l ∷ more
    → HeadersOut d p x a → q ≡ is_some (replacement d (with_answer a p.course))
    → OfAnswers (record x.rule { stopped = x.rule.stopped || a.replace; passes = a.replace; replaced = q; headers_answered = true }) d (with_answer a p.course)
same_rule d p x a f l more q s o k e = record {
  modes = s.modes;
  released = s.released;
  stopped = ap (λ z. z || a.replace) s.stopped ∙ sym (stopped_by p.course a);
  passes = ap replaces (sym k.answer);
  replaced = e;
  headers = ap is_some (sym k.answer);
  body = s.body ∙ ap is_some (sym (answer_kept is_body p.course a (Headers f l) more o refl));
}

parts_past : (c : CourseConfig) (d : Direction) (p : Progress) (x : Half) (a : Common) (f : List Field) (l : Bool) (more : List AskedPart) → Ties c d p x → out p.course ≡ Headers f l ∷ more
    → AreKept (head_under x a.headers) x.arrived.framed x.trailers more
parts_past c d p x a f l more t o =
    other_head x.head (head_under x a.headers) x.arrived.framed x.trailers more (once_past is_headers p.course a (Headers f l) more t.sound.once_headers o refl)
    (subst (AreKept x.head x.arrived.framed x.trailers) o t.parts).1

headers_stay : (c : CourseConfig) (d : Direction) (p : Progress) (x : Half) (a : Common) (f : List Field) (l : Bool) (more : List AskedPart) → MadeWith c d x → Ties c d p x → out p.course ≡ Headers f l ∷ more
    → p.course.released ≡ false → HeadersOut d p x a → brings_other x a ≡ false → Ties c d (answered a p) (headers_by false a x)
headers_stay c d p x a f l more m t o r k e =
    let keeps : is_some (replacement d (with_answer a p.course)) ≡ false = sym (brings_is c d p x a m t k) ∙ e in
    let bytes = k.bytes in
    let before = t.counts.unasked ∙ unasked_kept d p.course r k.kept in
    let after = unasked_kept d (with_answer a p.course) r keeps in
    let count = t.counts.pieces in
    assemble c d p x a (Headers f l) more (record x.rule { stopped = x.rule.stopped || a.replace; passes = a.replace; headers_answered = true }) x.counts x.hold (x.pieces ++ [])
    (head_under x a.headers) x.trailers m t o r
    (same_rule d p x a f l more x.rule.replaced t.rule o k (t.rule.replaced ∙ k.kept ∙ sym keeps))
    (record { unasked = omega arith; pieces = omega arith; waiting = t.counts.waiting })
    (hold_stays c d p x a f l more t o r k keeps) t.room (pieces_stay d p x a f l more t.pieces o k keeps) (t.pieces_room r)
    (head_changed c d p x a f l more m t o k) (λ h z. absurd (clash (ap is_some (sym z) ∙ ap is_some k.head)))
    (t.trailers ∙ ap (under c TrailerPart p.course.original.trailers) (sym (answer_kept is_trailers p.course a (Headers f l) more o refl)))
    (parts_past c d p x a f l more t o) (omega arith)

none_unasked : (d : Direction) (w : Course) → is_some (replacement d w) ≡ true → unasked d w ≡ 0
none_unasked d w e = ap (λ q. if q then 0 else length w.original.body - (if w.released then answered_bytes (pairs w) else asked_bytes w.asks) - (w.given - piece_bytes w)) e

headers_other : (c : CourseConfig) (d : Direction) (p : Progress) (x : Half) (a : Common) (f : List Field) (l : Bool) (more : List AskedPart) → MadeWith c d x → Ties c d p x → out p.course ≡ Headers f l ∷ more
    → p.course.released ≡ false → HeadersOut d p x a → length (change_bytes a.body) ≤ c.answer_limit → brings_other x a ≡ true → Ties c d (answered a p) (headers_by true a x)
headers_other c d p x a f l more m t o r k u e =
    let b : List ℕ = new_bytes a.body in
    let brings : replacement d (with_answer a p.course) ≡ Some b = brings_bytes c d p x a m t k e in
    let bytes = k.bytes in
    let count = t.counts.pieces in
    let few : length b ≤ c.answer_limit = new_few a.body c.answer_limit u in
    let size : length (x.hold.out ++ b) ≡ length x.hold.out + length b = length-append x.hold.out b in
    let none : length x.hold.out ≡ 0 = ap length k.out in
    let lent : most_back c.answer_limit x.hold.lent ≡ 0 = ap (most_back c.answer_limit) k.lent in
    assemble c d p x a (Headers f l) more (record x.rule { stopped = x.rule.stopped || a.replace; passes = a.replace; replaced = true; headers_answered = true }) (record x.counts { unasked = 0 })
    (hand_replaced b x.hold) (x.pieces ++ unless_none (length b)) (head_under x a.headers) x.trailers m t o r
    (same_rule d p x a f l more true t.rule o k (ap is_some (sym brings)))
    (record { unasked = sym (none_unasked d (with_answer a p.course) (ap is_some brings)); pieces = omega arith; waiting = t.counts.waiting })
    (hold_other c d p x a b f l more t o k brings)
    (record { first = t.room.first; pieces = t.room.pieces; lent = t.room.lent; goes = λ z. omega arith })
    (pieces_other d p x a b t.pieces k brings) (t.pieces_room r)
    (head_changed c d p x a f l more m t o k) (λ h z. absurd (clash (ap is_some (sym z) ∙ ap is_some k.head)))
    (t.trailers ∙ ap (under c TrailerPart p.course.original.trailers) (sym (answer_kept is_trailers p.course a (Headers f l) more o refl)))
    (parts_past c d p x a f l more t o) (omega arith)

pub headers_ties : (c : CourseConfig) (d : Direction) (p : Progress) (x : Half) (a : Common) (f : List Field) (l : Bool) (more : List AskedPart) → MadeWith c d x → Ties c d p x → out p.course ≡ Headers f l ∷ more
    → p.course.released ≡ false → length (change_bytes a.body) ≤ c.answer_limit → Ties c d (answered a p) (with_headers_answer a x)
headers_ties c d p x a f l more m t o r u = by (brings_other x a) refl
  where
    k : HeadersOut d p x a
    k = headers_out c d p x a f l more t o r

    to : (q : Bool) → brings_other x a ≡ q → Ties c d (answered a p) (headers_by q a x) → Ties c d (answered a p) (with_headers_answer a x)
    to q e s = subst (λ z. Ties c d (answered a p) (headers_by z a x)) (sym e) s

    by : (q : Bool) → brings_other x a ≡ q → Ties c d (answered a p) (with_headers_answer a x)
    by true e = to true e (headers_other c d p x a f l more m t o r k u e)
    by false e = to false e (headers_stay c d p x a f l more m t o r k e)
