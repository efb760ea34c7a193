-- A half whose oldest ask out was one of the body, and was answered.
use Rattle.std.proofs.Common.{inl, inr, refl, sym, ◌∙◌, ap, subst, arith, rules, append-nil, length-append}
use Rattle.std.proofs.lemmas.Grind.{flat_map-append}
use Rattle.std.proofs.lemmas.List.{append_assoc, drop-append-le}
use Rattle.std.specs.Prelude.{ℕ, ◌≡◌, ◌⊎◌, ◌+◌, ◌-◌, ◌*◌, ◌≤◌, Bool, true, false, ◌||◌, List, ◌∷◌, ◌++◌, Some, None, [], length, drop, map, filter, flat_map, Option, is_some, option_map, unwrap_or, if◌then◌else◌, ◌==◌}
use Rattle.std.specs.List.{list_any}
use Rattle.ext_msgs.specs.declared.answer.BodyChange.{BodyChange}
use Rattle.ext_msgs.specs.declared.answer.BodyChange.TheVariants.{Absent, Bytes, Clear, Streamed as StreamedBack}
use Rattle.ext_msgs.specs.declared.answer.Common.{Common}
use Rattle.ext_msgs.specs.declared.lists.Field.{Field}
use Rattle.ext_msgs.specs.declared.modes.BodyMode.{BodyMode}
use Rattle.ext_msgs.specs.declared.modes.PartModes.{PartModes}
use Rattle.header_mutation.specs.Mutated.{mutated}
use Rattle.header_mutation.specs.declared.rules.PartKind.TheVariants.{Trailers as TrailerPart}
use Rattle.http_model.specs.declared.types.Direction.{Direction}
use Rattle.http_model.specs.declared.types.Length.{Length}
use Rattle.body_hold.specs.Held.{joined}
use Rattle.body_hold.specs.Steps.{backed, new_piece as piece_back}
use Rattle.filter_model.specs.Config.{CourseConfig}
use Rattle.filter_model.specs.Course.{Course, AskedPart, Headers, Body, Trailers, Outgoing, changed_head, head_after_headers, head_kind, fields_or, under, is_buffered, is_body, is_headers, is_trailers, is_passing, passing_at, is_stopped, mode, out, pairs, bytes_in, asked_bytes, answered_bytes, answered_pieces, answer_to, replaces, replacement, is_bare, unasked, new_piece}
use Rattle.filter_model.specs.Half.{Progress}
use Rattle.filter_model.proofs.CourseGrows.{with_answer, answer_kept, drop_more, covered_pairs, pieces_more}
use Rattle.half_machine.specs.Answering.{change_by, change_bytes, piece_for, with_body_answer}
use Rattle.half_machine.specs.Judging.{head_under}
use Rattle.half_machine.specs.Pieces.{OfPieces, pieces_of, lengths_of, unless_none}
use Rattle.half_machine.specs.Room.{OfRoom, most_back}
use Rattle.half_machine.specs.Stands.{AreKept, ArePieces, MadeWith, OfAnswers, OfCounts, OfHold, Ties, flow, left_hand, piece_bytes}
use Rattle.half_machine.specs.declared.half.Half.{Half}
use Rattle.half_machine.proofs.Answered.{joined as answered, assemble, lent_out}
use Rattle.half_machine.proofs.AtHand.{flow_kept, pieces_left, rest_at_hand}
use Rattle.half_machine.proofs.Joining.{piece_of, was_asked, answer_first, answer_there, unanswered_out, stopped_by, replacement_stays, unreplaced_by, joined_pieces, piece_bytes_more, same_head, head_waits}
use Rattle.half_machine.proofs.Judged.{head_read, head_before, ruled}
use Rattle.half_machine.proofs.Lending.{hand_kept, left_kept, unasked_kept}
use Rattle.half_machine.proofs.PiecesLeft.{pieces_kept}

clash : true ≡ false → ⊥
clash e = cc

-- What is known while a piece is out
pub record PieceOut (d : Direction) (p : Progress) (x : Half) (a : Common) : Type 0 where
  pub asked : list_any is_body p.course.asks ≡ true
  pub kept : is_some (replacement d p.course) ≡ false
  pub keeps : is_some (replacement d (with_answer a p.course)) ≡ false
  pub dry : is_passing p.course ≡ false
  pub left : p.taken.body + length x.hold.out ≡ piece_bytes p.course
  pub rest : x.hold.hand ≡ drop (asked_bytes p.course.asks) p.course.original.body

piece_out : (c : CourseConfig) (d : Direction) (p : Progress) (x : Half) (a : Common) (b : List ℕ) (l : Bool) (more : List AskedPart) → Ties c d p x → out p.course ≡ Body b l ∷ more
    → p.course.released ≡ false → PieceOut d p x a
piece_out c d p x a b l more t o r =
    let w : Course = p.course in
    let asked : list_any is_body w.asks ≡ true = was_asked is_body w (Body b l) more o refl in
    let kept : is_some (replacement d w) ≡ false = unreplaced_by (is_bare d w.original.length) (answer_to is_headers w) (t.body_asks.going asked) in
    let dry : is_passing w ≡ false =
    ap (λ z. passing_at z (list_any is_body (out w)) (is_stopped w) (mode w) (list_any is_body w.asks)) r
    ∙ ap (λ z. passing_at false z (is_stopped w) (mode w) (list_any is_body w.asks)) (ap (list_any is_body) o) in
    record {
      asked = asked;
      kept = kept;
      keeps = ap is_some (replacement_stays d w a (Body b l) more o refl) ∙ kept;
      dry = dry;
      left = pieces_left c d w x.hold p.taken.body t.hold kept dry;
      rest = rest_at_hand c d w x.hold p.taken.body t.hold r kept dry;
    }

-- The piece

pub piece_is : (change : BodyChange) (lent : List (List ℕ)) (b : List ℕ) (rest : List (List ℕ)) → lent ≡ b ∷ rest → piece_back (change_by change) lent ≡ unwrap_or (new_piece change) b
piece_is change lent b rest e = ap (piece_back (change_by change)) e ∙ by change
  where
    by : (change : BodyChange) → piece_back (change_by change) (b ∷ rest) ≡ unwrap_or (new_piece change) b
    by Absent = refl
    by (Bytes new) = refl
    by (Clear true) = refl
    by (Clear false) = refl
    by (StreamedBack new last) = refl

pub piece_few : (change : BodyChange) (b : List ℕ) (n : ℕ) → length (change_bytes change) ≤ n → length (unwrap_or (new_piece change) b) ≤ n + length b
piece_few Absent b n e = omega arith
piece_few (Bytes new) b n e = omega arith
piece_few (Clear true) b n e = omega arith
piece_few (Clear false) b n e = omega arith
piece_few (StreamedBack new last) b n e = omega arith

abbrev rest_of : List AskedPart → List (List ℕ)
rest_of more = map bytes_in (filter is_body more)

-- The bytes

none_out : (r o s : Bool) (m : BodyMode) (k : Bool) → r ≡ false → passing_at r o s m k ≡ true → o ≡ false
none_out true o s m k r e = absurd (clash r)
none_out false true s m k r e = absurd (clash (sym e))
none_out false false s m k r e = refl

pub all_back : (w : Course) (a : Common) → w.released ≡ false → is_passing (with_answer a w) ≡ true → answered_bytes (pairs (with_answer a w)) ≡ asked_bytes w.asks
all_back w a r e =
    covered_pairs w.asks (w.answers ++ a ∷ [])
    (none_out w.released (list_any is_body (out (with_answer a w))) (is_stopped (with_answer a w)) (mode (with_answer a w)) (list_any is_body w.asks) r e)

behind : (n : ℕ) (front piece tail : List ℕ) → n ≤ length front → (drop n front ++ piece) ++ tail ≡ drop n ((front ++ piece) ++ tail)
behind n front piece tail e =
    let l : length (front ++ piece) ≡ length front + length piece = length-append front piece in
    ap (λ z. z ++ tail) (sym (drop-append-le n front piece e)) ∙ sym (drop-append-le n (front ++ piece) tail (omega arith))

fewer_pieces : (lent : List (List ℕ)) → ArePieces lent → ArePieces (drop 1 lent)
fewer_pieces [] s = tt
fewer_pieces (b ∷ lent) s = s.1

hold_body : (c : CourseConfig) (d : Direction) (p : Progress) (x : Half) (a : Common) (b : List ℕ) (l : Bool) (more : List AskedPart) → Ties c d p x → out p.course ≡ Body b l ∷ more
    → p.course.released ≡ false → OfHold (backed (change_by a.body) x.hold) c d (with_answer a p.course) p.taken.body
hold_body c d p x a b l more t o r =
    let w : Course = p.course in
    let n : ℕ = p.taken.body in
    let k : PieceOut d p x a = piece_out c d p x a b l more t o r in
    let s : OfHold x.hold c d w n = t.hold in
    let lent : x.hold.lent ≡ b ∷ rest_of more = lent_out c d p x (Body b l) more t o in
    let piece : piece_back (change_by a.body) x.hold.lent ≡ piece_of a b = piece_is a.body x.hold.lent b (rest_of more) lent in
    let size : length (x.hold.out ++ piece_back (change_by a.body) x.hold.lent) ≡ length x.hold.out + length (piece_back (change_by a.body) x.hold.lent) =
    length-append x.hold.out (piece_back (change_by a.body) x.hold.lent) in
    let same : length (piece_back (change_by a.body) x.hold.lent) ≡ length (piece_of a b) = ap length piece in
    let bytes : piece_bytes (with_answer a w) ≡ piece_bytes w + length (piece_of a b) = piece_bytes_more w a b l more o in
    let at : n + length x.hold.out ≡ piece_bytes w = k.left in
    let outgoing : ℕ = n + length (x.hold.out ++ piece_back (change_by a.body) x.hold.lent) in
    let left : left_hand (with_answer a w) outgoing ≡ asked_bytes w.asks + (outgoing - piece_bytes (with_answer a w)) = left_kept (with_answer a w) outgoing r in
    let left_is : left_hand (with_answer a w) outgoing ≡ asked_bytes w.asks = omega arith in
    let before : left_hand w (n + length x.hold.out) ≡ asked_bytes w.asks + (n + length x.hold.out - piece_bytes w) = left_kept w (n + length x.hold.out) r in
    let within : left_hand w (n + length x.hold.out) ≤ length w.original.body = s.within k.kept in
    record {
      lent = ap (drop 1) lent ∙ ap (λ z. map bytes_in (filter is_body z)) (sym (drop_more w.asks w.answers (Body b l) more a o));
      hand = k.rest ∙ ap (λ z. drop z w.original.body) (sym left_is) ∙ sym (hand_kept d (with_answer a w) outgoing k.keeps);
      out = ap (λ z. (x.hold.out ++ z) ++ (if is_passing (with_answer a w) then x.hold.hand else [])) piece ∙ goes_out k ∙ ap (drop n) (sym (flow_is k));
      pieces_first = λ e. omega arith;
      within = λ e. omega arith;
      there = long k;
      idle = λ e f. absurd (clash (sym k.asked ∙ e));
      hand_fits = s.hand_fits;
      lent_fits = λ e. fewer_pieces x.hold.lent (s.lent_fits e);
    }
  where
    front : List ℕ
    front = flat_map (λ p. p) (answered_pieces p.course)

    tail : Bool → List ℕ
    tail q = if q then drop (answered_bytes (pairs (with_answer a p.course))) p.course.original.body else []

    flow_is : PieceOut d p x a → flow c d (with_answer a p.course) ≡ (front ++ piece_of a b) ++ tail (is_passing (with_answer a p.course))
    flow_is k = flow_kept c d (with_answer a p.course) k.keeps ∙ ap (λ z. z ++ tail (is_passing (with_answer a p.course))) (joined_pieces p.course a b l more o)

    taken_in : PieceOut d p x a → p.taken.body ≤ length front
    taken_in k = let e : p.taken.body + length x.hold.out ≡ length front = k.left in omega arith

    long : PieceOut d p x a → p.taken.body ≤ length (flow c d (with_answer a p.course))
    long k =
        let e : length (flow c d (with_answer a p.course)) ≡ length ((front ++ piece_of a b) ++ tail (is_passing (with_answer a p.course))) = ap length (flow_is k) in
        let f : length ((front ++ piece_of a b) ++ tail (is_passing (with_answer a p.course))) ≡ length (front ++ piece_of a b) + length (tail (is_passing (with_answer a p.course))) =
        length-append (front ++ piece_of a b) (tail (is_passing (with_answer a p.course))) in
        let g : length (front ++ piece_of a b) ≡ length front + length (piece_of a b) = length-append front (piece_of a b) in
        let h = taken_in k in
        omega arith

    out_is : PieceOut d p x a → x.hold.out ≡ drop p.taken.body front
    out_is k =
        sym (append-nil x.hold.out) ∙ ap (λ z. x.hold.out ++ (if z then x.hold.hand else [])) (sym k.dry) ∙ t.hold.out
        ∙ ap (drop p.taken.body)
        (flow_kept c d p.course k.kept ∙ ap (λ z. front ++ (if z then drop (answered_bytes (pairs p.course)) p.course.original.body else [])) k.dry ∙ append-nil front)

    goes_out : PieceOut d p x a → (x.hold.out ++ piece_of a b) ++ (if is_passing (with_answer a p.course) then x.hold.hand else [])
        ≡ drop p.taken.body ((front ++ piece_of a b) ++ tail (is_passing (with_answer a p.course)))
    goes_out k = by (is_passing (with_answer a p.course)) refl
      where
        by : (q : Bool) → is_passing (with_answer a p.course) ≡ q → (x.hold.out ++ piece_of a b) ++ (if q then x.hold.hand else []) ≡ drop p.taken.body ((front ++ piece_of a b) ++ tail q)
        by true e =
            ap (λ z. (z ++ piece_of a b) ++ x.hold.hand) (out_is k)
            ∙ ap (λ z. (drop p.taken.body front ++ piece_of a b) ++ z) (k.rest ∙ ap (λ z. drop z p.course.original.body) (sym (all_back p.course a r e)))
            ∙ behind p.taken.body front (piece_of a b) (tail true) (taken_in k)
        by false e = ap (λ z. (z ++ piece_of a b) ++ []) (out_is k) ∙ behind p.taken.body front (piece_of a b) [] (taken_in k)

-- Counts and lengths

counts_body : (c : CourseConfig) (d : Direction) (p : Progress) (x : Half) (a : Common) (b : List ℕ) (l : Bool) (more : List AskedPart) → Ties c d p x → out p.course ≡ Body b l ∷ more
    → p.course.released ≡ false → OfCounts (record x.counts { pieces = x.counts.pieces + length (piece_for a x) }) d (with_answer a p.course) p.taken.body
counts_body c d p x a b l more t o r =
    let w : Course = p.course in
    let k : PieceOut d p x a = piece_out c d p x a b l more t o r in
    let piece : length (piece_for a x) ≡ length (piece_of a b) = ap length (piece_is a.body x.hold.lent b (rest_of more) (lent_out c d p x (Body b l) more t o)) in
    let bytes : piece_bytes (with_answer a w) ≡ piece_bytes w + length (piece_of a b) = piece_bytes_more w a b l more o in
    let at : p.taken.body + length x.hold.out ≡ piece_bytes w = k.left in
    let given : w.given + x.counts.waiting ≡ p.taken.body = t.counts.waiting in
    let count : x.counts.pieces ≡ piece_bytes w - w.given = t.counts.pieces in
    let before : x.counts.unasked ≡ length w.original.body - asked_bytes w.asks - (w.given - piece_bytes w) = t.counts.unasked ∙ unasked_kept d w r k.kept in
    let after : unasked d (with_answer a w) ≡ length w.original.body - asked_bytes w.asks - (w.given - piece_bytes (with_answer a w)) = unasked_kept d (with_answer a w) r k.keeps in
    record { unasked = omega arith; pieces = omega arith; waiting = t.counts.waiting }

pub lengths_more : (left : List (List ℕ)) (piece : List ℕ) → lengths_of (left ++ piece ∷ []) ≡ lengths_of left ++ unless_none (length piece)
lengths_more [] [] = refl
lengths_more [] (y ∷ ys) = sym (ap (λ z. if z then [] else length (y ∷ ys) ∷ []) (not_zero y ys))
  where
    not_zero : (y : ℕ) (ys : List ℕ) → (length (y ∷ ys) == 0) ≡ false
    not_zero y ys = search rules
lengths_more ([] ∷ left) piece = lengths_more left piece
lengths_more ((y ∷ ys) ∷ left) piece = ap (λ z. length (y ∷ ys) ∷ z) (lengths_more left piece)

no_lengths : (left : List (List ℕ)) → lengths_of left ≡ [] → length (flat_map (λ p. p) left) ≡ 0
no_lengths [] e = refl
no_lengths ([] ∷ left) e = no_lengths left e
no_lengths ((y ∷ ys) ∷ left) e = absurd cc

pieces_body : (c : CourseConfig) (d : Direction) (p : Progress) (x : Half) (a : Common) (b : List ℕ) (l : Bool) (more : List AskedPart) → Ties c d p x → out p.course ≡ Body b l ∷ more
    → p.course.released ≡ false → OfPieces (x.pieces ++ unless_none (length (piece_for a x))) (pieces_of d (with_answer a p.course)) p.taken.body
pieces_body c d p x a b l more t o r =
    let w : Course = p.course in
    let k : PieceOut d p x a = piece_out c d p x a b l more t o r in
    let s : OfPieces x.pieces (pieces_of d w) p.taken.body = t.pieces in
    let piece : piece_for a x ≡ piece_of a b = piece_is a.body x.hold.lent b (rest_of more) (lent_out c d p x (Body b l) more t o) in
    record {
      gone = s.gone;
      left = s.left ++ piece_of a b ∷ [];
      whole = pieces_kept d (with_answer a w) k.keeps ∙ pieces_more w a (Body b l) more o ∙ ap (λ z. z ++ piece_of a b ∷ []) (sym (pieces_kept d w k.kept) ∙ s.whole)
          ∙ append_assoc s.gone s.left (piece_of a b ∷ []);
      lengths = ap (λ z. x.pieces ++ unless_none (length z)) piece ∙ ap (λ z. z ++ unless_none (length (piece_of a b))) s.lengths ∙ sym (lengths_more s.left (piece_of a b));
      least = s.least;
      ends = inr (at_end s k s.ends);
    }
  where
    at_end : OfPieces x.pieces (pieces_of d p.course) p.taken.body → PieceOut d p x a → (x.pieces ≡ []) ⊎ (p.taken.body ≡ length (flat_map (λ p. p) (t.pieces.gone))) → p.taken.body ≡ length (flat_map (λ p. p) (t.pieces.gone))
    at_end s k (inr e) = e
    at_end s k (inl e) =
        let none : length (flat_map (λ p. p) t.pieces.left) ≡ 0 = no_lengths t.pieces.left (sym t.pieces.lengths ∙ e) in
        let all : piece_bytes p.course ≡ length (flat_map (λ p. p) t.pieces.gone) + length (flat_map (λ p. p) t.pieces.left) =
        ap (λ z. length (flat_map (λ p. p) z)) (sym (pieces_kept d p.course k.kept) ∙ t.pieces.whole)
        ∙ ap length (flat_map-append (λ (p : List ℕ). p) t.pieces.gone t.pieces.left)
        ∙ length-append (flat_map (λ p. p) t.pieces.gone) (flat_map (λ p. p) t.pieces.left) in
        let at : p.taken.body + length x.hold.out ≡ piece_bytes p.course = k.left in
        let least : length (flat_map (λ p. p) t.pieces.gone) ≤ p.taken.body = t.pieces.least in
        omega arith

-- What may still come back

joined_rest : (b : List ℕ) (rest : List (List ℕ)) → length (joined (b ∷ rest)) ≡ length b + length (joined rest)
joined_rest b rest = length-append b (joined rest)

room_body : (c : CourseConfig) (d : Direction) (p : Progress) (x : Half) (a : Common) (b : List ℕ) (l : Bool) (more : List AskedPart) → Ties c d p x → out p.course ≡ Body b l ∷ more
    → length (change_bytes a.body) ≤ c.answer_limit → OfRoom (backed (change_by a.body) x.hold) c p.course.modes.headers p.course.asks p.course.original.body p.course.released
room_body c d p x a b l more t o f =
    let lent : x.hold.lent ≡ b ∷ rest_of more = lent_out c d p x (Body b l) more t o in
    let piece : length (piece_back (change_by a.body) x.hold.lent) ≡ length (piece_of a b) = ap length (piece_is a.body x.hold.lent b (rest_of more) lent) in
    let few : length (piece_of a b) ≤ c.answer_limit + length b = piece_few a.body b c.answer_limit f in
    let size : length (x.hold.out ++ piece_back (change_by a.body) x.hold.lent) ≡ length x.hold.out + length (piece_back (change_by a.body) x.hold.lent) =
    length-append x.hold.out (piece_back (change_by a.body) x.hold.lent) in
    let most : most_back c.answer_limit x.hold.lent ≡ c.answer_limit + length b + most_back c.answer_limit (rest_of more) = ap (most_back c.answer_limit) lent in
    let less : most_back c.answer_limit (drop 1 x.hold.lent) ≡ most_back c.answer_limit (rest_of more) = ap (λ z. most_back c.answer_limit (drop 1 z)) lent in
    let all : length (joined x.hold.lent) ≡ length b + length (joined (rest_of more)) = ap (λ z. length (joined z)) lent ∙ joined_rest b (rest_of more) in
    let rest : length (joined (drop 1 x.hold.lent)) ≡ length (joined (rest_of more)) = ap (λ z. length (joined (drop 1 z))) lent in
    let fits = t.room.lent in
    record {
      first = t.room.first;
      pieces = t.room.pieces;
      lent = omega arith;
      goes = λ r. let g = t.room.goes r in omega arith;
    }

pieces_room_body : (c : CourseConfig) (d : Direction) (p : Progress) (x : Half) (a : Common) (b : List ℕ) (l : Bool) (more : List AskedPart) → Ties c d p x → out p.course ≡ Body b l ∷ more
    → p.course.released ≡ false → length (change_bytes a.body) ≤ c.answer_limit
    → x.counts.pieces + length (piece_for a x) + most_back c.answer_limit (drop 1 x.hold.lent) ≤ c.buffer_limit + c.answer_limit * 4 + 131_072
pieces_room_body c d p x a b l more t o r f =
    let lent : x.hold.lent ≡ b ∷ rest_of more = lent_out c d p x (Body b l) more t o in
    let piece : length (piece_for a x) ≡ length (piece_of a b) = ap length (piece_is a.body x.hold.lent b (rest_of more) lent) in
    let few : length (piece_of a b) ≤ c.answer_limit + length b = piece_few a.body b c.answer_limit f in
    let most : most_back c.answer_limit x.hold.lent ≡ c.answer_limit + length b + most_back c.answer_limit (rest_of more) = ap (most_back c.answer_limit) lent in
    let less : most_back c.answer_limit (drop 1 x.hold.lent) ≡ most_back c.answer_limit (rest_of more) = ap (λ z. most_back c.answer_limit (drop 1 z)) lent in
    let g = t.pieces_room r in
    omega arith

-- The head, which the answer to a body that is asked whole changes

head_whole : (c : CourseConfig) (d : Direction) (p : Progress) (x : Half) (a : Common) (b : List ℕ) (l : Bool) (more : List AskedPart) → MadeWith c d x → Ties c d p x → out p.course ≡ Body b l ∷ more
    → is_buffered p.course.modes.body ≡ true → head_under x a.headers ≡ option_map (changed_head c d (with_answer a p.course)) p.course.original.head
head_whole c d p x a b l more m t o e =
    ap (option_map (λ h. fields_or h (mutated x.rules (head_kind x.direction) h a.headers))) (head_before c d p x b l more t o)
    ∙ ap (λ z. Some (fields_or first z)) (ruled c d x first a.headers m)
    ∙ sym (ap (option_map (changed_head c d (with_answer a p.course))) (head_read c d p x (Body b l) more t o)
    ∙ ap (λ (z : Option Common). Some (both (is_buffered p.course.modes.body) z (answer_to is_body (with_answer a p.course)))) (answer_kept is_headers p.course a (Body b l) more o refl)
    ∙ ap (λ (z : Option Common). Some (both (is_buffered p.course.modes.body) (answer_to is_headers p.course) z))
    (answer_first is_body p.course a (Body b l) more o refl (unanswered_out is_body p.course (Body b l) more (t.body_asks.single e) o refl))
    ∙ ap (λ z. Some (both z (answer_to is_headers p.course) (Some a))) e)
  where
    first : List Field
    first = head_after_headers c d p.course (unwrap_or p.course.original.head [])

    both : Bool → Option Common → Option Common → List Field
    both q headers body =
        if q then under c (head_kind d) (under c (head_kind d) (unwrap_or p.course.original.head []) headers) body
        else under c (head_kind d) (unwrap_or p.course.original.head []) headers

pub head_piece : (c : CourseConfig) (d : Direction) (p : Progress) (x : Half) (a : Common) (q : AskedPart) (more : List AskedPart) → Ties c d p x → out p.course ≡ q ∷ more → is_headers q ≡ false
    → (is_body q ≡ false) ⊎ (is_buffered p.course.modes.body ≡ false) → x.head ≡ option_map (changed_head c d (with_answer a p.course)) p.course.original.head
head_piece c d p x a q more t o e f = t.head ∙ by p.course.original.head
  where
    by : (h : Option (List Field)) → option_map (changed_head c d p.course) h ≡ option_map (changed_head c d (with_answer a p.course)) h
    by None = refl
    by (Some h) = ap Some (sym (same_head c d p.course a q more o e f h))

abbrev head_for : Bool → Common → Half → Option (List Field)
head_for q a x = if q then head_under x a.headers else x.head

by_mode : (d : Direction) (p : Progress) (x : Half) (a : Common) → OfAnswers x.rule d p.course → head_for (is_buffered x.rule.modes.body) a x ≡ head_for (is_buffered p.course.modes.body) a x
by_mode d p x a s = ap (λ (m : PartModes). head_for (is_buffered m.body) a x) s.modes

head_body : (c : CourseConfig) (d : Direction) (p : Progress) (x : Half) (a : Common) (b : List ℕ) (l : Bool) (more : List AskedPart) → MadeWith c d x → Ties c d p x → out p.course ≡ Body b l ∷ more
    → head_for (is_buffered x.rule.modes.body) a x ≡ option_map (changed_head c d (with_answer a p.course)) p.course.original.head
head_body c d p x a b l more m t o = by_mode d p x a t.rule ∙ by (is_buffered p.course.modes.body) refl
  where
    by : (q : Bool) → is_buffered p.course.modes.body ≡ q → head_for q a x ≡ option_map (changed_head c d (with_answer a p.course)) p.course.original.head
    by true e = head_whole c d p x a b l more m t o e
    by false e = head_piece c d p x a (Body b l) more t o refl (inr e)

fields_body : (c : CourseConfig) (d : Direction) (p : Progress) (x : Half) (a : Common) (b : List ℕ) (l : Bool) (more : List AskedPart) → Ties c d p x → out p.course ≡ Body b l ∷ more
    → p.course.released ≡ false → (h : Outgoing) → p.course.head ≡ Some h → head_for (is_buffered x.rule.modes.body) a x ≡ Some h.fields
fields_body c d p x a b l more t o r h z = by_mode d p x a t.rule ∙ by (is_buffered p.course.modes.body) refl
  where
    by : (q : Bool) → is_buffered p.course.modes.body ≡ q → head_for q a x ≡ Some h.fields
    by true e = absurd (clash (ap is_some (sym z) ∙ ap is_some (head_waits p.course (Body b l) more o r refl e t.body_asks)))
    by false e = t.fields h z

pub other_head : (old new : Option (List Field)) (n : Length) (trailers : List Field) (asks : List AskedPart) → list_any is_headers asks ≡ false → AreKept old n trailers asks → AreKept new n trailers asks
other_head old new n trailers [] e k = tt
other_head old new n trailers (Headers f l ∷ asks) e k = absurd (clash e)
other_head old new n trailers (Body b l ∷ asks) e k = (tt, other_head old new n trailers asks e k.1)
other_head old new n trailers (Trailers f ∷ asks) e k = (k.0, other_head old new n trailers asks e k.1)

-- the headers aren't out while a piece is
headers_past : (c : CourseConfig) (d : Direction) (p : Progress) (x : Half) (b : List ℕ) (l : Bool) (more : List AskedPart) → Ties c d p x → out p.course ≡ Body b l ∷ more
    → list_any is_headers more ≡ false
headers_past c d p x b l more t o = by (list_any is_headers more) refl
  where
    by : (q : Bool) → list_any is_headers more ≡ q → list_any is_headers more ≡ false
    by false e = e
    by true e = absurd (clash (sym (was_asked is_body p.course (Body b l) more o refl) ∙ t.sound.in_turn (ap (list_any is_headers) o ∙ e)))

-- All of a half
pub body_ties : (c : CourseConfig) (d : Direction) (p : Progress) (x : Half) (a : Common) (b : List ℕ) (l : Bool) (more : List AskedPart) → MadeWith c d x → Ties c d p x → out p.course ≡ Body b l ∷ more
    → p.course.released ≡ false → length (change_bytes a.body) ≤ c.answer_limit → Ties c d (answered a p) (with_body_answer l a x)
body_ties c d p x a b l more m t o r f =
    assemble c d p x a (Body b l) more (record x.rule { stopped = x.rule.stopped || a.replace; body_answered = true })
    (record x.counts { pieces = x.counts.pieces + length (piece_for a x) }) (backed (change_by a.body) x.hold) (x.pieces ++ unless_none (length (piece_for a x)))
    (head_for (is_buffered x.rule.modes.body) a x) x.trailers m t o r
    (record {
      modes = t.rule.modes;
      released = t.rule.released;
      stopped = ap (λ z. z || a.replace) t.rule.stopped ∙ sym (stopped_by p.course a);
      passes = t.rule.passes ∙ ap replaces (sym (answer_kept is_headers p.course a (Body b l) more o refl));
      replaced = t.rule.replaced ∙ ap is_some (sym (replacement_stays d p.course a (Body b l) more o refl));
      headers = t.rule.headers ∙ ap is_some (sym (answer_kept is_headers p.course a (Body b l) more o refl));
      body = sym (answer_there is_body p.course a (Body b l) more o refl);
    })
    (counts_body c d p x a b l more t o r) (hold_body c d p x a b l more t o r) (room_body c d p x a b l more t o f) (pieces_body c d p x a b l more t o r)
    (pieces_room_body c d p x a b l more t o r f) (head_body c d p x a b l more m t o) (fields_body c d p x a b l more t o r)
    (t.trailers ∙ ap (under c TrailerPart p.course.original.trailers) (sym (answer_kept is_trailers p.course a (Body b l) more o refl)))
    (other_head x.head (head_for (is_buffered x.rule.modes.body) a x) x.arrived.framed x.trailers more (headers_past c d p x b l more t o)
    (subst (AreKept x.head x.arrived.framed x.trailers) o t.parts).1)
    (omega arith)
