-- A half that made the ask that is due stands for the course with that ask.
use Rattle.std.proofs.Common.{inl, inr, refl, sym, ◌∙◌, ap, arith, append-nil, length-append, length-drop, subst}
use Rattle.std.proofs.lemmas.List.{map-append, take-append-le, length-take-le, drop-drop}
use Rattle.std.proofs.lemmas.List.Elements.{filter-append}
use Rattle.std.proofs.lemmas.List.Folds.{list_any-append}
use Rattle.std.proofs.lemmas.List.Sums.{sum_by_push}
use Rattle.std.specs.Prelude.{ℕ, ◌≡◌, ◌⊎◌, ◌+◌, ◌-◌, ◌*◌, ◌≤◌, Bool, true, false, not, ◌||◌, List, ◌∷◌, ◌++◌, Some, None, [], length, take, drop, map, filter, filter_map, flat_map, Option, is_some, option_map, unwrap_or, if◌then◌else◌, nat_le, nat_lt, ◌==◌, ◌&&◌}
use Rattle.std.specs.List.{list_any}
use Rattle.ext_msgs.specs.declared.lists.Field.{Field}
use Rattle.ext_msgs.specs.declared.answer.Common.{Common}
use Rattle.http_model.specs.Bytes.{is_empty}
use Rattle.http_model.specs.Heads.{is_bodiless}
use Rattle.http_model.specs.declared.types.Direction.{Direction}
use Rattle.http_model.specs.declared.types.Length.{Length}
use Rattle.http_model.specs.declared.types.Framing.TheVariants.{NoField}
use Rattle.header_mutation.specs.declared.rules.PartKind.TheVariants.{Trailers as TrailerPart}
use Rattle.body_hold.specs.Held.{Held}
use Rattle.body_hold.specs.Steps.{lend}
use Rattle.filter_model.specs.Answers.{ask_of}
use Rattle.filter_model.specs.Config.{CourseConfig}
use Rattle.filter_model.specs.Course.{Course, AskedPart, Headers, Body, Trailers, changed_at, changed_head, body_of, head_kind, under, is_buffered, is_body, is_headers, is_trailers, is_last_piece, is_stopped, is_passing, passing_at, mode, bytes_in, out, pairs, asked_bytes, answered_bytes, answered_pieces, answered_piece, answer_to, replaces, replacement, replacement_at, is_bare, unasked, next, next_body}
use Rattle.filter_model.specs.Half.{Progress}
use Rattle.filter_model.proofs.CourseGrows.{none_of_kind, any_same, with_ask, drop_longer, passing_same, not_passing}
use Rattle.filter_model.proofs.Sounds.{ask_sound}
use Rattle.half_machine.specs.Marks.{mark_of, is_of_headers}
use Rattle.half_machine.specs.Pieces.{OfPieces, pieces_by, pieces_of}
use Rattle.half_machine.specs.Due.{streamed_due, buffered_due, partial_due, due_by_mode, due_in, body_due, mark_for, made_with, lent_by, part_of}
use Rattle.half_machine.specs.Facts.{mode_in}
use Rattle.ext_msgs.specs.declared.modes.BodyMode.{BodyMode}
use Rattle.ext_msgs.specs.declared.modes.BodyMode.TheVariants.{NoAsk, Streamed, Buffered, Partial}
use Rattle.half_machine.proofs.Early.{unanswered, same_head}
use Rattle.half_machine.specs.declared.facts.Arrived.{Arrived}
use Rattle.half_machine.specs.Stands.{IsKept, AreKept, ArePieces, OfAnswers, OfAsks, OfCounts, OfHold, MadeWith, Ties, is_streamed, piece_bytes, left_hand, flow}
use Rattle.half_machine.specs.Room.{OfRoom, most_back}
use Rattle.half_machine.specs.Asking.{due_of, may_ask, with_due, lent_to, counted_for}
use Rattle.half_machine.specs.Choosing.{IsChosen}
use Rattle.half_machine.specs.declared.due.Due.{Due}
use Rattle.half_machine.specs.declared.due.Due.TheVariants as due
use Rattle.half_machine.specs.declared.facts.Asked.{Asked}
use Rattle.half_machine.specs.declared.facts.Counts.{Counts}
use Rattle.half_machine.specs.declared.facts.Ruled.{Ruled}
use Rattle.half_machine.specs.declared.half.Half.{Half}
use Rattle.half_machine.specs.BodyAsks.{BodyAsks}
use Rattle.half_machine.proofs.AskedBody.{pairs_stay, answer_stays, other_asks, piece_asks}
use Rattle.half_machine.proofs.AtHand.{unstopped_keeps}
use Rattle.half_machine.proofs.NextAsk.{part, body_is_due, next_is_due}
use Rattle.half_machine.proofs.Room.{pieces_lent, room_same, room_lent}
use Rattle.half_machine.proofs.Lending.{LendsFrom, lends_from, going_on, unasked_kept, left_kept, hand_kept}

-- What an ask leaves as it was

out_more : (w : Course) (q : AskedPart) → length w.answers ≤ length w.asks → out (with_ask q w) ≡ out w ++ q ∷ []
out_more w q n = drop_longer w.asks (q ∷ []) w.answers n

replacement_stays : (d : Direction) (w : Course) (q : AskedPart) → length w.answers ≤ length w.asks → replacement d (with_ask q w) ≡ replacement d w
replacement_stays d w q n = ap (replacement_at (is_bare d w.original.length)) (answer_stays is_headers w q n)

piece_bytes_stay : (w : Course) (q : AskedPart) → length w.answers ≤ length w.asks → piece_bytes (with_ask q w) ≡ piece_bytes w
piece_bytes_stay w q n = ap (λ l. length (flat_map (λ p. p) (filter_map answered_piece l))) (pairs_stay w q n)

pieces_stay : (d : Direction) (w : Course) (q : AskedPart) → length w.answers ≤ length w.asks → pieces_of d (with_ask q w) ≡ pieces_of d w
pieces_stay d w q n =
    ap (λ r. pieces_by r (answered_pieces (with_ask q w))) (replacement_stays d w q n)
    ∙ ap (λ l. pieces_by (replacement d w) (filter_map answered_piece l)) (pairs_stay w q n)

rule_stays : (r : Ruled) (d : Direction) (w : Course) (q : AskedPart) → length w.answers ≤ length w.asks → OfAnswers r d w → OfAnswers r d (with_ask q w)
rule_stays r d w q n s = record {
  modes = s.modes;
  released = s.released;
  stopped = s.stopped;
  passes = s.passes ∙ ap replaces (sym (answer_stays is_headers w q n));
  replaced = s.replaced ∙ ap is_some (sym (replacement_stays d w q n));
  headers = s.headers ∙ ap is_some (sym (answer_stays is_headers w q n));
  body = s.body ∙ ap is_some (sym (answer_stays is_body w q n));
}

head_stays : (c : CourseConfig) (d : Direction) (w : Course) (q : AskedPart) → length w.answers ≤ length w.asks → (o : Option (List Field))
    → option_map (changed_head c d (with_ask q w)) o ≡ option_map (changed_head c d w) o
head_stays c d w q n None = refl
head_stays c d w q n (Some head) =
    ap (λ (o : Option Common). Some (if is_buffered w.modes.body then under c (head_kind d) (under c (head_kind d) head o) (answer_to is_body (with_ask q w)) else under c (head_kind d) head o))
    (answer_stays is_headers w q n)
    ∙ ap (λ (o : Option Common). Some (if is_buffered w.modes.body then under c (head_kind d) (under c (head_kind d) head (answer_to is_headers w)) o else under c (head_kind d) head (answer_to is_headers w)))
    (answer_stays is_body w q n)

passing_stays : (c : CourseConfig) (w : Course) (q : AskedPart) → length w.answers ≤ length w.asks → w.released ≡ false
    → (is_body q ≡ false) ⊎ ((is_body q ≡ true) × (next_body c w ≡ Some q)) → is_passing (with_ask q w) ≡ is_passing w
passing_stays c w q n r (inl e) = passing_same w q n e
passing_stays c w q n r (inr (e, f)) =
    ap (λ b. passing_at b (list_any is_body (out (with_ask q w))) (is_stopped w) (mode (with_ask q w)) (list_any is_body (w.asks ++ q ∷ []))) r
    ∙ ap (λ b. passing_at false b (is_stopped w) (mode (with_ask q w)) (list_any is_body (w.asks ++ q ∷ []))) (ap (list_any is_body) (out_more w q n) ∙ list_any-append is_body (out w) (q ∷ []) ∙ last (list_any is_body (out w)) (is_body q) e)
    ∙ sym (not_passing c w q r f)
  where
    last : (x y : Bool) → y ≡ true → (x || (y || false)) ≡ true
    last true y e = refl
    last false true e = refl
    last false false e = absurd cc

flow_stays : (c : CourseConfig) (d : Direction) (w : Course) (q : AskedPart) → length w.answers ≤ length w.asks → is_passing (with_ask q w) ≡ is_passing w
    → flow c d (with_ask q w) ≡ flow c d w
flow_stays c d w q n e = ap (λ r. body_of (changed_at c (with_ask q w) (Some (record { fields = []; framing = NoField })) r)) (replacement_stays d w q n) ∙ by (replacement d w)
  where
    by : (r : Option (List ℕ)) → body_of (changed_at c (with_ask q w) (Some (record { fields = []; framing = NoField })) r) ≡ body_of (changed_at c w (Some (record { fields = []; framing = NoField })) r)
    by (Some b) = refl
    by None =
        ap (λ (l : List (AskedPart × Common)). flat_map (λ p. p) (filter_map answered_piece l) ++ (if is_passing (with_ask q w) then drop (answered_bytes l) w.original.body else [])) (pairs_stay w q n)
        ∙ ap (λ b. flat_map (λ p. p) (answered_pieces w) ++ (if b then drop (answered_bytes (pairs w)) w.original.body else [])) e

-- What is remembered of the asks

or_last : (x y : Bool) → (x || y) ≡ (x || (y || false))
or_last true y = refl
or_last false true = refl
or_last false false = refl

or_true : (x : Bool) → true ≡ (x || (true || false))
or_true true = refl
or_true false = refl

filled : (asks : List AskedPart) (q : AskedPart) → true ≡ not (is_empty (asks ++ q ∷ []))
filled [] q = refl
filled (p ∷ asks) q = refl

asked_more : (k : Asked) (w : Course) (handed : ℕ) (q : AskedPart) (a : Due) → OfAsks k w handed
    → (made_with a k).any ≡ true → (made_with a k).unsent ≡ k.unsent + 1 → (made_with a k).unhanded ≡ k.unhanded + 1
    → (made_with a k).body ≡ (k.body || (is_body q || false)) → (made_with a k).last ≡ (k.last || (is_last_piece q || false)) → (made_with a k).trailers ≡ (k.trailers || (is_trailers q || false))
    → OfAsks (made_with a k) (with_ask q w) handed
asked_more k w handed q a s y u h b l t =
    let n : length (w.asks ++ q ∷ []) ≡ length w.asks + 1 = length-append w.asks (q ∷ []) in
    let i = s.unsent in
    let j = s.unhanded in
    record {
      any = y ∙ filled w.asks q;
      body = b ∙ ap (λ z. z || (is_body q || false)) s.body ∙ sym (list_any-append is_body w.asks (q ∷ []));
      last = l ∙ ap (λ z. z || (is_last_piece q || false)) s.last ∙ sym (list_any-append is_last_piece w.asks (q ∷ []));
      trailers = t ∙ ap (λ z. z || (is_trailers q || false)) s.trailers ∙ sym (list_any-append is_trailers w.asks (q ∷ []));
      unsent = omega arith;
      unhanded = omega arith;
      order = s.order;
    }

or_none : (x : Bool) → x ≡ (x || (false || false))
or_none true = refl
or_none false = refl

asked_with : (k : Asked) (w : Course) (handed : ℕ) (head : List Field) (n : Length) (hand : List ℕ) (trailers : List Field) (a : Due) → OfAsks k w handed
    → OfAsks (made_with a k) (with_ask (part_of head n hand trailers a) w) handed
asked_with k w handed head n hand trailers due.Headers s =
    asked_more k w handed (Headers head (is_bodiless n)) due.Headers s refl refl refl (or_none k.body) (or_none k.last) (or_none k.trailers)
asked_with k w handed head n hand trailers (due.Body m last) s =
    asked_more k w handed (Body (take m hand) last) (due.Body m last) s refl refl refl (or_true k.body) (or_last k.last last) (or_none k.trailers)
asked_with k w handed head n hand trailers due.Trailers s =
    asked_more k w handed (Trailers trailers) due.Trailers s refl refl refl (or_none k.body) (or_none k.last) (or_true k.trailers)

-- Bytes and counts

asked_bytes_more : (w : Course) (q : AskedPart) → asked_bytes (w.asks ++ q ∷ []) ≡ asked_bytes w.asks + length (bytes_in q)
asked_bytes_more w q = sum_by_push (λ p. length (bytes_in p)) w.asks q

left_more : (w : Course) (q : AskedPart) (outgoing : ℕ) → length w.answers ≤ length w.asks → w.released ≡ false
    → left_hand (with_ask q w) outgoing ≡ left_hand w outgoing + length (bytes_in q)
left_more w q outgoing n r =
    let l : left_hand (with_ask q w) outgoing ≡ asked_bytes (w.asks ++ q ∷ []) + (outgoing - piece_bytes (with_ask q w)) = left_kept (with_ask q w) outgoing r in
    let m : left_hand w outgoing ≡ asked_bytes w.asks + (outgoing - piece_bytes w) = left_kept w outgoing r in
    let a : asked_bytes (w.asks ++ q ∷ []) ≡ asked_bytes w.asks + length (bytes_in q) = asked_bytes_more w q in
    let b : piece_bytes (with_ask q w) ≡ piece_bytes w = piece_bytes_stay w q n in
    omega arith

unasked_more : (d : Direction) (w : Course) (q : AskedPart) → length w.answers ≤ length w.asks → w.released ≡ false → is_some (replacement d w) ≡ false
    → unasked d (with_ask q w) ≡ unasked d w - length (bytes_in q)
unasked_more d w q n r e =
    let l : unasked d (with_ask q w) ≡ length w.original.body - asked_bytes (w.asks ++ q ∷ []) - (w.given - piece_bytes (with_ask q w)) =
    unasked_kept d (with_ask q w) r (ap is_some (replacement_stays d w q n) ∙ e) in
    let m : unasked d w ≡ length w.original.body - asked_bytes w.asks - (w.given - piece_bytes w) = unasked_kept d w r e in
    let a : asked_bytes (w.asks ++ q ∷ []) ≡ asked_bytes w.asks + length (bytes_in q) = asked_bytes_more w q in
    let b : piece_bytes (with_ask q w) ≡ piece_bytes w = piece_bytes_stay w q n in
    omega arith

counts_with : (k : Counts) (d : Direction) (w : Course) (handed : ℕ) (q : AskedPart) (u : ℕ) → length w.answers ≤ length w.asks → w.released ≡ false → is_some (replacement d w) ≡ false
    → OfCounts k d w handed → u ≡ k.unasked - length (bytes_in q) → OfCounts (record k { unasked = u }) d (with_ask q w) handed
counts_with k d w handed q u n r e s f =
    let b : piece_bytes (with_ask q w) ≡ piece_bytes w = piece_bytes_stay w q n in
    let p = s.pieces in
    record {
      unasked = f ∙ ap (λ z. z - length (bytes_in q)) s.unasked ∙ sym (unasked_more d w q n r e);
      pieces = omega arith;
      waiting = s.waiting;
    }

lent_with : (w : Course) (q : AskedPart) (h : Held) (more : List (List ℕ)) → length w.answers ≤ length w.asks → h.lent ≡ map bytes_in (filter is_body (out w))
    → map bytes_in (filter is_body (q ∷ [])) ≡ more → h.lent ++ more ≡ map bytes_in (filter is_body (out (with_ask q w)))
lent_with w q h more n e f =
    ap (λ l. l ++ more) e ∙ ap (λ l. map bytes_in (filter is_body (out w)) ++ l) (sym f)
    ∙ sym (map-append bytes_in (filter is_body (out w)) (filter is_body (q ∷ [])))
    ∙ ap (map bytes_in) (sym (filter-append is_body (out w) (q ∷ [])))
    ∙ ap (λ l. map bytes_in (filter is_body l)) (sym (out_more w q n))

pieces_more : (lent : List (List ℕ)) (piece : List ℕ) → ArePieces lent → length piece ≤ 16_384 → ArePieces (lent ++ piece ∷ [])
pieces_more [] piece s f = (f, tt)
pieces_more (l ∷ lent) piece s f = (s.0, pieces_more lent piece s.1 f)

-- an ask that lends no bytes
hold_stays : (c : CourseConfig) (d : Direction) (w : Course) (handed : ℕ) (q : AskedPart) (h : Held) → length w.answers ≤ length w.asks → w.released ≡ false
    → is_body q ≡ false → map bytes_in (filter is_body (q ∷ [])) ≡ [] → length (bytes_in q) ≡ 0 → OfHold h c d w handed → OfHold h c d (with_ask q w) handed
hold_stays c d w handed q h n r e f z s =
    let o : ℕ = handed + length h.out in
    let passes : is_passing (with_ask q w) ≡ is_passing w = passing_same w q n e in
    let kept : flow c d (with_ask q w) ≡ flow c d w = flow_stays c d w q n passes in
    let left : left_hand (with_ask q w) o ≡ left_hand w o = left_more w q o n r ∙ plus (left_hand w o) (length (bytes_in q)) z in
    let some : is_some (replacement d (with_ask q w)) ≡ is_some (replacement d w) = ap is_some (replacement_stays d w q n) in
    record {
      lent = sym (append-nil h.lent) ∙ lent_with w q h [] n s.lent f;
      hand = s.hand ∙ ap (λ b. if b then [] else drop (left_hand w o) w.original.body) (sym some)
          ∙ ap (λ m. if is_some (replacement d (with_ask q w)) then [] else drop m w.original.body) (sym left);
      out = ap (λ b. h.out ++ (if b then h.hand else [])) passes ∙ s.out ∙ ap (drop handed) (sym kept);
      pieces_first = λ u. let a = s.pieces_first (sym some ∙ u) in let b : piece_bytes (with_ask q w) ≡ piece_bytes w = piece_bytes_stay w q n in omega arith;
      within = λ u. let a = s.within (sym some ∙ u) in omega arith;
      there = let a = s.there in let b : length (flow c d (with_ask q w)) ≡ length (flow c d w) = ap length kept in omega arith;
      idle = λ a u. s.idle (sym (any_same is_body w.asks q e) ∙ a) (sym some ∙ u);
      hand_fits = s.hand_fits;
      lent_fits = s.lent_fits;
    }
  where
    plus : (n m : ℕ) → m ≡ 0 → n + m ≡ n
    plus n m e = omega arith

-- an ask that lends the first bytes at hand
hold_lent : (c : CourseConfig) (d : Direction) (w : Course) (handed n : ℕ) (last : Bool) (h : Held) → length w.answers ≤ length w.asks → w.released ≡ false
    → is_some (replacement d w) ≡ false → n ≤ length h.hand → (is_streamed w.modes.body ≡ true → n ≤ 16_384) → next_body c w ≡ Some (Body (take n h.hand) last) → OfHold h c d w handed
    → OfHold (lend n h) c d (with_ask (Body (take n h.hand) last) w) handed
hold_lent c d w handed n last h m r u l k e s =
    let q : AskedPart = Body (take n h.hand) last in
    let o : ℕ = handed + length h.out in
    let dry : is_passing w ≡ false = not_passing c w q r e in
    let passes : is_passing (with_ask q w) ≡ is_passing w = passing_stays c w q m r (inr (refl, e)) in
    let kept : flow c d (with_ask q w) ≡ flow c d w = flow_stays c d w q m passes in
    let size : length (take n h.hand) ≡ n = length-take-le n h.hand l in
    let left : left_hand (with_ask q w) o ≡ left_hand w o + n = left_more w q o m r ∙ ap (λ z. left_hand w o + z) size in
    let some : is_some (replacement d (with_ask q w)) ≡ is_some (replacement d w) = ap is_some (replacement_stays d w q m) in
    let at : h.hand ≡ drop (left_hand w o) w.original.body = s.hand ∙ hand_kept d w o u in
    let count : length h.hand ≡ length w.original.body - left_hand w o = ap length at ∙ length-drop (left_hand w o) w.original.body in
    record {
      lent = lent_with w q h (take n h.hand ∷ []) m s.lent refl;
      hand = ap (drop n) at ∙ drop-drop n (left_hand w o) w.original.body ∙ ap (λ z. drop z w.original.body) (sym left) ∙ sym (hand_kept d (with_ask q w) o (some ∙ u));
      out = ap (λ b. h.out ++ (if b then drop n h.hand else [])) (passes ∙ dry) ∙ ap (λ b. h.out ++ (if b then h.hand else [])) (sym dry) ∙ s.out ∙ ap (drop handed) (sym kept);
      pieces_first = λ v. let a = s.pieces_first u in let b : piece_bytes (with_ask q w) ≡ piece_bytes w = piece_bytes_stay w q m in omega arith;
      within = λ v. let a = s.within u in omega arith;
      there = let a = s.there in let b : length (flow c d (with_ask q w)) ≡ length (flow c d w) = ap length kept in omega arith;
      idle = λ a v. absurd (clash (or_true (list_any is_body w.asks) ∙ sym (list_any-append is_body w.asks (q ∷ [])) ∙ a));
      hand_fits = let a = s.hand_fits in let b : length (drop n h.hand) ≡ length h.hand - n = length-drop n h.hand in omega arith;
      lent_fits = λ v. pieces_more h.lent (take n h.hand) (s.lent_fits v) (let b : n ≤ 16_384 = k v in omega arith);
    }
  where
    clash : true ≡ false → ⊥
    clash e = cc

-- What it is about is kept

kept_more : (head : Option (List Field)) (framed : Length) (trailers : List Field) (asks : List AskedPart) (q : AskedPart) → AreKept head framed trailers asks → IsKept head framed trailers q
    → AreKept head framed trailers (asks ++ q ∷ [])
kept_more head framed trailers [] q s e = (e, tt)
kept_more head framed trailers (p ∷ asks) q s e = (s.0, kept_more head framed trailers asks q s.1 e)

is_piece : Option Due → Bool
is_piece None = true
is_piece (Some due.Headers) = false
is_piece (Some (due.Body n last)) = true
is_piece (Some due.Trailers) = false

streamed_piece : (z l q e : Bool) (n : ℕ)
    → is_piece (if z then (if l then Some (due.Body 0 true) else None) else if q then Some (due.Body n e) else Some (due.Body 16_384 false)) ≡ true
unfolding is_piece
streamed_piece true true q e n = refl
streamed_piece true false q e n = refl
streamed_piece false l true e n = refl
streamed_piece false l false e n = refl

buffered_piece : (b e : Bool) (n : ℕ) → is_piece (if b then Some (due.Body n e) else None) ≡ true
unfolding is_piece
buffered_piece true e n = refl
buffered_piece false e n = refl

partial_piece : (b l w e : Bool) (limit n : ℕ) → is_piece (if b then None else if l then Some (due.Body limit false) else if w then Some (due.Body n e) else None) ≡ true
unfolding is_piece
partial_piece true l w e limit n = refl
partial_piece false true w e limit n = refl
partial_piece false false true e limit n = refl
partial_piece false false false e limit n = refl

body_piece : (a : Arrived) (k : Asked) (limit n : ℕ) (bare : Bool) (m : BodyMode)
    → is_piece (if bare then None else due_by_mode m (streamed_due a k n) (buffered_due a k n) (partial_due a k limit n)) ≡ true
unfolding is_piece
body_piece a k limit n true m = refl
body_piece a k limit n false NoAsk = refl
body_piece a k limit n false Streamed = streamed_piece (n == 0) ((a.whole && not a.trailers) && k.body && not k.last) (nat_le n 16_384) (a.whole && not a.trailers) n
body_piece a k limit n false Buffered = buffered_piece (a.whole && not k.body) (not a.trailers) n
body_piece a k limit n false Partial = partial_piece k.body (nat_lt limit n) a.whole (not a.trailers) limit n

from_headers : (head r s first h q : Bool) (b : Option Due) → is_piece b ≡ true → due_in head r s first h b (if q then Some due.Trailers else None) ≡ Some due.Headers → (head ≡ true) × (first ≡ true)
unfolding is_piece
from_headers false r s first h q b i e = absurd cc
from_headers true true s first h q b i e = absurd cc
from_headers true false true first h q b i e = absurd cc
from_headers true false false true h q b i e = (refl, refl)
from_headers true false false false true q b i e = absurd cc
from_headers true false false false false q (Some due.Headers) i e = absurd cc
from_headers true false false false false q (Some (due.Body n last)) i e = absurd cc
from_headers true false false false false q (Some due.Trailers) i e = absurd cc
from_headers true false false false false true None i e = absurd cc
from_headers true false false false false false None i e = absurd cc

from_trailers : (head r s first h q : Bool) (b : Option Due) → is_piece b ≡ true → due_in head r s first h b (if q then Some due.Trailers else None) ≡ Some due.Trailers → q ≡ true
unfolding is_piece
from_trailers false r s first h q b i e = absurd cc
from_trailers true true s first h q b i e = absurd cc
from_trailers true false true first h q b i e = absurd cc
from_trailers true false false true h q b i e = absurd cc
from_trailers true false false false true q b i e = absurd cc
from_trailers true false false false false q (Some due.Headers) i e = absurd cc
from_trailers true false false false false q (Some (due.Body n last)) i e = absurd cc
from_trailers true false false false false q (Some due.Trailers) i e = absurd cc
from_trailers true false false false false true None i e = refl
from_trailers true false false false false false None i e = absurd cc

last_false : (x y : Bool) → (x && not y) ≡ true → y ≡ false
last_false true true e = absurd cc
last_false true false e = refl
last_false false y e = absurd cc

headers_kept : (c : CourseConfig) (d : Direction) (p : Progress) (x : Half) → Ties c d p x → due_of x ≡ Some due.Headers → IsKept x.head x.arrived.framed x.trailers (part p x due.Headers)
headers_kept c d p x t e =
    let w : Course = p.course in
    let f = from_headers x.arrived.head x.rule.released x.rule.stopped (x.rule.modes.headers && not x.asked.any) (list_any is_of_headers x.marks)
    (x.rule.modes.trailers && x.arrived.whole && x.arrived.trailers && not x.asked.trailers) (body_due x.arrived x.rule x.asked x.limit (length x.hold.hand))
    (body_piece x.arrived x.asked x.limit (length x.hold.hand) (is_bodiless x.arrived.framed) (mode_in x.rule)) e in
    let none : w.asks ≡ [] = empty_asks w.asks (sym t.asked.any ∙ last_false x.rule.modes.headers x.asked.any f.1) in
    (t.head ∙ at w.original.head (sym t.arrived.head ∙ f.0) none, ap is_bodiless (sym t.arrived.framed))
  where
    empty_asks : (asks : List AskedPart) → not (is_empty asks) ≡ false → asks ≡ []
    empty_asks [] e = refl
    empty_asks (q ∷ asks) e = absurd cc

    at : (o : Option (List Field)) → is_some o ≡ true → p.course.asks ≡ [] → option_map (changed_head c d p.course) o ≡ Some (unwrap_or o [])
    at None e z = absurd cc
    at (Some f) e z = ap Some (sym (same_head c d p.course f (unanswered is_headers p.course z) (unanswered is_body p.course z)))

trailers_kept : (c : CourseConfig) (d : Direction) (p : Progress) (x : Half) → Ties c d p x → due_of x ≡ Some due.Trailers → IsKept x.head x.arrived.framed x.trailers (part p x due.Trailers)
trailers_kept c d p x t e =
    let w : Course = p.course in
    let q = from_trailers x.arrived.head x.rule.released x.rule.stopped (x.rule.modes.headers && not x.asked.any) (list_any is_of_headers x.marks)
    (x.rule.modes.trailers && x.arrived.whole && x.arrived.trailers && not x.asked.trailers) (body_due x.arrived x.rule x.asked x.limit (length x.hold.hand))
    (body_piece x.arrived x.asked x.limit (length x.hold.hand) (is_bodiless x.arrived.framed) (mode_in x.rule)) e in
    let none : list_any is_trailers w.asks ≡ false = sym t.asked.trailers ∙ last_false (x.rule.modes.trailers && x.arrived.whole && x.arrived.trailers) x.asked.trailers (regroup x.rule.modes.trailers x.arrived.whole x.arrived.trailers x.asked.trailers q) in
    t.trailers ∙ ap (λ z. under c TrailerPart w.original.trailers (option_map (λ (q : AskedPart × Common). q.1) z)) (none_of_kind is_trailers w.asks w.answers none)
  where
    regroup : (a b c k : Bool) → (a && b && c && not k) ≡ true → ((a && b && c) && not k) ≡ true
    regroup true true true k e = e
    regroup true true false k e = absurd cc
    regroup true false c k e = absurd cc
    regroup false b c k e = absurd cc

-- All of a half

assemble : (c : CourseConfig) (d : Direction) (p : Progress) (x : Half) (a : Due) (q : AskedPart) → Ties c d p x → mark_of q ≡ mark_for a
    → OfAsks (made_with a x.asked) (with_ask q p.course) p.handed → OfCounts (counted_for (lent_by a) x.counts) d (with_ask q p.course) p.taken.body
    → OfHold (lent_to (lent_by a) x.hold) c d (with_ask q p.course) p.taken.body → BodyAsks (with_ask q p.course)
    → OfRoom (lent_to (lent_by a) x.hold) c p.course.modes.headers (p.course.asks ++ q ∷ []) p.course.original.body p.course.released
    → (p.course.released ≡ false → (counted_for (lent_by a) x.counts).pieces + most_back c.answer_limit (lent_to (lent_by a) x.hold).lent ≤ c.buffer_limit + c.answer_limit * 4 + 131_072)
    → next c p.course ≡ Some q
    → IsKept x.head x.arrived.framed x.trailers q → Ties c d (record p { course = with_ask q p.course }) (with_due a x)
assemble c d p x a q t m k u h b r g e y =
    let w : Course = p.course in
    let n : length w.answers ≤ length w.asks = t.sound.counts in
    record {
      arrived = t.arrived;
      rule = rule_stays x.rule d w q n t.rule;
      asked = k;
      ready = t.ready ∙ ap (λ l. map (ask_of d) (drop p.handed l)) (sym (take-append-le (length w.answers) w.asks (q ∷ []) n));
      body_asks = b;
      counts = u;
      gone = record { framing = t.gone.framing; head = t.gone.head; trailers = t.gone.trailers; ended = t.gone.ended; early = t.gone.early };
      hold = h;
      room = r;
      pieces = subst (λ l. OfPieces x.pieces l p.taken.body) (sym (pieces_stay d w q n)) t.pieces;
      pieces_fit = fit (lent_by a);
      pieces_room = g;
      marks = ap (λ l. l ++ mark_for a ∷ []) t.marks ∙ ap (λ z. map mark_of (out w) ++ z ∷ []) (sym m) ∙ sym (map-append mark_of (out w) (q ∷ [])) ∙ ap (map mark_of) (sym (out_more w q n));
      head = t.head ∙ sym (head_stays c d w q n w.original.head);
      fields = t.fields;
      trailers = t.trailers ∙ ap (under c TrailerPart w.original.trailers) (sym (answer_stays is_trailers w q n));
      parts = subst (AreKept x.head x.arrived.framed x.trailers) (sym (out_more w q n)) (kept_more x.head x.arrived.framed x.trailers (out w) q t.parts y);
      few = fewer (lent_by a) t.few;
      sound = ask_sound c w q t.sound e;
    }
  where
    fit : (o : Option ℕ) → (counted_for o x.counts).pieces ≤ 4_294_967_295
    fit None = t.pieces_fit
    fit (Some n) = t.pieces_fit

    fewer : (o : Option ℕ) {m : ℕ} → x.counts.unasked ≤ m → (counted_for o x.counts).unasked ≤ m
    fewer None e = e
    fewer (Some n) e = omega arith

with_body : (b : Bool) (o : Option Due) {n : ℕ} {last : Bool} → (if b then None else o) ≡ Some (due.Body n last) → b ≡ false
with_body true o e = absurd cc
with_body false o e = refl

not_streamed : (m : BodyMode) → is_buffered m ≡ true → is_streamed m ≡ false
not_streamed NoAsk e = refl
not_streamed Streamed e = absurd cc
not_streamed Buffered e = refl
not_streamed Partial e = refl

-- a half after the ask that was due
pub made_ties : (c : CourseConfig) (d : Direction) (p : Progress) (x : Half) (a : Due) → MadeWith c d x → Ties c d p x → IsChosen x → may_ask x ≡ true → due_of x ≡ Some a
    → Ties c d (record p { course = with_ask (part p x a) p.course }) (with_due a x)
made_ties c d p x a m t k y e = by a e
  where
    next_of : (a : Due) → due_of x ≡ Some a → next c p.course ≡ Some (part p x a)
    next_of a e = next_is_due c d p x m t ∙ ap (option_map (part p x)) e

    asks_of : (a : Due) → OfAsks (made_with a x.asked) (with_ask (part p x a) p.course) p.handed
    asks_of a = asked_with x.asked p.course p.handed (unwrap_or p.course.original.head []) p.course.original.length x.hold.hand p.course.original.trailers a t.asked

    minus_none : (n : ℕ) → n ≡ n - 0
    minus_none n = omega arith

    by : (a : Due) → due_of x ≡ Some a → Ties c d (record p { course = with_ask (part p x a) p.course }) (with_due a x)
    by due.Headers e =
        let on = going_on c d p x due.Headers t e in
        let q : AskedPart = part p x due.Headers in
        assemble c d p x due.Headers q t refl (asks_of due.Headers)
        (counts_with x.counts d p.course p.taken.body q x.counts.unasked t.sound.counts on.0 (unstopped_keeps d p.course on.1) t.counts (minus_none x.counts.unasked))
        (hold_stays c d p.course p.taken.body q x.hold t.sound.counts on.0 refl refl refl t.hold)
        (other_asks p.course q t.sound.counts refl t.body_asks) (room_same c d p x due.Headers t e refl) t.pieces_room (next_of due.Headers e) (headers_kept c d p x t e)
    by (due.Body n last) e =
        let f : LendsFrom c p x n last = lends_from c d p x n last m t e in
        let q : AskedPart = part p x (due.Body n last) in
        let u = unstopped_keeps d p.course f.going in
        let b = body_is_due c d p x m t f.unreleased f.going ∙ ap (option_map (part p x)) f.due in
        assemble c d p x (due.Body n last) q t refl (asks_of (due.Body n last))
        (counts_with x.counts d p.course p.taken.body q (x.counts.unasked - n) t.sound.counts f.unreleased u t.counts
        (ap (λ z. x.counts.unasked - z) (sym (length-take-le n x.hold.hand f.there))))
        (hold_lent c d p.course p.taken.body n last x.hold t.sound.counts f.unreleased u f.there f.small b t.hold)
        (piece_asks p.course q t.sound.counts f.going (ap is_bodiless (sym t.arrived.framed) ∙ with_body (is_bodiless x.arrived.framed) _ f.due) (λ b. f.first (not_streamed p.course.modes.body b)) t.body_asks)
        (room_lent c d p x n last m t k y e f b) (λ r. pieces_lent c d p x n last m t k y e f)
        (next_of (due.Body n last) e) tt
    by due.Trailers e =
        let on = going_on c d p x due.Trailers t e in
        let q : AskedPart = part p x due.Trailers in
        assemble c d p x due.Trailers q t refl (asks_of due.Trailers)
        (counts_with x.counts d p.course p.taken.body q x.counts.unasked t.sound.counts on.0 (unstopped_keeps d p.course on.1) t.counts (minus_none x.counts.unasked))
        (hold_stays c d p.course p.taken.body q x.hold t.sound.counts on.0 refl refl refl t.hold)
        (other_asks p.course q t.sound.counts refl t.body_asks) (room_same c d p x due.Trailers t e refl) t.pieces_room (next_of due.Trailers e) (trailers_kept c d p x t e)
