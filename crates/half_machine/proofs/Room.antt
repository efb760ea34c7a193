-- What is lent has room to go out.
use Rattle.std.proofs.Common.{inl, inr, refl, sym, ◌∙◌, ap, arith, rules, append-nil, length-append, length-drop}
use Rattle.std.proofs.lemmas.Grind.{flat_map-append}
use Rattle.std.proofs.lemmas.List.{append_assoc, drop-append-le, drop-drop, length-take-le, take-append-drop}
use Rattle.std.proofs.lemmas.List.Concat.{length-flat_map}
use Rattle.std.proofs.lemmas.List.Folds.{list_any-append}
use Rattle.std.proofs.lemmas.List.Sums.{sum_by_push}
use Rattle.std.specs.Prelude.{ℕ, ◌≡◌, ◌+◌, ◌-◌, ◌*◌, ◌≤◌, ◌<◌, Bool, true, false, not, ◌&&◌, ◌||◌, List, ◌∷◌, ◌++◌, Some, [], length, take, drop, zip, find, cond, flat_map, Option, is_some, option_map, if◌then◌else◌, nat_lt, nat_le, ◌⊎◌}
use Rattle.std.specs.List.{list_any}
use Rattle.ext_msgs.specs.declared.answer.Common.{Common}
use Rattle.ext_msgs.specs.declared.modes.BodyMode.{BodyMode}
use Rattle.ext_msgs.specs.declared.modes.BodyMode.TheVariants.{NoAsk, Streamed, Buffered, Partial}
use Rattle.ext_msgs.specs.declared.modes.PartModes.{PartModes}
use Rattle.http_model.specs.Bytes.{is_empty}
use Rattle.http_model.specs.Heads.{is_bodiless}
use Rattle.http_model.specs.declared.types.Direction.{Direction}
use Rattle.body_hold.specs.Held.{Held, joined, lent_room}
use Rattle.body_hold.specs.Steps.{put, lend, dropped}
use Rattle.filter_model.specs.Config.{CourseConfig}
use Rattle.filter_model.specs.Course.{Course, AskedPart, bytes_in, asked_bytes, is_body, is_buffered, is_headers, next_body}
use Rattle.filter_model.specs.Half.{Progress}
use Rattle.filter_model.proofs.CourseGrows.{not_passing}
use Rattle.half_machine.specs.Asking.{due_of, may_ask, passes, queued, CanLend}
use Rattle.half_machine.specs.Choosing.{IsChosen, may_go}
use Rattle.half_machine.specs.Due.{due_in, body_due, trailers_due}
use Rattle.half_machine.specs.Facts.{mode_in, settled_in}
use Rattle.half_machine.specs.Marks.{is_of_headers}
use Rattle.half_machine.specs.Room.{OfRoom, most_back}
use Rattle.half_machine.specs.Stands.{MadeWith, Ties, is_streamed, piece_bytes}
use Rattle.half_machine.specs.declared.due.Due.{Due}
use Rattle.half_machine.specs.declared.due.Due.TheVariants as due
use Rattle.half_machine.specs.declared.half.Half.{Half}
use Rattle.half_machine.proofs.AtHand.{rest_at_hand, unstopped_keeps}
use Rattle.half_machine.proofs.Lending.{LendsFrom, can_lend, few_of, below}
use Rattle.half_machine.proofs.AskedBody.{no_pieces}
use Rattle.half_machine.proofs.NextAsk.{part, headers_out_is}

clash : true ≡ false → ⊥
clash e = cc

-- The asked pieces are the first bytes of the body

pub asked_within : (asks : List AskedPart) (body : List ℕ) → flat_map bytes_in asks ++ drop (asked_bytes asks) body ≡ body → asked_bytes asks ≤ length body
asked_within asks body e =
    let l : length (flat_map bytes_in asks) ≡ asked_bytes asks = length-flat_map bytes_in asks in
    let m : length (flat_map bytes_in asks) + length (drop (asked_bytes asks) body) ≡ length body =
    sym (length-append (flat_map bytes_in asks) (drop (asked_bytes asks) body)) ∙ ap length e in
    omega arith

pieces_read : (asks : List AskedPart) (body b : List ℕ) → flat_map bytes_in asks ++ drop (asked_bytes asks) body ≡ body
    → flat_map bytes_in asks ++ drop (asked_bytes asks) (body ++ b) ≡ body ++ b
pieces_read asks body b e =
    ap (λ l. flat_map bytes_in asks ++ l) (drop-append-le (asked_bytes asks) body b (asked_within asks body e))
    ∙ sym (append_assoc (flat_map bytes_in asks) (drop (asked_bytes asks) body) b)
    ∙ ap (λ l. l ++ b) e

pieces_more : (asks : List AskedPart) (body : List ℕ) (q : AskedPart) → flat_map bytes_in asks ++ drop (asked_bytes asks) body ≡ body
    → bytes_in q ≡ take (length (bytes_in q)) (drop (asked_bytes asks) body)
    → flat_map bytes_in (asks ++ q ∷ []) ++ drop (asked_bytes (asks ++ q ∷ [])) body ≡ body
pieces_more asks body q e f =
    let n : ℕ = length (bytes_in q) in
    let rest : List ℕ = drop (asked_bytes asks) body in
    ap (λ l. l ++ drop (asked_bytes (asks ++ q ∷ [])) body) (flat_map-append bytes_in asks (q ∷ []) ∙ ap (λ l. flat_map bytes_in asks ++ l) (append-nil (bytes_in q)))
    ∙ ap (λ k. (flat_map bytes_in asks ++ bytes_in q) ++ drop k body) (sum_by_push (λ p. length (bytes_in p)) asks q)
    ∙ ap (λ l. (flat_map bytes_in asks ++ bytes_in q) ++ l) (sym (drop-drop n (asked_bytes asks) body))
    ∙ append_assoc (flat_map bytes_in asks) (bytes_in q) (drop n rest)
    ∙ ap (λ l. flat_map bytes_in asks ++ (l ++ drop n rest)) f
    ∙ ap (λ l. flat_map bytes_in asks ++ l) (take-append-drop n rest)
    ∙ e

-- What may come back

joined_cons : (p : List ℕ) (lent : List (List ℕ)) → length (joined (p ∷ lent)) ≡ length p + length (joined lent)
joined_cons p lent = length-append p (joined lent)

pub most_few : (a : ℕ) (lent : List (List ℕ)) → length lent ≤ 4 → most_back a lent ≤ a * 4 + length (joined lent)
most_few a [] n = omega arith
most_few a (p ∷ []) n = let i = joined_cons p [] in omega arith
most_few a (p ∷ q ∷ []) n = let i = joined_cons p (q ∷ []) in let j = joined_cons q [] in omega arith
most_few a (p ∷ q ∷ r ∷ []) n =
    let i = joined_cons p (q ∷ r ∷ []) in
    let j = joined_cons q (r ∷ []) in
    let k = joined_cons r [] in omega arith
most_few a (p ∷ q ∷ r ∷ s ∷ []) n =
    let i = joined_cons p (q ∷ r ∷ s ∷ []) in
    let j = joined_cons q (r ∷ s ∷ []) in
    let k = joined_cons r (s ∷ []) in
    let l = joined_cons s [] in omega arith
most_few a (p ∷ q ∷ r ∷ s ∷ t ∷ lent) n = absurd (omega arith)

pub joined_most : (a : ℕ) (lent : List (List ℕ)) → length (joined lent) ≤ most_back a lent
joined_most a [] = omega arith
joined_most a (p ∷ lent) = let i = joined_cons p lent in let j = joined_most a lent in omega arith

-- Bytes that come

pub room_put : (h : Held) (c : CourseConfig) (headers : Bool) (asks : List AskedPart) (body b : List ℕ) (r q : Bool) → OfRoom h c headers asks body r
    → OfRoom (if q then h else put b h) c headers asks (body ++ b) r
room_put h c headers asks body b r true s = record { first = s.first; pieces = pieces_read asks body b s.pieces; lent = s.lent; goes = s.goes }
room_put h c headers asks body b r false s = record { first = s.first; pieces = pieces_read asks body b s.pieces; lent = s.lent; goes = s.goes }

-- Bytes that are handed out

pub room_dropped : (h : Held) (c : CourseConfig) (headers : Bool) (asks : List AskedPart) (body : List ℕ) (r : Bool) (n : ℕ) → OfRoom h c headers asks body r
    → OfRoom (dropped n h) c headers asks body r
room_dropped h c headers asks body r n s = record {
  first = s.first;
  pieces = s.pieces;
  lent = s.lent;
  goes = λ e. let g = s.goes e in let k : length (drop n h.out) ≡ length h.out - n = length-drop n h.out in omega arith;
}

-- An ask that is due

abbrev of_headers : Option Due → Bool
of_headers (Some due.Headers) = true
of_headers _ = false

-- what an ask behind the headers says
behind_headers : (head r s first h : Bool) (b t : Option Due) (a : Due) → due_in head r s first h b t ≡ Some a → of_headers (Some a) ≡ false
    → (head ≡ true) × (first ≡ false) × (h ≡ false)
behind_headers false r s first h b t a e f = absurd cc
behind_headers true true s first h b t a e f = absurd cc
behind_headers true false true first h b t a e f = absurd cc
behind_headers true false false true h b t a e f = absurd (clash (ap of_headers e ∙ f))
behind_headers true false false false true b t a e f = absurd cc
behind_headers true false false false false b t a e f = (refl, refl, refl)

behind : (x : Half) (a : Due) → due_of x ≡ Some a → of_headers (Some a) ≡ false
    → (x.arrived.head ≡ true) × ((x.rule.modes.headers && not x.asked.any) ≡ false) × (list_any is_of_headers x.marks ≡ false)
behind x a e f =
    behind_headers x.arrived.head x.rule.released x.rule.stopped (x.rule.modes.headers && not x.asked.any) (list_any is_of_headers x.marks)
    (body_due x.arrived x.rule x.asked x.limit (length x.hold.hand)) (trailers_due x.arrived x.rule x.asked) a e f

-- where the headers were to be asked, they were
headers_asked : (c : CourseConfig) (d : Direction) (p : Progress) (x : Half) (a : Due) → Ties c d p x → due_of x ≡ Some a → of_headers (Some a) ≡ false
    → p.course.modes.headers ≡ true → list_any is_headers p.course.asks ≡ true
headers_asked c d p x a t e f h =
    t.room.first h (empty (is_empty p.course.asks)
    (sym (ap (λ b. b && not x.asked.any) (ap (λ (m : PartModes). m.headers) t.rule.modes ∙ h) ∙ ap not t.asked.any) ∙ (behind x a e f).1))
  where
    empty : (b : Bool) → (true && not (not b)) ≡ false → b ≡ false
    empty true e = absurd cc
    empty false e = refl

or_first : (x y : Bool) → x ≡ true → (x || y) ≡ true
or_first true y e = refl
or_first false y e = absurd cc

or_last : (x : Bool) → (x || (true || false)) ≡ true
or_last true = refl
or_last false = refl

first_more : (c : CourseConfig) (d : Direction) (p : Progress) (x : Half) (a : Due) → Ties c d p x → due_of x ≡ Some a → p.course.modes.headers ≡ true
    → list_any is_headers (p.course.asks ++ part p x a ∷ []) ≡ true
first_more c d p x a t e h = list_any-append is_headers p.course.asks (part p x a ∷ []) ∙ by a e
  where
    by : (a : Due) → due_of x ≡ Some a → (list_any is_headers p.course.asks || list_any is_headers (part p x a ∷ [])) ≡ true
    by due.Headers e = or_last (list_any is_headers p.course.asks)
    by (due.Body n last) e = or_first (list_any is_headers p.course.asks) _ (headers_asked c d p x (due.Body n last) t e refl h)
    by due.Trailers e = or_first (list_any is_headers p.course.asks) _ (headers_asked c d p x due.Trailers t e refl h)

-- one that takes no bytes
pub room_same : (c : CourseConfig) (d : Direction) (p : Progress) (x : Half) (a : Due) → Ties c d p x → due_of x ≡ Some a → bytes_in (part p x a) ≡ []
    → OfRoom x.hold c p.course.modes.headers (p.course.asks ++ part p x a ∷ []) p.course.original.body p.course.released
room_same c d p x a t e f =
    let w : Course = p.course in
    record {
      first = λ h n. first_more c d p x a t e h;
      pieces = pieces_more w.asks w.original.body (part p x a) t.room.pieces (f ∙ ap (λ (l : List ℕ). take (length l) (drop (asked_bytes w.asks) w.original.body)) (sym f));
      lent = t.room.lent;
      goes = t.room.goes;
    }

-- Where the headers were asked and none of them is out, they are answered

answered_some : (asks : List AskedPart) (answers : List Common) → list_any is_headers asks ≡ true → list_any is_headers (drop (length answers) asks) ≡ false
    → is_some (option_map (λ (q : AskedPart × Common). q.1) (find (λ (q : AskedPart × Common). is_headers q.0) (zip asks answers))) ≡ true
answered_some [] answers e f = absurd (clash (sym e))
answered_some (p ∷ asks) [] e f = absurd (clash (sym e ∙ f))
answered_some (p ∷ asks) (a ∷ answers) e f = by (is_headers p) e (λ g. answered_some asks answers g f)
  where
    by : (b : Bool) → (b || list_any is_headers asks) ≡ true
        → (list_any is_headers asks ≡ true → is_some (option_map (λ (q : AskedPart × Common). q.1) (find (λ (q : AskedPart × Common). is_headers q.0) (zip asks answers))) ≡ true)
        → is_some (option_map (λ (q : AskedPart × Common). q.1) (cond b (Some (p, a)) (find (λ (q : AskedPart × Common). is_headers q.0) (zip asks answers)))) ≡ true
    by true e k = refl
    by false e k = k e

is_settled_at : (c : CourseConfig) (d : Direction) (p : Progress) (x : Half) (a : Due) → Ties c d p x → due_of x ≡ Some a → of_headers (Some a) ≡ false → settled_in x.arrived x.rule ≡ true
is_settled_at c d p x a t e f =
    ap (λ b. b && (x.rule.released || not x.rule.modes.headers || x.rule.headers_answered)) (behind x a e f).0
    ∙ by p.course.modes.headers refl x.rule.released
  where
    by : (h : Bool) → p.course.modes.headers ≡ h → (r : Bool) → (r || not x.rule.modes.headers || x.rule.headers_answered) ≡ true
    by h i true = refl
    by false i false = ap (λ b. not b || x.rule.headers_answered) (ap (λ (m : PartModes). m.headers) t.rule.modes ∙ i)
    by true i false =
        ap (λ b. not b || x.rule.headers_answered) (ap (λ (m : PartModes). m.headers) t.rule.modes ∙ i) ∙ t.rule.headers
        ∙ answered_some p.course.asks p.course.answers (headers_asked c d p x a t e f i) (sym (headers_out_is c d p x t) ∙ (behind x a e f).2)

-- What goes out while a piece is asked

few_queued : (n : ℕ) → nat_le n 65_536 ≡ true → n ≤ 65_536
few_queued n e = search rules

-- the head was chosen, or nothing of the body was asked
few_waiting : (c : CourseConfig) (d : Direction) (p : Progress) (x : Half) (n : ℕ) (last : Bool) → MadeWith c d x → Ties c d p x → IsChosen x → may_ask x ≡ true → due_of x ≡ Some (due.Body n last)
    → LendsFrom c p x n last → (x.counts.waiting + length x.hold.out ≤ 65_536) ⊎ (list_any is_body p.course.asks ≡ false)
few_waiting c d p x n last m t k y e f = by (is_some x.gone.framing) refl
  where
    queue : queued x ≤ 65_536
    queue = few_queued (queued x) (few_of (nat_lt (length x.marks) 4) (nat_lt x.asked.unsent 4) (nat_le (queued x) 65_536) y).2

    unasked : (s : Bool) → is_streamed p.course.modes.body ≡ s → is_some x.gone.framing ≡ false → list_any is_body p.course.asks ≡ false
    unasked false s i = f.first s
    unasked true s i =
        absurd (clash (sym (ap (λ b. not b && may_go x && x.arrived.head) i
        ∙ ap (λ b. (x.rule.released || (b && (not (is_buffered (mode_in x.rule)) || is_bodiless x.arrived.framed || x.rule.body_answered))) && x.arrived.head)
        (is_settled_at c d p x (due.Body n last) t e refl)
        ∙ ap (λ b. (x.rule.released || (not b || is_bodiless x.arrived.framed || x.rule.body_answered)) && x.arrived.head) (ap is_buffered f.mode ∙ streamed p.course.modes.body s)
        ∙ either x.rule.released ∙ (behind x (due.Body n last) e refl).0) ∙ k))
      where
        streamed : (m : BodyMode) → is_streamed m ≡ true → is_buffered m ≡ false
        streamed NoAsk e = refl
        streamed Streamed e = refl
        streamed Buffered e = absurd (clash (sym e))
        streamed Partial e = refl

        either : (b : Bool) → ((b || true) && x.arrived.head) ≡ x.arrived.head
        either true = refl
        either false = refl

    by : (b : Bool) → is_some x.gone.framing ≡ b → (x.counts.waiting + length x.hold.out ≤ 65_536) ⊎ (list_any is_body p.course.asks ≡ false)
    by true i =
        let q : (if is_some x.gone.framing then x.counts.waiting + length x.hold.out + (if passes x then length x.hold.hand else 0) else 0)
        ≡ x.counts.waiting + length x.hold.out + (if passes x then length x.hold.hand else 0) =
        ap (λ b. if b then x.counts.waiting + length x.hold.out + (if passes x then length x.hold.hand else 0) else 0) i in
        let u = queue in
        inl (omega arith)
    by false i = inr (unasked (is_streamed p.course.modes.body) refl i)

out_few : (c : CourseConfig) (d : Direction) (p : Progress) (x : Half) (n : ℕ) (last : Bool) → MadeWith c d x → Ties c d p x → IsChosen x → may_ask x ≡ true → due_of x ≡ Some (due.Body n last)
    → LendsFrom c p x n last → length x.hold.out ≤ 65_536
out_few c d p x n last m t k y e f = by (few_waiting c d p x n last m t k y e f)
  where
    by : (x.counts.waiting + length x.hold.out ≤ 65_536) ⊎ (list_any is_body p.course.asks ≡ false) → length x.hold.out ≤ 65_536
    by (inl q) = omega arith
    by (inr u) = let z : length x.hold.out ≡ 0 = ap length (t.hold.idle u (unstopped_keeps d p.course f.going)) in omega arith

pieces_few : (c : CourseConfig) (d : Direction) (p : Progress) (x : Half) (n : ℕ) (last : Bool) → MadeWith c d x → Ties c d p x → IsChosen x → may_ask x ≡ true → due_of x ≡ Some (due.Body n last)
    → LendsFrom c p x n last → x.counts.pieces ≤ 65_536
pieces_few c d p x n last m t k y e f = by (few_waiting c d p x n last m t k y e f)
  where
    count : x.counts.pieces ≡ piece_bytes p.course - p.course.given
    count = t.counts.pieces

    by : (x.counts.waiting + length x.hold.out ≤ 65_536) ⊎ (list_any is_body p.course.asks ≡ false) → x.counts.pieces ≤ 65_536
    by (inl q) =
        let a : piece_bytes p.course ≤ p.taken.body + length x.hold.out = t.hold.pieces_first (unstopped_keeps d p.course f.going) in
        let g : p.course.given + x.counts.waiting ≡ p.taken.body = t.counts.waiting in
        let b = count in
        omega arith
    by (inr u) =
        let z : piece_bytes p.course ≡ 0 = ap (λ l. length (flat_map (λ p. p) l)) (no_pieces p.course.asks p.course.answers u) in
        let b = count in
        omega arith

pub joined_more : (lent : List (List ℕ)) (piece : List ℕ) → length (joined (lent ++ piece ∷ [])) ≡ length (joined lent) + length piece
joined_more [] piece = let e : length (piece ++ []) ≡ length piece = ap length (append-nil piece) in omega arith
joined_more (l ∷ lent) piece =
    let e : length (joined (lent ++ piece ∷ [])) ≡ length (joined lent) + length piece = joined_more lent piece in
    let a : length (l ++ joined (lent ++ piece ∷ [])) ≡ length l + length (joined (lent ++ piece ∷ [])) = length-append l (joined (lent ++ piece ∷ [])) in
    let b : length (l ++ joined lent) ≡ length l + length (joined lent) = length-append l (joined lent) in
    omega arith

-- one that takes the first bytes at hand
pub room_lent : (c : CourseConfig) (d : Direction) (p : Progress) (x : Half) (n : ℕ) (last : Bool) → MadeWith c d x → Ties c d p x → IsChosen x → may_ask x ≡ true
    → due_of x ≡ Some (due.Body n last) → LendsFrom c p x n last → next_body c p.course ≡ Some (part p x (due.Body n last))
    → OfRoom (lend n x.hold) c p.course.modes.headers (p.course.asks ++ part p x (due.Body n last) ∷ []) p.course.original.body p.course.released
room_lent c d p x n last m t k y e f b =
    let w : Course = p.course in
    let size : length (take n x.hold.hand) ≡ n = length-take-le n x.hold.hand f.there in
    let rest : x.hold.hand ≡ drop (asked_bytes w.asks) w.original.body =
    rest_at_hand c d w x.hold p.taken.body t.hold f.unreleased (unstopped_keeps d w f.going) (not_passing c w (part p x (due.Body n last)) f.unreleased b) in
    let lends : CanLend x (Some n) = can_lend c d p x n last m t (below (length x.marks) 4 (few_of (nat_lt (length x.marks) 4) (nat_lt x.asked.unsent 4) (nat_le (queued x) 65_536) y).0) e in
    let few : length x.hold.lent < 4 = lends.1 in
    let fits : length (joined x.hold.lent) + n ≤ lent_room x.hold.limit = lends.2 in
    let more : length (joined (x.hold.lent ++ take n x.hold.hand ∷ [])) ≡ length (joined x.hold.lent) + length (take n x.hold.hand) = joined_more x.hold.lent (take n x.hold.hand) in
    let one : length (x.hold.lent ++ take n x.hold.hand ∷ []) ≡ length x.hold.lent + 1 = length-append x.hold.lent (take n x.hold.hand ∷ []) in
    let i : c.buffer_limit ≡ x.limit = m.limit in
    let j : x.hold.limit ≡ x.limit = m.hold in
    record {
      first = λ h z. first_more c d p x (due.Body n last) t e h;
      pieces = pieces_more w.asks w.original.body (part p x (due.Body n last)) t.room.pieces
          (ap (take n) rest ∙ ap (λ z. take z (drop (asked_bytes w.asks) w.original.body)) (sym size));
      lent = omega arith;
      goes = λ r.
          let o : length x.hold.out ≤ 65_536 = out_few c d p x n last m t k y e f in
          let back : most_back c.answer_limit (x.hold.lent ++ take n x.hold.hand ∷ []) ≤ c.answer_limit * 4 + length (joined (x.hold.lent ++ take n x.hold.hand ∷ [])) =
          most_few c.answer_limit (x.hold.lent ++ take n x.hold.hand ∷ []) (omega arith) in
          omega arith;
    }

pub pieces_lent : (c : CourseConfig) (d : Direction) (p : Progress) (x : Half) (n : ℕ) (last : Bool) → MadeWith c d x → Ties c d p x → IsChosen x → may_ask x ≡ true
    → due_of x ≡ Some (due.Body n last) → LendsFrom c p x n last → x.counts.pieces + most_back c.answer_limit (lend n x.hold).lent ≤ c.buffer_limit + c.answer_limit * 4 + 131_072
pieces_lent c d p x n last m t k y e f =
    let size : length (take n x.hold.hand) ≡ n = length-take-le n x.hold.hand f.there in
    let lends : CanLend x (Some n) = can_lend c d p x n last m t (below (length x.marks) 4 (few_of (nat_lt (length x.marks) 4) (nat_lt x.asked.unsent 4) (nat_le (queued x) 65_536) y).0) e in
    let few : length x.hold.lent < 4 = lends.1 in
    let fits : length (joined x.hold.lent) + n ≤ lent_room x.hold.limit = lends.2 in
    let more : length (joined (x.hold.lent ++ take n x.hold.hand ∷ [])) ≡ length (joined x.hold.lent) + length (take n x.hold.hand) = joined_more x.hold.lent (take n x.hold.hand) in
    let one : length (x.hold.lent ++ take n x.hold.hand ∷ []) ≡ length x.hold.lent + 1 = length-append x.hold.lent (take n x.hold.hand ∷ []) in
    let i : c.buffer_limit ≡ x.limit = m.limit in
    let j : x.hold.limit ≡ x.limit = m.hold in
    let o : x.counts.pieces ≤ 65_536 = pieces_few c d p x n last m t k y e f in
    let back : most_back c.answer_limit (x.hold.lent ++ take n x.hold.hand ∷ []) ≤ c.answer_limit * 4 + length (joined (x.hold.lent ++ take n x.hold.hand ∷ [])) =
    most_few c.answer_limit (x.hold.lent ++ take n x.hold.hand ∷ []) (omega arith) in
    omega arith
