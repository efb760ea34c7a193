-- A half hands out the body bytes that its message goes on with, and stands for the past in which they were handed out.
use Rattle.std.proofs.Common.{refl, sym, ◌∙◌, ap, subst, arith, append-nil, length-append, length-drop}
use Rattle.std.proofs.lemmas.List.{append_assoc, drop-append-le, drop-drop, drop_at, length-take-le, take-append-le}
use Rattle.std.proofs.lemmas.List.Sums.{sum_by-cons}
use Rattle.std.proofs.lemmas.Grind.{flat_map-append}
use Rattle.std.proofs.Math.Seq.{drop-append-add}
use Rattle.std.specs.Prelude.{ℕ, ◌≡◌, ◌+◌, ◌-◌, ◌*◌, ◌<◌, ◌≤◌, min, Bool, true, false, List, [], ◌∷◌, ◌++◌, length, take, drop, zip, sum_by, Option, Some, None, is_some, if◌then◌else◌}
use Rattle.std.specs.List.{list_any}
use Rattle.ext_msgs.specs.declared.answer.Common.{Common}
use Rattle.http_model.specs.declared.types.Direction.{Direction}
use Rattle.http_model.specs.declared.types.Framing.TheVariants.{NoField}
use Rattle.body_hold.specs.Steps.{taken, dropped}
use Rattle.filter_model.specs.Config.{CourseConfig}
use Rattle.filter_model.specs.Course.{Course, AskedPart, Outgoing, changed, changed_at, body_of, bytes_in, is_body, is_passing, passing_at, is_stopped, mode, out, pairs, asked_bytes, answered_bytes, answered_pieces, replacement}
use Rattle.filter_model.specs.Half.{IsNextData, Progress}
use Rattle.filter_model.proofs.CourseGrows.{no_bytes}
use Rattle.half_machine.specs.Pieces.{OfPieces, pieces_by, pieces_of, lengths_of}
use Rattle.half_machine.specs.Stands.{OfHold, MadeWith, Ties, flow, piece_bytes, left_hand}
use Rattle.half_machine.specs.Asking.{passes}
use Rattle.half_machine.specs.Giving.{most_of, out_size, out_given, hand_given}
use Rattle.half_machine.specs.declared.half.Half.{Half}
use Rattle.half_machine.proofs.Lending.{hand_kept}
use Rattle.half_machine.proofs.Room.{room_dropped}
use Rattle.half_machine.proofs.Coming.{no_hand, unasked_all}
use Rattle.half_machine.proofs.Permit.{passes_is, left_over}
use Rattle.half_machine.proofs.NextData.{joined, behind_gone, whole_piece, behind_all, first_within, pieces_out, at_end, passed_pieces, piece_gone}

clash : true ≡ false → ⊥
clash e = cc

-- The body in two parts

abbrev pub passing_by : Option (List ℕ) → List ℕ → List ℕ
passing_by (Some body) passing = []
passing_by None passing = passing

abbrev pub passing_of : Direction → Course → List ℕ
passing_of d w = passing_by (replacement d w) (if is_passing w then drop (answered_bytes (pairs w)) w.original.body else [])

pub flow_is : (c : CourseConfig) (d : Direction) (w : Course) → flow c d w ≡ joined (pieces_of d w) ++ passing_of d w
flow_is c d w = by (replacement d w)
  where
    by : (r : Option (List ℕ)) → body_of (changed_at c w (Some (record { fields = []; framing = NoField })) r)
        ≡ joined (pieces_by r (answered_pieces w)) ++ passing_by r (if is_passing w then drop (answered_bytes (pairs w)) w.original.body else [])
    by (Some b) = refl
    by None = refl

next_data : (c : CourseConfig) (d : Direction) (w : Course) (o : Outgoing) (max n : ℕ) (b : List ℕ) → w.head ≡ Some o → IsNextData max (pieces_of d w) (passing_of d w) n b
    → IsNextData max (changed c d w).pieces (changed c d w).passing n b
unfolding changed
next_data c d w o max n b e k =
    subst (λ z. IsNextData max (changed_at c w z (replacement d w)).pieces (changed_at c w z (replacement d w)).passing n b) (sym e) (by (replacement d w) k)
  where
    by : (r : Option (List ℕ))
        → IsNextData max (pieces_by r (answered_pieces w)) (passing_by r (if is_passing w then drop (answered_bytes (pairs w)) w.original.body else [])) n b
        → IsNextData max (changed_at c w (Some o) r).pieces (changed_at c w (Some o) r).passing n b
    by (Some l) k = k
    by None k = k

drop_past : (n : ℕ) (xs ys : List ℕ) → length xs ≤ n → drop n (xs ++ ys) ≡ drop (n - length xs) ys
drop_past n xs ys l = ap (λ z. drop z (xs ++ ys)) (split n (length xs) l) ∙ drop-append-add xs ys (n - length xs)
  where
    split : (n m : ℕ) → m ≤ n → n ≡ m + (n - m)
    split n m e = omega arith

-- all pieces that are left are in what goes out
pieces_in_out : (c : CourseConfig) (d : Direction) (p : Progress) (x : Half) → Ties c d p x → length (joined (pieces_of d p.course)) ≤ p.taken.body + length x.hold.out
pieces_in_out c d p x t = by (replacement d p.course) refl
  where
    none : (q : Bool) (n : ℕ) → n ≡ 0 → (if q then n else 0) ≡ 0
    none true n e = e
    none false n e = refl

    by : (r : Option (List ℕ)) → replacement d p.course ≡ r → length (joined (pieces_of d p.course)) ≤ p.taken.body + length x.hold.out
    by None e =
        let a : piece_bytes p.course ≤ p.taken.body + length x.hold.out = t.hold.pieces_first (ap is_some e) in
        let b : length (joined (pieces_of d p.course)) ≡ piece_bytes p.course = ap (λ r. length (joined (pieces_by r (answered_pieces p.course)))) e in
        omega arith
    by (Some l) e =
        let a : p.taken.body + (length x.hold.out + (if passes x then length x.hold.hand else 0)) ≡ length (flow c d p.course) = left_over c d p x t in
        let h : length x.hold.hand ≡ 0 = ap length (no_hand c d p x t (ap is_some e)) in
        let n : (if passes x then length x.hold.hand else 0) ≡ 0 = none (passes x) (length x.hold.hand) h in
        let f : length (flow c d p.course) ≡ length (joined (pieces_of d p.course)) + length (passing_of d p.course) =
        ap length (flow_is c d p.course) ∙ length-append (joined (pieces_of d p.course)) (passing_of d p.course) in
        omega arith

-- what goes out begins with what wasn't handed out yet
out_is : (c : CourseConfig) (d : Direction) (p : Progress) (x : Half) (n : ℕ) → Ties c d p x → n ≤ length x.hold.out
    → take n x.hold.out ≡ take n (drop p.taken.body (joined (pieces_of d p.course) ++ passing_of d p.course))
out_is c d p x n t l =
    sym (take-append-le n x.hold.out (if is_passing p.course then x.hold.hand else []) l)
    ∙ ap (take n) (t.hold.out ∙ ap (drop p.taken.body) (flow_is c d p.course))

-- How many bytes go

out_within : (max : ℕ) (x : Half) (n : ℕ) → n ≡ out_size max x → n ≤ length x.hold.out
out_within max x n e = omega arith

piece_size : (c : CourseConfig) (d : Direction) (p : Progress) (x : Half) (k : ℕ) (ns : List ℕ) → Ties c d p x → x.pieces ≡ k ∷ ns → (1 ≤ k) × (k ≤ length x.hold.out)
piece_size c d p x k ns t e =
    let s : OfPieces x.pieces (pieces_of d p.course) p.taken.body = t.pieces in
    let f = first_within s.left k ns (sym s.lengths ∙ e) in
    let least : 1 ≤ k = f.0 in
    let within : k ≤ length (joined s.left) = f.1 in
    let a = pieces_in_out c d p x t in
    let h : p.taken.body ≡ length (joined s.gone) = at_end x.pieces (pieces_of d p.course) p.taken.body k ns e s in
    let n : length (joined (pieces_of d p.course)) ≡ length (joined s.gone) + length (joined s.left) =
    ap (λ l. length (joined l)) s.whole ∙ ap length (flat_map-append (λ p. p) s.gone s.left) ∙ length-append (joined s.gone) (joined s.left) in
    (least, omega arith)

pub none_out : (c : CourseConfig) (d : Direction) (p : Progress) (x : Half) (max : ℕ) → Ties c d p x → 1 ≤ max → out_size max x ≡ 0 → (x.pieces ≡ []) × (length x.hold.out ≡ 0)
none_out c d p x max t m z = by x.pieces refl
  where
    by : (l : List ℕ) → x.pieces ≡ l → (x.pieces ≡ []) × (length x.hold.out ≡ 0)
    by [] e = let f : min max (length x.hold.out) ≡ 0 = sym (ap (λ l. min (most_of max l) (length x.hold.out)) e) ∙ z in (e, omega arith)
    by (k ∷ ns) e =
        let f : min k (length x.hold.out) ≡ 0 = sym (ap (λ l. min (most_of max l) (length x.hold.out)) e) ∙ z in
        let s = piece_size c d p x k ns t e in
        let least : 1 ≤ k = s.0 in
        let within : k ≤ length x.hold.out = s.1 in
        absurd (omega arith)

-- They are the next

pub out_next : (c : CourseConfig) (d : Direction) (p : Progress) (x : Half) (o : Outgoing) (max n : ℕ) → Ties c d p x → p.course.head ≡ Some o → n ≡ out_size max x → 0 < n
    → IsNextData max (changed c d p.course).pieces (changed c d p.course).passing p.taken.body (take n x.hold.out)
out_next c d p x o max n t h e y = next_data c d p.course o max p.taken.body (take n x.hold.out) h (by x.pieces refl)
  where
    within : n ≤ length x.hold.out
    within = out_within max x n e

    by : (l : List ℕ) → x.pieces ≡ l → IsNextData max (pieces_of d p.course) (passing_of d p.course) p.taken.body (take n x.hold.out)
    by [] f =
        let s : OfPieces x.pieces (pieces_of d p.course) p.taken.body = t.pieces in
        let g : length (joined (pieces_of d p.course)) ≤ p.taken.body = pieces_out x.pieces (pieces_of d p.course) p.taken.body f s in
        let size : length (take n x.hold.out) ≡ n = length-take-le n x.hold.out within in
        let most : n ≡ min max (length x.hold.out) = e ∙ ap (λ l. min (most_of max l) (length x.hold.out)) f in
        let same : take n x.hold.out ≡ take (length (take n x.hold.out)) (drop (p.taken.body - length (joined (pieces_of d p.course))) (passing_of d p.course)) =
        out_is c d p x n t within ∙ ap (take n) (drop_past p.taken.body (joined (pieces_of d p.course)) (passing_of d p.course) g)
        ∙ ap (λ z. take z (drop (p.taken.body - length (joined (pieces_of d p.course))) (passing_of d p.course))) (sym size) in
        behind_all max (pieces_of d p.course) (passing_of d p.course) p.taken.body (take n x.hold.out) g (omega arith, omega arith, same)
    by (k ∷ ns) f =
        let s : OfPieces x.pieces (pieces_of d p.course) p.taken.body = t.pieces in
        let q = piece_size c d p x k ns t f in
        let fits : k ≤ length x.hold.out = q.1 in
        let most : n ≡ min k (length x.hold.out) = e ∙ ap (λ l. min (most_of max l) (length x.hold.out)) f in
        let size : n ≡ k = omega arith in
        let g : p.taken.body ≡ length (joined s.gone) = at_end x.pieces (pieces_of d p.course) p.taken.body k ns f s in
        let same : take n x.hold.out ≡ take k (joined s.left ++ passing_of d p.course) =
        ap (λ z. take z x.hold.out) size ∙ out_is c d p x k t fits
        ∙ ap (λ z. take k (drop z (joined (pieces_of d p.course) ++ passing_of d p.course))) g
        ∙ ap (λ l. take k (drop (length (joined s.gone)) (joined l ++ passing_of d p.course))) s.whole
        ∙ ap (λ l. take k (drop (length (joined s.gone)) (l ++ passing_of d p.course))) (flat_map-append (λ p. p) s.gone s.left)
        ∙ ap (λ l. take k (drop (length (joined s.gone)) l)) (append_assoc (joined s.gone) (joined s.left) (passing_of d p.course))
        ∙ ap (take k) (drop_at (joined s.gone) (joined s.left ++ passing_of d p.course) (length (joined s.gone)) refl) in
        subst (λ z. IsNextData max (pieces_of d p.course) (passing_of d p.course) z (take n x.hold.out)) (sym g)
        (subst (λ l. IsNextData max l (passing_of d p.course) (length (joined s.gone)) (take n x.hold.out)) (sym s.whole)
        (behind_gone max s.gone s.left (passing_of d p.course) (take n x.hold.out)
        (whole_piece max s.left (passing_of d p.course) k ns (sym s.lengths ∙ f) (take n x.hold.out) (passing_of d p.course) same)))

-- bytes at hand go where none goes out
hand_is : (c : CourseConfig) (d : Direction) (p : Progress) (x : Half) → Ties c d p x → length x.hold.out ≡ 0 → passes x ≡ true → x.hold.hand ≡ drop p.taken.body (flow c d p.course)
hand_is c d p x t z q =
    ap (λ l. l ++ x.hold.hand) (sym (empty x.hold.out z))
    ∙ ap (λ b. x.hold.out ++ (if b then x.hold.hand else [])) (sym q ∙ passes_is c d p x t) ∙ t.hold.out
  where
    empty : (l : List ℕ) → length l ≡ 0 → l ≡ []
    empty [] e = refl
    empty (b ∷ l) e = absurd cc

pub hand_next : (c : CourseConfig) (d : Direction) (p : Progress) (x : Half) (o : Outgoing) (max n : ℕ) → Ties c d p x → p.course.head ≡ Some o → x.pieces ≡ [] → length x.hold.out ≡ 0
    → passes x ≡ true → n ≡ min max (length x.hold.hand) → 0 < n
    → IsNextData max (changed c d p.course).pieces (changed c d p.course).passing p.taken.body (take n x.hold.hand)
hand_next c d p x o max n t h f z q e y =
    let s : OfPieces x.pieces (pieces_of d p.course) p.taken.body = t.pieces in
    let g : length (joined (pieces_of d p.course)) ≤ p.taken.body = pieces_out x.pieces (pieces_of d p.course) p.taken.body f s in
    let within : n ≤ length x.hold.hand = omega arith in
    let size : length (take n x.hold.hand) ≡ n = length-take-le n x.hold.hand within in
    let same : take n x.hold.hand ≡ take (length (take n x.hold.hand)) (drop (p.taken.body - length (joined (pieces_of d p.course))) (passing_of d p.course)) =
    ap (take n) (hand_is c d p x t z q ∙ ap (drop p.taken.body) (flow_is c d p.course) ∙ drop_past p.taken.body (joined (pieces_of d p.course)) (passing_of d p.course) g)
    ∙ ap (λ z. take z (drop (p.taken.body - length (joined (pieces_of d p.course))) (passing_of d p.course))) (sym size) in
    next_data c d p.course o max p.taken.body (take n x.hold.hand) h
    (behind_all max (pieces_of d p.course) (passing_of d p.course) p.taken.body (take n x.hold.hand) g (omega arith, omega arith, same))

-- The count of what was handed out

asked_answered : (asks : List AskedPart) (answers : List Common) → length answers ≤ length asks → list_any is_body (drop (length answers) asks) ≡ false
    → sum_by (λ p. length (bytes_in p)) asks ≡ sum_by (λ (q : AskedPart × Common). length (bytes_in q.0)) (zip asks answers)
asked_answered [] answers l e = refl
asked_answered (p ∷ asks) [] l e = no_bytes (p ∷ asks) e
asked_answered (p ∷ asks) (a ∷ answers) l e =
    let i : sum_by (λ p. length (bytes_in p)) asks ≡ sum_by (λ (q : AskedPart × Common). length (bytes_in q.0)) (zip asks answers) = asked_answered asks answers (omega arith) e in
    let m : sum_by (λ (q : AskedPart × Common). length (bytes_in q.0)) ((p, a) ∷ zip asks answers) ≡ length (bytes_in p) + sum_by (λ (q : AskedPart × Common). length (bytes_in q.0)) (zip asks answers) =
    sum_by-cons (λ (q : AskedPart × Common). length (bytes_in q.0)) (p, a) (zip asks answers) in
    let n : sum_by (λ p. length (bytes_in p)) (p ∷ asks) ≡ length (bytes_in p) + sum_by (λ p. length (bytes_in p)) asks = sum_by-cons (λ p. length (bytes_in p)) p asks in
    omega arith

-- where bytes pass, those in asks were answered
none_asked : (w : Course) → length w.answers ≤ length w.asks → is_passing w ≡ true → (if w.released then answered_bytes (pairs w) else asked_bytes w.asks) ≡ answered_bytes (pairs w)
none_asked w l e = by w.released refl (list_any is_body (out w)) refl
  where
    to : (r b : Bool) → w.released ≡ r → list_any is_body (out w) ≡ b → passing_at r b (is_stopped w) (mode w) (list_any is_body w.asks) ≡ true
    to r b i j =
        sym (ap (λ z. passing_at z (list_any is_body (out w)) (is_stopped w) (mode w) (list_any is_body w.asks)) i
        ∙ ap (λ z. passing_at r z (is_stopped w) (mode w) (list_any is_body w.asks)) j) ∙ e

    by : (r : Bool) → w.released ≡ r → (b : Bool) → list_any is_body (out w) ≡ b → (if w.released then answered_bytes (pairs w) else asked_bytes w.asks) ≡ answered_bytes (pairs w)
    by true i b j = ap (λ z. if z then answered_bytes (pairs w) else asked_bytes w.asks) i
    by false i true j = absurd (clash (sym (to false true i j)))
    by false i false j = ap (λ z. if z then answered_bytes (pairs w) else asked_bytes w.asks) i ∙ asked_answered w.asks w.answers l j

flow_fits : (c : CourseConfig) (d : Direction) (p : Progress) (x : Half) → Ties c d p x → replacement d p.course ≡ None
    → length (flow c d p.course) ≤ p.course.given + (x.counts.pieces + x.counts.unasked)
flow_fits c d p x t e = by (is_passing p.course) refl
  where
    w : Course
    w = p.course

    by : (q : Bool) → is_passing p.course ≡ q → length (flow c d p.course) ≤ p.course.given + (x.counts.pieces + x.counts.unasked)
    by true i =
        let f : length (flow c d p.course) ≡ piece_bytes p.course + length (drop (answered_bytes (pairs p.course)) p.course.original.body) =
        ap length (flow_is c d p.course)
        ∙ ap (λ r. length (joined (pieces_by r (answered_pieces p.course)) ++ passing_by r (if is_passing p.course then drop (answered_bytes (pairs p.course)) p.course.original.body else []))) e
        ∙ ap (λ b. length (joined (answered_pieces p.course) ++ (if b then drop (answered_bytes (pairs p.course)) p.course.original.body else []))) i
        ∙ length-append (joined (answered_pieces p.course)) (drop (answered_bytes (pairs p.course)) p.course.original.body) in
        let l : length (drop (answered_bytes (pairs p.course)) p.course.original.body) ≡ length p.course.original.body - answered_bytes (pairs p.course) =
        length-drop (answered_bytes (pairs p.course)) p.course.original.body in
        let a : (if p.course.released then answered_bytes (pairs p.course) else asked_bytes p.course.asks) ≡ answered_bytes (pairs p.course) = none_asked p.course t.sound.counts i in
        let u : x.counts.unasked ≡ length p.course.original.body - (if p.course.released then answered_bytes (pairs p.course) else asked_bytes p.course.asks) - (p.course.given - piece_bytes p.course) =
        t.counts.unasked ∙ unasked_all d p.course (ap is_some e) in
        let v : x.counts.unasked ≡ length p.course.original.body - answered_bytes (pairs p.course) - (p.course.given - piece_bytes p.course) =
        u ∙ ap (λ n. length p.course.original.body - n - (p.course.given - piece_bytes p.course)) a in
        let n : x.counts.pieces ≡ piece_bytes p.course - p.course.given = t.counts.pieces in
        omega arith
    by false i =
        let f : length (flow c d p.course) ≡ piece_bytes p.course =
        ap length (flow_is c d p.course)
        ∙ ap (λ r. length (joined (pieces_by r (answered_pieces p.course)) ++ passing_by r (if is_passing p.course then drop (answered_bytes (pairs p.course)) p.course.original.body else []))) e
        ∙ ap (λ b. length (joined (answered_pieces p.course) ++ (if b then drop (answered_bytes (pairs p.course)) p.course.original.body else []))) i
        ∙ ap length (append-nil (joined (answered_pieces p.course))) in
        let n : x.counts.pieces ≡ piece_bytes p.course - p.course.given = t.counts.pieces in
        omega arith

-- where the body was replaced, all of it goes at once
none_before : (b : List ℕ) (gone left : List (List ℕ)) (k : ℕ) (ns : List ℕ) → b ∷ [] ≡ gone ++ left → lengths_of left ≡ k ∷ ns → length (joined gone) ≡ 0
none_before b [] left k ns e f = refl
none_before b (g ∷ gone) left k ns e f = absurd (differs (sym f ∙ ap lengths_of (rest gone left (ap (drop 1) e))))
  where
    differs : k ∷ ns ≡ [] → ⊥
    differs e = cc

    rest : (gone left : List (List ℕ)) → [] ≡ gone ++ left → left ≡ []
    rest [] left e = sym e
    rest (g ∷ gone) left e = absurd cc

waiting_fits : (c : CourseConfig) (d : Direction) (p : Progress) (x : Half) (n : ℕ) → MadeWith c d x → Ties c d p x → 0 < n → n ≤ 4_294_967_295 → p.taken.body + n ≤ length (flow c d p.course)
    → x.counts.waiting + n ≤ 18_446_744_073_709_551_615
waiting_fits c d p x n m t y u l = by (replacement d p.course) refl
  where
    waiting : p.course.given + x.counts.waiting ≡ p.taken.body
    waiting = t.counts.waiting

    few : (r : Bool) → x.counts.unasked ≤ (if r then c.buffer_limit * 2 + 131_072 else c.buffer_limit + 65_536) → x.counts.unasked ≤ 4_294_967_295
    few true k = let a : c.buffer_limit ≡ x.limit = m.limit in let b : x.limit ≤ 1_048_576 = m.small in omega arith
    few false k = let a : c.buffer_limit ≡ x.limit = m.limit in let b : x.limit ≤ 1_048_576 = m.small in omega arith

    at : (b : List ℕ) → replacement d p.course ≡ Some b → (ps : List ℕ) → x.pieces ≡ ps → x.counts.waiting + n ≤ 18_446_744_073_709_551_615
    at b e [] i =
        let g : length (joined (pieces_of d p.course)) ≤ p.taken.body = pieces_out x.pieces (pieces_of d p.course) p.taken.body i t.pieces in
        let f : length (flow c d p.course) ≡ length (joined (pieces_of d p.course)) + length (passing_of d p.course) =
        ap length (flow_is c d p.course) ∙ length-append (joined (pieces_of d p.course)) (passing_of d p.course) in
        let z : length (passing_of d p.course) ≡ 0 = ap (λ r. length (passing_by r (if is_passing p.course then drop (answered_bytes (pairs p.course)) p.course.original.body else []))) e in
        absurd (omega arith)
    at b e (k ∷ ns) i =
        let s : OfPieces x.pieces (pieces_of d p.course) p.taken.body = t.pieces in
        let g : p.taken.body ≡ length (joined s.gone) = at_end x.pieces (pieces_of d p.course) p.taken.body k ns i s in
        let z : length (joined s.gone) ≡ 0 = none_before b s.gone s.left k ns (ap (λ r. pieces_by r (answered_pieces p.course)) (sym e) ∙ s.whole) (sym s.lengths ∙ i) in
        let a = waiting in
        omega arith

    by : (r : Option (List ℕ)) → replacement d p.course ≡ r → x.counts.waiting + n ≤ 18_446_744_073_709_551_615
    by None e =
        let f = flow_fits c d p x t e in
        let a = waiting in
        let k : x.counts.unasked ≤ 4_294_967_295 = few p.course.released t.few in
        let q : x.counts.pieces ≤ 4_294_967_295 = t.pieces_fit in
        omega arith
    by (Some b) e = at b e x.pieces refl

-- What is left stands for the rest

abbrev pub more_taken : Progress → ℕ → Progress
more_taken p n = record p { taken = record p.taken { body = p.taken.body + n } }

drop_of_none : (n : ℕ) (l : List ℕ) → l ≡ [] → drop n l ≡ []
drop_of_none n l e = ap (drop n) e ∙ none n
  where
    none : (n : ℕ) → drop {A = ℕ} n [] ≡ []
    none ℕ.zero = refl
    none (ℕ.suc n) = refl

hold_out : (c : CourseConfig) (d : Direction) (p : Progress) (x : Half) (n : ℕ) → Ties c d p x → n ≤ length x.hold.out → p.taken.body + n ≤ length (flow c d p.course)
    → OfHold (dropped n x.hold) c d p.course (p.taken.body + n)
hold_out c d p x n t l f =
    let s : OfHold x.hold c d p.course p.taken.body = t.hold in
    let k : length (drop n x.hold.out) ≡ length x.hold.out - n = length-drop n x.hold.out in
    let same : p.taken.body + n + length (drop n x.hold.out) ≡ p.taken.body + length x.hold.out = omega arith in
    record {
      lent = s.lent;
      hand = s.hand ∙ ap (λ z. hand_at z) (sym same);
      out = sym (drop-append-le n x.hold.out (if is_passing p.course then x.hold.hand else []) l) ∙ ap (drop n) s.out ∙ drop-drop n p.taken.body (flow c d p.course);
      pieces_first = λ e. let a = s.pieces_first e in omega arith;
      within = λ e. let a = s.within e in subst (λ z. left_hand p.course z ≤ length p.course.original.body) (sym same) a;
      there = f;
      idle = λ a e. drop_of_none n x.hold.out (s.idle a e);
      hand_fits = s.hand_fits;
      lent_fits = s.lent_fits;
    }
  where
    hand_at : ℕ → List ℕ
    hand_at z = if is_some (replacement d p.course) then [] else drop (left_hand p.course z) p.course.original.body

pub out_ties : (c : CourseConfig) (d : Direction) (p : Progress) (x : Half) (o : Outgoing) (max n : ℕ) → MadeWith c d x → Ties c d p x → p.course.head ≡ Some o → n ≡ out_size max x → 0 < n
    → n ≤ 4_294_967_295 → Ties c d (more_taken p n) (out_given n x)
out_ties c d p x o max n m t h e y u = record {
  arrived = t.arrived;
  rule = t.rule;
  asked = t.asked;
  ready = t.ready;
  body_asks = t.body_asks;
  counts = record { unasked = t.counts.unasked; pieces = t.counts.pieces; waiting = let a = t.counts.waiting in let b = waiting_fits c d p x n m t y u fits in omega arith };
  gone = record { framing = t.gone.framing; head = t.gone.head; trailers = t.gone.trailers; ended = t.gone.ended; early = λ z. absurd (no_head (sym z ∙ h)) };
  hold = hold_out c d p x n t within fits;
  room = room_dropped x.hold c p.course.modes.headers p.course.asks p.course.original.body p.course.released n t.room;
  pieces = pieces x.pieces refl;
  pieces_fit = t.pieces_fit;
  pieces_room = t.pieces_room;
  marks = t.marks;
  head = t.head;
  fields = t.fields;
  trailers = t.trailers;
  parts = t.parts;
  few = t.few;
  sound = t.sound;
}
  where
    no_head : None ≡ Some o → ⊥
    no_head e = cc

    within : n ≤ length x.hold.out
    within = out_within max x n e

    fits : p.taken.body + n ≤ length (flow c d p.course)
    fits = let l : p.taken.body + (length x.hold.out + (if passes x then length x.hold.hand else 0)) ≡ length (flow c d p.course) = left_over c d p x t in let w = within in omega arith

    pieces : (l : List ℕ) → x.pieces ≡ l → OfPieces (drop 1 x.pieces) (pieces_of d p.course) (p.taken.body + n)
    pieces [] f =
        subst (λ l. OfPieces (drop 1 l) (pieces_of d p.course) (p.taken.body + n)) (sym f)
        (passed_pieces (pieces_of d p.course) p.taken.body n (subst (λ l. OfPieces l (pieces_of d p.course) p.taken.body) f t.pieces))
    pieces (k ∷ ns) f =
        let q = piece_size c d p x k ns t f in
        let l : k ≤ length x.hold.out = q.1 in
        let most : n ≡ min k (length x.hold.out) = e ∙ ap (λ l. min (most_of max l) (length x.hold.out)) f in
        let size : k ≡ n = omega arith in
        subst (λ l. OfPieces (drop 1 l) (pieces_of d p.course) (p.taken.body + n)) (sym f)
        (subst (λ z. OfPieces ns (pieces_of d p.course) (p.taken.body + z)) size
        (piece_gone k ns (pieces_of d p.course) p.taken.body (subst (λ l. OfPieces l (pieces_of d p.course) p.taken.body) f t.pieces)))

-- bytes at hand pass only where the body isn't replaced
hand_kept_by : (c : CourseConfig) (d : Direction) (p : Progress) (x : Half) → Ties c d p x → 0 < length x.hold.hand → replacement d p.course ≡ None
hand_kept_by c d p x t l = by (replacement d p.course) refl
  where
    by : (r : Option (List ℕ)) → replacement d p.course ≡ r → replacement d p.course ≡ None
    by None e = e
    by (Some b) e = let h : length x.hold.hand ≡ 0 = ap length (no_hand c d p x t (ap is_some e)) in absurd (omega arith)

hold_hand : (c : CourseConfig) (d : Direction) (p : Progress) (x : Half) (n : ℕ) → Ties c d p x → length x.hold.out ≡ 0 → passes x ≡ true → 0 < n → n ≤ length x.hold.hand
    → p.taken.body + n ≤ length (flow c d p.course) → OfHold (taken n x.hold) c d p.course (p.taken.body + n)
hold_hand c d p x n t z q y l f =
    let s : OfHold x.hold c d p.course p.taken.body = t.hold in
    let kept : is_some (replacement d p.course) ≡ false = ap is_some (hand_kept_by c d p x t (omega arith)) in
    let at : x.hold.hand ≡ drop (left_hand p.course (p.taken.body + length x.hold.out)) p.course.original.body = s.hand ∙ hand_kept d p.course (p.taken.body + length x.hold.out) kept in
    let size : length x.hold.hand ≡ length p.course.original.body - left_hand p.course (p.taken.body + length x.hold.out) =
    ap length at ∙ length-drop (left_hand p.course (p.taken.body + length x.hold.out)) p.course.original.body in
    let first : piece_bytes p.course ≤ p.taken.body + length x.hold.out = s.pieces_first kept in
    let more : n + left_hand p.course (p.taken.body + length x.hold.out) ≡ left_hand p.course (p.taken.body + n + length x.hold.out) = omega arith in
    record {
      lent = s.lent;
      hand = ap (drop n) at ∙ drop-drop n (left_hand p.course (p.taken.body + length x.hold.out)) p.course.original.body
          ∙ ap (λ i. drop i p.course.original.body) (swap (left_hand p.course (p.taken.body + length x.hold.out)) n ∙ more)
          ∙ sym (hand_kept d p.course (p.taken.body + n + length x.hold.out) kept);
      out = ap (λ l. l ++ (if is_passing p.course then drop n x.hold.hand else [])) (empty x.hold.out z)
          ∙ ap (λ b. if b then drop n x.hold.hand else []) (sym (passes_is c d p x t) ∙ q)
          ∙ ap (drop n) (hand_is c d p x t z q) ∙ drop-drop n p.taken.body (flow c d p.course);
      pieces_first = λ e. omega arith;
      within = λ e. let a = s.within kept in omega arith;
      there = f;
      idle = s.idle;
      hand_fits = let a = s.hand_fits in let b : length (drop n x.hold.hand) ≡ length x.hold.hand - n = length-drop n x.hold.hand in omega arith;
      lent_fits = s.lent_fits;
    }
  where
    empty : (l : List ℕ) → length l ≡ 0 → l ≡ []
    empty [] e = refl
    empty (b ∷ l) e = absurd cc

    swap : (a b : ℕ) → a + b ≡ b + a
    swap a b = omega arith

pub hand_ties : (c : CourseConfig) (d : Direction) (p : Progress) (x : Half) (o : Outgoing) (max n : ℕ) → MadeWith c d x → Ties c d p x → p.course.head ≡ Some o → x.pieces ≡ [] → length x.hold.out ≡ 0
    → passes x ≡ true → n ≡ min max (length x.hold.hand) → 0 < n → n ≤ 4_294_967_295 → Ties c d (more_taken p n) (hand_given n x)
hand_ties c d p x o max n m t h f z q e y u = record {
  arrived = t.arrived;
  rule = t.rule;
  asked = t.asked;
  ready = t.ready;
  body_asks = t.body_asks;
  counts = record { unasked = t.counts.unasked; pieces = t.counts.pieces; waiting = let a = t.counts.waiting in let b = waiting_fits c d p x n m t y u fits in omega arith };
  gone = record { framing = t.gone.framing; head = t.gone.head; trailers = t.gone.trailers; ended = t.gone.ended; early = λ z. absurd (no_head (sym z ∙ h)) };
  hold = hold_hand c d p x n t z q y within fits;
  room = record { first = t.room.first; pieces = t.room.pieces; lent = t.room.lent; goes = t.room.goes };
  pieces = subst (λ l. OfPieces l (pieces_of d p.course) (p.taken.body + n)) (sym f)
      (passed_pieces (pieces_of d p.course) p.taken.body n (subst (λ l. OfPieces l (pieces_of d p.course) p.taken.body) f t.pieces));
  pieces_fit = t.pieces_fit;
  pieces_room = t.pieces_room;
  marks = t.marks;
  head = t.head;
  fields = t.fields;
  trailers = t.trailers;
  parts = t.parts;
  few = t.few;
  sound = t.sound;
}
  where
    no_head : None ≡ Some o → ⊥
    no_head e = cc

    within : n ≤ length x.hold.hand
    within = omega arith

    fits : p.taken.body + n ≤ length (flow c d p.course)
    fits =
        let l : p.taken.body + (length x.hold.out + (if passes x then length x.hold.hand else 0)) ≡ length (flow c d p.course) = left_over c d p x t in
        let w = within in
        let g : (if passes x then length x.hold.hand else 0) ≡ length x.hold.hand = ap (λ b. if b then length x.hold.hand else 0) q in
        omega arith
