-- What is at hand: the bytes that no ask has, as long as nothing passes.
use Rattle.std.proofs.Common.{inl, inr, refl, sym, ◌∙◌, ap, arith, append-nil, length-drop}
use Rattle.std.specs.Prelude.{ℕ, ◌≡◌, ◌⊎◌, ◌+◌, ◌-◌, Bool, true, false, ◌||◌, List, ◌∷◌, ◌++◌, Some, None, [], length, drop, zip, find, cond, flat_map, Option, is_some, option_map, if◌then◌else◌}
use Rattle.std.specs.List.{list_any}
use Rattle.ext_msgs.specs.declared.answer.Common.{Common}
use Rattle.ext_msgs.specs.declared.modes.BodyMode.{BodyMode}
use Rattle.ext_msgs.specs.declared.modes.BodyMode.TheVariants.{Streamed, Buffered, Partial}
use Rattle.http_model.specs.declared.types.Direction.{Direction}
use Rattle.http_model.specs.declared.types.Framing.TheVariants.{NoField}
use Rattle.body_hold.specs.Held.{Held}
use Rattle.filter_model.specs.Config.{CourseConfig}
use Rattle.filter_model.specs.Course.{Course, AskedPart, changed_at, body_of, is_body, is_headers, is_stopped, is_passing, passing_at, mode, out, pairs, asked_bytes, answered_bytes, answered_pieces, answer_to, replaces, replacement, replacement_at, new_piece, is_bare}
use Rattle.filter_model.proofs.CourseGrows.{no_bytes}
use Rattle.half_machine.specs.Stands.{OfHold, flow, piece_bytes, left_hand}

-- Nothing replaces the body before a CONTINUE_AND_REPLACE

pub unreplaced : (kind : AskedPart → Bool) (asks : List AskedPart) (answers : List Common) → list_any (λ (a : Common). a.replace) answers ≡ false
    → replaces (option_map (λ (q : AskedPart × Common). q.1) (find (λ (q : AskedPart × Common). kind q.0) (zip asks answers))) ≡ false
unreplaced kind [] answers e = refl
unreplaced kind (p ∷ asks) [] e = refl
unreplaced kind (p ∷ asks) (a ∷ answers) e = by (kind p) (first a.replace _ e) (unreplaced kind asks answers (second a.replace _ e))
  where
    first : (x y : Bool) → (x || y) ≡ false → x ≡ false
    first true y e = e
    first false y e = refl

    second : (x y : Bool) → (x || y) ≡ false → y ≡ false
    second true y e = absurd cc
    second false y e = e

    by : (b : Bool) → a.replace ≡ false
        → replaces (option_map (λ (q : AskedPart × Common). q.1) (find (λ (q : AskedPart × Common). kind q.0) (zip asks answers))) ≡ false
        → replaces (option_map (λ (q : AskedPart × Common). q.1) (cond b (Some (p, a)) (find (λ (q : AskedPart × Common). kind q.0) (zip asks answers)))) ≡ false
    by true e f = e
    by false e f = f

pub unstopped_keeps : (d : Direction) (w : Course) → is_stopped w ≡ false → is_some (replacement d w) ≡ false
unstopped_keeps d w e = at (is_bare d w.original.length) (answer_to is_headers w) (unreplaced is_headers w.asks w.answers e)
  where
    at : (bare : Bool) (o : Option Common) → replaces o ≡ false → is_some (replacement_at bare o) ≡ false
    at true o e = refl
    at false None e = refl
    at false (Some a) e = ap (λ b. is_some (if b then new_piece a.body else None)) e

pub none_of : {A : Type 0} (o : Option A) → is_some o ≡ false → o ≡ None
none_of None e = refl
none_of (Some x) e = absurd cc

-- The body that the message has become

pub flow_kept : (c : CourseConfig) (d : Direction) (w : Course) → is_some (replacement d w) ≡ false
    → flow c d w ≡ flat_map (λ p. p) (answered_pieces w) ++ (if is_passing w then drop (answered_bytes (pairs w)) w.original.body else [])
flow_kept c d w e = ap (λ r. body_of (changed_at c w (Some (record { fields = []; framing = NoField })) r)) (none_of (replacement d w) e)

-- what goes out is what is left of the answered pieces
pub pieces_left : (c : CourseConfig) (d : Direction) (w : Course) (h : Held) (handed : ℕ) → OfHold h c d w handed → is_some (replacement d w) ≡ false → is_passing w ≡ false
    → handed + length h.out ≡ piece_bytes w
pieces_left c d w h handed s e f =
    let k : flow c d w ≡ flat_map (λ p. p) (answered_pieces w) ++ [] =
    flow_kept c d w e ∙ ap (λ b. flat_map (λ p. p) (answered_pieces w) ++ (if b then drop (answered_bytes (pairs w)) w.original.body else [])) f in
    let l : length (flow c d w) ≡ piece_bytes w = ap length (k ∙ append-nil (flat_map (λ p. p) (answered_pieces w))) in
    let o : h.out ≡ drop handed (flow c d w) = sym (append-nil h.out) ∙ ap (λ b. h.out ++ (if b then h.hand else [])) (sym f) ∙ s.out in
    let n : length h.out ≡ length (flow c d w) - handed = ap length o ∙ length-drop handed (flow c d w) in
    let t = s.there in
    omega arith

pub rest_at_hand : (c : CourseConfig) (d : Direction) (w : Course) (h : Held) (handed : ℕ) → OfHold h c d w handed → w.released ≡ false → is_some (replacement d w) ≡ false
    → is_passing w ≡ false → h.hand ≡ drop (asked_bytes w.asks) w.original.body
rest_at_hand c d w h handed s r e f =
    let n : handed + length h.out ≡ piece_bytes w = pieces_left c d w h handed s e f in
    let z : (handed + length h.out) - piece_bytes w ≡ 0 = omega arith in
    let m : left_hand w (handed + length h.out) ≡ asked_bytes w.asks =
    ap (λ b. (if b then answered_bytes (pairs w) else asked_bytes w.asks) + ((handed + length h.out) - piece_bytes w)) r
    ∙ ap (λ k. asked_bytes w.asks + k) z ∙ plus_none (asked_bytes w.asks) in
    s.hand ∙ ap (λ b. if b then [] else drop (left_hand w (handed + length h.out)) w.original.body) e ∙ ap (λ k. drop k w.original.body) m
  where
    plus_none : (n : ℕ) → n + 0 ≡ n
    plus_none n = omega arith

-- Nothing passes

streamed_passes : (o k : Bool) → passing_at false o false Streamed k ≡ false
streamed_passes true k = refl
streamed_passes false k = refl

buffered_passes : (o k : Bool) → passing_at false o false Buffered k ≡ false
buffered_passes true k = refl
buffered_passes false k = refl

partial_passes : (o : Bool) → passing_at false o false Partial false ≡ false
partial_passes true = refl
partial_passes false = refl

passing_by : (w : Course) (m : BodyMode) (k : Bool) → w.released ≡ false → is_stopped w ≡ false → mode w ≡ m → list_any is_body w.asks ≡ k
    → is_passing w ≡ passing_at false (list_any is_body (out w)) false m k
passing_by w m k r s e f =
    ap (λ b. passing_at b (list_any is_body (out w)) (is_stopped w) (mode w) (list_any is_body w.asks)) r
    ∙ ap (λ b. passing_at false (list_any is_body (out w)) b (mode w) (list_any is_body w.asks)) s
    ∙ ap (λ x. passing_at false (list_any is_body (out w)) false x (list_any is_body w.asks)) e
    ∙ ap (λ b. passing_at false (list_any is_body (out w)) false m b) f

pub streamed_hand : (c : CourseConfig) (d : Direction) (w : Course) (h : Held) (handed : ℕ) → OfHold h c d w handed → w.released ≡ false → is_stopped w ≡ false
    → mode w ≡ Streamed → h.hand ≡ drop (asked_bytes w.asks) w.original.body
streamed_hand c d w h handed t r s e =
    rest_at_hand c d w h handed t r (unstopped_keeps d w s) (passing_by w Streamed (list_any is_body w.asks) r s e refl ∙ streamed_passes (list_any is_body (out w)) (list_any is_body w.asks))

drop_none : (n : ℕ) (l : List ℕ) → n ≡ 0 → drop n l ≡ l
drop_none n l e = ap (λ k. drop k l) e

-- where no piece was asked, all of the body is at hand
pub whole_hand : (c : CourseConfig) (d : Direction) (w : Course) (h : Held) (handed : ℕ) → OfHold h c d w handed → w.released ≡ false → is_stopped w ≡ false
    → (mode w ≡ Buffered) ⊎ (mode w ≡ Partial) → list_any is_body w.asks ≡ false → h.hand ≡ w.original.body
whole_hand c d w h handed t r s e f =
    rest_at_hand c d w h handed t r (unstopped_keeps d w s) (by e) ∙ drop_none (asked_bytes w.asks) w.original.body (no_bytes w.asks f)
  where
    by : (mode w ≡ Buffered) ⊎ (mode w ≡ Partial) → is_passing w ≡ false
    by (inl e) = passing_by w Buffered false r s e f ∙ buffered_passes (list_any is_body (out w)) false
    by (inr e) = passing_by w Partial false r s e f ∙ partial_passes (list_any is_body (out w))
