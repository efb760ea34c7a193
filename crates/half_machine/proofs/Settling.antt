-- A half that got other modes stands for the course that has them: nothing of the body was asked.
use Rattle.std.proofs.Common.{inl, inr, refl, sym, ◌∙◌, ap, subst, arith}
use Rattle.std.specs.Prelude.{ℕ, ◌≡◌, ◌⊎◌, ◌+◌, ◌-◌, ◌≤◌, Bool, true, false, List, ◌++◌, Some, None, [], length, drop, map, zip, find, flat_map, Option, is_some, option_map, if◌then◌else◌}
use Rattle.std.specs.List.{list_any}
use Rattle.ext_msgs.specs.declared.lists.Field.{Field}
use Rattle.ext_msgs.specs.declared.answer.Common.{Common}
use Rattle.ext_msgs.specs.declared.modes.PartModes.{PartModes}
use Rattle.http_model.specs.Bytes.{is_empty}
use Rattle.http_model.specs.declared.types.Direction.{Direction}
use Rattle.body_hold.specs.Held.{Held}
use Rattle.filter_model.specs.Config.{CourseConfig}
use Rattle.filter_model.specs.Course.{Course, AskedPart, Outgoing, changed_head, head_kind, under, is_buffered, is_bare, is_body, is_headers, is_passing, passing_at, is_stopped, mode, out, pairs, bytes_in, asked_bytes, answered_bytes, answered_pieces, answer_to, replacement, replacement_at}
use Rattle.filter_model.specs.Half.{Past, Settle, called, settled_modes, progress, course}
use Rattle.filter_model.specs.Sound.{Sound}
use Rattle.filter_model.proofs.CourseGrows.{none_of_kind, once_out, no_bytes}
use Rattle.half_machine.specs.Stands.{ArePieces, OfHold, Ties, StandsFor, flow, piece_bytes, left_hand}
use Rattle.half_machine.specs.Calls.{MaySettle, settled_in}
use Rattle.half_machine.specs.Choosing.{Holds}
use Rattle.half_machine.specs.declared.half.Half.{Half}
use Rattle.half_machine.proofs.AskedBody.{no_pieces, settled_asks}
use Rattle.half_machine.proofs.AtHand.{flow_kept}
use Rattle.half_machine.proofs.Lending.{hand_kept, no_bodies, none_out}
use Rattle.half_machine.proofs.Coming.{answered_were_asked}

clash : true ≡ false → ⊥
clash e = cc

-- What is known where modes may change

pub record Unasked (w : Course) : Type 0 where
  pub body : list_any is_body w.asks ≡ false
  pub headers : answer_to is_headers w ≡ None
  pub head : w.released ≡ false → w.head ≡ None

value_of_none : (kind : AskedPart → Bool) (asks : List AskedPart) (answers : List Common) → find (λ (q : AskedPart × Common). kind q.0) (zip asks answers) ≡ None
    → option_map (λ (q : AskedPart × Common). q.1) (find (λ (q : AskedPart × Common). kind q.0) (zip asks answers)) ≡ None
value_of_none kind asks answers e = ap (option_map (λ (q : AskedPart × Common). q.1)) e

unasked : (c : CourseConfig) (w : Course) → Sound c w → (w.original.head ≡ None) ⊎ (list_any is_headers (out w) ≡ true) → Unasked w
unasked c w s (inl e) =
    let r = s.head_read e in
    record {
      body = ap (list_any is_body) r.1;
      headers = ap (λ (l : List AskedPart). option_map (λ (q : AskedPart × Common). q.1) (find (λ (q : AskedPart × Common). is_headers q.0) (zip l w.answers))) r.1;
      head = λ z. r.0;
    }
unasked c w s (inr e) = record {
  body = s.in_turn e;
  headers = value_of_none is_headers w.asks w.answers (once_out is_headers w.asks w.answers s.once_headers e);
  head = λ z. by w.head refl z;
}
  where
    by : (o : Option Outgoing) → w.head ≡ o → w.released ≡ false → w.head ≡ None
    by None i z = i
    by (Some h) i z = absurd (clash (sym e ∙ s.no_headers h i z))

abbrev with_modes : PartModes → Course → Course
with_modes m w = record w { modes = m }

hold_settled : (c : CourseConfig) (d : Direction) (w : Course) (handed : ℕ) (h : Held) (m : PartModes) (r : Bool) → w.released ≡ r → (r ≡ false → handed ≡ 0) → Unasked w
    → is_some (replacement d w) ≡ false → OfHold h c d w handed → OfHold h c d (with_modes m w) handed
hold_settled c d w handed h m r i z u e s = record {
  lent = s.lent;
  hand = s.hand;
  out = by r i z;
  pieces_first = s.pieces_first;
  within = s.within;
  there = there r i z;
  idle = s.idle;
  hand_fits = s.hand_fits;
  lent_fits = λ q. subst ArePieces (sym (s.lent ∙ ap (map bytes_in) (no_bodies (out w) (none_out w u.body)))) tt;
}
  where
    none : flat_map (λ p. p) (answered_pieces w) ≡ []
    none = ap (flat_map (λ p. p)) (no_pieces w.asks w.answers u.body)

    no_answered : answered_bytes (pairs w) ≡ 0
    no_answered = let a = answered_were_asked w.asks w.answers in let b = no_bytes w.asks u.body in omega arith

    plain : (m : PartModes) → flow c d (with_modes m w) ≡ (if is_passing (with_modes m w) then w.original.body else [])
    plain m =
        flow_kept c d (with_modes m w) e
        ∙ ap (λ l. l ++ (if is_passing (with_modes m w) then drop (answered_bytes (pairs w)) w.original.body else [])) none
        ∙ ap (λ n. if is_passing (with_modes m w) then drop n w.original.body else []) no_answered

    passing : w.released ≡ true → (m : PartModes) → is_passing (with_modes m w) ≡ true
    passing i m = ap (λ b. passing_at b (list_any is_body (out w)) (is_stopped w) (mode (with_modes m w)) (list_any is_body w.asks)) i

    same : w.released ≡ true → flow c d (with_modes m w) ≡ flow c d w
    same i =
        plain m ∙ ap (λ b. if b then w.original.body else []) (passing i m)
        ∙ sym (plain w.modes ∙ ap (λ b. if b then w.original.body else []) (passing i w.modes))

    all : w.released ≡ false → handed ≡ 0 → h.hand ≡ w.original.body
    all i z =
        let o : length h.out ≡ 0 = ap length (s.idle u.body e) in
        let a = no_bytes w.asks u.body in
        let l : left_hand w (handed + length h.out) ≡ 0 =
        ap (λ b. (if b then answered_bytes (pairs w) else asked_bytes w.asks) + ((handed + length h.out) - piece_bytes w)) i ∙ sum a (nothing z o) in
        s.hand ∙ hand_kept d w (handed + length h.out) e ∙ ap (λ n. drop n w.original.body) l
      where
        nothing : handed ≡ 0 → length h.out ≡ 0 → (handed + length h.out) - piece_bytes w ≡ 0
        nothing a b = omega arith

        sum : {n k : ℕ} → n ≡ 0 → k ≡ 0 → n + k ≡ 0
        sum a b = omega arith

    by : (r : Bool) → w.released ≡ r → (r ≡ false → handed ≡ 0) → h.out ++ (if is_passing (with_modes m w) then h.hand else []) ≡ drop handed (flow c d (with_modes m w))
    by true i z =
        ap (λ b. h.out ++ (if b then h.hand else [])) (passing i m ∙ sym (passing i w.modes)) ∙ s.out ∙ ap (drop handed) (sym (same i))
    by false i z =
        ap (λ l. l ++ (if is_passing (with_modes m w) then h.hand else [])) (s.idle u.body e)
        ∙ ap (λ l. if is_passing (with_modes m w) then l else []) (all i (z refl))
        ∙ sym (plain m) ∙ ap (λ n. drop n (flow c d (with_modes m w))) (sym (z refl))

    there : (r : Bool) → w.released ≡ r → (r ≡ false → handed ≡ 0) → handed ≤ length (flow c d (with_modes m w))
    there true i z = let k : length (flow c d (with_modes m w)) ≡ length (flow c d w) = ap length (same i) in let t = s.there in omega arith
    there false i z = let k = z refl in omega arith

settled_sound : (c : CourseConfig) (w : Course) (m : PartModes) → Sound c w → Unasked w → (m.headers ≡ false → list_any is_headers w.asks ≡ false) → Sound c (with_modes m w)
settled_sound c w m s u h = record {
  counts = s.counts;
  head_read = s.head_read;
  bodiless = s.bodiless;
  once_headers = s.once_headers;
  once_trailers = s.once_trailers;
  headers = h;
  trailers = s.trailers;
  in_turn = s.in_turn;
  covered = λ k t. absurd (clash (sym t ∙ u.body));
  no_headers = λ x e r. absurd (gone x e r);
  first_made = λ x e r. absurd (gone x e r);
}
  where
    gone : (x : Outgoing) → w.head ≡ Some x → w.released ≡ false → ⊥
    gone x e r = clash (ap is_some (sym e) ∙ ap is_some (u.head r))

same_head : (c : CourseConfig) (d : Direction) (w : Course) (m : PartModes) → answer_to is_body w ≡ None → (o : Option (List Field))
    → option_map (changed_head c d (with_modes m w)) o ≡ option_map (changed_head c d w) o
same_head c d w m e None = refl
same_head c d w m e (Some head) = to m ∙ sym (to w.modes)
  where
    either : (b : Bool) (x : List Field) → (if b then x else x) ≡ x
    either true x = refl
    either false x = refl

    to : (m : PartModes) → Some (changed_head c d (with_modes m w) head) ≡ Some (under c (head_kind d) head (answer_to is_headers w))
    to m =
        ap (λ (o : Option Common). Some (if is_buffered m.body then under c (head_kind d) (under c (head_kind d) head (answer_to is_headers w)) o else under c (head_kind d) head (answer_to is_headers w))) e
        ∙ ap Some (either (is_buffered m.body) (under c (head_kind d) head (answer_to is_headers w)))

unreplaced_at : (bare : Bool) (o : Option Common) → o ≡ None → is_some (replacement_at bare o) ≡ false
unreplaced_at true o e = refl
unreplaced_at false o e = ap (λ z. is_some (replacement_at false z)) e

modes_are : (b : Bool) (o : Option (List Field)) (old new : PartModes) → b ≡ is_some o → settled_in b old new ≡ settled_modes o old new
modes_are b None old new e = ap (λ z. settled_in z old new) e
modes_are b (Some h) old new e = ap (λ z. settled_in z old new) e

headers_kept : (o : Option (List Field)) (w : Course) (new : PartModes) (c : CourseConfig) → w.original.head ≡ o → Sound c w → (settled_modes o w.modes new).headers ≡ false
    → list_any is_headers w.asks ≡ false
headers_kept None w new c e s h = ap (list_any is_headers) (s.head_read e).1
headers_kept (Some f) w new c e s h = s.headers h

headers_first : (o : Option (List Field)) (w : Course) (new : PartModes) (c : CourseConfig) → w.original.head ≡ o → Sound c w
    → (w.modes.headers ≡ true → is_empty w.asks ≡ false → list_any is_headers w.asks ≡ true)
    → (settled_modes o w.modes new).headers ≡ true → is_empty w.asks ≡ false → list_any is_headers w.asks ≡ true
headers_first None w new c e s f h n = absurd (clash (ap is_empty (sym (s.head_read e).1) ∙ n))
headers_first (Some l) w new c e s f h n = f h n

pub settle_holds : (p : Past) (x : Half) (m made : PartModes) → StandsFor p x → MaySettle p → made ≡ settled_in x.arrived.head x.rule.modes m
    → Holds p.config p.direction (record (progress p) { course = called (Settle m) (course p) }) (record x { rule = record x.rule { modes = made } })
settle_holds p x m made s y e =
    let w : Course = course p in
    let c : CourseConfig = p.config in
    let d : Direction = p.direction in
    let t : Ties c d (progress p) x = s.ties in
    let u : Unasked w = unasked c w t.sound y.early in
    let n : PartModes = settled_modes w.original.head w.modes m in
    let kept : is_some (replacement d w) ≡ false = unreplaced_at (is_bare d w.original.length) (answer_to is_headers w) u.headers in
    let body : answer_to is_body w ≡ None = value_of_none is_body w.asks w.answers (none_of_kind is_body w.asks w.answers u.body) in (
      s.made,
      record {
        arrived = t.arrived;
        rule = record {
          modes = e ∙ modes_are x.arrived.head w.original.head x.rule.modes m t.arrived.head ∙ ap (λ q. settled_modes w.original.head q m) t.rule.modes;
          released = t.rule.released;
          stopped = t.rule.stopped;
          passes = t.rule.passes;
          replaced = t.rule.replaced;
          headers = t.rule.headers;
          body = t.rule.body;
        };
        asked = record { any = t.asked.any; body = t.asked.body; last = t.asked.last; trailers = t.asked.trailers; unsent = t.asked.unsent; unhanded = t.asked.unhanded; order = t.asked.order };
        ready = t.ready;
        body_asks = settled_asks w n t.body_asks u.body u.head;
        counts = record { unasked = t.counts.unasked; pieces = t.counts.pieces; waiting = t.counts.waiting };
        gone = record { framing = t.gone.framing; head = t.gone.head; trailers = t.gone.trailers; ended = t.gone.ended; early = t.gone.early };
        hold = hold_settled c d w (progress p).taken.body x.hold n w.released refl (λ r. t.gone.early (u.head r)) u kept t.hold;
        room = record { first = headers_first w.original.head w m c refl t.sound t.room.first; pieces = t.room.pieces; lent = t.room.lent; goes = t.room.goes };
        pieces = t.pieces;
        pieces_fit = t.pieces_fit;
        pieces_room = t.pieces_room;
        marks = t.marks;
        head = t.head ∙ sym (same_head c d w n body w.original.head);
        fields = t.fields;
        trailers = t.trailers;
        parts = t.parts;
        few = t.few;
        sound = settled_sound c w n t.sound u (headers_kept w.original.head w m c refl t.sound);
      },
    )
