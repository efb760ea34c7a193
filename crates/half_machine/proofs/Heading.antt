-- A half that got its head stands for the course that has it.
use Rattle.std.proofs.Common.{refl, sym, ◌∙◌, ap, arith, subst}
use Rattle.std.specs.Prelude.{ℕ, ◌≡◌, ◌+◌, Bool, true, false, List, Some, None, [], length, drop, is_some}
use Rattle.std.specs.List.{list_any}
use Rattle.ext_msgs.specs.declared.lists.Field.{Field}
use Rattle.http_model.specs.Heads.{is_bodiless}
use Rattle.http_model.specs.declared.types.Direction.{Direction}
use Rattle.http_model.specs.declared.types.Length.{Length}
use Rattle.http_model.specs.declared.types.Framing.{Framing}
use Rattle.filter_model.specs.Config.{CourseConfig}
use Rattle.filter_model.specs.Course.{Course, AskedPart, is_bare, is_body, is_headers, answer_to, replacement}
use Rattle.filter_model.specs.Half.{Past, Head, called, progress, course}
use Rattle.filter_model.specs.Sound.{Sound}
use Rattle.half_machine.specs.Pieces.{OfPieces}
use Rattle.half_machine.specs.Stands.{AreKept, OfHold, Ties, StandsFor, own_framing, flow}
use Rattle.half_machine.specs.Calls.{MayHead}
use Rattle.half_machine.specs.Choosing.{Holds}
use Rattle.half_machine.specs.declared.half.Half.{Half}
use Rattle.half_machine.proofs.AskedBody.{headed_asks}
use Rattle.half_machine.proofs.Early.{unanswered, unreplaced_at, same_head}
use Rattle.half_machine.proofs.AtHand.{flow_kept}
use Rattle.half_machine.proofs.PiecesLeft.{pieces_kept}
use Rattle.half_machine.proofs.Lending.{hand_kept}
use Rattle.half_machine.proofs.Coming.{unasked_all}
use Rattle.body_hold.specs.Held.{Held}

abbrev headed : List Field → Length → Course → Course
headed f n w = record w { original = record w.original { head = Some f; length = n; whole = is_bodiless n } }

hold_headed : (c : CourseConfig) (d : Direction) (w : Course) (handed : ℕ) (h : Held) (f : List Field) (n : Length) → is_some (replacement d w) ≡ false → is_some (replacement d (headed f n w)) ≡ false
    → OfHold h c d w handed → OfHold h c d (headed f n w) handed
hold_headed c d w handed h f n e g s =
    let o : ℕ = handed + length h.out in
    let same : flow c d (headed f n w) ≡ flow c d w = flow_kept c d (headed f n w) g ∙ sym (flow_kept c d w e) in
    record {
      lent = s.lent;
      hand = s.hand ∙ hand_kept d w o e ∙ sym (hand_kept d (headed f n w) o g);
      out = s.out ∙ ap (drop handed) (sym same);
      pieces_first = λ z. s.pieces_first e;
      within = λ z. s.within e;
      there = let k : length (flow c d (headed f n w)) ≡ length (flow c d w) = ap length same in let t = s.there in omega arith;
      idle = λ a z. s.idle a e;
      hand_fits = s.hand_fits;
      lent_fits = s.lent_fits;
    }

head_sound : (c : CourseConfig) (w : Course) (f : List Field) (n : Length) → Sound c w → w.original.head ≡ None → w.original.body ≡ [] → Sound c (headed f n w)
head_sound c w f n s e b = record {
  counts = s.counts;
  head_read = λ z. absurd cc;
  bodiless = λ z. b;
  once_headers = s.once_headers;
  once_trailers = s.once_trailers;
  headers = s.headers;
  trailers = s.trailers;
  in_turn = s.in_turn;
  covered = λ z k. absurd (clash (sym k ∙ ap (list_any is_body) (s.head_read e).1));
  no_headers = s.no_headers;
  first_made = s.first_made;
}
  where
    clash : true ≡ false → ⊥
    clash e = cc

some_same : (f h : List Field) → Some f ≡ Some h → f ≡ h
some_same f h e = ap (λ o. elim o [ Some x ↦ x | None ↦ f ]) e

pub head_holds : (p : Past) (x : Half) (f : List Field) (n : Length) (own : Framing) (bare : Bool) → StandsFor p x → MayHead p → own ≡ own_framing f → bare ≡ is_bodiless n
    → Holds p.config p.direction (record (progress p) { course = called (Head f n) (course p) }) (record x {
      arrived = record x.arrived { head = true; framed = n; own = own; whole = bare };
      head = Some f;
    })
head_holds p x f n own bare s m e g =
    let w : Course = course p in
    let c : CourseConfig = p.config in
    let d : Direction = p.direction in
    let t : Ties c d (progress p) x = s.ties in
    let read = t.sound.head_read m.once in
    let fresh = t.arrived.unread m.once in
    let headers : answer_to is_headers w ≡ None = unanswered is_headers w read.1 in
    let kept : is_some (replacement d w) ≡ false = unreplaced_at (is_bare d w.original.length) (answer_to is_headers w) headers in
    let keeps : is_some (replacement d (headed f n w)) ≡ false = unreplaced_at (is_bare d n) (answer_to is_headers w) headers in (
      s.made,
      record {
        arrived = record {
          head = refl;
          framed = refl;
          own = λ h z. e ∙ ap own_framing (some_same f h z);
          whole = g;
          trailers = t.arrived.trailers;
          bytes = t.arrived.bytes;
          bare = λ z. t.arrived.bare fresh.0;
          unread = λ z. absurd cc;
        };
        rule = record {
          modes = t.rule.modes;
          released = t.rule.released;
          stopped = t.rule.stopped;
          passes = t.rule.passes;
          replaced = t.rule.replaced ∙ kept ∙ sym keeps;
          headers = t.rule.headers;
          body = t.rule.body;
        };
        asked = record { any = t.asked.any; body = t.asked.body; last = t.asked.last; trailers = t.asked.trailers; unsent = t.asked.unsent; unhanded = t.asked.unhanded; order = t.asked.order };
        ready = t.ready;
        body_asks = headed_asks w f n read.0 read.1;
        counts = record { unasked = t.counts.unasked ∙ unasked_all d w kept ∙ sym (unasked_all d (headed f n w) keeps); pieces = t.counts.pieces; waiting = t.counts.waiting };
        gone = record { framing = t.gone.framing; head = t.gone.head; trailers = t.gone.trailers; ended = t.gone.ended; early = t.gone.early };
        hold = hold_headed c d w (progress p).taken.body x.hold f n kept keeps t.hold;
        room = t.room;
        pieces = subst (λ l. OfPieces x.pieces l (progress p).taken.body) (pieces_kept d w kept ∙ sym (pieces_kept d (headed f n w) keeps)) t.pieces;
        pieces_fit = t.pieces_fit;
        pieces_room = t.pieces_room;
        marks = t.marks;
        head = ap Some (same_head c d (headed f n w) f headers (unanswered is_body w read.1));
        fields = λ o z. absurd (none_is_not_some (ap is_some (sym z) ∙ ap is_some read.0));
        trailers = t.trailers;
        parts = subst (AreKept (Some f) n x.trailers) (sym (ap (drop (length w.answers)) read.1 ∙ drop_none (length w.answers))) tt;
        few = t.few;
        sound = head_sound c w f n t.sound m.once fresh.1;
      },
    )
  where
    drop_none : (k : ℕ) → drop {A = AskedPart} k [] ≡ []
    drop_none ℕ.zero = refl
    drop_none (ℕ.suc k) = refl

    none_is_not_some : true ≡ false → ⊥
    none_is_not_some e = cc
