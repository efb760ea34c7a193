-- A half that was told something stands for one step more.
use Rattle.std.proofs.Common.{◌∙◌, ap, arith}
use Rattle.std.specs.Prelude.{ℕ, suc, ◌≡◌, ◌+◌, ◌-◌, Bool, true, false, length, is_some, if◌then◌else◌}
use Rattle.filter_model.specs.Config.{CourseConfig}
use Rattle.filter_model.specs.Course.{Course, asked, committed, replacement, pairs, asked_bytes, answered_bytes}
use Rattle.filter_model.specs.Half.{Past, HalfCall, Sent, Given, called, progress, course, after_step, Told, half_rules}
use Rattle.filter_model.specs.Sound.{Sound}
use Rattle.half_machine.specs.Stands.{Ties, StandsFor, piece_bytes}
use Rattle.half_machine.specs.Calls.{MaySent, MayGiven}
use Rattle.half_machine.specs.Choosing.{Holds}
use Rattle.half_machine.specs.declared.half.Half.{Half}
use Rattle.half_machine.proofs.AskedBody.{aside_asks}
use Rattle.half_machine.proofs.Chosen.{rule_aside, hold_aside}

pub told : (p : Past) (call : HalfCall) (x : Half) → Holds p.config p.direction (record (progress p) { course = asked p.config p.direction (committed p.config p.direction (called call (course p))) }) x
    → StandsFor (after_step (Told call) p) x
unfolding half_rules
told p call x h = record { made = h.0; ties = h.1 }

aside_sound : (c : CourseConfig) (w : Course) (n g : ℕ) → Sound c w → Sound c (record w { sent = n; given = g })
aside_sound c w n g s = record {
  counts = s.counts;
  head_read = s.head_read;
  bodiless = s.bodiless;
  once_headers = s.once_headers;
  once_trailers = s.once_trailers;
  headers = s.headers;
  trailers = s.trailers;
  in_turn = s.in_turn;
  covered = s.covered;
  no_headers = s.no_headers;
  first_made = s.first_made;
}

-- One ask more was sent

pub sent_holds : (p : Past) (x : Half) → StandsFor p x → MaySent p
    → Holds p.config p.direction (record (progress p) { course = called Sent (course p) }) (record x { asked = record x.asked { unsent = x.asked.unsent - 1 } })
sent_holds p x s m =
    let w : Course = course p in
    let t : Ties p.config p.direction (progress p) x = s.ties in
    let f = m.fewer in
    let i = t.asked.unsent in
    let j = t.asked.unhanded in (
      s.made,
      record {
        arrived = t.arrived;
        rule = rule_aside x.rule p.direction w w.head (suc w.sent) w.given t.rule;
        asked = record { any = t.asked.any; body = t.asked.body; last = t.asked.last; trailers = t.asked.trailers; unsent = omega arith; unhanded = t.asked.unhanded; order = omega arith };
        ready = t.ready;
        body_asks = aside_asks w (suc w.sent) w.given t.body_asks;
        counts = record { unasked = t.counts.unasked; pieces = t.counts.pieces; waiting = t.counts.waiting };
        gone = record { framing = t.gone.framing; head = t.gone.head; trailers = t.gone.trailers; ended = t.gone.ended; early = t.gone.early };
        hold = hold_aside x.hold p.config p.direction w (progress p).taken.body w.head (suc w.sent) w.given t.hold;
        room = t.room;
        pieces = t.pieces;
        pieces_fit = t.pieces_fit;
        pieces_room = t.pieces_room;
        marks = t.marks;
        head = t.head;
        fields = t.fields;
        trailers = t.trailers;
        parts = t.parts;
        few = t.few;
        sound = aside_sound p.config w (suc w.sent) w.given t.sound;
      },
    )

-- Body bytes more were given

given_unasked : (r : Bool) (u body in_asks pieces given n : ℕ) → u ≡ (if r then 0 else body - in_asks - (given - pieces))
    → u - (n - (pieces - given)) ≡ (if r then 0 else body - in_asks - (given + n - pieces))
given_unasked true u body in_asks pieces given n e = omega arith
given_unasked false u body in_asks pieces given n e = omega arith

pub given_holds : (p : Past) (x : Half) (n : ℕ) → StandsFor p x → MayGiven p n
    → Holds p.config p.direction (record (progress p) { course = called (Given n) (course p) }) (record x {
      counts = record { unasked = x.counts.unasked - (n - x.counts.pieces); pieces = x.counts.pieces - n; waiting = x.counts.waiting - n };
    })
given_holds p x n s m =
    let w : Course = course p in
    let t : Ties p.config p.direction (progress p) x = s.ties in
    let f = m.fewer in
    let i : w.given + x.counts.waiting ≡ (progress p).taken.body = t.counts.waiting in
    let j : x.counts.pieces ≡ piece_bytes w - w.given = t.counts.pieces in (
      s.made,
      record {
        arrived = t.arrived;
        rule = rule_aside x.rule p.direction w w.head w.sent (w.given + n) t.rule;
        asked = record { any = t.asked.any; body = t.asked.body; last = t.asked.last; trailers = t.asked.trailers; unsent = t.asked.unsent; unhanded = t.asked.unhanded; order = t.asked.order };
        ready = t.ready;
        body_asks = aside_asks w w.sent (w.given + n) t.body_asks;
        counts = record {
          unasked = ap (λ k. x.counts.unasked - (n - k)) j
              ∙ given_unasked (is_some (replacement p.direction w)) x.counts.unasked (length w.original.body) (if w.released then answered_bytes (pairs w) else asked_bytes w.asks) (piece_bytes w) w.given n t.counts.unasked;
          pieces = omega arith;
          waiting = omega arith;
        };
        gone = record { framing = t.gone.framing; head = t.gone.head; trailers = t.gone.trailers; ended = t.gone.ended; early = t.gone.early };
        hold = hold_aside x.hold p.config p.direction w (progress p).taken.body w.head w.sent (w.given + n) t.hold;
        room = t.room;
        pieces = t.pieces;
        pieces_fit = let a = t.pieces_fit in omega arith;
        pieces_room = λ r. let a = t.pieces_room r in omega arith;
        marks = t.marks;
        head = t.head;
        fields = t.fields;
        trailers = t.trailers;
        parts = t.parts;
        few = let k = t.few in omega arith;
        sound = aside_sound p.config w w.sent (w.given + n) t.sound;
      },
    )
