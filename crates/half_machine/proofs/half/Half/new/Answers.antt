use Rattle.std.proofs.Common.{refl, ap, sym, ◌∙◌, arith}
use Rattle.body_hold.specs.Held.{Held}
use Rattle.http_model.specs.declared.types.Direction.{Direction}
use Rattle.half_machine.specs.Stands.{direction_of}
use Rattle.half_machine.proofs.AskedBody.{fresh_asks}
use Rattle.half_machine.proofs.Fresh.{fresh_sound, fresh_kept, fresh_unasked, fresh_hold, fresh_room, fresh_pieces_room}
use Rattle.half_machine.proofs.PiecesLeft.{fresh_pieces}
use Rattle.half_machine.proofs.half.Half.new.Goals as goal

pub returns : goal.returns
unfolding Rattle.filter_model.specs.Half.half_rules
returns c config f =
    let d : Direction = direction_of c.args.setup.response in
    let modes = c.args.setup.modes in
    record {
      made = record {
        piece = f.piece;
        mark = f.mark;
        limit = f.limit;
        small = c.requires.limit;
        rules = f.rules;
        direction = sym c.direction.ensures;
        hold = ap (λ (h : Held). h.limit) c.in_ok-hold.ensures;
        answers = f.answer ∙ sym (ap (λ (h : Held). h.answer) c.in_ok-hold.ensures);
        few_answers = let e = ap (λ (h : Held). h.answer) c.in_ok-hold.ensures in let r = c.requires.answer in omega arith;
      };
      ties = record {
        arrived = record { head = refl; framed = refl; own = λ h e. absurd cc; whole = refl; trailers = refl; bytes = refl; bare = λ e. refl; unread = λ e. (refl, refl) };
        rule = record { modes = refl; released = refl; stopped = refl; passes = refl; replaced = sym (fresh_kept d modes); headers = refl; body = refl };
        asked = record { any = refl; body = refl; last = refl; trailers = refl; unsent = refl; unhanded = refl; order = omega arith };
        ready = c.new-4.ensures;
        body_asks = fresh_asks modes;
        counts = record { unasked = sym (fresh_unasked d modes); pieces = refl; waiting = refl };
        gone = record { framing = refl; head = refl; trailers = refl; ended = refl; early = λ e. refl };
        hold = fresh_hold config d modes c.in_ok-hold.hold c.args.setup.buffer_limit c.args.setup.answer_limit c.in_ok-hold.ensures;
        room = fresh_room config modes.headers c.in_ok-hold.hold c.args.setup.buffer_limit c.args.setup.answer_limit c.in_ok-hold.ensures;
        pieces = fresh_pieces d modes c.new-3.result c.new-3.ensures;
        pieces_fit = omega arith;
        pieces_room = fresh_pieces_room config c.in_ok-hold.hold c.args.setup.buffer_limit c.args.setup.answer_limit c.in_ok-hold.ensures;
        marks = c.in_ok-marks.ensures;
        head = refl;
        fields = λ o e. absurd cc;
        trailers = c.new-5.ensures;
        parts = tt;
        few = omega arith;
        sound = fresh_sound config modes;
      };
    }
