use Rattle.std.proofs.Common.{sym, ◌∙◌, ap, subst, ◌≡◌, false, length}
use Rattle.std.specs.Prelude.{min}
use Rattle.filter_model.specs.Course.{body_room}
use Rattle.filter_model.specs.Half.{Bytes, Told, after_step, course}
use Rattle.exchange.specs.Flows.{Story, with_call}
use Rattle.exchange.specs.Reading.{HasHeard, rest_calls, with_calls}
use Rattle.h1_message.proofs.StageLaw.{none_there}
use Rattle.exchange.proofs.Hearing.{IsCut, all_at_once, bytes_fit, over_heard, once_fits, rest_fits, some_there, two_fit, two_heard, whole_heard}
use Rattle.exchange.proofs.Telling.{all_heard, one_told}
use Rattle.exchange.proofs.flow.Flow.tell_body.Goals as goal

pub returns-then-is_whole-clause-stands : goal.returns-then-is_whole-clause-stands
returns-then-is_whole-clause-stands c s f y =
    (s, f, whole_heard s c.args.whole c.args.trailers c.args.bytes.now (sym (c.is_whole.ensures s.past f.half) ∙ c.if-is_whole.true))

pub returns-then-is_empty-clause-stands : goal.returns-then-is_empty-clause-stands
returns-then-is_empty-clause-stands c s f y =
    let u : (course s.past).original.whole ≡ false = sym (c.is_whole.ensures s.past f.half) ∙ c.if-is_whole.false in
    let w = c.args.whole in
    let t = c.args.trailers in
    let k : IsCut (body_room s.past.config s.past.direction (course s.past)) c.args.bytes.now c.split_at.result.0.now c.split_at.result.1.now =
    record { n = c.min.result; least = c.min.ensures ∙ ap (λ n. min (length c.args.bytes.now) n) (c.room.ensures s.past f.half); front = c.split_at.ensures.front; back = c.split_at.ensures.back } in
    let e = none_there c.split_at.result.1.now c.if-is_empty.ensures in
    let first = c.split_at.result.0.now in (
      with_calls (rest_calls w t first) s,
      c.tell_rest.ensures.stands s f (once_fits s w t c.args.bytes.now first c.split_at.result.1.now y u k e),
      subst (λ l. HasHeard l s (with_calls (rest_calls w t first) s)) (sym (all_at_once s w t c.args.bytes.now first c.split_at.result.1.now u k e)) (all_heard (rest_calls w t first) s),
    )

pub returns-then-over_limit-clause-stands : goal.returns-then-over_limit-clause-stands
returns-then-over_limit-clause-stands c s f y =
    let u : (course s.past).original.whole ≡ false = sym (c.is_whole.ensures s.past f.half) ∙ c.if-is_whole.false in
    let w = c.args.whole in
    let t = c.args.trailers in
    let k : IsCut (body_room s.past.config s.past.direction (course s.past)) c.args.bytes.now c.split_at.result.0.now c.split_at.result.1.now =
    record { n = c.min.result; least = c.min.ensures ∙ ap (λ n. min (length c.args.bytes.now) n) (c.room.ensures s.past f.half); front = c.split_at.ensures.front; back = c.split_at.ensures.back } in
    let e = some_there c.split_at.result.1.now c.if-is_empty.ensures in
    let first = c.split_at.result.0.now in
    let m = two_fit s w t c.args.bytes.now first c.split_at.result.1.now y u k e in
    let h = c.data.ensures s.past f.half (bytes_fit s.past first m.0.0 m.0.1) in (
      with_call (Bytes first) s,
      one_told s c.args.self.now c.data.new.self (Bytes first) f m.0.0 h,
      over_heard s w t c.args.bytes.now first c.split_at.result.1.now y u k e (sym (c.over_limit.ensures (after_step (Told (Bytes first)) s.past) h) ∙ c.if-over_limit.true),
    )

pub tell_rest-requires-2 : goal.tell_rest-requires-2
tell_rest-requires-2 c =
    let s : Story = c.requires.0 in
    let f = c.requires.1 in
    let y = c.requires.2 in
    let u : (course s.past).original.whole ≡ false = sym (c.is_whole.ensures s.past f.half) ∙ c.if-is_whole.false in
    let w = c.args.whole in
    let t = c.args.trailers in
    let k : IsCut (body_room s.past.config s.past.direction (course s.past)) c.args.bytes.now c.split_at.result.0.now c.split_at.result.1.now =
    record { n = c.min.result; least = c.min.ensures ∙ ap (λ n. min (length c.args.bytes.now) n) (c.room.ensures s.past f.half); front = c.split_at.ensures.front; back = c.split_at.ensures.back } in
    let e = some_there c.split_at.result.1.now c.if-is_empty.ensures in
    let first = c.split_at.result.0.now in
    let m = two_fit s w t c.args.bytes.now first c.split_at.result.1.now y u k e in
    let h = c.data.ensures s.past f.half (bytes_fit s.past first m.0.0 m.0.1) in (
      with_call (Bytes first) s,
      one_told s c.args.self.now c.data.new.self (Bytes first) f m.0.0 h,
      rest_fits s w t c.args.bytes.now first c.split_at.result.1.now y u k e (sym (c.over_limit.ensures (after_step (Told (Bytes first)) s.past) h) ∙ c.if-over_limit.false),
    )

pub returns-clause-stands : goal.returns-clause-stands
returns-clause-stands c s f y =
    let u : (course s.past).original.whole ≡ false = sym (c.is_whole.ensures s.past f.half) ∙ c.if-is_whole.false in
    let w = c.args.whole in
    let t = c.args.trailers in
    let k : IsCut (body_room s.past.config s.past.direction (course s.past)) c.args.bytes.now c.split_at.result.0.now c.split_at.result.1.now =
    record { n = c.min.result; least = c.min.ensures ∙ ap (λ n. min (length c.args.bytes.now) n) (c.room.ensures s.past f.half); front = c.split_at.ensures.front; back = c.split_at.ensures.back } in
    let e = some_there c.split_at.result.1.now c.if-is_empty.ensures in
    let first = c.split_at.result.0.now in
    let rest = c.split_at.result.1.now in
    let m = two_fit s w t c.args.bytes.now first rest y u k e in
    let h = c.data.ensures s.past f.half (bytes_fit s.past first m.0.0 m.0.1) in
    let o = sym (c.over_limit.ensures (after_step (Told (Bytes first)) s.past) h) ∙ c.if-over_limit.false in (
      with_calls (rest_calls w t rest) (with_call (Bytes first) s),
      c.tell_rest-2.ensures.stands (with_call (Bytes first) s) (one_told s c.args.self.now c.data.new.self (Bytes first) f m.0.0 h) (rest_fits s w t c.args.bytes.now first rest y u k e o),
      two_heard s w t c.args.bytes.now first rest u k e,
    )
