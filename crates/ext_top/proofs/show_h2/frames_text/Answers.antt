use Rattle.std.proofs.Common.{◌≡◌, ◌<◌, ◌++◌, length, drop, length-drop, arith, sym, ap, ◌∙◌, ℕ, ◌+◌, List, IfOk, subst}
use Rattle.std.proofs.lemmas.Grind.{common_steps}
use Rattle.ext_top.specs.ShownFrames.{shown_frames, shown_h2}
use Rattle.ext_top.proofs.ShownFrames.{Behind, shown_rest, shown_refused, shown_none, shown_next, frame_told, has_nine}
use Rattle.ext_top.proofs.show_h2.frames_text.Goals as goal

pub add_frame-requires : goal.add_frame-requires
add_frame-requires c =
    let begins = rw (c.in_ok-len.was, c.in-Frame.is) at c.next.ensures in
    has_nine c.frames.rest.now begins.0 c.in-Frame.len begins.1

pub frames-preserved : goal.frames-preserved
frames-preserved c =
    let begins = rw (c.in_ok-len.was, c.in-Frame.is) at c.next.ensures in
    let told = c.frames.invariant.told in
    let behind : Behind told.0 c.in-Frame.len c.frames.rest.now = shown_next told.0 c.in-Frame.len c.frames.rest.now begins.0 told.1 begins.1 begins.2 begins.3 in
    let line = rw c.in_ok-add_frame-in-Frame.was at c.add_frame.ensures in
    let rest = c.split_at.ensures.back in
    record {
      fresh = begins.4;
      small = rw (rest, length-drop c.in-Frame.len c.frames.rest.now) (omega (arith, c.frames.invariant.small));
      told = subst (λ (r : List ℕ). (most : ℕ) × (length r < most) × (shown_frames (length c.args.bytes.now + 1) c.args.bytes.now ≡ c.add_frame.new.text.items ++ shown_frames most r)) (sym rest)
          (behind.less, behind.fewer, told.2 ∙ frame_told c.frames.text.items c.frames.rest.now c.in-Frame.len told.0 behind ∙ ap (λ (t : List ℕ). t ++ shown_frames behind.less (drop c.in-Frame.len c.frames.rest.now)) (sym line));
    }

pub returns-in-Unfinished : goal.returns-in-Unfinished
unfolding shown_h2
returns-in-Unfinished c =
    let begins = rw (c.in_ok-len.was, c.in-Unfinished.is) at c.next.ensures in
    let told = c.frames.invariant.told in
    subst (λ (t : List ℕ). IfOk c.ended.result (λ all. all.items ≡ t)) (ap (λ (t : List ℕ). c.frames.text.items ++ t) (sym (shown_rest told.0 c.frames.rest.now told.1 begins)) ∙ sym told.2) c.ended.ensures

pub returns-in-Refused : goal.returns-in-Refused
unfolding shown_h2
returns-in-Refused c =
    let begins = rw (c.in_ok-len.was, c.in-Refused.is) at c.next.ensures in
    let told = c.frames.invariant.told in
    subst (λ (t : List ℕ). IfOk c.ended-in-Refused.result (λ all. all.items ≡ t)) (ap (λ (t : List ℕ). c.frames.text.items ++ t) (sym (shown_refused told.0 c.frames.rest.now c.in-Refused.code told.1 begins)) ∙ sym told.2) c.ended-in-Refused.ensures

pub returns : goal.returns
unfolding shown_h2
returns c =
    let none : length c.frames.rest.now ≡ 0 = grind (arith, common_steps, c.is_empty.ensures, c.frames-test.ensures, c.frames-test.false) in
    let told = c.frames.invariant.told in
    subst (λ (t : List ℕ). IfOk c.ended-2.result (λ all. all.items ≡ t)) (ap (λ (t : List ℕ). c.frames.text.items ++ t) (sym (shown_none told.0 c.frames.rest.now told.1 none)) ∙ sym told.2) c.ended-2.ensures
