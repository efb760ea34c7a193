use Rattle.std.proofs.Common.{arith, rules, ◌≡◌, ◌≤◌, ◌+◌, ◌-◌, ◌++◌, List, ℕ, [], length, length-append, take, sym, ap, ◌∙◌, subst, Result, Ok, Err}
use Rattle.std.proofs.lemmas.List.{length-take-le}
use Rattle.h2_frames.specs.declared.header.Header.{Header}
use Rattle.h2_frames.specs.declared.frame.Frame.{Frame}
use Rattle.h2_frames.specs.declared.fault.FrameFault.{FrameFault}
use Rattle.h2_frames.specs.declared.reader.Step.{Step}
use Rattle.std.specs.Result.{IsErrAnd}
use Rattle.h2_frames.specs.Headers.{header_of}
use Rattle.h2_frames.specs.Frames.{first, Whole}
use Rattle.h2_frames.specs.Reading.{Feeds, Tells}
use Rattle.h2_frames.proofs.First.{size_right, unfinished_short, first_short, goes_on, header_cut, frame_cut, refusal_cut}
use Rattle.h2_frames.proofs.reader.FrameReader.feed.Goals as goal

pub start_of-requires-clause-kept : goal.start_of-requires-clause-kept
start_of-requires-clause-kept c = let short = unfinished_short c.self.inside.kept.items c.self.invariant.0 in search rules

pub append-requires : goal.append-requires
append-requires c =
    let short = unfinished_short (c.as_slice.result.now ++ c.args.bytes.now) c.in-Unfinished.ensures in
    let len = length-append c.as_slice.result.now c.args.bytes.now in search rules

-- the header, over the bytes that are kept
named : (kept slice bytes : List ℕ) (h : Header) → slice ≡ kept → h ≡ header_of (slice ++ bytes) → h ≡ header_of (kept ++ bytes)
named kept slice bytes h v is = is ∙ ap (λ (k : List ℕ). header_of (k ++ bytes)) v

pub overflow_sub-frame_len : goal.overflow_sub-frame_len
overflow_sub-frame_len c =
    let is = named c.self.inside.kept.items c.as_slice.result.now c.args.bytes.now c.in-Whole.header c.as_slice.ensures.value c.in-Whole.ensures.0 in
    let on = goes_on c.self.inside.kept.items c.args.bytes.now c.in-Whole.header c.self.invariant.0 is c.in-Whole.ensures.1 in search rules

pub finish-requires-clause-header : goal.finish-requires-clause-header
finish-requires-clause-header c =
    let is = named c.self.inside.kept.items c.as_slice.result.now c.args.bytes.now c.in-Whole.header c.as_slice.ensures.value c.in-Whole.ensures.0 in
    let on = goes_on c.self.inside.kept.items c.args.bytes.now c.in-Whole.header c.self.invariant.0 is c.in-Whole.ensures.1 in
    let all = length-append c.as_slice.result.now c.args.bytes.now in
    let same : length c.as_slice.result.now ≡ length c.self.inside.kept.items = ap length c.as_slice.ensures.value in
    let there = c.in-Whole.ensures.2 in
    is
    ∙ header_cut c.self.inside.kept.items c.args.bytes.now (c.frame_len.result - c.len.result) (omega arith) (omega arith)
    ∙ ap (λ (b : List ℕ). header_of (c.self.inside.kept.items ++ b)) (sym c.split_at.ensures.front)

pub finish-requires-clause-len : goal.finish-requires-clause-len
finish-requires-clause-len c =
    let is = named c.self.inside.kept.items c.as_slice.result.now c.args.bytes.now c.in-Whole.header c.as_slice.ensures.value c.in-Whole.ensures.0 in
    let on = goes_on c.self.inside.kept.items c.args.bytes.now c.in-Whole.header c.self.invariant.0 is c.in-Whole.ensures.1 in search rules

pub finish-requires-clause-room : goal.finish-requires-clause-room
finish-requires-clause-room c =
    let is = named c.self.inside.kept.items c.as_slice.result.now c.args.bytes.now c.in-Whole.header c.as_slice.ensures.value c.in-Whole.ensures.0 in
    let on = goes_on c.self.inside.kept.items c.args.bytes.now c.in-Whole.header c.self.invariant.0 is c.in-Whole.ensures.1 in
    let small = size_right c.in-Whole.header c.in-Whole.ensures.1 in search rules

-- a refusal, over all new bytes
refused : (kept bytes last : List ℕ) (n : ℕ) (e : FrameFault) (result : Result Step FrameFault) (new : List ℕ)
    → IsErrAnd result (λ (x : FrameFault). x ≡ e) → last ≡ take n bytes → Tells (kept ++ last) (Err e) → new ≡ kept → Feeds kept bytes result new
refused kept bytes last n e (Ok step) new x is t u = absurd x
refused kept bytes last n e (Err fault) new x is t u =
    subst (λ (f : FrameFault). Feeds kept bytes (Err f) new) (sym x)
    (refusal_cut kept bytes n e new (subst (λ (b : List ℕ). Tells (kept ++ b) (Err e)) is t) u)

pub returns-in_err-frame : goal.returns-in_err-frame
returns-in_err-frame c =
    subst (λ (k : List ℕ). Feeds k c.args.bytes.now c.from_residual.result c.finish.new.kept.items) c.self.view_is
    (refused c.self.inside.kept.items c.args.bytes.now c.split_at.result.0.now (c.frame_len.result - c.len.result) c.in_err-frame.field-0.0 c.from_residual.result c.finish.new.kept.items
    c.from_residual.ensures.1 c.split_at.ensures.front c.in_err-frame.ensures.frame c.in_err-frame.ensures.unchanged)

pub invariant_of-self-2 : goal.invariant_of-self-2
invariant_of-self-2 c = (ap first c.in_ok-frame.ensures.used ∙ first_short [] (omega arith), search rules)

-- the frame, over all new bytes
got : (kept bytes last : List ℕ) (n : ℕ) (f : Frame) → last ≡ take n bytes → n ≤ length bytes → Tells (kept ++ last) (Ok f) → first (kept ++ bytes) ≡ Whole f (length kept + length last)
got kept bytes last n f is l t =
    frame_cut kept bytes f n l (subst (λ (b : List ℕ). first (kept ++ b) ≡ Whole f (length (kept ++ b))) is t)
    ∙ ap (λ (k : ℕ). Whole f (length kept + k)) (sym (ap length is ∙ length-take-le n bytes l))

pub returns : goal.returns
returns c =
    let is = named c.self.inside.kept.items c.as_slice.result.now c.args.bytes.now c.in-Whole.header c.as_slice.ensures.value c.in-Whole.ensures.0 in
    let on = goes_on c.self.inside.kept.items c.args.bytes.now c.in-Whole.header c.self.invariant.0 is c.in-Whole.ensures.1 in
    let all = length-append c.as_slice.result.now c.args.bytes.now in
    let same : length c.as_slice.result.now ≡ length c.self.inside.kept.items = ap length c.as_slice.ensures.value in
    let there = c.in-Whole.ensures.2 in (
      subst (λ (k : List ℕ). first (k ++ c.args.bytes.now) ≡ Whole c.in_ok-frame.frame (length k + length c.split_at.result.0.now)) c.self.view_is
          (got c.self.inside.kept.items c.args.bytes.now c.split_at.result.0.now (c.frame_len.result - c.len.result) c.in_ok-frame.frame c.split_at.ensures.front (omega arith) c.in_ok-frame.ensures.frame),
      search rules,
      search rules,
      c.in_ok-frame.ensures.used,
    )
