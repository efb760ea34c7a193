use Rattle.std.proofs.Common.{◌≡◌, ◌<◌, ◌^◌, ◌++◌, [], length, ℕ, ◌+◌}
use Rattle.ext_top.specs.ShownFrames.{shown_frames}
use Rattle.ext_top.proofs.show_h2.frames_text.Given as goal

-- the frames so far are told, and the reader keeps nothing
abbrev pub invariant-frames : goal.invariant-frames
invariant-frames l = record {
  fresh : l.reader ≡ [];
  small : length l.rest < 2 ^ 32;
  told : (most : ℕ) × (length l.rest < most) × (shown_frames (length l.bytes + 1) l.bytes ≡ l.text.items ++ shown_frames most l.rest);
}

abbrev pub decreases-frames : goal.decreases-frames
decreases-frames l = length l.rest
