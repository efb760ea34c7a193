-- When a half may be called so.
use Rattle.std.specs.Prelude.{ℕ, ◌+◌, ◌≡◌, ◌⊎◌, Bool, not, ◌&&◌, ◌≤◌, ◌<◌, min, true, false, List, length, None, is_some, if◌then◌else◌}
use Rattle.std.specs.List.{list_any}
use Rattle.body_hold.specs.Held.{Held, hand_room, joined, out_room}
use Rattle.body_hold.specs.Steps.{put, lent_passed}
use Rattle.ext_msgs.specs.declared.modes.PartModes.{PartModes}
use Rattle.http_model.specs.Heads.{is_bodiless}
use Rattle.filter_model.specs.Answers.{behind_headers}
use Rattle.filter_model.specs.Course.{body_room, out, is_headers}
use Rattle.half_machine.specs.declared.facts.Counts.{Counts}
use Rattle.half_machine.specs.declared.half.Half.{Half}
use Rattle.filter_model.specs.Half.{Past, course, progress}

-- no head came
pub record MayHead (p : Past) : Type 0 where
  pub once : (course p).original.head ≡ None

-- no head came, or its ask is out
pub record MaySettle (p : Past) : Type 0 where
  pub early : ((course p).original.head ≡ None) ⊎ (list_any is_headers (out (course p)) ≡ true)

-- behind a head the header mode stays
abbrev pub settled_in : Bool → PartModes → PartModes → PartModes
settled_in true old new = behind_headers old new
settled_in false old new = new

-- an ask was handed out and not sent
pub record MaySent (p : Past) : Type 0 where
  pub fewer : (course p).sent < (progress p).handed

-- so many body bytes were handed out and not told as given
pub record MayGiven (p : Past) (n : ℕ) : Type 0 where
  pub fewer : (course p).given + n ≤ (progress p).taken.body

-- the head came, a body follows it, its end didn't come, and there is room
pub record MayBytes (p : Past) (bytes : List ℕ) : Type 0 where
  pub read : is_some (course p).original.head ≡ true
  pub has_body : is_bodiless (course p).original.length ≡ false
  pub unfinished : (course p).original.whole ≡ false
  pub fits : length bytes ≤ body_room p.config p.direction (course p)

-- What body bytes make of it

abbrev pub bytes_more : List ℕ → Half → ℕ
bytes_more b x = min (x.arrived.bytes + length b) 4_294_967_295

abbrev pub unasked_more : List ℕ → Half → ℕ
unasked_more b x = if x.rule.replaced then x.counts.unasked else x.counts.unasked + length b

abbrev pub hold_more : List ℕ → Half → Held
hold_more b x = if x.rule.replaced then x.hold else put b x.hold

abbrev pub with_bytes : List ℕ → Half → Half
with_bytes b x = record x {
  arrived = record x.arrived { bytes = bytes_more b x };
  counts = record x.counts { unasked = unasked_more b x };
  hold = hold_more b x;
}

-- What a release makes of it: what is lent goes out too, unless another body took its place

abbrev pub lends_out : Half → Bool
lends_out x = not x.rule.released && not x.rule.replaced

abbrev pub counts_released : Bool → Half → Counts
counts_released lends x = if lends then record x.counts { unasked = x.counts.unasked + length (joined x.hold.lent) } else x.counts

abbrev pub hold_released : Bool → Half → Held
hold_released lends x = if lends then lent_passed x.hold else x.hold

abbrev pub released_in : Half → Half
released_in x = record x {
  rule = record x.rule { released = true };
  counts = counts_released (lends_out x) x;
  hold = hold_released (lends_out x) x;
}

-- what is lent can go out
abbrev pub CanRelease : Half → Type 0
CanRelease x =
    x.rule.released ≡ false → (length x.hold.out + length (joined x.hold.lent) ≤ out_room x.hold.limit x.hold.answer)
    × (x.counts.unasked + length (joined x.hold.lent) ≤ 4_294_967_295)

-- the bytes fit
pub record CanTake (x : Half) (b : List ℕ) : Type 0 where
  pub short : length b ≤ 16_384
  pub fits : length x.hold.hand + length b ≤ hand_room x.hold.limit
  pub count : x.counts.unasked + length b ≤ 4_294_967_295
