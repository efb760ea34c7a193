-- What every move of a course keeps to.
use Rattle.std.specs.Prelude.{◌≡◌, ◌≤◌, Bool, true, false, not, ◌&&◌, List, [], ◌∷◌, length, drop, Some, None, if◌then◌else◌}
use Rattle.std.specs.List.{list_any}
use Rattle.http_model.specs.Bytes.{is_empty}
use Rattle.http_model.specs.Heads.{is_bodiless}
use Rattle.filter_model.specs.Config.{CourseConfig}
use Rattle.filter_model.specs.Course.{Course, AskedPart, Outgoing, out, asked_bytes, is_body, is_headers, is_trailers, is_buffered}

-- at most one ask is of this kind
abbrev pub once : (AskedPart → Bool) → List AskedPart → Bool
once kind [] = true
once kind (p ∷ asks) = if kind p then not (list_any kind asks) else once kind asks

pub record Sound (c : CourseConfig) (w : Course) : Type 0 where
  pub counts : length w.answers ≤ length w.asks
  pub head_read : w.original.head ≡ None → (w.head ≡ None) × (w.asks ≡ [])
  pub bodiless : is_bodiless w.original.length ≡ true → w.original.body ≡ []
  pub once_headers : once is_headers w.asks ≡ true
  pub once_trailers : once is_trailers w.asks ≡ true
  pub headers : w.modes.headers ≡ false → list_any is_headers w.asks ≡ false
  pub trailers : list_any is_trailers w.asks ≡ true → is_empty w.original.trailers ≡ false
  -- no piece is asked before the headers are answered
  pub in_turn : list_any is_headers (out w) ≡ true → list_any is_body w.asks ≡ false
  -- what is asked whole is all of the body
  pub covered : is_buffered w.modes.body ≡ true → list_any is_body w.asks ≡ true
      → (w.original.whole ≡ true) × (drop (asked_bytes w.asks) w.original.body ≡ [])
  -- once the head has gone, the headers ask is answered or was none, or the rest passes
  pub no_headers : (h : Outgoing) → w.head ≡ Some h → w.released ≡ false → list_any is_headers (out w) ≡ false
  pub first_made : (h : Outgoing) → w.head ≡ Some h → w.released ≡ false → (w.modes.headers && is_empty w.asks) ≡ false
