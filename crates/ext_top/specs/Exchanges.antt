-- What holds of the exchanges of a trace behind each of its lines.
use Rattle.std.specs.Prelude.{ℕ, ◌≡◌, ◌+◌, true, false, List, [], ◌∷◌, length}
use Rattle.std.specs.List.{All}
use Rattle.filter_model.specs.Config.{FilterConfig}
use Rattle.filter_model.specs.Right.{Right, Whole, is_quiet}
use Rattle.trace_model.specs.Links.{ExchangeState, filter_of}
use Rattle.trace_model.specs.Places.{Place, Events}
use Rattle.trace_model.specs.Rounds.{is_at_rest}
use Rattle.ext_top.specs.Plays.{LinesLead}

-- Its two messages and its asks are right and whole, and of a port that isn't held the last calls gave nothing.
pub record IsRightAtRest (c : FilterConfig) (x : ExchangeState) : Type 0 where
  pub right : Right c x.calls
  pub whole : Whole c x.calls
  pub rest : is_at_rest x ≡ true
  pub quiet : x.client.held ≡ false → x.up.held ≡ false → is_quiet x.calls ≡ true

abbrev pub AllRightAtRest : Place → Type 0
AllRightAtRest (Events s) = All (IsRightAtRest (filter_of s.config)) s.exchanges
AllRightAtRest other = Unit {0}

-- at each place that these lines lead through
abbrev pub RightAlong : (before : ℕ) (p : Place) (lines : List (List ℕ)) (text : List ℕ) (next : Place)
    → LinesLead before p lines text next → Type 0
RightAlong before p [] text next a = AllRightAtRest p
RightAlong before p (line ∷ lines) text next a =
    AllRightAtRest p × RightAlong (before + (length line + 1)) a.1 lines a.2 next a.5
