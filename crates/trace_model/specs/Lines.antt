-- The lines of a transcript, by the calls that a line of the trace led to.
use Rattle.std.specs.Prelude.{ℕ, Bool, true, false, List, [], ◌∷◌, ◌++◌, map, filter_map, reverse, Option, Some, None}
use Rattle.filter_model.specs.Right.{Call, Took, ask_given, end_given}
use Rattle.filter_model.specs.declared.calls.Side.{Side}
use Rattle.filter_model.specs.declared.calls.Side.TheVariants.{Client, Upstream}
use Rattle.filter_model.specs.declared.calls.Taken.{Taken}
use Rattle.filter_model.specs.declared.calls.Taken.TheVariants as taken
use Rattle.trace_format.specs.declared.out.OutLine.{OutLine}
use Rattle.trace_format.specs.declared.out.OutLine.TheVariants as out
use Rattle.trace_format.specs.Transcripts.{text_of}

-- Calls are newest first. What they gave a port:

abbrev pub piece_of : Taken → List ℕ
piece_of (taken.Piece bytes) = bytes
piece_of _ = []

abbrev pub piece_for : Side → Call → List ℕ
piece_for Client (Took Client t) = piece_of t
piece_for Upstream (Took Upstream t) = piece_of t
piece_for s call = []

abbrev pub bytes_for : Side → List Call → List ℕ
bytes_for s [] = []
bytes_for s (call ∷ h) = bytes_for s h ++ piece_for s call

-- true where the link is done, false where it is aborted
abbrev pub end_of : Taken → Option Bool
end_of taken.Done = Some true
end_of taken.Abort = Some false
end_of _ = None

abbrev pub end_for : Side → Call → Option Bool
end_for Client (Took Client t) = end_of t
end_for Upstream (Took Upstream t) = end_of t
end_for s call = None

-- the first end of a link
abbrev pub or_then : Option Bool → Option Bool → Option Bool
or_then (Some b) later = Some b
or_then None later = later

abbrev pub first_end : Side → List Call → Option Bool
first_end s [] = None
first_end s (call ∷ h) = or_then (first_end s h) (end_for s call)

-- The lines of one exchange, of which the calls before the line had these ends already

abbrev pub bytes_line : (List ℕ → OutLine) → List ℕ → List OutLine
bytes_line line [] = []
bytes_line line (b ∷ bytes) = line (b ∷ bytes) ∷ []

abbrev pub asks_given : List Call → List (List ℕ)
asks_given calls = reverse (filter_map ask_given calls)

-- the stream's end is given once
abbrev pub stream_end : List Call → Option Bool
stream_end [] = None
stream_end (call ∷ h) = or_then (stream_end h) (end_given call)

abbrev pub ending_line : ℕ → Option Bool → List OutLine
ending_line x None = []
ending_line x (Some true) = out.Finish x ∷ []
ending_line x (Some false) = out.Reset x ∷ []

abbrev pub client_line : ℕ → Option Bool → List OutLine
client_line x None = []
client_line x (Some true) = out.DoneClient x ∷ []
client_line x (Some false) = out.AbortClient x ∷ []

abbrev pub up_line : ℕ → Option Bool → List OutLine
up_line x None = []
up_line x (Some true) = out.DoneUp x ∷ []
up_line x (Some false) = out.AbortUp x ∷ []

-- it is written the first time
abbrev pub if_new : Option Bool → Option Bool → Option Bool
if_new (Some b) now = None
if_new None now = now

-- what these calls brought of exchange x, behind these before
unfoldable pub lines_for : ℕ → List Call → List Call → List OutLine
lines_for x before calls =
    bytes_line (out.ToClient x) (bytes_for Client calls)
    ++ (bytes_line (out.ToUp x) (bytes_for Upstream calls)
    ++ (map (out.Ask x) (asks_given calls)
    ++ (ending_line x (stream_end calls)
    ++ (client_line x (if_new (first_end Client before) (first_end Client calls))
    ++ up_line x (if_new (first_end Upstream before) (first_end Upstream calls))))))

-- Each line with its line feed
abbrev pub text_of_lines : List OutLine → List ℕ
text_of_lines [] = []
text_of_lines (l ∷ lines) = text_of l ++ 10 ∷ text_of_lines lines
