-- Stream errors, row by row of their table, and what frames bring.
use Rattle.std.specs.Prelude.{ℕ, ◌≡◌, ◌+◌, zero, suc, true, false, List, [], ◌∷◌, ◌++◌, codes, refl}
use Rattle.h2_frames.specs.declared.frame.Frame.{Frame}
use Rattle.h2_frames.specs.declared.frame.Frame.TheVariants as frame
use Rattle.h2_model.specs.declared.answers.Event.TheVariants as event
use Rattle.h2_model.specs.Log.{Opened, LogEntry}
use Rattle.h2_model.specs.Account.{Account}
use Rattle.h2_model.specs.History.{Open, called}
use Rattle.h2_model_examples.specs.Setting.{rules, pairs, reported, waiting_behind, came, client, brings, server}

-- what is owed behind the first SETTINGS, the acknowledgement and the head
abbrev answers : List Frame → List ℕ
answers frames = waiting_behind 57 (came frames client)

empty_update_of_a_stream : brings (frame.Window 1 0 ∷ []) ≡ event.Reset 1 1 ∷ []
unfolding rules
empty_update_of_a_stream = refl

empty_update_is_answered_by_a_reset : answers (frame.Window 1 0 ∷ []) ≡ pairs (codes "00000403000000000100000001")
unfolding rules
empty_update_is_answered_by_a_reset = refl

stream_too_wide : brings (frame.Window 1 2147418112 ∷ frame.Window 1 1 ∷ []) ≡ event.Reset 1 3 ∷ []
unfolding rules
stream_too_wide = refl

data_behind_the_end : brings (frame.Headers 1 [] true true ∷ frame.Data 1 (7 ∷ []) false 1 ∷ [])
    ≡ event.Head 1 [] true ∷ event.Reset 1 5 ∷ []
unfolding rules
data_behind_the_end = refl

headers_behind_the_end : brings (frame.Headers 1 [] true true ∷ frame.Headers 1 [] true true ∷ [])
    ≡ event.Head 1 [] true ∷ event.Reset 1 5 ∷ []
unfolding rules
headers_behind_the_end = refl

second_block_without_an_end : brings (frame.Headers 1 [] false true ∷ frame.Headers 1 [] false true ∷ [])
    ≡ event.Head 1 [] false ∷ event.Reset 1 1 ∷ []
unfolding rules
second_block_without_an_end = refl

-- Closed streams

frames_on_a_closed_stream_are_dropped : brings (frame.Reset 1 8 ∷ frame.Headers 1 [] false true ∷ frame.Data 1 (7 ∷ []) false 1 ∷ frame.Window 1 0 ∷ frame.Reset 1 2 ∷ [])
    ≡ event.Reset 1 8 ∷ []
unfolding rules
frames_on_a_closed_stream_are_dropped = refl

their_data_counts_for_the_connection : answers (frame.Reset 1 8 ∷ frame.Data 1 [] false 16384 ∷ frame.Data 1 [] false 16384 ∷ []) ≡ pairs (codes "00000408000000000000008000")
unfolding rules
their_data_counts_for_the_connection = refl

-- Window updates of this end

connection_update_goes_first : answers (frame.Data 1 [] false 16384 ∷ frame.Data 1 [] false 16385 ∷ [])
    ≡ pairs (codes "00000408000000000000008001" ++ codes "00000408000000000100008001")
unfolding rules
connection_update_goes_first = refl

ended_stream_gets_no_update : answers (frame.Data 1 [] false 16384 ∷ frame.Data 1 [] true 16384 ∷ []) ≡ pairs (codes "00000408000000000000008000")
unfolding rules
ended_stream_gets_no_update = refl

-- GOAWAY and the limit of streams

goaway_resets_the_later_streams : reported (came (frame.GoAway 1 0 ∷ []) (called Open (called Open client)))
    ≡ event.GoAway 1 0 ∷ event.Reset 3 7 ∷ event.Reset 5 7 ∷ []
unfolding rules
goaway_resets_the_later_streams = refl

abbrev odd_from : ℕ → ℕ → List LogEntry
odd_from zero n = []
odd_from (suc k) n = Opened n ∷ odd_from k (n + 2)

-- 256 streams are open
abbrev full : Account
full = record server { log = odd_from 256 1 ++ server.log }

one_stream_too_many_is_refused : waiting_behind 24 (came (frame.Headers 513 [] false true ∷ []) full) ≡ pairs (codes "00000403000000020100000007")
unfolding rules
one_stream_too_many_is_refused = refl

one_stream_too_many_is_not_reported : reported (came (frame.Headers 513 [] false true ∷ []) full) ≡ []
unfolding rules
one_stream_too_many_is_not_reported = refl
