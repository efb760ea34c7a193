-- Connection errors, row by row of their table.
use Rattle.std.specs.Prelude.{ℕ, ◌≡◌, true, false, List, [], ◌∷◌, ◌++◌, codes, refl, replicate, Some, None}
use Rattle.h2_frames.specs.declared.frame.Frame.{Frame}
use Rattle.h2_frames.specs.declared.frame.Frame.TheVariants as frame
use Rattle.h2_model.specs.History.{Feed, Take, called}
use Rattle.h2_model.specs.Calls.{used}
use Rattle.h2_model_examples.specs.Setting.{rules, pairs, fed, client_after, server_after, client, server, client_code, server_code, waiting_behind, code, came, empty_ping}

-- The preface, and the first frame

feed_stops_at_the_first_other_byte : used (codes "PRI * HTTP/1.1") (server_after []) ≡ 12
unfolding rules
feed_stops_at_the_first_other_byte = refl

other_preface : code (server_after (Feed (codes "PRI * HTTP/1") ∷ [])) ≡ Some 1
unfolding rules
other_preface = refl

part_of_the_preface : code (server_after (Feed (codes "PRI * HTTP/") ∷ [])) ≡ None
unfolding rules
part_of_the_preface = refl

ping_comes_first : code (client_after (fed (codes "0000080600000000000102030405060708") ∷ [])) ≡ Some 1
unfolding rules
ping_comes_first = refl

acknowledgement_comes_first : code (client_after (fed (codes "000000040100000000") ∷ [])) ≡ Some 1
unfolding rules
acknowledgement_comes_first = refl

-- Blocks that are interrupted

ping_within_a_block : client_code (frame.Headers 1 (136 ∷ []) false false ∷ empty_ping ∷ []) ≡ Some 1
unfolding rules
ping_within_a_block = refl

continuation_of_another_stream : client_code (frame.Headers 1 (136 ∷ []) false false ∷ frame.Continuation 3 [] true ∷ []) ≡ Some 1
unfolding rules
continuation_of_another_stream = refl

continuation_of_a_whole_block : client_code (frame.Headers 1 [] false true ∷ frame.Continuation 1 [] true ∷ []) ≡ Some 1
unfolding rules
continuation_of_a_whole_block = refl

push_promise : client_code (frame.Push 1 ∷ []) ≡ Some 1
unfolding rules
push_promise = refl

-- Streams that were never opened; the row comes before that of the windows

data_on_an_idle_stream : client_code (frame.Data 3 [] false 70000 ∷ []) ≡ Some 1
unfolding rules
data_on_an_idle_stream = refl

reset_of_an_idle_stream : server_code (frame.Reset 1 8 ∷ []) ≡ Some 1
unfolding rules
reset_of_an_idle_stream = refl

update_of_an_idle_stream : server_code (frame.Window 1 5 ∷ []) ≡ Some 1
unfolding rules
update_of_an_idle_stream = refl

server_opens_a_stream : client_code (frame.Headers 3 [] false true ∷ []) ≡ Some 1
unfolding rules
server_opens_a_stream = refl

client_opens_an_even_stream : server_code (frame.Headers 2 [] false true ∷ []) ≡ Some 1
unfolding rules
client_opens_an_even_stream = refl

client_opens_a_lower_stream : server_code (frame.Headers 5 [] false true ∷ frame.Headers 3 [] false true ∷ []) ≡ Some 1
unfolding rules
client_opens_a_lower_stream = refl

-- Settings

abbrev setting : ℕ → ℕ → Frame
setting identifier value = frame.Settings (record { identifier = identifier; value = value } ∷ [])

server_enables_push : client_code (setting 2 1 ∷ []) ≡ Some 1
unfolding rules
server_enables_push = refl

client_may_enable_push : server_code (setting 2 1 ∷ []) ≡ None
unfolding rules
client_may_enable_push = refl

frames_too_small : server_code (setting 5 16383 ∷ []) ≡ Some 1
unfolding rules
frames_too_small = refl

earlier_row_decides_within_settings : server_code (frame.Settings
    (record { identifier = 4; value = 2147483648 } ∷ record { identifier = 2; value = 2 } ∷ []) ∷ []) ≡ Some 1
unfolding rules
earlier_row_decides_within_settings = refl

initial_window_too_wide : server_code (setting 4 2147483648 ∷ []) ≡ Some 3
unfolding rules
initial_window_too_wide = refl

initial_window_pushes_a_stream_too_wide : client_code (frame.Window 1 2147418112 ∷ setting 4 65536 ∷ []) ≡ Some 3
unfolding rules
initial_window_pushes_a_stream_too_wide = refl

initial_window_just_fits : client_code (frame.Window 1 2147418112 ∷ setting 4 65535 ∷ []) ≡ None
unfolding rules
initial_window_just_fits = refl

-- Windows

empty_update_of_the_connection : client_code (frame.Window 0 0 ∷ []) ≡ Some 1
unfolding rules
empty_update_of_the_connection = refl

connection_too_wide : client_code (frame.Window 0 2147418112 ∷ frame.Window 0 1 ∷ []) ≡ Some 3
unfolding rules
connection_too_wide = refl

-- 49,152 bytes; what is given back for them waits
abbrev three_pieces : List Frame
three_pieces = frame.Data 1 [] false 16384 ∷ frame.Data 1 [] false 16384 ∷ frame.Data 1 [] false 16384 ∷ []

data_past_the_window : client_code (three_pieces ++ frame.Data 1 [] false 16384 ∷ []) ≡ Some 3
unfolding rules
data_past_the_window = refl

data_up_to_the_window : client_code (three_pieces ++ frame.Data 1 [] false 16383 ∷ []) ≡ None
unfolding rules
data_up_to_the_window = refl

data_behind_an_update : code (came (frame.Data 1 [] false 16384 ∷ []) (called (Take 100) (came three_pieces client))) ≡ None
unfolding rules
data_behind_an_update = refl

-- Blocks that are too long

abbrev piece : List ℕ
piece = replicate 16384 136

block_too_long : client_code (frame.Headers 1 piece false false ∷ frame.Continuation 1 piece false
    ∷ frame.Continuation 1 piece false ∷ frame.Continuation 1 piece false ∷ frame.Continuation 1 (136 ∷ []) false ∷ []) ≡ Some 11
unfolding rules
block_too_long = refl

-- GOAWAY has the last stream that the peer opened before the violation
goaway_has_the_last_stream : waiting_behind 15 (came (frame.Headers 5 [] false true ∷ frame.Headers 7 [] false false ∷ empty_ping ∷ []) server)
    ≡ pairs (codes "000000040100000000" ++ codes "0000080700000000000000000700000001")
unfolding rules
goaway_has_the_last_stream = refl
