-- What goes out, and in which order.
use Rattle.std.specs.Prelude.{ℕ, ◌≡◌, true, false, List, [], ◌∷◌, ◌++◌, length, codes, refl, replicate, map}
use Rattle.h2_frames.specs.declared.frame.Frame.{Frame}
use Rattle.h2_frames.specs.declared.frame.Frame.TheVariants as frame
use Rattle.h2_model.specs.Queue.{flow, bytes_of}
use Rattle.h2_model.specs.Account.{Account}
use Rattle.h2_model.specs.History.{Call, Open, Head, Send, Finish, Reset, Take}
use Rattle.h2_model.specs.Calls.{waits, kept_streams, can_open, used}
use Rattle.h2_model_examples.specs.Setting.{rules, pairs, fed, client_after, server_after, no_settings, preface_digits}

-- the frames that wait, each with the number of its bytes left
abbrev queue : Account → List (Frame × ℕ)
queue a = map (λ w. (w.frame, length w.left)) a.waiting

abbrev ready : List Call
ready = Take 39 ∷ fed no_settings ∷ Take 9 ∷ Open ∷ Head 1 [] [] false ∷ Take 9 ∷ []

abbrev ping : Call
ping = fed (codes "0000080600000000000102030405060708")

abbrev pong : Frame
pong = frame.Ping true (1 ∷ 2 ∷ 3 ∷ 4 ∷ 5 ∷ 6 ∷ 7 ∷ 8 ∷ [])

client_begins_with_preface_and_settings : flow (client_after []).waiting ≡ pairs (preface_digits ++ codes "000006040000000000000200000000")
unfolding rules
client_begins_with_preface_and_settings = refl

server_begins_with_settings : flow (server_after []).waiting ≡ pairs (codes "000006040000000000000300000100")
unfolding rules
server_begins_with_settings = refl

settings_are_acknowledged : flow (client_after (Take 39 ∷ fed no_settings ∷ [])).waiting ≡ pairs (codes "000000040100000000")
unfolding rules
settings_are_acknowledged = refl

-- one request with a body, of which nothing was given yet
abbrev asked : List Call
asked = Take 39 ∷ fed no_settings ∷ Open ∷ Head 1 (record { name = codes ":method"; value = codes "POST" } ∷ []) (131 ∷ []) false ∷ Send 1 (codes "ask") ∷ Take 9 ∷ []

head_and_body_go_out : flow (client_after asked).waiting ≡ pairs (codes "00000101040000000183" ++ codes "00000300000000000161736b")
unfolding rules
head_and_body_go_out = refl

feed_uses_one_frame_that_brings_something : used (pairs (codes "000003000000000001000000" ++ codes "0000020000000000010012")) (client_after asked) ≡ 12
unfolding rules
feed_uses_one_frame_that_brings_something = refl

-- Control frames and DATA

control_frame_goes_before_data : queue (client_after (ready ++ Send 1 (codes "abc") ∷ ping ∷ [])) ≡ (pong, 17) ∷ (frame.Data 1 (codes "abc") false 3, 12) ∷ []
unfolding rules
control_frame_goes_before_data = refl

begun_frame_goes_first : queue (client_after (ready ++ Send 1 (codes "abc") ∷ Take 1 ∷ ping ∷ [])) ≡ (frame.Data 1 (codes "abc") false 3, 11) ∷ (pong, 17) ∷ []
unfolding rules
begun_frame_goes_first = refl

-- an initial window of 0: nothing of a stream may follow its acknowledgement
abbrev shut : Call
shut = fed (codes "000006040000000000000400000000")

acknowledgement_stays_behind_data : queue (client_after (ready ++ Send 1 (codes "abc") ∷ shut ∷ ping ∷ []))
    ≡ (pong, 17) ∷ (frame.Data 1 (codes "abc") false 3, 12) ∷ (frame.SettingsAck, 9) ∷ []
unfolding rules
acknowledgement_stays_behind_data = refl

block_stays_behind_an_acknowledgement : queue (client_after (ready ++ Open ∷ Send 1 (codes "abc") ∷ shut ∷ Head 3 [] [] false ∷ []))
    ≡ (frame.Data 1 (codes "abc") false 3, 12) ∷ (frame.SettingsAck, 9) ∷ (frame.Headers 3 [] false true, 9) ∷ []
unfolding rules
block_stays_behind_an_acknowledgement = refl

-- Resets

reset_drops_waiting_bytes : queue (client_after (ready ++ Send 1 (codes "abc") ∷ Reset 1 8 ∷ [])) ≡ (frame.Reset 1 8, 13) ∷ []
unfolding rules
reset_drops_waiting_bytes = refl

reset_of_the_peer_drops_waiting_bytes : queue (client_after (ready ++ Send 1 (codes "abc") ∷ fed (codes "00000403000000000100000008") ∷ [])) ≡ []
unfolding rules
reset_of_the_peer_drops_waiting_bytes = refl

waiting_end_goes_before_a_reset : queue (client_after (ready ++ Finish 1 ∷ ping ∷ Reset 1 8 ∷ [])) ≡ (pong, 17) ∷ (frame.Data 1 [] true 0, 9) ∷ (frame.Reset 1 8, 13) ∷ []
unfolding rules
waiting_end_goes_before_a_reset = refl

begun_frame_is_finished : queue (client_after (ready ++ Send 1 (codes "abc") ∷ Take 1 ∷ Reset 1 8 ∷ [])) ≡ (frame.Data 1 (codes "abc") false 3, 11) ∷ (frame.Reset 1 8, 13) ∷ []
unfolding rules
begun_frame_is_finished = refl

reset_waits_for_its_head : waits 1 (client_after (Take 39 ∷ Open ∷ Reset 1 8 ∷ [])) ≡ true
unfolding rules
reset_waits_for_its_head = refl

head_goes_before_its_reset : queue (client_after (Take 39 ∷ Open ∷ Reset 1 8 ∷ Head 1 [] [] false ∷ [])) ≡ (frame.Headers 1 [] false true, 9) ∷ (frame.Reset 1 8, 13) ∷ []
unfolding rules
head_goes_before_its_reset = refl

stream_is_kept_until_its_reset_was_given : kept_streams (client_after (Take 39 ∷ Open ∷ Reset 1 8 ∷ Head 1 [] [] false ∷ Take 10 ∷ [])) ≡ 1 ∷ []
unfolding rules
stream_is_kept_until_its_reset_was_given = refl

-- Blocks

abbrev serving : List Call
serving = fed preface_digits ∷ fed no_settings ∷ fed (codes "000000010400000001") ∷ fed (codes "000000010400000003") ∷ Take 24 ∷ []

trailers_stay_behind_the_body : queue (server_after (serving ++ Send 1 (codes "abc") ∷ Send 3 (codes "de") ∷ Head 1 [] [] true ∷ Head 3 [] [] false ∷ []))
    ≡ (frame.Data 1 (codes "abc") false 3, 12) ∷ (frame.Headers 1 [] true true, 9) ∷ (frame.Data 3 (codes "de") false 2, 11) ∷ (frame.Headers 3 [] false true, 9) ∷ []
unfolding rules
trailers_stay_behind_the_body = refl

long_block_goes_in_three_frames : length (bytes_of (frame.Headers 1 (replicate 40000 7) false true)) ≡ 40027
long_block_goes_in_three_frames = refl

-- Opening

limit_of_the_peer_is_reached : can_open (client_after (fed (codes "000006040000000000000300000001") ∷ Open ∷ [])) ≡ false
unfolding rules
limit_of_the_peer_is_reached = refl

closed_stream_makes_room : can_open (client_after (fed (codes "000006040000000000000300000001") ∷ Open ∷ Head 1 [] [] false ∷ Reset 1 8 ∷ [])) ≡ true
unfolding rules
closed_stream_makes_room = refl

none_opens_behind_goaway : can_open (client_after (fed no_settings ∷ fed (codes "0000080700000000000000000000000000") ∷ [])) ≡ false
unfolding rules
none_opens_behind_goaway = refl

-- GOAWAY

goaway_goes_behind_a_reset_and_drops_data : queue (client_after (ready ++ Open ∷ Head 3 [] [] false ∷ Send 1 (codes "abc") ∷ Reset 3 8 ∷ fed (codes "000000050000000001") ∷ []))
    ≡ (frame.Headers 3 [] false true, 9) ∷ (frame.Reset 3 8, 13) ∷ (frame.GoAway 0 1, 17) ∷ []
unfolding rules
goaway_goes_behind_a_reset_and_drops_data = refl

nothing_goes_behind_goaway : queue (client_after (ready ++ fed (codes "000000050000000001") ∷ ping ∷ Finish 1 ∷ [])) ≡ (frame.GoAway 0 1, 17) ∷ []
unfolding rules
nothing_goes_behind_goaway = refl
