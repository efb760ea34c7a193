-- Sending windows: RFC 9113 section 6.9; and bytes that begin with the empty SETTINGS frame.
use Rattle.std.specs.Prelude.{◌≡◌, false, List, [], ◌∷◌, ◌++◌, codes, refl, replicate, pos, negsuc}
use Rattle.h2_frames.specs.Frames.{first, Whole, Unfinished}
use Rattle.h2_frames.specs.declared.frame.Frame.TheVariants as frame
use Rattle.h2_model.specs.Windows.{connection_window, stream_window}
use Rattle.h2_model.specs.History.{Call, Open, Head, Send, Reset, Take}
use Rattle.h2_model.specs.Calls.{sendable}
use Rattle.h2_model_examples.specs.Setting.{rules, pairs, fed, client_after, no_settings}

-- the empty SETTINGS frame, and behind it 3 bytes in which no frame is whole
empty_settings_with_a_rest : first (pairs (no_settings ++ codes "000008")) ≡ Whole (frame.Settings []) 9
unfolding rules
empty_settings_with_a_rest = refl

rest_is_no_frame : first (pairs (codes "000008")) ≡ Unfinished
unfolding rules
rest_is_no_frame = refl

abbrev pub greeted : List Call
greeted = Take 39 ∷ fed no_settings ∷ Open ∷ Head 1 [] [] false ∷ []

-- 100 bytes are sent, and the initial window becomes 50
abbrev pub hundred : List Call
hundred = greeted ++ Send 1 (replicate 100 7) ∷ fed (codes "000006040000000000000400000032") ∷ []

smaller_initial_window_makes_the_window_negative : stream_window 1 (client_after hundred) ≡ negsuc 49
unfolding rules
smaller_initial_window_makes_the_window_negative = refl

connection_window_keeps_its_initial_size : connection_window (client_after hundred) ≡ pos 65435
unfolding rules
connection_window_keeps_its_initial_size = refl

negative_window_takes_nothing : sendable 1 1 (client_after hundred) ≡ 0
unfolding rules
negative_window_takes_nothing = refl

increment_of_51_takes_one : sendable 1 10 (client_after (hundred ++ fed (codes "00000408000000000100000033") ∷ [])) ≡ 1
unfolding rules
increment_of_51_takes_one = refl

-- an initial window of 0, and then of 65,535
abbrev pub closed : List Call
closed = Take 39 ∷ fed (codes "000006040000000000000400000000") ∷ Open ∷ Head 1 [] [] false ∷ []

empty_window_takes_nothing : sendable 1 23 (client_after closed) ≡ 0
unfolding rules
empty_window_takes_nothing = refl

widened_window_takes_all : sendable 1 23 (client_after (closed ++ fed (codes "00000604000000000000040000ffff") ∷ [])) ≡ 23
unfolding rules
widened_window_takes_all = refl

dropped_bytes_give_their_window_back : connection_window (client_after (greeted ++ Send 1 (codes "abc") ∷ Reset 1 8 ∷ [])) ≡ pos 65535
unfolding rules
dropped_bytes_give_their_window_back = refl
