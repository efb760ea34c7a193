-- Words for the examples.
use Rattle.std.specs.Prelude.{ℕ, ◌+◌, ◌-◌, ◌*◌, true, false, List, [], ◌∷◌, drop, if◌then◌else◌, nat_lt, codes, reverse, replicate, Option}
use Rattle.hpack_core.specs.Static.{static_table}
use Rattle.hpack_core.specs.Tables.{cut}
use Rattle.hpack_core.specs.Reading.{string_of, string_at, entry_at, name_at, literal_at, indexed_at, added_at, plain_at, resized_at, step_at, fields_in, block_of}
use Rattle.h2_frames.specs.Headers.{header_of, header_fault}
use Rattle.h2_frames.specs.Payloads.{content_of, frame_of}
use Rattle.h2_frames.specs.Frames.{first}
use Rattle.h2_frames.specs.declared.frame.Frame.{Frame}
use Rattle.h2_frames.specs.declared.frame.Frame.TheVariants as frame
use Rattle.h2_model.specs.declared.answers.Event.{Event}
use Rattle.h2_model.specs.Log.{events, violation}
use Rattle.h2_model.specs.Blocks.{table_after}
use Rattle.h2_model.specs.Queue.{flow}
use Rattle.h2_model.specs.Account.{Account}
use Rattle.h2_model.specs.Windows.{window_from, connection_window, stream_window}
use Rattle.h2_model.specs.Violations.{violation_of}
use Rattle.h2_model.specs.StreamFaults.{stream_fault}
use Rattle.h2_model.specs.Duties.{owed_for, events_of}
use Rattle.h2_model.specs.History.{Call, Feed, Open, Head, start, noted, handed, owing, accepted, arrived, with_byte, called, account}
use Rattle.h2_model.specs.Calls.{used, can_open, waits, sendable, control, unsent_bytes}

-- a proof that computes with these definitions names this one
unfoldable pub rules : Unit {0}
unfolding static_table cut string_of string_at entry_at name_at literal_at indexed_at added_at plain_at resized_at step_at fields_in block_of header_of header_fault content_of frame_of first table_after window_from connection_window stream_window violation_of stream_fault owed_for events_of start noted handed owing accepted arrived with_byte called account used can_open waits sendable control unsent_bytes
rules = tt

abbrev pub digit : ℕ → ℕ
digit c = if nat_lt c 58 then c - 48 else c - 87

-- the bytes of hexadecimal digits
abbrev pub pairs : List ℕ → List ℕ
pairs (a ∷ b ∷ rest) = (digit a * 16 + digit b) ∷ pairs rest
pairs _ = []

abbrev pub fed : List ℕ → Call
fed digits = Feed (pairs digits)

-- after these calls, oldest first
abbrev pub client_after : List Call → Account
client_after calls = account true (reverse calls)

abbrev pub server_after : List Call → Account
server_after calls = account false (reverse calls)

-- after these frames, oldest first
abbrev pub came : List Frame → Account → Account
came [] a = a
came (f ∷ frames) a = came frames (arrived f a)

-- what the caller was told, oldest first
abbrev pub reported : Account → List Event
reported a = reverse (events a.log)

-- the bytes that wait behind so many
abbrev pub waiting_behind : ℕ → Account → List ℕ
waiting_behind n a = drop n (flow a.waiting)

abbrev pub code : Account → Option ℕ
code a = violation a.log

abbrev pub no_settings : List ℕ
no_settings = codes "000000040000000000"

abbrev pub preface_digits : List ℕ
preface_digits = codes "505249202a20485454502f322e300d0a0d0a534d0d0a0d0a"

abbrev pub empty_ping : Frame
empty_ping = frame.Ping false (replicate 8 0)

-- a client with stream 1 open, whose head has an empty block
abbrev pub client : Account
client = client_after (fed no_settings ∷ Open ∷ Head 1 [] [] false ∷ [])

abbrev pub server : Account
server = server_after (fed preface_digits ∷ fed no_settings ∷ [])

-- what a client is told of these frames
abbrev pub brings : List Frame → List Event
brings frames = reported (came frames client)

abbrev pub client_code : List Frame → Option ℕ
client_code frames = code (came frames client)

abbrev pub server_code : List Frame → Option ℕ
server_code frames = code (came frames server)
