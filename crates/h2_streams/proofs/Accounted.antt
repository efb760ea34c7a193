-- What is kept of a stream, against the account: its windows, and whether it is live.
use Rattle.std.proofs.Common.{◌≡◌, ℕ, ◌+◌, Bool, true, false, not, List, [], ◌∷◌, Option, Some, None, refl, sym, ◌∙◌, ap, if◌then◌else◌, ◌==◌, ◌&&◌, ◌||◌, filter, reverse, nat_lt, pos, ◌+ℤ◌, ◌-ℤ◌, arith}
use Rattle.std.specs.List.{list_all, list_any, cons_option}
use Rattle.std.proofs.lemmas.Int.{ints}
use Rattle.std.proofs.lemmas.List.Sorted.{list_any-IsPermutation, IsPermutation-reverse}
use Rattle.ext_msgs.specs.declared.lists.Field.{Field}
use Rattle.h2_frames.specs.declared.frame.Setting.{Setting}
use Rattle.h2_model.specs.declared.stream.Stream.{Stream}
use Rattle.h2_model.specs.Account.{Account}
use Rattle.h2_model.specs.Blocks.{OpenBlock}
use Rattle.h2_model.specs.Codes.{first_row, protocol_error, flow_control_error, stream_closed}
use Rattle.h2_model.specs.Settings.{initial_window}
use Rattle.h2_model.specs.Streams.{is_live, opened, live_streams, is_ended_by_peer, heads_got}
use Rattle.h2_model.specs.State.{stream_of_log, live, live_among, streams, found}
use Rattle.h2_model.specs.StreamFaults.{is_interim, has_upper_case, has_late_pseudo, block_rows, data_rows, update_rows}
use Rattle.h2_model.specs.Violations.{is_wide_setting}
use Rattle.h2_model.specs.Windows.{window_from, connection_window, is_too_wide, receiving_window}
use Rattle.h2_model.proofs.Lives.{found-live}
use Rattle.h2_streams.specs.Settings.{is_wide_among}

-- Windows

sums : (i n t s : ℕ) → (pos ((i + n) + t) -ℤ pos s) ≡ (pos (i + t) -ℤ pos s) +ℤ pos n
sums i n t s = omega (arith, ints)

parts : (i t s : ℕ) → (pos (i + t) -ℤ pos s) ≡ pos i +ℤ (pos t -ℤ pos s)
parts i t s = omega (arith, ints)

-- an increment more
pub increased : (i n id : ℕ) (a : Account) → window_from (i + n) id a ≡ window_from i id a +ℤ pos n
unfolding window_from
increased i n id a = sums i n _ _

-- a stream's window is its credit on top of the initial size
pub credited : (i id : ℕ) (a : Account) → window_from i id a ≡ pos i +ℤ (stream_of_log id a).credit
unfolding window_from stream_of_log
credited i id a = parts i _ _

pub peer-ended : (s : Stream) (id : ℕ) (a : Account) → s ≡ stream_of_log id a → is_ended_by_peer id a.log ≡ s.peer_ended
unfolding stream_of_log
peer-ended s id a e = sym (ap (λ t. t.peer_ended) e)

pub data-row : (s : Stream) (id : ℕ) (a : Account) → s ≡ stream_of_log id a → first_row (data_rows a id) ≡ (if s.peer_ended then Some stream_closed else None)
data-row s id a e = rw (peer-ended s id a e) refl

still-interim : (s : Stream) (id : ℕ) (a : Account) → s ≡ stream_of_log id a → list_all is_interim (heads_got id a.log) ≡ s.interim
unfolding stream_of_log
still-interim s id a e = sym (ap (λ t. t.interim) e)

pub block-row : (s : Stream) (last : Bool) (a : Account) (b : OpenBlock) (fields : List Field) → s ≡ stream_of_log b.stream a → last ≡ b.last
    → first_row (block_rows a b fields)
    ≡ (if s.peer_ended then Some stream_closed else (if not last && not s.interim then Some protocol_error else (if list_any has_upper_case fields || has_late_pseudo fields then Some protocol_error else None)))
block-row s last a b fields e f = rw (peer-ended s b.stream a e, still-interim s b.stream a e, f) refl

updated : (s : Stream) (i n id : ℕ) (a : Account) → s ≡ stream_of_log id a → i ≡ initial_window a.log
    → window_from (initial_window a.log + n) id a ≡ (pos i +ℤ s.credit) +ℤ pos n
updated s i n id a e f =
    increased (initial_window a.log) n id a
    ∙ ap (λ w. w +ℤ pos n) (credited (initial_window a.log) id a ∙ ap (λ t. pos (initial_window a.log) +ℤ t.credit) (sym e) ∙ ap (λ j. pos j +ℤ s.credit) (sym f))

pub update-row : (s : Stream) (i n id : ℕ) (a : Account) → s ≡ stream_of_log id a → i ≡ initial_window a.log
    → first_row (update_rows a id n) ≡ (if n == 0 then Some protocol_error else (if is_too_wide ((pos i +ℤ s.credit) +ℤ pos n) then Some flow_control_error else None))
update-row s i n id a e f = ap (λ w. if n == 0 then Some protocol_error else (if is_too_wide w then Some flow_control_error else None)) (updated s i n id a e f)

pub connection : (n : ℕ) (a : Account) → window_from (65535 + n) 0 a ≡ connection_window a +ℤ pos n
unfolding connection_window
connection n a = increased 65535 n 0 a

-- The live streams

pub looked : (id : ℕ) (a : Account) (kept : List Stream) (o : Option Stream) → kept ≡ streams a → o ≡ found id kept → o ≡ live id a
looked id a kept o e f = f ∙ ap (found id) e ∙ found-live id a

-- the test of a stream's receiving window, by what is found of it
abbrev pub exceeds_by : Option Stream → ℕ → Bool
exceeds_by None size = false
exceeds_by (Some s) size = nat_lt s.receive size

pub exceeded : (id size : ℕ) (a : Account) → (is_live id a.log && nat_lt (receiving_window id a.log) size) ≡ exceeds_by (live id a) size
unfolding live stream_of_log
exceeded id size a = by (is_live id a.log)
  where
    by : (l : Bool) → (l && nat_lt (receiving_window id a.log) size) ≡ exceeds_by (if l then Some (stream_of_log id a) else None) size
    by true = refl
    by false = refl

any-filter : (p q : ℕ → Bool) (ids : List ℕ) → list_any p (filter q ids) ≡ list_any (λ id. q id && p id) ids
any-filter p q [] = refl
any-filter p q (id ∷ ids) = by (q id) (any-filter p q ids)
  where
    by : (c : Bool) → list_any p (filter q ids) ≡ list_any (λ n. q n && p n) ids
        → list_any p (if c then id ∷ filter q ids else filter q ids) ≡ ((c && p id) || list_any (λ n. q n && p n) ids)
    by true ih = ap (λ b. p id || b) ih
    by false ih = ih

any-among : (i : ℕ) (a : Account) (ids : List ℕ)
    → list_any (λ t. is_too_wide (pos i +ℤ t.credit)) (live_among ids a) ≡ list_any (λ id. is_live id a.log && is_too_wide (window_from i id a)) ids
unfolding live
any-among i a [] = refl
any-among i a (id ∷ ids) = by (is_live id a.log) (any-among i a ids)
  where
    by : (c : Bool) → list_any (λ t. is_too_wide (pos i +ℤ t.credit)) (live_among ids a) ≡ list_any (λ n. is_live n a.log && is_too_wide (window_from i n a)) ids
        → list_any (λ t. is_too_wide (pos i +ℤ t.credit)) (cons_option (if c then Some (stream_of_log id a) else None) (live_among ids a))
        ≡ ((c && is_too_wide (window_from i id a)) || list_any (λ n. is_live n a.log && is_too_wide (window_from i n a)) ids)
    by true ih = ap (λ w. is_too_wide w || list_any (λ t. is_too_wide (pos i +ℤ t.credit)) (live_among ids a)) (sym (credited i id a)) ∙ ap (λ b. is_too_wide (window_from i id a) || b) ih
    by false ih = ih

pub any-widened : (i : ℕ) (a : Account)
    → list_any (λ t. is_too_wide (pos i +ℤ t.credit)) (streams a) ≡ list_any (λ id. is_too_wide (window_from i id a)) (live_streams a.log)
unfolding streams
any-widened i a =
    any-among i a (reverse (opened a.log))
    ∙ sym (list_any-IsPermutation (λ id. is_live id a.log && is_too_wide (window_from i id a)) (opened a.log) (reverse (opened a.log)) (IsPermutation-reverse (opened a.log)))
    ∙ sym (any-filter (λ id. is_too_wide (window_from i id a)) (λ id. is_live id a.log) (opened a.log))

wide-setting : (kept : List Stream) (a : Account) (s : Setting) → kept ≡ streams a → is_wide_among kept s ≡ is_wide_setting a s
wide-setting kept a s e = ap (λ ts. is_wide_among ts s) e
    ∙ ap (λ b. (s.identifier == 4) && (nat_lt 2147483647 s.value || b)) (any-widened s.value a)

pub wide-list : (kept : List Stream) (a : Account) (list : List Setting) → kept ≡ streams a → list_any (is_wide_among kept) list ≡ list_any (is_wide_setting a) list
wide-list kept a [] e = refl
wide-list kept a (s ∷ list) e =
    ap (λ b. b || list_any (is_wide_among kept) list) (wide-setting kept a s e)
    ∙ ap (λ b. is_wide_setting a s || b) (wide-list kept a list e)
