-- Asks that were written are read again.
use Rattle.std.proofs.Common.{◌≡◌, ℕ, ◌^◌, ◌<◌, Bool, true, false, List, [], ◌∷◌, ◌++◌, length, Result, Ok, refl, ap, ◌∙◌, arith}
use Rattle.pb_wire.specs.Walk.{entries}
use Rattle.pb_wire.specs.Canonical.{spelling}
use Rattle.ext_msgs.specs.declared.fault.MsgFault.{MsgFault}
use Rattle.ext_msgs.specs.declared.lists.Field.{Field}
use Rattle.ext_msgs.specs.declared.ask.Ask.{Ask}
use Rattle.ext_msgs.specs.declared.ask.Ask.TheVariants as asks
use Rattle.ext_msgs.specs.Fields.{bytes_of, number_of, is_set}
use Rattle.ext_msgs.specs.MessageFault.{no_fault, map_fault, fields_fault, ask_fault}
use Rattle.ext_msgs.specs.MessageValue.{fields, headers_ask, body_ask, trailers_ask, ask_value}
use Rattle.ext_msgs.specs.Messages.{unless, ask_of}
use Rattle.ext_msgs.specs.Spelling.{bit, filled, flag, map_records, headers_records, body_records, trailers_records, ask_record, ask}
use Rattle.ext_msgs.specs.Writable.{AreFields, HasTexts, IsWritableAsk}
use Rattle.ext_msgs.proofs.Again.{AreGood, good_append, filled_good, number_good, embedded_good, none_again, same_again, embedded_short, inside_one}
use Rattle.ext_msgs.proofs.AgainFields.{map_good, map_said}

pub bit_fits : (on : Bool) → bit on < 2 ^ 64
bit_fits true = omega arith
bit_fits false = omega arith

-- ---- HttpHeaders, HttpBody, HttpTrailers

headers_good : (fs : List Field) (end : Bool) → AreFields fs → AreGood fields_fault (headers_records fs end)
headers_good fs end texts =
    (embedded_good fields_fault map_fault 1 (map_records fs) (omega arith) (omega arith) (map_good fs texts) (λ place start h. h), number_good fields_fault 3 (bit end) (omega arith) (omega arith) (bit_fits end) (λ place start. refl))

pub body_good : (body : List ℕ) (end : Bool) → AreGood no_fault (body_records body end)
body_good body end =
    good_append no_fault (filled 1 body) (flag 2 end) (filled_good no_fault 1 body (omega arith) (omega arith) (λ place start. refl)) (number_good no_fault 2 (bit end) (omega arith) (omega arith) (bit_fits end) (λ place start. refl))

trailers_good : (fs : List Field) → AreFields fs → AreGood fields_fault (trailers_records fs)
trailers_good fs texts = (embedded_good fields_fault map_fault 1 (map_records fs) (omega arith) (omega arith) (map_good fs texts) (λ place start h. h), tt)

-- the fields that a map gives inside another message
map_inside : (fs : List Field) → AreFields fs → length (spelling (map_records fs)) < 2 ^ 64 → fields (entries (spelling (map_records fs)) ++ []) ≡ fs
map_inside fs texts l =
    ap fields (inside_one (spelling (map_records fs)) ∙ same_again map_fault (map_records fs) (map_good fs texts) l) ∙ map_said fs texts l

headers_said : (make : List Field → Bool → Ask) (fs : List Field) (end : Bool) → AreFields fs → length (spelling (headers_records fs end)) < 2 ^ 64 → headers_ask make (headers_records fs end) ≡ make fs end
headers_said make fs true texts l = ap (λ (xs : List Field). make xs true) (map_inside fs texts (embedded_short 1 (map_records fs) (flag 3 true) l))
headers_said make fs false texts l = ap (λ (xs : List Field). make xs false) (map_inside fs texts (embedded_short 1 (map_records fs) (flag 3 false) l))

pub body_said : (body : List ℕ) (end : Bool) → (bytes_of 1 (body_records body end) ≡ body) × (is_set (number_of 2 (body_records body end)) ≡ end)
body_said [] true = (refl, refl)
body_said [] false = (refl, refl)
body_said (b ∷ body) true = (refl, refl)
body_said (b ∷ body) false = (refl, refl)

-- ---- ProcessingRequest

ask_good : (a : Ask) → HasTexts a → AreGood ask_fault (ask_record a ∷ [])
ask_good (asks.RequestHeaders fs end) texts = (embedded_good ask_fault fields_fault 2 (headers_records fs end) (omega arith) (omega arith) (headers_good fs end texts) (λ place start h. rw h refl), tt)
ask_good (asks.ResponseHeaders fs end) texts = (embedded_good ask_fault fields_fault 3 (headers_records fs end) (omega arith) (omega arith) (headers_good fs end texts) (λ place start h. rw h refl), tt)
ask_good (asks.RequestBody body end) texts = (embedded_good ask_fault no_fault 4 (body_records body end) (omega arith) (omega arith) (body_good body end) (λ place start h. rw h refl), tt)
ask_good (asks.ResponseBody body end) texts = (embedded_good ask_fault no_fault 5 (body_records body end) (omega arith) (omega arith) (body_good body end) (λ place start h. rw h refl), tt)
ask_good (asks.RequestTrailers fs) texts = (embedded_good ask_fault fields_fault 6 (trailers_records fs) (omega arith) (omega arith) (trailers_good fs texts) (λ place start h. rw h refl), tt)
ask_good (asks.ResponseTrailers fs) texts = (embedded_good ask_fault fields_fault 7 (trailers_records fs) (omega arith) (omega arith) (trailers_good fs texts) (λ place start h. h), tt)

abbrev done : Ask → Result Ask MsgFault
done a = Ok a

-- the records of a member, read inside the message
headers_inside : (make : List Field → Bool → Ask) (fs : List Field) (end : Bool) → AreFields fs → length (spelling (headers_records fs end)) < 2 ^ 64 → done (headers_ask make (entries (spelling (headers_records fs end)) ++ [])) ≡ done (make fs end)
headers_inside make fs end texts l =
    ap (λ es. done (headers_ask make es)) (inside_one (spelling (headers_records fs end)) ∙ same_again fields_fault (headers_records fs end) (headers_good fs end texts) l) ∙ ap done (headers_said make fs end texts l)

body_inside : (make : List ℕ → Bool → Ask) (body : List ℕ) (end : Bool) → length (spelling (body_records body end)) < 2 ^ 64 → done (body_ask make (entries (spelling (body_records body end)) ++ [])) ≡ done (make body end)
body_inside make body end l =
    let said = body_said body end in
    ap (λ es. done (body_ask make es)) (inside_one (spelling (body_records body end)) ∙ same_again no_fault (body_records body end) (body_good body end) l)
    ∙ ap (λ (b : List ℕ). done (make b (is_set (number_of 2 (body_records body end))))) said.0 ∙ ap (λ (e : Bool). done (make body e)) said.1

trailers_inside : (make : List Field → Ask) (fs : List Field) → AreFields fs → length (spelling (trailers_records fs)) < 2 ^ 64 → done (trailers_ask make (entries (spelling (trailers_records fs)) ++ [])) ≡ done (make fs)
trailers_inside make fs texts l =
    ap (λ es. done (trailers_ask make es)) (inside_one (spelling (trailers_records fs)) ∙ same_again fields_fault (trailers_records fs) (trailers_good fs texts) l)
    ∙ ap (λ (xs : List Field). done (make xs)) (map_inside fs texts (embedded_short 1 (map_records fs) [] l))

ask_said : (a : Ask) → HasTexts a → length (ask a) < 2 ^ 64 → ask_value (ask_record a ∷ []) ≡ Ok a
ask_said (asks.RequestHeaders fs end) texts l = headers_inside asks.RequestHeaders fs end texts (embedded_short 2 (headers_records fs end) [] l)
ask_said (asks.ResponseHeaders fs end) texts l = headers_inside asks.ResponseHeaders fs end texts (embedded_short 3 (headers_records fs end) [] l)
ask_said (asks.RequestBody body end) texts l = body_inside asks.RequestBody body end (embedded_short 4 (body_records body end) [] l)
ask_said (asks.ResponseBody body end) texts l = body_inside asks.ResponseBody body end (embedded_short 5 (body_records body end) [] l)
ask_said (asks.RequestTrailers fs) texts l = trailers_inside asks.RequestTrailers fs texts (embedded_short 6 (trailers_records fs) [] l)
ask_said (asks.ResponseTrailers fs) texts l = trailers_inside asks.ResponseTrailers fs texts (embedded_short 7 (trailers_records fs) [] l)

-- what is written of a writable ask is read as that ask
pub ask_again : (a : Ask) → IsWritableAsk a → ask_of (ask a) ≡ Ok a
ask_again a w =
    let l : length (ask a) < 2 ^ 64 = omega (arith, w.short) in
    ap (λ f. unless f (ask_value (entries (ask a)))) (none_again ask_fault (ask_record a ∷ []) (ask_good a w.texts) l (length (ask a)))
    ∙ ap ask_value (same_again ask_fault (ask_record a ∷ []) (ask_good a w.texts) l) ∙ ask_said a w.texts l
