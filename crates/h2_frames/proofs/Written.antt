-- What is written is read back.
use Rattle.std.proofs.Common.{arith, ◌≡◌, ℕ, ◌+◌, ◌-◌, ◌*◌, ◌/◌, ◌%◌, ◌^◌, ◌<◌, ◌≤◌, Bool, true, false, List, [], ◌∷◌, ◌++◌, length, take, refl, sym, ◌∙◌, ap, if◌then◌else◌, nat_lt, Option, Some, None, subst, All, suc, ◌⊎◌, inl, inr, length-append}
use Rattle.std.specs.Int.{w32, to_be_bytes, from_be_bytes}
use Rattle.std.specs.List.{flat_map}
use Rattle.std.proofs.lemmas.Nat.{from_be_bytes-to_be_bytes_4, from_be_bytes-to_be_bytes_2}
use Rattle.std.proofs.lemmas.List.{take-append-le, take_all}
use Rattle.h2_frames.specs.declared.header.Kind.{Kind}
use Rattle.h2_frames.specs.declared.header.Kind.TheVariants as kind
use Rattle.h2_frames.specs.declared.header.Header.{Header}
use Rattle.h2_frames.specs.declared.frame.Setting.{Setting}
use Rattle.h2_frames.specs.declared.frame.Frame.{Frame}
use Rattle.h2_frames.specs.declared.frame.Frame.TheVariants.{Data, Headers, Priority, Reset, Settings, SettingsAck, Push, Ping, GoAway, Window, Continuation, Unknown}
use Rattle.h2_frames.specs.Headers.{kind_of, header_of, header_fault}
use Rattle.h2_frames.specs.Payloads.{frame_of, content_of, with_content, setting_of, settings_of, eight}
use Rattle.h2_frames.specs.Frames.{Whole, first, whole_or_faulty}
use Rattle.h2_frames.specs.Spelling.{three, framed, bit, setting_bytes, spelling, IsWritable, IsInRange}
use Rattle.std.proofs.lemmas.Bool.Decides.{nat_tests}
use Rattle.h2_frames.proofs.First.{whole_by}
use Rattle.h2_frames.proofs.SettingLists.{six_each}

-- the three bytes of a small number
small : (n : ℕ) → n ≤ 16384 → from_be_bytes w32 (0 ∷ three n) ≡ n
small n h = omega (arith, from_be_bytes-to_be_bytes_4 n (omega arith))

spelled : (n : ℕ) → n < 2 ^ 31 → from_be_bytes w32 (to_be_bytes w32 n) % 2 ^ 31 ≡ n
spelled n h = let e : from_be_bytes w32 (to_be_bytes w32 n) ≡ n = from_be_bytes-to_be_bytes_4 n (omega arith) in ap (λ (k : ℕ). k % 2 ^ 31) e ∙ omega arith

abbrev written : Kind → ℕ → ℕ → ℕ → Header
written k size flags stream = record { size = size; kind = k; flags = flags; stream = stream }

written_header : (code flags stream : ℕ) (payload more : List ℕ) → length payload ≤ 16384 → stream < 2 ^ 31
    → written (kind_of code) (length payload) flags stream ≡ header_of (framed code flags stream payload ++ more)
unfolding header_of
written_header code flags stream payload more h s =
    ap (λ (n : ℕ). written (kind_of code) n flags stream) (sym (small (length payload) h))
    ∙ ap (λ (n : ℕ). written (kind_of code) (from_be_bytes w32 (0 ∷ three (length payload))) flags n) (sym (spelled stream s))

-- the frame that such bytes begin with
begins : (code flags stream : ℕ) (payload more : List ℕ) (k : Kind) (f : Frame) → length payload ≤ 16384 → stream < 2 ^ 31 → k ≡ kind_of code
    → header_fault (written k (length payload) flags stream) ≡ None → frame_of k (written k (length payload) flags stream) payload ≡ Some f
    → first (framed code flags stream payload ++ more) ≡ Whole f (length (framed code flags stream payload))
begins code flags stream payload more k f h s is right made =
    let whole : length (framed code flags stream payload ++ more) ≡ 9 + (length payload + length more) = let e = length-append payload more in omega arith in
    let own : length (framed code flags stream payload) ≡ 9 + length payload = omega arith in
    let front : take (length payload) (payload ++ more) ≡ payload = take-append-le (length payload) payload more (omega arith) ∙ take_all (length payload) payload (omega arith) in
    whole_by (framed code flags stream payload ++ more) (written k (length payload) flags stream)
    (ap (λ (j : Kind). written j (length payload) flags stream) is ∙ written_header code flags stream payload more h s) (omega arith) right (omega arith)
    ∙ ap (λ (p : List ℕ). whole_or_faulty (frame_of k (written k (length payload) flags stream) p) (9 + length payload)) front
    ∙ ap (λ (o : Option Frame). whole_or_faulty o (9 + length payload)) made
    ∙ ap (λ (n : ℕ). Whole f n) (sym own)

data_right : (stream size : ℕ) (last : Bool) → 0 < stream → size ≤ 16384 → header_fault (written kind.Data size (bit 1 last) stream) ≡ None
unfolding header_fault
data_right stream size true h l = grind (arith, nat_tests)
data_right stream size false h l = grind (arith, nat_tests)

headers_right : (stream size : ℕ) (last ends : Bool) → 0 < stream → size ≤ 16384 → header_fault (written kind.Headers size (bit 1 last + bit 4 ends) stream) ≡ None
unfolding header_fault
headers_right stream size true true h l = grind (arith, nat_tests)
headers_right stream size true false h l = grind (arith, nat_tests)
headers_right stream size false true h l = grind (arith, nat_tests)
headers_right stream size false false h l = grind (arith, nat_tests)

continuation_right : (stream size : ℕ) (ends : Bool) → 0 < stream → size ≤ 16384 → header_fault (written kind.Continuation size (bit 4 ends) stream) ≡ None
unfolding header_fault
continuation_right stream size ends h l = grind (arith, nat_tests)

empty_right : (k : Kind) (stream : ℕ) → (k ≡ kind.Priority) ⊎ (k ≡ kind.Push) → 0 < stream → header_fault (written k 0 0 stream) ≡ None
unfolding header_fault
empty_right k stream (inl e) h = rw e (grind (arith, nat_tests))
empty_right k stream (inr e) h = rw e (grind (arith, nat_tests))

reset_right : (stream : ℕ) → 0 < stream → header_fault (written kind.Reset 4 0 stream) ≡ None
unfolding header_fault
reset_right stream h = grind (arith, nat_tests)

settings_right : (n : ℕ) → 6 * n ≤ 16384 → header_fault (written kind.Settings (6 * n) 0 0) ≡ None
unfolding header_fault
settings_right n h = let e : 6 * n % 6 ≡ 0 = omega arith in grind (arith, nat_tests)

setting_back : (s : Setting) (rest : List ℕ) → s.identifier < 2 ^ 16 → s.value < 2 ^ 32 → setting_of (setting_bytes s ++ rest) ≡ s
setting_back s rest i v =
    ap (λ (n : ℕ). record { identifier = n; value = from_be_bytes w32 (to_be_bytes w32 s.value) }) (from_be_bytes-to_be_bytes_2 s.identifier i)
    ∙ ap (λ (n : ℕ). record { identifier = s.identifier; value = n }) (from_be_bytes-to_be_bytes_4 s.value v)

settings_back : (list : List Setting) → All (λ s. (s.identifier < 2 ^ 16) × (s.value < 2 ^ 32)) list → settings_of (length list) (flat_map setting_bytes list) ≡ list
settings_back [] all = refl
settings_back (s ∷ list) all =
    let here : (s.identifier < 2 ^ 16) × (s.value < 2 ^ 32) = all 0 s (omega arith) in
    ap (λ (t : Setting). t ∷ settings_of (length list) (flat_map setting_bytes list)) (setting_back s (flat_map setting_bytes list) here.0 here.1)
    ∙ ap (λ (l : List Setting). s ∷ l) (settings_back list (λ k d h. all (suc k) d (omega arith)))

settings_made : (list : List Setting) → All (λ s. (s.identifier < 2 ^ 16) × (s.value < 2 ^ 32)) list
    → frame_of kind.Settings (written kind.Settings (length (flat_map setting_bytes list)) 0 0) (flat_map setting_bytes list) ≡ Some (Settings list)
unfolding frame_of
settings_made list all =
    let six = six_each list in
    let count : length (flat_map setting_bytes list) / 6 ≡ length list = omega arith in
    ap (λ (n : ℕ). Some (Settings (settings_of n (flat_map setting_bytes list)))) count ∙ ap (λ (l : List Setting). Some (Settings l)) (settings_back list all)

eight_back : (bytes : List ℕ) → length bytes ≡ 8 → eight bytes ≡ bytes
eight_back [] e = absurd (omega arith)
eight_back (a ∷ []) e = absurd (omega arith)
eight_back (a ∷ b ∷ []) e = absurd (omega arith)
eight_back (a ∷ b ∷ c ∷ []) e = absurd (omega arith)
eight_back (a ∷ b ∷ c ∷ d ∷ []) e = absurd (omega arith)
eight_back (a ∷ b ∷ c ∷ d ∷ f ∷ []) e = absurd (omega arith)
eight_back (a ∷ b ∷ c ∷ d ∷ f ∷ g ∷ []) e = absurd (omega arith)
eight_back (a ∷ b ∷ c ∷ d ∷ f ∷ g ∷ h ∷ []) e = absurd (omega arith)
eight_back (a ∷ b ∷ c ∷ d ∷ f ∷ g ∷ h ∷ i ∷ []) e = refl
eight_back (a ∷ b ∷ c ∷ d ∷ f ∷ g ∷ h ∷ i ∷ j ∷ more) e = absurd (omega arith)

ping_right : (size flags : ℕ) → size ≡ 8 → header_fault (written kind.Ping size flags 0) ≡ None
unfolding header_fault
ping_right size flags e = rw e refl

ping_made : (ack : Bool) (bytes : List ℕ) → length bytes ≡ 8 → frame_of kind.Ping (written kind.Ping (length bytes) (bit 1 ack) 0) bytes ≡ Some (Ping ack bytes)
unfolding frame_of
ping_made true bytes e = ap (λ (b : List ℕ). Some (Ping true b)) (eight_back bytes e)
ping_made false bytes e = ap (λ (b : List ℕ). Some (Ping false b)) (eight_back bytes e)

-- a content without padding
bare : (payload : List ℕ) → (if nat_lt (length payload) 0 then None else Some (take (length payload - 0) payload)) ≡ Some payload
bare payload = let all = take_all (length payload - 0) payload (omega arith) in grind (arith, nat_tests, all)

data_made : (stream : ℕ) (content : List ℕ) (last : Bool) → frame_of kind.Data (written kind.Data (length content) (bit 1 last) stream) content ≡ Some (Data stream content last (length content))
unfolding frame_of content_of
data_made stream content true = ap (λ (o : Option (List ℕ)). with_content o (λ c. Data stream c true (length content))) (bare content)
data_made stream content false = ap (λ (o : Option (List ℕ)). with_content o (λ c. Data stream c false (length content))) (bare content)

headers_made : (stream : ℕ) (block : List ℕ) (last ends : Bool) → frame_of kind.Headers (written kind.Headers (length block) (bit 1 last + bit 4 ends) stream) block ≡ Some (Headers stream block last ends)
unfolding frame_of content_of
headers_made stream block true true = ap (λ (o : Option (List ℕ)). with_content o (λ b. Headers stream b true true)) (bare block)
headers_made stream block true false = ap (λ (o : Option (List ℕ)). with_content o (λ b. Headers stream b true false)) (bare block)
headers_made stream block false true = ap (λ (o : Option (List ℕ)). with_content o (λ b. Headers stream b false true)) (bare block)
headers_made stream block false false = ap (λ (o : Option (List ℕ)). with_content o (λ b. Headers stream b false false)) (bare block)

continuation_made : (stream : ℕ) (block : List ℕ) (ends : Bool) → frame_of kind.Continuation (written kind.Continuation (length block) (bit 4 ends) stream) block ≡ Some (Continuation stream block ends)
unfolding frame_of
continuation_made stream block true = refl
continuation_made stream block false = refl

unknown_kind : (code : ℕ) → 9 < code → kind.Unknown code ≡ kind_of code
unknown_kind code h = grind (arith, nat_tests)

pub read_back : (f : Frame) (more : List ℕ) → IsInRange f → IsWritable f → first (spelling f ++ more) ≡ Whole f (length (spelling f))
unfolding frame_of header_fault
read_back (Data stream content last size) more r w =
    begins 0 (bit 1 last) stream content more kind.Data (Data stream content last size) w.1 w.0.1 refl (data_right stream (length content) last w.0.0 w.1)
    (data_made stream content last ∙ ap (λ (n : ℕ). Some (Data stream content last n)) (sym w.2))
read_back (Headers stream block last ends) more r w =
    begins 1 (bit 1 last + bit 4 ends) stream block more kind.Headers (Headers stream block last ends) w.1 w.0.1 refl (headers_right stream (length block) last ends w.0.0 w.1) (headers_made stream block last ends)
read_back (Priority stream) more r w = begins 2 0 stream [] more kind.Priority (Priority stream) (omega arith) w.1 refl (empty_right kind.Priority stream (inl refl) w.0) refl
read_back (Reset stream code) more r w =
    begins 3 0 stream (to_be_bytes w32 code) more kind.Reset (Reset stream code) (omega arith) w.1 refl (reset_right stream w.0) (ap (λ (n : ℕ). Some (Reset stream n)) (from_be_bytes-to_be_bytes_4 code r))
read_back (Settings list) more r w =
    let six = six_each list in
    begins 4 0 0 (flat_map setting_bytes list) more kind.Settings (Settings list) (omega arith) (omega arith) refl
    (subst (λ (n : ℕ). header_fault (written kind.Settings n 0 0) ≡ None) (sym six) (settings_right (length list) w)) (settings_made list r)
read_back SettingsAck more r w = begins 4 1 0 [] more kind.Settings SettingsAck (omega arith) (omega arith) refl refl refl
read_back (Push stream) more r w = begins 5 0 stream [] more kind.Push (Push stream) (omega arith) w.1 refl (empty_right kind.Push stream (inr refl) w.0) refl
read_back (Ping ack bytes) more r w = begins 6 (bit 1 ack) 0 bytes more kind.Ping (Ping ack bytes) (omega arith) (omega arith) refl (ping_right (length bytes) (bit 1 ack) r) (ping_made ack bytes r)
read_back (GoAway last code) more r w =
    begins 7 0 0 (to_be_bytes w32 last ++ to_be_bytes w32 code) more kind.GoAway (GoAway last code) (omega arith) (omega arith) refl refl
    (ap (λ (n : ℕ). Some (GoAway n (from_be_bytes w32 (to_be_bytes w32 code)))) (spelled last w) ∙ ap (λ (n : ℕ). Some (GoAway last n)) (from_be_bytes-to_be_bytes_4 code r))
read_back (Window stream increment) more r w =
    begins 8 0 stream (to_be_bytes w32 increment) more kind.Window (Window stream increment) (omega arith) w.0 refl refl (ap (λ (n : ℕ). Some (Window stream n)) (spelled increment w.1))
read_back (Continuation stream block ends) more r w =
    begins 9 (bit 4 ends) stream block more kind.Continuation (Continuation stream block ends) w.1 w.0.1 refl (continuation_right stream (length block) ends w.0.0 w.1) (continuation_made stream block ends)
read_back (Unknown code) more r w = begins code 0 0 [] more (kind.Unknown code) (Unknown code) (omega arith) (omega arith) (unknown_kind code w) refl refl
