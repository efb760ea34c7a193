-- `Counted` is kept by every byte that comes in, and so by every call.
use Rattle.std.proofs.Common.{◌≡◌, ℕ, Bool, true, false, List, [], ◌∷◌, ◌++◌, refl, if◌then◌else◌, Option, Some, None, length, take, bytes_eq}
use Rattle.std.specs.Prelude.{is_some}
use Rattle.h2_frames.specs.Frames.{First, first, Unfinished, Whole, Faulty}
use Rattle.h2_frames.specs.declared.frame.Frame.{Frame}
use Rattle.h2_frames.specs.declared.frame.Frame.TheVariants as frame
use Rattle.h2_model.specs.Codes.{protocol_error}
use Rattle.h2_model.specs.Log.{Opened, violation, is_empty}
use Rattle.h2_model.specs.Blocks.{open_block}
use Rattle.h2_model.specs.Account.{Account}
use Rattle.h2_model.specs.Violations.{violation_of}
use Rattle.h2_model.specs.Calls.{Role, May}
use Rattle.h2_model.specs.History.{Call, Feed, Open, Head, Send, Finish, Reset, Take, preface, violated, handed, headed, arrived, arrived_by, with_first, with_greeting, with_byte, with_bytes, called, next_number}
use Rattle.h2_laws_log.specs.Steps.{FramesSound}
use Rattle.h2_laws_log.proofs.Arrives.{arrives, sound-aside, same-block}
use Rattle.h2_laws_log.specs.Sound.{CallsSound}
use Rattle.h2_laws_log.proofs.Arrivals.{byte-sound}
use Rattle.h2_laws_log.proofs.Fail.{fail-valid}
use Rattle.h2_laws_log.proofs.Same.{zero-unopened}
use Rattle.h2_laws_log.proofs.Unless.{unless-keeps, empty-keeps}
use Rattle.h2_laws_log.specs.Rooms.{Counted}
use Rattle.h2_laws_log.proofs.RoomCalls.{data-counted, finish-counted, reset-counted, headed-counted, take-counted, violated-counted, answered-counted, aside-counted, noted-counted}
use Rattle.h2_laws_log.proofs.RoomArrives.{arrived-counted}

-- what each byte keeps
record Fed (a : Account) : Type 0 where
  frames : FramesSound a
  counted : Counted a

violated-fed : (code : ℕ) (a : Account) → CallsSound a → violation a.log ≡ None → Fed a → Fed (violated code a)
violated-fed code a t e k = record {
  frames = record {
    valid = fail-valid code a k.frames.valid t e;
    block = same-block a (violated code a) (open_block a.log) refl k.frames.block;
  };
  counted = violated-counted code a k.counted;
}

arrived-fed : (f : Frame) (a : Account) → CallsSound a → violation a.log ≡ None → Fed a → Fed (arrived f a)
unfolding arrived
arrived-fed f a t e k = by (violation_of a f) refl (arrived-counted f a k.frames k.counted)
  where
    by : (o : Option ℕ) → violation_of a f ≡ o → Counted (arrived_by (violation_of a f) f a) → Fed (arrived_by o f a)
    by None p c = record { frames = rw p at (arrives f a k.frames p).sound; counted = rw p at c }
    by (Some code) p c = violated-fed code a t e k

aside-fed : (greeted : Bool) (rest : List ℕ) (a : Account) → Fed a → Fed (record a { greeted = greeted; rest = rest })
aside-fed greeted rest a k = record {
  frames = sound-aside greeted rest a.unreported a k.frames;
  counted = aside-counted greeted rest a k.counted;
}

aside-sound : (rest : List ℕ) (a : Account) → CallsSound a → CallsSound (record a { rest = rest })
aside-sound rest a t = record { left = t.left; holds = t.holds; lost = t.lost }

first-fed : (x : First) (rest : List ℕ) (a : Account) → CallsSound a → violation a.log ≡ None → Fed a → Fed (with_first x rest a)
first-fed Unfinished rest a t e k = aside-fed a.greeted rest a k
first-fed (Whole f n) rest a t e k = arrived-fed f (record a { rest = [] }) (aside-sound [] a t) e (aside-fed a.greeted [] a k)
first-fed (Faulty code) rest a t e k = violated-fed code a t e k

greeting-fed : (rest : List ℕ) (a : Account) → CallsSound a → violation a.log ≡ None → Fed a → Fed (with_greeting rest a)
greeting-fed rest a t e k = by (bytes_eq rest preface) (bytes_eq rest (take (length rest) preface))
  where
    by : (b c : Bool) → Fed
        (if b then record a { greeted = true; rest = [] } else if c then record a {
          rest = rest;
        } else violated protocol_error a)
    by true c = aside-fed true [] a k
    by false true = aside-fed a.greeted rest a k
    by false false = violated-fed protocol_error a t e k

byte-fed : (b : ℕ) (a : Account) → CallsSound a → Fed a → Fed (with_byte b a)
unfolding with_byte
byte-fed b a t k = by (violation a.log) refl a.greeted
  where
    by : (o : Option ℕ) → violation a.log ≡ o → (y : Bool) → Fed
        (if is_some o then a else if y then with_first (first (a.rest ++ b ∷ [])) (a.rest ++ b ∷ []) a else with_greeting
        (a.rest ++ b ∷ []) a)
    by (Some code) e y = k
    by None e true = first-fed (first (a.rest ++ b ∷ [])) (a.rest ++ b ∷ []) a t e k
    by None e false = greeting-fed (a.rest ++ b ∷ []) a t e k

-- what all calls need
pub record Steady (a : Account) : Type 0 where
  pub frames : FramesSound a
  pub sound : CallsSound a
  pub counted : Counted a

pub byte-steady : (b : ℕ) (a : Account) → Steady a → Steady (with_byte b a)
byte-steady b a k =
    let f : Fed (with_byte b a) = byte-fed b a k.sound (record { frames = k.frames; counted = k.counted }) in
    record { frames = f.frames; sound = byte-sound b a (zero-unopened a k.frames.valid) k.sound; counted = f.counted }

pub bytes-steady : (bytes : List ℕ) (a : Account) → Steady a → Steady (with_bytes bytes a)
bytes-steady [] a k = k
bytes-steady (b ∷ bytes) a k = bytes-steady bytes (with_byte b a) (byte-steady b a k)

-- each call
pub called-counted : (r : Role) (call : Call) (a : Account) → FramesSound a → CallsSound a → May r call a → Counted a
    → Counted (called call a)
unfolding called
called-counted r (Feed bytes) a s t m c =
    answered-counted (with_bytes bytes a) (bytes-steady bytes a (record { frames = s; sound = t; counted = c })).counted
called-counted r Open a s t m c = noted-counted (Opened (next_number a)) a c
called-counted r (Head id fields block last) a s t m c =
    unless-keeps Counted a (headed id (frame.Headers id block last true) a) c (headed-counted id id block last true a c)
called-counted r (Send id bytes) a s t m c =
    let b : Account = handed (frame.Data id bytes false (length bytes)) a in
    empty-keeps Counted (is_empty bytes) a _ c (unless-keeps Counted a b c (data-counted id (length bytes) bytes a c))
called-counted r (Finish id) a s t m c =
    unless-keeps Counted a (handed (frame.Data id [] true 0) a) c (finish-counted id a s.valid m c)
called-counted r (Reset id code) a s t m c =
    unless-keeps Counted a (handed (frame.Reset id code) a) c (reset-counted id code a s.valid m c)
called-counted r (Take n) a s t m c = take-counted n a c
