-- The first violation stays.
use Rattle.std.proofs.Common.{◌≡◌, ℕ, Bool, true, false, List, [], ◌∷◌, refl, ◌∙◌, ap, Some, is_some, length, if◌then◌else◌}
use Rattle.h2_frames.specs.declared.frame.Frame.{Frame}
use Rattle.h2_frames.specs.declared.frame.Frame.TheVariants as frame
use Rattle.h2_model.specs.Log.{Log, Given, violation, is_empty}
use Rattle.h2_model.specs.Queue.{whole_within}
use Rattle.h2_model.specs.Account.{Account}
use Rattle.h2_model.specs.History.{Call, Feed, Open, Head, Send, Finish, Reset, Take, noted, handed, headed, given, with_byte, with_bytes, called, is_violated, unless_violated}

byte-stays : (b : ℕ) (a : Account) → is_violated a ≡ true → with_byte b a ≡ a
unfolding with_byte
byte-stays b a v = rw v refl

bytes-stay : (bytes : List ℕ) (a : Account) → is_violated a ≡ true → with_bytes bytes a ≡ a
bytes-stay [] a v = refl
bytes-stay (b ∷ bytes) a v = ap (with_bytes bytes) (byte-stays b a v) ∙ bytes-stay bytes a v

unless-stays : (a b : Account) (code : ℕ) → violation a.log ≡ Some code → violation (unless_violated a b).log ≡ Some code
unless-stays a b code e = rw e e

given-stays : (frames : List Frame) (log : Log) → violation (given frames log) ≡ violation log
given-stays [] log = refl
given-stays (f ∷ frames) log = given-stays frames (Given f ∷ log)

pub first-stays : (call : Call) (a : Account) (code : ℕ) → violation a.log ≡ Some code → violation (called call a).log ≡ Some code
unfolding called noted
first-stays (Feed bytes) a code e = ap (λ x. violation x.log) (bytes-stay bytes a (ap is_some e)) ∙ e
first-stays Open a code e = e
first-stays (Head id fields block last) a code e = unless-stays a (headed id (frame.Headers id block last true) a) code e
first-stays (Send id bytes) a code e = by (is_empty bytes)
  where
    by : (x : Bool) → violation (if x then a else unless_violated a (handed (frame.Data id bytes false (length bytes)) a)).log ≡ Some code
    by true = e
    by false = unless-stays a (handed (frame.Data id bytes false (length bytes)) a) code e
first-stays (Finish id) a code e = unless-stays a (handed (frame.Data id [] true 0) a) code e
first-stays (Reset id code') a code e = unless-stays a (handed (frame.Reset id code') a) code e
first-stays (Take n) a code e = given-stays (whole_within n a.waiting) a.log ∙ e
