-- What is kept, in bytes.
use Rattle.std.proofs.Common.{◌≡◌, ℕ, ◌+◌, min, Bool, true, false, length, Option, Some, None, refl, sym, ◌∙◌, ap, if◌then◌else◌, is_some, arith}
use Rattle.hpack_core.specs.Tables.{kept}
use Rattle.h2_model.specs.Account.{Account}
use Rattle.h2_model.specs.Calls.{control}
use Rattle.h2_model.specs.History.{is_violated}
use Rattle.h2_model.specs.Log.{violation}
use Rattle.h2_sender.specs.Sending.{control_of}
use Rattle.h2_laws_kept.specs.Kept.{Kept}
use Rattle.h2_laws_kept.specs.StandsFor.{Holds, ReadsInput}
use Rattle.h2_laws_kept.proofs.Answers.{control-is}
use Rattle.h2_session.specs.Bytes.{begun_bytes, input_bytes, kept_bytes}
use Rattle.h2_session.proofs.Judged.{seen-block}
use Rattle.h2_session.proofs.Seen.{seen-table}

pub none-there : {A : Type 0} (o : Option A) → is_some o ≡ false → o ≡ None
none-there None e = refl
none-there (Some x) e = absurd cc

-- the reader has the frame that was begun, and none of the preface
rest-is : (k : Kept) (a : Account) → ReadsInput k a → length k.reader ≡ (if a.greeted then length a.rest else 0)
rest-is k a r = by a.greeted refl
  where
    by : (g : Bool) → a.greeted ≡ g → length k.reader ≡ (if g then length a.rest else 0)
    by true e = ap length (r.frame e)
    by false e = ap length (r.begun e)

pub input-is : (k : Kept) (a : Account) → Holds k a → violation a.log ≡ None
    → length k.reader + begun_bytes k.state.block + kept k.state.table.entries ≡ input_bytes a
input-is k a h n = λ i. rest-is k a (h.reads n) i + begun_bytes (seen-block k.state a h.state i) + kept ((h.table n ∙ seen-table a) i).entries

-- sums of what is counted up to a limit
limited : (x y m : ℕ) → min (min x m + min y m) m ≡ min (x + y) m
limited x y m = omega arith

pub kept-after : (k : Kept) (a : Account) (x m : ℕ) → Holds k a → is_violated a ≡ true → x ≡ min (control_of k.state.waiting k.state.held) m
    → x ≡ min (kept_bytes a) m
unfolding kept_bytes
kept-after k a x m h v e = e ∙ ap (λ n. min n m) (sym (control-is k a h) ∙ none (control a)) ∙ ap (λ b. min (control a + (if b then 0 else input_bytes a)) m) (sym v)
  where
    none : (n : ℕ) → n ≡ n + 0
    none n = omega arith

pub kept-before : (k : Kept) (a : Account) (x y m : ℕ) → Holds k a → violation a.log ≡ None → x ≡ min (control_of k.state.waiting k.state.held) m
    → y ≡ min (length k.reader + begun_bytes k.state.block + kept k.state.table.entries) m → min (x + y) m ≡ min (kept_bytes a) m
unfolding kept_bytes
kept-before k a x y m h n e f =
    (λ i. min (e i + f i) m)
    ∙ limited (control_of k.state.waiting k.state.held) (length k.reader + begun_bytes k.state.block + kept k.state.table.entries) m
    ∙ (λ i. min (sym (control-is k a h) i + input-is k a h n i) m)
    ∙ ap (λ v. min (control a + (if is_some v then 0 else input_bytes a)) m) (sym n)
