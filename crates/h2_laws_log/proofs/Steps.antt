-- Bytes in several steps: what is read so far, one more frame or byte, and how it ends.
use Rattle.std.proofs.Common.{◌≡◌, ◌≢◌, ℕ, ◌+◌, ◌<◌, ◌≤◌, true, false, List, [], ◌∷◌, ◌++◌, length, take, drop, slice_index, Some, None, refl, sym, ◌∙◌, ap, subst, arith, length-drop, length-take-le, take-append-drop, take-add}
use Rattle.std.proofs.lemmas.List.{drop_all, drop_more, take_all}
use Rattle.h2_frames.specs.declared.frame.Frame.{Frame}
use Rattle.h2_frames.specs.Frames.{first, Unfinished, Whole, Faulty}
use Rattle.h2_model.specs.declared.answers.Fed.{Fed}
use Rattle.h2_model.specs.declared.answers.SessionFault.TheVariants.{Code}
use Rattle.h2_model.specs.Log.{violation}
use Rattle.h2_model.specs.Account.{Account}
use Rattle.h2_model.specs.History.{Feed, preface, arrived, violated, with_byte, with_bytes, answered, called}
use Rattle.h2_model.specs.Calls.{IsFed, IsFault, event_or_nothing, is_stopped, used, used_bytes}
use Rattle.h2_model.proofs.Flows.{in-pieces}
use Rattle.h2_laws_log.specs.Feeding.{ReadsFrames, ReadsPreface, FailsWithin, HasRead, EndsAt, EndsAtFault}
use Rattle.h2_laws_log.proofs.Uses.{uses-nothing, uses-none, uses-one, uses-both}
use Rattle.h2_laws_log.proofs.Frames.{violated-stops, part-waits, part-used, frame-comes, frame-front, frame-fails}
use Rattle.h2_laws_log.proofs.Preface.{preface-goes-on, part-comes, preface-ends, other-comes}

pub starts : (bytes : List ℕ) (a : Account) → HasRead a bytes 0 a
starts bytes a = record { within = omega arith; uses = uses-nothing a; after = refl }

module _ (a : Account) (bytes : List ℕ) (n : ℕ) (b : Account) (h : HasRead a bytes n b) where
  left-count : n + length (drop n bytes) ≡ length bytes
  left-count = omega (arith, h.within, length-drop n bytes)

  taken-count : length (take n bytes) ≡ n
  taken-count = length-take-le n bytes h.within

  -- m more bytes lead from b to d
  goes-on : (m : ℕ) (d : Account) → m ≤ length (drop n bytes) → used (take m (drop n bytes)) b ≡ m
      → with_bytes (take m (drop n bytes)) b ≡ d → HasRead a bytes (n + m) d
  goes-on m d l u e =
      let parts : take (n + m) bytes ≡ take n bytes ++ take m (drop n bytes) = take-add n m bytes in
      record {
        within = omega (arith, left-count, l);
        uses =
            ap (λ xs. used xs a) parts
            ∙ uses-both (take n bytes) (take m (drop n bytes)) a (h.uses ∙ sym taken-count)
            ∙ ap (λ x. length (take n bytes) + used (take m (drop n bytes)) x) h.after
            ∙ omega (arith, taken-count, u);
        after =
            ap (λ xs. with_bytes xs a) parts ∙ in-pieces (take n bytes) (take m (drop n bytes)) a
            ∙ ap (with_bytes (take m (drop n bytes))) h.after ∙ e;
      }

  uses-further : used bytes a ≡ n + used (drop n bytes) b
  uses-further =
      ap (λ xs. used xs a) (sym (take-append-drop n bytes))
      ∙ uses-both (take n bytes) (drop n bytes) a (h.uses ∙ sym taken-count)
      ∙ ap (λ x. length (take n bytes) + used (drop n bytes) x) h.after
      ∙ ap (λ k. k + used (drop n bytes) b) taken-count

  ends : used (drop n bytes) b ≡ 0 → EndsAt a bytes n b
  ends none =
      let count : used bytes a ≡ n = omega (arith, uses-further, none) in
      let front : used_bytes bytes a ≡ take n bytes = ap (λ k. take k bytes) count in
      record { uses = count; front = front; after = ap (λ xs. with_bytes xs a) front ∙ h.after }

  -- What is left leads on

  pub reads-frame : (m : ℕ) (f : Frame) → ReadsFrames b → first (b.rest ++ drop n bytes) ≡ Whole f (length b.rest + m)
      → 0 < m → m ≤ length (drop n bytes) → HasRead a bytes (n + m) (arrived f (record b { rest = [] }))
  reads-frame m f r e p l =
      goes-on m (arrived f (record b { rest = [] })) l (frame-front m f (drop n bytes) b r e p l) (frame-comes m f (drop n bytes) b r e p l)

  pub reads-byte : n < length bytes → is_stopped b ≡ false → HasRead a bytes (n + 1) (with_byte (slice_index bytes n) b)
  reads-byte l s =
      let x : ℕ = slice_index bytes n in
      let one : take 1 (drop n bytes) ≡ x ∷ [] = ap (take 1) (drop_more bytes n 0 l) in
      goes-on 1 (with_byte x b) (omega (arith, l, left-count))
      (ap (λ xs. used xs b) one ∙ uses-one x [] b s ∙ ap (λ k. 1 + k) (uses-nothing (with_byte x b)))
      (ap (λ xs. with_bytes xs b) one)

  pub reads-preface : (k : ℕ) → ReadsPreface k b → n < length bytes → slice_index bytes n ≡ slice_index preface k → k + 1 < 24
      → HasRead a bytes (n + 1) (record b { rest = take (k + 1) preface })
  reads-preface k r l e s =
      subst (HasRead a bytes (n + 1)) (part-comes k (slice_index bytes n) b r e s) (reads-byte l (preface-goes-on k b r))

  pub ends-preface : (k : ℕ) → ReadsPreface k b → n < length bytes → slice_index bytes n ≡ slice_index preface k → k + 1 ≡ 24
      → HasRead a bytes (n + 1) (record b { greeted = true; rest = [] })
  ends-preface k r l e s =
      subst (HasRead a bytes (n + 1)) (preface-ends k (slice_index bytes n) b r e s) (reads-byte l (preface-goes-on k b r))

  -- How it ends

  pub ends-stopped : is_stopped b ≡ true → EndsAt a bytes n b
  ends-stopped s = ends (uses-none (drop n bytes) b s)

  pub ends-all : n ≡ length bytes → EndsAt a bytes n b
  ends-all e = ends (ap (λ xs. used xs b) (drop_all n bytes (omega (arith, e))) ∙ uses-nothing b)

pub ends-more : (a : Account) (bytes : List ℕ) (n : ℕ) (b : Account) → HasRead a bytes n b → ReadsFrames b
    → first (b.rest ++ drop n bytes) ≡ Unfinished → EndsAt a bytes (length bytes) (record b { rest = b.rest ++ drop n bytes })
ends-more a bytes n b h r u =
    let c : Account = record b { rest = b.rest ++ drop n bytes } in
    let left : List ℕ = drop n bytes in
    let all : take (length left) left ≡ left = take_all (length left) left (omega arith) in
    let read : HasRead a bytes (n + length left) c =
    goes-on a bytes n b h (length left) c (omega arith) (ap (λ xs. used xs b) all ∙ part-used left b r u) (ap (λ xs. with_bytes xs b) all ∙ part-waits left b r u) in
    let count : n + length left ≡ length bytes = left-count a bytes n b h in
    subst (λ k. EndsAt a bytes k c) count (ends-all a bytes (n + length left) c read count)

pub ends-at-other : (a : Account) (bytes : List ℕ) (n : ℕ) (b : Account) → HasRead a bytes n b → (k : ℕ) → ReadsPreface k b
    → n < length bytes → slice_index bytes n ≢ slice_index preface k → EndsAt a bytes (n + 1) (violated 1 b)
ends-at-other a bytes n b h k r l e =
    ends-stopped a bytes (n + 1) (violated 1 b)
    (subst (HasRead a bytes (n + 1)) (other-comes k (slice_index bytes n) b r e) (reads-byte a bytes n b h l (preface-goes-on k b r)))
    (violated-stops 1 b)

pub ends-fault : (a : Account) (bytes : List ℕ) (n : ℕ) (b : Account) → HasRead a bytes n b → (code : ℕ) → ReadsFrames b
    → first b.rest ≡ Unfinished → first (b.rest ++ drop n bytes) ≡ Faulty code → EndsAtFault a bytes code b
ends-fault a bytes n b h code r u e =
    let f : FailsWithin code (drop n bytes) b = frame-fails (drop n bytes) code b r u e in
    let d : Account = violated code (record b { rest = f.rest }) in
    record {
      count = n + f.count;
      rest = f.rest;
      ends = ends-stopped a bytes (n + f.count) d (goes-on a bytes n b h f.count d f.within f.front f.after)
          (violated-stops code (record b { rest = f.rest }));
    }

-- What is answered

module _ (a : Account) (bytes : List ℕ) (n : ℕ) (b : Account) (h : EndsAt a bytes n b) where
  pub answers : (f : Fed) → f.used ≡ n → f.event ≡ event_or_nothing b.unreported → violation b.log ≡ None → IsFed a bytes f
  answers f u e s = record {
    used = u ∙ sym h.uses;
    event = e ∙ ap (λ x. event_or_nothing x.unreported) (sym h.after);
    sound = ap (λ x. violation x.log) h.after ∙ s;
  }

  pub refuses : (code : ℕ) → violation b.log ≡ Some code → IsFault a bytes (Code code)
  refuses code s = ap (λ x. violation x.log) h.after ∙ s

  pub leaves : called (Feed (used_bytes bytes a)) a ≡ answered b
  unfolding called
  leaves = ap answered h.after

pub fault-refuses : (a : Account) (bytes : List ℕ) (code : ℕ) (b : Account) → EndsAtFault a bytes code b → IsFault a bytes (Code code)
fault-refuses a bytes code b h = refuses a bytes h.count (violated code (record b { rest = h.rest })) h.ends code refl
