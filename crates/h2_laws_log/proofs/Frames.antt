-- What the bytes of one frame do: it waits, or is whole, or is faulty.
use Rattle.std.proofs.Common.{◌≡◌, ℕ, suc, ◌+◌, ◌<◌, ◌≤◌, Bool, true, false, ◌||◌, List, [], ◌∷◌, ◌++◌, length, take, drop, refl, sym, ◌∙◌, ap, subst, arith, append_assoc, append-nil, length-append, length-take-le, take-append-drop}
use Rattle.h2_frames.specs.declared.frame.Frame.{Frame}
use Rattle.h2_frames.specs.Frames.{First, first, Unfinished, Whole, Faulty}
use Rattle.h2_frames.proofs.First.{first_stays, cut_at}
use Rattle.h2_frames.proofs.Cuts.{first_own}
use Rattle.h2_model.specs.Account.{Account}
use Rattle.h2_model.specs.History.{arrived, violated, with_first, with_byte, with_bytes}
use Rattle.h2_model.specs.Calls.{is_stopped, used}
use Rattle.h2_model.proofs.Flows.{in-pieces}
use Rattle.h2_laws_log.specs.Feeding.{ReadsFrames, FailsWithin}
use Rattle.h2_laws_log.proofs.Fronts.{unfinished-front, front-of-frame}
use Rattle.h2_laws_log.proofs.Uses.{uses-nothing, uses-none, uses-one, uses-both}

pub frames-go-on : (a : Account) → ReadsFrames a → is_stopped a ≡ false
frames-go-on a r = rw (r.quiet, r.sound) refl

or-true : (x : Bool) → (x || true) ≡ true
or-true true = refl
or-true false = refl

pub violated-stops : (code : ℕ) (a : Account) → is_stopped (violated code a) ≡ true
violated-stops code a = or-true _

byte-read : (b : ℕ) (a : Account) → ReadsFrames a → with_byte b a ≡ with_first (first (a.rest ++ b ∷ [])) (a.rest ++ b ∷ []) a
unfolding with_byte
byte-read b a r = rw (r.sound, r.greeted) refl

byte-told : (b : ℕ) (x : First) (a : Account) → ReadsFrames a → first (a.rest ++ b ∷ []) ≡ x → with_byte b a ≡ with_first x (a.rest ++ b ∷ []) a
byte-told b x a r e = byte-read b a r ∙ ap (λ (y : First). with_first y (a.rest ++ b ∷ []) a) e

still-reads : (rest : List ℕ) (a : Account) → ReadsFrames a → ReadsFrames (record a { rest = rest })
still-reads rest a r = record { greeted = r.greeted; sound = r.sound; quiet = r.quiet }

-- all bytes of an unfinished frame are used and kept
record Waits (bytes : List ℕ) (a : Account) : Type 0 where
  after : with_bytes bytes a ≡ record a { rest = a.rest ++ bytes }
  uses : used bytes a ≡ length bytes

waits : (bytes : List ℕ) (a : Account) → ReadsFrames a → first (a.rest ++ bytes) ≡ Unfinished → Waits bytes a
waits [] a r u = record {
  after = ap {B = Account} (λ (rest : List ℕ). record a { rest = rest }) (sym (append-nil a.rest));
  uses = uses-nothing a;
}
waits (b ∷ bytes) a r u =
    let c : Account = record a { rest = a.rest ++ b ∷ [] } in
    let joined : c.rest ++ bytes ≡ a.rest ++ b ∷ bytes = append_assoc a.rest (b ∷ []) bytes in
    let step : with_byte b a ≡ c = byte-told b Unfinished a r (unfinished-front c.rest bytes (ap first joined ∙ u)) in
    let later : Waits bytes c = waits bytes c (still-reads c.rest a r) (ap first joined ∙ u) in
    let one : used (b ∷ bytes) a ≡ 1 + used bytes c = uses-one b bytes a (frames-go-on a r) ∙ ap (λ x. 1 + used bytes x) step in
    record {
      after = ap (with_bytes bytes) step ∙ later.after ∙ ap {B = Account} (λ (rest : List ℕ). record a { rest = rest }) joined;
      uses = omega (arith, one, later.uses);
    }

pub part-waits : (bytes : List ℕ) (a : Account) → ReadsFrames a → first (a.rest ++ bytes) ≡ Unfinished
    → with_bytes bytes a ≡ record a { rest = a.rest ++ bytes }
part-waits bytes a r u = (waits bytes a r u).after

pub part-used : (bytes : List ℕ) (a : Account) → ReadsFrames a → first (a.rest ++ bytes) ≡ Unfinished → used bytes a ≡ length bytes
part-used bytes a r u = (waits bytes a r u).uses

-- these bytes end a frame
record Comes (f : Frame) (bytes : List ℕ) (a : Account) : Type 0 where
  after : with_bytes bytes a ≡ arrived f (record a { rest = [] })
  uses : used bytes a ≡ length bytes

comes-last : (ys : List ℕ) (b : ℕ) (f : Frame) (a : Account) → ReadsFrames a
    → first (a.rest ++ (ys ++ b ∷ [])) ≡ Whole f (length a.rest + length (ys ++ b ∷ [])) → Comes f (ys ++ b ∷ []) a
comes-last ys b f a r e =
    let c : Account = record a { rest = a.rest ++ ys } in
    let joined : c.rest ++ b ∷ [] ≡ a.rest ++ (ys ++ b ∷ []) = append_assoc a.rest ys (b ∷ []) in
    let one : length (ys ++ b ∷ []) ≡ length ys + 1 = length-append ys (b ∷ []) in
    let longer : length c.rest < length a.rest + length (ys ++ b ∷ []) = omega (arith, one, length-append a.rest ys) in
    let before : Waits ys a = waits ys a r (front-of-frame c.rest (b ∷ []) f _ (ap first joined ∙ e) longer) in
    let step : with_byte b c ≡ arrived f (record a { rest = [] }) = byte-told b (Whole f _) c (still-reads c.rest a r) (ap first joined ∙ e) in
    let last : used (b ∷ []) c ≡ 1 + used [] (with_byte b c) = uses-one b [] c (frames-go-on c (still-reads c.rest a r)) in
    record {
      after = in-pieces ys (b ∷ []) a ∙ ap (with_byte b) before.after ∙ step;
      uses =
          uses-both ys (b ∷ []) a before.uses ∙ ap (λ x. length ys + used (b ∷ []) x) before.after
          ∙ omega (arith, last, uses-nothing (with_byte b c), one);
    }

record Last (xs : List ℕ) : Type 0 where
  front : List ℕ
  byte : ℕ
  is : xs ≡ front ++ byte ∷ []

last-byte : (x : ℕ) (xs : List ℕ) → Last (x ∷ xs)
last-byte x [] = record { front = []; byte = x; is = refl }
last-byte x (y ∷ xs) =
    let l : Last (y ∷ xs) = last-byte y xs in record { front = x ∷ l.front; byte = l.byte; is = ap (λ ys. x ∷ ys) l.is }

comes : (bytes : List ℕ) (f : Frame) (a : Account) → ReadsFrames a → 0 < length bytes
    → first (a.rest ++ bytes) ≡ Whole f (length a.rest + length bytes) → Comes f bytes a
comes [] f a r l e = absurd (omega arith)
comes (x ∷ xs) f a r l e =
    let cut : Last (x ∷ xs) = last-byte x xs in
    subst (λ bytes. first (a.rest ++ bytes) ≡ Whole f (length a.rest + length bytes) → Comes f bytes a) (sym cut.is)
    (comes-last cut.front cut.byte f a r) e

front-comes : (n : ℕ) (f : Frame) (bytes : List ℕ) (a : Account) → ReadsFrames a
    → first (a.rest ++ bytes) ≡ Whole f (length a.rest + n) → 0 < n → n ≤ length bytes → Comes f (take n bytes) a
front-comes n f bytes a r e p l =
    let count : length (take n bytes) ≡ n = length-take-le n bytes l in
    let all : length (a.rest ++ take n bytes) ≡ length a.rest + n = length-append a.rest (take n bytes) ∙ ap (λ k. length a.rest + k) count in
    let own : first (a.rest ++ take n bytes) ≡ Whole f (length a.rest + n) =
    first_own (a.rest ++ take n bytes) (drop n bytes) f (length a.rest + n) (ap first (sym (cut_at a.rest bytes n)) ∙ e) (omega arith) in
    comes (take n bytes) f a r (omega arith) (own ∙ ap (λ k. Whole f (length a.rest + k)) (sym count))

pub frame-comes : (n : ℕ) (f : Frame) (bytes : List ℕ) (a : Account) → ReadsFrames a
    → first (a.rest ++ bytes) ≡ Whole f (length a.rest + n) → 0 < n → n ≤ length bytes
    → with_bytes (take n bytes) a ≡ arrived f (record a { rest = [] })
frame-comes n f bytes a r e p l = (front-comes n f bytes a r e p l).after

pub frame-front : (n : ℕ) (f : Frame) (bytes : List ℕ) (a : Account) → ReadsFrames a
    → first (a.rest ++ bytes) ≡ Whole f (length a.rest + n) → 0 < n → n ≤ length bytes → used (take n bytes) a ≡ n
frame-front n f bytes a r e p l = (front-comes n f bytes a r e p l).uses ∙ length-take-le n bytes l

pub frame-used : (n : ℕ) (f : Frame) (bytes : List ℕ) (a : Account) → ReadsFrames a
    → first (a.rest ++ bytes) ≡ Whole f (length a.rest + n) → 0 < n → n ≤ length bytes
    → used bytes a ≡ n + used (drop n bytes) (arrived f (record a { rest = [] }))
frame-used n f bytes a r e p l =
    let h : Comes f (take n bytes) a = front-comes n f bytes a r e p l in
    ap (λ xs. used xs a) (sym (take-append-drop n bytes)) ∙ uses-both (take n bytes) (drop n bytes) a h.uses
    ∙ ap (λ k. k + used (drop n bytes) (with_bytes (take n bytes) a)) (length-take-le n bytes l)
    ∙ ap (λ x. n + used (drop n bytes) x) h.after

-- a fault stands at one of the bytes
pub frame-fails : (bytes : List ℕ) (code : ℕ) (a : Account) → ReadsFrames a → first a.rest ≡ Unfinished
    → first (a.rest ++ bytes) ≡ Faulty code → FailsWithin code bytes a
frame-fails [] code a r u e = let same : first (a.rest ++ []) ≡ first a.rest = ap first (append-nil a.rest) in absurd cc
frame-fails (b ∷ bytes) code a r u e =
    by (first (a.rest ++ b ∷ [])) refl
    (λ v. frame-fails bytes code (record a { rest = a.rest ++ b ∷ [] }) (still-reads (a.rest ++ b ∷ []) a r) v (ap first joined ∙ e))
  where
    joined : (a.rest ++ b ∷ []) ++ bytes ≡ a.rest ++ b ∷ bytes
    joined = append_assoc a.rest (b ∷ []) bytes

    waited : first (a.rest ++ b ∷ []) ≡ Unfinished → FailsWithin code bytes (record a { rest = a.rest ++ b ∷ [] }) → FailsWithin code (b ∷ bytes) a
    waited v l =
        let step : with_byte b a ≡ record a { rest = a.rest ++ b ∷ [] } = byte-told b Unfinished a r v in
        let all : used (b ∷ bytes) a ≡ 1 + used bytes (with_byte b a) = uses-one b bytes a (frames-go-on a r) in
        let some : used (b ∷ take l.count bytes) a ≡ 1 + used (take l.count bytes) (with_byte b a) = uses-one b (take l.count bytes) a (frames-go-on a r) in
        record {
          count = suc l.count;
          some = omega arith;
          within = omega (arith, l.within);
          uses = omega (arith, all, ap (used bytes) step, l.uses);
          front = omega (arith, some, ap (used (take l.count bytes)) step, l.front);
          rest = l.rest;
          after = ap (with_bytes (take l.count bytes)) step ∙ l.after;
        }

    by : (x : First) → first (a.rest ++ b ∷ []) ≡ x → (first (a.rest ++ b ∷ []) ≡ Unfinished → FailsWithin code bytes (record a { rest = a.rest ++ b ∷ [] })) → FailsWithin code (b ∷ bytes) a
    by Unfinished v h = waited v (h v)
    by (Whole f n) v h =
        let same : first ((a.rest ++ b ∷ []) ++ bytes) ≡ first (a.rest ++ b ∷ []) = first_stays (a.rest ++ b ∷ []) bytes (λ w. absurd cc) in
        let told : first ((a.rest ++ b ∷ []) ++ bytes) ≡ Faulty code = ap first joined ∙ e in
        absurd cc
    by (Faulty other) v h =
        let same : first ((a.rest ++ b ∷ []) ++ bytes) ≡ first (a.rest ++ b ∷ []) = first_stays (a.rest ++ b ∷ []) bytes (λ w. absurd cc) in
        let told : first (a.rest ++ b ∷ []) ≡ Faulty code = sym same ∙ ap first joined ∙ e in
        let step : with_byte b a ≡ violated code a = byte-told b (Faulty code) a r told in
        let stop : (xs : List ℕ) → used xs (with_byte b a) ≡ 0 = λ xs. ap (used xs) step ∙ uses-none xs (violated code a) (violated-stops code a) in
        record {
          count = 1;
          some = omega arith;
          within = omega arith;
          uses = uses-one b bytes a (frames-go-on a r) ∙ ap (λ n. 1 + n) (stop bytes);
          front = uses-one b [] a (frames-go-on a r) ∙ ap (λ n. 1 + n) (stop []);
          rest = a.rest;
          after = step;
        }
