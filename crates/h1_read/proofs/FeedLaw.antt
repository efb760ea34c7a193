-- A feed, part by part.
use Rattle.std.proofs.Common.{sym, ◌∙◌, ap, subst, refl, arith, append_assoc, length-append, length-drop, length-take, drop-drop}
use Rattle.std.specs.Prelude.{ℕ, ◌≡◌, ◌+◌, ◌<◌, ◌≤◌, Bool, List, [], ◌∷◌, ◌++◌, length, take, drop, Err}
use Rattle.std.proofs.lemmas.List.{take-append-drop, drop-append-le}
use Rattle.http_model.specs.Reading.{Whole, Stays}
use Rattle.http_model.specs.Heads.{message_head, head_so_far}
use Rattle.http_model.specs.declared.types.Direction.{Direction}
use Rattle.http_model.proofs.HeadsStable.{message_head-stays}
use Rattle.h1_read.specs.declared.fault.H1Fault.{H1Fault}
use Rattle.h1_read.specs.declared.fault.H1Fault.TheVariants.{BadHead, LongHead, BadLength, BadChunk, Version, Method, CutShort, Memory}
use Rattle.h1_read.specs.declared.message.Message.{Message}
use Rattle.h1_read.specs.declared.place.Place.{Place}
use Rattle.h1_read.specs.declared.place.Place.TheVariants.{Before}
use Rattle.h1_read.specs.Messages.{head_of}
use Rattle.h1_read.specs.Places.{places, is_quiet, IsQuiet, IsStop}
use Rattle.h1_read.specs.Steps.{IsOpen}
use Rattle.h1_read.specs.HeadReading.{HeadState, IsFedHead, IsFedFault, IsFedOn, IsFed, IsKeptOn, IsHeadFed}
use Rattle.h1_read.proofs.StateLaw.{heads_go_on, left_goes_on}
use Rattle.h1_read.proofs.PlaceHeads.{places-append, open_goes_on, open_still}
use Rattle.h1_read.proofs.TurnLaw.{open_small}

abbrev pub state : Direction → Bool → List ℕ → HeadState
state d to_head bytes = record { direction = d; to_head = to_head; so_far = bytes }

-- up to a byte all is taken; what is kept then stands for what was kept and these bytes
pub record Along (d : Direction) (to_head : Bool) (old bytes kept : List ℕ) (place : Place) (at : ℕ) : Type 0 where
  pub in_range : at ≤ length bytes
  pub still : IsOpen d kept
  pub small : length kept < 32768
  pub here : place ≡ places Before kept
  pub message : message_head d to_head (old ++ bytes) ≡ message_head d to_head (kept ++ drop at bytes)
  pub left : head_so_far d (old ++ bytes) ≡ head_so_far d (kept ++ drop at bytes)

none_off : (bytes : List ℕ) → bytes ≡ drop 0 bytes
none_off [] = refl
none_off (b ∷ bytes) = refl

pub along_starts : (d : Direction) (to_head : Bool) (old bytes : List ℕ) (place : Place) → IsOpen d old → place ≡ places Before old
    → Along d to_head old bytes old place 0
along_starts d to_head old bytes place o e = record {
  in_range = omega arith;
  still = o;
  small = open_small d old o;
  here = e;
  message = ap (λ l. message_head d to_head (old ++ l)) (none_off bytes);
  left = ap (λ l. head_so_far d (old ++ l)) (none_off bytes);
}

pub quiet_ends : (d : Direction) (to_head : Bool) (old bytes all : List ℕ) (place now : Place) → IsOpen d old → place ≡ places Before old
    → IsQuiet place bytes now → length old + length bytes < 32768 → all ≡ old ++ bytes → IsKeptOn (state d to_head old) bytes all now
quiet_ends d to_head old bytes all place now o e q h f =
    let more : IsOpen d (old ++ bytes) = open_goes_on d old bytes o (omega (arith, h, length-append old bytes)) (ap (λ p. is_quiet p bytes) (sym e) ∙ q.quiet) in
    let s = open_still d to_head (old ++ bytes) more in
    record {
      on = record { head = s.message; state = ap (λ l. state d to_head l) (f ∙ sym s.left) };
      still = subst (IsOpen d) (sym f) more;
      there = q.ends ∙ ap (λ p. places p bytes) e ∙ sym (places-append Before old bytes) ∙ ap (places Before) (sym f);
    }

-- the bytes of a part, and the others
parted : (kept rest : List ℕ) (n : ℕ) → kept ++ rest ≡ (kept ++ take n rest) ++ drop n rest
parted kept rest n = sym (append_assoc kept (take n rest) (drop n rest) ∙ ap (λ l. kept ++ l) (take-append-drop n rest))

part_goes_on : (d : Direction) (to_head : Bool) (old bytes kept next : List ℕ) (place now : Place) (at n : ℕ) → Along d to_head old bytes kept place at
    → IsStop (drop at bytes) n → IsFedOn (state d to_head kept) (take n (drop at bytes)) (state d to_head next) → IsOpen d next → now ≡ places Before next
    → Along d to_head old bytes next now (at + n)
part_goes_on d to_head old bytes kept next place now at n w s f o e =
    let rest = drop at bytes in
    let part = take n rest in
    let same : next ≡ head_so_far d (kept ++ part) = ap (λ (h : HeadState). h.so_far) f.state in
    let others : drop n rest ≡ drop (at + n) bytes = drop-drop n at bytes in
    record {
      in_range = omega (arith, w.in_range, s.in_range, length-drop at bytes);
      still = o;
      small = open_small d next o;
      here = e;
      message = w.message ∙ ap (message_head d to_head) (parted kept rest n) ∙ heads_go_on d to_head (kept ++ part) (drop n rest)
          ∙ ap (λ l. message_head d to_head (l ++ drop n rest)) (sym same) ∙ ap (λ l. message_head d to_head (next ++ l)) others;
      left = w.left ∙ ap (head_so_far d) (parted kept rest n) ∙ left_goes_on d (kept ++ part) (drop n rest)
          ∙ ap (λ l. head_so_far d (l ++ drop n rest)) (sym same) ∙ ap (λ l. head_so_far d (next ++ l)) others;
    }

rest_ends : (d : Direction) (to_head : Bool) (old bytes kept all : List ℕ) (place now : Place) (at : ℕ) → Along d to_head old bytes kept place at
    → IsQuiet place (drop at bytes) now → length kept + length (drop at bytes) < 32768 → all ≡ kept ++ drop at bytes
    → IsKeptOn (state d to_head old) bytes all now
rest_ends d to_head old bytes kept all place now at w q h e =
    let last : IsKeptOn (state d to_head kept) (drop at bytes) all now = quiet_ends d to_head kept (drop at bytes) all place now w.still w.here q h e in
    record {
      on = record { head = w.message ∙ last.on.head; state = last.on.state ∙ ap (λ l. state d to_head l) (sym w.left) };
      still = last.still;
      there = last.there;
    }

part_got : (d : Direction) (to_head : Bool) (old bytes kept : List ℕ) (place : Place) (at n used : ℕ) (m : Message) → Along d to_head old bytes kept place at
    → IsStop (drop at bytes) n → IsFedHead (state d to_head kept) (take n (drop at bytes)) m used → IsFedHead (state d to_head old) bytes m (at + used)
part_got d to_head old bytes kept place at n used m w s f =
    let rest = drop at bytes in
    let part = take n rest in
    record {
      in_range = omega (arith, w.in_range, s.in_range, f.in_range, length-drop at bytes, length-take n rest);
      head = w.message ∙ ap (message_head d to_head) (parted kept rest n)
          ∙ subst (λ r. Stays r (drop n rest) (message_head d to_head ((kept ++ part) ++ drop n rest))) f.head (message_head-stays d to_head (kept ++ part) (drop n rest))
          ∙ ap (Whole (head_of m))
          (sym (drop-append-le used part (drop n rest) f.in_range) ∙ ap (drop used) (take-append-drop n rest) ∙ drop-drop used at bytes);
    }

bad_along : (d : Direction) (to_head : Bool) (old bytes kept : List ℕ) (place : Place) (at n : ℕ) (e : H1Fault) → Along d to_head old bytes kept place at
    → IsFedFault (state d to_head kept) (take n (drop at bytes)) e → IsFedFault (state d to_head old) bytes e
bad_along d to_head old bytes kept place at n e w f =
    let rest = drop at bytes in
    let part = take n rest in
    record {
      fault = f.fault;
      is = f.is;
      head = w.message ∙ ap (message_head d to_head) (parted kept rest n)
          ∙ subst (λ r. Stays r (drop n rest) (message_head d to_head ((kept ++ part) ++ drop n rest))) f.head (message_head-stays d to_head (kept ++ part) (drop n rest));
    }

part_fails : (d : Direction) (to_head : Bool) (old bytes kept next : List ℕ) (place : Place) (at n : ℕ) (e : H1Fault) → Along d to_head old bytes kept place at
    → IsFed (state d to_head kept) (take n (drop at bytes)) (state d to_head next) (Err e) → IsHeadFed (state d to_head old) bytes (Err e)
part_fails d to_head old bytes kept next place at n Memory w f = tt
part_fails d to_head old bytes kept next place at n BadHead w f = bad_along d to_head old bytes kept place at n BadHead w f.0
part_fails d to_head old bytes kept next place at n LongHead w f = bad_along d to_head old bytes kept place at n LongHead w f.0
part_fails d to_head old bytes kept next place at n BadLength w f = bad_along d to_head old bytes kept place at n BadLength w f.0
part_fails d to_head old bytes kept next place at n BadChunk w f = bad_along d to_head old bytes kept place at n BadChunk w f.0
part_fails d to_head old bytes kept next place at n Version w f = bad_along d to_head old bytes kept place at n Version w f.0
part_fails d to_head old bytes kept next place at n Method w f = bad_along d to_head old bytes kept place at n Method w f.0
part_fails d to_head old bytes kept next place at n CutShort w f = bad_along d to_head old bytes kept place at n CutShort w f.0

-- The same of a part as the code has it

pub record IsCut (bytes : List ℕ) (at n : ℕ) (rest part : List ℕ) : Type 0 where
  pub behind : rest ≡ drop at bytes
  pub stop : IsStop rest n
  pub front : part ≡ take n rest

stop_in : (bytes : List ℕ) (at n : ℕ) (rest part : List ℕ) → IsCut bytes at n rest part → IsStop (drop at bytes) n
stop_in bytes at n rest part c = subst (λ r. IsStop r n) c.behind c.stop

part_in : (bytes : List ℕ) (at n : ℕ) (rest part : List ℕ) → IsCut bytes at n rest part → part ≡ take n (drop at bytes)
part_in bytes at n rest part c = c.front ∙ ap (take n) c.behind

pub along_ends : (d : Direction) (to_head : Bool) (old bytes kept all rest : List ℕ) (place now : Place) (at : ℕ) → Along d to_head old bytes kept place at
    → rest ≡ drop at bytes → IsQuiet place rest now → length kept + length rest < 32768 → all ≡ kept ++ rest → IsKeptOn (state d to_head old) bytes all now
along_ends d to_head old bytes kept all rest place now at w b q h e =
    rest_ends d to_head old bytes kept all place now at w (subst (λ r. IsQuiet place r now) b q) (omega (arith, h, ap length b)) (e ∙ ap (λ r. kept ++ r) b)

pub along_goes_on : (d : Direction) (to_head : Bool) (old bytes kept next rest part : List ℕ) (place now : Place) (at n : ℕ) → Along d to_head old bytes kept place at
    → IsCut bytes at n rest part → IsFedOn (state d to_head kept) part (state d to_head next) → IsOpen d next → now ≡ places Before next
    → Along d to_head old bytes next now (at + n)
along_goes_on d to_head old bytes kept next rest part place now at n w c f o e =
    part_goes_on d to_head old bytes kept next place now at n w (stop_in bytes at n rest part c)
    (subst (λ p. IsFedOn (state d to_head kept) p (state d to_head next)) (part_in bytes at n rest part c) f) o e

pub along_got : (d : Direction) (to_head : Bool) (old bytes kept rest part : List ℕ) (place : Place) (at n used : ℕ) (m : Message) → Along d to_head old bytes kept place at
    → IsCut bytes at n rest part → IsFedHead (state d to_head kept) part m used → IsFedHead (state d to_head old) bytes m (at + used)
along_got d to_head old bytes kept rest part place at n used m w c f =
    part_got d to_head old bytes kept place at n used m w (stop_in bytes at n rest part c)
    (subst (λ p. IsFedHead (state d to_head kept) p m used) (part_in bytes at n rest part c) f)

pub along_fails : (d : Direction) (to_head : Bool) (old bytes kept next rest part : List ℕ) (place : Place) (at n : ℕ) (e : H1Fault) → Along d to_head old bytes kept place at
    → IsCut bytes at n rest part → IsFed (state d to_head kept) part (state d to_head next) (Err e) → IsHeadFed (state d to_head old) bytes (Err e)
along_fails d to_head old bytes kept next rest part place at n e w c f =
    part_fails d to_head old bytes kept next place at n e w
    (subst (λ p. IsFed (state d to_head kept) p (state d to_head next) (Err e)) (part_in bytes at n rest part c) f)
