-- What is given next, and what is left behind it.
use Rattle.std.proofs.Common.{refl, sym, ◌∙◌, ap, subst, arith, length-append}
use Rattle.std.proofs.lemmas.List.{drop-append-le, drop-drop, length-drop, length-take-le, take-append-le}
use Rattle.std.specs.Prelude.{ℕ, zero, suc, ◌≡◌, ◌+◌, ◌-◌, ◌<◌, ◌≤◌, min, List, ◌++◌, length, take, drop, Some, Result, Ok, Err, OnErr}
use Rattle.http_model.specs.Wire.{interim}
use Rattle.filter_model.specs.Given.{data_at}
use Rattle.h1_outlet.specs.Parts.{unwritten}
use Rattle.h1_outlet.specs.Outlets.{Flowed, all, body_in, left_of, body_of, after_give}
use Rattle.h1_outlet.specs.Stands.{StandsFor, IsNext}
use Rattle.h1_outlet.specs.Ways.{Way, first_of, gone_on}
use Rattle.h1_outlet.specs.declared.going.Gave.{Gave}
use Rattle.h1_outlet.specs.declared.outlet.Outlet.{Outlet}
use Rattle.h1_outlet.proofs.PartBytes.{WayFits, zero_data}

-- Bytes

-- the first bytes of the written ones are the first of all that are left
left_first : (n : ℕ) (xs ys zs us : List ℕ) → n ≤ length xs → take n (xs ++ ys ++ zs ++ us) ≡ take n xs
left_first n xs ys zs us h =
    let a : length (xs ++ ys) ≡ length xs + length ys = length-append xs ys in
    let b : length (xs ++ ys ++ zs) ≡ length (xs ++ ys) + length zs = length-append (xs ++ ys) zs in
    take-append-le n (xs ++ ys ++ zs) us (omega arith) ∙ take-append-le n (xs ++ ys) zs (omega arith) ∙ take-append-le n xs ys h

left_behind : (n : ℕ) (xs ys zs us : List ℕ) → n ≤ length xs → drop n (xs ++ ys ++ zs ++ us) ≡ drop n xs ++ ys ++ zs ++ us
left_behind n xs ys zs us h =
    let a : length (xs ++ ys) ≡ length xs + length ys = length-append xs ys in
    let b : length (xs ++ ys ++ zs) ≡ length (xs ++ ys) + length zs = length-append (xs ++ ys) zs in
    drop-append-le n (xs ++ ys ++ zs) us (omega arith) ∙ ap (λ l. l ++ us) (drop-append-le n (xs ++ ys) zs (omega arith) ∙ ap (λ l. l ++ zs) (drop-append-le n xs ys h))

left_least : (xs ys zs us : List ℕ) → length xs ≤ length (xs ++ ys ++ zs ++ us)
left_least xs ys zs us =
    let a : length (xs ++ ys) ≡ length xs + length ys = length-append xs ys in
    let b : length (xs ++ ys ++ zs) ≡ length (xs ++ ys) + length zs = length-append (xs ++ ys) zs in
    let c : length (xs ++ ys ++ zs ++ us) ≡ length (xs ++ ys ++ zs) + length us = length-append (xs ++ ys ++ zs) us in
    omega arith

-- Body bytes

-- those of the first n bytes, and of the first k behind them
body_split : (n k skip body : ℕ) → min ((n + k) - skip) body ≡ min (n - skip) body + min (k - (skip - n)) (body - min (n - skip) body)
body_split n k skip body = omega arith

gone_fits : (n : ℕ) (w : Way) → n ≤ length w.left → WayFits w → WayFits (gone_on n w)
gone_fits n w h f = let e : length (drop n w.left) ≡ length w.left - n = length-drop n w.left in omega (arith, h, f, e)

-- the written bytes aren't read beyond
body_first : (x : Outlet) (n : ℕ) → n ≤ length x.going.left → body_of x n ≡ min (n - x.going.skip) x.going.body
body_first x n h =
    let a : length (x.going.left ++ interim x.interim) ≡ length x.going.left + length (interim x.interim) = length-append x.going.left (interim x.interim) in
    let none : n - length (x.going.left ++ interim x.interim) ≡ 0 = omega arith in
    ap (λ k. min (n - x.going.skip) x.going.body + data_at x.framing k x.next) none
    ∙ ap (λ k. min (n - x.going.skip) x.going.body + k) (zero_data x.framing x.next) ∙ plus_none (min (n - x.going.skip) x.going.body)
  where
    plus_none : (k : ℕ) → k + 0 ≡ k
    plus_none k = omega arith

abbrev pub moved : ℕ → Outlet → Outlet
moved n x = record x { going = gone_on n x.going }

body_behind : (x : Outlet) (n k : ℕ) → n ≤ length x.going.left → body_of x (n + k) ≡ body_of x n + body_of (moved n x) k
body_behind x n k h =
    let a : length (x.going.left ++ interim x.interim) ≡ length x.going.left + length (interim x.interim) = length-append x.going.left (interim x.interim) in
    let b : length (drop n x.going.left ++ interim x.interim) ≡ length (drop n x.going.left) + length (interim x.interim) = length-append (drop n x.going.left) (interim x.interim) in
    let c : length (drop n x.going.left) ≡ length x.going.left - n = length-drop n x.going.left in
    let place : (n + k) - length (x.going.left ++ interim x.interim) ≡ k - length (drop n x.going.left ++ interim x.interim) = omega arith in
    ap (λ i. min ((n + k) - x.going.skip) x.going.body + data_at x.framing i x.next) place
    ∙ ap (λ i. i + data_at x.framing (k - length (drop n x.going.left ++ interim x.interim)) x.next) (body_split n k x.going.skip x.going.body)
    ∙ plus _ _ _ ∙ ap (λ i. i + body_of (moved n x) k) (sym (body_first x n h))
  where
    plus : (a b c : ℕ) → (a + b) + c ≡ a + (b + c)
    plus a b c = omega arith

-- What is given

abbrev Given : ℕ → Flowed → Flowed
Given n f = record f { given = f.given + n }

left_length : (f : Flowed) (x : Outlet) → StandsFor f x → f.given + length x.going.left ≤ length (all f)
left_length f x s =
    let a : length (left_of x) ≡ length (all f) - f.given = ap length s.left ∙ length-drop f.given (all f) in
    let b : length x.going.left ≤ length (left_of x) = left_least x.going.left (interim x.interim) (unwritten x.direction x.framing x.trailers x.next) x.reply in
    let c = s.within in
    omega arith

moved_stands : (f : Flowed) (x : Outlet) (n : ℕ) → StandsFor f x → n ≤ length x.going.left → StandsFor (Given n f) (moved n x)
moved_stands f x n s h = record {
  direction = s.direction;
  framing = s.framing;
  trailers = s.trailers;
  within = let k = left_length f x s in omega (arith, k, h);
  left =
      sym (left_behind n x.going.left (interim x.interim) (unwritten x.direction x.framing x.trailers x.next) x.reply h)
      ∙ ap (drop n) s.left ∙ drop-drop n f.given (all f);
  reply = s.reply;
  fits = gone_fits n x.going h s.fits;
  body = λ k.
      ap (body_in f) (plus f.given n k) ∙ s.body (n + k) ∙ ap (λ i. body_in f f.given + i) (body_behind x n k h)
      ∙ sym (plus (body_in f f.given) (body_of x n) (body_of (moved n x) k)) ∙ ap (λ i. i + body_of (moved n x) k) (sym (s.body n));
}
  where
    plus : (a b c : ℕ) → (a + b) + c ≡ a + (b + c)
    plus a b c = omega arith

-- so many bytes are given
abbrev pub count : ℕ → Outlet → ℕ
count max x = min (length x.going.left) max

pub given_stands : (f : Flowed) (x : Outlet) (max : ℕ) (gave : Gave) → StandsFor f x → gave ≡ first_of (count max x) x.going → StandsFor (after_give (Some gave) f) (moved (count max x) x)
given_stands f x max gave s e =
    let n : ℕ = count max x in
    let few : n ≤ length x.going.left = omega arith in
    let size : length gave.bytes ≡ n = ap (λ (g : Gave). length g.bytes) e ∙ length-take-le n x.going.left few in
    subst (λ k. StandsFor (Given k f) (moved n x)) (sym size) (moved_stands f x n s few)

pub given_next : (f : Flowed) (x : Outlet) (max : ℕ) (gave : Gave) → StandsFor f x → 1 ≤ max → 0 < length x.going.left → gave ≡ first_of (count max x) x.going → IsNext max f gave
given_next f x max gave s m some e =
    let n : ℕ = count max x in
    let few : n ≤ length x.going.left = omega arith in
    let size : length gave.bytes ≡ n = ap (λ (g : Gave). length g.bytes) e ∙ length-take-le n x.going.left few in
    record {
      least = omega (arith, size, m, some);
      most = omega (arith, size);
      bytes =
          ap (λ (g : Gave). g.bytes) e
          ∙ sym (left_first n x.going.left (interim x.interim) (unwritten x.direction x.framing x.trailers x.next) x.reply few)
          ∙ ap (take n) s.left ∙ ap (λ k. take k (drop f.given (all f))) (sym size);
      body =
          ap (λ (g : Gave). g.body) e ∙ sym (body_first x n few) ∙ sym (less (body_in f f.given) (body_of x n))
          ∙ ap (λ k. k - body_in f f.given) (sym (s.body n)) ∙ ap (λ k. body_in f (f.given + k) - body_in f f.given) (sym size);
    }
  where
    less : (a b : ℕ) → (a + b) - a ≡ b
    less a b = omega arith

-- For `take`

pub not_none : (n m : ℕ) → n ≡ m → (n ≡ 0 → ⊥) → 0 < m
not_none zero m e f = absurd (f refl)
not_none (suc n) m e f = omega (arith, e)

pub on_err : {T E P : Type 0} (r : Result T E) → P → OnErr r P
on_err (Ok v) p = tt
on_err (Err e) p = p
