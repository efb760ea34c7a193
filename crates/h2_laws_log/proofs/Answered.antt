-- What answers read of the live streams.
use Rattle.std.proofs.Common.{◌≡◌, ℕ, Bool, true, false, List, [], ◌∷◌, refl, sym, ◌∙◌, ap, if◌then◌else◌, ◌==◌, filter, length, map, reverse, nat_lt}
use Rattle.std.specs.List.{find}
use Rattle.h2_model.specs.declared.answers.Event.TheVariants as event
use Rattle.h2_model.specs.declared.stream.Stream.{Stream}
use Rattle.h2_model.specs.Codes.{refused_stream}
use Rattle.h2_model.specs.Streams.{live_streams}
use Rattle.h2_model.specs.Account.{Account}
use Rattle.h2_model.specs.Duties.{reset_by_goaway}
use Rattle.h2_model.specs.State.{seen, live, streams}
use Rattle.h2_model.proofs.Lives.{found-live}
use Rattle.h2_laws_log.specs.Steps.{resets_above}
use Rattle.h2_laws_log.proofs.Opens.{stream-numbers, streams-count, filter-reverse}

pub looked-up : (id : ℕ) (a : Account) → find (λ s. s.id == id) (seen a).streams ≡ live id a
unfolding seen
looked-up id a = found-live id a

pub counted : (a : Account) → length (live_streams a.log) ≡ length (seen a).streams
unfolding seen
counted a = sym (streams-count a)

filter-numbers : (p : ℕ → Bool) (xs : List Stream) → filter p (map (λ s. s.id) xs) ≡ map (λ s. s.id) (filter (λ s. p s.id) xs)
filter-numbers p [] = refl
filter-numbers p (x ∷ xs) = by (p x.id) (filter-numbers p xs)
  where
    by : (b : Bool) → filter p (map (λ s. s.id) xs) ≡ map (λ s. s.id) (filter (λ s. p s.id) xs)
        → (if b then x.id ∷ filter p (map (λ s. s.id) xs) else filter p (map (λ s. s.id) xs)) ≡ map (λ s. s.id) (if b then x ∷ filter (λ s. p s.id) xs else filter (λ s. p s.id) xs)
    by true ih = ap (λ ns. x.id ∷ ns) ih
    by false ih = ih

resets-of : (xs : List Stream) → map (λ id. event.Reset id refused_stream) (map (λ s. s.id) xs) ≡ map (λ s. event.Reset s.id refused_stream) xs
resets-of [] = refl
resets-of (x ∷ xs) = ap (λ es. event.Reset x.id refused_stream ∷ es) (resets-of xs)

pub reset-above : (a : Account) (last : ℕ) → reset_by_goaway a last ≡ resets_above a.client last (seen a)
unfolding seen
reset-above a last = by a.client
  where
    numbers : filter (λ id. nat_lt last id) (map (λ s. s.id) (streams a)) ≡ reverse (filter (λ id. nat_lt last id) (live_streams a.log))
    numbers = ap (filter (λ id. nat_lt last id)) (stream-numbers a) ∙ filter-reverse (λ id. nat_lt last id) (live_streams a.log)

    by : (c : Bool) → (if c then map (λ id. event.Reset id refused_stream) (reverse (filter (λ id. nat_lt last id) (live_streams a.log))) else []) ≡ (if c then map (λ s. event.Reset s.id refused_stream) (filter (λ s. nat_lt last s.id) (streams a)) else [])
    by true = ap (map (λ id. event.Reset id refused_stream)) (sym numbers ∙ filter-numbers (λ id. nat_lt last id) (streams a)) ∙ resets-of (filter (λ s. nat_lt last s.id) (streams a))
    by false = refl
