-- Directions of asks that are made one after another.
use Rattle.std.proofs.Common.{refl, arith, ◌∙◌, ap}
use Rattle.std.proofs.lemmas.List.{append_assoc}
use Rattle.std.specs.Prelude.{ℕ, ◌≡◌, ◌+◌, List, [], ◌∷◌, ◌++◌, length}
use Rattle.http_model.specs.declared.types.Direction.{Direction}
use Rattle.exchange.specs.Order.{so_many}

-- one more at the end is one more in front
one_more : (n : ℕ) (d : Direction) → so_many n d ++ d ∷ [] ≡ d ∷ so_many n d
one_more ℕ.zero d = refl
one_more (ℕ.suc n) d = ap (λ l. d ∷ l) (one_more n d)

pub marked : (n : ℕ) (d : Direction) (old self new : List Direction) → self ≡ old ++ so_many n d → new ≡ self ++ d ∷ [] → new ≡ old ++ so_many (n + 1) d
marked n d old self new e k =
    let m : ℕ.suc n ≡ n + 1 = omega arith in
    k ∙ ap (λ l. l ++ d ∷ []) e ∙ append_assoc old (so_many n d) (d ∷ []) ∙ ap (λ l. old ++ l) (one_more n d)
    ∙ ap (λ k. old ++ so_many k d) m

pub so_many_long : (n : ℕ) (d : Direction) → length (so_many n d) ≡ n
so_many_long ℕ.zero d = refl
so_many_long (ℕ.suc n) d = ap ℕ.suc (so_many_long n d)
