-- An outlet that is handed what a half hands out.
use Rattle.std.proofs.Common.{refl, sym, ◌∙◌, ap, arith, append-nil}
use Rattle.std.proofs.lemmas.Bool.{eq-eqb, eqb-true, le-leb, leb-true}
use Rattle.std.specs.Prelude.{ℕ, ◌≡◌, ◌≤◌, ◌==◌, nat_le, Bool, true, false, ◌&&◌, List, ◌++◌, length, take}
use Rattle.http_model.specs.declared.types.Out.{Out}
use Rattle.http_model.specs.declared.types.Out.TheVariants as part
use Rattle.filter_model.specs.Account.{given_count, is_given_at}
use Rattle.filter_model.specs.AllGiven.{is_all_handed}
use Rattle.filter_model.specs.Half.{Past, MayGive, becomes, parts, progress}
use Rattle.filter_model.specs.HalfRight.{IsPast, written_parts}
use Rattle.filter_model.proofs.AllGiven.{all_given, no_framing}
use Rattle.filter_model.proofs.PartsGiven.{given_of_parts}
use Rattle.h1_outlet.specs.Halves.{flow_of}
use Rattle.h1_outlet.specs.Outlets.{all, body_in}
use Rattle.h1_outlet.specs.Stands.{StandsFor, MayPut, IsPlaced}
use Rattle.h1_outlet.specs.declared.outlet.Outlet.{Outlet}

placed : (p : Past) → IsPast p → (front : List ℕ) (n max : ℕ) (out : Out) → MayGive max (becomes p) (progress p).taken out → IsPlaced (flow_of p front n) out
placed p y front n max (part.Head fields framing) k = no_framing p y k.0
placed p y front n max (part.Data bytes) k = tt
placed p y front n max (part.Trailers fields) k = tt
placed p y front n max part.End k = tt
placed p y front n max part.Nothing k = tt

pub may_put : (p : Past) → IsPast p → (front : List ℕ) (n : ℕ) → n ≡ length (all (flow_of p front n)) → (max : ℕ) (out : Out) → MayGive max (becomes p) (progress p).taken out
    → MayPut (flow_of p front n) out
may_put p y front n e max out k = record { idle = e; reply = refl; placed = placed p y front n max out k }

-- without a reply all is the front and the parts
all_of : (p : Past) (front : List ℕ) (n : ℕ) → all (flow_of p front n) ≡ front ++ written_parts p.direction (parts p.steps)
all_of p front n = append-nil (front ++ written_parts p.direction (parts p.steps))

pub body_counted : (p : Past) → IsPast p → (front : List ℕ) (n : ℕ)
    → given_count p.direction (becomes p).head front (take n (all (flow_of p front n))) ≡ body_in (flow_of p front n) n
body_counted p y front n = ap (λ l. given_count p.direction (becomes p).head front (take n l)) (all_of p front n) ∙ given_of_parts p y front n

pub given_where : (p : Past) → IsPast p → (front : List ℕ) (n : ℕ) (x : Outlet) → StandsFor (flow_of p front n) x
    → is_given_at p.direction (becomes p).head (becomes p) front (take n (all (flow_of p front n)))
    ≡ (is_all_handed (becomes p) (progress p).taken && n == length (all (flow_of p front n)))
given_where p y front n x s =
    ap (λ l. is_given_at p.direction (becomes p).head (becomes p) front (take n l)) (all_of p front n) ∙ all_given p y front n
    ∙ ap (λ l. is_all_handed (becomes p) (progress p).taken && nat_le (length l) n) (sym (all_of p front n))
    ∙ ap (λ b. is_all_handed (becomes p) (progress p).taken && b) (same _ _ reached (λ e. le-leb _ n (least e)))
  where
    same : (a b : Bool) → (a ≡ true → b ≡ true) → (b ≡ true → a ≡ true) → a ≡ b
    same true b f g = sym (f refl)
    same false true f g = g refl
    same false false f g = refl

    reached : nat_le (length (all (flow_of p front n))) n ≡ true → (n == length (all (flow_of p front n))) ≡ true
    reached e =
        let h : length (all (flow_of p front n)) ≤ n = leb-true (length (all (flow_of p front n))) n e in
        let k = s.within in
        eq-eqb n (length (all (flow_of p front n))) (omega (arith, h, k))

    least : (n == length (all (flow_of p front n))) ≡ true → length (all (flow_of p front n)) ≤ n
    least e = let k : n ≡ length (all (flow_of p front n)) = eqb-true n (length (all (flow_of p front n))) e in omega (arith, k)
