-- What an entry leaves of the ties of a direction.
use Rattle.std.proofs.Common.{refl, ◌∙◌, ap, arith}
use Rattle.std.specs.Prelude.{ℕ, zero, suc, ◌≡◌, ◌≤◌, Bool, false, List, [], ◌∷◌, ◌++◌, length, take}
use Rattle.ext_msgs.specs.declared.ask.Ask.{Ask}
use Rattle.http_model.specs.Reads.{Original}
use Rattle.http_model.specs.Wire.{interim}
use Rattle.http_model.specs.declared.types.Direction.{Direction}
use Rattle.http_model.specs.declared.types.Direction.TheVariants.{Request, Response}
use Rattle.filter_model.specs.Account.{ExchangeAccount, flow, front, is_head_request}
use Rattle.filter_model.specs.ToldMore.{SameRest}
use Rattle.h1_message.specs.Source.{Source}
use Rattle.filter_model.specs.InTurn.{asks_in}
use Rattle.exchange.specs.Stands.{source_of}

abbrev source_at : Direction → Bool → List ℕ → Bool → Source
source_at d to_head brought ended = record { direction = d; to_head = to_head; brought = brought; ended = ended }

-- what was read is what was gathered
pub source_next : (d : Direction) (g a : ExchangeAccount) → SameRest g a → source_of d a ≡ source_of d g
source_next Request g a s =
    ap (λ b. source_at Request false b a.request.ended) s.request.brought
    ∙ ap (λ e. source_at Request false g.request.brought e) s.request.ended
source_next Response g a s =
    ap (λ (o : Original). source_at Response (is_head_request o.head) a.response.brought a.response.ended) s.request.original
    ∙ ap (λ b. source_at Response (is_head_request g.request.course.original.head) b a.response.ended) s.response.brought
    ∙ ap (λ e. source_at Response (is_head_request g.request.course.original.head) g.response.brought e) s.response.ended

pub front_next : (d : Direction) (g a : ExchangeAccount) → SameRest g a → front d a ≡ front d g
front_next Request g a s = refl
front_next Response g a s = ap (λ (o : Original). interim o.expects) s.request.original

pub given_next : (d : Direction) (g a : ExchangeAccount) → SameRest g a → (flow d a).given ≡ (flow d g).given
given_next Request g a s = s.request.given
given_next Response g a s = s.response.given

pub lost_next : (d : Direction) (g a : ExchangeAccount) → SameRest g a → (flow d a).lost ≡ (flow d g).lost
lost_next Request g a s = s.request.lost
lost_next Response g a s = s.response.lost

-- asks that are made later change nothing of the first
take_first : (n : ℕ) (xs ys : List Ask) → n ≤ length xs → take n (xs ++ ys) ≡ take n xs
take_first zero xs ys l = refl
take_first (suc n) [] ys l = absurd (omega (arith, l))
take_first (suc n) (x ∷ xs) ys l = ap (λ zs. x ∷ zs) (take_first n xs ys (omega (arith, l)))

pub handed_next : (d : Direction) (n : ℕ) (made more : List Ask) → n ≤ length made → length (asks_in d (take n (made ++ more))) ≡ length (asks_in d (take n made))
handed_next d n made more l = ap (λ xs. length (asks_in d xs)) (take_first n made more l)
