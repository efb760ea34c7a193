-- How much an exchange keeps: the byte lists of both directions, and what is promised of their sum.
use Rattle.std.specs.Prelude.{ℕ, ◌+◌, ◌*◌, ◌≡◌, ◌≤◌, true, List, length, sum_by}
use Rattle.ext_msgs.specs.declared.lists.Field.{Field}
use Rattle.http_model.specs.declared.types.Direction.TheVariants.{Request, Response}
use Rattle.filter_model.specs.Config.{FilterConfig}
use Rattle.filter_model.specs.Course.{queue}
use Rattle.filter_model.specs.Account.{ExchangeAccount}
use Rattle.filter_model.specs.Step.{is_live}

-- the byte lists that are kept of one direction
pub record Kept : Type 0 where
  pub unread : List ℕ  -- of a head, a chunk's line or trailers that aren't whole
  pub heads : List (List Field)  -- head and trailers, as long as they are kept
  pub hand : List ℕ  -- of the body, in no ask
  pub lent : List (List ℕ)  -- the asked pieces that aren't answered
  pub asks : List (List ℕ)  -- asks that weren't sent
  pub out : List (List ℕ)  -- what waits to go out

abbrev pub total : List (List ℕ) → ℕ
total lists = sum_by (λ l. length l) lists

abbrev pub field_bytes : List Field → ℕ
field_bytes fields = sum_by (λ (f : Field). length f.name + length f.value) fields

abbrev pub held_in : Kept → ℕ
held_in k = length k.unread + sum_by field_bytes k.heads + length k.hand + total k.lent + total k.asks + total k.out

-- both directions, with an answer that isn't whole
abbrev pub held : Kept → Kept → List ℕ → ℕ
held request response answer = held_in request + held_in response + length answer

-- The promises of the sum

-- for each direction three buffers, seven answers, what waits up to the mark, and 393,216 bytes for heads and pieces
abbrev pub most_held : FilterConfig → ℕ
most_held c = 2 * (3 * c.course.buffer_limit + 7 * c.course.answer_limit + c.course.mark + 393_216)

abbrev pub IsBounded : FilterConfig → ℕ → Type 0
IsBounded c n = n ≤ most_held c

-- the body bytes of both changed messages that weren't given
abbrev pub ungiven : FilterConfig → ExchangeAccount → ℕ
ungiven c a = queue c.course Request a.request.course + queue c.course Response a.response.course

-- until a cut ends the exchange they are all kept
abbrev pub CoversUngiven : FilterConfig → ExchangeAccount → ℕ → Type 0
CoversUngiven c a n = is_live a.fate ≡ true → ungiven c a ≤ n
