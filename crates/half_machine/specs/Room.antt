-- That what is lent can go out: changed as its answers say, or at a release as it was.
use Rattle.std.specs.Prelude.{ℕ, ◌+◌, ◌*◌, ◌≡◌, ◌≤◌, Bool, true, false, List, [], ◌∷◌, ◌++◌, length, drop, flat_map}
use Rattle.std.specs.List.{list_any}
use Rattle.body_hold.specs.Held.{Held, joined}
use Rattle.http_model.specs.Bytes.{is_empty}
use Rattle.filter_model.specs.Config.{CourseConfig}
use Rattle.filter_model.specs.Course.{AskedPart, bytes_in, asked_bytes, is_headers}

-- the most bytes that can go out for these pieces, each as it was or replaced by an answer
abbrev pub most_back : ℕ → List (List ℕ) → ℕ
most_back answer [] = 0
most_back answer (p ∷ lent) = answer + length p + most_back answer lent

pub record OfRoom (x : Held) (c : CourseConfig) (headers : Bool) (asks : List AskedPart) (body : List ℕ) (released : Bool) : Type 0 where
  -- where the headers are to be asked, they are asked first
  pub first : headers ≡ true → is_empty asks ≡ false → list_any is_headers asks ≡ true
  -- the asked pieces are the first bytes of the body
  pub pieces : flat_map bytes_in asks ++ drop (asked_bytes asks) body ≡ body
  pub lent : length (joined x.lent) ≤ c.buffer_limit + 65_536
  pub goes : released ≡ false → length x.out + most_back c.answer_limit x.lent ≤ c.buffer_limit + c.answer_limit * 4 + 131_072
