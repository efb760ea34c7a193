-- What stands behind the interim responses is all that counts of the bytes so far.
use Rattle.std.proofs.Common.{sym, ◌∙◌, ap, refl, arith, length-append}
use Rattle.std.specs.Prelude.{ℕ, zero, suc, ◌≡◌, ◌<◌, ◌≤◌, Bool, true, false, not, ◌&&◌, List, [], ◌∷◌, ◌++◌, length, codes, bytes_eq}
use Rattle.http_model.specs.Reading.{Reading, Whole, Partial, Bad, LongHead, Stays}
use Rattle.http_model.specs.Heads.{head_limit, head_lines, StatusLine, status_line, is_interim, final_of, response_message_in, response_message, behind_interims, or_behind, is_dropped, Head, message_head, head_so_far}
use Rattle.http_model.specs.declared.types.Direction.{Direction}
use Rattle.http_model.specs.declared.types.Direction.TheVariants.{Request, Response}
use Rattle.http_model.proofs.Stable.{LeavesUnder, limited-stays}
use Rattle.ext_msgs.specs.declared.lists.Field as model
use Rattle.h1_read.specs.HeadParts.{response_lines}
use Rattle.h1_read.proofs.TurnLaw.{after_lines, one_turn, after_whole}
use Rattle.http_model.specs.Reading as reading
use Rattle.http_model.proofs.HeadsStable.{head_lines-stays, response_lines-leaves}

-- how many responses there may be doesn't matter, if they are enough
after_same : (n m k : ℕ) (to_head : Bool) (r : Reading (StatusLine × List model.Field)) → LeavesUnder k r
    → ((rest : List ℕ) → length rest < k → response_message_in n to_head rest ≡ response_message_in m to_head rest)
    → after_lines n to_head r ≡ after_lines m to_head r
unfolding after_lines
after_same n m k to_head (Whole h rest) l same = by (is_interim h.0) (bytes_eq h.0.status (codes "101"))
  where
    by : (i b : Bool)
        → ◌≡◌ {A = Reading Head} (elim i [ true ↦ elim b [ true ↦ Bad reading.BadHead | false ↦ response_message_in n to_head rest ] | false ↦ final_of to_head h rest ])
        (elim i [ true ↦ elim b [ true ↦ Bad reading.BadHead | false ↦ response_message_in m to_head rest ] | false ↦ final_of to_head h rest ])
    by true true = refl
    by true false = same rest l
    by false b = refl
after_same n m k to_head Partial l same = refl
after_same n m k to_head (Bad f) l same = refl

enough : (n m : ℕ) (to_head : Bool) (bytes : List ℕ) → length bytes < n → length bytes < m → response_message_in n to_head bytes ≡ response_message_in m to_head bytes
enough zero m to_head bytes h k = absurd (omega arith)
enough (suc n) zero to_head bytes h k = absurd (omega arith)
enough (suc n) (suc m) to_head bytes h k =
    one_turn n to_head bytes
    ∙ after_same n m (length bytes) to_head (response_lines bytes) (response_lines-leaves bytes) (λ rest l. enough n m to_head rest (omega (arith, l, h)) (omega (arith, l, k)))
    ∙ sym (one_turn m to_head bytes)

goes_on : (n : ℕ) (to_head : Bool) (bytes more : List ℕ) → response_message to_head (bytes ++ more) ≡ response_message to_head (behind_interims n bytes ++ more)
unfolding behind_interims response_message
goes_on zero to_head bytes more = refl
goes_on (suc n) to_head bytes more = by (response_lines bytes) (response_lines-leaves bytes) (limited-stays head_limit LongHead (head_lines status_line) (head_lines-stays status_line) bytes more) (goes_on n to_head)
  where
    whole : (h : StatusLine × List model.Field) (rest : List ℕ) → length rest < length bytes → response_lines (bytes ++ more) ≡ Whole h (rest ++ more)
        → ((b m : List ℕ) → response_message_in (suc (length (b ++ m))) to_head (b ++ m) ≡ response_message_in (suc (length (behind_interims n b ++ m))) to_head (behind_interims n b ++ m))
        → (i b : Bool) → is_interim h.0 ≡ i → bytes_eq h.0.status (codes "101") ≡ b
        → response_message_in (suc (length (bytes ++ more))) to_head (bytes ++ more)
        ≡ response_message_in (suc (length ((elim (i && not b) [ true ↦ behind_interims n rest | false ↦ bytes ]) ++ more))) to_head ((elim (i && not b) [ true ↦ behind_interims n rest | false ↦ bytes ]) ++ more)
    whole h rest l e k true false f g =
        one_turn (length (bytes ++ more)) to_head (bytes ++ more)
        ∙ ap (after_lines (length (bytes ++ more)) to_head) e
        ∙ after_whole (length (bytes ++ more)) to_head h (rest ++ more) true false f g
        ∙ enough (length (bytes ++ more)) (suc (length (rest ++ more))) to_head (rest ++ more)
        (omega (arith, l, length-append rest more, length-append bytes more)) (omega arith)
        ∙ k rest more
    whole h rest l e k true true f g = refl
    whole h rest l e k false b f g = refl

    by : (r : Reading (StatusLine × List model.Field)) → LeavesUnder (length bytes) r → Stays r more (response_lines (bytes ++ more))
        → ((b m : List ℕ) → response_message_in (suc (length (b ++ m))) to_head (b ++ m) ≡ response_message_in (suc (length (behind_interims n b ++ m))) to_head (behind_interims n b ++ m))
        → response_message_in (suc (length (bytes ++ more))) to_head (bytes ++ more)
        ≡ response_message_in (suc (length (or_behind bytes r (behind_interims n) ++ more))) to_head (or_behind bytes r (behind_interims n) ++ more)
    by (Whole h rest) l e k = whole h rest l e k (is_interim h.0) (bytes_eq h.0.status (codes "101")) refl refl
    by Partial l e k = refl
    by (Bad f) l e k = refl

-- the same of what stands behind the interim responses

interims_same : (n m : ℕ) (bytes : List ℕ) (r : Reading (StatusLine × List model.Field)) → LeavesUnder (length bytes) r
    → ((rest : List ℕ) → length rest < length bytes → behind_interims n rest ≡ behind_interims m rest)
    → or_behind bytes r (behind_interims n) ≡ or_behind bytes r (behind_interims m)
interims_same n m bytes (Whole h rest) l same = by (is_dropped h.0)
  where
    by : (t : Bool) → ◌≡◌ {A = List ℕ} (elim t [ true ↦ behind_interims n rest | false ↦ bytes ]) (elim t [ true ↦ behind_interims m rest | false ↦ bytes ])
    by true = same rest l
    by false = refl
interims_same n m bytes Partial l same = refl
interims_same n m bytes (Bad f) l same = refl

interims_enough : (n m : ℕ) (bytes : List ℕ) → length bytes < n → length bytes < m → behind_interims n bytes ≡ behind_interims m bytes
unfolding behind_interims
interims_enough zero m bytes h k = absurd (omega arith)
interims_enough (suc n) zero bytes h k = absurd (omega arith)
interims_enough (suc n) (suc m) bytes h k =
    interims_same n m bytes (response_lines bytes) (response_lines-leaves bytes) (λ rest l. interims_enough n m rest (omega (arith, l, h)) (omega (arith, l, k)))

one_fewer : (n : ℕ) (bytes : List ℕ) → length bytes ≤ n → behind_interims n bytes ≡ behind_interims (suc n) bytes
unfolding behind_interims
one_fewer zero [] h = refl
one_fewer zero (b ∷ bytes) h = absurd (omega arith)
one_fewer (suc n) bytes h =
    interims_same n (suc n) bytes (response_lines bytes) (response_lines-leaves bytes) (λ rest l. one_fewer n rest (omega (arith, l, h)))

interims_go_on : (n : ℕ) (bytes more : List ℕ)
    → behind_interims (suc (length (bytes ++ more))) (bytes ++ more) ≡ behind_interims (suc (length (behind_interims n bytes ++ more))) (behind_interims n bytes ++ more)
unfolding behind_interims
interims_go_on zero bytes more = refl
interims_go_on (suc n) bytes more =
    by (response_lines bytes) (response_lines-leaves bytes) (limited-stays head_limit LongHead (head_lines status_line) (head_lines-stays status_line) bytes more) (interims_go_on n)
  where
    whole : (h : StatusLine × List model.Field) (rest : List ℕ) → length rest < length bytes → response_lines (bytes ++ more) ≡ Whole h (rest ++ more)
        → ((b m : List ℕ) → behind_interims (suc (length (b ++ m))) (b ++ m) ≡ behind_interims (suc (length (behind_interims n b ++ m))) (behind_interims n b ++ m))
        → (t : Bool) → is_dropped h.0 ≡ t
        → behind_interims (suc (length (bytes ++ more))) (bytes ++ more)
        ≡ behind_interims (suc (length ((elim t [ true ↦ behind_interims n rest | false ↦ bytes ]) ++ more))) ((elim t [ true ↦ behind_interims n rest | false ↦ bytes ]) ++ more)
    whole h rest l e k true f =
        ap (λ r. or_behind (bytes ++ more) r (behind_interims (length (bytes ++ more)))) e
        ∙ ap (λ t. elim t [ true ↦ behind_interims (length (bytes ++ more)) (rest ++ more) | false ↦ bytes ++ more ]) f
        ∙ interims_enough (length (bytes ++ more)) (suc (length (rest ++ more))) (rest ++ more)
        (omega (arith, l, length-append rest more, length-append bytes more)) (omega arith)
        ∙ k rest more
    whole h rest l e k false f = refl

    by : (r : Reading (StatusLine × List model.Field)) → LeavesUnder (length bytes) r → Stays r more (response_lines (bytes ++ more))
        → ((b m : List ℕ) → behind_interims (suc (length (b ++ m))) (b ++ m) ≡ behind_interims (suc (length (behind_interims n b ++ m))) (behind_interims n b ++ m))
        → behind_interims (suc (length (bytes ++ more))) (bytes ++ more)
        ≡ behind_interims (suc (length (or_behind bytes r (behind_interims n) ++ more))) (or_behind bytes r (behind_interims n) ++ more)
    by (Whole h rest) l e k = whole h rest l e k (is_dropped h.0) refl
    by Partial l e k = refl
    by (Bad f) l e k = refl

pub left_goes_on : (d : Direction) (bytes more : List ℕ) → head_so_far d (bytes ++ more) ≡ head_so_far d (head_so_far d bytes ++ more)
left_goes_on Request bytes more = refl
left_goes_on Response bytes more =
    let left = behind_interims (length bytes) bytes in
    one_fewer (length (bytes ++ more)) (bytes ++ more) (omega arith) ∙ interims_go_on (length bytes) bytes more ∙ sym (one_fewer (length (left ++ more)) (left ++ more) (omega arith))

pub heads_go_on : (d : Direction) (to_head : Bool) (bytes more : List ℕ) → message_head d to_head (bytes ++ more) ≡ message_head d to_head (head_so_far d bytes ++ more)
heads_go_on Request to_head bytes more = refl
heads_go_on Response to_head bytes more = goes_on (length bytes) to_head bytes more
