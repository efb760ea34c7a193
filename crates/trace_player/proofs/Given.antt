-- What a port and the processor's stream were given, one piece and one part more.
use Rattle.std.proofs.Common.{refl, sym, ◌∙◌, ap, subst, append-nil, append_assoc}
use Rattle.std.proofs.lemmas.List.Elements.{All-append, All-cons, All-nil}
use Rattle.std.proofs.lemmas.List.Folds.{concat-append}
use Rattle.std.specs.Prelude.{ℕ, ◌≡◌, ◌≤◌, Bool, true, false, not, List, [], ◌∷◌, ◌++◌, length, Option, Some, None}
use Rattle.std.specs.List.{All, concat}
use Rattle.http_model.specs.Bytes.{is_empty}
use Rattle.filter_model.specs.Config.{FilterConfig}
use Rattle.filter_model.specs.Right.{Call, Took}
use Rattle.filter_model.specs.declared.calls.Next.{Next}
use Rattle.filter_model.specs.declared.calls.Next.TheVariants as next
use Rattle.filter_model.specs.declared.calls.Side.{Side}
use Rattle.filter_model.specs.declared.calls.Taken.TheVariants as taken
use Rattle.exchange.specs.Stands.{IsAfter}
use Rattle.exchange.specs.declared.exchange.Exchange.{Exchange}
use Rattle.trace_model.specs.Rounds.{calls_given, gave, is_nothing, is_short, stream_gave}
use Rattle.trace_player.specs.Ties.{asks_in_order, last_end}

-- one piece more

gave_more : (s : Side) (pieces : List (List ℕ)) (b : List ℕ) (h : List Call) → gave s (pieces ++ b ∷ []) h ≡ Took s (taken.Piece b) ∷ gave s pieces h
gave_more s [] b h = refl
gave_more s (p ∷ pieces) b h = gave_more s pieces b (Took s (taken.Piece p) ∷ h)

some_more : (pieces : List (List ℕ)) (b : List ℕ) → true ≡ not (is_empty (pieces ++ b ∷ []))
some_more [] b = refl
some_more (p ∷ pieces) b = refl

-- the pieces so far
abbrev pub PiecesGiven : FilterConfig → Side → List Call → List ℕ → List ℕ → Bool → Exchange → Type 0
PiecesGiven c s h old new some x =
    (pieces : List (List ℕ)) × All is_short pieces × IsAfter c (gave s pieces h) x × (new ≡ old ++ concat pieces) × (some ≡ not (is_empty pieces))

pub no_piece : (c : FilterConfig) (s : Side) (h : List Call) (old : List ℕ) (x : Exchange) → IsAfter c h x → PiecesGiven c s h old old false x
no_piece c s h old x a = ([], All-nil is_short, a, sym (append-nil old), refl)

pub piece_more : (c : FilterConfig) (s : Side) (h : List Call) (old new got : List ℕ) (some : Bool) (x y : Exchange) (b : List ℕ) (p : PiecesGiven c s h old new some x)
    → length b ≤ 16_384 → IsAfter c (Took s (taken.Piece b) ∷ gave s p.0 h) y → got ≡ new ++ b → PiecesGiven c s h old got true y
piece_more c s h old new got some x y b p short a e = (
  p.0 ++ b ∷ [],
  All-append is_short p.0 (b ∷ []) p.1 (All-cons is_short b [] short (All-nil is_short)),
  subst (λ l. IsAfter c l y) (sym (gave_more s p.0 b h)) a,
  e ∙ ap (λ l. l ++ b) p.3 ∙ append_assoc old (concat p.0) b ∙ ap (λ l. old ++ (concat p.0 ++ l)) (sym (append-nil b)) ∙ ap (λ l. old ++ l) (sym (concat-append p.0 (b ∷ []))),
  some_more p.0 b,
)

-- one part more of the stream

stream_more : (nexts : List Next) (n : Next) (h : List Call) → stream_gave (nexts ++ n ∷ []) h ≡ calls_given n (stream_gave nexts h)
stream_more [] n h = refl
stream_more (m ∷ nexts) n h = stream_more nexts n (calls_given m h)

asks_more : (nexts : List Next) (n : Next) → asks_in_order (nexts ++ n ∷ []) ≡ asks_in_order nexts ++ asks_in_order (n ∷ [])
asks_more [] n = refl
asks_more (next.Ask b ∷ nexts) n = ap (λ l. b ∷ l) (asks_more nexts n)
asks_more (next.Finish ∷ nexts) n = asks_more nexts n
asks_more (next.Reset ∷ nexts) n = asks_more nexts n
asks_more (next.Nothing ∷ nexts) n = asks_more nexts n

end_more : (e : Option Bool) (nexts : List Next) (n : Next) → last_end e (nexts ++ n ∷ []) ≡ last_end (last_end e nexts) (n ∷ [])
end_more e [] n = refl
end_more e (next.Ask b ∷ nexts) n = end_more e nexts n
end_more e (next.Finish ∷ nexts) n = end_more (Some true) nexts n
end_more e (next.Reset ∷ nexts) n = end_more (Some false) nexts n
end_more e (next.Nothing ∷ nexts) n = end_more e nexts n

abbrev pub IsPart : Next → Type 0
IsPart n = is_nothing n ≡ false

abbrev pub PartsGiven : FilterConfig → List Call → List (List ℕ) → Option Bool → Exchange → Type 0
PartsGiven c h asks ending x =
    (nexts : List Next) × All (λ n. is_nothing n ≡ false) nexts × IsAfter c (stream_gave nexts h) x × (asks ≡ asks_in_order nexts) × (ending ≡ last_end None nexts)

pub part_more : (c : FilterConfig) (h : List Call) (asks now : List (List ℕ)) (ending after : Option Bool) (x y : Exchange) (n : Next) (p : PartsGiven c h asks ending x)
    → is_nothing n ≡ false → IsAfter c (calls_given n (stream_gave p.0 h)) y → now ≡ asks ++ asks_in_order (n ∷ []) → after ≡ last_end ending (n ∷ []) → PartsGiven c h now after y
part_more c h asks now ending after x y n p i a e f = (
  p.0 ++ n ∷ [],
  All-append IsPart p.0 (n ∷ []) p.1 (All-cons IsPart n [] i (All-nil IsPart)),
  subst (λ l. IsAfter c l y) (sym (stream_more p.0 n h)) a,
  e ∙ ap (λ l. l ++ asks_in_order (n ∷ [])) p.3 ∙ sym (asks_more p.0 n),
  f ∙ ap (λ o. last_end o (n ∷ [])) p.4 ∙ sym (end_more None p.0 n),
)
