use Rattle.std.proofs.Common.{◌≡◌, ℕ, ◌≤◌, List, [], ◌∷◌, length, map, None, refl, sym, arith}
use Rattle.std.proofs.lemmas.List.{length-map}
use Rattle.ext_top.specs.Commands.{command_of}
use Rattle.ext_top.proofs.parse.command.Goals as goal

-- four words, or more than five, are no command
four_words : (words : List (List ℕ)) → length words ≡ 4 → command_of words ≡ None
unfolding command_of
four_words [] e = absurd (omega arith)
four_words (a ∷ []) e = absurd (omega arith)
four_words (a ∷ b ∷ []) e = absurd (omega arith)
four_words (a ∷ b ∷ c ∷ []) e = absurd (omega arith)
four_words (a ∷ b ∷ c ∷ d ∷ []) e = refl
four_words (a ∷ b ∷ c ∷ d ∷ f ∷ words) e = absurd (omega arith)

more_words : (words : List (List ℕ)) → 6 ≤ length words → command_of words ≡ None
unfolding command_of
more_words [] e = absurd (omega arith)
more_words (a ∷ []) e = absurd (omega arith)
more_words (a ∷ b ∷ []) e = absurd (omega arith)
more_words (a ∷ b ∷ c ∷ []) e = absurd (omega arith)
more_words (a ∷ b ∷ c ∷ d ∷ []) e = absurd (omega arith)
more_words (a ∷ b ∷ c ∷ d ∷ f ∷ []) e = absurd (omega arith)
more_words (a ∷ b ∷ c ∷ d ∷ f ∷ g ∷ words) e = refl

pub returns-in_default-2 : goal.returns-in_default-2
returns-in_default-2 c = sym (four_words (map (λ w. w.now) c.args.words.now) (rw (length-map) (omega arith)))

pub returns-in_default-3 : goal.returns-in_default-3
returns-in_default-3 c = sym (more_words (map (λ w. w.now) c.args.words.now) (rw (length-map) (omega arith)))
