-- Which entries fit.
use Rattle.std.proofs.Common.{◌≡◌, ℕ, ◌+◌, ◌-◌, ◌*◌, ◌<◌, ◌≤◌, List, [], ◌∷◌, ◌++◌, length, refl, ap, sym, ◌∙◌, arith, lt-ltb, le-ltb, inl, inr}
use Rattle.ext_msgs.specs.declared.lists.Field.{Field}
use Rattle.hpack_core.specs.Tables.{size, total, kept, cut}
use Rattle.hpack_prim.proofs.IntegerLemmas.{below_or_not}

pub cut_stop : (room : ℕ) (e : Field) (es : List Field) → room < size e → cut room (e ∷ es) ≡ []
unfolding cut
cut_stop room e es less = rw (lt-ltb room (size e) less) refl

pub cut_more : (room left : ℕ) (e : Field) (es : List Field) → left + size e ≡ room → cut room (e ∷ es) ≡ e ∷ cut left es
unfolding cut
cut_more room left e es sum = let f : room - size e ≡ left = omega arith in rw (le-ltb room (size e) (omega arith), f) refl

pub cut-nil : (room : ℕ) → cut room [] ≡ []
unfolding cut
cut-nil room = refl

-- entries that fit all stay
pub cut_all : (room : ℕ) (es : List Field) → total es ≤ room → cut room es ≡ es
cut_all room [] fits = cut-nil room
cut_all room (e ∷ es) fits = cut_more room (room - size e) e es (omega arith) ∙ ap (λ (v : List Field). e ∷ v) (cut_all (room - size e) es (omega arith))

pub total_append : (xs ys : List Field) → total (xs ++ ys) ≡ total xs + total ys
total_append [] ys = omega arith
total_append (x ∷ xs) ys = let i = total_append xs ys in omega arith

-- the oldest of entries that don't all fit goes
pub cut_last : (room : ℕ) (es : List Field) (e : Field) → room < total (es ++ e ∷ []) → cut room (es ++ e ∷ []) ≡ cut room es
cut_last room [] e over = cut_stop room e [] (omega arith) ∙ sym (cut-nil room)
cut_last room (x ∷ es) e over = elim (below_or_not room (size x)) [
  | inl small ↦ cut_stop room x (es ++ e ∷ []) small ∙ sym (cut_stop room x es small)
  | inr fits ↦ cut_more room (room - size x) x (es ++ e ∷ []) (omega arith) ∙ ap (λ (v : List Field). x ∷ v) (cut_last (room - size x) es e (omega arith)) ∙ sym (cut_more room (room - size x) x es (omega arith))
]

pub total_kept : (es : List Field) → total es ≡ kept es + 32 * length es
total_kept [] = omega arith
total_kept (e ∷ es) = let i = total_kept es in omega arith

pub total_popped : (old new : List Field) (e : Field) → old ≡ new ++ e ∷ [] → total old ≡ total new + size e
total_popped old new e is = let t = ap total is ∙ total_append new (e ∷ []) in omega (arith, t)

pub cut_popped : (room : ℕ) (old new : List Field) (e : Field) → old ≡ new ++ e ∷ [] → room < total old → cut room new ≡ cut room old
cut_popped room old new e is over = let t : total old ≡ total (new ++ e ∷ []) = ap total is in sym (ap (cut room) is ∙ cut_last room new e (omega arith))
