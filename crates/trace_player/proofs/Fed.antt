-- What is fed of a link, by the room that there is.
use Rattle.std.proofs.Common.{refl, sym, ◌∙◌, ap, subst, arith}
use Rattle.std.proofs.lemmas.List.{length-take, take_all}
use Rattle.std.specs.Prelude.{ℕ, ◌≡◌, ◌≤◌, true, false, not, ◌&&◌, List, length, take, drop, min, Option, Some, None, if◌then◌else◌}
use Rattle.http_model.specs.Bytes.{is_empty}
use Rattle.filter_model.specs.Config.{FilterConfig}
use Rattle.filter_model.specs.Right.{Call, account}
use Rattle.filter_model.specs.Step.{room}
use Rattle.filter_model.specs.View.{Bytes, End, ViewEntry}
use Rattle.filter_model.specs.declared.calls.Side.{Side}
use Rattle.exchange.specs.Stands.{IsAfter}
use Rattle.exchange.specs.declared.exchange.Exchange.{Exchange}
use Rattle.trace_model.specs.Links.{LinkState}
use Rattle.trace_model.specs.Rounds.{calls_fed, feed_in, feed_of, link_fed}

no_room : (n : ℕ) (s : Side) (k : LinkState) → n ≡ 0 → feed_in n s k ≡ None
no_room n s k e = ap (λ m. feed_in m s k) e

none_due : (n : ℕ) (s : Side) (k : LinkState) → is_empty k.waiting ≡ true → (k.ended && not k.told) ≡ false → feed_in n s k ≡ None
none_due ℕ.zero s k e f = refl
none_due (ℕ.suc n) s k e f =
    ap (λ b. if b then (if k.ended && not k.told then Some (End s) else None) else Some (Bytes s (take (ℕ.suc n) k.waiting))) e
    ∙ ap (λ b. if b then Some (End s) else None) f

bytes_due : (n : ℕ) (s : Side) (k : LinkState) → (n ≡ 0 → ⊥) → is_empty k.waiting ≡ false → feed_in n s k ≡ Some (Bytes s (take n k.waiting))
bytes_due ℕ.zero s k z e = absurd (z refl)
bytes_due (ℕ.suc n) s k z e =
    ap (λ b. if b then (if k.ended && not k.told then Some (End s) else None) else Some (Bytes s (take (ℕ.suc n) k.waiting))) e

end_due : (n : ℕ) (s : Side) (k : LinkState) → (n ≡ 0 → ⊥) → is_empty k.waiting ≡ true → (k.ended && not k.told) ≡ true → feed_in n s k ≡ Some (End s)
end_due ℕ.zero s k z e f = absurd (z refl)
end_due (ℕ.suc n) s k z e f =
    ap (λ b. if b then (if k.ended && not k.told then Some (End s) else None) else Some (Bytes s (take (ℕ.suc n) k.waiting))) e
    ∙ ap (λ b. if b then Some (End s) else None) f

-- By the room that the exchange answers

pub without_room : (c : FilterConfig) (s : Side) (h : List Call) (k : LinkState) (r : ℕ) → r ≡ room c (account c h) s → r ≡ 0 → feed_of c s h k ≡ None
without_room c s h k r e z = no_room (room c (account c h) s) s k (sym e ∙ z)

pub without_end : (c : FilterConfig) (s : Side) (h : List Call) (k : LinkState) → is_empty k.waiting ≡ true → (k.ended && not k.told) ≡ false
    → feed_of c s h k ≡ None
without_end c s h k e f = none_due (room c (account c h) s) s k e f

pub with_end : (c : FilterConfig) (s : Side) (h : List Call) (k : LinkState) (r : ℕ) → r ≡ room c (account c h) s → (r ≡ 0 → ⊥) → is_empty k.waiting ≡ true
    → (k.ended && not k.told) ≡ true → feed_of c s h k ≡ Some (End s)
with_end c s h k r e z w f = ap (λ m. feed_in m s k) (sym e) ∙ end_due r s k z w f

-- The front of what waits is fed, all of it

all_taken : (n r : ℕ) (bytes : List ℕ) → n ≡ min (length bytes) r → length bytes ≤ r → take n bytes ≡ bytes
all_taken n r bytes e l = take_all n bytes (omega (arith, e, l))

front_short : (r : ℕ) (bytes : List ℕ) → length (take r bytes) ≤ r
front_short r bytes = let k : length (take r bytes) ≡ min r (length bytes) = length-take r bytes in omega (arith, k)

pub front_within : (r n m : ℕ) (front bytes : List ℕ) → front ≡ take r bytes → n ≡ min (length front) m → n ≤ length bytes
front_within r n m front bytes f g =
    let k : length (take r bytes) ≡ min r (length bytes) = length-take r bytes in
    let same : length front ≡ length (take r bytes) = ap length f in
    omega (arith, k, same, g)

pub with_front : (c : FilterConfig) (s : Side) (h : List Call) (k : LinkState) (front : List ℕ) (n r : ℕ) → r ≡ room c (account c h) s → (r ≡ 0 → ⊥)
    → is_empty k.waiting ≡ false → front ≡ take r k.waiting → n ≡ min (length front) (room c (account c h) s)
    → feed_of c s h k ≡ Some (Bytes s (take n front))
with_front c s h k front n r e z w f g =
    let short : length front ≤ r = subst (λ l. length l ≤ r) (sym f) (front_short r k.waiting) in
    ap (λ m. feed_in m s k) (sym e) ∙ bytes_due r s k z w ∙ ap (λ l. Some (Bytes s l)) (sym f ∙ sym (all_taken n r front (g ∙ ap (min (length front)) (sym e)) short))

pub behind_front : (c : FilterConfig) (s : Side) (h : List Call) (k : LinkState) (front : List ℕ) (n r : ℕ) → r ≡ room c (account c h) s → (r ≡ 0 → ⊥)
    → is_empty k.waiting ≡ false → front ≡ take r k.waiting → n ≡ min (length front) (room c (account c h) s)
    → record k { waiting = drop n k.waiting } ≡ link_fed (feed_of c s h k) k
behind_front c s h k front n r e z w f g =
    let short : length front ≤ r = subst (λ l. length l ≤ r) (sym f) (front_short r k.waiting) in
    let same : take n front ≡ front = all_taken n r front (g ∙ ap (min (length front)) (sym e)) short in
    let much : n ≡ length (take n front) = omega (arith, g, e, short, ap length same) in
    ap (λ m. record k { waiting = drop m k.waiting }) much ∙ sym (ap (λ o. link_fed o k) (with_front c s h k front n r e z w f g))

-- What is fed is told

pub fed_on : (c : FilterConfig) (h : List Call) (x : Exchange) (e f : Option ViewEntry) → e ≡ f → IsAfter c (calls_fed f h) x → IsAfter c (calls_fed e h) x
fed_on c h x e f same a = subst (λ o. IsAfter c (calls_fed o h) x) (sym same) a
