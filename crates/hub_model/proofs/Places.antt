-- Where an entry of one exchange is written, and where not.
use Rattle.std.proofs.Common.{◌∙◌, ap, inl, inr, ◌⊎◌, ◌≢◌}
use Rattle.std.specs.Prelude.{ℕ, suc, zero, ◌≡◌, ◌<◌, ◌&&◌, ◌||◌, ◌==◌, not, Bool, true, false, List, [], ◌∷◌, ◌++◌, length, Option, Some, None, refl, slice_index_or, slice_set, if◌then◌else◌, nat_lt}
use Rattle.std.proofs.lemmas.Bool.{and_parts, eq-eqb, ltb-true}
use Rattle.std.proofs.lemmas.List.{get_or-set_other, length-set}
use Rattle.h2_model.specs.Calls.{is_open_here}
use Rattle.h2_model.specs.History.{Open, Finish, called}
use Rattle.filter_model.specs.View.{ViewEntry}
use Rattle.hub_model.specs.HubCalls.{HubConfig}
use Rattle.hub_model.specs.World.{EndedStream, World, Line, no_line, line, put, is_live_at, is_over, account_of}
use Rattle.hub_model.specs.Meeting.{entered, opening, opening_if, with_stream, wants_stream, can_begin, kept, placed, reset_first, ending, ending_on, end_due, with_end, meet_if, meet, meet_all}

pub set_at : {A : Type 0} (xs : List A) (j k : ℕ) (x d : A)
    → ((k ≡ j) × (slice_index_or (slice_set xs j x) k d ≡ x)) ⊎ (slice_index_or (slice_set xs j x) k d ≡ slice_index_or xs k d)
set_at [] j k x d = inr refl
set_at (y ∷ ys) zero zero x d = inl (refl, refl)
set_at (y ∷ ys) zero (suc k) x d = inr refl
set_at (y ∷ ys) (suc j) zero x d = inr refl
set_at (y ∷ ys) (suc j) (suc k) x d = elim (set_at ys j k x d) [ inl e ↦ inl (ap suc e.0, e.1) | inr e ↦ inr e ]

pub append_or_same : {A : Type 0} (xs : List A) (j : ℕ) (x d : A)
    → (slice_index_or (xs ++ x ∷ []) j d ≡ x) ⊎ (slice_index_or (xs ++ x ∷ []) j d ≡ slice_index_or xs j d)
append_or_same [] zero x d = inl refl
append_or_same [] (suc j) x d = inr refl
append_or_same (y ∷ ys) zero x d = inr refl
append_or_same (y ∷ ys) (suc j) x d = append_or_same ys j x d

pub or_false : (a b : Bool) → (a || b) ≡ false → (a ≡ false) × (b ≡ false)
or_false true b h = absurd cc
or_false false b h = (refl, h)

pub same_true : (n : ℕ) → (n == n) ≡ true
same_true n = eq-eqb n n refl

pub live_there : (k : ℕ) (w : World) → is_live_at k w ≡ true → k < length w.lines
live_there k w o = ltb-true k (length w.lines) (and_parts (nat_lt k (length w.lines)) _ o).0

-- What ends a stream changes no line

reset_first-lines : (w : World) (xs : List EndedStream) → (reset_first w xs).lines ≡ w.lines
reset_first-lines w [] = refl
reset_first-lines w (x ∷ xs) = refl

within-lines : (w : World) (b : Bool) → (if b then reset_first w (kept w) else w).lines ≡ w.lines
within-lines w true = reset_first-lines w (kept w)
within-lines w false = refl

ending-lines : (c : HubConfig) (id : ℕ) (w : World) (finish : Bool) → (ending c id w finish).lines ≡ w.lines
ending-lines c id w true =
    let v : World = record w { session = called (Finish id) w.session; ended = placed (record { call = w.calls; stream = id }) w.ended } in
    within-lines v (nat_lt c.max_ended (length (kept v)))
ending-lines c id w false = refl

ending_if-lines : (c : HubConfig) (id : ℕ) (w : World) (finish b : Bool) → (if b then ending c id w finish else w).lines ≡ w.lines
ending_if-lines c id w finish true = ending-lines c id w finish
ending_if-lines c id w finish false = refl

ending_on-lines : (c : HubConfig) (s : Option ℕ) (o : Option Bool) (w : World) → (ending_on c s o w).lines ≡ w.lines
ending_on-lines c (Some id) (Some finish) w = ending_if-lines c id w finish (is_open_here id w.session && not (is_over w))
ending_on-lines c (Some id) None w = refl
ending_on-lines c None o w = refl

pub with_end-lines : (c : HubConfig) (k : ℕ) (e : ViewEntry) (w : World) → (with_end c k e w).lines ≡ w.lines
unfolding with_end
with_end-lines c k e w = ending_on-lines c (line k w).stream (end_due e (account_of c (line k w))) w

-- An entry of one exchange leaves every other as it was

pub put-other : (k j : ℕ) (l : Line) (w : World) → j ≢ k → line j (put k l w) ≡ line j w
put-other k j l w ne = get_or-set_other w.lines k j l no_line ne

opening-other : (k j : ℕ) (w : World) (b : Bool) → j ≢ k → line j (opening k w b) ≡ line j w
opening-other k j w true ne = put-other k j _ (record w { session = called Open w.session }) ne
opening-other k j w false ne = put-other k j _ w ne

opening_if-other : (c : HubConfig) (k j : ℕ) (w : World) (b : Bool) → j ≢ k → line j (opening_if c k w b) ≡ line j w
opening_if-other c k j w true ne = opening-other k j w (can_begin c w) ne
opening_if-other c k j w false ne = refl

meet_if-other : (c : HubConfig) (k j : ℕ) (e : ViewEntry) (w : World) (b : Bool) → j ≢ k → line j (meet_if c k e w b) ≡ line j w
unfolding with_stream
meet_if-other c k j e w true ne =
    let v : World = entered k e w in
    ap (λ ls. slice_index_or ls j no_line) (with_end-lines c k e (with_stream c k v))
    ∙ opening_if-other c k j v (wants_stream c (line k v)) ne ∙ put-other k j _ w ne
meet_if-other c k j e w false ne = refl

pub meet-other : (c : HubConfig) (k j : ℕ) (e : ViewEntry) (w : World) → j ≢ k → line j (meet c k e w) ≡ line j w
unfolding meet
meet-other c k j e w ne = meet_if-other c k j e w (is_live_at k w) ne

pub meet_all-other : (c : HubConfig) (k j : ℕ) (es : List ViewEntry) (w : World) → j ≢ k → line j (meet_all c k es w) ≡ line j w
meet_all-other c k j [] w ne = refl
meet_all-other c k j (e ∷ es) w ne = meet_all-other c k j es (meet c k e w) ne ∙ meet-other c k j e w ne

-- No exchange is ever dropped

opening-long : (k : ℕ) (w : World) (b : Bool) → length (opening k w b).lines ≡ length w.lines
opening-long k w true = length-set w.lines k _
opening-long k w false = length-set w.lines k _

opening_if-long : (c : HubConfig) (k : ℕ) (w : World) (b : Bool) → length (opening_if c k w b).lines ≡ length w.lines
opening_if-long c k w true = opening-long k w (can_begin c w)
opening_if-long c k w false = refl

meet_if-long : (c : HubConfig) (k : ℕ) (e : ViewEntry) (w : World) (b : Bool) → length (meet_if c k e w b).lines ≡ length w.lines
unfolding with_stream
meet_if-long c k e w true =
    let v : World = entered k e w in
    ap length (with_end-lines c k e (with_stream c k v)) ∙ opening_if-long c k v (wants_stream c (line k v)) ∙ length-set w.lines k _
meet_if-long c k e w false = refl

pub meet-long : (c : HubConfig) (k : ℕ) (e : ViewEntry) (w : World) → length (meet c k e w).lines ≡ length w.lines
unfolding meet
meet-long c k e w = meet_if-long c k e w (is_live_at k w)

pub meet_all-long : (c : HubConfig) (k : ℕ) (es : List ViewEntry) (w : World) → length (meet_all c k es w).lines ≡ length w.lines
meet_all-long c k [] w = refl
meet_all-long c k (e ∷ es) w = meet_all-long c k es (meet c k e w) ∙ meet-long c k e w
