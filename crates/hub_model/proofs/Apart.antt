-- Bytes of the processor that bring nothing on a stream leave its exchange as it was.
use Rattle.std.proofs.Common.{◌∙◌, ap, subst, inl, inr, ◌≢◌}
use Rattle.std.specs.Prelude.{ℕ, suc, zero, ◌≡◌, ◌||◌, Bool, true, false, List, [], ◌∷◌, length, map, refl}
use Rattle.std.specs.List.{list_any}
use Rattle.std.proofs.lemmas.Bool.{cases_eq}
use Rattle.h2_model.specs.declared.answers.Event.{Event}
use Rattle.h2_model.specs.Account.{Account}
use Rattle.h2_model.specs.Log.{stream_of_event}
use Rattle.h2_model.specs.History.{with_byte}
use Rattle.hub_model.specs.HubCalls.{HubConfig}
use Rattle.hub_model.specs.World.{World, Line, line, put}
use Rattle.hub_model.specs.Meeting.{at_each}
use Rattle.hub_model.specs.Hearing.{entry_of, grown, hear, hear_if, is_on, tell, tell_all, tell_at, with_heard, close_if, came, came_all, is_fatal, told}
use Rattle.hub_model.specs.Apart.{brings}
use Rattle.hub_model.proofs.Places.{meet_all-other, or_false, put-other}

hear-other : (c : HubConfig) (e : Event) (k j : ℕ) (w : World) → j ≢ k → line j (hear c e k w) ≡ line j w
unfolding hear
hear-other c e k j w ne =
    meet_all-other c k j (map entry_of (grown c e (line k w))) (put k (with_heard e (line k w)) w) ne ∙ put-other k j (with_heard e (line k w)) w ne

hear_if-other : (c : HubConfig) (e : Event) (k j : ℕ) (w : World) (b : Bool) → j ≢ k → line j (hear_if c e k w b) ≡ line j w
hear_if-other c e k j w true ne = hear-other c e k j w ne
hear_if-other c e k j w false ne = refl

hear_if-not : (c : HubConfig) (e : Event) (k : ℕ) (w : World) (b : Bool) → b ≡ false → hear_if c e k w b ≡ w
hear_if-not c e k w true h = absurd cc
hear_if-not c e k w false h = refl

tell_at-apart : (c : HubConfig) (e : Event) (k j : ℕ) (w : World) → is_on (stream_of_event e) (line j w).stream ≡ false → line j (tell_at c e k w) ≡ line j w
tell_at-apart c e k j w h = elim (cases_eq j k) [
  | inl same ↦ ap (line j) (hear_if-not c e k w _ (subst (λ i. is_on (stream_of_event e) (line i w).stream ≡ false) same h))
  | inr ne ↦ hear_if-other c e k j w (is_on (stream_of_event e) (line k w).stream) ne
]

tell_each-apart : (n : ℕ) (c : HubConfig) (e : Event) (j : ℕ) (w : World) → is_on (stream_of_event e) (line j w).stream ≡ false
    → line j (at_each n (tell_at c e) w) ≡ line j w
tell_each-apart zero c e j w h = refl
tell_each-apart (suc n) c e j w h =
    let v : World = at_each n (tell_at c e) w in
    let s : line j v ≡ line j w = tell_each-apart n c e j w h in
    tell_at-apart c e n j v (ap (λ (l : Line). is_on (stream_of_event e) l.stream) s ∙ h) ∙ s

tell_all-apart : (c : HubConfig) (es : List Event) (j : ℕ) (w : World) → list_any (λ e. is_on (stream_of_event e) (line j w).stream) es ≡ false
    → line j (tell_all c es w) ≡ line j w
tell_all-apart c [] j w h = refl
tell_all-apart c (e ∷ es) j w h =
    let both = or_false (is_on (stream_of_event e) (line j w).stream) (list_any (λ x. is_on (stream_of_event x) (line j w).stream) es) h in
    let s : line j (tell c e w) ≡ line j w = tell_each-apart (length w.lines) c e j w both.0 in
    tell_all-apart c es j (tell c e w) (ap (λ (l : Line). list_any (λ x. is_on (stream_of_event x) l.stream) es) s ∙ both.1) ∙ s

close_if-not : (c : HubConfig) (w : World) (b : Bool) → b ≡ false → close_if c w b ≡ w
close_if-not c w true h = absurd cc
close_if-not c w false h = refl

pub came_all-apart : (c : HubConfig) (bytes : List ℕ) (j : ℕ) (w : World) → brings c (line j w).stream bytes w ≡ false → line j (came_all c bytes w) ≡ line j w
unfolding came_all
came_all-apart c [] j w h = refl
came_all-apart c (b ∷ bytes) j w h =
    let a : Account = with_byte b w.session in
    let v : World = record w { session = told a } in
    let first = or_false (list_any (λ e. is_on (stream_of_event e) (line j w).stream) a.unreported) (is_fatal b w.session || brings c (line j w).stream bytes (came c b w)) h in
    let then = or_false (is_fatal b w.session) (brings c (line j w).stream bytes (came c b w)) first.1 in
    let s : line j (came c b w) ≡ line j w =
    ap (line j) (close_if-not c (tell_all c a.unreported v) (is_fatal b w.session) then.0) ∙ tell_all-apart c a.unreported j v first.0 in
    came_all-apart c bytes j (came c b w) (ap (λ (l : Line). brings c l.stream bytes (came c b w)) s ∙ then.1) ∙ s
