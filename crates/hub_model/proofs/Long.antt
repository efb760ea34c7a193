-- No call drops an exchange.
use Rattle.std.proofs.Common.{◌∙◌, arith, length-append}
use Rattle.std.specs.Prelude.{ℕ, suc, zero, ◌+◌, ◌≡◌, ◌≤◌, Bool, true, false, not, List, [], ◌∷◌, length, take, map, replicate, Option, Some, None, refl}
use Rattle.std.proofs.lemmas.List.{length-set}
use Rattle.h2_model.specs.declared.answers.Event.{Event}
use Rattle.h2_model.specs.History.{with_byte}
use Rattle.filter_model.specs.View.{Bytes, End, Lost, Tick, Starved, Given, Sent}
use Rattle.filter_model.specs.declared.calls.Side.{Side}
use Rattle.filter_model.specs.declared.calls.Taken.{Taken}
use Rattle.filter_model.specs.declared.calls.Taken.TheVariants.{Piece, Nothing, Done, Abort, Gone}
use Rattle.hub_model.specs.HubCalls.{Handing, HubCall, HubConfig, Opened, NotOpened, Fed, Ended, PortLost, Ticked, Took, Gave, Failed, port_of, side_of}
use Rattle.hub_model.specs.World.{World, line, put, is_over}
use Rattle.hub_model.specs.Meeting.{at_each, meet}
use Rattle.hub_model.specs.Hearing.{broke, came, came_all, close_at, close_if, entry_of, grown, hear, hear_if, is_fatal, is_live_on, is_on, reset_of, tell, tell_all, tell_at, told, with_heard}
use Rattle.hub_model.specs.Sending.{after_giving, gave, newly_sent, tell_sent}
use Rattle.hub_model.specs.Happens.{close, happens, happens_at, took}
use Rattle.hub_model.proofs.Places.{meet-long, meet_all-long}

at_each-long : (n : ℕ) (f : ℕ → World → World) → ((k : ℕ) (w : World) → length (f k w).lines ≡ length w.lines) → (w : World) → length (at_each n f w).lines ≡ length w.lines
at_each-long zero f same w = refl
at_each-long (suc n) f same w = same n (at_each n f w) ∙ at_each-long n f same w

hear_if-long : (c : HubConfig) (e : Event) (k : ℕ) (w : World) (b : Bool) → length (hear_if c e k w b).lines ≡ length w.lines
unfolding hear
hear_if-long c e k w true = meet_all-long c k (map entry_of (grown c e (line k w))) (put k (with_heard e (line k w)) w) ∙ length-set w.lines k _
hear_if-long c e k w false = refl

tell_all-long : (c : HubConfig) (es : List Event) (w : World) → length (tell_all c es w).lines ≡ length w.lines
tell_all-long c [] w = refl
tell_all-long c (e ∷ es) w =
    tell_all-long c es (tell c e w) ∙ at_each-long (length w.lines) (tell_at c e) (λ k v. hear_if-long c e k v (is_on _ (line k v).stream)) w

close_if-long : (c : HubConfig) (w : World) (b : Bool) → length (close_if c w b).lines ≡ length w.lines
close_if-long c w true = at_each-long (length w.lines) (close_at c) (λ k v. hear_if-long c (reset_of (line k v).stream) k v (is_live_on (line k v).stream v.session)) w
close_if-long c w false = refl

came_all-long : (c : HubConfig) (bytes : List ℕ) (w : World) → length (came_all c bytes w).lines ≡ length w.lines
unfolding came_all
came_all-long c [] w = refl
came_all-long c (b ∷ bytes) w =
    let v : World = record w { session = told (with_byte b w.session) } in
    came_all-long c bytes (came c b w) ∙ close_if-long c (tell_all c (with_byte b w.session).unreported v) (is_fatal b w.session)
    ∙ tell_all-long c (with_byte b w.session).unreported v

broke-long : (c : HubConfig) (w : World) → length (broke c w).lines ≡ length w.lines
unfolding broke
broke-long c w = close_if-long c (record w { broken = true }) (not (is_over w))

gave-long : (c : HubConfig) (xs : List Handing) (t : Taken) (w : World) → length (gave c xs t w).lines ≡ length w.lines
unfolding gave
gave-long c xs (Piece bytes) w =
    at_each-long (length w.lines) (tell_sent c) (λ k v. meet_all-long c k (replicate (newly_sent c (line k v) (line k v).stream v.session) Sent) v) (after_giving c xs (length bytes) w)
gave-long c xs Nothing w = refl
gave-long c xs Done w = refl
gave-long c xs Abort w = refl
gave-long c xs Gone w = refl

close-long : (s : Side) (k : ℕ) (w : World) → length (close s k w).lines ≡ length w.lines
close-long s k w = length-set w.lines k _

took-long : (c : HubConfig) (s : Side) (k : ℕ) (t : Taken) (w : World) → length (took c s k t w).lines ≡ length w.lines
took-long c s k (Piece bytes) w = meet-long c k (Given s bytes) w
took-long c s k Nothing w = refl
took-long c s k Done w = close-long s k w
took-long c s k Abort w = close-long s k w
took-long c s k Gone w = refl

one_more : (n m : ℕ) → m ≡ n + 1 → n ≤ m
one_more n m e = omega arith

same : (n m : ℕ) → m ≡ n → n ≤ m
same n m e = omega arith

at_long : (c : HubConfig) (x : HubCall) (p : Option (Side × ℕ)) (w : World) → length w.lines ≤ length (happens_at c x p w).lines
at_long c (Opened y) p w = one_more (length w.lines) (length (happens_at c (Opened y) p w).lines) (length-append w.lines _)
at_long c (NotOpened fault) p w = same _ _ refl
at_long c (Ticked now) p w = same _ _ (at_each-long (length w.lines) (λ k. meet c k (Tick now)) (λ k v. meet-long c k (Tick now) v) (record w { ticks = now ∷ w.ticks }))
at_long c (Gave xs t) p w = same _ _ (gave-long c xs t w)
at_long c (Fed port bytes n) (Some p) w = same _ _ (meet-long c p.1 (Bytes p.0 (take n bytes)) w)
at_long c (Ended port) (Some p) w = same _ _ (meet-long c p.1 (End p.0) w)
at_long c (PortLost port how) (Some p) w = same _ _ (close-long p.0 p.1 (meet c p.1 (Lost p.0 how) w) ∙ meet-long c p.1 (Lost p.0 how) w)
at_long c (Took port t) (Some p) w = same _ _ (took-long c p.0 p.1 t w)
at_long c (Failed port) (Some p) w = same _ _ (meet-long c p.1 Starved w)
at_long c (Fed port bytes n) None w = same _ _ (came_all-long c (take n bytes) w)
at_long c (Ended port) None w = same _ _ (broke-long c w)
at_long c (PortLost port how) None w = same _ _ (broke-long c w)
at_long c (Took port t) None w = same _ _ refl
at_long c (Failed port) None w = same _ _ (broke-long c w)

pub long : (c : HubConfig) (x : HubCall) (w : World) → length w.lines ≤ length (happens c x w).lines
unfolding happens
long c x w = at_long c x (side_of (port_of x)) w
