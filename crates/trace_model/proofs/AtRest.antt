-- Behind the last round the exchange is at rest.
use Rattle.std.proofs.Common.{refl, ap, sym, ◌∙◌}
use Rattle.std.specs.Prelude.{ℕ, ◌≡◌, Bool, true, false, not, ◌&&◌, ◌||◌, List, [], ◌∷◌, Option, Some, None, is_some, if◌then◌else◌}
use Rattle.std.specs.List.{list_any}
use Rattle.http_model.specs.Bytes.{is_empty}
use Rattle.filter_model.specs.Config.{FilterConfig}
use Rattle.filter_model.specs.Right.{Call, Took, Nexted, is_idle, is_next, is_quiet, is_take_of_client, is_take_of_upstream, while_idle}
use Rattle.filter_model.specs.View.{ViewEntry, Bytes, End, Lost, Answered, TooLong, Closed, NoStream, Tick, Starved, Sent, Given}
use Rattle.filter_model.specs.declared.calls.Next.TheVariants as next
use Rattle.filter_model.specs.declared.calls.Next.{Next}
use Rattle.filter_model.specs.declared.calls.Side.{Side}
use Rattle.filter_model.specs.declared.calls.Side.TheVariants.{Client, Upstream}
use Rattle.filter_model.specs.declared.calls.Taken.{Taken}
use Rattle.filter_model.specs.declared.calls.Taken.TheVariants as taken
use Rattle.trace_model.specs.Links.{ExchangeState, LinkState}
use Rattle.trace_model.specs.Rounds.{IsRound, Plays, Round, Taking, calls_taken, client_feed, drained, fed, gives, goes_on, is_at_rest, is_busy, is_piece, link_fed, stream_gave, up_feed}

take_idle : (s : Side) (t : Taken) → is_piece t ≡ false → is_idle (Took s t) ≡ true
take_idle s (taken.Piece bytes) e = absurd cc
take_idle s taken.Nothing e = refl
take_idle s taken.Done e = refl
take_idle s taken.Abort e = refl
take_idle s taken.Gone e = refl

idle_first : (x : Call) (h : List Call) → is_idle x ≡ true → while_idle (x ∷ h) ≡ x ∷ while_idle h
idle_first x h e = ap (λ b. if b then x ∷ while_idle h else []) e

-- a port that isn't held and gave no piece: its last answer is the last call
taken_once : (held : Bool) (s : Side) (t : Taking) (h : List Call) → gives held t ≡ false → held ≡ false → calls_taken held s t h ≡ Took s t.last ∷ h
taken_once false s t h e i = by t.pieces e
  where
    by : (pieces : List (List ℕ)) → not (is_empty pieces) ≡ false → calls_taken false s (record { pieces = pieces; last = t.last }) h ≡ Took s t.last ∷ h
    by [] e = refl
    by (p ∷ ps) e = absurd cc
taken_once true s t h e i = absurd cc

abbrev is_rest : (client up : Bool) (last : List Call) → Bool
is_rest client up last = (client || list_any is_take_of_client last) && (up || list_any is_take_of_upstream last) && list_any is_next last

-- the last three calls
last_calls : (client up : Bool) (tc tu : Taking) (h : List Call) → is_piece tc.last ≡ false → is_piece tu.last ≡ false → gives client tc ≡ false → gives up tu ≡ false
    → is_rest client up (while_idle (Nexted next.Nothing ∷ calls_taken up Upstream tu (calls_taken client Client tc h))) ≡ true
last_calls true true tc tu h a b d e = refl
last_calls false true tc tu h a b d e =
    ap (λ l. is_rest false true (Nexted next.Nothing ∷ while_idle l)) (taken_once false Client tc h d refl)
    ∙ ap (λ l. is_rest false true (Nexted next.Nothing ∷ l)) (idle_first (Took Client tc.last) h (take_idle Client tc.last a))
last_calls true false tc tu h a b d e =
    ap (λ l. is_rest true false (Nexted next.Nothing ∷ while_idle l)) (taken_once false Upstream tu h e refl)
    ∙ ap (λ l. is_rest true false (Nexted next.Nothing ∷ l)) (idle_first (Took Upstream tu.last) h (take_idle Upstream tu.last b))
last_calls false false tc tu h a b d e =
    ap (λ l. is_rest false false (Nexted next.Nothing ∷ while_idle l)) (taken_once false Upstream tu (calls_taken false Client tc h) e refl)
    ∙ ap (λ l. is_rest false false (Nexted next.Nothing ∷ l)) (idle_first (Took Upstream tu.last) (calls_taken false Client tc h) (take_idle Upstream tu.last b))
    ∙ ap (λ l. is_rest false false (Nexted next.Nothing ∷ Took Upstream tu.last ∷ while_idle l)) (taken_once false Client tc h d refl)
    ∙ ap (λ l. is_rest false false (Nexted next.Nothing ∷ Took Upstream tu.last ∷ l)) (idle_first (Took Client tc.last) h (take_idle Client tc.last a))

-- feeding holds and frees no port

held_fed : (o : Option ViewEntry) (k : LinkState) → (link_fed o k).held ≡ k.held
held_fed None k = refl
held_fed (Some (Bytes s bytes)) k = refl
held_fed (Some (End s)) k = refl
held_fed (Some (Lost s how)) k = refl
held_fed (Some (Answered x)) k = refl
held_fed (Some TooLong) k = refl
held_fed (Some (Closed clean)) k = refl
held_fed (Some NoStream) k = refl
held_fed (Some (Tick n)) k = refl
held_fed (Some Starved) k = refl
held_fed (Some Sent) k = refl
held_fed (Some (Given s bytes)) k = refl

-- what is needed of a round that does nothing
record Idle (client up : Bool) (r : Round) : Type 0 where
  to_client : gives client r.client ≡ false
  to_up : gives up r.up ≡ false
  nexts : r.nexts ≡ []

none_of : (xs : List Next) → not (is_empty xs) ≡ false → xs ≡ []
none_of [] e = refl
none_of (x ∷ xs) e = absurd cc

idle_round : (c : FilterConfig) (r : Round) (x : ExchangeState) → is_busy c r x ≡ false → Idle x.client.held x.up.held r
idle_round c r x e =
    let k = by (is_some (client_feed c x)) (is_some (up_feed c x)) (gives x.client.held r.client) (gives x.up.held r.up) (not (is_empty r.nexts)) e in
    record { to_client = k.0; to_up = k.1; nexts = none_of r.nexts k.2 }
  where
    by : (p q s t u : Bool) → (p || q || s || t || u) ≡ false → (s ≡ false) × (t ≡ false) × (u ≡ false)
    by false false false false false e = (refl, refl, refl)
    by true q s t u e = absurd cc
    by false true s t u e = absurd cc
    by false false true t u e = absurd cc
    by false false false true u e = absurd cc
    by false false false false true e = absurd cc

last_rests : (c : FilterConfig) (r : Round) (x : ExchangeState) → IsRound r → is_busy c r x ≡ false → is_at_rest (drained r (fed c x)) ≡ true
unfolding drained fed
last_rests c r x i e =
    let k = idle_round c r x e in
    let z : ExchangeState = fed c x in
    let client = held_fed (client_feed c x) x.client in
    let up = held_fed (up_feed c x) x.up in
    ap (λ nexts. is_rest z.client.held z.up.held (while_idle (Nexted next.Nothing ∷ stream_gave nexts (calls_taken z.up.held Upstream r.up (calls_taken z.client.held Client r.client z.calls))))) k.nexts
    ∙ last_calls z.client.held z.up.held r.client r.up z.calls i.client.ends i.up.ends (ap (λ b. gives b r.client) client ∙ k.to_client) (ap (λ b. gives b r.up) up ∙ k.to_up)

pub rests : (c : FilterConfig) (rounds : List Round) (x y : ExchangeState) → Plays c rounds x y → is_empty rounds ≡ false → is_at_rest y ≡ true
rests c [] x y p e = absurd cc
rests c (r ∷ rounds) x y p e = by (is_busy c r x) refl p.1 (λ g. rests c rounds (drained r (fed c x)) y p.2 g)
  where
    ended : (rounds : List Round) → rounds ≡ [] → Plays c rounds (drained r (fed c x)) y → y ≡ drained r (fed c x)
    ended [] e p = p
    ended (r ∷ rounds) e p = absurd cc

    by : (b : Bool) → is_busy c r x ≡ b → goes_on b rounds → (is_empty rounds ≡ false → is_at_rest y ≡ true) → is_at_rest y ≡ true
    by true i g k = k g
    by false i g k = ap is_at_rest (ended rounds g p.2) ∙ last_rests c r x p.0 i

pub quiet_there : (x : ExchangeState) → is_at_rest x ≡ true → x.client.held ≡ false → x.up.held ≡ false → is_quiet x.calls ≡ true
quiet_there x e client up =
    let last : List Call = while_idle x.calls in
    ap (λ b. is_rest b false last) (sym client) ∙ ap (λ b. is_rest x.client.held b last) (sym up) ∙ e
