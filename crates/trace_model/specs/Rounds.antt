-- The rounds that follow each line of a message trace: links are fed as there is room, and ports are taken from until
-- a round does nothing.
use Rattle.std.specs.Prelude.{ℕ, zero, suc, ◌≡◌, ◌≤◌, Bool, true, false, not, ◌&&◌, ◌||◌, List, [], ◌∷◌, length, take, drop, Option, Some, None, is_some, if◌then◌else◌}
use Rattle.std.specs.List.{All, list_any}
use Rattle.http_model.specs.Bytes.{is_empty}
use Rattle.filter_model.specs.Config.{FilterConfig}
use Rattle.filter_model.specs.Right.{Call, Stepped, Took, Nexted, account, is_next, is_take_of_client, is_take_of_upstream, while_idle}
use Rattle.filter_model.specs.Step.{room}
use Rattle.filter_model.specs.View.{ViewEntry, Bytes, End, Sent}
use Rattle.filter_model.specs.declared.calls.Side.{Side}
use Rattle.filter_model.specs.declared.calls.Side.TheVariants.{Client, Upstream}
use Rattle.filter_model.specs.declared.calls.Taken.{Taken}
use Rattle.filter_model.specs.declared.calls.Taken.TheVariants as taken
use Rattle.filter_model.specs.declared.calls.Next.{Next}
use Rattle.filter_model.specs.declared.calls.Next.TheVariants as next
use Rattle.trace_model.specs.Links.{LinkState, ExchangeState}

-- Feeding

-- where there is room: as many bytes as wait and fit, or the end behind the last, once
abbrev pub feed_in : ℕ → Side → LinkState → Option ViewEntry
feed_in zero s k = None
feed_in (suc n) s k =
    if is_empty k.waiting then (if k.ended && not k.told then Some (End s) else None)
    else Some (Bytes s (take (suc n) k.waiting))

abbrev pub feed_of : FilterConfig → Side → List Call → LinkState → Option ViewEntry
feed_of c s h k = feed_in (room c (account c h) s) s k

abbrev pub calls_fed : Option ViewEntry → List Call → List Call
calls_fed None h = h
calls_fed (Some e) h = Stepped e ∷ h

abbrev pub link_fed : Option ViewEntry → LinkState → LinkState
link_fed (Some (Bytes s bytes)) k = record k { waiting = drop (length bytes) k.waiting }
link_fed (Some (End s)) k = record k { told = true }
link_fed _ k = k

-- Taking

-- so many pieces, oldest first
abbrev pub gave : Side → List (List ℕ) → List Call → List Call
gave s [] h = h
gave s (bytes ∷ pieces) h = gave s pieces (Took s (taken.Piece bytes) ∷ h)

-- what a port gave until it gave no piece
pub record Taking : Type 0 where
  pub pieces : List (List ℕ)  -- oldest first
  pub last : Taken  -- what it answered then

abbrev pub is_piece : Taken → Bool
is_piece (taken.Piece bytes) = true
is_piece _ = false

abbrev pub is_short : List ℕ → Type 0
is_short bytes = length bytes ≤ 16_384

pub record IsWholeTaking (t : Taking) : Type 0 where
  pub short : All is_short t.pieces
  pub ends : is_piece t.last ≡ false

-- nothing of a port that is held
abbrev pub calls_taken : Bool → Side → Taking → List Call → List Call
calls_taken true s t h = h
calls_taken false s t h = Took s t.last ∷ gave s t.pieces h

-- The processor's stream

-- an ask that was given is sent at once
abbrev pub calls_given : Next → List Call → List Call
calls_given (next.Ask bytes) h = Stepped Sent ∷ Nexted (next.Ask bytes) ∷ h
calls_given n h = Nexted n ∷ h

-- what it is given, oldest first, until nothing is due
abbrev pub stream_gave : List Next → List Call → List Call
stream_gave [] h = h
stream_gave (n ∷ nexts) h = stream_gave nexts (calls_given n h)

abbrev pub is_nothing : Next → Bool
is_nothing next.Nothing = true
is_nothing _ = false

-- A round

pub record Round : Type 0 where
  pub client : Taking
  pub up : Taking
  pub nexts : List Next  -- before it answers that nothing is due

pub record IsRound (r : Round) : Type 0 where
  pub client : IsWholeTaking r.client
  pub up : IsWholeTaking r.up
  pub nexts : All (λ n. is_nothing n ≡ false) r.nexts

-- the client's link is fed, and then the upstream's
abbrev pub client_feed : FilterConfig → ExchangeState → Option ViewEntry
client_feed c x = feed_of c Client x.calls x.client

abbrev pub up_feed : FilterConfig → ExchangeState → Option ViewEntry
up_feed c x = feed_of c Upstream (calls_fed (client_feed c x) x.calls) x.up

unfoldable pub fed : FilterConfig → ExchangeState → ExchangeState
fed c x = record x {
  calls = calls_fed (up_feed c x) (calls_fed (client_feed c x) x.calls);
  client = link_fed (client_feed c x) x.client;
  up = link_fed (up_feed c x) x.up;
}

-- then the client's port is taken from, the upstream's, and the processor's stream
unfoldable pub drained : Round → ExchangeState → ExchangeState
drained r x = record x {
  calls = Nexted next.Nothing ∷ stream_gave r.nexts (calls_taken x.up.held Upstream r.up (calls_taken x.client.held Client r.client x.calls));
}

abbrev pub gives : Bool → Taking → Bool
gives held t = not held && not (is_empty t.pieces)

abbrev pub is_busy : FilterConfig → Round → ExchangeState → Bool
is_busy c r x =
    is_some (client_feed c x) || is_some (up_feed c x) || gives x.client.held r.client || gives x.up.held r.up
    || not (is_empty r.nexts)

-- Rounds until one does nothing

-- whether there is another
abbrev pub goes_on : Bool → List Round → Type 0
goes_on true rounds = is_empty rounds ≡ false
goes_on false rounds = rounds ≡ []

abbrev pub Plays : FilterConfig → List Round → ExchangeState → ExchangeState → Type 0
Plays c [] x y = y ≡ x
Plays c (r ∷ rounds) x y =
    IsRound r × goes_on (is_busy c r x) rounds × Plays c rounds (drained r (fed c x)) y

-- At rest

abbrev pub is_at_rest : ExchangeState → Bool
is_at_rest x =
    let last : List Call = while_idle x.calls in
    (x.client.held || list_any is_take_of_client last) && (x.up.held || list_any is_take_of_upstream last)
    && list_any is_next last
