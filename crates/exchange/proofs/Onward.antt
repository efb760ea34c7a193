-- What an ask that was sent, and bytes that were given, leave of a live account.
use Rattle.std.proofs.Common.{refl, sym, ◌∙◌, ap, arith, append-nil}
use Rattle.std.proofs.Math.Seq.{drop-length}
use Rattle.std.specs.Prelude.{ℕ, ◌≡◌, ◌+◌, ◌≤◌, Bool, true, false, ◌||◌, List, [], ◌∷◌, ◌++◌, length, drop, map, if◌then◌else◌}
use Rattle.http_model.specs.declared.types.Direction.{Direction}
use Rattle.http_model.specs.declared.types.Direction.TheVariants.{Request, Response}
use Rattle.filter_model.specs.Account.{ExchangeAccount, course, flow, front, from, gathered, is_finished, is_in, is_out_in, is_released, is_to_head, settled, to, unsent}
use Rattle.filter_model.specs.Answers.{answered, ask_of, asked_in}
use Rattle.filter_model.specs.Config.{FilterConfig}
use Rattle.filter_model.specs.Course.{Course}
use Rattle.filter_model.specs.Half as half
use Rattle.filter_model.specs.Right.{Call, Stepped, Took, IsHistory, account}
use Rattle.filter_model.specs.Step.{accepted, after, is_live, no_cut, on, step, step_if, under_cut, under_departure, with_ending}
use Rattle.filter_model.specs.Told.{IsNoCut, asks_behind, known, told}
use Rattle.filter_model.specs.ToldMore.{BringsNoAnswer, SameRest, across}
use Rattle.filter_model.specs.View.{ViewEntry, Sent, Given}
use Rattle.filter_model.specs.declared.calls.Side.{Side}
use Rattle.filter_model.specs.declared.calls.Side.TheVariants.{Client, Upstream}
use Rattle.filter_model.specs.declared.calls.Taken.TheVariants.{Piece}
use Rattle.filter_model.proofs.FewAsks.{asks_turn, few_unsent}
use Rattle.filter_model.proofs.NeverOver.{given_no_cut, sent_no_cut}
use Rattle.filter_model.proofs.RestStays.{ending_is, rest_stays, same_fate, timer_is}
use Rattle.filter_model.proofs.ToldEntry.{made_is}
use Rattle.filter_model.proofs.ToldOthers.{given_other, sent_told}
use Rattle.exchange.specs.Answering.{unsettled}
use Rattle.filter_model.specs.InTurn.{asks_in}
use Rattle.exchange.specs.Stands.{source_of}

-- an entry of what went out
abbrev pub IsOut : ViewEntry → Type 0
IsOut Sent = Unit {0}
IsOut (Given s bytes) = Unit {0}
IsOut _ = ⊥

taken_as : (c : FilterConfig) (e : ViewEntry) (a : ExchangeAccount) → IsOut e → (b : Bool) → accepted c e a b ≡ a
unfolding answered
taken_as c e a s true = refl
taken_as c Sent a s false = refl
taken_as c (Given side bytes) a s false = refl
taken_as c _ a s false = absurd s

step_is : (c : FilterConfig) (e : ViewEntry) (a : ExchangeAccount) → IsOut e → IsNoCut c e a
    → step c e a ≡ with_ending c (asked_in c Response (asked_in c Request (settled c (gathered e a))))
unfolding step on no_cut under_cut
step_is c e a s n =
    let g : ExchangeAccount = gathered e a in
    ap (step_if c e a) n.live ∙ ap (λ b. with_ending c (under_departure c e g b)) n.stays ∙ ap (λ k. with_ending c (under_cut c e g k)) n.none
    ∙ ap (λ x. with_ending c (asked_in c Response (asked_in c Request (settled c x)))) (taken_as c e g s (is_released g || is_finished c g))

made_after : (c : FilterConfig) (e : ViewEntry) (a : ExchangeAccount) → IsOut e → IsNoCut c e a
    → (step c e a).made ≡ (a.made ++ asks_behind Request a.request.course (step c e a).request.course) ++ asks_behind Response a.response.course (step c e a).response.course
unfolding gathered
made_after c Sent a s n =
    ap (λ x. x.made) (step_is c Sent a s n) ∙ made_is c (gathered Sent a)
    ∙ ap (λ b. (a.made ++ asks_behind Request a.request.course b.request.course) ++ asks_behind Response a.response.course b.response.course) (sym (step_is c Sent a s n))
made_after c (Given Client bytes) a s n =
    ap (λ x. x.made) (step_is c (Given Client bytes) a s n) ∙ made_is c (gathered (Given Client bytes) a)
    ∙ ap (λ b. (a.made ++ asks_behind Request a.request.course b.request.course) ++ asks_behind Response a.response.course b.response.course) (sym (step_is c (Given Client bytes) a s n))
made_after c (Given Upstream bytes) a s n =
    ap (λ x. x.made) (step_is c (Given Upstream bytes) a s n) ∙ made_is c (gathered (Given Upstream bytes) a)
    ∙ ap (λ b. (a.made ++ asks_behind Request a.request.course b.request.course) ++ asks_behind Response a.response.course b.response.course) (sym (step_is c (Given Upstream bytes) a s n))
made_after c _ a s n = absurd s

-- what it brings changes nothing that is read
pub record Unread (a g : ExchangeAccount) : Type 0 where
  pub source : (d : Direction) → source_of d g ≡ source_of d a
  pub front : (d : Direction) → front d g ≡ front d a
  pub lost : (d : Direction) → (flow d g).lost ≡ (flow d a).lost
  pub now : g.now ≡ a.now
  pub unopened : g.unopened ≡ a.unopened
  pub closed : g.closed ≡ a.closed
  pub to_head : is_to_head g ≡ is_to_head a

pub unread_sent : (a : ExchangeAccount) → Unread a (gathered Sent a)
unfolding gathered
unread_sent a = record {
  source = by_source;
  front = by_front;
  lost = by_lost;
  now = refl;
  unopened = refl;
  closed = refl;
  to_head = refl;
}
  where
    by_source : (d : Direction) → source_of d (gathered Sent a) ≡ source_of d a
    by_source Request = refl
    by_source Response = refl

    by_front : (d : Direction) → front d (gathered Sent a) ≡ front d a
    by_front Request = refl
    by_front Response = refl

    by_lost : (d : Direction) → (flow d (gathered Sent a)).lost ≡ (flow d a).lost
    by_lost Request = refl
    by_lost Response = refl

pub unread_given : (s : Side) (bytes : List ℕ) (a : ExchangeAccount) → Unread a (gathered (Given s bytes) a)
unfolding gathered
unread_given s bytes a = record {
  source = by_source s;
  front = by_front s;
  lost = by_lost s;
  now = refl;
  unopened = refl;
  closed = refl;
  to_head = by_head s;
}
  where
    by_source : (s : Side) (d : Direction) → source_of d (gathered (Given s bytes) a) ≡ source_of d a
    by_source Client Request = refl
    by_source Client Response = refl
    by_source Upstream Request = refl
    by_source Upstream Response = refl

    by_front : (s : Side) (d : Direction) → front d (gathered (Given s bytes) a) ≡ front d a
    by_front Client Request = refl
    by_front Client Response = refl
    by_front Upstream Request = refl
    by_front Upstream Response = refl

    by_lost : (s : Side) (d : Direction) → (flow d (gathered (Given s bytes) a)).lost ≡ (flow d a).lost
    by_lost Client Request = refl
    by_lost Client Response = refl
    by_lost Upstream Request = refl
    by_lost Upstream Response = refl

    by_head : (s : Side) → is_to_head (gathered (Given s bytes) a) ≡ is_to_head a
    by_head Client = refl
    by_head Upstream = refl

-- An account b behind a, in which one direction was told something

pub record Onward (c : FilterConfig) (d : Direction) (g a b : ExchangeAccount) : Type 0 where
  pub live : is_live a.fate ≡ true
  pub unread : Unread a g
  pub rest : SameRest g b
  pub fate : b.fate ≡ a.fate
  pub timer : (d' : Direction) → ((flow d' b).deadline ≡ (if is_out_in a d' then (flow d' a).deadline else g.now + c.timeout_ms))
      × ((flow d' b).extended ≡ (flow d' a).extended)
  pub made : b.made ≡ a.made ++ asks_behind d (course d a) (course d b)
  pub other : known (course (across d) b) ≡ known (course (across d) a)
  pub asks : (d' : Direction) → asks_in d' b.made ≡ map (ask_of d') (course d' b).asks
  pub few : length b.made ≤ b.sent + 8
  pub ending : b.ending ≡ a.ending

pub settled_is : (c : FilterConfig) (e : ViewEntry) (a : ExchangeAccount) → is_live a.fate ≡ true → with_ending c (unsettled c e a) ≡ step c e a
unfolding with_ending
settled_is c e a l = ap (λ o. record (step c e a) { ending = o }) (sym (ending_is c e a l))

pub none_behind : (d : Direction) (w w' : Course) → known w' ≡ known w → asks_behind d w w' ≡ []
none_behind d w w' e = ap (λ (x : Course). map (ask_of d) (drop (length w.asks) x.asks)) e ∙ ap (map (ask_of d)) (drop-length w.asks)

own_made : (d : Direction) (a b : ExchangeAccount) → b.made ≡ (a.made ++ asks_behind Request a.request.course b.request.course) ++ asks_behind Response a.response.course b.response.course
    → known (course (across d) b) ≡ known (course (across d) a) → b.made ≡ a.made ++ asks_behind d (course d a) (course d b)
own_made Request a b e k = e ∙ ap (λ l. (a.made ++ asks_behind Request a.request.course b.request.course) ++ l) (none_behind Response a.response.course b.response.course k) ∙ append-nil _
own_made Response a b e k =
    e ∙ ap (λ l. (a.made ++ l) ++ asks_behind Response a.response.course b.response.course) (none_behind Request a.request.course b.request.course k)
    ∙ ap (λ l. l ++ asks_behind Response a.response.course b.response.course) (append-nil a.made)

onward : (c : FilterConfig) (h : List Call) (e : ViewEntry) (d : Direction) (call : Call) → account c (call ∷ h) ≡ step c e (account c h) → IsOut e → BringsNoAnswer e
    → Unread (account c h) (gathered e (account c h)) → IsNoCut c e (account c h) → known (course (across d) (step c e (account c h))) ≡ known (course (across d) (account c h))
    → Onward c d (gathered e (account c h)) (account c h) (unsettled c e (account c h))
onward c h e d call k o i u n z =
    let a : ExchangeAccount = account c h in
    let rest : SameRest (gathered e a) (step c e a) = rest_stays c e a n.live in
    record {
      live = n.live;
      unread = u;
      rest = record { request = rest.request; response = rest.response; sent = rest.sent; now = rest.now; unopened = rest.unopened; closed = rest.closed };
      fate = same_fate c e a n;
      timer = by_timer;
      made = by_made d z;
      other = by_other d z;
      asks = by_asks;
      few = by_few;
      ending = refl;
    }
  where
    by_timer : (d' : Direction) → ((flow d' (unsettled c e (account c h))).deadline ≡ (if is_out_in (account c h) d' then (flow d' (account c h)).deadline else (gathered e (account c h)).now + c.timeout_ms))
        × ((flow d' (unsettled c e (account c h))).extended ≡ (flow d' (account c h)).extended)
    by_timer Request = timer_is c e (account c h) i n Request
    by_timer Response = timer_is c e (account c h) i n Response

    by_made : (d : Direction) → known (course (across d) (step c e (account c h))) ≡ known (course (across d) (account c h))
        → (step c e (account c h)).made ≡ (account c h).made ++ asks_behind d (course d (account c h)) (course d (unsettled c e (account c h)))
    by_made Request z = own_made Request (account c h) (step c e (account c h)) (made_after c e (account c h) o n) z
    by_made Response z = own_made Response (account c h) (step c e (account c h)) (made_after c e (account c h) o n) z

    by_other : (d : Direction) → known (course (across d) (step c e (account c h))) ≡ known (course (across d) (account c h))
        → known (course (across d) (unsettled c e (account c h))) ≡ known (course (across d) (account c h))
    by_other Request z = z
    by_other Response z = z

    by_asks : (d' : Direction) → asks_in d' (step c e (account c h)).made ≡ map (ask_of d') (course d' (unsettled c e (account c h))).asks
    by_asks Request = ap (λ x. asks_in Request x.made) (sym k) ∙ asks_turn c (call ∷ h) Request ∙ ap (λ x. map (ask_of Request) x.request.course.asks) k
    by_asks Response = ap (λ x. asks_in Response x.made) (sym k) ∙ asks_turn c (call ∷ h) Response ∙ ap (λ x. map (ask_of Response) x.response.course.asks) k

    by_few : length (step c e (account c h)).made ≤ (step c e (account c h)).sent + 8
    by_few =
        let f = few_unsent c (call ∷ h) in
        let m : length (account c (call ∷ h)).made ≡ length (step c e (account c h)).made = ap (λ x. length x.made) k in
        let s : (account c (call ∷ h)).sent ≡ (step c e (account c h)).sent = ap (λ x. x.sent) k in
        omega (arith, f, m, s)

pub onward_given : (c : FilterConfig) (h : List Call) (s : Side) (bytes : List ℕ) → IsHistory c (Took s (Piece bytes) ∷ h) → is_live (account c h).fate ≡ true
    → Onward c (to s) (gathered (Given s bytes) (account c h)) (account c h) (unsettled c (Given s bytes) (account c h))
unfolding after
onward_given c h s bytes r l =
    let n : IsNoCut c (Given s bytes) (account c h) = given_no_cut c h s bytes r.0 l in
    onward c h (Given s bytes) (to s) (Took s (Piece bytes)) refl tt tt (unread_given s bytes (account c h)) n (by s (given_other c h s bytes r n))
  where
    by : (s' : Side) → known (course (from s') (step c (Given s bytes) (account c h))) ≡ known (course (from s') (account c h))
        → known (course (across (to s')) (step c (Given s bytes) (account c h))) ≡ known (course (across (to s')) (account c h))
    by Client e = e
    by Upstream e = e

pub account_given : (c : FilterConfig) (h : List Call) (s : Side) (bytes : List ℕ) → account c (Took s (Piece bytes) ∷ h) ≡ step c (Given s bytes) (account c h)
unfolding after
account_given c h s bytes = refl

pub onward_sent : (c : FilterConfig) (h : List Call) (d : Direction) → IsHistory c (Stepped Sent ∷ h) → is_live (account c h).fate ≡ true → is_in (across d) (unsent (account c h)) ≡ false
    → Onward c d (gathered Sent (account c h)) (account c h) (unsettled c Sent (account c h))
unfolding after
onward_sent c h d r l i =
    let n : IsNoCut c Sent (account c h) = sent_no_cut c h r.0 l in
    onward c h Sent d (Stepped Sent) refl tt tt (unread_sent (account c h)) n
    (sent_told c h r n (across d) ∙ ap (λ b. told c.course (across d) (if b then half.Sent ∷ [] else []) (known (course (across d) (account c h)))) i)

pub account_sent : (c : FilterConfig) (h : List Call) → account c (Stepped Sent ∷ h) ≡ step c Sent (account c h)
unfolding after
account_sent c h = refl
