-- What a quiet history says of the last account: both messages were given whole.
use Rattle.std.proofs.Common.{inl, inr, sym, ◌∙◌, ap, subst, refl}
use Rattle.std.specs.Prelude.{ℕ, ◌≡◌, ◌⊎◌, true, false, ◌&&◌, List, [], ◌∷◌, ◌++◌, length, Option, Some, None, is_some}
use Rattle.std.specs.List.{list_any}
use Rattle.ext_msgs.specs.declared.lists.Field.{Field}
use Rattle.http_model.specs.Bytes.{IsPrefix}
use Rattle.http_model.specs.Reads.{Original}
use Rattle.http_model.specs.declared.types.Direction.{Direction}
use Rattle.http_model.specs.declared.types.Direction.TheVariants.{Request, Response}
use Rattle.http_model.proofs.ReadsOn.{reads_is_reader}
use Rattle.filter_model.specs.Config.{FilterConfig}
use Rattle.filter_model.specs.Course.{changed, body_of}
use Rattle.filter_model.specs.Account.{ExchangeAccount, Fate, Live, Left, Replied, Aborted, course, flow, front, given_count, is_given, is_released, is_to_head, to}
use Rattle.filter_model.specs.Step.{after}
use Rattle.filter_model.specs.Right.{AllArrived, Call, Failed, GivenRight, IsFor, IsForClientAt, IsHistory, IsWireOf, MayTake, Nexted, Stepped, Took, Whole, account, given_to, is_aborted_at, is_done_at, is_next, is_take_of_client, is_take_of_upstream, while_idle}
use Rattle.filter_model.specs.declared.calls.Next.TheVariants as next
use Rattle.filter_model.specs.declared.calls.Side.{Side}
use Rattle.filter_model.specs.declared.calls.Side.TheVariants.{Client, Upstream}
use Rattle.filter_model.specs.declared.calls.Taken.{Taken}
use Rattle.filter_model.specs.declared.calls.Taken.TheVariants.{Piece, Nothing, Done, Abort, Gone}
use Rattle.filter_model.proofs.ReadAlong.{Read}
use Rattle.filter_model.proofs.GivenRight.{given_right}
use Rattle.filter_model.proofs.GivenAll.{given_whole, all_counted}
use Rattle.filter_model.proofs.Counts.{all_sent}
use Rattle.filter_model.proofs.AtRest.{Rested, Steady, steady}
use Rattle.filter_model.proofs.Ended.{changed-head, no_body_yet, has_ended}
use Rattle.filter_model.proofs.CourseGrows.{and_first, and_second}

abbrev pub Idle : Taken → Type 0
Idle (Piece bytes) = ⊥
Idle _ = Unit {0}

abbrev pub Took_last : FilterConfig → ExchangeAccount → Side → Type 0
Took_last c a s = (t : Taken) × MayTake c a s t × Idle t

-- an idle call leaves the account as it is
last_client : (c : FilterConfig) (h : List Call) → IsHistory c h → list_any is_take_of_client (while_idle h) ≡ true → Took_last c (account c h) Client
unfolding after
last_client c [] v e = absurd cc
last_client c (Stepped x ∷ h) v e = absurd cc
last_client c (Failed ∷ h) v e = absurd cc
last_client c (Nexted next.Nothing ∷ h) v e = last_client c h v.0 e
last_client c (Nexted (next.Ask b) ∷ h) v e = absurd cc
last_client c (Nexted next.Finish ∷ h) v e = absurd cc
last_client c (Nexted next.Reset ∷ h) v e = absurd cc
last_client c (Took s (Piece b) ∷ h) v e = absurd cc
last_client c (Took Client Nothing ∷ h) v e = (Nothing, v.1, tt)
last_client c (Took Client Done ∷ h) v e = (Done, v.1, tt)
last_client c (Took Client Abort ∷ h) v e = (Abort, v.1, tt)
last_client c (Took Client Gone ∷ h) v e = (Gone, v.1, tt)
last_client c (Took Upstream Nothing ∷ h) v e = last_client c h v.0 e
last_client c (Took Upstream Done ∷ h) v e = last_client c h v.0 e
last_client c (Took Upstream Abort ∷ h) v e = last_client c h v.0 e
last_client c (Took Upstream Gone ∷ h) v e = last_client c h v.0 e

last_upstream : (c : FilterConfig) (h : List Call) → IsHistory c h → list_any is_take_of_upstream (while_idle h) ≡ true → Took_last c (account c h) Upstream
unfolding after
last_upstream c [] v e = absurd cc
last_upstream c (Stepped x ∷ h) v e = absurd cc
last_upstream c (Failed ∷ h) v e = absurd cc
last_upstream c (Nexted next.Nothing ∷ h) v e = last_upstream c h v.0 e
last_upstream c (Nexted (next.Ask b) ∷ h) v e = absurd cc
last_upstream c (Nexted next.Finish ∷ h) v e = absurd cc
last_upstream c (Nexted next.Reset ∷ h) v e = absurd cc
last_upstream c (Took s (Piece b) ∷ h) v e = absurd cc
last_upstream c (Took Client Nothing ∷ h) v e = last_upstream c h v.0 e
last_upstream c (Took Client Done ∷ h) v e = last_upstream c h v.0 e
last_upstream c (Took Client Abort ∷ h) v e = last_upstream c h v.0 e
last_upstream c (Took Client Gone ∷ h) v e = last_upstream c h v.0 e
last_upstream c (Took Upstream Nothing ∷ h) v e = (Nothing, v.1, tt)
last_upstream c (Took Upstream Done ∷ h) v e = (Done, v.1, tt)
last_upstream c (Took Upstream Abort ∷ h) v e = (Abort, v.1, tt)
last_upstream c (Took Upstream Gone ∷ h) v e = (Gone, v.1, tt)

true_is_not_false : true ≡ false → ⊥
true_is_not_false e = cc

-- all that may go was given, or it was given whole
given_or_done : (c : FilterConfig) (a : ExchangeAccount) (s : Side) → a.fate ≡ Live → Took_last c a s → IsFor c a s (given_to s a) ⊎ (is_given c a (to s) ≡ true)
given_or_done c a s l (Nothing, m, i) = inl m.2
given_or_done c a s l (Done, m, i) = inr (sym (ap (is_done_at c a s) l) ∙ m)
given_or_done c a s l (Abort, m, i) = absurd (true_is_not_false (sym m.1 ∙ ap (is_aborted_at s) l))
given_or_done c a s l (Gone, m, i) = absurd m
given_or_done c a s l (Piece b, m, i) = absurd i

-- what was given whole is all that may go
wire_is_all : (c : FilterConfig) (a : ExchangeAccount) (d : Direction) (wire : List ℕ) → IsWireOf c a d wire → IsPrefix (flow d a).given (front d a ++ wire)
    → is_given c a d ≡ true → (flow d a).given ≡ front d a ++ wire
unfolding is_given
wire_is_all c a d wire w p g = given_whole d (course d a).head (changed c.course d (course d a)) (front d a) (flow d a).given wire (changed-head c.course d (course d a)) w p g

client_is_all : (c : FilterConfig) (a : ExchangeAccount) (f : Fate) → f ≡ Live → ((all : List ℕ) × IsForClientAt c a f all × IsPrefix a.response.given all) → is_given c a Response ≡ true
    → IsForClientAt c a f a.response.given
client_is_all c a Live l (all, w, p) g =
    (w.0, w.1, wire_is_all c a Response w.0 w.1 (subst (λ l. IsPrefix a.response.given l) w.2 p) g)
client_is_all c a Left l x g = absurd cc
client_is_all c a Aborted l x g = absurd cc
client_is_all c a (Replied r) l x g = absurd cc

given_is_all : (c : FilterConfig) (a : ExchangeAccount) (s : Side) → a.fate ≡ Live → GivenRight c a s → is_given c a (to s) ≡ true → IsFor c a s (given_to s a)
given_is_all c a Client l r g = client_is_all c a a.fate l r g
given_is_all c a Upstream l (all, w, p) g = subst (λ x. IsWireOf c a Request x) (sym (wire_is_all c a Request all w p g)) w

-- every body byte of what was given is counted

counted_wire : (c : FilterConfig) (a : ExchangeAccount) (d : Direction) (wire : List ℕ) → Rested c.course d (course d a) (front d a) (flow d a).given → IsWireOf c a d wire
    → (flow d a).given ≡ front d a ++ wire → (course d a).given ≡ length (body_of (changed c.course d (course d a)))
counted_wire c a d wire k w e =
    k.counted ∙ ap (given_count d (course d a).head (front d a)) e
    ∙ all_counted d (course d a).head (changed c.course d (course d a)) (front d a) wire (changed-head c.course d (course d a)) (no_body_yet c.course d (course d a)) w

client_wire : (c : FilterConfig) (a : ExchangeAccount) (f : Fate) → f ≡ Live → IsForClientAt c a f a.response.given → (wire : List ℕ) × IsWireOf c a Response wire × (a.response.given ≡ front Response a ++ wire)
client_wire c a Live l x = x
client_wire c a Left l x = absurd cc
client_wire c a Aborted l x = absurd cc
client_wire c a (Replied r) l x = absurd cc

-- what is whole has a head
has_head : (read : Original) → (read.head ≡ None → read.whole ≡ false) → read.whole ≡ true → is_some read.head ≡ true
has_head read k e = by read.head refl
  where
    by : (o : Option (List Field)) → o ≡ read.head → is_some read.head ≡ true
    by (Some l) i = ap is_some (sym i)
    by None i = absurd (true_is_not_false (sym e ∙ k (sym i)))

request_head : (a : ExchangeAccount) → Read a → a.request.course.original.whole ≡ true → is_some a.request.course.original.head ≡ true
request_head a r e = has_head a.request.course.original
    (λ n. ap (λ o. o.whole) r.request ∙ (reads_is_reader.headed Request (is_to_head a) a.request.brought a.request.ended (sym (ap (λ o. o.head) r.request) ∙ n)).0) e

response_head : (a : ExchangeAccount) → Read a → a.response.course.original.whole ≡ true → is_some a.response.course.original.head ≡ true
response_head a r e = has_head a.response.course.original
    (λ n. ap (λ o. o.whole) r.response ∙ (reads_is_reader.headed Response (is_to_head a) a.response.brought a.response.ended (sym (ap (λ o. o.head) r.response) ∙ n)).0) e

request_ends : (c : FilterConfig) (a : ExchangeAccount) → Steady c a → AllArrived a → IsFor c a Upstream (given_to Upstream a) → (changed c.course Request a.request.course).ended ≡ true
request_ends c a s x g = has_ended c.course Request a.request.course (front Request a) a.request.given s.firms.request (s.rest x.live).0 (request_head a s.along.read x.request) x.request (by x.asks)
  where
    by : (is_released a ≡ true) ⊎ ((length a.request.course.asks ≡ length a.request.course.answers) × (length a.response.course.asks ≡ length a.response.course.answers) × (length a.made ≡ a.sent))
        → (a.request.course.released ≡ true) ⊎ ((length a.request.course.asks ≡ length a.request.course.answers) × (a.request.course.sent ≡ length a.request.course.asks)
        × (a.request.course.given ≡ length (body_of (changed c.course Request a.request.course))))
    by (inl r) = inl r
    by (inr k) = inr (k.0, (all_sent a s.counts k.2).0, counted_wire c a Request a.request.given (s.rest x.live).0 g refl)

response_ends : (c : FilterConfig) (a : ExchangeAccount) → Steady c a → AllArrived a → IsFor c a Client (given_to Client a) → (changed c.course Response a.response.course).ended ≡ true
response_ends c a s x g = has_ended c.course Response a.response.course (front Response a) a.response.given s.firms.response (s.rest x.live).1 (response_head a s.along.read x.response) x.response (by x.asks)
  where
    by : (is_released a ≡ true) ⊎ ((length a.request.course.asks ≡ length a.request.course.answers) × (length a.response.course.asks ≡ length a.response.course.answers) × (length a.made ≡ a.sent))
        → (a.response.course.released ≡ true) ⊎ ((length a.response.course.asks ≡ length a.response.course.answers) × (a.response.course.sent ≡ length a.response.course.asks)
        × (a.response.course.given ≡ length (body_of (changed c.course Response a.response.course))))
    by (inl r) = inl (s.along.held.both ∙ r)
    by (inr k) =
        let w = client_wire c a a.fate x.live g in
        inr (k.1, (all_sent a s.counts k.2).1, counted_wire c a Response w.0 (s.rest x.live).1 w.1 w.2)

settle : (c : FilterConfig) (a : ExchangeAccount) (s : Side) → a.fate ≡ Live → GivenRight c a s → IsFor c a s (given_to s a) ⊎ (is_given c a (to s) ≡ true) → IsFor c a s (given_to s a)
settle c a s l r (inl g) = g
settle c a s l r (inr g) = given_is_all c a s l r g

pub whole_along : (c : FilterConfig) (h : List Call) → IsHistory c h → Whole c h
whole_along c h v q x =
    let last : List Call = while_idle h in
    let a : ExchangeAccount = account c h in
    let two : (list_any is_take_of_client last && list_any is_take_of_upstream last) ≡ true = and_first _ (list_any is_next last) q in
    let client : Took_last c a Client = last_client c h v (and_first (list_any is_take_of_client last) _ two) in
    let upstream : Took_last c a Upstream = last_upstream c h v (and_second (list_any is_take_of_client last) _ two) in
    let to_client : IsFor c a Client (given_to Client a) = settle c a Client x.live (given_right c h v Client) (given_or_done c a Client x.live client) in
    let to_upstream : IsFor c a Upstream (given_to Upstream a) = settle c a Upstream x.live (given_right c h v Upstream) (given_or_done c a Upstream x.live upstream) in
    record {
      upstream = to_upstream;
      client = to_client;
      request = request_ends c a (steady c h v) x to_upstream;
      response = response_ends c a (steady c h v) x to_client;
    }
