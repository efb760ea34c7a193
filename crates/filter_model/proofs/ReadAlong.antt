-- Along a history the originals are what the reader makes of the bytes brought; so each step reads on.
use Rattle.std.proofs.Common.{inl, inr, sym, ◌∙◌, ap, subst, refl, arith}
use Rattle.std.specs.Prelude.{ℕ, ◌≡◌, ◌⊎◌, ◌≤◌, Bool, true, false, not, ◌||◌, List, [], ◌∷◌, ◌++◌, length, None, if◌then◌else◌, is_some}
use Rattle.http_model.specs.Reads.{Original, reads, read_rules}
use Rattle.http_model.specs.Reader.{Extends}
use Rattle.http_model.specs.declared.types.Direction.TheVariants.{Request, Response}
use Rattle.http_model.proofs.ReadsOn.{reads_is_reader}
use Rattle.filter_model.specs.Config.{FilterConfig}
use Rattle.filter_model.specs.Account.{ExchangeAccount, course, from, gathered, brought, is_to_head, is_head_request, start}
use Rattle.filter_model.specs.Step.{step, step_if, after_end, still_counts, under_departure, is_departure, is_live, with_ending, on, room, is_awaited}
use Rattle.filter_model.specs.View.{ViewEntry, Bytes, End, Lost, Answered, TooLong, Closed, NoStream, Tick, Starved, Sent, Given}
use Rattle.filter_model.specs.declared.calls.Side.{Side}
use Rattle.filter_model.specs.declared.calls.Side.TheVariants.{Client, Upstream}
use Rattle.filter_model.proofs.Kept.{Kept, departure_kept}
use Rattle.filter_model.proofs.StepGrows.{Held, ReadsOn}

-- what is kept of both readers
pub record Read (a : ExchangeAccount) : Type 0 where
  pub request : a.request.course.original ≡ reads Request (is_to_head a) a.request.brought a.request.ended
  pub response : a.response.course.original ≡ reads Response (is_to_head a) a.response.brought a.response.ended
  -- nothing is read of the upstream before the request's head has gone
  pub later : a.request.course.head ≡ None → a.response.brought ≡ []

-- the bytes that come fit into the room
abbrev pub Fits : FilterConfig → ExchangeAccount → ViewEntry → Type 0
Fits c a (Bytes s bytes) = length bytes ≤ room c a s
Fits c a _ = Unit {0}

pub read_first : (c : FilterConfig) → Read (start c)
unfolding read_rules
read_first c = record { request = refl; response = refl; later = λ n. refl }

-- Room

empty_of : (bytes : List ℕ) (n : ℕ) → length bytes ≤ n → n ≡ 0 → bytes ≡ []
empty_of [] n h e = refl
empty_of (b ∷ bytes) n h e = absurd (omega (arith, h, e))

none_by : (x y z : Bool) (n : ℕ) → (y ≡ true) ⊎ (z ≡ false) → (if x || y || not z then 0 else n) ≡ 0
none_by true y z n e = refl
none_by false true z n e = refl
none_by false false true n (inl e) = absurd cc
none_by false false true n (inr e) = absurd cc
none_by false false false n e = refl

none_fit : (c : FilterConfig) (a : ExchangeAccount) (s : Side) (bytes : List ℕ) → length bytes ≤ room c a s
    → ((course (from s) a).original.whole ≡ true) ⊎ (is_awaited s a ≡ false) → bytes ≡ []
unfolding room
none_fit c a s bytes h e = empty_of bytes (room c a s) h (none_by (not (is_live a.fate)) (course (from s) a).original.whole (is_awaited s a) _ e)

-- What comes is read on

extends_request : (c : FilterConfig) (a : ExchangeAccount) (bytes : List ℕ) (e : Bool) → Read a → (a.request.course.original.whole ≡ true → bytes ≡ [])
    → Extends a.request.course.original (reads Request (is_to_head a) (a.request.brought ++ bytes) (a.request.ended || e))
extends_request c a bytes e r k =
    subst (λ o. Extends o (reads Request (is_to_head a) (a.request.brought ++ bytes) (a.request.ended || e))) (sym r.request)
    (reads_is_reader.extends Request (is_to_head a) a.request.brought bytes a.request.ended e (λ w. k (ap (λ o. o.whole) r.request ∙ w)))

extends_response : (c : FilterConfig) (a : ExchangeAccount) (bytes : List ℕ) (e : Bool) → Read a → (a.response.course.original.whole ≡ true → bytes ≡ [])
    → Extends a.response.course.original (reads Response (is_to_head a) (a.response.brought ++ bytes) (a.response.ended || e))
extends_response c a bytes e r k =
    subst (λ o. Extends o (reads Response (is_to_head a) (a.response.brought ++ bytes) (a.response.ended || e))) (sym r.response)
    (reads_is_reader.extends Response (is_to_head a) a.response.brought bytes a.response.ended e (λ w. k (ap (λ o. o.whole) r.response ∙ w)))

none_more : (xs ys : List ℕ) → xs ≡ [] → ys ≡ [] → xs ++ ys ≡ []
none_more xs ys e f = ap (λ l. l ++ ys) e ∙ f

-- no head is read of an upstream that brought nothing
unread_response : (a : ExchangeAccount) (bytes : List ℕ) (e : Bool) → a.response.brought ++ bytes ≡ [] → (reads Response (is_to_head a) (a.response.brought ++ bytes) e).head ≡ None
unread_response a bytes e n = ap (λ l. (reads Response (is_to_head a) l e).head) n ∙ reads_is_reader.early Response (is_to_head a) e

pub reads_on : (c : FilterConfig) (e : ViewEntry) (a : ExchangeAccount) → Read a → Held c a → Fits c a e → ReadsOn e a
unfolding ReadsOn gathered brought
reads_on c (Bytes Client bytes) a r h f = (
  extends_request c a bytes false r (λ w. none_fit c a Client bytes f (inl w)),
  inl refl,
  reads_is_reader.bodiless Request (is_to_head a) (a.request.brought ++ bytes) (a.request.ended || false),
  h.response.bodiless,
  h.later,
)
reads_on c (Bytes Upstream bytes) a r h f = (
  inl refl,
  extends_response c a bytes false r (λ w. none_fit c a Upstream bytes f (inl w)),
  h.request.bodiless,
  reads_is_reader.bodiless Response (is_to_head a) (a.response.brought ++ bytes) (a.response.ended || false),
  λ n. unread_response a bytes (a.response.ended || false) (none_more a.response.brought bytes (r.later n) (none_fit c a Upstream bytes f (inr (ap is_some n)))),
)
reads_on c (End Client) a r h f = (
  extends_request c a [] true r (λ w. refl),
  inl refl,
  reads_is_reader.bodiless Request (is_to_head a) (a.request.brought ++ []) (a.request.ended || true),
  h.response.bodiless,
  h.later,
)
reads_on c (End Upstream) a r h f = (
  inl refl,
  extends_response c a [] true r (λ w. refl),
  h.request.bodiless,
  reads_is_reader.bodiless Response (is_to_head a) (a.response.brought ++ []) (a.response.ended || true),
  λ n. unread_response a [] (a.response.ended || true) (none_more a.response.brought [] (r.later n) refl),
)
reads_on c (Lost Client how) a r h f = (inl refl, inl refl, h.request.bodiless, h.response.bodiless, h.later)
reads_on c (Lost Upstream how) a r h f = (inl refl, inl refl, h.request.bodiless, h.response.bodiless, h.later)
reads_on c (Given Client bytes) a r h f = (inl refl, inl refl, h.request.bodiless, h.response.bodiless, h.later)
reads_on c (Given Upstream bytes) a r h f = (inl refl, inl refl, h.request.bodiless, h.response.bodiless, h.later)
reads_on c (Answered x) a r h f = (inl refl, inl refl, h.request.bodiless, h.response.bodiless, h.later)
reads_on c TooLong a r h f = (inl refl, inl refl, h.request.bodiless, h.response.bodiless, h.later)
reads_on c (Closed b) a r h f = (inl refl, inl refl, h.request.bodiless, h.response.bodiless, h.later)
reads_on c NoStream a r h f = (inl refl, inl refl, h.request.bodiless, h.response.bodiless, h.later)
reads_on c (Tick n) a r h f = (inl refl, inl refl, h.request.bodiless, h.response.bodiless, h.later)
reads_on c Starved a r h f = (inl refl, inl refl, h.request.bodiless, h.response.bodiless, h.later)
reads_on c Sent a r h f = (inl refl, inl refl, h.request.bodiless, h.response.bodiless, h.later)

-- Both readers go on

-- the request's method stays, once its head has gone; before, nothing was read of the upstream
same_response : (c : FilterConfig) (a : ExchangeAccount) (o : Original) → Held c a → Read a → Extends a.request.course.original o
    → a.response.course.original ≡ reads Response (is_head_request o.head) a.response.brought a.response.ended
same_response c a o h r (inl e) = r.response ∙ ap (λ x. reads Response (is_head_request x.head) a.response.brought a.response.ended) (sym e)
same_response c a o h r (inr (inl e)) =
    let none : a.response.brought ≡ [] = r.later (h.request.head_read e).0 in
    r.response
    ∙ ap (λ l. reads Response (is_to_head a) l a.response.ended) none
    ∙ reads_is_reader.response (is_to_head a) (is_head_request o.head) a.response.ended
    ∙ ap (λ l. reads Response (is_head_request o.head) l a.response.ended) (sym none)
same_response c a o h r (inr (inr l)) = r.response ∙ ap (λ x. reads Response (is_head_request x) a.response.brought a.response.ended) (sym l.head)

request_read : (c : FilterConfig) (a : ExchangeAccount) (bytes : List ℕ) (e : Bool) → Read a → Held c a → (a.request.course.original.whole ≡ true → bytes ≡ [])
    → Read (brought Request bytes e a)
unfolding brought
request_read c a bytes e r h k = record {
  request = reads_is_reader.request (is_to_head a) (is_to_head (brought Request bytes e a)) (a.request.brought ++ bytes) (a.request.ended || e);
  response = same_response c a (reads Request (is_to_head a) (a.request.brought ++ bytes) (a.request.ended || e)) h r (extends_request c a bytes e r k);
  later = r.later;
}

response_read : (a : ExchangeAccount) (bytes : List ℕ) (e : Bool) → Read a → (a.request.course.head ≡ None → bytes ≡ []) → Read (brought Response bytes e a)
unfolding brought
response_read a bytes e r k = record { request = r.request; response = refl; later = λ n. none_more a.response.brought bytes (r.later n) (k n) }

gathered_read : (c : FilterConfig) (e : ViewEntry) (a : ExchangeAccount) → Read a → Held c a → Fits c a e → Read (gathered e a)
unfolding gathered
gathered_read c (Bytes Client bytes) a r h f = request_read c a bytes false r h (λ w. none_fit c a Client bytes f (inl w))
gathered_read c (Bytes Upstream bytes) a r h f = response_read a bytes false r (λ n. none_fit c a Upstream bytes f (inr (ap is_some n)))
gathered_read c (End Client) a r h f = request_read c a [] true r h (λ w. refl)
gathered_read c (End Upstream) a r h f = response_read a [] true r (λ n. refl)
gathered_read c (Lost Client how) a r h f = record { request = r.request; response = r.response; later = r.later }
gathered_read c (Lost Upstream how) a r h f = record { request = r.request; response = r.response; later = r.later }
gathered_read c (Given Client bytes) a r h f = record { request = r.request; response = r.response; later = r.later }
gathered_read c (Given Upstream bytes) a r h f = record { request = r.request; response = r.response; later = r.later }
gathered_read c (Answered x) a r h f = r
gathered_read c TooLong a r h f = r
gathered_read c (Closed b) a r h f = record { request = r.request; response = r.response; later = r.later }
gathered_read c NoStream a r h f = record { request = r.request; response = r.response; later = r.later }
gathered_read c (Tick n) a r h f = record { request = r.request; response = r.response; later = r.later }
gathered_read c Starved a r h f = r
gathered_read c Sent a r h f = record { request = r.request; response = r.response; later = r.later }

kept_read : (a a' : ExchangeAccount) → Kept a a' → Read a → Read a'
kept_read a a' k r = record {
  request = k.request.original ∙ r.request
      ∙ ap (λ o. reads Request (is_head_request o.head) a.request.brought a.request.ended) (sym k.request.original)
      ∙ ap (λ l. reads Request (is_to_head a') l a.request.ended) (sym k.request.brought)
      ∙ ap (λ b. reads Request (is_to_head a') a'.request.brought b) (sym k.request.ended);
  response = k.response.original ∙ r.response
      ∙ ap (λ o. reads Response (is_head_request o.head) a.response.brought a.response.ended) (sym k.request.original)
      ∙ ap (λ l. reads Response (is_to_head a') l a.response.ended) (sym k.response.brought)
      ∙ ap (λ b. reads Response (is_to_head a') a'.response.brought b) (sym k.response.ended);
  later = λ n. k.response.brought ∙ r.later (k.request.unchosen n);
}

read_if : (c : FilterConfig) (e : ViewEntry) (a : ExchangeAccount) (live : Bool) → Read a → Held c a → Fits c a e → Read (step_if c e a live)
unfolding on with_ending
read_if c e a true r h f =
    let g : ExchangeAccount = gathered e a in
    let x : Read (under_departure c e g (is_departure e g)) =
    kept_read g (under_departure c e g (is_departure e g)) (departure_kept c e g (is_departure e g)) (gathered_read c e a r h f) in
    record { request = x.request; response = x.response; later = x.later }
read_if c e a false r h f = by (still_counts e)
  where
    by : (b : Bool) → Read (after_end e a b)
    by true = gathered_read c e a r h f
    by false = r

pub step_read : (c : FilterConfig) (e : ViewEntry) (a : ExchangeAccount) → Read a → Held c a → Fits c a e → Read (step c e a)
unfolding step
step_read c e a r h f = read_if c e a (is_live a.fate) r h f
