-- One entry more: what it brings, whether it is the cut, its effect, the answers and the asks; and the account of a view.
use Rattle.std.specs.Prelude.{ℕ, ◌-◌, min, Bool, true, false, not, ◌||◌, List, [], ◌∷◌, length, Option, Some, None, if◌then◌else◌, is_some}
use Rattle.http_model.specs.Bytes.{is_empty}
use Rattle.http_model.specs.Heads.{head_limit, head_so_far, behind_interims}
use Rattle.http_model.specs.Wire.{local_reply}
use Rattle.http_model.specs.declared.types.Direction.{Direction}
use Rattle.http_model.specs.declared.types.Direction.TheVariants.{Request, Response}
use Rattle.filter_model.specs.Config.{FilterConfig}
use Rattle.filter_model.specs.Course.{body_room, course_rules}
use Rattle.filter_model.specs.Outgoing.{immediate_reply}
use Rattle.filter_model.specs.Account.{ExchangeAccount, Flow, Fate, Live, Left, Replied, Aborted, start, course, flow, from, is_to_head, is_released, gathered, settled, is_finished, account_rules}
use Rattle.filter_model.specs.Cut.{Cut, Spurious, Malformed, Refused, Immediately, LongAnswer, Failed, Unopened, Clean, Late, Over, Peer, Gone, processor_cut, over_cut, peer_cut, cut_rules}
use Rattle.filter_model.specs.Answers.{answered, asked_in, answer_rules}
use Rattle.filter_model.specs.View.{ViewEntry, End, Sent, Given}
use Rattle.filter_model.specs.declared.calls.Side.{Side}
use Rattle.filter_model.specs.declared.calls.Side.TheVariants.{Client, Upstream}

-- The effect of a cut

-- whether the rest passes; else the cut ends the exchange
abbrev pub lets_pass : FilterConfig → Cut → Bool
lets_pass c Clean = true
lets_pass c Spurious = c.failure_allow
lets_pass c Malformed = c.failure_allow
lets_pass c LongAnswer = c.failure_allow
lets_pass c Failed = c.failure_allow
lets_pass c Unopened = c.failure_allow
lets_pass c Late = c.failure_allow
lets_pass c Refused = false
lets_pass c (Immediately i) = false
lets_pass c (Over d) = false
lets_pass c (Peer code) = false
lets_pass c Gone = false

-- the reply that it calls for, where the response head can't go yet
abbrev pub reply_to : Cut → Bool → Option (List ℕ)
reply_to Late to_head = Some (local_reply 504)
reply_to (Immediately i) to_head = Some (immediate_reply to_head i)
reply_to (Over Request) to_head = Some (local_reply 413)
reply_to (Over Response) to_head = Some (local_reply 500)
reply_to (Peer code) to_head = Some (local_reply code)
reply_to Gone to_head = None
reply_to _ to_head = Some (local_reply 500)

abbrev pub by_reply : Option (List ℕ) → Fate
by_reply (Some reply) = Replied reply
by_reply None = Aborted

abbrev pub fate_under : FilterConfig → Cut → ExchangeAccount → Fate
fate_under c k a =
    if lets_pass c k then a.fate
    else if is_some a.response.course.head then Aborted
    else by_reply (reply_to k (is_to_head a))

abbrev pub released_if : Bool → Flow → Flow
released_if passes f = record f { course = record f.course { released = f.course.released || passes } }

unfoldable pub effect : FilterConfig → Cut → ExchangeAccount → ExchangeAccount
effect c k a = record a {
  request = released_if (lets_pass c k) a.request;
  response = released_if (lets_pass c k) a.response;
  fate = fate_under c k a;
}

-- The cut that an entry is

abbrev pub first_of : Option Cut → Option Cut → Option Cut
first_of (Some k) other = Some k
first_of None other = other

-- none once both messages were given; once the rest passes, those of the sides alone; of several rows the first
abbrev pub cut_at : Bool → Bool → Option Cut → Option Cut → Option Cut → Option Cut
cut_at finished released processor over peer =
    if finished then None else if released then peer else first_of processor (first_of over peer)

unfoldable pub cut : FilterConfig → ViewEntry → ExchangeAccount → Option Cut
cut c e a =
    cut_at (is_finished c a) (is_released a) (processor_cut c a e) (over_cut c (answered c e a)) (peer_cut c a e)

-- the client leaves before its first byte
abbrev pub is_departure : ViewEntry → ExchangeAccount → Bool
is_departure (End Client) a = is_empty a.request.brought
is_departure _ a = false

-- an entry that is no cut: its answer joins the others, heads that can go are chosen, and the asks that are due are made,
-- the request's first
abbrev pub accepted : FilterConfig → ViewEntry → ExchangeAccount → Bool → ExchangeAccount
accepted c e a true = a
accepted c e a false = answered c e a

unfoldable pub no_cut : FilterConfig → ViewEntry → ExchangeAccount → ExchangeAccount
no_cut c e a = asked_in c Response (asked_in c Request (settled c (accepted c e a (is_released a || is_finished c a))))

unfoldable pub under_cut : FilterConfig → ViewEntry → ExchangeAccount → Option Cut → ExchangeAccount
under_cut c e a (Some k) = settled c (effect c k (settled c a))
under_cut c e a None = no_cut c e a

abbrev pub under_departure : FilterConfig → ViewEntry → ExchangeAccount → Bool → ExchangeAccount
under_departure c e a true = record a { fate = Left }
under_departure c e a false = under_cut c e a (cut c e a)

unfoldable pub on : FilterConfig → ViewEntry → ExchangeAccount → ExchangeAccount
on c e a = under_departure c e a (is_departure e a)

abbrev pub is_live : Fate → Bool
is_live Live = true
is_live Left = false
is_live (Replied reply) = false
is_live Aborted = false

-- after an end only what was given and sent counts
abbrev pub still_counts : ViewEntry → Bool
still_counts (Given s bytes) = true
still_counts Sent = true
still_counts _ = false

abbrev pub after_end : ViewEntry → ExchangeAccount → Bool → ExchangeAccount
after_end e a true = gathered e a
after_end e a false = a

-- The end of the stream

-- the rest passes, or the exchange has ended
abbrev pub is_cut_off : ExchangeAccount → Bool
is_cut_off a = is_released a || not (is_live a.fate)

abbrev pub ending_by : Option Bool → Bool → Bool → Option Bool
ending_by (Some clean) cut_off finished = if clean then Some true else None
ending_by None cut_off finished = if cut_off then Some false else (if finished then Some true else None)

-- how the stream is to be ended: once, and where it was opened
abbrev pub ending_of : FilterConfig → ExchangeAccount → Option Bool
ending_of c a =
    if is_some a.ending || is_empty a.made || a.unopened then a.ending
    else ending_by a.closed (is_cut_off a) (is_finished c a)

unfoldable pub with_ending : FilterConfig → ExchangeAccount → ExchangeAccount
with_ending c a = record a { ending = ending_of c a }

-- The account after one more entry, and after a view, newest entry first

abbrev pub step_if : FilterConfig → ViewEntry → ExchangeAccount → Bool → ExchangeAccount
step_if c e a true = with_ending c (on c e (gathered e a))
step_if c e a false = after_end e a (still_counts e)

unfoldable pub step : FilterConfig → ViewEntry → ExchangeAccount → ExchangeAccount
step c e a = step_if c e a (is_live a.fate)

unfoldable pub after : FilterConfig → List ViewEntry → ExchangeAccount
after c [] = start c
after c (e ∷ v) = step c e (after c v)

-- Room

-- nothing is read of the upstream before the request's head can go
abbrev pub is_awaited : Side → ExchangeAccount → Bool
is_awaited Client a = true
is_awaited Upstream a = is_some a.request.course.head

abbrev pub head_room : ℕ → Direction → List ℕ → ℕ
head_room piece d brought = min piece (head_limit - length (head_so_far d brought))

-- what a side may bring next
unfoldable pub room : FilterConfig → ExchangeAccount → Side → ℕ
room c a s =
    if not (is_live a.fate) || (course (from s) a).original.whole || not (is_awaited s a) then 0
    else if is_some (course (from s) a).original.head then body_room c.course (from s) (course (from s) a)
    else head_room c.course.piece (from s) (flow (from s) a).brought

-- a side brings nothing any more
abbrev pub is_over_for : ExchangeAccount → Side → Bool
is_over_for a s = not (is_live a.fate) || (course (from s) a).original.whole || (flow (from s) a).ended || (flow (from s) a).lost

-- An `unfolding` line that names this opens the account of a view, so that examples compute.
unfoldable pub rules : Unit {0}
unfolding course_rules account_rules cut_rules answer_rules effect cut no_cut under_cut on with_ending step after room behind_interims
rules = tt
