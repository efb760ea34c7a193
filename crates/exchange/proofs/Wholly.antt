-- A message of which all was given.
use Rattle.std.proofs.Common.{refl, sym, ◌∙◌, ap, subst}
use Rattle.std.specs.Prelude.{ℕ, ◌≡◌, ◌==◌, Bool, true, false, ◌&&◌, List, [], length, take, Option}
use Rattle.http_model.specs.declared.types.Direction.{Direction}
use Rattle.http_model.specs.declared.types.Direction.TheVariants.{Request, Response}
use Rattle.http_model.specs.declared.types.Out.{Out}
use Rattle.filter_model.specs.Config.{FilterConfig}
use Rattle.filter_model.specs.Course.{Changed, Course, changed}
use Rattle.filter_model.specs.Account.{ExchangeAccount, Fate, Live, Left, Replied, Aborted, course, flow, front, is_finished, is_given, is_given_at, is_released}
use Rattle.filter_model.specs.AllGiven.{is_all_handed}
use Rattle.filter_model.specs.Half.{becomes, progress}
use Rattle.filter_model.specs.Half as half
use Rattle.filter_model.specs.Step.{is_live}
use Rattle.filter_model.proofs.Ended.{changed-head}
use Rattle.filter_model.proofs.Known.{changed_known}
use Rattle.h1_outlet.specs.Halves.{flow_of}
use Rattle.h1_outlet.specs.Outlets.{Flowed, all}
use Rattle.h1_outlet.specs.Stands as outlet
use Rattle.h1_outlet.proofs.OfHalves.{given_where}
use Rattle.exchange.specs.Flows.{Story, FlowStands}
use Rattle.half_machine.specs.Stands as machine
use Rattle.exchange.specs.Stands.{FlowTies, IsGivenBy, written_reply}
use Rattle.exchange.specs.declared.fate.GivenWhole.{GivenWhole}
use Rattle.exchange.specs.declared.flow.Flow.{Flow}

abbrev flowed_as : Direction → List ℕ → List Out → List ℕ → ℕ → Flowed
flowed_as d front parts reply given = record { direction = d; front = front; parts = parts; reply = reply; given = given }

-- what goes out is what the half handed out
pub flow_is : (s : Story) (x : Flow) → FlowStands s x → s.flowed.reply ≡ [] → s.flowed ≡ flow_of s.past s.flowed.front s.flowed.given
flow_is s x t e =
    let f : Flowed = s.flowed in
    ap (λ d. flowed_as d f.front f.parts f.reply f.given) t.way
    ∙ ap (λ p. flowed_as s.past.direction f.front p f.reply f.given) t.parts
    ∙ ap (λ r. flowed_as s.past.direction f.front (half.parts s.past.steps) r f.given) e

-- all of the message was given
abbrev pub is_whole_given : Story → Bool
is_whole_given s = is_given_at s.past.direction (becomes s.past).head (becomes s.past) s.flowed.front (take s.flowed.given (all s.flowed))

pub whole_given : (s : Story) (x : Flow) → FlowStands s x → s.flowed.reply ≡ []
    → is_whole_given s ≡ (is_all_handed (becomes s.past) (progress s.past).taken && s.flowed.given == length (all s.flowed))
whole_given s x t e =
    let f : Flowed = s.flowed in
    let k : f ≡ flow_of s.past f.front f.given = flow_is s x t e in
    ap (λ y. is_given_at s.past.direction (becomes s.past).head (becomes s.past) f.front (take f.given (all y))) k
    ∙ given_where s.past t.is_past f.front f.given x.outlet (subst (λ y. outlet.StandsFor y x.outlet) k t.outlet)
    ∙ ap (λ y. is_all_handed (becomes s.past) (progress s.past).taken && f.given == length (all y)) (sym k)

and_right : (a b : Bool) → b ≡ true → (a && b) ≡ a
and_right true b e = e
and_right false b e = refl

and_wrong : (a b : Bool) → b ≡ false → (a && b) ≡ false
and_wrong true b e = e
and_wrong false b e = refl

pub whole_where_empty : (s : Story) (x : Flow) → FlowStands s x → s.flowed.reply ≡ [] → (s.flowed.given == length (all s.flowed)) ≡ true
    → is_all_handed (becomes s.past) (progress s.past).taken ≡ is_whole_given s
whole_where_empty s x t e k =
    sym (whole_given s x t e ∙ and_right (is_all_handed (becomes s.past) (progress s.past).taken) (s.flowed.given == length (all s.flowed)) k)

pub not_where_left : (s : Story) (x : Flow) → FlowStands s x → s.flowed.reply ≡ [] → (s.flowed.given == length (all s.flowed)) ≡ false → false ≡ is_whole_given s
not_where_left s x t e k =
    sym (whole_given s x t e ∙ and_wrong (is_all_handed (becomes s.past) (progress s.past).taken) (s.flowed.given == length (all s.flowed)) k)

-- Of an exchange that lives

pub no_reply : (d : Direction) (w : Option ℕ) (f : Fate) → is_live f ≡ true → written_reply d w f ≡ []
no_reply Request w f e = refl
no_reply Response (Option.Some n) f e = refl
no_reply Response Option.None Live e = refl
no_reply Response Option.None Left e = absurd cc
no_reply Response Option.None (Replied r) e = absurd cc
no_reply Response Option.None Aborted e = absurd cc

pub becomes_known : (c : FilterConfig) (d : Direction) (g a : ExchangeAccount) (n : ℕ) (w : Option ℕ) (x : Flow) → (t : FlowTies c d g a n w x) → is_live a.fate ≡ true
    → becomes t.story.past ≡ changed c.course d (course d a)
becomes_known c d g a n w x t l =
    let p : half.Past = t.story.past in
    ap (λ y. changed y p.direction (half.course p)) t.config ∙ ap (λ y. changed c.course y (half.course p)) t.way
    ∙ ap (changed c.course d) (t.told l) ∙ changed_known c.course d (course d a)

pub given_of_story : (c : FilterConfig) (d : Direction) (g a : ExchangeAccount) (n : ℕ) (w : Option ℕ) (x : Flow) → (t : FlowTies c d g a n w x) → is_live a.fate ≡ true
    → front d g ≡ front d a → is_whole_given t.story ≡ is_given c a d
unfolding is_given
given_of_story c d g a n w x t l e =
    let s : Story = t.story in
    let m : Changed = changed c.course d (course d a) in
    ap (λ y. is_given_at y (becomes s.past).head (becomes s.past) s.flowed.front (take s.flowed.given (all s.flowed))) t.way
    ∙ ap (λ (y : Changed). is_given_at d y.head y s.flowed.front (take s.flowed.given (all s.flowed))) (becomes_known c d g a n w x t l)
    ∙ ap (λ y. is_given_at d m.head m y (take s.flowed.given (all s.flowed))) (t.front ∙ e)
    ∙ ap (λ y. is_given_at d m.head m (front d a) y) (sym t.given)
    ∙ ap (λ y. is_given_at d y m (front d a) (flow d a).given) (sym (changed-head c.course d (course d a)))

pub says_given : (c : FilterConfig) (d : Direction) (g a : ExchangeAccount) (n : ℕ) (w : Option ℕ) (x : Flow) → FlowTies c d g a n w x → is_live a.fate ≡ true
    → front d g ≡ front d a → (b : Bool) → ((s : Story) → FlowStands s x → s.flowed.reply ≡ [] → b ≡ is_whole_given s) → b ≡ is_given c a d
says_given c d g a n w x t l e b k =
    k t.story t.stands (t.reply ∙ no_reply d w a.fate l) ∙ given_of_story c d g a n w x t l e

-- both were given

and_by : (c : FilterConfig) (a : ExchangeAccount) (x y : Bool) → x ≡ is_given c a Request → y ≡ is_given c a Response → (x && y) ≡ is_finished c a
unfolding is_finished
and_by c a x y e k = ap (λ b. b && y) e ∙ ap (λ b. is_given c a Request && b) k

pub both_given : (c : FilterConfig) (a : ExchangeAccount) (g : GivenWhole) → IsGivenBy c a g → g.request ≡ true → g.response ≡ is_finished c a
both_given c a g k e = ap (λ b. b && g.response) (sym e) ∙ and_by c a g.request g.response k.request k.response

pub not_both : (c : FilterConfig) (a : ExchangeAccount) (g : GivenWhole) → IsGivenBy c a g → g.request ≡ false → g.request ≡ is_finished c a
not_both c a g k e = e ∙ ap (λ b. b && g.response) (sym e) ∙ and_by c a g.request g.response k.request k.response

-- the half of the request knows whether the rest passes
pub released_is : (c : FilterConfig) (g a : ExchangeAccount) (n : ℕ) (w : Option ℕ) (x : Flow) → FlowTies c Request g a n w x → is_live a.fate ≡ true → (b : Bool)
    → ((p : half.Past) → machine.StandsFor p x.half → b ≡ (half.course p).released) → b ≡ is_released a
released_is c g a n w x t l b k = k t.story.past t.stands.half ∙ ap (λ (y : Course). y.released) (t.told l)
