-- What cut the bytes or the end of a side are: reading on gives no message whole, and what was given whole stays so.
use Rattle.std.proofs.Common.{inl, inr, sym, ◌∙◌, ap, subst, refl}
use Rattle.std.specs.Prelude.{◌≡◌, ◌⊎◌, Bool, true, false, ◌&&◌, ◌||◌, List, [], ◌∷◌, ◌++◌, Option, Some, None, if◌then◌else◌, is_some}
use Rattle.http_model.specs.Reading.{status_of}
use Rattle.http_model.specs.declared.types.Direction.{Direction}
use Rattle.http_model.specs.declared.types.Direction.TheVariants.{Request, Response}
use Rattle.filter_model.specs.Config.{FilterConfig}
use Rattle.filter_model.specs.Course.{Changed, Course, Outgoing, changed, is_over}
use Rattle.filter_model.specs.Account.{ExchangeAccount, brought, course, flow, front, from, to, gathered, is_finished, is_given, is_given_at, is_released, is_to_head}
use Rattle.filter_model.specs.Answers.{answered}
use Rattle.filter_model.specs.Cut.{Cut, Over, Peer, fault_cut, over_cut, peer_cut, processor_cut}
use Rattle.filter_model.specs.Grown.{Grown}
use Rattle.filter_model.specs.Right.{Call, Stepped, IsHistory, account}
use Rattle.filter_model.specs.Sides.{IsReadOf, read_cut}
use Rattle.filter_model.specs.Sound.{Sound}
use Rattle.filter_model.specs.Step.{cut, cut_at, is_live}
use Rattle.filter_model.specs.View.{ViewEntry, Bytes, End}
use Rattle.filter_model.specs.declared.calls.Side.{Side}
use Rattle.filter_model.specs.declared.calls.Side.TheVariants.{Client, Upstream}
use Rattle.filter_model.proofs.AtRest.{Steady, steady}
use Rattle.filter_model.proofs.EndsUntold.{Reason, faulty_part, read_given, some_fault}
use Rattle.filter_model.proofs.Firm.{Firm}
use Rattle.filter_model.proofs.GivenRight.{fits}
use Rattle.filter_model.proofs.NeverOver.{Within, gathered_is, read_on, within_along}
use Rattle.filter_model.proofs.ReadAlong.{reads_on}
use Rattle.filter_model.proofs.StepGrows.{Goes, ReadsOn, gathered_goes}
use Rattle.filter_model.proofs.ToldEntry.{changed_some, extends_in, front_same, released_within, sound_in}

clash : {A : Type 0} → true ≡ false → A
clash e = absurd cc

-- What reading on leaves

gathered_given : (s : Side) (e : ViewEntry) (d : Direction) (a : ExchangeAccount) → IsReadOf s e → (flow d (gathered e a)).given ≡ (flow d a).given
unfolding gathered brought
gathered_given Client (Bytes Client bytes) Request a r = refl
gathered_given Client (Bytes Client bytes) Response a r = refl
gathered_given Client (End Client) Request a r = refl
gathered_given Client (End Client) Response a r = refl
gathered_given Upstream (Bytes Upstream bytes) Request a r = refl
gathered_given Upstream (Bytes Upstream bytes) Response a r = refl
gathered_given Upstream (End Upstream) Request a r = refl
gathered_given Upstream (End Upstream) Response a r = refl
gathered_given _ _ d a r = absurd r

-- it brings nothing to the other direction
other_same : (s : Side) (e : ViewEntry) (a : ExchangeAccount) → IsReadOf s e → course (to s) (gathered e a) ≡ course (to s) a
unfolding gathered brought
other_same Client (Bytes Client bytes) a r = refl
other_same Client (End Client) a r = refl
other_same Upstream (Bytes Upstream bytes) a r = refl
other_same Upstream (End Upstream) a r = refl
other_same _ _ a r = absurd r

-- What was given of a direction

firm_in : (c : FilterConfig) (d : Direction) (a : ExchangeAccount) → Steady c a → Firm (course d a)
firm_in c Request a s = s.firms.request
firm_in c Response a s = s.firms.response

grown_in : (c : FilterConfig) (d : Direction) (a b : ExchangeAccount) → Goes c a b → Grown (changed c.course d (course d a)) (changed c.course d (course d b))
grown_in c Request a b g = g.request
grown_in c Response a b g = g.response

-- with no head nothing was given whole
none_given : (c : FilterConfig) (d : Direction) (e : ViewEntry) (a : ExchangeAccount) → (course d a).head ≡ None → is_given c (gathered e a) d ≡ is_given c a d
unfolding is_given
none_given c d e a m =
    let g : ExchangeAccount = gathered e a in
    ap (λ q. is_given_at d q (changed c.course d (course d g)) (front d g) (flow d g).given) (ap (λ q. q.head) (gathered_is d e a) ∙ m)
    ∙ sym (ap (λ q. is_given_at d q (changed c.course d (course d a)) (front d a) (flow d a).given) m)

-- behind a head, by what the message has become
given_by : (c : FilterConfig) (d : Direction) (s : Side) (e : ViewEntry) (a : ExchangeAccount) (o : Outgoing) → Steady c a → ReadsOn e a → IsReadOf s e → (course d a).head ≡ Some o
    → is_given c (gathered e a) d ≡ is_given_at d (Some o) (changed c.course d (course d (gathered e a))) (front d a) (flow d a).given
unfolding is_given ReadsOn
given_by c d s e a o t x r m =
    let g : ExchangeAccount = gathered e a in
    ap (λ q. is_given_at d q (changed c.course d (course d g)) (front d g) (flow d g).given) (ap (λ q. q.head) (gathered_is d e a) ∙ m)
    ∙ ap (λ q. is_given_at d (Some o) (changed c.course d (course d g)) q (flow d g).given) (front_same c e a d o t.along.held t.along.read x.0 m)
    ∙ ap (is_given_at d (Some o) (changed c.course d (course d g)) (front d a)) (gathered_given s e d a r)

-- an entry that may be a cut gives nothing whole
given_same : (c : FilterConfig) (d : Direction) (s : Side) (e : ViewEntry) (a : ExchangeAccount) → Steady c a → ReadsOn e a → IsReadOf s e
    → Reason c d (course d a).original (course d (gathered e a)) → is_given c (gathered e a) d ≡ is_given c a d
unfolding is_given
given_same c d s e a t x r y = by w.head refl
  where
    w : Course
    w = course d a

    v : Course
    v = course d (gathered e a)

    i : v ≡ read_on w v.original v.sent
    i = gathered_is d e a

    sound : Sound c.course v
    sound = sound_in d c (gathered e a) (gathered_goes c e a t.along.held x).held

    by : (o : Option Outgoing) → w.head ≡ o → is_given c (gathered e a) d ≡ is_given c a d
    by None m = none_given c d e a m
    by (Some o) m =
        given_by c d s e a o t x r m
        ∙ ap (λ q. is_given_at d (Some o) (changed c.course d q) (front d a) (flow d a).given) i
        ∙ read_given c d w v.original v.sent o (front d a) (flow d a).given (sound_in d c a t.along.held) (firm_in c d a t) (subst (Sound c.course) i sound) m (extends_in d e a x)
        (subst (Reason c d w.original) i y)
        ∙ ap (λ q. is_given_at d q (changed c.course d w) (front d a) (flow d a).given) (sym m)

first_true : (x y z : Bool) → ((x && y) && z) ≡ true → x ≡ true
first_true true y z e = refl
first_true false y z e = clash (sym e)

-- what was given whole stays so
given_stays : (c : FilterConfig) (d : Direction) (s : Side) (e : ViewEntry) (a : ExchangeAccount) → Steady c a → ReadsOn e a → IsReadOf s e → is_given c a d ≡ true → is_given c (gathered e a) d ≡ true
unfolding is_given
given_stays c d s e a t x r y = by w.head refl
  where
    w : Course
    w = course d a

    m' : Changed
    m' = changed c.course d (course d (gathered e a))

    all : (o : Outgoing) → w.head ≡ Some o → is_given_at d (Some o) (changed c.course d w) (front d a) (flow d a).given ≡ true
    all o m = ap (λ q. is_given_at d q (changed c.course d w) (front d a) (flow d a).given) (sym m) ∙ y

    grown : (o : Outgoing) → w.head ≡ Some o → Grown (changed c.course d w) m' → is_given_at d (Some o) m' (front d a) (flow d a).given ≡ true
    grown o m (inl z) = absurd (changed_some c.course d w o m z)
    grown o m (inr (inl z)) = ap (λ q. is_given_at d (Some o) q (front d a) (flow d a).given) z ∙ all o m
    grown o m (inr (inr z)) = clash (sym (first_true _ _ _ (all o m)) ∙ z.unended)

    by : (o : Option Outgoing) → w.head ≡ o → is_given c (gathered e a) d ≡ true
    by None m = none_given c d e a m ∙ y
    by (Some o) m = given_by c d s e a o t x r m ∙ grown o m (grown_in c d a (gathered e a) (gathered_goes c e a t.along.held x))

-- Both directions

both_stay : (x y x' y' : Bool) → (x ≡ true → x' ≡ true) → (y ≡ true → y' ≡ true) → (x && y) ≡ true → (x' && y') ≡ true
both_stay true true x' y' f g e = ap (λ b. b && y') (f refl) ∙ g refl
both_stay true false x' y' f g e = clash (sym e)
both_stay false y x' y' f g e = clash (sym e)

finished_stays : (c : FilterConfig) (s : Side) (e : ViewEntry) (a : ExchangeAccount) → Steady c a → ReadsOn e a → IsReadOf s e → is_finished c a ≡ true → is_finished c (gathered e a) ≡ true
unfolding is_finished
finished_stays c s e a t x r =
    both_stay (is_given c a Request) (is_given c a Response) (is_given c (gathered e a) Request) (is_given c (gathered e a) Response)
    (given_stays c Request s e a t x r) (given_stays c Response s e a t x r)

finished_same : (c : FilterConfig) (s : Side) (e : ViewEntry) (a : ExchangeAccount) → Steady c a → ReadsOn e a → IsReadOf s e
    → (is_over c.course (course (from s) (gathered e a)) ≡ true) ⊎ ((course (from s) (gathered e a)).original.whole ≡ false) → is_finished c (gathered e a) ≡ is_finished c a
unfolding is_finished
finished_same c Client e a t x r y =
    ap (λ b. b && is_given c (gathered e a) Response) (given_same c Request Client e a t x r (inr y))
    ∙ ap (λ b. is_given c a Request && b) (given_same c Response Client e a t x r (inl (ap (λ w. w.original) (other_same Client e a r))))
finished_same c Upstream e a t x r y =
    ap (λ b. b && is_given c (gathered e a) Response) (given_same c Request Upstream e a t x r (inl (ap (λ w. w.original) (other_same Upstream e a r))))
    ∙ ap (λ b. is_given c a Request && b) (given_same c Response Upstream e a t x r (inr y))

-- The cut

abbrev one_over : Bool → Direction → Option Cut
one_over b d = if b then Some (Over d) else None

over_is : (c : FilterConfig) (s : Side) (e : ViewEntry) (a : ExchangeAccount) → IsReadOf s e → Within c a → over_cut c (gathered e a) ≡ one_over (is_over c.course (course (from s) (gathered e a))) (from s)
unfolding over_cut
over_is c Client e a r w =
    let g : ExchangeAccount = gathered e a in
    ap (λ b. if is_over c.course g.request.course then Some (Over Request) else if b then Some (Over Response) else None)
    (ap (is_over c.course) (other_same Client e a r) ∙ w.response)
over_is c Upstream e a r w =
    let g : ExchangeAccount = gathered e a in
    ap (λ b. if b then Some (Over Request) else if is_over c.course g.response.course then Some (Over Response) else None)
    (ap (is_over c.course) (other_same Upstream e a r) ∙ w.request)

cut_is : (c : FilterConfig) (s : Side) (e : ViewEntry) (a : ExchangeAccount) → IsReadOf s e → let g : ExchangeAccount = gathered e a in
    cut c e g ≡ cut_at (is_finished c g) (is_released g) None (over_cut c g) (fault_cut g (from s))
unfolding cut processor_cut answered peer_cut
cut_is c Client (Bytes Client bytes) a r = refl
cut_is c Client (End Client) a r = refl
cut_is c Upstream (Bytes Upstream bytes) a r = refl
cut_is c Upstream (End Upstream) a r = refl
cut_is c _ _ a r = absurd r

-- a fault leaves the message unfinished
unfinished : (s : Side) (e : ViewEntry) (a : ExchangeAccount) → IsReadOf s e → is_some (fault_cut (gathered e a) (from s)) ≡ true → (course (from s) (gathered e a)).original.whole ≡ false
unfolding gathered brought
unfinished Client (Bytes Client bytes) a r e = faulty_part Request (is_to_head a) (a.request.brought ++ bytes) (a.request.ended || false) (some_fault (λ f. Peer (status_of f)) _ e)
unfinished Client (End Client) a r e = faulty_part Request (is_to_head a) (a.request.brought ++ []) (a.request.ended || true) (some_fault (λ f. Peer (status_of f)) _ e)
unfinished Upstream (Bytes Upstream bytes) a r e = faulty_part Response (is_to_head a) (a.response.brought ++ bytes) (a.response.ended || false) (some_fault (λ f. Peer 502) _ e)
unfinished Upstream (End Upstream) a r e = faulty_part Response (is_to_head a) (a.response.brought ++ []) (a.response.ended || true) (some_fault (λ f. Peer 502) _ e)
unfinished _ _ a r e = absurd r

released_in : (c : FilterConfig) (s : Side) (a : ExchangeAccount) → a.response.course.released ≡ a.request.course.released → is_over c.course (course (from s) a) ≡ true → is_released a ≡ false
released_in c s a b o = by (is_released a) refl
  where
    of : (s : Side) → is_over c.course (course (from s) a) ≡ true → is_released a ≡ true → ⊥
    of Client o e = clash (sym o ∙ released_within c.course a.request.course e)
    of Upstream o e = clash (sym o ∙ released_within c.course a.response.course (b ∙ e))

    by : (x : Bool) → is_released a ≡ x → is_released a ≡ false
    by false e = e
    by true e = absurd (of s o e)

late : (f r : Bool) (k : Option Cut) → f ≡ false → cut_at f r None None k ≡ k
late true r k e = clash e
late false true None e = refl
late false true (Some k) e = refl
late false false None e = refl
late false false (Some k) e = refl

early : (f r : Bool) → cut_at f r None None None ≡ None
early true r = refl
early false true = refl
early false false = refl

pub side_cut : (c : FilterConfig) (h : List Call) (s : Side) (e : ViewEntry) → IsHistory c (Stepped e ∷ h) → IsReadOf s e → is_live (account c h).fate ≡ true
    → let a : ExchangeAccount = account c h in let g : ExchangeAccount = gathered e a in
    cut c e g ≡ read_cut (is_finished c a) (is_over c.course (course (from s) g)) (from s) (fault_cut g (from s))
side_cut c h s e y r l = cut_is c s e a r ∙ by (is_finished c a) refl (is_over c.course (course (from s) g)) refl (fault_cut g (from s)) refl
  where
    a : ExchangeAccount
    a = account c h

    g : ExchangeAccount
    g = gathered e a

    t : Steady c a
    t = steady c h y.0

    x : ReadsOn e a
    x = reads_on c e a t.along.read t.along.held (fits c h e y.1)

    over : (b : Bool) → is_over c.course (course (from s) g) ≡ b → over_cut c g ≡ one_over b (from s)
    over b o = over_is c s e a r (within_along c h y.0 l) ∙ ap (λ z. one_over z (from s)) o

    by : (f : Bool) → is_finished c a ≡ f → (o : Bool) → is_over c.course (course (from s) g) ≡ o → (k : Option Cut) → fault_cut g (from s) ≡ k
        → cut_at (is_finished c g) (is_released g) None (over_cut c g) (fault_cut g (from s)) ≡ read_cut (is_finished c a) (is_over c.course (course (from s) g)) (from s) (fault_cut g (from s))
    by true f o i k j =
        ap (λ b. cut_at b (is_released g) None (over_cut c g) (fault_cut g (from s))) (finished_stays c s e a t x r f)
        ∙ sym (ap (λ b. read_cut b (is_over c.course (course (from s) g)) (from s) (fault_cut g (from s))) f)
    by false f true i k j =
        ap (λ b. cut_at b (is_released g) None (over_cut c g) (fault_cut g (from s))) (finished_same c s e a t x r (inl i) ∙ f)
        ∙ ap (λ b. cut_at false b None (over_cut c g) (fault_cut g (from s))) (released_in c s g (gathered_goes c e a t.along.held x).held.both i)
        ∙ ap (λ z. cut_at false false None z (fault_cut g (from s))) (over true i)
        ∙ sym (ap (λ b. read_cut b (is_over c.course (course (from s) g)) (from s) (fault_cut g (from s))) f
        ∙ ap (λ b. read_cut false b (from s) (fault_cut g (from s))) i)
    by false f false i k j =
        ap (λ z. cut_at (is_finished c g) (is_released g) None z (fault_cut g (from s))) (over false i)
        ∙ none_over k j
        ∙ sym (ap (λ b. read_cut b (is_over c.course (course (from s) g)) (from s) (fault_cut g (from s))) f
        ∙ ap (λ b. read_cut false b (from s) (fault_cut g (from s))) i)
      where
        none_over : (k : Option Cut) → fault_cut g (from s) ≡ k → cut_at (is_finished c g) (is_released g) None None (fault_cut g (from s)) ≡ fault_cut g (from s)
        none_over None j = ap (cut_at (is_finished c g) (is_released g) None None) j ∙ early (is_finished c g) (is_released g) ∙ sym j
        none_over (Some z) j =
            late (is_finished c g) (is_released g) (fault_cut g (from s)) (finished_same c s e a t x r (inr (unfinished s e a r (ap is_some j))) ∙ f)
