-- What was given to a side is the first of what may go to it.
use Rattle.std.proofs.Common.{inl, inr, sym, ◌∙◌, ap, subst, append-nil, refl}
use Rattle.std.specs.Prelude.{ℕ, ◌≡◌, ◌⊎◌, Bool, true, false, List, [], ◌∷◌, ◌++◌, Option, Some, None, is_some, if◌then◌else◌}
use Rattle.http_model.specs.Bytes.{IsPrefix}
use Rattle.http_model.specs.Reads.{Original}
use Rattle.http_model.specs.Reader.{Extends}
use Rattle.http_model.specs.Wire.{interim}
use Rattle.http_model.specs.declared.types.Direction.{Direction}
use Rattle.http_model.specs.declared.types.Direction.TheVariants.{Request, Response}
use Rattle.http_model.proofs.ReadsOn.{reads_is_reader}
use Rattle.filter_model.specs.Config.{FilterConfig}
use Rattle.filter_model.specs.Course.{Outgoing, changed, committed}
use Rattle.filter_model.specs.Grown.{Grown}
use Rattle.filter_model.specs.Account.{Aborted, ExchangeAccount, Fate, Left, Live, Replied, account_rules, course, flow, front, gathered, settled, to, is_to_head}
use Rattle.filter_model.specs.Cut.{Cut}
use Rattle.filter_model.specs.Right.{Call, Failed, IsFor, IsForClientAt, IsHistory, IsWireOf, GivenRight, May, Nexted, Stepped, Took, account, given_to}
use Rattle.filter_model.specs.Step.{rules, after, after_end, cut, effect, is_departure, is_live, lets_pass, no_cut, on, step, step_if, still_counts, under_cut, under_departure, with_ending}
use Rattle.filter_model.specs.View.{Answered, Bytes, Closed, End, ViewEntry, Given, Lost, NoStream, Sent, Starved, Tick, TooLong}
use Rattle.filter_model.specs.declared.calls.Side.{Side}
use Rattle.filter_model.specs.declared.calls.Side.TheVariants.{Client, Upstream}
use Rattle.filter_model.specs.declared.calls.Taken.TheVariants.{Piece}
use Rattle.filter_model.proofs.Kept.{was_none, Kept, departure_kept, no_cut_kept, gathered-fate}
use Rattle.filter_model.proofs.Growing.{still_goes, any_wire, prefix_of_none, wire_none}
use Rattle.filter_model.proofs.CourseGrows.{changed_none}
use Rattle.filter_model.proofs.StepGrows.{Held, Goes, ReadsOn, step_goes, held_first}
use Rattle.filter_model.proofs.ReadAlong.{Read, Fits, read_first, reads_on, step_read}
use Rattle.http_model.proofs.BodiesGrow.{before_both, itself, onward}

-- What an entry gives

abbrev pub gives : ViewEntry → Direction → List ℕ
gives (Given Client bytes) Response = bytes
gives (Given Upstream bytes) Request = bytes
gives _ _ = []

gathered-given : (e : ViewEntry) (s : Direction) (a : ExchangeAccount) → (flow s (gathered e a)).given ≡ (flow s a).given ++ gives e s
unfolding account_rules
gathered-given (Bytes Client bytes) Request a = sym (append-nil a.request.given)
gathered-given (Bytes Client bytes) Response a = sym (append-nil a.response.given)
gathered-given (Bytes Upstream bytes) Request a = sym (append-nil a.request.given)
gathered-given (Bytes Upstream bytes) Response a = sym (append-nil a.response.given)
gathered-given (End Client) Request a = sym (append-nil a.request.given)
gathered-given (End Client) Response a = sym (append-nil a.response.given)
gathered-given (End Upstream) Request a = sym (append-nil a.request.given)
gathered-given (End Upstream) Response a = sym (append-nil a.response.given)
gathered-given (Lost Client how) Request a = sym (append-nil a.request.given)
gathered-given (Lost Client how) Response a = sym (append-nil a.response.given)
gathered-given (Lost Upstream how) Request a = sym (append-nil a.request.given)
gathered-given (Lost Upstream how) Response a = sym (append-nil a.response.given)
gathered-given (Given Client bytes) Request a = sym (append-nil a.request.given)
gathered-given (Given Client bytes) Response a = refl
gathered-given (Given Upstream bytes) Request a = refl
gathered-given (Given Upstream bytes) Response a = sym (append-nil a.response.given)
gathered-given (Answered x) s a = sym (append-nil (flow s a).given)
gathered-given TooLong s a = sym (append-nil (flow s a).given)
gathered-given (Closed b) Request a = sym (append-nil a.request.given)
gathered-given (Closed b) Response a = sym (append-nil a.response.given)
gathered-given NoStream Request a = sym (append-nil a.request.given)
gathered-given NoStream Response a = sym (append-nil a.response.given)
gathered-given (Tick n) Request a = sym (append-nil a.request.given)
gathered-given (Tick n) Response a = sym (append-nil a.response.given)
gathered-given Starved s a = sym (append-nil (flow s a).given)
gathered-given Sent Request a = sym (append-nil a.request.given)
gathered-given Sent Response a = sym (append-nil a.response.given)

after_end-given : (e : ViewEntry) (s : Direction) (a : ExchangeAccount) → (flow s (after_end e a (still_counts e))).given ≡ (flow s a).given ++ gives e s
after_end-given (Given t bytes) s a = gathered-given (Given t bytes) s a
after_end-given Sent s a = gathered-given Sent s a
after_end-given _ s a = sym (append-nil (flow s a).given)

kept-given : (a a' : ExchangeAccount) → Kept a a' → (s : Direction) → (flow s a').given ≡ (flow s a).given
kept-given a a' k Request = k.request.given
kept-given a a' k Response = k.response.given

step_if-given : (c : FilterConfig) (e : ViewEntry) (s : Direction) (a : ExchangeAccount) (b : Bool) → (flow s (step_if c e a b)).given ≡ (flow s a).given ++ gives e s
unfolding rules
step_if-given c e Request a true =
    let g : ExchangeAccount = gathered e a in
    kept-given g (under_departure c e g (is_departure e g)) (departure_kept c e g (is_departure e g)) Request ∙ gathered-given e Request a
step_if-given c e Response a true =
    let g : ExchangeAccount = gathered e a in
    kept-given g (under_departure c e g (is_departure e g)) (departure_kept c e g (is_departure e g)) Response ∙ gathered-given e Response a
step_if-given c e s a false = after_end-given e s a

pub step-given : (c : FilterConfig) (e : ViewEntry) (s : Direction) (a : ExchangeAccount) → (flow s (step c e a)).given ≡ (flow s a).given ++ gives e s
unfolding step
step-given c e s a = step_if-given c e s a (is_live a.fate)

-- What a step does to what may go out

abbrev pub FrontGrown : FilterConfig → ExchangeAccount → ExchangeAccount → Type 0
FrontGrown c a a' = (front Response a' ≡ front Response a) ⊎ ((changed c.course Response (course Response a)).head ≡ None × front Response a ≡ [])

abbrev pub FateGrown : FilterConfig → ExchangeAccount → ExchangeAccount → Fate → Fate → Type 0
FateGrown c a a' (Replied r) (Replied r') = (r' ≡ r) × (front Response a' ≡ front Response a)
FateGrown c a a' (Replied r) _ = ⊥
FateGrown c a a' _ (Replied r') = (changed c.course Response (course Response a)).head ≡ None
FateGrown c a a' _ _ = Unit {0}

pub record StepGrown (c : FilterConfig) (a a' : ExchangeAccount) : Type 0 where
  pub request : Grown (changed c.course Request (course Request a)) (changed c.course Request (course Request a'))
  pub response : Grown (changed c.course Response (course Response a)) (changed c.course Response (course Response a'))
  pub front : FrontGrown c a a'
  pub fate : FateGrown c a a' a.fate a'.fate

abbrev GoesTo : FilterConfig → ExchangeAccount → Side → List ℕ → Type 0
GoesTo c a s bytes = (all : List ℕ) × IsFor c a s all × IsPrefix bytes all

abbrev WireForClient : FilterConfig → ExchangeAccount → List ℕ → Type 0
WireForClient c a bytes = (wire : List ℕ) × IsWireOf c a Response wire × (bytes ≡ front Response a ++ wire)

abbrev ClientWire : FilterConfig → ExchangeAccount → List ℕ → Type 0
ClientWire c a bytes = (all : List ℕ) × WireForClient c a all × IsPrefix bytes all

front_keeps : (f f' bytes wire wire' : List ℕ) → (f' ≡ f) ⊎ ((wire ≡ []) × (f ≡ [])) → IsPrefix bytes (f ++ wire) → IsPrefix wire wire' → IsPrefix bytes (f' ++ wire')
front_keeps f f' bytes wire wire' (inl e) p q = subst (λ l. IsPrefix bytes (l ++ wire')) (sym e) (onward p (before_both f wire wire' q))
front_keeps f f' bytes wire wire' (inr (n, e)) p q =
    let none : bytes ≡ [] = prefix_of_none bytes (subst (λ l. IsPrefix bytes l) (ap (λ l. l ++ wire) e ∙ n) p) in
    record { rest = f' ++ wire'; whole = ap (λ l. l ++ (f' ++ wire')) none }

front_or_none : (c : FilterConfig) (a a' : ExchangeAccount) → FrontGrown c a a' → (wire : List ℕ) → IsWireOf c a Response wire
    → (front Response a' ≡ front Response a) ⊎ ((wire ≡ []) × (front Response a ≡ []))
front_or_none c a a' (inl e) wire w = inl e
front_or_none c a a' (inr (n, e)) wire w = inr (wire_none Response (changed c.course Response (course Response a)) wire n w, e)

wire_keeps : (c : FilterConfig) (a a' : ExchangeAccount) → StepGrown c a a' → (bytes : List ℕ) → ClientWire c a bytes → ClientWire c a' bytes
wire_keeps c a a' g bytes x =
    let k = still_goes Response (changed c.course Response (course Response a)) (changed c.course Response (course Response a')) g.response x.1.0 x.1.0 x.1.1 (itself x.1.0) in (
      front Response a' ++ k.0,
      (k.0, k.1, refl),
      front_keeps (front Response a) (front Response a') bytes x.1.0 k.0
          (front_or_none c a a' g.front x.1.0 x.1.1) (subst (λ l. IsPrefix bytes l) x.1.2 x.2) k.2,
    )

reply_keeps : (c : FilterConfig) (a a' : ExchangeAccount) → StepGrown c a a' → (changed c.course Response (course Response a)).head ≡ None → (reply bytes : List ℕ) → ClientWire c a bytes
    → (all : List ℕ) × (all ≡ front Response a' ++ reply) × IsPrefix bytes all
reply_keeps c a a' g e reply bytes x =
    let none : x.1.0 ≡ [] = wire_none Response (changed c.course Response (course Response a)) x.1.0 e x.1.1 in (
      front Response a' ++ reply,
      refl,
      front_keeps (front Response a) (front Response a') bytes x.1.0 reply
          (front_or_none c a a' g.front x.1.0 x.1.1) (subst (λ l. IsPrefix bytes l) x.1.2 x.2)
          (subst (λ l. IsPrefix l reply) (sym none) (record { rest = reply; whole = refl })),
    )

client_keeps : (c : FilterConfig) (a a' : ExchangeAccount) → StepGrown c a a' → (f f' : Fate) → FateGrown c a a' f f' → (bytes : List ℕ)
    → ((all : List ℕ) × IsForClientAt c a f all × IsPrefix bytes all) → (all : List ℕ) × IsForClientAt c a' f' all × IsPrefix bytes all
client_keeps c a a' g (Replied r) (Replied r') k bytes x =
    (x.0, x.1 ∙ ap (λ l. l ++ r) (sym k.1) ∙ ap (λ l. front Response a' ++ l) (sym k.0), x.2)
client_keeps c a a' g (Replied r) Live k bytes x = absurd k
client_keeps c a a' g (Replied r) Left k bytes x = absurd k
client_keeps c a a' g (Replied r) Aborted k bytes x = absurd k
client_keeps c a a' g Live (Replied r) k bytes x = reply_keeps c a a' g k r bytes x
client_keeps c a a' g Left (Replied r) k bytes x = reply_keeps c a a' g k r bytes x
client_keeps c a a' g Aborted (Replied r) k bytes x = reply_keeps c a a' g k r bytes x
client_keeps c a a' g Live Live k bytes x = wire_keeps c a a' g bytes x
client_keeps c a a' g Live Left k bytes x = wire_keeps c a a' g bytes x
client_keeps c a a' g Live Aborted k bytes x = wire_keeps c a a' g bytes x
client_keeps c a a' g Left Live k bytes x = wire_keeps c a a' g bytes x
client_keeps c a a' g Left Left k bytes x = wire_keeps c a a' g bytes x
client_keeps c a a' g Left Aborted k bytes x = wire_keeps c a a' g bytes x
client_keeps c a a' g Aborted Live k bytes x = wire_keeps c a a' g bytes x
client_keeps c a a' g Aborted Left k bytes x = wire_keeps c a a' g bytes x
client_keeps c a a' g Aborted Aborted k bytes x = wire_keeps c a a' g bytes x

keeps : (c : FilterConfig) (a a' : ExchangeAccount) → StepGrown c a a' → (s : Side) (bytes : List ℕ) → GoesTo c a s bytes → GoesTo c a' s bytes
keeps c a a' g Upstream bytes x = still_goes Request (changed c.course Request (course Request a)) (changed c.course Request (course Request a')) g.request bytes x.0 x.1 x.2
keeps c a a' g Client bytes x = client_keeps c a a' g a.fate a'.fate g.fate bytes x

-- Along a history

pub fits : (c : FilterConfig) (h : List Call) (e : ViewEntry) → May c (Stepped e) h → Fits c (account c h) e
fits c h (Bytes s bytes) m = m
fits c h (End s) m = tt
fits c h (Lost s how) m = tt
fits c h (Answered x) m = tt
fits c h TooLong m = tt
fits c h (Closed b) m = tt
fits c h NoStream m = tt
fits c h (Tick n) m = tt
fits c h Starved m = tt
fits c h Sent m = tt
fits c h (Given s bytes) m = tt

-- both courses are sound, and both originals are what was read
pub record Along (c : FilterConfig) (a : ExchangeAccount) : Type 0 where
  pub held : Held c a
  pub read : Read a

step_along : (c : FilterConfig) (e : ViewEntry) (a : ExchangeAccount) → Along c a → Fits c a e → Along c (step c e a)
step_along c e a l f =
    let g : Goes c a (step c e a) = step_goes c e a l.held (reads_on c e a l.read l.held f) in
    record { held = g.held; read = step_read c e a l.read l.held f }

pub along : (c : FilterConfig) (h : List Call) → IsHistory c h → Along c (account c h)
unfolding after
along c [] s = record { held = held_first c; read = read_first c }
along c (Stepped e ∷ h) s = step_along c e (account c h) (along c h s.0) (fits c h e s.1)
along c (Took side (Piece bytes) ∷ h) s = step_along c (Given side bytes) (account c h) (along c h s.0) tt
along c (Took side _ ∷ h) s = along c h s.0
along c (Nexted n ∷ h) s = along c h s.0
along c (Failed ∷ h) s = along c h s.0

-- The fate, and the interim response

live_is : (f : Fate) → is_live f ≡ true → f ≡ Live
live_is Live e = refl
live_is Left e = absurd cc
live_is Aborted e = absurd cc
live_is (Replied r) e = absurd cc

early : (c : FilterConfig) (a a' : ExchangeAccount) (f : Fate) → ((r : List ℕ) → f ≡ Replied r → (changed c.course Response (course Response a)).head ≡ None) → FateGrown c a a' Live f
early c a a' Live g = tt
early c a a' Left g = tt
early c a a' Aborted g = tt
early c a a' (Replied r) g = g r refl

no_reply : (f : Fate) (r : List ℕ) → f ≡ Live → f ≡ Replied r → ⊥
no_reply f r e g = live_and_replied r (sym e ∙ g)
  where
    live_and_replied : (r : List ℕ) → Live ≡ Replied r → ⊥
    live_and_replied r e = cc

by_reply_none : (r : List ℕ) → Aborted ≡ Replied r → ⊥
by_reply_none r e = cc

under_replied : (passes : Bool) (f : Fate) (x : Option Outgoing) (y : Fate) (r : List ℕ) → f ≡ Live
    → (if passes then f else if is_some x then Aborted else y) ≡ Replied r → x ≡ None
under_replied true f x y r e g = absurd (no_reply f r e g)
under_replied false f None y r e g = refl
under_replied false f (Some h) y r e g = absurd (by_reply_none r g)

cut_replied : (c : FilterConfig) (e : ViewEntry) (g : ExchangeAccount) (k : Option Cut) → g.fate ≡ Live → (r : List ℕ) → (under_cut c e g k).fate ≡ Replied r → g.response.course.head ≡ None
unfolding under_cut effect settled committed
cut_replied c e g (Some k) l r f =
    was_none g.response.course.head _ _ (under_replied (lets_pass c k) g.fate (settled c g).response.course.head _ r l f)
cut_replied c e g None l r f = absurd (no_reply (no_cut c e g).fate r ((no_cut_kept c e g).fate ∙ l) f)

departure_replied : (c : FilterConfig) (e : ViewEntry) (g : ExchangeAccount) (b : Bool) → g.fate ≡ Live → (r : List ℕ) → (under_departure c e g b).fate ≡ Replied r → g.response.course.head ≡ None
departure_replied c e g true l r f = absurd cc
departure_replied c e g false l r f = cut_replied c e g (cut c e g) l r f

gathered-head : (e : ViewEntry) (a : ExchangeAccount) → (gathered e a).response.course.head ≡ a.response.course.head
unfolding account_rules
gathered-head (Bytes Client bytes) a = refl
gathered-head (Bytes Upstream bytes) a = refl
gathered-head (End Client) a = refl
gathered-head (End Upstream) a = refl
gathered-head (Lost Client how) a = refl
gathered-head (Lost Upstream how) a = refl
gathered-head (Given Client bytes) a = refl
gathered-head (Given Upstream bytes) a = refl
gathered-head (Answered x) a = refl
gathered-head TooLong a = refl
gathered-head (Closed b) a = refl
gathered-head NoStream a = refl
gathered-head (Tick n) a = refl
gathered-head Starved a = refl
gathered-head Sent a = refl

on_replied : (c : FilterConfig) (e : ViewEntry) (a : ExchangeAccount) → a.fate ≡ Live → (r : List ℕ) → (step_if c e a true).fate ≡ Replied r → a.response.course.head ≡ None
unfolding on with_ending
on_replied c e a l r f =
    let g : ExchangeAccount = gathered e a in
    sym (gathered-head e a) ∙ departure_replied c e g (is_departure e g) (gathered-fate e a ∙ l) r f

-- the interim response stays, once the request's head is read

-- before, nothing is owed
abbrev pub IsSilent : Original → Type 0
IsSilent o = o.head ≡ None → interim o.expects ≡ []

pub silent : (a : ExchangeAccount) → Read a → IsSilent a.request.course.original
unfolding interim
silent a r n =
    ap interim (ap (λ o. o.expects) r.request
    ∙ (reads_is_reader.headed Request (is_to_head a) a.request.brought a.request.ended (ap (λ o. o.head) (sym r.request) ∙ n)).1)

pub front_read : (c : FilterConfig) (a : ExchangeAccount) (o : Original) → Held c a → Extends a.request.course.original o → IsSilent a.request.course.original
    → (interim o.expects ≡ interim a.request.course.original.expects)
    ⊎ ((changed c.course Response (course Response a)).head ≡ None × interim a.request.course.original.expects ≡ [])
front_read c a o h (inl e) n = inl (ap (λ x. interim x.expects) e)
front_read c a o h (inr (inl e)) n =
    inr (changed_none c.course Response a.response.course (h.response.head_read (h.later (h.request.head_read e).0)).0, n e)
front_read c a o h (inr (inr l)) n = inl (ap interim l.expects)

front_if : (c : FilterConfig) (e : ViewEntry) (a : ExchangeAccount) → Held c a → Read a → ReadsOn e a → (b : Bool) → FrontGrown c a (step_if c e a b)
unfolding ReadsOn on with_ending
front_if c e a h q r true =
    let g : ExchangeAccount = gathered e a in
    subst (λ o. (interim o.expects ≡ interim a.request.course.original.expects)
    ⊎ ((changed c.course Response (course Response a)).head ≡ None × interim a.request.course.original.expects ≡ []))
    (sym (departure_kept c e g (is_departure e g)).request.original) (front_read c a g.request.course.original h r.0 (silent a q))
front_if c e a h q r false = by (still_counts e)
  where
    by : (b : Bool) → FrontGrown c a (after_end e a b)
    by true = front_read c a (gathered e a).request.course.original h r.0 (silent a q)
    by false = inl refl

step_front : (c : FilterConfig) (e : ViewEntry) (a : ExchangeAccount) → Held c a → Read a → ReadsOn e a → FrontGrown c a (step c e a)
unfolding step
step_front c e a h q r = front_if c e a h q r (is_live a.fate)

-- a reply stays, and comes only while the response's head hasn't gone
same_fate : (c : FilterConfig) (a a' : ExchangeAccount) (f : Fate) → front Response a' ≡ front Response a → FateGrown c a a' f f
same_fate c a a' Live e = tt
same_fate c a a' Left e = tt
same_fate c a a' Aborted e = tt
same_fate c a a' (Replied r) e = (refl, e)

counts_fate : (c : FilterConfig) (e : ViewEntry) (a : ExchangeAccount) (b : Bool) → b ≡ still_counts e
    → ((after_end e a b).fate ≡ a.fate) × (front Response (after_end e a b) ≡ front Response a)
unfolding rules
counts_fate c e a false i = (refl, refl)
counts_fate c (Given Client bytes) a true i = (refl, refl)
counts_fate c (Given Upstream bytes) a true i = (refl, refl)
counts_fate c Sent a true i = (refl, refl)
counts_fate c _ a true i = absurd cc

ended_fate : (c : FilterConfig) (e : ViewEntry) (a : ExchangeAccount) (b : Bool) → b ≡ still_counts e → FateGrown c a (after_end e a b) a.fate (after_end e a b).fate
ended_fate c e a b i =
    let k = counts_fate c e a b i in
    subst (λ f. FateGrown c a (after_end e a b) a.fate f) (sym k.0) (same_fate c a (after_end e a b) a.fate k.1)

fate_if : (c : FilterConfig) (e : ViewEntry) (a : ExchangeAccount) (b : Bool) → b ≡ is_live a.fate → Held c a → FateGrown c a (step_if c e a b) a.fate (step_if c e a b).fate
fate_if c e a false i h = ended_fate c e a (still_counts e) refl
fate_if c e a true i h =
    let l : a.fate ≡ Live = live_is a.fate (sym i) in
    subst (λ f. FateGrown c a (step_if c e a true) f (step_if c e a true).fate) (sym l)
    (early c a (step_if c e a true) (step_if c e a true).fate (λ r f.
    changed_none c.course Response a.response.course (on_replied c e a l r f)))

step_fate : (c : FilterConfig) (e : ViewEntry) (a : ExchangeAccount) → Held c a → FateGrown c a (step c e a) a.fate (step c e a).fate
unfolding step
step_fate c e a h = fate_if c e a (is_live a.fate) refl h

-- one step of a history grows
pub step_grown : (c : FilterConfig) (e : ViewEntry) (a : ExchangeAccount) → Along c a → Fits c a e → StepGrown c a (step c e a)
step_grown c e a l f =
    let r : ReadsOn e a = reads_on c e a l.read l.held f in
    let g : Goes c a (step c e a) = step_goes c e a l.held r in
    record { request = g.request; response = g.response; front = step_front c e a l.held l.read r; fate = step_fate c e a l.held }

stepped : (c : FilterConfig) (e : ViewEntry) (a : ExchangeAccount) (s : Side) → StepGrown c a (step c e a) → GoesTo c a s (given_to s a ++ gives e (to s)) → GivenRight c (step c e a) s
stepped c e a s g x =
    let y : GoesTo c (step c e a) s (given_to s a ++ gives e (to s)) = keeps c a (step c e a) g s (given_to s a ++ gives e (to s)) x in
    (y.0, y.1, subst (λ l. IsPrefix l y.0) (sym (step-given c e (to s) a)) y.2)

gave_none : (c : FilterConfig) (e : ViewEntry) (a : ExchangeAccount) (s : Side) → StepGrown c a (step c e a) → gives e (to s) ≡ [] → GivenRight c a s → GivenRight c (step c e a) s
gave_none c e a s g n x =
    stepped c e a s g (x.0, x.1, subst (λ l. IsPrefix l x.0) (sym (ap (λ l. given_to s a ++ l) n ∙ append-nil (given_to s a))) x.2)

pub no_given : (c : FilterConfig) (e : ViewEntry) (h : List Call) → May c (Stepped e) h → (d : Direction) → gives e d ≡ []
no_given c (Given s bytes) h m d = absurd m
no_given c (Bytes s bytes) h m d = refl
no_given c (End s) h m d = refl
no_given c (Lost s how) h m d = refl
no_given c (Answered x) h m d = refl
no_given c TooLong h m d = refl
no_given c (Closed b) h m d = refl
no_given c NoStream h m d = refl
no_given c (Tick n) h m d = refl
no_given c Starved h m d = refl
no_given c Sent h m d = refl

pub given_right : (c : FilterConfig) (h : List Call) → IsHistory c h → (s : Side) → GivenRight c (account c h) s
unfolding after changed interim
given_right c [] v Upstream = ([], any_wire Request _, itself [])
given_right c [] v Client = ([], ([], any_wire Response _, refl), itself [])
given_right c (Stepped e ∷ h) v s =
    gave_none c e (account c h) s (step_grown c e (account c h) (along c h v.0) (fits c h e v.1)) (no_given c e h v.1 (to s)) (given_right c h v.0 s)
given_right c (Took Client (Piece bytes) ∷ h) v Client =
    stepped c (Given Client bytes) (account c h) Client (step_grown c (Given Client bytes) (account c h) (along c h v.0) tt) (v.1.3, v.1.4, v.1.5)
given_right c (Took Client (Piece bytes) ∷ h) v Upstream =
    gave_none c (Given Client bytes) (account c h) Upstream (step_grown c (Given Client bytes) (account c h) (along c h v.0) tt) refl (given_right c h v.0 Upstream)
given_right c (Took Upstream (Piece bytes) ∷ h) v Upstream =
    stepped c (Given Upstream bytes) (account c h) Upstream (step_grown c (Given Upstream bytes) (account c h) (along c h v.0) tt) (v.1.3, v.1.4, v.1.5)
given_right c (Took Upstream (Piece bytes) ∷ h) v Client =
    gave_none c (Given Upstream bytes) (account c h) Client (step_grown c (Given Upstream bytes) (account c h) (along c h v.0) tt) refl (given_right c h v.0 Client)
given_right c (Took side _ ∷ h) v s = given_right c h v.0 s
given_right c (Nexted n ∷ h) v s = given_right c h v.0 s
given_right c (Failed ∷ h) v s = given_right c h v.0 s

-- along a history both messages only grow

grown_step : (c : FilterConfig) (e : ViewEntry) (a : ExchangeAccount) → Along c a → Fits c a e → (d : Direction)
    → Grown (changed c.course d (course d a)) (changed c.course d (course d (step c e a)))
grown_step c e a l f Request = (step_grown c e a l f).request
grown_step c e a l f Response = (step_grown c e a l f).response

pub grows_along : (c : FilterConfig) (call : Call) (h : List Call) → IsHistory c (call ∷ h) → (d : Direction)
    → Grown (changed c.course d (course d (account c h))) (changed c.course d (course d (account c (call ∷ h))))
unfolding after
grows_along c (Stepped e) h s d = grown_step c e (account c h) (along c h s.0) (fits c h e s.1) d
grows_along c (Took side (Piece bytes)) h s d = grown_step c (Given side bytes) (account c h) (along c h s.0) tt d
grows_along c (Took side _) h s d = inr (inl refl)
grows_along c (Nexted n) h s d = inr (inl refl)
grows_along c Failed h s d = inr (inl refl)
