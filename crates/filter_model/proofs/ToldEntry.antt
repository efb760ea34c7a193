-- One entry of the two sides that is no cut: what its halves are told, and what the account makes of it.
use Rattle.std.proofs.Common.{inl, inr, sym, ◌∙◌, ap, subst, refl, arith, length-append}
use Rattle.std.specs.Prelude.{ℕ, ◌≡◌, ◌⊎◌, ◌+◌, ◌≤◌, Bool, true, false, ◌&&◌, ◌||◌, List, [], ◌∷◌, ◌++◌, length, drop, Option, Some, None, if◌then◌else◌, is_none, option_map, nat_lt}
use Rattle.http_model.specs.Bytes.{IsPrefix}
use Rattle.http_model.specs.Reader.{Extends}
use Rattle.http_model.specs.Reads.{Original}
use Rattle.http_model.specs.Wire.{head_bytes}
use Rattle.http_model.specs.declared.types.Direction.{Direction}
use Rattle.http_model.specs.declared.types.Direction.TheVariants.{Request, Response}
use Rattle.http_model.specs.declared.types.Framing.{Framing}
use Rattle.http_model.specs.declared.types.Framing.TheVariants.{NoField, Length, Chunked}
use Rattle.filter_model.specs.Config.{CourseConfig, FilterConfig}
use Rattle.filter_model.specs.Course.{Course, Outgoing, changed, changed_at, committed, asked, outgoing, head_may_go, is_over, is_settled, is_buffered, mode_at, answer_to, is_headers, replacement}
use Rattle.filter_model.specs.Outgoing.{carried}
use Rattle.filter_model.specs.Account.{ExchangeAccount, Fate, Live, course, flow, front, gathered, brought, settled, counted_course, given_count, is_finished, is_given, is_given_at, is_released, is_to_head}
use Rattle.filter_model.specs.Cut.{Cut, over_cut}
use Rattle.filter_model.specs.Answers.{answered, asked_in}
use Rattle.filter_model.specs.Right.{Call, Stepped, IsHistory, account, IsForClientAt}
use Rattle.filter_model.specs.Step.{accepted, no_cut, under_cut, under_departure, step, step_if, with_ending, on, after, cut, cut_at, is_live}
use Rattle.filter_model.specs.View.{ViewEntry, Bytes, End, Lost, Tick}
use Rattle.filter_model.specs.declared.calls.Side.TheVariants.{Client, Upstream}
use Rattle.filter_model.specs.Sound.{Sound}
use Rattle.filter_model.specs.ToldMore.{Arrives}
use Rattle.filter_model.specs.Told.{Comes, IsNoCut, IsOfSides, IsShort, ReadWell, asks_behind, known, news, told}
use Rattle.filter_model.proofs.Growing.{wire_none}
use Rattle.filter_model.proofs.CourseGrows.{changed_none}
use Rattle.filter_model.proofs.StepGrows.{Held, ReadsOn}
use Rattle.filter_model.proofs.ReadAlong.{Read, reads_on}
use Rattle.filter_model.proofs.GivenRight.{fits, given_right, front_read, silent}
use Rattle.filter_model.proofs.AtRest.{Rested, Steady, steady}
use Rattle.filter_model.proofs.ToldReading.{reads_well, told_reading}

-- The entry gathers, chooses heads, and makes asks

taken_as : (c : FilterConfig) (e : ViewEntry) (a : ExchangeAccount) → IsOfSides e → (b : Bool) → accepted c e a b ≡ a
unfolding answered
taken_as c e a s true = refl
taken_as c (Bytes side bytes) a s false = refl
taken_as c (End side) a s false = refl
taken_as c (Lost side how) a s false = refl
taken_as c (Tick n) a s false = refl
taken_as c _ a s false = absurd s

step_is : (c : FilterConfig) (e : ViewEntry) (a : ExchangeAccount) → IsOfSides e → IsNoCut c e a
    → step c e a ≡ with_ending c (asked_in c Response (asked_in c Request (settled c (gathered e a))))
unfolding step on no_cut under_cut
step_is c e a s n =
    let g : ExchangeAccount = gathered e a in
    ap (step_if c e a) n.live ∙ ap (λ b. with_ending c (under_departure c e g b)) n.stays ∙ ap (λ k. with_ending c (under_cut c e g k)) n.none
    ∙ ap (λ x. with_ending c (asked_in c Response (asked_in c Request (settled c x)))) (taken_as c e g s (is_released g || is_finished c g))

-- What it brings

abbrev now : Direction → ViewEntry → ExchangeAccount → Original
now d e a = (course d (gathered e a)).original

pub reads_alone : (d : Direction) (e : ViewEntry) (a : ExchangeAccount) → IsOfSides e
    → (course d (gathered e a) ≡ record (course d a) { original = now d e a }) × ((flow d (gathered e a)).given ≡ (flow d a).given)
unfolding gathered brought
reads_alone Request (Bytes Client bytes) a s = (refl, refl)
reads_alone Request (Bytes Upstream bytes) a s = (refl, refl)
reads_alone Request (End Client) a s = (refl, refl)
reads_alone Request (End Upstream) a s = (refl, refl)
reads_alone Request (Lost Client how) a s = (refl, refl)
reads_alone Request (Lost Upstream how) a s = (refl, refl)
reads_alone Request (Tick n) a s = (refl, refl)
reads_alone Response (Bytes Client bytes) a s = (refl, refl)
reads_alone Response (Bytes Upstream bytes) a s = (refl, refl)
reads_alone Response (End Client) a s = (refl, refl)
reads_alone Response (End Upstream) a s = (refl, refl)
reads_alone Response (Lost Client how) a s = (refl, refl)
reads_alone Response (Lost Upstream how) a s = (refl, refl)
reads_alone Response (Tick n) a s = (refl, refl)
reads_alone d _ a s = absurd s

pub before_well : (d : Direction) (a : ExchangeAccount) → Read a → ReadWell (course d a).original
before_well Request a r = subst ReadWell (sym r.request) (reads_well Request (is_to_head a) a.request.brought a.request.ended)
before_well Response a r = subst ReadWell (sym r.response) (reads_well Response (is_to_head a) a.response.brought a.response.ended)

after_well : (d : Direction) (e : ViewEntry) (a : ExchangeAccount) → IsOfSides e → Read a → ReadWell (now d e a)
unfolding gathered brought
after_well Request (Bytes Client bytes) a s r = reads_well Request (is_to_head a) (a.request.brought ++ bytes) (a.request.ended || false)
after_well Request (Bytes Upstream bytes) a s r = before_well Request a r
after_well Request (End Client) a s r = reads_well Request (is_to_head a) (a.request.brought ++ []) (a.request.ended || true)
after_well Request (End Upstream) a s r = before_well Request a r
after_well Request (Lost Client how) a s r = before_well Request a r
after_well Request (Lost Upstream how) a s r = before_well Request a r
after_well Request (Tick n) a s r = before_well Request a r
after_well Response (Bytes Client bytes) a s r = before_well Response a r
after_well Response (Bytes Upstream bytes) a s r = reads_well Response (is_to_head a) (a.response.brought ++ bytes) (a.response.ended || false)
after_well Response (End Client) a s r = before_well Response a r
after_well Response (End Upstream) a s r = reads_well Response (is_to_head a) (a.response.brought ++ []) (a.response.ended || true)
after_well Response (Lost Client how) a s r = before_well Response a r
after_well Response (Lost Upstream how) a s r = before_well Response a r
after_well Response (Tick n) a s r = before_well Response a r
after_well d _ a s r = absurd s

-- No body is past its limit

not_finished : (d : Direction) (c : FilterConfig) (g : ExchangeAccount) → (course d g).head ≡ None → is_finished c g ≡ false
unfolding is_finished is_given
not_finished Request c g n = ap (λ o. is_given_at Request o (changed c.course Request g.request.course) (front Request g) g.request.given && is_given c g Response) n
not_finished Response c g n =
    ap (λ o. is_given c g Request && is_given_at Response o (changed c.course Response g.response.course) (front Response g) g.response.given) n ∙ and_false (is_given c g Request)
  where
    and_false : (x : Bool) → (x && false) ≡ false
    and_false true = refl
    and_false false = refl

pub none_over : (finished released : Bool) (processor over peer : Option Cut) → finished ≡ false → released ≡ false → cut_at finished released processor over peer ≡ None → over ≡ None
none_over true r p o q f e k = absurd cc
none_over false true p o q f e k = absurd cc
none_over false false (Some x) o q f e k = absurd cc
none_over false false None (Some x) q f e k = absurd cc
none_over false false None None q f e k = refl

pub both_within : (x y : Bool) (k l : Cut) → (if x then Some k else if y then Some l else None) ≡ None → (x ≡ false) × (y ≡ false)
both_within true y k l e = absurd cc
both_within false true k l e = absurd cc
both_within false false k l e = (refl, refl)

pub released_within : (c : CourseConfig) (w : Course) → w.released ≡ true → is_over c w ≡ false
released_within c w e = ap (λ r. is_settled w && is_buffered (mode_at r (answer_to is_headers w) w.modes.body) && nat_lt c.buffer_limit (length w.original.body)) e ∙ none (is_settled w) (nat_lt c.buffer_limit (length w.original.body))
  where
    none : (x y : Bool) → (x && false && y) ≡ false
    none true y = refl
    none false y = refl

same_released : (d : Direction) (c : FilterConfig) (a : ExchangeAccount) → Held c a → (course d a).released ≡ is_released a
same_released Request c a h = refl
same_released Response c a h = h.both

within : (c : FilterConfig) (e : ViewEntry) (a : ExchangeAccount) (d : Direction) → Held c a → IsOfSides e → IsNoCut c e a → (course d a).head ≡ None
    → is_over c.course (record (course d a) { original = now d e a }) ≡ false
unfolding cut over_cut
within c e a d h s n k = by (is_released a) refl
  where
    g : ExchangeAccount
    g = gathered e a

    of : (d : Direction) → (is_over c.course g.request.course ≡ false) × (is_over c.course g.response.course ≡ false) → is_over c.course (course d g) ≡ false
    of Request x = x.0
    of Response x = x.1

    by : (b : Bool) → is_released a ≡ b → is_over c.course (record (course d a) { original = now d e a }) ≡ false
    by true r = released_within c.course (record (course d a) { original = now d e a }) (same_released d c a h ∙ r)
    by false r =
        let f : is_finished c g ≡ false = not_finished d c g (ap (λ w. w.head) (reads_alone d e a s).0 ∙ k) in
        let i : is_released g ≡ false = ap (λ w. w.released) (reads_alone Request e a s).0 ∙ r in
        let o : over_cut c (answered c e g) ≡ None = none_over (is_finished c g) (is_released g) _ (over_cut c (answered c e g)) _ f i n.none in
        ap (is_over c.course) (sym (reads_alone d e a s).0)
        ∙ of d (both_within (is_over c.course g.request.course) (is_over c.course g.response.course) _ _ (ap (over_cut c) (sym (taken_as c e g s false)) ∙ o))

-- What was given counts as before

pub changed_some : (c : CourseConfig) (d : Direction) (w : Course) (o : Outgoing) → w.head ≡ Some o → (changed c d w).head ≡ None → ⊥
unfolding changed
changed_some c d w o e n = by w.head (replacement d w) e n
  where
    by : (h : Option Outgoing) (r : Option (List ℕ)) → h ≡ Some o → (changed_at c w h r).head ≡ None → ⊥
    by None r e n = cc
    by (Some x) (Some b) e n = cc
    by (Some x) None e n = cc

pub front_same : (c : FilterConfig) (e : ViewEntry) (a : ExchangeAccount) (d : Direction) (o : Outgoing) → Held c a → Read a → Extends a.request.course.original (now Request e a)
    → (course d a).head ≡ Some o → front d (gathered e a) ≡ front d a
front_same c e a Request o h r x k = refl
front_same c e a Response o h r x k = by (front_read c a (now Request e a) h x (silent a r))
  where
    by : (front Response (gathered e a) ≡ front Response a) ⊎ ((changed c.course Response (course Response a)).head ≡ None × front Response a ≡ []) → front Response (gathered e a) ≡ front Response a
    by (inl e) = e
    by (inr (n, z)) = absurd (changed_some c.course Response a.response.course o k n)

pub no_longer : (xs ys : List ℕ) → IsPrefix xs ys → length xs ≤ length ys
no_longer xs ys p = let e : length xs + length p.rest ≡ length ys = sym (length-append xs p.rest) ∙ ap length p.whole in omega (arith, e)

pub live_is : (f : Fate) → is_live f ≡ true → f ≡ Live
live_is Live e = refl
live_is _ e = absurd cc

-- before its head a side got no more than what goes before it
pub few_given : (c : FilterConfig) (h : List Call) → IsHistory c h → is_live (account c h).fate ≡ true → (d : Direction) → (course d (account c h)).head ≡ None
    → length (flow d (account c h)).given ≤ length (front d (account c h))
few_given c h y l Request k =
    let a : ExchangeAccount = account c h in
    let x = given_right c h y Upstream in
    let none : x.0 ≡ [] = wire_none Request (changed c.course Request (course Request a)) x.0 (changed_none c.course Request (course Request a) k) x.1 in
    ap_le (no_longer a.request.given x.0 x.2) (ap length none)
  where
    ap_le : {n m k : ℕ} → n ≤ m → m ≡ k → n ≤ k
    ap_le p e = omega (arith, p, e)
few_given c h y l Response k =
    let a : ExchangeAccount = account c h in
    let x = given_right c h y Client in
    let w = subst (λ f. IsForClientAt c a f x.0) (live_is a.fate l) x.1 in
    let none : w.0 ≡ [] = wire_none Response (changed c.course Response (course Response a)) w.0 (changed_none c.course Response (course Response a) k) w.1 in
    let size : length x.0 ≡ length (front Response a) + length w.0 = ap length w.2 ∙ length-append (front Response a) w.0 in
    let zero : length w.0 ≡ 0 = ap length none in
    let p : length a.response.given ≤ length x.0 = no_longer a.response.given x.0 x.2 in
    omega (arith, size, zero, p)

drop_over : (n : ℕ) (l : List ℕ) → length l ≤ n → drop n l ≡ []
drop_over n [] h = drop_none n
  where
    drop_none : (n : ℕ) → drop {A = ℕ} n [] ≡ []
    drop_none ℕ.zero = refl
    drop_none (ℕ.suc n) = refl
drop_over ℕ.zero (x ∷ l) h = absurd (omega (arith, h))
drop_over (ℕ.suc n) (x ∷ l) h = drop_over n l (omega (arith, h))

pub none_given : (d : Direction) (o : Option Outgoing) (front given : List ℕ) → length given ≤ length front → given_count d o front given ≡ 0
none_given d None front given h = refl
none_given d (Some o) front given h =
    let e : length (front ++ head_bytes d o.fields o.framing) ≡ length front + length (head_bytes d o.fields o.framing) = length-append front (head_bytes d o.fields o.framing) in
    ap (carried o.framing) (drop_over (length (front ++ head_bytes d o.fields o.framing)) given (omega (arith, h, e))) ∙ none o.framing
  where
    none : (f : Framing) → carried f [] ≡ 0
    none NoField = refl
    none (Length m) = refl
    none Chunked = refl

pub head_stays : (o : Outgoing) (h x : Option Outgoing) (b : Bool) → h ≡ Some o → (if is_none h && b then x else h) ≡ Some o
head_stays o (Some y) x b e = e
head_stays o None x b e = absurd cc

-- The course of one direction

pub rested : (d : Direction) (c : FilterConfig) (a : ExchangeAccount) → Steady c a → is_live a.fate ≡ true → Rested c.course d (course d a) (front d a) (flow d a).given
rested Request c a s l = (s.rest (live_is a.fate l)).0
rested Response c a s l = (s.rest (live_is a.fate l)).1

pub sound_in : (d : Direction) (c : FilterConfig) (a : ExchangeAccount) → Held c a → Sound c.course (course d a)
sound_in Request c a h = h.request
sound_in Response c a h = h.response

pub extends_in : (d : Direction) (e : ViewEntry) (a : ExchangeAccount) → ReadsOn e a → Extends (course d a).original (now d e a)
unfolding ReadsOn
extends_in Request e a r = r.0
extends_in Response e a r = r.1

counted : (c : FilterConfig) (h : List Call) (e : ViewEntry) (d : Direction) → IsHistory c h → IsOfSides e → is_live (account c h).fate ≡ true → Extends (account c h).request.course.original (now Request e (account c h))
    → given_count d (committed c.course d (record (course d (account c h)) { original = now d e (account c h) })).head (front d (gathered e (account c h))) (flow d (gathered e (account c h))).given
    ≡ (course d (account c h)).given
unfolding committed
counted c h e d y s l x = by (course d a).head refl
  where
    a : ExchangeAccount
    a = account c h

    w : Course
    w = course d a

    v : Course
    v = record w { original = now d e a }

    k : Steady c a
    k = steady c h y

    r : Rested c.course d w (front d a) (flow d a).given
    r = rested d c a k l

    chosen : Option Outgoing
    chosen = if is_none w.head && head_may_go v then option_map (outgoing c.course d v) (now d e a).head else w.head

    -- the front goes on, or nothing was given
    few : w.head ≡ None → length (flow d (gathered e a)).given ≤ length (front d (gathered e a))
    few n = of d n (few_given c h y l d n)
      where
        of : (d : Direction) → (course d a).head ≡ None → length (flow d a).given ≤ length (front d a) → length (flow d (gathered e a)).given ≤ length (front d (gathered e a))
        of Request n p = let g = ap length (reads_alone Request e a s).1 in omega (arith, p, g)
        of Response n p = grown (front_read c a (now Request e a) k.along.held x (silent a k.along.read))
          where
            grown : (front Response (gathered e a) ≡ front Response a) ⊎ ((changed c.course Response (course Response a)).head ≡ None × front Response a ≡ [])
                → length (flow Response (gathered e a)).given ≤ length (front Response (gathered e a))
            grown (inl f) = let g = ap length (reads_alone Response e a s).1 in let i = ap length f in omega (arith, p, g, i)
            grown (inr (z, f)) = let g = ap length (reads_alone Response e a s).1 in let i : length (front Response a) ≡ 0 = ap length f in omega (arith, p, g, i)

    by : (o : Option Outgoing) → w.head ≡ o → given_count d chosen (front d (gathered e a)) (flow d (gathered e a)).given ≡ w.given
    by None n =
        none_given d chosen (front d (gathered e a)) (flow d (gathered e a)).given (few n)
        ∙ sym (r.counted ∙ ap (λ z. given_count d z (front d a) (flow d a).given) n)
    by (Some o) n =
        ap (λ z. given_count d z (front d (gathered e a)) (flow d (gathered e a)).given) (head_stays o w.head _ (head_may_go v) n)
        ∙ ap (λ f. given_count d (Some o) f (flow d (gathered e a)).given) (front_same c e a d o k.along.held k.along.read x n)
        ∙ ap (given_count d (Some o) (front d a)) (reads_alone d e a s).1
        ∙ ap (λ z. given_count d z (front d a) (flow d a).given) (sym n) ∙ sym r.counted

pub course_is : (c : FilterConfig) (d : Direction) (x : ExchangeAccount) → course d (with_ending c (asked_in c Response (asked_in c Request (settled c x))))
    ≡ asked c.course d (counted_course d (front d x) (flow d x).given (committed c.course d (course d x)))
unfolding with_ending asked_in settled
course_is c Request x = refl
course_is c Response x = refl

pub same_count : (d : Direction) (front given : List ℕ) (v : Course) → given_count d v.head front given ≡ v.given → counted_course d front given v ≡ v
same_count d front given v e = ap (λ n. record v { given = n }) e

committed_given : (c : CourseConfig) (d : Direction) (w : Course) → (committed c d w).given ≡ w.given
unfolding committed
committed_given c d w = refl

-- it comes as a half may be told of it
pub arrives_on : (c : FilterConfig) (h : List Call) (e : ViewEntry) → IsHistory c (Stepped e ∷ h) → IsOfSides e → is_live (account c h).fate ≡ true → c.course.piece ≤ c.course.mark → (d : Direction)
    → IsShort c (course d (account c h)) (course d (gathered e (account c h))) → Arrives c.course d (course d (account c h)) (course d (gathered e (account c h))).original
arrives_on c h e y s l z d q =
    let a : ExchangeAccount = account c h in
    let k : Steady c a = steady c h y.0 in
    let x = reads_on c e a k.along.read k.along.held (fits c h e y.1) in
    let r : Rested c.course d (course d a) (front d a) (flow d a).given = rested d c a k l in
    record {
      sound = sound_in d c a k.along.held;
      chosen = r.chosen;
      asked = r.asked;
      extends = extends_in d e a x;
      before = before_well d a k.along.read;
      after = after_well d e a s k.along.read;
      short = q;
      sizes = z;
    }

pub comes_of : (c : CourseConfig) (d : Direction) (w : Course) (now : Original) → Arrives c d w now → (w.original.head ≡ None → is_over c (record w { original = now }) ≡ false) → Comes c d w now
comes_of c d w now x k = record {
  sound = x.sound;
  chosen = x.chosen;
  asked = x.asked;
  extends = x.extends;
  before = x.before;
  after = x.after;
  short = x.short;
  within = k;
  sizes = x.sizes;
}

pub comes_on : (c : FilterConfig) (h : List Call) (e : ViewEntry) → IsHistory c (Stepped e ∷ h) → IsOfSides e → IsNoCut c e (account c h) → c.course.piece ≤ c.course.mark → (d : Direction)
    → IsShort c (course d (account c h)) (course d (gathered e (account c h))) → Comes c.course d (course d (account c h)) (course d (gathered e (account c h))).original
comes_on c h e y s n z d q =
    let a : ExchangeAccount = account c h in
    let k : Steady c a = steady c h y.0 in
    comes_of c.course d (course d a) (now d e a) (arrives_on c h e y s n.live z d q) (λ u. within c e a d k.along.held s n ((sound_in d c a k.along.held).head_read u).0)

pub entry_told : (c : FilterConfig) (h : List Call) (e : ViewEntry) → IsHistory c (Stepped e ∷ h) → IsOfSides e → IsNoCut c e (account c h) → c.course.piece ≤ c.course.mark → (d : Direction)
    → IsShort c (course d (account c h)) (course d (gathered e (account c h)))
    → known (course d (account c (Stepped e ∷ h)))
    ≡ told c.course d (news c.course d (known (course d (account c h))) (course d (gathered e (account c h))).original) (known (course d (account c h)))
unfolding after
entry_told c h e y s n z d q =
    let a : ExchangeAccount = account c h in
    let k : Steady c a = steady c h y.0 in
    let v : Course = record (course d a) { original = now d e a } in
    let x = reads_on c e a k.along.read k.along.held (fits c h e y.1) in
    ap known
    (ap (course d) (step_is c e a s n) ∙ course_is c d (gathered e a)
    ∙ ap (λ w. asked c.course d (counted_course d (front d (gathered e a)) (flow d (gathered e a)).given (committed c.course d w))) (reads_alone d e a s).0
    ∙ ap (asked c.course d)
    (same_count d (front d (gathered e a)) (flow d (gathered e a)).given (committed c.course d v)
    (counted c h e d y.0 s n.live (extends_in Request e a x) ∙ sym (committed_given c.course d v))))
    ∙ sym (told_reading c.course d (course d a) (now d e a) (comes_on c h e y s n z d q))

-- the request's asks go first
pub made_is : (c : FilterConfig) (x : ExchangeAccount) → let a : ExchangeAccount = with_ending c (asked_in c Response (asked_in c Request (settled c x))) in
    a.made ≡ (x.made ++ asks_behind Request x.request.course a.request.course) ++ asks_behind Response x.response.course a.response.course
unfolding with_ending asked_in settled committed
made_is c x = refl

same_made : (e : ViewEntry) (a : ExchangeAccount) → IsOfSides e → (gathered e a).made ≡ a.made
unfolding gathered brought
same_made (Bytes Client bytes) a s = refl
same_made (Bytes Upstream bytes) a s = refl
same_made (End Client) a s = refl
same_made (End Upstream) a s = refl
same_made (Lost Client how) a s = refl
same_made (Lost Upstream how) a s = refl
same_made (Tick n) a s = refl
same_made _ a s = absurd s

pub entry_made : (c : FilterConfig) (e : ViewEntry) (a : ExchangeAccount) → IsOfSides e → IsNoCut c e a
    → (step c e a).made ≡ (a.made ++ asks_behind Request a.request.course (step c e a).request.course) ++ asks_behind Response a.response.course (step c e a).response.course
entry_made c e a s n =
    let g : ExchangeAccount = gathered e a in
    ap (λ x. x.made) (step_is c e a s n) ∙ made_is c g
    ∙ ap (λ l. (l ++ asks_behind Request g.request.course x.request.course) ++ asks_behind Response g.response.course x.response.course) (same_made e a s)
    ∙ ap (λ w. (a.made ++ asks_behind Request w x.request.course) ++ asks_behind Response g.response.course x.response.course) (reads_alone Request e a s).0
    ∙ ap (λ w. (a.made ++ asks_behind Request a.request.course x.request.course) ++ asks_behind Response w x.response.course) (reads_alone Response e a s).0
    ∙ ap (λ b. (a.made ++ asks_behind Request a.request.course b.request.course) ++ asks_behind Response a.response.course b.response.course) (sym (step_is c e a s n))
  where
    x : ExchangeAccount
    x = with_ending c (asked_in c Response (asked_in c Request (settled c (gathered e a))))
