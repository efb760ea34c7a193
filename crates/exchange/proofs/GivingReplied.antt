-- A reply of the proxy's own ends an exchange only before the response's head is chosen, which stays so.
use Rattle.std.proofs.Common.{refl, sym, ◌∙◌, ap, subst}
use Rattle.std.specs.Prelude.{ℕ, ◌≡◌, ◌&&◌, ◌||◌, Bool, true, false, List, [], ◌∷◌, Option, Some, None, is_none, is_some, option_map, if◌then◌else◌}
use Rattle.ext_msgs.specs.declared.lists.Field.{Field}
use Rattle.http_model.specs.declared.types.Direction.TheVariants.{Response}
use Rattle.filter_model.specs.Account.{ExchangeAccount, Fate, Live, Left, Replied, Aborted, flow, front, gathered, is_to_head, settled}
use Rattle.filter_model.specs.Config.{FilterConfig}
use Rattle.filter_model.specs.Course.{Course, Outgoing, committed, head_may_go, outgoing}
use Rattle.filter_model.specs.Cut.{Cut}
use Rattle.filter_model.specs.Right.{Call, Stepped, Took, Nexted, Failed, account}
use Rattle.filter_model.specs.Step.{after, after_end, by_reply, cut, effect, is_departure, is_live, lets_pass, on, reply_to, still_counts, step, step_if, under_cut, under_departure, with_ending}
use Rattle.filter_model.specs.View.{ViewEntry, Bytes, End, Lost, Answered, TooLong, Closed, NoStream, Tick, Starved, Sent, Given}
use Rattle.filter_model.specs.declared.calls.Side.TheVariants.{Client, Upstream}
use Rattle.filter_model.specs.declared.calls.Taken.TheVariants.{Piece, Nothing, Done, Abort, Gone}
use Rattle.filter_model.proofs.Kept.{gathered-fate}
use Rattle.filter_model.proofs.NeverOver.{gathered_is}
use Rattle.filter_model.proofs.RestStays.{cut_fate, left_fate, same_fate}
use Rattle.filter_model.proofs.ToldRelease.{course_is, passed}
use Rattle.exchange.specs.Stands.{IsReplied}

clash : true ≡ false → ⊥
clash e = cc

pub unreplied : (f : Fate) → is_live f ≡ true → IsReplied f → ⊥
unreplied Live l r = r
unreplied Left l r = r
unreplied Aborted l r = r
unreplied (Replied reply) l r = clash (sym l)

-- The cut that calls for a reply

record IsReplying (c : FilterConfig) (e : ViewEntry) (a : ExchangeAccount) : Type 0 where
  row : Cut
  is : step c e a ≡ with_ending c (settled c (effect c row (settled c (gathered e a))))
  ends : lets_pass c row ≡ false
  none : (settled c (gathered e a)).response.course.head ≡ None

under_fate : (passes : Bool) (f y : Fate) (o : Option Outgoing) → is_live f ≡ true → IsReplied (if passes then f else if is_some o then Aborted else y) → (passes ≡ false) × (o ≡ None)
under_fate true f y o l r = absurd (unreplied f l r)
under_fate false f y (Some x) l r = absurd r
under_fate false f y None l r = (refl, refl)

replying : (c : FilterConfig) (e : ViewEntry) (a : ExchangeAccount) → is_live a.fate ≡ true → IsReplied (step c e a).fate → IsReplying c e a
unfolding step on under_cut settled
replying c e a l r = by (is_departure e g) (cut c e g) refl refl
  where
    g : ExchangeAccount
    g = gathered e a

    by : (b : Bool) (k : Option Cut) → is_departure e g ≡ b → cut c e g ≡ k → IsReplying c e a
    by true k i j = absurd (subst IsReplied (left_fate c e a l i) r)
    by false None i j = absurd (unreplied (step c e a).fate (ap is_live (same_fate c e a (record { live = l; stays = i; none = j })) ∙ l) r)
    by false (Some k) i j =
        let u = under_fate (lets_pass c k) (settled c g).fate (by_reply (reply_to k (is_to_head (settled c g)))) (settled c g).response.course.head
        (ap is_live (gathered-fate e a) ∙ l) (subst IsReplied (cut_fate c e a k l i j) r) in
        record {
          row = k;
          is = ap (step_if c e a) l ∙ ap (λ b. with_ending c (under_departure c e g b)) i ∙ ap (λ x. with_ending c (under_cut c e g x)) j;
          ends = u.0;
          none = u.1;
        }

-- The response's head

was_none : (head o : Option Outgoing) (b : Bool) → (if is_none head && b then o else head) ≡ None → head ≡ None
was_none None o b e = refl
was_none (Some x) o b e = e

pub early_head : (c : FilterConfig) (e : ViewEntry) (a : ExchangeAccount) → is_live a.fate ≡ true → IsReplied (step c e a).fate → a.response.course.head ≡ None
unfolding settled committed
early_head c e a l r =
    let w : Course = (gathered e a).response.course in
    sym (ap (λ (v : Course). v.head) (gathered_is Response e a)) ∙ was_none w.head (option_map (outgoing c.course Response w) w.original.head) (head_may_go w) (replying c e a l r).none

or_none : (x b : Bool) → b ≡ false → (x || b) ≡ x
or_none true b e = refl
or_none false b e = e

-- nothing is chosen the second time that wasn't the first time
twice : (head : Option Outgoing) (b : Bool) (o : Option (List Field)) (f f' : List Field → Outgoing) → (if is_none head && b then option_map f o else head) ≡ None
    → (if is_none (if is_none head && b then option_map f o else head) && b then option_map f' o else (if is_none head && b then option_map f o else head)) ≡ None
twice None true None f f' e = refl
twice None true (Some x) f f' e = absurd cc
twice None false o f f' e = refl
twice (Some x) b o f f' e = e

stays_none : (c : FilterConfig) (b : Bool) (front given : List ℕ) (w : Course) → b ≡ false → (committed c.course Response w).head ≡ None → (passed c Response b front given w).head ≡ None
unfolding committed
stays_none c b front given w e n =
    ap (λ q. if is_none (committed c.course Response w).head && head_may_go (record w { released = q })
    then option_map (outgoing c.course Response (record w { released = q })) w.original.head else (committed c.course Response w).head) (or_none w.released b e)
    ∙ twice w.head (head_may_go w) w.original.head (outgoing c.course Response w) (outgoing c.course Response w) n

live_head : (c : FilterConfig) (e : ViewEntry) (a : ExchangeAccount) → is_live a.fate ≡ true → IsReplied (step c e a).fate → (step c e a).response.course.head ≡ None
unfolding settled
live_head c e a l r =
    let g : ExchangeAccount = gathered e a in
    let k = replying c e a l r in
    ap (λ (x : ExchangeAccount). x.response.course.head) k.is ∙ ap (λ (w : Course). w.head) (course_is c k.row Response g)
    ∙ stays_none c (lets_pass c k.row) (front Response g) (flow Response g).given g.response.course k.ends k.none

over_same : (e : ViewEntry) (a : ExchangeAccount) → ((after_end e a (still_counts e)).fate ≡ a.fate) × ((after_end e a (still_counts e)).response.course.head ≡ a.response.course.head)
unfolding gathered
over_same Sent a = (refl, refl)
over_same (Given Client bytes) a = (refl, refl)
over_same (Given Upstream bytes) a = (refl, refl)
over_same (Bytes s bytes) a = (refl, refl)
over_same (End s) a = (refl, refl)
over_same (Lost s how) a = (refl, refl)
over_same (Answered x) a = (refl, refl)
over_same TooLong a = (refl, refl)
over_same (Closed b) a = (refl, refl)
over_same NoStream a = (refl, refl)
over_same (Tick n) a = (refl, refl)
over_same Starved a = (refl, refl)

step_head : (c : FilterConfig) (e : ViewEntry) (a : ExchangeAccount) → (IsReplied a.fate → a.response.course.head ≡ None) → IsReplied (step c e a).fate → (step c e a).response.course.head ≡ None
unfolding step
step_head c e a k r = by (is_live a.fate) refl
  where
    over : is_live a.fate ≡ false → step c e a ≡ after_end e a (still_counts e)
    over n = ap (step_if c e a) n

    by : (b : Bool) → is_live a.fate ≡ b → (step c e a).response.course.head ≡ None
    by true l = live_head c e a l r
    by false l =
        let s = over_same e a in
        ap (λ (x : ExchangeAccount). x.response.course.head) (over l) ∙ s.1 ∙ k (subst IsReplied (ap (λ (x : ExchangeAccount). x.fate) (over l) ∙ s.0) r)

pub replied_head : (c : FilterConfig) (h : List Call) → IsReplied (account c h).fate → (account c h).response.course.head ≡ None
unfolding after
replied_head c [] r = absurd r
replied_head c (Stepped e ∷ h) r = step_head c e (account c h) (replied_head c h) r
replied_head c (Took s (Piece bytes) ∷ h) r = step_head c (Given s bytes) (account c h) (replied_head c h) r
replied_head c (Took s Nothing ∷ h) r = replied_head c h r
replied_head c (Took s Done ∷ h) r = replied_head c h r
replied_head c (Took s Abort ∷ h) r = replied_head c h r
replied_head c (Took s Gone ∷ h) r = replied_head c h r
replied_head c (Nexted n ∷ h) r = replied_head c h r
replied_head c (Failed ∷ h) r = replied_head c h r
