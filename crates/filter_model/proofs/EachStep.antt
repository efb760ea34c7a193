-- What each entry leaves standing, whatever it is.
use Rattle.std.proofs.Common.{inl, inr, sym, ◌∙◌, ap, subst, refl, arith}
use Rattle.std.specs.Prelude.{ℕ, suc, ◌≡◌, ◌⊎◌, ◌+◌, ◌≤◌, Bool, true, false, List, Option, Some, None, if◌then◌else◌, is_some}
use Rattle.http_model.specs.declared.types.Direction.TheVariants.{Request, Response}
use Rattle.filter_model.specs.Config.{FilterConfig}
use Rattle.filter_model.specs.Account.{ExchangeAccount, Fate, Live, Aborted, gathered, account_rules, unsent, is_finished, is_released}
use Rattle.filter_model.specs.Cut.{Cut, Over, loss_cut, over_cut, peer_cut, processor_cut, is_whole_and_done}
use Rattle.filter_model.specs.Answers.{answered}
use Rattle.filter_model.specs.Step.{rules, step, step_if, after_end, still_counts, under_cut, by_reply, reply_to, lets_pass, cut, cut_at, is_departure, is_live}
use Rattle.filter_model.specs.View.{ViewEntry, Bytes, End, Lost, Answered, TooLong, Closed, NoStream, Tick, Starved, Sent, Given}
use Rattle.filter_model.specs.declared.calls.Loss.{Loss}
use Rattle.filter_model.specs.declared.calls.Loss.TheVariants.{NoDial, Broken}
use Rattle.filter_model.specs.declared.calls.Side.{Side}
use Rattle.filter_model.specs.declared.calls.Side.TheVariants.{Client, Upstream}
use Rattle.filter_model.proofs.Kept.{departure_kept, gathered-fate}

-- An end is final

after_end-fate : (e : ViewEntry) (a : ExchangeAccount) (b : Bool) → (after_end e a b).fate ≡ a.fate
after_end-fate e a true = gathered-fate e a
after_end-fate e a false = refl

pub fate_stays : (c : FilterConfig) (e : ViewEntry) (a : ExchangeAccount) → is_live a.fate ≡ false → (step c e a).fate ≡ a.fate
unfolding step
fate_stays c e a n = ap (λ b. (step_if c e a b).fate) n ∙ after_end-fate e a (still_counts e)

-- Asks sent

abbrev AtMostOne : ℕ → ℕ → Type 0
AtMostOne n m = (n ≤ m) × (m ≤ n + 1)

same_count : (n m : ℕ) → m ≡ n → AtMostOne n m
same_count n m e = (omega (arith, e), omega (arith, e))

one_counted : (n : ℕ) (b : Bool) → AtMostOne n (if b then suc n else n)
one_counted n true = (omega arith, omega arith)
one_counted n false = (omega arith, omega arith)

gathered-sent : (e : ViewEntry) (a : ExchangeAccount) → AtMostOne a.sent (gathered e a).sent
unfolding account_rules
gathered-sent Sent a = one_counted a.sent (is_some (unsent a))
gathered-sent (Bytes s bytes) a = same_count a.sent a.sent refl
gathered-sent (End s) a = same_count a.sent a.sent refl
gathered-sent (Lost s how) a = same_count a.sent a.sent refl
gathered-sent (Answered x) a = same_count a.sent a.sent refl
gathered-sent TooLong a = same_count a.sent a.sent refl
gathered-sent (Closed b) a = same_count a.sent a.sent refl
gathered-sent NoStream a = same_count a.sent a.sent refl
gathered-sent (Tick n) a = same_count a.sent a.sent refl
gathered-sent Starved a = same_count a.sent a.sent refl
gathered-sent (Given s bytes) a = same_count a.sent a.sent refl

if-sent : (c : FilterConfig) (e : ViewEntry) (a : ExchangeAccount) (b : Bool) → AtMostOne a.sent (step_if c e a b).sent
unfolding rules
if-sent c e a true =
    subst (AtMostOne a.sent) (sym (departure_kept c e (gathered e a) (is_departure e (gathered e a))).sent) (gathered-sent e a)
if-sent c e a false = by (still_counts e)
  where
    by : (b : Bool) → AtMostOne a.sent (after_end e a b).sent
    by true = gathered-sent e a
    by false = same_count a.sent a.sent refl

pub sent_at_most_one : (c : FilterConfig) (e : ViewEntry) (a : ExchangeAccount) → AtMostOne a.sent (step c e a).sent
unfolding step
sent_at_most_one c e a = if-sent c e a (is_live a.fate)

-- A loss that leaves the exchange alive

clash : true ≡ false → ⊥
clash e = cc

pub by_reply_ends : (o : Option (List ℕ)) → is_live (by_reply o) ≡ false
by_reply_ends None = refl
by_reply_ends (Some r) = refl

ends : (b : Bool) (f : Fate) (gone : Bool) (o : Option (List ℕ)) → b ≡ false → (if b then f else if gone then Aborted else by_reply o) ≡ Live → ⊥
ends true f gone o i e = clash i
ends false f true o i e = clash (sym (ap is_live e))
ends false f false o i e = clash (sym (ap is_live e) ∙ by_reply_ends o)

-- which cuts a loss may be: none lets the rest pass
abbrev EndsAll : FilterConfig → Option Cut → Type 0
EndsAll c None = Unit {0}
EndsAll c (Some k) = lets_pass c k ≡ false

loss_ends : (c : FilterConfig) (s : Side) (how : Loss) → lets_pass c (loss_cut s how) ≡ false
loss_ends c Client how = refl
loss_ends c Upstream NoDial = refl
loss_ends c Upstream Broken = refl

loss_none : (w : Bool) (k : Cut) (f r : Bool) (over : Option Cut) (c : FilterConfig) → EndsAll c over → lets_pass c k ≡ false
    → (cut_at f r None over (if w then None else Some k) ≡ None → (f ≡ true) ⊎ (w ≡ true)) × EndsAll c (cut_at f r None over (if w then None else Some k))
loss_none w k true r over c o l = (λ e. inl refl, tt)
loss_none true k false true over c o l = (λ e. inr refl, tt)
loss_none false k false true over c o l = (λ e. absurd cc, l)
loss_none true k false false None c o l = (λ e. inr refl, tt)
loss_none false k false false None c o l = (λ e. absurd cc, l)
loss_none w k false false (Some x) c o l = (λ e. absurd cc, o)

over_ends : (c : FilterConfig) (x y : Bool) → EndsAll c (if x then Some (Over Request) else if y then Some (Over Response) else None)
over_ends c true y = refl
over_ends c false true = refl
over_ends c false false = tt

cut_ends : (c : FilterConfig) (e : ViewEntry) (a : ExchangeAccount) (k : Option Cut) → EndsAll c k → (under_cut c e a k).fate ≡ Live → k ≡ None
unfolding rules
cut_ends c e a None l f = refl
cut_ends c e a (Some k) l f = absurd (ends (lets_pass c k) a.fate _ (reply_to k _) l f)

-- it comes behind everything, or to a side that was whole and done
abbrev pub WasDone : FilterConfig → Side → ExchangeAccount → Type 0
WasDone c s a = (is_finished c a ≡ true) ⊎ (is_whole_and_done c a s ≡ true)

lost_on : (c : FilterConfig) (s : Side) (how : Loss) (a : ExchangeAccount) → (under_cut c (Lost s how) a (cut c (Lost s how) a)).fate ≡ Live → WasDone c s a
unfolding cut processor_cut over_cut peer_cut
lost_on c s how a f =
    let x = loss_none (is_whole_and_done c a s) (loss_cut s how) (is_finished c a) (is_released a) (over_cut c (answered c (Lost s how) a)) c (over_ends c _ _) (loss_ends c s how) in
    x.0 (cut_ends c (Lost s how) a (cut c (Lost s how) a) x.1 f)

same_done : (c : FilterConfig) (s : Side) (how : Loss) (a : ExchangeAccount) → WasDone c s (gathered (Lost s how) a) → WasDone c s a
unfolding account_rules
same_done c Client how a x = x
same_done c Upstream how a x = x

lost_if : (c : FilterConfig) (s : Side) (how : Loss) (a : ExchangeAccount) (b : Bool) → b ≡ true → (step_if c (Lost s how) a b).fate ≡ Live → WasDone c s a
unfolding rules
lost_if c s how a true i f = same_done c s how a (lost_on c s how (gathered (Lost s how) a) f)
lost_if c s how a false i f = absurd (clash (sym i))

pub lost_done : (c : FilterConfig) (s : Side) (how : Loss) (a : ExchangeAccount) → is_live a.fate ≡ true → (step c (Lost s how) a).fate ≡ Live → WasDone c s a
unfolding step
lost_done c s how a l f = lost_if c s how a (is_live a.fate) l f
