-- What an exchange is told at once.
use Rattle.std.proofs.Common.{refl, sym, ◌∙◌, ap, subst}
use Rattle.std.proofs.lemmas.Bool.{le-ltb, lt-ltb}
use Rattle.std.specs.Prelude.{ℕ, ◌≡◌, ◌≤◌, ◌<◌, Bool, List, [], ◌∷◌, length, if◌then◌else◌}
use Rattle.exchange.specs.Heard.{heard, heard_in}
use Rattle.exchange.specs.Stands.{IsAfter}
use Rattle.exchange.specs.declared.exchange.Exchange.{Exchange}
use Rattle.filter_model.specs.Config.{FilterConfig}
use Rattle.filter_model.specs.Right.{Call, Failed, IsReady, MayCome, Nexted, Stepped, Took, entry}
use Rattle.filter_model.specs.View.{Answered, TooLong, ViewEntry}
use Rattle.filter_model.specs.declared.calls.Event.{Event}
use Rattle.filter_model.specs.declared.calls.Event.TheVariants as event
use Rattle.filter_model.specs.declared.calls.Loss.{Loss}
use Rattle.filter_model.specs.declared.calls.Side.{Side}
use Rattle.trace_model.specs.Links.{ExchangeState, answered_by, told_of}
use Rattle.trace_player.specs.Ties.{IsPlain, IsTied, entry_of}
use Rattle.trace_player.specs.declared.opened.Opened.{Opened}

-- Events that bring no bytes and may come at any time

of_plain : (P : Event → Type 0) → ((s : Side) (how : Loss) → P (event.Lost s how)) → P event.TooLong → ((clean : Bool) → P (event.Closed clean)) → ((now : ℕ) → P (event.Tick now))
    → (e : Event) → IsPlain e → P e
of_plain P lost long closed tick (event.Lost s how) p = lost s how
of_plain P lost long closed tick event.TooLong p = long
of_plain P lost long closed tick (event.Closed clean) p = closed clean
of_plain P lost long closed tick (event.Tick now) p = tick now
of_plain P lost long closed tick (event.Bytes s bytes) p = absurd p
of_plain P lost long closed tick (event.End s) p = absurd p
of_plain P lost long closed tick (event.Answer bytes) p = absurd p
of_plain P lost long closed tick event.NoStream p = absurd p
of_plain P lost long closed tick event.Starved p = absurd p
of_plain P lost long closed tick event.Sent p = absurd p

plain_entry : (n : ℕ) (e : Event) → IsPlain e → entry (heard e) e n ≡ entry_of e
plain_entry n e p = of_plain (λ e. entry (heard e) e n ≡ entry_of e) (λ s how. refl) refl (λ clean. refl) (λ now. refl) e p

pub may_plain : (c : FilterConfig) (h : List Call) (e : Event) → IsReady h → IsPlain e → MayCome c h e
may_plain c [] e r p = of_plain (λ e. MayCome c [] e) (λ s how. tt) tt (λ clean. tt) (λ now. tt) e p
may_plain c (Failed ∷ h) e r p = absurd r
may_plain c (Stepped v ∷ h) e r p = of_plain (λ e. MayCome c (Stepped v ∷ h) e) (λ s how. tt) tt (λ clean. tt) (λ now. tt) e p
may_plain c (Took s t ∷ h) e r p = of_plain (λ e. MayCome c (Took s t ∷ h) e) (λ s how. tt) tt (λ clean. tt) (λ now. tt) e p
may_plain c (Nexted n ∷ h) e r p = of_plain (λ e. MayCome c (Nexted n ∷ h) e) (λ s how. tt) tt (λ clean. tt) (λ now. tt) e p

-- It is told this, and all else stays

tied_on : (c : FilterConfig) (m : ExchangeState) (x : Opened) (y : Exchange) (e : ViewEntry) → IsTied c m x → IsAfter c (Stepped e ∷ m.calls) y
    → IsTied c (told_of e m) (record { exchange = y; client = x.client; up = x.up; reached = x.reached })
tied_on c m x y e t a = record { after = a; ready = tt; client = t.client; up = t.up; reached = t.reached }

pub plain_told : (c : FilterConfig) (m : ExchangeState) (x : Opened) (y : Exchange) (e : Event) (n : ℕ) → IsTied c m x → IsPlain e
    → IsAfter c (Stepped (entry (heard e) e n) ∷ m.calls) y
    → IsTied c (told_of (entry_of e) m) (record { exchange = y; client = x.client; up = x.up; reached = x.reached })
plain_told c m x y e n t p a = tied_on c m x y (entry_of e) t (subst (λ v. IsAfter c (Stepped v ∷ m.calls) y) (plain_entry n e p) a)

-- An answer, or one that is too long

pub too_long : (c : FilterConfig) (bytes : List ℕ) → c.course.answer_limit < length bytes → answered_by c bytes ≡ TooLong
too_long c bytes l = ap (λ b. if b then TooLong else Answered (heard_in bytes)) (lt-ltb c.course.answer_limit (length bytes) l)

short_enough : (c : FilterConfig) (bytes : List ℕ) → length bytes ≤ c.course.answer_limit → answered_by c bytes ≡ Answered (heard_in bytes)
short_enough c bytes l = ap (λ b. if b then TooLong else Answered (heard_in bytes)) (le-ltb c.course.answer_limit (length bytes) l)

pub answer_told : (c : FilterConfig) (m : ExchangeState) (x : Opened) (y : Exchange) (bytes copy : List ℕ) → IsTied c m x → copy ≡ bytes → length bytes ≤ c.course.answer_limit
    → IsAfter c (Stepped (Answered (heard_in copy)) ∷ m.calls) y
    → IsTied c (told_of (answered_by c bytes) m) (record { exchange = y; client = x.client; up = x.up; reached = x.reached })
answer_told c m x y bytes copy t same l a =
    let read : Answered (heard_in copy) ≡ answered_by c bytes = ap (λ k. Answered (heard_in k)) same ∙ sym (short_enough c bytes l) in
    tied_on c m x y (answered_by c bytes) t (subst (λ v. IsAfter c (Stepped v ∷ m.calls) y) read a)
