-- An exchange that ends by a reply of the proxy's own, and answers that are refused.
use Rattle.std.proofs.Common.{refl, sym, ◌∙◌, ap, arith, subst, inl, inr, append-nil}
use Rattle.std.proofs.lemmas.Bool.{true≢false}
use Rattle.std.specs.Prelude.{ℕ, zero, suc, ◌≡◌, ◌≤◌, ◌⊎◌, Bool, true, false, List, [], ◌∷◌, ◌++◌, length, take, map, Option, Some, None, is_some, if◌then◌else◌}
use Rattle.header_mutation.specs.declared.setup.HalfFault.{HalfFault}
use Rattle.header_mutation.specs.declared.setup.HalfFault.TheVariants as fault
use Rattle.http_model.specs.Bytes.{IsPrefix}
use Rattle.http_model.specs.Wire.{local_reply}
use Rattle.http_model.specs.declared.types.Direction.TheVariants.{Response}
use Rattle.filter_model.specs.Account.{ExchangeAccount, Replied, course}
use Rattle.filter_model.specs.Answers.{ask_of}
use Rattle.filter_model.specs.Config.{FilterConfig}
use Rattle.filter_model.specs.Half as half
use Rattle.filter_model.specs.HalfRight.{written_parts}
use Rattle.filter_model.specs.Step.{is_live}
use Rattle.h1_outlet.specs.Outlets.{Flowed, all, with_reply}
use Rattle.h1_outlet.specs.Stands as outlet
use Rattle.h1_outlet.specs.declared.outlet.Outlet.{Outlet}
use Rattle.exchange.specs.Answering.{EndsBy, EndsTo, FailsTo, RefusedTo, fate_by}
use Rattle.filter_model.specs.InTurn.{asks_in}
use Rattle.exchange.specs.Stands.{AtRest, FlowTies, IsGivenBy, handed_out, written_reply}
use Rattle.exchange.specs.declared.exchange.Exchange.{Exchange}
use Rattle.exchange.specs.declared.fate.Fate.TheVariants as fate
use Rattle.exchange.specs.declared.fate.GivenWhole.{GivenWhole}
use Rattle.exchange.specs.declared.flow.Flow.{Flow}
use Rattle.exchange.proofs.GivingHeadless.{headless}
use Rattle.exchange.proofs.Next.{front_next, given_next, lost_next, source_next}
use Rattle.exchange.proofs.TimingTies.{ends_so, given_by, none_waits}
use Rattle.exchange.proofs.Wholly.{no_reply}

take_front : (n : ℕ) (xs ys zs : List ℕ) → n ≤ length xs → take n (xs ++ ys) ≡ take n (xs ++ zs)
take_front zero xs ys zs l = refl
take_front (suc n) [] ys zs l = absurd (omega (arith, l))
take_front (suc n) (x ∷ xs) ys zs l = ap (λ r. x ∷ r) (take_front n xs ys zs (omega (arith, l)))

-- what was given came before the reply
pub same_given : (bytes : List ℕ) (f : Flowed) (x : Outlet) → outlet.StandsFor f x → f.reply ≡ [] → take f.given (all f) ≡ take f.given (all (with_reply bytes f))
same_given bytes f x t e =
    let before : List ℕ = f.front ++ written_parts f.direction f.parts in
    let w = t.within in
    let k : length (all f) ≡ length before = ap length (ap (λ r. before ++ r) e ∙ append-nil before) in
    take_front f.given before f.reply bytes (omega (arith, w, k))

replied_flow : (c : FilterConfig) (bytes : List ℕ) (a b : ExchangeAccount) (n : ℕ) (w : Option ℕ) (f : Flow) (y : Outlet) → FlowTies c Response a a n w f → EndsTo c (Replied bytes) a b → w ≡ None
    → ((g : Flowed) → outlet.StandsFor g f.outlet → g.reply ≡ [] → outlet.StandsFor (with_reply bytes g) y) → FlowTies c Response b b n w (record f { outlet = y })
replied_flow c bytes a b n w f y t s i k = record {
  story = record t.story { flowed = with_reply bytes t.story.flowed };
  stands = record { reader = t.stands.reader; half = t.stands.half; outlet = k t.story.flowed t.stands.outlet none; is_past = t.stands.is_past; parts = t.stands.parts; way = t.stands.way };
  config = t.config;
  way = t.way;
  source = t.source ∙ sym (source_next Response a b s.rest);
  front = t.front ∙ sym (front_next Response a b s.rest);
  given = given_next Response a b s.rest ∙ t.given ∙ same_given bytes t.story.flowed f.outlet t.stands.outlet none;
  reply = sym (ap (λ o. written_reply Response o b.fate) i ∙ ap (written_reply Response None) s.fate);
  handed_on = t.handed_on ∙ sym (ap (λ made. length (asks_in Response (take n made))) s.made);
  told = λ e. over e;
  asks = subst (λ made. IsPrefix (asks_in Response made) (map (ask_of Response) (half.course t.story.past).asks)) (sym s.made) t.asks;
  lost = t.lost ∙ sym (lost_next Response a b s.rest);
  timer = λ e. over e;
  extended = λ e. over e;
}
  where
    none : t.story.flowed.reply ≡ []
    none = t.reply ∙ no_reply Response w a.fate s.live

    over : {A : Type 0} → is_live b.fate ≡ true → A
    over e = absurd (true≢false (sym e ∙ ap is_live s.fate ∙ s.ends))

nothing_waits : (c : FilterConfig) (a : ExchangeAccount) (w : Option ℕ) → is_live a.fate ≡ true → ((status : ℕ) → w ≡ Some status → a.fate ≡ Replied (local_reply status)) → w ≡ None
nothing_waits c a None l k = refl
nothing_waits c a (Some i) l k = absurd (none_waits a.fate (local_reply i) l (k i refl))

-- the reply is written at once
pub replied_so : (c : FilterConfig) (bytes : List ℕ) (g : GivenWhole) (a b : ExchangeAccount) (n : ℕ) (ends : List Bool) (x : Exchange) (y : Outlet) → AtRest c a n ends x
    → EndsBy c bytes a b → is_some (course Response a).head ≡ false → IsGivenBy c a g
    → ((f : Flowed) → outlet.StandsFor f x.response.outlet → f.reply ≡ [] → outlet.StandsFor (with_reply bytes f) y)
    → AtRest c b n ends (record x { fate = fate.Replied g; response = record x.response { outlet = y } })
replied_so c bytes g a b n ends x y t e h k o =
    let s : EndsTo c (Replied bytes) a b = subst (λ z. EndsTo c (fate_by z bytes) a b) h e in
    ends_so c (Replied bytes) a b n ends x (fate.Replied g) x.waiting (record x.response { outlet = y }) t s (given_by c a b g s.given k)
    (replied_flow c bytes a b (handed_out n x.ready) x.waiting x.response y t.response s (nothing_waits c a x.waiting s.live t.waiting) o)
    (λ i j. absurd (none_waits a.fate (local_reply i) s.live (t.waiting i j)))
    (λ r. (o t.response.story.flowed t.response.stands.outlet (t.response.reply ∙ no_reply Response x.waiting a.fate s.live)).framing
    ∙ sym t.response.stands.outlet.framing ∙ headless c a a _ x.waiting x.response t.response s.live (s.early r))

-- Refusals

pub refusal_fails : (c : FilterConfig) (a b : ExchangeAccount) (f : HalfFault) → (f ≡ fault.Spurious) ⊎ ((place : ℕ) × (f ≡ fault.Malformed place)) → RefusedTo c f a b → FailsTo c 500 a b
refusal_fails c a b f (inl e) r = subst (λ z. RefusedTo c z a b) e r
refusal_fails c a b f (inr (place, e)) r = subst (λ z. RefusedTo c z a b) e r

-- Immediate responses

pub none_invalid : {A : Type 0} (b : Bool) (x : A) (o : Option A) → o ≡ (if b then None else Some x) → o ≡ None → b ≡ true
none_invalid true x o e k = refl
none_invalid false x o e k = absurd cc

pub some_valid : {A : Type 0} (b : Bool) (x y : A) (o : Option A) → o ≡ (if b then None else Some x) → o ≡ Some y → (b ≡ false) × (x ≡ y)
some_valid true x y o e k = absurd cc
some_valid false x y o e k = (refl, cc)
