-- A tick: which timers fire, and what it leaves where none does.
use Rattle.std.proofs.Common.{refl, sym, ◌∙◌, ap, arith, subst, append-nil}
use Rattle.std.specs.Prelude.{ℕ, ◌≡◌, ◌≤◌, ◌+◌, max, ◌||◌, Bool, true, false, not, List, [], ◌∷◌, ◌++◌, Some, None, if◌then◌else◌}
use Rattle.http_model.specs.Bytes.{is_empty}
use Rattle.http_model.specs.declared.types.Direction.{Direction}
use Rattle.http_model.specs.declared.types.Direction.TheVariants.{Request, Response}
use Rattle.filter_model.specs.Account.{ExchangeAccount, Flow, course, flow, gathered}
use Rattle.filter_model.specs.Config.{FilterConfig}
use Rattle.filter_model.specs.Course.{Course, out}
use Rattle.filter_model.specs.Cut.{Late, is_late, peer_cut, processor_cut}
use Rattle.filter_model.specs.Half.{HalfCall}
use Rattle.filter_model.specs.Right.{Call, IsHistory, Stepped, account}
use Rattle.filter_model.specs.Step.{after, is_live, step}
use Rattle.filter_model.specs.Told.{IsNoCut, IsOfSides, asks_behind, known, news, told}
use Rattle.filter_model.specs.ToldMore.{BringsNoAnswer}
use Rattle.filter_model.specs.View.{Tick, ViewEntry}
use Rattle.filter_model.proofs.EntryFits.{is_short}
use Rattle.filter_model.proofs.NeverOver.{none_cut}
use Rattle.filter_model.proofs.RestStays.{same_fate, timer_is}
use Rattle.filter_model.proofs.ToldEntry.{entry_made, entry_told}
use Rattle.filter_model.proofs.ToldReading.{no_news}
use Rattle.exchange.specs.Answering.{StaysTo, unsettled}
use Rattle.exchange.specs.Settings.{HasSizes}
use Rattle.exchange.specs.Stands.{AtRest}
use Rattle.exchange.specs.declared.exchange.Exchange.{Exchange}
use Rattle.exchange.proofs.Onward.{none_behind}
use Rattle.exchange.proofs.TimingEvents.{noted_so}
use Rattle.exchange.proofs.TimingSteps.{IsFailure, Untold, flow_of, rest_of, untold_of}

pub tick_noted : (c : FilterConfig) (now m : ℕ) (a : ExchangeAccount) (n : ℕ) (ends : List Bool) (x : Exchange) → AtRest c a n ends x → is_live a.fate ≡ true
    → m ≡ max x.clock now → AtRest c (gathered (Tick now) a) n ends (record x { clock = m })
unfolding gathered
tick_noted c now m a n ends x t l q =
    subst (λ k. AtRest c (record a { now = max a.now now }) n ends (record x { clock = m; stream = record x.stream { closed = k } })) (sym t.stream.closed)
    (subst (λ u. AtRest c (record a { now = max a.now now }) n ends (record x { clock = m; stream = record x.stream { unopened = u; closed = a.closed } })) (sym t.stream.unopened)
    (noted_so c (max a.now now) m a.unopened a.closed a n ends x t l (q ∙ ap (λ k. max k now) t.now)))

-- a timer fires

pub tick_fails : (c : FilterConfig) (now : ℕ) (a : ExchangeAccount) → (is_late (gathered (Tick now) a) Request || is_late (gathered (Tick now) a) Response) ≡ true
    → IsFailure c (Tick now) (gathered (Tick now) a) Late 504
unfolding processor_cut peer_cut
tick_fails c now a e = record { side = tt; processor = tt; stays = refl; is = ap (λ b. if b then Some Late else None) e; peer = refl; passes = refl; reply = λ b. refl }

pub later : (a b : Bool) → b ≡ true → (a || b) ≡ true
later true b e = refl
later false b e = e

-- none does

fits_mark : (c : FilterConfig) → HasSizes c → c.course.piece ≤ c.course.mark
fits_mark c z = let p = z.piece in let m = z.mark in omega (arith, p, m)

-- nothing is told, and nothing follows
pub untold_stays : (c : FilterConfig) (h : List Call) (e : ViewEntry) → IsHistory c (Stepped e ∷ h) → IsOfSides e → BringsNoAnswer e → Untold c e (account c h) → IsNoCut c e (account c h) → HasSizes c
    → StaysTo c (gathered e (account c h)) (unsettled c e (account c h))
unfolding after
untold_stays c h e s i b u n z =
    record {
      live = ap is_live u.life.1 ∙ n.live;
      told = λ d. ap (λ (f : Flow). known f.course) (flow_of c e a d) ∙ same d ∙ sym (ap known (u.courses d));
      timer = λ d j.
          ap (λ (f : Flow). f.deadline) (flow_of c e a d) ∙ (timer_is c e a b n d).0
          ∙ ap (λ y. if y then (flow d a).deadline else g.now + c.timeout_ms) (sym (ap (λ (w : Course). not (is_empty (out w))) (u.courses d)) ∙ j)
          ∙ sym (u.timers d).0;
      extended = λ d. ap (λ (f : Flow). f.extended) (flow_of c e a d) ∙ (timer_is c e a b n d).1 ∙ sym (u.timers d).1;
      rest = rest_of c e a n.live;
      made = made ∙ sym u.life.0;
      fate = same_fate c e a n ∙ sym u.life.1;
      ending = sym u.life.2;
    }
  where
    a : ExchangeAccount
    a = account c h

    g : ExchangeAccount
    g = gathered e a

    same : (d : Direction) → known (course d (step c e a)) ≡ known (course d a)
    same d =
        entry_told c h e s i n (fits_mark c z) d (is_short c h e s i d)
        ∙ ap (λ (w : Course). told c.course d (news c.course d (known (course d a)) w.original) (known (course d a))) (u.courses d)
        ∙ ap (λ (calls : List HalfCall). told c.course d calls (known (course d a))) (no_news c.course d (course d a))

    made : (step c e a).made ≡ a.made
    made =
        entry_made c e a i n
        ∙ ap (λ l. (a.made ++ l) ++ asks_behind Response a.response.course (step c e a).response.course) (none_behind Request a.request.course (step c e a).request.course (same Request))
        ∙ ap (λ l. (a.made ++ []) ++ l) (none_behind Response a.response.course (step c e a).response.course (same Response))
        ∙ append-nil (a.made ++ []) ∙ append-nil a.made

pub tick_stays : (c : FilterConfig) (h : List Call) (now : ℕ) → IsHistory c (Stepped (Tick now) ∷ h) → is_live (account c h).fate ≡ true → HasSizes c
    → (is_late (gathered (Tick now) (account c h)) Request || is_late (gathered (Tick now) (account c h)) Response) ≡ false
    → StaysTo c (gathered (Tick now) (account c h)) (unsettled c (Tick now) (account c h))
unfolding processor_cut peer_cut
tick_stays c h now s l z i =
    untold_stays c h (Tick now) s tt tt (untold_of c (Tick now) (account c h) tt) (none_cut c h (Tick now) s.0 l tt (ap (λ b. if b then Some Late else None) i) refl) z
