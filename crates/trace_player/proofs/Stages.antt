-- What a line comes to at each place.
use Rattle.std.proofs.Common.{refl, sym, ◌∙◌, ap, subst}
use Rattle.std.specs.Prelude.{ℕ, ◌≡◌, true, false, List, Some, None}
use Rattle.trace_format.specs.Lines.{line_of}
use Rattle.trace_format.specs.declared.line.TraceLine.{TraceLine}
use Rattle.trace_format.specs.declared.line.TraceLine.TheVariants as line
use Rattle.trace_format.specs.declared.out.OutLine.{OutLine}
use Rattle.trace_model.specs.Places.{Ended, Events, First, Leads, MeetsEvent, Place, Second, TraceState}
use Rattle.trace_model.specs.Verdicts.{LeadsAs, judged, is_in_place, reaches, shape_of, verdict, verdict_if, verdict_of}
use Rattle.trace_player.specs.Ties.{ComesTo, HasMet, MeetsAs, StageIs, verdict_in}
use Rattle.trace_player.specs.declared.player.Player.{Player}
use Rattle.trace_player.specs.declared.stage.Met.{Met}
use Rattle.trace_player.specs.declared.stage.Met.TheVariants as met
use Rattle.trace_player.specs.declared.stage.Stage.TheVariants as stage

-- An event line

pub out_of_place : (s : TraceState) (l : TraceLine) → is_in_place (reaches s) l ≡ false → ComesTo (Events s) l met.Faulty
unfolding verdict
out_of_place s l e = record { verdict = sym (ap verdict_if e); leads = tt }

leads_on : (s t : TraceState) (l : TraceLine) (lines : List OutLine) → (l ≡ line.Stop → ⊥) → MeetsEvent s l t lines → Leads (Events s) l lines (Events t)
leads_on s t line.Stop lines k m = absurd (k refl)
leads_on s t line.Open lines k m = (t, m, refl)
leads_on s t (line.Client n bytes) lines k m = (t, m, refl)
leads_on s t (line.Up n bytes) lines k m = (t, m, refl)
leads_on s t (line.ClientEnd n) lines k m = (t, m, refl)
leads_on s t (line.UpEnd n) lines k m = (t, m, refl)
leads_on s t (line.ClientLost n) lines k m = (t, m, refl)
leads_on s t (line.UpLost n) lines k m = (t, m, refl)
leads_on s t (line.UpNoDial n) lines k m = (t, m, refl)
leads_on s t (line.Answer n bytes) lines k m = (t, m, refl)
leads_on s t (line.Close n clean) lines k m = (t, m, refl)
leads_on s t (line.Tick now) lines k m = (t, m, refl)
leads_on s t (line.HoldClient n) lines k m = (t, m, refl)
leads_on s t (line.HoldUp n) lines k m = (t, m, refl)
leads_on s t (line.FreeClient n) lines k m = (t, m, refl)
leads_on s t (line.FreeUp n) lines k m = (t, m, refl)
leads_on s t (line.First v) lines k m = (t, m, refl)
leads_on s t (line.Config text) lines k m = (t, m, refl)
leads_on s t (line.Ext bytes) lines k m = (t, m, refl)
leads_on s t line.ExtEnd lines k m = (t, m, refl)
leads_on s t line.ExtLost lines k m = (t, m, refl)
leads_on s t line.HoldExt lines k m = (t, m, refl)
leads_on s t line.FreeExt lines k m = (t, m, refl)

pub goes_on : (s : TraceState) (l : TraceLine) (p : Player) (text : List ℕ) → (l ≡ line.Stop → ⊥) → is_in_place (reaches s) l ≡ true → HasMet s l p text
    → ComesTo (Events s) l (met.Goes text (stage.Events p))
unfolding verdict
goes_on s l p text k e h = record {
  verdict = sym (ap verdict_if e);
  leads = record { place = Events h.next; lines = h.lines; leads = leads_on s h.next l h.lines k h.meets; tells = h.tells; stage = h.player };
}

-- Behind the last line

pub at_end : (p : Place) (l : TraceLine) → StageIs p stage.Ended → ComesTo p l met.Faulty
unfolding verdict
at_end First l t = absurd t
at_end Second l t = absurd t
at_end (Events s) l t = absurd t
at_end Ended l t = record { verdict = refl; leads = tt }

-- The text of a line

pub no_line : (p : Place) (text : List ℕ) → line_of text ≡ None → MeetsAs p text met.Faulty
unfolding judged
no_line p text e = ap (verdict_of (shape_of p)) e

judged_by : (p : Place) (text : List ℕ) (l : TraceLine) (m : Met) → line_of text ≡ Some l → ComesTo p l m → judged (shape_of p) text ≡ verdict_in m
unfolding judged
judged_by p text l m e c = ap (verdict_of (shape_of p)) e ∙ sym c.verdict

pub with_line : (p : Place) (text : List ℕ) (l : TraceLine) (m : Met) → line_of text ≡ Some l → ComesTo p l m → MeetsAs p text m
with_line p text l (met.Goes out next) e c = record {
  place = c.leads.place;
  lines = c.leads.lines;
  leads = record {
    stands = judged_by p text l (met.Goes out next) e c;
    leads = subst (λ o. LeadsAs o p c.leads.lines c.leads.place) (sym e) c.leads.leads;
  };
  tells = c.leads.tells;
  stage = c.leads.stage;
}
with_line p text l met.Faulty e c = judged_by p text l met.Faulty e c
with_line p text l (met.Refused fault) e c = judged_by p text l (met.Refused fault) e c
with_line p text l met.Unbuilt e c = judged_by p text l met.Unbuilt e c
