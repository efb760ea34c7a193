-- A line that isn't the opening of an exchange is met by all exchanges.
use Rattle.std.proofs.Common.{refl}
use Rattle.std.specs.Prelude.{ℕ, ◌≡◌, List, []}
use Rattle.trace_format.specs.declared.line.TraceLine.{TraceLine}
use Rattle.trace_format.specs.declared.line.TraceLine.TheVariants as line
use Rattle.trace_format.specs.declared.out.OutLine.{OutLine}
use Rattle.trace_model.specs.Links.{ExchangeState, filter_of}
use Rattle.trace_model.specs.Places.{AllGo, MeetsEvent, TraceState, ticked}
use Rattle.trace_player.specs.Ties.{HasMet, HasMetAll, HasOpened}
use Rattle.trace_player.specs.declared.player.Player.{Player}

abbrev pub met_by : TraceState → TraceLine → List ExchangeState → TraceState
met_by s l es = record s { clock = ticked l s.clock; exchanges = es }

pub meets : (s : TraceState) (l : TraceLine) (es : List ExchangeState) (lines : List OutLine) → (l ≡ line.Open → ⊥) → AllGo (filter_of s.config) l 1 s.exchanges es lines
    → MeetsEvent s l (met_by s l es) lines
meets s line.Open es lines n a = absurd (n refl)
meets s (line.Client n bytes) es lines k a = (es, a, refl)
meets s (line.Up n bytes) es lines k a = (es, a, refl)
meets s (line.ClientEnd n) es lines k a = (es, a, refl)
meets s (line.UpEnd n) es lines k a = (es, a, refl)
meets s (line.ClientLost n) es lines k a = (es, a, refl)
meets s (line.UpLost n) es lines k a = (es, a, refl)
meets s (line.UpNoDial n) es lines k a = (es, a, refl)
meets s (line.Answer n bytes) es lines k a = (es, a, refl)
meets s (line.Close n clean) es lines k a = (es, a, refl)
meets s (line.Tick now) es lines k a = (es, a, refl)
meets s (line.HoldClient n) es lines k a = (es, a, refl)
meets s (line.HoldUp n) es lines k a = (es, a, refl)
meets s (line.FreeClient n) es lines k a = (es, a, refl)
meets s (line.FreeUp n) es lines k a = (es, a, refl)
meets s (line.First v) es lines k a = (es, a, refl)
meets s (line.Config text) es lines k a = (es, a, refl)
meets s (line.Ext bytes) es lines k a = (es, a, refl)
meets s line.ExtEnd es lines k a = (es, a, refl)
meets s line.ExtLost es lines k a = (es, a, refl)
meets s line.HoldExt es lines k a = (es, a, refl)
meets s line.FreeExt es lines k a = (es, a, refl)
meets s line.Stop es lines k a = (es, a, refl)

pub met_opening : (s : TraceState) (p : Player) (text : List ℕ) → HasOpened s p [] text → HasMet s line.Open p text
met_opening s p text h = record { next = h.next; lines = h.lines; meets = h.opens; player = h.player; tells = h.text }

pub met_others : (s : TraceState) (l : TraceLine) (p : Player) (text : List ℕ) → (l ≡ line.Open → ⊥) → HasMetAll s l p [] text → HasMet s l p text
met_others s l p text n h = record { next = met_by s l h.exchanges; lines = h.lines; meets = meets s l h.exchanges h.lines n h.all; player = h.player; tells = h.text }
