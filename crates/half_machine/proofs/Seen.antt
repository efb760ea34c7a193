-- What a half computes from its fields is what the definitions compute from its past.
use Rattle.std.proofs.Common.{sym, ◌∙◌, ap}
use Rattle.std.specs.Prelude.{ℕ, ◌≡◌, ◌+◌, ◌-◌, min, Bool, not, ◌&&◌, ◌||◌, is_some, if◌then◌else◌}
use Rattle.ext_msgs.specs.declared.modes.PartModes.{PartModes}
use Rattle.ext_msgs.specs.declared.modes.BodyMode.TheVariants.{NoAsk}
use Rattle.http_model.specs.declared.types.Direction.{Direction}
use Rattle.filter_model.specs.Course.{Course, mode, is_settled, is_buffered, is_partial, body_room, is_body, is_headers, answer_to, replaces}
use Rattle.std.specs.List.{list_any}
use Rattle.filter_model.specs.Half.{Past, progress, course}
use Rattle.half_machine.specs.Facts.{mode_in, settled_in, collects_in}
use Rattle.half_machine.specs.Stands.{OfOriginal, OfAnswers, OfAsks, Ties, StandsFor}
use Rattle.half_machine.specs.declared.facts.Arrived.{Arrived}
use Rattle.half_machine.specs.declared.facts.Ruled.{Ruled}
use Rattle.half_machine.specs.declared.facts.Asked.{Asked}
use Rattle.half_machine.specs.declared.half.Half.{Half}

pub mode_is : (r : Ruled) (d : Direction) (w : Course) → OfAnswers r d w → mode_in r ≡ mode w
mode_is r d w s =
    ap (λ b. if b || r.passes then NoAsk else r.modes.body) s.released
    ∙ ap (λ b. if w.released || b then NoAsk else r.modes.body) s.passes
    ∙ ap (λ (m : PartModes). if w.released || replaces (answer_to is_headers w) then NoAsk else m.body) s.modes

pub settled_is : (a : Arrived) (r : Ruled) (d : Direction) (w : Course) → OfOriginal a w.original → OfAnswers r d w → settled_in a r ≡ is_settled w
settled_is a r d w o s =
    ap (λ b. b && (r.released || not r.modes.headers || r.headers_answered)) o.head
    ∙ ap (λ b. is_some w.original.head && (b || not r.modes.headers || r.headers_answered)) s.released
    ∙ ap (λ (m : PartModes). is_some w.original.head && (w.released || not m.headers || r.headers_answered)) s.modes
    ∙ ap (λ b. is_some w.original.head && (w.released || not w.modes.headers || b)) s.headers

abbrev pub collects : Course → Bool
collects w = is_settled w && (is_buffered (mode w) || (is_partial (mode w) && not (list_any is_body w.asks)))

pub collects_is : (a : Arrived) (r : Ruled) (k : Asked) (d : Direction) (w : Course) (handed : ℕ) → OfOriginal a w.original → OfAnswers r d w → OfAsks k w handed
    → collects_in a r k ≡ collects w
collects_is a r k d w handed o s t =
    ap (λ b. b && (is_buffered (mode_in r) || (is_partial (mode_in r) && not k.body))) (settled_is a r d w o s)
    ∙ ap (λ m. is_settled w && (is_buffered m || (is_partial m && not k.body))) (mode_is r d w s)
    ∙ ap (λ b. is_settled w && (is_buffered (mode w) || (is_partial (mode w) && not b))) t.body

abbrev pub room_in : Half → ℕ
room_in x = min 16_384 ((if collects_in x.arrived x.rule x.asked then x.limit + 1 else 65_536) - x.counts.unasked)

pub room_is : (p : Past) (x : Half) → StandsFor p x → room_in x ≡ body_room p.config p.direction (course p)
unfolding body_room
room_is p x s =
    let w : Course = course p in
    let t : Ties p.config p.direction (progress p) x = s.ties in
    ap (λ b. min 16_384 ((if b then x.limit + 1 else 65_536) - x.counts.unasked)) (collects_is x.arrived x.rule x.asked p.direction w (progress p).handed t.arrived t.rule t.asked)
    ∙ ap (λ n. min 16_384 ((if collects w then n + 1 else 65_536) - x.counts.unasked)) (sym s.made.limit)
    ∙ ap (λ n. min 16_384 ((if collects w then p.config.buffer_limit + 1 else n) - x.counts.unasked)) (sym s.made.mark)
    ∙ ap (λ n. min n ((if collects w then p.config.buffer_limit + 1 else p.config.mark) - x.counts.unasked)) (sym s.made.piece)
    ∙ ap (λ n. min p.config.piece ((if collects w then p.config.buffer_limit + 1 else p.config.mark) - n)) t.counts.unasked
