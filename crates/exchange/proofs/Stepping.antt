-- When an event may come.
use Rattle.std.specs.Prelude.{ℕ, ◌<◌, ◌≤◌, List, [], ◌∷◌, length, filter_map}
use Rattle.filter_model.specs.Config.{FilterConfig}
use Rattle.filter_model.specs.Right.{Call, Stepped, Took, Nexted, Failed, MayCome, account, ask_given}
use Rattle.filter_model.specs.declared.calls.Event.TheVariants as event

pub answer_may : (c : FilterConfig) (h : List Call) (bytes : List ℕ) → MayCome c h (event.Answer bytes) → length bytes ≤ c.course.answer_limit
answer_may c [] bytes m = m
answer_may c (Failed ∷ h) bytes m = absurd m
answer_may c (Stepped e ∷ h) bytes m = m
answer_may c (Took s t ∷ h) bytes m = m
answer_may c (Nexted n ∷ h) bytes m = m

pub sent_may : (c : FilterConfig) (h : List Call) → MayCome c h event.Sent → (account c h).sent < length (filter_map ask_given h)
sent_may c [] m = m
sent_may c (Failed ∷ h) m = absurd m
sent_may c (Stepped e ∷ h) m = m
sent_may c (Took s t ∷ h) m = m
sent_may c (Nexted n ∷ h) m = m
