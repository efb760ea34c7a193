-- An event may come where the last call didn't run out of memory.
use Rattle.std.specs.Prelude.{ℕ, ◌≤◌, List, [], ◌∷◌, length}
use Rattle.filter_model.specs.Config.{FilterConfig}
use Rattle.filter_model.specs.Right.{Call, Stepped, Took, Nexted, Failed, IsReady, MayCome}
use Rattle.filter_model.specs.declared.calls.Event.TheVariants as event
use Rattle.filter_model.specs.declared.calls.Side.{Side}

pub may_answer : (c : FilterConfig) (h : List Call) (bytes : List ℕ) → IsReady h → length bytes ≤ c.course.answer_limit → MayCome c h (event.Answer bytes)
may_answer c [] bytes r l = l
may_answer c (Failed ∷ h) bytes r l = absurd r
may_answer c (Stepped e ∷ h) bytes r l = l
may_answer c (Took s t ∷ h) bytes r l = l
may_answer c (Nexted n ∷ h) bytes r l = l

pub may_bytes : (c : FilterConfig) (h : List Call) (s : Side) (bytes : List ℕ) → IsReady h → MayCome c h (event.Bytes s bytes)
may_bytes c [] s bytes r = tt
may_bytes c (Failed ∷ h) s bytes r = absurd r
may_bytes c (Stepped e ∷ h) s bytes r = tt
may_bytes c (Took p t ∷ h) s bytes r = tt
may_bytes c (Nexted n ∷ h) s bytes r = tt

pub may_end : (c : FilterConfig) (h : List Call) (s : Side) → IsReady h → MayCome c h (event.End s)
may_end c [] s r = tt
may_end c (Failed ∷ h) s r = absurd r
may_end c (Stepped e ∷ h) s r = tt
may_end c (Took p t ∷ h) s r = tt
may_end c (Nexted n ∷ h) s r = tt
