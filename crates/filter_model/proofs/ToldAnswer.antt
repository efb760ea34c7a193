-- An answer with a mode override: its half is told the modes first, while the headers ask is out, and then the answer.
use Rattle.std.proofs.Common.{sym, ◌∙◌, ap, refl}
use Rattle.std.specs.Prelude.{◌≡◌, Bool, true, false, not, ◌&&◌, ◌||◌, List, [], ◌∷◌, ◌++◌, Option, Some, None, if◌then◌else◌, is_some, option_map}
use Rattle.std.specs.List.{list_any}
use Rattle.ext_msgs.specs.declared.answer.Common.{Common}
use Rattle.ext_msgs.specs.declared.lists.Field.{Field}
use Rattle.ext_msgs.specs.declared.modes.PartModes.{PartModes}
use Rattle.http_model.specs.Bytes.{is_empty}
use Rattle.http_model.specs.Heads.{is_bodiless}
use Rattle.http_model.specs.declared.types.Direction.{Direction}
use Rattle.filter_model.specs.Config.{CourseConfig}
use Rattle.filter_model.specs.Course.{Course, AskedPart, asked, committed, head_may_go, is_buffered, is_headers, is_stopped, mode, next, next_at, next_body, next_trailers, answer_to, is_body, out}
use Rattle.filter_model.specs.Half.{Answer, Settle, called, settled_modes}
use Rattle.filter_model.specs.Sound.{Sound}
use Rattle.filter_model.specs.Told.{told}
use Rattle.filter_model.proofs.AtRest.{none_due}
use Rattle.filter_model.proofs.CourseGrows.{any_of_drop, once_out}
use Rattle.filter_model.proofs.ToldSame.{rests}

clash : true ≡ false → ⊥
clash e = cc

-- While the headers ask is out nothing is due, and the head waits

behind_out : (head : Option (List Field)) (bodiless released first out stopped : Bool) (body trailers : Option AskedPart) → first ≡ false → out ≡ true → next_at head bodiless released first out stopped body trailers ≡ None
behind_out None bodiless r f o s b t e g = refl
behind_out (Some h) bodiless true f o s b t e g = refl
behind_out (Some h) bodiless false f o true b t e g = refl
behind_out (Some h) bodiless false true o false b t e g = absurd cc
behind_out (Some h) bodiless false false true false b t e g = refl
behind_out (Some h) bodiless false false false false b t e g = absurd cc

not_first : (w : Course) → list_any is_headers (out w) ≡ true → (b : Bool) → (b && is_empty w.asks) ≡ false
not_first w e b = by b w.asks (any_of_drop is_headers w.asks w.answers e)
  where
    by : (b : Bool) (asks : List AskedPart) → list_any is_headers asks ≡ true → (b && is_empty asks) ≡ false
    by b [] e = absurd cc
    by true (p ∷ asks) e = refl
    by false (p ∷ asks) e = refl

nothing_next : (c : CourseConfig) (w : Course) → list_any is_headers (out w) ≡ true → next c w ≡ None
unfolding next
nothing_next c w e = behind_out w.original.head (is_bodiless w.original.length) w.released (w.modes.headers && is_empty w.asks) (list_any is_headers (out w)) (is_stopped w) (next_body c w) (next_trailers w) (not_first w e w.modes.headers) e

head_waits : (w : Course) → w.modes.headers ≡ true → w.released ≡ false → answer_to is_headers w ≡ None → head_may_go w ≡ false
head_waits w h r a = by (is_some w.original.head) w.modes.headers w.released (answer_to is_headers w) (not (is_buffered (mode w)) || is_bodiless w.original.length || is_some (answer_to is_body w)) h r a
  where
    by : (head m r : Bool) (a : Option Common) (rest : Bool) → m ≡ true → r ≡ false → a ≡ None → (r || ((head && (r || not m || is_some a)) && rest)) ≡ false
    by head false r a rest h e f = absurd cc
    by head true true a rest h e f = absurd cc
    by head true false (Some x) rest h e f = absurd cc
    by true true false None rest h e f = refl
    by false true false None rest h e f = refl

same_headers : (o : Option (List Field)) (old new : PartModes) → is_some o ≡ true → (settled_modes o old new).headers ≡ old.headers
same_headers None old new e = absurd cc
same_headers (Some h) old new e = refl

-- other modes change nothing by themselves
pub settle_waits : (c : CourseConfig) (d : Direction) (w : Course) (modes : PartModes) → Sound c w → w.released ≡ false → is_some w.original.head ≡ true → list_any is_headers (out w) ≡ true
    → asked c d (committed c d (called (Settle modes) w)) ≡ called (Settle modes) w
settle_waits c d w modes s r h e =
    let x : Course = called (Settle modes) w in
    rests c d x (λ n g. absurd (clash (sym g ∙ head_waits x (same_headers w.original.head w.modes modes h ∙ on w.modes.headers refl) r answered))) (none_due c d x (nothing_next c x e))
  where
    answered : answer_to is_headers w ≡ None
    answered = ap (option_map (λ (q : AskedPart × Common). q.1)) (once_out is_headers w.asks w.answers s.once_headers e)

    on : (b : Bool) → w.modes.headers ≡ b → w.modes.headers ≡ true
    on true f = f
    on false f = absurd (clash (sym (any_of_drop is_headers w.asks w.answers e) ∙ s.headers f))

-- before the head too
pub settle_early : (c : CourseConfig) (d : Direction) (w : Course) (modes : PartModes) → w.original.head ≡ None → asked c d (committed c d (called (Settle modes) w)) ≡ called (Settle modes) w
unfolding next
settle_early c d w modes n =
    let x : Course = called (Settle modes) w in
    rests c d x (λ k g. n) (none_due c d x
    (ap (λ o. next_at o (is_bodiless x.original.length) x.released (x.modes.headers && is_empty x.asks) (list_any is_headers (out x)) (is_stopped x) (next_body c x) (next_trailers x)) n))

-- so modes and answer come to what both make at once
pub answer_at_once : (c : CourseConfig) (d : Direction) (w : Course) (modes : PartModes) (a : Common) → Sound c w → w.released ≡ false → is_some w.original.head ≡ true → list_any is_headers (out w) ≡ true
    → told c d (Settle modes ∷ Answer a ∷ []) w ≡ asked c d (committed c d (record w { modes = settled_modes w.original.head w.modes modes; answers = w.answers ++ a ∷ [] }))
answer_at_once c d w modes a s r h e =
    ap (λ x. asked c d (committed c d (called (Answer a) x))) (settle_waits c d w modes s r h e)
    ∙ ap (λ b. asked c d (committed c d (record w { modes = settled_modes w.original.head w.modes modes; answers = if b then w.answers else w.answers ++ a ∷ [] }))) r
