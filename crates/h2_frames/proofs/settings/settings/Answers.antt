use Rattle.std.proofs.Common.{arith, ◌≡◌, ◌++◌, ◌∷◌, ◌/◌, [], List, ℕ, length, drop, sym, ap, ◌∙◌, append_assoc}
use Rattle.h2_frames.specs.declared.frame.Setting.{Setting}
use Rattle.h2_frames.specs.Numbers.{u16_at}
use Rattle.h2_frames.specs.Payloads.{setting_of, settings_of}
use Rattle.h2_frames.proofs.SettingLists.{one_more}
use Rattle.h2_frames.proofs.settings.settings.Goals as goal

pub settings-preserved : goal.settings-preserved
settings-preserved c =
    let left : List Setting = settings_of (length c.split_at.result.1.now / 6) c.split_at.result.1.now in
    let pushed : c.push.new.self ≡ c.settings.list ++ setting_of c.settings.rest.now ∷ [] =
    c.in_ok-push.ensures.pushed ∙ ap (λ (s : Setting). c.settings.list ++ s ∷ []) (ap (λ (n : ℕ). record { identifier = n; value = c.u32_at.result }) c.u16_at.ensures ∙ ap (λ (n : ℕ). record { identifier = u16_at c.settings.rest.now 0; value = n }) c.u32_at.ensures) in
    let rest_is : settings_of (length (drop 6 c.settings.rest.now) / 6) (drop 6 c.settings.rest.now) ≡ left =
    ap (λ (b : List ℕ). settings_of (length b / 6) b) (sym c.split_at.ensures.back) in
    c.settings.invariant
    ∙ ap (λ (l : List Setting). c.settings.list ++ l) (one_more c.settings.rest.now (omega arith) ∙ ap (λ (l : List Setting). setting_of c.settings.rest.now ∷ l) rest_is)
    ∙ sym (append_assoc c.settings.list (setting_of c.settings.rest.now ∷ []) left)
    ∙ ap (λ (l : List Setting). l ++ left) (sym pushed)
