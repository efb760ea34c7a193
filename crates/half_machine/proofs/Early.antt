-- What holds before anything was asked.
use Rattle.std.proofs.Common.{refl, sym, ◌∙◌, ap}
use Rattle.std.specs.Prelude.{◌≡◌, Bool, true, false, List, None, [], zip, find, Option, is_some, option_map, if◌then◌else◌}
use Rattle.ext_msgs.specs.declared.lists.Field.{Field}
use Rattle.ext_msgs.specs.declared.answer.Common.{Common}
use Rattle.http_model.specs.declared.types.Direction.{Direction}
use Rattle.filter_model.specs.Config.{CourseConfig}
use Rattle.filter_model.specs.Course.{Course, AskedPart, changed_head, head_kind, under, is_buffered, is_body, is_headers, answer_to, replacement_at}

pub unanswered : (kind : AskedPart → Bool) (w : Course) → w.asks ≡ [] → answer_to kind w ≡ None
unanswered kind w e = ap (λ (l : List AskedPart). option_map (λ (q : AskedPart × Common). q.1) (find (λ (q : AskedPart × Common). kind q.0) (zip l w.answers))) e

pub unreplaced_at : (bare : Bool) (o : Option Common) → o ≡ None → is_some (replacement_at bare o) ≡ false
unreplaced_at true o e = refl
unreplaced_at false o e = ap (λ z. is_some (replacement_at false z)) e

pub same_head : (c : CourseConfig) (d : Direction) (w : Course) (f : List Field) → answer_to is_headers w ≡ None → answer_to is_body w ≡ None → f ≡ changed_head c d w f
same_head c d w f e g =
    sym (ap (λ (o : Option Common). if is_buffered w.modes.body then under c (head_kind d) (under c (head_kind d) f o) (answer_to is_body w) else under c (head_kind d) f o) e
    ∙ ap (λ (o : Option Common). if is_buffered w.modes.body then under c (head_kind d) f o else f) g ∙ by (is_buffered w.modes.body))
  where
    by : (b : Bool) → (if b then f else f) ≡ f
    by true = refl
    by false = refl
