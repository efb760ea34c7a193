use Rattle.std.proofs.Common.{◌≡◌, ℕ, cond, List, Some, None, ap}
use Rattle.std.specs.Str.{IsUtf8, is_utf8}
use Rattle.std.proofs.lemmas.Bool.{false_from_ne_true}
use Rattle.std.proofs.lemmas.Str.{IsUtf8-from_is_utf8, is_utf8-from_IsUtf8}
use Rattle.ext_msgs.specs.declared.fault.MsgFault.TheVariants.{Utf8}
use Rattle.ext_msgs.specs.MessageFault.{text_fault}

pub valid_text : (place : ℕ) (bytes : List ℕ) → IsUtf8 bytes → text_fault place bytes ≡ None
valid_text place bytes u = ap (λ b. cond b None (Some (Utf8 place))) (is_utf8-from_IsUtf8 bytes u)

pub invalid_text : (place : ℕ) (bytes : List ℕ) → ¬ IsUtf8 bytes → text_fault place bytes ≡ Some (Utf8 place)
invalid_text place bytes u = ap (λ b. cond b None (Some (Utf8 place))) (false_from_ne_true (is_utf8 bytes) (λ e. u (IsUtf8-from_is_utf8 bytes e)))
