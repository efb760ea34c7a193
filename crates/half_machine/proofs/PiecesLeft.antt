-- The pieces that wait to go out, as long as nothing is answered.
use Rattle.std.proofs.Common.{inl, refl, ap, arith}
use Rattle.std.specs.Prelude.{ℕ, ◌≡◌, false, List, [], is_some}
use Rattle.ext_msgs.specs.declared.modes.PartModes.{PartModes}
use Rattle.http_model.specs.declared.types.Direction.{Direction}
use Rattle.http_model.specs.declared.types.Direction.TheVariants.{Request, Response}
use Rattle.filter_model.specs.Course.{Course, answered_pieces, replacement}
use Rattle.filter_model.specs.Account.{fresh_course}
use Rattle.half_machine.specs.Pieces.{OfPieces, pieces_by, pieces_of}
use Rattle.half_machine.proofs.AtHand.{none_of}

pub pieces_kept : (d : Direction) (w : Course) → is_some (replacement d w) ≡ false → pieces_of d w ≡ answered_pieces w
pieces_kept d w e = ap (λ r. pieces_by r (answered_pieces w)) (none_of (replacement d w) e)

pub fresh_pieces : (d : Direction) (modes : PartModes) (x : List ℕ) → x ≡ [] → OfPieces x (pieces_of d (fresh_course modes)) 0
fresh_pieces d modes x e = record { gone = []; left = []; whole = none d; lengths = e; least = omega arith; ends = inl e }
  where
    none : (d : Direction) → pieces_of d (fresh_course modes) ≡ []
    none Request = refl
    none Response = refl
