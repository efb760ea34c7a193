-- A half that was told nothing.
use Rattle.std.proofs.Common.{refl, sym, ◌∙◌, subst, arith}
use Rattle.std.specs.Prelude.{ℕ, ◌≡◌, Bool, true, false, [], is_some, if◌then◌else◌, ◌+◌, ◌*◌, ◌≤◌}
use Rattle.ext_msgs.specs.declared.modes.PartModes.{PartModes}
use Rattle.http_model.specs.declared.types.Direction.{Direction}
use Rattle.http_model.specs.declared.types.Direction.TheVariants.{Request, Response}
use Rattle.body_hold.specs.Held.{Held}
use Rattle.filter_model.specs.Config.{CourseConfig}
use Rattle.filter_model.specs.Course.{replacement, unasked, is_passing}
use Rattle.filter_model.specs.Account.{fresh_course}
use Rattle.filter_model.specs.Sound.{Sound}
use Rattle.half_machine.specs.Room.{OfRoom, most_back}
use Rattle.half_machine.specs.Stands.{OfHold, flow}

pub fresh_sound : (c : CourseConfig) (modes : PartModes) → Sound c (fresh_course modes)
fresh_sound c modes = record {
  counts = omega arith;
  head_read = λ e. (refl, refl);
  bodiless = λ e. refl;
  once_headers = refl;
  once_trailers = refl;
  headers = λ e. refl;
  trailers = λ e. absurd cc;
  in_turn = λ e. refl;
  covered = λ b e. absurd cc;
  no_headers = λ h e r. refl;
  first_made = λ h e r. absurd cc;
}

pub fresh_kept : (d : Direction) (modes : PartModes) → is_some (replacement d (fresh_course modes)) ≡ false
fresh_kept Request modes = refl
fresh_kept Response modes = refl

pub fresh_unasked : (d : Direction) (modes : PartModes) → unasked d (fresh_course modes) ≡ 0
fresh_unasked Request modes = refl
fresh_unasked Response modes = refl

neither : {A : Type 0} (b : Bool) (x : A) → (if b then x else x) ≡ x
neither true x = refl
neither false x = refl

fresh_flow : (c : CourseConfig) (d : Direction) (modes : PartModes) → flow c d (fresh_course modes) ≡ []
fresh_flow c Request modes = neither (is_passing (fresh_course modes)) []
fresh_flow c Response modes = neither (is_passing (fresh_course modes)) []

fresh_empty : (c : CourseConfig) (d : Direction) (modes : PartModes) (limit answer : ℕ)
    → OfHold (record { limit = limit; answer = answer; hand = []; lent = []; out = [] }) c d (fresh_course modes) 0
fresh_empty c d modes limit answer = record {
  lent = refl;
  hand = sym (neither (is_some (replacement d (fresh_course modes))) []);
  out = neither (is_passing (fresh_course modes)) [] ∙ sym (fresh_flow c d modes);
  pieces_first = λ e. omega arith;
  within = λ e. omega arith;
  there = omega arith;
  idle = λ a e. refl;
  hand_fits = omega arith;
  lent_fits = λ e. tt;
}

pub fresh_hold : (c : CourseConfig) (d : Direction) (modes : PartModes) (h : Held) (limit answer : ℕ)
    → h ≡ record { limit = limit; answer = answer; hand = []; lent = []; out = [] } → OfHold h c d (fresh_course modes) 0
fresh_hold c d modes h limit answer e = subst (λ x. OfHold x c d (fresh_course modes) 0) (sym e) (fresh_empty c d modes limit answer)

fresh_roomy : (c : CourseConfig) (headers : Bool) (limit answer : ℕ) → OfRoom (record { limit = limit; answer = answer; hand = []; lent = []; out = [] }) c headers [] [] false
fresh_roomy c headers limit answer = record {
  first = λ h e. absurd cc;
  pieces = refl;
  lent = omega arith;
  goes = λ r. omega arith;
}

pub fresh_room : (c : CourseConfig) (headers : Bool) (h : Held) (limit answer : ℕ)
    → h ≡ record { limit = limit; answer = answer; hand = []; lent = []; out = [] } → OfRoom h c headers [] [] false
fresh_room c headers h limit answer e = subst (λ x. OfRoom x c headers [] [] false) (sym e) (fresh_roomy c headers limit answer)

pub fresh_pieces_room : (c : CourseConfig) (h : Held) (limit answer : ℕ) → h ≡ record { limit = limit; answer = answer; hand = []; lent = []; out = [] }
    → false ≡ false → 0 + most_back c.answer_limit h.lent ≤ c.buffer_limit + c.answer_limit * 4 + 131_072
fresh_pieces_room c h limit answer e r = subst (λ (x : Held). 0 + most_back c.answer_limit x.lent ≤ c.buffer_limit + c.answer_limit * 4 + 131_072) (sym e) (omega arith)
