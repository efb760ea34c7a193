-- Each step of the past in `Parts` came as it may.
use Rattle.std.proofs.Common.{inr, refl, arith}
use Rattle.std.specs.Fmt.{digits}
use Rattle.header_mutation.specs.Mutated.{mutation_rules}
use Rattle.filter_model.specs.Course.{course_rules}
use Rattle.filter_model.specs.Cut.{OfBody, OfTrailers}
use Rattle.filter_model.specs.Half.{half_rules}
use Rattle.filter_model.specs.HalfRight.{IsPast}
use Rattle.filter_examples.specs.Parts.{streaming}

each_step_may_come : IsPast streaming
unfolding digits course_rules half_rules mutation_rules
each_step_may_come = (
  (
    (
      (
        (
          (
            (
              (
                (
                  (
                    (
                      (
                        (tt, refl),
                        (refl, refl),
                      ),
                      record { read = refl; has_body = refl; unfinished = refl },
                    ),
                    omega arith,
                  ),
                  omega arith,
                ),
                inr (OfBody, refl),
              ),
              inr (OfBody, refl),
            ),
            (refl, refl),
          ),
          record { read = refl; has_body = refl; unfinished = refl },
        ),
        inr (OfTrailers, refl),
      ),
      (record { head = refl; body = refl }, refl),
    ),
    (record { head = refl; body = refl }, refl, refl, refl),
  ),
  record { head = λ e. absurd cc; body = λ e. refl; trailers = λ e. refl; ended = λ e f. absurd cc },
)
