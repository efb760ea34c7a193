use Rattle.std.proofs.Common.{refl, []}
use Rattle.filter_model.specs.Config.{CourseConfig}
use Rattle.half_machine.specs.Stands.{direction_of}
use Rattle.half_driver.proofs.Driven.{fresh}
use Rattle.half_driver.proofs.driver.Driver.new.Goals as goal

pub invariant_of-result : goal.invariant_of-result
invariant_of-result c =
    let setup = c.args.setup in
    let config : CourseConfig = record { rules = setup.rules; buffer_limit = setup.buffer_limit; answer_limit = setup.answer_limit; piece = 16_384; mark = 65_536 } in (
      record { config = config; direction = direction_of setup.response; modes = setup.modes; steps = [] },
      c.in_ok-half.ensures config (record { piece = refl; mark = refl; limit = refl; answer = refl; rules = refl }),
      fresh config (direction_of setup.response) setup.modes,
      refl,
    )
