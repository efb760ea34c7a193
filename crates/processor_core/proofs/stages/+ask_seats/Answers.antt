use Rattle.std.specs.Prelude.{◌∷◌, None, Some}
use Rattle.std.specs.Result.{result_ok}
use Rattle.processor_core.proofs.Choosing.{answers, breaks, nobody, passes, runs_out, taken}
use Rattle.processor_core.proofs.stages.+ask_seats.Goals as goal

pub returns-in_default : goal.returns-in_default
returns-in_default g t c = nobody g.S.Stage.stands c.args.stream c.args.ask.now c.args.seats.now c.empty_answer.result c.in_default.ensures.cases c.empty_answer.ensures

pub returns-in-Pass : goal.returns-in-Pass
returns-in-Pass g t c =
    taken g.S.Stage.stands c.args.stream c.args.ask.now c.args.seats.now c.in-Some.rest.now (Some c.ask.new.self ∷ c.ask_seats-in-Pass.new.seats) c.in-Some.first.now c.in-Some-first.stage (result_ok c.ask_seats-in-Pass.result) c.in-Some.ensures.cases.0 c.in-Some-first.is
    (passes g.S.Stage.stands c.args.stream c.args.ask.now c.in-Some-first.stage c.ask.new.self c.in-Some.rest.now c.ask_seats-in-Pass.new.seats (result_ok c.ask_seats-in-Pass.result) c.in-Pass.ensures c.ask_seats-in-Pass.ensures)

pub returns-in-Answer : goal.returns-in-Answer
returns-in-Answer g t c =
    taken g.S.Stage.stands c.args.stream c.args.ask.now c.args.seats.now c.in-Some.rest.now (Some c.ask.new.self ∷ c.in-Some.rest.now) c.in-Some.first.now c.in-Some-first.stage (Some c.in-Answer.answer) c.in-Some.ensures.cases.0 c.in-Some-first.is
    (answers g.S.Stage.stands c.args.stream c.args.ask.now c.in-Some-first.stage c.ask.new.self c.in-Some.rest.now c.in-Answer.answer c.in-Answer.ensures)

pub returns-in-Broken : goal.returns-in-Broken
returns-in-Broken g t c =
    taken g.S.Stage.stands c.args.stream c.args.ask.now c.args.seats.now c.in-Some.rest.now (None ∷ c.ask_seats-in-Broken.new.seats) c.in-Some.first.now c.in-Some-first.stage (result_ok c.ask_seats-in-Broken.result) c.in-Some.ensures.cases.0 c.in-Some-first.is
    (breaks g.S.Stage.stands c.args.stream c.args.ask.now c.in-Some-first.stage c.ask.new.self c.in-Some.rest.now c.ask_seats-in-Broken.new.seats (result_ok c.ask_seats-in-Broken.result) c.in-Broken.ensures c.ask_seats-in-Broken.ensures)

pub returns-in-Memory : goal.returns-in-Memory
returns-in-Memory g t c =
    taken g.S.Stage.stands c.args.stream c.args.ask.now c.args.seats.now c.in-Some.rest.now (Some c.ask.new.self ∷ c.in-Some.rest.now) c.in-Some.first.now c.in-Some-first.stage (None) c.in-Some.ensures.cases.0 c.in-Some-first.is
    (runs_out g.S.Stage.stands c.args.stream c.args.ask.now c.in-Some-first.stage c.ask.new.self c.in-Some.rest.now c.in-Memory.ensures)
