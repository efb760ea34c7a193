-- The first SETTINGS wait.
use Rattle.std.proofs.Common.{◌++◌, ◌∷◌, [], List, false, cond, ap, ◌∙◌}
use Rattle.h2_frames.specs.declared.frame.Frame.{Frame}
use Rattle.h2_model.specs.History.{start, preface}
use Rattle.h2_model.specs.Queue.{Waiting, bytes_of}
use Rattle.h2_sender.proofs.queue.FrameQueue.new.Goals as goal

pub returns-clause-frames : goal.returns-clause-frames
unfolding start
returns-clause-frames c =
    let waiting : Frame → Waiting = λ f. record { frame = f; left = cond c.args.client preface [] ++ bytes_of f; fixed = false } in
    c.push_back_reserved.ensures.items
    ∙ ap (λ (q : List Waiting). q ++ c.first.result ∷ []) c.in_ok-frames.ensures.items
    ∙ ap (λ (w : Waiting). w ∷ []) (c.first.ensures ∙ ap waiting c.in_ok-settings.ensures)
