use Rattle.std.proofs.Common.{◌≡◌, ap, ◌∙◌}
use Rattle.std.specs.Option.{option_map}
use Rattle.std.proofs.lemmas.Option.{get_or_from_slice_get}
use Rattle.vf_engine.specs.Values.{value_of}
use Rattle.vf_engine.specs.States.{callers_of, thread_of}
use Rattle.vf_engine.specs.Changes.{frames_after}
use Rattle.vf_engine.proofs.Placed.{placed}
use Rattle.vf_engine.proofs.threads.leave_at.Goals as goal

pub returns : goal.returns
returns c = λ names of frame at framed.
    let items = c.args.threads.now.items in
    let t = c.args.thread in
    let e : c.index_mut.result.now ≡ of = c.index_mut.ensures.value ∙ get_or_from_slice_get items t of _ at in
    let new = c.leave_thread.ensures names frame (ap (λ th. th.frame) e ∙ framed) in
    placed (thread_of names) items t c.leave_thread.new.thread _
    (new ∙ ap (λ th. frames_after frame.target (option_map (value_of names) c.args.value) (callers_of names th.callers.items)) e)
