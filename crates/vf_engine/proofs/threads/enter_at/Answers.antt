use Rattle.std.proofs.Common.{◌≡◌, ◌∷◌, ap, ◌∙◌}
use Rattle.std.proofs.lemmas.Option.{get_or_from_slice_get}
use Rattle.vf_model.specs.State.{at_step}
use Rattle.vf_engine.specs.States.{frame_of, callers_of, thread_of}
use Rattle.vf_engine.proofs.Placed.{placed, same_placed}
use Rattle.vf_engine.proofs.threads.enter_at.Goals as goal

pub returns-in-Ok : goal.returns-in-Ok
returns-in-Ok c = record {
  entered = λ names of frame at framed.
      let items = c.args.threads.now.items in
      let t = c.args.thread in
      let e : c.index_mut.result.now ≡ of = c.index_mut.ensures.value ∙ get_or_from_slice_get items t of _ at in
      let new = c.in-Ok.ensures.entered names frame (ap (λ th. th.frame) e ∙ framed) in
      placed (thread_of names) items t c.enter_thread.new.thread _
      (new ∙ ap (λ th. frame_of names c.args.new ∷ at_step (frame_of names frame) c.args.next ∷ callers_of names th.callers.items) e);
  unchanged = tt;
}

pub returns-in-Err : goal.returns-in-Err
returns-in-Err c = record {
  entered = tt;
  unchanged = λ names. same_placed (thread_of names) c.args.threads.now.items c.args.thread c.enter_thread.new.thread c.index_mut.result.now c.index_mut.ensures.value (c.in-Err.ensures.unchanged names);
}
