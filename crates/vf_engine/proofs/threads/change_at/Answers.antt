use Rattle.std.proofs.Common.{◌≡◌, ◌∷◌, map, slice_set, ap, ◌∙◌}
use Rattle.std.proofs.lemmas.List.{map-set}
use Rattle.std.proofs.lemmas.Option.{get_or_from_slice_get}
use Rattle.vf_engine.specs.States.{frame_of, callers_of, thread_of}
use Rattle.vf_engine.specs.Changes.{changed}
use Rattle.vf_engine.proofs.threads.change_at.Goals as goal

pub returns : goal.returns
returns c = λ names of frame at framed.
    let items = c.args.threads.now.items in
    let t = c.args.thread in
    let e : c.index_mut.result.now ≡ of = c.index_mut.ensures.value ∙ get_or_from_slice_get items t of _ at in
    let new = c.change_thread.ensures names frame (ap (λ th. th.frame) e ∙ framed) in
    map-set (thread_of names) items t _
    ∙ ap (slice_set (map (thread_of names) items) t) (new ∙ ap (λ th. changed names (frame_of names frame) c.args.change ∷ callers_of names th.callers.items) e)
