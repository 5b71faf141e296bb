use Rattle.std.proofs.Common.{◌≡◌, ◌-◌, ◌++◌, map, length, replicate, Some, None, sym, ap, ap₂, ◌∙◌}
use Rattle.std.proofs.lemmas.List.{map-append, length-map}
use Rattle.vf_core.specs.Shown.{type_of}
use Rattle.vf_engine.specs.Values.{cell_of, cells_of}
use Rattle.vf_engine.proofs.Arguments.{no_cells}
use Rattle.vf_engine.proofs.frames.frame_of_call.Goals as goal

pub returns : goal.returns
returns c = λ names vs given.
    let values = c.args.values.items in
    let all = c.args.function.now.locals in
    let count : c.len.result ≡ length (map (type_of names) all) = c.len.ensures ∙ sym (length-map all (type_of names)) in
    let filled : length values ≡ length vs = sym (length-map values (cell_of names)) ∙ ap length given ∙ length-map vs Some in
    let rest = c.len.result - length values in
    ap (λ locals. record { function = c.args.number; step = 0; locals = locals; target = c.args.target })
    (ap (cells_of names) c.in_ok-locals.ensures
    ∙ map-append (cell_of names) values (replicate rest None)
    ∙ ap₂ (λ xs ys. xs ++ ys) given (no_cells names rest)
    ∙ ap (λ n. map Some vs ++ replicate n None) (ap₂ (λ m n. m - n) count filled))
