use Rattle.std.proofs.Common.{◌≡◌, ◌+◌, [], ◌∷◌, drop, Some, sym, ap, ◌∙◌}
use Rattle.std.proofs.lemmas.List.{map-append}
use Rattle.std.proofs.lemmas.List.{drop_all}
use Rattle.vf_model.specs.Evaluation.{evaluate_all}
use Rattle.vf_core.specs.Shown.{expression_of, expressions_of}
use Rattle.vf_engine.specs.Values.{value_of, cell_of, cells_of}
use Rattle.vf_engine.proofs.Arguments.{after_cells, one_more, all_given, none_given, dropped, nothing_more}
use Rattle.vf_engine.proofs.frames.argument_values.Goals as goal

pub loop-argument-preserved : goal.loop-argument-preserved
loop-argument-preserved c = λ names.
    let all = c.args.arguments.now in
    let i = c.loop-argument.argument-index in
    let e = c.argument-item.result in
    let locals = cells_of names c.args.locals.now in
    let cells = cells_of names c.loop-argument.values.items in
    let left : drop i all ≡ e ∷ drop (i + 1) all = dropped all i e c.argument-item.is c.loop-argument-test.true in
    c.loop-argument.invariant names
    ∙ ap (λ es. after_cells cells (evaluate_all locals (expressions_of names es))) left
    ∙ one_more locals cells (expression_of names e) (expressions_of names (drop (i + 1) all)) (value_of names c.in-Ok.value) (sym (c.in-Ok.ensures names))
    ∙ ap (λ vs. after_cells vs (evaluate_all locals (expressions_of names (drop (i + 1) all))))
    (sym (map-append (cell_of names) c.loop-argument.values.items (Some c.in-Ok.value ∷ [])) ∙ ap (cells_of names) (sym c.in_ok-push-in-Ok.ensures.items))

pub returns-in-Err : goal.returns-in-Err
returns-in-Err c = λ names.
    let all = c.args.arguments.now in
    let i = c.loop-argument.argument-index in
    let e = c.argument-item.result in
    let locals = cells_of names c.args.locals.now in
    let cells = cells_of names c.loop-argument.values.items in
    let left : drop i all ≡ e ∷ drop (i + 1) all = dropped all i e c.argument-item.is c.loop-argument-test.true in
    ap (cells_of names) c.new.ensures.items
    ∙ none_given locals cells (expression_of names e) (expressions_of names (drop (i + 1) all)) _ _ (evaluate_all locals (expressions_of names all)) (sym (c.in-Err.ensures names))
    (c.loop-argument.invariant names ∙ ap (λ es. after_cells cells (evaluate_all locals (expressions_of names es))) left)

pub returns : goal.returns
returns c = λ names.
    let all = c.args.arguments.now in
    let i = c.loop-argument.argument-index in
    let locals = cells_of names c.args.locals.now in
    let cells = cells_of names c.loop-argument.values.items in
    let left : drop i all ≡ [] = drop_all i all c.loop-argument-test.false in
    all_given cells (evaluate_all locals (expressions_of names all))
    (c.loop-argument.invariant names ∙ ap (λ es. after_cells cells (evaluate_all locals (expressions_of names es))) left ∙ nothing_more locals cells)
