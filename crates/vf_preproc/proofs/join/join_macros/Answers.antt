use Rattle.std.proofs.Common.{rules, ◌≡◌, ◌+◌, Some, None, drop, length, map, slice_get, option_map, arith, sym, ap, ◌∙◌, subst, refl}
use Rattle.std.proofs.lemmas.Result.{err_from_is_err_and}
use Rattle.std.proofs.lemmas.Option.{slice_get_read, slice_get-map}
use Rattle.vf_preproc.specs.Kept.{table_of}
use Rattle.vf_preproc.specs.Directives.{◌>>=◌}
use Rattle.vf_preproc.specs.Answers.{Fails}
use Rattle.vf_preproc.specs.UnitText.{joined}
use Rattle.vf_preproc.proofs.Joining.{joined_step, joined_none, Fails-then}
use Rattle.vf_preproc.proofs.join.join_macros.Goals as goal

pub returns-in_default : goal.returns-in_default
returns-in_default c =
    let none : slice_get (map (λ b. b.value) c.args.others.now.bodies) c.loop-at.at ≡ None = slice_get-map (λ b. b.value) c.args.others.now.bodies c.loop-at.at ∙ ap (option_map (λ b. b.value)) (sym c.in_default.ensures) in
    c.loop-at.invariant ∙ joined_none c.args.hash (table_of c.loop-at.macros) c.args.others.now.names (table_of c.args.others.now).bodies c.loop-at.at none

pub loop-at-preserved : goal.loop-at-preserved
loop-at-preserved c =
    let item : slice_get c.as_slice-name-items.result.now c.loop-at.at ≡ Some c.name-item.result = slice_get_read c.as_slice-name-items.result.now (length c.as_slice-name-items.result.now) c.loop-at.at c.name-item.result refl (omega arith) c.name-item.is in
    let at : slice_get c.args.others.now.names c.loop-at.at ≡ Some c.as_bytes.result.now = ap (λ s. slice_get s c.loop-at.at) (sym c.as_slice-name-items.ensures) ∙ item ∙ ap Some (sym c.as_bytes.ensures) in
    let same : c.in_ok-clone.field-0.value ≡ c.in-Some.body.now.value = search rules in
    let there : slice_get (map (λ b. b.value) c.args.others.now.bodies) c.loop-at.at ≡ Some c.in_ok-clone.field-0.value = slice_get-map (λ b. b.value) c.args.others.now.bodies c.loop-at.at ∙ ap (option_map (λ b. b.value)) (sym c.in-Some.ensures) ∙ ap Some (sym same) in
    c.loop-at.invariant ∙ joined_step c.args.hash (table_of c.loop-at.macros) c.args.others.now.names (table_of c.args.others.now).bodies c.loop-at.at c.as_bytes.result.now c.in_ok-clone.field-0.value at there
    ∙ ap (λ q. q >>= λ t. joined c.args.hash t (drop (c.loop-at.at + 1) c.args.others.now.names) (drop (c.loop-at.at + 1) (table_of c.args.others.now).bodies)) c.in_ok-define_as.ensures

pub returns-in_err-define_as : goal.returns-in_err-define_as
returns-in_err-define_as c =
    let item : slice_get c.as_slice-name-items.result.now c.loop-at.at ≡ Some c.name-item.result = slice_get_read c.as_slice-name-items.result.now (length c.as_slice-name-items.result.now) c.loop-at.at c.name-item.result refl (omega arith) c.name-item.is in
    let at : slice_get c.args.others.now.names c.loop-at.at ≡ Some c.as_bytes.result.now = ap (λ s. slice_get s c.loop-at.at) (sym c.as_slice-name-items.ensures) ∙ item ∙ ap Some (sym c.as_bytes.ensures) in
    let same : c.in_ok-clone.field-0.value ≡ c.in-Some.body.now.value = search rules in
    let there : slice_get (map (λ b. b.value) c.args.others.now.bodies) c.loop-at.at ≡ Some c.in_ok-clone.field-0.value = slice_get-map (λ b. b.value) c.args.others.now.bodies c.loop-at.at ∙ ap (option_map (λ b. b.value)) (sym c.in-Some.ensures) ∙ ap Some (sym same) in
    let whole = c.loop-at.invariant ∙ joined_step c.args.hash (table_of c.loop-at.macros) c.args.others.now.names (table_of c.args.others.now).bodies c.loop-at.at c.as_bytes.result.now c.in_ok-clone.field-0.value at there in
    let p = err_from_is_err_and c.from_residual-in_err-define_as.result c.from_residual-in_err-define_as.ensures.1 in
    rw (p.1, p.2) (subst (Fails c.in_err-define_as.field-0.0) (sym whole) (Fails-then c.in_err-define_as.field-0.0 _ _ c.in_err-define_as.ensures))
