use Rattle.std.proofs.Common.{◌≡◌, ◌∙◌, sym, ap, subst}
use Rattle.std.proofs.lemmas.Result.{err_from_is_err_and}
use Rattle.vf_preproc.specs.Directives.{◌>>=◌}
use Rattle.vf_preproc.specs.UnitText.{Unit_so_far, Header, completed}
use Rattle.vf_preproc.specs.Units.{unit_of}
use Rattle.vf_expand.specs.Steps.{Faults}
use Rattle.vf_expand.specs.Wholes.{end_of, counted, text_of_file}
use Rattle.vf_expand.proofs.Walking.{faults_then}
use Rattle.vf_expand.proofs.Wholes.{whole_text, counted_gives}
use Rattle.vf_expand.proofs.whole.expand_file.Goals as goal

pub returns-in_err-unit-clause-exact : goal.returns-in_err-unit-clause-exact
returns-in_err-unit-clause-exact g c = λ library tells.
    let p = err_from_is_err_and c.from_residual-in_err-unit.result c.from_residual-in_err-unit.ensures.1 in
    rw (p.1, p.2) (subst (Faults c.in_err-unit.field-0.0) (sym (whole_text library c.args.path.now c.args.file c.in_ok-walk.walk c.in_ok-walk.ensures.starts))
    (faults_then c.in_err-unit.field-0.0 _ (λ s. counted (end_of c.args.file.number c.args.file.bytes) (completed 0 s.0 s.1)) (c.in_err-unit.ensures.exact library tells)))

pub returns-clause-exact : goal.returns-clause-exact
returns-clause-exact g c = λ library tells.
    let ended = c.in_ok-unit.ensures.exact library tells in
    let place : c.end_of-end.result ≡ end_of c.args.file.number c.args.file.bytes = c.end_of-end.ensures ∙ ap (end_of c.args.file.number) c.as_bytes.ensures in
    counted_gives (text_of_file library c.args.path.now c.args.file) c.counted.result (counted c.end_of-end.result (unit_of c.in_ok-unit.unit))
    (whole_text library c.args.path.now c.args.file c.in_ok-walk.walk c.in_ok-walk.ensures.starts
    ∙ ap (λ r. r >>= λ (s : Unit_so_far × Header). counted (end_of c.args.file.number c.args.file.bytes) (completed 0 s.0 s.1)) ended.gives
    ∙ ap (counted (end_of c.args.file.number c.args.file.bytes)) (sym ended.complete)
    ∙ ap (λ e. counted e (unit_of c.in_ok-unit.unit)) (sym place))
    c.counted.ensures
