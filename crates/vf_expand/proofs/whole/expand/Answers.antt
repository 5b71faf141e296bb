use Rattle.std.proofs.Common.{◌≡◌, List, ℕ, ◌∙◌, sym, ap}
use Rattle.std.proofs.lemmas.Result.{err_from_is_err_and}
use Rattle.vf_preproc.specs.Directives.{◌>>=◌}
use Rattle.vf_expand.specs.Wholes.{named, text_of_file, text_of_unit}
use Rattle.vf_expand.proofs.Learning.{reads_then, tells_before}
use Rattle.vf_expand.proofs.Wholes.{named_fails, file_unit}
use Rattle.vf_expand.proofs.whole.expand.Goals as goal

pub returns-in_err-file-clause-exact : goal.returns-in_err-file-clause-exact
returns-in_err-file-clause-exact g c = λ library tells.
    let p = err_from_is_err_and c.from_residual.result c.from_residual.ensures.1 in
    rw (p.1, p.2) (named_fails (named (library c.args.path.now)) (text_of_file library c.args.path.now) c.in_err-file.field-0.0 (c.in_err-file.ensures.exact library tells))

pub returns-clause-exact : goal.returns-clause-exact
returns-clause-exact g c = λ library tells.
    let before = c.in_ok-file.ensures.exact library (tells_before library c.load.new.snapshot c.expand_file.new.snapshot c.expand_file.ensures.reads.grows tells) in
    let path : c.as_bytes.result.now ≡ c.args.path.now = c.as_bytes.ensures.value in
    file_unit (text_of_unit library c.args.path.now) (text_of_file library c.as_bytes.result.now c.in_ok-file.file) c.expand_file.result
    (ap (λ q. q >>= λ f. text_of_file library c.args.path.now f) before ∙ ap (λ (q : List ℕ). text_of_file library q c.in_ok-file.file) (sym path))
    (c.expand_file.ensures.exact library tells)

pub returns-clause-missing : goal.returns-clause-missing
returns-clause-missing g c = λ is. absurd (c.expand_file.ensures.there is)

pub returns-clause-reads : goal.returns-clause-reads
returns-clause-reads g c = reads_then _ _ _ c.load.ensures.reads c.expand_file.ensures.reads
