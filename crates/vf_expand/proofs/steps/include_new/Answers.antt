use Rattle.std.proofs.Common.{◌≡◌, ◌<◌, List, ℕ, Ok, length, sym, subst, ◌∙◌}
use Rattle.std.proofs.lemmas.Result.{err_from_is_err_and}
use Rattle.vf_preproc.specs.UnitText.{loaded}
use Rattle.vf_preproc.specs.Units.{unit_of}
use Rattle.vf_expand.specs.Steps.{Faults}
use Rattle.vf_expand.specs.Walks.{Pause, going_of, pauses_of}
use Rattle.vf_expand.proofs.Walking.{pauses_size, new_fails, begins_gives}
use Rattle.vf_expand.proofs.steps.include_new.Goals as goal

pub returns-in_err-loaded-clause-exact : goal.returns-in_err-loaded-clause-exact
returns-in_err-loaded-clause-exact g c = λ library tells.
    let ps : List Pause = pauses_of c.args.walk.stack.items in
    let shallow : length ps < 32 = subst (λ n. n < 32) (sym (pauses_size c.args.walk.stack.items)) c.requires.shallow in
    let path : c.path_text-path.result.now ≡ c.args.include.path = c.path_text-path.ensures ∙ c.as_bytes.ensures in
    let p = err_from_is_err_and c.from_residual.result c.from_residual.ensures.1 in
    rw (p.1, p.2) (new_fails library ps c.args.include (going_of c.args.walk.current) (unit_of c.args.walk.unit) c.in_err-loaded.field-0.0 shallow c.requires.new
    (subst (λ (q : List ℕ). Faults c.in_err-loaded.field-0.0 (loaded c.args.include.hash (library q))) path (c.in_err-loaded.ensures.exact library tells)))

pub returns-clause-exact : goal.returns-clause-exact
returns-clause-exact g c = λ library tells.
    let shallow : length (pauses_of c.args.walk.stack.items) < 32 = subst (λ n. n < 32) (sym (pauses_size c.args.walk.stack.items)) c.requires.shallow in
    let path : c.path_text-path.result.now ≡ c.args.include.path = c.path_text-path.ensures ∙ c.as_bytes.ensures in
    begins_gives library c.args.walk c.args.include c.in_ok-loaded.loaded c.begin.result shallow c.requires.new
    (subst (λ (q : List ℕ). loaded c.args.include.hash (library q) ≡ Ok c.in_ok-loaded.loaded) path (c.in_ok-loaded.ensures.exact library tells))
    c.begin.ensures.begun c.begin.ensures.memory
