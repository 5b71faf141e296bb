use Rattle.std.proofs.Common.{◌≡◌, ◌∙◌}
use Rattle.vf_lower.specs.Shown.{setting_of}
use Rattle.vf_lower.specs.Statements.{with_variable}
use Rattle.vf_lower.proofs.Parts.{did_then}
use Rattle.vf_bodies.specs.Standing.{standing_of}
use Rattle.vf_bodies.proofs.Parts.{did_gives}
use Rattle.vf_local_numbers.proofs.first.declare_set.Goals as goal

pub returns : goal.returns
returns c =
    let more : standing_of c.declare.new.around ≡ with_variable (standing_of c.args.around.now) c.args.name.now.text c.args.ctype c.in_ok-local.local = c.in_ok-local.ensures.declared in
    let same : setting_of c.setting.result ≡ with_variable (standing_of c.args.around.now) c.args.name.now.text c.args.ctype c.in_ok-local.local = c.setting.ensures ∙ more in
    did_then _ _ _ _ _ _ _ c.in_ok-local.ensures.taken (did_then _ _ _ _ _ _ _ (rw same at c.in_ok-put_local.ensures) (did_gives _ _ _ more))
