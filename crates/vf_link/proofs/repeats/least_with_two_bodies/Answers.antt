use Rattle.std.proofs.Common.{◌⊎◌, sym, ap, subst, ◌∙◌}
use Rattle.vf_link.specs.declared.statement.Topic.TheVariants.{Bodies, Structs, Instances}
use Rattle.vf_link.specs.Statements.{all_lines, statements, shown}
use Rattle.vf_link.specs.Least.{IsLeastOf, lesser}
use Rattle.vf_link.specs.Linking.{Differ, HasTwoBodies}
use Rattle.vf_link.proofs.Leasts.{lesser_is}
use Rattle.vf_link.proofs.repeats.least_with_two_bodies.Goals as goal

pub returns : goal.returns
returns c =
    let ls = all_lines c.args.manifests.now in
    let b = c.in_ok-bodies.bodies in
    let s = c.in_ok-structs.structs in
    let i = c.in_ok-instances.instances in
    let behind = lesser_is (Differ (shown Structs) (statements Structs ls)) (Differ (shown Instances) (statements Instances ls)) s i c.in_ok-structs.ensures c.in_ok-instances.ensures in
    let all = lesser_is (Differ (shown Bodies) (statements Bodies ls)) (λ x. Differ (shown Structs) (statements Structs ls) x ⊎ Differ (shown Instances) (statements Instances ls) x) b (lesser s i) c.in_ok-bodies.ensures behind in
    subst (IsLeastOf (HasTwoBodies ls)) (sym (c.lesser_text-2.ensures ∙ ap (lesser b) c.lesser_text.ensures)) all
