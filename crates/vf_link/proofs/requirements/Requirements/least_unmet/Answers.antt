use Rattle.std.proofs.Common.{length, List, sym, subst}
use Rattle.vf_manifest.specs.declared.line.Line.{Line}
use Rattle.vf_link.specs.declared.statement.Topic.TheVariants.{Provided, Required}
use Rattle.vf_link.specs.Statements.{statements}
use Rattle.vf_link.specs.Least.{IsLeastOf, IsMarkedText}
use Rattle.vf_link.specs.Linking.{IsUnmet}
use Rattle.vf_link.specs.Marks.{Marks, IsNoneOf, Meets}
use Rattle.vf_link.proofs.Leasts.{if_more, same_least}
use Rattle.vf_link.proofs.Failing.{names, unmet_from_mark, mark_from_unmet}
use Rattle.vf_link.proofs.requirements.Requirements.least_unmet.Goals as goal

pub returns : goal.returns
returns c =
    let r = c.args.self.now in
    let s = r.statements.subjects in
    let marks = c.as_slice.result.now in
    let m : Marks (length s) marks (IsNoneOf r.provided s) = subst (λ l. Marks (length s) l (IsNoneOf r.provided s)) (sym c.as_slice.ensures.value) c.in_ok-marks.ensures in
    if_more (IsLeastOf (IsMarkedText Required s marks)) (λ x. (ls : List Line) → Meets ls r → IsLeastOf (IsUnmet ls) x) c.least_marked.result
    (λ o h ls meets.
    let m' : Marks (length (names ls)) marks (IsNoneOf (length (statements Provided ls)) (names ls)) =
    subst (λ n. Marks (length (names ls)) marks (IsNoneOf n (names ls))) meets.count (subst (λ a. Marks (length a) marks (IsNoneOf r.provided a)) meets.subjects m) in
    same_least (IsMarkedText Required (names ls) marks) (IsUnmet ls) o (unmet_from_mark ls marks m') (mark_from_unmet ls marks m')
    (subst (λ a. IsLeastOf (IsMarkedText Required a marks) o) meets.subjects h))
    c.least_marked.ensures
