use Rattle.std.proofs.Common.{length, List, sym, subst}
use Rattle.vf_manifest.specs.declared.line.Line.{Line}
use Rattle.vf_link.specs.declared.statement.Topic.TheVariants.{Provided, Required}
use Rattle.vf_link.specs.Statements.{statements}
use Rattle.vf_link.specs.Least.{IsLeastOf, IsMarkedText, HasNone}
use Rattle.vf_link.specs.Linking.{HasOtherSignature, IsProvidedTwice}
use Rattle.vf_link.specs.Marks.{Marks, DisagreesWith, Meets}
use Rattle.vf_link.proofs.Leasts.{if_more, same_least}
use Rattle.vf_link.proofs.Failing.{names, signatures, other_from_mark, mark_from_other}
use Rattle.vf_link.proofs.requirements.Requirements.least_disagreeing.Goals as goal

pub returns : goal.returns
returns c =
    let r = c.args.self.now in
    let s = r.statements.subjects in
    let t = r.statements.contents in
    let marks = c.as_slice.result.now in
    let m : Marks (length s) marks (DisagreesWith r.provided s t) = subst (λ l. Marks (length s) l (DisagreesWith r.provided s t)) (sym c.as_slice.ensures.value) c.in_ok-marks.ensures in
    if_more (IsLeastOf (IsMarkedText Required s marks))
    (λ x. (ls : List Line) → Meets ls r → HasNone (IsProvidedTwice ls) → IsLeastOf (HasOtherSignature ls) x) c.least_marked.result
    (λ o h ls meets once.
    let m' : Marks (length (names ls)) marks (DisagreesWith (length (statements Provided ls)) (names ls) (signatures ls)) =
    subst (λ n. Marks (length (names ls)) marks (DisagreesWith n (names ls) (signatures ls))) meets.count
    (subst (λ b. Marks (length (names ls)) marks (DisagreesWith r.provided (names ls) b)) meets.contents
    (subst (λ a. Marks (length a) marks (DisagreesWith r.provided a t)) meets.subjects m)) in
    same_least (IsMarkedText Required (names ls) marks) (HasOtherSignature ls) o (other_from_mark ls marks m') (mark_from_other ls marks m' once)
    (subst (λ a. IsLeastOf (IsMarkedText Required a marks) o) meets.subjects h))
    c.least_marked.ensures
