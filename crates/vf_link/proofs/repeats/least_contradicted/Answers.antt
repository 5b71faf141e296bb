use Rattle.std.proofs.Common.{◌≡◌, IfOk, length, sym, subst}
use Rattle.vf_link.specs.Statements.{all_lines, statements, subjects, contents, shown}
use Rattle.vf_link.specs.Least.{IsLeastOf, IsMarkedText}
use Rattle.vf_link.specs.Linking.{Differ}
use Rattle.vf_link.specs.Marks.{Marks, IsContradicted}
use Rattle.vf_link.proofs.Leasts.{if_same}
use Rattle.vf_link.proofs.Failing.{differ_from_mark, mark_from_differ}
use Rattle.vf_link.proofs.repeats.least_contradicted.Goals as goal

pub returns : goal.returns
returns c =
    let topic = c.args.topic in
    let said = statements topic (all_lines c.args.manifests.now) in
    let s = c.in_ok-stated.stated.subjects in
    let t = c.in_ok-stated.stated.contents in
    let subjects_are : s ≡ subjects said = c.in_ok-stated.ensures.subjects in
    let contents_are : t ≡ contents said = c.in_ok-stated.ensures.contents in
    let marks = c.as_slice-2.result.now in
    let marked : Marks (length s) marks (IsContradicted s t) = subst (λ l. Marks (length s) l (IsContradicted s t)) (sym c.as_slice-2.ensures.value) c.in_ok-marks.ensures in
    let m : Marks (length (subjects said)) marks (IsContradicted (subjects said) (contents said)) =
    subst (λ a. Marks (length a) marks (IsContradicted a (contents said))) subjects_are (subst (λ b. Marks (length s) marks (IsContradicted s b)) contents_are marked) in
    if_same (IsMarkedText topic (subjects said) marks) (Differ (shown topic) said) c.least_marked.result (differ_from_mark topic said marks m) (mark_from_differ topic said marks m)
    (subst (λ a. IfOk c.least_marked.result (IsLeastOf (IsMarkedText topic a marks))) subjects_are c.least_marked.ensures)
