use Rattle.std.proofs.Common.{◌≡◌, ◌≢◌, ◌≤◌, List, ◌++◌, length, map, take, get_or, sym, ap, subst, ◌∙◌, arith}
use Rattle.std.proofs.lemmas.List.{length-map, length-take-le, take-map}
use Rattle.std.proofs.Math.Seq.{take-append_seam}
use Rattle.vf_manifest.specs.declared.line.Line.{Line}
use Rattle.vf_link.specs.declared.statement.Topic.TheVariants.{Provided, Required}
use Rattle.vf_link.specs.Statements.{place, statements, subjects}
use Rattle.vf_link.specs.Least.{IsLeastOf, IsMarkedText}
use Rattle.vf_link.specs.Linking.{IsProvidedTwice}
use Rattle.vf_link.specs.Marks.{Marks, IsRepeated, Meets}
use Rattle.vf_link.proofs.Places.{places_in_front}
use Rattle.vf_link.proofs.Leasts.{if_more, same_least}
use Rattle.vf_link.proofs.Marking.{repeats_marked, least_to_front}
use Rattle.vf_link.proofs.Failing.{twice_from_mark, mark_from_twice}
use Rattle.vf_link.proofs.requirements.Requirements.least_repeated.Goals as goal

pub returns : goal.returns
returns c =
    let r = c.args.self.now in
    let all = r.statements.subjects in
    let count = r.provided in
    let front = take count all in
    let marks = c.as_slice.result.now in
    let firsts = take count c.deref.result.now in
    let firsts_are : firsts ≡ map (place front) front =
    ap (take count) (c.deref.ensures.value ∙ c.requires.firsts) ∙ take-map (place all) count all ∙ places_in_front all count in
    let others : Marks (length firsts) marks (λ k. get_or firsts k 0 ≢ k) = subst (λ l. Marks (length firsts) l (λ k. get_or firsts k 0 ≢ k)) (sym c.as_slice.ensures.value) c.in_ok-marks.ensures in
    let m : Marks (length front) marks (IsRepeated front) = repeats_marked front marks (subst (λ fs. Marks (length fs) marks (λ k. get_or fs k 0 ≢ k)) firsts_are others) in
    let marked = m.nodes in
    let front_len : length front ≡ count = length-take-le count all c.requires.within in
    let few : length marks ≤ count = omega arith in
    if_more (IsLeastOf (IsMarkedText Provided all marks)) (λ x. (ls : List Line) → Meets ls r → IsLeastOf (IsProvidedTwice ls) x) c.least_marked.result
    (λ o h ls meets.
    let provided = subjects (statements Provided ls) in
    let required = subjects (statements Required ls) in
    let many : count ≡ length provided = meets.count ∙ sym (length-map (statements Provided ls) (λ s. s.subject)) in
    let front_is : front ≡ provided = ap (take count) meets.subjects ∙ ap (λ n. take n (provided ++ required)) many ∙ take-append_seam provided required in
    let m' : Marks (length provided) marks (IsRepeated provided) = subst (λ a. Marks (length a) marks (IsRepeated a)) front_is m in
    same_least (IsMarkedText Provided provided marks) (IsProvidedTwice ls) o (twice_from_mark provided marks m') (mark_from_twice provided marks m')
    (subst (λ a. IsLeastOf (IsMarkedText Provided a marks) o) front_is (least_to_front Provided all marks count few o h)))
    c.least_marked.ensures
