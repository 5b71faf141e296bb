use Rattle.std.proofs.Common.{rules, ◌≡◌, ◌≤◌, ◌++◌, ◌∷◌, [], length, sym, ap, ◌∙◌}
use Rattle.vf_question.specs.Numbered.{place}
use Rattle.vf_interning.proofs.Stable.{place_new}
use Rattle.vf_recheck.proofs.numbering.add_one.Goals as goal

pub returns-clause-number : goal.returns-clause-number
returns-clause-number c =
    let ts = c.args.terms.now.items in
    let t = c.args.term.now in
    let l : length ts ≤ place t ts = search rules in
    let n : c.in_ok-number.number ≡ length ts = search rules in
    let e : c.add_new.new.terms.items ≡ ts ++ t ∷ [] = search rules in
    n ∙ sym (place_new t ts l) ∙ ap (place t) (sym e)
