use Rattle.std.proofs.Common.{rules, ◌≡◌, sym, ◌∙◌}
use Rattle.vf_question.specs.Numbered.{with_term}
use Rattle.vf_interning.proofs.Parts.{place_kept}
use Rattle.vf_interning.proofs.facts.number_both.Goals as goal

pub returns-clause-numbers : goal.returns-clause-numbers
returns-clause-numbers c =
    let ts = c.args.terms.now.items in
    let first = c.number_term.new.terms.items in
    let now = c.number_term-2.new.terms.items in
    let more : first ≡ with_term c.args.a.now ts = search rules in
    (c.in_ok-first.ensures.number ∙ sym (place_kept c.args.a.now ts first now more c.number_term-2.ensures.kept), c.in_ok-second.ensures.number)
