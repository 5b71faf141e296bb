use Rattle.std.proofs.Common.{◌≡◌, List, length, map, sym, ap, ◌∙◌}
use Rattle.std.proofs.lemmas.List.{length-map}
use Rattle.std.specs.Prelude.{pos}
use Rattle.vf_closure.specs.Terms.{Term, number}
use Rattle.vf_formula.specs.Literals.{shown_literal}
use Rattle.vf_question.specs.Numbered.{place}
use Rattle.vf_question.specs.Tabled.{tabled_fact}
use Rattle.vf_reasons.proofs.Based.{begun_is}
use Rattle.vf_reasons.proofs.basis.begun.Goals as goal

pub returns-clause-basis : goal.returns-clause-basis
returns-clause-basis c =
    let ls = map shown_literal c.args.literals.now in
    let ts = c.number_all.new.terms.items in
    let told : c.in_ok-facts.facts.items ≡ map (tabled_fact ts) ls = c.in_ok-facts.ensures ∙ ap (λ (vs : List Term). map (tabled_fact vs) ls) c.deref.ensures.value in
    let zero : c.place_of_zero-zero.result ≡ place (number (pos 0)) ts = c.place_of_zero-zero.ensures ∙ ap (place (number (pos 0))) c.deref-2.ensures.value in
    begun_is ls (record { nodes = c.number_all.new.nodes; terms = c.number_all.new.terms; facts = c.push.new.self; asked = length c.args.literals.now; equations = c.new.result }) c.in_ok-facts.facts.items c.place_of_zero-zero.result c.in_ok-number_all.ensures.table c.in_ok-number_all.ensures.terms told c.in_ok-push.ensures.items zero c.requires.plain (sym (length-map c.args.literals.now shown_literal))
