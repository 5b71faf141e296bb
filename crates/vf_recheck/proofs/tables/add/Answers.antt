use Rattle.std.proofs.Common.{rules, ◌≡◌, ◌++◌, ◌∷◌, [], List, map, ap, ◌∙◌, subst, sym}
use Rattle.std.proofs.lemmas.List.{map-append}
use Rattle.vf_formula.specs.Literals.{shown_literal}
use Rattle.vf_formula.specs.declared.literal.Literal as declared
use Rattle.vf_closure.specs.Literals.{Literal}
use Rattle.vf_question.specs.Tabled.{tabled_fact}
use Rattle.vf_recheck.specs.Posed.{AreNumbered}
use Rattle.vf_recheck.proofs.Coming.{more_gathered, more_numbers}
use Rattle.vf_recheck.proofs.tables.add.Goals as goal

pub returns-clause-numbered : goal.returns-clause-numbered
returns-clause-numbered c =
    let ls = map shown_literal c.args.literals.now.items in
    let l = shown_literal c.args.literal.now in
    let ts = c.args.terms.now.items in
    let now = c.number_literal.new.terms.items in
    let fs = c.args.facts.now.items in
    let n = c.in_ok-number_literal.ensures.terms in
    let pushed : c.push.new.self.items ≡ fs ++ tabled_fact now l ∷ [] = search rules in
    let all : map shown_literal c.push-2.new.self.items ≡ ls ++ l ∷ [] = ap (map shown_literal) (c.in_ok-push-2.ensures.items ∙ ap (λ (x : declared.Literal). c.args.literals.now.items ++ x ∷ []) c.in_ok-copy.ensures) ∙ map-append shown_literal c.args.literals.now.items (c.args.literal.now ∷ []) in
    subst (λ (ks : List Literal). AreNumbered ks c.number_literal.new.nodes.items now c.push.new.self.items) (sym all) (record {
      table = c.in_ok-number_literal.ensures.table;
      gathered = more_gathered ls l ts now fs c.requires.numbered.gathered n c.requires.numbered.numbers;
      numbers = pushed ∙ more_numbers ls l ts now fs c.requires.numbered.gathered n c.requires.numbered.numbers;
    })
