use Rattle.std.proofs.Common.{rules, ◌≡◌, ◌++◌, ◌∷◌, [], length, drop, sym, ◌∙◌, subst, List}
use Rattle.std.proofs.Common.{ap₂}
use Rattle.vf_table.specs.declared.node.Node.{Node}
use Rattle.vf_refute.specs.declared.steps.Fact.TheVariants as facts_
use Rattle.vf_closure.specs.Literals.{Equal, compares}
use Rattle.vf_question.specs.Numbered.{with_all}
use Rattle.vf_interning.specs.Interned.{meant, IsInterned}
use Rattle.vf_interning.proofs.Parts.{goes_on}
use Rattle.vf_interning.proofs.Meaning.{meaning_of, interned_of, gathered_more, numbers_more, plain_more, zero_more, last_there}
use Rattle.vf_interning.proofs.Deciding.{fine_fact}
use Rattle.vf_interning.proofs.interning.assume_equal_in.Goals as goal

pub assume-requires : goal.assume-requires
assume-requires c =
    let ts = c.args.terms.now.items in
    let now = c.number_both.new.terms.items in
    let l = Equal c.args.a.now c.args.b.now in
    let ls = meant ts c.args.combination.now.facts in
    let is = c.requires.interned in
    let w : now ≡ with_all (compares l) ts = search rules in
    let g = gathered_more ls l ts now is.zero is.gathered w in
    record { fine = fine_fact c.number_both.new.combination.nodes now (ls ++ l ∷ []) c.in_ok-pair.ensures.table g (plain_more ls l is.plain (c.requires.first, c.requires.second)) l (last_there ls l) (c.requires.first, c.requires.second) (facts_.Equal c.in_ok-pair.pair.first c.in_ok-pair.pair.second) (ap₂ facts_.Equal c.in_ok-pair.ensures.numbers.0 c.in_ok-pair.ensures.numbers.1) }

pub returns-clause-interned : goal.returns-clause-interned
returns-clause-interned c =
    let ts = c.args.terms.now.items in
    let now = c.number_both.new.terms.items in
    let l = Equal c.args.a.now c.args.b.now in
    let facts = c.args.combination.now.facts in
    let ls = meant ts facts in
    let is = c.requires.interned in
    let w : now ≡ with_all (compares l) ts = search rules in
    let g = gathered_more ls l ts now is.zero is.gathered w in
    let f : c.assume.new.self.facts ≡ facts ++ (facts_.Equal c.in_ok-pair.pair.first c.in_ok-pair.pair.second) ∷ [] = search rules in
    let n = numbers_more facts ls l (facts_.Equal c.in_ok-pair.pair.first c.in_ok-pair.pair.second) ts (drop (length ts) now) now is.gathered is.numbers (goes_on ts now c.number_both.ensures.kept) (ap₂ facts_.Equal c.in_ok-pair.ensures.numbers.0 c.in_ok-pair.ensures.numbers.1) in
    subst (λ (ns : List Node). IsInterned ns c.assume.new.self.facts now) (sym c.assume.ensures.nodes)
    (interned_of c.number_both.new.combination.nodes c.assume.new.self.facts now (ls ++ l ∷ []) c.in_ok-pair.ensures.table g (f ∙ n) (zero_more ls l is.zero) (plain_more ls l is.plain (c.requires.first, c.requires.second)))

pub returns-clause-literals : goal.returns-clause-literals
returns-clause-literals c =
    let ts = c.args.terms.now.items in
    let now = c.number_both.new.terms.items in
    let l = Equal c.args.a.now c.args.b.now in
    let facts = c.args.combination.now.facts in
    let ls = meant ts facts in
    let is = c.requires.interned in
    let w : now ≡ with_all (compares l) ts = search rules in
    let g = gathered_more ls l ts now is.zero is.gathered w in
    let f : c.assume.new.self.facts ≡ facts ++ (facts_.Equal c.in_ok-pair.pair.first c.in_ok-pair.pair.second) ∷ [] = search rules in
    let n = numbers_more facts ls l (facts_.Equal c.in_ok-pair.pair.first c.in_ok-pair.pair.second) ts (drop (length ts) now) now is.gathered is.numbers (goes_on ts now c.number_both.ensures.kept) (ap₂ facts_.Equal c.in_ok-pair.ensures.numbers.0 c.in_ok-pair.ensures.numbers.1) in
    meaning_of c.assume.new.self.facts now (ls ++ l ∷ []) g (f ∙ n)
