use Rattle.std.proofs.Common.{rules, ◌≡◌, ◌++◌, ◌∷◌, [], length, drop, sym, ◌∙◌, subst, List}
use Rattle.vf_table.specs.declared.node.Node.{Node}
use Rattle.vf_closure.specs.Literals.{compares}
use Rattle.vf_formula.specs.Literals.{shown_literal}
use Rattle.vf_question.specs.Numbered.{with_all}
use Rattle.vf_interning.specs.Interned.{meant, IsInterned}
use Rattle.vf_interning.proofs.Parts.{goes_on}
use Rattle.vf_interning.proofs.Meaning.{meaning_of, interned_of, gathered_more, numbers_more, plain_more, zero_more, last_there}
use Rattle.vf_interning.proofs.Deciding.{fine_fact}
use Rattle.vf_interning.proofs.interning.assume_in.Goals as goal

pub assume-requires : goal.assume-requires
assume-requires c =
    let ts = c.args.terms.now.items in
    let now = c.fact_of.new.terms.items in
    let l = shown_literal c.args.literal.now in
    let ls = meant ts c.args.combination.now.facts in
    let is = c.requires.interned in
    let w : now ≡ with_all (compares l) ts = search rules in
    let g = gathered_more ls l ts now is.zero is.gathered w in
    record { fine = fine_fact c.fact_of.new.combination.nodes now (ls ++ l ∷ []) c.in_ok-fact.ensures.table g (plain_more ls l is.plain c.requires.plain) l (last_there ls l) c.requires.plain c.in_ok-fact.fact c.in_ok-fact.ensures.fact }

pub returns-clause-interned : goal.returns-clause-interned
returns-clause-interned c =
    let ts = c.args.terms.now.items in
    let now = c.fact_of.new.terms.items in
    let l = shown_literal c.args.literal.now in
    let facts = c.args.combination.now.facts in
    let ls = meant ts facts in
    let is = c.requires.interned in
    let w : now ≡ with_all (compares l) ts = search rules in
    let g = gathered_more ls l ts now is.zero is.gathered w in
    let f : c.assume.new.self.facts ≡ facts ++ c.in_ok-fact.fact ∷ [] = search rules in
    let n = numbers_more facts ls l c.in_ok-fact.fact ts (drop (length ts) now) now is.gathered is.numbers (goes_on ts now c.fact_of.ensures.kept) c.in_ok-fact.ensures.fact in
    subst (λ (ns : List Node). IsInterned ns c.assume.new.self.facts now) (sym c.assume.ensures.nodes)
    (interned_of c.fact_of.new.combination.nodes c.assume.new.self.facts now (ls ++ l ∷ []) c.in_ok-fact.ensures.table g (f ∙ n) (zero_more ls l is.zero) (plain_more ls l is.plain c.requires.plain))

pub returns-clause-literals : goal.returns-clause-literals
returns-clause-literals c =
    let ts = c.args.terms.now.items in
    let now = c.fact_of.new.terms.items in
    let l = shown_literal c.args.literal.now in
    let facts = c.args.combination.now.facts in
    let ls = meant ts facts in
    let is = c.requires.interned in
    let w : now ≡ with_all (compares l) ts = search rules in
    let g = gathered_more ls l ts now is.zero is.gathered w in
    let f : c.assume.new.self.facts ≡ facts ++ c.in_ok-fact.fact ∷ [] = search rules in
    let n = numbers_more facts ls l c.in_ok-fact.fact ts (drop (length ts) now) now is.gathered is.numbers (goes_on ts now c.fact_of.ensures.kept) c.in_ok-fact.ensures.fact in
    meaning_of c.assume.new.self.facts now (ls ++ l ∷ []) g (f ∙ n)
