use Rattle.std.proofs.Common.{◌≡◌, ◌++◌, ◌∷◌, [], sym, ap, ap₂, ◌∙◌, subst, List}
use Rattle.std.specs.Prelude.{pos}
use Rattle.vf_table.specs.declared.node.Node.{Node}
use Rattle.vf_refute.specs.declared.steps.Fact.{Fact}
use Rattle.vf_refute.specs.declared.steps.Fact.TheVariants as facts_
use Rattle.vf_closure.specs.Terms.{Term, number}
use Rattle.vf_closure.specs.Literals.{Equal}
use Rattle.vf_question.specs.Numbered.{place, with_term}
use Rattle.vf_question.specs.Tabled.{tabled_fact}
use Rattle.vf_question.specs.Plain.{IsPlain}
use Rattle.vf_interning.specs.Interned.{IsInterned}
use Rattle.vf_interning.proofs.Meaning.{meaning_of, interned_of, last_there, zero_plain, first_gathered, first_plain, empty_table}
use Rattle.vf_interning.proofs.Deciding.{fine_fact}
use Rattle.vf_interning.proofs.interning.assume_zero.Goals as goal

pub number_term-requires : goal.number_term-requires
number_term-requires c = record {
  table = empty_table c.args.combination.now.nodes c.args.terms.now.items c.requires.nodes c.requires.terms;
  plain = subst IsPlain (sym c.of_number-zero.ensures) zero_plain.0;
}

pub assume-requires : goal.assume-requires
assume-requires c =
    let zero_literal = Equal (number (pos 0)) (number (pos 0)) in
    let now = c.number_term.new.terms.items in
    let z : c.of_number-zero.result ≡ number (pos 0) = c.of_number-zero.ensures in
    let w : now ≡ with_term (number (pos 0)) c.args.terms.now.items = c.in_ok-number.ensures.terms ∙ ap (λ (t : Term). with_term t c.args.terms.now.items) z in
    let n : c.in_ok-number.number ≡ place (number (pos 0)) now = c.in_ok-number.ensures.number ∙ ap (λ (t : Term). place t now) z in
    let e : facts_.Equal c.in_ok-number.number c.in_ok-number.number ≡ tabled_fact now zero_literal = ap₂ facts_.Equal n n in
    record { fine = fine_fact c.number_term.new.combination.nodes now (zero_literal ∷ []) c.in_ok-number.ensures.table (first_gathered c.args.terms.now.items now c.requires.terms w) first_plain zero_literal (last_there [] zero_literal) zero_plain (facts_.Equal c.in_ok-number.number c.in_ok-number.number) e }

pub returns-clause-interned : goal.returns-clause-interned
returns-clause-interned c =
    let zero_literal = Equal (number (pos 0)) (number (pos 0)) in
    let now = c.number_term.new.terms.items in
    let z : c.of_number-zero.result ≡ number (pos 0) = c.of_number-zero.ensures in
    let w : now ≡ with_term (number (pos 0)) c.args.terms.now.items = c.in_ok-number.ensures.terms ∙ ap (λ (t : Term). with_term t c.args.terms.now.items) z in
    let n : c.in_ok-number.number ≡ place (number (pos 0)) now = c.in_ok-number.ensures.number ∙ ap (λ (t : Term). place t now) z in
    let e : facts_.Equal c.in_ok-number.number c.in_ok-number.number ≡ tabled_fact now zero_literal = ap₂ facts_.Equal n n in
    let f : c.assume.new.self.facts ≡ tabled_fact now zero_literal ∷ [] = c.in_ok-assume.ensures.facts ∙ ap₂ (λ (fs : List Fact) (x : Fact). fs ++ x ∷ []) (c.number_term.ensures.facts ∙ c.requires.facts) e in
    subst (λ (ns : List Node). IsInterned ns c.assume.new.self.facts now) (sym c.assume.ensures.nodes)
    (interned_of c.number_term.new.combination.nodes c.assume.new.self.facts now (zero_literal ∷ []) c.in_ok-number.ensures.table (first_gathered c.args.terms.now.items now c.requires.terms w) f (last_there [] zero_literal) first_plain)

pub returns-clause-literals : goal.returns-clause-literals
returns-clause-literals c =
    let zero_literal = Equal (number (pos 0)) (number (pos 0)) in
    let now = c.number_term.new.terms.items in
    let z : c.of_number-zero.result ≡ number (pos 0) = c.of_number-zero.ensures in
    let w : now ≡ with_term (number (pos 0)) c.args.terms.now.items = c.in_ok-number.ensures.terms ∙ ap (λ (t : Term). with_term t c.args.terms.now.items) z in
    let n : c.in_ok-number.number ≡ place (number (pos 0)) now = c.in_ok-number.ensures.number ∙ ap (λ (t : Term). place t now) z in
    let e : facts_.Equal c.in_ok-number.number c.in_ok-number.number ≡ tabled_fact now zero_literal = ap₂ facts_.Equal n n in
    let f : c.assume.new.self.facts ≡ tabled_fact now zero_literal ∷ [] = c.in_ok-assume.ensures.facts ∙ ap₂ (λ (fs : List Fact) (x : Fact). fs ++ x ∷ []) (c.number_term.ensures.facts ∙ c.requires.facts) e in
    meaning_of c.assume.new.self.facts now (zero_literal ∷ []) (first_gathered c.args.terms.now.items now c.requires.terms w) f
