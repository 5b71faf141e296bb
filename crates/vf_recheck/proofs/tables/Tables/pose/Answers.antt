use Rattle.std.proofs.Common.{rules, ◌≡◌, ◌++◌, ◌∷◌, [], List, map, ap, ◌∙◌, subst, sym}
use Rattle.vf_formula.specs.Literals.{shown_literal}
use Rattle.vf_closure.specs.Terms.{Term}
use Rattle.vf_closure.specs.Literals.{Literal}
use Rattle.vf_question.specs.Numbered.{terms_of}
use Rattle.vf_question.specs.Tabled.{entries, tabled_fact}
use Rattle.vf_recheck.specs.declared.posing.Posed.{Posed}
use Rattle.vf_recheck.specs.Posed.{IsPosed}
use Rattle.vf_recheck.proofs.Coming.{copied, posed_gathered, posed_numbers}
use Rattle.vf_recheck.proofs.tables.Tables.pose.Goals as goal

pub number_literal-requires : goal.number_literal-requires
number_literal-requires c = record {
  table = copied c.self.inside.nodes.items c.in_ok-nodes.nodes.items c.self.inside.terms.items c.in_ok-terms.terms.items (c.in_ok-nodes.ensures ∙ ap (map entries) c.deref.ensures.value) (c.in_ok-terms.ensures ∙ c.deref-2.ensures.value) c.self.invariant.table;
}

pub returns : goal.returns
returns c =
    let ls = map shown_literal c.self.inside.literals.items in
    let l = shown_literal c.args.last.now in
    let ts = c.in_ok-terms.terms.items in
    let now = c.number_literal.new.terms.items in
    let last = c.number_zero.new.terms.items in
    let fs = c.in_ok-facts.facts.items in
    let es = c.in_ok-terms.ensures ∙ c.deref-2.ensures.value in
    let g : ts ≡ terms_of ls = es ∙ c.self.invariant.gathered in
    let f : fs ≡ map (tabled_fact ts) ls = c.in_ok-facts.ensures ∙ c.deref-3.ensures.value ∙ c.self.invariant.numbers ∙ ap (λ (vs : List Term). map (tabled_fact vs) ls) (sym es) in
    let n = c.in_ok-number_literal.ensures.terms in
    let z = c.in_ok-number_zero.ensures.terms in
    let p : c.push.new.self.items ≡ fs ++ tabled_fact now l ∷ [] = search rules in
    let question : Posed = record { nodes = c.number_zero.new.nodes; terms = c.number_zero.new.terms; facts = c.push.new.self } in
    let h : IsPosed (ls ++ l ∷ []) question = record {
      table = c.in_ok-number_zero.ensures.table;
      gathered = posed_gathered ls l ts now fs g n f last z;
      numbers = p ∙ posed_numbers ls l ts now fs g n f last z;
    } in
    subst (λ (ks : List Literal). IsPosed (ks ++ l ∷ []) question) c.self.view_is h
