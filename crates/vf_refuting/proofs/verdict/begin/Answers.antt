use Rattle.std.proofs.Common.{rules, sym, ◌∙◌, ap, subst, length, List, ℕ}
use Rattle.vf_table.specs.declared.node.Node.{Node}
use Rattle.vf_table.specs.Tables.{PartsAreBelow}
use Rattle.vf_log.specs.Copies.{HaveSameTerms}
use Rattle.vf_refuting.proofs.Copied.{reversed, parts_copied}
use Rattle.vf_refuting.proofs.Ending.{nothing_equal, nothing_within}
use Rattle.vf_refuting.proofs.verdict.begin.Goals as goal

pub new-requires-2-clause-parts : goal.new-requires-2-clause-parts
new-requires-2-clause-parts c =
    let h = subst (λ (ns : List Node). HaveSameTerms ns c.in_ok-copies.copies.items) c.deref.ensures.value c.in_ok-copies.ensures in
    subst (λ (n : ℕ). PartsAreBelow c.in_ok-copies.copies.items n) (sym h.long) (parts_copied c.args.nodes.items c.in_ok-copies.copies.items (length c.args.nodes.items) h c.requires.parts)

pub returns-clause-run : goal.returns-clause-run
returns-clause-run c =
    let h = subst (λ (ns : List Node). HaveSameTerms ns c.in_ok-copies.copies.items) c.deref.ensures.value c.in_ok-copies.ensures in
    let k = reversed c.args.nodes.items c.in_ok-copies.copies.items h in
    record {
      terms = subst (λ (ns : List Node). HaveSameTerms c.in_ok-classes.classes.nodes ns) (sym c.new-3.ensures.nodes) (subst (λ (ns : List Node). HaveSameTerms ns c.args.nodes.items) (sym c.in_ok-classes.ensures.0) k);
      size = c.in_ok-bounds.ensures.0 ∙ (let e = c.len.ensures in search rules) ∙ sym (ap (λ (ns : List Node). length ns) c.in_ok-classes.ensures.0);
      equal = nothing_equal c.new-3.result.known c.in_ok-classes.classes.merged c.new-4.result.items c.in_ok-classes.ensures.1 c.new-4.ensures.items;
      within = nothing_within c.new-3.result.known c.in_ok-bounds.bounds.edges c.new-5.result.items c.in_ok-bounds.ensures.1 c.new-5.ensures.items;
    }
