use Rattle.std.proofs.Common.{rules, ◌≡◌, ◌≤◌, ◌+◌, ◌++◌, ◌∷◌, [], length, sym, ap, ◌∙◌, subst}
use Rattle.vf_table.specs.declared.node.Node.{Node}
use Rattle.vf_closure.specs.Terms.{term}
use Rattle.vf_formula.specs.Heads.{shown_head}
use Rattle.vf_formula.specs.Rows.{row}
use Rattle.vf_question.specs.Tabled.{places, tabled_head}
use Rattle.vf_interning.specs.Interned.{parts_of, HasParts, IsTermTable}
use Rattle.vf_interning.specs.declared.numbering.TheConstants.{MOST_ARISING}
use Rattle.vf_interning.proofs.Stable.{HasRow}
use Rattle.vf_interning.proofs.Adding.{row_of, table_more}
use Rattle.vf_recheck.proofs.numbering.add_new.Goals as goal

pub returns-clause-table : goal.returns-clause-table
returns-clause-table c =
    let ts = c.args.terms.now.items in
    let h = shown_head c.term.inside.head in
    let ps = row c.term.inside.parts in
    let m : Node = record { head = c.tabled_head-head.result; parts = c.args.parts } in
    let r : HasRow ts ps = row_of ts h ps (subst (HasParts ts) (sym c.term.view_is) c.requires.there) in
    let ep : c.args.parts.items ≡ places ts ps = c.requires.parts ∙ ap (λ t. places ts (parts_of t)) (sym c.term.view_is) in
    let eh : m.head ≡ tabled_head ts h = search rules in
    let few : length ts + 1 ≤ MOST_ARISING = search rules in
    let new : c.push-2.new.self.items ≡ c.args.nodes.now.items ++ m ∷ [] = search rules in
    let e : c.push.new.self.items ≡ ts ++ term h ps ∷ [] = search rules in
    subst (IsTermTable c.push-2.new.self.items) (sym e) (table_more c.args.nodes.now.items c.push-2.new.self.items ts h ps m c.requires.table r new eh ep few)
