use Rattle.std.proofs.Common.{rules, ◌≡◌, ◌≤◌, ◌+◌, ◌++◌, ◌∷◌, [], length, sym, ap, ◌∙◌, subst}
use Rattle.vf_table.specs.declared.node.Node.{Node}
use Rattle.vf_closure.specs.Terms.{term}
use Rattle.vf_formula.specs.Heads.{shown_head}
use Rattle.vf_formula.specs.Rows.{row}
use Rattle.vf_question.specs.Numbered.{place}
use Rattle.vf_question.specs.Tabled.{places, tabled_head}
use Rattle.vf_interning.specs.Interned.{parts_of, HasParts, IsTermTable}
use Rattle.vf_interning.specs.declared.numbering.TheConstants.{MOST_ARISING}
use Rattle.vf_interning.proofs.Stable.{HasRow}
use Rattle.vf_interning.proofs.Adding.{as_many, row_of, parts_within, table_more, no_node}
use Rattle.vf_interning.proofs.numbering.add_new.Goals as goal

pub add-requires-clause-parts : goal.add-requires-clause-parts
add-requires-clause-parts c =
    let ts = c.args.terms.now.items in
    let h = shown_head c.term.inside.head in
    let ps = row c.term.inside.parts in
    let r : HasRow ts ps = row_of ts h ps (subst (HasParts ts) (sym c.term.view_is) c.requires.there) in
    parts_within c.args.combination.now.nodes ts h ps c.args.parts.items c.requires.table r (c.requires.parts ∙ ap (λ t. places ts (parts_of t)) (sym c.term.view_is))

pub returns-clause-table : goal.returns-clause-table
returns-clause-table c =
    let ts = c.args.terms.now.items in
    let h = shown_head c.term.inside.head in
    let ps = row c.term.inside.parts in
    let m : Node = record { head = c.tabled_head-head.result; parts = c.args.parts } in
    let r : HasRow ts ps = row_of ts h ps (subst (HasParts ts) (sym c.term.view_is) c.requires.there) in
    let ep : c.args.parts.items ≡ places ts ps = c.requires.parts ∙ ap (λ t. places ts (parts_of t)) (sym c.term.view_is) in
    let eh : m.head ≡ tabled_head ts h = search rules in
    let few : length ts + 1 ≤ MOST_ARISING = search rules in
    let new = c.in_ok-number.ensures.absent (no_node c.args.combination.now.nodes ts h ps m c.requires.table r eh ep (subst (λ t. length ts ≤ place t ts) (sym c.term.view_is) c.requires.new)) in
    let e : c.push_reserved.new.self.items ≡ ts ++ term h ps ∷ [] = search rules in
    subst (IsTermTable c.add.new.self.nodes) (sym e) (table_more c.args.combination.now.nodes c.add.new.self.nodes ts h ps m c.requires.table r new.1 eh ep few)

pub returns-clause-number : goal.returns-clause-number
returns-clause-number c =
    let ts = c.args.terms.now.items in
    let h = shown_head c.term.inside.head in
    let ps = row c.term.inside.parts in
    let m : Node = record { head = c.tabled_head-head.result; parts = c.args.parts } in
    let r : HasRow ts ps = row_of ts h ps (subst (HasParts ts) (sym c.term.view_is) c.requires.there) in
    let ep : c.args.parts.items ≡ places ts ps = c.requires.parts ∙ ap (λ t. places ts (parts_of t)) (sym c.term.view_is) in
    let eh : m.head ≡ tabled_head ts h = search rules in
    let new = c.in_ok-number.ensures.absent (no_node c.args.combination.now.nodes ts h ps m c.requires.table r eh ep (subst (λ t. length ts ≤ place t ts) (sym c.term.view_is) c.requires.new)) in
    new.0 ∙ as_many c.args.combination.now.nodes ts c.requires.table
