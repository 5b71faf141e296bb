-- Parts that are spelled are read, and reading stops alike.
use Rattle.std.proofs.Common.{◌≡◌, refl, sym, ap, subst, ◌∙◌, ℕ, ◌+◌, ◌≤◌, false, List, Some, Err, arith}
use Rattle.vf_lexer.specs.declared.token.Token.{Token}
use Rattle.vf_cursor.specs.declared.fault.Fault.TheVariants.{Syntax}
use Rattle.vf_cursor.specs.Parsing.{Read, Parser, ◌>>=◌, ok}
use Rattle.vf_parse_command.specs.Commands.{command_at}
use Rattle.vf_parse_ghost.specs.Clauses.{claim_at, contract_at, invariant_at}
use Rattle.vf_parse_ghost.specs.Items.{item_at}
use Rattle.vf_parse_part.specs.declared.part.GhostPart.{GhostPart}
use Rattle.vf_parse_part.specs.declared.part.GhostPart.TheVariants as parts
use Rattle.vf_parse_part.specs.declared.part.GhostTree.{GhostTree}
use Rattle.vf_parse_part.specs.declared.part.GhostTree.TheVariants as trees
use Rattle.vf_parse_part.specs.Parts.{as_tree, part_at, part, part_nesting, kind_of}
use Rattle.vf_grammar_read.proofs.commands.CommandsFull.{command_full}
use Rattle.vf_grammar_read.proofs.ghost_items.Clauses.{claim_full, contract_full, invariant_full}
use Rattle.vf_grammar_read.proofs.ghost_items.ItemsFull.{item_full}
use Rattle.vf_grammar_stops.specs.types.Stops.{BeginsUpTo}
use Rattle.vf_grammar_stops.proofs.types.Local.{Does, then_like, done_like, stops_too}
use Rattle.vf_grammar_stops.proofs.terms.Stops.{apart}
use Rattle.vf_grammar_stops.proofs.commands.CommandsAlike.{command_like}
use Rattle.vf_grammar_stops.proofs.ghost_items.ClausesAlike.{claim_like, contract_like, invariant_like}
use Rattle.vf_grammar_stops.proofs.ghost_items.ItemsAlike.{item_like}
use Rattle.vf_part.specs.Laws.{EndsPart}

-- a tree that is made of what is read
made : {A : Type 0} (make : A → GhostTree) (p : Parser A) (ts rest : List Token) (a : A) → p ts ≡ ok a rest → as_tree make (p ts) ≡ ok (make a) rest
made make p ts rest a e = ap (λ (r : Read _). r >>= λ x. ok (make x.0) x.1) e

pub part_full : (d : ℕ) (x : GhostTree) (ts rest : List Token) → part x ts ≡ Some rest → part_nesting x ≤ d → EndsPart (kind_of x) rest → part_at (kind_of x) d ts ≡ ok x rest
unfolding part_at
part_full d (trees.Claim x) ts rest h le ends = made trees.Claim claim_at ts rest x (claim_full x ts rest h)
part_full d (trees.Contract x) ts rest h le ends = made trees.Contract (contract_at d) ts rest x (contract_full d x ts rest h le)
part_full d (trees.Invariant x) ts rest h le ends = made trees.Invariant (invariant_at d) ts rest x (invariant_full d x ts rest h le)
part_full d (trees.Item x) ts rest h le ends = made trees.Item (item_at d) ts rest x (item_full d x ts rest h le)
part_full d (trees.Command x) ts rest h le ends = made trees.Command (command_at d) ts rest x (command_full d x ts rest h le ends)

as_tree_like : {A : Type 0} (make : A → GhostTree) {p q : Parser A} → Does false p q → Does false (λ ts. as_tree make (p ts)) (λ ts. as_tree make (q ts))
as_tree_like make h = then_like h (λ a. done_like (make a))

pub part_like : (kind : GhostPart) (d m : ℕ) → d ≤ m → Does false (part_at kind d) (part_at kind m)
unfolding part_at
part_like parts.Claim d m le = as_tree_like trees.Claim claim_like
part_like parts.Contract d m le = as_tree_like trees.Contract (contract_like d m le)
part_like parts.Invariant d m le = as_tree_like trees.Invariant (invariant_like d m le)
part_like parts.Item d m le = as_tree_like trees.Item (item_like d m le)
part_like parts.Command d m le = as_tree_like trees.Command (command_like d m le)

pub parts_stop : (kind : GhostPart) (d : ℕ) (ts other rest : List Token) (n : ℕ) (x : GhostTree) → part_at kind d ts ≡ Err (Syntax n) → BeginsUpTo ts n other → kind_of x ≡ kind → part x other ≡ Some rest → EndsPart kind rest → ⊥
parts_stop kind d ts other rest n x e begins same h ends =
    let m = d + part_nesting x in
    let stop = stops_too {b = false} (part_like kind d m (omega arith)) (Syntax n) tt ts other e begins in
    let fits : EndsPart (kind_of x) rest = subst (λ k. EndsPart k rest) (sym same) ends in
    let read : part_at kind m other ≡ ok x rest = subst (λ k. part_at k m other ≡ ok x rest) same (part_full m x other rest h (omega arith) fits) in
    apart x rest stop.0 (sym read ∙ stop.1)
