-- Without annotations nothing nests deeper.
use Rattle.std.proofs.Common.{ℕ, ◌+◌, ◌≤◌, max, Bool, true, false, List, [], ◌∷◌, arith}
use Rattle.std.specs.Prelude.{if◌then◌else◌}
use Rattle.std.specs.List.{cons_option}
use Rattle.vf_syntax.specs.StmtTree.{StmtTree, StmtTrees, no_stmt, more_stmt, stmt_list}
use Rattle.vf_syntax.specs.StmtTree as tree
use Rattle.vf_syntax.specs.declared.item.Item.{Item}
use Rattle.vf_syntax.specs.declared.item.Item.TheVariants as items
use Rattle.vf_syntax.specs.declared.item.Unit.{Unit as FileUnit}
use Rattle.vf_syntax.specs.Lists.{greatest}
use Rattle.vf_syntax.specs.Statements.{is_command, stmt_nesting, stmts_nesting}
use Rattle.vf_syntax.specs.Units.{item_nesting, unit_nesting}
use Rattle.vf_erasure_laws.specs.plain.Stripped.{stripped_stmt, stripped_stmts, stripped_item, stripped_items, stripped}
use Rattle.vf_erasure_laws.proofs.plain.UnitsKept.{parts_same}

-- a statement is left out, or nests no deeper
listed : (x : StmtTree) (xs : StmtTrees) → stmt_nesting (stripped_stmt x) ≤ stmt_nesting x → stmts_nesting (stripped_stmts xs) ≤ stmts_nesting xs → stmts_nesting (stripped_stmts (more_stmt x xs)) ≤ stmts_nesting (more_stmt x xs)
listed x xs one all = by_test (is_command x)
  where
    by_test : (b : Bool) → stmts_nesting (if b then stripped_stmts xs else more_stmt (stripped_stmt x) (stripped_stmts xs)) ≤ max (stmt_nesting x + 1) (stmts_nesting xs)
    by_test true = omega (arith, all)
    by_test false = omega (arith, one, all)

mutual
  stmt_nests : (x : StmtTree) → stmt_nesting (stripped_stmt x) ≤ stmt_nesting x
  stmt_nests (tree.declaration p t n e last) = omega arith
  stmt_nests (tree.simple p s last) = omega arith
  stmt_nests (tree.if_ p c a) = omega (arith, stmt_nests a)
  stmt_nests (tree.if_else p c a b) = omega (arith, stmt_nests a, stmt_nests b)
  stmt_nests (tree.while_ p c i body) = omega (arith, stmt_nests body)
  stmt_nests (tree.for_ p f c s i body) = omega (arith, stmt_nests body)
  stmt_nests (tree.return_ p e last) = omega arith
  stmt_nests (tree.block p xs last) = stmts_nest xs
  stmt_nests (tree.empty_ p) = omega arith
  stmt_nests (tree.ghost p c) = omega arith

  stmts_nest : (xs : StmtTrees) → stmts_nesting (stripped_stmts xs) ≤ stmts_nesting xs
  stmts_nest no_stmt = omega arith
  stmts_nest (more_stmt x xs) = listed x xs (stmt_nests x) (stmts_nest xs)

item_nests : (x : Item) (xs : List Item) (n : ℕ) → greatest item_nesting xs ≤ n → greatest item_nesting (cons_option (stripped_item x) xs) ≤ max (item_nesting x) n
item_nests (items.Opaque p tag) xs n h = omega (arith, h)
item_nests (items.Struct p tag fs) xs n h = omega (arith, h)
item_nests (items.FunctionType p s c) xs n h = omega (arith, h)
item_nests (items.Prototype s q c) xs n h = omega (arith, h)
item_nests (items.Function s q c b) xs n h = rw (parts_same b.statements) (omega (arith, h, stmts_nest (stmt_list b.statements)))
item_nests (items.Ghost x) xs n h = omega (arith, h)

items_nest : (xs : List Item) → greatest item_nesting (stripped_items xs) ≤ greatest item_nesting xs
items_nest [] = omega arith
items_nest (x ∷ xs) = item_nests x (stripped_items xs) (greatest item_nesting xs) (items_nest xs)

pub unit_nests : (u : FileUnit) → unit_nesting (stripped u) ≤ unit_nesting u
unit_nests u = items_nest u.items
