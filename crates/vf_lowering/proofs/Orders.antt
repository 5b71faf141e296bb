-- The order of operands does not hang on annotations.
use Rattle.std.proofs.Common.{◌≡◌, Bool, true, false, if◌then◌else◌, [], ◌∷◌, None, refl, sym, ap, ◌∙◌}
use Rattle.std.specs.Option.{option_or}
use Rattle.vf_syntax.specs.declared.item.Item.TheVariants as items
use Rattle.vf_syntax.specs.StmtTree.{StmtTree, StmtTrees, no_stmt, more_stmt, stmt_list}
use Rattle.vf_syntax.specs.StmtTree as tree
use Rattle.vf_syntax.specs.Statements.{is_command}
use Rattle.vf_order.specs.Order.{unordered}
use Rattle.vf_order.specs.Statements.{if_there, unordered_first, unordered_simple, unordered_stmt, unordered_stmts}
use Rattle.vf_erasure_laws.specs.plain.Stripped.{stripped_stmt, stripped_stmts}
use Rattle.vf_erasure_laws.proofs.plain.UnitsKept.{parts_same}
use Rattle.vf_lowering.specs.Orders.{OrdersArePlain}

-- a ghost command has no operands of real text
command_has_none : (x : StmtTree) → is_command x ≡ true → unordered_stmt x ≡ None
command_has_none (tree.declaration p w x e last) h = absurd cc
command_has_none (tree.simple p s last) h = absurd cc
command_has_none (tree.if_ p c a) h = absurd cc
command_has_none (tree.if_else p c a b) h = absurd cc
command_has_none (tree.while_ p c i a) h = absurd cc
command_has_none (tree.for_ p f c s i a) h = absurd cc
command_has_none (tree.return_ p e last) h = absurd cc
command_has_none (tree.block p xs last) h = absurd cc
command_has_none (tree.empty_ p) h = absurd cc
command_has_none (tree.ghost p c) h = refl

-- a statement in front of others
in_front : (x : StmtTree) (xs : StmtTrees) (b : Bool) → is_command x ≡ b → unordered_stmt (stripped_stmt x) ≡ unordered_stmt x → unordered_stmts (stripped_stmts xs) ≡ unordered_stmts xs → unordered_stmts (if b then stripped_stmts xs else more_stmt (stripped_stmt x) (stripped_stmts xs)) ≡ option_or (unordered_stmt x) (unordered_stmts xs)
in_front x xs true h one rest = rest ∙ ap (λ r. option_or r (unordered_stmts xs)) (sym (command_has_none x h))
in_front x xs false h one rest = λ i. option_or (one i) (rest i)

mutual
  -- a statement
  stmt_same : (x : StmtTree) → unordered_stmt (stripped_stmt x) ≡ unordered_stmt x
  stmt_same (tree.declaration p w x e last) = refl
  stmt_same (tree.simple p s last) = refl
  stmt_same (tree.if_ p c a) = ap (option_or (unordered c)) (stmt_same a)
  stmt_same (tree.if_else p c a b) = λ i. option_or (unordered c) (option_or (stmt_same a i) (stmt_same b i))
  stmt_same (tree.while_ p c i a) = ap (option_or (unordered c)) (stmt_same a)
  stmt_same (tree.for_ p f c s i a) = ap (λ r. option_or (if_there unordered_first f) (option_or (if_there unordered c) (option_or r (if_there unordered_simple s)))) (stmt_same a)
  stmt_same (tree.return_ p e last) = refl
  stmt_same (tree.block p xs last) = stmts_same xs
  stmt_same (tree.empty_ p) = refl
  stmt_same (tree.ghost p c) = refl

  -- statements
  stmts_same : (xs : StmtTrees) → unordered_stmts (stripped_stmts xs) ≡ unordered_stmts xs
  stmts_same no_stmt = refl
  stmts_same (more_stmt x xs) = in_front x xs (is_command x) refl (stmt_same x) (stmts_same xs)

-- items
pub orders_are_plain : OrdersArePlain
orders_are_plain [] = refl
orders_are_plain (items.Opaque p n ∷ xs) = orders_are_plain xs
orders_are_plain (items.Struct p n fs ∷ xs) = orders_are_plain xs
orders_are_plain (items.FunctionType p g c ∷ xs) = orders_are_plain xs
orders_are_plain (items.Prototype g k c ∷ xs) = orders_are_plain xs
orders_are_plain (items.Function g k c b ∷ xs) = λ i. option_or ((ap unordered_stmts (parts_same b.statements) ∙ stmts_same (stmt_list b.statements)) i) (orders_are_plain xs i)
orders_are_plain (items.Ghost g ∷ xs) = orders_are_plain xs
