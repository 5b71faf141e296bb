-- What is left of a unit without its annotations.
use Rattle.std.specs.Prelude.{if◌then◌else◌, List, Option, Some, None, filter_map}
use Rattle.vf_syntax.specs.declared.item.Body.{Body}
use Rattle.vf_syntax.specs.declared.item.Item.{Item}
use Rattle.vf_syntax.specs.declared.item.Item.TheVariants as items
use Rattle.vf_syntax.specs.declared.item.Unit.{Unit as FileUnit}
use Rattle.vf_syntax.specs.StmtTree.{StmtTree, StmtTrees, no_stmt, more_stmt}
use Rattle.vf_syntax.specs.StmtTree as tree
use Rattle.vf_syntax.specs.Statements.{is_command}

abbrev mutual
  -- a statement without the annotations in it. A ghost command becomes an empty statement; but by the grammar none is a branch or the body of a loop, and lists leave them out
  pub stripped_stmt : StmtTree → StmtTree
  stripped_stmt (tree.declaration p t n e last) = tree.declaration p t n e last
  stripped_stmt (tree.simple p s last) = tree.simple p s last
  stripped_stmt (tree.if_ p c a) = tree.if_ p c (stripped_stmt a)
  stripped_stmt (tree.if_else p c a b) = tree.if_else p c (stripped_stmt a) (stripped_stmt b)
  stripped_stmt (tree.while_ p c i body) = tree.while_ p c None (stripped_stmt body)
  stripped_stmt (tree.for_ p f c s i body) = tree.for_ p f c s None (stripped_stmt body)
  stripped_stmt (tree.return_ p e last) = tree.return_ p e last
  stripped_stmt (tree.block p xs last) = tree.block p (stripped_stmts xs) last
  stripped_stmt (tree.empty_ p) = tree.empty_ p
  stripped_stmt (tree.ghost p c) = tree.empty_ p

  -- statements without the ghost commands between them, and without the annotations in them
  pub stripped_stmts : StmtTrees → StmtTrees
  stripped_stmts no_stmt = no_stmt
  stripped_stmts (more_stmt x xs) = if is_command x then stripped_stmts xs else more_stmt (stripped_stmt x) (stripped_stmts xs)

-- a statement without the annotations in it, or nothing of a ghost command
abbrev pub stripped_part : StmtTree → Option StmtTree
stripped_part x = if is_command x then None else Some (stripped_stmt x)

-- the body of a function without the annotations in it
abbrev pub stripped_body : Body → Body
stripped_body b = record { place = b.place; statements = filter_map stripped_part b.statements; last = b.last }

-- an item without its claim, its contract and the annotations in its body, or nothing of a ghost item
abbrev pub stripped_item : Item → Option Item
stripped_item (items.Opaque p tag) = Some (items.Opaque p tag)
stripped_item (items.Struct p tag fields) = Some (items.Struct p tag fields)
stripped_item (items.FunctionType p s c) = Some (items.FunctionType p s None)
stripped_item (items.Prototype s k c) = Some (items.Prototype s None None)
stripped_item (items.Function s k c b) = Some (items.Function s None None (stripped_body b))
stripped_item (items.Ghost x) = None

-- items without the ghost items between them, and without the annotations in them
abbrev pub stripped_items : List Item → List Item
stripped_items xs = filter_map stripped_item xs

-- a unit without its annotations: the same headers
abbrev pub stripped : FileUnit → FileUnit
stripped u = record { items = stripped_items u.items; headers = u.headers }
