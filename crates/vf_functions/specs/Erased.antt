-- A function in steps without its annotations.
use Rattle.std.specs.Prelude.{ℕ, suc, ◌-◌, Bool, true, false, if◌then◌else◌, List, [], ◌∷◌, ◌++◌, length, take, drop, Option, Some, None}
use Rattle.vf_base.specs.declared.place.Place.{Place}
use Rattle.vf_declared.specs.declared.ctype.CType.{CType}
use Rattle.vf_syntax.specs.declared.written.Name.{Name}
use Rattle.vf_steps.specs.Tree.{ActionTree, NodeTree}
use Rattle.vf_steps.specs.Tree as tree
use Rattle.vf_functions.specs.Definitions.{CoreTree}

-- a node is kept: all are but ghost commands, declarations without a value, and the heads and ends of loops, which do nothing when the program runs
abbrev pub is_kept : ActionTree → Bool
is_kept (tree.unset x) = false
is_kept (tree.ghost g) = false
is_kept (tree.loop i n p) = false
is_kept tree.exit = false
is_kept a = true

-- how many of some nodes are kept
abbrev pub count_kept : List NodeTree → ℕ
count_kept [] = 0
count_kept (n ∷ ns) = if is_kept n.action then suc (count_kept ns) else count_kept ns

-- how many nodes are skipped where so many of the nodes behind were
abbrev pub skipped : ℕ → List NodeTree → ℕ
skipped k behind = count_kept (take k behind)

-- over how many nodes the way back goes where it went over so many of the nodes before
abbrev pub gone_back : ℕ → List NodeTree → ℕ
gone_back k before = count_kept (drop (length before - k) before)

-- what a node does between the nodes before and those behind it: it skips and goes back over those alone that are kept
abbrev pub shortened : List NodeTree → ActionTree → List NodeTree → ActionTree
shortened before (tree.if_ c v w so otherwise) behind = tree.if_ c v w (skipped so behind) (skipped otherwise behind)
shortened before (tree.jump k) behind = tree.jump (skipped k behind)
shortened before (tree.back k) behind = tree.back (gone_back k before)
shortened before a behind = a

-- what a node does between others, if it is kept
abbrev pub kept_action : List NodeTree → ActionTree → List NodeTree → Option ActionTree
kept_action before a behind = if is_kept a then Some (shortened before a behind) else None

-- a node that does what is kept of another, if anything is
abbrev pub kept_node : NodeTree → Option ActionTree → List NodeTree
kept_node n None = []
kept_node n (Some a) = (record n { action = a }) ∷ []

-- a node between others, if it is kept
abbrev pub erased_node : List NodeTree → NodeTree → List NodeTree → List NodeTree
erased_node before n behind = kept_node n (kept_action before n.action behind)

-- nodes that are kept, behind some others
abbrev pub erased_behind : List NodeTree → List NodeTree → List NodeTree
erased_behind before [] = []
erased_behind before (n ∷ ns) = erased_node before n ns ++ erased_behind (before ++ n ∷ []) ns

-- the nodes of a body without its annotations
abbrev pub erased : List NodeTree → List NodeTree
erased ns = erased_behind [] ns

-- a function in steps without its annotations: its name, the types of its locals, its nodes, and the place of the closing brace
pub record PlainTree : Type 0 where
  pub name : Name
  pub locals : List CType
  pub nodes : List NodeTree
  pub closing : Place

-- a function in steps loses its annotations
abbrev pub erased_core : CoreTree → PlainTree
erased_core f = record { name = f.name; locals = f.locals; nodes = erased f.nodes; closing = f.closing }
