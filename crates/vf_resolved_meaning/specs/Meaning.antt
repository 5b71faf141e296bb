-- The assertions that resolved ones mean.
use Rattle.std.specs.Prelude.{ℕ, zero, suc, ◌/◌, nat_le, if◌then◌else◌, List, [], ◌∷◌, ◌++◌, map, Option, Some, None}
use Rattle.vf_core.specs.Shown.{comparison_of}
use Rattle.vf_tree.specs.Core.{Field}
use Rattle.vf_model.specs.Values.{Dyadic}
use Rattle.vf_meaning.specs.Fractions.{half, product, reduced, whole}
use Rattle.vf_meaning.specs.Ghost.{Name, Numbered, Result, GhostExpression, GhostExpressions, no_expressions, and_expression, PredicateValue, Compare, Not, And, Or}
use Rattle.vf_meaning.specs.Ghost as ghosts
use Rattle.vf_meaning.specs.Assertions.{ShareTree, Times, Taken, PatternTree, Is, Names, Wild, BlockOf, Named, Family, Applied, Assertion, Pure, Empty, Both, Switch, Cell, Chunk, Branches, no_branches}
use Rattle.vf_meaning.specs.Assertions as assertions
use Rattle.vf_closure.specs.Terms.{Symbol, Term, term}
use Rattle.vf_entailment.specs.Meant.{meant}
use Rattle.vf_resolved.specs.TruthTree.{TruthTree, value, comparison, not_, and_, or_, choice}
use Rattle.vf_resolved.specs.AssertionTree.{PartTree, PartTrees, no_part, more_part, BranchTree, BranchTrees, no_branch, more_branch, branch}
use Rattle.vf_resolved.specs.AssertionTree as tree
use Rattle.vf_resolved.specs.declared.head.CellField.{CellField}
use Rattle.vf_resolved.specs.declared.head.Head.{Head}
use Rattle.vf_resolved.specs.declared.head.Head.TheVariants as heads
use Rattle.vf_resolved.specs.declared.pattern.Argument.{Argument}
use Rattle.vf_resolved.specs.declared.pattern.Factor.{Factor}
use Rattle.vf_resolved.specs.declared.pattern.Factor.TheVariants as factors
use Rattle.vf_resolved.specs.declared.pattern.Pattern.{Pattern}
use Rattle.vf_resolved.specs.declared.pattern.Pattern.TheVariants as patterns
use Rattle.vf_resolved.specs.declared.pattern.Share.{Share}
use Rattle.vf_resolved.specs.declared.pattern.Share.TheVariants as shares
use Rattle.vf_resolved.specs.declared.pattern.Slot.{Slot}

-- the expression that a truth value means
abbrev pub truth_meant : TruthTree → GhostExpression
truth_meant (value t) = meant t
truth_meant (comparison c both x y) = Compare (comparison_of c) (truth_meant x) (truth_meant y)
truth_meant (not_ x) = Not (truth_meant x)
truth_meant (and_ x y) = And (truth_meant x) (truth_meant y)
truth_meant (or_ x y) = Or (truth_meant x) (truth_meant y)
truth_meant (choice c x y) = ghosts.Choose (truth_meant c) (truth_meant x) (truth_meant y)

-- a name by its number
abbrev pub name_of : Slot → Name
name_of x = Numbered x.number

-- the name that a term is; where it is none, `result`, which stands for no fraction
abbrev pub name_in : Term → Name
name_in (term (Symbol k x) ts) = x
name_in t = Result

-- a fraction halved as often as a number can be, at most so many times
abbrev pub halved : ℕ → ℕ → Dyadic → Dyadic
halved zero n d = d
halved (suc times) n d = if nat_le n 1 then d else halved times (n / 2) (half d)

-- the fraction that a factor is: a number, a part of as many as a power of two says, or, for a name, all
abbrev pub fraction_meant : Factor → Dyadic
fraction_meant (factors.Times n) = reduced n 0
fraction_meant (factors.Over n) = halved 64 n whole
fraction_meant (factors.Named t) = whole

-- the names that a factor has
abbrev pub names_meant : Factor → List Name
names_meant (factors.Named t) = name_in t ∷ []
names_meant f = []

-- the product of factors without their names, and all their names
abbrev pub fractions_meant : List Factor → Dyadic
fractions_meant [] = whole
fractions_meant (f ∷ fs) = product (fraction_meant f) (fractions_meant fs)

abbrev pub all_names_meant : List Factor → List Name
all_names_meant [] = []
all_names_meant (f ∷ fs) = names_meant f ++ all_names_meant fs

-- the share that is meant: all, where none is written
abbrev pub share_meant : Option Share → ShareTree
share_meant None = Times whole []
share_meant (Some (shares.Binds x)) = Taken (name_of x)
share_meant (Some (shares.Product fs)) = Times (fractions_meant fs) (all_names_meant fs)

-- what a pattern asks
abbrev pub pattern_meant : Pattern → PatternTree
pattern_meant (patterns.Is x) = Is (meant x.term)
pattern_meant (patterns.Binds x) = Names (name_of x)
pattern_meant (patterns.Wild k) = Wild

-- values in a row
abbrev pub arguments_meant : List Argument → GhostExpressions
arguments_meant [] = no_expressions
arguments_meant (x ∷ xs) = and_expression (meant x.term) (arguments_meant xs)

-- what a chunk is of
abbrev pub head_meant : Head → assertions.Head
head_meant (heads.Block g) = BlockOf g
head_meant (heads.Predicate q) = Named q
head_meant (heads.Family q x) = Family q (meant x.term)
head_meant (heads.Constructor q xs) = Applied (PredicateValue q (arguments_meant xs))
head_meant (heads.Value t) = Applied (meant t)

-- the field that a cell is of
abbrev pub field_meant : CellField → Field
field_meant f = record { structure = f.structure; index = f.index }

-- an assertion in front of parts that mean another: `&*&` joins both, where there are parts
abbrev pub joined : Assertion → PartTrees → Assertion → Assertion
joined a no_part b = a
joined a (more_part x xs) b = Both a b

abbrev mutual
  -- the assertion that a part means
  pub part_meant : PartTree → Assertion
  part_meant (tree.pure p x) = Pure (truth_meant x)
  part_meant (tree.empty_ p) = Empty
  part_meant (tree.group p xs) = parts_meant xs
  part_meant (tree.conditional p c xs ys) = assertions.Choose (truth_meant c) (parts_meant xs) (parts_meant ys)
  part_meant (tree.switch_ p t bs) = Switch (meant t) (branches_meant bs)
  part_meant (tree.cell p s t f x) = Cell (share_meant s) (meant t) (field_meant f) (pattern_meant x)
  part_meant (tree.chunk p s h xs) = Chunk (share_meant s) (head_meant h) (map pattern_meant xs)

  -- the same of parts, each of which `&*&` joins to all that follow; a single part means what it means alone
  pub parts_meant : PartTrees → Assertion
  parts_meant no_part = Empty
  parts_meant (more_part x xs) = joined (part_meant x) xs (parts_meant xs)

  -- the branches of a `switch`
  pub branches_meant : BranchTrees → Branches
  branches_meant no_branch = no_branches
  branches_meant (more_branch b bs) = branch_meant b (branches_meant bs)

  -- a branch in front of others
  pub branch_meant : BranchTree → Branches → Branches
  branch_meant (branch p c n xs a) bs = assertions.branch c (map name_of xs) (parts_meant a) bs
