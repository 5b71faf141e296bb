-- Worked examples of what expressions and statements become.
use Rattle.std.specs.Prelude.{◌≡◌, ℕ, true, false, [], ◌∷◌, codes, None}
use Rattle.vf_base.specs.declared.int_type.IntType.TheVariants as integers
use Rattle.vf_base.specs.declared.place.Place.{Place}
use Rattle.vf_core.specs.declared.words.Comparison.TheVariants as comparisons
use Rattle.vf_core.specs.declared.words.Operator.TheVariants as arithmetics
use Rattle.vf_declared.specs.declared.ctype.CType.TheVariants as types
use Rattle.vf_declared.specs.declared.locals.Local.TheVariants as locals
use Rattle.vf_declared.specs.declared.scope.Scope.{Scope}
use Rattle.vf_syntax.specs.declared.operator.AssignmentOperator.TheVariants as assignments
use Rattle.vf_syntax.specs.declared.operator.BinaryOperator.TheVariants as operators
use Rattle.vf_syntax.specs.declared.operator.Level.TheVariants as levels
use Rattle.vf_syntax.specs.declared.simple.Simple.TheVariants as simples
use Rattle.vf_syntax.specs.ExprTree.{ExprTree, no_link, more_link}
use Rattle.vf_syntax.specs.ExprTree as tree
use Rattle.vf_syntax.specs.StmtTree.{StmtTree}
use Rattle.vf_syntax.specs.StmtTree as statements
use Rattle.vf_steps.specs.Tree.{ActionTree, NodeTree}
use Rattle.vf_steps.specs.Tree as steps
use Rattle.vf_lower.specs.Settings.{Setting}
use Rattle.vf_lower.specs.Expressions.{value}
use Rattle.vf_lower.specs.Simple.{simple}
use Rattle.vf_lower.specs.Statements.{statement}

-- a column of the first line
abbrev pub column : ℕ → Place
column n = record { file = 0; line = 1; column = n }

-- a unit that declares nothing, in a body with `int i` and `bool b`
abbrev pub scope : Scope
scope = record {
  file = 0;
  headers = [];
  preludes = [];
  has_stdlib = true;
  has_arrays = true;
  locals = record { names = codes "i" ∷ codes "b" ∷ []; meanings = locals.Real (types.Integer integers.Int) ∷ locals.Real (types.Integer integers.Bool) ∷ [] };
  names = [];
  declarations = [];
  predicates = [];
  predicate_files = [];
  predicate_sorts = [];
  tags = [];
  structures = [];
  functions = [];
  sides = [];
  function_types = [];
  ghosts = [];
  ghost_sides = [];
  datatypes = [];
}

-- a statement there that begins at the first column
abbrev pub setting : Setting
setting = record { scope = scope; numbers = 0 ∷ 1 ∷ []; statement = column 1 }

-- `i`, `b` and a number at a column
abbrev pub i : ℕ → ExprTree
i n = tree.name_ (column n) (codes "i")

abbrev pub b : ℕ → ExprTree
b n = tree.name_ (column n) (codes "b")

abbrev pub number : ℕ → ℕ → ExprTree
number n z = tree.number (column n) z integers.Int

-- a node of the statement
abbrev pub node : ActionTree → NodeTree
node a = record { statement = column 1; action = a }

-- `i + 1`
abbrev pub sum : ExprTree
sum = tree.chain (column 1) levels.Additive (i 1) (more_link (tree.link (column 3) operators.Plus (number 5 1)) no_link)

-- `i < 1`
abbrev pub less : ExprTree
less = tree.chain (column 1) levels.Relational (i 1) (more_link (tree.link (column 3) operators.Less (number 5 1)) no_link)

-- `i && b`
abbrev pub and : ExprTree
and = tree.chain (column 1) levels.And (i 1) (more_link (tree.link (column 3) operators.And (b 6)) no_link)

-- `while (b) i = 1;`
abbrev pub loop : StmtTree
loop = statements.while_ (column 1) (b 8) None (statements.simple (column 11) (simples.Assignment (i 11) assignments.Becomes (column 13) (number 15 1)) (column 16))

-- texts on the left, with what they become from local 2 on
pub record WorkedExamples : Type 0 where
  -- `i + 1` does nothing
  pub sums : value setting sum 2 ≡ record { left = steps.arithmetic arithmetics.Add integers.Int (steps.read 0 (column 1)) (steps.number 1) (column 3); nodes = []; locals = [] }
  -- `i < 1` as a value sets a truth value
  pub comparisons_as_values : value setting less 2 ≡ record {
    left = steps.read 2 (column 1);
    nodes = node (steps.if_ comparisons.Less (steps.read 0 (column 1)) (steps.number 1) 0 2) ∷ node (steps.set 2 (steps.truth true)) ∷ node (steps.jump 1) ∷ node (steps.set 2 (steps.truth false)) ∷ [];
    locals = types.Integer integers.Bool ∷ [];
  }
  -- `i && b` looks at `b` only where `i` is not 0
  pub both_operands : value setting and 2 ≡ record {
    left = steps.read 2 (column 1);
    nodes = node (steps.if_ comparisons.NotEqual (steps.read 0 (column 1)) (steps.number 0) 0 2) ∷ node (steps.set 2 (steps.read 1 (column 6))) ∷ node (steps.jump 1) ∷ node (steps.set 2 (steps.truth false)) ∷ [];
    locals = types.Integer integers.Bool ∷ [];
  }
  -- `i = b` converts to `int` by a test
  pub conversions : simple setting (simples.Assignment (i 1) assignments.Becomes (column 3) (b 5)) 2 ≡ record {
    left = tt;
    nodes = node (steps.if_ comparisons.NotEqual (steps.read 1 (column 5)) (steps.truth false) 0 2) ∷ node (steps.set 2 (steps.number 1)) ∷ node (steps.jump 1) ∷ node (steps.set 2 (steps.number 0)) ∷ node (steps.set 0 (steps.read 2 (column 5))) ∷ [];
    locals = types.Integer integers.Int ∷ [];
  }
  -- `i += b` is `i = i + b`
  pub changes : simple setting (simples.Assignment (i 1) assignments.PlusBecomes (column 3) (b 6)) 2 ≡ record {
    left = tt;
    nodes = node (steps.if_ comparisons.NotEqual (steps.read 1 (column 6)) (steps.truth false) 0 2) ∷ node (steps.set 2 (steps.number 1)) ∷ node (steps.jump 1) ∷ node (steps.set 2 (steps.number 0)) ∷ node (steps.set 0 (steps.arithmetic arithmetics.Add integers.Int (steps.read 0 (column 1)) (steps.read 2 (column 6)) (column 3))) ∷ [];
    locals = types.Integer integers.Int ∷ [];
  }
  -- `while (b) i = 1;` comes back to its test
  pub loops : (statement setting (types.Integer integers.Int) loop 2).nodes ≡
      node (steps.loop None 3 (column 16)) ∷ node (steps.if_ comparisons.NotEqual (steps.read 1 (column 8)) (steps.truth false) 0 2) ∷ (record { statement = column 11; action = steps.set 0 (steps.number 1) }) ∷ node (steps.back 2) ∷ node steps.exit ∷ []
