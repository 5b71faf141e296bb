-- Which numbers the locals that a body declares have among all locals of its core.
use Rattle.std.specs.Prelude.{ℕ, ◌+◌, List, [], ◌∷◌, ◌++◌, length, Option, Some, None}
use Rattle.vf_base.specs.declared.place.Place.{Place}
use Rattle.vf_declared.specs.declared.ctype.CType.{CType}
use Rattle.vf_declared.specs.declared.scope.Scope.{Scope}
use Rattle.vf_syntax.specs.declared.item.Body.{Body}
use Rattle.vf_syntax.specs.declared.item.Signature.{Signature as WrittenSignature}
use Rattle.vf_syntax.specs.declared.item.Typed.{Typed}
use Rattle.vf_syntax.specs.declared.simple.First.{First}
use Rattle.vf_syntax.specs.declared.simple.First.TheVariants as firsts
use Rattle.vf_syntax.specs.declared.simple.Simple.{Simple}
use Rattle.vf_syntax.specs.ExprTree.{ExprTree}
use Rattle.vf_syntax.specs.StmtTree.{StmtTree, StmtTrees, no_stmt, more_stmt, stmt_list}
use Rattle.vf_syntax.specs.StmtTree as tree
use Rattle.vf_walk.specs.Items.{listed}
use Rattle.vf_lower.specs.Lowering.{Lowering}
use Rattle.vf_lower.specs.Settings.{Setting}
use Rattle.vf_lower.specs.Expressions.{condition}
use Rattle.vf_lower.specs.Statements.{at, first_part, loop_test, optional_simple, statement}
use Rattle.vf_functions.specs.Definitions.{given, outside, parameter}
use Rattle.vf_bodies.specs.Standing.{standing_of}
use Rattle.vf_local_numbers.specs.declared.counting.Counting as code

-- Where lowering stands; the number that the next local gets; and the numbers of the locals that were declared so far, in the order of the text
pub record Counting : Type 0 where
  pub setting : Setting
  pub next : ℕ
  pub declared : List ℕ

-- the same as the code has it
abbrev pub counting_of : code.Counting → Counting
counting_of x = record { setting = standing_of x.around; next = length x.draft.locals; declared = x.declared }

-- a part takes its locals, behind which lowering stands where a setting says
abbrev pub taking : {A : Type 0} → (A → Setting) → Lowering A → Counting → Counting
taking f m s = record { setting = f (m s.next).left; next = s.next + length (m s.next).locals; declared = s.declared }

-- a part takes its locals, and lowering stands where it stood
abbrev pub passing : {A : Type 0} → Lowering A → Counting → Counting
passing m s = taking (λ a. s.setting) m s

-- the number that the next local gets is that of one that is declared
abbrev pub noting : Counting → Counting
noting s = record { setting = s.setting; next = s.next; declared = s.declared ++ s.next ∷ [] }

-- the next local is declared, and more is taken for it
abbrev pub declaring : Lowering Setting → Counting → Counting
declaring m s = taking (λ c. c) m (noting s)

-- a part behind which lowering stands where it stood in front of it
abbrev pub inner : (Counting → Counting) → Counting → Counting
inner f s = record { setting = s.setting; next = (f s).next; declared = (f s).declared }

-- the number of the next local is that of one that is declared, where the first part of a `for` declares one
abbrev pub noted : Option First → Counting → Counting
noted (Some (firsts.Declaration w x e)) s = noting s
noted f s = s

-- what stands first in a `for` at a place
abbrev pub first_counted : Place → Option First → Counting → Counting
first_counted p f s = taking (λ c. c) (first_part (at s.setting p) f) (noted f s)

-- the test and the step of a `for`
abbrev pub test_counted : Option ExprTree → Counting → Counting
test_counted e s = passing (loop_test s.setting e) s

abbrev pub step_counted : Option Simple → Counting → Counting
step_counted x s = passing (optional_simple s.setting x) s

-- a `for` at a place: its first part, its test, its body and its step
abbrev pub for_counted : (Counting → Counting) → Place → Option First → Option ExprTree → Option Simple → Counting → Counting
for_counted f p i e x s = step_counted x (inner f (test_counted e (first_counted p i s)))

-- a test at a place
abbrev pub condition_counted : Place → ExprTree → Counting → Counting
condition_counted p e s = passing (condition (at s.setting p) e) s

-- a statement that holds no other
abbrev pub whole_counted : CType → StmtTree → Counting → Counting
whole_counted r x s = taking (λ c. c) (statement s.setting r x) s

abbrev mutual
  -- a statement in a function that gives a type
  pub counted : CType → StmtTree → Counting → Counting
  counted r (tree.declaration p w x e last) s = declaring (statement s.setting r (tree.declaration p w x e last)) s
  counted r (tree.simple p x last) s = whole_counted r (tree.simple p x last) s
  counted r (tree.if_ p e a) s = inner (counted r a) (condition_counted p e s)
  counted r (tree.if_else p e a b) s = inner (counted r b) (inner (counted r a) (condition_counted p e s))
  counted r (tree.while_ p e i a) s = inner (counted r a) (condition_counted p e s)
  counted r (tree.for_ p f e x i a) s = inner (for_counted (counted r a) p f e x) s
  counted r (tree.return_ p e last) s = whole_counted r (tree.return_ p e last) s
  counted r (tree.block p xs last) s = inner (counted_all r xs) s
  counted r (tree.empty_ p) s = s
  counted r (tree.ghost p g) s = s

  -- statements in order
  pub counted_all : CType → StmtTrees → Counting → Counting
  counted_all r no_stmt s = s
  counted_all r (more_stmt x xs) s = counted_all r xs (counted r x s)

-- parameters are declared one after another
abbrev pub parameters_counted : List Typed → Counting → Counting
parameters_counted [] s = s
parameters_counted (x ∷ xs) s = parameters_counted xs (declaring (parameter s.setting x) s)

-- nothing is counted yet
abbrev pub uncounted : Setting → Counting
uncounted c = record { setting = c; next = 0; declared = [] }

-- a function with its body, where so much is counted
abbrev pub whole_function : WrittenSignature → Body → Counting → Counting
whole_function g b s = counted_all (given s.setting.scope g.«result») (stmt_list b.statements) (parameters_counted (listed g.parameters) s)

-- what is counted of a function with its body, where these things are declared
abbrev pub function_counted : Scope → WrittenSignature → Body → Counting
function_counted s g b = whole_function g b (uncounted (outside s g.name.place))
