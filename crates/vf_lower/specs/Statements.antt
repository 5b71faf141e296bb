-- What statements become.
use Rattle.std.specs.Prelude.{ℕ, ◌+◌, Bool, if◌then◌else◌, List, [], ◌∷◌, ◌++◌, length, Option, Some, None, Result, Ok, Err}
use Rattle.vf_base.specs.declared.place.Place.{Place}
use Rattle.vf_base.specs.declared.refusal.Refusal.{Refusal}
use Rattle.vf_core.specs.declared.words.Comparison.TheVariants as comparisons
use Rattle.vf_declared.specs.declared.ctype.CType.{CType}
use Rattle.vf_declared.specs.declared.ctype.CType.TheVariants as types
use Rattle.vf_declared.specs.declared.locals.Local.TheVariants as locals
use Rattle.vf_declared.specs.Changes.{with_local}
use Rattle.vf_syntax.specs.declared.contract.Invariant.{Invariant}
use Rattle.vf_syntax.specs.declared.simple.First.{First}
use Rattle.vf_syntax.specs.declared.simple.First.TheVariants as firsts
use Rattle.vf_syntax.specs.declared.simple.Simple.{Simple}
use Rattle.vf_syntax.specs.declared.written.CType.{CType as WrittenType}
use Rattle.vf_syntax.specs.declared.written.Name.{Name}
use Rattle.vf_syntax.specs.ExprTree.{ExprTree}
use Rattle.vf_syntax.specs.StmtTree.{StmtTree, StmtTrees, no_stmt, more_stmt}
use Rattle.vf_syntax.specs.StmtTree as tree
use Rattle.vf_typing.specs.Names.{written_type}
use Rattle.vf_typing.specs.Types.{is_void}
use Rattle.vf_steps.specs.Tree.{NodeTree}
use Rattle.vf_steps.specs.Tree as steps
use Rattle.vf_lower.specs.Lowering.{Lowering, gives, ◌⨾◌, does, taken}
use Rattle.vf_lower.specs.Settings.{Setting}
use Rattle.vf_lower.specs.Branches.{Test, test, if_step, node, either}
use Rattle.vf_lower.specs.Expressions.{condition, value_as}
use Rattle.vf_lower.specs.Simple.{put_local, simple}

-- a setting in the statement at a place
abbrev pub at : Setting → Place → Setting
at c p = record c { statement = p }

-- the type that a written type is, and `void` where it is none
abbrev pub type_in : Result CType Refusal → CType
type_in (Ok t) = t
type_in (Err x) = types.Void

-- a setting with one more local, of a type and with a number among the locals of the body
abbrev pub with_variable : Setting → List ℕ → CType → ℕ → Setting
with_variable c x t k = record c { scope = record c.scope { locals = with_local c.scope.locals x (locals.Real t) }; numbers = c.numbers ++ k ∷ [] }

-- the first value of a local, in a setting in which it is visible
abbrev pub first_value : Setting → ℕ → CType → Option ExprTree → Lowering (Unit {0})
first_value c k t None = does c.statement (steps.unset k)
first_value c k t (Some e) = put_local c k t e

-- a declaration of a local of a type: the setting behind it
abbrev pub declared : Setting → List ℕ → CType → Option ExprTree → Lowering Setting
declared c x t e = taken t ⨾ λ k. first_value (with_variable c x t k) k t e ⨾ λ u. gives (with_variable c x t k)

-- a declaration as it is written
abbrev pub declaration : Setting → WrittenType → Name → Option ExprTree → Lowering Setting
declaration c w x e = declared c x.text (type_in (written_type c.scope w)) e

-- in the statement at a place one part where a test holds
unfoldable pub when : {A : Type 0} → Place → Test → Lowering A → Lowering (Unit {0})
when p x m n =
    let first = m n in
    record { left = tt; nodes = node p (if_step x (length first.nodes)) ∷ first.nodes; locals = first.locals }

-- a loop at a place, whose body ends with a token: as long as its test holds the body is done, and the test again
unfoldable pub looped : {A : Type 0} → Place → Option Invariant → Place → Lowering Test → Lowering A → Lowering (Unit {0})
looped p i last test body n =
    let first = test n in
    let second = body (n + length first.locals) in
    let inside = first.nodes ++ node p (if_step first.left (length second.nodes + 1)) ∷ second.nodes in
    record {
      left = tt;
      nodes = node p (steps.loop i (length inside + 1) last) ∷ inside ++ node p (steps.back (length inside)) ∷ node p steps.exit ∷ [];
      locals = first.locals ++ second.locals;
    }

-- the test of a `for`: without one it always holds (C11 6.8.5.3)
abbrev pub loop_test : Setting → Option ExprTree → Lowering Test
loop_test c None = gives (test comparisons.NotEqual (steps.number 1) (steps.number 0))
loop_test c (Some e) = condition c e

-- an assignment or a call that may be absent
abbrev pub optional_simple : Setting → Option Simple → Lowering (Unit {0})
optional_simple c None = gives tt
optional_simple c (Some x) = simple c x

-- what stands first in a `for`: the setting behind it
abbrev pub first_part : Setting → Option First → Lowering Setting
first_part c None = gives c
first_part c (Some (firsts.Declaration w x e)) = declaration c w x (Some e)
first_part c (Some (firsts.Simple x)) = simple c x ⨾ λ u. gives c

-- `return` in a function that gives a type
abbrev pub returned : Setting → CType → Option ExprTree → Lowering (Unit {0})
returned c r None = does c.statement (steps.return_ None)
returned c r (Some e) = value_as c r e ⨾ λ v. does c.statement (steps.return_ (Some v))

-- the place of the last token of a statement; that of a ghost command, which is no body of a loop, is its first
abbrev pub last_of : StmtTree → Place
last_of (tree.declaration p w x e last) = last
last_of (tree.simple p x last) = last
last_of (tree.if_ p e a) = last_of a
last_of (tree.if_else p e a b) = last_of b
last_of (tree.while_ p e i a) = last_of a
last_of (tree.for_ p f e x i a) = last_of a
last_of (tree.return_ p e last) = last
last_of (tree.block p xs last) = last
last_of (tree.empty_ p) = p
last_of (tree.ghost p g) = p

abbrev mutual
  -- a statement in a function that gives a type: the setting behind it
  pub statement : Setting → CType → StmtTree → Lowering Setting
  statement c r (tree.declaration p w x e last) = declaration (at c p) w x e
  statement c r (tree.simple p x last) = simple (at c p) x ⨾ λ u. gives c
  statement c r (tree.if_ p e a) = condition (at c p) e ⨾ λ x. when p x (statement c r a) ⨾ λ u. gives c
  statement c r (tree.if_else p e a b) = condition (at c p) e ⨾ λ x. either p x (statement c r a) (statement c r b) ⨾ λ u. gives c
  statement c r (tree.while_ p e i a) = looped p i (last_of a) (condition (at c p) e) (statement c r a) ⨾ λ u. gives c
  statement c r (tree.for_ p f e x i a) = first_part (at c p) f ⨾ λ d. looped p i (last_of a) (loop_test d e) (statement d r a ⨾ λ u. optional_simple d x) ⨾ λ u. gives c
  statement c r (tree.return_ p e last) = returned (at c p) r e ⨾ λ u. gives c
  statement c r (tree.block p xs last) = statements c r xs ⨾ λ d. gives c
  statement c r (tree.empty_ p) = gives c
  statement c r (tree.ghost p g) = does p (steps.ghost g) ⨾ λ u. gives c

  -- statements in order
  pub statements : Setting → CType → StmtTrees → Lowering Setting
  statements c r no_stmt = gives c
  statements c r (more_stmt x xs) = statement c r x ⨾ λ d. statements d r xs

-- the end of a body at its closing brace: a function that gives nothing returns, and main gives 0 (C11 5.1.2.2.3); the end of another may not be reached
abbrev pub ended : CType → Bool → Place → Lowering (Unit {0})
ended r is_main last = if is_void r then does last (steps.return_ None) else (if is_main then does last (steps.return_ (Some (steps.number 0))) else does last steps.no_return)

-- the body of a function that gives a type, which is or is not main
abbrev pub body : Setting → CType → Bool → StmtTrees → Place → Lowering (Unit {0})
body c r is_main xs last = statements c r xs ⨾ λ d. ended r is_main last
