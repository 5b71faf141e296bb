-- What is declared behind statements, or their first refusal in the order of the text.
use Rattle.std.specs.Prelude.{ℕ, if◌then◌else◌, length, is_some, Option, Some, None, Result, Ok, Err}
use Rattle.vf_base.specs.declared.place.Place.{Place}
use Rattle.vf_base.specs.declared.refusal.Refusal.{Refusal}
use Rattle.vf_base.specs.declared.rule.Rule.TheVariants as rules
use Rattle.vf_names.specs.Names.{number_of}
use Rattle.vf_declared.specs.declared.ctype.CType.{CType}
use Rattle.vf_declared.specs.declared.locals.Local.TheVariants as locals
use Rattle.vf_declared.specs.declared.scope.Scope.{Scope}
use Rattle.vf_declared.specs.Changes.{first_locals, with_local, without_local}
use Rattle.vf_syntax.specs.declared.contract.Invariant.{Invariant}
use Rattle.vf_syntax.specs.declared.simple.First.{First}
use Rattle.vf_syntax.specs.declared.simple.First.TheVariants as firsts
use Rattle.vf_syntax.specs.declared.simple.Simple.{Simple}
use Rattle.vf_syntax.specs.declared.written.CType.{CType as WrittenType}
use Rattle.vf_syntax.specs.declared.written.Name.{Name}
use Rattle.vf_syntax.specs.ExprTree.{ExprTree}
use Rattle.vf_syntax.specs.StmtTree.{StmtTree, StmtTrees, no_stmt, more_stmt}
use Rattle.vf_syntax.specs.StmtTree as tree
use Rattle.vf_typing.specs.declared.operand.Operand.{Operand}
use Rattle.vf_typing.specs.Names.{written_type}
use Rattle.vf_typing.specs.Operands.{assigned_refusal}
use Rattle.vf_typing.specs.Refusals.{refused}
use Rattle.vf_typing.specs.Simple.{refused_condition, refused_simple}
use Rattle.vf_typing.specs.Typed.{typed}
use Rattle.vf_typing.specs.Types.{is_void}
use Rattle.vf_walk.specs.Meanings.{Meanings}
use Rattle.vf_walk.specs.Walking.{Walked, behind, Only, optional, Optional, Then, unless}

-- one more local of C, unless a visible local has its name
abbrev pub with_variable : Name → CType → Scope → Walked
with_variable n t s = if is_some (number_of s.locals.names n.text) then Err (refused rules.Name n.place) else Ok (record s { locals = with_local s.locals n.text (locals.Real t) })

-- one more local of a type as it is written
abbrev pub variable : Name → WrittenType → Scope → Walked
variable n w s = behind (λ t. with_variable n t s) (written_type s w)

-- a first value of a local of a type
abbrev pub first_value : CType → ExprTree → Scope → Walked
first_value t e s = unless (assigned_refusal s t (typed s e)) s

-- a local of a type, in whose first value it is visible
abbrev pub declared : Name → Option ExprTree → CType → Scope → Walked
declared n e t s = behind (optional (first_value t) e) (with_variable n t s)

-- a declaration of a local
abbrev pub declaration : WrittenType → Name → Option ExprTree → Scope → Walked
declaration w n e s = behind (λ t. declared n e t s) (written_type s w)

-- an assignment or a call
abbrev pub simple : Simple → Scope → Walked
simple x s = unless (refused_simple s x) s

-- a condition
abbrev pub condition : ExprTree → Scope → Walked
condition e s = unless (refused_condition s e) s

-- what stands first in a `for`
abbrev pub first_part : First → Scope → Walked
first_part (firsts.Declaration t n e) s = declaration t n (Some e) s
first_part (firsts.Simple x) s = simple x s

-- the refusal of a value that a function gives which gives none: faults inside come first
abbrev pub needless : Result Operand Refusal → Refusal
needless (Err x) = x
needless (Ok o) = refused rules.Typing o.place

-- the refusal of a `return` at a place in a function that gives a type
abbrev pub return_refusal : Scope → CType → Place → Option ExprTree → Option Refusal
return_refusal s t p None = if is_void t then None else Some (refused rules.Typing p)
return_refusal s t p (Some e) = if is_void t then Some (needless (typed s e)) else assigned_refusal s t (typed s e)

-- how many locals are visible
abbrev pub count : Scope → ℕ
count s = length s.locals.names

-- the first locals alone, as many as there were before: those declared since are gone
abbrev pub left : ℕ → Scope → Scope
left n s = record s { locals = first_locals s.locals n }

-- a part whose locals are its own
abbrev pub Inner : (Scope → Walked → Type 0) → Scope → Walked → Type 0
Inner F s = Then (F s) (λ t. Only (Ok (left (count s) t)))

-- behind a `for` the local that its first part declares is gone, before which so many stood; the names of the invariant stay
abbrev pub without_first : Option First → ℕ → Scope → Walked
without_first (Some (firsts.Declaration t n e)) k s = Ok (record s { locals = without_local s.locals k })
without_first f k s = Ok s

-- the first part of a `for`, its condition and its step
abbrev pub for_parts : Option First → Option ExprTree → Option Simple → Scope → Walked
for_parts f c x s = behind (optional simple x) (behind (optional condition c) (optional first_part f s))

-- what stands in front of the body of a `for` at a place: its first part, its condition, its step and its invariant
abbrev pub WalksForHead : Meanings → Place → Option First → Option ExprTree → Option Simple → Option Invariant → Scope → Walked → Type 0
WalksForHead m p f c x i s = Then (Only (for_parts f c x s)) (Optional (m.invariant p.file) i)

-- the body of a `for`, before whose first part so many locals stood
abbrev pub WalksForBody : Option First → ℕ → (Scope → Walked → Type 0) → Scope → Walked → Type 0
WalksForBody f k F s = Then (Inner F s) (λ t. Only (without_first f k t))

abbrev mutual
  -- the walk over a statement, in a function that gives a type, comes to what is declared behind it or to its refusal
  pub WalksStmt : Meanings → CType → StmtTree → Scope → Walked → Type 0
  WalksStmt m r (tree.declaration p t n e last) s = Only (declaration t n e s)
  WalksStmt m r (tree.simple p x last) s = Only (simple x s)
  WalksStmt m r (tree.if_ p c a) s = Then (Only (condition c s)) (Inner (WalksStmt m r a))
  WalksStmt m r (tree.if_else p c a b) s = Then (Then (Only (condition c s)) (Inner (WalksStmt m r a))) (Inner (WalksStmt m r b))
  WalksStmt m r (tree.while_ p c i a) s = Then (Then (Only (condition c s)) (Optional (m.invariant p.file) i)) (Inner (WalksStmt m r a))
  WalksStmt m r (tree.for_ p f c x i a) s = Then (WalksForHead m p f c x i s) (WalksForBody f (count s) (WalksStmt m r a))
  WalksStmt m r (tree.return_ p e last) s = Only (unless (return_refusal s r p e) s)
  WalksStmt m r (tree.block p xs last) s = Inner (WalksStmts m r xs) s
  WalksStmt m r (tree.empty_ p) s = Only (Ok s)
  WalksStmt m r (tree.ghost p c) s = m.command c s

  -- the same of some statements, one after another
  pub WalksStmts : Meanings → CType → StmtTrees → Scope → Walked → Type 0
  WalksStmts m r no_stmt s = Only (Ok s)
  WalksStmts m r (more_stmt x xs) s = Then (WalksStmt m r x s) (WalksStmts m r xs)
