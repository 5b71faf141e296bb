-- What statements tell of their annotations and declare, or the first refusal of the sorting of an annotation in the order of the text.
use Rattle.std.specs.Prelude.{ℕ, List, [], length, Option, Some, None, Result, Ok, Err}
use Rattle.vf_base.specs.declared.refusal.Refusal.{Refusal}
use Rattle.vf_syntax.specs.declared.contract.Invariant.{Invariant}
use Rattle.vf_syntax.specs.declared.simple.First.{First}
use Rattle.vf_syntax.specs.declared.simple.First.TheVariants as firsts
use Rattle.vf_syntax.specs.declared.written.CType.{CType as WrittenType}
use Rattle.vf_syntax.specs.declared.written.Name.{Name}
use Rattle.vf_syntax.specs.AssertionTree.{part_list}
use Rattle.vf_syntax.specs.GhostCommandTree.{GhostCommandTree}
use Rattle.vf_syntax.specs.StmtTree.{StmtTree, StmtTrees, no_stmt, more_stmt}
use Rattle.vf_syntax.specs.StmtTree as tree
use Rattle.vf_asserting.specs.IsRefused.{AnyPartFails}
use Rattle.vf_typing.specs.Names.{written_type}
use Rattle.vf_walk.specs.Walking.{Only, Then}
use Rattle.vf_contracts.specs.Comes.{around_invariant}
use Rattle.vf_commands.specs.Comes.{around_statements}
use Rattle.vf_commands.specs.IsRefused.{CommandFails}
use Rattle.vf_lower.specs.Statements.{type_in}
use Rattle.vf_resolving.specs.Assertions.{PartsResolved}
use Rattle.vf_resolved_commands.specs.Commands.{CommandResolved}
use Rattle.vf_resolved_texts.specs.Resolves.{CommandResolves}
use Rattle.vf_resolved_bodies.specs.Invariants.{InvariantResolves}
use Rattle.vf_resolved_bodies.specs.Telling.{Telling, leaving, with_command, with_loop, with_real, without_real}

-- what is told of a part of the text and declared behind it, or the first refusal in it
abbrev pub Told : Type 0
Told = Result Telling Refusal

-- how many locals are visible
abbrev pub count : Telling → ℕ
count s = length s.standing.scope.locals.names

-- a declaration of a local
abbrev pub declared : WrittenType → Name → Telling → Telling
declared w n s = with_real n.text (type_in (written_type s.standing.scope w)) s

-- what stands first in a `for`
abbrev pub first_declared : Option First → Telling → Telling
first_declared (Some (firsts.Declaration w n e)) s = declared w n s
first_declared f s = s

-- behind a `for` the local that its first part declares is gone, before which so many stood; the names of the invariant stay
abbrev pub without_first : Option First → ℕ → Telling → Telling
without_first (Some (firsts.Declaration w n e)) k s = without_real k s
without_first f k s = s

-- a part whose locals are its own
abbrev pub Inner : (Telling → Told → Type 0) → Telling → Told → Type 0
Inner F s = Then (F s) (λ t. Only (Ok (leaving (count s) t)))

-- a ghost command comes to its resolved tree, or to its refusal
pub data TellsCommand (paths : List (List ℕ)) (x : GhostCommandTree) (s : Telling) : Told → Type 0 where
  told : {y : CommandResolved} → CommandResolves around_statements paths x s.standing y → TellsCommand paths x s (Ok (with_command y.command y.standing s))
  refused : {r : Refusal} → CommandFails around_statements s.standing.scope [] x r → TellsCommand paths x s (Err r)

-- the same of an invariant
pub data TellsInvariant (paths : List (List ℕ)) (x : Invariant) (s : Telling) : Told → Type 0 where
  told : {y : PartsResolved} → InvariantResolves paths x s.standing y → TellsInvariant paths x s (Ok (with_loop (Some y.parts) y.standing s))
  refused : {r : Refusal} → AnyPartFails around_invariant s.standing.scope [] (part_list x.assertion) r → TellsInvariant paths x s (Err r)

-- the head of a loop, which has an invariant or not
abbrev pub TellsLoop : List (List ℕ) → Option Invariant → Telling → Told → Type 0
TellsLoop paths None s = Only (Ok (with_loop None s.standing s))
TellsLoop paths (Some x) s = TellsInvariant paths x s

-- the body of a loop behind its head
abbrev pub TellsTurn : List (List ℕ) → Option Invariant → (Telling → Told → Type 0) → Telling → Told → Type 0
TellsTurn paths i F s = Then (TellsLoop paths i s) (Inner F)

module _ (paths : List (List ℕ)) where
  abbrev mutual
    -- the walk over a statement comes to what is told and declared behind it, or to its refusal
    pub TellsStmt : StmtTree → Telling → Told → Type 0
    TellsStmt (tree.declaration p w n e last) s = Only (Ok (declared w n s))
    TellsStmt (tree.simple p x last) s = Only (Ok s)
    TellsStmt (tree.if_ p c a) s = Inner (TellsStmt a) s
    TellsStmt (tree.if_else p c a b) s = Then (Inner (TellsStmt a) s) (Inner (TellsStmt b))
    TellsStmt (tree.while_ p c i a) s = TellsTurn paths i (TellsStmt a) s
    TellsStmt (tree.for_ p f c x i a) s = Then (TellsTurn paths i (TellsStmt a) (first_declared f s)) (λ t. Only (Ok (without_first f (count s) t)))
    TellsStmt (tree.return_ p e last) s = Only (Ok s)
    TellsStmt (tree.block p xs last) s = Inner (TellsStmts xs) s
    TellsStmt (tree.empty_ p) s = Only (Ok s)
    TellsStmt (tree.ghost p c) s = TellsCommand paths c s

    -- the same of some statements, one after another
    pub TellsStmts : StmtTrees → Telling → Told → Type 0
    TellsStmts no_stmt s = Only (Ok s)
    TellsStmts (more_stmt x xs) s = Then (TellsStmt x s) (TellsStmts xs)
