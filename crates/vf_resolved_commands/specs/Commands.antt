-- Ghost commands, resolved: a function of the tree, of what stands around it, and of what is declared and numbered in front of it.
use Rattle.std.specs.Prelude.{ℕ, ◌+◌, Bool, true, false, List, [], ◌∷◌, length, map, Option, Some, None, Result, Ok, Err}
use Rattle.vf_base.specs.declared.place.Place.{Place}
use Rattle.vf_base.specs.declared.refusal.Refusal.{Refusal}
use Rattle.vf_closure.specs.Terms.{Term}
use Rattle.vf_sorts.specs.Sorts.{Sort}
use Rattle.vf_sorts.specs.Unknowns.{instance}
use Rattle.vf_declared.specs.declared.declaration.Declaration.{Declaration}
use Rattle.vf_declared.specs.declared.declaration.GhostDeclaration.{GhostDeclaration}
use Rattle.vf_declared.specs.declared.declaration.GhostDeclaration.TheVariants as ghosts
use Rattle.vf_declared.specs.declared.declaration.Meaning.{Meaning}
use Rattle.vf_declared.specs.declared.declaration.Meaning.TheVariants as meanings
use Rattle.vf_declared.specs.declared.locals.Local.{Local}
use Rattle.vf_declared.specs.declared.scope.Scope.{Scope}
use Rattle.vf_declared.specs.Scopes.{declaration_of, ghost_of, local_of, signature_of}
use Rattle.vf_syntax.specs.declared.pattern.CasePattern.{CasePattern}
use Rattle.vf_syntax.specs.declared.pattern.Pattern.{Pattern}
use Rattle.vf_syntax.specs.declared.pattern.Share.{Share}
use Rattle.vf_syntax.specs.declared.written.Name.{Name}
use Rattle.vf_syntax.specs.GhostExprTree.{GhostExprTree}
use Rattle.vf_syntax.specs.AssertionTree.{part_list}
use Rattle.vf_syntax.specs.GhostCommandTree as written
use Rattle.vf_syntax.specs.GhostCommandTree.{no_ghost_command, more_ghost_command, no_command_case, more_command_case}
use Rattle.vf_sorting.specs.Kinds.{int_sort}
use Rattle.vf_sorting.specs.Schemes.{sort_of_local, sort_of_type, used_parameters}
use Rattle.vf_sorting.specs.Spelling.{written_sort}
use Rattle.vf_binding.specs.Chunks.{chunk_takes, with_arguments}
use Rattle.vf_binding.specs.declared.chunk_sorts.ChunkSorts.{ChunkSorts}
use Rattle.vf_asserting.specs.Leaving.{count}
use Rattle.vf_commands.specs.Calls.{types_in}
use Rattle.vf_commands.specs.Locals.{with_ghost}
use Rattle.vf_terms.specs.Settings.{Setting}
use Rattle.vf_terms.specs.Named.{declaration_seen, identity_of, term_of_name}
use Rattle.vf_terms.specs.Readings.{in_front, no_row, read}
use Rattle.vf_terms.specs.declared.reading.Reading.{Reading}
use Rattle.vf_terms.specs.declared.reading.Row.{Row}
use Rattle.vf_resolved.specs.declared.pattern.Argument.{Argument}
use Rattle.vf_resolved.specs.TruthTree.{TruthTree}
use Rattle.vf_resolved.specs.CommandTree.{CommandTree, CommandBranchTree, command_list, command_branch_list}
use Rattle.vf_resolved.specs.CommandTree as tree
use Rattle.vf_resolved_parts.specs.Heads.{form_of, head_for}
use Rattle.vf_resolved_parts.specs.Names.{slot_for, symbol_for}
use Rattle.vf_resolved_parts.specs.Parts.{PairsRead, beginning, pairs_read, patterns_or_none}
use Rattle.vf_resolved_parts.specs.Patterns.{ArgumentsRead, arguments_read, passed}
use Rattle.vf_resolved_parts.specs.Shares.{ShareRead, share_read}
use Rattle.vf_resolved_parts.specs.Truths.{truth}
use Rattle.vf_resolved_parts.specs.declared.heads.Form.{Form}
use Rattle.vf_resolved_parts.specs.declared.progress.Progress.{Progress}
use Rattle.vf_resolving.specs.Standings.{Around, Standing, behind, counting, known_sort, leaving, setting_at, slots_for, with_name}
use Rattle.vf_resolving.specs.Cases.{case_names, constructor_identity, constructor_place, files_of, switched}
use Rattle.vf_resolving.specs.Assertions.{PartsResolved, parts_resolved, within_case}
use Rattle.vf_resolving.specs.declared.cases.Switched.{Switched}
use Rattle.vf_resolved_commands.specs.declared.command_reading.CommandReading.{CommandReading}

-- a command, some commands, a branch or some branches, and what is declared and numbered behind them
pub record CommandResolved : Type 0 where
  pub command : CommandTree
  pub standing : Standing

pub record CommandsResolved : Type 0 where
  pub commands : List CommandTree
  pub standing : Standing

pub record BranchResolved : Type 0 where
  pub branch : CommandBranchTree
  pub standing : Standing

pub record BranchesResolved : Type 0 where
  pub branches : List CommandBranchTree
  pub standing : Standing

-- ---- `open` and `close`
-- `open`, and what it binds and numbers
pub record OpenRead : Type 0 where
  pub command : CommandTree
  pub progress : Progress

-- what a name takes; where it takes nothing, no arguments
abbrev pub taken_or_none : Option ChunkSorts → ChunkSorts
taken_or_none None = with_arguments []
taken_or_none (Some t) = t

-- `open` whose share is read, by what its name takes and is
abbrev pub opened : Place → ShareRead → Form → PairsRead → OpenRead
opened p h f xs = record { command = tree.open_ p h.share (head_for f xs.first) xs.arguments.patterns; progress = xs.arguments.progress }

abbrev pub open_taken : Setting → ℕ → Place → Name → List Pattern → Option (List Pattern) → ShareRead → ChunkSorts → OpenRead
open_taken s m p n xs ys h t = opened p h (form_of s n) (pairs_read s m h.progress t.heads t.arguments xs ys)

-- `open`, behind so many names
abbrev pub open_read : Setting → ℕ → Progress → Place → Option Share → Name → List Pattern → Option (List Pattern) → OpenRead
open_read s m g p h n xs ys = open_taken s m p n xs ys (share_read s m g h) (taken_or_none (chunk_takes s.scope s.known n))

-- a command behind which what it binds is declared
abbrev pub told : Around → Standing → OpenRead → CommandResolved
told a s x = record { command = x.command; standing = behind a x.progress s }

abbrev pub open_resolved : Around → Standing → Place → Option Share → Name → List Pattern → Option (List Pattern) → CommandResolved
open_resolved a s p h n xs ys = told a s (open_read (setting_at a s) (length s.sorts) (beginning s.next) p h n xs ys)

-- the values in one or two pairs of parentheses in which expressions alone stand: those of the first of two pairs, and the others
pub record ValuesRead : Type 0 where
  pub first : List Argument
  pub others : ArgumentsRead

abbrev pub second_values : Setting → List Sort → List Pattern → ArgumentsRead → ValuesRead
second_values s ts ys xs = record { first = xs.arguments; others = arguments_read s ts xs.next ys }

abbrev pub values_read : Setting → ℕ → Option (List Sort) → List Sort → List Pattern → Option (List Pattern) → ValuesRead
values_read s u None ts xs ys = record { first = []; others = arguments_read s ts u xs }
values_read s u (Some hs) ts xs ys = second_values s ts (patterns_or_none ys) (arguments_read s hs u xs)

-- `close` whose share is read
abbrev pub closed : Place → ShareRead → Form → ValuesRead → CommandReading
closed p h f xs = record { command = tree.close_ p h.share (head_for f xs.first) xs.others.arguments; next = xs.others.next }

abbrev pub close_taken : Setting → Place → Name → List Pattern → Option (List Pattern) → ShareRead → ChunkSorts → CommandReading
close_taken s p n xs ys h t = closed p h (form_of s n) (values_read s h.progress.next t.heads t.arguments xs ys)

-- `close`, behind so many names
abbrev pub close_read : Setting → ℕ → Progress → Place → Option Share → Name → List Pattern → Option (List Pattern) → CommandReading
close_read s m g p h n xs ys = close_taken s p n xs ys (share_read s m g h) (taken_or_none (chunk_takes s.scope s.known n))

-- a command that declares nothing
abbrev pub counted : Standing → CommandReading → CommandResolved
counted s x = record { command = x.command; standing = counting x.next s }

abbrev pub close_resolved : Around → Standing → Place → Option Share → Name → List Pattern → Option (List Pattern) → CommandResolved
close_resolved a s p h n xs ys = counted s (close_read (setting_at a s) (length s.sorts) (beginning s.next) p h n xs ys)

-- ---- ghost locals
-- a sort that is written; where it is refused, that of whole numbers
abbrev pub sort_or_refused : Result Sort Refusal → Sort
sort_or_refused (Ok t) = t
sort_or_refused (Err e) = int_sort

-- one ghost local more, of a sort, which has a number
abbrev pub with_ghost_name : Around → List ℕ → Sort → Standing → Standing
with_ghost_name a x t s = with_name (known_sort a t) (record { scope = with_ghost s.scope x t; terms = s.terms; sorts = s.sorts; next = s.next })

-- a declaration whose value is read
abbrev pub declared : Around → Standing → Place → Name → Sort → Reading → CommandResolved
declared a s p n t x = record { command = tree.set p (symbol_for (slot_for (length s.sorts) (known_sort a t))) x.term; standing = with_ghost_name a n.text t (counting x.next s) }

abbrev pub declaration_resolved : Around → Standing → Place → Name → GhostExprTree → Sort → CommandResolved
declaration_resolved a s p n e t = declared a s p n t (passed (setting_at a s) t s.next e)

-- the sort of a local; where there is none, that of whole numbers
abbrev pub local_sort : Option Local → Sort
local_sort None = int_sort
local_sort (Some l) = sort_of_local l

-- an assignment whose value is read
abbrev pub assigned : Around → Standing → Place → List ℕ → Reading → CommandResolved
assigned a s p x y = record { command = tree.set p (term_of_name (setting_at a s) x p.file) y.term; standing = counting y.next s }

abbrev pub assignment_resolved : Around → Standing → Place → List ℕ → GhostExprTree → CommandResolved
assignment_resolved a s p x e = assigned a s p x (passed (setting_at a s) (local_sort (local_of s.scope x)) s.next e)

-- ---- calls
-- what is called: whether it is a function of C, for how many type parameters unknown sorts stand, and the sorts of its arguments
pub record Callee : Type 0 where
  pub is_real : Bool
  pub parameters : ℕ
  pub arguments : List Sort

abbrev pub lemma_called : Option ℕ → ℕ → Option GhostDeclaration → Callee
lemma_called own n (Some (ghosts.Lemma l)) = record { is_real = false; parameters = used_parameters own n l.parameters; arguments = l.arguments }
lemma_called own n d = record { is_real = false; parameters = 0; arguments = [] }

abbrev pub called : Scope → Option ℕ → Option Meaning → Callee
called s own (Some (meanings.Function n)) = record { is_real = true; parameters = 0; arguments = map sort_of_type (types_in (signature_of s n)) }
called s own (Some (meanings.Ghost n)) = lemma_called own n (ghost_of s n)
called s own m = record { is_real = false; parameters = 0; arguments = [] }

-- expressions that pass for these sorts, one for each, from left to right
abbrev pub all_passed : Setting → List Sort → ℕ → List GhostExprTree → Row
all_passed s [] u xs = no_row u
all_passed s (t ∷ ts) u [] = no_row u
all_passed s (t ∷ ts) u (x ∷ xs) =
    let y = passed s t u x in
    in_front y (all_passed s ts y.next xs)

-- the identity of what a call names
abbrev pub callee_identity : Setting → List ℕ → Option Declaration → List ℕ
callee_identity s x d = identity_of s.paths (files_of d) x

-- a call whose arguments are read
abbrev pub call_of : Bool → Place → List ℕ → Row → CommandTree
call_of true p i xs = tree.call_real p
call_of false p i xs = tree.call_ p i xs.terms

abbrev pub call_made : Place → Bool → List ℕ → Row → CommandReading
call_made p b i xs = record { command = call_of b p i xs; next = xs.next }

abbrev pub call_by : Setting → ℕ → Place → List ℕ → List GhostExprTree → Callee → CommandReading
call_by s u p x es g =
    call_made p g.is_real (callee_identity s x (declaration_seen s.scope x p.file)) (all_passed s (map (instance u g.parameters) g.arguments) (u + g.parameters) es)

abbrev pub call_read : Setting → ℕ → Place → List ℕ → List GhostExprTree → CommandReading
call_read s u p x es = call_by s u p x es (called s.scope s.context.own (declaration_of s.scope x p.file))

abbrev pub call_resolved : Around → Standing → Place → List ℕ → List GhostExprTree → CommandResolved
call_resolved a s p x es = counted s (call_read (setting_at a s) s.next p x es)

-- ---- the others
-- `leak` and `assert`
abbrev pub leaked : Place → PartsResolved → CommandResolved
leaked p xs = record { command = tree.leak_ p xs.parts; standing = xs.standing }

abbrev pub asserted : Place → PartsResolved → CommandResolved
asserted p xs = record { command = tree.assert_ p xs.parts; standing = xs.standing }

-- what the commands of a block declare is gone behind it
abbrev pub enclosed : ℕ → CommandsResolved → CommandsResolved
enclosed n xs = record { commands = xs.commands; standing = leaving n xs.standing }

abbrev pub block_of : Place → CommandsResolved → CommandResolved
block_of p xs = record { command = tree.block p (command_list xs.commands); standing = xs.standing }

abbrev pub if_of : Place → TruthTree → CommandsResolved → CommandsResolved → CommandResolved
if_of p t xs ys = record { command = tree.if_ p t (command_list xs.commands) (command_list ys.commands); standing = ys.standing }

-- an `if` without `else`
abbrev pub none_else : CommandsResolved → CommandsResolved
none_else xs = record { commands = []; standing = xs.standing }

abbrev pub switch_of : Place → Term → BranchesResolved → CommandResolved
switch_of p t bs = record { command = tree.switch_ p t (command_branch_list bs.branches); standing = bs.standing }

abbrev pub branch_of : Around → Switched → Place → CasePattern → Standing → CommandsResolved → BranchResolved
branch_of a w p x s xs = record {
  branch = tree.command_branch p (constructor_identity s.scope a.paths x.constructor) (constructor_place s.scope w.datatype x.constructor) (slots_for a (length s.sorts) (case_names s.scope w x).sorts) (command_list xs.commands);
  standing = leaving (count s.scope) xs.standing;
}

-- one command or one branch in front of others
abbrev pub command_in_front : CommandResolved → CommandsResolved → CommandsResolved
command_in_front x xs = record { commands = x.command ∷ xs.commands; standing = xs.standing }

abbrev pub branch_in_front : BranchResolved → BranchesResolved → BranchesResolved
branch_in_front x xs = record { branches = x.branch ∷ xs.branches; standing = xs.standing }

module _ (a : Around) (parameters : List (List ℕ)) where
  abbrev mutual
    -- a command, in the text of a lemma with these type parameters
    pub command_resolved : Standing → written.GhostCommandTree → CommandResolved
    command_resolved s (written.open_ p h n xs ys) = open_resolved a s p h n xs ys
    command_resolved s (written.close_ p h n xs ys) = close_resolved a s p h n xs ys
    command_resolved s (written.leak_ p xs) = leaked p (parts_resolved a s (part_list xs))
    command_resolved s (written.assert_ p xs) = asserted p (parts_resolved a s (part_list xs))
    command_resolved s (written.declaration p u n e) = declaration_resolved a s p n e (sort_or_refused (written_sort s.scope parameters u))
    command_resolved s (written.assignment p x e) = assignment_resolved a s p x e
    command_resolved s (written.call_ p x es) = call_resolved a s p x es
    command_resolved s (written.if_ p e xs) =
        let t = truth (setting_at a s) s.next e in
        let y = enclosed (count s.scope) (commands_resolved (counting t.next s) xs) in
        if_of p t.truth y (none_else y)
    command_resolved s (written.if_else p e xs ys) =
        let t = truth (setting_at a s) s.next e in
        let y = enclosed (count s.scope) (commands_resolved (counting t.next s) xs) in
        if_of p t.truth y (enclosed (count y.standing.scope) (commands_resolved y.standing ys))
    command_resolved s (written.switch_ p e cs) =
        let x = read (setting_at a s) false s.next e in
        let w = switched s.scope x in
        switch_of p x.term (branches_resolved w (counting (w.first + w.count) s) cs)
    command_resolved s (written.block p xs) = block_of p (enclosed (count s.scope) (commands_resolved s xs))

    -- commands from the first to the last
    pub commands_resolved : Standing → written.GhostCommandTrees → CommandsResolved
    commands_resolved s no_ghost_command = record { commands = []; standing = s }
    commands_resolved s (more_ghost_command x xs) =
        let y = command_resolved s x in
        command_in_front y (commands_resolved y.standing xs)

    -- a case
    pub branch_resolved : Switched → Standing → written.CommandCaseTree → BranchResolved
    branch_resolved w s (written.command_case p x xs) = branch_of a w p x s (commands_resolved (within_case a w x s) xs)

    -- cases from the first to the last
    pub branches_resolved : Switched → Standing → written.CommandCaseTrees → BranchesResolved
    branches_resolved w s no_command_case = record { branches = []; standing = s }
    branches_resolved w s (more_command_case x xs) =
        let y = branch_resolved w s x in
        branch_in_front y (branches_resolved w y.standing xs)
