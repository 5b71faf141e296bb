-- What ghost commands come to, as functions: what is declared and known then, or the first refusal.
use Rattle.std.specs.Prelude.{ℕ, nat_eq, List, length, Option, Some, None, Ok, Err}
use Rattle.vf_base.specs.declared.place.Place.{Place}
use Rattle.vf_base.specs.declared.rule.Rule.TheVariants as rules
use Rattle.vf_sorts.specs.Sorts.{Sort, row}
use Rattle.vf_sorts.specs.Unknowns.{Known, all_numbered_below, numbered_below}
use Rattle.vf_declared.specs.declared.scope.Scope.{Scope}
use Rattle.vf_syntax.specs.declared.pattern.Pattern.{Pattern}
use Rattle.vf_syntax.specs.declared.pattern.Share.{Share}
use Rattle.vf_syntax.specs.declared.written.Name.{Name}
use Rattle.vf_syntax.specs.GhostExprTree.{GhostExprTree, GhostExprTrees, ghost_expr_list}
use Rattle.vf_syntax.specs.AssertionTree.{part_list}
use Rattle.vf_syntax.specs.SortTree.{SortTree}
use Rattle.vf_syntax.specs.GhostCommandTree.{GhostCommandTree, GhostCommandTrees, no_ghost_command, more_ghost_command, CommandCaseTree, CommandCaseTrees, no_command_case, more_command_case}
use Rattle.vf_syntax.specs.GhostCommandTree as tree
use Rattle.vf_sorting.specs.declared.context.Context.{Context}
use Rattle.vf_sorting.specs.Kinds.{bool_sort, with_fresh}
use Rattle.vf_sorting.specs.Operators.{count as argument_count, place_of}
use Rattle.vf_sorting.specs.Refusals.{refused}
use Rattle.vf_sorting.specs.Schemes.{names_predicate}
use Rattle.vf_sorting.specs.Spelling.{written_sort}
use Rattle.vf_binding.specs.declared.bound.Bound.{Bound}
use Rattle.vf_binding.specs.declared.chunk_sorts.ChunkSorts.{ChunkSorts}
use Rattle.vf_binding.specs.Bound.{name_refusal, no_names, with_names}
use Rattle.vf_binding.specs.Chunks.{chunk_takes}
use Rattle.vf_asserting.specs.Leaving.{count}
use Rattle.vf_asserting.specs.Cases.{names_or_none}
use Rattle.vf_asserting.specs.Switches.{case_sorts}
use Rattle.vf_commands.specs.declared.around.Around.{Around}
use Rattle.vf_commands.specs.declared.callee.Callee.{Callee}
use Rattle.vf_commands.specs.Calls.{callee_of}
use Rattle.vf_commands.specs.Locals.{assigned_sort, with_ghost}
use Rattle.vf_commands.specs.Opening.{share_binds}
use Rattle.vf_commands.specs.Switches.{are_cases}
use Rattle.vf_order_laws.specs.walk.Following.{after, choose, pair, unless_refused}
use Rattle.vf_order_laws.specs.walk.Sorts.{Passed, passed, passed_all}
use Rattle.vf_order_laws.specs.walk.Parts.{BoundTo, heads_at, is_taken_below, share_of, taken_of}
use Rattle.vf_order_laws.specs.walk.Assertions.{Given, case_names, leaving, naming, parts_of, still, switch_of}

-- ---- `open` and `close`
-- the chunk of an `open`, by what its name takes
abbrev pub open_taken : Scope → Context → Known → Bound → Name → List Pattern → Option (List Pattern) → Option ChunkSorts → BoundTo
open_taken s c k b n xs ys None = Err (refused rules.Name n.place)
open_taken s c k b n xs ys (Some t) = taken_of s c k b t n xs ys

-- an `open`: its share first, and then the chunk
abbrev pub open_of : Scope → Context → Known → Option Share → Name → List Pattern → Option (List Pattern) → BoundTo
open_of s c k h n xs ys = after (λ r. open_taken s c r.0 r.1 n xs ys (chunk_takes s r.0 n)) (share_of s c k no_names h)

-- the values in the parentheses of a `close`, which bind nothing, by whether there are two pairs
abbrev pub values_by : Scope → Context → Known → List Sort → Place → List Pattern → Option (List Sort) → Option (List Pattern) → Passed
values_by s c k ts g xs None None = heads_at s c k ts g xs
values_by s c k ts g xs None (Some ys) = Err (refused rules.Typing g)
values_by s c k ts g xs (Some hs) None = Err (refused rules.Typing g)
values_by s c k ts g xs (Some hs) (Some ys) = after (λ k₁. heads_at s c k₁ ts g ys) (heads_at s c k hs g xs)

-- the same by what a chunk takes
abbrev pub values_of : Scope → Context → Known → ChunkSorts → Place → List Pattern → Option (List Pattern) → Passed
values_of s c k t g xs ys = values_by s c k t.arguments g xs t.heads ys

-- the chunk of a `close`, by what its name takes
abbrev pub close_taken : Scope → Context → Known → Name → List Pattern → Option (List Pattern) → Option ChunkSorts → Passed
close_taken s c k n xs ys None = Err (refused rules.Name n.place)
close_taken s c k n xs ys (Some t) = choose (is_taken_below (length k) t) (values_of s c k t n.place xs ys) (Err (refused rules.Typing n.place))

-- a `close`, by whether a name is bound in its share, which it may not be
abbrev pub close_by : Scope → Context → Known → Option Share → Name → List Pattern → Option (List Pattern) → Option Place → Passed
close_by s c k h n xs ys (Some p) = Err (refused rules.Typing p)
close_by s c k h n xs ys None = after (λ r. close_taken s c r.0 n xs ys (chunk_takes s r.0 n)) (share_of s c k no_names h)

-- a `close`: its share first, and then the chunk
abbrev pub close_of : Scope → Context → Known → Option Share → Name → List Pattern → Option (List Pattern) → Passed
close_of s c k h n xs ys = close_by s c k h n xs ys (share_binds h)

-- ---- locals
-- a ghost local of a sort: its name, and then its value, in which it is not visible yet
abbrev pub declared_at : Scope → Around → Known → Name → GhostExprTree → Sort → Given
declared_at s w k n e t = after (λ u. after (λ k'. Ok (pair (with_ghost s n.text t) k')) (passed s w.context k t (place_of e) e)) (unless_refused (tt {0}) (name_refusal s no_names n))

-- a ghost local: its sort as it is written, its name, its value
abbrev pub declaration_of : Scope → Around → Known → SortTree → Name → GhostExprTree → Given
declaration_of s w k u n e = after (declared_at s w k n e) (written_sort s w.parameters u)

-- an assignment to a ghost local of a sort
abbrev pub assigned_at : Scope → Around → Known → Place → GhostExprTree → Sort → Passed
assigned_at s w k p e t = choose (numbered_below (length k) t) (passed s w.context k t (place_of e) e) (Err (refused rules.Typing p))

-- an assignment: the local, and then the value
abbrev pub assignment_of : Scope → Around → Known → Place → List ℕ → GhostExprTree → Passed
assignment_of s w k p x e = after (assigned_at s w k p e) (assigned_sort s p x)

-- ---- calls
-- the call of a lemma: how many arguments there are, and then these
abbrev pub called_at : Scope → Context → Known → Place → GhostExprTrees → Callee → Passed
called_at s c k p xs g = choose (all_numbered_below (length k) (row g.arguments)) (choose (nat_eq (length g.arguments) (argument_count xs)) (passed_all s c (with_fresh k g.parameters) (length k) g.parameters g.arguments xs) (Err (refused rules.Typing p))) (Err (refused rules.Typing p))

-- a call: the name, and then the arguments
abbrev pub call_of : Scope → Context → Known → Place → List ℕ → GhostExprTrees → Passed
call_of s c k p f xs = choose (names_predicate s k f) (Err (refused rules.Typing p)) (after (called_at s c k p xs) (callee_of s c.own p f))

-- ---- commands
abbrev mutual
  -- a ghost command; what stands inside of one is gone behind it
  pub command_of : Around → Scope → Known → GhostCommandTree → Given
  command_of w s k (tree.open_ p h n xs ys) = after (naming s) (open_of s w.context k h n xs ys)
  command_of w s k (tree.close_ p h n xs ys) = after (still s) (close_of s w.context k h n xs ys)
  command_of w s k (tree.leak_ p a) = parts_of w.context s k (part_list a)
  command_of w s k (tree.assert_ p a) = parts_of w.context s k (part_list a)
  command_of w s k (tree.declaration p u n e) = declaration_of s w k u n e
  command_of w s k (tree.assignment p x e) = after (still s) (assignment_of s w k p x e)
  command_of w s k (tree.call_ p f xs) = after (still s) (call_of s w.context k p f (ghost_expr_list xs))
  command_of w s k (tree.if_ p e xs) = after (λ k₁. after (leaving (count s)) (commands_of w s k₁ xs)) (passed s w.context k bool_sort (place_of e) e)
  command_of w s k (tree.if_else p e xs ys) = after (λ k₁. after (λ r. after (leaving (count r.0)) (commands_of w r.0 r.1 ys)) (after (leaving (count s)) (commands_of w s k₁ xs))) (passed s w.context k bool_sort (place_of e) e)
  command_of w s k (tree.switch_ p e cs) = after (λ v. cases_of w s v.0 v.1 v.2 cs) (switch_of s w.context k e (λ d. are_cases s d cs))
  command_of w s k (tree.block p xs) = after (leaving (count s)) (commands_of w s k xs)

  -- ghost commands, one after the other
  pub commands_of : Around → Scope → Known → GhostCommandTrees → Given
  commands_of w s k no_ghost_command = still s k
  commands_of w s k (more_ghost_command x xs) = after (λ r. commands_of w r.0 r.1 xs) (command_of w s k x)

  -- a case: its names, and then the commands in which they stand
  pub case_of : Around → Scope → ℕ → ℕ → Known → CommandCaseTree → Given
  case_of w s first n k (tree.command_case p x xs) = after (λ b. after (leaving (count s)) (commands_of w (with_names s b) k xs)) (case_names s (names_or_none x.names) (case_sorts s first n x) x.constructor.place)

  -- cases, one after the other
  pub cases_of : Around → Scope → ℕ → ℕ → Known → CommandCaseTrees → Given
  cases_of w s first n k no_command_case = still s k
  cases_of w s first n k (more_command_case x xs) = after (λ r. cases_of w r.0 first n r.1 xs) (case_of w s first n k x)
