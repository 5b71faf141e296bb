-- What the functions of ghost commands find is what the rules give.
use Rattle.std.proofs.Common.{◌≡◌, refl, ℕ, nat_eq, true, false, List, length, Option, Some, None, Result, Ok, arith}
use Rattle.vf_base.specs.declared.place.Place.{Place}
use Rattle.vf_base.specs.declared.refusal.Refusal.{Refusal}
use Rattle.vf_sorts.specs.Sorts.{Sort, row}
use Rattle.vf_sorts.specs.Unknowns.{AreBelow, IsResolved, Known, all_numbered_below, numbered_below}
use Rattle.vf_sorts.proofs.Filled.{all_below_told, below_told}
use Rattle.vf_declared.specs.declared.scope.Scope.{Scope}
use Rattle.vf_syntax.specs.declared.pattern.Pattern.{Pattern}
use Rattle.vf_syntax.specs.declared.pattern.Share.{Share}
use Rattle.vf_syntax.specs.declared.written.Name.{Name}
use Rattle.vf_syntax.specs.GhostExprTree.{GhostExprTree, GhostExprTrees, ghost_expr_list}
use Rattle.vf_syntax.specs.AssertionTree.{part_list}
use Rattle.vf_syntax.specs.SortTree.{SortTree}
use Rattle.vf_syntax.specs.GhostCommandTree.{GhostCommandTree, GhostCommandTrees, no_ghost_command, more_ghost_command, CommandCaseTree, CommandCaseTrees, no_command_case, more_command_case}
use Rattle.vf_syntax.specs.GhostCommandTree as tree
use Rattle.vf_sorting.specs.declared.context.Context.{Context}
use Rattle.vf_sorting.specs.Kinds.{bool_sort, with_fresh}
use Rattle.vf_sorting.specs.Operators.{count as argument_count, place_of}
use Rattle.vf_sorting.specs.Schemes.{names_predicate}
use Rattle.vf_sorting.specs.Spelling.{written_sort}
use Rattle.vf_sorting.proofs.Below.{fresh_length}
use Rattle.vf_binding.specs.declared.bound.Bound.{Bound}
use Rattle.vf_binding.specs.declared.chunk_sorts.ChunkSorts.{ChunkSorts}
use Rattle.vf_binding.specs.Bound.{name_refusal, no_names, with_names}
use Rattle.vf_binding.specs.Chunks.{AreHeadsBelow, IsTakenBelow, chunk_takes}
use Rattle.vf_binding.specs.Shares.{SharePasses}
use Rattle.vf_binding.proofs.Lists.{all_below_more}
use Rattle.vf_asserting.specs.Cases.{names_or_none}
use Rattle.vf_asserting.specs.Leaving.{count}
use Rattle.vf_asserting.specs.Switches.{case_sorts}
use Rattle.vf_commands.specs.declared.around.Around.{Around}
use Rattle.vf_commands.specs.declared.callee.Callee.{Callee}
use Rattle.vf_commands.specs.Calls.{callee_of}
use Rattle.vf_commands.specs.Calls as calls
use Rattle.vf_commands.specs.Gives as gives
use Rattle.vf_commands.specs.IsRefused as fails
use Rattle.vf_commands.specs.Locals.{assigned_sort, with_ghost}
use Rattle.vf_commands.specs.Locals as locals
use Rattle.vf_commands.specs.Opening.{share_binds}
use Rattle.vf_commands.specs.Opening as opening
use Rattle.vf_commands.specs.Switches.{are_cases}
use Rattle.vf_commands.specs.Switches as switches
use Rattle.vf_commands.proofs.Locals.{written_below}
use Rattle.vf_order_laws.specs.walk.Parts.{is_taken_below}
use Rattle.vf_order_laws.specs.walk.Assertions.{leaving}
use Rattle.vf_order_laws.specs.walk.Following.{after}
use Rattle.vf_order_laws.specs.walk.Sorts.{passed_all}
use Rattle.vf_order_laws.specs.walk.Commands.{assigned_at, assignment_of, call_of, called_at, case_of, cases_of, close_by, close_of, close_taken, command_of, commands_of, declaration_of, declared_at, open_of, open_taken, values_by, values_of}
use Rattle.vf_order_laws.proofs.walk.Finding.{Found, Grows, found, found_after, found_as, found_so, found_unless, found_where, grows_on, stays, stopped}
use Rattle.vf_order_laws.proofs.walk.PartsCome.{taken_told}
use Rattle.vf_order_laws.proofs.walk.SortsFound.{pass_found, passed_all_found}
use Rattle.vf_order_laws.proofs.walk.PartsFound.{heads_found, share_found, taken_found}
use Rattle.vf_order_laws.proofs.walk.Results.{untold}
use Rattle.vf_order_laws.proofs.walk.AssertionsFound.{Switches, SwitchFails, case_names_found, fresh_resolved, may_switch, no_datatype, not_over, other_cases, other_sorts, parts_found, switch_found, switched, switches_over}

-- ---- `open` and `close`
open_found : (s : Scope) (c : Context) (k : Known) → IsResolved k → (h : Option Share) (n : Name) (xs : List Pattern) (ys : Option (List Pattern)) → Found (λ v. opening.OpenBinds s c k h n xs ys v.0 v.1 × Grows k v.0) (opening.OpenFails s c k h n xs ys) (open_of s c k h n xs ys)
open_found s c k r h n xs ys = found_after (share_found s c k no_names h r) (λ v i. by v i (chunk_takes s v.0 n) refl) (λ x f. opening.share f)
  where
    by : (v : Known × Bound) → SharePasses s c k no_names h v.0 v.1 × Grows k v.0 → (o : Option ChunkSorts) → chunk_takes s v.0 n ≡ o → Found (λ w. opening.OpenBinds s c k h n xs ys w.0 w.1 × Grows k w.0) (opening.OpenFails s c k h n xs ys) (open_taken s c v.0 v.1 n xs ys o)
    by v i None e = stopped (opening.no_predicate i.0 e)
    by v i (Some t) e = found_as (λ w a. (opening.opened i.0 e a.0 a.1, grows_on i.1 a.2)) (λ x f. opening.taken i.0 e f) (taken_found s c v.0 v.1 t n xs ys i.1.resolved)

values_by_found : (s : Scope) (c : Context) (k : Known) → IsResolved k → (ts : List Sort) (hs : Option (List Sort)) → AreBelow (length k) ts → AreHeadsBelow (length k) hs → (g : Place) (xs : List Pattern) (ys : Option (List Pattern))
    → Found (λ k'. opening.ValuesPass s c k (record { heads = hs; arguments = ts }) xs ys k' × Grows k k') (opening.ValuesFail s c k (record { heads = hs; arguments = ts }) g xs ys) (values_by s c k ts g xs hs ys)
values_by_found s c k r ts None b d g xs None = found_as (λ k' h. (opening.one_pair h.0, h.1)) (λ x f. opening.one_pair f) (heads_found s c k ts g xs r b)
values_by_found s c k r ts None b d g xs (Some ys) = stopped opening.needless_pair
values_by_found s c k r ts (Some hs) b d g xs None = stopped opening.missing_pair
values_by_found s c k r ts (Some hs) b d g xs (Some ys) = found_after (heads_found s c k hs g xs r d)
    (λ k₁ h. found_as (λ k' i. (opening.two_pairs h.0 i.0, grows_on h.1 i.1)) (λ x f. opening.second_pair h.0 f) (heads_found s c k₁ ts g ys h.1.resolved (all_below_more _ _ h.1.longer ts b)))
    (λ x f. opening.first_pair f)

values_found : (s : Scope) (c : Context) (k : Known) → IsResolved k → (t : ChunkSorts) → IsTakenBelow (length k) t → (g : Place) (xs : List Pattern) (ys : Option (List Pattern)) → Found (λ k'. opening.ValuesPass s c k t xs ys k' × Grows k k') (opening.ValuesFail s c k t g xs ys) (values_of s c k t g xs ys)
values_found s c k r t b g xs ys = values_by_found s c k r t.arguments t.heads b.1 b.0 g xs ys

close_found : (s : Scope) (c : Context) (k : Known) → IsResolved k → (h : Option Share) (n : Name) (xs : List Pattern) (ys : Option (List Pattern)) → Found (λ k'. opening.ClosePasses s c k h n xs ys k' × Grows k k') (opening.CloseFails s c k h n xs ys) (close_of s c k h n xs ys)
close_found s c k r h n xs ys = by_share (share_binds h) refl
  where
    Closed : Result Known Refusal → Type 0
    Closed v = Found (λ k'. opening.ClosePasses s c k h n xs ys k' × Grows k k') (opening.CloseFails s c k h n xs ys) v

    by_taken : share_binds h ≡ None → (v : Known × Bound) → SharePasses s c k no_names h v.0 v.1 × Grows k v.0 → (o : Option ChunkSorts) → chunk_takes s v.0 n ≡ o → Closed (close_taken s c v.0 n xs ys o)
    by_taken e v i None u = stopped (opening.no_predicate e i.0 u)
    by_taken e v i (Some t) u = found_where (is_taken_below (length v.0) t)
        (λ q. let b = (taken_told (length v.0) t).0 q in found_as (λ k' a. (opening.closed e i.0 u b a.0, grows_on i.1 a.1)) (λ x f. opening.values e i.0 u b f) (values_found s c v.0 i.1.resolved t b n.place xs ys))
        (λ q. stopped (opening.stray e i.0 u (untold (is_taken_below (length v.0) t) (taken_told (length v.0) t) q)))

    by_share : (o : Option Place) → share_binds h ≡ o → Closed (close_by s c k h n xs ys o)
    by_share (Some p) e = stopped (opening.bound_share e)
    by_share None e = found_after (share_found s c k no_names h r) (λ v i. by_taken e v i (chunk_takes s v.0 n) refl) (λ x f. opening.share e f)

-- ---- locals
declaration_found : (s : Scope) (w : Around) (k : Known) → IsResolved k → (p : Place) (u : SortTree) (n : Name) (e : GhostExprTree) → Found (λ v. gives.CommandGives w s k (tree.declaration p u n e) v.0 v.1 × Grows k v.1) (locals.DeclarationFails s w k u n e) (declaration_of s w k u n e)
declaration_found s w k r p u n e = found_after (found_so (written_sort s w.parameters u)) at (λ x f. locals.its_sort f)
  where
    at : (t : Sort) → written_sort s w.parameters u ≡ Ok t → Found (λ v. gives.CommandGives w s k (tree.declaration p u n e) v.0 v.1 × Grows k v.1) (locals.DeclarationFails s w k u n e) (declared_at s w k n e t)
    at t q = found_after (found_unless {P = λ u. name_refusal s no_names n ≡ None} (tt {0}) (name_refusal s no_names n) (λ a. a) (λ x f. locals.its_name q f))
        (λ v a. found_after (pass_found s w.context k t (place_of e) r (written_below k s w.parameters u t q) e)
        (λ k' h. found (gives.declaration (locals.declares q a h.0), h.1)) (λ x f. locals.its_value q a f))
        (λ x f. f)

assignment_found : (s : Scope) (w : Around) (k : Known) → IsResolved k → (p : Place) (x : List ℕ) (e : GhostExprTree) → Found (λ k'. locals.Assigns s w k p x e k' × Grows k k') (locals.AssignmentFails s w k p x e) (assignment_of s w k p x e)
assignment_found s w k r p x e = found_after (found_so (assigned_sort s p x)) at (λ y f. locals.its_target f)
  where
    at : (t : Sort) → assigned_sort s p x ≡ Ok t → Found (λ k'. locals.Assigns s w k p x e k' × Grows k k') (locals.AssignmentFails s w k p x e) (assigned_at s w k p e t)
    at t q = found_where (numbered_below (length k) t)
        (λ i. let b = (below_told (length k) t).0 i in found_as (λ k' h. (locals.assigns q b h.0, h.1)) (λ y f. locals.its_value q b f) (pass_found s w.context k t (place_of e) r b e))
        (λ i. stopped (locals.stray q (untold (numbered_below (length k) t) (below_told (length k) t) i)))

-- ---- calls
call_found : (s : Scope) (c : Context) (k : Known) → IsResolved k → (p : Place) (f : List ℕ) (xs : GhostExprTrees) → Found (λ k'. calls.CallPasses s c k p f xs k' × Grows k k') (calls.CallFails s c k p f xs) (call_of s c k p f xs)
call_found s c k r p f xs = found_where (names_predicate s k f) (λ n. stopped (calls.called_local n)) (λ n. found_after (found_so (callee_of s c.own p f)) (at n) (λ x e. calls.no_lemma n e))
  where
    passing : names_predicate s k f ≡ false → (g : Callee) → callee_of s c.own p f ≡ Ok g → AreBelow (length k) g.arguments → nat_eq (length g.arguments) (argument_count xs) ≡ true
        → Found (λ k'. calls.CallPasses s c k p f xs k' × Grows k k') (calls.CallFails s c k p f xs) (passed_all s c (with_fresh k g.parameters) (length k) g.parameters g.arguments xs)
    passing n g e b m =
        let long = fresh_length k g.parameters in
        found_as (λ k' h. (calls.calls n e b h.0, (let more = h.1.longer in record { resolved = h.1.resolved; longer = omega (arith, long, more) }))) (λ x a. calls.argument n e b m a)
        (passed_all_found s c (with_fresh k g.parameters) (length k) g.parameters g.arguments xs (fresh_resolved k g.parameters r) (let q : length g.arguments ≡ argument_count xs = grind (arith, m) in q) b (omega (arith, long)))

    at : names_predicate s k f ≡ false → (g : Callee) → callee_of s c.own p f ≡ Ok g → Found (λ k'. calls.CallPasses s c k p f xs k' × Grows k k') (calls.CallFails s c k p f xs) (called_at s c k p xs g)
    at n g e = found_where (all_numbered_below (length k) (row g.arguments))
        (λ i. let b = (all_below_told (length k) (row g.arguments)).0 i in found_where (nat_eq (length g.arguments) (argument_count xs)) (λ m. passing n g e b m) (λ m. stopped (calls.other_count n e b m)))
        (λ i. stopped (calls.stray n e (untold (all_numbered_below (length k) (row g.arguments)) (all_below_told (length k) (row g.arguments)) i)))

-- ---- what stands in front of cases
switches_so : {s : Scope} {c : Context} {k k' : Known} {e : GhostExprTree} {cs : CommandCaseTrees} {first n : ℕ} → Switches s c k e (λ d. are_cases s d cs) first n k' → switches.Switches s c k e cs first n k'
switches_so (switches_over h (may_switch d a q)) = switches.switches h d a q

switch_fails : {s : Scope} {c : Context} {k : Known} {e : GhostExprTree} {cs : CommandCaseTrees} {r : Refusal} → SwitchFails s c k e (λ d. are_cases s d cs) r → switches.SwitchFails s c k e cs r
switch_fails (switched h) = switches.switched h
switch_fails (not_over h (no_datatype d)) = switches.no_datatype h d
switch_fails (not_over h (other_cases d a)) = switches.other_cases h d a
switch_fails (not_over h (other_sorts d a q)) = switches.other_sorts h d a q

-- ---- commands
-- what the commands of a block declare is gone behind it
in_block : {w : Around} {s : Scope} {k : Known} {xs : GhostCommandTrees} {r : Result (Scope × Known) Refusal} → Found (λ v. gives.CommandsGive w s k xs v.0 v.1 × Grows k v.1) (fails.AnyCommandFails w s k xs) r → Found (λ v. gives.BlockGives w s k xs v.0 v.1 × Grows k v.1) (fails.AnyCommandFails w s k xs) (after (leaving (count s)) r)
in_block h = found_after h (λ v a. found (gives.a_block a.0, a.1)) (λ y f. f)

mutual
  pub command_found : (w : Around) (s : Scope) (k : Known) → IsResolved k → (x : GhostCommandTree) → Found (λ v. gives.CommandGives w s k x v.0 v.1 × Grows k v.1) (fails.CommandFails w s k x) (command_of w s k x)
  command_found w s k r (tree.open_ p h n xs ys) = found_after (open_found s w.context k r h n xs ys) (λ v i. found (gives.open_ i.0, i.1)) (λ x f. fails.open_ f)
  command_found w s k r (tree.close_ p h n xs ys) = found_after (close_found s w.context k r h n xs ys) (λ k' i. found (gives.close_ i.0, i.1)) (λ x f. fails.close_ f)
  command_found w s k r (tree.leak_ p a) = found_as (λ v i. (gives.leak_ i.0, i.1)) (λ x f. fails.leak_ f) (parts_found w.context s k r (part_list a))
  command_found w s k r (tree.assert_ p a) = found_as (λ v i. (gives.assert_ i.0, i.1)) (λ x f. fails.assert_ f) (parts_found w.context s k r (part_list a))
  command_found w s k r (tree.declaration p u n e) = found_as (λ v i. i) (λ x f. fails.declaration f) (declaration_found s w k r p u n e)
  command_found w s k r (tree.assignment p x e) = found_after (assignment_found s w k r p x e) (λ k' i. found (gives.assignment i.0, i.1)) (λ y f. fails.assignment f)
  command_found w s k r (tree.call_ p f xs) = found_after (call_found s w.context k r p f (ghost_expr_list xs)) (λ k' i. found (gives.call_ i.0, i.1)) (λ y a. fails.call_ a)
  command_found w s k r (tree.if_ p e xs) = found_after (pass_found s w.context k bool_sort (place_of e) r tt e)
      (λ k₁ h. found_as (λ v a. (gives.if_ h.0 a.0, grows_on h.1 a.1)) (λ y f. fails.if_block h.0 f) (in_block (commands_found w s k₁ h.1.resolved xs)))
      (λ y f. fails.if_test f)
  command_found w s k r (tree.if_else p e xs ys) = found_after (pass_found s w.context k bool_sort (place_of e) r tt e)
      (λ k₁ h. found_after (in_block (commands_found w s k₁ h.1.resolved xs))
      (λ v a. found_as (λ u b. (gives.if_else h.0 a.0 b.0, grows_on h.1 (grows_on a.1 b.1))) (λ y f. fails.second_block h.0 a.0 f) (in_block (commands_found w v.0 v.1 a.1.resolved ys)))
      (λ y f. fails.first_block h.0 f))
      (λ y f. fails.test f)
  command_found w s k r (tree.switch_ p e cs) = found_after (switch_found s w.context k e (λ d. are_cases s d cs) r)
      (λ v h. found_as (λ u a. (gives.switch_ (switches_so h.0) a.0, grows_on h.1.grows a.1)) (λ y f. fails.a_case (switches_so h.0) f) (cases_found w s v.0 v.1 v.2 h.1.grows.resolved cs))
      (λ y f. fails.switch_ (switch_fails f))
  command_found w s k r (tree.block p xs) = found_as (λ v a. (gives.block a.0, a.1)) (λ y f. fails.block f) (in_block (commands_found w s k r xs))

  pub commands_found : (w : Around) (s : Scope) (k : Known) → IsResolved k → (xs : GhostCommandTrees) → Found (λ v. gives.CommandsGive w s k xs v.0 v.1 × Grows k v.1) (fails.AnyCommandFails w s k xs) (commands_of w s k xs)
  commands_found w s k r no_ghost_command = found (gives.no_commands, stays r)
  commands_found w s k r (more_ghost_command x xs) = found_after (command_found w s k r x)
      (λ v h. found_as (λ u a. (gives.more_commands h.0 a.0, grows_on h.1 a.1)) (λ y f. fails.later_command h.0 f) (commands_found w v.0 v.1 h.1.resolved xs))
      (λ y f. fails.this_command f)

  case_found : (w : Around) (s : Scope) (first n : ℕ) (k : Known) → IsResolved k → (x : CommandCaseTree) → Found (λ v. gives.CaseGives w s first n k x v.0 v.1 × Grows k v.1) (fails.CaseFails w s first n k x) (case_of w s first n k x)
  case_found w s first n k r (tree.command_case p x xs) = found_after (case_names_found s (names_or_none x.names) (case_sorts s first n x) x.constructor.place)
      (λ b h. found_after (commands_found w (with_names s b) k r xs) (λ v a. found (gives.a_case h a.0, a.1)) (λ y f. fails.body h f))
      (λ y f. fails.name_ f)

  cases_found : (w : Around) (s : Scope) (first n : ℕ) (k : Known) → IsResolved k → (xs : CommandCaseTrees) → Found (λ v. gives.CasesGive w s first n k xs v.0 v.1 × Grows k v.1) (fails.AnyCaseFails w s first n k xs) (cases_of w s first n k xs)
  cases_found w s first n k r no_command_case = found (gives.no_cases, stays r)
  cases_found w s first n k r (more_command_case x xs) = found_after (case_found w s first n k r x)
      (λ v h. found_as (λ u a. (gives.more_cases h.0 a.0, grows_on h.1 a.1)) (λ y f. fails.later_case h.0 f) (cases_found w v.0 first n v.1 h.1.resolved xs))
      (λ y f. fails.this_case f)
