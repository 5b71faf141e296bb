-- Commands, branches and arguments, one by one.
use Rattle.std.proofs.Common.{◌≡◌, ℕ, zero, suc, ◌+◌, ◌≤◌, List, [], ◌∷◌, ◌++◌, length, min, drop, Some, slice_get, refl, sym, ap, ap₂, ◌∙◌, arith}
use Rattle.vf_closure.specs.Terms.{Term}
use Rattle.vf_sorts.specs.Sorts.{Sort}
use Rattle.vf_syntax.specs.GhostCommandTree as written
use Rattle.vf_syntax.specs.GhostCommandTree.{command_case_list, ghost_command_list}
use Rattle.vf_syntax.specs.GhostExprTree.{GhostExprTree}
use Rattle.vf_sorting.proofs.Lists.{left_at}
use Rattle.vf_terms.specs.Settings.{Setting}
use Rattle.vf_terms.specs.Readings.{in_front}
use Rattle.vf_terms.specs.declared.reading.Reading.{Reading}
use Rattle.vf_terms.specs.declared.reading.Row.{Row}
use Rattle.vf_resolved.specs.CommandTree.{CommandBranchTree, CommandTree}
use Rattle.vf_resolved_parts.specs.Patterns.{passed}
use Rattle.vf_resolving.specs.Standings.{Around, Standing}
use Rattle.vf_resolving.specs.declared.cases.Switched.{Switched}
use Rattle.vf_resolved_commands.specs.Commands.{BranchResolved, BranchesResolved, CommandResolved, CommandsResolved, all_passed, branch_in_front, branch_resolved, branches_resolved, command_in_front, command_resolved, commands_resolved}

append_one : {A : Type 0} (xs ys : List A) (x : A) → (xs ++ x ∷ []) ++ ys ≡ xs ++ x ∷ ys
append_one [] ys x = refl
append_one (y ∷ xs) ys x = ap (λ zs. y ∷ zs) (append_one xs ys x)

append_none : {A : Type 0} (xs : List A) → xs ++ [] ≡ xs
append_none [] = refl
append_none (x ∷ xs) = ap (λ ys. x ∷ ys) (append_none xs)

-- ---- commands
-- commands in front of others
abbrev pub put_commands : List CommandTree → CommandsResolved → CommandsResolved
put_commands xs r = record { commands = xs ++ r.commands; standing = r.standing }

one_command : (xs : List CommandTree) (y : CommandTree) (r : CommandsResolved) → put_commands (xs ++ y ∷ []) r ≡ put_commands xs (record { commands = y ∷ r.commands; standing = r.standing })
one_command xs y r = λ i. record { commands = append_one xs r.commands y i; standing = r.standing }

-- one command more
pub more_commands : (a : Around) (ps : List (List ℕ)) (s s' : Standing) (xs : List written.GhostCommandTree) (i : ℕ) (x : written.GhostCommandTree) (before : List CommandTree) (y : CommandTree) (w : CommandsResolved)
    → slice_get xs i ≡ Some x → command_resolved a ps s x ≡ record { command = y; standing = s' }
    → put_commands before (commands_resolved a ps s (ghost_command_list (drop i xs))) ≡ w
    → put_commands (before ++ y ∷ []) (commands_resolved a ps s' (ghost_command_list (drop (i + 1) xs))) ≡ w
more_commands a ps s s' xs i x before y w e is h =
    one_command before y (commands_resolved a ps s' (ghost_command_list (drop (i + 1) xs)))
    ∙ sym (ap (λ (z : CommandResolved). put_commands before (command_in_front z (commands_resolved a ps z.standing (ghost_command_list (drop (i + 1) xs))))) is)
    ∙ sym (ap (λ ys. put_commands before (commands_resolved a ps s (ghost_command_list ys))) (left_at xs i x e))
    ∙ h

-- ---- branches
-- branches in front of others
abbrev pub put_branches : List CommandBranchTree → BranchesResolved → BranchesResolved
put_branches xs r = record { branches = xs ++ r.branches; standing = r.standing }

one_branch : (xs : List CommandBranchTree) (y : CommandBranchTree) (r : BranchesResolved) → put_branches (xs ++ y ∷ []) r ≡ put_branches xs (record { branches = y ∷ r.branches; standing = r.standing })
one_branch xs y r = λ i. record { branches = append_one xs r.branches y i; standing = r.standing }

-- one branch more
pub more_branches : (a : Around) (ps : List (List ℕ)) (o : Switched) (s s' : Standing) (xs : List written.CommandCaseTree) (i : ℕ) (x : written.CommandCaseTree) (before : List CommandBranchTree) (y : CommandBranchTree) (w : BranchesResolved)
    → slice_get xs i ≡ Some x → branch_resolved a ps o s x ≡ record { branch = y; standing = s' }
    → put_branches before (branches_resolved a ps o s (command_case_list (drop i xs))) ≡ w
    → put_branches (before ++ y ∷ []) (branches_resolved a ps o s' (command_case_list (drop (i + 1) xs))) ≡ w
more_branches a ps o s s' xs i x before y w e is h =
    one_branch before y (branches_resolved a ps o s' (command_case_list (drop (i + 1) xs)))
    ∙ sym (ap (λ (z : BranchResolved). put_branches before (branch_in_front z (branches_resolved a ps o z.standing (command_case_list (drop (i + 1) xs))))) is)
    ∙ sym (ap (λ ys. put_branches before (branches_resolved a ps o s (command_case_list ys))) (left_at xs i x e))
    ∙ h

-- ---- arguments
-- terms in front of a row
abbrev pub put_terms : List Term → Row → Row
put_terms ts r = record { terms = ts ++ r.terms; next = r.next }

one_term : (ts : List Term) (t : Term) (r : Row) → put_terms (ts ++ t ∷ []) r ≡ put_terms ts (record { terms = t ∷ r.terms; next = r.next })
one_term ts t r = λ i. record { terms = append_one ts r.terms t i; next = r.next }

-- one argument more
pub more_passed : (s : Setting) (ts : List Sort) (xs : List GhostExprTree) (i u : ℕ) (t : Sort) (x : GhostExprTree) (before : List Term) (y : Reading) (w : Row)
    → slice_get ts i ≡ Some t → slice_get xs i ≡ Some x → y ≡ passed s t u x
    → put_terms before (all_passed s (drop i ts) u (drop i xs)) ≡ w
    → put_terms (before ++ y.term ∷ []) (all_passed s (drop (i + 1) ts) y.next (drop (i + 1) xs)) ≡ w
more_passed s ts xs i u t x before y w e f is h =
    one_term before y.term (all_passed s (drop (i + 1) ts) y.next (drop (i + 1) xs))
    ∙ ap (λ (z : Reading). put_terms before (in_front z (all_passed s (drop (i + 1) ts) z.next (drop (i + 1) xs)))) is
    ∙ sym (ap₂ (λ us ys. put_terms before (all_passed s us u ys)) (left_at ts i t e) (left_at xs i x f))
    ∙ h

none_passed : (s : Setting) (u : ℕ) (ts : List Sort) → all_passed s ts u [] ≡ record { terms = []; next = u }
none_passed s u [] = refl
none_passed s u (t ∷ ts) = refl

passed_end : (s : Setting) (u : ℕ) (ts : List Sort) (xs : List GhostExprTree) (i : ℕ) → min (length xs) (length ts) ≤ i → all_passed s (drop i ts) u (drop i xs) ≡ record { terms = []; next = u }
passed_end s u [] xs zero h = refl
passed_end s u (t ∷ ts) [] zero h = refl
passed_end s u (t ∷ ts) (x ∷ xs) zero h = absurd (omega (arith, h))
passed_end s u [] xs (suc i) h = refl
passed_end s u (t ∷ ts) [] (suc i) h = none_passed s u (drop i ts)
passed_end s u (t ∷ ts) (x ∷ xs) (suc i) h = passed_end s u ts xs i (omega (arith, h))

-- no argument more
pub passed_all : (s : Setting) (ts : List Sort) (xs : List GhostExprTree) (i : ℕ) (r w : Row) → min (length xs) (length ts) ≤ i
    → put_terms r.terms (all_passed s (drop i ts) r.next (drop i xs)) ≡ w → r ≡ w
passed_all s ts xs i r w l h =
    sym (ap (put_terms r.terms) (passed_end s r.next ts xs i l) ∙ (λ j. record { terms = append_none r.terms j; next = r.next })) ∙ h
