-- `if`, from its parts.
use Rattle.std.proofs.Common.{◌≡◌, ℕ, List, [], sym, ap, ◌∙◌}
use Rattle.vf_base.specs.declared.place.Place.{Place}
use Rattle.vf_syntax.specs.GhostExprTree.{GhostExprTree}
use Rattle.vf_syntax.specs.GhostCommandTree as written
use Rattle.vf_asserting.specs.Leaving.{count}
use Rattle.vf_resolved.specs.CommandTree.{CommandTree, command_list}
use Rattle.vf_resolved.specs.CommandTree as tree
use Rattle.vf_resolved_parts.specs.Truths.{truth}
use Rattle.vf_resolved_parts.specs.declared.truth_reading.TruthReading.{TruthReading}
use Rattle.vf_resolving.specs.Standings.{Around, Standing, counting, setting_at}
use Rattle.vf_resolved_commands.specs.Commands.{CommandResolved, CommandsResolved, command_resolved, commands_resolved, enclosed, if_of, none_else}

-- the commands behind a test that is read
abbrev pub first_branch : Around → List (List ℕ) → Standing → written.GhostCommandTrees → TruthReading → CommandsResolved
first_branch a ps s xs t = enclosed (count s.scope) (commands_resolved a ps (counting t.next s) xs)

-- an `if` whose second branch is still to be resolved
abbrev pub with_second : Around → List (List ℕ) → Place → TruthReading → written.GhostCommandTrees → CommandsResolved → CommandResolved
with_second a ps p t ys r = if_of p t.truth r (enclosed (count r.standing.scope) (commands_resolved a ps r.standing ys))

-- an `if` without `else`
pub if_told : (a : Around) (ps : List (List ℕ)) (s s₁ : Standing) (p : Place) (e : GhostExprTree) (xs : written.GhostCommandTrees) (t : TruthReading) (y z : List CommandTree)
    → t ≡ truth (setting_at a s) s.next e
    → enclosed (count s.scope) (commands_resolved a ps (counting t.next s) xs) ≡ record { commands = y; standing = s₁ }
    → z ≡ []
    → command_resolved a ps s (written.if_ p e xs) ≡ record { command = tree.if_ p t.truth (command_list y) (command_list z); standing = s₁ }
if_told a ps s s₁ p e xs t y z is first none =
    sym (ap (λ (u : TruthReading). if_of p u.truth (first_branch a ps s xs u) (none_else (first_branch a ps s xs u))) is)
    ∙ ap (λ (r : CommandsResolved). if_of p t.truth r (none_else r)) first
    ∙ sym (ap (λ (zs : List CommandTree). if_of p t.truth (record { commands = y; standing = s₁ }) (record { commands = zs; standing = s₁ })) none)

-- an `if` with `else`
pub choice_told : (a : Around) (ps : List (List ℕ)) (s s₁ s₂ : Standing) (p : Place) (e : GhostExprTree) (xs ys : written.GhostCommandTrees) (t : TruthReading) (y z : List CommandTree)
    → t ≡ truth (setting_at a s) s.next e
    → enclosed (count s.scope) (commands_resolved a ps (counting t.next s) xs) ≡ record { commands = y; standing = s₁ }
    → enclosed (count s₁.scope) (commands_resolved a ps s₁ ys) ≡ record { commands = z; standing = s₂ }
    → command_resolved a ps s (written.if_else p e xs ys) ≡ record { command = tree.if_ p t.truth (command_list y) (command_list z); standing = s₂ }
choice_told a ps s s₁ s₂ p e xs ys t y z is first second =
    sym (ap (λ (u : TruthReading). with_second a ps p u ys (first_branch a ps s xs u)) is)
    ∙ ap (with_second a ps p t ys) first
    ∙ ap (if_of p t.truth (record { commands = y; standing = s₁ })) second
