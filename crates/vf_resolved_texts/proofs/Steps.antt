-- What ghost commands come to where they are sorted and resolved, from the answers for their parts.
use Rattle.std.proofs.Common.{◌≡◌, ℕ, ◌+◌, ◌≤◌, List, [], ◌∷◌, ◌++◌, length, drop, Some, slice_get, Result, Ok, Err, refl, sym, subst, ap, ◌∙◌}
use Rattle.vf_base.specs.declared.refusal.Refusal.{Refusal}
use Rattle.vf_base.specs.declared.refusal.RuleFault.{RuleFault}
use Rattle.vf_base.specs.declared.refusal.RuleFault.TheVariants as faults
use Rattle.vf_sorts.specs.Unknowns.{Known}
use Rattle.vf_declared.specs.Changes.{first_locals}
use Rattle.vf_declared.specs.declared.locals.Locals.{Locals}
use Rattle.vf_declared.specs.declared.scope.Scope.{Scope}
use Rattle.vf_syntax.specs.GhostCommandTree.{GhostCommandTree}
use Rattle.vf_sorting.proofs.Lists.{left_at, left_end}
use Rattle.vf_binding.proofs.Steps.{failing, wanting}
use Rattle.vf_asserting.specs.Leaving.{count, left}
use Rattle.vf_commands.specs.declared.around.Around.{Around}
use Rattle.vf_commands.specs.Answers.{IsCommand}
use Rattle.vf_commands.specs.Gives.{CommandGives}
use Rattle.vf_commands.specs.IsRefused.{CommandFails}
use Rattle.vf_resolved.specs.CommandTree.{CommandTree}
use Rattle.vf_resolving.specs.Standings.{Standing}
use Rattle.vf_resolved_contracts.specs.Reading.{around_with}
use Rattle.vf_resolved_commands.specs.Commands.{CommandResolved, CommandsResolved, command_in_front, command_resolved}
use Rattle.vf_resolved_texts.specs.Resolves.{AnyCommandStops, AreCommandsTold, CommandKnows, CommandResolves, CommandsResolve, IsCommandKnown, IsCommandTold, anew}
use Rattle.vf_resolved_texts.specs.Resolves as resolved

pub command_fails : {w : Around} {x : GhostCommandTree} {s s₁ t : Scope} {k k₁ : Known} {res : Result Known RuleFault} (e : RuleFault) → k ≡ [] → IsCommand {A = Unit {0}} w s k x (Err e) s₁ k₁ → res ≡ Err e → IsCommandKnown w x s res t
command_fails {w = w} {x = x} {s = s} e z i q =
    record { answers = failing _ _ _ e (λ r h. subst (λ (k : Known). CommandFails w s k x r) z h) i.answers q }

pub command_known : {w : Around} {x : GhostCommandTree} {s s₁ : Scope} {k k₁ : Known} {m : ℕ} {l : Locals} → m ≡ count s → k ≡ [] → IsCommand {A = Unit {0}} w s k x (Ok tt) s₁ k₁ → l ≡ first_locals s₁.locals m → IsCommandKnown w x s (Ok k₁) (record s₁ { locals = l })
command_known {w = w} {x = x} {s = s} {s₁ = s₁} {k₁ = k₁} {m = m} {l = l} n z i f =
    let is : record s₁ { locals = l } ≡ left (count s) s₁ = ap (λ (y : Locals). record s₁ { locals = y }) (f ∙ ap (first_locals s₁.locals) n) in
    subst (λ (t : Scope). IsCommandKnown w x s (Ok k₁) t) (sym is) (record { answers = resolved.CommandKnows.knows (subst (λ (k : Known). CommandGives w s k x s₁ k₁) z i.answers.1) })

pub memory_of_command : {w : Around} {paths : List (List ℕ)} {x : GhostCommandTree} {s t : Standing} {res : Result CommandTree RuleFault} → res ≡ Err faults.Memory → IsCommandTold w paths x s res t
memory_of_command q = record { answers = wanting _ _ q }

pub command_stops : {w : Around} {paths : List (List ℕ)} {x : GhostCommandTree} {s t : Standing} {u : Scope} {res : Result CommandTree RuleFault} (e : RuleFault) → IsCommandKnown w x s.scope (Err e) u → res ≡ Err e → IsCommandTold w paths x s res t
command_stops e i q = record { answers = failing _ _ _ e (λ r h. h) i.answers q }

pub command_told : {w : Around} {paths : List (List ℕ)} {x : GhostCommandTree} {s t : Standing} {u : Scope} {k : Known} {y : CommandTree} → IsCommandKnown w x s.scope (Ok k) u → command_resolved (around_with w.context k paths) w.parameters (anew u s) x ≡ record { command = y; standing = t } → IsCommandTold w paths x s (Ok y) t
command_told {w = w} {paths = paths} {x = x} {s = s} i f =
    record { answers = subst (λ (z : CommandResolved). CommandResolves w paths x s z) f (resolved.CommandResolves.resolves i.answers) }

-- ---- several
append_one : {A : Type 0} (xs ys : List A) (x : A) → (xs ++ x ∷ []) ++ ys ≡ xs ++ x ∷ ys
append_one [] ys x = refl
append_one (y ∷ xs) ys x = ap (λ zs. y ∷ zs) (append_one xs ys x)

append_none : {A : Type 0} (xs : List A) → xs ++ [] ≡ xs
append_none [] = refl
append_none (x ∷ xs) = ap (λ ys. x ∷ ys) (append_none xs)

-- commands in front of others
abbrev pub put_before : List CommandTree → CommandsResolved → CommandsResolved
put_before xs r = record { commands = xs ++ r.commands; standing = r.standing }

-- Behind some commands, which are resolved, stand others: whatever these come to, all of them come to that behind the first
pub record GoOn (w : Around) (paths : List (List ℕ)) (xs ys : List GhostCommandTree) (s t : Standing) (before : List CommandTree) : Type 0 where
  pub resolve : (r : CommandsResolved) → CommandsResolve w paths ys t r → CommandsResolve w paths xs s (put_before before r)
  pub stop : (r : Refusal) → AnyCommandStops w paths ys t r → AnyCommandStops w paths xs s r

pub begin : {w : Around} {paths : List (List ℕ)} {xs : List GhostCommandTree} {s : Standing} → GoOn w paths xs xs s s []
begin = record { resolve = λ r h. h; stop = λ r h. h }

pub one_more : {w : Around} {paths : List (List ℕ)} {xs : List GhostCommandTree} {s t u : Standing} {before : List CommandTree} {y : CommandTree} (ys : List GhostCommandTree) (i : ℕ) (x : GhostCommandTree) → slice_get ys i ≡ Some x → IsCommandTold w paths x t (Ok y) u → GoOn w paths xs (drop i ys) s t before → GoOn w paths xs (drop (i + 1) ys) s u (before ++ y ∷ [])
one_more {w = w} {paths = paths} {xs = xs} {s = s} {t = t} {u = u} {before = before} {y = y} ys i x e h g = record {
  resolve = λ r a.
      let all : CommandsResolve w paths (x ∷ drop (i + 1) ys) t (command_in_front (record { command = y; standing = u }) r) = resolved.CommandsResolve.more_commands h.answers a in
      let whole = g.resolve _ (subst (λ (zs : List GhostCommandTree). CommandsResolve w paths zs t (command_in_front (record { command = y; standing = u }) r)) (sym (left_at ys i x e)) all) in
      subst (λ (zs : List CommandTree). CommandsResolve w paths xs s (record { commands = zs; standing = r.standing })) (sym (append_one before r.commands y)) whole;
  stop = λ r a. g.stop r (subst (λ (zs : List GhostCommandTree). AnyCommandStops w paths zs t r) (sym (left_at ys i x e)) (resolved.AnyCommandStops.later_command h.answers a));
}

pub ended : {w : Around} {paths : List (List ℕ)} {xs : List GhostCommandTree} {s t : Standing} {before : List CommandTree} (ys : List GhostCommandTree) (i : ℕ) → length ys ≤ i → GoOn w paths xs (drop i ys) s t before → AreCommandsTold w paths xs s (Ok before) t
ended {w = w} {paths = paths} {xs = xs} {s = s} {t = t} {before = before} ys i m g =
    let whole = g.resolve _ (subst (λ (zs : List GhostCommandTree). CommandsResolve w paths zs t (record { commands = []; standing = t })) (sym (left_end ys i m)) resolved.CommandsResolve.no_commands) in
    record { answers = subst (λ (zs : List CommandTree). CommandsResolve w paths xs s (record { commands = zs; standing = t })) (append_none before) whole }

pub stopped : {w : Around} {paths : List (List ℕ)} {xs : List GhostCommandTree} {s t u v : Standing} {before : List CommandTree} {res : Result (List CommandTree) RuleFault} (ys : List GhostCommandTree) (i : ℕ) (x : GhostCommandTree) (e : RuleFault) → slice_get ys i ≡ Some x → IsCommandTold w paths x t (Err e) u → GoOn w paths xs (drop i ys) s t before → res ≡ Err e → AreCommandsTold w paths xs s res v
stopped {w = w} {paths = paths} {t = t} ys i x e f h g q =
    record { answers = failing _ _ _ e (λ r a. g.stop r (subst (λ (zs : List GhostCommandTree). AnyCommandStops w paths zs t r) (sym (left_at ys i x f)) (resolved.AnyCommandStops.this_command a))) h.answers q }

pub no_memory : {w : Around} {paths : List (List ℕ)} {xs : List GhostCommandTree} {s t : Standing} {res : Result (List CommandTree) RuleFault} → res ≡ Err faults.Memory → AreCommandsTold w paths xs s res t
no_memory q = record { answers = wanting _ _ q }
