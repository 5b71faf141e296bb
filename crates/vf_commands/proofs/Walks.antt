-- What ghost commands by themselves and bodies of lemmas come to.
use Rattle.std.proofs.Common.{◌≡◌, ℕ, ◌+◌, ◌≤◌, List, [], length, drop, Result, Ok, Err, Some, None, slice_get, refl, sym, subst}
use Rattle.vf_base.specs.declared.refusal.Refusal.{Refusal}
use Rattle.vf_base.specs.declared.refusal.RuleFault.{RuleFault}
use Rattle.vf_base.specs.declared.refusal.RuleFault.TheVariants as faults
use Rattle.vf_sorts.specs.Unknowns.{Known}
use Rattle.vf_declared.specs.declared.scope.Scope.{Scope}
use Rattle.vf_syntax.specs.GhostCommandTree.{GhostCommandTree, ghost_command_list}
use Rattle.vf_sorting.specs.Answers.{Tells}
use Rattle.vf_sorting.proofs.Steps.{told}
use Rattle.vf_walk.specs.Walking.{Follows, Then, Walked}
use Rattle.vf_walk.specs.Walking as walking
use Rattle.vf_walk.proofs.Lists.{left_at, left_end, left_none}
use Rattle.vf_walk.proofs.Loops.{Leads}
use Rattle.vf_walk.proofs.Steps.{end_here, ended, stays}
use Rattle.vf_commands.specs.declared.around.Around.{Around}
use Rattle.vf_commands.specs.Answers.{IsCommand}
use Rattle.vf_commands.specs.Gives.{CommandGives}
use Rattle.vf_commands.specs.IsRefused.{CommandFails}
use Rattle.vf_commands.specs.Comes.{BodyComes, CommandComes}
use Rattle.vf_commands.specs.Comes as comes

-- a fault that is a refusal is that of the whole
fault : {A : Type 0} {P : Result A Refusal → Type 0} (e : RuleFault) (t : A) → Tells (λ r. P (Err r)) e → Follows P (Err e) t
fault (faults.Refused r) t h = walking.to_refusal h
fault faults.Memory t h = walking.out_of_memory

-- a fault of a part is one of the whole
stops : {A : Type 0} {P : Result A Refusal → Type 0} {res : Result (Unit {0}) RuleFault} {t : A} (Q : Refusal → Type 0) (e : RuleFault) → ((r : Refusal) → Q r → P (Err r)) → Tells Q e → res ≡ Err e → Follows P res t
stops {P = P} {t = t} Q e f a q = subst (λ (r : Result (Unit {0}) RuleFault). Follows P r t) (sym q) (fault e t (told Q (λ r. P (Err r)) e f a))

-- ---- a command by itself
pub command_fails : {w : Around} {x : GhostCommandTree} {s s₁ t : Scope} {k k₁ : Known} {res : Result (Unit {0}) RuleFault} (e : RuleFault) → k ≡ [] → IsCommand {A = Unit {0}} w s k x (Err e) s₁ k₁ → res ≡ Err e → Follows (CommandComes w x s) res t
command_fails {w = w} {x = x} {s = s} e a i q = stops _ e (λ r h. comes.CommandComes.refused (subst (λ (k : Known). CommandFails w s k x r) a h)) i.answers q

pub command_gives : {w : Around} {x : GhostCommandTree} {s s₁ : Scope} {k k₁ : Known} → k ≡ [] → IsCommand {A = Unit {0}} w s k x (Ok tt) s₁ k₁ → Follows (CommandComes w x s) (Ok tt) s₁
command_gives {w = w} {x = x} {s = s} {s₁ = s₁} {k₁ = k₁} a i = walking.to_end (comes.CommandComes.given (subst (λ (k : Known). CommandGives w s k x s₁ k₁) a i.answers.1))

-- ---- commands one after another
-- a walk that follows the rest follows the whole
follow : {P Q : Walked → Type 0} {r : Result (Unit {0}) RuleFault} {s : Scope} → Leads P Q → Follows P r s → Follows Q r s
follow l (walking.to_end h) = walking.to_end (l.leads _ h)
follow l (walking.to_refusal h) = walking.to_refusal (l.leads _ h)
follow l walking.out_of_memory = walking.out_of_memory

-- a first part is done
part_done : {P W : Walked → Type 0} {Q : Scope → Walked → Type 0} {s : Scope} → P (Ok s) → Leads (Then P Q) W → Leads (Q s) W
part_done h l = record { leads = λ w k. l.leads w (walking.goes h k) }

-- one more command
pub commands_more : (a : Around) (xs : List GhostCommandTree) (i : ℕ) (x : GhostCommandTree) (s u : Scope) (W : Walked → Type 0) → slice_get xs i ≡ Some x → Follows (CommandComes a x s) (Ok tt) u → Leads (BodyComes a (ghost_command_list (drop i xs)) s) W → Leads (BodyComes a (ghost_command_list (drop (i + 1) xs)) u) W
commands_more a xs i x s u W h step l = part_done (ended step) (subst (λ (ys : List GhostCommandTree). Leads (BodyComes a (ghost_command_list ys) s) W) (left_at xs i x h) l)

-- a command is refused
pub commands_stop : (a : Around) (xs : List GhostCommandTree) (i : ℕ) (x : GhostCommandTree) (s u v : Scope) (e : RuleFault) (W : Walked → Type 0) → slice_get xs i ≡ Some x → Follows (CommandComes a x s) (Err e) u → Leads (BodyComes a (ghost_command_list (drop i xs)) s) W → Follows W (Err e) v
commands_stop a xs i x s u v e W h step l = follow (subst (λ (ys : List GhostCommandTree). Leads (BodyComes a (ghost_command_list ys) s) W) (left_at xs i x h) l) (end_here step refl)

-- no command stands at an index
pub commands_none : (a : Around) (xs : List GhostCommandTree) (i : ℕ) (s : Scope) (W : Walked → Type 0) → slice_get xs i ≡ None → Leads (BodyComes a (ghost_command_list (drop i xs)) s) W → Follows W (Ok tt) s
commands_none a xs i s W h l = follow (subst (λ (ys : List GhostCommandTree). Leads (BodyComes a (ghost_command_list ys) s) W) (left_none xs i h) l) (stays s)

-- the list is done
pub commands_end : (a : Around) (xs : List GhostCommandTree) (i : ℕ) (s : Scope) (W : Walked → Type 0) → length xs ≤ i → Leads (BodyComes a (ghost_command_list (drop i xs)) s) W → Follows W (Ok tt) s
commands_end a xs i s W h l = follow (subst (λ (ys : List GhostCommandTree). Leads (BodyComes a (ghost_command_list ys) s) W) (left_end xs i h) l) (stays s)
