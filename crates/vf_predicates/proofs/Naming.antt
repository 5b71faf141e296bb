-- How a body of a family for a function goes on, and where it stops.
use Rattle.std.proofs.Common.{◌≡◌, ◌↔◌, IsTrue, ℕ, Bool, true, false, List, [], length, Option, Some, None, Result, Ok, Err, refl, sym, subst, ◌∙◌}
use Rattle.vf_base.specs.declared.refusal.Refusal.{Refusal}
use Rattle.vf_base.specs.declared.refusal.RuleFault.{RuleFault}
use Rattle.vf_base.specs.declared.refusal.RuleFault.TheVariants as faults
use Rattle.vf_base.specs.declared.rule.Rule.TheVariants as rules
use Rattle.vf_sorts.specs.Sorts.{Sort}
use Rattle.vf_declared.specs.Scopes.{ghost_of, sides_of_ghost}
use Rattle.vf_declared.specs.Writing.{with_instance}
use Rattle.vf_declared.specs.declared.scope.Scope.{Scope}
use Rattle.vf_syntax.specs.declared.item.GhostParameter.{GhostParameter}
use Rattle.vf_syntax.specs.declared.written.Name.{Name}
use Rattle.vf_syntax.specs.AssertionTree.{PartTrees}
use Rattle.vf_sorting.specs.Refusals.{refused}
use Rattle.vf_datatypes.specs.Walking.{Gives}
use Rattle.vf_heads.specs.Parameters.{Taken, none_taken, parameters_behind}
use Rattle.vf_walk.specs.Walking.{Follows, Only, Then}
use Rattle.vf_walk.specs.Walking as walking
use Rattle.vf_walk.proofs.Steps.{end_here, end_of, next, next_of}
use Rattle.vf_predicates.specs.Bodies.{BodyComes}
use Rattle.vf_predicates.specs.Earlier.{AreSame, or_none}
use Rattle.vf_predicates.specs.Instances.{AreFound, AreNamed, InstanceComes, IsInstance, NamesFail, family_at, family_sorts, function_at, has_instance}
use Rattle.vf_predicates.specs.Instances as instances
use Rattle.vf_predicates.specs.declared.instances.Instance.{Instance}
use Rattle.vf_predicates.proofs.Coming.{stops}
use Rattle.vf_predicates.proofs.Heads.{gives_too, is_not}

-- a name that is refused
fail : {f g : Name} {s : Scope} {x : Refusal} (y : Refusal) → x ≡ y → NamesFail f g s y → AreNamed f g s (Err (faults.Refused x))
fail {f = f} {g = g} {s = s} y q h = subst (λ (z : Refusal). AreNamed f g s (Err (faults.Refused z))) (sym q) (record { answers = h })

pub no_family : (f g : Name) (s : Scope) (o : Option ℕ) (x : Refusal) → o ≡ family_at s f → o ≡ None → x ≡ refused rules.Name f.place → AreNamed f g s (Err (faults.Refused x))
no_family f g s o x w h q = fail (refused rules.Name f.place) q (instances.NamesFail.no_family (sym w ∙ h))

pub no_function : (f g : Name) (s : Scope) (o u : Option ℕ) (k : ℕ) (x : Refusal) → o ≡ family_at s f → o ≡ Some k → u ≡ function_at s g → u ≡ None → x ≡ refused rules.Name g.place → AreNamed f g s (Err (faults.Refused x))
no_function f g s o u k x w h v i q = fail (refused rules.Name g.place) q (instances.NamesFail.no_function (sym w ∙ h) (sym v ∙ i))

pub again : (f g : Name) (s : Scope) (o u : Option ℕ) (k m : ℕ) (b : Bool) (x : Refusal) → o ≡ family_at s f → o ≡ Some k → u ≡ function_at s g → u ≡ Some m → b ≡ has_instance (sides_of_ghost s k) m → b ≡ true → x ≡ refused rules.Name g.place → AreNamed f g s (Err (faults.Refused x))
again f g s o u k m b x w h v i z y q = fail (refused rules.Name g.place) q (instances.NamesFail.again (sym w ∙ h) (sym v ∙ i) (sym z ∙ y))

pub found : (f g : Name) (s : Scope) (o u : Option ℕ) (k m : ℕ) (b : Bool) → o ≡ family_at s f → o ≡ Some k → u ≡ function_at s g → u ≡ Some m → b ≡ has_instance (sides_of_ghost s k) m → b ≡ false → AreNamed f g s (Ok (record { family = k; function = m }))
found f g s o u k m b w h v i z y = record { answers = instances.found (sym w ∙ h) (sym v ∙ i) (sym z ∙ y) }

-- the parameters have other sorts than the family's
pub agree_differs : (f : Name) (k m : ℕ) (s t : Scope) (ts us : List Sort) (b : Bool) (e : RuleFault) → us ≡ or_none (family_sorts (ghost_of s k)) → (IsTrue b ↔ AreSame ts us) → b ≡ false → e ≡ faults.Refused (refused rules.Name f.place) → Follows (IsInstance f k m (record { scope = s; sorts = ts })) (Err e) t
agree_differs f k m s t ts us b e w i other q =
    subst (λ (d : RuleFault). Follows (IsInstance f k m (record { scope = s; sorts = ts })) (Err d) t) (sym q)
    (walking.to_refusal (instances.differs (λ h. is_not other (i.1 (subst (AreSame ts) (sym w) h)))))

-- they have the same sorts
pub agree_well : (f : Name) (k m : ℕ) (s t : Scope) (ts us : List Sort) (b : Bool) (r : Result (Unit {0}) RuleFault) → us ≡ or_none (family_sorts (ghost_of s k)) → (IsTrue b ↔ AreSame ts us) → b ≡ true → t ≡ with_instance s k m → r ≡ Ok tt → Follows (IsInstance f k m (record { scope = s; sorts = ts })) r t
agree_well f k m s t ts us b r w i yes_ q is =
    subst (λ (x : Result (Unit {0}) RuleFault). Follows (IsInstance f k m (record { scope = s; sorts = ts })) x t) (sym is)
    (subst (λ (u : Scope). Follows (IsInstance f k m (record { scope = s; sorts = ts })) (Ok tt) u) (sym q)
    (walking.to_end (instances.agreed (subst (AreSame ts) w (i.0 yes_)))))

-- what follows the names counts
more : {f g : Name} {gs : List GhostParameter} {xs : PartTrees} {s t : Scope} {k m : ℕ} {r : Result (Unit {0}) RuleFault} → AreFound f g s k m → Follows (Then (Then (Only (parameters_behind [] gs (none_taken s))) (IsInstance f k m)) (BodyComes (length s.locals.names) xs)) r t → Follows (InstanceComes f g gs xs s) r t
more h (walking.to_end p) = walking.to_end (instances.body h p)
more h (walking.to_refusal p) = walking.to_refusal (instances.body h p)
more h walking.out_of_memory = walking.out_of_memory

-- a name is refused
pub names_fail : (f g : Name) (gs : List GhostParameter) (xs : PartTrees) (s t : Scope) (e : RuleFault) (r : Result (Unit {0}) RuleFault) → AreNamed f g s (Err e) → r ≡ Err e → Follows (InstanceComes f g gs xs s) r t
names_fail f g gs xs s t e r h is = stops (NamesFail f g s) e (λ x n. instances.names n) h.answers is

-- the parameters are refused
pub parameters_fail : (f g : Name) (gs : List GhostParameter) (xs : PartTrees) (s t : Scope) (i : Instance) (x : Taken) (e : RuleFault) (r : Result (Unit {0}) RuleFault) → AreNamed f g s (Ok i) → Gives (Err e) x (parameters_behind [] gs (none_taken s)) → r ≡ Err e → Follows (InstanceComes f g gs xs s) r t
parameters_fail f g gs xs s t i x e r h p is = more h.answers (end_here (end_of {t = s} (parameters_behind [] gs (none_taken s)) x (gives_too (Err e) x (parameters_behind [] gs (none_taken s)) p) refl) is)

-- they have other sorts than the family's
pub sorts_fail : (f g : Name) (gs : List GhostParameter) (xs : PartTrees) (s u t : Scope) (i : Instance) (x : Taken) (e : RuleFault) (r : Result (Unit {0}) RuleFault) → AreNamed f g s (Ok i) → parameters_behind [] gs (none_taken s) ≡ Ok x → Follows (IsInstance f i.family i.function x) (Err e) u → r ≡ Err e → Follows (InstanceComes f g gs xs s) r t
sorts_fail f g gs xs s u t i x e r h p a is = more h.answers (end_here (next_of p a) is)

-- a whole body
pub comes : (f g : Name) (gs : List GhostParameter) (xs : PartTrees) (s u t : Scope) (i : Instance) (x : Taken) (c : ℕ) (r : Result (Unit {0}) RuleFault) → AreNamed f g s (Ok i) → c ≡ length s.locals.names → parameters_behind [] gs (none_taken s) ≡ Ok x → Follows (IsInstance f i.family i.function x) (Ok tt) u → Follows (BodyComes c xs u) r t → Follows (InstanceComes f g gs xs s) r t
comes f g gs xs s u t i x c r h e p a b = more h.answers (next (next_of p a) (subst (λ (j : ℕ). Follows (BodyComes j xs u) r t) e b))
