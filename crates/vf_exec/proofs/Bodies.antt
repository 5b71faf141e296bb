-- Bodies, one step after another.
use Rattle.std.proofs.Common.{◌≡◌, ◌∙◌, refl, sym, ap, subst, ℕ, ◌+◌, ◌<◌, List, [], ◌∷◌, drop, length, map, get_or, replicate, Option, Some, None, true, false, Result, Ok, Err, arith}
use Rattle.std.specs.Prelude.{slice_set, slice_get}
use Rattle.std.proofs.Math.Seq.{drop-length}
use Rattle.vf_base.specs.declared.place.Place.{Place}
use Rattle.vf_tree.specs.declared.unit.Function.{Function}
use Rattle.vf_tree.specs.declared.unit.Core.{Core}
use Rattle.vf_trail.specs.declared.node.Node.{Node}
use Rattle.vf_trail.proofs.Paths.{path_root}
use Rattle.vf_tree.specs.declared.unit.Expression.{Expression}
use Rattle.vf_tree.specs.declared.unit.CoreStep.{CoreStep}
use Rattle.vf_tree.specs.declared.unit.CoreStep.TheVariants as steps
use Rattle.vf_base.specs.declared.refusal.Refusal.{Refusal}
use Rattle.vf_base.specs.declared.refusal.RuleFault.{RuleFault}
use Rattle.vf_base.specs.declared.refusal.RuleFault.TheVariants.{Refused}
use Rattle.vf_base.specs.declared.rule.Rule.TheVariants as rules
use Rattle.vf_tree.specs.declared.unit.Pure.{Pure}
use Rattle.vf_closure.specs.Literals.{Literal}
use Rattle.vf_asking.specs.declared.journal.Journal.{Journal}
use Rattle.vf_closure.specs.Literals.{False}
use Rattle.vf_formula.specs.Literals.{shown_literal}
use Rattle.vf_asking.specs.Journal.{Seen, HasNode, path_at, path_to}
use Rattle.vf_asking.specs.Course.{Course, Follows, Blames, Reaches, refusal, asked, pushed}
use Rattle.vf_asking.proofs.Following.{reaches_here, reaches_try, reaches_step, reaches_end, reaches_blames, blames_try, blames_later, blames_refused, blames_memory, follows_done, follows_try}
use Rattle.vf_asking.proofs.Seeing.{grew_not, grew_on, grew_path, grew_node, grew_begun}
use Rattle.vf_exec.specs.declared.sum.NumberTerm.{NumberTerm}
use Rattle.vf_exec.specs.Main.{Locals, returns, required, postcondition_of, place_of, evaluates, leaves, runs, enters, precondition_of, assumes, checks_function, checks_main, checks}
use Rattle.vf_exec.proofs.Sums.{rest_of}
use Rattle.vf_exec.proofs.Steps.{done_follows, done_later, done_refused}

module _ (post : Pure) (path : List Literal) (z : NumberTerm) (s t : Seen) where
  pub returns_ok : (goal : Literal) → postcondition_of post z ≡ Ok goal → Follows (required rules.Pure (place_of post) path goal) s t (Ok tt) → Follows (returns post path z) s t (Ok tt)
  unfolding returns
  returns_ok goal e p = done_follows _ _ s t goal (Ok tt) e p

  pub returns_fails : (goal : Literal) (f : RuleFault) → postcondition_of post z ≡ Ok goal → Blames (required rules.Pure (place_of post) path goal) s t f → Blames (returns post path z) s t f
  unfolding returns
  returns_fails goal f e b = done_later _ _ s t goal f e b

pub returns_refused : (post : Pure) (path : List Literal) (z : NumberTerm) (s : Seen) (x : Refusal) → postcondition_of post z ≡ Err x → Blames (returns post path z) s s (Refused x)
unfolding returns
returns_refused post path z s x e = done_refused _ _ s x e

pub ruleset returning = (returns_ok, returns_fails, returns_refused, grew_not)

module _ (closing : Place) (name : Place) (post : Pure) (path : List Literal) (c : Course (Result (Unit {0}) Refusal)) (s : Seen) where
  -- before the first step
  pub runs_start : (locals : Locals) (items : List CoreStep) → c ≡ runs closing name post path locals items → Reaches c s (runs closing name post path locals (drop 0 items)) s
  runs_start locals items e = reaches_here _ _ s e

  -- the first step of what is left
  runs_item : (locals : Locals) (items : List CoreStep) (i : ℕ) (step now : CoreStep) (t : Seen) → i < length items → step ≡ get_or items i step → step ≡ now → Reaches c s (runs closing name post path locals (drop i items)) t → Reaches c s (runs closing name post path locals (now ∷ drop (i + 1) items)) t
  runs_item locals items i step now t low is known r = subst (λ (ss : List CoreStep). Reaches c s (runs closing name post path locals ss) t) (rest_of items i step low is ∙ ap (λ x. x ∷ drop (i + 1) items) known) r

  -- a local is set
  pub runs_set : (here : List Literal) (locals new : Locals) (items : List CoreStep) (i : ℕ) (step : CoreStep) (x : ℕ) (e : Expression) (next : ℕ) (z : NumberTerm) (t u : Seen) → here ≡ path → i < length items → step ≡ get_or items i step → step ≡ steps.Set x e next → new ≡ slice_set locals x (Some z) → Reaches c s (runs closing name post path locals (drop i items)) t → Follows (evaluates name here locals e) t u (Ok z) → Reaches c s (runs closing name post path new (drop (i + 1) items)) u
  unfolding runs
  runs_set here locals new items i step x e next z t u same low is known set r p =
      let item = runs_item locals items i step (steps.Set x e next) t low is known r in
      let one = subst (λ (q : List Literal). Follows (evaluates name q locals e) t u (Ok z)) same p in
      subst (λ (ls : Locals). Reaches c s (runs closing name post path ls (drop (i + 1) items)) u) (sym set)
      (reaches_step c _ _ s t u item (reaches_try (evaluates name path locals e) (λ v. runs closing name post path (slice_set locals x (Some v)) (drop (i + 1) items)) t u z one))

  -- a sum is refused
  pub runs_set_fails : (here : List Literal) (locals : Locals) (items : List CoreStep) (i : ℕ) (step : CoreStep) (x : ℕ) (e : Expression) (next : ℕ) (t u : Seen) (fault : RuleFault) → here ≡ path → i < length items → step ≡ get_or items i step → step ≡ steps.Set x e next → Reaches c s (runs closing name post path locals (drop i items)) t → Blames (evaluates name here locals e) t u fault → Blames c s u fault
  unfolding runs
  runs_set_fails here locals items i step x e next t u fault same low is known r b =
      let item = runs_item locals items i step (steps.Set x e next) t low is known r in
      let one = subst (λ (q : List Literal). Blames (evaluates name q locals e) t u fault) same b in
      reaches_blames c _ s t u fault item (blames_try (evaluates name path locals e) (λ v. runs closing name post path (slice_set locals x (Some v)) (drop (i + 1) items)) t u fault one)

  -- the body is left
  pub runs_leave : (here : List Literal) (locals : Locals) (items : List CoreStep) (i : ℕ) (step : CoreStep) (e : Expression) (t u : Seen) → here ≡ path → i < length items → step ≡ get_or items i step → step ≡ steps.Return e → Reaches c s (runs closing name post path locals (drop i items)) t → Follows (leaves name post here locals e) t u (Ok tt) → Follows c s u (Ok tt)
  unfolding runs
  runs_leave here locals items i step e t u same low is known r p =
      let item = runs_item locals items i step (steps.Return e) t low is known r in
      reaches_end c _ s t u (Ok tt) item (subst (λ (q : List Literal). Follows (leaves name post q locals e) t u (Ok tt)) same p)

  -- the body may not be left
  pub runs_leave_fails : (here : List Literal) (locals : Locals) (items : List CoreStep) (i : ℕ) (step : CoreStep) (e : Expression) (t u : Seen) (fault : RuleFault) → here ≡ path → i < length items → step ≡ get_or items i step → step ≡ steps.Return e → Reaches c s (runs closing name post path locals (drop i items)) t → Blames (leaves name post here locals e) t u fault → Blames c s u fault
  unfolding runs
  runs_leave_fails here locals items i step e t u fault same low is known r p =
      let item = runs_item locals items i step (steps.Return e) t low is known r in
      reaches_blames c _ s t u fault item (subst (λ (q : List Literal). Blames (leaves name post q locals e) t u fault) same p)

  -- no step is left
  pub runs_end : (locals : Locals) (items : List CoreStep) (i : ℕ) (t : Seen) → length items ≡ i → Reaches c s (runs closing name post path locals (drop i items)) t → Blames c s t (Refused (refusal rules.NoReturn closing))
  unfolding runs
  runs_end locals items i t all r =
      let none = subst (λ (ss : List CoreStep). Reaches c s (runs closing name post path locals ss) t) (subst (λ (k : ℕ). drop k items ≡ []) all (drop-length items)) r in
      reaches_blames c _ s t t _ none (blames_refused _ t t (refusal rules.NoReturn closing) (follows_done _ _ t t refl refl))

-- a body after its precondition was assumed
module _ (f : Function) (core : Core) (path : List Literal) (s : Seen) where
  pub enters_absurd : (t : Seen) → Follows (asked core.name path False) s t (Ok true) → Follows (enters f core path) s t (Ok tt)
  unfolding enters
  enters_absurd t p = follows_try (asked core.name path False) _ s t t true (Ok tt) p (follows_done _ _ t t refl refl)

  pub enters_unasked : (t : Seen) (fault : RuleFault) → Blames (asked core.name path False) s t fault → Blames (enters f core path) s t fault
  unfolding enters
  enters_unasked t fault b = blames_try (asked core.name path False) _ s t fault b

  pub enters_runs : (here : List Literal) (unset : Locals) (t u : Seen) → here ≡ path → unset ≡ replicate f.locals None → Follows (asked core.name path False) s t (Ok false) → Follows (runs f.closing core.name core.contract.postcondition here unset f.steps) t u (Ok tt) → Follows (enters f core path) s u (Ok tt)
  unfolding enters
  enters_runs here unset t u same is p q =
      let moved = subst (λ (x : Locals). Follows (runs f.closing core.name core.contract.postcondition path x f.steps) t u (Ok tt)) is (subst (λ (x : List Literal). Follows (runs f.closing core.name core.contract.postcondition x unset f.steps) t u (Ok tt)) same q) in
      follows_try (asked core.name path False) _ s t u false (Ok tt) p moved

  pub enters_fails : (here : List Literal) (unset : Locals) (t u : Seen) (fault : RuleFault) → here ≡ path → unset ≡ replicate f.locals None → Follows (asked core.name path False) s t (Ok false) → Blames (runs f.closing core.name core.contract.postcondition here unset f.steps) t u fault → Blames (enters f core path) s u fault
  unfolding enters
  enters_fails here unset t u fault same is p q =
      let moved = subst (λ (x : Locals). Blames (runs f.closing core.name core.contract.postcondition path x f.steps) t u fault) is (subst (λ (x : List Literal). Blames (runs f.closing core.name core.contract.postcondition x unset f.steps) t u fault) same q) in
      blames_later (asked core.name path False) _ s t u false fault p moved

pub ruleset entering = (enters_absurd, enters_unasked, enters_runs, enters_fails, blames_memory, grew_not, grew_on, grew_path, grew_node, grew_begun)

-- the root has no facts
pub root_there : (j : Journal) (root : Node) → root.number ≡ 0 → HasNode j root
unfolding HasNode
root_there j root e = omega arith

pub root_path : (j : Journal) (root : Node) → root.number ≡ 0 → path_at j root ≡ []
unfolding path_at
root_path j root e = ap (λ (n : ℕ). path_to j.trail.facts n) e ∙ ap (λ ls. map shown_literal ls) (path_root j.trail.facts)

-- a precondition that is this literal
module _ (core : Core) (s : Seen) (pre : Literal) (is : pre ≡ precondition_of core.contract.precondition) where
  -- it is asked for, and then hung on the root
  abbrev had : Course (Result (Unit {0}) Refusal)
  had = required rules.Contract core.name [] (precondition_of core.contract.precondition)

  abbrev then : Course (Result (List Literal) Refusal)
  then = pushed core.name [] (precondition_of core.contract.precondition)

  pub assumes_unproved : (here : List Literal) (t : Seen) (fault : RuleFault) → here ≡ [] → Blames (required rules.Contract core.name here pre) s t fault → Blames (assumes core) s t fault
  unfolding assumes
  assumes_unproved here t fault none b =
      let first = subst (λ (x : List Literal). Blames (required rules.Contract core.name x pre) s t fault) none b in
      blames_try had (λ x. then) s t fault (subst (λ (l : Literal). Blames (required rules.Contract core.name [] l) s t fault) is first)

  asks : (here : List Literal) (t : Seen) → here ≡ [] → Follows (required rules.Contract core.name here pre) s t (Ok tt) → Follows (required rules.Contract core.name [] (precondition_of core.contract.precondition)) s t (Ok tt)
  asks here t none p = subst (λ (l : Literal). Follows (required rules.Contract core.name [] l) s t (Ok tt)) is (subst (λ (x : List Literal). Follows (required rules.Contract core.name x pre) s t (Ok tt)) none p)

  pub assumes_full : (here there : List Literal) (t u : Seen) (fault : RuleFault) → here ≡ [] → there ≡ [] → Follows (required rules.Contract core.name here pre) s t (Ok tt) → Blames (pushed core.name there pre) t u fault → Blames (assumes core) s u fault
  unfolding assumes
  assumes_full here there t u fault none empty p b =
      let second = subst (λ (x : List Literal). Blames (pushed core.name x pre) t u fault) empty b in
      blames_later had (λ x. then) s t u tt fault (asks here t none p) (subst (λ (l : Literal). Blames (pushed core.name [] l) t u fault) is second)

  pub assumes_all : (here there path : List Literal) (t u : Seen) → here ≡ [] → there ≡ [] → Follows (required rules.Contract core.name here pre) s t (Ok tt) → Follows (pushed core.name there pre) t u (Ok path) → Follows (assumes core) s u (Ok path)
  unfolding assumes
  assumes_all here there path t u none empty p q =
      let second = subst (λ (x : List Literal). Follows (pushed core.name x pre) t u (Ok path)) empty q in
      follows_try had (λ x. then) s t u tt (Ok path) (asks here t none p) (subst (λ (l : Literal). Follows (pushed core.name [] l) t u (Ok path)) is second)

pub ruleset assuming = (assumes_unproved, assumes_full, assumes_all, root_there, root_path, grew_on, grew_begun)

-- a function
module _ (core : Core) (f : Function) (s t : Seen) where
  pub function_unassumed : (fault : RuleFault) → Blames (assumes core) s t fault → Blames (checks_function core f) s t fault
  unfolding checks_function
  function_unassumed fault b = blames_try (assumes core) (enters f core) s t fault b

  pub function_fails : (path : List Literal) (u : Seen) (fault : RuleFault) → Follows (assumes core) s t (Ok path) → Blames (enters f core path) t u fault → Blames (checks_function core f) s u fault
  unfolding checks_function
  function_fails path u fault p b = blames_later (assumes core) (enters f core) s t u path fault p b

  pub function_checks : (path : List Literal) (u : Seen) → Follows (assumes core) s t (Ok path) → Follows (enters f core path) t u (Ok tt) → Follows (checks_function core f) s u (Ok tt)
  unfolding checks_function
  function_checks path u p q = follows_try (assumes core) (enters f core) s t u path (Ok tt) p q

pub ruleset checking = (function_unassumed, function_fails, function_checks, grew_on, grew_begun)

-- a unit
pub unit_checks : (core : Core) (f : Function) (s t : Seen) → slice_get core.plain.functions core.plain.main ≡ Some f → Follows (checks_function core f) s t (Ok tt) → Follows (checks core) s t (Ok tt)
unfolding checks checks_main
unit_checks core f s t is p = subst (λ (x : Option Function). Follows (checks_main core x) s t (Ok tt)) (sym is) p

pub unit_fails : (core : Core) (f : Function) (s t : Seen) (fault : RuleFault) → slice_get core.plain.functions core.plain.main ≡ Some f → Blames (checks_function core f) s t fault → Blames (checks core) s t fault
unfolding checks checks_main
unit_fails core f s t fault is b = subst (λ (x : Option Function). Blames (checks_main core x) s t fault) (sym is) b

pub unit_without_main : (core : Core) (s : Seen) → slice_get core.plain.functions core.plain.main ≡ None → Follows (checks core) s s (Ok tt)
unfolding checks checks_main
unit_without_main core s none = subst (λ (x : Option Function). Follows (checks_main core x) s s (Ok tt)) (sym none) (follows_done _ _ s s refl refl)

pub ruleset deciding = (unit_checks, unit_fails, unit_without_main, grew_not)
