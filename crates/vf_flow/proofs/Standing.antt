-- Each step stands at its number.
use Rattle.std.proofs.Common.{◌≡◌, ℕ, zero, suc, ◌+◌, true, if◌then◌else◌, List, [], ◌∷◌, ◌++◌, length, take, is_some, Option, Some, None, option_map, slice_get, refl, sym, ap, ◌∙◌, arith}
use Rattle.std.specs.Prelude.{option_to_list}
use Rattle.vf_tree.specs.Core.{StepTree}
use Rattle.vf_steps.specs.Tree.{ActionTree, NodeTree}
use Rattle.vf_steps.specs.Tree as tree
use Rattle.vf_steps.specs.Core.{Identities, step_tree}
use Rattle.vf_flow.specs.declared.flow.Flow.{Flow}
use Rattle.vf_flow.specs.declared.flow.Flow.TheVariants as flows
use Rattle.vf_flow.specs.Leads.{comes_to, count_steps, is_step, leads, step_number}
use Rattle.vf_flow.specs.Steps.{flow_of, flows_of, number_of, renumbered, steps_from}
use Rattle.vf_flow.specs.Laws.{AllStepsStand}
use Rattle.vf_flow.proofs.Nodes.{reached_here}

-- a node is a step where it has one
agree : (d : Identities) (i : ℕ) (a : ActionTree) → is_step (flow_of a) ≡ is_some (step_tree d i a)
agree d i (tree.jump k) = refl
agree d i a = refl

-- that of which it is so is a step
the_step : (f : Flow) → is_step f ≡ true → f ≡ flows.Step
the_step flows.Step h = refl
the_step (flows.Skip k) h = cc
the_step (flows.Back k) h = cc
the_step flows.End h = cc

-- what a node is at an index
flow_there : (ns : List NodeTree) (i : ℕ) (n : NodeTree) → slice_get ns i ≡ Some n → slice_get (flows_of ns) i ≡ Some (flow_of n.action)
flow_there [] i n h = absurd cc
flow_there (m ∷ ns) zero n h = let e : m ≡ n = cc in ap (λ (x : NodeTree). Some (flow_of x.action)) e
flow_there (m ∷ ns) (suc i) n h = flow_there ns i n h

-- a step leads to itself
own_number : (fs : List Flow) (i : ℕ) → slice_get fs i ≡ Some flows.Step → step_number fs i ≡ count_steps (take i fs)
own_number [] i h = absurd cc
own_number (f ∷ fs) i h =
    ap (λ r. comes_to (f ∷ fs) (leads (length fs) (f ∷ fs)) r (slice_get (f ∷ fs) r)) (reached_here i (f ∷ fs) flows.Step h refl)
    ∙ ap (comes_to (f ∷ fs) (leads (length fs) (f ∷ fs)) i) h

-- how many steps stand in a list where one may be added
added_count : (g : StepTree → StepTree) (o : Option StepTree) (xs : List StepTree) → length (option_to_list (option_map g o) ++ xs) ≡ (if is_some o then suc (length xs) else length xs)
added_count g None xs = refl
added_count g (Some s) xs = refl

-- and which stands at a number
added_before : (g : StepTree → StepTree) (o : Option StepTree) (xs : List StepTree) (c : ℕ) → slice_get (option_to_list (option_map g o) ++ xs) (if is_some o then suc c else c) ≡ slice_get xs c
added_before g None xs c = refl
added_before g (Some s) xs c = refl

-- as many steps as nodes that are steps
step_count : (d : Identities) (f : ℕ → ℕ) (k : ℕ) (ns : List NodeTree) → length (steps_from d f k ns) ≡ count_steps (flows_of ns)
step_count d f k [] = refl
step_count d f k (n ∷ ns) =
    added_count (renumbered f) (step_tree d k n.action) (steps_from d f (k + 1) ns)
    ∙ ap (λ b. if b then suc (length (steps_from d f (k + 1) ns)) else length (steps_from d f (k + 1) ns)) (sym (agree d k n.action))
    ∙ ap (λ c. if is_step (flow_of n.action) then suc c else c) (step_count d f (k + 1) ns)

-- a step stands behind as many as there are before it
step_there : (d : Identities) (f : ℕ → ℕ) (k i j : ℕ) (ns : List NodeTree) (n : NodeTree) (s : StepTree) → slice_get ns i ≡ Some n → j ≡ k + i → step_tree d j n.action ≡ Some s → slice_get (steps_from d f k ns) (count_steps (take i (flows_of ns))) ≡ Some (renumbered f s)
step_there d f k i j [] n s at is step = absurd cc
step_there d f k zero j (m ∷ ns) n s at is step =
    let e : m ≡ n = cc in
    let here : k ≡ j = omega (arith, is) in
    let same : step_tree d k m.action ≡ Some s = ap (λ (x : NodeTree). step_tree d k x.action) e ∙ ap (λ p. step_tree d p n.action) here ∙ step in
    ap (λ o. slice_get (option_to_list (option_map (renumbered f) o) ++ steps_from d f (k + 1) ns) 0) same
step_there d f k (suc i) j (m ∷ ns) n s at is step =
    let c = count_steps (take i (flows_of ns)) in
    ap (λ b. slice_get (option_to_list (option_map (renumbered f) (step_tree d k m.action)) ++ steps_from d f (k + 1) ns) (if b then suc c else c)) (agree d k m.action)
    ∙ added_before (renumbered f) (step_tree d k m.action) (steps_from d f (k + 1) ns) c
    ∙ step_there d f (k + 1) i j ns n s at (omega (arith, is)) step

pub all_steps_stand : AllStepsStand
all_steps_stand d ns = record {
  count = step_count d (number_of ns) 0 ns;
  own = λ i n s at step.
      let is : is_step (flow_of n.action) ≡ true = agree d i n.action ∙ ap is_some step in
      let flow : slice_get (flows_of ns) i ≡ Some flows.Step = flow_there ns i n at ∙ ap Some (the_step (flow_of n.action) is) in
      ap (slice_get (steps_from d (number_of ns) 0 ns)) (own_number (flows_of ns) i flow) ∙ step_there d (number_of ns) 0 i i ns n s at (omega arith) step;
}
