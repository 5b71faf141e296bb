-- The next step of a thread: what each core step does.
use Rattle.std.specs.Prelude.{ℕ, cond, List, ◌∷◌, slice_get, Option, Some, None}
use Rattle.vf_base.specs.declared.place.Place.{Place}
use Rattle.vf_tree.specs.Core.{ExpressionTree, StepTree, Set, Load, Store, Allocate, Free, Offset, LoadAt, StoreAt, AllocateInts, FreeInts, Call, CallPointer, If, Return, FunctionTree, ProgramTree}
use Rattle.vf_model.specs.declared.words.FaultKind.TheVariants as faults
use Rattle.vf_model.specs.Values.{Value, number_of, compares}
use Rattle.vf_model.specs.Memory.{field_cell, element_cell, is_struct_block, is_int_block}
use Rattle.vf_model.specs.State.{Thread, State, Turn, goes_on, sets}
use Rattle.vf_model.specs.Evaluation.{Evaluated, evaluate, evaluate_all}
use Rattle.vf_model.specs.Acts.{Act, Goes, Waits, Faults, given}
use Rattle.vf_model.specs.Accesses.{loads, stores, allocates, allocates_ints, new_struct, frees, offsets}
use Rattle.vf_model.specs.Calls.{calls, calls_pointer, returns}

-- an expression over the locals of the frame
abbrev pub value : Turn → ExpressionTree → Evaluated Value
value turn e = evaluate turn.frame.locals e

-- several in order
abbrev pub all_values : Turn → List ExpressionTree → Evaluated (List Value)
all_values turn es = evaluate_all turn.frame.locals es

-- what is returned, if anything
abbrev pub returns_value : Turn → Option ExpressionTree → Act
returns_value turn None = Goes (returns turn None)
returns_value turn (Some e) = given (value turn e) (λ v. Goes (returns turn (Some v)))

-- A core step: its operands from left to right, and then its effect
abbrev pub act_of : ProgramTree → Turn → StepTree → Act
act_of p turn (Set x e next) = given (value turn e) (λ v. Goes (sets turn x v next))
act_of p turn (Load x e f place next) = given (value turn e) (λ v. loads turn x place next (field_cell turn.state.memory v f))
act_of p turn (Store e f new place next) =
    given (value turn e) (λ v. given (value turn new) (λ w. stores turn w place next (field_cell turn.state.memory v f)))
act_of p turn (Allocate x g next) = allocates turn x (new_struct p g) next
act_of p turn (Free e g place next) = given (value turn e) (λ v. frees turn v place next (is_struct_block g))
act_of p turn (Offset x e i place next) = given (value turn e) (λ v. given (value turn i) (λ n. offsets turn x v (number_of n) place next))
act_of p turn (LoadAt x e i place next) =
    given (value turn e) (λ v. given (value turn i) (λ n. loads turn x place next (element_cell turn.state.memory v (number_of n))))
act_of p turn (StoreAt e i new place next) =
    given (value turn e) (λ v. given (value turn i) (λ n. given (value turn new) (λ w. stores turn w place next (element_cell turn.state.memory v (number_of n)))))
act_of p turn (AllocateInts x n place next) = given (value turn n) (λ v. allocates_ints turn x (number_of v) place next)
act_of p turn (FreeInts e place next) = given (value turn e) (λ v. frees turn v place next is_int_block)
act_of p turn (Call target g es place next) = given (all_values turn es) (λ vs. calls p turn target g vs place next)
act_of p turn (CallPointer target e want es place next) =
    given (value turn e) (λ v. given (all_values turn es) (λ vs. calls_pointer p turn target v want vs place next))
act_of p turn (If comparison left right so_step else_step) =
    given (value turn left) (λ v. given (value turn right) (λ w. Goes (goes_on turn (cond (compares comparison v w) so_step else_step))))
act_of p turn (Return e) = returns_value turn e

-- past its last step a body owes a value that it does not have
abbrev pub act_at : ProgramTree → Turn → Place → Option StepTree → Act
act_at p turn closing None = Faults faults.NoReturn closing
act_at p turn closing (Some step) = act_of p turn step

-- in the function of the innermost frame, which the program has
abbrev pub act_in : ProgramTree → Turn → Option FunctionTree → Act
act_in p turn None = Waits
act_in p turn (Some f) = act_at p turn f.closing (slice_get f.steps turn.frame.step)

-- what the thread's next step does, if it has one
abbrev pub act_by : ProgramTree → State → ℕ → Option Thread → Act
act_by p s t (Some (frame ∷ callers)) =
    act_in p (record { state = s; thread = t; frame = frame; callers = callers }) (slice_get p.functions frame.function)
act_by p s t _ = Waits

-- what the next step of the thread of that number does
abbrev pub next_act : ProgramTree → State → ℕ → Act
next_act p s t = act_by p s t (slice_get s.threads t)
