-- A small memory, of one held mutex, and an assertion that speaks of all of it.
use Rattle.std.specs.Prelude.{pos, [], ◌∷◌, Some, codes}
use Rattle.std.specs.FinMap as finite
use Rattle.vf_model.specs.Values.{Value, Values, none, more, Odd}
use Rattle.vf_model.specs.Values as values
use Rattle.vf_model.specs.Memory.{Memory, Block, Mutex}
use Rattle.vf_meaning.specs.Fractions.{whole}
use Rattle.vf_meaning.specs.Ghost.{Numbered, CurrentThread, GhostExpression}
use Rattle.vf_meaning.specs.Ghost as ghost
use Rattle.vf_meaning.specs.Valuations.{Valuation, of_arguments}
use Rattle.vf_meaning.specs.Assertions.{Assertion, Both, Chunk, Times, Is, Named, Environment}
use Rattle.vf_meaning.specs.Parts.{Part}
use Rattle.vf_meaning.specs.Fits.{Fits}
use Rattle.vf_meaning.specs.Satisfaction.{Satisfies}

-- all of a memory satisfies an assertion under a valuation, whatever else is declared
pub record IsMeant (m : Memory) (a : Assertion) (v : Valuation) : Type 0 where
  pub part : Part
  pub fits : Fits part m
  pub satisfies : (e : Environment) → Satisfies e whole a v part

-- a memory of one block, number 1
abbrev pub one_block : Block → Memory
one_block block = finite.insert finite.empty 1 block

-- the value of the first name: the pointer to that block
abbrev pub to_it : Value
to_it = values.Pointer 1 (pos 0)

-- the first names have these values, after that pointer
abbrev pub pointing : Values → Valuation
pointing vs = of_arguments (more to_it vs)

-- the first name, as an expression
abbrev pub named : GhostExpression
named = ghost.Variable (Numbered 0)

-- the predicate value of a mutex
abbrev pub invariant : Value
invariant = values.Predicate (codes "one.c#shared") none

-- a mutex that thread 0 holds
abbrev pub held_memory : Memory
held_memory = one_block (Mutex (Some 0))

-- `[f]mutex(m, q) &*& mutex_held(m, q, currentThread, f)`: the fraction of the mutex that is missing is the one that was given up for holding it
abbrev pub held_assertion : Assertion
held_assertion =
    Both (Chunk (Times whole (Numbered 2 ∷ [])) (Named (codes "<threading.h>#mutex")) (Is named ∷ Is (ghost.Variable (Numbered 1)) ∷ []))
    (Chunk (Times whole []) (Named (codes "<threading.h>#mutex_held")) (Is named ∷ Is (ghost.Variable (Numbered 1)) ∷ Is (ghost.Variable CurrentThread) ∷ Is (ghost.Variable (Numbered 2)) ∷ []))

-- a held mutex, half of it given up
abbrev pub HeldMutexIsMeant : Type 0
HeldMutexIsMeant = IsMeant held_memory held_assertion (pointing (more invariant (more (values.Fraction (Odd 0 0)) none)))
