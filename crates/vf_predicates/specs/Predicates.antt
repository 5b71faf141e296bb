-- What is declared behind predicates and predicate constructors, or their first refusal in the order of the text.
use Rattle.std.specs.Prelude.{◌≡◌, ℕ, Bool, true, false, List, [], length, Option, Some, None, Result, Ok, Err}
use Rattle.vf_base.specs.declared.refusal.Refusal.{Refusal}
use Rattle.vf_base.specs.declared.rule.Rule.TheVariants as rules
use Rattle.vf_declared.specs.declared.declaration.GhostDeclaration.TheVariants as ghosts
use Rattle.vf_declared.specs.declared.scope.Scope.{Scope}
use Rattle.vf_declared.specs.Writing.{with_ghost, with_ghost_body, with_ghost_prototype}
use Rattle.vf_syntax.specs.declared.item.GhostParameter.{GhostParameter}
use Rattle.vf_syntax.specs.declared.written.Name.{Name}
use Rattle.vf_syntax.specs.AssertionTree.{PartTrees}
use Rattle.vf_sorting.specs.Refusals.{refused}
use Rattle.vf_datatypes.specs.Datatypes.{with_next}
use Rattle.vf_datatypes.specs.NewNames.{name_refusal}
use Rattle.vf_datatypes.specs.Walking.{behind, unless}
use Rattle.vf_heads.specs.Heads.{constructor_behind, leaving}
use Rattle.vf_heads.specs.Parameters.{Taken, none_taken, parameters_behind}
use Rattle.vf_walk.specs.Walking.{Only, Then, Walked}
use Rattle.vf_predicates.specs.Bodies.{BodyComes}
use Rattle.vf_predicates.specs.Earlier.{AreSame, again_refusal, earlier, seen_too, sorts_of}

-- a new predicate, whose parameters were taken
abbrev pub with_predicate : Taken → Walked
with_predicate k = Ok (with_ghost k.scope (ghosts.Predicate k.sorts))

-- a predicate that is declared for the first time: its name, and its parameters, which are locals
abbrev pub first_behind : Name → List GhostParameter → Scope → Walked
first_behind n gs s = unless (name_refusal s n) (behind with_predicate (parameters_behind [] gs (none_taken (with_next s n))))

-- the parameters of a predicate with a number that is declared once more
abbrev pub again_behind : Bool → Name → List GhostParameter → ℕ → Scope → Result Taken Refusal
again_behind b n gs k s = unless (again_refusal b s n k) (parameters_behind [] gs (none_taken s))

-- where a predicate with a number is declared once more its parameters have the same sorts as before, else its name is refused
pub data IsAgain (n : Name) (k : ℕ) (t : Taken) : Walked → Type 0 where
  agreed : AreSame t.sorts (sorts_of t.scope k) → IsAgain n k t (Ok (seen_too t.scope n))
  differs : (AreSame t.sorts (sorts_of t.scope k) → ⊥) → IsAgain n k t (Err (refused rules.Name n.place))

-- a predicate in front of its body, or without one: it is declared for the first time, or once more
pub data HeadComes (b : Bool) (n : Name) (gs : List GhostParameter) (s : Scope) : Walked → Type 0 where
  new : {w : Walked} → earlier s n ≡ None → first_behind n gs s ≡ w → HeadComes b n gs s w
  again : {k : ℕ} {w : Walked} → earlier s n ≡ Some k → Then (Only (again_behind b n gs k s)) (IsAgain n k) w → HeadComes b n gs s w

-- a number, or how many there are
abbrev pub or_next : Option ℕ → ℕ → ℕ
or_next None n = n
or_next (Some k) n = k

-- the number of the predicate that a name means, or the next one where it means none yet
abbrev pub number_at : Scope → Name → ℕ
number_at s n = or_next (earlier s n) (length s.ghosts)

-- a predicate with a number was declared without a body; its parameters are gone behind it
abbrev pub without_body : ℕ → ℕ → Scope → Scope
without_body n k s = with_ghost_prototype (leaving n s) k s.locals

-- a predicate without a body
abbrev pub PredicateComes : Name → List GhostParameter → Scope → Walked → Type 0
PredicateComes n gs s = Then (HeadComes false n gs s) (λ t. Only (Ok (without_body (length s.locals.names) (number_at s n) t)))

-- a predicate with its body, which may speak of the predicate itself
abbrev pub PredicateBodyComes : Name → List GhostParameter → PartTrees → Scope → Walked → Type 0
PredicateBodyComes n gs xs s = Then (HeadComes true n gs s) (λ t. BodyComes (length s.locals.names) xs (with_ghost_body t (number_at s n)))

-- a predicate constructor with its body
abbrev pub ConstructorComes : Name → List GhostParameter → List GhostParameter → PartTrees → Scope → Walked → Type 0
ConstructorComes n fs gs xs s = Then (Only (constructor_behind n fs gs s)) (BodyComes (length s.locals.names) xs)
