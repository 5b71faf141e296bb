-- What predicates, predicate constructors and bodies of families come to, as functions: what is declared behind them, or the first refusal.
use Rattle.std.specs.Prelude.{ℕ, Bool, true, false, List, [], length, Option, Some, None, Result, Ok, Err}
use Rattle.vf_base.specs.declared.refusal.Refusal.{Refusal}
use Rattle.vf_base.specs.declared.rule.Rule.TheVariants as rules
use Rattle.vf_declared.specs.declared.scope.Scope.{Scope}
use Rattle.vf_declared.specs.Scopes.{ghost_of, sides_of_ghost}
use Rattle.vf_declared.specs.Writing.{with_ghost_body, with_instance}
use Rattle.vf_syntax.specs.declared.item.GhostParameter.{GhostParameter}
use Rattle.vf_syntax.specs.declared.written.Name.{Name}
use Rattle.vf_syntax.specs.AssertionTree.{PartTrees}
use Rattle.vf_sorting.specs.Refusals.{refused}
use Rattle.vf_heads.specs.Heads.{constructor_behind}
use Rattle.vf_heads.specs.Parameters.{Taken, none_taken, parameters_behind}
use Rattle.vf_walk.specs.Walking.{Walked}
use Rattle.vf_predicates.specs.Earlier.{earlier, or_none, seen_too, sorts_of}
use Rattle.vf_predicates.specs.Instances.{family_at, family_sorts, function_at, has_instance}
use Rattle.vf_predicates.specs.Predicates.{again_behind, first_behind, number_at, without_body}
use Rattle.vf_order_laws.specs.walk.Alike.{are_same}
use Rattle.vf_order_laws.specs.walk.Contracting.{body_of}
use Rattle.vf_order_laws.specs.walk.Following.{after, choose, pair}

-- ---- predicates
-- where a predicate with a number is declared once more its parameters have the same sorts as before
abbrev pub again_of : Name → ℕ → Taken → Walked
again_of n k t = choose (are_same t.sorts (sorts_of t.scope k)) (Ok (seen_too t.scope n)) (Err (refused rules.Name n.place))

-- a predicate in front of its body, or without one, by the number that its name has already
abbrev pub head_by : Bool → Name → List GhostParameter → Scope → Option ℕ → Walked
head_by b n gs s None = first_behind n gs s
head_by b n gs s (Some k) = after (again_of n k) (again_behind b n gs k s)

-- the same of a name
abbrev pub head_of : Bool → Name → List GhostParameter → Scope → Walked
head_of b n gs s = head_by b n gs s (earlier s n)

-- a predicate without a body
abbrev pub predicate_of : Name → List GhostParameter → Scope → Walked
predicate_of n gs s = after (λ t. Ok (without_body (length s.locals.names) (number_at s n) t)) (head_of false n gs s)

-- a predicate with its body
abbrev pub predicate_body_of : Name → List GhostParameter → PartTrees → Scope → Walked
predicate_body_of n gs xs s = after (λ t. body_of (length s.locals.names) xs (with_ghost_body t (number_at s n))) (head_of true n gs s)

-- a predicate constructor with its body
abbrev pub constructor_of : Name → List GhostParameter → List GhostParameter → PartTrees → Scope → Walked
constructor_of n fs gs xs s = after (body_of (length s.locals.names) xs) (constructor_behind n fs gs s)

-- ---- bodies of families
-- the family with a number and a function, by what the name of the function means
abbrev pub by_function : Name → Scope → ℕ → Option ℕ → Result (ℕ × ℕ) Refusal
by_function g s k None = Err (refused rules.Name g.place)
by_function g s k (Some m) = choose (has_instance (sides_of_ghost s k) m) (Err (refused rules.Name g.place)) (Ok (pair k m))

-- a family and a function, by what the name of the family means
abbrev pub by_family : Name → Name → Scope → Option ℕ → Result (ℕ × ℕ) Refusal
by_family f g s None = Err (refused rules.Name f.place)
by_family f g s (Some k) = by_function g s k (function_at s g)

-- what the names of a family and a function mean
abbrev pub named_of : Name → Name → Scope → Result (ℕ × ℕ) Refusal
named_of f g s = by_family f g s (family_at s f)

-- the parameters of a body have the sorts of the family's
abbrev pub agreed_of : Name → ℕ → ℕ → Taken → Walked
agreed_of f k m t = choose (are_same t.sorts (or_none (family_sorts (ghost_of t.scope k)))) (Ok (with_instance t.scope k m)) (Err (refused rules.Name f.place))

-- the parameters and the body, by the numbers of a family and a function
abbrev pub instance_at : Name → List GhostParameter → PartTrees → Scope → ℕ × ℕ → Walked
instance_at f gs xs s r = after (body_of (length s.locals.names) xs) (after (agreed_of f r.0 r.1) (parameters_behind [] gs (none_taken s)))

-- a body of a family for a function
abbrev pub instance_of : Name → Name → List GhostParameter → PartTrees → Scope → Walked
instance_of f g gs xs s = after (instance_at f gs xs s) (named_of f g s)
