-- Fixpoints that use themselves only on what is smaller, whose values are then given by their equations.
use Rattle.std.specs.Prelude.{◌≡◌, ◌≢◌, ◌⊎◌, ℕ, zero, suc, Bool, IsTrue, List, [], ◌∷◌, Contains, Option, Some, None}
use Rattle.vf_tree.specs.Core.{Identity}
use Rattle.vf_model.specs.Values.{Values, same_identity}
use Rattle.vf_meaning.specs.Ghost.{Name, GhostExpression, GhostExpressions, no_expressions, and_expression, Variable, Number, Truth, Fraction, Null, Function, Construct, Apply, PredicateValue, Claims, Negate, Arithmetic, PointerSum, Share, Compare, Not, And, Or, Choose, CaseTree, FixpointBody, Returns, Switches, FixpointTree}
use Rattle.vf_meaning.specs.GhostValues.{by_body, interpreted}

-- the argument at a place, counted from 0
abbrev pub argument_at : GhostExpressions → ℕ → Option GhostExpression
argument_at no_expressions k = None
argument_at (and_expression e es) zero = Some e
argument_at (and_expression e es) (suc k) = argument_at es k

-- an argument is one of several names
abbrev pub IsOneOf : List Name → Option GhostExpression → Type 0
IsOneOf xs None = ⊥
IsOneOf xs (Some e) = (x : Name) × (e ≡ Variable x) × Contains xs x

-- each use of the fixpoint f in an expression has one of these names at the place k
abbrev mutual
  pub UsesSmaller : Identity → ℕ → List Name → GhostExpression → Type 0
  UsesSmaller f k xs (Variable y) = Unit {0}
  UsesSmaller f k xs (Number z) = Unit {0}
  UsesSmaller f k xs (Truth b) = Unit {0}
  UsesSmaller f k xs (Fraction d) = Unit {0}
  UsesSmaller f k xs Null = Unit {0}
  UsesSmaller f k xs (Function g) = Unit {0}
  UsesSmaller f k xs (Construct c es) = AllUseSmaller f k xs es
  UsesSmaller f k xs (Apply g es) = (IsTrue (same_identity g f) → IsOneOf xs (argument_at es k)) × AllUseSmaller f k xs es
  UsesSmaller f k xs (PredicateValue p es) = AllUseSmaller f k xs es
  UsesSmaller f k xs (Claims t e) = UsesSmaller f k xs e
  UsesSmaller f k xs (Negate e) = UsesSmaller f k xs e
  UsesSmaller f k xs (Arithmetic op a b) = UsesSmaller f k xs a × UsesSmaller f k xs b
  UsesSmaller f k xs (PointerSum a b) = UsesSmaller f k xs a × UsesSmaller f k xs b
  UsesSmaller f k xs (Share a b) = UsesSmaller f k xs a × UsesSmaller f k xs b
  UsesSmaller f k xs (Compare op a b) = UsesSmaller f k xs a × UsesSmaller f k xs b
  UsesSmaller f k xs (Not e) = UsesSmaller f k xs e
  UsesSmaller f k xs (And a b) = UsesSmaller f k xs a × UsesSmaller f k xs b
  UsesSmaller f k xs (Or a b) = UsesSmaller f k xs a × UsesSmaller f k xs b
  UsesSmaller f k xs (Choose c a b) = UsesSmaller f k xs c × UsesSmaller f k xs a × UsesSmaller f k xs b

  -- and so in each of several expressions
  pub AllUseSmaller : Identity → ℕ → List Name → GhostExpressions → Type 0
  AllUseSmaller f k xs no_expressions = Unit {0}
  AllUseSmaller f k xs (and_expression e es) = UsesSmaller f k xs e × AllUseSmaller f k xs es

-- each case uses the fixpoint only with a name of its own at the switched place
abbrev pub CasesUseSmaller : Identity → ℕ → List CaseTree → Type 0
CasesUseSmaller f k [] = Unit {0}
CasesUseSmaller f k (c ∷ cs) = UsesSmaller f k c.names c.result × CasesUseSmaller f k cs

-- a body without a switch does not use the fixpoint, and one with a switch uses it on names of the case at the switched place
abbrev pub BodyUsesSmaller : Identity → FixpointBody → Type 0
BodyUsesSmaller f (Returns e) = UsesSmaller f 0 [] e
BodyUsesSmaller f (Switches k cases) = CasesUseSmaller f k cases

-- a fixpoint uses itself only on what is smaller
abbrev pub IsStructural : FixpointTree → Type 0
IsStructural f = BodyUsesSmaller f.identity f.body

-- the value of a fixpoint that uses itself only on what is smaller is given by its equation, in which its own name has that value too
abbrev pub FixpointsMeetEquations : Type 0
FixpointsMeetEquations =
    (claims : Identity → Identity → Bool) (f : FixpointTree) (fs : List FixpointTree) (vs : Values) → IsStructural f
    → (interpreted claims (f ∷ fs)).fixpoint f.identity vs ≡ by_body (interpreted claims (f ∷ fs)) f.body vs

-- an expression uses a fixpoint
abbrev mutual
  pub Applies : GhostExpression → Identity → Type 0
  Applies (Variable y) g = ⊥
  Applies (Number z) g = ⊥
  Applies (Truth b) g = ⊥
  Applies (Fraction d) g = ⊥
  Applies Null g = ⊥
  Applies (Function h) g = ⊥
  Applies (Construct c es) g = AnyApplies es g
  Applies (Apply f es) g = (f ≡ g) ⊎ AnyApplies es g
  Applies (PredicateValue p es) g = AnyApplies es g
  Applies (Claims t e) g = Applies e g
  Applies (Negate e) g = Applies e g
  Applies (Arithmetic op a b) g = Applies a g ⊎ Applies b g
  Applies (PointerSum a b) g = Applies a g ⊎ Applies b g
  Applies (Share a b) g = Applies a g ⊎ Applies b g
  Applies (Compare op a b) g = Applies a g ⊎ Applies b g
  Applies (Not e) g = Applies e g
  Applies (And a b) g = Applies a g ⊎ Applies b g
  Applies (Or a b) g = Applies a g ⊎ Applies b g
  Applies (Choose c a b) g = Applies c g ⊎ (Applies a g ⊎ Applies b g)

  -- one of several expressions uses a fixpoint
  pub AnyApplies : GhostExpressions → Identity → Type 0
  AnyApplies no_expressions g = ⊥
  AnyApplies (and_expression e es) g = Applies e g ⊎ AnyApplies es g

-- the body of a fixpoint uses a fixpoint
abbrev pub BodyApplies : FixpointBody → Identity → Type 0
BodyApplies (Returns e) g = Applies e g
BodyApplies (Switches k cases) g = (c : CaseTree) × Contains cases c × Applies c.result g

-- Fixpoints stand in order: each uses itself, only on what is smaller, and those after it, and no two have one name
abbrev pub AreOrdered : List FixpointTree → Type 0
AreOrdered [] = Unit {0}
AreOrdered (f ∷ fs) =
    IsStructural f
    × ((g : Identity) → BodyApplies f.body g → (g ≡ f.identity) ⊎ ((h : FixpointTree) × Contains fs h × (h.identity ≡ g)))
    × ((h : FixpointTree) → Contains fs h → h.identity ≢ f.identity)
    × AreOrdered fs

-- the value of every fixpoint of a list in order is given by its equation, in which all fixpoints of the list have their values
abbrev pub ListedFixpointsMeetEquations : Type 0
ListedFixpointsMeetEquations =
    (claims : Identity → Identity → Bool) (fs : List FixpointTree) (f : FixpointTree) (vs : Values) → AreOrdered fs → Contains fs f
    → (interpreted claims fs).fixpoint f.identity vs ≡ by_body (interpreted claims fs) f.body vs
