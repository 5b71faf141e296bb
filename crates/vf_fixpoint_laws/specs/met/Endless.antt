-- A fixpoint whose application does not go down: no interpretation gives it the values of its body.
use Rattle.std.specs.Prelude.{pos, List, [], ◌∷◌, codes}
use Rattle.vf_meaning.specs.GhostValues.{Interpretation}
use Rattle.vf_closure.specs.Terms.{Fixpoint, Integer, Term, plus, term, no_terms}
use Rattle.vf_formula.specs.declared.head.Kind.TheVariants as kinds
use Rattle.vf_definitions.specs.Laws.{MeetsDefinitions}
use Rattle.vf_definitions.specs.declared.fixpoint.Body.TheVariants.{Returns}
use Rattle.vf_definitions.specs.declared.fixpoint.Fixpoint as definitions
use Rattle.vf_fixpoint_laws.specs.met.Laws.{AgreeByIdentity}

-- `f() + 1`
abbrev pub one_more : Term
one_more = plus (term (Fixpoint Integer (codes "f")) no_terms) (pos 1)

-- the definition of `fixpoint int f() { return f() + 1; }`
abbrev pub endless : definitions.Fixpoint
endless = record { kind = kinds.Integer; identity = codes "f"; parameters = 0; body = Returns one_more }

abbrev pub endless_definitions : List definitions.Fixpoint
endless_definitions = endless ∷ []

-- it agrees with itself, and yet nothing gives it the value of its body, which would be one more than itself
pub record EndlessIsNotMet : Type 0 where
  pub agrees : AgreeByIdentity endless_definitions
  pub never_met : (i : Interpretation) → MeetsDefinitions i endless_definitions → ⊥
