-- What the fixpoints of a unit give to their applications.
use Rattle.std.specs.Prelude.{ℕ, zero, suc, Bool, true, false, cond, ◌&&◌, ◌==◌, List, [], ◌∷◌, Option, Some, None}
use Rattle.std.specs.Option.{option_and_then}
use Rattle.vf_tree.specs.Core.{Identity}
use Rattle.vf_model.specs.Values.{same_identity}
use Rattle.vf_closure.specs.Terms.{Kind, Integer, Other, Fixpoint, Constructor, Term, Terms, term, no_terms, and_term, count}
use Rattle.vf_closure.specs.Closure.{Unfoldings}
use Rattle.vf_formula.specs.Heads.{shown_kind}
use Rattle.vf_definitions.specs.Filled.{filled, followed_by}
use Rattle.vf_definitions.specs.Kept.{kept_form}
use Rattle.vf_definitions.specs.declared.fixpoint.Case.{Case}
use Rattle.vf_definitions.specs.declared.fixpoint.Body.{Body}
use Rattle.vf_definitions.specs.declared.fixpoint.Body.TheVariants.{Returns, Switches}
use Rattle.vf_definitions.specs.declared.fixpoint.Fixpoint as declared

-- whether two kinds are one
abbrev pub same_kind : Kind → Kind → Bool
same_kind Integer Integer = true
same_kind Other Other = true
same_kind _ _ = false

-- the first of some fixpoints that has a kind and a name
abbrev pub fixpoint_for : List declared.Fixpoint → Kind → Identity → Option declared.Fixpoint
fixpoint_for [] k f = None
fixpoint_for (x ∷ xs) k f = cond (same_kind (shown_kind x.kind) k && same_identity x.identity f) (Some x) (fixpoint_for xs k f)

-- the first of some cases that is one of a constructor
abbrev pub case_for : List Case → Identity → Option Case
case_for [] c = None
case_for (x ∷ xs) c = cond (same_identity x.constructor c) (Some x) (case_for xs c)

-- the parts of a term
abbrev pub parts_of : Term → Terms
parts_of (term h ts) = ts

-- the body of a fixpoint, at as many arguments as it has parameters
abbrev pub body_at : Terms → declared.Fixpoint → Option Body
body_at ts f = cond (count ts == f.parameters) (Some f.body) None

-- the body of the fixpoint that a term applies to as many arguments as it has parameters
abbrev pub body_for : List declared.Fixpoint → Term → Option Body
body_for fs (term (Fixpoint k f) ts) = option_and_then (body_at ts) (fixpoint_for fs k f)
body_for fs t = None

-- the part at a place, counted from 0
abbrev pub term_at : Terms → ℕ → Option Term
term_at no_terms k = None
term_at (and_term t ts) zero = Some t
term_at (and_term t ts) (suc k) = term_at ts k

-- what a body without a switch returns at arguments
abbrev pub returned : Terms → Body → Option Term
returned ts (Returns b) = kept_form (filled ts b)
returned ts (Switches k cases) = None

-- the argument that a body switches over
abbrev pub switched_over : Terms → Body → Option Term
switched_over ts (Returns b) = None
switched_over ts (Switches k cases) = term_at ts k

-- what a case returns at arguments and, behind them, the parts of a constructor's term, as many as the case has names
abbrev pub case_result : Terms → Terms → Case → Option Term
case_result ts us c = cond (count us == c.names) (kept_form (filled (followed_by ts us) c.result)) None

-- what the case for a constructor's term returns
abbrev pub case_returned : Terms → Term → Body → Option Term
case_returned ts (term (Constructor c) us) (Switches k cases) = option_and_then (case_result ts us) (case_for cases c)
case_returned ts t b = None

-- what some fixpoints give to applications
abbrev pub unfoldings_of : List declared.Fixpoint → Unfoldings
unfoldings_of fs = record {
  body = λ t. option_and_then (returned (parts_of t)) (body_for fs t);
  switched = λ t. option_and_then (switched_over (parts_of t)) (body_for fs t);
  case = λ t k. option_and_then (case_returned (parts_of t) k) (body_for fs t);
}
