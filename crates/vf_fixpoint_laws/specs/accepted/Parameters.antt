-- Fixpoints whose results are of type parameters: both of their definitions can have the values of the bodies.
use Rattle.std.specs.Prelude.{ℕ, false, List, [], ◌∷◌, codes}
use Rattle.vf_tree.specs.Core.{Identity}
use Rattle.vf_meaning.specs.Ghost.{Numbered}
use Rattle.vf_meaning.specs.Valuations.{value_at}
use Rattle.vf_meaning.specs.GhostValues.{Interpretation}
use Rattle.vf_closure.specs.Terms.{Other, Symbol, Term, term, no_terms}
use Rattle.vf_formula.specs.declared.head.Kind.{Kind}
use Rattle.vf_formula.specs.declared.head.Kind.TheVariants as kinds
use Rattle.vf_syntax.specs.declared.item.FixpointBody.{FixpointBody}
use Rattle.vf_syntax.specs.declared.item.FixpointBody.TheVariants as texts
use Rattle.vf_syntax.specs.declared.item.GhostForm.TheVariants as forms
use Rattle.vf_syntax.specs.declared.item.GhostParameter.{GhostParameter}
use Rattle.vf_syntax.specs.declared.item.Item.{Item}
use Rattle.vf_syntax.specs.declared.item.Item.TheVariants as items
use Rattle.vf_syntax.specs.GhostExprTree as tree
use Rattle.vf_syntax.specs.SortTree.{SortTree, no_sort}
use Rattle.vf_syntax.specs.SortTree as sorts
use Rattle.vf_declared.specs.declared.scope.Scope.{Scope}
use Rattle.vf_definitions.specs.Laws.{MeetsBody}
use Rattle.vf_definitions.specs.declared.fixpoint.Body.{Body}
use Rattle.vf_definitions.specs.declared.fixpoint.Body.TheVariants.{Returns}
use Rattle.vf_definitions.specs.declared.fixpoint.Fixpoint as definitions
use Rattle.vf_defining.specs.Units.{of_integers}
use Rattle.vf_fixpoint_laws.specs.descending.Example.{here, list_paths, named, one_file}
use Rattle.vf_fixpoint_laws.specs.accepted.Accepted.{IsAcceptedWith}

-- ---- the text
-- `t`
abbrev pub parameter_written : SortTree
parameter_written = sorts.name_ here (codes "t") no_sort

-- `t x`
abbrev pub of_parameter : GhostParameter
of_parameter = record { after_semicolon = false; sort = parameter_written; name = named (codes "x") }

-- `return x;`
abbrev pub itself_text : FixpointBody
itself_text = texts.Value (tree.name_ here (codes "x"))

-- `fixpoint t same<t>(t x) { return x; }`
abbrev pub same : Item
same = items.Ghost (record { place = here; form = forms.Fixpoint parameter_written (named (codes "same")) (named (codes "t") ∷ []) (of_parameter ∷ []) itself_text })

-- the unit
abbrev pub same_unit : List Item
same_unit = same ∷ []

-- ---- its definitions
-- what the fixpoint returns: its parameter, which is not known to be an integer
abbrev pub first_symbol : Term
first_symbol = term (Symbol Other (Numbered 0)) no_terms

-- a definition of a kind with a body
abbrev pub same_definition : Kind → Body → definitions.Fixpoint
same_definition k b = record { kind = k; identity = codes "one.c#same"; parameters = 1; body = b }

-- it has one for each kind of its applications, and as an integer it gives the number of its parameter
abbrev pub same_definitions : List definitions.Fixpoint
same_definitions = same_definition kinds.Other (Returns first_symbol) ∷ same_definition kinds.Integer (of_integers (Returns first_symbol)) ∷ []

-- the fixpoint gives its argument
abbrev pub same_interpretation : Interpretation
same_interpretation = record { claims = λ g t. false; fixpoint = λ c vs. value_at vs 0 }

-- the unit is accepted with these definitions, and an interpretation gives both the values of their bodies; no interpretation would do so if both had the body as it is, since at the null pointer a number is no pointer
pub record ParametersAreMet : Type 0 where
  pub whole : Scope
  pub accepted : IsAcceptedWith one_file list_paths same_unit whole same_definitions same_interpretation
  pub never_alike : (i : Interpretation) → MeetsBody i (same_definition kinds.Other (Returns first_symbol)) (Returns first_symbol) → MeetsBody i (same_definition kinds.Integer (Returns first_symbol)) (Returns first_symbol) → ⊥

-- ---- in general
-- where a fixpoint has the values of its body, its definition for integers has those of the body taken as numbers
abbrev pub IntegersAreMet : Type 0
IntegersAreMet = (i : Interpretation) (c : Identity) (n : ℕ) (b : Body) → MeetsBody i (record { kind = kinds.Other; identity = c; parameters = n; body = b }) b → MeetsBody i (record { kind = kinds.Integer; identity = c; parameters = n; body = of_integers b }) (of_integers b)
