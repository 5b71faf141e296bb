-- Where a fixpoint has the values of its body, its definition for integers has those of the body taken as numbers.
use Rattle.std.proofs.Common.{refl, sym, ap, subst, ◌∙◌, zero, suc, [], ◌∷◌, Ok, arith}
use Rattle.std.specs.Prelude.{codes}
use Rattle.vf_model.specs.Values.{Values, none, more}
use Rattle.vf_model.specs.Values as values
use Rattle.vf_meaning.specs.Valuations.{appended, of_arguments}
use Rattle.vf_meaning.specs.GhostValues.{Interpretation}
use Rattle.vf_closure.specs.Terms.{Integer}
use Rattle.vf_closure.specs.Values.{of_kind, value}
use Rattle.vf_normal.proofs.Worth.{as_integer_value}
use Rattle.vf_formula.specs.declared.head.Kind.TheVariants as kinds
use Rattle.vf_sorts.specs.declared.sort.Head.TheVariants as heads
use Rattle.vf_sorts.specs.Sorts.{Sort}
use Rattle.vf_sorts.specs.Pairs.{left_to_do}
use Rattle.vf_sorts.specs.Unifying.{Equates}
use Rattle.vf_sorts.specs.Unknowns.{leaf}
use Rattle.vf_syntax.specs.GhostExprTree as tree
use Rattle.vf_declared.specs.declared.declaration.Fixpoint.{Fixpoint}
use Rattle.vf_declared.specs.declared.declaration.GhostDeclaration.TheVariants as ghosts
use Rattle.vf_declared.specs.declared.declaration.Meaning.TheVariants as meanings
use Rattle.vf_declared.specs.declared.scope.Scope.{Scope}
use Rattle.vf_declared.specs.Beginning.{empty}
use Rattle.vf_declared.specs.Writing.{no_ghost_sides}
use Rattle.vf_sorting.specs.HasSort.{as_wanted, name_}
use Rattle.vf_sorting.specs.Schemes.{at_sort}
use Rattle.vf_datatypes.specs.declared.stated.Stated.{Stated}
use Rattle.vf_walk.specs.Items.{WalksItem}
use Rattle.vf_walk.specs.Walking as walking
use Rattle.vf_annotations.specs.Forms.{meanings as meanings_of}
use Rattle.vf_equations.specs.Fixpoints.{around_fixpoint}
use Rattle.vf_equations.specs.Fixpoints as fixpoints
use Rattle.vf_equations.specs.Values.{ValuePasses, passes}
use Rattle.vf_resolve.specs.Beginning.{beginning}
use Rattle.vf_resolve.specs.Units.{ItemsCome}
use Rattle.vf_definitions.specs.Laws.{MeetsBody, MeetsDefinitions}
use Rattle.vf_definitions.specs.declared.fixpoint.Body.TheVariants as bodies
use Rattle.vf_definitions.specs.declared.fixpoint.Body.TheVariants.{Returns, Switches}
use Rattle.vf_definitions.specs.declared.fixpoint.Case.{Case}
use Rattle.vf_definitions.specs.declared.fixpoint.Fixpoint as definitions
use Rattle.vf_defining.specs.Fixpoints as defined
use Rattle.vf_defining.specs.Symbols.{without_locals}
use Rattle.vf_defining.specs.Units.{HaveDefinitions, fixpoint, more_items, no_items, within_fixpoint}
use Rattle.vf_defining.specs.UpTo.{up_to}
use Rattle.vf_fixpoint_laws.proofs.bodies.Taken.{case_taken}
use Rattle.vf_fixpoint_laws.specs.descending.Example.{here, list_paths, named, one_file}
use Rattle.vf_fixpoint_laws.specs.accepted.Parameters.{IntegersAreMet, ParametersAreMet, first_symbol, itself_text, of_parameter, same, same_definition, same_definitions, same_interpretation, same_unit}

-- ---- what is declared
-- the sort that `t` is in a text with the type parameter `t`
abbrev element : Sort
element = leaf (heads.Parameter 0)

abbrev same_declared : Fixpoint
same_declared = record { parameters = 1; arguments = element ∷ []; «result» = element }

abbrev whole : Scope
whole = record (empty 0) {
  names = codes "same" ∷ [];
  declarations = (record { meaning = meanings.Ghost 0; files = 0 ∷ [] }) ∷ [];
  ghosts = ghosts.Fixpoint same_declared ∷ [];
  ghost_sides = no_ghost_sides ∷ [];
}

-- in the body
abbrev inside : Scope
inside = within_fixpoint (up_to (named (codes "same")) whole) (of_parameter ∷ []) (element ∷ [])

abbrev stated : Stated
stated = record { names = []; files = [] }

-- ---- the body has the sort
equal_element : Equates [] element element []
unfolding left_to_do
equal_element = record { long = refl; alike = λ f. ((λ a. (a, refl)), (λ b. b.0)); kept = λ f a. a; told = λ f a e. a; made = refl }

given : ValuePasses inside (around_fixpoint 0) element [] (tree.name_ here (codes "x")) []
given = passes tt (as_wanted refl refl (name_ {g = at_sort element} refl (tt, tt)) equal_element)

-- ---- the walk
the_same : WalksItem (meanings_of stated) same (beginning one_file same_unit) (Ok whole)
the_same = walking.goes {a = inside} (record { is = refl }) (fixpoints.value given)

come : ItemsCome same_unit (beginning one_file same_unit) (Ok whole)
come = record { stated = stated; tells = record { beside = refl; files = λ x. refl }; is = refl; walks = walking.goes {a = whole} the_same (record { is = refl }) }

have : HaveDefinitions (without_locals whole) list_paths same_unit same_definitions
have =
    more_items {ds = same_definitions} {es = []}
    (fixpoint {w = record { name = named (codes "same"); parameters = of_parameter ∷ []; body = itself_text }} {n = 0} {f = same_declared} {b = bodies.Returns first_symbol} refl (record { means = refl; is = refl }) (defined.value {k = []} given))
    no_items

-- ---- values
pub integers_are_met : IntegersAreMet
integers_are_met i c n (Returns t) h = λ vs long. ap (of_kind Integer) (h vs long) ∙ sym (as_integer_value i (of_arguments vs) t)
integers_are_met i c n (Switches k cases) h = λ vs us g y long at there names.
    let x = case_taken cases g y there in
    ap (of_kind Integer) (h vs us g x.0 long at x.1 (names ∙ ap (λ (z : Case). z.names) (sym x.2)))
    ∙ (sym (as_integer_value i (of_arguments (appended vs us)) x.0.result) ∙ ap (λ (z : Case). value i (of_arguments (appended vs us)) z.result) x.2)

own_meets : MeetsBody same_interpretation (same_definition kinds.Other (Returns first_symbol)) (Returns first_symbol)
own_meets vs long = refl

meets : MeetsDefinitions same_interpretation same_definitions
meets k (zero, l, is) = subst (λ (d : definitions.Fixpoint). MeetsBody same_interpretation d d.body) is own_meets
meets k (suc zero, l, is) = subst (λ (d : definitions.Fixpoint). MeetsBody same_interpretation d d.body) is (integers_are_met same_interpretation (codes "one.c#same") 1 (Returns first_symbol) own_meets)
meets k (suc (suc j), l, is) = absurd (omega (arith, l))

-- at the null pointer it would be a number
never_alike : (i : Interpretation) → MeetsBody i (same_definition kinds.Other (Returns first_symbol)) (Returns first_symbol) → MeetsBody i (same_definition kinds.Integer (Returns first_symbol)) (Returns first_symbol) → ⊥
never_alike i own taken = let e = taken (more values.Null none) refl in absurd cc

pub parameters_are_met : ParametersAreMet
parameters_are_met = record { whole = whole; accepted = record { come = come; unmarked = refl; kept = refl; have = have; meets = meets }; never_alike = never_alike }
