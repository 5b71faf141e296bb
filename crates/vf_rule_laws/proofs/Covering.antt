-- Branches that have each constructor of a datatype cover its values, in the linked environment too.
use Rattle.std.proofs.Common.{◌≡◌, List, [], ◌∷◌, map, Option, Some, None, refl, sym, subst, ◌∙◌, ◌⊎◌, inl, inr}
use Rattle.std.specs.Bool.{MatchBool}
use Rattle.std.proofs.lemmas.Bool.{cases_Bool}
use Rattle.vf_tree.specs.Core.{Identity}
use Rattle.vf_model.specs.Values.{Value, Values, none, more, same_identity}
use Rattle.vf_model.specs.Values as values
use Rattle.vf_meaning.specs.Ghost.{Sort, Integers, Truths, Pointers, Fractions, Anything, Datatype, Sorts, instance_of, Name, ConstructorTree}
use Rattle.vf_meaning.specs.Assertions.{Branches, no_branches, branch, Environment}
use Rattle.vf_meaning.specs.Sorts.{IsDatatypeOf, ArgumentsAre, HasSort, HaveSorts}
use Rattle.vf_rules.specs.Produce.{NamesHaveSorts, IsCovered}
use Rattle.vf_rule_laws.specs.Covering.{NamesAreFor, HasBranch, HasEachConstructor, EachConstructorCovers, LinkingAddsNoConstructor, SwitchesCoverWhereLinked}

names_sorted : (e : Environment) (sorts : List Sort) (xs : List Name) (vs : Values) (arguments : List Sort) → NamesAreFor sorts xs arguments → HaveSorts e vs arguments → NamesHaveSorts e sorts xs vs
names_sorted e sorts [] none [] names have = tt
names_sorted e sorts [] none (s ∷ arguments) names have = absurd names
names_sorted e sorts [] (more w vs) [] names have = absurd have
names_sorted e sorts [] (more w vs) (s ∷ arguments) names have = absurd names
names_sorted e sorts (x ∷ xs) vs [] names have = absurd names
names_sorted e sorts (x ∷ xs) none (s ∷ arguments) names have = absurd have
names_sorted e sorts (x ∷ xs) (more w vs) (s ∷ arguments) names have = ((λ k r is known. subst (HasSort e w) (sym (names.0 k r is known)) have.0), names_sorted e sorts xs vs arguments names.1 have.1)

covered_by : (e : Environment) (sorts : List Sort) (c : Identity) (vs : Values) (arguments : List Sort) (branches : Branches) → HasBranch sorts c arguments branches → HaveSorts e vs arguments → IsCovered e sorts branches (values.Constructed c vs)
covered_by e sorts c vs arguments no_branches has have = has
covered_by e sorts c vs arguments (branch d xs a rest) has have =
    elim (cases_Bool (same_identity d c)) [
      | inl same ↦ subst (λ b. MatchBool b (NamesHaveSorts e sorts xs vs) (IsCovered e sorts rest (values.Constructed c vs))) (sym same)
          (names_sorted e sorts xs vs arguments (subst (λ b. MatchBool b (NamesAreFor sorts xs arguments) (HasBranch sorts c arguments rest)) same has) have)
      | inr other ↦ subst (λ b. MatchBool b (NamesHaveSorts e sorts xs vs) (IsCovered e sorts rest (values.Constructed c vs))) (sym other)
          (covered_by e sorts c vs arguments rest (subst (λ b. MatchBool b (NamesAreFor sorts xs arguments) (HasBranch sorts c arguments rest)) other has) have)
    ]

-- ---- values of a datatype are constructors' terms
no_other : {A : Type 0} (s : Sort) (d : Identity) (ss : Sorts) → (Datatype d ss ≡ s → ⊥) → (Datatype d ss ≡ s) ⊎ (Datatype d ss ≡ Anything) → A
no_other s d ss h (inl is) = absurd (h is)
no_other s d ss h (inr is) = clash is
  where
    clash : {A : Type 0} → Datatype d ss ≡ Anything → A
    clash is = cc

module _ (e : Environment) (sorts : List Sort) (d : Identity) (ss : Sorts) (branches : Branches) (has : HasEachConstructor e sorts d ss branches) where
  constructed_covered : (c : Identity) (vs : Values) (o : Option ConstructorTree) → e.constructors c ≡ o → IsDatatypeOf o (Datatype d ss) → ((arguments : List Sort) × ArgumentsAre o (Datatype d ss) arguments × HaveSorts e vs arguments)
      → IsCovered e sorts branches (values.Constructed c vs)
  constructed_covered c vs None is of_it h = absurd of_it
  constructed_covered c vs (Some k) is of_it (arguments, are, have) = covered_by e sorts c vs (map (instance_of ss) k.arguments) branches (has c k is of_it.0 of_it.1) (subst (HaveSorts e vs) (sym are) have)

  value_covered : (w : Value) → HasSort e w (Datatype d ss) → IsCovered e sorts branches w
  value_covered (values.Constructed c vs) h = constructed_covered c vs (e.constructors c) refl h.0 h.1
  value_covered (values.Number z) h = no_other Integers d ss (λ is. cc) h
  value_covered (values.Truth b) h = no_other Truths d ss (λ is. cc) h
  value_covered values.Null h = no_other Pointers d ss (λ is. cc) h
  value_covered (values.Pointer b o) h = no_other Pointers d ss (λ is. cc) h
  value_covered (values.Function g) h = no_other Pointers d ss (λ is. cc) h
  value_covered (values.Predicate q vs) h = absurd h.2
  value_covered (values.Fraction f) h = no_other Fractions d ss (λ is. cc) h.0

-- ---- the laws
pub each_constructor_covers : EachConstructorCovers
each_constructor_covers e sorts path t bs d ss has known = record { by = λ v m. value_covered e sorts d ss bs has _ (known.by v m) }

pub linking_adds_no_constructor : LinkingAddsNoConstructor
linking_adds_no_constructor units u e sorts d ss bs linked there (c0, k0, is0, of0) has c k is of_it number = has c k (linked.closed u there c c0 k k0 is is0 (of_it ∙ sym of0)) of_it number

pub switches_cover_where_linked : SwitchesCoverWhereLinked
switches_cover_where_linked units u e sorts path t bs d ss linked there declares has known =
    each_constructor_covers e sorts path t bs d ss (linking_adds_no_constructor units u e sorts d ss bs linked there declares has) known
