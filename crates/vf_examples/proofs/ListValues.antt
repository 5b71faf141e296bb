-- The datatype of lists has a value at every sort.
use Rattle.std.proofs.Common.{◌≡◌, Bool, true, false, cond, [], ◌∷◌, Some, None, refl, sym, ap, ◌∙◌}
use Rattle.vf_model.specs.Values.{same_identity}
use Rattle.vf_model.specs.Values as values
use Rattle.vf_meaning.specs.Ghost.{Parameter, Datatype, none, more, ConstructorTree}
use Rattle.vf_examples.specs.SmallLemmas.{list_name, nil_name, cons_name, ListsHaveValues}

some_same : {A : Type 0} {x y : A} → Some x ≡ Some y → x ≡ y
some_same e = cc

none_some : {A B : Type 0} {x : A} → None ≡ Some x → B
none_some e = cc

abbrev nil_tree : ConstructorTree
nil_tree = record { datatype = list_name; parameters = 1; arguments = [] }

abbrev cons_tree : ConstructorTree
cons_tree = record { datatype = list_name; parameters = 1; arguments = Parameter 0 ∷ Datatype list_name (more (Parameter 0) none) ∷ [] }

-- each constructor is one of lists
of_lists : (b c : Bool) (k : ConstructorTree) → cond b (Some nil_tree) (cond c (Some cons_tree) None) ≡ Some k → (k.datatype ≡ list_name) × (k.parameters ≡ 1)
of_lists true c k is = (ap (λ z. z.datatype) (sym (some_same is)), ap (λ z. z.parameters) (sym (some_same is)))
of_lists false true k is = (ap (λ z. z.datatype) (sym (some_same is)), ap (λ z. z.parameters) (sym (some_same is)))
of_lists false false k is = none_some is

pub lists_have_values : ListsHaveValues
lists_have_values = record {
  by = λ d ss declared has.
      let (c, k, is, name_is, number) = declared in
      let one = of_lists (same_identity nil_name c) (same_identity cons_name c) k is in
      (values.Constructed nil_name values.none, ((sym one.0 ∙ name_is, sym number ∙ one.1), ([], refl, tt)));
}
