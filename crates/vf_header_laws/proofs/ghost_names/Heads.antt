-- What each form of annotations that declares one name declares: a new name, or one that means something already.
use Rattle.std.proofs.Common.{◌≡◌, refl, sym, ap, ◌∙◌, ℕ, Bool, true, false, if◌then◌else◌, List, [], length, is_some, Option, Some, None, Ok}
use Rattle.vf_names.specs.Names.{number_of}
use Rattle.vf_sorts.specs.Sorts.{Sort}
use Rattle.vf_declared.specs.declared.declaration.GhostDeclaration.{GhostDeclaration}
use Rattle.vf_declared.specs.declared.declaration.GhostDeclaration.TheVariants as ghosts
use Rattle.vf_declared.specs.declared.scope.Scope.{Scope}
use Rattle.vf_declared.specs.Scopes.{declaration_of, ghost_of}
use Rattle.vf_declared.specs.Writing.{with_ghost, with_ghost_body}
use Rattle.vf_syntax.specs.declared.item.FixpointBody.{FixpointBody}
use Rattle.vf_syntax.specs.declared.item.GhostParameter.{GhostParameter}
use Rattle.vf_syntax.specs.declared.written.Name.{Name}
use Rattle.vf_syntax.specs.AssertionTree.{PartTrees}
use Rattle.vf_syntax.specs.SortTree.{SortTree}
use Rattle.vf_sorting.specs.Spelling.{written_sort}
use Rattle.vf_asserting.specs.Cases.{ghost_number}
use Rattle.vf_asserting.specs.Leaving.{count}
use Rattle.vf_datatypes.specs.Datatypes.{with_next}
use Rattle.vf_datatypes.specs.NewNames.{name_refusal}
use Rattle.vf_datatypes.specs.NewNames as names
use Rattle.vf_datatypes.specs.Walking.{behind}
use Rattle.vf_heads.specs.Heads.{behind_index, constructor_behind, family_behind, fixpoint_behind, given_fixpoint, indexed, named_fixpoint, second_behind, with_family, with_fixpoint, with_predicate_constructor}
use Rattle.vf_heads.specs.Parameters.{named, none_taken, parameters_behind, Taken}
use Rattle.vf_predicates.specs.Earlier.{again_refusal, if_predicate, predicate_sorts, seen_too, stands_too}
use Rattle.vf_predicates.specs.Instances.{InstanceComes, IsInstance}
use Rattle.vf_predicates.specs.Instances as instances
use Rattle.vf_predicates.specs.Predicates.{again_behind, ConstructorComes, first_behind, HeadComes, IsAgain, number_at, PredicateBodyComes, PredicateComes, with_predicate}
use Rattle.vf_predicates.specs.Predicates as predicates
use Rattle.vf_equations.specs.Fixpoints.{FixpointComes}
use Rattle.vf_header_laws.proofs.c_names.Lists.{none_some}
use Rattle.vf_header_laws.proofs.c_names.Steps.{ok_same, went}
use Rattle.vf_header_laws.specs.ghost_names.Meaning.{ghost_at}
use Rattle.vf_header_laws.proofs.ghost_names.Bodies.{body_rest, equations_rest}
use Rattle.vf_header_laws.proofs.ghost_names.Declaring.{DeclaresAgain, DeclaresNew, fresh}
use Rattle.vf_header_laws.proofs.ghost_names.Parameters.{named_is, parameters_rest, Reads}
use Rattle.vf_header_laws.proofs.ghost_names.Rest.{IsRest, rest, rest_both, rest_same}
use Rattle.vf_header_laws.proofs.ghost_names.Walks.{through, unrefused}

-- ---- a name
-- a name is new, and means something of which a fact holds; or it means something already, and stands in one more file
pub data Declares (n : Name) (Q : GhostDeclaration → Type 0) (s t : Scope) : Type 0 where
  new : {g : GhostDeclaration} → DeclaresNew n g s t → Q g → Declares n Q s t
  again : {k : ℕ} → DeclaresAgain n k s t → Declares n Q s t

pub declares_rest : {n : Name} {Q : GhostDeclaration → Type 0} {s t u : Scope} → Declares n Q s t → IsRest t u → Declares n Q s u
declares_rest (new d q) h = new (record { fresh = d.fresh; is = rest_both d.is h }) q
declares_rest (again d) h = again (record { means = d.means; is = rest_both d.is h })

-- one more thing that annotations declare, in scopes that are the same but for locals
pub ghost_rest : {s t : Scope} (g : GhostDeclaration) → IsRest s t → IsRest (with_ghost s g) (with_ghost t g)
ghost_rest g h = record { is = ap (λ (z : Scope). rest (with_ghost z g)) h.is }

stands_rest : (s : Scope) (n : Name) (o : Option ℕ) → rest (stands_too (rest s) n o) ≡ rest (stands_too s n o)
stands_rest s n None = refl
stands_rest s n (Some k) = refl

pub again_rest : {s t : Scope} (n : Name) → IsRest s t → IsRest (seen_too s n) (seen_too t n)
again_rest {s} {t} n h = record { is = sym (stands_rest t n (number_of t.names n.text)) ∙ ap (λ (z : Scope). rest (seen_too z n)) h.is ∙ stands_rest s n (number_of s.names n.text) }

-- ---- predicates
-- a predicate whose arguments have the sorts of these parameters
pub record IsPredicate (n : Name) (gs : List GhostParameter) (s : Scope) (g : GhostDeclaration) : Type 0 where
  pub sorts : List Sort
  pub is : g ≡ ghosts.Predicate sorts
  pub reads : Reads [] gs (with_next s n) sorts

first_declares : {t : Scope} (n : Name) (gs : List GhostParameter) (s : Scope) → first_behind n gs s ≡ Ok t → Declares n (IsPredicate n gs s) s t
first_declares n gs s h =
    let i = unrefused (name_refusal s n) (behind with_predicate (parameters_behind [] gs (none_taken (with_next s n)))) h in
    let j = through with_predicate (parameters_behind [] gs (none_taken (with_next s n))) i.gives in
    new (record { fresh = fresh s n i.none; is = rest_both (ghost_rest (ghosts.Predicate j.at.sorts) (parameters_rest [] gs (none_taken (with_next s n)) j.first)) (rest_same (sym (ok_same j.next))) })
    (record { sorts = j.at.sorts; is = refl; reads = record { taken = j.at; is = j.first; sorts = refl } })

if_some : (s : Scope) (o : Option ℕ) (k : ℕ) → if_predicate s o ≡ Some k → o ≡ Some k
if_some s None k e = none_some e
if_some s (Some j) k e = by_test (is_some (predicate_sorts (ghost_of s j))) e
  where
    by_test : (b : Bool) → (if b then Some j else None) ≡ Some k → Some j ≡ Some k
    by_test true h = h
    by_test false h = none_some h

is_again : {n : Name} {gs : List GhostParameter} {t : Scope} (k : ℕ) (s : Scope) (l : Taken) → ghost_at s n.text n.place.file ≡ Some k → IsRest s l.scope → IsAgain n k l (Ok t) → Declares n (IsPredicate n gs s) s t
is_again {n} k s l e h (predicates.agreed a) = again (record { means = e; is = again_rest n h })

pub predicate_head : {t : Scope} (b : Bool) (n : Name) (gs : List GhostParameter) (s : Scope) → HeadComes b n gs s (Ok t) → Declares n (IsPredicate n gs s) s t
predicate_head b n gs s (predicates.new e f) = first_declares n gs s f
predicate_head b n gs s (predicates.again {k = k} e w) =
    let i = went w in
    let j = unrefused (again_refusal b s n k) (parameters_behind [] gs (none_taken s)) i.first.is in
    is_again k s i.at (if_some s (ghost_number (declaration_of s n.text n.place.file)) k e) (parameters_rest [] gs (none_taken s) j.gives) i.next

pub predicate_declares : {t : Scope} (n : Name) (gs : List GhostParameter) (s : Scope) → PredicateComes n gs s (Ok t) → Declares n (IsPredicate n gs s) s t
predicate_declares n gs s h =
    let k = went h in
    declares_rest (predicate_head false n gs s k.first) (record { is = sym (ap rest (ok_same k.next.is)) })

pub predicate_body_declares : {t : Scope} (n : Name) (gs : List GhostParameter) (xs : PartTrees) (s : Scope) → PredicateBodyComes n gs xs s (Ok t) → Declares n (IsPredicate n gs s) s t
predicate_body_declares n gs xs s h =
    let k = went h in
    declares_rest (predicate_head true n gs s k.first) (record { is = (body_rest (length s.locals.names) xs (with_ghost_body k.at (number_at s n)) k.next).is })

-- ---- bodies of families
is_instance : {t : Scope} (f : Name) (k m : ℕ) (s : Scope) (l : Taken) → IsRest s l.scope → IsInstance f k m l (Ok t) → IsRest s t
is_instance f k m s l h (instances.agreed e) = record { is = h.is }

pub instance_rest : {t : Scope} (f g : Name) (gs : List GhostParameter) (xs : PartTrees) (s : Scope) → InstanceComes f g gs xs s (Ok t) → IsRest s t
instance_rest f g gs xs s (instances.body {k = k} {m = m} a w) =
    let i = went w in
    let j = went i.first in
    rest_both (is_instance f k m s j.at (parameters_rest [] gs (none_taken s) j.first.is) j.next) (body_rest (length s.locals.names) xs i.at i.next)

-- ---- predicate constructors
-- a predicate constructor over the sorts of these parameters and of these
pub record IsConstructor (n : Name) (fs gs : List GhostParameter) (s : Scope) (g : GhostDeclaration) : Type 0 where
  pub first : List Sort
  pub second : List Sort
  pub is : g ≡ ghosts.PredicateConstructor (record { first = first; second = second })
  pub reads_first : Reads [] fs (with_next s n) first
  pub between : Scope
  pub rest : IsRest (with_next s n) between
  pub reads_second : Reads [] gs between second

constructor_head : {t : Scope} (n : Name) (fs gs : List GhostParameter) (s : Scope) → constructor_behind n fs gs s ≡ Ok t → Declares n (IsConstructor n fs gs s) s t
constructor_head n fs gs s h =
    let i = unrefused (name_refusal s n) (behind (second_behind gs) (parameters_behind [] fs (none_taken (with_next s n)))) h in
    let j = through (second_behind gs) (parameters_behind [] fs (none_taken (with_next s n))) i.gives in
    let k = through (with_predicate_constructor j.at.sorts) (parameters_behind [] gs (none_taken j.at.scope)) j.next in
    let g : GhostDeclaration = ghosts.PredicateConstructor (record { first = j.at.sorts; second = k.at.sorts }) in
    let between = parameters_rest [] fs (none_taken (with_next s n)) j.first in
    new (record { fresh = fresh s n i.none; is = rest_both (ghost_rest g (rest_both between (parameters_rest [] gs (none_taken j.at.scope) k.first))) (rest_same (sym (ok_same k.next))) })
    (record {
      first = j.at.sorts;
      second = k.at.sorts;
      is = refl;
      reads_first = record { taken = j.at; is = j.first; sorts = refl };
      between = j.at.scope;
      rest = between;
      reads_second = record { taken = k.at; is = k.first; sorts = refl };
    })

pub constructor_declares : {t : Scope} (n : Name) (fs gs : List GhostParameter) (xs : PartTrees) (s : Scope) → ConstructorComes n fs gs xs s (Ok t) → Declares n (IsConstructor n fs gs s) s t
constructor_declares n fs gs xs s h =
    let k = went h in
    declares_rest (constructor_head n fs gs s k.first.is) (body_rest (length s.locals.names) xs k.at k.next)

-- ---- families
-- a family over an index of a sort and the sorts of these parameters
pub record IsFamily (n : Name) (i : GhostParameter) (gs : List GhostParameter) (s : Scope) (g : GhostDeclaration) : Type 0 where
  pub index : Sort
  pub sorts : List Sort
  pub is : g ≡ ghosts.Family (record { index = index; arguments = sorts })
  pub given : written_sort (with_next s n) [] i.sort ≡ Ok index
  pub between : Scope
  pub rest : IsRest (with_next s n) between
  pub reads : Reads [] gs between sorts

pub family_declares : {t : Scope} (n : Name) (i : GhostParameter) (gs : List GhostParameter) (s : Scope) → family_behind n i gs s ≡ Ok t → Declares n (IsFamily n i gs s) s t
family_declares n x gs s h =
    let i = unrefused (name_refusal s n) (behind (indexed x gs (with_next s n)) (written_sort (with_next s n) [] x.sort)) h in
    let j = through (indexed x gs (with_next s n)) (written_sort (with_next s n) [] x.sort) i.gives in
    let c = length s.locals.names in
    let k = through (λ (l : Taken). behind_index c j.at gs l.scope) (named x.name (none_taken (with_next s n)) j.at) j.next in
    let m = through (with_family c j.at) (parameters_behind [] gs (none_taken k.at.scope)) k.next in
    let g : GhostDeclaration = ghosts.Family (record { index = j.at; arguments = m.at.sorts }) in
    let between = (named_is x.name (none_taken (with_next s n)) j.at k.first).rest in
    let behind_all = rest_both between (parameters_rest [] gs (none_taken k.at.scope) m.first) in
    new (record { fresh = fresh s n i.none; is = rest_both (record { is = (ghost_rest g behind_all).is }) (rest_same (sym (ok_same m.next))) })
    (record {
      index = j.at;
      sorts = m.at.sorts;
      is = refl;
      given = j.first;
      between = k.at.scope;
      rest = between;
      reads = record { taken = m.at; is = m.first; sorts = refl };
    })

-- ---- fixpoints
-- a fixpoint with these type parameters, of which the result and the parameters have these sorts
pub record IsFixpoint (r : SortTree) (n : Name) (ns : List Name) (gs : List GhostParameter) (s : Scope) (g : GhostDeclaration) : Type 0 where
  pub parameters : List (List ℕ)
  pub result_sort : Sort
  pub sorts : List Sort
  pub is : g ≡ ghosts.Fixpoint (record { parameters = length parameters; arguments = sorts; «result» = result_sort })
  pub written : names.parameters_behind s ns [] ≡ Ok parameters
  pub given : written_sort s parameters r ≡ Ok result_sort
  pub reads : Reads parameters gs (with_next s n) sorts

fixpoint_head : {t : Scope} (r : SortTree) (n : Name) (ns : List Name) (gs : List GhostParameter) (s : Scope) → fixpoint_behind r n ns gs s ≡ Ok t → Declares n (IsFixpoint r n ns gs s) s t
fixpoint_head r n ns gs s h =
    let i = through (given_fixpoint r n gs s) (names.parameters_behind s ns []) h in
    let j = through (named_fixpoint n gs s i.at) (written_sort s i.at r) i.next in
    let k = unrefused (name_refusal s n) (behind (with_fixpoint (length i.at) j.at) (parameters_behind i.at gs (none_taken (with_next s n)))) j.next in
    let m = through (with_fixpoint (length i.at) j.at) (parameters_behind i.at gs (none_taken (with_next s n))) k.gives in
    let g : GhostDeclaration = ghosts.Fixpoint (record { parameters = length i.at; arguments = m.at.sorts; «result» = j.at }) in
    new (record { fresh = fresh s n k.none; is = rest_both (ghost_rest g (parameters_rest i.at gs (none_taken (with_next s n)) m.first)) (rest_same (sym (ok_same m.next))) })
    (record {
      parameters = i.at;
      result_sort = j.at;
      sorts = m.at.sorts;
      is = refl;
      written = i.first;
      given = j.first;
      reads = record { taken = m.at; is = m.first; sorts = refl };
    })

pub fixpoint_declares : {t : Scope} (r : SortTree) (n : Name) (ns : List Name) (gs : List GhostParameter) (b : FixpointBody) (s : Scope) → FixpointComes r n ns gs b s (Ok t) → Declares n (IsFixpoint r n ns gs s) s t
fixpoint_declares r n ns gs b s h =
    let k = went h in
    declares_rest (fixpoint_head r n ns gs s k.first.is) (equations_rest (count s) (length s.ghosts) k.at b k.next)
