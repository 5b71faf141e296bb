-- The unit of lists and their lengths meets all that is asked of units.
use Rattle.std.proofs.Common.{◌≡◌, inl, inr, ℕ, ◌<◌, Ok, zero, suc, ◌+◌, Bool, true, false, cond, List, [], ◌∷◌, ◌++◌, Option, Some, None, drop, refl, sym, subst, ap, ◌∙◌, arith}
use Rattle.std.specs.Prelude.{codes, pos, if◌then◌else◌, is_some, slice_get, Contains}
use Rattle.vf_base.specs.declared.int_type.IntType.TheVariants as integers
use Rattle.vf_tree.specs.Core.{Identity}
use Rattle.vf_names.specs.Names.{number_of}
use Rattle.vf_names.proofs.Numbering.{name_there}
use Rattle.vf_model.specs.Values.{Value, Values, none, more, same_identity}
use Rattle.vf_model.specs.Values as values
use Rattle.vf_meaning.specs.Valuations.{value_at, appended, of_arguments}
use Rattle.vf_meaning.specs.Valuations as valuations
use Rattle.vf_closure.specs.Values.{value}
use Rattle.vf_sorts.specs.Sorts.{Sort}
use Rattle.vf_sorts.specs.Pairs.{left_to_do}
use Rattle.vf_sorts.specs.Unifying.{Equates, unified}
use Rattle.vf_syntax.specs.declared.written.Name.{Name}
use Rattle.vf_syntax.specs.GhostExprTree.{GhostExprTree}
use Rattle.vf_syntax.specs.GhostExprTree as tree
use Rattle.vf_declared.specs.declared.declaration.Constructor.{Constructor}
use Rattle.vf_declared.specs.declared.declaration.Declaration.{Declaration}
use Rattle.vf_declared.specs.declared.declaration.Fixpoint as declaration
use Rattle.vf_declared.specs.declared.declaration.GhostDeclaration.{GhostDeclaration}
use Rattle.vf_declared.specs.declared.declaration.GhostDeclaration.TheVariants as ghosts
use Rattle.vf_declared.specs.declared.declaration.Meaning.TheVariants as meanings
use Rattle.vf_declared.specs.declared.scope.Scope.{Scope}
use Rattle.vf_declared.specs.Scopes.{at_index, at_name, datatype_of, ghost_of, is_later_predicate}
use Rattle.vf_sorting.specs.declared.context.Context.{Context}
use Rattle.vf_sorting.specs.HasSort.{HasSort, number, name_, application, chain, joined, no_links, more_links, Passes, as_wanted, none_passed, one_passed}
use Rattle.vf_sorting.specs.declared.scheme.Scheme.{Scheme}
use Rattle.vf_sorting.specs.Kinds.{int_sort}
use Rattle.vf_sorting.specs.Operators.{place_of}
use Rattle.vf_sorting.specs.Schemes.{application_scheme, at_sort, count_in, name_scheme, names_predicate}
use Rattle.vf_binding.specs.Bound.{no_names}
use Rattle.vf_asserting.specs.Cases.{none_bind, one_binds}
use Rattle.vf_equations.specs.Fixpoints.{around_fixpoint}
use Rattle.vf_equations.specs.Switching.{switches}
use Rattle.vf_equations.specs.Values.{no_cases, more_cases, a_case, passes}
use Rattle.vf_terms.specs.Named.{files_or_none, identity_of}
use Rattle.vf_definitions.specs.Laws.{MeetsBody, MeetsDefinitions}
use Rattle.vf_definitions.specs.Unfolded.{case_for}
use Rattle.vf_definitions.specs.declared.fixpoint.Body.TheVariants.{Returns, Switches}
use Rattle.vf_definitions.specs.declared.fixpoint.Case.{Case}
use Rattle.vf_definitions.specs.declared.fixpoint.Fixpoint as definitions
use Rattle.vf_defining.specs.Bodies.{case_names, within_case}
use Rattle.vf_defining.specs.UpTo.{up_to}
use Rattle.vf_defining.specs.Fixpoints.{Defines}
use Rattle.vf_defining.specs.Fixpoints as defined
use Rattle.vf_defining.specs.Units.{HaveDefinitions, no_items, more_items, other_item, fixpoint, Written, within_fixpoint}
use Rattle.vf_fixpoint_laws.specs.values.Declares.{Declared, Declares}
use Rattle.vf_fixpoint_laws.specs.values.Example.{declared_as, here, length_in, length_of_parts}
use Rattle.vf_fixpoint_laws.specs.bodies.Closed.{Each, IsClosed}
use Rattle.vf_fixpoint_laws.specs.bodies.Bodies.{HasEachCase, IsWellDeclared, declared_at}
use Rattle.vf_fixpoint_laws.specs.bodies.Recursion.{BodyGoesDown, Ranks, TermGoesDown}
use Rattle.vf_fixpoint_laws.specs.bodies.Units.{EachIsCovered, EachIsWritten, GoDown, HaveEachCase, IsWritten}
use Rattle.vf_fixpoint_laws.specs.bodies.Fronts.{LaterAreDeclared}
use Rattle.vf_fixpoint_laws.specs.bodies.Example.{ListsAreDefined, cons_case, cons_constructor, cons_text, defined_by, item_of, length_at, length_term, length_written, list_definitions, list_interpretation, list_items, list_paths, list_scope, list_sort, nil_case, nil_constructor, over_lists, sum_of, sum_term, twice_written}
use Rattle.vf_fixpoint_laws.proofs.bodies.Fronts.{fronts_are_covered, later_predicates_stay}

abbrev D : Declared
D = declared_at list_scope list_paths

-- ---- what is declared
declaration_at : (k : ℕ) (d : Declaration) → slice_get list_scope.declarations k ≡ Some d → d ≡ declared_as k
declaration_at zero d e = cc
declaration_at (suc zero) d e = cc
declaration_at (suc (suc zero)) d e = cc
declaration_at (suc (suc (suc zero))) d e = cc
declaration_at (suc (suc (suc (suc zero)))) d e = cc
declaration_at (suc (suc (suc (suc (suc zero))))) d e = cc
declaration_at (suc (suc (suc (suc (suc (suc k)))))) d e = absurd cc

same_number : {m n : ℕ} → meanings.Ghost m ≡ meanings.Ghost n → m ≡ n
same_number e = cc

-- what an identity is declared as, by the number of its name
pub record IsNamed (c : Identity) (g : GhostDeclaration) : Type 0 where
  pub number : ℕ
  pub name : List ℕ
  pub named : slice_get list_scope.names number ≡ Some name
  pub stands : ghost_of list_scope number ≡ Some g
  pub is : c ≡ codes "one.c#" ++ name

is_named : (c : Identity) (g : GhostDeclaration) → Declares D c g → IsNamed c g
is_named c g h = by (number_of list_scope.names h.name) refl
  where
    at : (k : ℕ) → number_of list_scope.names h.name ≡ Some k → h.declaration ≡ declared_as k → IsNamed c g
    at k there same =
        let one : k ≡ h.number = same_number (ap (λ (d : Declaration). d.meaning) (sym same) ∙ h.means) in
        record {
          number = k;
          name = h.name;
          named = name_there list_scope.names h.name k there;
          stands = ap (ghost_of list_scope) one ∙ h.stands;
          is = h.is ∙ ap (λ (d : Declaration). identity_of list_paths d.files h.name) same;
        }

    by : (o : Option ℕ) → number_of list_scope.names h.name ≡ o → IsNamed c g
    by None e = absurd (let q : None ≡ Some h.declaration = ap (at_index list_scope.declarations) (sym e) ∙ h.found in cc)
    by (Some k) e = at k e (declaration_at k h.declaration (ap (at_index list_scope.declarations) (sym e) ∙ h.found))

-- an identity tells its name, and so its declaration
told_once : (c : Identity) (a b : GhostDeclaration) → Declares D c a → Declares D c b → a ≡ b
told_once c a b p q = by
  where
    files : (g : GhostDeclaration) (h : Declares D c g) → c ≡ codes "one.c#" ++ h.name
    files g h = by (number_of list_scope.names h.name) refl
      where
        by : (o : Option ℕ) → number_of list_scope.names h.name ≡ o → c ≡ codes "one.c#" ++ h.name
        by None e = absurd (let q : None ≡ Some h.declaration = ap (at_index list_scope.declarations) (sym e) ∙ h.found in cc)
        by (Some k) e = h.is ∙ ap (λ (d : Declaration). identity_of list_paths d.files h.name) (declaration_at k h.declaration (ap (at_index list_scope.declarations) (sym e) ∙ h.found))

    name_same : p.name ≡ q.name
    name_same = ap (drop 6) (sym (files a p) ∙ files b q)

    some_same : {d e : Declaration} → Some d ≡ Some e → d ≡ e
    some_same e = cc

    declaration_same : p.declaration ≡ q.declaration
    declaration_same = some_same (sym p.found ∙ ap (at_name list_scope.names list_scope.declarations) name_same ∙ q.found)

    numbers_same : p.number ≡ q.number
    numbers_same = same_number (sym p.means ∙ ap (λ (d : Declaration). d.meaning) declaration_same ∙ q.means)

    ghost_same : {g h : GhostDeclaration} → Some g ≡ Some h → g ≡ h
    ghost_same e = cc

    by : a ≡ b
    by = ghost_same (sym p.stands ∙ ap (ghost_of list_scope) numbers_same ∙ q.stands)

-- no sort of another text stands in the arguments of a constructor
abbrev Closed : Constructor → Type 0
Closed k = Each (IsClosed (count_in (datatype_of list_scope k.datatype))) k.arguments

closed_at : (n : ℕ) (k : Constructor) → ghost_of list_scope n ≡ Some (ghosts.Constructor k) → Closed k
closed_at zero k e = absurd cc
closed_at (suc zero) k e = subst Closed (let q : nil_constructor ≡ k = cc in q) tt
closed_at (suc (suc zero)) k e = subst Closed (let q : cons_constructor ≡ k = cc in q) (tt, (tt, tt))
closed_at (suc (suc (suc zero))) k e = absurd cc
closed_at (suc (suc (suc (suc zero)))) k e = absurd cc
closed_at (suc (suc (suc (suc (suc zero))))) k e = absurd cc
closed_at (suc (suc (suc (suc (suc (suc n)))))) k e = absurd cc

well : IsWellDeclared D
well = record { tells = told_once; constructors = λ c k is. closed_at is.number k is.stands }

-- ---- the fixpoints stand among the items
abbrev Stands : Identity → declaration.Fixpoint → Type 0
Stands c x = IsWritten list_scope list_paths list_items c x

length_stands : Stands (codes "one.c#length") over_lists
length_stands = record { item = item_of length_written; among = (1, omega arith, refl); written = length_written; is = refl; identity = refl; number = 3; numbered = record { means = refl; is = refl }; known_result = tt; known_arguments = (tt, tt); long = refl }

twice_stands : Stands (codes "one.c#twice") over_lists
twice_stands = record { item = item_of twice_written; among = (2, omega arith, refl); written = twice_written; is = refl; identity = refl; number = 4; numbered = record { means = refl; is = refl }; known_result = tt; known_arguments = (tt, tt); long = refl }

same_name : {x y : List ℕ} → Some x ≡ Some y → y ≡ x
same_name e = cc

identified : (c : Identity) (x y : List ℕ) → c ≡ codes "one.c#" ++ y → y ≡ x → codes "one.c#" ++ x ≡ c
identified c x y is same = ap (λ (z : List ℕ). codes "one.c#" ++ z) (sym same) ∙ sym is

stands_at : (c : Identity) (x : declaration.Fixpoint) (n : ℕ) (y : List ℕ) → slice_get list_scope.names n ≡ Some y → ghost_of list_scope n ≡ Some (ghosts.Fixpoint x) → c ≡ codes "one.c#" ++ y → Stands c x
stands_at c x zero y there e is = absurd cc
stands_at c x (suc zero) y there e is = absurd cc
stands_at c x (suc (suc zero)) y there e is = absurd cc
stands_at c x (suc (suc (suc zero))) y there e is =
    subst (λ (z : declaration.Fixpoint). Stands c z) (let q : over_lists ≡ x = cc in q) (subst (λ (z : Identity). Stands z over_lists) (identified c (codes "length") y is (same_name there)) length_stands)
stands_at c x (suc (suc (suc (suc zero)))) y there e is =
    subst (λ (z : declaration.Fixpoint). Stands c z) (let q : over_lists ≡ x = cc in q) (subst (λ (z : Identity). Stands z over_lists) (identified c (codes "twice") y is (same_name there)) twice_stands)
stands_at c x (suc (suc (suc (suc (suc zero))))) y there e is = absurd cc
stands_at c x (suc (suc (suc (suc (suc (suc n)))))) y there e is = absurd cc

written : EachIsWritten list_scope list_paths list_items
written c x h = let n = is_named c (ghosts.Fixpoint x) h in stands_at c x n.number n.name n.named n.stands n.is

-- ---- the unit covers what is declared up to a name
when_there : {A : Type 0} (b : Bool) (o : Option A) (a : A) → (if b then o else None) ≡ Some a → o ≡ Some a
when_there true o a e = e
when_there false o a e = absurd cc

-- the predicate, by what is told of it
held_declares : (x : List ℕ) (ts : List Sort) (o : Option ℕ) → number_of list_scope.predicates x ≡ o → at_index list_scope.predicate_sorts o ≡ Some ts
    → Declares D (identity_of list_paths (files_or_none (at_index list_scope.predicate_files o)) x) (ghosts.Predicate ts)
held_declares x ts None there e = absurd cc
held_declares x ts (Some (suc k)) there e = absurd cc
held_declares x ts (Some zero) there e =
    let name : x ≡ codes "held" = same_name (name_there list_scope.predicates x 0 there) in
    let sorts : list_sort ∷ [] ≡ ts = cc in
    subst (λ (z : List ℕ). Declares D (identity_of list_paths (0 ∷ []) z) (ghosts.Predicate ts)) (sym name)
    (subst (λ (us : List Sort). Declares D (codes "one.c#held") (ghosts.Predicate us)) sorts
    (record { name = codes "held"; declaration = declared_as 5; number = 5; found = refl; means = refl; stands = refl; is = refl }))

later_declared : (n : Name) → LaterAreDeclared n list_scope list_paths
later_declared n x from ts k before there stands =
    held_declares x ts (number_of list_scope.predicates x) refl (when_there (is_later_predicate (up_to n list_scope) x from) (at_name list_scope.predicates list_scope.predicate_sorts x) ts stands)

covered : EachIsCovered list_scope list_paths list_items
covered item w there is = fronts_are_covered w.name list_scope list_paths (later_predicates_stay w.name list_scope list_paths (later_declared w.name))

-- ---- what is made equal
equal_itself : (t : Sort) → unified [] t t ≡ Some [] → Equates [] t t []
equal_itself t made = record { long = refl; alike = λ f. ((λ a. (a, refl)), (λ b. b.0)); kept = λ f a. a; told = λ f a e. a; made = made }

equal_int : Equates [] int_sort int_sort []
unfolding left_to_do
equal_int = equal_itself int_sort refl

equal_list : Equates [] list_sort list_sort []
unfolding left_to_do
equal_list = equal_itself list_sort refl

-- ---- the bodies have sorts
-- a number passes for an integer
number_passes : (s : Scope) (c : Context) (n : ℕ) → Passes s c [] int_sort here (tree.number here n integers.Int) []
number_passes s c n = as_wanted refl refl number equal_int

-- what the fixpoint may be applied at
abbrev over_scheme : Scheme
over_scheme = record { parameters = 0; arguments = list_sort ∷ []; result = int_sort }

-- the length of a local has the sort of integers
length_sorted : (s : Scope) (n : ℕ) (x : List ℕ) → names_predicate s [] (codes "length") ≡ false → application_scheme s (Some n) here (codes "length") ≡ Ok over_scheme → name_scheme s here x ≡ Ok (at_sort list_sort)
    → HasSort s (around_fixpoint n) [] (length_at x) int_sort []
length_sorted s n x other is local = application {g = over_scheme} other is ((tt, tt), tt) (one_passed (as_wanted refl refl (name_ {g = at_sort list_sort} local (tt, tt)) equal_list) none_passed)

-- the sum of two integers passes for one
sum_passes : (s : Scope) (c : Context) (a b : GhostExprTree) → HasSort s c [] a int_sort [] → Passes s c [] int_sort (place_of b) b [] → Passes s c [] int_sort (place_of (sum_of a b)) (sum_of a b) []
sum_passes s c a b h p = as_wanted refl refl (chain h (more_links (joined refl refl equal_int p) no_links)) equal_int

-- what is declared in a body
abbrev In : Written → Scope
In w = within_fixpoint (up_to w.name list_scope) w.parameters (list_sort ∷ [])

abbrev In_cons : Scope
In_cons = within_case (In length_written) 0 cons_text.pattern

cons_passes : Passes In_cons (around_fixpoint 3) [] int_sort here cons_text.value []
cons_passes =
    sum_passes In_cons (around_fixpoint 3) (tree.number here 1 integers.Int) (length_at (codes "t")) number
    (as_wanted refl refl (length_sorted In_cons 3 (codes "t") refl refl refl) equal_int)

twice_passes : Passes (In twice_written) (around_fixpoint 4) [] int_sort here (sum_of (length_at (codes "xs")) (length_at (codes "xs"))) []
twice_passes =
    let one = length_sorted (In twice_written) 4 (codes "xs") refl refl refl in
    sum_passes (In twice_written) (around_fixpoint 4) (length_at (codes "xs")) (length_at (codes "xs")) one (as_wanted refl refl one equal_int)

length_defined : Defines (In length_written) list_paths 3 length_written.body (Switches 0 (nil_case ∷ cons_case ∷ []))
length_defined =
    defined.cases {m = 0} {s' = In length_written} {k = []} {k' = []} (switches {k = []} {t = list_sort} {d = 0} refl tt refl refl equal_list)
    (more_cases {s₁ = In length_written} {k₁ = []} (a_case {b = no_names} none_bind (passes tt (number_passes (In length_written) (around_fixpoint 3) 0)))
    (more_cases {s₁ = In length_written} {k₁ = []} (a_case {b = case_names (In length_written) 0 cons_text.pattern} (one_binds refl (one_binds refl none_bind)) (passes tt cons_passes)) no_cases))

twice_defined : Defines (In twice_written) list_paths 4 twice_written.body (Returns (sum_term (length_term 0) (length_term 0)))
twice_defined = defined.value {k = []} (passes tt twice_passes)

have : HaveDefinitions list_scope list_paths list_items list_definitions
have =
    more_items {ds = []} {es = list_definitions} (other_item refl)
    (more_items {ds = defined_by (codes "one.c#length") (Switches 0 (nil_case ∷ cons_case ∷ [])) ∷ []} {es = defined_by (codes "one.c#twice") (Returns (sum_term (length_term 0) (length_term 0))) ∷ []}
    (fixpoint {w = length_written} {n = 3} {f = over_lists} {b = Switches 0 (nil_case ∷ cons_case ∷ [])} refl (record { means = refl; is = refl }) length_defined)
    (more_items {ds = defined_by (codes "one.c#twice") (Returns (sum_term (length_term 0) (length_term 0))) ∷ []} {es = []}
    (fixpoint {w = twice_written} {n = 4} {f = over_lists} {b = Returns (sum_term (length_term 0) (length_term 0))} refl (record { means = refl; is = refl }) twice_defined)
    (more_items {ds = []} {es = []} (other_item refl) no_items)))

-- ---- the cases
-- the case for an identity is one of the two
abbrev Cases : List Case
Cases = nil_case ∷ cons_case ∷ []

case_told : (c : Identity) (y : Case) (P : Case → Type 0) → case_for Cases c ≡ Some y → P nil_case → P cons_case → P y
case_told c y P e p q = by (same_identity (codes "one.c#nil") c) (same_identity (codes "one.c#cons") c) e
  where
    by : (a b : Bool) → cond a (Some nil_case) (cond b (Some cons_case) None) ≡ Some y → P y
    by true b e = subst P (let q : nil_case ≡ y = cc in q) p
    by false true e = subst P (let q : cons_case ≡ y = cc in q) q
    by false false e = absurd cc

-- each constructor has one
case_there : (c : Identity) (n : ℕ) (y : List ℕ) (k : Constructor) → slice_get list_scope.names n ≡ Some y → ghost_of list_scope n ≡ Some (ghosts.Constructor k) → c ≡ codes "one.c#" ++ y → is_some (case_for Cases c) ≡ true
case_there c zero y k there e is = absurd cc
case_there c (suc zero) y k there e is = subst (λ (z : Identity). is_some (case_for Cases z) ≡ true) (identified c (codes "nil") y is (same_name there)) refl
case_there c (suc (suc zero)) y k there e is = subst (λ (z : Identity). is_some (case_for Cases z) ≡ true) (identified c (codes "cons") y is (same_name there)) refl
case_there c (suc (suc (suc zero))) y k there e is = absurd cc
case_there c (suc (suc (suc (suc zero)))) y k there e is = absurd cc
case_there c (suc (suc (suc (suc (suc zero))))) y k there e is = absurd cc
case_there c (suc (suc (suc (suc (suc (suc n)))))) y k there e is = absurd cc

-- what is so of both definitions is so of each
each_definition : (P : definitions.Fixpoint → Type 0) → P (defined_by (codes "one.c#length") (Switches 0 Cases)) → P (defined_by (codes "one.c#twice") (Returns (sum_term (length_term 0) (length_term 0)))) → (k : definitions.Fixpoint) → Contains list_definitions k → P k
each_definition P p q k (zero, l, is) = subst P is p
each_definition P p q k (suc zero, l, is) = subst P is q
each_definition P p q k (suc (suc j), l, is) = absurd (omega (arith, l))

complete : HaveEachCase D list_definitions
complete = each_definition (λ (k : definitions.Fixpoint). (x : declaration.Fixpoint) → Declares D k.identity (ghosts.Fixpoint x) → HasEachCase D x.arguments k.body)
    (λ x is n us at c y declares built. let m = is_named c (ghosts.Constructor y) declares in case_there c m.number m.name y m.named m.stands m.is) (λ x is. tt)

-- ---- the order
abbrev order : Ranks
order c = cond (same_identity (codes "one.c#length") c) 0 1

down : GoDown order list_definitions
down = each_definition (λ (k : definitions.Fixpoint). BodyGoesDown order k.identity k.parameters k.body)
    (λ g y there. case_told g y (λ (z : Case). TermGoesDown order (codes "one.c#length") 1 (Some 0) z.result) there (tt, tt) (tt, ((tt, tt), ((inr (refl, omega arith), ((tt, tt), tt)), tt))))
    (let low : 0 < 1 = omega arith in let one : TermGoesDown order (codes "one.c#twice") 1 None (length_term 0) = (inl low, ((tt, tt), tt)) in (tt, (one, (one, tt))))

-- ---- the values
one_value : (vs : Values) → valuations.count vs ≡ 1 → (v : Value) × (vs ≡ more v none)
one_value none e = absurd cc
one_value (more v none) e = (v, refl)
one_value (more v (more w vs)) e = absurd cc

no_value_left : (us : Values) → valuations.count us ≡ 0 → us ≡ none
no_value_left none e = refl
no_value_left (more u us) e = absurd cc

two_values : (us : Values) → valuations.count us ≡ 2 → (v : Value) × (w : Value) × (us ≡ more v (more w none))
two_values none e = absurd cc
two_values (more v none) e = absurd cc
two_values (more v (more w none)) e = (v, w, refl)
two_values (more v (more w (more u us))) e = absurd cc

-- the length of a list is the value of its case
abbrev Meets : Values → Values → Case → Type 0
Meets vs us y = valuations.count us ≡ y.names → values.Number (pos (length_of_parts us)) ≡ value list_interpretation (of_arguments (appended vs us)) y.result

nil_meets : (v : Value) (us : Values) → Meets (more v none) us nil_case
nil_meets v us e = subst (λ (ws : Values). values.Number (pos (length_of_parts ws)) ≡ values.Number (pos 0)) (sym (no_value_left us e)) refl

cons_meets : (v : Value) (us : Values) → Meets (more v none) us cons_case
cons_meets v us e =
    let t = two_values us e in
    let next : suc (length_in t.1) ≡ 1 + length_in t.1 = omega arith in
    subst (λ (ws : Values). values.Number (pos (length_of_parts ws)) ≡ value list_interpretation (of_arguments (appended (more v none) ws)) cons_case.result) (sym t.2) (ap (λ (n : ℕ). values.Number (pos n)) next)

meets : MeetsDefinitions list_interpretation list_definitions
meets = each_definition (λ (k : definitions.Fixpoint). MeetsBody list_interpretation k k.body)
    (λ vs us c y long at there names.
    let one = one_value vs long in
    ap (λ (v : Value). values.Number (pos (length_in v))) at
    ∙ subst (λ (ws : Values). values.Number (pos (length_of_parts us)) ≡ value list_interpretation (of_arguments (appended ws us)) y.result) (sym one.1)
    (case_told c y (λ (z : Case). Meets (more one.0 none) us z) there (nil_meets one.0 us) (cons_meets one.0 us) names))
    (λ vs long. refl)

pub lists_are_defined : ListsAreDefined
lists_are_defined = record {
  defines = record { have = have; meets = meets; well = well; written = written; covered = covered; cases = complete; ranks = order; down = down };
  before_twice = refl;
  before_held = refl;
}
