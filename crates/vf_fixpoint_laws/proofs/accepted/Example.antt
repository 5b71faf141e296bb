-- The unit of lists is accepted, and expressions over a list have values of their sorts.
use Rattle.std.proofs.Common.{◌≡◌, refl, sym, ap, subst, ◌∙◌, ℕ, ℤ, zero, suc, ◌+◌, pos, Bool, true, false, List, [], ◌∷◌, Some, None, Ok, cond, arith}
use Rattle.std.specs.Prelude.{codes, if◌then◌else◌, slice_get}
use Rattle.std.specs.Str.{bytes_eq}
use Rattle.vf_base.specs.declared.int_type.IntType.TheVariants as integers
use Rattle.vf_tree.specs.Core.{Identity}
use Rattle.vf_model.specs.Values.{Value, Values, none, more, same_identity}
use Rattle.vf_model.specs.Values as values
use Rattle.vf_meaning.specs.Valuations.{Valuation, value_at, appended, of_arguments}
use Rattle.vf_meaning.specs.Valuations as valuations
use Rattle.vf_meaning.specs.GhostValues.{Interpretation}
use Rattle.vf_closure.specs.Values.{value}
use Rattle.vf_sorts.specs.declared.sort.Head.TheVariants as heads
use Rattle.vf_sorts.specs.Sorts.{Sort, no_sorts}
use Rattle.vf_sorts.specs.Pairs.{left_to_do}
use Rattle.vf_sorts.specs.Unifying.{Equates, unified}
use Rattle.vf_sorts.specs.Unknowns.{AgreesAsTold, leaf, settling}
use Rattle.vf_syntax.specs.GhostExprTree as tree
use Rattle.vf_declared.specs.declared.declaration.Declaration.{Declaration}
use Rattle.vf_declared.specs.declared.declaration.Fixpoint.{Fixpoint}
use Rattle.vf_declared.specs.declared.declaration.GhostDeclaration.{GhostDeclaration}
use Rattle.vf_declared.specs.declared.declaration.GhostDeclaration.TheVariants as ghosts
use Rattle.vf_declared.specs.declared.declaration.GhostSides.{GhostSides}
use Rattle.vf_declared.specs.declared.declaration.Meaning.TheVariants as meanings
use Rattle.vf_declared.specs.declared.locals.Local.{Local}
use Rattle.vf_declared.specs.declared.locals.Local.TheVariants as locals
use Rattle.vf_declared.specs.declared.scope.Scope.{Scope}
use Rattle.vf_declared.specs.Beginning.{empty}
use Rattle.vf_declared.specs.Scopes.{at_index}
use Rattle.vf_declared.specs.Writing.{no_ghost_sides}
use Rattle.vf_sorting.specs.declared.context.Context.{Context}
use Rattle.vf_sorting.specs.HasSort.{HasSort, number, name_, application, chain, joined, no_links, more_links, Passes, as_wanted, none_passed, one_passed}
use Rattle.vf_sorting.specs.declared.scheme.Scheme.{Scheme}
use Rattle.vf_sorting.specs.Kinds.{int_sort}
use Rattle.vf_sorting.specs.Schemes.{at_sort, sort_of_local}
use Rattle.vf_binding.specs.Bound.{no_names}
use Rattle.vf_asserting.specs.Cases.{none_bind, one_binds}
use Rattle.vf_datatypes.specs.declared.stated.Stated.{Stated}
use Rattle.vf_gathering.specs.Standing.{any_files}
use Rattle.vf_walk.specs.Items.{WalksItem}
use Rattle.vf_walk.specs.Walking as walking
use Rattle.vf_annotations.specs.Forms.{meanings as meanings_of}
use Rattle.vf_equations.specs.Fixpoints.{around_fixpoint}
use Rattle.vf_equations.specs.Fixpoints as fixpoints
use Rattle.vf_equations.specs.Switching.{Switches, switches}
use Rattle.vf_equations.specs.Values.{CasesGive, no_cases, more_cases, a_case, passes}
use Rattle.vf_resolve.specs.Beginning.{beginning}
use Rattle.vf_resolve.specs.Units.{ItemsCome}
use Rattle.vf_terms.specs.Named.{local_term}
use Rattle.vf_terms.specs.Readings.{read}
use Rattle.vf_definitions.specs.Laws.{MeetsBody, MeetsDefinitions}
use Rattle.vf_definitions.specs.Unfolded.{case_for}
use Rattle.vf_definitions.specs.declared.fixpoint.Body.TheVariants as bodies
use Rattle.vf_definitions.specs.declared.fixpoint.Case.{Case}
use Rattle.vf_definitions.specs.declared.fixpoint.Fixpoint as definitions
use Rattle.vf_defining.specs.Bodies.{case_names, within_case}
use Rattle.vf_defining.specs.Fixpoints as defined
use Rattle.vf_defining.specs.Symbols.{without_locals}
use Rattle.vf_defining.specs.Units.{HaveDefinitions, no_items, more_items, other_item, fixpoint, within_fixpoint}
use Rattle.vf_defining.specs.UpTo.{up_to}
use Rattle.vf_fixpoint_laws.specs.values.Declares.{Declared}
use Rattle.vf_fixpoint_laws.specs.values.Example.{length_in, length_of_parts, no_words}
use Rattle.vf_fixpoint_laws.specs.values.Given.{GivesValues}
use Rattle.vf_fixpoint_laws.specs.values.Instances.{Instance, settled_at}
use Rattle.vf_fixpoint_laws.specs.values.Telling.{IsTermOf}
use Rattle.vf_fixpoint_laws.specs.values.Worth.{HasValue, Sets, passing}
use Rattle.vf_fixpoint_laws.proofs.values.Covering.{covers_itself}
use Rattle.vf_fixpoint_laws.proofs.values.Telling.{sorts_tell}
use Rattle.vf_fixpoint_laws.specs.bodies.Bodies.{declared_at}
use Rattle.vf_fixpoint_laws.specs.bodies.Numbers.{TermIsKinded}
use Rattle.vf_fixpoint_laws.specs.bodies.Applied.{IsSettingKinded}
use Rattle.vf_fixpoint_laws.specs.bodies.Expressions.{ValuesFollow}
use Rattle.vf_fixpoint_laws.specs.descending.Example.{cons_case, cons_text, datatype, here, length, length_text, list_paths, named, nil_case, nil_text, one_file, parameter, tail_length}
use Rattle.vf_fixpoint_laws.specs.accepted.Accepted.{IsAcceptedWith}
use Rattle.vf_fixpoint_laws.specs.accepted.Example.{RestsAreLists, cons_rest, length_definition, length_of_rest, list_setting, list_sort, list_symbol, list_unit, nil_rest, rest, rest_definition, rest_in, rest_of_cons, rest_of_list, rest_of_nil, rest_text, second_part, unit_definitions, unit_interpretation}
use Rattle.vf_fixpoint_laws.proofs.accepted.Accepted.{accepted_follow_in}

-- ---- what is declared
abbrev declared_as : ℕ → Declaration
declared_as n = record { meaning = meanings.Ghost n; files = 0 ∷ [] }

-- a fixpoint over a list
abbrev giving : Sort → Fixpoint
giving t = record { parameters = 0; arguments = list_sort ∷ []; «result» = t }

-- behind the datatype
abbrev with_datatype : Scope
with_datatype = record (empty 0) {
  names = codes "list" ∷ codes "nil" ∷ codes "cons" ∷ [];
  declarations = declared_as 0 ∷ declared_as 1 ∷ declared_as 2 ∷ [];
  ghosts = ghosts.Datatype 0 ∷ ghosts.Constructor (record { datatype = 0; arguments = [] }) ∷ ghosts.Constructor (record { datatype = 0; arguments = int_sort ∷ list_sort ∷ [] }) ∷ [];
  ghost_sides = no_ghost_sides ∷ no_ghost_sides ∷ no_ghost_sides ∷ [];
  datatypes = (record { parameters = 0; constructors = 1 ∷ 2 ∷ [] }) ∷ [];
}

-- where the rest of a list is the last of file level, whatever is declared behind it
abbrev up_to_rest : List GhostDeclaration → List GhostSides → Scope
up_to_rest gs sides = record with_datatype {
  names = codes "list" ∷ codes "nil" ∷ codes "cons" ∷ codes "rest" ∷ [];
  declarations = declared_as 0 ∷ declared_as 1 ∷ declared_as 2 ∷ declared_as 3 ∷ [];
  ghosts = ghosts.Datatype 0 ∷ ghosts.Constructor (record { datatype = 0; arguments = [] }) ∷ ghosts.Constructor (record { datatype = 0; arguments = int_sort ∷ list_sort ∷ [] }) ∷ ghosts.Fixpoint (giving list_sort) ∷ gs;
  ghost_sides = no_ghost_sides ∷ no_ghost_sides ∷ no_ghost_sides ∷ no_ghost_sides ∷ sides;
}

-- behind the length
abbrev whole : Scope
whole = record with_datatype {
  names = codes "list" ∷ codes "nil" ∷ codes "cons" ∷ codes "rest" ∷ codes "length" ∷ [];
  declarations = declared_as 0 ∷ declared_as 1 ∷ declared_as 2 ∷ declared_as 3 ∷ declared_as 4 ∷ [];
  ghosts = ghosts.Datatype 0 ∷ ghosts.Constructor (record { datatype = 0; arguments = [] }) ∷ ghosts.Constructor (record { datatype = 0; arguments = int_sort ∷ list_sort ∷ [] }) ∷ ghosts.Fixpoint (giving list_sort) ∷ ghosts.Fixpoint (giving int_sort) ∷ [];
  ghost_sides = no_ghost_sides ∷ no_ghost_sides ∷ no_ghost_sides ∷ no_ghost_sides ∷ no_ghost_sides ∷ [];
}

abbrev D : Declared
D = declared_at whole list_paths

-- in the body of the first fixpoint
abbrev in_rest : List GhostDeclaration → List GhostSides → Scope
in_rest gs sides = within_fixpoint (up_to_rest gs sides) (parameter ∷ []) (list_sort ∷ [])

-- and in that of the second
abbrev in_length : Scope
in_length = within_fixpoint (up_to (named (codes "length")) whole) (parameter ∷ []) (list_sort ∷ [])

abbrev in_length_cons : Scope
in_length_cons = within_case in_length 0 cons_text.pattern

abbrev stated : Stated
stated = record { names = codes "list" ∷ []; files = (0 ∷ []) ∷ [] }

-- ---- what is made equal
equal_itself : (t : Sort) → unified [] t t ≡ Some [] → Equates [] t t []
equal_itself t made = record { long = refl; alike = λ f. ((λ a. (a, refl)), (λ b. b.0)); kept = λ f a. a; told = λ f a e. a; made = made }

equal_int : Equates [] int_sort int_sort []
unfolding left_to_do
equal_int = equal_itself int_sort refl

equal_list : Equates [] list_sort list_sort []
unfolding left_to_do
equal_list = equal_itself list_sort refl

-- ---- the cases have sorts
-- a number passes for an integer
number_passes : (s : Scope) (c : Context) (n : ℕ) → Passes s c [] int_sort here (tree.number here n integers.Int) []
number_passes s c n = as_wanted refl refl number equal_int

-- what a fixpoint over a list may be applied at
abbrev over_lists : Sort → Scheme
over_lists t = record { parameters = 0; arguments = list_sort ∷ []; result = t }

tail_sorted : HasSort in_length_cons (around_fixpoint 4) [] tail_length int_sort []
tail_sorted = application {g = over_lists int_sort} refl refl ((tt, tt), tt) (one_passed (as_wanted refl refl (name_ {g = at_sort list_sort} refl (tt, tt)) equal_list) none_passed)

cons_passes : Passes in_length_cons (around_fixpoint 4) [] int_sort here cons_text.value []
cons_passes = as_wanted refl refl (chain number (more_links (joined refl refl equal_int (as_wanted refl refl tail_sorted equal_int)) no_links)) equal_int

length_front : Switches in_length (named (codes "xs")) (nil_text ∷ cons_text ∷ []) 0 []
length_front = switches {k = []} {t = list_sort} {d = 0} refl tt refl refl equal_list

length_given : CasesGive (around_fixpoint 4) int_sort 0 in_length [] (nil_text ∷ cons_text ∷ []) in_length []
length_given =
    more_cases {s₁ = in_length} {k₁ = []} (a_case {b = no_names} none_bind (passes tt (number_passes in_length (around_fixpoint 4) 0)))
    (more_cases {s₁ = in_length} {k₁ = []} (a_case {b = case_names in_length 0 cons_text.pattern} (one_binds refl (one_binds refl none_bind)) (passes tt cons_passes)) no_cases)

-- the same of the rest of a list
module _ (gs : List GhostDeclaration) (sides : List GhostSides) where
  nil_passes : Passes (in_rest gs sides) (around_fixpoint 3) [] list_sort here rest_of_nil.value []
  nil_passes = as_wanted refl refl (name_ {g = at_sort list_sort} refl (tt, tt)) equal_list

  rest_passes : Passes (within_case (in_rest gs sides) 0 rest_of_cons.pattern) (around_fixpoint 3) [] list_sort here rest_of_cons.value []
  rest_passes = as_wanted refl refl (name_ {g = at_sort list_sort} refl (tt, tt)) equal_list

  rest_front : Switches (in_rest gs sides) (named (codes "xs")) (rest_of_nil ∷ rest_of_cons ∷ []) 0 []
  rest_front = switches {k = []} {t = list_sort} {d = 0} refl tt refl refl equal_list

  rest_given : CasesGive (around_fixpoint 3) list_sort 0 (in_rest gs sides) [] (rest_of_nil ∷ rest_of_cons ∷ []) (in_rest gs sides) []
  rest_given =
      more_cases {s₁ = in_rest gs sides} {k₁ = []} (a_case {b = no_names} none_bind (passes tt nil_passes))
      (more_cases {s₁ = in_rest gs sides} {k₁ = []} (a_case {b = case_names (in_rest gs sides) 0 rest_of_cons.pattern} (one_binds refl (one_binds refl none_bind)) (passes tt rest_passes)) no_cases)

-- ---- the walk
the_datatype : WalksItem (meanings_of stated) datatype (beginning one_file list_unit) (Ok with_datatype)
the_datatype = record { is = refl }

the_rest : WalksItem (meanings_of stated) rest with_datatype (Ok (up_to_rest [] []))
the_rest = walking.goes {a = in_rest [] []} (record { is = refl }) (fixpoints.cases {p = 0} {s' = in_rest [] []} {k = []} {k' = []} (rest_front [] []) (rest_given [] []))

the_length : WalksItem (meanings_of stated) length (up_to_rest [] []) (Ok whole)
the_length = walking.goes {a = in_length} (record { is = refl }) (fixpoints.cases {p = 0} {s' = in_length} {k = []} {k' = []} length_front length_given)

told : (x : List ℕ) (b : Bool) → at_index ((0 ∷ []) ∷ []) (cond b (Some 0) None) ≡ any_files (if b then 0 ∷ [] else [])
told x true = refl
told x false = refl

come : ItemsCome list_unit (beginning one_file list_unit) (Ok whole)
come = record {
  stated = stated;
  tells = record { beside = refl; files = λ x. told x (bytes_eq x (codes "list")) };
  is = refl;
  walks = walking.goes {a = with_datatype} the_datatype (walking.goes {a = up_to_rest [] []} the_rest (walking.goes {a = whole} the_length (record { is = refl })));
}

-- ---- definitions
-- what stands behind the rest of a list
abbrev length_ghost : List GhostDeclaration
length_ghost = ghosts.Fixpoint (giving int_sort) ∷ []

have : HaveDefinitions (without_locals whole) list_paths list_unit unit_definitions
have =
    more_items {ds = []} {es = unit_definitions} (other_item refl)
    (more_items {ds = rest_definition ∷ []} {es = length_definition ∷ []}
    (fixpoint {w = record { name = named (codes "rest"); parameters = parameter ∷ []; body = rest_text }} {n = 3} {f = giving list_sort} {b = bodies.Switches 0 (nil_rest ∷ cons_rest ∷ [])} refl (record { means = refl; is = refl })
    (defined.cases {m = 0} {s' = in_rest length_ghost (no_ghost_sides ∷ [])} {k = []} {k' = []} (rest_front length_ghost (no_ghost_sides ∷ [])) (rest_given length_ghost (no_ghost_sides ∷ []))))
    (more_items {ds = length_definition ∷ []} {es = []}
    (fixpoint {w = record { name = named (codes "length"); parameters = parameter ∷ []; body = length_text }} {n = 4} {f = giving int_sort} {b = bodies.Switches 0 (nil_case ∷ cons_case ∷ [])} refl (record { means = refl; is = refl })
    (defined.cases {m = 0} {s' = in_length} {k = []} {k' = []} length_front length_given))
    no_items))

accepted : (i : Interpretation) → MeetsDefinitions i unit_definitions → IsAcceptedWith one_file list_paths list_unit whole unit_definitions i
accepted i meets = record { come = come; unmarked = refl; kept = refl; have = have; meets = meets }

-- ---- the values of the bodies
one_value : (vs : Values) → valuations.count vs ≡ 1 → (v : Value) × (vs ≡ more v none)
one_value none e = absurd cc
one_value (more v none) e = (v, refl)
one_value (more v (more w vs)) e = absurd cc

no_value_left : (us : Values) → valuations.count us ≡ 0 → us ≡ none
no_value_left none e = refl
no_value_left (more u us) e = absurd cc

two_values : (us : Values) → valuations.count us ≡ 2 → (v : Value) × (w : Value) × (us ≡ more v (more w none))
two_values none e = absurd cc
two_values (more v none) e = absurd cc
two_values (more v (more w none)) e = (v, w, refl)
two_values (more v (more w (more u us))) e = absurd cc

-- a case that is found is one of the two
case_told : (c : Identity) (a b y : Case) (P : Case → Type 0) → case_for (a ∷ b ∷ []) c ≡ Some y → P a → P b → P y
case_told c a b y P e p q = by (same_identity a.constructor c) (same_identity b.constructor c) e
  where
    by : (m n : Bool) → cond m (Some a) (cond n (Some b) None) ≡ Some y → P y
    by true n e = subst P (let r : a ≡ y = cc in r) p
    by false true e = subst P (let r : b ≡ y = cc in r) q
    by false false e = absurd cc

-- what a fixpoint has of the parts of a list is the value of a case
abbrev IsOfCase : (Values → Value) → Values → Values → Case → Type 0
IsOfCase f vs us y = valuations.count us ≡ y.names → f us ≡ value unit_interpretation (of_arguments (appended vs us)) y.result

abbrev number_of_parts : Values → Value
number_of_parts us = values.Number (pos (length_of_parts us))

nil_rest_is : (v : Value) (us : Values) → IsOfCase second_part (more v none) us nil_rest
nil_rest_is v us e = ap second_part (no_value_left us e)

cons_rest_is : (v : Value) (us : Values) → IsOfCase second_part (more v none) us cons_rest
cons_rest_is v us e =
    let t = two_values us e in
    subst (λ (ws : Values). second_part ws ≡ value unit_interpretation (of_arguments (appended (more v none) ws)) cons_rest.result) (sym t.2) refl

nil_length_is : (v : Value) (us : Values) → IsOfCase number_of_parts (more v none) us nil_case
nil_length_is v us e = ap number_of_parts (no_value_left us e)

cons_length_is : (v : Value) (us : Values) → IsOfCase number_of_parts (more v none) us cons_case
cons_length_is v us e =
    let t = two_values us e in
    let next : suc (length_in t.1) ≡ 1 + length_in t.1 = omega arith in
    subst (λ (ws : Values). number_of_parts ws ≡ value unit_interpretation (of_arguments (appended (more v none) ws)) cons_case.result) (sym t.2) (ap (λ (n : ℕ). values.Number (pos n)) next)

rest_meets : MeetsBody unit_interpretation rest_definition rest_definition.body
rest_meets vs us c y long at there names =
    let one = one_value vs long in
    ap rest_in at
    ∙ subst (λ (ws : Values). second_part us ≡ value unit_interpretation (of_arguments (appended ws us)) y.result) (sym one.1)
    (case_told c nil_rest cons_rest y (λ (z : Case). IsOfCase second_part (more one.0 none) us z) there (nil_rest_is one.0 us) (cons_rest_is one.0 us) names)

length_meets : MeetsBody unit_interpretation length_definition length_definition.body
length_meets vs us c y long at there names =
    let one = one_value vs long in
    ap (λ (v : Value). values.Number (pos (length_in v))) at
    ∙ subst (λ (ws : Values). number_of_parts us ≡ value unit_interpretation (of_arguments (appended ws us)) y.result) (sym one.1)
    (case_told c nil_case cons_case y (λ (z : Case). IsOfCase number_of_parts (more one.0 none) us z) there (nil_length_is one.0 us) (cons_length_is one.0 us) names)

meets : MeetsDefinitions unit_interpretation unit_definitions
meets k (zero, l, is) = subst (λ (d : definitions.Fixpoint). MeetsBody unit_interpretation d d.body) is rest_meets
meets k (suc zero, l, is) = subst (λ (d : definitions.Fixpoint). MeetsBody unit_interpretation d d.body) is length_meets
meets k (suc (suc j), l, is) = absurd (omega (arith, l))

-- ---- expressions over a list
rest_sorted : HasSort (list_setting whole).scope no_words [] rest_of_list list_sort []
rest_sorted = application {g = over_lists list_sort} refl refl ((tt, tt), tt) (one_passed (as_wanted refl refl (name_ {g = at_sort list_sort} refl (tt, tt)) equal_list) none_passed)

length_sorted : HasSort (list_setting whole).scope no_words [] length_of_rest int_sort []
length_sorted = application {g = over_lists int_sort} refl refl ((tt, tt), tt) (one_passed (as_wanted refl refl rest_sorted equal_list) none_passed)

-- a type parameter stands for itself
itself : Instance
itself i = leaf (heads.Parameter i)

kinded : IsSettingKinded unit_definitions (list_setting whole)
kinded = record { locals = local; «result» = (tt, tt); this_value = (tt, tt); thread = (tt, tt) }
  where
    local : (n : ℕ) → TermIsKinded unit_definitions (local_term (slice_get (list_setting whole).locals n))
    local zero = (tt, tt)
    local (suc n) = (tt, tt)

gives : (i : Interpretation) (v : Valuation) (sets : Sets) → HasValue D sets (value i v list_symbol) list_sort → GivesValues D (list_setting whole) i v sets itself
gives i v sets h = record { aligned = refl; locals = local; «result» = λ t e. absurd cc; this_value = λ e. absurd cc; thread = λ e. absurd cc }
  where
    local : (n : ℕ) (l : Local) → slice_get (list_setting whole).scope.locals.meanings n ≡ Some l → HasValue D sets (value i v (local_term (slice_get (list_setting whole).locals n))) (settled_at (list_setting whole) itself (sort_of_local l))
    local zero l e = subst (λ (k : Local). HasValue D sets (value i v list_symbol) (settled_at (list_setting whole) itself (sort_of_local k))) (let q : locals.Ghost (record { is_variable = false; sort = list_sort }) ≡ l = cc in q) h
    local (suc n) l e = absurd cc

nothing_known : AgreesAsTold (settling []) []
nothing_known u t e = absurd cc

module _ (i : Interpretation) (v : Valuation) (sets : Sets) (unit : MeetsDefinitions i unit_definitions) (h : HasValue D sets (value i v list_symbol) list_sort) where
  follow : ValuesFollow D (list_setting whole) i v sets itself
  follow = accepted_follow_in sets one_file list_paths list_unit whole unit_definitions i (accepted i unit) (list_setting whole) v itself (covers_itself D) kinded (gives i v sets h)

  is_list : IsTermOf D 0 (value i v (read (list_setting whole) false 0 rest_of_list).term)
  is_list = (sorts_tell D sets).terms (value i v (read (list_setting whole) false 0 rest_of_list).term) 0 no_sorts (follow.sorted [] [] rest_of_list list_sort rest_sorted nothing_known)

  is_number : (z : ℤ) × (value i v (read (list_setting whole) false 0 length_of_rest).term ≡ values.Number z)
  is_number = (sorts_tell D sets).integers (value i v (read (list_setting whole) false 0 length_of_rest).term) (follow.sorted [] [] length_of_rest int_sort length_sorted nothing_known)

pub rests_are_lists : RestsAreLists
rests_are_lists = record {
  whole = whole;
  accepted = accepted;
  meets = meets;
  rest_sorted = rest_sorted;
  length_sorted = length_sorted;
  is_list = λ i v tests unit h. is_list i v (passing tests) unit h;
  is_number = λ i v tests unit h. is_number i v (passing tests) unit h;
}
