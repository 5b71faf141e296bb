-- The unit of lists and their lengths is accepted.
use Rattle.std.proofs.Common.{◌≡◌, refl, subst, ℕ, zero, suc, Bool, true, false, List, [], ◌∷◌, Option, Some, None, Ok, is_some, cond}
use Rattle.std.specs.Prelude.{codes, if◌then◌else◌, slice_get}
use Rattle.std.specs.Str.{bytes_eq}
use Rattle.vf_base.specs.declared.int_type.IntType.TheVariants as integers
use Rattle.vf_names.specs.Names.{number_of}
use Rattle.vf_sorts.specs.declared.sort.Head.TheVariants as heads
use Rattle.vf_sorts.specs.Sorts.{Sort}
use Rattle.vf_sorts.specs.Pairs.{left_to_do}
use Rattle.vf_sorts.specs.Unifying.{Equates, unified}
use Rattle.vf_sorts.specs.Unknowns.{leaf}
use Rattle.vf_syntax.specs.GhostExprTree.{GhostExprTree}
use Rattle.vf_syntax.specs.GhostExprTree as tree
use Rattle.vf_declared.specs.declared.declaration.Declaration.{Declaration}
use Rattle.vf_declared.specs.declared.declaration.Fixpoint.{Fixpoint}
use Rattle.vf_declared.specs.declared.declaration.GhostDeclaration.TheVariants as ghosts
use Rattle.vf_declared.specs.declared.declaration.Meaning.TheVariants as meanings
use Rattle.vf_declared.specs.declared.scope.Scope.{Scope}
use Rattle.vf_declared.specs.Beginning.{empty}
use Rattle.vf_declared.specs.Scopes.{at_index}
use Rattle.vf_declared.specs.Writing.{no_ghost_sides}
use Rattle.vf_sorting.specs.declared.context.Context.{Context}
use Rattle.vf_sorting.specs.HasSort.{HasSort, number, name_, application, chain, joined, no_links, more_links, Passes, as_wanted, none_passed, one_passed}
use Rattle.vf_sorting.specs.declared.scheme.Scheme.{Scheme}
use Rattle.vf_sorting.specs.Kinds.{int_sort}
use Rattle.vf_sorting.specs.Schemes.{at_sort}
use Rattle.vf_binding.specs.Bound.{no_names}
use Rattle.vf_asserting.specs.Cases.{none_bind, one_binds}
use Rattle.vf_datatypes.specs.declared.stated.Stated.{Stated}
use Rattle.vf_gathering.specs.Standing.{any_files}
use Rattle.vf_walk.specs.Items.{WalksItem}
use Rattle.vf_walk.specs.Walking as walking
use Rattle.vf_annotations.specs.Forms.{meanings as meanings_of}
use Rattle.vf_equations.specs.Fixpoints.{around_fixpoint}
use Rattle.vf_equations.specs.Fixpoints as fixpoints
use Rattle.vf_equations.specs.Switching.{Switches, switches}
use Rattle.vf_equations.specs.Values.{CasesGive, no_cases, more_cases, a_case, passes}
use Rattle.vf_resolve.specs.Beginning.{beginning}
use Rattle.vf_resolve.specs.Units.{ItemsCome}
use Rattle.vf_definitions.specs.declared.fixpoint.Body.TheVariants as bodies
use Rattle.vf_defining.specs.Bodies.{case_names, within_case}
use Rattle.vf_defining.specs.Fixpoints as defined
use Rattle.vf_defining.specs.Symbols.{without_locals}
use Rattle.vf_defining.specs.Units.{HaveDefinitions, no_items, more_items, other_item, fixpoint, within_fixpoint}
use Rattle.vf_defining.specs.UpTo.{up_to}
use Rattle.vf_fixpoint_laws.specs.well_declared.Names.{is_marked}
use Rattle.vf_fixpoint_laws.specs.descending.Example.{ListsAreAccepted, cons_case, cons_text, datatype, here, length, length_text, list_definitions, list_items, list_paths, named, nil_case, nil_text, one_file, parameter, tail_length}
use Rattle.vf_fixpoint_laws.specs.descending.Laws.{IsAccepted}
use Rattle.vf_fixpoint_laws.specs.descending.Ranks.{HavePlainNames}
use Rattle.vf_fixpoint_laws.proofs.descending.Lists.{name_there}
use Rattle.vf_fixpoint_laws.proofs.descending.Units.{accepted_fixpoints_go_down, accepted_fixpoints_have_each_case}

-- ---- what is declared
abbrev declared_as : ℕ → Declaration
declared_as n = record { meaning = meanings.Ghost n; files = 0 ∷ [] }

abbrev list_sort : Sort
list_sort = leaf (heads.Datatype 0)

abbrev length_declared : Fixpoint
length_declared = record { parameters = 0; arguments = list_sort ∷ []; «result» = int_sort }

-- behind the datatype
abbrev with_datatype : Scope
with_datatype = record (empty 0) {
  names = codes "list" ∷ codes "nil" ∷ codes "cons" ∷ [];
  declarations = declared_as 0 ∷ declared_as 1 ∷ declared_as 2 ∷ [];
  ghosts = ghosts.Datatype 0 ∷ ghosts.Constructor (record { datatype = 0; arguments = [] }) ∷ ghosts.Constructor (record { datatype = 0; arguments = int_sort ∷ list_sort ∷ [] }) ∷ [];
  ghost_sides = no_ghost_sides ∷ no_ghost_sides ∷ no_ghost_sides ∷ [];
  datatypes = (record { parameters = 0; constructors = 1 ∷ 2 ∷ [] }) ∷ [];
}

-- behind the fixpoint
abbrev whole : Scope
whole = record with_datatype {
  names = codes "list" ∷ codes "nil" ∷ codes "cons" ∷ codes "length" ∷ [];
  declarations = declared_as 0 ∷ declared_as 1 ∷ declared_as 2 ∷ declared_as 3 ∷ [];
  ghosts = ghosts.Datatype 0 ∷ ghosts.Constructor (record { datatype = 0; arguments = [] }) ∷ ghosts.Constructor (record { datatype = 0; arguments = int_sort ∷ list_sort ∷ [] }) ∷ ghosts.Fixpoint length_declared ∷ [];
  ghost_sides = no_ghost_sides ∷ no_ghost_sides ∷ no_ghost_sides ∷ no_ghost_sides ∷ [];
}

-- in the body of the fixpoint
abbrev inside : Scope
inside = within_fixpoint (up_to (named (codes "length")) whole) (parameter ∷ []) (list_sort ∷ [])

abbrev inside_cons : Scope
inside_cons = within_case inside 0 cons_text.pattern

abbrev stated : Stated
stated = record { names = codes "list" ∷ []; files = (0 ∷ []) ∷ [] }

-- ---- what is made equal
equal_itself : (t : Sort) → unified [] t t ≡ Some [] → Equates [] t t []
equal_itself t made = record { long = refl; alike = λ f. ((λ a. (a, refl)), (λ b. b.0)); kept = λ f a. a; told = λ f a e. a; made = made }

equal_int : Equates [] int_sort int_sort []
unfolding left_to_do
equal_int = equal_itself int_sort refl

equal_list : Equates [] list_sort list_sort []
unfolding left_to_do
equal_list = equal_itself list_sort refl

-- ---- the cases have sorts
abbrev over_lists : Scheme
over_lists = record { parameters = 0; arguments = list_sort ∷ []; result = int_sort }

number_passes : (s : Scope) (c : Context) (n : ℕ) → Passes s c [] int_sort here (tree.number here n integers.Int) []
number_passes s c n = as_wanted refl refl number equal_int

tail_sorted : HasSort inside_cons (around_fixpoint 3) [] tail_length int_sort []
tail_sorted = application {g = over_lists} refl refl ((tt, tt), tt) (one_passed (as_wanted refl refl (name_ {g = at_sort list_sort} refl (tt, tt)) equal_list) none_passed)

cons_passes : Passes inside_cons (around_fixpoint 3) [] int_sort here cons_text.value []
cons_passes = as_wanted refl refl (chain number (more_links (joined refl refl equal_int (as_wanted refl refl tail_sorted equal_int)) no_links)) equal_int

front : Switches inside (named (codes "xs")) (nil_text ∷ cons_text ∷ []) 0 []
front = switches {k = []} {t = list_sort} {d = 0} refl tt refl refl equal_list

given : CasesGive (around_fixpoint 3) int_sort 0 inside [] (nil_text ∷ cons_text ∷ []) inside []
given =
    more_cases {s₁ = inside} {k₁ = []} (a_case {b = no_names} none_bind (passes tt (number_passes inside (around_fixpoint 3) 0)))
    (more_cases {s₁ = inside} {k₁ = []} (a_case {b = case_names inside 0 cons_text.pattern} (one_binds refl (one_binds refl none_bind)) (passes tt cons_passes)) no_cases)

-- ---- the walk
the_datatype : WalksItem (meanings_of stated) datatype (beginning one_file list_items) (Ok with_datatype)
the_datatype = record { is = refl }

the_fixpoint : WalksItem (meanings_of stated) length with_datatype (Ok whole)
the_fixpoint = walking.goes {a = inside} (record { is = refl }) (fixpoints.cases {p = 0} {s' = inside} {k = []} {k' = []} front given)

told : (x : List ℕ) (b : Bool) → at_index ((0 ∷ []) ∷ []) (cond b (Some 0) None) ≡ any_files (if b then 0 ∷ [] else [])
told x true = refl
told x false = refl

come : ItemsCome list_items (beginning one_file list_items) (Ok whole)
come = record {
  stated = stated;
  tells = record { beside = refl; files = λ x. told x (bytes_eq x (codes "list")) };
  is = refl;
  walks = walking.goes {a = with_datatype} the_datatype (walking.goes {a = whole} the_fixpoint (record { is = refl }));
}

-- ---- names
name_plain : (k : ℕ) (x : List ℕ) → slice_get whole.names k ≡ Some x → is_marked x ≡ false
name_plain zero x e = subst (λ (y : List ℕ). is_marked y ≡ false) (let q : codes "list" ≡ x = cc in q) refl
name_plain (suc zero) x e = subst (λ (y : List ℕ). is_marked y ≡ false) (let q : codes "nil" ≡ x = cc in q) refl
name_plain (suc (suc zero)) x e = subst (λ (y : List ℕ). is_marked y ≡ false) (let q : codes "cons" ≡ x = cc in q) refl
name_plain (suc (suc (suc zero))) x e = subst (λ (y : List ℕ). is_marked y ≡ false) (let q : codes "length" ≡ x = cc in q) refl
name_plain (suc (suc (suc (suc k)))) x e = absurd cc

plain : HavePlainNames whole
plain x = by (number_of whole.names x) refl
  where
    by : (o : Option ℕ) → number_of whole.names x ≡ o → is_some o ≡ true → is_marked x ≡ false
    by None e h = absurd cc
    by (Some k) e h = name_plain k x (name_there whole.names x k e)

-- ---- definitions
have : HaveDefinitions (without_locals whole) list_paths list_items list_definitions
have =
    more_items {ds = []} {es = list_definitions} (other_item refl)
    (more_items {ds = list_definitions} {es = []}
    (fixpoint {w = record { name = named (codes "length"); parameters = parameter ∷ []; body = length_text }} {n = 3} {f = length_declared} {b = bodies.Switches 0 (nil_case ∷ cons_case ∷ [])} refl (record { means = refl; is = refl })
    (defined.cases {m = 0} {s' = inside} {k = []} {k' = []} front given))
    no_items)

accepted : IsAccepted one_file list_paths list_items whole list_definitions
accepted = record { come = come; plain = plain; kept = refl; have = have }

pub lists_are_accepted : ListsAreAccepted
lists_are_accepted = record {
  whole = whole;
  accepted = accepted;
  rank = refl;
  down = accepted_fixpoints_go_down one_file list_paths list_items whole list_definitions accepted;
  cases = accepted_fixpoints_have_each_case one_file list_paths list_items whole list_definitions accepted;
}
