-- The unit in which two fixpoints have one identity.
use Rattle.std.proofs.Common.{refl, ⊎_elim, ℕ, [], ◌∷◌, Ok, arith}
use Rattle.std.specs.Prelude.{codes}
use Rattle.vf_closure.specs.Terms.{Integer, term, no_terms}
use Rattle.vf_closure.specs.Terms as head
use Rattle.vf_sorts.specs.Pairs.{left_to_do}
use Rattle.vf_sorts.specs.Unifying.{Equates}
use Rattle.vf_declared.specs.declared.declaration.Declaration.{Declaration}
use Rattle.vf_declared.specs.declared.declaration.Fixpoint.{Fixpoint}
use Rattle.vf_declared.specs.declared.declaration.GhostDeclaration.TheVariants as ghosts
use Rattle.vf_declared.specs.declared.declaration.Meaning.TheVariants as meanings
use Rattle.vf_declared.specs.declared.scope.Scope.{Scope}
use Rattle.vf_declared.specs.Beginning.{empty}
use Rattle.vf_declared.specs.Writing.{no_ghost_sides}
use Rattle.vf_syntax.specs.GhostExprTree.{GhostExprTree}
use Rattle.vf_syntax.specs.declared.item.FixpointBody.TheVariants as texts
use Rattle.vf_syntax.specs.declared.written.Name.{Name}
use Rattle.vf_sorting.specs.HasSort.{number, application, as_wanted, none_passed}
use Rattle.vf_sorting.specs.declared.scheme.Scheme.{Scheme}
use Rattle.vf_sorting.specs.Kinds.{int_sort}
use Rattle.vf_datatypes.specs.declared.stated.Stated.{Stated}
use Rattle.vf_walk.specs.Items.{WalksItem}
use Rattle.vf_walk.specs.Walking as walking
use Rattle.vf_annotations.specs.Forms.{meanings as meanings_of}
use Rattle.vf_equations.specs.Fixpoints.{around_fixpoint}
use Rattle.vf_equations.specs.Fixpoints as fixpoints
use Rattle.vf_equations.specs.Values.{ValuePasses, passes}
use Rattle.vf_resolve.specs.Beginning.{beginning}
use Rattle.vf_resolve.specs.Units.{ItemsCome}
use Rattle.vf_definitions.specs.declared.fixpoint.Fixpoint as definitions
use Rattle.vf_defining.specs.Fixpoints as defined
use Rattle.vf_defining.specs.Symbols.{without_locals}
use Rattle.vf_defining.specs.Units.{HaveDefinitions, no_items, more_items, fixpoint, Written, within_fixpoint}
use Rattle.vf_defining.specs.UpTo.{up_to}
use Rattle.vf_fixpoint_laws.specs.bodies.Recursion.{Ranks}
use Rattle.vf_fixpoint_laws.specs.bodies.Units.{GoDown}
use Rattle.vf_fixpoint_laws.specs.descending.Marked.{MarkedNamesNeverGoDown, call_text, constant, giving, marked_definitions, marked_items, marked_name, marked_paths, plain_name, shared, two_files, zero_text}

-- ---- what is declared
abbrev constant_declared : Fixpoint
constant_declared = record { parameters = 0; arguments = []; «result» = int_sort }

abbrev declared_in : ℕ → ℕ → Declaration
declared_in n file = record { meaning = meanings.Ghost n; files = file ∷ [] }

abbrev with_plain : Scope
with_plain = record (empty 0) { names = codes "c" ∷ []; declarations = declared_in 0 1 ∷ []; ghosts = ghosts.Fixpoint constant_declared ∷ []; ghost_sides = no_ghost_sides ∷ [] }

abbrev whole : Scope
whole = record (empty 0) { names = codes "c" ∷ codes "b#c" ∷ []; declarations = declared_in 0 1 ∷ declared_in 1 0 ∷ []; ghosts = ghosts.Fixpoint constant_declared ∷ ghosts.Fixpoint constant_declared ∷ []; ghost_sides = no_ghost_sides ∷ no_ghost_sides ∷ [] }

-- ---- the bodies have sorts
equal_int : Equates [] int_sort int_sort []
unfolding left_to_do
equal_int = record { long = refl; alike = λ f. ((λ a. (a, refl)), (λ b. b.0)); kept = λ f a. a; told = λ f a e. a; made = refl }

abbrev over_nothing : Scheme
over_nothing = record { parameters = 0; arguments = []; result = int_sort }

zero_passes : (s : Scope) → ValuePasses s (around_fixpoint 0) int_sort [] zero_text []
zero_passes s = passes tt (as_wanted refl refl number equal_int)

call_passes : ValuePasses whole (around_fixpoint 1) int_sort [] call_text []
call_passes = passes tt (as_wanted refl refl (application {g = over_nothing} refl refl (tt, tt) none_passed) equal_int)

-- ---- the walk
abbrev stated : Stated
stated = record { names = []; files = [] }

the_first : WalksItem (meanings_of stated) (constant 1 plain_name zero_text) (beginning two_files marked_items) (Ok with_plain)
the_first = walking.goes {a = with_plain} (record { is = refl }) (fixpoints.value (zero_passes with_plain))

the_second : WalksItem (meanings_of stated) (constant 0 marked_name call_text) with_plain (Ok whole)
the_second = walking.goes {a = whole} (record { is = refl }) (fixpoints.value call_passes)

come : ItemsCome marked_items (beginning two_files marked_items) (Ok whole)
come = record { stated = stated; tells = record { beside = refl; files = λ x. refl }; is = refl; walks = walking.goes {a = with_plain} the_first (walking.goes {a = whole} the_second (record { is = refl })) }

-- ---- definitions
abbrev inside_plain : Scope
inside_plain = within_fixpoint (up_to plain_name whole) [] []

abbrev as_written : Name → GhostExprTree → Written
as_written n e = record { name = n; parameters = []; body = texts.Value e }

have : HaveDefinitions (without_locals whole) marked_paths marked_items marked_definitions
have =
    more_items (fixpoint {w = as_written plain_name zero_text} {n = 0} {f = constant_declared} refl (record { means = refl; is = refl }) (defined.value {k = []} (zero_passes inside_plain)))
    (more_items (fixpoint {w = as_written marked_name call_text} {n = 1} {f = constant_declared} refl (record { means = refl; is = refl }) (defined.value {k = []} call_passes)) no_items)

abbrev second : definitions.Fixpoint
second = giving (term (head.Fixpoint Integer shared) no_terms)

-- the second applies what has its own identity, and goes by no parameter
never : (r : Ranks) → GoDown r marked_definitions → ⊥
never r down = ⊎_elim (λ l. absurd (omega (arith, l))) (λ p. p.1) (down second (1, omega arith, refl)).0

pub marked_names_never_go_down : MarkedNamesNeverGoDown
marked_names_never_go_down = record { whole = whole; come = come; kept = refl; have = have; never = never }
