-- The unit with a function behind its fixpoint that has a name in the body.
use Rattle.std.proofs.Common.{◌≡◌, ℕ, zero, suc, Bool, true, false, ◌||◌, nat_eq, [], ◌∷◌, codes, None, Ok, Err, refl, sym, subst, ap, ◌∙◌, arith}
use Rattle.std.proofs.lemmas.Bool.{eqb-true}
use Rattle.vf_base.specs.declared.int_type.IntType.TheVariants as integers
use Rattle.vf_base.specs.declared.rule.Rule.TheVariants as rules
use Rattle.vf_declared.specs.declared.ctype.CType.TheVariants as types
use Rattle.vf_closure.specs.Terms.{Term}
use Rattle.vf_declared.specs.declared.declaration.Fixpoint as fixpoint_of
use Rattle.vf_declared.specs.declared.declaration.GhostDeclaration.TheVariants as ghosts
use Rattle.vf_declared.specs.declared.declaration.Meaning.TheVariants as meanings
use Rattle.vf_declared.specs.declared.scope.Scope.{Scope}
use Rattle.vf_declared.specs.Beginning.{no_locals}
use Rattle.vf_declared.specs.Scopes.{sees}
use Rattle.vf_declared.specs.Writing.{with_function, with_ghost, with_name, with_prototype}
use Rattle.vf_syntax.specs.GhostExprTree.{GhostExprTree, no_ghost_expr, more_ghost_expr}
use Rattle.vf_syntax.specs.GhostExprTree as tree
use Rattle.vf_sorting.specs.Kinds.{value_sort}
use Rattle.vf_sorting.specs.Refusals.{refused}
use Rattle.vf_sorting.specs.HasSort as has
use Rattle.vf_sorting.specs.IsRefused as fails
use Rattle.vf_datatypes.specs.declared.stated.Stated.{Stated}
use Rattle.vf_walk.specs.Items.{WalksItem}
use Rattle.vf_walk.specs.Walking as walking
use Rattle.vf_annotations.specs.Forms.{meanings as meanings_of}
use Rattle.vf_equations.specs.Fixpoints as fixpoints
use Rattle.vf_equations.specs.Values as values
use Rattle.vf_resolve.specs.Beginning.{beginning}
use Rattle.vf_resolve.specs.Units.{ItemsCome}
use Rattle.vf_definitions.specs.declared.fixpoint.Body.TheVariants as terms
use Rattle.vf_defining.specs.Fixpoints as defining
use Rattle.vf_defining.specs.Symbols.{value_read, without_locals}
use Rattle.vf_defining.specs.Units as units
use Rattle.vf_defining.specs.UpTo.{up_to}
use Rattle.vf_fixpoint_laws.specs.definable.Example.{LaterNamesDoNotCount, body, definition, fixpoint, function, function_type, line, name_on, one_file, paths, unit}
use Rattle.vf_fixpoint_laws.specs.definable.Files.{SeesThrough}

-- ---- what is declared
abbrev begun : Scope
begun = beginning one_file unit

abbrev with_type : Scope
with_type = record (with_name begun (codes "t") (meanings.FunctionType 0) 0) { function_types = (record { «result» = types.Void; parameters = [] }) ∷ [] }

abbrev with_fixpoint : Scope
with_fixpoint = with_ghost (with_name with_type (codes "tested") (meanings.Ghost 0) 0) (ghosts.Fixpoint (record { parameters = 0; arguments = []; «result» = value_sort }))

abbrev applied : GhostExprTree
applied = tree.application (line 2) (codes "is_t") (more_ghost_expr (tree.number (line 2) 0 integers.Int) no_ghost_expr)

abbrev written : units.Written
written = record { name = name_on 2 (codes "tested"); parameters = []; body = body }

abbrev stated : Stated
stated = record { names = []; files = [] }

abbrev whole : Scope
whole = record (with_prototype (with_function with_fixpoint (codes "is_t") 0 (record { «result» = types.Void; parameters = [] })) 0 no_locals) { locals = no_locals }

-- ---- the walk
the_type : WalksItem (meanings_of stated) function_type begun (Ok with_type)
the_type = walking.goes {a = types.Void} (record { is = refl }) (walking.goes {a = with_type} (walking.goes {a = with_type} (record { is = refl }) (record { is = refl })) (record { is = refl }))

value : values.ValuePasses with_fixpoint (fixpoints.around_fixpoint 0) value_sort [] applied []
value = values.passes tt (has.any_wanted refl refl (has.application refl refl ((tt, tt), tt) (has.one_passed (has.null refl) has.none_passed)))

the_fixpoint : WalksItem (meanings_of stated) fixpoint with_type (Ok with_fixpoint)
the_fixpoint = walking.goes {a = with_fixpoint} (record { is = refl }) (fixpoints.value value)

the_function : WalksItem (meanings_of stated) function with_fixpoint (Ok whole)
the_function = walking.goes {a = record { given = types.Void; earlier = None }} (record { is = refl }) (walking.goes {a = with_function with_fixpoint (codes "is_t") 0 (record { «result» = types.Void; parameters = [] })} (walking.goes {a = with_function with_fixpoint (codes "is_t") 0 (record { «result» = types.Void; parameters = [] })} (record { is = refl }) (record { is = refl })) (record { is = refl }))

accepted : ItemsCome unit begun (Ok whole)
accepted = record {
  stated = stated;
  tells = record { beside = refl; files = λ x. refl };
  is = refl;
  walks = walking.goes {a = with_type} the_type (walking.goes {a = with_fixpoint} the_fixpoint (walking.goes {a = whole} the_function (record { is = refl })));
}

-- ---- files
or_none : (b : Bool) → (b || false) ≡ true → b ≡ true
or_none true h = refl
or_none false h = h

not_own : (n : ℕ) → nat_eq (suc n) 0 ≡ false
not_own n = grind arith

see_through : SeesThrough begun
see_through zero through file e f = refl
see_through (suc from) through file e f = subst (λ n. sees begun n file ≡ true) (sym (eqb-true (suc from) through (or_none (nat_eq (suc from) through) (sym (ap (λ b. b || (nat_eq (suc from) through || false)) (not_own from)) ∙ e)))) f

-- ---- the definition
abbrev declared : fixpoint_of.Fixpoint
declared = record { parameters = 0; arguments = []; «result» = value_sort }

-- what is declared where its body is defined
abbrev inside : Scope
inside = units.within_fixpoint (up_to written.name (without_locals whole)) [] []

abbrev given : Term
given = (value_read inside (fixpoints.around_fixpoint 0) [] paths value_sort 0 applied).term

passes : values.ValuePasses inside (fixpoints.around_fixpoint 0) value_sort [] applied []
passes = values.passes tt (has.any_wanted refl refl (has.application refl refl ((tt, tt), tt) (has.one_passed (has.null refl) has.none_passed)))

its_definition : units.ItemDefines (without_locals whole) paths fixpoint (definition given ∷ [])
its_definition = units.fixpoint {w = written} {n = 0} {f = declared} {b = terms.Returns given} refl (record { means = refl; is = refl }) (defining.value passes)

defined : units.HaveDefinitions (without_locals whole) paths unit (definition given ∷ [])
defined = units.more_items {ds = []} (units.other_item refl) (units.more_items {ds = definition given ∷ []} {es = []} its_definition (units.more_items {ds = []} {es = []} (units.other_item refl) units.no_items))

-- ---- the refusal with all names
is_refused : fixpoints.EquationsCome 0 0 (without_locals whole) body (Err (refused rules.Typing (line 2)))
is_refused = fixpoints.value_refused (values.fails tt (fails.no_sort refl (fails.no_function refl refl)))

pub later_names_do_not_count : LaterNamesDoNotCount
later_names_do_not_count = record { whole = whole; accepted = accepted; sees = see_through; value = given; defined = defined; refusal = refused rules.Typing (line 2); refused = is_refused }
