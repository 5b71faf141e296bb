-- Values follow sorting, where an interpretation gives the fixpoints of a unit the values of their bodies.
use Rattle.std.proofs.Common.{ℕ, Bool, false, List, length, sym, subst}
use Rattle.std.specs.Prelude.{slice_get}
use Rattle.vf_model.specs.Values.{Value}
use Rattle.vf_meaning.specs.Valuations.{Valuation}
use Rattle.vf_meaning.specs.GhostValues.{Interpretation}
use Rattle.vf_closure.specs.Terms.{Term}
use Rattle.vf_closure.specs.Values.{value}
use Rattle.vf_sorts.specs.Sorts.{Sort}
use Rattle.vf_syntax.specs.GhostExprTree.{GhostExprTree}
use Rattle.vf_syntax.specs.declared.item.Item.{Item}
use Rattle.vf_declared.specs.declared.declaration.GhostDeclaration.TheVariants as ghosts
use Rattle.vf_declared.specs.declared.scope.Scope.{Scope}
use Rattle.vf_sorting.specs.Kinds.{int_sort, is_pointer, pointer_sort}
use Rattle.vf_sorting.specs.Schemes.{sort_of_local}
use Rattle.vf_terms.specs.Settings.{Setting, settled}
use Rattle.vf_terms.specs.Named.{local_term}
use Rattle.vf_terms.specs.Readings.{read}
use Rattle.vf_definitions.specs.declared.fixpoint.Fixpoint as definitions
use Rattle.vf_fixpoint_laws.specs.values.Instances.{Instance, settled_at}
use Rattle.vf_fixpoint_laws.specs.values.Declares.{Covers, Declared, file_level}
use Rattle.vf_fixpoint_laws.specs.values.Given.{FixpointsKeepSorts, GivesValues}
use Rattle.vf_fixpoint_laws.specs.values.Worth.{HasValue, Sets, passing}
use Rattle.vf_fixpoint_laws.proofs.values.Values.{readings_follow_in_sets, term_keeps}
use Rattle.vf_fixpoint_laws.specs.bodies.Bodies.{declared_at}
use Rattle.vf_fixpoint_laws.specs.bodies.Numbers.{TermIsKinded, with_numbers}
use Rattle.vf_fixpoint_laws.specs.bodies.Applied.{AreOfIntegers, IsSettingKinded}
use Rattle.vf_fixpoint_laws.specs.bodies.Expressions.{DefinesUnit, ValuesFollow, ValuesFollowIn, ValuesFollowSorting}
use Rattle.vf_fixpoint_laws.proofs.bodies.Numbers.{term_same}
use Rattle.vf_fixpoint_laws.proofs.bodies.Applied.{read_kinded}
use Rattle.vf_fixpoint_laws.proofs.bodies.Defined.{defined_keep_in, definitions_are_kinded}

module _ (sets : Sets) (u : Scope) (paths : List (List ℕ)) (items : List Item) (fs : List definitions.Fixpoint) (i : Interpretation) (unit : DefinesUnit u paths items fs i) (s : Setting) (v : Valuation) (g : Instance) (covers : Covers (declared_at u paths) (file_level s))
    (kinded : IsSettingKinded fs s) (gives : GivesValues (declared_at u paths) s i v sets g) where
  abbrev D : Declared
  D = declared_at u paths

  keeps : FixpointsKeepSorts D (with_numbers fs i) sets
  keeps = defined_keep_in sets u paths items fs i unit.ranks unit.have unit.meets unit.well unit.written unit.covered unit.cases unit.down

  integers : AreOfIntegers (file_level s) fs
  integers c e x is = (definitions_are_kinded u paths items fs unit.have unit.well).0 c e x (covers.declares c (ghosts.Fixpoint x) is)

  -- a value of a sort is one with numbers, and the other way round
  to_numbers : (x : Term) (t : Sort) → TermIsKinded fs x → HasValue D sets (value i v x) t → HasValue D sets (value (with_numbers fs i) v x) t
  to_numbers x t k h = subst (λ (w : Value). HasValue D sets w t) (sym (term_same fs i v x k)) h

  from_numbers : (x : Term) (t : Sort) → TermIsKinded fs x → HasValue D sets (value (with_numbers fs i) v x) t → HasValue D sets (value i v x) t
  from_numbers x t k h = subst (λ (w : Value). HasValue D sets w t) (term_same fs i v x k) h

  gives_numbers : GivesValues D s (with_numbers fs i) v sets g
  gives_numbers = record {
    aligned = gives.aligned;
    locals = λ n l e. to_numbers (local_term (slice_get s.locals n)) (settled_at s g (sort_of_local l)) (kinded.locals n) (gives.locals n l e);
    result = λ t e. to_numbers s.result (settled_at s g t) kinded.result (gives.result t e);
    this_value = λ e. to_numbers s.this_value pointer_sort kinded.this_value (gives.this_value e);
    thread = λ e. to_numbers s.thread int_sort kinded.thread (gives.thread e);
  }

  read_is : (w : Bool) (n : ℕ) (e : GhostExprTree) → TermIsKinded fs (read s w n e).term
  read_is w n e = read_kinded fs s integers kinded w n e

  values_follow : ValuesFollow D s i v sets g
  values_follow = record {
    sorted = λ known then_known e t h a.
        from_numbers (read s false (length known) e).term (settled_at s g t) (read_is false (length known) e)
        (((readings_follow_in_sets sets D s (with_numbers fs i) v g covers gives_numbers).sorted known then_known e t h a).has_value (term_keeps D (with_numbers fs i) v sets keeps (read s false (length known) e).term));
    passed = λ known then_known w q e p a.
        from_numbers (read s (is_pointer (settled s w)) (length known) e).term (settled_at s g w) (read_is (is_pointer (settled s w)) (length known) e)
        (((readings_follow_in_sets sets D s (with_numbers fs i) v g covers gives_numbers).passed known then_known w q e p a).has_value (term_keeps D (with_numbers fs i) v sets keeps (read s (is_pointer (settled s w)) (length known) e).term));
  }

pub values_follow_in : (sets : Sets) → ValuesFollowIn sets
values_follow_in sets u paths items fs i unit s v g covers kinded gives = values_follow sets u paths items fs i unit s v g covers kinded gives

pub values_follow_sorting : ValuesFollowSorting
values_follow_sorting tests = values_follow_in (passing tests)
