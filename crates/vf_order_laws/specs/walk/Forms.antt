-- What ghost items come to, as functions: what is declared behind them, or the first refusal.
use Rattle.std.specs.Prelude.{List, length}
use Rattle.vf_declared.specs.declared.scope.Scope.{Scope}
use Rattle.vf_syntax.specs.declared.item.FixpointBody.{FixpointBody}
use Rattle.vf_syntax.specs.declared.item.GhostForm.{GhostForm}
use Rattle.vf_syntax.specs.declared.item.GhostForm.TheVariants as forms
use Rattle.vf_syntax.specs.declared.item.GhostParameter.{GhostParameter}
use Rattle.vf_syntax.specs.declared.written.Name.{Name}
use Rattle.vf_syntax.specs.AssertionTree.{part_list}
use Rattle.vf_syntax.specs.SortTree.{SortTree}
use Rattle.vf_asserting.specs.Leaving.{count}
use Rattle.vf_datatypes.specs.declared.stated.Stated.{Stated}
use Rattle.vf_datatypes.specs.Datatypes.{datatype_behind}
use Rattle.vf_heads.specs.Heads.{family_behind, fixpoint_behind}
use Rattle.vf_walk.specs.Walking.{Walked}
use Rattle.vf_order_laws.specs.walk.Equations.{equations_of}
use Rattle.vf_order_laws.specs.walk.Following.{after}
use Rattle.vf_order_laws.specs.walk.Lemmas.{definition_of, prototype_of}
use Rattle.vf_order_laws.specs.walk.Predicates.{constructor_of, instance_of, predicate_body_of, predicate_of}

-- a fixpoint with its body, which may speak of the fixpoint itself
abbrev pub fixpoint_of : SortTree → Name → List Name → List GhostParameter → FixpointBody → Scope → Walked
fixpoint_of t n ps gs b s = after (λ u. equations_of (count s) (length s.ghosts) u b) (fixpoint_behind t n ps gs s)

-- a ghost item, where these datatypes stand in the unit
abbrev pub form_of : Stated → GhostForm → Scope → Walked
form_of d (forms.Inductive n ns b cs) s = datatype_behind d n ns cs s
form_of d (forms.Fixpoint t n ns gs b) s = fixpoint_of t n ns gs b s
form_of d (forms.Predicate n gs) s = predicate_of n gs s
form_of d (forms.PredicateBody n gs a) s = predicate_body_of n gs (part_list a) s
form_of d (forms.Family n i gs) s = family_behind n i gs s
form_of d (forms.Instance f g gs a) s = instance_of f g gs (part_list a) s
form_of d (forms.PredicateConstructor n fs gs a) s = constructor_of n fs gs (part_list a) s
form_of d (forms.LemmaPrototype n ns gs c) s = prototype_of n ns gs c s
form_of d (forms.Lemma n ns gs c b) s = definition_of n ns gs c b s
