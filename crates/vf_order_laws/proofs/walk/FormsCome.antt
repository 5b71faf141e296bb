-- Ghost items come to what the functions come to, and to nothing else.
use Rattle.std.proofs.Common.{◌≡◌, ℕ, List}
use Rattle.vf_declared.specs.declared.scope.Scope.{Scope}
use Rattle.vf_syntax.specs.declared.item.FixpointBody.{FixpointBody}
use Rattle.vf_syntax.specs.declared.item.GhostForm.{GhostForm}
use Rattle.vf_syntax.specs.declared.item.GhostForm.TheVariants as forms
use Rattle.vf_syntax.specs.declared.item.GhostParameter.{GhostParameter}
use Rattle.vf_syntax.specs.declared.written.Name.{Name}
use Rattle.vf_syntax.specs.AssertionTree.{part_list}
use Rattle.vf_syntax.specs.SortTree.{SortTree}
use Rattle.vf_datatypes.specs.declared.stated.Stated.{Stated}
use Rattle.vf_walk.specs.Walking.{Walked}
use Rattle.vf_equations.specs.Fixpoints.{EquationsCome, FixpointComes}
use Rattle.vf_annotations.specs.Forms.{FormComes}
use Rattle.vf_order_laws.specs.walk.Equations.{equations_of}
use Rattle.vf_order_laws.specs.walk.Forms.{fixpoint_of, form_of}
use Rattle.vf_order_laws.specs.walk.Agreeing.{AreWalked}
use Rattle.vf_order_laws.proofs.walk.Walking.{only_walked, then_walked}
use Rattle.vf_order_laws.proofs.walk.EquationsCome.{equations_come}
use Rattle.vf_order_laws.proofs.walk.EquationsFound.{equations_found}
use Rattle.vf_order_laws.proofs.walk.LemmasCome.{definition_walked, prototype_walked}
use Rattle.vf_order_laws.proofs.walk.PredicatesCome.{constructor_walked, instance_walked, predicate_body_walked, predicate_walked}

equations_walked : (m n : ℕ) (s : Scope) (b : FixpointBody) → AreWalked (EquationsCome m n s b) (equations_of m n s b)
equations_walked m n s b = record { comes = λ w h. equations_come h; found = equations_found m n s b }

fixpoint_walked : (t : SortTree) (n : Name) (ps : List Name) (gs : List GhostParameter) (b : FixpointBody) (s : Scope) → AreWalked (FixpointComes t n ps gs b s) (fixpoint_of t n ps gs b s)
fixpoint_walked t n ps gs b s = then_walked (only_walked _) (λ u. equations_walked _ _ u b)

pub form_walked : (d : Stated) (x : GhostForm) (s : Scope) → AreWalked (FormComes d x s) (form_of d x s)
form_walked d (forms.Inductive n ns b cs) s = only_walked _
form_walked d (forms.Fixpoint t n ns gs b) s = fixpoint_walked t n ns gs b s
form_walked d (forms.Predicate n gs) s = predicate_walked n gs s
form_walked d (forms.PredicateBody n gs a) s = predicate_body_walked n gs (part_list a) s
form_walked d (forms.Family n i gs) s = only_walked _
form_walked d (forms.Instance f g gs a) s = instance_walked f g gs (part_list a) s
form_walked d (forms.PredicateConstructor n fs gs a) s = constructor_walked n fs gs (part_list a) s
form_walked d (forms.LemmaPrototype n ns gs c) s = prototype_walked n ns gs c s
form_walked d (forms.Lemma n ns gs c b) s = definition_walked n ns gs c b s

-- where a ghost item comes to something the function finds that
pub form_comes : (d : Stated) (x : GhostForm) (s : Scope) {w : Walked} → FormComes d x s w → form_of d x s ≡ w
form_comes d x s {w = w} h = (form_walked d x s).comes w h

-- and a ghost item comes to what the function finds
pub form_found : (d : Stated) (x : GhostForm) (s : Scope) → FormComes d x s (form_of d x s)
form_found d x s = (form_walked d x s).found
