-- Where there are no locals in front of an item of annotations there are none behind it.
use Rattle.std.proofs.Common.{◌≡◌, sym, ap, ◌∙◌, List, [], ◌∷◌, length, Ok}
use Rattle.vf_declared.specs.declared.locals.Locals.{Locals}
use Rattle.vf_declared.specs.declared.scope.Scope.{Scope}
use Rattle.vf_declared.specs.Changes.{first_locals}
use Rattle.vf_declared.specs.Writing.{with_ghost_body}
use Rattle.vf_syntax.specs.declared.item.Constructor.{Constructor}
use Rattle.vf_syntax.specs.declared.item.GhostForm.{GhostForm}
use Rattle.vf_syntax.specs.declared.item.GhostForm.TheVariants as forms
use Rattle.vf_syntax.specs.declared.item.GhostParameter.{GhostParameter}
use Rattle.vf_syntax.specs.declared.written.Name.{Name}
use Rattle.vf_syntax.specs.AssertionTree.{part_list, PartTrees}
use Rattle.vf_sorting.specs.Spelling.{written_sort}
use Rattle.vf_asserting.specs.Leaving.{count}
use Rattle.vf_datatypes.specs.declared.own.Own.{Own}
use Rattle.vf_datatypes.specs.declared.stated.Stated.{Stated}
use Rattle.vf_datatypes.specs.Datatypes.{begun, constructor_behind, constructors_behind, own, with_next}
use Rattle.vf_datatypes.specs.NewNames.{name_refusal}
use Rattle.vf_datatypes.specs.Walking.{behind}
use Rattle.vf_heads.specs.Heads.{behind_index, family_behind, indexed, with_family}
use Rattle.vf_heads.specs.Parameters.{named, none_taken, parameters_behind, Taken}
use Rattle.vf_walk.specs.Items.{no_locals}
use Rattle.vf_predicates.specs.Instances.{InstanceComes}
use Rattle.vf_predicates.specs.Instances as instances
use Rattle.vf_predicates.specs.Predicates.{number_at}
use Rattle.vf_annotations.specs.Forms.{FormComes}
use Rattle.vf_header_laws.proofs.c_names.Steps.{ok_same, went}
use Rattle.vf_header_laws.proofs.ghost_names.Bodies.{body_cleared, equations_cleared}
use Rattle.vf_header_laws.proofs.ghost_names.Datatypes.{is_datatype, step}
use Rattle.vf_header_laws.proofs.ghost_names.Walks.{through, unrefused}

constructors_locals : {t : Scope} (d : Stated) (o : Own) (cs : List Constructor) (s : Scope) → constructors_behind d o cs s ≡ Ok t → t.locals ≡ s.locals
constructors_locals d o [] s h = sym (ap (λ (u : Scope). u.locals) (ok_same h))
constructors_locals d o (c ∷ cs) s h =
    let k = through (constructors_behind d o cs) (constructor_behind d o c s) h in
    constructors_locals d o cs k.at k.next ∙ ap (λ (u : Scope). u.locals) (step d o c s k.first).is

family_cleared : {t : Scope} (n : Name) (x : GhostParameter) (gs : List GhostParameter) (s : Scope) → length s.locals.names ≡ 0 → family_behind n x gs s ≡ Ok t → t.locals ≡ no_locals
family_cleared n x gs s z h =
    let i = unrefused (name_refusal s n) (behind (indexed x gs (with_next s n)) (written_sort (with_next s n) [] x.sort)) h in
    let j = through (indexed x gs (with_next s n)) (written_sort (with_next s n) [] x.sort) i.gives in
    let k = through (λ (l : Taken). behind_index (length s.locals.names) j.at gs l.scope) (named x.name (none_taken (with_next s n)) j.at) j.next in
    let m = through (with_family (length s.locals.names) j.at) (parameters_behind [] gs (none_taken k.at.scope)) k.next in
    sym (ap (λ (u : Scope). u.locals) (ok_same m.next)) ∙ ap (first_locals m.at.scope.locals) z

instance_cleared : {t : Scope} (f g : Name) (gs : List GhostParameter) (xs : PartTrees) (s : Scope) → length s.locals.names ≡ 0 → InstanceComes f g gs xs s (Ok t) → t.locals ≡ no_locals
instance_cleared f g gs xs s z (instances.body a w) = let k = went w in body_cleared (length s.locals.names) xs k.at z k.next

pub form_cleared : (d : Stated) (x : GhostForm) (s t : Scope) → s.locals ≡ no_locals → FormComes d x s (Ok t) → t.locals ≡ no_locals
form_cleared d (forms.Inductive n ns b cs) s t e h =
    let i = is_datatype d n ns cs s h.is in
    ap (λ (u : Scope). u.locals) i.is ∙ constructors_locals d (own s n i.parameters) cs (begun s n) i.constructors ∙ e
form_cleared d (forms.Fixpoint r n ns gs b) s t e h = let k = went h in equations_cleared (count s) (length s.ghosts) k.at b (ap (λ (l : Locals). length l.names) e) k.next
form_cleared d (forms.Predicate n gs) s t e h = let k = went h in sym (ap (λ (u : Scope). u.locals) (ok_same k.next.is)) ∙ ap (λ (l : Locals). first_locals k.at.locals (length l.names)) e
form_cleared d (forms.PredicateBody n gs a) s t e h = let k = went h in body_cleared (length s.locals.names) (part_list a) (with_ghost_body k.at (number_at s n)) (ap (λ (l : Locals). length l.names) e) k.next
form_cleared d (forms.Family n i gs) s t e h = family_cleared n i gs s (ap (λ (l : Locals). length l.names) e) h.is
form_cleared d (forms.Instance f g gs a) s t e h = instance_cleared f g gs (part_list a) s (ap (λ (l : Locals). length l.names) e) h
form_cleared d (forms.PredicateConstructor n fs gs a) s t e h = let k = went h in body_cleared (length s.locals.names) (part_list a) k.at (ap (λ (l : Locals). length l.names) e) k.next
form_cleared d (forms.LemmaPrototype n ns gs c) s t e h =
    let k = went h in
    let j = went k.next in
    sym (ap (λ (u : Scope). u.locals) (ok_same j.next.is)) ∙ ap (λ (l : Locals). first_locals j.at.locals (length l.names)) e
form_cleared d (forms.Lemma n ns gs c b) s t e h =
    let k = went h in
    let j = went k.next in
    sym (ap (λ (u : Scope). u.locals) (ok_same j.next.is)) ∙ ap (λ (l : Locals). first_locals j.at.locals (length l.names)) e
