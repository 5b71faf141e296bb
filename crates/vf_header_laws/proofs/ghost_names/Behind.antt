-- What is kept behind an item of annotations.
use Rattle.std.proofs.Common.{◌≡◌, refl, sym, ap, subst, ◌∙◌, ℕ, List, [], ◌∷◌, length, Ok}
use Rattle.vf_declared.specs.declared.declaration.GhostDeclaration.{GhostDeclaration}
use Rattle.vf_declared.specs.declared.scope.Scope.{Scope}
use Rattle.vf_syntax.specs.declared.item.Constructor.{Constructor}
use Rattle.vf_syntax.specs.declared.item.GhostForm.{GhostForm}
use Rattle.vf_syntax.specs.declared.item.GhostForm.TheVariants as forms
use Rattle.vf_syntax.specs.declared.written.Name.{Name}
use Rattle.vf_syntax.specs.AssertionTree.{part_list}
use Rattle.vf_datatypes.specs.declared.own.Own.{Own}
use Rattle.vf_datatypes.specs.declared.stated.Stated.{Stated}
use Rattle.vf_datatypes.specs.Datatypes.{begun, constructor_behind, constructors_behind, own}
use Rattle.vf_annotations.specs.Forms.{FormComes}
use Rattle.vf_header_laws.specs.c_names.Items.{IsBetweenItems}
use Rattle.vf_header_laws.proofs.c_names.Steps.{ok_same}
use Rattle.vf_header_laws.proofs.ghost_names.Cleared.{form_cleared}
use Rattle.vf_header_laws.proofs.ghost_names.Datatypes.{datatype_more, is_datatype, IsDatatype, step}
use Rattle.vf_header_laws.proofs.ghost_names.Declaring.{Adds, again_adds, new_adds, rest_beside}
use Rattle.vf_header_laws.proofs.ghost_names.Growing.{Grows, grows_both, grows_itself, rest_grows}
use Rattle.vf_header_laws.proofs.ghost_names.Heads.{again, constructor_declares, Declares, family_declares, fixpoint_declares, instance_rest, new, predicate_body_declares, predicate_declares}
use Rattle.vf_header_laws.proofs.ghost_names.Lemmas.{definition_declares, prototype_declares}
use Rattle.vf_header_laws.proofs.ghost_names.Rest.{IsRest, KeepsTags, rest_tags, tags_both, tags_itself}
use Rattle.vf_header_laws.proofs.ghost_names.Walks.{through}

-- what is declared keeps its meaning, names stand beside what they mean, and tags stay
pub record IsBehind (s t : Scope) : Type 0 where
  pub grows : Grows s t
  pub beside : length t.names ≡ length t.declarations
  pub kept : KeepsTags s t

behind_both : {s t u : Scope} → IsBehind s t → IsBehind t u → IsBehind s u
behind_both h k = record { grows = grows_both h.grows k.grows; beside = k.beside; kept = tags_both h.kept k.kept }

pub behind_itself : {s : Scope} → length s.names ≡ length s.declarations → IsBehind s s
behind_itself {s} b = record { grows = grows_itself s; beside = b; kept = tags_itself s }

adds_behind : {x : List ℕ} {k file : ℕ} {s t : Scope} → Adds x k file s t → IsBehind s t
adds_behind a = record { grows = a.grows; beside = a.beside; kept = a.kept }

declares_behind : {n : Name} {Q : GhostDeclaration → Type 0} {s t : Scope} → length s.names ≡ length s.declarations → Declares n Q s t → IsBehind s t
declares_behind b (new d q) = adds_behind (new_adds b d)
declares_behind b (again d) = adds_behind (again_adds b d)

rest_behind : {s t : Scope} → length s.names ≡ length s.declarations → IsRest s t → IsBehind s t
rest_behind b h = record { grows = rest_grows h; beside = rest_beside h b; kept = rest_tags h }

constructors_come : {t : Scope} (d : Stated) (q : Own) (cs : List Constructor) (s : Scope) → length s.names ≡ length s.declarations → constructors_behind d q cs s ≡ Ok t → IsBehind s t
constructors_come d q [] s b h = subst (IsBehind s) (ok_same h) (behind_itself b)
constructors_come d q (x ∷ cs) s b h =
    let k = through (constructors_behind d q cs) (constructor_behind d q x s) h in
    let first = adds_behind (new_adds b (step d q x s k.first).declares) in
    behind_both first (constructors_come d q cs k.at first.beside k.next)

datatype_behind : {t : Scope} (d : Stated) (n : Name) (ns : List Name) (cs : List Constructor) (s : Scope) → length s.names ≡ length s.declarations → IsDatatype d n ns cs s t → IsBehind s t
datatype_behind d n ns cs s b i =
    let first = adds_behind (new_adds b i.declares) in
    let second = constructors_come d (own s n i.parameters) cs (begun s n) first.beside i.constructors in
    behind_both first (behind_both second (subst (IsBehind i.at) (sym i.is) (record { grows = datatype_more i.at _; beside = second.beside; kept = record { tags = refl; structures = refl; foreseen = record { unit = record { file = refl; headers = refl }; predicates = refl; predicate_files = refl; predicate_sorts = refl } } })))

pub form_behind : (d : Stated) (x : GhostForm) (s t : Scope) → length s.names ≡ length s.declarations → FormComes d x s (Ok t) → IsBehind s t
form_behind d (forms.Inductive n ns b cs) s t e h = datatype_behind d n ns cs s e (is_datatype d n ns cs s h.is)
form_behind d (forms.Fixpoint r n ns gs b) s t e h = declares_behind e (fixpoint_declares r n ns gs b s h)
form_behind d (forms.Predicate n gs) s t e h = declares_behind e (predicate_declares n gs s h)
form_behind d (forms.PredicateBody n gs a) s t e h = declares_behind e (predicate_body_declares n gs (part_list a) s h)
form_behind d (forms.Family n i gs) s t e h = declares_behind e (family_declares n i gs s h.is)
form_behind d (forms.Instance f g gs a) s t e h = rest_behind e (instance_rest f g gs (part_list a) s h)
form_behind d (forms.PredicateConstructor n fs gs a) s t e h = declares_behind e (constructor_declares n fs gs (part_list a) s h)
form_behind d (forms.LemmaPrototype n ns gs k) s t e h = declares_behind e (prototype_declares n ns gs k s h)
form_behind d (forms.Lemma n ns gs k b) s t e h = declares_behind e (definition_declares n ns gs k b s h)

-- an item of annotations stands between items
pub form_between : (d : Stated) (x : GhostForm) (s t : Scope) → IsBetweenItems s → FormComes d x s (Ok t) → IsBetweenItems t
form_between d x s t b h =
    let u = form_behind d x s t b.names h in
    record {
      names = u.beside;
      tags = ap length u.kept.tags ∙ b.tags ∙ sym (ap length u.kept.structures);
      cleared = form_cleared d x s t b.cleared h;
    }
