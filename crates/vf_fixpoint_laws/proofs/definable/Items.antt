-- Items add to what is declared, and leave no locals.
use Rattle.std.proofs.Common.{◌≡◌, ◌∙◌, true, length, Ok}
use Rattle.vf_declared.specs.declared.scope.Scope.{Scope}
use Rattle.vf_declared.specs.Beginning.{no_locals}
use Rattle.vf_syntax.specs.declared.contract.Contract.{Contract}
use Rattle.vf_syntax.specs.declared.contract.Invariant.{Invariant}
use Rattle.vf_syntax.specs.declared.item.GhostForm.{GhostForm}
use Rattle.vf_syntax.specs.declared.item.GhostForm.TheVariants as forms
use Rattle.vf_syntax.specs.declared.item.Item.{Item}
use Rattle.vf_syntax.specs.declared.item.Item.TheVariants as items
use Rattle.vf_syntax.specs.AssertionTree.{part_list}
use Rattle.vf_syntax.specs.GhostCommandTree.{GhostCommandTree}
use Rattle.vf_sorting.specs.declared.context.Context.{Context}
use Rattle.vf_datatypes.specs.declared.stated.Stated.{Stated}
use Rattle.vf_datatypes.specs.Datatypes.{datatype_behind}
use Rattle.vf_heads.specs.Heads.{family_behind}
use Rattle.vf_walk.specs.Items.{WalksItem, struct_, struct_walked}
use Rattle.vf_contracts.specs.Comes as contracts
use Rattle.vf_commands.specs.declared.around.Around.{Around}
use Rattle.vf_commands.specs.Comes as commands
use Rattle.vf_annotations.specs.Forms.{FormComes, meanings}
use Rattle.vf_erasure_laws.proofs.hidden.Coming.{Leads, only_leads}
use Rattle.vf_erasure_laws.proofs.hidden.Giving.{command, contract, parts}
use Rattle.vf_fixpoint_laws.specs.definable.Files.{SeesThrough}
use Rattle.vf_fixpoint_laws.proofs.definable.Extending.{Keeps, grows_kept}
use Rattle.vf_fixpoint_laws.proofs.definable.Functions.{IsBeside, definition_ends, fields_beside, function_type_ends, prototype_ends, struct_beside}
use Rattle.vf_fixpoint_laws.proofs.definable.Ghosts.{constructor_item_ends, datatype_ends, family_ends, fixpoint_ends, instance_ends, predicate_body_ends, predicate_ends}
use Rattle.vf_fixpoint_laws.proofs.definable.Lemmas as lemmas
use Rattle.vf_fixpoint_laws.proofs.definable.Parts.{Ends, keeps_kept}
use Rattle.vf_fixpoint_laws.proofs.definable.Statements.{AreOrderly}

-- what an item leaves: more at file level, where each new datatype is complete, and no locals
abbrev pub Leaves : Scope → Scope → Type 0
Leaves s t = Ends (length t.datatypes) s t

form_leaves : (d : Stated) (x : GhostForm) (s : Scope) → SeesThrough s → s.locals ≡ no_locals → Leads (Leaves s) (FormComes d x s)
form_leaves d (forms.Inductive n ns b cs) s v a = only_leads (Leaves s) (datatype_behind d n ns cs s) (datatype_ends d n ns cs s a)
form_leaves d (forms.Fixpoint y n ns gs b) s v a = λ t w. fixpoint_ends (length t.datatypes) y n ns gs b s a t w
form_leaves d (forms.Predicate n gs) s v a = λ t w. predicate_ends (length t.datatypes) n gs s v a t w
form_leaves d (forms.PredicateBody n gs x) s v a = λ t w. predicate_body_ends (length t.datatypes) n gs (part_list x) s v a t w
form_leaves d (forms.Family n i gs) s v a = λ u w. only_leads (Ends (length u.datatypes) s) (family_behind n i gs s) (family_ends (length u.datatypes) n i gs s a) u w
form_leaves d (forms.Instance f g gs x) s v a = λ t w. instance_ends (length t.datatypes) f g gs (part_list x) s a t w
form_leaves d (forms.PredicateConstructor n fs gs x) s v a = λ t w. constructor_item_ends (length t.datatypes) n fs gs (part_list x) s a t w
form_leaves d (forms.LemmaPrototype n ns gs c) s v a = λ t w. lemmas.prototype_ends (length t.datatypes) n ns gs c s v a t w
form_leaves d (forms.Lemma n ns gs c b) s v a = λ t w. lemmas.definition_ends (length t.datatypes) n ns gs c b s v a t w

meanings_orderly : (d : Stated) → AreOrderly (meanings d)
meanings_orderly d = record { contract = λ o c s t h. of_contract h; invariant = λ file i s t h. of_invariant h; command = λ c s t h. of_command h }
  where
    of_contract : {c k : Context} {x : Contract} {s t : Scope} → contracts.ContractComes c k x s (Ok t) → Keeps s t
    of_contract (contracts.given g) = contract keeps_kept g

    of_invariant : {x : Invariant} {s t : Scope} → contracts.InvariantComes x s (Ok t) → Keeps s t
    of_invariant (contracts.given g) = parts keeps_kept g

    of_command : {w : Around} {x : GhostCommandTree} {s t : Scope} → commands.CommandComes w x s (Ok t) → Keeps s t
    of_command (commands.given g) = command keeps_kept g

beside_leaves : {s : Scope} → s.locals ≡ no_locals → (t : Scope) → IsBeside s t → Leaves s t
beside_leaves a t h = record { grows = grows_kept (length t.datatypes) h.keeps; locals = h.locals ∙ a }

pub item_leaves : (d : Stated) (x : Item) (s : Scope) → SeesThrough s → s.locals ≡ no_locals → Leads (Leaves s) (WalksItem (meanings d) x s)
item_leaves d (items.Opaque p n) s v a = only_leads (Leaves s) (struct_ n true s) (λ t e. beside_leaves a t (struct_beside n true s t e))
item_leaves d (items.Struct p n xs) s v a = only_leads (Leaves s) (struct_walked n xs s) (λ t e. beside_leaves a t (fields_beside n xs s t e))
item_leaves d (items.FunctionType p g c) s v a = λ t w. function_type_ends (meanings d) (meanings_orderly d) (length t.datatypes) g c s t w
item_leaves d (items.Prototype g k c) s v a = λ t w. prototype_ends (meanings d) (meanings_orderly d) (length t.datatypes) g c s v t w
item_leaves d (items.Function g k c b) s v a = λ t w. definition_ends (meanings d) (meanings_orderly d) (length t.datatypes) g c b s v t w
item_leaves d (items.Ghost g) s v a = form_leaves d g.form s v a
