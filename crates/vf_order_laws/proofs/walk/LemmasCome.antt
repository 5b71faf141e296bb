-- Lemmas come to what the functions come to, and to nothing else.
use Rattle.std.proofs.Common.{◌≡◌, refl, ℕ, Bool, true, false, List, Option, Some, None, Ok, Err}
use Rattle.vf_base.specs.declared.rule.Rule.TheVariants as rules
use Rattle.vf_declared.specs.declared.scope.Scope.{Scope}
use Rattle.vf_syntax.specs.declared.contract.Contract.{Contract}
use Rattle.vf_syntax.specs.declared.item.GhostBody.{GhostBody}
use Rattle.vf_syntax.specs.declared.item.GhostParameter.{GhostParameter}
use Rattle.vf_syntax.specs.declared.written.Name.{Name}
use Rattle.vf_syntax.specs.GhostCommandTree.{ghost_command_list}
use Rattle.vf_sorting.specs.declared.context.Context.{Context}
use Rattle.vf_sorting.specs.Refusals.{refused}
use Rattle.vf_heads.specs.Parameters.{Taken}
use Rattle.vf_walk.specs.Walking.{Walked}
use Rattle.vf_contracts.specs.Comes.{ContractComes}
use Rattle.vf_commands.specs.declared.around.Around.{Around}
use Rattle.vf_predicates.specs.Earlier.{AreSame, seen_too}
use Rattle.vf_lemma_items.specs.declared.earlier.Head.{Head}
use Rattle.vf_lemma_items.specs.Earlier.{sorts_of}
use Rattle.vf_lemma_items.specs.Lemmas.{BodyIf, DefinitionComes, IsLemma, OwnContract, PrototypeComes, SignatureComes}
use Rattle.vf_lemma_items.specs.Lemmas as lemmas
use Rattle.vf_order_laws.specs.walk.Contracting.{contract_of}
use Rattle.vf_order_laws.specs.walk.Lemmas.{body_if, contract_or_kept, definition_of, lemma_of, prototype_of, signature_of}
use Rattle.vf_order_laws.specs.walk.Agreeing.{AreWalked}
use Rattle.vf_order_laws.proofs.walk.Walking.{decided_walked, only_walked, then_walked}
use Rattle.vf_order_laws.proofs.walk.AlikeTold.{same_told}
use Rattle.vf_order_laws.proofs.walk.ContractsCome.{commands_alone_found, commands_come, contract_comes, contract_found}

pub contract_walked : (c d : Context) (x : Contract) (s : Scope) → AreWalked (ContractComes c d x s) (contract_of c d x s)
contract_walked c d x s = record { comes = λ w h. contract_comes h; found = contract_found c d x s }

is_new : (n : Name) (ps : List (List ℕ)) (t : Taken) (w : Walked) → IsLemma n ps None t w → lemma_of n ps None t ≡ w
is_new n ps t w lemmas.new = refl

agrees : (n : Name) (ps : List (List ℕ)) (k : ℕ) (t : Taken) → AreSame t.sorts (sorts_of t.scope k) → (w : Walked) → IsLemma n ps (Some k) t w → ◌≡◌ {A = Walked} (Ok (seen_too t.scope n)) w
agrees n ps k t e w (lemmas.agreed a) = refl
agrees n ps k t e w (lemmas.differs a) = absurd (a e)

differs : (n : Name) (ps : List (List ℕ)) (k : ℕ) (t : Taken) → (AreSame t.sorts (sorts_of t.scope k) → ⊥) → (w : Walked) → IsLemma n ps (Some k) t w → ◌≡◌ {A = Walked} (Err (refused rules.Name n.place)) w
differs n ps k t e w (lemmas.agreed a) = absurd (e a)
differs n ps k t e w (lemmas.differs a) = refl

lemma_walked : (n : Name) (ps : List (List ℕ)) (o : Option ℕ) (t : Taken) → AreWalked (IsLemma n ps o t) (lemma_of n ps o t)
lemma_walked n ps None t = record { comes = is_new n ps t; found = lemmas.new }
lemma_walked n ps (Some k) t = decided_walked _ (same_told t.sorts (sorts_of t.scope k))
    (λ e. record { comes = agrees n ps k t e; found = lemmas.agreed e })
    (λ e. record { comes = differs n ps k t e; found = lemmas.differs e })

signature_walked : (n : Name) (gs : List GhostParameter) (h : Head) (s : Scope) → AreWalked (SignatureComes n gs h s) (signature_of n gs h s)
signature_walked n gs h s = then_walked (only_walked _) (λ t. lemma_walked n h.parameters h.earlier t)

pub prototype_walked : (n : Name) (ns : List Name) (gs : List GhostParameter) (c : Contract) (s : Scope) → AreWalked (PrototypeComes n ns gs c s) (prototype_of n ns gs c s)
prototype_walked n ns gs c s = then_walked (only_walked _) (λ h. then_walked (then_walked (signature_walked n gs h s) (λ t. contract_walked _ _ c t)) (λ t. only_walked _))

own_walked : (gs : List GhostParameter) (k : ℕ) (c : Option Contract) (s : Scope) → AreWalked (OwnContract gs k c s) (contract_or_kept gs k c s)
own_walked gs k None s = only_walked _
own_walked gs k (Some c) s = contract_walked _ _ c s

body_walked : (may : Bool) (w : Around) (b : GhostBody) (s : Scope) → AreWalked (BodyIf may w b s) (body_if may w b s)
body_walked true w b s = record { comes = λ v h. commands_come w (ghost_command_list b.commands) s h; found = commands_alone_found w (ghost_command_list b.commands) s }
body_walked false w b s = only_walked _

pub definition_walked : (n : Name) (ns : List Name) (gs : List GhostParameter) (c : Option Contract) (b : GhostBody) (s : Scope) → AreWalked (DefinitionComes n ns gs c b s) (definition_of n ns gs c b s)
definition_walked n ns gs c b s = then_walked (only_walked _) (λ h. then_walked (then_walked (then_walked (signature_walked n gs h s) (λ t. own_walked gs _ c _)) (λ t. body_walked _ _ b t)) (λ t. only_walked _))
