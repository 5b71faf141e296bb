-- What lemmas declare is not seen by C text.
use Rattle.std.proofs.Common.{◌≡◌, refl, ℕ, Bool, true, false, if◌then◌else◌, nat_eq, List, [], length, drop, Option, Some, None, Result, Ok, Err}
use Rattle.vf_base.specs.declared.place.Place.{Place}
use Rattle.vf_base.specs.declared.refusal.Refusal.{Refusal}
use Rattle.vf_declared.specs.declared.declaration.Meaning.{Meaning}
use Rattle.vf_declared.specs.declared.declaration.Meaning.TheVariants as meanings
use Rattle.vf_declared.specs.declared.locals.Locals.{Locals}
use Rattle.vf_declared.specs.declared.scope.Scope.{Scope}
use Rattle.vf_declared.specs.Scopes.{at_name, declaration_of, sides_of_ghost}
use Rattle.vf_declared.specs.Writing.{with_ghost_body}
use Rattle.vf_syntax.specs.declared.contract.Contract.{Contract}
use Rattle.vf_syntax.specs.declared.item.GhostBody.{GhostBody}
use Rattle.vf_syntax.specs.declared.item.GhostParameter.{GhostParameter}
use Rattle.vf_syntax.specs.declared.written.Name.{Name}
use Rattle.vf_syntax.specs.GhostCommandTree.{GhostCommandTree, GhostCommandTrees, ghost_command_list, more_ghost_command, no_ghost_command}
use Rattle.vf_sorting.specs.declared.context.Context.{Context}
use Rattle.vf_asserting.specs.Cases.{ghost_number}
use Rattle.vf_asserting.specs.Leaving.{count, left}
use Rattle.vf_datatypes.specs.NewNames.{parameters_behind as type_parameters_behind}
use Rattle.vf_datatypes.specs.Walking.{behind}
use Rattle.vf_heads.specs.Parameters.{Taken, none_taken, parameters_behind}
use Rattle.vf_walk.specs.Walking.{Only, Then}
use Rattle.vf_contracts.specs.Comes.{ContractComes}
use Rattle.vf_contracts.specs.Comes as contracts
use Rattle.vf_commands.specs.declared.around.Around.{Around}
use Rattle.vf_commands.specs.Comes.{BodyComes, CommandComes}
use Rattle.vf_commands.specs.Comes as commands
use Rattle.vf_predicates.specs.Earlier.{is_of_prelude}
use Rattle.vf_lemma_items.specs.declared.earlier.Head.{Head}
use Rattle.vf_lemma_items.specs.Earlier.{counted, earlier, extends, has_as_many, head, lemma_at, meant, name_refusal}
use Rattle.vf_lemma_items.specs.Kept.{first_renamed, kept, kept_in, taken_from, taken_unless}
use Rattle.vf_lemma_items.specs.Lemmas.{BodyIf, DefinitionComes, DefinitionOf, IsLemma, OwnContract, PrototypeComes, PrototypeOf, SignatureComes, begun, number}
use Rattle.vf_lemma_items.specs.Lemmas as lemmas
use Rattle.vf_erasure_laws.specs.seen.Seen.{IsOrderly}
use Rattle.vf_erasure_laws.specs.seen.Unseen.{IsUnseen}
use Rattle.vf_erasure_laws.proofs.hidden.Behind.{IsBehind, behind_itself, behind_more, behind_too, stays_kept, unseen_left}
use Rattle.vf_erasure_laws.proofs.hidden.Coming.{Comes, Leads, apart, behind_comes, none_some, ok_comes, only_leads, then_leads, unless_comes}
use Rattle.vf_erasure_laws.proofs.hidden.Giving.{command, contract}
use Rattle.vf_erasure_laws.proofs.hidden.Heads.{TakenBehind, TakesTo, behind_ghost, behind_next, parameters_come, taken_behind}
use Rattle.vf_erasure_laws.proofs.hidden.Items.{IsGhostName, ghost_name, seen_behind}

-- ---- the name of a lemma
-- where a number stands for a lemma that is declared already, a fact holds
abbrev IfEarlier : Type 0 → Option ℕ → Type 0
IfEarlier Q o = (k : ℕ) → o ≡ Some k → Q

refused_either_way : (b : Bool) (n : Name) (o : Option ℕ) → extends n (if b then None else None) ≡ Ok o → ⊥
refused_either_way true n o e = apart e
refused_either_way false n o e = apart e

meant_comes : (Q : Type 0) (s : Scope) (b : Bool) (n : Name) (m : Option Meaning) → ((j : ℕ) → ghost_number m ≡ Some j → Q) → Comes (IfEarlier Q) (meant s b n m)
meant_comes Q s b n None q = ok_comes (IfEarlier Q) (λ k e. absurd (none_some e))
meant_comes Q s b n (Some (meanings.Ghost j)) q = λ o e k f. q j refl
meant_comes Q s b n (Some (meanings.Function j)) q = λ o e. absurd (refused_either_way (is_of_prelude s (at_name s.names s.declarations n.text)) n o e)
meant_comes Q s b n (Some (meanings.FunctionType j)) q = λ o e. absurd (refused_either_way (is_of_prelude s (at_name s.names s.declarations n.text)) n o e)

earlier_comes : (s : Scope) (b : Bool) (n : Name) → Comes (IfEarlier (IsGhostName s n)) (earlier s b n)
earlier_comes s b n =
    let m = declaration_of s n.text n.place.file in
    unless_comes (IfEarlier (IsGhostName s n)) (name_refusal s n) (meant s b n m) (meant_comes (IsGhostName s n) s b n m (λ j e. ghost_name s n j e))

-- the name in a head is none of C
abbrev GhostHead : Scope → Name → Head → Type 0
GhostHead s n h = IfEarlier (IsGhostName s n) h.earlier

counted_if : (P : Head → Type 0) (b : Bool) (h : Head) (r : Refusal) → P h → Comes P (if b then Ok h else Err r)
counted_if P true h r p = ok_comes P p
counted_if P false h r p = λ g e. absurd (apart e)

head_comes : (s : Scope) (b : Bool) (n : Name) (ns : List Name) → Comes (GhostHead s n) (head s b n ns)
head_comes s b n ns =
    behind_comes (IfEarlier (IsGhostName s n)) (GhostHead s n) (λ (o : Option ℕ). behind (counted s n o) (type_parameters_behind s ns [])) (earlier s b n) (earlier_comes s b n)
    (λ o h. behind_comes (λ (ps : List (List ℕ)). Unit {0}) (GhostHead s n) (counted s n o) (type_parameters_behind s ns []) (λ ps e. tt)
    (λ ps u. counted_if (GhostHead s n) (has_as_many ps (lemma_at s o)) (record { earlier = o; parameters = ps }) _ h))

-- ---- what stands in front of the contract
new_lemma : {s : Scope} (n : Name) (ps : List (List ℕ)) (t : Taken) → TakenBehind s t → Leads (IsBehind s) (IsLemma n ps None t)
new_lemma n ps t h u lemmas.new = behind_ghost t.scope (lemmas.lemma_over ps t.sorts) h

same_lemma : {s : Scope} → IsOrderly s → (n : Name) (ps : List (List ℕ)) (k : ℕ) (t : Taken) → IsGhostName s n → TakesTo s t → Leads (IsBehind s) (IsLemma n ps (Some k) t)
same_lemma o n ps k t g a u (lemmas.agreed e) = seen_behind n g (behind_itself o) a

abbrev SignatureOf : Name → List GhostParameter → List (List ℕ) → Option ℕ → Scope → Result Scope Refusal → Type 0
SignatureOf n gs ps o s = Then (Only (parameters_behind ps gs (none_taken (begun n o s)))) (IsLemma n ps o)

signature_of : {s : Scope} → IsOrderly s → (n : Name) (gs : List GhostParameter) (ps : List (List ℕ)) (o : Option ℕ) → IfEarlier (IsGhostName s n) o → Leads (IsBehind s) (SignatureOf n gs ps o s)
signature_of {s = s} o n gs ps None g = then_leads (TakenBehind s) (IsBehind s) (only_leads (TakenBehind s) (parameters_behind ps gs (none_taken (begun n None s))) (taken_behind ps gs (begun n None s) (behind_next s n (behind_itself o)))) (λ t h. new_lemma n ps t h)
signature_of {s = s} o n gs ps (Some k) g = then_leads (TakesTo s) (IsBehind s) (only_leads (TakesTo s) (parameters_behind ps gs (none_taken s)) (parameters_come ps gs (none_taken s))) (λ t a. same_lemma o n ps k t (g k refl) a)

signature : {s : Scope} → IsOrderly s → (n : Name) (gs : List GhostParameter) (h : Head) → GhostHead s n h → Leads (IsBehind s) (SignatureComes n gs h s)
signature o n gs h g = signature_of o n gs h.parameters h.earlier g

-- ---- contracts
contract_behind : {s t : Scope} → IsOrderly s → (c d : Context) (x : Contract) → IsBehind s t → Leads (IsBehind s) (ContractComes c d x t)
contract_behind {s = s} o c d x h u (contracts.given g) = contract (stays_kept s o.locals) g h

taken_if : {s t : Scope} (gs : List GhostParameter) (l : Locals) (p : Option Place) → IsBehind s t → Comes (IsBehind s) (taken_unless gs l p t)
taken_if {s = s} gs l None h = ok_comes (IsBehind s) (behind_more (drop (length gs) l.names) (drop (length gs) l.meanings) h)
taken_if {s = s} gs l (Some p) h = λ u e. absurd (apart e)

taken_comes : {s t : Scope} (gs : List GhostParameter) (o : Option Locals) → IsBehind s t → Comes (IsBehind s) (taken_from gs o t)
taken_comes {s = s} gs None h = ok_comes (IsBehind s) h
taken_comes {s = s} gs (Some l) h = taken_if gs l (first_renamed l.names gs) h

own_contract : {s t : Scope} → IsOrderly s → (gs : List GhostParameter) (k : ℕ) (c : Option Contract) → IsBehind s t → Leads (IsBehind s) (OwnContract gs k c t)
own_contract {s = s} {t = t} o gs k None h = only_leads (IsBehind s) (taken_from gs (kept_in (sides_of_ghost t k)) t) (taken_comes gs (kept_in (sides_of_ghost t k)) h)
own_contract {s = s} o gs k (Some c) h = contract_behind o lemmas.around_contract lemmas.around_contract c h

-- ---- bodies
command_behind : {s t : Scope} → IsOrderly s → (w : Around) (x : GhostCommandTree) → IsBehind s t → Leads (IsBehind s) (CommandComes w x t)
command_behind {s = s} o w x h u (commands.given g) = command (stays_kept s o.locals) g h

commands_behind : {s : Scope} → IsOrderly s → (w : Around) (xs : GhostCommandTrees) (t : Scope) → IsBehind s t → Leads (IsBehind s) (BodyComes w xs t)
commands_behind {s = s} o w no_ghost_command t h = only_leads (IsBehind s) (Ok t) (ok_comes (IsBehind s) h)
commands_behind {s = s} o w (more_ghost_command x xs) t h = then_leads (IsBehind s) (IsBehind s) (command_behind o w x h) (λ u j. commands_behind o w xs u j)

body_if : {s t : Scope} → IsOrderly s → (may : Bool) (w : Around) (b : GhostBody) → IsBehind s t → Leads (IsBehind s) (BodyIf may w b t)
body_if {t = t} o true w b h = commands_behind o w (ghost_command_list b.commands) t h
body_if {s = s} o false w b h = only_leads (IsBehind s) (Err _) (λ u e. absurd (apart e))

-- ---- lemmas
prototype_of : {s : Scope} → IsOrderly s → (n : Name) (gs : List GhostParameter) (c : Contract) (h : Head) → GhostHead s n h → Leads (IsUnseen s) (PrototypeOf n gs c s h)
prototype_of {s = s} o n gs c h g =
    then_leads (IsBehind s) (IsUnseen s)
    (then_leads (IsBehind s) (IsBehind s) (signature o n gs h g) (λ t j. contract_behind o lemmas.around_contract lemmas.around_contract c j))
    (λ t j. only_leads (IsUnseen s) (Ok (kept (count s) (number s h.earlier) t)) (ok_comes (IsUnseen s) (unseen_left (kept (count s) (number s h.earlier) t) o j refl refl refl refl)))

-- what a lemma without a body declares is not seen
pub prototype : {s : Scope} → IsOrderly s → (n : Name) (ns : List Name) (gs : List GhostParameter) (c : Contract) → Leads (IsUnseen s) (PrototypeComes n ns gs c s)
prototype {s = s} o n ns gs c = then_leads (GhostHead s n) (IsUnseen s) (only_leads (GhostHead s n) (head s false n ns) (head_comes s false n ns)) (λ h g. prototype_of o n gs c h g)

definition_of : {s : Scope} → IsOrderly s → (n : Name) (gs : List GhostParameter) (c : Option Contract) (b : GhostBody) (h : Head) → GhostHead s n h → Leads (IsUnseen s) (DefinitionOf n gs c b s h)
definition_of {s = s} o n gs c b h g =
    let k = number s h.earlier in
    then_leads (IsBehind s) (IsUnseen s)
    (then_leads (IsBehind s) (IsBehind s)
    (then_leads (IsBehind s) (IsBehind s) (signature o n gs h g) (λ t j. own_contract o gs k c (behind_too (with_ghost_body t k) j refl refl refl refl)))
    (λ t j. body_if o (nat_eq n.place.file t.file) (lemmas.around_body k h.parameters) b j))
    (λ t j. only_leads (IsUnseen s) (Ok (left (count s) t)) (ok_comes (IsUnseen s) (unseen_left (left (count s) t) o j refl refl refl refl)))

-- what a lemma with its body declares is not seen
pub definition : {s : Scope} → IsOrderly s → (n : Name) (ns : List Name) (gs : List GhostParameter) (c : Option Contract) (b : GhostBody) → Leads (IsUnseen s) (DefinitionComes n ns gs c b s)
definition {s = s} o n ns gs c b = then_leads (GhostHead s n) (IsUnseen s) (only_leads (GhostHead s n) (head s true n ns) (head_comes s true n ns)) (λ h g. definition_of o n gs c b h g)
