-- Lemmas add to what is declared.
use Rattle.std.proofs.Common.{◌≡◌, refl, ℕ, Bool, true, false, nat_eq, List, [], Option, Some, None, Err}
use Rattle.vf_base.specs.declared.place.Place.{Place}
use Rattle.vf_declared.specs.declared.declaration.Meaning.{Meaning}
use Rattle.vf_declared.specs.declared.locals.Locals.{Locals}
use Rattle.vf_declared.specs.declared.scope.Scope.{Scope}
use Rattle.vf_declared.specs.Beginning.{no_locals}
use Rattle.vf_declared.specs.Scopes.{declaration_of, sides_of_ghost}
use Rattle.vf_declared.specs.Writing.{with_ghost_body}
use Rattle.vf_syntax.specs.declared.contract.Contract.{Contract}
use Rattle.vf_syntax.specs.declared.item.GhostBody.{GhostBody}
use Rattle.vf_syntax.specs.declared.item.GhostParameter.{GhostParameter}
use Rattle.vf_syntax.specs.declared.written.Name.{Name}
use Rattle.vf_syntax.specs.GhostCommandTree.{GhostCommandTrees, ghost_command_list, more_ghost_command, no_ghost_command}
use Rattle.vf_sorting.specs.declared.context.Context.{Context}
use Rattle.vf_datatypes.specs.NewNames.{parameters_behind as type_parameters_behind}
use Rattle.vf_datatypes.specs.Walking.{behind}
use Rattle.vf_heads.specs.Parameters.{Taken, none_taken, parameters_behind}
use Rattle.vf_walk.specs.Walking.{Only, Then}
use Rattle.vf_contracts.specs.Comes.{ContractComes}
use Rattle.vf_contracts.specs.Comes as contracts
use Rattle.vf_commands.specs.declared.around.Around.{Around}
use Rattle.vf_commands.specs.Comes.{BodyComes, CommandComes}
use Rattle.vf_commands.specs.Comes as commands
use Rattle.vf_lemma_items.specs.declared.earlier.Head.{Head}
use Rattle.vf_lemma_items.specs.Earlier.{counted, earlier, extended, extends, has_as_many, head, lemma_at, meant, name_refusal}
use Rattle.vf_lemma_items.specs.Kept.{first_renamed, kept_in, taken_from, taken_unless}
use Rattle.vf_lemma_items.specs.Lemmas.{BodyIf, DefinitionComes, DefinitionOf, IsLemma, OwnContract, PrototypeComes, PrototypeOf, SignatureComes, begun, lemma_over, number}
use Rattle.vf_lemma_items.specs.Lemmas as lemmas
use Rattle.vf_erasure_laws.proofs.hidden.Coming.{Comes, Leads, behind_comes, ok_comes, only_leads, then_leads, unless_comes}
use Rattle.vf_erasure_laws.proofs.hidden.Giving.{command, contract}
use Rattle.vf_fixpoint_laws.specs.definable.Files.{SeesThrough}
use Rattle.vf_fixpoint_laws.proofs.definable.Extending.{Grows, Keeps, core, grows_behind, grows_both, grows_ghost, grows_kept, keeps_same, sees_kept}
use Rattle.vf_fixpoint_laws.proofs.definable.Ghosts.{TakenBehind, next_grows, none_left, taken_behind}
use Rattle.vf_fixpoint_laws.proofs.definable.Parameters.{TakenFrom, parameters_keep}
use Rattle.vf_fixpoint_laws.proofs.definable.Parts.{Any, Cleared, Ends, err_comes, if_comes, keeps_kept, ok_keeps, then_ends, then_grows, then_keeps}
use Rattle.vf_fixpoint_laws.proofs.definable.Seen.{IsSeen, NewOrSeen, declared_seen, seen_grows, seen_kept}

-- ---- names
extends_seen : (s : Scope) (n : Name) (o : Option ℕ) → IsSeen (core s) n.text n.place.file → Comes (NewOrSeen (core s) n.text n.place.file) (extends n o)
extends_seen s n None h = err_comes (NewOrSeen (core s) n.text n.place.file) _
extends_seen s n (Some k) h = ok_comes (NewOrSeen (core s) n.text n.place.file) h

meant_seen : (s : Scope) (b : Bool) (n : Name) (m : Option Meaning) → declaration_of s n.text n.place.file ≡ m → Comes (NewOrSeen (core s) n.text n.place.file) (meant s b n m)
meant_seen s b n None e = ok_comes (NewOrSeen (core s) n.text n.place.file) tt
meant_seen s b n (Some m) e = extends_seen s n (extended s b n m) (declared_seen s n.text n.place.file m e)

earlier_seen : (s : Scope) (b : Bool) (n : Name) → Comes (NewOrSeen (core s) n.text n.place.file) (earlier s b n)
earlier_seen s b n =
    let m = declaration_of s n.text n.place.file in
    unless_comes (NewOrSeen (core s) n.text n.place.file) (name_refusal s n) (meant s b n m) (meant_seen s b n m refl)

-- what a head is of is seen where it stands
abbrev HeadOf : Scope → Name → Head → Type 0
HeadOf s n h = NewOrSeen (core s) n.text n.place.file h.earlier

head_seen : (s : Scope) (b : Bool) (n : Name) (ns : List Name) → Comes (HeadOf s n) (head s b n ns)
head_seen s b n ns =
    behind_comes (NewOrSeen (core s) n.text n.place.file) (HeadOf s n) (λ (o : Option ℕ). behind (counted s n o) (type_parameters_behind s ns [])) (earlier s b n) (earlier_seen s b n)
    (λ o h. behind_comes Any (HeadOf s n) (counted s n o) (type_parameters_behind s ns []) (λ ps e. tt)
    (λ ps u. if_comes (HeadOf s n) (has_as_many ps (lemma_at s o)) _ _ (λ e. h)))

-- ---- signatures
new_lemma : (m : ℕ) {s : Scope} (n : Name) (ps : List (List ℕ)) (t : Taken) → TakenBehind m s t → Leads (Grows m s) (IsLemma n ps None t)
new_lemma m n ps t h u lemmas.new = grows_both h (grows_ghost m t.scope (lemma_over ps t.sorts) tt)

same_lemma : (m : ℕ) (s : Scope) → SeesThrough s → (n : Name) (ps : List (List ℕ)) (k : ℕ) (t : Taken) → IsSeen (core s) n.text n.place.file → TakenFrom s t → Leads (Grows m s) (IsLemma n ps (Some k) t)
same_lemma m s v n ps k t h i u (lemmas.agreed e) = grows_behind i (seen_grows m t.scope (sees_kept (grows_kept m i) v) n (seen_kept i n.text n.place.file h))

signature_of : (m : ℕ) (n : Name) (gs : List GhostParameter) (ps : List (List ℕ)) (o : Option ℕ) (s : Scope) → SeesThrough s → NewOrSeen (core s) n.text n.place.file o → Leads (Grows m s) (Then (Only (parameters_behind ps gs (none_taken (begun n o s)))) (IsLemma n ps o))
signature_of m n gs ps None s v e =
    then_leads (TakenBehind m s) (Grows m s)
    (only_leads (TakenBehind m s) (parameters_behind ps gs (none_taken (begun n None s))) (taken_behind ps gs (begun n None s) (next_grows m s n)))
    (λ t h. new_lemma m n ps t h)
signature_of m n gs ps (Some k) s v e =
    then_leads (TakenFrom s) (Grows m s) (only_leads (TakenFrom s) (parameters_behind ps gs (none_taken s)) (parameters_keep ps gs s)) (λ w i. same_lemma m s v n ps k w e i)

signature : (m : ℕ) (n : Name) (gs : List GhostParameter) (h : Head) (s : Scope) → SeesThrough s → HeadOf s n h → Leads (Grows m s) (SignatureComes n gs h s)
signature m n gs h s v e = signature_of m n gs h.parameters h.earlier s v e

-- ---- contracts
contract_keeps : (c d : Context) (x : Contract) (s : Scope) → Leads (Keeps s) (ContractComes c d x s)
contract_keeps c d x s t (contracts.given g) = contract keeps_kept g

taken_keeps : (gs : List GhostParameter) (l : Locals) (p : Option Place) (s : Scope) → Comes (Keeps s) (taken_unless gs l p s)
taken_keeps gs l None s = ok_comes (Keeps s) (record { same = refl })
taken_keeps gs l (Some p) s = err_comes (Keeps s) _

from_keeps : (gs : List GhostParameter) (o : Option Locals) (s : Scope) → Comes (Keeps s) (taken_from gs o s)
from_keeps gs None s = ok_comes (Keeps s) (keeps_same s)
from_keeps gs (Some l) s = taken_keeps gs l (first_renamed l.names gs) s

own_contract_keeps : (gs : List GhostParameter) (k : ℕ) (c : Option Contract) (s : Scope) → Leads (Keeps s) (OwnContract gs k c s)
own_contract_keeps gs k None s = only_leads (Keeps s) (taken_from gs (kept_in (sides_of_ghost s k)) s) (from_keeps gs (kept_in (sides_of_ghost s k)) s)
own_contract_keeps gs k (Some c) s = contract_keeps lemmas.around_contract lemmas.around_contract c s

-- ---- bodies
commands_keep : (w : Around) (xs : GhostCommandTrees) (s : Scope) → Leads (Keeps s) (BodyComes w xs s)
commands_keep w no_ghost_command s = ok_keeps (keeps_same s)
commands_keep w (more_ghost_command x xs) s = then_keeps one (λ t. commands_keep w xs t)
  where
    one : Leads (Keeps s) (CommandComes w x s)
    one t (commands.given g) = command keeps_kept g

body_keeps : (may : Bool) (w : Around) (b : GhostBody) (s : Scope) → Leads (Keeps s) (BodyIf may w b s)
body_keeps true w b s = commands_keep w (ghost_command_list b.commands) s
body_keeps false w b s = only_leads (Keeps s) (Err _) (err_comes (Keeps s) _)

-- ---- lemmas
pub prototype_ends : (m : ℕ) (n : Name) (ns : List Name) (gs : List GhostParameter) (c : Contract) (s : Scope) → SeesThrough s → s.locals ≡ no_locals → Leads (Ends m s) (PrototypeComes n ns gs c s)
prototype_ends m n ns gs c s v a = then_leads (HeadOf s n) (Ends m s) (only_leads (HeadOf s n) (head s false n ns) (head_seen s false n ns)) (λ h e. of_head h e)
  where
    of_head : (h : Head) → HeadOf s n h → Leads (Ends m s) (PrototypeOf n gs c s h)
    of_head h e =
        then_ends
        (then_grows (signature m n gs h s v e) (λ t. contract_keeps lemmas.around_contract lemmas.around_contract c t))
        (λ t. only_leads (Cleared t) _ (ok_comes (Cleared t) (record { keeps = record { same = refl }; locals = none_left s a t.locals })))

pub definition_ends : (m : ℕ) (n : Name) (ns : List Name) (gs : List GhostParameter) (c : Option Contract) (b : GhostBody) (s : Scope) → SeesThrough s → s.locals ≡ no_locals → Leads (Ends m s) (DefinitionComes n ns gs c b s)
definition_ends m n ns gs c b s v a = then_leads (HeadOf s n) (Ends m s) (only_leads (HeadOf s n) (head s true n ns) (head_seen s true n ns)) (λ h e. of_head h e)
  where
    of_head : (h : Head) → HeadOf s n h → Leads (Ends m s) (DefinitionOf n gs c b s h)
    of_head h e =
        let k = number s h.earlier in
        then_ends
        (then_grows
        (then_grows (signature m n gs h s v e) (λ t u g. record { same = (own_contract_keeps gs k c (with_ghost_body t k) u g).same }))
        (λ t. body_keeps (nat_eq n.place.file t.file) (lemmas.around_body k h.parameters) b t))
        (λ t. only_leads (Cleared t) _ (ok_comes (Cleared t) (record { keeps = record { same = refl }; locals = none_left s a t.locals })))
