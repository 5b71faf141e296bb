-- What lemmas declare at file level.
use Rattle.std.proofs.Common.{◌≡◌, refl, sym, ℕ, Bool, true, false, not, ◌&&◌, if◌then◌else◌, nat_eq, List, [], is_some, Option, Some, None, Err}
use Rattle.vf_base.specs.declared.refusal.Refusal.{Refusal}
use Rattle.vf_base.specs.declared.place.Place.{Place}
use Rattle.vf_names.specs.Names.{number_of}
use Rattle.vf_declared.specs.declared.declaration.Meaning.{Meaning}
use Rattle.vf_declared.specs.declared.locals.Locals.{Locals}
use Rattle.vf_declared.specs.declared.scope.Scope.{Scope}
use Rattle.vf_declared.specs.Scopes.{declaration_of, sides_of_ghost}
use Rattle.vf_declared.specs.Writing.{with_ghost_body}
use Rattle.vf_syntax.specs.declared.contract.Contract.{Contract}
use Rattle.vf_syntax.specs.declared.item.GhostBody.{GhostBody}
use Rattle.vf_syntax.specs.declared.item.GhostParameter.{GhostParameter}
use Rattle.vf_syntax.specs.declared.written.Name.{Name}
use Rattle.vf_syntax.specs.GhostCommandTree.{GhostCommandTrees, ghost_command_list, more_ghost_command, no_ghost_command}
use Rattle.vf_sorting.specs.declared.context.Context.{Context}
use Rattle.vf_datatypes.specs.Datatypes.{with_next}
use Rattle.vf_datatypes.specs.NewNames.{names_c, parameters_behind as type_parameters_behind}
use Rattle.vf_datatypes.specs.Walking.{behind}
use Rattle.vf_heads.specs.Parameters.{Taken, none_taken, parameters_behind}
use Rattle.vf_walk.specs.Items.{is_main}
use Rattle.vf_walk.specs.Walking.{Only, Then}
use Rattle.vf_contracts.specs.Comes.{ContractComes}
use Rattle.vf_contracts.specs.Comes as contracts
use Rattle.vf_commands.specs.declared.around.Around.{Around}
use Rattle.vf_commands.specs.Comes.{BodyComes, CommandComes}
use Rattle.vf_commands.specs.Comes as commands
use Rattle.vf_predicates.specs.Earlier.{seen_too, stands_too}
use Rattle.vf_lemma_items.specs.declared.earlier.Head.{Head}
use Rattle.vf_lemma_items.specs.Earlier.{counted, earlier, extended, extends, has_as_many, head, is_hidden, lemma_at, meant, name_refusal}
use Rattle.vf_lemma_items.specs.Kept.{first_renamed, kept_in, taken_from, taken_unless}
use Rattle.vf_lemma_items.specs.Lemmas.{BodyIf, DefinitionComes, DefinitionOf, IsLemma, OwnContract, PrototypeComes, PrototypeOf, SignatureComes, begun, lemma_over, number}
use Rattle.vf_lemma_items.specs.Lemmas as lemmas
use Rattle.vf_erasure_laws.proofs.hidden.Coming.{Comes, Leads, behind_comes, none_some, ok_comes, only_leads, then_leads}
use Rattle.vf_erasure_laws.proofs.hidden.Giving.{command, contract}
use Rattle.vf_fixpoint_laws.proofs.definable.Extending.{Keeps, keeps_same}
use Rattle.vf_fixpoint_laws.proofs.definable.Parameters.{TakenFrom, parameters_keep}
use Rattle.vf_fixpoint_laws.proofs.definable.Parts.{Any, err_comes, if_comes, keeps_kept, ok_keeps, passed_comes, then_keeps}
use Rattle.vf_fixpoint_laws.proofs.well_declared.Cores.{OthersFrom, PlainFrom, new_behind, nothing, one_file, others_ghost, others_plain, plain_behind, then_others}

-- ---- names that are new
third_none : (b c d : Bool) (x y z : Refusal) → ◌≡◌ {A = Option Refusal} (if b then Some x else (if c then Some y else (if d then Some z else None))) None → c ≡ false
third_none true c d x y z e = absurd (none_some (sym e))
third_none false true d x y z e = absurd (none_some (sym e))
third_none false false d x y z e = refl

not_hidden : (o : Option ℕ) (m : Option Meaning) → m ≡ None → (is_some o && not (is_some m)) ≡ false → o ≡ None
not_hidden None m e h = refl
not_hidden (Some k) None e h = absurd (let f : true ≡ false = h in cc)
not_hidden (Some k) (Some m) e h = absurd (none_some (sym e))

-- a lemma is of an earlier one, or its name is new
abbrev IsFresh : Scope → Name → Option ℕ → Type 0
IsFresh s n None = number_of s.names n.text ≡ None
IsFresh s n (Some k) = Unit {0}

extends_fresh : (s : Scope) (n : Name) (o : Option ℕ) → Comes (IsFresh s n) (extends n o)
extends_fresh s n None = err_comes (IsFresh s n) _
extends_fresh s n (Some k) = ok_comes (IsFresh s n) tt

meant_fresh : (s : Scope) (b : Bool) (n : Name) (m : Option Meaning) → is_hidden s n ≡ false → declaration_of s n.text n.place.file ≡ m → Comes (IsFresh s n) (meant s b n m)
meant_fresh s b n None h e = ok_comes (IsFresh s n) (not_hidden (number_of s.names n.text) (declaration_of s n.text n.place.file) e h)
meant_fresh s b n (Some m) h e = extends_fresh s n (extended s b n m)

earlier_fresh : (s : Scope) (b : Bool) (n : Name) → Comes (IsFresh s n) (earlier s b n)
earlier_fresh s b n =
    let m = declaration_of s n.text n.place.file in
    passed_comes (IsFresh s n) (name_refusal s n) (meant s b n m) (λ e. meant_fresh s b n m (third_none (names_c s n.text n.place.file) (is_hidden s n) (is_main n.text) _ _ _ e) refl)

abbrev HeadOf : Scope → Name → Head → Type 0
HeadOf s n h = IsFresh s n h.earlier

head_fresh : (s : Scope) (b : Bool) (n : Name) (ns : List Name) → Comes (HeadOf s n) (head s b n ns)
head_fresh s b n ns =
    behind_comes (IsFresh s n) (HeadOf s n) (λ (o : Option ℕ). behind (counted s n o) (type_parameters_behind s ns [])) (earlier s b n) (earlier_fresh s b n)
    (λ o h. behind_comes Any (HeadOf s n) (counted s n o) (type_parameters_behind s ns []) (λ ps e. tt)
    (λ ps u. if_comes (HeadOf s n) (has_as_many ps (lemma_at s o)) _ _ (λ e. h)))

-- ---- signatures
stands_plain : (n : Name) (o : Option ℕ) (s : Scope) → PlainFrom s (stands_too s n o)
stands_plain n None s = record { is = nothing refl }
stands_plain n (Some k) s = record { is = one_file k n.place.file refl }

-- a name that stands in one more file
pub seen_plain : (n : Name) (s : Scope) → PlainFrom s (seen_too s n)
seen_plain n s = stands_plain n (number_of s.names n.text) s

new_lemma : (s : Scope) (n : Name) (ps : List (List ℕ)) → number_of s.names n.text ≡ None → (t : Taken) → Keeps (with_next s n) t.scope → Leads (OthersFrom s) (IsLemma n ps None t)
new_lemma s n ps a t k u lemmas.new = others_ghost n (lemma_over ps t.sorts) tt (new_behind s n (lemma_over ps t.sorts) u a k refl)

same_lemma : (n : Name) (ps : List (List ℕ)) (k : ℕ) (t : Taken) → Leads (PlainFrom t.scope) (IsLemma n ps (Some k) t)
same_lemma n ps k t u (lemmas.agreed e) = seen_plain n t.scope

signature_of : (n : Name) (gs : List GhostParameter) (ps : List (List ℕ)) (o : Option ℕ) (s : Scope) → IsFresh s n o → Leads (OthersFrom s) (Then (Only (parameters_behind ps gs (none_taken (begun n o s)))) (IsLemma n ps o))
signature_of n gs ps None s a =
    then_leads (TakenFrom (with_next s n)) (OthersFrom s)
    (only_leads (TakenFrom (with_next s n)) (parameters_behind ps gs (none_taken (with_next s n))) (parameters_keep ps gs (with_next s n)))
    (λ t h. new_lemma s n ps a t h)
signature_of n gs ps (Some k) s a = λ u t. others_plain (then_leads (TakenFrom s) (PlainFrom s) (only_leads (TakenFrom s) (parameters_behind ps gs (none_taken s)) (parameters_keep ps gs s)) (λ v i w q. plain_behind i (same_lemma n ps k v w q)) u t)

signature : (n : Name) (gs : List GhostParameter) (h : Head) (s : Scope) → HeadOf s n h → Leads (OthersFrom s) (SignatureComes n gs h s)
signature n gs h s a = signature_of n gs h.parameters h.earlier s a

-- ---- contracts
contract_keeps : (c d : Context) (x : Contract) (s : Scope) → Leads (Keeps s) (ContractComes c d x s)
contract_keeps c d x s t (contracts.given g) = contract keeps_kept g

taken_keeps : (gs : List GhostParameter) (l : Locals) (p : Option Place) (s : Scope) → Comes (Keeps s) (taken_unless gs l p s)
taken_keeps gs l None s = ok_comes (Keeps s) (record { same = refl })
taken_keeps gs l (Some p) s = err_comes (Keeps s) _

from_keeps : (gs : List GhostParameter) (o : Option Locals) (s : Scope) → Comes (Keeps s) (taken_from gs o s)
from_keeps gs None s = ok_comes (Keeps s) (keeps_same s)
from_keeps gs (Some l) s = taken_keeps gs l (first_renamed l.names gs) s

own_contract_keeps : (gs : List GhostParameter) (k : ℕ) (c : Option Contract) (s : Scope) → Leads (Keeps s) (OwnContract gs k c s)
own_contract_keeps gs k None s = only_leads (Keeps s) (taken_from gs (kept_in (sides_of_ghost s k)) s) (from_keeps gs (kept_in (sides_of_ghost s k)) s)
own_contract_keeps gs k (Some c) s = contract_keeps lemmas.around_contract lemmas.around_contract c s

-- ---- bodies
commands_keep : (w : Around) (xs : GhostCommandTrees) (s : Scope) → Leads (Keeps s) (BodyComes w xs s)
commands_keep w no_ghost_command s = ok_keeps (keeps_same s)
commands_keep w (more_ghost_command x xs) s = then_keeps one (λ t. commands_keep w xs t)
  where
    one : Leads (Keeps s) (CommandComes w x s)
    one t (commands.given g) = command keeps_kept g

body_keeps : (may : Bool) (w : Around) (b : GhostBody) (s : Scope) → Leads (Keeps s) (BodyIf may w b s)
body_keeps true w b s = commands_keep w (ghost_command_list b.commands) s
body_keeps false w b s = only_leads (Keeps s) (Err _) (err_comes (Keeps s) _)

-- ---- lemmas
pub prototype_others : (n : Name) (ns : List Name) (gs : List GhostParameter) (c : Contract) (s : Scope) → Leads (OthersFrom s) (PrototypeComes n ns gs c s)
prototype_others n ns gs c s = then_leads (HeadOf s n) (OthersFrom s) (only_leads (HeadOf s n) (head s false n ns) (head_fresh s false n ns)) (λ h e. of_head h e)
  where
    of_head : (h : Head) → HeadOf s n h → Leads (OthersFrom s) (PrototypeOf n gs c s h)
    of_head h e = then_others (then_others (signature n gs h s e) (λ t. contract_keeps lemmas.around_contract lemmas.around_contract c t)) (λ t. ok_keeps (record { same = refl }))

pub definition_others : (n : Name) (ns : List Name) (gs : List GhostParameter) (c : Option Contract) (b : GhostBody) (s : Scope) → Leads (OthersFrom s) (DefinitionComes n ns gs c b s)
definition_others n ns gs c b s = then_leads (HeadOf s n) (OthersFrom s) (only_leads (HeadOf s n) (head s true n ns) (head_fresh s true n ns)) (λ h e. of_head h e)
  where
    of_head : (h : Head) → HeadOf s n h → Leads (OthersFrom s) (DefinitionOf n gs c b s h)
    of_head h e =
        let k = number s h.earlier in
        then_others
        (then_others
        (then_others (signature n gs h s e) (λ t u g. record { same = (own_contract_keeps gs k c (with_ghost_body t k) u g).same }))
        (λ t. body_keeps (nat_eq n.place.file t.file) (lemmas.around_body k h.parameters) b t))
        (λ t. ok_keeps (record { same = refl }))
