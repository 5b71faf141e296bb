-- Lemmas bring their names.
use Rattle.std.proofs.Common.{◌≡◌, refl, sym, ℕ, Bool, true, false, not, ◌&&◌, if◌then◌else◌, nat_eq, List, [], ◌∷◌, is_some, Option, Some, None, Err}
use Rattle.vf_base.specs.declared.place.Place.{Place}
use Rattle.vf_base.specs.declared.refusal.Refusal.{Refusal}
use Rattle.vf_names.specs.Names.{number_of}
use Rattle.vf_declared.specs.declared.declaration.Meaning.{Meaning}
use Rattle.vf_declared.specs.declared.locals.Locals.{Locals}
use Rattle.vf_declared.specs.declared.scope.Scope.{Scope}
use Rattle.vf_declared.specs.Scopes.{declaration_of, sides_of_ghost}
use Rattle.vf_declared.specs.Writing.{with_ghost_body}
use Rattle.vf_syntax.specs.declared.contract.Contract.{Contract}
use Rattle.vf_syntax.specs.declared.item.GhostBody.{GhostBody}
use Rattle.vf_syntax.specs.declared.item.GhostParameter.{GhostParameter}
use Rattle.vf_syntax.specs.declared.written.Name.{Name}
use Rattle.vf_syntax.specs.GhostCommandTree.{GhostCommandTrees, ghost_command_list, more_ghost_command, no_ghost_command}
use Rattle.vf_sorting.specs.declared.context.Context.{Context}
use Rattle.vf_datatypes.specs.NewNames.{names_c, parameters_behind as type_parameters_behind}
use Rattle.vf_datatypes.specs.Walking.{behind}
use Rattle.vf_heads.specs.Parameters.{Taken, none_taken, parameters_behind}
use Rattle.vf_walk.specs.Items.{is_main}
use Rattle.vf_walk.specs.Walking.{Only, Then}
use Rattle.vf_contracts.specs.Comes.{ContractComes}
use Rattle.vf_contracts.specs.Comes as contracts
use Rattle.vf_commands.specs.declared.around.Around.{Around}
use Rattle.vf_commands.specs.Comes.{BodyComes, CommandComes}
use Rattle.vf_commands.specs.Comes as commands
use Rattle.vf_lemma_items.specs.declared.earlier.Head.{Head}
use Rattle.vf_lemma_items.specs.Earlier.{counted, earlier, extended, extends, has_as_many, head, is_hidden, lemma_at, meant, name_refusal}
use Rattle.vf_lemma_items.specs.Kept.{first_renamed, kept_in, taken_from, taken_unless}
use Rattle.vf_lemma_items.specs.Lemmas.{BodyIf, DefinitionComes, DefinitionOf, IsLemma, OwnContract, PrototypeComes, PrototypeOf, SignatureComes, begun, number}
use Rattle.vf_lemma_items.specs.Lemmas as lemmas
use Rattle.vf_erasure_laws.proofs.hidden.Coming.{Comes, Leads, behind_comes, none_some, ok_comes, only_leads, then_leads}
use Rattle.vf_erasure_laws.proofs.hidden.Giving.{command, contract}
use Rattle.vf_env_laws.proofs.Keeping.{Any, Brings, IsBeside, Keeps, Stands, brings_before, brings_known, err_comes, if_comes, keeps_both, keeps_kept, keeps_same, ok_keeps, passed_comes, then_brings, then_keeps}
use Rattle.vf_env_laws.proofs.Ghosts.{TakenBehind, TakenFrom, declared_there, next_brings, parameters_keep, seen_keeps, taken_behind}

-- ---- names
third_none : (b c d : Bool) (x y z : Refusal) → ◌≡◌ {A = Option Refusal} (if b then Some x else (if c then Some y else (if d then Some z else None))) None → c ≡ false
third_none true c d x y z e = absurd (none_some (sym e))
third_none false true d x y z e = absurd (none_some (sym e))
third_none false false d x y z e = refl

not_hidden : (o : Option ℕ) (m : Option Meaning) → m ≡ None → (is_some o && not (is_some m)) ≡ false → o ≡ None
not_hidden None m e h = refl
not_hidden (Some k) None e h = absurd (let f : true ≡ false = h in cc)
not_hidden (Some k) (Some m) e h = absurd (none_some (sym e))

visible_name : (s : Scope) (n : Name) → name_refusal s n ≡ None → is_hidden s n ≡ false
visible_name s n e = third_none (names_c s n.text n.place.file) (is_hidden s n) (is_main n.text) _ _ _ e

extends_stands : (s : Scope) (n : Name) (o : Option ℕ) (j : ℕ) → number_of s.names n.text ≡ Some j → Comes (Stands s n.text) (extends n o)
extends_stands s n None j e = err_comes (Stands s n.text) _
extends_stands s n (Some k) j e = ok_comes (Stands s n.text) (j, e)

meant_stands : (s : Scope) (b : Bool) (n : Name) (m : Option Meaning) → is_hidden s n ≡ false → declaration_of s n.text n.place.file ≡ m → Comes (Stands s n.text) (meant s b n m)
meant_stands s b n None h e = ok_comes (Stands s n.text) (not_hidden (number_of s.names n.text) (declaration_of s n.text n.place.file) e h)
meant_stands s b n (Some m) h e = let there = declared_there s n.text n.place.file m e in extends_stands s n (extended s b n m) there.0 there.1

earlier_stands : (s : Scope) (b : Bool) (n : Name) → Comes (Stands s n.text) (earlier s b n)
earlier_stands s b n =
    let m = declaration_of s n.text n.place.file in
    passed_comes (Stands s n.text) (name_refusal s n) (meant s b n m) (λ e. meant_stands s b n m (visible_name s n e) refl)

-- what a head is of stands for its name
abbrev HeadOf : Scope → Name → Head → Type 0
HeadOf s n h = Stands s n.text h.earlier

head_stands : (s : Scope) (b : Bool) (n : Name) (ns : List Name) → Comes (HeadOf s n) (head s b n ns)
head_stands s b n ns =
    behind_comes (Stands s n.text) (HeadOf s n) (λ (o : Option ℕ). behind (counted s n o) (type_parameters_behind s ns [])) (earlier s b n) (earlier_stands s b n)
    (λ o h. behind_comes Any (HeadOf s n) (counted s n o) (type_parameters_behind s ns []) (λ ps e. tt)
    (λ ps u. if_comes (HeadOf s n) (has_as_many ps (lemma_at s o)) _ _ (λ e. h)))

-- ---- signatures
new_lemma : {xs : List (List ℕ)} {s : Scope} (n : Name) (ps : List (List ℕ)) (t : Taken) → TakenBehind xs s t → Leads (Brings xs [] s) (IsLemma n ps None t)
new_lemma n ps t h u lemmas.new = brings_before h (record { names = refl; tags = refl; count = refl })

same_lemma : (n : Name) (ps : List (List ℕ)) (k : ℕ) (t : Taken) → Leads (Keeps t.scope) (IsLemma n ps (Some k) t)
same_lemma n ps k t u (lemmas.agreed e) = seen_keeps n t.scope

signature_of : (n : Name) (gs : List GhostParameter) (ps : List (List ℕ)) (o : Option ℕ) (s : Scope) → IsBeside s → Stands s n.text o → Leads (Brings (n.text ∷ []) [] s) (Then (Only (parameters_behind ps gs (none_taken (begun n o s)))) (IsLemma n ps o))
signature_of n gs ps None s a e =
    then_leads (TakenBehind (n.text ∷ []) s) (Brings (n.text ∷ []) [] s)
    (only_leads (TakenBehind (n.text ∷ []) s) (parameters_behind ps gs (none_taken (begun n None s))) (taken_behind ps gs (begun n None s) (next_brings s n a e)))
    (λ t h. new_lemma n ps t h)
signature_of n gs ps (Some k) s a e = λ u t.
    let h : Keeps s u = then_leads (TakenFrom s) (Keeps s) (only_leads (TakenFrom s) (parameters_behind ps gs (none_taken s)) (parameters_keep ps gs s)) (λ v i w q. keeps_both i (same_lemma n ps k v w q)) u t in
    brings_known n.text e.0 a e.1 h

signature : (n : Name) (gs : List GhostParameter) (h : Head) (s : Scope) → IsBeside s → HeadOf s n h → Leads (Brings (n.text ∷ []) [] s) (SignatureComes n gs h s)
signature n gs h s a e = signature_of n gs h.parameters h.earlier s a e

-- ---- contracts
contract_keeps : (c d : Context) (x : Contract) (s : Scope) → Leads (Keeps s) (ContractComes c d x s)
contract_keeps c d x s t (contracts.given g) = contract keeps_kept g

taken_keeps : (gs : List GhostParameter) (l : Locals) (p : Option Place) (s : Scope) → Comes (Keeps s) (taken_unless gs l p s)
taken_keeps gs l None s = ok_comes (Keeps s) (record { names = refl; tags = refl; count = refl })
taken_keeps gs l (Some p) s = err_comes (Keeps s) _

from_keeps : (gs : List GhostParameter) (o : Option Locals) (s : Scope) → Comes (Keeps s) (taken_from gs o s)
from_keeps gs None s = ok_comes (Keeps s) (keeps_same s)
from_keeps gs (Some l) s = taken_keeps gs l (first_renamed l.names gs) s

own_contract_keeps : (gs : List GhostParameter) (k : ℕ) (c : Option Contract) (s : Scope) → Leads (Keeps s) (OwnContract gs k c s)
own_contract_keeps gs k None s = only_leads (Keeps s) (taken_from gs (kept_in (sides_of_ghost s k)) s) (from_keeps gs (kept_in (sides_of_ghost s k)) s)
own_contract_keeps gs k (Some c) s = contract_keeps lemmas.around_contract lemmas.around_contract c s

-- ---- bodies
commands_keep : (w : Around) (xs : GhostCommandTrees) (s : Scope) → Leads (Keeps s) (BodyComes w xs s)
commands_keep w no_ghost_command s = ok_keeps (keeps_same s)
commands_keep w (more_ghost_command x xs) s = then_keeps one (λ t. commands_keep w xs t)
  where
    one : Leads (Keeps s) (CommandComes w x s)
    one t (commands.given g) = command keeps_kept g

body_keeps : (may : Bool) (w : Around) (b : GhostBody) (s : Scope) → Leads (Keeps s) (BodyIf may w b s)
body_keeps true w b s = commands_keep w (ghost_command_list b.commands) s
body_keeps false w b s = only_leads (Keeps s) (Err _) (err_comes (Keeps s) _)

-- ---- lemmas
pub prototype_brings : (n : Name) (ns : List Name) (gs : List GhostParameter) (c : Contract) (s : Scope) → IsBeside s → Leads (Brings (n.text ∷ []) [] s) (PrototypeComes n ns gs c s)
prototype_brings n ns gs c s a = then_leads (HeadOf s n) (Brings (n.text ∷ []) [] s) (only_leads (HeadOf s n) (head s false n ns) (head_stands s false n ns)) (λ h e. of_head h e)
  where
    of_head : (h : Head) → HeadOf s n h → Leads (Brings (n.text ∷ []) [] s) (PrototypeOf n gs c s h)
    of_head h e = then_brings (then_brings (signature n gs h s a e) (λ t. contract_keeps lemmas.around_contract lemmas.around_contract c t)) (λ t. ok_keeps (record { names = refl; tags = refl; count = refl }))

pub definition_brings : (n : Name) (ns : List Name) (gs : List GhostParameter) (c : Option Contract) (b : GhostBody) (s : Scope) → IsBeside s → Leads (Brings (n.text ∷ []) [] s) (DefinitionComes n ns gs c b s)
definition_brings n ns gs c b s a = then_leads (HeadOf s n) (Brings (n.text ∷ []) [] s) (only_leads (HeadOf s n) (head s true n ns) (head_stands s true n ns)) (λ h e. of_head h e)
  where
    of_head : (h : Head) → HeadOf s n h → Leads (Brings (n.text ∷ []) [] s) (DefinitionOf n gs c b s h)
    of_head h e =
        let k = number s h.earlier in
        then_brings
        (then_brings
        (then_brings (signature n gs h s a e) (λ t u g. keeps_both (record { names = refl; tags = refl; count = refl }) (own_contract_keeps gs k c (with_ghost_body t k) u g)))
        (λ t. body_keeps (nat_eq n.place.file t.file) (lemmas.around_body k h.parameters) b t))
        (λ t. ok_keeps (record { names = refl; tags = refl; count = refl }))
