-- What lemmas declare: a new name, or one that is that of a lemma already.
use Rattle.std.proofs.Common.{◌≡◌, refl, sym, ap, subst, ◌∙◌, ℕ, Bool, true, false, not, ◌&&◌, if◌then◌else◌, nat_eq, List, [], is_some, Option, Some, None, Ok}
use Rattle.vf_base.specs.declared.refusal.Refusal.{Refusal}
use Rattle.vf_base.specs.declared.rule.Rule.TheVariants as rules
use Rattle.vf_names.specs.Names.{number_of}
use Rattle.vf_sorts.specs.Sorts.{Sort}
use Rattle.vf_declared.specs.declared.declaration.GhostDeclaration.{GhostDeclaration}
use Rattle.vf_declared.specs.declared.declaration.Meaning.{Meaning}
use Rattle.vf_declared.specs.declared.declaration.Meaning.TheVariants as meanings
use Rattle.vf_declared.specs.declared.scope.Scope.{Scope}
use Rattle.vf_declared.specs.Scopes.{at_name, declaration_of, ghost_of, sides_of_ghost}
use Rattle.vf_declared.specs.Writing.{with_ghost_body}
use Rattle.vf_syntax.specs.declared.contract.Contract.{Contract}
use Rattle.vf_syntax.specs.declared.item.GhostBody.{GhostBody}
use Rattle.vf_syntax.specs.declared.item.GhostParameter.{GhostParameter}
use Rattle.vf_syntax.specs.declared.written.Name.{Name}
use Rattle.vf_sorting.specs.Refusals.{refused}
use Rattle.vf_asserting.specs.Cases.{ghost_number}
use Rattle.vf_datatypes.specs.Datatypes.{with_next}
use Rattle.vf_datatypes.specs.NewNames.{names_c}
use Rattle.vf_datatypes.specs.NewNames as names
use Rattle.vf_datatypes.specs.Walking.{behind}
use Rattle.vf_heads.specs.Parameters.{none_taken, parameters_behind, Taken}
use Rattle.vf_walk.specs.Items.{is_main}
use Rattle.vf_walk.specs.Walking.{Only, Then}
use Rattle.vf_predicates.specs.Earlier.{is_doubled, is_of_prelude}
use Rattle.vf_lemma_items.specs.declared.earlier.Head.{Head}
use Rattle.vf_lemma_items.specs.Earlier.{counted, earlier, extended, extends, has_as_many, head, lemma_at, lemma_in, lemma_of, meant, name_refusal}
use Rattle.vf_lemma_items.specs.Lemmas.{begun, DefinitionComes, IsLemma, lemma_over, number, PrototypeComes, SignatureComes}
use Rattle.vf_lemma_items.specs.Lemmas as lemmas
use Rattle.vf_header_laws.proofs.c_names.Lists.{none_some, some_same}
use Rattle.vf_header_laws.proofs.c_names.Steps.{apart, ok_same, refused_unless, went}
use Rattle.vf_header_laws.specs.ghost_names.Meaning.{ghost_at}
use Rattle.vf_header_laws.proofs.ghost_names.Bodies.{contract_rest, lemma_body_rest, own_contract_rest}
use Rattle.vf_header_laws.proofs.ghost_names.Heads.{again, again_rest, Declares, declares_rest, ghost_rest, new}
use Rattle.vf_header_laws.proofs.ghost_names.Parameters.{parameters_rest, Reads}
use Rattle.vf_header_laws.proofs.ghost_names.Rest.{IsRest, rest, rest_both}
use Rattle.vf_header_laws.proofs.ghost_names.Walks.{through, unrefused}

-- ---- the name of a lemma
-- a name is not declared, or is that of a lemma with a number
data IsOf (s : Scope) (n : Name) : Option ℕ → Type 0 where
  of_none : number_of s.names n.text ≡ None → IsOf s n None
  of_one : {k : ℕ} → ghost_at s n.text n.place.file ≡ Some k → IsOf s n (Some k)

-- a name that may be a lemma's, and means nothing, is not declared
undeclared : (s : Scope) (n : Name) → name_refusal s n ≡ None → declaration_of s n.text n.place.file ≡ None → number_of s.names n.text ≡ None
undeclared s n h e = by_tests _ _ _ (names_c s n.text n.place.file) (number_of s.names n.text) (declaration_of s n.text n.place.file) refl e h
  where
    by_tests : (x y z : Refusal) (b : Bool) (o : Option ℕ) (m : Option Meaning) → number_of s.names n.text ≡ o → m ≡ None → (if b then Some x else (if is_some o && not (is_some m) then Some y else (if is_main n.text then Some z else None))) ≡ None → number_of s.names n.text ≡ None
    by_tests x y z true o m i j k = none_some (sym k)
    by_tests x y z false None m i j k = i
    by_tests x y z false (Some d) None i j k = none_some (sym k)
    by_tests x y z false (Some d) (Some m) i j k = none_some (sym j)

lemma_is : (s : Scope) (b : Bool) (m : Meaning) (k : ℕ) → lemma_of s b m ≡ Some k → m ≡ meanings.Ghost k
lemma_is s b (meanings.Ghost j) k h = by_test (is_some (lemma_in (ghost_of s j)) && not (is_doubled b (sides_of_ghost s j))) h
  where
    by_test : (v : Bool) → (if v then Some j else None) ≡ Some k → meanings.Ghost j ≡ meanings.Ghost k
    by_test true e = ap meanings.Ghost (some_same e)
    by_test false e = none_some e
lemma_is s b (meanings.Function j) k h = none_some h
lemma_is s b (meanings.FunctionType j) k h = none_some h

extended_is : (s : Scope) (b : Bool) (n : Name) (m : Meaning) (k : ℕ) → extended s b n m ≡ Some k → m ≡ meanings.Ghost k
extended_is s b n m k h = by_test (is_of_prelude s (at_name s.names s.declarations n.text)) h
  where
    by_test : (v : Bool) → (if v then None else lemma_of s b m) ≡ Some k → m ≡ meanings.Ghost k
    by_test true e = none_some e
    by_test false e = lemma_is s b m k e

earlier_is : {o : Option ℕ} (s : Scope) (b : Bool) (n : Name) → earlier s b n ≡ Ok o → IsOf s n o
earlier_is {o} s b n h =
    let i = unrefused (name_refusal s n) (meant s b n (declaration_of s n.text n.place.file)) h in
    by_meaning i.none (declaration_of s n.text n.place.file) refl i.gives
  where
    by_number : (m : Meaning) → declaration_of s n.text n.place.file ≡ Some m → (q : Option ℕ) → extended s b n m ≡ q → extends n q ≡ Ok o → IsOf s n o
    by_number m e None f g = absurd (apart g)
    by_number m e (Some k) f g = subst (IsOf s n) (ok_same g) (of_one (ap ghost_number (e ∙ ap Some (extended_is s b n m k f))))

    by_meaning : name_refusal s n ≡ None → (m : Option Meaning) → declaration_of s n.text n.place.file ≡ m → meant s b n m ≡ Ok o → IsOf s n o
    by_meaning r None e g = subst (IsOf s n) (ok_same g) (of_none (undeclared s n r e))
    by_meaning r (Some m) e g = by_number m e (extended s b n m) refl g

-- what stands in front of the parameters of a lemma
record IsHead (s : Scope) (n : Name) (ns : List Name) (h : Head) : Type 0 where
  of : IsOf s n h.earlier
  written : names.parameters_behind s ns [] ≡ Ok h.parameters

head_is : {h : Head} (s : Scope) (b : Bool) (n : Name) (ns : List Name) → head s b n ns ≡ Ok h → IsHead s n ns h
head_is {h} s b n ns e =
    let i = through (λ (o : Option ℕ). behind (counted s n o) (names.parameters_behind s ns [])) (earlier s b n) e in
    let j = through (counted s n i.at) (names.parameters_behind s ns []) i.next in
    let k = refused_unless (record { earlier = i.at; parameters = j.at }) (refused rules.Name n.place) (has_as_many j.at (lemma_at s i.at)) j.next in
    record {
      of = subst (IsOf s n) (sym (ap (λ (z : Head). z.earlier) k.is)) (earlier_is s b n i.first);
      written = j.first ∙ ap Ok (sym (ap (λ (z : Head). z.parameters) k.is));
    }

-- ---- what a lemma declares
-- a lemma with these type parameters over the sorts of these parameters
pub record IsLemmaOver (n : Name) (ns : List Name) (gs : List GhostParameter) (s : Scope) (g : GhostDeclaration) : Type 0 where
  pub parameters : List (List ℕ)
  pub sorts : List Sort
  pub is : g ≡ lemma_over parameters sorts
  pub written : names.parameters_behind s ns [] ≡ Ok parameters
  pub reads : Reads parameters gs (with_next s n) sorts

signed_new : {ns : List Name} {gs : List GhostParameter} {t : Scope} (n : Name) (ps : List (List ℕ)) (s : Scope) (k : Taken) → number_of s.names n.text ≡ None → names.parameters_behind s ns [] ≡ Ok ps → parameters_behind ps gs (none_taken (with_next s n)) ≡ Ok k → IsLemma n ps None k (Ok t) → Declares n (IsLemmaOver n ns gs s) s t
signed_new {gs = gs} n ps s k f w e lemmas.new =
    new (record { fresh = f; is = ghost_rest (lemma_over ps k.sorts) (parameters_rest ps gs (none_taken (with_next s n)) e) })
    (record { parameters = ps; sorts = k.sorts; is = refl; written = w; reads = record { taken = k; is = e; sorts = refl } })

signed_again : {ns : List Name} {gs : List GhostParameter} {t : Scope} (n : Name) (ps : List (List ℕ)) (s : Scope) (j : ℕ) (k : Taken) → ghost_at s n.text n.place.file ≡ Some j → parameters_behind ps gs (none_taken s) ≡ Ok k → IsLemma n ps (Some j) k (Ok t) → Declares n (IsLemmaOver n ns gs s) s t
signed_again {gs = gs} n ps s j k f e (lemmas.agreed a) = again (record { means = f; is = again_rest n (parameters_rest ps gs (none_taken s) e) })

signature_of : {ns : List Name} {t : Scope} (n : Name) (gs : List GhostParameter) (ps : List (List ℕ)) (s : Scope) (o : Option ℕ) → IsOf s n o → names.parameters_behind s ns [] ≡ Ok ps → Then (Only (parameters_behind ps gs (none_taken (begun n o s)))) (IsLemma n ps o) (Ok t) → Declares n (IsLemmaOver n ns gs s) s t
signature_of n gs ps s None (of_none f) w h = let k = went h in signed_new n ps s k.at f w k.first.is k.next
signature_of n gs ps s (Some j) (of_one f) w h = let k = went h in signed_again n ps s j k.at f k.first.is k.next

signature : {ns : List Name} {t : Scope} (n : Name) (gs : List GhostParameter) (h : Head) (s : Scope) → IsHead s n ns h → SignatureComes n gs h s (Ok t) → Declares n (IsLemmaOver n ns gs s) s t
signature n gs h s i w = signature_of n gs h.parameters s h.earlier i.of i.written w

pub prototype_declares : {t : Scope} (n : Name) (ns : List Name) (gs : List GhostParameter) (c : Contract) (s : Scope) → PrototypeComes n ns gs c s (Ok t) → Declares n (IsLemmaOver n ns gs s) s t
prototype_declares n ns gs c s h =
    let k = went h in
    let j = went k.next in
    let i = went j.first in
    declares_rest (signature n gs k.at s (head_is s false n ns k.first.is) i.first) (rest_both (contract_rest _ _ c i.at i.next) (record { is = sym (ap rest (ok_same j.next.is)) }))

pub definition_declares : {t : Scope} (n : Name) (ns : List Name) (gs : List GhostParameter) (c : Option Contract) (b : GhostBody) (s : Scope) → DefinitionComes n ns gs c b s (Ok t) → Declares n (IsLemmaOver n ns gs s) s t
definition_declares n ns gs c b s h =
    let k = went h in
    let j = went k.next in
    let i = went j.first in
    let l = went i.first in
    let m = number s k.at.earlier in
    let contract : IsRest l.at i.at = record { is = (own_contract_rest gs m c (with_ghost_body l.at m) l.next).is } in
    let body : IsRest i.at j.at = lemma_body_rest (nat_eq n.place.file i.at.file) (lemmas.around_body m k.at.parameters) b i.at i.next in
    declares_rest (signature n gs k.at s (head_is s true n ns k.first.is) l.first) (rest_both contract (rest_both body (record { is = sym (ap rest (ok_same j.next.is)) })))
