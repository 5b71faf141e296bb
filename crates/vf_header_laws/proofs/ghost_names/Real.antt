-- Items of C change nothing of what names mean of annotations.
use Rattle.std.proofs.Common.{◌≡◌, refl, sym, ap, ◌∙◌, ℕ, Bool, true, false, ◌&&◌, if◌then◌else◌, nat_eq, List, [], length, slice_get, Option, Some, None, Ok}
use Rattle.std.specs.Option.{option_or}
use Rattle.std.specs.Str.{bytes_eq}
use Rattle.vf_names.specs.Names.{number_of}
use Rattle.vf_declared.specs.declared.ctype.CType.{CType}
use Rattle.vf_declared.specs.declared.declaration.Meaning.{Meaning}
use Rattle.vf_declared.specs.declared.scope.Scope.{Scope}
use Rattle.vf_declared.specs.Scopes.{declaration_of, sees, tag_of}
use Rattle.vf_declared.specs.Writing.{with_struct_again}
use Rattle.vf_syntax.specs.declared.contract.Contract.{Contract}
use Rattle.vf_syntax.specs.declared.item.Body.{Body}
use Rattle.vf_syntax.specs.declared.item.Signature.{Signature as WrittenSignature}
use Rattle.vf_syntax.specs.declared.item.Typed.{Typed}
use Rattle.vf_syntax.specs.declared.written.Name.{Name}
use Rattle.vf_typing.specs.Refusals.{refused}
use Rattle.vf_asserting.specs.Cases.{ghost_number}
use Rattle.vf_walk.specs.declared.function.Head.{Head}
use Rattle.vf_walk.specs.Items.{again_in, declared_as, defined, fields_behind, fields_walked, function_number, listed, no_fields, no_locals, owner, parameters_walked, real_types, signature_walked, struct_, struct_found, struct_number, struct_walked, type_declared, type_named, type_signed, WalksBodyIf, WalksDefinition, WalksPrototype, WalksType, with_found}
use Rattle.vf_walk.specs.Meanings.{Meanings, no_meanings}
use Rattle.vf_walk.specs.Names.{has_types, is_new, may_be_stated}
use Rattle.vf_walk.specs.Walking.{behind, Only, Then}
use Rattle.vf_walk.specs.Walking as walking
use Rattle.vf_header_laws.specs.c_names.Items.{IsBetweenItems}
use Rattle.vf_header_laws.proofs.c_names.Files.{also, name_by, OfOneUnit, shown, tag_unit}
use Rattle.vf_header_laws.proofs.c_names.Functions.{definition_declares, prototype_declares, type_declares}
use Rattle.vf_header_laws.proofs.c_names.Functions as functions
use Rattle.vf_header_laws.proofs.c_names.Plain.{IsPlain, parameters_plain, plain}
use Rattle.vf_header_laws.proofs.c_names.Steps.{ok_same, refused_unless, through, went}
use Rattle.vf_header_laws.proofs.c_names.Structs.{struct_declares, whole_declares}
use Rattle.vf_header_laws.specs.ghost_names.Meaning.{ghost_at}
use Rattle.vf_header_laws.proofs.ghost_names.Growing.{Grows, or_first}
use Rattle.vf_header_laws.proofs.ghost_names.Rest.{KeepsPredicates}
use Rattle.vf_header_laws.proofs.ghost_names.Plain.{ArePlain, body_plain, body_stands, contract_plain, optional_plain}

-- what an item of C leaves as it is
pub record Keeps (s t : Scope) : Type 0 where
  pub names : (y : List ℕ) (from : ℕ) → ghost_at t y from ≡ ghost_at s y from
  pub grows : Grows s t
  pub between : IsBetweenItems t
  pub foreseen : KeepsPredicates s t

-- the numbers of what annotations declare stay as they are, and what is known of predicates
pub record KeepsNumbers (s t : Scope) : Type 0 where
  pub ghosts : t.ghosts ≡ s.ghosts
  pub datatypes : t.datatypes ≡ s.datatypes
  pub predicates : t.predicates ≡ s.predicates
  pub predicate_files : t.predicate_files ≡ s.predicate_files
  pub predicate_sorts : t.predicate_sorts ≡ s.predicate_sorts

numbers_both : {s t u : Scope} → KeepsNumbers s t → KeepsNumbers t u → KeepsNumbers s u
numbers_both h k = record { ghosts = k.ghosts ∙ h.ghosts; datatypes = k.datatypes ∙ h.datatypes; predicates = k.predicates ∙ h.predicates; predicate_files = k.predicate_files ∙ h.predicate_files; predicate_sorts = k.predicate_sorts ∙ h.predicate_sorts }

plain_numbers : {s t : Scope} → IsPlain s t → KeepsNumbers s t
plain_numbers h = record { ghosts = ap (λ (u : Scope). u.ghosts) h.is; datatypes = ap (λ (u : Scope). u.datatypes) h.is; predicates = ap (λ (u : Scope). u.predicates) h.is; predicate_files = ap (λ (u : Scope). u.predicate_files) h.is; predicate_sorts = ap (λ (u : Scope). u.predicate_sorts) h.is }

same_numbers : {s t : Scope} → t ≡ s → KeepsNumbers s t
same_numbers e = record { ghosts = ap (λ (u : Scope). u.ghosts) e; datatypes = ap (λ (u : Scope). u.datatypes) e; predicates = ap (λ (u : Scope). u.predicates) e; predicate_files = ap (λ (u : Scope). u.predicate_files) e; predicate_sorts = ap (λ (u : Scope). u.predicate_sorts) e }

kept : {s t : Scope} → OfOneUnit s t → ((y : List ℕ) (from : ℕ) → ghost_at t y from ≡ ghost_at s y from) → ((y : List ℕ) (from n : ℕ) → tag_of s y from ≡ Some n → tag_of t y from ≡ Some n) → KeepsNumbers s t → IsBetweenItems t → Keeps s t
kept u e t n b = record {
  names = e;
  grows = record {
    unit = u;
    names = λ y from k h. e y from ∙ h;
    tags = t;
    ghosts = λ k g h. ap (λ gs. slice_get gs k) n.ghosts ∙ h;
    datatypes = λ k x h. ap (λ xs. slice_get xs k) n.datatypes ∙ h;
  };
  between = b;
  foreseen = record { unit = u; predicates = n.predicates; predicate_files = n.predicate_files; predicate_sorts = n.predicate_sorts };
}

-- ---- functions and function types
-- a name of C is none of annotations
not_ghost : (m : Meaning) → ghost_number (Some m) ≡ None → (o : Option Meaning) (b : Bool) → ghost_number (option_or o (if b then Some m else None)) ≡ ghost_number o
not_ghost m e (Some x) b = refl
not_ghost m e None true = e
not_ghost m e None false = refl

named_keeps : {s t r : Scope} {x : List ℕ} {m : Meaning} {file : ℕ} → ghost_number (Some m) ≡ None → functions.DeclaresName x m file s r → shown t ≡ shown r → KeepsNumbers s t → t.locals ≡ no_locals → Keeps s t
named_keeps {s} {t} {r} {x} {m} {file} e d h n l =
    let unit : OfOneUnit s t = record { file = ap (λ (u : Scope). u.file) h ∙ d.unit.file; headers = ap (λ (u : Scope). u.headers) h ∙ d.unit.headers } in
    kept unit
    (λ y from. ap ghost_number (name_by r t y from h ∙ d.names y from) ∙ not_ghost m e (declaration_of s y from) (bytes_eq y x && sees s from file))
    (λ y from k i. tag_unit r t y from (record { file = ap (λ (u : Scope). u.file) h; headers = ap (λ (u : Scope). u.headers) h }) (ap (λ (u : Scope). u.tags) h) (ap (λ (u : Scope). u.structures) h) ∙ d.tags y from ∙ i)
    n
    (record {
      names = ap (λ (u : Scope). length u.names) h ∙ d.between.names ∙ sym (ap (λ (u : Scope). length u.declarations) h);
      tags = ap (λ (u : Scope). length u.tags) h ∙ d.between.tags ∙ sym (ap (λ (u : Scope). length u.structures) h);
      cleared = l;
    })

again_numbers : (file : ℕ) (o : Option ℕ) (s : Scope) → KeepsNumbers s (again_in file o s)
again_numbers file None s = record { ghosts = refl; datatypes = refl; predicates = refl; predicate_files = refl; predicate_sorts = refl }
again_numbers file (Some k) s = record { ghosts = refl; datatypes = refl; predicates = refl; predicate_files = refl; predicate_sorts = refl }

declared_numbers : {t : Scope} (n : Name) (c : CType) (o : Option ℕ) (s : Scope) → declared_as n c o s ≡ Ok t → KeepsNumbers s t
declared_numbers n c None s h = record { ghosts = sym (ap (λ (u : Scope). u.ghosts) (ok_same h)); datatypes = sym (ap (λ (u : Scope). u.datatypes) (ok_same h)); predicates = sym (ap (λ (u : Scope). u.predicates) (ok_same h)); predicate_files = sym (ap (λ (u : Scope). u.predicate_files) (ok_same h)); predicate_sorts = sym (ap (λ (u : Scope). u.predicate_sorts) (ok_same h)) }
declared_numbers n c (Some k) s h =
    let i = refused_unless (again_in n.place.file (number_of s.names n.text) s) (refused _ n.place) (has_types c (real_types s.locals.meanings) (slice_get s.functions k)) h in
    numbers_both (again_numbers n.place.file (number_of s.names n.text) s) (same_numbers i.is)

signature_numbers : {t : Scope} (g : WrittenSignature) (h : Head) (s : Scope) → signature_walked g h s ≡ Ok t → KeepsNumbers s t
signature_numbers g h s e =
    let k = through (declared_as g.name h.given h.earlier) (parameters_walked (listed g.parameters) s) e in
    numbers_both (plain_numbers (parameters_plain (listed g.parameters) s k.first)) (declared_numbers g.name h.given h.earlier k.at k.next)

type_numbers : {t : Scope} (g : WrittenSignature) (c : CType) (s : Scope) → type_declared g c s ≡ Ok t → KeepsNumbers s t
type_numbers g c s e =
    let k = through (type_signed c) (behind (parameters_walked (listed g.parameters)) (type_named g.name s)) e in
    let j = through (parameters_walked (listed g.parameters)) (type_named g.name s) k.first in
    let i = refused_unless _ (refused _ g.name.place) (is_new s g.name.text) j.first in
    numbers_both (record { ghosts = ap (λ (u : Scope). u.ghosts) i.is; datatypes = ap (λ (u : Scope). u.datatypes) i.is; predicates = ap (λ (u : Scope). u.predicates) i.is; predicate_files = ap (λ (u : Scope). u.predicate_files) i.is; predicate_sorts = ap (λ (u : Scope). u.predicate_sorts) i.is })
    (numbers_both (plain_numbers (parameters_plain (listed g.parameters) j.at j.next)) (record { ghosts = sym (ap (λ (u : Scope). u.ghosts) (ok_same k.next)); datatypes = sym (ap (λ (u : Scope). u.datatypes) (ok_same k.next)); predicates = sym (ap (λ (u : Scope). u.predicates) (ok_same k.next)); predicate_files = sym (ap (λ (u : Scope). u.predicate_files) (ok_same k.next)); predicate_sorts = sym (ap (λ (u : Scope). u.predicate_sorts) (ok_same k.next)) }))

-- a body without statements
emptied : Body → Body
emptied x = record x { statements = [] }

empty_body : (r : CType) (x : Body) (s : Scope) (b : Bool) → b ≡ true → WalksBodyIf b no_meanings r (emptied x) s (Ok s)
unfolding emptied
empty_body r x s true e = record { is = refl }
empty_body r x s false e = absurd cc

module _ (m : Meanings) (its : ArePlain m) where
  pub prototype_keeps : {t : Scope} (g : WrittenSignature) (c : Option Contract) (s : Scope) → IsBetweenItems s → WalksPrototype m g c s (Ok t) → Keeps s t
  prototype_keeps {t} g c s b h =
      let k = went h in
      let j = went k.next in
      let i = went j.first in
      let n = function_number s k.at.earlier in
      let bare : WalksPrototype no_meanings g None s (Ok _) = walking.goes k.first (walking.goes (walking.goes i.first (record { is = refl })) (record { is = refl })) in
      let d = prototype_declares g None s b bare in
      let same = optional_plain m its (owner g k.at.given false) c i.next in
      named_keeps refl d.name
      (sym (ap shown (ok_same j.next.is)) ∙ ap shown same.is)
      (numbers_both (signature_numbers g k.at s i.first.is) (numbers_both (plain_numbers same) (plain_numbers (record { is = sym (ap plain (ok_same j.next.is)) }))))
      (sym (ap (λ (u : Scope). u.locals) (ok_same j.next.is)))

  pub definition_keeps : {t : Scope} (g : WrittenSignature) (c : Option Contract) (x : Body) (s : Scope) → IsBetweenItems s → WalksDefinition m g c x s (Ok t) → Keeps s t
  definition_keeps {t} g c x s b h =
      let k = went h in
      let j = went k.next in
      let i = went j.first in
      let l = went i.first in
      let n = function_number s k.at.earlier in
      let w = through (defined n) (signature_walked g k.at s) l.first.is in
      let contract = contract_plain m its g k.at.given n c l.next in
      let stands : nat_eq g.name.place.file l.at.file ≡ true = ap (nat_eq g.name.place.file) (sym (ap (λ (u : Scope). u.file) contract.is)) ∙ body_stands m its i.at j.at (nat_eq g.name.place.file i.at.file) k.at.given x i.next in
      let bare : WalksDefinition no_meanings g None (emptied x) s (Ok _) = walking.goes k.first (walking.goes (walking.goes (walking.goes l.first (record { is = refl })) (empty_body k.at.given x l.at (nat_eq g.name.place.file l.at.file) stands)) (record { is = refl })) in
      let d = definition_declares g None (emptied x) s b bare in
      let body = body_plain m its (nat_eq g.name.place.file i.at.file) k.at.given x i.next in
      named_keeps refl d.name
      (sym (ap shown (ok_same j.next.is)) ∙ ap shown body.is ∙ ap shown contract.is)
      (numbers_both (signature_numbers g k.at s w.first) (numbers_both (plain_numbers (record { is = sym (ap plain (ok_same w.next)) })) (numbers_both (plain_numbers contract) (numbers_both (plain_numbers body) (plain_numbers (record { is = sym (ap plain (ok_same j.next.is)) }))))))
      (sym (ap (λ (u : Scope). u.locals) (ok_same j.next.is)))

  pub type_keeps : {t : Scope} (g : WrittenSignature) (c : Option Contract) (s : Scope) → IsBetweenItems s → WalksType m g c s (Ok t) → Keeps s t
  type_keeps {t} g c s b h =
      let k = went h in
      let j = went k.next in
      let i = went j.first in
      let bare : WalksType no_meanings g None s (Ok _) = walking.goes k.first (walking.goes (walking.goes i.first (record { is = refl })) (record { is = refl })) in
      let d = type_declares g None s b bare in
      let same = optional_plain m its (owner g k.at true) c i.next in
      named_keeps refl d.name
      (sym (ap shown (ok_same j.next.is)) ∙ ap shown same.is)
      (numbers_both (type_numbers g k.at s i.first.is) (numbers_both (plain_numbers same) (plain_numbers (record { is = sym (ap plain (ok_same j.next.is)) }))))
      (sym (ap (λ (u : Scope). u.locals) (ok_same j.next.is)))

-- ---- structs
struct_numbers : {t : Scope} (n : Name) (opaque : Bool) (o : Option ℕ) (s : Scope) → struct_found n opaque o s ≡ Ok t → KeepsNumbers s t
struct_numbers n opaque None s h = record { ghosts = sym (ap (λ (u : Scope). u.ghosts) (ok_same h)); datatypes = sym (ap (λ (u : Scope). u.datatypes) (ok_same h)); predicates = sym (ap (λ (u : Scope). u.predicates) (ok_same h)); predicate_files = sym (ap (λ (u : Scope). u.predicate_files) (ok_same h)); predicate_sorts = sym (ap (λ (u : Scope). u.predicate_sorts) (ok_same h)) }
struct_numbers n opaque (Some k) s h =
    let i = refused_unless (with_struct_again s k n.place.file opaque) (refused _ n.place) (may_be_stated s n.place.file opaque (slice_get s.structures k)) h in
    record { ghosts = ap (λ (u : Scope). u.ghosts) i.is; datatypes = ap (λ (u : Scope). u.datatypes) i.is; predicates = ap (λ (u : Scope). u.predicates) i.is; predicate_files = ap (λ (u : Scope). u.predicate_files) i.is; predicate_sorts = ap (λ (u : Scope). u.predicate_sorts) i.is }

pub struct_keeps : {t : Scope} (n : Name) (opaque : Bool) (s : Scope) → IsBetweenItems s → struct_ n opaque s ≡ Ok t → Keeps s t
struct_keeps n opaque s b h =
    let d = struct_declares n opaque s b h in
    kept d.keeps.unit (λ y from. ap ghost_number (d.keeps.names y from)) (λ y from k e. or_first (tag_of s y from) (also s from n.place.file y n.text d.number) _ (d.tags y from) e) (struct_numbers n opaque (number_of s.tags n.text) s h) d.between

whole_numbers : {t : Scope} (n : Name) (xs : List Typed) (s : Scope) → struct_walked n xs s ≡ Ok t → KeepsNumbers s t
whole_numbers n xs s h =
    let k = through (fields_walked n xs (struct_number s (number_of s.tags n.text))) (struct_ n false s) h in
    let j = through (with_found (struct_number s (number_of s.tags n.text)) k.at) (fields_behind k.at xs (no_fields n.place.file)) k.next in
    numbers_both (struct_numbers n false (number_of s.tags n.text) s k.first) (record { ghosts = sym (ap (λ (u : Scope). u.ghosts) (ok_same j.next)); datatypes = sym (ap (λ (u : Scope). u.datatypes) (ok_same j.next)); predicates = sym (ap (λ (u : Scope). u.predicates) (ok_same j.next)); predicate_files = sym (ap (λ (u : Scope). u.predicate_files) (ok_same j.next)); predicate_sorts = sym (ap (λ (u : Scope). u.predicate_sorts) (ok_same j.next)) })

pub whole_keeps : {t : Scope} (n : Name) (xs : List Typed) (s : Scope) → IsBetweenItems s → struct_walked n xs s ≡ Ok t → Keeps s t
whole_keeps n xs s b h =
    let d = whole_declares n xs s b h in
    let f = d.struct_first in
    let g = d.then_fields in
    kept (record { file = g.keeps.unit.file ∙ f.keeps.unit.file; headers = g.keeps.unit.headers ∙ f.keeps.unit.headers })
    (λ y from. ap ghost_number (g.keeps.names y from ∙ f.keeps.names y from))
    (λ y from k e. g.tags y from ∙ or_first (tag_of s y from) (also s from n.place.file y n.text f.number) _ (f.tags y from) e)
    (whole_numbers n xs s h)
    g.between
