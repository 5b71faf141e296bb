-- Items of a header that are accepted in one unit go on in another, unless a name clashes.
use Rattle.std.proofs.Common.{◌≡◌, ℕ, Bool, true, false, ◌&&◌, if◌then◌else◌, nat_eq, List, [], ◌∷◌, length, is_some, Option, Some, None, Result, Ok, Err, slice_get, refl, sym, ap, subst, ◌∙◌}
use Rattle.std.specs.List.{list_all}
use Rattle.std.proofs.lemmas.Bool.{and_parts, false≢true}
use Rattle.vf_base.specs.declared.refusal.Refusal.{Refusal}
use Rattle.vf_base.specs.declared.rule.Rule.TheVariants as rules
use Rattle.vf_names.specs.Names.{number_of}
use Rattle.vf_declared.specs.declared.ctype.CType.{CType}
use Rattle.vf_declared.specs.declared.declaration.Declaration.{Declaration}
use Rattle.vf_declared.specs.declared.declaration.Fields.{Fields}
use Rattle.vf_declared.specs.declared.declaration.Meaning.TheVariants as meanings
use Rattle.vf_declared.specs.declared.scope.Scope.{Scope}
use Rattle.vf_declared.specs.Scopes.{at_name}
use Rattle.vf_declared.specs.Writing.{with_name}
use Rattle.vf_syntax.specs.declared.contract.Contract.{Contract}
use Rattle.vf_syntax.specs.declared.item.Body.{Body}
use Rattle.vf_syntax.specs.declared.item.Item.TheVariants as items
use Rattle.vf_syntax.specs.declared.item.Signature.{Signature as WrittenSignature}
use Rattle.vf_syntax.specs.declared.item.Typed.{Typed}
use Rattle.vf_syntax.specs.declared.written.CType.{CType as WrittenType}
use Rattle.vf_syntax.specs.declared.written.Name.{Name}
use Rattle.vf_syntax.specs.declared.written.ResultType.{ResultType}
use Rattle.vf_syntax.specs.declared.written.ResultType.TheVariants as results
use Rattle.vf_typing.specs.Names.{written_type}
use Rattle.vf_typing.specs.Refusals.{refused}
use Rattle.vf_typing.specs.Types.{is_int}
use Rattle.vf_walk.specs.declared.annotations.Owner.{Owner}
use Rattle.vf_walk.specs.declared.function.Head.{Head}
use Rattle.vf_walk.specs.Items.{again_in, declared_as, defined, field_walked, fields_behind, fields_walked, function_number, head, head_giving, head_of, is_empty, is_main, listed, main_is_right, no_fields, owner, parameters_walked, real_types, result_type, signature_walked, struct_, struct_found, struct_number, struct_walked, type_named, type_signed, WalksBodyIf, WalksDefinition, WalksPrototype, WalksType, with_field, with_found}
use Rattle.vf_walk.specs.Meanings.{no_meanings}
use Rattle.vf_walk.specs.Names.{earlier, earlier_in, extended, extends, has_types, is_new, is_taken, may_be_stated}
use Rattle.vf_walk.specs.Statements.{variable, with_variable}
use Rattle.vf_walk.specs.Walking.{behind, Only, Optional, Then, Walked}
use Rattle.vf_walk.specs.Walking as walking
use Rattle.vf_header_laws.specs.c_names.Parts.{is_part_of}
use Rattle.vf_header_laws.specs.c_names.Same.{AreOneType, ConsistsOfHeaders, ShowTheSame}
use Rattle.vf_header_laws.specs.c_names.Same as same
use Rattle.vf_header_laws.specs.c_names.Types.{Agree, files_of_type, found, StandsWithin}
use Rattle.vf_header_laws.specs.c_names.Types as types
use Rattle.vf_header_laws.specs.c_names.Items.{files_of_result, files_of_typed, IsBetweenItems}
use Rattle.vf_header_laws.specs.c_names.Clashes.{clashes, goes, GoesUnlessNamed, ItemsInsideClashAlone}
use Rattle.vf_header_laws.proofs.c_names.Alike.{all_both, plain_named, plain_shown, results_alike}
use Rattle.vf_header_laws.proofs.c_names.Elsewhere.{consists_same}
use Rattle.vf_header_laws.proofs.c_names.Files.{OfOneUnit, unit_by}
use Rattle.vf_header_laws.proofs.c_names.Functions.{DeclaresName, definition_contract, named, new_undeclared, type_declares}
use Rattle.vf_header_laws.proofs.c_names.Inside.{kinds_named, SignatureWithin, within_same, within_signature}
use Rattle.vf_header_laws.proofs.c_names.InsideStructs.{structs_show}
use Rattle.vf_header_laws.proofs.c_names.Plain.{IsPlain, one_plain, parameters_plain}
use Rattle.vf_header_laws.proofs.c_names.Steps.{apart, ok_same, refused_unless, through, went}
use Rattle.vf_header_laws.proofs.c_names.Structs.{struct_declares, whole_declares}
use Rattle.vf_header_laws.proofs.c_names.Types.{named_same, NameTheSame, types_agree}
use Rattle.vf_header_laws.proofs.c_names.Types as kinds

-- ---- going on
goes_where : {A : Type 0} {a : A} (r : Result A Refusal) → r ≡ Ok a → GoesUnlessNamed r
goes_where (Ok b) e = goes
goes_where (Err x) e = absurd (apart e)

goes_behind : {A B : Type 0} (f : A → Result B Refusal) (r : Result A Refusal) → GoesUnlessNamed r → ((a : A) → r ≡ Ok a → GoesUnlessNamed (f a)) → GoesUnlessNamed (behind f r)
goes_behind f (Ok a) g k = k a refl
goes_behind f (Err x) (clashes e) k = clashes e

goes_then : {A B : Type 0} {P : Result A Refusal → Type 0} {Q : A → Result B Refusal → Type 0} {w : Result B Refusal} → ((r : Result A Refusal) → P r → GoesUnlessNamed r) → ((a : A) → P (Ok a) → (v : Result B Refusal) → Q a v → GoesUnlessNamed v) → Then P Q w → GoesUnlessNamed w
goes_then f g (walking.stops {x} h) = by_refusal x (f (Err x) h)
  where
    by_refusal : {A B : Type 0} (x : Refusal) → GoesUnlessNamed {A = A} (Err x) → GoesUnlessNamed {A = B} (Err x)
    by_refusal x (clashes e) = clashes e
goes_then f g (walking.goes {a = a} {w = w} h k) = g a h w k

goes_only : {A : Type 0} {found w : Result A Refusal} → GoesUnlessNamed found → Only found w → GoesUnlessNamed w
goes_only g h = subst GoesUnlessNamed h.is g

goes_if : {A : Type 0} (b : Bool) (a : A) (n : Name) → GoesUnlessNamed (if b then Ok a else Err (refused rules.Name n.place))
goes_if true a n = goes
goes_if false a n = clashes refl

goes_if_not : {A : Type 0} (b : Bool) (a : A) (n : Name) → GoesUnlessNamed (if b then Err (refused rules.Name n.place) else Ok a)
goes_if_not true a n = clashes refl
goes_if_not false a n = goes

goes_contract : {w : Walked} (s : Scope) (o : Owner) (c : Option Contract) → Optional (no_meanings.contract o) c s w → GoesUnlessNamed w
goes_contract s o None h = goes_only goes h
goes_contract s o (Some c) h = goes_only goes h

goes_alike : {A B : Type 0} {R : A → B → Type 0} {a : A} (q : Result A Refusal) (r : Result B Refusal) → q ≡ Ok a → Agree R q r → GoesUnlessNamed r
goes_alike q r e (found k) = goes
goes_alike q r e types.refused = absurd (apart e)

-- ---- names
struct_goes : (n : Name) (opaque : Bool) (t : Scope) → GoesUnlessNamed (struct_ n opaque t)
struct_goes n opaque t = by_number (number_of t.tags n.text)
  where
    by_number : (o : Option ℕ) → GoesUnlessNamed (struct_found n opaque o t)
    by_number None = goes
    by_number (Some k) = goes_if (may_be_stated t n.place.file opaque (slice_get t.structures k)) _ n

earlier_goes : (t : Scope) (n : Name) (body : Bool) → GoesUnlessNamed (earlier t n body)
earlier_goes t n body = by_taken (is_taken t n.text)
  where
    by_number : (o : Option ℕ) → GoesUnlessNamed (extends n o)
    by_number None = clashes refl
    by_number (Some k) = goes

    by_declaration : (o : Option Declaration) → GoesUnlessNamed (earlier_in t n body o)
    by_declaration None = goes
    by_declaration (Some d) = by_number (extended t n.place.file body d)

    by_taken : (b : Bool) → GoesUnlessNamed (if b then Err (refused rules.Name n.place) else earlier_in t n body (at_name t.names t.declarations n.text))
    by_taken true = clashes refl
    by_taken false = by_declaration (at_name t.names t.declarations n.text)

-- ---- types
module _ (header : ℕ) (s t : Scope) (c : ConsistsOfHeaders s header) (d : ConsistsOfHeaders t header) (h : NameTheSame header s t) where
  written_goes : {a : CType} (w : WrittenType) → StandsWithin s header (files_of_type w) → written_type s w ≡ Ok a → GoesUnlessNamed (written_type t w)
  written_goes w i e = goes_alike (written_type s w) (written_type t w) e (types_agree header s t c d h w i)

  result_goes : {a : CType} (r : ResultType) → StandsWithin s header (files_of_result r) → result_type s r ≡ Ok a → GoesUnlessNamed (result_type t r)
  result_goes (results.Void p) i e = goes
  result_goes (results.Value w) i e = written_goes w i e

  fields_go : {fs : Fields} (xs : List Typed) (ps qs : Fields) → StandsWithin s header (files_of_typed xs) → fields_behind s xs ps ≡ Ok fs → GoesUnlessNamed (fields_behind t xs qs)
  fields_go [] ps qs i e = goes
  fields_go (x ∷ xs) ps qs i e =
      let parts = all_both (is_part_of s header) (files_of_type x.written) (files_of_typed xs) i in
      let a = through (fields_behind s xs) (field_walked s x ps) e in
      let y = through (λ u. with_field x u ps) (written_type s x.written) a.first in
      goes_behind (fields_behind t xs) (field_walked t x qs)
      (goes_behind (λ u. with_field x u qs) (written_type t x.written) (written_goes x.written parts.0 y.first) (λ u k. goes_if_not (is_some (number_of qs.names x.name.text)) _ x.name))
      (λ b k. fields_go xs a.at b parts.1 a.next)

parameters_go : {u : Scope} (header : ℕ) (s t : Scope) → ConsistsOfHeaders s header → ConsistsOfHeaders t header → NameTheSame header s t → (ps : List Typed) → StandsWithin s header (files_of_typed ps) → parameters_walked ps s ≡ Ok u → GoesUnlessNamed (parameters_walked ps t)
parameters_go header s t c d h [] i e = goes
parameters_go header s t c d h (p ∷ ps) i e =
    let parts = all_both (is_part_of s header) (files_of_type p.written) (files_of_typed ps) i in
    let a = through (parameters_walked ps) (variable p.name p.written s) e in
    let y = through (λ x. with_variable p.name x s) (written_type s p.written) a.first in
    let first : IsPlain s a.at = one_plain p.name p.written a.first in
    let unit : OfOneUnit s a.at = unit_by s a.at (plain_shown first) in
    goes_behind (parameters_walked ps) (variable p.name p.written t)
    (goes_behind (λ x. with_variable p.name x t) (written_type t p.written) (written_goes header s t c d h p.written parts.0 y.first) (λ x k. goes_if_not (is_some (number_of t.locals.names p.name.text)) _ p.name))
    (λ b k.
    let second : IsPlain t b = one_plain p.name p.written k in
    parameters_go header a.at b (consists_same unit c) (consists_same (unit_by t b (plain_shown second)) d) (plain_named first second h) ps (within_same header (files_of_typed ps) unit parts.1) a.next)

-- ---- structs
whole_goes : {u : Scope} (header : ℕ) (n : Name) (xs : List Typed) (s t : Scope) → ConsistsOfHeaders s header → ConsistsOfHeaders t header → IsBetweenItems s → IsBetweenItems t → is_part_of s header n.place.file ≡ true → StandsWithin s header (files_of_typed xs) → ShowTheSame header s t → struct_walked n xs s ≡ Ok u → GoesUnlessNamed (struct_walked n xs t)
whole_goes header n xs s t c d a b w p h e =
    let i = whole_declares n xs s a e in
    let number = struct_number t (number_of t.tags n.text) in
    goes_behind (fields_walked n xs number) (struct_ n false t) (struct_goes n false t) (λ v k.
    let j = struct_declares n false t b k in
    let first = structs_show header n false c d h w i.struct_first j in
    goes_behind (with_found number v) (fields_behind v xs (no_fields n.place.file))
    (fields_go header i.at v (consists_same i.struct_first.keeps.unit c) (consists_same j.keeps.unit d) (named_same first) xs (no_fields n.place.file) (no_fields n.place.file) (within_same header (files_of_typed xs) i.struct_first.keeps.unit p) i.walked)
    (λ fs q. goes))

-- ---- functions and function types
same_int : {header : ℕ} {s t : Scope} {a b : CType} → AreOneType header s t a b → is_int b ≡ is_int a
same_int same.void = refl
same_int same.integer = refl
same_int same.void_pointer = refl
same_int same.int_pointer = refl
same_int (same.struct_pointer x) = refl
same_int (same.function_pointer x) = refl
same_int (same.function x) = refl

module _ (header : ℕ) (g : WrittenSignature) (s t : Scope) (c : ConsistsOfHeaders s header) (d : ConsistsOfHeaders t header) (a : IsBetweenItems s) (b : IsBetweenItems t) (h : ShowTheSame header s t) (w : SignatureWithin s header g) where
  head_goes : {k : Head} (body : Bool) → head s g body ≡ Ok k → GoesUnlessNamed (head t g body)
  head_goes body e =
      let i = through (head_giving s g body) (result_type s g.«result») e in
      let j = through (head_of i.at g) (earlier s g.name body) i.next in
      let right = (refused_unless (record { given = i.at; earlier = j.at }) (refused rules.Typing g.name.place) (main_is_right i.at g) j.next).holds in
      goes_behind (head_giving t g body) (result_type t g.«result») (result_goes header s t c d (named_same h) g.«result» w.gives i.first) (λ r k.
      goes_behind (head_of r g) (earlier t g.name body) (earlier_goes t g.name body) (λ o q.
      main_goes r o (ap (λ v. if is_main g.name.text then v && is_empty (listed g.parameters) else true) (same_int (results_alike header s t c d (named_same h) g.«result» w.gives i.first k)) ∙ right)))
    where
      main_goes : (r : CType) (o : Option ℕ) → main_is_right r g ≡ true → GoesUnlessNamed (head_of r g o)
      main_goes r o e = subst (λ v. GoesUnlessNamed {A = Head} (if v then Ok (record { given = r; earlier = o }) else Err (refused rules.Typing g.name.place))) (sym e) goes

  declared_goes : (k : Head) (v : Scope) → GoesUnlessNamed (declared_as g.name k.given k.earlier v)
  declared_goes k v = by_earlier k.earlier
    where
      by_earlier : (o : Option ℕ) → GoesUnlessNamed (declared_as g.name k.given o v)
      by_earlier None = goes
      by_earlier (Some n) = goes_if (has_types k.given (real_types v.locals.meanings) (slice_get v.functions n)) _ g.name

  prototype_goes : {u : Scope} {v : Walked} (x : Option Contract) → WalksPrototype no_meanings g x s (Ok u) → WalksPrototype no_meanings g x t v → GoesUnlessNamed v
  prototype_goes x e i =
      let k = went e in
      let j = went k.next in
      let l = went j.first in
      let q = through (declared_as g.name k.at.given k.at.earlier) (parameters_walked (listed g.parameters) s) l.first.is in
      goes_then (λ r o. goes_only (head_goes false k.first.is) o) (λ m o y p.
      goes_then (λ r z. goes_then (λ r₁ z₁. goes_only (goes_behind (declared_as g.name m.given m.earlier) (parameters_walked (listed g.parameters) t) (parameters_go header s t c d (named_same h) (listed g.parameters) w.takes q.first) (λ f f₁. declared_goes m f)) z₁) (λ f f₁ r₁ z₁. goes_contract f (owner g m.given false) x z₁) z)
      (λ f f₁ r z. goes_only goes z) p) i

  type_goes : {u : Scope} {v : Walked} (x : Option Contract) → WalksType no_meanings g x s (Ok u) → WalksType no_meanings g x t v → GoesUnlessNamed v
  type_goes x e i =
      let k = type_declares g x s a e in
      let name = g.name.text in
      let file = g.name.place.file in
      let s₁ = with_name s name (meanings.FunctionType k.number) file in
      let first : DeclaresName name (meanings.FunctionType k.number) file s s₁ = named s name (meanings.FunctionType k.number) file a k.undeclared refl (λ n f e. e) (λ n f e. e) a.cleared in
      goes_then (λ r o. goes_only (result_goes header s t c d (named_same h) g.«result» w.gives k.gives) o) (λ m o y p.
      goes_then (λ r z. goes_then (λ r₁ z₁. goes_only (goes_behind (type_signed m) (behind (parameters_walked (listed g.parameters)) (type_named g.name t))
      (goes_behind (parameters_walked (listed g.parameters)) (type_named g.name t) (goes_if (is_new t name) _ g.name) (λ f f₁. by_named k.number s₁ first k.takes f f₁)) (λ f f₁. goes)) z₁) (λ f f₁ r₁ z₁. goes_contract f (owner g m true) x z₁) z)
      (λ f f₁ r z. goes_only goes z) p) i
    where
      by_named : {l : Scope} (n : ℕ) (s₁ : Scope) → DeclaresName g.name.text (meanings.FunctionType n) g.name.place.file s s₁ → parameters_walked (listed g.parameters) s₁ ≡ Ok l → (f : Scope) → type_named g.name t ≡ Ok f → GoesUnlessNamed (parameters_walked (listed g.parameters) f)
      by_named n s₁ first takes f e =
          let m = meanings.FunctionType (length t.function_types) in
          let fresh = refused_unless (with_name t g.name.text m g.name.place.file) (refused rules.Name g.name.place) (is_new t g.name.text) e in
          let second : DeclaresName g.name.text m g.name.place.file t (with_name t g.name.text m g.name.place.file) = named t g.name.text m g.name.place.file b (new_undeclared t g.name.text fresh.holds) refl (λ n f e. e) (λ n f e. e) b.cleared in
          subst (λ (z : Scope). GoesUnlessNamed (parameters_walked (listed g.parameters) z)) (sym fresh.is)
          (parameters_go header s₁ (with_name t g.name.text m g.name.place.file) (consists_same first.unit c) (consists_same second.unit d) (kinds_named c d first second kinds.function_types (named_same h)) (listed g.parameters) (within_same header (files_of_typed (listed g.parameters)) first.unit w.takes) takes)

-- no function has its body in a header
no_body : {u : Scope} {A : Type 0} (header : ℕ) (g : WrittenSignature) (x : Option Contract) (y : Body) (s : Scope) → ConsistsOfHeaders s header → is_part_of s header g.name.place.file ≡ true → WalksDefinition no_meanings g x y s (Ok u) → A
no_body {A = A} header g x y s c w h =
    let k = went h in
    let j = went k.next in
    let i = went j.first in
    let l = went i.first in
    let n = function_number s k.at.earlier in
    let v = through (defined n) (signature_walked g k.at s) l.first.is in
    let q = through (declared_as g.name k.at.given k.at.earlier) (parameters_walked (listed g.parameters) s) v.first in
    let same : i.at.file ≡ s.file = ap (λ (z : Scope). z.file) (definition_contract g k.at.given n x l.next) ∙ sym (ap (λ (z : Scope). z.file) (ok_same v.next)) ∙ declared_file g k.at.given k.at.earlier q.at q.next ∙ ap (λ (z : Scope). z.file) (parameters_plain (listed g.parameters) s q.first).is in
    absurd (body_nowhere i.at j.at (nat_eq g.name.place.file i.at.file) (ap (nat_eq g.name.place.file) same ∙ c.headers g.name.place.file w) k.at.given y i.next)
  where
    body_nowhere : (s t : Scope) (b : Bool) → b ≡ false → (r : CType) (y : Body) → WalksBodyIf b no_meanings r y s (Ok t) → ⊥
    body_nowhere s t true e r y h = false≢true (sym e)
    body_nowhere s t false e r y h = apart h.is

    again_file : (file : ℕ) (o : Option ℕ) (v : Scope) → (again_in file o v).file ≡ v.file
    again_file file None v = refl
    again_file file (Some k) v = refl

    declared_file : {t : Scope} (g : WrittenSignature) (r : CType) (o : Option ℕ) (v : Scope) → declared_as g.name r o v ≡ Ok t → t.file ≡ v.file
    declared_file g r None v h = sym (ap (λ (z : Scope). z.file) (ok_same h))
    declared_file g r (Some k) v h =
        let is = refused_unless (again_in g.name.place.file (number_of v.names g.name.text) v) (refused rules.Name g.name.place) (has_types r (real_types v.locals.meanings) (slice_get v.functions k)) h in
        ap (λ (z : Scope). z.file) is.is ∙ again_file g.name.place.file (number_of v.names g.name.text) v

-- ---- items
pub items_inside_clash_alone : ItemsInsideClashAlone
items_inside_clash_alone header (items.Opaque p n) s t u w c d a b i h e k = goes_only (struct_goes n true t) k
items_inside_clash_alone header (items.Struct p n xs) s t u w c d a b i h e k =
    let j = and_parts (is_part_of s header n.place.file) (list_all (is_part_of s header) (files_of_typed xs)) i in
    goes_only (whole_goes header n xs s t c d a b j.0 j.1 h e.is) k
items_inside_clash_alone header (items.FunctionType p g x) s t u w c d a b i h e k = type_goes header g s t c d a b h (within_signature s header g i) x e k
items_inside_clash_alone header (items.Prototype g q x) s t u w c d a b i h e k = prototype_goes header g s t c d a b h (within_signature s header g i) x e k
items_inside_clash_alone header (items.Function g q x y) s t u w c d a b i h e k = no_body header g x y s c (within_signature s header g i).name e
items_inside_clash_alone header (items.Ghost g) s t u w c d a b i h e k = goes_only goes k
