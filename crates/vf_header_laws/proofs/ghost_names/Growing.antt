-- What names of annotations mean stays where more is declared.
use Rattle.std.proofs.Common.{◌≡◌, refl, sym, ap, ◌∙◌, ℕ, Bool, true, false, ◌&&◌, if◌then◌else◌, List, [], ◌∷◌, length, Option, Some, None, slice_get}
use Rattle.std.specs.Option.{option_or}
use Rattle.std.specs.Str.{bytes_eq}
use Rattle.vf_names.specs.Names.{number_of}
use Rattle.vf_sorts.specs.declared.sort.Head.{Head}
use Rattle.vf_sorts.specs.Sorts.{Sort, Sorts}
use Rattle.vf_declared.specs.declared.declaration.Datatype.{Datatype}
use Rattle.vf_declared.specs.declared.declaration.Declaration.{Declaration}
use Rattle.vf_declared.specs.declared.declaration.GhostDeclaration.{GhostDeclaration}
use Rattle.vf_declared.specs.declared.declaration.Meaning.{Meaning}
use Rattle.vf_declared.specs.declared.declaration.Meaning.TheVariants as meanings
use Rattle.vf_declared.specs.declared.scope.Scope.{Scope}
use Rattle.vf_declared.specs.Scopes.{at_index, at_name, datatype_of, declaration_of, declared_in, ghost_of, is_visible, sees, tag_of}
use Rattle.vf_declared.specs.Writing.{with_ghost, with_name, with_name_again}
use Rattle.vf_asserting.specs.Cases.{ghost_number}
use Rattle.vf_header_laws.specs.c_names.Same.{AreOneStruct, Each, done, next}
use Rattle.vf_header_laws.proofs.c_names.Effects.{name_again, name_behind}
use Rattle.vf_header_laws.proofs.c_names.Files.{also, name_unit, of_one, of_one_both, OfOneUnit, tag_unit}
use Rattle.vf_header_laws.proofs.c_names.Lists.{get_before, is_name, none_some, some_same}
use Rattle.vf_header_laws.specs.ghost_names.Meaning.{ghost_at, MeansDatatype}
use Rattle.vf_header_laws.specs.ghost_names.Same.{and_one, AreOneDatatype, AreOneGhost, AreOneHead, AreOneRow, AreOneSort, AreOneSorts, DeclareTheSame, HaveTheSameConstructors, no_more, over, StandForTheSame}
use Rattle.vf_header_laws.specs.ghost_names.Same as same
use Rattle.vf_header_laws.proofs.ghost_names.Rest.{IsRest, rest_datatype, rest_ghost, rest_name, rest_tag, rest_unit}

-- names and tags mean what they meant, and so do the numbers of what annotations declare
pub record Grows (s t : Scope) : Type 0 where
  pub unit : OfOneUnit s t
  pub names : (name : List ℕ) (from n : ℕ) → ghost_at s name from ≡ Some n → ghost_at t name from ≡ Some n
  pub tags : (tag : List ℕ) (from n : ℕ) → tag_of s tag from ≡ Some n → tag_of t tag from ≡ Some n
  pub ghosts : (n : ℕ) (g : GhostDeclaration) → ghost_of s n ≡ Some g → ghost_of t n ≡ Some g
  pub datatypes : (n : ℕ) (x : Datatype) → datatype_of s n ≡ Some x → datatype_of t n ≡ Some x

pub grows_itself : (s : Scope) → Grows s s
grows_itself s = record { unit = of_one s; names = λ y f n e. e; tags = λ y f n e. e; ghosts = λ n g e. e; datatypes = λ n x e. e }

pub grows_both : {s t u : Scope} → Grows s t → Grows t u → Grows s u
grows_both h k = record {
  unit = of_one_both h.unit k.unit;
  names = λ y f n e. k.names y f n (h.names y f n e);
  tags = λ y f n e. k.tags y f n (h.tags y f n e);
  ghosts = λ n g e. k.ghosts n g (h.ghosts n g e);
  datatypes = λ n x e. k.datatypes n x (h.datatypes n x e);
}

pub rest_grows : {s t : Scope} → IsRest s t → Grows s t
rest_grows h = record {
  unit = rest_unit h;
  names = λ y f n e. ap ghost_number (rest_name y f h) ∙ e;
  tags = λ y f n e. rest_tag y f h ∙ e;
  ghosts = λ n g e. rest_ghost n h ∙ e;
  datatypes = λ n x e. rest_datatype n h ∙ e;
}

-- more that annotations declare
pub ghost_grows : (s : Scope) (g : GhostDeclaration) → Grows s (with_ghost s g)
ghost_grows s g = record {
  unit = record { file = refl; headers = refl };
  names = λ y from k e. ap ghost_number (name_unit s (with_ghost s g) y from (record { file = refl; headers = refl }) refl refl) ∙ e;
  tags = λ y from k e. tag_unit s (with_ghost s g) y from (record { file = refl; headers = refl }) refl refl ∙ e;
  ghosts = λ k a e. get_before s.ghosts (g ∷ []) k a e;
  datatypes = λ k x e. e;
}

-- ---- a new name
or_nothing : {A : Type 0} (o : Option A) → option_or o None ≡ o
or_nothing None = refl
or_nothing (Some a) = refl

nothing_more : (k : ℕ) (o : Option Meaning) → ghost_number (option_or o None) ≡ option_or (ghost_number o) None
nothing_more k o = ap ghost_number (or_nothing o) ∙ sym (or_nothing (ghost_number o))

pub new_ghost : (s : Scope) (x : List ℕ) (k file : ℕ) (y : List ℕ) (from : ℕ) → length s.names ≡ length s.declarations → at_name s.names s.declarations x ≡ None → ghost_at (with_name s x (meanings.Ghost k) file) y from ≡ option_or (ghost_at s y from) (also s from file y x k)
new_ghost s x k file y from e n = ap ghost_number (name_behind s x (meanings.Ghost k) file y from e n) ∙ by_tests (bytes_eq y x) refl (sees s from file)
  where
    by_tests : (b : Bool) → bytes_eq y x ≡ b → (v : Bool) → ghost_number (option_or (declaration_of s y from) (if b && v then Some (meanings.Ghost k) else None)) ≡ option_or (ghost_number (declaration_of s y from)) (if b && v then Some k else None)
    by_tests true h true =
        let none : declaration_of s y from ≡ None = ap (declared_in s from) (ap (at_name s.names s.declarations) (is_name y x h) ∙ n) in
        ap (λ o. ghost_number (option_or o (Some (meanings.Ghost k)))) none ∙ sym (ap (λ o. option_or (ghost_number o) (Some k)) none)
    by_tests true h false = nothing_more k (declaration_of s y from)
    by_tests false h v = nothing_more k (declaration_of s y from)

-- ---- a name that is declared in one more file
pub again_ghost : (s : Scope) (x : List ℕ) (i : ℕ) (d : Declaration) (k file : ℕ) (y : List ℕ) (from : ℕ) → number_of s.names x ≡ Some i → at_name s.names s.declarations x ≡ Some d → d.meaning ≡ meanings.Ghost k → ghost_at (with_name_again s i file) y from ≡ option_or (ghost_at s y from) (also s from file y x k)
again_ghost s x i d k file y from e n m = ap ghost_number (name_again s x i d file y from e n) ∙ by_tests (bytes_eq y x) refl (sees s from file)
  where
    there : (v w : Bool) → ghost_number (option_or (if w then Some d.meaning else None) (if v then Some d.meaning else None)) ≡ option_or (ghost_number (if w then Some d.meaning else None)) (if v then Some k else None)
    there true true = ap (λ z. ghost_number (option_or (Some z) (Some z))) m ∙ sym (ap (λ z. option_or (ghost_number (Some z)) (Some k)) m)
    there true false = ap (λ z. ghost_number (Some z)) m
    there false w = nothing_more k (if w then Some d.meaning else None)

    by_tests : (b : Bool) → bytes_eq y x ≡ b → (v : Bool) → ghost_number (option_or (declaration_of s y from) (if b && v then Some d.meaning else None)) ≡ option_or (ghost_number (declaration_of s y from)) (if b && v then Some k else None)
    by_tests true h v =
        let is : declaration_of s y from ≡ declared_in s from (Some d) = ap (declared_in s from) (ap (at_name s.names s.declarations) (is_name y x h) ∙ n) in
        ap (λ o. ghost_number (option_or o (if v then Some d.meaning else None))) is ∙ there v (is_visible s from d.files) ∙ sym (ap (λ o. option_or (ghost_number o) (if v then Some k else None)) is)
    by_tests false h v = nothing_more k (declaration_of s y from)

-- the declaration of a name that means something of annotations where it stands
pub record IsGhostName (s : Scope) (x : List ℕ) (k : ℕ) : Type 0 where
  pub index : ℕ
  pub declaration : Declaration
  pub numbered : number_of s.names x ≡ Some index
  pub at : at_name s.names s.declarations x ≡ Some declaration
  pub means : declaration.meaning ≡ meanings.Ghost k

pub is_ghost_name : (s : Scope) (x : List ℕ) (from k : ℕ) → ghost_at s x from ≡ Some k → IsGhostName s x k
is_ghost_name s x from k e = by_number (number_of s.names x) refl e
  where
    is_ghost : (m : Meaning) (b : Bool) → ghost_number (if b then Some m else None) ≡ Some k → m ≡ meanings.Ghost k
    is_ghost (meanings.Ghost n) true h = ap meanings.Ghost (some_same h)
    is_ghost (meanings.Function n) true h = none_some h
    is_ghost (meanings.FunctionType n) true h = none_some h
    is_ghost m false h = none_some h

    by_declaration : (i : ℕ) → number_of s.names x ≡ Some i → (o : Option Declaration) → slice_get s.declarations i ≡ o → ghost_number (declared_in s from o) ≡ Some k → IsGhostName s x k
    by_declaration i h None g f = none_some f
    by_declaration i h (Some d) g f = record { index = i; declaration = d; numbered = h; at = ap (at_index s.declarations) h ∙ g; means = is_ghost d.meaning (is_visible s from d.files) f }

    by_number : (o : Option ℕ) → number_of s.names x ≡ o → ghost_number (declared_in s from (at_index s.declarations o)) ≡ Some k → IsGhostName s x k
    by_number None h f = none_some f
    by_number (Some i) h f = by_declaration i h (slice_get s.declarations i) refl f

-- ---- what is the same stays the same
pub or_first : {A : Type 0} {a : A} (o p q : Option A) → q ≡ option_or o p → o ≡ Some a → q ≡ Some a
or_first o p q e h = e ∙ ap (λ z. option_or z p) h

pub datatype_grows : {s t : Scope} {name : List ℕ} {from d : ℕ} → Grows s t → MeansDatatype s name from d → MeansDatatype t name from d
datatype_grows {name = name} {from} h m = record { number = m.number; means = h.names name from m.number m.means; is = h.ghosts m.number _ m.is }

module _ {header : ℕ} {s t u v : Scope} (h : Grows s u) (k : Grows t v) where
  pub one_datatype_grows : {n m : ℕ} → AreOneDatatype header s t n m → AreOneDatatype header u v n m
  one_datatype_grows r = record { name = r.name; first = datatype_grows h r.first; second = datatype_grows k r.second }

  pub one_ghost_grows : {n m : ℕ} → AreOneGhost header s t n m → AreOneGhost header u v n m
  one_ghost_grows r = record { name = r.name; first = h.names r.name header _ r.first; second = k.names r.name header _ r.second }

  one_struct_grows : {n m : ℕ} → AreOneStruct header s t n m → AreOneStruct header u v n m
  one_struct_grows r = record { tag = r.tag; first = h.tags r.tag header _ r.first; second = k.tags r.tag header _ r.second }

  head_grows : {a b : Head} → AreOneHead header s t a b → AreOneHead header u v a b
  head_grows same.int = same.int
  head_grows same.bool = same.bool
  head_grows same.pointer = same.pointer
  head_grows (same.struct_pointer r) = same.struct_pointer (one_struct_grows r)
  head_grows same.real = same.real
  head_grows same.any = same.any
  head_grows same.parameter = same.parameter
  head_grows (same.datatype r) = same.datatype (one_datatype_grows r)
  head_grows same.predicate = same.predicate

mutual
  pub sort_grows : {header : ℕ} {s t u v : Scope} {a b : Sort} → Grows s u → Grows t v → AreOneSort header s t a b → AreOneSort header u v a b
  sort_grows h k (over r rs) = over (head_grows h k r) (row_grows h k rs)

  row_grows : {header : ℕ} {s t u v : Scope} {ts us : Sorts} → Grows s u → Grows t v → AreOneRow header s t ts us → AreOneRow header u v ts us
  row_grows h k no_more = no_more
  row_grows h k (and_one r rs) = and_one (sort_grows h k r) (row_grows h k rs)

pub sorts_grow : {header : ℕ} {s t u v : Scope} {ts us : List Sort} → Grows s u → Grows t v → AreOneSorts header s t ts us → AreOneSorts header u v ts us
sorts_grow h k done = done
sorts_grow h k (next r rs) = next (sort_grows h k r) (sorts_grow h k rs)

ghosts_grow : {header : ℕ} {s t u v : Scope} {ns ms : List ℕ} → Grows s u → Grows t v → Each (AreOneGhost header s t) ns ms → Each (AreOneGhost header u v) ns ms
ghosts_grow h k done = done
ghosts_grow h k (next r rs) = next (one_ghost_grows h k r) (ghosts_grow h k rs)

pub constructors_grow : {header : ℕ} {s t u v : Scope} {x y : Datatype} → Grows s u → Grows t v → HaveTheSameConstructors header s t x y → HaveTheSameConstructors header u v x y
constructors_grow h k r = record { parameters = r.parameters; constructors = ghosts_grow h k r.constructors }

pub declaration_grows : {header : ℕ} {s t u v : Scope} {f g : GhostDeclaration} → Grows s u → Grows t v → DeclareTheSame header s t f g → DeclareTheSame header u v f g
declaration_grows h k (same.datatypes {x = x} {y = y} a b r) = same.datatypes (h.datatypes _ x a) (k.datatypes _ y b) (constructors_grow h k r)
declaration_grows h k (same.constructors a r) = same.constructors (one_datatype_grows h k a) (sorts_grow h k r)
declaration_grows h k (same.fixpoints e r a) = same.fixpoints e (sorts_grow h k r) (sort_grows h k a)
declaration_grows h k (same.predicates r) = same.predicates (sorts_grow h k r)
declaration_grows h k (same.families a r) = same.families (sort_grows h k a) (sorts_grow h k r)
declaration_grows h k (same.predicate_constructors q r) = same.predicate_constructors (sorts_grow h k q) (sorts_grow h k r)
declaration_grows h k (same.lemmas e r) = same.lemmas e (sorts_grow h k r)

pub stand_grow : {header : ℕ} {s t u v : Scope} {n m : ℕ} → Grows s u → Grows t v → StandForTheSame header s t n m → StandForTheSame header u v n m
stand_grow {n = n} {m} h k r = record {
  first = r.first;
  second = r.second;
  at_first = h.ghosts n r.first r.at_first;
  at_second = k.ghosts m r.second r.at_second;
  same = declaration_grows h k r.same;
}
