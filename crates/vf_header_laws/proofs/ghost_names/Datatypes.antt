-- Datatypes that stand in a header, and are accepted in two units, are the same in both.
use Rattle.std.proofs.Common.{◌≡◌, refl, sym, ap, subst, ◌∙◌, ℕ, ◌+◌, true, List, [], ◌∷◌, ◌++◌, length, drop, append_assoc, append-nil, length-append, Some, slice_get, Ok}
use Rattle.std.specs.List.{list_all}
use Rattle.std.proofs.lemmas.Bool.{and_parts}
use Rattle.vf_base.specs.declared.rule.Rule.TheVariants as rules
use Rattle.vf_sorts.specs.Sorts.{Sort}
use Rattle.vf_declared.specs.declared.declaration.Datatype.{Datatype}
use Rattle.vf_declared.specs.declared.declaration.GhostDeclaration.{GhostDeclaration}
use Rattle.vf_declared.specs.declared.declaration.GhostDeclaration.TheVariants as ghosts
use Rattle.vf_declared.specs.declared.scope.Scope.{Scope}
use Rattle.vf_declared.specs.Scopes.{datatype_of, ghost_of, sees}
use Rattle.vf_declared.specs.Writing.{with_ghost}
use Rattle.vf_syntax.specs.declared.item.Constructor.{Constructor}
use Rattle.vf_syntax.specs.declared.written.Name.{Name}
use Rattle.vf_sorting.specs.Refusals.{refused}
use Rattle.vf_asserting.specs.Cases.{ghost_number}
use Rattle.vf_datatypes.specs.declared.own.Own.{Own}
use Rattle.vf_datatypes.specs.declared.stated.Stated.{Stated}
use Rattle.vf_datatypes.specs.Arguments.{sorts_within}
use Rattle.vf_datatypes.specs.Datatypes.{begun, body_behind, complete, constructor_behind, constructors_behind, datatype_behind, numbers_from, own, with_constructor, with_next}
use Rattle.vf_datatypes.specs.Datatypes as datatypes
use Rattle.vf_datatypes.specs.Inhabited.{is_inhabited}
use Rattle.vf_datatypes.specs.NewNames.{name_refusal}
use Rattle.vf_datatypes.specs.NewNames as names
use Rattle.vf_datatypes.specs.Walking.{behind}
use Rattle.vf_header_laws.specs.c_names.Parts.{is_part_of}
use Rattle.vf_header_laws.specs.c_names.Same.{ConsistsOfHeaders, done, Each, next}
use Rattle.vf_header_laws.proofs.c_names.Alike.{all_both}
use Rattle.vf_header_laws.proofs.c_names.Files.{name_unit, tag_unit}
use Rattle.vf_header_laws.proofs.c_names.Growing.{both_at}
use Rattle.vf_header_laws.proofs.c_names.Lists.{get_before, get_end}
use Rattle.vf_header_laws.proofs.c_names.Seeing.{sees_parts}
use Rattle.vf_header_laws.proofs.c_names.Steps.{ok_same, refused_unless}
use Rattle.vf_header_laws.proofs.c_names.Types.{part_itself}
use Rattle.vf_header_laws.specs.ghost_names.Items.{files_of_constructors, files_of_names, files_within, names_of_constructors}
use Rattle.vf_header_laws.specs.ghost_names.Meaning.{ghost_at, MeansDatatype}
use Rattle.vf_header_laws.specs.ghost_names.Same.{AreOneGhost, AreOneSorts, StandForTheSame}
use Rattle.vf_header_laws.specs.ghost_names.Same as same
use Rattle.vf_header_laws.proofs.ghost_names.Declaring.{DeclaresNew, fresh, new_adds, new_at, new_means}
use Rattle.vf_header_laws.proofs.ghost_names.Growing.{datatype_grows, ghost_grows, Grows, grows_both, grows_itself, one_ghost_grows, sorts_grow}
use Rattle.vf_header_laws.proofs.ghost_names.Rest.{rest_itself, rest_same}
use Rattle.vf_header_laws.proofs.ghost_names.Sorts.{within_alike}
use Rattle.vf_header_laws.proofs.ghost_names.Two.{AreTwo, names_agree, NamesAgree, part_both, two_grow, within_grows}
use Rattle.vf_header_laws.proofs.ghost_names.Walks.{parameters_alike, through, unrefused}

-- ---- one unit
-- a constructor is a new name, with arguments of sorts that are read behind it
pub record IsStep (d : Stated) (o : Own) (c : Constructor) (s t : Scope) : Type 0 where
  pub sorts : List Sort
  pub declares : DeclaresNew c.name (ghosts.Constructor (record { datatype = o.number; arguments = sorts })) s t
  pub is : t ≡ with_ghost (with_next s c.name) (ghosts.Constructor (record { datatype = o.number; arguments = sorts }))
  pub reads : sorts_within (with_next s c.name) d o c.arguments ≡ Ok sorts

pub step : {t : Scope} (d : Stated) (o : Own) (c : Constructor) (s : Scope) → constructor_behind d o c s ≡ Ok t → IsStep d o c s t
step d o c s h =
    let i = unrefused (name_refusal s c.name) (behind (with_constructor o.number (with_next s c.name)) (sorts_within (with_next s c.name) d o c.arguments)) h in
    let j = through (with_constructor o.number (with_next s c.name)) (sorts_within (with_next s c.name) d o c.arguments) i.gives in
    record {
      sorts = j.at;
      declares = record { fresh = fresh s c.name i.none; is = rest_same (sym (ok_same j.next)) };
      is = sym (ok_same j.next);
      reads = j.first;
    }

-- one more datatype
abbrev pub with_datatype : Scope → Datatype → Scope
with_datatype s x = record s { datatypes = s.datatypes ++ x ∷ [] }

pub datatype_names : (s : Scope) (x : Datatype) (y : List ℕ) (from : ℕ) → ghost_at (with_datatype s x) y from ≡ ghost_at s y from
datatype_names s x y from = ap ghost_number (name_unit s (with_datatype s x) y from (record { file = refl; headers = refl }) refl refl)

pub datatype_more : (s : Scope) (x : Datatype) → Grows s (with_datatype s x)
datatype_more s x = record {
  unit = record { file = refl; headers = refl };
  names = λ y from k e. datatype_names s x y from ∙ e;
  tags = λ y from k e. tag_unit s (with_datatype s x) y from (record { file = refl; headers = refl }) refl refl ∙ e;
  ghosts = λ k a e. e;
  datatypes = λ k a e. get_before s.datatypes (x ∷ []) k a e;
}

-- a datatype: its name, its type parameters, and its constructors
pub record IsDatatype (d : Stated) (n : Name) (ns : List Name) (cs : List Constructor) (s t : Scope) : Type 0 where
  pub declares : DeclaresNew n (ghosts.Datatype (length s.datatypes)) s (begun s n)
  pub parameters : List (List ℕ)
  pub written : names.parameters_behind (begun s n) ns [] ≡ Ok parameters
  pub at : Scope
  pub constructors : constructors_behind d (own s n parameters) cs (begun s n) ≡ Ok at
  pub is : t ≡ with_datatype at (record { parameters = length parameters; constructors = numbers_from (length (begun s n).ghosts) (drop (length (begun s n).ghosts) at.ghosts) })

pub is_datatype : {t : Scope} (d : Stated) (n : Name) (ns : List Name) (cs : List Constructor) (s : Scope) → datatype_behind d n ns cs s ≡ Ok t → IsDatatype d n ns cs s t
is_datatype d n ns cs s h =
    let s₁ = begun s n in
    let i = unrefused (name_refusal s n) (behind (λ (ps : List (List ℕ)). body_behind d cs s₁ (own s n ps)) (names.parameters_behind s₁ ns [])) h in
    let j = through (λ (ps : List (List ℕ)). body_behind d cs s₁ (own s n ps)) (names.parameters_behind s₁ ns []) i.gives in
    let o = own s n j.at in
    let k = through (complete o (length s₁.ghosts)) (constructors_behind d o cs s₁) j.next in
    record {
      declares = record { fresh = fresh s n i.none; is = rest_itself s₁ };
      parameters = j.at;
      written = j.first;
      at = k.at;
      constructors = k.first;
      is = (refused_unless (with_datatype k.at (record { parameters = length j.at; constructors = numbers_from (length s₁.ghosts) (drop (length s₁.ghosts) k.at.ghosts) })) (refused rules.Inductive n.place) (is_inhabited (datatypes.with_datatype k.at o (length s₁.ghosts)) o.number) k.next).is;
    }

-- ---- constructors of both units
-- what constructors add: names that agree, and constructors that a header names
record Constructors (R : ℕ → ℕ → Type 0) (header : ℕ) (s t u v : Scope) : Type 0 where
  first : List GhostDeclaration
  second : List GhostDeclaration
  in_first : u.ghosts ≡ s.ghosts ++ first
  in_second : v.ghosts ≡ t.ghosts ++ second
  named : Each (AreOneGhost header u v) (numbers_from (length s.ghosts) first) (numbers_from (length t.ghosts) second)
  agree : NamesAgree R header s t → NamesAgree R header u v
  grows_first : Grows s u
  grows_second : Grows t v
  beside_first : length u.names ≡ length u.declarations
  beside_second : length v.names ≡ length v.declarations
  datatypes_first : u.datatypes ≡ s.datatypes
  datatypes_second : v.datatypes ≡ t.datatypes

-- the numbers behind a first one
numbers_behind : (s t : Scope) (g : GhostDeclaration) (gs : List GhostDeclaration) → t.ghosts ≡ s.ghosts ++ g ∷ [] → numbers_from (length t.ghosts) gs ≡ numbers_from (length s.ghosts + 1) gs
numbers_behind s t g gs e = ap (λ n. numbers_from n gs) (ap length e ∙ length-append s.ghosts (g ∷ []))

all_behind : (s t u : Scope) (g : GhostDeclaration) (gs : List GhostDeclaration) → t.ghosts ≡ s.ghosts ++ g ∷ [] → u.ghosts ≡ t.ghosts ++ gs → u.ghosts ≡ s.ghosts ++ g ∷ gs
all_behind s t u g gs e h = h ∙ ap (λ xs. xs ++ gs) e ∙ append_assoc s.ghosts (g ∷ []) gs

-- a file of a header is seen from it
seen_part : (s : Scope) (header file : ℕ) → ConsistsOfHeaders s header → is_part_of s header file ≡ true → sees s header file ≡ true
seen_part s header file c p = sees_parts s header file (c.headers header (part_itself s header)) ∙ p

-- the datatypes whose constructors stand there
record AreOwn (header : ℕ) (o q : Own) (s t : Scope) : Type 0 where
  same_parameters : o.parameters ≡ q.parameters
  name : List ℕ
  means_first : MeansDatatype s name header o.number
  means_second : MeansDatatype t name header q.number

own_grow : {header : ℕ} {o q : Own} {s t u v : Scope} → Grows s u → Grows t v → AreOwn header o q s t → AreOwn header o q u v
own_grow h k r = record { same_parameters = r.same_parameters; name = r.name; means_first = datatype_grows h r.means_first; means_second = datatype_grows k r.means_second }

-- numbers stand for the same at the end of both units
module _ (header : ℕ) (d e : Stated) (o q : Own) (y z : Scope) where
  none_more : (s t : Scope) → length s.names ≡ length s.declarations → length t.names ≡ length t.declarations → Constructors (StandForTheSame header y z) header s t s t
  none_more s t a b = record {
    first = [];
    second = [];
    in_first = sym (append-nil s.ghosts);
    in_second = sym (append-nil t.ghosts);
    named = done;
    agree = λ r. r;
    grows_first = grows_itself s;
    grows_second = grows_itself t;
    beside_first = a;
    beside_second = b;
    datatypes_first = refl;
    datatypes_second = refl;
  }

  -- one constructor of both, and others behind it
  one_more : {s t s₁ t₁ u v : Scope} (c : Constructor) → AreTwo header s t → AreOwn header o q s t → length s.names ≡ length s.declarations → length t.names ≡ length t.declarations → is_part_of s header c.name.place.file ≡ true → list_all (is_part_of s header) (files_within c.arguments) ≡ true → IsStep d o c s s₁ → IsStep e q c t t₁ → Grows u y → Grows v z → Constructors (StandForTheSame header y z) header s₁ t₁ u v → Constructors (StandForTheSame header y z) header s t u v
  one_more {s} {t} {s₁} {t₁} {u} {v} c two its a b p w i j f g r =
      let m = new_adds a i.declares in
      let n = new_adds b j.declares in
      let s₂ = with_next s c.name in
      let t₂ = with_next t c.name in
      let two₂ : AreTwo header s₂ t₂ = two_grow (record { file = refl; headers = refl }) (record { file = refl; headers = refl }) two in
      let sorts = within_alike header s₂ t₂ two₂.first two₂.second (part_both two₂) d e o q its.same_parameters c.arguments i.sorts j.sorts (within_grows {s = s} {t = s₂} header (files_within c.arguments) (record { file = refl; headers = refl }) w) i.reads j.reads in
      let first_end : Grows s₁ y = grows_both r.grows_first f in
      let second_end : Grows t₁ z = grows_both r.grows_second g in
      let first_next : Grows s₂ y = grows_both (subst (Grows s₂) (sym i.is) (ghost_grows s₂ _)) first_end in
      let second_next : Grows t₂ z = grows_both (subst (Grows t₂) (sym j.is) (ghost_grows t₂ _)) second_end in
      let x : GhostDeclaration = ghosts.Constructor (record { datatype = o.number; arguments = i.sorts }) in
      let x₁ : GhostDeclaration = ghosts.Constructor (record { datatype = q.number; arguments = j.sorts }) in
      let in_first₁ : s₁.ghosts ≡ s.ghosts ++ x ∷ [] = ap (λ (k : Scope). k.ghosts) i.is in
      let in_second₁ : t₁.ghosts ≡ t.ghosts ++ x₁ ∷ [] = ap (λ (k : Scope). k.ghosts) j.is in
      record {
        first = x ∷ r.first;
        second = x₁ ∷ r.second;
        in_first = all_behind s s₁ u x r.first in_first₁ r.in_first;
        in_second = all_behind t t₁ v x₁ r.second in_second₁ r.in_second;
        named = next
            (one_ghost_grows r.grows_first r.grows_second (record {
              name = c.name.text;
              first = new_means header a i.declares (seen_part s header c.name.place.file two.first p);
              second = new_means header b j.declares (seen_part t header c.name.place.file two.second (sym (part_both two c.name.place.file) ∙ p));
            }))
            (subst (λ ns. Each (AreOneGhost header u v) ns (numbers_from (length t.ghosts + 1) r.second)) (numbers_behind s s₁ x r.first in_first₁) (subst (Each (AreOneGhost header u v) (numbers_from (length s₁.ghosts) r.first)) (numbers_behind t t₁ x₁ r.second in_second₁) r.named));
        agree = λ k. r.agree (names_agree two (record {
          first = x;
          second = x₁;
          at_first = first_end.ghosts (length s.ghosts) x (new_at i.declares);
          at_second = second_end.ghosts (length t.ghosts) x₁ (new_at j.declares);
          same = same.constructors (record { name = its.name; first = datatype_grows (grows_both m.grows first_end) its.means_first; second = datatype_grows (grows_both n.grows second_end) its.means_second }) (sorts_grow first_next second_next sorts);
        }) m n k);
        grows_first = grows_both m.grows r.grows_first;
        grows_second = grows_both n.grows r.grows_second;
        beside_first = r.beside_first;
        beside_second = r.beside_second;
        datatypes_first = r.datatypes_first ∙ ap (λ (k : Scope). k.datatypes) i.is;
        datatypes_second = r.datatypes_second ∙ ap (λ (k : Scope). k.datatypes) j.is;
      }

  constructors_both : {u v : Scope} (cs : List Constructor) (s t : Scope) → AreTwo header s t → AreOwn header o q s t → length s.names ≡ length s.declarations → length t.names ≡ length t.declarations → list_all (is_part_of s header) (files_of_names (names_of_constructors cs)) ≡ true → list_all (is_part_of s header) (files_of_constructors cs) ≡ true → constructors_behind d o cs s ≡ Ok u → constructors_behind e q cs t ≡ Ok v → Grows u y → Grows v z → Constructors (StandForTheSame header y z) header s t u v
  constructors_both {u} {v} [] s t two its a b p w h k f g = subst (λ r. Constructors (StandForTheSame header y z) header s t r v) (ok_same h) (subst (Constructors (StandForTheSame header y z) header s t s) (ok_same k) (none_more s t a b))
  constructors_both {u} {v} (c ∷ cs) s t two its a b p w h k f g =
      let h₁ = through (constructors_behind d o cs) (constructor_behind d o c s) h in
      let k₁ = through (constructors_behind e q cs) (constructor_behind e q c t) k in
      let i = step d o c s h₁.first in
      let j = step e q c t k₁.first in
      let m = new_adds a i.declares in
      let n = new_adds b j.declares in
      let p₁ = and_parts (is_part_of s header c.name.place.file) (list_all (is_part_of s header) (files_of_names (names_of_constructors cs))) p in
      let w₁ = all_both (is_part_of s header) (files_within c.arguments) (files_of_constructors cs) w in
      one_more c two its a b p₁.0 w₁.0 i j f g
      (constructors_both cs h₁.at k₁.at (two_grow m.grows.unit n.grows.unit two) (own_grow m.grows n.grows its) m.beside n.beside (within_grows header (files_of_names (names_of_constructors cs)) m.grows.unit p₁.1) (within_grows header (files_of_constructors cs) m.grows.unit w₁.1) h₁.next k₁.next f g)

-- ---- whole datatypes
drop_front : {A : Type 0} (xs ys : List A) → drop (length xs) (xs ++ ys) ≡ ys
drop_front [] ys = refl
drop_front (x ∷ xs) ys = drop_front xs ys

-- constructors behind those declared before
numbered : (s t : Scope) (gs : List GhostDeclaration) → t.ghosts ≡ s.ghosts ++ gs → numbers_from (length s.ghosts) (drop (length s.ghosts) t.ghosts) ≡ numbers_from (length s.ghosts) gs
numbered s t gs e = ap (λ xs. numbers_from (length s.ghosts) (drop (length s.ghosts) xs)) e ∙ ap (numbers_from (length s.ghosts)) (drop_front s.ghosts gs)

each_grow : {header : ℕ} {s t u v : Scope} {ns ms : List ℕ} → Grows s u → Grows t v → Each (AreOneGhost header s t) ns ms → Each (AreOneGhost header u v) ns ms
each_grow h k done = done
each_grow h k (next r rs) = next (one_ghost_grows h k r) (each_grow h k rs)

grows_ghost : {s t : Scope} {g : GhostDeclaration} (n : ℕ) → Grows s t → ghost_of s n ≡ Some g → ghost_of t n ≡ Some g
grows_ghost {g = g} n h e = h.ghosts n g e

-- the datatype that was declared last
found : {t u : Scope} {x : Datatype} (s : Scope) → u ≡ with_datatype t x → t.datatypes ≡ s.datatypes → datatype_of u (length s.datatypes) ≡ Some x
found {t} {u} {x} s e h = ap (λ (k : Scope). datatype_of k (length s.datatypes)) e ∙ ap (λ xs. slice_get (xs ++ x ∷ []) (length s.datatypes)) h ∙ get_end s.datatypes x

-- names behind a datatype
shown : {R : ℕ → ℕ → Type 0} {u v : Scope} (header : ℕ) (s t : Scope) (x y : Datatype) → u ≡ with_datatype s x → v ≡ with_datatype t y → NamesAgree R header s t → NamesAgree R header u v
shown {R} {u} {v} header s t x y e h r = subst (λ k. NamesAgree R header k v) (sym e) (subst (NamesAgree R header (with_datatype s x)) (sym h) (λ from name p. both_at (datatype_names s x name from) (datatype_names t y name from) (r from name p)))

-- behind a datatype of both units names stand for the same
pub datatypes_agree : {s t u v : Scope} (header : ℕ) (d e : Stated) (n : Name) (ns : List Name) (cs : List Constructor) → AreTwo header s t → length s.names ≡ length s.declarations → length t.names ≡ length t.declarations → is_part_of s header n.place.file ≡ true → list_all (is_part_of s header) (files_of_names (names_of_constructors cs)) ≡ true → list_all (is_part_of s header) (files_of_constructors cs) ≡ true → IsDatatype d n ns cs s u → IsDatatype e n ns cs t v → (Grows s u → Grows t v → NamesAgree (StandForTheSame header u v) header s t) → NamesAgree (StandForTheSame header u v) header u v
datatypes_agree {s} {t} {u} {v} header d e n ns cs two a b p w x i j f =
    let s₁ = begun s n in
    let t₁ = begun t n in
    let m = new_adds a i.declares in
    let k = new_adds b j.declares in
    let same_parameters = parameters_alike s₁ t₁ ns i.written j.written in
    let o = own s n i.parameters in
    let q = own t n j.parameters in
    let first_end : Grows i.at u = subst (Grows i.at) (sym i.is) (datatype_more i.at _) in
    let second_end : Grows j.at v = subst (Grows j.at) (sym j.is) (datatype_more j.at _) in
    let its : AreOwn header o q s₁ t₁ = record {
      same_parameters = same_parameters;
      name = n.text;
      means_first = record { number = length s.ghosts; means = new_means header a i.declares (seen_part s header n.place.file two.first p); is = new_at i.declares };
      means_second = record { number = length t.ghosts; means = new_means header b j.declares (seen_part t header n.place.file two.second (sym (part_both two n.place.file) ∙ p)); is = new_at j.declares };
    } in
    let r = constructors_both header d e o q u v cs s₁ t₁ (two_grow m.grows.unit k.grows.unit two) its m.beside k.beside (within_grows header (files_of_names (names_of_constructors cs)) m.grows.unit w) (within_grows header (files_of_constructors cs) m.grows.unit x) i.constructors j.constructors first_end second_end in
    let first_all : Grows s u = grows_both m.grows (grows_both r.grows_first first_end) in
    let second_all : Grows t v = grows_both k.grows (grows_both r.grows_second second_end) in
    let named : Each (AreOneGhost header u v) (numbers_from (length s₁.ghosts) (drop (length s₁.ghosts) i.at.ghosts)) (numbers_from (length t₁.ghosts) (drop (length t₁.ghosts) j.at.ghosts)) =
    subst (λ xs. Each (AreOneGhost header u v) xs (numbers_from (length t₁.ghosts) (drop (length t₁.ghosts) j.at.ghosts))) (sym (numbered s₁ i.at r.first r.in_first))
    (subst (Each (AreOneGhost header u v) (numbers_from (length s₁.ghosts) r.first)) (sym (numbered t₁ j.at r.second r.in_second)) (each_grow first_end second_end r.named)) in
    let stand : StandForTheSame header u v (length s.ghosts) (length t.ghosts) = record {
      first = ghosts.Datatype (length s.datatypes);
      second = ghosts.Datatype (length t.datatypes);
      at_first = grows_ghost (length s.ghosts) (grows_both r.grows_first first_end) (new_at i.declares);
      at_second = grows_ghost (length t.ghosts) (grows_both r.grows_second second_end) (new_at j.declares);
      same = same.datatypes (found s i.is r.datatypes_first) (found t j.is r.datatypes_second) (record { parameters = ap length same_parameters; constructors = named });
    } in
    shown header i.at j.at _ _ i.is j.is (r.agree (names_agree two stand m k (f first_all second_all)))
