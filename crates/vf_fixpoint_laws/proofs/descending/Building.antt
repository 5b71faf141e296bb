-- What a datatype adds to what is declared: its name, and behind it its constructors in order.
use Rattle.std.proofs.Common.{◌≡◌, refl, sym, ap, subst, ◌∙◌, ℕ, zero, suc, ◌+◌, ◌≤◌, Bool, true, false, if◌then◌else◌, List, [], ◌∷◌, ◌++◌, length, length-append, map, append_assoc, append-nil, drop, slice_get, Option, Some, None, is_some, arith}
use Rattle.std.proofs.lemmas.List.{length-map, map-append}
use Rattle.vf_base.specs.declared.refusal.Refusal.{Refusal}
use Rattle.vf_names.specs.Names.{number_of}
use Rattle.vf_declared.specs.declared.declaration.Datatype.{Datatype}
use Rattle.vf_declared.specs.declared.declaration.Declaration.{Declaration}
use Rattle.vf_declared.specs.declared.declaration.GhostDeclaration.{GhostDeclaration}
use Rattle.vf_declared.specs.declared.declaration.GhostDeclaration.TheVariants as ghosts
use Rattle.vf_declared.specs.declared.declaration.Meaning.{Meaning}
use Rattle.vf_declared.specs.declared.declaration.Meaning.TheVariants as meanings
use Rattle.vf_declared.specs.declared.scope.Scope.{Scope}
use Rattle.vf_syntax.specs.declared.item.Constructor.{Constructor as Written}
use Rattle.vf_syntax.specs.declared.written.Name.{Name}
use Rattle.vf_datatypes.specs.declared.own.Own.{Own}
use Rattle.vf_datatypes.specs.declared.stated.Stated.{Stated}
use Rattle.vf_datatypes.specs.Arguments.{sorts_within}
use Rattle.vf_datatypes.specs.Datatypes.{begun, body_behind, complete, constructor_behind, constructors_behind, datatype_behind, numbers_from, own, with_constructor, with_datatype, with_next}
use Rattle.vf_datatypes.specs.Inhabited.{is_inhabited}
use Rattle.vf_datatypes.specs.NewNames.{name_refusal, names_c}
use Rattle.vf_datatypes.specs.NewNames as names
use Rattle.vf_datatypes.specs.Walking.{behind}
use Rattle.vf_recursion.specs.Faults.{names_of}
use Rattle.vf_erasure_laws.proofs.hidden.Coming.{Comes, behind_comes, ok_comes, unless_comes}
use Rattle.vf_fixpoint_laws.proofs.definable.Parts.{Any, if_comes, passed_comes}
use Rattle.vf_fixpoint_laws.proofs.descending.Levels.{AreFresh, More, level, means_of}
use Rattle.vf_fixpoint_laws.proofs.descending.Lists.{none_some, some_same}

-- numbers of what annotations declare, from one on, as many as there are items in a list
abbrev pub meanings_from : {A : Type 0} → ℕ → List A → List Meaning
meanings_from n [] = []
meanings_from n (x ∷ xs) = meanings.Ghost n ∷ meanings_from (suc n) xs

-- a declaration is a constructor of a datatype
abbrev pub IsBuilt : ℕ → GhostDeclaration → Type 0
IsBuilt d (ghosts.Constructor k) = k.datatype ≡ d
IsBuilt d g = ⊥

abbrev pub AreBuilt : ℕ → List GhostDeclaration → Type 0
AreBuilt d [] = Unit {0}
AreBuilt d (g ∷ gs) = IsBuilt d g × AreBuilt d gs

pub built_at : (d : ℕ) (gs : List GhostDeclaration) (k : ℕ) (g : GhostDeclaration) → AreBuilt d gs → slice_get gs k ≡ Some g → IsBuilt d g
built_at d [] k g h e = absurd cc
built_at d (x ∷ gs) zero g h e = subst (IsBuilt d) (some_same e) h.0
built_at d (x ∷ gs) (suc k) g h e = built_at d gs k g h.1 e

pub numbers_fresh : {A : Type 0} (low high n : ℕ) (xs : List A) → low ≤ n → n + length xs ≤ high → AreFresh low high (meanings_from n xs)
numbers_fresh low high n [] l h = tt
numbers_fresh low high n (x ∷ xs) l h = ((l, omega (arith, h)), numbers_fresh low high (suc n) xs (omega (arith, l)) (omega (arith, h)))

pub numbers_counted : {A : Type 0} (n : ℕ) (xs : List A) → length (meanings_from n xs) ≡ length xs
numbers_counted n [] = refl
numbers_counted n (x ∷ xs) = ap suc (numbers_counted (suc n) xs)

same_number : {m n : ℕ} → ◌≡◌ {A = Option Meaning} (Some (meanings.Ghost m)) (Some (meanings.Ghost n)) → m ≡ n
same_number e = cc

pub number_at : {A : Type 0} (n : ℕ) (xs : List A) (k j : ℕ) → slice_get (meanings_from n xs) k ≡ Some (meanings.Ghost j) → j ≡ n + k
number_at n [] k j e = absurd cc
number_at n (x ∷ xs) zero j e = let q = same_number e in omega (arith, q)
number_at n (x ∷ xs) (suc k) j e = let h = number_at (suc n) xs k j e in omega (arith, h)

-- ---- constructors
-- constructors of the datatype with a number come behind what is declared
record Constructs (d : ℕ) (cs : List Written) (s t : Scope) : Type 0 where
  names : t.names ≡ s.names ++ names_of cs
  meanings : means_of t.declarations ≡ means_of s.declarations ++ meanings_from (length s.ghosts) cs
  built : List GhostDeclaration
  ghosts : t.ghosts ≡ s.ghosts ++ built
  as_many : length built ≡ length cs
  of : AreBuilt d built
  datatypes : t.datatypes ≡ s.datatypes

one_more : {A : Type 0} (xs : List A) (x : A) → length (xs ++ x ∷ []) ≡ suc (length xs)
one_more xs x = let l : length (xs ++ x ∷ []) ≡ length xs + 1 = length-append xs (x ∷ []) in omega (arith, l)

none_constructed : (d : ℕ) (s : Scope) → Constructs d [] s s
none_constructed d s = record { names = sym (append-nil s.names); meanings = sym (append-nil (means_of s.declarations)); built = []; ghosts = sym (append-nil s.ghosts); as_many = refl; of = tt; datatypes = refl }

one_constructed : (d : ℕ) (c : Written) (s t : Scope) → Constructs d (c ∷ []) s t → (cs : List Written) (u : Scope) → Constructs d cs t u → Constructs d (c ∷ cs) s u
one_constructed d c s t h cs u k =
    let more : length t.ghosts ≡ suc (length s.ghosts) = ap length h.ghosts ∙ (length-append s.ghosts h.built ∙ (let a = h.as_many in let l : length s.ghosts + length h.built ≡ suc (length s.ghosts) = omega (arith, a) in l)) in
    record {
      names = k.names ∙ (ap (λ xs. xs ++ names_of cs) h.names ∙ append_assoc s.names (c.name.text ∷ []) (names_of cs));
      meanings = k.meanings ∙ ((λ i. h.meanings i ++ meanings_from (more i) cs) ∙ append_assoc (means_of s.declarations) (meanings.Ghost (length s.ghosts) ∷ []) (meanings_from (suc (length s.ghosts)) cs));
      built = h.built ++ k.built;
      ghosts = k.ghosts ∙ (ap (λ xs. xs ++ k.built) h.ghosts ∙ append_assoc s.ghosts h.built k.built);
      as_many = length-append h.built k.built ∙ (let a = h.as_many in let b = k.as_many in let l : length h.built + length k.built ≡ suc (length cs) = omega (arith, a, b) in l);
      of = both h.built h.of;
      datatypes = k.datatypes ∙ h.datatypes;
    }
  where
    both : (gs : List GhostDeclaration) → AreBuilt d gs → AreBuilt d (gs ++ k.built)
    both [] e = k.of
    both (g ∷ gs) e = (e.0, both gs e.1)

constructor_built : (w : Stated) (o : Own) (c : Written) (s : Scope) → Comes (Constructs o.number (c ∷ []) s) (constructor_behind w o c s)
constructor_built w o c s =
    unless_comes (Constructs o.number (c ∷ []) s) (name_refusal s c.name) (behind (with_constructor o.number (with_next s c.name)) (sorts_within (with_next s c.name) w o c.arguments))
    (behind_comes Any (Constructs o.number (c ∷ []) s) (with_constructor o.number (with_next s c.name)) (sorts_within (with_next s c.name) w o c.arguments) (λ ts u. tt)
    (λ ts u. ok_comes (Constructs o.number (c ∷ []) s) (record {
      names = refl;
      meanings = map-append (λ (d : Declaration). d.meaning) s.declarations _;
      built = ghosts.Constructor (record { datatype = o.number; arguments = ts }) ∷ [];
      ghosts = refl;
      as_many = refl;
      of = (refl, tt);
      datatypes = refl;
    })))

constructors_built : (w : Stated) (o : Own) (cs : List Written) (s : Scope) → Comes (Constructs o.number cs s) (constructors_behind w o cs s)
constructors_built w o [] s = ok_comes (Constructs o.number [] s) (none_constructed o.number s)
constructors_built w o (c ∷ cs) s =
    behind_comes (Constructs o.number (c ∷ []) s) (Constructs o.number (c ∷ cs) s) (constructors_behind w o cs) (constructor_behind w o c s) (constructor_built w o c s)
    (λ t h u e. one_constructed o.number c s t h cs u (constructors_built w o cs t u e))

-- ---- datatypes
-- a datatype with its constructors comes behind what is declared, with a new name and the next number
pub record Builds (n : Name) (cs : List Written) (s t : Scope) : Type 0 where
  pub new : number_of s.names n.text ≡ None
  pub names : t.names ≡ s.names ++ n.text ∷ names_of cs
  pub meanings : means_of t.declarations ≡ means_of s.declarations ++ meanings_from (length s.ghosts) (n.text ∷ names_of cs)
  pub built : List GhostDeclaration
  pub ghosts : t.ghosts ≡ s.ghosts ++ ghosts.Datatype (length s.datatypes) ∷ built
  pub as_many : length built ≡ length cs
  pub of : AreBuilt (length s.datatypes) built
  pub datatypes : length t.datatypes ≡ suc (length s.datatypes)

neither : (b : Bool) (o : Option ℕ) (x y : Refusal) → ◌≡◌ {A = Option Refusal} (if b then Some x else (if is_some o then Some y else None)) None → o ≡ None
neither true o x y e = absurd (none_some (sym e))
neither false None x y e = refl
neither false (Some k) x y e = absurd (none_some (sym e))

pub new_name : (s : Scope) (n : Name) → name_refusal s n ≡ None → number_of s.names n.text ≡ None
new_name s n e = neither (names_c s n.text n.place.file) (number_of s.names n.text) _ _ e

same_numbers : {A B : Type 0} (f : A → B) (n : ℕ) (xs : List A) → meanings_from n xs ≡ meanings_from n (map f xs)
same_numbers f n [] = refl
same_numbers f n (x ∷ xs) = ap (λ ms. meanings.Ghost n ∷ ms) (same_numbers f (suc n) xs)

complete_built : (n : Name) (cs : List Written) (s : Scope) → number_of s.names n.text ≡ None → (o : Own) (first : ℕ) (t : Scope) → Constructs (length s.datatypes) cs (begun s n) t → Comes (Builds n cs s) (complete o first t)
complete_built n cs s new o first t h =
    let d : Datatype = record { parameters = length o.parameters; constructors = numbers_from first (drop first t.ghosts) } in
    let more : length (s.ghosts ++ ghosts.Datatype (length s.datatypes) ∷ []) ≡ suc (length s.ghosts) = one_more s.ghosts (ghosts.Datatype (length s.datatypes)) in
    if_comes (Builds n cs s) (is_inhabited (with_datatype t o first) o.number) _ _
    (λ e. record {
      new = new;
      names = h.names ∙ append_assoc s.names (n.text ∷ []) (names_of cs);
      meanings = h.meanings ∙ ((λ i. map-append (λ (d : Declaration). d.meaning) s.declarations (record { meaning = meanings.Ghost (length s.ghosts); files = n.place.file ∷ [] } ∷ []) i ++ meanings_from (more i) cs)
          ∙ (append_assoc (means_of s.declarations) (meanings.Ghost (length s.ghosts) ∷ []) (meanings_from (suc (length s.ghosts)) cs)
          ∙ ap (λ ms. means_of s.declarations ++ meanings.Ghost (length s.ghosts) ∷ ms) (same_numbers (λ (k : Written). k.name.text) (suc (length s.ghosts)) cs)));
      built = h.built;
      ghosts = h.ghosts ∙ append_assoc s.ghosts (ghosts.Datatype (length s.datatypes) ∷ []) h.built;
      as_many = h.as_many;
      of = h.of;
      datatypes = one_more t.datatypes d ∙ ap (λ (ds : List Datatype). suc (length ds)) h.datatypes;
    })

pub datatype_built : (w : Stated) (n : Name) (ns : List Name) (cs : List Written) (s : Scope) → Comes (Builds n cs s) (datatype_behind w n ns cs s)
datatype_built w n ns cs s =
    passed_comes (Builds n cs s) (name_refusal s n) (behind (λ (ps : List (List ℕ)). body_behind w cs (begun s n) (own s n ps)) (names.parameters_behind (begun s n) ns []))
    (λ e. behind_comes Any (Builds n cs s) (λ (ps : List (List ℕ)). body_behind w cs (begun s n) (own s n ps)) (names.parameters_behind (begun s n) ns []) (λ ps u. tt) (λ ps u. of (new_name s n e) ps))
  where
    of : number_of s.names n.text ≡ None → (ps : List (List ℕ)) → Comes (Builds n cs s) (body_behind w cs (begun s n) (own s n ps))
    of new ps =
        behind_comes (Constructs (length s.datatypes) cs (begun s n)) (Builds n cs s) (complete (own s n ps) (length (begun s n).ghosts)) (constructors_behind w (own s n ps) cs (begun s n)) (constructors_built w (own s n ps) cs (begun s n))
        (λ u k. complete_built n cs s new (own s n ps) (length (begun s n).ghosts) u k)

-- such a datatype is more
abbrev pub builds_more : {n : Name} {cs : List Written} {s t : Scope} → Builds n cs s t → More (level s) (level t)
builds_more {n} {cs} {s} {t} h = record {
  more_names = n.text ∷ names_of cs;
  names = h.names;
  more_meanings = meanings_from (length s.ghosts) (n.text ∷ names_of cs);
  meanings = h.meanings;
  beside = sym (numbers_counted (length s.ghosts) (n.text ∷ names_of cs));
  more_ghosts = ghosts.Datatype (length s.datatypes) ∷ h.built;
  ghosts = h.ghosts;
  fresh =
      let a : length t.ghosts ≡ length s.ghosts + suc (length h.built) = ap length h.ghosts ∙ length-append s.ghosts (ghosts.Datatype (length s.datatypes) ∷ h.built) in
      let b = h.as_many in
      let c : length (names_of cs) ≡ length cs = length-map cs (λ (k : Written). k.name.text) in
      numbers_fresh (length s.ghosts) (length t.ghosts) (length s.ghosts) (n.text ∷ names_of cs) (omega arith) (omega (arith, a, b, c));
}
