-- What a name that annotations declare changes.
use Rattle.std.proofs.Common.{◌≡◌, refl, sym, ap, subst, ◌∙◌, ℕ, Bool, true, false, ◌&&◌, if◌then◌else◌, List, [], ◌∷◌, length, is_some, Option, Some, None}
use Rattle.std.specs.Option.{option_or}
use Rattle.std.specs.Str.{bytes_eq}
use Rattle.std.specs.Cmp.Lexicographic.{bytes_decides}
use Rattle.vf_base.specs.declared.refusal.Refusal.{Refusal}
use Rattle.vf_names.specs.Names.{number_of}
use Rattle.vf_declared.specs.declared.declaration.GhostDeclaration.{GhostDeclaration}
use Rattle.vf_declared.specs.declared.declaration.Meaning.TheVariants as meanings
use Rattle.vf_declared.specs.declared.scope.Scope.{Scope}
use Rattle.vf_declared.specs.Scopes.{at_index, at_name, declared_in, ghost_of, sees}
use Rattle.vf_declared.specs.Writing.{with_ghost, with_name_again}
use Rattle.vf_syntax.specs.declared.written.Name.{Name}
use Rattle.vf_asserting.specs.Cases.{ghost_number}
use Rattle.vf_datatypes.specs.Datatypes.{with_next}
use Rattle.vf_datatypes.specs.NewNames.{name_refusal, names_c}
use Rattle.vf_predicates.specs.Earlier.{seen_too, stands_too}
use Rattle.vf_header_laws.proofs.c_names.Files.{also, tag_unit}
use Rattle.vf_header_laws.proofs.c_names.Lists.{get_before, get_end, length_changed, none_some}
use Rattle.vf_header_laws.proofs.c_names.Structs.{one_longer}
use Rattle.vf_header_laws.specs.ghost_names.Meaning.{ghost_at}
use Rattle.vf_header_laws.proofs.ghost_names.Growing.{again_ghost, Grows, grows_both, is_ghost_name, IsGhostName, new_ghost, or_first, rest_grows}
use Rattle.vf_header_laws.proofs.ghost_names.Rest.{IsRest, KeepsTags, rest_name, rest_tags, tags_both}

-- ---- lookups behind an item
-- a name means something of annotations in one more file, by a number, and else names mean what they meant
pub record Adds (x : List ℕ) (k file : ℕ) (s t : Scope) : Type 0 where
  pub names : (y : List ℕ) (from : ℕ) → ghost_at t y from ≡ option_or (ghost_at s y from) (also s from file y x k)
  pub grows : Grows s t
  pub beside : length t.names ≡ length t.declarations
  pub kept : KeepsTags s t

-- ---- a new name
-- a name that may be declared is not declared yet
pub fresh : (s : Scope) (n : Name) → name_refusal s n ≡ None → number_of s.names n.text ≡ None
fresh s n h = by_tests _ _ (names_c s n.text n.place.file) (number_of s.names n.text) refl h
  where
    by_tests : (x y : Refusal) (b : Bool) (o : Option ℕ) → number_of s.names n.text ≡ o → (if b then Some x else (if is_some o then Some y else None)) ≡ None → number_of s.names n.text ≡ None
    by_tests x y true o e h = none_some (sym h)
    by_tests x y false None e h = e
    by_tests x y false (Some i) e h = none_some (sym h)

pub not_there : (s : Scope) (x : List ℕ) → number_of s.names x ≡ None → at_name s.names s.declarations x ≡ None
not_there s x e = ap (at_index s.declarations) e

-- a new name, and what it means
pub record DeclaresNew (n : Name) (g : GhostDeclaration) (s t : Scope) : Type 0 where
  pub fresh : number_of s.names n.text ≡ None
  pub is : IsRest (with_ghost (with_next s n) g) t

-- a name stands in one more file
pub record DeclaresAgain (n : Name) (k : ℕ) (s t : Scope) : Type 0 where
  pub means : ghost_at s n.text n.place.file ≡ Some k
  pub is : IsRest (seen_too s n) t

beside_rest : {s t : Scope} → IsRest s t → length s.names ≡ length s.declarations → length t.names ≡ length t.declarations
beside_rest h e = ap (λ (u : Scope). length u.names) h.is ∙ e ∙ sym (ap (λ (u : Scope). length u.declarations) h.is)

next_names : (s : Scope) (n : Name) (g : GhostDeclaration) (y : List ℕ) (from : ℕ) → length s.names ≡ length s.declarations → number_of s.names n.text ≡ None → ghost_at (with_ghost (with_next s n) g) y from ≡ option_or (ghost_at s y from) (also s from n.place.file y n.text (length s.ghosts))
next_names s n g y from b f = new_ghost s n.text (length s.ghosts) n.place.file y from b (not_there s n.text f)

next_grows : (s : Scope) (n : Name) (g : GhostDeclaration) → length s.names ≡ length s.declarations → number_of s.names n.text ≡ None → Grows s (with_ghost (with_next s n) g)
next_grows s n g b f = record {
  unit = record { file = refl; headers = refl };
  names = λ y from k e. or_first (ghost_at s y from) (also s from n.place.file y n.text (length s.ghosts)) _ (next_names s n g y from b f) e;
  tags = λ y from k e. tag_unit s (with_ghost (with_next s n) g) y from (record { file = refl; headers = refl }) refl refl ∙ e;
  ghosts = λ k a e. get_before s.ghosts (g ∷ []) k a e;
  datatypes = λ k x e. e;
}

pub new_adds : {n : Name} {g : GhostDeclaration} {s t : Scope} → length s.names ≡ length s.declarations → DeclaresNew n g s t → Adds n.text (length s.ghosts) n.place.file s t
new_adds {n} {g} {s} b d = record {
  names = λ y from. ap ghost_number (rest_name y from d.is) ∙ next_names s n g y from b d.fresh;
  grows = grows_both (next_grows s n g b d.fresh) (rest_grows d.is);
  beside = beside_rest d.is (one_longer s.names n.text s.declarations (record { meaning = meanings.Ghost (length s.ghosts); files = n.place.file ∷ [] }) b);
  kept = tags_both {s = s} {t = with_ghost (with_next s n) g} (record { tags = refl; structures = refl; foreseen = record { unit = record { file = refl; headers = refl }; predicates = refl; predicate_files = refl; predicate_sorts = refl } }) (rest_tags d.is);
}

-- what is declared by the new number
pub new_at : {n : Name} {g : GhostDeclaration} {s t : Scope} → DeclaresNew n g s t → ghost_of t (length s.ghosts) ≡ Some g
new_at {g = g} {s} d = ap (λ (u : Scope). ghost_of u (length s.ghosts)) d.is.is ∙ get_end s.ghosts g

-- a new name means nothing of annotations in front of its declaration
pub new_unseen : {n : Name} {g : GhostDeclaration} {s t : Scope} (from : ℕ) → DeclaresNew n g s t → ghost_at s n.text from ≡ None
new_unseen {n} {s = s} from d = ap (λ o. ghost_number (declared_in s from o)) (not_there s n.text d.fresh)

itself : (x : List ℕ) → bytes_eq x x ≡ true
itself x = (bytes_decides x x).1 refl

-- and behind it what is declared, in each file that sees its own
pub new_means : {n : Name} {g : GhostDeclaration} {s t : Scope} (from : ℕ) → length s.names ≡ length s.declarations → DeclaresNew n g s t → sees s from n.place.file ≡ true → ghost_at t n.text from ≡ Some (length s.ghosts)
new_means {n} {s = s} from b d v =
    (new_adds b d).names n.text from
    ∙ ap (λ o. option_or o (also s from n.place.file n.text n.text (length s.ghosts))) (new_unseen from d)
    ∙ ap (λ w. if w && sees s from n.place.file then Some (length s.ghosts) else None) (itself n.text)
    ∙ ap (λ w. if w then Some (length s.ghosts) else None) v

-- ---- one more file
again_at : (s : Scope) (n : Name) (k : ℕ) → length s.names ≡ length s.declarations → IsGhostName s n.text k → Adds n.text k n.place.file s (seen_too s n)
again_at s n k b i = subst (λ o. Adds n.text k n.place.file s (stands_too s n o)) (sym i.numbered) (record {
  names = λ y from. names y from;
  grows = record {
    unit = record { file = refl; headers = refl };
    names = λ y from m e. or_first (ghost_at s y from) (also s from n.place.file y n.text k) _ (names y from) e;
    tags = λ y from m e. tag_unit s (with_name_again s i.index n.place.file) y from (record { file = refl; headers = refl }) refl refl ∙ e;
    ghosts = λ m a e. e;
    datatypes = λ m x e. e;
  };
  beside = b ∙ sym (length_changed _ s.declarations i.index);
  kept = record { tags = refl; structures = refl; foreseen = record { unit = record { file = refl; headers = refl }; predicates = refl; predicate_files = refl; predicate_sorts = refl } };
})
  where
    names : (y : List ℕ) (from : ℕ) → ghost_at (with_name_again s i.index n.place.file) y from ≡ option_or (ghost_at s y from) (also s from n.place.file y n.text k)
    names y from = again_ghost s n.text i.index i.declaration k n.place.file y from i.numbered i.at i.means

pub adds_rest : {x : List ℕ} {k file : ℕ} {s t u : Scope} → Adds x k file s t → IsRest t u → Adds x k file s u
adds_rest a h = record {
  names = λ y from. ap ghost_number (rest_name y from h) ∙ a.names y from;
  grows = grows_both a.grows (rest_grows h);
  beside = beside_rest h a.beside;
  kept = tags_both a.kept (rest_tags h);
}

pub again_adds : {n : Name} {k : ℕ} {s t : Scope} → length s.names ≡ length s.declarations → DeclaresAgain n k s t → Adds n.text k n.place.file s t
again_adds {n} {k} {s} b d = adds_rest (again_at s n k b (is_ghost_name s n.text n.place.file k d.means)) d.is

-- ---- nothing
pub rest_beside : {s t : Scope} → IsRest s t → length s.names ≡ length s.declarations → length t.names ≡ length t.declarations
rest_beside h e = beside_rest h e
