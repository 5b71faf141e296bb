-- What is declared at file level, and how more of it comes behind.
use Rattle.std.proofs.Common.{◌≡◌, refl, sym, ap, subst, ◌∙◌, ℕ, zero, suc, ◌+◌, ◌≤◌, List, [], ◌∷◌, ◌++◌, length, length-append, map, append_assoc, append-nil, slice_get, Option, Some, None, arith}
use Rattle.std.specs.Prelude.{◌<◌}
use Rattle.std.proofs.lemmas.List.{map-append}
use Rattle.vf_declared.specs.declared.declaration.Datatype.{Datatype}
use Rattle.vf_declared.specs.declared.declaration.Declaration.{Declaration}
use Rattle.vf_declared.specs.declared.declaration.GhostDeclaration.{GhostDeclaration}
use Rattle.vf_declared.specs.declared.declaration.GhostDeclaration.TheVariants as ghosts
use Rattle.vf_declared.specs.declared.declaration.Meaning.{Meaning}
use Rattle.vf_declared.specs.declared.declaration.Meaning.TheVariants as meanings
use Rattle.vf_declared.specs.declared.scope.Scope.{Scope}
use Rattle.vf_declared.specs.Writing.{changed, changed_at, with_file, with_ghost, with_name, with_name_again}
use Rattle.vf_syntax.specs.declared.written.Name.{Name}
use Rattle.vf_datatypes.specs.Datatypes.{with_next}
use Rattle.vf_fixpoint_laws.proofs.definable.Extending.{Core, Keeps, core}

-- ---- levels
-- what declarations mean
abbrev pub means_of : List Declaration → List Meaning
means_of ds = map (λ (d : Declaration). d.meaning) ds

-- names beside what they mean, what annotations declare, and datatypes
pub record Level : Type 0 where
  pub names : List (List ℕ)
  pub meanings : List Meaning
  pub ghosts : List GhostDeclaration
  pub datatypes : List Datatype

abbrev pub level_of : Core → Level
level_of c = record { names = c.names; meanings = means_of c.declarations; ghosts = c.ghosts; datatypes = c.datatypes }

abbrev pub level : Scope → Level
level s = level_of (core s)

-- a meaning is no number of what annotations declare, but for those from a first up to a last
abbrev pub IsFresh : ℕ → ℕ → Meaning → Type 0
IsFresh low high (meanings.Ghost j) = (low ≤ j) × (j < high)
IsFresh low high m = Unit {0}

abbrev pub AreFresh : ℕ → ℕ → List Meaning → Type 0
AreFresh low high [] = Unit {0}
AreFresh low high (m ∷ ms) = IsFresh low high m × AreFresh low high ms

fresh_wider : (low high below above : ℕ) → below ≤ low → high ≤ above → (m : Meaning) → IsFresh low high m → IsFresh below above m
fresh_wider low high below above p q (meanings.Ghost j) (a, b) = (omega (arith, p, a), omega (arith, q, b))
fresh_wider low high below above p q (meanings.Function j) h = tt
fresh_wider low high below above p q (meanings.FunctionType j) h = tt

pub all_wider : (low high below above : ℕ) → below ≤ low → high ≤ above → (ms : List Meaning) → AreFresh low high ms → AreFresh below above ms
all_wider low high below above p q [] h = tt
all_wider low high below above p q (m ∷ ms) h = (fresh_wider low high below above p q m h.0, all_wider low high below above p q ms h.1)

pub all_both : (low high : ℕ) (ms ns : List Meaning) → AreFresh low high ms → AreFresh low high ns → AreFresh low high (ms ++ ns)
all_both low high [] ns h k = k
all_both low high (m ∷ ms) ns h k = (h.0, all_both low high ms ns h.1 k)

pub fresh_at : (low high : ℕ) (ms : List Meaning) (k j : ℕ) → AreFresh low high ms → slice_get ms k ≡ Some (meanings.Ghost j) → (low ≤ j) × (j < high)
fresh_at low high [] k j h e = absurd cc
fresh_at low high (m ∷ ms) zero j h e = subst (IsFresh low high) (same e) h.0
  where
    same : ◌≡◌ {A = Option Meaning} (Some m) (Some (meanings.Ghost j)) → m ≡ meanings.Ghost j
    same e = cc
fresh_at low high (m ∷ ms) (suc k) j h e = fresh_at low high ms k j h.1 e

-- ---- more
-- names beside meanings and what annotations declare come behind what there is, where new names mean new numbers alone
pub record More (c d : Level) : Type 0 where
  pub more_names : List (List ℕ)
  pub names : d.names ≡ c.names ++ more_names
  pub more_meanings : List Meaning
  pub meanings : d.meanings ≡ c.meanings ++ more_meanings
  pub beside : length more_names ≡ length more_meanings
  pub more_ghosts : List GhostDeclaration
  pub ghosts : d.ghosts ≡ c.ghosts ++ more_ghosts
  pub fresh : AreFresh (length c.ghosts) (length d.ghosts) more_meanings

pub more_itself : (c : Level) → More c c
more_itself c = record { more_names = []; names = sym (append-nil c.names); more_meanings = []; meanings = sym (append-nil c.meanings); beside = refl; more_ghosts = []; ghosts = sym (append-nil c.ghosts); fresh = tt }

pub longer : {A : Type 0} (xs ys zs : List A) → zs ≡ xs ++ ys → length xs ≤ length zs
longer xs ys zs e = let l : length zs ≡ length xs + length ys = ap length e ∙ length-append xs ys in omega (arith, l)

pub more_both : {c d e : Level} → More c d → More d e → More c e
more_both {c} {d} {e} h k = record {
  more_names = h.more_names ++ k.more_names;
  names = k.names ∙ (ap (λ xs. xs ++ k.more_names) h.names ∙ append_assoc c.names h.more_names k.more_names);
  more_meanings = h.more_meanings ++ k.more_meanings;
  meanings = k.meanings ∙ (ap (λ xs. xs ++ k.more_meanings) h.meanings ∙ append_assoc c.meanings h.more_meanings k.more_meanings);
  beside =
      let a : length (h.more_names ++ k.more_names) ≡ length h.more_names + length k.more_names = length-append h.more_names k.more_names in
      let b : length (h.more_meanings ++ k.more_meanings) ≡ length h.more_meanings + length k.more_meanings = length-append h.more_meanings k.more_meanings in
      let p = h.beside in
      let q = k.beside in
      omega (arith, a, b, p, q);
  more_ghosts = h.more_ghosts ++ k.more_ghosts;
  ghosts = k.ghosts ∙ (ap (λ xs. xs ++ k.more_ghosts) h.ghosts ∙ append_assoc c.ghosts h.more_ghosts k.more_ghosts);
  fresh = all_both (length c.ghosts) (length e.ghosts) h.more_meanings k.more_meanings (all_wider (length c.ghosts) (length d.ghosts) (length c.ghosts) (length e.ghosts) (omega arith) (longer d.ghosts k.more_ghosts e.ghosts k.ghosts) h.more_meanings h.fresh)
      (all_wider (length d.ghosts) (length e.ghosts) (length c.ghosts) (length e.ghosts) (longer c.ghosts h.more_ghosts d.ghosts h.ghosts) (omega arith) k.more_meanings k.fresh);
}

-- ---- nothing of datatypes
-- a declaration is of no datatype
abbrev pub IsOther : GhostDeclaration → Type 0
IsOther (ghosts.Datatype d) = ⊥
IsOther (ghosts.Constructor k) = ⊥
IsOther g = Unit {0}

abbrev pub AreOther : List GhostDeclaration → Type 0
AreOther [] = Unit {0}
AreOther (g ∷ gs) = IsOther g × AreOther gs

pub other_both : (gs hs : List GhostDeclaration) → AreOther gs → AreOther hs → AreOther (gs ++ hs)
other_both [] hs h k = k
other_both (g ∷ gs) hs h k = (h.0, other_both gs hs h.1 k)

pub other_at : (gs : List GhostDeclaration) (k : ℕ) (g : GhostDeclaration) → AreOther gs → slice_get gs k ≡ Some g → IsOther g
other_at [] k g h e = absurd cc
other_at (x ∷ gs) zero g h e = subst IsOther (same e) h.0
  where
    same : ◌≡◌ {A = Option GhostDeclaration} (Some x) (Some g) → x ≡ g
    same e = cc
other_at (x ∷ gs) (suc k) g h e = other_at gs k g h.1 e

-- more is declared, none of which is of a datatype
pub record Adds (s t : Scope) : Type 0 where
  pub more : More (level s) (level t)
  pub others : AreOther more.more_ghosts
  pub datatypes : t.datatypes ≡ s.datatypes

pub adds_itself : (s : Scope) → Adds s s
unfolding more_itself
adds_itself s = record { more = more_itself (level s); others = tt; datatypes = refl }

pub adds_both : {s t u : Scope} → Adds s t → Adds t u → Adds s u
unfolding more_both
adds_both h k = record { more = more_both h.more k.more; others = other_both (h.more).more_ghosts (k.more).more_ghosts h.others k.others; datatypes = k.datatypes ∙ h.datatypes }

-- the same, where the second scope has the same at file level
abbrev AddsTo : Scope → Level → Type 0
AddsTo s d = (more : More (level s) d) × AreOther more.more_ghosts × (d.datatypes ≡ s.datatypes)

as_level : {s t : Scope} → Adds s t → AddsTo s (level t)
as_level h = (h.more, h.others, h.datatypes)

from_level : {s t : Scope} → AddsTo s (level t) → Adds s t
from_level h = record { more = h.0; others = h.1; datatypes = h.2 }

pub adds_same : {s t u : Scope} → Adds s t → level u ≡ level t → Adds s u
adds_same {s} {t} {u} h e = from_level (subst (AddsTo s) (sym e) (as_level h))

pub level_kept : {s t : Scope} → Keeps s t → level t ≡ level s
level_kept h = ap level_of h.same

-- something, and then nothing
pub adds_before : {s t u : Scope} → Adds s t → Keeps t u → Adds s u
adds_before h k = adds_same h (level_kept k)

pub adds_kept : {s t : Scope} → Keeps s t → Adds s t
adds_kept {s} k = adds_before (adds_itself s) k

-- nothing, and then something
pub adds_behind : {s t u : Scope} → Keeps s t → Adds t u → Adds s u
adds_behind k h = adds_both (adds_kept k) h

-- ---- one more
-- a name that means nothing of annotations
pub adds_name : (s : Scope) (x : List ℕ) (m : Meaning) (file : ℕ) → ((low high : ℕ) → IsFresh low high m) → Adds s (with_name s x m file)
adds_name s x m file f = record {
  more = record {
    more_names = x ∷ [];
    names = refl;
    more_meanings = m ∷ [];
    meanings = map-append (λ (d : Declaration). d.meaning) s.declarations _;
    beside = refl;
    more_ghosts = [];
    ghosts = sym (append-nil s.ghosts);
    fresh = (f (length s.ghosts) (length s.ghosts), tt);
  };
  others = tt;
  datatypes = refl;
}

-- a name of annotations with what it means, which is new
pub more_next : (s : Scope) (n : Name) (g : GhostDeclaration) → More (level s) (level (with_ghost (with_next s n) g))
more_next s n g = record {
  more_names = n.text ∷ [];
  names = refl;
  more_meanings = meanings.Ghost (length s.ghosts) ∷ [];
  meanings = map-append (λ (d : Declaration). d.meaning) s.declarations _;
  beside = refl;
  more_ghosts = g ∷ [];
  ghosts = refl;
  fresh = ((omega arith, let l : length (s.ghosts ++ g ∷ []) ≡ length s.ghosts + 1 = length-append s.ghosts (g ∷ []) in omega (arith, l)), tt);
}

-- one of no datatype, between which and its name nothing is declared
pub adds_next : (s : Scope) (n : Name) (k : Scope) (g : GhostDeclaration) → Keeps (with_next s n) k → IsOther g → Adds s (with_ghost k g)
unfolding more_next
adds_next s n k g h o =
    adds_same {t = with_ghost (with_next s n) g} (record { more = more_next s n g; others = (o, tt); datatypes = refl })
    (ap (λ (c : Core). level_of (record { frame = c.frame; names = c.names; declarations = c.declarations; ghosts = c.ghosts ++ g ∷ []; datatypes = c.datatypes })) h.same)

-- ---- a name that is declared once more

later : (file : ℕ) (c : Declaration) (ds : List Declaration) (n : ℕ) (o : Option Declaration) → changed_at (λ (d : Declaration). record d { files = with_file d.files file }) (c ∷ ds) (suc n) o ≡ c ∷ changed_at (λ (d : Declaration). record d { files = with_file d.files file }) ds n o
later file c ds n None = refl
later file c ds n (Some d) = refl

means_again : (file : ℕ) (ds : List Declaration) (n : ℕ) → means_of (changed (λ (d : Declaration). record d { files = with_file d.files file }) ds n) ≡ means_of ds
means_again file [] n = refl
means_again file (d ∷ ds) zero = refl
means_again file (d ∷ ds) (suc n) = ap means_of (later file d ds n (slice_get ds n)) ∙ ap (λ ms. d.meaning ∷ ms) (means_again file ds n)

pub adds_again : (s : Scope) (n file : ℕ) → Adds s (with_name_again s n file)
adds_again s n file = adds_same (adds_itself s) (ap (λ ms. record { names = s.names; meanings = ms; ghosts = s.ghosts; datatypes = s.datatypes }) (means_again file s.declarations n))
