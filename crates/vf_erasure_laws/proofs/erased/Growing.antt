-- What C text sees where one more local is declared, of C or by annotations.
use Rattle.std.proofs.Common.{◌≡◌, ℕ, ◌+◌, Bool, true, false, if◌then◌else◌, List, [], ◌∷◌, ◌++◌, length, map, Option, Some, None, refl, sym, ap, subst, ◌∙◌, length-append, arith}
use Rattle.std.specs.Str.{bytes_eq}
use Rattle.vf_declared.specs.declared.ctype.CType.{CType}
use Rattle.vf_declared.specs.declared.locals.GhostLocal.{GhostLocal}
use Rattle.vf_declared.specs.declared.locals.Local.{Local}
use Rattle.vf_declared.specs.declared.locals.Local.TheVariants as locals
use Rattle.vf_declared.specs.declared.locals.Locals.{Locals}
use Rattle.vf_declared.specs.declared.scope.Scope.{Scope}
use Rattle.vf_declared.specs.Changes.{IsAligned, with_local}
use Rattle.vf_declared.specs.Scopes.{at_name, local_in, local_of}
use Rattle.vf_erasure_laws.specs.seen.Unseen.{AddsGhosts}
use Rattle.vf_erasure_laws.proofs.seen.Leading.{Finds}
use Rattle.vf_erasure_laws.proofs.seen.Lookups.{at_standing, standing}
use Rattle.vf_erasure_laws.proofs.seen.Same.{Names, meaning_same}
use Rattle.vf_erasure_laws.proofs.erased.Parts.{Stands}

-- what stands in front, or else what stands behind
abbrev pub or_else : {A : Type 0} → Option A → Option A → Option A
or_else None b = b
or_else (Some a) b = Some a

-- names behind names
pub standing_behind : {A : Type 0} (ys us : List (List ℕ)) (ls vs : List A) (z : List ℕ) → length ys ≡ length ls → standing (ys ++ us) (ls ++ vs) z ≡ or_else (standing ys ls z) (standing us vs z)
standing_behind [] us [] vs z e = refl
standing_behind [] us (l ∷ ls) vs z e = absurd cc
standing_behind (y ∷ ys) us [] vs z e = absurd cc
standing_behind {A} (y ∷ ys) us (l ∷ ls) vs z e = by_test (bytes_eq z y) (let same : length ys ≡ length ls = omega (arith, e) in standing_behind ys us ls vs z same)
  where
    by_test : (b : Bool) → standing (ys ++ us) (ls ++ vs) z ≡ or_else (standing ys ls z) (standing us vs z) → (if b then Some l else standing (ys ++ us) (ls ++ vs) z) ≡ or_else (if b then Some l else standing ys ls z) (standing us vs z)
    by_test true h = refl
    by_test false h = h

-- the same of locals
local_behind : (l : Locals) (us : List (List ℕ)) (vs : List Local) (z : List ℕ) → IsAligned l → at_name (l.names ++ us) (l.meanings ++ vs) z ≡ or_else (local_in l z) (standing us vs z)
local_behind l us vs z a = at_standing (l.names ++ us) (l.meanings ++ vs) z ∙ standing_behind l.names us l.meanings vs z a ∙ ap (λ o. or_else o (standing us vs z)) (sym (at_standing l.names l.meanings z))

-- a local of C is found in front or behind
real_or : (s : Scope) (v : Names) (h : Finds s v) (o : Option Local) (z : List ℕ) (t : CType) (p : Option Local) → local_of s z ≡ p → or_else p o ≡ Some (locals.Real t) → or_else (local_in v.locals z) o ≡ Some (locals.Real t)
real_or s v h o z t None e k = ap (λ q. or_else q o) (h.no_local z e) ∙ k
real_or s v h o z t (Some (locals.Real u)) e k = ap (λ q. or_else q o) (h.local z u e) ∙ k
real_or s v h o z t (Some (locals.Ghost g)) e k = absurd cc

none_or : (s : Scope) (v : Names) (h : Finds s v) (o : Option Local) (z : List ℕ) (p : Option Local) → local_of s z ≡ p → or_else p o ≡ None → or_else (local_in v.locals z) o ≡ None
none_or s v h o z None e k = ap (λ q. or_else q o) (h.no_local z e) ∙ k
none_or s v h o z (Some l) e k = absurd cc

-- one more local of C in both
grown_names : Names → List ℕ → CType → Names
grown_names v y t = record v { locals = with_local v.locals y (locals.Real t) }

pub finds_grown : (s : Scope) (v : Names) (y : List ℕ) (t : CType) → IsAligned s.locals → IsAligned v.locals → Finds s v → Finds (record s { locals = with_local s.locals y (locals.Real t) }) (record v { locals = with_local v.locals y (locals.Real t) })
finds_grown s v y t a b h = record {
  local = λ z u e. local_behind v.locals (y ∷ []) (locals.Real t ∷ []) z b ∙ real_or s v h (standing (y ∷ []) (locals.Real t ∷ []) z) z u (local_of s z) refl (sym (local_behind s.locals (y ∷ []) (locals.Real t ∷ []) z a) ∙ e);
  no_local = λ z e. local_behind v.locals (y ∷ []) (locals.Real t ∷ []) z b ∙ none_or s v h (standing (y ∷ []) (locals.Real t ∷ []) z) z (local_of s z) refl (sym (local_behind s.locals (y ∷ []) (locals.Real t ∷ []) z a) ∙ e);
  declared = λ x f m c e. h.declared x f m c (sym (meaning_same s (with_local s.locals y (locals.Real t)) x f) ∙ e);
  undeclared = h.undeclared;
}

pub aligned_grown : (l : Locals) (y : List ℕ) (x : Local) → IsAligned l → IsAligned (with_local l y x)
aligned_grown l y x a = length-append l.names (y ∷ []) ∙ ap (λ n. n + 1) a ∙ sym (length-append l.meanings (x ∷ []))

-- where one more local of C is declared
abbrev pub grown : (x : Stands) (y : List ℕ) (t : CType) (k : ℕ) → IsAligned x.scope.locals → Stands
grown x y t k a = record {
  scope = record x.scope { locals = with_local x.scope.locals y (locals.Real t) };
  first = record x.first { locals = with_local x.first.locals y (locals.Real t) };
  second = record x.second { locals = with_local x.second.locals y (locals.Real t) };
  finds = finds_grown x.scope x.first y t a x.aligned x.finds;
  found = finds_grown x.scope x.second y t a (subst IsAligned x.locals x.aligned) x.found;
  locals = ap (λ l. with_local l y (locals.Real t)) x.locals;
  aligned = aligned_grown x.first.locals y (locals.Real t) x.aligned;
  numbers = x.numbers ++ k ∷ [];
  beside = length-append x.first.locals.names (y ∷ []) ∙ ap (λ n. n + 1) x.beside ∙ sym (length-append x.numbers (k ∷ []));
  statement = x.statement;
}

-- names of annotations are none of C
ghost_or : (o : Option Local) (ns : List (List ℕ)) (gs : List GhostLocal) (z : List ℕ) (t : CType) → or_else o (standing ns (map locals.Ghost gs) z) ≡ Some (locals.Real t) → o ≡ Some (locals.Real t)
ghost_or (Some l) ns gs z t h = h
ghost_or None [] gs z t h = absurd cc
ghost_or None (n ∷ ns) [] z t h = absurd cc
ghost_or None (n ∷ ns) (g ∷ gs) z t h = by_test (bytes_eq z n) h (ghost_or None ns gs z t)
  where
    by_test : (b : Bool) → (if b then Some (locals.Ghost g) else standing ns (map locals.Ghost gs) z) ≡ Some (locals.Real t) → (standing ns (map locals.Ghost gs) z ≡ Some (locals.Real t) → ◌≡◌ {A = Option Local} None (Some (locals.Real t))) → ◌≡◌ {A = Option Local} None (Some (locals.Real t))
    by_test true h f = absurd cc
    by_test false h f = f h

first_none : (o p : Option Local) → or_else o p ≡ None → o ≡ None
first_none None p h = refl
first_none (Some l) p h = absurd cc

pub finds_ghosts : (s : Scope) (v : Names) (ns : List (List ℕ)) (gs : List GhostLocal) → IsAligned s.locals → Finds s v → Finds (record s { locals = record { names = s.locals.names ++ ns; meanings = s.locals.meanings ++ map locals.Ghost gs } }) v
finds_ghosts s v ns gs a h = record {
  local = λ z t e. h.local z t (ghost_or (local_of s z) ns gs z t (sym (local_behind s.locals ns (map locals.Ghost gs) z a) ∙ e));
  no_local = λ z e. h.no_local z (first_none (local_of s z) (standing ns (map locals.Ghost gs) z) (sym (local_behind s.locals ns (map locals.Ghost gs) z a) ∙ e));
  declared = λ x f m c e. h.declared x f m c (sym (meaning_same s (record { names = s.locals.names ++ ns; meanings = s.locals.meanings ++ map locals.Ghost gs }) x f) ∙ e);
  undeclared = h.undeclared;
}

-- where names of annotations are declared in the scope alone
pub ghosts_grown : (x : Stands) (t : Scope) → IsAligned x.scope.locals → AddsGhosts x.scope t → Stands
ghosts_grown x t a h = record x {
  scope = t;
  finds = subst (λ (u : Scope). Finds u x.first) (sym h.is) (finds_ghosts x.scope x.first h.names h.ghosts a x.finds);
  found = subst (λ (u : Scope). Finds u x.second) (sym h.is) (finds_ghosts x.scope x.second h.names h.ghosts a x.found);
}
