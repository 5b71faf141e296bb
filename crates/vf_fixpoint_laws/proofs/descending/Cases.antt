-- Names of cases: they hide nothing, stand behind the parameters, and are gone behind their case.
use Rattle.std.proofs.Common.{◌≡◌, refl, sym, ap, ap₂, subst, ◌∙◌, ℕ, zero, suc, ◌+◌, ◌≤◌, Bool, true, false, cond, List, [], ◌∷◌, ◌++◌, length, take, map, slice_get, Option, Some, None, arith}
use Rattle.std.specs.Prelude.{◌<◌, ◌||◌, if◌then◌else◌, is_some, IsTrue}
use Rattle.std.specs.List.{list_any, position_from}
use Rattle.std.specs.Str.{bytes_eq}
use Rattle.std.proofs.Math.Seq.{take-append_seam}
use Rattle.std.proofs.lemmas.Slice.Eq.{bytes_eq-Decides}
use Rattle.vf_base.specs.declared.refusal.Refusal.{Refusal}
use Rattle.vf_names.specs.Names.{number_of}
use Rattle.vf_sorts.specs.Sorts.{Sort}
use Rattle.vf_sorts.specs.Unknowns.{Known}
use Rattle.vf_syntax.specs.declared.written.Name.{Name}
use Rattle.vf_declared.specs.declared.locals.Local.{Local}
use Rattle.vf_declared.specs.declared.locals.Locals.{Locals}
use Rattle.vf_declared.specs.declared.scope.Scope.{Scope}
use Rattle.vf_declared.specs.Changes.{IsAligned}
use Rattle.vf_binding.specs.declared.bound.Bound.{Bound}
use Rattle.vf_binding.specs.Bound.{bound_local, name_refusal, names_real, with_names}
use Rattle.vf_asserting.specs.Cases.{NamesBind, none_bind, one_binds, names_or_none}
use Rattle.vf_asserting.specs.Leaving.{count, left}
use Rattle.vf_terms.specs.Named.{local_term}
use Rattle.vf_defining.specs.Symbols.{symbols_from}
use Rattle.vf_fixpoint.specs.Cases.{components_of}
use Rattle.vf_fixpoint_laws.specs.bodies.Recursion.{IsComponent, Ranks, TermGoesDown}
use Rattle.vf_tree.specs.Core.{Identity}
use Rattle.vf_fixpoint_laws.proofs.descending.Lists.{none_some}

abbrev pub texts : List Name → List (List ℕ)
texts ns = map (λ (n : Name). n.text) ns

-- a name is one of those of a case
abbrev pub IsNamed : List ℕ → List Name → Type 0
IsNamed x ns = IsTrue (list_any (λ (n : Name). bytes_eq x n.text) ns)

pub components_are : (o : Option (List Name)) → components_of o ≡ names_or_none o
components_are None = refl
components_are (Some ns) = refl

-- ---- names that hide nothing
free_of : (p : Bool) (o : Option ℕ) (q : Bool) (x y : Refusal) → ◌≡◌ {A = Option Refusal} (if p then Some x else if is_some o || q then Some y else None) None → o ≡ None
free_of true o q x y e = absurd (none_some (sym e))
free_of false None q x y e = refl
free_of false (Some k) q x y e = absurd (none_some (sym e))

free_name : (s : Scope) (b : Bound) (n : Name) → name_refusal s b n ≡ None → number_of s.locals.names n.text ≡ None
free_name s b n e = free_of (names_real s n.text n.place.file) (number_of s.locals.names n.text) (is_some (number_of b.names n.text)) _ _ e

pub names_free : {s : Scope} {b b' : Bound} {ns : List Name} {ts : List Sort} → NamesBind s b ns ts b' → (x : List ℕ) → IsNamed x ns → number_of s.locals.names x ≡ None
names_free none_bind x h = absurd (let e : false ≡ true = h in cc)
names_free {s} (one_binds {b} {n} {ns} free rest) x h = by (bytes_eq x n.text) refl h (names_free rest x)
  where
    by : (d : Bool) → bytes_eq x n.text ≡ d → (d || list_any (λ (n : Name). bytes_eq x n.text) ns) ≡ true → (IsNamed x ns → number_of s.locals.names x ≡ None) → number_of s.locals.names x ≡ None
    by true e h f = subst (λ (y : List ℕ). number_of s.locals.names y ≡ None) (sym ((bytes_eq-Decides x n.text).0 e)) (free_name s b n free)
    by false e h f = f h

pub names_counted : {s : Scope} {b b' : Bound} {ns : List Name} {ts : List Sort} → NamesBind s b ns ts b' → length ns ≡ length ts
names_counted none_bind = refl
names_counted (one_binds free rest) = ap suc (names_counted rest)

-- ---- the numbers of names of a case
-- where a name of a case is found behind others
record IsFoundBehind (x : List ℕ) (i : ℕ) (ps : List (List ℕ)) (ns : List Name) : Type 0 where
  number : ℕ
  found : position_from (bytes_eq x) i (ps ++ texts ns) ≡ Some number
  past : i + length ps ≤ number
  below : number < i + length ps + length ns

found_named : (x : List ℕ) (i : ℕ) (ns : List Name) → IsNamed x ns → IsFoundBehind x i [] ns
found_named x i [] h = absurd (let e : false ≡ true = h in cc)
found_named x i (n ∷ ns) h = by (bytes_eq x n.text) refl h (found_named x (i + 1) ns)
  where
    by : (d : Bool) → bytes_eq x n.text ≡ d → (d || list_any (λ (n : Name). bytes_eq x n.text) ns) ≡ true → (IsNamed x ns → IsFoundBehind x (i + 1) [] ns) → IsFoundBehind x i [] (n ∷ ns)
    by true e h f = record { number = i; found = ap (λ b. cond b (Some i) (position_from (bytes_eq x) (i + 1) (texts ns))) e; past = omega arith; below = omega arith }
    by false e h f =
        let r = f h in
        let p = r.past in
        let q = r.below in
        record { number = r.number; found = ap (λ b. cond b (Some i) (position_from (bytes_eq x) (i + 1) (texts ns))) e ∙ r.found; past = omega (arith, p); below = omega (arith, q) }

found_behind : (x : List ℕ) (i : ℕ) (ps : List (List ℕ)) (ns : List Name) → position_from (bytes_eq x) i ps ≡ None → IsNamed x ns → IsFoundBehind x i ps ns
found_behind x i [] ns e h = found_named x i ns h
found_behind x i (y ∷ ps) ns e h = by (bytes_eq x y) refl e (found_behind x (i + 1) ps ns)
  where
    by : (d : Bool) → bytes_eq x y ≡ d → cond d (Some i) (position_from (bytes_eq x) (i + 1) ps) ≡ None → (position_from (bytes_eq x) (i + 1) ps ≡ None → IsNamed x ns → IsFoundBehind x (i + 1) ps ns) → IsFoundBehind x i (y ∷ ps) ns
    by true b e f = absurd (none_some (sym e))
    by false b e f =
        let r = f e h in
        let p = r.past in
        let q = r.below in
        record { number = r.number; found = ap (λ d. cond d (Some i) (position_from (bytes_eq x) (i + 1) (ps ++ texts ns))) b ∙ r.found; past = omega (arith, p); below = omega (arith, q) }

-- a name of a case that is no name of a local stands behind these
pub record StandsBehind (x : List ℕ) (ps : List (List ℕ)) (ns : List Name) : Type 0 where
  pub number : ℕ
  pub found : number_of (ps ++ texts ns) x ≡ Some number
  pub past : length ps ≤ number
  pub below : number < length ps + length ns

pub stands_behind : (x : List ℕ) (ps : List (List ℕ)) (ns : List Name) → number_of ps x ≡ None → IsNamed x ns → StandsBehind x ps ns
stands_behind x ps ns e h =
    let r = found_behind x 0 ps ns e h in
    let p = r.past in
    let q = r.below in
    record { number = r.number; found = r.found; past = omega (arith, p); below = omega (arith, q) }

-- ---- symbols
pub symbol_behind : (n : ℕ) (k : Known) (ls : List Local) (from j : ℕ) → j < length ls → n ≤ from + j → IsComponent n (Some (local_term (slice_get (symbols_from k from ls) j)))
symbol_behind n k [] from j l h = absurd (omega (arith, l))
symbol_behind n k (x ∷ ls) from zero l h = omega (arith, h)
symbol_behind n k (x ∷ ls) from (suc j) l h = symbol_behind n k ls (suc from) j (omega (arith, l)) (omega (arith, h))

pub symbol_down : (r : Ranks) (c : Identity) (n : ℕ) (o : Option ℕ) (k : Known) (ls : List Local) (from j : ℕ) → TermGoesDown r c n o (local_term (slice_get (symbols_from k from ls) j))
symbol_down r c n o k [] from j = (tt, tt)
symbol_down r c n o k (x ∷ ls) from zero = (tt, tt)
symbol_down r c n o k (x ∷ ls) from (suc j) = symbol_down r c n o k ls (suc from) j

-- ---- names that are gone
abbrev as_locals : List (List ℕ) → List Local → Locals
as_locals xs ls = record { names = xs; meanings = ls }

abbrev with_locals : Scope → Locals → Scope
with_locals s l = record s { locals = l }

-- behind names that are gone there is what was declared before
pub left_same : (s : Scope) (b : Bound) → IsAligned s.locals → left (count s) (with_names s b) ≡ s
left_same s b aligned =
    ap (with_locals s)
    (ap₂ as_locals (take-append_seam s.locals.names b.names)
    (subst (λ n. take n (s.locals.meanings ++ map bound_local b.sorts) ≡ s.locals.meanings) (sym aligned) (take-append_seam s.locals.meanings (map bound_local b.sorts))))
