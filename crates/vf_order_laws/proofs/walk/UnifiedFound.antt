-- What making two sorts equal comes to: what is known then makes them equal, and nothing else; or they are apart.
use Rattle.std.proofs.Common.{◌≡◌, ◌≢◌, ◌↔◌, ℕ, zero, suc, ◌+◌, ◌<◌, ◌≤◌, nat_eq, List, [], ◌∷◌, ◌++◌, length, map, reverse, Bool, true, false, ◌&&◌, if◌then◌else◌, IsTrue, Option, Some, None, refl, sym, ◌∙◌, ap, ap₂, subst, arith}
use Rattle.std.specs.Prelude.{slice_get, MatchOption}
use Rattle.std.specs.Option.{option_map}
use Rattle.std.proofs.lemmas.List.{reverse-append, reverse-reverse, length-map, length-set}
use Rattle.std.proofs.lemmas.List.Sums.{sum_by-append, sum_by-cons}
use Rattle.std.proofs.lemmas.Bool.Decides.{nat_tests}
use mathlib.Core.List.{reverse-cons}
use base.Stored.{Gv, gnil, gnum, gcons}
use Rattle.vf_sorts.specs.contracts.sort.Head as head_row
use Rattle.vf_sorts.specs.declared.sort.Head.{Head}
use Rattle.vf_sorts.specs.declared.sort.Head.TheVariants as heads
use Rattle.vf_sorts.specs.declared.pair.Pair.{Pair}
use Rattle.vf_sorts.specs.Sorts.{Sort, Sorts, sort, no_sorts, and_sort, row, size_of}
use Rattle.vf_sorts.specs.Told.{AreAlike, as_told, untold, untold_head}
use Rattle.vf_sorts.specs.Codes.{are_stored_alike, head_code}
use Rattle.vf_sorts.specs.Unknowns.{Filling, filled, Known, by_known, Agrees, AgreesAsTold, IsBelow, IsOpen, IsResolved, is_in, only, with_known}
use Rattle.vf_sorts.specs.Pairs.{head_of, paired, AreEqual, AllEqual, ArePairBelow, AreBelow, pair_size, load, left_to_do, open_count, weight}
use Rattle.vf_sorts.specs.Unifying.{AreApart, Equates, Left, are_heads_alike, beside, by_heads, by_unknown, first_made, is_numbered, listed, made_within, pair_of, then_made, unified, unknown_of, with_parts, with_sort}
use Rattle.vf_sorts.proofs.Agreeing.{told_respects, untold_respects}
use Rattle.vf_sorts.proofs.Learning.{agrees_with, resolved_with}
use Rattle.vf_sorts.proofs.Occurring.{never_equal}
use Rattle.vf_sorts.proofs.Weights.{dropped_less, learnt_less, less, some_size}
use Rattle.vf_sorts.proofs.Making.{below_append, below_then, equal_then, heads_apart, lengths_apart, less_then, made_left, made_pair, made_right, opened, told_left, told_pair, told_right, told_then, falls_right}

-- ---- heads
numbered_head : (h : Head) (u : ℕ) → unknown_of h ≡ Some u → h ≡ heads.Unknown u
numbered_head heads.Int u e = absurd cc
numbered_head heads.Bool u e = absurd cc
numbered_head (heads.Pointer w) u e = absurd cc
numbered_head heads.Real u e = absurd cc
numbered_head heads.Any u e = absurd cc
numbered_head (heads.Parameter i) u e = absurd cc
numbered_head (heads.Unknown v) u e = let p : v ≡ u = cc in ap heads.Unknown p
numbered_head (heads.Datatype d) u e = absurd cc
numbered_head heads.Predicate u e = absurd cc

no_unknown : (h : Head) → unknown_of h ≡ None → (u : ℕ) → h ≢ heads.Unknown u
no_unknown h e u p = let q = ap unknown_of p in cc

both_true : (a b : Bool) → IsTrue (a && b) → IsTrue a × IsTrue b
both_true true b h = (refl, h)
both_true false b h = absurd cc

true_both : (a b : Bool) → IsTrue a → IsTrue b → IsTrue (a && b)
true_both true b h k = k
true_both false b h k = absurd cc

stored_alike : (a b : Gv) → IsTrue (are_stored_alike a b) → a ≡ b
stored_alike gnil gnil h = refl
stored_alike gnil (gnum n) h = absurd cc
stored_alike gnil (gcons x y) h = absurd cc
stored_alike (gnum m) gnil h = absurd cc
stored_alike (gnum m) (gnum n) h = let e : m ≡ n = grind (arith, h) in ap gnum e
stored_alike (gnum m) (gcons x y) h = absurd cc
stored_alike (gcons a b) gnil h = absurd cc
stored_alike (gcons a b) (gnum n) h = absurd cc
stored_alike (gcons a b) (gcons x y) h = let k = both_true (are_stored_alike a x) (are_stored_alike b y) h in ap₂ gcons (stored_alike a x k.0) (stored_alike b y k.1)

itself_alike : (a : Gv) → IsTrue (are_stored_alike a a)
itself_alike gnil = refl
itself_alike (gnum m) = grind arith
itself_alike (gcons a b) = true_both (are_stored_alike a a) (are_stored_alike b b) (itself_alike a) (itself_alike b)

heads_one : (h g : Head) → are_heads_alike h g ≡ true → untold_head h ≡ untold_head g
heads_one h g e = head_row.the_row.coded.inj (untold_head h) (untold_head g) (stored_alike (head_code (untold_head h)) (head_code (untold_head g)) e)

heads_other : (h g : Head) → are_heads_alike h g ≡ false → untold_head h ≢ untold_head g
heads_other h g e p = let q : IsTrue (are_heads_alike h g) = subst (λ (w : Head). IsTrue (are_stored_alike (head_code (untold_head h)) (head_code w))) p (itself_alike (head_code (untold_head h))) in cc

row_listed : (ts : Sorts) → row (listed ts) ≡ ts
row_listed no_sorts = refl
row_listed (and_sort t ts) = ap (and_sort t) (row_listed ts)

-- ---- pairs in the other order
all_append : (o : Sort → Sort) (f : Filling) (ps qs : List Pair) → AllEqual o f ps → AllEqual o f qs → AllEqual o f (ps ++ qs)
all_append o f [] qs a b = b
all_append o f (p ∷ ps) qs a b = (a.0, all_append o f ps qs a.1 b)

all_reversed : (o : Sort → Sort) (f : Filling) (ps : List Pair) → AllEqual o f ps → AllEqual o f (reverse ps)
all_reversed o f [] a = tt
all_reversed o f (p ∷ ps) a = rw (reverse-cons p ps) (all_append o f (reverse ps) (p ∷ []) (all_reversed o f ps a.1) (a.0, tt))

all_unreversed : (o : Sort → Sort) (f : Filling) (ps : List Pair) → AllEqual o f (reverse ps) → AllEqual o f ps
all_unreversed o f ps a = subst (AllEqual o f) (reverse-reverse ps) (all_reversed o f (reverse ps) a)

below_reversed : (n : ℕ) (ps : List Pair) → AreBelow n ps → AreBelow n (reverse ps)
below_reversed n [] a = tt
below_reversed n (p ∷ ps) a = rw (reverse-cons p ps) (below_append n (reverse ps) (p ∷ []) (below_reversed n ps a.1) (a.0, tt))

below_unreversed : (n : ℕ) (ps : List Pair) → AreBelow n (reverse ps) → AreBelow n ps
below_unreversed n ps a = subst (AreBelow n) (reverse-reverse ps) (below_reversed n (reverse ps) a)

load_reversed : (k : Known) (ps : List Pair) → load k (reverse ps) ≡ load k ps
load_reversed k [] = refl
load_reversed k (p ∷ ps) = rw (reverse-cons p ps)
    (let a = load_reversed k ps in
    let b = sum_by-append (pair_size k) (reverse ps) (p ∷ []) in
    let c = sum_by-cons (pair_size k) p ps in
    let d = sum_by-cons (pair_size k) p [] in
    omega (arith, a, b, c, d))

-- ---- an unknown sort is made equal to a sort
-- what is known then
record Learns (k : Known) (u : ℕ) (s : Sort) (k' : Known) : Type 0 where
  long : length k' ≡ length k
  resolved : IsResolved k'
  kept : (f : Filling) → AgreesAsTold f k' → AgreesAsTold f k
  equal : (f : Filling) → Agrees f k' ↔ (Agrees f k × AreAlike (f u) (filled f s))
  told : (f : Filling) → AgreesAsTold f k → f u ≡ filled f s → AgreesAsTold f k'
  falls : (ps : List Pair) (more : ℕ) → 0 < more → weight k' ps < left_to_do (open_count k) (more + size_of s + load k ps)

unknown_filled : (f : Filling) (s : Sort) (u : ℕ) → head_of s ≡ heads.Unknown u → filled f s ≡ f u
unknown_filled f (sort h ts) u e = ap (λ (k : Head). filled f (sort k ts)) e

unknown_open : (k : Known) (s : Sort) (u : ℕ) → head_of s ≡ heads.Unknown u → IsOpen k s → slice_get k u ≡ Some None
unknown_open k (sort h ts) u e o = subst (λ (g : Head). IsOpen k (sort g ts)) e o

numbered_so : (u : ℕ) (o : Option ℕ) → is_numbered u o ≡ true → o ≡ Some u
numbered_so u None e = absurd cc
numbered_so u (Some v) e = let p : v ≡ u = grind (arith, nat_tests) in ap Some p

numbered_not : (u : ℕ) (s : Sort) → is_numbered u (unknown_of (head_of s)) ≡ false → head_of s ≢ heads.Unknown u
numbered_not u s e p =
    let q = ap (λ (h : Head). is_numbered u (unknown_of h)) p in
    let r : nat_eq u u ≡ true = grind (arith, nat_tests) in
    cc

sort_learnt : (k : Known) (u : ℕ) (s : Sort) → slice_get k u ≡ Some None → IsOpen k s → IsResolved k → MatchOption (with_sort k u s) ((f : Filling) → AreAlike (f u) (filled f s) → ⊥) (Learns k u s)
sort_learnt k u s h o r = by (is_numbered u (unknown_of (head_of s))) (is_in u s) refl refl
  where
    by : (b c : Bool) → is_numbered u (unknown_of (head_of s)) ≡ b → is_in u s ≡ c → MatchOption (if b then Some k else if c then None else Some (with_known k u s)) ((f : Filling) → AreAlike (f u) (filled f s) → ⊥) (Learns k u s)
    by true c e i =
        let same : (f : Filling) → f u ≡ filled f s = (λ f. sym (unknown_filled f s u (numbered_head (head_of s) u (numbered_so u (unknown_of (head_of s)) e)))) in
        record {
          long = refl;
          resolved = r;
          kept = λ f a. a;
          equal = λ f. (λ a. (a, ap untold (same f)), λ a. a.0);
          told = λ f a e. a;
          falls = λ ps more p. dropped_less k ps more (size_of s) p;
        }
    by false true e i = λ f. never_equal f u s (numbered_not u s e) i
    by false false e i = record {
      long = length-set (map (option_map (filled (only u s))) k) u (Some s) ∙ length-map k (option_map (filled (only u s)));
      resolved = resolved_with k u s h o i r;
      kept = λ f a. ((agrees_with as_told told_respects k u s h f).0 a).0;
      equal = λ f. agrees_with untold untold_respects k u s h f;
      told = λ f a e. (agrees_with as_told told_respects k u s h f).1 (a, e);
      falls = λ ps more p. learnt_less k u s h ps more p;
    }

-- ---- two sorts in which what is known stands for the unknown ones
-- what is known then, and what is left
record Joins (k : Known) (l r : Sort) (ps : List Pair) (k' : Known) (qs : List Pair) : Type 0 where
  long : length k' ≡ length k
  resolved : IsResolved k'
  below : AreBelow (length k) qs
  kept : (f : Filling) → AgreesAsTold f k' → AgreesAsTold f k
  equal : (f : Filling) → (Agrees f k' × AllEqual untold f qs) ↔ (Agrees f k × AreAlike (filled f l) (filled f r) × AllEqual untold f ps)
  told : (f : Filling) → AgreesAsTold f k → filled f l ≡ filled f r → AllEqual as_told f ps → AgreesAsTold f k' × AllEqual as_told f qs
  falls : weight k' qs < left_to_do (open_count k) (size_of l + size_of r + load k ps)

-- nothing makes them equal
abbrev Never : Sort → Sort → Type 0
Never l r = (f : Filling) → AreAlike (filled f l) (filled f r) → ⊥

left_joins : (k : Known) (ps : List Pair) (l r : Sort) (u : ℕ) → head_of l ≡ heads.Unknown u → AreBelow (length k) ps → (o : Option Known) → MatchOption o ((f : Filling) → AreAlike (f u) (filled f r) → ⊥) (Learns k u r)
    → MatchOption (option_map (beside ps) o) (Never l r) (λ q. Joins k l r ps q.0 q.1)
left_joins k ps l r u is below None m = made_left false k k u l r ps is m
left_joins k ps l r u is below (Some k') m = record {
  long = m.long;
  resolved = m.resolved;
  below = below;
  kept = m.kept;
  equal = made_left true k k' u l r ps is m.equal;
  told = told_left k k' u l r ps is m.told;
  falls = m.falls ps (size_of l) (some_size l);
}

right_joins : (k : Known) (ps : List Pair) (l r : Sort) (u : ℕ) → head_of r ≡ heads.Unknown u → AreBelow (length k) ps → (o : Option Known) → MatchOption o ((f : Filling) → AreAlike (f u) (filled f l) → ⊥) (Learns k u l)
    → MatchOption (option_map (beside ps) o) (Never l r) (λ q. Joins k l r ps q.0 q.1)
right_joins k ps l r u is below None m = made_right false k k u l r ps is m
right_joins k ps l r u is below (Some k') m = record {
  long = m.long;
  resolved = m.resolved;
  below = below;
  kept = m.kept;
  equal = made_right true k k' u l r ps is m.equal;
  told = told_right k k' u l r ps is m.told;
  falls = falls_right k k' l r ps (weight k' ps) (m.falls ps (size_of r) (some_size r));
}

parts_join : (k : Known) (ps : List Pair) (h g : Head) (ts us : Sorts) → ((u : ℕ) → h ≢ heads.Unknown u) → ((u : ℕ) → g ≢ heads.Unknown u) → IsResolved k → IsOpen k (sort h ts) → IsOpen k (sort g us) → AreBelow (length k) ps
    → MatchOption (with_parts k ps (sort h ts) (sort g us)) (Never (sort h ts) (sort g us)) (λ q. Joins k (sort h ts) (sort g us) ps q.0 q.1)
parts_join k ps h g ts us m n resolved a b below = by (are_heads_alike h g) (nat_eq (length (listed ts)) (length (listed us))) refl refl
  where
    l : sort h (row (listed ts)) ≡ sort h ts
    l = ap (sort h) (row_listed ts)

    r : sort g (row (listed us)) ≡ sort g us
    r = ap (sort g) (row_listed us)

    turned : reverse (paired (listed ts) (listed us) ++ ps) ≡ reverse ps ++ reverse (paired (listed ts) (listed us))
    turned = reverse-append (paired (listed ts) (listed us)) ps

    falls : weight k (paired (listed ts) (listed us) ++ ps) < left_to_do (open_count k) (size_of (sort h ts) + size_of (sort g us) + load k ps)
    falls = subst (λ (m : ℕ). left_to_do (open_count k) m < left_to_do (open_count k) (size_of (sort h ts) + size_of (sort g us) + load k ps)) (load_reversed k (paired (listed ts) (listed us) ++ ps))
        (subst (λ (m : ℕ). weight k (reverse (paired (listed ts) (listed us) ++ ps)) < left_to_do (open_count k) (size_of (sort h ts) + size_of (sort g us) + m)) (load_reversed k ps)
        (less_then k (sort h ts) (sort g us) h g (listed ts) (listed us) (reverse ps) _ l r m n a b turned))

    by : (x y : Bool) → are_heads_alike h g ≡ x → nat_eq (length (listed ts)) (length (listed us)) ≡ y
        → MatchOption {T = Left} (if x && y then Some (k, paired (listed ts) (listed us) ++ ps) else None) (Never (sort h ts) (sort g us)) (λ q. Joins k (sort h ts) (sort g us) ps q.0 q.1)
    by false y e c = heads_apart (sort h ts) (sort g us) h g (listed ts) (listed us) l r m n (heads_other h g e)
    by true false e c = lengths_apart (sort h ts) (sort g us) h g (listed ts) (listed us) l r m n (λ q. let z : nat_eq (length (listed ts)) (length (listed us)) ≡ true = grind (arith, q, nat_tests) in cc)
    by true true e c = record {
      long = refl;
      resolved = resolved;
      below = below_unreversed (length k) _ (below_then k (sort h ts) (sort g us) h g (listed ts) (listed us) (reverse ps) _ l r m n a b (below_reversed (length k) ps below) turned);
      kept = λ f q. q;
      equal = λ f.
          let w = equal_then k (sort h ts) (sort g us) h g (listed ts) (listed us) (reverse ps) _ l r m n (heads_one h g e) (grind (arith, c, nat_tests)) turned f in (
            λ q. let z = w.0 (q.0, all_reversed untold f _ q.1) in (z.0, z.1, all_unreversed untold f ps z.2),
            λ q. let z = w.1 (q.0, q.1, all_reversed untold f ps q.2) in (z.0, all_unreversed untold f _ z.1),
          );
      told = λ f q s all.
          let z = told_then k (sort h ts) (sort g us) h g (listed ts) (listed us) (reverse ps) _ l r m n turned f q s (all_reversed as_told f ps all) in
          (z.0, all_unreversed as_told f _ z.1);
      falls = falls;
    }

heads_join : (k : Known) (ps : List Pair) (l r : Sort) → IsResolved k → IsOpen k l → IsOpen k r → AreBelow (length k) ps → MatchOption (by_heads k ps l r) (Never l r) (λ q. Joins k l r ps q.0 q.1)
heads_join k ps (sort h ts) (sort g us) resolved a b below = by (unknown_of h) (unknown_of g) refl refl
  where
    by : (x y : Option ℕ) → unknown_of h ≡ x → unknown_of g ≡ y → MatchOption (by_unknown k ps (sort h ts) (sort g us) x y) (Never (sort h ts) (sort g us)) (λ q. Joins k (sort h ts) (sort g us) ps q.0 q.1)
    by (Some u) y e f = let is = numbered_head h u e in left_joins k ps (sort h ts) (sort g us) u is below (with_sort k u (sort g us)) (sort_learnt k u (sort g us) (unknown_open k (sort h ts) u is a) b resolved)
    by None (Some u) e f = let is = numbered_head g u f in right_joins k ps (sort h ts) (sort g us) u is below (with_sort k u (sort h ts)) (sort_learnt k u (sort h ts) (unknown_open k (sort g us) u is b) a resolved)
    by None None e f = parts_join k ps h g ts us (no_unknown h e) (no_unknown g f) resolved a b below

-- ---- the first pair
-- what is known then, and what is left
record Steps (k : Known) (p : Pair) (ps : List Pair) (k' : Known) (qs : List Pair) : Type 0 where
  long : length k' ≡ length k
  resolved : IsResolved k'
  below : AreBelow (length k) qs
  kept : (f : Filling) → AgreesAsTold f k' → AgreesAsTold f k
  equal : (f : Filling) → (Agrees f k' × AllEqual untold f qs) ↔ (Agrees f k × AreEqual untold f p × AllEqual untold f ps)
  told : (f : Filling) → AgreesAsTold f k → AreEqual as_told f p → AllEqual as_told f ps → AgreesAsTold f k' × AllEqual as_told f qs
  falls : weight k' qs < weight k (p ∷ ps)

first_steps : (k : Known) (p : Pair) (ps : List Pair) → IsResolved k → ArePairBelow (length k) p → AreBelow (length k) ps → MatchOption (first_made k p ps) ((f : Filling) → Agrees f k → AreEqual untold f p → ⊥) (λ q. Steps k p ps q.0 q.1)
first_steps k p ps resolved pair below = by (first_made k p ps) (heads_join k ps l r resolved (opened k p.left l resolved pair.0 refl) (opened k p.right r resolved pair.1 refl) below)
  where
    l : Sort
    l = filled (by_known k) p.left

    r : Sort
    r = filled (by_known k) p.right

    by : (o : Option Left) → MatchOption o (Never (filled (by_known k) p.left) (filled (by_known k) p.right)) (λ q. Joins k (filled (by_known k) p.left) (filled (by_known k) p.right) ps q.0 q.1) → MatchOption o ((f : Filling) → Agrees f k → AreEqual untold f p → ⊥) (λ q. Steps k p ps q.0 q.1)
    by None m = made_pair false k k p _ _ ps ps refl refl m
    by (Some q) m = record {
      long = m.long;
      resolved = m.resolved;
      below = m.below;
      kept = m.kept;
      equal = made_pair true k q.0 p _ _ ps q.1 refl refl m.equal;
      told = told_pair k q.0 p _ _ ps q.1 refl refl m.told;
      falls = subst (λ (n : ℕ). weight q.0 q.1 < left_to_do (open_count k) n) (sym (sum_by-cons (pair_size k) p ps)) m.falls;
    }

-- ---- pairs one after the other
-- what is known where all of them are equal
record Makes (k : Known) (ps : List Pair) (k' : Known) : Type 0 where
  long : length k' ≡ length k
  resolved : IsResolved k'
  kept : (f : Filling) → AgreesAsTold f k' → AgreesAsTold f k
  equal : (f : Filling) → Agrees f k' ↔ (Agrees f k × AllEqual untold f ps)
  told : (f : Filling) → AgreesAsTold f k → AllEqual as_told f ps → AgreesAsTold f k'

-- nothing makes all of them equal
abbrev NeverAll : Known → List Pair → Type 0
NeverAll k ps = (f : Filling) → Agrees f k → AllEqual untold f ps → ⊥

none_made : (k : Known) → IsResolved k → Makes k [] k
none_made k r = record { long = refl; resolved = r; kept = λ f a. a; equal = λ f. (λ a. (a, tt), λ a. a.0); told = λ f a e. a }

some_left : (k : Known) (p : Pair) (ps : List Pair) → 0 < weight k (p ∷ ps)
some_left k p ps =
    let a = some_size (filled (by_known k) p.left) in
    let c = sum_by-cons (pair_size k) p ps in
    let h = less (open_count k) 0 (load k (p ∷ ps)) (omega (arith, a, c)) in
    omega (arith, h)

then_makes : (k : Known) (p : Pair) (ps : List Pair) (k₁ : Known) (qs : List Pair) → Steps k p ps k₁ qs → (o : Option Known) → MatchOption o (NeverAll k₁ qs) (Makes k₁ qs) → MatchOption o (NeverAll k (p ∷ ps)) (Makes k (p ∷ ps))
then_makes k p ps k₁ qs s None m = λ f a e. let b = (s.equal f).1 (a, e.0, e.1) in m f b.0 b.1
then_makes k p ps k₁ qs s (Some k') m = record {
  long = m.long ∙ s.long;
  resolved = m.resolved;
  kept = λ f a. s.kept f (m.kept f a);
  equal = λ f. (λ a. let b = (s.equal f).0 ((m.equal f).0 a) in (b.0, (b.1, b.2)), λ a. (m.equal f).1 ((s.equal f).1 (a.0, a.1.0, a.1.1)));
  told = λ f a e. let b = s.told f a e.0 e.1 in m.told f b.0 b.1;
}

all_made : (n : ℕ) (k : Known) (ps : List Pair) → IsResolved k → AreBelow (length k) ps → weight k ps ≤ n → MatchOption (made_within n k ps) (NeverAll k ps) (Makes k ps)
all_made zero k [] r b w = none_made k r
all_made (suc n) k [] r b w = none_made k r
all_made zero k (p ∷ ps) r b w = absurd (let h = some_left k p ps in omega (arith, h, w))
all_made (suc n) k (p ∷ ps) r b w = by (λ k₁ qs s. all_made n k₁ qs s.resolved (subst (λ (x : ℕ). AreBelow x qs) (sym s.long) s.below) (let h = s.falls in omega (arith, h, w))) (first_made k p ps) (first_steps k p ps r b.0 b.1)
  where
    by : ((k₁ : Known) (qs : List Pair) → Steps k p ps k₁ qs → MatchOption (made_within n k₁ qs) (NeverAll k₁ qs) (Makes k₁ qs)) → (o : Option Left) → MatchOption o ((f : Filling) → Agrees f k → AreEqual untold f p → ⊥) (λ q. Steps k p ps q.0 q.1) → MatchOption (then_made (λ l. made_within n l.0 l.1) o) (NeverAll k (p ∷ ps)) (Makes k (p ∷ ps))
    by go None m = λ f a e. m f a e.0
    by go (Some q) m = then_makes k p ps q.0 q.1 m (made_within n q.0 q.1) (go q.0 q.1 m)

-- ---- two sorts
pub unified_tells : (k : Known) (t u : Sort) → IsResolved k → IsBelow (length k) t → IsBelow (length k) u → MatchOption (unified k t u) (AreApart k t u) (λ k'. Equates k t u k' × IsResolved k')
unified_tells k t u r b c = by (unified k t u) refl (all_made (weight k (pair_of t u ∷ [])) k (pair_of t u ∷ []) r ((b, c), tt) (omega arith))
  where
    by : (o : Option Known) → unified k t u ≡ o → MatchOption o (NeverAll k (pair_of t u ∷ [])) (Makes k (pair_of t u ∷ [])) → MatchOption o (AreApart k t u) (λ k'. Equates k t u k' × IsResolved k')
    by None e m = record { apart = λ f a q. m f a (q, tt); unmade = e }
    by (Some k') e m = (
      record {
        long = m.long;
        alike = λ f. (λ a. let z = (m.equal f).0 a in (z.0, z.1.0), λ a. (m.equal f).1 (a.0, (a.1, tt)));
        kept = m.kept;
        told = λ f a q. m.told f a (q, tt);
        made = e;
      },
      m.resolved,
    )
