-- Pairs of sorts that are made equal.
use Rattle.std.proofs.Common.{◌≡◌, ◌≢◌, ◌↔◌, ℕ, suc, ◌+◌, ◌<◌, ◌≤◌, List, [], ◌∷◌, ◌++◌, length, reverse, Bool, true, false, MatchBool, Some, None, refl, sym, ◌∙◌, ap, ap₂, subst, arith}
use Rattle.std.specs.Prelude.{slice_get}
use Rattle.std.proofs.lemmas.List.{reverse-reverse}
use mathlib.Core.List.{reverse-cons}
use Rattle.std.proofs.lemmas.List.Sums.{sum_by-append, sum_by-cons}
use Rattle.vf_sorts.specs.declared.sort.Head.{Head}
use Rattle.vf_sorts.specs.declared.sort.Head.TheVariants as heads
use Rattle.vf_sorts.specs.declared.pair.Pair.{Pair}
use Rattle.vf_sorts.specs.Sorts.{Sort, Sorts, sort, no_sorts, and_sort, row, size_of, size_of_row}
use Rattle.vf_sorts.specs.Told.{untold_head, untold, untold_all, AreAlike, as_told}
use Rattle.vf_sorts.specs.Unknowns.{Filling, filled, filled_all, Known, by_known, Agrees, AgreesAsTold, EachUnknown, EachUnknownOf, IsBelow, IsOpen, IsResolved}
use Rattle.vf_sorts.specs.Pairs.{head_of, paired, AreEqual, AllEqual, ArePairBelow, AreBelow, pair_size, load, left_to_do, open_count, weight}
use Rattle.vf_sorts.proofs.Filled.{head_filled}
use Rattle.vf_sorts.proofs.Agreeing.{agreed_seen, untold_respects, told_respects}
use Rattle.vf_sorts.proofs.Learning.{resolved_open, open_below}
use Rattle.vf_sorts.proofs.Weights.{less}

-- ---- an unknown sort is made equal
unknown_filled : (f : Filling) (s : Sort) (u : ℕ) → head_of s ≡ heads.Unknown u → filled f s ≡ f u
unknown_filled f (sort h ts) u e = ap (λ (k : Head). filled f (sort k ts)) e

pub made_left : (yes : Bool) (known then_known : Known) (u : ℕ) (l r : Sort) (pairs : List Pair) → head_of l ≡ heads.Unknown u
    → MatchBool yes ((f : Filling) → Agrees f then_known ↔ (Agrees f known × AreAlike (f u) (filled f r))) ((f : Filling) → AreAlike (f u) (filled f r) → ⊥)
    → MatchBool yes ((f : Filling) → (Agrees f then_known × AllEqual untold f pairs) ↔ (Agrees f known × AreAlike (filled f l) (filled f r) × AllEqual untold f pairs)) ((f : Filling) → AreAlike (filled f l) (filled f r) → ⊥)
made_left true known then_known u l r pairs is m = λ f. (
  λ a. let b = (m f).0 a.0 in (b.0, ap untold (unknown_filled f l u is) ∙ b.1, a.1),
  λ a. ((m f).1 (a.0, ap untold (sym (unknown_filled f l u is)) ∙ a.1), a.2),
)
made_left false known then_known u l r pairs is m = λ f e. m f (ap untold (sym (unknown_filled f l u is)) ∙ e)

pub made_right : (yes : Bool) (known then_known : Known) (u : ℕ) (l r : Sort) (pairs : List Pair) → head_of r ≡ heads.Unknown u
    → MatchBool yes ((f : Filling) → Agrees f then_known ↔ (Agrees f known × AreAlike (f u) (filled f l))) ((f : Filling) → AreAlike (f u) (filled f l) → ⊥)
    → MatchBool yes ((f : Filling) → (Agrees f then_known × AllEqual untold f pairs) ↔ (Agrees f known × AreAlike (filled f l) (filled f r) × AllEqual untold f pairs)) ((f : Filling) → AreAlike (filled f l) (filled f r) → ⊥)
made_right true known then_known u l r pairs is m = λ f. (
  λ a. let b = (m f).0 a.0 in (b.0, sym b.1 ∙ sym (ap untold (unknown_filled f r u is)), a.1),
  λ a. ((m f).1 (a.0, sym (ap untold (unknown_filled f r u is)) ∙ sym a.1), a.2),
)
made_right false known then_known u l r pairs is m = λ f e. m f (sym (ap untold (unknown_filled f r u is)) ∙ sym e)

pub told_left : (known then_known : Known) (u : ℕ) (l r : Sort) (pairs : List Pair) → head_of l ≡ heads.Unknown u
    → ((f : Filling) → AgreesAsTold f known → f u ≡ filled f r → AgreesAsTold f then_known)
    → (f : Filling) → AgreesAsTold f known → filled f l ≡ filled f r → AllEqual as_told f pairs → AgreesAsTold f then_known × AllEqual as_told f pairs
told_left known then_known u l r pairs is m f a e all = (m f a (sym (unknown_filled f l u is) ∙ e), all)

pub told_right : (known then_known : Known) (u : ℕ) (l r : Sort) (pairs : List Pair) → head_of r ≡ heads.Unknown u
    → ((f : Filling) → AgreesAsTold f known → f u ≡ filled f l → AgreesAsTold f then_known)
    → (f : Filling) → AgreesAsTold f known → filled f l ≡ filled f r → AllEqual as_told f pairs → AgreesAsTold f then_known × AllEqual as_told f pairs
told_right known then_known u l r pairs is m f a e all = (m f a (sym (unknown_filled f r u is) ∙ sym e), all)

pub falls_right : (known then_known : Known) (l r : Sort) (pairs : List Pair) (w : ℕ) → w < left_to_do (open_count known) (size_of r + size_of l + load known pairs) → w < left_to_do (open_count known) (size_of l + size_of r + load known pairs)
falls_right known then_known l r pairs w h =
    let e : size_of r + size_of l + load known pairs ≡ size_of l + size_of r + load known pairs = omega arith in
    subst (λ (n : ℕ). w < left_to_do (open_count known) n) e h

-- ---- heads over parts are made equal
rows_alike : (f : Filling) (h k : Head) (ls rs : List Sort) → ((u : ℕ) → h ≢ heads.Unknown u) → ((u : ℕ) → k ≢ heads.Unknown u) → AreAlike (filled f (sort h (row ls))) (filled f (sort k (row rs)))
    → (untold_head h ≡ untold_head k) × (untold_all (filled_all f (row ls)) ≡ untold_all (filled_all f (row rs)))
rows_alike f h k ls rs m n e =
    let p : sort (untold_head h) (untold_all (filled_all f (row ls))) ≡ sort (untold_head k) (untold_all (filled_all f (row rs))) = sym (ap untold (head_filled f h (filled_all f (row ls)) m)) ∙ e ∙ ap untold (head_filled f k (filled_all f (row rs)) n) in
    (cc, cc)

rows_told : (f : Filling) (h k : Head) (ls rs : List Sort) → ((u : ℕ) → h ≢ heads.Unknown u) → ((u : ℕ) → k ≢ heads.Unknown u) → filled f (sort h (row ls)) ≡ filled f (sort k (row rs))
    → filled_all f (row ls) ≡ filled_all f (row rs)
rows_told f h k ls rs m n e =
    let p : sort h (filled_all f (row ls)) ≡ sort k (filled_all f (row rs)) = sym (head_filled f h (filled_all f (row ls)) m) ∙ e ∙ head_filled f k (filled_all f (row rs)) n in
    cc

lengths_alike : (f : Filling) (ls rs : List Sort) → untold_all (filled_all f (row ls)) ≡ untold_all (filled_all f (row rs)) → length ls ≡ length rs
lengths_alike f [] [] e = refl
lengths_alike f [] (r ∷ rs) e = absurd cc
lengths_alike f (l ∷ ls) [] e = absurd cc
lengths_alike f (l ∷ ls) (r ∷ rs) e =
    let q : untold_all (filled_all f (row ls)) ≡ untold_all (filled_all f (row rs)) = cc in
    ap suc (lengths_alike f ls rs q)

paired_alike : (f : Filling) (ls rs : List Sort) → untold_all (filled_all f (row ls)) ≡ untold_all (filled_all f (row rs)) → AllEqual untold f (paired ls rs)
paired_alike f [] rs e = tt
paired_alike f (l ∷ ls) [] e = tt
paired_alike f (l ∷ ls) (r ∷ rs) e =
    let p : untold (filled f l) ≡ untold (filled f r) = cc in
    let q : untold_all (filled_all f (row ls)) ≡ untold_all (filled_all f (row rs)) = cc in
    (p, paired_alike f ls rs q)

paired_told : (f : Filling) (ls rs : List Sort) → filled_all f (row ls) ≡ filled_all f (row rs) → AllEqual as_told f (paired ls rs)
paired_told f [] rs e = tt
paired_told f (l ∷ ls) [] e = tt
paired_told f (l ∷ ls) (r ∷ rs) e =
    let p : filled f l ≡ filled f r = cc in
    let q : filled_all f (row ls) ≡ filled_all f (row rs) = cc in
    (p, paired_told f ls rs q)

alike_paired : (f : Filling) (ls rs : List Sort) → length ls ≡ length rs → AllEqual untold f (paired ls rs) → untold_all (filled_all f (row ls)) ≡ untold_all (filled_all f (row rs))
alike_paired f [] [] e a = refl
alike_paired f [] (r ∷ rs) e a = absurd (omega (arith, e))
alike_paired f (l ∷ ls) [] e a = absurd (omega (arith, e))
alike_paired f (l ∷ ls) (r ∷ rs) e a = ap₂ and_sort a.0 (alike_paired f ls rs (omega (arith, e)) a.1)

all_append : (o : Sort → Sort) (f : Filling) (ps qs : List Pair) → AllEqual o f ps → AllEqual o f qs → AllEqual o f (ps ++ qs)
all_append o f [] qs a b = b
all_append o f (p ∷ ps) qs a b = (a.0, all_append o f ps qs a.1 b)

all_reversed : (o : Sort → Sort) (f : Filling) (ps : List Pair) → AllEqual o f ps → AllEqual o f (reverse ps)
all_reversed o f [] a = tt
all_reversed o f (p ∷ ps) a = rw (reverse-cons p ps) (all_append o f (reverse ps) (p ∷ []) (all_reversed o f ps a.1) (a.0, tt))

all_unreversed : (o : Sort → Sort) (f : Filling) (ps : List Pair) → AllEqual o f (reverse ps) → AllEqual o f ps
all_unreversed o f ps a = subst (AllEqual o f) (reverse-reverse ps) (all_reversed o f (reverse ps) a)

all_split : (o : Sort → Sort) (f : Filling) (ps qs : List Pair) → AllEqual o f (ps ++ qs) → AllEqual o f ps × AllEqual o f qs
all_split o f [] qs a = (tt, a)
all_split o f (p ∷ ps) qs a = let r = all_split o f ps qs a.1 in ((a.0, r.0), r.1)

pub made_parts : (known : Known) (h k : Head) (ls rs : List Sort) (pairs : List Pair) → untold_head h ≡ untold_head k → ((u : ℕ) → h ≢ heads.Unknown u) → ((u : ℕ) → k ≢ heads.Unknown u) → length ls ≡ length rs
    → (f : Filling) → (Agrees f known × AllEqual untold f (pairs ++ reverse (paired ls rs))) ↔ (Agrees f known × AreAlike (filled f (sort h (row ls))) (filled f (sort k (row rs))) × AllEqual untold f pairs)
made_parts known h k ls rs pairs same m n long f = (
  λ a. let split = all_split untold f pairs (reverse (paired ls rs)) a.1 in
      let both : AllEqual untold f pairs × AllEqual untold f (paired ls rs) = (split.0, all_unreversed untold f (paired ls rs) split.1) in
      (a.0, ap untold (head_filled f h (filled_all f (row ls)) m) ∙ ap₂ sort same (alike_paired f ls rs long both.1) ∙ sym (ap untold (head_filled f k (filled_all f (row rs)) n)), both.0),
  λ a. (a.0, all_append untold f pairs (reverse (paired ls rs)) a.2 (all_reversed untold f (paired ls rs) (paired_alike f ls rs (rows_alike f h k ls rs m n a.1).1))),
)

-- ---- parts are below what their wholes are below
open_parts : (P : ℕ → Type 0) (h : Head) (ts : Sorts) → ((u : ℕ) → h ≢ heads.Unknown u) → EachUnknown P (sort h ts) → EachUnknownOf P ts
open_parts P heads.Int ts n a = a
open_parts P heads.Bool ts n a = a
open_parts P (heads.Pointer w) ts n a = a
open_parts P heads.Real ts n a = a
open_parts P heads.Any ts n a = a
open_parts P (heads.Parameter i) ts n a = a
open_parts P (heads.Unknown u) ts n a = absurd (n u refl)
open_parts P (heads.Datatype d) ts n a = a
open_parts P heads.Predicate ts n a = a

paired_below : (known : Known) (ls rs : List Sort) → EachUnknownOf (λ u. slice_get known u ≡ Some None) (row ls) → EachUnknownOf (λ u. slice_get known u ≡ Some None) (row rs) → AreBelow (length known) (paired ls rs)
paired_below known [] rs a b = tt
paired_below known (l ∷ ls) [] a b = tt
paired_below known (l ∷ ls) (r ∷ rs) a b = ((open_below known l a.0, open_below known r b.0), paired_below known ls rs a.1 b.1)

pub below_append : (n : ℕ) (ps qs : List Pair) → AreBelow n ps → AreBelow n qs → AreBelow n (ps ++ qs)
below_append n [] qs a b = b
below_append n (p ∷ ps) qs a b = (a.0, below_append n ps qs a.1 b)

pub below_split : (n : ℕ) (ps qs : List Pair) → AreBelow n (ps ++ qs) → AreBelow n ps × AreBelow n qs
below_split n [] qs a = (tt, a)
below_split n (p ∷ ps) qs a = let r = below_split n ps qs a.1 in ((a.0, r.0), r.1)

below_reversed : (n : ℕ) (ps : List Pair) → AreBelow n ps → AreBelow n (reverse ps)
below_reversed n [] a = tt
below_reversed n (p ∷ ps) a = rw (reverse-cons p ps) (below_append n (reverse ps) (p ∷ []) (below_reversed n ps a.1) (a.0, tt))

pub parts_below : (known : Known) (h k : Head) (ls rs : List Sort) (pairs : List Pair) → ((u : ℕ) → h ≢ heads.Unknown u) → ((u : ℕ) → k ≢ heads.Unknown u)
    → IsOpen known (sort h (row ls)) → IsOpen known (sort k (row rs)) → AreBelow (length known) pairs → AreBelow (length known) (pairs ++ reverse (paired ls rs))
parts_below known h k ls rs pairs m n a b below =
    below_append (length known) pairs (reverse (paired ls rs)) below
    (below_reversed (length known) (paired ls rs) (paired_below known ls rs (open_parts (λ u. slice_get known u ≡ Some None) h (row ls) m a) (open_parts (λ u. slice_get known u ≡ Some None) k (row rs) n b)))

-- ---- parts are smaller than their wholes
mutual
  open_size : (known : Known) (s : Sort) → IsOpen known s → size_of (filled (by_known known) s) ≤ size_of s
  open_size known (sort heads.Int ts) a = let r = open_sizes known ts a in omega (arith, r)
  open_size known (sort heads.Bool ts) a = let r = open_sizes known ts a in omega (arith, r)
  open_size known (sort (heads.Pointer w) ts) a = let r = open_sizes known ts a in omega (arith, r)
  open_size known (sort heads.Real ts) a = let r = open_sizes known ts a in omega (arith, r)
  open_size known (sort heads.Any ts) a = let r = open_sizes known ts a in omega (arith, r)
  open_size known (sort (heads.Parameter i) ts) a = let r = open_sizes known ts a in omega (arith, r)
  open_size known (sort (heads.Unknown u) ts) a = rw a (omega arith)
  open_size known (sort (heads.Datatype d) ts) a = let r = open_sizes known ts a in omega (arith, r)
  open_size known (sort heads.Predicate ts) a = let r = open_sizes known ts a in omega (arith, r)

  open_sizes : (known : Known) (ts : Sorts) → EachUnknownOf (λ u. slice_get known u ≡ Some None) ts → size_of_row (filled_all (by_known known) ts) ≤ size_of_row ts
  open_sizes known no_sorts a = omega arith
  open_sizes known (and_sort t ts) a = let p = open_size known t a.0 in let q = open_sizes known ts a.1 in omega (arith, p, q)

paired_load : (known : Known) (ls rs : List Sort) → EachUnknownOf (λ u. slice_get known u ≡ Some None) (row ls) → EachUnknownOf (λ u. slice_get known u ≡ Some None) (row rs) → load known (paired ls rs) ≤ size_of_row (row ls) + size_of_row (row rs)
paired_load known [] rs a b = omega arith
paired_load known (l ∷ ls) [] a b = omega arith
paired_load known (l ∷ ls) (r ∷ rs) a b =
    let p = open_size known l a.0 in
    let q = open_size known r b.0 in
    let t = paired_load known ls rs a.1 b.1 in
    let c = sum_by-cons (pair_size known) (record { left = l; right = r }) (paired ls rs) in
    omega (arith, p, q, t, c)

load_reversed : (known : Known) (ps : List Pair) → load known (reverse ps) ≡ load known ps
load_reversed known [] = refl
load_reversed known (p ∷ ps) = rw (reverse-cons p ps)
    (let a = load_reversed known ps in
    let b = sum_by-append (pair_size known) (reverse ps) (p ∷ []) in
    let c = sum_by-cons (pair_size known) p ps in
    let d = sum_by-cons (pair_size known) p [] in
    omega (arith, a, b, c, d))

pub parts_less : (known : Known) (h k : Head) (ls rs : List Sort) (pairs : List Pair) → ((u : ℕ) → h ≢ heads.Unknown u) → ((u : ℕ) → k ≢ heads.Unknown u)
    → IsOpen known (sort h (row ls)) → IsOpen known (sort k (row rs))
    → weight known (pairs ++ reverse (paired ls rs)) < left_to_do (open_count known) (size_of (sort h (row ls)) + size_of (sort k (row rs)) + load known pairs)
parts_less known h k ls rs pairs m n a b =
    let t = paired_load known ls rs (open_parts (λ u. slice_get known u ≡ Some None) h (row ls) m a) (open_parts (λ u. slice_get known u ≡ Some None) k (row rs) n b) in
    let c = sum_by-append (pair_size known) pairs (reverse (paired ls rs)) in
    let d = load_reversed known (paired ls rs) in
    less (open_count known) (load known (pairs ++ reverse (paired ls rs))) (size_of (sort h (row ls)) + size_of (sort k (row rs)) + load known pairs) (omega (arith, t, c, d))

-- ---- a pair that is taken
pub made_pair : (yes : Bool) (known then_known : Known) (p : Pair) (l r : Sort) (pairs then_pairs : List Pair) → l ≡ filled (by_known known) p.left → r ≡ filled (by_known known) p.right
    → MatchBool yes ((f : Filling) → (Agrees f then_known × AllEqual untold f then_pairs) ↔ (Agrees f known × AreAlike (filled f l) (filled f r) × AllEqual untold f pairs)) ((f : Filling) → AreAlike (filled f l) (filled f r) → ⊥)
    → MatchBool yes ((f : Filling) → (Agrees f then_known × AllEqual untold f then_pairs) ↔ (Agrees f known × AreEqual untold f p × AllEqual untold f pairs)) ((f : Filling) → Agrees f known → AreEqual untold f p → ⊥)
made_pair made known then_known p l r pairs then_pairs le re m = by made m
  where
    left : (f : Filling) → Agrees f known → AreAlike (filled f l) (filled f p.left)
    left f a = ap (λ (q : Sort). untold (filled f q)) le ∙ agreed_seen untold untold_respects f known a p.left

    right : (f : Filling) → Agrees f known → AreAlike (filled f r) (filled f p.right)
    right f a = ap (λ (q : Sort). untold (filled f q)) re ∙ agreed_seen untold untold_respects f known a p.right

    by : (b : Bool) → MatchBool b ((f : Filling) → (Agrees f then_known × AllEqual untold f then_pairs) ↔ (Agrees f known × AreAlike (filled f l) (filled f r) × AllEqual untold f pairs)) ((f : Filling) → AreAlike (filled f l) (filled f r) → ⊥)
        → MatchBool b ((f : Filling) → (Agrees f then_known × AllEqual untold f then_pairs) ↔ (Agrees f known × AreEqual untold f p × AllEqual untold f pairs)) ((f : Filling) → Agrees f known → AreEqual untold f p → ⊥)
    by true w = λ f. (
      λ a. let b = (w f).0 a in (b.0, sym (left f b.0) ∙ b.1 ∙ right f b.0, b.2),
      λ a. (w f).1 (a.0, left f a.0 ∙ a.1 ∙ sym (right f a.0), a.2),
    )
    by false w = λ f a e. w f (left f a ∙ e ∙ sym (right f a))

pub told_pair : (known then_known : Known) (p : Pair) (l r : Sort) (pairs then_pairs : List Pair) → l ≡ filled (by_known known) p.left → r ≡ filled (by_known known) p.right
    → ((f : Filling) → AgreesAsTold f known → filled f l ≡ filled f r → AllEqual as_told f pairs → AgreesAsTold f then_known × AllEqual as_told f then_pairs)
    → (f : Filling) → AgreesAsTold f known → AreEqual as_told f p → AllEqual as_told f pairs → AgreesAsTold f then_known × AllEqual as_told f then_pairs
told_pair known then_known p l r pairs then_pairs le re m f a e all =
    m f a (ap (filled f) le ∙ agreed_seen as_told told_respects f known a p.left ∙ e ∙ sym (agreed_seen as_told told_respects f known a p.right) ∙ ap (filled f) (sym re)) all

pub opened : (known : Known) (s t : Sort) → IsResolved known → IsBelow (length known) s → t ≡ filled (by_known known) s → IsOpen known t
opened known s t resolved below e = subst (IsOpen known) (sym e) (resolved_open known resolved s below)

-- a pair at the end weighs what it does in front
pub last_first : (known : Known) (pairs : List Pair) (p : Pair) → weight known (p ∷ pairs) ≡ weight known (pairs ++ p ∷ [])
last_first known pairs p =
    let a = sum_by-append (pair_size known) pairs (p ∷ []) in
    let b = sum_by-cons (pair_size known) p pairs in
    let c = sum_by-cons (pair_size known) p [] in
    let e : load known (p ∷ pairs) ≡ load known (pairs ++ p ∷ []) = omega (arith, a, b, c) in
    ap (left_to_do (open_count known)) e

-- ---- the same of sorts that are heads over parts
pub lengths_apart : (l r : Sort) (h k : Head) (ls rs : List Sort) → sort h (row ls) ≡ l → sort k (row rs) ≡ r → ((u : ℕ) → head_of l ≢ heads.Unknown u) → ((u : ℕ) → head_of r ≢ heads.Unknown u) → length ls ≢ length rs
    → (f : Filling) → AreAlike (filled f l) (filled f r) → ⊥
lengths_apart l r h k ls rs vl vr m n apart f =
    subst (λ (x : Sort). AreAlike (filled f x) (filled f r) → ⊥) vl
    (subst (λ (y : Sort). AreAlike (filled f (sort h (row ls))) (filled f y) → ⊥) vr
    (λ e. apart (lengths_alike f ls rs (rows_alike f h k ls rs (λ u q. m u (ap head_of (sym vl) ∙ q)) (λ u q. n u (ap head_of (sym vr) ∙ q)) e).1)))

pub heads_apart : (l r : Sort) (h k : Head) (ls rs : List Sort) → sort h (row ls) ≡ l → sort k (row rs) ≡ r → ((u : ℕ) → head_of l ≢ heads.Unknown u) → ((u : ℕ) → head_of r ≢ heads.Unknown u) → (untold_head h ≢ untold_head k)
    → (f : Filling) → AreAlike (filled f l) (filled f r) → ⊥
heads_apart l r h k ls rs vl vr m n apart f =
    subst (λ (x : Sort). AreAlike (filled f x) (filled f r) → ⊥) vl
    (subst (λ (y : Sort). AreAlike (filled f (sort h (row ls))) (filled f y) → ⊥) vr
    (λ e. apart (rows_alike f h k ls rs (λ u q. m u (ap head_of (sym vl) ∙ q)) (λ u q. n u (ap head_of (sym vr) ∙ q)) e).0))

pub below_then : (known : Known) (l r : Sort) (h k : Head) (ls rs : List Sort) (pairs then_pairs : List Pair) → sort h (row ls) ≡ l → sort k (row rs) ≡ r → ((u : ℕ) → head_of l ≢ heads.Unknown u) → ((u : ℕ) → head_of r ≢ heads.Unknown u)
    → IsOpen known l → IsOpen known r → AreBelow (length known) pairs → then_pairs ≡ pairs ++ reverse (paired ls rs) → AreBelow (length known) then_pairs
below_then known l r h k ls rs pairs then_pairs vl vr m n a b below e =
    subst (AreBelow (length known)) (sym e)
    (parts_below known h k ls rs pairs (λ u q. m u (ap head_of (sym vl) ∙ q)) (λ u q. n u (ap head_of (sym vr) ∙ q)) (subst (IsOpen known) (sym vl) a) (subst (IsOpen known) (sym vr) b) below)

pub equal_then : (known : Known) (l r : Sort) (h k : Head) (ls rs : List Sort) (pairs then_pairs : List Pair) → sort h (row ls) ≡ l → sort k (row rs) ≡ r → ((u : ℕ) → head_of l ≢ heads.Unknown u) → ((u : ℕ) → head_of r ≢ heads.Unknown u)
    → untold_head h ≡ untold_head k → length ls ≡ length rs → then_pairs ≡ pairs ++ reverse (paired ls rs)
    → (f : Filling) → (Agrees f known × AllEqual untold f then_pairs) ↔ (Agrees f known × AreAlike (filled f l) (filled f r) × AllEqual untold f pairs)
equal_then known l r h k ls rs pairs then_pairs vl vr m n same long e f =
    subst (λ (x : Sort). (Agrees f known × AllEqual untold f then_pairs) ↔ (Agrees f known × AreAlike (filled f x) (filled f r) × AllEqual untold f pairs)) vl
    (subst (λ (y : Sort). (Agrees f known × AllEqual untold f then_pairs) ↔ (Agrees f known × AreAlike (filled f (sort h (row ls))) (filled f y) × AllEqual untold f pairs)) vr
    (subst (λ (ps : List Pair). (Agrees f known × AllEqual untold f ps) ↔ (Agrees f known × AreAlike (filled f (sort h (row ls))) (filled f (sort k (row rs))) × AllEqual untold f pairs)) (sym e)
    (made_parts known h k ls rs pairs same (λ u q. m u (ap head_of (sym vl) ∙ q)) (λ u q. n u (ap head_of (sym vr) ∙ q)) long f)))

pub told_then : (known : Known) (l r : Sort) (h k : Head) (ls rs : List Sort) (pairs then_pairs : List Pair) → sort h (row ls) ≡ l → sort k (row rs) ≡ r → ((u : ℕ) → head_of l ≢ heads.Unknown u) → ((u : ℕ) → head_of r ≢ heads.Unknown u)
    → then_pairs ≡ pairs ++ reverse (paired ls rs)
    → (f : Filling) → AgreesAsTold f known → filled f l ≡ filled f r → AllEqual as_told f pairs → AgreesAsTold f known × AllEqual as_told f then_pairs
told_then known l r h k ls rs pairs then_pairs vl vr m n e f a q all =
    let same : filled f (sort h (row ls)) ≡ filled f (sort k (row rs)) = ap (filled f) vl ∙ q ∙ ap (filled f) (sym vr) in
    (a, subst (AllEqual as_told f) (sym e) (all_append as_told f pairs (reverse (paired ls rs)) all (all_reversed as_told f (paired ls rs) (paired_told f ls rs (rows_told f h k ls rs (λ u p. m u (ap head_of (sym vl) ∙ p)) (λ u p. n u (ap head_of (sym vr) ∙ p)) same)))))

pub less_then : (known : Known) (l r : Sort) (h k : Head) (ls rs : List Sort) (pairs then_pairs : List Pair) → sort h (row ls) ≡ l → sort k (row rs) ≡ r → ((u : ℕ) → head_of l ≢ heads.Unknown u) → ((u : ℕ) → head_of r ≢ heads.Unknown u)
    → IsOpen known l → IsOpen known r → then_pairs ≡ pairs ++ reverse (paired ls rs) → weight known then_pairs < left_to_do (open_count known) (size_of l + size_of r + load known pairs)
less_then known l r h k ls rs pairs then_pairs vl vr m n a b e =
    subst (λ (x : Sort). weight known then_pairs < left_to_do (open_count known) (size_of x + size_of r + load known pairs)) vl
    (subst (λ (y : Sort). weight known then_pairs < left_to_do (open_count known) (size_of (sort h (row ls)) + size_of y + load known pairs)) vr
    (subst (λ (ps : List Pair). weight known ps < left_to_do (open_count known) (size_of (sort h (row ls)) + size_of (sort k (row rs)) + load known pairs)) (sym e)
    (parts_less known h k ls rs pairs (λ u q. m u (ap head_of (sym vl) ∙ q)) (λ u q. n u (ap head_of (sym vr) ∙ q)) (subst (IsOpen known) (sym vl) a) (subst (IsOpen known) (sym vr) b))))

-- ---- pairs that are taken from the end
last_equal : (o : Sort → Sort) (f : Filling) (ps : List Pair) (p : Pair) → AllEqual o f (ps ++ p ∷ []) ↔ (AreEqual o f p × AllEqual o f ps)
last_equal o f ps p = (
  λ a. let b = all_split o f ps (p ∷ []) a in (b.1.0, b.0),
  λ b. all_append o f ps (p ∷ []) b.1 (b.0, tt),
)

pub goes_on : (G : Filling → Type 0) (yes : Bool) (known then_known : Known) (pairs rest then_pairs : List Pair) (p : Pair) → yes ≡ true → pairs ≡ rest ++ p ∷ []
    → ((f : Filling) → (Agrees f known × AllEqual untold f pairs) ↔ G f)
    → MatchBool yes ((f : Filling) → (Agrees f then_known × AllEqual untold f then_pairs) ↔ (Agrees f known × AreEqual untold f p × AllEqual untold f rest)) ((f : Filling) → Agrees f known → AreEqual untold f p → ⊥)
    → (f : Filling) → (Agrees f then_known × AllEqual untold f then_pairs) ↔ G f
goes_on G true known then_known pairs rest then_pairs p is e before m f = (
  λ a. let b = (m f).0 a in (before f).0 (b.0, subst (AllEqual untold f) (sym e) ((last_equal untold f rest p).1 (b.1, b.2))),
  λ g. let b = (before f).1 g in let q = (last_equal untold f rest p).0 (subst (AllEqual untold f) e b.1) in (m f).1 (b.0, q.0, q.1),
)
goes_on G false known then_known pairs rest then_pairs p is e before m f = absurd cc

pub told_on : (G : Filling → Type 0) (known then_known : Known) (pairs rest then_pairs : List Pair) (p : Pair) → pairs ≡ rest ++ p ∷ []
    → ((f : Filling) → G f → AgreesAsTold f known × AllEqual as_told f pairs)
    → ((f : Filling) → AgreesAsTold f known → AreEqual as_told f p → AllEqual as_told f rest → AgreesAsTold f then_known × AllEqual as_told f then_pairs)
    → (f : Filling) → G f → AgreesAsTold f then_known × AllEqual as_told f then_pairs
told_on G known then_known pairs rest then_pairs p e before m f g =
    let b = before f g in
    let q = (last_equal as_told f rest p).0 (subst (AllEqual as_told f) e b.1) in
    m f b.0 q.0 q.1

pub gives_up : (G : Filling → Type 0) (yes : Bool) (known then_known : Known) (pairs rest then_pairs : List Pair) (p : Pair) → yes ≡ false → pairs ≡ rest ++ p ∷ []
    → ((f : Filling) → (Agrees f known × AllEqual untold f pairs) ↔ G f)
    → MatchBool yes ((f : Filling) → (Agrees f then_known × AllEqual untold f then_pairs) ↔ (Agrees f known × AreEqual untold f p × AllEqual untold f rest)) ((f : Filling) → Agrees f known → AreEqual untold f p → ⊥)
    → (f : Filling) → G f → ⊥
gives_up G true known then_known pairs rest then_pairs p is e before m f g = absurd cc
gives_up G false known then_known pairs rest then_pairs p is e before m f g =
    let b = (before f).1 g in
    let q = (last_equal untold f rest p).0 (subst (AllEqual untold f) e b.1) in
    m f b.0 q.0

pub last_below : (n : ℕ) (pairs rest : List Pair) (p : Pair) → pairs ≡ rest ++ p ∷ [] → AreBelow n pairs → AreBelow n rest × ArePairBelow n p
last_below n pairs rest p e a = let b = below_split n rest (p ∷ []) (subst (AreBelow n) e a) in (b.0, b.1.0)

pub nothing_left : (G : Filling → Type 0) (known : Known) (pairs : List Pair) → pairs ≡ [] → ((f : Filling) → (Agrees f known × AllEqual untold f pairs) ↔ G f) → (f : Filling) → Agrees f known ↔ G f
nothing_left G known pairs e before f = (λ a. (before f).0 (a, subst (AllEqual untold f) (sym e) tt), λ g. ((before f).1 g).0)
