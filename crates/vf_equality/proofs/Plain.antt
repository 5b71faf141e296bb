-- The literal that two terms are equal can be asked.
use Rattle.std.proofs.Common.{◌≡◌, refl, subst, sym, pos, ◌^◌, ◌&&◌, Bool, true, false, cond, arith}
use Rattle.std.specs.Prelude.{ℤ, neg_ℤ, ◌+ℤ◌, ◌-ℤ◌, ◌*ℤ◌, ◌≤ℤ◌, int_le, int_lt, List, [], ◌∷◌, Option, Some, None, Result, Ok, Err, IfOk}
use Rattle.std.specs.Ordering.{int_eq}
use Rattle.std.specs.declared.cmp.Ordering.{Ordering}
use Rattle.std.specs.declared.cmp.Ordering.TheVariants as order
use Rattle.std.proofs.lemmas.Int.{ints}
use Rattle.vf_tree.specs.Core.{Comparison, Equal, NotEqual, Less, LessEqual, Greater, GreaterEqual}
use Rattle.vf_arith.specs.Paths.{IsSmall}
use Rattle.vf_closure.specs.Terms.{Kind, Integer, Other, Head, Number, Sum, Plus, Term, Terms, term, no_terms, and_term, kind_of, number}
use Rattle.vf_closure.specs.Literals.{Literal, IsInteger}
use Rattle.vf_closure.specs.Literals as literals
use Rattle.vf_formula.specs.Literals.{shown_literal}
use Rattle.vf_formula.specs.declared.literal.Literal as code
use Rattle.vf_normal.specs.Order.{compare}
use Rattle.vf_normal.specs.Sums.{Weighted, Linear, is_small, put, placed, with_atom, together, times_each, paired, number_in, atoms_of, plus_form, form_of, row_of, integer_by, as_integer, sum_of}
use Rattle.vf_normal.specs.Normal.{comparison}
use Rattle.vf_normal.specs.Comparisons.{difference, above, below, below_nought, at_most_nought, is_nought, is_not_nought, difference_literal, is_true_literal, literal_of}
use Rattle.vf_question.specs.Plain.{IsPlain, ArePlain}
use Rattle.vf_asking.specs.Plain.{CanBeAsked, is_integer}
use Rattle.vf_equality.specs.Equality.{CanBeCompared, equality}
use Rattle.vf_equality.specs.Laws.{ComparisonsCanBeAsked}

-- each atom of a sum is plain
abbrev ArePlainAtoms : List Weighted → Type 0
ArePlainAtoms [] = Unit {0}
ArePlainAtoms (w ∷ ws) = IsPlain w.atom × ArePlainAtoms ws

either_way : {A : Type 0} (P : A → Type 0) (b : Bool) (x y : A) → P x → P y → P (cond b x y)
either_way P true x y p q = p
either_way P false x y p q = q

-- ---- sums of plain atoms
put_plain : (k : ℤ) (a : Term) (ws : List Weighted) → IsPlain a → ArePlainAtoms ws → ArePlainAtoms (put k a ws)
put_plain k a ws p q = either_way ArePlainAtoms (int_eq k (pos 0)) ws (record { factor = k; atom = a } ∷ ws) q (p, q)

placed_plain : (k : ℤ) (a : Term) (w : Weighted) (ws behind : List Weighted) (o : Ordering) → IsPlain a → IsPlain w.atom → ArePlainAtoms ws → ArePlainAtoms behind → ArePlainAtoms (placed k a w ws behind o)
placed_plain k a w ws behind order.Less p q r s = put_plain k a (w ∷ ws) p (q, r)
placed_plain k a w ws behind order.Equal p q r s = put_plain (k +ℤ w.factor) a ws p r
placed_plain k a w ws behind order.Greater p q r s = (q, s)

with_atom_plain : (k : ℤ) (a : Term) (ws : List Weighted) → IsPlain a → ArePlainAtoms ws → ArePlainAtoms (with_atom k a ws)
with_atom_plain k a [] p q = put_plain k a [] p tt
with_atom_plain k a (w ∷ ws) p q = placed_plain k a w ws (with_atom k a ws) (compare a w.atom) p q.0 q.1 (with_atom_plain k a ws p q.1)

together_plain : (vs ws : List Weighted) → ArePlainAtoms vs → ArePlainAtoms ws → ArePlainAtoms (together vs ws)
together_plain [] ws p q = q
together_plain (v ∷ vs) ws p q = with_atom_plain v.factor v.atom (together vs ws) p.0 (together_plain vs ws p.1 q)

times_plain : (k : ℤ) (ws : List Weighted) → ArePlainAtoms ws → ArePlainAtoms (times_each k ws)
times_plain k [] p = tt
times_plain k (w ∷ ws) p = put_plain (k *ℤ w.factor) w.atom (times_each k ws) p.0 (times_plain k ws p.1)

above_plain : (ws : List Weighted) → ArePlainAtoms ws → ArePlainAtoms (above ws)
above_plain [] p = tt
above_plain (w ∷ ws) p = either_way ArePlainAtoms (int_lt (pos 0) w.factor) (w ∷ above ws) (above ws) (p.0, above_plain ws p.1) (above_plain ws p.1)

below_plain : (ws : List Weighted) → ArePlainAtoms ws → ArePlainAtoms (below ws)
below_plain [] p = tt
below_plain (w ∷ ws) p = either_way ArePlainAtoms (int_lt w.factor (pos 0)) (record { factor = neg_ℤ w.factor; atom = w.atom } ∷ below ws) (below ws) (p.0, below_plain ws p.1) (below_plain ws p.1)

-- ---- plain terms as sums
paired_plain : (ks : List ℤ) (ts : Terms) → ArePlain ts → ArePlainAtoms (paired ks ts)
paired_plain [] ts p = tt
paired_plain (k ∷ ks) no_terms p = tt
paired_plain (k ∷ ks) (and_term t ts) p = (p.0, paired_plain ks ts p.1)

atoms_plain : (t : Term) → IsPlain t → ArePlainAtoms (atoms_of t)
atoms_plain (term (Sum factors) ts) p = paired_plain factors ts p.1
atoms_plain t p = (p, tt)

plus_plain : (q c : Term) (z : Option ℤ) → IsPlain q → IsPlain c → ArePlainAtoms (plus_form q c z).atoms
plus_plain q c (Some z) p r = atoms_plain q p
plus_plain q c None p r = ((tt, (p, (r, tt))), tt)

form_plain : (t : Term) → IsPlain t → ArePlainAtoms (form_of t).atoms
form_plain (term (Number z) ts) p = tt
form_plain (term (Sum factors) ts) p = paired_plain factors ts p.1
form_plain (term Plus (and_term q (and_term c no_terms))) p = plus_plain q c (number_in c) p.1.0 p.1.1.0
form_plain t p = (p, tt)

-- ---- sums as terms
zero_plain : IsPlain (number (pos 0))
zero_plain = ((refl, record { low = omega (arith, ints); high = omega (arith, ints) }), tt)

integer_plain : (k : Kind) (t : Term) → IsPlain t → IsPlain (integer_by k t)
integer_plain Integer t p = p
integer_plain Other t p = (tt, (p, tt))

as_integer_plain : (t : Term) → IsPlain t → IsPlain (as_integer t)
as_integer_plain (term h ts) p = integer_plain (kind_of h) (term h ts) p

row_plain : (ws : List Weighted) → ArePlainAtoms ws → ArePlain (row_of ws)
row_plain [] p = tt
row_plain (w ∷ ws) p = (p.0, row_plain ws p.1)

sum_plain : (ws : List Weighted) → ArePlainAtoms ws → IsPlain (sum_of ws)
sum_plain [] p = zero_plain
sum_plain (w ∷ []) p = either_way IsPlain (int_eq w.factor (pos 1)) (as_integer w.atom) (term (Sum (w.factor ∷ [])) (and_term w.atom no_terms)) (as_integer_plain w.atom p.0) (tt, (p.0, tt))
sum_plain (w ∷ v ∷ ws) p = (tt, row_plain (w ∷ v ∷ ws) p)

integer_by_integer : (h : Head) (ts : Terms) (k : Kind) → kind_of h ≡ k → IsInteger (integer_by k (term h ts))
integer_by_integer h ts Integer e = e
integer_by_integer h ts Other e = refl

as_integer_integer : (t : Term) → IsInteger (as_integer t)
as_integer_integer (term h ts) = integer_by_integer h ts (kind_of h) refl

sum_integer : (ws : List Weighted) → IsInteger (sum_of ws)
sum_integer [] = refl
sum_integer (w ∷ []) = either_way IsInteger (int_eq w.factor (pos 1)) (as_integer w.atom) (term (Sum (w.factor ∷ [])) (and_term w.atom no_terms)) (as_integer_integer w.atom) refl
sum_integer (w ∷ v ∷ ws) = refl

-- ---- literals
both_first : (x y : Bool) → (x && y) ≡ true → x ≡ true
both_first true y e = refl
both_first false y e = cc

both_second : (x y : Bool) → (x && y) ≡ true → y ≡ true
both_second true y e = e
both_second false y e = cc

small_from : (z : ℤ) → is_small z ≡ true → (neg_ℤ (pos (2 ^ 90)) ≤ℤ z) × (z ≤ℤ pos (2 ^ 90))
small_from z e =
    (low z (both_first (int_le (neg_ℤ (pos (2 ^ 90))) z) (int_le z (pos (2 ^ 90))) e), high z (both_second (int_le (neg_ℤ (pos (2 ^ 90))) z) (int_le z (pos (2 ^ 90))) e))
  where
    low : (z : ℤ) → int_le (neg_ℤ (pos (2 ^ 90))) z ≡ true → neg_ℤ (pos (2 ^ 90)) ≤ℤ z
    low z e = grind (arith, ints)

    high : (z : ℤ) → int_le z (pos (2 ^ 90)) ≡ true → z ≤ℤ pos (2 ^ 90)
    high z e = grind (arith, ints)

-- a difference of small numbers
record IsNarrow (z : ℤ) : Type 0 where
  low : neg_ℤ (pos (2 ^ 91)) ≤ℤ z
  high : z ≤ℤ pos (2 ^ 91)

number_narrow : (y z : ℤ) → is_small y ≡ true → is_small z ≡ true → IsNarrow (y +ℤ (neg_ℤ (pos 1) *ℤ z))
number_narrow y z e f =
    let s = small_from y e in
    let t = small_from z f in
    record { low = omega (arith, ints, s.0, s.1, t.0, t.1); high = omega (arith, ints, s.0, s.1, t.0, t.1) }

opposite_small : (z : ℤ) → IsNarrow z → IsSmall (2 ^ 100) (neg_ℤ z)
opposite_small z n = record { low = omega (arith, ints, n.low, n.high); high = omega (arith, ints, n.low, n.high) }

opposite_room : (z : ℤ) → IsNarrow z → (neg_ℤ z +ℤ pos 1) ≤ℤ pos (2 ^ 100)
opposite_room z n = omega (arith, ints, n.low)

below_small : (z : ℤ) → IsNarrow z → IsSmall (2 ^ 100) (neg_ℤ z -ℤ pos 1)
below_small z n = record { low = omega (arith, ints, n.low, n.high); high = omega (arith, ints, n.low, n.high) }

below_room : (z : ℤ) → IsNarrow z → ((neg_ℤ z -ℤ pos 1) +ℤ pos 1) ≤ℤ pos (2 ^ 100)
below_room z n = omega (arith, ints, n.low)

-- the literals of a sum with plain atoms and a number that is a difference of small ones
module _ (f : Linear) (p : ArePlainAtoms f.atoms) (n : IsNarrow f.number) where
  nought_asked : CanBeAsked (is_nought f)
  nought_asked = ((sum_plain (above f.atoms) (above_plain f.atoms p), sum_plain (below f.atoms) (below_plain f.atoms p), sum_integer (above f.atoms), sum_integer (below f.atoms), opposite_small f.number n), tt)

  not_nought_asked : CanBeAsked (is_not_nought f)
  not_nought_asked = ((sum_plain (above f.atoms) (above_plain f.atoms p), sum_plain (below f.atoms) (below_plain f.atoms p), sum_integer (above f.atoms), sum_integer (below f.atoms), opposite_small f.number n), tt)

  at_most_asked : CanBeAsked (at_most_nought f)
  at_most_asked = ((sum_plain (above f.atoms) (above_plain f.atoms p), sum_plain (below f.atoms) (below_plain f.atoms p), sum_integer (above f.atoms), sum_integer (below f.atoms), opposite_small f.number n), opposite_room f.number n)

  below_asked : CanBeAsked (below_nought f)
  below_asked = ((sum_plain (above f.atoms) (above_plain f.atoms p), sum_plain (below f.atoms) (below_plain f.atoms p), sum_integer (above f.atoms), sum_integer (below f.atoms), below_small f.number n), below_room f.number n)

module _ (f g : Linear) (p : ArePlainAtoms f.atoms) (q : ArePlainAtoms g.atoms) (s : is_small f.number ≡ true) (t : is_small g.number ≡ true) where
  difference_plain : ArePlainAtoms (difference f g).atoms
  difference_plain = together_plain f.atoms (times_each (neg_ℤ (pos 1)) g.atoms) p (times_plain (neg_ℤ (pos 1)) g.atoms q)

  difference_narrow : IsNarrow (difference f g).number
  difference_narrow = number_narrow f.number g.number s t

difference_asked : (op : Comparison) (f g : Linear) → ArePlainAtoms f.atoms → ArePlainAtoms g.atoms → is_small f.number ≡ true → is_small g.number ≡ true → CanBeAsked (difference_literal op f g)
difference_asked Equal f g p q s t = nought_asked (difference f g) (difference_plain f g p q s t) (difference_narrow f g p q s t)
difference_asked NotEqual f g p q s t = not_nought_asked (difference f g) (difference_plain f g p q s t) (difference_narrow f g p q s t)
difference_asked Less f g p q s t = below_asked (difference f g) (difference_plain f g p q s t) (difference_narrow f g p q s t)
difference_asked LessEqual f g p q s t = at_most_asked (difference f g) (difference_plain f g p q s t) (difference_narrow f g p q s t)
difference_asked Greater f g p q s t = below_asked (difference g f) (difference_plain g f q p t s) (difference_narrow g f q p t s)
difference_asked GreaterEqual f g p q s t = at_most_asked (difference g f) (difference_plain g f q p t s) (difference_narrow g f q p t s)

comparison_plain : (op : Comparison) (a b : Term) (y z : Option ℤ) → IsPlain a → IsPlain b → IsPlain (comparison op a b y z)
comparison_plain op a b (Some y) (Some z) p q = (tt, tt)
comparison_plain op a b (Some y) None p q = (tt, (p, (q, tt)))
comparison_plain op a b None z p q = (tt, (p, (q, tt)))

by_sizes : (op : Comparison) (a b : Term) (s t : Bool) → is_small (form_of a).number ≡ s → is_small (form_of b).number ≡ t → IsPlain a → IsPlain b → CanBeAsked (cond (s && t) (difference_literal op (form_of a) (form_of b)) (is_true_literal (comparison op a b (number_in a) (number_in b))))
by_sizes op a b true true e f p q = difference_asked op (form_of a) (form_of b) (form_plain a p) (form_plain b q) e f
by_sizes op a b true false e f p q = ((comparison_plain op a b (number_in a) (number_in b) p q, (tt, tt)), tt)
by_sizes op a b false t e f p q = ((comparison_plain op a b (number_in a) (number_in b) p q, (tt, tt)), tt)

pub comparisons_can_be_asked : ComparisonsCanBeAsked
comparisons_can_be_asked op a b p q = by_sizes op a b (is_small (form_of a).number) (is_small (form_of b).number) refl refl p q

by_kinds : (c : Bool) (a b : Term) → IsPlain a → IsPlain b → CanBeAsked (cond c (literal_of Equal a b) (literals.Equal a b))
by_kinds true a b p q = comparisons_can_be_asked Equal a b p q
by_kinds false a b p q = ((p, q), tt)

equality_can_be_asked : (a b : Term) → IsPlain a → IsPlain b → CanBeAsked (equality a b)
equality_can_be_asked a b p q = by_kinds (is_integer a && is_integer b) a b p q

-- a literal that is an equality can be asked
pub equality_asked : (l : Literal) (a b : Term) → l ≡ equality a b → CanBeCompared a → CanBeCompared b → CanBeAsked l
equality_asked l a b e p q = subst CanBeAsked (sym e) (equality_can_be_asked a b p.plain q.plain)

-- so can that of a comparison that is made
pub literal_asked : {E : Type 0} (r : Result code.Literal E) (a b : Term) → IfOk r (λ l. shown_literal l ≡ literal_of Equal a b) → CanBeCompared a → CanBeCompared b → IfOk r (λ l. CanBeAsked (shown_literal l))
literal_asked (Ok l) a b e p q = subst CanBeAsked (sym e) (comparisons_can_be_asked Equal a b p.plain q.plain)
literal_asked (Err x) a b e p q = e
