-- The normal form of each term looks normal.
use Rattle.std.proofs.Common.{◌≡◌, ◌≢◌, inl, inr, ℕ, zero, suc, List, ◌∷◌, [], Bool, true, false, cond, Option, Some, None, refl, sym, ◌∙◌, ap, ap₂, subst}
use Rattle.std.specs.Prelude.{ℤ, pos, ◌+ℤ◌, ◌*ℤ◌, neg_ℤ}
use Rattle.std.specs.declared.cmp.Ordering.{Ordering}
use Rattle.std.specs.declared.cmp.Ordering.TheVariants as order
use Rattle.std.specs.Ordering.{int_eq, is_gt, ordering_reverse}
use Rattle.std.proofs.lemmas.Bool.{false≢true, and_parts}
use Rattle.std.proofs.lemmas.Bool.Decides.{Decides-int_eq}
use Rattle.vf_tree.specs.Core.{ArithmeticOperator, Add, Subtract, Multiply, Divide, Remainder, Comparison}
use Rattle.vf_model.specs.Values.{Dyadic}
use Rattle.vf_closure.specs.Terms.{Kind, Integer, Other, Head, Number, Truth, Share, Sum, Plus, Arithmetic, Compare, Choose, PointerSum, Term, Terms, term, no_terms, and_term, number, plus, kind_of}
use Rattle.vf_normal.specs.Order.{compare}
use Rattle.vf_normal.specs.Sums.{Weighted, Linear, is_small, are_small, fits, put, placed, with_atom, together, times_each, product_of, quotient_of, combined, paired, one_atom, number_in, atoms_of, form_of, factors_of, row_of, integer_by, as_integer, sum_of, total_of, term_of, operation, folded, calculated}
use Rattle.vf_normal.specs.Normal.{part_at, added_up, comparison, as_kind, choice, moved, pointer_sum, Product, with_factor, with_factors, multiplied, product_with, normal_over, normal, all_normal}
use Rattle.vf_normal.specs.NormalForms.{is_atom, IsAtom, IsBefore, AreAtoms, StaysApart, IsNoPointerSum, IsNoShare, IsNotAfter, AreFactors, IsNormal, AllNormal}
use Rattle.vf_normal.specs.Laws.{NormalFormsLookNormal}
use Rattle.vf_normal.proofs.Order.{order_total}
use Rattle.vf_normal.proofs.Stay.{atom_form, stays}

-- atoms in their order, each in normal form
abbrev pub Good : List Weighted → Type 0
Good ws = AreAtoms ws × AllNormal (row_of ws)

-- ---- atoms stay in their order
pub greater : (a b : Term) → compare a b ≡ order.Greater → compare b a ≡ order.Less
greater a b e = order_total.0.antisymm b a ∙ ap ordering_reverse e

before_through : (a b : Term) (ws : List Weighted) → compare a b ≡ order.Less → IsBefore b ws → IsBefore a ws
before_through a b [] e h = tt
before_through a b (w ∷ ws) e h = (order_total.0.trans a b w.atom e h.0, before_through a b ws e h.1)

before_put_by : (a : Term) (k : ℤ) (b : Term) (ws : List Weighted) (c : Bool) → compare a b ≡ order.Less → IsBefore a ws → IsBefore a (cond c ws (record { factor = k; atom = b } ∷ ws))
before_put_by a k b ws true e h = h
before_put_by a k b ws false e h = (e, h)

before_put : (a : Term) (k : ℤ) (b : Term) (ws : List Weighted) → compare a b ≡ order.Less → IsBefore a ws → IsBefore a (put k b ws)
before_put a k b ws e h = before_put_by a k b ws (int_eq k (pos 0)) e h

put_good_by : (k : ℤ) (a : Term) (ws : List Weighted) (c : Bool) → int_eq k (pos 0) ≡ c → IsAtom a → IsNormal a → IsBefore a ws → Good ws → Good (cond c ws (record { factor = k; atom = a } ∷ ws))
put_good_by k a ws true e m n h g = g
put_good_by k a ws false e m n h g = ((λ d. false≢true (sym e ∙ (Decides-int_eq k (pos 0)).1 d), m, h, g.0), (n, g.1))

put_good : (k : ℤ) (a : Term) (ws : List Weighted) → IsAtom a → IsNormal a → IsBefore a ws → Good ws → Good (put k a ws)
put_good k a ws m n h g = put_good_by k a ws (int_eq k (pos 0)) refl m n h g

pub tail_good : (w : Weighted) (ws : List Weighted) → Good (w ∷ ws) → Good ws
tail_good w ws g = (g.0.3, g.1.1)

before_placed : (b : Term) (k : ℤ) (a : Term) (w : Weighted) (ws behind : List Weighted) (o : Ordering) → compare b a ≡ order.Less → IsBefore b (w ∷ ws) → IsBefore b behind → IsBefore b (placed k a w ws behind o)
before_placed b k a w ws behind order.Less e h d = before_put b k a (w ∷ ws) e h
before_placed b k a w ws behind order.Equal e h d = before_put b (k +ℤ w.factor) a ws e h.1
before_placed b k a w ws behind order.Greater e h d = (h.0, d)

pub before_with : (b : Term) (k : ℤ) (a : Term) (ws : List Weighted) → compare b a ≡ order.Less → IsBefore b ws → IsBefore b (with_atom k a ws)
before_with b k a [] e h = before_put b k a [] e h
before_with b k a (w ∷ ws) e h = before_placed b k a w ws (with_atom k a ws) (compare a w.atom) e h (before_with b k a ws e h.1)

placed_good : (k : ℤ) (a : Term) (w : Weighted) (ws : List Weighted) (o : Ordering) → compare a w.atom ≡ o → IsAtom a → IsNormal a → Good (w ∷ ws) → Good (with_atom k a ws) → Good (placed k a w ws (with_atom k a ws) o)
placed_good k a w ws order.Less e m n g d = put_good k a (w ∷ ws) m n (e, before_through a w.atom ws e g.0.2) g
placed_good k a w ws order.Equal e m n g d =
    put_good (k +ℤ w.factor) a ws m n (subst (λ t. IsBefore t ws) (sym ((order_total.1 a w.atom).0 e)) g.0.2) (tail_good w ws g)
placed_good k a w ws order.Greater e m n g d = ((g.0.0, g.0.1, before_with w.atom k a ws (greater a w.atom e) g.0.2, d.0), (g.1.0, d.1))

with_good : (k : ℤ) (a : Term) (ws : List Weighted) → IsAtom a → IsNormal a → Good ws → Good (with_atom k a ws)
with_good k a [] m n g = put_good k a [] m n tt g
with_good k a (w ∷ ws) m n g = placed_good k a w ws (compare a w.atom) refl m n g (with_good k a ws m n (tail_good w ws g))

together_good : (vs ws : List Weighted) → Good vs → Good ws → Good (together vs ws)
together_good [] ws g d = d
together_good (v ∷ vs) ws g d = with_good v.factor v.atom (together vs ws) g.0.1 g.1.0 (together_good vs ws (tail_good v vs g) d)

before_times : (a : Term) (k : ℤ) (ws : List Weighted) → IsBefore a ws → IsBefore a (times_each k ws)
before_times a k [] h = tt
before_times a k (w ∷ ws) h = before_put a (k *ℤ w.factor) w.atom (times_each k ws) h.0 (before_times a k ws h.1)

pub times_good : (k : ℤ) (ws : List Weighted) → Good ws → Good (times_each k ws)
times_good k [] g = g
times_good k (w ∷ ws) g = put_good (k *ℤ w.factor) w.atom (times_each k ws) g.0.1 g.1.0 (before_times w.atom k ws g.0.2) (times_good k ws (tail_good w ws g))

-- ---- what comes of two sums
abbrev GoodIn : Option Linear → Type 0
GoodIn None = Unit {0}
GoodIn (Some f) = Good f.atoms

product_good : (ws vs : List Weighted) (f g : Linear) → Good f.atoms → Good g.atoms → GoodIn (product_of ws vs f g)
product_good [] vs f g m n = times_good f.number g.atoms n
product_good (w ∷ ws) [] f g m n = times_good g.number f.atoms m
product_good (w ∷ ws) (v ∷ vs) f g m n = tt

quotient_good : (op : ArithmeticOperator) (ws vs : List Weighted) (f g : Linear) → GoodIn (quotient_of op ws vs f g)
quotient_good op [] [] f g = (tt, tt)
quotient_good op [] (v ∷ vs) f g = tt
quotient_good op (w ∷ ws) vs f g = tt

combined_good : (op : ArithmeticOperator) (f g : Linear) → Good f.atoms → Good g.atoms → GoodIn (combined op f g)
combined_good Add f g m n = together_good f.atoms g.atoms m n
combined_good Subtract f g m n = together_good f.atoms (times_each (neg_ℤ (pos 1)) g.atoms) m (times_good (neg_ℤ (pos 1)) g.atoms n)
combined_good Multiply f g m n = product_good f.atoms g.atoms f g m n
combined_good Divide f g m n = quotient_good Divide f.atoms g.atoms f g
combined_good Remainder f g m n = quotient_good Remainder f.atoms g.atoms f g

-- ---- the atoms of a term in normal form
integer_part : (k : Kind) (t : Term) → IsNormal (integer_by k t) → IsNormal t
integer_part Integer t n = n
integer_part Other t n = n.1.0

as_integer_part : (t : Term) → IsNormal (as_integer t) → IsNormal t
as_integer_part (term h ts) n = integer_part (kind_of h) (term h ts) n

one_part : (w : Weighted) (b : Bool) → IsNormal (cond b (as_integer w.atom) (term (Sum (w.factor ∷ [])) (and_term w.atom no_terms))) → IsNormal w.atom
one_part w true n = as_integer_part w.atom n
one_part w false n = n.1.0

sum_parts : (ws : List Weighted) → IsNormal (sum_of ws) → AllNormal (row_of ws)
sum_parts [] n = tt
sum_parts (w ∷ []) n = (one_part w (int_eq w.factor (pos 1)) n, tt)
sum_parts (w ∷ v ∷ ws) n = n.1

pub pairs_as : (ks : List ℤ) (ts : Terms) (ws : List Weighted) → ks ≡ factors_of ws → ts ≡ row_of ws → paired ks ts ≡ ws
pairs_as ks ts ws e d = ap₂ paired e d ∙ back ws
  where
    back : (ws : List Weighted) → paired (factors_of ws) (row_of ws) ≡ ws
    back [] = refl
    back (w ∷ ws) = ap (λ vs. w ∷ vs) (back ws)

one_not_none : pos 1 ≢ pos 0
one_not_none e = cc

atom_good : (t : Term) → IsAtom t → IsNormal t → Good (form_of t).atoms
atom_good t m n = subst (λ f. Good f.atoms) (sym (atom_form t m)) ((one_not_none, m, tt, tt), (n, tt))

atom_atoms : (t : Term) → IsAtom t → atoms_of t ≡ one_atom t
atom_atoms (term (Sum ks) ts) m = absurd (false≢true m)
atom_atoms t m = refl

one_is : (w : Weighted) → w.factor ≡ pos 1 → one_atom w.atom ≡ w ∷ []
one_is w e = ap (λ k. record { factor = k; atom = w.atom } ∷ []) (sym e)

integer_atoms : (k : Kind) (w : Weighted) → IsAtom w.atom → w.factor ≡ pos 1 → atoms_of (integer_by k w.atom) ≡ w ∷ []
integer_atoms Integer w m e = atom_atoms w.atom m ∙ one_is w e
integer_atoms Other w m e = one_is w e

as_integer_atoms : (w : Weighted) (t : Term) → t ≡ w.atom → IsAtom w.atom → w.factor ≡ pos 1 → atoms_of (as_integer t) ≡ w ∷ []
as_integer_atoms w (term h ts) e m f = ap (λ t. atoms_of (integer_by (kind_of h) t)) e ∙ integer_atoms (kind_of h) w m f

one_atoms : (w : Weighted) (b : Bool) → int_eq w.factor (pos 1) ≡ b → IsAtom w.atom → atoms_of (cond b (as_integer w.atom) (term (Sum (w.factor ∷ [])) (and_term w.atom no_terms))) ≡ w ∷ []
one_atoms w true e m = as_integer_atoms w w.atom refl m ((Decides-int_eq w.factor (pos 1)).0 e)
one_atoms w false e m = refl

pub sum_atoms : (w : Weighted) (ws : List Weighted) → AreAtoms (w ∷ ws) → atoms_of (sum_of (w ∷ ws)) ≡ w ∷ ws
sum_atoms w [] h = one_atoms w (int_eq w.factor (pos 1)) refl h.1
sum_atoms w (v ∷ ws) h = pairs_as (factors_of (w ∷ v ∷ ws)) (row_of (w ∷ v ∷ ws)) (w ∷ v ∷ ws) refl refl

plus_good : (ws : List Weighted) (c : ℤ) (ts : Terms) → AreAtoms ws → total_of ws c ≡ term Plus ts → ts ≡ and_term (sum_of ws) (and_term (number c) no_terms) → AllNormal ts → Good (form_of (term Plus ts)).atoms
plus_good [] c ts h e d n = cc
plus_good (w ∷ ws) c ts h e d n =
    subst (λ us. Good (form_of (term Plus us)).atoms) (sym d)
    (subst Good (sym (sum_atoms w ws h)) (h, sum_parts (w ∷ ws) (subst AllNormal d n).0))

-- the atoms of a term in normal form stand in their order
pub form_good : (t : Term) → IsNormal t → Good (form_of t).atoms
form_good (term (Number z) ts) n = (tt, tt)
form_good (term (Sum ks) ts) n =
    let l = n.0 in
    subst Good (sym (pairs_as ks ts l.0 l.3 l.4)) (l.1, subst AllNormal l.4 n.1)
form_good (term Plus ts) n = let l = n.0 in plus_good l.0 l.1 ts l.2 l.5 l.4 n.1
form_good t n = atom_good t refl n

-- ---- sums in normal form
other_atom : (h : Head) → kind_of h ≡ Other → is_atom h ≡ true
other_atom (Number z) e = cc
other_atom (Sum ks) e = cc
other_atom Plus e = cc
other_atom h e = refl

integer_normal : (h : Head) (ts : Terms) (k : Kind) → kind_of h ≡ k → IsNormal (term h ts) → IsNormal (integer_by k (term h ts))
integer_normal h ts Integer e n = n
integer_normal h ts Other e n =
    ((record { factor = pos 1; atom = term h ts } ∷ [], (one_not_none, other_atom h e, tt, tt), refl, refl, refl, ap (λ k. integer_by k (term h ts)) e), (n, tt))

as_integer_normal : (t : Term) → IsNormal t → IsNormal (as_integer t)
as_integer_normal (term h ts) n = integer_normal h ts (kind_of h) refl n

one_normal : (w : Weighted) (b : Bool) → int_eq w.factor (pos 1) ≡ b → Good (w ∷ []) → are_small (w ∷ []) ≡ true → IsNormal (cond b (as_integer w.atom) (term (Sum (w.factor ∷ [])) (and_term w.atom no_terms)))
one_normal w true e g s = as_integer_normal w.atom g.1.0
one_normal w false e g s =
    ((w ∷ [], g.0, s, refl, refl, ap (λ b. cond b (as_integer w.atom) (term (Sum (w.factor ∷ [])) (and_term w.atom no_terms))) e), g.1)

sum_normal : (ws : List Weighted) → Good ws → are_small ws ≡ true → IsNormal (sum_of ws)
sum_normal [] g s = (refl, tt)
sum_normal (w ∷ []) g s = one_normal w (int_eq w.factor (pos 1)) refl g s
sum_normal (w ∷ v ∷ ws) g s = ((w ∷ v ∷ ws, g.0, s, refl, refl, refl), g.1)

total_by : (w : Weighted) (ws : List Weighted) (z : ℤ) (b : Bool) → int_eq z (pos 0) ≡ b → Good (w ∷ ws) → fits (record { atoms = w ∷ ws; number = z }) ≡ true → IsNormal (cond b (sum_of (w ∷ ws)) (plus (sum_of (w ∷ ws)) z))
total_by w ws z true e g s = sum_normal (w ∷ ws) g (and_parts (are_small (w ∷ ws)) (is_small z) s).0
total_by w ws z false e g s =
    ((w ∷ ws, z, g.0, s, refl, ap (λ b. cond b (sum_of (w ∷ ws)) (plus (sum_of (w ∷ ws)) z)) e), (sum_normal (w ∷ ws) g (and_parts (are_small (w ∷ ws)) (is_small z) s).0, ((refl, tt), tt)))

total_normal : (ws : List Weighted) (z : ℤ) → Good ws → fits (record { atoms = ws; number = z }) ≡ true → IsNormal (total_of ws z)
total_normal [] z g s = (refl, tt)
total_normal (w ∷ ws) z g s = total_by w ws z (int_eq z (pos 0)) refl g s

folded_by : (op : ArithmeticOperator) (a b : Term) (f : Linear) (c : Bool) → fits f ≡ c → Some f ≡ combined op (form_of a) (form_of b) → Good f.atoms → IsNormal a → IsNormal b → IsNormal (cond c (term_of f) (operation op a b))
folded_by op a b f true s e g m n = total_normal f.atoms f.number g s
folded_by op a b f false s e g m n = ((a, b, refl, subst StaysApart e s), (m, (n, tt)))

folded_normal : (op : ArithmeticOperator) (a b : Term) (o : Option Linear) → o ≡ combined op (form_of a) (form_of b) → GoodIn o → IsNormal a → IsNormal b → IsNormal (folded op a b o)
folded_normal op a b (Some f) e g m n = folded_by op a b f (fits f) refl e g m n
folded_normal op a b None e g m n = ((a, b, refl, subst StaysApart e tt), (m, (n, tt)))

pub calculated_normal : (op : ArithmeticOperator) (a b : Term) → IsNormal a → IsNormal b → IsNormal (calculated op a b)
calculated_normal op a b m n =
    folded_normal op a b (combined op (form_of a) (form_of b)) refl (combined_good op (form_of a) (form_of b) (form_good a m) (form_good b n)) m n

-- ---- the other heads
pub part_normal : (ts : Terms) (k : ℕ) → AllNormal ts → IsNormal (part_at ts k)
part_normal no_terms k n = (refl, tt)
part_normal (and_term t ts) zero n = n.0
part_normal (and_term t ts) (suc k) n = part_normal ts k n.1

pub added_up_normal : (ks : List ℤ) (ts : Terms) → AllNormal ts → IsNormal (added_up ks ts)
added_up_normal [] ts n = (refl, tt)
added_up_normal (k ∷ ks) no_terms n = (refl, tt)
added_up_normal (k ∷ ks) (and_term t ts) n =
    calculated_normal Add (calculated Multiply (number k) t) (added_up ks ts) (calculated_normal Multiply (number k) t (refl, tt) n.0) (added_up_normal ks ts n.1)

comparison_normal : (op : Comparison) (a b : Term) (o p : Option ℤ) → number_in a ≡ o → number_in b ≡ p → IsNormal a → IsNormal b → IsNormal (comparison op a b o p)
comparison_normal op a b (Some y) (Some z) e d m n = (tt, tt)
comparison_normal op a b (Some y) None e d m n = ((a, b, refl, inr d), (m, (n, tt)))
comparison_normal op a b None p e d m n = ((a, b, refl, inl e), (m, (n, tt)))

pub as_kind_normal : (k : Kind) (t : Term) → IsNormal t → IsNormal (as_kind k t)
as_kind_normal Integer t n = as_integer_normal t n
as_kind_normal Other t n = n

branch_normal : (b : Bool) (t u : Term) → IsNormal t → IsNormal u → IsNormal (cond b t u)
branch_normal true t u m n = m
branch_normal false t u m n = n

choice_normal : (k : Kind) (c t u : Term) → IsNormal c → IsNormal t → IsNormal u → IsNormal (choice k c t u)
choice_normal k (term (Truth b) ts) t u l m n = as_kind_normal k (cond b t u) (branch_normal b t u m n)
choice_normal k c t u l m n = ((c, t, u, refl, tt), (l, (m, (n, tt))))

moved_by : (p j : Term) (z : ℤ) (b : Bool) → int_eq z (pos 0) ≡ b → number_in j ≡ Some z → IsNoPointerSum p → IsNormal p → IsNormal j → IsNormal (cond b p (term PointerSum (and_term p (and_term j no_terms))))
moved_by p j z true e d h m n = m
moved_by p j z false e d h m n = ((p, j, refl, h, λ f. let g : z ≡ pos 0 = cc in false≢true (sym e ∙ (Decides-int_eq z (pos 0)).1 g)), (m, (n, tt)))

moved_normal : (p j : Term) (o : Option ℤ) → number_in j ≡ o → IsNoPointerSum p → IsNormal p → IsNormal j → IsNormal (moved p j o)
moved_normal p j (Some z) d h m n = moved_by p j z (int_eq z (pos 0)) refl d h m n
moved_normal p j None d h m n = ((p, j, refl, h, λ f. cc), (m, (n, tt)))

no_sum_inside : (q k p j : Term) → and_term q (and_term k no_terms) ≡ and_term p (and_term j no_terms) → IsNoPointerSum p → IsNoPointerSum q
no_sum_inside q k p j e h = let d : p ≡ q = cc in subst IsNoPointerSum d h

pointer_sum_normal : (p j : Term) → IsNormal p → IsNormal j → IsNormal (pointer_sum p j)
pointer_sum_normal (term PointerSum no_terms) j m n = let e = m.0.2 in cc
pointer_sum_normal (term PointerSum (and_term q no_terms)) j m n = let e = m.0.2 in cc
pointer_sum_normal (term PointerSum (and_term q (and_term k (and_term t ts)))) j m n = let e = m.0.2 in cc
pointer_sum_normal (term PointerSum (and_term q (and_term k no_terms))) j m n =
    moved_normal q (calculated Add k j) (number_in (calculated Add k j)) refl (no_sum_inside q k m.0.0 m.0.1 m.0.2 m.0.3) m.1.0 (calculated_normal Add k j m.1.1.0 n)
pointer_sum_normal p j m n = moved_normal p j (number_in j) refl tt m n

-- ---- shares
GoodRow : Terms → Type 0
GoodRow ts = AreFactors ts × AllNormal ts

not_after : (t u : Term) → is_gt (compare t u) ≡ true → is_gt (compare u t) ≡ false
not_after t u e = by (compare t u) e (order_total.0.antisymm u t)
  where
    by : (o : Ordering) → is_gt o ≡ true → compare u t ≡ ordering_reverse o → is_gt (compare u t) ≡ false
    by order.Less e d = absurd (false≢true e)
    by order.Equal e d = absurd (false≢true e)
    by order.Greater e d = ap is_gt d

not_after_by : (u t w : Term) (ws : Terms) (b : Bool) → is_gt (compare u t) ≡ false → is_gt (compare u w) ≡ false → IsNotAfter u (cond b (and_term w (with_factor t ws)) (and_term t (and_term w ws)))
not_after_by u t w ws true e d = d
not_after_by u t w ws false e d = e

not_after_with : (u t : Term) (us : Terms) → is_gt (compare u t) ≡ false → IsNotAfter u us → IsNotAfter u (with_factor t us)
not_after_with u t no_terms e d = e
not_after_with u t (and_term w ws) e d = not_after_by u t w ws (is_gt (compare t w)) e d

factor_by : (t u : Term) (us : Terms) (b : Bool) → is_gt (compare t u) ≡ b → IsNoShare t → IsNormal t → GoodRow (and_term u us) → GoodRow (with_factor t us) → GoodRow (cond b (and_term u (with_factor t us)) (and_term t (and_term u us)))
unfolding GoodRow
factor_by t u us true e h n g d = ((g.0.0, not_after_with u t us (not_after t u e) g.0.1, d.0), (g.1.0, d.1))
factor_by t u us false e h n g d = ((h, e, g.0), (n, g.1))

factor_good : (t : Term) (us : Terms) → IsNoShare t → IsNormal t → GoodRow us → GoodRow (with_factor t us)
unfolding GoodRow
factor_good t no_terms h n g = ((h, tt, tt), (n, tt))
factor_good t (and_term u us) h n g = factor_by t u us (is_gt (compare t u)) refl h n g (factor_good t us h n (g.0.2, g.1.1))

factors_good : (ts us : Terms) → GoodRow ts → GoodRow us → GoodRow (with_factors ts us)
unfolding GoodRow
factors_good no_terms us g d = d
factors_good (and_term t ts) us g d = factor_good t (with_factors ts us) g.0.0 g.1.0 (factors_good ts us (g.0.2, g.1.1) d)

multiplied_good : (t : Term) (p : Product) → IsNormal t → GoodRow p.factors → GoodRow ((multiplied t p).factors)
unfolding GoodRow
multiplied_good (term (Share x) ts) p n g = factors_good ts p.factors (n.0, n.1) g
multiplied_good t p n g = factor_good t p.factors tt n g

product_good_row : (x : Dyadic) (ts : Terms) → AllNormal ts → GoodRow ((product_with x ts).factors)
unfolding GoodRow
product_good_row x no_terms n = (tt, tt)
product_good_row x (and_term t ts) n = multiplied_good t (product_with x ts) n.0 (product_good_row x ts n.1)

-- ---- every head
pub over_normal : (h : Head) (ts : Terms) → AllNormal ts → IsNormal (normal_over h ts)
unfolding GoodRow
over_normal (Number z) ts n = (refl, tt)
over_normal (Sum ks) ts n = added_up_normal ks ts n
over_normal Plus ts n = calculated_normal Add (part_at ts 0) (part_at ts 1) (part_normal ts 0 n) (part_normal ts 1 n)
over_normal (Arithmetic op) ts n = calculated_normal op (part_at ts 0) (part_at ts 1) (part_normal ts 0 n) (part_normal ts 1 n)
over_normal (Compare op) ts n =
    comparison_normal op (part_at ts 0) (part_at ts 1) (number_in (part_at ts 0)) (number_in (part_at ts 1)) refl refl (part_normal ts 0 n) (part_normal ts 1 n)
over_normal (Choose k) ts n = choice_normal k (part_at ts 0) (part_at ts 1) (part_at ts 2) (part_normal ts 0 n) (part_normal ts 1 n) (part_normal ts 2 n)
over_normal PointerSum ts n = pointer_sum_normal (part_at ts 0) (part_at ts 1) (part_normal ts 0 n) (part_normal ts 1 n)
over_normal (Share x) ts n = product_good_row x ts n
over_normal h ts n = (tt, n)

mutual
  reached : (t : Term) → IsNormal (normal t)
  reached (term h ts) = over_normal h (all_normal ts) (all_reached ts)

  pub all_reached : (ts : Terms) → AllNormal (all_normal ts)
  all_reached no_terms = tt
  all_reached (and_term t ts) = (reached t, all_reached ts)

pub normal_forms_reached : NormalFormsLookNormal
normal_forms_reached = (reached, λ t. stays (normal t) (reached t))
