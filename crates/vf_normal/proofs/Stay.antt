-- Terms that look normal are their own normal forms.
use Rattle.std.proofs.Common.{◌≡◌, ◌≢◌, ◌⊎◌, inl, inr, List, ◌∷◌, [], Bool, true, false, cond, Option, Some, None, refl, sym, ◌∙◌, ap, ap₂}
use Rattle.std.specs.Prelude.{ℤ, pos, ◌+ℤ◌, ◌*ℤ◌, ◌&&◌}
use Rattle.std.specs.Ordering.{int_eq}
use Rattle.std.proofs.lemmas.Bool.{false≢true, and_parts, and_from}
use Rattle.std.proofs.lemmas.Bool.Decides.{Decides-int_eq}
use Rattle.std.proofs.lemmas.Int.{ints}
use Rattle.std.proofs.Common.{arith}
use Rattle.vf_tree.specs.Core.{ArithmeticOperator, Add, Multiply, Comparison}
use Rattle.vf_model.specs.Values.{Dyadic}
use Rattle.vf_closure.specs.Terms.{Kind, Integer, Other, Head, Number, Truth, Share, Sum, Plus, Arithmetic, Compare, Choose, PointerSum, Term, Terms, term, no_terms, and_term, number, kind_of}
use Rattle.vf_normal.specs.Sums.{Weighted, Linear, is_small, are_small, fits, put, placed, with_atom, together, added, scaled, constant, combined, paired, one_atom, number_in, form_of, factors_of, row_of, integer_by, as_integer, sum_of, total_of, term_of, operation, folded, calculated}
use Rattle.vf_normal.specs.Normal.{added_up, comparison, choice, moved, pointer_sum, Product, with_factor, multiplied, product_with, share, normal_over, normal, all_normal}
use Rattle.vf_normal.specs.NormalForms.{IsAtom, IsBefore, AreAtoms, StaysApart, IsNoTruth, IsNoPointerSum, IsNoShare, IsNotAfter, AreFactors, LooksNormal, IsNormal, AllNormal}
use Rattle.vf_normal.specs.Laws.{NormalFormsStay}

-- ---- sums as linear sums
-- atoms as a linear sum without a number
abbrev alone : List Weighted → Linear
alone ws = record { atoms = ws; number = pos 0 }

not_told : (x y : ℤ) → x ≢ y → int_eq x y ≡ false
not_told x y n = by (int_eq x y) refl
  where
    by : (b : Bool) → int_eq x y ≡ b → b ≡ false
    by true e = absurd (n ((Decides-int_eq x y).0 e))
    by false e = refl

-- an atom as a linear sum
pub atom_form : (t : Term) → IsAtom t → form_of t ≡ alone (one_atom t)
atom_form (term (Number z) ts) h = absurd (false≢true h)
atom_form (term (Sum ks) ts) h = absurd (false≢true h)
atom_form (term Plus ts) h = absurd (false≢true h)
atom_form t h = refl

one_is : (w : Weighted) → w.factor ≡ pos 1 → one_atom w.atom ≡ w ∷ []
one_is w e = ap (λ k. record { factor = k; atom = w.atom } ∷ []) (sym e)

integer_form : (k : Kind) (w : Weighted) → IsAtom w.atom → w.factor ≡ pos 1 → form_of (integer_by k w.atom) ≡ alone (w ∷ [])
integer_form Integer w h e = atom_form w.atom h ∙ ap alone (one_is w e)
integer_form Other w h e = ap alone (one_is w e)

as_integer_form : (w : Weighted) (t : Term) → t ≡ w.atom → IsAtom w.atom → w.factor ≡ pos 1 → form_of (as_integer t) ≡ alone (w ∷ [])
as_integer_form w (term h ts) e n f = ap (λ t. form_of (integer_by (kind_of h) t)) e ∙ integer_form (kind_of h) w n f

one_form : (w : Weighted) (b : Bool) → int_eq w.factor (pos 1) ≡ b → IsAtom w.atom → form_of (cond b (as_integer w.atom) (term (Sum (w.factor ∷ [])) (and_term w.atom no_terms))) ≡ alone (w ∷ [])
one_form w true e h = as_integer_form w w.atom refl h ((Decides-int_eq w.factor (pos 1)).0 e)
one_form w false e h = refl

pairs_back : (ws : List Weighted) → paired (factors_of ws) (row_of ws) ≡ ws
pairs_back [] = refl
pairs_back (w ∷ ws) = ap (λ vs. w ∷ vs) (pairs_back ws)

-- the sum of atoms has these atoms
pub sum_form : (ws : List Weighted) → AreAtoms ws → form_of (sum_of ws) ≡ alone ws
sum_form [] h = refl
sum_form (w ∷ []) h = one_form w (int_eq w.factor (pos 1)) refl h.1
sum_form (w ∷ v ∷ ws) h = ap alone (pairs_back (w ∷ v ∷ ws))

-- ---- adding up
put_some : (k : ℤ) (a : Term) (ws : List Weighted) → k ≢ pos 0 → put k a ws ≡ record { factor = k; atom = a } ∷ ws
put_some k a ws n = ap (λ b. cond b ws (record { factor = k; atom = a } ∷ ws)) (not_told k (pos 0) n)

pub with_first : (w : Weighted) (ws : List Weighted) → w.factor ≢ pos 0 → IsBefore w.atom ws → with_atom w.factor w.atom ws ≡ w ∷ ws
with_first w [] n h = put_some w.factor w.atom [] n
with_first w (v ∷ ws) n h = ap (placed w.factor w.atom v ws (with_atom w.factor w.atom ws)) h.0 ∙ put_some w.factor w.atom (v ∷ ws) n

pub together_none : (ws : List Weighted) → AreAtoms ws → together ws [] ≡ ws
together_none [] h = refl
together_none (w ∷ ws) h = ap (with_atom w.factor w.atom) (together_none ws h.3) ∙ with_first w ws h.0 h.2

folded_fits : (op : ArithmeticOperator) (a b : Term) (f : Linear) → combined op (form_of a) (form_of b) ≡ Some f → fits f ≡ true → calculated op a b ≡ term_of f
folded_fits op a b f e h = ap (folded op a b) e ∙ ap (λ c. cond c (term_of f) (operation op a b)) h

total_alone : (ws : List Weighted) → term_of (alone ws) ≡ sum_of ws
total_alone [] = refl
total_alone (w ∷ ws) = refl

times_one : (k : ℤ) → k *ℤ pos 1 ≡ k
times_one k = omega (arith, ints)

times_none : (k : ℤ) → k *ℤ pos 0 ≡ pos 0
times_none k = omega (arith, ints)

scaled_atom : (w : Weighted) → w.factor ≢ pos 0 → scaled w.factor (alone (one_atom w.atom)) ≡ alone (w ∷ [])
scaled_atom w n =
    ap₂ (λ k z. let f : Linear = record { atoms = put k w.atom []; number = z } in f) (times_one w.factor) (times_none w.factor)
    ∙ ap alone (put_some w.factor w.atom [] n)

one_term : (w : Weighted) → w.factor ≢ pos 0 → IsAtom w.atom → is_small w.factor ≡ true → calculated Multiply (number w.factor) w.atom ≡ sum_of (w ∷ [])
one_term w n h s =
    folded_fits Multiply (number w.factor) w.atom (alone (w ∷ []))
    (ap (λ f. combined Multiply (constant w.factor) f) (atom_form w.atom h) ∙ ap Some (scaled_atom w n))
    (and_from (is_small w.factor && true) true (and_from (is_small w.factor) true s refl) refl)

one_more : (w : Weighted) (ws : List Weighted) → AreAtoms (w ∷ ws) → are_small (w ∷ ws) ≡ true → calculated Add (sum_of (w ∷ [])) (sum_of ws) ≡ sum_of (w ∷ ws)
one_more w ws h s =
    folded_fits Add (sum_of (w ∷ [])) (sum_of ws) (alone (w ∷ ws))
    (ap₂ (λ f g. Some (added f g)) (sum_form (w ∷ []) (h.0, h.1, tt, tt)) (sum_form ws h.3) ∙ ap (λ vs. Some (alone vs)) (with_first w ws h.0 h.2))
    (and_from (are_small (w ∷ ws)) true s refl)

-- atoms in their order are added up to their sum
all_added : (ws : List Weighted) → AreAtoms ws → are_small ws ≡ true → added_up (factors_of ws) (row_of ws) ≡ sum_of ws
all_added [] h s = refl
all_added (w ∷ ws) h s =
    let p = and_parts (is_small w.factor) (are_small ws) s in
    ap₂ (calculated Add) (one_term w h.0 h.1 p.0) (all_added ws h.3 p.1) ∙ one_more w ws h s

number_added : (c : ℤ) → pos 0 +ℤ c ≡ c
number_added c = omega (arith, ints)

with_number : (ws : List Weighted) (c : ℤ) → AreAtoms ws → fits (record { atoms = ws; number = c }) ≡ true → calculated Add (sum_of ws) (number c) ≡ total_of ws c
with_number ws c h s =
    folded_fits Add (sum_of ws) (number c) (record { atoms = ws; number = c })
    (ap (λ f. Some (added f (constant c))) (sum_form ws h) ∙ ap₂ (λ vs z. let f : Linear = record { atoms = vs; number = z } in Some f) (together_none ws h) (number_added c))
    s

-- ---- the other heads
apart : (op : ArithmeticOperator) (a b : Term) (o : Option Linear) → StaysApart o → folded op a b o ≡ operation op a b
apart op a b None h = refl
apart op a b (Some f) h = ap (λ c. cond c (term_of f) (operation op a b)) h

not_both : (op : Comparison) (a b : Term) (o p : Option ℤ) → (o ≡ None) ⊎ (p ≡ None) → comparison op a b o p ≡ term (Compare op) (and_term a (and_term b no_terms))
not_both op a b o p (inl e) = ap (λ x. comparison op a b x p) e
not_both op a b None p (inr e) = refl
not_both op a b (Some y) p (inr e) = ap (comparison op a b (Some y)) e

no_truth : (k : Kind) (c t u : Term) → IsNoTruth c → choice k c t u ≡ term (Choose k) (and_term c (and_term t (and_term u no_terms)))
no_truth k (term (Truth b) ts) t u h = absurd h
no_truth k c t u h = refl

not_moved : (p i : Term) (o : Option ℤ) → o ≢ Some (pos 0) → moved p i o ≡ term PointerSum (and_term p (and_term i no_terms))
not_moved p i None n = refl
not_moved p i (Some z) n = ap (λ b. cond b p (term PointerSum (and_term p (and_term i no_terms)))) (not_told z (pos 0) (λ e. n (ap Some e)))

no_pointer_sum : (p i : Term) → IsNoPointerSum p → number_in i ≢ Some (pos 0) → pointer_sum p i ≡ term PointerSum (and_term p (and_term i no_terms))
no_pointer_sum (term PointerSum ts) i h n = absurd h
no_pointer_sum p i h n = not_moved p i (number_in i) n

factor_first : (t : Term) (ts : Terms) → IsNotAfter t ts → with_factor t ts ≡ and_term t ts
factor_first t no_terms h = refl
factor_first t (and_term u us) h = ap (λ b. cond b (and_term u (with_factor t us)) (and_term t (and_term u us))) h

one_factor : (t : Term) (p : Product) → IsNoShare t → multiplied t p ≡ record { coefficient = p.coefficient; factors = with_factor t p.factors }
one_factor (term (Share x) ts) p h = absurd h
one_factor t p h = refl

all_factors : (x : Dyadic) (ts : Terms) → AreFactors ts → product_with x ts ≡ record { coefficient = x; factors = ts }
all_factors x no_terms h = refl
all_factors x (and_term t ts) h =
    ap (multiplied t) (all_factors x ts h.2) ∙ one_factor t (record { coefficient = x; factors = ts }) h.0
    ∙ ap (λ us. let p : Product = record { coefficient = x; factors = us } in p) (factor_first t ts h.1)

-- what looks normal stays
over_stays : (h : Head) (ts : Terms) → LooksNormal h ts → normal_over h ts ≡ term h ts
over_stays (Number z) ts l = ap (term (Number z)) (sym l)
over_stays (Sum ks) ts l = ap₂ added_up l.3 l.4 ∙ all_added l.0 l.1 l.2 ∙ l.5
over_stays Plus ts l = ap (normal_over Plus) l.4 ∙ with_number l.0 l.1 l.2 l.3 ∙ l.5
over_stays (Arithmetic op) ts l = ap (normal_over (Arithmetic op)) l.2 ∙ apart op l.0 l.1 (combined op (form_of l.0) (form_of l.1)) l.3 ∙ ap (term (Arithmetic op)) (sym l.2)
over_stays (Compare op) ts l = ap (normal_over (Compare op)) l.2 ∙ not_both op l.0 l.1 (number_in l.0) (number_in l.1) l.3 ∙ ap (term (Compare op)) (sym l.2)
over_stays (Choose k) ts l = ap (normal_over (Choose k)) l.3 ∙ no_truth k l.0 l.1 l.2 l.4 ∙ ap (term (Choose k)) (sym l.3)
over_stays PointerSum ts l = ap (normal_over PointerSum) l.2 ∙ no_pointer_sum l.0 l.1 l.3 l.4 ∙ ap (term PointerSum) (sym l.2)
over_stays (Share x) ts l = ap share (all_factors x ts l)
over_stays h ts l = refl

mutual
  pub stays : (t : Term) → IsNormal t → normal t ≡ t
  stays (term h ts) n = ap (normal_over h) (all_stay ts n.1) ∙ over_stays h ts n.0

  all_stay : (ts : Terms) → AllNormal ts → all_normal ts ≡ ts
  all_stay no_terms n = refl
  all_stay (and_term t ts) n = ap₂ and_term (stays t n.0) (all_stay ts n.1)

pub normal_forms_stay : NormalFormsStay
normal_forms_stay t n = stays t n
