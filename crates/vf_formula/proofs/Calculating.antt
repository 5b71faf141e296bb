-- Operations on sums.
use Rattle.std.proofs.Common.{◌≡◌, ℕ, zero, suc, ◌<◌, ◌≤◌, ◌+◌, List, ◌∷◌, [], ◌++◌, drop, length, Bool, true, false, cond, Option, Some, None, refl, sym, ◌∙◌, ap, ap₂, subst, arith}
use Rattle.std.specs.Prelude.{ℤ, pos, ◌*ℤ◌, neg_ℤ, ◌&&◌, ◌^◌, int_le, FitsSigned, IfOk}
use mir.Syntax.{w128}
use Rattle.std.specs.declared.result.Result.{Result}
use Rattle.std.specs.declared.result.Result.TheVariants.{Ok, Err}
use Rattle.std.proofs.Math.ListN.{get_or}
use Rattle.std.proofs.lemmas.List.{append_assoc, append-nil}
use Rattle.std.specs.Ordering.{int_eq}
use Rattle.std.proofs.lemmas.Bool.{and_parts}
use Rattle.std.proofs.lemmas.Int.{ints}
use Rattle.std.proofs.lemmas.Bool.Decides.{Decides-int_eq}
use Rattle.vf_tree.specs.Core.{ArithmeticOperator}
use Rattle.vf_closure.specs.Terms.{Number, Sum, Plus, Term, Terms, term, no_terms, and_term, number}
use Rattle.vf_normal.specs.Sums.{Weighted, Linear, is_small, are_small, fits, put, times_each, combined, form_of, sum_of, total_of, term_of, operation, folded, calculated}
use Rattle.vf_normal.specs.NormalForms.{AreAtoms, IsNormal, StaysApart}
use Rattle.vf_normal.proofs.Stay.{atom_form}
use Rattle.vf_normal.proofs.Reached.{Good, form_good, times_good, pairs_as, sum_atoms}
use Rattle.vf_formula.specs.Linears.{IsSum, IsFitted, IsCombined}
use Rattle.vf_formula.proofs.Merging.{at_index, put_more}

-- a number past 128 bits is not small
small_fits : (z : ℤ) → is_small z ≡ true → FitsSigned w128 z
small_fits z e =
    let p = and_parts (int_le (neg_ℤ (pos (2 ^ 90))) z) (int_le z (pos (2 ^ 90))) e in
    let a = p.0 in
    let b = p.1 in
    grind (arith, ints)

refuted : (b : Bool) → (b ≡ true → ⊥) → b ≡ false
refuted true h = absurd (h refl)
refuted false h = refl

pub not_small : (z : ℤ) → (FitsSigned w128 z → ⊥) → is_small z ≡ false
not_small z h = refuted (is_small z) (λ e. h (small_fits z e))

and_no : (b c : Bool) → c ≡ false → (b && c) ≡ false
and_no true c e = e
and_no false c e = refl

-- a sum whose number is past 128 bits does not fit
pub number_past : (f : Linear) → (FitsSigned w128 f.number → ⊥) → fits f ≡ false
number_past f h = and_no (are_small f.atoms) (is_small f.number) (not_small f.number h)

and_not : (b c : Bool) → b ≡ false → (b && c) ≡ false
and_not b c e = ap (λ x. x && c) e

-- a sum with a factor that is not small does not fit
pub factor_past : (f : Linear) → are_small f.atoms ≡ false → fits f ≡ false
factor_past f e = and_not (are_small f.atoms) (is_small f.number) e

small_more : (xs ys : List Weighted) → are_small ys ≡ false → are_small (xs ++ ys) ≡ false
small_more [] ys e = e
small_more (x ∷ xs) ys e = and_no (is_small x.factor) (are_small (xs ++ ys)) (small_more xs ys e)

nought_fits : (z : ℤ) → z ≡ pos 0 → FitsSigned w128 z
nought_fits z e = subst (FitsSigned w128) (sym e) (grind (arith, ints))

put_past : (k : ℤ) (a : Term) (ws : List Weighted) (b : Bool) → int_eq k (pos 0) ≡ b → (FitsSigned w128 k → ⊥) → are_small (cond b ws (record { factor = k; atom = a } ∷ ws)) ≡ false
put_past k a ws true e h = absurd (h (nought_fits k ((Decides-int_eq k (pos 0)).0 e)))
put_past k a ws false e h = and_not (is_small k) (are_small ws) (not_small k h)

-- a product past 128 bits leaves no small factors
pub product_past : (all ws : List Weighted) (k : ℤ) (i : ℕ) (w : Weighted) → i < length ws → w ≡ get_or ws i w → all ++ times_each k (drop i ws) ≡ times_each k ws → (FitsSigned w128 (k *ℤ w.factor) → ⊥) → are_small (times_each k ws) ≡ false
product_past all ws k i w h e f n =
    ap are_small (sym f ∙ ap (λ xs. all ++ times_each k xs) (at_index ws i w h e))
    ∙ small_more all (times_each k (w ∷ drop (i + 1) ws)) (put_past (k *ℤ w.factor) w.atom (times_each k (drop (i + 1) ws)) (int_eq (k *ℤ w.factor) (pos 0)) refl n)

-- one more atom is multiplied
pub one_multiplied : (all ws : List Weighted) (k : ℤ) (i : ℕ) (w : Weighted) → i < length ws → w ≡ get_or ws i w → all ++ times_each k (drop i ws) ≡ times_each k ws → (all ++ put (k *ℤ w.factor) w.atom []) ++ times_each k (drop (i + 1) ws) ≡ times_each k ws
one_multiplied all ws k i w h e f =
    append_assoc all (put (k *ℤ w.factor) w.atom []) (times_each k (drop (i + 1) ws))
    ∙ ap (λ xs. all ++ xs) (sym (put_more (k *ℤ w.factor) w.atom (times_each k (drop (i + 1) ws))) ∙ sym (ap (times_each k) (at_index ws i w h e)))
    ∙ f

-- the same where the numbers are known by equations
pub product_past_by : (all ws : List Weighted) (k : ℤ) (i : ℕ) (w : Weighted) (m n : ℤ) → i < length ws → w ≡ get_or ws i w → all ++ times_each k (drop i ws) ≡ times_each k ws → (FitsSigned w128 (m *ℤ n) → ⊥) → m ≡ k → n ≡ w.factor → are_small (times_each k ws) ≡ false
product_past_by all ws k i w m n h e f past p q =
    product_past all ws k i w h e f (λ x. past (subst (FitsSigned w128) (sym (ap₂ (λ a b. a *ℤ b) p q)) x))

pub one_multiplied_by : (all new ws : List Weighted) (k : ℤ) (i : ℕ) (w : Weighted) (m n x y : ℤ) (a : Term) → i < length ws → w ≡ get_or ws i w → all ++ times_each k (drop i ws) ≡ times_each k ws → new ≡ all ++ put x a [] → y ≡ m *ℤ n → x ≡ y → m ≡ k → n ≡ w.factor → a ≡ w.atom → new ++ times_each k (drop (i + 1) ws) ≡ times_each k ws
one_multiplied_by all new ws k i w m n x y a h e f g z o p q r =
    ap (λ xs. xs ++ times_each k (drop (i + 1) ws)) (g ∙ ap₂ (λ b t. all ++ put b t []) (o ∙ z ∙ ap₂ (λ b c. b *ℤ c) p q) r)
    ∙ one_multiplied all ws k i w h e f

none_left : (k : ℤ) (i : ℕ) (ws : List Weighted) → length ws ≤ i → times_each k (drop i ws) ≡ []
none_left k zero [] h = refl
none_left k (suc i) [] h = refl
none_left k zero (w ∷ ws) h = absurd (omega (arith, h))
none_left k (suc i) (w ∷ ws) h = none_left k i ws (omega (arith, h))

-- all atoms are multiplied
pub all_multiplied : (all ws : List Weighted) (k : ℤ) (i : ℕ) → length ws ≤ i → all ++ times_each k (drop i ws) ≡ times_each k ws → all ≡ times_each k ws
all_multiplied all ws k i h e = sym (append-nil all) ∙ ap (λ xs. all ++ xs) (sym (none_left k i ws h)) ∙ e

-- what was fitted was combined
pub fitted_combined : (f : Linear) (o : Option Linear) → IsFitted f o → IsCombined (Some f) o
fitted_combined f (Some g) h = ap Some (sym h)
fitted_combined f None h = h

-- ---- factors
put_small_by : (k : ℤ) (a : Term) (ws : List Weighted) (b : Bool) → is_small k ≡ true → are_small ws ≡ true → are_small (cond b ws (record { factor = k; atom = a } ∷ ws)) ≡ true
put_small_by k a ws true s e = e
put_small_by k a ws false s e = ap₂ (λ x y. x && y) s e

negated : (k : ℤ) → is_small k ≡ true → is_small (neg_ℤ (pos 1) *ℤ k) ≡ true
negated k e =
    let p = and_parts (int_le (neg_ℤ (pos (2 ^ 90))) k) (int_le k (pos (2 ^ 90))) e in
    let a = p.0 in
    let b = p.1 in
    let c : int_le (neg_ℤ (pos (2 ^ 90))) (neg_ℤ (pos 1) *ℤ k) ≡ true = grind (arith, ints) in
    let d : int_le (neg_ℤ (pos 1) *ℤ k) (pos (2 ^ 90)) ≡ true = grind (arith, ints) in
    ap₂ (λ x y. x && y) c d

pub negated_small : (ws : List Weighted) → are_small ws ≡ true → are_small (times_each (neg_ℤ (pos 1)) ws) ≡ true
negated_small [] e = refl
negated_small (w ∷ ws) e =
    let p = and_parts (is_small w.factor) (are_small ws) e in
    put_small_by (neg_ℤ (pos 1) *ℤ w.factor) w.atom (times_each (neg_ℤ (pos 1)) ws) (int_eq (neg_ℤ (pos 1) *ℤ w.factor) (pos 0)) (negated w.factor p.0) (negated_small ws p.1)

pub negated_sum : (ws : List Weighted) → IsSum ws → IsSum (times_each (neg_ℤ (pos 1)) ws)
negated_sum ws h =
    let g : Good (times_each (neg_ℤ (pos 1)) ws) = times_good (neg_ℤ (pos 1)) ws (h.atoms, h.normal) in
    record { atoms = g.0; normal = g.1; small = negated_small ws h.small }

-- ---- the sums of terms in normal form
plus_small : (ws : List Weighted) (c : ℤ) (ts : Terms) → AreAtoms ws → fits (record { atoms = ws; number = c }) ≡ true → total_of ws c ≡ term Plus ts → ts ≡ and_term (sum_of ws) (and_term (number c) no_terms) → are_small (form_of (term Plus ts)).atoms ≡ true
plus_small [] c ts h s e d = cc
plus_small (w ∷ ws) c ts h s e d =
    subst (λ us. are_small (form_of (term Plus us)).atoms ≡ true) (sym d)
    (ap are_small (sum_atoms w ws h) ∙ (and_parts (are_small (w ∷ ws)) (is_small c) s).0)

form_small : (t : Term) → IsNormal t → are_small (form_of t).atoms ≡ true
form_small (term (Number z) ts) n = refl
form_small (term (Sum ks) ts) n =
    let l = n.0 in
    ap are_small (pairs_as ks ts l.0 l.3 l.4) ∙ l.2
form_small (term Plus ts) n = let l = n.0 in plus_small l.0 l.1 ts l.2 l.3 l.5 l.4
form_small t n = ap (λ f. are_small f.atoms) (atom_form t refl)

pub form_is_sum : (t : Term) → IsNormal t → IsSum (form_of t).atoms
form_is_sum t n =
    let g : Good (form_of t).atoms = form_good t n in
    record { atoms = g.0; normal = g.1; small = form_small t n }

-- ---- what comes of an operation
pub comes_to : (op : ArithmeticOperator) (a b : Term) (f : Linear) → combined op (form_of a) (form_of b) ≡ Some f → fits f ≡ true → calculated op a b ≡ term_of f
comes_to op a b f e h = ap (folded op a b) e ∙ ap (λ c. cond c (term_of f) (operation op a b)) h

pub stays_large : (op : ArithmeticOperator) (a b : Term) (f : Linear) → combined op (form_of a) (form_of b) ≡ Some f → fits f ≡ false → calculated op a b ≡ operation op a b
stays_large op a b f e h = ap (folded op a b) e ∙ ap (λ c. cond c (term_of f) (operation op a b)) h

apart : (op : ArithmeticOperator) (a b : Term) (o : Option Linear) → StaysApart o → folded op a b o ≡ operation op a b
apart op a b None h = refl
apart op a b (Some f) h = ap (λ c. cond c (term_of f) (operation op a b)) h

pub stays_apart : (op : ArithmeticOperator) (a b : Term) → StaysApart (combined op (form_of a) (form_of b)) → calculated op a b ≡ operation op a b
stays_apart op a b h = apart op a b (combined op (form_of a) (form_of b)) h

-- a term that is a term in normal form is in normal form
pub ok_normal : {E : Type 0} (r : Result Term E) (t : Term) → IfOk r (λ u. u ≡ t) → IsNormal t → IfOk r IsNormal
ok_normal (Ok u) t e n = subst IsNormal (sym e) n
ok_normal (Err x) t e n = tt
