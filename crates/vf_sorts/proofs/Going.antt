-- What comes of sorts that are made equal goes by the definition's steps.
use Rattle.std.proofs.Common.{◌≡◌, ◌∙◌, ℕ, zero, suc, ◌<◌, ◌≤◌, List, [], ◌∷◌, ◌++◌, length, reverse, Bool, true, false, ◌&&◌, nat_eq, Option, Some, None, refl, sym, ap, ap₂, subst, arith, if◌then◌else◌, IsTrue}
use Rattle.std.specs.Option.{option_map}
use Rattle.std.proofs.lemmas.List.{reverse-append, reverse-reverse}
use Rattle.vf_sorts.specs.declared.sort.Head.{Head}
use Rattle.vf_sorts.specs.declared.pair.Pair.{Pair}
use Rattle.vf_sorts.specs.Sorts.{Sort, sort, row}
use Rattle.vf_sorts.specs.Unknowns.{Known, by_known, filled, is_in, with_known}
use Rattle.vf_sorts.specs.Pairs.{head_of, paired, weight}
use Rattle.vf_sorts.specs.Unifying.{are_heads_alike, beside, by_heads, by_unknown, first_made, is_numbered, listed, made_within, pair_of, parts_of, then_made, unified, unknown_of, where_made, with_sort}
use Rattle.vf_sorts.proofs.Making.{last_first}

-- ---- an unknown sort
pub itself_made : (k : Known) (u : ℕ) (s : Sort) → true ≡ is_numbered u (unknown_of (head_of s)) → with_sort k u s ≡ Some k
itself_made k u s e = ap (λ (b : Bool). if b then Some k else if is_in u s then None else Some (with_known k u s)) (sym e)

pub inside_made : (k : Known) (u : ℕ) (s : Sort) → false ≡ is_numbered u (unknown_of (head_of s)) → true ≡ is_in u s → with_sort k u s ≡ None
inside_made k u s e i = ap₂ (λ (b c : Bool). if b then Some k else if c then None else Some (with_known k u s)) (sym e) (sym i)

pub learnt_made : (k k' : Known) (u : ℕ) (s : Sort) → false ≡ is_numbered u (unknown_of (head_of s)) → false ≡ is_in u s → k' ≡ with_known k u s → with_sort k u s ≡ Some k'
learnt_made k k' u s e i l = ap₂ (λ (b c : Bool). if b then Some k else if c then None else Some (with_known k u s)) (sym e) (sym i) ∙ ap Some (sym l)

mapped : (made : Bool) (k : Known) (ps : List Pair) → option_map (beside ps) (where_made made k) ≡ where_made made (k, ps)
mapped true k ps = refl
mapped false k ps = refl

pub first_is_made : (made : Bool) (k k' : Known) (ps : List Pair) (s t : Sort) (u : ℕ) → Some u ≡ unknown_of (head_of s) → with_sort k u t ≡ where_made made k' → by_heads k ps s t ≡ where_made made (k', ps)
first_is_made made k k' ps s t u is e = ap (λ (o : Option ℕ). by_unknown k ps s t o (unknown_of (head_of t))) (sym is) ∙ ap (option_map (beside ps)) e ∙ mapped made k' ps

pub second_is_made : (made : Bool) (k k' : Known) (ps : List Pair) (s t : Sort) (u : ℕ) → None ≡ unknown_of (head_of s) → Some u ≡ unknown_of (head_of t) → with_sort k u s ≡ where_made made k' → by_heads k ps s t ≡ where_made made (k', ps)
second_is_made made k k' ps s t u none is e = ap₂ (by_unknown k ps s t) (sym none) (sym is) ∙ ap (option_map (beside ps)) e ∙ mapped made k' ps

-- ---- heads over parts
listed_row : (ss : List Sort) → listed (row ss) ≡ ss
listed_row [] = refl
listed_row (s ∷ ss) = ap (λ (ts : List Sort). s ∷ ts) (listed_row ss)

parts_in : (s : Sort) (h : Head) (ss : List Sort) → sort h (row ss) ≡ s → parts_of s ≡ ss
parts_in s h ss v = ap parts_of (sym v) ∙ listed_row ss

heads_in : (s : Sort) (h : Head) (ss : List Sort) → sort h (row ss) ≡ s → head_of s ≡ h
heads_in s h ss v = ap head_of (sym v)

numbers_same : (m n : ℕ) → m ≡ n → nat_eq m n ≡ true
numbers_same m n e = grind (arith, e)

numbers_apart : (m n : ℕ) → (m ≡ n → ⊥) → nat_eq m n ≡ false
numbers_apart m n a = grind (arith, a)

by_parts : (k : Known) (ps : List Pair) (s t : Sort) (h g : Head) (ss ts : List Sort) → sort h (row ss) ≡ s → sort g (row ts) ≡ t → None ≡ unknown_of (head_of s) → None ≡ unknown_of (head_of t)
    → by_heads k ps s t ≡ (if are_heads_alike h g && nat_eq (length ss) (length ts) then Some (k, paired ss ts ++ ps) else None)
by_parts k ps s t h g ss ts v w m n = ap₂ (by_unknown k ps s t) (sym m) (sym n)
    ∙ ap₂ (λ (x y : Head). if are_heads_alike x y && nat_eq (length (parts_of s)) (length (parts_of t)) then Some (k, paired (parts_of s) (parts_of t) ++ ps) else None) (heads_in s h ss v) (heads_in t g ts w)
    ∙ ap₂ (λ (x y : List Sort). if are_heads_alike h g && nat_eq (length x) (length y) then Some (k, paired x y ++ ps) else None) (parts_in s h ss v) (parts_in t g ts w)

pub heads_unmade : (k : Known) (ps : List Pair) (s t : Sort) (h g : Head) (ss ts : List Sort) → sort h (row ss) ≡ s → sort g (row ts) ≡ t → None ≡ unknown_of (head_of s) → None ≡ unknown_of (head_of t) → false ≡ are_heads_alike h g → by_heads k ps s t ≡ None
heads_unmade k ps s t h g ss ts v w m n e = by_parts k ps s t h g ss ts v w m n ∙ ap (λ (b : Bool). if b && nat_eq (length ss) (length ts) then Some (k, paired ss ts ++ ps) else None) (sym e)

pub lengths_unmade : (k : Known) (ps : List Pair) (s t : Sort) (h g : Head) (ss ts : List Sort) → sort h (row ss) ≡ s → sort g (row ts) ≡ t → None ≡ unknown_of (head_of s) → None ≡ unknown_of (head_of t) → true ≡ are_heads_alike h g → (length ss ≡ length ts → ⊥) → by_heads k ps s t ≡ None
lengths_unmade k ps s t h g ss ts v w m n e a = by_parts k ps s t h g ss ts v w m n ∙ ap₂ (λ (b c : Bool). if b && c then Some (k, paired ss ts ++ ps) else None) (sym e) (numbers_apart (length ss) (length ts) a)

pub parts_are_made : (k : Known) (pairs then_pairs : List Pair) (s t : Sort) (h g : Head) (ss ts : List Sort) → sort h (row ss) ≡ s → sort g (row ts) ≡ t → None ≡ unknown_of (head_of s) → None ≡ unknown_of (head_of t) → true ≡ are_heads_alike h g → length ss ≡ length ts
    → then_pairs ≡ pairs ++ reverse (paired ss ts) → by_heads k (reverse pairs) s t ≡ Some (k, reverse then_pairs)
parts_are_made k pairs then_pairs s t h g ss ts v w m n e l is = by_parts k (reverse pairs) s t h g ss ts v w m n
    ∙ ap₂ (λ (b c : Bool). if b && c then Some (k, paired ss ts ++ reverse pairs) else None) (sym e) (numbers_same (length ss) (length ts) l)
    ∙ ap (λ (ps : List Pair). Some (k, ps)) (ap (λ (ps : List Pair). ps ++ reverse pairs) (sym (reverse-reverse (paired ss ts))) ∙ sym (reverse-append pairs (reverse (paired ss ts))) ∙ ap reverse (sym is))

-- ---- pairs one after the other
pub pair_is_made : (made : Bool) (k k' : Known) (p : Pair) (s t : Sort) (ps qs : List Pair) → s ≡ filled (by_known k) p.left → t ≡ filled (by_known k) p.right → by_heads k ps s t ≡ where_made made (k', qs) → first_made k p ps ≡ where_made made (k', qs)
pair_is_made made k k' p s t ps qs a b e = ap₂ (by_heads k ps) (sym a) (sym b) ∙ e

-- what is left leads to what there was to make, with as many steps as are left to do or more
pub record Leads (k : Known) (s t : Sort) (k' : Known) (pairs : List Pair) : Type 0 where
  pub steps : ℕ
  pub enough : weight k' pairs ≤ steps
  pub goes : unified k s t ≡ made_within steps k' (reverse pairs)

last_reversed : (pairs rest : List Pair) (p : Pair) → pairs ≡ rest ++ p ∷ [] → reverse pairs ≡ p ∷ reverse rest
last_reversed pairs rest p e = ap reverse e ∙ reverse-append rest (p ∷ [])

pub leads_on : (k : Known) (s t : Sort) (k₁ k₂ : Known) (pairs rest then_pairs : List Pair) (p : Pair) (made : Bool) → made ≡ true → pairs ≡ rest ++ p ∷ [] → Leads k s t k₁ pairs
    → first_made k₁ p (reverse rest) ≡ where_made made (k₂, reverse then_pairs) → (IsTrue made → weight k₂ then_pairs < weight k₁ (p ∷ rest)) → Leads k s t k₂ then_pairs
leads_on k s t k₁ k₂ pairs rest then_pairs p true is e l m falls = by l.steps l.enough l.goes
  where
    less : weight k₂ then_pairs < weight k₁ pairs
    less = subst (λ (n : ℕ). weight k₂ then_pairs < n) (last_first k₁ rest p ∙ ap (weight k₁) (sym e)) (falls refl)

    by : (n : ℕ) → weight k₁ pairs ≤ n → unified k s t ≡ made_within n k₁ (reverse pairs) → Leads k s t k₂ then_pairs
    by zero enough goes = absurd (omega (arith, enough, less))
    by (suc n) enough goes = record {
      steps = n;
      enough = omega (arith, enough, less);
      goes = goes ∙ ap (made_within (suc n) k₁) (last_reversed pairs rest p e) ∙ ap (then_made (λ l. made_within n l.0 l.1)) m;
    }
leads_on k s t k₁ k₂ pairs rest then_pairs p false is e l m falls = absurd cc

pub leads_nowhere : (k : Known) (s t : Sort) (k₁ k₂ : Known) (pairs rest then_pairs : List Pair) (p : Pair) (made : Bool) → made ≡ false → pairs ≡ rest ++ p ∷ [] → Leads k s t k₁ pairs
    → first_made k₁ p (reverse rest) ≡ where_made made (k₂, reverse then_pairs) → unified k s t ≡ None
leads_nowhere k s t k₁ k₂ pairs rest then_pairs p true is e l m = absurd cc
leads_nowhere k s t k₁ k₂ pairs rest then_pairs p false is e l m = l.goes ∙ ap (made_within l.steps k₁) (last_reversed pairs rest p e) ∙ by l.steps
  where
    by : (n : ℕ) → made_within n k₁ (p ∷ reverse rest) ≡ None
    by zero = refl
    by (suc n) = ap (then_made (λ l. made_within n l.0 l.1)) m

pub leads_there : (k : Known) (s t : Sort) (k₁ : Known) (pairs : List Pair) → pairs ≡ [] → Leads k s t k₁ pairs → unified k s t ≡ Some k₁
leads_there k s t k₁ pairs e l = l.goes ∙ ap (λ (ps : List Pair). made_within l.steps k₁ (reverse ps)) e ∙ by l.steps
  where
    by : (n : ℕ) → made_within n k₁ [] ≡ Some k₁
    by zero = refl
    by (suc n) = refl

pub leads_first : (k : Known) (s t : Sort) (p : Pair) (pairs : List Pair) → p ≡ pair_of s t → pairs ≡ p ∷ [] → Leads k s t k pairs
leads_first k s t p pairs e is = record {
  steps = weight k (pair_of s t ∷ []);
  enough = subst (λ (ps : List Pair). weight k ps ≤ weight k (pair_of s t ∷ [])) (ap (λ (q : Pair). q ∷ []) (sym e) ∙ sym is) (omega arith);
  goes = ap (λ (ps : List Pair). made_within (weight k (pair_of s t ∷ [])) k (reverse ps)) (ap (λ (q : Pair). q ∷ []) (sym e) ∙ sym is);
}
