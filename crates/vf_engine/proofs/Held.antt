-- Look-ups of values that are held by their numbers.
use Rattle.std.proofs.Common.{◌≡◌, ℕ, zero, suc, ◌+◌, ◌<◌, ◌≤◌, length, Bool, true, false, cond, List, [], ◌∷◌, ◌++◌, Option, Some, None, is_some, refl, sym, ap, subst, ◌∙◌, ⊎_elim, arith}
use Rattle.std.proofs.Math.ListN.{get_or, set}
use Rattle.std.specs.Option.{option_or}
use Rattle.std.specs.Ordering.{nat_cmp, is_eq}
use Rattle.std.specs.Cmp.{unsigned_tied}
use Rattle.std.specs.BTreeMap as tree
use Rattle.std.specs.BTreeMap.{BTreeMap}
use Rattle.std.proofs.lemmas.List.{length-append, get_or-set_same, get_or-set_other}
use Rattle.std.proofs.lemmas.Bool.{false≢true, cond-true, cond-false, eq-eqb, ne_eqb, eqb-true, cases_eq}
use Rattle.vf_engine.specs.Held.{numbered, entries_held, held}
use Rattle.vf_engine.proofs.Maps.{at}

-- a key ties with itself
pub tied : (a b : ℕ) → a ≡ b → is_eq (nat_cmp a b) ≡ true
tied a b e = unsigned_tied a b ∙ eq-eqb a b e

-- and with no other
pub apart : (a b : ℕ) → (a ≡ b → ⊥) → is_eq (nat_cmp a b) ≡ false
apart a b e = unsigned_tied a b ∙ ne_eqb a b e

-- keys that tie are equal
pub same_key : (a b : ℕ) → is_eq (nat_cmp a b) ≡ true → a ≡ b
same_key a b e = eqb-true a b (sym (unsigned_tied a b) ∙ e)

or_cond : {X : Type 0} (b : Bool) (x : X) (o p : Option X) → cond b (Some x) (option_or o p) ≡ option_or (cond b (Some x) o) p
or_cond true x o p = refl
or_cond false x o p = refl

at_append : {X : Type 0} (xs ys : List (ℕ × X)) (q : ℕ) → at (xs ++ ys) q ≡ option_or (at xs q) (at ys q)
at_append [] ys q = refl
at_append (e ∷ xs) ys q = ap (cond (is_eq (nat_cmp q e.0)) (Some e.1)) (at_append xs ys q) ∙ or_cond (is_eq (nat_cmp q e.0)) e.1 (at xs q) (at ys q)

below_none : {X : Type 0} (q from : ℕ) (vs : List (Option X)) → q < from → at (numbered from vs) q ≡ None
below_none q from [] h = refl
below_none q from (None ∷ vs) h = below_none q (suc from) vs (omega arith)
below_none q from (Some v ∷ vs) h =
    cond-false _ (Some v) (at (numbered (suc from) vs) q) (apart q from (λ e. omega (arith, e, h))) ∙ below_none q (suc from) vs (omega arith)

numbered_at : {X : Type 0} (from j : ℕ) (vs : List (Option X)) → at (numbered from vs) (from + j) ≡ get_or vs j None
numbered_at from j [] = refl
numbered_at from zero (None ∷ vs) = below_none (from + 0) (suc from) vs (omega arith)
numbered_at from zero (Some v ∷ vs) = cond-true _ (Some v) (at (numbered (suc from) vs) (from + 0)) (tied (from + 0) from (omega arith))
numbered_at from (suc j) (None ∷ vs) =
    let e : suc from + j ≡ from + suc j = omega arith in
    subst (λ n. at (numbered (suc from) vs) n ≡ get_or vs j None) e (numbered_at (suc from) j vs)
numbered_at from (suc j) (Some v ∷ vs) =
    let e : suc from + j ≡ from + suc j = omega arith in
    cond-false _ (Some v) (at (numbered (suc from) vs) (from + suc j)) (apart (from + suc j) from (λ w. omega (arith, w)))
    ∙ subst (λ n. at (numbered (suc from) vs) n ≡ get_or vs j None) e (numbered_at (suc from) j vs)

-- a look-up in all entries is one in the list and then in the map
pub at_held : {X : Type 0} (low : List (Option X)) (beyond : BTreeMap ℕ X) (q : ℕ) → at (entries_held low beyond) q ≡ held low beyond q
at_held low beyond q =
    let e : 0 + q ≡ q = omega arith in
    at_append (numbered 0 low) beyond.entries q
    ∙ ap (λ o. option_or o (tree.get nat_cmp beyond q)) (subst (λ n. at (numbered 0 low) n ≡ get_or low q None) e (numbered_at 0 q low))

numbered_most : {X : Type 0} (from : ℕ) (vs : List (Option X)) → length (numbered from vs) ≤ length vs
numbered_most from [] = omega arith
numbered_most from (None ∷ vs) = let rest = numbered_most (suc from) vs in omega (arith, rest)
numbered_most from (Some v ∷ vs) = let rest = numbered_most (suc from) vs in omega (arith, rest)

-- no more entries than places in the list and in the map
pub entries_most : {X : Type 0} (low : List (Option X)) (beyond : BTreeMap ℕ X) → length (entries_held low beyond) ≤ length low + length beyond.entries
entries_most low beyond =
    let many = length-append (numbered 0 low) beyond.entries in
    let few = numbered_most 0 low in
    omega (arith, many, few)

-- a value that is put into the list
pub put_low : {X : Type 0} (low : List (Option X)) (beyond : BTreeMap ℕ X) (k : ℕ) (v : X) (q : ℕ) → k < length low
    → held (set low k (Some v)) beyond q ≡ cond (is_eq (nat_cmp k q)) (Some v) (held low beyond q)
put_low low beyond k v q within =
    ⊎_elim
    (λ same. ap (λ o. option_or o (tree.get nat_cmp beyond q)) (subst (λ j. get_or (set low k (Some v)) j None ≡ Some v) same (get_or-set_same low k (Some v) None within))
    ∙ sym (cond-true _ (Some v) (held low beyond q) (tied k q same)))
    (λ other. ap (λ o. option_or o (tree.get nat_cmp beyond q)) (get_or-set_other low k q (Some v) None (λ e. other (sym e)))
    ∙ sym (cond-false _ (Some v) (held low beyond q) (apart k q other)))
    (cases_eq k q)

-- what is not there is none
pub none_of : {X : Type 0} (o : Option X) → is_some o ≡ false → o ≡ None
none_of None is = refl
none_of (Some x) is = absurd (false≢true (sym is))

-- a value that is put into the map, where the list has none at its number
pub put_beyond : {X : Type 0} (low : List (Option X)) (m n : BTreeMap ℕ X) (k : ℕ) (v : X) (q : ℕ) → get_or low k None ≡ None
    → ((j : ℕ) → tree.get nat_cmp n j ≡ cond (is_eq (nat_cmp k j)) (Some v) (tree.get nat_cmp m j))
    → held low n q ≡ cond (is_eq (nat_cmp k q)) (Some v) (held low m q)
put_beyond low m n k v q none h =
    ⊎_elim
    (λ same. ap (λ o. option_or o (tree.get nat_cmp n q)) (subst (λ j. get_or low j None ≡ None) same none)
    ∙ h q ∙ cond-true _ (Some v) (tree.get nat_cmp m q) (tied k q same)
    ∙ sym (cond-true _ (Some v) (held low m q) (tied k q same)))
    (λ other. ap (option_or (get_or low q None)) (h q ∙ cond-false _ (Some v) (tree.get nat_cmp m q) (apart k q other))
    ∙ sym (cond-false _ (Some v) (held low m q) (apart k q other)))
    (cases_eq k q)

-- a place that has a value is one of the list
pub within : {X : Type 0} (low : List (Option X)) (k : ℕ) → is_some (get_or low k None) ≡ true → k < length low
within [] k is = absurd (false≢true is)
within (o ∷ low) zero is = omega arith
within (o ∷ low) (suc k) is = let rest = within low k is in omega (arith, rest)

-- where it has none, the map decides
pub none_low : {X : Type 0} (low : List (Option X)) (k : ℕ) → is_some (get_or low k None) ≡ false → get_or low k None ≡ None
none_low low k is = none_of (get_or low k None) is
