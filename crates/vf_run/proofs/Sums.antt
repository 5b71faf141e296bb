-- Sums over the values of a map, and over lists with one element changed.
use Rattle.std.proofs.Common.{◌≡◌, ℕ, ◌+◌, Bool, true, false, cond, List, [], ◌∷◌, map, Option, Some, None, is_some, slice_get, slice_set, ◌==◌, eq-eqb, refl, sym, ap, ◌∙◌, arith}
use Rattle.std.specs.List.{sum_by}
use Rattle.std.specs.FinMap as finite
use Rattle.std.specs.FinMap.{FinMap}
use Rattle.std.specs.FinMap.Entries.{put, find, by_order}
use Rattle.std.specs.Ordering.{nat_cmp, eq_by_cmp, is_eq}
use Rattle.std.specs.Cmp.{nat_cmp_total, unsigned_tied}
use Rattle.std.specs.declared.cmp.Ordering.{Ordering}
use Rattle.std.specs.declared.cmp.Ordering.TheVariants.{Less, Equal, Greater}
use Rattle.std.proofs.lemmas.Bool.{true≢false, false≢true, cond-true}
use Rattle.std.proofs.lemmas.Option.{slice_get_within, get_or_from_slice_get}
use Rattle.std.proofs.lemmas.List.Sums.{sum_by-set, sum_by-cons}

-- a sum over the values of entries
abbrev pub total : {X : Type 0} → (X → ℕ) → List (ℕ × X) → ℕ
total f es = sum_by f (map (λ e. e.1) es)

none_of : {X : Type 0} (o : Option X) → is_some o ≡ false → o ≡ None
none_of None h = refl
none_of (Some x) h = absurd (true≢false h)

-- an entry whose key is new adds its value
total_put : {X : Type 0} (f : X → ℕ) (k : ℕ) (v : X) (es : List (ℕ × X)) → find nat_cmp k es ≡ None → total f (put nat_cmp k v es) ≡ f v + total f es
total_put f k v [] h = sum_by-cons f v []
total_put f k v (e ∷ es) h =
    elim (nat_cmp k e.0) as (λ r. cond (is_eq r) (Some e.1) (find nat_cmp k es) ≡ None → total f (by_order r ((k, v) ∷ e ∷ es) ((e.0, v) ∷ es) (e ∷ put nat_cmp k v es)) ≡ f v + total f (e ∷ es)) [
      | Less ↦ λ g. sum_by-cons f v (map (λ d. d.1) (e ∷ es))
      | Equal ↦ λ g. absurd (true≢false (ap is_some g))
      | Greater ↦ λ g.
          let rest = total_put f k v es g in
          let one = sum_by-cons f e.1 (map (λ d. d.1) (put nat_cmp k v es)) in
          let two = sum_by-cons f e.1 (map (λ d. d.1) es) in
          omega (arith, rest, one, two)
    ] h

-- the values of a map with a new key
pub sum_insert : {X : Type 0} (f : X → ℕ) (m : FinMap nat_cmp X) (k : ℕ) (v : X) → finite.contains_key m k ≡ false
    → sum_by f (finite.values (finite.insert m k v)) ≡ f v + sum_by f (finite.values m)
sum_insert f m k v new =
    ap (total f) (finite.entries-insert nat_cmp_total m k v) ∙ total_put f k v (finite.entries m) (sym (finite.get-entries m k) ∙ none_of (finite.get m k) new)

same_reads : {X : Type 0} (m n : FinMap nat_cmp X) → ((q : ℕ) → finite.get m q ≡ finite.get n q) → m ≡ n
same_reads m n h = finite.same_map nat_cmp_total finite.nat_cmp-IsAntisymmetric m n h

is_equal : (r : Ordering) → is_eq r ≡ true → r ≡ Equal
is_equal Less h = absurd (false≢true h)
is_equal Equal h = refl
is_equal Greater h = absurd (false≢true h)

tied : {X : Type 0} (m : FinMap nat_cmp X) (q k : ℕ) → eq_by_cmp nat_cmp q k ≡ true → finite.get m k ≡ finite.get m q
tied m q k h = finite.get_tied nat_cmp_total m q k (is_equal (nat_cmp q k) h)

back : {X : Type 0} (b : Bool) (o n : Option X) → (b ≡ true → n ≡ o) → cond b n (cond b None o) ≡ o
back true o n h = h refl
back false o n h = refl

out : {X : Type 0} (b : Bool) (o : Option X) → (b ≡ true → None ≡ o) → cond b None o ≡ o
out true o h = h refl
out false o h = refl

over : {X : Type 0} (b : Bool) (o n : Option X) → cond b n o ≡ cond b n (cond b None o)
over true o n = refl
over false o n = refl

-- without a key that it does not have a map is the same
pub remove_absent : {X : Type 0} (m : FinMap nat_cmp X) (k : ℕ) → finite.get m k ≡ None → finite.remove m k ≡ m
remove_absent m k none =
    same_reads _ _ (λ q. finite.get-remove nat_cmp_total m k q ∙ out (eq_by_cmp nat_cmp q k) (finite.get m q) (λ b. sym none ∙ tied m q k b))

put_back : {X : Type 0} (m : FinMap nat_cmp X) (k : ℕ) (w : X) → finite.get m k ≡ Some w → finite.insert (finite.remove m k) k w ≡ m
put_back m k w some =
    same_reads _ _ (λ q. finite.get-insert nat_cmp_total (finite.remove m k) k w q
    ∙ ap (cond (eq_by_cmp nat_cmp q k) (Some w)) (finite.get-remove nat_cmp_total m k q)
    ∙ back (eq_by_cmp nat_cmp q k) (finite.get m q) (Some w) (λ b. sym some ∙ tied m q k b))

put_over : {X : Type 0} (m : FinMap nat_cmp X) (k : ℕ) (v : X) → finite.insert m k v ≡ finite.insert (finite.remove m k) k v
put_over m k v =
    same_reads _ _ (λ q. finite.get-insert nat_cmp_total m k v q
    ∙ over (eq_by_cmp nat_cmp q k) (finite.get m q) (Some v)
    ∙ sym (finite.get-insert nat_cmp_total (finite.remove m k) k v q ∙ ap (cond (eq_by_cmp nat_cmp q k) (Some v)) (finite.get-remove nat_cmp_total m k q)))

gone : {X : Type 0} (m : FinMap nat_cmp X) (k : ℕ) → finite.contains_key (finite.remove m k) k ≡ false
gone m k = ap is_some (finite.get-remove nat_cmp_total m k k ∙ cond-true _ None (finite.get m k) (unsigned_tied k k ∙ eqb_same k))
  where
    eqb_same : (n : ℕ) → ◌==◌ n n ≡ true
    eqb_same n = eq-eqb n n refl

-- the values of a map without a key that it has
pub sum_remove : {X : Type 0} (f : X → ℕ) (m : FinMap nat_cmp X) (k : ℕ) (w : X) → finite.get m k ≡ Some w
    → sum_by f (finite.values m) ≡ f w + sum_by f (finite.values (finite.remove m k))
sum_remove f m k w some = ap (λ n. sum_by f (finite.values n)) (sym (put_back m k w some)) ∙ sum_insert f (finite.remove m k) k w (gone m k)

-- the values of a map with another value at a key that it has
pub sum_replace : {X : Type 0} (f : X → ℕ) (m : FinMap nat_cmp X) (k : ℕ) (v w : X) → finite.get m k ≡ Some w
    → sum_by f (finite.values (finite.insert m k v)) + f w ≡ sum_by f (finite.values m) + f v
sum_replace f m k v w some =
    let new = ap (λ n. sum_by f (finite.values n)) (put_over m k v) ∙ sum_insert f (finite.remove m k) k v (gone m k) in
    let old = sum_remove f m k w some in
    omega (arith, new, old)

-- a sum over a list with another element at an index
pub sum_set : {X : Type 0} (f : X → ℕ) (xs : List X) (i : ℕ) (old new : X) → slice_get xs i ≡ Some old → sum_by f (slice_set xs i new) + f old ≡ sum_by f xs + f new
sum_set f xs i old new at =
    ap (λ x. sum_by f (slice_set xs i new) + f x) (sym (get_or_from_slice_get xs i old old at)) ∙ sum_by-set f xs i new old (slice_get_within xs i old at)
