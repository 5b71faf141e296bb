-- Rows of terms, one pair after another.
use Rattle.std.proofs.Common.{◌≡◌, ℕ, zero, suc, ◌+◌, ◌<◌, ◌≤◌, List, [], ◌∷◌, drop, length, get_or, refl, sym, subst, ap, ◌∙◌, Result, Ok, Bool, true, false, cond, pos, add-one, arith}
use Rattle.std.proofs.Math.Seq.{drop-cons}
use Rattle.std.proofs.Math.ListN.{drop_of_length-le}
use Rattle.vf_base.specs.declared.place.Place.{Place}
use Rattle.vf_base.specs.declared.refusal.Refusal.{Refusal}
use Rattle.vf_base.specs.declared.refusal.RuleFault.{RuleFault}
use Rattle.vf_closure.specs.Terms.{Term, number}
use Rattle.vf_closure.specs.Literals.{Literal}
use Rattle.vf_asking.specs.Journal.{Seen}
use Rattle.vf_asking.specs.Course.{Course, done, try, Follows, Blames, Reaches}
use Rattle.vf_asking.proofs.Following.{follows_try, reaches_try, reaches_step, reaches_end, reaches_blames, reaches_here, follows_done, blames_try}
use Rattle.vf_equality.specs.Equality.{CanBeCompared, AllCanBeCompared, equal, all_equal}

-- what is left from an index on
pub rest_of : {A : Type 0} (xs : List A) (i : ℕ) (x : A) → i < length xs → x ≡ get_or xs i x → drop i xs ≡ x ∷ drop (i + 1) xs
rest_of xs i x low is = rw add-one (drop-cons xs i x low ∙ ap (λ y. y ∷ drop (suc i) xs) (sym is))

at_compared : (ts : List Term) (i : ℕ) (d : Term) → i < length ts → AllCanBeCompared ts → CanBeCompared (get_or ts i d)
at_compared [] i d low all = absurd (omega arith)
at_compared (t ∷ ts) zero d low all = all.0
at_compared (t ∷ ts) (suc i) d low all = at_compared ts i d (omega arith) all.1

-- an item can be compared where all can
pub item_compared : (ts : List Term) (i : ℕ) (t : Term) → i < length ts → t ≡ get_or ts i t → AllCanBeCompared ts → CanBeCompared t
item_compared ts i t low is all = subst CanBeCompared (sym is) (at_compared ts i t low all)

module _ (place : Place) (path : List Literal) (c : Course (Result Bool Refusal)) (s : Seen) where
  pub rows_start : (xs ys : List Term) → c ≡ all_equal place path xs ys → Reaches c s (all_equal place path (drop 0 xs) (drop 0 ys)) s
  rows_start xs ys e = reaches_here _ _ s e

  -- what follows the first of what is left
  abbrev onward : List Term → List Term → ℕ → Bool → Course (Result Bool Refusal)
  onward xs ys i met = cond met (all_equal place path (drop (i + 1) xs) (drop (i + 1) ys)) (done (Ok false))

  here_and_on : (xs ys : List Term) (i : ℕ) (a b : Term) (t : Seen) → i < length xs → i < length ys → a ≡ get_or xs i a → b ≡ get_or ys i b → Reaches c s (all_equal place path (drop i xs) (drop i ys)) t → Reaches c s (try (equal place path a b) (onward xs ys i)) t
  unfolding all_equal
  here_and_on xs ys i a b t low less is also r =
      subst (λ (zs : List Term). Reaches c s (all_equal place path (a ∷ drop (i + 1) xs) zs) t) (rest_of ys i b less also)
      (subst (λ (zs : List Term). Reaches c s (all_equal place path zs (drop i ys)) t) (rest_of xs i a low is) r)

  pub rows_step : (here : List Literal) (xs ys : List Term) (i : ℕ) (a b : Term) (y : Bool) (t u : Seen) → y ≡ true → here ≡ path → i < length xs → i < length ys → a ≡ get_or xs i a → b ≡ get_or ys i b → Reaches c s (all_equal place path (drop i xs) (drop i ys)) t → Follows (equal place here a b) t u (Ok y) → Reaches c s (all_equal place path (drop (i + 1) xs) (drop (i + 1) ys)) u
  rows_step here xs ys i a b y t u met same low less is also r p =
      let one = subst (λ (z : Bool). Follows (equal place path a b) t u (Ok z)) met (subst (λ (x : List Literal). Follows (equal place x a b) t u (Ok y)) same p) in
      reaches_step c _ _ s t u (here_and_on xs ys i a b t low less is also r) (reaches_try (equal place path a b) (onward xs ys i) t u true one)

  pub rows_differ : (here : List Literal) (xs ys : List Term) (i : ℕ) (a b : Term) (y : Bool) (t u : Seen) → y ≡ false → here ≡ path → i < length xs → i < length ys → a ≡ get_or xs i a → b ≡ get_or ys i b → Reaches c s (all_equal place path (drop i xs) (drop i ys)) t → Follows (equal place here a b) t u (Ok y) → Follows c s u (Ok false)
  rows_differ here xs ys i a b y t u met same low less is also r p =
      let one = subst (λ (z : Bool). Follows (equal place path a b) t u (Ok z)) met (subst (λ (x : List Literal). Follows (equal place x a b) t u (Ok y)) same p) in
      reaches_end c _ s t u (Ok false) (here_and_on xs ys i a b t low less is also r)
      (follows_try (equal place path a b) (onward xs ys i) t u u false (Ok false) one (follows_done (Ok false) (Ok false) u u refl refl))

  pub rows_fail : (here : List Literal) (xs ys : List Term) (i : ℕ) (a b : Term) (t u : Seen) (f : RuleFault) → here ≡ path → i < length xs → i < length ys → a ≡ get_or xs i a → b ≡ get_or ys i b → Reaches c s (all_equal place path (drop i xs) (drop i ys)) t → Blames (equal place here a b) t u f → Blames c s u f
  rows_fail here xs ys i a b t u f same low less is also r h =
      let one = subst (λ (x : List Literal). Blames (equal place x a b) t u f) same h in
      reaches_blames c _ s t u f (here_and_on xs ys i a b t low less is also r) (blames_try (equal place path a b) (onward xs ys i) t u f one)

  none_left : (xs : List Term) (i : ℕ) → length xs ≤ i → drop i xs ≡ []
  none_left xs i low = drop_of_length-le xs low

  left_from : (xs : List Term) (i : ℕ) (d : Term) → i < length xs → drop i xs ≡ get_or xs i d ∷ drop (i + 1) xs
  left_from xs i d low = rw add-one (drop-cons xs i d low)

  -- the second row is shorter
  pub rows_short : (xs ys : List Term) (i : ℕ) (t : Seen) → i < length xs → length ys ≤ i → Reaches c s (all_equal place path (drop i xs) (drop i ys)) t → Follows c s t (Ok false)
  unfolding all_equal
  rows_short xs ys i t low short r =
      let left = subst (λ (zs : List Term). Reaches c s (all_equal place path zs (drop i ys)) t) (left_from xs i (number (pos 0)) low) r in
      let all = subst (λ (zs : List Term). Reaches c s (all_equal place path (get_or xs i (number (pos 0)) ∷ drop (i + 1) xs) zs) t) (none_left ys i short) left in
      reaches_end c _ s t t (Ok false) all (follows_done (Ok false) (Ok false) t t refl refl)

  -- the second row is longer
  pub rows_long : (xs ys : List Term) (i : ℕ) (t : Seen) → length xs ≤ i → i < length ys → Reaches c s (all_equal place path (drop i xs) (drop i ys)) t → Follows c s t (Ok false)
  unfolding all_equal
  rows_long xs ys i t short low r =
      let right = subst (λ (zs : List Term). Reaches c s (all_equal place path (drop i xs) zs) t) (left_from ys i (number (pos 0)) low) r in
      let all = subst (λ (zs : List Term). Reaches c s (all_equal place path zs (get_or ys i (number (pos 0)) ∷ drop (i + 1) ys)) t) (none_left xs i short) right in
      reaches_end c _ s t t (Ok false) all (follows_done (Ok false) (Ok false) t t refl refl)

  -- both rows have ended
  pub rows_end : (xs ys : List Term) (i : ℕ) (t : Seen) → length xs ≤ i → length ys ≤ i → Reaches c s (all_equal place path (drop i xs) (drop i ys)) t → Follows c s t (Ok true)
  unfolding all_equal
  rows_end xs ys i t short low r =
      let right = subst (λ (zs : List Term). Reaches c s (all_equal place path (drop i xs) zs) t) (none_left ys i low) r in
      let all = subst (λ (zs : List Term). Reaches c s (all_equal place path zs []) t) (none_left xs i short) right in
      reaches_end c _ s t t (Ok true) all (follows_done (Ok true) (Ok true) t t refl refl)
