-- What stands in the lists of terms.
use Rattle.std.proofs.Common.{◌≡◌, ◌≤◌, ◌<◌, ◌+◌, ◌⊎◌, inl, inr, ℕ, zero, suc, Bool, true, false, cond, List, [], ◌∷◌, ◌++◌, length, get_or, nat_lt, refl, sym, ap, ◌∙◌, subst, arith, add-one}
use Rattle.std.specs.Prelude.{Contains}
use Rattle.std.proofs.lemmas.Bool.{false≢true, lt-ltb, ltb-true}
use Rattle.std.specs.Ordering.{is_eq}
use Rattle.vf_closure.specs.Terms.{Head, Term, Terms, term, no_terms, and_term, IsAt, here, further_on, IsWithin, itself, below}
use Rattle.vf_normal.specs.Order.{compare}
use Rattle.vf_question.specs.Numbered.{place, with_one, with_term, with_row}
use Rattle.vf_question.proofs.Places.{one_own, one_told, one_is}

-- the first stands in the list
abbrev pub Has : {A : Type 0} → List A → A → Type 0
Has [] t = ⊥
Has (u ∷ us) t = (u ≡ t) ⊎ Has us t

-- each term of a list stands there once
abbrev pub AreOnce : List Term → Type 0
AreOnce [] = Unit {0}
AreOnce (u ∷ us) = (Has us u → ⊥) × AreOnce us

pub contains_has : {A : Type 0} (xs : List A) (x : A) → Contains xs x → Has xs x
contains_has [] x (k, i, e) = absurd (omega arith)
contains_has (y ∷ ys) x (zero, i, e) = inl e
contains_has (y ∷ ys) x (suc k, i, e) = inr (contains_has ys x (k, omega arith, e))

pub has_contains : {A : Type 0} (xs : List A) (x : A) → Has xs x → Contains xs x
has_contains [] x h = absurd h
has_contains (y ∷ ys) x (inl e) = (0, omega arith, e)
has_contains (y ∷ ys) x (inr h) = let c = has_contains ys x h in (suc c.0, omega (arith, c.1), c.2)

-- ---- places
place_met : (b : Bool) (n : ℕ) → b ≡ true → cond b 0 n ≡ 0
place_met b n e = ap (λ x. cond x 0 n) e

step : (b : Bool) (n : ℕ) → cond b 0 (n + 1) ≤ n + 1
step true n = omega arith
step false n = omega arith

pub has_place : (t : Term) (ts : List Term) → Has ts t → place t ts < length ts
has_place t [] h = absurd h
has_place t (u ∷ us) (inl e) = let p = place_met (is_eq (compare u t)) (place t us + 1) (one_is u t e) in omega (arith, p)
has_place t (u ∷ us) (inr h) = omega (arith, step (is_eq (compare u t)) (place t us), has_place t us h)

place_case : (b : Bool) (t u : Term) (us : List Term) → is_eq (compare u t) ≡ b → (place t us < length us → Has us t) → cond b 0 (place t us + 1) < length (u ∷ us) → Has (u ∷ us) t
place_case true t u us e r l = inl (one_told u t e)
place_case false t u us e r l = inr (r (omega arith))

pub place_has : (t : Term) (ts : List Term) → place t ts < length ts → Has ts t
place_has t [] l = absurd (omega arith)
place_has t (u ∷ us) l = place_case (is_eq (compare u t)) t u us refl (place_has t us) l

next : {A : Type 0} (x d : A) (xs : List A) (n : ℕ) → get_or (x ∷ xs) (n + 1) d ≡ get_or xs n d
next x d xs n = rw add-one refl

at_case : (b : Bool) (t d u : Term) (us : List Term) → is_eq (compare u t) ≡ b → (Has us t → get_or us (place t us) d ≡ t) → Has (u ∷ us) t → get_or (u ∷ us) (cond b 0 (place t us + 1)) d ≡ t
at_case true t d u us e r h = one_told u t e
at_case false t d u us e r (inl k) = absurd (false≢true (sym e ∙ one_is u t k))
at_case false t d u us e r (inr h) = next u d us (place t us) ∙ r h

-- the term at a place
pub at_place : (t d : Term) (ts : List Term) → Has ts t → get_or ts (place t ts) d ≡ t
at_place t d [] h = absurd h
at_place t d (u ∷ us) h = at_case (is_eq (compare u t)) t d u us refl (at_place t d us) h

pub has_at : {A : Type 0} (d : A) (ts : List A) (i : ℕ) → i < length ts → Has ts (get_or ts i d)
has_at d [] i l = absurd (omega arith)
has_at d (u ∷ us) zero l = inl refl
has_at d (u ∷ us) (suc i) l = inr (has_at d us i (omega arith))

past : (b : Bool) (d u : Term) (us : List Term) (i : ℕ) → is_eq (compare u (get_or us i d)) ≡ b → AreOnce (u ∷ us) → i < length us → place (get_or us i d) us ≡ i → cond b 0 (place (get_or us i d) us + 1) ≡ suc i
past true d u us i e o l r = absurd (o.0 (subst (Has us) (sym (one_told u (get_or us i d) e)) (has_at d us i l)))
past false d u us i e o l r = omega (arith, r)

-- a term that stands once has the place where it stands
pub place_at : (d : Term) (ts : List Term) (i : ℕ) → AreOnce ts → i < length ts → place (get_or ts i d) ts ≡ i
place_at d [] i o l = absurd (omega arith)
place_at d (u ∷ us) zero o l = place_met (is_eq (compare u u)) (place u us + 1) (one_own u)
place_at d (u ∷ us) (suc i) o l = past (is_eq (compare u (get_or us i d))) d u us i refl o (omega arith) (place_at d us i o.1 (omega arith))

-- ---- one term more
pub has_before : {A : Type 0} (xs ys : List A) (x : A) → Has xs x → Has (xs ++ ys) x
has_before [] ys x h = absurd h
has_before (y ∷ ys) zs x (inl e) = inl e
has_before (y ∷ ys) zs x (inr h) = inr (has_before ys zs x h)

has_last : {A : Type 0} (xs : List A) (x : A) → Has (xs ++ x ∷ []) x
has_last [] x = inl refl
has_last (y ∷ ys) x = inr (has_last ys x)

has_split : {A : Type 0} (xs : List A) (x y : A) → Has (xs ++ x ∷ []) y → Has xs y ⊎ (x ≡ y)
has_split [] x y (inl e) = inr e
has_split [] x y (inr h) = absurd h
has_split (z ∷ zs) x y (inl e) = inl (inl e)
has_split (z ∷ zs) x y (inr h) = elim (has_split zs x y h) [ inl k ↦ inl (inr k) | inr e ↦ inr e ]

once_last : (ts : List Term) (t : Term) → AreOnce ts → (Has ts t → ⊥) → AreOnce (ts ++ t ∷ [])
once_last [] t o n = ((λ h. h), tt)
once_last (u ∷ us) t o n = ((λ h. elim (has_split us t u h) [ inl k ↦ o.0 k | inr e ↦ n (inl (sym e)) ]), once_last us t o.1 (λ h. n (inr h)))

-- what becomes of a list to which a term is added
pub data IsAdded (t : Term) (ts : List Term) : List Term → Type 0 where
  was_there : Has ts t → IsAdded t ts ts
  is_new : (Has ts t → ⊥) → IsAdded t ts (ts ++ t ∷ [])

added_case : (b : Bool) (t : Term) (ts : List Term) → nat_lt (place t ts) (length ts) ≡ b → IsAdded t ts (cond b ts (ts ++ t ∷ []))
added_case true t ts e = was_there (place_has t ts (ltb-true (place t ts) (length ts) e))
added_case false t ts e = is_new (λ h. false≢true (sym e ∙ lt-ltb (place t ts) (length ts) (has_place t ts h)))

added : (t : Term) (ts : List Term) → IsAdded t ts (with_one t ts)
added t ts = added_case (nat_lt (place t ts) (length ts)) t ts refl

keeps_added : {t : Term} {ts us : List Term} → IsAdded t ts us → (u : Term) → Has ts u → Has us u
keeps_added (was_there h) u k = k
keeps_added {t} {ts} (is_new n) u k = has_before ts (t ∷ []) u k

has_added : {t : Term} {ts us : List Term} → IsAdded t ts us → Has us t
has_added (was_there h) = h
has_added {t} {ts} (is_new n) = has_last ts t

only_added : {t : Term} {ts us : List Term} → IsAdded t ts us → (u : Term) → Has us u → Has ts u ⊎ (t ≡ u)
only_added (was_there h) u k = inl k
only_added {t} {ts} (is_new n) u k = has_split ts t u k

once_added : {t : Term} {ts us : List Term} → IsAdded t ts us → AreOnce ts → AreOnce us
once_added (was_there h) o = o
once_added {t} {ts} (is_new n) o = once_last ts t o n

-- ---- all subterms of a term
mutual
  pub term_keeps : (t : Term) (ts : List Term) (u : Term) → Has ts u → Has (with_term t ts) u
  term_keeps (term h ps) ts u k = keeps_added (added (term h ps) (with_row ps ts)) u (row_keeps ps ts u k)

  pub row_keeps : (ps : Terms) (ts : List Term) (u : Term) → Has ts u → Has (with_row ps ts) u
  row_keeps no_terms ts u k = k
  row_keeps (and_term p ps) ts u k = row_keeps ps (with_term p ts) u (term_keeps p ts u k)

mutual
  pub term_has : (t : Term) (ts : List Term) (u : Term) → IsWithin u t → Has (with_term t ts) u
  term_has (term h ps) ts u itself = has_added (added (term h ps) (with_row ps ts))
  term_has (term h ps) ts u (below {u = p} {i = i} a w) = keeps_added (added (term h ps) (with_row ps ts)) u (row_has ps ts u p i a w)

  pub row_has : (ps : Terms) (ts : List Term) (u p : Term) (i : ℕ) → IsAt p i ps → IsWithin u p → Has (with_row ps ts) u
  row_has no_terms ts u q i a w = elim a [ ]
  row_has (and_term p ps) ts u q zero here w = row_keeps ps (with_term p ts) u (term_has p ts u w)
  row_has (and_term p ps) ts u q (suc i) (further_on a) w = row_has ps (with_term p ts) u q i a w

-- a term within one of a row
pub record IsInRow (u : Term) (ps : Terms) : Type 0 where
  pub part : Term
  pub index : ℕ
  pub stands : IsAt part index ps
  pub within : IsWithin u part

row_part : (h : Head) (ps : Terms) (ts : List Term) (u : Term) → Has ts u ⊎ IsInRow u ps → Has ts u ⊎ IsWithin u (term h ps)
row_part h ps ts u (inl k) = inl k
row_part h ps ts u (inr w) = inr (below w.stands w.within)

row_first : (p : Term) (ps : Terms) (ts : List Term) (u : Term) → Has ts u ⊎ IsWithin u p → Has ts u ⊎ IsInRow u (and_term p ps)
row_first p ps ts u (inl k) = inl k
row_first p ps ts u (inr w) = inr (record { part = p; index = 0; stands = here; within = w })

mutual
  pub term_only : (t : Term) (ts : List Term) (u : Term) → Has (with_term t ts) u → Has ts u ⊎ IsWithin u t
  term_only (term h ps) ts u k = elim (only_added (added (term h ps) (with_row ps ts)) u k) [ inl r ↦ row_part h ps ts u (row_only ps ts u r) | inr e ↦ inr (subst (λ (v : Term). IsWithin v (term h ps)) e itself) ]

  pub row_only : (ps : Terms) (ts : List Term) (u : Term) → Has (with_row ps ts) u → Has ts u ⊎ IsInRow u ps
  row_only no_terms ts u k = inl k
  row_only (and_term p ps) ts u k = elim (row_only ps (with_term p ts) u k) [ inl r ↦ row_first p ps ts u (term_only p ts u r) | inr w ↦ inr (record { part = w.part; index = suc w.index; stands = further_on w.stands; within = w.within }) ]

mutual
  pub term_once : (t : Term) (ts : List Term) → AreOnce ts → AreOnce (with_term t ts)
  term_once (term h ps) ts o = once_added (added (term h ps) (with_row ps ts)) (row_once ps ts o)

  pub row_once : (ps : Terms) (ts : List Term) → AreOnce ts → AreOnce (with_row ps ts)
  row_once no_terms ts o = o
  row_once (and_term p ps) ts o = row_once ps (with_term p ts) (term_once p ts o)
