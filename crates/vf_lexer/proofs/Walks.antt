-- Going over bytes at which nothing begins that may stand nowhere, and the places behind them.
use Rattle.std.proofs.Common.{◌≡◌, ◌⊎◌, inl, inr, ℕ, zero, suc, ◌+◌, ◌<◌, ◌≤◌, Bool, true, false, List, [], ◌∷◌, ◌++◌, length, take, drop, refl, arith}
use Rattle.std.specs.Prelude.{Result, Ok, Err, if◌then◌else◌}
use Rattle.vf_base.specs.declared.place.Place.{Place}
use Rattle.vf_lexer.specs.Bytes.{is_barred}
use Rattle.vf_lexer.specs.Tokens.{place_behind, place_after, walk}

-- at none of the first n bytes begins what may stand nowhere
abbrev pub CleanBelow : ℕ → List ℕ → Type 0
CleanBelow zero text = Unit {0}
CleanBelow (suc n) [] = Unit {0}
CleanBelow (suc n) (b ∷ bs) = (is_barred (b ∷ bs) ≡ false) × CleanBelow n bs

pub walk_clean : (p : Place) (n : ℕ) (text : List ℕ) → CleanBelow n text → walk p n text ≡ Ok (place_after p (take n text))
walk_clean p zero text h = refl
walk_clean p (suc n) [] h = refl
walk_clean p (suc n) (b ∷ bs) h = rw h.0 (walk_clean (place_behind p b) n bs h.1)

clean_by : {P : Type 0} (p q : Place) (barred : Bool) (more : Result Place Place) → (more ≡ Ok q → P) → (if barred then Err p else more) ≡ Ok q → (barred ≡ false) × P
clean_by p q true more h e = absurd cc
clean_by p q false more h e = (refl, h e)

pub clean_walked : (p q : Place) (n : ℕ) (text : List ℕ) → walk p n text ≡ Ok q → CleanBelow n text
clean_walked p q zero text e = tt
clean_walked p q (suc n) [] e = tt
clean_walked p q (suc n) (b ∷ bs) e = clean_by p q (is_barred (b ∷ bs)) (walk (place_behind p b) n bs) (λ f. clean_walked (place_behind p b) q n bs f) e

-- the first byte, of n, at which begins what may stand nowhere
pub record FirstBarred (p q : Place) (n : ℕ) (text : List ℕ) : Type 0 where
  pub count : ℕ
  pub below : count < n
  pub clean : CleanBelow count text
  pub barred : is_barred (drop count text) ≡ true
  pub place : q ≡ place_after p (take count text)

barred_by : (p q : Place) (n b : ℕ) (bs : List ℕ) (barred : Bool) (more : Result Place Place) → is_barred (b ∷ bs) ≡ barred → (more ≡ Err q → FirstBarred (place_behind p b) q n bs) → (if barred then Err p else more) ≡ Err q → FirstBarred p q (suc n) (b ∷ bs)
barred_by p q n b bs true more same h e = let at : q ≡ p = cc in record { count = 0; below = omega arith; clean = tt; barred = same; place = at }
barred_by p q n b bs false more same h e =
    let later = h e in
    record { count = suc later.count; below = let less = later.below in omega arith; clean = (same, later.clean); barred = later.barred; place = later.place }

pub walk_barred : (p q : Place) (n : ℕ) (text : List ℕ) → walk p n text ≡ Err q → FirstBarred p q n text
walk_barred p q zero text e = absurd cc
walk_barred p q (suc n) [] e = absurd cc
walk_barred p q (suc n) (b ∷ bs) e = barred_by p q n b bs (is_barred (b ∷ bs)) (walk (place_behind p b) n bs) refl (λ f. walk_barred (place_behind p b) q n bs f) e

pub clean_less : (n k : ℕ) (text : List ℕ) → k ≤ n → CleanBelow n text → CleanBelow k text
clean_less n zero text l h = tt
clean_less zero (suc k) text l h = absurd (omega arith)
clean_less (suc n) (suc k) [] l h = tt
clean_less (suc n) (suc k) (b ∷ bs) l h = (h.0, clean_less n k bs (omega arith) h.1)

none_barred : (k : ℕ) → is_barred (drop k []) ≡ false
unfolding is_barred
none_barred zero = refl
none_barred (suc k) = refl

pub clean_at : (n k : ℕ) (text : List ℕ) → k < n → CleanBelow n text → is_barred (drop k text) ≡ false
clean_at zero k text l h = absurd (omega arith)
clean_at (suc n) k [] l h = none_barred k
clean_at (suc n) zero (b ∷ bs) l h = h.0
clean_at (suc n) (suc k) (b ∷ bs) l h = clean_at n k bs (omega arith) h.1

-- a clean front and a clean rest
pub clean_append : (front : List ℕ) (m : ℕ) (rest : List ℕ) → CleanBelow (length front) (front ++ rest) → CleanBelow m rest → CleanBelow (length front + m) (front ++ rest)
clean_append [] m rest h k = let same : 0 + m ≡ m = omega arith in rw same k
clean_append (b ∷ bs) m rest h k = let same : suc (length bs) + m ≡ suc (length bs + m) = omega arith in rw same (h.0, clean_append bs m rest h.1 k)

pub clean_rest : (front : List ℕ) (m : ℕ) (rest : List ℕ) → CleanBelow (length front + m) (front ++ rest) → CleanBelow m rest
clean_rest [] m rest h = let same : 0 + m ≡ m = omega arith in rw same at h
clean_rest (b ∷ bs) m rest h =
    let same : suc (length bs) + m ≡ suc (length bs + m) = omega arith in
    let both : CleanBelow (suc (length bs + m)) (b ∷ (bs ++ rest)) = rw same at h in
    clean_rest bs m rest both.1

pub clean_everywhere : (text : List ℕ) → CleanBelow (length text) text → (n : ℕ) → is_barred (drop n text) ≡ false
clean_everywhere [] h n = none_barred n
clean_everywhere (b ∷ bs) h zero = h.0
clean_everywhere (b ∷ bs) h (suc n) = clean_everywhere bs h.1 n

pub clean_from : (n : ℕ) (text : List ℕ) → ((k : ℕ) → is_barred (drop k text) ≡ false) → CleanBelow n text
clean_from zero text h = tt
clean_from (suc n) [] h = tt
clean_from (suc n) (b ∷ bs) h = (h 0, clean_from n bs (λ k. h (suc k)))

pub place_append : (p : Place) (a b : List ℕ) → place_after (place_after p a) b ≡ place_after p (a ++ b)
place_append p [] b = refl
place_append p (x ∷ xs) b = place_append (place_behind p x) xs b

-- bytes take a place further: to a later line, or along the line by a column each
Further : Place → ℕ → Place → Type 0
Further p n q = (p.line < q.line) ⊎ ((p.line ≡ q.line) × (p.column + n ≡ q.column))

further_by : (p : Place) (b : ℕ) (q : Place) (n : ℕ) (feed : Bool) → Further (if feed then record { file = p.file; line = p.line + 1; column = 1 } else record { file = p.file; line = p.line; column = p.column + 1 }) n q → Further p (suc n) q
unfolding Further
further_by p b q n true (inl h) = inl (omega arith)
further_by p b q n true (inr h) = let same = h.0 in inl (omega arith)
further_by p b q n false (inl h) = inl h
further_by p b q n false (inr h) = let along = h.1 in inr (h.0, omega arith)

further : (p : Place) (bytes : List ℕ) → Further p (length bytes) (place_after p bytes)
unfolding Further
further p [] = inr (refl, omega arith)
further p (b ∷ bs) = further_by p b (place_after (place_behind p b) bs) (length bs) _ (further (place_behind p b) bs)

no_further : (p : Place) (n : ℕ) → Further p (suc n) p → ⊥
unfolding Further
no_further p n (inl h) = omega arith
no_further p n (inr h) = let along = h.1 in omega arith

-- no bytes end at the place where they begin
pub same_place_none : (p : Place) (bytes : List ℕ) → place_after p bytes ≡ p → bytes ≡ []
unfolding Further
same_place_none p [] e = refl
same_place_none p (b ∷ bs) e =
    let far : Further p (suc (length bs)) (place_after p (b ∷ bs)) = further p (b ∷ bs) in
    absurd (no_further p (length bs) (rw e at far))
