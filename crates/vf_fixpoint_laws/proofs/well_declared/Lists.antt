-- What stands beside names, where one more comes behind or one is changed.
use Rattle.std.proofs.Common.{◌≡◌, refl, sym, subst, ◌∙◌, ap, ℕ, zero, suc, ◌⊎◌, inl, inr, Bool, true, false, if◌then◌else◌, List, [], ◌∷◌, ◌++◌, length, append-nil, Option, Some, None, slice_get, arith}
use Rattle.std.specs.Str.{bytes_eq}
use Rattle.std.specs.Cmp.Lexicographic.{bytes_decides}
use Rattle.vf_names.specs.Names.{number_of}
use Rattle.vf_names.proofs.Numbering.{number_of-push, number_of-push_other}
use Rattle.vf_declared.specs.declared.declaration.Declaration.{Declaration}
use Rattle.vf_declared.specs.Scopes.{at_index, at_name, has}
use Rattle.vf_declared.specs.Writing.{changed, changed_at}
use Rattle.vf_fixpoint_laws.proofs.definable.Extending.{again}
use Rattle.vf_fixpoint_laws.proofs.definable.Lists.{get_below, get_front, number_below, number_front}

-- ---- one more
-- what stands behind the others
pub get_last : {A : Type 0} (xs : List A) (x : A) → slice_get (xs ++ x ∷ []) (length xs) ≡ Some x
get_last [] x = refl
get_last (y ∷ xs) x = get_last xs x

pub get_at_last : {A : Type 0} (xs : List A) (x : A) (n : ℕ) → n ≡ length xs → slice_get (xs ++ x ∷ []) n ≡ Some x
get_at_last xs x n e = ap (slice_get (xs ++ x ∷ [])) e ∙ get_last xs x

pub some_same : {A : Type 0} {a b : A} → ◌≡◌ {A = Option A} (Some a) (Some b) → a ≡ b
some_same e = cc

-- what stands beside a name stands beside it still
pub found_front : {A : Type 0} (names : List (List ℕ)) (xs : List A) (y : List ℕ) (a : A) (x : List ℕ) (b : A) → at_name names xs x ≡ Some b → at_name (names ++ y ∷ []) (xs ++ a ∷ []) x ≡ Some b
found_front names xs y a x b e = by_number (number_of names x) refl e
  where
    by_number : (o : Option ℕ) → number_of names x ≡ o → at_index xs o ≡ Some b → at_name (names ++ y ∷ []) (xs ++ a ∷ []) x ≡ Some b
    by_number None f g = absurd cc
    by_number (Some k) f g = ap (at_index (xs ++ a ∷ [])) (number_front names (y ∷ []) x k f) ∙ get_front xs (a ∷ []) k b g

-- what stands beside a new name
pub found_new : {A : Type 0} (names : List (List ℕ)) (xs : List A) (y : List ℕ) (a : A) → length names ≡ length xs → number_of names y ≡ None → at_name (names ++ y ∷ []) (xs ++ a ∷ []) y ≡ Some a
found_new names xs y a l e = ap (at_index (xs ++ a ∷ [])) (number_of-push names y e) ∙ get_at_last xs a (length names) l

-- what stands beside a name stood there before, or it is what is new
pub found_push : {A : Type 0} (names : List (List ℕ)) (xs : List A) (y : List ℕ) (a : A) → length names ≡ length xs → (x : List ℕ) (b : A) → at_name (names ++ y ∷ []) (xs ++ a ∷ []) x ≡ Some b → (at_name names xs x ≡ Some b) ⊎ ((x ≡ y) × (b ≡ a))
found_push {A = A} names xs y a l x b e = by_number (number_of names x) refl
  where
    by_test : number_of names x ≡ None → (t : Bool) → bytes_eq x y ≡ t → (at_name names xs x ≡ Some b) ⊎ ((x ≡ y) × (b ≡ a))
    by_test n true t = inr (same, sym (some_same (sym (ap (at_name (names ++ y ∷ []) (xs ++ a ∷ [])) same ∙ found_new names xs y a l (sym (ap (number_of names) same) ∙ n)) ∙ e)))
      where
        same : x ≡ y
        same = (bytes_decides x y).0 t
    by_test n false t = absurd (missing (sym (ap (at_index (xs ++ a ∷ [])) (number_of-push_other names y x t ∙ n)) ∙ e))
      where
        missing : ◌≡◌ {A = Option A} None (Some b) → ⊥
        missing e = cc

    by_number : (o : Option ℕ) → number_of names x ≡ o → (at_name names xs x ≡ Some b) ⊎ ((x ≡ y) × (b ≡ a))
    by_number None f = by_test f (bytes_eq x y) refl
    by_number (Some k) f =
        let below = number_below names x k f in
        inl (ap (at_index xs) f ∙ (sym (get_below xs (a ∷ []) k (omega (arith, below, l))) ∙ (sym (ap (at_index (xs ++ a ∷ [])) (number_front names (y ∷ []) x k f)) ∙ e)))

-- a name has the number that it had, or it is the new one
pub number_push : (names : List (List ℕ)) (y x : List ℕ) (k : ℕ) → number_of (names ++ y ∷ []) x ≡ Some k → (number_of names x ≡ Some k) ⊎ ((x ≡ y) × (k ≡ length names))
number_push names y x k e = by_number (number_of names x) refl
  where
    by_test : number_of names x ≡ None → (t : Bool) → bytes_eq x y ≡ t → (number_of names x ≡ Some k) ⊎ ((x ≡ y) × (k ≡ length names))
    by_test n true t = let same : x ≡ y = (bytes_decides x y).0 t in inr (same, sym (some_same (sym (ap (number_of (names ++ y ∷ [])) same ∙ number_of-push names y (sym (ap (number_of names) same) ∙ n)) ∙ e)))
    by_test n false t = inl (sym (number_of-push_other names y x t) ∙ e)

    by_number : (o : Option ℕ) → number_of names x ≡ o → (number_of names x ≡ Some k) ⊎ ((x ≡ y) × (k ≡ length names))
    by_number None f = by_test f (bytes_eq x y) refl
    by_number (Some j) f = inl (f ∙ (sym (number_front names (y ∷ []) x j f) ∙ e))

-- nothing stands behind the last
pub none_behind : {A : Type 0} (xs : List A) (x : A) → slice_get xs (length xs) ≡ Some x → ⊥
none_behind [] x e = cc
none_behind (y ∷ xs) x e = none_behind xs x e

-- where a name is new nothing stands beside it
pub none_beside : {A : Type 0} (names : List (List ℕ)) (xs : List A) (x : List ℕ) (a : A) → number_of names x ≡ None → at_name names xs x ≡ Some a → ⊥
none_beside {A = A} names xs x a e f = missing (sym (ap (at_index xs) e) ∙ f)
  where
    missing : ◌≡◌ {A = Option A} None (Some a) → ⊥
    missing e = cc

-- ---- one in one more file
-- a declaration means the same as an earlier one, and its files go on behind those of that one
pub record IsLater (d e : Declaration) : Type 0 where
  pub meaning : e.meaning ≡ d.meaning
  pub more : List ℕ
  pub files : e.files ≡ d.files ++ more

pub later_itself : (d : Declaration) → IsLater d d
later_itself d = record { meaning = refl; more = []; files = sym (append-nil d.files) }

again_later : (file : ℕ) (d : Declaration) → IsLater d (again file d)
again_later file d = by_test (has d.files file) refl
  where
    by_test : (b : Bool) → has d.files file ≡ b → IsLater d (again file d)
    by_test true e = record { meaning = refl; more = []; files = ap (λ (b : Bool). if b then d.files else d.files ++ file ∷ []) e ∙ sym (append-nil d.files) }
    by_test false e = record { meaning = refl; more = file ∷ []; files = ap (λ (b : Bool). if b then d.files else d.files ++ file ∷ []) e }

behind_first : (file : ℕ) (c : Declaration) (ds : List Declaration) (n : ℕ) (o : Option Declaration) → changed_at (again file) (c ∷ ds) (suc n) o ≡ c ∷ changed_at (again file) ds n o
behind_first file c ds n None = refl
behind_first file c ds n (Some d) = refl

-- what is declared at a place was declared there before
pub record WasAt (ds : List Declaration) (j : ℕ) (e : Declaration) : Type 0 where
  pub before : Declaration
  pub stood : slice_get ds j ≡ Some before
  pub later : IsLater before e

pub get_again : (file : ℕ) (ds : List Declaration) (k j : ℕ) (e : Declaration) → slice_get (changed (again file) ds k) j ≡ Some e → WasAt ds j e
get_again file [] k j e h = absurd cc
get_again file (d ∷ ds) zero zero e h = record { before = d; stood = refl; later = subst (IsLater d) (some_same h) (again_later file d) }
get_again file (d ∷ ds) zero (suc j) e h = record { before = e; stood = h; later = later_itself e }
get_again file (d ∷ ds) (suc k) j e h = behind j (sym (ap (λ ds. slice_get ds j) (behind_first file d ds k (slice_get ds k))) ∙ h) (λ i g. get_again file ds k i e g)
  where
    behind : (j : ℕ) → slice_get (d ∷ changed (again file) ds k) j ≡ Some e → ((i : ℕ) → slice_get (changed (again file) ds k) i ≡ Some e → WasAt ds i e) → WasAt (d ∷ ds) j e
    behind zero g r = record { before = d; stood = refl; later = subst (IsLater d) (some_same g) (later_itself d) }
    behind (suc j) g r = let w = r j g in record { before = w.before; stood = w.stood; later = w.later }

-- what is declared at a place is declared there still
pub record IsAt (es : List Declaration) (j : ℕ) (d : Declaration) : Type 0 where
  pub after : Declaration
  pub stands : slice_get es j ≡ Some after
  pub later : IsLater d after

pub kept_again : (file : ℕ) (ds : List Declaration) (k j : ℕ) (d : Declaration) → slice_get ds j ≡ Some d → IsAt (changed (again file) ds k) j d
kept_again file [] k j d h = absurd cc
kept_again file (c ∷ ds) zero zero d h = record { after = again file c; stands = refl; later = subst (λ d. IsLater d (again file c)) (some_same h) (again_later file c) }
kept_again file (c ∷ ds) zero (suc j) d h = record { after = d; stands = h; later = later_itself d }
kept_again file (c ∷ ds) (suc k) zero d h = record { after = d; stands = ap (λ ds. slice_get ds 0) (behind_first file c ds k (slice_get ds k)) ∙ h; later = later_itself d }
kept_again file (c ∷ ds) (suc k) (suc j) d h = let w = kept_again file ds k j d h in record { after = w.after; stands = ap (λ ds. slice_get ds (suc j)) (behind_first file c ds k (slice_get ds k)) ∙ w.stands; later = w.later }

pub as_many_again : (file : ℕ) (ds : List Declaration) (n : ℕ) → length (changed (again file) ds n) ≡ length ds
as_many_again file [] n = refl
as_many_again file (d ∷ ds) zero = refl
as_many_again file (d ∷ ds) (suc n) = ap length (behind_first file d ds n (slice_get ds n)) ∙ ap suc (as_many_again file ds n)

-- the same beside names
pub record WasNamed (names : List (List ℕ)) (ds : List Declaration) (x : List ℕ) (e : Declaration) : Type 0 where
  pub before : Declaration
  pub stood : at_name names ds x ≡ Some before
  pub later : IsLater before e

pub found_again : (file : ℕ) (names : List (List ℕ)) (ds : List Declaration) (k : ℕ) (x : List ℕ) (e : Declaration) → at_name names (changed (again file) ds k) x ≡ Some e → WasNamed names ds x e
found_again file names ds k x e h = by_number (number_of names x) refl h
  where
    by_number : (o : Option ℕ) → number_of names x ≡ o → at_index (changed (again file) ds k) o ≡ Some e → WasNamed names ds x e
    by_number None f g = absurd cc
    by_number (Some j) f g = let w = get_again file ds k j e g in record { before = w.before; stood = ap (at_index ds) f ∙ w.stood; later = w.later }

pub record IsNamed (names : List (List ℕ)) (es : List Declaration) (x : List ℕ) (d : Declaration) : Type 0 where
  pub after : Declaration
  pub stands : at_name names es x ≡ Some after
  pub later : IsLater d after

pub named_again : (file : ℕ) (names : List (List ℕ)) (ds : List Declaration) (k : ℕ) (x : List ℕ) (d : Declaration) → at_name names ds x ≡ Some d → IsNamed names (changed (again file) ds k) x d
named_again file names ds k x d h = by_number (number_of names x) refl h
  where
    by_number : (o : Option ℕ) → number_of names x ≡ o → at_index ds o ≡ Some d → IsNamed names (changed (again file) ds k) x d
    by_number None f g = absurd cc
    by_number (Some j) f g = let w = kept_again file ds k j d g in record { after = w.after; stands = ap (at_index (changed (again file) ds k)) f ∙ w.stands; later = w.later }
