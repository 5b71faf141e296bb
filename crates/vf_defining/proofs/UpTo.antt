-- What is declared up to a name, and the first of some items.
use Rattle.std.proofs.Common.{◌≡◌, refl, sym, subst, ◌∙◌, ap, ℕ, zero, suc, ◌+◌, ◌<◌, ◌≤◌, Bool, true, false, cond, ◌||◌, if◌then◌else◌, List, [], ◌∷◌, ◌++◌, length, take, slice_get, Option, Some, None, arith}
use Rattle.std.specs.List.{position_from}
use Rattle.std.specs.Str.{bytes_eq}
use Rattle.vf_names.specs.Names.{number_of}
use Rattle.vf_declared.specs.declared.declaration.Declaration.{Declaration}
use Rattle.vf_declared.specs.declared.declaration.Fixpoint.{Fixpoint}
use Rattle.vf_declared.specs.declared.scope.Scope.{Scope}
use Rattle.vf_declared.specs.Scopes.{at_index, at_name, declaration_of, declared_in, is_visible, sees}
use Rattle.vf_declared.proofs.Lists.{taken_more}
use Rattle.vf_syntax.specs.declared.written.Name.{Name}
use Rattle.vf_terms.specs.Named.{identity_of, seen_from}
use Rattle.vf_defining.specs.Bodies.{files_of, identity_at}
use Rattle.vf_defining.specs.Units.{IsNumbered, Written}
use Rattle.vf_defining.specs.UpTo.{AreFirst, through, up_to}

-- ---- the first of some items
first_again : {A : Type 0} (k : ℕ) (xs ys : List A) → ys ≡ take (length ys) xs → take k ys ≡ take (length (take k ys)) xs
first_again zero xs ys e = refl
first_again (suc k) xs [] e = refl
first_again (suc k) [] (y ∷ ys) e = absurd cc
first_again (suc k) (x ∷ xs) (y ∷ ys) e =
    let head : y ≡ x = cc in
    let tail : ys ≡ take (length ys) xs = cc in
    λ i. head i ∷ first_again k xs ys tail i

-- of the first items the first ones are the first, as many as they are
pub first_kept : {A : Type 0} (k : ℕ) (xs ys : List A) → AreFirst xs ys → take k ys ≡ take (length (take k ys)) xs
first_kept k xs ys h = first_again k xs ys h.is

taken_again : {A : Type 0} (k : ℕ) (xs : List A) → take k xs ≡ take (length (take k xs)) xs
taken_again zero xs = refl
taken_again (suc k) [] = refl
taken_again (suc k) (x ∷ xs) = ap (λ ys. x ∷ ys) (taken_again k xs)

-- as many items as a count says are the first
pub taken_first : {A : Type 0} (k : ℕ) (xs : List A) → AreFirst xs (take k xs)
taken_first k xs = record { is = taken_again k xs }

-- none are the first
pub first_none : {A : Type 0} (xs ys : List A) → ys ≡ [] → AreFirst xs ys
first_none xs ys e = subst (AreFirst xs) (sym e) (record { is = refl })

-- no more are taken than a count says
pub taken_within : {A : Type 0} (k : ℕ) (xs : List A) → length (take k xs) ≤ k
taken_within zero xs = omega arith
taken_within (suc k) [] = omega arith
taken_within (suc k) (x ∷ xs) = let h = taken_within k xs in omega (arith, h)

-- one more item
pub one_more : {A : Type 0} (xs ys zs : List A) (i : ℕ) (x y : A) → Some x ≡ slice_get xs i → ys ≡ take i xs → y ≡ x → zs ≡ ys ++ y ∷ [] → zs ≡ take (i + 1) xs
one_more xs ys zs i x y e f g h = h ∙ (λ i. f i ++ g i ∷ []) ∙ sym (taken_more xs i x (sym e))

-- where no item stands at an index as many are taken behind it
pub taken_past : {A : Type 0} (xs : List A) (i k : ℕ) → slice_get xs i ≡ None → i ≤ k → take i xs ≡ take k xs
taken_past [] zero zero e l = refl
taken_past [] zero (suc k) e l = refl
taken_past [] (suc i) zero e l = refl
taken_past [] (suc i) (suc k) e l = refl
taken_past (x ∷ xs) zero k e l = absurd cc
taken_past (x ∷ xs) (suc i) zero e l = absurd (omega arith)
taken_past (x ∷ xs) (suc i) (suc k) e l = ap (λ ys. x ∷ ys) (taken_past xs i k e (omega arith))

-- an item stands below the length
pub get_within : {A : Type 0} (xs : List A) (n : ℕ) (x : A) → slice_get xs n ≡ Some x → n < length xs
get_within [] n x e = absurd cc
get_within (y ∷ xs) zero x e = omega arith
get_within (y ∷ xs) (suc n) x e = let h = get_within xs n x e in omega (arith, h)

-- ---- a name up to itself
some_same : {a b : ℕ} → ◌≡◌ {A = Option ℕ} (Some a) (Some b) → a ≡ b
some_same e = cc

position_past : (t : List ℕ → Bool) (i : ℕ) (xs : List (List ℕ)) (n : ℕ) → position_from t i xs ≡ Some n → i ≤ n
position_past t i [] n e = absurd cc
position_past t i (x ∷ xs) n e = by_test (t x) e (position_past t (i + 1) xs n)
  where
    by_test : (b : Bool) → cond b (Some i) (position_from t (i + 1) xs) ≡ Some n → (position_from t (i + 1) xs ≡ Some n → i + 1 ≤ n) → i ≤ n
    by_test true e h = let k = some_same e in omega (arith, k)
    by_test false e h = let k = h e in omega (arith, k)

position_taken : (t : List ℕ → Bool) (i : ℕ) (xs : List (List ℕ)) (n k : ℕ) → position_from t i xs ≡ Some n → n < i + k → position_from t i (take k xs) ≡ Some n
position_taken t i [] n k e l = absurd cc
position_taken t i (x ∷ xs) n zero e l = let h = position_past t i (x ∷ xs) n e in absurd (omega (arith, h))
position_taken t i (x ∷ xs) n (suc k) e l = by_test (t x) e (position_taken t (i + 1) xs n k)
  where
    by_test : (b : Bool) → cond b (Some i) (position_from t (i + 1) xs) ≡ Some n → (position_from t (i + 1) xs ≡ Some n → n < i + 1 + k → position_from t (i + 1) (take k xs) ≡ Some n) → cond b (Some i) (position_from t (i + 1) (take k xs)) ≡ Some n
    by_test true e h = e
    by_test false e h = h e (omega (arith, l))

get_taken : {A : Type 0} (xs : List A) (n : ℕ) → slice_get (take (suc n) xs) n ≡ slice_get xs n
get_taken [] n = refl
get_taken (x ∷ xs) zero = refl
get_taken (x ∷ xs) (suc n) = get_taken xs n

-- the number of a name among the names up to it
number_taken : (ns : List (List ℕ)) (x : List ℕ) (o : Option ℕ) → number_of ns x ≡ o → number_of (take (through o) ns) x ≡ o
number_taken ns x None e = refl
number_taken ns x (Some n) e = position_taken (bytes_eq x) 0 ns n (suc n) e (omega arith)

at_taken : {A : Type 0} (ns : List (List ℕ)) (ds : List A) (x : List ℕ) (o : Option ℕ) → number_of ns x ≡ o → at_name (take (through o) ns) (take (through o) ds) x ≡ at_name ns ds x
at_taken ns ds x None e = ap (at_index ds) (sym e)
at_taken ns ds x (Some n) e = ap (at_index (take (suc n) ds)) (number_taken ns x (Some n) e) ∙ get_taken ds n ∙ ap (at_index ds) (sym e)

-- what stands beside a name stands beside it among those up to it
pub at_itself : (n : Name) (s : Scope) → at_name (up_to n s).names (up_to n s).declarations n.text ≡ at_name s.names s.declarations n.text
at_itself n s = at_taken s.names s.declarations n.text (number_of s.names n.text) refl

-- the same files are seen
pub visible_up_to : (n : Name) (s : Scope) (from : ℕ) (files : List ℕ) → is_visible (up_to n s) from files ≡ is_visible s from files
visible_up_to n s from [] = refl
visible_up_to n s from (file ∷ files) = ap (λ b. sees s from file || b) (visible_up_to n s from files)

declared_up_to : (n : Name) (s : Scope) (from : ℕ) (o : Option Declaration) → declared_in (up_to n s) from o ≡ declared_in s from o
declared_up_to n s from None = refl
declared_up_to n s from (Some d) = ap (λ b. if b then Some d.meaning else None) (visible_up_to n s from d.files)

-- a name means the same among the names up to it
pub means_itself : (n : Name) (s : Scope) (from : ℕ) → declaration_of (up_to n s) n.text from ≡ declaration_of s n.text from
means_itself n s from = ap (declared_in (up_to n s) from) (at_itself n s) ∙ declared_up_to n s from (at_name s.names s.declarations n.text)

seen_up_to : (n : Name) (s : Scope) (from : ℕ) (o : Option Declaration) → seen_from (up_to n s) from o ≡ seen_from s from o
seen_up_to n s from None = refl
seen_up_to n s from (Some d) = ap (λ b. if b then Some d else None) (visible_up_to n s from d.files)

-- and has the same identity
pub identity_itself : (n : Name) (s : Scope) (paths : List (List ℕ)) → identity_at (up_to n s) paths n ≡ identity_at s paths n
identity_itself n s paths =
    ap (λ o. identity_of paths (files_of o) n.text)
    (ap (seen_from (up_to n s) n.place.file) (at_itself n s) ∙ seen_up_to n s n.place.file (at_name s.names s.declarations n.text))

-- and the same number
pub numbered_whole : (s : Scope) (w : Written) (n : ℕ) (f : Fixpoint) → IsNumbered (up_to w.name s) w n f → IsNumbered s w n f
numbered_whole s w n f h = record { means = sym (means_itself w.name s w.name.place.file) ∙ h.means; is = h.is }

pub numbered_up_to : (s : Scope) (w : Written) (n : ℕ) (f : Fixpoint) → IsNumbered s w n f → IsNumbered (up_to w.name s) w n f
numbered_up_to s w n f h = record { means = means_itself w.name s w.name.place.file ∙ h.means; is = h.is }
