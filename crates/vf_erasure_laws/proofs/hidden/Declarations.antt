-- What C text sees of names of file level where annotations declare one more, or declare one again.
use Rattle.std.proofs.Common.{◌≡◌, refl, sym, ◌∙◌, ap, ℕ, zero, suc, false, cond, if◌then◌else◌, List, [], ◌∷◌, ◌++◌, length, filter, Option, Some, None, slice_get, arith}
use Rattle.vf_declared.specs.declared.declaration.Declaration.{Declaration}
use Rattle.vf_declared.specs.Writing.{changed, changed_at, with_file}
use Rattle.vf_erasure_laws.specs.seen.Seen.{declares_c, names_of_c}

-- ---- one more
pub one_more_name : (xs : List (List ℕ)) (ds : List Declaration) (x : List ℕ) (d : Declaration) → length xs ≡ length ds → declares_c d ≡ false → names_of_c (xs ++ x ∷ []) (ds ++ d ∷ []) ≡ names_of_c xs ds
one_more_name [] [] x d e h = ap (λ b. if b then x ∷ [] else []) h
one_more_name [] (c ∷ ds) x d e h = absurd (grind (arith, e))
one_more_name (y ∷ xs) [] x d e h = absurd (grind (arith, e))
one_more_name (y ∷ xs) (c ∷ ds) x d e h = ap (λ l. if declares_c c then y ∷ l else l) (one_more_name xs ds x d (grind (arith, e)) h)

pub one_more_declaration : (ds : List Declaration) (d : Declaration) → declares_c d ≡ false → filter declares_c (ds ++ d ∷ []) ≡ filter declares_c ds
one_more_declaration [] d h = ap (λ b. cond b (d ∷ []) []) h
one_more_declaration (c ∷ ds) d h = ap (λ l. cond (declares_c c) (c ∷ l) l) (one_more_declaration ds d h)

-- ---- one that is declared again
-- a declaration in a file too
abbrev pub again : ℕ → Declaration → Declaration
again file d = record d { files = with_file d.files file }

-- what is declared at an index is no declaration of C
abbrev pub IsGhostAt : List Declaration → ℕ → Type 0
IsGhostAt ds n = (d : Declaration) → slice_get ds n ≡ Some d → declares_c d ≡ false

later : (file : ℕ) (c : Declaration) (ds : List Declaration) (n : ℕ) (o : Option Declaration) → changed_at (again file) (c ∷ ds) (suc n) o ≡ c ∷ changed_at (again file) ds n o
later file c ds n None = refl
later file c ds n (Some d) = refl

pub names_again : (file : ℕ) (xs : List (List ℕ)) (ds : List Declaration) (n : ℕ) → names_of_c xs (changed (again file) ds n) ≡ names_of_c xs ds
names_again file [] ds n = refl
names_again file (x ∷ xs) [] n = refl
names_again file (x ∷ xs) (d ∷ ds) zero = refl
names_again file (x ∷ xs) (d ∷ ds) (suc n) = ap (names_of_c (x ∷ xs)) (later file d ds n (slice_get ds n)) ∙ ap (λ l. if declares_c d then x ∷ l else l) (names_again file xs ds n)

pub declarations_again : (file : ℕ) (ds : List Declaration) (n : ℕ) → IsGhostAt ds n → filter declares_c (changed (again file) ds n) ≡ filter declares_c ds
declarations_again file [] n h = refl
declarations_again file (d ∷ ds) zero h = ap (λ b. cond b (again file d ∷ filter declares_c ds) (filter declares_c ds)) (h d refl) ∙ sym (ap (λ b. cond b (d ∷ filter declares_c ds) (filter declares_c ds)) (h d refl))
declarations_again file (d ∷ ds) (suc n) h = ap (filter declares_c) (later file d ds n (slice_get ds n)) ∙ ap (λ l. cond (declares_c d) (d ∷ l) l) (declarations_again file ds n h)

pub as_many_again : (file : ℕ) (ds : List Declaration) (n : ℕ) → length (changed (again file) ds n) ≡ length ds
as_many_again file [] n = refl
as_many_again file (d ∷ ds) zero = refl
as_many_again file (d ∷ ds) (suc n) = ap length (later file d ds n (slice_get ds n)) ∙ ap suc (as_many_again file ds n)
