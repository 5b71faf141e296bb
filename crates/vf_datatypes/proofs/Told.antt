-- Loops that look whether sorts have values.
use Rattle.std.proofs.Common.{◌≡◌, ℕ, zero, suc, ◌+◌, Bool, true, false, ◌&&◌, List, [], ◌∷◌, ◌++◌, append_assoc, drop, Option, Some, None, slice_get, refl, sym, ap, ◌∙◌}
use Rattle.std.specs.List.{list_all, list_any}
use Rattle.vf_sorts.specs.Sorts.{Sort, row}
use Rattle.vf_declared.specs.declared.scope.Scope.{Scope}
use Rattle.vf_declared.specs.Scopes.{datatype_of, ghost_of}
use Rattle.vf_declared.specs.declared.declaration.Datatype.{Datatype}
use Rattle.vf_declared.specs.declared.declaration.Constructor.{Constructor}
use Rattle.vf_declared.specs.declared.declaration.GhostDeclaration.{GhostDeclaration}
use Rattle.vf_declared.specs.declared.declaration.GhostDeclaration.TheVariants as ghosts
use Rattle.vf_datatypes.specs.Inhabited.{Known, can_build, constructors_in, has_value, have_values, one_builds, parameter_has_value}
use Rattle.vf_datatypes.proofs.Lists.{left_at}

-- a type argument of which it is told
pub told_at : (told : List Bool) (i : ℕ) (b : Bool) → slice_get told i ≡ Some b → b ≡ parameter_has_value told i
told_at [] i b h = absurd cc
told_at (x ∷ told) zero b h = let e : x ≡ b = cc in sym e
told_at (x ∷ told) (suc i) b h = told_at told i b h

-- one of which it is not told
pub told_not : (told : List Bool) (i : ℕ) → slice_get told i ≡ None → true ≡ parameter_has_value told i
told_not [] i h = refl
told_not (x ∷ told) zero h = absurd cc
told_not (x ∷ told) (suc i) h = told_not told i h

at : {A : Type 0} (p : A → Bool) (xs : List A) (i : ℕ) (x : A) → slice_get xs i ≡ Some x → list_all p (drop i xs) ≡ (p x && list_all p (drop (i + 1) xs))
at p xs i x h = ap (list_all p) (left_at xs i x h)

-- one of all is not such
pub all_stop : {A : Type 0} (p : A → Bool) (xs : List A) (i : ℕ) (x : A) (whole : Bool) → slice_get xs i ≡ Some x → p x ≡ false → list_all p (drop i xs) ≡ whole → false ≡ whole
all_stop p xs i x whole h no_ kept = sym (at p xs i x h ∙ ap (λ b. b && list_all p (drop (i + 1) xs)) no_) ∙ kept

-- one of all is such
pub all_further : {A : Type 0} (p : A → Bool) (xs : List A) (i : ℕ) (x : A) (whole : Bool) → slice_get xs i ≡ Some x → p x ≡ true → list_all p (drop i xs) ≡ whole → list_all p (drop (i + 1) xs) ≡ whole
all_further p xs i x whole h yes_ kept = sym (at p xs i x h ∙ ap (λ b. b && list_all p (drop (i + 1) xs)) yes_) ∙ kept

-- one more sort is told
pub told_more : (known : Known) (own : ℕ) (told : List Bool) (ts : List Sort) (i : ℕ) (t : Sort) (bs cs whole : List Bool) (b : Bool) → slice_get ts i ≡ Some t → b ≡ has_value known own told t → cs ≡ bs ++ b ∷ [] → whole ≡ bs ++ have_values known own told (row (drop i ts)) → whole ≡ cs ++ have_values known own told (row (drop (i + 1) ts))
told_more known own told ts i t bs cs whole b h is q kept =
    kept
    ∙ ap (λ xs. bs ++ have_values known own told (row xs)) (left_at ts i t h)
    ∙ ap (λ x. bs ++ x ∷ have_values known own told (row (drop (i + 1) ts))) (sym is)
    ∙ sym (append_assoc bs (b ∷ []) (have_values known own told (row (drop (i + 1) ts))))
    ∙ ap (λ xs. xs ++ have_values known own told (row (drop (i + 1) ts))) (sym q)

-- the constructors of a datatype that is there
pub of_datatype : (known : Known) (s : Scope) (k : ℕ) (told : List Bool) (d : Datatype) (b : Bool) → Some d ≡ datatype_of s k → b ≡ list_any (λ c. can_build known k told (ghost_of s c)) d.constructors → b ≡ one_builds known s k told
of_datatype known s k told d b is h = h ∙ ap (λ o. list_any (λ c. can_build known k told (ghost_of s c)) (constructors_in o)) is

-- the arguments of a constructor
pub of_constructor : (known : Known) (own : ℕ) (told : List Bool) (g : Option GhostDeclaration) (c : Constructor) (b : Bool) → g ≡ Some (ghosts.Constructor c) → b ≡ list_all (has_value known own told) c.arguments → b ≡ can_build known own told g
of_constructor known own told g c b is h = h ∙ sym (ap (can_build known own told) is)
