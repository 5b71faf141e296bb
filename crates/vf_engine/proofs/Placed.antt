-- A list of threads with one of them changed.
use Rattle.std.proofs.Common.{◌≡◌, ℕ, List, map, get_or, slice_set, sym, ap, ◌∙◌}
use Rattle.std.proofs.lemmas.List.{map-set, set-get_or}

-- what stands at the index is what was put there
pub placed : {A B : Type 0} (f : A → B) (xs : List A) (i : ℕ) (x : A) (b : B) → f x ≡ b → map f (slice_set xs i x) ≡ slice_set (map f xs) i b
placed f xs i x b h = map-set f xs i x ∙ ap (slice_set (map f xs) i) h

-- nothing changes where it stands for the same
pub same_placed : {A B : Type 0} (f : A → B) (xs : List A) (i : ℕ) (x old : A) → old ≡ get_or xs i old → f x ≡ f old → map f (slice_set xs i x) ≡ map f xs
same_placed f xs i x old is h =
    map-set f xs i x ∙ ap (slice_set (map f xs) i) h ∙ sym (map-set f xs i old) ∙ ap (λ y. map f (slice_set xs i y)) is ∙ ap (map f) (set-get_or xs i old)
