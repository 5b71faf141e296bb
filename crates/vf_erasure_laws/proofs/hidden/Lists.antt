-- Lists with more at the end, and lists that stand beside each other.
use Rattle.std.proofs.Common.{◌≡◌, refl, sym, ◌∙◌, ap, ap₂, ℕ, zero, suc, ◌+◌, List, [], ◌∷◌, ◌++◌, length, take, map, length-append, arith}

-- two lists that stand beside each other still do with more that do
pub beside : {A B : Type 0} (xs zs : List A) (ys us : List B) → length xs ≡ length ys → length zs ≡ length us → length (xs ++ zs) ≡ length (ys ++ us)
beside xs zs ys us e h = length-append xs zs ∙ (ap₂ ◌+◌ e h ∙ sym (length-append ys us))

-- the same with one more each
pub one_beside : {A B : Type 0} (xs : List A) (x : A) (ys : List B) (y : B) → length xs ≡ length ys → length (xs ++ x ∷ []) ≡ length (ys ++ y ∷ [])
one_beside xs x ys y e = beside xs (x ∷ []) ys (y ∷ []) e refl

as_long : {A B : Type 0} (x : A) (xs : List A) (y : B) (ys : List B) → length (x ∷ xs) ≡ length (y ∷ ys) → length xs ≡ length ys
as_long x xs y ys e = grind (arith, e)

longer : (n : ℕ) → suc n ≡ zero → ⊥
longer n e = grind (arith, e)

-- as many items of a list as stand in the list beside its front are that front
pub front : {A B : Type 0} (xs : List A) (ys zs : List B) → length xs ≡ length ys → take (length xs) (ys ++ zs) ≡ ys
front [] [] zs e = refl
front [] (y ∷ ys) zs e = absurd (longer (length ys) (sym e))
front (x ∷ xs) [] zs e = absurd (longer (length xs) e)
front (x ∷ xs) (y ∷ ys) zs e = ap (λ l. y ∷ l) (front xs ys zs (as_long x xs y ys e))

-- as many items as stand in a longer list are that front and more
pub past : {A B : Type 0} (xs us : List A) (ys zs : List B) → length xs ≡ length ys → take (length (xs ++ us)) (ys ++ zs) ≡ ys ++ take (length us) zs
past [] us [] zs e = refl
past [] us (y ∷ ys) zs e = absurd (longer (length ys) (sym e))
past (x ∷ xs) us [] zs e = absurd (longer (length xs) e)
past (x ∷ xs) us (y ∷ ys) zs e = ap (λ l. y ∷ l) (past xs us ys zs (as_long x xs y ys e))

-- what a function gives for two lists one after the other
pub mapped : {A B : Type 0} (f : A → B) (xs ys : List A) → map f (xs ++ ys) ≡ map f xs ++ map f ys
mapped f [] ys = refl
mapped f (x ∷ xs) ys = ap (λ l. f x ∷ l) (mapped f xs ys)
