-- Lists of sorts as rows.
use Rattle.std.proofs.Common.{◌≡◌, refl, ap₂, List, [], ◌∷◌}
use Rattle.vf_sorts.specs.Sorts.{Sort, row}

-- rows of lists that are alike are lists that are alike
pub row_told : (xs ys : List Sort) → row xs ≡ row ys → xs ≡ ys
row_told [] [] e = refl
row_told [] (y ∷ ys) e = cc
row_told (x ∷ xs) [] e = cc
row_told (x ∷ xs) (y ∷ ys) e =
    let p : x ≡ y = cc in
    let q : row xs ≡ row ys = cc in
    ap₂ (λ (a : Sort) (b : List Sort). a ∷ b) p (row_told xs ys q)
