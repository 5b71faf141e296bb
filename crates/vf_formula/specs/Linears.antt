-- How the logic stores linear sums, and what their code needs.
use Rattle.std.specs.Prelude.{ℤ, pos, neg_ℤ, ◌≤ℤ◌, ◌^◌, List, [], ◌∷◌, ◌≡◌, false, true, Option, Some, None}
use Rattle.std.proofs.Common.{refl}
use Rattle.std.specs.Coded.{Coded, code_by, coded×, coded_ℤ, coded_list}
use Rattle.vf_closure.specs.Terms.{Term}
use Rattle.vf_normal.specs.Sums.{Weighted, Linear, are_small, fits, row_of}
use Rattle.vf_normal.specs.NormalForms.{AreAtoms, AllNormal, StaysApart}
use Rattle.vf_formula.specs.Codes.{coded_term}

-- an atom with its factor is stored as the pair of both
abbrev pub coded_weighted : Coded Weighted
coded_weighted = code_by (ℤ × Term) (coded× coded_ℤ coded_term) (λ w. (w.factor, w.atom)) (λ p. record { factor = p.0; atom = p.1 }) (λ _. refl)

-- a sum is stored as its atoms and its number
abbrev pub coded_linear : Coded Linear
coded_linear = code_by (List Weighted × ℤ) (coded× (coded_list coded_weighted) coded_ℤ) (λ f. (f.atoms, f.number)) (λ p. record { atoms = p.0; number = p.1 }) (λ _. refl)

-- atoms in their order, each in normal form, with small factors
pub record IsSum (ws : List Weighted) : Type 0 where
  pub atoms : AreAtoms ws
  pub normal : AllNormal (row_of ws)
  pub small : are_small ws ≡ true

-- a sum that was found is the wanted one, and where none was found the wanted one does not fit
abbrev pub IsFitted : Linear → Option Linear → Type 0
IsFitted f (Some g) = g ≡ f
IsFitted f None = fits f ≡ false

-- a sum that was found is what an operation has come to, and where none was found it stays apart
abbrev pub IsCombined : Option Linear → Option Linear → Type 0
IsCombined o (Some g) = o ≡ Some g
IsCombined o None = StaysApart o

-- a number is within plus and minus 2^91
abbrev pub IsWide : ℤ → Type 0
IsWide z = (neg_ℤ (pos (2 ^ 91)) ≤ℤ z) × (z ≤ℤ pos (2 ^ 91))

-- each factor is within these bounds
abbrev pub AreWide : List Weighted → Type 0
AreWide [] = Unit {0}
AreWide (w ∷ ws) = IsWide w.factor × AreWide ws

-- the factors and the number of a sum are within these bounds
pub record IsDifference (f : Linear) : Type 0 where
  pub factors : AreWide f.atoms
  pub number : IsWide f.number
