-- What a contract sees of a trail.
use Rattle.std.specs.Prelude.{ℕ, List, refl}
use Rattle.std.specs.Coded.{Coded, code_by, coded×, coded_list, coded_ℕ}

-- the facts in the order of their pushes, each with the number of the node that it hangs on; and how many more pushes surely take no memory
pub record Facts (L : Type 0) : Type 0 where
  pub facts : List (ℕ × L)
  pub spare : ℕ

-- it is stored as the pair of its fields
abbrev pub facts_code : {L : Type 0} → Coded L → Coded (Facts L)
facts_code {L} c =
    code_by (List (ℕ × L) × ℕ) (coded× (coded_list (coded× coded_ℕ c)) coded_ℕ) (λ t. (t.facts, t.spare)) (λ p. record { facts = p.0; spare = p.1 }) (λ _. refl)
