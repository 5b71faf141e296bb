-- Units that were expanded.
use Rattle.std.proofs.Common.{◌≡◌, ℕ, zero, suc, ◌+◌, List, [], ◌∷◌, Some, slice_get, refl, ap, arith, subst}
use Rattle.vf_resolve.specs.UnitFiles.{by_numbers, consists_of, files_in, files_of}
use Rattle.vf_header_laws.proofs.expanded.Expanded.{expanded_headers_consist_of_headers}
use Rattle.vf_annotated_headers.specs.ExpandedUnits.{ExpandedUnitsShowTheSame}
use Rattle.vf_annotated_headers.proofs.AnnotatedUnits.{annotated_units_show_the_same}

-- two tables by numbers have the same entry where they have the same item for its number
pub same_entry : {A : Type 0} (f g : ℕ → List ℕ) (xs : List A) (k n : ℕ) → f (k + n) ≡ g (k + n) → slice_get (by_numbers f k xs) n ≡ slice_get (by_numbers g k xs) n
same_entry f g [] k n e = refl
same_entry f g (x ∷ xs) k zero e = let h : k + 0 ≡ k = omega arith in ap Some (subst (λ m. f m ≡ g m) h e)
same_entry f g (x ∷ xs) k (suc n) e = let h : k + suc n ≡ suc k + n = omega arith in same_entry f g xs (suc k) n (subst (λ m. f m ≡ g m) h e)

pub expanded_units_show_the_same : ExpandedUnitsShowTheSame
expanded_units_show_the_same library held p q a b xs ys u v header apart first second shared alike e i =
    annotated_units_show_the_same header (files_of a held) (files_of b held) xs ys u v
    (record {
      files = λ file w. same_entry (consists_of (files_in a) a.includes) (consists_of (files_in b) b.includes) held 0 file
          (let h : file ≡ 0 + file = omega arith in subst (λ m. consists_of (files_in a) a.includes m ≡ consists_of (files_in b) b.includes m) h (shared.files file w));
      first = expanded_headers_consist_of_headers library p a held xs header apart first shared.first;
      second = expanded_headers_consist_of_headers library q b held ys header apart second shared.second;
    })
    alike e i
