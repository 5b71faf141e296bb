-- Units that were expanded.
use Rattle.std.proofs.Common.{◌≡◌, ℕ, ◌+◌, List, Ok, arith, subst}
use Rattle.vf_syntax.specs.declared.item.Item.{Item}
use Rattle.vf_snapshot.specs.Holdings.{Holdings}
use Rattle.vf_preproc.specs.UnitText.{Library}
use Rattle.vf_expand.specs.declared.whole.UnitTokens.{UnitTokens}
use Rattle.vf_expand.specs.Wholes.{text_of, text_of_unit}
use Rattle.vf_header_laws.specs.included.Closed.{TellsApart}
use Rattle.vf_resolve.specs.UnitFiles.{consists_of, files_in, files_of}
use Rattle.vf_header_laws.specs.c_names.Units.{IsHeaderOfBoth}
use Rattle.vf_header_laws.proofs.expanded.Expanded.{expanded_headers_consist_of_headers}
use Rattle.vf_annotated_headers.specs.ExpandedGhosts.{ExpandedUnitsForeseeTheSameSorts, ExpandedUnitsShowTheSameGhosts}
use Rattle.vf_annotated_headers.specs.ExpandedUnits.{beginning_of, IsSharedHeader}
use Rattle.vf_annotated_headers.proofs.AnnotatedGhosts.{annotated_units_foresee_the_same_sorts, annotated_units_show_the_same_ghosts}
use Rattle.vf_annotated_headers.proofs.ExpandedUnits.{same_entry}

-- a header that consists of the same files in two units is a header of both
header_of_both : (library : Library) (held : Holdings) (p q : List ℕ) (a b : UnitTokens) (xs ys : List Item) (header : ℕ) → TellsApart library → text_of_unit library p ≡ Ok (text_of a) → text_of_unit library q ≡ Ok (text_of b) → IsSharedHeader held a b xs header → IsHeaderOfBoth header (beginning_of held a xs) (beginning_of held b ys)
header_of_both library held p q a b xs ys header apart first second shared = record {
  files = λ file w. same_entry (consists_of (files_in a) a.includes) (consists_of (files_in b) b.includes) held 0 file
      (let h : file ≡ 0 + file = omega arith in subst (λ m. consists_of (files_in a) a.includes m ≡ consists_of (files_in b) b.includes m) h (shared.files file w));
  first = expanded_headers_consist_of_headers library p a held xs header apart first shared.first;
  second = expanded_headers_consist_of_headers library q b held ys header apart second shared.second;
}

pub expanded_units_show_the_same_ghosts : ExpandedUnitsShowTheSameGhosts
expanded_units_show_the_same_ghosts library held p q a b xs ys u v header apart first second shared alike e i =
    annotated_units_show_the_same_ghosts header (files_of a held) (files_of b held) xs ys u v (header_of_both library held p q a b xs ys header apart first second shared) alike e i

pub expanded_units_foresee_the_same_sorts : ExpandedUnitsForeseeTheSameSorts
expanded_units_foresee_the_same_sorts library held p q a b xs ys u v header apart first second shared alike e i =
    annotated_units_foresee_the_same_sorts header (files_of a held) (files_of b held) xs ys u v (header_of_both library held p q a b xs ys header apart first second shared) alike e i
