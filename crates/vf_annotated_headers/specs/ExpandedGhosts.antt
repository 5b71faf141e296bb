-- Names of annotations mean the same in a header of every unit that was expanded from the same files.
use Rattle.std.specs.Prelude.{◌≡◌, ℕ, List, Ok}
use Rattle.vf_declared.specs.declared.scope.Scope.{Scope}
use Rattle.vf_syntax.specs.declared.item.Item.{Item}
use Rattle.vf_snapshot.specs.Holdings.{Holdings}
use Rattle.vf_preproc.specs.UnitText.{Library}
use Rattle.vf_expand.specs.declared.whole.UnitTokens.{UnitTokens}
use Rattle.vf_expand.specs.Wholes.{text_of, text_of_unit}
use Rattle.vf_header_laws.specs.included.Closed.{TellsApart}
use Rattle.vf_resolve.specs.Units.{ItemsCome}
use Rattle.vf_header_laws.specs.c_names.Parts.{is_part_of}
use Rattle.vf_header_laws.specs.ghost_names.LaterSorts.{ForeseeTheSameSorts}
use Rattle.vf_header_laws.specs.ghost_names.Same.{ShowTheSameGhosts}
use Rattle.vf_header_laws.specs.ghost_names.Units.{HaveTheSameGhosts}
use Rattle.vf_annotated_headers.specs.ExpandedUnits.{beginning_of, IsSharedHeader}

-- where two units are expanded from files that are told apart, and accepted, and the same items of annotations stand in a header of both, the header shows the same names of annotations in both
abbrev pub ExpandedUnitsShowTheSameGhosts : Type 0
ExpandedUnitsShowTheSameGhosts = (library : Library) (held : Holdings) (p q : List ℕ) (a b : UnitTokens) (xs ys : List Item) (u v : Scope) (header : ℕ) → TellsApart library → text_of_unit library p ≡ Ok (text_of a) → text_of_unit library q ≡ Ok (text_of b) → IsSharedHeader held a b xs header → HaveTheSameGhosts (is_part_of (beginning_of held a xs) header) xs ys → ItemsCome xs (beginning_of held a xs) (Ok u) → ItemsCome ys (beginning_of held b ys) (Ok v) → ShowTheSameGhosts header u v

-- and so it foresees predicates over the same sorts in front of the items of both
abbrev pub ExpandedUnitsForeseeTheSameSorts : Type 0
ExpandedUnitsForeseeTheSameSorts = (library : Library) (held : Holdings) (p q : List ℕ) (a b : UnitTokens) (xs ys : List Item) (u v : Scope) (header : ℕ) → TellsApart library → text_of_unit library p ≡ Ok (text_of a) → text_of_unit library q ≡ Ok (text_of b) → IsSharedHeader held a b xs header → HaveTheSameGhosts (is_part_of (beginning_of held a xs) header) xs ys → ItemsCome xs (beginning_of held a xs) (Ok u) → ItemsCome ys (beginning_of held b ys) (Ok v) → ForeseeTheSameSorts header (beginning_of held a xs) (beginning_of held b ys) u v
