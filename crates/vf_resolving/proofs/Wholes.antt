-- Conditionals, from their parts.
use Rattle.std.proofs.Common.{◌≡◌, List, sym, ap, ◌∙◌}
use Rattle.vf_base.specs.declared.place.Place.{Place}
use Rattle.vf_syntax.specs.GhostExprTree.{GhostExprTree}
use Rattle.vf_syntax.specs.AssertionTree as written
use Rattle.vf_asserting.specs.Leaving.{count}
use Rattle.vf_resolved.specs.AssertionTree.{PartTree, part_list}
use Rattle.vf_resolved.specs.AssertionTree as tree
use Rattle.vf_resolved_parts.specs.Truths.{truth}
use Rattle.vf_resolved_parts.specs.declared.truth_reading.TruthReading.{TruthReading}
use Rattle.vf_resolving.specs.Standings.{Around, Standing, counting, setting_at}
use Rattle.vf_resolving.specs.Assertions.{PartResolved, PartsResolved, conditional_of, enclosed, part_resolved, parts_resolved}

-- a conditional whose second branch is still to be resolved
abbrev pub with_second : Around → Place → TruthReading → written.PartTrees → PartsResolved → PartResolved
with_second a p t ys r = conditional_of p t.truth r (enclosed (count r.standing.scope) (parts_resolved a r.standing ys))

-- a conditional
pub conditional_told : (a : Around) (s s₁ s₂ : Standing) (p : Place) (e : GhostExprTree) (xs ys : written.PartTrees) (t : TruthReading) (y z : List PartTree)
    → t ≡ truth (setting_at a s) s.next e
    → enclosed (count s.scope) (parts_resolved a (counting t.next s) xs) ≡ record { parts = y; standing = s₁ }
    → enclosed (count s₁.scope) (parts_resolved a s₁ ys) ≡ record { parts = z; standing = s₂ }
    → part_resolved a s (written.conditional p e xs ys) ≡ record { part = tree.conditional p t.truth (part_list y) (part_list z); standing = s₂ }
conditional_told a s s₁ s₂ p e xs ys t y z is first second =
    sym (ap (λ (u : TruthReading). with_second a p u ys (enclosed (count s.scope) (parts_resolved a (counting u.next s) xs))) is)
    ∙ ap (with_second a p t ys) first
    ∙ ap (conditional_of p t.truth (record { parts = y; standing = s₁ })) second
