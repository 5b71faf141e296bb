-- A state that has the whole of a field's cell stands for a part that owns it.
use Rattle.std.proofs.Common.{◌≡◌, List, [], ◌∷◌, Option, Some, None, sym, ap, subst, ◌∙◌}
use Rattle.vf_tree.specs.Core.{Field}
use Rattle.vf_model.specs.Values.{Dyadic, Value}
use Rattle.vf_model.specs.Values as values
use Rattle.vf_meaning.specs.Fractions.{whole, sum}
use Rattle.vf_meaning.specs.Valuations.{Valuation}
use Rattle.vf_meaning.specs.Assertions.{Environment}
use Rattle.vf_meaning.specs.Parts.{Location, FieldCell, Content, Part, single}
use Rattle.vf_meaning.specs.Parts as parts
use Rattle.vf_meaning.proofs.Parts.{sum_at, single_here}
use Rattle.vf_rules.specs.Terms.{Term}
use Rattle.vf_rules.specs.States.{CellOf, SymbolicState, HeadMeans, Meets, ChunksMean}
use Rattle.vf_rules.specs.Accept.{all_of_it}
use Rattle.vf_rules.proofs.Takes.{same_value, removes_parted}
use Rattle.vf_lemmas.specs.Proves.{HasWholeCell}
use Rattle.vf_lemmas.proofs.Masses.{Below, below_sum}

fraction_same : {x y : Dyadic} → values.Fraction x ≡ values.Fraction y → x ≡ y
fraction_same h = cc

cell_owned : (e : Environment) (v : Valuation) (x : Dyadic) (f : Field) (arguments : List (Option Term)) (p : Part) → HeadMeans e v x (CellOf f) arguments p → (l : Location) × (c : Content) × (p ≡ single l c x)
cell_owned e v x f (Some pointer ∷ content ∷ []) p h = (FieldCell h.block f.structure f.index, parts.CellOf h.holds, h.owns)
cell_owned e v x f [] p h = absurd h
cell_owned e v x f (None ∷ ts) p h = absurd h
cell_owned e v x f (Some pointer ∷ []) p h = absurd h
cell_owned e v x f (Some pointer ∷ content ∷ t ∷ ts) p h = absurd h

pub whole_cell : (e : Environment) (v : Valuation) (st : SymbolicState) (p : Part) → HasWholeCell e st → Meets e v st.path → ChunksMean e v st.chunks p → (l : Location) × (c : Content) × Below whole (p l c)
whole_cell e v st p has met means =
    let parted = removes_parted e v has.chunk has.removed p means in
    let chunk = parted.chunk in
    let at = cell_owned e v chunk.fraction has.field (has.chunk).arguments parted.off (subst (λ z. HeadMeans e v chunk.fraction z (has.chunk).arguments parted.off) has.head chunk.head) in
    let all : whole ≡ chunk.fraction = fraction_same (same_value e v all_of_it (has.chunk).share ((has.all).by v met) ∙ chunk.share) in
    let here : whole ≡ parted.off at.0 at.1 = all ∙ sym (single_here at.0 at.1 chunk.fraction) ∙ sym (ap (λ z. z at.0 at.1) at.2) in
    (at.0, at.1, subst (λ z. Below whole z) (sym (sum_at parted.off parted.left p parted.sums at.0 at.1 ∙ ap (λ z. sum z (parted.left at.0 at.1)) (sym here))) (below_sum whole (parted.left at.0 at.1)))
