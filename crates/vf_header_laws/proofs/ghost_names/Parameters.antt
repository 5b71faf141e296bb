-- Parameters of annotations have the same sorts in both units in which they are accepted.
use Rattle.std.proofs.Common.{◌≡◌, sym, ap, subst, ℕ, true, List, [], ◌∷◌, ◌++◌, Ok}
use Rattle.std.specs.List.{list_all}
use Rattle.vf_sorts.specs.Sorts.{Sort}
use Rattle.vf_declared.specs.declared.scope.Scope.{Scope}
use Rattle.vf_syntax.specs.declared.item.GhostParameter.{GhostParameter}
use Rattle.vf_syntax.specs.declared.written.Name.{Name}
use Rattle.vf_syntax.specs.SortTree.{SortTree}
use Rattle.vf_sorting.specs.Spelling.{written_sort}
use Rattle.vf_heads.specs.Parameters.{local_refusal, named, none_taken, parameter_behind, parameters_behind, Taken, with_parameter}
use Rattle.vf_header_laws.specs.c_names.Parts.{is_part_of}
use Rattle.vf_header_laws.specs.c_names.Same.{done, next}
use Rattle.vf_header_laws.proofs.c_names.Alike.{all_both}
use Rattle.vf_header_laws.proofs.c_names.Steps.{ok_same}
use Rattle.vf_header_laws.specs.ghost_names.Items.{files_of_parameters, files_of_sort}
use Rattle.vf_header_laws.specs.ghost_names.Same.{AreOneSort, AreOneSorts}
use Rattle.vf_header_laws.proofs.ghost_names.Growing.{rest_grows, sort_grows}
use Rattle.vf_header_laws.proofs.ghost_names.Rest.{IsRest, rest, rest_back, rest_both, rest_same, rest_unit}
use Rattle.vf_header_laws.proofs.ghost_names.Sorts.{sort_alike}
use Rattle.vf_header_laws.proofs.ghost_names.Two.{AreTwo, part_both, two_grow, within_grows}
use Rattle.vf_header_laws.proofs.ghost_names.Walks.{through, unrefused}

-- ---- one unit
-- a parameter is one more local and one more sort
pub record Named (n : Name) (k : Taken) (t : Sort) (l : Taken) : Type 0 where
  pub rest : IsRest k.scope l.scope
  pub sorts : l.sorts ≡ k.sorts ++ t ∷ []

pub named_is : {l : Taken} (n : Name) (k : Taken) (t : Sort) → named n k t ≡ Ok l → Named n k t l
named_is n k t h =
    let i = unrefused (local_refusal k.scope n) (Ok (with_parameter n t k)) h in
    let e = ok_same i.gives in
    record { rest = record { is = sym (ap (λ (z : Taken). rest z.scope) e) }; sorts = sym (ap (λ (z : Taken). z.sorts) e) }

pub parameters_rest : {l : Taken} (ps : List (List ℕ)) (gs : List GhostParameter) (k : Taken) → parameters_behind ps gs k ≡ Ok l → IsRest k.scope l.scope
parameters_rest ps [] k h = rest_same (sym (ap (λ (z : Taken). z.scope) (ok_same h)))
parameters_rest ps (g ∷ gs) k h =
    let i = through (parameters_behind ps gs) (parameter_behind ps g k) h in
    let j = through (named g.name k) (written_sort k.scope ps g.sort) i.first in
    rest_both (named_is g.name k j.at j.next).rest (parameters_rest ps gs i.at i.next)

-- ---- both units
one_more : {header : ℕ} {s t : Scope} {ts us : List Sort} {a b : Sort} → AreOneSort header s t a b → AreOneSorts header s t ts us → AreOneSorts header s t (ts ++ a ∷ []) (us ++ b ∷ [])
one_more r done = next r done
one_more r (next q qs) = next q (one_more r qs)

-- a sort that is read behind parameters
pub read_alike : {header : ℕ} {s t u v : Scope} (ps : List (List ℕ)) (x : SortTree) (a b : Sort) → AreTwo header s t → IsRest s u → IsRest t v → list_all (is_part_of s header) (files_of_sort x) ≡ true → written_sort u ps x ≡ Ok a → written_sort v ps x ≡ Ok b → AreOneSort header s t a b
read_alike {header} {s} {t} {u} {v} ps x a b two h k w i j =
    let z = two_grow (rest_unit h) (rest_unit k) two in
    sort_grows (rest_grows (rest_back h)) (rest_grows (rest_back k)) (sort_alike header u v z.first z.second (part_both z) ps x a b (within_grows header (files_of_sort x) (rest_unit h) w) i j)

pub taken_alike : {header : ℕ} {s t : Scope} {k' l' : Taken} (ps : List (List ℕ)) (gs : List GhostParameter) (k l : Taken) → AreTwo header s t → IsRest s k.scope → IsRest t l.scope → list_all (is_part_of s header) (files_of_parameters gs) ≡ true → parameters_behind ps gs k ≡ Ok k' → parameters_behind ps gs l ≡ Ok l' → AreOneSorts header s t k.sorts l.sorts → AreOneSorts header s t k'.sorts l'.sorts
taken_alike {header} {s} {t} {k'} {l'} ps [] k l two h q w i j r = subst (λ (z : Taken). AreOneSorts header s t z.sorts l'.sorts) (ok_same i) (subst (λ (z : Taken). AreOneSorts header s t k.sorts z.sorts) (ok_same j) r)
taken_alike {header} {s} {t} ps (g ∷ gs) k l two h q w i j r =
    let v = all_both (is_part_of s header) (files_of_sort g.sort) (files_of_parameters gs) w in
    let i₁ = through (parameters_behind ps gs) (parameter_behind ps g k) i in
    let j₁ = through (parameters_behind ps gs) (parameter_behind ps g l) j in
    let i₂ = through (named g.name k) (written_sort k.scope ps g.sort) i₁.first in
    let j₂ = through (named g.name l) (written_sort l.scope ps g.sort) j₁.first in
    let i₃ = named_is g.name k i₂.at i₂.next in
    let j₃ = named_is g.name l j₂.at j₂.next in
    let both = one_more (read_alike ps g.sort i₂.at j₂.at two h q v.0 i₂.first j₂.first) r in
    taken_alike ps gs i₁.at j₁.at two (rest_both h i₃.rest) (rest_both q j₃.rest) v.1 i₁.next j₁.next
    (subst (λ z. AreOneSorts header s t z j₁.at.sorts) (sym i₃.sorts) (subst (AreOneSorts header s t (k.sorts ++ i₂.at ∷ [])) (sym j₃.sorts) both))

-- ---- parameters behind a scope
-- parameters in the text of something with these type parameters are of these sorts
pub record Reads (ps : List (List ℕ)) (gs : List GhostParameter) (s : Scope) (ts : List Sort) : Type 0 where
  pub taken : Taken
  pub is : parameters_behind ps gs (none_taken s) ≡ Ok taken
  pub sorts : ts ≡ taken.sorts

pub reads_alike : {header : ℕ} {s t u v : Scope} {ts us : List Sort} (ps : List (List ℕ)) (gs : List GhostParameter) → AreTwo header s t → IsRest s u → IsRest t v → list_all (is_part_of s header) (files_of_parameters gs) ≡ true → Reads ps gs u ts → Reads ps gs v us → AreOneSorts header s t ts us
reads_alike {header} {s} {t} {u} {v} {ts} {us} ps gs two h k w i j =
    subst (λ z. AreOneSorts header s t z us) (sym i.sorts) (subst (AreOneSorts header s t i.taken.sorts) (sym j.sorts) (taken_alike ps gs (none_taken u) (none_taken v) two h k w i.is j.is done))
