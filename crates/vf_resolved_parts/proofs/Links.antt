-- Operators and operands, one by one.
use Rattle.std.proofs.Common.{◌≡◌, ℕ, ◌+◌, Bool, false, List, [], ◌∷◌, drop, Some, None, slice_get, refl, sym, ap, ◌∙◌}
use Rattle.vf_syntax.specs.GhostExprTree.{GhostExprTree, GhostLinkTree, ghost_link, ghost_link_list}
use Rattle.vf_syntax.specs.declared.operator.BinaryOperator.{BinaryOperator}
use Rattle.vf_base.specs.declared.place.Place.{Place}
use Rattle.vf_sorting.proofs.Lists.{left_at}
use Rattle.vf_terms.specs.Settings.{Setting}
use Rattle.vf_terms.specs.Readings.{read}
use Rattle.vf_terms.specs.declared.reading.Reading.{Reading}
use Rattle.vf_resolved_parts.specs.Truths.{all_true, any_true, both_link, either_link, related, relation, side_link, sides, whole}
use Rattle.vf_resolved_parts.specs.declared.truth_reading.TruthReading.{TruthReading}
use Rattle.vf_resolved_parts.specs.declared.truth_reading.Side.{Side}

-- one side more
pub more_sides : (s : Setting) (z : Bool) (x : Side) (ls : List GhostLinkTree) (i : ℕ) (l : GhostLinkTree) (w : Side) → slice_get ls i ≡ Some l → sides s z x (ghost_link_list (drop i ls)) ≡ w → sides s false (side_link s z x l) (ghost_link_list (drop (i + 1) ls)) ≡ w
more_sides s z x ls i l w e h = sym (ap (λ ks. sides s z x (ghost_link_list ks)) (left_at ls i l e)) ∙ h

-- one truth value more, joined by `&&`
pub more_true : (s : Setting) (x : TruthReading) (ls : List GhostLinkTree) (i : ℕ) (l : GhostLinkTree) (w : TruthReading) → slice_get ls i ≡ Some l → all_true s x (ghost_link_list (drop i ls)) ≡ w → all_true s (both_link s x l) (ghost_link_list (drop (i + 1) ls)) ≡ w
more_true s x ls i l w e h = sym (ap (λ ks. all_true s x (ghost_link_list ks)) (left_at ls i l e)) ∙ h

-- one truth value more, joined by `||`
pub more_either : (s : Setting) (x : TruthReading) (ls : List GhostLinkTree) (i : ℕ) (l : GhostLinkTree) (w : TruthReading) → slice_get ls i ≡ Some l → any_true s x (ghost_link_list (drop i ls)) ≡ w → any_true s (either_link s x l) (ghost_link_list (drop (i + 1) ls)) ≡ w
more_either s x ls i l w e h = sym (ap (λ ks. any_true s x (ghost_link_list ks)) (left_at ls i l e)) ∙ h

-- no operator, or one at least, behind a number
pub relation_none : (s : Setting) (x : Reading) (ls : List GhostLinkTree) → slice_get ls 0 ≡ None → relation s x (ghost_link_list ls) ≡ whole x
relation_none s x [] h = refl
relation_none s x (l ∷ ls) h = absurd cc

pub relation_one : (s : Setting) (x : Reading) (ls : List GhostLinkTree) (q : Place) (o : BinaryOperator) (a : GhostExprTree) → slice_get ls 0 ≡ Some (ghost_link q o a) → relation s x (ghost_link_list ls) ≡ related o x (read s false x.next a)
relation_one s x [] q o a h = absurd cc
relation_one s x (l ∷ ls) q o a h = let e : l ≡ ghost_link q o a = cc in ap (λ k. relation s x (ghost_link_list (k ∷ ls))) e
