-- Rows of arguments and of operands, one by one.
use Rattle.std.proofs.Common.{◌≡◌, ℕ, ◌+◌, ◌≤◌, Bool, false, List, [], ◌∷◌, ◌++◌, length, drop, Some, slice_get, refl, sym, ap, ap₂, ◌∙◌, arith}
use Rattle.vf_closure.specs.Terms.{Term}
use Rattle.vf_sorts.specs.Sorts.{Sort}
use Rattle.vf_sorts.specs.Unknowns.{instance}
use Rattle.vf_syntax.specs.GhostExprTree.{GhostExprTree, ghost_expr_list, GhostLinkTree, ghost_link_list}
use Rattle.vf_sorting.specs.Kinds.{is_pointer}
use Rattle.vf_sorting.proofs.Lists.{left_at, left_end}
use Rattle.vf_terms.specs.Settings.{Setting, settled}
use Rattle.vf_terms.specs.Readings.{read, read_all, read_link, read_links, in_front}
use Rattle.vf_terms.specs.declared.reading.Reading.{Reading}
use Rattle.vf_terms.specs.declared.reading.Row.{Row}

-- terms in front of a row
abbrev pub put_before : List Term → Row → Row
put_before ts r = record { terms = ts ++ r.terms; next = r.next }

-- one link more
pub link_read : (s : Setting) (z : Bool) (x : Reading) (ls : List GhostLinkTree) (i : ℕ) (l : GhostLinkTree) (w : Reading) → slice_get ls i ≡ Some l → read_links s z x (ghost_link_list (drop i ls)) ≡ w → read_links s false (read_link s z x l) (ghost_link_list (drop (i + 1) ls)) ≡ w
link_read s z x ls i l w e h = sym (ap (λ ks. read_links s z x (ghost_link_list ks)) (left_at ls i l e)) ∙ h

-- no link more
pub links_read : (s : Setting) (z : Bool) (x : Reading) (ls : List GhostLinkTree) (i : ℕ) (w : Reading) → length ls ≤ i → read_links s z x (ghost_link_list (drop i ls)) ≡ w → x ≡ w
links_read s z x ls i w l h = sym (ap (λ ks. read_links s z x (ghost_link_list ks)) (left_end ls i l)) ∙ h

append_one : (ts us : List Term) (t : Term) → (ts ++ t ∷ []) ++ us ≡ ts ++ t ∷ us
append_one [] us t = refl
append_one (u ∷ ts) us t = ap (λ vs. u ∷ vs) (append_one ts us t)

-- one argument more
pub argument_read : (s : Setting) (first n : ℕ) (sorts : List Sort) (xs : List GhostExprTree) (i u : ℕ) (t : Sort) (x : GhostExprTree) (before : List Term) (y : Reading) (w : Row)
    → slice_get sorts i ≡ Some t → slice_get xs i ≡ Some x → y ≡ read s (is_pointer (settled s (instance first n t))) u x
    → put_before before (read_all s first n (drop i sorts) u (ghost_expr_list (drop i xs))) ≡ w
    → put_before (before ++ y.term ∷ []) (read_all s first n (drop (i + 1) sorts) y.next (ghost_expr_list (drop (i + 1) xs))) ≡ w
argument_read s first n sorts xs i u t x before y w e f g h =
    (λ j. record { terms = append_one before (read_all s first n (drop (i + 1) sorts) y.next (ghost_expr_list (drop (i + 1) xs))).terms y.term j; next = (read_all s first n (drop (i + 1) sorts) y.next (ghost_expr_list (drop (i + 1) xs))).next })
    ∙ ap (λ z. put_before before (in_front z (read_all s first n (drop (i + 1) sorts) z.next (ghost_expr_list (drop (i + 1) xs))))) g
    ∙ sym (ap₂ (λ ss ys. put_before before (read_all s first n ss u (ghost_expr_list ys))) (left_at sorts i t e) (left_at xs i x f))
    ∙ h

append_none : (ts : List Term) → ts ++ [] ≡ ts
append_none [] = refl
append_none (t ∷ ts) = ap (λ us. t ∷ us) (append_none ts)

ended : (s : Setting) (first n u : ℕ) (sorts : List Sort) (xs : List GhostExprTree) → length sorts ≡ 0 → read_all s first n sorts u (ghost_expr_list xs) ≡ record { terms = []; next = u }
ended s first n u [] xs e = refl
ended s first n u (t ∷ ts) xs e = absurd (omega (arith, e))

ended_here : (s : Setting) (first n u : ℕ) (sorts : List Sort) → read_all s first n sorts u (ghost_expr_list []) ≡ record { terms = []; next = u }
ended_here s first n u [] = refl
ended_here s first n u (t ∷ ts) = refl
