-- Unfoldings by a list of equations.
use Rattle.std.proofs.Common.{◌≡◌, ◌<◌, ◌+◌, ℕ, suc, Bool, true, false, cond, List, [], ◌∷◌, length, drop, get_or, Option, Some, refl, sym, ap, ◌∙◌, subst, arith}
use Rattle.std.specs.Prelude.{slice_get}
use Rattle.std.specs.Ordering.{is_eq}
use Rattle.std.proofs.lemmas.List.{at_drop_more}
use Rattle.vf_closure.specs.Terms.{Head, Term, term}
use Rattle.vf_normal.specs.Order.{compare}
use Rattle.vf_formula.specs.Rows.{row}
use Rattle.vf_question.specs.Plain.{IsPlain}
use Rattle.vf_unfold.specs.Rows.{row_for, HavePlainBodies, first_part}

-- one equation after the other
pub row_step : (xs : List (Term × Term)) (i : ℕ) (x : Term × Term) (t : Term) (b : Bool) → i < length xs → x ≡ get_or xs i x → is_eq (compare x.0 t) ≡ b → row_for (drop i xs) t ≡ cond b (Some x.1) (row_for (drop (i + 1) xs) t)
row_step xs i x t b l e s =
    at_drop_more (λ ys. row_for ys t) xs i x l
    ∙ ap (λ (y : Term × Term). row_for (y ∷ drop (i + 1) xs) t) (sym e)
    ∙ ap (λ (c : Bool). cond c (Some x.1) (row_for (drop (i + 1) xs) t)) s

one_plain : (x : Bool) (b : Term) (o : Option Term) (c : Term) → IsPlain b → ((d : Term) → o ≡ Some d → IsPlain d) → cond x (Some b) o ≡ Some c → IsPlain c
one_plain true b o c h k e = let f : b ≡ c = cc in subst IsPlain f h
one_plain false b o c h k e = k c e

-- plain equations give plain terms
pub rows_plain : (rs : List (Term × Term)) → HavePlainBodies rs → (t b : Term) → row_for rs t ≡ Some b → IsPlain b
rows_plain [] h t b e = cc
rows_plain (r ∷ rs) h t b e = one_plain (is_eq (compare r.0 t)) r.1 (row_for rs t) b (h 0 r (omega arith)) (λ c f. rows_plain rs (λ k d i. h (suc k) d (omega (arith, i))) t c f) e

-- the first part of a term is the first of its row
pub first_is : (h : Head) (ps : List Term) → slice_get ps 0 ≡ first_part (term h (row ps))
first_is h [] = refl
first_is h (p ∷ ps) = refl
