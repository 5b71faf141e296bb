-- Arguments in rows, place by place.
use Rattle.std.proofs.Common.{◌≡◌, ℕ, pos, Bool, true, false, cond, ◌==◌, ◌<◌, ◌≤◌, ◌+◌, zero, suc, List, [], ◌∷◌, ◌++◌, length, drop, get_or, Some, None, refl, sym, ap, ◌∙◌, arith}
use Rattle.std.specs.Prelude.{slice_get}
use Rattle.std.specs.Option.{option_and_then}
use Rattle.std.proofs.lemmas.Bool.Decides.{Decides-eqb}
use Rattle.vf_tree.specs.Core.{Identity}
use Rattle.std.proofs.lemmas.List.{at_drop_more}
use Rattle.vf_meaning.specs.Ghost.{Numbered}
use Rattle.vf_closure.specs.Terms.{Head, Symbol, Fixpoint, Kind, Term, Terms, term, no_terms, and_term, count, number}
use Rattle.vf_formula.specs.Rows.{row}
use Rattle.vf_formula.proofs.Parts.{ahead, part_got, part_missed}
use Rattle.vf_definitions.specs.Filled.{argument_for, filled_over, filled, all_filled, followed_by, IsNoSymbol}
use Rattle.vf_definitions.specs.Kept.{kept_form}
use Rattle.vf_definitions.specs.Unfolded.{term_at, fixpoint_for, body_at, body_for, case_result}
use Rattle.vf_definitions.specs.declared.fixpoint.Case.{Case}
use Rattle.vf_definitions.specs.declared.fixpoint.Fixpoint as declared

pub argument_got : (ts : List Term) (k : ℕ) (t : Term) → Some t ≡ slice_get ts k → argument_for (row ts) (Numbered k) ≡ t
argument_got ts k t e = part_got ts k t e

pub argument_missed : (ts : List Term) (k : ℕ) → None ≡ slice_get ts k → argument_for (row ts) (Numbered k) ≡ number (pos 0)
argument_missed ts k e = part_missed ts k e

-- a head that is no symbol stays over its parts
over_parts : (ts : Terms) (h : Head) (us : Terms) → IsNoSymbol h → filled_over ts h us ≡ term h us
over_parts ts (Symbol k x) us n = absurd n
over_parts ts h us n = refl

pub whole_filled : (ts : Terms) (h : Head) (us : List Term) (all : List Term) → IsNoSymbol h → row all ≡ all_filled ts (row us) → term h (row all) ≡ filled ts (term h (row us))
whole_filled ts h us all n e = ap (term h) e ∙ sym (over_parts ts h (all_filled ts (row us)) n)

behind : (all : List Term) (u : Term) (us : Terms) → ahead (all ++ u ∷ []) us ≡ ahead all (and_term u us)
behind [] u us = refl
behind (v ∷ all) u us = ap (and_term v) (behind all u us)

-- one part more is filled
pub part_filled : (ts : Terms) (all us : List Term) (i : ℕ) (u w : Term) → i < length us → u ≡ get_or us i u → w ≡ filled ts u → ahead all (all_filled ts (row (drop i us))) ≡ all_filled ts (row us) → ahead (all ++ w ∷ []) (all_filled ts (row (drop (i + 1) us))) ≡ all_filled ts (row us)
part_filled ts all us i u w l e d f =
    behind all w (all_filled ts (row (drop (i + 1) us)))
    ∙ ap (λ x. ahead all (and_term x (all_filled ts (row (drop (i + 1) us))))) d
    ∙ sym (at_drop_more (λ vs. ahead all (all_filled ts (row vs))) us i u l ∙ ap (λ x. ahead all (all_filled ts (row (x ∷ drop (i + 1) us)))) (sym e))
    ∙ f

ends : (all : List Term) → ahead all no_terms ≡ row all
ends [] = refl
ends (v ∷ all) = ap (and_term v) (ends all)

nothing_behind : (us : List Term) (i : ℕ) → length us ≤ i → drop i us ≡ []
nothing_behind [] zero h = refl
nothing_behind [] (suc i) h = refl
nothing_behind (u ∷ us) zero h = absurd (omega (arith, h))
nothing_behind (u ∷ us) (suc i) h = nothing_behind us i (omega (arith, h))

-- all parts are filled
pub parts_filled : (ts : Terms) (all us : List Term) (i : ℕ) → length us ≤ i → ahead all (all_filled ts (row (drop i us))) ≡ all_filled ts (row us) → row all ≡ all_filled ts (row us)
parts_filled ts all us i l f = sym (ends all) ∙ ap (λ vs. ahead all (all_filled ts (row vs))) (sym (nothing_behind us i l)) ∙ f

pub counted_row : (ts : List Term) → count (row ts) ≡ length ts
counted_row [] = refl
counted_row (t ∷ ts) = ap suc (counted_row ts)

pub term_got : (ts : List Term) (k : ℕ) → slice_get ts k ≡ term_at (row ts) k
term_got [] zero = refl
term_got [] (suc k) = refl
term_got (t ∷ ts) zero = refl
term_got (t ∷ ts) (suc k) = term_got ts k

pub row_followed : (ts us : List Term) → row (ts ++ us) ≡ followed_by (row ts) (row us)
row_followed [] us = refl
row_followed (t ∷ ts) us = ap (and_term t) (row_followed ts us)

-- a test on two counts, where they are the same or not
same_count : (m n : ℕ) → m ≡ n → (m == n) ≡ true
same_count m n e = (Decides-eqb m n).1 e

other_count : (m n : ℕ) → (m ≡ n → ⊥) → (m == n) ≡ false
other_count m n h = by (m == n) refl
  where
    by : (b : Bool) → (m == n) ≡ b → b ≡ false
    by true e = absurd (h ((Decides-eqb m n).0 e))
    by false e = refl

pub case_filled : (ts us : List Term) (c : Case) → length us ≡ c.names → case_result (row ts) (row us) c ≡ kept_form (filled (followed_by (row ts) (row us)) c.result)
case_filled ts us c e = ap (λ b. cond b (kept_form (filled (followed_by (row ts) (row us)) c.result)) None) (same_count (count (row us)) c.names (counted_row us ∙ e))

pub case_missed : (ts us : List Term) (c : Case) → (length us ≡ c.names → ⊥) → case_result (row ts) (row us) c ≡ None
case_missed ts us c h = ap (λ b. cond b (kept_form (filled (followed_by (row ts) (row us)) c.result)) None) (other_count (count (row us)) c.names (λ e. h (sym (counted_row us) ∙ e)))

pub body_there : (fs : List declared.Fixpoint) (k : Kind) (f : Identity) (ts : List Term) (g : declared.Fixpoint) → fixpoint_for fs k f ≡ Some g → g.parameters ≡ length ts → body_for fs (term (Fixpoint k f) (row ts)) ≡ Some g.body
body_there fs k f ts g e n = ap (option_and_then (body_at (row ts))) e ∙ ap (λ b. cond b (Some g.body) None) (same_count (count (row ts)) g.parameters (counted_row ts ∙ sym n))

pub body_counted_out : (fs : List declared.Fixpoint) (k : Kind) (f : Identity) (ts : List Term) (g : declared.Fixpoint) → fixpoint_for fs k f ≡ Some g → (g.parameters ≡ length ts → ⊥) → body_for fs (term (Fixpoint k f) (row ts)) ≡ None
body_counted_out fs k f ts g e n = ap (option_and_then (body_at (row ts))) e ∙ ap (λ b. cond b (Some g.body) None) (other_count (count (row ts)) g.parameters (λ h. n (sym h ∙ counted_row ts)))

pub body_missed : (fs : List declared.Fixpoint) (k : Kind) (f : Identity) (ts : List Term) → fixpoint_for fs k f ≡ None → body_for fs (term (Fixpoint k f) (row ts)) ≡ None
body_missed fs k f ts e = ap (option_and_then (body_at (row ts))) e
