-- The expression that a term means applies earlier fixpoints and the fixpoint itself alone, where the term goes back.
use Rattle.std.proofs.Common.{◌≡◌, ℕ, zero, suc, ℤ, List, [], ◌∷◌, map, refl, sym, subst, ◌∙◌, ◌⊎◌, inl, inr, arith}
use Rattle.std.specs.Prelude.{Contains}
use Rattle.vf_tree.specs.Core.{Identity}
use Rattle.vf_model.specs.Values.{Dyadic}
use Rattle.vf_meaning.specs.Ghost.{GhostExpression, GhostExpressions, no_expressions, and_expression, CaseTree}
use Rattle.vf_meaning.specs.Ghost as ghosts
use Rattle.vf_meaning.specs.Structural.{Applies, AnyApplies, BodyApplies}
use Rattle.vf_closure.specs.Terms.{Kind, Integer, Other, Head, Symbol, Number, Truth, Null, Function, Constructor, Fixpoint, Claims, Predicate, Share, Sum, Plus, Arithmetic, Compare, Not, And, Or, Choose, PointerSum, Term, Terms, term, no_terms, and_term}
use Rattle.vf_definitions.specs.declared.fixpoint.Case.{Case}
use Rattle.vf_definitions.specs.declared.fixpoint.Body.{Body}
use Rattle.vf_definitions.specs.declared.fixpoint.Body.TheVariants.{Returns, Switches}
use Rattle.vf_entailment.specs.Meant.{of_kind, expression_at, shared_with, summed, meant_over, meant, all_meant}
use Rattle.vf_entailment.specs.Trees.{case_tree, body_tree}
use Rattle.vf_view_laws.specs.Order.{HeadGoesBack, TermGoesBack, TermsGoBack, NoneIsSmaller, IsSmallerIn, BodyGoesBack}
use Rattle.vf_view_laws.proofs.Smaller.{further}

-- ---- expressions
kind_applies : (k : Kind) (x : GhostExpression) (g : Identity) → Applies (of_kind k x) g → Applies x g
kind_applies Integer x g (inl h) = h
kind_applies Integer x g (inr h) = absurd h
kind_applies Other x g h = h

part_applies : (xs : GhostExpressions) (j : ℕ) (g : Identity) → Applies (expression_at xs j) g → AnyApplies xs g
part_applies no_expressions j g h = h
part_applies (and_expression x xs) zero g h = inl h
part_applies (and_expression x xs) (suc j) g h = inr (part_applies xs j g h)

share_applies : (d : Dyadic) (xs : GhostExpressions) (g : Identity) → Applies (shared_with d xs) g → AnyApplies xs g
share_applies d no_expressions g h = h
share_applies d (and_expression x xs) g (inl h) = inr (share_applies d xs g h)
share_applies d (and_expression x xs) g (inr h) = inl h

sum_applies : (ks : List ℤ) (xs : GhostExpressions) (g : Identity) → Applies (summed ks xs) g → AnyApplies xs g
sum_applies [] no_expressions g h = h
sum_applies [] (and_expression x xs) g h = absurd h
sum_applies (k ∷ ks) no_expressions g h = h
sum_applies (k ∷ ks) (and_expression x xs) g (inl (inl h)) = absurd h
sum_applies (k ∷ ks) (and_expression x xs) g (inl (inr h)) = inl h
sum_applies (k ∷ ks) (and_expression x xs) g (inr h) = inr (sum_applies ks xs g h)

-- two parts, or three
two_apply : (xs : GhostExpressions) (g : Identity) → Applies (expression_at xs 0) g ⊎ Applies (expression_at xs 1) g → AnyApplies xs g
two_apply xs g (inl h) = part_applies xs 0 g h
two_apply xs g (inr h) = part_applies xs 1 g h

three_apply : (xs : GhostExpressions) (g : Identity) → Applies (expression_at xs 0) g ⊎ (Applies (expression_at xs 1) g ⊎ Applies (expression_at xs 2) g) → AnyApplies xs g
three_apply xs g (inl h) = part_applies xs 0 g h
three_apply xs g (inr (inl h)) = part_applies xs 1 g h
three_apply xs g (inr (inr h)) = part_applies xs 2 g h

-- ---- terms
-- a fixpoint is the own one, or an earlier one
abbrev pub IsKnown : List Identity → Identity → Identity → Type 0
IsKnown earlier own g = (g ≡ own) ⊎ Contains earlier g

module _ (earlier : List Identity) (own : Identity) (AreSmaller : Terms → Type 0) (g : Identity) where
  called : (f : Identity) (ts : Terms) → Contains earlier f ⊎ ((f ≡ own) × AreSmaller ts) → (AnyApplies (all_meant ts) g → IsKnown earlier own g) → (f ≡ g) ⊎ AnyApplies (all_meant ts) g → IsKnown earlier own g
  called f ts (inl before) go (inl is) = inr (subst (Contains earlier) is before)
  called f ts (inr itself) go (inl is) = inl (sym is ∙ itself.0)
  called f ts back go (inr a) = go a

  head_applies : (h : Head) (ts : Terms) → HeadGoesBack earlier own AreSmaller h ts → (AnyApplies (all_meant ts) g → IsKnown earlier own g) → Applies (meant_over h (all_meant ts)) g → IsKnown earlier own g
  head_applies (Symbol k x) ts back go a = absurd (kind_applies k (ghosts.Variable x) g a)
  head_applies (Number z) ts back go a = absurd a
  head_applies (Truth b) ts back go a = absurd a
  head_applies Null ts back go a = absurd a
  head_applies (Function f) ts back go a = absurd a
  head_applies (Constructor c) ts back go a = go a
  head_applies (Fixpoint k f) ts back go a = called f ts back go (kind_applies k (ghosts.Apply f (all_meant ts)) g a)
  head_applies (Claims t) ts back go a = go (part_applies (all_meant ts) 0 g a)
  head_applies (Predicate q) ts back go a = go a
  head_applies (Share d) ts back go a = go (share_applies d (all_meant ts) g a)
  head_applies (Sum ks) ts back go a = go (sum_applies ks (all_meant ts) g a)
  head_applies Plus ts back go a = go (two_apply (all_meant ts) g a)
  head_applies (Arithmetic op) ts back go a = go (two_apply (all_meant ts) g a)
  head_applies (Compare op) ts back go a = go (two_apply (all_meant ts) g a)
  head_applies Not ts back go a = go (part_applies (all_meant ts) 0 g a)
  head_applies And ts back go a = go (two_apply (all_meant ts) g a)
  head_applies Or ts back go a = go (two_apply (all_meant ts) g a)
  head_applies (Choose k) ts back go a =
      go (three_apply (all_meant ts) g (kind_applies k (ghosts.Choose (expression_at (all_meant ts) 0) (expression_at (all_meant ts) 1) (expression_at (all_meant ts) 2)) g a))
  head_applies PointerSum ts back go a = go (two_apply (all_meant ts) g a)

  mutual
    term_applies : (t : Term) → TermGoesBack earlier own AreSmaller t → Applies (meant t) g → IsKnown earlier own g
    term_applies (term h ts) back a = head_applies h ts back.0 (λ b. terms_apply ts back.1 b) a

    terms_apply : (ts : Terms) → TermsGoBack earlier own AreSmaller ts → AnyApplies (all_meant ts) g → IsKnown earlier own g
    terms_apply no_terms back a = absurd a
    terms_apply (and_term t ts) back (inl a) = term_applies t back.0 a
    terms_apply (and_term t ts) back (inr a) = terms_apply ts back.1 a

-- ---- bodies
-- one of several cases as an environment has them is one of them
case_there : (n : ℕ) (ys : List Case) (c : CaseTree) → Contains (map (case_tree n) ys) c → (y : Case) × Contains ys y × (case_tree n y ≡ c)
case_there n [] c (k, low, is) = absurd (omega (arith, low))
case_there n (y ∷ ys) c (zero, low, is) = (y, (0, omega arith, refl), is)
case_there n (y ∷ ys) c (suc k, low, is) = let r = case_there n ys c (k, omega (arith, low), is) in (r.0, further r.0 y ys r.1, r.2)

pub body_applies : (earlier : List Identity) (own : Identity) (n : ℕ) (b : Body) (g : Identity) → BodyGoesBack earlier own n b → BodyApplies (body_tree n b) g → IsKnown earlier own g
body_applies earlier own n (Returns t) g back a = term_applies earlier own NoneIsSmaller g t back a
body_applies earlier own n (Switches place cases) g back (c, there, a) =
    let r = case_there n cases c there in
    term_applies earlier own (IsSmallerIn n place (r.0).names) g (r.0).result (back r.0 r.1) (subst (λ (z : CaseTree). Applies z.result g) (sym r.2) a)
