-- The expression that a term means uses a fixpoint only on what is smaller, where the term goes back.
use Rattle.std.proofs.Common.{◌≡◌, ℕ, zero, suc, ◌+◌, ◌-◌, ◌≤◌, ◌<◌, true, ℤ, List, [], ◌∷◌, map, Some, refl, ap, subst, ◌⊎◌, inl, inr, arith}
use Rattle.std.specs.Prelude.{Contains}
use Rattle.vf_tree.specs.Core.{Identity}
use Rattle.vf_model.specs.Values.{Dyadic, same_identity}
use Rattle.vf_model.proofs.Equality.{identities_told}
use Rattle.vf_meaning.specs.Ghost.{Name, Numbered, Result, This, CurrentThread, GhostExpression, GhostExpressions, no_expressions, and_expression}
use Rattle.vf_meaning.specs.Ghost as ghosts
use Rattle.vf_meaning.specs.Structural.{argument_at, IsOneOf, UsesSmaller, AllUseSmaller, CasesUseSmaller, BodyUsesSmaller}
use Rattle.vf_closure.specs.Terms.{Kind, Integer, Other, Head, Symbol, Number, Truth, Null, Function, Constructor, Fixpoint, Claims, Predicate, Share, Sum, Plus, Arithmetic, Compare, Not, And, Or, Choose, PointerSum, Term, Terms, term, no_terms, and_term}
use Rattle.vf_definitions.specs.Unfolded.{term_at}
use Rattle.vf_definitions.specs.declared.fixpoint.Case.{Case}
use Rattle.vf_definitions.specs.declared.fixpoint.Body.{Body}
use Rattle.vf_definitions.specs.declared.fixpoint.Body.TheVariants.{Returns, Switches}
use Rattle.vf_entailment.specs.Meant.{of_kind, expression_at, shared_with, summed, meant_over, meant, all_meant}
use Rattle.vf_entailment.specs.Trees.{numbered, case_tree, body_tree}
use Rattle.vf_view_laws.specs.Order.{IsSymbolOf, IsNameOfCase, HeadGoesBack, TermGoesBack, TermsGoBack, NoneIsSmaller, IsSmallerIn, BodyGoesBack}

-- ---- terms
module _ (earlier : List Identity) (own : Identity) (place : ℕ) (names : List Name) (AreSmaller : Terms → Type 0) (apart : Contains earlier own → ⊥) (smaller : (ts : Terms) → AreSmaller ts → IsOneOf names (argument_at (all_meant ts) place)) where
  abbrev Use : GhostExpression → Type 0
  Use x = UsesSmaller own place names x

  abbrev AllUse : GhostExpressions → Type 0
  AllUse xs = AllUseSmaller own place names xs

  kind_uses : (k : Kind) (x : GhostExpression) → Use x → Use (of_kind k x)
  kind_uses Integer x h = (h, tt)
  kind_uses Other x h = h

  part_uses : (xs : GhostExpressions) (j : ℕ) → AllUse xs → Use (expression_at xs j)
  part_uses no_expressions j h = tt
  part_uses (and_expression x xs) zero h = h.0
  part_uses (and_expression x xs) (suc j) h = part_uses xs j h.1

  share_uses : (d : Dyadic) (xs : GhostExpressions) → AllUse xs → Use (shared_with d xs)
  share_uses d no_expressions h = tt
  share_uses d (and_expression x xs) h = (share_uses d xs h.1, h.0)

  sum_uses : (ks : List ℤ) (xs : GhostExpressions) → AllUse xs → Use (summed ks xs)
  sum_uses [] no_expressions h = tt
  sum_uses [] (and_expression x xs) h = tt
  sum_uses (k ∷ ks) no_expressions h = tt
  sum_uses (k ∷ ks) (and_expression x xs) h = ((tt, h.0), sum_uses ks xs h.1)

  own_smaller : (f : Identity) (ts : Terms) → Contains earlier f ⊎ ((f ≡ own) × AreSmaller ts) → same_identity f own ≡ true → IsOneOf names (argument_at (all_meant ts) place)
  own_smaller f ts (inl before) same = absurd (apart (subst (Contains earlier) ((identities_told f own).0 same) before))
  own_smaller f ts (inr itself) same = smaller ts itself.1

  head_uses : (h : Head) (ts : Terms) → HeadGoesBack earlier own AreSmaller h ts → AllUse (all_meant ts) → Use (meant_over h (all_meant ts))
  head_uses (Symbol k x) ts g a = kind_uses k (ghosts.Variable x) tt
  head_uses (Number z) ts g a = tt
  head_uses (Truth b) ts g a = tt
  head_uses Null ts g a = tt
  head_uses (Function f) ts g a = tt
  head_uses (Constructor c) ts g a = a
  head_uses (Fixpoint k f) ts g a = kind_uses k (ghosts.Apply f (all_meant ts)) ((λ same. own_smaller f ts g same), a)
  head_uses (Claims t) ts g a = part_uses (all_meant ts) 0 a
  head_uses (Predicate q) ts g a = a
  head_uses (Share d) ts g a = share_uses d (all_meant ts) a
  head_uses (Sum ks) ts g a = sum_uses ks (all_meant ts) a
  head_uses Plus ts g a = (part_uses (all_meant ts) 0 a, part_uses (all_meant ts) 1 a)
  head_uses (Arithmetic op) ts g a = (part_uses (all_meant ts) 0 a, part_uses (all_meant ts) 1 a)
  head_uses (Compare op) ts g a = (part_uses (all_meant ts) 0 a, part_uses (all_meant ts) 1 a)
  head_uses Not ts g a = part_uses (all_meant ts) 0 a
  head_uses And ts g a = (part_uses (all_meant ts) 0 a, part_uses (all_meant ts) 1 a)
  head_uses Or ts g a = (part_uses (all_meant ts) 0 a, part_uses (all_meant ts) 1 a)
  head_uses (Choose k) ts g a =
      kind_uses k (ghosts.Choose (expression_at (all_meant ts) 0) (expression_at (all_meant ts) 1) (expression_at (all_meant ts) 2)) (part_uses (all_meant ts) 0 a, part_uses (all_meant ts) 1 a, part_uses (all_meant ts) 2 a)
  head_uses PointerSum ts g a = (part_uses (all_meant ts) 0 a, part_uses (all_meant ts) 1 a)

  mutual
    pub term_uses : (t : Term) → TermGoesBack earlier own AreSmaller t → Use (meant t)
    term_uses (term h ts) g = head_uses h ts g.0 (terms_use ts g.1)

    terms_use : (ts : Terms) → TermsGoBack earlier own AreSmaller ts → AllUse (all_meant ts)
    terms_use no_terms g = tt
    terms_use (and_term t ts) g = (term_uses t g.0, terms_use ts g.1)

-- ---- names of cases
pub further : {A : Type 0} (x y : A) (xs : List A) → Contains xs x → Contains (y ∷ xs) x
further x y xs (k, low, is) = (suc k, omega (arith, low), is)

behind_zero : (n : ℕ) → n ≡ n + 0
behind_zero n = omega arith

behind_more : (n i : ℕ) → suc n + i ≡ n + suc i
behind_more n i = omega arith

numbered_at : (n m i : ℕ) → i < m → Contains (numbered n m) (Numbered (n + i))
numbered_at n zero i low = absurd (omega (arith, low))
numbered_at n (suc m) zero low = (0, omega arith, ap Numbered (behind_zero n))
numbered_at n (suc m) (suc i) low = further (Numbered (n + suc i)) (Numbered n) (numbered (suc n) m) (subst (λ z. Contains (numbered (suc n) m) (Numbered z)) (behind_more n i) (numbered_at (suc n) m i (omega (arith, low))))

whole : (n j : ℕ) → n ≤ j → n + (j - n) ≡ j
whole n j low = omega (arith, low)

numbered_behind : (n m j : ℕ) → n ≤ j → j < n + m → Contains (numbered n m) (Numbered j)
numbered_behind n m j low high = subst (λ z. Contains (numbered n m) (Numbered z)) (whole n j low) (numbered_at n m (j - n) (omega (arith, low, high)))

module _ (n m : ℕ) where
  symbol_in : (h : Head) (us : Terms) → IsSymbolOf n m h → IsOneOf (numbered n m) (Some (meant_over h (all_meant us)))
  symbol_in (Symbol Other (Numbered j)) us s = (Numbered j, refl, numbered_behind n m j s.0 s.1)
  symbol_in (Symbol Other Result) us s = absurd s
  symbol_in (Symbol Other This) us s = absurd s
  symbol_in (Symbol Other CurrentThread) us s = absurd s
  symbol_in (Symbol Integer x) us s = absurd s
  symbol_in (Number z) us s = absurd s
  symbol_in (Truth b) us s = absurd s
  symbol_in Null us s = absurd s
  symbol_in (Function f) us s = absurd s
  symbol_in (Constructor c) us s = absurd s
  symbol_in (Fixpoint k f) us s = absurd s
  symbol_in (Claims t) us s = absurd s
  symbol_in (Predicate q) us s = absurd s
  symbol_in (Share d) us s = absurd s
  symbol_in (Sum ks) us s = absurd s
  symbol_in Plus us s = absurd s
  symbol_in (Arithmetic op) us s = absurd s
  symbol_in (Compare op) us s = absurd s
  symbol_in Not us s = absurd s
  symbol_in And us s = absurd s
  symbol_in Or us s = absurd s
  symbol_in (Choose k) us s = absurd s
  symbol_in PointerSum us s = absurd s

  smaller_in : (place : ℕ) (ts : Terms) → IsNameOfCase n m (term_at ts place) → IsOneOf (numbered n m) (argument_at (all_meant ts) place)
  smaller_in place no_terms s = absurd s
  smaller_in zero (and_term (term h us) ts) s = symbol_in h us s
  smaller_in (suc place) (and_term t ts) s = smaller_in place ts s

-- ---- bodies
cases_use : (earlier : List Identity) (own : Identity) (n place : ℕ) → (Contains earlier own → ⊥) → (ys : List Case) → ((y : Case) → Contains ys y → TermGoesBack earlier own (IsSmallerIn n place y.names) y.result)
    → CasesUseSmaller own place (map (case_tree n) ys)
cases_use earlier own n place apart [] g = tt
cases_use earlier own n place apart (y ∷ ys) g = (
  term_uses earlier own place (numbered n y.names) (IsSmallerIn n place y.names) apart (λ ts s. smaller_in n y.names place ts s) y.result (g y (0, omega arith, refl)),
  cases_use earlier own n place apart ys (λ z there. g z (further z y ys there)),
)

pub body_uses : (earlier : List Identity) (own : Identity) (n : ℕ) (b : Body) → (Contains earlier own → ⊥) → BodyGoesBack earlier own n b → BodyUsesSmaller own (body_tree n b)
body_uses earlier own n (Returns t) apart g = term_uses earlier own 0 [] NoneIsSmaller apart (λ ts s. absurd s) t g
body_uses earlier own n (Switches place cases) apart g = cases_use earlier own n place apart cases g
