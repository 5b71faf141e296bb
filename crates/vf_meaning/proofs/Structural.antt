-- Fixpoints that use themselves only on what is smaller meet their equations.
use Rattle.std.proofs.Common.{◌≡◌, ℕ, zero, suc, ◌<◌, ◌≤◌, cond, not, ◌&&◌, ◌||◌, List, [], ◌∷◌, Option, Some, None, refl, sym, ap, ap₂, subst, ◌∙◌, ⊎_elim, arith, neg_ℤ}
use Rattle.std.specs.Prelude.{Contains, IsTrue}
use Rattle.std.specs.Cmp.Lexicographic.{bytes_decides}
use Rattle.std.proofs.lemmas.Bool.{cases_Bool}
use Rattle.vf_tree.specs.Core.{Identity}
use Rattle.vf_model.specs.Values.{Value, Values, none, more, number_of, same_identity}
use Rattle.vf_model.specs.Values as values
use Rattle.vf_meaning.specs.Ghost.{Name, same_name, GhostExpression, GhostExpressions, no_expressions, and_expression, Variable, Number, Truth, Fraction, Null, Function, Construct, Apply, PredicateValue, Claims, Negate, Arithmetic, PointerSum, Share, Compare, Not, And, Or, Choose, CaseTree, FixpointBody, Returns, Switches, FixpointTree}
use Rattle.vf_meaning.specs.Valuations.{Valuation, no_value, value_at, size, sizes, is_true, further, bound, all_bound, of_arguments}
use Rattle.vf_meaning.specs.GhostValues.{Interpretation, computed, compared, shared, claimed, value_of, values_of, by_case, by_body, with_fixpoint, unfolded, unfoldings, interpreted}
use Rattle.vf_meaning.proofs.Values.{tells_names}
use Rattle.vf_meaning.specs.Structural.{argument_at, IsOneOf, UsesSmaller, AllUseSmaller, CasesUseSmaller, BodyUsesSmaller, IsStructural, FixpointsMeetEquations}

-- ---- sizes of what names stand for
bound_small : (v : Valuation) (x : Name) (w : Value) (y : Name) (n : ℕ) → size w ≤ n → size (v y) ≤ n → size (bound v x w y) ≤ n
bound_small v x w y n h k = ⊎_elim (λ t. rw t h) (λ t. rw t k) (cases_Bool (same_name y x))

kept_small : (v : Valuation) (xs : List Name) (ws : Values) (y : Name) (n : ℕ) → sizes ws ≤ n → size (v y) ≤ n → size (all_bound v xs ws y) ≤ n
kept_small v [] ws y n h k = k
kept_small v (x ∷ xs) none y n h k = kept_small (bound v x no_value) xs none y n h (bound_small v x no_value y n (omega arith) k)
kept_small v (x ∷ xs) (more w ws) y n h k = kept_small (bound v x w) xs ws y n (omega (arith, h)) (bound_small v x w y n (omega (arith, h)) k)

first_small : (v : Valuation) (x : Name) (w : Value) (n : ℕ) → size w ≤ n → size (bound v x w x) ≤ n
first_small v x w n h = let e = (tells_names x x).1 refl in rw e h

named_small : (v : Valuation) (xs : List Name) (ws : Values) (y : Name) (n : ℕ) → sizes ws ≤ n → Contains xs y → size (all_bound v xs ws y) ≤ n
named_small v [] ws y n h c = absurd (nowhere c.0 c.1)
  where
    nowhere : (k : ℕ) → k < 0 → ⊥
    nowhere k l = omega arith
named_small v (x ∷ xs) none y n h (zero, l, e) = kept_small (bound v x no_value) xs none y n h (subst (λ z. size (bound v x no_value z) ≤ n) e (first_small v x no_value n (omega arith)))
named_small v (x ∷ xs) (more w ws) y n h (zero, l, e) = kept_small (bound v x w) xs ws y n (omega (arith, h)) (subst (λ z. size (bound v x w z) ≤ n) e (first_small v x w n (omega (arith, h))))
named_small v (x ∷ xs) none y n h (suc k, l, e) = named_small (bound v x no_value) xs none y n h (k, omega (arith, l), e)
named_small v (x ∷ xs) (more w ws) y n h (suc k, l, e) = named_small (bound v x w) xs ws y n (omega (arith, h)) (k, omega (arith, l), e)

-- ---- two values of the fixpoint that are one on what is smaller
module _ (i : Interpretation) (f : Identity) (F G : Values → Value) (k : ℕ) (xs : List Name) (v : Valuation)
    (same : (es : GhostExpressions) → IsOneOf xs (argument_at es k) → F (values_of (with_fixpoint i f G) v es) ≡ G (values_of (with_fixpoint i f G) v es)) where
  applied_same : (g : Identity) (es : GhostExpressions) → (IsTrue (same_identity g f) → IsOneOf xs (argument_at es k))
      → cond (same_identity g f) (F (values_of (with_fixpoint i f G) v es)) (i.fixpoint g (values_of (with_fixpoint i f G) v es))
      ≡ cond (same_identity g f) (G (values_of (with_fixpoint i f G) v es)) (i.fixpoint g (values_of (with_fixpoint i f G) v es))
  applied_same g es h = ⊎_elim (λ t. rw t (same es (h t))) (λ t. rw t refl) (cases_Bool (same_identity g f))

  mutual
    value_same : (e : GhostExpression) → UsesSmaller f k xs e → value_of (with_fixpoint i f F) v e ≡ value_of (with_fixpoint i f G) v e
    value_same (Variable y) h = refl
    value_same (Number z) h = refl
    value_same (Truth b) h = refl
    value_same (Fraction d) h = refl
    value_same Null h = refl
    value_same (Function g) h = refl
    value_same (Construct c es) h = ap (λ r. values.Constructed c r) (values_same es h)
    value_same (Apply g es) h = ap (λ r. cond (same_identity g f) (F r) (i.fixpoint g r)) (values_same es h.1) ∙ applied_same g es h.0
    value_same (PredicateValue p es) h = ap (λ r. values.Predicate p r) (values_same es h)
    value_same (Claims t e) h = ap (λ r. values.Truth (claimed i t r)) (value_same e h)
    value_same (Negate e) h = ap (λ r. values.Number (neg_ℤ (number_of r))) (value_same e h)
    value_same (Arithmetic op a b) h = ap₂ (λ r s. values.Number (computed op (number_of r) (number_of s))) (value_same a h.0) (value_same b h.1)
    value_same (PointerSum a b) h = ap₂ (λ r s. further r (number_of s)) (value_same a h.0) (value_same b h.1)
    value_same (Share a b) h = ap₂ shared (value_same a h.0) (value_same b h.1)
    value_same (Compare op a b) h = ap₂ (λ r s. values.Truth (compared op r s)) (value_same a h.0) (value_same b h.1)
    value_same (Not e) h = ap (λ r. values.Truth (not (is_true r))) (value_same e h)
    value_same (And a b) h = ap₂ (λ r s. values.Truth (is_true r && is_true s)) (value_same a h.0) (value_same b h.1)
    value_same (Or a b) h = ap₂ (λ r s. values.Truth (is_true r || is_true s)) (value_same a h.0) (value_same b h.1)
    value_same (Choose c a b) h =
        ap (λ r. cond (is_true r) (value_of (with_fixpoint i f F) v a) (value_of (with_fixpoint i f F) v b)) (value_same c h.0)
        ∙ ap₂ (λ r s. cond (is_true (value_of (with_fixpoint i f G) v c)) r s) (value_same a h.1) (value_same b h.2)

    values_same : (es : GhostExpressions) → AllUseSmaller f k xs es → values_of (with_fixpoint i f F) v es ≡ values_of (with_fixpoint i f G) v es
    values_same no_expressions h = refl
    values_same (and_expression e es) h = ap₂ more (value_same e h.0) (values_same es h.1)

argument_small : (i : Interpretation) (v : Valuation) (xs : List Name) (n : ℕ) → ((x : Name) → Contains xs x → size (v x) ≤ n)
    → (es : GhostExpressions) (k : ℕ) → IsOneOf xs (argument_at es k) → size (value_at (values_of i v es) k) ≤ n
argument_small i v xs n h no_expressions k o = absurd o
argument_small i v xs n h (and_expression e es) zero o = subst (λ z. size (value_of i v z) ≤ n) (sym o.1) (h o.0 o.2)
argument_small i v xs n h (and_expression e es) (suc k) o = argument_small i v xs n h es k o

module _ (i : Interpretation) (f : Identity) (F G : Values → Value) where
  cases_same : (k : ℕ) (v : Valuation) (d : Identity) (ws : Values) → ((us : Values) → size (value_at us k) ≤ sizes ws → F us ≡ G us)
      → (cs : List CaseTree) → CasesUseSmaller f k cs → by_case (with_fixpoint i f F) v cs (values.Constructed d ws) ≡ by_case (with_fixpoint i f G) v cs (values.Constructed d ws)
  cases_same k v d ws same [] h = refl
  cases_same k v d ws same (c ∷ cs) h =
      ap₂ (λ r s. cond (same_identity c.constructor d) r s)
      (value_same i f F G k c.names (all_bound v c.names ws)
      (λ es o. same _ (argument_small (with_fixpoint i f G) (all_bound v c.names ws) c.names (sizes ws) (λ x has. named_small v c.names ws x (sizes ws) (omega arith) has) es k o))
      c.result h.0)
      (cases_same k v d ws same cs h.1)

  no_case : (v : Valuation) (cs : List CaseTree) (w : Value) → size w ≡ 0 → by_case (with_fixpoint i f F) v cs w ≡ by_case (with_fixpoint i f G) v cs w
  no_case v [] w h = refl
  no_case v (c ∷ cs) (values.Constructed d ws) h = absurd (not_none (sizes ws) h)
    where
      not_none : (n : ℕ) → suc n ≡ 0 → ⊥
      not_none n e = omega arith
  no_case v (c ∷ cs) _ h = refl

  switch_same : (k : ℕ) (v : Valuation) (w : Value) → ((us : Values) → size (value_at us k) < size w → F us ≡ G us)
      → (cs : List CaseTree) → CasesUseSmaller f k cs → by_case (with_fixpoint i f F) v cs w ≡ by_case (with_fixpoint i f G) v cs w
  switch_same k v (values.Constructed d ws) same cs h = cases_same k v d ws (λ us l. same us (omega (arith, l))) cs h
  switch_same k v (values.Number z) same cs h = no_case v cs (values.Number z) refl
  switch_same k v (values.Truth b) same cs h = no_case v cs (values.Truth b) refl
  switch_same k v values.Null same cs h = no_case v cs values.Null refl
  switch_same k v (values.Pointer b o) same cs h = no_case v cs (values.Pointer b o) refl
  switch_same k v (values.Function g) same cs h = no_case v cs (values.Function g) refl
  switch_same k v (values.Predicate p us) same cs h = no_case v cs (values.Predicate p us) refl
  switch_same k v (values.Fraction d) same cs h = no_case v cs (values.Fraction d) refl

  body_same : (b : FixpointBody) (vs : Values) → BodyUsesSmaller f b → ((us : Values) → suc (unfoldings b us) ≤ unfoldings b vs → F us ≡ G us)
      → by_body (with_fixpoint i f F) b vs ≡ by_body (with_fixpoint i f G) b vs
  body_same (Returns e) vs h same = value_same i f F G 0 [] (of_arguments vs) (λ es o. absurd (no_name (argument_at es 0) o)) e h
    where
      nowhere : (k : ℕ) → k < 0 → ⊥
      nowhere k l = omega arith

      no_name : (o : Option GhostExpression) → IsOneOf [] o → ⊥
      no_name None h = h
      no_name (Some e) h = nowhere (h.2).0 (h.2).1
  body_same (Switches k cs) vs h same = switch_same k (of_arguments vs) (value_at vs k) (λ us l. same us (omega (arith, l))) cs h

some_unfolding : (b : FixpointBody) (vs : Values) → 1 ≤ unfoldings b vs
some_unfolding (Returns e) vs = omega arith
some_unfolding (Switches k cs) vs = omega arith

stable : (i : Interpretation) (f : FixpointTree) → IsStructural f → (n m : ℕ) (vs : Values) → unfoldings f.body vs ≤ n → unfoldings f.body vs ≤ m → unfolded i f n vs ≡ unfolded i f m vs
stable i f h zero m vs l k = absurd (too_few (unfoldings f.body vs) l (some_unfolding f.body vs))
  where
    too_few : (u : ℕ) → u ≤ 0 → 1 ≤ u → ⊥
    too_few u a b = omega arith
stable i f h (suc n) zero vs l k = absurd (too_few (unfoldings f.body vs) k (some_unfolding f.body vs))
  where
    too_few : (u : ℕ) → u ≤ 0 → 1 ≤ u → ⊥
    too_few u a b = omega arith
stable i f h (suc n) (suc m) vs l k =
    body_same i f.identity (unfolded i f n) (unfolded i f m) f.body vs h (λ us less. stable i f h n m us (omega (arith, less, l)) (omega (arith, less, k)))

pub fixpoints_meet_equations : FixpointsMeetEquations
fixpoints_meet_equations claims f fs vs h =
    let i = interpreted claims fs in
    let u = unfoldings f.body vs in
    ap (λ t. cond t (unfolded i f u vs) (i.fixpoint f.identity vs)) ((bytes_decides f.identity f.identity).1 refl)
    ∙ stable i f h u (suc u) vs (omega arith) (omega arith)
    ∙ body_same i f.identity (unfolded i f u) (λ us. unfolded i f (unfoldings f.body us) us) f.body vs h
    (λ us less. stable i f h u (unfoldings f.body us) us (omega (arith, less)) (omega arith))
