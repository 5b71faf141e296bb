-- More declarations take nothing away, and valuations that agree on the names of an assertion satisfy it alike.
use Rattle.std.proofs.Common.{◌≡◌, ℕ, zero, suc, cond, List, [], ◌∷◌, map, Option, Some, None, refl, sym, ap, ap₂, subst, ◌∙◌, inl, inr, arith}
use Rattle.std.specs.Prelude.{Contains, IsTrue}
use Rattle.std.specs.Bool.{MatchBool}
use Rattle.vf_tree.specs.Core.{Identity}
use Rattle.vf_model.specs.Values.{Dyadic, Value, Values, none, more, same_identity}
use Rattle.vf_model.specs.Values as values
use Rattle.vf_meaning.specs.Fractions.{product}
use Rattle.vf_meaning.specs.Ghost.{Name, same_name, Sort, ConstructorTree}
use Rattle.vf_meaning.specs.Valuations.{Valuation, no_value, is_true, fraction_in, bound, all_bound}
use Rattle.vf_meaning.specs.GhostValues.{Interpretation, value_of, interpreted}
use Rattle.vf_meaning.specs.Assertions.{ShareTree, Times, Taken, PatternTree, Is, Names, Wild, Head, BlockOf, Named, Family, Applied, Assertion, Pure, Empty, Both, Choose, Switch, Cell, Chunk, Branches, no_branches, branch, BodyName, BodyTree, PredicateTree, Environment}
use Rattle.vf_meaning.specs.Names.{UsesShare, UsesPattern, UsesPatterns, UsesHead, UsesIn, UsesBranch}
use Rattle.vf_meaning.specs.Environments.{Extends}
use Rattle.vf_meaning.specs.Sorts.{HasSort, HaveSorts, HaveFirst, ArgumentsAre, IsDatatypeOf, AreDeclaredWith, ParametersAre}
use Rattle.vf_meaning.specs.Parts.{Part}
use Rattle.vf_meaning.specs.Chunks.{Wanted, Just, wanted, product_if, times_names, fraction_of, IsFieldCell}
use Rattle.vf_meaning.specs.Satisfaction.{SatisfiesFamily, SatisfiesValue, SatisfiesHead, SatisfiesBy, SatisfiesBranch, SatisfiesIf, MeansAt}
use Rattle.vf_meaning.specs.SatisfactionLaws.{NamesAgree, DeclarationsGrow}
use Rattle.vf_meaning.proofs.Values.{agreed}
use Rattle.vf_meaning.proofs.Satisfaction.{match_map, satisfies_map}

-- ---- more declarations
module _ (e f : Environment) (grows : Extends e f) where
  arguments_grow : (o r : Option ConstructorTree) → ((k : ConstructorTree) → o ≡ Some k → r ≡ Some k) → (s : Sort) (sorts : List Sort) → ArgumentsAre o s sorts → ArgumentsAre r s sorts
  arguments_grow None r g s sorts h = absurd h
  arguments_grow (Some k) r g s sorts h = subst (λ x. ArgumentsAre x s sorts) (sym (g k refl)) h

  datatype_grows : (o r : Option ConstructorTree) → ((k : ConstructorTree) → o ≡ Some k → r ≡ Some k) → (s : Sort) → IsDatatypeOf o s → IsDatatypeOf r s
  datatype_grows None r g s h = absurd h
  datatype_grows (Some k) r g s h = subst (λ x. IsDatatypeOf x s) (sym (g k refl)) h

  declared_grow : (o r : Option PredicateTree) → ((k : PredicateTree) → o ≡ Some k → r ≡ Some k) → (sorts : List Sort) → AreDeclaredWith o sorts → AreDeclaredWith r sorts
  declared_grow None r g sorts h = absurd h
  declared_grow (Some k) r g sorts h = subst (λ x. AreDeclaredWith x sorts) (sym (g k refl)) h

  parameters_grow : (p : Identity) (sorts : List Sort) → ParametersAre p (e.predicates p) sorts → ParametersAre p (f.predicates p) sorts
  parameters_grow p sorts (inl nameless) = inl nameless
  parameters_grow p sorts (inr h) = inr (declared_grow (e.predicates p) (f.predicates p) (grows.predicates p) sorts h)

  mutual
    sort_grows : (v : Value) (s : Sort) → HasSort e v s → HasSort f v s
    sort_grows (values.Number z) s h = h
    sort_grows (values.Truth b) s h = h
    sort_grows values.Null s h = h
    sort_grows (values.Pointer b o) s h = h
    sort_grows (values.Function g) s h = h
    sort_grows (values.Constructed c vs) s h = (
      datatype_grows (e.constructors c) (f.constructors c) (grows.constructors c) s h.0,
      ((h.1).0, arguments_grow (e.constructors c) (f.constructors c) (grows.constructors c) s (h.1).0 (h.1).1, sorts_grow vs (h.1).0 (h.1).2),
    )
    sort_grows (values.Predicate p vs) s h = (h.0, parameters_grow p h.0 h.1, h.2, first_grow vs h.0 h.3)
    sort_grows (values.Fraction d) s h = h

    sorts_grow : (vs : Values) (sorts : List Sort) → HaveSorts e vs sorts → HaveSorts f vs sorts
    sorts_grow none [] h = h
    sorts_grow (more v vs) (s ∷ sorts) h = (sort_grows v s h.0, sorts_grow vs sorts h.1)
    sorts_grow none (s ∷ sorts) h = absurd h
    sorts_grow (more v vs) [] h = absurd h

    first_grow : (vs : Values) (sorts : List Sort) → HaveFirst e vs sorts → HaveFirst f vs sorts
    first_grow none sorts h = h
    first_grow (more v vs) (s ∷ sorts) h = (sort_grows v s h.0, first_grow vs sorts h.1)
    first_grow (more v vs) [] h = absurd h

  module _ (same : interpreted e.claims e.fixpoints ≡ interpreted f.claims f.fixpoints) where
    if_grows : (M N : Dyadic → BodyName → Values → Part → Type 0) → ((x : Dyadic) (b : BodyName) (vs : Values) (p : Part) → M x b vs p → N x b vs p)
        → (s : Dyadic) (o r : Option BodyTree) → ((k : BodyTree) → o ≡ Some k → r ≡ Some k) → (vs : Values) (p : Part) → SatisfiesIf e M s o vs p → SatisfiesIf f N s r vs p
    if_grows M N each s None r g vs p h = absurd h
    if_grows M N each s (Some b) r g vs p h =
        subst (λ x. SatisfiesIf f N s x vs p) (sym (g b refl)) (record {
          under = h.under;
          sorts = λ k t known. sort_grows _ t (h.sorts k t known);
          number = h.number;
          begins = h.begins;
          satisfies = subst (λ i. SatisfiesBy N i s b.assertion h.under p) same (satisfies_map M N each (interpreted e.claims e.fixpoints) s b.assertion h.under p h.satisfies);
        })

    means_grow : (n : ℕ) (s : Dyadic) (b : BodyName) (vs : Values) (p : Part) → MeansAt e n s b vs p → MeansAt f n s b vs p
    means_grow zero s b vs p h = absurd h
    means_grow (suc n) s b vs p h = if_grows (MeansAt e n) (MeansAt f n) (means_grow n) s (e.bodies b) (f.bodies b) (grows.bodies b) vs p h

pub declarations_grow : DeclarationsGrow
declarations_grow e f n s a v p grows claims fixpoints h =
    let same = ap₂ interpreted claims fixpoints in
    subst (λ i. SatisfiesBy (MeansAt f n) i s a v p) same
    (satisfies_map (MeansAt e n) (MeansAt f n) (means_grow e f grows same n) (interpreted e.claims e.fixpoints) s a v p h)

-- ---- valuations that agree
bound_agrees : (v w : Valuation) (x : Name) (u : Value) (y : Name) → v y ≡ w y → bound v x u y ≡ bound w x u y
bound_agrees v w x u y h = ap (λ z. cond (same_name y x) u z) h

all_bound_agrees : (v w : Valuation) (xs : List Name) (us : Values) (y : Name) → v y ≡ w y → all_bound v xs us y ≡ all_bound w xs us y
all_bound_agrees v w [] us y h = h
all_bound_agrees v w (x ∷ xs) none y h = all_bound_agrees (bound v x no_value) (bound w x no_value) xs none y (bound_agrees v w x no_value y h)
all_bound_agrees v w (x ∷ xs) (more u us) y h = all_bound_agrees (bound v x u) (bound w x u) xs us y (bound_agrees v w x u y h)

times_agree : (v w : Valuation) (x : Dyadic) (ys : List Name) → ((y : Name) → Contains ys y → v y ≡ w y) → times_names v x ys ≡ times_names w x ys
times_agree v w x [] h = refl
times_agree v w x (y ∷ ys) h = ap₂ product_if (times_agree v w x ys (λ z u. h z (suc u.0, omega (arith, u.1), u.2))) (ap fraction_in (h y (0, omega arith, refl)))

share_agrees : (v w : Valuation) (share : ShareTree) → ((y : Name) → UsesShare share y → v y ≡ w y) → fraction_of v share ≡ fraction_of w share
share_agrees v w (Times x ys) h = times_agree v w x ys h
share_agrees v w (Taken y) h = ap fraction_in (h y refl)

module _ (M : Dyadic → BodyName → Values → Part → Type 0) (i : Interpretation) (s : Dyadic) where
  pattern_agrees : (v w : Valuation) (x : PatternTree) → ((y : Name) → UsesPattern x y → v y ≡ w y) → wanted i v x ≡ wanted i w x
  pattern_agrees v w (Is e) h = ap Just (agreed i v w e h)
  pattern_agrees v w (Names y) h = ap Just (h y refl)
  pattern_agrees v w Wild h = refl

  patterns_agree : (v w : Valuation) (xs : List PatternTree) → ((y : Name) → UsesPatterns xs y → v y ≡ w y) → map (wanted i v) xs ≡ map (wanted i w) xs
  patterns_agree v w [] h = refl
  patterns_agree v w (x ∷ xs) h = ap₂ (λ a b. a ∷ b) (pattern_agrees v w x (λ y u. h y (inl u))) (patterns_agree v w xs (λ y u. h y (inr u)))

  head_agrees : (x : Dyadic) (v w : Valuation) (head : Head) (ws : List Wanted) (p : Part) → ((y : Name) → UsesHead head y → v y ≡ w y) → SatisfiesHead M i s x head v ws p → SatisfiesHead M i s x head w ws p
  head_agrees x v w (BlockOf g) ws p h r = r
  head_agrees x v w (Named q) ws p h r = r
  head_agrees x v w (Family q e) ws p h r = subst (λ z. SatisfiesFamily M x q z ws p) (agreed i v w e h) r
  head_agrees x v w (Applied e) ws p h r = subst (λ z. SatisfiesValue M x z ws p) (agreed i v w e h) r

  mutual
    satisfies_agrees : (a : Assertion) (v w : Valuation) (p : Part) → ((y : Name) → UsesIn a y → v y ≡ w y) → SatisfiesBy M i s a v p → SatisfiesBy M i s a w p
    satisfies_agrees (Pure e) v w p h r = (r.0, subst (λ z. IsTrue (is_true z)) (agreed i v w e h) r.1)
    satisfies_agrees Empty v w p h r = r
    satisfies_agrees (Both a b) v w p h r = (r.0, r.1, r.2, satisfies_agrees a v w r.0 (λ y u. h y (inl u)) r.3, satisfies_agrees b v w r.1 (λ y u. h y (inr u)) r.4)
    satisfies_agrees (Choose c a b) v w p h r =
        subst (λ z. MatchBool (is_true z) (SatisfiesBy M i s a w p) (SatisfiesBy M i s b w p)) (agreed i v w c (λ y u. h y (inl u)))
        (match_map (is_true (value_of i v c)) (satisfies_agrees a v w p (λ y u. h y (inr (inl u)))) (satisfies_agrees b v w p (λ y u. h y (inr (inr u)))) r)
    satisfies_agrees (Switch e branches) v w p h r =
        subst (λ z. SatisfiesBranch M i s branches z w p) (agreed i v w e (λ y u. h y (inl u))) (branch_agrees branches (value_of i v e) v w p (λ y u. h y (inr u)) r)
    satisfies_agrees (Cell share e f x) v w p h r = (
      r.0,
      record { is = sym (share_agrees v w share (λ y u. h y (inl u))) ∙ (r.1).is; positive = (r.1).positive },
      subst (λ z. IsFieldCell (product s r.0) z f (wanted i w x) p) (agreed i v w e (λ y u. h y (inr (inl u))))
          (subst (λ z. IsFieldCell (product s r.0) (value_of i v e) f z p) (pattern_agrees v w x (λ y u. h y (inr (inr u)))) r.2),
    )
    satisfies_agrees (Chunk share head xs) v w p h r = (
      r.0,
      record { is = sym (share_agrees v w share (λ y u. h y (inl u))) ∙ (r.1).is; positive = (r.1).positive },
      head_agrees (product s r.0) v w head (map (wanted i w) xs) p (λ y u. h y (inr (inl u)))
          (subst (λ z. SatisfiesHead M i s (product s r.0) head v z p) (patterns_agree v w xs (λ y u. h y (inr (inr u)))) r.2),
    )

    branch_agrees : (bs : Branches) (u : Value) (v w : Valuation) (p : Part) → ((y : Name) → UsesBranch bs y → v y ≡ w y) → SatisfiesBranch M i s bs u v p → SatisfiesBranch M i s bs u w p
    branch_agrees no_branches u v w p h r = absurd r
    branch_agrees (branch c xs a rest) (values.Constructed d us) v w p h r =
        match_map (same_identity c d)
        (satisfies_agrees a (all_bound v xs us) (all_bound w xs us) p (λ y n. all_bound_agrees v w xs us y (h y (inl n))))
        (branch_agrees rest (values.Constructed d us) v w p (λ y n. h y (inr n))) r
    branch_agrees (branch c xs a rest) (values.Number z) v w p h r = absurd r
    branch_agrees (branch c xs a rest) (values.Truth b) v w p h r = absurd r
    branch_agrees (branch c xs a rest) values.Null v w p h r = absurd r
    branch_agrees (branch c xs a rest) (values.Pointer b o) v w p h r = absurd r
    branch_agrees (branch c xs a rest) (values.Function g) v w p h r = absurd r
    branch_agrees (branch c xs a rest) (values.Predicate q vs) v w p h r = absurd r
    branch_agrees (branch c xs a rest) (values.Fraction d) v w p h r = absurd r

pub names_agree : NamesAgree
names_agree e n s a v w p h r = satisfies_agrees (MeansAt e n) (interpreted e.claims e.fixpoints) s a v w p h r
