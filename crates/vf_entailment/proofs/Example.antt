-- The example of lists, worked.
use Rattle.std.proofs.Common.{◌≡◌, ◌≢◌, ◌⊎◌, inl, inr, ℕ, zero, suc, true, false, List, [], ◌∷◌, Some, refl, sym, subst, ap, ◌∙◌, arith}
use Rattle.std.specs.Prelude.{◌<◌, ◌≤ℤ◌, pos, neg_ℤ, ◌+ℤ◌, Contains, IsTrue}
use Rattle.std.proofs.lemmas.Int.{ints}
use Rattle.vf_tree.specs.Core.{Identity}
use Rattle.vf_model.specs.Values.{Values, same_identity, none, more}
use Rattle.vf_model.specs.Values as values
use Rattle.vf_model.proofs.Equality.{identities_told}
use Rattle.vf_meaning.specs.Ghost.{Integers, Truths, Anything, Numbered, ConstructorTree, CaseTree, FixpointTree}
use Rattle.vf_meaning.specs.Structural.{AreOrdered, Applies, BodyApplies, IsStructural}
use Rattle.vf_meaning.specs.Assertions.{Environment}
use Rattle.vf_meaning.specs.Environments.{Extends, SomeUnit, IsLinked}
use Rattle.vf_closure.specs.Terms.{Integer, Other, plus, itself}
use Rattle.vf_closure.specs.Literals.{Literal, Equal, NotDifference}
use Rattle.vf_closure.specs.Closure.{Unfoldings, IsRefuted, Same, Arises, Bound, asked, given, same_back, unfolds_case, in_case, chain, weaker, level, sum_up, sum_down, denied_difference}
use Rattle.vf_definitions.specs.Unfolded.{unfoldings_of}
use Rattle.vf_definitions.proofs.Soundness.{definitions_entail}
use Rattle.vf_asking.specs.Right.{IsRight}
use Rattle.vf_entailment.specs.Meant.{meant}
use Rattle.vf_entailment.specs.Trees.{IsAmong, AreAmong}
use Rattle.vf_entailment.specs.Example.{symbol, one_more, length_of, append_of, cons, length_body, append_body, pick_body, doubled_body, list_definitions, lists, length_tree, append_tree, pick_tree, doubled_tree, with_fixpoints, list_unit, other_unit, list_units, xs, h, t, list_question, ListsEntail, eq_body, eq_definition, eq_definitions, eq_viewed, eq_plain, IntegersAreWhole}
use Rattle.vf_entailment.proofs.Trees.{definitions_met}
use Rattle.vf_entailment.proofs.Entailing.{linked_entail}

-- ---- order
apart : (c d : Identity) → same_identity c d ≡ false → c ≢ d
apart c d e same = let told = (identities_told c d).1 same in cc

never : {A : Type 0} → false ≡ true → A
never e = absurd cc

no_third : {A : Type 0} (k : ℕ) → suc (suc k) < 2 → A
no_third k low = absurd (omega (arith, low))

no_sixth : {A : Type 0} (k : ℕ) → suc (suc (suc (suc (suc k)))) < 5 → A
no_sixth k low = absurd (omega (arith, low))

no_second : {A : Type 0} (k : ℕ) → suc k < 1 → A
no_second k low = absurd (omega (arith, low))

-- a tree of another name than one that stands in a list
other_name : (f : FixpointTree) (c : Identity) → same_identity f.identity c ≡ false → (g : FixpointTree) → f ≡ g → g.identity ≢ c
other_name f c e g is same = apart f.identity c e (ap (λ (x : FixpointTree). x.identity) is ∙ same)

-- a fixpoint uses one that stands behind it
abbrev Uses : FixpointTree → List FixpointTree → Identity → Type 0
Uses f fs g = (g ≡ f.identity) ⊎ ((k : FixpointTree) × Contains fs k × (k.identity ≡ g))

length_uses : (g : Identity) → BodyApplies length_tree.body g → Uses length_tree [] g
length_uses g (c, (zero, low, is), a) = absurd (subst (λ (z : CaseTree). Applies z.result g) (sym is) a)
length_uses g (c, (suc zero, low, is), a) = by (subst (λ (z : CaseTree). Applies z.result g) (sym is) a)
  where
    by : Applies (meant (one_more (length_of (symbol Other 2)))) g → Uses length_tree [] g
    by (inl (inl (inl e))) = inl (sym e)
    by (inl (inl (inr (inl n)))) = absurd n
    by (inl (inl (inr (inr n)))) = absurd n
    by (inl (inr n)) = absurd n
    by (inr n) = absurd n
length_uses g (c, (suc (suc k), low, is), a) = no_third k low

append_uses : (g : Identity) → BodyApplies append_tree.body g → Uses append_tree (length_tree ∷ []) g
append_uses g (c, (zero, low, is), a) = absurd (subst (λ (z : CaseTree). Applies z.result g) (sym is) a)
append_uses g (c, (suc zero, low, is), a) = by (subst (λ (z : CaseTree). Applies z.result g) (sym is) a)
  where
    by : Applies (meant (cons (symbol Integer 2) (append_of (symbol Other 3) (symbol Other 1)))) g → Uses append_tree (length_tree ∷ []) g
    by (inl (inl n)) = absurd n
    by (inl (inr n)) = absurd n
    by (inr (inl (inl e))) = inl (sym e)
    by (inr (inl (inr (inl n)))) = absurd n
    by (inr (inl (inr (inr (inl n))))) = absurd n
    by (inr (inl (inr (inr (inr n))))) = absurd n
    by (inr (inr n)) = absurd n
append_uses g (c, (suc (suc k), low, is), a) = no_third k low

pick_uses : (g : Identity) → BodyApplies pick_tree.body g → Uses pick_tree (append_tree ∷ length_tree ∷ []) g
pick_uses g (c, (zero, low, is), a) = absurd (subst (λ (z : CaseTree). Applies z.result g) (sym is) a)
pick_uses g (c, (suc zero, low, is), a) = absurd (subst (λ (z : CaseTree). Applies z.result g) (sym is) a)
pick_uses g (c, (suc (suc k), low, is), a) = no_third k low

doubled_uses : (g : Identity) → BodyApplies doubled_tree.body g → Uses doubled_tree (pick_tree ∷ append_tree ∷ length_tree ∷ []) g
doubled_uses g (inl (inl e)) = inr (length_tree, (2, omega arith, refl), e)
doubled_uses g (inl (inr (inl (inl e)))) = inr (append_tree, (1, omega arith, refl), e)
doubled_uses g (inl (inr (inl (inr (inl n))))) = absurd n
doubled_uses g (inl (inr (inl (inr (inr (inl n)))))) = absurd n
doubled_uses g (inl (inr (inl (inr (inr (inr n)))))) = absurd n
doubled_uses g (inl (inr (inr n))) = absurd n
doubled_uses g (inr n) = absurd n

-- no other has the name of a fixpoint
abbrev IsOnce : FixpointTree → List FixpointTree → Type 0
IsOnce f fs = (k : FixpointTree) → Contains fs k → k.identity ≢ f.identity

once_none : (f : FixpointTree) → IsOnce f []
once_none f k (n, low, is) = absurd (omega (arith, low))

once_more : (f k : FixpointTree) (fs : List FixpointTree) → same_identity k.identity f.identity ≡ false → IsOnce f fs → IsOnce f (k ∷ fs)
once_more f k fs e rest l (zero, low, is) = other_name k f.identity e l is
once_more f k fs e rest l (suc n, low, is) = rest l (n, omega (arith, low), is)

length_structural : IsStructural length_tree
length_structural = (tt, ((((λ q. (Numbered 2, refl, (1, omega arith, refl)), (tt, tt)), tt), tt), tt))

append_structural : IsStructural append_tree
append_structural = (tt, (((tt, tt), ((λ q. (Numbered 3, refl, (1, omega arith, refl)), (tt, (tt, tt))), tt)), tt))

pick_structural : IsStructural pick_tree
pick_structural = (tt, (tt, tt))

doubled_structural : IsStructural doubled_tree
doubled_structural = ((λ q. never q, ((λ q. never q, (tt, (tt, tt))), tt)), tt)

length_ordered : AreOrdered (length_tree ∷ [])
length_ordered = (length_structural, length_uses, once_none length_tree, tt)

append_ordered : AreOrdered (append_tree ∷ length_tree ∷ [])
append_ordered = (append_structural, append_uses, once_more append_tree length_tree [] refl (once_none append_tree), length_ordered)

pick_ordered : AreOrdered (pick_tree ∷ append_tree ∷ length_tree ∷ [])
pick_ordered = (pick_structural, pick_uses, once_more pick_tree append_tree (length_tree ∷ []) refl (once_more pick_tree length_tree [] refl (once_none pick_tree)), append_ordered)

lists_ordered : AreOrdered list_unit.fixpoints
lists_ordered = (
  doubled_structural,
  doubled_uses,
  once_more doubled_tree pick_tree (append_tree ∷ length_tree ∷ []) refl (once_more doubled_tree append_tree (length_tree ∷ []) refl (once_more doubled_tree length_tree [] refl (once_none doubled_tree))),
  pick_ordered,
)

-- ---- the definitions stand in the environment
lists_among : AreAmong list_unit.fixpoints list_definitions
lists_among f (zero, low, is) = subst (IsAmong list_unit.fixpoints) is (record { sorts = lists ∷ []; result = Integers; body = length_body; number = refl; is = refl; there = (3, omega arith, refl) })
lists_among f (suc zero, low, is) = subst (IsAmong list_unit.fixpoints) is (record { sorts = lists ∷ lists ∷ []; result = lists; body = append_body; number = refl; is = refl; there = (2, omega arith, refl) })
lists_among f (suc (suc zero), low, is) = subst (IsAmong list_unit.fixpoints) is (record { sorts = lists ∷ Anything ∷ Anything ∷ []; result = Anything; body = pick_body; number = refl; is = refl; there = (1, omega arith, refl) })
lists_among f (suc (suc (suc zero)), low, is) = subst (IsAmong list_unit.fixpoints) is (record { sorts = lists ∷ Anything ∷ Anything ∷ []; result = Anything; body = pick_body; number = refl; is = refl; there = (1, omega arith, refl) })
lists_among f (suc (suc (suc (suc zero))), low, is) = subst (IsAmong list_unit.fixpoints) is (record { sorts = lists ∷ []; result = Integers; body = doubled_body; number = refl; is = refl; there = (0, omega arith, refl) })
lists_among f (suc (suc (suc (suc (suc k)))), low, is) = no_sixth k low

-- ---- linking
list_extends : Extends list_unit list_unit
list_extends = record {
  constructors = λ c k e. e;
  fixpoints = λ k there. there;
  claims = λ g c e. e;
  predicates = λ q k e. e;
  bodies = λ b k e. e;
  functions = λ g k e. e;
  prototypes = λ g k e. e;
  types = λ c k e. e;
  called = λ g n c e. e;
  leaks = λ text e. e;
  calls = λ text g e. e;
}

other_extends : Extends other_unit list_unit
other_extends = record {
  constructors = λ c k e. e;
  fixpoints = λ k there. (suc (suc there.0), omega (arith, there.1), there.2);
  claims = λ g c e. e;
  predicates = λ q k e. e;
  bodies = λ b k e. e;
  functions = λ g k e. e;
  prototypes = λ g k e. e;
  types = λ c k e. e;
  called = λ g n c e. e;
  leaks = λ text e. e;
  calls = λ text g e. e;
}

each_extends : (u : Environment) → Contains list_units u → Extends u list_unit
each_extends u (zero, low, is) = subst (λ (x : Environment). Extends x list_unit) is list_extends
each_extends u (suc zero, low, is) = subst (λ (x : Environment). Extends x list_unit) is other_extends
each_extends u (suc (suc k), low, is) = no_third k low

closed : (u : Environment) → Contains list_units u → (c d : Identity) (k j : ConstructorTree) → list_unit.constructors c ≡ Some k → u.constructors d ≡ Some j → k.datatype ≡ j.datatype → u.constructors c ≡ Some k
closed u (zero, low, is) c d k j known of same = subst (λ (x : Environment). x.constructors c ≡ Some k) is known
closed u (suc zero, low, is) c d k j known of same = subst (λ (x : Environment). x.constructors c ≡ Some k) is known
closed u (suc (suc n), low, is) c d k j known of same = no_third n low

the_first : (P : Environment → Type 0) → P list_unit → SomeUnit list_units P
the_first P e = (list_unit, (0, omega arith, refl), e)

lists_linked : IsLinked list_units list_unit
lists_linked = record {
  all = each_extends;
  ordered = lists_ordered;
  closed = closed;
  constructors = λ c k e. the_first (λ u. u.constructors c ≡ Some k) e;
  fixpoints = λ k e. the_first (λ u. Contains u.fixpoints k) e;
  claims = λ g c e. the_first (λ u. IsTrue (u.claims g c)) e;
  predicates = λ q k e. the_first (λ u. u.predicates q ≡ Some k) e;
  bodies = λ b k e. the_first (λ u. u.bodies b ≡ Some k) e;
  functions = λ g k e. the_first (λ u. u.functions g ≡ Some k) e;
  prototypes = λ g k e. the_first (λ u. u.prototypes g ≡ Some k) e;
  types = λ c k e. the_first (λ u. u.types c ≡ Some k) e;
  called = λ g n c e. the_first (λ u. u.called g n ≡ Some c) e;
  leaks = λ text e. the_first (λ u. IsTrue (u.leaks text)) e;
  calls = λ text g e. the_first (λ u. IsTrue (u.calls text g)) e;
}

-- ---- the question
abbrev made : Unfoldings
made = unfoldings_of list_definitions

abbrev facts : List Literal
facts = Equal xs (cons h t) ∷ NotDifference (length_of xs) (length_of t) (pos 1) ∷ []

application_arises : Arises made facts 0 (length_of xs)
application_arises = asked {l = NotDifference (length_of xs) (length_of t) (pos 1)} (1, omega arith, refl) (0, omega arith, refl) itself

constructor_arises : Arises made facts 0 (cons h t)
constructor_arises = asked {l = Equal xs (cons h t)} (0, omega arith, refl) (1, omega arith, refl) itself

argument_is : Same made facts xs (cons h t)
argument_is = given (0, omega arith, refl)

switches : made.switched (length_of xs) ≡ Some xs
switches = refl

unfolds_to : made.case (length_of xs) (cons h t) ≡ Some (plus (length_of t) (pos 1))
unfolds_to = refl

length_is : Same made facts (length_of xs) (plus (length_of t) (pos 1))
length_is = unfolds_case {d = 0} (omega arith) application_arises constructor_arises switches argument_is unfolds_to

sum_arises : Arises made facts 1 (plus (length_of t) (pos 1))
sum_arises = in_case {d = 0} (omega arith) application_arises constructor_arises switches argument_is unfolds_to itself

at_most_one : Bound made facts (length_of xs) (length_of t) (pos 1)
at_most_one = weaker (let l : (pos 0 +ℤ pos 1) ≤ℤ pos 1 = omega (arith, ints) in l) (chain (level refl refl length_is) (sum_up sum_arises))

at_least_one : Bound made facts (length_of t) (length_of xs) (neg_ℤ (pos 1))
at_least_one = weaker (let l : (neg_ℤ (pos 1) +ℤ pos 0) ≤ℤ neg_ℤ (pos 1) = omega (arith, ints) in l) (chain (sum_down sum_arises) (level refl refl (same_back length_is)))

refuted : IsRefuted made list_question.path list_question.goal
refuted = denied_difference {x = length_of xs} {y = length_of t} {c = pos 1} (1, omega arith, refl) at_most_one at_least_one

question_right : IsRight list_question
question_right = record {
  proved = λ e i m. definitions_entail list_definitions list_question.path list_question.goal refuted i m;
  refuted = λ e. refuted;
  unknown = λ e r. absurd cc;
}

pub lists_entail : ListsEntail
lists_entail = record {
  ordered = lists_ordered;
  among = lists_among;
  linked = lists_linked;
  right = question_right;
  entails = linked_entail list_units list_unit list_unit list_question lists_linked (0, omega arith, refl) lists_among question_right refl;
  computes = λ v. refl;
}

-- ---- integers as whole numbers
eq_among : AreAmong (eq_viewed ∷ []) eq_definitions
eq_among f (zero, low, is) = subst (IsAmong (eq_viewed ∷ [])) is (record { sorts = Integers ∷ Integers ∷ []; result = Truths; body = eq_body; number = refl; is = refl; there = (0, omega arith, refl) })
eq_among f (suc k, low, is) = no_second k low

viewed_uses : (g : Identity) → BodyApplies eq_viewed.body g → Uses eq_viewed [] g
viewed_uses g (inl (inl n)) = absurd n
viewed_uses g (inl (inr n)) = absurd n
viewed_uses g (inr (inl n)) = absurd n
viewed_uses g (inr (inr n)) = absurd n

plain_uses : (g : Identity) → BodyApplies eq_plain.body g → Uses eq_plain [] g
plain_uses g (inl n) = absurd n
plain_uses g (inr n) = absurd n

-- `eq` at a truth value and 0
abbrev odd_arguments : Values
odd_arguments = more (values.Truth true) (more (values.Number (pos 0)) none)

plain_differs : values.Truth false ≡ values.Truth true → ⊥
plain_differs e = cc

pub integers_whole : IntegersAreWhole
integers_whole = record {
  met = definitions_met (with_fixpoints (eq_viewed ∷ [])) eq_definitions (((tt, tt), (tt, tt)), viewed_uses, once_none eq_viewed, tt) eq_among;
  plain_ordered = ((tt, tt), plain_uses, once_none eq_plain, tt);
  plain_is_not_met = λ m. plain_differs (m eq_definition (0, omega arith, refl) odd_arguments refl);
}
