-- An expression that has a term gives the term's value.
use Rattle.std.proofs.Common.{◌≡◌, ℕ, zero, suc, ℤ, pos, negsuc, neg_ℤ, Bool, true, false, cond, not, ◌&&◌, ◌||◌, List, [], ◌∷◌, map, slice_get, Option, Some, None, refl, sym, ap, ap₂, subst, ◌∙◌, ◌⊎◌, ⊎_elim}
use Rattle.std.specs.Prelude.{int_le}
use Rattle.std.specs.Ordering.{int_eq}
use Rattle.std.proofs.lemmas.Bool.{false≢true, and_from}
use Rattle.vf_base.specs.declared.place.Place.{Place}
use Rattle.vf_base.specs.declared.int_type.IntType.{IntType}
use Rattle.vf_tree.specs.Core.{ArithmeticOperator, Add, Subtract, Multiply, Divide, Remainder, ExpressionTree, Read, LessEqual, NotEqual}
use Rattle.vf_tree.specs.Core as core
use Rattle.vf_model.specs.declared.words.FaultKind.TheVariants as faults
use Rattle.vf_model.specs.Integers.{least, greatest, in_range, arithmetic, bad_divisor}
use Rattle.vf_model.specs.Values.{Value, number_of}
use Rattle.vf_model.specs.Values as values
use Rattle.vf_model.specs.Evaluation.{Evaluated, Gives, Fails, and_then, local_read, ranged, evaluate, evaluate_all}
use Rattle.vf_model.specs.Evaluation as evaluation
use Rattle.vf_meaning.specs.Ghost.{ConstructorTree, Sort, Integers, Truths, Pointers, Number, Truth, Null, Function, Negate, Arithmetic, Compare}
use Rattle.vf_meaning.specs.Ghost as ghost
use Rattle.vf_meaning.specs.Valuations.{Valuation}
use Rattle.vf_meaning.specs.GhostValues.{computed, compared}
use Rattle.vf_meaning.specs.Assertions.{Environment}
use Rattle.vf_meaning.specs.Sorts.{IsDatatypeOf, HasSort}
use Rattle.vf_rules.specs.Terms.{Term}
use Rattle.vf_rules.specs.States.{Fact, value_in, Meets, LocalsMean}
use Rattle.vf_rules.specs.Evaluate.{IsInRange, IsDivisor, MayApply, Evaluates, EvaluatesAll}

none_some : {A B : Type 0} {x : A} → None ≡ Some x → B
none_some e = cc

some_same : {A : Type 0} {x y : A} → Some x ≡ Some y → x ≡ y
some_same e = cc

-- ---- locals
pub local_at : (e : Environment) (v : Valuation) (ts : List (Option Term)) (locals : List (Option Value)) (x : ℕ) (t : Term) → LocalsMean e v ts locals → slice_get ts x ≡ Some (Some t)
    → slice_get locals x ≡ Some (Some (value_in e v t))
local_at e v [] locals x t m h = none_some h
local_at e v (o ∷ ts) [] x t m h = absurd (missing e v o ts m)
  where
    missing : (e : Environment) (v : Valuation) (o : Option Term) (ts : List (Option Term)) → LocalsMean e v (o ∷ ts) [] → ⊥
    missing e v None ts m = m
    missing e v (Some t) ts m = m
local_at e v (None ∷ ts) (held ∷ locals) zero t m h = none_some (some_same h)
local_at e v (Some u ∷ ts) (held ∷ locals) zero t m h = ap Some (m.0 ∙ ap (λ z. Some (value_in e v z)) (some_same (some_same h)))
local_at e v (None ∷ ts) (held ∷ locals) (suc x) t m h = local_at e v ts locals x t m h
local_at e v (Some u ∷ ts) (held ∷ locals) (suc x) t m h = local_at e v ts locals x t m.1 h

-- ---- numbers
sort_clash : {A : Type 0} (s : Sort) → (s ≡ Integers → ⊥) → (Integers ≡ s) ⊎ (Integers ≡ ghost.Anything) → A
sort_clash s h k = ⊎_elim (λ e. absurd (h (sym e))) (λ e. clash e) k
  where
    clash : {A : Type 0} → Integers ≡ ghost.Anything → A
    clash e = cc

pub number_sort : (e : Environment) (w : Value) → HasSort e w Integers → (z : ℤ) × (w ≡ values.Number z)
number_sort e (values.Number z) h = (z, refl)
number_sort e (values.Truth b) h = sort_clash Truths (λ e. clash e) h
  where
    clash : Truths ≡ Integers → ⊥
    clash e = cc
number_sort e values.Null h = sort_clash Pointers (λ e. clash e) h
  where
    clash : Pointers ≡ Integers → ⊥
    clash e = cc
number_sort e (values.Pointer b o) h = sort_clash Pointers (λ e. clash e) h
  where
    clash : Pointers ≡ Integers → ⊥
    clash e = cc
number_sort e (values.Function g) h = sort_clash Pointers (λ e. clash e) h
  where
    clash : Pointers ≡ Integers → ⊥
    clash e = cc
number_sort e (values.Constructed c vs) h = absurd (none (e.constructors c) h.0)
  where
    none : (o : Option ConstructorTree) → IsDatatypeOf o Integers → ⊥
    none None h = h
    none (Some k) h = h
number_sort e (values.Predicate q vs) h = absurd h.2
number_sort e (values.Fraction d) h = sort_clash ghost.Fractions (λ e. clash e) h.0
  where
    clash : ghost.Fractions ≡ Integers → ⊥
    clash e = cc

-- ---- ranges
in_range_is : (e : Environment) (v : Valuation) (path : List Fact) (ty : IntType) (t : Term) (z : ℤ) → IsInRange e path ty t → Meets e v path → value_in e v t ≡ values.Number z → in_range ty z ≡ true
in_range_is e v path ty t z h m is =
    and_from (int_le (least ty) z) (int_le z (greatest ty))
    (subst (λ w. compared LessEqual (values.Number (least ty)) w ≡ true) is ((h.0).by v m)) (subst (λ w. compared LessEqual w (values.Number (greatest ty)) ≡ true) is ((h.1).by v m))

ranged_gives : (ty : IntType) (place : Place) (z : ℤ) → in_range ty z ≡ true → ranged ty place z ≡ Gives (values.Number z)
ranged_gives ty place z h = ap (λ b. cond b (Gives (values.Number z)) (Fails faults.Range place)) h

-- ---- divisors
differs : (e : Environment) (v : Valuation) (t : Term) (z k : ℤ) → value_in e v t ≡ values.Number z → compared NotEqual (value_in e v t) (values.Number k) ≡ true → int_eq z k ≡ false
differs e v t z k is h = not_true (int_eq z k) (subst (λ w. compared NotEqual w (values.Number k) ≡ true) is h)
  where
    not_true : (b : Bool) → not b ≡ true → b ≡ false
    not_true false h = refl
    not_true true h = absurd (false≢true h)

divides_well : (e : Environment) (v : Valuation) (path : List Fact) (ty : IntType) (a b : Term) (x y : ℤ) → IsDivisor e path ty a b → Meets e v path → value_in e v a ≡ values.Number x → value_in e v b ≡ values.Number y
    → (int_eq y (pos 0) ≡ false) × (bad_divisor ty x y ≡ false)
divides_well e v path ty a b x y h m ia ib =
    let nonzero = differs e v b y (pos 0) ib ((h.0).by v m) in (
      nonzero,
      ⊎_elim
          (λ k. ap₂ (λ p q. p || (q && int_eq x (least ty))) nonzero (differs e v b y (negsuc 0) ib (k.by v m)))
          (λ k. ap₂ (λ p q. p || (int_eq y (negsuc 0) && q)) nonzero (differs e v a x (least ty) ia (k.by v m)) ∙ and_none (int_eq y (negsuc 0)))
          h.1,
    )
  where
    and_none : (b : Bool) → (b && false) ≡ false
    and_none true = refl
    and_none false = refl

-- an operator that may be applied gives what ghost arithmetic gives, where that is in range
applied : (e : Environment) (v : Valuation) (path : List Fact) (op : ArithmeticOperator) (ty : IntType) (place : Place) (a b : Term) (x y : ℤ) → MayApply e path op ty a b → Meets e v path
    → value_in e v a ≡ values.Number x → value_in e v b ≡ values.Number y → in_range ty (computed op x y) ≡ true → evaluation.computed op ty place x y ≡ Gives (values.Number (computed op x y))
applied e v path Add ty place a b x y h m ia ib r = ranged_gives ty place _ r
applied e v path Subtract ty place a b x y h m ia ib r = ranged_gives ty place _ r
applied e v path Multiply ty place a b x y h m ia ib r = ranged_gives ty place _ r
applied e v path Divide ty place a b x y h m ia ib r =
    let d = divides_well e v path ty a b x y h m ia ib in
    let same : computed Divide x y ≡ arithmetic Divide x y = ap (λ z. cond z (pos 0) (arithmetic Divide x y)) d.0 in
    ap (λ z. cond z (Fails faults.Divisor place) (ranged ty place (arithmetic Divide x y))) d.1 ∙ ranged_gives ty place (arithmetic Divide x y) (subst (λ z. in_range ty z ≡ true) same r) ∙ ap (λ z. Gives (values.Number z)) (sym same)
applied e v path Remainder ty place a b x y h m ia ib r =
    let d = divides_well e v path ty a b x y h m ia ib in
    let same : computed Remainder x y ≡ arithmetic Remainder x y = ap (λ z. cond z (pos 0) (arithmetic Remainder x y)) d.0 in
    ap (λ z. cond z (Fails faults.Divisor place) (ranged ty place (arithmetic Remainder x y))) d.1 ∙ ranged_gives ty place (arithmetic Remainder x y) (subst (λ z. in_range ty z ≡ true) same r) ∙ ap (λ z. Gives (values.Number z)) (sym same)

-- ---- expressions
pub evaluates : (e : Environment) (v : Valuation) (path : List Fact) (ts : List (Option Term)) (locals : List (Option Value)) (x : ExpressionTree) (t : Term) → Evaluates e path ts x t → Meets e v path
    → LocalsMean e v ts locals → evaluate locals x ≡ Gives (value_in e v t)
evaluates e v path ts locals (Read x place) t h m l = ap (λ o. local_read o place) (local_at e v ts locals x t l h)
evaluates e v path ts locals (core.Number z) t h m l = ap (λ u. Gives (value_in e v u)) (sym h)
evaluates e v path ts locals (core.Truth b) t h m l = ap (λ u. Gives (value_in e v u)) (sym h)
evaluates e v path ts locals core.Null t h m l = ap (λ u. Gives (value_in e v u)) (sym h)
evaluates e v path ts locals (core.Function g) t h m l = ap (λ u. Gives (value_in e v u)) (sym h)
evaluates e v path ts locals (core.Negate ty a place) t (u, ha, is, range) m l =
    let z = neg_ℤ (number_of (value_in e v u)) in
    let own : value_in e v t ≡ values.Number z = ap (value_in e v) is in
    ap (λ r. and_then r (λ w. ranged ty place (neg_ℤ (number_of w)))) (evaluates e v path ts locals a u ha m l)
    ∙ ranged_gives ty place z (in_range_is e v path ty t z range m own) ∙ ap Gives (sym own)
evaluates e v path ts locals (core.Arithmetic op ty a b place) t (u, w, ha, hb, nu, nw, may, is, range) m l =
    let x = number_sort e (value_in e v u) (nu.by v m) in
    let y = number_sort e (value_in e v w) (nw.by v m) in
    let own : value_in e v t ≡ values.Number (computed op x.0 y.0) = ap (value_in e v) is ∙ ap₂ (λ p q. values.Number (computed op (number_of p) (number_of q))) x.1 y.1 in
    ap (λ r. and_then r (λ p. and_then (evaluate locals b) (λ q. evaluation.computed op ty place (number_of p) (number_of q)))) (evaluates e v path ts locals a u ha m l)
    ∙ ap (λ r. and_then r (λ q. evaluation.computed op ty place (number_of (value_in e v u)) (number_of q))) (evaluates e v path ts locals b w hb m l)
    ∙ ap₂ (λ p q. evaluation.computed op ty place (number_of p) (number_of q)) x.1 y.1
    ∙ applied e v path op ty place u w x.0 y.0 may m x.1 y.1 (in_range_is e v path ty t (computed op x.0 y.0) range m own) ∙ ap Gives (sym own)
evaluates e v path ts locals (core.Convert ty a place) t (ha, n, range) m l =
    let z = number_sort e (value_in e v t) (n.by v m) in
    ap (λ r. and_then r (λ w. ranged ty place (number_of w))) (evaluates e v path ts locals a t ha m l)
    ∙ ap (λ w. ranged ty place (number_of w)) z.1 ∙ ranged_gives ty place z.0 (in_range_is e v path ty t z.0 range m z.1) ∙ ap Gives (sym z.1)

pub evaluates_all : (e : Environment) (v : Valuation) (path : List Fact) (ts : List (Option Term)) (locals : List (Option Value)) (xs : List ExpressionTree) (us : List Term) → EvaluatesAll e path ts xs us → Meets e v path
    → LocalsMean e v ts locals → evaluate_all locals xs ≡ Gives (map (value_in e v) us)
evaluates_all e v path ts locals [] [] h m l = refl
evaluates_all e v path ts locals [] (u ∷ us) h m l = absurd h
evaluates_all e v path ts locals (x ∷ xs) [] h m l = absurd h
evaluates_all e v path ts locals (x ∷ xs) (u ∷ us) h m l =
    ap (λ r. and_then r (λ w. and_then (evaluate_all locals xs) (λ ws. Gives (w ∷ ws)))) (evaluates e v path ts locals x u h.0 m l)
    ∙ ap (λ r. and_then r (λ ws. Gives (value_in e v u ∷ ws))) (evaluates_all e v path ts locals xs us h.1 m l)
