-- What operators and choices are read as, by what their operands are, and the sorts of the terms.
use Rattle.std.proofs.Common.{◌≡◌, ℕ, ℤ, Bool, true, false, [], ◌∷◌, refl, sym, ap, ◌∙◌}
use Rattle.std.specs.Prelude.{if◌then◌else◌, ◌&&◌, ◌||◌, pos}
use Rattle.vf_tree.specs.Core as core
use Rattle.vf_closure.specs.Terms.{Kind, Term, and_term, no_terms, term}
use Rattle.vf_closure.specs.Terms as terms
use Rattle.vf_sorts.specs.declared.sort.Head.TheVariants as heads
use Rattle.vf_sorts.specs.Sorts.{Sort, sort}
use Rattle.vf_sorts.specs.Unknowns.{AgreesAsTold, Filling, Known, any_sort, filled, settling}
use Rattle.vf_syntax.specs.GhostExprTree.{GhostExprTree}
use Rattle.vf_syntax.specs.GhostExprTree as tree
use Rattle.vf_syntax.specs.declared.operator.BinaryOperator.{BinaryOperator}
use Rattle.vf_syntax.specs.declared.operator.BinaryOperator.TheVariants as operators
use Rattle.vf_syntax.specs.declared.operator.UnaryOperator.{UnaryOperator}
use Rattle.vf_syntax.specs.declared.operator.UnaryOperator.TheVariants as unaries
use Rattle.vf_declared.specs.declared.scope.Scope.{Scope}
use Rattle.vf_sorting.specs.declared.context.Context.{Context}
use Rattle.vf_sorting.specs.HasSort.{HasSort, falsehood, result, this_, thread, name_, application, parenthesized, conditional, prefixed, chain}
use Rattle.vf_sorting.specs.HasSort as sorted
use Rattle.vf_sorting.specs.Kinds.{bool_sort, int_sort, is_any, is_pointer, pointer_sort, resolved, value_sort}
use Rattle.vf_sorting.specs.Operators.{is_equality, is_null, operand_sort, prefix_sort, result_sort}
use Rattle.vf_sorting.specs.Schemes.{at_sort}
use Rattle.vf_terms.specs.Settings.{Setting, kind_of_sort, settled}
use Rattle.vf_terms.specs.Operated.{over_two, operator_head, prefixed_term}
use Rattle.vf_terms.specs.Readings.{beside_by, null_term, paired, read, reading}
use Rattle.vf_terms.specs.declared.reading.Reading.{Reading}
use Rattle.vf_terms.specs.declared.reading.Pair.{Pair}
use Rattle.vf_resolved_laws.specs.Heads.{Vocabulary, and_, arithmetic, choice, choice_scheme, comparison, comparison_scheme, not_, null, number, or_, pointer_sum, truth}
use Rattle.vf_resolved_laws.specs.Heads.{over_two as two}
use Rattle.vf_resolved_laws.specs.Terms.{TermHasSort, TermsHaveSorts, applied, as_one, none_have, one_has}
use Rattle.vf_resolved_laws.proofs.Sorting.{AreHeadsAlike, pointers_one}
use Rattle.vf_resolved_laws.proofs.Before.{told_first}

-- ---- truth values
pub first_of : (a b : Bool) → (a && b) ≡ true → a ≡ true
first_of true b e = refl
first_of false b e = absurd cc

pub second_of : (a b : Bool) → (a && b) ≡ true → b ≡ true
second_of true b e = e
second_of false b e = absurd cc

pub both_of : (a b : Bool) → a ≡ true → b ≡ true → (a && b) ≡ true
both_of true b p q = q
both_of false b p q = absurd cc

pub not_first : (a b : Bool) → a ≡ false → (a && b) ≡ false
not_first true b p = absurd cc
not_first false b p = refl

pub not_second : (a b : Bool) → b ≡ false → (a && b) ≡ false
not_second true b p = p
not_second false b p = refl

-- ---- what is known of a sort stays
pointer_filled : (f : Filling) (t : Sort) → is_pointer t ≡ true → is_pointer (filled f t) ≡ true
pointer_filled f (sort (heads.Pointer w) ts) e = refl
pointer_filled f (sort heads.Int ts) e = absurd cc
pointer_filled f (sort heads.Bool ts) e = absurd cc
pointer_filled f (sort heads.Real ts) e = absurd cc
pointer_filled f (sort heads.Any ts) e = absurd cc
pointer_filled f (sort (heads.Parameter i) ts) e = absurd cc
pointer_filled f (sort (heads.Unknown u) ts) e = absurd cc
pointer_filled f (sort (heads.Datatype d) ts) e = absurd cc
pointer_filled f (sort heads.Predicate ts) e = absurd cc

any_filled : (f : Filling) (t : Sort) → is_any t ≡ true → is_any (filled f t) ≡ true
any_filled f (sort heads.Any ts) e = refl
any_filled f (sort (heads.Pointer w) ts) e = absurd cc
any_filled f (sort heads.Int ts) e = absurd cc
any_filled f (sort heads.Bool ts) e = absurd cc
any_filled f (sort heads.Real ts) e = absurd cc
any_filled f (sort (heads.Parameter i) ts) e = absurd cc
any_filled f (sort (heads.Unknown u) ts) e = absurd cc
any_filled f (sort (heads.Datatype d) ts) e = absurd cc
any_filled f (sort heads.Predicate ts) e = absurd cc

-- a sort that is known to be one of pointers is one in the end
pub known_pointer : (s : Setting) (k : Known) (t : Sort) → AgreesAsTold (settling s.known) k → is_pointer (resolved k t) ≡ true → is_pointer (settled s t) ≡ true
known_pointer s k t a e = ap is_pointer (sym (told_first (settling s.known) k t a)) ∙ pointer_filled (settling s.known) (resolved k t) e

-- the same of `any`
pub known_any : (s : Setting) (k : Known) (t : Sort) → AgreesAsTold (settling s.known) k → is_any (resolved k t) ≡ true → is_any (settled s t) ≡ true
known_any s k t a e = ap is_any (sym (told_first (settling s.known) k t a)) ∙ any_filled (settling s.known) (resolved k t) e

-- ---- a `0`
-- its sort is that of integers, and it makes nothing known
pub null_sorted : {s : Scope} {c : Context} {k k' : Known} {e : GhostExprTree} {t : Sort} → HasSort s c k e t k' → is_null e ≡ true → (t ≡ int_sort) × (k ≡ k')
null_sorted sorted.HasSort.number e = (refl, refl)
null_sorted (parenthesized h) e = null_sorted h e
null_sorted sorted.HasSort.truth e = absurd cc
null_sorted falsehood e = absurd cc
null_sorted (result is below) e = absurd cc
null_sorted (this_ is) e = absurd cc
null_sorted (thread is) e = absurd cc
null_sorted (name_ is below) e = absurd cc
null_sorted (application local is below passed) e = absurd cc
null_sorted (conditional test h m) e = absurd cc
null_sorted (prefixed p) e = absurd cc
null_sorted (chain h l) e = absurd cc

-- it is read as the null pointer where a pointer is wanted
pub null_read : (s : Setting) (u : ℕ) (e : GhostExprTree) → is_null e ≡ true → read s true u e ≡ reading pointer_sort null_term u
null_read s u (tree.number p n i) e = ap (λ b. if b then reading pointer_sort null_term u else reading int_sort (terms.number (pos n)) u) e
null_read s u (tree.parenthesized p a) e = null_read s u a e
null_read s u (tree.true_ p) e = absurd cc
null_read s u (tree.false_ p) e = absurd cc
null_read s u (tree.result p) e = absurd cc
null_read s u (tree.this_ p) e = absurd cc
null_read s u (tree.current_thread p) e = absurd cc
null_read s u (tree.name_ p x) e = absurd cc
null_read s u (tree.application p f xs) e = absurd cc
null_read s u (tree.conditional p a b d) e = absurd cc
null_read s u (tree.unary p o a) e = absurd cc
null_read s u (tree.chain p l a xs) e = absurd cc

-- ---- two operands
abbrev pub pair : Term → Term → Sort → ℕ → Pair
pair a b t u = record { first = a; second = b; sort = t; next = u }

pub beside_null : (n z : Bool) (x y : Reading) → (is_pointer x.sort && n) ≡ true → beside_by n z x y ≡ pair x.term null_term x.sort x.next
beside_null n z x y e = rw e refl

pub beside_paired : (n z : Bool) (x y : Reading) → (is_pointer x.sort && n) ≡ false → beside_by n z x y ≡ paired z x y
beside_paired n z x y e = rw e refl

pub paired_null : (z : Bool) (x y : Reading) → (is_pointer y.sort && z) ≡ true → paired z x y ≡ pair null_term y.term y.sort y.next
paired_null z x y e = rw e refl

pub paired_any : (z : Bool) (x y : Reading) → (is_pointer y.sort && z) ≡ false → (is_any x.sort || is_any y.sort) ≡ true → paired z x y ≡ pair x.term y.term value_sort y.next
paired_any z x y e is = rw e (rw is refl)

pub paired_alike : (z : Bool) (x y : Reading) → (is_pointer y.sort && z) ≡ false → (is_any x.sort || is_any y.sort) ≡ false → paired z x y ≡ pair x.term y.term x.sort y.next
paired_alike z x y e is = rw e (rw is refl)

-- ---- operators
pub operand_no_pointer : (s : Setting) (o : BinaryOperator) → is_pointer (settled s (operand_sort o)) ≡ false
operand_no_pointer s operators.Times = refl
operand_no_pointer s operators.Divide = refl
operand_no_pointer s operators.Remainder = refl
operand_no_pointer s operators.Plus = refl
operand_no_pointer s operators.Minus = refl
operand_no_pointer s operators.Less = refl
operand_no_pointer s operators.LessOrEqual = refl
operand_no_pointer s operators.Greater = refl
operand_no_pointer s operators.GreaterOrEqual = refl
operand_no_pointer s operators.Equal = refl
operand_no_pointer s operators.NotEqual = refl
operand_no_pointer s operators.And = refl
operand_no_pointer s operators.Or = refl

pub result_settled : (s : Setting) (o : BinaryOperator) → AreHeadsAlike (result_sort o) (settled s (result_sort o))
result_settled s operators.Times = refl
result_settled s operators.Divide = refl
result_settled s operators.Remainder = refl
result_settled s operators.Plus = refl
result_settled s operators.Minus = refl
result_settled s operators.Less = refl
result_settled s operators.LessOrEqual = refl
result_settled s operators.Greater = refl
result_settled s operators.GreaterOrEqual = refl
result_settled s operators.Equal = refl
result_settled s operators.NotEqual = refl
result_settled s operators.And = refl
result_settled s operators.Or = refl

-- ---- terms
module _ (d : Vocabulary) where
  -- two terms of sorts
  both : {a b : Term} {t u : Sort} → TermHasSort d a t → TermHasSort d b u → TermsHaveSorts d (and_term a (and_term b no_terms)) (t ∷ u ∷ [])
  both p q = one_has p (one_has q none_have)

  -- a number, a truth value and the null pointer
  pub number_term : (z : ℤ) → TermHasSort d (terms.number z) int_sort
  number_term z = applied (at_sort int_sort) any_sort 0 number refl none_have

  pub truth_term : (b : Bool) → TermHasSort d (term (terms.Truth b) no_terms) bool_sort
  truth_term b = applied (at_sort bool_sort) any_sort 0 truth refl none_have

  pub null_sort : (t : Sort) → is_pointer t ≡ true → TermHasSort d null_term t
  null_sort t e = as_one (applied (at_sort pointer_sort) any_sort 0 null refl none_have) (pointers_one pointer_sort t refl e)

  -- an operator makes a term of its result's sort
  pub joined_term : (o : BinaryOperator) (a b : Term) → TermHasSort d a (operand_sort o) → TermHasSort d b (operand_sort o) → TermHasSort d (over_two (operator_head o) a b) (result_sort o)
  joined_term operators.Times a b p q = applied (two int_sort int_sort) any_sort 0 arithmetic refl (both p q)
  joined_term operators.Divide a b p q = applied (two int_sort int_sort) any_sort 0 arithmetic refl (both p q)
  joined_term operators.Remainder a b p q = applied (two int_sort int_sort) any_sort 0 arithmetic refl (both p q)
  joined_term operators.Plus a b p q = applied (two int_sort int_sort) any_sort 0 arithmetic refl (both p q)
  joined_term operators.Minus a b p q = applied (two int_sort int_sort) any_sort 0 arithmetic refl (both p q)
  joined_term operators.Less a b p q = applied (two int_sort bool_sort) any_sort 0 comparison refl (both p q)
  joined_term operators.LessOrEqual a b p q = applied (two int_sort bool_sort) any_sort 0 comparison refl (both p q)
  joined_term operators.Greater a b p q = applied (two int_sort bool_sort) any_sort 0 comparison refl (both p q)
  joined_term operators.GreaterOrEqual a b p q = applied (two int_sort bool_sort) any_sort 0 comparison refl (both p q)
  joined_term operators.Equal a b p q = applied (comparison_scheme core.Equal) (λ u. int_sort) 0 comparison refl (both p q)
  joined_term operators.NotEqual a b p q = applied (comparison_scheme core.NotEqual) (λ u. int_sort) 0 comparison refl (both p q)
  joined_term operators.And a b p q = applied (two bool_sort bool_sort) any_sort 0 and_ refl (both p q)
  joined_term operators.Or a b p q = applied (two bool_sort bool_sort) any_sort 0 or_ refl (both p q)

  -- `==` and `!=` make truth values of two terms of a common sort
  pub compared_term : (o : BinaryOperator) (a b : Term) (t : Sort) → is_equality o ≡ true → TermHasSort d a t → TermHasSort d b t → TermHasSort d (over_two (operator_head o) a b) bool_sort
  compared_term operators.Times a b t e p q = absurd cc
  compared_term operators.Divide a b t e p q = absurd cc
  compared_term operators.Remainder a b t e p q = absurd cc
  compared_term operators.Plus a b t e p q = absurd cc
  compared_term operators.Minus a b t e p q = absurd cc
  compared_term operators.Less a b t e p q = absurd cc
  compared_term operators.LessOrEqual a b t e p q = absurd cc
  compared_term operators.Greater a b t e p q = absurd cc
  compared_term operators.GreaterOrEqual a b t e p q = absurd cc
  compared_term operators.Equal a b t e p q = applied (comparison_scheme core.Equal) (λ u. t) 0 comparison refl (both p q)
  compared_term operators.NotEqual a b t e p q = applied (comparison_scheme core.NotEqual) (λ u. t) 0 comparison refl (both p q)
  compared_term operators.And a b t e p q = absurd cc
  compared_term operators.Or a b t e p q = absurd cc

  -- a pointer that is moved
  pub moved_term : (a b : Term) (t : Sort) → is_pointer t ≡ true → TermHasSort d a t → TermHasSort d b int_sort → TermHasSort d (over_two terms.PointerSum a b) pointer_sort
  moved_term a b t e p q = applied (record { parameters = 0; arguments = pointer_sort ∷ int_sort ∷ []; result = pointer_sort }) any_sort 0 pointer_sum refl (both (as_one p (pointers_one t pointer_sort e refl)) q)

  -- an operator in front of its operand
  pub prefixed_sort : (o : UnaryOperator) (a : Term) → TermHasSort d a (prefix_sort o) → TermHasSort d (prefixed_term o a) (prefix_sort o)
  prefixed_sort unaries.Minus a p = applied (two int_sort int_sort) any_sort 0 arithmetic refl (both (number_term (pos 0)) p)
  prefixed_sort unaries.Not a p = applied (record { parameters = 0; arguments = bool_sort ∷ []; result = bool_sort }) any_sort 0 not_ refl (one_has p none_have)

  -- a choice between two terms of a common sort
  pub chosen_term : (c a b : Term) (k : Kind) (t : Sort) → k ≡ kind_of_sort t → TermHasSort d c bool_sort → TermHasSort d a t → TermHasSort d b t
      → TermHasSort d (term (terms.Choose k) (and_term c (and_term a (and_term b no_terms)))) t
  chosen_term c a b k t e p q r = applied choice_scheme (λ u. t) 0 choice e (one_has p (both q r))
