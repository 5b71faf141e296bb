-- A truth value whose connectives and comparisons are told apart is the term that its expression is read as.
use Rattle.std.proofs.Common.{◌≡◌, ℕ, Bool, true, false, length, refl, sym, subst, ap, ◌∙◌}
use Rattle.std.specs.Prelude.{if◌then◌else◌, ◌&&◌, ◌||◌, nat_eq}
use Rattle.vf_base.specs.declared.place.Place.{Place}
use Rattle.vf_meaning.specs.Ghost.{Name}
use Rattle.vf_tree.specs.Core as core
use Rattle.vf_closure.specs.Terms.{And, Choose, Compare, Not, Or, Term, and_term, no_terms, term}
use Rattle.vf_sorts.specs.declared.sort.Head.TheVariants as heads
use Rattle.vf_sorts.specs.Sorts.{Sort}
use Rattle.vf_sorts.specs.Pairs.{head_of}
use Rattle.vf_sorts.specs.Told.{AreAlike, untold_head}
use Rattle.vf_sorts.specs.Unknowns.{AgreesAsTold, Known, settling}
use Rattle.vf_syntax.specs.declared.operator.BinaryOperator.{BinaryOperator}
use Rattle.vf_syntax.specs.declared.operator.BinaryOperator.TheVariants as operators
use Rattle.vf_syntax.specs.declared.operator.Level.{Level}
use Rattle.vf_syntax.specs.declared.operator.Level.TheVariants as levels
use Rattle.vf_syntax.specs.declared.operator.UnaryOperator.TheVariants as unaries
use Rattle.vf_syntax.specs.GhostExprTree.{GhostExprTree, GhostExprTrees, GhostLinkTree, GhostLinkTrees, more_ghost_link, no_ghost_link}
use Rattle.vf_syntax.specs.GhostExprTree as tree
use Rattle.vf_syntax.specs.GhostExpressions.{has_ghost_links}
use Rattle.vf_syntax.specs.Written.{level_of}
use Rattle.vf_sorting.specs.HasSort.{HasSort, number, truth, falsehood, result, this_, thread, name_, application, parenthesized, conditional, prefixed, chain, Meets, null_second, null_first, any_beside, alike, LinkHasSort, compared, moved, joined, LinksHaveSort, no_links, more_links, Passes, inside, null, choice, any_wanted, as_wanted}
use Rattle.vf_sorting.specs.Kinds.{bool_sort, int_sort, is_any, is_pointer, resolved}
use Rattle.vf_sorting.specs.Operators.{is_equality, is_null, is_plus, moves, operand_sort, result_sort}
use Rattle.vf_terms.specs.Settings.{Setting, settled}
use Rattle.vf_terms.specs.Operated.{over_two, operator_head}
use Rattle.vf_terms.specs.Readings.{beside_by, linked, null_term, paired, read, read_link, read_links}
use Rattle.vf_terms.specs.Readings as readings
use Rattle.vf_terms.specs.declared.reading.Pair.{Pair}
use Rattle.vf_terms.specs.declared.reading.Reading.{Reading}
use Rattle.vf_resolved.specs.Apart.{as_term}
use Rattle.vf_resolved.specs.TruthTree.{TruthTree}
use Rattle.vf_resolved.specs.TruthTree as truths
use Rattle.vf_resolved_parts.specs.Names.{is_truth}
use Rattle.vf_resolved_parts.specs.Truths as apart
use Rattle.vf_resolved_parts.specs.Truths.{all_true, any_true, as_side, both_link, comparison_in, either_link, equated, of_side, related, relation, side, side_link, sides, whole, whole_side}
use Rattle.vf_resolved_parts.specs.declared.truth_reading.Side.{Side}
use Rattle.vf_resolved_parts.specs.declared.truth_reading.TruthReading.{TruthReading}
use Rattle.vf_resolved_laws.specs.Given.{GivesSorts}
use Rattle.vf_resolved_laws.specs.Laws.{TruthsAreRead}
use Rattle.vf_resolved_laws.specs.Levels.{IsLevelled, JoinOn, JoinsOn}
use Rattle.vf_resolved_laws.specs.Terms.{TermHasSort}
use Rattle.vf_resolved_laws.proofs.Sorting.{AreHeadsAlike, any_alike, heads_alike, kind_alike, pointer_alike}
use Rattle.vf_resolved_laws.proofs.Before.{before, before_links, before_pass, equated as made_alike}
use Rattle.vf_resolved_laws.proofs.Naming.{D}
use Rattle.vf_resolved_laws.proofs.Operating.{beside_null, beside_paired, first_of, known_pointer, not_first, null_sorted, paired_alike, paired_any, paired_null, second_of}
use Rattle.vf_resolved_laws.proofs.Reading.{IsRead, has_read, link_read, no_and_yes, nothing_wanted, passes_read}

-- ---- operators by their levels
equality_level : (o : BinaryOperator) → is_equality o ≡ true → level_of o ≡ levels.Equality
equality_level operators.Times e = absurd cc
equality_level operators.Divide e = absurd cc
equality_level operators.Remainder e = absurd cc
equality_level operators.Plus e = absurd cc
equality_level operators.Minus e = absurd cc
equality_level operators.Less e = absurd cc
equality_level operators.LessOrEqual e = absurd cc
equality_level operators.Greater e = absurd cc
equality_level operators.GreaterOrEqual e = absurd cc
equality_level operators.Equal e = refl
equality_level operators.NotEqual e = refl
equality_level operators.And e = absurd cc
equality_level operators.Or e = absurd cc

level_equality : (o : BinaryOperator) → level_of o ≡ levels.Equality → is_equality o ≡ true
level_equality operators.Times e = absurd cc
level_equality operators.Divide e = absurd cc
level_equality operators.Remainder e = absurd cc
level_equality operators.Plus e = absurd cc
level_equality operators.Minus e = absurd cc
level_equality operators.Less e = absurd cc
level_equality operators.LessOrEqual e = absurd cc
level_equality operators.Greater e = absurd cc
level_equality operators.GreaterOrEqual e = absurd cc
level_equality operators.Equal e = refl
level_equality operators.NotEqual e = refl
level_equality operators.And e = absurd cc
level_equality operators.Or e = absurd cc

plus_level : (o : BinaryOperator) → is_plus o ≡ true → level_of o ≡ levels.Additive
plus_level operators.Times e = absurd cc
plus_level operators.Divide e = absurd cc
plus_level operators.Remainder e = absurd cc
plus_level operators.Plus e = refl
plus_level operators.Minus e = absurd cc
plus_level operators.Less e = absurd cc
plus_level operators.LessOrEqual e = absurd cc
plus_level operators.Greater e = absurd cc
plus_level operators.GreaterOrEqual e = absurd cc
plus_level operators.Equal e = absurd cc
plus_level operators.NotEqual e = absurd cc
plus_level operators.And e = absurd cc
plus_level operators.Or e = absurd cc

only_and : (o : BinaryOperator) → level_of o ≡ levels.And → o ≡ operators.And
only_and operators.Times e = absurd cc
only_and operators.Divide e = absurd cc
only_and operators.Remainder e = absurd cc
only_and operators.Plus e = absurd cc
only_and operators.Minus e = absurd cc
only_and operators.Less e = absurd cc
only_and operators.LessOrEqual e = absurd cc
only_and operators.Greater e = absurd cc
only_and operators.GreaterOrEqual e = absurd cc
only_and operators.Equal e = absurd cc
only_and operators.NotEqual e = absurd cc
only_and operators.And e = refl
only_and operators.Or e = absurd cc

only_or : (o : BinaryOperator) → level_of o ≡ levels.Or → o ≡ operators.Or
only_or operators.Times e = absurd cc
only_or operators.Divide e = absurd cc
only_or operators.Remainder e = absurd cc
only_or operators.Plus e = absurd cc
only_or operators.Minus e = absurd cc
only_or operators.Less e = absurd cc
only_or operators.LessOrEqual e = absurd cc
only_or operators.Greater e = absurd cc
only_or operators.GreaterOrEqual e = absurd cc
only_or operators.Equal e = absurd cc
only_or operators.NotEqual e = absurd cc
only_or operators.And e = absurd cc
only_or operators.Or e = refl

relational_operands : (o : BinaryOperator) → level_of o ≡ levels.Relational → operand_sort o ≡ int_sort
relational_operands operators.Times e = absurd cc
relational_operands operators.Divide e = absurd cc
relational_operands operators.Remainder e = absurd cc
relational_operands operators.Plus e = absurd cc
relational_operands operators.Minus e = absurd cc
relational_operands operators.Less e = refl
relational_operands operators.LessOrEqual e = refl
relational_operands operators.Greater e = refl
relational_operands operators.GreaterOrEqual e = refl
relational_operands operators.Equal e = absurd cc
relational_operands operators.NotEqual e = absurd cc
relational_operands operators.And e = absurd cc
relational_operands operators.Or e = absurd cc

relational_result : (o : BinaryOperator) → level_of o ≡ levels.Relational → result_sort o ≡ bool_sort
relational_result operators.Times e = absurd cc
relational_result operators.Divide e = absurd cc
relational_result operators.Remainder e = absurd cc
relational_result operators.Plus e = absurd cc
relational_result operators.Minus e = absurd cc
relational_result operators.Less e = refl
relational_result operators.LessOrEqual e = refl
relational_result operators.Greater e = refl
relational_result operators.GreaterOrEqual e = refl
relational_result operators.Equal e = absurd cc
relational_result operators.NotEqual e = absurd cc
relational_result operators.And e = absurd cc
relational_result operators.Or e = absurd cc

-- an operator on a level is not one of another
no_equality : {A : Type 0} (o : BinaryOperator) (l : Level) → level_of o ≡ l → (l ≡ levels.Equality → ⊥) → is_equality o ≡ true → A
no_equality o l on other e = absurd (other (sym on ∙ equality_level o e))

no_plus : {A : Type 0} (o : BinaryOperator) (l : Level) (b : Bool) → level_of o ≡ l → (l ≡ levels.Additive → ⊥) → (is_plus o && b) ≡ true → A
no_plus o l b on other e = absurd (other (sym on ∙ plus_level o (first_of (is_plus o) b e)))

-- a comparison is the term of its operator
compares : (o : BinaryOperator) → is_equality o ≡ true → (b : Bool) (x y : TruthTree) (p q : Term) → as_term x ≡ p → as_term y ≡ q → as_term (truths.comparison (comparison_in o) b x y) ≡ over_two (operator_head o) p q
compares operators.Times e b x y p q f g = absurd cc
compares operators.Divide e b x y p q f g = absurd cc
compares operators.Remainder e b x y p q f g = absurd cc
compares operators.Plus e b x y p q f g = absurd cc
compares operators.Minus e b x y p q f g = absurd cc
compares operators.Less e b x y p q f g = absurd cc
compares operators.LessOrEqual e b x y p q f g = absurd cc
compares operators.Greater e b x y p q f g = absurd cc
compares operators.GreaterOrEqual e b x y p q f g = absurd cc
compares operators.Equal e b x y p q f g = λ i. over_two (Compare core.Equal) (f i) (g i)
compares operators.NotEqual e b x y p q f g = λ i. over_two (Compare core.NotEqual) (f i) (g i)
compares operators.And e b x y p q f g = absurd cc
compares operators.Or e b x y p q f g = absurd cc

-- a truth value is the term of a reading, and so is a side, which has its sort
abbrev pub Same : TruthReading → Reading → Type 0
Same x y = (as_term x.truth ≡ y.term) × (x.next ≡ y.next)

abbrev pub SideSame : Side → Reading → Type 0
SideSame x y = (as_term x.truth ≡ y.term) × (x.sort ≡ y.sort) × (x.next ≡ y.next)

relates : (o : BinaryOperator) → level_of o ≡ levels.Relational → (n z : Bool) (x y : Reading) → SideSame (as_side (related o x y)) (linked o n z x y)
relates operators.Times e n z x y = absurd cc
relates operators.Divide e n z x y = absurd cc
relates operators.Remainder e n z x y = absurd cc
relates operators.Plus e n z x y = absurd cc
relates operators.Minus e n z x y = absurd cc
relates operators.Less e n z x y = (refl, refl, refl)
relates operators.LessOrEqual e n z x y = (refl, refl, refl)
relates operators.Greater e n z x y = (refl, refl, refl)
relates operators.GreaterOrEqual e n z x y = (refl, refl, refl)
relates operators.Equal e n z x y = absurd cc
relates operators.NotEqual e n z x y = absurd cc
relates operators.And e n z x y = absurd cc
relates operators.Or e n z x y = absurd cc

module _ (s : Setting) where
  -- a sort is that of truth values in the end
  abbrev pub IsBool : Sort → Type 0
  IsBool t = AreHeadsAlike (settled s t) bool_sort

  whole_same : (e : GhostExprTree) (u v : ℕ) → u ≡ v → Same (whole (read s false u e)) (read s false v e)
  whole_same e u v p = (ap (λ n. (read s false n e).term) p, ap (λ n. (read s false n e).next) p)

  side_whole : (e : GhostExprTree) (u v : ℕ) → u ≡ v → SideSame (whole_side (read s false u e)) (read s false v e)
  side_whole e u v p = (ap (λ n. (read s false n e).term) p, ap (λ n. (read s false n e).sort) p, ap (λ n. (read s false n e).next) p)

  -- ---- a `0`
  null_next : (u : ℕ) (e : GhostExprTree) → is_null e ≡ true → (read s false u e).next ≡ u
  null_next u (tree.number p n i) e = refl
  null_next u (tree.parenthesized p a) e = null_next u a e
  null_next u (tree.true_ p) e = absurd cc
  null_next u (tree.false_ p) e = absurd cc
  null_next u (tree.result p) e = absurd cc
  null_next u (tree.this_ p) e = absurd cc
  null_next u (tree.current_thread p) e = absurd cc
  null_next u (tree.name_ p x) e = absurd cc
  null_next u (tree.application p f xs) e = absurd cc
  null_next u (tree.conditional p a b d) e = absurd cc
  null_next u (tree.unary p o a) e = absurd cc
  null_next u (tree.chain p l a xs) e = absurd cc

  null_side : (u v : ℕ) (e : GhostExprTree) → is_null e ≡ true → u ≡ v → SideSame (side s u e) (read s false v e)
  null_side u v (tree.number p n i) e at = side_whole (tree.number p n i) u v at
  null_side u v (tree.parenthesized p a) e at = null_side u v a e at
  null_side u v (tree.true_ p) e at = absurd cc
  null_side u v (tree.false_ p) e at = absurd cc
  null_side u v (tree.result p) e at = absurd cc
  null_side u v (tree.this_ p) e at = absurd cc
  null_side u v (tree.current_thread p) e at = absurd cc
  null_side u v (tree.name_ p x) e at = absurd cc
  null_side u v (tree.application p f xs) e at = absurd cc
  null_side u v (tree.conditional p a b d) e at = absurd cc
  null_side u v (tree.unary p o a) e at = absurd cc
  null_side u v (tree.chain p l a xs) e at = absurd cc

  -- ---- two sides
  -- a choice between truth values
  chosen_same : (tc tx ty : TruthReading) (c x y : Reading) (n z : Bool) → Same tc c → Same tx x → Same ty y → AreHeadsAlike x.sort bool_sort → AreHeadsAlike y.sort bool_sort → Same (apart.choice tc tx ty) (readings.chosen c (beside_by n z x y))
  chosen_same tc tx ty c x y n z p q r xs ys =
      let left = not_first (is_pointer x.sort) n (pointer_alike x.sort bool_sort xs) in
      let right = not_first (is_pointer y.sort) z (pointer_alike y.sort bool_sort ys) in
      subst (λ (w : Pair). Same (apart.choice tc tx ty) (readings.chosen c w)) (sym (beside_paired n z x y left ∙ paired_alike z x y right (neither (is_any x.sort) (is_any y.sort) (any_alike x.sort bool_sort xs) (any_alike y.sort bool_sort ys))))
      ((λ i. term (Choose (sym (kind_alike x.sort bool_sort xs) i)) (and_term (p.0 i) (and_term (q.0 i) (and_term (r.0 i) no_terms)))), r.1)
    where
      neither : (a b : Bool) → a ≡ false → b ≡ false → (a || b) ≡ false
      neither true b e f = absurd cc
      neither false b e f = f

  -- two sides that are compared
  compared_same : (o : BinaryOperator) (n z : Bool) (x x' : Side) (y y' : Reading) → is_equality o ≡ true → SideSame x y → SideSame x' y' → (n ≡ true → x'.next ≡ y.next) → SideSame (apart.compared o n z x x') (readings.compared o (beside_by n z y y'))
  compared_same o n z x x' y y' is p q after = subst (λ (w : Side). SideSame w (readings.compared o (beside_by n z y y'))) (sym form) (by (is_pointer y.sort && n) (is_pointer y'.sort && z) refl refl)
    where
      null_left : Side
      null_left = equated o false (truths.value null_term) x'.truth x'.next

      null_right : Side
      null_right = equated o false x.truth (truths.value null_term) x'.next

      plain : Side
      plain = equated o (is_truth x.sort && is_truth x'.sort) x.truth x'.truth x'.next

      whole_of : Bool → Bool → Side
      whole_of a b = if a then null_right else if b then null_left else plain

      form : apart.compared o n z x x' ≡ whole_of (is_pointer y.sort && n) (is_pointer y'.sort && z)
      form = λ i. whole_of (is_pointer (p.1 i) && n) (is_pointer (q.1 i) && z)

      any_by : (b : Bool) → (is_any y.sort || is_any y'.sort) ≡ b → (is_pointer y'.sort && z) ≡ false → SideSame plain (readings.compared o (paired z y y'))
      any_by true e f = subst (λ (w : Pair). SideSame plain (readings.compared o w)) (sym (paired_any z y y' f e)) (compares o is (is_truth x.sort && is_truth x'.sort) x.truth x'.truth y.term y'.term p.0 q.0, refl, q.2)
      any_by false e f = subst (λ (w : Pair). SideSame plain (readings.compared o w)) (sym (paired_alike z y y' f e)) (compares o is (is_truth x.sort && is_truth x'.sort) x.truth x'.truth y.term y'.term p.0 q.0, refl, q.2)

      by : (a b : Bool) → (is_pointer y.sort && n) ≡ a → (is_pointer y'.sort && z) ≡ b → SideSame (whole_of a b) (readings.compared o (beside_by n z y y'))
      by true b e f = subst (λ (w : Pair). SideSame null_right (readings.compared o w)) (sym (beside_null n z y y' e)) (compares o is false x.truth (truths.value null_term) y.term null_term p.0 refl, refl, after (second_of (is_pointer y.sort) n e))
      by false true e f = subst (λ (w : Pair). SideSame null_left (readings.compared o w)) (sym (beside_paired n z y y' e ∙ paired_null z y y' f)) (compares o is false (truths.value null_term) x'.truth null_term y'.term refl q.0, refl, q.2)
      by false false e f = subst (λ (w : Pair). SideSame plain (readings.compared o w)) (sym (beside_paired n z y y' e)) (any_by (is_any y.sort || is_any y'.sort) refl f)

  -- ---- a number beside an operator
  bool_no_int : {A : Type 0} (o q : BinaryOperator) → level_of o ≡ levels.Relational → level_of q ≡ levels.Relational → AreAlike (settled s (result_sort o)) (settled s (operand_sort q)) → A
  bool_no_int o q on at e =
      absurd (let same : AreAlike (settled s bool_sort) (settled s int_sort) = subst (λ (t : Sort). AreAlike (settled s bool_sort) (settled s t)) (relational_operands q at) (subst (λ (t : Sort). AreAlike (settled s t) (settled s (operand_sort q))) (relational_result o on) e) in
      let apart : heads.Bool ≡ heads.Int = ap head_of same in cc)

  second_link : {A : Type 0} {k k' : Known} {z : Bool} {p : Place} {t : Sort} {x : GhostLinkTree} (o : BinaryOperator) → level_of o ≡ levels.Relational → LinkHasSort s.scope s.context k z p (result_sort o) x t k' → AgreesAsTold (settling s.known) k' → JoinsOn levels.Relational x → A
  second_link o on (compared {o = q} is m) a at = no_equality q levels.Relational at.0 (λ e. cc) is
  second_link o on (moved {o = q} other is p) a at = no_plus q levels.Relational _ at.0 (λ e. cc) is
  second_link o on (joined {k} {k₁} {o = q} other still e p) a at = bool_no_int o q on at.0 (made_alike (settling s.known) k k₁ (result_sort o) (operand_sort q) e (before_pass s.scope s.context (settling s.known) p a))

  relation_same : {k k' : Known} {z : Bool} {p : Place} {t u : Sort} {xs : GhostLinkTrees} → LinksHaveSort s.scope s.context k z p t xs u k' → AgreesAsTold (settling s.known) k' → has_ghost_links xs ≡ true → JoinOn levels.Relational xs → (x : Reading) → SideSame (as_side (relation s x xs)) (read_links s z x xs)
  relation_same no_links a some on x = absurd cc
  relation_same (more_links (compared {o} is m) ls) a some on x = no_equality o levels.Relational on.0.0 (λ e. cc) is
  relation_same (more_links (moved {o} other is p) ls) a some on x = no_plus o levels.Relational _ on.0.0 (λ e. cc) is
  relation_same (more_links {z} (joined {o} {a = b} other still e p) no_links) a some on x = relates o on.0.0 (is_null b) z x (read s false x.next b)
  relation_same (more_links (joined {o} other still e p) (more_links l ls)) a some on x = second_link o on.0.0 l (before_links s.scope s.context (settling s.known) ls a) on.1.0

module _ (s : Setting) (names : Name → Sort) (gives : GivesSorts (D s names) s) where
  abbrev Agrees : Known → Type 0
  Agrees k = AgreesAsTold (settling s.known) k

  abbrev IsReadAt : Reading → Sort → Known → Type 0
  IsReadAt r t k = IsRead s names gives r t k

  -- the left operand of `&&` is a truth value
  and_left : {k k' : Known} {z : Bool} {p : Place} {t u : Sort} {xs : GhostLinkTrees} → LinksHaveSort s.scope s.context k z p t xs u k' → Agrees k' → has_ghost_links xs ≡ true → JoinOn levels.And xs → IsBool s t
  and_left no_links a some on = absurd cc
  and_left (more_links (compared {o} is m) ls) a some on = no_equality o levels.And on.0.0 (λ e. cc) is
  and_left (more_links (moved {o} other is p) ls) a some on = no_plus o levels.And _ on.0.0 (λ e. cc) is
  and_left {t = t} (more_links (joined {k} {k₁} {o} other still e p) ls) a some on =
      heads_alike (settled s t) (settled s bool_sort)
      (subst (λ (w : Sort). AreAlike (settled s t) (settled s w)) (ap operand_sort (only_and o on.0.0))
      (made_alike (settling s.known) k k₁ t (operand_sort o) e (before_pass s.scope s.context (settling s.known) p (before_links s.scope s.context (settling s.known) ls a))))

  linked_and : (o : BinaryOperator) → level_of o ≡ levels.And → (n z : Bool) (x y : Reading) → linked o n z x y ≡ readings.joined operators.And x y
  linked_and o on n z x y = ap (λ q. linked q n z x y) (only_and o on)

  -- the left operand of `||` is a truth value
  or_left : {k k' : Known} {z : Bool} {p : Place} {t u : Sort} {xs : GhostLinkTrees} → LinksHaveSort s.scope s.context k z p t xs u k' → Agrees k' → has_ghost_links xs ≡ true → JoinOn levels.Or xs → IsBool s t
  or_left no_links a some on = absurd cc
  or_left (more_links (compared {o} is m) ls) a some on = no_equality o levels.Or on.0.0 (λ e. cc) is
  or_left (more_links (moved {o} other is p) ls) a some on = no_plus o levels.Or _ on.0.0 (λ e. cc) is
  or_left {t = t} (more_links (joined {k} {k₁} {o} other still e p) ls) a some on =
      heads_alike (settled s t) (settled s bool_sort)
      (subst (λ (w : Sort). AreAlike (settled s t) (settled s w)) (ap operand_sort (only_or o on.0.0))
      (made_alike (settling s.known) k k₁ t (operand_sort o) e (before_pass s.scope s.context (settling s.known) p (before_links s.scope s.context (settling s.known) ls a))))

  linked_or : (o : BinaryOperator) → level_of o ≡ levels.Or → (n z : Bool) (x y : Reading) → linked o n z x y ≡ readings.joined operators.Or x y
  linked_or o on n z x y = ap (λ q. linked q n z x y) (only_or o on)

  mutual
    truth_same : {k k' : Known} {e : GhostExprTree} {t : Sort} → HasSort s.scope s.context k e t k' → Agrees k' → IsBool s t → IsLevelled e → (u v : ℕ) → u ≡ length k → v ≡ length k → Same (apart.truth s u e) (read s false v e)
    truth_same {e = x} number a b l u v p q = whole_same s x u v (p ∙ sym q)
    truth_same {e = x} truth a b l u v p q = whole_same s x u v (p ∙ sym q)
    truth_same {e = x} falsehood a b l u v p q = whole_same s x u v (p ∙ sym q)
    truth_same {e = x} (result is below) a b l u v p q = whole_same s x u v (p ∙ sym q)
    truth_same {e = x} (this_ is) a b l u v p q = whole_same s x u v (p ∙ sym q)
    truth_same {e = x} (thread is) a b l u v p q = whole_same s x u v (p ∙ sym q)
    truth_same {e = x} (name_ is below) a b l u v p q = whole_same s x u v (p ∙ sym q)
    truth_same {e = x} (application local is below passed) a b l u v p q = whole_same s x u v (p ∙ sym q)
    truth_same (parenthesized h) a b l u v p q = truth_same h a b l u v p q
    truth_same (conditional {d} {t} test h (null_second {k} is)) a b l u v p q = no_and_yes (is_pointer (settled s t)) (pointer_alike (settled s t) bool_sort b) (known_pointer s k t a (first_of _ (is_null d) is))
    truth_same (conditional {k' = l'} {u = r} test h (null_first {z} other g is)) a b l u v p q = no_and_yes (is_pointer (settled s r)) (pointer_alike (settled s r) bool_sort b) (known_pointer s l' r a (first_of _ z is))
    truth_same (conditional test h (any_beside other g not_one is)) a b l u v p q = absurd (let e : heads.Any ≡ heads.Bool = b in cc)
    truth_same (conditional {k₁} {k₂} {k' = l'} {a = c} {b = x} {d = y} {t} test h (alike {k₁ = k₃} {u = r} other g not_one not_any e)) a b l u v p q =
        let after = e.kept (settling s.known) a in
        let same = heads_alike (settled s r) (settled s t) (made_alike (settling s.known) k₃ l' r t e a) in
        let middle = before s.scope s.context (settling s.known) g after in
        let start = before s.scope s.context (settling s.known) h middle in
        let c₁ = wanted_same test start refl l.0 u v p q in
        let c₂ = passes_read s names gives false test start refl v q in
        let x₁ = truth_same h middle b l.1 (apart.truth s u c).next (read s false v c).next (c₁.1 ∙ c₂.0) c₂.0 in
        let x₂ = has_read s names gives false h middle (nothing_wanted s names gives t) (read s false v c).next c₂.0 in
        let y₁ = truth_same g after (same ∙ b) l.2 (apart.truth s (apart.truth s u c).next x).next (read s false (read s false v c).next x).next (x₁.1 ∙ x₂.0) x₂.0 in
        let y₂ = has_read s names gives false g after (nothing_wanted s names gives r) (read s false (read s false v c).next x).next x₂.0 in
        chosen_same s (apart.truth s u c) (apart.truth s (apart.truth s u c).next x) (apart.truth s (apart.truth s (apart.truth s u c).next x).next y)
        (read s false v c) (read s false (read s false v c).next x) (read s false (read s false (read s false v c).next x).next y) (is_null y) (is_null x) c₁ x₁ y₁ (x₂.1 ∙ b) (y₂.1 ∙ same ∙ b)
    truth_same {e = x} (prefixed {o = unaries.Minus} h) a b l u v p q = whole_same s x u v (p ∙ sym q)
    truth_same (prefixed {o = unaries.Not} h) a b l u v p q = let x = wanted_same h a refl l u v p q in (ap (λ (w : Term). term Not (and_term w no_terms)) x.0, x.1)
    truth_same {e = x} (chain {l = levels.Multiplicative} h ls) a b l u v p q = whole_same s x u v (p ∙ sym q)
    truth_same {e = x} (chain {l = levels.Additive} h ls) a b l u v p q = whole_same s x u v (p ∙ sym q)
    truth_same (chain {l = levels.Relational} {a = x} {xs} h ls) a b l u v p q =
        let r = relation_same s ls a l.1 l.2 (read s false v x) in
        subst (λ n. Same (relation s (read s false n x) xs) (read_links s (is_null x) (read s false v x) xs)) (q ∙ sym p) (r.0, r.2)
    truth_same (chain {l = levels.Equality} {a = x} {t} h ls) a b l u v p q =
        let first = before_links s.scope s.context (settling s.known) ls a in
        let r = sides_same ls a l.2 (side s u x) (read s false v x) (side_same h first l.0 u v p q) (has_read s names gives false h first (nothing_wanted s names gives t) v q) (λ n. (null_sorted h n).0) in
        (r.0, r.2)
    truth_same (chain {l = levels.And} {a = x} {t} h ls) a b l u v p q =
        let first = before_links s.scope s.context (settling s.known) ls a in
        and_same ls a l.2 (apart.truth s u x) (read s false v x) (truth_same h first (and_left ls a l.1 l.2) l.0 u v p q) (has_read s names gives false h first (nothing_wanted s names gives t) v q) (λ n. (null_sorted h n).0)
    truth_same (chain {l = levels.Or} {a = x} {t} h ls) a b l u v p q =
        let first = before_links s.scope s.context (settling s.known) ls a in
        or_same ls a l.2 (apart.truth s u x) (read s false v x) (truth_same h first (or_left ls a l.1 l.2) l.0 u v p q) (has_read s names gives false h first (nothing_wanted s names gives t) v q) (λ n. (null_sorted h n).0)

    side_same : {k k' : Known} {e : GhostExprTree} {t : Sort} → HasSort s.scope s.context k e t k' → Agrees k' → IsLevelled e → (u v : ℕ) → u ≡ length k → v ≡ length k → SideSame (side s u e) (read s false v e)
    side_same {e = x} number a l u v p q = side_whole s x u v (p ∙ sym q)
    side_same {e = x} truth a l u v p q = side_whole s x u v (p ∙ sym q)
    side_same {e = x} falsehood a l u v p q = side_whole s x u v (p ∙ sym q)
    side_same {e = x} (result is below) a l u v p q = side_whole s x u v (p ∙ sym q)
    side_same {e = x} (this_ is) a l u v p q = side_whole s x u v (p ∙ sym q)
    side_same {e = x} (thread is) a l u v p q = side_whole s x u v (p ∙ sym q)
    side_same {e = x} (name_ is below) a l u v p q = side_whole s x u v (p ∙ sym q)
    side_same {e = x} (application local is below passed) a l u v p q = side_whole s x u v (p ∙ sym q)
    side_same {e = x} (conditional test h m) a l u v p q = side_whole s x u v (p ∙ sym q)
    side_same {e = x} (prefixed h) a l u v p q = side_whole s x u v (p ∙ sym q)
    side_same {e = x} (chain {l = levels.Multiplicative} h ls) a l u v p q = side_whole s x u v (p ∙ sym q)
    side_same {e = x} (chain {l = levels.Additive} h ls) a l u v p q = side_whole s x u v (p ∙ sym q)
    side_same {e = x} (chain {l = levels.And} h ls) a l u v p q = side_whole s x u v (p ∙ sym q)
    side_same {e = x} (chain {l = levels.Or} h ls) a l u v p q = side_whole s x u v (p ∙ sym q)
    side_same (parenthesized h) a l u v p q = side_same h a l u v p q
    side_same (chain {l = levels.Relational} {a = x} {xs} h ls) a l u v p q =
        subst (λ n. SideSame (as_side (relation s (read s false n x) xs)) (read_links s (is_null x) (read s false v x) xs)) (q ∙ sym p) (relation_same s ls a l.1 l.2 (read s false v x))
    side_same (chain {l = levels.Equality} {a = x} {t} h ls) a l u v p q =
        let first = before_links s.scope s.context (settling s.known) ls a in
        sides_same ls a l.2 (side s u x) (read s false v x) (side_same h first l.0 u v p q) (has_read s names gives false h first (nothing_wanted s names gives t) v q) (λ n. (null_sorted h n).0)

    sides_same : {k k' : Known} {z : Bool} {g : Place} {t w : Sort} {xs : GhostLinkTrees} → LinksHaveSort s.scope s.context k z g t xs w k' → Agrees k' → JoinOn levels.Equality xs → (x : Side) (y : Reading) → SideSame x y → IsReadAt y t k → (z ≡ true → t ≡ int_sort) → SideSame (sides s z x xs) (read_links s z y xs)
    sides_same no_links a on x y same is shows = same
    sides_same {g = g} (more_links {z} {x = tree.ghost_link place o b} (compared test m) ls) a on x y same is shows =
        let here = before_links s.scope s.context (settling s.known) ls a in
        let other = operand_same m here on.0.1 x.next y.next (same.2 ∙ is.0) is.0 in
        sides_same ls a on.1 (side_link s z x (tree.ghost_link place o b)) (read_link s z y (tree.ghost_link place o b))
        (subst (λ c. SideSame (side_link s z x (tree.ghost_link place o b)) (if c then readings.compared o (beside_by (is_null b) z y (read s false y.next b)) else (if moves o y.sort then readings.moved y (read s false y.next b) else readings.joined o y (read s false y.next b)))) (sym test)
        (compared_same s o (is_null b) z x (side s x.next b) y (read s false y.next b) test same other (λ n. other.2 ∙ null_next s y.next b n)))
        (link_read s names gives (compared {p = g} {q = place} test m) here y is shows) (λ n. absurd cc)
    sides_same (more_links (moved {o} other test p) ls) a on x y same is shows = no_and_yes (is_equality o) other (level_equality o on.0.0)
    sides_same (more_links (joined {o} other still e p) ls) a on x y same is shows = no_and_yes (is_equality o) other (level_equality o on.0.0)

    operand_same : {k k' : Known} {z : Bool} {t w : Sort} {d : GhostExprTree} → Meets s.scope s.context k z t d w k' → Agrees k' → IsLevelled d → (u v : ℕ) → u ≡ length k → v ≡ length k → SideSame (side s u d) (read s false v d)
    operand_same (null_second {d} is) a l u v p q = null_side s u v d (second_of _ (is_null d) is) (p ∙ sym q)
    operand_same (null_first other h is) a l u v p q = side_same h a l u v p q
    operand_same (any_beside other h not_one is) a l u v p q = side_same h a l u v p q
    operand_same (alike other h not_one not_any e) a l u v p q = side_same h (e.kept (settling s.known) a) l u v p q

    and_same : {k k' : Known} {z : Bool} {g : Place} {t w : Sort} {xs : GhostLinkTrees} → LinksHaveSort s.scope s.context k z g t xs w k' → Agrees k' → JoinOn levels.And xs → (x : TruthReading) (y : Reading) → Same x y → IsReadAt y t k → (z ≡ true → t ≡ int_sort) → Same (all_true s x xs) (read_links s z y xs)
    and_same no_links a on x y same is shows = same
    and_same (more_links (compared {o} test m) ls) a on x y same is shows = no_equality o levels.And on.0.0 (λ e. cc) test
    and_same (more_links (moved {o} other test p) ls) a on x y same is shows = no_plus o levels.And _ on.0.0 (λ e. cc) test
    and_same {g = g} (more_links {z} {x = tree.ghost_link place o b} (joined {k₁} {k' = l} other still e p) ls) a on x y same is shows =
        let here = before_links s.scope s.context (settling s.known) ls a in
        let start = is.0 ∙ sym e.long in
        let r = wanted_same p here (ap operand_sort (only_and o on.0.0)) on.0.1 x.next y.next (same.1 ∙ start) start in
        and_same ls a on.1 (both_link s x (tree.ghost_link place o b)) (read_link s z y (tree.ghost_link place o b))
        (subst (λ (w : Reading). Same (both_link s x (tree.ghost_link place o b)) w) (sym (linked_and o on.0.0 (is_null b) z y (read s false y.next b))) ((λ i. over_two And (same.0 i) (r.0 i)), r.1))
        (link_read s names gives (joined {p = g} {q = place} other still e p) here y is shows) (λ n. absurd cc)

    or_same : {k k' : Known} {z : Bool} {g : Place} {t w : Sort} {xs : GhostLinkTrees} → LinksHaveSort s.scope s.context k z g t xs w k' → Agrees k' → JoinOn levels.Or xs → (x : TruthReading) (y : Reading) → Same x y → IsReadAt y t k → (z ≡ true → t ≡ int_sort) → Same (any_true s x xs) (read_links s z y xs)
    or_same no_links a on x y same is shows = same
    or_same (more_links (compared {o} test m) ls) a on x y same is shows = no_equality o levels.Or on.0.0 (λ e. cc) test
    or_same (more_links (moved {o} other test p) ls) a on x y same is shows = no_plus o levels.Or _ on.0.0 (λ e. cc) test
    or_same {g = g} (more_links {z} {x = tree.ghost_link place o b} (joined {k₁} {k' = l} other still e p) ls) a on x y same is shows =
        let here = before_links s.scope s.context (settling s.known) ls a in
        let start = is.0 ∙ sym e.long in
        let r = wanted_same p here (ap operand_sort (only_or o on.0.0)) on.0.1 x.next y.next (same.1 ∙ start) start in
        or_same ls a on.1 (either_link s x (tree.ghost_link place o b)) (read_link s z y (tree.ghost_link place o b))
        (subst (λ (w : Reading). Same (either_link s x (tree.ghost_link place o b)) w) (sym (linked_or o on.0.0 (is_null b) z y (read s false y.next b))) ((λ i. over_two Or (same.0 i) (r.0 i)), r.1))
        (link_read s names gives (joined {p = g} {q = place} other still e p) here y is shows) (λ n. absurd cc)

    wanted_same : {k k' : Known} {w : Sort} {g : Place} {e : GhostExprTree} → Passes s.scope s.context k w g e k' → Agrees k' → w ≡ bool_sort → IsLevelled e → (u v : ℕ) → u ≡ length k → v ≡ length k → Same (apart.truth s u e) (read s false v e)
    wanted_same (inside h) a is l u v p q = wanted_same h a is l u v p q
    wanted_same (null {k} {w} {n} test) a is l u v p q = no_and_yes (is_pointer (resolved k w)) (ap (λ (t : Sort). is_pointer (resolved k t)) is) (first_of _ (nat_eq n 0) test)
    wanted_same (choice {k} {w} pointer test x y) a is l u v p q = no_and_yes (is_pointer (resolved k w)) (ap (λ (t : Sort). is_pointer (resolved k t)) is) pointer
    wanted_same (any_wanted {k} {w} outside any h) a is l u v p q = no_and_yes (is_any (resolved k w)) (ap (λ (t : Sort). is_any (resolved k t)) is) any
    wanted_same (as_wanted {k₁} {k' = l'} {w} {t} outside other h e) a is l u v p q =
        truth_same h (e.kept (settling s.known) a) (heads_alike (settled s t) (settled s w) (made_alike (settling s.known) k₁ l' t w e a) ∙ ap (λ (y : Sort). untold_head (head_of (settled s y))) is) l u v p q

-- truth values are read
pub truths_are_read : TruthsAreRead
truths_are_read s names gives known then_known q e p a l =
    let same = wanted_same s names gives p a refl l (length known) (length known) refl refl in
    let r = passes_read s names gives false p a refl (length known) refl in
    record { same = same.0; next = same.1; has_sort = subst (λ (x : Term). TermHasSort (D s names) x bool_sort) (sym same.0) r.1 }
