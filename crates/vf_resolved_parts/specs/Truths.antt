-- Truth values with their connectives, comparisons and choices told apart. Unknown sorts are numbered as where the expression is sorted.
use Rattle.std.specs.Prelude.{ℕ, Bool, true, false, ◌&&◌, if◌then◌else◌}
use Rattle.vf_core.specs.declared.words.Comparison.{Comparison}
use Rattle.vf_core.specs.declared.words.Comparison.TheVariants as comparisons
use Rattle.vf_syntax.specs.GhostExprTree.{GhostExprTree, GhostLinkTree, GhostLinkTrees, no_ghost_link, more_ghost_link}
use Rattle.vf_syntax.specs.GhostExprTree as tree
use Rattle.vf_syntax.specs.declared.operator.BinaryOperator.{BinaryOperator}
use Rattle.vf_syntax.specs.declared.operator.BinaryOperator.TheVariants as operators
use Rattle.vf_syntax.specs.declared.operator.Level.TheVariants as levels
use Rattle.vf_syntax.specs.declared.operator.UnaryOperator.TheVariants as unaries
use Rattle.vf_sorting.specs.Kinds.{bool_sort, is_pointer}
use Rattle.vf_sorting.specs.Operators.{is_null}
use Rattle.vf_terms.specs.Settings.{Setting}
use Rattle.vf_terms.specs.Readings.{null_term, read}
use Rattle.vf_terms.specs.declared.reading.Reading.{Reading}
use Rattle.vf_resolved.specs.TruthTree.{TruthTree}
use Rattle.vf_resolved.specs.TruthTree as truths
use Rattle.vf_resolved_parts.specs.Names.{is_truth}
use Rattle.vf_resolved_parts.specs.declared.truth_reading.TruthReading.{TruthReading}
use Rattle.vf_resolved_parts.specs.declared.truth_reading.Side.{Side}

-- a term, which is no more told apart
abbrev pub whole : Reading → TruthReading
whole x = record { truth = truths.value x.term; next = x.next }

-- the same beside a comparison
abbrev pub whole_side : Reading → Side
whole_side x = record { truth = truths.value x.term; sort = x.sort; next = x.next }

-- the comparison of an operator; every other operator counts as `==`
abbrev pub comparison_in : BinaryOperator → Comparison
comparison_in operators.NotEqual = comparisons.NotEqual
comparison_in operators.Less = comparisons.Less
comparison_in operators.LessOrEqual = comparisons.LessEqual
comparison_in operators.Greater = comparisons.Greater
comparison_in operators.GreaterOrEqual = comparisons.GreaterEqual
comparison_in o = comparisons.Equal

-- two numbers beside an operator
abbrev pub related : BinaryOperator → Reading → Reading → TruthReading
related o x y = record { truth = truths.comparison (comparison_in o) false (truths.value x.term) (truths.value y.term); next = y.next }

-- two sides of `==` or `!=`, and whether both are truth values
abbrev pub equated : BinaryOperator → Bool → TruthTree → TruthTree → ℕ → Side
equated o both x y u = record { truth = truths.comparison (comparison_in o) both x y; sort = bool_sort; next = u }

-- a left side, which is or is not a `0`, beside a right one, which is or is not a `0`: a `0` is the null pointer beside a pointer
abbrev pub compared : BinaryOperator → Bool → Bool → Side → Side → Side
compared o n z x y =
    if is_pointer x.sort && n then equated o false x.truth (truths.value null_term) y.next
    else if is_pointer y.sort && z then equated o false (truths.value null_term) y.truth y.next
    else equated o (is_truth x.sort && is_truth y.sort) x.truth y.truth y.next

-- a comparison as a truth value, and a truth value as a side
abbrev pub of_side : Side → TruthReading
of_side x = record { truth = x.truth; next = x.next }

abbrev pub as_side : TruthReading → Side
as_side x = record { truth = x.truth; sort = bool_sort; next = x.next }

-- connectives and choices of truth values
abbrev pub denied : TruthReading → TruthReading
denied x = record { truth = truths.not_ x.truth; next = x.next }

abbrev pub both : TruthReading → TruthReading → TruthReading
both x y = record { truth = truths.and_ x.truth y.truth; next = y.next }

abbrev pub either : TruthReading → TruthReading → TruthReading
either x y = record { truth = truths.or_ x.truth y.truth; next = y.next }

abbrev pub choice : TruthReading → TruthReading → TruthReading → TruthReading
choice c x y = record { truth = truths.choice c.truth x.truth y.truth; next = y.next }

-- a number beside the first of some operators `<`, `<=`, `>` and `>=`: there is one, since what it gives is no number
abbrev pub relation : Setting → Reading → GhostLinkTrees → TruthReading
relation s x no_ghost_link = whole x
relation s x (more_ghost_link (tree.ghost_link q o a) ls) = related o x (read s false x.next a)

abbrev mutual
  -- a truth value
  pub truth : Setting → ℕ → GhostExprTree → TruthReading
  truth s u (tree.parenthesized p a) = truth s u a
  truth s u (tree.conditional p c a b) =
      let t = truth s u c in
      let x = truth s t.next a in
      choice t x (truth s x.next b)
  truth s u (tree.unary p unaries.Not a) = denied (truth s u a)
  truth s u (tree.chain p levels.And a xs) = all_true s (truth s u a) xs
  truth s u (tree.chain p levels.Or a xs) = any_true s (truth s u a) xs
  truth s u (tree.chain p levels.Equality a xs) = of_side (sides s (is_null a) (side s u a) xs)
  truth s u (tree.chain p levels.Relational a xs) = relation s (read s false u a) xs
  truth s u e = whole (read s false u e)

  -- a side of `==` or `!=`: a comparison is told apart
  pub side : Setting → ℕ → GhostExprTree → Side
  side s u (tree.parenthesized p a) = side s u a
  side s u (tree.chain p levels.Equality a xs) = sides s (is_null a) (side s u a) xs
  side s u (tree.chain p levels.Relational a xs) = as_side (relation s (read s false u a) xs)
  side s u e = whole_side (read s false u e)

  -- sides behind a left one, which is or is not a `0`, from left to right
  pub sides : Setting → Bool → Side → GhostLinkTrees → Side
  sides s z x no_ghost_link = x
  sides s z x (more_ghost_link l ls) = sides s false (side_link s z x l) ls

  -- one side behind a left one
  pub side_link : Setting → Bool → Side → GhostLinkTree → Side
  side_link s z x (tree.ghost_link q o a) = compared o (is_null a) z x (side s x.next a)

  -- truth values joined by `&&`, from left to right
  pub all_true : Setting → TruthReading → GhostLinkTrees → TruthReading
  all_true s x no_ghost_link = x
  all_true s x (more_ghost_link l ls) = all_true s (both_link s x l) ls

  pub both_link : Setting → TruthReading → GhostLinkTree → TruthReading
  both_link s x (tree.ghost_link q o a) = both x (truth s x.next a)

  -- truth values joined by `||`, from left to right
  pub any_true : Setting → TruthReading → GhostLinkTrees → TruthReading
  any_true s x no_ghost_link = x
  any_true s x (more_ghost_link l ls) = any_true s (either_link s x l) ls

  pub either_link : Setting → TruthReading → GhostLinkTree → TruthReading
  either_link s x (tree.ghost_link q o a) = either x (truth s x.next a)
