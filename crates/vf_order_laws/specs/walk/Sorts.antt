-- What sorting an expression comes to, as a function: the sort with what is known then, or the first refusal.
use Rattle.std.specs.Prelude.{ℕ, Bool, false, ◌&&◌, ◌||◌, nat_eq, List, [], ◌∷◌, length, Option, Some, None, Result, Ok, Err}
use Rattle.vf_base.specs.declared.place.Place.{Place}
use Rattle.vf_base.specs.declared.refusal.Refusal.{Refusal}
use Rattle.vf_base.specs.declared.rule.Rule.TheVariants as rules
use Rattle.vf_sorts.specs.Sorts.{Sort, row}
use Rattle.vf_sorts.specs.Unknowns.{Known, all_numbered_below, instance, numbered_below}
use Rattle.vf_sorts.specs.Unifying.{unified}
use Rattle.vf_declared.specs.declared.scope.Scope.{Scope}
use Rattle.vf_syntax.specs.GhostExprTree.{GhostExprTree, GhostExprTrees, no_ghost_expr, more_ghost_expr, GhostLinkTree, GhostLinkTrees, no_ghost_link, more_ghost_link}
use Rattle.vf_syntax.specs.GhostExprTree as tree
use Rattle.vf_sorting.specs.declared.context.Context.{Context}
use Rattle.vf_sorting.specs.declared.scheme.Scheme.{Scheme}
use Rattle.vf_sorting.specs.Kinds.{bool_sort, int_sort, is_any, is_pointer, pointer_sort, resolved, value_sort, with_fresh}
use Rattle.vf_sorting.specs.Schemes.{application_scheme, name_scheme, names_predicate}
use Rattle.vf_sorting.specs.Operators.{count, is_equality, is_null, moves, operand_sort, place_of, prefix_sort, result_sort}
use Rattle.vf_sorting.specs.Refusals.{refused}
use Rattle.vf_order_laws.specs.walk.Following.{after, choose}

-- a sort with what is known then, or a refusal
abbrev pub Sorted : Type 0
Sorted = Result (Sort × Known) Refusal

-- what is known then, or a refusal
abbrev pub Passed : Type 0
Passed = Result Known Refusal

-- a sort with what is known
abbrev pub at : Sort → Known → Sort × Known
at t k = (t, k)

-- what is known where two sorts were made equal, or the refusal at a place
unfoldable pub made_at : Place → Option Known → Passed
made_at p (Some k) = Ok k
made_at p None = Err (refused rules.Typing p)

-- a sort whose unknown ones are known to be there, or the refusal at a place
abbrev pub result_at : Place → Known → Option Sort → Sorted
result_at p k None = Err (refused rules.Name p)
result_at p k (Some t) = choose (numbered_below (length k) t) (Ok (at t k)) (Err (refused rules.Typing p))

-- a word at a place where it may stand or not
abbrev pub word_at : Place → Known → Sort → Bool → Sorted
word_at p k t may = choose may (Ok (at t k)) (Err (refused rules.Name p))

-- a scheme has no other unknown sorts than those that are there
abbrev pub is_scheme_below : ℕ → Scheme → Bool
is_scheme_below n g = all_numbered_below n (row g.arguments) && numbered_below n g.result

-- a name at a place, by what it may be used at
abbrev pub named_at : Place → Known → Result Scheme Refusal → Sorted
named_at p k (Err x) = Err x
named_at p k (Ok g) = choose (is_scheme_below (length k) g) (Ok (at (instance (length k) g.parameters g.result) (with_fresh k g.parameters))) (Err (refused rules.Typing p))

-- an application of a scheme to so many arguments, which are passed by a function
abbrev pub applied_at : Place → Known → ℕ → (Known → ℕ → ℕ → List Sort → Passed) → Result Scheme Refusal → Sorted
applied_at p k n pass (Err x) = Err x
applied_at p k n pass (Ok g) = choose (is_scheme_below (length k) g) (choose (nat_eq (length g.arguments) n) (after (λ k'. Ok (at (instance (length k) g.parameters g.result) k')) (pass (with_fresh k g.parameters) (length k) g.parameters g.arguments)) (Err (refused rules.Typing p))) (Err (refused rules.Typing p))

-- a sort beside one in front of it, that is or is not a `0`, at a place
abbrev pub beside : Place → Bool → Sort → Sort × Known → Sorted
beside p z t r = choose (is_pointer (resolved r.1 r.0) && z) (Ok r) (choose (is_any (resolved r.1 t) || is_any (resolved r.1 r.0)) (Ok (at value_sort r.1)) (after (λ k'. Ok (at t k')) (made_at p (unified r.1 r.0 t))))

-- an expression beside one in front of it, by what sorting it comes to
abbrev pub met : Known → Bool → Sort → GhostExprTree → Sorted → Sorted
met k z t d r = choose (is_pointer (resolved k t) && is_null d) (Ok (at t k)) (after (beside (place_of d) z t) r)

-- an expression of which a sort is wanted, and which is not gone into, by what sorting it comes to
abbrev pub wanted : Known → Sort → Place → Sorted → Passed
wanted k w q r = choose (is_any (resolved k w)) (after (λ x. Ok x.1) r) (after (λ x. made_at q (unified x.1 x.0 w)) r)

abbrev mutual
  -- an expression: its parts from left to right, then what it makes of them
  pub sort_of : Scope → Context → Known → GhostExprTree → Sorted
  sort_of s c k (tree.number p n i) = Ok (at int_sort k)
  sort_of s c k (tree.true_ p) = Ok (at bool_sort k)
  sort_of s c k (tree.false_ p) = Ok (at bool_sort k)
  sort_of s c k (tree.result p) = result_at p k c.result
  sort_of s c k (tree.this_ p) = word_at p k pointer_sort c.has_this
  sort_of s c k (tree.current_thread p) = word_at p k int_sort c.has_thread
  sort_of s c k (tree.name_ p x) = named_at p k (name_scheme s p x)
  sort_of s c k (tree.application p f xs) = choose (names_predicate s k f) (Err (refused rules.Typing p)) (applied_at p k (count xs) (λ k' first n ts. passed_all s c k' first n ts xs) (application_scheme s c.own p f))
  sort_of s c k (tree.parenthesized p a) = sort_of s c k a
  sort_of s c k (tree.conditional p a b d) = after (λ k₁. after (λ r. met r.1 (is_null b) r.0 d (sort_of s c r.1 d)) (sort_of s c k₁ b)) (passed s c k bool_sort (place_of a) a)
  sort_of s c k (tree.unary p o a) = after (λ k'. Ok (at (prefix_sort o) k')) (passed s c k (prefix_sort o) (place_of a) a)
  sort_of s c k (tree.chain p l a xs) = after (λ r. links_of s c r.1 (is_null a) (place_of a) r.0 xs) (sort_of s c k a)

  -- an operator with its operand behind a left operand, that is or is not a `0`, stands at a place and has a sort
  pub link_of : Scope → Context → Known → Bool → Place → Sort → GhostLinkTree → Sorted
  link_of s c k z p t (tree.ghost_link q o a) = choose (is_equality o) (after (λ r. Ok (at bool_sort r.1)) (met k z t a (sort_of s c k a))) (choose (moves o (resolved k t)) (after (λ k'. Ok (at pointer_sort k')) (passed s c k int_sort (place_of a) a)) (after (λ k₁. after (λ k'. Ok (at (result_sort o) k')) (passed s c k₁ (operand_sort o) (place_of a) a)) (made_at p (unified k t (operand_sort o)))))

  -- operators with their operands, from left to right
  pub links_of : Scope → Context → Known → Bool → Place → Sort → GhostLinkTrees → Sorted
  links_of s c k z p t no_ghost_link = Ok (at t k)
  links_of s c k z p t (more_ghost_link x xs) = after (λ r. links_of s c r.1 false p r.0 xs) (link_of s c k z p t x)

  -- an expression of which a sort is wanted: what is wanted goes inside parentheses, and inside choices where it is a pointer; else the expression is looked at first, and its sort then
  pub passed : Scope → Context → Known → Sort → Place → GhostExprTree → Passed
  passed s c k w q (tree.parenthesized p a) = passed s c k w q a
  passed s c k w q (tree.number p n i) = choose (is_pointer (resolved k w) && nat_eq n 0) (Ok k) (wanted k w q (Ok (at int_sort k)))
  passed s c k w q (tree.conditional p a b d) = choose (is_pointer (resolved k w)) (after (λ k₁. after (λ k₂. passed s c k₂ w (place_of d) d) (passed s c k₁ w (place_of b) b)) (passed s c k bool_sort (place_of a) a)) (wanted k w q (after (λ k₁. after (λ r. met r.1 (is_null b) r.0 d (sort_of s c r.1 d)) (sort_of s c k₁ b)) (passed s c k bool_sort (place_of a) a)))
  passed s c k w q (tree.true_ p) = wanted k w q (Ok (at bool_sort k))
  passed s c k w q (tree.false_ p) = wanted k w q (Ok (at bool_sort k))
  passed s c k w q (tree.result p) = wanted k w q (result_at p k c.result)
  passed s c k w q (tree.this_ p) = wanted k w q (word_at p k pointer_sort c.has_this)
  passed s c k w q (tree.current_thread p) = wanted k w q (word_at p k int_sort c.has_thread)
  passed s c k w q (tree.name_ p x) = wanted k w q (named_at p k (name_scheme s p x))
  passed s c k w q (tree.application p f xs) = wanted k w q (choose (names_predicate s k f) (Err (refused rules.Typing p)) (applied_at p k (count xs) (λ k' first n ts. passed_all s c k' first n ts xs) (application_scheme s c.own p f)))
  passed s c k w q (tree.unary p o a) = wanted k w q (after (λ k'. Ok (at (prefix_sort o) k')) (passed s c k (prefix_sort o) (place_of a) a))
  passed s c k w q (tree.chain p l a xs) = wanted k w q (after (λ r. links_of s c r.1 (is_null a) (place_of a) r.0 xs) (sort_of s c k a))

  -- arguments from left to right, each of which has to pass for its parameter
  pub passed_all : Scope → Context → Known → ℕ → ℕ → List Sort → GhostExprTrees → Passed
  passed_all s c k first n [] no_ghost_expr = Ok k
  passed_all s c k first n [] (more_ghost_expr a xs) = Ok k
  passed_all s c k first n (t ∷ ts) no_ghost_expr = Ok k
  passed_all s c k first n (t ∷ ts) (more_ghost_expr a xs) = after (λ k₁. passed_all s c k₁ first n ts xs) (passed s c k (instance first n t) (place_of a) a)
