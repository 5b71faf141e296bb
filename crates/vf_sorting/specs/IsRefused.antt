-- Which expressions are refused, by which rule and at which place: the first fault in the order of the text, what stands in an expression before what stands around it.
use Rattle.std.specs.Prelude.{◌≡◌, ℕ, Bool, true, false, ◌&&◌, ◌||◌, nat_eq, List, ◌∷◌, length, Some, None, Ok, Err}
use Rattle.vf_base.specs.declared.place.Place.{Place}
use Rattle.vf_base.specs.declared.refusal.Refusal.{Refusal}
use Rattle.vf_base.specs.declared.rule.Rule.TheVariants as rules
use Rattle.vf_sorts.specs.Sorts.{Sort}
use Rattle.vf_sorts.specs.Unknowns.{IsBelow, Known, instance}
use Rattle.vf_sorts.specs.Unifying.{AreApart, Equates}
use Rattle.vf_declared.specs.declared.scope.Scope.{Scope}
use Rattle.vf_syntax.specs.declared.operator.BinaryOperator.{BinaryOperator}
use Rattle.vf_syntax.specs.declared.operator.Level.{Level}
use Rattle.vf_syntax.specs.declared.operator.UnaryOperator.{UnaryOperator}
use Rattle.vf_syntax.specs.GhostExprTree.{GhostExprTree, GhostExprTrees, more_ghost_expr, GhostLinkTree, GhostLinkTrees, more_ghost_link}
use Rattle.vf_syntax.specs.GhostExprTree as tree
use Rattle.vf_sorting.specs.declared.context.Context.{Context}
use Rattle.vf_sorting.specs.declared.scheme.Scheme.{Scheme}
use Rattle.vf_sorting.specs.Kinds.{bool_sort, int_sort, is_any, is_pointer, resolved, with_fresh}
use Rattle.vf_sorting.specs.Schemes.{application_scheme, name_scheme, names_predicate}
use Rattle.vf_sorting.specs.Scopes.{IsSchemeBelow}
use Rattle.vf_sorting.specs.Operators.{count, goes_inside, is_equality, is_null, moves, operand_sort, place_of, prefix_sort}
use Rattle.vf_sorting.specs.Refusals.{refused}
use Rattle.vf_sorting.specs.HasSort.{HasSort, LinkHasSort, Passes}

mutual
  -- an expression is refused
  pub data IsRefused (s : Scope) (c : Context) : Known → GhostExprTree → Refusal → Type 0 where
    no_result : {k : Known} {p : Place} → c.result ≡ None → IsRefused s c k (tree.result p) (refused rules.Name p)
    stray_result : {k : Known} {p : Place} {t : Sort} → c.result ≡ Some t → (IsBelow (length k) t → ⊥) → IsRefused s c k (tree.result p) (refused rules.Typing p)
    no_this : {k : Known} {p : Place} → c.has_this ≡ false → IsRefused s c k (tree.this_ p) (refused rules.Name p)
    no_thread : {k : Known} {p : Place} → c.has_thread ≡ false → IsRefused s c k (tree.current_thread p) (refused rules.Name p)
    no_value : {k : Known} {p : Place} {x : List ℕ} {r : Refusal} → name_scheme s p x ≡ Err r → IsRefused s c k (tree.name_ p x) r
    stray_name : {k : Known} {p : Place} {x : List ℕ} {g : Scheme} → name_scheme s p x ≡ Ok g → (IsSchemeBelow (length k) g → ⊥) → IsRefused s c k (tree.name_ p x) (refused rules.Typing p)
    applied_local : {k : Known} {p : Place} {f : List ℕ} {xs : GhostExprTrees} → names_predicate s k f ≡ true → IsRefused s c k (tree.application p f xs) (refused rules.Typing p)
    no_function : {k : Known} {p : Place} {f : List ℕ} {xs : GhostExprTrees} {r : Refusal} → names_predicate s k f ≡ false → application_scheme s c.own p f ≡ Err r → IsRefused s c k (tree.application p f xs) r
    stray_application : {k : Known} {p : Place} {f : List ℕ} {xs : GhostExprTrees} {g : Scheme} → names_predicate s k f ≡ false → application_scheme s c.own p f ≡ Ok g → (IsSchemeBelow (length k) g → ⊥) → IsRefused s c k (tree.application p f xs) (refused rules.Typing p)
    other_count : {k : Known} {p : Place} {f : List ℕ} {xs : GhostExprTrees} {g : Scheme} → names_predicate s k f ≡ false → application_scheme s c.own p f ≡ Ok g → IsSchemeBelow (length k) g → nat_eq (length g.arguments) (count xs) ≡ false → IsRefused s c k (tree.application p f xs) (refused rules.Typing p)
    argument : {k : Known} {p : Place} {f : List ℕ} {xs : GhostExprTrees} {g : Scheme} {r : Refusal} → names_predicate s k f ≡ false → application_scheme s c.own p f ≡ Ok g → IsSchemeBelow (length k) g → nat_eq (length g.arguments) (count xs) ≡ true → AnyFails s c (with_fresh k g.parameters) (length k) g.parameters g.arguments xs r → IsRefused s c k (tree.application p f xs) r
    parenthesized : {k : Known} {p : Place} {a : GhostExprTree} {r : Refusal} → IsRefused s c k a r → IsRefused s c k (tree.parenthesized p a) r
    test : {k : Known} {p : Place} {a b d : GhostExprTree} {r : Refusal} → Fails s c k bool_sort (place_of a) a r → IsRefused s c k (tree.conditional p a b d) r
    first_branch : {k k₁ : Known} {p : Place} {a b d : GhostExprTree} {r : Refusal} → Passes s c k bool_sort (place_of a) a k₁ → IsRefused s c k₁ b r → IsRefused s c k (tree.conditional p a b d) r
    second_branch : {k k₁ k₂ : Known} {p : Place} {a b d : GhostExprTree} {t : Sort} {r : Refusal} → Passes s c k bool_sort (place_of a) a k₁ → HasSort s c k₁ b t k₂ → FailsToMeet s c k₂ (is_null b) t d r → IsRefused s c k (tree.conditional p a b d) r
    prefixed : {k : Known} {p : Place} {o : UnaryOperator} {a : GhostExprTree} {r : Refusal} → Fails s c k (prefix_sort o) (place_of a) a r → IsRefused s c k (tree.unary p o a) r
    start : {k : Known} {p : Place} {l : Level} {a : GhostExprTree} {xs : GhostLinkTrees} {r : Refusal} → IsRefused s c k a r → IsRefused s c k (tree.chain p l a xs) r
    links : {k k₁ : Known} {p : Place} {l : Level} {a : GhostExprTree} {xs : GhostLinkTrees} {t : Sort} {r : Refusal} → HasSort s c k a t k₁ → LinksFail s c k₁ (is_null a) (place_of a) t xs r → IsRefused s c k (tree.chain p l a xs) r

  -- an expression does not meet the sort of one in front of it, that is or is not a `0`
  pub data FailsToMeet (s : Scope) (c : Context) : Known → Bool → Sort → GhostExprTree → Refusal → Type 0 where
    second : {k : Known} {z : Bool} {t : Sort} {d : GhostExprTree} {r : Refusal} → (is_pointer (resolved k t) && is_null d) ≡ false → IsRefused s c k d r → FailsToMeet s c k z t d r
    apart : {k k' : Known} {z : Bool} {t u : Sort} {d : GhostExprTree} → (is_pointer (resolved k t) && is_null d) ≡ false → HasSort s c k d u k' → (is_pointer (resolved k' u) && z) ≡ false → (is_any (resolved k' t) || is_any (resolved k' u)) ≡ false → AreApart k' u t → FailsToMeet s c k z t d (refused rules.Typing (place_of d))

  -- an operator and its operand are refused behind a left operand, that is or is not a `0`, stands at a place and has a sort
  pub data LinkFails (s : Scope) (c : Context) : Known → Bool → Place → Sort → GhostLinkTree → Refusal → Type 0 where
    compared : {k : Known} {z : Bool} {p q : Place} {t : Sort} {o : BinaryOperator} {a : GhostExprTree} {r : Refusal} → is_equality o ≡ true → FailsToMeet s c k z t a r → LinkFails s c k z p t (tree.ghost_link q o a) r
    moved : {k : Known} {z : Bool} {p q : Place} {t : Sort} {o : BinaryOperator} {a : GhostExprTree} {r : Refusal} → is_equality o ≡ false → moves o (resolved k t) ≡ true → Fails s c k int_sort (place_of a) a r → LinkFails s c k z p t (tree.ghost_link q o a) r
    left : {k : Known} {z : Bool} {p q : Place} {t : Sort} {o : BinaryOperator} {a : GhostExprTree} → is_equality o ≡ false → moves o (resolved k t) ≡ false → AreApart k t (operand_sort o) → LinkFails s c k z p t (tree.ghost_link q o a) (refused rules.Typing p)
    right : {k k₁ : Known} {z : Bool} {p q : Place} {t : Sort} {o : BinaryOperator} {a : GhostExprTree} {r : Refusal} → is_equality o ≡ false → moves o (resolved k t) ≡ false → Equates k t (operand_sort o) k₁ → Fails s c k₁ (operand_sort o) (place_of a) a r → LinkFails s c k z p t (tree.ghost_link q o a) r

  -- the same of operators and operands from left to right
  pub data LinksFail (s : Scope) (c : Context) : Known → Bool → Place → Sort → GhostLinkTrees → Refusal → Type 0 where
    this_link : {k : Known} {z : Bool} {p : Place} {t : Sort} {x : GhostLinkTree} {xs : GhostLinkTrees} {r : Refusal} → LinkFails s c k z p t x r → LinksFail s c k z p t (more_ghost_link x xs) r
    later_link : {k k₁ : Known} {z : Bool} {p : Place} {t u : Sort} {x : GhostLinkTree} {xs : GhostLinkTrees} {r : Refusal} → LinkHasSort s c k z p t x u k₁ → LinksFail s c k₁ false p u xs r → LinksFail s c k z p t (more_ghost_link x xs) r

  -- an expression does not pass for a wanted sort, at a place
  pub data Fails (s : Scope) (c : Context) : Known → Sort → Place → GhostExprTree → Refusal → Type 0 where
    inside : {k : Known} {w : Sort} {q p : Place} {a : GhostExprTree} {r : Refusal} → Fails s c k w q a r → Fails s c k w q (tree.parenthesized p a) r
    choice_test : {k : Known} {w : Sort} {q p : Place} {a b d : GhostExprTree} {r : Refusal} → is_pointer (resolved k w) ≡ true → Fails s c k bool_sort (place_of a) a r → Fails s c k w q (tree.conditional p a b d) r
    choice_first : {k k₁ : Known} {w : Sort} {q p : Place} {a b d : GhostExprTree} {r : Refusal} → is_pointer (resolved k w) ≡ true → Passes s c k bool_sort (place_of a) a k₁ → Fails s c k₁ w (place_of b) b r → Fails s c k w q (tree.conditional p a b d) r
    choice_second : {k k₁ k₂ : Known} {w : Sort} {q p : Place} {a b d : GhostExprTree} {r : Refusal} → is_pointer (resolved k w) ≡ true → Passes s c k bool_sort (place_of a) a k₁ → Passes s c k₁ w (place_of b) b k₂ → Fails s c k₂ w (place_of d) d r → Fails s c k w q (tree.conditional p a b d) r
    no_sort : {k : Known} {w : Sort} {q : Place} {e : GhostExprTree} {r : Refusal} → goes_inside (is_pointer (resolved k w)) e ≡ false → IsRefused s c k e r → Fails s c k w q e r
    other_sort : {k k₁ : Known} {w t : Sort} {q : Place} {e : GhostExprTree} → goes_inside (is_pointer (resolved k w)) e ≡ false → is_any (resolved k w) ≡ false → HasSort s c k e t k₁ → AreApart k₁ t w → Fails s c k w q e (refused rules.Typing q)

  -- one of some arguments does not pass for its parameter, where unknown sorts from a number on stand for so many type parameters
  pub data AnyFails (s : Scope) (c : Context) : Known → ℕ → ℕ → List Sort → GhostExprTrees → Refusal → Type 0 where
    this_argument : {k : Known} {first n : ℕ} {t : Sort} {ts : List Sort} {a : GhostExprTree} {xs : GhostExprTrees} {r : Refusal} → Fails s c k (instance first n t) (place_of a) a r → AnyFails s c k first n (t ∷ ts) (more_ghost_expr a xs) r
    later_argument : {k k₁ : Known} {first n : ℕ} {t : Sort} {ts : List Sort} {a : GhostExprTree} {xs : GhostExprTrees} {r : Refusal} → Passes s c k (instance first n t) (place_of a) a k₁ → AnyFails s c k₁ first n ts xs r → AnyFails s c k first n (t ∷ ts) (more_ghost_expr a xs) r
