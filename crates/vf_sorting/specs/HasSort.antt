-- Which sorts expressions have, by one rule for each form: from what is known of unknown sorts to what is known then. What names mean has no unknown sorts but those of which something or nothing is known.
use Rattle.std.specs.Prelude.{◌≡◌, ℕ, Bool, true, false, ◌&&◌, ◌||◌, nat_eq, List, [], ◌∷◌, length, Some, Ok}
use Rattle.vf_base.specs.declared.int_type.IntType.{IntType}
use Rattle.vf_base.specs.declared.place.Place.{Place}
use Rattle.vf_sorts.specs.Sorts.{Sort}
use Rattle.vf_sorts.specs.Unknowns.{IsBelow, Known, instance}
use Rattle.vf_sorts.specs.Unifying.{Equates}
use Rattle.vf_declared.specs.declared.scope.Scope.{Scope}
use Rattle.vf_syntax.specs.declared.operator.BinaryOperator.{BinaryOperator}
use Rattle.vf_syntax.specs.declared.operator.Level.{Level}
use Rattle.vf_syntax.specs.declared.operator.UnaryOperator.{UnaryOperator}
use Rattle.vf_syntax.specs.GhostExprTree.{GhostExprTree, GhostExprTrees, no_ghost_expr, more_ghost_expr, GhostLinkTree, GhostLinkTrees, no_ghost_link, more_ghost_link}
use Rattle.vf_syntax.specs.GhostExprTree as tree
use Rattle.vf_sorting.specs.declared.context.Context.{Context}
use Rattle.vf_sorting.specs.declared.scheme.Scheme.{Scheme}
use Rattle.vf_sorting.specs.Kinds.{bool_sort, int_sort, is_any, is_pointer, pointer_sort, resolved, value_sort, with_fresh}
use Rattle.vf_sorting.specs.Schemes.{application_scheme, name_scheme, names_predicate}
use Rattle.vf_sorting.specs.Scopes.{IsSchemeBelow}
use Rattle.vf_sorting.specs.Operators.{goes_inside, is_equality, is_null, moves, operand_sort, place_of, prefix_sort, result_sort}

mutual
  -- an expression has a sort
  pub data HasSort (s : Scope) (c : Context) : Known → GhostExprTree → Sort → Known → Type 0 where
    number : {k : Known} {p : Place} {n : ℕ} {i : IntType} → HasSort s c k (tree.number p n i) int_sort k
    truth : {k : Known} {p : Place} → HasSort s c k (tree.true_ p) bool_sort k
    falsehood : {k : Known} {p : Place} → HasSort s c k (tree.false_ p) bool_sort k
    result : {k : Known} {p : Place} {t : Sort} → c.result ≡ Some t → IsBelow (length k) t → HasSort s c k (tree.result p) t k
    this_ : {k : Known} {p : Place} → c.has_this ≡ true → HasSort s c k (tree.this_ p) pointer_sort k
    thread : {k : Known} {p : Place} → c.has_thread ≡ true → HasSort s c k (tree.current_thread p) int_sort k
    name_ : {k : Known} {p : Place} {x : List ℕ} {g : Scheme} → name_scheme s p x ≡ Ok g → IsSchemeBelow (length k) g → HasSort s c k (tree.name_ p x) (instance (length k) g.parameters g.result) (with_fresh k g.parameters)
    application : {k k' : Known} {p : Place} {f : List ℕ} {xs : GhostExprTrees} {g : Scheme} → names_predicate s k f ≡ false → application_scheme s c.own p f ≡ Ok g → IsSchemeBelow (length k) g → ArePassed s c (with_fresh k g.parameters) (length k) g.parameters g.arguments xs k' → HasSort s c k (tree.application p f xs) (instance (length k) g.parameters g.result) k'
    parenthesized : {k k' : Known} {p : Place} {a : GhostExprTree} {t : Sort} → HasSort s c k a t k' → HasSort s c k (tree.parenthesized p a) t k'
    conditional : {k k₁ k₂ k' : Known} {p : Place} {a b d : GhostExprTree} {t u : Sort} → Passes s c k bool_sort (place_of a) a k₁ → HasSort s c k₁ b t k₂ → Meets s c k₂ (is_null b) t d u k' → HasSort s c k (tree.conditional p a b d) u k'
    prefixed : {k k' : Known} {p : Place} {o : UnaryOperator} {a : GhostExprTree} → Passes s c k (prefix_sort o) (place_of a) a k' → HasSort s c k (tree.unary p o a) (prefix_sort o) k'
    chain : {k k₁ k' : Known} {p : Place} {l : Level} {a : GhostExprTree} {xs : GhostLinkTrees} {t u : Sort} → HasSort s c k a t k₁ → LinksHaveSort s c k₁ (is_null a) (place_of a) t xs u k' → HasSort s c k (tree.chain p l a xs) u k'

  -- an expression meets the sort of one in front of it, that is or is not a `0`, in a sort of both: a `0` is the null pointer beside a pointer, and `any` meets every sort
  pub data Meets (s : Scope) (c : Context) : Known → Bool → Sort → GhostExprTree → Sort → Known → Type 0 where
    null_second : {k : Known} {z : Bool} {t : Sort} {d : GhostExprTree} → (is_pointer (resolved k t) && is_null d) ≡ true → Meets s c k z t d t k
    null_first : {k k' : Known} {z : Bool} {t u : Sort} {d : GhostExprTree} → (is_pointer (resolved k t) && is_null d) ≡ false → HasSort s c k d u k' → (is_pointer (resolved k' u) && z) ≡ true → Meets s c k z t d u k'
    any_beside : {k k' : Known} {z : Bool} {t u : Sort} {d : GhostExprTree} → (is_pointer (resolved k t) && is_null d) ≡ false → HasSort s c k d u k' → (is_pointer (resolved k' u) && z) ≡ false → (is_any (resolved k' t) || is_any (resolved k' u)) ≡ true → Meets s c k z t d value_sort k'
    alike : {k k₁ k' : Known} {z : Bool} {t u : Sort} {d : GhostExprTree} → (is_pointer (resolved k t) && is_null d) ≡ false → HasSort s c k d u k₁ → (is_pointer (resolved k₁ u) && z) ≡ false → (is_any (resolved k₁ t) || is_any (resolved k₁ u)) ≡ false → Equates k₁ u t k' → Meets s c k z t d t k'

  -- an operator and its operand have a sort behind a left operand, that is or is not a `0`, stands at a place and has a sort
  pub data LinkHasSort (s : Scope) (c : Context) : Known → Bool → Place → Sort → GhostLinkTree → Sort → Known → Type 0 where
    compared : {k k' : Known} {z : Bool} {p q : Place} {t u : Sort} {o : BinaryOperator} {a : GhostExprTree} → is_equality o ≡ true → Meets s c k z t a u k' → LinkHasSort s c k z p t (tree.ghost_link q o a) bool_sort k'
    moved : {k k' : Known} {z : Bool} {p q : Place} {t : Sort} {o : BinaryOperator} {a : GhostExprTree} → is_equality o ≡ false → moves o (resolved k t) ≡ true → Passes s c k int_sort (place_of a) a k' → LinkHasSort s c k z p t (tree.ghost_link q o a) pointer_sort k'
    joined : {k k₁ k' : Known} {z : Bool} {p q : Place} {t : Sort} {o : BinaryOperator} {a : GhostExprTree} → is_equality o ≡ false → moves o (resolved k t) ≡ false → Equates k t (operand_sort o) k₁ → Passes s c k₁ (operand_sort o) (place_of a) a k' → LinkHasSort s c k z p t (tree.ghost_link q o a) (result_sort o) k'

  -- the same of operators and operands from left to right
  pub data LinksHaveSort (s : Scope) (c : Context) : Known → Bool → Place → Sort → GhostLinkTrees → Sort → Known → Type 0 where
    no_links : {k : Known} {z : Bool} {p : Place} {t : Sort} → LinksHaveSort s c k z p t no_ghost_link t k
    more_links : {k k₁ k' : Known} {z : Bool} {p : Place} {t u v : Sort} {x : GhostLinkTree} {xs : GhostLinkTrees} → LinkHasSort s c k z p t x u k₁ → LinksHaveSort s c k₁ false p u xs v k' → LinksHaveSort s c k z p t (more_ghost_link x xs) v k'

  -- an expression passes for a wanted sort, and is refused at a place where it does not
  pub data Passes (s : Scope) (c : Context) : Known → Sort → Place → GhostExprTree → Known → Type 0 where
    inside : {k k' : Known} {w : Sort} {q p : Place} {a : GhostExprTree} → Passes s c k w q a k' → Passes s c k w q (tree.parenthesized p a) k'
    null : {k : Known} {w : Sort} {q p : Place} {n : ℕ} {i : IntType} → (is_pointer (resolved k w) && nat_eq n 0) ≡ true → Passes s c k w q (tree.number p n i) k
    choice : {k k₁ k₂ k' : Known} {w : Sort} {q p : Place} {a b d : GhostExprTree} → is_pointer (resolved k w) ≡ true → Passes s c k bool_sort (place_of a) a k₁ → Passes s c k₁ w (place_of b) b k₂ → Passes s c k₂ w (place_of d) d k' → Passes s c k w q (tree.conditional p a b d) k'
    any_wanted : {k k' : Known} {w t : Sort} {q : Place} {e : GhostExprTree} → goes_inside (is_pointer (resolved k w)) e ≡ false → is_any (resolved k w) ≡ true → HasSort s c k e t k' → Passes s c k w q e k'
    as_wanted : {k k₁ k' : Known} {w t : Sort} {q : Place} {e : GhostExprTree} → goes_inside (is_pointer (resolved k w)) e ≡ false → is_any (resolved k w) ≡ false → HasSort s c k e t k₁ → Equates k₁ t w k' → Passes s c k w q e k'

  -- arguments pass for parameters of these sorts, one for each, where unknown sorts from a number on stand for so many type parameters
  pub data ArePassed (s : Scope) (c : Context) : Known → ℕ → ℕ → List Sort → GhostExprTrees → Known → Type 0 where
    none_passed : {k : Known} {first n : ℕ} → ArePassed s c k first n [] no_ghost_expr k
    one_passed : {k k₁ k' : Known} {first n : ℕ} {t : Sort} {ts : List Sort} {a : GhostExprTree} {xs : GhostExprTrees} → Passes s c k (instance first n t) (place_of a) a k₁ → ArePassed s c k₁ first n ts xs k' → ArePassed s c k first n (t ∷ ts) (more_ghost_expr a xs) k'
