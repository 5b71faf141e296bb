-- What is so of each call of a fixpoint in an expression that has a sort.
use Rattle.std.proofs.Common.{◌≡◌, ℕ, Bool, true, List, length, Ok}
use Rattle.std.specs.Prelude.{IsTrue}
use Rattle.vf_base.specs.declared.place.Place.{Place}
use Rattle.vf_sorts.specs.Sorts.{Sort}
use Rattle.vf_sorts.specs.Unknowns.{AgreesAsTold, Filling, Known}
use Rattle.vf_syntax.specs.GhostExprTree.{GhostExprTree, GhostExprTrees, no_ghost_expr, more_ghost_expr, GhostLinkTree, GhostLinkTrees, no_ghost_link, more_ghost_link}
use Rattle.vf_syntax.specs.GhostExprTree as tree
use Rattle.vf_declared.specs.declared.scope.Scope.{Scope}
use Rattle.vf_sorting.specs.declared.context.Context.{Context}
use Rattle.vf_sorting.specs.declared.scheme.Scheme.{Scheme}
use Rattle.vf_sorting.specs.HasSort.{HasSort, number, truth, falsehood, result, this_, thread, name_, application, parenthesized, conditional, prefixed, chain, Meets, null_second, null_first, any_beside, alike, LinkHasSort, compared, moved, joined, LinksHaveSort, no_links, more_links, Passes, inside, null, choice, any_wanted, as_wanted, ArePassed, none_passed, one_passed}
use Rattle.vf_sorting.specs.Kinds.{with_fresh}
use Rattle.vf_sorting.specs.Operators.{is_null}
use Rattle.vf_sorting.specs.Schemes.{application_scheme}
use Rattle.vf_fixpoint.specs.Calls.{AllGoDown, GoesDown, LinkGoesDown, LinksGoDown, Recursion, passes}
use Rattle.vf_fixpoint_laws.proofs.values.Before.{before, before_links, before_meet, before_pass, before_passed}
use Rattle.vf_fixpoint_laws.proofs.values.Operating.{second_of}

-- something is so of the arguments of each application of a name
module _ (name : List ℕ) (Of : GhostExprTrees → Type 0) where
  abbrev mutual
    -- in an expression
    pub CallsAre : GhostExprTree → Type 0
    CallsAre (tree.number p a b) = Unit {0}
    CallsAre (tree.true_ p) = Unit {0}
    CallsAre (tree.false_ p) = Unit {0}
    CallsAre (tree.result p) = Unit {0}
    CallsAre (tree.this_ p) = Unit {0}
    CallsAre (tree.current_thread p) = Unit {0}
    CallsAre (tree.name_ p x) = Unit {0}
    CallsAre (tree.application p x xs) = AllCallsAre xs × (x ≡ name → Of xs)
    CallsAre (tree.parenthesized p a) = CallsAre a
    CallsAre (tree.conditional p a b c) = CallsAre a × CallsAre b × CallsAre c
    CallsAre (tree.unary p o a) = CallsAre a
    CallsAre (tree.chain p v a ls) = CallsAre a × LinksCallsAre ls

    -- in arguments
    pub AllCallsAre : GhostExprTrees → Type 0
    AllCallsAre no_ghost_expr = Unit {0}
    AllCallsAre (more_ghost_expr x xs) = CallsAre x × AllCallsAre xs

    -- in operands behind another
    pub LinksCallsAre : GhostLinkTrees → Type 0
    LinksCallsAre no_ghost_link = Unit {0}
    LinksCallsAre (more_ghost_link l ls) = LinkCallsAre l × LinksCallsAre ls

    -- in an operator's right operand
    pub LinkCallsAre : GhostLinkTree → Type 0
    LinkCallsAre (tree.ghost_link p o a) = CallsAre a

-- what is so of arguments that are passed where the fixpoint is applied, and that have a component where it is asked for, is so of each call that goes down
module _ (s : Scope) (c : Context) (f : Filling) (r : Recursion) (Of : GhostExprTrees → Type 0)
    (own : (p : Place) (x : List ℕ) (g : Scheme) (k k' : Known) (first m : ℕ) (xs : GhostExprTrees) → x ≡ r.name → application_scheme s c.own p x ≡ Ok g → ArePassed s c k first m g.arguments xs k' → AgreesAsTold f k' → IsTrue (passes r.components r.parameter xs) → Of xs) where
  abbrev Are : GhostExprTree → Type 0
  Are e = CallsAre r.name Of e

  -- no call stands in a `0`
  null_calls : (e : GhostExprTree) → is_null e ≡ true → Are e
  null_calls (tree.number p n i) e = tt
  null_calls (tree.parenthesized p a) e = null_calls a e
  null_calls (tree.true_ p) e = tt
  null_calls (tree.false_ p) e = tt
  null_calls (tree.result p) e = tt
  null_calls (tree.this_ p) e = tt
  null_calls (tree.current_thread p) e = tt
  null_calls (tree.name_ p x) e = tt
  null_calls (tree.application p x xs) e = absurd cc
  null_calls (tree.conditional p a b d) e = absurd cc
  null_calls (tree.unary p o a) e = absurd cc
  null_calls (tree.chain p v a ls) e = absurd cc

  mutual
    pub sorted_calls : {k k' : Known} {e : GhostExprTree} {t : Sort} → HasSort s c k e t k' → AgreesAsTold f k' → GoesDown r e → Are e
    sorted_calls number a g = tt
    sorted_calls truth a g = tt
    sorted_calls falsehood a g = tt
    sorted_calls (result is below) a g = tt
    sorted_calls (this_ is) a g = tt
    sorted_calls (thread is) a g = tt
    sorted_calls (name_ is below) a g = tt
    sorted_calls (application {k} {k'} {p} {f = x} {xs} {g = z} local is below passed) a g = (passed_calls passed a g.0, λ same. own p x z (with_fresh k z.parameters) k' (length k) z.parameters xs same is passed a (g.1 same))
    sorted_calls (parenthesized h) a g = sorted_calls h a g
    sorted_calls (conditional test h m) a g =
        let b = before_meet s c f m a in
        (passing_calls test (before s c f h b) g.0, sorted_calls h b g.1, meeting_calls m a g.2)
    sorted_calls (prefixed p) a g = passing_calls p a g
    sorted_calls (chain h l) a g = (sorted_calls h (before_links s c f l a) g.0, links_calls l a g.1)

    meeting_calls : {k k' : Known} {z : Bool} {t u : Sort} {d : GhostExprTree} → Meets s c k z t d u k' → AgreesAsTold f k' → GoesDown r d → Are d
    meeting_calls (null_second {d} is) a g = null_calls d (second_of _ (is_null d) is)
    meeting_calls (null_first other h is) a g = sorted_calls h a g
    meeting_calls (any_beside other h not_null is) a g = sorted_calls h a g
    meeting_calls (alike other h not_null not_any e) a g = sorted_calls h (e.kept f a) g

    link_calls : {k k' : Known} {z : Bool} {p : Place} {t u : Sort} {x : GhostLinkTree} → LinkHasSort s c k z p t x u k' → AgreesAsTold f k' → LinkGoesDown r x → LinkCallsAre r.name Of x
    link_calls (compared is m) a g = meeting_calls m a g
    link_calls (moved other is p) a g = passing_calls p a g
    link_calls (joined other still e p) a g = passing_calls p a g

    links_calls : {k k' : Known} {z : Bool} {p : Place} {t u : Sort} {xs : GhostLinkTrees} → LinksHaveSort s c k z p t xs u k' → AgreesAsTold f k' → LinksGoDown r xs → LinksCallsAre r.name Of xs
    links_calls no_links a g = tt
    links_calls (more_links l ls) a g = (link_calls l (before_links s c f ls a) g.0, links_calls ls a g.1)

    pub passing_calls : {k k' : Known} {w : Sort} {q : Place} {e : GhostExprTree} → Passes s c k w q e k' → AgreesAsTold f k' → GoesDown r e → Are e
    passing_calls (inside p) a g = passing_calls p a g
    passing_calls (null is) a g = tt
    passing_calls (choice is test x y) a g =
        let b = before_pass s c f y a in
        (passing_calls test (before_pass s c f x b) g.0, passing_calls x b g.1, passing_calls y a g.2)
    passing_calls (any_wanted outside is h) a g = sorted_calls h a g
    passing_calls (as_wanted outside other h e) a g = sorted_calls h (e.kept f a) g

    passed_calls : {k k' : Known} {first m : ℕ} {ts : List Sort} {xs : GhostExprTrees} → ArePassed s c k first m ts xs k' → AgreesAsTold f k' → AllGoDown r xs → AllCallsAre r.name Of xs
    passed_calls none_passed a g = tt
    passed_calls (one_passed p ps) a g = (passing_calls p (before_passed s c f ps a) g.0, passed_calls ps a g.1)
