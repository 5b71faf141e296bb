-- Sorts that agree with what is known behind an expression agree with what was known in front of it.
use Rattle.std.proofs.Common.{◌≡◌, ℕ, zero, suc, Bool, List, [], ◌∷◌, ◌++◌, Some, None, ap}
use Rattle.std.specs.Prelude.{slice_get, replicate}
use Rattle.vf_base.specs.declared.place.Place.{Place}
use Rattle.vf_sorts.specs.Sorts.{Sort}
use Rattle.vf_sorts.specs.Told.{AreAlike, as_told, untold}
use Rattle.vf_sorts.specs.Unknowns.{Agrees, AgreesAsTold, Filling, Known, filled}
use Rattle.vf_sorts.specs.Unifying.{Equates}
use Rattle.vf_sorts.proofs.Agreeing.{agreed_seen, told_respects}
use Rattle.vf_declared.specs.declared.scope.Scope.{Scope}
use Rattle.vf_syntax.specs.GhostExprTree.{GhostExprTree, GhostExprTrees, GhostLinkTree, GhostLinkTrees}
use Rattle.vf_sorting.specs.declared.context.Context.{Context}
use Rattle.vf_sorting.specs.HasSort.{HasSort, number, truth, falsehood, result, this_, thread, name_, application, parenthesized, conditional, prefixed, chain, Meets, null_second, null_first, any_beside, alike, LinkHasSort, compared, moved, joined, LinksHaveSort, no_links, more_links, Passes, inside, null, choice, any_wanted, as_wanted, ArePassed, none_passed, one_passed}
use Rattle.vf_sorting.specs.Kinds.{resolved, with_fresh}

-- what is known with more behind it holds what was known
known_more : (k l : Known) (u : ℕ) (t : Sort) → slice_get k u ≡ Some (Some t) → slice_get (k ++ l) u ≡ Some (Some t)
known_more [] l u t e = absurd cc
known_more (o ∷ k) l zero t e = e
known_more (o ∷ k) l (suc u) t e = known_more k l u t e

pub before_fresh : (f : Filling) (k : Known) (n : ℕ) → AgreesAsTold f (with_fresh k n) → AgreesAsTold f k
before_fresh f k n a u t e = a u t (known_more k (replicate n None) u t e)

-- what agrees as told agrees
pub agrees : (f : Filling) (k : Known) → AgreesAsTold f k → Agrees f k
agrees f k a u t e = ap untold (a u t e)

-- two sorts that were made equal are alike
pub equated : (f : Filling) (k k' : Known) (t u : Sort) → Equates k t u k' → AgreesAsTold f k' → AreAlike (filled f t) (filled f u)
equated f k k' t u e a = ((e.alike f).0 (agrees f k' a)).1

-- what is known may be told in a sort first
pub told_first : (f : Filling) (k : Known) (t : Sort) → AgreesAsTold f k → filled f (resolved k t) ≡ filled f t
told_first f k t a = agreed_seen as_told told_respects f k a t

module _ (s : Scope) (c : Context) (f : Filling) where
  mutual
    pub before : {k k' : Known} {e : GhostExprTree} {t : Sort} → HasSort s c k e t k' → AgreesAsTold f k' → AgreesAsTold f k
    before number a = a
    before truth a = a
    before falsehood a = a
    before (result is below) a = a
    before (this_ is) a = a
    before (thread is) a = a
    before (name_ {k} {g} is below) a = before_fresh f k g.parameters a
    before (application {k} {g} local is below passed) a = before_fresh f k g.parameters (before_passed passed a)
    before (parenthesized h) a = before h a
    before (conditional test h m) a = before_pass test (before h (before_meet m a))
    before (prefixed p) a = before_pass p a
    before (chain h l) a = before h (before_links l a)

    pub before_meet : {k k' : Known} {z : Bool} {t u : Sort} {d : GhostExprTree} → Meets s c k z t d u k' → AgreesAsTold f k' → AgreesAsTold f k
    before_meet (null_second is) a = a
    before_meet (null_first other h is) a = before h a
    before_meet (any_beside other h not_null is) a = before h a
    before_meet (alike other h not_null not_any e) a = before h (e.kept f a)

    pub before_link : {k k' : Known} {z : Bool} {p : Place} {t u : Sort} {x : GhostLinkTree} → LinkHasSort s c k z p t x u k' → AgreesAsTold f k' → AgreesAsTold f k
    before_link (compared is m) a = before_meet m a
    before_link (moved other is p) a = before_pass p a
    before_link (joined other still e p) a = e.kept f (before_pass p a)

    pub before_links : {k k' : Known} {z : Bool} {p : Place} {t u : Sort} {xs : GhostLinkTrees} → LinksHaveSort s c k z p t xs u k' → AgreesAsTold f k' → AgreesAsTold f k
    before_links no_links a = a
    before_links (more_links l ls) a = before_link l (before_links ls a)

    pub before_pass : {k k' : Known} {w : Sort} {q : Place} {e : GhostExprTree} → Passes s c k w q e k' → AgreesAsTold f k' → AgreesAsTold f k
    before_pass (inside p) a = before_pass p a
    before_pass (null is) a = a
    before_pass (choice is test x y) a = before_pass test (before_pass x (before_pass y a))
    before_pass (any_wanted outside is h) a = before h a
    before_pass (as_wanted outside other h e) a = before h (e.kept f a)

    pub before_passed : {k k' : Known} {first n : ℕ} {ts : List Sort} {xs : GhostExprTrees} → ArePassed s c k first n ts xs k' → AgreesAsTold f k' → AgreesAsTold f k
    before_passed none_passed a = a
    before_passed (one_passed p ps) a = before_pass p (before_passed ps a)
