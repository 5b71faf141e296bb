-- Expressions have the sorts that they have where what is declared of their names is preserved.
use Rattle.std.proofs.Common.{◌∙◌, ℕ, Bool, List}
use Rattle.vf_base.specs.declared.place.Place.{Place}
use Rattle.vf_sorts.specs.Sorts.{Sort}
use Rattle.vf_sorts.specs.Unknowns.{Known}
use Rattle.vf_declared.specs.declared.scope.Scope.{Scope}
use Rattle.vf_syntax.specs.GhostExprTree.{GhostExprTree, GhostExprTrees, GhostLinkTree, GhostLinkTrees}
use Rattle.vf_sorting.specs.declared.context.Context.{Context}
use Rattle.vf_sorting.specs.HasSort as has
use Rattle.vf_equations.specs.Values as values
use Rattle.vf_fixpoint_laws.specs.definable.Naming.{EachName, EachNameOfAll, EachNameOfLink, EachNameOfLinks}
use Rattle.vf_fixpoint_laws.specs.definable.Preserved.{Preserves}
use Rattle.vf_fixpoint_laws.proofs.definable.Names.{application_kept, name_kept, predicate_same}

mutual
  -- an expression
  pub sort_kept : {P : List ℕ → Type 0} {s t : Scope} → Preserves P s t → {c : Context} {k k' : Known} {e : GhostExprTree} {u : Sort} → EachName P s.locals.names e → has.HasSort s c k e u k' → has.HasSort t c k e u k'
  sort_kept h n has.number = has.number
  sort_kept h n has.truth = has.truth
  sort_kept h n has.falsehood = has.falsehood
  sort_kept h n (has.result e b) = has.result e b
  sort_kept h n (has.this_ e) = has.this_ e
  sort_kept h n (has.thread e) = has.thread e
  sort_kept h n (has.name_ {p = p} {x = x} {g = g} e b) = has.name_ (name_kept h p x n g e) b
  sort_kept h {c = c} n (has.application {k = k} {p = p} {f = f} {g = g} l e b a) = has.application (predicate_same h k f ∙ l) (application_kept h c.own p f n.0 g e) b (arguments_kept h n.1 a)
  sort_kept h n (has.parenthesized a) = has.parenthesized (sort_kept h n a)
  sort_kept h n (has.conditional a b m) = has.conditional (pass_kept h n.0 a) (sort_kept h n.1.0 b) (meeting_kept h n.1.1 m)
  sort_kept h n (has.prefixed a) = has.prefixed (pass_kept h n a)
  sort_kept h n (has.chain a l) = has.chain (sort_kept h n.0 a) (links_kept h n.1 l)

  -- an expression that meets a sort
  meeting_kept : {P : List ℕ → Type 0} {s t : Scope} → Preserves P s t → {c : Context} {k k' : Known} {z : Bool} {u v : Sort} {d : GhostExprTree} → EachName P s.locals.names d → has.Meets s c k z u d v k' → has.Meets t c k z u d v k'
  meeting_kept h n (has.null_second e) = has.null_second e
  meeting_kept h n (has.null_first l a z) = has.null_first l (sort_kept h n a) z
  meeting_kept h n (has.any_beside l a z y) = has.any_beside l (sort_kept h n a) z y
  meeting_kept h n (has.alike l a z y q) = has.alike l (sort_kept h n a) z y q

  -- an operator and its operand
  link_kept : {P : List ℕ → Type 0} {s t : Scope} → Preserves P s t → {c : Context} {k k' : Known} {z : Bool} {p : Place} {u v : Sort} {x : GhostLinkTree} → EachNameOfLink P s.locals.names x → has.LinkHasSort s c k z p u x v k' → has.LinkHasSort t c k z p u x v k'
  link_kept h n (has.compared e m) = has.compared e (meeting_kept h n m)
  link_kept h n (has.moved e m a) = has.moved e m (pass_kept h n a)
  link_kept h n (has.joined e m q a) = has.joined e m q (pass_kept h n a)

  links_kept : {P : List ℕ → Type 0} {s t : Scope} → Preserves P s t → {c : Context} {k k' : Known} {z : Bool} {p : Place} {u v : Sort} {xs : GhostLinkTrees} → EachNameOfLinks P s.locals.names xs → has.LinksHaveSort s c k z p u xs v k' → has.LinksHaveSort t c k z p u xs v k'
  links_kept h n has.no_links = has.no_links
  links_kept h n (has.more_links x xs) = has.more_links (link_kept h n.0 x) (links_kept h n.1 xs)

  -- an expression that passes for a sort
  pub pass_kept : {P : List ℕ → Type 0} {s t : Scope} → Preserves P s t → {c : Context} {k k' : Known} {w : Sort} {q : Place} {e : GhostExprTree} → EachName P s.locals.names e → has.Passes s c k w q e k' → has.Passes t c k w q e k'
  pass_kept h n (has.inside a) = has.inside (pass_kept h n a)
  pass_kept h n (has.null e) = has.null e
  pass_kept h n (has.choice e a b d) = has.choice e (pass_kept h n.0 a) (pass_kept h n.1.0 b) (pass_kept h n.1.1 d)
  pass_kept h n (has.any_wanted l y a) = has.any_wanted l y (sort_kept h n a)
  pass_kept h n (has.as_wanted l y a q) = has.as_wanted l y (sort_kept h n a) q

  -- arguments
  arguments_kept : {P : List ℕ → Type 0} {s t : Scope} → Preserves P s t → {c : Context} {k k' : Known} {first n : ℕ} {ts : List Sort} {xs : GhostExprTrees} → EachNameOfAll P s.locals.names xs → has.ArePassed s c k first n ts xs k' → has.ArePassed t c k first n ts xs k'
  arguments_kept h n has.none_passed = has.none_passed
  arguments_kept h n (has.one_passed a b) = has.one_passed (pass_kept h n.0 a) (arguments_kept h n.1 b)

-- a value of a fixpoint
pub value_kept : {P : List ℕ → Type 0} {s t : Scope} → Preserves P s t → {c : Context} {u : Sort} {k k' : Known} {e : GhostExprTree} → EachName P s.locals.names e → values.ValuePasses s c u k e k' → values.ValuePasses t c u k e k'
value_kept h n (values.passes b a) = values.passes b (pass_kept h n a)
