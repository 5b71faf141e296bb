-- Each name is a name.
use Rattle.std.proofs.Common.{ℕ, List, [], ◌∷◌}
use Rattle.vf_syntax.specs.declared.item.FixpointBody.{FixpointBody}
use Rattle.vf_syntax.specs.declared.item.FixpointBody.TheVariants as bodies
use Rattle.vf_syntax.specs.declared.item.FixpointCase.{FixpointCase}
use Rattle.vf_syntax.specs.declared.written.Name.{Name}
use Rattle.vf_syntax.specs.GhostExprTree.{GhostExprTree, GhostExprTrees, no_ghost_expr, more_ghost_expr, GhostLinkTree, GhostLinkTrees, no_ghost_link, more_ghost_link}
use Rattle.vf_syntax.specs.GhostExprTree as tree
use Rattle.vf_asserting.specs.Cases.{names_or_none}
use Rattle.vf_fixpoint_laws.specs.definable.Naming.{EachName, EachNameOfAll, EachNameOfBody, EachNameOfCases, EachNameOfLink, EachNameOfLinks, EachOf}

-- any name
abbrev pub Any : List ℕ → Type 0
Any x = Unit {0}

mutual
  any_name : (ls : List (List ℕ)) (e : GhostExprTree) → EachName Any ls e
  any_name ls (tree.number p n i) = tt
  any_name ls (tree.true_ p) = tt
  any_name ls (tree.false_ p) = tt
  any_name ls (tree.result p) = tt
  any_name ls (tree.this_ p) = tt
  any_name ls (tree.current_thread p) = tt
  any_name ls (tree.name_ p x) = λ e. tt
  any_name ls (tree.application p f xs) = (tt, any_of_all ls xs)
  any_name ls (tree.parenthesized p a) = any_name ls a
  any_name ls (tree.conditional p a b d) = (any_name ls a, (any_name ls b, any_name ls d))
  any_name ls (tree.unary p o a) = any_name ls a
  any_name ls (tree.chain p l a xs) = (any_name ls a, any_of_links ls xs)

  any_of_all : (ls : List (List ℕ)) (xs : GhostExprTrees) → EachNameOfAll Any ls xs
  any_of_all ls no_ghost_expr = tt
  any_of_all ls (more_ghost_expr x xs) = (any_name ls x, any_of_all ls xs)

  any_of_link : (ls : List (List ℕ)) (x : GhostLinkTree) → EachNameOfLink Any ls x
  any_of_link ls (tree.ghost_link p o a) = any_name ls a

  any_of_links : (ls : List (List ℕ)) (xs : GhostLinkTrees) → EachNameOfLinks Any ls xs
  any_of_links ls no_ghost_link = tt
  any_of_links ls (more_ghost_link x xs) = (any_of_link ls x, any_of_links ls xs)

any_of : (ns : List Name) → EachOf Any ns
any_of [] = tt
any_of (n ∷ ns) = (tt, any_of ns)

any_of_cases : (ls : List (List ℕ)) (cs : List FixpointCase) → EachNameOfCases Any ls cs
any_of_cases ls [] = tt
any_of_cases ls (x ∷ cs) = (record { constructor = tt; arguments = any_of (names_or_none x.pattern.names); value = any_name _ x.value }, any_of_cases ls cs)

-- in the body of a fixpoint too
pub any_of_body : (ls : List (List ℕ)) (b : FixpointBody) → EachNameOfBody Any ls b
any_of_body ls (bodies.Value e) = any_name ls e
any_of_body ls (bodies.Switch x cs) = any_of_cases ls cs
