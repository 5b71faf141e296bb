-- The names in expressions and in bodies of fixpoints.
use Rattle.std.specs.Prelude.{◌≡◌, ℕ, false, is_some, List, [], ◌∷◌, ◌++◌, map}
use Rattle.vf_names.specs.Names.{number_of}
use Rattle.vf_syntax.specs.declared.item.FixpointBody.{FixpointBody}
use Rattle.vf_syntax.specs.declared.item.FixpointBody.TheVariants as bodies
use Rattle.vf_syntax.specs.declared.item.FixpointCase.{FixpointCase}
use Rattle.vf_syntax.specs.declared.written.Name.{Name}
use Rattle.vf_syntax.specs.GhostExprTree.{GhostExprTree, GhostExprTrees, no_ghost_expr, more_ghost_expr, GhostLinkTree, GhostLinkTrees, no_ghost_link, more_ghost_link}
use Rattle.vf_syntax.specs.GhostExprTree as tree
use Rattle.vf_asserting.specs.Cases.{names_or_none}

abbrev mutual
  -- each name in an expression is such, but for those of locals as values
  pub EachName : (List ℕ → Type 0) → List (List ℕ) → GhostExprTree → Type 0
  EachName P ls (tree.number p n i) = Unit {0}
  EachName P ls (tree.true_ p) = Unit {0}
  EachName P ls (tree.false_ p) = Unit {0}
  EachName P ls (tree.result p) = Unit {0}
  EachName P ls (tree.this_ p) = Unit {0}
  EachName P ls (tree.current_thread p) = Unit {0}
  EachName P ls (tree.name_ p x) = is_some (number_of ls x) ≡ false → P x
  EachName P ls (tree.application p f xs) = P f × EachNameOfAll P ls xs
  EachName P ls (tree.parenthesized p a) = EachName P ls a
  EachName P ls (tree.conditional p a b d) = EachName P ls a × (EachName P ls b × EachName P ls d)
  EachName P ls (tree.unary p o a) = EachName P ls a
  EachName P ls (tree.chain p l a xs) = EachName P ls a × EachNameOfLinks P ls xs

  -- so it is in expressions one after the other
  pub EachNameOfAll : (List ℕ → Type 0) → List (List ℕ) → GhostExprTrees → Type 0
  EachNameOfAll P ls no_ghost_expr = Unit {0}
  EachNameOfAll P ls (more_ghost_expr x xs) = EachName P ls x × EachNameOfAll P ls xs

  -- so it is in the operand behind an operator
  pub EachNameOfLink : (List ℕ → Type 0) → List (List ℕ) → GhostLinkTree → Type 0
  EachNameOfLink P ls (tree.ghost_link p o a) = EachName P ls a

  -- and in operators and operands one after the other
  pub EachNameOfLinks : (List ℕ → Type 0) → List (List ℕ) → GhostLinkTrees → Type 0
  EachNameOfLinks P ls no_ghost_link = Unit {0}
  EachNameOfLinks P ls (more_ghost_link x xs) = EachNameOfLink P ls x × EachNameOfLinks P ls xs

-- each of some names is such
abbrev pub EachOf : (List ℕ → Type 0) → List Name → Type 0
EachOf P [] = Unit {0}
EachOf P (n ∷ ns) = P n.text × EachOf P ns

-- each name in a case is such: that of the constructor, those for its arguments, and those in the value, where the names for the arguments are locals too
pub record EachNameOfCase (P : List ℕ → Type 0) (ls : List (List ℕ)) (x : FixpointCase) : Type 0 where
  pub constructor : P x.pattern.constructor.text
  pub arguments : EachOf P (names_or_none x.pattern.names)
  pub value : EachName P (ls ++ map (λ (n : Name). n.text) (names_or_none x.pattern.names)) x.value

-- so it is in cases one after the other
abbrev pub EachNameOfCases : (List ℕ → Type 0) → List (List ℕ) → List FixpointCase → Type 0
EachNameOfCases P ls [] = Unit {0}
EachNameOfCases P ls (x ∷ xs) = EachNameOfCase P ls x × EachNameOfCases P ls xs

-- each name in the body of a fixpoint is such, but for those of locals as values, which its parameters are
abbrev pub EachNameOfBody : (List ℕ → Type 0) → List (List ℕ) → FixpointBody → Type 0
EachNameOfBody P ls (bodies.Value e) = EachName P ls e
EachNameOfBody P ls (bodies.Switch x cs) = EachNameOfCases P ls cs
