-- The fixpoints of a unit in the order in which they are declared, with their bodies as terms; and the fixpoints of an environment that they are.
use Rattle.std.specs.Prelude.{◌≡◌, ◌⊎◌, ℕ, ◌+◌, ◌≤◌, ◌<◌, List, [], ◌∷◌, length, Contains, Option, Some, None}
use Rattle.vf_tree.specs.Core.{Identity}
use Rattle.vf_meaning.specs.Ghost.{Sort, Name, Numbered, FixpointTree}
use Rattle.vf_closure.specs.Terms.{Other, Head, Symbol, Fixpoint, Term, Terms, term, no_terms, and_term}
use Rattle.vf_formula.specs.Heads.{shown_kind}
use Rattle.vf_definitions.specs.Unfolded.{term_at}
use Rattle.vf_definitions.specs.declared.fixpoint.Case.{Case}
use Rattle.vf_definitions.specs.declared.fixpoint.Body.{Body}
use Rattle.vf_definitions.specs.declared.fixpoint.Body.TheVariants.{Returns, Switches}
use Rattle.vf_definitions.specs.declared.fixpoint.Fixpoint as definitions
use Rattle.vf_entailment.specs.Trees.{body_as, tree_of}

-- a fixpoint as the text declares it: the sorts of its parameters and of its result, and its body as terms
pub record Written : Type 0 where
  pub identity : Identity
  pub sorts : List Sort
  pub result : Sort
  pub body : Body

-- ---- bodies that go down
-- a name is one of so many behind so many parameters
abbrev pub IsNameOf : ℕ → ℕ → Name → Type 0
IsNameOf n m (Numbered j) = (n ≤ j) × (j < n + m)
IsNameOf n m x = ⊥

-- a head is the symbol of such a name, which no integer has
abbrev pub IsSymbolOf : ℕ → ℕ → Head → Type 0
IsSymbolOf n m (Symbol Other x) = IsNameOf n m x
IsSymbolOf n m h = ⊥

-- an argument is a name of the case
abbrev pub IsNameOfCase : ℕ → ℕ → Option Term → Type 0
IsNameOfCase n m (Some (term h ts)) = IsSymbolOf n m h
IsNameOfCase n m None = ⊥

-- each application in a term is of an earlier fixpoint, or of the fixpoint itself at arguments that are smaller
module _ (earlier : List Identity) (own : Identity) (AreSmaller : Terms → Type 0) where
  -- the same of a head over arguments
  abbrev pub HeadGoesBack : Head → Terms → Type 0
  HeadGoesBack (Fixpoint k f) ts = Contains earlier f ⊎ ((f ≡ own) × AreSmaller ts)
  HeadGoesBack h ts = Unit {0}

  abbrev mutual
    pub TermGoesBack : Term → Type 0
    TermGoesBack (term h ts) = HeadGoesBack h ts × TermsGoBack ts

    pub TermsGoBack : Terms → Type 0
    TermsGoBack no_terms = Unit {0}
    TermsGoBack (and_term t ts) = TermGoesBack t × TermsGoBack ts

-- nothing is smaller where a body has no cases
abbrev pub NoneIsSmaller : Terms → Type 0
NoneIsSmaller ts = ⊥

-- arguments are smaller in a case: at the place of the parameter that is switched over stands a name of the case
abbrev pub IsSmallerIn : ℕ → ℕ → ℕ → Terms → Type 0
IsSmallerIn n place names ts = IsNameOfCase n names (term_at ts place)

-- a body with so many parameters goes back
abbrev pub BodyGoesBack : List Identity → Identity → ℕ → Body → Type 0
BodyGoesBack earlier own n (Returns t) = TermGoesBack earlier own NoneIsSmaller t
BodyGoesBack earlier own n (Switches place cases) = (y : Case) → Contains cases y → TermGoesBack earlier own (IsSmallerIn n place y.names) y.result

-- fixpoints stand in the order of their declaration, behind earlier ones: each has an identity of its own, and its body goes back
abbrev pub StandInOrder : List Identity → List Written → Type 0
StandInOrder earlier [] = Unit {0}
StandInOrder earlier (x ∷ xs) = (Contains earlier x.identity → ⊥) × BodyGoesBack earlier x.identity (length x.sorts) x.body × StandInOrder (x.identity ∷ earlier) xs

-- ---- what they are elsewhere
-- the fixpoint of an environment that one is
abbrev pub tree_for : Written → FixpointTree
tree_for x = tree_of x.identity x.sorts x.result x.body

-- those that several are, the last first, in front of earlier ones
abbrev pub in_front : List FixpointTree → List Written → List FixpointTree
in_front trees [] = trees
in_front trees (x ∷ xs) = in_front (tree_for x ∷ trees) xs

-- the fixpoints of an environment that those of a unit are
abbrev pub trees_for : List Written → List FixpointTree
trees_for xs = in_front [] xs

-- A definition of the prover is that of a fixpoint: with its identity and as many parameters, and its body where results are taken as ones of the definition's kind
pub record IsDefinitionOf (f : definitions.Fixpoint) (x : Written) : Type 0 where
  pub identity : f.identity ≡ x.identity
  pub number : length x.sorts ≡ f.parameters
  pub body : f.body ≡ body_as (shown_kind f.kind) x.body

-- definitions are those of fixpoints: each is that of one of them
abbrev pub AreDefinitionsOf : List definitions.Fixpoint → List Written → Type 0
AreDefinitionsOf fs xs = (f : definitions.Fixpoint) → Contains fs f → (x : Written) × Contains xs x × IsDefinitionOf f x
