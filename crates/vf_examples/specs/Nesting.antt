-- A lemma that is accepted by the depth of its precondition's first part: it proves by induction on a predicate that a number is not negative.
use Rattle.std.specs.Prelude.{pos, false, cond, [], ◌∷◌, Option, Some, None, codes}
use Rattle.vf_tree.specs.Core.{Identity, Subtract, Equal, LessEqual}
use Rattle.vf_model.specs.Values.{same_identity}
use Rattle.vf_meaning.specs.Ghost.{Integers, Number, Arithmetic, Compare, GhostExpression}
use Rattle.vf_meaning.specs.Assertions.{Is, Named, Assertion, Pure, Empty, Choose, Chunk, BodyName, Plain, Instance, BodyTree, Environment}
use Rattle.vf_rules.specs.Mutexes.{full, name}
use Rattle.vf_rules.specs.Lemmas.{OnDepth, LemmaTree}
use Rattle.vf_lemmas.specs.Proves.{AreAcceptedLemmas}
use Rattle.vf_examples.specs.SmallLemmas.{no_program}

-- a predicate's identity
abbrev pub nested : Identity
nested = codes "one.c#nested"

-- `n - 1`
abbrev pub one_less : GhostExpression
one_less = Arithmetic Subtract (name 0) (Number (pos 1))

-- `nested(x)`
abbrev pub is_nested : GhostExpression → Assertion
is_nested x = Chunk full (Named nested) (Is x ∷ [])

-- `n == 0`
abbrev pub is_zero : GhostExpression
is_zero = Compare Equal (name 0) (Number (pos 0))

-- `predicate nested(int n) = n == 0 ? emp : nested(n - 1)`
abbrev pub nested_body : BodyTree
nested_body = record { sorts = Integers ∷ []; parameters = 1; assertion = Choose is_zero Empty (is_nested one_less) }

-- the bodies of the example
abbrev pub nesting_bodies : BodyName → Option BodyTree
nesting_bodies (Plain q) = cond (same_identity nested q) (Some nested_body) None
nesting_bodies (Instance q g) = None

-- what is declared
abbrev pub nesting : Environment
nesting = record {
  constructors = λ c. None;
  fixpoints = [];
  claims = λ g t. false;
  predicates = λ q. None;
  bodies = nesting_bodies;
  functions = λ g. None;
  prototypes = λ g. None;
  types = λ t. None;
  called = λ g n. None;
  leaks = λ text. false;
  calls = λ text g. false;
}

-- `lemma void not_negative(int n) requires nested(n); ensures 0 <= n; { open nested(n); if (n != 0) not_negative(n - 1); }`
abbrev pub not_negative : LemmaTree
not_negative = record {
  identity = codes "one.c#not_negative";
  contract = record { sorts = Integers ∷ []; parameters = 1; result = None; requires_this = is_nested (name 0); ensures_this = Pure (Compare LessEqual (Number (pos 0)) (name 0)) };
  falls = OnDepth;
}

-- it is accepted
abbrev pub NestingIsAccepted : Type 0
NestingIsAccepted = AreAcceptedLemmas nesting no_program (not_negative ∷ [])
