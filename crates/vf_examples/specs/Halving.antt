-- A lemma that is accepted by the depth of its precondition's first part, which it opens in two halves, one later than the other.
use Rattle.std.specs.Prelude.{pos, [], ◌∷◌, None, codes}
use Rattle.vf_tree.specs.Core.{LessEqual}
use Rattle.vf_meaning.specs.Fractions.{whole, half}
use Rattle.vf_meaning.specs.Ghost.{Integers, Fractions, Numbered, Number, Compare, GhostExpression}
use Rattle.vf_meaning.specs.Assertions.{ShareTree, Times, Taken, Is, Named, Assertion, Pure, Chunk}
use Rattle.vf_rules.specs.Mutexes.{name}
use Rattle.vf_rules.specs.Lemmas.{OnDepth, LemmaTree}
use Rattle.vf_lemmas.specs.Proves.{AreAcceptedLemmas}
use Rattle.vf_examples.specs.SmallLemmas.{no_program}
use Rattle.vf_examples.specs.Nesting.{nested, nesting}

-- half of f, where f has the number 1
abbrev pub half_of_it : ShareTree
half_of_it = Times (half whole) (Numbered 1 ∷ [])

-- half of `[f]nested(x)`
abbrev pub half_nested : GhostExpression → Assertion
half_nested x = Chunk half_of_it (Named nested) (Is x ∷ [])

-- `[?f]nested(n)`
abbrev pub shared_nested : Assertion
shared_nested = Chunk (Taken (Numbered 1)) (Named nested) (Is (name 0) ∷ [])

-- `lemma void twice(int n) requires [?f]nested(n); ensures 0 <= n;`, whose body opens half of `[f]nested(n)`, and `if (n != 0) twice(n - 1);`, and then does both once more
abbrev pub twice : LemmaTree
twice = record {
  identity = codes "one.c#twice";
  contract = record { sorts = Integers ∷ Fractions ∷ []; parameters = 1; result = None; requires_this = shared_nested; ensures_this = Pure (Compare LessEqual (Number (pos 0)) (name 0)) };
  falls = OnDepth;
}

-- it is accepted
abbrev pub HalvingIsAccepted : Type 0
HalvingIsAccepted = AreAcceptedLemmas nesting no_program (twice ∷ [])
