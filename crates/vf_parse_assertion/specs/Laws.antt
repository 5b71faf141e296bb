-- What is known of what is read.
use Rattle.std.specs.Prelude.{◌≡◌, ℕ, ◌+◌, List}
use Rattle.vf_syntax.specs.AssertionTree.{PartTree, part_list}
use Rattle.vf_syntax.specs.Walks.{Walk}
use Rattle.vf_syntax.specs.Assertions.{assertion, parts_nesting}
use Rattle.vf_parse_term.specs.Laws.{IsSpelled}
use Rattle.vf_parse_assertion.specs.Parsers.{assertion_at}

-- how an assertion is spelled, by its parts
abbrev pub assertion_walk : List PartTree → Walk
assertion_walk xs = assertion (part_list xs)

-- how deep an assertion nests, itself counted
abbrev pub assertion_depth : List PartTree → ℕ
assertion_depth xs = parts_nesting (part_list xs) + 1

-- the tokens that were taken spell the assertion, which nests no deeper than it may
abbrev pub AssertionsAreSpelled : Type 0
AssertionsAreSpelled = (d : ℕ) → IsSpelled (assertion_at d) assertion_walk assertion_depth d
