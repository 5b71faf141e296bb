-- The limit of a question's terms.
use Rattle.std.specs.Prelude.{Bool, nat_lt, List, length}
use Rattle.vf_closure.specs.Literals.{Literal}
use Rattle.vf_question.specs.declared.numbering.TheConstants.{MOST_TERMS}
use Rattle.vf_answer.specs.Answers.{asked_terms}

-- whether a question has more terms than it may: those that its facts and its goal compare, with all that stands in them, each once
unfoldable pub has_too_many_terms : List Literal → Literal → Bool
has_too_many_terms path goal = nat_lt MOST_TERMS (length (asked_terms path goal))
