-- Parsers of contracts, claims and invariants, whose assertions nest at most so deep, themselves counted.
use Rattle.std.specs.Prelude.{ℕ, Bool, List, Option, Some, None, if◌then◌else◌}
use Rattle.vf_base.specs.declared.place.Place.{Place}
use Rattle.vf_lexer.specs.declared.punctuator.Punctuator.TheVariants as punctuators
use Rattle.vf_syntax.specs.declared.keyword.Keyword.{Keyword}
use Rattle.vf_syntax.specs.declared.keyword.Keyword.TheVariants as keywords
use Rattle.vf_syntax.specs.declared.side.Side.TheVariants.{Ghost}
use Rattle.vf_syntax.specs.declared.contract.Contract.{Contract}
use Rattle.vf_syntax.specs.declared.contract.Claim.{Claim}
use Rattle.vf_syntax.specs.declared.contract.Invariant.{Invariant}
use Rattle.vf_syntax.specs.AssertionTree.{PartTree}
use Rattle.vf_syntax.specs.Walks.{head_has, is_word}
use Rattle.vf_cursor.specs.Parsing.{Parser, ok, ◌>>=◌, mark_at, word_at, name_at}
use Rattle.vf_parse_assertion.specs.Parsers.{assertion_at}

-- ":" NAME
unfoldable pub claim_at : Parser Claim
claim_at ts = mark_at Ghost punctuators.Colon ts >>= λ p. name_at Ghost p.1 >>= λ n. ok (record { place = p.0; name = n.0 }) n.1

-- a word, an assertion and ";": the place of the word, and the assertion
unfoldable pub clause_at : Keyword → ℕ → Parser (Place × List PartTree)
clause_at k d ts = word_at Ghost k ts >>= λ w. assertion_at d w.1 >>= λ a. mark_at Ghost punctuators.Semicolon a.1 >>= λ z. ok (w.0, a.0) z.1

-- "requires" assertion ";" "ensures" assertion ";"
unfoldable pub contract_at : ℕ → Parser Contract
contract_at d ts = clause_at keywords.Requires d ts >>= λ a. clause_at keywords.Ensures d a.1 >>= λ b. ok (record { place = a.0.0; precondition = a.0.1; postcondition = b.0.1 }) b.1

-- "invariant" assertion ";"
unfoldable pub invariant_at : ℕ → Parser Invariant
invariant_at d ts = clause_at keywords.Invariant d ts >>= λ a. ok (record { place = a.0.0; assertion = a.0.1 }) a.1

-- a contract, or none where no `requires` comes next
unfoldable pub any_contract_at : ℕ → Parser (Option Contract)
any_contract_at d ts = if head_has (is_word Ghost keywords.Requires) ts then (contract_at d ts >>= λ c. ok (Some c.0) c.1) else ok None ts
