-- Parsers of ghost commands in which no other stands. d is how many expressions, assertions, sorts and operators in front of their operand may stand in one another in a part.
use Rattle.std.specs.Prelude.{ℕ, Bool, false, ◌&&◌, List, [], ◌∷◌, if◌then◌else◌}
use Rattle.vf_lexer.specs.declared.punctuator.Punctuator.TheVariants as punctuators
use Rattle.vf_lexer.specs.declared.token.Token.{Token}
use Rattle.vf_syntax.specs.declared.keyword.Keyword.TheVariants as keywords
use Rattle.vf_syntax.specs.declared.side.Side.TheVariants.{Ghost}
use Rattle.vf_syntax.specs.GhostCommandTree.{GhostCommandTree}
use Rattle.vf_syntax.specs.GhostCommandTree as tree
use Rattle.vf_syntax.specs.Walks.{head_has, is_mark, is_word, is_name}
use Rattle.vf_cursor.specs.Parsing.{Parser, ok, ◌>>=◌, here_at, mark_at, word_at, name_at}
use Rattle.vf_parse_term.specs.Sorts.{sort_at}
use Rattle.vf_parse_term.specs.Terms.{term_at, arguments_at}
use Rattle.vf_parse_pattern.specs.Shares.{any_share_at}
use Rattle.vf_parse_pattern.specs.Patterns.{patterns_at, any_patterns_at}
use Rattle.vf_parse_assertion.specs.Parsers.{assertion_at}
use Rattle.vf_parse_command.specs.declared.flat.Target.{Target}

-- the token behind the next one passes a test
abbrev pub second_has : (Token → Bool) → List Token → Bool
second_has test [] = false
second_has test (t ∷ ts) = head_has test ts

-- a name comes next, and a `=` behind it
unfoldable pub sees_assignment : List Token → Bool
sees_assignment ts = head_has (is_name Ghost) ts && second_has (is_mark Ghost punctuators.Becomes) ts

-- a name comes next, and a `(` behind it
unfoldable pub sees_call : List Token → Bool
sees_call ts = head_has (is_name Ghost) ts && second_has (is_mark Ghost punctuators.OpenParenthesis) ts

-- [share] NAME patterns [patterns] ";"
unfoldable pub applied_at : ℕ → Parser Target
applied_at d ts = any_share_at ts >>= λ s. name_at Ghost s.1 >>= λ n. patterns_at d n.1 >>= λ xs. any_patterns_at d xs.1 >>= λ ys. mark_at Ghost punctuators.Semicolon ys.1
    >>= λ z. ok (record { share = s.0; name = n.0; first = xs.0; second = ys.0 }) z.1

-- "open" and what it is for
unfoldable pub open_at : ℕ → Parser GhostCommandTree
open_at d ts = word_at Ghost keywords.Open ts >>= λ w. applied_at d w.1 >>= λ x. ok (tree.open_ w.0 x.0.share x.0.name x.0.first x.0.second) x.1

-- "close" and what it is for
unfoldable pub close_at : ℕ → Parser GhostCommandTree
close_at d ts = word_at Ghost keywords.Close ts >>= λ w. applied_at d w.1 >>= λ x. ok (tree.close_ w.0 x.0.share x.0.name x.0.first x.0.second) x.1

-- "leak" assertion ";"
unfoldable pub leak_at : ℕ → Parser GhostCommandTree
leak_at d ts = word_at Ghost keywords.Leak ts >>= λ w. assertion_at d w.1 >>= λ a. mark_at Ghost punctuators.Semicolon a.1 >>= λ z. ok (tree.leak_ w.0 a.0) z.1

-- "assert" assertion ";"
unfoldable pub assert_at : ℕ → Parser GhostCommandTree
assert_at d ts = word_at Ghost keywords.Assert ts >>= λ w. assertion_at d w.1 >>= λ a. mark_at Ghost punctuators.Semicolon a.1 >>= λ z. ok (tree.assert_ w.0 a.0) z.1

-- sort NAME "=" expression ";"
unfoldable pub declaration_at : ℕ → Parser GhostCommandTree
declaration_at d ts = here_at ts >>= λ p. sort_at d p.1 >>= λ s. name_at Ghost s.1 >>= λ n. mark_at Ghost punctuators.Becomes n.1 >>= λ m. term_at d m.1 >>= λ e. mark_at Ghost punctuators.Semicolon e.1
    >>= λ z. ok (tree.declaration p.0 s.0 n.0 e.0) z.1

-- NAME "=" expression ";"
unfoldable pub assignment_at : ℕ → Parser GhostCommandTree
assignment_at d ts = name_at Ghost ts >>= λ n. mark_at Ghost punctuators.Becomes n.1 >>= λ m. term_at d m.1 >>= λ e. mark_at Ghost punctuators.Semicolon e.1 >>= λ z. ok (tree.assignment n.0.place n.0.text e.0) z.1

-- NAME arguments ";"
unfoldable pub call_at : ℕ → Parser GhostCommandTree
call_at d ts = name_at Ghost ts >>= λ n. arguments_at (term_at d) n.1 >>= λ xs. mark_at Ghost punctuators.Semicolon xs.1 >>= λ z. ok (tree.call_ n.0.place n.0.text xs.0) z.1

-- an assignment, a call or a declaration
unfoldable pub value_at : ℕ → Parser GhostCommandTree
value_at d ts = if sees_assignment ts then assignment_at d ts else (if sees_call ts then call_at d ts else declaration_at d ts)

-- a ghost command in which no other stands
unfoldable pub flat_at : ℕ → Parser GhostCommandTree
flat_at d ts = if head_has (is_word Ghost keywords.Open) ts then open_at d ts else (if head_has (is_word Ghost keywords.Close) ts then close_at d ts
    else (if head_has (is_word Ghost keywords.Leak) ts then leak_at d ts else (if head_has (is_word Ghost keywords.Assert) ts then assert_at d ts else value_at d ts)))
