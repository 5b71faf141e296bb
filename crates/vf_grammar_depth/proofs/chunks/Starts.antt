-- What begins a part that begins with no parenthesis and no `switch` is taken, and what does not is refused at once.
use Rattle.std.proofs.Common.{ℕ, Bool, ◌||◌, List}
use Rattle.vf_base.specs.declared.place.Place.{Place}
use Rattle.vf_lexer.specs.declared.punctuator.Punctuator.TheVariants as punctuators
use Rattle.vf_lexer.specs.declared.token.Token.{Token}
use Rattle.vf_syntax.specs.declared.keyword.Keyword.TheVariants as keywords
use Rattle.vf_syntax.specs.declared.side.Side.TheVariants.{Ghost}
use Rattle.vf_syntax.specs.AssertionTree as tree
use Rattle.vf_syntax.specs.Walks.{head_has, is_mark, is_word, is_name}
use Rattle.vf_parse_term.specs.Terms.{begins_term, operand_at}
use Rattle.vf_parse_chunk.specs.declared.pieces.Piece.TheVariants as pieces
use Rattle.vf_parse_chunk.specs.declared.pieces.Front.TheVariants as fronts
use Rattle.vf_parse_chunk.specs.declared.pieces.Begun.TheVariants as begun
use Rattle.vf_parse_chunk.specs.Pieces.{begun_of}
use Rattle.vf_parse_chunk.specs.Chunks.{named_at, front_at, shared_at, begun_at}
use Rattle.vf_grammar_depth.proofs.expressions.Deeper.{keeps, done_deep}
use Rattle.vf_grammar_depth.proofs.expressions.Begun.{Begun, then_begun, word_begun, name_begun, choice_begun}
use Rattle.vf_grammar_depth.proofs.terms.Starts.{signed_starts}
use Rattle.vf_grammar_depth.proofs.terms.Whole.{term_same, branch_same, unary_same}
use Rattle.vf_grammar_depth.proofs.patterns.Shares.{share_starts}
use Rattle.vf_grammar_depth.proofs.chunks.Chunks.{TermsDeeper, named_deep, behind_share_deep}

operand_starts : (d : ℕ) → Begun (head_has begins_term) (operand_at d)
operand_starts d = signed_starts (term_same d) (branch_same d) (unary_same d)

front_starts : {d : ℕ} → TermsDeeper 0 d d → Begun (λ ts. head_has (is_name Ghost) ts || head_has begins_term ts) (front_at d)
unfolding front_at named_at
front_starts {d = d} h = choice_begun (then_begun (name_begun Ghost) (λ n. keeps (named_deep h n))) (then_begun (operand_starts d) (λ e. keeps (done_deep {j = 0} (fronts.Operand e))))

shared_starts : {d : ℕ} → TermsDeeper 0 d d → (p : Place) → Begun (head_has (is_mark Ghost punctuators.OpenBracket)) (shared_at d p)
unfolding shared_at
shared_starts h p = then_begun share_starts (λ s. keeps (behind_share_deep h p s))

-- what begins such a part, in the order in which it is looked for
abbrev pub begun_seen : List Token → Bool
begun_seen ts = head_has (is_mark Ghost punctuators.OpenBracket) ts || (head_has (is_word Ghost keywords.Emp) ts || (head_has (is_name Ghost) ts || head_has begins_term ts))

pub begun_starts : {d : ℕ} → TermsDeeper 0 d d → (p : Place) → Begun begun_seen (begun_at d p)
unfolding begun_at
begun_starts h p =
    choice_begun (then_begun (shared_starts h p) (λ x. keeps (done_deep {j = 0} (begun.Whole x))))
    (choice_begun (then_begun (word_begun Ghost keywords.Emp) (λ w. keeps (done_deep {j = 0} (begun.Whole (pieces.Other (tree.empty_ p)))))) (then_begun (front_starts h) (λ f. keeps (done_deep {j = 0} (begun_of p f)))))
