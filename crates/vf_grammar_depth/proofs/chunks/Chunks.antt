-- What a part of an assertion begins with goes past what was too deep, where more may nest.
use Rattle.std.proofs.Common.{ℕ, List, Option, Some, None}
use Rattle.std.specs.Prelude.{◌&&◌, if◌then◌else◌}
use Rattle.vf_base.specs.declared.place.Place.{Place}
use Rattle.vf_lexer.specs.declared.punctuator.Punctuator.TheVariants as punctuators
use Rattle.vf_syntax.specs.declared.keyword.Keyword.TheVariants as keywords
use Rattle.vf_syntax.specs.declared.side.Side.TheVariants.{Ghost}
use Rattle.vf_syntax.specs.declared.written.Name.{Name}
use Rattle.vf_syntax.specs.declared.pattern.Pattern.{Pattern}
use Rattle.vf_syntax.specs.declared.pattern.Share.{Share}
use Rattle.vf_syntax.specs.GhostExprTree.{GhostExprTree}
use Rattle.vf_syntax.specs.GhostExprTree as exprs
use Rattle.vf_syntax.specs.GhostExpressions.{is_application}
use Rattle.vf_syntax.specs.AssertionTree as tree
use Rattle.vf_syntax.specs.Assertions.{are_value_patterns}
use Rattle.vf_syntax.specs.Walks.{head_has, is_mark, is_word, is_name}
use Rattle.vf_cursor.specs.Parsing.{ok, ◌>>=◌, here_at}
use Rattle.vf_parse_term.specs.Terms.{term_at, operand_at}
use Rattle.vf_parse_pattern.specs.Patterns.{patterns_at}
use Rattle.vf_parse_chunk.specs.declared.pieces.Value.TheVariants as values
use Rattle.vf_parse_chunk.specs.declared.pieces.Piece.TheVariants as pieces
use Rattle.vf_parse_chunk.specs.declared.pieces.Front.{Front}
use Rattle.vf_parse_chunk.specs.declared.pieces.Front.TheVariants as fronts
use Rattle.vf_parse_chunk.specs.declared.pieces.Begun.TheVariants as begun
use Rattle.vf_parse_chunk.specs.Pieces.{term_of, begun_of}
use Rattle.vf_parse_chunk.specs.Chunks.{goes_further, applied_at, named_at, front_at, cell_at, shared_by, shared_at, begun_at, ended_at}
use Rattle.vf_grammar_depth.proofs.expressions.Deeper.{Deeper, then_deep, done_deep, fail_deep, here_deep, mark_deep, word_deep, name_deep, choice_deep, head_deep, fixed_deep}
use Rattle.vf_grammar_depth.proofs.terms.Terms.{rest_deep}
use Rattle.vf_grammar_depth.proofs.patterns.Shares.{share_deep}
use Rattle.vf_grammar_depth.proofs.patterns.Patterns.{pattern_deep, patterns_deep}

-- expressions and operands of one depth, and those of another
pub record TermsDeeper (j d m : ℕ) : Type 0 where
  pub terms : Deeper j (term_at d) (term_at m)
  pub operands : Deeper j (operand_at d) (operand_at m)

applied_deep : {j d m : ℕ} → TermsDeeper j d m → (n : Name) (xs : List Pattern) → Deeper j (applied_at d n xs) (applied_at m n xs)
unfolding applied_at
applied_deep {d = d} {m = m} h n xs =
    head_deep (is_mark Ghost punctuators.OpenParenthesis) (then_deep (patterns_deep d m h.terms) (λ ys. done_deep (fronts.Chunk n xs (Some ys))))
    (choice_deep (λ ts. are_value_patterns xs && goes_further ts) (done_deep (fronts.Operand (term_of (values.Application n xs)))) (done_deep (fronts.Chunk n xs None)))

pub named_deep : {j d m : ℕ} → TermsDeeper j d m → (n : Name) → Deeper j (λ ts. if head_has (is_mark Ghost punctuators.OpenParenthesis) ts then (patterns_at d ts >>= λ xs. applied_at d n xs.0 xs.1) else ok (fronts.Operand (exprs.name_ n.place n.text)) ts)
    (λ ts. if head_has (is_mark Ghost punctuators.OpenParenthesis) ts then (patterns_at m ts >>= λ xs. applied_at m n xs.0 xs.1) else ok (fronts.Operand (exprs.name_ n.place n.text)) ts)
named_deep {d = d} {m = m} h n = head_deep (is_mark Ghost punctuators.OpenParenthesis) (then_deep (patterns_deep d m h.terms) (λ xs. applied_deep h n xs)) (done_deep (fronts.Operand (exprs.name_ n.place n.text)))

pub front_deep : {j d m : ℕ} → TermsDeeper j d m → Deeper j (front_at d) (front_at m)
unfolding front_at named_at
front_deep h = head_deep (is_name Ghost) (then_deep (name_deep Ghost) (λ n. named_deep h n)) (then_deep h.operands (λ e. done_deep (fronts.Operand e)))

pub cell_deep : {j d m : ℕ} → TermsDeeper j d m → (p : Place) (s : Option Share) (e : GhostExprTree) → Deeper j (cell_at d p s e) (cell_at m p s e)
unfolding cell_at
cell_deep {d = d} {m = m} h p s e =
    then_deep (mark_deep Ghost punctuators.Arrow) (λ a. then_deep (name_deep Ghost) (λ f. then_deep (mark_deep Ghost punctuators.PointsTo) (λ b. then_deep (pattern_deep d m h.terms) (λ v. done_deep (pieces.Other (tree.cell p s e f v))))))

shared_by_deep : {j d m : ℕ} → TermsDeeper j d m → (p : Place) (s : Share) (q : Place) (f : Front) → Deeper j (shared_by d p s q f) (shared_by m p s q f)
shared_by_deep h p s q (fronts.Chunk n xs ys) = done_deep (pieces.Other (tree.chunk p (Some s) n xs ys))
shared_by_deep h p s q (fronts.Operand e) = then_deep (rest_deep h.operands 6 q e) (λ a. cell_deep h p (Some s) a)

-- what stands behind the share of a part
pub behind_share_deep : {j d m : ℕ} → TermsDeeper j d m → (p : Place) (s : Share) → Deeper j (λ ts. here_at ts >>= λ q. front_at d q.1 >>= λ f. shared_by d p s q.0 f.0 f.1) (λ ts. here_at ts >>= λ q. front_at m q.1 >>= λ f. shared_by m p s q.0 f.0 f.1)
behind_share_deep h p s = then_deep here_deep (λ q. then_deep (front_deep h) (λ f. shared_by_deep h p s q f))

shared_deep : {j d m : ℕ} → TermsDeeper j d m → (p : Place) → Deeper j (shared_at d p) (shared_at m p)
unfolding shared_at
shared_deep h p = then_deep share_deep (λ s. behind_share_deep h p s)

pub begun_deep : {j d m : ℕ} → TermsDeeper j d m → (p : Place) → Deeper j (begun_at d p) (begun_at m p)
unfolding begun_at
begun_deep h p =
    head_deep (is_mark Ghost punctuators.OpenBracket) (then_deep (shared_deep h p) (λ x. done_deep (begun.Whole x)))
    (head_deep (is_word Ghost keywords.Emp) (then_deep (word_deep Ghost keywords.Emp) (λ w. done_deep (begun.Whole (pieces.Other (tree.empty_ p))))) (then_deep (front_deep h) (λ f. done_deep (begun_of p f))))

pub ended_deep : {j d m : ℕ} → TermsDeeper j d m → (p : Place) (e : GhostExprTree) → Deeper j (ended_at d p e) (ended_at m p e)
unfolding ended_at
ended_deep h p e = head_deep (is_mark Ghost punctuators.Arrow) (cell_deep h p None e) (fixed_deep (is_application e) fail_deep (done_deep (pieces.Value (values.Term p e))))
