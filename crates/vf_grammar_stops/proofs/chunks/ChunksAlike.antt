-- What begins and what ends a part stops alike on tokens that are alike, also where the others may nest deeper.
use Rattle.std.proofs.Common.{◌≡◌, ℕ, ◌≤◌, false, ◌&&◌, ◌||◌, List, Option, Some, None, refl, arith}
use Rattle.vf_base.specs.declared.place.Place.{Place}
use Rattle.vf_lexer.specs.declared.punctuator.Punctuator.TheVariants as punctuators
use Rattle.vf_lexer.specs.declared.token.Token.{Token}
use Rattle.vf_syntax.specs.declared.keyword.Keyword.TheVariants as keywords
use Rattle.vf_syntax.specs.declared.side.Side.TheVariants.{Ghost}
use Rattle.vf_syntax.specs.declared.operator.Level.TheVariants as levels
use Rattle.vf_syntax.specs.declared.written.Name.{Name}
use Rattle.vf_syntax.specs.declared.pattern.Pattern.{Pattern}
use Rattle.vf_syntax.specs.declared.pattern.Share.{Share}
use Rattle.vf_syntax.specs.GhostExprTree.{GhostExprTree}
use Rattle.vf_syntax.specs.GhostExprTree as exprs
use Rattle.vf_syntax.specs.GhostExpressions.{is_application}
use Rattle.vf_syntax.specs.AssertionTree as tree
use Rattle.vf_syntax.specs.Assertions.{are_value_patterns}
use Rattle.vf_syntax.specs.Walks.{head_has, is_mark, is_word, is_name}
use Rattle.vf_parse_term.specs.Terms.{joins, begins_term, operand_at}
use Rattle.vf_parse_chunk.specs.declared.pieces.Value.TheVariants as values
use Rattle.vf_parse_chunk.specs.declared.pieces.Piece.TheVariants as pieces
use Rattle.vf_parse_chunk.specs.declared.pieces.Front.{Front}
use Rattle.vf_parse_chunk.specs.declared.pieces.Front.TheVariants as fronts
use Rattle.vf_parse_chunk.specs.declared.pieces.Begun.TheVariants as begun
use Rattle.vf_parse_chunk.specs.Pieces.{term_of, begun_of}
use Rattle.vf_parse_chunk.specs.Chunks.{sees_operator, goes_further, applied_at, named_at, front_at, cell_at, shared_by, shared_at, begun_at, ended_at}
use Rattle.vf_grammar_stops.proofs.types.Local.{Does, then_like, done_like, fail_like, here_like, mark_like, word_like, name_like, choice_like, first_has}
use Rattle.vf_grammar_stops.proofs.expressions.Heads.{Hangs, test_like, fixed_like}
use Rattle.vf_grammar_stops.proofs.expressions.Refused.{Refuses}
use Rattle.vf_grammar_stops.proofs.terms.TermsAlike.{RestsAlike, unbegun, operand_refuses, operand_like, operand_takes, rest_like}
use Rattle.vf_grammar_stops.proofs.patterns.PatternsAlike.{share_like, pattern_like, patterns_like}

operator_hangs : Hangs sees_operator
unfolding sees_operator
operator_hangs r s h = λ i. first_has (joins levels.Multiplicative) r s h i || first_has (joins levels.Additive) r s h i || first_has (joins levels.Relational) r s h i || first_has (joins levels.Equality) r s h i || first_has (joins levels.And) r s h i || first_has (joins levels.Or) r s h i

further_hangs : Hangs goes_further
unfolding goes_further
further_hangs r s h = λ i. operator_hangs r s h i || first_has (is_mark Ghost punctuators.Arrow) r s h i || first_has (is_mark Ghost punctuators.Question) r s h i

-- what goes on with an operand
pub rests_like : (d m : ℕ) → d ≤ m → RestsAlike (operand_at d) (operand_at m) 6
rests_like d m le = rest_like (operand_like d m le) (operand_like m m (omega arith)) (operand_takes m) 6

applied_like : (d m : ℕ) → d ≤ m → (n : Name) (xs : List Pattern) → Does false (applied_at d n xs) (applied_at m n xs)
unfolding applied_at
applied_like d m le n xs =
    choice_like (is_mark Ghost punctuators.OpenParenthesis) (then_like (patterns_like d m le) (λ ys. done_like (fronts.Chunk n xs (Some ys))))
    (test_like (λ ts. are_value_patterns xs && goes_further ts) (λ r s h. λ i. are_value_patterns xs && further_hangs r s h i) (done_like (fronts.Operand (term_of (values.Application n xs)))) (done_like (fronts.Chunk n xs None)))

named_like : (d m : ℕ) → d ≤ m → Does false (named_at d) (named_at m)
unfolding named_at
named_like d m le =
    then_like (name_like Ghost) (λ n. choice_like (is_mark Ghost punctuators.OpenParenthesis) (then_like (patterns_like d m le) (λ xs. applied_like d m le n xs)) (done_like (fronts.Operand (exprs.name_ n.place n.text))))

front_like : (d m : ℕ) → d ≤ m → Does false (front_at d) (front_at m)
unfolding front_at
front_like d m le = choice_like (is_name Ghost) (named_like d m le) (then_like (operand_like d m le) (λ e. done_like (fronts.Operand e)))

cell_like : (d m : ℕ) → d ≤ m → (p : Place) (s : Option Share) (e : GhostExprTree) → Does false (cell_at d p s e) (cell_at m p s e)
unfolding cell_at
cell_like d m le p s e =
    then_like (mark_like Ghost punctuators.Arrow) (λ a. then_like (name_like Ghost) (λ f. then_like (mark_like Ghost punctuators.PointsTo) (λ b. then_like (pattern_like d m le) (λ v. done_like (pieces.Other (tree.cell p s e f v))))))

shared_by_like : (d m : ℕ) → d ≤ m → (p : Place) (s : Share) (q : Place) (f : Front) → Does false (shared_by d p s q f) (shared_by m p s q f)
shared_by_like d m le p s q (fronts.Chunk n xs ys) = done_like (pieces.Other (tree.chunk p (Some s) n xs ys))
shared_by_like d m le p s q (fronts.Operand e) = then_like (rests_like d m le q e) (λ a. cell_like d m le p (Some s) a)

shared_like : (d m : ℕ) → d ≤ m → (p : Place) → Does false (shared_at d p) (shared_at m p)
unfolding shared_at
shared_like d m le p = then_like share_like (λ s. then_like here_like (λ q. then_like (front_like d m le) (λ f. shared_by_like d m le p s q f)))

pub begun_like : (d m : ℕ) → d ≤ m → (p : Place) → Does false (begun_at d p) (begun_at m p)
unfolding begun_at
begun_like d m le p =
    choice_like (is_mark Ghost punctuators.OpenBracket) (then_like (shared_like d m le p) (λ x. done_like (begun.Whole x)))
    (choice_like (is_word Ghost keywords.Emp) (then_like (word_like Ghost keywords.Emp) (λ w. done_like (begun.Whole (pieces.Other (tree.empty_ p)))))
    (then_like (front_like d m le) (λ f. done_like (begun_of p f))))

-- what can't begin a part is refused at once
pub begun_refuses : (d : ℕ) (p : Place) (ts : List Token) → head_has begins_term ts ≡ false → head_has (is_mark Ghost punctuators.OpenBracket) ts ≡ false → head_has (is_word Ghost keywords.Emp) ts ≡ false → Refuses (begun_at d p) ts
unfolding begun_at front_at
begun_refuses d p ts h bracket emp = rw (bracket, emp, (unbegun ts h).name, operand_refuses d ts h) refl

pub ended_like : (d m : ℕ) → d ≤ m → (p : Place) (e : GhostExprTree) → Does false (ended_at d p e) (ended_at m p e)
unfolding ended_at
ended_like d m le p e = choice_like (is_mark Ghost punctuators.Arrow) (cell_like d m le p None e) (fixed_like (is_application e) fail_like (done_like (pieces.Value (values.Term p e))))
