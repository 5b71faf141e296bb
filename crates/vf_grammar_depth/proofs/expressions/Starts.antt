-- What begins an expression is taken, and what does not is refused at once.
use Rattle.std.proofs.Common.{◌≡◌, ℕ, zero, suc, Bool, true, false, ◌&&◌, ◌||◌, List, [], ◌∷◌, length, Option, Some, None, refl}
use Rattle.std.specs.Prelude.{if◌then◌else◌}
use Rattle.std.proofs.lemmas.Slice.Eq.{bytes_eq-Decides}
use Rattle.vf_lexer.specs.Punctuators.{spelling}
use Rattle.vf_lexer.specs.declared.punctuator.Punctuator.{Punctuator}
use Rattle.vf_lexer.specs.declared.punctuator.Punctuator.TheVariants as punctuators
use Rattle.vf_lexer.specs.declared.token.Kind.{Kind}
use Rattle.vf_lexer.specs.declared.token.Kind.TheVariants as kinds
use Rattle.vf_lexer.specs.declared.token.Token.{Token}
use Rattle.vf_syntax.specs.declared.keyword.Keyword.TheVariants as keywords
use Rattle.vf_syntax.specs.declared.side.Side.{Side}
use Rattle.vf_syntax.specs.declared.side.Side.TheVariants.{Real}
use Rattle.vf_syntax.specs.declared.operator.UnaryOperator.{UnaryOperator}
use Rattle.vf_syntax.specs.declared.operator.UnaryOperator.TheVariants as unaries
use Rattle.vf_syntax.specs.ExprTree.{ExprTree}
use Rattle.vf_syntax.specs.ExprTree as tree
use Rattle.vf_syntax.specs.Walks.{head_has, is_on, is_punctuator, is_mark, is_word, is_name}
use Rattle.vf_syntax.specs.Written.{unary_mark, unary_of}
use Rattle.vf_cursor.specs.Parsing.{Read, Parser, number_at, character_at, number_of, character_of, punctuator_of, next_by, is_there}
use Rattle.vf_cursor.specs.Types.{next_unary, found_then}
use Rattle.vf_parse_expression.specs.Operands.{sees_cast, sees_primary, sees_operand, posted, chained, nth_level, number_primary_at, character_primary_at}
use Rattle.vf_parse_expression.specs.Parsers.{malloc_at, parenthesized_at, word_primary_at, primary_at, post_at, cast_at, signed_at, unsigned_at, found_operand, whole_operand_at, chain_at, tier_at, conditional_at}
use Rattle.vf_grammar_depth.proofs.expressions.Deeper.{Deeper, keeps, then_deep, done_deep, mark_deep}
use Rattle.vf_grammar_depth.proofs.expressions.Begun.{BegunAt, Begun, then_begun, here_begun, mark_begun, word_begun, name_begun, kind_begun, choice_begun}
use Rattle.vf_grammar_depth.proofs.expressions.Types.{ctype_deep}
use Rattle.vf_grammar_depth.proofs.expressions.Expressions.{malloc_inside_deep, parts_deep, links_deep, tier_deep, choice_at_deep}

number_begun : Begun (λ ts. is_there (next_by Real number_of ts)) (number_at Real)
unfolding number_at
number_begun = kind_begun Real number_of

character_begun : Begun (λ ts. is_there (next_by Real character_of ts)) character_at
unfolding character_at
character_begun = kind_begun Real character_of

number_starts : Begun (λ ts. is_there (next_by Real number_of ts)) number_primary_at
unfolding number_primary_at
number_starts = here_begun number_begun (λ h n. keeps (done_deep {j = 0} (tree.number h n.0 n.1)))

character_starts : Begun (λ ts. is_there (next_by Real character_of ts)) character_primary_at
unfolding character_primary_at
character_starts = here_begun character_begun (λ h n. keeps (done_deep {j = 0} (tree.character h n)))

malloc_starts : {f h : Parser ExprTree} → Deeper 0 f h → Begun (head_has (is_word Real keywords.Malloc)) (malloc_at h)
unfolding malloc_at
malloc_starts hf = then_begun (word_begun Real keywords.Malloc) (λ w. keeps (then_deep (mark_deep Real punctuators.OpenParenthesis) (λ o. malloc_inside_deep hf w)))

parenthesized_starts : {e g : Parser ExprTree} → Deeper 0 e g → Begun (head_has (is_mark Real punctuators.OpenParenthesis)) (parenthesized_at g)
unfolding parenthesized_at
parenthesized_starts he = then_begun (mark_begun Real punctuators.OpenParenthesis) (λ o. keeps (then_deep he (λ a. then_deep (mark_deep Real punctuators.CloseParenthesis) (λ c. done_deep (tree.parenthesized o a)))))

primary_starts : {e g f h : Parser ExprTree} → Deeper 0 e g → Deeper 0 f h → Begun sees_primary (primary_at g h)
unfolding sees_primary primary_at word_primary_at
primary_starts he hf =
    choice_begun number_starts (choice_begun character_starts (choice_begun (then_begun (word_begun Real keywords.True) (λ w. keeps (done_deep {j = 0} (tree.true_ w))))
    (choice_begun (then_begun (word_begun Real keywords.False) (λ w. keeps (done_deep {j = 0} (tree.false_ w))))
    (choice_begun (malloc_starts hf) (choice_begun (then_begun (name_begun Real) (λ n. keeps (done_deep {j = 0} (tree.name_ n.place n.text)))) (parenthesized_starts he))))))

pub post_starts : {e g f h : Parser ExprTree} → Deeper 0 e g → Deeper 0 f h → Begun sees_primary (post_at g h)
unfolding post_at
post_starts he hf = here_begun (primary_starts he hf) (λ h a. keeps (then_deep (parts_deep he) (λ xs. done_deep (posted h a xs))))

-- an operator in front is written by its punctuator
unary_known : (p : Punctuator) (o : UnaryOperator) → unary_of p ≡ Some o → p ≡ unary_mark o
unary_known punctuators.Minus o e = let same : o ≡ unaries.Minus = cc in rw same refl
unary_known punctuators.Not o e = let same : o ≡ unaries.Not = cc in rw same refl
unary_known p o e = absurd cc

cast_at_starts : {u v : Parser ExprTree} → Deeper 0 u v → Begun (head_has (is_mark Real punctuators.OpenParenthesis)) (cast_at v)
unfolding cast_at
cast_at_starts hu = then_begun (mark_begun Real punctuators.OpenParenthesis) (λ o. keeps (then_deep (ctype_deep Real) (λ t. then_deep (mark_deep Real punctuators.CloseParenthesis) (λ c. then_deep hu (λ a. done_deep (tree.cast o t a))))))

pub or_right : (a b : Bool) → b ≡ true → (a || b) ≡ true
or_right true b h = refl
or_right false b h = h

and_left : (a b : Bool) → (a && b) ≡ true → a ≡ true
and_left true b h = refl
and_left false b h = h

cast_opens : (ts : List Token) → sees_cast ts ≡ true → head_has (is_mark Real punctuators.OpenParenthesis) ts ≡ true
unfolding sees_cast
cast_opens ts h = and_left _ _ h

open_begins : (ts : List Token) → head_has (is_mark Real punctuators.OpenParenthesis) ts ≡ true → sees_primary ts ≡ true
unfolding sees_primary
open_begins ts h =
    or_right (is_there (next_by Real number_of ts)) _ (or_right (is_there (next_by Real character_of ts)) _ (or_right (head_has (is_word Real keywords.True) ts) _
    (or_right (head_has (is_word Real keywords.False) ts) _ (or_right (head_has (is_word Real keywords.Malloc) ts) _ (or_right (head_has (is_name Real) ts) _ h)))))

pub begun_as : {A : Type 0} (v w : Bool) (n : ℕ) (r : Read A) → v ≡ true → w ≡ true → BegunAt v n r → BegunAt w n r
begun_as true true n r e f h = h
begun_as false w n r e f h = absurd cc
begun_as true false n r e f h = absurd cc

unsigned_by : {e g u v f h : Parser ExprTree} → Deeper 0 e g → Deeper 0 u v → Deeper 0 f h → (ts : List Token) (w : Bool) → sees_cast ts ≡ w → BegunAt (sees_primary ts) (length ts) (if w then cast_at v ts else post_at g h ts)
unsigned_by {v = v} he hu hf ts true e = begun_as _ _ (length ts) (cast_at v ts) (cast_opens ts e) (open_begins ts (cast_opens ts e)) ((cast_at_starts hu).run ts)
unsigned_by he hu hf ts false e = (post_starts he hf).run ts

unsigned_starts : {e g u v f h : Parser ExprTree} → Deeper 0 e g → Deeper 0 u v → Deeper 0 f h → Begun sees_primary (unsigned_at g v h)
unfolding unsigned_at
unsigned_starts he hu hf = record { run = λ ts. unsigned_by he hu hf ts (sees_cast ts) refl }

pub same_mark : (p : Punctuator) → is_punctuator p (kinds.Punctuator p) ≡ true
same_mark p = (bytes_eq-Decides (spelling p) (spelling p)).1 refl

unary_kind : (v : Bool) (k : Kind) (o : UnaryOperator) → found_then (if v then punctuator_of k else None) unary_of ≡ Some o → (v && is_punctuator (unary_mark o) k) ≡ true
unary_kind false k o e = absurd cc
unary_kind true (kinds.Punctuator p) o e = rw (unary_known p o e) (same_mark (unary_mark o))
unary_kind true k o e = absurd cc

pub unary_marked : (s : Side) (ts : List Token) (o : UnaryOperator) → next_unary s ts ≡ Some o → head_has (is_mark s (unary_mark o)) ts ≡ true
unfolding next_unary is_mark
unary_marked s [] o e = absurd cc
unary_marked s (t ∷ ts) o e = unary_kind (is_on s t) t.kind o e

signed_starts : {u v : Parser ExprTree} → Deeper 0 u v → (o : UnaryOperator) → Begun (head_has (is_mark Real (unary_mark o))) (signed_at v o)
unfolding signed_at
signed_starts hu o = then_begun (mark_begun Real (unary_mark o)) (λ m. keeps (then_deep hu (λ a. done_deep (tree.unary m o a))))

operand_by : {e g u v f h : Parser ExprTree} → Deeper 0 e g → Deeper 0 u v → Deeper 0 f h → (ts : List Token) (o : Option UnaryOperator) → next_unary Real ts ≡ o → BegunAt (is_there o || sees_primary ts) (length ts) (found_operand g v h o ts)
operand_by he hu hf ts None e = (unsigned_starts he hu hf).run ts
operand_by {v = v} he hu hf ts (Some o) e = begun_as _ true (length ts) (signed_at v o ts) (unary_marked Real ts o e) refl ((signed_starts hu o).run ts)

pub operand_starts : {e g u v f h : Parser ExprTree} → Deeper 0 e g → Deeper 0 u v → Deeper 0 f h → Begun sees_operand (whole_operand_at g v h)
unfolding whole_operand_at sees_operand
operand_starts he hu hf = record { run = λ ts. operand_by he hu hf ts (next_unary Real ts) refl }

tier_starts : {begins : List Token → Bool} {u v : Parser ExprTree} → Deeper 0 u v → Begun begins v → (n : ℕ) → Begun begins (tier_at v n)
unfolding tier_at chain_at
tier_starts hu hv zero = hv
tier_starts hu hv (suc n) = here_begun (tier_starts hu hv n) (λ h a. keeps (then_deep (links_deep (nth_level n) (tier_deep hu n)) (λ xs. done_deep (chained h (nth_level n) a xs))))

pub conditional_starts : {begins : List Token → Bool} {e g u v : Parser ExprTree} → Deeper 0 e g → Deeper 0 u v → Begun begins v → Begun begins (conditional_at g v)
unfolding conditional_at
conditional_starts he hu hv = here_begun (tier_starts hu hv 6) (λ h c. keeps (choice_at_deep he h c))
