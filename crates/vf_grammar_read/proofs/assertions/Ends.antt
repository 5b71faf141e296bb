-- What ends a part or an assertion.
use Rattle.std.proofs.Common.{◌≡◌, ◌<◌, Bool, true, false, not, ◌&&◌, ◌||◌, List, Some, refl, ◌∙◌, arith}
use Rattle.std.proofs.lemmas.Bool.{or_parts}
use Rattle.vf_lexer.specs.declared.punctuator.Punctuator.TheVariants as punctuators
use Rattle.vf_lexer.specs.declared.token.Token.{Token}
use Rattle.vf_syntax.specs.declared.side.Side.TheVariants.{Ghost}
use Rattle.vf_syntax.specs.declared.operator.Level.TheVariants as levels
use Rattle.vf_syntax.specs.AssertionTree.{PartTree, no_part, more_part}
use Rattle.vf_syntax.specs.Walks.{mark, head_has, is_mark}
use Rattle.vf_syntax.specs.Assertions.{is_conditional, is_conditional_last}
use Rattle.vf_parse_chunk.specs.Chunks.{sees_operator, goes_further}
use Rattle.vf_grammar_read.proofs.expressions.Fronts.{Class, class_mark, class_next, Front, mark_front}
use Rattle.vf_grammar_read.proofs.terms.Behind.{Looser, front_looser, hold, no_join}
use Rattle.vf_grammar_read.proofs.chunks.ChunksFull.{Stops, stops}
use Rattle.vf_grammar_read.specs.assertions.Laws.{goes_on_with_assertion}

-- what stands behind does not go on with an assertion
pub record Ended (rest : List Token) : Type 0 where
  pub stops : Stops rest
  pub no_more : head_has (is_mark Ghost punctuators.SeparatingAnd) rest ≡ false

pub ended_at_all : (rest : List Token) → goes_on_with_assertion rest ≡ false → Ended rest
unfolding goes_on_with_assertion
ended_at_all rest h = let a = or_parts (head_has (is_mark Ghost punctuators.SeparatingAnd) rest) _ h in record { stops = stops rest a.1; no_more = a.0 }

-- no operator comes next
no_operator : (ts : List Token) → Looser 8 ts → sees_operator ts ≡ false
unfolding sees_operator
no_operator ts lo = rw (no_join levels.Multiplicative 8 ts lo (omega arith), no_join levels.Additive 8 ts lo (omega arith), no_join levels.Relational 8 ts lo (omega arith), no_join levels.Equality 8 ts lo (omega arith), no_join levels.And 8 ts lo (omega arith), no_join levels.Or 8 ts lo (omega arith)) refl

-- a token of a class does not go on with a part
pub class_stops : (c : Class) (ts : List Token) → Front Ghost c ts → 8 < hold (class_next c) → class_mark c punctuators.Arrow ≡ false → class_mark c punctuators.Question ≡ false → Stops ts
unfolding goes_further
class_stops c ts f low arrow question =
    let lo = front_looser 8 c ts f low in
    record { no_term = lo; no_further = rw (no_operator ts lo, f.marks_are punctuators.Arrow ∙ arrow, f.marks_are punctuators.Question ∙ question) refl }

pub close_ends : (ts rest : List Token) → mark Ghost punctuators.CloseParenthesis ts ≡ Some rest → Ended ts
close_ends ts rest h = let f = mark_front Ghost punctuators.CloseParenthesis ts rest h in record { stops = class_stops _ ts f (omega arith) refl refl; no_more = f.marks_are punctuators.SeparatingAnd }

pub colon_ends : (ts rest : List Token) → mark Ghost punctuators.Colon ts ≡ Some rest → Ended ts
colon_ends ts rest h = let f = mark_front Ghost punctuators.Colon ts rest h in record { stops = class_stops _ ts f (omega arith) refl refl; no_more = f.marks_are punctuators.SeparatingAnd }

pub semicolon_ends : (ts rest : List Token) → mark Ghost punctuators.Semicolon ts ≡ Some rest → Ended ts
semicolon_ends ts rest h = let f = mark_front Ghost punctuators.Semicolon ts rest h in record { stops = class_stops _ ts f (omega arith) refl refl; no_more = f.marks_are punctuators.SeparatingAnd }

-- a part ends in front of `&*&`
pub and_stops : (ts rest : List Token) → mark Ghost punctuators.SeparatingAnd ts ≡ Some rest → Stops ts
and_stops ts rest h = class_stops _ ts (mark_front Ghost punctuators.SeparatingAnd ts rest h) (omega arith) refl refl

or_true : (b : Bool) → ((not b || true) && true) ≡ true
or_true true = refl
or_true false = refl

-- one part alone may be a conditional
pub last_alone : (x : PartTree) → is_conditional_last (more_part x no_part) ≡ true
last_alone x = or_true (is_conditional x)
