-- What ghost commands begin with, and that each takes a token at least.
use Rattle.std.proofs.Common.{◌≡◌, Bool, true, false, not, ◌||◌, List, [], ◌∷◌, Some, refl, ◌∙◌}
use Rattle.vf_lexer.specs.declared.punctuator.Punctuator.TheVariants as punctuators
use Rattle.vf_lexer.specs.declared.token.Token.{Token}
use Rattle.vf_syntax.specs.declared.keyword.Keyword.TheVariants as keywords
use Rattle.vf_syntax.specs.declared.side.Side.TheVariants.{Ghost}
use Rattle.vf_syntax.specs.GhostExprTree.{ghost_expr_list}
use Rattle.vf_syntax.specs.AssertionTree.{part_list}
use Rattle.vf_syntax.specs.GhostCommandTree.{GhostCommandTree, GhostCommandTrees, CommandCaseTree, CommandCaseTrees, no_ghost_command, more_ghost_command, no_command_case, more_command_case}
use Rattle.vf_syntax.specs.GhostCommandTree as tree
use Rattle.vf_syntax.specs.Walks.{at, mark, word, identifier, head_has, is_mark, is_word}
use Rattle.vf_syntax.specs.GhostExpressions.{sort}
use Rattle.vf_syntax.specs.Commands.{command, commands, command_case, command_cases}
use Rattle.vf_parse_command.specs.Commands.{is_inside}
use Rattle.vf_grammar_read.proofs.expressions.Same.{no_true}
use Rattle.vf_grammar_read.proofs.expressions.Fronts.{Class, a_word, class_mark, class_word, Front, gone, mark_front, word_front, identifier_front}
use Rattle.vf_grammar_read.proofs.expressions.Eaten.{Keeps, Eats, keeps, keep_then, eat_then, then_eat, nothing_keeps, at_keeps, mark_eats, word_eats, identifier_eats, name_eats}
use Rattle.vf_grammar_read.proofs.terms.Eaten.{sort_eats, term_eats, ghost_arguments_keep}
use Rattle.vf_grammar_read.proofs.terms.Begins.{behind}
use Rattle.vf_grammar_read.proofs.assertions.Eaten.{any_share_keeps, list_eats, any_list_keeps, case_pattern_eats, assertion_keeps}
use Rattle.vf_grammar_read.proofs.commands.Sorts.{sort_other, sort_begins}

-- the next token ends neither a block nor a case, and is no `else`
pub record Begun (ts : List Token) : Type 0 where
  pub inside : head_has is_inside ts ≡ true
  pub no_else : head_has (is_word Ghost keywords.Else) ts ≡ false

inside_front : (c : Class) (ts : List Token) → Front Ghost c ts → class_mark c punctuators.CloseBrace ≡ false → class_word c keywords.Case ≡ false → head_has is_inside ts ≡ true
unfolding is_inside
inside_front c [] f a b = no_true f.side_is
inside_front c (t ∷ ts) f a b = rw (f.marks_are punctuators.CloseBrace ∙ a, f.words_are keywords.Case ∙ b) refl

front_begun : (c : Class) (ts : List Token) → Front Ghost c ts → class_mark c punctuators.CloseBrace ≡ false → class_word c keywords.Case ≡ false → class_word c keywords.Else ≡ false → Begun ts
front_begun c ts f a b e = record { inside = inside_front c ts f a b; no_else = f.words_are keywords.Else ∙ e }

-- what ends a block or a case
pub record Closed (ts : List Token) : Type 0 where
  pub outside : head_has is_inside ts ≡ false
  pub no_else : head_has (is_word Ghost keywords.Else) ts ≡ false

or_left : (a b : Bool) → a ≡ true → not (a || b) ≡ false
or_left true b h = refl
or_left false b h = no_true h

or_right : (a b : Bool) → b ≡ true → not (a || b) ≡ false
or_right true b h = refl
or_right false true h = refl
or_right false false h = no_true h

outside_mark : (ts : List Token) → head_has (is_mark Ghost punctuators.CloseBrace) ts ≡ true → head_has is_inside ts ≡ false
unfolding is_inside
outside_mark [] h = no_true h
outside_mark (t ∷ ts) h = or_left (is_mark Ghost punctuators.CloseBrace t) _ h

outside_word : (ts : List Token) → head_has (is_word Ghost keywords.Case) ts ≡ true → head_has is_inside ts ≡ false
unfolding is_inside
outside_word [] h = no_true h
outside_word (t ∷ ts) h = or_right (is_mark Ghost punctuators.CloseBrace t) _ h

pub brace_closed : (ts rest : List Token) → mark Ghost punctuators.CloseBrace ts ≡ Some rest → Closed ts
brace_closed ts rest h = let f = mark_front Ghost punctuators.CloseBrace ts rest h in record { outside = outside_mark ts (f.marks_are punctuators.CloseBrace); no_else = f.words_are keywords.Else }

pub case_front : (x : CommandCaseTree) (ts rest : List Token) → command_case x ts ≡ Some rest → Front Ghost (a_word keywords.Case) ts
case_front (tree.command_case p c xs) ts rest h =
    let g = gone (at p ts) h in
    let w = gone (word Ghost keywords.Case g.0) g.2 in
    behind p g.1 (word_front Ghost keywords.Case g.0 w.0 w.1)

pub case_closed : (x : CommandCaseTree) (ts rest : List Token) → command_case x ts ≡ Some rest → Closed ts
case_closed x ts rest h = let f = case_front x ts rest h in record { outside = outside_word ts (f.words_are keywords.Case); no_else = f.words_are keywords.Else }

pub command_begins : (x : GhostCommandTree) (ts rest : List Token) → command x ts ≡ Some rest → Begun ts
command_begins (tree.open_ p s n xs ys) ts rest h = let g = gone (at p ts) h in let w = gone (word Ghost keywords.Open g.0) g.2 in front_begun _ ts (behind p g.1 (word_front Ghost keywords.Open g.0 w.0 w.1)) refl refl refl
command_begins (tree.close_ p s n xs ys) ts rest h = let g = gone (at p ts) h in let w = gone (word Ghost keywords.Close g.0) g.2 in front_begun _ ts (behind p g.1 (word_front Ghost keywords.Close g.0 w.0 w.1)) refl refl refl
command_begins (tree.leak_ p a) ts rest h = let g = gone (at p ts) h in let w = gone (word Ghost keywords.Leak g.0) g.2 in front_begun _ ts (behind p g.1 (word_front Ghost keywords.Leak g.0 w.0 w.1)) refl refl refl
command_begins (tree.assert_ p a) ts rest h = let g = gone (at p ts) h in let w = gone (word Ghost keywords.Assert g.0) g.2 in front_begun _ ts (behind p g.1 (word_front Ghost keywords.Assert g.0 w.0 w.1)) refl refl refl
command_begins (tree.if_ p e xs) ts rest h = let g = gone (at p ts) h in let w = gone (word Ghost keywords.If g.0) g.2 in front_begun _ ts (behind p g.1 (word_front Ghost keywords.If g.0 w.0 w.1)) refl refl refl
command_begins (tree.if_else p e xs ys) ts rest h = let g = gone (at p ts) h in let w = gone (word Ghost keywords.If g.0) g.2 in front_begun _ ts (behind p g.1 (word_front Ghost keywords.If g.0 w.0 w.1)) refl refl refl
command_begins (tree.switch_ p e cs) ts rest h = let g = gone (at p ts) h in let w = gone (word Ghost keywords.Switch g.0) g.2 in front_begun _ ts (behind p g.1 (word_front Ghost keywords.Switch g.0 w.0 w.1)) refl refl refl
command_begins (tree.block p xs) ts rest h = let g = gone (at p ts) h in let w = gone (mark Ghost punctuators.OpenBrace g.0) g.2 in front_begun _ ts (behind p g.1 (mark_front Ghost punctuators.OpenBrace g.0 w.0 w.1)) refl refl refl
command_begins (tree.assignment p x e) ts rest h = let g = gone (at p ts) h in let w = gone (identifier Ghost x g.0) g.2 in front_begun _ ts (behind p g.1 (identifier_front Ghost x g.0 w.0 w.1)) refl refl refl
command_begins (tree.call_ p x xs) ts rest h = let g = gone (at p ts) h in let w = gone (identifier Ghost x g.0) g.2 in front_begun _ ts (behind p g.1 (identifier_front Ghost x g.0 w.0 w.1)) refl refl refl
command_begins (tree.declaration p s n e) ts rest h =
    let g = gone (at p ts) h in
    let m = gone (sort s g.0) g.2 in
    let b = sort_begins s g.0 m.0 m.1 in
    let o = sort_other b.class b.begins in
    front_begun b.class ts (behind p g.1 b.front) (o.no_mark punctuators.CloseBrace) o.no_case o.no_else

mutual
  pub command_eats : (x : GhostCommandTree) → Eats (command x)
  command_eats (tree.open_ p s n xs ys) = then_eat (at_keeps p) (eat_then (word_eats _ _) (keep_then (any_share_keeps s) (keep_then (keeps (name_eats _ n)) (keep_then (keeps (list_eats xs)) (keep_then (any_list_keeps ys) (keeps (mark_eats _ _)))))))
  command_eats (tree.close_ p s n xs ys) = then_eat (at_keeps p) (eat_then (word_eats _ _) (keep_then (any_share_keeps s) (keep_then (keeps (name_eats _ n)) (keep_then (keeps (list_eats xs)) (keep_then (any_list_keeps ys) (keeps (mark_eats _ _)))))))
  command_eats (tree.leak_ p a) = then_eat (at_keeps p) (eat_then (word_eats _ _) (keep_then (assertion_keeps (part_list a)) (keeps (mark_eats _ _))))
  command_eats (tree.assert_ p a) = then_eat (at_keeps p) (eat_then (word_eats _ _) (keep_then (assertion_keeps (part_list a)) (keeps (mark_eats _ _))))
  command_eats (tree.declaration p s n e) = then_eat (at_keeps p) (eat_then (sort_eats s) (keep_then (keeps (name_eats _ n)) (keep_then (keeps (mark_eats _ _)) (keep_then (keeps (term_eats e)) (keeps (mark_eats _ _))))))
  command_eats (tree.assignment p x e) = then_eat (at_keeps p) (eat_then (identifier_eats _ x) (keep_then (keeps (mark_eats _ _)) (keep_then (keeps (term_eats e)) (keeps (mark_eats _ _)))))
  command_eats (tree.call_ p f xs) = then_eat (at_keeps p) (eat_then (identifier_eats _ f) (keep_then (keeps (mark_eats _ _)) (keep_then (ghost_arguments_keep (ghost_expr_list xs)) (keep_then (keeps (mark_eats _ _)) (keeps (mark_eats _ _))))))
  command_eats (tree.if_ p e xs) = then_eat (at_keeps p) (eat_then (word_eats _ _) (keep_then (keeps (mark_eats _ _)) (keep_then (keeps (term_eats e)) (keep_then (keeps (mark_eats _ _)) (keep_then (keeps (mark_eats _ _)) (keep_then (commands_keep xs) (keeps (mark_eats _ _))))))))
  command_eats (tree.if_else p e xs ys) = then_eat (at_keeps p) (eat_then (word_eats _ _) (keep_then (keeps (mark_eats _ _)) (keep_then (keeps (term_eats e)) (keep_then (keeps (mark_eats _ _)) (keep_then (keeps (mark_eats _ _)) (keep_then (commands_keep xs) (keep_then (keeps (mark_eats _ _)) (keep_then (keeps (word_eats _ _)) (keep_then (keeps (mark_eats _ _)) (keep_then (commands_keep ys) (keeps (mark_eats _ _))))))))))))
  command_eats (tree.switch_ p e cs) = then_eat (at_keeps p) (eat_then (word_eats _ _) (keep_then (keeps (mark_eats _ _)) (keep_then (keeps (term_eats e)) (keep_then (keeps (mark_eats _ _)) (keep_then (keeps (mark_eats _ _)) (keep_then (cases_keep cs) (keeps (mark_eats _ _))))))))
  command_eats (tree.block p xs) = then_eat (at_keeps p) (eat_then (mark_eats _ _) (keep_then (commands_keep xs) (keeps (mark_eats _ _))))

  pub commands_keep : (xs : GhostCommandTrees) → Keeps (commands xs)
  commands_keep no_ghost_command = nothing_keeps
  commands_keep (more_ghost_command x xs) = keep_then (keeps (command_eats x)) (commands_keep xs)

  pub case_eats : (x : CommandCaseTree) → Eats (command_case x)
  case_eats (tree.command_case p c xs) = then_eat (at_keeps p) (eat_then (word_eats _ _) (keep_then (keeps (case_pattern_eats c)) (keep_then (keeps (mark_eats _ _)) (commands_keep xs))))

  cases_keep : (xs : CommandCaseTrees) → Keeps (command_cases xs)
  cases_keep no_command_case = nothing_keeps
  cases_keep (more_command_case x xs) = keep_then (keeps (case_eats x)) (cases_keep xs)
