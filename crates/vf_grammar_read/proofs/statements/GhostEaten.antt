-- What is spelled in annotations takes a token at least, and what ghost commands begin with.
use Rattle.std.proofs.Common.{◌≡◌, ℕ, true, false, List, [], ◌∷◌, length, Option, Some, None, refl, sym, subst, ap, arith}
use Rattle.vf_lexer.specs.declared.token.Token.{Token}
use Rattle.vf_lexer.specs.declared.punctuator.Punctuator.TheVariants as punctuators
use Rattle.vf_syntax.specs.declared.keyword.Keyword.{Keyword}
use Rattle.vf_syntax.specs.declared.keyword.Keyword.TheVariants as keywords
use Rattle.vf_syntax.specs.declared.side.Side.{Side}
use Rattle.vf_syntax.specs.declared.side.Side.TheVariants.{Ghost}
use Rattle.vf_syntax.specs.declared.operator.Level.{Level}
use Rattle.vf_syntax.specs.declared.written.Name.{Name}
use Rattle.vf_syntax.specs.declared.pattern.Pattern.{Pattern}
use Rattle.vf_syntax.specs.declared.pattern.Pattern.TheVariants as patterns
use Rattle.vf_syntax.specs.declared.pattern.Share.{Share}
use Rattle.vf_syntax.specs.declared.pattern.Amount.{Amount}
use Rattle.vf_syntax.specs.declared.pattern.Amount.TheVariants as amounts
use Rattle.vf_syntax.specs.declared.pattern.Factor.{Factor}
use Rattle.vf_syntax.specs.declared.pattern.Factor.TheVariants as factors
use Rattle.vf_syntax.specs.declared.pattern.FactorLink.{FactorLink}
use Rattle.vf_syntax.specs.declared.pattern.CasePattern.{CasePattern}
use Rattle.vf_syntax.specs.declared.contract.Contract.{Contract}
use Rattle.vf_syntax.specs.declared.contract.Claim.{Claim}
use Rattle.vf_syntax.specs.declared.contract.Invariant.{Invariant}
use Rattle.vf_syntax.specs.SortTree.{SortTree, SortTrees, no_sort, more_sort}
use Rattle.vf_syntax.specs.SortTree as sorts
use Rattle.vf_syntax.specs.GhostExprTree.{GhostExprTree, GhostExprTrees, GhostLinkTree, GhostLinkTrees, no_ghost_expr, more_ghost_expr, no_ghost_link, more_ghost_link, ghost_expr_list}
use Rattle.vf_syntax.specs.GhostExprTree as exprs
use Rattle.vf_syntax.specs.AssertionTree.{PartTree, PartTrees, AssertionCaseTree, AssertionCaseTrees, no_part, more_part, no_assertion_case, more_assertion_case, part_list}
use Rattle.vf_syntax.specs.AssertionTree as parts
use Rattle.vf_syntax.specs.GhostCommandTree.{GhostCommandTree, GhostCommandTrees, CommandCaseTree, CommandCaseTrees, no_ghost_command, more_ghost_command, no_command_case, more_command_case}
use Rattle.vf_syntax.specs.GhostCommandTree as tree
use Rattle.vf_syntax.specs.Walks.{Walk, never, at, mark, word, identifier, wild, is_wild}
use Rattle.vf_syntax.specs.Written.{name}
use Rattle.vf_syntax.specs.Lists.{optional, each, separated, behind_commas}
use Rattle.vf_syntax.specs.GhostExpressions.{sort, sort_arguments, sorts_separated, more_sorts, ghost_expr, ghost_link, ghost_links, ghost_arguments, more_ghost_arguments}
use Rattle.vf_syntax.specs.Assertions.{factor, factor_link, amount, share, pattern, pattern_list, name_list, case_pattern, part, assertion, more_parts, assertion_case, assertion_cases}
use Rattle.vf_syntax.specs.Commands.{command, commands, command_case, command_cases}
use Rattle.vf_syntax.specs.Statements.{claim, contract, invariant_walk}
use Rattle.vf_grammar_read.proofs.expressions.Same.{no_true}
use Rattle.vf_grammar_read.proofs.expressions.Fronts.{Class, a_mark, a_word, a_name, class_word, Front, took, gone, at_stays, mark_front, word_front, identifier_front}
use Rattle.vf_grammar_read.proofs.expressions.TypesFull.{Typed, by_word, by_name, class_type, ctype_begins}
use Rattle.vf_grammar_read.proofs.expressions.Eaten.{Keeps, Eats, keeps, keep_then, eat_then, then_eat, nothing_keeps, provided_keeps, at_keeps, mark_eats, word_eats, identifier_eats, number_eats, name_eats, ctype_eats}

pub never_keeps : Keeps never
never_keeps = record { keep = λ ts rest e. absurd cc }

pub never_eats : Eats never
never_eats = record { eat = λ ts rest e. absurd cc }

pub optional_keeps : {A : Type 0} (w : A → Walk) → ((x : A) → Keeps (w x)) → (x : Option A) → Keeps (optional w x)
optional_keeps w h None = nothing_keeps
optional_keeps w h (Some x) = h x

pub each_keeps : {A : Type 0} (w : A → Walk) → ((x : A) → Keeps (w x)) → (xs : List A) → Keeps (each w xs)
each_keeps w h [] = nothing_keeps
each_keeps w h (x ∷ xs) = keep_then (h x) (each_keeps w h xs)

pub behind_commas_keep : {A : Type 0} (s : Side) (w : A → Walk) → ((x : A) → Keeps (w x)) → (xs : List A) → Keeps (behind_commas s w xs)
behind_commas_keep s w h [] = nothing_keeps
behind_commas_keep s w h (x ∷ xs) = keep_then (keeps (mark_eats s _)) (keep_then (h x) (behind_commas_keep s w h xs))

pub separated_keep : {A : Type 0} (s : Side) (w : A → Walk) → ((x : A) → Keeps (w x)) → (xs : List A) → Keeps (separated s w xs)
separated_keep s w h [] = nothing_keeps
separated_keep s w h (x ∷ xs) = keep_then (h x) (behind_commas_keep s w h xs)

wild_eats : Eats wild
unfolding wild
wild_eats = record { eat = λ ts rest e. omega (arith, ap length ((took is_wild ts rest e).parts)) }

mutual
  pub sort_eats : (x : SortTree) → Eats (sort x)
  sort_eats (sorts.real_ p) = then_eat (at_keeps p) (word_eats _ _)
  sort_eats (sorts.any_ p) = then_eat (at_keeps p) (word_eats _ _)
  sort_eats (sorts.type_ p t) = then_eat (at_keeps p) (ctype_eats _ t)
  sort_eats (sorts.name_ p x xs) = then_eat (at_keeps p) (eat_then (identifier_eats _ x) (sort_arguments_keep xs))
  sort_eats (sorts.predicate_ p xs) = then_eat (at_keeps p) (eat_then (word_eats _ _) (keeps (eat_then (mark_eats _ _) (keep_then (sorts_separated_keep xs) (keeps (mark_eats _ _))))))

  sort_arguments_keep : (xs : SortTrees) → Keeps (sort_arguments xs)
  sort_arguments_keep no_sort = nothing_keeps
  sort_arguments_keep (more_sort x xs) = keep_then (keeps (mark_eats _ _)) (keep_then (keeps (sort_eats x)) (keep_then (more_sorts_keep xs) (keeps (mark_eats _ _))))

  sorts_separated_keep : (xs : SortTrees) → Keeps (sorts_separated xs)
  sorts_separated_keep no_sort = nothing_keeps
  sorts_separated_keep (more_sort x xs) = keep_then (keeps (sort_eats x)) (more_sorts_keep xs)

  more_sorts_keep : (xs : SortTrees) → Keeps (more_sorts xs)
  more_sorts_keep no_sort = nothing_keeps
  more_sorts_keep (more_sort x xs) = keep_then (keeps (mark_eats _ _)) (keep_then (keeps (sort_eats x)) (more_sorts_keep xs))

mutual
  pub ghost_expr_eats : (x : GhostExprTree) → Eats (ghost_expr x)
  ghost_expr_eats (exprs.number p n ty) = then_eat (at_keeps p) (number_eats _ n ty)
  ghost_expr_eats (exprs.true_ p) = then_eat (at_keeps p) (word_eats _ _)
  ghost_expr_eats (exprs.false_ p) = then_eat (at_keeps p) (word_eats _ _)
  ghost_expr_eats (exprs.result p) = then_eat (at_keeps p) (word_eats _ _)
  ghost_expr_eats (exprs.this_ p) = then_eat (at_keeps p) (word_eats _ _)
  ghost_expr_eats (exprs.current_thread p) = then_eat (at_keeps p) (word_eats _ _)
  ghost_expr_eats (exprs.name_ p x) = then_eat (at_keeps p) (identifier_eats _ x)
  ghost_expr_eats (exprs.application p f xs) = then_eat (at_keeps p) (eat_then (identifier_eats _ f) (keeps (eat_then (mark_eats _ _) (keep_then (ghost_arguments_keep xs) (keeps (mark_eats _ _))))))
  ghost_expr_eats (exprs.parenthesized p a) = then_eat (at_keeps p) (eat_then (mark_eats _ _) (keeps (eat_then (ghost_expr_eats a) (keeps (mark_eats _ _)))))
  ghost_expr_eats (exprs.conditional p c a b) = then_eat (at_keeps p) (eat_then (mark_eats _ _) (keeps (eat_then (ghost_expr_eats c) (keeps (eat_then (mark_eats _ _) (keeps (eat_then (ghost_expr_eats a) (keeps (eat_then (mark_eats _ _) (keeps (eat_then (ghost_expr_eats b) (keeps (mark_eats _ _)))))))))))))
  ghost_expr_eats (exprs.unary p o a) = then_eat (at_keeps p) (eat_then (mark_eats _ _) (keep_then (provided_keeps _) (keeps (ghost_expr_eats a))))
  ghost_expr_eats (exprs.chain p l a xs) = then_eat (at_keeps p) (then_eat (provided_keeps _) (eat_then (ghost_expr_eats a) (ghost_links_keep l xs)))

  ghost_link_keeps : (l : Level) (x : GhostLinkTree) → Keeps (ghost_link l x)
  ghost_link_keeps l (exprs.ghost_link p o a) = keep_then (at_keeps p) (keep_then (provided_keeps _) (keep_then (keeps (mark_eats _ _)) (keeps (ghost_expr_eats a))))

  ghost_links_keep : (l : Level) (xs : GhostLinkTrees) → Keeps (ghost_links l xs)
  ghost_links_keep l no_ghost_link = nothing_keeps
  ghost_links_keep l (more_ghost_link x xs) = keep_then (ghost_link_keeps l x) (ghost_links_keep l xs)

  pub ghost_arguments_keep : (xs : GhostExprTrees) → Keeps (ghost_arguments xs)
  ghost_arguments_keep no_ghost_expr = nothing_keeps
  ghost_arguments_keep (more_ghost_expr x xs) = keep_then (keeps (ghost_expr_eats x)) (more_ghost_arguments_keep xs)

  more_ghost_arguments_keep : (xs : GhostExprTrees) → Keeps (more_ghost_arguments xs)
  more_ghost_arguments_keep no_ghost_expr = nothing_keeps
  more_ghost_arguments_keep (more_ghost_expr x xs) = keep_then (keeps (mark_eats _ _)) (keep_then (keeps (ghost_expr_eats x)) (more_ghost_arguments_keep xs))

factor_keeps : (x : Factor) → Keeps (factor x)
factor_keeps (factors.Number n ty p) = keep_then (at_keeps p) (keeps (number_eats _ n ty))
factor_keeps (factors.Name n) = keeps (name_eats _ n)

factor_link_keeps : (x : FactorLink) → Keeps (factor_link x)
unfolding factor_link
factor_link_keeps x = keep_then (keeps (mark_eats _ _)) (factor_keeps x.factor)

amount_keeps : (x : Amount) → Keeps (amount x)
amount_keeps (amounts.Binds p n) = keep_then (at_keeps p) (keep_then (keeps (mark_eats _ _)) (keeps (name_eats _ n)))
amount_keeps (amounts.Product f links) = keep_then (factor_keeps f) (each_keeps factor_link factor_link_keeps links)

pub share_keeps : (x : Share) → Keeps (share x)
unfolding share
share_keeps x = keep_then (at_keeps x.place) (keep_then (keeps (mark_eats _ _)) (keep_then (amount_keeps x.amount) (keeps (mark_eats _ _))))

pattern_keeps : (x : Pattern) → Keeps (pattern x)
unfolding pattern
pattern_keeps (patterns.Is e) = keeps (ghost_expr_eats e)
pattern_keeps (patterns.Binds p n) = keep_then (at_keeps p) (keep_then (keeps (mark_eats _ _)) (keeps (name_eats _ n)))
pattern_keeps (patterns.Wild p) = keep_then (at_keeps p) (keeps wild_eats)

pattern_list_keeps : (xs : List Pattern) → Keeps (pattern_list xs)
unfolding pattern_list
pattern_list_keeps xs = keep_then (keeps (mark_eats _ _)) (keep_then (separated_keep Ghost pattern pattern_keeps xs) (keeps (mark_eats _ _)))

name_list_keeps : (xs : List Name) → Keeps (name_list xs)
unfolding name_list
name_list_keeps xs = keep_then (keeps (mark_eats _ _)) (keep_then (separated_keep Ghost (name Ghost) (λ n. keeps (name_eats _ n)) xs) (keeps (mark_eats _ _)))

pub case_pattern_keeps : (x : CasePattern) → Keeps (case_pattern x)
unfolding case_pattern
case_pattern_keeps x = keep_then (keeps (name_eats _ x.constructor)) (optional_keeps name_list name_list_keeps x.names)

mutual
  part_keeps : (x : PartTree) → Keeps (part x)
  part_keeps (parts.conditional p c a b) = keep_then (at_keeps p) (keep_then (keeps (ghost_expr_eats c)) (keep_then (keeps (mark_eats _ _)) (keep_then (assertion_keeps a) (keep_then (keeps (mark_eats _ _)) (assertion_keeps b)))))
  part_keeps (parts.switch_ p e cs) = keep_then (at_keeps p) (keep_then (keeps (word_eats _ _)) (keep_then (keeps (mark_eats _ _)) (keep_then (keeps (ghost_expr_eats e)) (keep_then (keeps (mark_eats _ _)) (keep_then (keeps (mark_eats _ _)) (keep_then (assertion_cases_keep cs) (keeps (mark_eats _ _))))))))
  part_keeps (parts.cell p s e f v) = keep_then (at_keeps p) (keep_then (optional_keeps share share_keeps s) (keep_then (keeps (ghost_expr_eats e)) (keep_then (keeps (mark_eats _ _)) (keep_then (keeps (name_eats _ f)) (keep_then (keeps (mark_eats _ _)) (pattern_keeps v))))))
  part_keeps (parts.chunk p s n first second) = keep_then (at_keeps p) (keep_then (optional_keeps share share_keeps s) (keep_then (keeps (name_eats _ n)) (keep_then (pattern_list_keeps first) (optional_keeps pattern_list pattern_list_keeps second))))
  part_keeps (parts.empty_ p) = keep_then (at_keeps p) (keeps (word_eats _ _))
  part_keeps (parts.pure p e) = keep_then (at_keeps p) (keep_then (provided_keeps _) (keeps (ghost_expr_eats e)))
  part_keeps (parts.group p a) = keep_then (at_keeps p) (keep_then (provided_keeps _) (keep_then (keeps (mark_eats _ _)) (keep_then (assertion_keeps a) (keeps (mark_eats _ _)))))

  pub assertion_keeps : (xs : PartTrees) → Keeps (assertion xs)
  assertion_keeps no_part = never_keeps
  assertion_keeps (more_part x xs) = keep_then (provided_keeps _) (keep_then (part_keeps x) (more_parts_keep xs))

  more_parts_keep : (xs : PartTrees) → Keeps (more_parts xs)
  more_parts_keep no_part = nothing_keeps
  more_parts_keep (more_part x xs) = keep_then (keeps (mark_eats _ _)) (keep_then (part_keeps x) (more_parts_keep xs))

  assertion_case_keeps : (x : AssertionCaseTree) → Keeps (assertion_case x)
  assertion_case_keeps (parts.assertion_case p c a) = keep_then (at_keeps p) (keep_then (keeps (word_eats _ _)) (keep_then (case_pattern_keeps c) (keep_then (keeps (mark_eats _ _)) (keep_then (keeps (word_eats _ _)) (keep_then (assertion_keeps a) (keeps (mark_eats _ _)))))))

  assertion_cases_keep : (xs : AssertionCaseTrees) → Keeps (assertion_cases xs)
  assertion_cases_keep no_assertion_case = nothing_keeps
  assertion_cases_keep (more_assertion_case x xs) = keep_then (assertion_case_keeps x) (assertion_cases_keep xs)

mutual
  pub command_eats : (x : GhostCommandTree) → Eats (command x)
  command_eats (tree.open_ p s n first second) = then_eat (at_keeps p) (eat_then (word_eats _ _) (keep_then (optional_keeps share share_keeps s) (keep_then (keeps (name_eats _ n)) (keep_then (pattern_list_keeps first) (keep_then (optional_keeps pattern_list pattern_list_keeps second) (keeps (mark_eats _ _)))))))
  command_eats (tree.close_ p s n first second) = then_eat (at_keeps p) (eat_then (word_eats _ _) (keep_then (optional_keeps share share_keeps s) (keep_then (keeps (name_eats _ n)) (keep_then (pattern_list_keeps first) (keep_then (optional_keeps pattern_list pattern_list_keeps second) (keeps (mark_eats _ _)))))))
  command_eats (tree.leak_ p a) = then_eat (at_keeps p) (eat_then (word_eats _ _) (keep_then (assertion_keeps (part_list a)) (keeps (mark_eats _ _))))
  command_eats (tree.assert_ p a) = then_eat (at_keeps p) (eat_then (word_eats _ _) (keep_then (assertion_keeps (part_list a)) (keeps (mark_eats _ _))))
  command_eats (tree.declaration p s n e) = then_eat (at_keeps p) (eat_then (sort_eats s) (keep_then (keeps (name_eats _ n)) (keep_then (keeps (mark_eats _ _)) (keep_then (keeps (ghost_expr_eats e)) (keeps (mark_eats _ _))))))
  command_eats (tree.assignment p x e) = then_eat (at_keeps p) (eat_then (identifier_eats _ x) (keep_then (keeps (mark_eats _ _)) (keep_then (keeps (ghost_expr_eats e)) (keeps (mark_eats _ _)))))
  command_eats (tree.call_ p f xs) = then_eat (at_keeps p) (eat_then (identifier_eats _ f) (keep_then (keeps (mark_eats _ _)) (keep_then (ghost_arguments_keep (ghost_expr_list xs)) (keep_then (keeps (mark_eats _ _)) (keeps (mark_eats _ _))))))
  command_eats (tree.if_ p e xs) = then_eat (at_keeps p) (eat_then (word_eats _ _) (keep_then (keeps (mark_eats _ _)) (keep_then (keeps (ghost_expr_eats e)) (keep_then (keeps (mark_eats _ _)) (keep_then (keeps (mark_eats _ _)) (keep_then (commands_keep xs) (keeps (mark_eats _ _))))))))
  command_eats (tree.if_else p e xs ys) = then_eat (at_keeps p) (eat_then (word_eats _ _) (keep_then (keeps (mark_eats _ _)) (keep_then (keeps (ghost_expr_eats e)) (keep_then (keeps (mark_eats _ _)) (keep_then (keeps (mark_eats _ _)) (keep_then (commands_keep xs) (keep_then (keeps (mark_eats _ _)) (keep_then (keeps (word_eats _ _)) (keep_then (keeps (mark_eats _ _)) (keep_then (commands_keep ys) (keeps (mark_eats _ _))))))))))))
  command_eats (tree.switch_ p e cs) = then_eat (at_keeps p) (eat_then (word_eats _ _) (keep_then (keeps (mark_eats _ _)) (keep_then (keeps (ghost_expr_eats e)) (keep_then (keeps (mark_eats _ _)) (keep_then (keeps (mark_eats _ _)) (keep_then (command_cases_keep cs) (keeps (mark_eats _ _))))))))
  command_eats (tree.block p xs) = then_eat (at_keeps p) (eat_then (mark_eats _ _) (keep_then (commands_keep xs) (keeps (mark_eats _ _))))

  pub commands_keep : (xs : GhostCommandTrees) → Keeps (commands xs)
  commands_keep no_ghost_command = nothing_keeps
  commands_keep (more_ghost_command x xs) = keep_then (keeps (command_eats x)) (commands_keep xs)

  command_case_keeps : (x : CommandCaseTree) → Keeps (command_case x)
  command_case_keeps (tree.command_case p c xs) = keep_then (at_keeps p) (keep_then (keeps (word_eats _ _)) (keep_then (case_pattern_keeps c) (keep_then (keeps (mark_eats _ _)) (commands_keep xs))))

  command_cases_keep : (xs : CommandCaseTrees) → Keeps (command_cases xs)
  command_cases_keep no_command_case = nothing_keeps
  command_cases_keep (more_command_case x xs) = keep_then (command_case_keeps x) (command_cases_keep xs)

pub invariant_keeps : (i : Invariant) → Keeps (invariant_walk i)
unfolding invariant_walk
invariant_keeps i = keep_then (at_keeps i.place) (keep_then (keeps (word_eats _ _)) (keep_then (assertion_keeps (part_list i.assertion)) (keeps (mark_eats _ _))))

pub contract_keeps : (c : Contract) → Keeps (contract c)
unfolding contract
contract_keeps c = keep_then (at_keeps c.place) (keep_then (keeps (word_eats _ _)) (keep_then (assertion_keeps (part_list c.precondition)) (keep_then (keeps (mark_eats _ _)) (keep_then (keeps (word_eats _ _)) (keep_then (assertion_keeps (part_list c.postcondition)) (keeps (mark_eats _ _)))))))

pub claim_keeps : (c : Claim) → Keeps (claim c)
unfolding claim
claim_keeps c = keep_then (at_keeps c.place) (keep_then (keeps (mark_eats _ _)) (keeps (name_eats _ c.name)))

-- what ghost text begins with, where it begins no `else`
pub record Ghostly (ts : List Token) : Type 0 where
  pub class : Class
  pub front : Front Ghost class ts
  pub no_else : class_word class keywords.Else ≡ false

type_no_else : (k : Keyword) → class_type (a_word k) ≡ true → class_word (a_word k) keywords.Else ≡ false
type_no_else keywords.Signed h = refl
type_no_else keywords.Unsigned h = refl
type_no_else keywords.Char h = refl
type_no_else keywords.Short h = refl
type_no_else keywords.Int h = refl
type_no_else keywords.Long h = refl
type_no_else keywords.Bool h = refl
type_no_else keywords.Void h = refl
type_no_else keywords.Struct h = refl
type_no_else k h = no_true h

typed_ghostly : (ts rest : List Token) → Typed Ghost ts rest → Ghostly ts
typed_ghostly ts rest (by_word k f h) = record { class = a_word k; front = f; no_else = type_no_else k h }
typed_ghostly ts rest (by_name mid t u f s a b) = record { class = a_name; front = f; no_else = refl }

ghostly_at : (p : _) (ts us : List Token) → at p ts ≡ Some us → Ghostly us → Ghostly ts
ghostly_at p ts us h g = subst (λ vs. Ghostly vs) (sym (at_stays p ts us h)) g

a_ghost_word : (k : Keyword) (ts rest : List Token) → word Ghost k ts ≡ Some rest → class_word (a_word k) keywords.Else ≡ false → Ghostly ts
a_ghost_word k ts rest h e = record { class = a_word k; front = word_front Ghost k ts rest h; no_else = e }

a_ghost_name : (x : List ℕ) (ts rest : List Token) → identifier Ghost x ts ≡ Some rest → Ghostly ts
a_ghost_name x ts rest h = record { class = a_name; front = identifier_front Ghost x ts rest h; no_else = refl }

sort_begins : (x : SortTree) (ts rest : List Token) → sort x ts ≡ Some rest → Ghostly ts
sort_begins (sorts.real_ p) ts rest h = let g = gone (at p ts) h in ghostly_at p ts g.0 g.1 (a_ghost_word keywords.Real g.0 rest g.2 refl)
sort_begins (sorts.any_ p) ts rest h = let g = gone (at p ts) h in ghostly_at p ts g.0 g.1 (a_ghost_word keywords.Any g.0 rest g.2 refl)
sort_begins (sorts.type_ p t) ts rest h = let g = gone (at p ts) h in ghostly_at p ts g.0 g.1 (typed_ghostly g.0 rest (ctype_begins Ghost t g.0 rest g.2))
sort_begins (sorts.name_ p x xs) ts rest h = let g = gone (at p ts) h in let m = gone (identifier Ghost x g.0) g.2 in ghostly_at p ts g.0 g.1 (a_ghost_name x g.0 m.0 m.1)
sort_begins (sorts.predicate_ p xs) ts rest h = let g = gone (at p ts) h in let m = gone (word Ghost keywords.Predicate g.0) g.2 in ghostly_at p ts g.0 g.1 (a_ghost_word _ g.0 m.0 m.1 refl)

pub command_begins : (x : GhostCommandTree) (ts rest : List Token) → command x ts ≡ Some rest → Ghostly ts
command_begins (tree.open_ p s n first second) ts rest h = let g = gone (at p ts) h in let m = gone (word Ghost keywords.Open g.0) g.2 in ghostly_at p ts g.0 g.1 (a_ghost_word _ g.0 m.0 m.1 refl)
command_begins (tree.close_ p s n first second) ts rest h = let g = gone (at p ts) h in let m = gone (word Ghost keywords.Close g.0) g.2 in ghostly_at p ts g.0 g.1 (a_ghost_word _ g.0 m.0 m.1 refl)
command_begins (tree.leak_ p a) ts rest h = let g = gone (at p ts) h in let m = gone (word Ghost keywords.Leak g.0) g.2 in ghostly_at p ts g.0 g.1 (a_ghost_word _ g.0 m.0 m.1 refl)
command_begins (tree.assert_ p a) ts rest h = let g = gone (at p ts) h in let m = gone (word Ghost keywords.Assert g.0) g.2 in ghostly_at p ts g.0 g.1 (a_ghost_word _ g.0 m.0 m.1 refl)
command_begins (tree.declaration p s n e) ts rest h = let g = gone (at p ts) h in let m = gone (sort s g.0) g.2 in ghostly_at p ts g.0 g.1 (sort_begins s g.0 m.0 m.1)
command_begins (tree.assignment p x e) ts rest h = let g = gone (at p ts) h in let m = gone (identifier Ghost x g.0) g.2 in ghostly_at p ts g.0 g.1 (a_ghost_name x g.0 m.0 m.1)
command_begins (tree.call_ p f xs) ts rest h = let g = gone (at p ts) h in let m = gone (identifier Ghost f g.0) g.2 in ghostly_at p ts g.0 g.1 (a_ghost_name f g.0 m.0 m.1)
command_begins (tree.if_ p e xs) ts rest h = let g = gone (at p ts) h in let m = gone (word Ghost keywords.If g.0) g.2 in ghostly_at p ts g.0 g.1 (a_ghost_word _ g.0 m.0 m.1 refl)
command_begins (tree.if_else p e xs ys) ts rest h = let g = gone (at p ts) h in let m = gone (word Ghost keywords.If g.0) g.2 in ghostly_at p ts g.0 g.1 (a_ghost_word _ g.0 m.0 m.1 refl)
command_begins (tree.switch_ p e cs) ts rest h = let g = gone (at p ts) h in let m = gone (word Ghost keywords.Switch g.0) g.2 in ghostly_at p ts g.0 g.1 (a_ghost_word _ g.0 m.0 m.1 refl)
command_begins (tree.block p xs) ts rest h = let g = gone (at p ts) h in let m = gone (mark Ghost punctuators.OpenBrace g.0) g.2 in ghostly_at p ts g.0 g.1 (record { class = a_mark punctuators.OpenBrace; front = mark_front Ghost _ g.0 m.0 m.1; no_else = refl })
