-- Ghost commands in which no other stands go past what was too deep, where more may nest.
use Rattle.std.proofs.Common.{ℕ, List, Option}
use Rattle.vf_base.specs.declared.place.Place.{Place}
use Rattle.vf_lexer.specs.declared.punctuator.Punctuator.TheVariants as punctuators
use Rattle.vf_syntax.specs.declared.keyword.Keyword.TheVariants as keywords
use Rattle.vf_syntax.specs.declared.side.Side.TheVariants.{Ghost}
use Rattle.vf_syntax.specs.declared.written.Name.{Name}
use Rattle.vf_syntax.specs.declared.pattern.Pattern.{Pattern}
use Rattle.vf_syntax.specs.declared.pattern.Share.{Share}
use Rattle.vf_syntax.specs.SortTree.{SortTree}
use Rattle.vf_syntax.specs.GhostCommandTree as tree
use Rattle.vf_syntax.specs.GhostCommandTree.{GhostCommandTree}
use Rattle.vf_syntax.specs.Walks.{is_word}
use Rattle.vf_cursor.specs.Parsing.{Parser, ok, ◌>>=◌, mark_at, name_at}
use Rattle.vf_parse_term.specs.Sorts.{sort_at}
use Rattle.vf_parse_term.specs.Terms.{term_at, arguments_at}
use Rattle.vf_parse_pattern.specs.Shares.{any_share_at}
use Rattle.vf_parse_pattern.specs.Patterns.{patterns_at, any_patterns_at}
use Rattle.vf_parse_assertion.specs.Parsers.{switch_head_at, case_head_at, assertion_at}
use Rattle.vf_parse_command.specs.declared.flat.Target.{Target}
use Rattle.vf_parse_command.specs.Flats.{sees_assignment, sees_call, applied_at, open_at, close_at, leak_at, assert_at, declaration_at, assignment_at, call_at, value_at, flat_at}
use Rattle.vf_grammar_depth.proofs.expressions.Deeper.{Deeper, then_deep, done_deep, here_deep, mark_deep, word_deep, name_deep, choice_deep, head_deep}
use Rattle.vf_grammar_depth.proofs.terms.Terms.{arguments_deep}

-- what stands inside of a ghost command goes past what was too deep at depth d, where it may nest m deep
pub record Inside (j d m : ℕ) : Type 0 where
  pub sorts : Deeper j (sort_at d) (sort_at m)
  pub terms : Deeper j (term_at d) (term_at m)
  pub patterns : Deeper j (patterns_at d) (patterns_at m)
  pub any_patterns : Deeper j (any_patterns_at d) (any_patterns_at m)
  pub assertions : Deeper j (assertion_at d) (assertion_at m)
  pub switches : Deeper j (switch_head_at d) (switch_head_at m)
  pub shares : Deeper j any_share_at any_share_at
  pub cases : Deeper j case_head_at case_head_at

-- what a command is for
abbrev target_of : Option Share → Name → List Pattern → Option (List Pattern) → Target
target_of s n xs ys = record { share = s; name = n; first = xs; second = ys }

pub applied_deep : {j d m : ℕ} → Inside j d m → Deeper j (applied_at d) (applied_at m)
unfolding applied_at
applied_deep h =
    then_deep h.shares (λ s. then_deep (name_deep Ghost) (λ n. then_deep h.patterns (λ xs. then_deep h.any_patterns (λ ys. then_deep (mark_deep Ghost punctuators.Semicolon) (λ z. done_deep (target_of s n xs ys))))))

open_deep : {j d m : ℕ} → Inside j d m → Deeper j (open_at d) (open_at m)
unfolding open_at
open_deep h = then_deep (word_deep Ghost keywords.Open) (λ w. then_deep (applied_deep h) (λ x. done_deep (tree.open_ w x.share x.name x.first x.second)))

close_deep : {j d m : ℕ} → Inside j d m → Deeper j (close_at d) (close_at m)
unfolding close_at
close_deep h = then_deep (word_deep Ghost keywords.Close) (λ w. then_deep (applied_deep h) (λ x. done_deep (tree.close_ w x.share x.name x.first x.second)))

leak_deep : {j d m : ℕ} → Inside j d m → Deeper j (leak_at d) (leak_at m)
unfolding leak_at
leak_deep h = then_deep (word_deep Ghost keywords.Leak) (λ w. then_deep h.assertions (λ a. then_deep (mark_deep Ghost punctuators.Semicolon) (λ z. done_deep (tree.leak_ w a))))

assert_deep : {j d m : ℕ} → Inside j d m → Deeper j (assert_at d) (assert_at m)
unfolding assert_at
assert_deep h = then_deep (word_deep Ghost keywords.Assert) (λ w. then_deep h.assertions (λ a. then_deep (mark_deep Ghost punctuators.Semicolon) (λ z. done_deep (tree.assert_ w a))))

-- what a declaration has behind its sort
abbrev pub declared_behind : ℕ → Place → SortTree → Parser GhostCommandTree
declared_behind d p s ts = name_at Ghost ts >>= λ n. mark_at Ghost punctuators.Becomes n.1 >>= λ m. term_at d m.1 >>= λ e. mark_at Ghost punctuators.Semicolon e.1 >>= λ z. ok (tree.declaration p s n.0 e.0) z.1

pub declared_behind_deep : {j d m : ℕ} → Inside j d m → (p : Place) (s : SortTree) → Deeper j (declared_behind d p s) (declared_behind m p s)
declared_behind_deep h p s = then_deep (name_deep Ghost) (λ n. then_deep (mark_deep Ghost punctuators.Becomes) (λ k. then_deep h.terms (λ e. then_deep (mark_deep Ghost punctuators.Semicolon) (λ z. done_deep (tree.declaration p s n e)))))

declaration_deep : {j d m : ℕ} → Inside j d m → Deeper j (declaration_at d) (declaration_at m)
unfolding declaration_at
declaration_deep h = then_deep here_deep (λ p. then_deep h.sorts (λ s. declared_behind_deep h p s))

-- what an assignment has behind its name
abbrev pub assigned_behind : ℕ → Name → Parser GhostCommandTree
assigned_behind d n ts = mark_at Ghost punctuators.Becomes ts >>= λ m. term_at d m.1 >>= λ e. mark_at Ghost punctuators.Semicolon e.1 >>= λ z. ok (tree.assignment n.place n.text e.0) z.1

pub assigned_behind_deep : {j d m : ℕ} → Inside j d m → (n : Name) → Deeper j (assigned_behind d n) (assigned_behind m n)
assigned_behind_deep h n = then_deep (mark_deep Ghost punctuators.Becomes) (λ k. then_deep h.terms (λ e. then_deep (mark_deep Ghost punctuators.Semicolon) (λ z. done_deep (tree.assignment n.place n.text e))))

assignment_deep : {j d m : ℕ} → Inside j d m → Deeper j (assignment_at d) (assignment_at m)
unfolding assignment_at
assignment_deep h = then_deep (name_deep Ghost) (λ n. assigned_behind_deep h n)

-- what a call has behind its name
abbrev pub called_behind : ℕ → Name → Parser GhostCommandTree
called_behind d n ts = arguments_at (term_at d) ts >>= λ xs. mark_at Ghost punctuators.Semicolon xs.1 >>= λ z. ok (tree.call_ n.place n.text xs.0) z.1

pub called_behind_deep : {j d m : ℕ} → Inside j d m → (n : Name) → Deeper j (called_behind d n) (called_behind m n)
called_behind_deep h n = then_deep (arguments_deep h.terms) (λ xs. then_deep (mark_deep Ghost punctuators.Semicolon) (λ z. done_deep (tree.call_ n.place n.text xs)))

call_deep : {j d m : ℕ} → Inside j d m → Deeper j (call_at d) (call_at m)
unfolding call_at
call_deep h = then_deep (name_deep Ghost) (λ n. called_behind_deep h n)

value_deep : {j d m : ℕ} → Inside j d m → Deeper j (value_at d) (value_at m)
unfolding value_at
value_deep h = choice_deep sees_assignment (assignment_deep h) (choice_deep sees_call (call_deep h) (declaration_deep h))

pub flat_deep : {j d m : ℕ} → Inside j d m → Deeper j (flat_at d) (flat_at m)
unfolding flat_at
flat_deep h =
    head_deep (is_word Ghost keywords.Open) (open_deep h) (head_deep (is_word Ghost keywords.Close) (close_deep h) (head_deep (is_word Ghost keywords.Leak) (leak_deep h) (head_deep (is_word Ghost keywords.Assert) (assert_deep h) (value_deep h))))
