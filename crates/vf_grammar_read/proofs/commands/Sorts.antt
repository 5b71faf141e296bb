-- What sorts begin with, and what stands behind a name in front of them.
use Rattle.std.proofs.Common.{◌≡◌, Bool, true, false, ◌&&◌, List, Some, refl, sym, subst, ap, ◌∙◌}
use Rattle.vf_lexer.specs.declared.punctuator.Punctuator.{Punctuator}
use Rattle.vf_lexer.specs.declared.punctuator.Punctuator.TheVariants as punctuators
use Rattle.vf_lexer.specs.declared.token.Token.{Token}
use Rattle.vf_syntax.specs.declared.keyword.Keyword.{Keyword}
use Rattle.vf_syntax.specs.declared.keyword.Keyword.TheVariants as keywords
use Rattle.vf_syntax.specs.declared.side.Side.TheVariants.{Ghost}
use Rattle.vf_syntax.specs.declared.written.Name.{Name}
use Rattle.vf_syntax.specs.SortTree.{SortTree, SortTrees, no_sort, more_sort}
use Rattle.vf_syntax.specs.SortTree as tree
use Rattle.vf_syntax.specs.Walks.{at, mark, word, identifier, head_has, is_mark, is_name}
use Rattle.vf_syntax.specs.Written.{name}
use Rattle.vf_syntax.specs.GhostExpressions.{sort, sort_arguments}
use Rattle.vf_parse_command.specs.Flats.{second_has, sees_assignment, sees_call}
use Rattle.vf_grammar_read.proofs.expressions.Same.{some_same, no_true}
use Rattle.vf_grammar_read.proofs.expressions.Fronts.{Class, a_mark, a_word, a_name, a_number, a_character, class_mark, class_word, Front, gone, at_stays, mark_front, word_front, identifier_front, identifier_took}
use Rattle.vf_grammar_read.proofs.expressions.TypesFull.{class_type, Typed, by_word, by_name, ctype_begins}
use Rattle.vf_grammar_read.proofs.terms.Begins.{behind}
use Rattle.vf_grammar_read.proofs.patterns.SharesFull.{name_front}

-- a token can begin a sort
abbrev pub class_sort : Class → Bool
class_sort (a_word keywords.Real) = true
class_sort (a_word keywords.Any) = true
class_sort (a_word keywords.Predicate) = true
class_sort (a_word keywords.Signed) = true
class_sort (a_word keywords.Unsigned) = true
class_sort (a_word keywords.Char) = true
class_sort (a_word keywords.Short) = true
class_sort (a_word keywords.Int) = true
class_sort (a_word keywords.Long) = true
class_sort (a_word keywords.Bool) = true
class_sort (a_word keywords.Void) = true
class_sort (a_word keywords.Struct) = true
class_sort a_name = true
class_sort c = false

-- what begins a sort begins no other ghost command, and ends none
pub record Other (c : Class) : Type 0 where
  pub no_open : class_word c keywords.Open ≡ false
  pub no_close : class_word c keywords.Close ≡ false
  pub no_leak : class_word c keywords.Leak ≡ false
  pub no_assert : class_word c keywords.Assert ≡ false
  pub no_if : class_word c keywords.If ≡ false
  pub no_switch : class_word c keywords.Switch ≡ false
  pub no_case : class_word c keywords.Case ≡ false
  pub no_else : class_word c keywords.Else ≡ false
  pub no_mark : (q : Punctuator) → class_mark c q ≡ false

pub sort_other : (c : Class) → class_sort c ≡ true → Other c
sort_other (a_word keywords.Real) h = record { no_open = refl; no_close = refl; no_leak = refl; no_assert = refl; no_if = refl; no_switch = refl; no_case = refl; no_else = refl; no_mark = λ q. refl }
sort_other (a_word keywords.Any) h = record { no_open = refl; no_close = refl; no_leak = refl; no_assert = refl; no_if = refl; no_switch = refl; no_case = refl; no_else = refl; no_mark = λ q. refl }
sort_other (a_word keywords.Predicate) h = record { no_open = refl; no_close = refl; no_leak = refl; no_assert = refl; no_if = refl; no_switch = refl; no_case = refl; no_else = refl; no_mark = λ q. refl }
sort_other (a_word keywords.Signed) h = record { no_open = refl; no_close = refl; no_leak = refl; no_assert = refl; no_if = refl; no_switch = refl; no_case = refl; no_else = refl; no_mark = λ q. refl }
sort_other (a_word keywords.Unsigned) h = record { no_open = refl; no_close = refl; no_leak = refl; no_assert = refl; no_if = refl; no_switch = refl; no_case = refl; no_else = refl; no_mark = λ q. refl }
sort_other (a_word keywords.Char) h = record { no_open = refl; no_close = refl; no_leak = refl; no_assert = refl; no_if = refl; no_switch = refl; no_case = refl; no_else = refl; no_mark = λ q. refl }
sort_other (a_word keywords.Short) h = record { no_open = refl; no_close = refl; no_leak = refl; no_assert = refl; no_if = refl; no_switch = refl; no_case = refl; no_else = refl; no_mark = λ q. refl }
sort_other (a_word keywords.Int) h = record { no_open = refl; no_close = refl; no_leak = refl; no_assert = refl; no_if = refl; no_switch = refl; no_case = refl; no_else = refl; no_mark = λ q. refl }
sort_other (a_word keywords.Long) h = record { no_open = refl; no_close = refl; no_leak = refl; no_assert = refl; no_if = refl; no_switch = refl; no_case = refl; no_else = refl; no_mark = λ q. refl }
sort_other (a_word keywords.Bool) h = record { no_open = refl; no_close = refl; no_leak = refl; no_assert = refl; no_if = refl; no_switch = refl; no_case = refl; no_else = refl; no_mark = λ q. refl }
sort_other (a_word keywords.Void) h = record { no_open = refl; no_close = refl; no_leak = refl; no_assert = refl; no_if = refl; no_switch = refl; no_case = refl; no_else = refl; no_mark = λ q. refl }
sort_other (a_word keywords.Struct) h = record { no_open = refl; no_close = refl; no_leak = refl; no_assert = refl; no_if = refl; no_switch = refl; no_case = refl; no_else = refl; no_mark = λ q. refl }
sort_other (a_word k) h = no_true h
sort_other a_name h = record { no_open = refl; no_close = refl; no_leak = refl; no_assert = refl; no_if = refl; no_switch = refl; no_case = refl; no_else = refl; no_mark = λ q. refl }
sort_other (a_mark p) h = no_true h
sort_other a_number h = no_true h
sort_other a_character h = no_true h

type_sort : (k : Keyword) → class_type (a_word k) ≡ true → class_sort (a_word k) ≡ true
type_sort keywords.Signed h = refl
type_sort keywords.Unsigned h = refl
type_sort keywords.Char h = refl
type_sort keywords.Short h = refl
type_sort keywords.Int h = refl
type_sort keywords.Long h = refl
type_sort keywords.Bool h = refl
type_sort keywords.Void h = refl
type_sort keywords.Struct h = refl
type_sort k h = no_true h

-- what a sort begins with
pub record Sorted (ts : List Token) : Type 0 where
  pub class : Class
  pub front : Front Ghost class ts
  pub begins : class_sort class ≡ true

typed_sorted : (ts rest : List Token) → Typed Ghost ts rest → Sorted ts
typed_sorted ts rest (by_word k f h) = record { class = a_word k; front = f; begins = type_sort k h }
typed_sorted ts rest (by_name mid t u f s a b) = record { class = a_name; front = f; begins = refl }

pub sort_begins : (x : SortTree) (ts rest : List Token) → sort x ts ≡ Some rest → Sorted ts
sort_begins (tree.real_ p) ts rest h = let g = gone (at p ts) h in record { class = a_word keywords.Real; front = behind p g.1 (word_front Ghost _ g.0 rest g.2); begins = refl }
sort_begins (tree.any_ p) ts rest h = let g = gone (at p ts) h in record { class = a_word keywords.Any; front = behind p g.1 (word_front Ghost _ g.0 rest g.2); begins = refl }
sort_begins (tree.type_ p t) ts rest h =
    let g = gone (at p ts) h in
    let b = typed_sorted g.0 rest (ctype_begins Ghost t g.0 rest g.2) in
    record { class = b.class; front = behind p g.1 b.front; begins = b.begins }
sort_begins (tree.name_ p x xs) ts rest h =
    let g = gone (at p ts) h in let m = gone (identifier Ghost x g.0) g.2 in
    record { class = a_name; front = behind p g.1 (identifier_front Ghost x g.0 m.0 m.1); begins = refl }
sort_begins (tree.predicate_ p xs) ts rest h =
    let g = gone (at p ts) h in let m = gone (word Ghost keywords.Predicate g.0) g.2 in
    record { class = a_word keywords.Predicate; front = behind p g.1 (word_front Ghost _ g.0 m.0 m.1); begins = refl }

-- what stands behind a name
pub second : (x : List _) (test : Token → Bool) (ts us mid : List Token) → ts ≡ us → identifier Ghost x us ≡ Some mid → second_has test ts ≡ head_has test mid
second x test ts us mid same h = let t = identifier_took Ghost x us mid h in ap (second_has test) (same ∙ t.parts)

-- neither an assignment nor a call comes next
pub record Declares (ts : List Token) : Type 0 where
  pub no_assignment : sees_assignment ts ≡ false
  pub no_call : sees_call ts ≡ false

unnamed : (ts : List Token) → head_has (is_name Ghost) ts ≡ false → Declares ts
unfolding sees_assignment sees_call
unnamed ts h = record { no_assignment = rw h refl; no_call = rw h refl }

and_none : (a b : Bool) → b ≡ false → (a && b) ≡ false
and_none true b h = h
and_none false b h = refl

named : (ts : List Token) → second_has (is_mark Ghost punctuators.Becomes) ts ≡ false → second_has (is_mark Ghost punctuators.OpenParenthesis) ts ≡ false → Declares ts
unfolding sees_assignment sees_call
named ts h k = record { no_assignment = and_none (head_has (is_name Ghost) ts) _ h; no_call = and_none (head_has (is_name Ghost) ts) _ k }

typed_declares : (ts us rest : List Token) → ts ≡ us → Typed Ghost us rest → Declares ts
typed_declares ts us rest same (by_word k f h) = unnamed ts (subst (λ vs. head_has (is_name Ghost) vs ≡ false) (sym same) f.names_are)
typed_declares ts us rest same (by_name mid t u f s a b) = named ts (ap (second_has (is_mark Ghost punctuators.Becomes)) (same ∙ a) ∙ s.marks_are punctuators.Becomes) (ap (second_has (is_mark Ghost punctuators.OpenParenthesis)) (same ∙ a) ∙ s.marks_are punctuators.OpenParenthesis)

-- behind a name that is a sort stands another name, or arguments
applied_declares : (x : List _) (xs : SortTrees) (n : Name) (ts us mid rest behind_it : List Token) → ts ≡ us → identifier Ghost x us ≡ Some mid → sort_arguments xs mid ≡ Some rest → name Ghost n rest ≡ Some behind_it → Declares ts
applied_declares x no_sort n ts us mid rest behind_it same h k m =
    let f = name_front n mid behind_it (subst (λ vs. name Ghost n vs ≡ Some behind_it) (sym (some_same k)) m) in
    named ts (second x _ ts us mid same h ∙ f.marks_are punctuators.Becomes) (second x _ ts us mid same h ∙ f.marks_are punctuators.OpenParenthesis)
applied_declares x (more_sort y ys) n ts us mid rest behind_it same h k m =
    let a = gone (mark Ghost punctuators.Less mid) k in
    let f = mark_front Ghost punctuators.Less mid a.0 a.1 in
    named ts (second x _ ts us mid same h ∙ f.marks_are punctuators.Becomes) (second x _ ts us mid same h ∙ f.marks_are punctuators.OpenParenthesis)

-- a sort and a name declare
pub sort_declares : (x : SortTree) (n : Name) (ts rest behind_it : List Token) → sort x ts ≡ Some rest → name Ghost n rest ≡ Some behind_it → Declares ts
sort_declares (tree.real_ p) n ts rest behind_it h m = let g = gone (at p ts) h in unnamed ts ((behind p g.1 (word_front Ghost _ g.0 rest g.2)).names_are)
sort_declares (tree.any_ p) n ts rest behind_it h m = let g = gone (at p ts) h in unnamed ts ((behind p g.1 (word_front Ghost _ g.0 rest g.2)).names_are)
sort_declares (tree.type_ p t) n ts rest behind_it h m = let g = gone (at p ts) h in typed_declares ts g.0 rest (at_stays p ts g.0 g.1) (ctype_begins Ghost t g.0 rest g.2)
sort_declares (tree.name_ p x xs) n ts rest behind_it h m =
    let g = gone (at p ts) h in let i = gone (identifier Ghost x g.0) g.2 in
    applied_declares x xs n ts g.0 i.0 rest behind_it (at_stays p ts g.0 g.1) i.1 i.2 m
sort_declares (tree.predicate_ p xs) n ts rest behind_it h m =
    let g = gone (at p ts) h in let i = gone (word Ghost keywords.Predicate g.0) g.2 in
    unnamed ts ((behind p g.1 (word_front Ghost _ g.0 i.0 i.1)).names_are)
