-- The first form of files: a main over sums of numbers and locals of type int. Which core the tree of a file has that is of this form.
use Rattle.std.specs.Prelude.{◌≡◌, ℕ, ◌+◌, ◌==◌, pos, Bool, true, false, not, ◌&&◌, nat_le, List, [], ◌∷◌, ◌++◌, length, codes, is_some, Option, Some, None, Result, Ok, Err, if◌then◌else◌}
use Rattle.std.specs.List.{position}
use Rattle.std.specs.Str.{bytes_eq}
use Rattle.vf_base.specs.declared.place.Place.{Place}
use Rattle.vf_base.specs.declared.int_type.IntType.{IntType}
use Rattle.vf_base.specs.declared.int_type.IntType.TheVariants.{Int}
use Rattle.vf_tree.specs.declared.unit.Operator.{Operator}
use Rattle.vf_tree.specs.declared.unit.Operator.TheVariants as operators
use Rattle.vf_tree.specs.declared.unit.Operand.{Operand}
use Rattle.vf_tree.specs.declared.unit.Operand.TheVariants as operands
use Rattle.vf_tree.specs.declared.unit.Link.{Link}
use Rattle.vf_tree.specs.declared.unit.Expression.{Expression}
use Rattle.vf_tree.specs.declared.unit.CoreStep.{CoreStep}
use Rattle.vf_tree.specs.declared.unit.CoreStep.TheVariants as core_steps
use Rattle.vf_tree.specs.declared.unit.Pure.{Pure}
use Rattle.vf_tree.specs.declared.unit.Pure.TheVariants as pures
use Rattle.vf_tree.specs.declared.unit.Contract.{Contract as CoreContract}
use Rattle.vf_tree.specs.declared.unit.Core.{Core}
use Rattle.vf_syntax.specs.declared.operator.BinaryOperator.{BinaryOperator}
use Rattle.vf_syntax.specs.declared.operator.BinaryOperator.TheVariants as binary
use Rattle.vf_syntax.specs.declared.operator.AssignmentOperator.{AssignmentOperator}
use Rattle.vf_syntax.specs.declared.operator.AssignmentOperator.TheVariants as assignments
use Rattle.vf_syntax.specs.declared.written.Width.{Width}
use Rattle.vf_syntax.specs.declared.written.Width.TheVariants as widths
use Rattle.vf_syntax.specs.declared.written.IntegerWords.{IntegerWords}
use Rattle.vf_syntax.specs.declared.written.IntegerWords.TheVariants as words_of
use Rattle.vf_syntax.specs.declared.written.TypeForm.{TypeForm}
use Rattle.vf_syntax.specs.declared.written.TypeForm.TheVariants as forms
use Rattle.vf_syntax.specs.declared.written.ResultType.{ResultType}
use Rattle.vf_syntax.specs.declared.written.ResultType.TheVariants as results
use Rattle.vf_syntax.specs.declared.written.CType.{CType}
use Rattle.vf_syntax.specs.declared.written.Name.{Name}
use Rattle.vf_syntax.specs.declared.simple.Simple.{Simple}
use Rattle.vf_syntax.specs.declared.simple.Simple.TheVariants as simples
use Rattle.vf_syntax.specs.declared.contract.Contract.{Contract}
use Rattle.vf_syntax.specs.declared.item.Parameters.{Parameters}
use Rattle.vf_syntax.specs.declared.item.Parameters.TheVariants as parameters
use Rattle.vf_syntax.specs.declared.item.Signature.{Signature}
use Rattle.vf_syntax.specs.declared.item.Body.{Body}
use Rattle.vf_syntax.specs.declared.item.Item.{Item}
use Rattle.vf_syntax.specs.declared.item.Item.TheVariants as items
use Rattle.vf_syntax.specs.ExprTree.{ExprTree, LinkTree, LinkTrees}
use Rattle.vf_syntax.specs.ExprTree as expr
use Rattle.vf_syntax.specs.GhostExprTree.{GhostExprTree, GhostLinkTree, GhostLinkTrees}
use Rattle.vf_syntax.specs.GhostExprTree as ghost_expr
use Rattle.vf_syntax.specs.AssertionTree.{PartTree}
use Rattle.vf_syntax.specs.AssertionTree as assertion
use Rattle.vf_syntax.specs.StmtTree.{StmtTree}
use Rattle.vf_syntax.specs.StmtTree as stmt
use Rattle.vf_first.specs.declared.stop.Stop.{Stop}
use Rattle.vf_first.specs.declared.stop.Stop.TheVariants as stops

-- one part after another, where each is of the form
infixl 10 ◌>>=◌
abbrev pub ◌>>=◌ : {A B : Type 0} → Option A → (A → Option B) → Option B
None >>= f = None
(Some x) >>= f = f x

-- the names of the locals that are declared so far, in order
abbrev pub Names : Type 0
Names = List (List ℕ)

-- the number of the local that has this name, counted from 0
abbrev pub local_of : Names → List ℕ → Option ℕ
local_of names w = position (λ n. bytes_eq n w) names

-- ---- sums

-- the type int
abbrev pub is_int : IntType → Bool
is_int Int = true
is_int t = false

-- a number of type int (C11 6.4.4.1)
abbrev pub int_of : ℕ → IntType → Option ℕ
int_of n t = if is_int t && nat_le n 2147483647 then Some n else None

-- operand = number | local
abbrev pub operand_of : Names → ExprTree → Option Operand
operand_of names (expr.number p n t) = int_of n t >>= λ m. Some (operands.Number (pos m))
operand_of names (expr.name_ p w) = local_of names w >>= λ k. Some (operands.Local k p)
operand_of names e = None

-- operator = "+" | "-"
abbrev pub operator_of : BinaryOperator → Option Operator
operator_of binary.Plus = Some operators.Add
operator_of binary.Minus = Some operators.Subtract
operator_of o = None

-- link = operator operand
abbrev pub link_of : Names → LinkTree → Option Link
link_of names (expr.link p o e) = operator_of o >>= λ operator. operand_of names e >>= λ x. Some (record { operator = operator; place = p; operand = x })

-- a link, where there is one
abbrev pub link_in : Names → Option LinkTree → Option Link
link_in names l = l >>= link_of names

-- links = { link }
abbrev pub links_of : Names → LinkTrees → Option (List Link)
links_of names expr.no_link = Some []
links_of names (expr.more_link l ls) = link_of names l >>= λ x. links_of names ls >>= λ xs. Some (x ∷ xs)

-- sum = operand links
abbrev pub sum_of : Names → ExprTree → Option Expression
sum_of names (expr.chain p level e ls) = operand_of names e >>= λ x. links_of names ls >>= λ xs. Some (record { first = x; rest = xs })
sum_of names e = operand_of names e >>= λ x. Some (record { first = x; rest = [] })

-- a sum that is there
abbrev pub given_sum : Names → Option ExprTree → Option Expression
given_sum names None = None
given_sum names (Some e) = sum_of names e

-- ---- statements

-- the width of int
abbrev pub is_int_width : Width → Bool
is_int_width widths.Int = true
is_int_width w = false

-- the word `int` alone
abbrev pub are_int_words : IntegerWords → Bool
are_int_words (words_of.Width w) = is_int_width w
are_int_words ws = false

-- the type `int`, as it is written
abbrev pub is_int_form : TypeForm → Bool
is_int_form (forms.Integer ws) = are_int_words ws
is_int_form f = false

-- a step, and the names behind it
abbrev pub Stepped : Type 0
Stepped = CoreStep × Names

-- "int" name "=" sum: the name is new, and not yet declared in its own sum
abbrev pub declaration_of : Names → ℕ → CType → Name → Option ExprTree → Option Stepped
declaration_of names next t name value = if is_int_form t.form && not (is_some (local_of names name.text))
    then (given_sum names value >>= λ e. Some (core_steps.Set (length names) e next, names ++ name.text ∷ [])) else None

-- a name alone
abbrev pub name_of : ExprTree → Option (List ℕ)
name_of (expr.name_ p w) = Some w
name_of e = None

-- the local that a name alone stands for
abbrev pub named_local : Names → ExprTree → Option ℕ
named_local names e = name_of e >>= λ w. local_of names w

-- the operator "="
abbrev pub is_becomes : AssignmentOperator → Bool
is_becomes assignments.Becomes = true
is_becomes o = false

-- local "=" sum
abbrev pub assignment_of : Names → ℕ → Simple → Option Stepped
assignment_of names next (simples.Assignment left o p e) = if is_becomes o
    then (named_local names left >>= λ k. sum_of names e >>= λ v. Some (core_steps.Set k v next, names)) else None
assignment_of names next s = None

-- "return" sum
abbrev pub return_of : Names → Option ExprTree → Option Stepped
return_of names value = given_sum names value >>= λ e. Some (core_steps.Return e, names)

-- statement = declaration | assignment | return, where the step behind it has the number next
abbrev pub statement_of : Names → ℕ → StmtTree → Option Stepped
statement_of names next (stmt.declaration p t name value q) = declaration_of names next t name value
statement_of names next (stmt.simple p s q) = assignment_of names next s
statement_of names next (stmt.return_ p value q) = return_of names value
statement_of names next s = None

-- the statement number k, where there is one
abbrev pub statement_in : Names → ℕ → Option StmtTree → Option Stepped
statement_in names k s = s >>= statement_of names (k + 1)

-- a step that leaves the body
abbrev pub is_return : CoreStep → Bool
is_return (core_steps.Set local value next) = false
is_return (core_steps.Return value) = true

-- the steps of a body and the number of its locals
abbrev pub Steps : Type 0
Steps = List CoreStep × ℕ

-- the last statement of a body
abbrev pub last_of : Stepped → List StmtTree → Option Steps
last_of x [] = Some (x.0 ∷ [], length x.1)
last_of x (s ∷ ss) = None

-- statements of which the last is a return and no other; the first has the number k, and each is followed by the next
abbrev pub steps_of : Names → ℕ → List StmtTree → Option Steps
steps_of names k [] = None
steps_of names k (s ∷ ss) = statement_of names (k + 1) s >>= λ x. if is_return x.0 then last_of x ss
    else (steps_of x.1 (k + 1) ss >>= λ y. Some (x.0 ∷ y.0, y.1))

-- ---- contracts

-- "true"
abbrev pub truth_of : GhostExprTree → Option Pure
truth_of (ghost_expr.true_ p) = Some (pures.True p)
truth_of e = None

-- the place of "result"
abbrev pub result_of : GhostExprTree → Option Place
result_of (ghost_expr.result p) = Some p
result_of e = None

-- a number of type int in an annotation
abbrev pub ghost_int_of : GhostExprTree → Option ℕ
ghost_int_of (ghost_expr.number p n t) = int_of n t
ghost_int_of e = None

-- the operator "=="
abbrev pub is_equal : BinaryOperator → Bool
is_equal binary.Equal = true
is_equal o = false

-- "==" number
abbrev pub equal_of : GhostLinkTree → Option ℕ
equal_of (ghost_expr.ghost_link p o e) = if is_equal o then ghost_int_of e else None

-- just one "==" number
abbrev pub one_equal_of : GhostLinkTrees → Option ℕ
one_equal_of (ghost_expr.more_ghost_link l ghost_expr.no_ghost_link) = equal_of l
one_equal_of ls = None

-- "true" | "result" "==" number
abbrev pub promise_of : GhostExprTree → Option Pure
promise_of (ghost_expr.chain p level e ls) = result_of e >>= λ q. one_equal_of ls >>= λ n. Some (pures.ResultIs (pos n) q)
promise_of e = truth_of e

-- an assertion that is one expression
abbrev pub part_of : PartTree → Option GhostExprTree
part_of (assertion.pure p e) = Some e
part_of a = None

-- the only part of an assertion
abbrev pub only_of : List PartTree → Option GhostExprTree
only_of (a ∷ []) = part_of a
only_of parts = None

-- the precondition is "true"
abbrev pub precondition_of : List PartTree → Option Pure
precondition_of parts = only_of parts >>= truth_of

-- the postcondition is "true" or says which number is returned
abbrev pub postcondition_of : List PartTree → Option Pure
postcondition_of parts = only_of parts >>= promise_of

-- what main requires and promises
abbrev pub contract_of : Contract → Option CoreContract
contract_of c = precondition_of c.precondition >>= λ before. postcondition_of c.postcondition >>= λ after. Some (record { precondition = before; postcondition = after })

-- ---- files

-- the result type `int`
abbrev pub is_int_result : ResultType → Bool
is_int_result (results.Value t) = is_int_form t.form
is_int_result r = false

-- no parameters, by "void" or by nothing
abbrev pub are_none : Parameters → Bool
are_none parameters.Void = true
are_none (parameters.Listed []) = true
are_none p = false

-- `int main()`, of which the name stands in the file with this number
abbrev pub is_main : ℕ → Signature → Bool
is_main file s = is_int_result s.result && bytes_eq s.name.text (codes "main") && are_none s.parameters && (s.name.place.file == file)

-- the core of a file that has main alone
abbrev pub core_of : List ℕ → Place → CoreContract → List CoreStep → ℕ → Place → Core
core_of path name contract steps locals closing = record {
  plain = record { functions = record { identity = path ++ codes "#main"; locals = locals; steps = steps; closing = closing } ∷ []; main = 0 };
  name = name;
  contract = contract;
}

-- main with its contract and its body
abbrev pub function_of : List ℕ → ℕ → Signature → Contract → Body → Option Core
function_of path file s c b = if is_main file s
    then (contract_of c >>= λ contract. steps_of [] 0 b.statements >>= λ x. Some (core_of path s.name.place contract x.0 x.1 b.last)) else None

-- main, without a claim
abbrev pub item_of : List ℕ → ℕ → Item → Option Core
item_of path file (items.Function s None (Some c) b) = function_of path file s c b
item_of path file i = None

-- the core of a file with a path and a number that is of the first form: main is its only item
abbrev pub first_form : List ℕ → ℕ → List Item → Option Core
first_form path file (i ∷ []) = item_of path file i
first_form path file is = None

-- ---- answers

-- a part is not of the form, or there was no memory
abbrev pub Fails : {A : Type 0} → Stop → Option A → Type 0
Fails stops.Memory part = Unit {0}
Fails stops.Other part = part ≡ None

-- what is answered, seen by view, is what the part is
abbrev pub Gives : {X A : Type 0} → (X → A) → Result X Stop → Option A → Type 0
Gives view (Ok x) part = part ≡ Some (view x)
Gives view (Err e) part = Fails e part
