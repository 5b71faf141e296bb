-- How items and units are spelled, and how deep they nest.
use Rattle.std.specs.Prelude.{◌≡◌, ℕ, ◌+◌, ◌≤◌, max, Bool, true, false, if◌then◌else◌, List, [], ◌∷◌, Option, Some, None}
use Rattle.vf_lexer.specs.declared.token.Token.{Token}
use Rattle.vf_lexer.specs.declared.punctuator.Punctuator.TheVariants as punctuators
use Rattle.vf_syntax.specs.declared.keyword.Keyword.TheVariants as keywords
use Rattle.vf_syntax.specs.declared.side.Side.TheVariants.{Real, Ghost}
use Rattle.vf_syntax.specs.declared.side.Grammar.{Grammar}
use Rattle.vf_syntax.specs.declared.side.Grammar.TheVariants as grammars
use Rattle.vf_syntax.specs.declared.written.Name.{Name}
use Rattle.vf_syntax.specs.declared.written.ResultType.{ResultType}
use Rattle.vf_syntax.specs.declared.written.ResultType.TheVariants as results
use Rattle.vf_syntax.specs.declared.item.Typed.{Typed}
use Rattle.vf_syntax.specs.declared.item.Parameters.{Parameters}
use Rattle.vf_syntax.specs.declared.item.Parameters.TheVariants as parameters
use Rattle.vf_syntax.specs.declared.item.Signature.{Signature}
use Rattle.vf_syntax.specs.declared.item.Body.{Body}
use Rattle.vf_syntax.specs.declared.item.Item.{Item}
use Rattle.vf_syntax.specs.declared.item.Item.TheVariants as items
use Rattle.vf_syntax.specs.declared.item.GhostParameter.{GhostParameter}
use Rattle.vf_syntax.specs.declared.item.Constructor.{Constructor}
use Rattle.vf_syntax.specs.declared.item.ConstructorArgument.{ConstructorArgument}
use Rattle.vf_syntax.specs.declared.item.FixpointBody.{FixpointBody}
use Rattle.vf_syntax.specs.declared.item.FixpointBody.TheVariants as fixpoints
use Rattle.vf_syntax.specs.declared.item.FixpointCase.{FixpointCase}
use Rattle.vf_syntax.specs.declared.item.GhostBody.{GhostBody}
use Rattle.vf_syntax.specs.declared.item.GhostItem.{GhostItem}
use Rattle.vf_syntax.specs.declared.item.GhostForm.{GhostForm}
use Rattle.vf_syntax.specs.declared.item.GhostForm.TheVariants as forms
use Rattle.vf_syntax.specs.declared.item.Unit.{Unit}
use Rattle.vf_syntax.specs.AssertionTree.{part_list}
use Rattle.vf_syntax.specs.GhostCommandTree.{ghost_command_list}
use Rattle.vf_syntax.specs.StmtTree.{stmt_list}
use Rattle.vf_syntax.specs.Walks.{Walk, ◌⨾◌, nothing, never, at, mark, word}
use Rattle.vf_syntax.specs.Written.{name, ctype}
use Rattle.vf_syntax.specs.Lists.{optional, each, separated, behind_commas, greatest, or_none}
use Rattle.vf_syntax.specs.GhostExpressions.{sort, sort_nesting, ghost_expr, ghost_nesting}
use Rattle.vf_syntax.specs.Assertions.{case_pattern, assertion, parts_nesting}
use Rattle.vf_syntax.specs.Commands.{commands, commands_nesting}
use Rattle.vf_syntax.specs.Statements.{claim, contract, owed, allowed, stmts, stmts_nesting, contract_nesting}

-- what a function returns: "void" or a type
unfoldable pub result_type : ResultType → Walk
result_type (results.Void p) = at p ⨾ word Real keywords.Void
result_type (results.Value t) = ctype Real t

-- a type and a name
unfoldable pub typed : Typed → Walk
typed x = ctype Real x.written ⨾ name Real x.name

-- a field of a struct: type NAME ";"
unfoldable pub field : Typed → Walk
field x = typed x ⨾ mark Real punctuators.Semicolon

-- the parameters of a function between parentheses (C11 6.7.6.3)
unfoldable pub parameters_walk : Parameters → Walk
parameters_walk parameters.Void = mark Real punctuators.OpenParenthesis ⨾ word Real keywords.Void ⨾ mark Real punctuators.CloseParenthesis
parameters_walk (parameters.Listed xs) = mark Real punctuators.OpenParenthesis ⨾ separated Real typed xs ⨾ mark Real punctuators.CloseParenthesis

-- result NAME "(" parameters ")"
unfoldable pub signature : Signature → Walk
signature x = result_type x.«result» ⨾ name Real x.name ⨾ parameters_walk x.parameters

-- the body of a function: "{" statements "}"
unfoldable pub body : Grammar → Body → Walk
body g b = at b.place ⨾ mark Real punctuators.OpenBrace ⨾ stmts g (stmt_list b.statements) ⨾ at b.last ⨾ mark Real punctuators.CloseBrace

-- a ghost parameter: sort NAME
unfoldable pub ghost_parameter : GhostParameter → Walk
ghost_parameter x = sort x.sort ⨾ name Ghost x.name

-- ghost parameters, each behind a comma or a semicolon
abbrev pub more_ghost_parameters : List GhostParameter → Walk
more_ghost_parameters [] = nothing
more_ghost_parameters (x ∷ xs) = mark Ghost (if x.after_semicolon then punctuators.Semicolon else punctuators.Comma) ⨾ ghost_parameter x ⨾ more_ghost_parameters xs

-- a first parameter stands behind nothing
abbrev pub first_ghost_parameter : GhostParameter → Walk
first_ghost_parameter x = if x.after_semicolon then never else ghost_parameter x

-- ghost parameters with commas or semicolons between them
abbrev pub ghost_parameters_inside : List GhostParameter → Walk
ghost_parameters_inside [] = nothing
ghost_parameters_inside (x ∷ xs) = first_ghost_parameter x ⨾ more_ghost_parameters xs

-- ghost parameters between parentheses
unfoldable pub ghost_parameters : List GhostParameter → Walk
ghost_parameters xs = mark Ghost punctuators.OpenParenthesis ⨾ ghost_parameters_inside xs ⨾ mark Ghost punctuators.CloseParenthesis

-- nothing, or type parameters between "<" and ">"
unfoldable pub type_parameters : List Name → Walk
type_parameters [] = nothing
type_parameters (x ∷ xs) = mark Ghost punctuators.Less ⨾ name Ghost x ⨾ behind_commas Ghost (name Ghost) xs ⨾ mark Ghost punctuators.Greater

-- an argument of a constructor: sort [NAME]
unfoldable pub constructor_argument : ConstructorArgument → Walk
constructor_argument x = sort x.sort ⨾ optional (name Ghost) x.name

-- arguments of a constructor between parentheses
unfoldable pub constructor_arguments : List ConstructorArgument → Walk
constructor_arguments xs = mark Ghost punctuators.OpenParenthesis ⨾ separated Ghost constructor_argument xs ⨾ mark Ghost punctuators.CloseParenthesis

-- a constructor: NAME ["(" arguments ")"]
unfoldable pub constructor : Constructor → Walk
constructor x = name Ghost x.name ⨾ optional constructor_arguments x.arguments

-- a constructor behind "|"
unfoldable pub other_constructor : Constructor → Walk
other_constructor x = mark Ghost punctuators.Bar ⨾ constructor x

-- constructors with "|" between them
unfoldable pub constructors : List Constructor → Walk
constructors [] = never
constructors (x ∷ xs) = constructor x ⨾ each other_constructor xs

-- a "|" that may stand in front
abbrev pub leading_bar : Bool → Walk
leading_bar stands = if stands then mark Ghost punctuators.Bar else nothing

-- a case of a fixpoint: "case" pattern ":" "return" expression ";"
unfoldable pub fixpoint_case : FixpointCase → Walk
fixpoint_case c = at c.place ⨾ word Ghost keywords.Case ⨾ case_pattern c.pattern ⨾ mark Ghost punctuators.Colon ⨾ word Ghost keywords.Return ⨾ ghost_expr c.value ⨾ mark Ghost punctuators.Semicolon

-- what stands between the braces of a fixpoint
unfoldable pub fixpoint_body : FixpointBody → Walk
fixpoint_body (fixpoints.Value e) = word Ghost keywords.Return ⨾ ghost_expr e ⨾ mark Ghost punctuators.Semicolon
fixpoint_body (fixpoints.Switch n cs) = word Ghost keywords.Switch ⨾ mark Ghost punctuators.OpenParenthesis ⨾ name Ghost n ⨾ mark Ghost punctuators.CloseParenthesis
    ⨾ mark Ghost punctuators.OpenBrace ⨾ each fixpoint_case cs ⨾ mark Ghost punctuators.CloseBrace

-- the body of a lemma: "{" commands "}"
unfoldable pub ghost_body : GhostBody → Walk
ghost_body b = at b.place ⨾ mark Ghost punctuators.OpenBrace ⨾ commands (ghost_command_list b.commands) ⨾ at b.last ⨾ mark Ghost punctuators.CloseBrace

-- a ghost item, behind its place
unfoldable pub ghost_form : GhostForm → Walk
ghost_form (forms.Inductive n ts bar cs) = word Ghost keywords.Inductive ⨾ name Ghost n ⨾ type_parameters ts ⨾ mark Ghost punctuators.Becomes ⨾ leading_bar bar ⨾ constructors cs ⨾ mark Ghost punctuators.Semicolon
ghost_form (forms.Fixpoint s n ts ps b) = word Ghost keywords.Fixpoint ⨾ sort s ⨾ name Ghost n ⨾ type_parameters ts ⨾ ghost_parameters ps ⨾ mark Ghost punctuators.OpenBrace ⨾ fixpoint_body b ⨾ mark Ghost punctuators.CloseBrace
ghost_form (forms.Predicate n ps) = word Ghost keywords.Predicate ⨾ name Ghost n ⨾ ghost_parameters ps ⨾ mark Ghost punctuators.Semicolon
ghost_form (forms.PredicateBody n ps a) = word Ghost keywords.Predicate ⨾ name Ghost n ⨾ ghost_parameters ps ⨾ mark Ghost punctuators.Becomes ⨾ assertion (part_list a) ⨾ mark Ghost punctuators.Semicolon
ghost_form (forms.Family n index ps) = word Ghost keywords.PredicateFamily ⨾ name Ghost n ⨾ mark Ghost punctuators.OpenParenthesis ⨾ first_ghost_parameter index ⨾ mark Ghost punctuators.CloseParenthesis
    ⨾ ghost_parameters ps ⨾ mark Ghost punctuators.Semicolon
ghost_form (forms.Instance n f ps a) = word Ghost keywords.PredicateFamilyInstance ⨾ name Ghost n ⨾ mark Ghost punctuators.OpenParenthesis ⨾ name Ghost f ⨾ mark Ghost punctuators.CloseParenthesis
    ⨾ ghost_parameters ps ⨾ mark Ghost punctuators.Becomes ⨾ assertion (part_list a) ⨾ mark Ghost punctuators.Semicolon
ghost_form (forms.PredicateConstructor n first second a) = word Ghost keywords.PredicateCtor ⨾ name Ghost n ⨾ ghost_parameters first ⨾ ghost_parameters second
    ⨾ mark Ghost punctuators.Becomes ⨾ assertion (part_list a) ⨾ mark Ghost punctuators.Semicolon
ghost_form (forms.LemmaPrototype n ts ps c) = word Ghost keywords.Lemma ⨾ word Ghost keywords.Void ⨾ name Ghost n ⨾ type_parameters ts ⨾ ghost_parameters ps ⨾ mark Ghost punctuators.Semicolon ⨾ contract c
ghost_form (forms.Lemma n ts ps c b) = word Ghost keywords.Lemma ⨾ word Ghost keywords.Void ⨾ name Ghost n ⨾ type_parameters ts ⨾ ghost_parameters ps ⨾ optional contract c ⨾ ghost_body b

-- a ghost item
unfoldable pub ghost_item : GhostItem → Walk
ghost_item x = at x.place ⨾ ghost_form x.form

-- an item (C11 6.9): a struct, a function type, a function, or a ghost item
unfoldable pub item : Grammar → Item → Walk
item g (items.Opaque p tag) = at p ⨾ word Real keywords.Struct ⨾ name Real tag ⨾ mark Real punctuators.Semicolon
item g (items.Struct p tag fields) = at p ⨾ word Real keywords.Struct ⨾ name Real tag ⨾ mark Real punctuators.OpenBrace ⨾ each field fields ⨾ mark Real punctuators.CloseBrace ⨾ mark Real punctuators.Semicolon
item g (items.FunctionType p s c) = at p ⨾ word Real keywords.Typedef ⨾ signature s ⨾ mark Real punctuators.Semicolon ⨾ owed g contract c
item g (items.Prototype s k c) = signature s ⨾ mark Real punctuators.Semicolon ⨾ allowed g claim k ⨾ owed g contract c
item g (items.Function s k c b) = signature s ⨾ allowed g claim k ⨾ allowed g contract c ⨾ body g b
item grammars.Whole (items.Ghost x) = ghost_item x
item grammars.Plain (items.Ghost x) = never

-- a unit: items
unfoldable pub unit : Grammar → Unit → Walk
unit g u = each (item g) u.items

-- how deep a ghost parameter nests: its sort counts one
abbrev pub ghost_parameter_nesting : GhostParameter → ℕ
ghost_parameter_nesting x = sort_nesting x.sort + 1

-- how deep an argument of a constructor nests: its sort counts one
abbrev pub constructor_argument_nesting : ConstructorArgument → ℕ
constructor_argument_nesting x = sort_nesting x.sort + 1

-- how deep a constructor nests
abbrev pub constructor_nesting : Constructor → ℕ
constructor_nesting x = or_none (greatest constructor_argument_nesting) x.arguments

-- how deep a case of a fixpoint nests: its value counts one
abbrev pub fixpoint_case_nesting : FixpointCase → ℕ
fixpoint_case_nesting c = ghost_nesting c.value + 1

-- how deep what stands between the braces of a fixpoint nests
abbrev pub fixpoint_body_nesting : FixpointBody → ℕ
fixpoint_body_nesting (fixpoints.Value e) = ghost_nesting e + 1
fixpoint_body_nesting (fixpoints.Switch n cs) = greatest fixpoint_case_nesting cs

-- how deep a ghost item nests
abbrev pub ghost_form_nesting : GhostForm → ℕ
ghost_form_nesting (forms.Inductive n ts bar cs) = greatest constructor_nesting cs
ghost_form_nesting (forms.Fixpoint s n ts ps b) = max (sort_nesting s + 1) (max (greatest ghost_parameter_nesting ps) (fixpoint_body_nesting b))
ghost_form_nesting (forms.Predicate n ps) = greatest ghost_parameter_nesting ps
ghost_form_nesting (forms.PredicateBody n ps a) = max (greatest ghost_parameter_nesting ps) (parts_nesting (part_list a) + 1)
ghost_form_nesting (forms.Family n index ps) = max (ghost_parameter_nesting index) (greatest ghost_parameter_nesting ps)
ghost_form_nesting (forms.Instance n f ps a) = max (greatest ghost_parameter_nesting ps) (parts_nesting (part_list a) + 1)
ghost_form_nesting (forms.PredicateConstructor n first second a) = max (greatest ghost_parameter_nesting first) (max (greatest ghost_parameter_nesting second) (parts_nesting (part_list a) + 1))
ghost_form_nesting (forms.LemmaPrototype n ts ps c) = max (greatest ghost_parameter_nesting ps) (contract_nesting c)
ghost_form_nesting (forms.Lemma n ts ps c b) = max (greatest ghost_parameter_nesting ps) (max (or_none contract_nesting c) (commands_nesting (ghost_command_list b.commands)))

-- how many statements, ghost commands, assertions, sorts, expressions and operators in front of their operand stand in one another at the deepest token of an item
abbrev pub item_nesting : Item → ℕ
item_nesting (items.Opaque p tag) = 0
item_nesting (items.Struct p tag fields) = 0
item_nesting (items.FunctionType p s c) = or_none contract_nesting c
item_nesting (items.Prototype s k c) = or_none contract_nesting c
item_nesting (items.Function s k c b) = max (or_none contract_nesting c) (stmts_nesting (stmt_list b.statements))
item_nesting (items.Ghost x) = ghost_form_nesting x.form

-- the same of a unit
abbrev pub unit_nesting : Unit → ℕ
unit_nesting u = greatest item_nesting u.items

-- a unit spells all of the tokens, and no token nests deeper than a limit
pub record Spells (g : Grammar) (limit : ℕ) (u : Unit) (tokens : List Token) : Type 0 where
  pub spelled : unit g u tokens ≡ Some []
  pub nested : unit_nesting u ≤ limit
