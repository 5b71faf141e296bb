-- What expressions become. An expression has a setting, and what is left of it is a value, a test or an access.
use Rattle.std.specs.Prelude.{ℕ, true, false, if◌then◌else◌, List, [], ◌∷◌, Option, Some, None}
use Rattle.vf_base.specs.declared.int_type.IntType.TheVariants as integers
use Rattle.vf_base.specs.declared.place.Place.{Place}
use Rattle.vf_ctypes.specs.Types.{promoted}
use Rattle.vf_declared.specs.declared.ctype.CType.{CType}
use Rattle.vf_declared.specs.declared.ctype.CType.TheVariants as types
use Rattle.vf_declared.specs.declared.declaration.Signature.{Signature}
use Rattle.vf_declared.specs.Scopes.{field_of}
use Rattle.vf_syntax.specs.declared.operator.UnaryOperator.{UnaryOperator}
use Rattle.vf_syntax.specs.declared.operator.UnaryOperator.TheVariants as unaries
use Rattle.vf_syntax.specs.ExprTree.{ExprTree, ExprTrees, no_expr, more_expr, LinkTree, LinkTrees, no_link, more_link, PostfixTree, PostfixTrees, no_postfix, more_postfix}
use Rattle.vf_syntax.specs.ExprTree as tree
use Rattle.vf_typing.specs.Parts.{called, free_place, parameters_of}
use Rattle.vf_typing.specs.Types.{is_void, result_type}
use Rattle.vf_steps.specs.Tree.{ValueTree, ActionTree}
use Rattle.vf_steps.specs.Tree as steps
use Rattle.vf_lower.specs.Lowering.{Lowering, gives, ◌⨾◌, does}
use Rattle.vf_lower.specs.Settings.{Setting, kind, integer_in, structure_in, field_number, tag_number, named}
use Rattle.vf_lower.specs.Branches.{Test, opposite}
use Rattle.vf_lower.specs.Operands.{Access, Outcome, Left, left, valued, tested, passed, left_value, joined, choice}
use Rattle.vf_lower.specs.Operands as outcomes

-- an operand with the other sign, at the minus: it is promoted first (C11 6.5.3.3)
abbrev pub negative : Setting → Place → ExprTree → Lowering Outcome → Lowering Outcome
negative c p a m =
    let t = types.Integer (promoted (integer_in (kind c a).ctype)) in
    passed c t a m ⨾ λ v. gives (outcomes.is (steps.negate (integer_in t) v p))

-- an operator at a place in front of its operand
abbrev pub prefixed : Setting → Place → UnaryOperator → ExprTree → Lowering Outcome → Lowering Outcome
prefixed c p unaries.Minus a m = negative c p a m
prefixed c p unaries.Not a m = tested c a m ⨾ λ x. gives (outcomes.holds (opposite x))

-- the step that frees what a value of a type points to, at the word `free`
abbrev pub free_step : CType → ValueTree → Place → ActionTree
free_step types.IntPointer v q = steps.free_ints v q
free_step t v q = steps.free v (structure_in t) q

-- a call of `free`, whose name stands at a place, with one argument
abbrev pub freed : Setting → Place → ExprTree → Lowering Outcome → Lowering Outcome
freed c q b m = valued c b m ⨾ λ v. does c.statement (free_step (kind c b).ctype v q) ⨾ λ u. gives outcomes.nothing

-- the number of the function type to which a type points
abbrev pub function_type_in : CType → ℕ
function_type_in (types.FunctionPointer t) = t
function_type_in t = 0

-- a call at a place of a function by its name, or of what a value of a type points to, that gives something
abbrev pub call_of : CType → ValueTree → List ValueTree → Place → Access
call_of (types.Function f) v vs p = outcomes.call f vs p
call_of t v vs p = outcomes.call_pointer v (function_type_in t) vs p

-- the same of a call that gives nothing
abbrev pub void_call : CType → ValueTree → List ValueTree → Place → ActionTree
void_call (types.Function f) v vs p = steps.call None f vs p
void_call t v vs p = steps.call_pointer None v (function_type_in t) vs p

-- the type of what a call gives
abbrev pub result_of : Option Signature → CType
result_of None = types.Void
result_of (Some g) = g.result

-- a call at a place whose operands are evaluated
abbrev pub called_with : Setting → Place → CType → ValueTree → List ValueTree → Lowering Outcome
called_with c p t v vs = if is_void (result_of (called c.scope t)) then (does c.statement (void_call t v vs p) ⨾ λ u. gives outcomes.nothing) else gives (outcomes.awaits (call_of t v vs p))

-- the type of what may be found
abbrev pub or_void : Option CType → CType
or_void None = types.Void
or_void (Some t) = t

-- the type of a read or call behind an operand of a type
abbrev pub part_type : Setting → CType → PostfixTree → CType
part_type c t (tree.field_ q g) = or_void (field_of c.scope (structure_in t) g.text g.place.file)
part_type c t (tree.index_ q a) = types.Integer integers.Int
part_type c t (tree.call_ q ys) = result_of (called c.scope t)

-- the type of an operator's result
abbrev pub link_type : Setting → CType → LinkTree → CType
link_type c t (tree.link q o b) = result_type o t (kind c b).ctype

-- what is left of an expression, as an operand on the left of something
abbrev pub first : Setting → ExprTree → Outcome → Left
first c a o = record { outcome = o; kind = kind c a }

-- the argument of a read or call, where it is a call of one argument
abbrev pub argument_of : PostfixTree → Option ExprTree
argument_of (tree.call_ d (more_expr b no_expr)) = Some b
argument_of x = None

-- the argument of the first of some reads and calls, where that is a call of one argument
abbrev pub only_argument : PostfixTrees → Option ExprTree
only_argument no_postfix = None
only_argument (more_postfix x xs) = argument_of x

abbrev mutual
  -- what an expression becomes
  pub outcome : Setting → ExprTree → Lowering Outcome
  outcome c (tree.number p n i) = gives (outcomes.is (steps.number n))
  outcome c (tree.character p b) = gives (outcomes.is (steps.number b))
  outcome c (tree.true_ p) = gives (outcomes.is (steps.truth true))
  outcome c (tree.false_ p) = gives (outcomes.is (steps.truth false))
  outcome c (tree.name_ p x) = gives (outcomes.is (named c p x))
  outcome c (tree.parenthesized p a) = outcome c a
  outcome c (tree.malloc p g) = gives (outcomes.awaits (outcomes.allocate (tag_number c g)))
  outcome c (tree.malloc_ints p a q) = valued c a (outcome c a) ⨾ λ v. gives (outcomes.awaits (outcomes.allocate_ints v q))
  outcome c (tree.postfix p a xs) = behind c p (free_place c.scope a) a (outcome c a) xs
  outcome c (tree.unary p o a) = prefixed c p o a (outcome c a)
  outcome c (tree.cast p w a) = passed c (kind c (tree.cast p w a)).ctype a (outcome c a) ⨾ λ v. gives (outcomes.is v)
  outcome c (tree.chain p l a xs) = outcome c a ⨾ λ o. links c p (first c a o) xs
  outcome c (tree.conditional p a b d) =
      let t = (kind c (tree.conditional p a b d)).ctype in
      tested c a (outcome c a) ⨾ λ x. choice c p t x (passed c t b (outcome c b)) (passed c t d (outcome c d))

  -- an operator and its operand behind a left operand at a place
  pub link : Setting → Place → Left → LinkTree → Lowering Outcome
  link c p l (tree.link q o b) = joined c p l q o b (outcome c b)

  -- operators and their operands behind a left operand, from left to right
  pub links : Setting → Place → Left → LinkTrees → Lowering Outcome
  links c p l no_link = gives l.outcome
  links c p l (more_link x xs) = link c p l x ⨾ λ o. links c p (left o (link_type c l.kind.ctype x)) xs

  -- reads and calls behind an expression at a place, that may be the name `free`
  pub behind : Setting → Place → Option Place → ExprTree → Lowering Outcome → PostfixTrees → Lowering Outcome
  behind c p (Some q) a m (more_postfix (tree.call_ d (more_expr b no_expr)) xs) = freed c q b (outcome c b)
  behind c p q a m no_postfix = m ⨾ λ o. gives o
  behind c p q a m (more_postfix x xs) = m ⨾ λ o. part c p (first c a o) x ⨾ λ r. parts c p (left r (part_type c (kind c a).ctype x)) xs

  -- a read or call behind a left operand at a place
  pub part : Setting → Place → Left → PostfixTree → Lowering Outcome
  part c p l (tree.field_ q g) = left_value c p l ⨾ λ v. gives (outcomes.awaits (outcomes.load v (field_number c l.kind.ctype g) q))
  part c p l (tree.index_ q a) = left_value c p l ⨾ λ v. valued c a (outcome c a) ⨾ λ i. gives (outcomes.awaits (outcomes.load_at v i q))
  part c p l (tree.call_ q ys) = left_value c p l ⨾ λ v. arguments c (parameters_of (called c.scope l.kind.ctype)) ys ⨾ λ vs. called_with c p l.kind.ctype v vs

  -- reads and calls behind a left operand, from left to right
  pub parts : Setting → Place → Left → PostfixTrees → Lowering Outcome
  parts c p l no_postfix = gives l.outcome
  parts c p l (more_postfix x xs) = part c p l x ⨾ λ o. parts c p (left o (part_type c l.kind.ctype x)) xs

  -- arguments for parameters of these types, from left to right
  pub arguments : Setting → List CType → ExprTrees → Lowering (List ValueTree)
  arguments c (t ∷ ts) (more_expr a xs) = passed c t a (outcome c a) ⨾ λ v. arguments c ts xs ⨾ λ vs. gives (v ∷ vs)
  arguments c ts xs = gives []

-- an expression as a value
abbrev pub value : Setting → ExprTree → Lowering ValueTree
value c e = valued c e (outcome c e)

-- an expression as a test
abbrev pub condition : Setting → ExprTree → Lowering Test
condition c e = tested c e (outcome c e)

-- an expression as a value that passes for one of a type
abbrev pub value_as : Setting → CType → ExprTree → Lowering ValueTree
value_as c t e = passed c t e (outcome c e)
