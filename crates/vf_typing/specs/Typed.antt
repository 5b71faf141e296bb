-- The type of an expression, or its first refusal: what stands in an operand before what stands around it, from left to right.
use Rattle.std.specs.Prelude.{nat_eq, if◌then◌else◌, List, ◌∷◌, Option, Some, None, Result, Ok, Err}
use Rattle.std.specs.Option.{option_or}
use Rattle.vf_base.specs.declared.int_type.IntType.TheVariants as integers
use Rattle.vf_base.specs.declared.place.Place.{Place}
use Rattle.vf_base.specs.declared.refusal.Refusal.{Refusal}
use Rattle.vf_base.specs.declared.rule.Rule.TheVariants as rules
use Rattle.vf_declared.specs.declared.ctype.CType.{CType}
use Rattle.vf_declared.specs.declared.ctype.CType.TheVariants as types
use Rattle.vf_declared.specs.declared.scope.Scope.{Scope}
use Rattle.vf_syntax.specs.ExprTree.{ExprTree, ExprTrees, no_expr, more_expr, LinkTree, LinkTrees, no_link, more_link, PostfixTree, PostfixTrees, no_postfix, more_postfix}
use Rattle.vf_syntax.specs.ExprTree as tree
use Rattle.vf_typing.specs.declared.operand.Operand.{Operand}
use Rattle.vf_typing.specs.Refusals.{refused}
use Rattle.vf_typing.specs.Operands.{operand, value, used, assigned_refusal, linked, prefixed, cast, conditional, enclosed}
use Rattle.vf_typing.specs.Names.{name_type, written_type}
use Rattle.vf_typing.specs.Parts.{allocated, ints_allocated, free_place, freed, field_behind, indexed, called, count, call, parameters_of}

-- a name at a place
abbrev pub named : Place → Result CType Refusal → Result Operand Refusal
named p (Err x) = Err x
named p (Ok t) = Ok (value p t)

-- the arguments of a read or call, where it is a call
abbrev pub arguments_of : PostfixTree → Option ExprTrees
arguments_of (tree.call_ c xs) = Some xs
arguments_of x = None

-- the arguments of the first of some reads and calls, where it is a call
abbrev pub first_arguments : PostfixTrees → Option ExprTrees
first_arguments no_postfix = None
first_arguments (more_postfix x xs) = arguments_of x

abbrev mutual
  -- what is kept of an expression, or its first refusal
  pub typed : Scope → ExprTree → Result Operand Refusal
  typed s (tree.number p n i) = Ok (operand p (types.Integer i) (nat_eq n 0))
  typed s (tree.character p c) = Ok (value p (types.Integer integers.Int))
  typed s (tree.true_ p) = Ok (value p (types.Integer integers.Bool))
  typed s (tree.false_ p) = Ok (value p (types.Integer integers.Bool))
  typed s (tree.name_ p x) = named p (name_type s p x)
  typed s (tree.parenthesized p a) = enclosed p (typed s a)
  typed s (tree.malloc p n) = allocated s p n
  typed s (tree.malloc_ints p a q) = ints_allocated s p (typed s a)
  typed s (tree.postfix p a b) = typed_postfix s p (free_place s a) (typed s a) b
  typed s (tree.unary p o a) = prefixed p o (typed s a)
  typed s (tree.cast p t a) = cast p (written_type s t) (typed s a)
  typed s (tree.chain p v a b) = typed_links s (typed s a) b
  typed s (tree.conditional p a b c) = conditional s p (used (typed s a)) (used (typed s b)) (used (typed s c))

  -- an operator and its operand behind a left operand
  pub typed_link : Scope → Result Operand Refusal → LinkTree → Result Operand Refusal
  typed_link s (Err x) l = Err x
  typed_link s (Ok l) (tree.link p o a) = linked s o l (typed s a)

  -- operators and their operands behind a left operand
  pub typed_links : Scope → Result Operand Refusal → LinkTrees → Result Operand Refusal
  typed_links s r no_link = r
  typed_links s r (more_link x xs) = typed_links s (typed_link s r x) xs

  -- reads and calls behind an expression at a place, that may be the name `free`
  pub typed_postfix : Scope → Place → Option Place → Result Operand Refusal → PostfixTrees → Result Operand Refusal
  typed_postfix s p q r no_postfix = r
  typed_postfix s p (Some q) r (more_postfix (tree.call_ c ys) xs) = typed_parts s (typed_free s p q ys) xs
  typed_postfix s p q r (more_postfix x xs) = typed_parts s (typed_part s r x) xs

  -- a call of `free` at a place, whose name stands at another: it needs `<stdlib.h>`, and takes one argument
  pub typed_free : Scope → Place → Place → ExprTrees → Result Operand Refusal
  typed_free s p q (more_expr a no_expr) = if s.has_stdlib then freed s p (typed s a) else Err (refused rules.Name q)
  typed_free s p q xs = if s.has_stdlib then Err (refused rules.Typing p) else Err (refused rules.Name q)

  -- a read or call behind an operand
  pub typed_part : Scope → Result Operand Refusal → PostfixTree → Result Operand Refusal
  typed_part s (Err x) part = Err x
  typed_part s (Ok o) (tree.field_ q n) = field_behind s o.place n o.ctype
  typed_part s (Ok o) (tree.index_ q a) = indexed s q o (typed s a)
  typed_part s (Ok o) (tree.call_ q xs) = call o.place (called s o.ctype) (count xs) (refused_argument s (parameters_of (called s o.ctype)) xs)

  -- reads and calls behind an operand
  pub typed_parts : Scope → Result Operand Refusal → PostfixTrees → Result Operand Refusal
  typed_parts s r no_postfix = r
  typed_parts s r (more_postfix x xs) = typed_parts s (typed_part s r x) xs

  -- the first refusal among arguments for parameters of these types
  pub refused_argument : Scope → List CType → ExprTrees → Option Refusal
  refused_argument s (t ∷ ts) (more_expr a xs) = option_or (assigned_refusal s t (typed s a)) (refused_argument s ts xs)
  refused_argument s ts xs = None
