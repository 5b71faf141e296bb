-- What the heads of the code stand for.
use Rattle.vf_closure.specs.Terms as pure
use Rattle.vf_meaning.specs.Ghost as ghosts
use Rattle.vf_core.specs.Shown.{operator_of, comparison_of}
use Rattle.vf_formula.specs.declared.head.Kind.{Kind}
use Rattle.vf_formula.specs.declared.head.Kind.TheVariants as kinds
use Rattle.vf_formula.specs.declared.head.Name.{Name}
use Rattle.vf_formula.specs.declared.head.Name.TheVariants as names
use Rattle.vf_formula.specs.declared.head.Head.{Head}
use Rattle.vf_formula.specs.declared.head.Head.TheVariants.{Symbol, Number, Truth, Null, Function, Constructor, Fixpoint, Claims, Predicate, Share, Sum, Plus, Arithmetic, Compare, Not, And, Or, Choose, PointerSum}

-- a kind
abbrev pub shown_kind : Kind → pure.Kind
shown_kind kinds.Integer = pure.Integer
shown_kind kinds.Other = pure.Other

-- a symbol's name
abbrev pub shown_name : Name → ghosts.Name
shown_name (names.Numbered i) = ghosts.Numbered i
shown_name names.Result = ghosts.Result
shown_name names.This = ghosts.This
shown_name names.CurrentThread = ghosts.CurrentThread

-- a head
abbrev pub shown_head : Head → pure.Head
shown_head (Symbol k x) = pure.Symbol (shown_kind k) (shown_name x)
shown_head (Number z) = pure.Number z
shown_head (Truth b) = pure.Truth b
shown_head Null = pure.Null
shown_head (Function g) = pure.Function g
shown_head (Constructor c) = pure.Constructor c
shown_head (Fixpoint k f) = pure.Fixpoint (shown_kind k) f
shown_head (Claims t) = pure.Claims t
shown_head (Predicate p) = pure.Predicate p
shown_head (Share x) = pure.Share x
shown_head (Sum factors) = pure.Sum factors
shown_head Plus = pure.Plus
shown_head (Arithmetic op) = pure.Arithmetic (operator_of op)
shown_head (Compare op) = pure.Compare (comparison_of op)
shown_head Not = pure.Not
shown_head And = pure.And
shown_head Or = pure.Or
shown_head (Choose k) = pure.Choose (shown_kind k)
shown_head PointerSum = pure.PointerSum
