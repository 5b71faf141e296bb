-- What types and expressions of real text leave stood there before.
use Rattle.vf_syntax.specs.declared.side.Side.{Side}
use Rattle.vf_syntax.specs.declared.operator.Level.{Level}
use Rattle.vf_syntax.specs.declared.written.Sign.{Sign}
use Rattle.vf_syntax.specs.declared.written.Sign.TheVariants as signs
use Rattle.vf_syntax.specs.declared.written.Width.{Width}
use Rattle.vf_syntax.specs.declared.written.Width.TheVariants as widths
use Rattle.vf_syntax.specs.declared.written.IntegerWords.{IntegerWords}
use Rattle.vf_syntax.specs.declared.written.IntegerWords.TheVariants as integers
use Rattle.vf_syntax.specs.declared.written.TypeForm.{TypeForm}
use Rattle.vf_syntax.specs.declared.written.TypeForm.TheVariants as forms
use Rattle.vf_syntax.specs.declared.written.CType.{CType}
use Rattle.vf_syntax.specs.ExprTree.{ExprTree, ExprTrees, LinkTree, LinkTrees, PostfixTree, PostfixTrees, no_expr, more_expr, no_link, more_link, no_postfix, more_postfix}
use Rattle.vf_syntax.specs.ExprTree as tree
use Rattle.vf_syntax.specs.Written.{sign, width, integer, type_form, ctype}
use Rattle.vf_syntax.specs.Expressions.{expr, link, links, postfix, postfixes, arguments, more_arguments}
use Rattle.vf_fixpoint_laws.proofs.identifiers.Keeps.{Keeps, keep_then, nothing_keeps, provided_keeps, at_keeps, mark_keeps, word_keeps, identifier_keeps, number_keeps, character_keeps, name_keeps}

sign_keeps : (s : Side) (g : Sign) → Keeps (sign s g)
unfolding sign
sign_keeps s signs.Signed = word_keeps s _
sign_keeps s signs.Unsigned = word_keeps s _

width_keeps : (s : Side) (w : Width) → Keeps (width s w)
unfolding width
width_keeps s widths.Char = word_keeps s _
width_keeps s widths.Short = word_keeps s _
width_keeps s widths.ShortInt = keep_then (word_keeps s _) (word_keeps s _)
width_keeps s widths.Int = word_keeps s _
width_keeps s widths.Long = word_keeps s _
width_keeps s widths.LongInt = keep_then (word_keeps s _) (word_keeps s _)
width_keeps s widths.LongLong = keep_then (word_keeps s _) (word_keeps s _)
width_keeps s widths.LongLongInt = keep_then (word_keeps s _) (keep_then (word_keeps s _) (word_keeps s _))

integer_keeps : (s : Side) (w : IntegerWords) → Keeps (integer s w)
unfolding integer
integer_keeps s (integers.Sign g) = sign_keeps s g
integer_keeps s (integers.Width w) = width_keeps s w
integer_keeps s (integers.Both g w) = keep_then (sign_keeps s g) (width_keeps s w)

type_form_keeps : (s : Side) (f : TypeForm) → Keeps (type_form s f)
unfolding type_form
type_form_keeps s (forms.Integer w) = integer_keeps s w
type_form_keeps s forms.Bool = word_keeps s _
type_form_keeps s forms.VoidPointer = keep_then (word_keeps s _) (mark_keeps s _)
type_form_keeps s forms.IntPointer = keep_then (word_keeps s _) (mark_keeps s _)
type_form_keeps s (forms.StructPointer n) = keep_then (word_keeps s _) (keep_then (name_keeps s n) (mark_keeps s _))
type_form_keeps s (forms.NamedPointer x) = keep_then (identifier_keeps s x) (mark_keeps s _)

pub ctype_keeps : (s : Side) (t : CType) → Keeps (ctype s t)
unfolding ctype
ctype_keeps s t = keep_then (at_keeps t.place) (type_form_keeps s t.form)

mutual
  pub expr_keeps : (x : ExprTree) → Keeps (expr x)
  expr_keeps (tree.number p n ty) = keep_then (at_keeps p) (number_keeps _ n ty)
  expr_keeps (tree.character p n) = keep_then (at_keeps p) (character_keeps n)
  expr_keeps (tree.true_ p) = keep_then (at_keeps p) (word_keeps _ _)
  expr_keeps (tree.false_ p) = keep_then (at_keeps p) (word_keeps _ _)
  expr_keeps (tree.name_ p x) = keep_then (at_keeps p) (identifier_keeps _ x)
  expr_keeps (tree.parenthesized p a) = keep_then (at_keeps p) (keep_then (mark_keeps _ _) (keep_then (expr_keeps a) (mark_keeps _ _)))
  expr_keeps (tree.malloc p tag) = keep_then (at_keeps p) (keep_then (word_keeps _ _) (keep_then (mark_keeps _ _) (keep_then (word_keeps _ _) (keep_then (mark_keeps _ _) (keep_then (word_keeps _ _) (keep_then (name_keeps _ tag) (keep_then (mark_keeps _ _) (mark_keeps _ _))))))))
  expr_keeps (tree.malloc_ints p n star) = keep_then (at_keeps p) (keep_then (word_keeps _ _) (keep_then (mark_keeps _ _) (keep_then (provided_keeps _) (keep_then (expr_keeps n) (keep_then (at_keeps star) (keep_then (mark_keeps _ _) (keep_then (word_keeps _ _) (keep_then (mark_keeps _ _) (keep_then (word_keeps _ _) (keep_then (mark_keeps _ _) (mark_keeps _ _)))))))))))
  expr_keeps (tree.postfix p a parts) = keep_then (at_keeps p) (keep_then (provided_keeps _) (keep_then (expr_keeps a) (postfixes_keeps parts)))
  expr_keeps (tree.unary p o a) = keep_then (at_keeps p) (keep_then (mark_keeps _ _) (keep_then (provided_keeps _) (expr_keeps a)))
  expr_keeps (tree.cast p t a) = keep_then (at_keeps p) (keep_then (mark_keeps _ _) (keep_then (ctype_keeps _ t) (keep_then (mark_keeps _ _) (keep_then (provided_keeps _) (expr_keeps a)))))
  expr_keeps (tree.chain p l a xs) = keep_then (at_keeps p) (keep_then (provided_keeps _) (keep_then (expr_keeps a) (links_keeps l xs)))
  expr_keeps (tree.conditional p c a b) = keep_then (at_keeps p) (keep_then (provided_keeps _) (keep_then (expr_keeps c) (keep_then (mark_keeps _ _) (keep_then (expr_keeps a) (keep_then (mark_keeps _ _) (expr_keeps b))))))

  pub link_keeps : (l : Level) (x : LinkTree) → Keeps (link l x)
  link_keeps l (tree.link p o a) = keep_then (at_keeps p) (keep_then (provided_keeps _) (keep_then (mark_keeps _ _) (expr_keeps a)))

  links_keeps : (l : Level) (xs : LinkTrees) → Keeps (links l xs)
  links_keeps l no_link = nothing_keeps
  links_keeps l (more_link x xs) = keep_then (link_keeps l x) (links_keeps l xs)

  pub part_keeps : (x : PostfixTree) → Keeps (postfix x)
  part_keeps (tree.field_ p n) = keep_then (at_keeps p) (keep_then (mark_keeps _ _) (name_keeps _ n))
  part_keeps (tree.index_ p e) = keep_then (at_keeps p) (keep_then (mark_keeps _ _) (keep_then (expr_keeps e) (mark_keeps _ _)))
  part_keeps (tree.call_ p xs) = keep_then (at_keeps p) (keep_then (mark_keeps _ _) (keep_then (arguments_keeps xs) (mark_keeps _ _)))

  postfixes_keeps : (xs : PostfixTrees) → Keeps (postfixes xs)
  postfixes_keeps no_postfix = nothing_keeps
  postfixes_keeps (more_postfix x xs) = keep_then (part_keeps x) (postfixes_keeps xs)

  arguments_keeps : (xs : ExprTrees) → Keeps (arguments xs)
  arguments_keeps no_expr = nothing_keeps
  arguments_keeps (more_expr x xs) = keep_then (expr_keeps x) (more_arguments_keeps xs)

  more_arguments_keeps : (xs : ExprTrees) → Keeps (more_arguments xs)
  more_arguments_keeps no_expr = nothing_keeps
  more_arguments_keeps (more_expr x xs) = keep_then (mark_keeps _ _) (keep_then (expr_keeps x) (more_arguments_keeps xs))
