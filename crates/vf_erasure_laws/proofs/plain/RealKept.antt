-- Types and expressions of real text are spelled by the tokens of real text alone.
use Rattle.vf_syntax.specs.declared.side.Side.TheVariants.{Real}
use Rattle.vf_syntax.specs.declared.operator.Level.{Level}
use Rattle.vf_syntax.specs.declared.written.Sign.{Sign}
use Rattle.vf_syntax.specs.declared.written.Sign.TheVariants as signs
use Rattle.vf_syntax.specs.declared.written.Width.{Width}
use Rattle.vf_syntax.specs.declared.written.Width.TheVariants as widths
use Rattle.vf_syntax.specs.declared.written.IntegerWords.{IntegerWords}
use Rattle.vf_syntax.specs.declared.written.IntegerWords.TheVariants as integers
use Rattle.vf_syntax.specs.declared.written.TypeForm.{TypeForm}
use Rattle.vf_syntax.specs.declared.written.TypeForm.TheVariants as forms
use Rattle.vf_syntax.specs.declared.written.CType.{CType}
use Rattle.vf_syntax.specs.ExprTree.{ExprTree, ExprTrees, LinkTree, LinkTrees, PostfixTree, PostfixTrees, no_expr, more_expr, no_link, more_link, no_postfix, more_postfix}
use Rattle.vf_syntax.specs.ExprTree as tree
use Rattle.vf_syntax.specs.Written.{sign, width, integer, type_form, ctype}
use Rattle.vf_syntax.specs.Expressions.{expr, link, links, postfix, postfixes, arguments, more_arguments}
use Rattle.vf_erasure_laws.proofs.plain.Kept.{Keeps, Firm, keeps, keeps_then, firm_then, firm_on, nothing_keeps, provided_firm, at_firm, mark_firm, word_firm, identifier_firm, number_firm, character_firm, name_firm}

sign_firm : (g : Sign) → Firm (sign Real g) (sign Real g)
unfolding sign
sign_firm signs.Signed = word_firm _
sign_firm signs.Unsigned = word_firm _

width_firm : (w : Width) → Firm (width Real w) (width Real w)
unfolding width
width_firm widths.Char = word_firm _
width_firm widths.Short = word_firm _
width_firm widths.ShortInt = firm_on (word_firm _) (word_firm _)
width_firm widths.Int = word_firm _
width_firm widths.Long = word_firm _
width_firm widths.LongInt = firm_on (word_firm _) (word_firm _)
width_firm widths.LongLong = firm_on (word_firm _) (word_firm _)
width_firm widths.LongLongInt = firm_on (word_firm _) (firm_on (word_firm _) (word_firm _))

integer_firm : (w : IntegerWords) → Firm (integer Real w) (integer Real w)
unfolding integer
integer_firm (integers.Sign g) = sign_firm g
integer_firm (integers.Width w) = width_firm w
integer_firm (integers.Both g w) = firm_on (sign_firm g) (width_firm w)

type_form_firm : (f : TypeForm) → Firm (type_form Real f) (type_form Real f)
unfolding type_form
type_form_firm (forms.Integer w) = integer_firm w
type_form_firm forms.Bool = word_firm _
type_form_firm forms.VoidPointer = firm_on (word_firm _) (mark_firm _)
type_form_firm forms.IntPointer = firm_on (word_firm _) (mark_firm _)
type_form_firm (forms.StructPointer n) = firm_on (word_firm _) (firm_on (name_firm n) (mark_firm _))
type_form_firm (forms.NamedPointer x) = firm_on (identifier_firm x) (mark_firm _)

pub ctype_firm : (t : CType) → Firm (ctype Real t) (ctype Real t)
unfolding ctype
ctype_firm t = at_firm t.place (type_form_firm t.form)

mutual
  pub expr_firm : (x : ExprTree) → Firm (expr x) (expr x)
  expr_firm (tree.number p n ty) = at_firm p (number_firm n ty)
  expr_firm (tree.character p n) = at_firm p (character_firm n)
  expr_firm (tree.true_ p) = at_firm p (word_firm _)
  expr_firm (tree.false_ p) = at_firm p (word_firm _)
  expr_firm (tree.name_ p x) = at_firm p (identifier_firm x)
  expr_firm (tree.parenthesized p a) = at_firm p (firm_on (mark_firm _) (firm_on (expr_firm a) (mark_firm _)))
  expr_firm (tree.malloc p tag) = at_firm p (firm_on (word_firm _) (firm_on (mark_firm _) (firm_on (word_firm _) (firm_on (mark_firm _) (firm_on (word_firm _) (firm_on (name_firm tag) (firm_on (mark_firm _) (mark_firm _))))))))
  expr_firm (tree.malloc_ints p n star) = at_firm p (firm_on (word_firm _) (firm_on (mark_firm _) (provided_firm _ (firm_on (expr_firm n) (at_firm star (firm_on (mark_firm _) (firm_on (word_firm _) (firm_on (mark_firm _) (firm_on (word_firm _) (firm_on (mark_firm _) (mark_firm _)))))))))))
  expr_firm (tree.postfix p a parts) = at_firm p (provided_firm _ (firm_then (expr_firm a) (postfixes_keep parts)))
  expr_firm (tree.unary p o a) = at_firm p (firm_on (mark_firm _) (provided_firm _ (expr_firm a)))
  expr_firm (tree.cast p t a) = at_firm p (firm_on (mark_firm _) (firm_on (ctype_firm t) (firm_on (mark_firm _) (provided_firm _ (expr_firm a)))))
  expr_firm (tree.chain p l a xs) = at_firm p (provided_firm _ (firm_then (expr_firm a) (links_keep l xs)))
  expr_firm (tree.conditional p c a b) = at_firm p (provided_firm _ (firm_on (expr_firm c) (firm_on (mark_firm _) (firm_on (expr_firm a) (firm_on (mark_firm _) (expr_firm b))))))

  pub link_firm : (l : Level) (x : LinkTree) → Firm (link l x) (link l x)
  link_firm l (tree.link p o a) = at_firm p (provided_firm _ (firm_on (mark_firm _) (expr_firm a)))

  links_keep : (l : Level) (xs : LinkTrees) → Keeps (links l xs) (links l xs)
  links_keep l no_link = nothing_keeps
  links_keep l (more_link x xs) = keeps_then (keeps (link_firm l x)) (links_keep l xs)

  pub part_firm : (x : PostfixTree) → Firm (postfix x) (postfix x)
  part_firm (tree.field_ p n) = at_firm p (firm_on (mark_firm _) (name_firm n))
  part_firm (tree.index_ p e) = at_firm p (firm_on (mark_firm _) (firm_on (expr_firm e) (mark_firm _)))
  part_firm (tree.call_ p xs) = at_firm p (firm_then (mark_firm _) (keeps_then (arguments_keep xs) (keeps (mark_firm _))))

  postfixes_keep : (xs : PostfixTrees) → Keeps (postfixes xs) (postfixes xs)
  postfixes_keep no_postfix = nothing_keeps
  postfixes_keep (more_postfix x xs) = keeps_then (keeps (part_firm x)) (postfixes_keep xs)

  arguments_keep : (xs : ExprTrees) → Keeps (arguments xs) (arguments xs)
  arguments_keep no_expr = nothing_keeps
  arguments_keep (more_expr x xs) = keeps_then (keeps (expr_firm x)) (more_arguments_keep xs)

  more_arguments_keep : (xs : ExprTrees) → Keeps (more_arguments xs) (more_arguments xs)
  more_arguments_keep no_expr = nothing_keeps
  more_arguments_keep (more_expr x xs) = keeps_then (keeps (mark_firm _)) (keeps_then (keeps (expr_firm x)) (more_arguments_keep xs))
