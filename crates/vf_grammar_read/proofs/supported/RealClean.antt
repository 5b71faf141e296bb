-- Types and expressions of real text that are spelled take no token that is refused by name.
use Rattle.std.proofs.Common.{◌≡◌, false, refl}
use Rattle.vf_syntax.specs.declared.side.Side.{Side}
use Rattle.vf_syntax.specs.declared.operator.Level.{Level}
use Rattle.vf_syntax.specs.declared.written.Sign.{Sign}
use Rattle.vf_syntax.specs.declared.written.Sign.TheVariants as signs
use Rattle.vf_syntax.specs.declared.written.Width.{Width}
use Rattle.vf_syntax.specs.declared.written.Width.TheVariants as widths
use Rattle.vf_syntax.specs.declared.written.IntegerWords.{IntegerWords}
use Rattle.vf_syntax.specs.declared.written.IntegerWords.TheVariants as integers
use Rattle.vf_syntax.specs.declared.written.TypeForm.{TypeForm}
use Rattle.vf_syntax.specs.declared.written.TypeForm.TheVariants as forms
use Rattle.vf_syntax.specs.declared.written.CType.{CType}
use Rattle.vf_syntax.specs.ExprTree.{ExprTree, ExprTrees, LinkTree, LinkTrees, PostfixTree, PostfixTrees, no_expr, more_expr, no_link, more_link, no_postfix, more_postfix}
use Rattle.vf_syntax.specs.ExprTree as tree
use Rattle.vf_syntax.specs.Written.{sign, width, integer, type_form, ctype, unary_mark, binary_mark}
use Rattle.vf_syntax.specs.Expressions.{expr, link, links, postfix, postfixes, arguments, more_arguments}
use Rattle.vf_syntax.specs.declared.operator.UnaryOperator.{UnaryOperator}
use Rattle.vf_syntax.specs.declared.operator.UnaryOperator.TheVariants as unaries
use Rattle.vf_syntax.specs.declared.operator.BinaryOperator.{BinaryOperator}
use Rattle.vf_syntax.specs.declared.operator.BinaryOperator.TheVariants as binaries
use Rattle.vf_parse_real.specs.Unsupported.{is_unsupported_mark}
use Rattle.vf_grammar_read.proofs.supported.Clean.{Clean, clean_then, nothing_clean, provided_clean, at_clean, mark_clean, word_clean, identifier_clean, number_clean, character_clean, name_clean}

unary_supported : (o : UnaryOperator) → is_unsupported_mark (unary_mark o) ≡ false
unary_supported unaries.Minus = refl
unary_supported unaries.Not = refl

binary_supported : (o : BinaryOperator) → is_unsupported_mark (binary_mark o) ≡ false
binary_supported binaries.Times = refl
binary_supported binaries.Divide = refl
binary_supported binaries.Remainder = refl
binary_supported binaries.Plus = refl
binary_supported binaries.Minus = refl
binary_supported binaries.Less = refl
binary_supported binaries.LessOrEqual = refl
binary_supported binaries.Greater = refl
binary_supported binaries.GreaterOrEqual = refl
binary_supported binaries.Equal = refl
binary_supported binaries.NotEqual = refl
binary_supported binaries.And = refl
binary_supported binaries.Or = refl

sign_clean : (s : Side) (g : Sign) → Clean (sign s g)
unfolding sign
sign_clean s signs.Signed = word_clean s _ refl
sign_clean s signs.Unsigned = word_clean s _ refl

width_clean : (s : Side) (w : Width) → Clean (width s w)
unfolding width
width_clean s widths.Char = word_clean s _ refl
width_clean s widths.Short = word_clean s _ refl
width_clean s widths.ShortInt = clean_then (word_clean s _ refl) (word_clean s _ refl)
width_clean s widths.Int = word_clean s _ refl
width_clean s widths.Long = word_clean s _ refl
width_clean s widths.LongInt = clean_then (word_clean s _ refl) (word_clean s _ refl)
width_clean s widths.LongLong = clean_then (word_clean s _ refl) (word_clean s _ refl)
width_clean s widths.LongLongInt = clean_then (word_clean s _ refl) (clean_then (word_clean s _ refl) (word_clean s _ refl))

integer_clean : (s : Side) (w : IntegerWords) → Clean (integer s w)
unfolding integer
integer_clean s (integers.Sign g) = sign_clean s g
integer_clean s (integers.Width w) = width_clean s w
integer_clean s (integers.Both g w) = clean_then (sign_clean s g) (width_clean s w)

type_form_clean : (s : Side) (f : TypeForm) → Clean (type_form s f)
unfolding type_form
type_form_clean s (forms.Integer w) = integer_clean s w
type_form_clean s forms.Bool = word_clean s _ refl
type_form_clean s forms.VoidPointer = clean_then (word_clean s _ refl) (mark_clean s _ refl)
type_form_clean s forms.IntPointer = clean_then (word_clean s _ refl) (mark_clean s _ refl)
type_form_clean s (forms.StructPointer n) = clean_then (word_clean s _ refl) (clean_then (name_clean s n) (mark_clean s _ refl))
type_form_clean s (forms.NamedPointer x) = clean_then (identifier_clean s x) (mark_clean s _ refl)

pub ctype_clean : (s : Side) (t : CType) → Clean (ctype s t)
unfolding ctype
ctype_clean s t = clean_then (at_clean t.place) (type_form_clean s t.form)

mutual
  pub expr_clean : (x : ExprTree) → Clean (expr x)
  expr_clean (tree.number p n ty) = clean_then (at_clean p) (number_clean _ n ty)
  expr_clean (tree.character p n) = clean_then (at_clean p) (character_clean n)
  expr_clean (tree.true_ p) = clean_then (at_clean p) (word_clean _ _ refl)
  expr_clean (tree.false_ p) = clean_then (at_clean p) (word_clean _ _ refl)
  expr_clean (tree.name_ p x) = clean_then (at_clean p) (identifier_clean _ x)
  expr_clean (tree.parenthesized p a) = clean_then (at_clean p) (clean_then (mark_clean _ _ refl) (clean_then (expr_clean a) (mark_clean _ _ refl)))
  expr_clean (tree.malloc p tag) = clean_then (at_clean p) (clean_then (word_clean _ _ refl) (clean_then (mark_clean _ _ refl) (clean_then (word_clean _ _ refl) (clean_then (mark_clean _ _ refl) (clean_then (word_clean _ _ refl) (clean_then (name_clean _ tag) (clean_then (mark_clean _ _ refl) (mark_clean _ _ refl))))))))
  expr_clean (tree.malloc_ints p n star) = clean_then (at_clean p) (clean_then (word_clean _ _ refl) (clean_then (mark_clean _ _ refl) (clean_then (provided_clean _) (clean_then (expr_clean n) (clean_then (at_clean star) (clean_then (mark_clean _ _ refl) (clean_then (word_clean _ _ refl) (clean_then (mark_clean _ _ refl) (clean_then (word_clean _ _ refl) (clean_then (mark_clean _ _ refl) (mark_clean _ _ refl)))))))))))
  expr_clean (tree.postfix p a parts) = clean_then (at_clean p) (clean_then (provided_clean _) (clean_then (expr_clean a) (postfixes_clean parts)))
  expr_clean (tree.unary p o a) = clean_then (at_clean p) (clean_then (mark_clean _ _ (unary_supported o)) (clean_then (provided_clean _) (expr_clean a)))
  expr_clean (tree.cast p t a) = clean_then (at_clean p) (clean_then (mark_clean _ _ refl) (clean_then (ctype_clean _ t) (clean_then (mark_clean _ _ refl) (clean_then (provided_clean _) (expr_clean a)))))
  expr_clean (tree.chain p l a xs) = clean_then (at_clean p) (clean_then (provided_clean _) (clean_then (expr_clean a) (links_clean l xs)))
  expr_clean (tree.conditional p c a b) = clean_then (at_clean p) (clean_then (provided_clean _) (clean_then (expr_clean c) (clean_then (mark_clean _ _ refl) (clean_then (expr_clean a) (clean_then (mark_clean _ _ refl) (expr_clean b))))))

  pub link_clean : (l : Level) (x : LinkTree) → Clean (link l x)
  link_clean l (tree.link p o a) = clean_then (at_clean p) (clean_then (provided_clean _) (clean_then (mark_clean _ _ (binary_supported o)) (expr_clean a)))

  links_clean : (l : Level) (xs : LinkTrees) → Clean (links l xs)
  links_clean l no_link = nothing_clean
  links_clean l (more_link x xs) = clean_then (link_clean l x) (links_clean l xs)

  pub part_clean : (x : PostfixTree) → Clean (postfix x)
  part_clean (tree.field_ p n) = clean_then (at_clean p) (clean_then (mark_clean _ _ refl) (name_clean _ n))
  part_clean (tree.index_ p e) = clean_then (at_clean p) (clean_then (mark_clean _ _ refl) (clean_then (expr_clean e) (mark_clean _ _ refl)))
  part_clean (tree.call_ p xs) = clean_then (at_clean p) (clean_then (mark_clean _ _ refl) (clean_then (arguments_clean xs) (mark_clean _ _ refl)))

  postfixes_clean : (xs : PostfixTrees) → Clean (postfixes xs)
  postfixes_clean no_postfix = nothing_clean
  postfixes_clean (more_postfix x xs) = clean_then (part_clean x) (postfixes_clean xs)

  arguments_clean : (xs : ExprTrees) → Clean (arguments xs)
  arguments_clean no_expr = nothing_clean
  arguments_clean (more_expr x xs) = clean_then (expr_clean x) (more_arguments_clean xs)

  more_arguments_clean : (xs : ExprTrees) → Clean (more_arguments xs)
  more_arguments_clean no_expr = nothing_clean
  more_arguments_clean (more_expr x xs) = clean_then (mark_clean _ _ refl) (clean_then (expr_clean x) (more_arguments_clean xs))
