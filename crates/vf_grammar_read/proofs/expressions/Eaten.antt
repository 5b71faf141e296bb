-- What is spelled takes a token at least.
use Rattle.std.proofs.Common.{◌≡◌, ℕ, ◌≤◌, ◌<◌, Bool, true, false, List, length, Some, ap, arith}
use Rattle.vf_base.specs.declared.place.Place.{Place}
use Rattle.vf_base.specs.declared.int_type.IntType.{IntType}
use Rattle.vf_lexer.specs.declared.punctuator.Punctuator.{Punctuator}
use Rattle.vf_lexer.specs.declared.token.Token.{Token}
use Rattle.vf_syntax.specs.declared.keyword.Keyword.{Keyword}
use Rattle.vf_syntax.specs.declared.side.Side.{Side}
use Rattle.vf_syntax.specs.declared.operator.Level.{Level}
use Rattle.vf_syntax.specs.declared.written.Name.{Name}
use Rattle.vf_syntax.specs.declared.written.Sign.{Sign}
use Rattle.vf_syntax.specs.declared.written.Sign.TheVariants as signs
use Rattle.vf_syntax.specs.declared.written.Width.{Width}
use Rattle.vf_syntax.specs.declared.written.Width.TheVariants as widths
use Rattle.vf_syntax.specs.declared.written.IntegerWords.{IntegerWords}
use Rattle.vf_syntax.specs.declared.written.IntegerWords.TheVariants as integers
use Rattle.vf_syntax.specs.declared.written.TypeForm.{TypeForm}
use Rattle.vf_syntax.specs.declared.written.TypeForm.TheVariants as forms
use Rattle.vf_syntax.specs.declared.written.CType.{CType}
use Rattle.vf_syntax.specs.ExprTree.{ExprTree, ExprTrees, LinkTree, LinkTrees, PostfixTree, PostfixTrees, no_expr, more_expr, no_link, more_link, no_postfix, more_postfix}
use Rattle.vf_syntax.specs.ExprTree as tree
use Rattle.vf_syntax.specs.Walks.{Walk, ◌⨾◌, nothing, provided, at, mark, word, identifier, number, character}
use Rattle.vf_syntax.specs.Written.{name, sign, width, integer, type_form, ctype}
use Rattle.vf_syntax.specs.Expressions.{expr, link, links, postfix, postfixes, arguments, more_arguments}
use Rattle.vf_grammar_read.proofs.expressions.Same.{some_same}
use Rattle.vf_grammar_read.proofs.expressions.Fronts.{gone, at_stays, mark_took, word_took, identifier_took, number_took, character_took}

-- no token comes to what stands behind a part
pub record Keeps (f : Walk) : Type 0 where
  pub keep : (ts rest : List Token) → f ts ≡ Some rest → length rest ≤ length ts

-- a token goes at least
pub record Eats (f : Walk) : Type 0 where
  pub eat : (ts rest : List Token) → f ts ≡ Some rest → length rest < length ts

pub keeps : {f : Walk} → Eats f → Keeps f
keeps h = record { keep = λ ts rest e. omega (arith, h.eat ts rest e) }

pub keep_then : {f g : Walk} → Keeps f → Keeps g → Keeps (f ⨾ g)
keep_then {f = f} {g = g} a b = record { keep = λ ts rest e. let m = gone {g = g} (f ts) e in omega (arith, a.keep ts m.0 m.1, b.keep m.0 rest m.2) }

pub eat_then : {f g : Walk} → Eats f → Keeps g → Eats (f ⨾ g)
eat_then {f = f} {g = g} a b = record { eat = λ ts rest e. let m = gone {g = g} (f ts) e in omega (arith, a.eat ts m.0 m.1, b.keep m.0 rest m.2) }

pub then_eat : {f g : Walk} → Keeps f → Eats g → Eats (f ⨾ g)
then_eat {f = f} {g = g} a b = record { eat = λ ts rest e. let m = gone {g = g} (f ts) e in omega (arith, a.keep ts m.0 m.1, b.eat m.0 rest m.2) }

pub nothing_keeps : Keeps nothing
nothing_keeps = record { keep = λ ts rest e. omega (arith, ap length (some_same {a = ts} {b = rest} e)) }

pub provided_keeps : (b : Bool) → Keeps (provided b)
provided_keeps true = record { keep = λ ts rest e. omega (arith, ap length (some_same {a = ts} {b = rest} e)) }
provided_keeps false = record { keep = λ ts rest e. absurd cc }

pub at_keeps : (p : Place) → Keeps (at p)
at_keeps p = record { keep = λ ts rest e. omega (arith, ap length (at_stays p ts rest e)) }

pub mark_eats : (s : Side) (m : Punctuator) → Eats (mark s m)
mark_eats s m = record { eat = λ ts rest e. omega (arith, ap length ((mark_took s m ts rest e).parts)) }

pub word_eats : (s : Side) (k : Keyword) → Eats (word s k)
word_eats s k = record { eat = λ ts rest e. omega (arith, ap length ((word_took s k ts rest e).parts)) }

pub identifier_eats : (s : Side) (x : List ℕ) → Eats (identifier s x)
identifier_eats s x = record { eat = λ ts rest e. omega (arith, ap length ((identifier_took s x ts rest e).parts)) }

pub number_eats : (s : Side) (n : ℕ) (ty : IntType) → Eats (number s n ty)
number_eats s n ty = record { eat = λ ts rest e. omega (arith, ap length ((number_took s n ty ts rest e).parts)) }

pub character_eats : (n : ℕ) → Eats (character n)
character_eats n = record { eat = λ ts rest e. omega (arith, ap length ((character_took n ts rest e).parts)) }

pub name_eats : (s : Side) (n : Name) → Eats (name s n)
unfolding name
name_eats s n = then_eat {f = at n.place} {g = identifier s n.text} (at_keeps n.place) (identifier_eats s n.text)

sign_eats : (s : Side) (g : Sign) → Eats (sign s g)
unfolding sign
sign_eats s signs.Signed = word_eats s _
sign_eats s signs.Unsigned = word_eats s _

width_eats : (s : Side) (w : Width) → Eats (width s w)
unfolding width
width_eats s widths.Char = word_eats s _
width_eats s widths.Short = word_eats s _
width_eats s widths.ShortInt = eat_then (word_eats s _) (keeps (word_eats s _))
width_eats s widths.Int = word_eats s _
width_eats s widths.Long = word_eats s _
width_eats s widths.LongInt = eat_then (word_eats s _) (keeps (word_eats s _))
width_eats s widths.LongLong = eat_then (word_eats s _) (keeps (word_eats s _))
width_eats s widths.LongLongInt = eat_then (word_eats s _) (keeps (eat_then (word_eats s _) (keeps (word_eats s _))))

integer_eats : (s : Side) (w : IntegerWords) → Eats (integer s w)
unfolding integer
integer_eats s (integers.Sign g) = sign_eats s g
integer_eats s (integers.Width w) = width_eats s w
integer_eats s (integers.Both g w) = eat_then (sign_eats s g) (keeps (width_eats s w))

type_form_eats : (s : Side) (f : TypeForm) → Eats (type_form s f)
unfolding type_form
type_form_eats s (forms.Integer w) = integer_eats s w
type_form_eats s forms.Bool = word_eats s _
type_form_eats s forms.VoidPointer = eat_then (word_eats s _) (keeps (mark_eats s _))
type_form_eats s forms.IntPointer = eat_then (word_eats s _) (keeps (mark_eats s _))
type_form_eats s (forms.StructPointer n) = eat_then (word_eats s _) (keeps (eat_then (name_eats s n) (keeps (mark_eats s _))))
type_form_eats s (forms.NamedPointer x) = eat_then (identifier_eats s x) (keeps (mark_eats s _))

pub ctype_eats : (s : Side) (t : CType) → Eats (ctype s t)
unfolding ctype
ctype_eats s t = then_eat (at_keeps t.place) (type_form_eats s t.form)

mutual
  pub expr_eats : (x : ExprTree) → Eats (expr x)
  expr_eats (tree.number p n ty) = then_eat (at_keeps p) (number_eats _ n ty)
  expr_eats (tree.character p n) = then_eat (at_keeps p) (character_eats n)
  expr_eats (tree.true_ p) = then_eat (at_keeps p) (word_eats _ _)
  expr_eats (tree.false_ p) = then_eat (at_keeps p) (word_eats _ _)
  expr_eats (tree.name_ p x) = then_eat (at_keeps p) (identifier_eats _ x)
  expr_eats (tree.parenthesized p a) = then_eat (at_keeps p) (eat_then (mark_eats _ _) (keeps (eat_then (expr_eats a) (keeps (mark_eats _ _)))))
  expr_eats (tree.malloc p tag) = then_eat (at_keeps p) (eat_then (word_eats _ _) (keeps (eat_then (mark_eats _ _) (keeps (eat_then (word_eats _ _) (keeps (eat_then (mark_eats _ _) (keeps (eat_then (word_eats _ _) (keeps (eat_then (name_eats _ tag) (keeps (eat_then (mark_eats _ _) (keeps (mark_eats _ _)))))))))))))))
  expr_eats (tree.malloc_ints p n star) = then_eat (at_keeps p) (eat_then (word_eats _ _) (keeps (eat_then (mark_eats _ _) (keep_then (provided_keeps _) (keeps (eat_then (expr_eats n) (keep_then (at_keeps star) (keeps (eat_then (mark_eats _ _) (keeps (eat_then (word_eats _ _) (keeps (eat_then (mark_eats _ _) (keeps (eat_then (word_eats _ _) (keeps (eat_then (mark_eats _ _) (keeps (mark_eats _ _)))))))))))))))))))
  expr_eats (tree.postfix p a parts) = then_eat (at_keeps p) (then_eat (provided_keeps _) (eat_then (expr_eats a) (postfixes_keep parts)))
  expr_eats (tree.unary p o a) = then_eat (at_keeps p) (eat_then (mark_eats _ _) (keep_then (provided_keeps _) (keeps (expr_eats a))))
  expr_eats (tree.cast p t a) = then_eat (at_keeps p) (eat_then (mark_eats _ _) (keeps (eat_then (ctype_eats _ t) (keeps (eat_then (mark_eats _ _) (keep_then (provided_keeps _) (keeps (expr_eats a))))))))
  expr_eats (tree.chain p l a xs) = then_eat (at_keeps p) (then_eat (provided_keeps _) (eat_then (expr_eats a) (links_keep l xs)))
  expr_eats (tree.conditional p c a b) = then_eat (at_keeps p) (then_eat (provided_keeps _) (eat_then (expr_eats c) (keeps (eat_then (mark_eats _ _) (keeps (eat_then (expr_eats a) (keeps (eat_then (mark_eats _ _) (keeps (expr_eats b))))))))))

  pub link_eats : (l : Level) (x : LinkTree) → Eats (link l x)
  link_eats l (tree.link p o a) = then_eat (at_keeps p) (then_eat (provided_keeps _) (eat_then (mark_eats _ _) (keeps (expr_eats a))))

  links_keep : (l : Level) (xs : LinkTrees) → Keeps (links l xs)
  links_keep l no_link = nothing_keeps
  links_keep l (more_link x xs) = keep_then (keeps (link_eats l x)) (links_keep l xs)

  pub part_eats : (x : PostfixTree) → Eats (postfix x)
  part_eats (tree.field_ p n) = then_eat (at_keeps p) (eat_then (mark_eats _ _) (keeps (name_eats _ n)))
  part_eats (tree.index_ p e) = then_eat (at_keeps p) (eat_then (mark_eats _ _) (keeps (eat_then (expr_eats e) (keeps (mark_eats _ _)))))
  part_eats (tree.call_ p xs) = then_eat (at_keeps p) (eat_then (mark_eats _ _) (keep_then (arguments_keep xs) (keeps (mark_eats _ _))))

  postfixes_keep : (xs : PostfixTrees) → Keeps (postfixes xs)
  postfixes_keep no_postfix = nothing_keeps
  postfixes_keep (more_postfix x xs) = keep_then (keeps (part_eats x)) (postfixes_keep xs)

  arguments_keep : (xs : ExprTrees) → Keeps (arguments xs)
  arguments_keep no_expr = nothing_keeps
  arguments_keep (more_expr x xs) = keep_then (keeps (expr_eats x)) (more_arguments_keep xs)

  more_arguments_keep : (xs : ExprTrees) → Keeps (more_arguments xs)
  more_arguments_keep no_expr = nothing_keeps
  more_arguments_keep (more_expr x xs) = keep_then (keeps (mark_eats _ _)) (keep_then (keeps (expr_eats x)) (more_arguments_keep xs))
