-- Written by tools/gen_syntax.py: change it there.
-- How the logic stores expressions of real text.
use Rattle.std.proofs.Common.{◌≡◌, ℕ, List, ap, refl, arith}
use Rattle.std.specs.Coded.{Coded, coded_ℕ, coded_list, coded_option}
use base.Stored.{Gv, gnil, gnum, gcons, num as number_in}
use Rattle.vf_syntax.specs.contracts.operator.BinaryOperator as binary_operator_row
use Rattle.vf_syntax.specs.contracts.written.CType as c_type_row
use Rattle.vf_base.specs.contracts.int_type.IntType as int_type_row
use Rattle.vf_syntax.specs.contracts.operator.Level as level_row
use Rattle.vf_syntax.specs.contracts.written.Name as name_row
use Rattle.vf_base.specs.contracts.place.Place as place_row
use Rattle.vf_syntax.specs.contracts.operator.UnaryOperator as unary_operator_row
use Rattle.vf_syntax.specs.ExprTree.{ExprTree, ExprTrees, no_expr, more_expr, LinkTree, LinkTrees, no_link, more_link, PostfixTree, PostfixTrees, no_postfix, more_postfix}
use Rattle.vf_syntax.specs.ExprTree as tree
use Rattle.vf_syntax.specs.Stores.{head, tail, tag}

abbrev mutual
  -- how it is stored
  pub expr_code : ExprTree → Gv
  expr_code (tree.number p a b) = gcons (gnum 0) (gcons (place_row.the_row.coded.code p) (gcons (coded_ℕ.code a) (gcons (int_type_row.the_row.coded.code b) gnil)))
  expr_code (tree.character p a) = gcons (gnum 1) (gcons (place_row.the_row.coded.code p) (gcons (coded_ℕ.code a) gnil))
  expr_code (tree.true_ p) = gcons (gnum 2) (gcons (place_row.the_row.coded.code p) gnil)
  expr_code (tree.false_ p) = gcons (gnum 3) (gcons (place_row.the_row.coded.code p) gnil)
  expr_code (tree.name_ p a) = gcons (gnum 4) (gcons (place_row.the_row.coded.code p) (gcons ((coded_list coded_ℕ).code a) gnil))
  expr_code (tree.parenthesized p a) = gcons (gnum 5) (gcons (place_row.the_row.coded.code p) (gcons (expr_code a) gnil))
  expr_code (tree.malloc p a) = gcons (gnum 6) (gcons (place_row.the_row.coded.code p) (gcons (name_row.the_row.coded.code a) gnil))
  expr_code (tree.malloc_ints p a b) = gcons (gnum 7) (gcons (place_row.the_row.coded.code p) (gcons (expr_code a) (gcons (place_row.the_row.coded.code b) gnil)))
  expr_code (tree.postfix p a b) = gcons (gnum 8) (gcons (place_row.the_row.coded.code p) (gcons (expr_code a) (gcons (postfix_codes b) gnil)))
  expr_code (tree.unary p a b) = gcons (gnum 9) (gcons (place_row.the_row.coded.code p) (gcons (unary_operator_row.the_row.coded.code a) (gcons (expr_code b) gnil)))
  expr_code (tree.cast p a b) = gcons (gnum 10) (gcons (place_row.the_row.coded.code p) (gcons (c_type_row.the_row.coded.code a) (gcons (expr_code b) gnil)))
  expr_code (tree.chain p a b c) = gcons (gnum 11) (gcons (place_row.the_row.coded.code p) (gcons (level_row.the_row.coded.code a) (gcons (expr_code b) (gcons (link_codes c) gnil))))
  expr_code (tree.conditional p a b c) = gcons (gnum 12) (gcons (place_row.the_row.coded.code p) (gcons (expr_code a) (gcons (expr_code b) (gcons (expr_code c) gnil))))

  -- how a list of these is stored
  pub expr_codes : ExprTrees → Gv
  expr_codes no_expr = gnil
  expr_codes (more_expr x xs) = gcons (expr_code x) (expr_codes xs)

  -- how it is stored
  pub link_code : LinkTree → Gv
  link_code (tree.link p a b) = gcons (gnum 0) (gcons (place_row.the_row.coded.code p) (gcons (binary_operator_row.the_row.coded.code a) (gcons (expr_code b) gnil)))

  -- how a list of these is stored
  pub link_codes : LinkTrees → Gv
  link_codes no_link = gnil
  link_codes (more_link x xs) = gcons (link_code x) (link_codes xs)

  -- how it is stored
  pub postfix_code : PostfixTree → Gv
  postfix_code (tree.field_ p a) = gcons (gnum 0) (gcons (place_row.the_row.coded.code p) (gcons (name_row.the_row.coded.code a) gnil))
  postfix_code (tree.index_ p a) = gcons (gnum 1) (gcons (place_row.the_row.coded.code p) (gcons (expr_code a) gnil))
  postfix_code (tree.call_ p a) = gcons (gnum 2) (gcons (place_row.the_row.coded.code p) (gcons (expr_codes a) gnil))

  -- how a list of these is stored
  pub postfix_codes : PostfixTrees → Gv
  postfix_codes no_postfix = gnil
  postfix_codes (more_postfix x xs) = gcons (postfix_code x) (postfix_codes xs)

mutual
  -- what is stored alike is the same
  pub expr_inj : (x y : ExprTree) → expr_code x ≡ expr_code y → x ≡ y
  expr_inj (tree.number p a b) (tree.number p' a' b') e = λ i. tree.number (place_row.the_row.coded.inj p p' (ap (λ g. head (tail g)) e) i) (coded_ℕ.inj a a' (ap (λ g. head (tail (tail g))) e) i) (int_type_row.the_row.coded.inj b b' (ap (λ g. head (tail (tail (tail g)))) e) i)
  expr_inj (tree.character p a) (tree.character p' a') e = λ i. tree.character (place_row.the_row.coded.inj p p' (ap (λ g. head (tail g)) e) i) (coded_ℕ.inj a a' (ap (λ g. head (tail (tail g))) e) i)
  expr_inj (tree.true_ p) (tree.true_ p') e = λ i. tree.true_ (place_row.the_row.coded.inj p p' (ap (λ g. head (tail g)) e) i)
  expr_inj (tree.false_ p) (tree.false_ p') e = λ i. tree.false_ (place_row.the_row.coded.inj p p' (ap (λ g. head (tail g)) e) i)
  expr_inj (tree.name_ p a) (tree.name_ p' a') e = λ i. tree.name_ (place_row.the_row.coded.inj p p' (ap (λ g. head (tail g)) e) i) ((coded_list coded_ℕ).inj a a' (ap (λ g. head (tail (tail g))) e) i)
  expr_inj (tree.parenthesized p a) (tree.parenthesized p' a') e = λ i. tree.parenthesized (place_row.the_row.coded.inj p p' (ap (λ g. head (tail g)) e) i) (expr_inj a a' (ap (λ g. head (tail (tail g))) e) i)
  expr_inj (tree.malloc p a) (tree.malloc p' a') e = λ i. tree.malloc (place_row.the_row.coded.inj p p' (ap (λ g. head (tail g)) e) i) (name_row.the_row.coded.inj a a' (ap (λ g. head (tail (tail g))) e) i)
  expr_inj (tree.malloc_ints p a b) (tree.malloc_ints p' a' b') e = λ i. tree.malloc_ints (place_row.the_row.coded.inj p p' (ap (λ g. head (tail g)) e) i) (expr_inj a a' (ap (λ g. head (tail (tail g))) e) i) (place_row.the_row.coded.inj b b' (ap (λ g. head (tail (tail (tail g)))) e) i)
  expr_inj (tree.postfix p a b) (tree.postfix p' a' b') e = λ i. tree.postfix (place_row.the_row.coded.inj p p' (ap (λ g. head (tail g)) e) i) (expr_inj a a' (ap (λ g. head (tail (tail g))) e) i) (postfix_injs b b' (ap (λ g. head (tail (tail (tail g)))) e) i)
  expr_inj (tree.unary p a b) (tree.unary p' a' b') e = λ i. tree.unary (place_row.the_row.coded.inj p p' (ap (λ g. head (tail g)) e) i) (unary_operator_row.the_row.coded.inj a a' (ap (λ g. head (tail (tail g))) e) i) (expr_inj b b' (ap (λ g. head (tail (tail (tail g)))) e) i)
  expr_inj (tree.cast p a b) (tree.cast p' a' b') e = λ i. tree.cast (place_row.the_row.coded.inj p p' (ap (λ g. head (tail g)) e) i) (c_type_row.the_row.coded.inj a a' (ap (λ g. head (tail (tail g))) e) i) (expr_inj b b' (ap (λ g. head (tail (tail (tail g)))) e) i)
  expr_inj (tree.chain p a b c) (tree.chain p' a' b' c') e = λ i. tree.chain (place_row.the_row.coded.inj p p' (ap (λ g. head (tail g)) e) i) (level_row.the_row.coded.inj a a' (ap (λ g. head (tail (tail g))) e) i) (expr_inj b b' (ap (λ g. head (tail (tail (tail g)))) e) i) (link_injs c c' (ap (λ g. head (tail (tail (tail (tail g))))) e) i)
  expr_inj (tree.conditional p a b c) (tree.conditional p' a' b' c') e = λ i. tree.conditional (place_row.the_row.coded.inj p p' (ap (λ g. head (tail g)) e) i) (expr_inj a a' (ap (λ g. head (tail (tail g))) e) i) (expr_inj b b' (ap (λ g. head (tail (tail (tail g)))) e) i) (expr_inj c c' (ap (λ g. head (tail (tail (tail (tail g))))) e) i)
  expr_inj x y e = absurd (omega (arith, ap tag e))

  -- lists that are stored alike are the same
  pub expr_injs : (x y : ExprTrees) → expr_codes x ≡ expr_codes y → x ≡ y
  expr_injs (more_expr x xs) (more_expr y ys) e = λ i. more_expr (expr_inj x y (ap head e) i) (expr_injs xs ys (ap tail e) i)
  expr_injs no_expr no_expr e = refl
  expr_injs x y e = cc

  -- what is stored alike is the same
  pub link_inj : (x y : LinkTree) → link_code x ≡ link_code y → x ≡ y
  link_inj (tree.link p a b) (tree.link p' a' b') e = λ i. tree.link (place_row.the_row.coded.inj p p' (ap (λ g. head (tail g)) e) i) (binary_operator_row.the_row.coded.inj a a' (ap (λ g. head (tail (tail g))) e) i) (expr_inj b b' (ap (λ g. head (tail (tail (tail g)))) e) i)

  -- lists that are stored alike are the same
  pub link_injs : (x y : LinkTrees) → link_codes x ≡ link_codes y → x ≡ y
  link_injs (more_link x xs) (more_link y ys) e = λ i. more_link (link_inj x y (ap head e) i) (link_injs xs ys (ap tail e) i)
  link_injs no_link no_link e = refl
  link_injs x y e = cc

  -- what is stored alike is the same
  pub postfix_inj : (x y : PostfixTree) → postfix_code x ≡ postfix_code y → x ≡ y
  postfix_inj (tree.field_ p a) (tree.field_ p' a') e = λ i. tree.field_ (place_row.the_row.coded.inj p p' (ap (λ g. head (tail g)) e) i) (name_row.the_row.coded.inj a a' (ap (λ g. head (tail (tail g))) e) i)
  postfix_inj (tree.index_ p a) (tree.index_ p' a') e = λ i. tree.index_ (place_row.the_row.coded.inj p p' (ap (λ g. head (tail g)) e) i) (expr_inj a a' (ap (λ g. head (tail (tail g))) e) i)
  postfix_inj (tree.call_ p a) (tree.call_ p' a') e = λ i. tree.call_ (place_row.the_row.coded.inj p p' (ap (λ g. head (tail g)) e) i) (expr_injs a a' (ap (λ g. head (tail (tail g))) e) i)
  postfix_inj x y e = absurd (omega (arith, ap tag e))

  -- lists that are stored alike are the same
  pub postfix_injs : (x y : PostfixTrees) → postfix_codes x ≡ postfix_codes y → x ≡ y
  postfix_injs (more_postfix x xs) (more_postfix y ys) e = λ i. more_postfix (postfix_inj x y (ap head e) i) (postfix_injs xs ys (ap tail e) i)
  postfix_injs no_postfix no_postfix e = refl
  postfix_injs x y e = cc

-- its code
abbrev pub coded_expr : Coded ExprTree
coded_expr = record { code = expr_code; inj = expr_inj }

-- the code of lists of these
abbrev pub coded_expr_list : Coded (List ExprTree)
coded_expr_list = coded_list coded_expr

-- its code
abbrev pub coded_link : Coded LinkTree
coded_link = record { code = link_code; inj = link_inj }

-- the code of lists of these
abbrev pub coded_link_list : Coded (List LinkTree)
coded_link_list = coded_list coded_link

-- its code
abbrev pub coded_postfix : Coded PostfixTree
coded_postfix = record { code = postfix_code; inj = postfix_inj }

-- the code of lists of these
abbrev pub coded_postfix_list : Coded (List PostfixTree)
coded_postfix_list = coded_list coded_postfix
