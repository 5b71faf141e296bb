-- Written by tools/gen_syntax.py: change it there.
-- How the logic stores expressions of ghost text.
use Rattle.std.proofs.Common.{◌≡◌, ℕ, List, ap, refl, arith}
use Rattle.std.specs.Coded.{Coded, coded_ℕ, coded_list, coded_option}
use base.Stored.{Gv, gnil, gnum, gcons, num as number_in}
use Rattle.vf_syntax.specs.contracts.operator.BinaryOperator as binary_operator_row
use Rattle.vf_base.specs.contracts.int_type.IntType as int_type_row
use Rattle.vf_syntax.specs.contracts.operator.Level as level_row
use Rattle.vf_base.specs.contracts.place.Place as place_row
use Rattle.vf_syntax.specs.contracts.operator.UnaryOperator as unary_operator_row
use Rattle.vf_syntax.specs.GhostExprTree.{GhostExprTree, GhostExprTrees, no_ghost_expr, more_ghost_expr, GhostLinkTree, GhostLinkTrees, no_ghost_link, more_ghost_link}
use Rattle.vf_syntax.specs.GhostExprTree as tree
use Rattle.vf_syntax.specs.Stores.{head, tail, tag}

abbrev mutual
  -- how it is stored
  pub ghost_expr_code : GhostExprTree → Gv
  ghost_expr_code (tree.number p a b) = gcons (gnum 0) (gcons (place_row.the_row.coded.code p) (gcons (coded_ℕ.code a) (gcons (int_type_row.the_row.coded.code b) gnil)))
  ghost_expr_code (tree.true_ p) = gcons (gnum 1) (gcons (place_row.the_row.coded.code p) gnil)
  ghost_expr_code (tree.false_ p) = gcons (gnum 2) (gcons (place_row.the_row.coded.code p) gnil)
  ghost_expr_code (tree.result p) = gcons (gnum 3) (gcons (place_row.the_row.coded.code p) gnil)
  ghost_expr_code (tree.this_ p) = gcons (gnum 4) (gcons (place_row.the_row.coded.code p) gnil)
  ghost_expr_code (tree.current_thread p) = gcons (gnum 5) (gcons (place_row.the_row.coded.code p) gnil)
  ghost_expr_code (tree.name_ p a) = gcons (gnum 6) (gcons (place_row.the_row.coded.code p) (gcons ((coded_list coded_ℕ).code a) gnil))
  ghost_expr_code (tree.application p a b) = gcons (gnum 7) (gcons (place_row.the_row.coded.code p) (gcons ((coded_list coded_ℕ).code a) (gcons (ghost_expr_codes b) gnil)))
  ghost_expr_code (tree.parenthesized p a) = gcons (gnum 8) (gcons (place_row.the_row.coded.code p) (gcons (ghost_expr_code a) gnil))
  ghost_expr_code (tree.conditional p a b c) = gcons (gnum 9) (gcons (place_row.the_row.coded.code p) (gcons (ghost_expr_code a) (gcons (ghost_expr_code b) (gcons (ghost_expr_code c) gnil))))
  ghost_expr_code (tree.unary p a b) = gcons (gnum 10) (gcons (place_row.the_row.coded.code p) (gcons (unary_operator_row.the_row.coded.code a) (gcons (ghost_expr_code b) gnil)))
  ghost_expr_code (tree.chain p a b c) = gcons (gnum 11) (gcons (place_row.the_row.coded.code p) (gcons (level_row.the_row.coded.code a) (gcons (ghost_expr_code b) (gcons (ghost_link_codes c) gnil))))

  -- how a list of these is stored
  pub ghost_expr_codes : GhostExprTrees → Gv
  ghost_expr_codes no_ghost_expr = gnil
  ghost_expr_codes (more_ghost_expr x xs) = gcons (ghost_expr_code x) (ghost_expr_codes xs)

  -- how it is stored
  pub ghost_link_code : GhostLinkTree → Gv
  ghost_link_code (tree.ghost_link p a b) = gcons (gnum 0) (gcons (place_row.the_row.coded.code p) (gcons (binary_operator_row.the_row.coded.code a) (gcons (ghost_expr_code b) gnil)))

  -- how a list of these is stored
  pub ghost_link_codes : GhostLinkTrees → Gv
  ghost_link_codes no_ghost_link = gnil
  ghost_link_codes (more_ghost_link x xs) = gcons (ghost_link_code x) (ghost_link_codes xs)

mutual
  -- what is stored alike is the same
  pub ghost_expr_inj : (x y : GhostExprTree) → ghost_expr_code x ≡ ghost_expr_code y → x ≡ y
  ghost_expr_inj (tree.number p a b) (tree.number p' a' b') e = λ i. tree.number (place_row.the_row.coded.inj p p' (ap (λ g. head (tail g)) e) i) (coded_ℕ.inj a a' (ap (λ g. head (tail (tail g))) e) i) (int_type_row.the_row.coded.inj b b' (ap (λ g. head (tail (tail (tail g)))) e) i)
  ghost_expr_inj (tree.true_ p) (tree.true_ p') e = λ i. tree.true_ (place_row.the_row.coded.inj p p' (ap (λ g. head (tail g)) e) i)
  ghost_expr_inj (tree.false_ p) (tree.false_ p') e = λ i. tree.false_ (place_row.the_row.coded.inj p p' (ap (λ g. head (tail g)) e) i)
  ghost_expr_inj (tree.result p) (tree.result p') e = λ i. tree.result (place_row.the_row.coded.inj p p' (ap (λ g. head (tail g)) e) i)
  ghost_expr_inj (tree.this_ p) (tree.this_ p') e = λ i. tree.this_ (place_row.the_row.coded.inj p p' (ap (λ g. head (tail g)) e) i)
  ghost_expr_inj (tree.current_thread p) (tree.current_thread p') e = λ i. tree.current_thread (place_row.the_row.coded.inj p p' (ap (λ g. head (tail g)) e) i)
  ghost_expr_inj (tree.name_ p a) (tree.name_ p' a') e = λ i. tree.name_ (place_row.the_row.coded.inj p p' (ap (λ g. head (tail g)) e) i) ((coded_list coded_ℕ).inj a a' (ap (λ g. head (tail (tail g))) e) i)
  ghost_expr_inj (tree.application p a b) (tree.application p' a' b') e = λ i. tree.application (place_row.the_row.coded.inj p p' (ap (λ g. head (tail g)) e) i) ((coded_list coded_ℕ).inj a a' (ap (λ g. head (tail (tail g))) e) i) (ghost_expr_injs b b' (ap (λ g. head (tail (tail (tail g)))) e) i)
  ghost_expr_inj (tree.parenthesized p a) (tree.parenthesized p' a') e = λ i. tree.parenthesized (place_row.the_row.coded.inj p p' (ap (λ g. head (tail g)) e) i) (ghost_expr_inj a a' (ap (λ g. head (tail (tail g))) e) i)
  ghost_expr_inj (tree.conditional p a b c) (tree.conditional p' a' b' c') e = λ i. tree.conditional (place_row.the_row.coded.inj p p' (ap (λ g. head (tail g)) e) i) (ghost_expr_inj a a' (ap (λ g. head (tail (tail g))) e) i) (ghost_expr_inj b b' (ap (λ g. head (tail (tail (tail g)))) e) i) (ghost_expr_inj c c' (ap (λ g. head (tail (tail (tail (tail g))))) e) i)
  ghost_expr_inj (tree.unary p a b) (tree.unary p' a' b') e = λ i. tree.unary (place_row.the_row.coded.inj p p' (ap (λ g. head (tail g)) e) i) (unary_operator_row.the_row.coded.inj a a' (ap (λ g. head (tail (tail g))) e) i) (ghost_expr_inj b b' (ap (λ g. head (tail (tail (tail g)))) e) i)
  ghost_expr_inj (tree.chain p a b c) (tree.chain p' a' b' c') e = λ i. tree.chain (place_row.the_row.coded.inj p p' (ap (λ g. head (tail g)) e) i) (level_row.the_row.coded.inj a a' (ap (λ g. head (tail (tail g))) e) i) (ghost_expr_inj b b' (ap (λ g. head (tail (tail (tail g)))) e) i) (ghost_link_injs c c' (ap (λ g. head (tail (tail (tail (tail g))))) e) i)
  ghost_expr_inj x y e = absurd (omega (arith, ap tag e))

  -- lists that are stored alike are the same
  pub ghost_expr_injs : (x y : GhostExprTrees) → ghost_expr_codes x ≡ ghost_expr_codes y → x ≡ y
  ghost_expr_injs (more_ghost_expr x xs) (more_ghost_expr y ys) e = λ i. more_ghost_expr (ghost_expr_inj x y (ap head e) i) (ghost_expr_injs xs ys (ap tail e) i)
  ghost_expr_injs no_ghost_expr no_ghost_expr e = refl
  ghost_expr_injs x y e = cc

  -- what is stored alike is the same
  pub ghost_link_inj : (x y : GhostLinkTree) → ghost_link_code x ≡ ghost_link_code y → x ≡ y
  ghost_link_inj (tree.ghost_link p a b) (tree.ghost_link p' a' b') e = λ i. tree.ghost_link (place_row.the_row.coded.inj p p' (ap (λ g. head (tail g)) e) i) (binary_operator_row.the_row.coded.inj a a' (ap (λ g. head (tail (tail g))) e) i) (ghost_expr_inj b b' (ap (λ g. head (tail (tail (tail g)))) e) i)

  -- lists that are stored alike are the same
  pub ghost_link_injs : (x y : GhostLinkTrees) → ghost_link_codes x ≡ ghost_link_codes y → x ≡ y
  ghost_link_injs (more_ghost_link x xs) (more_ghost_link y ys) e = λ i. more_ghost_link (ghost_link_inj x y (ap head e) i) (ghost_link_injs xs ys (ap tail e) i)
  ghost_link_injs no_ghost_link no_ghost_link e = refl
  ghost_link_injs x y e = cc

-- its code
abbrev pub coded_ghost_expr : Coded GhostExprTree
coded_ghost_expr = record { code = ghost_expr_code; inj = ghost_expr_inj }

-- the code of lists of these
abbrev pub coded_ghost_expr_list : Coded (List GhostExprTree)
coded_ghost_expr_list = coded_list coded_ghost_expr

-- its code
abbrev pub coded_ghost_link : Coded GhostLinkTree
coded_ghost_link = record { code = ghost_link_code; inj = ghost_link_inj }

-- the code of lists of these
abbrev pub coded_ghost_link_list : Coded (List GhostLinkTree)
coded_ghost_link_list = coded_list coded_ghost_link
