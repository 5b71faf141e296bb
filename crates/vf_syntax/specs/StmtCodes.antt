-- Written by tools/gen_syntax.py: change it there.
-- How the logic stores statements.
use Rattle.std.proofs.Common.{◌≡◌, ℕ, List, ap, refl, arith}
use Rattle.std.specs.Coded.{Coded, coded_ℕ, coded_list, coded_option}
use base.Stored.{Gv, gnil, gnum, gcons, num as number_in}
use Rattle.vf_syntax.specs.contracts.written.CType as c_type_row
use Rattle.vf_syntax.specs.contracts.simple.First as first_row
use Rattle.vf_syntax.specs.contracts.contract.Invariant as invariant_row
use Rattle.vf_syntax.specs.contracts.written.Name as name_row
use Rattle.vf_base.specs.contracts.place.Place as place_row
use Rattle.vf_syntax.specs.contracts.simple.Simple as simple_row
use Rattle.vf_syntax.specs.ExprCodes.{coded_expr}
use Rattle.vf_syntax.specs.GhostCommandCodes.{coded_ghost_command}
use Rattle.vf_syntax.specs.StmtTree.{StmtTree, StmtTrees, no_stmt, more_stmt}
use Rattle.vf_syntax.specs.StmtTree as tree
use Rattle.vf_syntax.specs.Stores.{head, tail, tag}

abbrev mutual
  -- how it is stored
  pub stmt_code : StmtTree → Gv
  stmt_code (tree.declaration p a b c d) = gcons (gnum 0) (gcons (place_row.the_row.coded.code p) (gcons (c_type_row.the_row.coded.code a) (gcons (name_row.the_row.coded.code b) (gcons ((coded_option coded_expr).code c) (gcons (place_row.the_row.coded.code d) gnil)))))
  stmt_code (tree.simple p a b) = gcons (gnum 1) (gcons (place_row.the_row.coded.code p) (gcons (simple_row.the_row.coded.code a) (gcons (place_row.the_row.coded.code b) gnil)))
  stmt_code (tree.if_ p a b) = gcons (gnum 2) (gcons (place_row.the_row.coded.code p) (gcons (coded_expr.code a) (gcons (stmt_code b) gnil)))
  stmt_code (tree.if_else p a b c) = gcons (gnum 3) (gcons (place_row.the_row.coded.code p) (gcons (coded_expr.code a) (gcons (stmt_code b) (gcons (stmt_code c) gnil))))
  stmt_code (tree.while_ p a b c) = gcons (gnum 4) (gcons (place_row.the_row.coded.code p) (gcons (coded_expr.code a) (gcons ((coded_option invariant_row.the_row.coded).code b) (gcons (stmt_code c) gnil))))
  stmt_code (tree.for_ p a b c d f) = gcons (gnum 5) (gcons (place_row.the_row.coded.code p) (gcons ((coded_option first_row.the_row.coded).code a) (gcons ((coded_option coded_expr).code b) (gcons ((coded_option simple_row.the_row.coded).code c) (gcons ((coded_option invariant_row.the_row.coded).code d) (gcons (stmt_code f) gnil))))))
  stmt_code (tree.return_ p a b) = gcons (gnum 6) (gcons (place_row.the_row.coded.code p) (gcons ((coded_option coded_expr).code a) (gcons (place_row.the_row.coded.code b) gnil)))
  stmt_code (tree.block p a b) = gcons (gnum 7) (gcons (place_row.the_row.coded.code p) (gcons (stmt_codes a) (gcons (place_row.the_row.coded.code b) gnil)))
  stmt_code (tree.empty_ p) = gcons (gnum 8) (gcons (place_row.the_row.coded.code p) gnil)
  stmt_code (tree.ghost p a) = gcons (gnum 9) (gcons (place_row.the_row.coded.code p) (gcons (coded_ghost_command.code a) gnil))

  -- how a list of these is stored
  pub stmt_codes : StmtTrees → Gv
  stmt_codes no_stmt = gnil
  stmt_codes (more_stmt x xs) = gcons (stmt_code x) (stmt_codes xs)

mutual
  -- what is stored alike is the same
  pub stmt_inj : (x y : StmtTree) → stmt_code x ≡ stmt_code y → x ≡ y
  stmt_inj (tree.declaration p a b c d) (tree.declaration p' a' b' c' d') e = λ i. tree.declaration (place_row.the_row.coded.inj p p' (ap (λ g. head (tail g)) e) i) (c_type_row.the_row.coded.inj a a' (ap (λ g. head (tail (tail g))) e) i) (name_row.the_row.coded.inj b b' (ap (λ g. head (tail (tail (tail g)))) e) i) ((coded_option coded_expr).inj c c' (ap (λ g. head (tail (tail (tail (tail g))))) e) i) (place_row.the_row.coded.inj d d' (ap (λ g. head (tail (tail (tail (tail (tail g)))))) e) i)
  stmt_inj (tree.simple p a b) (tree.simple p' a' b') e = λ i. tree.simple (place_row.the_row.coded.inj p p' (ap (λ g. head (tail g)) e) i) (simple_row.the_row.coded.inj a a' (ap (λ g. head (tail (tail g))) e) i) (place_row.the_row.coded.inj b b' (ap (λ g. head (tail (tail (tail g)))) e) i)
  stmt_inj (tree.if_ p a b) (tree.if_ p' a' b') e = λ i. tree.if_ (place_row.the_row.coded.inj p p' (ap (λ g. head (tail g)) e) i) (coded_expr.inj a a' (ap (λ g. head (tail (tail g))) e) i) (stmt_inj b b' (ap (λ g. head (tail (tail (tail g)))) e) i)
  stmt_inj (tree.if_else p a b c) (tree.if_else p' a' b' c') e = λ i. tree.if_else (place_row.the_row.coded.inj p p' (ap (λ g. head (tail g)) e) i) (coded_expr.inj a a' (ap (λ g. head (tail (tail g))) e) i) (stmt_inj b b' (ap (λ g. head (tail (tail (tail g)))) e) i) (stmt_inj c c' (ap (λ g. head (tail (tail (tail (tail g))))) e) i)
  stmt_inj (tree.while_ p a b c) (tree.while_ p' a' b' c') e = λ i. tree.while_ (place_row.the_row.coded.inj p p' (ap (λ g. head (tail g)) e) i) (coded_expr.inj a a' (ap (λ g. head (tail (tail g))) e) i) ((coded_option invariant_row.the_row.coded).inj b b' (ap (λ g. head (tail (tail (tail g)))) e) i) (stmt_inj c c' (ap (λ g. head (tail (tail (tail (tail g))))) e) i)
  stmt_inj (tree.for_ p a b c d f) (tree.for_ p' a' b' c' d' f') e = λ i. tree.for_ (place_row.the_row.coded.inj p p' (ap (λ g. head (tail g)) e) i) ((coded_option first_row.the_row.coded).inj a a' (ap (λ g. head (tail (tail g))) e) i) ((coded_option coded_expr).inj b b' (ap (λ g. head (tail (tail (tail g)))) e) i) ((coded_option simple_row.the_row.coded).inj c c' (ap (λ g. head (tail (tail (tail (tail g))))) e) i) ((coded_option invariant_row.the_row.coded).inj d d' (ap (λ g. head (tail (tail (tail (tail (tail g)))))) e) i) (stmt_inj f f' (ap (λ g. head (tail (tail (tail (tail (tail (tail g))))))) e) i)
  stmt_inj (tree.return_ p a b) (tree.return_ p' a' b') e = λ i. tree.return_ (place_row.the_row.coded.inj p p' (ap (λ g. head (tail g)) e) i) ((coded_option coded_expr).inj a a' (ap (λ g. head (tail (tail g))) e) i) (place_row.the_row.coded.inj b b' (ap (λ g. head (tail (tail (tail g)))) e) i)
  stmt_inj (tree.block p a b) (tree.block p' a' b') e = λ i. tree.block (place_row.the_row.coded.inj p p' (ap (λ g. head (tail g)) e) i) (stmt_injs a a' (ap (λ g. head (tail (tail g))) e) i) (place_row.the_row.coded.inj b b' (ap (λ g. head (tail (tail (tail g)))) e) i)
  stmt_inj (tree.empty_ p) (tree.empty_ p') e = λ i. tree.empty_ (place_row.the_row.coded.inj p p' (ap (λ g. head (tail g)) e) i)
  stmt_inj (tree.ghost p a) (tree.ghost p' a') e = λ i. tree.ghost (place_row.the_row.coded.inj p p' (ap (λ g. head (tail g)) e) i) (coded_ghost_command.inj a a' (ap (λ g. head (tail (tail g))) e) i)
  stmt_inj x y e = absurd (omega (arith, ap tag e))

  -- lists that are stored alike are the same
  pub stmt_injs : (x y : StmtTrees) → stmt_codes x ≡ stmt_codes y → x ≡ y
  stmt_injs (more_stmt x xs) (more_stmt y ys) e = λ i. more_stmt (stmt_inj x y (ap head e) i) (stmt_injs xs ys (ap tail e) i)
  stmt_injs no_stmt no_stmt e = refl
  stmt_injs x y e = cc

-- its code
abbrev pub coded_stmt : Coded StmtTree
coded_stmt = record { code = stmt_code; inj = stmt_inj }

-- the code of lists of these
abbrev pub coded_stmt_list : Coded (List StmtTree)
coded_stmt_list = coded_list coded_stmt
