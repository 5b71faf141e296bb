-- Written by tools/gen_syntax.py: change it there.
-- How the logic stores sorts.
use Rattle.std.proofs.Common.{◌≡◌, ℕ, List, ap, refl, arith}
use Rattle.std.specs.Coded.{Coded, coded_ℕ, coded_list, coded_option}
use base.Stored.{Gv, gnil, gnum, gcons, num as number_in}
use Rattle.vf_syntax.specs.contracts.written.CType as c_type_row
use Rattle.vf_base.specs.contracts.place.Place as place_row
use Rattle.vf_syntax.specs.SortTree.{SortTree, SortTrees, no_sort, more_sort}
use Rattle.vf_syntax.specs.SortTree as tree
use Rattle.vf_syntax.specs.Stores.{head, tail, tag}

abbrev mutual
  -- how it is stored
  pub sort_code : SortTree → Gv
  sort_code (tree.real_ p) = gcons (gnum 0) (gcons (place_row.the_row.coded.code p) gnil)
  sort_code (tree.any_ p) = gcons (gnum 1) (gcons (place_row.the_row.coded.code p) gnil)
  sort_code (tree.type_ p a) = gcons (gnum 2) (gcons (place_row.the_row.coded.code p) (gcons (c_type_row.the_row.coded.code a) gnil))
  sort_code (tree.name_ p a b) = gcons (gnum 3) (gcons (place_row.the_row.coded.code p) (gcons ((coded_list coded_ℕ).code a) (gcons (sort_codes b) gnil)))
  sort_code (tree.predicate_ p a) = gcons (gnum 4) (gcons (place_row.the_row.coded.code p) (gcons (sort_codes a) gnil))

  -- how a list of these is stored
  pub sort_codes : SortTrees → Gv
  sort_codes no_sort = gnil
  sort_codes (more_sort x xs) = gcons (sort_code x) (sort_codes xs)

mutual
  -- what is stored alike is the same
  pub sort_inj : (x y : SortTree) → sort_code x ≡ sort_code y → x ≡ y
  sort_inj (tree.real_ p) (tree.real_ p') e = λ i. tree.real_ (place_row.the_row.coded.inj p p' (ap (λ g. head (tail g)) e) i)
  sort_inj (tree.any_ p) (tree.any_ p') e = λ i. tree.any_ (place_row.the_row.coded.inj p p' (ap (λ g. head (tail g)) e) i)
  sort_inj (tree.type_ p a) (tree.type_ p' a') e = λ i. tree.type_ (place_row.the_row.coded.inj p p' (ap (λ g. head (tail g)) e) i) (c_type_row.the_row.coded.inj a a' (ap (λ g. head (tail (tail g))) e) i)
  sort_inj (tree.name_ p a b) (tree.name_ p' a' b') e = λ i. tree.name_ (place_row.the_row.coded.inj p p' (ap (λ g. head (tail g)) e) i) ((coded_list coded_ℕ).inj a a' (ap (λ g. head (tail (tail g))) e) i) (sort_injs b b' (ap (λ g. head (tail (tail (tail g)))) e) i)
  sort_inj (tree.predicate_ p a) (tree.predicate_ p' a') e = λ i. tree.predicate_ (place_row.the_row.coded.inj p p' (ap (λ g. head (tail g)) e) i) (sort_injs a a' (ap (λ g. head (tail (tail g))) e) i)
  sort_inj x y e = absurd (omega (arith, ap tag e))

  -- lists that are stored alike are the same
  pub sort_injs : (x y : SortTrees) → sort_codes x ≡ sort_codes y → x ≡ y
  sort_injs (more_sort x xs) (more_sort y ys) e = λ i. more_sort (sort_inj x y (ap head e) i) (sort_injs xs ys (ap tail e) i)
  sort_injs no_sort no_sort e = refl
  sort_injs x y e = cc

-- its code
abbrev pub coded_sort : Coded SortTree
coded_sort = record { code = sort_code; inj = sort_inj }

-- the code of lists of these
abbrev pub coded_sort_list : Coded (List SortTree)
coded_sort_list = coded_list coded_sort
