-- How the logic stores a sort.
use Rattle.std.proofs.Common.{◌≡◌, ◌&&◌, nat_eq, Bool, true, false, List, Option, refl, ap}
use Rattle.std.specs.Coded.{Coded, coded_list, coded_option}
use base.Stored.{Gv, gnil, gnum, gcons}
use Rattle.vf_sorts.specs.contracts.sort.Head as head_row
use Rattle.vf_sorts.specs.declared.sort.Head.{Head}
use Rattle.vf_sorts.specs.Sorts.{Sort, Sorts, sort, no_sorts, and_sort}

-- the first and the second of what is stored as a pair
abbrev pub front : Gv → Gv
front gnil = gnil
front (gnum n) = gnil
front (gcons a b) = a

abbrev pub back : Gv → Gv
back gnil = gnil
back (gnum n) = gnil
back (gcons a b) = b

-- whether two things are stored alike
abbrev pub are_stored_alike : Gv → Gv → Bool
are_stored_alike gnil gnil = true
are_stored_alike (gnum m) (gnum n) = nat_eq m n
are_stored_alike (gcons a b) (gcons x y) = are_stored_alike a x && are_stored_alike b y
are_stored_alike a b = false

-- how a head is stored
abbrev pub head_code : Head → Gv
head_code h = head_row.the_row.coded.code h

abbrev mutual
  -- a sort is stored as its head and its parts
  pub sort_code : Sort → Gv
  sort_code (sort h ts) = gcons (head_row.the_row.coded.code h) (sorts_code ts)

  -- sorts in a row are stored one after the other
  pub sorts_code : Sorts → Gv
  sorts_code no_sorts = gnil
  sorts_code (and_sort t ts) = gcons (sort_code t) (sorts_code ts)

mutual
  pub sort_inj : (t u : Sort) → sort_code t ≡ sort_code u → t ≡ u
  sort_inj (sort h ts) (sort k us) p = λ i. sort (head_row.the_row.coded.inj h k (ap front p) i) (sorts_inj ts us (ap back p) i)

  pub sorts_inj : (ts us : Sorts) → sorts_code ts ≡ sorts_code us → ts ≡ us
  sorts_inj (and_sort t ts) (and_sort u us) p = λ i. and_sort (sort_inj t u (ap front p) i) (sorts_inj ts us (ap back p) i)
  sorts_inj no_sorts no_sorts p = refl
  sorts_inj ts us p = cc

-- how a sort is stored tells it
abbrev pub coded_sort : Coded Sort
coded_sort = record { code = sort_code; inj = sort_inj }

-- so does how a list of sorts is stored
abbrev pub coded_sort_list : Coded (List Sort)
coded_sort_list = coded_list coded_sort

-- so does how what is known of unknown sorts is stored
abbrev pub coded_known : Coded (List (Option Sort))
coded_known = coded_list (coded_option coded_sort)
