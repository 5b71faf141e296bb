-- Rows of sorts are alike just where the test says so.
use Rattle.std.proofs.Common.{◌≡◌, ap, ap₂, subst, refl, ◌&&◌, Bool, true, false, IsTrue, List, arith}
use base.Stored.{Gv, gnil, gnum, gcons}
use Rattle.vf_sorts.specs.contracts.sort.Head as head_row
use Rattle.vf_sorts.specs.declared.sort.Head.{Head}
use Rattle.vf_sorts.specs.Codes.{are_stored_alike, head_code}
use Rattle.vf_sorts.specs.Sorts.{Sort, Sorts, sort, no_sorts, and_sort, row}
use Rattle.vf_sorts.specs.Told.{AreAlike, untold, untold_all, untold_head}
use Rattle.vf_sorts.specs.Unifying.{are_heads_alike}
use Rattle.vf_predicates.specs.Earlier.{AreSame}
use Rattle.vf_order_laws.specs.walk.Alike.{are_alike, are_same, is_alike}

-- a test tells something
abbrev Tells : Bool → Type 0 → Type 0
Tells b P = (IsTrue b → P) × (P → IsTrue b)

both_so : (a b : Bool) → IsTrue (a && b) → IsTrue a × IsTrue b
both_so true b h = (refl, h)
both_so false b h = absurd cc

so_both : (a b : Bool) → IsTrue a → IsTrue b → IsTrue (a && b)
so_both true b h k = k
so_both false b h k = absurd cc

-- what is stored alike is stored as one
one_stored : (a b : Gv) → IsTrue (are_stored_alike a b) → a ≡ b
one_stored gnil gnil h = refl
one_stored gnil (gnum n) h = absurd cc
one_stored gnil (gcons x y) h = absurd cc
one_stored (gnum m) gnil h = absurd cc
one_stored (gnum m) (gnum n) h = let e : m ≡ n = grind (arith, h) in ap gnum e
one_stored (gnum m) (gcons x y) h = absurd cc
one_stored (gcons a b) gnil h = absurd cc
one_stored (gcons a b) (gnum n) h = absurd cc
one_stored (gcons a b) (gcons x y) h = let k = both_so (are_stored_alike a x) (are_stored_alike b y) h in ap₂ gcons (one_stored a x k.0) (one_stored b y k.1)

stored_so : (a : Gv) → IsTrue (are_stored_alike a a)
stored_so gnil = refl
stored_so (gnum m) = grind arith
stored_so (gcons a b) = so_both (are_stored_alike a a) (are_stored_alike b b) (stored_so a) (stored_so b)

heads_told : (h g : Head) → Tells (are_heads_alike h g) (untold_head h ≡ untold_head g)
heads_told h g = (
  (λ x. head_row.the_row.coded.inj (untold_head h) (untold_head g) (one_stored (head_code (untold_head h)) (head_code (untold_head g)) x)),
  (λ e. subst (λ (w : Head). IsTrue (are_stored_alike (head_code (untold_head h)) (head_code w))) e (stored_so (head_code (untold_head h)))),
)

mutual
  sorts_told : (t u : Sort) → Tells (is_alike t u) (AreAlike t u)
  sorts_told (sort h ts) (sort g us) = (
    (λ x. let k = both_so (are_heads_alike h g) (are_alike ts us) x in ap₂ sort ((heads_told h g).0 k.0) ((rows_told ts us).0 k.1)),
    (λ (e : AreAlike (sort h ts) (sort g us)). let a : untold_head h ≡ untold_head g = cc in let b : untold_all ts ≡ untold_all us = cc in so_both (are_heads_alike h g) (are_alike ts us) ((heads_told h g).1 a) ((rows_told ts us).1 b)),
  )

  rows_told : (ts us : Sorts) → Tells (are_alike ts us) (untold_all ts ≡ untold_all us)
  rows_told no_sorts no_sorts = ((λ x. refl), (λ e. refl))
  rows_told no_sorts (and_sort u us) = ((λ x. absurd cc), (λ e. absurd cc))
  rows_told (and_sort t ts) no_sorts = ((λ x. absurd cc), (λ e. absurd cc))
  rows_told (and_sort t ts) (and_sort u us) = (
    (λ x. let k = both_so (is_alike t u) (are_alike ts us) x in ap₂ and_sort ((sorts_told t u).0 k.0) ((rows_told ts us).0 k.1)),
    (λ (e : untold_all (and_sort t ts) ≡ untold_all (and_sort u us)). let a : untold t ≡ untold u = cc in let b : untold_all ts ≡ untold_all us = cc in so_both (is_alike t u) (are_alike ts us) ((sorts_told t u).1 a) ((rows_told ts us).1 b)),
  )

-- the test tells of two lists whether they are alike
pub same_told : (ts us : List Sort) → (IsTrue (are_same ts us) → AreSame ts us) × (AreSame ts us → IsTrue (are_same ts us))
same_told ts us = rows_told (row ts) (row us)
