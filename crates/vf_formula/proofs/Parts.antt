-- Terms in rows, place by place.
use Rattle.std.proofs.Common.{◌≡◌, ℕ, zero, suc, ◌<◌, ◌≤◌, ◌+◌, List, ◌∷◌, [], ◌++◌, min, true, false, cond, drop, take, length, refl, sym, ◌∙◌, ap, ap₂, subst, arith}
use Rattle.std.proofs.Math.Seq.{drop-cons}
use Rattle.std.proofs.Math.ListN.{get_or}
use Rattle.std.proofs.Math.Numerals.{add-one}
use Rattle.std.specs.Prelude.{ℤ, pos, Option, Some, None, slice_get, IfOk}
use Rattle.std.specs.declared.result.Result.{Result}
use Rattle.std.specs.declared.result.Result.TheVariants.{Ok, Err}
use Rattle.std.specs.Ordering.{is_gt}
use Rattle.vf_tree.specs.Core.{Add, Multiply}
use Rattle.vf_model.specs.Values.{Dyadic}
use Rattle.vf_closure.specs.Terms.{Term, Terms, no_terms, and_term, number}
use Rattle.vf_normal.specs.Order.{compare}
use Rattle.vf_normal.specs.Sums.{calculated}
use Rattle.vf_normal.specs.Normal.{part_at, added_up, with_factor, product_with, normal, all_normal}
use Rattle.vf_normal.specs.NormalForms.{IsNormal, AllNormal}
use Rattle.vf_formula.specs.Rows.{row}
use Rattle.vf_formula.specs.Shares.{KeepsTimes, KeepsProducts, KeepsFractions, AllKeepFractions}
use Rattle.vf_formula.proofs.Merging.{at_index}

-- terms in a row behind those of a list
abbrev pub ahead : List Term → Terms → Terms
ahead [] us = us
ahead (t ∷ ts) us = and_term t (ahead ts us)

-- the term that was found; where none was, the number 0
abbrev pub found : Option Term → Term
found (Some t) = t
found None = number (pos 0)

pub part_found : (ts : List Term) (k : ℕ) → part_at (row ts) k ≡ found (slice_get ts k)
part_found [] zero = refl
part_found [] (suc k) = refl
part_found (t ∷ ts) zero = refl
part_found (t ∷ ts) (suc k) = part_found ts k

pub part_got : (ts : List Term) (k : ℕ) (t : Term) → Some t ≡ slice_get ts k → part_at (row ts) k ≡ t
part_got ts k t e = part_found ts k ∙ ap found (sym e)

pub part_missed : (ts : List Term) (k : ℕ) → None ≡ slice_get ts k → part_at (row ts) k ≡ number (pos 0)
part_missed ts k e = part_found ts k ∙ ap found (sym e)

pub ok_as : {E : Type 0} (r : Result Term E) (t u : Term) → IfOk r (λ x. x ≡ t) → u ≡ t → IfOk r (λ x. x ≡ u)
ok_as (Ok x) t u h e = h ∙ sym e
ok_as (Err x) t u h e = tt

-- ---- the place of a factor
passed_by : (t u v : Term) (us : List Term) → u ≡ v → is_gt (compare t u) ≡ true → with_factor t (and_term v (row us)) ≡ and_term v (with_factor t (row us))
passed_by t u v us e g = ap (λ b. cond b (and_term v (with_factor t (row us))) (and_term t (and_term v (row us)))) (ap (λ x. is_gt (compare t x)) (sym e) ∙ g)

stopped_by : (t u v : Term) (us : List Term) → u ≡ v → is_gt (compare t u) ≡ false → with_factor t (and_term v (row us)) ≡ and_term t (and_term v (row us))
stopped_by t u v us e g = ap (λ b. cond b (and_term v (with_factor t (row us))) (and_term t (and_term v (row us)))) (ap (λ x. is_gt (compare t x)) (sym e) ∙ g)

-- a term that comes after the next one goes on
pub passed : (t : Term) (us : List Term) (i : ℕ) (u : Term) → i < length us → u ≡ get_or us i u → is_gt (compare t u) ≡ true → ahead (take (i + 1) us) (with_factor t (row (drop (i + 1) us))) ≡ ahead (take i us) (with_factor t (row (drop i us)))
passed t us i u h e g = ap (λ k. ahead (take k us) (with_factor t (row (drop k us)))) (add-one i) ∙ by us i h e
  where
    by : (us : List Term) (i : ℕ) → i < length us → u ≡ get_or us i u → ahead (take (suc i) us) (with_factor t (row (drop (suc i) us))) ≡ ahead (take i us) (with_factor t (row (drop i us)))
    by [] i h e = absurd (omega arith)
    by (v ∷ us) zero h e = sym (passed_by t u v us e g)
    by (v ∷ us) (suc i) h e = ap (and_term v) (by us i (omega arith) e)

-- a term that does not come after the next one stands here
pub stopped : (t : Term) (us : List Term) (i : ℕ) (u : Term) → i < length us → u ≡ get_or us i u → is_gt (compare t u) ≡ false → ahead (take i us) (with_factor t (row (drop i us))) ≡ row (take i us ++ t ∷ drop i us)
stopped t [] i u h e g = absurd (omega arith)
stopped t (v ∷ us) zero u h e g = stopped_by t u v us e g
stopped t (v ∷ us) (suc i) u h e g = ap (and_term v) (stopped t us i u (omega arith) e g)

-- a term that comes after all others stands at the end
pub last_placed : (t : Term) (us : List Term) (i : ℕ) → i ≡ length us → ahead (take i us) (with_factor t (row (drop i us))) ≡ row (take i us ++ t ∷ drop i us)
last_placed t [] zero h = refl
last_placed t [] (suc i) h = absurd (omega arith)
last_placed t (v ∷ us) zero h = absurd (omega arith)
last_placed t (v ∷ us) (suc i) h = ap (and_term v) (last_placed t us i (omega arith))

-- ---- parts
pub row_at : (ts : List Term) (i : ℕ) (t : Term) → i < length ts → t ≡ get_or ts i t → row (drop i ts) ≡ and_term t (row (drop (i + 1) ts))
row_at ts i t h e = ap row (at_index ts i t h e)

pub normal_at : (ts : List Term) (i : ℕ) (t : Term) → i < length ts → t ≡ get_or ts i t → AllNormal (row ts) → IsNormal t
normal_at [] i t h e n = absurd (omega arith)
normal_at (u ∷ ts) zero t h e n = subst IsNormal (sym e) n.0
normal_at (u ∷ ts) (suc i) t h e n = normal_at ts i t (omega arith) e n.1

-- ---- terms times their factors
pub one_more_added : (ks : List ℤ) (ts : List Term) (i j : ℕ) (k : ℤ) (t s r : Term) → i + 1 ≡ j → i < length ks → i < length ts → k ≡ get_or ks i (pos 0) → t ≡ get_or ts i t → s ≡ added_up (drop j ks) (row (drop j ts)) → r ≡ calculated Add (calculated Multiply (number k) t) s → r ≡ added_up (drop i ks) (row (drop i ts))
one_more_added ks ts i j k t s r n h g e d f q =
    q
    ∙ ap (calculated Add (calculated Multiply (number k) t)) (f ∙ ap (λ m. added_up (drop m ks) (row (drop m ts))) (sym n))
    ∙ sym (ap₂ added_up (drop-cons ks i (pos 0) h ∙ ap₂ (λ y m. y ∷ drop m ks) (sym e) (sym (add-one i))) (row_at ts i t g d))

pub none_added : (ks : List ℤ) (ts : List Term) (i : ℕ) → i ≡ min (length ks) (length ts) → added_up (drop i ks) (row (drop i ts)) ≡ number (pos 0)
none_added [] ts zero h = refl
none_added (k ∷ ks) [] zero h = refl
none_added (k ∷ ks) (t ∷ ts) zero h = absurd (omega arith)
none_added [] ts (suc i) h = absurd (omega arith)
none_added (k ∷ ks) [] (suc i) h = absurd (omega arith)
none_added (k ∷ ks) (t ∷ ts) (suc i) h = none_added ks ts i (omega arith)

-- ---- products
pub keeps_rest : (x : Dyadic) (ts : List Term) (i : ℕ) → KeepsProducts x (row ts) → KeepsProducts x (row (drop i ts))
keeps_rest x ts zero k = k
keeps_rest x [] (suc i) k = k
keeps_rest x (t ∷ ts) (suc i) k = keeps_rest x ts i k.0

-- where all products are kept the next one is
pub kept_next : (x : Dyadic) (ts : List Term) (i j : ℕ) (t : Term) (y : Dyadic) → i + 1 ≡ j → i < length ts → t ≡ get_or ts i t → y ≡ (product_with x (row (drop j ts))).coefficient → KeepsProducts x (row ts) → KeepsTimes y t
kept_next x ts i j t y n h e d k =
    subst (λ z. KeepsTimes z t) (sym (d ∙ ap (λ m. (product_with x (row (drop m ts))).coefficient) (sym n)))
    (subst (KeepsProducts x) (row_at ts i t h e) (keeps_rest x ts i k)).1

-- ---- normal forms one by one
pub one_more_normal : (all : List Term) (ts : List Term) (i : ℕ) (t u : Term) → i < length ts → t ≡ get_or ts i t → u ≡ normal t → ahead all (all_normal (row (drop i ts))) ≡ all_normal (row ts) → ahead (all ++ u ∷ []) (all_normal (row (drop (i + 1) ts))) ≡ all_normal (row ts)
one_more_normal all ts i t u h e d f =
    on all u (all_normal (row (drop (i + 1) ts)))
    ∙ ap (λ x. ahead all (and_term x (all_normal (row (drop (i + 1) ts))))) d
    ∙ ap (λ us. ahead all (all_normal us)) (sym (row_at ts i t h e))
    ∙ f
  where
    on : (all : List Term) (u : Term) (us : Terms) → ahead (all ++ u ∷ []) us ≡ ahead all (and_term u us)
    on [] u us = refl
    on (v ∷ all) u us = ap (and_term v) (on all u us)

pub all_are_normal : (all : List Term) (ts : List Term) (i : ℕ) → length ts ≤ i → ahead all (all_normal (row (drop i ts))) ≡ all_normal (row ts) → row all ≡ all_normal (row ts)
all_are_normal all ts i h f = sym (ends all) ∙ ap (λ us. ahead all (all_normal (row us))) (sym (nothing i ts h)) ∙ f
  where
    ends : (all : List Term) → ahead all no_terms ≡ row all
    ends [] = refl
    ends (v ∷ all) = ap (and_term v) (ends all)

    nothing : (i : ℕ) (ts : List Term) → length ts ≤ i → drop i ts ≡ []
    nothing zero [] h = refl
    nothing (suc i) [] h = refl
    nothing zero (t ∷ ts) h = absurd (omega arith)
    nothing (suc i) (t ∷ ts) h = nothing i ts (omega arith)

pub kept_at : (ts : List Term) (i : ℕ) (t : Term) → i < length ts → t ≡ get_or ts i t → AllKeepFractions (row ts) → KeepsFractions t
kept_at [] i t h e k = absurd (omega arith)
kept_at (u ∷ ts) zero t h e k = subst KeepsFractions (sym e) k.0
kept_at (u ∷ ts) (suc i) t h e k = kept_at ts i t (omega arith) e k.1

pub kept_more : (ts : List Term) (i : ℕ) (t : Term) → i < length ts → t ≡ get_or ts i t → KeepsFractions t → AllKeepFractions (row (drop (i + 1) ts)) → AllKeepFractions (row (drop i ts))
kept_more ts i t h e k ks = subst AllKeepFractions (sym (row_at ts i t h e)) (k, ks)
