-- Heads that are one, up to what pointers tell, are stored alike.
use Rattle.std.proofs.Common.{◌≡◌, ◌↔◌, ap, ap₂, subst, refl, ◌&&◌, Bool, true, false, IsTrue, arith}
use base.Stored.{Gv, gnil, gnum, gcons}
use Rattle.vf_sorts.specs.contracts.sort.Head as head_row
use Rattle.vf_sorts.specs.declared.sort.Head.{Head}
use Rattle.vf_sorts.specs.Told.{untold_head}
use Rattle.vf_sorts.specs.Codes.{are_stored_alike, head_code}
use Rattle.vf_sorts.specs.Unifying.{are_heads_alike}

both_true : (a b : Bool) → IsTrue (a && b) → IsTrue a × IsTrue b
both_true true b h = (refl, h)
both_true false b h = absurd cc

true_both : (a b : Bool) → IsTrue a → IsTrue b → IsTrue (a && b)
true_both true b h k = k
true_both false b h k = absurd cc

stored_alike : (a b : Gv) → IsTrue (are_stored_alike a b) → a ≡ b
stored_alike gnil gnil h = refl
stored_alike gnil (gnum n) h = absurd cc
stored_alike gnil (gcons x y) h = absurd cc
stored_alike (gnum m) gnil h = absurd cc
stored_alike (gnum m) (gnum n) h = let e : m ≡ n = grind (arith, h) in ap gnum e
stored_alike (gnum m) (gcons x y) h = absurd cc
stored_alike (gcons a b) gnil h = absurd cc
stored_alike (gcons a b) (gnum n) h = absurd cc
stored_alike (gcons a b) (gcons x y) h = let k = both_true (are_stored_alike a x) (are_stored_alike b y) h in ap₂ gcons (stored_alike a x k.0) (stored_alike b y k.1)

itself_alike : (a : Gv) → IsTrue (are_stored_alike a a)
itself_alike gnil = refl
itself_alike (gnum m) = grind arith
itself_alike (gcons a b) = true_both (are_stored_alike a a) (are_stored_alike b b) (itself_alike a) (itself_alike b)

told_by : (a b : Bool) → (IsTrue a → IsTrue b) → (IsTrue b → IsTrue a) → a ≡ b
told_by true true h k = refl
told_by true false h k = absurd (let e = h refl in cc)
told_by false true h k = absurd (let e = k refl in cc)
told_by false false h k = refl

-- an answer that tells whether two heads are one
pub heads_alike : (answer : Bool) (h g : Head) → IsTrue answer ↔ (untold_head h ≡ untold_head g) → answer ≡ are_heads_alike h g
heads_alike answer h g t = told_by answer (are_heads_alike h g)
    (λ x. subst (λ (w : Head). IsTrue (are_stored_alike (head_code (untold_head h)) (head_code w))) (t.0 x) (itself_alike (head_code (untold_head h))))
    (λ x. t.1 (head_row.the_row.coded.inj (untold_head h) (untold_head g) (stored_alike (head_code (untold_head h)) (head_code (untold_head g)) x)))
