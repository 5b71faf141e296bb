-- The loop over items: what the items that are left come to, behind the functions so far, all of them come to.
use Rattle.std.proofs.Common.{◌≡◌, ℕ, ◌+◌, ◌≤◌, List, [], ◌∷◌, ◌++◌, length, drop, Result, Ok, Err, Some, None, slice_get, sym, ap, ◌∙◌, subst, append_assoc}
use Rattle.std.proofs.lemmas.List.{append-nil}
use Rattle.std.specs.Global.{Vec}
use Rattle.vf_base.specs.declared.refusal.Refusal.{Refusal}
use Rattle.vf_base.specs.declared.refusal.RuleFault.{RuleFault}
use Rattle.vf_base.specs.declared.refusal.RuleFault.TheVariants as faults
use Rattle.vf_declared.specs.declared.scope.Scope.{Scope}
use Rattle.vf_syntax.specs.declared.item.Item.{Item}
use Rattle.vf_walk.specs.Items.{WalksItem, WalksItems}
use Rattle.vf_walk.specs.Meanings.{Meanings}
use Rattle.vf_walk.specs.Walking.{Follows}
use Rattle.vf_walk.specs.Walking as walking
use Rattle.vf_walk.proofs.Steps.{ended}
use Rattle.vf_lower.proofs.Lists.{left_at, left_end, left_none}
use Rattle.vf_functions.specs.Definitions.{CoreTree}
use Rattle.vf_functions.specs.Units.{Comes, Lowers, cores_of}
use Rattle.vf_functions.specs.Units as units
use Rattle.vf_cores.specs.declared.cores.Core.{Core}
use Rattle.vf_cores.specs.Shown.{answer_shown}

-- whatever some items come to behind functions that were made, all of them come to
pub record Reaches (m : Meanings) (xs : List Item) (s : Scope) (before : List CoreTree) (ys : List Item) (t : Scope) : Type 0 where
  pub lowers : (gs : List CoreTree) (u : Scope) → Lowers m ys t gs u → Lowers m xs s (before ++ gs) u
  pub refuses : (x : Refusal) → WalksItems m ys t (Err x) → WalksItems m xs s (Err x)

-- at the start all are left
pub reaches_here : (m : Meanings) (xs : List Item) (s : Scope) → Reaches m xs s [] xs s
reaches_here m xs s = record { lowers = λ gs u h. h; refuses = λ x h. h }

-- one item is done
one_done : {m : Meanings} {xs ys : List Item} {x : Item} {s t u : Scope} {before now : List CoreTree} → WalksItem m x t (Ok u) → now ≡ before ++ cores_of u x → Reaches m xs s before (x ∷ ys) t → Reaches m xs s now ys u
one_done {m = m} {xs = xs} {x = x} {s = s} {u = u} {before = before} h is r = record {
  lowers = λ gs v k. subst (λ fs. Lowers m xs s fs v) (sym (ap (λ fs. fs ++ gs) is ∙ append_assoc before (cores_of u x) gs)) (r.lowers (cores_of u x ++ gs) v (units.more h k));
  refuses = λ y k. r.refuses y (walking.goes h k);
}

-- one more item, behind which things stay as they are
pub items_more : (m : Meanings) (xs : List Item) (i : ℕ) (x : Item) (s t u v : Scope) (before now : List CoreTree) → slice_get xs i ≡ Some x → Follows (WalksItem m x t) (Ok tt) u → v ≡ u → now ≡ before ++ cores_of u x → Reaches m xs s before (drop i xs) t → Reaches m xs s now (drop (i + 1) xs) v
items_more m xs i x s t u v before now h step same is r = subst (λ w. Reaches m xs s now (drop (i + 1) xs) w) (sym same) (one_done (ended step) is (subst (λ (ys : List Item). Reaches m xs s before ys t) (left_at xs i x h) r))

stopped : {m : Meanings} {xs ys : List Item} {x : Item} {s t u v : Scope} {before : List CoreTree} {e : RuleFault} → Follows (WalksItem m x t) (Err e) u → Reaches m xs s before (x ∷ ys) t → Comes m xs s (Err e) v
stopped (walking.to_refusal h) r = units.refused (r.refuses _ (walking.stops h))
stopped walking.out_of_memory r = units.out_of_memory

-- an item is refused
pub items_stop : (m : Meanings) (xs : List Item) (i : ℕ) (x : Item) (s t u v : Scope) (before : List CoreTree) (e : RuleFault) (q : Result (Vec Core) RuleFault) → slice_get xs i ≡ Some x → Follows (WalksItem m x t) (Err e) u → Reaches m xs s before (drop i xs) t → q ≡ Err e → Comes m xs s (answer_shown q) v
items_stop m xs i x s t u v before e q h step r is = subst (λ p. Comes m xs s (answer_shown p) v) (sym is) (stopped step (subst (λ (ys : List Item). Reaches m xs s before ys t) (left_at xs i x h) r))

all_done : {m : Meanings} {xs : List Item} {s t : Scope} {before : List CoreTree} → Reaches m xs s before [] t → Comes m xs s (Ok before) t
all_done {m = m} {xs = xs} {s = s} {t = t} {before = before} r = units.lowered (subst (λ fs. Lowers m xs s fs t) (append-nil before) (r.lowers [] t units.none))

-- no item stands at an index
pub items_none : (m : Meanings) (xs : List Item) (i : ℕ) (s t : Scope) (before : List CoreTree) → slice_get xs i ≡ None → Reaches m xs s before (drop i xs) t → Comes m xs s (Ok before) t
items_none m xs i s t before h r = all_done (subst (λ (ys : List Item). Reaches m xs s before ys t) (left_none xs i h) r)

-- the list is done
pub items_end : (m : Meanings) (xs : List Item) (i : ℕ) (s t : Scope) (before : List CoreTree) → length xs ≤ i → Reaches m xs s before (drop i xs) t → Comes m xs s (Ok before) t
items_end m xs i s t before h r = all_done (subst (λ (ys : List Item). Reaches m xs s before ys t) (left_end xs i h) r)

-- memory ran out
pub items_memory : (m : Meanings) (xs : List Item) (s v : Scope) (q : Result (Vec Core) RuleFault) → q ≡ Err faults.Memory → Comes m xs s (answer_shown q) v
items_memory m xs s v q is = subst (λ p. Comes m xs s (answer_shown p) v) (sym is) units.out_of_memory
