-- Whole units.
use Rattle.std.proofs.Common.{◌≡◌, List, [], ◌∷◌, ◌++◌, map, Result, Ok, Err, refl, sym, ap, ap₂, subst, ◌∙◌}
use Rattle.std.proofs.lemmas.List.{map-append}
use Rattle.vf_base.specs.declared.refusal.RuleFault.{RuleFault}
use Rattle.vf_base.specs.declared.refusal.RuleFault.TheVariants as faults
use Rattle.vf_declared.specs.declared.scope.Scope.{Scope}
use Rattle.vf_syntax.specs.declared.item.Item.{Item}
use Rattle.vf_syntax.specs.declared.item.Item.TheVariants as items
use Rattle.vf_walk.specs.Agreeing.{AreDetermined}
use Rattle.vf_walk.specs.Items.{WalksItem, WalksItems}
use Rattle.vf_walk.specs.Meanings.{Meanings, no_meanings}
use Rattle.vf_functions.specs.Definitions.{CoreTree}
use Rattle.vf_walk.specs.Walking as walking
use Rattle.vf_walk.proofs.Agreeing.{items_one}
use Rattle.vf_functions.specs.Units.{Comes, Lowers, cores_of}
use Rattle.vf_functions.specs.Units as units
use Rattle.vf_functions.specs.Erased.{erased_core}
use Rattle.vf_erasure_laws.specs.plain.Stripped.{stripped_items}
use Rattle.vf_erasure_laws.specs.seen.Seen.{seen}
use Rattle.vf_erasure_laws.specs.seen.Unseen.{AreUnseen}
use Rattle.vf_erasure_laws.specs.erased.Walks.{IsSettled}
use Rattle.vf_erasure_laws.specs.erased.Units.{IsLowered, IsPlainAnswer}
use Rattle.vf_erasure_laws.proofs.erased.Functions.{definition_erased}
use Rattle.vf_erasure_laws.proofs.erased.WalkingItems.{item_goes}
use Rattle.vf_erasure_laws.proofs.erased.WalkingSteps.{apart, ok_same}

-- some functions, and some behind them
both_behind : (a b : List CoreTree) (c d : List CoreTree) → map erased_core a ≡ map erased_core b → map erased_core c ≡ map erased_core d → map erased_core (a ++ c) ≡ map erased_core (b ++ d)
both_behind a b c d h k = map-append erased_core a c ∙ ap₂ (λ x y. x ++ y) h k ∙ sym (map-append erased_core b d)

-- one item in front of others, where the functions that it makes are the same
one_more : (y : Item) (xs : List Item) (s t u : Scope) (fs hs : List CoreTree) → WalksItem no_meanings y (seen s) (Ok (seen t)) → map erased_core hs ≡ map erased_core (cores_of (seen t) y) → IsLowered (stripped_items xs) (seen t) fs u → IsLowered (y ∷ stripped_items xs) (seen s) (hs ++ fs) u
one_more y xs s t u fs hs w e k = record { plain = cores_of (seen t) y ++ k.plain; lowers = units.more w k.lowers; same = both_behind hs (cores_of (seen t) y) fs k.plain e k.same }

-- an item, and what it is without annotations
item_more : (m : Meanings) → AreUnseen m → (x : Item) (xs : List Item) (s t u : Scope) (fs : List CoreTree) → IsSettled s → WalksItem m x s (Ok t) → IsLowered (stripped_items xs) (seen t) fs u → IsLowered (stripped_items (x ∷ xs)) (seen s) (cores_of t x ++ fs) u
item_more m d (items.Opaque p n) xs s t u fs o h k = one_more _ xs s t u fs [] (item_goes m d (items.Opaque p n) s t o h).walks refl k
item_more m d (items.Struct p n ys) xs s t u fs o h k = one_more _ xs s t u fs [] (item_goes m d (items.Struct p n ys) s t o h).walks refl k
item_more m d (items.FunctionType p g c) xs s t u fs o h k = one_more _ xs s t u fs [] (item_goes m d (items.FunctionType p g c) s t o h).walks refl k
item_more m d (items.Prototype g j c) xs s t u fs o h k = one_more _ xs s t u fs [] (item_goes m d (items.Prototype g j c) s t o h).walks refl k
item_more m d (items.Function g j c b) xs s t u fs o h k = one_more _ xs s t u fs (cores_of t (items.Function g j c b)) (item_goes m d (items.Function g j c b) s t o h).walks (ap (λ f. f ∷ []) (definition_erased m d g c b s t o h)) k
item_more m d (items.Ghost g) xs s t u fs o h k = subst (λ (v : Scope). IsLowered (stripped_items xs) v fs u) (item_goes m d (items.Ghost g) s t o h).walks k

-- items without their annotations make the same functions without annotations
pub items_erased : (m : Meanings) → AreUnseen m → {xs : List Item} {s t : Scope} {fs : List CoreTree} → IsSettled s → Lowers m xs s fs t → IsLowered (stripped_items xs) (seen s) fs t
items_erased m d o units.none = record { plain = []; lowers = units.none; same = refl }
items_erased m d {s = s} o (units.more {x} {xs} {t = t} {u} {fs} h k) = item_more m d x xs s t u fs o h (items_erased m d (item_goes m d x s t o h).settled k)

-- annotations that are not there come to one thing
none_determined : AreDetermined no_meanings
none_determined = record { contract = λ o c s v w h k. sym h.is ∙ k.is; invariant = λ f i s v w h k. sym h.is ∙ k.is; command = λ c s v w h k. sym h.is ∙ k.is; item = λ i s v w h k. sym h.is ∙ k.is }

-- items that make functions are accepted
lowers_walk : {m : Meanings} {xs : List Item} {s t : Scope} {fs : List CoreTree} → Lowers m xs s fs t → WalksItems m xs s (Ok t)
lowers_walk units.none = record { is = refl }
lowers_walk (units.more h k) = walking.goes h (lowers_walk k)

-- an item comes to one thing
one_item : (x : Item) (s t u : Scope) → WalksItem no_meanings x s (Ok t) → WalksItem no_meanings x s (Ok u) → t ≡ u
one_item x s t u h k = ok_same (items_one no_meanings none_determined (x ∷ []) s (Ok t) (Ok u) (walking.goes h (record { is = refl })) (walking.goes k (record { is = refl })))

-- items without annotations make functions in one way
lowers_one : {xs : List Item} {s t u : Scope} {fs gs : List CoreTree} → Lowers no_meanings xs s fs t → Lowers no_meanings xs s gs u → fs ≡ gs
lowers_one units.none units.none = refl
lowers_one {s = s} (units.more {x} {xs} {t = t} {u = u} {fs = fs} h k) (units.more {t = t₁} {u = u₁} {fs = gs} h₁ k₁) =
    let same : t₁ ≡ t = one_item x s t₁ t h₁ h in
    λ i. cores_of (sym same i) x ++ lowers_one k (subst (λ (v : Scope). Lowers no_meanings xs v gs u₁) same k₁) i

-- what the code answers for items without annotations
pub plain_answer : {xs : List Item} {s u v : Scope} {fs : List CoreTree} (r : Result (List CoreTree) RuleFault) → IsLowered xs s fs u → Comes no_meanings xs s r v → IsPlainAnswer fs r
plain_answer (Ok gs) h (units.lowered k) = h.same ∙ ap (map erased_core) (lowers_one h.lowers k)
plain_answer {xs} {s} (Err (faults.Refused x)) h (units.refused k) = let clash = items_one no_meanings none_determined xs s _ _ k (lowers_walk h.lowers) in apart clash
plain_answer (Err faults.Memory) h k = tt
