-- The definitions of items, from the answers for their parts.
use Rattle.std.proofs.Common.{◌≡◌, ℕ, ◌+◌, ◌≤◌, length, drop, slice_get, List, [], ◌∷◌, ◌++◌, Result, Ok, Err, Some, None, refl, sym, subst, ap, ◌∙◌}
use Rattle.vf_base.specs.declared.refusal.Refusal.{Refusal}
use Rattle.vf_base.specs.declared.refusal.RuleFault.{RuleFault}
use Rattle.vf_base.specs.declared.refusal.RuleFault.TheVariants as faults
use Rattle.vf_declared.specs.declared.declaration.Fixpoint as declared
use Rattle.vf_declared.specs.declared.scope.Scope.{Scope}
use Rattle.vf_syntax.specs.declared.item.Item.{Item}
use Rattle.vf_sorting.proofs.Lists.{left_at, left_end}
use Rattle.vf_binding.proofs.Steps.{failing, wanting}
use Rattle.vf_definitions.specs.declared.fixpoint.Body.{Body}
use Rattle.vf_definitions.specs.declared.fixpoint.Fixpoint as definitions
use Rattle.vf_defining.specs.Fixpoints.{IsDefined}
use Rattle.vf_defining.specs.Units.{Written, written_in, within_fixpoint, definitions_of, IsNumbered, ItemDefines, ItemIsRefused, HaveDefinitions, AnyIsRefused, IsAdded, AreDefined}
use Rattle.vf_defining.specs.Units as units
use Rattle.vf_defining.specs.UpTo.{up_to}
use Rattle.vf_defining.proofs.UpTo.{numbered_up_to, numbered_whole}

append_none : {A : Type 0} (ts : List A) → ts ≡ ts ++ []
append_none [] = refl
append_none (t ∷ ts) = ap (λ us. t ∷ us) (append_none ts)

pub memory : {s : Scope} {paths : List (List ℕ)} {x : Item} {before after : List definitions.Fixpoint} {res : Result (Unit {0}) RuleFault} → res ≡ Err faults.Memory → IsAdded s paths x before after res
memory q = record { answers = wanting _ _ q }

pub other : {s : Scope} {paths : List (List ℕ)} {x : Item} {before : List definitions.Fixpoint} → written_in x ≡ None → IsAdded s paths x before before (Ok tt)
other {before = before} e = record { answers = ([], append_none before, units.ItemDefines.other_item e) }

pub stray : {s : Scope} {paths : List (List ℕ)} {x : Item} {w : Written} {before : List definitions.Fixpoint} → written_in x ≡ Some w → ((n : ℕ) (f : declared.Fixpoint) → IsNumbered (up_to w.name s) w n f → ⊥) → IsAdded s paths x before before (Ok tt)
stray {s = s} {w = w} {before = before} e h = record { answers = ([], append_none before, units.ItemDefines.stray_item e (λ n f i. h n f (numbered_up_to s w n f i))) }

pub refused : {s u : Scope} {paths : List (List ℕ)} {x : Item} {w : Written} {n : ℕ} {f : declared.Fixpoint} {before after : List definitions.Fixpoint} {res : Result (Unit {0}) RuleFault} (e : RuleFault) → written_in x ≡ Some w → IsNumbered (up_to w.name s) w n f → u ≡ within_fixpoint (up_to w.name s) w.parameters f.arguments → IsDefined u paths n w.body (Err e) → res ≡ Err e → IsAdded s paths x before after res
refused {s = s} {u = u} {paths = paths} {w = w} {n = n} {f = f} e a b c d q =
    let i = subst (λ (v : Scope). IsDefined v paths n w.body (Err e)) c d in
    record { answers = failing _ _ _ e (λ r h. units.ItemIsRefused.its_body a (numbered_whole s w n f b) h) i.answers q }

pub added : {s u : Scope} {paths : List (List ℕ)} {x : Item} {w : Written} {n : ℕ} {f : declared.Fixpoint} {b : Body} {before after : List definitions.Fixpoint} → written_in x ≡ Some w → IsNumbered (up_to w.name s) w n f → u ≡ within_fixpoint (up_to w.name s) w.parameters f.arguments → IsDefined u paths n w.body (Ok b) → after ≡ before ++ definitions_of s paths w b f.result → IsAdded s paths x before after (Ok tt)
added {s = s} {paths = paths} {w = w} {n = n} {f = f} {b = b} a k c d e =
    let i = subst (λ (v : Scope). IsDefined v paths n w.body (Ok b)) c d in
    record { answers = (definitions_of s paths w b f.result, e, units.ItemDefines.fixpoint a (numbered_whole s w n f k) i.answers) }

append_grouped : {A : Type 0} (xs ys zs : List A) → (xs ++ ys) ++ zs ≡ xs ++ (ys ++ zs)
append_grouped [] ys zs = refl
append_grouped (x ∷ xs) ys zs = ap (λ us. x ∷ us) (append_grouped xs ys zs)

-- ---- items one after the other

-- an item is refused
pub item_fails : (s t : Scope) (paths : List (List ℕ)) (xs : List Item) (i : ℕ) (x : Item) (before after : List definitions.Fixpoint) (e : RuleFault) (res : Result (List definitions.Fixpoint) RuleFault)
    → Some x ≡ slice_get xs i → t ≡ s → IsAdded t paths x before after (Err e) → ((r : Refusal) → AnyIsRefused s (drop i xs) r → AnyIsRefused s xs r) → res ≡ Err e → AreDefined s paths xs res
item_fails s t paths xs i x before after e res a b c f q =
    record { answers = failing _ _ _ e (λ r h. f r (subst (λ (ys : List Item). AnyIsRefused s ys r) (sym (left_at xs i x (sym a))) (units.AnyIsRefused.this_item (subst (λ (u : Scope). ItemIsRefused u x r) b h)))) c.answers q }

-- one item more
pub item_more : (s t : Scope) (paths : List (List ℕ)) (xs : List Item) (i : ℕ) (x : Item) (before after : List definitions.Fixpoint)
    → Some x ≡ slice_get xs i → t ≡ s → IsAdded t paths x before after (Ok tt) → ((es : List definitions.Fixpoint) → HaveDefinitions s paths (drop i xs) es → HaveDefinitions s paths xs (before ++ es))
    → (es : List definitions.Fixpoint) → HaveDefinitions s paths (drop (i + 1) xs) es → HaveDefinitions s paths xs (after ++ es)
item_more s t paths xs i x before after a b c f es h =
    let ds = c.answers.0 in
    let is = c.answers.1 in
    let d = subst (λ (u : Scope). ItemDefines u paths x ds) b c.answers.2 in
    subst (HaveDefinitions s paths xs) (sym (ap (λ ys. ys ++ es) is ∙ append_grouped before ds es))
    (f (ds ++ es) (subst (λ (ys : List Item). HaveDefinitions s paths ys (ds ++ es)) (sym (left_at xs i x (sym a))) (units.HaveDefinitions.more_items d h)))

pub item_passed : (s : Scope) (xs : List Item) (i : ℕ) (x : Item) → Some x ≡ slice_get xs i → ((r : Refusal) → AnyIsRefused s (drop i xs) r → AnyIsRefused s xs r) → (r : Refusal) → AnyIsRefused s (drop (i + 1) xs) r → AnyIsRefused s xs r
item_passed s xs i x a f r h = f r (subst (λ (ys : List Item). AnyIsRefused s ys r) (sym (left_at xs i x (sym a))) (units.AnyIsRefused.later_item h))

-- all items
pub items_end : (s : Scope) (paths : List (List ℕ)) (xs : List Item) (i : ℕ) (all : List definitions.Fixpoint) → length xs ≤ i → ((es : List definitions.Fixpoint) → HaveDefinitions s paths (drop i xs) es → HaveDefinitions s paths xs (all ++ es)) → AreDefined s paths xs (Ok all)
items_end s paths xs i all l f =
    record { answers = subst (HaveDefinitions s paths xs) (sym (append_none all)) (f [] (subst (λ (ys : List Item). HaveDefinitions s paths ys []) (sym (left_end xs i l)) units.HaveDefinitions.no_items)) }
