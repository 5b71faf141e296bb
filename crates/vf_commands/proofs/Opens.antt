-- Answers for `open` and `close` from the answers for their parts.
use Rattle.std.proofs.Common.{◌≡◌, Bool, true, false, List, length, Option, Some, None, Result, Ok, Err, IsTrue, ◌↔◌, sym, ◌∙◌, subst, arith}
use Rattle.std.specs.Prelude.{is_some}
use Rattle.vf_base.specs.declared.place.Place.{Place}
use Rattle.vf_base.specs.declared.refusal.RuleFault.{RuleFault}
use Rattle.vf_base.specs.declared.refusal.RuleFault.TheVariants as faults
use Rattle.vf_base.specs.declared.rule.Rule.TheVariants as rules
use Rattle.vf_sorts.specs.Sorts.{Sort}
use Rattle.vf_sorts.specs.Unknowns.{Known}
use Rattle.vf_declared.specs.declared.scope.Scope.{Scope}
use Rattle.vf_syntax.specs.declared.pattern.Pattern.{Pattern}
use Rattle.vf_syntax.specs.declared.pattern.Share.{Share}
use Rattle.vf_syntax.specs.declared.written.Name.{Name}
use Rattle.vf_sorting.specs.declared.context.Context.{Context}
use Rattle.vf_sorting.specs.Refusals.{refused}
use Rattle.vf_binding.specs.declared.bound.Bound.{Bound}
use Rattle.vf_binding.specs.declared.chunk_sorts.ChunkSorts.{ChunkSorts}
use Rattle.vf_binding.specs.Bound.{no_names}
use Rattle.vf_binding.specs.Chunks.{IsTakenBelow, chunk_takes}
use Rattle.vf_binding.specs.Shares.{ShareFails, SharePasses}
use Rattle.vf_binding.specs.Answers.{IsHeadList, IsShare, IsTakenBound}
use Rattle.vf_binding.proofs.Parts.{alone, both, none_is, some_is}
use Rattle.vf_binding.proofs.Steps.{failing, refusing, wanting}
use Rattle.vf_commands.specs.Opening as opening
use Rattle.vf_commands.specs.Opening.{share_binds}
use Rattle.vf_commands.specs.Answers.{AreValues, IsClosed, IsOpened}

-- a share that may stand where no name is bound yet
shared : {s : Scope} {c : Context} {k k₁ : Known} {b b₁ : Bound} {h : Option Share} → b ≡ no_names → IsShare {A = Unit {0}} s c k b h (Ok tt) k₁ b₁ → SharePasses s c k no_names h k₁ b₁
shared {s = s} {c = c} {k = k} {k₁ = k₁} {b₁ = b₁} {h = h} w i = subst (λ (b : Bound). SharePasses s c k b h k₁ b₁) w i.answers.1

-- ---- open
pub open_memory : {s : Scope} {c : Context} {k k' : Known} {h : Option Share} {n : Name} {xs : List Pattern} {ys : Option (List Pattern)} {res : Result Bound RuleFault} → res ≡ Err faults.Memory → IsOpened s c k h n xs ys res k'
open_memory q = record { answers = wanting _ _ q }

pub open_share_fails : {s : Scope} {c : Context} {k k' : Known} {b b' : Bound} {h : Option Share} {n : Name} {xs : List Pattern} {ys : Option (List Pattern)} {res : Result Bound RuleFault} (e : RuleFault) → b ≡ no_names → IsShare {A = Unit {0}} s c k b h (Err e) k' b' → res ≡ Err e → IsOpened s c k h n xs ys res k'
open_share_fails {s = s} {c = c} {k = k} {h = h} e w i q = record { answers = failing _ _ _ e (λ r f. opening.OpenFails.share (subst (λ (b : Bound). ShareFails s c k b h r) w f)) i.answers q }

pub open_nothing : {s : Scope} {c : Context} {k k₁ : Known} {b b₁ : Bound} {h : Option Share} {n : Name} {o : Option ChunkSorts} {xs : List Pattern} {ys : Option (List Pattern)} {e : RuleFault} → b ≡ no_names → IsShare {A = Unit {0}} s c k b h (Ok tt) k₁ b₁ → o ≡ chunk_takes s k₁ n → o ≡ None → e ≡ faults.Refused (refused rules.Name n.place) → IsOpened s c k h n xs ys (Err e) k₁
open_nothing w i v y q = record { answers = refusing _ _ _ q (opening.OpenFails.no_predicate (shared w i) (sym v ∙ y)) }

pub open_taken_fails : {s : Scope} {c : Context} {k k₁ k' : Known} {b b₁ b' : Bound} {h : Option Share} {n : Name} {t : ChunkSorts} {o : Option ChunkSorts} {xs : List Pattern} {ys : Option (List Pattern)} {res : Result Bound RuleFault} (e : RuleFault) → b ≡ no_names → IsShare {A = Unit {0}} s c k b h (Ok tt) k₁ b₁ → o ≡ chunk_takes s k₁ n → o ≡ Some t → IsTakenBound {A = Unit {0}} s c k₁ b₁ t n xs ys (Err e) k' b' → res ≡ Err e → IsOpened s c k h n xs ys res k'
open_taken_fails e w i v y j q = record { answers = failing _ _ _ e (λ r f. opening.OpenFails.taken (shared w i) (sym v ∙ y) f) j.answers q }

pub open_binds : {s : Scope} {c : Context} {k k₁ k' : Known} {b b₁ b' : Bound} {h : Option Share} {n : Name} {t : ChunkSorts} {o : Option ChunkSorts} {xs : List Pattern} {ys : Option (List Pattern)} → b ≡ no_names → IsShare {A = Unit {0}} s c k b h (Ok tt) k₁ b₁ → o ≡ chunk_takes s k₁ n → o ≡ Some t → IsTakenBound {A = Unit {0}} s c k₁ b₁ t n xs ys (Ok tt) k' b' → IsOpened s c k h n xs ys (Ok b') k'
open_binds w i v y j = let l = i.answers.0 in let m = j.answers.0 in record { answers = (omega (arith, l, m), opening.opened (shared w i) (sym v ∙ y) j.answers.1.0 j.answers.1.1) }

-- ---- pairs of parentheses with expressions alone
pub missing_pair : {s : Scope} {c : Context} {k k' : Known} {t : ChunkSorts} {g : Place} {xs : List Pattern} {y : Bool} {e : RuleFault} → y ≡ is_some t.heads → y ≡ true → e ≡ faults.Refused (refused rules.Typing g) → AreValues {A = Unit {0}} s c k t g xs None (Err e) k'
missing_pair {s = s} {c = c} {k = k} {t = t} {g = g} {xs = xs} w y q = record { answers = refusing _ _ _ q (some_is t.heads (sym w ∙ y) (λ hs h. subst (λ (u : ChunkSorts). opening.ValuesFail s c k u g xs None (refused rules.Typing g)) (both t hs h) opening.missing_pair)) }

pub needless_pair : {s : Scope} {c : Context} {k k' : Known} {t : ChunkSorts} {g : Place} {xs ys : List Pattern} {e : RuleFault} → t.heads ≡ None → e ≡ faults.Refused (refused rules.Typing g) → AreValues {A = Unit {0}} s c k t g xs (Some ys) (Err e) k'
needless_pair {s = s} {c = c} {k = k} {t = t} {g = g} {xs = xs} {ys = ys} w q = record { answers = refusing _ _ _ q (subst (λ (u : ChunkSorts). opening.ValuesFail s c k u g xs (Some ys) (refused rules.Typing g)) (alone t w) opening.needless_pair) }

pub one_pair_fails : {s : Scope} {c : Context} {k k' : Known} {t : ChunkSorts} {g : Place} {xs : List Pattern} {y : Bool} {res : Result (Unit {0}) RuleFault} (e : RuleFault) → y ≡ is_some t.heads → y ≡ false → IsHeadList {A = Unit {0}} s c k t.arguments g xs (Err e) k' → res ≡ Err e → AreValues s c k t g xs None res k'
one_pair_fails {s = s} {c = c} {k = k} {t = t} {g = g} {xs = xs} e w y i q = record { answers = failing _ _ _ e (λ r h. subst (λ (u : ChunkSorts). opening.ValuesFail s c k u g xs None r) (alone t (none_is t.heads (sym w ∙ y))) (opening.ValuesFail.one_pair h)) i.answers q }

pub one_pair_passes : {s : Scope} {c : Context} {k k' : Known} {t : ChunkSorts} {g : Place} {xs : List Pattern} {y : Bool} (zs : Option (List Pattern)) → zs ≡ None → y ≡ is_some t.heads → y ≡ false → IsHeadList {A = Unit {0}} s c k t.arguments g xs (Ok tt) k' → AreValues {A = Unit {0}} s c k t g xs zs (Ok tt) k'
one_pair_passes {s = s} {c = c} {k = k} {k' = k'} {t = t} {g = g} {xs = xs} zs z w y i =
    subst (λ (us : Option (List Pattern)). AreValues {A = Unit {0}} s c k t g xs us (Ok tt) k') (sym z)
    (record { answers = (i.answers.0, subst (λ (u : ChunkSorts). opening.ValuesPass s c k u xs None k') (alone t (none_is t.heads (sym w ∙ y))) (opening.ValuesPass.one_pair i.answers.1)) })

pub first_pair_fails : {s : Scope} {c : Context} {k k' : Known} {t : ChunkSorts} {hs : List Sort} {g : Place} {xs ys : List Pattern} {res : Result (Unit {0}) RuleFault} (e : RuleFault) → t.heads ≡ Some hs → IsHeadList {A = Unit {0}} s c k hs g xs (Err e) k' → res ≡ Err e → AreValues s c k t g xs (Some ys) res k'
first_pair_fails {s = s} {c = c} {k = k} {t = t} {hs = hs} {g = g} {xs = xs} {ys = ys} e w i q = record { answers = failing _ _ _ e (λ r h. subst (λ (u : ChunkSorts). opening.ValuesFail s c k u g xs (Some ys) r) (both t hs w) (opening.ValuesFail.first_pair h)) i.answers q }

pub second_pair_fails : {s : Scope} {c : Context} {k k₁ k' : Known} {t : ChunkSorts} {hs : List Sort} {g : Place} {xs ys : List Pattern} {res : Result (Unit {0}) RuleFault} (e : RuleFault) → t.heads ≡ Some hs → IsHeadList {A = Unit {0}} s c k hs g xs (Ok tt) k₁ → IsHeadList {A = Unit {0}} s c k₁ t.arguments g ys (Err e) k' → res ≡ Err e → AreValues s c k t g xs (Some ys) res k'
second_pair_fails {s = s} {c = c} {k = k} {t = t} {hs = hs} {g = g} {xs = xs} {ys = ys} e w i j q = record { answers = failing _ _ _ e (λ r h. subst (λ (u : ChunkSorts). opening.ValuesFail s c k u g xs (Some ys) r) (both t hs w) (opening.ValuesFail.second_pair i.answers.1 h)) j.answers q }

pub two_pairs_pass : {s : Scope} {c : Context} {k k₁ k' : Known} {t : ChunkSorts} {hs : List Sort} {g : Place} {xs ys : List Pattern} (zs : Option (List Pattern)) → zs ≡ Some ys → t.heads ≡ Some hs → IsHeadList {A = Unit {0}} s c k hs g xs (Ok tt) k₁ → IsHeadList {A = Unit {0}} s c k₁ t.arguments g ys (Ok tt) k' → AreValues {A = Unit {0}} s c k t g xs zs (Ok tt) k'
two_pairs_pass {s = s} {c = c} {k = k} {k' = k'} {t = t} {hs = hs} {g = g} {xs = xs} {ys = ys} zs z w i j =
    let l = i.answers.0 in let m = j.answers.0 in
    subst (λ (us : Option (List Pattern)). AreValues {A = Unit {0}} s c k t g xs us (Ok tt) k') (sym z)
    (record { answers = (omega (arith, l, m), subst (λ (u : ChunkSorts). opening.ValuesPass s c k u xs (Some ys) k') (both t hs w) (opening.ValuesPass.two_pairs i.answers.1 j.answers.1)) })

-- ---- close
pub close_memory : {s : Scope} {c : Context} {k k' : Known} {h : Option Share} {n : Name} {xs : List Pattern} {ys : Option (List Pattern)} {res : Result (Unit {0}) RuleFault} → res ≡ Err faults.Memory → IsClosed s c k h n xs ys res k'
close_memory q = record { answers = wanting _ _ q }

pub close_share_binds : {s : Scope} {c : Context} {k : Known} {h : Option Share} {o : Option Place} {p : Place} {n : Name} {xs : List Pattern} {ys : Option (List Pattern)} {e : RuleFault} → o ≡ share_binds h → o ≡ Some p → e ≡ faults.Refused (refused rules.Typing p) → IsClosed {A = Unit {0}} s c k h n xs ys (Err e) k
close_share_binds v y q = record { answers = refusing _ _ _ q (opening.CloseFails.bound_share (sym v ∙ y)) }

pub close_share_fails : {s : Scope} {c : Context} {k k' : Known} {b b' : Bound} {h : Option Share} {n : Name} {o : Option Place} {xs : List Pattern} {ys : Option (List Pattern)} {res : Result (Unit {0}) RuleFault} (e : RuleFault) → o ≡ share_binds h → o ≡ None → b ≡ no_names → IsShare {A = Unit {0}} s c k b h (Err e) k' b' → res ≡ Err e → IsClosed s c k h n xs ys res k'
close_share_fails {s = s} {c = c} {k = k} {h = h} e v y w i q = record { answers = failing _ _ _ e (λ r f. opening.CloseFails.share (sym v ∙ y) (subst (λ (b : Bound). ShareFails s c k b h r) w f)) i.answers q }

pub close_nothing : {s : Scope} {c : Context} {k k₁ : Known} {b b₁ : Bound} {h : Option Share} {n : Name} {m : Option Place} {o : Option ChunkSorts} {xs : List Pattern} {ys : Option (List Pattern)} {e : RuleFault} → m ≡ share_binds h → m ≡ None → b ≡ no_names → IsShare {A = Unit {0}} s c k b h (Ok tt) k₁ b₁ → o ≡ chunk_takes s k₁ n → o ≡ None → e ≡ faults.Refused (refused rules.Name n.place) → IsClosed {A = Unit {0}} s c k h n xs ys (Err e) k₁
close_nothing f g w i v y q = record { answers = refusing _ _ _ q (opening.CloseFails.no_predicate (sym f ∙ g) (shared w i) (sym v ∙ y)) }

pub close_stray : {s : Scope} {c : Context} {k k₁ : Known} {b b₁ : Bound} {h : Option Share} {n : Name} {t : ChunkSorts} {m : Option Place} {o : Option ChunkSorts} {xs : List Pattern} {ys : Option (List Pattern)} {z : Bool} {e : RuleFault} → m ≡ share_binds h → m ≡ None → b ≡ no_names → IsShare {A = Unit {0}} s c k b h (Ok tt) k₁ b₁ → o ≡ chunk_takes s k₁ n → o ≡ Some t → (IsTrue z ↔ IsTakenBelow (length k₁) t) → z ≡ false → e ≡ faults.Refused (refused rules.Typing n.place) → IsClosed {A = Unit {0}} s c k h n xs ys (Err e) k₁
close_stray f g w i v y a z q = record { answers = refusing _ _ _ q (opening.CloseFails.stray (sym f ∙ g) (shared w i) (sym v ∙ y) (λ h. let yes_is = a.1 h in absurd cc)) }

pub close_values_fail : {s : Scope} {c : Context} {k k₁ k' : Known} {b b₁ : Bound} {h : Option Share} {n : Name} {t : ChunkSorts} {m : Option Place} {o : Option ChunkSorts} {xs : List Pattern} {ys : Option (List Pattern)} {z : Bool} {res : Result (Unit {0}) RuleFault} (e : RuleFault) → m ≡ share_binds h → m ≡ None → b ≡ no_names → IsShare {A = Unit {0}} s c k b h (Ok tt) k₁ b₁ → o ≡ chunk_takes s k₁ n → o ≡ Some t → (IsTrue z ↔ IsTakenBelow (length k₁) t) → z ≡ true → AreValues {A = Unit {0}} s c k₁ t n.place xs ys (Err e) k' → res ≡ Err e → IsClosed s c k h n xs ys res k'
close_values_fail e f g w i v y a z j q = record { answers = failing _ _ _ e (λ r x. opening.CloseFails.values (sym f ∙ g) (shared w i) (sym v ∙ y) (a.0 z) x) j.answers q }

pub close_passes : {s : Scope} {c : Context} {k k₁ k' : Known} {b b₁ : Bound} {h : Option Share} {n : Name} {t : ChunkSorts} {m : Option Place} {o : Option ChunkSorts} {g : Place} {xs : List Pattern} {ys : Option (List Pattern)} {z : Bool} → m ≡ share_binds h → m ≡ None → b ≡ no_names → IsShare {A = Unit {0}} s c k b h (Ok tt) k₁ b₁ → o ≡ chunk_takes s k₁ n → o ≡ Some t → (IsTrue z ↔ IsTakenBelow (length k₁) t) → z ≡ true → AreValues {A = Unit {0}} s c k₁ t g xs ys (Ok tt) k' → IsClosed {A = Unit {0}} s c k h n xs ys (Ok tt) k'
close_passes f g w i v y a z j = let l = i.answers.0 in let m = j.answers.0 in record { answers = (omega (arith, l, m), opening.closed (sym f ∙ g) (shared w i) (sym v ∙ y) (a.0 z) j.answers.1) }
