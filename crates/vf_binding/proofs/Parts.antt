-- Answers for chunks from the answers for their parts.
use Rattle.std.proofs.Common.{◌≡◌, ℕ, Bool, true, false, List, length, Option, Some, None, Result, Ok, Err, IsTrue, ◌↔◌, refl, sym, ◌∙◌, subst, arith}
use Rattle.std.specs.Prelude.{is_some, not, ◌&&◌}
use Rattle.vf_base.specs.declared.place.Place.{Place}
use Rattle.vf_base.specs.declared.refusal.RuleFault.{RuleFault}
use Rattle.vf_base.specs.declared.refusal.RuleFault.TheVariants as faults
use Rattle.vf_base.specs.declared.rule.Rule.TheVariants as rules
use Rattle.vf_sorts.specs.Sorts.{Sort}
use Rattle.vf_sorts.specs.Unknowns.{AreBelow, Known}
use Rattle.vf_declared.specs.declared.scope.Scope.{Scope}
use Rattle.vf_syntax.specs.declared.pattern.Pattern.{Pattern}
use Rattle.vf_syntax.specs.declared.pattern.Share.{Share}
use Rattle.vf_syntax.specs.declared.written.Name.{Name}
use Rattle.vf_syntax.specs.Assertions.{are_value_patterns}
use Rattle.vf_sorting.specs.declared.context.Context.{Context}
use Rattle.vf_sorting.specs.Answers.{IsChecked}
use Rattle.vf_sorting.specs.Kinds.{bool_sort}
use Rattle.vf_sorting.specs.Refusals.{refused}
use Rattle.vf_binding.specs.declared.bound.Bound.{Bound}
use Rattle.vf_binding.specs.declared.chunk_sorts.ChunkSorts.{ChunkSorts}
use Rattle.vf_binding.specs.Chunks as chunks
use Rattle.vf_binding.specs.Chunks.{IsTakenBelow, application_of, chunk_takes, is_known, is_plain, with_arguments, with_heads}
use Rattle.vf_binding.specs.Answers.{AreArguments, IsChunk, IsHeadList, IsListBound, IsShare, IsTakenBound, IsTruth}
use Rattle.vf_binding.proofs.Lists.{all_below_more}
use Rattle.vf_binding.proofs.Steps.{failing, refusing, wanting}

-- ---- pairs of parentheses
-- what takes arguments alone
pub alone : (t : ChunkSorts) → t.heads ≡ None → with_arguments t.arguments ≡ t
alone t q = λ i. record { heads = sym q i; arguments = t.arguments }

-- what takes two pairs
pub both : (t : ChunkSorts) (hs : List Sort) → t.heads ≡ Some hs → with_heads hs t.arguments ≡ t
both t hs q = λ i. record { heads = sym q i; arguments = t.arguments }

pub arguments_below : (n : ℕ) (t : ChunkSorts) → IsTakenBelow n t → AreBelow n t.arguments
arguments_below n t b = b.1

pub heads_below : (n : ℕ) (t : ChunkSorts) (hs : List Sort) → t.heads ≡ Some hs → IsTakenBelow n t → AreBelow n hs
heads_below n t hs q b = (subst (chunks.AreHeadsBelow n) q b.0)

pub arguments_below_then : {s : Scope} {c : Context} {k k₁ : Known} {hs : List Sort} {g : Place} {xs : List Pattern} (t : ChunkSorts) → IsTakenBelow (length k) t → IsHeadList {A = Unit {0}} s c k hs g xs (Ok tt) k₁ → AreBelow (length k₁) t.arguments
arguments_below_then t b i = all_below_more _ _ i.answers.0 _ b.1

pub none_is : {A : Type 0} (x : Option A) → is_some x ≡ false → x ≡ None
none_is None h = refl
none_is (Some a) h = absurd cc

pub some_is : {A : Type 0} {T : Type 0} (x : Option A) → is_some x ≡ true → ((a : A) → x ≡ Some a → T) → T
some_is None h f = absurd cc
some_is (Some a) h f = f a refl

pub missing_pair : {s : Scope} {c : Context} {k k' : Known} {b b' : Bound} {t : ChunkSorts} {g : Place} {xs : List Pattern} {y : Bool} {e : RuleFault} → y ≡ is_some t.heads → y ≡ true → e ≡ faults.Refused (refused rules.Typing g) → AreArguments {A = Unit {0}} s c k b t g xs None (Err e) k' b'
missing_pair {s = s} {c = c} {k = k} {b = b} {t = t} {g = g} {xs = xs} w y q = record { answers = refusing _ _ _ q (some_is t.heads (sym w ∙ y) (λ hs h. subst (λ (u : ChunkSorts). chunks.ArgumentsFail s c k b u g xs None (refused rules.Typing g)) (both t hs h) chunks.missing_pair)) }

pub needless_pair : {s : Scope} {c : Context} {k k' : Known} {b b' : Bound} {t : ChunkSorts} {g : Place} {xs ys : List Pattern} {e : RuleFault} → t.heads ≡ None → e ≡ faults.Refused (refused rules.Typing g) → AreArguments {A = Unit {0}} s c k b t g xs (Some ys) (Err e) k' b'
needless_pair {s = s} {c = c} {k = k} {b = b} {t = t} {g = g} {xs = xs} {ys = ys} w q = record { answers = refusing _ _ _ q (subst (λ (u : ChunkSorts). chunks.ArgumentsFail s c k b u g xs (Some ys) (refused rules.Typing g)) (alone t w) chunks.needless_pair) }

pub one_pair_fails : {s : Scope} {c : Context} {k k' : Known} {b b' : Bound} {t : ChunkSorts} {g : Place} {xs : List Pattern} {y : Bool} {res : Result (Unit {0}) RuleFault} (e : RuleFault) → y ≡ is_some t.heads → y ≡ false → IsListBound {A = Unit {0}} s c k b t.arguments g xs (Err e) k' b' → res ≡ Err e → AreArguments s c k b t g xs None res k' b'
one_pair_fails {s = s} {c = c} {k = k} {b = b} {t = t} {g = g} {xs = xs} e w y i q = record { answers = failing _ _ _ e (λ r h. subst (λ (u : ChunkSorts). chunks.ArgumentsFail s c k b u g xs None r) (alone t (none_is t.heads (sym w ∙ y))) (chunks.ArgumentsFail.one_pair h)) i.answers q }

pub one_pair_binds : {s : Scope} {c : Context} {k k' : Known} {b b' : Bound} {t : ChunkSorts} {g : Place} {xs : List Pattern} {y : Bool} (zs : Option (List Pattern)) → zs ≡ None → y ≡ is_some t.heads → y ≡ false → IsListBound {A = Unit {0}} s c k b t.arguments g xs (Ok tt) k' b' → AreArguments {A = Unit {0}} s c k b t g xs zs (Ok tt) k' b'
one_pair_binds {s = s} {c = c} {k = k} {k' = k'} {b = b} {b' = b'} {t = t} {g = g} {xs = xs} zs z w y i =
    subst (λ (us : Option (List Pattern)). AreArguments {A = Unit {0}} s c k b t g xs us (Ok tt) k' b') (sym z)
    (record { answers = (i.answers.0, subst (λ (u : ChunkSorts). chunks.ArgumentsBind s c k b u xs None k' b') (alone t (none_is t.heads (sym w ∙ y))) (chunks.ArgumentsBind.one_pair i.answers.1)) })

pub first_pair_fails : {s : Scope} {c : Context} {k k' : Known} {b b' : Bound} {t : ChunkSorts} {hs : List Sort} {g : Place} {xs ys : List Pattern} {res : Result (Unit {0}) RuleFault} (e : RuleFault) → t.heads ≡ Some hs → IsHeadList {A = Unit {0}} s c k hs g xs (Err e) k' → res ≡ Err e → AreArguments s c k b t g xs (Some ys) res k' b'
first_pair_fails {s = s} {c = c} {k = k} {b = b} {t = t} {hs = hs} {g = g} {xs = xs} {ys = ys} e w i q = record { answers = failing _ _ _ e (λ r h. subst (λ (u : ChunkSorts). chunks.ArgumentsFail s c k b u g xs (Some ys) r) (both t hs w) (chunks.first_pair h)) i.answers q }

pub second_pair_fails : {s : Scope} {c : Context} {k k₁ k' : Known} {b b' : Bound} {t : ChunkSorts} {hs : List Sort} {g : Place} {xs ys : List Pattern} {res : Result (Unit {0}) RuleFault} (e : RuleFault) → t.heads ≡ Some hs → IsHeadList {A = Unit {0}} s c k hs g xs (Ok tt) k₁ → IsListBound {A = Unit {0}} s c k₁ b t.arguments g ys (Err e) k' b' → res ≡ Err e → AreArguments s c k b t g xs (Some ys) res k' b'
second_pair_fails {s = s} {c = c} {k = k} {b = b} {t = t} {hs = hs} {g = g} {xs = xs} {ys = ys} e w i j q = record { answers = failing _ _ _ e (λ r h. subst (λ (u : ChunkSorts). chunks.ArgumentsFail s c k b u g xs (Some ys) r) (both t hs w) (chunks.second_pair i.answers.1 h)) j.answers q }

pub two_pairs_bind : {s : Scope} {c : Context} {k k₁ k' : Known} {b b' : Bound} {t : ChunkSorts} {hs : List Sort} {g : Place} {xs ys : List Pattern} (zs : Option (List Pattern)) → zs ≡ Some ys → t.heads ≡ Some hs → IsHeadList {A = Unit {0}} s c k hs g xs (Ok tt) k₁ → IsListBound {A = Unit {0}} s c k₁ b t.arguments g ys (Ok tt) k' b' → AreArguments {A = Unit {0}} s c k b t g xs zs (Ok tt) k' b'
two_pairs_bind {s = s} {c = c} {k = k} {k' = k'} {b = b} {b' = b'} {t = t} {hs = hs} {g = g} {xs = xs} {ys = ys} zs z w i j =
    let l = i.answers.0 in let m = j.answers.0 in
    subst (λ (us : Option (List Pattern)). AreArguments {A = Unit {0}} s c k b t g xs us (Ok tt) k' b') (sym z)
    (record { answers = (omega (arith, l, m), subst (λ (u : ChunkSorts). chunks.ArgumentsBind s c k b u xs (Some ys) k' b') (both t hs w) (chunks.two_pairs i.answers.1 j.answers.1)) })

-- ---- a name that takes something
pub taken_stray : {s : Scope} {c : Context} {k k' : Known} {b b' : Bound} {t : ChunkSorts} {n : Name} {xs : List Pattern} {ys : Option (List Pattern)} {y : Bool} {e : RuleFault} → (IsTrue y ↔ IsTakenBelow (length k) t) → y ≡ false → e ≡ faults.Refused (refused rules.Typing n.place) → IsTakenBound {A = Unit {0}} s c k b t n xs ys (Err e) k' b'
taken_stray w y q = record { answers = refusing _ _ _ q (chunks.stray (λ h. let yes_is = w.1 h in absurd cc)) }

pub taken_fails : {s : Scope} {c : Context} {k k' : Known} {b b' : Bound} {t : ChunkSorts} {n : Name} {xs : List Pattern} {ys : Option (List Pattern)} {y : Bool} {res : Result (Unit {0}) RuleFault} (e : RuleFault) → (IsTrue y ↔ IsTakenBelow (length k) t) → y ≡ true → AreArguments {A = Unit {0}} s c k b t n.place xs ys (Err e) k' b' → res ≡ Err e → IsTakenBound s c k b t n xs ys res k' b'
taken_fails e w y i q = record { answers = failing _ _ _ e (λ r h. chunks.arguments (w.0 y) h) i.answers q }

pub taken_binds : {s : Scope} {c : Context} {k k' : Known} {b b' : Bound} {t : ChunkSorts} {n : Name} {g : Place} {xs : List Pattern} {ys : Option (List Pattern)} {y : Bool} → (IsTrue y ↔ IsTakenBelow (length k) t) → y ≡ true → AreArguments {A = Unit {0}} s c k b t g xs ys (Ok tt) k' b' → IsTakenBound {A = Unit {0}} s c k b t n xs ys (Ok tt) k' b'
taken_binds w y i = record { answers = (i.answers.0, (w.0 y, i.answers.1)) }

-- ---- a name that takes nothing
pub other_memory : {s : Scope} {c : Context} {k k' : Known} {h : Option Share} {n : Name} {xs : List Pattern} {ys : Option (List Pattern)} {res : Result (Unit {0}) RuleFault} → res ≡ Err faults.Memory → IsTruth s c k h n xs ys res k'
other_memory q = record { answers = wanting _ _ q }

pub other_unknown : {s : Scope} {c : Context} {k k' : Known} {h : Option Share} {n : Name} {xs : List Pattern} {ys : Option (List Pattern)} {y : Bool} {e : RuleFault} → y ≡ is_known s n → y ≡ false → e ≡ faults.Refused (refused rules.Name n.place) → IsTruth {A = Unit {0}} s c k h n xs ys (Err e) k'
other_unknown w y q = record { answers = refusing _ _ _ q (chunks.no_name (sym w ∙ y)) }

pub other_form : {s : Scope} {c : Context} {k k' : Known} {h : Option Share} {n : Name} {xs : List Pattern} {ys : Option (List Pattern)} {y z : Bool} {e : RuleFault} → y ≡ is_known s n → y ≡ true → z ≡ is_plain h xs ys → z ≡ false → e ≡ faults.Refused (refused rules.Typing n.place) → IsTruth {A = Unit {0}} s c k h n xs ys (Err e) k'
other_form w y v z q = record { answers = refusing _ _ _ q (chunks.no_chunk (sym w ∙ y) (sym v ∙ z)) }

pub other_fails : {s : Scope} {c : Context} {k k' : Known} {h : Option Share} {n : Name} {xs : List Pattern} {ys : Option (List Pattern)} {y z : Bool} {res : Result (Unit {0}) RuleFault} (e : RuleFault) → y ≡ is_known s n → y ≡ true → z ≡ is_plain h xs ys → z ≡ true → IsChecked {A = Unit {0}} s c k bool_sort n.place (application_of n xs) (Err e) k' → res ≡ Err e → IsTruth s c k h n xs ys res k'
other_fails e w y v z i q = record { answers = failing _ _ _ e (λ r f. chunks.TruthFails.truth (sym w ∙ y) (sym v ∙ z) f) i.answers q }

pub other_passes : {s : Scope} {c : Context} {k k' : Known} {h : Option Share} {n : Name} {xs : List Pattern} {ys : Option (List Pattern)} {y z : Bool} → y ≡ is_known s n → y ≡ true → z ≡ is_plain h xs ys → z ≡ true → IsChecked {A = Unit {0}} s c k bool_sort n.place (application_of n xs) (Ok tt) k' → IsTruth {A = Unit {0}} s c k h n xs ys (Ok tt) k'
other_passes w y v z i = record { answers = (i.answers.0, chunks.TruthPasses.truth (sym w ∙ y) (sym v ∙ z) i.answers.1) }

and_right : (x y z : Bool) → (x && (y && z)) ≡ true → z ≡ true
and_right true true z h = h
and_right true false z h = absurd cc
and_right false y z h = absurd cc

pub plain_values : (h : Option Share) (xs : List Pattern) (ys : Option (List Pattern)) (z : Bool) → z ≡ is_plain h xs ys → z ≡ true → are_value_patterns xs ≡ true
plain_values h xs ys z v q = and_right (not (is_some h)) (not (is_some ys)) (are_value_patterns xs) (sym v ∙ q)

-- ---- chunks
pub chunk_memory : {s : Scope} {c : Context} {k k' : Known} {b b' : Bound} {h : Option Share} {n : Name} {xs : List Pattern} {ys : Option (List Pattern)} {res : Result (Unit {0}) RuleFault} → res ≡ Err faults.Memory → IsChunk s c k b h n xs ys res k' b'
chunk_memory q = record { answers = wanting _ _ q }

pub chunk_share_fails : {s : Scope} {c : Context} {k k' : Known} {b b' : Bound} {h : Option Share} {n : Name} {xs : List Pattern} {ys : Option (List Pattern)} {res : Result (Unit {0}) RuleFault} (e : RuleFault) → IsShare {A = Unit {0}} s c k b h (Err e) k' b' → res ≡ Err e → IsChunk s c k b h n xs ys res k' b'
chunk_share_fails e i q = record { answers = failing _ _ _ e (λ r f. chunks.ChunkFails.share f) i.answers q }

pub chunk_taken_fails : {s : Scope} {c : Context} {k k₁ k' : Known} {b b₁ b' : Bound} {h : Option Share} {n : Name} {t : ChunkSorts} {o : Option ChunkSorts} {xs : List Pattern} {ys : Option (List Pattern)} {res : Result (Unit {0}) RuleFault} (e : RuleFault) → IsShare {A = Unit {0}} s c k b h (Ok tt) k₁ b₁ → o ≡ chunk_takes s k₁ n → o ≡ Some t → IsTakenBound {A = Unit {0}} s c k₁ b₁ t n xs ys (Err e) k' b' → res ≡ Err e → IsChunk s c k b h n xs ys res k' b'
chunk_taken_fails e i w y j q = record { answers = failing _ _ _ e (λ r f. chunks.ChunkFails.chunk i.answers.1 (sym w ∙ y) f) j.answers q }

pub chunk_taken_binds : {s : Scope} {c : Context} {k k₁ k' : Known} {b b₁ b' : Bound} {h : Option Share} {n : Name} {t : ChunkSorts} {o : Option ChunkSorts} {xs : List Pattern} {ys : Option (List Pattern)} → IsShare {A = Unit {0}} s c k b h (Ok tt) k₁ b₁ → o ≡ chunk_takes s k₁ n → o ≡ Some t → IsTakenBound {A = Unit {0}} s c k₁ b₁ t n xs ys (Ok tt) k' b' → IsChunk {A = Unit {0}} s c k b h n xs ys (Ok tt) k' b'
chunk_taken_binds i w y j = let l = i.answers.0 in let m = j.answers.0 in record { answers = (omega (arith, l, m), chunks.ChunkBinds.chunk i.answers.1 (sym w ∙ y) j.answers.1.0 j.answers.1.1) }

pub chunk_other_fails : {s : Scope} {c : Context} {k k₁ k' : Known} {b b₁ b' : Bound} {h : Option Share} {n : Name} {o : Option ChunkSorts} {xs : List Pattern} {ys : Option (List Pattern)} {res : Result (Unit {0}) RuleFault} (e : RuleFault) → IsShare {A = Unit {0}} s c k b h (Ok tt) k₁ b₁ → o ≡ chunk_takes s k₁ n → o ≡ None → IsTruth {A = Unit {0}} s c k₁ h n xs ys (Err e) k' → res ≡ Err e → IsChunk s c k b h n xs ys res k' b'
chunk_other_fails e i w y j q = record { answers = failing _ _ _ e (λ r f. chunks.ChunkFails.truth i.answers.1 (sym w ∙ y) f) j.answers q }

pub chunk_other_passes : {s : Scope} {c : Context} {k k₁ k' : Known} {b b₁ : Bound} {h : Option Share} {n : Name} {o : Option ChunkSorts} {xs : List Pattern} {ys : Option (List Pattern)} → IsShare {A = Unit {0}} s c k b h (Ok tt) k₁ b₁ → o ≡ chunk_takes s k₁ n → o ≡ None → IsTruth {A = Unit {0}} s c k₁ h n xs ys (Ok tt) k' → IsChunk {A = Unit {0}} s c k b h n xs ys (Ok tt) k' b₁
chunk_other_passes i w y j = let l = i.answers.0 in let m = j.answers.0 in record { answers = (omega (arith, l, m), chunks.ChunkBinds.truth i.answers.1 (sym w ∙ y) j.answers.1) }
