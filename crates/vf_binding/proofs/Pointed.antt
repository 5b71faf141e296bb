-- Answers for cells from the answers for their parts.
use Rattle.std.proofs.Common.{◌≡◌, ℕ, Option, Some, None, Result, Ok, Err, sym, ◌∙◌, ap, subst, arith}
use Rattle.vf_base.specs.declared.int_type.IntType.TheVariants as integers
use Rattle.vf_base.specs.declared.place.Place.{Place}
use Rattle.vf_base.specs.declared.refusal.RuleFault.{RuleFault}
use Rattle.vf_base.specs.declared.refusal.RuleFault.TheVariants as faults
use Rattle.vf_base.specs.declared.rule.Rule.TheVariants as rules
use Rattle.vf_sorts.specs.Sorts.{Sort}
use Rattle.vf_sorts.specs.Unknowns.{IsBelow, Known}
use Rattle.vf_declared.specs.declared.ctype.CType.{CType}
use Rattle.vf_declared.specs.declared.ctype.CType.TheVariants as types
use Rattle.vf_declared.specs.declared.scope.Scope.{Scope}
use Rattle.vf_syntax.specs.declared.pattern.Pattern.{Pattern}
use Rattle.vf_syntax.specs.declared.pattern.Share.{Share}
use Rattle.vf_syntax.specs.declared.written.Name.{Name}
use Rattle.vf_syntax.specs.GhostExprTree.{GhostExprTree}
use Rattle.vf_sorting.specs.declared.context.Context.{Context}
use Rattle.vf_sorting.specs.Answers.{IsSorted}
use Rattle.vf_sorting.specs.Kinds.{resolved}
use Rattle.vf_sorting.specs.Operators.{place_of}
use Rattle.vf_sorting.specs.Refusals.{refused}
use Rattle.vf_sorting.specs.Schemes.{sort_of_type}
use Rattle.vf_binding.specs.declared.bound.Bound.{Bound}
use Rattle.vf_binding.specs.Chunks as chunks
use Rattle.vf_binding.specs.Chunks.{pointed_field, told_struct}
use Rattle.vf_binding.specs.Patterns.{Binds, FailsToBind}
use Rattle.vf_binding.specs.Answers.{IsBound, IsCell, IsShare}
use Rattle.vf_binding.proofs.Steps.{failing, refusing, wanting}

-- no sort is unknown in that of a type of C
type_is : (n : ℕ) (u : CType) → IsBelow n (sort_of_type u)
type_is n types.Void = tt
type_is n (types.Integer integers.Bool) = tt
type_is n (types.Integer integers.Char) = tt
type_is n (types.Integer integers.UChar) = tt
type_is n (types.Integer integers.Short) = tt
type_is n (types.Integer integers.UShort) = tt
type_is n (types.Integer integers.Int) = tt
type_is n (types.Integer integers.UInt) = tt
type_is n (types.Integer integers.Long) = tt
type_is n (types.Integer integers.ULong) = tt
type_is n (types.Integer integers.LongLong) = tt
type_is n (types.Integer integers.ULongLong) = tt
type_is n types.VoidPointer = tt
type_is n types.IntPointer = tt
type_is n (types.StructPointer m) = tt
type_is n (types.FunctionPointer m) = tt
type_is n (types.Function m) = tt

pub type_below : (n : ℕ) (u : CType) (w : Sort) → w ≡ sort_of_type u → IsBelow n w
type_below n u w q = subst (IsBelow n) (sym q) (type_is n u)

pub cell_memory : {s : Scope} {c : Context} {k k' : Known} {b b' : Bound} {h : Option Share} {e : GhostExprTree} {f : Name} {x : Pattern} {res : Result (Unit {0}) RuleFault} → res ≡ Err faults.Memory → IsCell s c k b h e f x res k' b'
cell_memory q = record { answers = wanting _ _ q }

pub cell_share_fails : {s : Scope} {c : Context} {k k' : Known} {b b' : Bound} {h : Option Share} {d : GhostExprTree} {f : Name} {x : Pattern} {res : Result (Unit {0}) RuleFault} (e : RuleFault) → IsShare {A = Unit {0}} s c k b h (Err e) k' b' → res ≡ Err e → IsCell s c k b h d f x res k' b'
cell_share_fails e i q = record { answers = failing _ _ _ e (λ r g. chunks.CellFails.share g) i.answers q }

pub cell_pointer_fails : {s : Scope} {c : Context} {k k₁ k' : Known} {b b₁ b' : Bound} {h : Option Share} {d : GhostExprTree} {f : Name} {x : Pattern} {res : Result (Unit {0}) RuleFault} (e : RuleFault) → IsShare {A = Unit {0}} s c k b h (Ok tt) k₁ b₁ → IsSorted s c k₁ d (Err e) k' → res ≡ Err e → IsCell s c k b h d f x res k' b'
cell_pointer_fails e i j q = record { answers = failing _ _ _ e (λ r g. chunks.CellFails.pointer i.answers.1 g) j.answers q }

-- what a pointer tells
telling : {u : Sort} {o m : Option ℕ} (k : Known) (t : Sort) → u ≡ resolved k t → o ≡ told_struct u → o ≡ m → told_struct (resolved k t) ≡ m
telling k t v w y = ap told_struct (sym v) ∙ sym w ∙ y

pub cell_structless : {s : Scope} {c : Context} {k k₁ k₂ k' : Known} {b b₁ b' : Bound} {h : Option Share} {d : GhostExprTree} {t u : Sort} {o : Option ℕ} {f : Name} {x : Pattern} {p : Place} {e : RuleFault} → IsShare {A = Unit {0}} s c k b h (Ok tt) k₁ b₁ → IsSorted s c k₁ d (Ok t) k₂ → u ≡ resolved k₂ t → o ≡ told_struct u → o ≡ None → p ≡ place_of d → e ≡ faults.Refused (refused rules.Typing p) → IsCell {A = Unit {0}} s c k b h d f x (Err e) k' b'
cell_structless {k₂ = k₂} i j v w y z q = record { answers = refusing _ _ _ (q ∙ ap (λ p. faults.Refused (refused rules.Typing p)) z) (chunks.no_struct i.answers.1 j.answers.2 (telling k₂ _ v w y)) }

pub cell_fieldless : {s : Scope} {c : Context} {k k₁ k₂ k' : Known} {b b₁ b' : Bound} {h : Option Share} {d : GhostExprTree} {t u : Sort} {o : Option ℕ} {n : ℕ} {f : Name} {l : Option CType} {x : Pattern} {e : RuleFault} → IsShare {A = Unit {0}} s c k b h (Ok tt) k₁ b₁ → IsSorted s c k₁ d (Ok t) k₂ → u ≡ resolved k₂ t → o ≡ told_struct u → o ≡ Some n → l ≡ pointed_field s n f → l ≡ None → e ≡ faults.Refused (refused rules.Name f.place) → IsCell {A = Unit {0}} s c k b h d f x (Err e) k' b'
cell_fieldless {k₂ = k₂} i j v w y z m q = record { answers = refusing _ _ _ q (chunks.no_field i.answers.1 j.answers.2 (telling k₂ _ v w y) (sym z ∙ m)) }

pub cell_content_fails : {s : Scope} {c : Context} {k k₁ k₂ k' : Known} {b b₁ b' : Bound} {h : Option Share} {d : GhostExprTree} {t u w : Sort} {o : Option ℕ} {n : ℕ} {f : Name} {l : Option CType} {m : CType} {x : Pattern} {res : Result (Unit {0}) RuleFault} (e : RuleFault) → IsShare {A = Unit {0}} s c k b h (Ok tt) k₁ b₁ → IsSorted s c k₁ d (Ok t) k₂ → u ≡ resolved k₂ t → o ≡ told_struct u → o ≡ Some n → l ≡ pointed_field s n f → l ≡ Some m → w ≡ sort_of_type m → IsBound {A = Unit {0}} s c k₂ b₁ w x (Err e) k' b' → res ≡ Err e → IsCell s c k b h d f x res k' b'
cell_content_fails {s = s} {c = c} {k₂ = k₂} {b₁ = b₁} {x = x} e i j v w y z m q a r = record { answers = failing _ _ _ e (λ r g. chunks.content i.answers.1 j.answers.2 (telling k₂ _ v w y) (sym z ∙ m) (subst (λ (u : Sort). FailsToBind s c k₂ b₁ u x r) q g)) a.answers r }

pub cell_binds : {s : Scope} {c : Context} {k k₁ k₂ k' : Known} {b b₁ b' : Bound} {h : Option Share} {d : GhostExprTree} {t u w : Sort} {o : Option ℕ} {n : ℕ} {f : Name} {l : Option CType} {m : CType} {x : Pattern} → IsShare {A = Unit {0}} s c k b h (Ok tt) k₁ b₁ → IsSorted s c k₁ d (Ok t) k₂ → u ≡ resolved k₂ t → o ≡ told_struct u → o ≡ Some n → l ≡ pointed_field s n f → l ≡ Some m → w ≡ sort_of_type m → IsBound {A = Unit {0}} s c k₂ b₁ w x (Ok tt) k' b' → IsCell {A = Unit {0}} s c k b h d f x (Ok tt) k' b'
cell_binds {s = s} {c = c} {k₂ = k₂} {k' = k'} {b₁ = b₁} {b' = b'} {x = x} i j v w y z m q a =
    let l = i.answers.0 in let n = j.answers.0 in let o = a.answers.0 in
    record { answers = (omega (arith, l, n, o), chunks.cell i.answers.1 j.answers.2 (telling k₂ _ v w y) (sym z ∙ m) (subst (λ (u : Sort). Binds s c k₂ b₁ u x k' b') q a.answers.1)) }
