-- Passes of the exchange that remember whether they gave anything.
use Rattle.std.proofs.Common.{◌≡◌, ℕ, ◌+◌, ◌<◌, ◌≤◌, Bool, true, false, IsTrue, IsFalse, refl, ap, subst, arith}
use Rattle.vf_arith.specs.Paths.{HasNegativeCycle}
use Rattle.vf_ground.specs.Held.{Agree}
use Rattle.vf_refuting.specs.declared.run.Run.{Run}

pub weight_most : (given : Bool) (r q : Run) → (IsFalse given → r ≡ q) → (IsTrue given → r.classes.weight + r.bounds.weight < q.classes.weight + q.bounds.weight) → r.classes.weight + r.bounds.weight ≤ q.classes.weight + q.bounds.weight
weight_most true r q same falls = let f = falls refl in omega arith
weight_most false r q same falls = let e = ap (λ (p : Run). p.classes.weight + p.bounds.weight) (same refl) in omega arith

pub weight_same : (r q : Run) → r ≡ q → r.classes.weight + r.bounds.weight ≡ q.classes.weight + q.bounds.weight
weight_same r q e = ap (λ (p : Run). p.classes.weight + p.bounds.weight) e

pub fine_same : (r q : Run) → r ≡ q → (HasNegativeCycle q.bounds.edges → ⊥) → HasNegativeCycle r.bounds.edges → ⊥
fine_same r q same fine h = fine (subst (λ (p : Run). HasNegativeCycle p.bounds.edges) same h)

pub agree_same : (r q : Run) (x y : ℕ) → r ≡ q → Agree r.classes.nodes r.classes.merged r.bounds.edges x y → Agree q.classes.nodes q.classes.merged q.bounds.edges x y
agree_same r q x y same h = subst (λ (p : Run). Agree p.classes.nodes p.classes.merged p.bounds.edges x y) same h
