-- How code that puts parts of statements together does what the lowerings of the statements say.
use Rattle.std.proofs.Common.{◌≡◌, ℕ, ◌+◌, [], ◌++◌, length, Option, refl, ap, ◌∙◌, subst, sym, Result, Ok, Err, append_assoc, length-append}
use Rattle.std.proofs.lemmas.List.{append-nil}
use Rattle.vf_base.specs.declared.place.Place.{Place}
use Rattle.vf_base.specs.declared.memory.Memory.{Memory}
use Rattle.vf_syntax.specs.declared.contract.Invariant.{Invariant}
use Rattle.vf_steps.specs.Shown.{nodes_of}
use Rattle.vf_lower.specs.declared.draft.Draft.{Draft}
use Rattle.vf_lower.specs.Lowering.{Lowering, gives, ◌⨾◌}
use Rattle.vf_lower.specs.Branches.{Test}
use Rattle.vf_lower.specs.Statements.{looped, when}
use Rattle.vf_lower.specs.Did.{Did, Does, drawn}
use Rattle.vf_lower.proofs.Parts.{did_give, did_then}
use Rattle.vf_bodies.specs.Joining.{around, skipped, turn}

-- nothing was done, and what is left is the same
pub did_gives : {A : Type 0} (d : Draft) (a b : A) → b ≡ a → Did (gives a) d d b
did_gives d a b h = subst (λ x. Did (gives a) d d x) (sym h) (did_give d a)

-- a part was done, and something else is left
pub does_leave : {B : Type 0} (m : Lowering (Unit {0})) (b : B) (d e : Draft) (r : Result (Unit {0}) Memory) → Does (λ u. tt) m d e r → Does (λ u. b) (m ⨾ (λ u. gives b)) d e r
does_leave m b d e (Ok u) h = did_then m (λ v. gives b) d e e tt b h (did_give e b)
does_leave m b d e (Err x) h = tt

-- a part was done, whatever is left behind it
pub did_inner : {A B : Type 0} (m : Lowering A) (b : B) (d e : Draft) (a : B) → Did (m ⨾ (λ x. gives b)) d e a → Did m d e (m (length d.locals)).left
unfolding ◌⨾◌ gives
did_inner m b d e a h = record {
  left = refl;
  nodes = h.nodes ∙ ap (λ ns. drawn d ++ ns) (append-nil (m (length d.locals)).nodes);
  locals = h.locals ∙ ap (λ ls. d.locals ++ ls) (append-nil (m (length d.locals)).locals);
}

-- what is left behind it
pub left_behind : {A B : Type 0} (m : Lowering A) (b : B) (d e : Draft) (a : B) → Did (m ⨾ (λ x. gives b)) d e a → a ≡ b
unfolding ◌⨾◌ gives
left_behind m b d e a h = h.left

-- a part was done aside, and then put behind a test
pub did_when : {A : Type 0} (p : Place) (x : Test) (m : Lowering A) (d d2 e f after : Draft) (a : A)
    → e.locals ≡ d.locals → e.nodes.items ≡ [] → d2.nodes ≡ d.nodes → Did m e f a
    → drawn after ≡ drawn d2 ++ skipped p x (drawn f) → after.locals ≡ f.locals
    → Did (when p x m) d after tt
unfolding when
did_when p x m d d2 e f after a same none kept first whole last =
    let n : ℕ = length d.locals in
    let one : m (length e.locals) ≡ m n = ap m (ap length same) in
    let ones : drawn f ≡ (m n).nodes = first.nodes ∙ (λ i. nodes_of (none i) ++ (one i).nodes) in
    record {
      left = refl;
      nodes = whole ∙ (λ i. nodes_of (kept i).items ++ skipped p x (ones i));
      locals = last ∙ first.locals ∙ (λ i. same i ++ (one i).locals);
    }

-- a test and a body were done aside, and then put into a loop
pub did_looped : {B : Type 0} (p : Place) (v : Option Invariant) (q : Place) (m : Lowering Test) (k : Lowering B) (d d2 e f f2 g h after : Draft) (x : Test) (b : B)
    → e.locals ≡ d.locals → e.nodes.items ≡ [] → d2.nodes ≡ d.nodes → Did m e f x
    → g.locals ≡ f.locals → g.nodes.items ≡ [] → f2.nodes ≡ f.nodes → Did k g h b
    → drawn after ≡ drawn d2 ++ around p v q (turn p x (drawn f2) (drawn h)) → after.locals ≡ h.locals
    → Did (looped p v q m k) d after tt
unfolding looped
did_looped p v q m k d d2 e f f2 g h after x b same none kept first same2 none2 kept2 second whole last =
    let n : ℕ = length d.locals in
    let one : m (length e.locals) ≡ m n = ap m (ap length same) in
    let test : x ≡ (m n).left = first.left ∙ (λ i. (one i).left) in
    let ones : drawn f2 ≡ (m n).nodes = ap (λ w. nodes_of w.items) kept2 ∙ first.nodes ∙ (λ i. nodes_of (none i) ++ (one i).nodes) in
    let taken1 : f.locals ≡ d.locals ++ (m n).locals = first.locals ∙ (λ i. same i ++ (one i).locals) in
    let count : length g.locals ≡ n + length (m n).locals = ap length (same2 ∙ taken1) ∙ length-append d.locals (m n).locals in
    let two : k (length g.locals) ≡ k (n + length (m n).locals) = ap k count in
    let twos : drawn h ≡ (k (n + length (m n).locals)).nodes = second.nodes ∙ (λ i. nodes_of (none2 i) ++ (two i).nodes) in
    record {
      left = refl;
      nodes = whole ∙ (λ i. nodes_of (kept i).items ++ around p v q (turn p (test i) (ones i) (twos i)));
      locals = last ∙ second.locals ∙ (λ i. (same2 ∙ taken1) i ++ (two i).locals) ∙ append_assoc d.locals (m n).locals (k (n + length (m n).locals)).locals;
    }
