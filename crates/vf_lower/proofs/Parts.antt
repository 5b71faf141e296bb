-- How code that does one part after another does what the lowerings of the parts say.
use Rattle.std.proofs.Common.{◌≡◌, ℕ, ◌+◌, List, [], ◌∷◌, ◌++◌, length, refl, sym, ap, ap₂, ◌∙◌, subst, Result, Ok, Err, IfOk, append_assoc, length-append}
use Rattle.std.proofs.lemmas.List.{append-nil, map-append, length-map}
use Rattle.vf_base.specs.declared.place.Place.{Place}
use Rattle.vf_base.specs.declared.memory.Memory.{Memory}
use Rattle.vf_declared.specs.declared.ctype.CType.{CType}
use Rattle.vf_steps.specs.declared.action.Node.{Node}
use Rattle.vf_steps.specs.Shown.{node_of, nodes_of}
use Rattle.vf_steps.specs.Tree.{ActionTree, NodeTree}
use Rattle.vf_steps.specs.Tree as steps
use Rattle.vf_lower.specs.declared.draft.Draft.{Draft}
use Rattle.vf_lower.specs.Lowering.{Lowering, gives, ◌⨾◌, does, taken}
use Rattle.vf_lower.specs.Branches.{Test, if_step, node, either}
use Rattle.vf_lower.specs.Did.{Did, Does, drawn}

-- nothing was done
pub did_give : {A : Type 0} (d : Draft) (a : A) → Did (gives a) d d a
unfolding gives
did_give d a = record { left = refl; nodes = sym (append-nil (drawn d)); locals = sym (append-nil d.locals) }

-- nothing was done where a lowering says that
pub did_given : {A : Type 0} (m : Lowering A) (d : Draft) (a : A) → m ≡ gives a → Did m d d a
did_given m d a e = subst (λ x. Did x d d a) (sym e) (did_give d a)

-- the same of what answers with something that stands for it, unless memory ran out
pub does_give : {A B : Type 0} (f : B → A) (m : Lowering A) (d : Draft) (a : A) (r : Result B Memory) → m ≡ gives a → IfOk r (λ b. f b ≡ a) → Does f m d d r
does_give f m d a (Ok b) e h = subst (λ x. Did m d d x) (sym h) (did_given m d a e)
does_give f m d a (Err x) e h = tt

-- the same lowering was done
pub did_same : {A : Type 0} (m k : Lowering A) (d e : Draft) (a : A) → m ≡ k → Did k d e a → Did m d e a
did_same m k d e a same h = subst (λ x. Did x d e a) (sym same) h

-- one node was added
pub did_add : (p : Place) (a : ActionTree) (d e : Draft) → drawn e ≡ drawn d ++ node p a ∷ [] → e.locals ≡ d.locals → Did (does p a) d e tt
unfolding does
did_add p a d e h k = record { left = refl; nodes = h; locals = k ∙ sym (append-nil d.locals) }

-- one local was taken
pub did_take : (t : CType) (d e : Draft) (n : ℕ) → n ≡ length d.locals → drawn e ≡ drawn d → e.locals ≡ d.locals ++ t ∷ [] → Did (taken t) d e n
unfolding taken
did_take t d e n same h k = record { left = same; nodes = h ∙ sym (append-nil (drawn d)); locals = k }

-- one part was done, and then another
pub did_then : {A B : Type 0} (m : Lowering A) (f : A → Lowering B) (d e g : Draft) (a : A) (b : B) → Did m d e a → Did (f a) e g b → Did (m ⨾ f) d g b
unfolding ◌⨾◌
did_then m f d e g a b h k =
    let count : length e.locals ≡ length d.locals + length (m (length d.locals)).locals = ap length h.locals ∙ length-append d.locals (m (length d.locals)).locals in
    let first = m (length d.locals) in
    let second = f first.left (length d.locals + length first.locals) in
    let same : f a (length e.locals) ≡ second = λ i. f (h.left i) (count i) in
    record {
      left = k.left ∙ (λ i. (same i).left);
      nodes = k.nodes ∙ (λ i. h.nodes i ++ (same i).nodes) ∙ append_assoc (drawn d) first.nodes second.nodes;
      locals = k.locals ∙ (λ i. h.locals i ++ (same i).locals) ∙ append_assoc d.locals first.locals second.locals;
    }

-- the same where the second part answers with something that stands for what is left, unless memory ran out
pub does_then : {A B C : Type 0} (g : C → B) (m : Lowering A) (f : A → Lowering B) (d e h : Draft) (a : A) (r : Result C Memory) → Did m d e a → Does g (f a) e h r → Does g (m ⨾ f) d h r
does_then g m f d e h a (Ok b) one two = did_then m f d e h a (g b) one two
does_then g m f d e h a (Err x) one two = tt

-- the same lowering was done, by what answers with something that stands for what is left
pub does_same : {A B : Type 0} (g : B → A) (m k : Lowering A) (d e : Draft) (r : Result B Memory) → m ≡ k → Does g k d e r → Does g m d e r
does_same g m k d e r same h = subst (λ x. Does g x d e r) (sym same) h

-- two parts were done aside, and then joined behind a test
pub did_either : {A B : Type 0} (p : Place) (x : Test) (m : Lowering A) (k : Lowering B) (d d2 e f f2 g h after : Draft) (a : A) (b : B)
    → e.locals ≡ d.locals → e.nodes.items ≡ [] → d2.nodes ≡ d.nodes → Did m e f a
    → g.locals ≡ f.locals → g.nodes.items ≡ [] → f2.nodes ≡ f.nodes → Did k g h b
    → drawn after ≡ drawn d2 ++ (node p (if_step x (length (drawn f2) + 1)) ∷ drawn f2 ++ node p (steps.jump (length (drawn h))) ∷ drawn h) → after.locals ≡ h.locals
    → Did (either p x m k) d after tt
unfolding either
did_either p x m k d d2 e f f2 g h after a b same none kept first same2 none2 kept2 second whole last =
    let n : ℕ = length d.locals in
    let start : length e.locals ≡ n = ap length same in
    let one : m (length e.locals) ≡ m n = ap m start in
    let ones : drawn f2 ≡ (m n).nodes = ap (λ v. nodes_of v.items) kept2 ∙ first.nodes ∙ (λ i. nodes_of (none i) ++ (one i).nodes) in
    let taken1 : f.locals ≡ d.locals ++ (m n).locals = first.locals ∙ (λ i. same i ++ (one i).locals) in
    let count : length g.locals ≡ n + length (m n).locals = ap length (same2 ∙ taken1) ∙ length-append d.locals (m n).locals in
    let two : k (length g.locals) ≡ k (n + length (m n).locals) = ap k count in
    let twos : drawn h ≡ (k (n + length (m n).locals)).nodes = second.nodes ∙ (λ i. nodes_of (none2 i) ++ (two i).nodes) in
    record {
      left = refl;
      nodes = whole ∙ (λ i. nodes_of (kept i).items ++ (node p (if_step x (length (ones i) + 1)) ∷ ones i ++ node p (steps.jump (length (twos i))) ∷ twos i));
      locals = last ∙ second.locals ∙ (λ i. (same2 ∙ taken1) i ++ (two i).locals) ∙ append_assoc d.locals (m n).locals (k (n + length (m n).locals)).locals;
    }

-- one node more
pub nodes_more : (ms ns : List Node) (x : Node) → ns ≡ ms ++ x ∷ [] → nodes_of ns ≡ nodes_of ms ++ node_of x ∷ []
nodes_more ms ns x e = ap nodes_of e ∙ map-append node_of ms (x ∷ [])

-- nodes behind one another, as they are added one by one
pub joined_nodes : (d f s w x y z : List NodeTree) (i j : NodeTree) → w ≡ d ++ i ∷ [] → x ≡ f ++ j ∷ [] → y ≡ w ++ x → z ≡ y ++ s → z ≡ d ++ (i ∷ f ++ j ∷ s)
joined_nodes d f s w x y z i j hw hx hy hz =
    hz ∙ ap (λ l. l ++ s) (hy ∙ ap₂ (λ a b. a ++ b) hw hx)
    ∙ append_assoc (d ++ i ∷ []) (f ++ j ∷ []) s ∙ append_assoc d (i ∷ []) ((f ++ j ∷ []) ++ s) ∙ ap (λ l. d ++ (i ∷ l)) (append_assoc f (j ∷ []) s)

-- the node that a test becomes in front of so many nodes and one more
pub tested_node : (p : Place) (x : Test) (a : ActionTree) (ns : List Node) (n : ℕ) → a ≡ if_step x n → n ≡ length ns + 1 → node p a ≡ node p (if_step x (length (nodes_of ns) + 1))
tested_node p x a ns n h k = ap (node p) (h ∙ ap (if_step x) (k ∙ ap (λ m. m + 1) (sym (length-map ns node_of))))
