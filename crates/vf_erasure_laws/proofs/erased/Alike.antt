-- Two lowerings whose nodes come to the same ones without annotations.
use Rattle.std.proofs.Common.{◌≡◌, ℕ, suc, ◌+◌, ◌-◌, Bool, true, false, if◌then◌else◌, List, [], ◌∷◌, ◌++◌, length, take, drop, Option, Some, None, refl, sym, ap, ap₂, subst, ◌∙◌, append_assoc, length-append, arith}
use Rattle.std.proofs.Math.Seq.{take-append_seam, drop-append_seam}
use Rattle.std.proofs.lemmas.List.{append-nil}
use Rattle.vf_base.specs.declared.place.Place.{Place}
use Rattle.vf_declared.specs.declared.ctype.CType.{CType}
use Rattle.vf_syntax.specs.declared.contract.Invariant.{Invariant}
use Rattle.vf_steps.specs.Tree.{ActionTree, NodeTree, ValueTree}
use Rattle.vf_steps.specs.Tree as steps
use Rattle.vf_lower.specs.Lowering.{Lowering, gives, ◌⨾◌, does, taken}
use Rattle.vf_lower.specs.Branches.{Test, either, if_step, node, selected}
use Rattle.vf_lower.specs.Statements.{looped, when}
use Rattle.vf_functions.proofs.Counting.{count_behind, count_erased}
use Rattle.vf_functions.specs.Erased.{count_kept, erased, erased_behind, erased_node, is_kept, kept_action, kept_node, shortened, skipped, gone_back}

-- nodes come to others without annotations, wherever they stand
pub record ComesTo (xs zs : List NodeTree) : Type 0 where
  pub at : (before after : List NodeTree) → erased_behind before (xs ++ after) ≡ zs ++ erased_behind (before ++ xs) after

-- no nodes
pub none_comes : ComesTo [] []
none_comes = record { at = λ before after. ap (λ b. erased_behind b after) (sym (append-nil before)) }

-- some nodes, and others behind them
pub behind_comes : {xs zs ys us : List NodeTree} → ComesTo xs zs → ComesTo ys us → ComesTo (xs ++ ys) (zs ++ us)
behind_comes {xs} {zs} {ys} {us} h k = record {
  at = λ before after.
      ap (erased_behind before) (append_assoc xs ys after) ∙ h.at before (ys ++ after) ∙ ap (λ l. zs ++ l) (k.at (before ++ xs) after)
      ∙ sym (append_assoc zs us (erased_behind ((before ++ xs) ++ ys) after)) ∙ ap (λ b. (zs ++ us) ++ erased_behind b after) (append_assoc before xs ys);
}

-- what one node comes to
pub node_comes : (p : Place) (a b : ActionTree) → ((before behind : List NodeTree) → kept_action before a behind ≡ Some b) → ComesTo (node p a ∷ []) (node p b ∷ [])
node_comes p a b h = record { at = λ before after. ap (λ o. kept_node (node p a) o ++ erased_behind (before ++ node p a ∷ []) after) (h before after) }

-- a node that is left out
pub gone_comes : (p : Place) (a : ActionTree) → is_kept a ≡ false → ComesTo (node p a ∷ []) []
gone_comes p a h = record { at = λ before after. ap (λ b. kept_node (node p a) (if b then Some (shortened before a after) else None) ++ erased_behind (before ++ node p a ∷ []) after) h }

pub count_comes : {xs zs : List NodeTree} → ComesTo xs zs → count_kept xs ≡ length zs
count_comes {xs} {zs} h = sym (count_erased [] xs) ∙ ap (λ l. length (erased_behind [] l)) (sym (append-nil xs)) ∙ ap length (h.at [] [] ∙ append-nil zs)

-- the whole of some nodes
pub whole_comes : {xs zs : List NodeTree} → ComesTo xs zs → erased xs ≡ zs
whole_comes {xs} {zs} h = ap erased (sym (append-nil xs)) ∙ h.at [] [] ∙ append-nil zs

-- both come to the same nodes
pub record Together (xs ys : List NodeTree) : Type 0 where
  pub nodes : List NodeTree
  pub first : ComesTo xs nodes
  pub second : ComesTo ys nodes

pub together_behind : {xs ys us vs : List NodeTree} → Together xs ys → Together us vs → Together (xs ++ us) (ys ++ vs)
together_behind h k = record { nodes = h.nodes ++ k.nodes; first = behind_comes h.first k.first; second = behind_comes h.second k.second }

pub together_none : Together [] []
together_none = record { nodes = []; first = none_comes; second = none_comes }

pub together_node : (p : Place) (a b : ActionTree) → ((before behind : List NodeTree) → kept_action before a behind ≡ Some b) → Together (node p a ∷ []) (node p a ∷ [])
together_node p a b h = record { nodes = node p b ∷ []; first = node_comes p a b h; second = node_comes p a b h }

-- over nodes that come to as many the same is skipped
skip_over : (xs after : List NodeTree) → skipped (length xs) (xs ++ after) ≡ count_kept xs
skip_over xs after = ap count_kept (take-append_seam xs after)

pub skip_same : {xs zs : List NodeTree} (after : List NodeTree) → ComesTo xs zs → skipped (length xs) (xs ++ after) ≡ length zs
skip_same {xs} after h = skip_over xs after ∙ count_comes h

-- what is left of one thing stands to what is left of another as a relation says, with the same locals, and the nodes of both come to the same ones
pub record Alike {A B : Type 0} (R : A → B → Type 0) (m : Lowering A) (k : Lowering B) : Type 0 where
  pub left : (n : ℕ) → R (m n).left (k n).left
  pub locals : (n : ℕ) → (m n).locals ≡ (k n).locals
  pub nodes : (n : ℕ) → Together (m n).nodes (k n).nodes

-- the same is left
abbrev pub Is : {A : Type 0} → A → A → Type 0
Is a b = a ≡ b

pub alike_gives : {A B : Type 0} {R : A → B → Type 0} (a : A) (b : B) → R a b → Alike R (gives a) (gives b)
unfolding gives
alike_gives a b h = record { left = λ n. h; locals = λ n. refl; nodes = λ n. together_none }

pub alike_then : {A B C D : Type 0} {R : A → B → Type 0} {S : C → D → Type 0} {m : Lowering A} {k : Lowering B} {f : A → Lowering C} {g : B → Lowering D}
    → Alike R m k → ((a : A) (b : B) → R a b → Alike S (f a) (g b)) → Alike S (m ⨾ f) (k ⨾ g)
unfolding ◌⨾◌
alike_then {S = S} {m} {k} {f} {g} h t = record {
  left = λ n. subst (λ i. S (f (m n).left (n + length (m n).locals)).left (g (k n).left i).left) (count n) ((rest n).left (n + length (m n).locals));
  locals = λ n. ap₂ (λ u v. u ++ v) (h.locals n) ((rest n).locals (n + length (m n).locals) ∙ ap (λ i. (g (k n).left i).locals) (count n));
  nodes = λ n. together_behind (h.nodes n) (subst (λ i. Together (f (m n).left (n + length (m n).locals)).nodes (g (k n).left i).nodes) (count n) ((rest n).nodes (n + length (m n).locals)));
}
  where
    count : (n : ℕ) → n + length (m n).locals ≡ n + length (k n).locals
    count n = ap (λ l. n + length l) (h.locals n)

    rest : (n : ℕ) → Alike S (f (m n).left) (g (k n).left)
    rest n = t (m n).left (k n).left (h.left n)

-- the same where the same is left
pub alike_on : {A C D : Type 0} {S : C → D → Type 0} {m k : Lowering A} {f : A → Lowering C} {g : A → Lowering D}
    → Alike Is m k → ((a : A) → Alike S (f a) (g a)) → Alike S (m ⨾ f) (k ⨾ g)
alike_on {A} {C} {D} {S} {m} {k} {f} {g} h t = alike_then h (λ a b e. subst (λ x. Alike S (f a) (g x)) e (t a))

-- a step that is kept as it is
pub alike_does : (p : Place) (a : ActionTree) → ((before behind : List NodeTree) → kept_action before a behind ≡ Some a) → Alike Is (does p a) (does p a)
unfolding does
alike_does p a h = record { left = λ n. refl; locals = λ n. refl; nodes = λ n. together_node p a a h }

pub alike_taken : (t : CType) → Alike Is (taken t) (taken t)
unfolding taken
alike_taken t = record { left = λ n. refl; locals = λ n. refl; nodes = λ n. together_none }

-- the test that a part is done behind, where it skips as many nodes as come out of the part, or of one more
test_comes : (p : Place) (x : Test) (n m : ℕ) (xs after before : List NodeTree) → skipped n (xs ++ after) ≡ m → kept_action before (if_step x n) (xs ++ after) ≡ Some (if_step x m)
test_comes p x n m xs after before h = by_test x.is_opposite
  where
    by_test : (b : Bool) → kept_action before (if b then steps.if_ x.comparison x.first x.second n 0 else steps.if_ x.comparison x.first x.second 0 n) (xs ++ after) ≡ Some (if b then steps.if_ x.comparison x.first x.second m 0 else steps.if_ x.comparison x.first x.second 0 m)
    by_test true = ap (λ k. Some (steps.if_ x.comparison x.first x.second k 0)) h
    by_test false = ap (λ k. Some (steps.if_ x.comparison x.first x.second 0 k)) h

-- a node that skips as much as a part or more, and the part behind it
pub headed : (p : Place) (a b : ActionTree) (xs zs : List NodeTree) → ((before after : List NodeTree) → kept_action before a (xs ++ after) ≡ Some b) → ComesTo xs zs → ComesTo (node p a ∷ xs) (node p b ∷ zs)
headed p a b xs zs h k = record {
  at = λ before after.
      ap (λ o. kept_node (node p a) o ++ erased_behind (before ++ node p a ∷ []) (xs ++ after)) (h before after)
      ∙ ap (λ l. node p b ∷ l) (k.at (before ++ node p a ∷ []) after ∙ ap (λ l. zs ++ erased_behind l after) (append_assoc before (node p a ∷ []) xs));
}

-- where a test holds a part is done
when_comes : (p : Place) (x : Test) (xs zs : List NodeTree) → ComesTo xs zs → ComesTo (node p (if_step x (length xs)) ∷ xs) (node p (if_step x (length zs)) ∷ zs)
when_comes p x xs zs h = headed p (if_step x (length xs)) (if_step x (length zs)) xs zs (λ before after. test_comes p x (length xs) (length zs) xs after before (skip_same after h)) h

pub alike_when : {A B : Type 0} {R : A → B → Type 0} {m : Lowering A} {k : Lowering B} (p : Place) (x : Test) → Alike R m k → Alike Is (when p x m) (when p x k)
unfolding when
alike_when {m = m} {k} p x h = record {
  left = λ n. refl;
  locals = h.locals;
  nodes = λ n. let t = h.nodes n in record { nodes = node p (if_step x (length t.nodes)) ∷ t.nodes; first = when_comes p x _ t.nodes t.first; second = when_comes p x _ t.nodes t.second };
}

-- the jump over the second of two parts
jump_comes : (p : Place) (ys us : List NodeTree) → ComesTo ys us → ComesTo (node p (steps.jump (length ys)) ∷ ys) (node p (steps.jump (length us)) ∷ us)
jump_comes p ys us h = headed p (steps.jump (length ys)) (steps.jump (length us)) ys us (λ before after. ap (λ n. Some (steps.jump n)) (skip_same after h)) h

-- the first nodes and one more
take_one : (xs : List NodeTree) (n : NodeTree) (rest : List NodeTree) → take (length xs + 1) (xs ++ n ∷ rest) ≡ xs ++ n ∷ []
take_one xs n rest = ap (λ k. take k (xs ++ n ∷ rest)) (sym (length-append xs (n ∷ []))) ∙ ap (take (length (xs ++ n ∷ []))) (sym (append_assoc xs (n ∷ []) rest)) ∙ take-append_seam (xs ++ n ∷ []) rest

-- one more node is skipped
skip_more : (xs ys after : List NodeTree) (n : NodeTree) → is_kept n.action ≡ true → skipped (length xs + 1) ((xs ++ n ∷ ys) ++ after) ≡ count_kept xs + 1
skip_more xs ys after n h =
    ap count_kept (ap (take (length xs + 1)) (append_assoc xs (n ∷ ys) after) ∙ take_one xs n (ys ++ after))
    ∙ count_behind xs (n ∷ []) ∙ ap (λ b. count_kept xs + (if b then 1 else 0)) h

-- two parts of which one is done
either_comes : (p : Place) (x : Test) (xs zs ys us : List NodeTree) → ComesTo xs zs → ComesTo ys us
    → ComesTo (node p (if_step x (length xs + 1)) ∷ xs ++ node p (steps.jump (length ys)) ∷ ys) (node p (if_step x (length zs + 1)) ∷ zs ++ node p (steps.jump (length us)) ∷ us)
either_comes p x xs zs ys us h k =
    let second : ComesTo (node p (steps.jump (length ys)) ∷ ys) (node p (steps.jump (length us)) ∷ us) = jump_comes p ys us k in
    headed p (if_step x (length xs + 1)) (if_step x (length zs + 1)) (xs ++ node p (steps.jump (length ys)) ∷ ys) (zs ++ node p (steps.jump (length us)) ∷ us)
    (λ before after. test_comes p x (length xs + 1) (length zs + 1) (xs ++ node p (steps.jump (length ys)) ∷ ys) after before
    (skip_more xs ys after (node p (steps.jump (length ys))) refl ∙ ap (λ n. n + 1) (count_comes h)))
    (behind_comes h second)

pub alike_either : {A B C D : Type 0} {R : A → B → Type 0} {S : C → D → Type 0} {m : Lowering A} {k : Lowering B} {f : Lowering C} {g : Lowering D} (p : Place) (x : Test)
    → Alike R m k → Alike S f g → Alike Is (either p x m f) (either p x k g)
unfolding either
alike_either {m = m} {k} {f} {g} p x h t = record {
  left = λ n. refl;
  locals = λ n. ap₂ (λ u v. u ++ v) (h.locals n) (t.locals (n + length (m n).locals) ∙ ap (λ i. (g i).locals) (count n));
  nodes = λ n.
      let one = h.nodes n in
      let two = two_at n in
      record {
        nodes = node p (if_step x (length one.nodes + 1)) ∷ one.nodes ++ node p (steps.jump (length two.nodes)) ∷ two.nodes;
        first = either_comes p x _ one.nodes _ two.nodes one.first two.first;
        second = either_comes p x _ one.nodes _ two.nodes one.second two.second;
      };
}
  where
    count : (n : ℕ) → n + length (m n).locals ≡ n + length (k n).locals
    count n = ap (λ l. n + length l) (h.locals n)

    two_at : (n : ℕ) → Together (f (n + length (m n).locals)).nodes (g (n + length (k n).locals)).nodes
    two_at n = subst (λ i. Together (f (n + length (m n).locals)).nodes (g i).nodes) (count n) (t.nodes (n + length (m n).locals))

-- one of two values is put into a local
pub alike_selected : (s : Place) (x : Test) (t : CType) (v w : ValueTree) (p : Place) → Alike Is (selected s x t v w p) (selected s x t v w p)
alike_selected s x t v w p = alike_on (alike_taken t) (λ k. alike_on (alike_either s x (alike_does s (steps.set k v) (λ b h. refl)) (alike_does s (steps.set k w) (λ b h. refl))) (λ u. alike_gives _ _ refl))

-- the nodes of a loop: its head, one turn, the way back and the end
abbrev turned : Place → Test → List NodeTree → List NodeTree → List NodeTree
turned p x xs ys = xs ++ node p (if_step x (length ys + 1)) ∷ ys

-- the way back over a turn
back_over : (before inside zs : List NodeTree) → count_kept inside ≡ length zs → gone_back (length inside) (before ++ inside) ≡ length zs
back_over before inside zs h =
    let far : length (before ++ inside) - length inside ≡ length before = ap (λ n. n - length inside) (length-append before inside) ∙ omega arith in
    ap (λ n. count_kept (drop n (before ++ inside))) far ∙ ap count_kept (drop-append_seam before inside) ∙ h

-- how many nodes of a turn are kept
turn_count : (p : Place) (x : Test) (n m : ℕ) (xs zs ys us : List NodeTree) → count_kept xs ≡ length zs → count_kept ys ≡ length us → count_kept (xs ++ node p (if_step x n) ∷ ys) ≡ length (zs ++ node p (if_step x m) ∷ us)
turn_count p x n m xs zs ys us h k =
    count_behind xs (node p (if_step x n) ∷ ys) ∙ ap₂ (λ a b. a + b) h (by_test x.is_opposite ∙ ap suc k) ∙ sym (length-append zs (node p (if_step x m) ∷ us))
  where
    by_test : (b : Bool) → (if is_kept (if b then steps.if_ x.comparison x.first x.second n 0 else steps.if_ x.comparison x.first x.second 0 n) then suc (count_kept ys) else count_kept ys) ≡ suc (count_kept ys)
    by_test true = refl
    by_test false = refl

-- the nodes of a loop, by what comes of its head, its test, the way back and its end
loop_shape : (head test tested back backed exit : NodeTree) (xs zs ys us : List NodeTree) → ComesTo xs zs → ComesTo ys us
    → ((before after : List NodeTree) → erased_node before head after ≡ [])
    → ((before after : List NodeTree) → erased_node before test (ys ++ back ∷ exit ∷ after) ≡ tested ∷ [])
    → ((before after : List NodeTree) → erased_node (before ++ (xs ++ test ∷ ys)) back after ≡ backed ∷ [])
    → ((before after : List NodeTree) → erased_node before exit after ≡ [])
    → ComesTo (head ∷ (xs ++ test ∷ ys) ++ back ∷ exit ∷ []) ((zs ++ tested ∷ us) ++ backed ∷ [])
loop_shape head test tested back backed exit xs zs ys us h k first second third fourth = record { at = λ before after. whole before after }
  where
    -- what stands before the way back
    done : (before : List NodeTree) → (((before ++ head ∷ []) ++ xs) ++ test ∷ []) ++ ys ≡ (before ++ head ∷ []) ++ (xs ++ test ∷ ys)
    done before = append_assoc ((before ++ head ∷ []) ++ xs) (test ∷ []) ys ∙ append_assoc (before ++ head ∷ []) xs (test ∷ ys)

    all : (before : List NodeTree) → (((before ++ head ∷ []) ++ (xs ++ test ∷ ys)) ++ back ∷ []) ++ exit ∷ [] ≡ before ++ (head ∷ (xs ++ test ∷ ys) ++ back ∷ exit ∷ [])
    all before =
        append_assoc ((before ++ head ∷ []) ++ (xs ++ test ∷ ys)) (back ∷ []) (exit ∷ [])
        ∙ append_assoc (before ++ head ∷ []) (xs ++ test ∷ ys) (back ∷ exit ∷ [])
        ∙ append_assoc before (head ∷ []) ((xs ++ test ∷ ys) ++ back ∷ exit ∷ [])

    -- the way back, and the end
    closing : (before after : List NodeTree) → erased_behind ((((before ++ head ∷ []) ++ xs) ++ test ∷ []) ++ ys) (back ∷ exit ∷ after) ≡ backed ∷ erased_behind (before ++ (head ∷ (xs ++ test ∷ ys) ++ back ∷ exit ∷ [])) after
    closing before after =
        ap (λ b. erased_behind b (back ∷ exit ∷ after)) (done before)
        ∙ ap (λ l. l ++ erased_behind (((before ++ head ∷ []) ++ (xs ++ test ∷ ys)) ++ back ∷ []) (exit ∷ after)) (third (before ++ head ∷ []) (exit ∷ after))
        ∙ ap (λ l. backed ∷ (l ++ erased_behind ((((before ++ head ∷ []) ++ (xs ++ test ∷ ys)) ++ back ∷ []) ++ exit ∷ []) after)) (fourth (((before ++ head ∷ []) ++ (xs ++ test ∷ ys)) ++ back ∷ []) after)
        ∙ ap (λ b. backed ∷ erased_behind b after) (all before)

    -- the body
    body : (before after : List NodeTree) → erased_behind (((before ++ head ∷ []) ++ xs) ++ test ∷ []) (ys ++ back ∷ exit ∷ after) ≡ us ++ backed ∷ erased_behind (before ++ (head ∷ (xs ++ test ∷ ys) ++ back ∷ exit ∷ [])) after
    body before after = k.at (((before ++ head ∷ []) ++ xs) ++ test ∷ []) (back ∷ exit ∷ after) ∙ ap (λ l. us ++ l) (closing before after)

    behind_test : (before after : List NodeTree) → erased_behind ((before ++ head ∷ []) ++ xs) (test ∷ ys ++ back ∷ exit ∷ after) ≡ tested ∷ us ++ backed ∷ erased_behind (before ++ (head ∷ (xs ++ test ∷ ys) ++ back ∷ exit ∷ [])) after
    behind_test before after =
        ap (λ l. l ++ erased_behind (((before ++ head ∷ []) ++ xs) ++ test ∷ []) (ys ++ back ∷ exit ∷ after)) (second ((before ++ head ∷ []) ++ xs) after)
        ∙ ap (λ l. tested ∷ l) (body before after)

    inner : (before after : List NodeTree) → erased_behind (before ++ head ∷ []) (((xs ++ test ∷ ys) ++ back ∷ exit ∷ []) ++ after) ≡ ((zs ++ tested ∷ us) ++ backed ∷ []) ++ erased_behind (before ++ (head ∷ (xs ++ test ∷ ys) ++ back ∷ exit ∷ [])) after
    inner before after =
        ap (erased_behind (before ++ head ∷ [])) (append_assoc (xs ++ test ∷ ys) (back ∷ exit ∷ []) after ∙ append_assoc xs (test ∷ ys) (back ∷ exit ∷ after))
        ∙ h.at (before ++ head ∷ []) (test ∷ ys ++ back ∷ exit ∷ after)
        ∙ ap (λ l. zs ++ l) (behind_test before after)
        ∙ sym (append_assoc zs (tested ∷ us) (backed ∷ erased_behind (before ++ (head ∷ (xs ++ test ∷ ys) ++ back ∷ exit ∷ [])) after))
        ∙ sym (append_assoc (zs ++ tested ∷ us) (backed ∷ []) (erased_behind (before ++ (head ∷ (xs ++ test ∷ ys) ++ back ∷ exit ∷ [])) after))

    whole : (before after : List NodeTree) → erased_behind before ((head ∷ (xs ++ test ∷ ys) ++ back ∷ exit ∷ []) ++ after) ≡ ((zs ++ tested ∷ us) ++ backed ∷ []) ++ erased_behind (before ++ (head ∷ (xs ++ test ∷ ys) ++ back ∷ exit ∷ [])) after
    whole before after = ap (λ l. l ++ erased_behind (before ++ head ∷ []) (((xs ++ test ∷ ys) ++ back ∷ exit ∷ []) ++ after)) (first before (((xs ++ test ∷ ys) ++ back ∷ exit ∷ []) ++ after)) ∙ inner before after

loop_comes : (p : Place) (i : Option Invariant) (len : ℕ) (last : Place) (x : Test) (xs zs ys us : List NodeTree) → ComesTo xs zs → ComesTo ys us
    → ComesTo (node p (steps.loop i len last) ∷ turned p x xs ys ++ node p (steps.back (length (turned p x xs ys))) ∷ node p steps.exit ∷ []) (turned p x zs us ++ node p (steps.back (length (turned p x zs us))) ∷ [])
loop_comes p i len last x xs zs ys us h k =
    loop_shape (node p (steps.loop i len last)) (node p (if_step x (length ys + 1))) (node p (if_step x (length us + 1))) (node p (steps.back (length (turned p x xs ys)))) (node p (steps.back (length (turned p x zs us)))) (node p steps.exit) xs zs ys us h k
    (λ before after. refl)
    (λ before after. ap (kept_node (node p (if_step x (length ys + 1)))) (test_comes p x (length ys + 1) (length us + 1) ys (node p (steps.back (length (turned p x xs ys))) ∷ node p steps.exit ∷ after) before (tested before after)))
    (λ before after. ap (λ n. node p (steps.back n) ∷ []) (back_over before (turned p x xs ys) (turned p x zs us) counted))
    (λ before after. refl)
  where
    counted : count_kept (turned p x xs ys) ≡ length (turned p x zs us)
    counted = turn_count p x (length ys + 1) (length us + 1) xs zs ys us (count_comes h) (count_comes k)

    tested : (before after : List NodeTree) → skipped (length ys + 1) (ys ++ node p (steps.back (length (turned p x xs ys))) ∷ node p steps.exit ∷ after) ≡ length us + 1
    tested before after =
        ap (skipped (length ys + 1)) (sym (append_assoc ys (node p (steps.back (length (turned p x xs ys))) ∷ []) (node p steps.exit ∷ after)))
        ∙ skip_more ys [] (node p steps.exit ∷ after) (node p (steps.back (length (turned p x xs ys)))) refl ∙ ap (λ n. n + 1) (count_comes k)

-- loops whose tests and bodies come to the same nodes, whatever their invariants are
pub alike_looped : {A B : Type 0} {R : A → B → Type 0} {m k : Lowering Test} {f : Lowering A} {g : Lowering B} (p : Place) (i j : Option Invariant) (last : Place)
    → Alike Is m k → Alike R f g → Alike Is (looped p i last m f) (looped p j last k g)
unfolding looped
alike_looped {m = m} {k} {f} {g} p i j last h t = record {
  left = λ n. refl;
  locals = λ n. ap₂ (λ u v. u ++ v) (h.locals n) (t.locals (n + length (m n).locals) ∙ ap (λ q. (g q).locals) (count n));
  nodes = λ n.
      let one = h.nodes n in
      let two = two_at n in
      record {
        nodes = turned p (m n).left one.nodes two.nodes ++ node p (steps.back (length (turned p (m n).left one.nodes two.nodes))) ∷ [];
        first = loop_comes p i _ last (m n).left _ one.nodes _ two.nodes one.first two.first;
        second = subst (λ x. ComesTo (node p (steps.loop j (length (turned p x (k n).nodes (g (n + length (k n).locals)).nodes) + 1) last) ∷ turned p x (k n).nodes (g (n + length (k n).locals)).nodes ++ node p (steps.back (length (turned p x (k n).nodes (g (n + length (k n).locals)).nodes))) ∷ node p steps.exit ∷ []) (turned p (m n).left one.nodes two.nodes ++ node p (steps.back (length (turned p (m n).left one.nodes two.nodes))) ∷ []))
            (h.left n) (loop_comes p j _ last (m n).left _ one.nodes _ two.nodes one.second two.second);
      };
}
  where
    count : (n : ℕ) → n + length (m n).locals ≡ n + length (k n).locals
    count n = ap (λ l. n + length l) (h.locals n)

    two_at : (n : ℕ) → Together (f (n + length (m n).locals)).nodes (g (n + length (k n).locals)).nodes
    two_at n = subst (λ q. Together (f (n + length (m n).locals)).nodes (g q).nodes) (count n) (t.nodes (n + length (m n).locals))
