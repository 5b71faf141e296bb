-- Classes that grow step by step and go back.
use Rattle.std.proofs.Common.{◌≡◌, ℕ, zero, suc, ◌+◌, ◌-◌, ◌^◌, ◌<◌, ◌≤◌, ◌⊎◌, inl, inr, List, [], ◌∷◌, ◌++◌, length, take, get_or, set, slice_index, slice_get, Some, refl, sym, ◌∙◌, ap, subst, arith, All}
use Rattle.std.specs.Prelude.{Contains, slice_index_or}
use Rattle.std.proofs.lemmas.Option.{slice_get_within}
use Rattle.std.proofs.Math.Seq.{take-append_seam, get_or-append_seam}
use Rattle.std.proofs.Math.Decide.{ℕ_discrete}
use Rattle.std.proofs.lemmas.Bool.{cases_lt}
use Rattle.std.proofs.lemmas.List.{append_cancel_left, map-append, length_push, append-nil, get_or_append_left, get_or-take, get_or_default, ext_get_or, length-take-le, get_or-set_same, get_or-set_other}
use Rattle.std.proofs.lemmas.List.Elements.{All-append, All-nil}
use Rattle.vf_table.specs.declared.node.Node.{Node}
use Rattle.vf_table.specs.Tables.{PartsAreBelow}
use Rattle.vf_congruence.specs.Congruence.{Congruent, based, congruent_self, congruent_back, congruent_through, by_parts, of_parts, WereMerged}
use Rattle.vf_congruence.specs.Meeting.{AreTogether, AreTogetherOrPaired, OnlyCongruentMeet, IsSettled, AreNumbersBounded}
use Rattle.vf_congruence.proofs.Meeting.{congruent_bind, least_none, least_more, least_same, only_none}
use Rattle.vf_growing.specs.declared.journal.Step.{Step}
use Rattle.vf_growing.specs.declared.journal.Step.TheVariants.{Term, Merge}
use Rattle.vf_growing.specs.declared.journal.Moved.{Moved}
use Rattle.vf_growing.specs.declared.journal.Layer.{Layer}
use Rattle.vf_growing.specs.Steps.{terms_of, merges_of, IsTermOf, all_but_last}
use Rattle.vf_growing.specs.Histories.{IsMoved, AreMoved, OnlyMovedMeet, IsState, steps_of, IsHistory, begun, grown, joined, AreKept}

-- ---- lists

snoc_front : {X : Type 0} (xs ys : List X) (x y : X) → xs ++ x ∷ [] ≡ ys ++ y ∷ [] → xs ≡ ys
snoc_front xs ys x y e =
    let long : length xs ≡ length ys = omega (arith, ap length e, length_push xs x, length_push ys y) in
    sym (take-append_seam xs (x ∷ [])) ∙ ap (take (length xs)) e ∙ ap (λ k. take k (ys ++ y ∷ [])) long ∙ take-append_seam ys (y ∷ [])

snoc_last : {X : Type 0} (xs ys : List X) (x y : X) → xs ++ x ∷ [] ≡ ys ++ y ∷ [] → x ≡ y
snoc_last xs ys x y e = let same : x ∷ [] ≡ y ∷ [] = append_cancel_left ys (x ∷ []) (y ∷ []) (ap (λ zs. zs ++ x ∷ []) (sym (snoc_front xs ys x y e)) ∙ e) in cc

take_whole : {X : Type 0} (xs : List X) (n : ℕ) → n ≡ length xs → take n xs ≡ xs
take_whole xs n e = ap (λ k. take k xs) e ∙ ap (take (length xs)) (sym (append-nil xs)) ∙ take-append_seam xs []

take_front : {X : Type 0} (xs : List X) (x : X) (n : ℕ) → n ≡ length xs → take n (xs ++ x ∷ []) ≡ xs
take_front xs x n e = ap (λ k. take k (xs ++ x ∷ [])) e ∙ take-append_seam xs (x ∷ [])

-- ---- what there is after some steps

terms_of-append : (a b : List Step) → terms_of (a ++ b) ≡ terms_of a + terms_of b
terms_of-append [] b = omega arith
terms_of-append (Term ∷ a) b = let h = terms_of-append a b in omega arith
terms_of-append (Merge x y ∷ a) b = terms_of-append a b

merges_of-append : (a b : List Step) → merges_of (a ++ b) ≡ merges_of a ++ merges_of b
merges_of-append [] b = refl
merges_of-append (Term ∷ a) b = merges_of-append a b
merges_of-append (Merge x y ∷ a) b = ap (λ ps. (x, y) ∷ ps) (merges_of-append a b)

pub steps_of-push : (layers : List Layer) (l : Layer) → steps_of (layers ++ l ∷ []) ≡ steps_of layers ++ l.step ∷ []
steps_of-push layers l = map-append (λ (m : Layer). m.step) layers (l ∷ [])

terms_push : (layers : List Layer) (l : Layer) → terms_of (steps_of (layers ++ l ∷ [])) ≡ terms_of (steps_of layers) + terms_of (l.step ∷ [])
terms_push layers l = ap terms_of (steps_of-push layers l) ∙ terms_of-append (steps_of layers) (l.step ∷ [])

merges_push : (layers : List Layer) (l : Layer) → merges_of (steps_of (layers ++ l ∷ [])) ≡ merges_of (steps_of layers) ++ merges_of (l.step ∷ [])
merges_push layers l = ap merges_of (steps_of-push layers l) ∙ merges_of-append (steps_of layers) (l.step ∷ [])

term_step : (s : Step) → s ≡ Term → (terms_of (s ∷ []) ≡ 1) × (merges_of (s ∷ []) ≡ [])
term_step s e = (ap (λ (t : Step). terms_of (t ∷ [])) e, ap (λ (t : Step). merges_of (t ∷ [])) e)

merge_step : (s : Step) (a b : ℕ) → s ≡ Merge a b → (terms_of (s ∷ []) ≡ 0) × (merges_of (s ∷ []) ≡ (a, b) ∷ [])
merge_step s a b e = (ap (λ (t : Step). terms_of (t ∷ [])) e, ap (λ (t : Step). merges_of (t ∷ [])) e)

pub terms_are : {layers : List Layer} {nodes : List Node} {merged : List (ℕ × ℕ)} {classes : List ℕ} → IsHistory layers nodes merged classes → length nodes ≡ terms_of (steps_of layers)
terms_are begun = refl
terms_are (grown {layers} {nodes} l node h step moved s) = let k = terms_are h in omega (arith, length_push nodes node, terms_push layers l, (term_step l.step step).0)
terms_are (joined {layers} {nodes} l a b h step moved s) = let k = terms_are h in omega (arith, terms_push layers l, (merge_step l.step a b step).0)

pub merges_are : {layers : List Layer} {nodes : List Node} {merged : List (ℕ × ℕ)} {classes : List ℕ} → IsHistory layers nodes merged classes → merged ≡ merges_of (steps_of layers)
merges_are begun = refl
merges_are (grown {layers} l node h step moved s) = merges_are h ∙ sym (append-nil (merges_of (steps_of layers))) ∙ ap (λ ps. merges_of (steps_of layers) ++ ps) (sym (term_step l.step step).1) ∙ sym (merges_push layers l)
merges_are (joined {layers} l a b h step moved s) = ap (λ ps. ps ++ (a, b) ∷ []) (merges_are h) ∙ ap (λ ps. merges_of (steps_of layers) ++ ps) (sym (merge_step l.step a b step).1) ∙ sym (merges_push layers l)

none_state : IsState [] [] []
none_state = record {
  least = least_none [] [] [] refl refl (omega arith) (All-nil (λ (node : Node). All (λ part. part < 0) node.parts.items)) (λ k l. absurd (omega arith)) (only_none [] []) (λ x y h. refl);
  numbers = λ k l. absurd (omega arith);
}

pub state_of : {layers : List Layer} {nodes : List Node} {merged : List (ℕ × ℕ)} {classes : List ℕ} → IsHistory layers nodes merged classes → IsState nodes merged classes
state_of begun = none_state
state_of (grown l node h step moved s) = s
state_of (joined l a b h step moved s) = s

pub kept_of : {layers : List Layer} {nodes : List Node} {merged : List (ℕ × ℕ)} {classes : List ℕ} → IsHistory layers nodes merged classes → AreKept layers nodes merged classes
kept_of h = record { history = h; least = (state_of h).least; terms = terms_are h; pairs = merges_are h }

pub kept_none : (layers : List Layer) (nodes : List Node) (merged : List (ℕ × ℕ)) (classes : List ℕ) → layers ≡ [] → nodes ≡ [] → merged ≡ [] → classes ≡ [] → AreKept layers nodes merged classes
kept_none layers nodes merged classes el en em ec =
    subst (λ (ls : List Layer). AreKept ls nodes merged classes) (sym el)
    (subst (λ (ns : List Node). AreKept [] ns merged classes) (sym en)
    (subst (λ (ms : List (ℕ × ℕ)). AreKept [] [] ms classes) (sym em)
    (subst (λ (cs : List ℕ). AreKept [] [] [] cs) (sym ec) (kept_of begun))))

-- ---- one term more

found_more : (nodes : List Node) (node : Node) (a : ℕ) (m : Node) → slice_get nodes a ≡ Some m → slice_get (nodes ++ node ∷ []) a ≡ Some m
found_more [] node a m e = cc
found_more (x ∷ xs) node zero m e = e
found_more (x ∷ xs) node (suc a) m e = found_more xs node a m e

found_less : (nodes : List Node) (node : Node) (a : ℕ) (m : Node) → a < length nodes → slice_get (nodes ++ node ∷ []) a ≡ Some m → slice_get nodes a ≡ Some m
found_less [] node a m l e = absurd (omega arith)
found_less (x ∷ xs) node zero m l e = e
found_less (x ∷ xs) node (suc a) m l e = found_less xs node a m (omega arith) e

found_new : (nodes : List Node) (node : Node) → slice_get (nodes ++ node ∷ []) (length nodes) ≡ Some node
found_new [] node = refl
found_new (x ∷ xs) node = found_new xs node

pub term_of_new : (nodes : List Node) (node : Node) (term : ℕ) → term ≡ length nodes → IsTermOf (nodes ++ node ∷ []) term node
term_of_new nodes node term e = record { kept = node; found = ap (slice_get (nodes ++ node ∷ [])) e ∙ found_new nodes node; same = record { head = refl; parts = refl } }

congruent_more : {nodes : List Node} {base : ℕ → ℕ → Type 0} {a b : ℕ} (node : Node) → Congruent nodes base a b → Congruent (nodes ++ node ∷ []) base a b
congruent_more node (based h) = based h
congruent_more node congruent_self = congruent_self
congruent_more node (congruent_back h) = congruent_back (congruent_more node h)
congruent_more node (congruent_through h k) = congruent_through (congruent_more node h) (congruent_more node k)
congruent_more {nodes} node (by_parts {a = a} {b = b} {m = m} {n = n} p q e l h) = by_parts (found_more nodes node a m p) (found_more nodes node b n q) e l (λ i w. congruent_more node (h i w))
congruent_more {nodes} node (of_parts {a = a} {b = b} {m = m} {n = n} p q t e l w h) = of_parts (found_more nodes node a m p) (found_more nodes node b n q) t e l w (congruent_more node h)

pub settled_more : (nodes : List Node) (node : Node) (classes : List ℕ) → length nodes ≡ length classes → IsSettled nodes classes → IsSettled (nodes ++ node ∷ []) classes
settled_more nodes node classes long settled a b ina inb = record {
  whole = λ m n p q. (settled a b ina inb).whole m n (found_less nodes node a m (omega arith) p) (found_less nodes node b n (omega arith) q);
  part = λ m n p q. (settled a b ina inb).part m n (found_less nodes node a m (omega arith) p) (found_less nodes node b n (omega arith) q);
}

parts_more : (nodes : List Node) (node : Node) (n n' : ℕ) → n ≤ n' → PartsAreBelow nodes n → All (λ part. part < n) node.parts.items → PartsAreBelow (nodes ++ node ∷ []) n'
parts_more nodes node n n' l before new = All-append (λ (m : Node). All (λ part. part < n') m.parts.items) nodes (node ∷ [])
    (λ i d w j e v. let h = before i d w j e v in omega arith)
    (λ i d w. one i d w)
  where
    wide : All (λ part. part < n') node.parts.items
    wide j e v = let h = new j e v in omega arith

    one : (i : ℕ) (d : Node) → i < 1 → All (λ part. part < n') (get_or (node ∷ []) i d).parts.items
    one zero d w = wide
    one (suc i) d w = absurd (omega arith)

module _ (nodes : List Node) (node : Node) (merged : List (ℕ × ℕ)) (classes first after : List ℕ) (is : IsState nodes merged classes)
    (few : length nodes + 1 < 2 ^ 32) (parts : All (λ part. part < length nodes) node.parts.items) (first_is : first ≡ classes ++ length nodes ∷ []) (long : length after ≡ length first) where
  long_first : length first ≡ length classes + 1
  long_first = omega (arith, ap length first_is ∙ length_push classes (length nodes))

  at_old : (k : ℕ) → k < length classes → slice_index first k ≡ slice_index classes k
  at_old k l = ap (λ (xs : List ℕ). slice_index xs k) first_is ∙ get_or_append_left classes (length nodes ∷ []) 0 k l

  at_new : (k : ℕ) → k ≡ length classes → slice_index first k ≡ length nodes
  at_new k e = ap (λ (xs : List ℕ). slice_index xs k) first_is ∙ ap (slice_index (classes ++ length nodes ∷ [])) e ∙ get_or-append_seam classes (length nodes) [] 0

  together_first : (x y : ℕ) → AreTogether first x y → (x ≡ y) ⊎ AreTogether classes x y
  together_first x y h = elim (cases_lt x (length classes)) [
    | inl i ↦ elim (cases_lt y (length classes)) [
      | inl j ↦ inr (record { left = i; right = j; one = sym (at_old x i) ∙ h.one ∙ at_old y j })
      | inr j ↦ absurd (let e = h.one in let f = at_old x i in let g = at_new y (let r = h.right in omega (arith, long_first)) in let n = is.numbers x i in let l = is.least.long in omega arith)
    ]
    | inr i ↦ elim (cases_lt y (length classes)) [
      | inl j ↦ absurd (let e = h.one in let f = at_old y j in let g = at_new x (let r = h.left in omega (arith, long_first)) in let n = is.numbers y j in let l = is.least.long in omega arith)
      | inr j ↦ inl (let r = h.left in let s = h.right in omega (arith, long_first))
    ]
  ]

  first_below : (k : ℕ) → k < length first → slice_index first k < length first
  first_below k w = elim (cases_lt k (length classes)) [
    | inl i ↦ (let n = is.numbers k i in let e = at_old k i in omega (arith, long_first))
    | inr i ↦ (let e = at_new k (omega (arith, long_first)) in let l = is.least.long in omega (arith, long_first))
  ]

  pub state_grown : OnlyCongruentMeet (nodes ++ node ∷ []) first after → ((x y : ℕ) → Congruent (nodes ++ node ∷ []) (AreTogether first) x y → slice_index after x ≡ slice_index after y) → AreNumbersBounded first after → IsState (nodes ++ node ∷ []) merged after
  state_grown sound complete bounded = record {
    least = record {
      long = let l = is.least.long in omega (arith, long_first, length_push nodes node);
      few = omega (arith, length_push nodes node);
      parts = parts_more nodes node (length nodes) (length after) (let l = is.least.long in omega (arith, long_first)) (subst (PartsAreBelow nodes) (sym is.least.long) is.least.parts) parts;
      terms = λ x y w. let t = is.least.terms x y w in (omega (arith, long_first, t.0), omega (arith, long_first, t.1));
      sound = λ x y h. congruent_bind (sound x y h) (λ u w k. elim (together_first u w k) [
        | inl e ↦ subst (λ z. Congruent (nodes ++ node ∷ []) (WereMerged merged) u z) e congruent_self
        | inr t ↦ congruent_more node (is.least.sound u w t)
      ]);
      complete = λ x y h. complete x y (congruent_bind h (λ u w k. let t = is.least.terms u w k in based (record {
        left = omega (arith, long_first, t.0);
        right = omega (arith, long_first, t.1);
        one = at_old u t.0 ∙ is.least.complete u w (based k) ∙ sym (at_old w t.1);
      })));
    };
    numbers = λ k w. subst (λ n. slice_index after k < n) (sym long) (bounded (length first) first_below k (omega arith));
  }

pub kept_grown : (layers : List Layer) (nodes : List Node) (merged : List (ℕ × ℕ)) (classes first after : List ℕ) (l : Layer) (node : Node) → AreKept layers nodes merged classes →
    length nodes + 1 < 2 ^ 32 → All (λ part. part < length nodes) node.parts.items → first ≡ classes ++ length nodes ∷ [] → length after ≡ length first → l.step ≡ Term → AreMoved classes l.moved.items after →
    OnlyCongruentMeet (nodes ++ node ∷ []) first after → ((x y : ℕ) → Congruent (nodes ++ node ∷ []) (AreTogether first) x y → slice_index after x ≡ slice_index after y) → AreNumbersBounded first after →
    AreKept (layers ++ l ∷ []) (nodes ++ node ∷ []) merged after
kept_grown layers nodes merged classes first after l node is few parts first_is long step moved sound complete bounded =
    kept_of (grown l node is.history step moved (state_grown nodes node merged classes first after (state_of is.history) few parts first_is long sound complete bounded))

-- ---- one merge more

pub state_joined : (nodes : List Node) (merged : List (ℕ × ℕ)) (before after : List ℕ) (a b : ℕ) → IsState nodes merged before → a < length before → b < length before → length after ≡ length before →
    ((x y : ℕ) → AreTogether after x y → Congruent nodes (AreTogetherOrPaired before (a ∷ []) (b ∷ [])) x y) →
    ((x y : ℕ) → Congruent nodes (AreTogetherOrPaired before (a ∷ []) (b ∷ [])) x y → slice_index after x ≡ slice_index after y) →
    AreNumbersBounded before after → IsState nodes (merged ++ (a, b) ∷ []) after
state_joined nodes merged before after a b is ina inb long sound complete bounded = record {
  least = least_more nodes merged before after a b is.least ina inb long sound complete;
  numbers = λ k w. subst (λ n. slice_index after k < n) (sym long) (bounded (length before) is.numbers k (omega arith));
}

pub state_same : (nodes : List Node) (merged : List (ℕ × ℕ)) (classes : List ℕ) (a b : ℕ) → IsState nodes merged classes → a < length classes → b < length classes → slice_index classes a ≡ slice_index classes b → IsState nodes (merged ++ (a, b) ∷ []) classes
state_same nodes merged classes a b is ina inb same = record { least = least_same nodes merged classes a b is.least ina inb same; numbers = is.numbers }

pub nothing_moved : (moved : List Moved) (classes : List ℕ) → moved ≡ [] → AreMoved classes moved classes
nothing_moved moved classes e = record { old = λ m c. absurd (let l = c.1 in let n = ap length e in omega arith); others = λ k l. inr refl }

pub kept_same : (layers : List Layer) (nodes : List Node) (merged : List (ℕ × ℕ)) (classes : List ℕ) (l : Layer) (a b : ℕ) → AreKept layers nodes merged classes → a < length classes → b < length classes → slice_index classes a ≡ slice_index classes b →
    l.step ≡ Merge a b → l.moved.items ≡ [] → AreKept (layers ++ l ∷ []) nodes (merged ++ (a, b) ∷ []) classes
kept_same layers nodes merged classes l a b is ina inb same step none =
    kept_of (joined l a b is.history step (nothing_moved l.moved.items classes none) (state_same nodes merged classes a b (state_of is.history) ina inb same))

pub kept_joined : (layers : List Layer) (nodes : List Node) (merged : List (ℕ × ℕ)) (before after : List ℕ) (l : Layer) (a b : ℕ) → AreKept layers nodes merged before → a < length before → b < length before → length after ≡ length before →
    l.step ≡ Merge a b → AreMoved before l.moved.items after →
    ((x y : ℕ) → AreTogether after x y → Congruent nodes (AreTogetherOrPaired before (a ∷ []) (b ∷ [])) x y) →
    ((x y : ℕ) → Congruent nodes (AreTogetherOrPaired before (a ∷ []) (b ∷ [])) x y → slice_index after x ≡ slice_index after y) →
    AreNumbersBounded before after → AreKept (layers ++ l ∷ []) nodes (merged ++ (a, b) ∷ []) after
kept_joined layers nodes merged before after l a b is ina inb long step moved sound complete bounded =
    kept_of (joined l a b is.history step moved (state_joined nodes merged before after a b (state_of is.history) ina inb long sound complete bounded))

-- ---- one step back

pub record Popped (layers : List Layer) (l : Layer) (nodes : List Node) (merged : List (ℕ × ℕ)) (classes : List ℕ) : Type 0 where
  pub terms : List Node
  pub pairs : List (ℕ × ℕ)
  pub before : List ℕ
  pub history : IsHistory layers terms pairs before
  pub moved : AreMoved before l.moved.items classes
  pub terms_fit : terms_of (l.step ∷ []) ≤ length nodes
  pub pairs_fit : length (merges_of (l.step ∷ [])) ≤ length merged
  pub terms_back : take (length nodes - terms_of (l.step ∷ [])) nodes ≡ terms
  pub pairs_back : take (length merged - length (merges_of (l.step ∷ []))) merged ≡ pairs
  pub long : length before ≡ length nodes - terms_of (l.step ∷ [])
  pub within : length before ≤ length classes

popped : {all : List Layer} {nodes : List Node} {merged : List (ℕ × ℕ)} {classes : List ℕ} → IsHistory all nodes merged classes → (layers : List Layer) (l : Layer) → all ≡ layers ++ l ∷ [] → Popped layers l nodes merged classes
popped begun layers l e = absurd (let h = ap length e ∙ length_push layers l in omega arith)
popped (grown {layers = ls} {nodes = ns} {merged = ms} {classes = cs} {classes' = classes} m node h step moved s) layers l e =
    let t = term_step m.step step in
    let one : terms_of (m.step ∷ []) ≡ 1 = t.0 in
    let none : length (merges_of (m.step ∷ [])) ≡ 0 = ap length t.1 in
    let n : length (ns ++ node ∷ []) ≡ length ns + 1 = length_push ns node in
    let before : length ns ≡ length cs = (state_of h).least.long in
    let after : length (ns ++ node ∷ []) ≡ length classes = s.least.long in
    subst (λ (k : Layer). Popped layers k (ns ++ node ∷ []) ms classes) (snoc_last ls layers m l e) (record {
      terms = ns;
      pairs = ms;
      before = cs;
      history = subst (λ (ks : List Layer). IsHistory ks ns ms cs) (snoc_front ls layers m l e) h;
      moved = moved;
      terms_fit = omega arith;
      pairs_fit = omega arith;
      terms_back = take_front ns node (length (ns ++ node ∷ []) - terms_of (m.step ∷ [])) (omega arith);
      pairs_back = take_whole ms (length ms - length (merges_of (m.step ∷ []))) (omega arith);
      long = omega arith;
      within = omega arith;
    })
popped (joined {layers = ls} {nodes = ns} {merged = ms} {classes = cs} {classes' = classes} m a b h step moved s) layers l e =
    let t = merge_step m.step a b step in
    let none : terms_of (m.step ∷ []) ≡ 0 = t.0 in
    let one : length (merges_of (m.step ∷ [])) ≡ 1 = ap length t.1 in
    let n : length (ms ++ (a, b) ∷ []) ≡ length ms + 1 = length_push ms (a, b) in
    let before : length ns ≡ length cs = (state_of h).least.long in
    let after : length ns ≡ length classes = s.least.long in
    subst (λ (k : Layer). Popped layers k ns (ms ++ (a, b) ∷ []) classes) (snoc_last ls layers m l e) (record {
      terms = ns;
      pairs = ms;
      before = cs;
      history = subst (λ (ks : List Layer). IsHistory ks ns ms cs) (snoc_front ls layers m l e) h;
      moved = moved;
      terms_fit = omega arith;
      pairs_fit = omega arith;
      terms_back = take_whole ns (length ns - terms_of (m.step ∷ [])) (omega arith);
      pairs_back = take_front ms (a, b) (length (ms ++ (a, b) ∷ []) - length (merges_of (m.step ∷ []))) (omega arith);
      long = omega arith;
      within = omega arith;
    })

pub popped_of : (all : List Layer) (nodes : List Node) (merged : List (ℕ × ℕ)) (classes : List ℕ) (layers : List Layer) (l : Layer) → AreKept all nodes merged classes → all ≡ layers ++ l ∷ [] → Popped layers l nodes merged classes
popped_of all nodes merged classes layers l is e = popped is.history layers l e

pub moved_within : (layers : List Layer) (l : Layer) (nodes : List Node) (merged : List (ℕ × ℕ)) (classes : List ℕ) → Popped layers l nodes merged classes → (m : Moved) → Contains l.moved.items m → m.term < length classes
moved_within layers l nodes merged classes p m c = let o = p.moved.old m c in let w = p.within in omega (arith, o.0)

history_back : (layers : List Layer) (l : Layer) (nodes : List Node) (merged : List (ℕ × ℕ)) (classes back : List ℕ) → Popped layers l nodes merged classes → length back ≡ length classes →
    ((before : List ℕ) → AreMoved before l.moved.items classes → (k : ℕ) → k < length before → slice_index back k ≡ slice_index before k) →
    IsHistory layers (take (length nodes - terms_of (l.step ∷ [])) nodes) (take (length merged - length (merges_of (l.step ∷ []))) merged) (take (length nodes - terms_of (l.step ∷ [])) back)
history_back layers l nodes merged classes back p same restored =
    subst (λ (ns : List Node). IsHistory layers ns (take (length merged - length (merges_of (l.step ∷ []))) merged) (take (length nodes - terms_of (l.step ∷ [])) back)) (sym p.terms_back)
    (subst (λ (ms : List (ℕ × ℕ)). IsHistory layers p.terms ms (take (length nodes - terms_of (l.step ∷ [])) back)) (sym p.pairs_back)
    (subst (λ (cs : List ℕ). IsHistory layers p.terms p.pairs cs) (sym classes_back) p.history))
  where
    count : ℕ
    count = length nodes - terms_of (l.step ∷ [])

    classes_back : take (length nodes - terms_of (l.step ∷ [])) back ≡ p.before
    classes_back =
        let long = p.long in
        let within = p.within in
        let short : length (take (length nodes - terms_of (l.step ∷ [])) back) ≡ length nodes - terms_of (l.step ∷ []) = length-take-le (length nodes - terms_of (l.step ∷ [])) back (omega arith) in
        ext_get_or 0 (take (length nodes - terms_of (l.step ∷ [])) back) p.before (omega arith)
        (λ i w. get_or-take (length nodes - terms_of (l.step ∷ [])) back i 0 (omega arith) ∙ restored p.before p.moved i (omega arith))

pub kept_back : (layers : List Layer) (l : Layer) (nodes : List Node) (merged : List (ℕ × ℕ)) (classes back : List ℕ) (terms pairs : ℕ) → Popped layers l nodes merged classes → length back ≡ length classes →
    ((before : List ℕ) → AreMoved before l.moved.items classes → (k : ℕ) → k < length before → slice_index back k ≡ slice_index before k) →
    terms ≡ length nodes - terms_of (l.step ∷ []) → pairs ≡ length merged - length (merges_of (l.step ∷ [])) → AreKept layers (take terms nodes) (take pairs merged) (take terms back)
kept_back layers l nodes merged classes back terms pairs p same restored et ep =
    kept_of (subst (λ n. IsHistory layers (take n nodes) (take pairs merged) (take n back)) (sym et)
    (subst (λ n. IsHistory layers (take (length nodes - terms_of (l.step ∷ [])) nodes) (take n merged) (take (length nodes - terms_of (l.step ∷ [])) back)) (sym ep)
    (history_back layers l nodes merged classes back p same restored)))

-- ---- what the last step moved

pub record EndsIn {X : Type 0} (xs : List X) (x : X) : Type 0 where
  pub front : List X
  pub is : xs ≡ front ++ x ∷ []

ends_at : {X : Type 0} (xs : List X) (x : X) (n : ℕ) → n + 1 ≡ length xs → slice_get xs n ≡ Some x → EndsIn xs x
ends_at [] x n e h = absurd (omega arith)
ends_at (y ∷ []) x zero e h = record { front = []; is = let k : y ≡ x = cc in ap (λ z. z ∷ []) k }
ends_at (y ∷ []) x (suc n) e h = absurd (omega arith)
ends_at (y ∷ z ∷ zs) x zero e h = absurd (omega arith)
ends_at (y ∷ z ∷ zs) x (suc n) e h = let r = ends_at (z ∷ zs) x n (omega arith) h in record { front = y ∷ r.front; is = ap (λ ws. y ∷ ws) r.is }

pub ends_in : {X : Type 0} (xs : List X) (x : X) → slice_get xs (length xs - 1) ≡ Some x → EndsIn xs x
ends_in xs x e = ends_at xs x (length xs - 1) (let h = slice_get_within xs (length xs - 1) x e in omega arith) e

module _ (all : List Layer) (nodes : List Node) (merged : List (ℕ × ℕ)) (classes : List ℕ) (weight : ℕ) (l : Layer) (is : AreKept all nodes merged classes) (ends : EndsIn all l) where
  before_is : all_but_last (steps_of all) ≡ steps_of ends.front
  before_is = ap (λ (ls : List Layer). all_but_last (steps_of ls)) ends.is ∙ ap all_but_last (steps_of-push ends.front l)
      ∙ take_front (steps_of ends.front) l.step (length (steps_of ends.front ++ l.step ∷ []) - 1) (let h = length_push (steps_of ends.front) l.step in omega arith)

  back : Popped ends.front l nodes merged classes
  back = popped_of all nodes merged classes ends.front l is ends.is

  terms_before_is : take (terms_of (steps_of ends.front)) nodes ≡ back.terms
  terms_before_is = let n = is.terms in let m = ap (λ (ls : List Layer). terms_of (steps_of ls)) ends.is in let k = terms_push ends.front l in
      ap (λ c. take c nodes) (let h : terms_of (steps_of ends.front) ≡ length nodes - terms_of (l.step ∷ []) = omega arith in h) ∙ back.terms_back

  pub only_moved : OnlyMovedMeet (record { nodes = nodes; merged = merged; steps = steps_of all; weight = weight }) l.moved.items
  only_moved = subst (λ (ss : List Step). (x y : ℕ) → x < terms_of ss → y < terms_of ss → (IsMoved l.moved.items x → ⊥) → (IsMoved l.moved.items y → ⊥) → Congruent nodes (WereMerged merged) x y → Congruent (take (terms_of ss) nodes) (WereMerged (merges_of ss)) x y) (sym before_is)
      (λ x y i j p q h.
      let old = (state_of back.history).least in
      let long : length back.before ≡ terms_of (steps_of ends.front) = sym old.long ∙ terms_are back.history in
      let u : slice_index classes x ≡ slice_index back.before x = still x (omega arith) p in
      let w : slice_index classes y ≡ slice_index back.before y = still y (omega arith) q in
      subst (λ (ns : List Node). Congruent ns (WereMerged (merges_of (steps_of ends.front))) x y) (sym terms_before_is)
      (subst (λ (ms : List (ℕ × ℕ)). Congruent back.terms (WereMerged ms) x y) (merges_are back.history)
      (old.sound x y (record { left = omega arith; right = omega arith; one = sym u ∙ is.least.complete x y h ∙ w }))))
    where
      still : (k : ℕ) → k < length back.before → (IsMoved l.moved.items k → ⊥) → slice_index classes k ≡ slice_index back.before k
      still k i n = elim (back.moved.others k i) [
        | inl m ↦ absurd (n m)
        | inr e ↦ e
      ]

-- before the first step there is nothing
pub none_moved : (all : List Layer) (nodes : List Node) (merged : List (ℕ × ℕ)) (weight : ℕ) (moved : List Moved) → length all ≡ 0 → OnlyMovedMeet (record { nodes = nodes; merged = merged; steps = steps_of all; weight = weight }) moved
none_moved [] nodes merged weight moved e = λ x y i j p q h. absurd (omega arith)
none_moved (l ∷ ls) nodes merged weight moved e = absurd (omega arith)

-- ---- terms that are put back one by one

-- among the classes that were kept, at a place from the first on, is that of a term
pub record IsMovedFrom (first : ℕ) (moved : List Moved) (term : ℕ) : Type 0 where
  pub place : ℕ
  pub later : first ≤ place
  pub within : place < length moved
  pub is : (slice_index_or moved place (record { term = 0; class = 0 })).term ≡ term

pub moved_from : (before : List ℕ) (moved : List Moved) (classes : List ℕ) → AreMoved before moved classes → (k : ℕ) → k < length before → IsMovedFrom 0 moved k ⊎ (slice_index classes k ≡ slice_index before k)
moved_from before moved classes h k l = elim (h.others k l) [
  | inl m ↦ inl (record { place = m.found.0; later = omega arith; within = m.found.1; is = ap (λ (n : Moved). n.term) (get_or_default moved m.found.0 (record { term = 0; class = 0 }) m.kept m.found.1 ∙ m.found.2) ∙ m.is })
  | inr e ↦ inr e
]

pub moved_more : (before : List ℕ) (moved : List Moved) (classes initial : List ℕ) (i : ℕ) → AreMoved before moved initial → i < length moved → (slice_index_or moved i (record { term = 0; class = 0 })).term < length classes → (k : ℕ) → k < length before →
    IsMovedFrom i moved k ⊎ (slice_index classes k ≡ slice_index before k) → IsMovedFrom (i + 1) moved k ⊎ (slice_index (set classes (slice_index_or moved i (record { term = 0; class = 0 })).term (slice_index_or moved i (record { term = 0; class = 0 })).class) k ≡ slice_index before k)
moved_more before moved classes initial i h within inside k l now = elim (ℕ_discrete k here.term) [
  | yes p ↦ inr (ap (slice_index (set classes here.term here.class)) p ∙ get_or-set_same classes here.term here.class 0 inside ∙ (h.old here at_here).1 ∙ ap (slice_index before) (sym p))
  | no p ↦ elim now [
    | inl f ↦ inl (record { place = f.place; later = later f p; within = f.within; is = f.is })
    | inr e ↦ inr (get_or-set_other classes here.term k here.class 0 p ∙ e)
  ]
]
  where
    here : Moved
    here = slice_index_or moved i (record { term = 0; class = 0 })

    at_here : Contains moved here
    at_here = (i, within, get_or_default moved i (get_or moved i (record { term = 0; class = 0 })) (record { term = 0; class = 0 }) within)

    later : (f : IsMovedFrom i moved k) → (k ≡ here.term → ⊥) → i + 1 ≤ f.place
    later f p = elim (cases_lt i f.place) [
      | inl l ↦ omega arith
      | inr l ↦ absurd (p (sym f.is ∙ ap (λ (q : ℕ). (slice_index_or moved q (record { term = 0; class = 0 })).term) (let a = f.later in let e : f.place ≡ i = omega arith in e)))
    ]

-- what a list has at a place is an element of it
pub found_at : (moved : List Moved) (i : ℕ) (d : Moved) → i < length moved → Contains moved (slice_index_or moved i d)
found_at moved i d l = (i, l, get_or_default moved i (get_or moved i d) d l)
