-- Levels that begin and end.
use Rattle.std.proofs.Common.{◌≡◌, ℕ, zero, suc, ◌+◌, ◌-◌, ◌<◌, ◌≤◌, List, [], ◌∷◌, ◌++◌, length, take, Bool, false, refl, sym, ◌∙◌, ap, subst, arith, All}
use Rattle.std.specs.Prelude.{Contains}
use Rattle.std.proofs.lemmas.List.{length_push, map-append, same_from_push, length-append}
use Rattle.std.proofs.lemmas.List.Elements.{All-nil}
use Rattle.vf_table.specs.declared.node.Node.{Node}
use Rattle.vf_growing.specs.declared.journal.Step as merging
use Rattle.vf_growing.specs.Steps.{Growth, terms_of, merges_of}
use Rattle.vf_arith.specs.declared.bounds.Edge.{Edge}
use Rattle.vf_arith.specs.declared.bounds.Step as bounding
use Rattle.vf_arith.specs.Paths.{Network}
use Rattle.vf_arith.specs.Steps.{points_of, bounds_of}
use Rattle.vf_refute.specs.declared.steps.Fact.{Fact}
use Rattle.vf_ground.specs.Held.{IsFine, HasSmallNumber}
use Rattle.vf_combination.specs.declared.level.Level.{Level}
use Rattle.vf_combination.specs.Combined.{Begun}
use Rattle.vf_combination.specs.Exchanged.{IsOnward, AreOnward}
use Rattle.vf_combination.specs.Settled.{IsSettled, State, state, IsLater, IsBeginning, AreLevels, no_levels, level_above, begun_of, IsPath}
use Rattle.vf_combination.proofs.Onward.{onward_same, onward_join, onward_take}

abbrev made : List Node → List Fact → List merging.Step → List bounding.Step → State
made nodes facts class_steps bound_steps = record { nodes = nodes; facts = facts; class_steps = class_steps; bound_steps = bound_steps }

state_is : (s : State) (nodes : List Node) (facts : List Fact) (class_steps : List merging.Step) (bound_steps : List bounding.Step) → nodes ≡ s.nodes → facts ≡ s.facts → class_steps ≡ s.class_steps → bound_steps ≡ s.bound_steps → s ≡ made nodes facts class_steps bound_steps
state_is s nodes facts class_steps bound_steps p q r t =
    ap (λ (x : List Node). made x s.facts s.class_steps s.bound_steps) (sym p) ∙ ap (λ (x : List Fact). made nodes x s.class_steps s.bound_steps) (sym q)
    ∙ ap (λ (x : List merging.Step). made nodes facts x s.bound_steps) (sym r) ∙ ap (made nodes facts class_steps) (sym t)

later_self : (s : State) → IsLater s s
later_self s = record { nodes = onward_same s.nodes s.nodes refl; facts = onward_same s.facts s.facts refl; class_steps = onward_same s.class_steps s.class_steps refl; bound_steps = onward_same s.bound_steps s.bound_steps refl }

later_join : (s t u : State) → IsLater s t → IsLater t u → IsLater s u
later_join s t u g h = record {
  nodes = onward_join s.nodes t.nodes u.nodes g.nodes h.nodes;
  facts = onward_join s.facts t.facts u.facts g.facts h.facts;
  class_steps = onward_join s.class_steps t.class_steps u.class_steps g.class_steps h.class_steps;
  bound_steps = onward_join s.bound_steps t.bound_steps u.bound_steps g.bound_steps h.bound_steps;
}

levels_later : {levels : List Level} {s : State} (t : State) → AreLevels levels s → IsLater s t → AreLevels levels t
levels_later t no_levels k = no_levels
levels_later t (level_above {s = s} {s' = u} l h b g) k = level_above l h b (later_join s u t g k)

abbrev begun_at : Level → List Node → List Fact → Begun
begun_at l nodes facts = record { nodes = take l.terms nodes; facts = take l.facts facts }

begun_push : (levels : List Level) (l : Level) (nodes : List Node) (facts : List Fact) → begun_of (levels ++ l ∷ []) nodes facts ≡ begun_of levels nodes facts ++ begun_at l nodes facts ∷ []
begun_push levels l nodes facts = map-append (λ (m : Level). begun_at m nodes facts) levels (l ∷ [])

begun_here : (l : Level) (s t : State) → IsBeginning l s → IsLater s t → begun_at l t.nodes t.facts ≡ record { nodes = s.nodes; facts = s.facts }
begun_here l s t b k =
    let n = onward_take s.nodes t.nodes l.terms b.terms k.nodes in
    let f = onward_take s.facts t.facts l.facts b.facts k.facts in cc

begun_same : {levels : List Level} {s : State} (t : State) → AreLevels levels s → IsLater s t → begun_of levels t.nodes t.facts ≡ begun_of levels s.nodes s.facts
begun_same t no_levels k = refl
begun_same t (level_above {levels = ls} {s = s} {s' = u} l h b g) k =
    let front = begun_same t h (later_join s u t g k) ∙ sym (begun_same u h g) in
    let last = begun_here l s t b (later_join s u t g k) ∙ sym (begun_here l s u b g) in
    begun_push ls l t.nodes t.facts ∙ ap (λ (bs : List Begun). bs ++ begun_at l t.nodes t.facts ∷ []) front ∙ ap (λ (e : Begun). begun_of ls u.nodes u.facts ++ e ∷ []) last ∙ sym (begun_push ls l u.nodes u.facts)

-- ---- one level back

pub record IsRaised (levels : List Level) (l : Level) (t : State) : Type 0 where
  pub before : State
  pub front : AreLevels levels before
  pub beginning : IsBeginning l before
  pub later : IsLater before t

raised : {all : List Level} {t : State} → AreLevels all t → (levels : List Level) (l : Level) → all ≡ levels ++ l ∷ [] → IsRaised levels l t
raised no_levels levels l e = absurd (let h = ap length e in let n = length_push levels l in omega arith)
raised {t = t} (level_above {levels = ls} {s = s} m h b g) levels l e = let q = same_from_push ls levels m l e in record {
  before = s;
  front = subst (λ (ks : List Level). AreLevels ks s) q.0 h;
  beginning = subst (λ (k : Level). IsBeginning k s) q.1 b;
  later = g;
}

pub raised_of : (c : Growth) (b : Network) (facts : List Fact) (k : Bool) (all levels : List Level) (l : Level) → IsPath c b facts k all → all ≡ levels ++ l ∷ [] → IsRaised levels l (state c b facts)
raised_of c b facts k all levels l is e = raised is.levels levels l e

onward_most : {X : Type 0} (xs ys : List X) (n : ℕ) → n ≡ length xs → IsOnward xs ys → n ≤ length ys
onward_most xs ys n e h = let k = ap length h.is in let m = length-append xs h.more in omega arith

pub classes_reach : (levels : List Level) (l : Level) (c : Growth) (b : Network) (facts : List Fact) → IsRaised levels l (state c b facts) → l.class_steps ≤ length c.steps
classes_reach levels l c b facts r = onward_most r.before.class_steps c.steps l.class_steps r.beginning.class_steps r.later.class_steps

pub bounds_reach : (levels : List Level) (l : Level) (c : Growth) (b : Network) (facts : List Fact) → IsRaised levels l (state c b facts) → l.bound_steps ≤ length b.steps
bounds_reach levels l c b facts r = onward_most r.before.bound_steps b.steps l.bound_steps r.beginning.bound_steps r.later.bound_steps

-- what stands after a level was taken back
pub record IsEnded (l : Level) (c : Growth) (b : Network) (facts : List Fact) (c' : Growth) (b' : Network) (facts' : List Fact) : Type 0 where
  pub class_steps : c'.steps ≡ take l.class_steps c.steps
  pub nodes : c'.nodes ≡ take (terms_of c'.steps) c.nodes
  pub merged : c'.merged ≡ merges_of c'.steps
  pub bound_steps : b'.steps ≡ take l.bound_steps b.steps
  pub size : b'.size ≡ points_of b'.steps
  pub edges : b'.edges ≡ bounds_of b'.steps
  pub facts_are : facts' ≡ take l.facts facts

module _ (levels : List Level) (l : Level) (c : Growth) (b : Network) (facts : List Fact) (c' : Growth) (b' : Network) (facts' : List Fact) (r : IsRaised levels l (state c b facts)) (is : IsEnded l c b facts c' b' facts') where
  steps_back : c'.steps ≡ r.before.class_steps
  steps_back = is.class_steps ∙ onward_take r.before.class_steps c.steps l.class_steps r.beginning.class_steps r.later.class_steps

  bounds_back : b'.steps ≡ r.before.bound_steps
  bounds_back = is.bound_steps ∙ onward_take r.before.bound_steps b.steps l.bound_steps r.beginning.bound_steps r.later.bound_steps

  nodes_back : c'.nodes ≡ r.before.nodes
  nodes_back = is.nodes ∙ ap (λ n. take n c.nodes) (ap terms_of steps_back) ∙ onward_take r.before.nodes c.nodes (terms_of r.before.class_steps) r.beginning.classes r.later.nodes

  facts_back : facts' ≡ r.before.facts
  facts_back = is.facts_are ∙ onward_take r.before.facts facts l.facts r.beginning.facts r.later.facts

  state_back : r.before ≡ state c' b' facts'
  state_back = state_is r.before c'.nodes facts' c'.steps b'.steps nodes_back facts_back steps_back bounds_back

  pub path_end : IsPath c' b' facts' l.clashed levels
  path_end = record {
    size = is.size ∙ ap points_of bounds_back ∙ r.beginning.bounds ∙ ap length (sym nodes_back);
    settled = subst (λ (ns : List Node). IsSettled ns facts' c'.merged b'.edges l.clashed) (sym nodes_back)
        (subst (λ (fs : List Fact). IsSettled r.before.nodes fs c'.merged b'.edges l.clashed) (sym facts_back)
        (subst (λ (ms : List (ℕ × ℕ)). IsSettled r.before.nodes r.before.facts ms b'.edges l.clashed) (sym (is.merged ∙ ap merges_of steps_back))
        (subst (λ (es : List Edge). IsSettled r.before.nodes r.before.facts (merges_of r.before.class_steps) es l.clashed) (sym (is.edges ∙ ap bounds_of bounds_back)) r.beginning.settled)));
    levels = subst (AreLevels levels) state_back r.front;
  }

  pub view_end : (all : List Level) → all ≡ levels ++ l ∷ [] → (before : List Begun) (level : Begun) → begun_of all c.nodes facts ≡ before ++ level ∷ [] → (begun_of levels c'.nodes facts' ≡ before) × (c'.nodes ≡ level.nodes) × (facts' ≡ level.facts)
  view_end all e before level h =
      let q = same_from_push (begun_of levels c.nodes facts) before (begun_at l c.nodes facts) level (sym (begun_push levels l c.nodes facts) ∙ ap (λ (ls : List Level). begun_of ls c.nodes facts) (sym e) ∙ h) in
      let here = sym (begun_here l r.before (state c b facts) r.beginning r.later) ∙ q.1 in
      let front = begun_same (state c b facts) r.front r.later in (
        ap (λ (ns : List Node). begun_of levels ns facts') nodes_back ∙ ap (begun_of levels r.before.nodes) facts_back ∙ sym front ∙ q.0,
        nodes_back ∙ ap (λ (e : Begun). e.nodes) here,
        facts_back ∙ ap (λ (e : Begun). e.facts) here,
      )

-- ---- the last level, kept

split_last : (ls : List Level) (n : ℕ) → length ls ≡ n + 1 → (l : Level) × (ls ≡ take n ls ++ l ∷ [])
split_last [] n e = absurd (omega arith)
split_last (k ∷ []) zero e = (k, refl)
split_last (k ∷ []) (suc n) e = absurd (omega arith)
split_last (k ∷ m ∷ ms) zero e = absurd (omega arith)
split_last (k ∷ m ∷ ms) (suc n) e = let r = split_last (m ∷ ms) n (omega arith) in (r.0, ap (λ (xs : List Level). k ∷ xs) r.1)

pub some_level : (ls : List Level) (nodes : List Node) (facts : List Fact) → 0 < length (begun_of ls nodes facts) → 0 < length ls
some_level [] nodes facts l = l
some_level (k ∷ ks) nodes facts l = omega arith

pub path_keep : (c : Growth) (b : Network) (facts : List Fact) (k : Bool) (all levels : List Level) (n : ℕ) → IsPath c b facts k all → 0 < length all → n ≡ length all - 1 → levels ≡ take n all → IsPath c b facts k levels
path_keep c b facts k all levels n is some m t = let q = split_last all n (omega arith) in kept_path q.0 (q.1 ∙ ap (λ (ls : List Level). ls ++ q.0 ∷ []) (sym t))
  where
    kept_path : (l : Level) → all ≡ levels ++ l ∷ [] → IsPath c b facts k levels
    kept_path l e = let r = raised is.levels levels l e in record { size = is.size; settled = is.settled; levels = levels_later (state c b facts) r.front r.later }

pub view_keep : (all levels : List Level) (nodes : List Node) (facts : List Fact) (n : ℕ) → 0 < length all → n ≡ length all - 1 → levels ≡ take n all → (before : List Begun) (level : Begun) → begun_of all nodes facts ≡ before ++ level ∷ [] → begun_of levels nodes facts ≡ before
view_keep all levels nodes facts n some m t before level h = let q = split_last all n (omega arith) in kept_view q.0 (q.1 ∙ ap (λ (ls : List Level). ls ++ q.0 ∷ []) (sym t))
  where
    kept_view : (l : Level) → all ≡ levels ++ l ∷ [] → begun_of levels nodes facts ≡ before
    kept_view l e = (same_from_push (begun_of levels nodes facts) before (begun_at l nodes facts) level (sym (begun_push levels l nodes facts) ∙ ap (λ (ls : List Level). begun_of ls nodes facts) (sym e) ∙ h)).0

-- ---- on along a path

later_of : (c : Growth) (b : Network) (c' : Growth) (b' : Network) (facts facts' : List Fact) → AreOnward c b c' b' → IsOnward facts facts' → IsLater (state c b facts) (state c' b' facts')
later_of c b c' b' facts facts' h f = record { nodes = h.nodes; facts = f; class_steps = h.class_steps; bound_steps = h.bound_steps }

pub path_on : (c : Growth) (b : Network) (k : Bool) (facts : List Fact) (levels : List Level) (c' : Growth) (b' : Network) (k' : Bool) (facts' : List Fact) → IsPath c b facts k levels → AreOnward c b c' b' → IsOnward facts facts' → b'.size ≡ length c'.nodes → IsSettled c'.nodes facts' c'.merged b'.edges k' → IsPath c' b' facts' k' levels
path_on c b k facts levels c' b' k' facts' is on more size settled = record { size = size; settled = settled; levels = levels_later (state c' b' facts') is.levels (later_of c b c' b' facts facts' on more) }

pub view_on : (c : Growth) (b : Network) (k : Bool) (facts : List Fact) (levels : List Level) (c' : Growth) (b' : Network) (facts' : List Fact) → IsPath c b facts k levels → AreOnward c b c' b' → IsOnward facts facts' → begun_of levels c'.nodes facts' ≡ begun_of levels c.nodes facts
view_on c b k facts levels c' b' facts' is on more = begun_same (state c' b' facts') is.levels (later_of c b c' b' facts facts' on more)

pub path_begin : (c : Growth) (b : Network) (k : Bool) (facts : List Fact) (levels : List Level) (l : Level) → IsPath c b facts k levels → length c.nodes ≡ terms_of c.steps → c.merged ≡ merges_of c.steps → b.size ≡ points_of b.steps → b.edges ≡ bounds_of b.steps →
    l.class_steps ≡ length c.steps → l.bound_steps ≡ length b.steps → l.terms ≡ length c.nodes → l.facts ≡ length facts → l.clashed ≡ k → IsPath c b facts k (levels ++ l ∷ [])
path_begin c b k facts levels l is terms merged points edges class_steps bound_steps at_terms at_facts clashed = record {
  size = is.size;
  settled = is.settled;
  levels = level_above l is.levels (record {
    settled = subst (IsSettled c.nodes facts (merges_of c.steps) (bounds_of b.steps)) (sym clashed)
        (subst (λ (ms : List (ℕ × ℕ)). IsSettled c.nodes facts ms (bounds_of b.steps) k) merged (subst (λ (es : List Edge). IsSettled c.nodes facts c.merged es k) edges is.settled));
    class_steps = class_steps;
    bound_steps = bound_steps;
    facts = at_facts;
    terms = at_terms;
    classes = sym terms;
    bounds = sym points ∙ is.size;
  }) (later_self (state c b facts));
}

-- ---- nothing

none_in : {X : Type 0} (x : X) → Contains [] x → ⊥
none_in x h = let l = h.1 in omega arith

settled_none : IsSettled [] [] [] [] false
settled_none = record {
  sound = record { equal = λ a b h. absurd (none_in (a, b) h); bound = λ e h. absurd (none_in e h) };
  complete = λ fine. record { facts_in = λ l h. absurd (none_in l h); terms_in = λ a l. absurd (omega arith); settled = λ x y l. absurd (omega arith) };
  clash_is = λ t. absurd (cc);
  clashes_seen = λ fine x y l. absurd (omega arith);
  fine = All-nil (IsFine []);
  parts = All-nil (λ (node : Node). All (λ part. part < 0) node.parts.items);
  small = All-nil HasSmallNumber;
  few = omega arith;
}

pub path_none : (c : Growth) (b : Network) (facts : List Fact) (levels : List Level) → c.nodes ≡ [] → c.merged ≡ [] → b.size ≡ 0 → b.edges ≡ [] → facts ≡ [] → levels ≡ [] → IsPath c b facts false levels
path_none c b facts levels nodes merged size edges none_yet no_level = record {
  size = size ∙ ap length (sym nodes);
  settled = subst (λ (ns : List Node). IsSettled ns facts c.merged b.edges false) (sym nodes)
      (subst (λ (fs : List Fact). IsSettled [] fs c.merged b.edges false) (sym none_yet)
      (subst (λ (ms : List (ℕ × ℕ)). IsSettled [] [] ms b.edges false) (sym merged)
      (subst (λ (es : List Edge). IsSettled [] [] [] es false) (sym edges) settled_none)));
  levels = subst (λ (ls : List Level). AreLevels ls (state c b facts)) (sym no_level) no_levels;
}
