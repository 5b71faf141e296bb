-- Classes and bounds that hold the closure of the facts still do with a fact or a term more.
use Rattle.std.proofs.Common.{◌≡◌, ℕ, ◌+◌, ◌<◌, ◌≤◌, ◌^◌, inl, inr, List, [], ◌∷◌, ◌++◌, length, take, Bool, sym, ◌∙◌, ap, subst, arith, All}
use Rattle.std.specs.Prelude.{ℤ, pos, Contains, IsTrue}
use Rattle.std.proofs.lemmas.Bool.{cases_lt}
use Rattle.std.proofs.lemmas.List.{length_push, take_at, append-nil}
use Rattle.std.proofs.lemmas.List.Elements.{All-push, All-weaker, Contains-append_left, Contains-push, Contains-push_cases}
use Rattle.vf_table.specs.declared.node.Node.{Node}
use Rattle.vf_table.specs.Tables.{PartsAreBelow, IsInteger, IsNumber, HaveClashingHeads}
use Rattle.vf_congruence.specs.Congruence.{Congruent, WereMerged}
use Rattle.vf_growing.specs.declared.journal.Step.TheVariants.{Term}
use Rattle.vf_growing.specs.declared.journal.Moved.{Moved}
use Rattle.vf_growing.specs.Steps.{Growth, terms_of, merges_of}
use Rattle.vf_growing.specs.Histories.{IsMoved, OnlyMovedMeet}
use Rattle.vf_arith.specs.declared.bounds.Edge.{Edge}
use Rattle.vf_arith.specs.declared.bounds.Step.TheVariants.{Point}
use Rattle.vf_arith.specs.Paths.{Network, HasNegativeCycle}
use Rattle.vf_arith.specs.Steps.{points_of, bounds_of}
use Rattle.vf_arith.proofs.Histories.{points_of-append, bounds_of-append}
use Rattle.vf_refute.specs.declared.steps.Fact.{Fact}
use Rattle.vf_ground.specs.Held.{HasFact, HasBoth, HasTerm, AreSound, IsFine, HasSmallNumber, HaveGrown, HasGained, Agree}
use Rattle.vf_ground.proofs.Gained.{fact_kept, term_kept}
use Rattle.vf_combination.specs.Exchanged.{IsOnward, IsUnmarked, AreOfSteps, AreFitting, HaveGoneOn, AreQuiet, AllQuiet, QuietElsewhere, HasClash, HaveFollowed, HaveMarked, IsNew, AreOnward, OnlyMarkedMeet, OnlyMarkedNear}
use Rattle.vf_combination.specs.Settled.{IsSettled}
use Rattle.vf_combination.proofs.Onward.{onward_same, onward_push, onward_join, terms_of-append, merges_of-append}
use Rattle.vf_combination.proofs.Marked.{cycle_more, meet_of, marked_bound, unmarked_below}
use Rattle.vf_combination.proofs.Larger.{sound_more, found_more, congruent_grown, integer_less, heads_less, clash_grown, terms_grown, parts_grown, fine_grown}

-- ---- what is left where some terms were marked

pub elsewhere_kept : (c : Growth) (b : Network) (k : Bool) (m : List Bool) (c' : Growth) (b' : Network) (k' : Bool) (m' : List Bool) → length m ≡ length c.nodes → ((e : Edge) → Contains b.edges e → Contains b'.edges e) → HaveMarked c b k m c' b' k' m' →
    ((HasNegativeCycle b.edges → ⊥) → AllQuiet c b k) → (HasNegativeCycle b'.edges → ⊥) → QuietElsewhere c' b' k' m'
elsewhere_kept c b k m c' b' k' m' long kept h quiet none x y u w =
    let i = unmarked_below m x (h.marked x u) in let j = unmarked_below m y (h.marked y w) in
    h.quiet none x y u w (quiet (λ n. none (cycle_more b.edges b'.edges kept n)) x y (omega arith) (omega arith))

pub elsewhere_bound : (c : Growth) (b : Network) (k : Bool) (m : List Bool) (b' : Network) (m' : List Bool) → OnlyMarkedNear b m b' m' → ((HasNegativeCycle b.edges → ⊥) → QuietElsewhere c b k m) → (HasNegativeCycle b'.edges → ⊥) → QuietElsewhere c b' k m'
elsewhere_bound c b k m b' m' h quiet none x y u w =
    (marked_bound c b b' k m m' h).quiet none x y u w (quiet (λ n. none (cycle_more b.edges b'.edges h.kept n)) x y (h.marked x u) (h.marked y w))

-- ---- a fact more

pub gained_join : (nodes : List Node) (fact : Fact) (m : List (ℕ × ℕ)) (e : List Edge) (m' : List (ℕ × ℕ)) (e' : List Edge) (m'' : List (ℕ × ℕ)) (e'' : List Edge) → HasGained nodes fact m e m' e' → HaveGrown nodes m' e' m'' e'' → HasGained nodes fact m e m'' e''
gained_join nodes fact m e m' e' m'' e'' g h = record {
  merged_kept = λ a b k. h.merged_kept a b (g.merged_kept a b k);
  edges_kept = λ f k. h.edges_kept f (g.edges_kept f k);
  sound = λ facts k s. h.sound facts (g.sound facts k s);
  has = fact_kept m' e' m'' e'' h.merged_kept h.edges_kept fact g.has;
}

pub fact_settled : (c : Growth) (b : Network) (k : Bool) (c' : Growth) (b' : Network) (k' : Bool) (fact : Fact) (facts : List Fact) → c'.nodes ≡ c.nodes → HasGained c.nodes fact c.merged b.edges c'.merged b'.edges →
    ((IsTrue k → HasClash c.nodes c.merged) → IsTrue k' → HasClash c'.nodes c'.merged) → ((HasNegativeCycle b'.edges → ⊥) → AllQuiet c' b' k') → IsFine c.nodes fact →
    IsSettled c.nodes facts c.merged b.edges k → IsSettled c'.nodes (facts ++ fact ∷ []) c'.merged b'.edges k'
fact_settled c b k c' b' k' fact facts nodes gained clash quiet fine s = record {
  sound = subst (λ (ns : List Node). AreSound ns (facts ++ fact ∷ []) c'.merged b'.edges) (sym nodes)
      (gained.sound (facts ++ fact ∷ []) (Contains-push facts fact)
      (sound_more c.nodes c.nodes facts (facts ++ fact ∷ []) (λ a m e. e) (λ l m. Contains-append_left facts (fact ∷ []) l m) c.merged b.edges s.sound));
  complete = λ none. let old = s.complete (λ n. none (cycle_more b.edges b'.edges gained.edges_kept n)) in record {
    facts_in = λ l m. elim (Contains-push_cases facts fact l m) [
      | inl h ↦ fact_kept c.merged b.edges c'.merged b'.edges gained.merged_kept gained.edges_kept l (old.facts_in l h)
      | inr e ↦ subst (HasFact c'.merged b'.edges) e gained.has
    ];
    terms_in = subst (λ (ns : List Node). (a : ℕ) → a < length ns → HasTerm ns b'.edges a) (sym nodes) (λ a l. term_kept c.nodes b.edges b'.edges gained.edges_kept a (old.terms_in a l));
    settled = λ x y i j. (quiet none x y i j).agree;
  };
  clash_is = clash s.clash_is;
  clashes_seen = λ none x y i j p. (quiet none x y i j).clash p;
  fine = subst (λ (ns : List Node). All (IsFine ns) (facts ++ fact ∷ [])) (sym nodes) (All-push (IsFine c.nodes) facts fact s.fine fine);
  parts = subst (λ (ns : List Node). PartsAreBelow ns (length ns)) (sym nodes) s.parts;
  small = subst (λ (ns : List Node). All HasSmallNumber ns) (sym nodes) s.small;
  few = subst (λ (ns : List Node). length ns ≤ 2 ^ 24) (sym nodes) s.few;
}

-- ---- a term more

pub new_of : (c c' : Growth) (b b' : Network) (k : Bool) (node : Node) (term : ℕ) → AreOfSteps c → c'.nodes ≡ c.nodes ++ node ∷ [] → c'.steps ≡ c.steps ++ Term ∷ [] → c'.merged ≡ c.merged → term ≡ length c.nodes → b'.edges ≡ b.edges →
    ((HasNegativeCycle b.edges → ⊥) → AllQuiet c b k) → IsNew c' b' k term
new_of c c' b b' k node term is nodes steps merged number edges quiet = record {
  before = c;
  node = node;
  of_steps = is;
  nodes = nodes;
  steps = steps;
  merged = merged;
  number = number;
  quiet = λ none x y i j. let q = quiet (λ n. none (subst HasNegativeCycle (sym edges) n)) x y i j in
      record { agree = subst (λ (es : List Edge). Agree c.nodes c.merged es x y) (sym edges) q.agree; clash = q.clash };
}

pub fitting_grown : (c c' : Growth) (b b' : Network) (node : Node) → AreFitting c b → c'.nodes ≡ c.nodes ++ node ∷ [] → c'.steps ≡ c.steps ++ Term ∷ [] → c'.merged ≡ c.merged → b'.size ≡ b.size + 1 → b'.steps ≡ b.steps ++ Point ∷ [] → b'.edges ≡ b.edges → AreFitting c' b'
fitting_grown c c' b b' node is nodes steps merged size points edges = record {
  classes = record {
    terms = let e = ap length nodes in let n = length_push c.nodes node in let t = is.classes.terms in let s = ap terms_of steps in let h = terms_of-append c.steps (Term ∷ []) in omega arith;
    merged = merged ∙ is.classes.merged ∙ sym (append-nil (merges_of c.steps)) ∙ sym (merges_of-append c.steps (Term ∷ [])) ∙ ap merges_of (sym steps);
  };
  bounds = record {
    points = let t = is.bounds.points in let s = ap points_of points in let h = points_of-append b.steps (Point ∷ []) in omega arith;
    edges = edges ∙ is.bounds.edges ∙ sym (append-nil (bounds_of b.steps)) ∙ sym (bounds_of-append b.steps (Point ∷ [])) ∙ ap bounds_of (sym points);
  };
  size = let e = ap length nodes in let n = length_push c.nodes node in let s = is.size in omega arith;
}

-- what the new term moved is marked, and so is the term: elsewhere classes and bounds still agree
pub elsewhere_new : (c : Growth) (b : Network) (k : Bool) (term : ℕ) (moved : List Moved) (m : List Bool) → IsNew c b k term → OnlyMovedMeet c moved → ((x : ℕ) → IsUnmarked m x → (x < length c.nodes) × (x ≡ term → ⊥) × (IsMoved moved x → ⊥)) →
    (HasNegativeCycle b.edges → ⊥) → QuietElsewhere c b k m
elsewhere_new c b k term moved m new only marks none x y u w = record {
  agree = record {
    level = λ i j h. q.agree.level (less x (old x u) i) (less y (old y w) j) (meet.meet x y u w h);
    squeezed = λ i j n o. subst (λ (ns : List Node). Congruent ns (WereMerged c.merged) x y) (sym new.nodes)
        (subst (λ (ms : List (ℕ × ℕ)). Congruent (new.before.nodes ++ new.node ∷ []) (WereMerged ms) x y) (sym new.merged)
        (congruent_grown new.before.nodes new.node (q.agree.squeezed (less x (old x u) i) (less y (old y w) j) n o)));
  };
  clash = λ p. q.clash (record { heads = heads_less new.before.nodes new.node x y (old x u) (old y w) (subst (λ (ns : List Node). HaveClashingHeads ns x y) new.nodes p.heads); same = meet.meet x y u w p.same });
}
  where
    old : (z : ℕ) → IsUnmarked m z → z < length new.before.nodes
    old z v = let h = marks z v in let l = h.0 in let n = h.1 in let e = ap length new.nodes in let s = length_push new.before.nodes new.node in let t = new.number in
        elim (cases_lt z (length new.before.nodes)) [
          | inl i ↦ i
          | inr i ↦ absurd (n (omega arith))
        ]

    meet : OnlyMarkedMeet new.before m c m
    meet = meet_of new.before c Term moved m m new.of_steps new.steps
        (ap (take (terms_of new.before.steps)) new.nodes ∙ take_at new.before.nodes (new.node ∷ []) (terms_of new.before.steps) new.of_steps.terms)
        (λ z v. (v, old z v, (marks z v).2)) only

    q : AreQuiet new.before b k x y
    q = new.quiet none x y (old x u) (old y w)

    less : (z : ℕ) → z < length new.before.nodes → IsInteger c.nodes z → IsInteger new.before.nodes z
    less z l i = integer_less new.before.nodes new.node z l (subst (λ (ns : List Node). IsInteger ns z) new.nodes i)

pub term_settled : (c : Growth) (b : Network) (k : Bool) (c1 : Growth) (b1 : Network) (c2 : Growth) (b2 : Network) (k2 : Bool) (node : Node) (term : ℕ) (facts : List Fact) → c1.nodes ≡ c.nodes ++ node ∷ [] → c1.merged ≡ c.merged → b1.edges ≡ b.edges → c2.nodes ≡ c1.nodes → term ≡ length c.nodes →
    HaveFollowed c1 b1 k c2 b2 k2 → HasTerm c1.nodes b2.edges term → ((z : ℤ) (a : ℕ) → IsNumber c1.nodes a z → IsNumber c1.nodes term (pos 0) → HasBoth b2.edges a term z) → ((HasNegativeCycle b2.edges → ⊥) → AllQuiet c2 b2 k2) →
    HasSmallNumber node → All (λ part. part < length c.nodes) node.parts.items → length c.nodes + 1 ≤ 2 ^ 24 → IsSettled c.nodes facts c.merged b.edges k → IsSettled c2.nodes facts c2.merged b2.edges k2
term_settled c b k c1 b1 c2 b2 k2 node term facts nodes merged edges same number followed has zero_bounds quiet small parts few s = record {
  sound = subst (λ (ns : List Node). AreSound ns facts c2.merged b2.edges) (sym all) (grown.sound facts
      (sound_more c.nodes (c.nodes ++ node ∷ []) facts facts (λ a m e. found_more c.nodes node a m e) (λ l m. m) c.merged b.edges s.sound));
  complete = λ none. let old = s.complete (λ n. none (cycle_more b.edges b2.edges grown.edges_kept n)) in record {
    facts_in = λ l m. fact_kept c.merged b.edges c2.merged b2.edges grown.merged_kept grown.edges_kept l (old.facts_in l m);
    terms_in = subst (λ (ns : List Node). (a : ℕ) → a < length ns → HasTerm ns b2.edges a) (sym all)
        (terms_grown c.nodes node b.edges b2.edges grown.edges_kept s.parts old.terms_in term number
        (subst (λ (ns : List Node). HasTerm ns b2.edges term) nodes has)
        (subst (λ (ns : List Node). (z : ℤ) (a : ℕ) → IsNumber ns a z → IsNumber ns term (pos 0) → HasBoth b2.edges a term z) nodes zero_bounds));
    settled = λ x y i j. (quiet none x y i j).agree;
  };
  clash_is = followed.clash (λ t. subst (λ (ns : List Node). HasClash ns c1.merged) (sym nodes) (subst (HasClash (c.nodes ++ node ∷ [])) (sym merged) (clash_grown c.nodes node c.merged (s.clash_is t))));
  clashes_seen = λ none x y i j p. (quiet none x y i j).clash p;
  fine = subst (λ (ns : List Node). All (IsFine ns) facts) (sym all) (All-weaker (IsFine c.nodes) (IsFine (c.nodes ++ node ∷ [])) (fine_grown c.nodes node) facts s.fine);
  parts = subst (λ (ns : List Node). PartsAreBelow ns (length ns)) (sym all) (parts_grown c.nodes node s.parts parts);
  small = subst (λ (ns : List Node). All HasSmallNumber ns) (sym all) (All-push HasSmallNumber c.nodes node s.small small);
  few = let e = ap length all in let n = length_push c.nodes node in omega arith;
}
  where
    all : c2.nodes ≡ c.nodes ++ node ∷ []
    all = same ∙ nodes

    grown : HaveGrown (c.nodes ++ node ∷ []) c.merged b.edges c2.merged b2.edges
    grown = subst (λ (ns : List Node). HaveGrown ns c.merged b.edges c2.merged b2.edges) nodes
        (subst (λ (ms : List (ℕ × ℕ)). HaveGrown c1.nodes ms b.edges c2.merged b2.edges) merged
        (subst (λ (es : List Edge). HaveGrown c1.nodes c1.merged es c2.merged b2.edges) edges followed.grown))

-- ---- on, and back

pub onward_term : (c c' : Growth) (b b' : Network) (node : Node) → c'.nodes ≡ c.nodes ++ node ∷ [] → c'.steps ≡ c.steps ++ Term ∷ [] → IsOnward b.steps b'.steps → AreOnward c b c' b'
onward_term c c' b b' node nodes steps points = record { nodes = onward_push c.nodes c'.nodes node nodes; class_steps = onward_push c.steps c'.steps Term steps; bound_steps = points }

pub onward_all : (c : Growth) (b : Network) (c' : Growth) (b' : Network) (c'' : Growth) (b'' : Network) → AreOnward c b c' b' → HaveGoneOn c' b' c'' b'' → AreOnward c b c'' b''
onward_all c b c' b' c'' b'' g h = record {
  nodes = onward_join c.nodes c'.nodes c''.nodes g.nodes (onward_same c'.nodes c''.nodes h.classes.nodes);
  class_steps = onward_join c.steps c'.steps c''.steps g.class_steps h.classes.steps;
  bound_steps = onward_join b.steps b'.steps b''.steps g.bound_steps h.bounds.steps;
}
