-- What marks say of the terms that are not marked.
use Rattle.std.proofs.Common.{◌≡◌, ℕ, ◌-◌, ◌<◌, ◌⊎◌, inl, inr, List, [], ◌∷◌, ◌++◌, length, take, set, Bool, true, false, refl, sym, ◌∙◌, ap, subst, arith}
use Rattle.std.specs.Prelude.{ℤ, pos, ◌+ℤ◌, Contains, IsTrue, ◌||◌}
use Rattle.std.proofs.lemmas.Int.{ints}
use Rattle.std.proofs.lemmas.Bool.{cases_lt, cases_eq}
use Rattle.std.proofs.lemmas.List.{length_push, take_at, get_or_past, length-set, get_or-set_other}
use Rattle.std.proofs.lemmas.List.Elements.{Contains-append_left, Contains-push}
use Rattle.vf_table.specs.declared.node.Node.{Node}
use Rattle.vf_table.specs.Tables.{IsInteger, HaveClashingHeads}
use Rattle.vf_congruence.specs.Congruence.{Congruent, based, congruent_back, WereMerged}
use Rattle.vf_congruence.proofs.Meeting.{congruent_bind}
use Rattle.vf_growing.specs.declared.journal.Step as merging
use Rattle.vf_growing.specs.declared.journal.Moved.{Moved}
use Rattle.vf_growing.specs.Steps.{Growth, terms_of, merges_of, all_but_last}
use Rattle.vf_growing.specs.Histories.{IsMoved, OnlyMovedMeet}
use Rattle.vf_arith.specs.declared.bounds.Edge.{Edge}
use Rattle.vf_arith.specs.declared.bounds.Step.TheVariants.{Bound}
use Rattle.vf_arith.specs.declared.journal.Saved.{Saved}
use Rattle.vf_arith.specs.Paths.{Path, path_none, path_edge, Network, HasNegativeCycle}
use Rattle.vf_arith.specs.Steps as bounding
use Rattle.vf_arith.specs.Histories.{IsSaved, HasPathUnder, OnlySavedShorten}
use Rattle.vf_ground.specs.Held.{IsNear, Clash, HaveGrown}
use Rattle.vf_ground.proofs.Closing.{grown_join}
use Rattle.vf_combination.specs.Exchanged.{IsUnmarked, AreOfSteps, AreBoundsOfSteps, OnlyMarkedMeet, IsSqueezed, OnlyMarkedNear, AreQuiet, QuietElsewhere, HasClash, HaveFollowed, HaveMarked, HaveFallen}

pub unmarked_below : (m : List Bool) (x : ℕ) → IsUnmarked m x → x < length m
unmarked_below m x u = elim (cases_lt x (length m)) [
  | inl l ↦ l
  | inr l ↦ absurd (let e : true ≡ false = sym (get_or_past m x true l) ∙ u in cc)
]

front_is : {X : Type 0} (xs ys : List X) (x : X) → ys ≡ xs ++ x ∷ [] → take (length ys - 1) ys ≡ xs
front_is xs ys x e = ap (λ zs. take (length zs - 1) zs) e ∙ take_at xs (x ∷ []) (length (xs ++ x ∷ []) - 1) (let h = length_push xs x in omega arith)

pub meet_of : (c c' : Growth) (s : merging.Step) (moved : List Moved) (m m' : List Bool) → AreOfSteps c → c'.steps ≡ c.steps ++ s ∷ [] → take (terms_of c.steps) c'.nodes ≡ c.nodes →
    ((x : ℕ) → IsUnmarked m' x → IsUnmarked m x × (x < length c.nodes) × (IsMoved moved x → ⊥)) → OnlyMovedMeet c' moved → OnlyMarkedMeet c m c' m'
meet_of c c' s moved m m' is steps back marks only = record {
  marked = λ x u. (marks x u).0;
  meet = λ x y u w h.
      let front : all_but_last c'.steps ≡ c.steps = front_is c.steps c'.steps s steps in
      let e = is.terms in
      let terms : terms_of (all_but_last c'.steps) ≡ length c.nodes = ap terms_of front ∙ sym e in
      let lx = (marks x u).1 in let ly = (marks y w).1 in
      subst (λ (ns : List Node). Congruent ns (WereMerged c.merged) x y) back
      (subst (λ (ms : List (ℕ × ℕ)). Congruent (take (terms_of c.steps) c'.nodes) (WereMerged ms) x y) (sym is.merged)
      (subst (λ (ss : List merging.Step). Congruent (take (terms_of ss) c'.nodes) (WereMerged (merges_of ss)) x y) front
      (only x y (omega arith) (omega arith) (marks x u).2 (marks y w).2 h)));
}

squeezed_of : (b : Network) (saved : List Saved) (x y : ℕ) (s : IsSaved saved x y) → x < b.size → y < b.size → IsNear b.edges x y (pos 0) → IsNear b.edges y x (pos 0) → IsSqueezed b s.kept
squeezed_of b saved x y s i j up down = record {
  left = let e = s.left in omega arith;
  right = let e = s.right in omega arith;
  up = subst (λ p. IsNear b.edges p s.kept.y (pos 0)) (sym s.left) (subst (λ q. IsNear b.edges x q (pos 0)) (sym s.right) up);
  down = subst (λ p. IsNear b.edges s.kept.y p (pos 0)) (sym s.left) (subst (λ q. IsNear b.edges q x (pos 0)) (sym s.right) down);
}

pub near_of : (b b' : Network) (e : Edge) (saved : List Saved) (m m' : List Bool) → AreBoundsOfSteps b → b'.steps ≡ b.steps ++ Bound e ∷ [] → b'.size ≡ b.size → length m ≡ b.size → b'.edges ≡ b.edges ++ e ∷ [] →
    ((x : ℕ) → IsUnmarked m' x → IsUnmarked m x × ((s : Saved) → Contains saved s → IsSqueezed b' s → s.x ≡ x → ⊥)) → OnlySavedShorten b' saved → OnlyMarkedNear b m b' m'
near_of b b' e saved m m' is steps size long edges marks only = record {
  marked = λ x u. (marks x u).0;
  kept = λ f h. subst (λ (l : List Edge). Contains l f) (sym edges) (Contains-append_left b.edges (e ∷ []) f h);
  near = λ fine x y u w h k.
      let lx = unmarked_below m x (marks x u).0 in let ly = unmarked_below m y (marks y w).0 in
      let r = subst (λ (es : List Edge). HasPathUnder es x y h.total) (ap bounding.bounds_of (front_is b.steps b'.steps (Bound e) steps) ∙ sym is.edges)
      (only x y h.total (omega arith) (omega arith) (λ s. (marks x u).1 s.kept s.found (squeezed_of b' saved x y s (omega arith) (omega arith) h k) s.left) h.path) in
      record { total = r.total; path = r.path; under = let p = r.under in let q = h.under in omega (arith, ints) };
}

pub path_more : {edges edges' : List Edge} {x y : ℕ} {t : ℤ} → ((e : Edge) → Contains edges e → Contains edges' e) → Path edges x y t → Path edges' x y t
path_more k path_none = path_none
path_more k (path_edge e m h) = path_edge e (k e m) (path_more k h)

pub near_more : {edges edges' : List Edge} {x y : ℕ} {t : ℤ} → ((e : Edge) → Contains edges e → Contains edges' e) → IsNear edges x y t → IsNear edges' x y t
near_more k h = record { total = h.total; path = path_more k h.path; under = h.under }

pub cycle_more : (edges edges' : List Edge) → ((e : Edge) → Contains edges e → Contains edges' e) → HasNegativeCycle edges → HasNegativeCycle edges'
cycle_more edges edges' k h = record { point = h.point; total = h.total; cycle = path_more k h.cycle; below = h.below }

-- what was given holds
pub near_pushed : (edges edges' : List Edge) (e : Edge) → edges' ≡ edges ++ e ∷ [] → IsNear edges' e.from e.to e.most
near_pushed edges edges' e is = record { total = e.most +ℤ pos 0; path = path_edge e (subst (λ (l : List Edge). Contains l e) (sym is) (Contains-push edges e)) path_none; under = omega (arith, ints) }

pub same_pushed : (c c' : Growth) (a b : ℕ) → c'.merged ≡ c.merged ++ (a, b) ∷ [] → Congruent c'.nodes (WereMerged c'.merged) a b
same_pushed c c' a b is = based (subst (λ (l : List (ℕ × ℕ)). Contains l (a, b)) (sym is) (Contains-push c.merged (a, b)))

pub merged_kept : (c c' : Growth) (a b : ℕ) → c'.merged ≡ c.merged ++ (a, b) ∷ [] → (x y : ℕ) → WereMerged c.merged x y → WereMerged c'.merged x y
merged_kept c c' a b is x y h = subst (λ (l : List (ℕ × ℕ)). Contains l (x, y)) (sym is) (Contains-append_left c.merged ((a, b) ∷ []) (x, y) h)

pub near_join : (b : Network) (m : List Bool) (b' : Network) (m' : List Bool) (b'' : Network) (m'' : List Bool) → OnlyMarkedNear b m b' m' → OnlyMarkedNear b' m' b'' m'' → OnlyMarkedNear b m b'' m''
near_join b m b' m' b'' m'' g h = record {
  marked = λ x u. g.marked x (h.marked x u);
  kept = λ e k. h.kept e (g.kept e k);
  near = λ fine x y u w k l. g.near (λ n. fine (cycle_more b'.edges b''.edges h.kept n)) x y (h.marked x u) (h.marked y w) (h.near fine x y u w k l) (h.near fine y x w u l k);
}

congruent_more : {nodes : List Node} (ms ms' : List (ℕ × ℕ)) {x y : ℕ} → ((a b : ℕ) → WereMerged ms a b → WereMerged ms' a b) → Congruent nodes (WereMerged ms) x y → Congruent nodes (WereMerged ms') x y
congruent_more ms ms' k h = congruent_bind h (λ a b w. based (k a b w))

pub marked_merge : (c c' : Growth) (b : Network) (k : Bool) (m m' : List Bool) → c'.nodes ≡ c.nodes → ((x y : ℕ) → WereMerged c.merged x y → WereMerged c'.merged x y) → OnlyMarkedMeet c m c' m' → HaveMarked c b k m c' b k m'
marked_merge c c' b k m m' nodes kept h = record {
  marked = h.marked;
  quiet = λ fine x y u w q. record {
    agree = record {
      level = λ i j s. q.agree.level (subst (λ (ns : List Node). IsInteger ns x) nodes i) (subst (λ (ns : List Node). IsInteger ns y) nodes j) (h.meet x y u w s);
      squeezed = λ i j n o. congruent_more c.merged c'.merged kept (subst (λ (ns : List Node). Congruent ns (WereMerged c.merged) x y) (sym nodes) (q.agree.squeezed (subst (λ (ns : List Node). IsInteger ns x) nodes i) (subst (λ (ns : List Node). IsInteger ns y) nodes j) n o));
    };
    clash = λ p. q.clash (record { heads = subst (λ (ns : List Node). HaveClashingHeads ns x y) nodes p.heads; same = h.meet x y u w p.same });
  };
}

pub marked_bound : (c : Growth) (b b' : Network) (k : Bool) (m m' : List Bool) → OnlyMarkedNear b m b' m' → HaveMarked c b k m c b' k m'
marked_bound c b b' k m m' h = record {
  marked = h.marked;
  quiet = λ fine x y u w q. record {
    agree = record {
      level = λ i j s. near_more h.kept (q.agree.level i j s);
      squeezed = λ i j n o. q.agree.squeezed i j (h.near fine x y u w n o) (h.near fine y x w u o n);
    };
    clash = q.clash;
  };
}

-- two terms of one class have nothing to exchange once the first is within 0 of the second
pub bound_quiet : (c : Growth) (b : Network) (k : Bool) (x y : ℕ) → Congruent c.nodes (WereMerged c.merged) x y → IsNear b.edges x y (pos 0) → (Clash c.nodes c.merged x y → IsTrue k) → AreQuiet c b k x y
bound_quiet c b k x y same near known = record { agree = record { level = λ i j s. near; squeezed = λ i j n o. same }; clash = known }

pub quiet_known : (c : Growth) (b : Network) (k k' : Bool) (x y : ℕ) → (IsTrue k → IsTrue k') → AreQuiet c b k x y → AreQuiet c b k' x y
quiet_known c b k k' x y f q = record { agree = q.agree; clash = λ p. f (q.clash p) }

pub marked_join : (c : Growth) (b : Network) (k : Bool) (m : List Bool) (c' : Growth) (b' : Network) (k' : Bool) (m' : List Bool) (c'' : Growth) (b'' : Network) (k'' : Bool) (m'' : List Bool) →
    ((e : Edge) → Contains b'.edges e → Contains b''.edges e) → HaveMarked c b k m c' b' k' m' → HaveMarked c' b' k' m' c'' b'' k'' m'' → HaveMarked c b k m c'' b'' k'' m''
marked_join c b k m c' b' k' m' c'' b'' k'' m'' kept g h = record {
  marked = λ x u. g.marked x (h.marked x u);
  quiet = λ fine x y u w q. h.quiet fine x y u w (g.quiet (λ n. fine (cycle_more b'.edges b''.edges kept n)) x y (h.marked x u) (h.marked y w) q);
}

pub clash_more : (c c' : Growth) → c'.nodes ≡ c.nodes → ((x y : ℕ) → WereMerged c.merged x y → WereMerged c'.merged x y) → HasClash c.nodes c.merged → HasClash c'.nodes c'.merged
clash_more c c' nodes kept h = record {
  left = h.left;
  right = h.right;
  clash = subst (λ (ns : List Node). Clash ns c'.merged h.left h.right) (sym nodes) (record { heads = h.clash.heads; same = congruent_more c.merged c'.merged kept h.clash.same });
}

pub followed_of : (c : Growth) (b : Network) (k : Bool) (c' : Growth) (b' : Network) → c'.nodes ≡ c.nodes → HaveGrown c.nodes c.merged b.edges c'.merged b'.edges → HaveFollowed c b k c' b' k
followed_of c b k c' b' nodes grown = record { grown = grown; known = λ t. t; clash = λ f t. clash_more c c' nodes grown.merged_kept (f t) }

pub followed_join : (c : Growth) (b : Network) (k : Bool) (c' : Growth) (b' : Network) (k' : Bool) (c'' : Growth) (b'' : Network) (k'' : Bool) → c'.nodes ≡ c.nodes → HaveFollowed c b k c' b' k' → HaveFollowed c' b' k' c'' b'' k'' → HaveFollowed c b k c'' b'' k''
followed_join c b k c' b' k' c'' b'' k'' nodes g h = record {
  grown = grown_join c.nodes c.merged b.edges c'.merged b'.edges c''.merged b''.edges g.grown (subst (λ (ns : List Node). HaveGrown ns c'.merged b'.edges c''.merged b''.edges) nodes h.grown);
  known = λ t. h.known (g.known t);
  clash = λ f. h.clash (g.clash f);
}

pub fallen_join : (g h : Bool) (c : Growth) (b : Network) (c' : Growth) (b' : Network) (c'' : Growth) (b'' : Network) → ((e : Edge) → Contains b'.edges e → Contains b''.edges e) → HaveFallen g c b c' b' → HaveFallen h c' b' c'' b'' → HaveFallen (g || h) c b c'' b''
fallen_join false h c b c' b' c'' b'' kept p q = record {
  same = λ f. let s = p.same refl in let r = q.same f in (r.0 ∙ s.0, r.1 ∙ s.1);
  falls = λ t fine. let s = p.same refl in let l = q.falls t fine in let u = ap (λ (m : Growth). m.weight) s.0 in let w = ap (λ (n : Network). n.weight) s.1 in omega arith;
}
fallen_join true false c b c' b' c'' b'' kept p q = record {
  same = λ f. absurd (cc);
  falls = λ t fine. let s = q.same refl in let l = p.falls refl (λ n. fine (cycle_more b'.edges b''.edges kept n)) in let u = ap (λ (m : Growth). m.weight) s.0 in let w = ap (λ (n : Network). n.weight) s.1 in omega arith;
}
fallen_join true true c b c' b' c'' b'' kept p q = record {
  same = λ f. absurd (cc);
  falls = λ t fine. let l = p.falls refl (λ n. fine (cycle_more b'.edges b''.edges kept n)) in let r = q.falls refl fine in omega arith;
}

pub fallen_then : (g : Bool) (c : Growth) (b : Network) (c' : Growth) (b' : Network) (c'' : Growth) (b'' : Network) → ((e : Edge) → Contains b'.edges e → Contains b''.edges e) → HaveFallen g c b c' b' → HaveFallen true c' b' c'' b'' → HaveFallen true c b c'' b''
fallen_then true c b c' b' c'' b'' kept p q = fallen_join true true c b c' b' c'' b'' kept p q
fallen_then false c b c' b' c'' b'' kept p q = fallen_join false true c b c' b' c'' b'' kept p q

pub fallen_else : (g : Bool) (c : Growth) (b : Network) (c' : Growth) (b' : Network) (c'' : Growth) (b'' : Network) → ((e : Edge) → Contains b'.edges e → Contains b''.edges e) → HaveFallen g c b c' b' → HaveFallen false c' b' c'' b'' → HaveFallen g c b c'' b''
fallen_else true c b c' b' c'' b'' kept p q = fallen_join true false c b c' b' c'' b'' kept p q
fallen_else false c b c' b' c'' b'' kept p q = fallen_join false false c b c' b' c'' b'' kept p q

-- ---- what is known of clashes

pub followed_noted : (c : Growth) (b : Network) (k k' : Bool) (c' : Growth) (b' : Network) (x y : ℕ) → (IsTrue k → IsTrue k') → (IsTrue k' → IsTrue k ⊎ Clash c.nodes c.merged x y) → HaveFollowed c b k' c' b' k' → HaveFollowed c b k c' b' k'
followed_noted c b k k' c' b' x y kept only h = record {
  grown = h.grown;
  known = kept;
  clash = λ f. h.clash (λ t. elim (only t) [
    | inl u ↦ f u
    | inr p ↦ record { left = x; right = y; clash = p }
  ]);
}

pub marked_noted : (c : Growth) (b : Network) (k k' : Bool) (m : List Bool) (c' : Growth) (b' : Network) (m' : List Bool) → (IsTrue k → IsTrue k') → HaveMarked c b k' m c' b' k' m' → HaveMarked c b k m c' b' k' m'
marked_noted c b k k' m c' b' m' kept h = record { marked = h.marked; quiet = λ fine x y u w q. h.quiet fine x y u w (quiet_known c b k k' x y kept q) }

-- ---- two terms in both orders

-- two terms that are in two classes, and not within 0 both ways, have nothing to exchange
pub apart_quiet : (c : Growth) (b : Network) (k : Bool) (x y : ℕ) → (Congruent c.nodes (WereMerged c.merged) x y → ⊥) → (IsNear b.edges x y (pos 0) → IsNear b.edges y x (pos 0) → ⊥) → AreQuiet c b k x y × AreQuiet c b k y x
apart_quiet c b k x y two far = (
  record { agree = record { level = λ i j s. absurd (two s); squeezed = λ i j n o. absurd (far n o) }; clash = λ p. absurd (two p.same) },
  record { agree = record { level = λ i j s. absurd (two (congruent_back s)); squeezed = λ i j n o. absurd (far o n) }; clash = λ p. absurd (two (congruent_back p.same)) },
)

pub both_quiet : (c : Growth) (b : Network) (k : Bool) (m : List Bool) (c' : Growth) (b' : Network) (k' : Bool) (m' : List Bool) (x y : ℕ) → ((e : Edge) → Contains b.edges e → Contains b'.edges e) → HaveMarked c b k m c' b' k' m' →
    ((HasNegativeCycle b.edges → ⊥) → IsUnmarked m x → IsUnmarked m y → AreQuiet c b k x y) → ((HasNegativeCycle b'.edges → ⊥) → IsUnmarked m' y → IsUnmarked m' x → AreQuiet c' b' k' y x) →
    (HasNegativeCycle b'.edges → ⊥) → IsUnmarked m' x → IsUnmarked m' y → AreQuiet c' b' k' x y × AreQuiet c' b' k' y x
both_quiet c b k m c' b' k' m' x y kept h first second fine u w =
    (h.quiet fine x y u w (first (λ n. fine (cycle_more b.edges b'.edges kept n)) (h.marked x u) (h.marked y w)), second fine w u)

pub both_kept : (c : Growth) (b : Network) (k : Bool) (m : List Bool) (c' : Growth) (b' : Network) (k' : Bool) (m' : List Bool) (x y : ℕ) → (HasNegativeCycle b'.edges → ⊥) → HaveMarked c b k m c' b' k' m' →
    (IsUnmarked m x → IsUnmarked m y → AreQuiet c b k x y × AreQuiet c b k y x) → IsUnmarked m' x → IsUnmarked m' y → AreQuiet c' b' k' x y × AreQuiet c' b' k' y x
both_kept c b k m c' b' k' m' x y fine h before u w = let q = before (h.marked x u) (h.marked y w) in (h.quiet fine x y u w q.0, h.quiet fine y x w u q.1)

-- ---- a mark that is taken away

unmarked_other : (m : List Bool) (x y : ℕ) → IsUnmarked (set m x false) y → (y ≡ x → ⊥) → IsUnmarked m y
unmarked_other m x y u n = sym (get_or-set_other m x y false true n) ∙ u

pub elsewhere_of : (c : Growth) (b : Network) (k : Bool) (m : List Bool) (c' : Growth) (b' : Network) (k' : Bool) (m' : List Bool) (x : ℕ) → (HasNegativeCycle b'.edges → ⊥) → length m ≡ length c.nodes → QuietElsewhere c b k m → HaveMarked c b k (set m x false) c' b' k' m' →
    ((y : ℕ) → y < length c.nodes → IsUnmarked m' x → IsUnmarked m' y → AreQuiet c' b' k' x y × AreQuiet c' b' k' y x) → QuietElsewhere c' b' k' m'
elsewhere_of c b k m c' b' k' m' x fine long before h beside p q u w = elim (cases_eq p x) [
  | inl e ↦ subst (λ z. AreQuiet c' b' k' z q) (sym e) (beside q (within q w) (subst (IsUnmarked m') e u) w).0
  | inr n ↦ elim (cases_eq q x) [
    | inl e ↦ subst (λ z. AreQuiet c' b' k' p z) (sym e) (beside p (within p u) (subst (IsUnmarked m') e w) u).1
    | inr o ↦ h.quiet fine p q u w (before p q (unmarked_other m x p (h.marked p u) n) (unmarked_other m x q (h.marked q w) o))
  ]
]
  where
    within : (z : ℕ) → IsUnmarked m' z → z < length c.nodes
    within z v = let l = unmarked_below (set m x false) z (h.marked z v) in omega (arith, length-set m x false)

pub fine_same : (b b' : Network) → b' ≡ b → (HasNegativeCycle b.edges → ⊥) → HasNegativeCycle b'.edges → ⊥
fine_same b b' e fine h = fine (subst (λ (n : Network). HasNegativeCycle n.edges) e h)
