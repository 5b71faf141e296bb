-- A run goes on.
use Rattle.std.proofs.Common.{◌≡◌, ℕ, zero, suc, ◌<◌, ◌⊎◌, inl, inr, List, [], ◌∷◌, ◌++◌, length, Some, refl, sym, ◌∙◌, ap, subst, arith, length-append}
use Rattle.std.specs.Prelude.{slice_get, slice_index, Contains}
use Rattle.std.proofs.lemmas.List.Elements.{Contains-append_left}
use Rattle.vf_table.specs.declared.node.Node.{Node}
use Rattle.vf_table.specs.Tables.{IsInteger}
use Rattle.vf_congruence.specs.Explained as equalities
use Rattle.vf_arith.specs.declared.bounds.Edge.{Edge}
use Rattle.vf_refute.specs.declared.steps.Derived.{Derived}
use Rattle.vf_refute.specs.declared.steps.Derived.TheVariants.{AreEqual, AreWithin}
use Rattle.vf_refute.specs.Refutations.{HasDerived}
use Rattle.vf_log.specs.Copies.{HaveSameTerms}
use Rattle.vf_log.specs.Derivations.{Derivation, IsContinued}
use Rattle.vf_log.proofs.Continued.{continued_none, continued_more, same_kept}
use Rattle.vf_explain.specs.Reached as bounds_
use Rattle.vf_refuting.specs.declared.run.Run.{Run}
use Rattle.vf_refuting.proofs.Copied.{integer_kept}
use Rattle.vf_refuting.specs.Runs.{IsRun, GoesOn}

push_cases : {A : Type 0} (xs : List A) (e : A) (i : ℕ) (v : A) → slice_get (xs ++ e ∷ []) i ≡ Some v → ((slice_get xs i ≡ Some v) × (i < length xs)) ⊎ ((i ≡ length xs) × (e ≡ v))
push_cases [] e zero v h = inr (refl, let q : e ≡ v = cc in q)
push_cases [] e (suc i) v h = absurd cc
push_cases (x ∷ xs) e zero v h = inl (h, omega arith)
push_cases (x ∷ xs) e (suc i) v h = elim (push_cases xs e i v h) [
  | inl k ↦ inl (k.0, let l = k.1 in omega (arith, l))
  | inr k ↦ inr (ap suc k.0, k.1)
]

index_left : (xs : List ℕ) (r i : ℕ) → i < length xs → slice_index (xs ++ r ∷ []) i ≡ slice_index xs i
index_left [] r i l = absurd (omega (arith, l))
index_left (x ∷ xs) r zero l = refl
index_left (x ∷ xs) r (suc i) l = index_left xs r i (omega (arith, l))

index_last : (xs : List ℕ) (r i : ℕ) → i ≡ length xs → slice_index (xs ++ r ∷ []) i ≡ r
index_last [] r zero e = refl
index_last [] r (suc i) e = absurd (omega (arith, e))
index_last (x ∷ xs) r zero e = absurd (omega (arith, e))
index_last (x ∷ xs) r (suc i) e = index_last xs r i (omega (arith, e))

equal_pushed : (known : List Derived) (merged merged' : List (ℕ × ℕ)) (reasons reasons' : List ℕ) (a b r : ℕ) → equalities.AreReasons known merged reasons → merged' ≡ merged ++ (a, b) ∷ [] → reasons' ≡ reasons ++ r ∷ [] → HasDerived known r (AreEqual a b) → equalities.AreReasons known merged' reasons'
equal_pushed known merged merged' reasons reasons' a b r h m q d =
    let long = h.long in
    subst (λ (ms : List (ℕ × ℕ)). equalities.AreReasons known ms reasons') (sym m)
    (subst (λ (rs : List ℕ). equalities.AreReasons known (merged ++ (a, b) ∷ []) rs) (sym q)
    (record {
      long = simp length-append (omega (arith, long));
      each = λ i x y there. elim (push_cases merged (a, b) i (x, y) there) [
        | inl k ↦ (let l = k.1 in subst (λ s. HasDerived known s (AreEqual x y)) (sym (index_left reasons r i (omega (arith, l, long)))) (h.each i x y k.0))
        | inr k ↦ (let l = k.0 in
            subst (λ s. HasDerived known s (AreEqual x y)) (sym (index_last reasons r i (omega (arith, l, long))))
            (subst (λ (p : ℕ × ℕ). HasDerived known r (AreEqual p.0 p.1)) k.1 d))
      ];
    }))

within_pushed : (known : List Derived) (edges edges' : List Edge) (reasons reasons' : List ℕ) (e : Edge) (r : ℕ) → bounds_.AreReasons known edges reasons → edges' ≡ edges ++ e ∷ [] → reasons' ≡ reasons ++ r ∷ [] → HasDerived known r (AreWithin e.from e.to e.most) → bounds_.AreReasons known edges' reasons'
within_pushed known edges edges' reasons reasons' e r h m q d =
    let long = h.long in
    subst (λ (es : List Edge). bounds_.AreReasons known es reasons') (sym m)
    (subst (λ (rs : List ℕ). bounds_.AreReasons known (edges ++ e ∷ []) rs) (sym q)
    (record {
      long = simp length-append (omega (arith, long));
      each = λ i f there. elim (push_cases edges e i f there) [
        | inl k ↦ (let l = k.1 in subst (λ s. HasDerived known s (AreWithin f.from f.to f.most)) (sym (index_left reasons r i (omega (arith, l, long)))) (h.each i f k.0))
        | inr k ↦ (let l = k.0 in
            subst (λ s. HasDerived known s (AreWithin f.from f.to f.most)) (sym (index_last reasons r i (omega (arith, l, long))))
            (subst (λ (p : Edge). HasDerived known r (AreWithin p.from p.to p.most)) k.1 d))
      ];
    }))

-- one pair more is merged
pub merge_goes : (before after : Run) (a b r : ℕ) → IsRun before → HasDerived before.log.known r (AreEqual a b) → after.log ≡ before.log → after.classes.nodes ≡ before.classes.nodes → after.classes.merged ≡ before.classes.merged ++ (a, b) ∷ [] → after.bounds ≡ before.bounds → after.equal.items ≡ before.equal.items ++ r ∷ [] → after.within.items ≡ before.within.items → GoesOn before after
merge_goes before after a b r h d log nodes merged bounds equal within = record {
  is = record {
    terms = subst (λ (l : Derivation). HaveSameTerms after.classes.nodes l.nodes) (sym log) (subst (λ (ns : List Node). HaveSameTerms ns before.log.nodes) (sym nodes) h.terms);
    size = ap (λ w. w.size) bounds ∙ h.size ∙ ap length (sym nodes);
    equal = subst (λ (l : Derivation). equalities.AreReasons l.known after.classes.merged after.equal.items) (sym log) (equal_pushed before.log.known before.classes.merged after.classes.merged before.equal.items after.equal.items a b r h.equal merged equal d);
    within = subst (λ (l : Derivation). bounds_.AreReasons l.known after.bounds.edges after.within.items) (sym log) (rw bounds (rw within h.within));
  };
  nodes = nodes;
  log = subst (λ (l : Derivation). IsContinued before.log l) (sym log) (continued_none before.log);
  merged = λ x y m. subst (λ (l : List (ℕ × ℕ)). Contains l (x, y)) (sym merged) (Contains-append_left before.classes.merged ((a, b) ∷ []) (x, y) m);
  edges = λ e m. rw bounds m;
}

-- one bound more is added
pub add_goes : (before after : Run) (e : Edge) (r : ℕ) → IsRun before → HasDerived before.log.known r (AreWithin e.from e.to e.most) → after.log ≡ before.log → after.classes ≡ before.classes → after.bounds.size ≡ before.bounds.size → after.bounds.edges ≡ before.bounds.edges ++ e ∷ [] → after.equal.items ≡ before.equal.items → after.within.items ≡ before.within.items ++ r ∷ [] → GoesOn before after
add_goes before after e r h d log classes size edges equal within = record {
  is = record {
    terms = rw log (rw classes h.terms);
    size = size ∙ h.size ∙ sym (ap (λ w. length w.nodes) classes);
    equal = rw log (rw classes (rw equal h.equal));
    within = subst (λ (l : Derivation). bounds_.AreReasons l.known after.bounds.edges after.within.items) (sym log) (within_pushed before.log.known before.bounds.edges after.bounds.edges before.within.items after.within.items e r h.within edges within d);
  };
  nodes = ap (λ w. w.nodes) classes;
  log = subst (λ (l : Derivation). IsContinued before.log l) (sym log) (continued_none before.log);
  merged = λ x y m. rw classes m;
  edges = λ f m. subst (λ (l : List Edge). Contains l f) (sym edges) (Contains-append_left before.bounds.edges (e ∷ []) f m);
}

-- the log alone goes on
pub logged : (before : Run) (log : Derivation) → IsRun before → IsContinued before.log log → GoesOn before (record { log = log; classes = before.classes; bounds = before.bounds; equal = before.equal; within = before.within })
logged before log h on = record {
  is = record {
    terms = same_kept on h.terms;
    size = h.size;
    equal = record { long = h.equal.long; each = λ i x y there. on.kept (slice_index before.equal.items i) (AreEqual x y) (h.equal.each i x y there) };
    within = record { long = h.within.long; each = λ i e there. on.kept (slice_index before.within.items i) (AreWithin e.from e.to e.most) (h.within.each i e there) };
  };
  nodes = refl;
  log = on;
  merged = λ x y m. m;
  edges = λ f m. m;
}

pub goes_none : (run : Run) → IsRun run → GoesOn run run
goes_none run h = record { is = h; nodes = refl; log = continued_none run.log; merged = λ x y m. m; edges = λ e m. m }

pub goes_more : {x y z : Run} → GoesOn x y → GoesOn y z → GoesOn x z
goes_more g h = record {
  is = h.is;
  nodes = h.nodes ∙ g.nodes;
  log = continued_more g.log h.log;
  merged = λ a b m. h.merged a b (g.merged a b m);
  edges = λ e m. h.edges e (g.edges e m);
}

-- a term of the log is one of the classes
pub term_within : (run : Run) (x : ℕ) → IsRun run → x < length run.log.nodes → x < length run.classes.nodes
term_within run x h l = let e = h.terms.long in omega (arith, l, e)

-- an integer term of the classes is one of the log
pub run_integer : (run : Run) (x : ℕ) → IsRun run → IsInteger run.classes.nodes x → IsInteger run.log.nodes x
run_integer run x h i = integer_kept run.classes.nodes run.log.nodes h.terms x i
