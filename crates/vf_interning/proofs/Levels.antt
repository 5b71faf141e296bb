-- Levels, and what they have of literals.
use Rattle.std.proofs.Common.{◌≡◌, ◌≤◌, ◌+◌, ℕ, zero, suc, List, [], ◌∷◌, ◌++◌, length, map, take, drop, refl, sym, ap, ap₂, ◌∙◌, subst, arith}
use Rattle.std.specs.Prelude.{All}
use Rattle.std.proofs.Math.Seq.{take-append_seam, take-length}
use Rattle.std.proofs.lemmas.List.{map-append, length-append, length_push, take-append-le, take-append-drop, length-take-le, append_cancel_left, append_assoc}
use Rattle.std.proofs.lemmas.List.Elements.{All-append}
use Rattle.vf_table.specs.declared.node.Node.{Node}
use Rattle.vf_refute.specs.declared.steps.Fact.{Fact}
use Rattle.vf_combination.specs.Combined.{Combined, Begun}
use Rattle.vf_closure.specs.Terms.{Term}
use Rattle.vf_closure.specs.Literals.{Literal}
use Rattle.vf_question.proofs.Has.{Has, has_before}
use Rattle.vf_interning.specs.Interned.{meant, IsInterned, AreLevels, AreKept}
use Rattle.vf_interning.proofs.Meaning.{there, read_each, numbers_stay}

-- what the facts of a front of the terms mean stays
pub meant_stays : (nodes : List Node) (facts : List Fact) (ts us now : List Term) → IsInterned nodes facts ts → now ≡ ts ++ us → meant now facts ≡ meant ts facts
meant_stays nodes facts ts us now is e =
    let ls = meant ts facts in
    subst (λ fs. meant now fs ≡ ls) (sym (numbers_stay facts ls ts us now is.gathered is.numbers e))
    (read_each now ls (λ l t h c. subst (λ vs. Has vs t) (sym e) (has_before ts us t (subst (λ vs. Has vs t) (sym is.gathered) (there ls l t h c)))))

pub levels_stay : (bs : List Begun) (ns : List ℕ) (ts us now : List Term) → now ≡ ts ++ us → AreLevels bs ns ts → AreLevels bs ns now
levels_stay [] [] ts us now e h = tt
levels_stay [] (n ∷ ns) ts us now e h = h
levels_stay (b ∷ bs) [] ts us now e h = h
levels_stay (b ∷ bs) (n ∷ ns) ts us now e h =
    let l = length-append ts us in
    let k = ap length e in
    let m = h.0 in
    (omega arith, subst (IsInterned b.nodes b.facts) (sym (ap (take n) e ∙ take-append-le n ts us h.0)) h.1, h.2, levels_stay bs ns ts us now e h.3)

-- what a contract sees of the levels stays
pub levels_mean : (bs : List Begun) (ns : List ℕ) (ts us now : List Term) → now ≡ ts ++ us → AreLevels bs ns ts → map (λ (b : Begun). meant now b.facts) bs ≡ map (λ (b : Begun). meant ts b.facts) bs
levels_mean [] ns ts us now e h = refl
levels_mean (b ∷ bs) [] ts us now e h = absurd h
levels_mean (b ∷ bs) (n ∷ ns) ts us now e h =
    let w : ts ≡ take n ts ++ drop n ts = sym (take-append-drop n ts) in
    let v : now ≡ take n ts ++ (drop n ts ++ us) = e ∙ ap (λ vs. vs ++ us) w ∙ append_assoc (take n ts) (drop n ts) us in
    ap₂ (λ x xs. x ∷ xs) (meant_stays b.nodes b.facts (take n ts) (drop n ts ++ us) now h.1 v ∙ sym (meant_stays b.nodes b.facts (take n ts) (drop n ts) ts h.1 w)) (levels_mean bs ns ts us now e h.3)

pub as_many_levels : (bs : List Begun) (ns : List ℕ) (ts : List Term) → AreLevels bs ns ts → length bs ≡ length ns
as_many_levels [] [] ts h = refl
as_many_levels [] (n ∷ ns) ts h = absurd h
as_many_levels (b ∷ bs) [] ts h = absurd h
as_many_levels (b ∷ bs) (n ∷ ns) ts h = let k = as_many_levels bs ns ts h.3 in omega arith

counts_most : (bs : List Begun) (ns : List ℕ) (ts : List Term) → AreLevels bs ns ts → All (λ m. m ≤ length ts) ns
counts_most [] [] ts h k d l = absurd (omega arith)
counts_most [] (n ∷ ns) ts h k d l = absurd h
counts_most (b ∷ bs) [] ts h k d l = absurd h
counts_most (b ∷ bs) (n ∷ ns) ts h zero d l = h.0
counts_most (b ∷ bs) (n ∷ ns) ts h (suc k) d l = counts_most bs ns ts h.3 k d (omega arith)

one_all : (P : ℕ → Type 0) (m : ℕ) → P m → All P (m ∷ [])
one_all P m p zero d l = p
one_all P m p (suc k) d l = absurd (omega arith)

-- one level more
pub levels_push : (bs : List Begun) (ns : List ℕ) (nodes : List Node) (facts : List Fact) (ts : List Term) → AreLevels bs ns ts → IsInterned nodes facts ts → AreLevels (bs ++ record { nodes = nodes; facts = facts } ∷ []) (ns ++ length ts ∷ []) ts
levels_push [] [] nodes facts ts h is = (omega arith, subst (IsInterned nodes facts) (sym (take-length ts)) is, none_all, tt)
  where
    none_all : All (λ m. length ts ≤ m) []
    none_all k d l = absurd (omega arith)
levels_push [] (n ∷ ns) nodes facts ts h is = absurd h
levels_push (b ∷ bs) [] nodes facts ts h is = absurd h
levels_push (b ∷ bs) (n ∷ ns) nodes facts ts h is = (h.0, h.1, All-append (λ m. n ≤ m) ns (length ts ∷ []) h.2 (one_all (λ m. n ≤ m) (length ts) h.0), levels_push bs ns nodes facts ts h.3 is)

-- the last level, and those before it
pub record IsPopped (bs : List Begun) (b : Begun) (ns : List ℕ) (n : ℕ) (ts : List Term) : Type 0 where
  pub before : AreLevels bs ns (take n ts)
  pub last : IsInterned b.nodes b.facts (take n ts)
  pub within : n ≤ length ts

last_of_all : (P : ℕ → Type 0) (ns : List ℕ) (n : ℕ) → All P (ns ++ n ∷ []) → P n
last_of_all P [] n a = a 0 0 (omega arith)
last_of_all P (m ∷ ms) n a = last_of_all P ms n (λ k d l. a (suc k) d (omega arith))

front_of_all : (P : ℕ → Type 0) (ns : List ℕ) (n : ℕ) → All P (ns ++ n ∷ []) → All P ns
front_of_all P [] n a k d l = absurd (omega arith)
front_of_all P (m ∷ ms) n a zero d l = a 0 d (omega arith)
front_of_all P (m ∷ ms) n a (suc k) d l = front_of_all P ms n (λ i e w. a (suc i) e (omega arith)) k d (omega arith)

no_levels : (ns : List ℕ) (n : ℕ) (ts : List Term) → AreLevels [] (ns ++ n ∷ []) ts → ⊥
no_levels [] n ts h = h
no_levels (m ∷ ms) n ts h = h

no_counts : (bs : List Begun) (b : Begun) (ts : List Term) → AreLevels (bs ++ b ∷ []) [] ts → ⊥
no_counts [] b ts h = h
no_counts (c ∷ cs) b ts h = h

pub levels_pop : (bs : List Begun) (b : Begun) (ns : List ℕ) (n : ℕ) (ts : List Term) → AreLevels (bs ++ b ∷ []) (ns ++ n ∷ []) ts → IsPopped bs b ns n ts
levels_pop [] b [] n ts h = record { before = tt; last = h.1; within = h.0 }
levels_pop [] b (m ∷ ms) n ts h = absurd (no_levels ms n ts h.3)
levels_pop (c ∷ cs) b [] n ts h = absurd (no_counts cs b ts h.3)
levels_pop (c ∷ cs) b (m ∷ ms) n ts h =
    let r = levels_pop cs b ms n ts h.3 in
    let k : m ≤ n = last_of_all (λ i. m ≤ i) ms n h.2 in
    record {
      before = (let l = length-take-le n ts r.within in omega arith, subst (IsInterned c.nodes c.facts) (sym (shorter m n ts k)) h.1, front_of_all (λ i. m ≤ i) ms n h.2, r.before);
      last = r.last;
      within = r.within;
    }
  where
    shorter : (m n : ℕ) (ts : List Term) → m ≤ n → take m (take n ts) ≡ take m ts
    shorter zero n ts k = refl
    shorter (suc m) zero ts k = absurd (omega arith)
    shorter (suc m) (suc n) [] k = refl
    shorter (suc m) (suc n) (t ∷ ts) k = ap (λ us. t ∷ us) (shorter m n ts (omega arith))

-- ---- the last of a list

pub record EndsIn {X : Type 0} (xs : List X) : Type 0 where
  pub front : List X
  pub last : X
  pub is : xs ≡ front ++ last ∷ []

pub ends_in : {X : Type 0} (xs : List X) (n : ℕ) → length xs ≡ n + 1 → EndsIn xs
ends_in [] n e = absurd (omega arith)
ends_in (x ∷ []) n e = record { front = []; last = x; is = refl }
ends_in (x ∷ y ∷ ys) zero e = absurd (omega arith)
ends_in (x ∷ y ∷ ys) (suc n) e = let r = ends_in (y ∷ ys) n (omega arith) in record { front = x ∷ r.front; last = r.last; is = ap (λ zs. x ∷ zs) r.is }

snoc_front : {X : Type 0} (xs ys : List X) (x y : X) → xs ++ x ∷ [] ≡ ys ++ y ∷ [] → xs ≡ ys
snoc_front xs ys x y e =
    let long : length xs ≡ length ys = omega (arith, ap length e, length_push xs x, length_push ys y) in
    sym (take-append_seam xs (x ∷ [])) ∙ ap (take (length xs)) e ∙ ap (λ k. take k (ys ++ y ∷ [])) long ∙ take-append_seam ys (y ∷ [])

snoc_last : {X : Type 0} (xs ys : List X) (x y : X) → xs ++ x ∷ [] ≡ ys ++ y ∷ [] → x ≡ y
snoc_last xs ys x y e = let same : x ∷ [] ≡ y ∷ [] = append_cancel_left ys (x ∷ []) (y ∷ []) (ap (λ zs. zs ++ x ∷ []) (sym (snoc_front xs ys x y e)) ∙ e) in cc

-- ---- the end of the last level

module _ (old new : Combined) (ts now : List Term) (counts front : List ℕ) (n : ℕ) (levels : AreLevels old.levels counts ts) (popped : counts ≡ front ++ n ∷ []) (cut : now ≡ take n ts)
    (ended : (before : List Begun) (level : Begun) → old.levels ≡ before ++ level ∷ [] → (new.levels ≡ before) × (new.nodes ≡ level.nodes) × (new.facts ≡ level.facts)) where
  ends : EndsIn old.levels
  ends = ends_in old.levels (length front) (as_many_levels old.levels counts ts levels ∙ ap length popped ∙ length_push front n)

  pop : IsPopped ends.front ends.last front n ts
  pop = levels_pop ends.front ends.last front n ts (subst (λ ns. AreLevels (ends.front ++ ends.last ∷ []) ns ts) popped (subst (λ bs. AreLevels bs counts ts) ends.is levels))

  gone : (new.levels ≡ ends.front) × (new.nodes ≡ ends.last.nodes) × (new.facts ≡ ends.last.facts)
  gone = ended ends.front ends.last ends.is

  pub kept_end : AreKept new now front
  kept_end = record {
    now = subst (IsInterned new.nodes new.facts) (sym cut) (subst (λ ns. IsInterned ns new.facts (take n ts)) (sym gone.1) (subst (λ fs. IsInterned ends.last.nodes fs (take n ts)) (sym gone.2) pop.last));
    levels = subst (λ us. AreLevels new.levels front us) (sym cut) (subst (λ bs. AreLevels bs front (take n ts)) (sym gone.0) pop.before);
  }

  whole : ts ≡ take n ts ++ drop n ts
  whole = sym (take-append-drop n ts)

  pub end_means : (before : List (List Literal)) (level : List Literal) → map (λ (b : Begun). meant ts b.facts) old.levels ≡ before ++ level ∷ [] → (map (λ (b : Begun). meant now b.facts) new.levels ≡ before) × (meant now new.facts ≡ level)
  end_means before level e =
      let v : map (λ (b : Begun). meant ts b.facts) ends.front ++ meant ts ends.last.facts ∷ [] ≡ before ++ level ∷ [] = sym (map-append (λ (b : Begun). meant ts b.facts) ends.front (ends.last ∷ [])) ∙ sym (ap (map (λ (b : Begun). meant ts b.facts)) ends.is) ∙ e in
      let f = snoc_front (map (λ (b : Begun). meant ts b.facts) ends.front) before (meant ts ends.last.facts) level v in
      let l = snoc_last (map (λ (b : Begun). meant ts b.facts) ends.front) before (meant ts ends.last.facts) level v in (
        ap₂ (λ us bs. map (λ (b : Begun). meant us b.facts) bs) cut gone.0 ∙ sym (levels_mean ends.front front (take n ts) (drop n ts) ts whole pop.before) ∙ f,
        ap₂ meant cut gone.2 ∙ sym (meant_stays ends.last.nodes ends.last.facts (take n ts) (drop n ts) ts pop.last whole) ∙ l,
      )
