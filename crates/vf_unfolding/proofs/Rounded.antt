-- What a search finds is what comes next, and where it finds nothing all is settled.
use Rattle.std.proofs.Common.{◌≡◌, ◌≤◌, ◌<◌, ℕ, zero, max, List, ◌++◌, length, Some, refl, sym, ap, ◌∙◌, subst, arith}
use Rattle.std.specs.Prelude.{pos, All, Contains, slice_index}
use Rattle.std.proofs.lemmas.List.Elements.{Contains-append_left, Contains-append_right}
use Rattle.vf_tree.specs.Core.{Identity}
use Rattle.vf_closure.specs.Terms as terms
use Rattle.vf_closure.specs.Terms.{Constructor, Term, Terms, term, number}
use Rattle.vf_closure.specs.Literals.{Literal}
use Rattle.vf_closure.specs.Closure.{Unfoldings, no_unfoldings, Arises, asked, zero_arises, deeper, in_body, in_case, Same, Conflict}
use Rattle.vf_question.specs.declared.unfolding.Unfolding.{Unfolding}
use Rattle.vf_question.specs.Numbered.{place, all_terms}
use Rattle.vf_question.specs.Plain.{IsPlain, IsPlainLiteral}
use Rattle.vf_question.specs.Questions.{at}
use Rattle.vf_question.specs.Unfolded.{equation, equations, depth_of, IsKnown, in_question, in_unfolding, AreRight, IsNext, next_body, next_case, WasMade, AreSettled}
use Rattle.vf_question.proofs.Has.{Has, contains_has, has_contains, has_place, place_has, at_place, has_at}
use Rattle.vf_question.proofs.Asked.{has_arising, term_arises}
use Rattle.vf_question.proofs.Plainness.{arising_plain}
use Rattle.vf_question.proofs.Settled.{arises_known, has_equation}
use Rattle.vf_unfolding.specs.Searched.{IsOfConstructor, AreDepths, IsExhausted, IsNew, IsUnfolded, IsNewOf, to_body, by_case}
use Rattle.vf_unfolding.specs.Rounds.{AreOf, AreKeptFor, IsNextNew}
use Rattle.vf_unfolding.proofs.Numbers.{depth_is_of}
use Rattle.vf_unfolding.proofs.Covering.{arises_over, same_over, conflict_over}
use Rattle.vf_unfolding.proofs.Arising.{same_arises}

-- the term of a constructor
constructor_of : (t : Term) → IsOfConstructor t → (c : Identity) × (ps : Terms) × (t ≡ term (Constructor c) ps)
constructor_of (term (Constructor c) ps) h = (c, ps, refl)
constructor_of (term (terms.Symbol k x) ps) h = absurd h
constructor_of (term (terms.Number z) ps) h = absurd h
constructor_of (term (terms.Truth b) ps) h = absurd h
constructor_of (term terms.Null ps) h = absurd h
constructor_of (term (terms.Function g) ps) h = absurd h
constructor_of (term (terms.Fixpoint k f) ps) h = absurd h
constructor_of (term (terms.Claims f) ps) h = absurd h
constructor_of (term (terms.Predicate p) ps) h = absurd h
constructor_of (term (terms.Share x) ps) h = absurd h
constructor_of (term (terms.Sum fs) ps) h = absurd h
constructor_of (term terms.Plus ps) h = absurd h
constructor_of (term (terms.Arithmetic op) ps) h = absurd h
constructor_of (term (terms.Compare op) ps) h = absurd h
constructor_of (term terms.Not ps) h = absurd h
constructor_of (term terms.And ps) h = absurd h
constructor_of (term terms.Or ps) h = absurd h
constructor_of (term (terms.Choose k) ps) h = absurd h
constructor_of (term terms.PointerSum ps) h = absurd h

weaker : (made : List Unfolding) (t b : Term) (d e : ℕ) → d ≤ e → WasMade made t b d → WasMade made t b e
weaker made t b d e l w = record { found = w.found; stands = w.stands; application = w.application; body = w.body; depth = omega (arith, w.depth) }

module _ (u : Unfoldings) (facts : List Literal) (made : List Unfolding) (right : AreRight u facts made) (ls : List Literal) (of : AreOf ls facts made) (ds : List ℕ) (depth_at : (i : ℕ) → i < length (all_terms ls) → slice_index ds i ≡ depth_of facts made (at (all_terms ls) i)) where
  abbrev all : List Literal
  all = facts ++ equations made

  abbrev ts : List Term
  ts = all_terms ls

  arises_more : (d : ℕ) (t : Term) → Arises no_unfoldings facts d t → Arises no_unfoldings all zero t
  arises_more d t (asked {l} {s} c k w) = asked {l = l} {s = s} (Contains-append_left facts (equations made) l c) k w
  arises_more d t zero_arises = zero_arises
  arises_more d t (deeper {d = e} l a) = arises_more e t a
  arises_more d t (in_body l a b w) = cc
  arises_more d t (in_case l a k s e c w) = cc

  arises_has : (t : Term) → Arises no_unfoldings all zero t → Has ts t
  arises_has t a = has_arising ls zero t (arises_over all ls of.all a)

  has_arises : (t : Term) → Has ts t → Arises no_unfoldings all zero t
  has_arises t h = arises_over ls all of.only (term_arises ls t h)

  same_with : (a b : Term) → Same no_unfoldings all a b → Same no_unfoldings ls a b
  same_with a b h = same_over all ls of.all h

  same_without : (a b : Term) → Same no_unfoldings ls a b → Same no_unfoldings all a b
  same_without a b h = same_over ls all of.only h

  equation_there : (m : Unfolding) → Contains made m → Contains all (equation m)
  equation_there m c = Contains-append_right facts (equations made) (equation m) (has_contains (equations made) (equation m) (has_equation made m (contains_has made m c)))

  -- the terms that are known are those of the list
  known_has : (t : Term) → IsKnown facts made t → Has ts t
  known_has t (in_question a) = arises_has t (arises_more zero t a)
  known_has t (in_unfolding {m} c w) = arises_has t (asked {l = equation m} {s = m.body} (equation_there m c) (1, omega arith, refl) w)

  has_known : (t : Term) → Has ts t → IsKnown facts made t
  has_known t h = arises_known u facts made right zero t (has_arises t h)

  depth_is : (t : Term) → Has ts t → slice_index ds (place t ts) ≡ depth_of facts made t
  depth_is t h = depth_at (place t ts) (has_place t ts h) ∙ ap (depth_of facts made) (at_place t (number (pos 0)) ts h)

  abbrev Done : List Literal → List Term → List ℕ → Type 0
  Done ls xs ns = (i : ℕ) → i < length xs → IsUnfolded u made ls xs ns (at xs i) (slice_index ns i)

  unfolded : Done ls ts ds → (t : Term) → Has ts t → IsUnfolded u made ls ts ds t (depth_of facts made t)
  unfolded done t h =
      subst (λ (s : Term). IsUnfolded u made ls ts ds s (depth_of facts made t)) (at_place t (number (pos 0)) ts h)
      (subst (λ (n : ℕ). IsUnfolded u made ls ts ds (at ts (place t ts)) n) (depth_is t h) (done (place t ts) (has_place t ts h)))

  same_placed : (a k : Term) → Has ts a → Has ts k → Same no_unfoldings all a k → Same no_unfoldings ls (at ts (place a ts)) (at ts (place k ts))
  same_placed a k h j q =
      subst (λ (s : Term). Same no_unfoldings ls s (at ts (place k ts))) (sym (at_place a (number (pos 0)) ts h)) (subst (Same no_unfoldings ls a) (sym (at_place k (number (pos 0)) ts j)) (same_with a k q))

  case_done : (t a k : Term) → IsUnfolded u made ls ts ds t (depth_of facts made t) → u.switched t ≡ Some a → Has ts k → IsOfConstructor k → Same no_unfoldings all a k → IsExhausted made t (max (depth_of facts made t) (depth_of facts made k)) (u.case t k)
  case_done t a k y e j o q =
      let h = arises_has a (same_arises all a k q).0 in
      let w = at_place k (number (pos 0)) ts j in
      let x = y.cases a e (has_place a ts h) (place k ts) (has_place k ts j) (subst IsOfConstructor (sym w) o) (same_placed a k h j q) in
      subst (λ (s : Term). IsExhausted made t (max (depth_of facts made t) (depth_of facts made k)) (u.case t s)) w
      (subst (λ (n : ℕ). IsExhausted made t (max (depth_of facts made t) n) (u.case t (at ts (place k ts)))) (depth_is k j) x)

  settled_at : Done ls ts ds → AreSettled u facts made
  settled_at done m (next_body l k d e) =
      let y = unfolded done m.application (known_has m.application k) in
      weaker made m.application m.body (depth_of facts made m.application) m.depth d (y.body (omega (arith, l, d)) m.body e)
  settled_at done m (next_case {c} {ks} {a} l k j d f e q g) =
      let t = term (Constructor c) ks in
      let y = unfolded done m.application (known_has m.application k) in
      let x = case_done m.application a t y e (known_has t j) tt q in
      weaker made m.application m.body (max (depth_of facts made m.application) (depth_of facts made t)) m.depth (omega (arith, d, f)) (x (omega (arith, l, d, f)) m.body g)

  module _ (plain : All IsPlainLiteral ls) (m : Unfolding) where
    plain_at : (t : Term) → Has ts t → IsPlain t
    plain_at t h = arising_plain ls zero t plain (term_arises ls t h)

    new_body : (t : Term) → Has ts t → IsNew made t (depth_of facts made t) (u.body t) m → IsNextNew u facts made m
    new_body t h n =
        let e = n.application in record {
          next = next_body (omega (arith, n.depth, n.low)) (subst (IsKnown facts made) (sym e) (has_known t h)) (subst (λ (s : Term). depth_of facts made s ≤ m.depth) (sym e) (omega (arith, n.depth))) (subst (λ (s : Term). u.body s ≡ Some m.body) (sym e) n.body);
          new = subst (λ (d : ℕ). WasMade made m.application m.body d → ⊥) (sym n.depth) (subst (λ (s : Term). WasMade made s m.body (depth_of facts made t) → ⊥) (sym e) n.new);
          application = subst IsPlain (sym e) (plain_at t h);
          body = n.plain;
        }

    case_next : (t a k : Term) → Has ts t → u.switched t ≡ Some a → Has ts k → IsOfConstructor k → Same no_unfoldings all a k → IsNew made t (max (depth_of facts made t) (depth_of facts made k)) (u.case t k) m → IsNext u facts made m
    case_next t a k h s j o q n =
        let e = n.application in
        let c = constructor_of k o in
        let w : k ≡ term (Constructor c.0) c.1 = c.2 in
        next_case {c = c.0} {ks = c.1} {a = a} (omega (arith, n.depth, n.low)) (subst (IsKnown facts made) (sym e) (has_known t h)) (subst (IsKnown facts made) w (has_known k j))
        (subst (λ (x : Term). depth_of facts made x ≤ m.depth) (sym e) (omega (arith, n.depth)))
        (subst (λ (x : Term). depth_of facts made x ≤ m.depth) w (omega (arith, n.depth)))
        (subst (λ (x : Term). u.switched x ≡ Some a) (sym e) s)
        (subst (Same no_unfoldings all a) w q)
        (subst (λ (x : Term). u.case m.application x ≡ Some m.body) w (subst (λ (x : Term). u.case x k ≡ Some m.body) (sym e) n.body))

    new_case : (t a k : Term) → Has ts t → u.switched t ≡ Some a → Has ts k → IsOfConstructor k → Same no_unfoldings all a k → IsNew made t (max (depth_of facts made t) (depth_of facts made k)) (u.case t k) m → IsNextNew u facts made m
    new_case t a k h s j o q n =
        let e = n.application in record {
          next = case_next t a k h s j o q n;
          new = subst (λ (d : ℕ). WasMade made m.application m.body d → ⊥) (sym n.depth) (subst (λ (x : Term). WasMade made x m.body (max (depth_of facts made t) (depth_of facts made k)) → ⊥) (sym e) n.new);
          application = subst IsPlain (sym e) (plain_at t h);
          body = n.plain;
        }

    same_at : (a : Term) (k : ℕ) → place a ts < length ts → Same no_unfoldings ls (at ts (place a ts)) (at ts k) → Same no_unfoldings all a (at ts k)
    same_at a k l q = subst (λ (s : Term). Same no_unfoldings all s (at ts k)) (at_place a (number (pos 0)) ts (place_has a ts l)) (same_without (at ts (place a ts)) (at ts k) q)

    new_of : (t : Term) → Has ts t → IsNewOf u made ls ts ds t (depth_of facts made t) m → IsNextNew u facts made m
    new_of t h (to_body n) = new_body t h n
    new_of t h (by_case s) =
        new_case t s.argument (at ts s.by) h s.switched (has_at (number (pos 0)) ts s.by s.within) s.is.constructor (same_at s.argument s.by s.there s.is.equal)
        (subst (λ (n : ℕ). IsNew made t (max (depth_of facts made t) n) (u.case t (at ts s.by)) m) (depth_at s.by s.within) s.is.is)

    abbrev Found : List Literal → List Term → List ℕ → Type 0
    Found ls xs ns = (i : ℕ) × (i < length xs) × IsNewOf u made ls xs ns (at xs i) (slice_index ns i) m

    next_at : Found ls ts ds → IsNextNew u facts made m
    next_at f = new_of (at ts f.0) (has_at (number (pos 0)) ts f.0 f.1) (subst (λ (n : ℕ). IsNewOf u made ls ts ds (at ts f.0) n m) (depth_at f.0 f.1) f.2)

abbrev pub AllUnfolded : Unfoldings → List Unfolding → List Literal → List Term → List ℕ → Type 0
AllUnfolded u made ls xs ns = (i : ℕ) → i < length xs → IsUnfolded u made ls xs ns (at xs i) (slice_index ns i)

abbrev pub OneNew : Unfoldings → List Unfolding → List Literal → List Term → List ℕ → Unfolding → Type 0
OneNew u made ls xs ns m = (i : ℕ) × (i < length xs) × IsNewOf u made ls xs ns (at xs i) (slice_index ns i) m

-- what a round has, and how what it has is what is wanted
module _ (u : Unfoldings) (facts : List Literal) (made : List Unfolding) (asked : List ℕ) (ls : List Literal) (xs : List Term) (ns : List ℕ)
    (right : AreRight u facts made) (kept : AreKeptFor ls facts made asked) (terms_are : xs ≡ all_terms ls) (depths : AreDepths asked made xs ns) where
  at_depth : (i : ℕ) → i < length (all_terms ls) → slice_index ns i ≡ depth_of facts made (at (all_terms ls) i)
  at_depth = depth_is_of ls facts made asked kept.numbers ns (subst (λ (ts : List Term). AreDepths asked made ts ns) terms_are depths)

  pub round_settled : (Conflict no_unfoldings ls → ⊥) → AllUnfolded u made ls xs ns → (Conflict no_unfoldings (facts ++ equations made) → ⊥) × AreSettled u facts made
  round_settled fine done = (
    (λ k. fine (conflict_over (facts ++ equations made) ls kept.literals.all k)),
    settled_at u facts made right ls kept.literals ns at_depth (subst (λ (ts : List Term). AllUnfolded u made ls ts ns) terms_are done),
  )

  pub round_next : (m : Unfolding) → OneNew u made ls xs ns m → IsNextNew u facts made m
  round_next m found = next_at u facts made right ls kept.literals ns at_depth kept.plain m (subst (λ (ts : List Term). OneNew u made ls ts ns m) terms_are found)

-- a conflict of what is kept is one of facts and equations
pub round_conflict : (facts : List Literal) (made : List Unfolding) (os : List ℕ) (ls : List Literal) → AreKeptFor ls facts made os → Conflict no_unfoldings ls → Conflict no_unfoldings (facts ++ equations made)
round_conflict facts made os ls kept h = conflict_over ls (facts ++ equations made) kept.literals.only h
