-- A basis at its beginning, and with one unfolding more.
use Rattle.std.proofs.Common.{◌≡◌, ◌<◌, ◌+◌, ◌⊎◌, inl, inr, ℕ, zero, suc, List, [], ◌∷◌, ◌++◌, length, map, Some, refl, sym, ap, ap₂, ◌∙◌, subst, arith, append_assoc}
use Rattle.std.specs.Prelude.{pos, All, Contains, slice_get, slice_index}
use Rattle.std.proofs.lemmas.List.{map-append}
use Rattle.std.proofs.lemmas.Option.{slice_get_within}
use Rattle.vf_refute.specs.declared.steps.Fact.{Fact}
use Rattle.vf_refute.specs.declared.steps.Fact.TheVariants as facts_
use Rattle.vf_refute.specs.declared.steps.Derived.{Derived}
use Rattle.vf_refute.specs.declared.steps.Derived.TheVariants.{AreEqual}
use Rattle.vf_refute.specs.declared.steps.Step.TheVariants as refute_
use Rattle.vf_refute.specs.Refutations.{HasDerived}
use Rattle.vf_closure.specs.Terms.{Term, number, itself}
use Rattle.vf_closure.specs.Literals.{Literal, compares}
use Rattle.vf_closure.specs.Closure.{Unfoldings, asked}
use Rattle.vf_question.specs.Numbered.{place, with_term, with_all, terms_of, all_terms}
use Rattle.vf_question.specs.Tabled.{tabled_fact}
use Rattle.vf_question.specs.Plain.{IsPlain, IsPlainLiteral}
use Rattle.vf_question.specs.declared.unfolding.Unfolding.{Unfolding}
use Rattle.vf_question.specs.Unfolded.{equation, equations, IsKnown, in_question, in_unfolding, IsNext, next_body, next_case}
use Rattle.vf_question.proofs.Has.{Has, contains_has, has_contains, has_place, term_has}
use Rattle.vf_question.proofs.Places.{with_one_there}
use Rattle.vf_question.proofs.Asked.{has_arising, term_arises}
use Rattle.vf_question.proofs.Plainness.{arising_plain}
use Rattle.vf_interning.specs.Interned.{IsTermTable}
use Rattle.vf_interning.proofs.Meaning.{there, interned_of, meaning_of, gathered_more, numbers_more, plain_more, zero_plain}
use Rattle.vf_interning.proofs.Stable.{place_stays}
use Rattle.vf_interning.proofs.Told.{term_there}
use Rattle.vf_unfolding.specs.Rounds.{zero_is_zero}
use Rattle.vf_recheck.specs.declared.steps.Step.{Step}
use Rattle.vf_recheck.specs.declared.steps.Step.TheVariants as steps_
use Rattle.vf_recheck.specs.Refutations.{facts_over, GoesOn}
use Rattle.vf_recheck.proofs.Growing.{GoesOnTo, term_on}
use Rattle.vf_reasons.specs.declared.basis.Basis.{Basis}
use Rattle.vf_reasons.specs.declared.draft.Draft.{Draft}
use Rattle.vf_reasons.specs.Drafts.{with_equations, IsBasis, Lead, IsDraft, DoesUnfold}
use Rattle.vf_reasons.proofs.Lists.{one_some, where_is, get_left, get_right, get_kept, number_left, number_last, has_left, has_right, has_here}
use Rattle.vf_reasons.proofs.Leading.{lead_more}
use Rattle.vf_reasons.proofs.Going.{literals_after, question_on}

-- ---- at the beginning
zero_again : (ts : List Term) → Has ts (number (pos 0)) → with_term (number (pos 0)) ts ≡ ts
zero_again ts h = sym (with_one_there (number (pos 0)) ts (has_place (number (pos 0)) ts h))

first_terms : (ls : List Literal) → all_terms (with_equations ls []) ≡ all_terms ls
first_terms ls =
    let z = number (pos 0) in
    let h : Has (all_terms ls) z = term_has z (terms_of ls) z itself in
    ap (with_term z) (literals_after ls (zero_is_zero ∷ []) [] ∙ zero_again (all_terms ls) h) ∙ zero_again (all_terms ls) h

first_facts : (ls : List Literal) (ts : List Term) (fs facts : List Fact) (z : ℕ) → fs ≡ map (tabled_fact ts) ls → facts ≡ fs ++ facts_.Equal z z ∷ [] → z ≡ place (number (pos 0)) ts → facts ≡ map (tabled_fact ts) (with_equations ls [])
first_facts ls ts fs facts z e f g = f ∙ ap₂ (λ (xs : List Fact) (n : ℕ). xs ++ facts_.Equal n n ∷ []) e g ∙ sym (map-append (tabled_fact ts) ls (zero_is_zero ∷ []))

zero_last : (ls : List Literal) (ms : List Literal) → Contains (ls ++ zero_is_zero ∷ ms) zero_is_zero
zero_last ls ms = has_contains (ls ++ zero_is_zero ∷ ms) zero_is_zero (has_right ls (zero_is_zero ∷ ms) zero_is_zero (inl refl))

module _ (ls : List Literal) (basis : Basis) (fs : List Fact) (z : ℕ) (table : IsTermTable basis.nodes.items basis.terms.items) (terms : basis.terms.items ≡ all_terms ls) (told : fs ≡ map (tabled_fact basis.terms.items) ls)
    (facts : basis.facts.items ≡ fs ++ facts_.Equal z z ∷ []) (is_zero : z ≡ place (number (pos 0)) basis.terms.items) (plain : All IsPlainLiteral ls) (many : basis.asked ≡ length ls) where
  gathered : basis.terms.items ≡ all_terms (with_equations ls [])
  gathered = terms ∙ sym (first_terms ls)

  numbers : basis.facts.items ≡ map (tabled_fact basis.terms.items) (with_equations ls [])
  numbers = first_facts ls basis.terms.items fs basis.facts.items z told facts is_zero

  pub begun_is : IsBasis ls [] basis
  begun_is = record {
    interned = interned_of basis.nodes.items basis.facts.items basis.terms.items (with_equations ls []) table gathered numbers (zero_last ls []) (plain_more ls zero_is_zero plain zero_plain);
    means = meaning_of basis.facts.items basis.terms.items (with_equations ls []) gathered numbers;
    asked = many;
  }

-- ---- what is known of a basis
module _ (ls : List Literal) (made : List Unfolding) (basis : Basis) (is : IsBasis ls made basis) where
  pub gathered_with : basis.terms.items ≡ all_terms (with_equations ls made)
  gathered_with = is.interned.gathered ∙ ap all_terms is.means

  pub plain_with_equations : All IsPlainLiteral (with_equations ls made)
  plain_with_equations = subst (All IsPlainLiteral) is.means is.interned.plain

  pub plain_term : (t : Term) → Has basis.terms.items t → IsPlain t
  plain_term t h = arising_plain (with_equations ls made) zero t plain_with_equations (term_arises (with_equations ls made) t (subst (λ (vs : List Term). Has vs t) gathered_with h))

  equation_in : (m : Unfolding) → Contains made m → Contains (with_equations ls made) (equation m)
  equation_in m c = has_contains (with_equations ls made) (equation m) (has_right ls (zero_is_zero ∷ equations made) (equation m) (inr (mapped made (contains_has made m c))))
    where
      mapped : (ms : List Unfolding) → Has ms m → Has (equations ms) (equation m)
      mapped [] h = absurd h
      mapped (n ∷ ns) (inl e) = inl (ap equation e)
      mapped (n ∷ ns) (inr h) = inr (mapped ns h)

  back : (t : Term) → Has (all_terms (with_equations ls made)) t → Has basis.terms.items t
  back t h = subst (λ (vs : List Term). Has vs t) (sym gathered_with) h

  pub application_there : (m : Unfolding) → Contains made m → Has basis.terms.items m.application
  application_there m c = back m.application (there (with_equations ls made) (equation m) m.application (contains_has (with_equations ls made) (equation m) (equation_in m c)) (inl refl))

  pub body_there : (m : Unfolding) → Contains made m → Has basis.terms.items m.body
  body_there m c = back m.body (there (with_equations ls made) (equation m) m.body (contains_has (with_equations ls made) (equation m) (equation_in m c)) (inr (inl refl)))

  pub known_there : (t : Term) → IsKnown ls made t → Has basis.terms.items t
  known_there t (in_question a) =
      let on = question_on ls made in
      back t (subst (λ (vs : List Term). Has vs t) (sym on.is) (has_left (all_terms ls) on.more t (has_arising ls zero t a)))
  known_there t (in_unfolding {m} c w) = back t (has_arising (with_equations ls made) zero t (asked {l = equation m} {s = m.body} (equation_in m c) (has_contains (compares (equation m)) m.body (inr (inl refl))) w))

  pub next_there : (u : Unfoldings) (m : Unfolding) → IsNext u ls made m → Has basis.terms.items m.application
  next_there u m (next_body l k d b) = known_there m.application k
  next_there u m (next_case l k c d e s q b) = known_there m.application k

-- ---- one unfolding more
equations_more : (ls : List Literal) (made : List Unfolding) (m : Unfolding) → with_equations ls (made ++ m ∷ []) ≡ with_equations ls made ++ equation m ∷ []
equations_more ls made m = ap (λ (es : List Literal). ls ++ zero_is_zero ∷ es) (map-append equation made (m ∷ [])) ∙ sym (append_assoc ls (zero_is_zero ∷ equations made) (equation m ∷ []))

module _ (u : Unfoldings) (ls : List Literal) (made : List Unfolding) (m : Unfolding) (before after : Basis) (then_draft now_draft : Draft) (step : Step) (n e first second : ℕ)
    (is : IsDraft u ls made before then_draft) (next : IsNext u ls made m) (does : DoesUnfold u before.terms.items then_draft.known.items m n step)
    (table : IsTermTable after.nodes.items after.terms.items) (terms : after.terms.items ≡ with_term m.body before.terms.items) (e_is : e ≡ place m.body after.terms.items)
    (facts : after.facts.items ≡ before.facts.items ++ facts_.Equal n e ∷ []) (count : after.asked ≡ before.asked) (first_is : first ≡ length then_draft.known.items) (second_is : second ≡ length (then_draft.known.items ++ AreEqual n e ∷ []))
    (rows : after.equations.items ≡ before.equations.items ++ second ∷ [])
    (steps : now_draft.steps.items ≡ (then_draft.steps.items ++ step ∷ []) ++ steps_.Plain (refute_.Symmetric first) ∷ [])
    (known : now_draft.known.items ≡ (then_draft.known.items ++ AreEqual n e ∷ []) ++ AreEqual e n ∷ []) where
  on : GoesOnTo before.terms.items after.terms.items
  on = let o = term_on m.body before.terms.items in record { more = o.more; is = terms ∙ o.is }

  here : Has before.terms.items m.application
  here = next_there ls made before is.based u m next

  -- what does unfold says
  n_of : (s : Step) → DoesUnfold u before.terms.items then_draft.known.items m n s → n ≡ place m.application before.terms.items
  n_of (steps_.ToBody t) h = h.1
  n_of (steps_.ByCase t a) h = h.1
  n_of (steps_.Plain s) h = absurd h

  plain_of : (s : Step) → DoesUnfold u before.terms.items then_draft.known.items m n s → IsPlain m.body
  plain_of (steps_.ToBody t) h = h.3
  plain_of (steps_.ByCase t a) h = h.3
  plain_of (steps_.Plain s) h = absurd h

  goes : (s : Step) → DoesUnfold u before.terms.items then_draft.known.items m n s → GoesOn u (facts_over ls) before.terms.items then_draft.known.items s (AreEqual n e) after.terms.items
  goes (steps_.ToBody t) h = subst (λ (k : ℕ). GoesOn u (facts_over ls) before.terms.items then_draft.known.items (steps_.ToBody k) (AreEqual n e) after.terms.items) (sym h.0) (record { body = m.body; is = h.2; plain = h.3; numbered = terms; derives = ap (AreEqual n) e_is })
  goes (steps_.ByCase t a) h = subst (λ (k : ℕ). GoesOn u (facts_over ls) before.terms.items then_draft.known.items (steps_.ByCase k a) (AreEqual n e) after.terms.items) (sym h.0) (record { body = m.body; is = h.2; plain = h.3; numbered = terms; derives = ap (AreEqual n) e_is })
  goes (steps_.Plain s) h = absurd h

  stays : (t : Term) → Has before.terms.items t → place t after.terms.items ≡ place t before.terms.items
  stays t h = ap (place t) on.is ∙ place_stays t before.terms.items on.more h

  n_is : n ≡ place m.application after.terms.items
  n_is = n_of step does ∙ sym (stays m.application here)

  -- ---- the basis
  abbrev LS : List Literal
  LS = with_equations ls made

  wide : after.terms.items ≡ with_all (compares (equation m)) before.terms.items
  wide = terms ∙ ap (with_term m.body) (sym (term_there before.terms.items is.based.interned.table.closed m.application here))

  gathered_now : after.terms.items ≡ all_terms (LS ++ equation m ∷ [])
  gathered_now = gathered_more LS (equation m) before.terms.items after.terms.items (zero_last ls (equations made)) (gathered_with ls made before is.based) wide

  numbered : after.facts.items ≡ map (tabled_fact after.terms.items) (LS ++ equation m ∷ [])
  numbered = facts ∙ numbers_more before.facts.items LS (equation m) (facts_.Equal n e) before.terms.items on.more after.terms.items (gathered_with ls made before is.based) (is.based.interned.numbers ∙ ap (map (tabled_fact before.terms.items)) is.based.means) on.is (ap₂ facts_.Equal n_is e_is)

  plain_now : All IsPlainLiteral (LS ++ equation m ∷ [])
  plain_now = plain_more LS (equation m) (plain_with_equations ls made before is.based) (plain_term ls made before is.based m.application here, plain_of step does)

  zero_now : Contains (LS ++ equation m ∷ []) zero_is_zero
  zero_now = has_contains (LS ++ equation m ∷ []) zero_is_zero (has_left LS (equation m ∷ []) zero_is_zero (contains_has LS zero_is_zero (zero_last ls (equations made))))

  basis_more : IsBasis ls (made ++ m ∷ []) after
  basis_more = record {
    interned = interned_of after.nodes.items after.facts.items after.terms.items (LS ++ equation m ∷ []) table gathered_now numbered zero_now plain_now;
    means = meaning_of after.facts.items after.terms.items (LS ++ equation m ∷ []) gathered_now numbered ∙ sym (equations_more ls made m);
    asked = count ∙ is.based.asked;
  }

  -- ---- the steps
  abbrev middle : List Derived
  middle = then_draft.known.items ++ AreEqual n e ∷ []

  last_in : (ks : List Derived) (d : Derived) (k : ℕ) → k ≡ length ks → slice_get (ks ++ d ∷ []) k ≡ Some d
  last_in ks d k eq = get_right ks (d ∷ []) 0 k (omega (arith, eq))

  leads_more : Lead u (facts_over ls) (all_terms ls) [] now_draft.steps.items after.terms.items now_draft.known.items
  leads_more =
      let one = lead_more u (facts_over ls) then_draft.steps.items (all_terms ls) [] before.terms.items then_draft.known.items step (AreEqual n e) after.terms.items is.leads (goes step does) tt in
      let g : GoesOn u (facts_over ls) after.terms.items middle (steps_.Plain (refute_.Symmetric first)) (AreEqual e n) after.terms.items = (record { nodes = after.nodes.items; table = table.tabled; derives = record { left = n; right = e; equal = last_in then_draft.known.items (AreEqual n e) first first_is; is = refl } }, refl) in
      let two = lead_more u (facts_over ls) (then_draft.steps.items ++ step ∷ []) (all_terms ls) [] after.terms.items middle (steps_.Plain (refute_.Symmetric first)) (AreEqual e n) after.terms.items one g tt in
      subst (λ (ss : List Step). Lead u (facts_over ls) (all_terms ls) [] ss after.terms.items now_draft.known.items) (sym steps) (subst (λ (ks : List Derived). Lead u (facts_over ls) (all_terms ls) [] ((then_draft.steps.items ++ step ∷ []) ++ steps_.Plain (refute_.Symmetric first) ∷ []) after.terms.items ks) (sym known) two)

  -- ---- what was derived
  abbrev reversed : Unfolding → List Term → Derived
  reversed k ts = AreEqual (place k.body ts) (place k.application ts)

  has_now : (a : ℕ) (d : Derived) → HasDerived then_draft.known.items a d → HasDerived now_draft.known.items a d
  has_now a d h = subst (λ (ks : List Derived). HasDerived ks a d) (sym known) (get_kept middle (AreEqual e n ∷ []) a d (get_kept then_draft.known.items (AreEqual n e ∷ []) a d h))

  long_before : length before.equations.items ≡ length made
  long_before = is.derived.long

  each_now : (k : ℕ) (o : Unfolding) → slice_get (made ++ m ∷ []) k ≡ Some o → (k < length made) ⊎ (k ≡ length made) ⊎ ((j : ℕ) × (k ≡ length made + 1 + j)) → HasDerived now_draft.known.items (slice_index after.equations.items k) (reversed o after.terms.items)
  each_now k o h (inl l) =
      let s : slice_get made k ≡ Some o = sym (get_left made (m ∷ []) k l) ∙ h in
      let c : Contains made o = has_contains made o (has_here made k o s) in
      let r : slice_index after.equations.items k ≡ slice_index before.equations.items k = ap (λ (xs : List ℕ). slice_index xs k) rows ∙ number_left before.equations.items (second ∷ []) k (omega (arith, long_before)) in
      let d : reversed o after.terms.items ≡ reversed o before.terms.items = ap₂ AreEqual (stays o.body (body_there ls made before is.based o c)) (stays o.application (application_there ls made before is.based o c)) in
      subst (λ (x : ℕ). HasDerived now_draft.known.items x (reversed o after.terms.items)) (sym r) (subst (λ (x : Derived). HasDerived now_draft.known.items (slice_index before.equations.items k) x) (sym d) (has_now (slice_index before.equations.items k) (reversed o before.terms.items) (is.derived.each k o s)))
  each_now k o h (inr (inl q)) =
      let s : slice_get (made ++ m ∷ []) k ≡ Some m = get_right made (m ∷ []) 0 k (omega (arith, q)) in
      let p : m ≡ o = one_some s h in
      let r : slice_index after.equations.items k ≡ second = ap₂ (λ (xs : List ℕ) (i : ℕ). slice_index xs i) rows (q ∙ sym long_before) ∙ number_last before.equations.items second in
      let d : AreEqual e n ≡ reversed m after.terms.items = ap₂ AreEqual e_is n_is in
      let l : HasDerived now_draft.known.items second (AreEqual e n) = subst (λ (ks : List Derived). HasDerived ks second (AreEqual e n)) (sym known) (last_in middle (AreEqual e n) second second_is) in
      subst (λ (x : ℕ). HasDerived now_draft.known.items x (reversed o after.terms.items)) (sym r) (subst (λ (x : Unfolding). HasDerived now_draft.known.items second (reversed x after.terms.items)) p (subst (HasDerived now_draft.known.items second) d l))
  each_now k o h (inr (inr j)) = absurd (let w = slice_get_within (made ++ m ∷ []) k o h in omega (arith, w, j.1, pushed_length made m))
    where
      pushed_length : (ms : List Unfolding) (x : Unfolding) → length (ms ++ x ∷ []) ≡ length ms + 1
      pushed_length [] x = omega arith
      pushed_length (y ∷ ms) x = let e = pushed_length ms x in omega (arith, e)

  long_now : length after.equations.items ≡ length (made ++ m ∷ [])
  long_now = ap length rows ∙ one_more before.equations.items second made m long_before
    where
      one_more : {A B : Type 0} (xs : List A) (x : A) (ys : List B) (y : B) → length xs ≡ length ys → length (xs ++ x ∷ []) ≡ length (ys ++ y ∷ [])
      one_more [] x [] y q = refl
      one_more [] x (b ∷ ys) y q = absurd (omega (arith, q))
      one_more (a ∷ xs) x [] y q = absurd (omega (arith, q))
      one_more (a ∷ xs) x (b ∷ ys) y q = ap suc (one_more xs x ys y (omega (arith, q)))

  pub draft_more : IsDraft u ls (made ++ m ∷ []) after now_draft
  draft_more = record {
    based = basis_more;
    leads = leads_more;
    derived = record { long = long_now; each = λ k o h. each_now k o h (where_is k (length made)) };
  }
