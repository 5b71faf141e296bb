-- The values that definitions give are those of their bodies: what is unfolded often enough stays the same.
use Rattle.std.proofs.Common.{◌≡◌, ℕ, zero, suc, ◌<◌, Bool, true, false, cond, ◌==◌, List, [], ◌∷◌, Option, Some, None, refl, sym, subst, ap, ◌∙◌, ⊎_elim, arith}
use Rattle.std.specs.Prelude.{Contains}
use Rattle.std.proofs.lemmas.Bool.{eqb-true, eq-eqb}
use Rattle.vf_tree.specs.Core.{Identity}
use Rattle.vf_model.specs.Values.{Value, Values, same_identity}
use Rattle.vf_meaning.specs.Valuations.{count, no_value}
use Rattle.vf_meaning.specs.GhostValues.{Interpretation, with_fixpoint}
use Rattle.vf_meaning.proofs.FitSteps.{identities, own_identity}
use Rattle.vf_closure.specs.Values.{of_kind}
use Rattle.vf_formula.specs.Heads.{shown_kind}
use Rattle.vf_definitions.specs.Laws.{MeetsBody}
use Rattle.vf_definitions.specs.declared.fixpoint.Body.{Body}
use Rattle.vf_definitions.specs.declared.fixpoint.Body.TheVariants.{Returns, Switches}
use Rattle.vf_definitions.specs.declared.fixpoint.Fixpoint as definitions
use Rattle.vf_fixpoint_laws.specs.bodies.Recursion.{BodyGoesDown, Ranks}
use Rattle.vf_fixpoint_laws.specs.bodies.Units.{GoDown}
use Rattle.vf_fixpoint_laws.specs.met.Laws.{AgreeByIdentity, BodyIsOfKind, DefinitionsAreMet}
use Rattle.vf_fixpoint_laws.specs.met.Valued.{body_value, case_value, defined_value, first_for, given_below, given_by, measure, switched_value, unfolded_value}
use Rattle.vf_fixpoint_laws.proofs.met.Agreeing.{body_alike}

-- ---- the first definition of an identity
first_more : (y : definitions.Fixpoint) (ys : List definitions.Fixpoint) (x : definitions.Fixpoint) → Contains ys x → Contains (y ∷ ys) x
first_more y ys x (k, l, is) = (suc k, omega (arith, l), is)

pub first_found : (fs : List definitions.Fixpoint) (c : Identity) (x : definitions.Fixpoint) → first_for fs c ≡ Some x → Contains fs x × (x.identity ≡ c)
first_found [] c x e = absurd cc
first_found (y ∷ ys) c x e = ⊎_elim here (later (first_found ys c x)) (identities y.identity c)
  where
    here : (same_identity y.identity c ≡ true) × (y.identity ≡ c) → Contains (y ∷ ys) x × (x.identity ≡ c)
    here q =
        let same : y ≡ x = (let w : Some y ≡ Some x = subst (λ b. cond b (Some y) (first_for ys c) ≡ Some x) q.0 e in cc) in
        ((zero, omega arith, same), subst (λ (z : definitions.Fixpoint). z.identity ≡ c) same q.1)

    later : (first_for ys c ≡ Some x → Contains ys x × (x.identity ≡ c)) → same_identity y.identity c ≡ false → Contains (y ∷ ys) x × (x.identity ≡ c)
    later further q = let r = further (subst (λ b. cond b (Some y) (first_for ys c) ≡ Some x) q e) in (first_more y ys x r.0, r.1)

pub first_there : (fs : List definitions.Fixpoint) (x : definitions.Fixpoint) → Contains fs x → (y : definitions.Fixpoint) × (first_for fs x.identity ≡ Some y)
first_there [] x (k, l, is) = absurd (omega (arith, l))
first_there (y ∷ ys) x (zero, l, is) = (y, subst (λ (z : definitions.Fixpoint). cond (same_identity y.identity z.identity) (Some y) (first_for ys z.identity) ≡ Some y) is (ap (λ b. cond b (Some y) (first_for ys y.identity)) (own_identity y.identity)))
first_there (y ∷ ys) x (suc k, l, is) = by (same_identity y.identity x.identity) (first_there ys x (k, omega (arith, l), is))
  where
    by : (b : Bool) → ((z : definitions.Fixpoint) × (first_for ys x.identity ≡ Some z)) → (z : definitions.Fixpoint) × (cond b (Some y) (first_for ys x.identity) ≡ Some z)
    by true h = (y, refl)
    by false h = h

-- ---- counts
count_told : (m n : ℕ) → (m == n) ≡ true → m ≡ n
count_told m n e = eqb-true m n e

count_own : (m n : ℕ) → m ≡ n → (m == n) ≡ true
count_own m n e = eq-eqb m n e

-- ---- enough unfoldings
-- what comes earlier is another
other_identity : (r : Ranks) (f c : Identity) → r f < r c → same_identity f c ≡ false
other_identity r f c l = ⊎_elim (λ p. absurd (let q : r f ≡ r c = ap r p.1 in omega (arith, l, q))) (λ q. q) (identities f c)

at_other : (r : Ranks) (i : Interpretation) (c : Identity) (new : Values → Value) (f : Identity) → r f < r c → (ws : Values) → (with_fixpoint i c new).fixpoint f ws ≡ i.fixpoint f ws
at_other r i c new f l ws = ap (λ b. cond b (new ws) (i.fixpoint f ws)) (other_identity r f c l)

at_own : (i : Interpretation) (c : Identity) (new : Values → Value) (ws : Values) → (with_fixpoint i c new).fixpoint c ws ≡ new ws
at_own i c new ws = ap (λ b. cond b (new ws) (i.fixpoint c ws)) (own_identity c)

module _ (r : Ranks) (x : definitions.Fixpoint) (down : BodyGoesDown r x.identity x.parameters x.body) (i j : Interpretation) (claims : i.claims ≡ j.claims)
    (earlier : (f : Identity) → r f < r x.identity → (ws : Values) → i.fixpoint f ws ≡ j.fixpoint f ws) where
  -- a definition unfolded often enough gives the same, where what comes earlier does
  pub unfolded_alike : (m k : ℕ) (vs : Values) → measure x.body vs < m → measure x.body vs < k → unfolded_value i x m vs ≡ unfolded_value j x k vs
  unfolded_alike zero k vs l e = absurd (omega (arith, l))
  unfolded_alike (suc m) zero vs l e = absurd (omega (arith, e))
  unfolded_alike (suc m) (suc k) vs l e = by (λ ws small. unfolded_alike m k ws (omega (arith, l, small)) (omega (arith, e, small))) (count vs == x.parameters) refl
    where
      by : ((ws : Values) → measure x.body ws < measure x.body vs → unfolded_value i x m ws ≡ unfolded_value j x k ws) → (b : Bool) → (count vs == x.parameters) ≡ b
          → cond b (body_value (with_fixpoint i x.identity (unfolded_value i x m)) x.body vs) no_value ≡ cond b (body_value (with_fixpoint j x.identity (unfolded_value j x k)) x.body vs) no_value
      by further false q = refl
      by further true q =
          body_alike (with_fixpoint i x.identity (unfolded_value i x m)) (with_fixpoint j x.identity (unfolded_value j x k)) claims r x.identity x.parameters vs (sym (count_told (count vs) x.parameters q))
          (λ f low ws. at_other r i x.identity (unfolded_value i x m) f low ws ∙ earlier f low ws ∙ sym (at_other r j x.identity (unfolded_value j x k) f low ws))
          x.body
          (λ ws small. at_own i x.identity (unfolded_value i x m) ws ∙ further ws small ∙ sym (at_own j x.identity (unfolded_value j x k) ws))
          down

-- ---- enough ranks
module _ (claims : Identity → Identity → Bool) (fs : List definitions.Fixpoint) (r : Ranks) (goes : GoDown r fs) where
  -- what fixpoints give where applications go down fewer than so many times
  abbrev below : ℕ → Interpretation
  below n = record { claims = claims; fixpoint = given_below claims fs n }

  below_alike : (n m : ℕ) (c : Identity) → r c < n → r c < m → (vs : Values) → given_below claims fs n c vs ≡ given_below claims fs m c vs
  below_alike zero m c l e vs = absurd (omega (arith, l))
  below_alike (suc n) zero c l e vs = absurd (omega (arith, e))
  below_alike (suc n) (suc m) c l e vs = by (λ f low ws. below_alike n m f (omega (arith, low, l)) (omega (arith, low, e)) ws) (first_for fs c) refl
    where
      by : ((f : Identity) → r f < r c → (ws : Values) → given_below claims fs n f ws ≡ given_below claims fs m f ws) → (o : Option definitions.Fixpoint) → first_for fs c ≡ o → defined_value (below n) o vs ≡ defined_value (below m) o vs
      by further None q = refl
      by further (Some x) q =
          let h = first_found fs c x q in
          let same : r x.identity ≡ r c = ap r h.1 in
          unfolded_alike r x (goes x h.0) (below n) (below m) refl (λ f low ws. further f (omega (arith, low, same)) ws) (suc (measure x.body vs)) (suc (measure x.body vs)) vs (omega arith) (omega arith)

  abbrev whole : Interpretation
  whole = given_by claims fs r

  module _ (x : definitions.Fixpoint) (first : first_for fs x.identity ≡ Some x) where
    own_down : BodyGoesDown r x.identity x.parameters x.body
    own_down = goes x (first_found fs x.identity x first).0

    -- what comes earlier gives the same as in the end
    earlier_alike : (f : Identity) → r f < r x.identity → (ws : Values) → given_below claims fs (r x.identity) f ws ≡ whole.fixpoint f ws
    earlier_alike f low ws = below_alike (r x.identity) (suc (r f)) f low (omega arith) ws

    gives_unfolded : (ws : Values) → whole.fixpoint x.identity ws ≡ unfolded_value (below (r x.identity)) x (suc (measure x.body ws)) ws
    gives_unfolded ws = ap (λ (o : Option definitions.Fixpoint). defined_value (below (r x.identity)) o ws) first

    -- the first definition of an identity gives the value of its body
    gives_body : (vs : Values) → count vs ≡ x.parameters → whole.fixpoint x.identity vs ≡ body_value whole x.body vs
    gives_body vs long =
        gives_unfolded vs
        ∙ ap (λ b. cond b (body_value (with_fixpoint (below (r x.identity)) x.identity (unfolded_value (below (r x.identity)) x (measure x.body vs))) x.body vs) no_value) (count_own (count vs) x.parameters long)
        ∙ body_alike (with_fixpoint (below (r x.identity)) x.identity (unfolded_value (below (r x.identity)) x (measure x.body vs))) whole refl r x.identity x.parameters vs (sym long)
        (λ f low ws. at_other r (below (r x.identity)) x.identity (unfolded_value (below (r x.identity)) x (measure x.body vs)) f low ws ∙ earlier_alike f low ws)
        x.body
        (λ ws small. at_own (below (r x.identity)) x.identity (unfolded_value (below (r x.identity)) x (measure x.body vs)) ws
        ∙ unfolded_alike r x own_down (below (r x.identity)) (below (r x.identity)) refl (λ f low us. refl) (measure x.body vs) (suc (measure x.body ws)) ws small (omega arith)
        ∙ sym (gives_unfolded ws))
        own_down

    -- so it is met, where it returns values of its kind
    meets_by : (b : Body) → x.body ≡ b → BodyIsOfKind (shown_kind x.kind) b → MeetsBody whole x b
    meets_by (Returns t) is kinds = λ vs long. ap (of_kind (shown_kind x.kind)) (gives_body vs long ∙ ap (λ (b : Body). body_value whole b vs) is) ∙ kinds whole _
    meets_by (Switches p cases) is kinds = λ vs us c y long at there names.
        ap (of_kind (shown_kind x.kind))
        (gives_body vs long ∙ ap (λ (b : Body). body_value whole b vs) is ∙ ap (switched_value whole vs cases) at ∙ ap (case_value whole vs us) there)
        ∙ kinds c y there whole _

    first_met : BodyIsOfKind (shown_kind x.kind) x.body → MeetsBody whole x x.body
    first_met kinds = meets_by x.body refl kinds

  each_met : AgreeByIdentity fs → (y : definitions.Fixpoint) → Contains fs y → MeetsBody whole y y.body
  each_met agree y there =
      let h = first_there fs y there in
      let same : (h.0).identity ≡ y.identity = (first_found fs y.identity h.0 h.1).1 in
      agree.with_the_first y.identity h.0 y h.1 there refl whole
      (first_met h.0 (subst (λ (c : Identity). first_for fs c ≡ Some h.0) (sym same) h.1) (agree.of_their_kind y.identity h.0 h.1))

pub definitions_are_met : DefinitionsAreMet
definitions_are_met claims fs r goes agree = (given_by claims fs r, refl, each_met claims fs r goes agree)
