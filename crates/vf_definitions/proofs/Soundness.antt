-- Unfolding by definitions keeps values.
use Rattle.std.proofs.Common.{◌≡◌, ℕ, zero, suc, Bool, true, false, cond, ◌&&◌, ◌==◌, List, [], ◌∷◌, Option, Some, None, refl, sym, ap, ap₂, subst, ◌∙◌, arith}
use Rattle.std.specs.Prelude.{Contains}
use Rattle.std.specs.Option.{option_and_then}
use Rattle.std.proofs.lemmas.Bool.Decides.{Decides-eqb, Decides-and}
use Rattle.vf_tree.specs.Core.{Identity}
use Rattle.vf_model.specs.Values.{Value, Values, same_identity}
use Rattle.vf_model.specs.Values as values
use Rattle.vf_model.proofs.Equality.{identities_told}
use Rattle.vf_meaning.specs.Valuations.{Valuation, value_at, of_arguments}
use Rattle.vf_meaning.specs.Valuations as valued
use Rattle.vf_meaning.specs.GhostValues.{Interpretation}
use Rattle.vf_closure.specs.Terms.{Kind, Integer, Other, Fixpoint, Constructor, Term, Terms, term, no_terms, and_term, count}
use Rattle.vf_closure.specs.Values.{of_kind, value, all_values}
use Rattle.vf_closure.proofs.Sound.{refutations_sound}
use Rattle.vf_normal.specs.Normal.{normal}
use Rattle.vf_normal.proofs.Kept.{normal_forms_kept}
use Rattle.vf_formula.specs.Heads.{shown_kind}
use Rattle.vf_definitions.specs.Filled.{filled, followed_by}
use Rattle.vf_definitions.specs.Kept.{keeps_fractions, is_plain, kept_form}
use Rattle.vf_definitions.specs.Unfolded.{same_kind, fixpoint_for, case_for, parts_of, body_at, body_for, term_at, returned, switched_over, case_result, case_returned, unfoldings_of}
use Rattle.vf_definitions.specs.Laws.{MeetsBody, MeetsDefinitions, DefinitionsKeepValues, DefinitionsEntail}
use Rattle.vf_definitions.specs.declared.fixpoint.Case.{Case}
use Rattle.vf_definitions.specs.declared.fixpoint.Body.{Body}
use Rattle.vf_definitions.specs.declared.fixpoint.Body.TheVariants.{Returns, Switches}
use Rattle.vf_definitions.specs.declared.fixpoint.Fixpoint as declared
use Rattle.vf_definitions.proofs.Worth.{filled_value, followed_values, counted_values}

kinds_told : (a b : Kind) → same_kind a b ≡ true → a ≡ b
kinds_told Integer Integer e = refl
kinds_told Other Other e = refl
kinds_told Integer Other e = cc
kinds_told Other Integer e = cc

-- what was found is one of the fixpoints, of this kind and this name
record IsFound (fs : List declared.Fixpoint) (k : Kind) (f : Identity) (g : declared.Fixpoint) : Type 0 where
  there : Contains fs g
  kind : shown_kind g.kind ≡ k
  identity : g.identity ≡ f

first_there : (x g : declared.Fixpoint) (xs : List declared.Fixpoint) → x ≡ g → Contains (x ∷ xs) g
first_there x g xs e = (0, omega arith, e)

later_there : (x g : declared.Fixpoint) (xs : List declared.Fixpoint) → Contains xs g → Contains (x ∷ xs) g
later_there x g xs h = (suc h.0, omega (arith, h.1), h.2)

found : (fs : List declared.Fixpoint) (k : Kind) (f : Identity) (g : declared.Fixpoint) → fixpoint_for fs k f ≡ Some g → IsFound fs k f g
found [] k f g e = absurd (cc)
found (x ∷ xs) k f g e = by (same_kind (shown_kind x.kind) k && same_identity x.identity f) refl e (found xs k f g)
  where
    by : (b : Bool) → same_kind (shown_kind x.kind) k && same_identity x.identity f ≡ b → cond b (Some x) (fixpoint_for xs k f) ≡ Some g → (fixpoint_for xs k f ≡ Some g → IsFound xs k f g) → IsFound (x ∷ xs) k f g
    by true d h rest =
        let same : x ≡ g = cc in
        let both = (Decides-and (same_kind (shown_kind x.kind) k) (same_identity x.identity f) (λ p. p, λ p. p) (λ p. p, λ p. p)).0 d in
        record {
          there = first_there x g xs same;
          kind = sym (ap (λ (y : declared.Fixpoint). shown_kind y.kind) same) ∙ kinds_told (shown_kind x.kind) k both.0;
          identity = sym (ap (λ (y : declared.Fixpoint). y.identity) same) ∙ (identities_told x.identity f).0 both.1;
        }
    by false d h rest = let r = rest h in record { there = later_there x g xs r.there; kind = r.kind; identity = r.identity }

-- a term's body is that of a fixpoint, which the term applies to as many arguments as it has parameters
record IsApplied (fs : List declared.Fixpoint) (t : Term) (b : Body) : Type 0 where
  kind : Kind
  identity : Identity
  arguments : Terms
  is : t ≡ term (Fixpoint kind identity) arguments
  fixpoint : declared.Fixpoint
  found_there : IsFound fs kind identity fixpoint
  counted : count arguments ≡ fixpoint.parameters
  body : fixpoint.body ≡ b

applied_at : (fs : List declared.Fixpoint) (k : Kind) (f : Identity) (ts : Terms) (b : Body) (o : Option declared.Fixpoint) → fixpoint_for fs k f ≡ o → option_and_then (body_at ts) o ≡ Some b → IsApplied fs (term (Fixpoint k f) ts) b
applied_at fs k f ts b None e h = absurd (cc)
applied_at fs k f ts b (Some g) e h = by (count ts == g.parameters) refl h
  where
    by : (c : Bool) → (count ts == g.parameters) ≡ c → cond c (Some g.body) None ≡ Some b → IsApplied fs (term (Fixpoint k f) ts) b
    by true d j = record {
      kind = k;
      identity = f;
      arguments = ts;
      is = refl;
      fixpoint = g;
      found_there = found fs k f g e;
      counted = (Decides-eqb (count ts) g.parameters).0 d;
      body = let s : g.body ≡ b = cc in s;
    }
    by false d j = absurd (cc)

applied_in : (fs : List declared.Fixpoint) (t : Term) (b : Body) → body_for fs t ≡ Some b → IsApplied fs t b
applied_in fs (term (Fixpoint k f) ts) b e = applied_at fs k f ts b (fixpoint_for fs k f) refl e
applied_in fs t b e = absurd (cc)

-- a normal form that is given is one
form_is : (t b : Term) → kept_form t ≡ Some b → normal t ≡ b
form_is t b e = by (keeps_fractions t && is_plain (normal t)) e
  where
    by : (c : Bool) → cond c (Some (normal t)) None ≡ Some b → normal t ≡ b
    by true h = cc
    by false h = absurd (cc)

module _ (i : Interpretation) (fs : List declared.Fixpoint) (meets : MeetsDefinitions i fs) (v : Valuation) where
  -- the value of an application, and what its body says
  application_value : (t : Term) (b : Body) (a : IsApplied fs t b) → value i v t ≡ of_kind (shown_kind a.fixpoint.kind) (i.fixpoint a.fixpoint.identity (all_values i v a.arguments))
  application_value t b a = ap (value i v) a.is ∙ sym (ap₂ (λ k f. of_kind k (i.fixpoint f (all_values i v a.arguments))) a.found_there.kind a.found_there.identity)

  says : (t : Term) (b : Body) (a : IsApplied fs t b) → MeetsBody i a.fixpoint b
  says t b a = subst (MeetsBody i a.fixpoint) a.body (meets a.fixpoint a.found_there.there)

  form_value : (ts : Terms) (x b : Term) → kept_form (filled ts x) ≡ Some b → value i (of_arguments (all_values i v ts)) x ≡ value i v b
  form_value ts x b e = sym (filled_value i v ts x) ∙ sym (normal_forms_kept i v (filled ts x)) ∙ ap (value i v) (form_is (filled ts x) b e)

  counted : (t : Term) (b : Body) (a : IsApplied fs t b) → valued.count (all_values i v a.arguments) ≡ a.fixpoint.parameters
  counted t b a = counted_values i v a.arguments ∙ a.counted

  returned_value : (t : Term) (x : Body) (a : IsApplied fs t x) (b : Term) → returned a.arguments x ≡ Some b → value i v t ≡ value i v b
  returned_value t (Returns x) a b e = application_value t (Returns x) a ∙ says t (Returns x) a (all_values i v a.arguments) (counted t (Returns x) a) ∙ form_value a.arguments x b e
  returned_value t (Switches n cs) a b e = absurd (cc)

  body_value_in : (t b : Term) (o : Option Body) → body_for fs t ≡ o → option_and_then (returned (parts_of t)) o ≡ Some b → value i v t ≡ value i v b
  body_value_in t b None e h = absurd (cc)
  body_value_in t b (Some x) e h = let a = applied_in fs t x e in returned_value t x a b (sym (ap (λ u. returned (parts_of u) x) a.is) ∙ h)

  pub body_value : (t b : Term) → (unfoldings_of fs).body t ≡ Some b → value i v t ≡ value i v b
  body_value t b e = body_value_in t b (body_for fs t) refl e

  part_there : (ts : Terms) (n : ℕ) (a : Term) → term_at ts n ≡ Some a → value_at (all_values i v ts) n ≡ value i v a
  part_there no_terms n a e = absurd (cc)
  part_there (and_term t ts) zero a e = let s : t ≡ a = cc in ap (value i v) s
  part_there (and_term t ts) (suc n) a e = part_there ts n a e

  case_at_value : (t a b : Term) (n : ℕ) (cs : List Case) (x : IsApplied fs t (Switches n cs)) (c : Identity) (us : Terms) (o : Option Case)
      → case_for cs c ≡ o → term_at x.arguments n ≡ Some a → value i v a ≡ values.Constructed c (all_values i v us) → option_and_then (case_result x.arguments us) o ≡ Some b → value i v t ≡ value i v b
  case_at_value t a b n cs x c us None f s e h = absurd (cc)
  case_at_value t a b n cs x c us (Some k) f s e h = by (count us == k.names) refl h
    where
      by : (z : Bool) → (count us == k.names) ≡ z → cond z (kept_form (filled (followed_by x.arguments us) k.result)) None ≡ Some b → value i v t ≡ value i v b
      by true d j =
          application_value t (Switches n cs) x
          ∙ says t (Switches n cs) x (all_values i v x.arguments) (all_values i v us) c k (counted t (Switches n cs) x) (part_there x.arguments n a s ∙ e) f (counted_values i v us ∙ (Decides-eqb (count us) k.names).0 d)
          ∙ ap (λ ws. value i (of_arguments ws) k.result) (sym (followed_values i v x.arguments us))
          ∙ form_value (followed_by x.arguments us) k.result b j
      by false d j = absurd (cc)

  case_value_by : (t a b : Term) (y : Body) (x : IsApplied fs t y) (k : Term) → switched_over x.arguments y ≡ Some a → value i v a ≡ value i v k → case_returned x.arguments k y ≡ Some b → value i v t ≡ value i v b
  case_value_by t a b (Switches n cs) x (term (Constructor c) us) s e h = case_at_value t a b n cs x c us (case_for cs c) refl s e h
  case_value_by t a b (Returns y) x k s e h = absurd (cc)
  case_value_by t a b (Switches n cs) x k s e h = absurd (cc)

  case_value_in : (t a k b : Term) (o : Option Body) → body_for fs t ≡ o → option_and_then (switched_over (parts_of t)) o ≡ Some a → value i v a ≡ value i v k → option_and_then (case_returned (parts_of t) k) o ≡ Some b → value i v t ≡ value i v b
  case_value_in t a k b None e s m h = absurd (cc)
  case_value_in t a k b (Some y) e s m h =
      let x = applied_in fs t y e in
      case_value_by t a b y x k (sym (ap (λ u. switched_over (parts_of u) y) x.is) ∙ s) m (sym (ap (λ u. case_returned (parts_of u) k y) x.is) ∙ h)

  pub case_value : (t a k b : Term) → (unfoldings_of fs).switched t ≡ Some a → value i v a ≡ value i v k → (unfoldings_of fs).case t k ≡ Some b → value i v t ≡ value i v b
  case_value t a k b s m h = case_value_in t a k b (body_for fs t) refl s m h

pub definitions_kept : DefinitionsKeepValues
definitions_kept i fs meets = record { bodies = body_value i fs meets; cases = case_value i fs meets }

pub definitions_entail : DefinitionsEntail
definitions_entail fs path goal refuted i meets = refutations_sound i (unfoldings_of fs) path goal (definitions_kept i fs meets) refuted
