-- The definitions of an accepted unit agree where they are of one identity.
use Rattle.std.proofs.Common.{◌≡◌, refl, sym, subst, ap, ◌∙◌, ℕ, zero, suc, Bool, true, false, cond, List, [], ◌∷◌, length, Some, None, arith}
use Rattle.std.specs.Prelude.{Contains}
use Rattle.vf_tree.specs.Core.{Identity}
use Rattle.vf_model.specs.Values.{same_identity}
use Rattle.vf_meaning.specs.GhostValues.{Interpretation}
use Rattle.vf_closure.specs.Terms.{Integer, Other}
use Rattle.vf_formula.specs.Heads.{shown_kind}
use Rattle.vf_formula.specs.declared.head.Kind.TheVariants as kinds
use Rattle.vf_sorts.specs.declared.sort.Head.TheVariants as heads
use Rattle.vf_sorts.specs.Sorts.{Sort, Sorts, sort}
use Rattle.vf_syntax.specs.declared.item.GhostParameter.{GhostParameter}
use Rattle.vf_syntax.specs.declared.item.Item.{Item}
use Rattle.vf_declared.specs.declared.scope.Scope.{Scope}
use Rattle.vf_declared.specs.Changes.{IsAligned}
use Rattle.vf_binding.specs.Bound.{bound_local}
use Rattle.vf_resolve.specs.declared.files.Files.{Files}
use Rattle.vf_equations.specs.Fixpoints.{result_in}
use Rattle.vf_definitions.specs.Laws.{MeetsBody}
use Rattle.vf_definitions.specs.declared.fixpoint.Body.{Body}
use Rattle.vf_definitions.specs.declared.fixpoint.Body.TheVariants.{Returns, Switches}
use Rattle.vf_definitions.specs.declared.fixpoint.Fixpoint as definitions
use Rattle.vf_defining.specs.Bodies.{identity_at}
use Rattle.vf_defining.specs.Symbols.{without_locals}
use Rattle.vf_defining.specs.Units.{ItemDefines, other_item, stray_item, fixpoint, definitions_by, of_integers, within_fixpoint}
use Rattle.vf_defining.specs.UpTo.{up_to}
use Rattle.vf_fixpoint_laws.proofs.bodies.Resolved.{length_mapped}
use Rattle.vf_fixpoint_laws.proofs.descending.Items.{unit_stands}
use Rattle.vf_fixpoint_laws.proofs.descending.Levels.{level}
use Rattle.vf_fixpoint_laws.proofs.descending.Spelled.{spelled_counted}
use Rattle.vf_fixpoint_laws.proofs.descending.Unmarked.{unmarked_items_have_plain_names}
use Rattle.vf_fixpoint_laws.proofs.accepted.Parameters.{integers_are_met}
use Rattle.vf_fixpoint_laws.specs.met.Laws.{BodyIsOfKind}
use Rattle.vf_fixpoint_laws.specs.met.Units.{AcceptedDefinitionsAgree, IsAcceptedUnit}
use Rattle.vf_fixpoint_laws.specs.met.Valued.{first_for}
use Rattle.vf_fixpoint_laws.proofs.met.Meeting.{first_found}
use Rattle.vf_fixpoint_laws.proofs.met.Once.{each_once}
use Rattle.vf_fixpoint_laws.proofs.met.Own.{AreOfItem, are_of_item}
use Rattle.vf_fixpoint_laws.proofs.met.Results.{defines_kinded}

-- ---- the definitions of one fixpoint
other_kind : (b : Body) → BodyIsOfKind Other b
other_kind (Returns t) = λ i v. refl
other_kind (Switches p cases) = λ c y e i v. refl

-- the only one
one_first : (x y : definitions.Fixpoint) (c : Identity) → first_for (x ∷ []) c ≡ Some y → x ≡ y
one_first x y c e = by (same_identity x.identity c) e
  where
    by : (b : Bool) → cond b (Some x) None ≡ Some y → x ≡ y
    by true e = cc
    by false e = absurd cc

-- the first of two of one identity
two_first : (x z y : definitions.Fixpoint) (c : Identity) → z.identity ≡ x.identity → first_for (x ∷ z ∷ []) c ≡ Some y → x ≡ y
two_first x z y c same e = by (same_identity x.identity c) (subst (λ (g : Identity). cond (same_identity x.identity c) (Some x) (cond (same_identity g c) (Some z) None) ≡ Some y) same e)
  where
    by : (b : Bool) → cond b (Some x) (cond b (Some z) None) ≡ Some y → x ≡ y
    by true e = cc
    by false e = absurd cc

one_there : (x y : definitions.Fixpoint) → Contains (x ∷ []) y → x ≡ y
one_there x y (zero, l, is) = is
one_there x y (suc k, l, is) = absurd (omega (arith, l))

module _ (g : Identity) (m : ℕ) (b : Body) (c : Identity) where
  -- a definition with the body as it is, and the one for integers where the result is of a type parameter
  abbrev as_other : definitions.Fixpoint
  as_other = record { kind = kinds.Other; identity = g; parameters = m; body = b }

  abbrev as_integers : definitions.Fixpoint
  as_integers = record { kind = kinds.Integer; identity = g; parameters = m; body = b }

  abbrev as_taken : definitions.Fixpoint
  as_taken = record { kind = kinds.Integer; identity = g; parameters = m; body = of_integers b }

  -- a definition returns values of its kind
  abbrev ReturnsItsKind : definitions.Fixpoint → Type 0
  ReturnsItsKind x = BodyIsOfKind (shown_kind x.kind) x.body

  other_returns : (x : definitions.Fixpoint) → first_for (as_other ∷ []) c ≡ Some x → ReturnsItsKind x
  other_returns x e = subst ReturnsItsKind (one_first as_other x c e) (other_kind b)

  -- the first returns values of its kind
  returns_by : (t : Sort) (x : definitions.Fixpoint) → ((ts : Sorts) → t ≡ sort heads.Int ts → BodyIsOfKind Integer b) → first_for (definitions_by g m b t) c ≡ Some x → ReturnsItsKind x
  returns_by (sort heads.Int ts) x integers e = subst ReturnsItsKind (one_first as_integers x c e) (integers ts refl)
  returns_by (sort (heads.Parameter i) ts) x integers e = subst ReturnsItsKind (two_first as_other as_taken x c refl e) (other_kind b)
  returns_by (sort heads.Bool ts) x integers e = other_returns x e
  returns_by (sort (heads.Pointer w) ts) x integers e = other_returns x e
  returns_by (sort heads.Real ts) x integers e = other_returns x e
  returns_by (sort heads.Any ts) x integers e = other_returns x e
  returns_by (sort (heads.Unknown u) ts) x integers e = other_returns x e
  returns_by (sort (heads.Datatype d) ts) x integers e = other_returns x e
  returns_by (sort heads.Predicate ts) x integers e = other_returns x e

  module _ (i : Interpretation) where
    -- a definition is met
    abbrev IsMet : definitions.Fixpoint → Type 0
    IsMet x = MeetsBody i x x.body

    alone_met : (d x y : definitions.Fixpoint) → first_for (d ∷ []) c ≡ Some x → Contains (d ∷ []) y → IsMet x → IsMet y
    alone_met d x y e there h = subst IsMet (sym (one_first d x c e) ∙ one_there d y there) h

    both_met : (x y : definitions.Fixpoint) → as_other ≡ x → Contains (as_other ∷ as_taken ∷ []) y → IsMet x → IsMet y
    both_met x y same (zero, l, is) h = subst IsMet (sym same ∙ is) h
    both_met x y same (suc zero, l, is) h = subst IsMet is (integers_are_met i g m b (subst IsMet (sym same) h))
    both_met x y same (suc (suc k), l, is) h = absurd (omega (arith, l))

    -- where the first is met, so is each
    met_by : (t : Sort) (x y : definitions.Fixpoint) → first_for (definitions_by g m b t) c ≡ Some x → Contains (definitions_by g m b t) y → IsMet x → IsMet y
    met_by (sort heads.Int ts) x y e there h = alone_met as_integers x y e there h
    met_by (sort (heads.Parameter k) ts) x y e there h = both_met x y (two_first as_other as_taken x c refl e) there h
    met_by (sort heads.Bool ts) x y e there h = alone_met as_other x y e there h
    met_by (sort (heads.Pointer w) ts) x y e there h = alone_met as_other x y e there h
    met_by (sort heads.Real ts) x y e there h = alone_met as_other x y e there h
    met_by (sort heads.Any ts) x y e there h = alone_met as_other x y e there h
    met_by (sort (heads.Unknown u) ts) x y e there h = alone_met as_other x y e there h
    met_by (sort (heads.Datatype d) ts) x y e there h = alone_met as_other x y e there h
    met_by (sort heads.Predicate ts) x y e there h = alone_met as_other x y e there h

-- ---- the definitions of a unit
-- as many parameters as arguments stand in the body of a fixpoint
within_aligned : (s : Scope) (gs : List GhostParameter) (ts : List Sort) → length gs ≡ length ts → IsAligned (within_fixpoint s gs ts).locals
within_aligned s gs ts long = length_mapped (λ (p : GhostParameter). p.name.text) gs ∙ long ∙ sym (length_mapped bound_local ts)

module _ (f : Files) (paths : List (List ℕ)) (xs : List Item) (s : Scope) (fs : List definitions.Fixpoint) (a : IsAcceptedUnit f paths xs s fs) (c : Identity) (x y : definitions.Fixpoint) (h : AreOfItem s (unmarked_items_have_plain_names f xs s a.come a.unmarked) paths xs c x y) where
  abbrev Bare : Scope
  Bare = without_locals s

  item_returns : (item : Item) (own : List definitions.Fixpoint) → Contains xs item → ItemDefines Bare paths item own → first_for own c ≡ Some x → BodyIsOfKind (shown_kind x.kind) x.body
  item_returns item own among (other_item e) its_first = absurd cc
  item_returns item own among (stray_item e stray) its_first = absurd cc
  item_returns item own among (fixpoint {w} {n} {f = g} {b} is numbered defines) its_first = returns_by (identity_at Bare paths w.name) (length w.parameters) b c g.result x integers its_first
    where
      long : length w.parameters ≡ length g.arguments
      long = spelled_counted (level s) w.parameters g.arguments ((unit_stands f xs s a.come).heads item among w is n g numbered)

      integers : (ts : Sorts) → g.result ≡ sort heads.Int ts → BodyIsOfKind Integer b
      integers ts e = defines_kinded (within_fixpoint (up_to w.name Bare) w.parameters g.arguments) paths n ts (within_aligned (up_to w.name Bare) w.parameters g.arguments long) (ap result_in numbered.is ∙ e) w.body b defines

  item_met : (item : Item) (own : List definitions.Fixpoint) → ItemDefines Bare paths item own → first_for own c ≡ Some x → Contains own y → (i : Interpretation) → MeetsBody i x x.body → MeetsBody i y y.body
  item_met item own (other_item e) its_first there i m = absurd cc
  item_met item own (stray_item e stray) its_first there i m = absurd cc
  item_met item own (fixpoint {w} {n} {f = g} {b} is numbered defines) its_first there i m = met_by (identity_at Bare paths w.name) (length w.parameters) b c i g.result x y its_first there m

  own_returns : BodyIsOfKind (shown_kind x.kind) x.body
  own_returns = item_returns h.item h.own h.among h.defines h.first

  own_met : (i : Interpretation) → MeetsBody i x x.body → MeetsBody i y y.body
  own_met = item_met h.item h.own h.defines h.first h.there

pub accepted_definitions_agree : AcceptedDefinitionsAgree
accepted_definitions_agree f paths xs s fs a = record {
  of_their_kind = λ c x e. let r = first_found fs c x e in own_returns f paths xs s fs a c x x (of c x x e r.0 r.1);
  with_the_first = λ c x y e there is. own_met f paths xs s fs a c x y (of c x y e there is);
}
  where
    of : (c : Identity) (x y : definitions.Fixpoint) → first_for fs c ≡ Some x → Contains fs y → y.identity ≡ c → AreOfItem s (unmarked_items_have_plain_names f xs s a.come a.unmarked) paths xs c x y
    of c x y e there is = are_of_item s (unmarked_items_have_plain_names f xs s a.come a.unmarked) paths xs fs a.have (each_once f xs s a.come) c x y e there is
