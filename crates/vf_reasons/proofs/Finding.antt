-- How what was unfolded next came to be unfolded.
use Rattle.std.proofs.Common.{◌≡◌, ◌<◌, ◌≤◌, ◌+◌, ℕ, List, [], ◌∷◌, ◌++◌, length, take, get_or, Option, Some, None, refl, sym, ap, ◌∙◌, subst}
use Rattle.std.specs.Prelude.{pos, slice_get}
use Rattle.std.proofs.lemmas.Option.{slice_get-get_or}
use Rattle.std.proofs.lemmas.List.{take_more, take_all}
use Rattle.vf_tree.specs.Core.{Identity}
use Rattle.vf_closure.specs.Terms.{Constructor, Term, Terms, term, number}
use Rattle.vf_closure.specs.Literals.{Literal}
use Rattle.vf_closure.specs.Closure.{Unfoldings, no_unfoldings, Same}
use Rattle.vf_question.specs.Numbered.{place, all_terms}
use Rattle.vf_question.specs.Plain.{IsPlain}
use Rattle.vf_question.specs.Questions.{at}
use Rattle.vf_question.specs.declared.unfolding.Unfolding.{Unfolding}
use Rattle.vf_question.specs.Unfolded.{equations, IsKnown, IsNext, next_body, next_case}
use Rattle.vf_question.proofs.Has.{Has, has_place, at_place}
use Rattle.vf_question.proofs.Asked.{has_arising}
use Rattle.vf_unfolding.proofs.Arising.{same_arises}
use Rattle.vf_refute.specs.declared.steps.Step as refute
use Rattle.vf_unfolding.specs.Rounds.{AreInTurn}
use Rattle.vf_recheck.specs.declared.steps.Step.{Step}
use Rattle.vf_recheck.specs.declared.steps.Step.TheVariants as steps_
use Rattle.vf_recheck.specs.Refutations.{facts_over, IsOfConstructor, IsBodyAt, IsCaseAt, IsConflictOver, IsRefutation}
use Rattle.vf_reasons.specs.declared.basis.Basis.{Basis}
use Rattle.vf_reasons.specs.declared.draft.Draft.{Draft}
use Rattle.vf_reasons.specs.declared.equalities.Found.{Found}
use Rattle.vf_reasons.specs.declared.equalities.Found.TheVariants as found_
use Rattle.vf_reasons.specs.declared.ways.Way.{Way}
use Rattle.vf_reasons.specs.Drafts.{with_equations, IsBasis, Lead, IsDraft, IsEnd, IsFound, IsCandidate, IsEqualCase, IsNoCase, IsFoundCase, IsWayBy, IsWay, DoesUnfold}
use Rattle.vf_reasons.proofs.Leading.{lead_end}
use Rattle.vf_reasons.proofs.Based.{gathered_with, known_there}
use Rattle.vf_reasons.proofs.Asking.{same_in}

pub stands_at : (t : Term) (ts : List Term) → Has ts t → slice_get ts (place t ts) ≡ Some t
stands_at t ts h = slice_get-get_or ts (place t ts) (number (pos 0)) (has_place t ts h) ∙ ap Some (at_place t (number (pos 0)) ts h)

-- an unfolding by a case of the closure of the literals of a basis
record IsByCase (u : Unfoldings) (ls : List Literal) (made : List Unfolding) (m : Unfolding) : Type 0 where
  constructor_is : Identity
  parts : Terms
  argument : Term
  known : IsKnown ls made (term (Constructor constructor_is) parts)
  switched : u.switched m.application ≡ Some argument
  same : Same no_unfoldings (ls ++ equations made) argument (term (Constructor constructor_is) parts)
  case : u.case m.application (term (Constructor constructor_is) parts) ≡ Some m.body

by_case : (u : Unfoldings) (ls : List Literal) (made : List Unfolding) (m : Unfolding) → IsNext u ls made m → (u.body m.application ≡ Some m.body → ⊥) → IsByCase u ls made m
by_case u ls made m (next_body l k d b) never = absurd (never b)
by_case u ls made m (next_case {c} {ks} {a} l k kc d e s q b) never = record { constructor_is = c; parts = ks; argument = a; known = kc; switched = s; same = q; case = b }

module _ (u : Unfoldings) (ls : List Literal) (made : List Unfolding) (basis : Basis) (is : IsBasis ls made basis) (m : Unfolding) (next : IsNext u ls made m) (never : u.body m.application ≡ Some m.body → ⊥) where
  abbrev TS : List Term
  TS = basis.terms.items

  way : IsByCase u ls made m
  way = by_case u ls made m next never

  same_all : Same no_unfoldings (with_equations ls made) way.argument (term (Constructor way.constructor_is) way.parts)
  same_all = same_in ls made basis is way.argument (term (Constructor way.constructor_is) way.parts) way.same

  argument_has : Has TS way.argument
  argument_has = subst (λ (vs : List Term). Has vs way.argument) (sym (gathered_with ls made basis is)) (has_arising (with_equations ls made) 0 way.argument (same_arises (with_equations ls made) way.argument (term (Constructor way.constructor_is) way.parts) same_all).0)

  pub argument_there : (a : Term) → u.switched m.application ≡ Some a → Has TS a
  argument_there a s = let e : way.argument ≡ a = let p = way.switched in cc in subst (Has TS) e argument_has

  pub has_argument : (a : Term) → u.switched m.application ≡ Some a → place a TS < length TS
  has_argument a s = has_place a TS (argument_there a s)

  pub must_be_found : (a : Term) (x : ℕ) → u.switched m.application ≡ Some a → x ≡ place a TS → ((k : ℕ) → k < length TS → IsNoCase u m basis x k) → ⊥
  must_be_found a x s xe none =
      let e : way.argument ≡ a = let p = way.switched in cc in
      let t = term (Constructor way.constructor_is) way.parts in
      let h : Has TS t = known_there ls made basis is t way.known in
      let at_k : at TS (place t TS) ≡ t = at_place t (number (pos 0)) TS h in
      let at_x : at TS x ≡ way.argument = ap (at TS) xe ∙ at_place a (number (pos 0)) TS (argument_there a s) ∙ sym e in
      none (place t TS) (has_place t TS h) (subst (λ (z : Term). IsOfConstructor z × (u.case m.application z ≡ Some m.body)) (sym at_k) (tt, way.case)) ls made is
      (subst (λ (z : Term). Same no_unfoldings (with_equations ls made) z (at TS (place t TS))) (sym at_x) (subst (Same no_unfoldings (with_equations ls made) way.argument) (sym at_k) same_all))

-- ---- what was found
module _ (u : Unfoldings) (ls : List Literal) (made : List Unfolding) (basis : Basis) (is : IsBasis ls made basis) (m : Unfolding) (draft : Draft) (here : Has basis.terms.items m.application) where
  pub body_at : u.body m.application ≡ Some m.body → IsBodyAt u basis.terms.items (place m.application basis.terms.items) m.body
  body_at e = record { application = m.application; stands = stands_at m.application basis.terms.items here; is = e }

  case_at : (a : Term) (x s : ℕ) → u.switched m.application ≡ Some a → x ≡ place a basis.terms.items → Has basis.terms.items a → IsEqualCase u m basis.terms.items draft.known.items x s → IsCaseAt u basis.terms.items draft.known.items (place m.application basis.terms.items) s m.body
  case_at a x s sw xe h k = record {
    application = m.application;
    left = x;
    right = k.by;
    stands = stands_at m.application basis.terms.items here;
    equal = k.equal;
    goes_by = record { argument = a; switched = sw; stands = ap (slice_get basis.terms.items) xe ∙ stands_at a basis.terms.items h };
    case = k.case;
  }

  pub way_found : (a : Term) (x : ℕ) (f : Found) (w : Way) → u.switched m.application ≡ Some a → x ≡ place a basis.terms.items → Has basis.terms.items a → IsFoundCase u ls m basis draft x f → IsWayBy f w → IsWay u ls m basis draft w
  way_found a x (found_.Equality s) w sw xe h k e = subst (IsWay u ls m basis draft) (sym e) (case_at a x s sw xe h k, k.plain)
  way_found a x (found_.Conflict last) w sw xe h k e = subst (IsWay u ls m basis draft) (sym e) k

pub found_case : (u : Unfoldings) (ls : List Literal) (m : Unfolding) (basis : Basis) (draft : Draft) (x k : ℕ) (by : Term) (f : Found) → slice_get basis.terms.items k ≡ Some by → IsCandidate u m by → IsPlain m.body → IsFound ls basis draft x k f → IsFoundCase u ls m basis draft x f
found_case u ls m basis draft x k by (found_.Equality a) s c p h = record { by = k; equal = h; case = record { by = by; stands = s; constructor = c.0; is = c.1 }; plain = p }
found_case u ls m basis draft x k by (found_.Conflict last) s c p h = h

pub no_case : (u : Unfoldings) (m : Unfolding) (basis : Basis) (x k : ℕ) (by : Term) → at basis.terms.items k ≡ by → (IsCandidate u m by → ⊥) → IsNoCase u m basis x k
no_case u m basis x k by e n = λ c ls made is s. n (subst (IsCandidate u m) e c)

-- ---- what was unfolded is derived
pub does_unfold : (u : Unfoldings) (ls : List Literal) (made : List Unfolding) (basis : Basis) (draft : Draft) (is : IsBasis ls made basis) (m : Unfolding) (n : ℕ) → Has basis.terms.items m.application → n ≡ place m.application basis.terms.items → (u.body m.application ≡ Some m.body) × IsPlain m.body → DoesUnfold u basis.terms.items draft.known.items m n (steps_.ToBody n)
does_unfold u ls made basis draft is m n here e h = (refl, e, subst (λ (k : ℕ). IsBodyAt u basis.terms.items k m.body) (sym e) (body_at u ls made basis is m draft here h.0), h.1)

pub does_by_case : (u : Unfoldings) (basis : Basis) (draft : Draft) (m : Unfolding) (n a : ℕ) → n ≡ place m.application basis.terms.items → IsCaseAt u basis.terms.items draft.known.items (place m.application basis.terms.items) a m.body × IsPlain m.body → DoesUnfold u basis.terms.items draft.known.items m n (steps_.ByCase n a)
does_by_case u basis draft m n a e h = (refl, e, subst (λ (k : ℕ). IsCaseAt u basis.terms.items draft.known.items k a m.body) (sym e) h.0, h.1)

-- ---- all of it
pub begun_draft : (u : Unfoldings) (ls : List Literal) (basis : Basis) (draft : Draft) → IsBasis ls [] basis → basis.terms.items ≡ all_terms ls → basis.equations.items ≡ [] → draft.steps.items ≡ [] → draft.known.items ≡ [] → IsDraft u ls [] basis draft
begun_draft u ls basis draft is terms rows steps known = record {
  based = is;
  leads = subst (λ (ss : List Step). Lead u (facts_over ls) (all_terms ls) [] ss basis.terms.items draft.known.items) (sym steps) (terms, known);
  derived = record { long = ap length rows; each = λ k m s. cc };
}

pub refuted_by : (u : Unfoldings) (ls : List Literal) (done : List Unfolding) (basis : Basis) (draft : Draft) (last : refute.Step) (steps : List Step) → IsDraft u ls done basis draft → IsEnd ls basis draft last → steps ≡ draft.steps.items ++ steps_.Plain last ∷ [] → IsRefutation u ls steps
refuted_by u ls done basis draft last steps d e s =
    let end : IsConflictOver (facts_over ls) basis.terms.items draft.known.items last = record { nodes = basis.nodes.items; table = d.based.interned.table.tabled; conflict = e } in
    subst (IsRefutation u ls) (sym s) (lead_end u (facts_over ls) draft.steps.items (all_terms ls) [] basis.terms.items draft.known.items (steps_.Plain last) d.leads end)

-- one unfolding more of a list
pub draft_on : (u : Unfoldings) (ls : List Literal) (made : List Unfolding) (k : ℕ) (m : Unfolding) (basis : Basis) (draft : Draft) → k < length made → m ≡ get_or made k m → IsDraft u ls (take k made ++ m ∷ []) basis draft → IsDraft u ls (take (k + 1) made) basis draft
draft_on u ls made k m basis draft l e d = subst (λ (ms : List Unfolding). IsDraft u ls ms basis draft) (ap (λ (o : Unfolding). take k made ++ o ∷ []) e ∙ sym (take_more made k m l)) d

pub draft_all : (u : Unfoldings) (ls : List Literal) (made : List Unfolding) (k : ℕ) (basis : Basis) (draft : Draft) → length made ≤ k → IsDraft u ls (take k made) basis draft → IsDraft u ls made basis draft
draft_all u ls made k basis draft l d = subst (λ (ms : List Unfolding). IsDraft u ls ms basis draft) (take_all k made l) d

pub turn_at : (u : Unfoldings) (ls : List Literal) (made : List Unfolding) (k : ℕ) (m : Unfolding) → AreInTurn u ls made → k < length made → m ≡ get_or made k m → IsNext u ls (take k made) m
turn_at u ls made k m t l e = t k m (slice_get-get_or made k m l ∙ ap Some (sym e))

pub item_at : (items ts : List Term) (k : ℕ) (t : Term) → items ≡ ts → k < length items → t ≡ get_or items k t → slice_get ts k ≡ Some t
item_at items ts k t e l i = ap (λ (us : List Term). slice_get us k) (sym e) ∙ slice_get-get_or items k t l ∙ ap Some (sym i)

pub none_left : {A : Type 0} (o : Option A) → ((x : A) → o ≡ Some x → ⊥) → o ≡ None
none_left None h = refl
none_left (Some x) h = absurd (h x refl)
