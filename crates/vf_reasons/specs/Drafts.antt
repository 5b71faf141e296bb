-- A question with what was unfolded for it, as facts over numbered terms, and the steps that derive what was unfolded.
use Rattle.std.specs.Prelude.{◌≡◌, ℕ, List, [], ◌∷◌, ◌++◌, map, length, All, Option, Some, None, slice_get, slice_index}
use Rattle.vf_table.specs.declared.node.Node.{Node}
use Rattle.vf_refute.specs.declared.steps.Fact.{Fact}
use Rattle.vf_refute.specs.declared.steps.Derived.{Derived}
use Rattle.vf_refute.specs.declared.steps.Derived.TheVariants.{AreEqual}
use Rattle.vf_refute.specs.Refutations.{HasDerived, IsWithinLimit, IsConflict}
use Rattle.vf_refute.specs.declared.steps.Step as refute
use Rattle.vf_refute.specs.declared.steps.Step.TheVariants as last_
use Rattle.vf_closure.specs.Terms.{Term}
use Rattle.vf_closure.specs.Literals.{Literal}
use Rattle.vf_closure.specs.Closure.{Unfoldings, no_unfoldings, Same}
use Rattle.vf_question.specs.Numbered.{place, all_terms}
use Rattle.vf_question.specs.Tabled.{tabled_fact}
use Rattle.vf_question.specs.Plain.{IsPlain, IsPlainLiteral}
use Rattle.vf_question.specs.declared.unfolding.Unfolding.{Unfolding}
use Rattle.vf_question.specs.Unfolded.{equations}
use Rattle.vf_interning.specs.Interned.{IsTermTable, IsInterned, meant}
use Rattle.vf_unfolding.specs.Rounds.{zero_is_zero}
use Rattle.vf_question.specs.Questions.{at}
use Rattle.vf_recheck.specs.declared.steps.Step.{Step}
use Rattle.vf_recheck.specs.declared.steps.Step.TheVariants as steps_
use Rattle.vf_recheck.specs.Refutations.{facts_over, IsOfConstructor, IsBodyAt, IsCaseBy, IsCaseAt, GoesOn}
use Rattle.vf_reasons.specs.declared.basis.Basis.{Basis}
use Rattle.vf_reasons.specs.declared.draft.Draft.{Draft}
use Rattle.vf_reasons.specs.declared.equalities.Found.{Found}
use Rattle.vf_reasons.specs.declared.equalities.Found.TheVariants as found_
use Rattle.vf_reasons.specs.declared.ways.Way.{Way}
use Rattle.vf_reasons.specs.declared.ways.Way.TheVariants as ways_

-- the literals of a question, that 0 is 0, and the equations of what was unfolded
abbrev pub with_equations : List Literal → List Unfolding → List Literal
with_equations literals made = literals ++ zero_is_zero ∷ equations made

-- the basis of a refutation is the table of the terms of these literals and 0, and they are its facts; so many of them are the question's
pub record IsBasis (literals : List Literal) (made : List Unfolding) (basis : Basis) : Type 0 where
  pub interned : IsInterned basis.nodes.items basis.facts.items basis.terms.items
  pub means : meant basis.terms.items basis.facts.items ≡ with_equations literals made
  pub asked : basis.asked ≡ length literals

-- a table and facts over it are those of plain literals
pub record IsOver (literals : List Literal) (nodes : List Node) (terms : List Term) (facts : List Fact) : Type 0 where
  pub table : IsTermTable nodes terms
  pub gathered : terms ≡ all_terms literals
  pub numbers : facts ≡ map (tabled_fact terms) literals
  pub plain : All IsPlainLiteral literals

-- steps that each derive something within the limit, from the terms that are numbered and from what is known to those that are numbered and to what is known in the end
abbrev pub Lead : Unfoldings → List Fact → List Term → List Derived → List Step → List Term → List Derived → Type 0
Lead u facts terms known [] now more = (now ≡ terms) × (more ≡ known)
Lead u facts terms known (step ∷ steps) now more = (d : Derived) × (ts : List Term) × GoesOn u facts terms known step d ts × IsWithinLimit d × Lead u facts ts (known ++ d ∷ []) steps now more

-- the equation of each unfolding was derived the other way round, by the step that stands at its place
pub record AreDerived (made : List Unfolding) (terms : List Term) (known : List Derived) (equations : List ℕ) : Type 0 where
  pub long : length equations ≡ length made
  pub each : (k : ℕ) (m : Unfolding) → slice_get made k ≡ Some m → HasDerived known (slice_index equations k) (AreEqual (place m.body terms) (place m.application terms))

-- the steps that were written derive what was unfolded
pub record IsDraft (u : Unfoldings) (literals : List Literal) (made : List Unfolding) (basis : Basis) (draft : Draft) : Type 0 where
  pub based : IsBasis literals made basis
  pub leads : Lead u (facts_over literals) (all_terms literals) [] draft.steps.items basis.terms.items draft.known.items
  pub derived : AreDerived made basis.terms.items draft.known.items basis.equations.items

-- a step names a conflict of the question, by what the steps that were written derived
abbrev pub IsEnd : List Literal → Basis → Draft → refute.Step → Type 0
IsEnd literals basis draft last = IsConflict basis.nodes.items (facts_over literals) draft.known.items last

-- what was found beside an equality that is denied: a step that derived it, or a conflict without the denial
abbrev pub IsFound : List Literal → Basis → Draft → ℕ → ℕ → Found → Type 0
IsFound literals basis draft x y (found_.Equality a) = HasDerived draft.known.items a (AreEqual x y)
IsFound literals basis draft x y (found_.Conflict last) = IsEnd literals basis draft last

-- what a last step names beside the denial of an equality: what it names cannot be, since it is that equality, or else the step itself
pub data IsFoundBy (known : List Derived) (last : refute.Step) (x y : ℕ) : Found → Type 0 where
  by_denial : {a : ℕ} → last ≡ last_.Conflict a → HasDerived known a (AreEqual x y) → IsFoundBy known last x y (found_.Equality a)
  without : ((a : ℕ) → last ≡ last_.Conflict a → HasDerived known a (AreEqual x y) → ⊥) → IsFoundBy known last x y (found_.Conflict last)

-- a constructor's term by which an application is unfolded to the body of an unfolding
abbrev pub IsCandidate : Unfoldings → Unfolding → Term → Type 0
IsCandidate u m by = IsOfConstructor by × (u.case m.application by ≡ Some m.body)

-- the term k is no such one, or is not equal to the term x, no fixpoint being unfolded
abbrev pub IsNoCase : Unfoldings → Unfolding → Basis → ℕ → ℕ → Type 0
IsNoCase u m basis x k = IsCandidate u m (at basis.terms.items k) → (literals : List Literal) (made : List Unfolding) → IsBasis literals made basis → Same no_unfoldings (with_equations literals made) (at basis.terms.items x) (at basis.terms.items k) → ⊥

-- a step derived that the term x is equal to one of a constructor by which an application is unfolded to the body of an unfolding
pub record IsEqualCase (u : Unfoldings) (m : Unfolding) (terms : List Term) (known : List Derived) (x a : ℕ) : Type 0 where
  pub by : ℕ
  pub equal : HasDerived known a (AreEqual x by)
  pub case : IsCaseBy u terms m.application by m.body
  pub plain : IsPlain m.body

-- what was found: such a step, or a last one that names a conflict
abbrev pub IsFoundCase : Unfoldings → List Literal → Unfolding → Basis → Draft → ℕ → Found → Type 0
IsFoundCase u literals m basis draft x (found_.Equality a) = IsEqualCase u m basis.terms.items draft.known.items x a
IsFoundCase u literals m basis draft x (found_.Conflict last) = IsEnd literals basis draft last

-- what was found as the way of an unfolding
abbrev pub IsWayBy : Found → Way → Type 0
IsWayBy (found_.Equality a) way = way ≡ ways_.Case a
IsWayBy (found_.Conflict last) way = way ≡ ways_.Conflict last

-- how the application of an unfolding comes to be unfolded: to its body; by the case to which a step leads; or not, since a last step names a conflict
abbrev pub IsWay : Unfoldings → List Literal → Unfolding → Basis → Draft → Way → Type 0
IsWay u literals m basis draft ways_.Body = (u.body m.application ≡ Some m.body) × IsPlain m.body
IsWay u literals m basis draft (ways_.Case a) = IsCaseAt u basis.terms.items draft.known.items (place m.application basis.terms.items) a m.body × IsPlain m.body
IsWay u literals m basis draft (ways_.Conflict last) = IsEnd literals basis draft last

-- a step unfolds the application of an unfolding, which has the number t, to its body
abbrev pub DoesUnfold : Unfoldings → List Term → List Derived → Unfolding → ℕ → Step → Type 0
DoesUnfold u terms known m t (steps_.ToBody s) = (s ≡ t) × (t ≡ place m.application terms) × IsBodyAt u terms t m.body × IsPlain m.body
DoesUnfold u terms known m t (steps_.ByCase s a) = (s ≡ t) × (t ≡ place m.application terms) × IsCaseAt u terms known t a m.body × IsPlain m.body
DoesUnfold u terms known m t (steps_.Plain step) = ⊥

-- all unfoldings were derived, or a last step names a conflict by what was derived of some
abbrev pub IsDraftTo : Unfoldings → List Literal → List Unfolding → Basis → Draft → Option refute.Step → Type 0
IsDraftTo u literals made basis draft None = IsDraft u literals made basis draft
IsDraftTo u literals made basis draft (Some last) = (done : List Unfolding) × IsDraft u literals done basis draft × IsEnd literals basis draft last
