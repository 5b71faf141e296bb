-- From right answers to entailment. Each law is the contract of a public function with an empty body.
use Rattle.std.specs.Prelude.{◌≡◌, ◌↔◌, ℤ, List, Contains, IsTrue, map}
use Rattle.vf_model.specs.Values as values
use Rattle.vf_meaning.specs.Ghost.{GhostExpression}
use Rattle.vf_meaning.specs.Valuations.{Valuation, is_true}
use Rattle.vf_meaning.specs.GhostValues.{Interpretation, value_of}
use Rattle.vf_meaning.specs.Structural.{AreOrdered}
use Rattle.vf_meaning.specs.Assertions.{Environment}
use Rattle.vf_meaning.specs.Environments.{IsLinked}
use Rattle.vf_closure.specs.Terms.{Kind, Integer, Other, Term}
use Rattle.vf_closure.specs.Values.{value}
use Rattle.vf_closure.specs.Literals.{Literal, IsInteger, False}
use Rattle.vf_closure.specs.Literals as literals
use Rattle.vf_definitions.specs.Laws.{MeetsDefinitions}
use Rattle.vf_definitions.specs.declared.fixpoint.Case.{Case}
use Rattle.vf_definitions.specs.declared.fixpoint.Body.{Body}
use Rattle.vf_definitions.specs.declared.fixpoint.Body.TheVariants.{Returns, Switches}
use Rattle.vf_definitions.specs.declared.fixpoint.Fixpoint.{Fixpoint}
use Rattle.vf_asking.specs.declared.answers.Answer.TheVariants.{Proved}
use Rattle.vf_asking.specs.Journal.{Asked}
use Rattle.vf_asking.specs.Right.{IsRight}
use Rattle.vf_rules.specs.States.{Fact, meaning, IsMet, Meets, Entails, Infeasible}
use Rattle.vf_entailment.specs.Meant.{of_kind, meant}
use Rattle.vf_entailment.specs.Facts.{said, fact_of}
use Rattle.vf_entailment.specs.Trees.{body_as, AreAmong}

-- a term has the value of the expression that it means, whatever names and fixpoints stand for
abbrev pub TermsHaveTheirMeaning : Type 0
TermsHaveTheirMeaning = (i : Interpretation) (v : Valuation) (t : Term) → value_of i v (meant t) ≡ value i v t

-- what has a whole number for its value keeps it where it is read as a kind has it
abbrev pub WholeNumbersStay : Type 0
WholeNumbersStay = (i : Interpretation) (v : Valuation) (k : Kind) (x : GhostExpression) (z : ℤ) → value_of i v x ≡ values.Number z → value_of i v (of_kind k x) ≡ values.Number z

-- a valuation meets a literal exactly where what it says is true
abbrev pub LiteralsAreFacts : Type 0
LiteralsAreFacts = (i : Interpretation) (v : Valuation) (l : Literal) → IsTrue (is_true (value_of i v (said l))) ↔ literals.Holds i v l

-- the results of a body are terms of integers
abbrev pub AreIntegers : Body → Type 0
AreIntegers (Returns t) = IsInteger t
AreIntegers (Switches p cases) = (c : Case) → Contains cases c → IsInteger c.result

-- a body whose results are taken as ones of the other kind is that body, and so is one whose results are integers and are taken as integers
pub record BodiesStayOfTheirKind : Type 0 where
  pub others : (b : Body) → body_as Other b ≡ b
  pub integers : (b : Body) → AreIntegers b → body_as Integer b ≡ b

-- where the fixpoints of a unit stand among those of an environment, which are in order, its meaning gives them the values of their bodies
abbrev pub DefinitionsAreMet : Type 0
DefinitionsAreMet = (e : Environment) (fs : List Fixpoint) → AreOrdered e.fixpoints → AreAmong e.fixpoints fs → MeetsDefinitions (meaning e) fs

-- Where an answer is right and the fixpoints of the unit that asked stand among those of an environment, which are in order, the facts of the path entail a goal that is proved
abbrev pub RightAnswersEntail : Type 0
RightAnswersEntail =
    (e : Environment) (a : Asked) → AreOrdered e.fixpoints → AreAmong e.fixpoints a.definitions → IsRight a → a.answer ≡ Proved → Entails e (map fact_of a.path) (fact_of a.goal)

-- so do the facts of a state wherever what meets them meets the path's
abbrev pub RightAnswersServeStates : Type 0
RightAnswersServeStates =
    (e : Environment) (a : Asked) → AreOrdered e.fixpoints → AreAmong e.fixpoints a.definitions → IsRight a → a.answer ≡ Proved
    → (known : List Fact) → ((v : Valuation) → Meets e v known → (l : Literal) → Contains a.path l → IsMet e v (fact_of l)) → Entails e known (fact_of a.goal)

-- and where `false` is proved no valuation meets the path
abbrev pub ProvedFalsehoodIsInfeasible : Type 0
ProvedFalsehoodIsInfeasible =
    (e : Environment) (a : Asked) → AreOrdered e.fixpoints → AreAmong e.fixpoints a.definitions → IsRight a → a.answer ≡ Proved → a.goal ≡ False → Infeasible e (map fact_of a.path)

-- In the linked environment of units, the fixpoints of a unit stand in order, and so does each that stands among those of one of them
abbrev pub LinkedDefinitionsStand : Type 0
LinkedDefinitionsStand =
    (units : List Environment) (u e : Environment) (fs : List Fixpoint) → IsLinked units e → Contains units u → AreAmong u.fixpoints fs → AreOrdered e.fixpoints × AreAmong e.fixpoints fs

-- so that right answers to one of the units entail there
abbrev pub LinkedAnswersEntail : Type 0
LinkedAnswersEntail =
    (units : List Environment) (u e : Environment) (a : Asked) → IsLinked units e → Contains units u → AreAmong u.fixpoints a.definitions → IsRight a → a.answer ≡ Proved
    → Entails e (map fact_of a.path) (fact_of a.goal)
