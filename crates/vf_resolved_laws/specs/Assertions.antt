-- What stands at a place of an assertion, and which assertions the law on them is for.
use Rattle.std.specs.Prelude.{◌≡◌, ℕ, List, length, Some, slice_get}
use Rattle.vf_meaning.specs.Ghost.{Numbered}
use Rattle.vf_sorts.specs.Sorts.{Sort}
use Rattle.vf_sorts.specs.Unknowns.{Known}
use Rattle.vf_declared.specs.declared.scope.Scope.{Scope}
use Rattle.vf_syntax.specs.AssertionTree.{AssertionCaseTree, AssertionCaseTrees, PartTree, PartTrees, assertion_case, more_assertion_case, more_part, no_assertion_case, no_part}
use Rattle.vf_syntax.specs.AssertionTree as tree
use Rattle.vf_sorting.specs.declared.context.Context.{Context}
use Rattle.vf_asserting.specs.Gives.{BranchGives, CaseGives, CasesGive, Gives, PartGives}
use Rattle.vf_asserting.specs.Gives as giving
use Rattle.vf_resolving.specs.Standings.{Around, Standing, setting_at}
use Rattle.vf_resolved_laws.specs.Given.{GivesSorts}
use Rattle.vf_resolved_laws.specs.Heads.{Vocabulary, vocabulary_of}
use Rattle.vf_resolved_laws.specs.Levels.{IsLevelled}
use Rattle.vf_resolved_laws.specs.Parts.{ChunkIsDecided}

-- what is declared and numbered at a place is what sorting has there, where so much is known: the terms of the locals have their sorts
pub record Stands (d : Vocabulary) (a : Around) (x : Standing) (s : Scope) (known : Known) : Type 0 where
  pub scope : x.scope ≡ s
  pub next : x.next ≡ length known
  pub vocabulary : vocabulary_of (setting_at a x) d.names ≡ d
  pub terms : length x.terms ≡ length x.scope.locals.meanings
  pub gives : GivesSorts d (setting_at a x)

-- the names with numbers have these sorts
pub record NumbersHaveSorts (d : Vocabulary) (ts : List Sort) : Type 0 where
  pub each : (i : ℕ) (t : Sort) → slice_get ts i ≡ Some t → d.names (Numbered i) ≡ t

abbrev mutual
  -- operators stand on their levels in the truth values of a part
  pub IsPartLevelled : PartTree → Type 0
  IsPartLevelled (tree.conditional p e xs ys) = IsLevelled e × ArePartsLevelled xs × ArePartsLevelled ys
  IsPartLevelled (tree.switch_ p e cs) = AreCasesLevelled cs
  IsPartLevelled (tree.pure p e) = IsLevelled e
  IsPartLevelled (tree.group p xs) = ArePartsLevelled xs
  IsPartLevelled x = Unit {0}

  -- the same of parts
  pub ArePartsLevelled : PartTrees → Type 0
  ArePartsLevelled no_part = Unit {0}
  ArePartsLevelled (more_part x xs) = IsPartLevelled x × ArePartsLevelled xs

  -- the same of a case
  pub IsCaseLevelled : AssertionCaseTree → Type 0
  IsCaseLevelled (assertion_case p x xs) = ArePartsLevelled xs

  -- the same of cases
  pub AreCasesLevelled : AssertionCaseTrees → Type 0
  AreCasesLevelled no_assertion_case = Unit {0}
  AreCasesLevelled (more_assertion_case x xs) = IsCaseLevelled x × AreCasesLevelled xs

module _ (in_the_end : Known) where
  abbrev mutual
    -- what locals take is known wherever they stand in front of the parentheses of a chunk, as a part is sorted
    pub PartIsDecided : {c : Context} {s s' : Scope} {k k' : Known} {x : PartTree} → PartGives c s k x s' k' → Type 0
    PartIsDecided (giving.PartGives.conditional test xs ys) = BranchIsDecided xs × BranchIsDecided ys
    PartIsDecided (giving.PartGives.switch_ over cs) = CasesAreDecided cs
    PartIsDecided (giving.PartGives.cell binds) = Unit {0}
    PartIsDecided (giving.PartGives.chunk binds) = ChunkIsDecided in_the_end binds
    PartIsDecided giving.PartGives.empty_ = Unit {0}
    PartIsDecided (giving.PartGives.pure passes) = Unit {0}
    PartIsDecided (giving.PartGives.group xs) = AreDecided xs

    -- the same of a branch
    pub BranchIsDecided : {c : Context} {s s' : Scope} {k k' : Known} {xs : PartTrees} → BranchGives c s k xs s' k' → Type 0
    BranchIsDecided (giving.BranchGives.branch xs) = AreDecided xs

    -- the same of parts
    pub AreDecided : {c : Context} {s s' : Scope} {k k' : Known} {xs : PartTrees} → Gives c s k xs s' k' → Type 0
    AreDecided giving.Gives.no_parts = Unit {0}
    AreDecided (giving.Gives.more_parts x xs) = PartIsDecided x × AreDecided xs

    -- the same of a case
    pub CaseIsDecided : {c : Context} {s s' : Scope} {first n : ℕ} {k k' : Known} {x : AssertionCaseTree} → CaseGives c s first n k x s' k' → Type 0
    CaseIsDecided (giving.CaseGives.a_case names xs) = AreDecided xs

    -- the same of cases
    pub CasesAreDecided : {c : Context} {s s' : Scope} {first n : ℕ} {k k' : Known} {xs : AssertionCaseTrees} → CasesGive c s first n k xs s' k' → Type 0
    CasesAreDecided giving.CasesGive.no_cases = Unit {0}
    CasesAreDecided (giving.CasesGive.more_cases x xs) = CaseIsDecided x × CasesAreDecided xs
