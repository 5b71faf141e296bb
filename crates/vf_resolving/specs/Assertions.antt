-- Assertions, resolved: a function of the tree, of what stands around it, and of what is declared and numbered in front of it.
use Rattle.std.specs.Prelude.{ℕ, ◌+◌, false, List, [], ◌∷◌, length}
use Rattle.vf_base.specs.declared.place.Place.{Place}
use Rattle.vf_closure.specs.Terms.{Term}
use Rattle.vf_syntax.specs.declared.pattern.CasePattern.{CasePattern}
use Rattle.vf_syntax.specs.AssertionTree as written
use Rattle.vf_syntax.specs.AssertionTree.{no_part, more_part, no_assertion_case, more_assertion_case}
use Rattle.vf_asserting.specs.Leaving.{count}
use Rattle.vf_terms.specs.Readings.{read}
use Rattle.vf_resolved.specs.TruthTree.{TruthTree}
use Rattle.vf_resolved.specs.AssertionTree.{PartTree, BranchTree, part_list, branch_list}
use Rattle.vf_resolved.specs.AssertionTree as tree
use Rattle.vf_resolved_parts.specs.Parts.{PartRead, beginning, cell_read, chunk_read}
use Rattle.vf_resolved_parts.specs.Truths.{truth}
use Rattle.vf_resolved_parts.specs.declared.truth_reading.TruthReading.{TruthReading}
use Rattle.vf_resolving.specs.Standings.{Around, Standing, behind, counting, leaving, setting_at, slots_for}
use Rattle.vf_resolving.specs.Cases.{case_names, constructor_identity, constructor_place, switched}
use Rattle.vf_resolving.specs.declared.cases.Switched.{Switched}

-- a part, some parts, a branch or some branches, and what is declared and numbered behind them
pub record PartResolved : Type 0 where
  pub part : PartTree
  pub standing : Standing

pub record PartsResolved : Type 0 where
  pub parts : List PartTree
  pub standing : Standing

pub record BranchResolved : Type 0 where
  pub branch : BranchTree
  pub standing : Standing

pub record BranchesResolved : Type 0 where
  pub branches : List BranchTree
  pub standing : Standing

-- a chunk or a cell, behind which its names are declared
abbrev pub told : Around → Standing → PartRead → PartResolved
told a s x = record { part = x.part; standing = behind a x.progress s }

-- a truth value
abbrev pub pure_part : Place → Standing → TruthReading → PartResolved
pure_part p s t = record { part = tree.pure p t.truth; standing = counting t.next s }

-- parts in parentheses
abbrev pub grouped : Place → PartsResolved → PartResolved
grouped p xs = record { part = tree.group p (part_list xs.parts); standing = xs.standing }

-- what the parts of a branch declare is gone behind it
abbrev pub enclosed : ℕ → PartsResolved → PartsResolved
enclosed n xs = record { parts = xs.parts; standing = leaving n xs.standing }

-- a conditional
abbrev pub conditional_of : Place → TruthTree → PartsResolved → PartsResolved → PartResolved
conditional_of p t xs ys = record { part = tree.conditional p t (part_list xs.parts) (part_list ys.parts); standing = ys.standing }

-- a `switch`
abbrev pub switch_of : Place → Term → BranchesResolved → PartResolved
switch_of p t bs = record { part = tree.switch_ p t (branch_list bs.branches); standing = bs.standing }

-- what is declared and numbered in a case
abbrev pub within_case : Around → Switched → CasePattern → Standing → Standing
within_case a w x s = behind a (record { bound = case_names s.scope w x; next = s.next }) s

-- a case in front of which something is declared and numbered, with its parts
abbrev pub branch_of : Around → Switched → Place → CasePattern → Standing → PartsResolved → BranchResolved
branch_of a w p x s xs = record {
  branch = tree.branch p (constructor_identity s.scope a.paths x.constructor) (constructor_place s.scope w.datatype x.constructor) (slots_for a (length s.sorts) (case_names s.scope w x).sorts) (part_list xs.parts);
  standing = leaving (count s.scope) xs.standing;
}

-- one part or one branch in front of others
abbrev pub part_in_front : PartResolved → PartsResolved → PartsResolved
part_in_front x xs = record { parts = x.part ∷ xs.parts; standing = xs.standing }

abbrev pub branch_in_front : BranchResolved → BranchesResolved → BranchesResolved
branch_in_front x xs = record { branches = x.branch ∷ xs.branches; standing = xs.standing }

abbrev mutual
  -- a part
  pub part_resolved : Around → Standing → written.PartTree → PartResolved
  part_resolved a s (written.conditional p e xs ys) =
      let t = truth (setting_at a s) s.next e in
      let y = enclosed (count s.scope) (parts_resolved a (counting t.next s) xs) in
      conditional_of p t.truth y (enclosed (count y.standing.scope) (parts_resolved a y.standing ys))
  part_resolved a s (written.switch_ p e cs) =
      let x = read (setting_at a s) false s.next e in
      let w = switched s.scope x in
      switch_of p x.term (cases_resolved a w (counting (w.first + w.count) s) cs)
  part_resolved a s (written.cell p h e f x) = told a s (cell_read (setting_at a s) (length s.sorts) (beginning s.next) p h e f x)
  part_resolved a s (written.chunk p h n xs ys) = told a s (chunk_read (setting_at a s) (length s.sorts) (beginning s.next) p h n xs ys)
  part_resolved a s (written.empty_ p) = record { part = tree.empty_ p; standing = s }
  part_resolved a s (written.pure p e) = pure_part p s (truth (setting_at a s) s.next e)
  part_resolved a s (written.group p xs) = grouped p (parts_resolved a s xs)

  -- parts from left to right
  pub parts_resolved : Around → Standing → written.PartTrees → PartsResolved
  parts_resolved a s no_part = record { parts = []; standing = s }
  parts_resolved a s (more_part x xs) =
      let y = part_resolved a s x in
      part_in_front y (parts_resolved a y.standing xs)

  -- a case
  pub case_resolved : Around → Switched → Standing → written.AssertionCaseTree → BranchResolved
  case_resolved a w s (written.assertion_case p x xs) = branch_of a w p x s (parts_resolved a (within_case a w x s) xs)

  -- cases from the first to the last
  pub cases_resolved : Around → Switched → Standing → written.AssertionCaseTrees → BranchesResolved
  cases_resolved a w s no_assertion_case = record { branches = []; standing = s }
  cases_resolved a w s (more_assertion_case x xs) =
      let y = case_resolved a w s x in
      branch_in_front y (cases_resolved a w y.standing xs)
