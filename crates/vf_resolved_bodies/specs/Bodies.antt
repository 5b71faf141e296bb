-- What the body of a function tells behind its contract.
use Rattle.std.specs.Prelude.{ℕ, zero, suc, List, [], ◌∷◌, ◌++◌, Ok, Err}
use Rattle.std.specs.declared.result.Result.{Result}
use Rattle.vf_base.specs.declared.refusal.RuleFault.{RuleFault}
use Rattle.vf_syntax.specs.StmtTree.{StmtTree, stmt_list}
use Rattle.vf_sorting.specs.Answers.{Answers}
use Rattle.vf_resolving.specs.Standings.{Standing}
use Rattle.vf_resolved_bodies.specs.declared.bodies.Annotated.{Annotated}
use Rattle.vf_resolved_bodies.specs.declared.bodies.BodyTold.{BodyTold}
use Rattle.vf_resolved_bodies.specs.Telling.{Telling}
use Rattle.vf_resolved_bodies.specs.Statements.{TellsStmts}

-- the first numbers, so many
abbrev pub first_numbers : ℕ → List ℕ
first_numbers zero = []
first_numbers (suc n) = first_numbers n ++ n ∷ []

-- where a body begins nothing is told yet; so many first names are parameters, which are locals of C
abbrev pub beginning : ℕ → Standing → Telling
beginning n s = record { standing = s; reals = first_numbers n; told = [] }

-- what was told of a body with so many parameters, and what is declared behind it
abbrev pub annotated : ℕ → Telling → Annotated
annotated n t = record { names = record { sorts = t.standing.sorts; parameters = n }; reals = t.reals; told = t.told }

abbrev pub told_of : ℕ → Telling → BodyTold
told_of n t = record { annotated = annotated n t; scope = t.standing.scope }

-- a body with so many parameters tells this, behind its contract
pub data BodyTells (paths : List (List ℕ)) (n : ℕ) (xs : List StmtTree) (s : Standing) : BodyTold → Type 0 where
  tells : (t : Telling) → TellsStmts paths (stmt_list xs) (beginning n s) (Ok t) → BodyTells paths n xs s (told_of n t)

-- an answer for a body is what it tells, or the first refusal in it
pub record IsBodyTold (paths : List (List ℕ)) (n : ℕ) (xs : List StmtTree) (s : Standing) (r : Result BodyTold RuleFault) : Type 0 where
  pub answers : Answers (BodyTells paths n xs s) (λ x. TellsStmts paths (stmt_list xs) (beginning n s) (Err x)) r
