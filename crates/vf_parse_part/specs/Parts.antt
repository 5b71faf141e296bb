-- Ghost parts by themselves: which parser reads each kind, and what tokens spell.
use Rattle.std.specs.Prelude.{◌≡◌, ℕ, ◌+◌, ◌-◌, ◌≤◌, List, drop, length, Some, Result, Ok, Err}
use Rattle.vf_base.specs.declared.place.Place.{Place}
use Rattle.vf_lexer.specs.declared.token.Token.{Token}
use Rattle.vf_syntax.specs.Walks.{Walk}
use Rattle.vf_syntax.specs.Commands.{command, command_nesting}
use Rattle.vf_syntax.specs.Statements.{claim, contract, contract_nesting, invariant_walk, invariant_nesting}
use Rattle.vf_syntax.specs.Units.{ghost_item, ghost_form_nesting}
use Rattle.vf_cursor.specs.declared.fault.Fault.{Fault}
use Rattle.vf_cursor.specs.Parsing.{Parser, Read, ◌>>=◌, ok}
use Rattle.vf_parse_command.specs.Commands.{command_at}
use Rattle.vf_parse_ghost.specs.Clauses.{claim_at, contract_at, invariant_at}
use Rattle.vf_parse_ghost.specs.Items.{item_at}
use Rattle.vf_parse_real.specs.declared.fault.ParseFault.{ParseFault}
use Rattle.vf_parse_real.specs.declared.fault.ParseFault.TheVariants as parse_faults
use Rattle.vf_parse_real.specs.Faults.{fault_of}
use Rattle.vf_parse_part.specs.declared.part.GhostPart.{GhostPart}
use Rattle.vf_parse_part.specs.declared.part.GhostPart.TheVariants as parts
use Rattle.vf_parse_part.specs.declared.part.GhostTree.{GhostTree}
use Rattle.vf_parse_part.specs.declared.part.GhostTree.TheVariants as trees

-- a parser of one kind of ghost parts as one of all
abbrev pub as_tree : {A : Type 0} → (A → GhostTree) → Read A → Read GhostTree
as_tree make read = read >>= λ x. ok (make x.0) x.1

-- what reads a part of a kind that nests at most so deep
unfoldable pub part_at : GhostPart → ℕ → Parser GhostTree
part_at parts.Claim d ts = as_tree trees.Claim (claim_at ts)
part_at parts.Contract d ts = as_tree trees.Contract (contract_at d ts)
part_at parts.Invariant d ts = as_tree trees.Invariant (invariant_at d ts)
part_at parts.Item d ts = as_tree trees.Item (item_at d ts)
part_at parts.Command d ts = as_tree trees.Command (command_at d ts)

-- the tokens that spell a part
abbrev pub part : GhostTree → Walk
part (trees.Claim x) = claim x
part (trees.Contract x) = contract x
part (trees.Invariant x) = invariant_walk x
part (trees.Item x) = ghost_item x
part (trees.Command x) = command x

-- how deep a part nests; a command counts one
abbrev pub part_nesting : GhostTree → ℕ
part_nesting (trees.Claim x) = 0
part_nesting (trees.Contract x) = contract_nesting x
part_nesting (trees.Invariant x) = invariant_nesting x
part_nesting (trees.Item x) = ghost_form_nesting x.form
part_nesting (trees.Command x) = command_nesting x + 1

-- which kind a part is of
abbrev pub kind_of : GhostTree → GhostPart
kind_of (trees.Claim x) = parts.Claim
kind_of (trees.Contract x) = parts.Contract
kind_of (trees.Invariant x) = parts.Invariant
kind_of (trees.Item x) = parts.Item
kind_of (trees.Command x) = parts.Command

-- what was read of a part: the tokens that were taken spell it, it is of the kind, and it nests no deeper than it may
pub record IsPart (kind : GhostPart) (d : ℕ) (ts : List Token) (x : GhostTree) (rest : List Token) : Type 0 where
  pub spelled : part x ts ≡ Some rest
  pub kind_is : kind_of x ≡ kind
  pub nesting : part_nesting x ≤ d

-- want of memory says nothing of what reading comes to; another answer is the fault that it comes to, by its place
abbrev pub PartRefused : ParseFault → Place → List Token → Read GhostTree → Type 0
PartRefused parse_faults.Memory end ts read = Unit {0}
PartRefused f end ts read = (x : Fault) × (read ≡ Err x) × (f ≡ fault_of ts end x)

-- the answer is what reading comes to: the part, and the index of the token behind it, which is told by how many tokens are left
abbrev pub PartAnswers : Result (GhostTree × ℕ) ParseFault → Place → List Token → Read GhostTree → Type 0
PartAnswers (Ok x) end ts read = (rest : List Token) × (read ≡ ok x.0 rest) × (x.1 ≡ length ts - length rest)
PartAnswers (Err f) end ts read = PartRefused f end ts read
