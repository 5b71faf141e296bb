-- Parsers of what annotations hold, which are given from outside, and what is owed of each: what it reads is spelled by the tokens that it takes, and nests no deeper than it may.
use Rattle.std.specs.Prelude.{◌≡◌, ℕ, ◌+◌, ◌≤◌, List, Some}
use Rattle.vf_lexer.specs.declared.token.Token.{Token}
use Rattle.vf_syntax.specs.declared.contract.Contract.{Contract}
use Rattle.vf_syntax.specs.declared.contract.Claim.{Claim}
use Rattle.vf_syntax.specs.declared.contract.Invariant.{Invariant}
use Rattle.vf_syntax.specs.declared.item.GhostItem.{GhostItem}
use Rattle.vf_syntax.specs.GhostCommandTree.{GhostCommandTree}
use Rattle.vf_syntax.specs.Commands.{command, command_nesting}
use Rattle.vf_syntax.specs.Statements.{claim, contract, contract_nesting, invariant_walk, invariant_nesting}
use Rattle.vf_syntax.specs.Units.{ghost_item, ghost_form_nesting}
use Rattle.vf_cursor.specs.Parsing.{Parser, ok, fails_at}

-- a ghost command, which counts one itself
abbrev pub ReadsCommands : (ℕ → Parser GhostCommandTree) → Type 0
ReadsCommands p = (d : ℕ) (ts : List Token) (x : GhostCommandTree) (rest : List Token) → p d ts ≡ ok x rest → (command x ts ≡ Some rest) × (command_nesting x + 1 ≤ d)

-- an invariant
abbrev pub ReadsInvariants : (ℕ → Parser Invariant) → Type 0
ReadsInvariants p = (d : ℕ) (ts : List Token) (x : Invariant) (rest : List Token) → p d ts ≡ ok x rest → (invariant_walk x ts ≡ Some rest) × (invariant_nesting x ≤ d)

-- a contract
abbrev pub ReadsContracts : (ℕ → Parser Contract) → Type 0
ReadsContracts p = (d : ℕ) (ts : List Token) (x : Contract) (rest : List Token) → p d ts ≡ ok x rest → (contract x ts ≡ Some rest) × (contract_nesting x ≤ d)

-- a claim, in which nothing nests
abbrev pub ReadsClaims : Parser Claim → Type 0
ReadsClaims p = (ts : List Token) (x : Claim) (rest : List Token) → p ts ≡ ok x rest → claim x ts ≡ Some rest

-- a ghost item
abbrev pub ReadsItems : (ℕ → Parser GhostItem) → Type 0
ReadsItems p = (d : ℕ) (ts : List Token) (x : GhostItem) (rest : List Token) → p d ts ≡ ok x rest → (ghost_item x ts ≡ Some rest) × (ghost_form_nesting x.form ≤ d)

-- reads nothing at any depth
abbrev pub reads_none : {A : Type 0} → ℕ → Parser A
reads_none d ts = fails_at ts
