-- What reads nothing reads nothing wrong.
use Rattle.std.specs.Prelude.{◌≡◌, List}
use Rattle.vf_lexer.specs.declared.token.Token.{Token}
use Rattle.vf_cursor.specs.Parsing.{ok, fails_at}
use Rattle.vf_parse_statement.specs.Annotations.{ReadsCommands, ReadsInvariants, ReadsContracts, ReadsClaims, ReadsItems, reads_none}

-- nothing is read where reading fails
nothing_read : {A : Type 0} {Y : Type 0} (ts : List Token) (x : A) (rest : List Token) → fails_at ts ≡ ok x rest → Y
nothing_read ts x rest e = absurd cc

-- of ghost commands
pub no_commands : ReadsCommands reads_none
no_commands d ts x rest e = nothing_read ts x rest e

-- of invariants
pub no_invariants : ReadsInvariants reads_none
no_invariants d ts x rest e = nothing_read ts x rest e

-- of contracts
pub no_contracts : ReadsContracts reads_none
no_contracts d ts x rest e = nothing_read ts x rest e

-- of claims
pub no_claims : ReadsClaims fails_at
no_claims ts x rest e = nothing_read ts x rest e

-- of ghost items
pub no_items : ReadsItems reads_none
no_items d ts x rest e = nothing_read ts x rest e
