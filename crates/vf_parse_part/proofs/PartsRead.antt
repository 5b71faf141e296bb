-- Parts that are read, and how their reading is answered.
use Rattle.std.proofs.Common.{◌≡◌, refl, sym, ap, subst, ℕ, ◌+◌, ◌-◌, List, length, Some, Result, Ok, Err, arith}
use Rattle.vf_base.specs.declared.place.Place.{Place}
use Rattle.vf_lexer.specs.declared.token.Token.{Token}
use Rattle.vf_cursor.specs.declared.fault.Fault.{Fault}
use Rattle.vf_cursor.specs.declared.fault.Fault.TheVariants as faults
use Rattle.vf_cursor.specs.declared.fault.Stop.{Stop}
use Rattle.vf_cursor.specs.declared.fault.Stop.TheVariants as stops
use Rattle.vf_cursor.specs.Parsing.{Read, Fails, ◌>>=◌, ok}
use Rattle.vf_parse_command.specs.Commands.{command_at}
use Rattle.vf_parse_command.proofs.CommandsRead.{command_sound}
use Rattle.vf_parse_ghost.specs.Clauses.{claim_at, contract_at, invariant_at}
use Rattle.vf_parse_ghost.specs.Items.{item_at}
use Rattle.vf_parse_ghost.proofs.ContractsRead.{claim_sound, contract_sound, invariant_sound}
use Rattle.vf_parse_ghost.proofs.ItemsRead.{item_sound}
use Rattle.vf_parse_real.specs.declared.fault.ParseFault.TheVariants as parse_faults
use Rattle.vf_parse_real.specs.Faults.{stop_of, fault_of}
use Rattle.vf_parse_part.specs.declared.part.GhostPart.{GhostPart}
use Rattle.vf_parse_part.specs.declared.part.GhostPart.TheVariants as parts
use Rattle.vf_parse_part.specs.declared.part.GhostTree.{GhostTree}
use Rattle.vf_parse_part.specs.declared.part.GhostTree.TheVariants as trees
use Rattle.vf_parse_part.specs.Parts.{as_tree, part_at, kind_of, part_nesting, IsPart, PartRefused}

-- what reading comes to is one thing
one_pair : (read : Read GhostTree) (p q : GhostTree × List Token) → read ≡ Ok p → read ≡ Ok q → p ≡ q
one_pair read p q h k = cc

-- what was read as a tree was read as one of its kind
made : {A : Type 0} (make : A → GhostTree) (read : Read A) (x : GhostTree) (rest : List Token) → as_tree make read ≡ ok x rest → (a : A) × (read ≡ ok a rest) × (make a ≡ x)
made make (Ok a) x rest e =
    let same : (make a.0, a.1) ≡ (x, rest) = one_pair (ok x rest) (make a.0, a.1) (x, rest) (sym e) refl in
    (a.0, ap (λ (ts : List Token). ok a.0 ts) (ap (λ (p : GhostTree × List Token). p.1) same), ap (λ (p : GhostTree × List Token). p.0) same)
made make (Err f) x rest e = absurd cc

pub parts_are_spelled : (kind : GhostPart) (d : ℕ) (ts : List Token) (x : GhostTree) (rest : List Token) → part_at kind d ts ≡ ok x rest → IsPart kind d ts x rest
unfolding part_at
parts_are_spelled parts.Claim d ts x rest e =
    let m = made trees.Claim (claim_at ts) x rest e in
    subst (λ (y : GhostTree). IsPart parts.Claim d ts y rest) m.2 (record { spelled = claim_sound ts m.0 rest m.1; kind_is = refl; nesting = omega arith })
parts_are_spelled parts.Contract d ts x rest e =
    let m = made trees.Contract (contract_at d ts) x rest e in
    let s = contract_sound d ts m.0 rest m.1 in
    subst (λ (y : GhostTree). IsPart parts.Contract d ts y rest) m.2 (record { spelled = s.0; kind_is = refl; nesting = s.1 })
parts_are_spelled parts.Invariant d ts x rest e =
    let m = made trees.Invariant (invariant_at d ts) x rest e in
    let s = invariant_sound d ts m.0 rest m.1 in
    subst (λ (y : GhostTree). IsPart parts.Invariant d ts y rest) m.2 (record { spelled = s.0; kind_is = refl; nesting = s.1 })
parts_are_spelled parts.Item d ts x rest e =
    let m = made trees.Item (item_at d ts) x rest e in
    let s = item_sound d ts m.0 rest m.1 in
    subst (λ (y : GhostTree). IsPart parts.Item d ts y rest) m.2 (record { spelled = s.0; kind_is = refl; nesting = s.1 })
parts_are_spelled parts.Command d ts x rest e =
    let m = made trees.Command (command_at d ts) x rest e in
    let s = command_sound d ts m.0 rest m.1 in
    subst (λ (y : GhostTree). IsPart parts.Command d ts y rest) m.2 (record { spelled = s.0; kind_is = refl; nesting = s.1 })

-- why reading stopped, by its place
pub refused : (stop : Stop) (end : Place) (ts : List Token) (read : Read GhostTree) → Fails stop read → PartRefused (stop_of ts end stop) end ts read
refused stops.Memory end ts read e = tt
refused (stops.Fault (faults.Syntax n)) end ts read e = (faults.Syntax n, e, refl)
refused (stops.Fault (faults.Depth n)) end ts read e = (faults.Depth n, e, refl)
