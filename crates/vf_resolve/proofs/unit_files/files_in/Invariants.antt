use Rattle.std.proofs.Common.{◌≡◌, ◌∷◌, take}
use Rattle.vf_resolve.proofs.unit_files.files_in.Given as goal

-- the files so far are there
abbrev pub invariant-loop-header : goal.invariant-loop-header
invariant-loop-header l = l.files ≡ l.unit.«end».file ∷ take l.header-index l.unit.headers
