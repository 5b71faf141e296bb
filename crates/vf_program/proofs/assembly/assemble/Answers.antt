use Rattle.std.proofs.Common.{◌≡◌, ◌∙◌, [], map, ap}
use Rattle.vf_core.specs.Shown.{function_of, struct_of}
use Rattle.vf_program.specs.Indexes.{number_or_end}
use Rattle.vf_program.specs.Programs.{each_once, number_of_main, program_of_units}
use Rattle.vf_program.specs.Units.{UnitTree, unit_of}
use Rattle.vf_program.proofs.Finding.{main_found}
use Rattle.vf_program.proofs.Standing.{all_seen}
use Rattle.vf_program.proofs.assembly.assemble.Goals as goal

pub returns : goal.returns
returns c =
    let units = c.args.units.now in
    let names = c.in_ok-names.names in
    let g = c.args.main.now in
    let fs = c.in_ok-functions.field-0.functions in
    let functions : map (function_of names) fs ≡ (program_of_units (map unit_of units) g).functions = c.in_ok-functions.ensures.functions ∙ all_seen unit_of (λ (u : UnitTree). u.functions) units in
    let structs : map (struct_of names) c.in_ok-identities.field-0.bodies ≡ (program_of_units (map unit_of units) g).structs =
    c.in_ok-identities.ensures.bodies ∙ ap (each_once []) (c.in_ok-functions.ensures.structs ∙ all_seen unit_of (λ (u : UnitTree). u.structs) units) in
    let main : c.in_ok-main.main ≡ (program_of_units (map unit_of units) g).main =
    c.in_ok-main.ensures ∙ ap (λ l. number_or_end l g) c.in_ok-index_functions.ensures ∙ main_found names fs g ∙ ap (λ l. number_of_main l g) functions in
    λ i. record { functions = functions i; structs = structs i; main = main i }
