use Rattle.std.proofs.Common.{◌≡◌, [], ◌∷◌, map, slice_get, Some, sym, ap, ◌∙◌}
use Rattle.std.specs.Option.{option_map, option_copied}
use Rattle.std.proofs.lemmas.Option.{slice_get-map}
use Rattle.vf_model.specs.Runs.{main_frames}
use Rattle.vf_core.specs.Shown.{function_of}
use Rattle.vf_engine.specs.Values.{cells_of}
use Rattle.vf_run.proofs.opening.main_frame.Goals as goal

pub returns-in_ok-frame-in-Some : goal.returns-in_ok-frame-in-Some
returns-in_ok-frame-in-Some c =
    let names = c.args.program.now.unit.names in
    let funs = c.args.program.now.unit.functions in
    let main = c.args.program.now.unit.main in
    let there : slice_get funs main ≡ Some c.in-Some.function.now = sym c.get.ensures ∙ ap option_copied c.in-Some.is in
    let found : slice_get (map (function_of names) funs) main ≡ Some (function_of names c.in-Some.function.now) = slice_get-map (function_of names) funs main ∙ ap (option_map (function_of names)) there in
    ap (main_frames main) found ∙ ap (λ f. f ∷ []) (sym (c.in_ok-frame-in-Some.ensures names [] (ap (cells_of names) c.new.ensures.items)))
