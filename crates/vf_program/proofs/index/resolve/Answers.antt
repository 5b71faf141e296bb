use Rattle.std.proofs.Common.{◌∙◌, ap, sym, option_and_then, option_map, slice_get}
use Rattle.vf_model.specs.Accesses.{field_count_in}
use Rattle.vf_names.specs.Names.{number_of}
use Rattle.vf_core.specs.Shown.{struct_of}
use Rattle.vf_program.proofs.Finding.{fields_found, function_number}
use Rattle.vf_program.proofs.index.resolve.Goals as goal

pub returns : goal.returns
returns c =
    let u = c.args.unit.now in
    let g = c.args.identity.now in
    record {
      prelude = sym c.prelude_named.ensures;
      body = sym (c.number.ensures.number ∙ ap (λ ns. number_of ns g) c.requires.functions ∙ function_number u.names u.functions g);
      fields = sym (c.field_count.ensures u.names ∙ ap (λ o. field_count_in (option_map (struct_of u.names) (option_and_then (slice_get u.structs) o))) (c.number-2.ensures.number ∙ ap (λ ns. number_of ns g) c.requires.structs) ∙ fields_found u.names u.structs g);
    }
