-- What a file reads as, by its own path.
use Rattle.std.proofs.Common.{◌∙◌}
use Rattle.vf_module.specs.Readings.{result_of}
use Rattle.vf_try.proofs.Reading.{held_by, missing_stops, reads_by}
use Rattle.vf_try.proofs.files.read_path.Goals as goal

pub path_text-requires : goal.path_text-requires
path_text-requires g c = rw c.as_bytes.ensures c.requires.ascii

pub returns-in-Ok-clause-read : goal.returns-in-Ok-clause-read
returns-in-Ok-clause-read g c = reads_by _ _ _ (result_of c.in-Ok.reading) (c.path_text.ensures ∙ c.as_bytes.ensures) c.in-Ok.ensures.read

pub returns-in-Err-clause-missing : goal.returns-in-Err-clause-missing
returns-in-Err-clause-missing g c = λ e. held_by _ _ _ (c.path_text.ensures ∙ c.as_bytes.ensures) (missing_stops c.in-Err.fault c.stop_of.result _ c.stop_of.ensures.missing c.in-Err.ensures.missing e)
