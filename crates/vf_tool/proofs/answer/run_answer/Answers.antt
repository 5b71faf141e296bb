-- The path that a source word means is of ASCII.
use Rattle.vf_words.proofs.Scoped.{source_ascii}
use Rattle.vf_tool.proofs.answer.run_answer.Goals as goal

pub path_text-file-requires : goal.path_text-file-requires
path_text-file-requires g c = rw (c.as_bytes.ensures, c.in-Ok-normal_path.ensures) (source_ascii c.args.word.now c.requires.source)
