-- Each file that is read is one more.
use Rattle.std.proofs.Common.{refl}
use Rattle.vf_expand.proofs.Learning.{reads_then}
use Rattle.vf_try.proofs.Reading.{all_read, begun, path_ascii, read_on, reads_begun, some_absent, some_rose, stopped, word_at, word_in}
use Rattle.vf_try.proofs.files.read_files.Goals as goal

pub loop-word-init : goal.loop-word-init
loop-word-init g c = record {
  read = begun _ _ _ c.new-snapshot.ensures c.new-read.ensures.items;
  reads = reads_begun _ _ _ _ _ c.new-snapshot.ensures;
}

pub read_path-requires : goal.read_path-requires
read_path-requires g c = record { ascii = path_ascii c.args.words.now c.loop-word.word-index (word_in c.args.words.now c.loop-word.word-index) _ _ c.requires.sources c.loop-word-test.true (word_at c.args.words.now c.loop-word.word-index c.loop-word-test.true) refl c.in-Ok.ensures }

pub returns-in-Err-read_path-clause-absent : goal.returns-in-Err-read_path-clause-absent
returns-in-Err-read_path-clause-absent g c = λ e.
    some_absent _ _ _ _ c.args.words.now c.loop-word.word-index (word_in c.args.words.now c.loop-word.word-index) _ _ refl refl c.loop-word-test.true (word_at c.args.words.now c.loop-word.word-index c.loop-word-test.true) refl c.in-Ok.ensures
    c.loop-word.invariant.reads c.in-Err-read_path.ensures.reads (c.in-Err-read_path.ensures.missing (stopped c.in-Err-read_path.stop _ e))

pub returns-in-Err-read_path-clause-missing : goal.returns-in-Err-read_path-clause-missing
returns-in-Err-read_path-clause-missing g c = λ e. some_rose _ _ _ _ refl c.loop-word.invariant.reads c.in-Err-read_path.ensures.reads (c.in-Err-read_path.ensures.missing (stopped c.in-Err-read_path.stop _ e))

pub loop-word-preserved : goal.loop-word-preserved
loop-word-preserved g c = record {
  read = read_on _ _ _ _ c.args.words.now c.loop-word.word-index (word_in c.args.words.now c.loop-word.word-index) _ _ _ _ c.in-Ok-read_path.file refl refl c.loop-word-test.true (word_at c.args.words.now c.loop-word.word-index c.loop-word-test.true) refl c.in-Ok.ensures
      c.loop-word.invariant.read c.loop-word.invariant.reads c.in-Ok-read_path.ensures.reads c.in-Ok-read_path.ensures.path c.in-Ok-read_path.ensures.read c.in-Ok-push.ensures.items;
  reads = reads_then _ _ _ c.loop-word.invariant.reads c.in-Ok-read_path.ensures.reads;
}

pub returns-clause-read : goal.returns-clause-read
returns-clause-read g c = all_read _ c.args.words.now c.loop-word.word-index _ _ c.loop-word-test.false c.loop-word.invariant.read
