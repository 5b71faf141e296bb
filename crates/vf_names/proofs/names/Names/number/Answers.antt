use Rattle.std.proofs.Common.{◌≡◌, rules}
use Rattle.vf_names.specs.Names.{number_of}
use Rattle.vf_names.proofs.Numbering.{there}
use Rattle.vf_names.proofs.names.Names.number.Goals as goal

pub returns-clause-there : goal.returns-clause-there
returns-clause-there c =
    let found : c.copied.result ≡ number_of c.args.self.now c.args.name.now = search rules in
    there c.args.self.now c.args.name.now c.copied.result found
