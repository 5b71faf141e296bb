use Rattle.std.proofs.Common.{◌≡◌, ◌∷◌, ◌++◌, [], rules}
use Rattle.vf_names.proofs.Numbering.{Numbers-pop, Numbers-pop_other}
use Rattle.vf_names.proofs.names.Names.drop_last.Goals as goal

pub invariant_of-self-then-eq : goal.invariant_of-self-then-eq
invariant_of-self-then-eq c =
    let whole : c.self.inside.names.items ≡ c.pop.new.self.items ++ c.in-Some.name ∷ [] = search rules in
    Numbers-pop c.self.inside.names.items c.pop.new.self.items c.in-Some.name c.self.inside.numbers c.remove-number.new.self whole c.self.invariant (search rules) (search rules)

pub invariant_of-self-else-eq : goal.invariant_of-self-else-eq
invariant_of-self-else-eq c =
    let whole : c.self.inside.names.items ≡ c.pop.new.self.items ++ c.in-Some.name ∷ [] = search rules in
    Numbers-pop_other c.self.inside.names.items c.pop.new.self.items c.in-Some.name c.self.inside.numbers whole c.self.invariant (search rules)
