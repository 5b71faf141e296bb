use Rattle.std.proofs.Common.{rules, ◌≡◌, ◌+◌, ◌<◌, ◌++◌, [], ◌∷◌, None, length, arith, ap, ◌∙◌, sym, subst}
use Rattle.std.specs.String.{string_bytes}
use Rattle.vf_names.specs.Names.{number_of, put}
use Rattle.vf_snapshot.specs.Entries.{Match}
use Rattle.vf_snapshot.proofs.Knowing.{number_by_names, Match-push}
use Rattle.vf_snapshot.proofs.snapshot.Snapshot.hold.Goals as goal

pub invariant_of-self-in-Ok : goal.invariant_of-self-in-Ok
invariant_of-self-in-Ok c =
    let none : number_of c.self.inside.names c.args.path.now ≡ None = number_by_names c.self.inside.names c.self.inside.entries.items c.args.self.now c.args.path.now c.self.invariant c.self.view_is ∙ c.requires in
    let made : c.put.new.self ≡ put c.self.inside.names c.args.path.now = c.in-Ok.ensures.put ∙ ap (λ p. put c.self.inside.names p) c.as_bytes.ensures.value in
    let size : c.len-number.result ≡ length c.self.inside.entries.items = search rules in
    let few : length c.self.inside.entries.items + 1 < 4294967296 = omega arith in
    let entry : Match c.put.new.self (c.self.inside.entries.items ++ record { path = c.in_ok-from_str.field-0; held = c.args.held } ∷ []) =
    Match-push c.self.inside.names c.put.new.self c.self.inside.entries.items _ c.args.path.now c.self.invariant none made c.in_ok-from_str.ensures.ok few in
    subst (λ es. Match c.put.new.self es) (sym c.in_ok-push.ensures.items) entry
