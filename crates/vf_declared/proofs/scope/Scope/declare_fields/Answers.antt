use Rattle.std.proofs.Common.{◌≡◌, Some, ap, refl}
use Rattle.vf_declared.specs.declared.declaration.Structure.{Structure}
use Rattle.vf_declared.specs.Writing.{changed}
use Rattle.vf_declared.proofs.Lists.{put_back}
use Rattle.vf_declared.proofs.scope.Scope.declare_fields.Goals as goal

pub returns-then-number-len : goal.returns-then-number-len
returns-then-number-len c =
    let changed_ : c.replace-none.new.self ≡ changed (λ (x : Structure). record x { fields = Some c.args.fields }) c.args.self.now.structures c.args.number = put_back _ c.args.self.now.structures c.replace-structure.new.self c.replace-none.new.self c.args.number _ _ _ c.replace-structure.ensures.given c.replace-structure.ensures.written refl c.replace-none.ensures.written in
    ap (λ xs. record c.args.self.now { structures = xs }) changed_
