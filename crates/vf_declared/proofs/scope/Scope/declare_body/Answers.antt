use Rattle.std.proofs.Common.{◌≡◌, true, ap, refl}
use Rattle.vf_declared.specs.declared.declaration.Sides.{Sides}
use Rattle.vf_declared.specs.Writing.{changed}
use Rattle.vf_declared.proofs.Lists.{put_back}
use Rattle.vf_declared.proofs.scope.Scope.declare_body.Goals as goal

pub returns-then-number-len : goal.returns-then-number-len
returns-then-number-len c =
    let changed_ : c.replace-none.new.self ≡ changed (λ (x : Sides). record x { is_defined = true }) c.args.self.now.sides c.args.number = put_back _ c.args.self.now.sides c.replace-sides.new.self c.replace-none.new.self c.args.number _ _ _ c.replace-sides.ensures.given c.replace-sides.ensures.written refl c.replace-none.ensures.written in
    ap (λ xs. record c.args.self.now { sides = xs }) changed_
