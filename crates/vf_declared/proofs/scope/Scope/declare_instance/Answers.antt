use Rattle.std.proofs.Common.{◌≡◌, [], ◌∷◌, ◌++◌, ap}
use Rattle.vf_declared.specs.declared.declaration.GhostSides.{GhostSides}
use Rattle.vf_declared.specs.Writing.{changed}
use Rattle.vf_declared.proofs.Lists.{put_back}
use Rattle.vf_declared.proofs.scope.Scope.declare_instance.Goals as goal

pub returns-in_ok-add_function : goal.returns-in_ok-add_function
returns-in_ok-add_function c =
    let changed_ : c.replace-none.new.self ≡ changed (λ (x : GhostSides). record x { functions = x.functions ++ c.args.function ∷ [] }) c.args.self.now.ghost_sides c.args.number = put_back _ c.args.self.now.ghost_sides c.replace-sides.new.self c.replace-none.new.self c.args.number _ _ _ c.replace-sides.ensures.given c.replace-sides.ensures.written (ap (λ fs. record c.replace-sides.result { functions = fs }) c.in_ok-add_function.ensures) c.replace-none.ensures.written in
    ap (λ xs. record c.args.self.now { ghost_sides = xs }) changed_
