use Rattle.std.proofs.Common.{◌≡◌, ap}
use Rattle.vf_declared.specs.declared.declaration.Declaration.{Declaration}
use Rattle.vf_declared.specs.Writing.{changed, with_file}
use Rattle.vf_declared.proofs.Lists.{put_back}
use Rattle.vf_declared.proofs.scope.Scope.declare_name_again.Goals as goal

pub returns-in_ok-add_file : goal.returns-in_ok-add_file
returns-in_ok-add_file c =
    let changed_ : c.replace-none.new.self ≡ changed (λ (d : Declaration). record d { files = with_file d.files c.args.file }) c.args.self.now.declarations c.args.number = put_back _ c.args.self.now.declarations c.replace-declaration.new.self c.replace-none.new.self c.args.number _ _ _ c.replace-declaration.ensures.given c.replace-declaration.ensures.written (ap (λ fs. record c.replace-declaration.result { files = fs }) c.in_ok-add_file.ensures) c.replace-none.ensures.written in
    ap (λ xs. record c.args.self.now { declarations = xs }) changed_
