use Rattle.std.proofs.Common.{◌≡◌, ◌||◌, ap, ◌∙◌, rules}
use Rattle.vf_declared.specs.declared.declaration.Structure.{Structure}
use Rattle.vf_declared.specs.Writing.{changed, with_file}
use Rattle.vf_declared.proofs.Lists.{put_back}
use Rattle.vf_declared.proofs.scope.Scope.declare_struct_again.Goals.{then-structure, else-structure}
use Rattle.vf_declared.proofs.scope.Scope.declare_struct_again.Goals as goal

pub returns-after-structure : goal.returns-after-structure
returns-after-structure c =
    let opaque : c.if-structure.structure ≡ (c.replace-structure.result.is_opaque || c.args.is_opaque) = elim c.if-structure.branch [ then-structure w ↦ search rules | else-structure w ↦ search rules ] in
    let whole = ap (λ fs. record c.replace-structure.result { files = fs; is_opaque = c.if-structure.structure }) c.in_ok-add_file.ensures ∙ ap (λ b. record c.replace-structure.result { files = with_file c.replace-structure.result.files c.args.file; is_opaque = b }) opaque in
    let changed_ : c.replace-none.new.self ≡ changed (λ (x : Structure). record x { files = with_file x.files c.args.file; is_opaque = x.is_opaque || c.args.is_opaque }) c.args.self.now.structures c.args.number = put_back _ c.args.self.now.structures c.replace-structure.new.self c.replace-none.new.self c.args.number _ _ _ c.replace-structure.ensures.given c.replace-structure.ensures.written whole c.replace-none.ensures.written in
    ap (λ xs. record c.args.self.now { structures = xs }) changed_
