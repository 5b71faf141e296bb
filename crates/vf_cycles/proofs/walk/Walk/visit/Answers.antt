use Rattle.std.proofs.Common.{◌≡◌, ◌++◌, [], ◌∷◌, true, length, sym, ap, subst, ◌∙◌}
use Rattle.std.specs.Prelude.{slice_set}
use Rattle.std.proofs.lemmas.List.{length-set}
use Rattle.vf_cycles.specs.Walks.{IsReached}
use Rattle.vf_cycles.proofs.Walking.{opens, same_walk, starts_reached}
use Rattle.vf_cycles.proofs.walk.Walk.visit.Goals as goal

pub loop-node-init : goal.loop-node-init
loop-node-init c =
    let g = c.args.graph.now in
    let w = c.args.self.now in
    let root = c.args.root in
    let e = c.in_ok-open_node.ensures in
    let now : c.open_node.new.self.opened.items ≡ root ∷ [] = e.opened ∙ ap (λ l. l ++ root ∷ []) c.requires.opened in
    record {
      walk = same_walk g.sources.items g.targets.items c.open_node.new.self.opened.items (root ∷ []) c.open_node.new.self.finished.items w.finished.items
          c.open_node.new.self.seen.items (slice_set w.seen.items root true) c.open_node.new.self.left.items w.left.items
          now e.finished e.seen e.left
          (opens g.sources.items g.targets.items [] w.finished.items w.seen.items w.left.items root c.requires.graph.edges.pairs c.requires.walk c.requires.within c.requires.unseen tt);
      nodes = ap length e.seen ∙ length-set w.seen.items root true;
      reached =
          subst (λ o. IsReached g.sources.items g.targets.items root w.finished.items o c.open_node.new.self.finished.items) (sym now)
          (subst (λ f. IsReached g.sources.items g.targets.items root w.finished.items (root ∷ []) f) (sym e.finished)
          (starts_reached g.sources.items g.targets.items w.finished.items root));
    }
