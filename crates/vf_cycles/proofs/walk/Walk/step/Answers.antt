use Rattle.std.proofs.Common.{◌≡◌, ◌<◌, ◌+◌, ◌-◌, ◌++◌, [], ◌∷◌, true, false, length, get_or, sym, ap, subst, ◌∙◌, arith}
use Rattle.std.specs.Prelude.{slice_index, slice_set, sum}
use Rattle.std.proofs.lemmas.List.{get_or_read, length_push}
use Rattle.std.proofs.lemmas.List.Elements.{Contains-push}
use Rattle.vf_cycles.specs.Walks.{IsWalk, IsReached}
use Rattle.vf_cycles.proofs.Walking.{finishes, finishes_reached, opens_reached, top_within, edge_within, target_within, edge_followed, step_opens, step_stays, less_after, same_walk}
use Rattle.vf_cycles.proofs.walk.Walk.step.Goals as goal

pub index-edge-requires : goal.index-edge-requires
index-edge-requires c =
    let g = c.args.graph.now in
    let w = c.args.self.now in
    let u = c.args.node in
    let within : u < length w.seen.items = top_within g.sources.items g.targets.items g.last.items g.before.items w.opened.items w.finished.items w.seen.items w.left.items u 0 0 c.requires.graph.edges c.requires.graph.chained c.requires.walk in
    let nodes = c.requires.walk.nodes in
    omega (arith, w.left.ok.0)

pub returns-then-edge-eq0-clause-walk : goal.returns-then-edge-eq0-clause-walk
returns-then-edge-eq0-clause-walk c =
    let g = c.args.graph.now in
    let w = c.args.self.now in
    let u = c.args.node in
    let within : u < length w.seen.items = top_within g.sources.items g.targets.items g.last.items g.before.items w.opened.items w.finished.items w.seen.items w.left.items u 0 0 c.requires.graph.edges c.requires.graph.chained c.requires.walk in
    let nodes = c.requires.walk.nodes in
    let read : c.index-edge.result.now ≡ slice_index w.left.items u = get_or_read w.left.items u c.index-edge.result.now (omega arith) c.index-edge.ensures 0 in
    subst (λ f. IsWalk g.sources.items g.targets.items w.opened.items f w.seen.items w.left.items) (sym c.in_ok-push.ensures.items)
    (finishes g.sources.items g.targets.items w.opened.items w.finished.items w.seen.items w.left.items u c.requires.walk (sym read ∙ c.if-edge-eq0.true))

pub returns-then-edge-eq0-clause-reached : goal.returns-then-edge-eq0-clause-reached
returns-then-edge-eq0-clause-reached c = λ root base r.
    let g = c.args.graph.now in
    let w = c.args.self.now in
    subst (λ f. IsReached g.sources.items g.targets.items root base w.opened.items f) (sym c.in_ok-push.ensures.items)
    (finishes_reached g.sources.items g.targets.items base w.opened.items w.finished.items root c.args.node r)

pub index-requires : goal.index-requires
index-requires c =
    let g = c.args.graph.now in
    let w = c.args.self.now in
    let u = c.args.node in
    let within : u < length w.seen.items = top_within g.sources.items g.targets.items g.last.items g.before.items w.opened.items w.finished.items w.seen.items w.left.items u 0 0 c.requires.graph.edges c.requires.graph.chained c.requires.walk in
    let nodes = c.requires.walk.nodes in
    let read : c.index-edge.result.now ≡ slice_index w.left.items u = get_or_read w.left.items u c.index-edge.result.now (omega arith) c.index-edge.ensures 0 in
    let nonzero = c.if-edge-eq0.false in
    let some : 0 < slice_index w.left.items u = omega arith in
    let inside : slice_index w.left.items u - 1 < length g.sources.items = edge_within g.sources.items g.targets.items g.last.items g.before.items w.opened.items w.finished.items w.seen.items w.left.items u 0 0 c.requires.graph.edges c.requires.graph.chained c.requires.walk some in
    let chains = c.requires.graph.chained.edges in
    let pairs = c.requires.graph.edges.pairs in
    omega (arith, g.before.ok.0)

pub index_mut-requires : goal.index_mut-requires
index_mut-requires c =
    let g = c.args.graph.now in
    let w = c.args.self.now in
    let u = c.args.node in
    let within : u < length w.seen.items = top_within g.sources.items g.targets.items g.last.items g.before.items w.opened.items w.finished.items w.seen.items w.left.items u 0 0 c.requires.graph.edges c.requires.graph.chained c.requires.walk in
    let nodes = c.requires.walk.nodes in
    omega (arith, w.left.ok.0)

pub index-target-requires : goal.index-target-requires
index-target-requires c =
    let g = c.args.graph.now in
    let w = c.args.self.now in
    let u = c.args.node in
    let within : u < length w.seen.items = top_within g.sources.items g.targets.items g.last.items g.before.items w.opened.items w.finished.items w.seen.items w.left.items u 0 0 c.requires.graph.edges c.requires.graph.chained c.requires.walk in
    let nodes = c.requires.walk.nodes in
    let read : c.index-edge.result.now ≡ slice_index w.left.items u = get_or_read w.left.items u c.index-edge.result.now (omega arith) c.index-edge.ensures 0 in
    let nonzero = c.if-edge-eq0.false in
    let some : 0 < slice_index w.left.items u = omega arith in
    let inside : slice_index w.left.items u - 1 < length g.sources.items = edge_within g.sources.items g.targets.items g.last.items g.before.items w.opened.items w.finished.items w.seen.items w.left.items u 0 0 c.requires.graph.edges c.requires.graph.chained c.requires.walk some in
    let chains = c.requires.graph.chained.edges in
    let pairs = c.requires.graph.edges.pairs in
    omega (arith, g.targets.ok.0)

pub index-requires-2 : goal.index-requires-2
index-requires-2 c =
    let g = c.args.graph.now in
    let w = c.args.self.now in
    let u = c.args.node in
    let within : u < length w.seen.items = top_within g.sources.items g.targets.items g.last.items g.before.items w.opened.items w.finished.items w.seen.items w.left.items u 0 0 c.requires.graph.edges c.requires.graph.chained c.requires.walk in
    let nodes = c.requires.walk.nodes in
    let read : c.index-edge.result.now ≡ slice_index w.left.items u = get_or_read w.left.items u c.index-edge.result.now (omega arith) c.index-edge.ensures 0 in
    let nonzero = c.if-edge-eq0.false in
    let some : 0 < slice_index w.left.items u = omega arith in
    let inside : slice_index w.left.items u - 1 < length g.sources.items = edge_within g.sources.items g.targets.items g.last.items g.before.items w.opened.items w.finished.items w.seen.items w.left.items u 0 0 c.requires.graph.edges c.requires.graph.chained c.requires.walk some in
    let chains = c.requires.graph.chained.edges in
    let pairs = c.requires.graph.edges.pairs in
    let at : c.index-edge.result.now - 1 ≡ slice_index w.left.items u - 1 = omega arith in
    let b : c.index.result.now ≡ slice_index g.before.items (slice_index w.left.items u - 1) =
    get_or_read g.before.items (c.index-edge.result.now - 1) c.index.result.now (omega arith) c.index.ensures 0 ∙ ap (slice_index g.before.items) at in
    let t : c.index-target.result.now ≡ slice_index g.targets.items (slice_index w.left.items u - 1) =
    get_or_read g.targets.items (c.index-edge.result.now - 1) c.index-target.result.now (omega arith) c.index-target.ensures 0 ∙ ap (slice_index g.targets.items) at in
    let inside_t = target_within g.sources.items g.targets.items g.last.items g.before.items w.opened.items w.finished.items w.seen.items w.left.items u c.index.result.now c.index-target.result.now c.requires.graph.edges c.requires.graph.chained c.requires.walk some t in
    omega (arith, w.seen.ok.0)

pub open_node-requires : goal.open_node-requires
open_node-requires c =
    let g = c.args.graph.now in
    let w = c.args.self.now in
    let u = c.args.node in
    let within : u < length w.seen.items = top_within g.sources.items g.targets.items g.last.items g.before.items w.opened.items w.finished.items w.seen.items w.left.items u 0 0 c.requires.graph.edges c.requires.graph.chained c.requires.walk in
    let nodes = c.requires.walk.nodes in
    let read : c.index-edge.result.now ≡ slice_index w.left.items u = get_or_read w.left.items u c.index-edge.result.now (omega arith) c.index-edge.ensures 0 in
    let nonzero = c.if-edge-eq0.false in
    let some : 0 < slice_index w.left.items u = omega arith in
    let inside : slice_index w.left.items u - 1 < length g.sources.items = edge_within g.sources.items g.targets.items g.last.items g.before.items w.opened.items w.finished.items w.seen.items w.left.items u 0 0 c.requires.graph.edges c.requires.graph.chained c.requires.walk some in
    let chains = c.requires.graph.chained.edges in
    let pairs = c.requires.graph.edges.pairs in
    let at : c.index-edge.result.now - 1 ≡ slice_index w.left.items u - 1 = omega arith in
    let b : c.index.result.now ≡ slice_index g.before.items (slice_index w.left.items u - 1) =
    get_or_read g.before.items (c.index-edge.result.now - 1) c.index.result.now (omega arith) c.index.ensures 0 ∙ ap (slice_index g.before.items) at in
    let t : c.index-target.result.now ≡ slice_index g.targets.items (slice_index w.left.items u - 1) =
    get_or_read g.targets.items (c.index-edge.result.now - 1) c.index-target.result.now (omega arith) c.index-target.ensures 0 ∙ ap (slice_index g.targets.items) at in
    target_within g.sources.items g.targets.items g.last.items g.before.items w.opened.items w.finished.items w.seen.items w.left.items u c.index.result.now c.index-target.result.now c.requires.graph.edges c.requires.graph.chained c.requires.walk some t

pub returns-in_ok-open_node-clause-walk : goal.returns-in_ok-open_node-clause-walk
returns-in_ok-open_node-clause-walk c =
    let g = c.args.graph.now in
    let w = c.args.self.now in
    let u = c.args.node in
    let within : u < length w.seen.items = top_within g.sources.items g.targets.items g.last.items g.before.items w.opened.items w.finished.items w.seen.items w.left.items u 0 0 c.requires.graph.edges c.requires.graph.chained c.requires.walk in
    let nodes = c.requires.walk.nodes in
    let read : c.index-edge.result.now ≡ slice_index w.left.items u = get_or_read w.left.items u c.index-edge.result.now (omega arith) c.index-edge.ensures 0 in
    let nonzero = c.if-edge-eq0.false in
    let some : 0 < slice_index w.left.items u = omega arith in
    let inside : slice_index w.left.items u - 1 < length g.sources.items = edge_within g.sources.items g.targets.items g.last.items g.before.items w.opened.items w.finished.items w.seen.items w.left.items u 0 0 c.requires.graph.edges c.requires.graph.chained c.requires.walk some in
    let chains = c.requires.graph.chained.edges in
    let pairs = c.requires.graph.edges.pairs in
    let at : c.index-edge.result.now - 1 ≡ slice_index w.left.items u - 1 = omega arith in
    let b : c.index.result.now ≡ slice_index g.before.items (slice_index w.left.items u - 1) =
    get_or_read g.before.items (c.index-edge.result.now - 1) c.index.result.now (omega arith) c.index.ensures 0 ∙ ap (slice_index g.before.items) at in
    let t : c.index-target.result.now ≡ slice_index g.targets.items (slice_index w.left.items u - 1) =
    get_or_read g.targets.items (c.index-edge.result.now - 1) c.index-target.result.now (omega arith) c.index-target.ensures 0 ∙ ap (slice_index g.targets.items) at in
    let o = c.in_ok-open_node.ensures in
    let x = c.index-target.result.now in
    let opened : c.open_node.new.self.opened.items ≡ (w.opened.items ++ u ∷ []) ++ x ∷ [] = o.opened ∙ ap (λ l. l ++ x ∷ []) c.in_ok-push-2.ensures.items in
    let seen_read : c.index-2.result.now ≡ get_or w.seen.items x false = get_or_read w.seen.items x c.index-2.result.now (target_within g.sources.items g.targets.items g.last.items g.before.items w.opened.items w.finished.items w.seen.items w.left.items u c.index.result.now c.index-target.result.now c.requires.graph.edges c.requires.graph.chained c.requires.walk some t) c.index-2.ensures false in
    same_walk g.sources.items g.targets.items c.open_node.new.self.opened.items ((w.opened.items ++ u ∷ []) ++ x ∷ []) c.open_node.new.self.finished.items w.finished.items
    c.open_node.new.self.seen.items (slice_set w.seen.items x true) c.open_node.new.self.left.items (slice_set w.left.items u c.index.result.now)
    opened o.finished o.seen o.left
    (step_opens g.sources.items g.targets.items g.last.items g.before.items w.opened.items w.finished.items w.seen.items w.left.items u c.index.result.now c.index-target.result.now c.requires.graph.edges c.requires.graph.chained c.requires.walk some b t (λ m. let no : c.index-2.result.now ≡ false = c.if-not-index.true in absurd (let both : true ≡ false = sym m ∙ sym seen_read ∙ no in cc)))

pub returns-in_ok-open_node-clause-less : goal.returns-in_ok-open_node-clause-less
returns-in_ok-open_node-clause-less c =
    let g = c.args.graph.now in
    let w = c.args.self.now in
    let u = c.args.node in
    let within : u < length w.seen.items = top_within g.sources.items g.targets.items g.last.items g.before.items w.opened.items w.finished.items w.seen.items w.left.items u 0 0 c.requires.graph.edges c.requires.graph.chained c.requires.walk in
    let nodes = c.requires.walk.nodes in
    let read : c.index-edge.result.now ≡ slice_index w.left.items u = get_or_read w.left.items u c.index-edge.result.now (omega arith) c.index-edge.ensures 0 in
    let nonzero = c.if-edge-eq0.false in
    let some : 0 < slice_index w.left.items u = omega arith in
    let inside : slice_index w.left.items u - 1 < length g.sources.items = edge_within g.sources.items g.targets.items g.last.items g.before.items w.opened.items w.finished.items w.seen.items w.left.items u 0 0 c.requires.graph.edges c.requires.graph.chained c.requires.walk some in
    let chains = c.requires.graph.chained.edges in
    let pairs = c.requires.graph.edges.pairs in
    let at : c.index-edge.result.now - 1 ≡ slice_index w.left.items u - 1 = omega arith in
    let b : c.index.result.now ≡ slice_index g.before.items (slice_index w.left.items u - 1) =
    get_or_read g.before.items (c.index-edge.result.now - 1) c.index.result.now (omega arith) c.index.ensures 0 ∙ ap (slice_index g.before.items) at in
    let t : c.index-target.result.now ≡ slice_index g.targets.items (slice_index w.left.items u - 1) =
    get_or_read g.targets.items (c.index-edge.result.now - 1) c.index-target.result.now (omega arith) c.index-target.ensures 0 ∙ ap (slice_index g.targets.items) at in
    let o = c.in_ok-open_node.ensures in
    let x = c.index-target.result.now in
    let opened : c.open_node.new.self.opened.items ≡ (w.opened.items ++ u ∷ []) ++ x ∷ [] = o.opened ∙ ap (λ l. l ++ x ∷ []) c.in_ok-push-2.ensures.items in
    let less = less_after g.sources.items g.targets.items g.last.items g.before.items w.opened.items w.finished.items w.seen.items w.left.items u c.index.result.now c.index-target.result.now c.requires.graph.edges c.requires.graph.chained c.requires.walk some b in
    let long : length c.open_node.new.self.opened.items ≡ length w.opened.items + 1 + 1 =
    ap length opened ∙ length_push (w.opened.items ++ u ∷ []) x ∙ ap (λ n. n + 1) (length_push w.opened.items u) in
    let left : sum c.open_node.new.self.left.items ≡ sum (slice_set w.left.items u c.index.result.now) = ap sum o.left in
    omega arith

pub returns-in_ok-open_node-clause-reached : goal.returns-in_ok-open_node-clause-reached
returns-in_ok-open_node-clause-reached c = λ root base r.
    let g = c.args.graph.now in
    let w = c.args.self.now in
    let u = c.args.node in
    let within : u < length w.seen.items = top_within g.sources.items g.targets.items g.last.items g.before.items w.opened.items w.finished.items w.seen.items w.left.items u 0 0 c.requires.graph.edges c.requires.graph.chained c.requires.walk in
    let nodes = c.requires.walk.nodes in
    let read : c.index-edge.result.now ≡ slice_index w.left.items u = get_or_read w.left.items u c.index-edge.result.now (omega arith) c.index-edge.ensures 0 in
    let nonzero = c.if-edge-eq0.false in
    let some : 0 < slice_index w.left.items u = omega arith in
    let inside : slice_index w.left.items u - 1 < length g.sources.items = edge_within g.sources.items g.targets.items g.last.items g.before.items w.opened.items w.finished.items w.seen.items w.left.items u 0 0 c.requires.graph.edges c.requires.graph.chained c.requires.walk some in
    let chains = c.requires.graph.chained.edges in
    let pairs = c.requires.graph.edges.pairs in
    let at : c.index-edge.result.now - 1 ≡ slice_index w.left.items u - 1 = omega arith in
    let b : c.index.result.now ≡ slice_index g.before.items (slice_index w.left.items u - 1) =
    get_or_read g.before.items (c.index-edge.result.now - 1) c.index.result.now (omega arith) c.index.ensures 0 ∙ ap (slice_index g.before.items) at in
    let t : c.index-target.result.now ≡ slice_index g.targets.items (slice_index w.left.items u - 1) =
    get_or_read g.targets.items (c.index-edge.result.now - 1) c.index-target.result.now (omega arith) c.index-target.ensures 0 ∙ ap (slice_index g.targets.items) at in
    let o = c.in_ok-open_node.ensures in
    let x = c.index-target.result.now in
    let opened : c.open_node.new.self.opened.items ≡ (w.opened.items ++ u ∷ []) ++ x ∷ [] = o.opened ∙ ap (λ l. l ++ x ∷ []) c.in_ok-push-2.ensures.items in
    subst (λ l. IsReached g.sources.items g.targets.items root base l c.open_node.new.self.finished.items) (sym opened)
    (subst (λ f. IsReached g.sources.items g.targets.items root base ((w.opened.items ++ u ∷ []) ++ x ∷ []) f) (sym o.finished)
    (opens_reached g.sources.items g.targets.items base (w.opened.items ++ u ∷ []) w.finished.items root u x (Contains-push w.opened.items u)
    (edge_followed g.sources.items g.targets.items g.last.items g.before.items w.opened.items w.finished.items w.seen.items w.left.items u c.index.result.now c.index-target.result.now c.requires.graph.edges c.requires.graph.chained c.requires.walk some t) r))

pub returns-else-not-index-clause-walk : goal.returns-else-not-index-clause-walk
returns-else-not-index-clause-walk c =
    let g = c.args.graph.now in
    let w = c.args.self.now in
    let u = c.args.node in
    let within : u < length w.seen.items = top_within g.sources.items g.targets.items g.last.items g.before.items w.opened.items w.finished.items w.seen.items w.left.items u 0 0 c.requires.graph.edges c.requires.graph.chained c.requires.walk in
    let nodes = c.requires.walk.nodes in
    let read : c.index-edge.result.now ≡ slice_index w.left.items u = get_or_read w.left.items u c.index-edge.result.now (omega arith) c.index-edge.ensures 0 in
    let nonzero = c.if-edge-eq0.false in
    let some : 0 < slice_index w.left.items u = omega arith in
    let inside : slice_index w.left.items u - 1 < length g.sources.items = edge_within g.sources.items g.targets.items g.last.items g.before.items w.opened.items w.finished.items w.seen.items w.left.items u 0 0 c.requires.graph.edges c.requires.graph.chained c.requires.walk some in
    let chains = c.requires.graph.chained.edges in
    let pairs = c.requires.graph.edges.pairs in
    let at : c.index-edge.result.now - 1 ≡ slice_index w.left.items u - 1 = omega arith in
    let b : c.index.result.now ≡ slice_index g.before.items (slice_index w.left.items u - 1) =
    get_or_read g.before.items (c.index-edge.result.now - 1) c.index.result.now (omega arith) c.index.ensures 0 ∙ ap (slice_index g.before.items) at in
    let t : c.index-target.result.now ≡ slice_index g.targets.items (slice_index w.left.items u - 1) =
    get_or_read g.targets.items (c.index-edge.result.now - 1) c.index-target.result.now (omega arith) c.index-target.ensures 0 ∙ ap (slice_index g.targets.items) at in
    let x = c.index-target.result.now in
    let seen_read : c.index-2.result.now ≡ get_or w.seen.items x false = get_or_read w.seen.items x c.index-2.result.now (target_within g.sources.items g.targets.items g.last.items g.before.items w.opened.items w.finished.items w.seen.items w.left.items u c.index.result.now c.index-target.result.now c.requires.graph.edges c.requires.graph.chained c.requires.walk some t) c.index-2.ensures false in
    let pushed = c.in_ok-push-2.ensures.items in
    subst (λ l. IsWalk g.sources.items g.targets.items l w.finished.items w.seen.items (slice_set w.left.items u c.index.result.now)) (sym pushed)
    (step_stays g.sources.items g.targets.items g.last.items g.before.items w.opened.items w.finished.items w.seen.items w.left.items u c.index.result.now c.index-target.result.now c.requires.graph.edges c.requires.graph.chained c.requires.walk some b t (sym seen_read ∙ c.if-not-index.false))

pub returns-else-not-index-clause-less : goal.returns-else-not-index-clause-less
returns-else-not-index-clause-less c =
    let g = c.args.graph.now in
    let w = c.args.self.now in
    let u = c.args.node in
    let within : u < length w.seen.items = top_within g.sources.items g.targets.items g.last.items g.before.items w.opened.items w.finished.items w.seen.items w.left.items u 0 0 c.requires.graph.edges c.requires.graph.chained c.requires.walk in
    let nodes = c.requires.walk.nodes in
    let read : c.index-edge.result.now ≡ slice_index w.left.items u = get_or_read w.left.items u c.index-edge.result.now (omega arith) c.index-edge.ensures 0 in
    let nonzero = c.if-edge-eq0.false in
    let some : 0 < slice_index w.left.items u = omega arith in
    let inside : slice_index w.left.items u - 1 < length g.sources.items = edge_within g.sources.items g.targets.items g.last.items g.before.items w.opened.items w.finished.items w.seen.items w.left.items u 0 0 c.requires.graph.edges c.requires.graph.chained c.requires.walk some in
    let chains = c.requires.graph.chained.edges in
    let pairs = c.requires.graph.edges.pairs in
    let at : c.index-edge.result.now - 1 ≡ slice_index w.left.items u - 1 = omega arith in
    let b : c.index.result.now ≡ slice_index g.before.items (slice_index w.left.items u - 1) =
    get_or_read g.before.items (c.index-edge.result.now - 1) c.index.result.now (omega arith) c.index.ensures 0 ∙ ap (slice_index g.before.items) at in
    let t : c.index-target.result.now ≡ slice_index g.targets.items (slice_index w.left.items u - 1) =
    get_or_read g.targets.items (c.index-edge.result.now - 1) c.index-target.result.now (omega arith) c.index-target.ensures 0 ∙ ap (slice_index g.targets.items) at in
    let less = less_after g.sources.items g.targets.items g.last.items g.before.items w.opened.items w.finished.items w.seen.items w.left.items u c.index.result.now c.index-target.result.now c.requires.graph.edges c.requires.graph.chained c.requires.walk some b in
    let long : length c.push-2.new.self.items ≡ length w.opened.items + 1 = ap length c.in_ok-push-2.ensures.items ∙ length_push w.opened.items u in
    omega arith
