use Rattle.vf_explain.proofs.Reaching.{edge_in}
use Rattle.vf_explain.proofs.bound.edge_at.Goals as goal

pub returns-clause-one : goal.returns-clause-one
returns-clause-one c = edge_in c.edges.result.now c.args.bounds.now.edges c.args.i _ c.edges.ensures.edges c.requires

pub returns-clause-from : goal.returns-clause-from
returns-clause-from c = (c.edges.ensures.points _ (edge_in c.edges.result.now c.args.bounds.now.edges c.args.i _ c.edges.ensures.edges c.requires)).0

pub returns-clause-to : goal.returns-clause-to
returns-clause-to c = (c.edges.ensures.points _ (edge_in c.edges.result.now c.args.bounds.now.edges c.args.i _ c.edges.ensures.edges c.requires)).1
