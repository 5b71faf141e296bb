-- What the types of the code stand for.
use Rattle.std.specs.Prelude.{List, map, Result, Ok, Err}
use Rattle.std.specs.Global.{Vec}
use Rattle.vf_base.specs.declared.refusal.RuleFault.{RuleFault}
use Rattle.vf_steps.specs.Shown.{nodes_of}
use Rattle.vf_functions.specs.Definitions.{CoreTree}
use Rattle.vf_cores.specs.declared.cores.Core.{Core}

-- a function with its body in steps
abbrev pub core_shown : Core → CoreTree
core_shown f = record { name = f.name.now; contract = f.contract.now; locals = f.locals; nodes = nodes_of f.nodes.items; closing = f.closing }

-- several in order
abbrev pub cores_shown : List Core → List CoreTree
cores_shown fs = map core_shown fs

-- an answer
abbrev pub answer_shown : Result (Vec Core) RuleFault → Result (List CoreTree) RuleFault
answer_shown (Ok fs) = Ok (cores_shown fs.items)
answer_shown (Err x) = Err x
