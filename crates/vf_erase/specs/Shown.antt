-- What the types of the code stand for.
use Rattle.std.specs.Prelude.{List, map}
use Rattle.vf_steps.specs.Shown.{nodes_of}
use Rattle.vf_functions.specs.Erased.{PlainTree}
use Rattle.vf_erase.specs.declared.function.PlainFunction.{PlainFunction}

-- a function in steps without its annotations
abbrev pub plain_shown : PlainFunction → PlainTree
plain_shown f = record { name = f.name.now; locals = f.locals; nodes = nodes_of f.nodes.items; closing = f.closing }

-- several in order
abbrev pub plains_shown : List PlainFunction → List PlainTree
plains_shown fs = map plain_shown fs
