use Rattle.std.proofs.Common.{ap, ap₂, [], ◌∷◌}
use Rattle.vf_engine.specs.Values.{value_of, cells_of}
use Rattle.vf_engine.specs.States.{callers_of}
use Rattle.vf_effects.proofs.starts.new_thread.Goals as goal

pub returns : goal.returns
returns c = λ names.
    ap₂ (λ f cs. f ∷ callers_of names cs)
    (c.in_ok-frame.ensures names (value_of names c.args.argument ∷ []) (ap (cells_of names) c.in_ok-values.ensures.items))
    c.new.ensures.items
