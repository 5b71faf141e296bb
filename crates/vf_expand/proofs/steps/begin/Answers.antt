use Rattle.std.proofs.Common.{◌≡◌, ◌<◌, ◌∷◌, ◌++◌, [], refl, sym, ap, subst}
use Rattle.vf_expand.specs.Weights.{left_of, lefts_of, weight_of, weight_before}
use Rattle.vf_expand.specs.Walks.{Going}
use Rattle.vf_expand.proofs.Remembering.{walk_begins}
use Rattle.vf_expand.proofs.Weighing.{lefts_size, begun_weighs}
use Rattle.vf_expand.proofs.steps.begin.Goals as goal

pub returns-clause-falls : goal.returns-clause-falls
returns-clause-falls c = λ shallow.
    subst (λ ns. weight_of (left_of c.in_ok-header.header ∷ ns) < weight_before c.args.walk) (sym c.in_ok-wait.ensures.lefts)
    (begun_weighs (left_of c.in_ok-header.header) (left_of c.args.walk.current) (lefts_of c.args.walk.stack.items) c.in_ok-header.ensures.left
    (subst (λ n. n < 32) (sym (lefts_size c.args.walk.stack.items)) shallow))

pub returns-clause-remembers : goal.returns-clause-remembers
returns-clause-remembers c =
    let path : c.as_bytes.result.now ≡ c.args.include.path = c.as_bytes.ensures in
    walk_begins c.args.walk (record { unit = c.begin.new.self; stack = c.wait.new.stack; current = c.in_ok-header.header })
    (record { file = c.args.walk.current; hash = c.args.include.hash; is_ghost = c.args.include.is_ghost; number = c.in_ok-number.number })
    (c.args.walk.unit.headers ++ c.args.loaded.number ∷ []) c.as_bytes.result.now c.as_slice.result.now
    c.requires.remembers refl c.in_ok-number.ensures.number c.in_ok-number.ensures.begun c.in_ok-wait.ensures.waiting c.in_ok-header.ensures.joins
    (ap (λ (o : Going). o.scope) c.in_ok-header.ensures.going)
