-- The laws of the rules for assertions.
use Rattle.vf_rules.specs.Laws.{IsAmong, ProducingAdds, ConsumingTakes, JoiningKeeps, ChangesKeep}
use Rattle.vf_rules.proofs.Produces.{produced}
use Rattle.vf_rules.proofs.Takes.{joins_mean, changes_stand}
use Rattle.vf_rules.proofs.Consumes.{consumed}

pub producing_adds : ProducingAdds
producing_adds e prog sorts scale c n a s st outs k locals names v w q p r stands means of_sorts scaled above h typed sums =
    let o = produced e prog sorts scale c n locals names a s st (IsAmong outs) k v w q p r stands means of_sorts scaled above h typed sums in
    record { under = o.under; store = o.store; state = o.state; among = o.holds; stands = o.stands; means = o.means; grows = o.grows }

pub consuming_takes : ConsumingTakes
consuming_takes e prog sorts scale c a s st outs k locals names v p stands so scaled =
    let o = consumed e prog sorts scale c locals names a s st (IsAmong outs) k v p stands so scaled in
    record { under = o.under; off = o.off; left = o.left; sums = o.sums; store = o.store; state = o.state; among = o.holds; stands = o.stands; grows = o.grows; stays = o.stays; sorted = o.sorted; depth = o.depth; satisfies = o.satisfies }

pub joining_keeps : JoiningKeeps
joining_keeps = joins_mean

pub changes_keep : ChangesKeep
changes_keep e v st new c locals names p m = changes_stand e v c locals names p m
