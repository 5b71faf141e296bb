-- Answers for whole units, from the answers for their parts.
use Rattle.std.proofs.Common.{◌≡◌, List, Result, Ok, Err, sym, subst}
use Rattle.vf_base.specs.declared.refusal.RuleFault.{RuleFault}
use Rattle.vf_base.specs.declared.refusal.RuleFault.TheVariants as faults
use Rattle.vf_declared.specs.declared.scope.Scope.{Scope}
use Rattle.vf_syntax.specs.declared.item.Item.{Item}
use Rattle.vf_sorting.specs.Answers.{Answers, Tells}
use Rattle.vf_datatypes.specs.declared.stated.Stated.{Stated}
use Rattle.vf_walk.specs.Items.{WalksItems}
use Rattle.vf_walk.specs.Walking.{Follows}
use Rattle.vf_walk.specs.Walking as walking
use Rattle.vf_gathering.specs.Named.{datatypes_in}
use Rattle.vf_gathering.specs.Standing as standing
use Rattle.vf_annotations.specs.Forms.{meanings}
use Rattle.vf_resolve.specs.declared.files.Files.{Files}
use Rattle.vf_resolve.specs.Beginning.{beginning}
use Rattle.vf_resolve.specs.Units.{IsResolved, ItemsCome}

pub memory : {f : Files} {xs : List Item} {res : Result Scope RuleFault} → res ≡ Err faults.Memory → IsResolved f xs res
memory {f = f} {xs = xs} q = record { answers = subst (Answers (λ s. ItemsCome xs (beginning f xs) (Ok s)) (λ x. ItemsCome xs (beginning f xs) (Err x))) (sym q) tt }

-- from where it begins
begun : {f : Files} {xs : List Item} {s : Scope} {d : Stated} {w : walking.Walked} → s ≡ beginning f xs → standing.Tells (datatypes_in xs) d → d ≡ standing.with_names standing.no_names (datatypes_in xs) → WalksItems (meanings d) xs s w → ItemsCome xs (beginning f xs) w
begun {f = f} {xs = xs} {d = d} {w = w} b t i h = record { stated = d; tells = t; is = i; walks = subst (λ (u : Scope). WalksItems (meanings d) xs u w) b h }

told : (f : Files) (xs : List Item) {s t : Scope} {d : Stated} (e : RuleFault) → s ≡ beginning f xs → standing.Tells (datatypes_in xs) d → d ≡ standing.with_names standing.no_names (datatypes_in xs) → Follows (WalksItems (meanings d) xs s) (Err e) t → Tells (λ x. ItemsCome xs (beginning f xs) (Err x)) e
told f xs (faults.Refused x) b t i (walking.to_refusal h) = begun b t i h
told f xs faults.Memory b t i h = tt

pub stops : {f : Files} {xs : List Item} {s t : Scope} {d : Stated} {res : Result Scope RuleFault} (e : RuleFault) → s ≡ beginning f xs → standing.Tells (datatypes_in xs) d → d ≡ standing.with_names standing.no_names (datatypes_in xs) → Follows (WalksItems (meanings d) xs s) (Err e) t → res ≡ Err e → IsResolved f xs res
stops {f = f} {xs = xs} e b t i h q = record { answers = subst (Answers (λ s. ItemsCome xs (beginning f xs) (Ok s)) (λ x. ItemsCome xs (beginning f xs) (Err x))) (sym q) (told f xs e b t i h) }

ended : {f : Files} {xs : List Item} {s t : Scope} {d : Stated} → s ≡ beginning f xs → standing.Tells (datatypes_in xs) d → d ≡ standing.with_names standing.no_names (datatypes_in xs) → Follows (WalksItems (meanings d) xs s) (Ok tt) t → ItemsCome xs (beginning f xs) (Ok t)
ended b t i (walking.to_end h) = begun b t i h

pub comes : {f : Files} {xs : List Item} {s t : Scope} {d : Stated} → s ≡ beginning f xs → standing.Tells (datatypes_in xs) d → d ≡ standing.with_names standing.no_names (datatypes_in xs) → Follows (WalksItems (meanings d) xs s) (Ok tt) t → IsResolved f xs (Ok t)
comes b t i h = record { answers = ended b t i h }
