-- Answers for whole units, from the answers for their parts.
use Rattle.std.proofs.Common.{◌≡◌, List, map, Result, Ok, Err, sym, ◌∙◌, subst}
use Rattle.std.specs.Global.{Vec}
use Rattle.vf_base.specs.declared.refusal.RuleFault.{RuleFault}
use Rattle.vf_base.specs.declared.refusal.RuleFault.TheVariants as faults
use Rattle.vf_declared.specs.declared.scope.Scope.{Scope}
use Rattle.vf_syntax.specs.declared.item.Item.{Item}
use Rattle.vf_sorting.specs.Answers.{Answers, Tells}
use Rattle.vf_datatypes.specs.declared.stated.Stated.{Stated}
use Rattle.vf_walk.specs.Items.{WalksItems}
use Rattle.vf_walk.specs.Meanings.{no_meanings}
use Rattle.vf_gathering.specs.Named.{datatypes_in}
use Rattle.vf_gathering.specs.Standing as standing
use Rattle.vf_annotations.specs.Forms.{meanings}
use Rattle.vf_resolve.specs.declared.files.Files.{Files}
use Rattle.vf_resolve.specs.Beginning.{beginning}
use Rattle.vf_resolve.specs.Units.{ItemsCome}
use Rattle.vf_functions.specs.Definitions.{CoreTree}
use Rattle.vf_functions.specs.Erased.{erased_core}
use Rattle.vf_functions.specs.Units.{Comes, Lowers}
use Rattle.vf_functions.specs.Units as functions
use Rattle.vf_erasure_laws.specs.plain.Stripped.{stripped_items}
use Rattle.vf_erasure_laws.specs.erased.Units.{IsPlainAnswer}
use Rattle.vf_erasure_laws.proofs.erased.Laws.{plain_readings_are_erased}
use Rattle.vf_cores.specs.Shown.{cores_shown}
use Rattle.vf_erase.specs.declared.function.PlainFunction.{PlainFunction}
use Rattle.vf_erase.specs.Shown.{plains_shown}
use Rattle.vf_lowering.specs.declared.units.LoweredUnit.{LoweredUnit}
use Rattle.vf_lowering.specs.Units.{IsErasedAnswer, IsErasure, IsPlain, IsUnit, ItemsLower, PlainItems}

-- an answer for a unit that answers
unit : {f : Files} {xs : List Item} {r : Result LoweredUnit RuleFault} → Answers (λ u. ItemsLower xs (beginning f xs) (cores_shown u.cores.items) u.scope) (λ x. ItemsCome xs (beginning f xs) (Err x)) r → IsUnit f xs r
unit h = record { answers = h }

plain : {f : Files} {ys : List Item} {r : Result (Vec PlainFunction) RuleFault} → Answers (λ ps. PlainItems ys (beginning f ys) (plains_shown ps.items)) (λ x. WalksItems no_meanings ys (beginning f ys) (Err x)) r → IsPlain f ys r
plain h = record { answers = h }

-- memory ran out
pub unit_memory : {f : Files} {xs : List Item} {res : Result LoweredUnit RuleFault} → res ≡ Err faults.Memory → IsUnit f xs res
unit_memory {f = f} {xs = xs} q = subst (λ r. IsUnit f xs r) (sym q) (unit tt)

-- from where a unit begins
lowered : {f : Files} {xs : List Item} {s t : Scope} {d : Stated} {fs : List CoreTree} → s ≡ beginning f xs → standing.Tells (datatypes_in xs) d → d ≡ standing.with_names standing.no_names (datatypes_in xs) → Comes (meanings d) xs s (Ok fs) t → ItemsLower xs (beginning f xs) fs t
lowered {xs = xs} {t = t} {d = d} {fs = fs} b tells is (functions.lowered h) = record { stated = d; tells = tells; is = is; lowers = subst (λ (u : Scope). Lowers (meanings d) xs u fs t) b h }

told : (f : Files) (xs : List Item) {s t : Scope} {d : Stated} (e : RuleFault) → s ≡ beginning f xs → standing.Tells (datatypes_in xs) d → d ≡ standing.with_names standing.no_names (datatypes_in xs) → Comes (meanings d) xs s (Err e) t → Tells (λ x. ItemsCome xs (beginning f xs) (Err x)) e
told f xs {d = d} (faults.Refused x) b tells is (functions.refused h) = record { stated = d; tells = tells; is = is; walks = subst (λ (u : Scope). WalksItems (meanings d) xs u (Err x)) b h }
told f xs faults.Memory b tells is h = tt

-- a unit is refused
pub unit_stops : {f : Files} {xs : List Item} {s t : Scope} {d : Stated} {res : Result LoweredUnit RuleFault} (e : RuleFault) → s ≡ beginning f xs → standing.Tells (datatypes_in xs) d → d ≡ standing.with_names standing.no_names (datatypes_in xs) → Comes (meanings d) xs s (Err e) t → res ≡ Err e → IsUnit f xs res
unit_stops {f = f} {xs = xs} e b tells is h q = subst (λ r. IsUnit f xs r) (sym q) (unit (told f xs e b tells is h))

-- a unit makes functions
pub unit_comes : {f : Files} {xs : List Item} {s : Scope} {d : Stated} (u : LoweredUnit) → s ≡ beginning f xs → standing.Tells (datatypes_in xs) d → d ≡ standing.with_names standing.no_names (datatypes_in xs) → Comes (meanings d) xs s (Ok (cores_shown u.cores.items)) u.scope → IsUnit f xs (Ok u)
unit_comes u b tells is h = unit (lowered b tells is h)

-- ---- the plain reading

pub plain_memory : {f : Files} {ys : List Item} {res : Result (Vec PlainFunction) RuleFault} → res ≡ Err faults.Memory → IsPlain f ys res
plain_memory {f = f} {ys = ys} q = subst (λ r. IsPlain f ys r) (sym q) (plain tt)

plain_told : (f : Files) (ys : List Item) {s t : Scope} (e : RuleFault) → s ≡ beginning f ys → Comes no_meanings ys s (Err e) t → Tells (λ x. WalksItems no_meanings ys (beginning f ys) (Err x)) e
plain_told f ys (faults.Refused x) b (functions.refused h) = subst (λ (u : Scope). WalksItems no_meanings ys u (Err x)) b h
plain_told f ys faults.Memory b h = tt

-- a plain reading is refused
pub plain_stops : {f : Files} {ys : List Item} {s t : Scope} {res : Result (Vec PlainFunction) RuleFault} (e : RuleFault) → s ≡ beginning f ys → Comes no_meanings ys s (Err e) t → res ≡ Err e → IsPlain f ys res
plain_stops {f = f} {ys = ys} e b h q = subst (λ r. IsPlain f ys r) (sym q) (plain (plain_told f ys e b h))

plain_lowered : {f : Files} {ys : List Item} {s t : Scope} {fs : List CoreTree} (ps : Vec PlainFunction) → s ≡ beginning f ys → Comes no_meanings ys s (Ok fs) t → plains_shown ps.items ≡ map erased_core fs → PlainItems ys (beginning f ys) (plains_shown ps.items)
plain_lowered {ys = ys} {t = t} {fs = fs} ps b (functions.lowered h) e = record { cores = fs; behind = t; lowers = subst (λ (u : Scope). Lowers no_meanings ys u fs t) b h; erased = e }

-- a plain reading makes functions
pub plain_comes : {f : Files} {ys : List Item} {s t : Scope} {fs : List CoreTree} (ps : Vec PlainFunction) → s ≡ beginning f ys → Comes no_meanings ys s (Ok fs) t → plains_shown ps.items ≡ map erased_core fs → IsPlain f ys (Ok ps)
plain_comes ps b h e = plain (plain_lowered ps b h e)

-- ---- the plain reading of an accepted unit

-- what is answered for items that are those of an accepted unit without its annotations
read : (f : Files) (ys : List Item) (d : Stated) (xs : List Item) (t : Scope) (fs : List CoreTree) → ys ≡ stripped_items xs → Lowers (meanings d) xs (beginning f xs) fs t → (q : Result (List CoreTree) RuleFault) (v : Scope) → Comes no_meanings ys (beginning f ys) q v → IsPlainAnswer fs q
read f ys d xs t fs same h q v k = plain_readings_are_erased f d xs t fs h q v (subst (λ (zs : List Item). Comes no_meanings zs (beginning f zs) q v) same k)

erased_answer : (f : Files) (ys : List Item) (d : Stated) (xs : List Item) (t : Scope) (fs : List CoreTree) (r : Result (Vec PlainFunction) RuleFault) → ys ≡ stripped_items xs → Lowers (meanings d) xs (beginning f xs) fs t → Answers (λ ps. PlainItems ys (beginning f ys) (plains_shown ps.items)) (λ x. WalksItems no_meanings ys (beginning f ys) (Err x)) r → IsErasedAnswer fs r
erased_answer f ys d xs t fs (Ok ps) same h a = a.erased ∙ sym (read f ys d xs t fs same h (Ok a.cores) a.behind (functions.lowered a.lowers))
erased_answer f ys d xs t fs (Err (faults.Refused x)) same h a = read f ys d xs t fs same h (Err (faults.Refused x)) t (functions.refused a)
erased_answer f ys d xs t fs (Err faults.Memory) same h a = tt

-- the functions of a plain reading are what is left of those of the unit
erasure : {f : Files} {ys : List Item} {r : Result (Vec PlainFunction) RuleFault} → IsPlain f ys r → IsErasure f ys r
erasure {f = f} {ys = ys} {r = r} p = record { erases = λ d xs t fs same h. erased_answer f ys d xs t fs r same h p.answers }

pub erasure_memory : {f : Files} {ys : List Item} {res : Result (Vec PlainFunction) RuleFault} → res ≡ Err faults.Memory → IsErasure f ys res
erasure_memory q = erasure (plain_memory q)

pub erasure_stops : {f : Files} {ys : List Item} {s t : Scope} {res : Result (Vec PlainFunction) RuleFault} (e : RuleFault) → s ≡ beginning f ys → Comes no_meanings ys s (Err e) t → res ≡ Err e → IsErasure f ys res
erasure_stops e b h q = erasure (plain_stops e b h q)

pub erasure_comes : {f : Files} {ys : List Item} {s t : Scope} {fs : List CoreTree} (ps : Vec PlainFunction) → s ≡ beginning f ys → Comes no_meanings ys s (Ok fs) t → plains_shown ps.items ≡ map erased_core fs → IsErasure f ys (Ok ps)
erasure_comes ps b h e = erasure (plain_comes ps b h e)
