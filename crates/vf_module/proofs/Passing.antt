-- Items that went through the phases.
use Rattle.std.proofs.Common.{◌≡◌, ◌∙◌, inl, inr, refl, List, map, None, Some, Option, Result, Ok, Err, IfOk, sym, ap, subst}
use Rattle.vf_base.specs.declared.memory.Memory.{Memory}
use Rattle.vf_base.specs.declared.place.Place.{Place}
use Rattle.vf_base.specs.declared.refusal.Refusal.{Refusal}
use Rattle.vf_base.specs.declared.refusal.RuleFault.{RuleFault}
use Rattle.vf_base.specs.declared.refusal.RuleFault.TheVariants as faults
use Rattle.vf_base.specs.declared.rule.Rule.TheVariants as rules
use Rattle.vf_snapshot.specs.Holdings.{Holdings}
use Rattle.vf_preproc.specs.UnitText.{Text_of_unit}
use Rattle.vf_declared.specs.declared.scope.Scope.{Scope}
use Rattle.vf_syntax.specs.declared.item.Item.{Item}
use Rattle.vf_sorting.specs.Answers.{Answers, Tells}
use Rattle.vf_fixpoint.specs.Answers.{IsFaultOf}
use Rattle.vf_resolve.specs.declared.files.Files.{Files}
use Rattle.vf_resolve.specs.Beginning.{beginning}
use Rattle.vf_resolve.specs.Units.{ItemsCome}
use Rattle.vf_recursion.specs.Faults.{first_fault}
use Rattle.vf_order.specs.Statements.{first_unordered}
use Rattle.vf_phases.specs.Phases.{Declares, IsRefusedAt, IsRefusedInPhases, in_names, in_fixpoints, in_order}
use Rattle.vf_walk.specs.Items.{WalksItem, WalksItems}
use Rattle.vf_walk.specs.Meanings.{Meanings}
use Rattle.vf_walk.specs.Walking as walking
use Rattle.vf_functions.specs.Definitions.{CoreTree}
use Rattle.vf_functions.specs.Erased.{PlainTree, erased_core}
use Rattle.vf_functions.specs.Units.{Lowers}
use Rattle.vf_functions.specs.Units as functions
use Rattle.vf_lowering.specs.declared.units.LoweredUnit.{LoweredUnit}
use Rattle.vf_lowering.specs.Units.{IsUnit, ItemsLower}
use Rattle.vf_cores.specs.Shown.{cores_shown}
use Rattle.vf_plain.specs.Identities.{paths_of}
use Rattle.vf_program.specs.Units.{unit_of}
use Rattle.vf_plain.specs.Units.{unit_tree}
use Rattle.vf_program.specs.declared.unit.PlainUnit.{PlainUnit}
use Rattle.vf_manifest.specs.declared.line.Line.{Line}
use Rattle.vf_promises.specs.Lines.{lines_of}
use Rattle.vf_module.specs.declared.items.ReadUnit.{ReadUnit}
use Rattle.vf_module.specs.Readings.{AreRead, ItemsPass, PassesLater, files_by, read_of}

-- an answer that is a fault
answered : {held : Holdings} {unit : Text_of_unit} {xs : List Item} {res : Result ReadUnit RuleFault} (e : RuleFault) → res ≡ Err e → Tells (IsRefusedInPhases (files_by held unit) xs) e → AreRead held unit xs res
answered {held = held} {unit = unit} {xs = xs} e q t = record { answers = subst (Answers (λ p. ItemsPass held unit xs (read_of p)) (IsRefusedInPhases (files_by held unit) xs)) (sym q) t }

pub memory : {held : Holdings} {unit : Text_of_unit} {xs : List Item} {res : Result ReadUnit RuleFault} → res ≡ Err faults.Memory → AreRead held unit xs res
memory q = answered faults.Memory q tt

-- items that make functions are accepted
lowers_walk : {m : Meanings} {xs : List Item} {s t : Scope} {fs : List CoreTree} → Lowers m xs s fs t → WalksItems m xs s (Ok t)
lowers_walk functions.none = record { is = refl }
lowers_walk (functions.more h k) = walking.goes h (lowers_walk k)

-- items that make functions declare what is declared behind them
declared : {f : Files} {xs : List Item} {t : Scope} {fs : List CoreTree} → ItemsLower xs (beginning f xs) fs t → Declares f xs t
declared h = record { stated = h.stated; tells = h.tells; is = h.is; walks = lowers_walk h.lowers }

-- what lowering says of an answer
lowered : {f g : Files} {xs : List Item} {res a : Result LoweredUnit RuleFault} → g ≡ f → res ≡ a → IsUnit g xs res → IsUnit f xs a
lowered {g = g} {xs = xs} {a = a} same q h = subst (λ (k : Files). IsUnit k xs a) same (subst (IsUnit g xs) q h)

-- names refuse it
pub by_names : {held : Holdings} {unit : Text_of_unit} {g : Files} {xs : List Item} {first : Result LoweredUnit RuleFault} {res : Result ReadUnit RuleFault} (e : RuleFault) → g ≡ files_by held unit → IsUnit g xs first → first ≡ Err e → res ≡ Err e → AreRead held unit xs res
by_names {held = held} {unit = unit} {xs = xs} e same h q r = answered e r (told e (lowered same q h))
  where
    told : (e : RuleFault) → IsUnit (files_by held unit) xs (Err e) → Tells (IsRefusedInPhases (files_by held unit) xs) e
    told (faults.Refused x) k = in_names k.answers
    told faults.Memory k = tt

-- a fixpoint that refuses items, as it is answered
pub fixpoint_stops : (xs : List Item) (e : RuleFault) → IsFaultOf (first_fault xs) e → PassesLater xs (Err e)
fixpoint_stops xs (faults.Refused x) (rule, place, shown) = inl (record { rule = rule; place = place; shown = shown })
fixpoint_stops xs faults.Memory k = tt

-- a later phase refuses it
pub by_later : {held : Holdings} {unit : Text_of_unit} {g : Files} {xs : List Item} {first : Result LoweredUnit RuleFault} {res : Result ReadUnit RuleFault} {u : LoweredUnit} (e : RuleFault) → g ≡ files_by held unit → IsUnit g xs first → first ≡ Ok u → PassesLater xs (Err e) → res ≡ Err e → AreRead held unit xs res
by_later {held = held} {unit = unit} {xs = xs} {u = u} e same h q later r = answered e r (told e later)
  where
    told : (e : RuleFault) → PassesLater xs (Err e) → Tells (IsRefusedInPhases (files_by held unit) xs) e
    told (faults.Refused x) (inl fault) = in_fixpoints {s = u.scope} (declared (lowered same q h).answers) fault
    told (faults.Refused x) (inr (none, fault)) = in_order {s = u.scope} (declared (lowered same q h).answers) none fault
    told faults.Memory k = tt

-- it passes
pub passes : {held : Holdings} {unit : Text_of_unit} {g : Files} {xs : List Item} {first : Result LoweredUnit RuleFault} {u : LoweredUnit} {r : ReadUnit} → g ≡ files_by held unit → IsUnit g xs first → first ≡ Ok u → first_fault xs ≡ None → first_unordered xs ≡ None → unit_of r.plain ≡ unit_tree (paths_of held) u.scope (map erased_core (cores_shown u.cores.items)) → r.manifest ≡ lines_of held u.scope unit.headers xs → AreRead held unit xs (Ok r)
passes {u = u} same h q none ordered is told = record {
  answers = record {
    scope = u.scope;
    cores = cores_shown u.cores.items;
    lower = (lowered same q h).answers;
    fixpoints = none;
    ordered = ordered;
    plain = is;
    manifest = told;
  };
}
