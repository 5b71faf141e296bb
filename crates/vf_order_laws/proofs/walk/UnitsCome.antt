-- Units come to what the functions come to, and to nothing else; so do their phases.
use Rattle.std.proofs.Common.{◌≡◌, refl, sym, ◌∙◌, ap, subst, List, Option, Some, None, Ok, Err}
use Rattle.vf_base.specs.declared.place.Place.{Place}
use Rattle.vf_base.specs.declared.refusal.Refusal.{Refusal}
use Rattle.vf_base.specs.declared.rule.Rule.{Rule}
use Rattle.vf_base.specs.declared.rule.Rule.TheVariants as rules
use Rattle.vf_declared.specs.declared.scope.Scope.{Scope}
use Rattle.vf_syntax.specs.declared.item.Item.{Item}
use Rattle.vf_sorting.specs.Refusals.{refused}
use Rattle.vf_datatypes.specs.declared.stated.Stated.{Stated}
use Rattle.vf_walk.specs.Items.{WalksItems}
use Rattle.vf_walk.specs.Walking.{Walked}
use Rattle.vf_commands.specs.Comes.{around_statements}
use Rattle.vf_annotations.specs.Forms.{meanings}
use Rattle.vf_gathering.specs.Named.{datatypes_in}
use Rattle.vf_gathering.specs.Standing.{no_names, with_names}
use Rattle.vf_gathering.proofs.Tables.{all_told}
use Rattle.vf_order.specs.Statements.{first_unordered}
use Rattle.vf_recursion.specs.Faults.{first_fault}
use Rattle.vf_resolve.specs.declared.files.Files.{Files}
use Rattle.vf_resolve.specs.Beginning.{beginning}
use Rattle.vf_resolve.specs.Units.{ItemsCome}
use Rattle.vf_phases.specs.Phases.{IsRefusedAt, IsRefusedInPhases, PassesPhases}
use Rattle.vf_phases.specs.Phases as phases
use Rattle.vf_order_laws.specs.walk.Following.{after, unless_refused}
use Rattle.vf_order_laws.specs.walk.Units.{first_refusal, phase, phased, refusal_in, refused_where, unit_of}
use Rattle.vf_order_laws.specs.walk.Walks.{walks_of}
use Rattle.vf_order_laws.specs.walk.Agreeing.{AnnotationsAreWalked}
use Rattle.vf_order_laws.proofs.walk.ContractsCome.{command_alone_found, command_comes, invariant_comes, invariant_found}
use Rattle.vf_order_laws.proofs.walk.FormsCome.{form_walked}
use Rattle.vf_order_laws.proofs.walk.ItemsCome.{items_come, items_found}
use Rattle.vf_order_laws.proofs.walk.LemmasCome.{contract_walked}
use Rattle.vf_order_laws.proofs.walk.Results.{goes, refused_so, stops, unrefused}

-- the functions of annotations find just what these mean, by whichever datatypes
pub annotations_are_walked : (d : Stated) → AnnotationsAreWalked (meanings d) (walks_of d)
annotations_are_walked d = record {
  contract = λ o c s. contract_walked _ _ c s;
  invariant = λ file i s. record { comes = λ w h. invariant_comes h; found = invariant_found i s };
  command = λ c s. record { comes = λ w h. command_comes h; found = command_alone_found around_statements c s };
  item = λ i s. form_walked d i.form s;
  takes = refl;
}

-- ---- units
-- where a unit comes to something the function finds that
pub unit_comes : {xs : List Item} {s : Scope} {w : Walked} → ItemsCome xs s w → unit_of xs s ≡ w
unit_comes {xs = xs} {s = s} {w = w} h = items_come (annotations_are_walked (with_names no_names (datatypes_in xs))) xs s (subst (λ (d : Stated). WalksItems (meanings d) xs s w) h.is h.walks)

-- and a unit comes to what the function finds
pub unit_found : (xs : List Item) (s : Scope) → ItemsCome xs s (unit_of xs s)
unit_found xs s = record { stated = with_names no_names (datatypes_in xs); tells = all_told (datatypes_in xs) refl; is = refl; walks = items_found (annotations_are_walked (with_names no_names (datatypes_in xs))) xs s }

-- ---- phases
-- a phase that refuses no place
phase_passes : (k : Rule) {o : Option Place} (s : Scope) → o ≡ None → phase k o s ≡ Ok s
phase_passes k s e = unrefused {a = s} (ap (refused_where k) e)

-- a phase that refuses one
phase_stops : {k : Rule} {o : Option Place} (s : Scope) {r : Refusal} → IsRefusedAt k o r → phase k o s ≡ Err r
phase_stops {k = k} {o = o} s {r = r} h = refused_so s (ap (refused_where k) h.place ∙ ap Some same)
  where
    same : refused k r.place ≡ r
    same = λ i. record { rule = sym h.rule i; place = r.place; shown = sym h.shown i }

refused_here : (k : Rule) (p : Place) → IsRefusedAt k (Some p) (refused k p)
refused_here k p = record { rule = refl; place = refl; shown = refl }

pub passes_come : {f : Files} {xs : List Item} {s : Scope} → PassesPhases f xs s → phased f xs ≡ Ok s
passes_come h = goes _ (goes _ (unit_comes h.declares) (phase_passes _ _ h.fixpoints)) (phase_passes _ _ h.ordered)

pub refusals_come : {f : Files} {xs : List Item} {r : Refusal} → IsRefusedInPhases f xs r → phased f xs ≡ Err r
refusals_come (phases.in_names h) = stops _ (stops _ (unit_comes h))
refusals_come (phases.in_fixpoints d h) = stops _ (goes _ (unit_comes d) (phase_stops _ h))
refusals_come (phases.in_order d n h) = goes _ (goes _ (unit_comes d) (phase_passes _ _ n)) (phase_stops _ h)

-- what phases come to: what is declared where they are passed, or the refusal
abbrev pub ComeThrough : Files → List Item → Walked → Type 0
ComeThrough f xs (Ok s) = PassesPhases f xs s
ComeThrough f xs (Err r) = IsRefusedInPhases f xs r

pub phases_found : (f : Files) (xs : List Item) → ComeThrough f xs (phased f xs)
unfolding after unless_refused
phases_found f xs = in_names (unit_of xs (beginning f xs)) (unit_found xs (beginning f xs))
  where
    in_order : (s : Scope) (o : Option Place) → ItemsCome xs (beginning f xs) (Ok s) → first_fault xs ≡ None → first_unordered xs ≡ o → ComeThrough f xs (phase rules.Order o s)
    in_order s None d n e = record { declares = d; fixpoints = n; ordered = e }
    in_order s (Some p) d n e = phases.in_order d n (subst (λ (o : Option Place). IsRefusedAt rules.Order o (refused rules.Order p)) (sym e) (refused_here rules.Order p))

    in_fixpoints : (s : Scope) (o : Option Place) → ItemsCome xs (beginning f xs) (Ok s) → first_fault xs ≡ o → ComeThrough f xs (after (phase rules.Order (first_unordered xs)) (phase rules.Fixpoint o s))
    in_fixpoints s None d e = in_order s (first_unordered xs) d e refl
    in_fixpoints s (Some p) d e = phases.in_fixpoints d (subst (λ (o : Option Place). IsRefusedAt rules.Fixpoint o (refused rules.Fixpoint p)) (sym e) (refused_here rules.Fixpoint p))

    in_names : (w : Walked) → ItemsCome xs (beginning f xs) w → ComeThrough f xs (after (phase rules.Order (first_unordered xs)) (after (phase rules.Fixpoint (first_fault xs)) w))
    in_names (Ok s) h = in_fixpoints s (first_fault xs) h refl
    in_names (Err r) h = phases.in_names h

-- a unit passes its phases where the function gives what it declares
pub passes_found : {f : Files} {xs : List Item} {s : Scope} → phased f xs ≡ Ok s → PassesPhases f xs s
passes_found {f = f} {xs = xs} e = subst (ComeThrough f xs) e (phases_found f xs)

-- and is refused where the function gives the refusal
pub refusals_found : {f : Files} {xs : List Item} {r : Refusal} → phased f xs ≡ Err r → IsRefusedInPhases f xs r
refusals_found {f = f} {xs = xs} e = subst (ComeThrough f xs) e (phases_found f xs)

-- ---- the first refusal
-- a unit is refused by its first refusal
pub first_comes : {f : Files} {xs : List Item} {r : Refusal} → IsRefusedInPhases f xs r → first_refusal f xs ≡ Some r
first_comes h = ap refusal_in (refusals_come h)

pub first_found : {f : Files} {xs : List Item} {r : Refusal} → first_refusal f xs ≡ Some r → IsRefusedInPhases f xs r
first_found {f = f} {xs = xs} {r = r} e = by (phased f xs) (phases_found f xs) e
  where
    by : (w : Walked) → ComeThrough f xs w → refusal_in w ≡ Some r → IsRefusedInPhases f xs r
    by (Ok s) h e = absurd cc
    by (Err q) h e = let same : q ≡ r = cc in subst (IsRefusedInPhases f xs) same h

-- a unit that passes has none
pub none_comes : {f : Files} {xs : List Item} {s : Scope} → PassesPhases f xs s → first_refusal f xs ≡ None
none_comes h = ap refusal_in (passes_come h)

-- and where there is none it passes
pub none_found : {f : Files} {xs : List Item} → first_refusal f xs ≡ None → (s : Scope) × PassesPhases f xs s
none_found {f = f} {xs = xs} e = by (phased f xs) (phases_found f xs) e
  where
    by : (w : Walked) → ComeThrough f xs w → refusal_in w ≡ None → (s : Scope) × PassesPhases f xs s
    by (Ok s) h e = (s, h)
    by (Err q) h e = absurd cc
