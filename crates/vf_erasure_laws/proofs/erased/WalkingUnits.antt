-- The walk over a whole unit without its annotations.
use Rattle.std.proofs.Common.{◌≡◌, List, [], ◌∷◌, Ok, refl, sym, ap, subst}
use Rattle.vf_declared.specs.declared.scope.Scope.{Scope}
use Rattle.vf_syntax.specs.declared.item.Item.{Item}
use Rattle.vf_syntax.specs.declared.item.Item.TheVariants as items
use Rattle.vf_walk.specs.Items.{WalksItems}
use Rattle.vf_walk.specs.Meanings.{no_meanings}
use Rattle.vf_gathering.specs.declared.ahead.Ahead.{Ahead}
use Rattle.vf_gathering.specs.declared.foretold.Foretold.{Foretold}
use Rattle.vf_gathering.specs.Foretold.{none_foretold, with_items}
use Rattle.vf_resolve.specs.declared.files.Files.{Files}
use Rattle.vf_resolve.specs.Beginning.{ahead_of, beginning}
use Rattle.vf_erasure_laws.specs.seen.Seen.{real_locals, seen}
use Rattle.vf_erasure_laws.specs.plain.Stripped.{stripped_items}
use Rattle.vf_erasure_laws.specs.erased.WalkedUnits.{UnitsAreSeen}
use Rattle.vf_erasure_laws.specs.erased.Walks.{IsSettled}
use Rattle.vf_erasure_laws.proofs.erased.WalkingContracts.{settled_empty}
use Rattle.vf_erasure_laws.proofs.erased.WalkingItems.{annotated_walks_are_seen}

-- without annotations no predicates are told
none_told : (w : Ahead) (t : Foretold) (xs : List Item) → with_items w t (stripped_items xs) ≡ t
none_told w t [] = refl
none_told w t (items.Opaque p n ∷ xs) = none_told w t xs
none_told w t (items.Struct p n fs ∷ xs) = none_told w t xs
none_told w t (items.FunctionType p g c ∷ xs) = none_told w t xs
none_told w t (items.Prototype g k c ∷ xs) = none_told w t xs
none_told w t (items.Function g k c b ∷ xs) = none_told w t xs
none_told w t (items.Ghost g ∷ xs) = none_told w t xs

-- the beginning of a unit of which some predicates are told
abbrev telling : Files → List Item → Foretold → Scope
telling f xs t = record (beginning f xs) { predicates = t.stated.names; predicate_files = t.stated.files; predicate_sorts = t.sorts }

-- in front of all items C text sees what is declared there without annotations
pub beginning_seen : (f : Files) (xs : List Item) → seen (beginning f xs) ≡ beginning f (stripped_items xs)
unfolding seen real_locals
beginning_seen f xs = ap (telling f xs) (sym (none_told (ahead_of (stripped_items xs)) none_foretold xs))

pub beginning_settled : (f : Files) (xs : List Item) → IsSettled (beginning f xs)
beginning_settled f xs = settled_empty (beginning f xs) refl refl refl refl refl

-- a whole unit
pub units_are_seen : UnitsAreSeen
units_are_seen f xs t h =
    subst (λ (s : Scope). WalksItems no_meanings (stripped_items xs) s (Ok (seen t))) (beginning_seen f xs)
    (annotated_walks_are_seen h.stated xs (beginning f xs) t (beginning_settled f xs) h.walks).1
