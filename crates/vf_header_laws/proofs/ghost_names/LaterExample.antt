-- The units of the examples of predicates that stand later.
use Rattle.std.proofs.Common.{◌≡◌, refl, sym, subst, ap, ℕ, Bool, true, false, cond, List, [], ◌∷◌, codes, Some, None, Ok, Err}
use Rattle.std.specs.Str.{bytes_eq}
use Rattle.vf_base.specs.declared.refusal.Refusal.{Refusal}
use Rattle.vf_names.specs.Names.{number_of}
use Rattle.vf_sorts.specs.declared.sort.Head.{Head}
use Rattle.vf_sorts.specs.declared.sort.Head.TheVariants as heads
use Rattle.vf_sorts.specs.Sorts.{Sort, sort}
use Rattle.vf_declared.specs.declared.declaration.Meaning.TheVariants as meaning
use Rattle.vf_declared.specs.declared.scope.Scope.{Scope}
use Rattle.vf_syntax.specs.declared.item.Item.{Item}
use Rattle.vf_sorting.specs.Kinds.{datatype_sort, value_sort}
use Rattle.vf_gathering.specs.Ahead as ahead
use Rattle.vf_gathering.proofs.Sorting.{predicates_told}
use Rattle.vf_annotations.specs.Forms.{meanings}
use Rattle.vf_predicates.specs.Predicates as predicates
use Rattle.vf_walk.specs.Items.{WalksItems}
use Rattle.vf_walk.specs.Walking.{Walked}
use Rattle.vf_walk.specs.Walking as walking
use Rattle.vf_header_laws.specs.c_names.Same.{Both, both, next}
use Rattle.vf_header_laws.specs.c_names.Units.{IsHeaderOfBoth}
use Rattle.vf_header_laws.proofs.c_names.Lists.{is_name, none_some, some_same}
use Rattle.vf_header_laws.specs.ghost_names.Example.{first_stated, second_stated}
use Rattle.vf_header_laws.specs.ghost_names.Later.{KnowsPredicates}
use Rattle.vf_header_laws.specs.ghost_names.LaterExample.{coloured, coloured_stated, colourless, first_front, first_items, foretold_in, OneLaterPredicateOfTwoUnits, RefusedUnitsForeseeOtherSorts, second_front, second_items}
use Rattle.vf_header_laws.specs.ghost_names.LaterSorts.{AreDeclaredAsTold, ForeseeTheSameSorts, IsDeclaredAsTold}
use Rattle.vf_header_laws.specs.ghost_names.Same.{AreOneHead, AreOneSort, AreOneSorts, over}
use Rattle.vf_header_laws.specs.ghost_names.Same as same
use Rattle.vf_header_laws.specs.ghost_names.Units.{inside, none, outside_first}
use Rattle.vf_header_laws.proofs.ghost_names.Example.{behind_colour, behind_holds, behind_values, both_headers, named_holds, same_inside}
use Rattle.vf_header_laws.proofs.ghost_names.LaterSorts.{sorts_are_foreseen}

-- ---- which headers there are does not hang on what is told
fronts : (xs ys : List Item) → IsHeaderOfBoth 1 (first_front xs) (second_front ys)
fronts xs ys = record {
  files = both_headers.files;
  first = record { headers = both_headers.first.headers; within = both_headers.first.within };
  second = record { headers = both_headers.second.headers; within = both_headers.second.within };
}

known_first : (xs : List Item) → KnowsPredicates xs (first_front xs)
known_first xs = predicates_told (ahead.with_items ahead.nothing xs) xs (foretold_in xs) refl

known_second : (xs : List Item) → KnowsPredicates xs (second_front xs)
known_second xs = predicates_told (ahead.with_items ahead.nothing xs) xs (foretold_in xs) refl

-- ---- two units that are accepted
abbrev first_colour : Scope
first_colour = behind_colour first_stated (first_front first_items)

abbrev first_values : Scope
first_values = behind_values first_stated first_colour

abbrev first_end : Scope
first_end = behind_holds first_values

abbrev second_values : Scope
second_values = behind_values second_stated (second_front second_items)

abbrev second_end : Scope
second_end = behind_holds second_values

first_walk : WalksItems (meanings first_stated) first_items (first_front first_items) (Ok first_end)
first_walk = walking.goes {a = first_colour} (record { is = refl }) (walking.goes {a = first_values} (record { is = refl }) (walking.goes {a = first_end} (walking.goes {a = named_holds first_values} (predicates.new refl refl) (record { is = refl })) (record { is = refl })))

second_walk : WalksItems (meanings second_stated) second_items (second_front second_items) (Ok second_end)
second_walk = walking.goes {a = second_values} (record { is = refl }) (walking.goes {a = second_end} (walking.goes {a = named_holds second_values} (predicates.new refl refl) (record { is = refl })) (record { is = refl }))

-- a name that has a number is `holds`
only_name : {A : Type 0} (x : List ℕ) (k : ℕ) → number_of (codes "holds" ∷ []) x ≡ Some k → ((e : x ≡ codes "holds") → 0 ≡ k → A) → A
only_name {A} x k e f = by_test (bytes_eq x (codes "holds")) refl e
  where
    by_test : (b : Bool) → bytes_eq x (codes "holds") ≡ b → cond b (Some 0) None ≡ Some k → A
    by_test true i g = f (is_name x (codes "holds") i) (some_same g)
    by_test false i g = none_some g

first_declared : AreDeclaredAsTold (first_front first_items) first_end
first_declared x k e = only_name x k e (λ i j. subst (λ x. IsDeclaredAsTold (first_front first_items) first_end x k) (sym i) (subst (IsDeclaredAsTold (first_front first_items) first_end (codes "holds")) j (record {
  sorts = datatype_sort 1 0 ∷ [];
  told = refl;
  declaration = record { meaning = meaning.Ghost 5; files = 1 ∷ [] };
  number = 5;
  found = refl;
  means = refl;
  is = refl;
})))

second_declared : AreDeclaredAsTold (second_front second_items) second_end
second_declared x k e = only_name x k e (λ i j. subst (λ x. IsDeclaredAsTold (second_front second_items) second_end x k) (sym i) (subst (IsDeclaredAsTold (second_front second_items) second_end (codes "holds")) j (record {
  sorts = datatype_sort 0 0 ∷ [];
  told = refl;
  declaration = record { meaning = meaning.Ghost 3; files = 1 ∷ [] };
  number = 3;
  found = refl;
  means = refl;
  is = refl;
})))

foresees : ForeseeTheSameSorts 1 (first_front first_items) (second_front second_items) first_end second_end
foresees = sorts_are_foreseen 1 first_stated second_stated first_items second_items (first_front first_items) (second_front second_items) first_end second_end
    (record { names = refl; declarations = refl; tags = refl; structures = refl; locals = refl })
    (record { names = refl; declarations = refl; tags = refl; structures = refl; locals = refl })
    (fronts first_items second_items) (known_first first_items) (known_second second_items) first_declared second_declared same_inside first_walk second_walk

both_some : {u v : Scope} {ts us : List Sort} → Both (AreOneSorts 1 u v) (Some ts) (Some us) → AreOneSorts 1 u v ts us
both_some (both r) = r

pub one_later_predicate_of_two_units : OneLaterPredicateOfTwoUnits
one_later_predicate_of_two_units = record {
  first = first_end;
  second = second_end;
  first_walk = first_walk;
  second_walk = second_walk;
  first_later = refl;
  second_later = refl;
  foresees = foresees;
  are_one = both_some (foresees.sorts 1 (codes "holds") refl);
}

-- ---- two units that are not both accepted
-- what a walk was refused for
refusal_in : Refusal → Walked → Refusal
refusal_in x (Ok s) = x
refusal_in x (Err y) = y

abbrev head_of : Sort → Head
head_of (sort h ts) = h

-- a datatype is not any value
heads_apart : {u v : Scope} {h g : Head} → AreOneHead 1 u v h g → h ≡ heads.Datatype 0 → g ≡ heads.Any → ⊥
heads_apart (same.datatype r) e f = absurd cc
heads_apart same.int e f = absurd cc
heads_apart same.bool e f = absurd cc
heads_apart same.pointer e f = absurd cc
heads_apart (same.struct_pointer r) e f = absurd cc
heads_apart same.real e f = absurd cc
heads_apart same.any e f = absurd cc
heads_apart same.parameter e f = absurd cc
heads_apart same.predicate e f = absurd cc

apart : {u v : Scope} {t₁ t₂ : Sort} → AreOneSort 1 u v t₁ t₂ → t₁ ≡ datatype_sort 0 0 → t₂ ≡ value_sort → ⊥
apart (over h rs) e f = heads_apart h (ap head_of e) (ap head_of f)

pub refused_units_foresee_other_sorts : RefusedUnitsForeseeOtherSorts
refused_units_foresee_other_sorts = record {
  header = fronts coloured colourless;
  first_known = known_first coloured;
  second_known = known_second colourless;
  inside = outside_first refl (inside refl none);
  refusal = _;
  refused = walking.goes {a = behind_colour coloured_stated (first_front coloured)} (record { is = refl }) (walking.stops (walking.stops (predicates.new refl refl)));
  first_told = refl;
  second_told = refl;
  differ = λ u v h. by_both (h.sorts 1 (codes "paints") refl);
}
  where
    by_both : {u v : Scope} → Both (AreOneSorts 1 u v) (Some (datatype_sort 0 0 ∷ [])) (Some (value_sort ∷ [])) → ⊥
    by_both (both (next r rs)) = apart r refl refl
