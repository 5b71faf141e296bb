-- The two units of the example.
use Rattle.std.proofs.Common.{◌≡◌, ℕ, Bool, true, false, ◌||◌, nat_eq, [], ◌∷◌, codes, Ok, slice_get, refl, sym, subst}
use Rattle.std.proofs.lemmas.Bool.{eqb-true, false≢true}
use Rattle.vf_declared.specs.declared.ctype.CType.TheVariants as types
use Rattle.vf_declared.specs.declared.scope.Scope.{Scope}
use Rattle.vf_declared.specs.Writing.{with_fields, with_struct}
use Rattle.vf_walk.specs.Items.{WalksItems}
use Rattle.vf_walk.specs.Meanings.{no_meanings}
use Rattle.vf_walk.specs.Walking as walking
use Rattle.vf_header_laws.specs.c_names.Example.{first_beginning, node, OneHeaderOfTwoUnits, own, second_beginning}
use Rattle.vf_header_laws.specs.c_names.Items.{HaveTheSameInside, inside, none, outside_first}
use Rattle.vf_header_laws.specs.c_names.Parts.{is_part_of}
use Rattle.vf_header_laws.specs.c_names.Same.{ConsistsOfHeaders}
use Rattle.vf_header_laws.specs.c_names.Units.{IsHeaderOfBoth}
use Rattle.vf_header_laws.proofs.c_names.Units.{units_show_the_same}

abbrev first_then : Scope
first_then = with_struct first_beginning (codes "own") 0 true

abbrev first_end : Scope
first_end = with_fields (with_struct first_then (codes "node") 1 false) 1 (record { file = 1; names = codes "next" ∷ []; types = types.StructPointer 1 ∷ [] })

abbrev second_end : Scope
second_end = with_fields (with_struct second_beginning (codes "node") 1 false) 0 (record { file = 1; names = codes "next" ∷ []; types = types.StructPointer 0 ∷ [] })

first_walk : WalksItems no_meanings (own ∷ node ∷ []) first_beginning (Ok first_end)
first_walk = walking.goes {a = first_then} (record { is = refl }) (walking.goes {a = first_end} (record { is = refl }) (record { is = refl }))

second_walk : WalksItems no_meanings (node ∷ []) second_beginning (Ok second_end)
second_walk = walking.goes {a = second_end} (record { is = refl }) (record { is = refl })

-- the header consists of itself
or_none : (b : Bool) → (b || (b || false)) ≡ true → b ≡ true
or_none true h = refl
or_none false h = absurd (false≢true h)

first_part : (file : ℕ) → is_part_of first_beginning 1 file ≡ true → 1 ≡ file
first_part file h = eqb-true 1 file (or_none (nat_eq 1 file) h)

second_part : (file : ℕ) → is_part_of second_beginning 1 file ≡ true → 1 ≡ file
second_part file h = eqb-true 1 file (or_none (nat_eq 1 file) h)

first_headers : ConsistsOfHeaders first_beginning 1
first_headers = record {
  headers = λ file p. subst (λ f. nat_eq f 0 ≡ false) (first_part file p) refl;
  within = λ file p inner q. subst (λ f. is_part_of first_beginning f inner ≡ true) (sym (first_part file p)) q;
}

second_headers : ConsistsOfHeaders second_beginning 1
second_headers = record {
  headers = λ file p. subst (λ f. nat_eq f 2 ≡ false) (second_part file p) refl;
  within = λ file p inner q. subst (λ f. is_part_of second_beginning f inner ≡ true) (sym (second_part file p)) q;
}

both_headers : IsHeaderOfBoth 1 first_beginning second_beginning
both_headers = record {
  files = λ file p. subst (λ f. slice_get first_beginning.headers f ≡ slice_get second_beginning.headers f) (first_part file p) refl;
  first = first_headers;
  second = second_headers;
}

same_inside : HaveTheSameInside (is_part_of first_beginning 1) (own ∷ node ∷ []) (node ∷ [])
same_inside = outside_first refl (inside refl none)

pub one_header_of_two_units : OneHeaderOfTwoUnits
one_header_of_two_units = record {
  first = first_end;
  second = second_end;
  first_walk = first_walk;
  second_walk = second_walk;
  first_number = refl;
  second_number = refl;
  first_field = refl;
  second_field = refl;
  shows = units_show_the_same 1 (own ∷ node ∷ []) (node ∷ []) first_beginning second_beginning first_end second_end
      (record { names = refl; declarations = refl; tags = refl; structures = refl; locals = refl })
      (record { names = refl; declarations = refl; tags = refl; structures = refl; locals = refl })
      both_headers same_inside first_walk second_walk;
}
