-- What is found by identities in order is what a program has of an identity.
use Rattle.std.specs.Prelude.{unwrap_or}
use Rattle.std.proofs.Common.{◌≡◌, ℕ, ◌+◌, cond, Bool, true, false, ◌||◌, List, [], ◌∷◌, length, map, Option, Some, None, slice_get, option_map, option_and_then, is_none, refl, sym, ap, ◌∙◌, arith}
use Rattle.std.specs.List.{find, list_any, position, position_from, position_or_len}
use Rattle.std.specs.Str.{bytes_eq}
use Rattle.std.specs.Cmp.Lexicographic.{nat_list_eq_equiv}
use Rattle.std.proofs.lemmas.List.Folds.{find_at}
use Rattle.std.proofs.lemmas.Iterator.Adapters.{position_from-zero}
use Rattle.std.proofs.lemmas.Option.{slice_get-map, slice_get_past}
use Rattle.std.proofs.lemmas.List.{length-map}
use Rattle.std.proofs.lemmas.Bool.{ltb-false}
use Rattle.std.proofs.Math.Dec.{ltb}
use Rattle.vf_tree.specs.Core.{Identity, FunctionTree, StructTree}
use Rattle.vf_model.specs.Values.{same_identity}
use Rattle.vf_model.specs.Accesses.{field_count_in}
use Rattle.vf_names.specs.Names.{number_of}
use Rattle.vf_core.specs.Shown.{function_of, identity_of, struct_of}
use Rattle.vf_core.specs.declared.step.Function.{Function}
use Rattle.vf_core.specs.declared.step.StructBody.{StructBody}
use Rattle.vf_program.specs.Indexes.{function_identities, number_or_end, struct_identities}
use Rattle.vf_program.specs.Programs.{has_struct, number_of_main}

-- where two tests agree on each item, the first that passes has one number
same_position : {A B C : Type 0} (g : A → B) (h : A → C) (p : B → Bool) (q : C → Bool) → ((x : A) → p (g x) ≡ q (h x)) → (n : ℕ) (xs : List A) → position_from p n (map g xs) ≡ position_from q n (map h xs)
same_position g h p q same n [] = refl
same_position g h p q same n (x ∷ xs) = ap (λ b. cond b (Some n) (position_from p (n + 1) (map g xs))) (same x) ∙ ap (λ o. cond (q (h x)) (Some n) o) (same_position g h p q same (n + 1) xs)

-- the number of an identity among those of functions is that of the first function which has it
pub function_number : (names : List Identity) (fs : List Function) (g : Identity) → number_of (function_identities names fs) g ≡ position (λ (f : FunctionTree). same_identity f.identity g) (map (function_of names) fs)
function_number names fs g =
    same_position (λ (f : Function). identity_of names f.identity) (function_of names) (bytes_eq g) (λ (f : FunctionTree). same_identity f.identity g) (λ f. nat_list_eq_equiv.symm g (identity_of names f.identity)) 0 fs
    ∙ sym (position_from-zero (λ (f : FunctionTree). same_identity f.identity g) (map (function_of names) fs))

-- the same of structs
struct_from : (names : List Identity) (ss : List StructBody) (g : Identity) → number_of (struct_identities names ss) g ≡ position_from (λ (s : StructTree). same_identity s.identity g) 0 (map (struct_of names) ss)
struct_from names ss g = same_position (λ (s : StructBody). identity_of names s.identity) (struct_of names) (bytes_eq g) (λ (s : StructTree). same_identity s.identity g) (λ s. nat_list_eq_equiv.symm g (identity_of names s.identity)) 0 ss

struct_number : (names : List Identity) (ss : List StructBody) (g : Identity) → number_of (struct_identities names ss) g ≡ position (λ (s : StructTree). same_identity s.identity g) (map (struct_of names) ss)
struct_number names ss g = struct_from names ss g ∙ sym (position_from-zero (λ (s : StructTree). same_identity s.identity g) (map (struct_of names) ss))

-- what stands at the place where a first item passes
at_place : {A B : Type 0} (g : A → B) (xs : List A) (k n : ℕ) (b : Bool) → n ≡ length xs → ltb k n ≡ b → option_map g (slice_get xs k) ≡ option_map g (option_and_then (slice_get xs) (cond b (Some k) None))
at_place g xs k n true size e = refl
at_place g xs k n false size e = let past = ltb-false k n e in ap (option_map g) (slice_get_past xs k (omega (arith, past, size)))

-- the first struct that has an identity is that of its number
first_found : {A B : Type 0} (g : A → B) (p : B → Bool) (xs : List A) → find p (map g xs) ≡ option_map g (option_and_then (slice_get xs) (position p (map g xs)))
first_found g p xs =
    let k = position_or_len p (map g xs) in
    find_at p (map g xs) ∙ slice_get-map g xs k ∙ at_place g xs k (length (map g xs)) (ltb k (length (map g xs))) (length-map xs g) refl

-- how many fields the struct of an identity has is told by its number
pub fields_found : (names : List Identity) (ss : List StructBody) (g : Identity) → field_count_in (option_map (struct_of names) (option_and_then (slice_get ss) (number_of (struct_identities names ss) g))) ≡ field_count_in (find (λ (s : StructTree). same_identity s.identity g) (map (struct_of names) ss))
fields_found names ss g =
    ap (λ o. field_count_in (option_map (struct_of names) (option_and_then (slice_get ss) o))) (struct_number names ss g)
    ∙ sym (ap field_count_in (first_found (struct_of names) (λ (s : StructTree). same_identity s.identity g) ss))

-- ---- a struct of an identity is there exactly where it has a number

any_by : (b : Bool) (o : Option ℕ) (n : ℕ) (r : Bool) → (o ≡ None → r ≡ false) → cond b (Some n) o ≡ None → (b || r) ≡ false
any_by true o n r go h = absurd cc
any_by false o n r go h = go h

none_passes : {A : Type 0} (p : A → Bool) (n : ℕ) (xs : List A) → position_from p n xs ≡ None → list_any p xs ≡ false
none_passes p n [] h = refl
none_passes p n (x ∷ xs) h = any_by (p x) (position_from p (n + 1) xs) n (list_any p xs) (none_passes p (n + 1) xs) h

some_by : (b : Bool) (o : Option ℕ) (n k : ℕ) (r : Bool) → (o ≡ Some k → r ≡ true) → cond b (Some n) o ≡ Some k → (b || r) ≡ true
some_by true o n k r go h = refl
some_by false o n k r go h = go h

some_passes : {A : Type 0} (p : A → Bool) (n k : ℕ) (xs : List A) → position_from p n xs ≡ Some k → list_any p xs ≡ true
some_passes p n k [] h = absurd cc
some_passes p n k (x ∷ xs) h = some_by (p x) (position_from p (n + 1) xs) n k (list_any p xs) (some_passes p (n + 1) k xs) h

-- no struct has an identity that has no number
pub struct_new : (names : List Identity) (ss : List StructBody) (g : Identity) → number_of (struct_identities names ss) g ≡ None → has_struct (map (struct_of names) ss) g ≡ false
struct_new names ss g h = none_passes (λ (s : StructTree). same_identity s.identity g) 0 (map (struct_of names) ss) (sym (struct_from names ss g) ∙ h)

-- one has an identity that has a number
pub struct_known : (names : List Identity) (ss : List StructBody) (g : Identity) (k : ℕ) → number_of (struct_identities names ss) g ≡ Some k → has_struct (map (struct_of names) ss) g ≡ true
struct_known names ss g k h = some_passes (λ (s : StructTree). same_identity s.identity g) 0 k (map (struct_of names) ss) (sym (struct_from names ss g) ∙ h)

-- one is there where a number was found
pub struct_there : (names : List Identity) (ss : List StructBody) (g : Identity) (o : Option ℕ) → o ≡ number_of (struct_identities names ss) g → is_none o ≡ false → has_struct (map (struct_of names) ss) g ≡ true
struct_there names ss g None e h = absurd cc
struct_there names ss g (Some k) e h = struct_known names ss g k (sym e)

-- the function that a program begins with is found among the identities of functions
pub main_found : (names : List Identity) (fs : List Function) (g : Identity) → number_or_end (function_identities names fs) g ≡ number_of_main (map (function_of names) fs) g
main_found names fs g =
    ap (λ o. unwrap_or o (length (function_identities names fs))) (function_number names fs g)
    ∙ ap (unwrap_or (position (λ (f : FunctionTree). same_identity f.identity g) (map (function_of names) fs))) (length-map fs (λ (f : Function). identity_of names f.identity) ∙ sym (length-map fs (function_of names)))
