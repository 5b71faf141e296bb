-- What C text sees of names of file level that are declared, once or again.
use Rattle.std.proofs.Common.{◌≡◌, ℕ, Bool, true, false, not, ◌&&◌, if◌then◌else◌, List, [], ◌∷◌, ◌++◌, length, filter, is_some, Option, Some, None, Result, Ok, Err, slice_get, refl, sym, ap, subst, ◌∙◌}
use Rattle.std.proofs.lemmas.List.{map-append}
use Rattle.std.specs.Option.{option_map}
use Rattle.std.specs.Str.{bytes_eq}
use Rattle.vf_base.specs.declared.refusal.Refusal.{Refusal}
use Rattle.vf_base.specs.declared.rule.Rule.TheVariants as rules
use Rattle.vf_names.specs.Names.{number_of}
use Rattle.vf_declared.specs.declared.declaration.Declaration.{Declaration}
use Rattle.vf_declared.specs.declared.declaration.Meaning.{Meaning}
use Rattle.vf_declared.specs.declared.declaration.Meaning.TheVariants as meanings
use Rattle.vf_declared.specs.declared.declaration.Sides.{Sides}
use Rattle.vf_declared.specs.declared.declaration.Signature.{Signature}
use Rattle.vf_declared.specs.declared.declaration.Structure.{Structure}
use Rattle.vf_declared.specs.declared.scope.Scope.{Scope}
use Rattle.vf_declared.specs.Scopes.{at_name, has, is_declared, is_visible}
use Rattle.vf_declared.specs.Writing.{with_file, with_function, with_name}
use Rattle.vf_syntax.specs.declared.written.Name.{Name}
use Rattle.vf_typing.specs.Refusals.{refused}
use Rattle.vf_walk.specs.Items.{again_in}
use Rattle.vf_walk.specs.Names.{earlier, earlier_in, extended, extends, function_of, is_new, is_of_prelude, is_stated, is_taken, lacks, may_be_stated}
use Rattle.vf_erasure_laws.specs.seen.Seen.{declares_c, is_of_c, names_of_c, real_locals, seen, seen_sides}
use Rattle.vf_erasure_laws.proofs.seen.Lookups.{at_standing, c_found, names_seen, position_missed, seen_is}
use Rattle.vf_erasure_laws.proofs.seen.Same.{Names, visible_same, with_names}
use Rattle.vf_erasure_laws.proofs.erased.WalkingSteps.{ok_same}
use Rattle.vf_erasure_laws.proofs.erased.WalkingSeen.{filter_behind}
use Rattle.vf_erasure_laws.proofs.erased.WalkingLists.{c_missed, changed_at_name, changed_if, declarations_changed, get_map, length_changed_if, names_changed, names_of_c_behind, some_same}

-- ---- files
pub visible_alike : (s : Scope) (from : ℕ) (files : List ℕ) → is_visible (seen s) from files ≡ is_visible s from files
visible_alike s from files = ap (λ u. is_visible u from files) (seen_is s) ∙ visible_same s (names_seen s) from files

prelude_same : (s : Scope) (v : Names) (files : List ℕ) → is_of_prelude (with_names s v) files ≡ is_of_prelude s files
prelude_same s v [] = refl
prelude_same s v (file ∷ files) = refl

pub prelude_alike : (s : Scope) (files : List ℕ) → is_of_prelude (seen s) files ≡ is_of_prelude s files
prelude_alike s files = ap (λ u. is_of_prelude u files) (seen_is s) ∙ prelude_same s (names_seen s) files

pub preludes_alike : (s : Scope) (file : ℕ) → has (seen s).preludes file ≡ has s.preludes file
unfolding seen
preludes_alike s file = refl

-- ---- a name of file level
pub found_seen : (s : Scope) (x : List ℕ) (d : Declaration) → declares_c d ≡ true → at_name s.names s.declarations x ≡ Some d → at_name (seen s).names (seen s).declarations x ≡ Some d
unfolding seen
found_seen s x d c e = at_standing (names_of_c s.names s.declarations) (filter declares_c s.declarations) x ∙ c_found s.names s.declarations x d c (sym (at_standing s.names s.declarations x) ∙ e)

pub missed_seen : (s : Scope) (x : List ℕ) → at_name s.names s.declarations x ≡ None → at_name (seen s).names (seen s).declarations x ≡ None
unfolding seen
missed_seen s x e = at_standing (names_of_c s.names s.declarations) (filter declares_c s.declarations) x ∙ c_missed s.names s.declarations x (sym (at_standing s.names s.declarations x) ∙ e)

pub undeclared_seen : (s : Scope) (x : List ℕ) → is_declared s x ≡ false → is_declared (seen s) x ≡ false
unfolding seen
undeclared_seen s x e = position_missed (bytes_eq x) 0 0 s.names s.declarations e

pub taken_alike : (s : Scope) (x : List ℕ) → is_taken (seen s) x ≡ is_taken s x
unfolding seen
taken_alike s x = refl

-- a new name is new too where C text alone is seen
pub new_seen : (s : Scope) (x : List ℕ) → is_new s x ≡ true → is_new (seen s) x ≡ true
new_seen s x h = by_test (is_taken s x) (is_declared s x) refl refl h
  where
    by_test : (b d : Bool) → is_taken s x ≡ b → is_declared s x ≡ d → (not b && not d) ≡ true → is_new (seen s) x ≡ true
    by_test true d e g h = absurd cc
    by_test false true e g h = absurd cc
    by_test false false e g h = λ i. not ((taken_alike s x ∙ e) i) && not (undeclared_seen s x g i)

-- ---- functions that are declared already
lacks_same : (body : Bool) (o : Option Sides) → lacks body (option_map seen_sides o) ≡ lacks body o
lacks_same body None = refl
lacks_same true (Some x) = refl
lacks_same false (Some x) = by_prototype x.prototype
  where
    by_prototype : (o : Option _) → not (is_some (option_map real_locals o)) ≡ not (is_some o)
    by_prototype None = refl
    by_prototype (Some l) = refl

pub sides_alike : (s : Scope) (n : ℕ) → slice_get (seen s).sides n ≡ option_map seen_sides (slice_get s.sides n)
unfolding seen
sides_alike s n = get_map seen_sides s.sides n

function_alike : (s : Scope) (body : Bool) (m : Meaning) → function_of (seen s) body m ≡ function_of s body m
function_alike s body (meanings.Function n) = ap (λ b. if b then Some n else None) (ap (lacks body) (sides_alike s n) ∙ lacks_same body (slice_get s.sides n))
function_alike s body (meanings.FunctionType n) = refl
function_alike s body (meanings.Ghost n) = refl

extended_alike : (s : Scope) (file : ℕ) (body : Bool) (d : Declaration) → extended (seen s) file body d ≡ extended s file body d
extended_alike s file body d = λ i. if visible_alike s file d.files i && not (prelude_alike s d.files i) then function_alike s body d.meaning i else None

-- the function with a number is declared by a name
pub record IsFunction (s : Scope) (x : List ℕ) (k : ℕ) : Type 0 where
  pub declaration : Declaration
  pub found : at_name s.names s.declarations x ≡ Some declaration
  pub means : declaration.meaning ≡ meanings.Function k

function_means : (s : Scope) (body : Bool) (m : Meaning) {k : ℕ} → function_of s body m ≡ Some k → m ≡ meanings.Function k
function_means s body (meanings.Function n) {k = k} h = by_test (lacks body (slice_get s.sides n)) h
  where
    by_test : (b : Bool) → (if b then Some n else None) ≡ Some k → meanings.Function n ≡ meanings.Function k
    by_test true h = ap meanings.Function (some_same h)
    by_test false h = absurd cc
function_means s body (meanings.FunctionType n) h = absurd cc
function_means s body (meanings.Ghost n) h = absurd cc

extended_means : (s : Scope) (file : ℕ) (body : Bool) (d : Declaration) {k : ℕ} → extended s file body d ≡ Some k → d.meaning ≡ meanings.Function k
extended_means s file body d {k = k} h = by_test (is_visible s file d.files && not (is_of_prelude s d.files)) h
  where
    by_test : (b : Bool) → (if b then function_of s body d.meaning else None) ≡ Some k → d.meaning ≡ meanings.Function k
    by_test true h = function_means s body d.meaning h
    by_test false h = absurd cc

-- what a prototype or a body is of, and that it is of the same where C text alone is seen
pub data IsEarlier (s : Scope) (n : Name) (body : Bool) : Option ℕ → Type 0 where
  none_earlier : earlier (seen s) n body ≡ Ok None → IsEarlier s n body None
  one_earlier : {k : ℕ} → IsFunction s n.text k → earlier (seen s) n body ≡ Ok (Some k) → IsEarlier s n body (Some k)

abbrev if_free : Bool → Name → Result (Option ℕ) Refusal → Result (Option ℕ) Refusal
if_free b n r = if b then Err (refused rules.Name n.place) else r

pub is_earlier : (s : Scope) (n : Name) (body : Bool) {o : Option ℕ} → earlier s n body ≡ Ok o → IsEarlier s n body o
is_earlier s n body {o = o} h = by_taken (is_taken s n.text) refl h
  where
    by_extended : (d : Declaration) → at_name s.names s.declarations n.text ≡ Some d → is_taken s n.text ≡ false → (q : Option ℕ) → extended s n.place.file body d ≡ q → extends n q ≡ Ok o → IsEarlier s n body o
    by_extended d e t None g h = absurd cc
    by_extended d e t (Some k) g h =
        let means : d.meaning ≡ meanings.Function k = extended_means s n.place.file body d g in
        subst (IsEarlier s n body) (ok_same h) (one_earlier (record { declaration = d; found = e; means = means })
        ((λ i. if_free ((taken_alike s n.text ∙ t) i) n (earlier_in (seen s) n body (found_seen s n.text d (ap is_of_c means) e i)))
        ∙ ap (extends n) (extended_alike s n.place.file body d ∙ g)))

    by_found : (q : Option Declaration) → at_name s.names s.declarations n.text ≡ q → is_taken s n.text ≡ false → earlier_in s n body q ≡ Ok o → IsEarlier s n body o
    by_found None e t h = subst (IsEarlier s n body) (ok_same h) (none_earlier (λ i. if_free ((taken_alike s n.text ∙ t) i) n (earlier_in (seen s) n body (missed_seen s n.text e i))))
    by_found (Some d) e t h = by_extended d e t (extended s n.place.file body d) refl h

    by_taken : (b : Bool) → is_taken s n.text ≡ b → if_free b n (earlier_in s n body (at_name s.names s.declarations n.text)) ≡ Ok o → IsEarlier s n body o
    by_taken true t h = absurd cc
    by_taken false t h = by_found (at_name s.names s.declarations n.text) refl t h

-- ---- names that are declared
-- a name that means something of C
pub named_seen : (s : Scope) (x : List ℕ) (m : Meaning) (file : ℕ) → is_of_c m ≡ true → length s.names ≡ length s.declarations → seen (with_name s x m file) ≡ with_name (seen s) x m file
unfolding seen
named_seen s x m file c a =
    let d : Declaration = record { meaning = m; files = file ∷ [] } in
    λ i. record (seen s) {
      names = (names_of_c_behind s.names (x ∷ []) s.declarations (d ∷ []) a ∙ ap (λ b. names_of_c s.names s.declarations ++ (if b then x ∷ [] else [])) c) i;
      declarations = (filter_behind declares_c s.declarations (d ∷ []) ∙ ap (λ b. filter declares_c s.declarations ++ (if b then d ∷ [] else [])) c) i;
    }

-- a function
pub function_seen : (s : Scope) (x : List ℕ) (file : ℕ) (f : Signature) → length s.names ≡ length s.declarations → seen (with_function s x file f) ≡ with_function (seen s) x file f
unfolding seen
function_seen s x file f a =
    λ i. record (named_seen s x (meanings.Function (length s.functions)) file refl a i) { functions = s.functions ++ f ∷ []; sides = map-append seen_sides s.sides ((record { prototype = None; is_defined = false }) ∷ []) i }

-- a declaration in one more file
abbrev also_in : ℕ → Declaration → Declaration
also_in file d = record d { files = with_file d.files file }

again_is : (s : Scope) (file : ℕ) (o : Option ℕ) → again_in file o s ≡ record s { declarations = changed_if (also_in file) s.declarations o }
again_is s file None = refl
again_is s file (Some k) = refl

also_keeps : (file : ℕ) (d : Declaration) → declares_c (also_in file d) ≡ declares_c d
also_keeps file d = refl

pub again_seen : (s : Scope) (x : List ℕ) (file k : ℕ) → IsFunction s x k → seen (again_in file (number_of s.names x) s) ≡ again_in file (number_of (seen s).names x) (seen s)
unfolding seen
again_seen s x file k h =
    let g = also_in file in
    let is = changed_at_name g s.names s.declarations x in
    ap seen (again_is s file (number_of s.names x))
    ∙ (λ i. record (seen s) {
      names = (ap (names_of_c s.names) is ∙ names_changed g (also_keeps file) s.names s.declarations x) i;
      declarations = (ap (filter declares_c) is ∙ declarations_changed g (also_keeps file) s.names s.declarations x h.declaration (sym (at_standing s.names s.declarations x) ∙ h.found) (ap is_of_c h.means) ∙ sym (changed_at_name g (names_of_c s.names s.declarations) (filter declares_c s.declarations) x)) i;
    })
    ∙ sym (again_is (seen s) file (number_of (names_of_c s.names s.declarations) x))

-- as many names stand beside their declarations as before, and nothing else is changed
pub again_beside : (s : Scope) (file : ℕ) (o : Option ℕ) → length s.names ≡ length s.declarations → length (again_in file o s).names ≡ length (again_in file o s).declarations
again_beside s file o a = subst (λ (u : Scope). length u.names ≡ length u.declarations) (sym (again_is s file o)) (a ∙ sym (length_changed_if (also_in file) s.declarations o))

pub again_sides : (s : Scope) (file : ℕ) (o : Option ℕ) → (again_in file o s).sides ≡ s.sides
again_sides s file None = refl
again_sides s file (Some k) = refl

pub again_functions : (s : Scope) (file : ℕ) (o : Option ℕ) → (again_in file o s).functions ≡ s.functions
again_functions s file None = refl
again_functions s file (Some k) = refl

pub again_locals : (s : Scope) (file : ℕ) (o : Option ℕ) → (again_in file o s).locals ≡ s.locals
again_locals s file None = refl
again_locals s file (Some k) = refl

-- ---- structs
pub stated_alike : (s : Scope) (file : ℕ) (opaque : Bool) (o : Option Structure) → may_be_stated (seen s) file opaque o ≡ may_be_stated s file opaque o
stated_alike s file opaque None = refl
stated_alike s file opaque (Some x) = λ i. visible_alike s file x.files i && (not (is_stated opaque x) && not (prelude_alike s x.files i && not (preludes_alike s file i)))
