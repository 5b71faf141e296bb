-- The cases of a `switch` have names for the arguments of their constructors.
use Rattle.std.proofs.Common.{◌≡◌, ℕ, suc, ◌+◌, Bool, true, false, List, [], ◌∷◌, ◌++◌, length, Option, Some, None, refl, sym, subst, ap, ◌∙◌, arith}
use Rattle.std.specs.Prelude.{if◌then◌else◌, map, nat_eq, slice_get}
use Rattle.std.proofs.lemmas.Bool.Decides.{nat_tests}
use Rattle.vf_tree.specs.Core.{Identity}
use Rattle.vf_meaning.specs.Ghost.{Numbered}
use Rattle.vf_sorts.specs.declared.sort.Head.{Head}
use Rattle.vf_sorts.specs.declared.sort.Head.TheVariants as heads
use Rattle.vf_sorts.specs.Sorts.{Sort, Sorts, sort}
use Rattle.vf_sorts.specs.Unknowns.{AgreesAsTold, Filling, Known, filled, instance, leaf, settling}
use Rattle.vf_declared.specs.declared.declaration.Constructor.{Constructor}
use Rattle.vf_declared.specs.declared.declaration.Declaration.{Declaration}
use Rattle.vf_declared.specs.declared.declaration.GhostDeclaration.{GhostDeclaration}
use Rattle.vf_declared.specs.declared.declaration.GhostDeclaration.TheVariants as ghosts
use Rattle.vf_declared.specs.declared.declaration.Meaning.{Meaning}
use Rattle.vf_declared.specs.declared.declaration.Meaning.TheVariants as meanings
use Rattle.vf_declared.specs.declared.scope.Scope.{Scope}
use Rattle.vf_declared.specs.Scopes.{at_name, declared_in, ghost_of, is_visible}
use Rattle.vf_syntax.specs.declared.pattern.CasePattern.{CasePattern}
use Rattle.vf_syntax.specs.declared.written.Name.{Name}
use Rattle.vf_syntax.specs.AssertionTree.{AssertionCaseTree, AssertionCaseTrees, more_assertion_case}
use Rattle.vf_syntax.specs.GhostExprTree.{GhostExprTree}
use Rattle.vf_sorting.specs.Kinds.{resolved}
use Rattle.vf_sorting.specs.Schemes.{count_in}
use Rattle.vf_sorting.proofs.Below.{fresh_length}
use Rattle.vf_binding.specs.declared.bound.Bound.{Bound}
use Rattle.vf_binding.specs.Bound.{with_bound}
use Rattle.vf_asserting.specs.Cases.{NamesBind, are_all, are_distinct, arguments_at, case_number, case_numbers, constructor_count, datatype_in, ghost_number, names_or_none, pattern_in, takes, taking, with_number}
use Rattle.vf_asserting.specs.Cases as cases
use Rattle.vf_asserting.specs.Switches.{Switches, case_sorts, parameters_of, switches}
use Rattle.vf_terms.specs.Readings.{read}
use Rattle.vf_terms.specs.Settings.{settled}
use Rattle.vf_terms.specs.Named.{identity_of, seen_from}
use Rattle.vf_resolving.specs.Cases.{constructor_identity, datatype_at, files_of, switched}
use Rattle.vf_resolving.specs.Standings.{Around, Standing, known_sort, setting_at, slots_for}
use Rattle.vf_resolved_laws.specs.Assertions.{Stands}
use Rattle.vf_resolved_laws.specs.Given.{GivesSorts}
use Rattle.vf_resolved_laws.specs.Heads.{Vocabulary, vocabulary_of}
use Rattle.vf_resolved_laws.specs.Parts.{NamesFit}
use Rattle.vf_resolved_laws.specs.Patterns.{AllHaveSorts, SlotHasSort}
use Rattle.vf_resolved_laws.specs.Terms.{TermHasSort}
use Rattle.vf_resolved_laws.proofs.Before.{before_fresh, told_first}
use Rattle.vf_resolved_laws.proofs.Operating.{first_of}
use Rattle.vf_resolved_laws.proofs.Reading.{has_read, nothing_wanted}
use Rattle.vf_resolved_laws.proofs.Sorting.{AreHeadsAlike}
use Rattle.vf_sorts.specs.Told.{untold_head}

-- ---- datatypes
datatype_bare : (h : Head) (ts : Sorts) → datatype_in (sort h ts) ≡ datatype_in (leaf (untold_head h))
datatype_bare heads.Int ts = refl
datatype_bare heads.Bool ts = refl
datatype_bare (heads.Pointer w) ts = refl
datatype_bare heads.Real ts = refl
datatype_bare heads.Any ts = refl
datatype_bare (heads.Parameter i) ts = refl
datatype_bare (heads.Unknown u) ts = refl
datatype_bare (heads.Datatype d) ts = refl
datatype_bare heads.Predicate ts = refl

datatype_alike : (t u : Sort) → AreHeadsAlike t u → datatype_in t ≡ datatype_in u
datatype_alike (sort h ts) (sort g us) e = datatype_bare h ts ∙ ap (λ (k : Head). datatype_in (leaf k)) e ∙ sym (datatype_bare g us)

datatype_filled : (f : Filling) (t : Sort) (n : ℕ) → datatype_in t ≡ Some n → datatype_in (filled f t) ≡ Some n
datatype_filled f (sort heads.Int ts) n e = absurd cc
datatype_filled f (sort heads.Bool ts) n e = absurd cc
datatype_filled f (sort (heads.Pointer w) ts) n e = absurd cc
datatype_filled f (sort heads.Real ts) n e = absurd cc
datatype_filled f (sort heads.Any ts) n e = absurd cc
datatype_filled f (sort (heads.Parameter i) ts) n e = absurd cc
datatype_filled f (sort (heads.Unknown u) ts) n e = absurd cc
datatype_filled f (sort (heads.Datatype d) ts) n e = e
datatype_filled f (sort heads.Predicate ts) n e = absurd cc

-- a sort of a datatype
pub record OfDatatype (t : Sort) (n : ℕ) : Type 0 where
  pub parts : Sorts
  pub is : t ≡ sort (heads.Datatype n) parts

of_datatype : (t : Sort) (n : ℕ) → datatype_in t ≡ Some n → OfDatatype t n
of_datatype (sort heads.Int ts) n e = absurd cc
of_datatype (sort heads.Bool ts) n e = absurd cc
of_datatype (sort (heads.Pointer w) ts) n e = absurd cc
of_datatype (sort heads.Real ts) n e = absurd cc
of_datatype (sort heads.Any ts) n e = absurd cc
of_datatype (sort (heads.Parameter i) ts) n e = absurd cc
of_datatype (sort (heads.Unknown u) ts) n e = absurd cc
of_datatype (sort (heads.Datatype d) ts) n e = let same : d ≡ n = cc in record { parts = ts; is = ap (λ k. sort (heads.Datatype k) ts) same }
of_datatype (sort heads.Predicate ts) n e = absurd cc

-- ---- names of a case
pub names_are : (s : Scope) (b b' : Bound) (ns : List Name) (ts : List Sort) → NamesBind s b ns ts b' → b' ≡ record { names = b.names ++ map (λ (n : Name). n.text) ns; sorts = b.sorts ++ ts }
names_are s b b' ns ts cases.NamesBind.none_bind = λ i. record { names = sym (none b.names) i; sorts = sym (none b.sorts) i }
  where
    none : {A : Type 0} (xs : List A) → xs ++ [] ≡ xs
    none [] = refl
    none (x ∷ xs) = ap (λ ys. x ∷ ys) (none xs)
names_are s b b' ns ts (cases.NamesBind.one_binds {n = n} {ns = ms} {t = t} {ts = us} free rest) =
    names_are s (with_bound b n.text t) b' ms us rest
    ∙ (λ i. record { names = one b.names (map (λ (k : Name). k.text) ms) n.text i; sorts = one b.sorts us t i })
  where
    one : {A : Type 0} (xs ys : List A) (x : A) → (xs ++ x ∷ []) ++ ys ≡ xs ++ x ∷ ys
    one [] ys x = refl
    one (y ∷ xs) ys x = ap (λ zs. y ∷ zs) (one xs ys x)

pub names_long : (s : Scope) (b b' : Bound) (ns : List Name) (ts : List Sort) → NamesBind s b ns ts b' → length b.names ≡ length b.sorts → length b'.names ≡ length b'.sorts
names_long s b b' ns ts cases.NamesBind.none_bind e = e
names_long s b b' ns ts (cases.NamesBind.one_binds {n = n} {ns = ms} {t = t} {ts = us} free rest) e = names_long s (with_bound b n.text t) b' ms us rest (longer b.names n.text ∙ ap suc e ∙ sym (longer b.sorts t))
  where
    longer : {A : Type 0} (xs : List A) (x : A) → length (xs ++ x ∷ []) ≡ suc (length xs)
    longer [] x = refl
    longer (y ∷ xs) x = ap suc (longer xs x)

-- the names with numbers from one on, of these sorts, are such
abbrev pub NumbersFollow : Vocabulary → Around → ℕ → List Sort → Type 0
NumbersFollow d a m ts = (i : ℕ) (t : Sort) → slice_get ts i ≡ Some t → d.names (Numbered (m + i)) ≡ known_sort a t

slots_have : (d : Vocabulary) (a : Around) (m : ℕ) (ts : List Sort) → NumbersFollow d a m ts → AllHaveSorts (SlotHasSort d) (slots_for a m ts) (map (known_sort a) ts)
slots_have d a m [] h = tt
slots_have d a m (t ∷ ts) h = (
  record { sort = subst (λ j. d.names (Numbered j) ≡ known_sort a t) (let q : m + 0 ≡ m = omega arith in q) (h 0 t refl); kind = refl },
  slots_have d a (suc m) ts (λ i u q. subst (λ j. d.names (Numbered j) ≡ known_sort a u) (let q : m + suc i ≡ suc m + i = omega arith in q) (h (suc i) u q)),
)

map_twice : {A B C : Type 0} (f : B → C) (g : A → B) (xs : List A) → map f (map g xs) ≡ map (λ x. f (g x)) xs
map_twice f g [] = refl
map_twice f g (x ∷ xs) = ap (λ ys. f (g x) ∷ ys) (map_twice f g xs)

-- a test that two numbers are one
same_number : (m n : ℕ) → nat_eq m n ≡ true → m ≡ n
same_number m n e = grind (arith, nat_tests)

module _ (a : Around) (y : Standing) (names : Rattle.vf_meaning.specs.Ghost.Name → Sort) where
  abbrev V : Vocabulary
  V = vocabulary_of (setting_at a y) names

  module _ (x : CasePattern) (n first m : ℕ) where
    -- the names of a case of the datatype with a number, from the number of its constructor, where there is one
    abbrev Fit : Option Meaning → Identity → Type 0
    Fit o c = NumbersFollow V a (length y.sorts) (map (instance first (parameters_of y.scope n)) (arguments_at y.scope (ghost_number o))) → NamesFit V c (slots_for a (length y.sorts) (map (instance first (parameters_of y.scope n)) (arguments_at y.scope (ghost_number o))))

    made_fit : (dc : Declaration) → at_name y.scope.names y.scope.declarations x.constructor.text ≡ Some dc → (g : ℕ) → dc.meaning ≡ meanings.Ghost g → (o : Option GhostDeclaration) → ghost_of y.scope g ≡ o
        → (if takes n (length (names_or_none x.names)) o then Some g else None) ≡ Some m → Fit (Some (meanings.Ghost g)) (identity_of a.paths dc.files x.constructor.text)
    made_fit dc found g means (Some (ghosts.Constructor k)) is e follow =
        subst (λ (ts : List Sort). NamesFit V (identity_of a.paths dc.files x.constructor.text) (slots_for a (length y.sorts) (map (instance first (parameters_of y.scope n)) ts))) (sym args)
        (record {
          number = g;
          constructor_of = k;
          stands = record { named = record { name = x.constructor.text; declaration = dc; found = found; means = means; is = refl }; stands = is };
          filling = settling a.known;
          first = first;
          have_sorts = subst (AllHaveSorts (SlotHasSort V) (slots_for a (length y.sorts) (map (instance first (parameters_of y.scope n)) k.arguments)))
              (map_twice (known_sort a) (instance first (parameters_of y.scope n)) k.arguments ∙ ap (λ j. map (λ t. filled (settling a.known) (instance first (parameters_of y.scope j) t)) k.arguments) (sym (datatype k e)))
              (slots_have V a (length y.sorts) (map (instance first (parameters_of y.scope n)) k.arguments) (subst (λ (ts : List Sort). NumbersFollow V a (length y.sorts) (map (instance first (parameters_of y.scope n)) ts)) args follow));
        })
      where
        args : arguments_at y.scope (Some g) ≡ k.arguments
        args = ap cases.arguments_in is

        decide : (b : Bool) → (if b then Some g else None) ≡ Some m → b ≡ true
        decide true e = refl
        decide false e = absurd cc

        datatype : (k : Constructor) → (if takes n (length (names_or_none x.names)) (Some (ghosts.Constructor k)) then Some g else None) ≡ Some m → k.datatype ≡ n
        datatype k e = same_number k.datatype n (first_of (nat_eq k.datatype n) _ (decide (takes n (length (names_or_none x.names)) (Some (ghosts.Constructor k))) e))
    made_fit dc found g means (Some (ghosts.Fixpoint f)) is e follow = absurd cc
    made_fit dc found g means (Some (ghosts.Datatype f)) is e follow = absurd cc
    made_fit dc found g means (Some (ghosts.Predicate ts)) is e follow = absurd cc
    made_fit dc found g means (Some (ghosts.Family f)) is e follow = absurd cc
    made_fit dc found g means (Some (ghosts.PredicateConstructor f)) is e follow = absurd cc
    made_fit dc found g means (Some (ghosts.Lemma l)) is e follow = absurd cc
    made_fit dc found g means None is e follow = absurd cc

    meaning_fit : (dc : Declaration) → at_name y.scope.names y.scope.declarations x.constructor.text ≡ Some dc → (k : Meaning) → dc.meaning ≡ k → taking y.scope n (length (names_or_none x.names)) (ghost_number (Some k)) ≡ Some m → Fit (Some k) (identity_of a.paths dc.files x.constructor.text)
    meaning_fit dc found (meanings.Ghost g) means e = made_fit dc found g means (ghost_of y.scope g) refl e
    meaning_fit dc found (meanings.Function g) means e = absurd cc
    meaning_fit dc found (meanings.FunctionType g) means e = absurd cc

    visible_fit : (dc : Declaration) → at_name y.scope.names y.scope.declarations x.constructor.text ≡ Some dc → (b : Bool) → taking y.scope n (length (names_or_none x.names)) (ghost_number (if b then Some dc.meaning else None)) ≡ Some m
        → Fit (if b then Some dc.meaning else None) (identity_of a.paths (files_of (if b then Some dc else None)) x.constructor.text)
    visible_fit dc found true e = meaning_fit dc found dc.meaning refl e
    visible_fit dc found false e = absurd cc

    found_fit : (o : Option Declaration) → at_name y.scope.names y.scope.declarations x.constructor.text ≡ o → taking y.scope n (length (names_or_none x.names)) (ghost_number (declared_in y.scope x.constructor.place.file o)) ≡ Some m
        → Fit (declared_in y.scope x.constructor.place.file o) (identity_of a.paths (files_of (seen_from y.scope x.constructor.place.file o)) x.constructor.text)
    found_fit (Some dc) found e = visible_fit dc found (is_visible y.scope x.constructor.place.file dc.files) e
    found_fit None found e = absurd cc

    pub case_fits : case_number y.scope n x ≡ Some m → NumbersFollow V a (length y.sorts) (case_sorts y.scope first (parameters_of y.scope n) x) → NamesFit V (constructor_identity y.scope a.paths x.constructor) (slots_for a (length y.sorts) (case_sorts y.scope first (parameters_of y.scope n) x))
    case_fits e follow = found_fit (at_name y.scope.names y.scope.declarations x.constructor.text) refl e follow

-- ---- numbers of cases
pub record HaveNumbers (s : Scope) (n : ℕ) (cs : AssertionCaseTrees) : Type 0 where
  pub numbers : List ℕ
  pub are : case_numbers s n cs ≡ Some numbers

all_numbers : (k : ℕ) (s : Scope) (n : ℕ) (cs : AssertionCaseTrees) (o : Option (List ℕ)) → case_numbers s n cs ≡ o → are_all k o ≡ true → HaveNumbers s n cs
all_numbers k s n cs (Some ns) is e = record { numbers = ns; are = is }
all_numbers k s n cs None is e = absurd cc

-- the first of some cases, and the others
pub record FirstNumber (s : Scope) (n : ℕ) (x : CasePattern) (cs : AssertionCaseTrees) : Type 0 where
  pub number : ℕ
  pub is : case_number s n x ≡ Some number
  pub others : HaveNumbers s n cs

pub first_number : (s : Scope) (n : ℕ) (x : AssertionCaseTree) (cs : AssertionCaseTrees) → HaveNumbers s n (more_assertion_case x cs) → FirstNumber s n (pattern_in x) cs
first_number s n x cs h = by (case_number s n (pattern_in x)) (case_numbers s n cs) refl refl h.are
  where
    by : (o : Option ℕ) (q : Option (List ℕ)) → case_number s n (pattern_in x) ≡ o → case_numbers s n cs ≡ q → with_number o q ≡ Some h.numbers → FirstNumber s n (pattern_in x) cs
    by (Some k) (Some ks) e f g = record { number = k; is = e; others = record { numbers = ks; are = f } }
    by (Some k) None e f g = absurd cc
    by None (Some ks) e f g = absurd cc
    by None None e f g = absurd cc

-- ---- what is switched over
-- a `switch` is over a value of a datatype, for whose type parameters unknown sorts stand as where it is sorted
pub record IsOver (d : Vocabulary) (a : Around) (y : Standing) (e : GhostExprTree) (cs : AssertionCaseTrees) (first n : ℕ) (k : Known) : Type 0 where
  pub datatype : ℕ
  pub parts : Sorts
  pub has_sort : TermHasSort d (read (setting_at a y) false y.next e).term (sort (heads.Datatype datatype) parts)
  pub first_is : (switched y.scope (read (setting_at a y) false y.next e)).first ≡ first
  pub count_is : (switched y.scope (read (setting_at a y) false y.next e)).count ≡ n
  pub parameters : n ≡ parameters_of y.scope datatype
  pub behind : (switched y.scope (read (setting_at a y) false y.next e)).first + (switched y.scope (read (setting_at a y) false y.next e)).count ≡ length k
  pub numbers : HaveNumbers y.scope datatype cs

pub switch_over : (d : Vocabulary) (a : Around) (y : Standing) {s : Scope} {k k' : Known} {e : GhostExprTree} {cs : AssertionCaseTrees} {first n : ℕ} → Stands d a y s k → GivesSorts (vocabulary_of (setting_at a y) d.names) (setting_at a y) → Switches y.scope a.context k e cs first n k'
    → AgreesAsTold (settling a.known) k' → IsOver d a y e cs first n k'
switch_over d a y {s} {k} {k'} {e} {cs} st gives (switches {k₁} {t} {d = dt} sorted is_one all equates) agrees = record {
  datatype = dt;
  parts = whole.parts;
  has_sort = subst (λ w. TermHasSort w r.term (sort (heads.Datatype dt) whole.parts)) st.vocabulary (subst (TermHasSort (vocabulary_of (setting_at a y) d.names) r.term) whole.is is.2);
  first_is = is.0;
  count_is = ap (λ o. count_in (datatype_at y.scope o)) data_is;
  parameters = refl;
  behind = let p = is.0 in let q = ap (λ o. count_in (datatype_at y.scope o)) data_is in let l = equates.long in let g = fresh_length k₁ (parameters_of y.scope dt) in omega (arith, p, q, l, g);
  numbers = all_numbers _ y.scope dt cs (case_numbers y.scope dt cs) refl all;
}
  where
    there : AgreesAsTold (settling a.known) k₁
    there = before_fresh (settling a.known) k₁ (parameters_of y.scope dt) (equates.kept (settling a.known) agrees)

    r : Rattle.vf_terms.specs.declared.reading.Reading.Reading
    r = read (setting_at a y) false y.next e

    is : (r.next ≡ length k₁) × AreHeadsAlike r.sort (settled (setting_at a y) t) × TermHasSort (vocabulary_of (setting_at a y) d.names) r.term (settled (setting_at a y) t)
    is = has_read (setting_at a y) d.names gives false sorted there (nothing_wanted (setting_at a y) d.names gives t) y.next st.next

    data_known : datatype_in (settled (setting_at a y) t) ≡ Some dt
    data_known = ap datatype_in (sym (told_first (settling a.known) k₁ t there)) ∙ datatype_filled (settling a.known) (resolved k₁ t) dt is_one

    data_is : datatype_in r.sort ≡ Some dt
    data_is = datatype_alike r.sort (settled (setting_at a y) t) is.1 ∙ data_known

    whole : OfDatatype (settled (setting_at a y) t) dt
    whole = of_datatype (settled (setting_at a y) t) dt data_known
