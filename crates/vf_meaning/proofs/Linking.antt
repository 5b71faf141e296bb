-- Units that agree have a linked environment.
use Rattle.std.proofs.Common.{◌≡◌, ◌≢◌, ◌⊎◌, inl, inr, zero, suc, Bool, true, false, cond, ◌||◌, List, [], ◌∷◌, Option, Some, None, refl, sym, ap, subst, ◌∙◌, arith}
use Rattle.std.specs.Prelude.{Contains}
use Rattle.std.proofs.lemmas.Bool.{cases_Bool, or_cases, false≢true}
use Rattle.vf_tree.specs.Core.{Identity}
use Rattle.vf_model.specs.Values.{same_identity}
use Rattle.vf_model.proofs.Equality.{identities_told}
use Rattle.vf_meaning.specs.Ghost.{FixpointTree}
use Rattle.vf_meaning.specs.Structural.{BodyApplies, AreOrdered}
use Rattle.vf_meaning.specs.Assertions.{GhostText, Environment}
use Rattle.vf_meaning.specs.Environments.{option_or, MayLeak, by_command, by_lemma, SomeUnit}
use Rattle.vf_meaning.specs.LinkingLaws.{UnitsLink, LinkedUnitsAgree, HasNoLeak, NoLeaksAreLinked}

some_same : {A : Type 0} {x y : A} → Some x ≡ Some y → x ≡ y
some_same e = cc

none_some : {A B : Type 0} {x : A} → None ≡ Some x → B
none_some e = cc

-- ---- members of lists
empty : {A B : Type 0} {x : A} → Contains [] x → B
empty (k, low, is) = absurd (omega (arith, low))

cases_of : {A : Type 0} (x z : A) (xs : List A) → Contains (x ∷ xs) z → (x ≡ z) ⊎ Contains xs z
cases_of x z xs (zero, low, is) = inl is
cases_of x z xs (suc k, low, is) = inr (k, omega (arith, low), is)

here : {A : Type 0} (x : A) (xs : List A) → Contains (x ∷ xs) x
here x xs = (0, omega arith, refl)

behind : {A : Type 0} (x z : A) (xs : List A) → Contains xs z → Contains (x ∷ xs) z
behind x z xs (k, low, is) = (suc k, omega (arith, low), is)

-- ---- the first unit that says something
first_said : {B : Type 0} → (Environment → Option B) → List Environment → Option B
first_said f [] = None
first_said f (u ∷ us) = option_or (f u) (first_said f us)

first_cases : {B : Type 0} (o r : Option B) (x : B) → option_or o r ≡ Some x → (o ≡ Some x) ⊎ (r ≡ Some x)
first_cases (Some y) r x h = inl h
first_cases None r x h = inr h

first_there : {B : Type 0} (o r : Option B) (x : B) → (o ≡ Some x) ⊎ ((y : B) × (r ≡ Some y)) → (y : B) × (option_or o r ≡ Some y)
first_there (Some y) r x h = (y, refl)
first_there None r x (inl h) = none_some h
first_there None r x (inr h) = h

found : {B : Type 0} (f : Environment → Option B) (units : List Environment) (x : B) → first_said f units ≡ Some x → SomeUnit units (λ u. f u ≡ Some x)
unfolding first_said
found f [] x h = none_some h
found f (u ∷ us) x h = elim (first_cases (f u) (first_said f us) x h) [
  | inl one ↦ (u, here u us, one)
  | inr later ↦ let (v, there, is) = found f us x later in (v, behind u v us there, is)
]

said : {B : Type 0} (f : Environment → Option B) (units : List Environment) (u : Environment) (x : B) → Contains units u → f u ≡ Some x → (y : B) × (first_said f units ≡ Some y)
unfolding first_said
said f [] u x there is = empty there
said f (v ∷ vs) u x there is = first_there (f v) (first_said f vs) x (elim (cases_of v u vs there) [ inl same ↦ inl (ap f same ∙ is) | inr later ↦ inr (said f vs u x later is) ])

-- where all say the same, what one says is what is said
says : {B : Type 0} (f : Environment → Option B) (units : List Environment) (u : Environment) (x : B) → ((v : Environment) (y : B) → Contains units v → f v ≡ Some y → x ≡ y) → Contains units u → f u ≡ Some x → first_said f units ≡ Some x
says f units u x same there is =
    let (y, s) = said f units u x there is in
    let (v, in_units, of) = found f units y s in
    s ∙ ap Some (sym (same v y in_units of))

-- ---- some unit says so
any_said : (Environment → Bool) → List Environment → Bool
any_said f [] = false
any_said f (u ∷ us) = f u || any_said f us

any_found : (f : Environment → Bool) (units : List Environment) → any_said f units ≡ true → SomeUnit units (λ u. f u ≡ true)
unfolding any_said
any_found f [] h = absurd (false≢true h)
any_found f (u ∷ us) h = elim (or_cases (f u) (any_said f us) h) [
  | inl one ↦ (u, here u us, one)
  | inr later ↦ let (v, there, is) = any_found f us later in (v, behind u v us there, is)
]

or_left : (a b : Bool) → a ≡ true → (a || b) ≡ true
or_left true b h = refl
or_left false b h = absurd (false≢true h)

or_right : (a b : Bool) → b ≡ true → (a || b) ≡ true
or_right true b h = refl
or_right false b h = h

any_there : (f : Environment → Bool) (units : List Environment) (u : Environment) → Contains units u → f u ≡ true → any_said f units ≡ true
unfolding any_said
any_there f [] u there is = empty there
any_there f (v ∷ vs) u there is = elim (cases_of v u vs there) [ inl same ↦ or_left (f v) (any_said f vs) (ap f same ∙ is) | inr later ↦ or_right (f v) (any_said f vs) (any_there f vs u later is) ]

-- ---- the fixpoints of all units
has_named : Identity → List FixpointTree → Bool
has_named g [] = false
has_named g (f ∷ fs) = same_identity f.identity g || has_named g fs

named_there : (g : Identity) (fs : List FixpointTree) → has_named g fs ≡ true → (f : FixpointTree) × Contains fs f × (f.identity ≡ g)
unfolding has_named
named_there g [] h = absurd (false≢true h)
named_there g (f ∷ fs) h = elim (or_cases (same_identity f.identity g) (has_named g fs) h) [
  | inl one ↦ (f, here f fs, (identities_told f.identity g).0 one)
  | inr later ↦ let (k, there, is) = named_there g fs later in (k, behind f k fs there, is)
]

there_named : (g : Identity) (fs : List FixpointTree) (f : FixpointTree) → Contains fs f → f.identity ≡ g → has_named g fs ≡ true
unfolding has_named
there_named g [] f there is = empty there
there_named g (k ∷ fs) f there is = elim (cases_of k f fs there) [
  | inl same ↦ or_left (same_identity k.identity g) (has_named g fs) ((identities_told k.identity g).1 (ap (λ (z : FixpointTree). z.identity) same ∙ is))
  | inr later ↦ or_right (same_identity k.identity g) (has_named g fs) (there_named g fs f later is)
]

-- fixpoints before others, without those whose names the others have
added : List FixpointTree → List FixpointTree → List FixpointTree
added [] more = more
added (f ∷ fs) more = cond (has_named f.identity more) (added fs more) (f ∷ added fs more)

-- where fixpoints of one name are one in both lists
abbrev AreOne : List FixpointTree → List FixpointTree → Type 0
AreOne fs more = (f h : FixpointTree) → Contains fs f → Contains more h → f.identity ≡ h.identity → f ≡ h

rest_one : (f : FixpointTree) (fs more : List FixpointTree) → AreOne (f ∷ fs) more → AreOne fs more
rest_one f fs more one g h in_rest in_more is = one g h (behind f g fs in_rest) in_more is

added_more : (fs more : List FixpointTree) (h : FixpointTree) → Contains more h → Contains (added fs more) h
unfolding added
added_more [] more h there = there
added_more (f ∷ fs) more h there = elim (has_named f.identity more) as (λ b. Contains (cond b (added fs more) (f ∷ added fs more)) h) [
  | true ↦ added_more fs more h there
  | false ↦ behind f h (added fs more) (added_more fs more h there)
]

added_own : (fs more : List FixpointTree) → AreOne fs more → (h : FixpointTree) → Contains fs h → Contains (added fs more) h
unfolding added
added_own [] more one h there = empty there
added_own (f ∷ fs) more one h there =
    elim (cases_of f h fs there) [
      | inl same ↦ subst (Contains (added (f ∷ fs) more)) same (first (has_named f.identity more) refl)
      | inr later ↦ any_way (has_named f.identity more) (added_own fs more (rest_one f fs more one) h later)
    ]
  where
    any_way : (b : Bool) → Contains (added fs more) h → Contains (cond b (added fs more) (f ∷ added fs more)) h
    any_way true c = c
    any_way false c = behind f h (added fs more) c

    first : (b : Bool) → has_named f.identity more ≡ b → Contains (cond b (added fs more) (f ∷ added fs more)) f
    first true is =
        let (k, in_more, named) = named_there f.identity more is in
        subst (Contains (added fs more)) (sym (one f k (here f fs) in_more (sym named))) (added_more fs more k in_more)
    first false is = here f (added fs more)

added_from : (fs more : List FixpointTree) (h : FixpointTree) → Contains (added fs more) h → Contains fs h ⊎ Contains more h
unfolding added
added_from [] more h there = inr there
added_from (f ∷ fs) more h there = either (has_named f.identity more) (λ c. added_from fs more h c) there
  where
    later : Contains fs h ⊎ Contains more h → Contains (f ∷ fs) h ⊎ Contains more h
    later (inl own) = inl (behind f h fs own)
    later (inr other) = inr other

    either : (b : Bool) → (Contains (added fs more) h → Contains fs h ⊎ Contains more h) → Contains (cond b (added fs more) (f ∷ added fs more)) h → Contains (f ∷ fs) h ⊎ Contains more h
    either true from c = later (from c)
    either false from c = elim (cases_of f h (added fs more) c) [ inl same ↦ inl (subst (Contains (f ∷ fs)) same (here f fs)) | inr rest ↦ later (from rest) ]

added_ordered : (fs more : List FixpointTree) → AreOne fs more → AreOrdered fs → AreOrdered more → AreOrdered (added fs more)
unfolding added
added_ordered [] more one ordered others = others
added_ordered (f ∷ fs) more one ordered others = either (has_named f.identity more) refl (added_ordered fs more (rest_one f fs more one) ordered.3 others)
  where
    uses : (g : Identity) → BodyApplies f.body g → (g ≡ f.identity) ⊎ ((h : FixpointTree) × Contains (added fs more) h × (h.identity ≡ g))
    uses g a = elim (ordered.1 g a) [ inl own ↦ inl own | inr h ↦ inr (h.0, added_own fs more (rest_one f fs more one) h.0 h.1, h.2) ]

    once : has_named f.identity more ≡ false → (h : FixpointTree) → Contains (added fs more) h → h.identity ≢ f.identity
    once none h there = elim (added_from fs more h there) [
      | inl own ↦ ordered.2 h own
      | inr other ↦ λ same. false≢true (sym none ∙ there_named f.identity more h other same)
    ]

    either : (b : Bool) → has_named f.identity more ≡ b → AreOrdered (added fs more) → AreOrdered (cond b (added fs more) (f ∷ added fs more))
    either true is rest = rest
    either false is rest = (ordered.0, uses, once is, rest)

all_fixpoints : List Environment → List FixpointTree
all_fixpoints [] = []
all_fixpoints (u ∷ us) = added u.fixpoints (all_fixpoints us)

fixpoints_from : (units : List Environment) (h : FixpointTree) → Contains (all_fixpoints units) h → SomeUnit units (λ u. Contains u.fixpoints h)
unfolding all_fixpoints
fixpoints_from [] h there = empty there
fixpoints_from (u ∷ us) h there = elim (added_from u.fixpoints (all_fixpoints us) h there) [
  | inl own ↦ (u, here u us, own)
  | inr other ↦ let (v, in_units, is) = fixpoints_from us h other in (v, behind u v us in_units, is)
]

-- fixpoints of one name are one in all units
abbrev OneInAll : List Environment → Type 0
OneInAll units = (u v : Environment) → Contains units u → Contains units v → AreOne u.fixpoints v.fixpoints

others_one : (u : Environment) (us : List Environment) → OneInAll (u ∷ us) → OneInAll us
others_one u us one v w in_v in_w = one v w (behind u v us in_v) (behind u w us in_w)

one_with_rest : (u : Environment) (us : List Environment) → OneInAll (u ∷ us) → AreOne u.fixpoints (all_fixpoints us)
one_with_rest u us one f h own there is = let (v, in_units, of) = fixpoints_from us h there in one u v (here u us) (behind u v us in_units) f h own of is

fixpoints_there : (units : List Environment) → OneInAll units → (u : Environment) → Contains units u → (h : FixpointTree) → Contains u.fixpoints h → Contains (all_fixpoints units) h
unfolding all_fixpoints
fixpoints_there [] one u in_units h there = empty in_units
fixpoints_there (v ∷ vs) one u in_units h there = elim (cases_of v u vs in_units) [
  | inl same ↦ added_own v.fixpoints (all_fixpoints vs) (one_with_rest v vs one) h (subst (λ (z : Environment). Contains z.fixpoints h) (sym same) there)
  | inr later ↦ added_more v.fixpoints (all_fixpoints vs) h (fixpoints_there vs (others_one v vs one) u later h there)
]

all_ordered : (units : List Environment) → OneInAll units → ((u : Environment) → Contains units u → AreOrdered u.fixpoints) → AreOrdered (all_fixpoints units)
unfolding all_fixpoints
all_ordered [] one ordered = tt
all_ordered (u ∷ us) one ordered = added_ordered u.fixpoints (all_fixpoints us) (one_with_rest u us one) (ordered u (here u us)) (all_ordered us (others_one u us one) (λ v in_units. ordered v (behind u v us in_units)))

-- ---- the linked environment
linked_of : List Environment → Environment
linked_of units = record {
  constructors = λ c. first_said (λ u. u.constructors c) units;
  fixpoints = all_fixpoints units;
  claims = λ g t. any_said (λ u. u.claims g t) units;
  predicates = λ q. first_said (λ u. u.predicates q) units;
  bodies = λ b. first_said (λ u. u.bodies b) units;
  functions = λ g. first_said (λ u. u.functions g) units;
  prototypes = λ g. first_said (λ u. u.prototypes g) units;
  types = λ t. first_said (λ u. u.types t) units;
  called = λ g n. first_said (λ u. u.called g n) units;
  leaks = λ text. any_said (λ u. u.leaks text) units;
  calls = λ text g. any_said (λ u. u.calls text g) units;
}

pub units_link : UnitsLink
unfolding linked_of
units_link units h =
    let agree = h.agree in
    let one : OneInAll units = λ u v in_u in_v. (agree u v in_u in_v).fixpoints in (
      linked_of units,
      record {
        all = λ u in_u. record {
          constructors = λ c k is. says (λ v. v.constructors c) units u k (λ v y in_v of. (agree u v in_u in_v).constructors c k y is of) in_u is;
          fixpoints = λ k there. fixpoints_there units one u in_u k there;
          claims = λ g t is. any_there (λ v. v.claims g t) units u in_u is;
          predicates = λ q k is. says (λ v. v.predicates q) units u k (λ v y in_v of. (agree u v in_u in_v).predicates q k y is of) in_u is;
          bodies = λ b k is. says (λ v. v.bodies b) units u k (λ v y in_v of. (agree u v in_u in_v).bodies b k y is of) in_u is;
          functions = λ g k is. says (λ v. v.functions g) units u k (λ v y in_v of. (agree u v in_u in_v).functions g k y is of) in_u is;
          prototypes = λ g k is. says (λ v. v.prototypes g) units u k (λ v y in_v of. (agree u v in_u in_v).prototypes g k y is of) in_u is;
          types = λ t k is. says (λ v. v.types t) units u k (λ v y in_v of. (agree u v in_u in_v).types t k y is of) in_u is;
          called = λ g n t is. says (λ v. v.called g n) units u t (λ v y in_v of. (agree u v in_u in_v).called g n t y is of) in_u is;
          leaks = λ text is. any_there (λ v. v.leaks text) units u in_u is;
          calls = λ text g is. any_there (λ v. v.calls text g) units u in_u is;
        };
        ordered = all_ordered units one h.ordered;
        closed = λ u in_u c d k j is of same. let (v, in_v, said_so) = found (λ v. v.constructors c) units k is in (agree u v in_u in_v).closed c d k j said_so of same;
        constructors = λ c k is. found (λ v. v.constructors c) units k is;
        fixpoints = λ k there. fixpoints_from units k there;
        claims = λ g t is. any_found (λ v. v.claims g t) units is;
        predicates = λ q k is. found (λ v. v.predicates q) units k is;
        bodies = λ b k is. found (λ v. v.bodies b) units k is;
        functions = λ g k is. found (λ v. v.functions g) units k is;
        prototypes = λ g k is. found (λ v. v.prototypes g) units k is;
        types = λ t k is. found (λ v. v.types t) units k is;
        called = λ g n t is. found (λ v. v.called g n) units t is;
        leaks = λ text is. any_found (λ v. v.leaks text) units is;
        calls = λ text g is. any_found (λ v. v.calls text g) units is;
      },
    )

-- ---- units that have a linked environment
one_of_name : (fs : List FixpointTree) → AreOrdered fs → (f h : FixpointTree) → Contains fs f → Contains fs h → f.identity ≡ h.identity → f ≡ h
one_of_name [] ordered f h in_f in_h is = empty in_f
one_of_name (x ∷ xs) ordered f h in_f in_h is = elim (cases_of x f xs in_f) [
  | inl first ↦ elim (cases_of x h xs in_h) [
    | inl second ↦ sym first ∙ second
    | inr later ↦ absurd (ordered.2 h later (sym is ∙ ap (λ (z : FixpointTree). z.identity) (sym first)))
  ]
  | inr later_f ↦ elim (cases_of x h xs in_h) [
    | inl second ↦ absurd (ordered.2 f later_f (is ∙ ap (λ (z : FixpointTree). z.identity) (sym second)))
    | inr later ↦ one_of_name xs ordered.3 f h later_f later is
  ]
]

pub linked_units_agree : LinkedUnitsAgree
linked_units_agree units e linked u v in_u in_v =
    let own = linked.all u in_u in
    let other = linked.all v in_v in
    record {
      constructors = λ c k j is of. some_same (sym (own.constructors c k is) ∙ other.constructors c j of);
      closed = λ c d k j is of same. linked.closed u in_u c d k j (other.constructors c k is) of same;
      fixpoints = λ f h in_f in_h is. one_of_name e.fixpoints linked.ordered f h (own.fixpoints f in_f) (other.fixpoints h in_h) is;
      predicates = λ q k j is of. some_same (sym (own.predicates q k is) ∙ other.predicates q j of);
      bodies = λ b k j is of. some_same (sym (own.bodies b k is) ∙ other.bodies b j of);
      functions = λ g k j is of. some_same (sym (own.functions g k is) ∙ other.functions g j of);
      prototypes = λ g k j is of. some_same (sym (own.prototypes g k is) ∙ other.prototypes g j of);
      types = λ t k j is of. some_same (sym (own.types t k is) ∙ other.types t j of);
      called = λ g n k j is of. some_same (sym (own.called g n k is) ∙ other.called g n j of);
    }

-- ---- leaks
pub never_leaks : (e : Environment) → HasNoLeak e → {text : GhostText} → MayLeak e text → ⊥
never_leaks e none {text} (by_command is) = false≢true (sym (none text) ∙ is)
never_leaks e none (by_lemma lemma called leaks) = never_leaks e none leaks

pub no_leaks_are_linked : NoLeaksAreLinked
no_leaks_are_linked units e linked none text leaks = never_leaks e (λ t. no_leak t (cases_Bool (e.leaks t))) leaks
  where
    no_leak : (t : GhostText) → (e.leaks t ≡ true) ⊎ (e.leaks t ≡ false) → e.leaks t ≡ false
    no_leak t (inl is) = let (u, in_units, said_so) = linked.leaks t is in absurd (false≢true (sym (none u in_units t) ∙ said_so))
    no_leak t (inr is) = is
