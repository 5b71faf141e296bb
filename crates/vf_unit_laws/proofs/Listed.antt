-- The fixpoints of the definitions of one item in front of those of later ones.
use Rattle.std.proofs.Common.{◌≡◌, ℕ, zero, suc, Bool, true, false, List, [], ◌∷◌, ◌++◌, length, map, refl, sym, subst, ap, ap₂, ◌∙◌, arith}
use Rattle.std.specs.Prelude.{◌||◌, Contains, if◌then◌else◌}
use Rattle.vf_tree.specs.Core.{Identity}
use Rattle.vf_model.specs.Values.{same_identity}
use Rattle.vf_model.proofs.Equality.{identities_told}
use Rattle.vf_closure.specs.Terms.{Integer}
use Rattle.vf_formula.specs.Heads.{shown_kind}
use Rattle.vf_formula.specs.declared.head.Kind as code
use Rattle.vf_formula.specs.declared.head.Kind.TheVariants as kinds
use Rattle.vf_sorts.specs.declared.sort.Head.TheVariants as heads
use Rattle.vf_sorts.specs.Sorts.{Sort, Sorts, sort}
use Rattle.vf_definitions.specs.declared.fixpoint.Body.{Body}
use Rattle.vf_definitions.specs.declared.fixpoint.Body.TheVariants.{Returns, Switches}
use Rattle.vf_definitions.specs.declared.fixpoint.Case.{Case}
use Rattle.vf_definitions.specs.declared.fixpoint.Fixpoint as definitions
use Rattle.vf_defining.specs.Units.{case_of_integers, definitions_by, of_integers}
use Rattle.vf_entailment.specs.Laws.{AreIntegers}
use Rattle.vf_entailment.specs.Trees.{body_as, case_as}
use Rattle.vf_entailment.proofs.Trees.{bodies_stay}
use Rattle.vf_view_laws.specs.Order.{AreDefinitionsOf, BodyGoesBack, IsDefinitionOf, StandInOrder, Written}
use Rattle.vf_view_laws.proofs.Smaller.{further}
use Rattle.vf_unit_laws.specs.Fixpoints.{AreAsMany, Signatures, is_one_of, written_behind, written_by}

-- ---- identities
same_told : (c : Identity) → same_identity c c ≡ true
same_told c = (identities_told c c).1 refl

itself_there : (c : Identity) (cs : List Identity) → is_one_of (c ∷ cs) c ≡ true
itself_there c cs = ap (λ b. b || is_one_of cs c) (same_told c)

none_there : (cs : List Identity) (c : Identity) → (Contains cs c → ⊥) → is_one_of cs c ≡ false
none_there [] c new = refl
none_there (d ∷ cs) c new = by (same_identity d c) refl (none_there cs c (λ later. new (further c d cs later)))
  where
    by : (b : Bool) → same_identity d c ≡ b → is_one_of cs c ≡ false → (same_identity d c || is_one_of cs c) ≡ false
    by true e later = absurd (new (zero, omega arith, (identities_told d c).0 e))
    by false e later = ap (λ b. b || is_one_of cs c) e ∙ later

-- ---- bodies that are taken as numbers
cases_taken : (cases : List Case) → map case_of_integers cases ≡ map (case_as Integer) cases
cases_taken [] = refl
cases_taken (y ∷ cases) = ap₂ (λ (z : Case) (zs : List Case). z ∷ zs) refl (cases_taken cases)

taken_as : (b : Body) → of_integers b ≡ body_as Integer b
taken_as (Returns t) = refl
taken_as (Switches p cases) = ap (Switches p) (cases_taken cases)

-- ---- definitions
-- fixpoints stand in order behind those with some identities, and definitions are theirs
pub record AreListed (earlier : List Identity) (ws : List Written) (fs : List definitions.Fixpoint) : Type 0 where
  pub ordered : StandInOrder earlier ws
  pub theirs : AreDefinitionsOf fs ws

pub none_listed : (earlier : List Identity) → AreListed earlier [] []
none_listed earlier = record { ordered = tt; theirs = λ f there. absurd (let l = there.1 in omega (arith, l)) }

module _ (g : Signatures) (earlier : List Identity) (c : Identity) (m : ℕ) (b : Body) (es : List definitions.Fixpoint) (new : Contains earlier c → ⊥) (back : BodyGoesBack earlier c m b) (rest : AreListed (c ∷ earlier) (written_behind g (c ∷ earlier) es) es) where
  -- a definition of the fixpoint
  abbrev of_kind : code.Kind → Body → definitions.Fixpoint
  of_kind k y = record { kind = k; identity = c; parameters = m; body = y }

  -- the one for integers where the result is of a type parameter
  abbrev taken : definitions.Fixpoint
  taken = of_kind kinds.Integer (of_integers b)

  -- the fixpoint, and those of later definitions
  abbrev own : Written
  own = record { identity = c; sorts = (g c).sorts; result = (g c).result; body = b }

  abbrev whole : List Written
  whole = own ∷ written_behind g (c ∷ earlier) es

  stands : length (g c).sorts ≡ m → StandInOrder earlier whole
  stands many = (new, subst (λ (n : ℕ). BodyGoesBack earlier c n b) (sym many) back, rest.ordered)

  -- a definition is that of one of these
  abbrev IsTheirs : definitions.Fixpoint → Type 0
  IsTheirs f = (x : Written) × Contains whole x × IsDefinitionOf f x

  own_theirs : length (g c).sorts ≡ m → (k : code.Kind) (y : Body) → y ≡ body_as (shown_kind k) b → IsTheirs (of_kind k y)
  own_theirs many k y is = (own, (zero, omega arith, refl), record { identity = refl; number = many; body = is })

  later_theirs : (f : definitions.Fixpoint) → Contains es f → IsTheirs f
  later_theirs f there = let (x, among, is) = rest.theirs f there in (x, further x own (written_behind g (c ∷ earlier) es) among, is)

  alone_listed : length (g c).sorts ≡ m → (k : code.Kind) → b ≡ body_as (shown_kind k) b → AreListed earlier (written_behind g earlier (of_kind k b ∷ es)) (of_kind k b ∷ es)
  alone_listed many k is =
      subst (λ (q : Bool). AreListed earlier (if q then written_behind g earlier es else whole) (of_kind k b ∷ es)) (sym (none_there earlier c new))
      (record { ordered = stands many; theirs = by })
    where
      by : AreDefinitionsOf (of_kind k b ∷ es) whole
      by f (zero, l, same) = subst IsTheirs same (own_theirs many k b is)
      by f (suc j, l, same) = later_theirs f (j, omega (arith, l), same)

  both_listed : length (g c).sorts ≡ m → AreListed earlier (written_behind g earlier (of_kind kinds.Other b ∷ of_kind kinds.Integer (of_integers b) ∷ es)) (of_kind kinds.Other b ∷ of_kind kinds.Integer (of_integers b) ∷ es)
  both_listed many =
      subst (λ (q : Bool). AreListed earlier (if q then written_behind g earlier (taken ∷ es) else own ∷ written_behind g (c ∷ earlier) (taken ∷ es)) (of_kind kinds.Other b ∷ taken ∷ es)) (sym (none_there earlier c new))
      (subst (λ (q : Bool). AreListed earlier (own ∷ (if q then written_behind g (c ∷ earlier) es else written_by g taken ∷ written_behind g (c ∷ c ∷ earlier) es)) (of_kind kinds.Other b ∷ taken ∷ es)) (sym (itself_there c earlier))
      (record { ordered = stands many; theirs = by }))
    where
      by : AreDefinitionsOf (of_kind kinds.Other b ∷ taken ∷ es) whole
      by f (zero, l, same) = subst IsTheirs same (own_theirs many kinds.Other b (sym (bodies_stay.others b)))
      by f (suc zero, l, same) = subst IsTheirs same (own_theirs many kinds.Integer (of_integers b) (taken_as b))
      by f (suc (suc j), l, same) = later_theirs f (j, omega (arith, l), same)

  other_listed : AreAsMany g (of_kind kinds.Other b ∷ es) → AreListed earlier (written_behind g earlier (of_kind kinds.Other b ∷ es)) (of_kind kinds.Other b ∷ es)
  other_listed many = alone_listed (many (of_kind kinds.Other b) (zero, omega arith, refl)) kinds.Other (sym (bodies_stay.others b))

  -- the definitions of a fixpoint by the sort of its result
  pub item_listed : (t : Sort) → ((ts : Sorts) → t ≡ sort heads.Int ts → AreIntegers b) → AreAsMany g (definitions_by c m b t ++ es) → AreListed earlier (written_behind g earlier (definitions_by c m b t ++ es)) (definitions_by c m b t ++ es)
  item_listed (sort heads.Int ts) integers many = alone_listed (many (of_kind kinds.Integer b) (zero, omega arith, refl)) kinds.Integer (sym (bodies_stay.integers b (integers ts refl)))
  item_listed (sort (heads.Parameter i) ts) integers many = both_listed (many (of_kind kinds.Other b) (zero, omega arith, refl))
  item_listed (sort heads.Bool ts) integers many = other_listed many
  item_listed (sort (heads.Pointer w) ts) integers many = other_listed many
  item_listed (sort heads.Real ts) integers many = other_listed many
  item_listed (sort heads.Any ts) integers many = other_listed many
  item_listed (sort (heads.Unknown u) ts) integers many = other_listed many
  item_listed (sort (heads.Datatype d) ts) integers many = other_listed many
  item_listed (sort heads.Predicate ts) integers many = other_listed many
