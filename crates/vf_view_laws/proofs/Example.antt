-- The fixpoints over lists stand in the order of their declaration.
use Rattle.std.proofs.Common.{◌≡◌, ℕ, zero, suc, false, List, [], ◌∷◌, refl, subst, inl, inr, arith}
use Rattle.std.specs.Prelude.{Contains, codes}
use Rattle.vf_tree.specs.Core.{Identity}
use Rattle.vf_model.specs.Values.{same_identity}
use Rattle.vf_model.proofs.Equality.{identities_told}
use Rattle.vf_definitions.specs.declared.fixpoint.Case.{Case}
use Rattle.vf_definitions.specs.declared.fixpoint.Body.{Body}
use Rattle.vf_definitions.specs.declared.fixpoint.Body.TheVariants.{Returns, Switches}
use Rattle.vf_definitions.specs.declared.fixpoint.Fixpoint as definitions
use Rattle.vf_entailment.specs.Example.{length_body, append_body, pick_body, doubled_body, list_definitions}
use Rattle.vf_view_laws.specs.Order.{Written, TermGoesBack, IsSmallerIn, BodyGoesBack, StandInOrder, IsDefinitionOf, AreDefinitionsOf}
use Rattle.vf_view_laws.specs.Example.{written_length, written_append, written_pick, written_doubled, written_lists, ListsStandInOrder}

-- ---- lists of few
none_there : {A B : Type 0} {x : A} → Contains [] x → B
none_there (k, low, is) = absurd (omega (arith, low))

-- a property of each of several
abbrev EachHas : {A : Type 0} → (A → Type 0) → List A → Type 0
EachHas P [] = Unit {0}
EachHas P (x ∷ xs) = P x × EachHas P xs

each_of : {A : Type 0} (P : A → Type 0) (xs : List A) → EachHas P xs → (x : A) → Contains xs x → P x
each_of P [] h x there = none_there there
each_of P (y ∷ xs) h x (zero, low, is) = subst P is h.0
each_of P (y ∷ xs) h x (suc k, low, is) = each_of P xs h.1 x (k, omega (arith, low), is)

apart : (c d : Identity) → same_identity c d ≡ false → c ≡ d → ⊥
apart c d other same = let told = (identities_told c d).1 same in cc

-- an identity is none of several
none_of : (earlier : List Identity) (c : Identity) → EachHas (λ d. same_identity d c ≡ false) earlier → Contains earlier c → ⊥
none_of earlier c h there = each_of (λ d. d ≡ c → ⊥) earlier (others earlier h) c there refl
  where
    others : (ds : List Identity) → EachHas (λ d. same_identity d c ≡ false) ds → EachHas (λ d. d ≡ c → ⊥) ds
    others [] k = tt
    others (d ∷ ds) k = (apart d c k.0, others ds k.1)

-- ---- bodies
-- the cases of a body
abbrev cases_in : Body → List Case
cases_in (Returns t) = []
cases_in (Switches place cases) = cases

-- a body that switches goes back where each of its cases does
abbrev CaseGoesBack : List Identity → Identity → ℕ → Case → Type 0
CaseGoesBack earlier own n y = TermGoesBack earlier own (IsSmallerIn n 0 y.names) y.result

length_back : BodyGoesBack [] (codes "list.h#length") 1 length_body
length_back = each_of (CaseGoesBack [] (codes "list.h#length") 1) (cases_in length_body) ((tt, tt), ((tt, ((inr (refl, (omega arith, omega arith)), ((tt, tt), tt)), ((tt, tt), tt))), tt))

append_back : BodyGoesBack (codes "list.h#length" ∷ []) (codes "list.h#append") 2 append_body
append_back = each_of (CaseGoesBack (codes "list.h#length" ∷ []) (codes "list.h#append") 2) (cases_in append_body) ((tt, tt), ((tt, ((tt, tt), ((inr (refl, (omega arith, omega arith)), ((tt, tt), ((tt, tt), tt))), tt))), tt))

pick_back : BodyGoesBack (codes "list.h#append" ∷ codes "list.h#length" ∷ []) (codes "list.h#pick") 3 pick_body
pick_back = each_of (CaseGoesBack (codes "list.h#append" ∷ codes "list.h#length" ∷ []) (codes "list.h#pick") 3) (cases_in pick_body) ((tt, tt), ((tt, tt), tt))

doubled_back : BodyGoesBack (codes "list.h#pick" ∷ codes "list.h#append" ∷ codes "list.h#length" ∷ []) (codes "list.h#doubled") 1 doubled_body
doubled_back = (inl (2, omega arith, refl), ((inl (1, omega arith, refl), ((tt, tt), ((tt, tt), tt))), tt))

lists_stand : StandInOrder [] written_lists
lists_stand = (
  none_of [] written_length.identity tt,
  length_back,
  (
    none_of (codes "list.h#length" ∷ []) written_append.identity (refl, tt),
    append_back,
    (
      none_of (codes "list.h#append" ∷ codes "list.h#length" ∷ []) written_pick.identity (refl, (refl, tt)),
      pick_back,
      (none_of (codes "list.h#pick" ∷ codes "list.h#append" ∷ codes "list.h#length" ∷ []) written_doubled.identity (refl, (refl, (refl, tt))), doubled_back, tt),
    ),
  ),
)

-- ---- definitions
abbrev IsDefined : definitions.Fixpoint → Type 0
IsDefined f = (x : Written) × Contains written_lists x × IsDefinitionOf f x

lists_defined : AreDefinitionsOf list_definitions written_lists
lists_defined = each_of IsDefined list_definitions (
  (written_length, (0, omega arith, refl), record { identity = refl; number = refl; body = refl }),
  (
    (written_append, (1, omega arith, refl), record { identity = refl; number = refl; body = refl }),
    (
      (written_pick, (2, omega arith, refl), record { identity = refl; number = refl; body = refl }),
      ((written_pick, (2, omega arith, refl), record { identity = refl; number = refl; body = refl }), ((written_doubled, (3, omega arith, refl), record { identity = refl; number = refl; body = refl }), tt)),
    ),
  ),
)

pub lists_stand_in_order : ListsStandInOrder
lists_stand_in_order = record { ordered = lists_stand; environment = refl; definitions = lists_defined }
