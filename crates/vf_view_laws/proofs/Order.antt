-- Fixpoints in the order of their declaration are in order as an environment has them.
use Rattle.std.proofs.Common.{◌≡◌, zero, suc, List, [], ◌∷◌, map, refl, sym, ap, subst, ◌⊎◌, inl, inr, arith}
use Rattle.std.specs.Prelude.{length, Contains}
use Rattle.vf_tree.specs.Core.{Identity}
use Rattle.vf_meaning.specs.Ghost.{FixpointTree}
use Rattle.vf_meaning.specs.Structural.{AreOrdered}
use Rattle.vf_definitions.specs.declared.fixpoint.Fixpoint as definitions
use Rattle.vf_entailment.specs.Trees.{IsAmong, AreAmong, tree_of}
use Rattle.vf_entailment.proofs.Entailing.{linked_stand, linked_entail}
use Rattle.vf_view_laws.specs.Order.{Written, StandInOrder, tree_for, in_front, trees_for, IsDefinitionOf}
use Rattle.vf_view_laws.specs.Laws.{DeclaredFixpointsAreOrdered, DefinitionsAreAmong, DefinitionsStandWhereLinked, UnitsAnswersEntail}
use Rattle.vf_view_laws.proofs.Smaller.{further, body_uses}
use Rattle.vf_view_laws.proofs.Applied.{IsKnown, body_applies}

-- the identities of fixpoints of an environment
abbrev identities : List FixpointTree → List Identity
identities ts = map (λ (t : FixpointTree). t.identity) ts

-- an identity among those of several is that of one of them
identity_of_one : (ts : List FixpointTree) (g : Identity) → Contains (identities ts) g → (h : FixpointTree) × Contains ts h × (h.identity ≡ g)
identity_of_one [] g (k, low, is) = absurd (omega (arith, low))
identity_of_one (t ∷ ts) g (zero, low, is) = (t, (0, omega arith, refl), is)
identity_of_one (t ∷ ts) g (suc k, low, is) = let r = identity_of_one ts g (k, omega (arith, low), is) in (r.0, further r.0 t ts r.1, r.2)

-- and each is
one_of_identities : (ts : List FixpointTree) (h : FixpointTree) → Contains ts h → Contains (identities ts) h.identity
one_of_identities [] h (k, low, is) = absurd (omega (arith, low))
one_of_identities (t ∷ ts) h (zero, low, is) = (0, omega arith, ap (λ (z : FixpointTree). z.identity) is)
one_of_identities (t ∷ ts) h (suc k, low, is) = further h.identity t.identity (identities ts) (one_of_identities ts h (k, omega (arith, low), is))

-- ---- order
known_there : (ts : List FixpointTree) (own g : Identity) → IsKnown (identities ts) own g → (g ≡ own) ⊎ ((h : FixpointTree) × Contains ts h × (h.identity ≡ g))
known_there ts own g (inl is) = inl is
known_there ts own g (inr before) = inr (identity_of_one ts g before)

ordered : (xs : List Written) (ts : List FixpointTree) → AreOrdered ts → StandInOrder (identities ts) xs → AreOrdered (in_front ts xs)
ordered [] ts before stand = before
ordered (x ∷ xs) ts before (new, back, stand) =
    ordered xs (tree_for x ∷ ts) (
      body_uses (identities ts) x.identity (length x.sorts) x.body new back,
      (λ g a. known_there ts x.identity g (body_applies (identities ts) x.identity (length x.sorts) x.body g back a)),
      (λ h there same. new (subst (Contains (identities ts)) same (one_of_identities ts h there))),
      before,
    )
    stand

pub declared_fixpoints_are_ordered : DeclaredFixpointsAreOrdered
declared_fixpoints_are_ordered xs stand = ordered xs [] tt stand

-- ---- definitions
-- what stands behind is there, and so is each fixpoint
behind_there : (xs : List Written) (ts : List FixpointTree) (t : FixpointTree) → Contains ts t → Contains (in_front ts xs) t
behind_there [] ts t there = there
behind_there (x ∷ xs) ts t there = behind_there xs (tree_for x ∷ ts) t (further t (tree_for x) ts there)

tree_there : (xs : List Written) (ts : List FixpointTree) (x : Written) → Contains xs x → Contains (in_front ts xs) (tree_for x)
tree_there [] ts x (k, low, is) = absurd (omega (arith, low))
tree_there (y ∷ xs) ts x (zero, low, is) = behind_there xs (tree_for y ∷ ts) (tree_for x) (0, omega arith, ap tree_for is)
tree_there (y ∷ xs) ts x (suc k, low, is) = tree_there xs (tree_for y ∷ ts) x (k, omega (arith, low), is)

definition_among : (xs : List Written) (f : definitions.Fixpoint) (x : Written) → Contains xs x → IsDefinitionOf f x → IsAmong (trees_for xs) f
definition_among xs f x there h = record {
  sorts = x.sorts;
  result = x.result;
  body = x.body;
  number = h.number;
  is = h.body;
  there = subst (λ c. Contains (trees_for xs) (tree_of c x.sorts x.result x.body)) (sym h.identity) (tree_there xs [] x there);
}

pub definitions_are_among : DefinitionsAreAmong
definitions_are_among xs fs are f there = let (x, among, h) = are f there in definition_among xs f x among h

pub definitions_stand_where_linked : DefinitionsStandWhereLinked
definitions_stand_where_linked units u e xs fs linked there is are = linked_stand units u e fs linked there (subst (λ ts. AreAmong ts fs) (sym is) (definitions_are_among xs fs are))

pub units_answers_entail : UnitsAnswersEntail
units_answers_entail units u e xs a linked there is are right proved = linked_entail units u e a linked there (subst (λ ts. AreAmong ts a.definitions) (sym is) (definitions_are_among xs a.definitions are)) right proved
