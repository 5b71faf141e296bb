-- The definitions of the fixpoints of a unit go down.
use Rattle.std.proofs.Common.{◌≡◌, refl, sym, ap, subst, ◌∙◌, ◌⊎◌, inl, inr, ⊎_elim, ℕ, zero, suc, List, length, take, map, slice_get, Option, Some, None, arith}
use Rattle.std.specs.Prelude.{◌<◌, Contains}
use Rattle.std.proofs.lemmas.List.{length-map}
use Rattle.vf_tree.specs.Core.{Identity}
use Rattle.vf_names.specs.Names.{number_of}
use Rattle.vf_syntax.specs.declared.item.GhostParameter.{GhostParameter}
use Rattle.vf_syntax.specs.declared.item.Item.{Item}
use Rattle.vf_declared.specs.declared.declaration.Declaration.{Declaration}
use Rattle.vf_declared.specs.declared.declaration.Fixpoint as declaration
use Rattle.vf_declared.specs.declared.declaration.GhostDeclaration.TheVariants as ghosts
use Rattle.vf_declared.specs.declared.declaration.Meaning.TheVariants as meanings
use Rattle.vf_declared.specs.declared.scope.Scope.{Scope}
use Rattle.vf_declared.specs.Changes.{IsAligned}
use Rattle.vf_declared.specs.Scopes.{at_index, ghost_of}
use Rattle.vf_binding.specs.Bound.{bound_local}
use Rattle.vf_terms.specs.Named.{declaration_seen, identity_of}
use Rattle.vf_definitions.specs.declared.fixpoint.Fixpoint as definitions
use Rattle.vf_defining.specs.Bodies.{files_of, identity_at}
use Rattle.vf_defining.specs.Units.{HaveDefinitions, IsNumbered, Written, within_fixpoint, written_in}
use Rattle.vf_defining.specs.UpTo.{through, up_to}
use Rattle.vf_recursion.specs.Faults.{constructors_of, first_fault}
use Rattle.vf_fixpoint_laws.specs.bodies.Recursion.{BodyGoesDown}
use Rattle.vf_fixpoint_laws.specs.bodies.Units.{GoDown}
use Rattle.vf_fixpoint_laws.specs.descending.Ranks.{HavePlainNames, ranks_of}
use Rattle.vf_fixpoint_laws.proofs.descending.Bodies.{body_down}
use Rattle.vf_fixpoint_laws.proofs.bodies.Taken.{body_down_taken, either_taken}
use Rattle.vf_fixpoint_laws.proofs.descending.Definitions.{item_accepted, of_item}
use Rattle.vf_fixpoint_laws.proofs.descending.Lists.{get_taken, none_some, number_taken, one_name, some_same}
use Rattle.vf_fixpoint_laws.proofs.descending.Ranks.{rank_is}
use Rattle.vf_fixpoint_laws.proofs.descending.Reading.{AreEarlier, IsSelf}
use Rattle.vf_fixpoint_laws.proofs.descending.There.{IsThere, is_there}

-- ---- names up to another
below_or_same : (j k : ℕ) → j < suc k → (j < k) ⊎ (j ≡ k)
below_or_same zero zero l = inr refl
below_or_same zero (suc k) l = inl (omega arith)
below_or_same (suc j) zero l = absurd (omega (arith, l))
below_or_same (suc j) (suc k) l = ⊎_elim (λ p. inl (omega (arith, p))) (λ q. inr (ap suc q)) (below_or_same j k (omega (arith, l)))

-- a name among the first of some names stands with its declaration among all
record IsAmongFirst (k : ℕ) (names : List (List ℕ)) (ds : List Declaration) (x : List ℕ) (d : Declaration) : Type 0 where
  number : ℕ
  found : number_of names x ≡ Some number
  below : number < k
  at : slice_get ds number ≡ Some d

among_first : (k : ℕ) (names : List (List ℕ)) (ds : List Declaration) (x : List ℕ) (d : Declaration) (o : Option ℕ) → number_of (take k names) x ≡ o → at_index (take k ds) o ≡ Some d → IsAmongFirst k names ds x d
among_first k names ds x d None e h = absurd (none_some h)
among_first k names ds x d (Some j) e h = let r = number_taken k names x j e in record { number = j; found = r.0; below = r.1; at = get_taken k ds j d h }

same_number : {m n : ℕ} → meanings.Ghost m ≡ meanings.Ghost n → m ≡ n
same_number e = cc

same_fixpoint : {a b : declaration.Fixpoint} → Some (ghosts.Fixpoint a) ≡ Some (ghosts.Fixpoint b) → a ≡ b
same_fixpoint e = cc

module _ (s : Scope) (plain : HavePlainNames s) (paths : List (List ℕ)) (w : Written) (n : ℕ) (f : declaration.Fixpoint) (numbered : IsNumbered s w n f) (as_many : length w.parameters ≡ length f.arguments) where
  own : IsThere s w.name.text w.name.place.file (meanings.Ghost n)
  own = is_there s w.name.text w.name.place.file (meanings.Ghost n) numbered.means

  own_rank : ranks_of s (identity_at s paths w.name) ≡ own.number
  own_rank = rank_is s plain paths (files_of (declaration_seen s w.name.text w.name.place.file)) w.name.text own.number own.found

  itself : (o : Option ℕ) → ((p : ℕ) → o ≡ Some p → p < length w.parameters) → (x : List ℕ) (d : Declaration) (m : ℕ) (g : declaration.Fixpoint) → number_of s.names x ≡ Some own.number → slice_get s.declarations own.number ≡ Some d
      → d.meaning ≡ meanings.Ghost m → ghost_of s m ≡ Some (ghosts.Fixpoint g) → IsSelf paths (identity_at s paths w.name) w.name.text o x d.files g
  itself o below x d m g found at means is =
      let same : d ≡ own.declaration = some_same (sym at ∙ own.at) in
      let named : x ≡ w.name.text = one_name s.names x w.name.text own.number found own.found in
      let number : m ≡ n = same_number (sym means ∙ (ap (λ (e : Declaration). e.meaning) same ∙ own.means)) in
      let fixed : f ≡ g = same_fixpoint (sym numbered.is ∙ (ap (ghost_of s) (sym number) ∙ is)) in
      let many : length w.parameters ≡ length g.arguments = as_many ∙ ap (λ (y : declaration.Fixpoint). length y.arguments) fixed in
      record {
        named = named;
        identity = ap (λ (e : Declaration). identity_of paths e.files x) same ∙ (ap (identity_of paths own.declaration.files) named ∙ ap (λ z. identity_of paths (files_of z) w.name.text) (sym own.seen));
        enough = λ p e. let l = below p e in omega (arith, l, many);
      }

  fixpoints_earlier : (o : Option ℕ) → ((p : ℕ) → o ≡ Some p → p < length w.parameters) → AreEarlier (within_fixpoint (up_to w.name s) w.parameters f.arguments) paths (ranks_of s) (identity_at s paths w.name) w.name.text o
  fixpoints_earlier o below x d m g found means is =
      ⊎_elim (λ l. inl (earlier l)) (λ e. inr (itself o below x d m g (subst (λ j. number_of s.names x ≡ Some j) e there.found) (subst (λ j. slice_get s.declarations j ≡ Some d) e there.at) means is))
      (below_or_same there.number own.number there.below)
    where
      first : ℕ
      first = through (number_of s.names w.name.text)

      counted : first ≡ suc own.number
      counted = ap through own.found

      there : IsAmongFirst (suc own.number) s.names s.declarations x d
      there = subst (λ k. IsAmongFirst k s.names s.declarations x d) counted (among_first first s.names s.declarations x d (number_of (take first s.names) x) refl found)

      earlier : there.number < own.number → ranks_of s (identity_of paths d.files x) < ranks_of s (identity_at s paths w.name)
      earlier l =
          let a : ranks_of s (identity_of paths d.files x) ≡ there.number = rank_is s plain paths d.files x there.number there.found in
          let b = own_rank in
          omega (arith, a, b, l)

  pub parameters_aligned : IsAligned (within_fixpoint (up_to w.name s) w.parameters f.arguments).locals
  parameters_aligned =
      let a : length (map (λ (g : GhostParameter). g.name.text) w.parameters) ≡ length w.parameters = length-map w.parameters (λ (g : GhostParameter). g.name.text) in
      let b : length (map bound_local f.arguments) ≡ length f.arguments = length-map f.arguments bound_local in
      a ∙ (as_many ∙ sym b)

-- each fixpoint among items has as many parameters as it is declared with arguments
abbrev pub AreAsMany : Scope → List Item → Type 0
AreAsMany s xs = (x : Item) (w : Written) (n : ℕ) (f : declaration.Fixpoint) → Contains xs x → written_in x ≡ Some w → IsNumbered s w n f → length w.parameters ≡ length f.arguments

pub go_down : (s : Scope) (paths : List (List ℕ)) (xs : List Item) (fs : List definitions.Fixpoint) → HavePlainNames s → AreAsMany s xs → first_fault xs ≡ None → HaveDefinitions s paths xs fs → GoDown (ranks_of s) fs
go_down s paths xs fs plain many accepted have k there =
    let h = of_item s paths xs fs have k there in
    let w = h.written in
    let as_many = many h.item w h.number h.declared h.among h.is h.numbered in
    let aligned = parameters_aligned s plain paths w h.number h.declared h.numbered as_many in
    let counted : length (map (λ (g : GhostParameter). g.name.text) w.parameters) ≡ k.parameters = length-map w.parameters (λ (g : GhostParameter). g.name.text) ∙ sym h.counted in
    subst (λ (i : Identity). BodyGoesDown (ranks_of s) i k.parameters k.body) (sym h.identity)
    (subst (λ (m : ℕ). BodyGoesDown (ranks_of s) (identity_at s paths w.name) m k.body) counted
    (either_taken (BodyGoesDown (ranks_of s) (identity_at s paths w.name) (length (map (λ (g : GhostParameter). g.name.text) w.parameters))) h.body k.body h.taken
    (body_down (ranks_of s) (identity_at s paths w.name) w.name paths w.parameters (within_fixpoint (up_to w.name s) w.parameters h.declared.arguments) aligned refl (fixpoints_earlier s plain paths w h.number h.declared h.numbered as_many) h.number w.body h.body (constructors_of xs w.parameters w.body) h.defines
    (item_accepted xs accepted h.item w h.among h.is))
    (body_down_taken (ranks_of s) (identity_at s paths w.name) (length (map (λ (g : GhostParameter). g.name.text) w.parameters)) h.body)))
