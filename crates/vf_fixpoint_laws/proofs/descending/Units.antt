-- The fixpoints of an accepted unit.
use Rattle.std.proofs.Common.{◌≡◌, refl, sym, ap, subst, ◌∙◌, ℕ, List, [], slice_get, Option, Some, None}
use Rattle.vf_tree.specs.Core.{Identity}
use Rattle.vf_names.specs.Names.{number_of}
use Rattle.vf_syntax.specs.declared.item.Item.{Item}
use Rattle.vf_syntax.specs.declared.written.Name.{Name}
use Rattle.vf_declared.specs.declared.declaration.Constructor.{Constructor}
use Rattle.vf_declared.specs.declared.declaration.Declaration.{Declaration}
use Rattle.vf_declared.specs.declared.declaration.Fixpoint as declaration
use Rattle.vf_declared.specs.declared.declaration.GhostDeclaration.{GhostDeclaration}
use Rattle.vf_declared.specs.declared.declaration.GhostDeclaration.TheVariants as ghosts
use Rattle.vf_declared.specs.declared.declaration.Meaning.TheVariants as meanings
use Rattle.vf_declared.specs.declared.scope.Scope.{Scope}
use Rattle.vf_declared.specs.Scopes.{at_index, declaration_of, ghost_of}
use Rattle.vf_resolve.specs.declared.files.Files.{Files}
use Rattle.vf_resolve.specs.Beginning.{beginning}
use Rattle.vf_terms.specs.Named.{identity_of, declaration_seen}
use Rattle.vf_definitions.specs.declared.fixpoint.Fixpoint as definitions
use Rattle.vf_defining.specs.Symbols.{without_locals}
use Rattle.vf_defining.specs.Bodies.{files_of, identity_at}
use Rattle.vf_defining.specs.Units.{Written, within_fixpoint}
use Rattle.vf_defining.specs.UpTo.{through, up_to}
use Rattle.vf_fixpoint_laws.specs.values.Declares.{Declares}
use Rattle.vf_fixpoint_laws.specs.bodies.Bodies.{HasEachCase, declared_at}
use Rattle.vf_fixpoint_laws.specs.descending.Laws.{AcceptedFixpointsGoDown, AcceptedFixpointsHaveEachCase, IsAccepted}
use Rattle.vf_fixpoint_laws.specs.descending.Ranks.{name_in}
use Rattle.vf_fixpoint_laws.proofs.descending.Completing.{each_case}
use Rattle.vf_fixpoint_laws.proofs.bodies.Taken.{each_case_taken, either_taken}
use Rattle.vf_fixpoint_laws.proofs.descending.Definitions.{IsOfItem, item_accepted, of_item}
use Rattle.vf_fixpoint_laws.proofs.descending.Going.{AreAsMany, go_down, parameters_aligned}
use Rattle.vf_fixpoint_laws.proofs.descending.Items.{AllStand, unit_stands}
use Rattle.vf_fixpoint_laws.proofs.descending.Levels.{level}
use Rattle.vf_fixpoint_laws.proofs.descending.Lists.{get_taken, name_there, none_some, number_taken, some_same}
use Rattle.vf_fixpoint_laws.proofs.descending.Meanings.{Means, get_mapped}
use Rattle.vf_fixpoint_laws.proofs.descending.Ranks.{named}
use Rattle.vf_fixpoint_laws.proofs.descending.Spelled.{spelled_counted}
use Rattle.vf_fixpoint_laws.proofs.descending.There.{IsThere, is_there}

-- ---- names with declarations
-- a name with its declaration has a number
record IsFound (s : Scope) (x : List ℕ) (d : Declaration) : Type 0 where
  number : ℕ
  found : number_of s.names x ≡ Some number
  at : slice_get s.declarations number ≡ Some d

found_at : (s : Scope) (x : List ℕ) (d : Declaration) (o : Option ℕ) → number_of s.names x ≡ o → at_index s.declarations o ≡ Some d → IsFound s x d
found_at s x d None e f = absurd (none_some f)
found_at s x d (Some j) e f = record { number = j; found = e; at = f }

declares_found : (s : Scope) (paths : List (List ℕ)) (i : Identity) (g : GhostDeclaration) (h : Declares (declared_at s paths) i g) → IsFound s h.name h.declaration
declares_found s paths i g h = found_at s h.name h.declaration (number_of s.names h.name) refl h.found

-- one name has one declaration
one_declaration : (s : Scope) (x y : List ℕ) (d e : Declaration) → IsFound s x d → IsFound s y e → x ≡ y → d ≡ e
one_declaration s x y d e h k same =
    let place : h.number ≡ k.number = some_same (sym h.found ∙ (ap (number_of s.names) same ∙ k.found)) in
    some_same (sym h.at ∙ (ap (slice_get s.declarations) place ∙ k.at))

declares_means : (s : Scope) (paths : List (List ℕ)) (i : Identity) (g : GhostDeclaration) (h : Declares (declared_at s paths) i g) → Means (level s) h.name g
declares_means s paths i g h =
    let f = declares_found s paths i g h in
    record { place = f.number; named = name_there s.names h.name f.number f.found; number = h.number; means = get_mapped (λ (d : Declaration). d.meaning) s.declarations f.number h.declaration f.at ∙ ap Some h.means; is = h.stands }

-- ---- definitions of fixpoints
same_number : {m n : ℕ} → meanings.Ghost m ≡ meanings.Ghost n → m ≡ n
same_number e = cc

same_fixpoint : {a b : declaration.Fixpoint} → Some (ghosts.Fixpoint a) ≡ Some (ghosts.Fixpoint b) → a ≡ b
same_fixpoint e = cc

module _ (f : Files) (paths : List (List ℕ)) (xs : List Item) (s : Scope) (fs : List definitions.Fixpoint) (accepted : IsAccepted f paths xs s fs) where
  stands : AllStand [] xs (beginning f xs) s
  stands = unit_stands f xs s accepted.come

  as_many : AreAsMany (without_locals s) xs
  as_many x w n g among is numbered = spelled_counted (level s) w.parameters g.arguments (stands.heads x among w is n g numbered)

  module _ (k : definitions.Fixpoint) (h : IsOfItem (without_locals s) paths xs k) where
    w : Written
    w = h.written

    own : IsThere (without_locals s) h.written.name.text h.written.name.place.file (meanings.Ghost h.number)
    own = is_there (without_locals s) h.written.name.text h.written.name.place.file (meanings.Ghost h.number) h.numbered.means

    own_found : IsFound s h.written.name.text own.declaration
    own_found = record { number = own.number; found = own.found; at = own.at }

    -- what the identity of a definition declares is its fixpoint
    declared_once : (x : declaration.Fixpoint) → Declares (declared_at s paths) k.identity (ghosts.Fixpoint x) → h.declared ≡ x
    declared_once x d =
        let e = declares_found s paths k.identity (ghosts.Fixpoint x) d in
        let name : d.name ≡ h.written.name.text = some_same (sym (named s accepted.plain paths d.declaration.files d.name e.number e.found) ∙ (ap name_in (sym d.is ∙ h.identity) ∙ named s accepted.plain paths (files_of (declaration_seen (without_locals s) h.written.name.text h.written.name.place.file)) h.written.name.text own.number own.found)) in
        let same : d.declaration ≡ own.declaration = one_declaration s d.name h.written.name.text d.declaration own.declaration e own_found name in
        let number : d.number ≡ h.number = same_number (sym d.means ∙ (ap (λ (z : Declaration). z.meaning) same ∙ own.means)) in
        same_fixpoint (sym h.numbered.is ∙ (ap (ghost_of s) (sym number) ∙ d.stands))

    abbrev inside : Scope
    inside = within_fixpoint (up_to h.written.name (without_locals s)) h.written.parameters h.declared.arguments

    -- a name that stands among the first means the same there
    right : (i : Identity) (c : Constructor) (d : Declares (declared_at s paths) i (ghosts.Constructor c)) (n : Name) (m : ℕ) → n.text ≡ d.name → declaration_of inside n.text n.place.file ≡ Some (meanings.Ghost m) → identity_at inside paths n ≡ i
    right i c d n m name means =
        let r = is_there inside n.text n.place.file (meanings.Ghost m) means in
        let first = through (number_of s.names h.written.name.text) in
        let taken : IsFound s n.text r.declaration = record { number = r.number; found = (number_taken first s.names n.text r.number r.found).0; at = get_taken first s.declarations r.number r.declaration r.at } in
        let same : r.declaration ≡ d.declaration = one_declaration s n.text d.name r.declaration d.declaration taken (declares_found s paths i (ghosts.Constructor c) d) name in
        ap (λ o. identity_of paths (files_of o) n.text) r.seen ∙ (ap (λ (z : Declaration). identity_of paths z.files n.text) same ∙ (ap (identity_of paths d.declaration.files) name ∙ sym d.is))

    has_each_case : HasEachCase (declared_at s paths) h.declared.arguments k.body
    has_each_case =
        either_taken (HasEachCase (declared_at s paths) h.declared.arguments) h.body k.body h.taken
        (each_case (declared_at s paths) (level s) xs h.written.parameters h.declared.arguments (stands.heads h.item h.among h.written h.is h.number h.declared h.numbered)
        (λ z y d c p q e. stands.stands.named y z d c p q e) (λ i c d. declares_means s paths i (ghosts.Constructor c) d)
        inside (parameters_aligned (without_locals s) accepted.plain paths h.written h.number h.declared h.numbered (as_many h.item h.written h.number h.declared h.among h.is h.numbered)) refl refl paths right h.number h.written.body h.body h.written.name h.defines
        (item_accepted xs accepted.kept h.item h.written h.among h.is))
        (each_case_taken (declared_at s paths) h.declared.arguments h.body)

pub accepted_fixpoints_go_down : AcceptedFixpointsGoDown
accepted_fixpoints_go_down f paths xs s fs accepted = go_down (without_locals s) paths xs fs accepted.plain (as_many f paths xs s fs accepted) accepted.kept accepted.have

pub accepted_fixpoints_have_each_case : AcceptedFixpointsHaveEachCase
accepted_fixpoints_have_each_case f paths xs s fs accepted k there x d =
    let h = of_item (without_locals s) paths xs fs accepted.have k there in
    subst (λ (y : declaration.Fixpoint). HasEachCase (declared_at s paths) y.arguments k.body) (declared_once f paths xs s fs accepted k h x d) (has_each_case f paths xs s fs accepted k h)
