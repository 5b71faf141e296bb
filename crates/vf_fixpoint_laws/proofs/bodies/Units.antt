-- The fixpoints of a unit keep sorts.
use Rattle.std.proofs.Common.{◌≡◌, ℕ, zero, suc, List, [], ◌∷◌, ◌++◌, length, Some, None, refl, sym, subst, ap, ◌∙◌, arith}
use Rattle.std.specs.Prelude.{Contains}
use Rattle.vf_tree.specs.Core.{Identity}
use Rattle.vf_meaning.specs.GhostValues.{Interpretation}
use Rattle.vf_syntax.specs.declared.item.Item.{Item}
use Rattle.vf_declared.specs.declared.declaration.Fixpoint as declaration
use Rattle.vf_declared.specs.declared.declaration.GhostDeclaration.TheVariants as ghosts
use Rattle.vf_declared.specs.declared.declaration.Meaning.TheVariants as meanings
use Rattle.vf_declared.specs.declared.scope.Scope.{Scope}
use Rattle.vf_declared.specs.Scopes.{declaration_of, ghost_of}
use Rattle.vf_definitions.specs.Laws.{MeetsDefinitions}
use Rattle.vf_definitions.specs.declared.fixpoint.Body.{Body}
use Rattle.vf_definitions.specs.declared.fixpoint.Fixpoint as definitions
use Rattle.vf_defining.specs.UpTo.{up_to}
use Rattle.vf_defining.specs.Fixpoints.{Defines}
use Rattle.vf_defining.specs.Units.{HaveDefinitions, more_items, IsNumbered, ItemDefines, other_item, stray_item, fixpoint, Written, definitions_of, within_fixpoint, written_in}
use Rattle.vf_fixpoint_laws.specs.values.Declares.{Declares}
use Rattle.vf_fixpoint_laws.specs.values.Worth.{Sets, passing}
use Rattle.vf_fixpoint_laws.specs.bodies.Bodies.{declared_at}
use Rattle.vf_fixpoint_laws.specs.bodies.Recursion.{BodyGoesDown, IsKept, Ranks}
use Rattle.vf_fixpoint_laws.specs.bodies.Units.{EachIsCovered, GoDown, HaveEachCase, IsWritten, UnitKeepsIn, UnitsKeepSorts}
use Rattle.vf_fixpoint_laws.proofs.bodies.Recursion.{kept_in}
use Rattle.vf_fixpoint_laws.proofs.bodies.Taken.{definition_of, own_kind, own_shown, own_there}

-- ---- lists
pub in_first : {A : Type 0} (xs ys : List A) (a : A) → Contains xs a → Contains (xs ++ ys) a
in_first [] ys a (k, l, is) = absurd (omega (arith, l))
in_first (x ∷ xs) ys a (zero, l, is) = (zero, omega arith, is)
in_first (x ∷ xs) ys a (suc k, l, is) = let r = in_first xs ys a (k, omega (arith, l), is) in (suc r.0, omega (arith, r.1), r.2)

pub in_second : {A : Type 0} (xs ys : List A) (a : A) → Contains ys a → Contains (xs ++ ys) a
in_second [] ys a c = c
in_second (x ∷ xs) ys a c = let r = in_second xs ys a c in (suc r.0, omega (arith, r.1), r.2)

-- ---- the definitions of an item
pub record HasItem (s : Scope) (paths : List (List ℕ)) (item : Item) (fs : List definitions.Fixpoint) : Type 0 where
  pub own : List definitions.Fixpoint
  pub defines : ItemDefines s paths item own
  pub among : (k : definitions.Fixpoint) → Contains own k → Contains fs k

item_there : (s : Scope) (paths : List (List ℕ)) (items : List Item) (fs : List definitions.Fixpoint) (item : Item) → HaveDefinitions s paths items fs → Contains items item → HasItem s paths item fs
item_there s paths [] fs item h (k, l, is) = absurd (omega (arith, l))
item_there s paths (x ∷ xs) fs item (more_items {ds} {es} d h) (zero, l, is) = subst (λ (y : Item). HasItem s paths y (ds ++ es)) is (record { own = ds; defines = d; among = in_first ds es })
item_there s paths (x ∷ xs) fs item (more_items {ds} {es} d h) (suc k, l, is) =
    let r = item_there s paths xs es item h (k, omega (arith, l), is) in
    record { own = r.own; defines = r.defines; among = λ f c. in_second ds es f (r.among f c) }

same_written : {a b : Written} → Some a ≡ Some b → a ≡ b
same_written e = cc

same_number : {m n : ℕ} → Some (meanings.Ghost m) ≡ Some (meanings.Ghost n) → m ≡ n
same_number e = cc

same_fixpoint : {a b : declaration.Fixpoint} → Some (ghosts.Fixpoint a) ≡ Some (ghosts.Fixpoint b) → a ≡ b
same_fixpoint e = cc

-- a fixpoint that stands among items has a body, and a definition with it of its result's kind
pub record HasDefinition (s : Scope) (paths : List (List ℕ)) (items : List Item) (fs : List definitions.Fixpoint) (c : Identity) (x : declaration.Fixpoint) (w : IsWritten s paths items c x) : Type 0 where
  pub body : Body
  pub defines : Defines (within_fixpoint (up_to (w.written).name s) (w.written).parameters x.arguments) paths w.number (w.written).body body
  pub there : Contains fs (definition_of s paths w.written body (own_kind x.result))

module _ (s : Scope) (paths : List (List ℕ)) (items : List Item) (fs : List definitions.Fixpoint) (c : Identity) (x : declaration.Fixpoint) (w : IsWritten s paths items c x) where
  -- the body that the item has is that of the fixpoint
  written_has : (v : Written) → v ≡ w.written → (n : ℕ) (f : declaration.Fixpoint) → IsNumbered s v n f → (b : Body) → Defines (within_fixpoint (up_to v.name s) v.parameters f.arguments) paths n v.body b → ((k : definitions.Fixpoint) → Contains (definitions_of s paths v b f.result) k → Contains fs k) → HasDefinition s paths items fs c x w
  written_has v same n f numbered b defines among =
      let one : n ≡ w.number = same_number (sym numbered.means ∙ ap (λ (z : Written). declaration_of s z.name.text z.name.place.file) same ∙ (w.numbered).means) in
      let two : f ≡ x = same_fixpoint (sym numbered.is ∙ ap (ghost_of s) one ∙ (w.numbered).is) in
      let at_written = subst (λ (z : Written). Defines (within_fixpoint (up_to z.name s) z.parameters f.arguments) paths n z.body b) same defines in
      let at_number = subst (λ (m : ℕ). Defines (within_fixpoint (up_to (w.written).name s) (w.written).parameters f.arguments) paths m (w.written).body b) one at_written in
      let at = subst (λ (z : Written). Contains fs (definition_of s paths z b (own_kind f.result))) same (among (definition_of s paths v b (own_kind f.result)) (own_there s paths v b f.result)) in
      record {
        body = b;
        defines = subst (λ (y : declaration.Fixpoint). Defines (within_fixpoint (up_to (w.written).name s) (w.written).parameters y.arguments) paths w.number (w.written).body b) two at_number;
        there = subst (λ (y : declaration.Fixpoint). Contains fs (definition_of s paths w.written b (own_kind y.result))) two at;
      }

  item_has : (item : Item) (own : List definitions.Fixpoint) → ItemDefines s paths item own → written_in item ≡ Some w.written → ((k : definitions.Fixpoint) → Contains own k → Contains fs k) → HasDefinition s paths items fs c x w
  item_has item own (other_item none) there among = absurd (let q : None ≡ Some w.written = sym none ∙ there in cc)
  item_has item own (stray_item {w = v} there' none) there among = absurd (none w.number x (subst (λ (z : Written). IsNumbered s z w.number x) (same_written (sym there ∙ there')) w.numbered))
  item_has item own (fixpoint {w = v} {n} {f} {b} there' numbered defines) there among = written_has v (same_written (sym there' ∙ there)) n f numbered b defines among

  pub has_definition : HaveDefinitions s paths items fs → HasDefinition s paths items fs c x w
  has_definition have = let h = item_there s paths items fs w.item have w.among in item_has w.item h.own h.defines w.is h.among

  -- where definitions are met, have a case for each constructor and go down, so does it
  defined_kept : (i : Interpretation) (r : Ranks) → MeetsDefinitions i fs → EachIsCovered s paths items → HaveEachCase (declared_at s paths) fs → GoDown r fs → Declares (declared_at s paths) c (ghosts.Fixpoint x) → HasDefinition s paths items fs c x w → IsKept s paths i r c x
  defined_kept i r meets covered cases down is h =
      let k = definition_of s paths w.written h.body (own_kind x.result) in
      record {
        body = h.body;
        definition = k;
        identity = w.identity;
        defined = record {
          name = (w.written).name;
          number = w.number;
          parameters = (w.written).parameters;
          text = (w.written).body;
          stands = (w.numbered).is;
          known_result = w.known_result;
          known_arguments = w.known_arguments;
          long = w.long;
          covers = covered w.item w.written w.among w.is;
          defines = h.defines;
          each_case = cases k h.there x (subst (λ (z : Identity). Declares (declared_at s paths) z (ghosts.Fixpoint x)) (sym w.identity) is);
          counted = refl;
          kind = own_shown x.result;
        };
        meets = meets k h.there;
        goes_down = subst (λ (z : Identity). BodyGoesDown r z (length x.arguments) h.body) w.identity (subst (λ (m : ℕ). BodyGoesDown r k.identity m h.body) w.long (down k h.there));
      }

pub unit_keeps_in : (sets : Sets) → UnitKeepsIn sets
unit_keeps_in sets s paths items fs i r have meets well written covered cases down kinds =
    kept_in sets s paths i r well (λ c x is. let w = written c x is in defined_kept s paths items fs c x w i r meets covered cases down is (has_definition s paths items fs c x w have)) kinds

pub units_keep_sorts : UnitsKeepSorts
units_keep_sorts tests = unit_keeps_in (passing tests)
