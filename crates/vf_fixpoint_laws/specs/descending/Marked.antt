-- A unit in which two fixpoints have one identity, since a `#` stands in the name of one of them.
use Rattle.std.specs.Prelude.{◌≡◌, ℕ, pos, false, List, [], ◌∷◌, None, Ok, codes}
use Rattle.vf_base.specs.declared.int_type.IntType.TheVariants as integers
use Rattle.vf_base.specs.declared.place.Place.{Place}
use Rattle.vf_tree.specs.Core.{Identity}
use Rattle.vf_closure.specs.Terms.{Integer, Fixpoint, Term, term, no_terms, number}
use Rattle.vf_formula.specs.declared.head.Kind.TheVariants as kinds
use Rattle.vf_syntax.specs.declared.item.FixpointBody.TheVariants as texts
use Rattle.vf_syntax.specs.declared.item.GhostForm.TheVariants as forms
use Rattle.vf_syntax.specs.declared.item.Item.{Item}
use Rattle.vf_syntax.specs.declared.item.Item.TheVariants as items
use Rattle.vf_syntax.specs.declared.written.IntegerWords.TheVariants as words
use Rattle.vf_syntax.specs.declared.written.Name.{Name}
use Rattle.vf_syntax.specs.declared.written.TypeForm.TheVariants as types
use Rattle.vf_syntax.specs.declared.written.Width.TheVariants as widths
use Rattle.vf_syntax.specs.GhostExprTree.{GhostExprTree, no_ghost_expr}
use Rattle.vf_syntax.specs.GhostExprTree as tree
use Rattle.vf_syntax.specs.SortTree.{SortTree}
use Rattle.vf_syntax.specs.SortTree as sorts
use Rattle.vf_declared.specs.declared.scope.Scope.{Scope}
use Rattle.vf_resolve.specs.declared.files.Files.{Files}
use Rattle.vf_resolve.specs.Beginning.{beginning}
use Rattle.vf_resolve.specs.Units.{ItemsCome}
use Rattle.vf_recursion.specs.Faults.{first_fault}
use Rattle.vf_definitions.specs.declared.fixpoint.Body.TheVariants.{Returns}
use Rattle.vf_definitions.specs.declared.fixpoint.Fixpoint as definitions
use Rattle.vf_defining.specs.Symbols.{without_locals}
use Rattle.vf_defining.specs.Units.{HaveDefinitions}
use Rattle.vf_fixpoint_laws.specs.bodies.Recursion.{Ranks}
use Rattle.vf_fixpoint_laws.specs.bodies.Units.{GoDown}

-- a place in a file
abbrev pub place_in : ℕ → Place
place_in file = record { file = file; line = 1; column = 1 }

-- the unit's own file and a header
abbrev pub two_files : Files
two_files = record { own = 0; headers = []; preludes = []; has_stdlib = false; has_arrays = false }

-- their paths
abbrev pub marked_paths : List (List ℕ)
marked_paths = codes "a" ∷ codes "a#b" ∷ []

-- ---- the text
-- a fixpoint without parameters that gives an integer
abbrev pub constant : ℕ → Name → GhostExprTree → Item
constant file n e = items.Ghost (record { place = place_in file; form = forms.Fixpoint (sorts.type_ (place_in file) (record { place = place_in file; form = types.Integer (words.Width widths.Int) })) n [] [] (texts.Value e) })

-- the name `c` in the header, and the name `b#c` in the unit's own file
abbrev pub plain_name : Name
plain_name = record { text = codes "c"; place = place_in 1 }

abbrev pub marked_name : Name
marked_name = record { text = codes "b#c"; place = place_in 0 }

-- `0`
abbrev pub zero_text : GhostExprTree
zero_text = tree.number (place_in 1) 0 integers.Int

-- `c()`
abbrev pub call_text : GhostExprTree
call_text = tree.application (place_in 0) (codes "c") no_ghost_expr

-- `fixpoint int c() { return 0; }` and behind it one that gives `c()`
abbrev pub marked_items : List Item
marked_items = constant 1 plain_name zero_text ∷ constant 0 marked_name call_text ∷ []

-- ---- the bodies as terms
-- the identity of both
abbrev pub shared : Identity
shared = codes "a#b#c"

-- a definition of one of them
abbrev pub giving : Term → definitions.Fixpoint
giving t = record { kind = kinds.Integer; identity = shared; parameters = 0; body = Returns t }

abbrev pub marked_definitions : List definitions.Fixpoint
marked_definitions = giving (number (pos 0)) ∷ giving (term (Fixpoint Integer shared) no_terms) ∷ []

-- the unit is accepted but for its names, and its definitions go down in no order
pub record MarkedNamesNeverGoDown : Type 0 where
  pub whole : Scope
  pub come : ItemsCome marked_items (beginning two_files marked_items) (Ok whole)
  pub kept : first_fault marked_items ≡ None
  pub have : HaveDefinitions (without_locals whole) marked_paths marked_items marked_definitions
  pub never : (r : Ranks) → GoDown r marked_definitions → ⊥
