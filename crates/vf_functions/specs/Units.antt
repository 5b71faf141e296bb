-- What a unit declares, with its functions in steps.
use Rattle.std.specs.Prelude.{◌≡◌, List, [], ◌∷◌, ◌++◌, Result, Ok, Err}
use Rattle.vf_base.specs.declared.refusal.Refusal.{Refusal}
use Rattle.vf_base.specs.declared.refusal.RuleFault.{RuleFault}
use Rattle.vf_base.specs.declared.refusal.RuleFault.TheVariants as faults
use Rattle.vf_declared.specs.declared.scope.Scope.{Scope}
use Rattle.vf_syntax.specs.declared.item.Item.{Item}
use Rattle.vf_syntax.specs.declared.item.Item.TheVariants as items
use Rattle.vf_walk.specs.Items.{WalksItem, WalksItems, without_locals}
use Rattle.vf_walk.specs.Meanings.{Meanings}
use Rattle.vf_functions.specs.Definitions.{CoreTree, core_of}

-- the functions that an item makes, where what it declares is declared: one of a function with its body
abbrev pub cores_of : Scope → Item → List CoreTree
cores_of s (items.Function g k c b) = core_of s g c b ∷ []
cores_of s x = []

-- behind a function with its body no locals are left
abbrev pub IsCleared : Item → Scope → Type 0
IsCleared (items.Function g k c b) s = without_locals s ≡ s
IsCleared x s = Unit {0}

-- items declare what is declared behind them, and make functions, each where what its own item declares is declared
pub data Lowers (m : Meanings) : List Item → Scope → List CoreTree → Scope → Type 0 where
  none : {s : Scope} → Lowers m [] s [] s
  more : {x : Item} {xs : List Item} {s t u : Scope} {fs : List CoreTree} → WalksItem m x s (Ok t) → Lowers m xs t fs u → Lowers m (x ∷ xs) s (cores_of t x ++ fs) u

-- of all that items may come to, the code came to one: to their functions and what is left declared, or to a refusal, unless memory ran out
pub data Comes (m : Meanings) (xs : List Item) (s : Scope) : Result (List CoreTree) RuleFault → Scope → Type 0 where
  lowered : {fs : List CoreTree} {t : Scope} → Lowers m xs s fs t → Comes m xs s (Ok fs) t
  refused : {x : Refusal} {t : Scope} → WalksItems m xs s (Err x) → Comes m xs s (Err (faults.Refused x)) t
  out_of_memory : {t : Scope} → Comes m xs s (Err faults.Memory) t
