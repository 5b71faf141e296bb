-- When code has done what a lowering says.
use Rattle.std.specs.Prelude.{◌≡◌, List, ◌++◌, length, Result, Ok, Err}
use Rattle.vf_base.specs.declared.memory.Memory.{Memory}
use Rattle.vf_steps.specs.Shown.{nodes_of}
use Rattle.vf_steps.specs.Tree.{NodeTree}
use Rattle.vf_lower.specs.declared.draft.Draft.{Draft}
use Rattle.vf_lower.specs.Lowering.{Lowering}

-- the nodes of a draft
abbrev pub drawn : Draft → List NodeTree
drawn d = nodes_of d.nodes.items

-- A draft was lengthened by the nodes and locals of a lowering, from the number of the next local on, and this is left of it
pub record Did {A : Type 0} (m : Lowering A) (before after : Draft) (a : A) : Type 0 where
  pub left : a ≡ (m (length before.locals)).left
  pub nodes : drawn after ≡ drawn before ++ (m (length before.locals)).nodes
  pub locals : after.locals ≡ before.locals ++ (m (length before.locals)).locals

-- the same of what answers with something that stands for what is left, unless memory ran out
abbrev pub Does : {A B : Type 0} → (B → A) → Lowering A → Draft → Draft → Result B Memory → Type 0
Does f m before after (Ok b) = Did m before after (f b)
Does f m before after (Err e) = Unit {0}
