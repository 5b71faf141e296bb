-- The contracts and bodies that resolved ones mean, where each datatype has an identity.
use Rattle.std.specs.Prelude.{ℕ, map, Option}
use Rattle.std.specs.Option.{option_map}
use Rattle.vf_tree.specs.Core.{Identity}
use Rattle.vf_meaning.specs.Ghost.{Integers, Truths, Pointers, Fractions, Anything, Datatype, Predicates}
use Rattle.vf_meaning.specs.Ghost as ghosts
use Rattle.vf_meaning.specs.Assertions.{BodyTree, ContractTree}
use Rattle.vf_sorts.specs.declared.sort.Head.{Head}
use Rattle.vf_sorts.specs.declared.sort.Head.TheVariants as heads
use Rattle.vf_sorts.specs.Sorts.{Sort, Sorts, sort, no_sorts, and_sort}
use Rattle.vf_resolved.specs.AssertionTree.{part_list}
use Rattle.vf_resolved.specs.declared.contract.Body.{Body}
use Rattle.vf_resolved.specs.declared.contract.Contract.{Contract}
use Rattle.vf_resolved_meaning.specs.Meaning.{parts_meant}

module _ (identity : ℕ → Identity) where
  -- a head over sorts; what is not known is of any sort
  abbrev pub headed_meant : Head → ghosts.Sorts → ghosts.Sort
  headed_meant heads.Int ss = Integers
  headed_meant heads.Bool ss = Truths
  headed_meant (heads.Pointer told) ss = Pointers
  headed_meant heads.Real ss = Fractions
  headed_meant heads.Any ss = Anything
  headed_meant (heads.Parameter n) ss = ghosts.Parameter n
  headed_meant (heads.Unknown u) ss = Anything
  headed_meant (heads.Datatype d) ss = Datatype (identity d) ss
  headed_meant heads.Predicate ss = Predicates ss

  abbrev mutual
    -- a sort
    pub sort_meant : Sort → ghosts.Sort
    sort_meant (sort h ts) = headed_meant h (sorts_meant ts)

    -- sorts in a row
    pub sorts_meant : Sorts → ghosts.Sorts
    sorts_meant no_sorts = ghosts.none
    sorts_meant (and_sort t ts) = ghosts.more (sort_meant t) (sorts_meant ts)

  -- a contract, of which a result of a sort is given or none
  abbrev pub contract_meant : Option Sort → Contract → ContractTree
  contract_meant given x = record {
    sorts = map sort_meant x.names.sorts;
    parameters = x.names.parameters;
    «result» = option_map sort_meant given;
    requires_this = parts_meant (part_list x.precondition);
    ensures_this = parts_meant (part_list x.postcondition);
  }

  -- the body of a predicate
  abbrev pub body_meant : Body → BodyTree
  body_meant x = record {
    sorts = map sort_meant x.names.sorts;
    parameters = x.names.parameters;
    assertion = parts_meant (part_list x.assertion);
  }
