-- An example: the fixpoints over lists in the order of their declaration.
use Rattle.std.specs.Prelude.{◌≡◌, List, [], ◌∷◌, codes}
use Rattle.vf_meaning.specs.Ghost.{Integers, Anything}
use Rattle.vf_entailment.specs.Example.{length_body, append_body, pick_body, doubled_body, list_definitions, lists, list_unit}
use Rattle.vf_view_laws.specs.Order.{Written, StandInOrder, trees_for, AreDefinitionsOf}

-- `length`
abbrev pub written_length : Written
written_length = record { identity = codes "list.h#length"; sorts = lists ∷ []; result = Integers; body = length_body }

-- `append`
abbrev pub written_append : Written
written_append = record { identity = codes "list.h#append"; sorts = lists ∷ lists ∷ []; result = lists; body = append_body }

-- `pick`, whose result is of a type parameter
abbrev pub written_pick : Written
written_pick = record { identity = codes "list.h#pick"; sorts = lists ∷ Anything ∷ Anything ∷ []; result = Anything; body = pick_body }

-- `doubled`
abbrev pub written_doubled : Written
written_doubled = record { identity = codes "list.h#doubled"; sorts = lists ∷ []; result = Integers; body = doubled_body }

-- the fixpoints in the order of their declaration
abbrev pub written_lists : List Written
written_lists = written_length ∷ written_append ∷ written_pick ∷ written_doubled ∷ []

-- they stand in order, the environment of the unit has them, and the unit's definitions, two of which are of one fixpoint, are theirs
pub record ListsStandInOrder : Type 0 where
  pub ordered : StandInOrder [] written_lists
  pub environment : list_unit.fixpoints ≡ trees_for written_lists
  pub definitions : AreDefinitionsOf list_definitions written_lists
