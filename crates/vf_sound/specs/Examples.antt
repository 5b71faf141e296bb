-- Three mains: one that is accepted, and two that are wrong.
use Rattle.std.specs.Prelude.{ℕ, ℤ, pos, List, [], ◌∷◌, Ok, codes}
use Rattle.vf_base.specs.declared.place.Place.{Place}
use Rattle.vf_tree.specs.Shown.{program_of}
use Rattle.vf_tree.specs.declared.unit.Operator.TheVariants.{Add}
use Rattle.vf_tree.specs.declared.unit.Operand.TheVariants.{Number}
use Rattle.vf_tree.specs.declared.unit.CoreStep.TheVariants.{Return}
use Rattle.vf_tree.specs.declared.unit.Pure.{Pure}
use Rattle.vf_tree.specs.declared.unit.Pure.TheVariants.{True, ResultIs}
use Rattle.vf_tree.specs.declared.unit.Core.{Core}
use Rattle.vf_model.specs.declared.words.Event.{Event}
use Rattle.vf_asking.specs.Journal.{Seen, nothing_seen, begun}
use Rattle.vf_asking.specs.Course.{Follows}
use Rattle.vf_asking.specs.Right.{AreRightFrom}
use Rattle.vf_meaning.specs.Assertions.{Environment}
use Rattle.vf_meaning.specs.Environments.{IsLinked}
use Rattle.vf_meaning.specs.Kept.{IsSafe, Kept}
use Rattle.vf_exec.specs.Main.{checks}
use Rattle.vf_sound.specs.Environment.{environment_of}
use Rattle.vf_sound.specs.Formed.{IsFormed}

-- a place in the text of an example
abbrev pub at : ℕ → ℕ → Place
at line column = record { file = 0; line = line; column = column }

-- int main() //@ requires true; //@ ensures POST; { return A + B; }
abbrev pub returns_sum : Pure → ℤ → ℤ → Core
returns_sum post a b = record {
  plain = record {
    functions = record {
      identity = codes "one.c#main";
      locals = 0;
      steps = Return (record { first = Number a; rest = record { operator = Add; place = at 5 12; operand = Number b } ∷ [] }) ∷ [];
      closing = at 6 1;
    } ∷ [];
    main = 0;
  };
  name = at 1 5;
  contract = record { precondition = True (at 2 14); postcondition = post };
}

-- ensures result == 7; { return 3 + 4; }
abbrev pub seven : Core
seven = returns_sum (ResultIs (pos 7) (at 3 13)) (pos 3) (pos 4)

-- ensures result == 8; { return 3 + 4; }
abbrev pub seven_for_eight : Core
seven_for_eight = returns_sum (ResultIs (pos 8) (at 3 13)) (pos 3) (pos 4)

-- ensures true; { return 2147483647 + 1; }
abbrev pub too_great : Core
too_great = returns_sum (True (at 3 13)) (pos 2147483647) (pos 1)

-- one step of main
abbrev pub one_event : List Event
one_event = record { thread = 0; grant = 0 } ∷ []

-- the rules accept a core by right answers, its unit having been begun without definitions
pub record IsAcceptedRightly (core : Core) : Type 0 where
  pub end : Seen
  pub follows : Follows (checks core) (begun [] nothing_seen) end (Ok tt)
  pub right : AreRightFrom 0 end

-- something is accepted, so that the safety of what is accepted says something
abbrev pub SevenIsAccepted : Type 0
SevenIsAccepted = IsFormed seven × IsAcceptedRightly seven

-- a sum that is too great for an int is no safe program
abbrev pub OverflowIsSeen : Type 0
OverflowIsSeen = IsSafe (program_of too_great.plain) one_event → ⊥

-- a main that returns another number than it promises does not keep what it owes
abbrev pub BrokenPromiseIsSeen : Type 0
BrokenPromiseIsSeen = (e : Environment) → IsLinked (environment_of seven_for_eight ∷ []) e → Kept e (program_of seven_for_eight.plain) one_event → ⊥
