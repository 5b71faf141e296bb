-- Worked examples, by computation.
use Rattle.std.proofs.Common.{◌≡◌, false, [], ◌∷◌, pos, negsuc, refl}
use Rattle.std.specs.Prelude.{codes}
use Rattle.vf_tree.specs.Core.{Identity, Add, Divide, Remainder, Equal}
use Rattle.vf_model.specs.Values.{Whole, Odd, Value, none, more}
use Rattle.vf_model.specs.Values as values
use Rattle.vf_meaning.specs.Fractions.{sum, product, half}
use Rattle.vf_meaning.specs.Ghost.{Numbered, no_expressions, and_expression, FixpointTree, Switches}
use Rattle.vf_meaning.specs.Ghost as ghost
use Rattle.vf_meaning.specs.Valuations.{of_arguments}
use Rattle.vf_meaning.specs.GhostValues.{Interpretation, value_of, interpreted}

-- 3/4 + 1/4 = 1, half of 3 is 3/2, and 3/2 times 1/4 is 3/8
three_quarters : sum (Odd 1 1) (Odd 0 1) ≡ Whole 1
three_quarters = refl

half_of_three : half (Whole 3) ≡ Odd 1 0
half_of_three = refl

three_eighths : product (Odd 1 0) (Odd 0 1) ≡ Odd 1 2
three_eighths = refl

nil_named : Identity
nil_named = codes "one.c#nil"

cons_named : Identity
cons_named = codes "one.c#cons"

length_named : Identity
length_named = codes "one.c#length"

-- the number of elements of a list: 0 at nil, and 1 + length(rest) at cons(first, rest)
length_of_list : FixpointTree
length_of_list = record {
  identity = length_named;
  parameters = ghost.Datatype (codes "one.c#list") ghost.none ∷ [];
  result = ghost.Integers;
  body = Switches 0 (record { constructor = nil_named; names = []; result = ghost.Number (pos 0) }
      ∷ record {
        constructor = cons_named;
        names = Numbered 1 ∷ Numbered 2 ∷ [];
        result = ghost.Arithmetic Add (ghost.Number (pos 1)) (ghost.Apply length_named (and_expression (ghost.Variable (Numbered 2)) no_expressions));
      } ∷ []);
}

lists : Interpretation
lists = interpreted (λ f t. false) (length_of_list ∷ [])

two_of : Value
two_of = values.Constructed cons_named (more (values.Number (pos 7)) (more (values.Constructed cons_named (more (values.Number (pos 8)) (more (values.Constructed nil_named none) none))) none))

length_is_two : value_of lists (of_arguments (more two_of none)) (ghost.Apply length_named (and_expression (ghost.Variable (Numbered 0)) no_expressions)) ≡ values.Number (pos 2)
unfolding lists length_of_list two_of nil_named cons_named length_named
length_is_two = refl

-- ghost division truncates toward zero, and by 0 it is 0
minus_three : value_of lists (of_arguments none) (ghost.Arithmetic Divide (ghost.Number (negsuc 6)) (ghost.Number (pos 2))) ≡ values.Number (negsuc 2)
minus_three = refl

by_nought : value_of lists (of_arguments none) (ghost.Arithmetic Remainder (ghost.Number (pos 7)) (ghost.Number (pos 0))) ≡ values.Number (pos 0)
by_nought = refl

-- the pointer two places further on is none before it
other_place : value_of lists (of_arguments (more (values.Pointer 1 (pos 0)) none)) (ghost.Compare Equal (ghost.PointerSum (ghost.Variable (Numbered 0)) (ghost.Number (pos 2))) (ghost.Variable (Numbered 0))) ≡ values.Truth false
other_place = refl
