-- Taking and reading in examples.
use Rattle.std.proofs.Common.{refl, List}
use Rattle.vf_closure.specs.Literals.{Literal}
use Rattle.vf_asking.specs.Course.{after, try, asked, pushed}
use Rattle.vf_equality.specs.Equality.{equal, all_equal}
use Rattle.vf_take.specs.declared.wanted.Places.{Places}
use Rattle.vf_take.specs.Fits.{matches, all_match, suits, tries}
use Rattle.vf_take.specs.Takes.{finds}
use Rattle.vf_take.specs.Merges.{arguments_equal, rows_join, joins, learns_one, learns, merges, gathers_if, gathers_one, gathers, begins, starts, tries_gathered, attempts_if, attempts, merging, takes}
use Rattle.vf_take.specs.Reads.{points, reads}
use Rattle.vf_take.specs.Examples.{HalfIsNotEnough, HalvesAreMerged, HalfIsLeft, AnyShareIsTaken, UnknownIsNotTaken, UnknownIsNotRead, HalfIsRead, TakesInExamples}

module _ (places : Places) (path : List Literal) where
  half_is_not_enough : HalfIsNotEnough places path
  unfolding after try asked pushed equal all_equal matches all_match suits tries finds arguments_equal rows_join joins learns_one learns merges gathers_if gathers_one gathers begins starts tries_gathered attempts_if attempts merging takes
  half_is_not_enough = refl

  halves_are_merged : HalvesAreMerged places path
  unfolding after try asked pushed equal all_equal matches all_match suits tries finds arguments_equal rows_join joins learns_one learns merges gathers_if gathers_one gathers begins starts tries_gathered attempts_if attempts merging takes
  halves_are_merged = refl

  half_is_left : HalfIsLeft places path
  unfolding after try asked equal all_equal matches all_match suits tries finds takes
  half_is_left = refl

  any_share_is_taken : AnyShareIsTaken places path
  unfolding after try asked equal all_equal matches all_match suits tries finds takes
  any_share_is_taken = refl

  unknown_is_not_taken : UnknownIsNotTaken places path
  unfolding after try asked equal all_equal matches all_match suits tries finds takes
  unknown_is_not_taken = refl

  unknown_is_not_read : UnknownIsNotRead places path
  unfolding after try asked equal points reads
  unknown_is_not_read = refl

  half_is_read : HalfIsRead places path
  unfolding after try asked equal points reads
  half_is_read = refl

pub shown : TakesInExamples
shown = record {
  half_is_not_enough = half_is_not_enough;
  halves_are_merged = halves_are_merged;
  half_is_left = half_is_left;
  any_share_is_taken = any_share_is_taken;
  unknown_is_not_taken = unknown_is_not_taken;
  unknown_is_not_read = unknown_is_not_read;
  half_is_read = half_is_read;
}
