use Rattle.std.proofs.Common.{◌≡◌, true, false, inl, inr, refl, ap, ◌∙◌, rules, Some}
use Rattle.std.proofs.lemmas.Int.{to_z-of_z}
use Rattle.vf_table.proofs.Reading.{item_read}
use Rattle.vf_refute.proofs.Offsets.{not_level_left, not_level_right, not_level_bound}
use Rattle.vf_refute.proofs.rows.level_at.Goals as goal

pub returns-then-not-is_integer : goal.returns-then-not-is_integer
returns-then-not-is_integer c = λ x y e. not_level_left c.args.nodes.now c.args.known.now c.args.a c.in-AreEqual.x c.in-AreEqual.y x y e
    (item_read c.args.known.now c.args.a c.in_ok-x.field-0.now c.in_ok-x.ensures.lookup.0 c.in_ok-x.ensures.lookup.1 ∙ ap Some c.in-AreEqual.is)
    (λ i. let f : false ≡ true = c.if-not-is_integer.ensures.1 i in cc)

pub returns-then-not-is_integer-2 : goal.returns-then-not-is_integer-2
returns-then-not-is_integer-2 c = λ x y e. not_level_right c.args.nodes.now c.args.known.now c.args.a c.in-AreEqual.x c.in-AreEqual.y x y e
    (item_read c.args.known.now c.args.a c.in_ok-x.field-0.now c.in_ok-x.ensures.lookup.0 c.in_ok-x.ensures.lookup.1 ∙ ap Some c.in-AreEqual.is)
    (λ i. let f : false ≡ true = c.if-not-is_integer-2.ensures.1 i in cc)

pub returns-else-not-is_integer-2 : goal.returns-else-not-is_integer-2
returns-else-not-is_integer-2 c = inl (
  item_read c.args.known.now c.args.a c.in_ok-x.field-0.now c.in_ok-x.ensures.lookup.0 c.in_ok-x.ensures.lookup.1 ∙ ap Some c.in-AreEqual.is,
  c.if-not-is_integer.ensures.0 refl,
  c.if-not-is_integer-2.ensures.0 refl,
  refl,
)

pub returns-in-HaveDifference : goal.returns-in-HaveDifference
returns-in-HaveDifference c = let f : mir.Val.SFits mir.Syntax.w128 c.in-HaveDifference.c = search rules in simp to_z-of_z
    (inr (item_read c.args.known.now c.args.a c.in_ok-x.field-0.now c.in_ok-x.ensures.lookup.0 c.in_ok-x.ensures.lookup.1 ∙ ap Some c.in-HaveDifference.is))

pub returns-in-AreWithin : goal.returns-in-AreWithin
returns-in-AreWithin c = λ x y e. not_level_bound c.args.nodes.now c.args.known.now c.args.a c.in-AreWithin.field-0 c.in-AreWithin.field-1 x y c.in-AreWithin.field-2 e
    (item_read c.args.known.now c.args.a c.in_ok-x.field-0.now c.in_ok-x.ensures.lookup.0 c.in_ok-x.ensures.lookup.1 ∙ ap Some c.in-AreWithin.is)
