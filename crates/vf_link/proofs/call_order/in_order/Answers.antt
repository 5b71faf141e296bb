use Rattle.std.proofs.Common.{◌≡◌, ◌<◌, ℕ, [], ◌∷◌, ◌++◌, length, map, take, get_or, false, sym, ap, ◌∙◌, arith}
use Rattle.std.specs.Prelude.{◌==◌, filter, slice_index}
use Rattle.std.proofs.lemmas.Bool.Decides.{Decides-eqb, nat_tests}
use Rattle.std.proofs.lemmas.List.Elements.{Contains-get_or}
use Rattle.vf_link.proofs.Lists.{kept_more, left_more}
use Rattle.vf_link.proofs.call_order.in_order.Goals as goal
use Rattle.vf_link.proofs.call_order.in_order.Goals.{then-firsts-at+in_ok-from_bytes+in_ok-push, else-firsts-at}

pub bounds-firsts-at : goal.bounds-firsts-at
bounds-firsts-at c =
    let node = get_or c.args.order.now c.loop-at.at-index 0 in
    let within : node < length c.args.texts.now = c.requires.within node (Contains-get_or c.args.order.now c.loop-at.at-index 0 c.loop-at-test.true) in
    let many = c.requires.firsts in
    omega arith

pub offset_bounds-firsts-at : goal.offset_bounds-firsts-at
offset_bounds-firsts-at c =
    let node = get_or c.args.order.now c.loop-at.at-index 0 in
    let within : node < length c.args.texts.now = c.requires.within node (Contains-get_or c.args.order.now c.loop-at.at-index 0 c.loop-at-test.true) in
    let many = c.requires.firsts in
    omega arith

pub get-requires : goal.get-requires
get-requires c = c.requires.within (get_or c.args.order.now c.loop-at.at-index 0) (Contains-get_or c.args.order.now c.loop-at.at-index 0 c.loop-at-test.true)

apart : (m n : ℕ) → (m ≡ n → ⊥) → (m == n) ≡ false
apart m n h = grind (arith, nat_tests)

pub loop-at-preserved : goal.loop-at-preserved
loop-at-preserved c =
    let texts = c.args.texts.now in
    let firsts = c.args.firsts.now in
    let order = c.args.order.now in
    let index = c.loop-at.at-index in
    let node = get_or order index 0 in
    let before = map (λ u. get_or texts u []) (filter (λ u. slice_index firsts u == u) (take index order)) in
    elim c.if-firsts-at.branch [
      | then-firsts-at+in_ok-from_bytes+in_ok-push w ↦
          (let copied : w.in_ok-from_bytes.field-0 ≡ get_or texts node [] = w.in_ok-from_bytes.ensures ∙ w.get.ensures in
          w.ordered-is ∙ w.in_ok-push.ensures.pushed ∙ ap (λ l. l ++ w.in_ok-from_bytes.field-0 ∷ []) c.loop-at.invariant ∙ ap (λ t. before ++ t ∷ []) copied
          ∙ sym (kept_more (λ u. get_or texts u []) (λ u. slice_index firsts u == u) order index 0 c.loop-at-test.true ((Decides-eqb (get_or firsts node 0) node).1 w.if-firsts-at.true)))
      | else-firsts-at w ↦
          w.ordered-is ∙ c.loop-at.invariant
          ∙ sym (left_more (λ u. get_or texts u []) (λ u. slice_index firsts u == u) order index 0 c.loop-at-test.true (apart (get_or firsts node 0) node w.if-firsts-at.false))
    ]
