use Rattle.std.proofs.Common.{◌≡◌, ◌<◌, length, Some, None, sym, ap, ◌∙◌, rules, arith}
use Rattle.std.proofs.Math.ListN.{get_or}
use Rattle.std.specs.Option.{option_or, option_copied_mut}
use Rattle.std.specs.Ordering.{nat_cmp}
use Rattle.std.specs.BTreeMap as tree
use Rattle.std.specs.Vec.{with_item}
use Rattle.std.proofs.lemmas.Option.{slice_get-get_or, get_or_from_slice_get}
use Rattle.vf_engine.specs.declared.shelf.Shelf.{Shelf}
use Rattle.vf_engine.specs.Memories.{IsSet}
use Rattle.vf_engine.proofs.Held.{put_low, put_beyond, within, none_low}
use Rattle.vf_engine.proofs.Shelves.{changed_at}
use Rattle.vf_engine.proofs.shelf.Shelf.write.Goals as goal

pub index_mut-requires : goal.index_mut-requires
index_mut-requires c = let inside = within c.args.self.now.low.items c.args.number (sym c.has_low.ensures ∙ c.if-has_low.true) in omega (arith, inside)

pub returns-in-Some : goal.returns-in-Some
returns-in-Some c =
    let s = c.args.self.now in
    let k = c.args.number in
    let new = c.set_cell.new.block in
    let inside : k < length s.low.items = within s.low.items k (sym c.has_low.ensures ∙ c.if-has_low.true) in
    let value : get_or s.low.items k c.index_mut.result.now ≡ Some c.in-Some.block = sym c.index_mut.ensures.value ∙ c.in-Some.is in
    let is : get_or s.low.items k None ≡ Some c.in-Some.block =
    get_or_from_slice_get s.low.items k _ None (slice_get-get_or s.low.items k c.index_mut.result.now inside) ∙ value in
    let t : Shelf = record { low = with_item s.low k (Some new); beyond = s.beyond } in
    changed_at s t k (IsSet c.args.index c.args.value) c.in-Some.block new
    (ap (λ o. option_or o (tree.get nat_cmp s.beyond k)) is)
    (λ q. put_low s.low.items s.beyond k new q inside)
    c.set_cell.ensures

pub returns-in-Some-get_mut : goal.returns-in-Some-get_mut
returns-in-Some-get_mut c =
    let s = c.args.self.now in
    let k = c.args.number in
    let new = c.set_cell-in-Some-get_mut.new.block in
    let none : get_or s.low.items k None ≡ None = none_low s.low.items k (sym c.has_low.ensures ∙ c.if-has_low.false) in
    let old : tree.get nat_cmp s.beyond k ≡ Some c.in-Some-get_mut.block.now = sym c.get_mut.ensures.value ∙ ap option_copied_mut c.in-Some-get_mut.is in
    let t : Shelf = record { low = s.low; beyond = c.get_mut.follows.lender new } in
    changed_at s t k (IsSet c.args.index c.args.value) c.in-Some-get_mut.block.now new
    (ap (λ o. option_or o (tree.get nat_cmp s.beyond k)) none ∙ old)
    (λ q. put_beyond s.low.items s.beyond (c.get_mut.follows.lender new) k new q none ((c.get_mut.follows.holds new).3 (search rules)).0)
    c.set_cell-in-Some-get_mut.ensures
