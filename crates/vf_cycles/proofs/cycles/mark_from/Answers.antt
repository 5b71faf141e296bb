use Rattle.std.proofs.Common.{◌≡◌, ◌<◌, ◌+◌, ◌-◌, ◌++◌, ℕ, [], List, length, take, drop, refl, sym, ap, subst, ◌∙◌, inl, inr, arith}
use Rattle.std.specs.Prelude.{Contains}
use Rattle.std.proofs.lemmas.List.{take_rest, drop_at, append-nil, length-append}
use Rattle.std.proofs.lemmas.List.Elements.{Contains-append_left, Contains-append_right}
use Rattle.vf_cycles.proofs.Lists.{in_reverse}
use Rattle.vf_cycles.proofs.cycles.mark_from.Goals as goal

-- what stands behind the nodes that were finished before
new_part : (all old more : List ℕ) (start : ℕ) → all ≡ old ++ more → start ≡ length old → take (length all - start) (drop start all) ≡ more
new_part all old more start parts is = take_rest all start ∙ ap (drop start) parts ∙ drop_at old more start (sym is)

pub mark_all-requires : goal.mark_all-requires
mark_all-requires c = λ u h.
    let old = c.args.walk.now.finished in
    let r = c.in_ok-visit.ensures.reached in
    let start : c.len-start.result ≡ length old.items = omega (arith, old.ok.0) in
    let part = new_part c.as_slice.result.now old.items r.more c.len-start.result (c.as_slice.ensures.value ∙ r.parts) start in
    let among : Contains c.visit.new.self.finished.items u = subst (λ l. Contains l u) (sym r.parts) (Contains-append_right old.items r.more u (subst (λ l. Contains l u) part h)) in
    let within = c.in_ok-visit.ensures.walk.inside u (in_reverse c.visit.new.self.finished.items u among) in
    subst (λ n. u < n) (c.in_ok-visit.ensures.nodes ∙ sym c.requires.marks) within

pub returns-then-start-len-clause-marked : goal.returns-then-start-len-clause-marked
returns-then-start-len-clause-marked c =
    let old = c.args.walk.now.finished in
    let r = c.in_ok-visit.ensures.reached in
    let m = c.mark_all.ensures in
    let start : c.len-start.result ≡ length old.items = omega (arith, old.ok.0) in
    let end : c.len.result ≡ length c.visit.new.self.finished.items = omega (arith, c.visit.new.self.finished.ok.0) in
    let part = new_part c.as_slice.result.now old.items r.more c.len-start.result (c.as_slice.ensures.value ∙ r.parts) start in
    let rooted : Contains r.more c.args.root = subst (λ l. Contains l c.args.root) (append-nil r.more) r.rooted in
    let size : length c.visit.new.self.finished.items ≡ length old.items + length r.more = ap length r.parts ∙ length-append old.items r.more in
    let more_than = c.if-start-len.true in
    let long : 1 < length r.more = omega arith in
    record {
      more = r.more;
      parts = r.parts;
      rooted = subst (λ l. Contains l c.args.root) (sym r.parts) (Contains-append_right old.items r.more c.args.root rooted);
      first = λ u h. rooted;
      each = λ u h. r.each u (Contains-append_left r.more [] u h);
      nodes = m.nodes;
      kept = m.kept;
      marked = λ u h. elim (m.marked u h) [
        | inl before ↦ inl before
        | inr among ↦ inr (subst (λ l. Contains l u) part among, long)
      ];
      all = λ h u among. m.each u (subst (λ l. Contains l u) (sym part) among);
    }

pub returns-else-start-len-clause-marked : goal.returns-else-start-len-clause-marked
returns-else-start-len-clause-marked c =
    let old = c.args.walk.now.finished in
    let r = c.in_ok-visit.ensures.reached in
    let start : c.len-start.result ≡ length old.items = omega (arith, old.ok.0) in
    let end : c.len.result ≡ length c.visit.new.self.finished.items = omega (arith, c.visit.new.self.finished.ok.0) in
    let rooted : Contains r.more c.args.root = subst (λ l. Contains l c.args.root) (append-nil r.more) r.rooted in
    let size : length c.visit.new.self.finished.items ≡ length old.items + length r.more = ap length r.parts ∙ length-append old.items r.more in
    let no_more = c.if-start-len.false in
    record {
      more = r.more;
      parts = r.parts;
      rooted = subst (λ l. Contains l c.args.root) (sym r.parts) (Contains-append_right old.items r.more c.args.root rooted);
      first = λ u h. rooted;
      each = λ u h. r.each u (Contains-append_left r.more [] u h);
      nodes = refl;
      kept = λ u h. h;
      marked = λ u h. inl h;
      all = λ long u among. absurd (let no : ⊥ = omega arith in no);
    }
