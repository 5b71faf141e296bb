use Rattle.std.proofs.Common.{◌≡◌, [], ◌++◌, length, take, drop, map, get_or, sym, ap, subst, ◌∙◌}
use Rattle.std.specs.Prelude.{Contains, ◌==◌, filter, slice_index}
use Rattle.vf_cycles.specs.Graphs.{AreEdges, MarksCycles, IsOrder}
use Rattle.vf_link.specs.declared.statement.Topic.TheVariants.{Calls}
use Rattle.vf_link.specs.Statements.{all_lines, statements, subjects, place}
use Rattle.vf_link.specs.Least.{HasNone, IsLeastOf, IsMarkedText}
use Rattle.vf_link.specs.Linking.{CallsItself, IsCallOrder}
use Rattle.vf_link.proofs.Calling.{names, edges, least_itself, acyclic, order_is}
use Rattle.vf_link.proofs.call_order.calls_of.Goals as goal

pub find_cycles-requires : goal.find_cycles-requires
find_cycles-requires c =
    let ls = all_lines c.args.manifests.now in
    let xs = statements Calls ls in
    let texts = c.append.new.self in
    let firsts = c.in_ok-firsts.firsts.items in
    let front = c.split_at.result.0.now in
    let behind = c.split_at.result.1.now in
    let count = c.len-count.result in
    let subjects_len : count ≡ length c.in_ok-calls.calls.subjects = c.len-count.ensures in
    let counted : count ≡ length (subjects xs) = subjects_len ∙ ap length c.in_ok-calls.ensures.subjects in
    let texts_are : texts ≡ names xs = c.in_ok-append.ensures ∙ ap (λ s. s ++ c.in_ok-calls.calls.contents) c.in_ok-calls.ensures.subjects ∙ ap (λ t. subjects xs ++ t) c.in_ok-calls.ensures.contents in
    let firsts_are : firsts ≡ map (place texts) texts = c.in_ok-firsts.ensures in
    let front_is : front ≡ take count firsts = c.split_at.ensures.front ∙ ap (take count) c.deref.ensures.value in
    let behind_is : behind ≡ drop count firsts = c.split_at.ensures.back ∙ ap (drop count) c.deref.ensures.value in
    let long : c.len.result ≡ length texts = c.len.ensures in
    subst (λ n. AreEdges n front behind) (sym long) (edges ls texts firsts front behind count texts_are firsts_are counted front_is behind_is)

pub returns-in-Some : goal.returns-in-Some
returns-in-Some c =
    let ls = all_lines c.args.manifests.now in
    let xs = statements Calls ls in
    let texts = c.append.new.self in
    let firsts = c.in_ok-firsts.firsts.items in
    let front = c.split_at.result.0.now in
    let behind = c.split_at.result.1.now in
    let count = c.len-count.result in
    let subjects_len : count ≡ length c.in_ok-calls.calls.subjects = c.len-count.ensures in
    let counted : count ≡ length (subjects xs) = subjects_len ∙ ap length c.in_ok-calls.ensures.subjects in
    let texts_are : texts ≡ names xs = c.in_ok-append.ensures ∙ ap (λ s. s ++ c.in_ok-calls.calls.contents) c.in_ok-calls.ensures.subjects ∙ ap (λ t. subjects xs ++ t) c.in_ok-calls.ensures.contents in
    let firsts_are : firsts ≡ map (place texts) texts = c.in_ok-firsts.ensures in
    let front_is : front ≡ take count firsts = c.split_at.ensures.front ∙ ap (take count) c.deref.ensures.value in
    let behind_is : behind ≡ drop count firsts = c.split_at.ensures.back ∙ ap (drop count) c.deref.ensures.value in
    let long : c.len.result ≡ length texts = c.len.ensures in
    let marks = c.in_ok-cycles.cycles.marks.items in
    let marked : MarksCycles (length texts) front behind marks = subst (λ n. MarksCycles n front behind marks) long c.in_ok-cycles.ensures.marks in
    let least : IsLeastOf (IsMarkedText Calls texts marks) c.in_ok-lemma.field-0 =
    subst (λ l. IsLeastOf (IsMarkedText Calls texts l) c.in_ok-lemma.field-0) c.as_slice.ensures.value c.in_ok-lemma.ensures in
    let itself = least_itself ls texts firsts front behind count texts_are firsts_are counted front_is behind_is marks marked c.in_ok-lemma.field-0 least in
    subst (IsLeastOf (CallsItself ls)) c.in-Some.is itself

pub in_order-requires-clause-within : goal.in_order-requires-clause-within
in_order-requires-clause-within c =
    let ls = all_lines c.args.manifests.now in
    let xs = statements Calls ls in
    let texts = c.append.new.self in
    let firsts = c.in_ok-firsts.firsts.items in
    let front = c.split_at.result.0.now in
    let behind = c.split_at.result.1.now in
    let count = c.len-count.result in
    let subjects_len : count ≡ length c.in_ok-calls.calls.subjects = c.len-count.ensures in
    let counted : count ≡ length (subjects xs) = subjects_len ∙ ap length c.in_ok-calls.ensures.subjects in
    let texts_are : texts ≡ names xs = c.in_ok-append.ensures ∙ ap (λ s. s ++ c.in_ok-calls.calls.contents) c.in_ok-calls.ensures.subjects ∙ ap (λ t. subjects xs ++ t) c.in_ok-calls.ensures.contents in
    let firsts_are : firsts ≡ map (place texts) texts = c.in_ok-firsts.ensures in
    let front_is : front ≡ take count firsts = c.split_at.ensures.front ∙ ap (take count) c.deref.ensures.value in
    let behind_is : behind ≡ drop count firsts = c.split_at.ensures.back ∙ ap (drop count) c.deref.ensures.value in
    let long : c.len.result ≡ length texts = c.len.ensures in
    let marks = c.in_ok-cycles.cycles.marks.items in
    let marked : MarksCycles (length texts) front behind marks = subst (λ n. MarksCycles n front behind marks) long c.in_ok-cycles.ensures.marks in
    let least : IsLeastOf (IsMarkedText Calls texts marks) c.in_ok-lemma.field-0 =
    subst (λ l. IsLeastOf (IsMarkedText Calls texts l) c.in_ok-lemma.field-0) c.as_slice.ensures.value c.in_ok-lemma.ensures in
    let itself = least_itself ls texts firsts front behind count texts_are firsts_are counted front_is behind_is marks marked c.in_ok-lemma.field-0 least in
    let none : HasNone (CallsItself ls) = subst (IsLeastOf (CallsItself ls)) c.in-None.is itself in
    let order = c.in_ok-cycles.cycles.order.items in
    let ordered : IsOrder (length texts) front behind order = subst (λ n. IsOrder n front behind order) long (c.in_ok-cycles.ensures.order (acyclic ls texts firsts front behind count texts_are firsts_are counted front_is behind_is none)) in
    λ u h. ordered.nodes u (subst (λ l. Contains l u) c.as_slice-in-None.ensures.value h)

pub returns : goal.returns
returns c =
    let ls = all_lines c.args.manifests.now in
    let xs = statements Calls ls in
    let texts = c.append.new.self in
    let firsts = c.in_ok-firsts.firsts.items in
    let front = c.split_at.result.0.now in
    let behind = c.split_at.result.1.now in
    let count = c.len-count.result in
    let subjects_len : count ≡ length c.in_ok-calls.calls.subjects = c.len-count.ensures in
    let counted : count ≡ length (subjects xs) = subjects_len ∙ ap length c.in_ok-calls.ensures.subjects in
    let texts_are : texts ≡ names xs = c.in_ok-append.ensures ∙ ap (λ s. s ++ c.in_ok-calls.calls.contents) c.in_ok-calls.ensures.subjects ∙ ap (λ t. subjects xs ++ t) c.in_ok-calls.ensures.contents in
    let firsts_are : firsts ≡ map (place texts) texts = c.in_ok-firsts.ensures in
    let front_is : front ≡ take count firsts = c.split_at.ensures.front ∙ ap (take count) c.deref.ensures.value in
    let behind_is : behind ≡ drop count firsts = c.split_at.ensures.back ∙ ap (drop count) c.deref.ensures.value in
    let long : c.len.result ≡ length texts = c.len.ensures in
    let marks = c.in_ok-cycles.cycles.marks.items in
    let marked : MarksCycles (length texts) front behind marks = subst (λ n. MarksCycles n front behind marks) long c.in_ok-cycles.ensures.marks in
    let least : IsLeastOf (IsMarkedText Calls texts marks) c.in_ok-lemma.field-0 =
    subst (λ l. IsLeastOf (IsMarkedText Calls texts l) c.in_ok-lemma.field-0) c.as_slice.ensures.value c.in_ok-lemma.ensures in
    let itself = least_itself ls texts firsts front behind count texts_are firsts_are counted front_is behind_is marks marked c.in_ok-lemma.field-0 least in
    let none : HasNone (CallsItself ls) = subst (IsLeastOf (CallsItself ls)) c.in-None.is itself in
    let order = c.in_ok-cycles.cycles.order.items in
    let ordered : IsOrder (length texts) front behind order = subst (λ n. IsOrder n front behind order) long (c.in_ok-cycles.ensures.order (acyclic ls texts firsts front behind count texts_are firsts_are counted front_is behind_is none)) in
    let listed = c.in_ok-in_order-in-None.ensures
    ∙ ap (λ fs. map (λ u. get_or texts u []) (filter (λ u. slice_index fs u == u) c.as_slice-in-None.result.now)) c.as_slice-in-None-2.ensures.value
    ∙ ap (λ l. map (λ u. get_or texts u []) (filter (λ u. slice_index firsts u == u) l)) c.as_slice-in-None.ensures.value in
    (none, subst (IsCallOrder ls) (sym listed) (order_is ls texts firsts front behind count texts_are firsts_are counted front_is behind_is order ordered))
