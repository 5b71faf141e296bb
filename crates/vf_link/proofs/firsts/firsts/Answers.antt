use Rattle.std.proofs.Common.{◌≡◌, ℕ, List, [], cond, get_or, length, take, true, Bor, Some, None, refl, sym, ap, subst, ◌<◌, ◌∙◌, arith}
use Rattle.std.specs.List.{position_from}
use Rattle.std.specs.HashMap.{get_by}
use Rattle.std.specs.Str.{bytes_eq}
use Rattle.std.proofs.lemmas.Map.Text.{hash_map_updates_str}
use Rattle.vf_link.proofs.Lists.{same_items}
use Rattle.vf_link.proofs.Finding.{place_found, place_new, one_more, found_before, places_so_far, place_so_far, put_back, same_bytes, look_up_same, look_up_more, same_look_up}
use Rattle.vf_link.proofs.firsts.firsts.Goals as goal
use Rattle.vf_link.proofs.firsts.firsts.Goals.{then-is_first+in_ok-push, else-is_first+in_ok-insert+in-None+in_ok-push-in-None, else-is_first+in_ok-insert+in-Some+in_ok-insert-in-Some+in_ok-push-in-Some}

pub loop-at-preserved : goal.loop-at-preserved
loop-at-preserved c =
    let texts = c.args.texts.now in
    let at = c.loop-at.at in
    let within = subst (λ n. c.loop-at.at < n) c.len-at-end.ensures c.loop-at-test.true in
    let inv = c.loop-at.invariant in
    let key = c.get-text.result.now in
    let text : key ≡ get_or texts at [] = c.get-text.ensures in
    let fs = c.loop-at.firsts.items in
    let seen : c.as_slice.result.now ≡ fs = c.as_slice.ensures.value in
    elim c.if-is_first.branch [
      | then-is_first+in_ok-push w ↦
          (let f = c.loop-at.guess in
          let is = c.is_first.ensures.0 w.if-is_first.true in
          let early : f < length fs = subst (λ l. f < length l) seen is.0 in
          let many : length fs ≡ at = places_so_far texts at within fs inv.firsts in
          let before : f < at = omega arith in
          let first : get_or fs f 0 ≡ f = subst (λ l. get_or l f 0 ≡ f) seen is.1 in
          let same : get_or texts f [] ≡ get_or texts at [] = is.2 ∙ text in
          let found : position_from (bytes_eq (get_or texts at [])) 0 (take at texts) ≡ Some f =
          found_before texts at within f before (sym (place_so_far texts at within fs f inv.firsts before) ∙ first) same in
          record {
            places = λ q. same_look_up c.if-is_first.places c.loop-at.places w.places-is q ∙ inv.places q ∙ look_up_same texts at within f found q;
            firsts = same_items c.if-is_first.firsts w.push.new.self w.firsts-is ∙ w.in_ok-push.ensures.items
                ∙ one_more texts at within fs f inv.firsts (place_found texts at within f found);
          })
      | else-is_first+in_ok-insert+in-None+in_ok-push-in-None w ↦
          (let looked_up : get_by (λ (k : Bor (List ℕ)). bytes_eq key k.now) c.loop-at.places ≡ position_from (bytes_eq (get_or texts at [])) 0 (take at texts) =
          inv.places key ∙ ap (λ t. position_from (bytes_eq t) 0 (take at texts)) text in
          let new : position_from (bytes_eq (get_or texts at [])) 0 (take at texts) ≡ None = sym looked_up ∙ sym w.in_ok-insert.ensures.old ∙ w.in-None.is in
          record {
            places = λ q. same_look_up c.if-is_first.places w.insert.new.self w.places-is q
                ∙ hash_map_updates_str key c.loop-at.places w.insert.new.self (Some at) w.in_ok-insert.ensures.updates q
                ∙ ap (λ t. cond (bytes_eq t q) (Some at) (get_by (λ (k : Bor (List ℕ)). bytes_eq q k.now) c.loop-at.places)) text
                ∙ look_up_more texts at within new q (get_by (λ (k : Bor (List ℕ)). bytes_eq q k.now) c.loop-at.places) (inv.places q);
            firsts = same_items c.if-is_first.firsts w.push-in-None.new.self w.firsts-is ∙ w.in_ok-push-in-None.ensures.items
                ∙ one_more texts at within fs at inv.firsts (place_new texts at within new);
          })
      | else-is_first+in_ok-insert+in-Some+in_ok-insert-in-Some+in_ok-push-in-Some w ↦
          (let first = w.in-Some.first in
          let looked_up : get_by (λ (k : Bor (List ℕ)). bytes_eq key k.now) c.loop-at.places ≡ position_from (bytes_eq (get_or texts at [])) 0 (take at texts) =
          inv.places key ∙ ap (λ t. position_from (bytes_eq t) 0 (take at texts)) text in
          let was : get_by (λ (k : Bor (List ℕ)). bytes_eq key k.now) c.loop-at.places ≡ Some first = sym w.in_ok-insert.ensures.old ∙ w.in-Some.is in
          let found : position_from (bytes_eq (get_or texts at [])) 0 (take at texts) ≡ Some first = sym looked_up ∙ was in
          record {
            places = λ q. same_look_up c.if-is_first.places w.insert-in-Some.new.self w.places-is q
                ∙ hash_map_updates_str key w.insert.new.self w.insert-in-Some.new.self (Some first) w.in_ok-insert-in-Some.ensures.updates q
                ∙ ap (λ o. cond (bytes_eq key q) (Some first) o) (hash_map_updates_str key c.loop-at.places w.insert.new.self (Some at) w.in_ok-insert.ensures.updates q)
                ∙ put_back key q at first (get_by (λ (k : Bor (List ℕ)). bytes_eq q k.now) c.loop-at.places)
                (λ e. ap (λ t. get_by (λ (k : Bor (List ℕ)). bytes_eq t k.now) c.loop-at.places) (sym (same_bytes key q true e refl)) ∙ was)
                ∙ inv.places q ∙ look_up_same texts at within first found q;
            firsts = same_items c.if-is_first.firsts w.push-in-Some.new.self w.firsts-is ∙ w.in_ok-push-in-Some.ensures.items
                ∙ one_more texts at within fs first inv.firsts (place_found texts at within first found);
          })
    ]
