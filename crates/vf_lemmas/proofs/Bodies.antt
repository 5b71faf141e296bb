-- An accepted body of a lemma gives the postcondition, where the lemmas that it calls hold of the parts that they are called with.
use Rattle.std.proofs.Common.{◌≡◌, ℕ, ◌<◌, true, not, List, [], slice_get, Some, refl, sym, ap, ap₂, subst, ◌∙◌, ◌⊎◌, inl, inr, arith}
use Rattle.std.proofs.lemmas.Bool.{cases_Bool}
use Rattle.vf_tree.specs.Core.{ProgramTree}
use Rattle.vf_meaning.specs.Fractions.{whole, IsPositive}
use Rattle.vf_meaning.specs.Ghost.{Name, Numbered, CurrentThread, Variable, Not}
use Rattle.vf_meaning.specs.Valuations.{Valuation, size, is_true}
use Rattle.vf_meaning.specs.Assertions.{BodyOf, Environment}
use Rattle.vf_meaning.specs.Environments.{MayLeak}
use Rattle.vf_meaning.specs.Sorts.{AreOfSorts}
use Rattle.vf_meaning.specs.Parts.{Part, nothing, ◌⊕◌, IsSum}
use Rattle.vf_meaning.specs.Satisfaction.{SatisfiesAt, Satisfies}
use Rattle.vf_meaning.proofs.Parts.{sums_turn, sums_regroup, nothing_is_neutral, nothing-⊕, not_nought}
use Rattle.vf_meaning.specs.Kept.{IsFixed}
use Rattle.vf_rules.specs.Terms.{Term}
use Rattle.vf_rules.specs.Terms as terms
use Rattle.vf_rules.specs.States.{Holds, SymbolicState, value_in, StoreMeans, StandsFor}
use Rattle.vf_rules.specs.Types.{IsTypedPart}
use Rattle.vf_rules.specs.Produce.{Produce}
use Rattle.vf_rules.specs.Laws.{Outcome, IsAmong}
use Rattle.vf_rules.specs.Predicates.{store_of}
use Rattle.vf_rules.specs.Accept.{all_of_it, call_store, AreFixed}
use Rattle.vf_rules.proofs.Terms.{stored_other}
use Rattle.vf_rules.proofs.Stands.{assuming_stands}
use Rattle.vf_rules.proofs.Produces.{produced, typed_left, typed_right}
use Rattle.vf_rules.proofs.Takes.{changes_stand}
use Rattle.vf_rules.proofs.Consumes.{consumed}
use Rattle.vf_rules.proofs.Opening.{opening_keeps, closing_keeps, still_mean, completed, completed_means, completed_sorted}
use Rattle.vf_rules.proofs.Loops.{store_sorted}
use Rattle.vf_rules.specs.Lemmas.{OnArgument, LemmaTree, Gives, AreGhostValues}
use Rattle.vf_lemmas.specs.Depths.{rest_of, Aside}
use Rattle.vf_lemmas.specs.Proves.{MayCall, earlier, whole_cell_left, smaller_argument, Proves, may_end, may_drop, may_change, may_open, may_close, may_see, may_split, may_know, may_leak, may_call, may_call_held, may_put_back, may_split_aside, may_open_aside, may_call_inside}
use Rattle.vf_lemmas.proofs.Ends.{end_gives}
use Rattle.vf_lemmas.proofs.Masses.{HasMass, mass_left, mass_falls}
use Rattle.vf_lemmas.proofs.Cells.{whole_cell}
use Rattle.vf_rules.proofs.LemmaCalls.{sorted_arguments, called_thread, lemma_called}
use Rattle.vf_lemmas.proofs.Asides.{only_left, FirstAt, first_back, IsBelow, AsideMeans, less_below}
use Rattle.vf_lemmas.proofs.Around.{HasFall, Around, part_typed, with_less, back, split_around, still_named, opened_around}

positive_whole : IsPositive whole
positive_whole = omega arith

nothing_typed : (e : Environment) (p : ProgramTree) → IsTypedPart e p nothing
unfolding nothing
nothing_typed e p l c positive = absurd (not_nought (nothing l c) refl positive)

-- ---- what is given of a part is given of what more there is, the rest being leaked
sums_nothing : (a b r : Part) → a ≡ nothing → b ≡ nothing → IsSum a b r → r ≡ nothing
sums_nothing a b r h k s = s.adds ∙ ap₂ (λ x y. x ⊕ y) h k ∙ nothing-⊕ nothing

pub with_leaked : (e : Environment) (own : LemmaTree) (w : Valuation) (left off q : Part) → IsSum left off q → ((MayLeak e (BodyOf own.identity) → ⊥) → off ≡ nothing) → Gives e own w left → Gives e own w q
with_leaked e own w left off q sums none g =
    let (more, both, all) = sums_regroup g.kept g.leaked left off q g.sums sums in
    record { kept = g.kept; leaked = more; sums = all; ensured = g.ensured; unleaked = λ h. sums_nothing g.leaked off more (g.unleaked h) (none h) both }

-- what is given under a valuation that has the fixed names is given under the one from the beginning
regiven : (e : Environment) (own : LemmaTree) (names w : Valuation) (p q : Part) → ((x : Name) → IsFixed own.contract x → names x ≡ w x) → q ≡ p → Gives e own names p → Gives e own w q
regiven e own names w p q same is g = record {
  kept = g.kept;
  leaked = g.leaked;
  sums = subst (λ z. IsSum g.kept g.leaked z) (sym is) g.sums;
  ensured = record { later = (g.ensured).later; fixed = λ x f. (g.ensured).fixed x f ∙ same x f; sorts = (g.ensured).sorts; satisfies = (g.ensured).satisfies };
  unleaked = g.unleaked;
}

module _ (e : Environment) (p : ProgramTree) (lemmas : List LemmaTree) (own : LemmaTree) (place : ℕ) where
  -- a called lemma stands earlier, or it is the own one with a part that owns less, or with one that owns no more and what falls is smaller
  abbrev pub Lower : ℕ → ℕ → ℕ → Valuation → Part → Type 0
  Lower n m number u q = (number < place) ⊎ ((number ≡ place) × (((j : ℕ) × (j < m) × HasMass j q) ⊎ (HasMass m q × ((j : ℕ) × (j < n) × HasFall e own.contract own.falls u q j))))

  -- each lemma that may be called, where what falls has size n and the own part owns at most m, gives its postcondition
  abbrev pub Usable : ℕ → ℕ → Type 0
  Usable n m = (number : ℕ) (lemma : LemmaTree) → slice_get lemmas number ≡ Some lemma → (under : Valuation) (q : Part) → AreGhostValues e under lemma.contract.sorts → IsTypedPart e p q → Satisfies e whole lemma.contract.requires_this under q
      → Lower n m number under q → Gives e lemma under q

  -- where a value falls its size is n at the beginning
  abbrev pub IsSized : Valuation → ℕ → Type 0
  IsSized w n = (k : ℕ) → own.falls ≡ OnArgument k → size (w (Numbered k)) ≡ n

  argument_there : (ts : List Term) (n : ℕ) (z : Term) → slice_get ts n ≡ Some z → call_store ts (Numbered n) ≡ Some z
  argument_there ts n z is = stored_other (store_of ts) CurrentThread (Numbered n) (Variable CurrentThread) (λ c. clash c) ∙ is
    where
      clash : Numbered n ≡ CurrentThread → ⊥
      clash c = cc

  -- a call that is allowed is of an earlier lemma, or with less or a smaller value
  lower_call : (v u w names under : Valuation) (st left_state : SymbolicState) (ts : List Term) (part off left : Part) (n m number : ℕ) → StandsFor e v st [] names part → StandsFor e u left_state [] names left → IsSum off left part → HasMass m part
      → ((x : Name) → IsFixed own.contract x → names x ≡ w x) → IsSized w n → ((k : ℕ) (z : Term) → slice_get ts k ≡ Some z → under (Numbered k) ≡ value_in e v z)
      → MayCall e own place st ts left_state number → Lower n m number under off
  lower_call v u w names under st left_state ts part off left n m number stands after sums mass fixed sized is (earlier h) = inl h
  lower_call v u w names under st left_state ts part off left n m number stands after sums mass fixed sized is (whole_cell_left has) =
      let at = whole_cell e u left_state left has after.path after.chunks_mean in
      inr (refl, inl (mass_falls m off left part at.0 at.1 sums at.2 mass))
  lower_call v u w names under st left_state ts part off left n m number stands after sums mass fixed sized is (smaller_argument k t z falls parameter passed had less) =
      let l = less.by v stands.path in
      let own_size : size (value_in e v z) ≡ n = ap size (stands.names_mean (Numbered k) z had ∙ fixed (Numbered k) (inl parameter)) ∙ sized k falls in
      inr (
        refl,
        inr (
          mass_left m off left part sums mass,
          (
            size (under (Numbered k)),
            subst (λ y. size y < n) (sym (is k t passed)) (subst (λ y. size (value_in e v t) < y) own_size l),
            subst (λ f. HasFall e own.contract f under off (size (under (Numbered k)))) (sym falls) refl,
          ),
        ),
      )

  -- after a call
  after_call : (callee : LemmaTree) (outs : List Outcome) → (MayLeak e (BodyOf callee.identity) → MayLeak e (BodyOf own.identity)) → (asides : List Aside) (w names : Valuation) (n m : ℕ)
      → ((s : terms.Store) (su : SymbolicState) → IsAmong outs s su → (v : Valuation) (part q : Part) → Around e p own names asides w n m part q → StandsFor e v su [] names part → Gives e own w q)
      → (u under : Valuation) (s1 : terms.Store) (st1 : SymbolicState) (off left part q : Part) → IsSum off left part → Around e p own names asides w n m part q → AreFixed callee.contract s1 → StoreMeans e u s1 under
      → Produce e p callee.contract.sorts all_of_it callee.contract.ensures_this s1 st1 (IsAmong outs) → StandsFor e u st1 [] names left → Gives e callee under off → Gives e own w q
  after_call callee outs leaks asides w names n m go u under s1 st1 off left part q sums around fixed means produce stands g =
      let ensured = g.ensured in
      let later_means : StoreMeans e u s1 ensured.later = λ x z h. means x z h ∙ sym (ensured.fixed x (fixed x z h)) in
      let (now, both, all) = sums_regroup g.leaked g.kept off left part (sums_turn g.kept g.leaked off g.sums) sums in
      let typed_now = typed_right e p g.leaked now part all (part_typed e p own names asides w n m part q around) in
      let o = produced e p callee.contract.sorts all_of_it whole (ensured.satisfies).0 [] names callee.contract.ensures_this s1 st1 (IsAmong outs) produce u ensured.later g.kept left now stands later_means ensured.sorts refl positive_whole
      (ensured.satisfies).1 (typed_left e p g.kept left now both typed_now) both in
      let (less, gone, rest) = with_less e p own names asides w n m g.leaked now part q all around in
      with_leaked e own w less g.leaked q (sums_turn g.leaked less q gone) (λ h. g.unleaked (λ l. h (leaks l))) (go o.store o.state o.holds o.under now less rest o.stands)

  -- a state after an assertion over names was produced has the store's names
  renamed : (v names : Valuation) (s : terms.Store) (su : SymbolicState) (part : Part) → StoreMeans e v s names → StandsFor e v su [] names part → StandsFor e v (record su { names = s }) [] names part
  renamed v names s su part means stands = record { path = stands.path; locals_mean = stands.locals_mean; names_mean = means; chunks_mean = stands.chunks_mean }

  under_names : (v names later : Valuation) (st : SymbolicState) (part : Part) → StoreMeans e v st.names later → StandsFor e v st [] names part → StandsFor e v st [] later part
  under_names v names later st part means stands = record { path = stands.path; locals_mean = stands.locals_mean; names_mean = means; chunks_mean = stands.chunks_mean }

  -- what comes back holds less deep than the own first part
  inside_depth : (names : Valuation) (n : ℕ) (b : Aside) (r : Part) → b.inside ≡ true → AsideMeans e names n b r → (j : ℕ) × (j < n) × SatisfiesAt e j whole b.assertion names r
  inside_depth names n b r is h = (h.0, subst (λ z. IsBelow z h.0 n) is h.1, h.2)

  -- ---- the whole body
  pub body_gives : {asides : List Aside} {st : SymbolicState} → Proves e p lemmas own place asides st → slice_get lemmas place ≡ Some own → (w : Valuation) (n m : ℕ) → IsSized w n → Usable n m
      → (v names : Valuation) (part q : Part) → Around e p own names asides w n m part q → StandsFor e v st [] names part → Gives e own w q
  body_gives {asides} {st} (may_end consume) here w n m sized usable v names part q around stands =
      regiven e own names w part q around.fixed (only_left part around.aside q around.asides_mean around.sums) (end_gives e p own st consume v names part stands around.of_sorts)
  body_gives {asides} {st} (may_drop never) here w n m sized usable v names part q around stands = absurd (never.by v stands.path)
  body_gives {asides} {st} (may_change {new = new} changed go) here w n m sized usable v names part q around stands = body_gives go here w n m sized usable v names part q around (changes_stand e v changed [] names part stands)
  body_gives {asides} {st} (may_open outs opens go) here w n m sized usable v names part q around stands =
      let o = opening_keeps e p st outs opens [] names v part stands (part_typed e p own names asides w n m part q around) in
      body_gives (go o.store o.state o.among) here w n m sized usable o.under names part q around o.stands
  body_gives {asides} {st} (may_close outs closes go) here w n m sized usable v names part q around stands =
      let o = closing_keeps e p st outs closes [] names v part stands in
      body_gives (go o.store o.state o.among) here w n m sized usable o.under names part q around o.stands
  body_gives {asides} {st} (may_see fact shown go) here w n m sized usable v names part q around stands =
      body_gives go here w n m sized usable v names part q around (assuming_stands e v st [] names part fact (shown.by v [] names part stands) stands)
  body_gives {asides} {st} (may_split t yes_go no_go) here w n m sized usable v names part q around stands =
      elim (cases_Bool (is_true (value_in e v t))) [
        | inl yes1 ↦ body_gives yes_go here w n m sized usable v names part q around (assuming_stands e v st [] names part (Holds t) yes1 stands)
        | inr no1 ↦ body_gives no_go here w n m sized usable v names part q around (assuming_stands e v st [] names part (Holds (Not t)) (ap not no1) stands)
      ]
  body_gives {asides} {st} (may_know a sorts store outs of_nothing produce go) here w n m sized usable v names part q around stands =
      let known = of_nothing.by v stands.path in
      let o = produced e p sorts all_of_it whole (known.3).0 [] names a store st (IsAmong outs) produce v known.0 nothing part part stands known.1 known.2 refl positive_whole (known.3).1 (nothing_typed e p) (nothing_is_neutral part) in
      body_gives (go o.store o.state o.holds) here w n m sized usable o.under names part q around o.stands
  body_gives {asides} {st} (may_leak a sorts store outs leaks sorted consume go) here w n m sized usable v names part q around stands =
      let c = consumed e p sorts all_of_it whole [] names a store st (IsAmong outs) consume v part stands (store_sorted e v st.path sorts store sorted stands.path) refl in
      let (less, gone, rest) = with_less e p own names asides w n m c.off c.left part q c.sums around in
      with_leaked e own w less c.off q (sums_turn c.off less q gone) (λ h. absurd (h leaks)) (body_gives (go c.store c.state c.holds) here w n m sized usable c.under names c.left less rest c.stands)
  body_gives {asides} {st} (may_call number callee ts outs is leaks inhabited long sorted knows consume go) here w n m sized usable v names part q around stands =
      let c = consumed e p callee.contract.sorts all_of_it whole [] names callee.contract.requires_this (call_store ts) st _ consume v part stands (sorted_arguments e v st.path callee.contract.sorts ts sorted stands.path) refl in
      let under = completed e c.under callee.contract.sorts inhabited c.store in
      let means = completed_means e c.under callee.contract.sorts inhabited c.store in
      let value_is : (k : ℕ) (z : Term) → slice_get ts k ≡ Some z → under (Numbered k) ≡ value_in e v z = λ k z h.
      let there = argument_there ts k z h in
      sym (means (Numbered k) z (c.grows (Numbered k) z there)) ∙ c.stays (Numbered k) z there in
      let typed = part_typed e p own names asides w n m part q around in
      let g = usable number callee is under c.off (completed_sorted e c.under callee.contract.sorts inhabited c.store c.sorted, called_thread e v c.under st.path ts c.store under knows stands.path c.grows c.stays means) (typed_left e p c.off c.left part c.sums typed) (c.depth, c.satisfies under means)
      (lower_call v c.under w names under st c.state ts part c.off c.left n m number stands c.stands c.sums (mass_left m part around.aside q around.sums around.mass) around.fixed sized value_is (c.holds).0) in
      after_call callee outs leaks asides w names n m (λ s su among v2 part2 q2 around2 stands2. body_gives (go s su among) here w n m sized usable v2 names part2 q2 around2 stands2) c.under under c.store c.state c.off c.left part q c.sums around (c.holds).1 means (c.holds).2 c.stands g
  body_gives {asides} {st} (may_call_held lemma ts outs holds leaks inhabited long sorted knows consume go) here w n m sized usable v names part q around stands =
      let o = lemma_called e p lemma ts outs st holds inhabited sorted knows consume [] names v part stands (part_typed e p own names asides w n m part q around) in
      let (less, gone, rest) = with_less e p own names asides w n m o.leaked o.left part q o.sums around in
      with_leaked e own w less o.leaked q (sums_turn o.leaked less q gone) (λ h. o.unleaked (λ l. h (leaks l))) (body_gives (go o.store o.state o.holds) here w n m sized usable o.under names o.left less rest o.stands)
  body_gives {asides} {st} (may_put_back {others = others} b outs taken produce go) here w n m sized usable v names part q around stands =
      let k = back e p own names b taken w n m part q around in
      let typed_now = part_typed e p own names others w n m k.now q k.around in
      let o = produced e p own.contract.sorts all_of_it whole (k.means).0 [] names b.assertion st.names st (IsAmong outs) produce v names k.off part k.now stands stands.names_mean around.of_sorts refl positive_whole (k.means).2 (typed_left e p k.off part k.now k.sums typed_now) k.sums in
      body_gives (go o.store o.state o.holds) here w n m sized usable o.under names k.now q k.around (renamed o.under names o.store o.state k.now o.means o.stands)
  body_gives {asides} {st} (may_split_aside b first second taken splits go) here w n m sized usable v names part q around stands =
      body_gives go here w n m sized usable v names part q (split_around e p own names b first second taken w n m part q (λ j off h. splits.by v stands.path names stands.names_mean j off h) around) stands
  body_gives {asides} {st} (may_open_aside {others = others} b sorts new inner rest outs taken fresh free opens produce go) here w n m sized usable v names part q around stands =
      let k = back e p own names b taken w n m part q around in
      let (j, l, i) = opens.by v stands.path names stands.names_mean (k.means).0 k.off (k.means).2 in
      let means = still_named e p own names i.later new st.names v fresh i.same stands.names_mean in
      let (more, both, now) = opened_around e p own names new st.names inner others w n j m part q fresh free (less_below b.inside (k.means).0 n j (k.means).1 l) i.later i.same i.deep i.left k.off k.now i.sums k.sums i.inner_hold k.around in
      let typed_more = part_typed e p own i.later _ w n m more q now in
      let o = produced e p sorts all_of_it whole i.depth [] i.later rest st.names st (IsAmong outs) produce v i.later i.left part more (under_names v names i.later st part means stands) means i.of_sorts refl positive_whole i.rest_holds (typed_left e p i.left part more both typed_more) both in
      body_gives (go o.store o.state o.holds) here w n m sized usable o.under i.later more q now (renamed o.under i.later o.store o.state more o.means o.stands)
  body_gives {asides} {st} (may_call_inside {others = others} b ts store outs taken inside falls inhabited long knows first consume go) here w n m sized usable v names part q around stands =
      let k = back e p own names b taken w n m part q around in
      let c = consumed e p own.contract.sorts all_of_it whole [] names (rest_of own.contract.requires_this) store st _ consume v part stands (store_sorted e v st.path own.contract.sorts store first.sorted stands.path) refl in
      let under = completed e c.under own.contract.sorts inhabited c.store in
      let means = completed_means e c.under own.contract.sorts inhabited c.store in
      let before = still_mean e v c.under under store c.store c.grows c.stays means in
      let (j, l, holds) = inside_depth names n b k.off inside k.means in
      let fits = first.by v stands.path names stands.names_mean under before j k.off holds in
      let (all, both, whole_is) = sums_regroup c.left c.off part k.off k.now (sums_turn c.off c.left part c.sums) (sums_turn k.off part k.now k.sums) in
      let sums = sums_turn c.left all k.now whole_is in
      let typed = typed_left e p all c.left k.now sums (part_typed e p own names others w n m k.now q k.around) in
      let rest_holds = c.satisfies under means in
      let at : FirstAt e own.contract.requires_this under j all = record { first = k.off; others = c.off; sums = sums_turn c.off k.off all both; first_holds = fits; depth = c.depth; rest_holds = rest_holds } in
      let required = first_back e own.contract.requires_this under j c.depth k.off c.off all (sums_turn c.off k.off all both) fits rest_holds in
      let mass = mass_left m all c.left k.now sums (mass_left m k.now (k.around).aside q (k.around).sums (k.around).mass) in
      let g = usable place own here under all
      (completed_sorted e c.under own.contract.sorts inhabited c.store c.sorted, called_thread e v c.under st.path ts c.store under knows stands.path (λ x z is. c.grows x z (first.grows x z is)) (λ x z is. c.stays x z (first.grows x z is)) means) typed required
      (inr (refl, inr (mass, (j, l, subst (λ f. HasFall e own.contract f under all j) (sym falls) at)))) in
      after_call own outs (λ h. h) others w names n m (λ s su among v2 part2 q2 around2 stands2. body_gives (go s su among) here w n m sized usable v2 names part2 q2 around2 stands2) c.under under c.store c.state all c.left k.now q sums k.around (c.holds).0 means (c.holds).1 c.stands g
