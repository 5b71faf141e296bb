-- The rules keep the sorts and ranges of symbolic states.
use Rattle.std.proofs.Common.{◌≡◌, ℕ, ℤ, Bool, true, false, cond, zero, suc, ◌-◌, List, [], ◌∷◌, ◌++◌, drop, map, slice_get, slice_set, Option, Some, None, refl, sym, ap, subst, ◌∙◌, ◌⊎◌, inl, inr, arith}
use Rattle.std.specs.Prelude.{◌≤ℤ◌, ◌==◌, int_le}
use Rattle.std.proofs.lemmas.Int.{ints}
use Rattle.std.proofs.lemmas.Bool.Decides.{nat_tests}
use Rattle.vf_tree.specs.Core.{Identity, Field, TypeTree, ProgramTree, NotEqual}
use Rattle.vf_model.specs.Values.{number_of}
use Rattle.vf_model.specs.Integers.{least, greatest}
use Rattle.vf_meaning.specs.Ghost.{Sort, Pointers, Null, Compare}
use Rattle.vf_meaning.specs.Valuations.{Valuation}
use Rattle.vf_meaning.specs.Assertions.{ShareTree, Times, Taken, PatternTree, Is, Names, Wild, Assertion, Pure, Empty, Both, Choose, Switch, Cell, Chunk, Branches, no_branches, branch, Environment}
use Rattle.vf_rules.specs.Terms.{Term, Store}
use Rattle.vf_rules.specs.Fresh.{symbol}
use Rattle.vf_rules.specs.States.{Fact, Holds, OfSort, value_in, CellOf, Of, SymbolicChunk, SymbolicState, Meets, Entails, assuming, assuming_all, with_chunk, with_chunks}
use Rattle.vf_rules.specs.Types.{type_of_field, facts_of_type}
use Rattle.vf_rules.specs.Produce.{facts_of_cell, NoArgumentSort, Given, ProducePatterns, ProduceShare, Produce, ProduceBranches}
use Rattle.vf_rules.specs.Take.{Takes, takes_all, takes_part, takes_later, Removes, removes_here, removes_later, joined, Joins, Merges, merges_here, merges_rows, merges_later, Replaces, replaces_here, replaces_later, Change, learns, merges, names_value, makes_value, Changes, no_change, and_change}
use Rattle.vf_rules.specs.Consume.{EntailsAll, ConsumePatterns, ConsumeShare, Consume, ConsumeBranches}
use Rattle.vf_rules.specs.Laws.{IsAmong}
use Rattle.vf_rules.specs.Accept.{cell_chunk, block_chunk, new_chunks}
use Rattle.vf_rules.specs.Ranges.{LocalsTyped, ContentTyped, ContentsTyped, IsTypedState, FactsKeepTypes, ChangesKeepTypes, SettingKeepsTypes, LoadingKeepsTypes, TakingKeepsTypes, StoringKeepsTypes, AllocatingKeepsTypes, NamingKeepsTypes, ProducingKeepsTypes, ConsumingKeepsTypes, RangesWiden}

some_same : {A : Type 0} {x y : A} → Some x ≡ Some y → x ≡ y
some_same e = cc

none_some : {A B : Type 0} {x : A} → None ≡ Some x → B
none_some e = cc

head_clash : {A : Type 0} {f : Field} {h : _} → Of h ≡ CellOf f → A
head_clash e = cc

field_same : {f g : Field} → CellOf f ≡ CellOf g → f ≡ g
field_same e = cc

-- ---- longer paths
module _ (e : Environment) where
  meets_front : (v : Valuation) (fs gs : List Fact) → Meets e v (fs ++ gs) → Meets e v fs
  meets_front v [] gs m = tt
  meets_front v (f ∷ fs) gs m = (m.0, meets_front v fs gs m.1)

  meets_back : (v : Valuation) (fs gs : List Fact) → Meets e v (fs ++ gs) → Meets e v gs
  meets_back v [] gs m = m
  meets_back v (f ∷ fs) gs m = meets_back v fs gs m.1

  entails_more : (path gs : List Fact) (f : Fact) → Entails e path f → Entails e (path ++ gs) f
  entails_more path gs f h = record { by = λ v m. h.by v (meets_front v path gs m) }

  all_more : (path gs fs : List Fact) → EntailsAll e path fs → EntailsAll e (path ++ gs) fs
  all_more path gs [] h = tt
  all_more path gs (f ∷ fs) h = (entails_more path gs f h.0, all_more path gs fs h.1)

  all_met : (path fs : List Fact) → ((v : Valuation) → Meets e v path → Meets e v fs) → EntailsAll e path fs
  all_met path [] h = tt
  all_met path (f ∷ fs) h = (record { by = λ v m. (h v m).0 }, all_met path fs (λ v m. (h v m).1))

  locals_more : (path gs : List Fact) (types : List TypeTree) (ts : List (Option Term)) → LocalsTyped e path types ts → LocalsTyped e (path ++ gs) types ts
  locals_more path gs [] [] h = tt
  locals_more path gs [] (t ∷ ts) h = absurd h
  locals_more path gs (type ∷ types) [] h = absurd h
  locals_more path gs (type ∷ types) (None ∷ ts) h = locals_more path gs types ts h
  locals_more path gs (type ∷ types) (Some t ∷ ts) h = (all_more path gs (facts_of_type type t) h.0, locals_more path gs types ts h.1)

  local_set : (path : List Fact) (types : List TypeTree) (ts : List (Option Term)) (x : ℕ) (type : TypeTree) (t : Term) → slice_get types x ≡ Some type → EntailsAll e path (facts_of_type type t) → LocalsTyped e path types ts
      → LocalsTyped e path types (slice_set ts x (Some t))
  local_set path [] [] x type t is own h = none_some is
  local_set path [] (u ∷ ts) x type t is own h = absurd h
  local_set path (k ∷ types) [] x type t is own h = absurd h
  local_set path (k ∷ types) (None ∷ ts) zero type t is own h = (subst (λ z. EntailsAll e path (facts_of_type z t)) (sym (some_same is)) own, h)
  local_set path (k ∷ types) (Some u ∷ ts) zero type t is own h = (subst (λ z. EntailsAll e path (facts_of_type z t)) (sym (some_same is)) own, h.1)
  local_set path (k ∷ types) (None ∷ ts) (suc x) type t is own h = local_set path types ts x type t is own h
  local_set path (k ∷ types) (Some u ∷ ts) (suc x) type t is own h = (h.0, local_set path types ts x type t is own h.1)

  module _ (p : ProgramTree) where
    contents_more : (path gs : List Fact) (cs : List SymbolicChunk) → ContentsTyped e p path cs → ContentsTyped e p (path ++ gs) cs
    contents_more path gs [] h = tt
    contents_more path gs (c ∷ cs) h = (λ f u w us type head arguments at. all_more path gs (facts_of_type type w) (h.0 f u w us type head arguments at), contents_more path gs cs h.1)

    contents_add : (path : List Fact) (cs ds : List SymbolicChunk) → ContentsTyped e p path cs → ContentsTyped e p path ds → ContentsTyped e p path (cs ++ ds)
    contents_add path [] ds h k = k
    contents_add path (c ∷ cs) ds h k = (h.0, contents_add path cs ds h.1 k)

    -- a chunk that is no cell
    no_cell : (path : List Fact) (c : SymbolicChunk) (h : _) → c.head ≡ Of h → ContentTyped e p path c
    no_cell path c h is f u w us type head arguments at = head_clash (sym is ∙ head)

    removed : (path : List Fact) (c : SymbolicChunk) {cs ds : List SymbolicChunk} → Removes c cs ds → ContentsTyped e p path cs → ContentTyped e p path c × ContentsTyped e p path ds
    removed path c removes_here h = (h.0, h.1)
    removed path c (removes_later r) h = let k = removed path c r h.1 in (k.0, (h.0, k.1))

    taken : (path : List Fact) (wanted : Term) (c : SymbolicChunk) {cs ds : List SymbolicChunk} → Takes e path wanted c cs ds → ContentsTyped e p path cs → ContentsTyped e p path ds
    taken path wanted c (takes_all same) h = h.1
    taken path wanted c (takes_part left splits) h = (λ f u w us type head arguments at. h.0 f u w us type head arguments at, h.1)
    taken path wanted c (takes_later t) h = (h.0, taken path wanted c t h.1)

    replaced : (path : List Fact) (c d : SymbolicChunk) → ContentTyped e p path d → {cs ds : List SymbolicChunk} → Replaces c d cs ds → ContentsTyped e p path cs → ContentsTyped e p path ds
    replaced path c d own replaces_here h = (own, h.1)
    replaced path c d own (replaces_later r) h = (h.0, replaced path c d own r h.1)

    -- ---- joined chunks
    first_known : {t w : Term} {ts us : List (Option Term)} → Some t ∷ ts ≡ Some w ∷ us → t ≡ w
    first_known h = cc

    first_unknown : {u : Option Term} {w : Term} {ts us : List (Option Term)} → u ∷ ts ≡ Some w ∷ us → u ≡ Some w
    first_unknown h = cc

    no_first : {A : Type 0} {w : Term} {us : List (Option Term)} → [] ≡ Some w ∷ us → A
    no_first h = cc

    arguments_same : {t u w : Term} {ts us : List (Option Term)} → Some t ∷ ts ≡ Some u ∷ Some w ∷ us → ts ≡ Some w ∷ us
    arguments_same h = cc

    -- where the second argument of the joined chunks is known it is so in one of both
    second_of : (ts us rest : List (Option Term)) (w : Term) → joined ts us ≡ Some w ∷ rest → ((others : List (Option Term)) × (ts ≡ Some w ∷ others)) ⊎ ((others : List (Option Term)) × (us ≡ Some w ∷ others))
    second_of [] us rest w is = no_first is
    second_of (None ∷ ts) [] rest w is = no_first is
    second_of (Some t ∷ ts) [] rest w is = no_first is
    second_of (None ∷ ts) (u ∷ us) rest w is = inr (us, ap (λ z. z ∷ us) (first_unknown is))
    second_of (Some t ∷ ts) (u ∷ us) rest w is = inl (ts, ap (λ z. Some z ∷ ts) (first_known is))

    both_typed : (path facts : List Fact) (c d both : SymbolicChunk) → Joins e path c d both facts → ContentTyped e p path c → ContentTyped e p path d → ContentTyped e p (path ++ facts) both
    both_typed path facts c d both j h k f u w us type head arguments at =
        let one_head : c.head ≡ CellOf f = sym (ap (λ z. z.head) j.both_is) ∙ head in
        let known = arguments_same (sym (ap (λ z. z.arguments) j.both_is) ∙ arguments) in
        all_more path facts (facts_of_type type w) (elim (second_of j.others j.more us w known) [
          | inl o ↦ h f j.first w o.0 type one_head (j.arguments ∙ ap (λ z. Some j.first ∷ z) o.1) at
          | inr o ↦ k f j.second w o.0 type (j.one_head ∙ one_head) (j.further ∙ ap (λ z. Some j.second ∷ z) o.1) at
        ])

    merged : (path facts : List Fact) {cs ds : List SymbolicChunk} → Merges e path facts cs ds → ContentsTyped e p path cs → ContentsTyped e p (path ++ facts) ds
    merged path facts (merges_here {c} {d} {both} r j) h = let k = removed path d r h.1 in (both_typed path facts c d both j h.0 k.0, contents_more path facts _ k.1)
    merged path facts (merges_rows {c} {d} {both} r j) h = let k = removed path d r h.1 in (no_cell (path ++ facts) both _ (ap (λ z. z.head) j.both_is ∙ j.head), contents_more path facts _ k.1)
    merged path facts (merges_later {c} m) h = (λ f u w us type head arguments at. all_more path facts (facts_of_type type w) (h.0 f u w us type head arguments at), merged path facts m h.1)

    -- ---- the invariant
    module _ (types : List TypeTree) (kinds : ℕ → Option Sort) where
      abbrev Typed : SymbolicState → Type 0
      Typed st = IsTypedState e p types kinds st

      facts_kept : (st : SymbolicState) (fs : List Fact) → Typed st → Typed (assuming_all st fs)
      facts_kept st fs h = record { locals = locals_more st.path fs types st.locals h.locals; contents = contents_more st.path fs st.chunks h.contents; symbols = λ y s is. entails_more st.path fs _ (h.symbols y s is) }

      chunks_kept : (st : SymbolicState) (cs : List SymbolicChunk) → Typed st → ContentsTyped e p st.path cs → Typed (with_chunks st cs)
      chunks_kept st cs h k = record { locals = h.locals; contents = k; symbols = h.symbols }

      change_kept : {st new : SymbolicState} → Change e st new → Typed st → Typed new
      change_kept (learns {st} f h) t = facts_kept st (f ∷ []) t
      change_kept (merges {st} cs facts m) t = record { locals = locals_more st.path facts types st.locals t.locals; contents = merged st.path facts m t.contents; symbols = λ y s is. entails_more st.path facts _ (t.symbols y s is) }
      change_kept (names_value {st} c d cs r m) t = chunks_kept st cs t (replaced st.path c d (no_cell st.path d _ r.named_head) m t.contents)
      change_kept (makes_value {st} c d cs r m) t = chunks_kept st cs t (replaced st.path c d (no_cell st.path d _ r.applied_head) m t.contents)

      changes_kept : {st new : SymbolicState} → Changes e st new → Typed st → Typed new
      changes_kept no_change t = t
      changes_kept (and_change c cs) t = changes_kept cs (change_kept c t)

      -- a chunk that is no cell, as the newest
      chunk_kept : (st : SymbolicState) (c : SymbolicChunk) (h : _) → c.head ≡ Of h → Typed st → Typed (with_chunk st c)
      chunk_kept st c h is t = chunks_kept st (st.chunks ++ c ∷ []) t (contents_add st.path st.chunks (c ∷ []) t.contents (no_cell st.path c h is, tt))

      content_known : {t u w : Term} {o : Option Term} {us : List (Option Term)} → Some t ∷ o ∷ [] ≡ Some u ∷ Some w ∷ us → o ≡ Some w
      content_known h = cc

      -- what is known of a new cell is that its content has its type
      cell_typed : (path : List Fact) (share pointer : Term) (o : Option Term) (f : Field)
          → ContentTyped e p (path ++ facts_of_cell (type_of_field p f.structure f.index) (Some pointer ∷ o ∷ [])) (record { share = share; head = CellOf f; arguments = Some pointer ∷ o ∷ [] })
      cell_typed path share pointer o f g u w us type head arguments at =
          let here : type_of_field p f.structure f.index ≡ Some type = ap (λ z. type_of_field p z.structure z.index) (field_same head) ∙ at in
          subst (λ z. EntailsAll e (path ++ facts_of_cell z (Some pointer ∷ o ∷ [])) (facts_of_type type w)) (sym here)
          (subst (λ z. EntailsAll e (path ++ facts_of_cell (Some type) (Some pointer ∷ z ∷ [])) (facts_of_type type w)) (sym (content_known arguments))
          (all_met (path ++ facts_of_cell (Some type) (Some pointer ∷ Some w ∷ [])) (facts_of_type type w) (λ v m. (meets_back v path (facts_of_cell (Some type) (Some pointer ∷ Some w ∷ [])) m).1)))

      cell_kept : (st : SymbolicState) (share pointer : Term) (o : Option Term) (f : Field) → Typed st
          → Typed (assuming_all (with_chunk st (record { share = share; head = CellOf f; arguments = Some pointer ∷ o ∷ [] })) (facts_of_cell (type_of_field p f.structure f.index) (Some pointer ∷ o ∷ [])))
      cell_kept st share pointer o f t =
          let fs = facts_of_cell (type_of_field p f.structure f.index) (Some pointer ∷ o ∷ []) in
          let more = facts_kept st fs t in
          record { locals = more.locals; contents = contents_add (st.path ++ fs) st.chunks _ more.contents (cell_typed st.path share pointer o f, tt); symbols = more.symbols }

      -- ---- producing
      module _ (sorts : List Sort) (scale : Term) where
        given_kept : (st : SymbolicState) (f : Fact) (K Q : SymbolicState → Type 0) → ((st1 : SymbolicState) → Typed st1 → K st1 → Q st1) → Given e p sorts scale st f K → Typed st → Given e p sorts scale st f Q
        given_kept st f K Q step (inl never) t = inl never
        given_kept st f K Q step (inr k) t = inr (step (assuming st f) (facts_kept st (f ∷ []) t) k)

        patterns_kept : (Has : ℕ → Sort → Type 0) (n : ℕ) (ps : List PatternTree) (s : Store) (st : SymbolicState) (ts : List (Option Term)) (K Q : List (Option Term) → Store → SymbolicState → Type 0)
            → ((ts1 : List (Option Term)) (s1 : Store) (st1 : SymbolicState) → Typed st1 → K ts1 s1 st1 → Q ts1 s1 st1)
            → ProducePatterns e p sorts scale Has n ps s st ts K → Typed st → ProducePatterns e p sorts scale Has n ps s st ts Q
        patterns_kept Has n [] s st ts K Q step k t = step ts s st t k
        patterns_kept Has n (Is x ∷ ps) s st ts K Q step k t = (k.0, patterns_kept (λ j. Has (suc j)) (n - 1) ps s st _ K Q step k.1 t)
        patterns_kept Has n (Names x ∷ ps) s st ts K Q step k t = (k.0, k.1, k.2, patterns_kept (λ j. Has (suc j)) (n - 1) ps _ _ _ K Q step k.3 (facts_kept st _ t))
        patterns_kept Has zero (Wild ∷ ps) s st ts K Q step k t = patterns_kept (λ j. Has (suc j)) zero ps s st _ K Q step k t
        patterns_kept Has (suc n) (Wild ∷ ps) s st ts K Q step k t = (k.0, k.1, k.2, k.3, patterns_kept (λ j. Has (suc j)) n ps s _ _ K Q step k.4 (facts_kept st _ t))

        share_kept : (share : ShareTree) (s : Store) (st : SymbolicState) (K Q : Term → Store → SymbolicState → Type 0) → ((c : Term) (s1 : Store) (st1 : SymbolicState) → Typed st1 → K c s1 st1 → Q c s1 st1)
            → ProduceShare e p sorts scale share s st K → Typed st → ProduceShare e p sorts scale share s st Q
        share_kept (Times d ys) s st K Q step k t = (k.0, step _ s st t k.1)
        share_kept (Taken x) s st K Q step k t = (k.0, k.1, k.2, step _ _ _ (facts_kept st _ t) k.3)

        -- what is to hold where a cell has been produced
        abbrev OfCell : Term → Field → (Store → SymbolicState → Type 0) → List (Option Term) → Store → SymbolicState → Type 0
        OfCell c f K ts s st = K s (assuming_all (with_chunk st (record { share = c; head = CellOf f; arguments = drop 1 ts })) (facts_of_cell (type_of_field p f.structure f.index) (drop 1 ts)))

        cell_made : (x : PatternTree) (c pointer : Term) (f : Field) (s : Store) (st : SymbolicState) (K Q : Store → SymbolicState → Type 0) → ((s1 : Store) (st1 : SymbolicState) → Typed st1 → K s1 st1 → Q s1 st1)
            → ProducePatterns e p sorts scale NoArgumentSort 0 (x ∷ []) s st (Some c ∷ Some pointer ∷ []) (OfCell c f K) → Typed st
            → ProducePatterns e p sorts scale NoArgumentSort 0 (x ∷ []) s st (Some c ∷ Some pointer ∷ []) (OfCell c f Q)
        cell_made (Is x) c pointer f s st K Q step k t = (k.0, step s _ (cell_kept st c pointer _ f t) k.1)
        cell_made (Names x) c pointer f s st K Q step k t = (k.0, k.1, k.2, step _ _ (cell_kept _ c pointer _ f (facts_kept st _ t)) k.3)
        cell_made Wild c pointer f s st K Q step k t = step s _ (cell_kept st c pointer None f t) k

        mutual
          pub produce_kept : (a : Assertion) (s : Store) (st : SymbolicState) (K Q : Store → SymbolicState → Type 0) → ((s1 : Store) (st1 : SymbolicState) → Typed st1 → K s1 st1 → Q s1 st1)
              → Produce e p sorts scale a s st K → Typed st → Produce e p sorts scale a s st Q
          produce_kept (Pure x) s st K Q step h t = (h.0, given_kept st _ (K s) (Q s) (λ st1 t1 k. step s st1 t1 k) h.1 t)
          produce_kept Empty s st K Q step h t = step s st t h
          produce_kept (Both a b) s st K Q step h t =
              produce_kept a s st (λ s1 st1. Produce e p sorts scale b s1 st1 K) (λ s1 st1. Produce e p sorts scale b s1 st1 Q) (λ s1 st1 t1 k. produce_kept b s1 st1 K Q step k t1) h t
          produce_kept (Choose x a b) s st K Q step h t = (
            h.0,
            given_kept st _ (λ st1. Produce e p sorts scale a s st1 (λ s2 st2. K s st2)) (λ st1. Produce e p sorts scale a s st1 (λ s2 st2. Q s st2)) (λ st1 t1 k. produce_kept a s st1 (λ s2 st2. K s st2) (λ s2 st2. Q s st2) (λ s2 st2 t2 j. step s st2 t2 j) k t1) h.1 t,
            given_kept st _ (λ st1. Produce e p sorts scale b s st1 (λ s2 st2. K s st2)) (λ st1. Produce e p sorts scale b s st1 (λ s2 st2. Q s st2)) (λ st1 t1 k. produce_kept b s st1 (λ s2 st2. K s st2) (λ s2 st2. Q s st2) (λ s2 st2 t2 j. step s st2 t2 j) k t1) h.2 t,
          )
          produce_kept (Switch x branches) s st K Q step h t = (h.0, h.1, branches_kept branches _ s st K Q step h.2 t)
          produce_kept (Cell share pointer f x) s st K Q step h t = (h.0, share_kept share s st _ _ (λ c s1 st1 t1 k. cell_made x c _ f s1 st1 K Q step k t1) h.1 t)
          produce_kept (Chunk share head xs) s st K Q step h t =
              (h.0, share_kept share s st _ _ (λ c s1 st1 t1 k. patterns_kept _ _ xs s1 st1 _ _ _ (λ ts s2 st2 t2 j. step s2 _ (facts_kept _ _ (chunk_kept st2 _ _ refl t2)) j) k t1) h.1 t)

          branches_kept : (bs : Branches) (u : Term) (s : Store) (st : SymbolicState) (K Q : Store → SymbolicState → Type 0) → ((s1 : Store) (st1 : SymbolicState) → Typed st1 → K s1 st1 → Q s1 st1)
              → ProduceBranches e p sorts scale bs u s st K → Typed st → ProduceBranches e p sorts scale bs u s st Q
          branches_kept no_branches u s st K Q step h t = tt
          branches_kept (branch c xs a rest) u s st K Q step h t = (
            patterns_kept NoArgumentSort 0 (map (λ x. Names x) xs) s st _ _ _
                (λ ts s1 st1 t1 k. given_kept st1 _ (λ st2. Produce e p sorts scale a s1 st2 (λ s3 st3. K s st3)) (λ st2. Produce e p sorts scale a s1 st2 (λ s3 st3. Q s st3))
                (λ st2 t2 j. produce_kept a s1 st2 (λ s3 st3. K s st3) (λ s3 st3. Q s st3) (λ s3 st3 t3 i. step s st3 t3 i) j t2) k t1)
                h.0 t,
            branches_kept rest u s st K Q step h.1 t,
          )

        -- ---- consuming
        wanted_kept : (path : List Fact) (ps : List PatternTree) (ts : List (Option Term)) (s : Store) (K Q : Store → Type 0) → ((s1 : Store) → K s1 → Q s1)
            → ConsumePatterns e p sorts scale path ps ts s K → ConsumePatterns e p sorts scale path ps ts s Q
        wanted_kept path [] [] s K Q step h = step s h
        wanted_kept path [] (t ∷ ts) s K Q step h = absurd h
        wanted_kept path (Is x ∷ ps) [] s K Q step h = absurd h
        wanted_kept path (Is x ∷ ps) (None ∷ ts) s K Q step h = absurd h
        wanted_kept path (Is x ∷ ps) (Some t ∷ ts) s K Q step h = (h.0, h.1, wanted_kept path ps ts s K Q step h.2)
        wanted_kept path (Names x ∷ ps) [] s K Q step h = absurd h
        wanted_kept path (Names x ∷ ps) (None ∷ ts) s K Q step h = absurd h
        wanted_kept path (Names x ∷ ps) (Some t ∷ ts) s K Q step h = (h.0, h.1, wanted_kept path ps ts _ K Q step h.2)
        wanted_kept path (Wild ∷ ps) [] s K Q step h = absurd h
        wanted_kept path (Wild ∷ ps) (t ∷ ts) s K Q step h = wanted_kept path ps ts s K Q step h

        share_taken : (share : ShareTree) (s : Store) (path : List Fact) (cs : List SymbolicChunk) (K Q : SymbolicChunk → List SymbolicChunk → Store → Type 0)
            → ((c : SymbolicChunk) (ds : List SymbolicChunk) (s1 : Store) → ContentsTyped e p path ds → K c ds s1 → Q c ds s1)
            → ConsumeShare e p sorts scale share s path cs K → ContentsTyped e p path cs → ConsumeShare e p sorts scale share s path cs Q
        share_taken (Times d ys) s path cs K Q step h t = (h.0, ((h.1).0, (h.1).1, (h.1).2, step _ _ s (taken path _ _ (h.1).2 t) (h.1).3))
        share_taken (Taken x) s path cs K Q step h t = (h.0, h.1, h.2, h.3, h.4, h.5, h.6, step _ _ _ (removed path _ h.3 t).1 h.7)

        mutual
          pub consume_kept : (a : Assertion) (s : Store) (st : SymbolicState) (K Q : Store → SymbolicState → Type 0) → ((s1 : Store) (st1 : SymbolicState) → Typed st1 → K s1 st1 → Q s1 st1)
              → Consume e p sorts scale a s st K → Typed st → Consume e p sorts scale a s st Q
          consume_kept (Pure x) s st K Q step h t = (h.0, h.1, step s st t h.2)
          consume_kept Empty s st K Q step h t = step s st t h
          consume_kept (Both a b) s st K Q step h t =
              consume_kept a s st (λ s1 st1. Consume e p sorts scale b s1 st1 K) (λ s1 st1. Consume e p sorts scale b s1 st1 Q) (λ s1 st1 t1 k. consume_kept b s1 st1 K Q step k t1) h t
          consume_kept (Choose x a b) s st K Q step h t = (
            h.0,
            given_kept st _ (λ st1. Consume e p sorts scale a s st1 K) (λ st1. Consume e p sorts scale a s st1 Q) (λ st1 t1 k. consume_kept a s st1 K Q step k t1) h.1 t,
            given_kept st _ (λ st1. Consume e p sorts scale b s st1 K) (λ st1. Consume e p sorts scale b s st1 Q) (λ st1 t1 k. consume_kept b s st1 K Q step k t1) h.2 t,
          )
          consume_kept (Switch x branches) s st K Q step h t = (h.0, h.1, cases_kept branches _ s st K Q step h.2 t)
          consume_kept (Cell share pointer f x) s st K Q step h t =
              let st1 = (h.1).0 in
              let typed = changes_kept (h.1).1 t in (
                h.0,
                (
                  st1,
                  (h.1).1,
                  share_taken share s st1.path st1.chunks _ _
                      (λ c ds s1 left k. (k.0, ((k.1).0, (k.1).1, (k.1).2, (k.1).3, wanted_kept st1.path (x ∷ []) _ s1 _ _ (λ s2 j. step s2 (with_chunks st1 ds) (chunks_kept st1 ds typed left) j) (k.1).4)))
                      (h.1).2 typed.contents,
                ),
              )
          consume_kept (Chunk share head xs) s st K Q step h t =
              let st1 = (h.1).0 in
              let typed = changes_kept (h.1).1 t in (
                h.0,
                (
                  st1,
                  (h.1).1,
                  share_taken share s st1.path st1.chunks _ _
                      (λ c ds s1 left k. (k.0, wanted_kept st1.path xs _ s1 _ _ (λ s2 j. step s2 (with_chunks st1 ds) (chunks_kept st1 ds typed left) j) k.1))
                      (h.1).2 typed.contents,
                ),
              )

          cases_kept : (bs : Branches) (u : Term) (s : Store) (st : SymbolicState) (K Q : Store → SymbolicState → Type 0) → ((s1 : Store) (st1 : SymbolicState) → Typed st1 → K s1 st1 → Q s1 st1)
              → ConsumeBranches e p sorts scale bs u s st K → Typed st → ConsumeBranches e p sorts scale bs u s st Q
          cases_kept no_branches u s st K Q step h t = tt
          cases_kept (branch c xs a rest) u s st K Q step h t = (
            patterns_kept NoArgumentSort 0 (map (λ x. Names x) xs) s st _ _ _
                (λ ts s1 st1 t1 k. given_kept st1 _ (λ st2. Consume e p sorts scale a s1 st2 K) (λ st2. Consume e p sorts scale a s1 st2 Q) (λ st2 t2 j. consume_kept a s1 st2 K Q step j t2) k t1)
                h.0 t,
            cases_kept rest u s st K Q step h.1 t,
          )

numbers_same : (i j : ℕ) → (i == j) ≡ true → i ≡ j
numbers_same i j h = grind (arith, nat_tests)

-- ---- the laws
pub facts_keep_types : FactsKeepTypes
facts_keep_types e p types kinds st fs h = facts_kept e p types kinds st fs h

pub changes_keep_types : ChangesKeepTypes
changes_keep_types e p types kinds st new changed h = changes_kept e p types kinds changed h

pub setting_keeps_types : SettingKeepsTypes
setting_keeps_types e p types kinds st x type t is own h = record { locals = local_set e st.path types st.locals x type t is own h.locals; contents = h.contents; symbols = h.symbols }

pub loading_keeps_types : LoadingKeepsTypes
loading_keeps_types e p types kinds st x field type c others pointer content r head arguments at is h =
    setting_keeps_types e p types kinds st x type content is ((removed e p st.path c r h.contents).0 field pointer content [] type head arguments at) h

pub taking_keeps_types : TakingKeepsTypes
taking_keeps_types e p types kinds st wanted c left t h = chunks_kept e p types kinds st left h (taken e p st.path wanted c t h.contents)

pub storing_keeps_types : StoringKeepsTypes
storing_keeps_types e p types kinds st wanted pointer w c others field t own h =
    chunks_kept e p types kinds st (others ++ cell_chunk field pointer (Some w) ∷ []) h
    (contents_add e p st.path others (cell_chunk field pointer (Some w) ∷ []) (taken e p st.path wanted c t h.contents)
    (λ f u z us type head arguments at. stored_typed st.path f u z us type head arguments at, tt))
  where
    second_same : {t u z : Term} {us : List (Option Term)} → Some t ∷ Some w ∷ [] ≡ Some u ∷ Some z ∷ us → w ≡ z
    second_same h = cc

    stored_typed : (path : List Fact) (f : Field) (u z : Term) (us : List (Option Term)) (type : TypeTree) → CellOf field ≡ CellOf f → Some pointer ∷ Some w ∷ [] ≡ Some u ∷ Some z ∷ us → type_of_field p f.structure f.index ≡ Some type
        → EntailsAll e st.path (facts_of_type type z)
    stored_typed path f u z us type head arguments at =
        subst (λ y. EntailsAll e st.path (facts_of_type type y)) (second_same arguments) (own type (ap (λ y. type_of_field p y.structure y.index) (field_same head) ∙ at))

-- the cells of new memory have unknown content
new_typed : (e : Environment) (p : ProgramTree) (path : List Fact) (g : Identity) (t : Term) (i n : ℕ) → ContentsTyped e p path (new_chunks g t i n)
new_typed e p path g t i zero = (no_cell e p path (block_chunk g t) _ refl, tt)
new_typed e p path g t i (suc n) = (λ f u w us type head arguments at. unknown arguments, new_typed e p path g t (suc i) n)
  where
    unknown : {A : Type 0} {u w : Term} {us : List (Option Term)} → Some t ∷ None ∷ [] ≡ Some u ∷ Some w ∷ us → A
    unknown h = cc

pub allocating_keeps_types : AllocatingKeepsTypes
allocating_keeps_types e p types kinds st x y n g type is pointer h =
    let facts = OfSort (symbol y) Pointers ∷ Holds (Compare NotEqual (symbol y) Null) ∷ [] in
    let grown = chunks_kept e p types kinds st (st.chunks ++ new_chunks g (symbol y) 0 n) h (contents_add e p st.path st.chunks (new_chunks g (symbol y) 0 n) h.contents (new_typed e p st.path g (symbol y) 0 n)) in (
      setting_keeps_types e p types kinds st x type Null is (subst (EntailsAll e st.path) (sym (pointer Null)) (record { by = λ v m. inl refl }, tt)) h,
      setting_keeps_types e p types kinds (assuming_all (with_chunks st (st.chunks ++ new_chunks g (symbol y) 0 n)) facts) x type (symbol y) is
          (subst (EntailsAll e (st.path ++ facts)) (sym (pointer (symbol y))) (record { by = λ v m. (meets_back e v st.path facts m).0 }, tt))
          (facts_kept e p types kinds (with_chunks st (st.chunks ++ new_chunks g (symbol y) 0 n)) facts grown),
    )

pub naming_keeps_types : NamingKeepsTypes
naming_keeps_types e p types kinds st y s own h = record { locals = h.locals; contents = h.contents; symbols = λ z t is. by_test z t (z == y) refl is }
  where
    by_test : (z : ℕ) (t : Sort) (b : Bool) → (z == y) ≡ b → cond b (Some s) (kinds z) ≡ Some t → Entails e st.path (OfSort (symbol z) t)
    by_test z t true same is = subst (λ j. Entails e st.path (OfSort (symbol j) t)) (sym (numbers_same z y same)) (subst (λ q. Entails e st.path (OfSort (symbol y) q)) (some_same is) own)
    by_test z t false other is = h.symbols z t is

pub producing_keeps_types : ProducingKeepsTypes
producing_keeps_types e p types kinds sorts scale a s st outs h t = produce_kept e p types kinds sorts scale a s st (IsAmong outs) (λ s1 st1. IsAmong outs s1 st1 × IsTypedState e p types kinds st1) (λ s1 st1 t1 k. (k, t1)) h t

pub consuming_keeps_types : ConsumingKeepsTypes
consuming_keeps_types e p types kinds sorts scale a s st outs h t = consume_kept e p types kinds sorts scale a s st (IsAmong outs) (λ s1 st1. IsAmong outs s1 st1 × IsTypedState e p types kinds st1) (λ s1 st1 t1 k. (k, t1)) h t

lower_wide : (a b n : ℤ) → a ≤ℤ b → int_le b n ≡ true → int_le a n ≡ true
lower_wide a b n l h = grind (arith, ints)

upper_wide : (a b n : ℤ) → a ≤ℤ b → int_le n a ≡ true → int_le n b ≡ true
upper_wide a b n l h = grind (arith, ints)

pub ranges_widen : RangesWiden
ranges_widen e path from into t h = (
  λ l. record { by = λ v m. lower_wide (least into) (least from) (number_of (value_in e v t)) l ((h.0).by v m) },
  λ l. record { by = λ v m. upper_wide (greatest from) (greatest into) (number_of (value_in e v t)) l ((h.1).by v m) },
)
