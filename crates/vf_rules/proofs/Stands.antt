-- What a state stands for: under another value for a new symbol, with one more fact, and with one more chunk.
use Rattle.std.proofs.Common.{◌≡◌, ℕ, List, [], ◌∷◌, ◌++◌, map, Option, Some, None, refl, sym, ap, ap₂, subst, subst₂, ◌∙◌, inl, inr}
use Rattle.std.specs.Prelude.{IsTrue}
use Rattle.vf_model.specs.Values.{Dyadic, Value}
use Rattle.vf_meaning.specs.Fractions.{whole}
use Rattle.vf_meaning.specs.Ghost.{Numbered}
use Rattle.vf_meaning.specs.Valuations.{Valuation, is_true, bound}
use Rattle.vf_meaning.specs.Assertions.{Head, BlockOf, Named, Family, Applied, Environment}
use Rattle.vf_meaning.specs.Sorts.{HasSort}
use Rattle.vf_meaning.specs.Parts.{Part, nothing, ◌⊕◌, IsSum}
use Rattle.vf_meaning.specs.Chunks.{Wanted, Just, IsFieldCell}
use Rattle.vf_meaning.specs.Satisfaction.{SatisfiesFamily, SatisfiesValue, SatisfiesHead, MeansAt}
use Rattle.vf_meaning.proofs.Parts.{sums_turn, sums_regroup, nothing-⊕, nothing_is_neutral}
use Rattle.vf_rules.specs.Terms.{Term}
use Rattle.vf_rules.specs.States.{Fact, Holds, OfSort, ChunkHead, CellOf, Of, SymbolicChunk, SymbolicState, meaning, IsMet, Meets, wanted_in, HeadMeans, ChunkMeans, ChunksMean, LocalsMean, StandsFor, assuming, assuming_all, with_chunk}
use Rattle.vf_rules.specs.Fresh.{UsesFact, UsesChunkHead, UsesArguments, UsesChunk, UsesChunks, UsesFacts, IsFresh}
use Rattle.vf_rules.proofs.Terms.{fresh_value, fresh_store}

-- ---- another value for a symbol that stands nowhere
module _ (e : Environment) (v : Valuation) (y : ℕ) (u : Value) where
  abbrev renewed : Valuation
  renewed = bound v (Numbered y) u

  fact_fresh : (f : Fact) → (UsesFact f (Numbered y) → ⊥) → IsMet e v f → IsMet e renewed f
  fact_fresh (Holds t) h m = subst (λ w. IsTrue (is_true w)) (sym (fresh_value e v y u t h)) m
  fact_fresh (OfSort t s) h m = subst (λ w. HasSort e w s) (sym (fresh_value e v y u t h)) m

  pub meets_fresh : (fs : List Fact) → (UsesFacts fs (Numbered y) → ⊥) → Meets e v fs → Meets e renewed fs
  meets_fresh [] h m = tt
  meets_fresh (f ∷ fs) h m = (fact_fresh f (λ used. h (inl used)) m.0, meets_fresh fs (λ used. h (inr used)) m.1)

  locals_fresh : (ts : List (Option Term)) (locals : List (Option Value)) → (UsesArguments ts (Numbered y) → ⊥) → LocalsMean e v ts locals → LocalsMean e renewed ts locals
  locals_fresh [] [] h m = tt
  locals_fresh [] (x ∷ xs) h m = m
  locals_fresh (None ∷ ts) [] h m = m
  locals_fresh (None ∷ ts) (x ∷ xs) h m = locals_fresh ts xs h m
  locals_fresh (Some t ∷ ts) [] h m = m
  locals_fresh (Some t ∷ ts) (x ∷ xs) h m = (m.0 ∙ ap Some (sym (fresh_value e v y u t (λ used. h (inl used)))), locals_fresh ts xs (λ used. h (inr used)) m.1)

  pub arguments_fresh : (ts : List (Option Term)) → (UsesArguments ts (Numbered y) → ⊥) → map (wanted_in e renewed) ts ≡ map (wanted_in e v) ts
  arguments_fresh [] h = refl
  arguments_fresh (None ∷ ts) h = ap (λ ws. wanted_in e v None ∷ ws) (arguments_fresh ts h)
  arguments_fresh (Some t ∷ ts) h = ap₂ (λ w ws. Just w ∷ ws) (fresh_value e v y u t (λ used. h (inl used))) (arguments_fresh ts (λ used. h (inr used)))

  head_fresh : (n : ℕ) (x : Dyadic) (head : Head) (ws : List Wanted) (p : Part) → (UsesChunkHead (Of head) (Numbered y) → ⊥)
      → SatisfiesHead (MeansAt e n) (meaning e) whole x head v ws p → SatisfiesHead (MeansAt e n) (meaning e) whole x head renewed ws p
  head_fresh n x (BlockOf g) ws p h m = m
  head_fresh n x (Named q) ws p h m = m
  head_fresh n x (Family q t) ws p h m = subst (λ w. SatisfiesFamily (MeansAt e n) x q w ws p) (sym (fresh_value e v y u t h)) m
  head_fresh n x (Applied t) ws p h m = subst (λ w. SatisfiesValue (MeansAt e n) x w ws p) (sym (fresh_value e v y u t h)) m

  content_fresh : (o : Option Term) → (UsesArguments (o ∷ []) (Numbered y) → ⊥) → wanted_in e renewed o ≡ wanted_in e v o
  content_fresh None h = refl
  content_fresh (Some t) h = ap Just (fresh_value e v y u t (λ used. h (inl used)))

  head_means_fresh : (x : Dyadic) (head : ChunkHead) (ts : List (Option Term)) (p : Part) → (UsesChunkHead head (Numbered y) → ⊥) → (UsesArguments ts (Numbered y) → ⊥)
      → HeadMeans e v x head ts p → HeadMeans e renewed x head ts p
  head_means_fresh x (CellOf f) (Some pointer ∷ content ∷ []) p h k m =
      subst₂ (λ a c. IsFieldCell x a f c p) (sym (fresh_value e v y u pointer (λ used. k (inl used)))) (sym (content_fresh content (λ used. k (inr used)))) m
  head_means_fresh x (CellOf f) [] p h k m = absurd m
  head_means_fresh x (CellOf f) (None ∷ ts) p h k m = absurd m
  head_means_fresh x (CellOf f) (Some pointer ∷ []) p h k m = absurd m
  head_means_fresh x (CellOf f) (Some pointer ∷ content ∷ t ∷ ts) p h k m = absurd m
  head_means_fresh x (Of head) ts p h k m =
      (m.0, subst (λ ws. SatisfiesHead (MeansAt e m.0) (meaning e) whole x head renewed ws p) (sym (arguments_fresh ts k)) (head_fresh m.0 x head _ p h m.1))

  chunk_fresh : (c : SymbolicChunk) (p : Part) → (UsesChunk c (Numbered y) → ⊥) → ChunkMeans e v c p → ChunkMeans e renewed c p
  chunk_fresh c p h m = record {
    fraction = m.fraction;
    share = fresh_value e v y u c.share (λ used. h (inl used)) ∙ m.share;
    positive = m.positive;
    head = head_means_fresh m.fraction c.head c.arguments p (λ used. h (inr (inl used))) (λ used. h (inr (inr used))) m.head;
  }

  pub chunks_fresh : (cs : List SymbolicChunk) (p : Part) → (UsesChunks cs (Numbered y) → ⊥) → ChunksMean e v cs p → ChunksMean e renewed cs p
  chunks_fresh [] p h m = m
  chunks_fresh (c ∷ cs) p h m = (m.0, m.1, m.2, chunk_fresh c m.0 (λ used. h (inl used)) m.3, chunks_fresh cs m.1 (λ used. h (inr used)) m.4)

  pub stands_fresh : (st : SymbolicState) (locals : List (Option Value)) (names : Valuation) (p : Part) → IsFresh y st → StandsFor e v st locals names p → StandsFor e renewed st locals names p
  stands_fresh st locals names p f m = record {
    path = meets_fresh st.path f.path m.path;
    locals_mean = locals_fresh st.locals locals f.locals m.locals_mean;
    names_mean = fresh_store e v y u st.names names f.names m.names_mean;
    chunks_mean = chunks_fresh st.chunks p f.chunks m.chunks_mean;
  }

-- ---- more facts
pub meets_more : (e : Environment) (v : Valuation) (fs gs : List Fact) → Meets e v fs → Meets e v gs → Meets e v (fs ++ gs)
meets_more e v [] gs m n = n
meets_more e v (f ∷ fs) gs m n = (m.0, meets_more e v fs gs m.1 n)

pub assuming_all_stands : (e : Environment) (v : Valuation) (st : SymbolicState) (locals : List (Option Value)) (names : Valuation) (p : Part) (fs : List Fact)
    → Meets e v fs → StandsFor e v st locals names p → StandsFor e v (assuming_all st fs) locals names p
assuming_all_stands e v st locals names p fs h m =
    record { path = meets_more e v st.path fs m.path h; locals_mean = m.locals_mean; names_mean = m.names_mean; chunks_mean = m.chunks_mean }

pub assuming_stands : (e : Environment) (v : Valuation) (st : SymbolicState) (locals : List (Option Value)) (names : Valuation) (p : Part) (f : Fact)
    → IsMet e v f → StandsFor e v st locals names p → StandsFor e v (assuming st f) locals names p
assuming_stands e v st locals names p f h m = assuming_all_stands e v st locals names p (f ∷ []) (h, tt) m

-- ---- more chunks
one_chunk : (e : Environment) (v : Valuation) (c : SymbolicChunk) (q : Part) → ChunkMeans e v c q → ChunksMean e v (c ∷ []) q
one_chunk e v c q h = (q, nothing, sums_turn nothing q q (nothing_is_neutral q), h, refl)

pub chunks_more : (e : Environment) (v : Valuation) (cs ds : List SymbolicChunk) (p q r : Part) → ChunksMean e v cs p → ChunksMean e v ds q → IsSum q p r → ChunksMean e v (cs ++ ds) r
chunks_more e v [] ds p q r h k s = subst (λ z. ChunksMean e v ds z) (sym (alone p q r h s)) k
  where
    alone : (p q r : Part) → p ≡ nothing → IsSum q p r → r ≡ q
    alone p q r h s = (sums_turn q p r s).adds ∙ ap (λ z. z ⊕ q) h ∙ nothing-⊕ q
chunks_more e v (c ∷ cs) ds p q r h k s =
    let inner = sums_regroup h.0 h.1 p q r h.2 (sums_turn q p r s) in
    (h.0, inner.0, inner.2, h.3, chunks_more e v cs ds h.1 q inner.0 h.4 k (sums_turn h.1 q inner.0 inner.1))

pub with_chunk_stands : (e : Environment) (v : Valuation) (st : SymbolicState) (locals : List (Option Value)) (names : Valuation) (c : SymbolicChunk) (q p r : Part)
    → ChunkMeans e v c q → IsSum q p r → StandsFor e v st locals names p → StandsFor e v (with_chunk st c) locals names r
with_chunk_stands e v st locals names c q p r h s m = record {
  path = m.path;
  locals_mean = m.locals_mean;
  names_mean = m.names_mean;
  chunks_mean = chunks_more e v st.chunks (c ∷ []) p q r m.chunks_mean (one_chunk e v c q h) s;
}
