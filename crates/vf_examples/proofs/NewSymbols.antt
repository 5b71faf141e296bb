-- Tests by which a symbol is new.
use Rattle.std.proofs.Common.{◌≡◌, ℕ, Bool, true, false, cond, ◌||◌, List, [], ◌∷◌, Option, Some, None, refl, sym, subst, ◌∙◌, ◌⊎◌, inl, inr}
use Rattle.std.proofs.lemmas.Bool.{false≢true}
use Rattle.vf_meaning.specs.Ghost.{Name, Numbered, Result, This, CurrentThread, same_name, GhostExpression, GhostExpressions, no_expressions, and_expression, Variable, Number, Truth, Fraction, Null, Function, Construct, Apply, PredicateValue, Claims, Negate, Arithmetic, PointerSum, Share, Compare, Not, And, Or, Choose}
use Rattle.vf_meaning.specs.Names.{Uses, UsesAny, UsesHead}
use Rattle.vf_meaning.specs.Assertions.{Head, BlockOf, Named, Family, Applied}
use Rattle.vf_meaning.proofs.Values.{tells_names}
use Rattle.vf_rules.specs.Terms.{Term, Store, stored}
use Rattle.vf_rules.specs.States.{Fact, Holds, OfSort, ChunkHead, CellOf, Of, SymbolicChunk, SymbolicState}
use Rattle.vf_rules.specs.Fresh.{UsesFact, UsesChunkHead, UsesArguments, UsesChunk, UsesChunks, UsesFacts, IsFreshIn, IsFresh, IsNew}
use Rattle.vf_rules.specs.Predicates.{store_of}
use Rattle.vf_rules.specs.Accept.{call_store}
use Rattle.std.specs.Prelude.{slice_get, zero, suc}

left_of : (a b : Bool) → a ≡ true → (a || b) ≡ true
left_of true b h = refl
left_of false b h = absurd (false≢true h)

right_of : (a b : Bool) → b ≡ true → (a || b) ≡ true
right_of true b h = refl
right_of false b h = h

-- ---- tests for names in terms
abbrev mutual
  pub uses : GhostExpression → Name → Bool
  uses (Variable y) x = same_name y x
  uses (Number z) x = false
  uses (Truth b) x = false
  uses (Fraction d) x = false
  uses Null x = false
  uses (Function g) x = false
  uses (Construct c es) x = uses_any es x
  uses (Apply f es) x = uses_any es x
  uses (PredicateValue p es) x = uses_any es x
  uses (Claims t e) x = uses e x
  uses (Negate e) x = uses e x
  uses (Arithmetic op a b) x = uses a x || uses b x
  uses (PointerSum a b) x = uses a x || uses b x
  uses (Share a b) x = uses a x || uses b x
  uses (Compare op a b) x = uses a x || uses b x
  uses (Not e) x = uses e x
  uses (And a b) x = uses a x || uses b x
  uses (Or a b) x = uses a x || uses b x
  uses (Choose c a b) x = uses c x || (uses a x || uses b x)

  pub uses_any : GhostExpressions → Name → Bool
  uses_any no_expressions x = false
  uses_any (and_expression e es) x = uses e x || uses_any es x

mutual
  used : (t : GhostExpression) (x : Name) → Uses t x → uses t x ≡ true
  used (Variable y) x h = (tells_names y x).1 h
  used (Number z) x h = absurd h
  used (Truth b) x h = absurd h
  used (Fraction d) x h = absurd h
  used Null x h = absurd h
  used (Function g) x h = absurd h
  used (Construct c es) x h = used_any es x h
  used (Apply f es) x h = used_any es x h
  used (PredicateValue p es) x h = used_any es x h
  used (Claims t e) x h = used e x h
  used (Negate e) x h = used e x h
  used (Arithmetic op a b) x (inl h) = left_of (uses a x) (uses b x) (used a x h)
  used (Arithmetic op a b) x (inr h) = right_of (uses a x) (uses b x) (used b x h)
  used (PointerSum a b) x (inl h) = left_of (uses a x) (uses b x) (used a x h)
  used (PointerSum a b) x (inr h) = right_of (uses a x) (uses b x) (used b x h)
  used (Share a b) x (inl h) = left_of (uses a x) (uses b x) (used a x h)
  used (Share a b) x (inr h) = right_of (uses a x) (uses b x) (used b x h)
  used (Compare op a b) x (inl h) = left_of (uses a x) (uses b x) (used a x h)
  used (Compare op a b) x (inr h) = right_of (uses a x) (uses b x) (used b x h)
  used (Not e) x h = used e x h
  used (And a b) x (inl h) = left_of (uses a x) (uses b x) (used a x h)
  used (And a b) x (inr h) = right_of (uses a x) (uses b x) (used b x h)
  used (Or a b) x (inl h) = left_of (uses a x) (uses b x) (used a x h)
  used (Or a b) x (inr h) = right_of (uses a x) (uses b x) (used b x h)
  used (Choose c a b) x (inl h) = left_of (uses c x) (uses a x || uses b x) (used c x h)
  used (Choose c a b) x (inr (inl h)) = right_of (uses c x) (uses a x || uses b x) (left_of (uses a x) (uses b x) (used a x h))
  used (Choose c a b) x (inr (inr h)) = right_of (uses c x) (uses a x || uses b x) (right_of (uses a x) (uses b x) (used b x h))

  used_any : (es : GhostExpressions) (x : Name) → UsesAny es x → uses_any es x ≡ true
  used_any no_expressions x h = absurd h
  used_any (and_expression e es) x (inl h) = left_of (uses e x) (uses_any es x) (used e x h)
  used_any (and_expression e es) x (inr h) = right_of (uses e x) (uses_any es x) (used_any es x h)

not_used : (b : Bool) → b ≡ false → b ≡ true → ⊥
not_used b h k = false≢true (sym h ∙ k)

pub unused : (t : Term) (y : ℕ) → uses t (Numbered y) ≡ false → Uses t (Numbered y) → ⊥
unused t y h k = not_used (uses t (Numbered y)) h (used t (Numbered y) k)

-- ---- and in parts of a state
abbrev pub head_uses : Head → Name → Bool
head_uses (BlockOf g) x = false
head_uses (Named q) x = false
head_uses (Family q e) x = uses e x
head_uses (Applied e) x = uses e x

abbrev pub chunk_head_uses : ChunkHead → Name → Bool
chunk_head_uses (CellOf f) x = false
chunk_head_uses (Of head) x = head_uses head x

abbrev pub arguments_use : List (Option Term) → Name → Bool
arguments_use [] x = false
arguments_use (None ∷ ts) x = arguments_use ts x
arguments_use (Some t ∷ ts) x = uses t x || arguments_use ts x

abbrev pub chunks_use : List SymbolicChunk → Name → Bool
chunks_use [] x = false
chunks_use (c ∷ cs) x = (uses c.share x || (chunk_head_uses c.head x || arguments_use c.arguments x)) || chunks_use cs x

abbrev pub fact_uses : Fact → Name → Bool
fact_uses (Holds t) x = uses t x
fact_uses (OfSort t s) x = uses t x

abbrev pub facts_use : List Fact → Name → Bool
facts_use [] x = false
facts_use (f ∷ fs) x = fact_uses f x || facts_use fs x

head_used : (head : Head) (x : Name) → UsesHead head x → head_uses head x ≡ true
head_used (BlockOf g) x h = absurd h
head_used (Named q) x h = absurd h
head_used (Family q e) x h = used e x h
head_used (Applied e) x h = used e x h

chunk_head_used : (head : ChunkHead) (x : Name) → UsesChunkHead head x → chunk_head_uses head x ≡ true
chunk_head_used (CellOf f) x h = absurd h
chunk_head_used (Of head) x h = head_used head x h

arguments_used : (ts : List (Option Term)) (x : Name) → UsesArguments ts x → arguments_use ts x ≡ true
arguments_used [] x h = absurd h
arguments_used (None ∷ ts) x h = arguments_used ts x h
arguments_used (Some t ∷ ts) x (inl h) = left_of (uses t x) (arguments_use ts x) (used t x h)
arguments_used (Some t ∷ ts) x (inr h) = right_of (uses t x) (arguments_use ts x) (arguments_used ts x h)

chunk_used : (c : SymbolicChunk) (x : Name) → UsesChunk c x → (uses c.share x || (chunk_head_uses c.head x || arguments_use c.arguments x)) ≡ true
chunk_used c x (inl h) = left_of (uses c.share x) (chunk_head_uses c.head x || arguments_use c.arguments x) (used c.share x h)
chunk_used c x (inr (inl h)) = right_of (uses c.share x) (chunk_head_uses c.head x || arguments_use c.arguments x) (left_of (chunk_head_uses c.head x) (arguments_use c.arguments x) (chunk_head_used c.head x h))
chunk_used c x (inr (inr h)) = right_of (uses c.share x) (chunk_head_uses c.head x || arguments_use c.arguments x) (right_of (chunk_head_uses c.head x) (arguments_use c.arguments x) (arguments_used c.arguments x h))

chunks_used : (cs : List SymbolicChunk) (x : Name) → UsesChunks cs x → chunks_use cs x ≡ true
chunks_used [] x h = absurd h
chunks_used (c ∷ cs) x (inl h) = left_of (uses c.share x || (chunk_head_uses c.head x || arguments_use c.arguments x)) (chunks_use cs x) (chunk_used c x h)
chunks_used (c ∷ cs) x (inr h) = right_of (uses c.share x || (chunk_head_uses c.head x || arguments_use c.arguments x)) (chunks_use cs x) (chunks_used cs x h)

fact_used : (f : Fact) (x : Name) → UsesFact f x → fact_uses f x ≡ true
fact_used (Holds t) x h = used t x h
fact_used (OfSort t s) x h = used t x h

facts_used : (fs : List Fact) (x : Name) → UsesFacts fs x → facts_use fs x ≡ true
facts_used [] x h = absurd h
facts_used (f ∷ fs) x (inl h) = left_of (fact_uses f x) (facts_use fs x) (fact_used f x h)
facts_used (f ∷ fs) x (inr h) = right_of (fact_uses f x) (facts_use fs x) (facts_used fs x h)

-- ---- stores
none_some : {A B : Type 0} {x : A} → None ≡ Some x → B
none_some e = cc

some_same : {A : Type 0} {x y : A} → Some x ≡ Some y → x ≡ y
some_same e = cc

abbrev pub terms_use : List Term → Name → Bool
terms_use [] x = false
terms_use (t ∷ ts) x = uses t x || terms_use ts x

at_place : (ts : List Term) (x : Name) (k : ℕ) (t : Term) → slice_get ts k ≡ Some t → Uses t x → terms_use ts x ≡ true
at_place [] x k t is h = none_some is
at_place (u ∷ ts) x zero t is h = left_of (uses u x) (terms_use ts x) (used u x (subst (λ z. Uses z x) (sym (some_same is)) h))
at_place (u ∷ ts) x (suc k) t is h = right_of (uses u x) (terms_use ts x) (at_place ts x k t is h)

pub fresh_arguments : (y : ℕ) (ts : List Term) → terms_use ts (Numbered y) ≡ false → IsFreshIn y (store_of ts)
fresh_arguments y ts free (Numbered k) t is h = not_used (terms_use ts (Numbered y)) free (at_place ts (Numbered y) k t is h)
fresh_arguments y ts free Result t is h = none_some is
fresh_arguments y ts free This t is h = none_some is
fresh_arguments y ts free CurrentThread t is h = none_some is

-- a name of a store with one name more is that one or the store's
pub stored_either : (s : Store) (x : Name) (t : Term) (y : Name) (u : Term) → stored s x t y ≡ Some u → ((y ≡ x) × (t ≡ u)) ⊎ (s y ≡ Some u)
stored_either s x t y u is = by_test (same_name y x) refl is
  where
    by_test : (b : Bool) → same_name y x ≡ b → cond b (Some t) (s y) ≡ Some u → ((y ≡ x) × (t ≡ u)) ⊎ (s y ≡ Some u)
    by_test true same h = inl ((tells_names y x).0 same, some_same h)
    by_test false other h = inr h

pub fresh_stored : (y : ℕ) (s : Store) (x : Name) (t : Term) → IsFreshIn y s → uses t (Numbered y) ≡ false → IsFreshIn y (stored s x t)
fresh_stored y s x t free test z u is h = elim (stored_either s x t z u is) [ inl same ↦ unused t y test (subst (λ k. Uses k (Numbered y)) (sym same.1) h) | inr other ↦ free z u other h ]

pub fresh_call : (y : ℕ) (ts : List Term) → terms_use ts (Numbered y) ≡ false → IsFreshIn y (call_store ts)
fresh_call y ts free = fresh_stored y (store_of ts) CurrentThread (Variable CurrentThread) (fresh_arguments y ts free) refl

-- ---- states
pub fresh_state : (y : ℕ) (st : SymbolicState) → IsFreshIn y st.names → arguments_use st.locals (Numbered y) ≡ false → chunks_use st.chunks (Numbered y) ≡ false → facts_use st.path (Numbered y) ≡ false → IsFresh y st
fresh_state y st names locals chunks path = record {
  locals = λ h. not_used (arguments_use st.locals (Numbered y)) locals (arguments_used st.locals (Numbered y) h);
  names = names;
  chunks = λ h. not_used (chunks_use st.chunks (Numbered y)) chunks (chunks_used st.chunks (Numbered y) h);
  path = λ h. not_used (facts_use st.path (Numbered y)) path (facts_used st.path (Numbered y) h);
}

pub new_symbol : (y : ℕ) (scale : Term) (s : Store) (ts : List (Option Term)) (st : SymbolicState) → IsFresh y st → IsFreshIn y s → uses scale (Numbered y) ≡ false → arguments_use ts (Numbered y) ≡ false → IsNew y scale s ts st
new_symbol y scale s ts st fresh store free arguments = record {
  state = fresh;
  store = store;
  scale_free = unused scale y free;
  arguments_free = λ h. not_used (arguments_use ts (Numbered y)) arguments (arguments_used ts (Numbered y) h);
}
