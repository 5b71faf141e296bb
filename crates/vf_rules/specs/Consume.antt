-- Consuming an assertion: what it says is taken out of a state, part by part, from left to right.
use Rattle.std.specs.Prelude.{◌≡◌, List, [], ◌∷◌, map, drop, Option, Some, None}
use Rattle.vf_tree.specs.Core.{ProgramTree, Equal}
use Rattle.vf_meaning.specs.Ghost.{Sort, Not, Compare, Construct, Fraction, Share}
use Rattle.vf_meaning.specs.Assertions.{ShareTree, Times, Taken, PatternTree, Is, Names, Wild, Head, BlockOf, Named, Family, Applied, Assertion, Pure, Empty, Both, Choose, Switch, Cell, Chunk, Branches, no_branches, branch, Environment}
use Rattle.vf_rules.specs.Terms.{Term, Store, term_of, stored, in_row, times_terms, head_of, IsBound, IsBoundHead, AreBound}
use Rattle.vf_rules.specs.States.{Fact, Holds, ChunkHead, CellOf, Of, SymbolicChunk, SymbolicState, Entails, with_chunks}
use Rattle.vf_rules.specs.Produce.{known, facts_of_name, Covers, Given, NoArgumentSort, ProducePatterns}
use Rattle.vf_rules.specs.Take.{same, IsQuotient, Takes, Removes, Changes}

-- each of several facts is entailed
abbrev pub EntailsAll : Environment → List Fact → List Fact → Type 0
EntailsAll e path [] = Unit {0}
EntailsAll e path (f ∷ fs) = Entails e path f × EntailsAll e path fs

-- on a path a chunk's head is the one that is wanted
abbrev pub HeadFits : Environment → List Fact → Head → ChunkHead → Type 0
HeadFits e path (BlockOf g) (Of (BlockOf h)) = g ≡ h
HeadFits e path (Named q) (Of (Named r)) = q ≡ r
HeadFits e path (Family q t) (Of (Family r u)) = (q ≡ r) × Entails e path (same t u)
HeadFits e path (Applied t) (Of (Applied u)) = Entails e path (same t u)
HeadFits e path _ _ = ⊥

module _ (e : Environment) (p : ProgramTree) (sorts : List Sort) (scale : Term) where
  -- the arguments of a chunk are as the patterns want them: an expression is entailed to be equal, and a name gets the argument's term, which has its sort
  abbrev pub ConsumePatterns : List Fact → List PatternTree → List (Option Term) → Store → (Store → Type 0) → Type 0
  ConsumePatterns path [] [] s K = K s
  ConsumePatterns path (Is x ∷ ps) (Some t ∷ ts) s K = IsBound s x × Entails e path (same (term_of s x) t) × ConsumePatterns path ps ts s K
  ConsumePatterns path (Names x ∷ ps) (Some t ∷ ts) s K = (s x ≡ None) × EntailsAll e path (facts_of_name sorts x t) × ConsumePatterns path ps ts (stored s x t) K
  ConsumePatterns path (Wild ∷ ps) (t ∷ ts) s K = ConsumePatterns path ps ts s K
  ConsumePatterns path _ _ s K = ⊥

  -- a chunk of which the wanted share, times the scale, is taken; a name takes all, and gets the share without the scale
  abbrev pub ConsumeShare : ShareTree → Store → List Fact → List SymbolicChunk → (SymbolicChunk → List SymbolicChunk → Store → Type 0) → Type 0
  ConsumeShare (Times d ys) s path cs K =
      AreBound s ys × ((c : SymbolicChunk) × (ds : List SymbolicChunk) × Takes e path (Share scale (times_terms s (Fraction d) ys)) c cs ds × K c ds s)
  ConsumeShare (Taken x) s path cs K =
      (c : SymbolicChunk) × (ds : List SymbolicChunk) × (t : Term) × Removes c cs ds × IsQuotient e path c.share scale t × (s x ≡ None) × EntailsAll e path (facts_of_name sorts x t) × K c ds (stored s x t)

  abbrev mutual
    -- what is to hold where an assertion has been consumed, with the store and the state that then stand
    pub Consume : Assertion → Store → SymbolicState → (Store → SymbolicState → Type 0) → Type 0
    Consume (Pure x) s st K = IsBound s x × Entails e st.path (Holds (term_of s x)) × K s st
    Consume Empty s st K = K s st
    Consume (Both a b) s st K = Consume a s st (λ s1 st1. Consume b s1 st1 K)
    Consume (Choose x a b) s st K =
        IsBound s x
        × Given e p sorts scale st (Holds (term_of s x)) (λ st1. Consume a s st1 K)
        × Given e p sorts scale st (Holds (Not (term_of s x))) (λ st1. Consume b s st1 K)
    Consume (Switch x branches) s st K = IsBound s x × Covers e sorts st.path (term_of s x) branches × ConsumeBranches branches (term_of s x) s st K
    Consume (Cell share pointer f x) s st K =
        IsBound s pointer
        × ((st1 : SymbolicState) × Changes e st st1
        × ConsumeShare share s st1.path st1.chunks (λ c ds s1.
        (c.head ≡ CellOf f) × ((t : Term) × (content : Option Term) × (c.arguments ≡ Some t ∷ content ∷ []) × Entails e st1.path (same (term_of s pointer) t)
        × ConsumePatterns st1.path (x ∷ []) (content ∷ []) s1 (λ s2. K s2 (with_chunks st1 ds)))))
    Consume (Chunk share head xs) s st K =
        IsBoundHead s head
        × ((st1 : SymbolicState) × Changes e st st1
        × ConsumeShare share s st1.path st1.chunks (λ c ds s1.
        HeadFits e st1.path (head_of s head) c.head × ConsumePatterns st1.path xs c.arguments s1 (λ s2. K s2 (with_chunks st1 ds))))

    -- each branch with new symbols for its names, of which the term is the constructor's
    pub ConsumeBranches : Branches → Term → Store → SymbolicState → (Store → SymbolicState → Type 0) → Type 0
    ConsumeBranches no_branches t s st K = Unit {0}
    ConsumeBranches (branch c xs a rest) t s st K =
        ProducePatterns e p sorts scale NoArgumentSort 0 (map (λ x. Names x) xs) s st (Some t ∷ []) (λ ts s1 st1.
        Given e p sorts scale st1 (Holds (Compare Equal t (Construct c (in_row (known (drop 1 ts)))))) (λ st2. Consume a s1 st2 K))
        × ConsumeBranches rest t s st K
