-- Consuming an assertion parts what a state stands for: a part that satisfies it, and what the state then stands for.
use Rattle.std.proofs.Common.{◌≡◌, ℕ, max, Bool, true, false, not, List, [], ◌∷◌, map, Option, Some, refl, sym, ap, subst, subst₂, ◌∙◌, inl, inr, arith}
use Rattle.std.specs.Prelude.{IsTrue}
use Rattle.std.specs.Bool.{MatchBool}
use Rattle.std.proofs.lemmas.Bool.{cases_Bool}
use Rattle.vf_tree.specs.Core.{Field, ProgramTree, Equal}
use Rattle.vf_model.specs.Values.{Dyadic, Value, Values, same_identity}
use Rattle.vf_model.specs.Values as values
use Rattle.vf_meaning.specs.Fractions.{whole, product, IsPositive}
use Rattle.vf_meaning.specs.Ghost.{Sort, Name, GhostExpression, Not, Compare, Construct, Fraction, Share}
use Rattle.vf_meaning.specs.Valuations.{Valuation, is_true, fraction_in, all_bound}
use Rattle.vf_meaning.specs.GhostValues.{value_of}
use Rattle.vf_meaning.specs.Assertions.{ShareTree, Times, Taken, Head, BlockOf, Named, Family, Applied, PatternTree, Assertion, Pure, Empty, Both, Choose, Switch, Cell, Chunk, Branches, no_branches, branch, Environment}
use Rattle.vf_meaning.specs.Parts.{Part, nothing, IsSum}
use Rattle.vf_meaning.specs.Chunks.{fraction_of, Wanted, wanted}
use Rattle.vf_meaning.specs.Satisfaction.{SatisfiesFamily, SatisfiesValue, SatisfiesHead, SatisfiesBranch, MeansAt, SatisfiesAt}
use Rattle.vf_meaning.proofs.Parts.{sums_turn, sums_regroup, nothing_is_neutral}
use Rattle.vf_meaning.proofs.Satisfaction.{depth_grows}
use Rattle.vf_rules.specs.Laws.{Grows, StoreSorted}
use Rattle.vf_rules.specs.Terms.{Term, Store, term_of, stored, times_terms, head_of, IsBound, IsBoundHead}
use Rattle.vf_rules.specs.Terms as terms
use Rattle.vf_rules.specs.States.{Fact, Holds, ChunkHead, CellOf, Of, SymbolicChunk, SymbolicState, meaning, value_in, IsMet, Meets, wanted_in, HeadMeans, ChunksMean, StoreMeans, StandsFor, assuming, with_chunks}
use Rattle.vf_rules.specs.Produce.{known, NamesHaveSorts, IsCovered, NoArgumentSort}
use Rattle.vf_rules.specs.Consume.{HeadFits, ConsumeShare, Consume, ConsumeBranches}
use Rattle.vf_rules.proofs.Terms.{bound_value, stored_own, stored_grows, grown_means}
use Rattle.vf_rules.proofs.Stands.{assuming_stands}
use Rattle.vf_rules.proofs.Produces.{given, constructed_met}
use Rattle.vf_rules.proofs.CaseNames.{names_read}
use Rattle.vf_rules.proofs.Takes.{same_value, rescaled, takes_parted, removes_parted, changes_stand}
use Rattle.vf_rules.proofs.Fits.{AllWeaker, cell_less, head_less, entailed, stored_sorted, patterns_fit, both_fractions, times_back, positive_factor}

-- a way on after an assertion: what satisfies it is split off
pub record Consumed (e : Environment) (sorts : List Sort) (K : Store → SymbolicState → Type 0) (S : ℕ → Valuation → Part → Type 0) (v : Valuation) (scale : Term) (s : Store)
    (locals : List (Option Value)) (names : Valuation) (p : Part) : Type 0 where
  pub under : Valuation
  pub off : Part
  pub left : Part
  pub sums : IsSum off left p
  pub store : Store
  pub state : SymbolicState
  pub holds : K store state
  pub stands : StandsFor e under state locals names left
  pub grows : Grows s store
  pub stays : (x : Name) (t : Term) → s x ≡ Some t → value_in e under t ≡ value_in e v t
  pub scale_is : value_in e under scale ≡ value_in e v scale
  pub sorted : StoreSorted e under sorts store
  pub depth : ℕ
  pub satisfies : (w : Valuation) → StoreMeans e under store w → S depth w off

-- ---- shares
-- a chunk of which the wanted share is split off
record ShareFit (e : Environment) (sorts : List Sort) (K : SymbolicChunk → List SymbolicChunk → Store → Type 0) (v : Valuation) (share : ShareTree) (c : Dyadic) (s : Store) (p : Part) : Type 0 where
  chunk : SymbolicChunk
  others : List SymbolicChunk
  store : Store
  holds : K chunk others store
  grows : Grows s store
  sorted : StoreSorted e v sorts store
  fraction : Dyadic
  positive : IsPositive fraction
  off : Part
  left : Part
  sums : IsSum off left p
  head : HeadMeans e v (product c fraction) chunk.head chunk.arguments off
  others_mean : ChunksMean e v others left
  share_is : (w : Valuation) → StoreMeans e v store w → fraction_of w share ≡ Some fraction

fraction_same : {x y : Dyadic} → values.Fraction x ≡ values.Fraction y → x ≡ y
fraction_same e = cc

share_fit : (e : Environment) (prog : ProgramTree) (sorts : List Sort) (scale : Term) (share : ShareTree) (s : Store) (path : List Fact) (cs : List SymbolicChunk) (K : SymbolicChunk → List SymbolicChunk → Store → Type 0)
    → ConsumeShare e prog sorts scale share s path cs K → (v : Valuation) (c : Dyadic) (p : Part) → Meets e v path → ChunksMean e v cs p → StoreSorted e v sorts s → value_in e v scale ≡ values.Fraction c
    → ShareFit e sorts K v share c s p
share_fit e prog sorts scale (Times d ys) s path cs K k v c p m mean so scaled =
    let chunk = (k.1).0 in
    let o = takes_parted e v path (Share scale (times_terms s (Fraction d) ys)) chunk (k.1).2 m p mean in
    let factors = both_fractions (value_in e v scale) (value_in e v (times_terms s (Fraction d) ys)) (o.chunk).fraction (o.chunk).share in
    let x = factors.1 in
    let is : product c x ≡ (o.chunk).fraction = ap (λ z. product z x) (fraction_same (sym scaled ∙ factors.2)) ∙ factors.4 in
    record {
      chunk = chunk;
      others = (k.1).1;
      store = s;
      holds = (k.1).3;
      grows = λ y t h. h;
      sorted = so;
      fraction = x;
      positive = positive_factor c x (subst IsPositive (sym is) (o.chunk).positive);
      off = o.off;
      left = o.left;
      sums = o.sums;
      head = subst (λ z. HeadMeans e v z chunk.head chunk.arguments o.off) (sym is) (o.chunk).head;
      others_mean = o.chunks_mean;
      share_is = λ w means. times_back e v s w d ys x k.0 means factors.3;
    }
share_fit e prog sorts scale (Taken f) s path cs K (chunk, others, t, taken, quotient, unbound, facts, go) v c p m mean so scaled =
    let o = removes_parted e v chunk taken p mean in
    let y = quotient.by v m c (o.chunk).fraction scaled (o.chunk).share in
    record {
      chunk = chunk;
      others = others;
      store = stored s f t;
      holds = go;
      grows = stored_grows s f t unbound;
      sorted = stored_sorted e v sorts s f t so (entailed e path _ facts v m) unbound;
      fraction = y.0;
      positive = y.3;
      off = o.off;
      left = o.left;
      sums = o.sums;
      head = subst (λ z. HeadMeans e v z chunk.head chunk.arguments o.off) y.2 (o.chunk).head;
      others_mean = o.chunks_mean;
      share_is = λ w means. ap fraction_in (sym (means f t (stored_own s f t)) ∙ y.1);
    }

-- ---- heads
-- how deep predicates are opened in what a head means
abbrev head_depth : (e : Environment) (v : Valuation) (x : Dyadic) (h : ChunkHead) (ts : List (Option Term)) (p : Part) → HeadMeans e v x h ts p → ℕ
head_depth e v x (CellOf f) ts p k = 0
head_depth e v x (Of head) ts p k = k.0

head_wanted : (e : Environment) (v w : Valuation) (path : List Fact) (s : Store) (c x : Dyadic) (head : Head) (h : ChunkHead) (ts : List (Option Term)) (us : List Wanted) (p : Part)
    → IsBoundHead s head → StoreMeans e v s w → Meets e v path → HeadFits e path (head_of s head) h → (k : HeadMeans e v x h ts p) → AllWeaker (map (wanted_in e v) ts) us
    → SatisfiesHead (MeansAt e (head_depth e v x h ts p k)) (meaning e) c x head w us p
head_wanted e v w path s c x (BlockOf g) (Of (BlockOf h)) ts us p b means m fit k less =
    rescaled e k.0 whole c x (BlockOf g) w us p (head_less (MeansAt e k.0) (meaning e) whole x (BlockOf g) w _ us p less (subst (λ z. SatisfiesHead (MeansAt e k.0) (meaning e) whole x (BlockOf z) w (map (wanted_in e v) ts) p) (sym fit) k.1))
head_wanted e v w path s c x (Named q) (Of (Named r)) ts us p b means m fit k less =
    rescaled e k.0 whole c x (Named q) w us p (head_less (MeansAt e k.0) (meaning e) whole x (Named q) w _ us p less (subst (λ z. SatisfiesHead (MeansAt e k.0) (meaning e) whole x (Named z) w (map (wanted_in e v) ts) p) (sym fit) k.1))
head_wanted e v w path s c x (Family q t) (Of (Family r u)) ts us p b means m fit k less =
    let is : value_in e v u ≡ value_of (meaning e) w t = sym (same_value e v (term_of s t) u ((fit.1).by v m)) ∙ bound_value e v s w t b means in
    rescaled e k.0 whole c x (Family q t) w us p (head_less (MeansAt e k.0) (meaning e) whole x (Family q t) w _ us p less
    (subst₂ (λ f z. SatisfiesFamily (MeansAt e k.0) x f z (map (wanted_in e v) ts) p) (sym fit.0) is k.1))
head_wanted e v w path s c x (Applied t) (Of (Applied u)) ts us p b means m fit k less =
    let is : value_in e v u ≡ value_of (meaning e) w t = sym (same_value e v (term_of s t) u (fit.by v m)) ∙ bound_value e v s w t b means in
    rescaled e k.0 whole c x (Applied t) w us p (head_less (MeansAt e k.0) (meaning e) whole x (Applied t) w _ us p less (subst (λ z. SatisfiesValue (MeansAt e k.0) x z (map (wanted_in e v) ts) p) is k.1))
head_wanted e v w path s c x (BlockOf g) (CellOf f) ts us p b means m fit k less = absurd fit
head_wanted e v w path s c x (BlockOf g) (Of (Named r)) ts us p b means m fit k less = absurd fit
head_wanted e v w path s c x (BlockOf g) (Of (Family r u)) ts us p b means m fit k less = absurd fit
head_wanted e v w path s c x (BlockOf g) (Of (Applied u)) ts us p b means m fit k less = absurd fit
head_wanted e v w path s c x (Named q) (CellOf f) ts us p b means m fit k less = absurd fit
head_wanted e v w path s c x (Named q) (Of (BlockOf r)) ts us p b means m fit k less = absurd fit
head_wanted e v w path s c x (Named q) (Of (Family r u)) ts us p b means m fit k less = absurd fit
head_wanted e v w path s c x (Named q) (Of (Applied u)) ts us p b means m fit k less = absurd fit
head_wanted e v w path s c x (Family q t) (CellOf f) ts us p b means m fit k less = absurd fit
head_wanted e v w path s c x (Family q t) (Of (BlockOf r)) ts us p b means m fit k less = absurd fit
head_wanted e v w path s c x (Family q t) (Of (Named r)) ts us p b means m fit k less = absurd fit
head_wanted e v w path s c x (Family q t) (Of (Applied u)) ts us p b means m fit k less = absurd fit
head_wanted e v w path s c x (Applied t) (CellOf f) ts us p b means m fit k less = absurd fit
head_wanted e v w path s c x (Applied t) (Of (BlockOf r)) ts us p b means m fit k less = absurd fit
head_wanted e v w path s c x (Applied t) (Of (Named r)) ts us p b means m fit k less = absurd fit
head_wanted e v w path s c x (Applied t) (Of (Family r u)) ts us p b means m fit k less = absurd fit

-- ---- the whole assertion
module _ (e : Environment) (prog : ProgramTree) (sorts : List Sort) (scale : Term) (c : Dyadic) (locals : List (Option Value)) (names : Valuation) where
  -- what an assertion means, at a depth
  abbrev Means : Assertion → ℕ → Valuation → Part → Type 0
  Means a n w p = SatisfiesAt e n c a w p

  -- nothing is split off
  nothing_off : (K : Store → SymbolicState → Type 0) (S : ℕ → Valuation → Part → Type 0) (v : Valuation) (s : Store) (st : SymbolicState) (p : Part) → K s st → StandsFor e v st locals names p
      → StoreSorted e v sorts s → ((w : Valuation) → StoreMeans e v s w → S 0 w nothing) → Consumed e sorts K S v scale s locals names p
  nothing_off K S v s st p k stands so h = record {
    under = v;
    off = nothing;
    left = p;
    sums = nothing_is_neutral p;
    store = s;
    state = st;
    holds = k;
    stands = stands;
    grows = λ x t g. g;
    stays = λ x t g. refl;
    scale_is = refl;
    sorted = so;
    depth = 0;
    satisfies = h;
  }

  -- a cell
  cell_consumed : (share : ShareTree) (pointer : GhostExpression) (f : Field) (x : PatternTree) (s : Store) (st : SymbolicState) (K : Store → SymbolicState → Type 0)
      → Consume e prog sorts scale (Cell share pointer f x) s st K → (v : Valuation) (p : Part) → StandsFor e v st locals names p → StoreSorted e v sorts s → value_in e v scale ≡ values.Fraction c
      → Consumed e sorts K (Means (Cell share pointer f x)) v scale s locals names p
  cell_consumed share pointer f x s st K (bound, (st1, changed, k)) v p stands so scaled =
      let now = changes_stand e v changed locals names p stands in
      let one = share_fit e prog sorts scale share s st1.path st1.chunks _ k v c p now.path now.chunks_mean so scaled in
      let (is_cell, (t, content, arguments, equal, go)) = one.holds in
      let two = patterns_fit e prog sorts scale st1.path (x ∷ []) (content ∷ []) one.store (λ s2. K s2 (with_chunks st1 one.others)) go v now.path one.sorted in
      let owned = subst₂ (λ h ts. HeadMeans e v (product c one.fraction) h ts one.off) is_cell arguments one.head in
      record {
        under = v;
        off = one.off;
        left = one.left;
        sums = one.sums;
        store = two.store;
        state = with_chunks st1 one.others;
        holds = two.holds;
        stands = record { path = now.path; locals_mean = now.locals_mean; names_mean = now.names_mean; chunks_mean = one.others_mean };
        grows = λ y u g. two.grows y u (one.grows y u g);
        stays = λ y u g. refl;
        scale_is = refl;
        sorted = two.sorted;
        depth = 0;
        satisfies = λ w means.
            let means1 = grown_means e v one.store two.store w two.grows means in
            let means0 = grown_means e v s one.store w one.grows means1 in
            let is = sym (same_value e v (term_of s pointer) t (equal.by v now.path)) ∙ bound_value e v s w pointer bound means0 in (
              one.fraction,
              record { is = one.share_is w means1; positive = one.positive },
              record { block = owned.block; begins = sym is ∙ owned.begins; holds = owned.holds; meets = cell_less (wanted_in e v content) (wanted (meaning e) w x) owned.holds ((two.asked w means).0) owned.meets; owns = owned.owns },
            );
      }

  -- a chunk
  chunk_consumed : (share : ShareTree) (head : Head) (xs : List PatternTree) (s : Store) (st : SymbolicState) (K : Store → SymbolicState → Type 0)
      → Consume e prog sorts scale (Chunk share head xs) s st K → (v : Valuation) (p : Part) → StandsFor e v st locals names p → StoreSorted e v sorts s → value_in e v scale ≡ values.Fraction c
      → Consumed e sorts K (Means (Chunk share head xs)) v scale s locals names p
  chunk_consumed share head xs s st K (bound, (st1, changed, k)) v p stands so scaled =
      let now = changes_stand e v changed locals names p stands in
      let one = share_fit e prog sorts scale share s st1.path st1.chunks _ k v c p now.path now.chunks_mean so scaled in
      let two = patterns_fit e prog sorts scale st1.path xs (one.chunk).arguments one.store (λ s2. K s2 (with_chunks st1 one.others)) (one.holds).1 v now.path one.sorted in
      record {
        under = v;
        off = one.off;
        left = one.left;
        sums = one.sums;
        store = two.store;
        state = with_chunks st1 one.others;
        holds = two.holds;
        stands = record { path = now.path; locals_mean = now.locals_mean; names_mean = now.names_mean; chunks_mean = one.others_mean };
        grows = λ y u g. two.grows y u (one.grows y u g);
        stays = λ y u g. refl;
        scale_is = refl;
        sorted = two.sorted;
        depth = head_depth e v (product c one.fraction) (one.chunk).head (one.chunk).arguments one.off one.head;
        satisfies = λ w means.
            let means1 = grown_means e v one.store two.store w two.grows means in
            let means0 = grown_means e v s one.store w one.grows means1 in (
              one.fraction,
              record { is = one.share_is w means1; positive = one.positive },
              head_wanted e v w st1.path s c (product c one.fraction) head (one.chunk).head (one.chunk).arguments (map (wanted (meaning e) w) xs) one.off bound means0 now.path (one.holds).0 one.head (two.asked w means),
            );
      }

  -- the same for another meaning, which holds where that one does
  meant : (K : Store → SymbolicState → Type 0) (S T : ℕ → Valuation → Part → Type 0) (v : Valuation) (s : Store) (p : Part) → (o : Consumed e sorts K S v scale s locals names p)
      → ((w : Valuation) → StoreMeans e o.under o.store w → S o.depth w o.off → T o.depth w o.off) → Consumed e sorts K T v scale s locals names p
  meant K S T v s p o f = record {
    under = o.under;
    off = o.off;
    left = o.left;
    sums = o.sums;
    store = o.store;
    state = o.state;
    holds = o.holds;
    stands = o.stands;
    grows = o.grows;
    stays = o.stays;
    scale_is = o.scale_is;
    sorted = o.sorted;
    depth = o.depth;
    satisfies = λ w m. f w m (o.satisfies w m);
  }

  -- two assertions, one after the other
  both_consumed : (a b : Assertion) (K : Store → SymbolicState → Type 0) (v : Valuation) (s : Store) (p : Part) → (x : Consumed e sorts (λ s1 st1. Consume e prog sorts scale b s1 st1 K) (Means a) v scale s locals names p)
      → Consumed e sorts K (Means b) x.under scale x.store locals names x.left → Consumed e sorts K (Means (Both a b)) v scale s locals names p
  both_consumed a b K v s p x y =
      let other = sums_regroup y.left y.off x.left x.off p (sums_turn y.off y.left x.left y.sums) (sums_turn x.off x.left p x.sums) in
      record {
        under = y.under;
        off = other.0;
        left = y.left;
        sums = sums_turn y.left other.0 p other.2;
        store = y.store;
        state = y.state;
        holds = y.holds;
        stands = y.stands;
        grows = λ z t g. y.grows z t (x.grows z t g);
        stays = λ z t g. y.stays z t (x.grows z t g) ∙ x.stays z t g;
        scale_is = y.scale_is ∙ x.scale_is;
        sorted = y.sorted;
        depth = max x.depth y.depth;
        satisfies = λ w m.
            let before : StoreMeans e x.under x.store w = λ z t g. sym (y.stays z t g) ∙ m z t (y.grows z t g) in (
              x.off,
              y.off,
              sums_turn y.off x.off other.0 other.1,
              depth_grows e x.depth (max x.depth y.depth) c a w x.off (omega arith) (x.satisfies w before),
              depth_grows e y.depth (max x.depth y.depth) c b w y.off (omega arith) (y.satisfies w m),
            );
      }

  chosen : (b : Bool) (A B : Type 0) → b ≡ true → A → MatchBool b A B
  chosen b A B h a = subst (λ z. MatchBool z A B) (sym h) a

  refused : (b : Bool) (A B : Type 0) → b ≡ false → B → MatchBool b A B
  refused b A B h x = subst (λ z. MatchBool z A B) (sym h) x

  -- the truth of a bound expression is that of its term
  truth_is : (v w : Valuation) (s r : Store) (x : GhostExpression) (b : Bool) (u : Valuation) → IsBound s x → Grows s r → ((z : Name) (t : Term) → s z ≡ Some t → value_in e u t ≡ value_in e v t) → StoreMeans e u r w
      → is_true (value_in e v (term_of s x)) ≡ b → is_true (value_of (meaning e) w x) ≡ b
  truth_is v w s r x b u bound grows stays means h = ap is_true (sym (bound_value e v s w x bound (λ z t g. sym (stays z t g) ∙ means z t (grows z t g)))) ∙ h

  mutual
    pub consumed : (a : Assertion) (s : Store) (st : SymbolicState) (K : Store → SymbolicState → Type 0) → Consume e prog sorts scale a s st K
        → (v : Valuation) (p : Part) → StandsFor e v st locals names p → StoreSorted e v sorts s → value_in e v scale ≡ values.Fraction c → Consumed e sorts K (Means a) v scale s locals names p
    consumed (Pure x) s st K k v p stands so scaled =
        nothing_off K (Means (Pure x)) v s st p k.2 stands so (λ w m. (refl, subst (λ z. IsTrue (is_true z)) (bound_value e v s w x k.0 m) ((k.1).by v stands.path)))
    consumed Empty s st K k v p stands so scaled = nothing_off K (Means Empty) v s st p k stands so (λ w m. refl)
    consumed (Both a b) s st K k v p stands so scaled =
        let x = consumed a s st (λ s1 st1. Consume e prog sorts scale b s1 st1 K) k v p stands so scaled in
        both_consumed a b K v s p x (consumed b x.store x.state K x.holds x.under x.left x.stands x.sorted (x.scale_is ∙ scaled))
    consumed (Choose x a b) s st K k v p stands so scaled =
        elim (cases_Bool (is_true (value_in e v (term_of s x)))) [
          | inl yes1 ↦
              let o = consumed a s (assuming st (Holds (term_of s x))) K
              (given e prog sorts scale locals names st (Holds (term_of s x)) (λ st1. Consume e prog sorts scale a s st1 K) k.1 v p stands yes1)
              v p (assuming_stands e v st locals names p (Holds (term_of s x)) yes1 stands) so scaled in
              meant K (Means a) (Means (Choose x a b)) v s p o (λ w m h. chosen (is_true (value_of (meaning e) w x)) _ _ (truth_is v w s o.store x true o.under k.0 o.grows o.stays m yes1) h)
          | inr no1 ↦
              let met : IsMet e v (Holds (Not (term_of s x))) = ap not no1 in
              let o = consumed b s (assuming st (Holds (Not (term_of s x)))) K
              (given e prog sorts scale locals names st (Holds (Not (term_of s x))) (λ st1. Consume e prog sorts scale b s st1 K) k.2 v p stands met)
              v p (assuming_stands e v st locals names p (Holds (Not (term_of s x))) met stands) so scaled in
              meant K (Means b) (Means (Choose x a b)) v s p o (λ w m h. refused (is_true (value_of (meaning e) w x)) _ _ (truth_is v w s o.store x false o.under k.0 o.grows o.stays m no1) h)
        ]
    consumed (Switch x branches) s st K k v p stands so scaled =
        let o = branch_consumed branches (term_of s x) s st K k.2 v p (value_in e v (term_of s x)) refl stands so scaled ((k.1).by v stands.path) in
        meant K (λ n w q. SatisfiesBranch (MeansAt e n) (meaning e) c branches (value_in e v (term_of s x)) w q) (Means (Switch x branches)) v s p o
        (λ w m h. subst (λ z. SatisfiesBranch (MeansAt e o.depth) (meaning e) c branches z w o.off) (bound_value e v s w x k.0 (λ z t g. sym (o.stays z t g) ∙ m z t (o.grows z t g))) h)
    consumed (Cell share pointer f x) s st K k v p stands so scaled = cell_consumed share pointer f x s st K k v p stands so scaled
    consumed (Chunk share head xs) s st K k v p stands so scaled = chunk_consumed share head xs s st K k v p stands so scaled

    branch_consumed : (bs : Branches) (t : Term) (s : Store) (st : SymbolicState) (K : Store → SymbolicState → Type 0) → ConsumeBranches e prog sorts scale bs t s st K
        → (v : Valuation) (p : Part) (u : Value) → value_in e v t ≡ u → StandsFor e v st locals names p → StoreSorted e v sorts s → value_in e v scale ≡ values.Fraction c → IsCovered e sorts bs u
        → Consumed e sorts K (λ n w q. SatisfiesBranch (MeansAt e n) (meaning e) c bs u w q) v scale s locals names p
    branch_consumed no_branches t s st K k v p u is stands so scaled covered = absurd covered
    branch_consumed (branch f xs a rest) t s st K k v p (values.Constructed d us) is stands so scaled covered =
        elim (cases_Bool (same_identity f d)) [
          | inl yes1 ↦
              let fitting = subst (λ z. MatchBool z (NamesHaveSorts e sorts xs us) (IsCovered e sorts rest (values.Constructed d us))) yes1 covered in
              let one = names_read e prog sorts scale _ locals names p NoArgumentSort 0 xs us s st (Some t ∷ []) k.0 v stands so fitting in
              let met = constructed_met e prog sorts scale c 0 locals names one.under t f d one.new us yes1 (one.kept t (inl refl) ∙ is) one.new_are in
              let fact = Holds (Compare Equal t (Construct f (terms.in_row (known one.new)))) in
              let two = consumed a one.store (assuming one.state fact) K
              (given e prog sorts scale locals names one.state fact (λ st2. Consume e prog sorts scale a one.store st2 K) one.holds one.under p one.stands met)
              one.under p (assuming_stands e one.under one.state locals names p fact met one.stands) one.sorted (one.scale_is ∙ scaled) in
              record {
                under = two.under;
                off = two.off;
                left = two.left;
                sums = two.sums;
                store = two.store;
                state = two.state;
                holds = two.holds;
                stands = two.stands;
                grows = λ y z g. two.grows y z (one.grows y z g);
                stays = λ y z g. two.stays y z (one.grows y z g) ∙ one.stays y z g;
                scale_is = two.scale_is ∙ one.scale_is;
                sorted = two.sorted;
                depth = two.depth;
                satisfies = λ w m. chosen (same_identity f d) _ _ yes1
                    (two.satisfies (all_bound w xs us) (one.rebound two.store two.under w two.grows two.stays m));
              }
          | inr no1 ↦
              let o = branch_consumed rest t s st K k.1 v p (values.Constructed d us) is stands so scaled
              (subst (λ z. MatchBool z (NamesHaveSorts e sorts xs us) (IsCovered e sorts rest (values.Constructed d us))) no1 covered) in
              meant K (λ n w q. SatisfiesBranch (MeansAt e n) (meaning e) c rest (values.Constructed d us) w q) (λ n w q. SatisfiesBranch (MeansAt e n) (meaning e) c (branch f xs a rest) (values.Constructed d us) w q) v s p o
              (λ w m h. refused (same_identity f d) _ _ no1 h)
        ]
    branch_consumed (branch f xs a rest) t s st K k v p (values.Number z) is stands so scaled covered = absurd covered
    branch_consumed (branch f xs a rest) t s st K k v p (values.Truth z) is stands so scaled covered = absurd covered
    branch_consumed (branch f xs a rest) t s st K k v p values.Null is stands so scaled covered = absurd covered
    branch_consumed (branch f xs a rest) t s st K k v p (values.Pointer b o) is stands so scaled covered = absurd covered
    branch_consumed (branch f xs a rest) t s st K k v p (values.Function g) is stands so scaled covered = absurd covered
    branch_consumed (branch f xs a rest) t s st K k v p (values.Predicate g vs) is stands so scaled covered = absurd covered
    branch_consumed (branch f xs a rest) t s st K k v p (values.Fraction d) is stands so scaled covered = absurd covered
