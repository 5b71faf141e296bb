-- The laws of satisfaction: what grows keeps it, scales split, and satisfying parts are consistent.
use Rattle.std.proofs.Common.{◌≡◌, ℕ, zero, suc, ◌≤◌, Bool, true, false, List, [], ◌∷◌, map, Option, Some, None, refl, sym, ap, ap₂, subst, ◌∙◌, inl, inr, arith}
use Rattle.std.specs.Prelude.{pos}
use Rattle.std.specs.Bool.{MatchBool}
use Rattle.vf_tree.specs.Core.{Identity}
use Rattle.vf_model.specs.Values.{Dyadic, Value, Values, none, more, same_identity}
use Rattle.vf_model.specs.Values as values
use Rattle.vf_meaning.specs.Fractions.{sum, product, half}
use Rattle.vf_meaning.specs.Valuations.{Valuation, is_true, all_bound}
use Rattle.vf_meaning.specs.GhostValues.{Interpretation, value_of, interpreted}
use Rattle.vf_meaning.specs.Assertions.{Head, BlockOf, Named, Family, Applied, Assertion, Pure, Empty, Both, Choose, Switch, Cell, Chunk, Branches, no_branches, branch, BodyName, BodyTree, Environment}
use Rattle.vf_meaning.specs.Parts.{Location, Content, FieldCell, IndexCell, CellOf, Part, nothing, single, ◌⊕◌, IsConsistent, IsSum}
use Rattle.vf_meaning.specs.Chunks.{Wanted, wanted, Primitive, Mutexes, HeldMutexes, Handles, IntBlocks, IntCells, Others, primitive, IsRow, IsRowAt, IsInts}
use Rattle.vf_meaning.specs.Satisfaction.{SatisfiesBody, SatisfiesPrimitive, SatisfiesFamily, SatisfiesValue, SatisfiesHead, SatisfiesBy, SatisfiesBranch, SatisfiesIf, MeansAt, SatisfiesAt}
use Rattle.vf_meaning.specs.SatisfactionLaws.{DepthGrows, DepthFalls, ScalesSplit, HalvesSplit, SatisfyingIsConsistent}
use Rattle.vf_meaning.proofs.Fractions.{product_distributes, halves_make_the_whole}
use Rattle.vf_meaning.proofs.Parts.{⊕-comm, ⊕-assoc, in_left, in_right, in_either, nothing_is_neutral, sums_are_consistent, singles_have_just_that, singles_add, not_nought}

one_of : {A B C : Type 0} (b : Bool) → (A → C) → (B → C) → MatchBool b A B → C
one_of true f g h = f h
one_of false f g h = g h

pub match_map : {A B C D : Type 0} (b : Bool) → (A → C) → (B → D) → MatchBool b A B → MatchBool b C D
match_map true f g h = f h
match_map false f g h = g h

-- ---- what predicates mean may grow
module _ (M N : Dyadic → BodyName → Values → Part → Type 0) (each : (x : Dyadic) (b : BodyName) (vs : Values) (p : Part) → M x b vs p → N x b vs p) where
  body_map : (x : Dyadic) (b : BodyName) (ws : List Wanted) (p : Part) → SatisfiesBody M x b ws p → SatisfiesBody N x b ws p
  body_map x b ws p h = (h.0, h.1, each x b h.0 p h.2)

  primitive_map : (k : Primitive) (x : Dyadic) (q : Identity) (ws : List Wanted) (p : Part) → SatisfiesPrimitive M k x q ws p → SatisfiesPrimitive N k x q ws p
  primitive_map Mutexes x q ws p h = h
  primitive_map HeldMutexes x q ws p h = h
  primitive_map Handles x q ws p h = h
  primitive_map IntBlocks x q ws p h = h
  primitive_map IntCells x q ws p h = h
  primitive_map Others x q ws p h = body_map x _ ws p h

  family_map : (x : Dyadic) (q : Identity) (w : Value) (ws : List Wanted) (p : Part) → SatisfiesFamily M x q w ws p → SatisfiesFamily N x q w ws p
  family_map x q (values.Function g) ws p h = body_map x _ ws p h
  family_map x q _ ws p h = absurd h

  applied_map : (x : Dyadic) (w : Value) (ws : List Wanted) (p : Part) → SatisfiesValue M x w ws p → SatisfiesValue N x w ws p
  applied_map x (values.Predicate q first) ws p h = primitive_map (primitive q) x q _ p h
  applied_map x _ ws p h = absurd h

  module _ (i : Interpretation) (s : Dyadic) where
    head_map : (x : Dyadic) (head : Head) (v : Valuation) (ws : List Wanted) (p : Part) → SatisfiesHead M i s x head v ws p → SatisfiesHead N i s x head v ws p
    head_map x (BlockOf g) v ws p h = h
    head_map x (Named q) v ws p h = primitive_map (primitive q) x q ws p h
    head_map x (Family q e) v ws p h = family_map x q (value_of i v e) ws p h
    head_map x (Applied e) v ws p h = applied_map x (value_of i v e) ws p h

    mutual
      pub satisfies_map : (a : Assertion) (v : Valuation) (p : Part) → SatisfiesBy M i s a v p → SatisfiesBy N i s a v p
      satisfies_map (Pure e) v p h = h
      satisfies_map Empty v p h = h
      satisfies_map (Both a b) v p h = (h.0, h.1, h.2, satisfies_map a v h.0 h.3, satisfies_map b v h.1 h.4)
      satisfies_map (Choose c a b) v p h = match_map (is_true (value_of i v c)) (satisfies_map a v p) (satisfies_map b v p) h
      satisfies_map (Switch e branches) v p h = branch_map branches (value_of i v e) v p h
      satisfies_map (Cell share e f x) v p h = h
      satisfies_map (Chunk share head xs) v p h = (h.0, h.1, head_map (product s h.0) head v _ p h.2)

      branch_map : (bs : Branches) (w : Value) (v : Valuation) (p : Part) → SatisfiesBranch M i s bs w v p → SatisfiesBranch N i s bs w v p
      branch_map no_branches w v p h = absurd h
      branch_map (branch c xs a rest) (values.Constructed d ws) v p h =
          match_map (same_identity c d) (satisfies_map a (all_bound v xs ws) p) (branch_map rest (values.Constructed d ws) v p) h
      branch_map (branch c xs a rest) (values.Number z) v p h = absurd h
      branch_map (branch c xs a rest) (values.Truth b) v p h = absurd h
      branch_map (branch c xs a rest) values.Null v p h = absurd h
      branch_map (branch c xs a rest) (values.Pointer b o) v p h = absurd h
      branch_map (branch c xs a rest) (values.Function g) v p h = absurd h
      branch_map (branch c xs a rest) (values.Predicate q vs) v p h = absurd h
      branch_map (branch c xs a rest) (values.Fraction d) v p h = absurd h

if_map : (e : Environment) (M N : Dyadic → BodyName → Values → Part → Type 0) → ((x : Dyadic) (b : BodyName) (vs : Values) (p : Part) → M x b vs p → N x b vs p)
    → (s : Dyadic) (o : Option BodyTree) (vs : Values) (p : Part) → SatisfiesIf e M s o vs p → SatisfiesIf e N s o vs p
if_map e M N each s None vs p h = absurd h
if_map e M N each s (Some b) vs p h = record {
  under = h.under;
  sorts = h.sorts;
  number = h.number;
  begins = h.begins;
  satisfies = satisfies_map M N each (interpreted e.claims e.fixpoints) s b.assertion h.under p h.satisfies;
}

means_deeper : (e : Environment) (n k : ℕ) → n ≤ k → (s : Dyadic) (b : BodyName) (vs : Values) (p : Part) → MeansAt e n s b vs p → MeansAt e k s b vs p
means_deeper e zero k l s b vs p h = absurd h
means_deeper e (suc n) zero l s b vs p h = absurd (none n l)
  where
    none : (n : ℕ) → suc n ≤ 0 → ⊥
    none n l = omega arith
means_deeper e (suc n) (suc k) l s b vs p h =
    if_map e (MeansAt e n) (MeansAt e k) (means_deeper e n k (omega (arith, l))) s (e.bodies b) vs p h

pub depth_grows : DepthGrows
depth_grows e n k s a v p l h = satisfies_map (MeansAt e n) (MeansAt e k) (means_deeper e n k l) (interpreted e.claims e.fixpoints) s a v p h

pub depth_falls : DepthFalls
depth_falls e s b vs p = (λ h. h, λ n. (λ h. h, λ h. h))

-- ---- parts that satisfy are consistent
single_consistent : (l : Location) (c : Content) (x : Dyadic) (p : Part) → p ≡ single l c x → IsConsistent p
single_consistent l c x p h = subst IsConsistent (sym h) (singles_have_just_that l c x).1

nothing_consistent : (p : Part) → p ≡ nothing → IsConsistent p
unfolding nothing
nothing_consistent p h = subst IsConsistent (sym h) (λ l c d x y. absurd (not_nought (nothing l c) refl x))

row_consistent : (x : Dyadic) (b k : ℕ) (row : List (Option Value)) (p : Part) → IsRow x b k row p → IsConsistent p
row_consistent x b k [] p h = nothing_consistent p h
row_consistent x b k (held ∷ row) p h = sums_are_consistent _ h.0 p (singles_have_just_that _ _ x).1 (row_consistent x b (suc k) row h.0 h.2) h.1

row_at_consistent : (x : Dyadic) (w : Value) (row : List (Option Value)) (p : Part) → IsRowAt x w row p → IsConsistent p
row_at_consistent x w [] p h = nothing_consistent p h
row_at_consistent x (values.Pointer b (pos o)) (held ∷ row) p h = row_consistent x b o (held ∷ row) p h
row_at_consistent x _ (held ∷ row) p h = absurd h

ints_consistent : (x : Dyadic) (ws : List Wanted) (p : Part) → IsInts x ws p → IsConsistent p
ints_consistent x (a ∷ b ∷ c ∷ []) p h = row_at_consistent x h.0 h.1 p h.5
ints_consistent x _ p h = absurd h

module _ (M : Dyadic → BodyName → Values → Part → Type 0) (each : (x : Dyadic) (b : BodyName) (vs : Values) (p : Part) → M x b vs p → IsConsistent p) where
  primitive_consistent : (k : Primitive) (x : Dyadic) (q : Identity) (ws : List Wanted) (p : Part) → SatisfiesPrimitive M k x q ws p → IsConsistent p
  primitive_consistent Mutexes x q ws p h = single_consistent _ _ x p h.owns
  primitive_consistent HeldMutexes x q ws p h = single_consistent _ _ x p h.owns
  primitive_consistent Handles x q ws p h = single_consistent _ _ x p h.owns
  primitive_consistent IntBlocks x q ws p h = single_consistent _ _ x p h.owns
  primitive_consistent IntCells x q ws p h = ints_consistent x ws p h
  primitive_consistent Others x q ws p h = each x _ h.0 p h.2

  family_consistent : (x : Dyadic) (q : Identity) (w : Value) (ws : List Wanted) (p : Part) → SatisfiesFamily M x q w ws p → IsConsistent p
  family_consistent x q (values.Function g) ws p h = each x _ h.0 p h.2
  family_consistent x q _ ws p h = absurd h

  applied_consistent : (x : Dyadic) (w : Value) (ws : List Wanted) (p : Part) → SatisfiesValue M x w ws p → IsConsistent p
  applied_consistent x (values.Predicate q first) ws p h = primitive_consistent (primitive q) x q _ p h
  applied_consistent x _ ws p h = absurd h

  module _ (i : Interpretation) (s : Dyadic) where
    head_consistent : (x : Dyadic) (head : Head) (v : Valuation) (ws : List Wanted) (p : Part) → SatisfiesHead M i s x head v ws p → IsConsistent p
    head_consistent x (BlockOf g) v ws p h = single_consistent _ _ x p h.owns
    head_consistent x (Named q) v ws p h = primitive_consistent (primitive q) x q ws p h
    head_consistent x (Family q e) v ws p h = family_consistent x q (value_of i v e) ws p h
    head_consistent x (Applied e) v ws p h = applied_consistent x (value_of i v e) ws p h

    mutual
      satisfying_consistent : (a : Assertion) (v : Valuation) (p : Part) → SatisfiesBy M i s a v p → IsConsistent p
      satisfying_consistent (Pure e) v p h = nothing_consistent p h.0
      satisfying_consistent Empty v p h = nothing_consistent p h
      satisfying_consistent (Both a b) v p h = sums_are_consistent h.0 h.1 p (satisfying_consistent a v h.0 h.3) (satisfying_consistent b v h.1 h.4) h.2
      satisfying_consistent (Choose c a b) v p h = one_of (is_true (value_of i v c)) (satisfying_consistent a v p) (satisfying_consistent b v p) h
      satisfying_consistent (Switch e branches) v p h = branch_consistent branches (value_of i v e) v p h
      satisfying_consistent (Cell share e f x) v p h = single_consistent _ _ (product s h.0) p (h.2).owns
      satisfying_consistent (Chunk share head xs) v p h = head_consistent (product s h.0) head v _ p h.2

      branch_consistent : (bs : Branches) (w : Value) (v : Valuation) (p : Part) → SatisfiesBranch M i s bs w v p → IsConsistent p
      branch_consistent no_branches w v p h = absurd h
      branch_consistent (branch c xs a rest) (values.Constructed d ws) v p h =
          one_of (same_identity c d) (satisfying_consistent a (all_bound v xs ws) p) (branch_consistent rest (values.Constructed d ws) v p) h
      branch_consistent (branch c xs a rest) (values.Number z) v p h = absurd h
      branch_consistent (branch c xs a rest) (values.Truth b) v p h = absurd h
      branch_consistent (branch c xs a rest) values.Null v p h = absurd h
      branch_consistent (branch c xs a rest) (values.Pointer b o) v p h = absurd h
      branch_consistent (branch c xs a rest) (values.Function g) v p h = absurd h
      branch_consistent (branch c xs a rest) (values.Predicate q vs) v p h = absurd h
      branch_consistent (branch c xs a rest) (values.Fraction d) v p h = absurd h

if_consistent : (e : Environment) (M : Dyadic → BodyName → Values → Part → Type 0) → ((x : Dyadic) (b : BodyName) (vs : Values) (p : Part) → M x b vs p → IsConsistent p)
    → (s : Dyadic) (o : Option BodyTree) (vs : Values) (p : Part) → SatisfiesIf e M s o vs p → IsConsistent p
if_consistent e M each s None vs p h = absurd h
if_consistent e M each s (Some b) vs p h = satisfying_consistent M each (interpreted e.claims e.fixpoints) s b.assertion h.under p h.satisfies

means_consistent : (e : Environment) (n : ℕ) (s : Dyadic) (b : BodyName) (vs : Values) (p : Part) → MeansAt e n s b vs p → IsConsistent p
means_consistent e zero s b vs p h = absurd h
means_consistent e (suc n) s b vs p h = if_consistent e (MeansAt e n) (means_consistent e n) s (e.bodies b) vs p h

pub satisfying_is_consistent : SatisfyingIsConsistent
satisfying_is_consistent e n s a v p h = satisfying_consistent (MeansAt e n) (means_consistent e n) (interpreted e.claims e.fixpoints) s a v p h

-- ---- scales split
-- two parts of one
pub record Two (S T : Part → Type 0) (p : Part) : Type 0 where
  pub left : Part
  pub right : Part
  pub sums : IsSum left right p
  pub first : S left
  pub second : T right

⊕-left : (p q r : Part) → p ⊕ (q ⊕ r) ≡ q ⊕ (p ⊕ r)
⊕-left p q r = sym (⊕-assoc p q r) ∙ ap (λ x. x ⊕ r) (⊕-comm p q) ∙ ⊕-assoc q p r

exchanged : (a b c d : Part) → (a ⊕ b) ⊕ (c ⊕ d) ≡ (a ⊕ c) ⊕ (b ⊕ d)
exchanged a b c d = ⊕-assoc a b (c ⊕ d) ∙ ap (λ x. a ⊕ x) (⊕-left b c d) ∙ sym (⊕-assoc a c (b ⊕ d))

-- each of two parts is split, and so is their sum
two_both : (S T U V : Part → Type 0) (p q r : Part) → IsSum p q r → Two S T p → Two U V q
    → Two (λ x. (y : Part) × (z : Part) × IsSum y z x × S y × U z) (λ x. (y : Part) × (z : Part) × IsSum y z x × T y × V z) r
two_both S T U V p q r h a b =
    let lefts : IsSum a.left b.left (a.left ⊕ b.left) = record { agree = λ l c d x y. h.agree l c d (in_left a.left a.right p a.sums l c x) (in_left b.left b.right q b.sums l d y); adds = refl } in
    let rights : IsSum a.right b.right (a.right ⊕ b.right) = record { agree = λ l c d x y. h.agree l c d (in_right a.left a.right p a.sums l c x) (in_right b.left b.right q b.sums l d y); adds = refl } in
    record {
      left = a.left ⊕ b.left;
      right = a.right ⊕ b.right;
      sums = record {
        agree = λ l c d x y. elim (in_either a.left b.left (a.left ⊕ b.left) lefts l c x) [
          | inl m ↦ elim (in_either a.right b.right (a.right ⊕ b.right) rights l d y) [
            | inl n ↦ a.sums.agree l c d m n
            | inr n ↦ h.agree l c d (in_left a.left a.right p a.sums l c m) (in_right b.left b.right q b.sums l d n)
          ]
          | inr m ↦ elim (in_either a.right b.right (a.right ⊕ b.right) rights l d y) [
            | inl n ↦ sym (h.agree l d c (in_right a.left a.right p a.sums l d n) (in_left b.left b.right q b.sums l c m))
            | inr n ↦ b.sums.agree l c d m n
          ]
        ];
        adds = h.adds ∙ ap₂ (λ x y. x ⊕ y) a.sums.adds b.sums.adds ∙ exchanged a.left a.right b.left b.right;
      };
      first = (a.left, b.left, lefts, a.first, b.first);
      second = (a.right, b.right, rights, a.second, b.second);
    }

pub two_map : (S T U V : Part → Type 0) (p : Part) → ((q : Part) → S q → U q) → ((q : Part) → T q → V q) → Two S T p → Two U V p
two_map S T U V p f g h = record { left = h.left; right = h.right; sums = h.sums; first = f h.left h.first; second = g h.right h.second }

pub two_nothing : (S T : Part → Type 0) (p : Part) → p ≡ nothing → S nothing → T nothing → Two S T p
two_nothing S T p e a b = record { left = nothing; right = nothing; sums = subst (λ x. IsSum nothing nothing x) (sym e) (nothing_is_neutral nothing); first = a; second = b }

pub two_single : (l : Location) (c : Content) (x y : Dyadic) (p : Part) → p ≡ single l c (sum x y) → Two (λ q. q ≡ single l c x) (λ q. q ≡ single l c y) p
two_single l c x y p e = record { left = single l c x; right = single l c y; sums = subst (λ z. IsSum (single l c x) (single l c y) z) (sym e) (singles_add l c x y); first = refl; second = refl }

two_row : (x y : Dyadic) (b k : ℕ) (row : List (Option Value)) (p : Part) → IsRow (sum x y) b k row p → Two (IsRow x b k row) (IsRow y b k row) p
two_row x y b k [] p h = two_nothing _ _ p h refl refl
two_row x y b k (held ∷ row) p h =
    two_map _ _ (IsRow x b k (held ∷ row)) (IsRow y b k (held ∷ row)) p
    (λ q w. (w.1, subst (λ z. IsSum z w.1 q) w.3 w.2, w.4)) (λ q w. (w.1, subst (λ z. IsSum z w.1 q) w.3 w.2, w.4))
    (two_both _ _ _ _ (single (IndexCell b k) (CellOf held) (sum x y)) h.0 p h.1 (two_single (IndexCell b k) (CellOf held) x y _ refl) (two_row x y b (suc k) row h.0 h.2))

two_row_at : (x y : Dyadic) (w : Value) (row : List (Option Value)) (p : Part) → IsRowAt (sum x y) w row p → Two (IsRowAt x w row) (IsRowAt y w row) p
two_row_at x y w [] p h = two_nothing _ _ p h refl refl
two_row_at x y (values.Pointer b (pos o)) (held ∷ row) p h = two_row x y b o (held ∷ row) p h
two_row_at x y _ (held ∷ row) p h = absurd h

two_ints : (x y : Dyadic) (ws : List Wanted) (p : Part) → IsInts (sum x y) ws p → Two (IsInts x ws) (IsInts y ws) p
two_ints x y (a ∷ b ∷ c ∷ []) p h = two_map _ _ _ _ p (λ q r. (h.0, h.1, h.2, h.3, h.4, r)) (λ q r. (h.0, h.1, h.2, h.3, h.4, r)) (two_row_at x y h.0 h.1 p h.5)
two_ints x y _ p h = absurd h

two_match : (b : Bool) (A B : Type 0) (S T U V : Part → Type 0) (p : Part) → (A → Two S T p) → (B → Two U V p) → MatchBool b A B → Two (λ q. MatchBool b (S q) (U q)) (λ q. MatchBool b (T q) (V q)) p
two_match true A B S T U V p f g h = f h
two_match false A B S T U V p f g h = g h

module _ (M : Dyadic → BodyName → Values → Part → Type 0)
    (each : (x y : Dyadic) (b : BodyName) (vs : Values) (p : Part) → M (sum x y) b vs p → Two (M x b vs) (M y b vs) p) where
  two_body : (x y : Dyadic) (b : BodyName) (ws : List Wanted) (p : Part) → SatisfiesBody M (sum x y) b ws p → Two (SatisfiesBody M x b ws) (SatisfiesBody M y b ws) p
  two_body x y b ws p h = two_map _ _ _ _ p (λ q r. (h.0, h.1, r)) (λ q r. (h.0, h.1, r)) (each x y b h.0 p h.2)

  two_primitive : (k : Primitive) (x y : Dyadic) (q : Identity) (ws : List Wanted) (p : Part) → SatisfiesPrimitive M k (sum x y) q ws p → Two (SatisfiesPrimitive M k x q ws) (SatisfiesPrimitive M k y q ws) p
  two_primitive Mutexes x y q ws p h =
      two_map _ _ _ _ p (λ r e. record { block = h.block; invariant = h.invariant; meet = h.meet; owns = e }) (λ r e. record { block = h.block; invariant = h.invariant; meet = h.meet; owns = e }) (two_single _ _ x y p h.owns)
  two_primitive HeldMutexes x y q ws p h =
      two_map _ _ _ _ p (λ r e. record { block = h.block; invariant = h.invariant; holder = h.holder; given = h.given; meet = h.meet; owns = e })
      (λ r e. record { block = h.block; invariant = h.invariant; holder = h.holder; given = h.given; meet = h.meet; owns = e }) (two_single _ _ x y p h.owns)
  two_primitive Handles x y q ws p h =
      two_map _ _ _ _ p (λ r e. record { block = h.block; run = h.run; argument = h.argument; info = h.info; meet = h.meet; owns = e })
      (λ r e. record { block = h.block; run = h.run; argument = h.argument; info = h.info; meet = h.meet; owns = e }) (two_single _ _ x y p h.owns)
  two_primitive IntBlocks x y q ws p h =
      two_map _ _ _ _ p (λ r e. record { block = h.block; size = h.size; meet = h.meet; owns = e }) (λ r e. record { block = h.block; size = h.size; meet = h.meet; owns = e }) (two_single _ _ x y p h.owns)
  two_primitive IntCells x y q ws p h = two_ints x y ws p h
  two_primitive Others x y q ws p h = two_body x y _ ws p h

  two_family : (x y : Dyadic) (q : Identity) (w : Value) (ws : List Wanted) (p : Part) → SatisfiesFamily M (sum x y) q w ws p → Two (SatisfiesFamily M x q w ws) (SatisfiesFamily M y q w ws) p
  two_family x y q (values.Function g) ws p h = two_body x y _ ws p h
  two_family x y q _ ws p h = absurd h

  two_applied : (x y : Dyadic) (w : Value) (ws : List Wanted) (p : Part) → SatisfiesValue M (sum x y) w ws p → Two (SatisfiesValue M x w ws) (SatisfiesValue M y w ws) p
  two_applied x y (values.Predicate q first) ws p h = two_primitive (primitive q) x y q _ p h
  two_applied x y _ ws p h = absurd h

  module _ (i : Interpretation) (s t : Dyadic) where
    pub two_head : (x y : Dyadic) (head : Head) (v : Valuation) (ws : List Wanted) (p : Part) → SatisfiesHead M i (sum s t) (sum x y) head v ws p → Two (SatisfiesHead M i s x head v ws) (SatisfiesHead M i t y head v ws) p
    two_head x y (BlockOf g) v ws p h =
        two_map _ _ _ _ p (λ r e. record { block = h.block; meet = h.meet; owns = e }) (λ r e. record { block = h.block; meet = h.meet; owns = e }) (two_single _ _ x y p h.owns)
    two_head x y (Named q) v ws p h = two_primitive (primitive q) x y q ws p h
    two_head x y (Family q e) v ws p h = two_family x y q (value_of i v e) ws p h
    two_head x y (Applied e) v ws p h = two_applied x y (value_of i v e) ws p h

    mutual
      two_satisfy : (a : Assertion) (v : Valuation) (p : Part) → SatisfiesBy M i (sum s t) a v p → Two (SatisfiesBy M i s a v) (SatisfiesBy M i t a v) p
      two_satisfy (Pure e) v p h = two_nothing _ _ p h.0 (refl, h.1) (refl, h.1)
      two_satisfy Empty v p h = two_nothing _ _ p h refl refl
      two_satisfy (Both a b) v p h = two_both _ _ _ _ h.0 h.1 p h.2 (two_satisfy a v h.0 h.3) (two_satisfy b v h.1 h.4)
      two_satisfy (Choose c a b) v p h = two_match (is_true (value_of i v c)) _ _ _ _ _ _ p (two_satisfy a v p) (two_satisfy b v p) h
      two_satisfy (Switch e branches) v p h = two_branch branches (value_of i v e) v p h
      two_satisfy (Cell share e f x) v p h =
          two_map _ _ _ _ p
          (λ r o. (h.0, h.1, record { block = (h.2).block; begins = (h.2).begins; holds = (h.2).holds; meets = (h.2).meets; owns = o }))
          (λ r o. (h.0, h.1, record { block = (h.2).block; begins = (h.2).begins; holds = (h.2).holds; meets = (h.2).meets; owns = o }))
          (two_single _ _ (product s h.0) (product t h.0) p ((h.2).owns ∙ ap (λ z. single (FieldCell (h.2).block f.structure f.index) (CellOf (h.2).holds) z) (product_distributes s t h.0)))
      two_satisfy (Chunk share head xs) v p h =
          two_map _ _ _ _ p (λ r o. (h.0, h.1, o)) (λ r o. (h.0, h.1, o))
          (two_head (product s h.0) (product t h.0) head v (map (wanted i v) xs) p (subst (λ z. SatisfiesHead M i (sum s t) z head v (map (wanted i v) xs) p) (product_distributes s t h.0) h.2))

      two_branch : (bs : Branches) (w : Value) (v : Valuation) (p : Part) → SatisfiesBranch M i (sum s t) bs w v p → Two (SatisfiesBranch M i s bs w v) (SatisfiesBranch M i t bs w v) p
      two_branch no_branches w v p h = absurd h
      two_branch (branch c xs a rest) (values.Constructed d ws) v p h =
          two_match (same_identity c d) _ _ _ _ _ _ p (two_satisfy a (all_bound v xs ws) p) (two_branch rest (values.Constructed d ws) v p) h
      two_branch (branch c xs a rest) (values.Number z) v p h = absurd h
      two_branch (branch c xs a rest) (values.Truth b) v p h = absurd h
      two_branch (branch c xs a rest) values.Null v p h = absurd h
      two_branch (branch c xs a rest) (values.Pointer b o) v p h = absurd h
      two_branch (branch c xs a rest) (values.Function g) v p h = absurd h
      two_branch (branch c xs a rest) (values.Predicate q vs) v p h = absurd h
      two_branch (branch c xs a rest) (values.Fraction d) v p h = absurd h

two_if : (e : Environment) (M : Dyadic → BodyName → Values → Part → Type 0) → ((x y : Dyadic) (b : BodyName) (vs : Values) (p : Part) → M (sum x y) b vs p → Two (M x b vs) (M y b vs) p)
    → (s t : Dyadic) (o : Option BodyTree) (vs : Values) (p : Part) → SatisfiesIf e M (sum s t) o vs p → Two (SatisfiesIf e M s o vs) (SatisfiesIf e M t o vs) p
two_if e M each s t None vs p h = absurd h
two_if e M each s t (Some b) vs p h =
    two_map _ _ _ _ p
    (λ q r. record { under = h.under; sorts = h.sorts; number = h.number; begins = h.begins; satisfies = r })
    (λ q r. record { under = h.under; sorts = h.sorts; number = h.number; begins = h.begins; satisfies = r })
    (two_satisfy M each (interpreted e.claims e.fixpoints) s t b.assertion h.under p h.satisfies)

pub two_means : (e : Environment) (n : ℕ) (s t : Dyadic) (b : BodyName) (vs : Values) (p : Part) → MeansAt e n (sum s t) b vs p → Two (MeansAt e n s b vs) (MeansAt e n t b vs) p
two_means e zero s t b vs p h = absurd h
two_means e (suc n) s t b vs p h = two_if e (MeansAt e n) (two_means e n) s t (e.bodies b) vs p h

pub scales_split : ScalesSplit
scales_split e n s t a v p h =
    let two = two_satisfy (MeansAt e n) (two_means e n) (interpreted e.claims e.fixpoints) s t a v p h in
    record { left = two.left; right = two.right; sums = two.sums; first = two.first; second = two.second }

pub halves_split : HalvesSplit
halves_split e n s a v p h = scales_split e n (half s) (half s) a v p (subst (λ z. SatisfiesAt e n z a v p) (sym (halves_make_the_whole s)) h)
