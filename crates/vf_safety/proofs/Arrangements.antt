-- Rows of int cells are made, split and joined, which changes nothing of what a state stands for.
use Rattle.std.proofs.Common.{◌≡◌, ℕ, ◌≤◌, ◌+◌, pos, true, List, [], ◌∷◌, ◌++◌, length, map, Option, Some, refl, sym, ap, ap₂, subst, subst₂, ◌∙◌, inl, arith}
use Rattle.std.specs.Prelude.{ℤ, IsTrue, int_le}
use Rattle.std.proofs.lemmas.Int.{ints}
use Rattle.vf_tree.specs.Core.{LessEqual}
use Rattle.vf_model.specs.Values.{Dyadic, Value, number_of}
use Rattle.vf_model.specs.Values as values
use Rattle.vf_meaning.specs.Fractions.{whole}
use Rattle.vf_meaning.specs.Ghost.{Integers, Number, PointerSum, Compare}
use Rattle.vf_meaning.specs.Valuations.{Valuation, further}
use Rattle.vf_meaning.specs.GhostValues.{compared}
use Rattle.vf_meaning.specs.Assertions.{Environment}
use Rattle.vf_meaning.specs.Sorts.{HasSort}
use Rattle.vf_meaning.specs.Parts.{Part, nothing}
use Rattle.vf_meaning.specs.Chunks.{IsRowAt, RowMeets, list_of}
use Rattle.vf_meaning.proofs.Parts.{sums_turn, sums_regroup, nothing_is_neutral}
use Rattle.vf_rules.specs.Terms.{Term}
use Rattle.vf_rules.specs.States.{Fact, Holds, OfSort, SymbolicState, value_in, wanted_in, Meets, ChunkMeans, StandsFor}
use Rattle.vf_rules.specs.Arrays.{row_chunk, shared_row, SplitsContent, splits_known, splits_unknown, JoinsContent, joins_known, joins_unknown, Arranges, knows_length, makes_row, splits_row, joins_rows}
use Rattle.vf_rules.proofs.Stands.{assuming_all_stands, chunks_more}
use Rattle.vf_rules.proofs.RowLengths.{length_met}
use Rattle.vf_rules.proofs.Takes.{same_value, removes_parted}
use Rattle.vf_safety.proofs.Ready.{positive_whole}
use Rattle.vf_safety.proofs.Elements.{row_owned_of, count_in, at_most}
use Rattle.vf_safety.proofs.RowParts.{map_append, map_long, both_long, split_list, split_at, join_at}

fraction_same : {x y : Dyadic} → values.Fraction x ≡ values.Fraction y → x ≡ y
fraction_same h = cc

-- ---- what is known of the numbers
record Cut (e : Environment) (v : Valuation) (first second : Option Term) (row : List (Option Value)) (i : ℕ) : Type 0 where
  front : List (Option Value)
  back : List (Option Value)
  is : row ≡ front ++ back
  long : length front ≡ i
  meets_front : RowMeets (wanted_in e v first) front
  meets_back : RowMeets (wanted_in e v second) back

cut : (e : Environment) (v : Valuation) (path : List Fact) (count : Term) (content first second : Option Term) (row : List (Option Value)) (i : ℕ) → SplitsContent e path count content first second → Meets e v path → RowMeets (wanted_in e v content) row → value_in e v count ≡ values.Number (pos i) → i ≤ length row
    → Cut e v first second row i
cut e v path count _ _ _ row i (splits_known split) m (zs, list_is, row_is) count_is most =
    let f : ℤ → Option Value = λ z. Some (values.Number z) in
    let s = split_list zs i (subst (λ n. i ≤ n) (ap length row_is ∙ map_long f zs) most) in
    let known = split.by v m s.first s.second (list_is ∙ ap list_of s.is) (count_is ∙ ap (λ n. values.Number (pos n)) (sym s.long)) in
    record {
      front = map f s.first;
      back = map f s.second;
      is = row_is ∙ ap (map f) s.is ∙ map_append f s.first s.second;
      long = map_long f s.first ∙ s.long;
      meets_front = (s.first, known.0, refl);
      meets_back = (s.second, known.1, refl);
    }
cut e v path count _ _ _ row i splits_unknown m meets count_is most =
    let s = split_list row i most in
    record { front = s.first; back = s.second; is = s.is; long = s.long; meets_front = tt; meets_back = tt }

joined_meets : (e : Environment) (v : Valuation) (path : List Fact) (first second content : Option Term) (front back : List (Option Value)) → JoinsContent e path first second content → Meets e v path → RowMeets (wanted_in e v first) front → RowMeets (wanted_in e v second) back → RowMeets (wanted_in e v content) (front ++ back)
joined_meets e v path _ _ _ front back (joins_known join) m (xs, a, front_is) (ys, b, back_is) =
    (xs ++ ys, join.by v m xs ys a b, ap₂ (λ r s. r ++ s) front_is back_is ∙ sym (map_append (λ z. Some (values.Number z)) xs ys))
joined_meets e v path _ _ _ front back joins_unknown m h k = tt

-- ---- states
pub arranged : (e : Environment) (v : Valuation) {st new : SymbolicState} → Arranges e st new → (locals : List (Option Value)) (names : Valuation) (part : Part) → StandsFor e v st locals names part → StandsFor e v new locals names part
arranged e v {st} (knows_length u long content c others taken head arguments) locals names part stands =
    let o = removes_parted e v c taken part stands.chunks_mean in
    let owned = row_owned_of e v u long content c o.off o.chunk head arguments in
    assuming_all_stands e v st locals names part (OfSort long Integers ∷ Holds (Compare LessEqual (Number (pos 0)) long) ∷ []) (length_met e v long (length owned.row) owned.long_is) stands
arranged e v {st} (makes_row u nil none) locals names part stands =
    let made : ChunkMeans e v (row_chunk u (Number (pos 0)) (Some nil)) nothing = record { fraction = whole; share = refl; positive = positive_whole; head = (0, (value_in e v u, [], refl, refl, ([], none.by v stands.path, refl), refl)) } in
    record {
      path = stands.path;
      locals_mean = stands.locals_mean;
      names_mean = stands.names_mean;
      chunks_mean = chunks_more e v st.chunks (row_chunk u (Number (pos 0)) (Some nil) ∷ []) part nothing part stands.chunks_mean (nothing, nothing, nothing_is_neutral nothing, made, refl) (nothing_is_neutral part);
    }
arranged e v {st} (splits_row u long count rest content first second c others taken head arguments number low high rest_is contents) locals names part stands =
    let path = stands.path in
    let o = removes_parted e v c taken part stands.chunks_mean in
    let owned = row_owned_of e v u long content c o.off o.chunk head arguments in
    let x = (o.chunk).fraction in
    let (i, count_is) = count_in e v st.path count number low path in
    let most : i ≤ length owned.row = at_most i (length owned.row) (subst₂ (λ y z. compared LessEqual y z ≡ true) count_is owned.long_is (high.by v path)) in
    let k = cut e v st.path count content first second owned.row i contents path owned.meets count_is most in
    let s = split_at x (value_in e v u) k.front k.back o.off (subst (λ r. IsRowAt x (value_in e v u) r o.off) k.is owned.is_row) in
    let count_front : value_in e v count ≡ values.Number (pos (length k.front)) = count_is ∙ ap (λ n. values.Number (pos n)) (sym k.long) in
    let long_is : value_in e v long ≡ values.Number (pos (length k.front + length k.back)) = owned.long_is ∙ ap (λ n. values.Number (pos n)) (ap length k.is ∙ both_long k.front k.back) in
    let rest_long = rest_is.by v path (length k.front) (length k.back) long_is count_front in
    let one : ChunkMeans e v (shared_row c.share u count first) s.first = record { fraction = x; share = (o.chunk).share; positive = owned.positive; head = (0, (value_in e v u, k.front, refl, sym count_front, k.meets_front, s.is_first)) } in
    let two : ChunkMeans e v (shared_row c.share (PointerSum u count) rest second) s.second = record {
      fraction = x;
      share = (o.chunk).share;
      positive = owned.positive;
      head = (0, (further (value_in e v u) (pos (length k.front)), k.back, ap (λ y. further (value_in e v u) (number_of y)) (sym count_front), sym rest_long, k.meets_back, s.is_second));
    } in
    record {
      path = path;
      locals_mean = stands.locals_mean;
      names_mean = stands.names_mean;
      chunks_mean = chunks_more e v others (shared_row c.share u count first ∷ shared_row c.share (PointerSum u count) rest second ∷ []) o.left o.off part o.chunks_mean
          (s.first, s.second, s.sums, one, (s.second, nothing, sums_turn nothing s.second s.second (nothing_is_neutral s.second), two, refl)) o.sums;
    }
arranged e v {st} (joins_rows u count w more total first second content c d mid others taken head arguments taken2 head2 arguments2 beside one_share total_is contents) locals names part stands =
    let path = stands.path in
    let o1 = removes_parted e v c taken part stands.chunks_mean in
    let owned1 = row_owned_of e v u count first c o1.off o1.chunk head arguments in
    let o2 = removes_parted e v d taken2 o1.left o1.chunks_mean in
    let owned2 = row_owned_of e v w more second d o2.off o2.chunk head2 arguments2 in
    let x = (o1.chunk).fraction in
    let one_fraction : (o2.chunk).fraction ≡ x = fraction_same (sym (o2.chunk).share ∙ same_value e v d.share c.share (one_share.by v path) ∙ (o1.chunk).share) in
    let (q, inner, outer) = sums_regroup o2.left o2.off o1.left o1.off part (sums_turn o2.off o2.left o1.left o2.sums) (sums_turn o1.off o1.left part o1.sums) in
    let pointer_is : value_in e v w ≡ further (value_in e v u) (pos (length owned1.row)) = same_value e v w (PointerSum u count) (beside.by v path) ∙ ap (λ y. further (value_in e v u) (number_of y)) owned1.long_is in
    let is_row = join_at x (value_in e v u) owned1.row owned2.row o1.off o2.off q owned1.is_row (subst₂ (λ y z. IsRowAt y z owned2.row o2.off) one_fraction pointer_is owned2.is_row) (sums_turn o2.off o1.off q inner) in
    let total_long = total_is.by v path (length owned1.row) (length owned2.row) owned1.long_is owned2.long_is in
    let one : ChunkMeans e v (shared_row c.share u total content) q = record {
      fraction = x;
      share = (o1.chunk).share;
      positive = owned1.positive;
      head = (0, (value_in e v u, owned1.row ++ owned2.row, refl, ap (λ n. values.Number (pos n)) (both_long owned1.row owned2.row) ∙ sym total_long, joined_meets e v st.path first second content owned1.row owned2.row contents path owned1.meets owned2.meets, is_row));
    } in
    record {
      path = path;
      locals_mean = stands.locals_mean;
      names_mean = stands.names_mean;
      chunks_mean = chunks_more e v others (shared_row c.share u total content ∷ []) o2.left q part o2.chunks_mean (q, nothing, sums_turn nothing q q (nothing_is_neutral q), one, refl) (sums_turn o2.left q part outer);
    }
