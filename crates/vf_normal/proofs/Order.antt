-- The order of terms is total.
use Rattle.std.proofs.Common.{◌≡◌, ℕ, ◌<◌, List, ◌∷◌, [], refl, sym, ◌∙◌, ap, ap₂, subst}
use Rattle.std.specs.Prelude.{ℤ, pos, ◌<ℤ◌, Bool, true, false, ◌==◌, map}
use Rattle.std.specs.declared.cmp.Ordering.{Ordering}
use Rattle.std.specs.declared.cmp.Ordering.TheVariants as order
use Rattle.std.specs.Ordering.{nat_cmp, int_cmp, ordering_then, ordering_reverse, MatchOrdering}
use Rattle.std.specs.Cmp.{IsTotalOrder, ranks, int_ranks, nat_cmp_total, int_cmp_total, on_total, then_total, tied_itself}
use Rattle.std.specs.Cmp.Lexicographic.{slice_cmp, lists_total}
use Rattle.std.proofs.lemmas.Bool.{false≢true, eq-eqb}
use Rattle.vf_tree.specs.Core.{ArithmeticOperator, Add, Subtract, Multiply, Divide, Remainder, Comparison, Equal, NotEqual, Less, LessEqual, Greater, GreaterEqual}
use Rattle.vf_model.specs.Values.{Dyadic, Whole, Odd}
use Rattle.vf_meaning.specs.Ghost.{Name, Numbered, Result, This, CurrentThread}
use Rattle.vf_closure.specs.Terms.{Kind, Integer, Other, Head, Symbol, Number, Truth, Null, Function, Constructor, Fixpoint, Claims, Predicate, Share, Sum, Plus, Arithmetic, Compare, Not, And, Or, Choose, PointerSum, Term, Terms, term, no_terms, and_term}
use Rattle.vf_normal.specs.Order.{variant, symbol_numbers, fraction_numbers, truth_number, operator_number, comparison_number, name_numbers, kind_number, kind_place, compare_heads, compare, compare_rows}
use Rattle.vf_normal.specs.Laws.{OrderIsTotal}

-- ---- heads
pub heads_total : IsTotalOrder compare_heads
heads_total = then_total (on_total variant nat_cmp_total) (then_total (on_total name_numbers (lists_total int_cmp_total)) (on_total kind_place nat_cmp_total))

-- a comparison that goes on is equal only where both parts are
then_equal : (a b : Ordering) → ordering_then a b ≡ order.Equal → (a ≡ order.Equal) × (b ≡ order.Equal)
then_equal order.Less b h = cc
then_equal order.Equal b h = (refl, h)
then_equal order.Greater b h = cc

nat_told : (x y : ℕ) → nat_cmp x y ≡ order.Equal → x ≡ y
nat_told x y h = subst (λ k. MatchOrdering k (x < y) (x ≡ y) (y < x)) h (ranks x y)

int_told : (x y : ℤ) → int_cmp x y ≡ order.Equal → x ≡ y
int_told x y h = subst (λ k. MatchOrdering k (x <ℤ y) (x ≡ y) (y <ℤ x)) h (int_ranks x y)

numbers_told : (xs ys : List ℤ) → slice_cmp int_cmp xs ys ≡ order.Equal → xs ≡ ys
numbers_told [] [] h = refl
numbers_told [] (y ∷ ys) h = cc
numbers_told (x ∷ xs) [] h = cc
numbers_told (x ∷ xs) (y ∷ ys) h = let p = then_equal (int_cmp x y) (slice_cmp int_cmp xs ys) h in ap₂ (λ z zs. z ∷ zs) (int_told x y p.0) (numbers_told xs ys p.1)

names_told : (xs ys : List ℕ) → map pos xs ≡ map pos ys → xs ≡ ys
names_told [] [] h = refl
names_told [] (y ∷ ys) h = cc
names_told (x ∷ xs) [] h = cc
names_told (x ∷ xs) (y ∷ ys) h = let a : x ≡ y = cc in let b : map pos xs ≡ map pos ys = cc in ap₂ (λ z zs. z ∷ zs) a (names_told xs ys b)

symbols_told : (x y : Name) → symbol_numbers x ≡ symbol_numbers y → x ≡ y
symbols_told (Numbered i) (Numbered j) h = let e : i ≡ j = cc in ap Numbered e
symbols_told Result Result h = refl
symbols_told This This h = refl
symbols_told CurrentThread CurrentThread h = refl
symbols_told _ _ h = cc

fractions_told : (x y : Dyadic) → fraction_numbers x ≡ fraction_numbers y → x ≡ y
fractions_told (Whole k) (Whole l) h = let e : k ≡ l = cc in ap Whole e
fractions_told (Odd j m) (Odd i n) h = let e : j ≡ i = cc in let f : m ≡ n = cc in ap₂ Odd e f
fractions_told _ _ h = cc

truths_told : (a b : Bool) → truth_number a ∷ [] ≡ truth_number b ∷ [] → a ≡ b
truths_told true true h = refl
truths_told false false h = refl
truths_told _ _ h = cc

operators_told : (a b : ArithmeticOperator) → operator_number a ∷ [] ≡ operator_number b ∷ [] → a ≡ b
operators_told Add Add h = refl
operators_told Subtract Subtract h = refl
operators_told Multiply Multiply h = refl
operators_told Divide Divide h = refl
operators_told Remainder Remainder h = refl
operators_told _ _ h = cc

comparisons_told : (a b : Comparison) → comparison_number a ∷ [] ≡ comparison_number b ∷ [] → a ≡ b
comparisons_told Equal Equal h = refl
comparisons_told NotEqual NotEqual h = refl
comparisons_told Less Less h = refl
comparisons_told LessEqual LessEqual h = refl
comparisons_told Greater Greater h = refl
comparisons_told GreaterEqual GreaterEqual h = refl
comparisons_told _ _ h = cc

kinds_told : (a b : Kind) → kind_number a ≡ kind_number b → a ≡ b
kinds_told Integer Integer h = refl
kinds_told Other Other h = refl
kinds_told _ _ h = cc

-- variant, name and kind make the head
head_told : (h k : Head) → (variant h == variant k) ≡ true → name_numbers h ≡ name_numbers k → kind_place h ≡ kind_place k → h ≡ k
head_told (Symbol a x) (Symbol b y) e n p = ap₂ Symbol (kinds_told a b p) (symbols_told x y n)
head_told (Number y) (Number z) e n p = let q : y ≡ z = cc in ap Number q
head_told (Truth a) (Truth b) e n p = ap Truth (truths_told a b n)
head_told Null Null e n p = refl
head_told (Function f) (Function g) e n p = ap Function (names_told f g n)
head_told (Constructor f) (Constructor g) e n p = ap Constructor (names_told f g n)
head_told (Fixpoint a f) (Fixpoint b g) e n p = ap₂ Fixpoint (kinds_told a b p) (names_told f g n)
head_told (Claims f) (Claims g) e n p = ap Claims (names_told f g n)
head_told (Predicate f) (Predicate g) e n p = ap Predicate (names_told f g n)
head_told (Share x) (Share y) e n p = ap Share (fractions_told x y n)
head_told (Sum xs) (Sum ys) e n p = ap Sum n
head_told Plus Plus e n p = refl
head_told (Arithmetic a) (Arithmetic b) e n p = ap Arithmetic (operators_told a b n)
head_told (Compare a) (Compare b) e n p = ap Compare (comparisons_told a b n)
head_told Not Not e n p = refl
head_told And And e n p = refl
head_told Or Or e n p = refl
head_told (Choose a) (Choose b) e n p = ap Choose (kinds_told a b p)
head_told PointerSum PointerSum e n p = refl
head_told _ _ e n p = absurd (false≢true e)

-- heads that the order takes for equal are one head
pub heads_told : (h k : Head) → compare_heads h k ≡ order.Equal → h ≡ k
heads_told h k e =
    let p = then_equal (nat_cmp (variant h) (variant k)) (ordering_then (slice_cmp int_cmp (name_numbers h) (name_numbers k)) (nat_cmp (kind_place h) (kind_place k))) e in
    let q = then_equal (slice_cmp int_cmp (name_numbers h) (name_numbers k)) (nat_cmp (kind_place h) (kind_place k)) p.1 in
    head_told h k (eq-eqb (variant h) (variant k) (nat_told (variant h) (variant k) p.0)) (numbers_told (name_numbers h) (name_numbers k) q.0) (nat_told (kind_place h) (kind_place k) q.1)

-- ---- terms
mutual
  -- terms that the order takes for equal are one term
  pub told : (t u : Term) → compare t u ≡ order.Equal → t ≡ u
  told (term h ts) (term k us) e = let p = then_equal (compare_heads h k) (compare_rows ts us) e in ap₂ term (heads_told h k p.0) (rows_told ts us p.1)

  rows_told : (ts us : Terms) → compare_rows ts us ≡ order.Equal → ts ≡ us
  rows_told no_terms no_terms e = refl
  rows_told no_terms (and_term u us) e = cc
  rows_told (and_term t ts) no_terms e = cc
  rows_told (and_term t ts) (and_term u us) e = let p = then_equal (compare t u) (compare_rows ts us) e in ap₂ and_term (told t u p.0) (rows_told ts us p.1)

then_own : (a b : Ordering) → a ≡ order.Equal → b ≡ order.Equal → ordering_then a b ≡ order.Equal
then_own a b e f = ap (λ o. ordering_then o b) e ∙ f

mutual
  pub own : (t : Term) → compare t t ≡ order.Equal
  own (term h ts) = then_own (compare_heads h h) (compare_rows ts ts) (tied_itself heads_total h) (rows_own ts)

  rows_own : (ts : Terms) → compare_rows ts ts ≡ order.Equal
  rows_own no_terms = refl
  rows_own (and_term t ts) = then_own (compare t t) (compare_rows ts ts) (own t) (rows_own ts)

then_back : (a b c d : Ordering) → a ≡ ordering_reverse c → b ≡ ordering_reverse d → ordering_then a b ≡ ordering_reverse (ordering_then c d)
then_back a b order.Less d e f = ap (λ o. ordering_then o b) e
then_back a b order.Equal d e f = ap (λ o. ordering_then o b) e ∙ f
then_back a b order.Greater d e f = ap (λ o. ordering_then o b) e

mutual
  back : (t u : Term) → compare t u ≡ ordering_reverse (compare u t)
  back (term h ts) (term k us) = then_back (compare_heads h k) (compare_rows ts us) (compare_heads k h) (compare_rows us ts) (heads_total.antisymm h k) (rows_back ts us)

  rows_back : (ts us : Terms) → compare_rows ts us ≡ ordering_reverse (compare_rows us ts)
  rows_back no_terms no_terms = refl
  rows_back no_terms (and_term u us) = refl
  rows_back (and_term t ts) no_terms = refl
  rows_back (and_term t ts) (and_term u us) = then_back (compare t u) (compare_rows ts us) (compare u t) (compare_rows us ts) (back t u) (rows_back ts us)

-- a comparison that goes on passes from two steps to one
then_through : (a b c o p q : Ordering) → (a ≡ order.Less → b ≡ order.Less → c ≡ order.Less) → (a ≡ order.Equal → c ≡ b) → (b ≡ order.Equal → c ≡ a) → (o ≡ order.Less → p ≡ order.Less → q ≡ order.Less) → ordering_then a o ≡ order.Less → ordering_then b p ≡ order.Less → ordering_then c q ≡ order.Less
then_through order.Less order.Less c o p q f g k r e d = ap (λ w. ordering_then w q) (f refl refl)
then_through order.Less order.Equal c o p q f g k r e d = ap (λ w. ordering_then w q) (k refl)
then_through order.Less order.Greater c o p q f g k r e d = cc
then_through order.Equal order.Less c o p q f g k r e d = ap (λ w. ordering_then w q) (g refl)
then_through order.Equal order.Equal c o p q f g k r e d = ap (λ w. ordering_then w q) (g refl) ∙ r e d
then_through order.Equal order.Greater c o p q f g k r e d = cc
then_through order.Greater b c o p q f g k r e d = cc

rows_ended : (us : Terms) → compare_rows us no_terms ≡ order.Less → compare_rows no_terms no_terms ≡ order.Less
rows_ended no_terms d = d
rows_ended (and_term u us) d = cc

mutual
  through : (t u w : Term) → compare t u ≡ order.Less → compare u w ≡ order.Less → compare t w ≡ order.Less
  through (term h ts) (term k us) (term l ws) =
      then_through (compare_heads h k) (compare_heads k l) (compare_heads h l) (compare_rows ts us) (compare_rows us ws) (compare_rows ts ws)
      (heads_total.trans h k l) (λ e. ap (λ x. compare_heads x l) (heads_told h k e)) (λ e. ap (compare_heads h) (sym (heads_told k l e))) (rows_through ts us ws)

  rows_through : (ts us ws : Terms) → compare_rows ts us ≡ order.Less → compare_rows us ws ≡ order.Less → compare_rows ts ws ≡ order.Less
  rows_through no_terms us no_terms e d = rows_ended us d
  rows_through no_terms us (and_term w ws) e d = refl
  rows_through (and_term t ts) no_terms ws e d = cc
  rows_through (and_term t ts) (and_term u us) no_terms e d = cc
  rows_through (and_term t ts) (and_term u us) (and_term w ws) e d =
      then_through (compare t u) (compare u w) (compare t w) (compare_rows ts us) (compare_rows us ws) (compare_rows ts ws)
      (through t u w) (λ f. ap (λ x. compare x w) (told t u f)) (λ f. ap (compare t) (sym (told u w f))) (rows_through ts us ws) e d

pub order_total : OrderIsTotal
order_total = (record { antisymm = back; trans = through; congr = λ t u w e. ap (λ x. compare x w) (told t u e) }, λ t u. (told t u, λ e. ap (compare t) (sym e) ∙ own t))
