-- What is set aside of the first part of a precondition, with the depth at which it holds.
use Rattle.std.proofs.Common.{◌≡◌, ℕ, ◌+◌, ◌<◌, ◌≤◌, Bool, true, false, List, [], ◌∷◌, ◌++◌, refl, sym, ap, subst, ◌∙◌, arith}
use Rattle.std.specs.Prelude.{Contains}
use Rattle.vf_meaning.specs.Fractions.{whole}
use Rattle.vf_meaning.specs.Ghost.{Name}
use Rattle.vf_meaning.specs.Valuations.{Valuation}
use Rattle.vf_meaning.specs.Assertions.{Assertion, Pure, Empty, Both, Choose, Switch, Cell, Chunk, Environment}
use Rattle.vf_meaning.specs.Parts.{Part, nothing, ◌⊕◌, IsSum}
use Rattle.vf_meaning.specs.Satisfaction.{SatisfiesAt, Satisfies}
use Rattle.vf_meaning.proofs.Parts.{sums_turn, sums_regroup, nothing_is_neutral, nothing-⊕}
use Rattle.vf_meaning.proofs.Satisfaction.{depth_grows}
use Rattle.vf_meaning.proofs.Growth.{names_agree}
use Rattle.vf_lemmas.specs.Depths.{first_of, rest_of, Aside, all_inside, TakesAside, takes_first, takes_next, HoldAt, AreFreeOf}

pub neutral : (q : Part) → IsSum q nothing q
neutral q = sums_turn nothing q q (nothing_is_neutral q)

-- a part that is a sum with nothing
pub only_left : (p q r : Part) → q ≡ nothing → IsSum p q r → r ≡ p
only_left p q r none s = (sums_turn p q r s).adds ∙ ap (λ z. z ⊕ p) none ∙ nothing-⊕ p

-- a depth as great as both of two
deeper : ℕ → ℕ → ℕ
deeper n k = n + k

deeper_left : (n k : ℕ) → n ≤ deeper n k
unfolding deeper
deeper_left n k = omega arith

deeper_right : (n k : ℕ) → k ≤ deeper n k
unfolding deeper
deeper_right n k = omega arith

-- ---- the first part
-- the first part of an assertion holds of a part at a depth, and the rest of another
pub record FirstAt (e : Environment) (a : Assertion) (w : Valuation) (n : ℕ) (q : Part) : Type 0 where
  pub first : Part
  pub others : Part
  pub sums : IsSum first others q
  pub first_holds : SatisfiesAt e n whole (first_of a) w first
  pub depth : ℕ
  pub rest_holds : SatisfiesAt e depth whole (rest_of a) w others

alone_at : (e : Environment) (a : Assertion) (w : Valuation) (n : ℕ) (q : Part) → SatisfiesAt e n whole (first_of a) w q → rest_of a ≡ Empty → FirstAt e a w n q
alone_at e a w n q h is = record { first = q; others = nothing; sums = neutral q; first_holds = h; depth = 0; rest_holds = subst (λ z. SatisfiesAt e 0 whole z w nothing) (sym is) refl }

pub first_at : (e : Environment) (a : Assertion) (w : Valuation) (n : ℕ) (q : Part) → SatisfiesAt e n whole a w q → FirstAt e a w n q
first_at e (Both a b) w n q h =
    let f = first_at e a w n h.0 h.3 in
    let (others, both, all) = sums_regroup f.first f.others h.0 h.1 q f.sums h.2 in
    record {
      first = f.first;
      others = others;
      sums = all;
      first_holds = f.first_holds;
      depth = deeper f.depth n;
      rest_holds = (f.others, h.1, both, depth_grows e f.depth (deeper f.depth n) whole (rest_of a) w f.others (deeper_left f.depth n) f.rest_holds, depth_grows e n (deeper f.depth n) whole b w h.1 (deeper_right f.depth n) h.4);
    }
first_at e (Pure x) w n q h = alone_at e (Pure x) w n q h refl
first_at e Empty w n q h = alone_at e Empty w n q h refl
first_at e (Choose x a b) w n q h = alone_at e (Choose x a b) w n q h refl
first_at e (Switch x bs) w n q h = alone_at e (Switch x bs) w n q h refl
first_at e (Cell share x f y) w n q h = alone_at e (Cell share x f y) w n q h refl
first_at e (Chunk share head xs) w n q h = alone_at e (Chunk share head xs) w n q h refl

at_part : (e : Environment) (a : Assertion) (w : Valuation) (n : ℕ) (p q : Part) → q ≡ p → SatisfiesAt e n whole a w p → Satisfies e whole a w q
at_part e a w n p q is h = (n, subst (λ z. SatisfiesAt e n whole a w z) (sym is) h)

-- the first part and the rest are the assertion
pub first_back : (e : Environment) (a : Assertion) (w : Valuation) (n k : ℕ) (p r q : Part) → IsSum p r q → SatisfiesAt e n whole (first_of a) w p → SatisfiesAt e k whole (rest_of a) w r → Satisfies e whole a w q
first_back e (Both a b) w n k p r q s h (ra, rb, sums, holds_a, holds_b) =
    let (left, both, all) = sums_regroup rb ra r p q (sums_turn ra rb r sums) (sums_turn p r q s) in
    let one = first_back e a w n k p ra left (sums_turn ra p left both) h holds_a in
    let d = deeper one.0 k in
    (d, (left, rb, sums_turn rb left q all, depth_grows e one.0 d whole a w left (deeper_left one.0 k) one.1, depth_grows e k d whole b w rb (deeper_right one.0 k) holds_b))
first_back e (Pure x) w n k p r q s h rest = at_part e (Pure x) w n p q (only_left p r q rest s) h
first_back e Empty w n k p r q s h rest = at_part e Empty w n p q (only_left p r q rest s) h
first_back e (Choose x a b) w n k p r q s h rest = at_part e (Choose x a b) w n p q (only_left p r q rest s) h
first_back e (Switch x bs) w n k p r q s h rest = at_part e (Switch x bs) w n p q (only_left p r q rest s) h
first_back e (Cell share x f y) w n k p r q s h rest = at_part e (Cell share x f y) w n p q (only_left p r q rest s) h
first_back e (Chunk share head xs) w n k p r q s h rest = at_part e (Chunk share head xs) w n p q (only_left p r q rest s) h

-- ---- what is set aside
-- what is inside holds less deep than n, and the first part itself at most as deep
abbrev pub IsBelow : Bool → ℕ → ℕ → Type 0
IsBelow true j n = j < n
IsBelow false j n = j ≤ n

-- a part of which something that is set aside holds, where the first part of the precondition holds at the depth n
abbrev pub AsideMeans : Environment → Valuation → ℕ → Aside → Part → Type 0
AsideMeans e w n a r = (j : ℕ) × IsBelow a.inside j n × SatisfiesAt e j whole a.assertion w r

-- a part that is the sum of what several things that are set aside stand for
abbrev pub AsidesMean : Environment → Valuation → ℕ → List Aside → Part → Type 0
AsidesMean e w n [] r = r ≡ nothing
AsidesMean e w n (a ∷ asides) r = (q : Part) × (others : Part) × IsSum q others r × AsideMeans e w n a q × AsidesMean e w n asides others

-- one of them is taken out
pub record TakenOut (e : Environment) (w : Valuation) (n : ℕ) (a : Aside) (others : List Aside) (r : Part) : Type 0 where
  pub off : Part
  pub left : Part
  pub sums : IsSum off left r
  pub means : AsideMeans e w n a off
  pub others_mean : AsidesMean e w n others left

pub taken_out : (e : Environment) (w : Valuation) (n : ℕ) (a : Aside) {asides others : List Aside} → TakesAside a asides others → (r : Part) → AsidesMean e w n asides r → TakenOut e w n a others r
taken_out e w n a takes_first r h = record { off = h.0; left = h.1; sums = h.2; means = h.3; others_mean = h.4 }
taken_out e w n a (takes_next t) r h =
    let o = taken_out e w n a t h.1 h.4 in
    let (left, both, all) = sums_regroup o.off o.left h.1 h.0 r o.sums (sums_turn h.0 h.1 r h.2) in
    record { off = o.off; left = left; sums = all; means = o.means; others_mean = (h.0, o.left, sums_turn o.left h.0 left both, h.3, o.others_mean) }

-- other values for names that are not used
pub asides_renewed : (e : Environment) (w later : Valuation) (n : ℕ) (new : List Name) (asides : List Aside) → ((x : Name) → (Contains new x → ⊥) → later x ≡ w x) → AreFreeOf new asides → (r : Part) → AsidesMean e w n asides r → AsidesMean e later n asides r
asides_renewed e w later n new [] same free r h = h
asides_renewed e w later n new (a ∷ asides) same free r h =
    let kept = names_agree e (h.3).0 whole a.assertion w later h.0 (λ x used. sym (same x (free.0 x used))) (h.3).2 in
    (h.0, h.1, h.2, ((h.3).0, (h.3).1, kept), asides_renewed e w later n new asides same free.1 h.1 h.4)

-- inner assertions, beside what was set aside before
pub inner_asides : (e : Environment) (w : Valuation) (n m : ℕ) → m < n → (inner : List Assertion) (asides : List Aside) (d r q : Part) → IsSum d r q → HoldAt e m inner w d → AsidesMean e w n asides r → AsidesMean e w n (all_inside inner ++ asides) q
inner_asides e w n m l [] asides d r q s h k = subst (λ z. AsidesMean e w n asides z) (sym (only_left r d q h (sums_turn d r q s))) k
inner_asides e w n m l (a ∷ inner) asides d r q s h k =
    let (others, both, all) = sums_regroup h.0 h.1 d r q h.2 s in
    (h.0, others, all, (m, l, h.3), inner_asides e w n m l inner asides h.1 r others both h.4 k)

-- what is less deep than something that is set aside is less deep than the first part
pub less_below : (i : Bool) (j n k : ℕ) → IsBelow i j n → k < j → k < n
less_below true j n k h l = omega (arith, h, l)
less_below false j n k h l = omega (arith, h, l)
