-- Sums, one operand after another.
use Rattle.std.proofs.Common.{◌≡◌, ℕ, zero, suc, ◌+◌, ◌<◌, List, [], ◌∷◌, drop, length, get_or, refl, sym, subst, ap, ◌∙◌, Result, Ok, Err, add-one, arith}
use Rattle.std.proofs.Math.Seq.{drop-cons, drop-length}
use Rattle.vf_base.specs.declared.place.Place.{Place}
use Rattle.vf_base.specs.declared.refusal.Refusal.{Refusal}
use Rattle.vf_base.specs.declared.refusal.RuleFault.{RuleFault}
use Rattle.vf_tree.specs.declared.unit.Link.{Link}
use Rattle.vf_closure.specs.Literals.{Literal}
use Rattle.vf_asking.specs.Journal.{Seen}
use Rattle.vf_asking.specs.Course.{Course, Follows, Blames, Reaches}
use Rattle.vf_asking.proofs.Following.{follows_try, blames_later, reaches_try, reaches_step, reaches_end, reaches_blames, reaches_here, follows_done, blames_try}
use Rattle.vf_base.specs.declared.refusal.RuleFault.TheVariants.{Refused}
use Rattle.vf_tree.specs.declared.unit.Expression.{Expression}
use Rattle.vf_asking.proofs.Seeing.{grew_not, grew_path, grew_node, grew_begun, grew_on}
use Rattle.vf_exec.specs.declared.sum.NumberTerm.{NumberTerm}
use Rattle.vf_base.specs.declared.int_type.IntType.TheVariants.{Int}
use Rattle.vf_base.specs.declared.rule.Rule.TheVariants as rules
use Rattle.vf_model.specs.Integers.{least, greatest}
use Rattle.vf_exec.specs.Literals.{at_most_of}
use Rattle.vf_exec.specs.Main.{Locals, adds, adds_one, evaluates, fits, operand_value, required, sum_with}
use Rattle.vf_exec.proofs.Steps.{done_follows, done_later, done_refused}

-- what is left from an index on
pub rest_of : {A : Type 0} (xs : List A) (i : ℕ) (x : A) → i < length xs → x ≡ get_or xs i x → drop i xs ≡ x ∷ drop (i + 1) xs
rest_of xs i x low is = rw add-one (drop-cons xs i x low ∙ ap (λ y. y ∷ drop (suc i) xs) (sym is))

-- an item that is read is the one of its index, whatever is answered beyond the end
pub item_is : {A : Type 0} (xs : List A) (i : ℕ) (d e : A) → i < length xs → get_or xs i d ≡ get_or xs i e
item_is [] i d e low = absurd (omega arith)
item_is (x ∷ xs) zero d e low = refl
item_is (x ∷ xs) (suc i) d e low = item_is xs i d e (omega arith)

module _ (name : Place) (path : List Literal) (locals : Locals) (c : Course (Result NumberTerm Refusal)) (s : Seen) where
  -- before the first
  pub adds_start : (z : NumberTerm) (links : List Link) → c ≡ adds name path locals z links → Reaches c s (adds name path locals z (drop 0 links)) s
  adds_start z links e = reaches_here _ _ s e

  -- the first of what is left is added
  pub adds_step : (here : List Literal) (z w : NumberTerm) (links : List Link) (i : ℕ) (link : Link) (t u : Seen) → here ≡ path → i < length links → link ≡ get_or links i link → Reaches c s (adds name path locals z (drop i links)) t → Follows (adds_one name here locals z link) t u (Ok w) → Reaches c s (adds name path locals w (drop (i + 1) links)) u
  unfolding adds
  adds_step here z w links i link t u same low is r f =
      let rest = subst (λ (ls : List Link). Reaches c s (adds name path locals z ls) t) (rest_of links i link low is) r in
      let one = subst (λ (p : List Literal). Follows (adds_one name p locals z link) t u (Ok w)) same f in
      reaches_step c _ _ s t u rest (reaches_try (adds_one name path locals z link) (λ v. adds name path locals v (drop (i + 1) links)) t u w one)

  -- the first of what is left is refused
  pub adds_fails : (here : List Literal) (z : NumberTerm) (links : List Link) (i : ℕ) (link : Link) (t u : Seen) (e : RuleFault) → here ≡ path → i < length links → link ≡ get_or links i link → Reaches c s (adds name path locals z (drop i links)) t → Blames (adds_one name here locals z link) t u e → Blames c s u e
  unfolding adds
  adds_fails here z links i link t u e same low is r b =
      let rest = subst (λ (ls : List Link). Reaches c s (adds name path locals z ls) t) (rest_of links i link low is) r in
      let one = subst (λ (p : List Literal). Blames (adds_one name p locals z link) t u e) same b in
      reaches_blames c _ s t u e rest (blames_try (adds_one name path locals z link) (λ v. adds name path locals v (drop (i + 1) links)) t u e one)

  -- nothing is left
  pub adds_end : (z : NumberTerm) (links : List Link) (i : ℕ) (t : Seen) → length links ≡ i → Reaches c s (adds name path locals z (drop i links)) t → Follows c s t (Ok z)
  unfolding adds
  adds_end z links i t all r =
      let none = subst (λ (ls : List Link). Reaches c s (adds name path locals z ls) t) (subst (λ (k : ℕ). drop k links ≡ []) all (drop-length links)) r in
      reaches_end c _ s t t (Ok z) none (follows_done (Ok z) (Ok z) t t refl refl)

-- whether a sum fits is asked by its two literals
module _ (place : Place) (path : List Literal) (w : NumberTerm) (s t : Seen) where
  pub fits_both : (here : List Literal) (low high : Literal) (u : Seen) → here ≡ path → low ≡ at_most_of (least Int) w.number → high ≡ at_most_of w.number (greatest Int) → Follows (required rules.Range place path low) s t (Ok tt) → Follows (required rules.Range place here high) t u (Ok tt) → Follows (fits place path w) s u (Ok tt)
  unfolding fits
  fits_both here low high u same is_low is_high p q =
      let first = subst (λ (l : Literal). Follows (required rules.Range place path l) s t (Ok tt)) is_low p in
      let second = subst (λ (l : Literal). Follows (required rules.Range place path l) t u (Ok tt)) is_high (subst (λ (x : List Literal). Follows (required rules.Range place x high) t u (Ok tt)) same q) in
      follows_try (required rules.Range place path (at_most_of (least Int) w.number)) _ s t u tt (Ok tt) first second

  pub fits_fails : (low : Literal) (e : RuleFault) → low ≡ at_most_of (least Int) w.number → Blames (required rules.Range place path low) s t e → Blames (fits place path w) s t e
  unfolding fits
  fits_fails low e is_low b = blames_try (required rules.Range place path (at_most_of (least Int) w.number)) _ s t e (subst (λ (l : Literal). Blames (required rules.Range place path l) s t e) is_low b)

  pub fits_fails_above : (here : List Literal) (low high : Literal) (u : Seen) (e : RuleFault) → here ≡ path → low ≡ at_most_of (least Int) w.number → high ≡ at_most_of w.number (greatest Int) → Follows (required rules.Range place path low) s t (Ok tt) → Blames (required rules.Range place here high) t u e → Blames (fits place path w) s u e
  unfolding fits
  fits_fails_above here low high u e same is_low is_high p b =
      let first = subst (λ (l : Literal). Follows (required rules.Range place path l) s t (Ok tt)) is_low p in
      let second = subst (λ (l : Literal). Blames (required rules.Range place path l) t u e) is_high (subst (λ (x : List Literal). Blames (required rules.Range place x high) t u e) same b) in
      blames_later (required rules.Range place path (at_most_of (least Int) w.number)) _ s t u tt e first second

pub ruleset fitting = (fits_both, fits_fails, fits_fails_above, grew_path, grew_node, grew_begun, grew_on)

module _ (name : Place) (path : List Literal) (locals : Locals) (z : NumberTerm) (link : Link) (s t : Seen) where
  pub adds_one_fits : (w : NumberTerm) → sum_with (operand_value name locals link.operand) z link ≡ Ok w → Follows (fits link.place path w) s t (Ok tt) → Follows (adds_one name path locals z link) s t (Ok w)
  unfolding adds_one
  adds_one_fits w e p = done_follows _ _ s t w (Ok w) e (follows_try (fits link.place path w) _ s t t tt (Ok w) p (follows_done (Ok w) (Ok w) t t refl refl))

  pub adds_one_fails : (w : NumberTerm) (e : RuleFault) → sum_with (operand_value name locals link.operand) z link ≡ Ok w → Blames (fits link.place path w) s t e → Blames (adds_one name path locals z link) s t e
  unfolding adds_one
  adds_one_fails w e h b = done_later _ _ s t w e h (blames_try (fits link.place path w) _ s t e b)

pub adds_one_refused : (name : Place) (path : List Literal) (locals : Locals) (z : NumberTerm) (link : Link) (s : Seen) (x : Refusal) → sum_with (operand_value name locals link.operand) z link ≡ Err x → Blames (adds_one name path locals z link) s s (Refused x)
unfolding adds_one
adds_one_refused name path locals z link s x h = done_refused _ _ s x h

pub ruleset adding_one = (adds_one_fits, adds_one_fails, adds_one_refused, grew_not)

module _ (name : Place) (path : List Literal) (locals : Locals) (e : Expression) (s t : Seen) where
  pub evaluates_all : (z w : NumberTerm) → operand_value name locals e.first ≡ Ok z → Follows (adds name path locals z e.rest) s t (Ok w) → Follows (evaluates name path locals e) s t (Ok w)
  unfolding evaluates
  evaluates_all z w h p = done_follows _ _ s t z (Ok w) h p

  pub evaluates_fails : (z : NumberTerm) (f : RuleFault) → operand_value name locals e.first ≡ Ok z → Blames (adds name path locals z e.rest) s t f → Blames (evaluates name path locals e) s t f
  unfolding evaluates
  evaluates_fails z f h b = done_later _ _ s t z f h b

pub evaluates_refused : (name : Place) (path : List Literal) (locals : Locals) (e : Expression) (s : Seen) (x : Refusal) → operand_value name locals e.first ≡ Err x → Blames (evaluates name path locals e) s s (Refused x)
unfolding evaluates
evaluates_refused name path locals e s x h = done_refused _ _ s x h

pub ruleset evaluating = (evaluates_all, evaluates_fails, evaluates_refused, grew_not)
