-- What is asked of a table and its facts holds of those of bounded literals.
use Rattle.std.proofs.Common.{◌≡◌, ◌≤◌, ◌<◌, ◌+◌, ◌↔◌, ℕ, zero, suc, Bool, true, false, cond, List, [], ◌∷◌, ◌++◌, length, get_or, map, Some, refl, sym, ap, ◌∙◌, subst, arith}
use Rattle.std.specs.Prelude.{pos, Contains, All, nat_lt, slice_get}
use Rattle.std.specs.Borrow.{Bor}
use Rattle.std.proofs.lemmas.List.{length_push, length-map, get_or_default}
use Rattle.std.proofs.lemmas.Option.{slice_get-get_or}
use Rattle.vf_table.specs.declared.node.Node.{Node}
use Rattle.vf_table.specs.Tables as tables
use Rattle.vf_refute.specs.declared.steps.Fact.{Fact}
use Rattle.vf_refute.specs.declared.steps.Fact.TheVariants as facts_
use Rattle.vf_refute.specs.Closure as over_table
use Rattle.vf_ground.specs.Held.{IsFine, HasSmallNumber}
use Rattle.vf_closure.specs.Terms as terms
use Rattle.vf_closure.specs.Terms.{Term, Terms, term, number}
use Rattle.vf_closure.specs.Literals.{Literal, IsInteger}
use Rattle.vf_closure.specs.Closure.{no_unfoldings, Arises, Same, Conflict}
use Rattle.vf_reading.specs.Reading.{in_row, IsInside, literal, IsTableOf, ClosuresAgree, EqualTermsAgree}
use Rattle.vf_reading.proofs.Heads as H
use Rattle.vf_reading.proofs.Up.{fact_up}
use Rattle.vf_question.specs.declared.question.Question.{Question}
use Rattle.vf_question.specs.Numbered.{place, terms_of, all_terms, pointed}
use Rattle.vf_question.specs.Questions.{at, IsQuestion}
use Rattle.vf_question.proofs.Plainness.{IsBounded, AreBounded}

node_there : (nodes : List Node) (x : ℕ) → x < length nodes → (m : Node) × (slice_get nodes x ≡ Some m)
node_there [] x l = absurd (omega arith)
node_there (m ∷ ms) zero l = (m, refl)
node_there (m ∷ ms) (suc x) l = node_there ms x (omega arith)

pub both : {A B C : Type 0} → A ↔ B → B ↔ C → A ↔ C
both f g = (λ a. g.0 (f.0 a), λ c. f.1 (g.1 c))

module _ (ls : List Literal) (q : Question) (is : IsQuestion ls q) where
  pub small : AreBounded ls → All HasSmallNumber q.nodes.items
  small b k d l z e =
      let m = get_or q.nodes.items k d in
      let s = slice_get-get_or q.nodes.items k d l in
      let h : is.meant m.head ≡ terms.Number z = H.number_up z (is.reading.stands k m s) e in
      let w : at (all_terms ls) k ≡ term (terms.Number z) (in_row (at (all_terms ls)) m.parts.items) = is.reading.whole k m s ∙ ap (λ g. term g (in_row (at (all_terms ls)) m.parts.items)) h in
      b.numbers z (in_row (at (all_terms ls)) m.parts.items) (subst (Arises no_unfoldings ls 0) w (is.table.arises k l))

  is_integer : (x : ℕ) → x < length q.nodes.items → IsInteger (at (all_terms ls) x) → tables.IsInteger q.nodes.items x
  is_integer x l i =
      let n = node_there q.nodes.items x l in
      (n.0, n.1, H.integer_down (is.reading.stands x n.0 n.1) (subst IsInteger (is.reading.whole x n.0 n.1) i))

  fine_fact : (f : Fact) → IsInside (length q.nodes.items) f → IsBounded (literal (at (all_terms ls)) f) → IsFine q.nodes.items f
  fine_fact (facts_.Equal a b) i k = i
  fine_fact (facts_.NotEqual a b) i k = i
  fine_fact (facts_.AtMost x y c) i k = (i.0, i.1, k.2, is_integer x i.0 k.0, is_integer y i.1 k.1)
  fine_fact (facts_.Difference x y c) i k = (i.0, i.1, k.2, is_integer x i.0 k.0, is_integer y i.1 k.1)
  fine_fact (facts_.NotDifference x y c) i k = (i.0, i.1, k.2, is_integer x i.0 k.0, is_integer y i.1 k.1)
  fine_fact facts_.False i k = tt

  is_literal : (f : Fact) → Contains q.facts.items f → Contains ls (literal (at (all_terms ls)) f)
  is_literal f c = subst (λ (ks : List Literal). Contains ks (literal (at (all_terms ls)) f)) is.facts (fact_up (at (all_terms ls)) q.facts.items f c)

  pub fine : AreBounded ls → All (IsFine q.nodes.items) q.facts.items
  fine b k d l =
      let f = get_or q.facts.items k d in
      let c : Contains q.facts.items f = (k, l, get_or_default q.facts.items k f d l) in
      fine_fact f (is.inside f c) (b.bounds (literal (at (all_terms ls)) f) (is_literal f c))

  pub agree : ClosuresAgree → over_table.Conflict q.nodes.items q.facts.items ↔ Conflict no_unfoldings ls
  agree law =
      let t : IsTableOf q.nodes.items (at (all_terms ls)) (map (literal (at (all_terms ls))) q.facts.items) = subst (IsTableOf q.nodes.items (at (all_terms ls))) (sym is.facts) is.table in
      subst (λ (ks : List Literal). over_table.Conflict q.nodes.items q.facts.items ↔ Conflict no_unfoldings ks) is.facts (law q.nodes.items is.meant (at (all_terms ls)) q.facts.items is.reading t is.inside)
