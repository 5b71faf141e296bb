-- The value of a term with arguments in place of its symbols.
use Rattle.std.proofs.Common.{◌≡◌, ℕ, zero, suc, refl, ap, ◌∙◌}
use Rattle.vf_model.specs.Values.{Values, more}
use Rattle.vf_meaning.specs.Ghost.{Name, Numbered, Result, This, CurrentThread}
use Rattle.vf_meaning.specs.Valuations.{Valuation, value_at, of_arguments}
use Rattle.vf_meaning.specs.Valuations as valued
use Rattle.vf_meaning.specs.GhostValues.{Interpretation}
use Rattle.vf_closure.specs.Terms.{Kind, Integer, Other, Head, Symbol, Number, Truth, Null, Function, Constructor, Fixpoint, Claims, Predicate, Share, Sum, Plus, Arithmetic, Compare, Not, And, Or, Choose, PointerSum, Term, Terms, term, no_terms, and_term, kind_of, count}
use Rattle.vf_closure.specs.Values.{of_kind, applied, value, all_values}
use Rattle.vf_normal.specs.Normal.{part_at, as_kind}
use Rattle.vf_normal.proofs.Worth.{as_integer_value}
use Rattle.vf_definitions.specs.Filled.{argument_for, filled_over, filled, all_filled, followed_by}

module _ (i : Interpretation) (v : Valuation) where
  pub part_value : (ts : Terms) (k : ℕ) → value i v (part_at ts k) ≡ value_at (all_values i v ts) k
  part_value no_terms k = refl
  part_value (and_term t ts) zero = refl
  part_value (and_term t ts) (suc k) = part_value ts k

  kind_value : (k : Kind) (t : Term) → value i v (as_kind k t) ≡ of_kind k (value i v t)
  kind_value Integer t = as_integer_value i v t
  kind_value Other t = refl

  argument_value : (ts : Terms) (x : Name) → value i v (argument_for ts x) ≡ of_arguments (all_values i v ts) x
  argument_value ts (Numbered k) = part_value ts k
  argument_value ts Result = refl
  argument_value ts This = refl
  argument_value ts CurrentThread = refl

  over_value : (ts : Terms) (h : Head) (us : Terms) (ws : Values) → all_values i v us ≡ ws → value i v (filled_over ts h us) ≡ of_kind (kind_of h) (applied i (of_arguments (all_values i v ts)) h ws)
  over_value ts (Symbol k x) us ws e = kind_value k (argument_for ts x) ∙ ap (of_kind k) (argument_value ts x)
  over_value ts (Number z) us ws e = refl
  over_value ts (Truth b) us ws e = refl
  over_value ts Null us ws e = refl
  over_value ts (Function g) us ws e = refl
  over_value ts (Constructor c) us ws e = ap (λ (vs : Values). of_kind (kind_of (Constructor c)) (applied i v (Constructor c) vs)) e
  over_value ts (Fixpoint k f) us ws e = ap (λ (vs : Values). of_kind (kind_of (Fixpoint k f)) (applied i v (Fixpoint k f) vs)) e
  over_value ts (Claims c) us ws e = ap (λ (vs : Values). of_kind (kind_of (Claims c)) (applied i v (Claims c) vs)) e
  over_value ts (Predicate p) us ws e = ap (λ (vs : Values). of_kind (kind_of (Predicate p)) (applied i v (Predicate p) vs)) e
  over_value ts (Share x) us ws e = ap (λ (vs : Values). of_kind (kind_of (Share x)) (applied i v (Share x) vs)) e
  over_value ts (Sum factors) us ws e = ap (λ (vs : Values). of_kind (kind_of (Sum factors)) (applied i v (Sum factors) vs)) e
  over_value ts Plus us ws e = ap (λ (vs : Values). of_kind (kind_of Plus) (applied i v Plus vs)) e
  over_value ts (Arithmetic op) us ws e = ap (λ (vs : Values). of_kind (kind_of (Arithmetic op)) (applied i v (Arithmetic op) vs)) e
  over_value ts (Compare op) us ws e = ap (λ (vs : Values). of_kind (kind_of (Compare op)) (applied i v (Compare op) vs)) e
  over_value ts Not us ws e = ap (λ (vs : Values). of_kind (kind_of Not) (applied i v Not vs)) e
  over_value ts And us ws e = ap (λ (vs : Values). of_kind (kind_of And) (applied i v And vs)) e
  over_value ts Or us ws e = ap (λ (vs : Values). of_kind (kind_of Or) (applied i v Or vs)) e
  over_value ts (Choose k) us ws e = ap (λ (vs : Values). of_kind (kind_of (Choose k)) (applied i v (Choose k) vs)) e
  over_value ts PointerSum us ws e = ap (λ (vs : Values). of_kind (kind_of PointerSum) (applied i v PointerSum vs)) e

  mutual
    -- a term with arguments for its symbols has the value of the term where the arguments' values are those of its names
    pub filled_value : (ts : Terms) (t : Term) → value i v (filled ts t) ≡ value i (of_arguments (all_values i v ts)) t
    filled_value ts (term h us) = over_value ts h (all_filled ts us) (all_values i (of_arguments (all_values i v ts)) us) (all_filled_value ts us)

    all_filled_value : (ts us : Terms) → all_values i v (all_filled ts us) ≡ all_values i (of_arguments (all_values i v ts)) us
    all_filled_value ts no_terms = refl
    all_filled_value ts (and_term u us) = λ j. more (filled_value ts u j) (all_filled_value ts us j)

  pub followed_values : (ts us : Terms) → all_values i v (followed_by ts us) ≡ valued.appended (all_values i v ts) (all_values i v us)
  followed_values no_terms us = refl
  followed_values (and_term t ts) us = ap (more (value i v t)) (followed_values ts us)

  pub counted_values : (ts : Terms) → valued.count (all_values i v ts) ≡ count ts
  counted_values no_terms = refl
  counted_values (and_term t ts) = ap suc (counted_values ts)
