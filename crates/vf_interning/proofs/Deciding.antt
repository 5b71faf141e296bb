-- The closure of a table is that of the literals that its facts mean.
use Rattle.std.proofs.Common.{◌≡◌, ◌<◌, inl, inr, ℕ, zero, suc, List, [], ◌∷◌, length, map, refl, sym, ap, ◌∙◌, subst, arith}
use Rattle.std.specs.Prelude.{◌↔◌, pos, All, Contains, Some, slice_get}
use Rattle.vf_table.specs.declared.node.Node.{Node}
use Rattle.vf_table.specs.Tables as tables
use Rattle.vf_refute.specs.declared.steps.Fact.{Fact}
use Rattle.vf_refute.specs.Closure as over_table
use Rattle.vf_ground.specs.Held.{IsFine}
use Rattle.vf_closure.specs.Terms.{Term, number}
use Rattle.vf_closure.specs.Literals.{Literal, Equal, NotEqual, AtMost, Difference, NotDifference, False, IsInteger, compares}
use Rattle.vf_closure.specs.Closure.{no_unfoldings, Same, Conflict}
use Rattle.vf_reading.specs.Reading.{IsReading, IsTableOf, IsInside, ClosuresAgree, EqualTermsAgree}
use Rattle.vf_reading.proofs.Heads as H
use Rattle.vf_question.specs.Numbered.{place, all_terms}
use Rattle.vf_question.specs.Tabled.{entries, tabled, tabled_fact}
use Rattle.vf_question.specs.Questions.{at}
use Rattle.vf_question.specs.Plain.{IsPlainLiteral}
use Rattle.vf_question.proofs.Has.{Has, contains_has, has_place, at_place}
use Rattle.vf_question.proofs.Plainness.{leaves}
use Rattle.vf_question.proofs.Read as read
use Rattle.vf_interning.specs.Interned.{IsTermTable, meant, IsInterned}
use Rattle.vf_interning.proofs.Adding.{as_many}
use Rattle.vf_interning.proofs.Meaning.{there}

module _ (nodes : List Node) (ts : List Term) (ls : List Literal) (table : IsTermTable nodes ts) (g : ts ≡ all_terms ls) where
  same_entries : map entries nodes ≡ map (tabled (all_terms ls)) (all_terms ls)
  same_entries = subst (λ us. map entries nodes ≡ map (tabled us) us) g table.tabled

  reading : All IsPlainLiteral ls → IsReading nodes (read.meant ts) (at ts)
  reading plain = subst (λ us. IsReading nodes (read.meant us) (at us)) (sym g) (read.is_reading ls nodes same_entries (leaves ls plain))

  table_of : IsTableOf nodes (at ts) ls
  table_of = subst (λ us. IsTableOf nodes (at us) ls) (sym g) (read.is_table ls nodes same_entries)

  inside_of : (facts : List Fact) → facts ≡ map (tabled_fact ts) ls → (f : Fact) → Contains facts f → IsInside (length nodes) f
  inside_of facts n = read.is_inside ls nodes same_entries facts (n ∙ ap (λ us. map (tabled_fact us) ls) g)

  -- ---- a literal of them makes a fine fact
  has_compared : (l : Literal) → Contains ls l → (t : Term) → Has (compares l) t → Has ts t
  has_compared l c t h = subst (λ us. Has us t) (sym g) (there ls l t (contains_has ls l c) h)

  node_there : (ns : List Node) (x : ℕ) → x < length ns → (m : Node) × (slice_get ns x ≡ Some m)
  node_there [] x l = absurd (omega arith)
  node_there (m ∷ ms) zero l = (m, refl)
  node_there (m ∷ ms) (suc x) l = node_there ms x (omega arith)

  within : (t : Term) → Has ts t → place t ts < length nodes
  within t h = let l = has_place t ts h in omega (arith, as_many nodes ts table)

  integer_at : All IsPlainLiteral ls → (t : Term) → Has ts t → IsInteger t → tables.IsInteger nodes (place t ts)
  integer_at plain t h i =
      let n = node_there nodes (place t ts) (within t h) in
      let r = reading plain in
      (n.0, n.1, H.integer_down (r.stands (place t ts) n.0 n.1) (subst IsInteger (r.whole (place t ts) n.0 n.1) (subst IsInteger (sym (at_place t (number (pos 0)) ts h)) i)))

  fine_literal : All IsPlainLiteral ls → (l : Literal) → ((t : Term) → Has (compares l) t → Has ts t) → IsPlainLiteral l → IsFine nodes (tabled_fact ts l)
  fine_literal plain (Equal a b) h p = (within a (h a (inl refl)), within b (h b (inr (inl refl))))
  fine_literal plain (NotEqual a b) h p = (within a (h a (inl refl)), within b (h b (inr (inl refl))))
  fine_literal plain (AtMost a b c) h p = let i = h a (inl refl) in let j = h b (inr (inl refl)) in (within a i, within b j, p.4, integer_at plain a i p.2, integer_at plain b j p.3)
  fine_literal plain (Difference a b c) h p = let i = h a (inl refl) in let j = h b (inr (inl refl)) in (within a i, within b j, p.4, integer_at plain a i p.2, integer_at plain b j p.3)
  fine_literal plain (NotDifference a b c) h p = let i = h a (inl refl) in let j = h b (inr (inl refl)) in (within a i, within b j, p.4, integer_at plain a i p.2, integer_at plain b j p.3)
  fine_literal plain False h p = tt

  pub fine_fact : All IsPlainLiteral ls → (l : Literal) → Contains ls l → IsPlainLiteral l → (f : Fact) → f ≡ tabled_fact ts l → IsFine nodes f
  fine_fact plain l c p f e = subst (IsFine nodes) (sym e) (fine_literal plain l (has_compared l c) p)

module _ (nodes : List Node) (facts : List Fact) (ts : List Term) (is : IsInterned nodes facts ts) where
  pub conflicts_agree : ClosuresAgree → over_table.Conflict nodes facts ↔ Conflict no_unfoldings (meant ts facts)
  conflicts_agree law = law nodes (read.meant ts) (at ts) facts (reading nodes ts (meant ts facts) is.table is.gathered is.plain) (table_of nodes ts (meant ts facts) is.table is.gathered) (inside_of nodes ts (meant ts facts) is.table is.gathered facts is.numbers)

  pub as_many_terms : length nodes ≡ length (all_terms (meant ts facts))
  as_many_terms = as_many nodes ts is.table ∙ ap length is.gathered

  pub equals_agree : EqualTermsAgree → (a b : ℕ) → a < length (all_terms (meant ts facts)) → b < length (all_terms (meant ts facts)) → over_table.Same nodes facts a b ↔ Same no_unfoldings (meant ts facts) (at (all_terms (meant ts facts)) a) (at (all_terms (meant ts facts)) b)
  equals_agree law a b i j = subst (λ us. over_table.Same nodes facts a b ↔ Same no_unfoldings (meant ts facts) (at us a) (at us b)) is.gathered
      (law nodes (read.meant ts) (at ts) facts (reading nodes ts (meant ts facts) is.table is.gathered is.plain) (table_of nodes ts (meant ts facts) is.table is.gathered) (inside_of nodes ts (meant ts facts) is.table is.gathered facts is.numbers) a b (omega (arith, as_many_terms)) (omega (arith, as_many_terms)))
