-- Literals that come one after the other, with numbers for their terms.
use Rattle.std.proofs.Common.{◌≡◌, Bool, List, [], ◌∷◌, ◌++◌, map, refl, sym, ap, ◌∙◌, subst, append-nil}
use Rattle.std.specs.Prelude.{pos, All, IsTrue, IfOk, Ok, Err, ◌↔◌}
use Rattle.std.specs.declared.result.Result.{Result}
use Rattle.std.proofs.lemmas.List.{map-append}
use Rattle.vf_base.specs.declared.memory.Memory.{Memory}
use Rattle.vf_table.specs.declared.node.Node.{Node}
use Rattle.vf_refute.specs.declared.steps.Fact.{Fact}
use Rattle.vf_closure.specs.Terms.{Term, number, itself}
use Rattle.vf_closure.specs.Literals.{Literal, compares}
use Rattle.vf_question.specs.Numbered.{with_term, with_all, with_literals, terms_of, all_terms}
use Rattle.vf_closure.specs.Closure.{Unfoldings}
use Rattle.vf_question.specs.Tabled.{entries, tabled_fact}
use Rattle.vf_question.specs.Plain.{IsPlainLiteral}
use Rattle.vf_question.proofs.Has.{Has}
use Rattle.vf_question.proofs.Asked.{literals_have}
use Rattle.vf_interning.specs.Interned.{IsTermTable}
use Rattle.vf_recheck.specs.declared.posing.Posed.{Posed}
use Rattle.vf_recheck.specs.declared.steps.Step.{Step}
use Rattle.vf_recheck.specs.Closure.{HasConflict}
use Rattle.vf_recheck.specs.Refutations.{facts_over, IsRefutation}
use Rattle.vf_recheck.specs.Posed.{IsPosed}
use Rattle.vf_recheck.proofs.Following.{refutation_shows}
use Rattle.vf_recheck.proofs.Growing.{GoesOnTo, on_through, term_on, facts_stay}

-- with several terms a list goes on
pub all_on : (us ts : List Term) → GoesOnTo ts (with_all us ts)
all_on [] ts = record { more = []; is = sym (append-nil ts) }
all_on (u ∷ us) ts = on_through ts (with_term u ts) (with_all us (with_term u ts)) (term_on u ts) (all_on us (with_term u ts))

-- the terms of a literal more
pub terms_more : (ls : List Literal) (l : Literal) (ts : List Term) → with_literals (ls ++ l ∷ []) ts ≡ with_all (compares l) (with_literals ls ts)
terms_more [] l ts = refl
terms_more (k ∷ ks) l ts = terms_more ks l (with_all (compares k) ts)

-- literals are the same facts over the numbers of more terms
pub facts_on : (ls : List Literal) (ts now : List Term) → ts ≡ terms_of ls → GoesOnTo ts now → map (tabled_fact now) ls ≡ map (tabled_fact ts) ls
facts_on ls ts now g on =
    ap (λ vs. map (tabled_fact vs) ls) on.is
    ∙ facts_stay ts on.more ls (λ l t h c. subst (λ (vs : List Term). Has vs t) (sym g) (literals_have ls [] l t t h c itself))

-- one literal more
module _ (ls : List Literal) (l : Literal) (ts now : List Term) (fs : List Fact) (g : ts ≡ terms_of ls) (n : now ≡ with_all (compares l) ts) (f : fs ≡ map (tabled_fact ts) ls) where
  pub more_gathered : now ≡ terms_of (ls ++ l ∷ [])
  more_gathered = n ∙ ap (with_all (compares l)) g ∙ sym (terms_more ls l [])

  on_now : GoesOnTo ts now
  on_now = let on = all_on (compares l) ts in record { more = on.more; is = n ∙ on.is }

  pub more_numbers : fs ++ tabled_fact now l ∷ [] ≡ map (tabled_fact now) (ls ++ l ∷ [])
  more_numbers = ap (λ gs. gs ++ tabled_fact now l ∷ []) (f ∙ sym (facts_on ls ts now g on_now)) ∙ sym (map-append (tabled_fact now) ls (l ∷ []))

  -- and then 0
  module _ (last : List Term) (z : last ≡ with_term (number (pos 0)) now) where
    pub posed_gathered : last ≡ all_terms (ls ++ l ∷ [])
    posed_gathered = z ∙ ap (with_term (number (pos 0))) more_gathered

    on_last : GoesOnTo now last
    on_last = let on = term_on (number (pos 0)) now in record { more = on.more; is = z ∙ on.is }

    pub posed_numbers : fs ++ tabled_fact now l ∷ [] ≡ facts_over (ls ++ l ∷ [])
    posed_numbers = more_numbers ∙ sym (facts_on (ls ++ l ∷ []) now last more_gathered on_last) ∙ ap (λ vs. map (tabled_fact vs) (ls ++ l ∷ [])) posed_gathered

-- a copy of a table is one of the same terms
pub copied : (nodes copies : List Node) (ts us : List Term) → map entries copies ≡ map entries nodes → us ≡ ts → IsTermTable nodes ts → IsTermTable copies us
copied nodes copies ts us e f t = subst (IsTermTable copies) (sym f) (record { tabled = e ∙ t.tabled; closed = t.closed; few = t.few })

-- a yes of the check shows a conflict
pub sound_of : (u : Unfoldings) (ls : List Literal) (steps : List Step) (question : Posed) (r : Result Bool Memory) → All IsPlainLiteral ls → IsPosed ls question
    → IfOk r (λ b. (ks : List Literal) → IsPosed ks question → IsTrue b ↔ IsRefutation u ks steps) → IfOk r (λ b. IsTrue b → HasConflict u ls)
sound_of u ls steps question (Ok b) p q h = λ t. refutation_shows u ls steps p ((h ls q).0 t)
sound_of u ls steps question (Err m) p q h = tt
