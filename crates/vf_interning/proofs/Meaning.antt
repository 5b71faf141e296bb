-- Facts over numbers mean literals, and their closure is that of the literals.
use Rattle.std.proofs.Common.{◌≡◌, inl, inr, zero, suc, List, [], ◌∷◌, ◌++◌, map, refl, sym, ap, ap₂, ◌∙◌, subst, arith}
use Rattle.std.specs.Prelude.{pos, All, Contains}
use Rattle.std.proofs.lemmas.List.{map-append}
use Rattle.std.proofs.lemmas.List.Elements.{All-append, Contains-append_left, Contains-push}
use Rattle.vf_table.specs.declared.node.Node.{Node}
use Rattle.vf_refute.specs.declared.steps.Fact.{Fact}
use Rattle.vf_refute.specs.declared.steps.Fact.TheVariants as facts_
use Rattle.vf_closure.specs.Terms.{Term, number, itself}
use Rattle.vf_closure.specs.Literals.{Literal, Equal, NotEqual, AtMost, Difference, NotDifference, False, compares}
use Rattle.vf_closure.specs.Closure.{asked}
use Rattle.vf_reading.specs.Reading.{literal}
use Rattle.vf_question.specs.Numbered.{with_one, with_term, with_all, with_literals, terms_of, all_terms}
use Rattle.vf_question.specs.Tabled.{tabled_fact}
use Rattle.vf_question.specs.Questions.{at}
use Rattle.std.proofs.lemmas.Int.{ints}
use Rattle.vf_question.specs.Plain.{IsPlain, IsPlainLiteral}
use Rattle.vf_question.proofs.Has.{Has, contains_has, has_contains, has_place}
use Rattle.vf_question.proofs.Places.{with_one_there}
use Rattle.vf_question.proofs.Asked.{has_arising, literals_have}
use Rattle.vf_question.proofs.Read as read
use Rattle.vf_interning.specs.Interned.{IsTermTable, meant, IsInterned}
use Rattle.vf_interning.proofs.Stable.{place_stays}

-- ---- facts are read as the literals that they were made of

pub there : (ls : List Literal) (l : Literal) (t : Term) → Has ls l → Has (compares l) t → Has (all_terms ls) t
there ls l t h c = has_arising ls zero t (asked (has_contains ls l h) (has_contains (compares l) t c) itself)

pub read_each : (ts : List Term) (ls : List Literal) → ((l : Literal) (t : Term) → Has ls l → Has (compares l) t → Has ts t) → map (literal (at ts)) (map (tabled_fact ts) ls) ≡ ls
read_each ts [] h = refl
read_each ts (l ∷ ls) h = ap₂ (λ k ks. k ∷ ks) (read.fact_read ts l (λ t c. h l t (inl refl) c)) (read_each ts ls (λ k t c d. h k t (inr c) d))

-- a table of the terms of literals, with the literals as facts over it, is one of them
pub meaning_of : (facts : List Fact) (ts : List Term) (ls : List Literal) → ts ≡ all_terms ls → facts ≡ map (tabled_fact ts) ls → meant ts facts ≡ ls
meaning_of facts ts ls g n = ap (map (literal (at ts))) n ∙ read_each ts ls (λ l t h c. subst (λ us. Has us t) (sym g) (there ls l t h c))

pub interned_of : (nodes : List Node) (facts : List Fact) (ts : List Term) (ls : List Literal) → IsTermTable nodes ts → ts ≡ all_terms ls → facts ≡ map (tabled_fact ts) ls → Contains ls (Equal (number (pos 0)) (number (pos 0))) → All IsPlainLiteral ls → IsInterned nodes facts ts
interned_of nodes facts ts ls table g n z p =
    let m = sym (meaning_of facts ts ls g n) in
    record {
      table = table;
      gathered = g ∙ ap all_terms m;
      numbers = n ∙ ap (map (tabled_fact ts)) m;
      zero = subst (λ ks. Contains ks (Equal (number (pos 0)) (number (pos 0)))) m z;
      plain = subst (All IsPlainLiteral) m p;
    }

-- ---- one literal more

terms_last : (ls : List Literal) (l : Literal) (ts : List Term) → with_literals (ls ++ l ∷ []) ts ≡ with_all (compares l) (with_literals ls ts)
terms_last [] l ts = refl
terms_last (k ∷ ks) l ts = terms_last ks l (with_all (compares k) ts)

zero_there : (ls : List Literal) → Contains ls (Equal (number (pos 0)) (number (pos 0))) → terms_of ls ≡ all_terms ls
zero_there ls z = with_one_there (number (pos 0)) (terms_of ls) (has_place (number (pos 0)) (terms_of ls) (literals_have ls [] (Equal (number (pos 0)) (number (pos 0))) (number (pos 0)) (number (pos 0)) (contains_has ls (Equal (number (pos 0)) (number (pos 0))) z) (inl refl) itself))

pub gathered_more : (ls : List Literal) (l : Literal) (ts now : List Term) → Contains ls (Equal (number (pos 0)) (number (pos 0))) → ts ≡ all_terms ls → now ≡ with_all (compares l) ts → now ≡ all_terms (ls ++ l ∷ [])
gathered_more ls l ts now z g n = n ∙ ap (with_all (compares l)) (g ∙ sym (zero_there ls z)) ∙ sym (terms_last ls l []) ∙ zero_there (ls ++ l ∷ []) (Contains-append_left ls (l ∷ []) (Equal (number (pos 0)) (number (pos 0))) z)

fact_stays : (ts us : List Term) (l : Literal) → ((t : Term) → Has (compares l) t → Has ts t) → tabled_fact (ts ++ us) l ≡ tabled_fact ts l
fact_stays ts us (Equal a b) h = ap₂ facts_.Equal (place_stays a ts us (h a (inl refl))) (place_stays b ts us (h b (inr (inl refl))))
fact_stays ts us (NotEqual a b) h = ap₂ facts_.NotEqual (place_stays a ts us (h a (inl refl))) (place_stays b ts us (h b (inr (inl refl))))
fact_stays ts us (AtMost p n c) h = ap₂ (λ x y. facts_.AtMost x y c) (place_stays p ts us (h p (inl refl))) (place_stays n ts us (h n (inr (inl refl))))
fact_stays ts us (Difference p n c) h = ap₂ (λ x y. facts_.Difference x y c) (place_stays p ts us (h p (inl refl))) (place_stays n ts us (h n (inr (inl refl))))
fact_stays ts us (NotDifference p n c) h = ap₂ (λ x y. facts_.NotDifference x y c) (place_stays p ts us (h p (inl refl))) (place_stays n ts us (h n (inr (inl refl))))
fact_stays ts us False h = refl

facts_stay : (ts us : List Term) (ls : List Literal) → ((l : Literal) (t : Term) → Has ls l → Has (compares l) t → Has ts t) → map (tabled_fact (ts ++ us)) ls ≡ map (tabled_fact ts) ls
facts_stay ts us [] h = refl
facts_stay ts us (l ∷ ls) h = ap₂ (λ k ks. k ∷ ks) (fact_stays ts us l (λ t c. h l t (inl refl) c)) (facts_stay ts us ls (λ k t c d. h k t (inr c) d))

pub numbers_stay : (facts : List Fact) (ls : List Literal) (ts us now : List Term) → ts ≡ all_terms ls → facts ≡ map (tabled_fact ts) ls → now ≡ ts ++ us → facts ≡ map (tabled_fact now) ls
numbers_stay facts ls ts us now g n e = n ∙ sym (ap (λ vs. map (tabled_fact vs) ls) e ∙ facts_stay ts us ls (λ l t h c. subst (λ vs. Has vs t) (sym g) (there ls l t h c)))

pub numbers_more : (facts : List Fact) (ls : List Literal) (l : Literal) (f : Fact) (ts us now : List Term) → ts ≡ all_terms ls → facts ≡ map (tabled_fact ts) ls → now ≡ ts ++ us → f ≡ tabled_fact now l → facts ++ f ∷ [] ≡ map (tabled_fact now) (ls ++ l ∷ [])
numbers_more facts ls l f ts us now g n e k = ap₂ (λ fs x. fs ++ x ∷ []) (numbers_stay facts ls ts us now g n e) k ∙ sym (map-append (tabled_fact now) ls (l ∷ []))

one_plain : (l : Literal) → IsPlainLiteral l → All IsPlainLiteral (l ∷ [])
one_plain l p zero d w = p
one_plain l p (suc k) d w = absurd (omega arith)

pub plain_more : (ls : List Literal) (l : Literal) → All IsPlainLiteral ls → IsPlainLiteral l → All IsPlainLiteral (ls ++ l ∷ [])
plain_more ls l ps p = All-append IsPlainLiteral ls (l ∷ []) ps (one_plain l p)

pub zero_more : (ls : List Literal) (l : Literal) → Contains ls (Equal (number (pos 0)) (number (pos 0))) → Contains (ls ++ l ∷ []) (Equal (number (pos 0)) (number (pos 0)))
zero_more ls l z = Contains-append_left ls (l ∷ []) (Equal (number (pos 0)) (number (pos 0))) z

pub last_there : (ls : List Literal) (l : Literal) → Contains (ls ++ l ∷ []) l
last_there ls l = Contains-push ls l

-- ---- the first literal

pub zero_plain : IsPlainLiteral (Equal (number (pos 0)) (number (pos 0)))
zero_plain = let p : IsPlain (number (pos 0)) = ((refl, record { low = omega (arith, ints); high = omega (arith, ints) }), tt) in (p, p)

pub first_gathered : (ts now : List Term) → ts ≡ [] → now ≡ with_term (number (pos 0)) ts → now ≡ all_terms (Equal (number (pos 0)) (number (pos 0)) ∷ [])
first_gathered ts now e w =
    let one : with_term (number (pos 0)) [] ≡ number (pos 0) ∷ [] = refl in
    let k = with_one_there (number (pos 0)) (number (pos 0) ∷ []) (has_place (number (pos 0)) (number (pos 0) ∷ []) (inl refl)) in
    w ∙ ap (with_term (number (pos 0))) e ∙ k ∙ ap (with_one (number (pos 0))) k

pub first_plain : All IsPlainLiteral (Equal (number (pos 0)) (number (pos 0)) ∷ [])
first_plain = one_plain (Equal (number (pos 0)) (number (pos 0))) zero_plain

pub empty_table : (nodes : List Node) (ts : List Term) → nodes ≡ [] → ts ≡ [] → IsTermTable nodes ts
empty_table nodes ts en et = subst (λ ns. IsTermTable ns ts) (sym en) (subst (IsTermTable []) (sym et) (record { tabled = refl; closed = λ h ps p i c a. absurd (let l = c.1 in omega arith); few = omega arith }))
