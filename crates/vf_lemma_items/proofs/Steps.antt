-- How a lemma goes on in front of its contract, and where it stops.
use Rattle.std.proofs.Common.{◌≡◌, ◌↔◌, IsTrue, ℕ, Bool, true, false, if◌then◌else◌, List, [], length, Option, Some, None, Result, Ok, Err, sym, ap, subst, ◌∙◌}
use Rattle.vf_base.specs.declared.refusal.Refusal.{Refusal}
use Rattle.vf_base.specs.declared.refusal.RuleFault.{RuleFault}
use Rattle.vf_base.specs.declared.refusal.RuleFault.TheVariants as faults
use Rattle.vf_base.specs.declared.rule.Rule.TheVariants as rules
use Rattle.vf_sorts.specs.Sorts.{Sort}
use Rattle.vf_declared.specs.declared.declaration.GhostDeclaration.TheVariants as ghosts
use Rattle.vf_declared.specs.declared.scope.Scope.{Scope}
use Rattle.vf_declared.specs.Writing.{with_ghost}
use Rattle.vf_syntax.specs.declared.item.GhostParameter.{GhostParameter}
use Rattle.vf_syntax.specs.declared.written.Name.{Name}
use Rattle.vf_sorting.specs.Answers.{Answers, Tells}
use Rattle.vf_sorting.specs.Refusals.{refused}
use Rattle.vf_datatypes.specs.NewNames as names
use Rattle.vf_datatypes.specs.Walking.{Gives, behind}
use Rattle.vf_heads.specs.Parameters.{Taken, none_taken, parameters_behind}
use Rattle.vf_predicates.specs.Earlier.{AreSame, seen_too}
use Rattle.vf_predicates.proofs.Coming.{stops}
use Rattle.vf_predicates.proofs.Heads.{gives_too, is_not}
use Rattle.vf_walk.specs.Walking.{Follows, Only, Then, Walked}
use Rattle.vf_walk.specs.Walking as walking
use Rattle.vf_walk.proofs.Steps.{end_of, next_of}
use Rattle.vf_lemma_items.specs.declared.earlier.Head.{Head}
use Rattle.vf_lemma_items.specs.Earlier.{counted, earlier, has_as_many, head, lemma_at, sorts_of}
use Rattle.vf_lemma_items.specs.Lemmas.{IsLemma, SignatureComes, begun}
use Rattle.vf_lemma_items.specs.Lemmas as lemmas

-- an answer for what stands in front of the parameters of a lemma
abbrev pub IsHead : Scope → Bool → Name → List Name → Result Head RuleFault → Type 0
IsHead s b n ns r = Answers (λ h. head s b n ns ≡ Ok h) (λ x. head s b n ns ≡ Err x) r

-- its name is refused
pub name_stops : (s : Scope) (b : Bool) (n : Name) (ns : List Name) (x : Refusal) (r : Result Head RuleFault) → earlier s b n ≡ Err x → r ≡ Err (faults.Refused x) → IsHead s b n ns r
name_stops s b n ns x r h is = subst (IsHead s b n ns) (sym is) (ap (behind (λ o. behind (counted s n o) (names.parameters_behind s ns []))) h)

-- a type parameter is refused
pub types_stop : (s : Scope) (b : Bool) (n : Name) (ns : List Name) (o : Option ℕ) (e : RuleFault) (r : Result Head RuleFault) → earlier s b n ≡ Ok o → Tells (λ x. names.parameters_behind s ns [] ≡ Err x) e → r ≡ Err e → IsHead s b n ns r
types_stop s b n ns o (faults.Refused x) r h t is = subst (IsHead s b n ns) (sym is) (ap (behind (λ o. behind (counted s n o) (names.parameters_behind s ns []))) h ∙ ap (behind (counted s n o)) t)
types_stop s b n ns o faults.Memory r h t is = subst (IsHead s b n ns) (sym is) tt

-- what comes of as many or not as many type parameters
counts : (s : Scope) (b : Bool) (n : Name) (ns : List Name) (o : Option ℕ) (ps : List (List ℕ)) → earlier s b n ≡ Ok o → names.parameters_behind s ns [] ≡ Ok ps → head s b n ns ≡ counted s n o ps
counts s b n ns o ps h t = ap (behind (λ o. behind (counted s n o) (names.parameters_behind s ns []))) h ∙ ap (behind (counted s n o)) t

-- there are as many as before
pub types_agree : (s : Scope) (b : Bool) (n : Name) (ns : List Name) (o : Option ℕ) (ps : List (List ℕ)) → earlier s b n ≡ Ok o → names.parameters_behind s ns [] ≡ Ok ps → has_as_many ps (lemma_at s o) ≡ true → head s b n ns ≡ Ok (record { earlier = o; parameters = ps })
types_agree s b n ns o ps h t m = counts s b n ns o ps h t ∙ ap (λ c. if c then Ok (record { earlier = o; parameters = ps }) else Err (refused rules.Name n.place)) m

-- there are not
pub types_differ : (s : Scope) (b : Bool) (n : Name) (ns : List Name) (o : Option ℕ) (ps : List (List ℕ)) → earlier s b n ≡ Ok o → names.parameters_behind s ns [] ≡ Ok ps → has_as_many ps (lemma_at s o) ≡ false → head s b n ns ≡ Err (refused rules.Name n.place)
types_differ s b n ns o ps h t m = counts s b n ns o ps h t ∙ ap (λ c. if c then Ok (record { earlier = o; parameters = ps }) else Err (refused rules.Name n.place)) m

-- what stands in front of the parameters is refused
pub head_stops : {Q : Head → Walked → Type 0} (s t : Scope) (b : Bool) (n : Name) (ns : List Name) (e : RuleFault) (r : Result (Unit {0}) RuleFault) → IsHead s b n ns (Err e) → r ≡ Err e → Follows (Then (Only (head s b n ns)) Q) r t
head_stops s t b n ns e r h is = stops (λ x. head s b n ns ≡ Err x) e (λ x p. walking.stops (record { is = p })) h is

-- a lemma is new
pub new_comes : (n : Name) (ps : List (List ℕ)) (o : Option ℕ) (s t : Scope) (k : ℕ) (ts : List Sort) (r : Result (Unit {0}) RuleFault) → o ≡ None → k ≡ length ps → t ≡ with_ghost s (ghosts.Lemma (record { parameters = k; arguments = ts })) → r ≡ Ok tt → Follows (IsLemma n ps o (record { scope = s; sorts = ts })) r t
new_comes n ps o s t k ts r a w q is =
    subst (λ (p : Option ℕ). Follows (IsLemma n ps p (record { scope = s; sorts = ts })) r t) (sym a)
    (subst (λ (x : Result (Unit {0}) RuleFault). Follows (IsLemma n ps None (record { scope = s; sorts = ts })) x t) (sym is)
    (subst (λ (u : Scope). Follows (IsLemma n ps None (record { scope = s; sorts = ts })) (Ok tt) u) (sym (q ∙ ap (λ (i : ℕ). with_ghost s (ghosts.Lemma (record { parameters = i; arguments = ts }))) w))
    (walking.to_end lemmas.new)))

-- it has other sorts than before
pub sorts_differ : (n : Name) (ps : List (List ℕ)) (o : Option ℕ) (k : ℕ) (s t : Scope) (ts us : List Sort) (b : Bool) (e : RuleFault) → o ≡ Some k → us ≡ sorts_of s k → (IsTrue b ↔ AreSame ts us) → b ≡ false → e ≡ faults.Refused (refused rules.Name n.place) → Follows (IsLemma n ps o (record { scope = s; sorts = ts })) (Err e) t
sorts_differ n ps o k s t ts us b e a w i f q =
    subst (λ (p : Option ℕ). Follows (IsLemma n ps p (record { scope = s; sorts = ts })) (Err e) t) (sym a)
    (subst (λ (d : RuleFault). Follows (IsLemma n ps (Some k) (record { scope = s; sorts = ts })) (Err d) t) (sym q)
    (walking.to_refusal (lemmas.differs (λ h. is_not f (i.1 (subst (AreSame ts) (sym w) h))))))

-- it has the same
pub sorts_agree : (n : Name) (ps : List (List ℕ)) (o : Option ℕ) (k : ℕ) (s t : Scope) (ts us : List Sort) (b : Bool) (r : Result (Unit {0}) RuleFault) → o ≡ Some k → us ≡ sorts_of s k → (IsTrue b ↔ AreSame ts us) → b ≡ true → t ≡ seen_too s n → r ≡ Ok tt → Follows (IsLemma n ps o (record { scope = s; sorts = ts })) r t
sorts_agree n ps o k s t ts us b r a w i f q is =
    subst (λ (p : Option ℕ). Follows (IsLemma n ps p (record { scope = s; sorts = ts })) r t) (sym a)
    (subst (λ (x : Result (Unit {0}) RuleFault). Follows (IsLemma n ps (Some k) (record { scope = s; sorts = ts })) x t) (sym is)
    (subst (λ (u : Scope). Follows (IsLemma n ps (Some k) (record { scope = s; sorts = ts })) (Ok tt) u) (sym q)
    (walking.to_end (lemmas.agreed (subst (AreSame ts) w (i.0 f))))))

-- a parameter is refused
pub parameters_stop : (n : Name) (gs : List GhostParameter) (h : Head) (s u t : Scope) (x : Taken) (e : RuleFault) (r : Result (Unit {0}) RuleFault) → u ≡ begun n h.earlier s → Gives (Err e) x (parameters_behind h.parameters gs (none_taken u)) → r ≡ Err e → Follows (SignatureComes n gs h s) r t
parameters_stop n gs h s u t x e r q g is =
    end_of {t = t} (parameters_behind h.parameters gs (none_taken (begun n h.earlier s))) x
    (gives_too (Err e) x (parameters_behind h.parameters gs (none_taken (begun n h.earlier s))) (subst (λ (v : Scope). Gives (Err e) x (parameters_behind h.parameters gs (none_taken v))) q g)) is

-- the parameters are taken
pub signature_comes : (n : Name) (gs : List GhostParameter) (h : Head) (s u t : Scope) (x : Taken) (r : Result (Unit {0}) RuleFault) → u ≡ begun n h.earlier s → parameters_behind h.parameters gs (none_taken u) ≡ Ok x → Follows (IsLemma n h.parameters h.earlier x) r t → Follows (SignatureComes n gs h s) r t
signature_comes n gs h s u t x r q g f = next_of (subst (λ (v : Scope). parameters_behind h.parameters gs (none_taken v) ≡ Ok x) q g) f
