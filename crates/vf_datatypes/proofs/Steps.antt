-- How a walk goes on, and where it stops.
use Rattle.std.proofs.Common.{◌≡◌, ℕ, List, [], Option, Some, None, Result, Ok, Err, length, sym, ap, subst, ◌∙◌}
use Rattle.vf_base.specs.declared.refusal.Refusal.{Refusal}
use Rattle.vf_base.specs.declared.refusal.RuleFault.{RuleFault}
use Rattle.vf_base.specs.declared.refusal.RuleFault.TheVariants as faults
use Rattle.vf_sorts.specs.Sorts.{Sort}
use Rattle.vf_declared.specs.declared.declaration.GhostDeclaration.TheVariants as ghosts
use Rattle.vf_declared.specs.declared.scope.Scope.{Scope}
use Rattle.vf_syntax.specs.declared.item.Constructor.{Constructor as Written}
use Rattle.vf_syntax.specs.declared.written.Name.{Name}
use Rattle.vf_sorting.specs.Answers.{Tells}
use Rattle.vf_datatypes.specs.declared.own.Own.{Own}
use Rattle.vf_datatypes.specs.declared.stated.Stated.{Stated}
use Rattle.vf_datatypes.specs.Arguments.{sorts_within}
use Rattle.vf_declared.specs.Writing.{with_ghost}
use Rattle.vf_datatypes.specs.Datatypes.{begun, body_behind, constructor_behind, datatype_behind, own, with_constructor, with_next}
use Rattle.vf_datatypes.specs.NewNames.{name_refusal, parameters_behind}
use Rattle.vf_datatypes.specs.Walking.{Gives, behind, unless}

-- what comes next is what counts, where there was no refusal
pub go : {A B : Type 0} (f : A → Result B Refusal) (w : Result A Refusal) (a : A) (r : Result (Unit {0}) RuleFault) (s : B) → w ≡ Ok a → Gives r s (f a) → Gives r s (behind f w)
go f w a r s e h = subst (λ v. Gives r s (behind f v)) (sym e) h

-- a refusal is that of the whole
pub stop : {A B : Type 0} (f : A → Result B Refusal) (w : Result A Refusal) (e : RuleFault) (s : A) (t : B) → Gives (Err e) s w → Gives (Err e) t (behind f w)
stop f w (faults.Refused x) s t h = ap (behind f) h
stop f w faults.Memory s t h = tt

-- the same of an answer's refusal
pub stop_told : {A B : Type 0} (f : A → Result B Refusal) (w : Result A Refusal) (e : RuleFault) (t : B) → Tells (λ r. w ≡ Err r) e → Gives (Err e) t (behind f w)
stop_told f w (faults.Refused x) t h = ap (behind f) h
stop_told f w faults.Memory t h = tt

-- want of memory is free
pub out_of_memory : {A : Type 0} (e : RuleFault) (t : A) (w : Result A Refusal) → e ≡ faults.Memory → Gives (Err e) t w
out_of_memory e t w is = subst (λ d. Gives (Err d) t w) (sym is) tt

-- a refusal in front is that of the whole
pub refused_first : {A : Type 0} (o : Option Refusal) (x : Refusal) (e : RuleFault) (t : A) (w : Result A Refusal) → o ≡ Some x → e ≡ faults.Refused x → Gives (Err e) t (unless o w)
refused_first o x e t w h is = subst (λ d. Gives (Err d) t (unless o w)) (sym is) (ap (λ q. unless q w) h)

-- there is none in front
pub passed : {A : Type 0} (o : Option Refusal) (r : Result (Unit {0}) RuleFault) (t : A) (w : Result A Refusal) → o ≡ None → Gives r t w → Gives r t (unless o w)
passed o r t w h g = subst (λ q. Gives r t (unless q w)) (sym h) g

-- the sorts of a constructor's arguments are refused
pub sorts_stop : (d : Stated) (o : Own) (c : Written) (s u t : Scope) (e : RuleFault) → name_refusal s c.name ≡ None → u ≡ with_next s c.name → Tells (λ r. sorts_within u d o c.arguments ≡ Err r) e → Gives (Err e) t (constructor_behind d o c s)
sorts_stop d o c s u t e n q h =
    passed (name_refusal s c.name) (Err e) t (behind (with_constructor o.number (with_next s c.name)) (sorts_within (with_next s c.name) d o c.arguments)) n
    (stop_told (with_constructor o.number (with_next s c.name)) (sorts_within (with_next s c.name) d o c.arguments) e t (subst (λ (v : Scope). Tells (λ r. sorts_within v d o c.arguments ≡ Err r) e) q h))

-- a constructor is declared
pub constructor_goes : (d : Stated) (o : Own) (c : Written) (s u t : Scope) (ts : List Sort) (r : Result (Unit {0}) RuleFault) → name_refusal s c.name ≡ None → u ≡ with_next s c.name → sorts_within u d o c.arguments ≡ Ok ts → t ≡ with_ghost u (ghosts.Constructor (record { datatype = o.number; arguments = ts })) → r ≡ Ok tt → Gives r t (constructor_behind d o c s)
constructor_goes d o c s u t ts r n q h z is =
    subst (λ y. Gives y t (constructor_behind d o c s)) (sym is)
    (passed (name_refusal s c.name) (Ok tt) t (behind (with_constructor o.number (with_next s c.name)) (sorts_within (with_next s c.name) d o c.arguments)) n
    (ap (behind (with_constructor o.number (with_next s c.name))) (subst (λ (v : Scope). sorts_within v d o c.arguments ≡ Ok ts) q h)
    ∙ ap Ok (sym (z ∙ ap (λ (v : Scope). with_ghost v (ghosts.Constructor (record { datatype = o.number; arguments = ts }))) q))))

-- the name of a datatype is declared
pub is_begun : (s u v : Scope) (n : Name) (k : ℕ) → u ≡ with_next s n → v ≡ with_ghost u (ghosts.Datatype k) → k ≡ length s.datatypes → v ≡ begun s n
is_begun s u v n k q z e = z ∙ ap (λ (w : Scope). with_ghost w (ghosts.Datatype k)) q ∙ ap (λ i. with_ghost (with_next s n) (ghosts.Datatype i)) e

-- the type parameters of a datatype are refused
pub parameters_stop : (d : Stated) (n : Name) (ns : List Name) (cs : List Written) (s u v t : Scope) (k : ℕ) (e : RuleFault) → name_refusal s n ≡ None → u ≡ with_next s n → v ≡ with_ghost u (ghosts.Datatype k) → k ≡ length s.datatypes → Tells (λ r. parameters_behind v ns [] ≡ Err r) e → Gives (Err e) t (datatype_behind d n ns cs s)
parameters_stop d n ns cs s u v t k e m q z i h =
    passed (name_refusal s n) (Err e) t (behind (λ ps. body_behind d cs (begun s n) (own s n ps)) (parameters_behind (begun s n) ns [])) m
    (stop_told (λ ps. body_behind d cs (begun s n) (own s n ps)) (parameters_behind (begun s n) ns []) e t (subst (λ (w : Scope). Tells (λ r. parameters_behind w ns [] ≡ Err r) e) (is_begun s u v n k q z i) h))

-- the body of a datatype is what counts
pub body_goes : (d : Stated) (n : Name) (ns : List Name) (cs : List Written) (s u v t : Scope) (k : ℕ) (ps : List (List ℕ)) (r : Result (Unit {0}) RuleFault) → name_refusal s n ≡ None → u ≡ with_next s n → v ≡ with_ghost u (ghosts.Datatype k) → k ≡ length s.datatypes → parameters_behind v ns [] ≡ Ok ps → Gives r t (body_behind d cs v (record { place = n.place; number = k; parameters = ps })) → Gives r t (datatype_behind d n ns cs s)
body_goes d n ns cs s u v t k ps r m q z i h g =
    passed (name_refusal s n) r t (behind (λ qs. body_behind d cs (begun s n) (own s n qs)) (parameters_behind (begun s n) ns [])) m
    (go (λ qs. body_behind d cs (begun s n) (own s n qs)) (parameters_behind (begun s n) ns []) ps r t
    (subst (λ (w : Scope). parameters_behind w ns [] ≡ Ok ps) (is_begun s u v n k q z i) h)
    (subst (λ (w : Scope). Gives r t (body_behind d cs w (own s n ps))) (is_begun s u v n k q z i) (subst (λ j. Gives r t (body_behind d cs v (record { place = n.place; number = j; parameters = ps }))) i g)))
