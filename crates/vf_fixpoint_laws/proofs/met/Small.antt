-- Components of what a body switches over are smaller.
use Rattle.std.proofs.Common.{◌≡◌, ℕ, zero, suc, ◌≤◌, arith}
use Rattle.vf_model.specs.Values.{Value, Values, none, more}
use Rattle.vf_meaning.specs.Ghost.{Numbered, Result, This, CurrentThread}
use Rattle.vf_meaning.specs.Valuations.{appended, count, of_arguments, size, sizes, value_at}
use Rattle.vf_meaning.specs.GhostValues.{Interpretation}
use Rattle.vf_closure.specs.Terms.{Kind, Integer, Other, Head, Symbol, Number, Truth, Null, Function, Constructor, Fixpoint, Claims, Predicate, Share, Sum, Plus, Arithmetic, Compare, Not, And, Or, Choose, PointerSum, Terms, term, no_terms, and_term}
use Rattle.vf_closure.specs.Values.{all_values, of_kind, value}
use Rattle.vf_definitions.specs.Unfolded.{term_at}
use Rattle.vf_fixpoint_laws.specs.bodies.Recursion.{IsComponent, IsSymbolBehind}

part_small : (us : Values) (j : ℕ) → size (value_at us j) ≤ sizes us
part_small none j = omega arith
part_small (more u us) zero = omega arith
part_small (more u us) (suc j) = let r = part_small us j in omega (arith, r)

behind_small : (vs us : Values) (j : ℕ) → count vs ≤ j → size (value_at (appended vs us) j) ≤ sizes us
behind_small none us j l = part_small us j
behind_small (more v vs) us zero l = absurd (omega (arith, l))
behind_small (more v vs) us (suc j) l = behind_small vs us j (omega (arith, l))

kind_small : (k : Kind) (v : Value) → size (of_kind k v) ≤ size v
kind_small Integer v = omega arith
kind_small Other v = omega arith

-- the symbol of a name behind the parameters stands for a part
symbol_small : (i : Interpretation) (vs us : Values) (n : ℕ) (h : Head) (ts : Terms) → n ≡ count vs → IsSymbolBehind n h → size (value i (of_arguments (appended vs us)) (term h ts)) ≤ sizes us
symbol_small i vs us n (Symbol k (Numbered j)) ts e b =
    let p = kind_small k (value_at (appended vs us) j) in
    let q = behind_small vs us j (let l : n ≤ j = b in omega (arith, l, e)) in
    omega (arith, p, q)
symbol_small i vs us n (Symbol k Result) ts e b = absurd b
symbol_small i vs us n (Symbol k This) ts e b = absurd b
symbol_small i vs us n (Symbol k CurrentThread) ts e b = absurd b
symbol_small i vs us n (Number z) ts e b = absurd b
symbol_small i vs us n (Truth z) ts e b = absurd b
symbol_small i vs us n Null ts e b = absurd b
symbol_small i vs us n (Function f) ts e b = absurd b
symbol_small i vs us n (Constructor c) ts e b = absurd b
symbol_small i vs us n (Fixpoint k f) ts e b = absurd b
symbol_small i vs us n (Claims t) ts e b = absurd b
symbol_small i vs us n (Predicate p) ts e b = absurd b
symbol_small i vs us n (Share x) ts e b = absurd b
symbol_small i vs us n (Sum ks) ts e b = absurd b
symbol_small i vs us n Plus ts e b = absurd b
symbol_small i vs us n (Arithmetic o) ts e b = absurd b
symbol_small i vs us n (Compare o) ts e b = absurd b
symbol_small i vs us n Not ts e b = absurd b
symbol_small i vs us n And ts e b = absurd b
symbol_small i vs us n Or ts e b = absurd b
symbol_small i vs us n (Choose k) ts e b = absurd b
symbol_small i vs us n PointerSum ts e b = absurd b

-- the argument at a place is small where it is a component
pub component_small : (i : Interpretation) (vs us : Values) (n : ℕ) (ts : Terms) (p : ℕ) → n ≡ count vs → IsComponent n (term_at ts p) → size (value_at (all_values i (of_arguments (appended vs us)) ts) p) ≤ sizes us
component_small i vs us n no_terms p e b = absurd b
component_small i vs us n (and_term (term h hs) ts) zero e b = symbol_small i vs us n h hs e b
component_small i vs us n (and_term t ts) (suc p) e b = component_small i vs us n ts p e b
