-- No call strays exactly where each passes a component.
use Rattle.std.proofs.Common.{◌≡◌, ◌↔◌, Bool, true, false, Option, Some, None, refl}
use Rattle.std.specs.Prelude.{◌&&◌, not, if◌then◌else◌, IsTrue}
use Rattle.std.specs.Bool.{Decides}
use Rattle.std.specs.Option.{option_or}
use Rattle.std.specs.Str.{bytes_eq}
use Rattle.std.proofs.lemmas.Slice.Eq.{bytes_eq-Decides}
use Rattle.vf_base.specs.declared.place.Place.{Place}
use Rattle.vf_syntax.specs.GhostExprTree.{GhostExprTree, GhostExprTrees, no_ghost_expr, more_ghost_expr, GhostLinkTree, GhostLinkTrees, no_ghost_link, more_ghost_link}
use Rattle.vf_syntax.specs.GhostExprTree as tree
use Rattle.vf_fixpoint.specs.Calls.{Recursion, passes, strays, first_stray, first_stray_of, first_stray_behind, first_stray_in, GoesDown, AllGoDown, LinksGoDown, LinkGoesDown, StraysAreCalls}

-- nothing is chosen exactly where neither is there
neither : {A : Type 0} (P Q : Type 0) (x y : Option A) → ((x ≡ None) ↔ P) → ((y ≡ None) ↔ Q) → (option_or x y ≡ None) ↔ (P × Q)
neither P Q None y p q = (λ e. (p.0 refl, q.0 e), λ h. q.1 h.1)
neither P Q (Some a) y p q = (λ e. absurd cc, λ h. let n = p.1 h.0 in absurd cc)

three : {A : Type 0} (P Q R : Type 0) (x y z : Option A) → ((x ≡ None) ↔ P) → ((y ≡ None) ↔ Q) → ((z ≡ None) ↔ R) → (option_or x (option_or y z) ≡ None) ↔ (P × Q × R)
three P Q R x y z p q r =
    let a = neither P (Q × R) x (option_or y z) p (neither Q R y z q r) in
    (λ e. let h = a.0 e in (h.0, h.1.0, h.1.1), λ h. a.1 (h.0, (h.1, h.2)))

-- an application strays exactly where it is a call that does not pass a component
strayed : (same passed : Bool) (P : Type 0) (p : Place) → Decides same P → ((if same && not passed then Some p else None) ≡ None) ↔ (P → IsTrue passed)
strayed true true P p d = (λ e h. refl, λ h. refl)
strayed true false P p d = (λ e. absurd cc, λ h. let n : false ≡ true = h (d.0 refl) in absurd cc)
strayed false passed P p d = (λ e h. let n : false ≡ true = d.1 h in absurd cc, λ h. refl)

mutual
  strays_told : (r : Recursion) (e : GhostExprTree) → (first_stray r e ≡ None) ↔ GoesDown r e
  strays_told r (tree.number p a b) = (λ e. tt, λ h. refl)
  strays_told r (tree.true_ p) = (λ e. tt, λ h. refl)
  strays_told r (tree.false_ p) = (λ e. tt, λ h. refl)
  strays_told r (tree.result p) = (λ e. tt, λ h. refl)
  strays_told r (tree.this_ p) = (λ e. tt, λ h. refl)
  strays_told r (tree.current_thread p) = (λ e. tt, λ h. refl)
  strays_told r (tree.name_ p x) = (λ e. tt, λ h. refl)
  strays_told r (tree.application p x xs) =
      neither (AllGoDown r xs) (x ≡ r.name → IsTrue (passes r.components r.parameter xs)) (first_stray_of r xs) (if strays r x xs then Some p else None)
      (all_told r xs) (strayed (bytes_eq x r.name) (passes r.components r.parameter xs) (x ≡ r.name) p (bytes_eq-Decides x r.name))
  strays_told r (tree.parenthesized p a) = strays_told r a
  strays_told r (tree.conditional p a b c) = three (GoesDown r a) (GoesDown r b) (GoesDown r c) (first_stray r a) (first_stray r b) (first_stray r c) (strays_told r a) (strays_told r b) (strays_told r c)
  strays_told r (tree.unary p o a) = strays_told r a
  strays_told r (tree.chain p v a ls) = neither (GoesDown r a) (LinksGoDown r ls) (first_stray r a) (first_stray_in r ls) (strays_told r a) (links_told r ls)

  all_told : (r : Recursion) (xs : GhostExprTrees) → (first_stray_of r xs ≡ None) ↔ AllGoDown r xs
  all_told r no_ghost_expr = (λ e. tt, λ h. refl)
  all_told r (more_ghost_expr x xs) = neither (GoesDown r x) (AllGoDown r xs) (first_stray r x) (first_stray_of r xs) (strays_told r x) (all_told r xs)

  links_told : (r : Recursion) (ls : GhostLinkTrees) → (first_stray_in r ls ≡ None) ↔ LinksGoDown r ls
  links_told r no_ghost_link = (λ e. tt, λ h. refl)
  links_told r (more_ghost_link l ls) = neither (LinkGoesDown r l) (LinksGoDown r ls) (first_stray_behind r l) (first_stray_in r ls) (link_told r l) (links_told r ls)

  link_told : (r : Recursion) (l : GhostLinkTree) → (first_stray_behind r l ≡ None) ↔ LinkGoesDown r l
  link_told r (tree.ghost_link p o a) = strays_told r a

pub strays_are_calls : StraysAreCalls
strays_are_calls = strays_told
