-- Shares that are spelled are read.
use Rattle.std.proofs.Common.{◌≡◌, ℕ, Bool, true, false, ◌||◌, List, [], ◌∷◌, length, Option, Some, None, refl, sym, subst, ◌∙◌, arith}
use Rattle.std.specs.Prelude.{if◌then◌else◌}
use Rattle.vf_lexer.specs.declared.punctuator.Punctuator.TheVariants as punctuators
use Rattle.vf_lexer.specs.declared.token.Token.{Token}
use Rattle.vf_syntax.specs.declared.side.Side.TheVariants.{Ghost}
use Rattle.vf_syntax.specs.declared.pattern.Share.{Share}
use Rattle.vf_syntax.specs.declared.pattern.Amount.{Amount}
use Rattle.vf_syntax.specs.declared.pattern.Amount.TheVariants as amounts
use Rattle.vf_syntax.specs.declared.pattern.Factor.{Factor}
use Rattle.vf_syntax.specs.declared.pattern.Factor.TheVariants as factors
use Rattle.vf_syntax.specs.declared.pattern.FactorLink.{FactorLink}
use Rattle.vf_syntax.specs.declared.written.Name.{Name}
use Rattle.vf_syntax.specs.Walks.{◌⨾◌, at, mark, head_has, is_mark}
use Rattle.vf_syntax.specs.Written.{name}
use Rattle.vf_syntax.specs.Lists.{optional, each}
use Rattle.vf_syntax.specs.Assertions.{factor, factor_link, amount, share}
use Rattle.vf_cursor.specs.Parsing.{ok}
use Rattle.vf_parse_expression.proofs.Collected.{Collects}
use Rattle.vf_parse_pattern.specs.Laws.{flat}
use Rattle.vf_parse_pattern.specs.Shares.{number_factor_at, factor_at, is_factor_mark, factor_link_at, factor_step, product_at, amount_at, share_at, any_share_at}
use Rattle.vf_grammar_read.proofs.expressions.Same.{some_same}
use Rattle.vf_grammar_read.proofs.expressions.Fronts.{Class, a_mark, a_name, class_mark, Front, gone, mark_front, identifier_front, number_front}
use Rattle.vf_grammar_read.proofs.expressions.Taken.{here_read, mark_read, mark_here, name_read, number_read}
use Rattle.vf_grammar_read.proofs.expressions.Eaten.{Eats, keeps, eat_then, then_eat, at_keeps, mark_eats, number_eats, name_eats}
use Rattle.vf_grammar_read.proofs.expressions.Items.{Item, items_full}
use Rattle.vf_grammar_read.proofs.terms.Begins.{behind}

pub name_front : (n : Name) (ts rest : List Token) → name Ghost n ts ≡ Some rest → Front Ghost a_name ts
unfolding name
name_front n ts rest h = let g = gone (at n.place ts) h in behind n.place g.1 (identifier_front Ghost n.text g.0 rest g.2)

factor_full : (x : Factor) (ts rest : List Token) → factor x ts ≡ Some rest → factor_at ts ≡ ok x rest
unfolding factor_at number_factor_at
factor_full (factors.Number n ty p) ts rest h =
    let g = gone (at p ts) h in
    let k = behind p g.1 (number_front Ghost n ty g.0 rest g.2) in
    rw (k.names_are, here_read p ts g.0 g.1, number_read Ghost n ty g.0 rest g.2) refl
factor_full (factors.Name n) ts rest h =
    rw ((name_front n ts rest h).names_are, name_read Ghost n ts rest h) refl

pub factor_eats : (x : Factor) → Eats (factor x)
factor_eats (factors.Number n ty p) = then_eat (at_keeps p) (number_eats _ n ty)
factor_eats (factors.Name n) = name_eats _ n

factor_marks : (ts : List Token) → head_has is_factor_mark ts ≡ (head_has (is_mark Ghost punctuators.Star) ts || head_has (is_mark Ghost punctuators.Slash) ts)
unfolding is_factor_mark
factor_marks [] = refl
factor_marks (t ∷ ts) = refl

marks_of : (c : Class) (ts : List Token) → Front Ghost c ts → head_has is_factor_mark ts ≡ (class_mark c punctuators.Star || class_mark c punctuators.Slash)
marks_of c ts f = factor_marks ts ∙ (λ i. f.marks_are punctuators.Star i || f.marks_are punctuators.Slash i)

-- a link, by whether it divides
link_walk : (b : Bool) (f : Factor) (ts rest : List Token) → (mark Ghost (if b then punctuators.Slash else punctuators.Star) ⨾ factor f) ts ≡ Some rest → factor_link_at ts ≡ ok (record { divides = b; factor = f }) rest
unfolding factor_link_at
link_walk true f ts rest h =
    let m = gone (mark Ghost punctuators.Slash ts) h in
    let k = mark_front Ghost punctuators.Slash ts m.0 m.1 in
    rw (k.marks_are punctuators.Slash, (mark_read Ghost _ ts m.0 m.1).1, factor_full f m.0 rest m.2) refl
link_walk false f ts rest h =
    let m = gone (mark Ghost punctuators.Star ts) h in
    let k = mark_front Ghost punctuators.Star ts m.0 m.1 in
    rw (k.marks_are punctuators.Slash, (mark_read Ghost _ ts m.0 m.1).1, factor_full f m.0 rest m.2) refl

link_heads : (b : Bool) (f : Factor) (ts rest : List Token) → (mark Ghost (if b then punctuators.Slash else punctuators.Star) ⨾ factor f) ts ≡ Some rest → head_has is_factor_mark ts ≡ true
link_heads true f ts rest h = let m = gone (mark Ghost punctuators.Slash ts) h in marks_of _ ts (mark_front Ghost punctuators.Slash ts m.0 m.1)
link_heads false f ts rest h = let m = gone (mark Ghost punctuators.Star ts) h in marks_of _ ts (mark_front Ghost punctuators.Star ts m.0 m.1)

link_item : Item factor_link flat 0 (λ ts. Unit {0}) is_factor_mark factor_link_at
unfolding factor_link
link_item = record {
  full = λ x ts rest h deep u. link_walk x.divides x.factor ts rest h;
  heads = λ x ts rest h. link_heads x.divides x.factor ts rest h;
  fine = λ x ts rest h. tt;
  eats = λ x. eat_then (mark_eats Ghost _) (keeps (factor_eats x.factor));
}

none_deep : List FactorLink → ℕ
none_deep xs = 0

links_collect : Collects factor_link flat (each factor_link) none_deep
unfolding none_deep
links_collect = record { nothing_walk = λ ts. refl; item_walk = λ x xs ts. refl; nothing_deep = refl; item_deep = λ x xs. refl }

product_full : (f : Factor) (xs : List FactorLink) (ts rest : List Token) → (factor f ⨾ each factor_link xs) ts ≡ Some rest → head_has is_factor_mark rest ≡ false → product_at ts ≡ ok (amounts.Product f xs) rest
unfolding product_at factor_step none_deep
product_full f xs ts rest h stop =
    let g = gone (factor f ts) h in
    let others = items_full links_collect link_item (length g.0) xs [] g.0 rest g.2 (omega arith) tt stop (omega arith) in
    rw (factor_full f ts g.0 g.1, others) refl

factor_front : (f : Factor) (ts rest : List Token) → factor f ts ≡ Some rest → head_has (is_mark Ghost punctuators.Question) ts ≡ false
factor_front (factors.Number n ty p) ts rest h = let g = gone (at p ts) h in (behind p g.1 (number_front Ghost n ty g.0 rest g.2)).marks_are punctuators.Question
factor_front (factors.Name n) ts rest h = (name_front n ts rest h).marks_are punctuators.Question

amount_full : (x : Amount) (ts rest : List Token) → amount x ts ≡ Some rest → head_has is_factor_mark rest ≡ false → amount_at ts ≡ ok x rest
unfolding amount_at
amount_full (amounts.Binds p n) ts rest h stop =
    let g = gone (at p ts) h in
    let m = gone (mark Ghost punctuators.Question g.0) g.2 in
    let k = behind p g.1 (mark_front Ghost punctuators.Question g.0 m.0 m.1) in
    rw (k.marks_are punctuators.Question, mark_here Ghost _ p ts g.0 m.0 g.1 m.1, name_read Ghost n m.0 rest m.2) refl
amount_full (amounts.Product f xs) ts rest h stop =
    let g = gone (factor f ts) h in
    rw (factor_front f ts g.0 g.1) (product_full f xs ts rest h stop)

pub share_front : (x : Share) (ts rest : List Token) → share x ts ≡ Some rest → Front Ghost (a_mark punctuators.OpenBracket) ts
unfolding share
share_front x ts rest h =
    let g = gone (at x.place ts) h in
    let m = gone (mark Ghost punctuators.OpenBracket g.0) g.2 in
    behind x.place g.1 (mark_front Ghost punctuators.OpenBracket g.0 m.0 m.1)

pub share_full : (x : Share) (ts rest : List Token) → share x ts ≡ Some rest → share_at ts ≡ ok x rest
unfolding share share_at
share_full x ts rest h =
    let g = gone (at x.place ts) h in
    let m = gone (mark Ghost punctuators.OpenBracket g.0) g.2 in
    let a = gone (amount x.amount m.0) m.2 in
    let z = mark_front Ghost punctuators.CloseBracket a.0 rest a.2 in
    rw (mark_here Ghost _ x.place ts g.0 m.0 g.1 m.1, amount_full x.amount m.0 a.0 a.1 (marks_of _ a.0 z), (mark_read Ghost _ a.0 rest a.2).1) refl

pub any_share_full : (x : Option Share) (ts rest : List Token) → optional share x ts ≡ Some rest → head_has (is_mark Ghost punctuators.OpenBracket) rest ≡ false → any_share_at ts ≡ ok x rest
unfolding any_share_at
any_share_full None ts rest h stop =
    let same : ts ≡ rest = some_same h in
    rw (subst (λ us. head_has (is_mark Ghost punctuators.OpenBracket) us ≡ false) (sym same) stop) (λ i. ok None (same i))
any_share_full (Some x) ts rest h stop =
    rw ((share_front x ts rest h).marks_are punctuators.OpenBracket, share_full x ts rest h) refl
