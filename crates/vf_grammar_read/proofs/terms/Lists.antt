-- Lists with commas between their items that are spelled are read.
use Rattle.std.proofs.Common.{◌≡◌, ℕ, ◌≤◌, Bool, true, false, List, [], ◌∷◌, length, Option, Some, None, refl, sym, subst, arith}
use Rattle.vf_lexer.specs.declared.punctuator.Punctuator.TheVariants.{Comma}
use Rattle.vf_lexer.specs.declared.token.Token.{Token}
use Rattle.vf_syntax.specs.declared.side.Side.TheVariants.{Ghost}
use Rattle.vf_syntax.specs.Walks.{Walk, goes_on, ◌⨾◌, head_has, is_mark, mark}
use Rattle.vf_syntax.specs.Lists.{each, behind_commas, separated, greatest}
use Rattle.vf_cursor.specs.Parsing.{Parser, ok}
use Rattle.vf_parse_expression.proofs.Collected.{Collects}
use Rattle.vf_parse_term.specs.Pieces.{behind_comma, comma_step, some_at, any_at}
use Rattle.vf_grammar_read.proofs.expressions.Same.{some_same}
use Rattle.vf_grammar_read.proofs.expressions.Fronts.{gone, mark_front}
use Rattle.vf_grammar_read.proofs.expressions.Taken.{mark_read}
use Rattle.vf_grammar_read.proofs.expressions.Eaten.{Keeps, Eats, nothing_keeps, keep_then, keeps, mark_eats, eat_then}
use Rattle.vf_grammar_read.proofs.expressions.Items.{Item, first_fine, items_full}

-- an item that is spelled, nests no deeper than it may, and stands before something that does not go on, is read; a comma does not go on
pub record Listed {A : Type 0} (w : A → Walk) (n : A → ℕ) (d : ℕ) (Fine : List Token → Type 0) (p : Parser A) : Type 0 where
  pub full : (x : A) (ts rest : List Token) → w x ts ≡ Some rest → n x ≤ d → Fine rest → p ts ≡ ok x rest
  pub commas : (ts rest : List Token) → mark Ghost Comma ts ≡ Some rest → Fine ts
  pub eats : (x : A) → Eats (w x)

-- one part and then another, told apart in two ways
pub two_ways : (a : Option (List Token)) (f g : Walk) → goes_on a (f ⨾ g) ≡ goes_on (goes_on a f) g
two_ways None f g = refl
two_ways (Some ts) f g = refl

pub commas_collect : {A : Type 0} (w : A → Walk) (n : A → ℕ) → Collects (λ (x : A) (ts : List Token). goes_on (mark Ghost Comma ts) (w x)) n (behind_commas Ghost w) (greatest n)
commas_collect w n = record {
  nothing_walk = λ ts. refl;
  item_walk = λ x xs ts. two_ways (mark Ghost Comma ts) (w x) (behind_commas Ghost w xs);
  nothing_deep = refl;
  item_deep = λ x xs. refl;
}

comma_item : {A : Type 0} (w : A → Walk) (n : A → ℕ) (d : ℕ) (Fine : List Token → Type 0) (p : Parser A) → Listed w n d Fine p → Item (λ (x : A) (ts : List Token). goes_on (mark Ghost Comma ts) (w x)) n d Fine (is_mark Ghost Comma) (behind_comma p)
unfolding behind_comma
comma_item w n d Fine p h = record {
  full = λ x ts rest e deep f. let g = gone {g = w x} (mark Ghost Comma ts) e in let c = mark_read Ghost Comma ts g.0 g.1 in rw c.1 (h.full x g.0 rest g.2 deep f);
  heads = λ x ts rest e. let g = gone {g = w x} (mark Ghost Comma ts) e in (mark_front Ghost _ ts g.0 g.1).marks_are Comma;
  fine = λ x ts rest e. let g = gone {g = w x} (mark Ghost Comma ts) e in h.commas ts g.0 g.1;
  eats = λ x. eat_then (mark_eats Ghost Comma) (keeps (h.eats x));
}

pub some_full : {A : Type 0} (w : A → Walk) (n : A → ℕ) (d : ℕ) (Fine : List Token → Type 0) (p : Parser A) → Listed w n d Fine p
    → (x : A) (xs : List A) (ts rest : List Token) → separated Ghost w (x ∷ xs) ts ≡ Some rest → greatest n (x ∷ xs) ≤ d → Fine rest → head_has (is_mark Ghost Comma) rest ≡ false → some_at p ts ≡ ok (x ∷ xs) rest
unfolding some_at comma_step
some_full w n d Fine p l x xs ts rest h deep f stop =
    let g = gone {g = behind_commas Ghost w xs} (w x ts) h in
    let c = commas_collect w n in
    let i = comma_item w n d Fine p l in
    let one : p ts ≡ ok x g.0 = l.full x ts g.0 g.1 (omega (arith, deep)) (first_fine c i xs g.0 rest g.2 f) in
    rw one (items_full c i (length g.0) xs (x ∷ []) g.0 rest g.2 (omega (arith, deep)) f stop (omega arith))

pub any_full : {A : Type 0} (ends : Token → Bool) (w : A → Walk) (n : A → ℕ) (d : ℕ) (Fine : List Token → Type 0) (p : Parser A) → Listed w n d Fine p → ((x : A) (ts rest : List Token) → w x ts ≡ Some rest → head_has ends ts ≡ false)
    → (xs : List A) (ts rest : List Token) → separated Ghost w xs ts ≡ Some rest → greatest n xs ≤ d → Fine rest → head_has (is_mark Ghost Comma) rest ≡ false → head_has ends rest ≡ true → any_at ends p ts ≡ ok xs rest
unfolding any_at
any_full ends w n d Fine p l begins [] ts rest h deep f stop closed =
    let same : ts ≡ rest = some_same h in
    rw (subst (λ us. head_has ends us ≡ true) (sym same) closed) (λ i. ok [] (same i))
any_full ends w n d Fine p l begins (x ∷ xs) ts rest h deep f stop closed =
    let g = gone {g = behind_commas Ghost w xs} (w x ts) h in
    rw (begins x ts g.0 g.1) (some_full w n d Fine p l x xs ts rest h deep f stop)

pub behind_commas_keep : {A : Type 0} (w : A → Walk) → ((x : A) → Eats (w x)) → (xs : List A) → Keeps (behind_commas Ghost w xs)
behind_commas_keep w h [] = nothing_keeps
behind_commas_keep w h (x ∷ xs) = keep_then (keeps (mark_eats _ _)) (keep_then (keeps (h x)) (behind_commas_keep w h xs))

pub separated_keep : {A : Type 0} (w : A → Walk) → ((x : A) → Eats (w x)) → (xs : List A) → Keeps (separated Ghost w xs)
separated_keep w h [] = nothing_keeps
separated_keep w h (x ∷ xs) = keep_then (keeps (h x)) (behind_commas_keep w h xs)

pub each_keep : {A : Type 0} (w : A → Walk) → ((x : A) → Eats (w x)) → (xs : List A) → Keeps (each w xs)
each_keep w h [] = nothing_keeps
each_keep w h (x ∷ xs) = keep_then (keeps (h x)) (each_keep w h xs)
