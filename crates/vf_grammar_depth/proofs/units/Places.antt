-- The place of a token that was too deep.
use Rattle.std.proofs.Common.{◌≡◌, ℕ, zero, suc, ◌+◌, ◌-◌, ◌≤◌, List, [], ◌∷◌, ◌++◌, length, Option, Some, None, Result, Ok, Err, refl, sym, subst, ap, arith}
use Rattle.std.specs.List.{slice_get}
use Rattle.vf_base.specs.declared.place.Place.{Place}
use Rattle.vf_lexer.specs.declared.token.Token.{Token}
use Rattle.vf_syntax.specs.declared.side.Grammar.TheVariants.{Plain}
use Rattle.vf_syntax.specs.declared.item.Item.{Item}
use Rattle.vf_syntax.specs.declared.item.Unit.{Unit as FileUnit}
use Rattle.vf_cursor.specs.declared.fault.Fault.{Fault}
use Rattle.vf_cursor.specs.declared.fault.Fault.TheVariants as faults
use Rattle.vf_cursor.specs.Parsing.{Read, Parser, fails_at}
use Rattle.vf_parse_statement.specs.Annotations.{reads_none}
use Rattle.vf_parse_item.specs.Parsers.{item_at}
use Rattle.vf_parse_real.specs.declared.fault.ParseFault.{ParseFault}
use Rattle.vf_parse_real.specs.declared.fault.ParseFault.TheVariants as parse_faults
use Rattle.vf_parse_real.specs.Faults.{place_at, fault_of, Answers}
use Rattle.vf_parse_real.specs.Units.{plain_at}
use Rattle.vf_parse_real.specs.Unsupported.{first_unsupported}
use Rattle.vf_grammar_depth.specs.expressions.Deep.{GoesPast, Deepens}
use Rattle.vf_grammar_depth.proofs.expressions.Deeper.{fail_deep}
use Rattle.vf_grammar_depth.proofs.expressions.Answers.{Rises, at_most, answers_deepen}
use Rattle.vf_grammar_depth.proofs.statements.Whole.{rises_each, nothing_rises}
use Rattle.vf_grammar_depth.specs.units.Deep.{GoesOnWith}
use Rattle.vf_grammar_depth.proofs.units.Items.{RisingAnnotations, items_rise, units_rise}

-- without annotations nothing is read of them
plain_annotations : RisingAnnotations 0 reads_none reads_none reads_none fails_at reads_none
plain_annotations = record { commands = nothing_rises 0; invariants = nothing_rises 0; contracts = nothing_rises 0; claims = fail_deep; ghosts = nothing_rises 0 }

-- items without annotations
pub plain_items_rise : Rises (item_at Plain reads_none reads_none reads_none fails_at reads_none)
plain_items_rise = rises_each (item_at Plain reads_none reads_none reads_none fails_at reads_none) (items_rise 0 Plain reads_none reads_none reads_none fails_at reads_none plain_annotations)

-- units without annotations
pub plain_units_rise : Rises plain_at
plain_units_rise = rises_each plain_at (units_rise 0 Plain reads_none reads_none reads_none fails_at reads_none plain_annotations)

-- a token with those in front of it and behind it
pub record Split (ts : List Token) (k n : ℕ) : Type 0 where
  pub used : List Token
  pub next : Token
  pub behind : List Token
  pub parts : ts ≡ used ++ next ∷ behind
  pub count : length behind ≡ n
  pub seen : slice_get ts k ≡ Some next

pub split : (k n : ℕ) (ts : List Token) → length ts ≡ k + suc n → Split ts k n
split zero n [] e = absurd (omega (arith, e))
split zero n (t ∷ ts) e = record { used = []; next = t; behind = ts; parts = refl; count = omega (arith, e); seen = refl }
split (suc k) n [] e = absurd (omega (arith, e))
split (suc k) n (t ∷ ts) e =
    let s = split k n ts (omega (arith, e)) in
    record { used = t ∷ s.used; next = s.next; behind = s.behind; parts = ap (λ (l : List Token). t ∷ l) (s.parts); count = s.count; seen = s.seen }

pub place_seen : (ts : List Token) (end : Place) (k n : ℕ) (t : Token) → length ts ≡ k + suc n → slice_get ts k ≡ Some t → place_at ts end (suc n) ≡ t.place
place_seen ts end k n t e h =
    let back : length ts - suc n ≡ k = omega (arith, e) in
    rw (back, h) refl

pub some_left : {A : Type 0} (n : ℕ) (r : Read A) → GoesPast n r → 1 ≤ n
some_left n (Ok x) h = omega (arith, h)
some_left n (Err (faults.Syntax k)) h = omega (arith, h)
some_left n (Err (faults.Depth k)) h = omega (arith, h)

pub deepened : {A : Type 0} (n : ℕ) (r s : Read A) → r ≡ Err (faults.Depth n) → Deepens r s → GoesPast n s
deepened {A = A} n r s e h = subst (λ (z : Read A). Deepens z s) e h

pub goes_on : (p : ℕ → Parser (List Item)) → Rises p → (d : ℕ) (ts : List Token) (end : Place) (n : ℕ) → p d ts ≡ Err (faults.Depth n) → GoesOnWith p d ts (place_at ts end n)
goes_on p h d ts end zero e =
    let one = answers_deepen p h d (suc d) ts (omega arith) in
    absurd (omega (arith, some_left zero (p (suc d) ts) (deepened zero (p d ts) (p (suc d) ts) e (one.0))))
goes_on p h d ts end (suc n) e =
    let most = at_most p h d ts (suc n) e in
    let k = length ts - suc n in
    let size : length ts ≡ k + suc n = omega (arith, most) in
    let s = split k n ts size in
    record {
      used = s.used;
      next = s.next;
      behind = s.behind;
      parts = s.parts;
      place_is = place_seen ts end k n s.next size s.seen;
      past = λ m lt. subst (λ z. GoesPast (suc z) (p m ts)) (sym s.count) (deepened (suc n) (p d ts) (p m ts) e ((answers_deepen p h d m ts lt).0));
      decided = λ m lt less. (answers_deepen p h d m ts lt).1 less;
    }

-- what an answer that a place is too deep comes from
by_fault : (C : Place → Type 0) (ts : List Token) (end q : Place) (x : Fault) → ((n : ℕ) → x ≡ faults.Depth n → C (place_at ts end n)) → parse_faults.Depth q ≡ fault_of ts end x → C q
by_fault C ts end q (faults.Syntax n) h f = absurd cc
by_fault C ts end q (faults.Depth n) h f = let same : place_at ts end n ≡ q = cc in subst C same (h n refl)

answer_deep : (C : Place → Type 0) (r : Read (List Item)) (ts : List Token) (end q : Place) (result : Result FileUnit ParseFault) → ((n : ℕ) → r ≡ Err (faults.Depth n) → C (place_at ts end n)) → Answers result end ts r → result ≡ Err (parse_faults.Depth q) → C q
answer_deep C r ts end q result h a e =
    let b : Answers (Err (parse_faults.Depth q)) end ts r = subst (λ z. Answers z end ts r) e a in
    by_fault C ts end q b.0 (λ n same. h n (subst (λ (z : Fault). r ≡ Err z) same b.1)) b.2

unsupported_apart : {B : Type 0} (result : Result FileUnit ParseFault) (p q : Place) → result ≡ Err (parse_faults.Unsupported q) → result ≡ Err (parse_faults.Depth p) → B
unsupported_apart result p q e f = absurd cc

none_unsupported : (result : Result FileUnit ParseFault) (p : Place) (o : Option Place) → ((q : Place) → o ≡ Some q → result ≡ Err (parse_faults.Unsupported q)) → result ≡ Err (parse_faults.Depth p) → o ≡ None
none_unsupported result p None h e = refl
none_unsupported result p (Some q) h e = unsupported_apart result p q (h q refl) e

-- what holds of each place that reading finds too deep holds of one that is answered so of the tokens of a file
pub file_deep : (C : Place → Type 0) (r : Read (List Item)) (ts tokens : List Token) (end q : Place) (result : Result FileUnit ParseFault) → ((n : ℕ) → r ≡ Err (faults.Depth n) → C (place_at ts end n))
    → ((z : Place) → first_unsupported tokens ≡ Some z → result ≡ Err (parse_faults.Unsupported z)) → (first_unsupported tokens ≡ None → Answers result end ts r) → result ≡ Err (parse_faults.Depth q) → (first_unsupported tokens ≡ None) × C q
file_deep C r ts tokens end q result h bad read e =
    let none = none_unsupported result q (first_unsupported tokens) bad e in
    (none, answer_deep C r ts end q result h (read none) e)
