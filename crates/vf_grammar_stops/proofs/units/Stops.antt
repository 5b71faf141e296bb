-- Where a token is refused, no item and no unit could go on.
use Rattle.std.proofs.Common.{◌≡◌, ℕ, suc, ◌+◌, ◌-◌, false, List, [], ◌∷◌, ◌++◌, length, Option, Some, None, Result, Ok, Err, refl, sym, subst, ap, ◌∙◌, length-append, arith}
use Rattle.std.specs.List.{slice_get}
use Rattle.vf_base.specs.declared.place.Place.{Place}
use Rattle.vf_lexer.specs.declared.token.Token.{Token}
use Rattle.vf_syntax.specs.declared.side.Grammar.{Grammar}
use Rattle.vf_syntax.specs.declared.side.Grammar.TheVariants.{Plain}
use Rattle.vf_syntax.specs.declared.item.Item.{Item}
use Rattle.vf_syntax.specs.declared.item.Unit.{Unit as FileUnit}
use Rattle.vf_syntax.specs.Units.{item, item_nesting, unit, unit_nesting}
use Rattle.vf_cursor.specs.declared.fault.Fault.{Fault}
use Rattle.vf_cursor.specs.declared.fault.Fault.TheVariants as faults
use Rattle.vf_cursor.specs.Parsing.{Read, Parser, fails_at}
use Rattle.vf_parse_statement.specs.Annotations.{reads_none}
use Rattle.vf_parse_statement.specs.NoGhosts.{no_commands, no_invariants, no_contracts, no_claims, no_items}
use Rattle.vf_parse_item.specs.Parsers.{item_at}
use Rattle.vf_parse_real.specs.declared.fault.ParseFault.{ParseFault}
use Rattle.vf_parse_real.specs.declared.fault.ParseFault.TheVariants as parse_faults
use Rattle.vf_parse_real.specs.Faults.{place_or, place_at, fault_of, Answers}
use Rattle.vf_parse_real.specs.Units.{plain_at, real_tokens}
use Rattle.vf_parse_real.specs.Unsupported.{first_unsupported}
use Rattle.vf_grammar_read.proofs.units.UnitFull.{items_read, plain_annotations, plain_units_read}
use Rattle.vf_grammar_stops.specs.types.Stops.{first, BeginsUpTo}
use Rattle.vf_grammar_stops.proofs.types.Local.{LikeAt, Stopped, Does, fail_like, stops_too}
use Rattle.vf_grammar_stops.proofs.simple_statements.Stops.{apart}
use Rattle.vf_grammar_stops.proofs.statements.StmtAlike.{Alike}
use Rattle.vf_grammar_stops.specs.units.Laws.{NoUnitBegins, AnswersPlain}
use Rattle.vf_grammar_stops.proofs.units.ItemsAlike.{AlikeAnnotations, items_alike, units_alike}

-- what reads nothing stops at once
none_alike : {A : Type 0} → Alike (reads_none {A = A})
none_alike d m le = fail_like

-- without annotations nothing is read of them
plain_alike : AlikeAnnotations reads_none reads_none reads_none fails_at reads_none
plain_alike = record {
  reads_commands = no_commands;
  reads_invariants = no_invariants;
  reads_contracts = no_contracts;
  reads_claims = no_claims;
  reads_items = no_items;
  commands_alike = none_alike;
  invariants_alike = none_alike;
  contracts_alike = none_alike;
  claims_alike = fail_like;
  items_alike = none_alike;
}

pub items_stop : (d : ℕ) (ts other rest : List Token) (k : ℕ) (x : Item) → item_at Plain reads_none reads_none reads_none fails_at reads_none d ts ≡ Err (faults.Syntax k) → BeginsUpTo ts k other → item Plain x other ≡ Some rest → ⊥
items_stop d ts other rest k x e begins h =
    let m = d + item_nesting x in
    let stop = stops_too {b = false} (items_alike Plain reads_none reads_none reads_none fails_at reads_none plain_alike d m (omega arith)) (faults.Syntax k) tt ts other e begins in
    let read = items_read Plain reads_none reads_none reads_none fails_at reads_none plain_annotations m x other rest h (omega arith) in
    apart x rest stop.0 (sym read ∙ stop.1)

pub units_stop : (d : ℕ) (ts other : List Token) (k : ℕ) (u : FileUnit) → plain_at d ts ≡ Err (faults.Syntax k) → BeginsUpTo ts k other → unit Plain u other ≡ Some [] → ⊥
units_stop d ts other k u e begins h =
    let m = d + unit_nesting u in
    let stop = stops_too {b = false} (units_alike Plain reads_none reads_none reads_none fails_at reads_none plain_alike d m (omega arith)) (faults.Syntax k) tt ts other e begins in
    let read = plain_units_read m u other (record { spelled = h; nested = omega arith }) in
    apart u.items [] stop.0 (sym read ∙ stop.1)

-- the token at a place
behind_used : (used left : List Token) → slice_get (used ++ left) (length (used ++ left) - length left) ≡ first left
behind_used [] [] = refl
behind_used [] (t ∷ left) = let e : suc (length left) - suc (length left) ≡ 0 = omega arith in rw e refl
behind_used (t ∷ used) left =
    let size = length-append used left in
    let e : suc (length (used ++ left)) - length left ≡ suc (length (used ++ left) - length left) = omega (arith, size) in
    rw e (behind_used used left)

place_behind : (ts used left : List Token) (end : Place) (k : ℕ) → ts ≡ used ++ left → length left ≡ k → place_at ts end k ≡ place_or end (first left)
place_behind ts used left end k parts count =
    rw (parts, sym count) (ap (place_or end) (behind_used used left))

-- where a parser of units refuses a token, no unit begins
abbrev UnitsStop : Grammar → Parser (List Item) → Type 0
UnitsStop g q = (ts other : List Token) (k : ℕ) (u : FileUnit) → q ts ≡ Err (faults.Syntax k) → BeginsUpTo ts k other → unit g u other ≡ Some [] → ⊥

-- so at the place of the token
at_place : (g : Grammar) (q : Parser (List Item)) → Does false q q → UnitsStop g q → (ts : List Token) (end : Place) (k : ℕ) → q ts ≡ Err (faults.Syntax k) → NoUnitBegins g ts end (place_at ts end k)
at_place g q hq stop ts end k e =
    let like : LikeAt false q ts (Err (faults.Syntax k)) = subst (λ (r : Read (List Item)). LikeAt false q ts r) e (hq.run ts) in
    let v : Stopped q ts (faults.Syntax k) = like tt in
    record {
      used = v.used;
      left = v.rest;
      parts = v.parts;
      place_is = place_behind ts v.used v.rest end k v.parts v.left;
      none_begins = λ others u same h. stop ts (v.used ++ others) k u e (record { used = v.used; left = v.rest; others = others; parts = v.parts; count = v.left; other_parts = refl; alike = same }) h;
    }

at_fault : (g : Grammar) (q : Parser (List Item)) → Does false q q → UnitsStop g q → (ts : List Token) (end p : Place) (f : Fault) → q ts ≡ Err f → parse_faults.Syntax p ≡ fault_of ts end f → NoUnitBegins g ts end p
at_fault g q hq stop ts end p (faults.Syntax k) e h = let same : p ≡ place_at ts end k = cc in subst (λ z. NoUnitBegins g ts end z) (sym same) (at_place g q hq stop ts end k e)
at_fault g q hq stop ts end p (faults.Depth k) e h = absurd cc

-- so where an answer is what a parser of units comes to
pub answer_stops : (g : Grammar) (q : Parser (List Item)) → Does false q q → UnitsStop g q → (result : Result FileUnit ParseFault) (end p : Place) (ts : List Token) → Answers result end ts (q ts) → result ≡ Err (parse_faults.Syntax p) → NoUnitBegins g ts end p
answer_stops g q hq stop (Ok u) end p ts a e = absurd cc
answer_stops g q hq stop (Err parse_faults.Memory) end p ts a e = absurd cc
answer_stops g q hq stop (Err (parse_faults.Unsupported z)) end p ts a e = absurd cc
answer_stops g q hq stop (Err (parse_faults.Depth z)) end p ts a e = absurd cc
answer_stops g q hq stop (Err (parse_faults.Syntax z)) end p ts a e =
    let same : z ≡ p = cc in
    subst (λ y. NoUnitBegins g ts end y) same (at_fault g q hq stop ts end z a.0 a.1 a.2)

two_answers : {Y : Type 0} (r : Result FileUnit ParseFault) (p q : Place) → r ≡ Err (parse_faults.Unsupported p) → r ≡ Err (parse_faults.Syntax q) → Y
two_answers r p q h e = absurd cc

-- a place is refused only where nothing is unsupported
pub supported : (result : Result FileUnit ParseFault) (p : Place) (tokens : List Token) → ((q : Place) → first_unsupported tokens ≡ Some q → result ≡ Err (parse_faults.Unsupported q)) → result ≡ Err (parse_faults.Syntax p) → (o : Option Place) → first_unsupported tokens ≡ o → first_unsupported tokens ≡ None
supported result p tokens a e None h = h
supported result p tokens a e (Some q) h = two_answers result q p (a q h) e

plain_like : Does false (plain_at 128) (plain_at 128)
plain_like = units_alike Plain reads_none reads_none reads_none fails_at reads_none plain_alike 128 128 (omega arith)

pub refused_units : (result : Result FileUnit ParseFault) (end p : Place) (tokens : List Token) → AnswersPlain result end tokens → result ≡ Err (parse_faults.Syntax p) → (first_unsupported tokens ≡ None) × NoUnitBegins Plain (real_tokens tokens) end p
refused_units result end p tokens a e =
    let none = supported result p tokens a.unsupported e (first_unsupported tokens) refl in
    (none, answer_stops Plain (plain_at 128) plain_like (units_stop 128) result end p (real_tokens tokens) (a.read none) e)
