-- What an answer of the parser says of a unit's items.
use Rattle.std.proofs.Common.{◌≡◌, ◌∙◌, refl, sym, ap, subst, ℕ, List, [], Option, Some, None, Result, Ok, Err, IfOk}
use Rattle.vf_base.specs.declared.memory.Memory.{Memory}
use Rattle.vf_base.specs.declared.place.Place.{Place}
use Rattle.vf_base.specs.declared.rule.Rule.TheVariants.{Syntax, Depth, Unsupported}
use Rattle.vf_base.specs.declared.refusal.Refusal.{Refusal}
use Rattle.vf_lexer.specs.declared.token.Token.{Token}
use Rattle.vf_syntax.specs.declared.item.Item.{Item}
use Rattle.vf_syntax.specs.declared.item.Unit as units
use Rattle.vf_cursor.specs.declared.fault.Fault.{Fault as ReadFault}
use Rattle.vf_cursor.specs.declared.fault.Fault.TheVariants as read_faults
use Rattle.vf_cursor.specs.Parsing.{Read}
use Rattle.vf_parse_real.specs.declared.fault.ParseFault.{ParseFault}
use Rattle.vf_parse_real.specs.declared.fault.ParseFault.TheVariants as parse_faults
use Rattle.vf_parse_real.specs.Faults.{Answers, place_at, fault_of}
use Rattle.vf_parse_real.specs.Unsupported.{first_unsupported}
use Rattle.vf_parse_whole.specs.Wholes.{whole_at}
use Rattle.vf_preproc.specs.UnitText.{Text_of_unit}
use Rattle.vf_module.specs.Parsing.{items_of, items_or, items_unless, refusal_at, refusal_of, refused}

-- the refusal for a fault of the parser that is no want of memory
abbrev pub RefusedAs : ParseFault → Result (List Item) Refusal → Type 0
RefusedAs parse_faults.Memory items = Unit {0}
RefusedAs (parse_faults.Unsupported p) items = items ≡ Err (refusal_at Unsupported p)
RefusedAs (parse_faults.Syntax p) items = items ≡ Err (refusal_at Syntax p)
RefusedAs (parse_faults.Depth p) items = items ≡ Err (refusal_at Depth p)

-- what the parser answers is what the items are
abbrev pub ParsesTo : Result units.Unit ParseFault → Result (List Item) Refusal → Type 0
ParsesTo (Ok u) items = items ≡ Ok u.items
ParsesTo (Err f) items = RefusedAs f items

-- a fault that reading comes to, by its place
refused_by : (f : ParseFault) (end : Place) (ts : List Token) (x : ReadFault) → f ≡ fault_of ts end x → RefusedAs f (Err (refusal_of end ts x))
refused_by parse_faults.Memory end ts x e = tt
refused_by (parse_faults.Unsupported p) end ts (read_faults.Syntax n) e = absurd cc
refused_by (parse_faults.Unsupported p) end ts (read_faults.Depth n) e = absurd cc
refused_by (parse_faults.Syntax p) end ts (read_faults.Syntax n) e = let same : p ≡ place_at ts end n = cc in ap (λ (q : Place). Err (refusal_at Syntax q)) (sym same)
refused_by (parse_faults.Syntax p) end ts (read_faults.Depth n) e = absurd cc
refused_by (parse_faults.Depth p) end ts (read_faults.Syntax n) e = absurd cc
refused_by (parse_faults.Depth p) end ts (read_faults.Depth n) e = let same : p ≡ place_at ts end n = cc in ap (λ (q : Place). Err (refusal_at Depth q)) (sym same)

refused_of : (f : ParseFault) (end : Place) (ts : List Token) (read : Read (List Item)) (x : ReadFault) → read ≡ Err x → f ≡ fault_of ts end x → RefusedAs f (items_or end ts read)
refused_of f end ts read x e h = subst (λ (r : Read (List Item)). RefusedAs f (items_or end ts r)) (sym e) (refused_by f end ts x h)

read_to : (r : Result units.Unit ParseFault) (end : Place) (ts : List Token) (read : Read (List Item)) → Answers r end ts read → ParsesTo r (items_or end ts read)
read_to (Ok u) end ts read e = ap (items_or end ts) e
read_to (Err parse_faults.Memory) end ts read e = tt
read_to (Err (parse_faults.Unsupported p)) end ts read (x, is, h) = refused_of (parse_faults.Unsupported p) end ts read x is h
read_to (Err (parse_faults.Syntax p)) end ts read (x, is, h) = refused_of (parse_faults.Syntax p) end ts read x is h
read_to (Err (parse_faults.Depth p)) end ts read (x, is, h) = refused_of (parse_faults.Depth p) end ts read x is h

by_first : (r : Result units.Unit ParseFault) (end : Place) (ts : List Token) (first : Option Place) → ((p : Place) → first ≡ Some p → r ≡ Err (parse_faults.Unsupported p)) → (first ≡ None → Answers r end ts (whole_at 128 ts)) → ParsesTo r (items_unless end ts first)
by_first r end ts (Some p) unsupported read = subst (λ (x : Result units.Unit ParseFault). ParsesTo x (items_unless end ts (Some p))) (sym (unsupported p refl)) refl
by_first r end ts None unsupported read = read_to r end ts (whole_at 128 ts) (read refl)

-- what the parser answers of a unit's tokens
pub parsed : (r : Result units.Unit ParseFault) (unit : Text_of_unit) → ((p : Place) → first_unsupported unit.tokens ≡ Some p → r ≡ Err (parse_faults.Unsupported p)) → (first_unsupported unit.tokens ≡ None → Answers r unit.end_of_file unit.tokens (whole_at 128 unit.tokens)) → ParsesTo r (items_of unit)
parsed r unit unsupported read = by_first r unit.end_of_file unit.tokens (first_unsupported unit.tokens) unsupported read

-- the same of tokens that come by another name
pub parsed_by : (ts : List Token) (r : Result units.Unit ParseFault) (unit : Text_of_unit) → ts ≡ unit.tokens → ((p : Place) → first_unsupported ts ≡ Some p → r ≡ Err (parse_faults.Unsupported p)) → (first_unsupported ts ≡ None → Answers r unit.end_of_file ts (whole_at 128 ts)) → ParsesTo r (items_of unit)
parsed_by ts r unit same unsupported read = parsed r unit
    (subst (λ (xs : List Token). (p : Place) → first_unsupported xs ≡ Some p → r ≡ Err (parse_faults.Unsupported p)) same unsupported)
    (subst (λ (xs : List Token). first_unsupported xs ≡ None → Answers r unit.end_of_file xs (whole_at 128 xs)) same read)

-- what is answered of tokens that the parser read
pub answers_ok : (unit : Text_of_unit) (u : units.Unit) → ParsesTo (Ok u) (items_of unit) → items_of unit ≡ Ok u.items
answers_ok unit u h = h

-- the refusal for a fault that is no want of memory
pub answers_err : (unit : Text_of_unit) (f : ParseFault) (r : Refusal) → RefusedAs f (items_of unit) → refused f ≡ Some r → items_of unit ≡ Err r
answers_err unit parse_faults.Memory r items e = absurd cc
answers_err unit (parse_faults.Unsupported p) r items e = let same : refusal_at Unsupported p ≡ r = cc in items ∙ ap Err same
answers_err unit (parse_faults.Syntax p) r items e = let same : refusal_at Syntax p ≡ r = cc in items ∙ ap Err same
answers_err unit (parse_faults.Depth p) r items e = let same : refusal_at Depth p ≡ r = cc in items ∙ ap Err same
