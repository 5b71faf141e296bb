-- A token that is named as unsupported is the first that is.
use Rattle.std.proofs.Common.{◌≡◌, refl, sym, ap, subst, ◌∙◌, List, Option, Some, None, Result, Ok, Err}
use Rattle.vf_base.specs.declared.place.Place.{Place}
use Rattle.vf_lexer.specs.declared.token.Token.{Token}
use Rattle.vf_syntax.specs.declared.item.Item.{Item}
use Rattle.vf_syntax.specs.declared.item.Unit.{Unit as FileUnit}
use Rattle.vf_cursor.specs.declared.fault.Fault.{Fault}
use Rattle.vf_cursor.specs.declared.fault.Fault.TheVariants as faults
use Rattle.vf_cursor.specs.Parsing.{Read}
use Rattle.vf_parse_real.specs.declared.fault.ParseFault.{ParseFault}
use Rattle.vf_parse_real.specs.declared.fault.ParseFault.TheVariants as parse_faults
use Rattle.vf_parse_real.specs.Faults.{fault_of, Answers}

-- where reading stops is never named as unsupported
never_named : (end p : Place) (ts : List Token) (f : Fault) → parse_faults.Unsupported p ≡ fault_of ts end f → ⊥
never_named end p ts (faults.Syntax k) e = absurd cc
never_named end p ts (faults.Depth k) e = absurd cc

one_place : (r : Result FileUnit ParseFault) (p q : Place) → r ≡ Err (parse_faults.Unsupported p) → r ≡ Err (parse_faults.Unsupported q) → q ≡ p
one_place r p q e f = cc

by_first : (r : Result FileUnit ParseFault) (end p : Place) (ts : List Token) (read : Read (List Item)) (o : Option Place) → ((q : Place) → o ≡ Some q → r ≡ Err (parse_faults.Unsupported q)) → (o ≡ None → Answers r end ts read) → r ≡ Err (parse_faults.Unsupported p) → o ≡ Some p
by_first r end p ts read (Some q) named answers e = ap (λ (z : Place). Some z) (one_place r p q e (named q refl))
by_first r end p ts read None named answers e =
    let b : Answers (Err (parse_faults.Unsupported p)) end ts read = subst (λ z. Answers z end ts read) e (answers refl) in
    absurd (never_named end p ts b.0 b.2)

-- an answer that names a token names the first that is unsupported
pub named : (r : Result FileUnit ParseFault) (end p : Place) (ts : List Token) (read : Read (List Item)) (o : Option Place) → ((q : Place) → o ≡ Some q → r ≡ Err (parse_faults.Unsupported q)) → (o ≡ None → Answers r end ts read) → r ≡ Err (parse_faults.Unsupported p) → o ≡ Some p
named r end p ts read o bad answers e = by_first r end p ts read o bad answers e
