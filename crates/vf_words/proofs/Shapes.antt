-- The command that is built, and the values that are found.
use Rattle.std.proofs.Common.{◌≡◌, ◌∙◌, sym, ap, true, false, List, [], ◌∷◌, map, Option, Some, None, IsSomeAnd, codes, option_map, unwrap_or, Result, Ok, Err, IfOk, IfNone, IfSome, ◌++◌}
use Rattle.std.specs.Borrow.{Bor}
use Rattle.clap.specs.Lexer.{usize_max}
use Rattle.clap.specs.Built.{AddsArg}
use Rattle.clap.specs.Walk.{Rule, Text, all_of, rows_of, rule_of}
use Rattle.clap.specs.Matches.{matched_of, raw_values}
use Rattle.clap.specs.Simple.{App, app_of, app_of_fields, new_app, new_rule, new_shape}
use Rattle.clap.specs.declared.builder.arg.Arg.{Arg}
use Rattle.clap.specs.declared.builder.command.Command.{Command}
use Rattle.clap.specs.declared.builder.command.Command.TheViews.{out-Command as fields_of}
use Rattle.clap.specs.declared.builder.range.ValueRange.{ValueRange}
use Rattle.clap.specs.declared.parser.matches.Found.{Found}
use Rattle.clap.proofs.WalkLemmas.{raw_values-rows}
use Rattle.vf_words.specs.Positionals.{texts}
use Rattle.vf_words.specs.Reader.{reader, words_rule}

abbrev any_number : ValueRange
any_number = record { start_inclusive = 1; end_inclusive = usize_max }

number_is : (o : Option ValueRange) → IsSomeAnd o (λ r. r ≡ any_number) → o ≡ Some any_number
number_is (Some r) h = ap Some h
number_is None h = absurd h

pub rule_is : (a b : Arg) → rule_of a ≡ new_rule (codes "words") → b ≡ record a { num_vals = b.num_vals } → IsSomeAnd b.num_vals (λ r. r ≡ any_number) → rule_of b ≡ words_rule
rule_is a b plain same number = ap rule_of same ∙ ap (λ (n : Option ValueRange). record (rule_of a) { range = n }) (number_is b.num_vals number) ∙ ap (λ (r : Rule). record r { range = Some any_number }) plain

pub not_global : (a b : Arg) → a.global ≡ false → b ≡ record a { num_vals = b.num_vals } → b.global ≡ false
not_global a b local same = ap (λ (x : Arg). x.global) same ∙ local

settings : (a b c : Command) (name : Text) → app_of a ≡ new_app name → fields_of b ≡ record (fields_of a) { no_binary_name = true } → fields_of c ≡ record (fields_of b) { disable_help_flag = true }
    → app_of c ≡ record { top = record (new_shape name) { no_binary_name = true; disable_help_flag = true }; subs = [] }
settings a b c name new first second =
    ap app_of_fields second
    ∙ ap (λ (x : App). record x { top = record x.top { disable_help_flag = true } }) (ap app_of_fields first ∙ ap (λ (x : App). record x { top = record x.top { no_binary_name = true } }) new)

pub reader_is : (a b c d : Command) (w : Arg) (name : Text) → app_of a ≡ new_app name → fields_of b ≡ record (fields_of a) { no_binary_name = true } → fields_of c ≡ record (fields_of b) { disable_help_flag = true }
    → rule_of w ≡ words_rule → w.global ≡ false → AddsArg c w d → app_of d ≡ reader name
reader_is a b c d w name new first second rule local adds =
    adds.shape local
    ∙ ap (λ (x : App). record x { top = record x.top { rules = x.top.rules ++ rule_of w ∷ [] } }) (settings a b c name new first second)
    ∙ ap (λ (r : Rule). record { top = record (new_shape name) { no_binary_name = true; disable_help_flag = true; rules = r ∷ [] }; subs = [] }) rule

pub values_some : (f : Found) (r : Option (Bor (List (Bor Text)))) (vs : Bor (List (Bor Text))) → r ≡ Some vs → option_map (λ s. map (λ v. v.now) s.now) r ≡ option_map raw_values (matched_of f (codes "words"))
    → unwrap_or (all_of (codes "words") (rows_of f)) [] ≡ texts vs.now
values_some f r vs is found = ap (λ o. unwrap_or o []) (sym (raw_values-rows f (codes "words")) ∙ sym found ∙ ap (option_map (λ s. map (λ v. v.now) s.now)) is)

pub values_none : (f : Found) (r : Option (Bor (List (Bor Text)))) → r ≡ None → option_map (λ s. map (λ v. v.now) s.now) r ≡ option_map raw_values (matched_of f (codes "words")) → unwrap_or (all_of (codes "words") (rows_of f)) [] ≡ []
values_none f r is found = ap (λ o. unwrap_or o []) (sym (raw_values-rows f (codes "words")) ∙ sym found ∙ ap (option_map (λ s. map (λ v. v.now) s.now)) is)

-- what holds of what was answered
pub given : {T E : Type 0} (P Q : T → Type 0) (r : Result T E) → ((x : T) → P x → Q x) → IfOk r P → IfOk r Q
given P Q (Ok x) step h = step x h
given P Q (Err e) step h = tt

pub given_some : {T E : Type 0} (P Q : T → Type 0) (r : Result (Option T) E) → ((x : T) → P x → Q x) → IfOk r (λ o. IfSome o P) → IfOk r (λ o. IfSome o Q)
given_some P Q (Ok (Some x)) step h = step x h
given_some P Q (Ok None) step h = tt
given_some P Q (Err e) step h = tt

pub given_none : {T E : Type 0} (P Q : Type 0) (r : Result (Option T) E) → (P → Q) → IfOk r (λ o. IfNone o P) → IfOk r (λ o. IfNone o Q)
given_none P Q (Ok (Some x)) step h = tt
given_none P Q (Ok None) step h = step h
given_none P Q (Err e) step h = tt
