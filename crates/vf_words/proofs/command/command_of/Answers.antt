-- What the words ask for.
use Rattle.std.proofs.Common.{◌∙◌, sym, ap, ℕ, List, option_map, Bor, Vec}
use Rattle.std.specs.declared.alloc.Global.{Global}
use Rattle.vf_words.specs.Positionals.{texts}
use Rattle.vf_words.specs.Words.{AskNothing}
use Rattle.vf_words.specs.Given.{Fits, FitsNone}
use Rattle.vf_words.specs.Commands.{Asks}
use Rattle.vf_words.proofs.Asking.{asks, asks_nothing, behind_is_text, gives, no_name}
use Rattle.vf_words.proofs.Shapes.{given_none, given_some}
use Rattle.vf_words.proofs.command.command_of.Goals as goal

pub returns-in_default-name_of-clause-none : goal.returns-in_default-name_of-clause-none
returns-in_default-name_of-clause-none c = no_name c.args.words.now c.in-Some.behind.now c.in-Some.word.now c.in-Some.ensures.cases.0 c.in_default-name_of.ensures.none

pub positionals-requires : goal.positionals-requires
positionals-requires c = record { text = behind_is_text c.args.words.now c.in-Some.behind.now c.in-Some.word.now c.in-Some.ensures.cases.0 c.requires.text }

pub returns-in-Some-2-clause-found : goal.returns-in-Some-2-clause-found
returns-in-Some-2-clause-found c =
    let positional = sym c.in_ok-given.ensures ∙ ap (option_map (λ (v : Vec (Bor (List ℕ)) Global). texts v.items)) c.in-Some-2.is in
    let words = gives c.args.words.now c.in-Some.behind.now c.in-Some.word.now _ (texts c.in-Some-2.given.items) c.in-Some.ensures.cases.0 c.in-Some-name_of.ensures.found positional in
    given_some (Fits c.in-Some-name_of.name (texts c.in-Some-2.given.items)) (Asks (texts c.args.words.now)) c.command_with.result
    (λ command h. asks (texts c.args.words.now) (texts c.in-Some-2.given.items) c.in-Some-name_of.name command words h) c.command_with.ensures.found

pub returns-in-Some-2-clause-none : goal.returns-in-Some-2-clause-none
returns-in-Some-2-clause-none c =
    let positional = sym c.in_ok-given.ensures ∙ ap (option_map (λ (v : Vec (Bor (List ℕ)) Global). texts v.items)) c.in-Some-2.is in
    let words = gives c.args.words.now c.in-Some.behind.now c.in-Some.word.now _ (texts c.in-Some-2.given.items) c.in-Some.ensures.cases.0 c.in-Some-name_of.ensures.found positional in
    given_none (FitsNone c.in-Some-name_of.name (texts c.in-Some-2.given.items)) (AskNothing (texts c.args.words.now)) c.command_with.result
    (asks_nothing (texts c.args.words.now) (texts c.in-Some-2.given.items) c.in-Some-name_of.name words) c.command_with.ensures.none
