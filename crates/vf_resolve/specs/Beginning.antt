-- What is declared in front of the items of a unit.
use Rattle.std.specs.Prelude.{List}
use Rattle.vf_declared.specs.Beginning.{empty}
use Rattle.vf_declared.specs.declared.scope.Scope.{Scope}
use Rattle.vf_syntax.specs.declared.item.Item.{Item}
use Rattle.vf_gathering.specs.Ahead as ahead
use Rattle.vf_gathering.specs.Foretold as foretold
use Rattle.vf_gathering.specs.declared.ahead.Ahead.{Ahead}
use Rattle.vf_gathering.specs.declared.foretold.Foretold.{Foretold}
use Rattle.vf_resolve.specs.declared.files.Files.{Files}

-- the datatypes and structs of items, each with its number
abbrev pub ahead_of : List Item → Ahead
ahead_of xs = ahead.with_items ahead.nothing xs

-- the predicates of items, with what is told of them
abbrev pub foretold_of : List Item → Foretold
foretold_of xs = foretold.with_items (ahead_of xs) foretold.none_foretold xs

-- in front of the items of a unit nothing is declared, but its files are known, and the predicates that stand in it
abbrev pub beginning : Files → List Item → Scope
beginning f xs = record (empty f.own) { headers = f.headers; preludes = f.preludes; has_stdlib = f.has_stdlib; has_arrays = f.has_arrays; predicates = (foretold_of xs).stated.names; predicate_files = (foretold_of xs).stated.files; predicate_sorts = (foretold_of xs).sorts }
