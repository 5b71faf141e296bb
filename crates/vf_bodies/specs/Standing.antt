-- What is declared where a statement stands, and how it comes back.
use Rattle.std.specs.Prelude.{length, take}
use Rattle.vf_lower.specs.Settings.{Setting}
use Rattle.vf_bodies.specs.declared.surroundings.Surroundings.{Surroundings}
use Rattle.vf_bodies.specs.declared.surroundings.Mark.{Mark}

-- what the code has of it
abbrev pub standing_of : Surroundings → Setting
standing_of s = record { scope = s.scope; numbers = s.numbers; statement = s.statement }

-- how many locals there are, and the first token of the statement
abbrev pub mark_of : Setting → Mark
mark_of c = record { names = length c.scope.locals.names; meanings = length c.scope.locals.meanings; numbers = length c.numbers; statement = c.statement }

-- the first locals alone, as many as there were at a mark, and the statement there
abbrev pub back_at : Mark → Setting → Setting
back_at m c = record {
  scope = record c.scope { locals = record { names = take m.names c.scope.locals.names; meanings = take m.meanings c.scope.locals.meanings } };
  numbers = take m.numbers c.numbers;
  statement = m.statement;
}
