use Rattle.std.proofs.Common.{◌≡◌, ℕ, List, take, map}
use Rattle.std.specs.List.{position_from}
use Rattle.std.specs.HashMap.{get_by}
use Rattle.std.specs.Str.{bytes_eq}
use Rattle.vf_link.specs.Statements.{place}
use Rattle.vf_link.proofs.firsts.firsts.Given as goal

-- the map has the place of each text so far
abbrev pub invariant-loop-at : goal.invariant-loop-at
invariant-loop-at l = record {
  places : (q : List ℕ) → get_by (λ k. bytes_eq q k.now) l.places ≡ position_from (bytes_eq q) 0 (take l.at l.texts);
  firsts : l.firsts.items ≡ map (place l.texts) (take l.at l.texts);
}
