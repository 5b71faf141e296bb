-- A header shows the same in two whole units in which the same items of C stand in it.
use Rattle.std.specs.Prelude.{◌≡◌, ℕ, true, List, [], Ok, slice_get}
use Rattle.vf_declared.specs.declared.scope.Scope.{Scope}
use Rattle.vf_syntax.specs.declared.item.Item.{Item}
use Rattle.vf_walk.specs.Items.{no_locals, WalksItems}
use Rattle.vf_walk.specs.Meanings.{no_meanings}
use Rattle.vf_header_laws.specs.c_names.Items.{HaveTheSameInside}
use Rattle.vf_header_laws.specs.c_names.Parts.{is_part_of}
use Rattle.vf_header_laws.specs.c_names.Same.{ConsistsOfHeaders, ShowTheSame}

-- in front of the items of a unit nothing is declared
pub record IsBeginning (s : Scope) : Type 0 where
  pub names : s.names ≡ []
  pub declarations : s.declarations ≡ []
  pub tags : s.tags ≡ []
  pub structures : s.structures ≡ []
  pub locals : s.locals ≡ no_locals

-- a header consists of the same files in two units, each of which is a header that consists of such files in both
pub record IsHeaderOfBoth (header : ℕ) (s t : Scope) : Type 0 where
  pub files : (file : ℕ) → is_part_of s header file ≡ true → slice_get s.headers file ≡ slice_get t.headers file
  pub first : ConsistsOfHeaders s header
  pub second : ConsistsOfHeaders t header

-- where the same items of C stand in a header of two units, among any others that stand elsewhere, the header shows the same behind all items of both
abbrev pub UnitsShowTheSame : Type 0
UnitsShowTheSame = (header : ℕ) (xs ys : List Item) (s t u v : Scope) → IsBeginning s → IsBeginning t → IsHeaderOfBoth header s t → HaveTheSameInside (is_part_of s header) xs ys → WalksItems no_meanings xs s (Ok u) → WalksItems no_meanings ys t (Ok v) → ShowTheSame header u v
