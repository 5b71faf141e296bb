-- What a header sees of annotations stands in its own files.
use Rattle.std.proofs.Common.{◌≡◌, ℕ, Bool, true, false, if◌then◌else◌, List, Option, Some, None, refl}
use Rattle.std.proofs.lemmas.Bool.{false≢true}
use Rattle.vf_declared.specs.declared.declaration.Meaning.{Meaning}
use Rattle.vf_declared.specs.declared.scope.Scope.{Scope}
use Rattle.vf_declared.specs.Scopes.{at_name, declaration_of, is_declared, stands_in}
use Rattle.vf_asserting.specs.Cases.{ghost_number}
use Rattle.vf_header_laws.specs.c_names.Parts.{files_of_name, IsHeader, StandsIn}
use Rattle.vf_header_laws.proofs.c_names.Lookups.{headers_see_their_own}
use Rattle.vf_header_laws.proofs.c_names.Seeing.{visible_stands}
use Rattle.vf_header_laws.specs.ghost_names.Own.{HeadersSeeTheirOwnGhosts, or_none}

-- what has a number is a meaning
named_stands : (s : Scope) (header : ℕ) (name : List ℕ) (n : ℕ) → IsHeader s header → (o : Option Meaning) → declaration_of s name header ≡ o → ghost_number o ≡ Some n → StandsIn s header (files_of_name s name)
named_stands s header name n h None e k = absurd cc
named_stands s header name n h (Some m) e k = (headers_see_their_own s header h).names name m e

files_stand : (s : Scope) (header : ℕ) → IsHeader s header → (o : Option (List ℕ)) → stands_in s header o ≡ true → StandsIn s header (or_none o)
files_stand s header h None k = absurd (false≢true k)
files_stand s header h (Some files) k = visible_stands s header files h k

predicate_stands : (s : Scope) (header : ℕ) → IsHeader s header → (b : Bool) (o : Option (List ℕ)) → (if b then false else stands_in s header o) ≡ true → StandsIn s header (or_none o)
predicate_stands s header h true o k = absurd (false≢true k)
predicate_stands s header h false o k = files_stand s header h o k

pub headers_see_their_own_ghosts : HeadersSeeTheirOwnGhosts
headers_see_their_own_ghosts s header h = record {
  names = λ name n e. named_stands s header name n h (declaration_of s name header) refl e;
  predicates = λ name e. predicate_stands s header h (is_declared s name) (at_name s.predicates s.predicate_files name) e;
}
