-- The words that are no names.
use Rattle.std.specs.Prelude.{ℕ, Bool, List, [], ◌∷◌, codes}
use Rattle.std.specs.List.{list_any}
use Rattle.std.specs.Str.{bytes_eq}

-- the words of C and of annotations that are no names, in both kinds of text
abbrev pub keywords : List (List ℕ)
keywords =
    codes "any" ∷ codes "assert" ∷ codes "auto" ∷ codes "bool" ∷ codes "break" ∷ codes "case" ∷
    codes "char" ∷ codes "close" ∷ codes "const" ∷ codes "continue" ∷ codes "currentThread" ∷
    codes "default" ∷ codes "do" ∷ codes "double" ∷ codes "else" ∷ codes "emp" ∷
    codes "ensures" ∷ codes "enum" ∷ codes "extern" ∷ codes "false" ∷ codes "fixpoint" ∷
    codes "float" ∷ codes "for" ∷ codes "goto" ∷ codes "if" ∷ codes "inductive" ∷
    codes "inline" ∷ codes "int" ∷ codes "invariant" ∷ codes "leak" ∷ codes "lemma" ∷
    codes "long" ∷ codes "malloc" ∷ codes "open" ∷ codes "predicate" ∷ codes "predicate_ctor" ∷
    codes "predicate_family" ∷ codes "predicate_family_instance" ∷ codes "real" ∷
    codes "register" ∷ codes "requires" ∷ codes "restrict" ∷ codes "result" ∷ codes "return" ∷
    codes "short" ∷ codes "signed" ∷ codes "sizeof" ∷ codes "static" ∷ codes "struct" ∷
    codes "switch" ∷ codes "this" ∷ codes "true" ∷ codes "typedef" ∷ codes "union" ∷
    codes "unsigned" ∷ codes "void" ∷ codes "volatile" ∷ codes "while" ∷ []

-- a word that is no name
unfoldable pub is_keyword : List ℕ → Bool
is_keyword name = list_any (λ word. bytes_eq name word) keywords
