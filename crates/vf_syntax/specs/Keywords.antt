-- Written by tools/gen_syntax.py: change it there.
-- Keywords, and how they are written.
use Rattle.std.specs.Prelude.{Bool, List, [], ◌∷◌, ℕ, codes}
use Rattle.std.specs.List.{list_any}
use Rattle.std.specs.Str.{bytes_eq}
use Rattle.vf_syntax.specs.declared.keyword.Keyword.{Keyword}
use Rattle.vf_syntax.specs.declared.keyword.Keyword.TheVariants as keywords

-- how a keyword is written
abbrev pub spelling : Keyword → List ℕ
spelling keywords.Struct = codes "struct"
spelling keywords.Typedef = codes "typedef"
spelling keywords.Void = codes "void"
spelling keywords.Bool = codes "bool"
spelling keywords.Signed = codes "signed"
spelling keywords.Unsigned = codes "unsigned"
spelling keywords.Char = codes "char"
spelling keywords.Short = codes "short"
spelling keywords.Int = codes "int"
spelling keywords.Long = codes "long"
spelling keywords.If = codes "if"
spelling keywords.Else = codes "else"
spelling keywords.While = codes "while"
spelling keywords.For = codes "for"
spelling keywords.Return = codes "return"
spelling keywords.True = codes "true"
spelling keywords.False = codes "false"
spelling keywords.Malloc = codes "malloc"
spelling keywords.Sizeof = codes "sizeof"
spelling keywords.Requires = codes "requires"
spelling keywords.Ensures = codes "ensures"
spelling keywords.Invariant = codes "invariant"
spelling keywords.Inductive = codes "inductive"
spelling keywords.Fixpoint = codes "fixpoint"
spelling keywords.Switch = codes "switch"
spelling keywords.Case = codes "case"
spelling keywords.Predicate = codes "predicate"
spelling keywords.PredicateFamily = codes "predicate_family"
spelling keywords.PredicateFamilyInstance = codes "predicate_family_instance"
spelling keywords.PredicateCtor = codes "predicate_ctor"
spelling keywords.Lemma = codes "lemma"
spelling keywords.Real = codes "real"
spelling keywords.Any = codes "any"
spelling keywords.Emp = codes "emp"
spelling keywords.Result = codes "result"
spelling keywords.This = codes "this"
spelling keywords.CurrentThread = codes "currentThread"
spelling keywords.Open = codes "open"
spelling keywords.Close = codes "close"
spelling keywords.Leak = codes "leak"
spelling keywords.Assert = codes "assert"
spelling keywords.Auto = codes "auto"
spelling keywords.Break = codes "break"
spelling keywords.Const = codes "const"
spelling keywords.Continue = codes "continue"
spelling keywords.Default = codes "default"
spelling keywords.Do = codes "do"
spelling keywords.Double = codes "double"
spelling keywords.Enum = codes "enum"
spelling keywords.Extern = codes "extern"
spelling keywords.Float = codes "float"
spelling keywords.Goto = codes "goto"
spelling keywords.Inline = codes "inline"
spelling keywords.Register = codes "register"
spelling keywords.Restrict = codes "restrict"
spelling keywords.Static = codes "static"
spelling keywords.Union = codes "union"
spelling keywords.Volatile = codes "volatile"

-- all keywords
abbrev pub keywords_of_all : List Keyword
keywords_of_all = keywords.Struct ∷ keywords.Typedef ∷ keywords.Void ∷ keywords.Bool ∷ keywords.Signed ∷ keywords.Unsigned ∷ keywords.Char ∷ keywords.Short ∷ keywords.Int ∷ keywords.Long ∷ keywords.If ∷ keywords.Else ∷ keywords.While ∷ keywords.For ∷ keywords.Return ∷ keywords.True ∷ keywords.False ∷ keywords.Malloc ∷ keywords.Sizeof ∷ keywords.Requires ∷ keywords.Ensures ∷ keywords.Invariant ∷ keywords.Inductive ∷ keywords.Fixpoint ∷ keywords.Switch ∷ keywords.Case ∷ keywords.Predicate ∷ keywords.PredicateFamily ∷ keywords.PredicateFamilyInstance ∷ keywords.PredicateCtor ∷ keywords.Lemma ∷ keywords.Real ∷ keywords.Any ∷ keywords.Emp ∷ keywords.Result ∷ keywords.This ∷ keywords.CurrentThread ∷ keywords.Open ∷ keywords.Close ∷ keywords.Leak ∷ keywords.Assert ∷ keywords.Auto ∷ keywords.Break ∷ keywords.Const ∷ keywords.Continue ∷ keywords.Default ∷ keywords.Do ∷ keywords.Double ∷ keywords.Enum ∷ keywords.Extern ∷ keywords.Float ∷ keywords.Goto ∷ keywords.Inline ∷ keywords.Register ∷ keywords.Restrict ∷ keywords.Static ∷ keywords.Union ∷ keywords.Volatile ∷ []

-- a word is that of a keyword
abbrev pub is_spelled : List ℕ → Keyword → Bool
is_spelled word k = bytes_eq word (spelling k)

-- a word is a keyword
unfoldable pub is_keyword : List ℕ → Bool
is_keyword word = list_any (is_spelled word) keywords_of_all
