-- Worked examples of what statements and ghost commands mention, where the local `n` is visible.
use Rattle.std.specs.Prelude.{◌≡◌, ℕ, List, [], ◌∷◌, codes, Some, None}
use Rattle.vf_base.specs.declared.place.Place.{Place}
use Rattle.vf_syntax.specs.declared.simple.First.TheVariants as firsts
use Rattle.vf_syntax.specs.declared.simple.Simple.TheVariants as simples
use Rattle.vf_syntax.specs.declared.written.CType.{CType}
use Rattle.vf_syntax.specs.declared.written.IntegerWords.TheVariants as words
use Rattle.vf_syntax.specs.declared.written.Name.{Name}
use Rattle.vf_syntax.specs.declared.written.TypeForm.TheVariants as forms
use Rattle.vf_syntax.specs.declared.written.Width.TheVariants as widths
use Rattle.vf_syntax.specs.ExprTree.{ExprTree, no_expr, more_expr, no_postfix, more_postfix}
use Rattle.vf_syntax.specs.ExprTree as expr_tree
use Rattle.vf_syntax.specs.GhostCommandTree.{GhostCommandTree}
use Rattle.vf_syntax.specs.GhostCommandTree as command_tree
use Rattle.vf_syntax.specs.GhostExprTree.{GhostExprTree, ghost_expr_list}
use Rattle.vf_syntax.specs.GhostExprTree as ghost_tree
use Rattle.vf_syntax.specs.StmtTree.{StmtTree, stmt_list}
use Rattle.vf_syntax.specs.StmtTree as tree
use Rattle.vf_mentions.specs.declared.mention.Mention.TheVariants as mentions
use Rattle.vf_mentions.specs.Mentioned.{Locals}
use Rattle.vf_mentions.specs.GhostText.{mentioned_in_command}
use Rattle.vf_mentions.specs.Bodies.{mentioned_in_stmts}

-- a place, which is that of each token here
abbrev pub here : Place
here = record { file = 0; line = 1; column = 1 }

-- the local that is visible
abbrev pub n_alone : Locals
n_alone = codes "n" ∷ []

-- a name as an expression, in C text and in an annotation
abbrev pub named : List ℕ → ExprTree
named x = expr_tree.name_ here x

abbrev pub ghost_named : List ℕ → GhostExprTree
ghost_named x = ghost_tree.name_ here x

-- `f(x)`
abbrev pub called_with : List ℕ → List ℕ → ExprTree
called_with f x = expr_tree.postfix here (named f) (more_postfix (expr_tree.call_ here (more_expr (named x) no_expr)) no_postfix)

-- `f(x);`
abbrev pub call : List ℕ → List ℕ → StmtTree
call f x = tree.simple here (simples.Call (called_with f x)) here

-- `int`, and a name that is declared
abbrev pub int_type : CType
int_type = record { place = here; form = forms.Integer (words.Width widths.Int) }

abbrev pub name : List ℕ → Name
name x = record { text = x; place = here }

-- `int x = e;`
abbrev pub declared : List ℕ → ExprTree → StmtTree
declared x e = tree.declaration here int_type (name x) (Some e) here

-- `for (int x = n; x; ) ;`
abbrev pub loop : List ℕ → StmtTree
loop x = tree.for_ here (Some (firsts.Declaration int_type (name x) (named (codes "n")))) (Some (named x)) None None (tree.empty_ here)

-- `lemma(p(n, f));`
abbrev pub lemma_call : GhostCommandTree
lemma_call = command_tree.call_ here (codes "lemma") (ghost_tree.application here (codes "p") (ghost_expr_list (ghost_named (codes "n") ∷ ghost_named (codes "f") ∷ [])) ∷ [])

-- texts on the left, with what they mention
pub record WorkedExamples : Type 0 where
  -- `int x = f(x);` mentions `f`: x is visible in its own initializer
  pub initializers : mentioned_in_stmts n_alone (stmt_list (declared (codes "x") (called_with (codes "f") (codes "x")) ∷ [])) ≡ mentions.Function (codes "f") ∷ []
  -- `{ int f = n; g(f); } f(n);` mentions `g` and then `f`: the local f ends with its block
  pub blocks : mentioned_in_stmts n_alone (stmt_list (tree.block here (stmt_list (declared (codes "f") (named (codes "n")) ∷ call (codes "g") (codes "f") ∷ [])) here ∷ call (codes "f") (codes "n") ∷ [])) ≡ mentions.Function (codes "g") ∷ mentions.Function (codes "f") ∷ []
  -- `for (int f = n; f; ) ; f(n);` mentions `f`: the local f ends with its loop
  pub loops : mentioned_in_stmts n_alone (stmt_list (loop (codes "f") ∷ call (codes "f") (codes "n") ∷ [])) ≡ mentions.Function (codes "f") ∷ []
  -- `lemma(p(n, f));` mentions the lemma and then `f`, and not what stands in front of arguments
  pub lemma_calls : mentioned_in_command n_alone lemma_call ≡ mentions.Lemma (codes "lemma") ∷ mentions.Function (codes "f") ∷ []
