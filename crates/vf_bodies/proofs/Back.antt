-- Behind a part the locals that it declared are the last, so that going back to a mark takes them away.
use Rattle.std.proofs.Common.{◌≡◌, ℕ, ◌+◌, List, [], ◌∷◌, ◌++◌, length, Option, Some, None, refl, sym, ap, ◌∙◌, subst, append_assoc}
use Rattle.std.proofs.lemmas.List.{append-nil}
use Rattle.std.proofs.Math.Seq.{take-append_seam}
use Rattle.vf_base.specs.declared.place.Place.{Place}
use Rattle.vf_declared.specs.declared.ctype.CType.{CType}
use Rattle.vf_declared.specs.declared.locals.Local.{Local}
use Rattle.vf_declared.specs.declared.locals.Local.TheVariants as locals
use Rattle.vf_syntax.specs.declared.simple.First.{First}
use Rattle.vf_syntax.specs.declared.simple.First.TheVariants as firsts
use Rattle.vf_syntax.specs.ExprTree.{ExprTree}
use Rattle.vf_syntax.specs.StmtTree.{StmtTree, StmtTrees, no_stmt, more_stmt}
use Rattle.vf_syntax.specs.StmtTree as tree
use Rattle.vf_lower.specs.declared.draft.Draft.{Draft}
use Rattle.vf_lower.specs.Lowering.{gives, taken, ◌⨾◌}
use Rattle.vf_lower.specs.Settings.{Setting}
use Rattle.vf_lower.specs.Statements.{at, declared, first_part, statement, statements}
use Rattle.vf_lower.specs.Did.{Did}
use Rattle.vf_bodies.specs.declared.surroundings.Mark.{Mark}
use Rattle.vf_bodies.specs.Standing.{back_at, mark_of}

-- a setting with more locals, in the statement at a place
abbrev grown : Setting → List (List ℕ) → List Local → List ℕ → Place → Setting
grown c xs ms ns p = record {
  scope = record c.scope { locals = record { names = c.scope.locals.names ++ xs; meanings = c.scope.locals.meanings ++ ms } };
  numbers = c.numbers ++ ns;
  statement = p;
}

-- a setting has the locals of another, and perhaps more
pub record Extends (c d : Setting) : Type 0 where
  pub names : List (List ℕ)
  pub meanings : List Local
  pub numbers : List ℕ
  pub is : d ≡ grown c names meanings numbers d.statement

-- a setting has its own, in whatever statement
pub extends_at : (c : Setting) (p : Place) → Extends c (at c p)
extends_at c p = record {
  names = [];
  meanings = [];
  numbers = [];
  is = λ i. record {
    scope = record c.scope { locals = record { names = sym (append-nil c.scope.locals.names) i; meanings = sym (append-nil c.scope.locals.meanings) i } };
    numbers = sym (append-nil c.numbers) i;
    statement = p;
  };
}

-- one more, and one more again
pub extends_more : (c d e : Setting) → Extends c d → Extends d e → Extends c e
extends_more c d e h k = record {
  names = h.names ++ k.names;
  meanings = h.meanings ++ k.meanings;
  numbers = h.numbers ++ k.numbers;
  is = k.is ∙ (λ i. grown (h.is i) k.names k.meanings k.numbers e.statement) ∙ (λ i. record {
    scope = record c.scope { locals = record { names = append_assoc c.scope.locals.names h.names k.names i; meanings = append_assoc c.scope.locals.meanings h.meanings k.meanings i } };
    numbers = append_assoc c.numbers h.numbers k.numbers i;
    statement = e.statement;
  });
}

-- behind a declaration there is one more
pub declared_extends : (c : Setting) (x : List ℕ) (t : CType) (e : Option ExprTree) (n : ℕ) → Extends c (declared c x t e n).left
unfolding ◌⨾◌ gives taken
declared_extends c x t e n = record { names = x ∷ []; meanings = locals.Real t ∷ []; numbers = n ∷ []; is = refl }

-- behind what stands first in a `for`
pub first_extends : (c : Setting) (f : Option First) (n : ℕ) → Extends c (first_part c f n).left
unfolding ◌⨾◌ gives
first_extends c None n = extends_at c c.statement
first_extends c (Some (firsts.Declaration w x e)) n = declared_extends c x.text _ (Some e) n
first_extends c (Some (firsts.Simple x)) n = extends_at c c.statement

-- behind a statement
pub stmt_extends : (c : Setting) (r : CType) (x : StmtTree) (n : ℕ) → Extends c (statement c r x n).left
unfolding ◌⨾◌ gives
stmt_extends c r (tree.declaration p w x e last) n = extends_more c (at c p) _ (extends_at c p) (declared_extends (at c p) x.text _ e n)
stmt_extends c r (tree.simple p x last) n = extends_at c c.statement
stmt_extends c r (tree.if_ p e a) n = extends_at c c.statement
stmt_extends c r (tree.if_else p e a b) n = extends_at c c.statement
stmt_extends c r (tree.while_ p e i a) n = extends_at c c.statement
stmt_extends c r (tree.for_ p f e x i a) n = extends_at c c.statement
stmt_extends c r (tree.return_ p e last) n = extends_at c c.statement
stmt_extends c r (tree.block p xs last) n = extends_at c c.statement
stmt_extends c r (tree.empty_ p) n = extends_at c c.statement
stmt_extends c r (tree.ghost p g) n = extends_at c c.statement

-- behind several
pub stmts_extend : (c : Setting) (r : CType) (xs : StmtTrees) (n : ℕ) → Extends c (statements c r xs n).left
unfolding ◌⨾◌ gives
stmts_extend c r no_stmt n = extends_at c c.statement
stmts_extend c r (more_stmt x xs) n = extends_more c (statement c r x n).left _ (stmt_extends c r x n) (stmts_extend (statement c r x n).left r xs (n + length (statement c r x n).locals))

-- going back to a mark
pub comes_back : (c d : Setting) → Extends c d → back_at (mark_of c) d ≡ c
comes_back c d h = ap (back_at (mark_of c)) h.is ∙ (λ i. record {
  scope = record c.scope { locals = record { names = take-append_seam c.scope.locals.names h.names i; meanings = take-append_seam c.scope.locals.meanings h.meanings i } };
  numbers = take-append_seam c.numbers h.numbers i;
  statement = c.statement;
})

-- the same of a mark and a setting that are given
pub gone_back : (c d e : Setting) (k : Mark) → k ≡ mark_of c → e ≡ back_at k d → Extends c d → e ≡ c
gone_back c d e k marked back h = back ∙ ap (λ m. back_at m d) marked ∙ comes_back c d h

-- the same of a statement that was done
pub stmt_gone : (c d e : Setting) (k : Mark) (r : CType) (x : StmtTree) (f g : Draft) → Did (statement c r x) f g d → k ≡ mark_of c → e ≡ back_at k d → e ≡ c
stmt_gone c d e k r x f g h marked back = gone_back c d e k marked back (subst (λ y. Extends c y) (sym h.left) (stmt_extends c r x (length f.locals)))

-- the same of several
pub stmts_gone : (c d e : Setting) (k : Mark) (r : CType) (xs : StmtTrees) (f g : Draft) → Did (statements c r xs) f g d → k ≡ mark_of c → e ≡ back_at k d → e ≡ c
stmts_gone c d e k r xs f g h marked back = gone_back c d e k marked back (subst (λ y. Extends c y) (sym h.left) (stmts_extend c r xs (length f.locals)))

-- the same of what stands first in a `for`
pub first_gone : (c d e : Setting) (k : Mark) (p : Place) (x : Option First) (f g : Draft) → Did (first_part (at c p) x) f g d → k ≡ mark_of c → e ≡ back_at k d → e ≡ c
first_gone c d e k p x f g h marked back = gone_back c d e k marked back (extends_more c (at c p) d (extends_at c p) (subst (λ y. Extends (at c p) y) (sym h.left) (first_extends (at c p) x (length f.locals))))
