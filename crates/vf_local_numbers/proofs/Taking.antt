-- What is counted where a part of the text was lowered, and how lowering comes back behind a part whose locals are its own.
use Rattle.std.proofs.Common.{◌≡◌, ℕ, ◌+◌, List, [], ◌∷◌, ◌++◌, length, refl, sym, ap, ◌∙◌, subst, length-append, Option, Some, None, Result, OnOk}
use Rattle.vf_base.specs.declared.memory.Memory.{Memory}
use Rattle.vf_base.specs.declared.place.Place.{Place}
use Rattle.vf_declared.specs.declared.ctype.CType.{CType}
use Rattle.vf_syntax.specs.declared.item.Typed.{Typed}
use Rattle.vf_syntax.specs.declared.simple.First.{First}
use Rattle.vf_syntax.specs.declared.simple.First.TheVariants as firsts
use Rattle.vf_syntax.specs.declared.simple.Simple.{Simple}
use Rattle.vf_syntax.specs.ExprTree.{ExprTree}
use Rattle.vf_syntax.specs.StmtTree.{StmtTree, StmtTrees, no_stmt, more_stmt, stmt_list}
use Rattle.vf_syntax.specs.StmtTree as tree
use Rattle.vf_lower.specs.declared.draft.Draft.{Draft}
use Rattle.vf_lower.specs.Branches.{Test}
use Rattle.vf_lower.specs.Did.{Did}
use Rattle.vf_lower.specs.Expressions.{condition}
use Rattle.vf_lower.specs.Lowering.{Lowering, gives, taken, ◌⨾◌}
use Rattle.vf_lower.specs.Settings.{Setting}
use Rattle.vf_lower.specs.Statements.{at, first_part, statement, type_in, with_variable}
use Rattle.vf_lower.proofs.Parts.{did_then}
use Rattle.vf_typing.specs.Names.{written_type}
use Rattle.vf_functions.specs.Definitions.{given, parameter, variable}
use Rattle.vf_walk.specs.Items.{listed}
use Rattle.vf_syntax.specs.declared.item.Body.{Body}
use Rattle.vf_syntax.specs.declared.item.Signature.{Signature as WrittenSignature}
use Rattle.vf_declared.specs.declared.locals.Local.TheVariants as locals
use Rattle.vf_bodies.proofs.Parts.{did_gives}
use Rattle.vf_bodies.specs.declared.surroundings.Mark.{Mark}
use Rattle.vf_bodies.specs.Standing.{back_at, mark_of}
use Rattle.vf_bodies.proofs.Back.{Extends, extends_at, extends_more, first_extends, gone_back, stmt_extends}
use Rattle.vf_local_numbers.specs.Counting.{Counting, condition_counted, counted, counted_all, first_counted, for_counted, declaring, inner, noted, parameters_counted, taking, test_counted, whole_counted, whole_function}

-- a state of what is counted
abbrev state : Setting → ℕ → List ℕ → Counting
state c n ns = record { setting = c; next = n; declared = ns }

-- a part was lowered, behind which lowering stands where a setting says
pub took : {A : Type 0} (f : A → Setting) (m : Lowering A) (d e : Draft) (a : A) (c g : Setting) (ns : List ℕ) → Did m d e a → g ≡ f a → state g (length e.locals) ns ≡ taking f m (record { setting = c; next = length d.locals; declared = ns })
took f m d e a c g ns h is = λ i. state ((is ∙ ap f h.left) i) ((ap length h.locals ∙ length-append d.locals (m (length d.locals)).locals) i) ns

-- behind a part lowering has the locals that it had in front of it, and perhaps more
counted_extends : (r : CType) (x : StmtTree) (s : Counting) → Extends s.setting (counted r x s).setting
counted_extends r (tree.declaration p w x e last) s = stmt_extends s.setting r (tree.declaration p w x e last) s.next
counted_extends r (tree.simple p x last) s = stmt_extends s.setting r (tree.simple p x last) s.next
counted_extends r (tree.if_ p e a) s = extends_at s.setting s.setting.statement
counted_extends r (tree.if_else p e a b) s = extends_at s.setting s.setting.statement
counted_extends r (tree.while_ p e i a) s = extends_at s.setting s.setting.statement
counted_extends r (tree.for_ p f e x i a) s = extends_at s.setting s.setting.statement
counted_extends r (tree.return_ p e last) s = stmt_extends s.setting r (tree.return_ p e last) s.next
counted_extends r (tree.block p xs last) s = extends_at s.setting s.setting.statement
counted_extends r (tree.empty_ p) s = extends_at s.setting s.setting.statement
counted_extends r (tree.ghost p g) s = extends_at s.setting s.setting.statement

all_extend : (r : CType) (xs : StmtTrees) (s : Counting) → Extends s.setting (counted_all r xs s).setting
all_extend r no_stmt s = extends_at s.setting s.setting.statement
all_extend r (more_stmt x xs) s = extends_more s.setting (counted r x s).setting _ (counted_extends r x s) (all_extend r xs (counted r x s))

-- the first part of a `for` is noted, and lowering stands where it stood
noted_stands : (f : Option First) (s : Counting) → (noted f s).setting ≡ s.setting
noted_stands None s = refl
noted_stands (Some (firsts.Declaration w x e)) s = refl
noted_stands (Some (firsts.Simple x)) s = refl

first_extends_all : (p : Place) (f : Option First) (s : Counting) → Extends s.setting (first_counted p f s).setting
first_extends_all p f s = extends_more s.setting (at s.setting p) _ (extends_at s.setting p) (first_extends (at s.setting p) f (noted f s).next)

-- behind a part whose locals are its own lowering stands where it stood, and what was counted stays
back : (f : Counting → Counting) (s t u : Counting) (k : Mark) → Extends s.setting (f s).setting → t ≡ f s → k ≡ mark_of s.setting → u.setting ≡ back_at k t.setting → u.next ≡ t.next → u.declared ≡ t.declared → u ≡ inner f s
back f s t u k h is marked gone next declared = λ i. state (gone_back s.setting (f s).setting u.setting k marked (gone ∙ ap (λ (v : Counting). back_at k v.setting) is) h i) ((next ∙ ap (λ (v : Counting). v.next) is) i) ((declared ∙ ap (λ (v : Counting). v.declared) is) i)

pub stmt_back : (r : CType) (x : StmtTree) (s t u : Counting) (k : Mark) → t ≡ counted r x s → k ≡ mark_of s.setting → u.setting ≡ back_at k t.setting → u.next ≡ t.next → u.declared ≡ t.declared → u ≡ inner (counted r x) s
stmt_back r x s t u k = back (counted r x) s t u k (counted_extends r x s)

pub stmts_back : (r : CType) (xs : StmtTrees) (s t u : Counting) (k : Mark) → t ≡ counted_all r xs s → k ≡ mark_of s.setting → u.setting ≡ back_at k t.setting → u.next ≡ t.next → u.declared ≡ t.declared → u ≡ inner (counted_all r xs) s
stmts_back r xs s t u k = back (counted_all r xs) s t u k (all_extend r xs s)

pub for_back : (F : Counting → Counting) (p : Place) (f : Option First) (e : Option ExprTree) (x : Option Simple) (s t u : Counting) (k : Mark) → t ≡ for_counted F p f e x s → k ≡ mark_of s.setting → u.setting ≡ back_at k t.setting → u.next ≡ t.next → u.declared ≡ t.declared → u ≡ inner (for_counted F p f e x) s
for_back F p f e x s t u k = back (for_counted F p f e x) s t u k (first_extends_all p f s)

-- what stands first in a `for` was noted, and then lowered
pub first_took : (p : Place) (f : Option First) (s t u : Counting) → t ≡ noted f s → u ≡ taking (λ c. c) (first_part (at t.setting p) f) t → u ≡ first_counted p f s
first_took p f s t u e h = h ∙ ap (λ (v : Counting). taking (λ c. c) (first_part (at v.setting p) f) v) e ∙ ap (λ (q : Setting). taking (λ c. c) (first_part (at q p) f) (noted f s)) (noted_stands f s)

-- a parameter of a type was declared
pub parameter_took : (c : Setting) (x : Typed) (t : CType) (d e : Draft) (k : ℕ) (g : Setting) (ns : List ℕ) → t ≡ type_in (written_type c.scope x.written) → Did (taken t) d e k → g ≡ with_variable c x.name.text t k → state g (length e.locals) ns ≡ taking (λ c. c) (parameter c x) (record { setting = c; next = length d.locals; declared = ns })
parameter_took c x t d e k g ns same h is =
    let one : Did (variable c x.name.text t) d e g = did_then _ _ _ _ _ _ _ h (did_gives _ _ _ is) in
    took (λ c. c) (parameter c x) d e g c g ns (subst (λ u. Did (variable c x.name.text u) d e g) same one) refl

-- one answer or another, where a statement is of a form
pub of_form : (r : CType) (x y : StmtTree) (s u : Counting) (res : Result (Unit {0}) Memory) → x ≡ y → OnOk res (u ≡ counted r y s) → OnOk res (u ≡ counted r x s)
of_form r x y s u res is h = subst (λ z. OnOk res (u ≡ counted r z s)) (sym is) h

pub whole_form : (r : CType) (x y : StmtTree) (s u : Counting) (res : Result (Unit {0}) Memory) → x ≡ y → OnOk res (u ≡ whole_counted r x s) → OnOk res (u ≡ whole_counted r y s)
whole_form r x y s u res is h = subst (λ z. OnOk res (u ≡ whole_counted r z s)) is h

pub declared_form : (r : CType) (x y : StmtTree) (s u : Counting) (res : Result (Unit {0}) Memory) → x ≡ y → OnOk res (u ≡ declaring (statement s.setting r x) s) → OnOk res (u ≡ declaring (statement s.setting r y) s)
declared_form r x y s u res is h = subst (λ z. OnOk res (u ≡ declaring (statement s.setting r z) s)) is h

-- a test at a place was lowered in a setting there
pub condition_took : (p : Place) (e : ExprTree) (c g : Setting) (d f : Draft) (a : Test) (ns : List ℕ) → g ≡ at c p → Did (condition g e) d f a → state c (length f.locals) ns ≡ condition_counted p e (state c (length d.locals) ns)
condition_took p e c g d f a ns same h = took (λ b. c) (condition (at c p) e) d f a c c ns (subst (λ (q : Setting). Did (condition q e) d f a) same h) refl

-- behind a parameter there is one local more, and behind parameters there are more
parameter_extends : (c : Setting) (x : Typed) (n : ℕ) → Extends c (parameter c x n).left
unfolding ◌⨾◌ gives taken
parameter_extends c x n = record { names = x.name.text ∷ []; meanings = locals.Real (type_in (written_type c.scope x.written)) ∷ []; numbers = n ∷ []; is = refl }

parameters_extend : (xs : List Typed) (s : Counting) → Extends s.setting (parameters_counted xs s).setting
parameters_extend [] s = extends_at s.setting s.setting.statement
parameters_extend (x ∷ xs) s = extends_more s.setting (declaring (parameter s.setting x) s).setting _ (parameter_extends s.setting x s.next) (parameters_extend xs (declaring (parameter s.setting x) s))

-- behind a whole function what is declared is what was declared in front of it
pub function_back : (g : WrittenSignature) (b : Body) (s t : Counting) (e : Setting) (k : Mark) → t ≡ whole_function g b s → k ≡ mark_of s.setting → e ≡ back_at k t.setting → e.scope ≡ s.setting.scope
function_back g b s t e k is marked gone =
    let behind = parameters_counted (listed g.parameters) s in
    let more = extends_more s.setting behind.setting (whole_function g b s).setting (parameters_extend (listed g.parameters) s) (all_extend (given s.setting.scope g.«result») (stmt_list b.statements) behind) in
    ap (λ (c : Setting). c.scope) (gone_back s.setting (whole_function g b s).setting e k marked (gone ∙ ap (λ (v : Counting). back_at k v.setting) is) more)
