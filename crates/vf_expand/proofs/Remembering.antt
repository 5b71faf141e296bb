-- What files remember of the headers that they have joined stays right.
use Rattle.std.proofs.Common.{◌≡◌, ◌<◌, ◌≤◌, ◌⊎◌, inl, inr, ⊎_elim, ℕ, zero, suc, ◌+◌, arith, refl, sym, ap, subst, ◌∙◌, cond, Bool, true, false, not, ◌||◌, ◌&&◌, List, [], ◌∷◌, ◌++◌, length, reverse, slice_get, slice_set, Option, Some, None, Result, Ok, Err, IfSome, Ordering, Less, Equal, Greater}
use Rattle.std.specs.BTreeMap.{BTreeMap, get_by, is_at}
use Rattle.std.specs.Ordering.{MatchOrdering, nat_cmp, is_eq}
use Rattle.std.proofs.lemmas.Cmp.{ranked}
use Rattle.std.specs.Global.{Vec}
use Rattle.std.proofs.lemmas.List.{length-append}
use Rattle.std.proofs.lemmas.Option.{slice_get_within}
use Rattle.vf_base.specs.declared.place.Place.{Place}
use Rattle.vf_lexer.specs.declared.token.Token.{Token}
use Rattle.vf_names.specs.Names.{number_of}
use Rattle.vf_names.proofs.Numbering.{name_there}
use Rattle.vf_preproc.specs.declared.join.Join.{Join}
use Rattle.vf_preproc.specs.declared.words.Word.{Word}
use Rattle.vf_preproc.specs.declared.words.Word.TheVariants as words_of
use Rattle.vf_preproc.specs.declared.groups.Group.{Group}
use Rattle.vf_preproc.specs.Macros.{Table, no_macros, is_name, body_of, expansion}
use Rattle.vf_preproc.specs.Keywords.{is_keyword}
use Rattle.vf_preproc.specs.Directives.{Fault, ◌>>=◌, no_directive, no_include, word_of, is_hash, is_taken, is_alone, if_groups, else_groups, end_groups, skipped_group, defined, begins_parameters}
use Rattle.vf_preproc.specs.Targets.{is_ghost_path, target}
use Rattle.vf_preproc.specs.UnitText.{File, Includer, Unit_so_far, Header, Scope, is_mixed, define, with_header, old_header, begun, closed, completed, included, in_groups, grouped, in_macros, in_unit, directed, passed, annotated, directive, with_tokens, line, names_in, unread}
use Rattle.vf_preproc.specs.Joins.{AreBelow, IsEven, IsJoined, Defines, no_more, Grows}
use Rattle.vf_preproc.proofs.Rejoining.{Joins, defines_even, defines_size, joined_begun, joined_grown, stays_grown, defined_defines, with_header_joins, joins_below, joins_grow}
use Rattle.vf_preproc.specs.Scopes.{scope_of}
use Rattle.vf_preproc.specs.Units.{unit_of}
use Rattle.vf_expand.specs.declared.frames.Waiting.{Waiting}
use Rattle.vf_preproc.specs.declared.fault.ExpandFault.{ExpandFault}
use Rattle.vf_preproc.specs.declared.unit.Unit.{Unit as KeptUnit}
use Rattle.vf_preproc.specs.Answers.{Fails}
use Rattle.vf_expand.specs.declared.frames.Open.{Open}
use Rattle.vf_expand.specs.declared.state.Walk.{Walk}
use Rattle.vf_expand.specs.Steps.{old_text}
use Rattle.vf_expand.specs.Remembered.{join_at, header_in, complete_at, IsNamed, IsRemembered, Remembers, AllRemember, WalkRemembers, Keeps}
use Rattle.vf_expand.specs.Wholes.{no_unit}
use Rattle.vf_expand.proofs.Walking.{fails_then}

-- a file that grew remembers what it did
pub remembers_grown : (bound : ℕ) (names : List (List (List ℕ))) (complete : List (Option Header)) (joins : BTreeMap ℕ Join) (old new : Scope) → Grows old new → AreBelow bound new.files → Remembers bound names complete joins old → Remembers bound names complete joins new
remembers_grown bound names complete joins old new g files r = record {
  even = defines_even old.macros new.macros g.macros r.even;
  files = files;
  each = λ n join is.
      let e = r.each n join is in
      let few = e.few in
      let size = defines_size old.macros new.macros g.macros in
      record { below = e.below; few = omega arith; joined = λ header there. joined_grown join names header old new g r.even few (e.joined header there) };
}

-- the first, so many of them, are among the first, if more of them are meant
pub below_more : (m n : ℕ) (files : List ℕ) → m ≤ n → AreBelow m files → AreBelow n files
below_more m n [] more h = tt
below_more m n (f ∷ fs) more (below, rest) = (omega arith, below_more m n fs more rest)

-- and where more headers were begun
pub remembers_more : (m n : ℕ) (names : List (List (List ℕ))) (complete : List (Option Header)) (joins : BTreeMap ℕ Join) (scope : Scope) → m ≤ n → Remembers m names complete joins scope → Remembers n names complete joins scope
remembers_more m n names complete joins scope more r = record {
  even = r.even;
  files = below_more m n scope.files more r.files;
  each = λ k join is. let e = r.each k join is in let below = e.below in record { below = omega arith; few = e.few; joined = e.joined };
}

-- what is complete was so before a header was begun
was_complete : (complete : List (Option Header)) (n : ℕ) (header : Header) → slice_get (complete ++ None ∷ []) n ≡ Some (Some header) → slice_get complete n ≡ Some (Some header)
was_complete [] zero header h = absurd cc
was_complete [] (suc n) header h = absurd cc
was_complete (x ∷ xs) zero header h = h
was_complete (x ∷ xs) (suc n) header h = was_complete xs n header h

-- each header that is complete consists of files whose names are kept
abbrev pub AllBegun : List (List (List ℕ)) → List (Option Header) → Type 0
AllBegun names complete = (n : ℕ) (header : Header) → slice_get complete n ≡ Some (Some header) → AreBelow (length names) header.files

pub remembers_begun : (bound : ℕ) (names : List (List (List ℕ))) (own : List (List ℕ)) (complete : List (Option Header)) (joins : BTreeMap ℕ Join) (scope : Scope) → AllBegun names complete → Remembers bound names complete joins scope → Remembers bound (names ++ own ∷ []) (complete ++ None ∷ []) joins scope
remembers_begun bound names own complete joins scope begun r = record {
  even = r.even;
  files = r.files;
  each = λ n join is. let e = r.each n join is in record {
    below = e.below;
    few = e.few;
    joined = λ header there.
        let was = was_complete complete n header there in
        joined_begun join names own header scope (begun n header was) (e.joined header was);
  };
}

-- and before another one was completed
other_complete : (complete : List (Option Header)) (number n : ℕ) (new : Option Header) → n < number → slice_get (slice_set complete number new) n ≡ slice_get complete n
other_complete [] zero n new below = refl
other_complete [] (suc number) n new below = refl
other_complete (x ∷ xs) zero n new below = absurd (omega arith)
other_complete (x ∷ xs) (suc number) zero new below = refl
other_complete (x ∷ xs) (suc number) (suc n) new below = other_complete xs number n new (omega arith)

pub remembers_completed : (bound number : ℕ) (names : List (List (List ℕ))) (complete : List (Option Header)) (new : Option Header) (joins : BTreeMap ℕ Join) (scope : Scope) → bound ≤ number → Remembers bound names complete joins scope → Remembers bound names (slice_set complete number new) joins scope
remembers_completed bound number names complete new joins scope behind r = record {
  even = r.even;
  files = r.files;
  each = λ n join is.
      let e = r.each n join is in
      let below = e.below in
      record { below = below; few = e.few; joined = λ header there. e.joined header (sym (other_complete complete number n new (omega arith)) ∙ there) };
}

-- a file that has joined nothing remembers nothing
pub remembers_nothing : (bound : ℕ) (names : List (List (List ℕ))) (complete : List (Option Header)) (joins : BTreeMap ℕ Join) (scope : Scope) → joins.entries ≡ [] → IsEven scope.macros → AreBelow bound scope.files → Remembers bound names complete joins scope
remembers_nothing bound names complete joins scope none even files = record {
  even = even;
  files = files;
  each = λ n join is. absurd (never n join is);
}
  where
    empty : (n : ℕ) → get_by (λ k. nat_cmp n k) joins ≡ None
    empty n = rw none refl

    never : (n : ℕ) (join : Join) → join_at joins n ≡ Some join → ⊥
    never n join is = let no = empty n in absurd cc

-- the files that wait
pub all_begun : (m n : ℕ) (names : List (List (List ℕ))) (own : List (List ℕ)) (complete : List (Option Header)) (ws : List Waiting) → AllBegun names complete → m ≤ n → AllRemember m names complete ws → AllRemember n (names ++ own ∷ []) (complete ++ None ∷ []) ws
all_begun m n names own complete [] begun more h = tt
all_begun m n names own complete (w ∷ ws) begun more (below, r, rest) = (omega arith, remembers_begun w.number names own complete w.file.joins (scope_of w.file.scope) begun r, all_begun w.number w.number names own complete ws begun (omega arith) rest)

pub all_completed : (bound number : ℕ) (names : List (List (List ℕ))) (complete : List (Option Header)) (new : Option Header) (ws : List Waiting) → bound ≤ number → AllRemember bound names complete ws → AllRemember bound names (slice_set complete number new) ws
all_completed bound number names complete new [] behind h = tt
all_completed bound number names complete new (w ∷ ws) behind (below, r, rest) = (
  below,
  remembers_completed w.number number names complete new w.file.joins (scope_of w.file.scope) (omega arith) r,
  all_completed w.number number names complete new ws (omega arith) rest,
)

pub all_more : (m n : ℕ) (names : List (List (List ℕ))) (complete : List (Option Header)) (ws : List Waiting) → m ≤ n → AllRemember m names complete ws → AllRemember n names complete ws
all_more m n names complete [] more h = tt
all_more m n names complete (w ∷ ws) more (below, r, rest) = (omega arith, r, rest)

-- a unit and a header beside it
abbrev leaving : Unit_so_far → Header → Result (Unit_so_far × Header) Fault
leaving unit header = Ok (unit, header)

header_out : Header → Result (Unit_so_far × Header) Fault → Header
header_out other (Ok s) = s.1
header_out other (Err e) = other

headers_same : (unit : Unit_so_far) (a b : Header) → leaving unit a ≡ leaving unit b → a ≡ b
unfolding header_out
headers_same unit a b h = ap (header_out a) h

-- a file that was closed leaves the files of which it consists
pub closed_files : (unit : Unit_so_far) (scope : Scope) (gs : List Group) (header : Header) → closed unit scope gs ≡ Ok (unit, header) → header.files ≡ scope.files
closed_files unit scope [] header h =
    let is : record { macros = scope.macros; files = scope.files } ≡ header = headers_same unit (record { macros = scope.macros; files = scope.files }) header h in
    ap (λ (x : Header). x.files) (sym is)
closed_files unit scope (g ∷ gs) header h = absurd cc

-- a name has a number among the names
pub number_below : (names : List (List ℕ)) (name : List ℕ) (k : ℕ) → number_of names name ≡ Some k → k < length names
number_below names name k h = slice_get_within names k name (name_there names name k h)

-- an include of a header that leaves nothing
abbrev nothing_left : Header
nothing_left = record { macros = no_macros; files = [] }

abbrev keeping : Includer
keeping path place unit = Ok (unit, nothing_left)

-- where nothing changed all is kept
pub keeps_all : (unit : Unit_so_far) (scope : Scope) → Keeps unit scope unit scope
keeps_all unit scope = record { paths = refl; names = refl; complete = refl; grows = stays_grown scope; files = refl }

-- a file that grew and consists of what it did
abbrev pub GrowsAlone : Scope → Scope → Type 0
GrowsAlone old new = Grows old new × (new.files ≡ old.files)

bound_in : {A B : Type 0} (r : Result A Fault) (f : A → Result B Fault) (b : B) → r >>= f ≡ Ok b → (a : A) × (r ≡ Ok a) × (f a ≡ Ok b)
bound_in (Ok a) f b h = (a, refl, h)
bound_in (Err e) f b h = absurd cc

-- a unit and a file beside it
abbrev beside : Unit_so_far → Scope → Result (Unit_so_far × Scope) Fault
beside unit scope = Ok (unit, scope)

unit_in : Unit_so_far → Result (Unit_so_far × Scope) Fault → Unit_so_far
unit_in other (Ok s) = s.0
unit_in other (Err e) = other

scope_in : Scope → Result (Unit_so_far × Scope) Fault → Scope
scope_in other (Ok s) = s.1
scope_in other (Err e) = other

units_same : (unit after : Unit_so_far) (scope new : Scope) → beside unit scope ≡ beside after new → unit ≡ after
unfolding unit_in
units_same unit after scope new h = ap (unit_in unit) h

scopes_same : (unit after : Unit_so_far) (scope new : Scope) → beside unit scope ≡ beside after new → scope ≡ new
unfolding scope_in
scopes_same unit after scope new h = ap (scope_in scope) h

keeps_unit : (unit after : Unit_so_far) (scope new : Scope) (r : Result Scope Fault) → in_unit unit r ≡ beside after new → ((s : Scope) → r ≡ Ok s → GrowsAlone scope s) → Keeps unit scope after new
keeps_unit unit after scope new (Err e) h grows = absurd cc
keeps_unit unit after scope new (Ok s) h grows =
    let units = units_same unit after s new h in
    let scopes = scopes_same unit after s new h in
    subst (λ u. Keeps unit scope u new) units (subst (λ t. Keeps unit scope unit t) scopes (record { paths = refl; names = refl; complete = refl; grows = (grows s refl).0; files = (grows s refl).1 }))

keeps_groups : (scope s : Scope) (gs : Result (List Group) Fault) → in_groups scope gs ≡ Ok s → GrowsAlone scope s
keeps_groups scope s (Err e) h = absurd cc
keeps_groups scope s (Ok gs) h = let is : record scope { groups = gs } ≡ s = cc in subst (GrowsAlone scope) is (record { files = λ f there. there; macros = no_more scope.macros }, refl)

grouped_grows : (mixed : Bool) (hash : Place) (words : List Token) (scope s : Scope) (word : Word) → grouped mixed hash words scope word ≡ Ok s → GrowsAlone scope s
grouped_grows mixed hash words scope s words_of.IfDefined h = keeps_groups scope s (if_groups mixed true scope.macros hash words scope.groups) h
grouped_grows mixed hash words scope s words_of.IfNotDefined h = keeps_groups scope s (if_groups mixed false scope.macros hash words scope.groups) h
grouped_grows mixed hash words scope s words_of.Else h = keeps_groups scope s (else_groups (mixed || not (is_alone words)) hash scope.groups) h
grouped_grows mixed hash words scope s words_of.EndIf h = keeps_groups scope s (end_groups (mixed || not (is_alone words)) hash scope.groups) h
grouped_grows mixed hash words scope s words_of.Include h = absurd cc
grouped_grows mixed hash words scope s words_of.Define h = absurd cc
grouped_grows mixed hash words scope s words_of.Other h = absurd cc

define_grows : (mixed : Bool) (hash : Place) (words : List Token) (scope s : Scope) → in_macros scope (define mixed hash words scope.macros) ≡ Ok s → GrowsAlone scope s
define_grows mixed hash words scope s h =
    let b = bound_in (define mixed hash words scope.macros) (λ t. Ok (record scope { macros = t })) s h in
    let is : record scope { macros = b.0 } ≡ s = cc in
    subst (GrowsAlone scope) is (record { files = λ f there. there; macros = by_words words b.0 b.1 }, refl)
  where
    by_keyword : (name : Token) (tokens : List Token) (t : Table) (k : Bool) → cond k (no_directive name.place) (defined name.place name.text tokens scope.macros (body_of scope.macros name.text)) ≡ Ok t → Defines scope.macros t
    by_keyword name tokens t true e = absurd cc
    by_keyword name tokens t false e = defined_defines name.place name.text tokens scope.macros t e

    by_mixed : (name : Token) (tokens : List Token) (t : Table) (m : Bool) → cond m (no_directive hash) (cond (is_keyword name.text || begins_parameters name tokens) (no_directive name.place) (defined name.place name.text tokens scope.macros (body_of scope.macros name.text))) ≡ Ok t → Defines scope.macros t
    by_mixed name tokens t true e = absurd cc
    by_mixed name tokens t false e = by_keyword name tokens t (is_keyword name.text || begins_parameters name tokens) e

    by_words : (ws : List Token) (t : Table) → define mixed hash ws scope.macros ≡ Ok t → Defines scope.macros t
    by_words [] t e = absurd cc
    by_words (w ∷ []) t e = absurd cc
    by_words (w ∷ name ∷ tokens) t e = by_mixed name tokens t (mixed || not (is_name name)) e

included_keeps : (file : File) (hash : Place) (ghost : Bool) (words : List Token) (unit after : Unit_so_far) (scope new : Scope) → included keeping file hash ghost words unit scope ≡ beside after new → Keeps unit scope after new
included_keeps file hash ghost words unit after scope new h =
    let p = bound_in (target ghost file.path file.bytes hash words) (λ path. with_header ghost hash unit.names nothing_left scope >>= λ s. beside unit s) (after, new) h in
    let s = bound_in (with_header ghost hash unit.names nothing_left scope) (λ t. beside unit t) (after, new) p.2 in
    let units = units_same unit after s.0 new s.2 in
    let scopes = scopes_same unit after s.0 new s.2 in
    let joins = with_header_joins ghost hash unit.names nothing_left scope s.0 s.1 in
    subst (λ u. Keeps unit scope u new) units (subst (λ t. Keeps unit scope unit t) scopes (record { paths = refl; names = refl; complete = refl; grows = joins_grow ghost hash unit.names nothing_left scope s.0 joins; files = joins.files }))

in_same : (unit after : Unit_so_far) (scope new : Scope) → beside unit scope ≡ beside after new → Keeps unit scope after new
in_same unit after scope new h =
    let units = units_same unit after scope new h in
    let scopes = scopes_same unit after scope new h in
    subst (λ u. Keeps unit scope u new) units (subst (λ t. Keeps unit scope unit t) scopes (keeps_all unit scope))

directed_keeps : (file : File) (hash : Token) (words : List Token) (unit after : Unit_so_far) (scope new : Scope) (word : Word) → directed keeping file hash words unit scope word ≡ beside after new → Keeps unit scope after new
directed_keeps file hash words unit after scope new words_of.Include h = by_mixed (is_mixed file words) h
  where
    by_mixed : (m : Bool) → cond m (no_directive hash.place) (included keeping file hash.place hash.is_ghost words unit scope) ≡ beside after new → Keeps unit scope after new
    by_mixed true e = absurd cc
    by_mixed false e = included_keeps file hash.place hash.is_ghost words unit after scope new e
directed_keeps file hash words unit after scope new words_of.Define h =
    keeps_unit unit after scope new (in_macros scope (define (is_mixed file words) hash.place words scope.macros)) h (λ s is. define_grows (is_mixed file words) hash.place words scope s is)
directed_keeps file hash words unit after scope new words_of.IfDefined h = keeps_unit unit after scope new _ h (λ s is. grouped_grows (is_mixed file words) hash.place words scope s words_of.IfDefined is)
directed_keeps file hash words unit after scope new words_of.IfNotDefined h = keeps_unit unit after scope new _ h (λ s is. grouped_grows (is_mixed file words) hash.place words scope s words_of.IfNotDefined is)
directed_keeps file hash words unit after scope new words_of.Else h = keeps_unit unit after scope new _ h (λ s is. grouped_grows (is_mixed file words) hash.place words scope s words_of.Else is)
directed_keeps file hash words unit after scope new words_of.EndIf h = keeps_unit unit after scope new _ h (λ s is. grouped_grows (is_mixed file words) hash.place words scope s words_of.EndIf is)
directed_keeps file hash words unit after scope new words_of.Other h = absurd cc

skipped_keeps : (hash : Place) (unit after : Unit_so_far) (scope new : Scope) → beside unit (record scope { groups = skipped_group hash ∷ scope.groups }) ≡ beside after new → Keeps unit scope after new
skipped_keeps hash unit after scope new h =
    let units = units_same unit after (record scope { groups = skipped_group hash ∷ scope.groups }) new h in
    let scopes = scopes_same unit after (record scope { groups = skipped_group hash ∷ scope.groups }) new h in
    subst (λ u. Keeps unit scope u new) units (subst (λ t. Keeps unit scope unit t) scopes (record { paths = refl; names = refl; complete = refl; grows = record { files = λ f there. there; macros = no_more scope.macros }; files = refl }))

passed_keeps : (file : File) (hash : Token) (words : List Token) (unit after : Unit_so_far) (scope new : Scope) (word : Word) → passed file hash words unit scope word ≡ beside after new → Keeps unit scope after new
passed_keeps file hash words unit after scope new words_of.IfDefined h = skipped_keeps hash.place unit after scope new h
passed_keeps file hash words unit after scope new words_of.IfNotDefined h = skipped_keeps hash.place unit after scope new h
passed_keeps file hash words unit after scope new words_of.Else h = keeps_unit unit after scope new _ h (λ s is. grouped_grows (is_mixed file words) hash.place words scope s words_of.Else is)
passed_keeps file hash words unit after scope new words_of.EndIf h = keeps_unit unit after scope new _ h (λ s is. grouped_grows (is_mixed file words) hash.place words scope s words_of.EndIf is)
passed_keeps file hash words unit after scope new words_of.Include h = in_same unit after scope new h
passed_keeps file hash words unit after scope new words_of.Define h = in_same unit after scope new h
passed_keeps file hash words unit after scope new words_of.Other h = in_same unit after scope new h

annotated_keeps : (file : File) (hash : Token) (words : List Token) (unit after : Unit_so_far) (scope new : Scope) (word : Word) → annotated keeping file hash words unit scope word ≡ beside after new → Keeps unit scope after new
annotated_keeps file hash words unit after scope new words_of.Include h = included_keeps file hash.place true words unit after scope new h
annotated_keeps file hash words unit after scope new words_of.Define h = absurd cc
annotated_keeps file hash words unit after scope new words_of.IfDefined h = absurd cc
annotated_keeps file hash words unit after scope new words_of.IfNotDefined h = absurd cc
annotated_keeps file hash words unit after scope new words_of.Else h = absurd cc
annotated_keeps file hash words unit after scope new words_of.EndIf h = absurd cc
annotated_keeps file hash words unit after scope new words_of.Other h = absurd cc

directive_keeps : (file : File) (hash : Token) (words : List Token) (unit after : Unit_so_far) (scope new : Scope) → directive keeping file hash words unit scope ≡ beside after new → Keeps unit scope after new
directive_keeps file hash words unit after scope new h = by_ghost (hash.is_ghost && not (is_ghost_path file.path)) h
  where
    in_annotation : (t : Bool) → cond t (annotated keeping file hash words unit scope (word_of words)) (beside unit scope) ≡ beside after new → Keeps unit scope after new
    in_annotation true e = annotated_keeps file hash words unit after scope new (word_of words) e
    in_annotation false e = in_same unit after scope new e

    in_text : (t : Bool) → cond t (directed keeping file hash words unit scope (word_of words)) (passed file hash words unit scope (word_of words)) ≡ beside after new → Keeps unit scope after new
    in_text true e = directed_keeps file hash words unit after scope new (word_of words) e
    in_text false e = passed_keeps file hash words unit after scope new (word_of words) e

    by_ghost : (g : Bool) → cond g (cond (is_taken scope.groups) (annotated keeping file hash words unit scope (word_of words)) (beside unit scope)) (cond (is_taken scope.groups) (directed keeping file hash words unit scope (word_of words)) (passed file hash words unit scope (word_of words))) ≡ beside after new → Keeps unit scope after new
    by_ghost true e = in_annotation (is_taken scope.groups) e
    by_ghost false e = in_text (is_taken scope.groups) e

line_keeping : (file : File) (tokens : List Token) (unit after : Unit_so_far) (scope new : Scope) → line keeping file tokens unit scope ≡ beside after new → Keeps unit scope after new
line_keeping file [] unit after scope new h = in_same unit after scope new h
line_keeping file (t ∷ ts) unit after scope new h = by_hash (is_hash t) h
  where
    tokens_keep : (g : Bool) (more : List Token) → beside (cond g (with_tokens unit more) unit) scope ≡ beside after new → Keeps unit scope after new
    tokens_keep false more e = in_same unit after scope new e
    tokens_keep true more e =
        let units = units_same (with_tokens unit more) after scope new e in
        let scopes = scopes_same (with_tokens unit more) after scope new e in
        subst (λ u. Keeps unit scope u new) units (subst (λ s. Keeps unit scope (with_tokens unit more) s) scopes (record { paths = refl; names = refl; complete = refl; grows = stays_grown scope; files = refl }))

    by_hash : (b : Bool) → cond b (directive keeping file t ts unit scope) (beside (cond (is_taken scope.groups) (with_tokens unit (expansion scope.macros (t ∷ ts))) unit) scope) ≡ beside after new → Keeps unit scope after new
    by_hash true e = directive_keeps file t ts unit after scope new e
    by_hash false e = tokens_keep (is_taken scope.groups) (expansion scope.macros (t ∷ ts)) e

-- a line that is done keeps what is remembered
pub line_keeps : (file : File) (tokens : List Token) (unit after : Unit_so_far) (scope new : Scope) → ((include : Includer) → line include file tokens unit scope ≡ beside after new) → Keeps unit scope after new
line_keeps file tokens unit after scope new h = line_keeping file tokens unit after scope new (h keeping)

-- so does one that is an include, of which only tokens could have come
pub same_keeps : (unit after : Unit_so_far) (scope new : Scope) (tokens : List Token) → after ≡ record unit { tokens = tokens } → new ≡ scope → Keeps unit scope after new
same_keeps unit after scope new tokens units scopes = record {
  paths = ap (λ (u : Unit_so_far). u.paths) units;
  names = ap (λ (u : Unit_so_far). u.names) units;
  complete = ap (λ (u : Unit_so_far). u.complete) units;
  grows = subst (Grows scope) (sym scopes) (stays_grown scope);
  files = ap (λ (s : Scope). s.files) scopes;
}

-- a number is found at itself alone
at_itself : (a b : ℕ) → is_at (λ k. nat_cmp a k) b ≡ true → a ≡ b
at_itself a b h = by_answer (nat_cmp a b) h (ranked a b (nat_cmp a b) refl)
  where
    by_answer : (o : Ordering) → is_eq o ≡ true → MatchOrdering o (a < b) (a ≡ b) (b < a) → a ≡ b
    by_answer Less is told = absurd cc
    by_answer Equal is told = told
    by_answer Greater is told = absurd cc

-- what is remembered of a header that has joined is so, and what else was remembered too
pub remembers_joined : (bound : ℕ) (names : List (List (List ℕ))) (complete : List (Option Header)) (old new : BTreeMap ℕ Join) (scope after : Scope) (number : ℕ) (join : Join) (header : Header)
    → Remembers bound names complete old scope → Grows scope after → AreBelow bound after.files → number < bound → slice_get complete number ≡ Some (Some header) → IsJoined join names header after → join.known ≡ length after.macros.names
    → ((q : ℕ) → join_at new q ≡ cond (is_at (λ k. nat_cmp number k) q) (Some join) (join_at old q)) → Remembers bound names complete new after
remembers_joined bound names complete old new scope after number join header r grows files below there joined all updates =
    let g = remembers_grown bound names complete old scope after grows files r in
    record { even = g.even; files = g.files; each = λ n j is. by_test g n j (is_at (λ k. nat_cmp number k) n) refl (sym (updates n) ∙ is) }
  where
    one : (h : Header) → slice_get complete number ≡ Some (Some h) → IsJoined join names h after
    one h at = let same : header ≡ h = cc in subst (λ x. IsJoined join names x after) same joined

    by_test : Remembers bound names complete old after → (n : ℕ) (j : Join) (b : Bool) → is_at (λ k. nat_cmp number k) n ≡ b → cond b (Some join) (join_at old n) ≡ Some j → IsRemembered bound names complete n j after
    by_test g n j true at is =
        let here : number ≡ n = at_itself number n at in
        let this : join ≡ j = cc in
        subst (λ m. IsRemembered bound names complete m j after) here (subst (λ x. IsRemembered bound names complete number x after) this (record { below = below; few = omega (arith, all); joined = one }))
    by_test g n j false at is = g.each n j is

-- what is remembered of a complete header tells how it has joined
pub known_joined : (bound : ℕ) (names : List (List (List ℕ))) (complete : List (Option Header)) (joins : BTreeMap ℕ Join) (scope : Scope) (number : ℕ) (header : Header) (o : Option Join) → Remembers bound names complete joins scope → slice_get complete number ≡ Some (Some header) → o ≡ join_at joins number → IfSome o (λ join. IsJoined join names header scope)
known_joined bound names complete joins scope number header None r there is = tt
known_joined bound names complete joins scope number header (Some join) r there is = (r.each number join (sym is)).joined header there

-- a header that is complete stands among the files that were begun
pub complete_there : (o : Option (Option Header)) (header : Header) → header_in o ≡ Some header → o ≡ Some (Some header)
complete_there None header h = absurd cc
complete_there (Some None) header h = absurd cc
complete_there (Some (Some x)) header h = let is : x ≡ header = cc in rw is refl

-- one that is not is refused
pub incomplete : (hash : Place) (ghost : Bool) (unit : Unit_so_far) (number : ℕ) (scope : Scope) → complete_at unit number ≡ None → old_text hash ghost unit number scope ≡ no_include hash
incomplete hash ghost unit number scope h = by_header (slice_get unit.complete number) h
  where
    by_header : (o : Option (Option Header)) → header_in o ≡ None → (old_header hash unit o >>= λ found. with_header ghost hash found.0.names found.1 scope >>= λ s. beside found.0 s) ≡ no_include hash
    by_header None none = refl
    by_header (Some None) none = refl
    by_header (Some (Some x)) none = absurd cc

-- a header that was begun before joins, or it is refused
pub old_joins : (hash : Place) (ghost : Bool) (unit : Unit_so_far) (number : ℕ) (header : Header) (scope new : Scope) → slice_get unit.complete number ≡ Some (Some header) → with_header ghost hash unit.names header scope ≡ Ok new → old_text hash ghost unit number scope ≡ Ok (unit, new)
old_joins hash ghost unit number header scope new there h = rw (there, h) refl

pub old_refused : (hash : Place) (ghost : Bool) (unit : Unit_so_far) (number : ℕ) (header : Header) (scope : Scope) (e : ExpandFault) → slice_get unit.complete number ≡ Some (Some header) → Fails e (with_header ghost hash unit.names header scope) → Fails e (old_text hash ghost unit number scope)
old_refused hash ghost unit number header scope e there h =
    subst (Fails e) (ap (λ o. old_header hash unit o >>= λ found. with_header ghost hash found.0.names found.1 scope >>= λ s. beside found.0 s) (sym there)) (fails_then e (with_header ghost hash unit.names header scope) _ h)

-- the names that are kept, and the headers that are complete, are those of as many files as were begun
named_kept : (unit after : Unit_so_far) → after.paths ≡ unit.paths → after.names ≡ unit.names → after.complete ≡ unit.complete → IsNamed unit → IsNamed after
named_kept unit after paths names complete is = record {
  named = ap length names ∙ is.named ∙ ap length (sym paths);
  begun = λ n header there. subst (λ ps. AreBelow (length ps) header.files) (sym paths) (is.begun n header (ap (λ cs. slice_get cs n) (sym complete) ∙ there));
}

all_named : (unit : Unit_so_far) → IsNamed unit → AllBegun unit.names unit.complete
all_named unit is = λ n header there. subst (λ m. AreBelow m header.files) (sym is.named) (is.begun n header there)

-- a walk goes on in a file that grew
pub walk_goes : (walk new : Walk) → WalkRemembers walk → Keeps (unit_of walk.unit) (scope_of walk.current.scope) (unit_of new.unit) (scope_of new.current.scope) → new.current.joins ≡ walk.current.joins → new.stack ≡ walk.stack → WalkRemembers new
walk_goes walk new r keeps joins stack = record {
  named = named_kept (unit_of walk.unit) (unit_of new.unit) keeps.paths keeps.names keeps.complete r.named;
  current = subst (λ n. Remembers n new.unit.names (unit_of new.unit).complete new.current.joins (scope_of new.current.scope)) (sym size)
      (subst (λ ns. Remembers (length walk.unit.paths) ns (unit_of new.unit).complete new.current.joins (scope_of new.current.scope)) (sym keeps.names)
      (subst (λ c. Remembers (length walk.unit.paths) walk.unit.names c new.current.joins (scope_of new.current.scope)) (sym keeps.complete)
      (subst (λ j. Remembers (length walk.unit.paths) walk.unit.names (unit_of walk.unit).complete j (scope_of new.current.scope)) (sym joins)
      (remembers_grown (length walk.unit.paths) walk.unit.names (unit_of walk.unit).complete walk.current.joins (scope_of walk.current.scope) (scope_of new.current.scope) keeps.grows
      (subst (AreBelow (length walk.unit.paths)) (sym keeps.files) r.current.files) r.current))));
  stack = subst (λ n. AllRemember n new.unit.names (unit_of new.unit).complete (reverse new.stack.items)) (sym size)
      (subst (λ ns. AllRemember (length walk.unit.paths) ns (unit_of new.unit).complete (reverse new.stack.items)) (sym keeps.names)
      (subst (λ c. AllRemember (length walk.unit.paths) walk.unit.names c (reverse new.stack.items)) (sym keeps.complete)
      (subst (λ (s : Vec Waiting). AllRemember (length walk.unit.paths) walk.unit.names (unit_of walk.unit).complete (reverse s.items)) (sym stack) r.stack)));
}
  where
    size : length new.unit.paths ≡ length walk.unit.paths
    size = ap length keeps.paths

-- a unit that begins a file
named_begun : (unit : Unit_so_far) (headers : List ℕ) (path : List ℕ) (tokens : List Token) → IsNamed unit → IsNamed (begun (record unit { headers = headers }) path tokens)
named_begun unit headers path tokens is = record {
  named = length-append unit.names (names_in tokens ∷ []) ∙ ap (λ n. n + 1) is.named ∙ sym (length-append unit.paths (path ∷ []));
  begun = λ n header there.
      let more = length-append unit.paths (path ∷ []) in
      below_more (length unit.paths) (length (unit.paths ++ path ∷ [])) header.files (omega arith) (is.begun n header (was_complete unit.complete n header there));
}

-- a header is begun: the file that includes it waits
pub walk_begins : (walk new : Walk) (waiting : Waiting) (headers : List ℕ) (path : List ℕ) (tokens : List Token) → WalkRemembers walk → waiting.file ≡ walk.current → waiting.number ≡ length walk.unit.paths
    → unit_of new.unit ≡ begun (record (unit_of walk.unit) { headers = headers }) path tokens → reverse new.stack.items ≡ waiting ∷ reverse walk.stack.items → new.current.joins.entries ≡ [] → scope_of new.current.scope ≡ unread waiting.number → WalkRemembers new
walk_begins walk new waiting headers path tokens r file number unit stack none scope = record {
  named = subst IsNamed (sym unit) (named_begun (unit_of walk.unit) headers path tokens r.named);
  current = remembers_nothing (length new.unit.paths) new.unit.names (unit_of new.unit).complete new.current.joins (scope_of new.current.scope) none
      (subst (λ (s : Scope). IsEven s.macros) (sym scope) refl)
      (subst (λ (s : Scope). AreBelow (length new.unit.paths) s.files) (sym scope) (omega (arith, size, number), tt));
  stack = subst (λ ws. AllRemember (length new.unit.paths) new.unit.names (unit_of new.unit).complete ws) (sym stack)
      (subst (λ ns. AllRemember (length new.unit.paths) ns (unit_of new.unit).complete (waiting ∷ reverse walk.stack.items)) (sym names)
      (subst (λ c. AllRemember (length new.unit.paths) (walk.unit.names ++ names_in tokens ∷ []) c (waiting ∷ reverse walk.stack.items)) (sym complete)
      (omega (arith, size, number), inner, outer)));
}
  where
    paths : new.unit.paths ≡ walk.unit.paths ++ path ∷ []
    paths = ap (λ (u : Unit_so_far). u.paths) unit

    size : length new.unit.paths ≡ length walk.unit.paths + 1
    size = ap length paths ∙ length-append walk.unit.paths (path ∷ [])

    names : new.unit.names ≡ walk.unit.names ++ names_in tokens ∷ []
    names = ap (λ (u : Unit_so_far). u.names) unit

    complete : (unit_of new.unit).complete ≡ (unit_of walk.unit).complete ++ None ∷ []
    complete = ap (λ (u : Unit_so_far). u.complete) unit

    inner : Remembers waiting.number (walk.unit.names ++ names_in tokens ∷ []) ((unit_of walk.unit).complete ++ None ∷ []) waiting.file.joins (scope_of waiting.file.scope)
    inner = subst (λ n. Remembers n (walk.unit.names ++ names_in tokens ∷ []) ((unit_of walk.unit).complete ++ None ∷ []) waiting.file.joins (scope_of waiting.file.scope)) (sym number)
        (subst (λ (o : Open). Remembers (length walk.unit.paths) (walk.unit.names ++ names_in tokens ∷ []) ((unit_of walk.unit).complete ++ None ∷ []) o.joins (scope_of o.scope)) (sym file)
        (remembers_begun (length walk.unit.paths) walk.unit.names (names_in tokens) (unit_of walk.unit).complete walk.current.joins (scope_of walk.current.scope) (all_named (unit_of walk.unit) r.named) r.current))

    outer : AllRemember waiting.number (walk.unit.names ++ names_in tokens ∷ []) ((unit_of walk.unit).complete ++ None ∷ []) (reverse walk.stack.items)
    outer = all_begun (length walk.unit.paths) waiting.number walk.unit.names (names_in tokens) (unit_of walk.unit).complete (reverse walk.stack.items) (all_named (unit_of walk.unit) r.named) (omega (arith, number)) r.stack

-- what is complete is a header that became so, or was so before
now_complete : (complete : List (Option Header)) (number n : ℕ) (new header : Header) → slice_get (slice_set complete number (Some new)) n ≡ Some (Some header) → (new ≡ header) ⊎ (slice_get complete n ≡ Some (Some header))
now_complete [] zero n new header h = inr h
now_complete [] (suc number) n new header h = inr h
now_complete (x ∷ xs) zero zero new header h = let is : new ≡ header = cc in inl is
now_complete (x ∷ xs) zero (suc n) new header h = inr h
now_complete (x ∷ xs) (suc number) zero new header h = inr h
now_complete (x ∷ xs) (suc number) (suc n) new header h = now_complete xs number n new header h

named_completed : (number : ℕ) (unit : Unit_so_far) (header : Header) → AreBelow (length unit.paths) header.files → IsNamed unit → IsNamed (completed number unit header)
named_completed number unit header below is = record {
  named = is.named;
  begun = λ n h there. ⊎_elim (λ same. subst (λ (x : Header). AreBelow (length unit.paths) x.files) same below) (λ was. is.begun n h was) (now_complete unit.complete number n header h there);
}

-- a header is complete: the file that waited for it goes on
pub walk_resumes : (unit after : KeptUnit) (waiting : Waiting) (ws : List Waiting) (new : Walk) (header : Header) → IsNamed (unit_of unit) → AreBelow (length unit.paths) header.files → AllRemember (length unit.paths) unit.names (unit_of unit).complete (waiting ∷ ws)
    → with_header waiting.is_ghost waiting.hash unit.names header (scope_of waiting.file.scope) ≡ Ok (scope_of new.current.scope)
    → unit_of after ≡ completed waiting.number (unit_of unit) header → new.unit ≡ after → reverse new.stack.items ≡ ws → new.current.joins ≡ waiting.file.joins → WalkRemembers new
walk_resumes unit after waiting ws new header named files (below, inner, outer) joined done units stack joins = record {
  named = subst IsNamed (sym made) (named_completed waiting.number (unit_of unit) header files named);
  current = subst (λ j. Remembers (length new.unit.paths) new.unit.names (unit_of new.unit).complete j (scope_of new.current.scope)) (sym joins)
      (subst (λ c. Remembers (length new.unit.paths) new.unit.names c waiting.file.joins (scope_of new.current.scope)) (sym complete)
      (subst (λ ns. Remembers (length new.unit.paths) ns (slice_set (unit_of unit).complete waiting.number (Some header)) waiting.file.joins (scope_of new.current.scope)) (sym names)
      (subst (λ n. Remembers n unit.names (slice_set (unit_of unit).complete waiting.number (Some header)) waiting.file.joins (scope_of new.current.scope)) (sym size)
      (remembers_grown (length unit.paths) unit.names (slice_set (unit_of unit).complete waiting.number (Some header)) waiting.file.joins (scope_of waiting.file.scope) (scope_of new.current.scope) grows new_files
      (remembers_more waiting.number (length unit.paths) unit.names (slice_set (unit_of unit).complete waiting.number (Some header)) waiting.file.joins (scope_of waiting.file.scope) (omega (arith, below))
      (remembers_completed waiting.number waiting.number unit.names (unit_of unit).complete (Some header) waiting.file.joins (scope_of waiting.file.scope) (omega arith) inner))))));
  stack = subst (λ ws. AllRemember (length new.unit.paths) new.unit.names (unit_of new.unit).complete ws) (sym stack)
      (subst (λ c. AllRemember (length new.unit.paths) new.unit.names c ws) (sym complete)
      (subst (λ ns. AllRemember (length new.unit.paths) ns (slice_set (unit_of unit).complete waiting.number (Some header)) ws) (sym names)
      (all_more waiting.number (length new.unit.paths) unit.names (slice_set (unit_of unit).complete waiting.number (Some header)) ws (omega (arith, size, below))
      (all_completed waiting.number waiting.number unit.names (unit_of unit).complete (Some header) ws (omega arith) outer))));
}
  where
    made : unit_of new.unit ≡ completed waiting.number (unit_of unit) header
    made = ap unit_of units ∙ done

    size : length new.unit.paths ≡ length unit.paths
    size = ap (λ (u : Unit_so_far). length u.paths) made

    names : new.unit.names ≡ unit.names
    names = ap (λ (u : Unit_so_far). u.names) made

    complete : (unit_of new.unit).complete ≡ slice_set (unit_of unit).complete waiting.number (Some header)
    complete = ap (λ (u : Unit_so_far). u.complete) made

    whole : Joins waiting.is_ghost waiting.hash unit.names header (scope_of waiting.file.scope) (scope_of new.current.scope)
    whole = with_header_joins waiting.is_ghost waiting.hash unit.names header (scope_of waiting.file.scope) (scope_of new.current.scope) joined

    grows : Grows (scope_of waiting.file.scope) (scope_of new.current.scope)
    grows = joins_grow waiting.is_ghost waiting.hash unit.names header (scope_of waiting.file.scope) (scope_of new.current.scope) whole

    new_files : AreBelow (length unit.paths) (scope_of new.current.scope).files
    new_files = joins_below (length unit.paths) waiting.is_ghost waiting.hash unit.names header (scope_of waiting.file.scope) (scope_of new.current.scope) whole (below_more waiting.number (length unit.paths) (scope_of waiting.file.scope).files (omega (arith, below)) inner.files) files

-- a walk at its beginning
pub walk_starts : (walk : Walk) (path : List ℕ) (tokens : List Token) → unit_of walk.unit ≡ begun no_unit path tokens → walk.stack.items ≡ [] → walk.current.joins.entries ≡ [] → scope_of walk.current.scope ≡ unread 0 → WalkRemembers walk
walk_starts walk path tokens unit stack none scope = record {
  named = subst IsNamed (sym unit) (record { named = refl; begun = λ n header there. absurd (never n header there) });
  current = remembers_nothing (length walk.unit.paths) walk.unit.names (unit_of walk.unit).complete walk.current.joins (scope_of walk.current.scope) none
      (subst (λ (s : Scope). IsEven s.macros) (sym scope) refl)
      (subst (λ (s : Scope). AreBelow (length walk.unit.paths) s.files) (sym scope) (omega (arith, size), tt));
  stack = subst (λ ws. AllRemember (length walk.unit.paths) walk.unit.names (unit_of walk.unit).complete (reverse ws)) (sym stack) tt;
}
  where
    size : length walk.unit.paths ≡ 1
    size = ap (λ (u : Unit_so_far). length u.paths) unit

    never : (n : ℕ) (header : Header) → slice_get (None ∷ []) n ≡ Some (Some header) → ⊥
    never zero header h = absurd cc
    never (suc n) header h = absurd cc
