-- How each step of the walk keeps what is made of the unit in the end.
use Rattle.std.proofs.Common.{◌≡◌, ◌<◌, ◌≤◌, ◌-◌, ℕ, suc, List, [], ◌∷◌, ◌++◌, length, map, reverse, Some, None, Result, Ok, Err, slice_get, IfOk, IfErr, arith, refl, sym, ap, subst, ◌∙◌}
use Rattle.vf_names.specs.Names.{number_of}
use Rattle.vf_lexer.specs.declared.token.Token.{Token}
use Rattle.vf_preproc.specs.declared.fault.ExpandFault.{ExpandFault}
use Rattle.vf_preproc.specs.declared.fault.ExpandFault.TheVariants as faults
use Rattle.vf_preproc.specs.declared.sources.Loaded.{Loaded}
use Rattle.vf_preproc.specs.Directives.{Fault, ◌>>=◌, lines_of, no_include}
use Rattle.vf_preproc.specs.Answers.{Fails}
use Rattle.vf_preproc.specs.UnitText.{File, Includer, Library, Unit_so_far, Header, Scope, line, followed, closed, with_header, completed, header_at, any_header, old_header, new_header, loaded, begun, unread}
use Rattle.vf_expand.specs.declared.frames.Include.{Include}
use Rattle.std.proofs.lemmas.List.{reverse-append, length-map, length-reverse}
use Rattle.vf_expand.specs.declared.frames.Waiting.{Waiting}
use Rattle.vf_expand.specs.Walks.{Going, Pause, going_text, after_header, resumed, text_from, pauses_of, pause_of, going_of}
use Rattle.vf_base.specs.declared.rule.Rule.TheVariants as rules_of
use Rattle.vf_base.specs.declared.refusal.Shown.TheVariants as shown
use Rattle.vf_preproc.specs.Units.{unit_of}
use Rattle.vf_expand.specs.declared.state.Walk.{Walk}
use Rattle.vf_expand.specs.Steps.{line_with, include_text, Faults, old_text, walk_include_text, WalkGives, Begins, IsOwn}

-- a fault of what one file means is one of the walk
pub fails_faults : {A : Type 0} (e : ExpandFault) (r : Result A Fault) → Fails e r → Faults e r
fails_faults (faults.Refused x) r h = h
fails_faults faults.Missing r h = absurd h
fails_faults faults.ReadFault r h = tt
fails_faults faults.Memory r h = tt

-- a fault stays the same whatever was to come
pub faults_then : {A B : Type 0} (e : ExpandFault) (r : Result A Fault) (f : A → Result B Fault) → Faults e r → Faults e (r >>= f)
faults_then (faults.Refused x) r f h = (ap (λ q. q >>= f) h.0, h.1)
faults_then faults.Missing r f h = absurd h
faults_then faults.ReadFault r f h = tt
faults_then faults.Memory r f h = tt

pub fails_then : {A B : Type 0} (e : ExpandFault) (r : Result A Fault) (f : A → Result B Fault) → Fails e r → Fails e (r >>= f)
fails_then (faults.Refused x) r f h = (ap (λ q. q >>= f) h.0, h.1)
fails_then faults.Missing r f h = absurd h
fails_then faults.ReadFault r f h = absurd h
fails_then faults.Memory r f h = tt

-- and whatever files wait
pub faults_resumed : (library : Library) (pauses : List Pause) (e : ExpandFault) (r : Result (Unit_so_far × Header) Fault) → Faults e r → Faults e (resumed library pauses r)
faults_resumed library [] e r h = h
faults_resumed library (p ∷ ps) e r h = faults_resumed library ps e _ (faults_then e r _ h)

-- going on twice
pub then_then : {A B C : Type 0} (r : Result A Fault) (f : A → Result B Fault) (g : B → Result C Fault) → (r >>= f) >>= g ≡ r >>= λ x. f x >>= g
then_then (Ok x) f g = refl
then_then (Err e) f g = refl

-- a unit and a file beside it
abbrev beside : Unit_so_far → Scope → Result (Unit_so_far × Scope) Fault
beside unit scope = Ok (unit, scope)

-- a line that is done is left behind
pub line_done : (include : Includer) (file : File) (l : List Token) (ls : List (List Token)) (unit after : Unit_so_far) (scope new : Scope) → line include file l unit scope ≡ Ok (after, new)
    → going_text include (record { file = file; lines = l ∷ ls; scope = scope }) unit ≡ going_text include (record { file = file; lines = ls; scope = new }) after
line_done include file l ls unit after scope new h = ap (λ q. (q >>= λ s. followed include file ls s.0 s.1) >>= λ s. closed s.0 s.1 s.1.groups) h

-- a line that is an include is the include and what comes behind it
pub line_include : (include : Includer) (file : File) (l : List Token) (ls : List (List Token)) (unit after : Unit_so_far) (scope new : Scope) (i : Include) → line include file l unit scope ≡ line_with include i after new
    → going_text include (record { file = file; lines = l ∷ ls; scope = scope }) unit ≡ include_text include i (record { file = file; lines = ls; scope = new }) after
line_include include file l ls unit after scope new i h =
    ap (λ q. (q >>= λ s. followed include file ls s.0 s.1) >>= λ s. closed s.0 s.1 s.1.groups) h
    ∙ ap (λ q. q >>= λ s. closed s.0 s.1 s.1.groups) (then_then (include i.path i.hash after) _ _)
    ∙ then_then (include i.path i.hash after) _ _
    ∙ behind (include i.path i.hash after)
  where
    behind : (r : Result (Unit_so_far × Header) Fault) → (r >>= λ found. ((with_header i.is_ghost i.hash found.0.names found.1 new >>= beside found.0) >>= λ s. followed include file ls s.0 s.1) >>= λ s. closed s.0 s.1 s.1.groups) ≡ (r >>= λ found. after_header include i.hash i.is_ghost (record { file = file; lines = ls; scope = new }) found)
    behind (Err e) = refl
    behind (Ok found) = joined (with_header i.is_ghost i.hash found.0.names found.1 new)
      where
        joined : (r : Result Scope Fault) → (((r >>= beside found.0) >>= λ s. followed include file ls s.0 s.1) >>= λ s. closed s.0 s.1 s.1.groups) ≡ (r >>= λ s. going_text include (record { file = file; lines = ls; scope = s }) found.0)
        joined (Ok s) = refl
        joined (Err e) = refl

-- a line that is refused refuses the file
pub line_fails : (include : Includer) (file : File) (l : List Token) (ls : List (List Token)) (unit : Unit_so_far) (scope : Scope) (e : ExpandFault) → Fails e (line include file l unit scope)
    → Fails e (going_text include (record { file = file; lines = l ∷ ls; scope = scope }) unit)
line_fails include file l ls unit scope e h = fails_then e (followed include file (l ∷ ls) unit scope) _ (fails_then e (line include file l unit scope) _ h)

-- an include that stands too deep is refused
pub deep_include : (library : Library) (n : ℕ) (i : Include) (going : Going) (unit : Unit_so_far) → 32 ≤ n → include_text (header_at (32 - n) library) i going unit ≡ no_include i.hash
deep_include library n i going unit deep = let none : 32 - n ≡ 0 = omega arith in ap (λ d. include_text (header_at d library) i going unit) none

-- the include of a header that was begun before
pub old_included : (library : Library) (n : ℕ) (i : Include) (going : Going) (unit : Unit_so_far) (number : ℕ) → n < 32 → number_of unit.paths i.path ≡ Some number
    → include_text (header_at (32 - n) library) i going unit ≡ (old_text i.hash i.is_ghost unit number going.scope >>= λ s. going_text (header_at (32 - n) library) (record going { scope = s.1 }) s.0)
old_included library n i going unit number shallow old =
    let d : ℕ = 32 - n - 1 in
    let deeper : 32 - n ≡ suc d = omega arith in
    ap (λ k. include_text (header_at k library) i going unit) deeper
    ∙ ap (λ o. any_header (header_at d library) library i.path i.hash unit o >>= λ found. after_header (header_at (suc d) library) i.hash i.is_ghost going found) old
    ∙ behind (header_at (suc d) library) (old_header i.hash unit (slice_get unit.complete number))
    ∙ ap (λ k. old_text i.hash i.is_ghost unit number going.scope >>= λ s. going_text (header_at k library) (record going { scope = s.1 }) s.0) (sym deeper)
  where
    behind : (include : Includer) (r : Result (Unit_so_far × Header) Fault) → (r >>= λ found. after_header include i.hash i.is_ghost going found) ≡ ((r >>= λ found. with_header i.is_ghost i.hash found.0.names found.1 going.scope >>= beside found.0) >>= λ s. going_text include (record going { scope = s.1 }) s.0)
    behind include (Err e) = refl
    behind include (Ok found) = joined (with_header i.is_ghost i.hash found.0.names found.1 going.scope)
      where
        joined : (r : Result Scope Fault) → (r >>= λ s. going_text include (record going { scope = s }) found.0) ≡ ((r >>= beside found.0) >>= λ s. going_text include (record going { scope = s.1 }) s.0)
        joined (Ok s) = refl
        joined (Err e) = refl

-- the file that waits for a header
abbrev pub pause_for : Include → Going → Unit_so_far → Pause
pause_for i going unit = record { going = going; hash = i.hash; ghost_text = i.is_ghost; number = length unit.paths }

-- a header at its beginning
abbrev pub going_at_first : List ℕ → Loaded → ℕ → Going
going_at_first path file number = record { file = record { path = path; bytes = file.bytes }; lines = lines_of file.tokens; scope = unread number }

-- the include of a header that was not begun before, by the file that is read
pub new_included : (library : Library) (ps : List Pause) (i : Include) (going : Going) (unit : Unit_so_far) → length ps < 32 → number_of unit.paths i.path ≡ None
    → include_text (header_at (32 - length ps) library) i going unit ≡ (loaded i.hash (library i.path) >>= λ file. new_header (header_at (32 - suc (length ps)) library) i.path unit file >>= λ found. after_header (header_at (32 - length ps) library) i.hash i.is_ghost going found)
new_included library ps i going unit shallow new =
    let d : ℕ = 32 - suc (length ps) in
    let deeper : 32 - length ps ≡ suc d = omega arith in
    ap (λ k. include_text (header_at k library) i going unit) deeper
    ∙ ap (λ o. any_header (header_at d library) library i.path i.hash unit o >>= λ found. after_header (header_at (suc d) library) i.hash i.is_ghost going found) new
    ∙ then_then (loaded i.hash (library i.path)) _ _
    ∙ ap (λ k. loaded i.hash (library i.path) >>= λ file. new_header (header_at d library) i.path unit file >>= λ found. after_header (header_at k library) i.hash i.is_ghost going found) (sym deeper)

-- where a header was read, its includer waits for its end
pub new_begun : (library : Library) (ps : List Pause) (i : Include) (going : Going) (unit : Unit_so_far) (file : Loaded) → length ps < 32 → number_of unit.paths i.path ≡ None → loaded i.hash (library i.path) ≡ Ok file
    → resumed library ps (include_text (header_at (32 - length ps) library) i going unit) ≡ text_from library (pause_for i going unit ∷ ps) (going_at_first i.path file (length unit.paths)) (begun (record unit { headers = unit.headers ++ file.number ∷ [] }) i.path file.tokens)
new_begun library ps i going unit file shallow new read =
    ap (resumed library ps) (
    new_included library ps i going unit shallow new
    ∙ ap (λ q. q >>= λ f. new_header (header_at (32 - suc (length ps)) library) i.path unit f >>= λ found. after_header (header_at (32 - length ps) library) i.hash i.is_ghost going found) read
    ∙ then_then (going_text (header_at (32 - suc (length ps)) library) (going_at_first i.path file (length unit.paths)) (begun (record unit { headers = unit.headers ++ file.number ∷ [] }) i.path file.tokens)) _ _)

-- where a header could not be read the walk ends
pub new_fails : (library : Library) (ps : List Pause) (i : Include) (going : Going) (unit : Unit_so_far) (e : ExpandFault) → length ps < 32 → number_of unit.paths i.path ≡ None → Faults e (loaded i.hash (library i.path))
    → Faults e (resumed library ps (include_text (header_at (32 - length ps) library) i going unit))
new_fails library ps i going unit e shallow new fault =
    faults_resumed library ps e _ (subst (Faults e) (sym (new_included library ps i going unit shallow new)) (faults_then e (loaded i.hash (library i.path)) _ fault))

-- a file at its end is closed
pub at_end : (include : Includer) (going : Going) (unit : Unit_so_far) → going.lines ≡ [] → going_text include going unit ≡ closed unit going.scope going.scope.groups
at_end include going unit none = ap (λ ls. followed include going.file ls unit going.scope >>= λ s. closed s.0 s.1 s.1.groups) none

-- behind a header its includer goes on
pub resumed_on : (library : Library) (p : Pause) (ps : List Pause) (unit : Unit_so_far) (header : Header) (new : Scope) → with_header p.ghost_text p.hash unit.names header p.going.scope ≡ Ok new
    → resumed library (p ∷ ps) (Ok (unit, header)) ≡ text_from library ps (record p.going { scope = new }) (completed p.number unit header)
resumed_on library p ps unit header new h = ap (λ q. resumed library ps (q >>= λ s. going_text (header_at (32 - length ps) library) (record p.going { scope = s }) (completed p.number unit header))) h

-- where it cannot, the walk ends
pub resumed_fails : (library : Library) (p : Pause) (ps : List Pause) (unit : Unit_so_far) (header : Header) (e : ExpandFault) → Fails e (with_header p.ghost_text p.hash unit.names header p.going.scope)
    → Faults e (resumed library (p ∷ ps) (Ok (unit, header)))
resumed_fails library p ps unit header e h = faults_resumed library ps e _ (faults_then e (with_header p.ghost_text p.hash unit.names header p.going.scope) _ (fails_faults e _ h))

-- one more file waits
pub pauses_push : (stack : List Waiting) (w : Waiting) → pauses_of (stack ++ w ∷ []) ≡ pause_of w ∷ pauses_of stack
pauses_push stack w = ap (map pause_of) (reverse-append stack (w ∷ []))

-- as many files wait as are kept
pub pauses_size : (stack : List Waiting) → length (pauses_of stack) ≡ length stack
pauses_size stack = length-map (reverse stack) pause_of ∙ length-reverse stack

-- where a header that was begun before joins its includer, the walk goes on
pub old_goes : (library : Library) (ps : List Pause) (i : Include) (going : Going) (unit after : Unit_so_far) (number : ℕ) (new : Scope) → length ps < 32 → number_of unit.paths i.path ≡ Some number → old_text i.hash i.is_ghost unit number going.scope ≡ Ok (after, new)
    → resumed library ps (include_text (header_at (32 - length ps) library) i going unit) ≡ text_from library ps (record going { scope = new }) after
old_goes library ps i going unit after number new shallow old h =
    ap (resumed library ps) (old_included library (length ps) i going unit number shallow old ∙ ap (λ q. q >>= λ s. going_text (header_at (32 - length ps) library) (record going { scope = s.1 }) s.0) h)

-- where it does not, the walk ends
pub old_fails : (library : Library) (ps : List Pause) (i : Include) (going : Going) (unit : Unit_so_far) (number : ℕ) (e : ExpandFault) → length ps < 32 → number_of unit.paths i.path ≡ Some number → Fails e (old_text i.hash i.is_ghost unit number going.scope)
    → Faults e (resumed library ps (include_text (header_at (32 - length ps) library) i going unit))
old_fails library ps i going unit number e shallow old h =
    faults_resumed library ps e _ (subst (Faults e) (sym (old_included library (length ps) i going unit number shallow old)) (faults_then e (old_text i.hash i.is_ghost unit number going.scope) _ (fails_faults e _ h)))

-- what one file means has no other fault than refusals and want of memory
pub fails_own : {A : Type 0} (e : ExpandFault) (r : Result A Fault) → Fails e r → IsOwn e
fails_own (faults.Refused x) r h = tt
fails_own faults.Missing r h = h
fails_own faults.ReadFault r h = h
fails_own faults.Memory r h = tt

pub own_read : (e : ExpandFault) → IsOwn e → e ≡ faults.ReadFault → ⊥
own_read e own is = subst IsOwn is own

pub own_read_of : {A : Type 0} (r : Result A ExpandFault) → IfErr r IsOwn → r ≡ Err faults.ReadFault → ⊥
own_read_of r own is = subst (λ x. IfErr x IsOwn) is own

pub own_there_of : {A : Type 0} (r : Result A ExpandFault) → IfErr r IsOwn → r ≡ Err faults.Missing → ⊥
own_there_of r own is = subst (λ x. IfErr x IsOwn) is own

pub own_there : (e : ExpandFault) → IsOwn e → e ≡ faults.Missing → ⊥
own_there e own is = subst IsOwn is own

-- where a file cannot be closed, the walk ends
pub end_fails : (library : Library) (ps : List Pause) (going : Going) (unit : Unit_so_far) (e : ExpandFault) → going.lines ≡ [] → Fails e (closed unit going.scope going.scope.groups) → Faults e (text_from library ps going unit)
end_fails library ps going unit e none h = faults_resumed library ps e _ (subst (Faults e) (sym (at_end (header_at (32 - length ps) library) going unit none)) (fails_faults e _ h))

-- where no file waits, all is done
pub end_last : (library : Library) (ps : List Pause) (going : Going) (unit : Unit_so_far) (header : Header) → ps ≡ [] → going.lines ≡ [] → closed unit going.scope going.scope.groups ≡ Ok (unit, header) → text_from library ps going unit ≡ Ok (unit, header)
end_last library ps going unit header last none h = ap (λ p. text_from library p going unit) last ∙ at_end (header_at 32 library) going unit none ∙ h

-- a line that is refused ends the walk
pub line_faults : (library : Library) (ps : List Pause) (going : Going) (unit : Unit_so_far) (e : ExpandFault) → ((include : Includer) → Fails e (going_text include going unit)) → Faults e (text_from library ps going unit)
line_faults library ps going unit e h = faults_resumed library ps e _ (fails_faults e _ (h (header_at (32 - length ps) library)))

-- an include that stands too deep ends the walk
pub deep_faults : (library : Library) (ps : List Pause) (i : Include) (going : Going) (unit : Unit_so_far) → 32 ≤ length ps
    → Faults (faults.Refused (record { rule = rules_of.Include; place = i.hash; shown = shown.Nothing })) (resumed library ps (include_text (header_at (32 - length ps) library) i going unit))
deep_faults library ps i going unit deep =
    let refused : include_text (header_at (32 - length ps) library) i going unit ≡ no_include i.hash = deep_include library (length ps) i going unit deep in
    faults_resumed library ps (faults.Refused (record { rule = rules_of.Include; place = i.hash; shown = shown.Nothing })) (include_text (header_at (32 - length ps) library) i going unit) (refused, refl)

-- what a header's beginning makes of the walk
pub begins_gives : (library : Library) (walk : Walk) (i : Include) (file : Loaded) (r : Result Walk ExpandFault) → length (pauses_of walk.stack.items) < 32 → number_of walk.unit.paths i.path ≡ None → loaded i.hash (library i.path) ≡ Ok file
    → IfOk r (λ w. Begins walk i file w) → IfErr r (λ e. e ≡ faults.Memory) → WalkGives (walk_include_text library i walk) library r
begins_gives library walk i file (Ok w) shallow new read b memory =
    new_begun library (pauses_of walk.stack.items) i (going_of walk.current) (unit_of walk.unit) file shallow new read
    ∙ sym (ap (λ ps. text_from library ps (going_of w.current) (unit_of w.unit)) b.pauses
    ∙ ap (λ g. text_from library (pause_for i (going_of walk.current) (unit_of walk.unit) ∷ pauses_of walk.stack.items) g (unit_of w.unit)) b.current
    ∙ ap (text_from library (pause_for i (going_of walk.current) (unit_of walk.unit) ∷ pauses_of walk.stack.items) (going_at_first i.path file (length walk.unit.paths))) b.unit)
begins_gives library walk i file (Err e) shallow new read b memory = subst (λ x. Faults x (walk_include_text library i walk)) (sym memory) tt
