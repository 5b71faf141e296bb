-- The path that an include means is of ASCII.
use Rattle.std.proofs.Common.{◌≡◌, ℕ, refl, ap, ◌∙◌, Bool, true, false, cond, not, ◌&&◌, ◌||◌, List, [], ◌∷◌, ◌++◌, Option, Some, None, Result, Ok, Err}
use Rattle.std.specs.Prelude.{codes, is_some}
use Rattle.std.specs.List.{list_all}
use Rattle.std.specs.Str.{bytes_eq}
use Rattle.vf_base.specs.declared.place.Place.{Place}
use Rattle.vf_lexer.specs.declared.token.Token.{Token}
use Rattle.vf_snapshot.specs.Paths.{normal}
use Rattle.vf_threads.specs.Prelude.{text_of}
use Rattle.vf_preproc.specs.Directives.{Fault, no_directive, no_include}
use Rattle.vf_preproc.specs.Targets.{is_ascii, is_scoped, is_ghost_path, prelude_path, folder_of, between, between_quotes, closing, is_literal_kind, is_less_kind, file_target, prelude_target, quoted_target, angle_target, closed_target, target}
use Rattle.vf_preproc.proofs.Targeting.{scoped_ascii}

-- the answer is a path of ASCII, if it is a path
abbrev pub IsAscii : Result (List ℕ) Fault → Type 0
IsAscii (Ok path) = list_all is_ascii path ≡ true
IsAscii (Err fault) = Unit {0}

-- one of two answers
choice : (b : Bool) (x y : Result (List ℕ) Fault) → (b ≡ true → IsAscii x) → (b ≡ false → IsAscii y) → IsAscii (cond b x y)
choice true x y first second = first refl
choice false x y first second = second refl

both_left : (a b : Bool) → (a && b) ≡ true → a ≡ true
both_left true b h = refl
both_left false b h = absurd cc

neither_left : (a b : Bool) → (not a || b) ≡ false → a ≡ true
neither_left true b h = refl
neither_left false b h = absurd cc

both_more : (a b c : Bool) → (b ≡ true → c ≡ true) → (a && b) ≡ true → (a && c) ≡ true
both_more true b c go h = go h
both_more false b c go h = absurd cc

-- a `>` behind a path
bracket_ascii : (name : List ℕ) → list_all is_ascii name ≡ true → list_all is_ascii (name ++ codes ">") ≡ true
bracket_ascii [] h = refl
bracket_ascii (b ∷ bs) h = both_more (is_ascii b) (list_all is_ascii bs) (list_all is_ascii (bs ++ codes ">")) (λ k. bracket_ascii bs k) h

prelude_ascii : (ghost : Bool) (hash : Place) (name : List ℕ) → is_scoped name ≡ true → IsAscii (prelude_target ghost hash name)
prelude_ascii ghost hash name scoped = choice ghost (no_directive hash) (Ok (prelude_path name)) (λ h. tt) (λ h. bracket_ascii name (scoped_ascii name scoped))

file_ascii : (ghost : Bool) (hash : Place) (path : List ℕ) → IsAscii (file_target ghost hash path)
file_ascii ghost hash path = choice (is_scoped path && not (bytes_eq path []) && cond ghost (is_ghost_path path) (not (is_ghost_path path))) (Ok path) (no_directive hash)
    (λ h. scoped_ascii path (both_left (is_scoped path) (not (bytes_eq path [])) (both_left (is_scoped path && not (bytes_eq path [])) (cond ghost (is_ghost_path path) (not (is_ghost_path path))) h)))
    (λ h. tt)

quoted_ascii : (ghost : Bool) (file : List ℕ) (hash : Place) (name : List ℕ) → IsAscii (quoted_target ghost file hash name)
quoted_ascii ghost file hash name = choice (not (is_scoped name) || bytes_eq name []) (no_directive hash) (cond (is_some (text_of name)) (prelude_target ghost hash name) (file_target ghost hash (normal (folder_of file) name))) (λ h. tt)
    (λ h. choice (is_some (text_of name)) (prelude_target ghost hash name) (file_target ghost hash (normal (folder_of file) name))
    (λ k. prelude_ascii ghost hash name (neither_left (is_scoped name) (bytes_eq name []) h))
    (λ k. file_ascii ghost hash (normal (folder_of file) name)))

angle_ascii : (ghost : Bool) (hash : Place) (name : List ℕ) → IsAscii (angle_target ghost hash name)
angle_ascii ghost hash name = choice (is_scoped name && is_some (text_of name)) (prelude_target ghost hash name) (no_include hash)
    (λ h. prelude_ascii ghost hash name (both_left (is_scoped name) (is_some (text_of name)) h)) (λ h. tt)

closed_ascii : (ghost : Bool) (bytes : List ℕ) (hash : Place) (less : Token) (o : Option Token) → IsAscii (closed_target ghost bytes hash less o)
closed_ascii ghost bytes hash less None = tt
closed_ascii ghost bytes hash less (Some greater) = angle_ascii ghost hash (between bytes less.«end» greater.start)

target_ascii : (ghost : Bool) (file bytes : List ℕ) (hash : Place) (words : List Token) → IsAscii (target ghost file bytes hash words)
target_ascii ghost file bytes hash [] = tt
target_ascii ghost file bytes hash (word ∷ []) = tt
target_ascii ghost file bytes hash (word ∷ first ∷ []) = choice (is_literal_kind first.kind) (quoted_target ghost file hash (between_quotes first.text)) (no_directive hash) (λ h. quoted_ascii ghost file hash (between_quotes first.text)) (λ h. tt)
target_ascii ghost file bytes hash (word ∷ first ∷ second ∷ more) = choice (is_less_kind first.kind) (closed_target ghost bytes hash first (closing (second ∷ more))) (no_directive hash) (λ h. closed_ascii ghost bytes hash first (closing (second ∷ more))) (λ h. tt)

-- the path that an include means is of ASCII
pub path_ascii : (ghost : Bool) (file bytes : List ℕ) (hash : Place) (words : List Token) (path : List ℕ) → target ghost file bytes hash words ≡ Ok path → list_all is_ascii path ≡ true
path_ascii ghost file bytes hash words path is = from (target ghost file bytes hash words) (target_ascii ghost file bytes hash words) is
  where
    from : (r : Result (List ℕ) Fault) → IsAscii r → r ≡ Ok path → list_all is_ascii path ≡ true
    from (Ok p) h e = let same : path ≡ p = cc in ap (list_all is_ascii) same ∙ h
    from (Err f) h e = absurd cc
