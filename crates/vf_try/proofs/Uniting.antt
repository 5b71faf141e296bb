-- The units of files, one by one.
use Rattle.std.proofs.Common.{◌≡◌, ◌∙◌, refl, sym, ap, List, [], ◌∷◌, ◌++◌, map, Bool, true, false, ◌||◌, Option, Some, None}
use Rattle.std.specs.List.{cons_option}
use Rattle.std.proofs.lemmas.List.{map-append}
use Rattle.vf_manifest.specs.declared.line.Line.{Line}
use Rattle.vf_program.specs.Units.{UnitTree}
use Rattle.vf_module.specs.Readings.{UnitRead, result_of}
use Rattle.vf_try.specs.declared.files.FileRead.{FileRead}
use Rattle.vf_try.specs.Files.{FileTree, file_of, is_any_refused, is_refusal, manifests_in, plains_in, unit_in, units_in}

-- the units of files and of one more
units_behind : (fs : List FileTree) (f : FileTree) → units_in (fs ++ f ∷ []) ≡ units_in fs ++ units_in (f ∷ [])
units_behind [] f = refl
units_behind (g ∷ fs) f = by (unit_in g.result) (units_in (fs ++ f ∷ [])) (units_in fs) (units_in (f ∷ [])) (units_behind fs f)
  where
    by : (o : Option UnitRead) (all front last : List UnitRead) → all ≡ front ++ last → cons_option o all ≡ cons_option o front ++ last
    by (Some u) all front last h = ap (λ (r : List UnitRead). u ∷ r) h
    by None all front last h = h

or_false : (b : Bool) → (b || false) ≡ b
or_false true = refl
or_false false = refl

refused_behind : (fs : List FileTree) (f : FileTree) → is_any_refused (fs ++ f ∷ []) ≡ (is_any_refused fs || is_refusal f.result)
refused_behind [] f = or_false (is_refusal f.result)
refused_behind (g ∷ fs) f = by (is_refusal g.result) (is_any_refused (fs ++ f ∷ [])) (is_any_refused fs) (is_refusal f.result) (refused_behind fs f)
  where
    by : (b all front last : Bool) → all ≡ (front || last) → (b || all) ≡ ((b || front) || last)
    by true all front last h = refl
    by false all front last h = h

-- the trees of files and of one more
trees_behind : (fs : List FileRead) (f : FileRead) → map file_of (fs ++ f ∷ []) ≡ map file_of fs ++ file_of f ∷ []
trees_behind fs f = map-append file_of fs (f ∷ [])

-- the plain readings of files and of one more
pub plains_behind : (fs : List FileRead) (f : FileRead) (old new : List UnitTree) → old ≡ plains_in (map file_of fs) → new ≡ old ++ plains_in (file_of f ∷ []) → new ≡ plains_in (map file_of (fs ++ f ∷ []))
plains_behind fs f old new old_is new_is =
    let plain = λ (u : UnitRead). u.plain in
    new_is ∙ ap (λ (us : List UnitTree). us ++ plains_in (file_of f ∷ [])) old_is
    ∙ sym (map-append plain (units_in (map file_of fs)) (units_in (file_of f ∷ [])))
    ∙ ap (map plain) (sym (units_behind (map file_of fs) (file_of f)))
    ∙ ap plains_in (sym (trees_behind fs f))

-- their manifests
pub manifests_behind : (fs : List FileRead) (f : FileRead) (old new : List (List Line)) → old ≡ manifests_in (map file_of fs) → new ≡ old ++ manifests_in (file_of f ∷ []) → new ≡ manifests_in (map file_of (fs ++ f ∷ []))
manifests_behind fs f old new old_is new_is =
    let manifest = λ (u : UnitRead). u.manifest in
    new_is ∙ ap (λ (ms : List (List Line)). ms ++ manifests_in (file_of f ∷ [])) old_is
    ∙ sym (map-append manifest (units_in (map file_of fs)) (units_in (file_of f ∷ [])))
    ∙ ap (map manifest) (sym (units_behind (map file_of fs) (file_of f)))
    ∙ ap manifests_in (sym (trees_behind fs f))

-- whether one of them is refused
pub any_behind : (fs : List FileRead) (f : FileRead) (old new : Bool) → old ≡ is_any_refused (map file_of fs) → new ≡ (old || is_refusal (result_of f.reading)) → new ≡ is_any_refused (map file_of (fs ++ f ∷ []))
any_behind fs f old new old_is new_is =
    new_is ∙ ap (λ (b : Bool). b || is_refusal (result_of f.reading)) old_is
    ∙ sym (refused_behind (map file_of fs) (file_of f))
    ∙ ap is_any_refused (sym (trees_behind fs f))
