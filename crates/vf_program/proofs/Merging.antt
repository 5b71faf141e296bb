-- Structs that stand once, one after the other, and lists of several units.
use Rattle.std.proofs.Common.{◌≡◌, cond, Bool, true, false, List, [], ◌∷◌, ◌++◌, map, refl, sym, ap, ◌∙◌}
use Rattle.std.proofs.lemmas.List.{append-nil, append_assoc, map-append}
use Rattle.std.proofs.lemmas.Bool.{cond-true, cond-false}
use Rattle.vf_tree.specs.Core.{Identity, StructTree}
use Rattle.vf_core.specs.Shown.{struct_of}
use Rattle.vf_core.specs.declared.step.StructBody.{StructBody}
use Rattle.vf_program.specs.Programs.{each_once, has_struct}

-- what is left of structs behind one that is there, or that is new
once_known : (before : List StructTree) (x : StructTree) (ss : List StructTree) → has_struct before x.identity ≡ true → each_once before (x ∷ ss) ≡ each_once before ss
once_known before x ss e = cond-true _ (each_once before ss) (x ∷ each_once (before ++ x ∷ []) ss) e

once_new : (before : List StructTree) (x : StructTree) (ss : List StructTree) → has_struct before x.identity ≡ false → each_once before (x ∷ ss) ≡ x ∷ each_once (before ++ x ∷ []) ss
once_new before x ss e = cond-false _ (each_once before ss) (x ∷ each_once (before ++ x ∷ []) ss) e

-- what one struct more adds to those that are kept
abbrev added : List StructTree → StructTree → List StructTree
added kept s = cond (has_struct kept s.identity) [] (s ∷ [])

-- one struct more behind others: it is left out where one of its identity is there
once_by : (b : Bool) (before : List StructTree) (x : StructTree) (ss : List StructTree) (s : StructTree) → has_struct before x.identity ≡ b
    → each_once before (ss ++ s ∷ []) ≡ each_once before ss ++ added (before ++ each_once before ss) s
    → each_once (before ++ x ∷ []) (ss ++ s ∷ []) ≡ each_once (before ++ x ∷ []) ss ++ added ((before ++ x ∷ []) ++ each_once (before ++ x ∷ []) ss) s
    → each_once before (x ∷ ss ++ s ∷ []) ≡ each_once before (x ∷ ss) ++ added (before ++ each_once before (x ∷ ss)) s
once_by true before x ss s e known new =
    once_known before x (ss ++ s ∷ []) e ∙ known ∙ sym (ap (λ l. l ++ added (before ++ l) s) (once_known before x ss e))
once_by false before x ss s e known new =
    once_new before x (ss ++ s ∷ []) e
    ∙ ap (λ l. x ∷ l) new
    ∙ ap (λ l. x ∷ (each_once (before ++ x ∷ []) ss ++ added l s)) (append_assoc before (x ∷ []) (each_once (before ++ x ∷ []) ss))
    ∙ sym (ap (λ l. l ++ added (before ++ l) s) (once_new before x ss e))

once_more : (before ss : List StructTree) (s : StructTree) → each_once before (ss ++ s ∷ []) ≡ each_once before ss ++ added (before ++ each_once before ss) s
once_more before [] s = ap (λ l. added l s) (sym (append-nil before))
once_more before (x ∷ ss) s = once_by (has_struct before x.identity) before x ss s refl (once_more before ss s) (once_more (before ++ x ∷ []) ss s)

-- a struct that is new
pub kept_new : (names : List Identity) (done : List StructBody) (body : StructBody) (bodies : List StructBody) → map (struct_of names) bodies ≡ each_once [] (map (struct_of names) done) → has_struct (map (struct_of names) bodies) (struct_of names body).identity ≡ false → map (struct_of names) (bodies ++ body ∷ []) ≡ each_once [] (map (struct_of names) (done ++ body ∷ []))
kept_new names done body bodies so new =
    map-append (struct_of names) bodies (body ∷ [])
    ∙ ap (λ l. l ++ struct_of names body ∷ []) so
    ∙ sym (ap (λ l. each_once [] (map (struct_of names) done) ++ l) (cond-false _ [] (struct_of names body ∷ []) (ap (λ l. has_struct l (struct_of names body).identity) (sym so) ∙ new)))
    ∙ sym (once_more [] (map (struct_of names) done) (struct_of names body))
    ∙ sym (ap (each_once []) (map-append (struct_of names) done (body ∷ [])))

-- a struct that is there already
pub kept_known : (names : List Identity) (done : List StructBody) (body : StructBody) (bodies : List StructBody) → map (struct_of names) bodies ≡ each_once [] (map (struct_of names) done) → has_struct (map (struct_of names) bodies) (struct_of names body).identity ≡ true → map (struct_of names) bodies ≡ each_once [] (map (struct_of names) (done ++ body ∷ []))
kept_known names done body bodies so known =
    so
    ∙ sym (append-nil (each_once [] (map (struct_of names) done)))
    ∙ sym (ap (λ l. each_once [] (map (struct_of names) done) ++ l) (cond-true _ [] (struct_of names body ∷ []) (ap (λ l. has_struct l (struct_of names body).identity) (sym so) ∙ known)))
    ∙ sym (once_more [] (map (struct_of names) done) (struct_of names body))
    ∙ sym (ap (each_once []) (map-append (struct_of names) done (body ∷ [])))
