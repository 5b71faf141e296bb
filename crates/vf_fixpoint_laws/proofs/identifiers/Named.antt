-- The names that items declare are those of tokens that spell them.
use Rattle.std.proofs.Common.{◌≡◌, ℕ, Bool, true, false, not, List, [], ◌∷◌, ◌++◌, map, Some, refl, sym, ap, subst, ◌∙◌, arith}
use Rattle.std.specs.Prelude.{Contains}
use Rattle.std.specs.List.{flat_map}
use Rattle.vf_lexer.specs.declared.token.Kind.{Kind}
use Rattle.vf_lexer.specs.declared.token.Kind.TheVariants as kinds
use Rattle.vf_lexer.specs.declared.token.Token.{Token}
use Rattle.vf_syntax.specs.declared.item.Constructor.{Constructor}
use Rattle.vf_syntax.specs.declared.item.GhostForm.{GhostForm}
use Rattle.vf_syntax.specs.declared.item.GhostForm.TheVariants as forms
use Rattle.vf_syntax.specs.declared.item.GhostItem.{GhostItem}
use Rattle.vf_syntax.specs.declared.item.Item.{Item}
use Rattle.vf_syntax.specs.declared.item.Item.TheVariants as items
use Rattle.vf_syntax.specs.declared.item.Signature.{Signature}
use Rattle.vf_syntax.specs.declared.item.Unit.{Unit as FileUnit}
use Rattle.vf_syntax.specs.declared.side.Grammar.{Grammar}
use Rattle.vf_syntax.specs.declared.side.Grammar.TheVariants as grammars
use Rattle.vf_syntax.specs.declared.side.Side.{Side}
use Rattle.vf_syntax.specs.declared.side.Side.TheVariants.{Ghost, Real}
use Rattle.vf_syntax.specs.declared.written.Name.{Name}
use Rattle.vf_syntax.specs.Keywords.{is_keyword}
use Rattle.vf_syntax.specs.Walks.{Walk, ◌⨾◌, at, is_name, is_word_kind, identifier}
use Rattle.vf_syntax.specs.Written.{name}
use Rattle.vf_syntax.specs.Lists.{each}
use Rattle.vf_syntax.specs.Units.{signature, constructor, other_constructor, constructors, ghost_form, ghost_item, item, unit, Spells}
use Rattle.vf_grammar_read.proofs.expressions.Same.{no_true, both}
use Rattle.vf_grammar_read.proofs.expressions.Fronts.{gone, identifier_took}
use Rattle.vf_env.specs.Named.{constructor_name, named, named_by_form}
use Rattle.vf_fixpoint_laws.specs.identifiers.Names.{AreNamesAmong}
use Rattle.vf_fixpoint_laws.proofs.identifiers.Keeps.{Keeps, at_keeps, mark_keeps, name_keeps, word_keeps}
use Rattle.vf_fixpoint_laws.proofs.identifiers.GhostKept.{sort_keeps}
use Rattle.vf_fixpoint_laws.proofs.identifiers.GhostItemsKept.{leading_bar_keeps, other_constructor_keeps, constructor_keeps, type_parameters_keeps}
use Rattle.vf_fixpoint_laws.proofs.identifiers.UnitsKept.{item_keeps, result_keeps}

-- each of some names is that of a token that stands where a part is spelled
record Names (f : Walk) (xs : List (List ℕ)) : Type 0 where
  names : (ts rest : List Token) → f ts ≡ Some rest → AreNamesAmong ts xs

no_names : {f : Walk} → Names f []
no_names = record { names = λ ts rest e. tt }

-- names among tokens are among more of them
among_more : (ts us : List Token) → ((t : Token) → Contains us t → Contains ts t) → (xs : List (List ℕ)) → AreNamesAmong us xs → AreNamesAmong ts xs
among_more ts us more [] a = tt
among_more ts us more (x ∷ xs) (a, b) = (record { token = a.token; among = more a.token a.among; kind = a.kind; text = a.text; free = a.free }, among_more ts us more xs b)

among_both : (ts : List Token) (xs ys : List (List ℕ)) → AreNamesAmong ts xs → AreNamesAmong ts ys → AreNamesAmong ts (xs ++ ys)
among_both ts [] ys a b = b
among_both ts (x ∷ xs) ys (a, c) b = (a, among_both ts xs ys c b)

front : {f : Walk} {xs : List (List ℕ)} (g : Walk) → Names f xs → Names (f ⨾ g) xs
front {f = f} g a = record { names = λ ts rest e. let m = gone {g = g} (f ts) e in a.names ts m.0 m.1 }

behind : {f g : Walk} {xs : List (List ℕ)} → Keeps f → Names g xs → Names (f ⨾ g) xs
behind {f = f} {g = g} {xs = xs} k a = record { names = λ ts rest e. let m = gone {g = g} (f ts) e in among_more ts m.0 (k.keep ts m.0 m.1) xs (a.names m.0 rest m.2) }

together : {f g : Walk} {xs ys : List (List ℕ)} → Keeps f → Names f xs → Names g ys → Names (f ⨾ g) (xs ++ ys)
together {f = f} {g = g} {xs = xs} {ys = ys} k a b = record { names = λ ts rest e. let m = gone {g = g} (f ts) e in among_both ts xs ys (a.names ts m.0 m.1) (among_more ts m.0 (k.keep ts m.0 m.1) ys (b.names m.0 rest m.2)) }

-- ---- a name
kind_of_word : (k : Kind) → is_word_kind k ≡ true → k ≡ kinds.Name
kind_of_word kinds.Name h = refl
kind_of_word k h = no_true h

pub not_true : (b : Bool) → not b ≡ true → b ≡ false
not_true true h = no_true h
not_true false h = refl

first_there : (t : Token) (ts : List Token) → Contains (t ∷ ts) t
first_there t ts = (0, omega arith, refl)

identifier_names : (s : Side) (x : List ℕ) → Names (identifier s x) (x ∷ [])
unfolding is_name
identifier_names s x = record {
  names = λ ts rest e.
      let t = identifier_took s x ts rest e in
      let b = both _ _ t.passes in
      let c = both _ _ b.0 in (
        record {
          token = t.token;
          among = subst (λ us. Contains us t.token) (sym t.parts) (first_there t.token rest);
          kind = kind_of_word t.token.kind c.1;
          text = t.text_is;
          free = ap is_keyword (sym t.text_is) ∙ not_true (is_keyword t.token.text) b.1;
        },
        tt,
      );
}

name_names : (s : Side) (n : Name) → Names (name s n) (n.text ∷ [])
unfolding name
name_names s n = behind {f = at n.place} {g = identifier s n.text} (at_keeps n.place) (identifier_names s n.text)

-- ---- items of annotations
constructor_names : (x : Constructor) → Names (constructor x) (constructor_name x ∷ [])
unfolding constructor
constructor_names x = front _ (name_names Ghost x.name)

other_constructor_names : (x : Constructor) → Names (other_constructor x) (constructor_name x ∷ [])
unfolding other_constructor
other_constructor_names x = behind (mark_keeps _ _) (constructor_names x)

others_names : (xs : List Constructor) → Names (each other_constructor xs) (map constructor_name xs)
others_names [] = no_names
others_names (x ∷ xs) = together (other_constructor_keeps x) (other_constructor_names x) (others_names xs)

constructors_names : (xs : List Constructor) → Names (constructors xs) (map constructor_name xs)
unfolding constructors
constructors_names [] = no_names
constructors_names (x ∷ xs) = together (constructor_keeps x) (constructor_names x) (others_names xs)

ghost_form_names : (x : GhostForm) → Names (ghost_form x) (named_by_form x)
unfolding ghost_form
ghost_form_names (forms.Inductive n ts bar cs) = behind (word_keeps _ _) (together (name_keeps _ n) (name_names _ n) (behind (type_parameters_keeps ts) (behind (mark_keeps _ _) (behind (leading_bar_keeps bar) (front _ (constructors_names cs))))))
ghost_form_names (forms.Fixpoint s n ts ps b) = behind (word_keeps _ _) (behind (sort_keeps s) (front _ (name_names _ n)))
ghost_form_names (forms.Predicate n ps) = behind (word_keeps _ _) (front _ (name_names _ n))
ghost_form_names (forms.PredicateBody n ps a) = behind (word_keeps _ _) (front _ (name_names _ n))
ghost_form_names (forms.Family n index ps) = behind (word_keeps _ _) (front _ (name_names _ n))
ghost_form_names (forms.Instance n f ps a) = behind (word_keeps _ _) (front _ (name_names _ n))
ghost_form_names (forms.PredicateConstructor n first second a) = behind (word_keeps _ _) (front _ (name_names _ n))
ghost_form_names (forms.LemmaPrototype n ts ps c) = behind (word_keeps _ _) (behind (word_keeps _ _) (front _ (name_names _ n)))
ghost_form_names (forms.Lemma n ts ps c b) = behind (word_keeps _ _) (behind (word_keeps _ _) (front _ (name_names _ n)))

ghost_item_names : (x : GhostItem) → Names (ghost_item x) (named_by_form x.form)
unfolding ghost_item
ghost_item_names x = behind (at_keeps x.place) (ghost_form_names x.form)

-- ---- items
signature_names : (x : Signature) → Names (signature x) (x.name.text ∷ [])
unfolding signature
signature_names x = behind (result_keeps x.«result») (front _ (name_names Real x.name))

item_names : (g : Grammar) (x : Item) → Names (item g x) (named x)
unfolding item
item_names g (items.Opaque p tag) = no_names
item_names g (items.Struct p tag fs) = no_names
item_names g (items.FunctionType p s c) = behind (at_keeps p) (behind (word_keeps _ _) (front _ (signature_names s)))
item_names g (items.Prototype s k c) = front _ (signature_names s)
item_names g (items.Function s k c b) = front _ (signature_names s)
item_names grammars.Whole (items.Ghost x) = ghost_item_names x
item_names grammars.Plain (items.Ghost x) = record { names = λ ts rest e. absurd cc }

items_names : (g : Grammar) (xs : List Item) → Names (each (item g) xs) (flat_map named xs)
items_names g [] = no_names
items_names g (x ∷ xs) = together (item_keeps g x) (item_names g x) (items_names g xs)

-- the names that a unit declares are those of tokens that spell it
pub declared_names : (g : Grammar) (d : ℕ) (u : FileUnit) (tokens : List Token) → Spells g d u tokens → AreNamesAmong tokens (flat_map named u.items)
unfolding unit
declared_names g d u tokens s = (items_names g u.items).names tokens [] s.spelled
