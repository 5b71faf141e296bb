-- What annotations declare, or where they are refused: each by the definition of its form.
use Rattle.std.specs.Prelude.{true}
use Rattle.vf_declared.specs.declared.scope.Scope.{Scope}
use Rattle.vf_syntax.specs.declared.item.GhostForm.{GhostForm}
use Rattle.vf_syntax.specs.declared.item.GhostForm.TheVariants as forms
use Rattle.vf_syntax.specs.AssertionTree.{part_list}
use Rattle.vf_datatypes.specs.declared.stated.Stated.{Stated}
use Rattle.vf_datatypes.specs.Datatypes.{datatype_behind}
use Rattle.vf_heads.specs.Heads.{family_behind}
use Rattle.vf_walk.specs.Meanings.{Meanings}
use Rattle.vf_walk.specs.Walking.{Only, Walked}
use Rattle.vf_predicates.specs.Instances.{InstanceComes}
use Rattle.vf_predicates.specs.Predicates.{ConstructorComes, PredicateBodyComes, PredicateComes}
use Rattle.vf_contracts.specs.Comes.{InvariantComes, OwnedComes}
use Rattle.vf_commands.specs.Comes.{CommandComes, around_statements}
use Rattle.vf_equations.specs.Fixpoints.{FixpointComes}
use Rattle.vf_lemma_items.specs.Lemmas.{DefinitionComes, PrototypeComes}

-- a ghost item comes to what it declares or to its refusal, where these datatypes stand in the unit
abbrev pub FormComes : Stated → GhostForm → Scope → Walked → Type 0
FormComes d (forms.Inductive n ns b cs) s = Only (datatype_behind d n ns cs s)
FormComes d (forms.Fixpoint t n ns gs b) s = FixpointComes t n ns gs b s
FormComes d (forms.Predicate n gs) s = PredicateComes n gs s
FormComes d (forms.PredicateBody n gs a) s = PredicateBodyComes n gs (part_list a) s
FormComes d (forms.Family n i gs) s = Only (family_behind n i gs s)
FormComes d (forms.Instance f g gs a) s = InstanceComes f g gs (part_list a) s
FormComes d (forms.PredicateConstructor n fs gs a) s = ConstructorComes n fs gs (part_list a) s
FormComes d (forms.LemmaPrototype n ns gs c) s = PrototypeComes n ns gs c s
FormComes d (forms.Lemma n ns gs c b) s = DefinitionComes n ns gs c b s

-- what the annotations of a unit declare in which these datatypes stand: a contract, an invariant, a ghost command in the body of a function, an item; a function with its body that has no contract takes that of its prototype
abbrev pub meanings : Stated → Meanings
meanings d = record { contract = λ o c s. OwnedComes o c s; invariant = λ f i s. InvariantComes i s; command = λ c s. CommandComes around_statements c s; item = λ x s. FormComes d x.form s; takes = true }
