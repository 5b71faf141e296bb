-- What a part of an assertion begins with, of one depth and of another.
use Rattle.std.proofs.Common.{ℕ, suc, ◌<◌, Option}
use Rattle.vf_base.specs.declared.place.Place.{Place}
use Rattle.vf_syntax.specs.declared.pattern.Share.{Share}
use Rattle.vf_syntax.specs.GhostExprTree.{GhostExprTree}
use Rattle.vf_parse_chunk.specs.Chunks.{begun_at, cell_at}
use Rattle.vf_grammar_depth.proofs.expressions.Deeper.{Deeper}
use Rattle.vf_grammar_depth.proofs.terms.Terms.{signed_deep}
use Rattle.vf_grammar_depth.proofs.terms.Whole.{RisesByTwo, term_same, branch_same, unary_same, term_rises, branch_rises, unary_rises}
use Rattle.vf_grammar_depth.proofs.chunks.Chunks.{TermsDeeper, begun_deep, cell_deep}

-- expressions and operands of one depth, and the same
pub terms_same : (d : ℕ) → TermsDeeper 0 d d
terms_same d = record { terms = term_same d; operands = signed_deep (term_same d) (branch_same d) (unary_same d) }

-- those of two more depth go further
pub terms_rise : (d m : ℕ) → suc d < m → TermsDeeper 1 d m
terms_rise d m lt = record { terms = term_rises d m lt; operands = signed_deep (term_rises d m lt) (branch_rises d m lt) (unary_rises d m lt) }

pub begun_same : (p : Place) (d : ℕ) → Deeper 0 (begun_at d p) (begun_at d p)
begun_same p d = begun_deep (terms_same d) p

pub begun_rises : (p : Place) → RisesByTwo (λ d. begun_at d p)
begun_rises p d m lt = begun_deep (terms_rise d m lt) p

pub cell_same : (p : Place) (s : Option Share) (e : GhostExprTree) (d : ℕ) → Deeper 0 (cell_at d p s e) (cell_at d p s e)
cell_same p s e d = cell_deep (terms_same d) p s e

pub cell_rises : (p : Place) (s : Option Share) (e : GhostExprTree) → RisesByTwo (λ d. cell_at d p s e)
cell_rises p s e d m lt = cell_deep (terms_rise d m lt) p s e
