use Rattle.std.proofs.Common.{◌≡◌, ◌≤◌, ◌<◌, ◌++◌, ◌∷◌, [], length, get_or, arith, sym, ap, subst, ◌∙◌}
use Rattle.vf_preproc.specs.Macros.{expansion}
use Rattle.vf_preproc.specs.Kept.{table_of}
use Rattle.vf_preproc.specs.Frames.{front}
use Rattle.vf_preproc.proofs.Replacing.{put_none, put_more, length-front}
use Rattle.vf_preproc.proofs.steps.put_text.Goals as goal

pub loop-token-init : goal.loop-token-init
loop-token-init c = record { put = put_none (table_of c.args.macros.now) c.args.out.now c.requires; few = c.requires }

pub loop-token-preserved : goal.loop-token-preserved
loop-token-preserved c =
    let within : c.loop-token.token-index < length c.args.tokens.now = omega arith in
    let put : c.put_expanded.new.out ≡ front (c.loop-token.out ++ expansion (table_of c.args.macros.now) (c.token-item.result ∷ [])) = c.in_ok-put_expanded.ensures in
    record {
      put = put ∙ ap (λ t. front (c.loop-token.out ++ expansion (table_of c.args.macros.now) (t ∷ []))) c.token-item.is
          ∙ ap (λ o. front (o ++ expansion (table_of c.args.macros.now) (get_or c.args.tokens.now c.loop-token.token-index c.token-item.result ∷ []))) c.loop-token.invariant.put
          ∙ put_more (table_of c.args.macros.now) c.args.out.now c.args.tokens.now c.loop-token.token-index c.token-item.result within;
      few = subst (λ o. length o ≤ 200001) (sym put) (length-front (c.loop-token.out ++ expansion (table_of c.args.macros.now) (c.token-item.result ∷ [])));
    }
