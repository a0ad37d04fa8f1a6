use Rattle.std.proofs.Common.{◌∙◌, ◌++◌, ap, sym, subst, fold}
use Rattle.view_types.specs.Rows.{AreShownRows}
use Rattle.delta_core.specs.Folding.{put_in}
use Rattle.delta_core.specs.Preparing.{kept_rows, others}
use Rattle.delta_core.proofs.FoldRows.{folded_shown}
use Rattle.delta_core.proofs.FoldChecks.{others_are}
use Rattle.delta_core.proofs.folding.fold_in.Goals as goal

pub from_listed-rows-requires : goal.from_listed-rows-requires
from_listed-rows-requires c =
    let held = c.args.held.shown.rows in
    let d = c.args.delta.now in
    let prepared = c.args.prepared in
    let ks = prepared.dropped.keys in
    let kept =
    c.keep_others.ensures.rows ∙ ap (λ rows. rows ++ others ks c.into_vec.result.items) c.requires.none ∙ ap (others ks) (c.into_vec.ensures ∙ c.into_listed.ensures.rows)
    ∙ others_are ks d held c.requires.dropped in
    let rows =
    c.from_vec.ensures ∙ c.into_rows.ensures ∙ c.put_all.ensures ∙ ap (λ rows. fold put_in rows prepared.puts.items) kept
    ∙ ap (fold put_in (kept_rows d held)) c.requires.puts in
    subst AreShownRows (sym rows) (folded_shown held d c.into_listed.ensures.shown c.requires.shown)
