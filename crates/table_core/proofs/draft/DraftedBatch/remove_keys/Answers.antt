use Rattle.std.proofs.Common.{◌≡◌, ◌+◌, ◌∷◌, drop, ap, sym, ◌∙◌}
use Rattle.std.proofs.lemmas.List.{drop_more}
use Rattle.cell_core.specs.declared.cell.Cell.{Cell}
use Rattle.table_core.specs.Lookups.{pairs_of}
use Rattle.table_core.proofs.Drafting.{removals_turn}
use Rattle.table_core.proofs.draft.DraftedBatch.remove_keys.Goals as goal

pub loop-key-preserved : goal.loop-key-preserved
loop-key-preserved c =
    let rows = pairs_of c.args.rows.now.entries in
    let i = c.loop-key.key-index in
    let keys = c.args.keys.now in
    let key = c.key-item.result in
    let split : drop i keys ≡ key ∷ drop (i + 1) keys =
    drop_more keys i key c.loop-key-test.true ∙ ap (λ (k : Cell). k ∷ drop (i + 1) keys) (sym c.key-item.is) in
    let after = c.in_ok-remove.ensures in
    record {
      draft = after.draft;
      changes = removals_turn rows c.loop-key.self c.remove.new.self key (drop (i + 1) keys) (drop i keys) _ split after.changes c.loop-key.invariant.changes;
      number = after.number ∙ c.loop-key.invariant.number;
    }
