use Rattle.std.proofs.Common.{map, ap, ◌∙◌, refl}
use Rattle.frame_types.specs.Asks as ask
use Rattle.hub_spec.specs.Answers.{column_words, index_name, limit_in}
use Rattle.hub_core.proofs.Giving.{wanted_gives}
use Rattle.hub_core.proofs.Telling.{info_gives}
use Rattle.hub_core.proofs.engine.Engine.info.Goals as goal

pub returns-clause-gives : goal.returns-clause-gives
returns-clause-gives c = λ session past h few.
    let e = c.args.self.now in
    let schema = c.schema-schema.ensures in
    info_gives e.table e.version e.ports e.views past session c.in-Ok.columns c.in-Ok-index_name.index c.limit_of.result c.len.result c.batches_waiting.result h
    (c.in-Ok.ensures ∙ ap (map column_words) (c.columns.ensures ∙ ap (λ s. s.columns) schema))
    (c.in-Ok-index_name.ensures ∙ ap (λ s. index_name s s.keeping) schema)
    (c.limit_of.ensures ∙ ap (λ s. limit_in s.keeping) schema)
    c.len.ensures.size
    c.batches_waiting.ensures.batches

pub returns-in_default-clause-gives : goal.returns-in_default-clause-gives
returns-in_default-clause-gives c = λ session past h few.
    let e = c.args.self.now in
    rw c.memory.ensures (wanted_gives e.table e.version e.ports e.views past session ask.info h refl)

pub returns-in_default-index_name-clause-gives : goal.returns-in_default-index_name-clause-gives
returns-in_default-index_name-clause-gives c = λ session past h few.
    let e = c.args.self.now in
    rw c.memory-in_default-index_name.ensures (wanted_gives e.table e.version e.ports e.views past session ask.info h refl)
