-- What `info` is answered.
use Rattle.std.proofs.Common.{◌≡◌, ℕ, List, length, map, Option, refl, sym, ap, ◌∙◌}
use Rattle.std.proofs.lemmas.List.Sorted.{length_permutation}
use Rattle.cell_core.specs.declared.schema.ColumnWords.{ColumnWords}
use Rattle.hub_ports.specs.Ports.{PortsData, waiting_on}
use Rattle.table_core.specs.Tables.{TableData}
use Rattle.frame_types.specs.Asks as ask
use Rattle.frame_types.specs.declared.reply.Body.{Body}
use Rattle.frame_types.specs.declared.reply.Body.TheVariants as body
use Rattle.hub_spec.specs.Past.{PastStep}
use Rattle.hub_spec.specs.Answers.{column_words, index_name, limit_in}
use Rattle.hub_spec.specs.Giving.{Gives, plain_in}
use Rattle.hub_spec.specs.Ports as ports
use Rattle.hub_spec.specs.Rows as rows
use Rattle.hub_spec.proofs.Giving.{plain_given}
use Rattle.hub_views.specs.declared.views.Views.{Views}
use Rattle.hub_views.proofs.KeptViews.{views_stay}
use Rattle.hub_core.specs.Holding.{HoldsParts}
use Rattle.hub_core.proofs.Live.{all_waiting_is}

pub info_gives : (t : TableData) (version : ℕ) (kept : PortsData) (v : Views) (past : List PastStep) (session : ℕ) (columns : List ColumnWords) (index : Option (List ℕ)) (limit : Option ℕ) (size waits : ℕ)
    → HoldsParts t version kept v past → columns ≡ map column_words t.schema.columns → index ≡ index_name t.schema t.schema.keeping
    → limit ≡ limit_in t.schema.keeping → size ≡ length t.store.pairs → waits ≡ length (waiting_on kept.live)
    → Gives past session ask.info (body.Info columns index limit size waits) (HoldsParts t version kept v)
info_gives t version kept v past session columns index limit size waits h columns_are index_is limit_is size_is waits_are =
    let pairs : length (rows.rows past) ≡ length t.store.pairs = sym (length_permutation (rows.rows past) t.store.pairs h.table.rows.pairs) in
    let batches : length (ports.all_waiting past) ≡ length (waiting_on kept.live) = ap length (all_waiting_is past kept h.ports) in
    let tells : Body = body.Info (map column_words t.schema.columns) (index_name t.schema t.schema.keeping) (limit_in t.schema.keeping) (length (rows.rows past)) (length (ports.all_waiting past)) in
    let plain : plain_in past session ask.info ≡ tells = rw h.table.schema refl in
    let same : tells ≡ body.Info columns index limit size waits = rw (columns_are, index_is, limit_is, size_is, waits_are, pairs, batches) refl in
    record {
      given = plain_given past session ask.info _ refl (plain ∙ same);
      holds = λ n at. record { table = h.table; ports = h.ports; views = views_stay v t past session n at ask.info (body.Info columns index limit size waits) refl h.views };
    }
