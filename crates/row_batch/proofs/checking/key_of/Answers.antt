use Rattle.std.proofs.Common.{◌≡◌, sym}
use Rattle.cell_core.specs.declared.schema.Keeping.TheVariants.{Indexed}
use Rattle.row_batch.proofs.Checked.{sets_key}
use Rattle.row_batch.proofs.checking.key_of.Goals as goal

pub cell_set-requires : goal.cell_set-requires
cell_set-requires c =
    let is : c.args.schema.now.keeping ≡ Indexed c.in-Indexed.column = sym c.in-Indexed.ensures.keeping in
    let good = rw is at c.requires.checked.good in
    let set = sets_key (Indexed c.in-Indexed.column) c.requires.checked.row c.args.schema.now.columns c.args.patch.now c.in-Indexed.ensures.fits c.requires.checked.width good in
    rw c.as_slice.ensures set
