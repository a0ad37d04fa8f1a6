use Rattle.std.proofs.Common.{ap, ◌∙◌}
use Rattle.std.specs.Prelude.{not}
use Rattle.delta_core.specs.Rows.{at_key}
use Rattle.view_columns.specs.Headers.{under}
use Rattle.view_kept.proofs.StepLaws.{header_between}
use Rattle.view_kept.specs.Steps.{side_of}
use Rattle.view_types.specs.Same.{same_header}
use Rattle.live_list.specs.Live.{live_key}
use Rattle.flat_live.specs.Rows.{told}
use Rattle.flat_live.proofs.Compares.{all_met}
use Rattle.flat_live.proofs.Steps.{keys_between}
use Rattle.flat_live.proofs.live.FlatLiveKeptView.reshape.Goals as goal

pub returns-clause-stands : goal.returns-clause-stands
returns-clause-stands g c = c.in_ok-other.ensures c.args._opening.now

pub returns-clause-keys : goal.returns-clause-keys
returns-clause-keys g c = λ s st of.
    let now = c.in_ok-other.ensures c.args._opening.now in
    keys_between s (side_of c.args.plan c.args._opening.now c.args.table.now) c.args.self.now.rows c.in_ok-other.other.rows c.compare_new.new.touched
    st.fits.flat now.fits.flat of.keys c.len-size.ensures.table.distinct st.kept now.kept c.in_ok-compare_new.ensures.ascending
    (λ q. all_met (under c.args.self.now.columns c.args.self.now.plan) (under c.in_ok-other.other.columns c.in_ok-other.other.plan) c.args.self.now.rows c.in_ok-other.other.rows c.compare_new.new.touched c.in_ok-compare_new.ensures.tells q
    ∙ (λ i. told (under (st.columns i) (st.plan i)) (under (now.columns i) (now.plan i)) (at_key live_key q c.args.self.now.rows) (at_key live_key q c.in_ok-other.other.rows)))

pub returns-clause-header : goal.returns-clause-header
returns-clause-header g c = λ s st of.
    header_between s (side_of c.args.plan c.args._opening.now c.args.table.now) c.args.self.now.header c.in_ok-other.other.header _ st.header (c.in_ok-other.ensures c.args._opening.now).header
    (ap not (c.same_header.ensures ∙ ap (λ h. same_header h c.as_slice-2.result.now) c.as_slice.ensures ∙ ap (λ h. same_header c.args.self.now.header h) c.as_slice-2.ensures))
