use Rattle.std.proofs.Common.{ap, sym, ◌∙◌}
use Rattle.delta_core.specs.Rows.{at_key}
use Rattle.view_columns.specs.Headers.{under}
use Rattle.view_spec.specs.Cells.{header_of}
use Rattle.view_spec.specs.Kept.{kept}
use Rattle.view_spec.specs.Members.{splits}
use Rattle.live_list.specs.Live.{live_key}
use Rattle.flat_live.specs.Rows.{settled, told}
use Rattle.flat_live.proofs.Applies.{Settles, head_now, header_stays, keys_now, kept_now, stands_now}
use Rattle.flat_live.proofs.Options.{ok_both, ok_map, ok_plain}
use Rattle.flat_live.proofs.Steps.{keys_at}
use Rattle.flat_live.proofs.live.FlatLiveKeptView.apply.Goals as goal

pub returns-clause-stands : goal.returns-clause-stands
returns-clause-stands g c = λ s st step.
    let v = c.args.self.now in
    let rows = c.settle_all.new.rows in
    let cs = c.args.changes.now in
    let table = c.args._table.now in
    let h : Settles v rows cs = record { first = c.len-first.ensures.live; last = c.len-last.ensures.live; each = c.in_ok-settle_all.ensures.rows } in
    ok_map c.renew_header.result
    (λ is. stands_now v s rows cs table c.renew_header.new.header st step h (is ∙ ap (λ columns. header_of columns v.plan (splits v.plan (kept v.plan table.store.pairs))) c.as_slice-2.ensures))
    (c.renew_header.ensures.header table.store.pairs (kept_now v s rows cs table st step h) (keys_at s cs table step)
    (λ none. header_stays v s rows cs table c.args.touched.now.header c.settle_all.new.touched.header st step h c.in_ok-settle_all.ensures.splits none
    ∙ ap (λ columns. header_of columns v.plan (splits v.plan (kept v.plan table.store.pairs))) (sym c.as_slice-2.ensures)))

pub returns-clause-keys : goal.returns-clause-keys
returns-clause-keys g c = λ s st step.
    let v = c.args.self.now in
    let rows = c.settle_all.new.rows in
    let cs = c.args.changes.now in
    let table = c.args._table.now in
    let h : Settles v rows cs = record { first = c.len-first.ensures.live; last = c.len-last.ensures.live; each = c.in_ok-settle_all.ensures.rows } in
    ok_plain c.renew_header.result
    (keys_now v s rows cs table c.settle_all.new.touched.keys st step h c.in_ok-settle_all.ensures.ascending
    (λ q. c.in_ok-settle_all.ensures.touched q
    ∙ ap (λ columns. told (under columns v.plan) (under columns v.plan) (at_key live_key q v.rows) (settled v.plan v.rows cs q)) c.as_slice.ensures))

pub returns-clause-header : goal.returns-clause-header
returns-clause-header g c = λ s st step.
    let v = c.args.self.now in
    let rows = c.settle_all.new.rows in
    let cs = c.args.changes.now in
    let table = c.args._table.now in
    let h : Settles v rows cs = record { first = c.len-first.ensures.live; last = c.len-last.ensures.live; each = c.in_ok-settle_all.ensures.rows } in
    ok_both c.renew_header.result
    (λ is told. head_now v s cs table c.renew_header.new.header c.renew_header.new.moved st step (is ∙ ap (λ columns. header_of columns v.plan (splits v.plan (kept v.plan table.store.pairs))) c.as_slice-2.ensures) told)
    (c.renew_header.ensures.header table.store.pairs (kept_now v s rows cs table st step h) (keys_at s cs table step)
    (λ none. header_stays v s rows cs table c.args.touched.now.header c.settle_all.new.touched.header st step h c.in_ok-settle_all.ensures.splits none
    ∙ ap (λ columns. header_of columns v.plan (splits v.plan (kept v.plan table.store.pairs))) (sym c.as_slice-2.ensures)))
    c.renew_header.ensures.moved
