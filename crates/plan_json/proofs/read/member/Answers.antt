use Rattle.std.proofs.Common.{◌≡◌, true, false, cond, Some, sym, ap, ◌∙◌}
use Rattle.std.specs.Str.{bytes_eq}
use Rattle.cell_core.specs.RawData.{get_raw}
use Rattle.cell_core.specs.RawViews.{raw_view}
use Rattle.plan_json.specs.Members.{members_data}
use Rattle.plan_json.proofs.Members.{get_raw-member}
use Rattle.plan_json.proofs.read.member.Goals as goal

pub returns-then-eq : goal.returns-then-eq
returns-then-eq c =
    let name = c.args.name.now in
    let other = c.in-Some.other.now in
    let value = raw_view c.in-Some.value.now in
    let more = get_raw name (members_data c.next.new.self) in
    let same : bytes_eq name other ≡ true = rw c.as_str.ensures at (sym c.eq.ensures ∙ c.if-eq.true) in
    sym (get_raw-member name other value (members_data c.next.new.self) ∙ ap (λ b. cond b (Some value) more) same)
    ∙ ap (λ entries. get_raw name (members_data entries)) (sym c.in-Some.ensures.steps) ∙ c.loop-other.invariant

pub loop-other-preserved : goal.loop-other-preserved
loop-other-preserved c =
    let name = c.args.name.now in
    let other = c.in-Some.other.now in
    let value = raw_view c.in-Some.value.now in
    let more = get_raw name (members_data c.next.new.self) in
    let apart : bytes_eq name other ≡ false = rw c.as_str.ensures at (sym c.eq.ensures ∙ c.if-eq.false) in
    sym (get_raw-member name other value (members_data c.next.new.self) ∙ ap (λ b. cond b (Some value) more) apart)
    ∙ ap (λ entries. get_raw name (members_data entries)) (sym c.in-Some.ensures.steps) ∙ c.loop-other.invariant
