use Rattle.std.proofs.Common.{◌≡◌, length, sym, arith}
use Rattle.plan_json.proofs.Pairs.{filter_in-other}
use Rattle.plan_json.proofs.forms.filter_in.Goals as goal

pub returns : goal.returns
returns c =
    sym (filter_in-other c.args.items.now (λ (two : length c.args.items.now ≡ 2). omega arith) (λ (three : length c.args.items.now ≡ 3). omega arith))
