use Rattle.std.proofs.Common.{◌≡◌, [], ◌∷◌, ◌++◌, Some, map, sym, ap, ◌∙◌}
use Rattle.std.specs.Map.{keys_of}
use Rattle.cell_core.specs.RawViews.{raw_view}
use Rattle.plan_json.specs.Members.{members_data}
use Rattle.plan_json.specs.Names.{named}
use Rattle.plan_json.specs.Reading.{text_of, texts_in}
use Rattle.plan_json.proofs.Fronts.{name-push, text-push, with_front}
use Rattle.plan_json.proofs.forms.named_texts_in.Goals as goal

pub loop-name-preserved : goal.loop-name-preserved
loop-name-preserved c =
    let l = c.loop-name in
    let found = l.found.items in
    let name = c.in-Some.name.now in
    let value = raw_view c.in-Some.value.now in
    let left = c.next.new.self in
    let text = c.in-Some-2.text in
    let read : text_of value ≡ Some text = sym c.in_ok-text.ensures ∙ c.in-Some-2.is in
    let pushed : c.push.new.self.items ≡ found ++ named name text ∷ [] =
    c.in_ok-push-in-Some-2.ensures.items ∙ ap (λ n. found ++ named n text ∷ []) c.in_ok-copy-in-Some-2.ensures in (
      ap (λ fs. with_front fs (texts_in (members_data left))) pushed
          ∙ text-push found name value (members_data left) text (texts_in (members_data c.args.members.now.entries)) read
          (ap (λ es. with_front found (texts_in (members_data es))) (sym c.in-Some.ensures.steps) ∙ l.invariant.0),
      ap (λ fs. map (λ n. n.name) fs ++ keys_of left) pushed
          ∙ name-push found (named name text) (keys_of left) (keys_of c.args.members.now.entries)
          (ap (λ es. map (λ n. n.name) found ++ keys_of es) (sym c.in-Some.ensures.steps) ∙ l.invariant.1),
    )
