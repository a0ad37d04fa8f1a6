use Rattle.std.proofs.Common.{◌≡◌, ◌+◌, ◌≤◌, suc, [], ◌∷◌, ◌++◌, length, take, drop, refl, sym, ap, ◌∙◌, subst, add-one, drop-cons, arith}
use Rattle.std.proofs.lemmas.List.{take_all, take_more, take-append-drop}
use Rattle.cell_core.specs.RawData.{raw_map, raw_words}
use Rattle.cell_core.proofs.Members.{entries_view-insert_entry, raw_put}
use Rattle.plan_json.specs.Members.{members_data}
use Rattle.plan_json.specs.Names.{NamesAscend}
use Rattle.plan_json.specs.declared.named.NamedText.{NamedText}
use Rattle.plan_json.proofs.Members.{put_last, raw_view-map, text_members}
use Rattle.plan_json.proofs.write.raw_texts.Goals as goal

pub loop-named-preserved : goal.loop-named-preserved
loop-named-preserved c =
    let l = c.loop-named in
    let items = c.as_slice-named-items.result.now in
    let i = l.named-index in
    let n : NamedText = c.named-item.result in
    let taken : take (i + 1) items ≡ take i items ++ n ∷ [] =
    take_more items i n c.loop-named-test.true ∙ ap (λ x. take i items ++ x ∷ []) (sym c.named-item.is) in
    let left : drop i items ≡ n ∷ drop (i + 1) items =
    rw add-one (drop-cons items i n c.loop-named-test.true ∙ ap (λ x. x ∷ drop (suc i) items) (sym c.named-item.is)) in
    let whole : c.args.texts.now ≡ take i items ++ n ∷ drop (i + 1) items =
    sym c.as_slice-named-items.ensures.texts ∙ sym (take-append-drop i items) ∙ ap (λ rest. take i items ++ rest) left in
    let put : members_data c.put.new.members.entries ≡ raw_put n.name (raw_words n.text) (text_members (take i items)) =
    ap members_data c.in_ok-put.ensures ∙ entries_view-insert_entry l.members.entries c.as_str.result.now c.in_ok-text.text
    ∙ rw (c.as_str.ensures, c.in_ok-text.ensures, l.invariant) refl in
    put ∙ put_last (take i items) n (drop (i + 1) items) (subst NamesAscend whole c.as_slice-named-items.ensures.ascend) ∙ ap text_members (sym taken)

pub returns : goal.returns
returns c =
    let items = c.as_slice-named-items.result.now in
    let done : length items ≤ c.loop-named.named-index = omega arith in
    raw_view-map c.from_entries.result
    ∙ ap raw_map (c.from_entries.ensures ∙ c.loop-named.invariant ∙ ap text_members (take_all c.loop-named.named-index items done ∙ c.as_slice-named-items.ensures.texts))
