-- The members of a plan, put one after another.
use Rattle.std.proofs.Common.{◌≡◌, [], codes, Option, Some, None, option_map, refl}
use Rattle.cell_core.specs.RawData.{RawData, no_raw_members, raw_member}
use Rattle.cell_core.specs.RawViews.{raw_view}
use Rattle.cell_core.specs.declared.raw.Raw.{Raw}
use Rattle.plan_json.specs.Members.{members_data, with_entry, with_given}
use Rattle.plan_json.specs.Writing.{given_member}

pub all-put : (aggregates : Raw) (columns : Option Raw) (expressions filter : Raw) (filter_op : Option Raw) (group_by sort split_by : Raw)
    → members_data (with_entry (with_entry (with_entry (with_given (with_entry (with_entry (with_given (with_entry []
    (codes "aggregates") aggregates) (codes "columns") columns) (codes "expressions") expressions) (codes "filter") filter) (codes "filter_op") filter_op)
    (codes "group_by") group_by) (codes "sort") sort) (codes "split_by") split_by)
    ≡ raw_member (codes "aggregates") (raw_view aggregates)
    (given_member (codes "columns") (option_map raw_view columns)
    (raw_member (codes "expressions") (raw_view expressions)
    (raw_member (codes "filter") (raw_view filter)
    (given_member (codes "filter_op") (option_map raw_view filter_op)
    (raw_member (codes "group_by") (raw_view group_by)
    (raw_member (codes "sort") (raw_view sort)
    (raw_member (codes "split_by") (raw_view split_by) no_raw_members)))))))
all-put aggregates None expressions filter None group_by sort split_by = refl
all-put aggregates None expressions filter (Some op) group_by sort split_by = refl
all-put aggregates (Some columns) expressions filter None group_by sort split_by = refl
all-put aggregates (Some columns) expressions filter (Some op) group_by sort split_by = refl

-- the same members, each seen another way
pub by_views : (a b : RawData) (c d : Option RawData) (e f g h : RawData) (o p : Option RawData) (i j s t u v : RawData)
    → a ≡ b → c ≡ d → e ≡ f → g ≡ h → o ≡ p → i ≡ j → s ≡ t → u ≡ v
    → raw_member (codes "aggregates") a (given_member (codes "columns") c (raw_member (codes "expressions") e (raw_member (codes "filter") g
    (given_member (codes "filter_op") o (raw_member (codes "group_by") i (raw_member (codes "sort") s (raw_member (codes "split_by") u no_raw_members)))))))
    ≡ raw_member (codes "aggregates") b (given_member (codes "columns") d (raw_member (codes "expressions") f (raw_member (codes "filter") h
    (given_member (codes "filter_op") p (raw_member (codes "group_by") j (raw_member (codes "sort") t (raw_member (codes "split_by") v no_raw_members)))))))
by_views a b c d e f g h o p i j s t u v is_a is_c is_e is_g is_o is_i is_s is_u =
    rw (is_a, is_c, is_e, is_g, is_o, is_i, is_s, is_u) refl
