-- The members of a reply that is built.
use Rattle.serde_json.specs.Data.{Members}
use Rattle.serde_json.specs.View.{members_view}
use Rattle.frame_json.specs.declared.build.Builder.{Builder}

abbrev pub members_in : Builder → Members
members_in b = members_view b.members.entries
