-- What crosses to C and from it, as the values that it stands for.
use Rattle.std.specs.Prelude.{ℕ, List, [], length}
use Rattle.srm_names.specs.declared.page.Page.{Page}
use Rattle.srm_names.specs.declared.page_msg.PageMsg.{PageMsg}
use Rattle.srm_names.specs.declared.page_msg.PageMsg.TheVariants.{Open, Draw, Left, Close}
use Rattle.srm_names.specs.FullName.{FullName}
use Rattle.srm_names.specs.Names.{first_page}
use Rattle.srm_entries.specs.Configs.{Config}
use Rattle.srm_entries.specs.declared.settings.Settings.{Settings}
use Rattle.srm_agent.specs.declared.heard.Heard.{Heard}
use Rattle.srm_agent.specs.declared.outstanding.Outstanding.{Outstanding}
use Rattle.srm_seat.specs.declared.seat.TickCounts.{TickCounts}
use Rattle.srm_ffi.specs.declared.shapes.RawConfig.{RawConfig}
use Rattle.srm_ffi.specs.declared.shapes.RawHeard.{RawHeard}
use Rattle.srm_ffi.specs.declared.shapes.RawMessage.{RawMessage}
use Rattle.srm_ffi.specs.declared.shapes.RawName.{RawName}
use Rattle.srm_ffi.specs.declared.shapes.RawOutstanding.{RawOutstanding}
use Rattle.srm_ffi.specs.declared.shapes.RawPage.{RawPage}
use Rattle.srm_ffi.specs.declared.shapes.RawTicked.{RawTicked}
use Rattle.srm_ffi.specs.Codes.{cause_of, decode_fault_of, or_never, state_number}

abbrev pub config_of : RawConfig → Config
config_of raw = record { me = raw.me; members = raw.members; session = raw.session; rate = raw.rate; depth = raw.depth; c1 = raw.c1; c2 = raw.c2; d1 = raw.d1; d2 = raw.d2; least_distance = raw.least_distance }

-- these settings, and the rest as it was
abbrev pub with_settings : Settings → RawConfig → RawConfig
with_settings s raw = record raw { rate = s.rate; depth = s.depth; c1 = s.c1; c2 = s.c2; d1 = s.d1; d2 = s.d2; least_distance = s.least_distance }

-- this config, and the size as it was
abbrev pub with_config : Config → RawConfig → RawConfig
with_config c raw = record { size = raw.size; session = c.session; rate = c.rate; depth = c.depth; me = c.me; members = c.members; c1 = c.c1; c2 = c.c2; d1 = c.d1; d2 = c.d2; least_distance = c.least_distance }

abbrev pub raw_page : Page → RawPage
raw_page page = record { creator = page.creator; number = page.number }

abbrev pub raw_name : FullName → RawName
raw_name name = record { page = raw_page name.stream.page; source = name.stream.source; number = name.number }

abbrev pub raw_heard : Heard → RawHeard
raw_heard heard = record { timers = length heard.arms; cause = cause_of heard.outcome; fault = decode_fault_of heard.outcome }

abbrev pub raw_ticked : TickCounts → RawTicked
raw_ticked counts = record { requests = counts.requests; repairs = counts.repairs; datagrams = counts.datagrams; state = state_number counts.state }

abbrev pub raw_outstanding : Outstanding → RawOutstanding
raw_outstanding o = record {
  next_request_at = or_never o.next_request;
  next_repair_at = or_never o.next_repair;
  waiting_shown = o.waiting_shown;
  waiting_new = o.waiting_new;
  waiting_other = o.waiting_other;
  missing = o.missing;
  state = state_number o.state;
}

-- what the kind of a message does not speak of is 0
abbrev pub raw_message : PageMsg → RawMessage
raw_message (Open page) = record { stamp = 0; length = 0; name = record { page = raw_page page; source = 0; number = 0 }; kind = 1 }
raw_message (Draw drawop) = record { stamp = drawop.stamp; length = length drawop.body; name = raw_name drawop.name; kind = 2 }
raw_message (Left source) = record { stamp = 0; length = 0; name = record { page = raw_page first_page; source = source; number = 0 }; kind = 3 }
raw_message Close = record { stamp = 0; length = 0; name = record { page = raw_page first_page; source = 0; number = 0 }; kind = 4 }

abbrev pub body_of : PageMsg → List ℕ
body_of (Draw drawop) = drawop.body
body_of _ = []
