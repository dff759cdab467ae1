-- How a board ends and what becomes of a stroke, in examples.
use Rattle.std.specs.Prelude.{◌≡◌, true, false, [], ◌∷◌, map, refl, Some, None}
use Rattle.std.specs.declared.io.ErrorKind.TheVariants as kind
use Rattle.std.specs.declared.net.socket_addr.SocketAddr.{SocketAddr}
use Rattle.srm_names.specs.Names.{first_page}
use Rattle.srm_pages.specs.Ends.{PenView}
use Rattle.srm_script.specs.declared.fault.ScriptFault.TheVariants.{Memory}
use Rattle.srm_control.specs.Ends.{CommandsView, new_commands}
use Rattle.srm_member.specs.declared.fault.MemberFault.TheVariants.{Script, Wire, Turns}
use Rattle.srm_live.specs.LiveMembers.{MemberNode}
use Rattle.srm_board.specs.BoardRuns.{MayHaveControl}
use Rattle.srm_slate.specs.declared.easel.Drawn.TheVariants.{Taken, Full, Over}
use Rattle.srm_board.specs.declared.board_fault.BoardFault.TheVariants.{Member, Serving, WasBefore}
use Rattle.srm_board.specs.BoardStatuses.{fault_of_end, fault_of_serve, out_of_memory, status_of_board}
use Rattle.srm_board.specs.Inks.{InkDraws, InkView, with_stroke}

statuses : map status_of_board (Member Wire ∷ Member Turns ∷ out_of_memory ∷ WasBefore ∷ []) ≡ 3 ∷ 4 ∷ 4 ∷ 5 ∷ []
statuses = refl

who_was_there_before_is_told : fault_of_end None true ≡ Some WasBefore
who_was_there_before_is_told = refl

a_fault_comes_first : fault_of_end (Some Wire) true ≡ Some (Member Wire)
a_fault_comes_first = refl

an_address_in_use : (address : SocketAddr) → fault_of_serve address kind.AddrInUse ≡ Serving address kind.AddrInUse
an_address_in_use address = refl

has_status_3 : (address : SocketAddr) → status_of_board (fault_of_serve address kind.AddrInUse) ≡ 3
has_status_3 address = refl

a_system_without_memory : (address : SocketAddr) → fault_of_serve address kind.OutOfMemory ≡ Member (Script Memory)
a_system_without_memory address = refl

-- a producer that is lent
abbrev ink : PenView → InkView
ink pen = record { pen = Some pen; is_leaving = false }

it_is_taken : (pen : PenView) → InkDraws first_page (120 ∷ []) Taken (ink pen) (ink (with_stroke first_page (120 ∷ []) pen))
it_is_taken pen = (refl, refl)

it_is_too_much : (pen : PenView) → InkDraws first_page (120 ∷ []) Full (ink pen) (ink pen)
it_is_too_much pen = (refl, refl)

who_leaves_draws_no_more : (pen : PenView) → InkDraws first_page [] Over (record (ink pen) { is_leaving = true }) (record (ink pen) { is_leaving = true })
who_leaves_draws_no_more pen = (refl, refl)

nor_does_who_left : InkDraws first_page [] Over (record { pen = None; is_leaving = false }) (record { pen = None; is_leaving = false })
nor_does_who_left = (refl, refl)

it_may_have_a_control : (node : MemberNode) (control : CommandsView) → MayHaveControl node (record node { control = Some (new_commands control.out control.back) })
it_may_have_a_control node control = (Some (new_commands control.out control.back), refl, refl)

it_may_have_none : (node : MemberNode) → MayHaveControl node (record node { control = None })
it_may_have_none node = (None, tt, refl)
