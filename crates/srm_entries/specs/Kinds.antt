-- The kinds of datagrams.
use Rattle.srm_codec.specs.declared.datagram.Datagram.{Datagram}
use Rattle.srm_codec.specs.declared.datagram.Datagram.TheVariants.{Data as AData, Request as ARequest, Repair as ARepair, Session as ASession}
use Rattle.srm_entries.specs.declared.kind.DatagramKind.{DatagramKind}
use Rattle.srm_entries.specs.declared.kind.DatagramKind.TheVariants.{Data, Request, Repair, Session}

abbrev pub kind_of : Datagram → DatagramKind
kind_of (AData drawop) = Data
kind_of (ARequest sender name mask) = Request
kind_of (ARepair sender drawop) = Repair
kind_of (ASession sender sent farewell shown rows echoes) = Session
