use Rattle.std.proofs.Common.{◌≡◌, ◌+◌, ◌*◌, length, ◌∙◌, rules}
use Rattle.srm_codec.specs.Spelling.{length_of}
use Rattle.srm_codec.proofs.Lengths.{length-spelling}
use Rattle.srm_codec.proofs.encoding.length.Goals as goal

pub returns-in-Data-clause-counts : goal.returns-in-Data-clause-counts
returns-in-Data-clause-counts c =
    let value : 27 + c.len.result ≡ length_of c.args.datagram.now = search rules in
    λ session. value ∙ length-spelling session c.args.datagram.now

pub returns-in-Request-default-default-eq0-clause-counts : goal.returns-in-Request-default-default-eq0-clause-counts
returns-in-Request-default-default-eq0-clause-counts c =
    let value : 17 ≡ length_of c.args.datagram.now = search rules in
    λ session. value ∙ length-spelling session c.args.datagram.now

pub returns-in-Request-clause-counts : goal.returns-in-Request-clause-counts
returns-in-Request-clause-counts c =
    let value : 21 ≡ length_of c.args.datagram.now = search rules in
    λ session. value ∙ length-spelling session c.args.datagram.now

pub returns-in-Session-clause-counts : goal.returns-in-Session-clause-counts
returns-in-Session-clause-counts c =
    let value : 23 + 8 * length c.as_slice.result.now + 17 * length c.as_slice-in-Session.result.now ≡ length_of c.args.datagram.now = search rules in
    λ session. value ∙ length-spelling session c.args.datagram.now
