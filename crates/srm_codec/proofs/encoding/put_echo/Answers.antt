use Rattle.std.proofs.Common.{append_assoc}
use Rattle.srm_codec.specs.Spelling.{echo_bytes}
use Rattle.srm_codec.proofs.encoding.put_echo.Goals as goal

pub returns : goal.returns
unfolding echo_bytes
returns c =
    rw (c.in_ok-extend_from_slice-2.ensures.items, c.to_be_bytes-2.ensures, c.in_ok-extend_from_slice.ensures.items, c.to_be_bytes.ensures, c.in_ok-push.ensures.items, c.number.ensures.value)
    (simp append_assoc)
